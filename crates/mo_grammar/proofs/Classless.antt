-- What holds no class is never stuck at a name behind `end`, and where it is stuck at nesting, a token stands there. It is read
-- in the same way whatever the limit of classes and the name behind `end` are.
use Rattle.std.proofs.Common.{◌≡◌, ◌+◌, ◌*◌, ℕ, zero, suc, Bool, true, false, List, [], ◌∷◌, Option, Some, None, length, if◌then◌else◌, refl, ap, ◌∙◌}
use Rattle.mo_grammar.specs.declared.fault.Fault.TheVariants.{Misplaced, Misnamed, TooDeep}
use Rattle.mo_grammar.specs.Lexeme.{Lexeme, code_of}
use Rattle.mo_grammar.specs.Grammar.{EndName, Limits, at_most, a_construct, a_class, left_inside, empty, token, seq, either, either2, many, made, placed, nested, end_name, under, unless, symbol, has, first_passes}
use Rattle.mo_grammar.specs.Reading.{Outcome, read, stuck, unfinished, ◌>>=◌, Reader, first_codes, next_in, next_two, reads_token, each_from, reads_inside, reads_by, reads_within, reads_as}
use Rattle.mo_grammar.specs.Symbols.{Symbol, ValueOf, Form, Expressions, Simples, Logicals, Conjunctions, Negations, Relations, Sums, Products, Powers, Primaries, CallArguments, Arguments, MoreArguments, OneArgument, Indices, References, Subscripts, TypeSpecs, Names, ClassMods, ModArguments, EquationItems, ForEquations, WhenEquations, ElseEquations, IfEquations, StatementItems, ImportNames, ElementItems, Compositions, Sections, SectionEquations, ClassDefinitions, Files}
use Rattle.mo_grammar.specs.Productions.{rule}
use Rattle.mo_grammar.specs.Tables.{tables}
use Rattle.mo_grammar.specs.Classless.{is_classless, is_classless_form}
use Rattle.mo_grammar.specs.Language.{reads, reads_form}
use Rattle.mo_grammar.proofs.Codes.{both}

leads_on : (x : Symbol) → is_classless x ≡ true → is_classless_form (rule x) ≡ true
unfolding rule
leads_on Expressions e = refl
leads_on Simples e = refl
leads_on Logicals e = refl
leads_on Conjunctions e = refl
leads_on Negations e = refl
leads_on Relations e = refl
leads_on Sums e = refl
leads_on Products e = refl
leads_on Powers e = refl
leads_on Primaries e = refl
leads_on CallArguments e = refl
leads_on Arguments e = refl
leads_on MoreArguments e = refl
leads_on OneArgument e = refl
leads_on Indices e = refl
leads_on References e = refl
leads_on Subscripts e = refl
leads_on TypeSpecs e = refl
leads_on Names e = refl
leads_on ClassMods e = refl
leads_on ModArguments e = refl
leads_on EquationItems e = refl
leads_on ForEquations e = refl
leads_on WhenEquations e = refl
leads_on ElseEquations e = refl
leads_on IfEquations e = refl
leads_on StatementItems e = refl
leads_on ImportNames e = refl
leads_on (ElementItems hidden) e = cc
leads_on Compositions e = cc
leads_on Sections e = cc
leads_on SectionEquations e = cc
leads_on ClassDefinitions e = cc
leads_on Files e = cc

-- ---- the faults of what holds no class

abbrev pub Sane : {A : Type 0} → Outcome A → Type 0
Sane (read a rest) = Unit {0}
Sane (stuck Misplaced rest) = Unit {0}
Sane (stuck Misnamed rest) = ⊥
Sane (stuck TooDeep rest) = rest ≡ [] → ⊥
Sane unfinished = Unit {0}

sane_bind : {A B : Type 0} (o : Outcome A) (f : A × List Lexeme → Outcome B) → Sane o → ((a : A) (rest : List Lexeme) → Sane (f (a, rest))) → Sane (o >>= f)
sane_bind (read a rest) f s h = h a rest
sane_bind (stuck Misplaced rest) f s h = tt
sane_bind (stuck Misnamed rest) f s h = s
sane_bind (stuck TooDeep rest) f s h = s
sane_bind unfinished f s h = tt

sane_if : {A : Type 0} (b : Bool) (o p : Outcome A) → Sane o → Sane p → Sane (if b then o else p)
sane_if true o p s t = s
sane_if false o p s t = t

sane_token : (codes : List ℕ) (w : List Lexeme) → Sane (reads_token codes w)
sane_token codes [] = tt
sane_token codes (t ∷ w) = sane_if (has codes (code_of t)) (read t w) (stuck Misplaced (t ∷ w)) tt tt

sane_each : {A : Type 0} (codes : List ℕ) (part : List Lexeme → Outcome A) → ((w : List Lexeme) → Sane (part w)) → (n : ℕ) (w : List Lexeme) → Sane (each_from codes part n w)
sane_each codes part h zero w = sane_if (next_in codes w) unfinished (read [] w) tt tt
sane_each codes part h (suc n) w = sane_if (next_in codes w) _ (read [] w) (sane_bind (part w) _ (h w) (λ a rest. sane_bind (each_from codes part n rest) _ (sane_each codes part h n rest) (λ list more. tt))) tt

sane_inside : {A : Type 0} (codes : List ℕ) (o : Option Limits) (part : Limits → Outcome A) (w : List Lexeme) → ((inner : Limits) → Sane (part inner)) → Sane (reads_inside (next_in codes w) o part w)
sane_inside codes (Some inner) part w h = h inner
sane_inside codes None part [] h = tt
sane_inside {A = A} codes None part (t ∷ w) h = by (has codes (code_of t))
  where
    by : (opens : Bool) → Sane {A = A} (stuck (if opens then TooDeep else Misplaced) (t ∷ w))
    by true = λ e. cc
    by false = tt

sane_by : (of : Reader Symbol ValueOf) → ((x : Symbol) → is_classless x ≡ true → (l : Limits) (w : List Lexeme) → Sane (of x l w)) → {A : Type 0} (g : Form A) → is_classless_form g ≡ true → (l : Limits) (w : List Lexeme) → Sane (reads_by tables.starts of g l w)
sane_by of h (empty a) e l w = tt
sane_by of h (token codes) e l w = sane_token codes w
sane_by of h (seq g k) e l w =
    let p = both (is_classless_form g) (is_classless_form k) e in
    sane_bind (reads_by tables.starts of g l w) _ (sane_by of h g p.0 l w) (λ a rest. sane_bind (reads_by tables.starts of k l rest) _ (sane_by of h k p.1 l rest) (λ b more. tt))
sane_by of h (either g k) e l w =
    let p = both (is_classless_form g) (is_classless_form k) e in
    sane_if (next_in (first_codes tables.starts g) w) _ _ (sane_by of h g p.0 l w) (sane_by of h k p.1 l w)
sane_by of h (either2 c ds g k) e l w =
    let p = both (is_classless_form g) (is_classless_form k) e in
    sane_if (next_two c ds w) _ _ (sane_by of h g p.0 l w) (sane_by of h k p.1 l w)
sane_by of h (many g) e l w = sane_each (first_codes tables.starts g) (reads_by tables.starts of g l) (λ v. sane_by of h g e l v) (length w) w
sane_by of h (made f g) e l w = sane_bind (reads_by tables.starts of g l w) _ (sane_by of h g e l w) (λ a rest. tt)
sane_by of h (placed g) e l w = sane_bind (reads_by tables.starts of g l w) _ (sane_by of h g e l w) (λ a rest. tt)
sane_by of h (nested a_construct g) e l w = sane_inside (first_codes tables.starts g) (left_inside a_construct l) (λ inner. reads_by tables.starts of g inner w) w (λ inner. sane_by of h g e inner w)
sane_by of h (nested a_class g) e l w = cc
sane_by of h end_name e l w = cc
sane_by of h (under called g k) e l w = cc
sane_by of h (unless test g k) e l w =
    let p = both (is_classless_form g) (is_classless_form k) e in
    sane_bind (reads_by tables.starts of g l w) _ (sane_by of h g p.0 l w) (λ a rest. sane_if (next_in (first_codes tables.starts k) rest) _ _
    (sane_bind (reads_by tables.starts of k l rest) _ (sane_by of h k p.1 l rest) (λ b more. tt))
    (sane_if (first_passes test w a) (read (a, None) rest) (stuck Misplaced rest) tt tt))
sane_by of h (symbol x) e l w = h x e l w

sane_within : (n : ℕ) (x : Symbol) → is_classless x ≡ true → (l : Limits) (w : List Lexeme) → Sane (reads_within tables.starts rule n x l w)
sane_within zero x e l w = tt
sane_within (suc n) x e l w = sane_by (reads_within tables.starts rule n) (λ y d m v. sane_within n y d m v) (rule x) (leads_on x e) l w

pub sane : (x : Symbol) → is_classless x ≡ true → (l : Limits) (w : List Lexeme) → Sane (reads x l w)
unfolding reads reads_as
sane x e l w = sane_within (length w * tables.ranks + tables.rank x + 1) x e l w

-- ---- the limits on which it does not depend

bind_alike : {A B : Type 0} (o p : Outcome A) (f g : A × List Lexeme → Outcome B) → o ≡ p → ((a : A) (rest : List Lexeme) → f (a, rest) ≡ g (a, rest)) → (o >>= f) ≡ (p >>= g)
bind_alike (read a rest) p f g e h = h a rest ∙ ap (λ q. q >>= g) e
bind_alike (stuck fault rest) p f g e h = ap (λ q. q >>= g) e
bind_alike unfinished p f g e h = ap (λ q. q >>= g) e

if_alike : {A : Type 0} (b : Bool) (o p o' p' : Outcome A) → o ≡ o' → p ≡ p' → (if b then o else p) ≡ (if b then o' else p')
if_alike true o p o' p' e d = e
if_alike false o p o' p' e d = d

pub each_alike : {A : Type 0} (codes : List ℕ) (part part' : List Lexeme → Outcome A) → ((w : List Lexeme) → part w ≡ part' w) → (n : ℕ) (w : List Lexeme) → each_from codes part n w ≡ each_from codes part' n w
each_alike codes part part' h zero w = refl
each_alike codes part part' h (suc n) w =
    if_alike (next_in codes w) _ (read [] w) _ (read [] w)
    (bind_alike (part w) (part' w) _ _ (h w) (λ a rest. bind_alike (each_from codes part n rest) (each_from codes part' n rest) _ _ (each_alike codes part part' h n rest) (λ list more. refl))) refl

alike_by : (of : Reader Symbol ValueOf) → ((x : Symbol) → is_classless x ≡ true → (n j k : ℕ) (a b : EndName) (w : List Lexeme) → of x (at_most n j a) w ≡ of x (at_most n k b) w) → {A : Type 0} (g : Form A) → is_classless_form g ≡ true → (n j k : ℕ) (a b : EndName) (w : List Lexeme) → reads_by tables.starts of g (at_most n j a) w ≡ reads_by tables.starts of g (at_most n k b) w
alike_by of h (empty v) e n j k a b w = refl
alike_by of h (token codes) e n j k a b w = refl
alike_by of h (seq g i) e n j k a b w =
    let p = both (is_classless_form g) (is_classless_form i) e in
    bind_alike (reads_by tables.starts of g (at_most n j a) w) (reads_by tables.starts of g (at_most n k b) w) _ _ (alike_by of h g p.0 n j k a b w)
    (λ v rest. bind_alike (reads_by tables.starts of i (at_most n j a) rest) (reads_by tables.starts of i (at_most n k b) rest) _ _ (alike_by of h i p.1 n j k a b rest) (λ u more. refl))
alike_by of h (either g i) e n j k a b w =
    let p = both (is_classless_form g) (is_classless_form i) e in
    if_alike (next_in (first_codes tables.starts g) w) _ _ _ _ (alike_by of h g p.0 n j k a b w) (alike_by of h i p.1 n j k a b w)
alike_by of h (either2 c ds g i) e n j k a b w =
    let p = both (is_classless_form g) (is_classless_form i) e in
    if_alike (next_two c ds w) _ _ _ _ (alike_by of h g p.0 n j k a b w) (alike_by of h i p.1 n j k a b w)
alike_by of h (many g) e n j k a b w = each_alike (first_codes tables.starts g) (reads_by tables.starts of g (at_most n j a)) (reads_by tables.starts of g (at_most n k b)) (λ v. alike_by of h g e n j k a b v) (length w) w
alike_by of h (made f g) e n j k a b w = bind_alike (reads_by tables.starts of g (at_most n j a) w) (reads_by tables.starts of g (at_most n k b) w) _ _ (alike_by of h g e n j k a b w) (λ v rest. refl)
alike_by of h (placed g) e n j k a b w = bind_alike (reads_by tables.starts of g (at_most n j a) w) (reads_by tables.starts of g (at_most n k b) w) _ _ (alike_by of h g e n j k a b w) (λ v rest. refl)
alike_by of h (nested a_construct g) e zero j k a b w = refl
alike_by of h (nested a_construct g) e (suc n) j k a b w = alike_by of h g e n j k a b w
alike_by of h (nested a_class g) e n j k a b w = cc
alike_by of h end_name e n j k a b w = cc
alike_by of h (under called g i) e n j k a b w = cc
alike_by of h (unless test g i) e n j k a b w =
    let p = both (is_classless_form g) (is_classless_form i) e in
    bind_alike (reads_by tables.starts of g (at_most n j a) w) (reads_by tables.starts of g (at_most n k b) w) _ _ (alike_by of h g p.0 n j k a b w)
    (λ v rest. if_alike (next_in (first_codes tables.starts i) rest) _ _ _ _ (bind_alike (reads_by tables.starts of i (at_most n j a) rest) (reads_by tables.starts of i (at_most n k b) rest) _ _ (alike_by of h i p.1 n j k a b rest) (λ u more. refl)) refl)
alike_by of h (symbol x) e n j k a b w = h x e n j k a b w

alike_within : (m : ℕ) (x : Symbol) → is_classless x ≡ true → (n j k : ℕ) (a b : EndName) (w : List Lexeme) → reads_within tables.starts rule m x (at_most n j a) w ≡ reads_within tables.starts rule m x (at_most n k b) w
alike_within zero x e n j k a b w = refl
alike_within (suc m) x e n j k a b w = alike_by (reads_within tables.starts rule m) (λ y d i p q c f v. alike_within m y d i p q c f v) (rule x) (leads_on x e) n j k a b w

-- Only how many constructs may still be opened matters to it.
pub alike : (x : Symbol) → is_classless x ≡ true → (n j k : ℕ) (a b : EndName) (w : List Lexeme) → reads x (at_most n j a) w ≡ reads x (at_most n k b) w
unfolding reads reads_as
alike x e n j k a b w = alike_within (length w * tables.ranks + tables.rank x + 1) x e n j k a b w

-- So it is with a part of the grammar that leads to such productions alone.
pub alike_form : {A : Type 0} (g : Form A) → is_classless_form g ≡ true → (n j k : ℕ) (a b : EndName) (w : List Lexeme) → reads_form g (at_most n j a) w ≡ reads_form g (at_most n k b) w
alike_form g e n j k a b w = alike_by reads alike g e n j k a b w
