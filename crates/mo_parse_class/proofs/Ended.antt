-- The end of a file stands at the end of it alone.
use Rattle.std.proofs.Common.{◌≡◌, ◌&&◌, ◌+◌, ◌*◌, not, ℕ, zero, suc, Bool, true, false, List, [], ◌∷◌, Option, Some, None, length, refl, sym, subst, if◌then◌else◌}
use Rattle.mo_syntax.specs.declared.place.Place.{Place}
use Rattle.mo_syntax.specs.declared.class.FileTree.{FileTree}
use Rattle.mo_syntax.specs.declared.class.ClassDefOf.{ClassDefOf}
use Rattle.mo_syntax.specs.declared.class.Body.{Body}
use Rattle.mo_grammar.specs.declared.fault.Fault.TheVariants.{Misplaced, Misnamed}
use Rattle.mo_grammar.specs.Codes.{end_of_file}
use Rattle.mo_grammar.specs.Lexeme.{Lexeme, code_of}
use Rattle.mo_grammar.specs.Grammar.{Limits, EndName, end_name_in, suits, renamed, left_inside, Grammar, empty, token, seq, either, either2, many, made, placed, nested, end_name, under, unless, symbol, has, identifiers, first_passes, Productions}
use Rattle.mo_grammar.specs.Reading.{Outcome, read, stuck, unfinished, ◌>>=◌, Reader, Tables, first_codes, next_in, next_two, reads_token, reads_end, each_from, reads_inside, place_of_first, reads_by, reads_within, reads_as}
use Rattle.mo_grammar.specs.ClassTrees.{file_tree}
use Rattle.mo_grammar.specs.Symbols.{Symbol, Form, Names, ClassDefinitions, Files, Expressions, Simples, Logicals, Conjunctions, Negations, Relations, Sums, Products, Powers, Primaries, CallArguments, Arguments, MoreArguments, OneArgument, Indices, References, Subscripts, TypeSpecs, ClassMods, ModArguments, EquationItems, ForEquations, WhenEquations, ElseEquations, IfEquations, StatementItems, ImportNames, ElementItems, Compositions, Sections, SectionEquations}
use Rattle.mo_grammar.specs.Productions.{rule}
use Rattle.mo_grammar.specs.Tables.{tables}
use Rattle.mo_grammar.specs.Language.{reads, reads_form}
use Rattle.mo_grammar.proofs.Codes.{both, never}
use Rattle.mo_grammar.proofs.Readers.{files_are}
use Rattle.mo_parse_class.specs.steps.Parts.{definition}
use Rattle.mo_class_heads.specs.Within.{within_clause}
use Rattle.mo_class_heads.proofs.ImportNames.{one_code}

-- what holds of the tokens behind a value that is read, and of those where reading is stuck
abbrev pub Leaves : (List Lexeme → Type 0) → (List Lexeme → Type 0) → {A : Type 0} → Outcome A → Type 0
Leaves Q P (read a rest) = Q rest
Leaves Q P (stuck fault rest) = P rest
Leaves Q P unfinished = Unit {0}

leaves_bind : {A B : Type 0} (Q R P : List Lexeme → Type 0) (o : Outcome A) (f : A × List Lexeme → Outcome B) → Leaves R P o → ((a : A) (rest : List Lexeme) → R rest → Leaves Q P (f (a, rest))) → Leaves Q P (o >>= f)
leaves_bind Q R P (read a rest) f k h = h a rest k
leaves_bind Q R P (stuck fault rest) f k h = k
leaves_bind Q R P unfinished f k h = tt

leaves_if : {A : Type 0} (Q P : List Lexeme → Type 0) (b : Bool) (o p : Outcome A) → Leaves Q P o → Leaves Q P p → Leaves Q P (if b then o else p)
leaves_if Q P true o p h k = h
leaves_if Q P false o p h k = k

-- a property that passes to what stands behind a token which is no end of a file
abbrev pub Passes : (List Lexeme → Type 0) → Type 0
Passes P = (t : Lexeme) (w : List Lexeme) → (code_of t ≡ end_of_file → ⊥) → P (t ∷ w) → P w

leaves_each : {A : Type 0} (P : List Lexeme → Type 0) (codes : List ℕ) (part : List Lexeme → Outcome A) → ((w : List Lexeme) → P w → Leaves P P (part w)) → (n : ℕ) (w : List Lexeme) → P w → Leaves P P (each_from codes part n w)
leaves_each {A = A} P codes part h zero w p = leaves_if {A = List A} P P (next_in codes w) unfinished (read [] w) tt p
leaves_each {A = A} P codes part h (suc n) w p =
    leaves_if {A = List A} P P (next_in codes w) (part w >>= λ x. each_from codes part n x.1 >>= λ y. read (x.0 ∷ y.0) y.1) (read [] w)
    (leaves_bind {B = List A} P P P (part w) (λ x. each_from codes part n x.1 >>= λ y. read (x.0 ∷ y.0) y.1) (h w p)
    (λ a rest q. leaves_bind {B = List A} P P P (each_from codes part n rest) (λ y. read (a ∷ y.0) y.1) (leaves_each P codes part h n rest q) (λ b u r. r)))
    p

leaves_token : (P : List Lexeme → Type 0) → Passes P → (codes : List ℕ) → has codes end_of_file ≡ false → (w : List Lexeme) → P w → Leaves P P (reads_token codes w)
leaves_token P pass codes e [] p = p
leaves_token P pass codes e (t ∷ w) p = go (has codes (code_of t)) refl
  where
    go : (b : Bool) → has codes (code_of t) ≡ b → Leaves P P (if b then read t w else stuck Misplaced (t ∷ w))
    go true s = pass t w (λ is. never (has codes end_of_file) (subst (λ c. has codes c ≡ true) is s) e) p
    go false s = p

leaves_end_name : (P : List Lexeme → Type 0) → Passes P → (name : EndName) (w : List Lexeme) → P w → Leaves P P (reads_end name w)
leaves_end_name P pass name [] p = p
leaves_end_name P pass name (t ∷ w) p = go (has identifiers (code_of t)) (suits name t) refl
  where
    go : (b d : Bool) → has identifiers (code_of t) ≡ b → Leaves P P (if b then (if d then read t w else stuck Misnamed (t ∷ w)) else stuck Misplaced (t ∷ w))
    go true true s = pass t w (λ is. never (has identifiers end_of_file) (subst (λ c. has identifiers c ≡ true) is s) refl) p
    go true false s = p
    go false d s = p

leaves_inside : {A : Type 0} (P : List Lexeme → Type 0) (opens : Bool) (left : Option Limits) (part : Limits → Outcome A) (w : List Lexeme) → P w → ((l : Limits) → Leaves P P (part l)) → Leaves P P (reads_inside opens left part w)
leaves_inside P opens (Some l) part w p h = h l
leaves_inside P opens None part w p h = p

-- no token of it is the end of a file
abbrev pub is_endless : {S : Type 0} {V : S → Type 0} {A : Type 0} → (S → Bool) → Grammar S V A → Bool
is_endless ok (empty a) = true
is_endless ok (token codes) = not (has codes end_of_file)
is_endless ok (seq g h) = is_endless ok g && is_endless ok h
is_endless ok (either g h) = is_endless ok g && is_endless ok h
is_endless ok (either2 c ds g h) = is_endless ok g && is_endless ok h
is_endless ok (many g) = is_endless ok g
is_endless ok (made f g) = is_endless ok g
is_endless ok (placed g) = is_endless ok g
is_endless ok (nested o g) = is_endless ok g
is_endless ok end_name = true
is_endless ok (under called g h) = is_endless ok g && is_endless ok h
is_endless ok (unless test g h) = is_endless ok g && is_endless ok h
is_endless ok (symbol x) = ok x

not_false : (b : Bool) → not b ≡ true → b ≡ false
not_false true e = cc
not_false false e = refl

module _ {S : Type 0} {V : S → Type 0} where
  leaves_by : {A : Type 0} (P : List Lexeme → Type 0) → Passes P → (starts : S → List ℕ) (of : Reader S V) (ok : S → Bool) → ((x : S) → ok x ≡ true → (l : Limits) (w : List Lexeme) → P w → Leaves P P (of x l w)) → (g : Grammar S V A) → is_endless ok g ≡ true → (l : Limits) (w : List Lexeme) → P w → Leaves P P (reads_by starts of g l w)
  leaves_by P pass starts of ok k (empty a) e l w p = p
  leaves_by P pass starts of ok k (token codes) e l w p = leaves_token P pass codes (not_false (has codes end_of_file) e) w p
  leaves_by P pass starts of ok k (seq {A = A} {B = B} g h) e l w p =
      let q = both (is_endless ok g) (is_endless ok h) e in
      leaves_bind {B = A × B} P P P (reads_by starts of g l w) (λ x. reads_by starts of h l x.1 >>= λ y. read (x.0, y.0) y.1) (leaves_by P pass starts of ok k g q.0 l w p)
      (λ a rest r. leaves_bind {B = A × B} P P P (reads_by starts of h l rest) (λ y. read (a, y.0) y.1) (leaves_by P pass starts of ok k h q.1 l rest r) (λ b u s. s))
  leaves_by P pass starts of ok k (either g h) e l w p =
      let q = both (is_endless ok g) (is_endless ok h) e in
      leaves_if P P (next_in (first_codes starts g) w) (reads_by starts of g l w) (reads_by starts of h l w) (leaves_by P pass starts of ok k g q.0 l w p) (leaves_by P pass starts of ok k h q.1 l w p)
  leaves_by P pass starts of ok k (either2 c ds g h) e l w p =
      let q = both (is_endless ok g) (is_endless ok h) e in
      leaves_if P P (next_two c ds w) (reads_by starts of g l w) (reads_by starts of h l w) (leaves_by P pass starts of ok k g q.0 l w p) (leaves_by P pass starts of ok k h q.1 l w p)
  leaves_by P pass starts of ok k (many g) e l w p = leaves_each P (first_codes starts g) (reads_by starts of g l) (λ v q. leaves_by P pass starts of ok k g e l v q) (length w) w p
  leaves_by P pass starts of ok k (made {B = B} f g) e l w p = leaves_bind {B = B} P P P (reads_by starts of g l w) (λ x. read (f x.0) x.1) (leaves_by P pass starts of ok k g e l w p) (λ a rest r. r)
  leaves_by P pass starts of ok k (placed {A = A} g) e l w p = leaves_bind {B = Place × A} P P P (reads_by starts of g l w) (λ x. read (place_of_first w, x.0) x.1) (leaves_by P pass starts of ok k g e l w p) (λ a rest r. r)
  leaves_by P pass starts of ok k (nested o g) e l w p = leaves_inside P (next_in (first_codes starts g) w) (left_inside o l) (λ inner. reads_by starts of g inner w) w p (λ m. leaves_by P pass starts of ok k g e m w p)
  leaves_by P pass starts of ok k end_name e l w p = leaves_end_name P pass (end_name_in l) w p
  leaves_by P pass starts of ok k (under {A = A} {B = B} called g h) e l w p =
      let q = both (is_endless ok g) (is_endless ok h) e in
      leaves_bind {B = A × B} P P P (reads_by starts of g l w) (λ x. reads_by starts of h (renamed (called x.0) l) x.1 >>= λ y. read (x.0, y.0) y.1) (leaves_by P pass starts of ok k g q.0 l w p)
      (λ a rest r. leaves_bind {B = A × B} P P P (reads_by starts of h (renamed (called a) l) rest) (λ y. read (a, y.0) y.1) (leaves_by P pass starts of ok k h q.1 (renamed (called a) l) rest r) (λ b u s. s))
  leaves_by P pass starts of ok k (unless {A = A} {B = B} test g h) e l w p =
      let q = both (is_endless ok g) (is_endless ok h) e in
      leaves_bind {B = A × Option B} P P P (reads_by starts of g l w) (λ x. if next_in (first_codes starts h) x.1 then (reads_by starts of h l x.1 >>= λ y. read (x.0, Some y.0) y.1) else (if first_passes test w x.0 then read (x.0, None) x.1 else stuck Misplaced x.1)) (leaves_by P pass starts of ok k g q.0 l w p)
      (λ a rest r. leaves_if {A = A × Option B} P P (next_in (first_codes starts h) rest) (reads_by starts of h l rest >>= λ y. read (a, Some y.0) y.1) (if first_passes test w a then read (a, None) rest else stuck Misplaced rest)
      (leaves_bind {B = A × Option B} P P P (reads_by starts of h l rest) (λ y. read (a, Some y.0) y.1) (leaves_by P pass starts of ok k h q.1 l rest r) (λ b u s. s))
      (leaves_if {A = A × Option B} P P (first_passes test w a) (read (a, None) rest) (stuck Misplaced rest) r r))
  leaves_by P pass starts of ok k (symbol x) e l w p = k x e l w p

  leaves_within : (P : List Lexeme → Type 0) → Passes P → (starts : S → List ℕ) (rule : Productions S V) (ok : S → Bool) → ((x : S) → ok x ≡ true → is_endless ok (rule x) ≡ true) → (n : ℕ) (x : S) → ok x ≡ true → (l : Limits) (w : List Lexeme) → P w → Leaves P P (reads_within starts rule n x l w)
  leaves_within P pass starts rule ok closed zero x e l w p = tt
  leaves_within P pass starts rule ok closed (suc n) x e l w p = leaves_by P pass starts (reads_within starts rule n) ok (leaves_within P pass starts rule ok closed n) (rule x) (closed x e) l w p

abbrev in_files : Symbol → Bool
in_files Files = false
in_files _ = true

in_files_closed : (x : Symbol) → in_files x ≡ true → is_endless in_files (rule x) ≡ true
unfolding rule
in_files_closed Expressions e = refl
in_files_closed Simples e = refl
in_files_closed Logicals e = refl
in_files_closed Conjunctions e = refl
in_files_closed Negations e = refl
in_files_closed Relations e = refl
in_files_closed Sums e = refl
in_files_closed Products e = refl
in_files_closed Powers e = refl
in_files_closed Primaries e = refl
in_files_closed CallArguments e = refl
in_files_closed Arguments e = refl
in_files_closed MoreArguments e = refl
in_files_closed OneArgument e = refl
in_files_closed Indices e = refl
in_files_closed References e = refl
in_files_closed Subscripts e = refl
in_files_closed TypeSpecs e = refl
in_files_closed Names e = refl
in_files_closed ClassMods e = refl
in_files_closed ModArguments e = refl
in_files_closed EquationItems e = refl
in_files_closed ForEquations e = refl
in_files_closed WhenEquations e = refl
in_files_closed ElseEquations e = refl
in_files_closed IfEquations e = refl
in_files_closed StatementItems e = refl
in_files_closed ImportNames e = refl
in_files_closed (ElementItems hidden) e = refl
in_files_closed Compositions e = refl
in_files_closed Sections e = refl
in_files_closed SectionEquations e = refl
in_files_closed ClassDefinitions e = refl
in_files_closed Files e = cc

leaves_form : {A : Type 0} (P : List Lexeme → Type 0) → Passes P → (g : Form A) → is_endless in_files g ≡ true → (l : Limits) (w : List Lexeme) → P w → Leaves P P (reads_form g l w)
unfolding reads reads_as
leaves_form P pass g e l w p = leaves_by P pass (Tables.starts tables) reads in_files (λ x f m v q. leaves_within P pass (Tables.starts tables) rule in_files in_files_closed (length v * Tables.ranks tables + Tables.rank tables x + 1) x f m v q) g e l w p

-- Of a file: what holds behind its end, and where reading it is stuck.
pub file_leaves : (P Q : List Lexeme → Type 0) → Passes P → ((t : Lexeme) (w : List Lexeme) → code_of t ≡ end_of_file → P (t ∷ w) → Q w) → (l : Limits) (w : List Lexeme) → P w → Leaves Q P (reads Files l w)
file_leaves P Q pass last l w p = subst (Leaves Q P) (sym (files_are l w))
    (leaves_bind {B = FileTree} Q Q P (reads_form body l w) (λ x. read (file_tree x.0) x.1)
    (leaves_bind {B = Within × Rest} Q P P (reads_form within_clause l w) (λ x. reads_form behind_within l x.1 >>= λ y. read (x.0, y.0) y.1) (leaves_form P pass within_clause refl l w p)
    (λ a rest q. leaves_bind {B = Within × Rest} Q Q P (reads_form behind_within l rest) (λ y. read (a, y.0) y.1)
    (leaves_bind {B = Rest} Q P P (reads_form (many definition) l rest) (λ x. reads_token (end_of_file ∷ []) x.1 >>= λ y. read (x.0, y.0) y.1) (leaves_form P pass (many definition) refl l rest q)
    (λ b u r. leaves_bind {B = Rest} Q Q P (reads_token (end_of_file ∷ []) u) (λ y. read (b, y.0) y.1) (at_end u r) (λ c v s. s)))
    (λ b u r. r)))
    (λ a rest r. r))
  where
    Within : Type 0
    Within = Option (Option (Place × List Lexeme))

    Rest : Type 0
    Rest = List (ClassDefOf Body) × Lexeme

    behind_within : Form Rest
    behind_within = seq (many definition) (token (end_of_file ∷ []))

    body : Form (Within × Rest)
    body = seq within_clause behind_within

    at_end : (u : List Lexeme) → P u → Leaves Q P (reads_token (end_of_file ∷ []) u)
    at_end [] q = q
    at_end (t ∷ u) q = go (has (end_of_file ∷ []) (code_of t)) refl
      where
        go : (b : Bool) → has (end_of_file ∷ []) (code_of t) ≡ b → Leaves Q P (if b then read t u else stuck Misplaced (t ∷ u))
        go true s = last t u (one_code end_of_file (code_of t) s) q
        go false s = q
