-- What is made of each of a list of values.
use Rattle.std.proofs.Common.{◌≡◌, ℕ, zero, suc, Bool, true, false, List, [], ◌∷◌, ◌++◌, Option, append-nil, map, length, refl, ap, sym, ◌∙◌, if◌then◌else◌}
use Rattle.mo_syntax.specs.declared.expr.Expr.{Expr}
use Rattle.mo_syntax.specs.declared.class.What.{What}
use Rattle.mo_grammar.specs.declared.fault.Fault.{Fault}
use Rattle.mo_grammar.specs.Lexeme.{Lexeme}
use Rattle.mo_grammar.specs.Grammar.{Limits, many, made}
use Rattle.mo_grammar.specs.Forms.{behind, separated, second_of, joined}
use Rattle.mo_grammar.specs.Reading.{Outcome, read, stuck, unfinished, ◌>>=◌, next_in, each_from, reads_token}
use Rattle.mo_grammar.specs.ClassTrees.{Declared, whats_of_components}
use Rattle.mo_grammar.specs.Classes.{component, components}
use Rattle.mo_grammar.specs.Codes.{comma}
use Rattle.mo_grammar.specs.Symbols.{Form}
use Rattle.mo_grammar.specs.Language.{reads_form}
use Rattle.mo_grammar.proofs.Loops.{with_front, many_done, many_stuck}
use Rattle.mo_parse_class.specs.steps.Parts.{Head, head, what_of}
use Rattle.mo_grammar.proofs.Classless.{each_alike}

abbrev mapped : {A B : Type 0} → (A → B) → Outcome A → Outcome B
mapped f o = o >>= λ x. read (f x.0) x.1

joined_mapped : {A B : Type 0} (f : A → B) (a : A) (o : Outcome (List A)) → (mapped (map f) o >>= λ y. read (f a ∷ y.0) y.1) ≡ mapped (map f) (o >>= λ y. read (a ∷ y.0) y.1)
joined_mapped f a (read list rest) = refl
joined_mapped f a (stuck fault rest) = refl
joined_mapped f a unfinished = refl

step_mapped : {A B : Type 0} (f : A → B) (o : Outcome A) (h : List Lexeme → Outcome (List B)) (k : List Lexeme → Outcome (List A)) → ((w : List Lexeme) → h w ≡ mapped (map f) (k w)) → (mapped f o >>= λ x. h x.1 >>= λ y. read (x.0 ∷ y.0) y.1) ≡ mapped (map f) (o >>= λ x. k x.1 >>= λ y. read (x.0 ∷ y.0) y.1)
step_mapped {B = B} f (read a rest) h k e = ap (λ o. let all : Outcome (List B) = o >>= λ y. read (f a ∷ y.0) y.1 in all) (e rest) ∙ joined_mapped f a (k rest)
step_mapped f (stuck fault rest) h k e = refl
step_mapped f unfinished h k e = refl

if_mapped : {A B : Type 0} (f : A → B) (b : Bool) (o : Outcome B) (p q : Outcome A) (r : Outcome B) → o ≡ mapped f p → r ≡ mapped f q → (if b then o else r) ≡ mapped f (if b then p else q)
if_mapped f true o p q r d e = d
if_mapped f false o p q r d e = e

each_mapped : {A B : Type 0} (f : A → B) (codes : List ℕ) (part : List Lexeme → Outcome A) (n : ℕ) (w : List Lexeme) → each_from codes (λ v. mapped f (part v)) n w ≡ mapped (map f) (each_from codes part n w)
each_mapped {A = A} {B = B} f codes part zero w = if_mapped (map f) (next_in codes w) unfinished unfinished (read [] w) (read [] w) refl refl
each_mapped {A = A} {B = B} f codes part (suc n) w =
    if_mapped (map f) (next_in codes w) (mapped f (part w) >>= λ x. each_from codes (λ v. mapped f (part v)) n x.1 >>= λ y. read (x.0 ∷ y.0) y.1) (part w >>= λ x. each_from codes part n x.1 >>= λ y. read (x.0 ∷ y.0) y.1) (read [] w) (read [] w)
    (step_mapped f (part w) (each_from codes (λ v. mapped f (part v)) n) (each_from codes part n) (λ v. each_mapped f codes part n v)) refl

mapped_behind : {A B : Type 0} (f : A → B) (o : Outcome Lexeme) (p : List Lexeme → Outcome A) → ((o >>= λ x. mapped f (p x.1) >>= λ y. let two : Outcome (Lexeme × B) = read (x.0, y.0) y.1 in two) >>= λ x. let second : Outcome B = read (second_of x.0) x.1 in second) ≡ mapped f ((o >>= λ x. p x.1 >>= λ y. let two : Outcome (Lexeme × A) = read (x.0, y.0) y.1 in two) >>= λ x. let second : Outcome A = read (second_of x.0) x.1 in second)
mapped_behind {A = A} {B = B} f (read t rest) p = go (p rest)
  where
    go : (o : Outcome A) → ((mapped f o >>= λ y. let two : Outcome (Lexeme × B) = read (t, y.0) y.1 in two) >>= λ x. let second : Outcome B = read (second_of x.0) x.1 in second) ≡ mapped f ((o >>= λ y. let two : Outcome (Lexeme × A) = read (t, y.0) y.1 in two) >>= λ x. let second : Outcome A = read (second_of x.0) x.1 in second)
    go (read a u) = refl
    go (stuck fault u) = refl
    go unfinished = refl
mapped_behind f (stuck fault rest) p = refl
mapped_behind f unfinished p = refl

-- values behind tokens of one code
pub many_mapped : {A B : Type 0} (f : A → B) (c : ℕ) (g : Form A) (l : Limits) (w : List Lexeme) → reads_form (many (behind c (made f g))) l w ≡ mapped (map f) (reads_form (many (behind c g)) l w)
many_mapped f c g l w =
    each_alike (c ∷ []) (reads_form (behind c (made f g)) l) (λ v. mapped f (reads_form (behind c g) l v)) (λ v. mapped_behind f (reads_token (c ∷ []) v) (reads_form g l)) (length w) w
    ∙ each_mapped f (c ∷ []) (reads_form (behind c g) l) (length w) w

list_mapped : {A B : Type 0} (f : A → B) (o : Outcome A) (h : List Lexeme → Outcome (List B)) (k : List Lexeme → Outcome (List A)) → ((w : List Lexeme) → h w ≡ mapped (map f) (k w)) → ((mapped f o >>= λ x. h x.1 >>= λ y. let two : Outcome (B × List B) = read (x.0, y.0) y.1 in two) >>= λ x. read (joined x.0) x.1) ≡ mapped (map f) ((o >>= λ x. k x.1 >>= λ y. let two : Outcome (A × List A) = read (x.0, y.0) y.1 in two) >>= λ x. read (joined x.0) x.1)
list_mapped {A = A} {B = B} f (read a rest) h k e = ap (λ o. let all : Outcome (List B) = (o >>= λ y. let two : Outcome (B × List B) = read (f a, y.0) y.1 in two) >>= λ x. read (joined x.0) x.1 in all) (e rest) ∙ go (k rest)
  where
    go : (o : Outcome (List A)) → ((mapped (map f) o >>= λ y. let two : Outcome (B × List B) = read (f a, y.0) y.1 in two) >>= λ x. let all : Outcome (List B) = read (joined x.0) x.1 in all) ≡ mapped (map f) ((o >>= λ y. let two : Outcome (A × List A) = read (a, y.0) y.1 in two) >>= λ x. read (joined x.0) x.1)
    go (read list u) = refl
    go (stuck fault u) = refl
    go unfinished = refl
list_mapped f (stuck fault rest) h k e = refl
list_mapped f unfinished h k e = refl

pub separated_mapped : {A B : Type 0} (f : A → B) (c : ℕ) (g : Form A) (l : Limits) (w : List Lexeme) → reads_form (separated c (made f g)) l w ≡ mapped (map f) (reads_form (separated c g) l w)
separated_mapped f c g l w = list_mapped f (reads_form g l w) (reads_form (many (behind c (made f g))) l) (reads_form (many (behind c g)) l) (λ v. many_mapped f c g l v)

-- Components are read behind their head.
behind_head : (h : Head) (o : Outcome (List _)) → ((o >>= λ y. let two : Outcome (Head × List _) = read (h, y.0) y.1 in two) >>= λ x. read (whats_of_components x.0) x.1) ≡ mapped (map (what_of h)) o
behind_head h (read list rest) = refl
behind_head h (stuck fault rest) = refl
behind_head h unfinished = refl

pub components_read : (l : Limits) (w : List Lexeme) (h : Head) (rest : List Lexeme) → reads_form head l w ≡ read h rest → reads_form (made whats_of_components components) l w ≡ reads_form (separated comma (made (what_of h) component)) l rest
components_read l w h rest e =
    let next : Head × List Lexeme → Outcome (Head × List (Declared × Option Expr)) = λ x. reads_form (separated comma component) l x.1 >>= λ y. read (x.0, y.0) y.1 in
    ap (λ o. let all : Outcome (List What) = (o >>= next) >>= λ x. read (whats_of_components x.0) x.1 in all) e
    ∙ behind_head h (reads_form (separated comma component) l rest) ∙ sym (separated_mapped (what_of h) comma component l rest)

-- A list with separators begins with one value.
first_kept : {A : Type 0} (a : A) (o : Outcome (List A)) → with_front (a ∷ []) o ≡ ((o >>= λ y. let two : Outcome (A × List A) = read (a, y.0) y.1 in two) >>= λ x. let all : Outcome (List A) = read (joined x.0) x.1 in all)
first_kept a (read list rest) = refl
first_kept a (stuck fault rest) = refl
first_kept a unfinished = refl

pub separated_first : {A : Type 0} (c : ℕ) (g : Form A) (l : Limits) (w : List Lexeme) (a : A) (rest : List Lexeme) → reads_form g l w ≡ read a rest → with_front (a ∷ []) (reads_form (many (behind c g)) l rest) ≡ reads_form (separated c g) l w
separated_first {A = A} c g l w a rest e =
    let next : A × List Lexeme → Outcome (A × List A) = λ x. reads_form (many (behind c g)) l x.1 >>= λ y. read (x.0, y.0) y.1 in
    first_kept a (reads_form (many (behind c g)) l rest) ∙ sym (ap (λ o. let all : Outcome (List A) = (o >>= next) >>= λ x. read (joined x.0) x.1 in all) e)

abbrev pub rest_behind : {A : Type 0} → Outcome A → List Lexeme
rest_behind (read a rest) = rest
rest_behind (stuck fault rest) = []
rest_behind unfinished = []

none_more : {A : Type 0} (front : List A) (w : List Lexeme) → with_front front (read [] w) ≡ read front w
none_more {A = A} front w = ap (λ v. let all : Outcome (List A) = read v w in all) (append-nil front)

-- The loop over the components of one head: it begins, one of them is stuck, it ends.
pub list_begins : (l : Limits) (w : List Lexeme) (k : Head) (behind_k : List Lexeme) (a : What) (rest : List Lexeme) (all now : List What) → reads_form head l w ≡ read k behind_k → ((h : Head) (u : List Lexeme) → reads_form head l w ≡ read h u → reads_form (made (what_of h) component) l behind_k ≡ read a rest) → now ≡ all ++ a ∷ [] → all ≡ [] → (h : Head) (u : List Lexeme) → reads_form head l w ≡ read h u → with_front now (reads_form (many (behind comma (made (what_of h) component))) l rest) ≡ reads_form (separated comma (made (what_of h) component)) l u
list_begins l w k behind_k a rest all now read_k item pushed none h u e =
    let same : behind_k ≡ u = ap rest_behind (sym read_k ∙ e) in
    ap (λ list. with_front list (reads_form (many (behind comma (made (what_of h) component))) l rest)) (pushed ∙ ap (λ list. list ++ a ∷ []) none)
    ∙ separated_first comma (made (what_of h) component) l behind_k a rest (item h u e)
    ∙ ap (reads_form (separated comma (made (what_of h) component)) l) same

pub list_ends : (l : Limits) (w : List Lexeme) (k : Head) (behind_k : List Lexeme) (all : List What) (rest : List Lexeme) → reads_form head l w ≡ read k behind_k → ((h : Head) (u : List Lexeme) → reads_form head l w ≡ read h u → with_front all (reads_form (many (behind comma (made (what_of h) component))) l rest) ≡ reads_form (separated comma (made (what_of h) component)) l u) → false ≡ next_in (comma ∷ []) rest → reads_form (made whats_of_components components) l w ≡ read all rest
list_ends l w k behind_k all rest read_k so_far n =
    components_read l w k behind_k read_k ∙ sym (so_far k behind_k read_k)
    ∙ ap (with_front all) (many_done (behind comma (made (what_of k) component)) l rest (sym n)) ∙ none_more all rest

pub list_stuck : (l : Limits) (w : List Lexeme) (k : Head) (behind_k : List Lexeme) (all : List What) (rest : List Lexeme) (fault : Fault) (stop : List Lexeme) → reads_form head l w ≡ read k behind_k → ((h : Head) (u : List Lexeme) → reads_form head l w ≡ read h u → with_front all (reads_form (many (behind comma (made (what_of h) component))) l rest) ≡ reads_form (separated comma (made (what_of h) component)) l u) → true ≡ next_in (comma ∷ []) rest → ((h : Head) (u : List Lexeme) → reads_form head l w ≡ read h u → reads_form (behind comma (made (what_of h) component)) l rest ≡ stuck fault stop) → reads_form (made whats_of_components components) l w ≡ stuck fault stop
list_stuck l w k behind_k all rest fault stop read_k so_far n item =
    components_read l w k behind_k read_k ∙ sym (so_far k behind_k read_k)
    ∙ many_stuck (behind comma (made (what_of k) component)) l all rest fault stop (sym n) (item k behind_k read_k)
