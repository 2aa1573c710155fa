-- Reading what is repeated, one item after another, as a loop does it.
use Rattle.std.proofs.Common.{◌≡◌, ◌+◌, ◌*◌, ◌<◌, ◌≤◌, ℕ, zero, suc, true, false, List, [], ◌∷◌, ◌++◌, length, refl, sym, ap, ◌∙◌, if◌then◌else◌, le_refl, arith, mul-le-mul_right, append_assoc}
use Rattle.mo_grammar.specs.declared.fault.Fault.{Fault}
use Rattle.mo_grammar.specs.Lexeme.{Lexeme}
use Rattle.mo_grammar.specs.Grammar.{Limits, many}
use Rattle.mo_grammar.specs.Reading.{Outcome, read, stuck, unfinished, is_decided, ◌>>=◌, may_be_empty, first_codes, next_in, each_from, reads_by, reads_as}
use Rattle.mo_grammar.specs.Symbols.{Form}
use Rattle.mo_grammar.specs.Productions.{rule}
use Rattle.mo_grammar.specs.Tables.{tables}
use Rattle.mo_grammar.specs.Language.{reads, reads_form}
use Rattle.mo_grammar.proofs.Codes.{choose_true}
use Rattle.mo_grammar.proofs.Decided.{Decided, decided}
use Rattle.mo_grammar.proofs.Entering.{no_item}
use Rattle.mo_grammar.proofs.Steps.{agrees, below_top, takes_some, as_agrees}
use Rattle.mo_grammar.proofs.Tested.{passed}

-- values that were read before, in front of those that are read
abbrev pub with_front : {A : Type 0} → List A → Outcome (List A) → Outcome (List A)
with_front front o = o >>= λ x. read (front ++ x.0) x.1

-- how many items are granted does not matter where they suffice
step_granted : {A : Type 0} (o : Outcome A) (f f' : List Lexeme → Outcome (List A)) → ((a : A) (rest : List Lexeme) → o ≡ read a rest → f rest ≡ f' rest) → (o >>= λ x. f x.1 >>= λ y. read (x.0 ∷ y.0) y.1) ≡ (o >>= λ x. f' x.1 >>= λ y. read (x.0 ∷ y.0) y.1)
step_granted {A = A} (read a rest) f f' h = ap (λ o. o >>= λ y. let all : Outcome (List A) = read (a ∷ y.0) y.1 in all) (h a rest refl)
step_granted (stuck fault rest) f f' h = refl
step_granted unfinished f f' h = refl

each_granted : {A : Type 0} (codes : List ℕ) (part : List Lexeme → Outcome A) → ((w : List Lexeme) (a : A) (rest : List Lexeme) → part w ≡ read a rest → length rest < length w) → (n m : ℕ) (w : List Lexeme) → length w ≤ n → length w ≤ m → each_from codes part n w ≡ each_from codes part m w
each_granted codes part less n m [] p q = no_item codes part n [] refl ∙ sym (no_item codes part m [] refl)
each_granted codes part less zero m (t ∷ w) p q = absurd (omega arith)
each_granted codes part less (suc n) zero (t ∷ w) p q = absurd (omega arith)
each_granted {A = A} codes part less (suc n) (suc m) (t ∷ w) p q =
    ap (λ o. let out : Outcome (List A) = if next_in codes (t ∷ w) then o else read [] (t ∷ w) in out)
    (step_granted (part (t ∷ w)) (each_from codes part n) (each_from codes part m)
    (λ a rest e. let shorter = less (t ∷ w) a rest e in each_granted codes part less n m rest (omega arith) (omega arith)))

turn_kept : {A : Type 0} (front : List A) (a : A) (o : Outcome (List A)) → with_front front (o >>= λ y. read (a ∷ y.0) y.1) ≡ with_front (front ++ a ∷ []) o
turn_kept front a (read list rest) = ap (λ v. read v rest) (sym (append_assoc front (a ∷ []) list))
turn_kept front a (stuck fault rest) = refl
turn_kept front a unfinished = refl

-- What cannot be empty takes a token.
pub form_takes : {A : Type 0} (g : Form A) → Decided tables g → may_be_empty g ≡ false → (l : Limits) (w : List Lexeme) (a : A) (rest : List Lexeme) → reads_form g l w ≡ read a rest → length rest < length w
unfolding reads
form_takes g d e l w a rest r =
    let n = length w * tables.ranks + tables.ranks in
    let same = agrees tables rule passed n (reads_as tables rule) g d tables.ranks l w
    (λ y m v less. as_agrees tables rule passed n y m v (let scaled : length v * tables.ranks ≤ length w * tables.ranks = mul-le-mul_right tables.ranks (let h : length v ≤ length w = omega arith in h) in let low = passed.ranked y in omega arith))
    (λ y m v less low. as_agrees tables rule passed n y m v (let scaled : length v * tables.ranks ≤ length w * tables.ranks = mul-le-mul_right tables.ranks less in omega arith))
    (below_top tables.rank tables.ranks passed.ranked g) in
    takes_some tables rule passed n g d e l w a rest (same.0 ∙ r)

-- One item is read, and then those behind it.
pub many_turn : {A : Type 0} (g : Form A) → Decided tables g → may_be_empty g ≡ false → (l : Limits) (front : List A) (w : List Lexeme) (a : A) (rest : List Lexeme) → next_in (first_codes tables.starts g) w ≡ true → reads_form g l w ≡ read a rest → with_front front (reads_form (many g) l w) ≡ with_front (front ++ a ∷ []) (reads_form (many g) l rest)
many_turn g d e l front [] a rest n r = cc
many_turn {A = A} g d e l front (t ∷ w) a rest n r =
    let F = first_codes tables.starts g in
    let R = reads_by tables.starts reads g l in
    let shorter = form_takes g d e l (t ∷ w) a rest r in
    let next : A × List Lexeme → Outcome (List A) = λ x. each_from F R (length w) x.1 >>= λ y. read (x.0 ∷ y.0) y.1 in
    let opened : reads_form (many g) l (t ∷ w) ≡ (R (t ∷ w) >>= next) = choose_true {A = Outcome (List A)} (next_in F (t ∷ w)) (R (t ∷ w) >>= next) (read [] (t ∷ w)) n in
    let stepped : (R (t ∷ w) >>= next) ≡ (each_from F R (length w) rest >>= λ y. let all : Outcome (List A) = read (a ∷ y.0) y.1 in all) = ap (λ o. o >>= next) r in
    let granted : each_from F R (length w) rest ≡ each_from F R (length rest) rest = each_granted F R (λ v b u q. form_takes g d e l v b u q) (length w) (length rest) rest (let h : length rest ≤ length w = omega arith in h) (le_refl (length rest)) in
    ap (with_front front) (opened ∙ stepped ∙ ap (λ o. o >>= λ y. let all : Outcome (List A) = read (a ∷ y.0) y.1 in all) granted) ∙ turn_kept front a (each_from F R (length rest) rest)

-- An item that is stuck ends the reading of them all.
pub many_stuck : {A : Type 0} (g : Form A) (l : Limits) (front : List A) (w : List Lexeme) (fault : Fault) (rest : List Lexeme) → next_in (first_codes tables.starts g) w ≡ true → reads_form g l w ≡ stuck fault rest → with_front front (reads_form (many g) l w) ≡ stuck fault rest
many_stuck g l front [] fault rest n r = cc
many_stuck {A = A} g l front (t ∷ w) fault rest n r =
    let F = first_codes tables.starts g in
    let R = reads_by tables.starts reads g l in
    let next : A × List Lexeme → Outcome (List A) = λ x. each_from F R (length w) x.1 >>= λ y. read (x.0 ∷ y.0) y.1 in
    ap (with_front front) (choose_true {A = Outcome (List A)} (next_in F (t ∷ w)) (R (t ∷ w) >>= next) (read [] (t ∷ w)) n ∙ ap (λ o. o >>= next) r)

-- Where no item begins, there are no more.
pub many_done : {A : Type 0} (g : Form A) (l : Limits) (w : List Lexeme) → next_in (first_codes tables.starts g) w ≡ false → reads_form (many g) l w ≡ read [] w
many_done g l w n = no_item (first_codes tables.starts g) (reads_by tables.starts reads g l) (length w) w n

-- A turn of a loop: one more value is read, and put behind those that were read before.
pub turn : {A : Type 0} (g : Form A) → is_decided tables g ≡ true → may_be_empty g ≡ false → (l : Limits) (front now : List A) (w : List Lexeme) (a : A) (rest : List Lexeme) (all : Outcome (List A)) → true ≡ next_in (first_codes tables.starts g) w → reads_form g l w ≡ read a rest → now ≡ front ++ a ∷ [] → with_front front (reads_form (many g) l w) ≡ all → with_front now (reads_form (many g) l rest) ≡ all
turn g d e l front now w a rest all n r pushed so_far =
    ap (λ list. with_front list (reads_form (many g) l rest)) pushed ∙ sym (many_turn g (decided tables g d) e l front w a rest (sym n) r) ∙ so_far
