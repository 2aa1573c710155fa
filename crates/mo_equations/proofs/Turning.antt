-- What is gathered of some elements and of more behind them, with the turns that are taken.
use Rattle.std.proofs.Common.{◌≡◌, ℕ, List, [], ◌∷◌, ◌++◌, Ok, Err, refl, ap, sym, ◌∙◌, append_assoc}
use Rattle.std.proofs.lemmas.List.{append-nil}
use Rattle.mo_syntax.specs.Outcome.{Outcome, and_then}
use Rattle.mo_syntax.specs.declared.place.Broken.{Broken}
use Rattle.mo_flat.specs.declared.connect.Connect.{Connect}
use Rattle.mo_flat.specs.declared.model.FlatAssert.{FlatAssert}
use Rattle.mo_flat.specs.declared.model.FlatEquation.{FlatEquation}
use Rattle.mo_equations.specs.Gathering.{Made, Turning, all_beside, beside, gathered, nothing, turn_each}

-- ---- beside one another

made_of : (q q' : List FlatEquation) (a a' : List FlatAssert) (c c' : List Connect) → q ≡ q' → a ≡ a' → c ≡ c' →
    ◌≡◌ {A = Made} (record { equations = q; asserts = a; connects = c }) (record { equations = q'; asserts = a'; connects = c' })
made_of q q' a a' c c' x y z = rw (x, y, z) refl

pub beside_nothing : (m : Made) → beside m nothing ≡ m
beside_nothing m = made_of (m.equations ++ []) m.equations (m.asserts ++ []) m.asserts (m.connects ++ []) m.connects (append-nil m.equations) (append-nil m.asserts) (append-nil m.connects)

pub beside_beside : (a b c : Made) → beside (beside a b) c ≡ beside a (beside b c)
beside_beside a b c = made_of _ _ _ _ _ _ (append_assoc a.equations b.equations c.equations) (append_assoc a.asserts b.asserts c.asserts) (append_assoc a.connects b.connects c.connects)

pub all_more : (xs ys : List Made) → all_beside (xs ++ ys) ≡ beside (all_beside xs) (all_beside ys)
all_more [] ys = refl
all_more (x ∷ xs) ys = ap (beside x) (all_more xs ys) ∙ sym (beside_beside x (all_beside xs) (all_beside ys))

pub all_one_more : (xs : List Made) (x : Made) → all_beside (xs ++ x ∷ []) ≡ beside (all_beside xs) x
all_one_more xs x = all_more xs (x ∷ []) ∙ ap (beside (all_beside xs)) (beside_nothing x)

-- ---- one after another

-- what comes of one more element, in front of what comes of others
abbrev in_front : {B : Type 0} → B → List B × ℕ → Outcome (List B × ℕ)
in_front b others = Ok (b ∷ others.0, others.1)

abbrev put_behind : {B : Type 0} → List B → List B × ℕ → Outcome (List B × ℕ)
put_behind before more = Ok (before ++ more.0, more.1)

-- what comes of elements behind those that were made
abbrev pub then_more : {A B : Type 0} → (A → Turning B) → List A → List B × ℕ → Outcome (List B × ℕ)
then_more {A} {B} make ys a = and_then {A = List B × ℕ} {B = List B × ℕ} (turn_each make ys a.1) (put_behind a.0)

pair_of : {A : Type 0} (o : Outcome (List A × ℕ)) → o ≡ and_then {A = List A × ℕ} {B = List A × ℕ} o (put_behind [])
pair_of (Ok b) = refl
pair_of (Err broken) = refl

in_front_behind : {B : Type 0} (b : B) (before : List B) (o : Outcome (List B × ℕ)) →
    and_then {A = List B × ℕ} {B = List B × ℕ} (and_then {A = List B × ℕ} {B = List B × ℕ} o (put_behind before)) (in_front b) ≡ and_then {A = List B × ℕ} {B = List B × ℕ} o (put_behind (b ∷ before))
in_front_behind b before (Ok c) = refl
in_front_behind b before (Err broken) = refl

in_front_more : {A B : Type 0} (make : A → Turning B) (ys : List A) (b : B) (o : Outcome (List B × ℕ)) →
    and_then {A = List B × ℕ} {B = List B × ℕ} (and_then {A = List B × ℕ} {B = List B × ℕ} o (then_more make ys)) (in_front b)
    ≡ and_then {A = List B × ℕ} {B = List B × ℕ} (and_then {A = List B × ℕ} {B = List B × ℕ} o (in_front b)) (then_more make ys)
in_front_more make ys b (Err broken) = refl
in_front_more make ys b (Ok a) = in_front_behind b a.0 (turn_each make ys a.1)

append_first : {A B : Type 0} (make : A → Turning B) (xs ys : List A) (o : Outcome (B × ℕ)) →
    ((t : ℕ) → turn_each make (xs ++ ys) t ≡ and_then {A = List B × ℕ} {B = List B × ℕ} (turn_each make xs t) (then_more make ys)) →
    and_then {A = B × ℕ} {B = List B × ℕ} o (λ one. and_then {A = List B × ℕ} {B = List B × ℕ} (turn_each make (xs ++ ys) one.1) (in_front one.0))
    ≡ and_then {A = List B × ℕ} {B = List B × ℕ} (and_then {A = B × ℕ} {B = List B × ℕ} o (λ one. and_then {A = List B × ℕ} {B = List B × ℕ} (turn_each make xs one.1) (in_front one.0))) (then_more make ys)
append_first make xs ys (Err broken) more = refl
append_first {A} {B} make xs ys (Ok one) more =
    ap (λ (o : Outcome (List B × ℕ)). and_then {A = List B × ℕ} {B = List B × ℕ} o (in_front one.0)) (more one.1) ∙ in_front_more make ys one.0 (turn_each make xs one.1)

pub turn_append : {A B : Type 0} (make : A → Turning B) (xs ys : List A) (turns : ℕ) →
    turn_each make (xs ++ ys) turns ≡ and_then {A = List B × ℕ} {B = List B × ℕ} (turn_each make xs turns) (then_more make ys)
turn_append make [] ys turns = pair_of (turn_each make ys turns)
turn_append make (x ∷ xs) ys turns = append_first make xs ys (make x turns) (λ t. turn_append make xs ys t)

pub turn_more : {A B : Type 0} (make : A → Turning B) (xs ys : List A) (turns after later : ℕ) (as_ bs : List B) → turn_each make xs turns ≡ Ok (as_, after) →
    turn_each make ys after ≡ Ok (bs, later) → turn_each make (xs ++ ys) turns ≡ Ok (as_ ++ bs, later)
turn_more make xs ys turns after later as_ bs h k = turn_append make xs ys turns ∙ rw (h, k) refl

pub turn_halts : {A B : Type 0} (make : A → Turning B) (xs ys : List A) (turns after : ℕ) (as_ : List B) (broken : Broken) → turn_each make xs turns ≡ Ok (as_, after) →
    turn_each make ys after ≡ Err broken → turn_each make (xs ++ ys) turns ≡ Err broken
turn_halts make xs ys turns after as_ broken h k = turn_append make xs ys turns ∙ rw (h, k) refl

-- one alone
pub turn_one : {A B : Type 0} (make : A → Turning B) (x : A) (turns after : ℕ) (a : B) → make x turns ≡ Ok (a, after) → turn_each make (x ∷ []) turns ≡ Ok (a ∷ [], after)
turn_one make x turns after a h = rw h refl

-- ---- what is gathered

-- what comes of some elements, as what comes of each
pub record Gathers {A : Type 0} (make : A → Turning Made) (xs : List A) (turns : ℕ) (made : Made) (after : ℕ) : Type 0 where
  pub each : List Made
  pub is : turn_each make xs turns ≡ Ok (each, after)
  pub together : made ≡ all_beside each

pub gathers : {A : Type 0} (make : A → Turning Made) (xs : List A) (turns : ℕ) (made : Made) (after : ℕ) → Gathers make xs turns made after → gathered make xs turns ≡ Ok (made, after)
gathers make xs turns made after g = rw (g.is, g.together) refl

pub gathers_more : {A : Type 0} (make : A → Turning Made) (xs : List A) (x : A) (turns after later : ℕ) (made one : Made) → Gathers make xs turns made after →
    make x after ≡ Ok (one, later) → Gathers make (xs ++ x ∷ []) turns (beside made one) later
gathers_more make xs x turns after later made one g h = record {
  each = g.each ++ one ∷ [];
  is = turn_more make xs (x ∷ []) turns after later g.each (one ∷ []) g.is (turn_one make x after later one h);
  together = ap (λ m. beside m one) g.together ∙ sym (all_one_more g.each one);
}

pub gathers_none : {A : Type 0} (make : A → Turning Made) (turns : ℕ) → Gathers make [] turns nothing turns
gathers_none make turns = record { each = []; is = refl; together = refl }
