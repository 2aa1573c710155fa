-- What holds of each element of a list, and of what outcomes answer.
use Rattle.std.proofs.Common.{Bool, true, false, cond, List, [], ◌∷◌, ◌++◌, map, flat_map, find, Some, None, Ok, Err, if◌then◌else◌}
use Rattle.mo_syntax.specs.Outcome.{Outcome, and_then}
use Rattle.mo_syntax.specs.declared.place.Place.{Place}
use Rattle.mo_scope.specs.Places.{Every, IfAny, Answers}

pub every_append : {A : Type 0} (P : A → Type 0) (xs ys : List A) → Every P xs → Every P ys → Every P (xs ++ ys)
every_append P [] ys hx hy = hy
every_append P (x ∷ xs) ys hx hy = (hx.0, every_append P xs ys hx.1 hy)

pub every_front : {A : Type 0} (P : A → Type 0) (xs ys : List A) → Every P (xs ++ ys) → Every P xs
every_front P [] ys h = tt
every_front P (x ∷ xs) ys h = (h.0, every_front P xs ys h.1)

pub every_back : {A : Type 0} (P : A → Type 0) (xs ys : List A) → Every P (xs ++ ys) → Every P ys
every_back P [] ys h = h
every_back P (x ∷ xs) ys h = every_back P xs ys h.1

pub every_weaker : {A : Type 0} (P Q : A → Type 0) → ((x : A) → P x → Q x) → (xs : List A) → Every P xs → Every Q xs
every_weaker P Q f [] h = tt
every_weaker P Q f (x ∷ xs) h = (f x h.0, every_weaker P Q f xs h.1)

pub every_map : {A B : Type 0} (P : B → Type 0) (f : A → B) (xs : List A) → Every (λ x. P (f x)) xs → Every P (map f xs)
every_map P f [] h = tt
every_map P f (x ∷ xs) h = (h.0, every_map P f xs h.1)

pub every_flat_map : {A B : Type 0} (P : B → Type 0) (f : A → List B) (xs : List A) → Every (λ x. Every P (f x)) xs → Every P (flat_map f xs)
every_flat_map P f [] h = tt
every_flat_map P f (x ∷ xs) h = every_append P (f x) (flat_map f xs) h.0 (every_flat_map P f xs h.1)

pub each_flat_map : {A B : Type 0} (P : B → Type 0) (f : A → List B) (xs : List A) → Every P (flat_map f xs) → Every (λ x. Every P (f x)) xs
each_flat_map P f [] h = tt
each_flat_map P f (x ∷ xs) h = (every_front P (f x) (flat_map f xs) h, each_flat_map P f xs (every_back P (f x) (flat_map f xs) h))

pub if_list : {A : Type 0} (P : A → Type 0) (b : Bool) (xs ys : List A) → Every P xs → Every P ys → Every P (if b then xs else ys)
if_list P true xs ys hx hy = hx
if_list P false xs ys hx hy = hy

pub any_find : {A : Type 0} (P : A → Type 0) (test : A → Bool) (xs : List A) → Every P xs → IfAny P (find test xs)
any_find P test [] h = tt
any_find P test (x ∷ xs) h = by (any_find P test xs h.1) (test x)
  where
    by : IfAny P (find test xs) → (b : Bool) → IfAny P (cond b (Some x) (find test xs))
    by rest true = h.0
    by rest false = rest

pub if_some : {A : Type 0} (P : A → Type 0) (b : Bool) (x : A) → P x → IfAny P (if b then Some x else None)
if_some P true x h = h
if_some P false x h = tt

-- ---- outcomes

pub then_answers : {A B : Type 0} (P : Place → Type 0) (Q : A → Type 0) (R : B → Type 0) (outcome : Outcome A) (f : A → Outcome B) →
    Answers P Q outcome → ((value : A) → Q value → Answers P R (f value)) → Answers P R (and_then outcome f)
then_answers P Q R (Ok value) f h next = next value h.holds
then_answers P Q R (Err broken) f h next = record { holds = h.holds }

pub if_answers : {A : Type 0} (P : Place → Type 0) (Q : A → Type 0) (b : Bool) (x y : Outcome A) → Answers P Q x → Answers P Q y → Answers P Q (if b then x else y)
if_answers P Q true x y hx hy = hx
if_answers P Q false x y hx hy = hy
