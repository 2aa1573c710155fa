-- What is made of expressions stands, step by step.
use Rattle.std.proofs.Common.{ℕ, Bool, true, false, List, [], ◌∷◌, Ok, Err, if◌then◌else◌}
use Rattle.std.specs.Prelude.{fold}
use Rattle.mo_syntax.specs.Outcome.{Outcome, and_then, breaks}
use Rattle.mo_typing.specs.Outcome.{each}
use Rattle.mo_eval.specs.Contexts.{Part, alone}
use Rattle.mo_eval.specs.Virtuals.{Making, Virtual, make, make_each, make_from, make_then, make_variables}
use Rattle.mo_values.specs.declared.context.Context.{Context}
use Rattle.mo_syntax.specs.declared.place.Place.{Place}
use Rattle.mo_places.specs.Resolved.{ArrayStands, Makes, PartStands, ResolvedStands, VirtualStands, VirtualsStand}
use Rattle.mo_places.specs.Stands.{Answers, Anything, Every}
use Rattle.mo_places.specs.Written.{Written, At}
use Rattle.mo_places.proofs.laws.Standing.{every_append, then_answers}

-- ---- outcomes

pub broken_stands : {A : Type 0} (P : Written → Type 0) (Q : A → Type 0) (rule : ℕ) (place : Place) → P (At place) → Answers P Q (breaks rule place)
broken_stands P Q rule place h = record { holds = h }

pub weaker_answers : {A : Type 0} (P : Written → Type 0) (Q R : A → Type 0) → ((value : A) → Q value → R value) → (outcome : Outcome A) → Answers P Q outcome → Answers P R outcome
weaker_answers P Q R f (Ok value) h = record { holds = f value h.holds }
weaker_answers P Q R f (Err broken) h = record { holds = h.holds }

pub each_answers : {A B : Type 0} (P : Written → Type 0) (Q : B → Type 0) (f : A → Outcome B) (xs : List A) → Every (λ x. Answers P Q (f x)) xs → Answers P (Every Q) (each f xs)
each_answers P Q f [] h = record { holds = tt }
each_answers P Q f (x ∷ xs) h =
    then_answers P Q (Every Q) (f x) _ h.0 (λ value hv.
    then_answers P (Every Q) (Every Q) (each f xs) _ (each_answers P Q f xs h.1) (λ values hs. record { holds = (hv, hs) }))

pub fold_answers : {A B : Type 0} (P : Written → Type 0) (f : Outcome A → B → Outcome A) → ((o : Outcome A) (b : B) → Answers P Anything o → Answers P Anything (f o b)) → (xs : List B) (o : Outcome A) → Answers P Anything o → Answers P Anything (fold f o xs)
fold_answers P f step [] o h = h
fold_answers P f step (x ∷ xs) o h = fold_answers P f step xs (f o x) (step o x h)

-- ---- outcomes whose values do not count

module _ (P : Written → Type 0) where
  pub any_ok : {A : Type 0} (a : A) → Answers P (Anything {A = A}) (Ok a)
  any_ok a = record { holds = tt }

  pub any_then : {A B : Type 0} (o : Outcome A) (f : A → Outcome B) → Answers P (Anything {A = A}) o → ((a : A) → Answers P (Anything {A = B}) (f a)) → Answers P (Anything {A = B}) (and_then o f)
  any_then {A} {B} o f h k = then_answers P (Anything {A = A}) (Anything {A = B}) o f h (λ a u. k a)

  pub any_list : {A : Type 0} (o : Outcome (List A)) → Answers P (Every (Anything {A = A})) o → Answers P (Anything {A = List A}) o
  any_list (Ok xs) h = record { holds = tt }
  any_list (Err broken) h = record { holds = h.holds }

  pub any_each : {A B : Type 0} (f : A → Outcome B) (xs : List A) → Every (λ x. Answers P (Anything {A = B}) (f x)) xs → Answers P (Anything {A = List B}) (each f xs)
  any_each {A} {B} f xs h = any_list (each f xs) (each_answers P (Anything {A = B}) f xs h)

-- ---- makings

module _ (P : Written → Type 0) where
  pub makes : {A : Type 0} (Q : A → Type 0) (value : A) → Q value → Makes P Q (make value)
  makes Q value h = λ virtuals hv. record { holds = (h, hv) }

  pub then_makes : {A B : Type 0} (Q : A → Type 0) (R : B → Type 0) (first : Making A) (f : A → Making B) → Makes P Q first → ((value : A) → Q value → Makes P R (f value)) → Makes P R (make_then first f)
  then_makes Q R first f h next = λ virtuals hv.
      then_answers P (λ made. Q made.0 × VirtualsStand P made.1) (λ made. R made.0 × VirtualsStand P made.1) (first virtuals) _ (h virtuals hv) (λ made hm. next made.0 hm.0 made.1 hm.1)

  pub from_makes : {A : Type 0} (Q : A → Type 0) (outcome : Outcome A) → Answers P Q outcome → Makes P Q (make_from outcome)
  from_makes Q outcome h = λ virtuals hv.
      then_answers P Q (λ made. Q made.0 × VirtualsStand P made.1) outcome _ h (λ value hq. record { holds = (hq, hv) })

  pub broken_makes : {A : Type 0} (Q : A → Type 0) (rule : ℕ) (place : Place) → P (At place) → Makes P Q (make_from (breaks rule place))
  broken_makes Q rule place hp = from_makes Q (breaks rule place) (broken_stands P Q rule place hp)

  pub each_makes : {A B : Type 0} (Q : B → Type 0) (f : A → Making B) (xs : List A) → Every (λ x. Makes P Q (f x)) xs → Makes P (Every Q) (make_each f xs)
  each_makes Q f [] h = makes (Every Q) [] tt
  each_makes Q f (x ∷ xs) h =
      then_makes Q (Every Q) (f x) _ h.0 (λ value hv.
      then_makes (Every Q) (Every Q) (make_each f xs) _ (each_makes Q f xs h.1) (λ values hs. makes (Every Q) (value ∷ values) (hv, hs)))

  pub variables_make : (new : List Virtual) → VirtualsStand P new → Makes P Anything (make_variables new)
  variables_make new h = λ virtuals hv. record { holds = (tt, every_append (VirtualStands P) virtuals new hv h) }

  pub if_makes : {A : Type 0} (Q : A → Type 0) (b : Bool) (x y : Making A) → Makes P Q x → Makes P Q y → Makes P Q (if b then x else y)
  if_makes Q true x y hx hy = hx
  if_makes Q false x y hx hy = hy

  -- resolved by itself
  pub alone_stands : (part : Part) (context : Context) → PartStands P part → Answers P (ResolvedStands P) (alone part context)
  alone_stands part context h =
      then_answers P (λ made. ArrayStands P made.0 × VirtualsStand P made.1) (ResolvedStands P) (part.1 context []) _ (h.1 context [] tt)
      (λ made hm. record { holds = record { expression = hm.0; virtuals = hm.1 } })
