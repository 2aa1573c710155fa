-- Answers whose values stand for those of outcomes, one after another.
use Rattle.std.proofs.Common.{◌≡◌, Result, Ok, Err, refl, sym, subst}
use Rattle.mo_syntax.specs.Outcome.{Outcome, and_then}
use Rattle.mo_syntax.specs.declared.place.Stop.{Stop}
use Rattle.mo_syntax.specs.declared.place.Stop.TheVariants.{Broken as broken_by, NoMemory as no_memory}
use Rattle.mo_scope.specs.Outcome as seen
use Rattle.mo_typing.specs.Outcome as told
use Rattle.mo_equations.specs.steps.Flats.{Answers}

-- ---- what comes of a value

pub answers_on : {T A B : Type 0} (Is : T → B → Type 0) (o : Outcome A) (f : A → Outcome B) (a : A) (result : Result T Stop) → o ≡ Ok a →
    Answers Is result (f a) → Answers Is result (and_then o f)
answers_on Is o f a result h next = subst (λ x. Answers Is result (and_then x f)) (sym h) next

-- ---- a rule that is broken, or want of memory

pub answers_stop : {T U A B : Type 0} (view : U → A) (Is : T → B → Type 0) (o : Outcome A) (f : A → Outcome B) (stop : Stop) →
    seen.Gives view (Err stop) o → Answers {T = T} Is (Err stop) (and_then o f)
answers_stop view Is o f (broken_by broken) h = rw h refl
answers_stop view Is o f no_memory h = tt

pub answers_halt : {T A B : Type 0} (Is : T → B → Type 0) (o : Outcome A) (f : A → Outcome B) (stop : Stop) →
    told.Gives {T = A} (Err stop) o → Answers {T = T} Is (Err stop) (and_then o f)
answers_halt Is o f (broken_by broken) h = rw h refl
answers_halt Is o f no_memory h = tt

pub answers_fail : {T U A B : Type 0} (Was : U → A → Type 0) (Is : T → B → Type 0) (o : Outcome A) (f : A → Outcome B) (stop : Stop) →
    Answers {T = U} Was (Err stop) o → Answers {T = T} Is (Err stop) (and_then o f)
answers_fail Was Is o f (broken_by broken) h = rw h refl
answers_fail Was Is o f no_memory h = tt

-- an answer that is passed on as it is
pub answers_same : {T A : Type 0} (Is : T → A → Type 0) (stop : Stop) (o o' : Outcome A) → o ≡ o' → Answers {T = T} Is (Err stop) o → Answers {T = T} Is (Err stop) o'
answers_same Is stop o o' e h = subst (λ x. Answers Is (Err stop) x) e h

-- ---- values

-- a value that stands for one
pub answers_value : {T A : Type 0} (Is : T → A → Type 0) (value : T) (a : A) (o : Outcome A) → o ≡ Ok a → Is value a → Answers Is (Ok value) o
answers_value Is value a o h is = (a, h, is)

-- what comes of a value that stands for one
pub answers_then : {T U A B : Type 0} (Was : U → A → Type 0) (Is : T → B → Type 0) (o : Outcome A) (f : A → Outcome B) (u : U) (result : Result T Stop) →
    Answers Was (Ok u) o → ((a : A) → Was u a → Answers Is result (f a)) → Answers Is result (and_then o f)
answers_then Was Is o f u result h next = answers_on Is o f h.0 result h.1 (next h.0 h.2)
