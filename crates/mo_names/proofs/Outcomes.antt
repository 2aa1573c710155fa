-- Outcomes, one after another, and answers that are told of them.
use Rattle.std.proofs.Common.{◌≡◌, Result, Ok, Err, sym, subst, ◌∙◌}
use Rattle.std.specs.Prelude.{IfOk, IsErrAnd}
use Rattle.mo_syntax.specs.Outcome.{Outcome, and_then}
use Rattle.mo_syntax.specs.declared.place.Stop.{Stop}
use Rattle.mo_scope.specs.Outcome.{Gives}
use Rattle.mo_names.proofs.Circling.{err_on, then_ok}

-- an answer that is no value, where what it is told of comes to the same outcome
pub exit_same : {T U A B : Type 0} (view : T → A) (view' : U → B) (r : Result U Stop) (e : Stop) (o o' : Outcome A) (f : A → Outcome B) (all : Outcome B) → r ≡ Err e → o ≡ o' → Gives view (Err e) o →
    and_then o' f ≡ all → Gives view' r all
exit_same view view' r e o o' f all is same value left = rw is (err_on view view' e o' f all (subst (Gives view (Err e)) same value) left)

-- the answer itself, where what it is told of comes to the same outcome
pub gives_same : {T A : Type 0} (view : T → A) (r : Result T Stop) (o all : Outcome A) → o ≡ all → Gives view r o → Gives view r all
gives_same view r o all same value = subst (Gives view r) same value

-- what follows from a value
pub then_same_ok : {A B : Type 0} (o o' : Outcome A) (f : A → Outcome B) (a : A) (all : Outcome B) → o ≡ o' → and_then o' f ≡ all → o ≡ Ok a → f a ≡ all
then_same_ok o o' f a all same is ok = then_ok o' f a all is (sym same ∙ ok)

-- an exit tells nothing of a value
pub at_exit : {T E : Type 0} (P : T → Type 0) (Q : E → Type 0) (r : Result T E) → IsErrAnd r Q → IfOk r P
at_exit P Q (Ok x) h = absurd h
at_exit P Q (Err e) h = tt
