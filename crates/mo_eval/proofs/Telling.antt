-- How a walk that reads its variables ends.
use Rattle.std.proofs.Common.{List, Result, Ok, Err}
use Rattle.std.specs.Prelude.{IfOk}
use Rattle.mo_syntax.specs.Outcome.{Outcome}
use Rattle.mo_syntax.specs.declared.place.Stop.{Stop}
use Rattle.mo_syntax.specs.declared.place.Stop.TheVariants.{Broken as broken_by, NoMemory as no_memory}
use Rattle.mo_typing.specs.Outcome.{Gives}
use Rattle.mo_values.specs.Scalars.{Known}
use Rattle.mo_eval.specs.Virtuals.{Element, Virtual}
use Rattle.mo_values.specs.Told.{Reads}
use Rattle.mo_eval.specs.Sequence.{IsStep}

-- a walk that ends
pub step_halts : (read : Element → Outcome Known) (virtuals : List Virtual) (reads : Reads) (stop : Stop) (told : Outcome Known) →
    IsStep read virtuals reads (Err stop) told → Gives {T = Known} (Err stop) told
step_halts read virtuals reads (broken_by broken) told h = h
step_halts read virtuals reads no_memory told h = tt

-- what holds of an answer
pub if_ok : {A E : Type 0} (answer : Result A E) (P Q : A → Type 0) → ((a : A) → P a → Q a) → IfOk answer P → IfOk answer Q
if_ok (Ok a) P Q f h = f a h
if_ok (Err e) P Q f h = tt
