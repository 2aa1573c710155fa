-- What is asked of a component, for an expression and for an end of a connect.
use Rattle.std.proofs.Common.{◌≡◌, Bool, true, false, Result, Ok, Err, refl, sym, subst}
use Rattle.std.specs.Prelude.{IfOk}
use Rattle.mo_syntax.specs.Outcome.{Outcome}
use Rattle.mo_syntax.specs.declared.place.Place.{Place}
use Rattle.mo_syntax.specs.declared.place.Stop.{Stop}
use Rattle.mo_syntax.specs.declared.place.Stop.TheVariants.{Broken as broken_by, NoMemory as no_memory}
use Rattle.mo_scope.specs.Frames.{Member}
use Rattle.mo_scope.specs.Outcome.{Gives as GivesSeen}
use Rattle.mo_typing.specs.Outcome.{Gives}
use Rattle.mo_eval.specs.declared.absent.Absent.{Absent}
use Rattle.mo_eval.specs.References.{there}
use Rattle.mo_eval.specs.Virtuals.{Reading}
use Rattle.mo_eval.specs.steps.Absence.{Removal, Breaks, Removes, as_stopped, broken_for, reading_for, stop_for}

-- dimensions are read alike
pub dims_for : (asking : Removal) (reading : Reading) (member : Member) → (reading_for asking reading).dims member ≡ reading.dims member
dims_for Breaks reading member = refl
dims_for Removes reading member = refl

pub there_stops : (asking : Removal) (reading : Reading) (place : Place) (member : Member) (stop : Stop) → Gives {T = Bool} (Err stop) (reading.is_there member) → Gives {T = Unit {0}} (Err stop) (there (reading_for asking reading) place member)
there_stops Breaks reading place member (broken_by broken) h = rw h refl
there_stops Breaks reading place member no_memory h = tt
there_stops Removes reading place member (broken_by broken) h = rw h refl
there_stops Removes reading place member no_memory h = tt

pub is_there_for : (asking : Removal) (reading : Reading) (place : Place) (member : Member) → reading.is_there member ≡ Ok true → there (reading_for asking reading) place member ≡ Ok tt
is_there_for Breaks reading place member h = rw h refl
is_there_for Removes reading place member h = rw h refl

pub removed_for : (asking : Removal) (reading : Reading) (place : Place) (member : Member) → reading.is_there member ≡ Ok false → there (reading_for asking reading) place member ≡ Err (broken_for asking place)
removed_for Breaks reading place member h = rw h refl
removed_for Removes reading place member h = rw h refl

-- what is told in an expression
pub told_broken : {T A : Type 0} (view : T → A) (answer : Result T Absent) (result : Result T Stop) (told : Outcome A) → result ≡ as_stopped Breaks answer → GivesSeen view (as_stopped Breaks answer) told → GivesSeen view result told
told_broken view answer result told e h = subst (λ r. GivesSeen view r told) (sym e) h

pub if_told : {T : Type 0} (answer : Result T Absent) (value : T) (P : T → Type 0) → Ok value ≡ as_stopped Breaks answer → IfOk answer P → P value
if_told {T = T} (Ok x) value P e h = let same : x ≡ value = let ok : ◌≡◌ {A = Result T Stop} (Ok value) (Ok x) = e in cc in subst P same h
if_told {T = T} (Err absent) value P e h = absurd (let clash : ◌≡◌ {A = Result T Stop} (Ok value) (Err (stop_for Breaks absent)) = e in cc)

-- what breaks no rule
pub breaks_nothing : {T A B : Type 0} (stop : Stop) (value : A) (view : T → B) (told : Outcome B) → Gives {T = A} (Err stop) (Ok value) → GivesSeen {T = T} view (Err stop) told
breaks_nothing {A = A} (broken_by broken) value view told h = absurd (let clash : ◌≡◌ {A = Outcome A} (Ok value) (Err broken) = h in cc)
breaks_nothing no_memory value view told h = tt
