-- The values of bindings.
use Rattle.std.proofs.Common.{◌≡◌, ℕ, zero, suc, ◌+◌, ◌≤◌, Bool, true, false, List, [], ◌∷◌, length, Option, Some, None, Ok, Err, refl, ap, sym, ◌∙◌, ⊎_elim, arith}
use Rattle.std.proofs.lemmas.Bool.{cases_lt}
use Rattle.std.specs.Prelude.{slice_get}
use Rattle.mo_syntax.specs.Outcome.{Outcome, and_then}
use Rattle.mo_syntax.specs.declared.expr.Expr.{Expr}
use Rattle.mo_syntax.specs.declared.place.Stop.{Stop}
use Rattle.mo_syntax.specs.declared.place.Stop.TheVariants.{Broken as broken_by, NoMemory as no_memory}
use Rattle.mo_scope.specs.declared.source.Picked.{Picked as PickedAt}
use Rattle.mo_scope.specs.Frames.{Frame, Source, Top, is_top}
use Rattle.mo_scope.specs.Names.{Child, child_of_member}
use Rattle.mo_scope.specs.Outcome.{Gives as GivesSeen}
use Rattle.mo_scope.specs.Parts.{Picked, held, picked_here}
use Rattle.mo_scope.specs.Rows.{Table}
use Rattle.mo_scope.specs.Sights.{picked_in}
use Rattle.mo_scope.specs.Worlds.{AreFrames, IsFrame, SourceEntry, World, frame_at, frame_in, frames_of, source_in, sources_in}
use Rattle.mo_scope.proofs.Numbered.{is_no_top, length_frames_from}
use Rattle.mo_syntax.specs.declared.meaning.Kind.{Kind}
use Rattle.mo_syntax.specs.declared.place.Place.{Place}
use Rattle.mo_typing.specs.Kinds.{accepts}
use Rattle.mo_typing.specs.Indices.{Index}
use Rattle.mo_typing.specs.Outcome.{Gives}
use Rattle.mo_values.specs.Scalars.{Known, if_it_has}
use Rattle.mo_eval.specs.Virtuals.{Ask, Element, Resolved, known_at}
use Rattle.mo_values.specs.Asked.{layered, fitted}
use Rattle.mo_eval.specs.Components.{element_value, value_in}
use Rattle.mo_eval.specs.steps.Asking.{bound_in, unbound}
use Rattle.mo_eval.proofs.Calling.{then_then}

-- the value of a binding, of the kinds that have values
pub value_by_bound : (read : Element → Outcome Known) (kind : Kind) (place : Place) (pending : Index) (resolved : Resolved) →
    and_then (bound_in read kind place pending resolved) (λ known. Ok (if_it_has kind known))
    ≡ and_then (layered (λ got. accepts kind got place) (fitted place pending) resolved.expression) (λ _. and_then (known_at read resolved pending) (λ known. Ok (if_it_has kind known)))
value_by_bound read kind place pending resolved =
    then_then (layered (λ got. accepts kind got place) (fitted place pending) resolved.expression) (λ _. known_at read resolved pending) (λ known. Ok (if_it_has kind known))

-- ---- what is picked

abbrev entry_real : World → SourceEntry → Type 0
entry_real world source = is_top (source_in (frames_of world) source).scope.frame ≡ false

held_some : (source : Source) (sources : List Source) (value : Expr) → (held source.piece.given).value ≡ Some value →
    picked_here (source ∷ sources) ≡ Some (record { value = value; scope = source.scope; pending = source.piece.pending })
held_some source sources value h = rw h refl

held_none : (source : Source) (sources : List Source) → (held source.piece.given).value ≡ None → picked_here (source ∷ sources) ≡ picked_here sources
held_none source sources h = rw h refl

picked_real : (world : World) (sources : List SourceEntry) → ((k : ℕ) (source : SourceEntry) → slice_get sources k ≡ Some source → entry_real world source) → (picked : Picked) →
    picked_here (sources_in (frames_of world) sources) ≡ Some picked → is_top picked.scope.frame ≡ false
picked_real world [] are picked e = absurd (let clash : ◌≡◌ {A = Option Picked} None (Some picked) = e in cc)
picked_real world (source ∷ sources) are picked e = go (held source.piece.given).value refl (picked_real world sources (λ k other at. are (suc k) other at) picked)
  where
    first : Source
    first = source_in (frames_of world) source

    go : (o : Option Expr) → (held source.piece.given).value ≡ o → (picked_here (sources_in (frames_of world) sources) ≡ Some picked → is_top picked.scope.frame ≡ false) → is_top picked.scope.frame ≡ false
    go (Some value) h others =
        let same : ◌≡◌ {A = Option Picked} (Some (record { value = value; scope = first.scope; pending = source.piece.pending })) (Some picked) = sym (held_some first (sources_in (frames_of world) sources) value h) ∙ e in
        let one : ◌≡◌ {A = Picked} (record { value = value; scope = first.scope; pending = source.piece.pending }) picked = cc in
        ap (λ (p : Picked). is_top p.scope.frame) (sym one) ∙ are zero source refl
    go None h others = others (sym (held_none first (sources_in (frames_of world) sources) h) ∙ e)

past_all : (frames : List Frame) (n : ℕ) → length frames ≤ n → frame_in frames n ≡ Top
past_all [] n all = refl
past_all (frame ∷ frames) zero all = absurd (omega arith)
past_all (frame ∷ frames) (suc n) all = past_all frames n (omega arith)

frames_counted : (world : World) → length (frames_of world) ≡ length world.entries
unfolding frames_of
frames_counted world =
    let from_zero : zero + length world.entries ≡ length world.entries = omega arith in
    length_frames_from [] world.entries ∙ from_zero

-- a number whose frame is not the top
is_numbered : (world : World) (n : ℕ) → is_top (frame_at world n) ≡ false → IsFrame world n
is_numbered world n real = ⊎_elim (λ is. is) past (cases_lt n (length world.entries))
  where
    past : length world.entries ≤ n → IsFrame world n
    past all =
        let counted = frames_counted world in
        absurd (let clash : ◌≡◌ {A = Bool} true false = sym (ap is_top (past_all (frames_of world) n (omega arith))) ∙ real in cc)

-- the frame of what is picked exists
pub picked_exists : (world : World) (sources : List SourceEntry) (picked : PickedAt) → AreFrames world sources → Some (picked_in (frames_of world) picked) ≡ picked_here (sources_in (frames_of world) sources) →
    IsFrame world picked.scope.now.frame.0
picked_exists world sources picked are is =
    is_numbered world picked.scope.now.frame.0
    (picked_real world sources (λ k source at. is_no_top world source.frame (are k source at)) (picked_in (frames_of world) picked) (sym is))

-- ---- the value of an element

module _ (table : Table) (ask : Ask) (element : Element) where
  pub child_halts : {T : Type 0} (view : T → Child) (stop : Stop) → GivesSeen view (Err stop) (child_of_member table element.member element.index) → Gives {T = Known} (Err stop) (element_value table ask element)
  child_halts view (broken_by broken) h = rw h refl
  child_halts view no_memory h = tt

  pub unbound_is : (child : Child) → child_of_member table element.member element.index ≡ Ok child → picked_here child.sources ≡ None → element_value table ask element ≡ unbound element
  unbound_is child h none = rw (h, none) refl

  pub bound_is : (child : Child) (picked : Picked) → child_of_member table element.member element.index ≡ Ok child → picked_here child.sources ≡ Some picked →
      element_value table ask element ≡ value_in table ask element.kind picked
  bound_is child picked h some = rw (h, some) refl
