-- A rule that is broken as a flat model is written is broken at the model, or at one of its equations.
use Rattle.std.proofs.Common.{◌≡◌, ℕ, Bool, true, false, ◌&&◌, List, [], ◌∷◌, Option, Some, None, subst, nat_le, if◌then◌else◌}
use Rattle.mo_syntax.specs.declared.place.Broken.{Broken}
use Rattle.mo_syntax.specs.declared.place.Place.{Place}
use Rattle.mo_flat.specs.declared.model.FlatEquation.{FlatEquation}
use Rattle.mo_flat.specs.declared.model.FlatModel.{FlatModel}
use Rattle.mo_flat.specs.declared.model.FlatVar.{FlatVar}
use Rattle.mo_symdiff.specs.Carried.{carries}
use Rattle.mo_symdiff.specs.Reduced.{differentiates_given, first_given, too_large}
use Rattle.mo_incidence.specs.Model.{first_uncarried, incidence_of, refusal_of, refused}
use Rattle.mo_incidence.specs.Signature.{entries}
use Rattle.mo_incidence.specs.declared.findings.Offsets.{Offsets}
use Rattle.mo_front.specs.declared.words.Emit.{Emit}
use Rattle.mo_front.specs.declared.words.Emit.TheVariants as emit
use Rattle.mo_front.specs.Emitted.{PhasesBreak, this_one, later, ReducedBreaks, no_offsets, given, large, nothing, Refuses, no_incidence, no_text, asked_by, report_refusal}
use Rattle.mo_places.specs.Written.{Written, At}
use Rattle.mo_places.specs.Stands.{Every, IfAny}
use Rattle.mo_places.specs.MadeStands.{EquationStands, ModelStands}

module _ (P : Written → Type 0) where
  abbrev BrokenAt : Broken → Type 0
  BrokenAt b = P (At b.place)

  abbrev PlaceAt : Place → Type 0
  PlaceAt place = P (At place)

  if_place : (b : Bool) (place : Place) (others : Option Place) → PlaceAt place → IfAny PlaceAt others → IfAny PlaceAt (if b then Some place else others)
  if_place true place others h ho = h
  if_place false place others h ho = ho

  unless_place : (b : Bool) (place : Place) (others : Option Place) → PlaceAt place → IfAny PlaceAt others → IfAny PlaceAt (if b then others else Some place)
  unless_place true place others h ho = ho
  unless_place false place others h ho = h

  uncarried_stands : (vars : List FlatVar) (equations : List FlatEquation) → Every (EquationStands P) equations → IfAny PlaceAt (first_uncarried vars equations)
  uncarried_stands vars [] h = tt
  uncarried_stands vars (q ∷ qs) h = unless_place (carries vars q.left && carries vars q.right) q.place (first_uncarried vars qs) h.0 (uncarried_stands vars qs h.1)

  given_stands : (vars : List FlatVar) (equations : List FlatEquation) (counts : List ℕ) → Every (EquationStands P) equations → IfAny PlaceAt (first_given vars equations counts)
  given_stands vars [] counts h = tt
  given_stands vars (q ∷ qs) [] h = tt
  given_stands vars (q ∷ qs) (count ∷ counts) h = if_place (differentiates_given vars q count) q.place (first_given vars qs counts) h.0 (given_stands vars qs counts h.1)

  refused_stands : (place : Option Place) (few : Bool) (name : Place) → IfAny PlaceAt place → PlaceAt name → IfAny BrokenAt (refused place few name)
  refused_stands (Some place) few name h hn = h
  refused_stands None true name h hn = tt
  refused_stands None false name h hn = hn

  module _ (m : FlatModel) (stands : ModelStands P m) where
    incidence_stands : IfAny BrokenAt (refusal_of m)
    unfolding refusal_of
    incidence_stands = refused_stands (first_uncarried m.vars m.equations) (nat_le (entries (incidence_of m)) 1000000) m.place (uncarried_stands m.vars m.equations stands.equations) stands.place

    size_stands : (b : Bool) → IfAny BrokenAt (if b then None else Some (too_large m))
    size_stands true = tt
    size_stands false = stands.place

    reduced_stands : (offsets : Option Offsets) (o : Option Broken) → ReducedBreaks m offsets o → IfAny BrokenAt o
    reduced_stands None o no_offsets = tt
    reduced_stands (Some offsets) o (given place first) = subst (IfAny PlaceAt) first (given_stands m.vars m.equations offsets.c.items stands.equations)
    reduced_stands (Some offsets) o (large none past) = stands.place
    reduced_stands (Some offsets) o (nothing none within) = tt

    report_stands : (r : Option Offsets) (o : Option Broken) → report_refusal m r ≡ o → IfAny BrokenAt o
    report_stands r o is = subst (IfAny BrokenAt) is (size_stands _)

    -- the phases of each value, one by one
    phases_stand : (asked : Emit) (r : Option Offsets) (b : Broken) → PhasesBreak m r (asked_by asked).phases (Some b) → BrokenAt b
    phases_stand emit.Flat r b breaks = elim breaks [ ]
    phases_stand emit.Reduced r b (this_one breaks) = reduced_stands r (Some b) breaks
    phases_stand emit.Reduced r b (later passed more) = elim more [ ]
    phases_stand emit.Report r b (this_one breaks) = report_stands r (Some b) breaks
    phases_stand emit.Report r b (later passed more) = elim more [ ]
    phases_stand emit.All r b (this_one breaks) = report_stands r (Some b) breaks
    phases_stand emit.All r b (later passed (this_one breaks)) = reduced_stands r (Some b) breaks
    phases_stand emit.All r b (later passed (later others more)) = elim more [ ]
    phases_stand emit.Json r b (this_one breaks) = report_stands r (Some b) breaks
    phases_stand emit.Json r b (later passed more) = elim more [ ]
    phases_stand emit.States r b (this_one breaks) = report_stands r (Some b) breaks
    phases_stand emit.States r b (later passed more) = elim more [ ]
    phases_stand emit.Alias r b (this_one breaks) = report_stands r (Some b) breaks
    phases_stand emit.Alias r b (later passed more) = elim more [ ]

    pub refuses_stands : (asked : Emit) (b : Broken) → Refuses asked m b → BrokenAt b
    refuses_stands asked b (no_incidence some is) = subst (IfAny BrokenAt) is incidence_stands
    refuses_stands asked b (no_text r some fine right breaks) = phases_stand asked r b breaks
