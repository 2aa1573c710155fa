-- What the components of an end select.
use Rattle.std.proofs.Common.{◌≡◌, ℕ, ◌<◌, false, List, [], ◌∷◌, length, get_or, Some, Ok, Err, refl, ap, sym, subst, ◌∙◌, arith}
use Rattle.std.specs.Prelude.{nat_eq}
use Rattle.mo_syntax.specs.Outcome.{Outcome, and_then}
use Rattle.mo_syntax.specs.declared.expr.Expr.{Expr}
use Rattle.mo_syntax.specs.declared.expr.ReferenceOf.{ReferenceOf}
use Rattle.mo_syntax.specs.declared.place.Broken.{Broken}
use Rattle.mo_syntax.specs.declared.place.Place.{Place}
use Rattle.mo_syntax.specs.declared.place.Stop.{Stop}
use Rattle.mo_syntax.specs.declared.place.Stop.TheVariants.{Broken as broken_by, NoMemory as no_memory}
use Rattle.mo_scope.specs.Frames.{Frame, Member}
use Rattle.mo_scope.specs.Outcome.{Gives as GivesSeen}
use Rattle.mo_scope.specs.Rows.{Table}
use Rattle.mo_scope.specs.Worlds.{World, Grows, IsFrame, frames_of, table_in}
use Rattle.mo_scope.specs.declared.row.Member.{Member as MemberAt}
use Rattle.mo_names.specs.Sights.{IsMember, member_of}
use Rattle.mo_names.proofs.Later.{table_later}
use Rattle.mo_typing.specs.Indices.{Index}
use Rattle.mo_typing.specs.Outcome.{Gives}
use Rattle.mo_eval.specs.declared.ends.Selected.{Selected as SelectedAt}
use Rattle.mo_eval.specs.declared.names.Name.{Name}
use Rattle.mo_eval.specs.declared.resolve.Site.{Site}
use Rattle.mo_eval.specs.Ends.{Ended, Is_removed, Selected, ended_by, ended_in, ended_of, first_identifier, removed, unless_removed, with_parts}
use Rattle.mo_eval.specs.Components.{reading_by}
use Rattle.mo_eval.specs.Contexts.{Part}
use Rattle.mo_eval.specs.References.{Components, Named, Selection, elements_selected, named, selections}
use Rattle.mo_eval.specs.Resolving.{made}
use Rattle.mo_eval.specs.Values.{reading}
use Rattle.mo_eval.specs.steps.Sites.{elements_in, part_in, scope_of}
use Rattle.mo_eval.specs.steps.Absence.{Removes, reading_for}
use Rattle.mo_eval.specs.steps.Ending.{selected_by, selection_of}
use Rattle.mo_eval.specs.steps.Naming.{names_seen}
use Rattle.mo_eval.specs.steps.Parts.{as_reference}
use Rattle.mo_eval.specs.steps.Selecting.{reading_in}
use Rattle.mo_eval.proofs.Earlier.{of_member}
use Rattle.mo_eval.proofs.Growing.{same_parts}
use Rattle.mo_eval.proofs.Reference.{one_less}
use Rattle.mo_eval.proofs.Referring.{opened_names}

-- ---- what is selected

module _ (w : World) (site : Site) (place : Place) (names : List Name) (first : Name) (some : 0 < length names) (is : first ≡ get_or names 0 first) (left : site.left ≡ 256) (deeper : ℕ) (less : deeper ≡ 255) where
  abbrev pub told : Outcome Ended
  told = selected_by (table_in w) place (names_seen (part_in w site) (frames_of w) names)

  abbrev pub choice : Outcome (List Selection)
  choice = selections (table_in w) (reading_in Removes w deeper) (elements_in w site.left) (Some (member_of (frames_of w) first.member)) (names_seen (part_in w site) (frames_of w) names)

  abbrev rest : Outcome (List Selection) → Outcome Ended
  rest o =
      and_then (and_then {B = Selected} o (λ chosen.
      and_then {B = Selected} (elements_selected (table_in w) (reading_in Removes w deeper) place (member_of (frames_of w) first.member) chosen) (λ elements.
      Ok (record { chosen = chosen; elements = elements }))))
      (λ selected. Ok (ended_by (Some selected)))

  as_rest : told ≡ rest choice
  as_rest = rw (opened_names names first some is, less, left) (rw (one_less (table_in w) 256 255 place refl) refl)

  pub no_choice : (view : SelectedAt → Ended) (stop : Stop) → Gives {T = List Selection} (Err stop) choice → GivesSeen view (Err stop) told
  no_choice view (broken_by broken) h = as_rest ∙ ap rest h
  no_choice view no_memory h = tt

  module _ (chosen : List Selection) (chose : choice ≡ Ok chosen) where
    abbrev found : Outcome (List (Member × Index)) → Outcome Ended
    found o = and_then (and_then {B = Selected} o (λ elements. Ok (record { chosen = chosen; elements = elements }))) (λ selected. Ok (ended_by (Some selected)))

    pub no_elements : (view : SelectedAt → Ended) (stop : Stop) → Gives {T = List (Member × Index)} (Err stop) (elements_selected (table_in w) (reading_in Removes w deeper) place (member_of (frames_of w) first.member) chosen) →
        GivesSeen view (Err stop) told
    no_elements view (broken_by broken) h = as_rest ∙ (ap rest chose ∙ ap found h)
    no_elements view no_memory h = tt

    pub all_chosen : (elements : List (Member × Index)) → elements_selected (table_in w) (reading_in Removes w deeper) place (member_of (frames_of w) first.member) chosen ≡ Ok elements →
        told ≡ Ok (ended_by (Some (record { chosen = chosen; elements = elements })))
    all_chosen elements h = as_rest ∙ (ap rest chose ∙ ap found h)

-- in a later world
pub elements_before : (w u : World) → Grows w u → (m : MemberAt) → IsMember w m → (deeper : ℕ) (place : Place) (chosen : List Selection) →
    elements_selected (table_in u) (reading_in Removes u deeper) place (member_of (frames_of u) m) chosen ≡ elements_selected (table_in w) (reading_in Removes w deeper) place (member_of (frames_of w) m) chosen
elements_before w u g m is deeper place chosen = of_member (λ t x. elements_selected t (reading_for Removes (reading_by t (reading t deeper))) place x chosen) w u g m is

-- ---- what identifiers find

pub with_some : (table : Table) (place : Place) (f : Expr → Part) (frames : List Frame) (names : List Name) → 0 < length names →
    and_then (unless_removed (selection_of table place (names_seen f frames names))) (λ selected. Ok (ended_by selected)) ≡ ended_in table place (Components (names_seen f frames names))
with_some table place f frames [] some = absurd (omega arith)
with_some table place f frames (x ∷ xs) some = refl

pub ending_halts : {T U : Type 0} (seen : U → Named) (view : T → Ended) (stop : Stop) (outcome : Outcome Named) (f : Named → Outcome Ended) → GivesSeen {T = U} seen (Err stop) outcome → GivesSeen {T = T} view (Err stop) (and_then outcome f)
ending_halts seen view (broken_by broken) outcome f h = ap (λ o. and_then o f) h
ending_halts seen view no_memory outcome f h = tt

module _ (w : World) (site : Site) (left : site.left ≡ 256) (reference : ReferenceOf Expr) where
  abbrev named_here : Outcome Named
  named_here = named (table_in w) (scope_of w site) (as_reference (part_in w site) reference)

  as_named : named_here ≡ named (table_in w) (scope_of w site) (with_parts (table_in w) (scope_of w site) reference)
  as_named = ap (λ n. named (table_in w) (scope_of w site) (as_reference (λ e. (e, made (table_in w) (reading (table_in w) n) (scope_of w site) e)) reference)) left

  abbrev ended_on : Outcome Named → Outcome Ended
  ended_on o = and_then o (ended_in (table_in w) (first_identifier reference.parts))

  pub no_names : {T U : Type 0} (seen : U → Named) (view : T → Ended) (stop : Stop) → GivesSeen {T = U} seen (Err stop) named_here → GivesSeen {T = T} view (Err stop) (ended_of (table_in w) (scope_of w site) reference)
  no_names {T = T} seen view stop h = subst (GivesSeen {T = T} view (Err stop)) (ap ended_on as_named) (ending_halts seen view stop named_here _ h)

  pub names_end : (it : Named) → named_here ≡ Ok it → ended_of (table_in w) (scope_of w site) reference ≡ ended_in (table_in w) (first_identifier reference.parts) it
  names_end it found = ap ended_on (sym as_named ∙ found)

  pub components_end : (u : World) → Grows w u → IsFrame w site.at.now.frame.0 → (names : List Name) → named_here ≡ Ok (Components (names_seen (part_in w site) (frames_of u) names)) →
      ended_in (table_in u) (first_identifier reference.parts) (Components (names_seen (part_in u site) (frames_of u) names)) ≡ ended_of (table_in w) (scope_of w site) reference
  components_end u g frame names found =
      ap (λ t. ended_in t (first_identifier reference.parts) (Components (names_seen (part_in u site) (frames_of u) names))) (table_later w u g)
      ∙ (ap (λ (f : Expr → Part). ended_in (table_in w) (first_identifier reference.parts) (Components (names_seen f (frames_of u) names))) (same_parts w u site g frame)
      ∙ sym (names_end (Components (names_seen (part_in w site) (frames_of u) names)) found))

-- ---- an end that is removed

selected_is : (outcome : Outcome Selected) (seen : Ended) → and_then outcome (λ selected. Ok (ended_by (Some selected))) ≡ Ok seen → and_then (unless_removed outcome) (λ selected. Ok (ended_by selected)) ≡ Ok seen
selected_is (Ok selected) seen h = h
selected_is (Err broken) seen h = absurd (let clash : ◌≡◌ {A = Outcome Ended} (Err broken) (Ok seen) = h in cc)

broken_is : (outcome : Outcome Selected) (broken : Broken) → and_then outcome (λ selected. Ok (ended_by (Some selected))) ≡ Err broken → outcome ≡ Err broken
broken_is (Ok selected) broken h = absurd (let clash : ◌≡◌ {A = Outcome Ended} (Ok (ended_by (Some selected))) (Err broken) = h in cc)
broken_is (Err other) broken h = let same : other ≡ broken = let e : ◌≡◌ {A = Outcome Ended} (Err other) (Err broken) = h in cc in ap Err same

pub selected_ends : (outcome : Outcome Selected) (seen : Ended) → and_then outcome (λ selected. Ok (ended_by (Some selected))) ≡ Ok seen → and_then (unless_removed outcome) (λ selected. Ok (ended_by selected)) ≡ Ok seen
selected_ends outcome seen h = selected_is outcome seen h

pub removed_ends : (outcome : Outcome Selected) → and_then outcome (λ selected. Ok (ended_by (Some selected))) ≡ Err removed → and_then (unless_removed outcome) (λ selected. Ok (ended_by selected)) ≡ Ok Is_removed
removed_ends outcome h = rw (broken_is outcome removed h) refl

pub broken_ends : (outcome : Outcome Selected) (broken : Broken) → nat_eq broken.rule 0 ≡ false → and_then outcome (λ selected. Ok (ended_by (Some selected))) ≡ Err broken →
    and_then (unless_removed outcome) (λ selected. Ok (ended_by selected)) ≡ Err broken
broken_ends outcome broken rule h = rw (broken_is outcome broken h) (rw rule refl)
