-- What identifiers select along the first element, in later worlds.
use Rattle.std.proofs.Common.{◌≡◌, ℕ, zero, suc, ◌+◌, ◌-◌, ◌<◌, ◌≤◌, List, [], ◌∷◌, ◌++◌, length, drop, take, get_or, Option, Result, Ok, Err, ap, sym, subst, ◌∙◌, option_map, arith}
use Rattle.std.specs.Prelude.{IfSome}
use Rattle.std.proofs.lemmas.List.{drop_all, drop_more, length-drop, take_all}
use Rattle.mo_syntax.specs.Outcome.{Outcome, and_then}
use Rattle.mo_syntax.specs.declared.expr.Expr.{Expr}
use Rattle.mo_syntax.specs.declared.expr.PartOf.{PartOf}
use Rattle.mo_syntax.specs.declared.place.Stop.{Stop}
use Rattle.mo_scope.specs.declared.row.Member.{Member as MemberAt}
use Rattle.mo_scope.specs.Frames.{Member}
use Rattle.mo_scope.specs.Outcome.{Gives as GivesSeen}
use Rattle.mo_scope.specs.Places.{Every}
use Rattle.mo_scope.specs.Worlds.{World, Grows, IsFrame, frames_of, table_in}
use Rattle.mo_names.specs.Sights.{IsMember, member_of}
use Rattle.mo_names.proofs.Later.{grows_trans, member_later, table_later}
use Rattle.mo_typing.specs.Outcome.{Gives}
use Rattle.mo_eval.specs.declared.names.Name.{Name}
use Rattle.mo_eval.specs.declared.resolve.Site.{Site}
use Rattle.mo_eval.specs.declared.selections.Selection.{Selection as SelectionAt}
use Rattle.mo_eval.specs.Components.{reader, reading_by}
use Rattle.mo_eval.specs.Contexts.{Part}
use Rattle.mo_eval.specs.References.{Selection, selection_at, selections}
use Rattle.mo_eval.specs.steps.Sites.{elements_in, part_in}
use Rattle.mo_eval.specs.Values.{reading}
use Rattle.mo_eval.specs.steps.Absence.{Removal, reading_for}
use Rattle.mo_eval.specs.steps.Naming.{AreNames, name_seen, names_seen}
use Rattle.mo_eval.specs.steps.Parts.{as_identifier}
use Rattle.mo_eval.specs.steps.Selecting.{member_behind, reading_in, selections_seen}
use Rattle.mo_eval.proofs.Chosen.{behind_halts, selection_halts, selection_more, selections_end}
use Rattle.mo_eval.proofs.Earlier.{every_at, seen_as, some_member}
use Rattle.mo_eval.proofs.Growing.{same_parts}
use Rattle.mo_eval.proofs.Naming.{names_later}

pub every_drop : {A : Type 0} (P : A → Type 0) (k : ℕ) (xs : List A) → Every P xs → Every P (drop k xs)
every_drop P zero xs are = are
every_drop P (suc k) [] are = tt
every_drop P (suc k) (x ∷ xs) are = every_drop P k xs are.1

-- what a slice from a place on holds
pub rest_of : {A : Type 0} (xs : List A) (n : ℕ) → n ≤ length xs → take (length xs - n) (drop n xs) ≡ drop n xs
rest_of xs n within = take_all (length xs - n) (drop n xs) (rw (length-drop n xs) (omega arith))

pub selection_earlier : (u v : World) → Grows u v → (site : Site) → IsFrame u site.at.now.frame.0 → (asking : Removal) (deeper : ℕ) (member : Option Member) (name : Name) → IsMember u name.member →
    selection_at (table_in v) (reading_in asking v deeper) (elements_in v site.left) member (name_seen (part_in v site) (frames_of v) name)
    ≡ selection_at (table_in u) (reading_in asking u deeper) (elements_in u site.left) member (name_seen (part_in u site) (frames_of u) name)
selection_earlier u v g site frame asking deeper member name is =
    ap (λ t. selection_at t (reading_for asking (reading_by t (reading t deeper))) (reader (reading t site.left)) member (name_seen (part_in v site) (frames_of v) name)) (table_later u v g)
    ∙ (ap (λ (part : Expr → Part). selection_at (table_in u) (reading_in asking u deeper) (elements_in u site.left) member (name_seen part (frames_of v) name)) (same_parts u v site g frame)
    ∙ ap (λ (m : Member). selection_at (table_in u) (reading_in asking u deeper) (elements_in u site.left) member (m, as_identifier (part_in u site) name.part.now)) (member_later u v name.member g is))

pub behind_earlier : (u v w : World) → Grows u w → Grows v w → (f : Expr → Part) (member : Option MemberAt) (selection : Selection) (names : List Name) → IfSome member (IsMember v) → AreNames u names →
    member_behind (table_in w) (option_map (member_of (frames_of w)) member) selection (names_seen f (frames_of w) names)
    ≡ member_behind (table_in u) (option_map (member_of (frames_of v)) member) selection (names_seen f (frames_of u) names)
behind_earlier u v w uw vw f member selection names is are =
    ap (λ t. member_behind t (option_map (member_of (frames_of w)) member) selection (names_seen f (frames_of w) names)) (table_later u w uw)
    ∙ (ap (λ (m : Option Member). member_behind (table_in u) m selection (names_seen f (frames_of w) names)) (some_member v w vw member is)
    ∙ ap (λ ns. member_behind (table_in u) (option_map (member_of (frames_of v)) member) selection ns) (names_later u w uw f names are))

-- one identifier more
module _ (u v w : World) (uv : Grows u v) (vw : Grows v w) (site : Site) (frame : IsFrame u site.at.now.frame.0) (asking : Removal) (deeper : ℕ) (names : List Name) (are : AreNames u names) (i : ℕ) (name : Name)
    (small : i < length names) (at : name ≡ get_or names i name) (member : Option MemberAt) (there : IfSome member (IsMember v)) (made : List SelectionAt) (whole : Outcome (List Selection))
    (left : and_then (selections (table_in u) (reading_in asking u deeper) (elements_in u site.left) (option_map (member_of (frames_of v)) member) (names_seen (part_in u site) (frames_of u) (drop i names))) (λ more. Ok (selections_seen made ++ more)) ≡ whole) where
  abbrev here : Option Member
  here = option_map (member_of (frames_of v)) member

  abbrev first : Member × PartOf Part
  first = name_seen (part_in u site) (frames_of u) name

  abbrev others : List (Member × PartOf Part)
  others = names_seen (part_in u site) (frames_of u) (drop (i + 1) names)

  is_named : IsMember u name.member
  is_named = subst (λ (n : Name). IsMember u n.member) (sym at) (every_at (λ (n : Name). IsMember u n.member) names i name small are)

  opened : and_then (selections (table_in u) (reading_in asking u deeper) (elements_in u site.left) here (first ∷ others)) (λ more. Ok (selections_seen made ++ more)) ≡ whole
  opened =
      ap (λ xs. and_then (selections (table_in u) (reading_in asking u deeper) (elements_in u site.left) here (names_seen (part_in u site) (frames_of u) xs)) (λ more. Ok (selections_seen made ++ more)))
      (ap (λ x. x ∷ drop (i + 1) names) at ∙ sym (drop_more names i name small))
      ∙ left

  chosen_earlier : {T : Type 0} (view : T → Selection) (answer : Result T Stop) → GivesSeen view answer (selection_at (table_in v) (reading_in asking v deeper) (elements_in v site.left) here (name_seen (part_in v site) (frames_of v) name)) →
      GivesSeen view answer (selection_at (table_in u) (reading_in asking u deeper) (elements_in u site.left) here first)
  chosen_earlier view answer told = seen_as view answer _ _ (selection_earlier u v uv site frame asking deeper here name is_named) told

  pub selecting_halts : {T : Type 0} (view : T → Selection) (stop : Stop) → GivesSeen {T = T} view (Err stop) (selection_at (table_in v) (reading_in asking v deeper) (elements_in v site.left) here (name_seen (part_in v site) (frames_of v) name)) →
      Gives {T = List Selection} (Err stop) whole
  selecting_halts view stop told = selection_halts (table_in u) (reading_in asking u deeper) (elements_in u site.left) (selections_seen made) here first others whole opened view stop (chosen_earlier view (Err stop) told)

  module _ (selection : Selection) (chosen : selection_at (table_in v) (reading_in asking v deeper) (elements_in v site.left) here (name_seen (part_in v site) (frames_of v) name) ≡ Ok selection) where
    chosen_first : selection_at (table_in u) (reading_in asking u deeper) (elements_in u site.left) here first ≡ Ok selection
    chosen_first = sym (selection_earlier u v uv site frame asking deeper here name is_named) ∙ chosen

    next_earlier : member_behind (table_in w) (option_map (member_of (frames_of w)) member) selection (names_seen (part_in u site) (frames_of w) (drop (i + 1) names)) ≡ member_behind (table_in u) here selection others
    next_earlier = behind_earlier u v w (grows_trans u v w uv vw) vw (part_in u site) member selection (drop (i + 1) names) there (every_drop _ (i + 1) names are)

    pub going_halts : {T : Type 0} (view : T → Option Member) (stop : Stop) →
        GivesSeen {T = T} view (Err stop) (member_behind (table_in w) (option_map (member_of (frames_of w)) member) selection (names_seen (part_in u site) (frames_of w) (drop (i + 1) names))) → Gives {T = List Selection} (Err stop) whole
    going_halts view stop told =
        behind_halts (table_in u) (reading_in asking u deeper) (elements_in u site.left) (selections_seen made) here first others whole opened view selection stop chosen_first (seen_as view (Err stop) _ _ next_earlier told)

    pub going_on : (behind : Option Member) (after : List SelectionAt) → selections_seen after ≡ selections_seen made ++ selection ∷ [] →
        member_behind (table_in w) (option_map (member_of (frames_of w)) member) selection (names_seen (part_in u site) (frames_of w) (drop (i + 1) names)) ≡ Ok behind →
        and_then (selections (table_in u) (reading_in asking u deeper) (elements_in u site.left) behind others) (λ more. Ok (selections_seen after ++ more)) ≡ whole
    going_on behind after put told =
        ap (λ before. and_then (selections (table_in u) (reading_in asking u deeper) (elements_in u site.left) behind others) (λ more. Ok (before ++ more))) put
        ∙ selection_more (table_in u) (reading_in asking u deeper) (elements_in u site.left) (selections_seen made) here first others whole opened selection behind chosen_first (sym next_earlier ∙ told)

-- all
pub all_selected : (u : World) (site : Site) (asking : Removal) (deeper : ℕ) (member : Option Member) (names : List Name) (i : ℕ) (made : List SelectionAt) (whole : Outcome (List Selection)) → length names ≤ i →
    and_then (selections (table_in u) (reading_in asking u deeper) (elements_in u site.left) member (names_seen (part_in u site) (frames_of u) (drop i names))) (λ more. Ok (selections_seen made ++ more)) ≡ whole → whole ≡ Ok (selections_seen made)
all_selected u site asking deeper member names i made whole all left =
    selections_end (table_in u) (reading_in asking u deeper) (elements_in u site.left) (selections_seen made) member whole
    (ap (λ xs. and_then (selections (table_in u) (reading_in asking u deeper) (elements_in u site.left) member (names_seen (part_in u site) (frames_of u) xs)) (λ more. Ok (selections_seen made ++ more))) (sym (drop_all i names all)) ∙ left)
