-- The elements that are selected below a component, index by index.
use Rattle.std.proofs.Common.{◌≡◌, ℕ, ◌+◌, ◌-◌, ◌<◌, ◌≤◌, List, [], ◌∷◌, ◌++◌, length, drop, take, get_or, map, Ok, Err, refl, ap, sym, ◌∙◌, arith}
use Rattle.std.proofs.lemmas.List.{append-nil, drop_all, drop_more, map-append}
use Rattle.mo_syntax.specs.Outcome.{Outcome, and_then}
use Rattle.mo_syntax.specs.declared.place.Place.{Place}
use Rattle.mo_syntax.specs.declared.place.Stop.{Stop}
use Rattle.mo_syntax.specs.declared.place.Stop.TheVariants.{Broken as broken_by, NoMemory as no_memory}
use Rattle.mo_scope.specs.Frames.{Frame, Member}
use Rattle.mo_scope.specs.declared.row.Member.{Member as MemberAt}
use Rattle.mo_scope.specs.Outcome.{Gives as GivesSeen}
use Rattle.mo_scope.specs.Places.{Every}
use Rattle.mo_scope.specs.Rows.{Table}
use Rattle.mo_scope.specs.Worlds.{World, Grows, frames_of, table_in}
use Rattle.mo_names.specs.Sights.{IsMember, member_of}
use Rattle.mo_names.proofs.Later.{grows_trans, table_later}
use Rattle.mo_typing.specs.Indices.{Index}
use Rattle.mo_typing.specs.Outcome.{Gives}
use Rattle.mo_eval.specs.declared.selections.Selection.{Selection as SelectionAt}
use Rattle.mo_eval.specs.Components.{reading_by}
use Rattle.mo_eval.specs.Values.{reading}
use Rattle.mo_eval.specs.Virtuals.{Reading}
use Rattle.mo_eval.specs.References.{Selection, agrees, component_behind, elements_below}
use Rattle.mo_values.specs.Selected.{selected}
use Rattle.mo_eval.specs.steps.Absence.{Removal, reading_for}
use Rattle.mo_eval.specs.steps.Selecting.{each_below, elements_more, elements_seen, reading_in, selection_seen, selections_seen}
use Rattle.mo_eval.proofs.Along.{rest_of}
use Rattle.mo_eval.proofs.Chosen.{below_by, each_step, first_of}
use Rattle.mo_eval.proofs.Earlier.{elements_later, of_member, seen_as, seen_halt}

module _ (table : Table) (reading : Reading) (place : Place) (member : Member) (next : Selection) (others : List Selection) (before : List (Member × Index)) (indices : List Index) (i : ℕ) (whole : Outcome (List (Member × Index)))
    (left : elements_more before (each_below table reading place member (next ∷ others) (drop i indices)) ≡ whole) where
  abbrev rest : Outcome (List (Member × Index))
  rest = each_below table reading place member (next ∷ others) (drop (i + 1) indices)

  opened : (index : Index) → i < length indices → index ≡ get_or indices i index →
      elements_more before (each_below table reading place member (next ∷ others) (index ∷ drop (i + 1) indices)) ≡ whole
  opened index small is =
      ap (λ xs. elements_more before (each_below table reading place member (next ∷ others) xs)) (ap (λ x. x ∷ drop (i + 1) indices) is ∙ sym (drop_more indices i index small)) ∙ left

  stepped : (index : Index) → i < length indices → index ≡ get_or indices i index →
      and_then (component_behind table next.place member index next.name) (λ part. and_then (elements_below table reading place part (next ∷ others)) (λ elements. elements_more (before ++ elements) rest)) ≡ whole
  stepped index small is = sym (each_step table reading place member next others before index (drop (i + 1) indices)) ∙ opened index small is

  pub each_more : (index : Index) (part : Member) (after : List (Member × Index)) → i < length indices → index ≡ get_or indices i index →
      component_behind table next.place member index next.name ≡ Ok part → elements_more before (elements_below table reading place part (next ∷ others)) ≡ Ok after →
      elements_more after rest ≡ whole
  each_more index part after small is found told = sym (rw found (go (elements_below table reading place part (next ∷ others)) told)) ∙ stepped index small is
    where
      go : (o : Outcome (List (Member × Index))) → elements_more before o ≡ Ok after → and_then o (λ elements. elements_more (before ++ elements) rest) ≡ elements_more after rest
      go (Ok elements) e = let same : before ++ elements ≡ after = cc in ap (λ xs. elements_more xs rest) same
      go (Err broken) e = absurd (let clash : ◌≡◌ {A = Outcome (List (Member × Index))} (Err broken) (Ok after) = e in cc)

  pub part_halts : {T : Type 0} (view : T → Member) (index : Index) (stop : Stop) → i < length indices → index ≡ get_or indices i index →
      GivesSeen {T = T} view (Err stop) (component_behind table next.place member index next.name) → Gives {T = List (Member × Index)} (Err stop) whole
  part_halts view index (broken_by broken) small is h = sym (stepped index small is) ∙ rw h refl
  part_halts view index no_memory small is h = tt

  pub below_halts : (index : Index) (part : Member) (stop : Stop) → i < length indices → index ≡ get_or indices i index →
      component_behind table next.place member index next.name ≡ Ok part → Gives {T = List (Member × Index)} (Err stop) (elements_more before (elements_below table reading place part (next ∷ others))) →
      Gives {T = List (Member × Index)} (Err stop) whole
  below_halts index part (broken_by broken) small is found h = sym (stepped index small is) ∙ rw found (go (elements_below table reading place part (next ∷ others)) h)
    where
      go : (o : Outcome (List (Member × Index))) → elements_more before o ≡ Err broken → and_then o (λ elements. elements_more (before ++ elements) rest) ≡ Err broken
      go (Ok elements) e = absurd (let clash : ◌≡◌ {A = Outcome (List (Member × Index))} (Ok (before ++ elements)) (Err broken) = e in cc)
      go (Err other) e = let same : other ≡ broken = cc in ap Err same
  below_halts index part no_memory small is found h = tt

  pub each_end : length indices ≤ i → whole ≡ Ok before
  each_end all =
      sym left
      ∙ (ap (λ xs. elements_more before (each_below table reading place member (next ∷ others) xs)) (drop_all i indices all) ∙ ap Ok (append-nil before))

-- ---- below one component

pub none_left : {A : Type 0} (xs : List A) → length xs < 1 → xs ≡ []
none_left [] none = refl
none_left (x ∷ xs) none = absurd (omega arith)

-- those behind the first are as few
pub few_left : {A : Type 0} (xs : List A) (n : ℕ) → 0 < length xs → length xs ≤ n → length (take (length xs - 1) (drop 1 xs)) ≤ n
few_left [] n some few = absurd (omega arith)
few_left (x ∷ xs) n some few = rw (rest_of (x ∷ xs) 1 (omega (arith, some))) (omega (arith, few))

pub nothing_chosen : (table : Table) (reading : Reading) (place : Place) (member : Member) (before : List (Member × Index)) (chosen : List SelectionAt) → length chosen < 1 →
    elements_more before (elements_below table reading place member (selections_seen chosen)) ≡ Ok before
nothing_chosen table reading place member before chosen none =
    ap (λ xs. elements_more before (elements_below table reading place member (selections_seen xs))) (none_left chosen none) ∙ ap Ok (append-nil before)

module _ (table : Table) (reading : Reading) (place : Place) (member : Member) (before : List (Member × Index)) (chosen : List SelectionAt) (selection : SelectionAt)
    (some : 0 < length chosen) (is : selection ≡ get_or chosen 0 selection) where
  below_opened : elements_more before (elements_below table reading place member (selections_seen chosen))
      ≡ elements_more before (and_then (agrees reading place (selection_seen selection) member) (λ _. each_below table reading place member (selections_seen (drop 1 chosen)) (selected selection.dims selection.subs)))
  below_opened =
      ap (λ xs. elements_more before (elements_below table reading place member (selections_seen xs))) (first_of chosen selection some is)
      ∙ ap (elements_more before) (below_by table reading place member (selection_seen selection) (selections_seen (drop 1 chosen)))

  pub agreeing_halts : (stop : Stop) → Gives {T = Unit {0}} (Err stop) (agrees reading place (selection_seen selection) member) →
      Gives {T = List (Member × Index)} (Err stop) (elements_more before (elements_below table reading place member (selections_seen chosen)))
  agreeing_halts (broken_by broken) h = below_opened ∙ rw h refl
  agreeing_halts no_memory h = tt

  pub below_agreed : agrees reading place (selection_seen selection) member ≡ Ok tt →
      elements_more before (elements_below table reading place member (selections_seen chosen)) ≡ elements_more before (each_below table reading place member (selections_seen (drop 1 chosen)) (selected selection.dims selection.subs))
  below_agreed h = below_opened ∙ rw h refl

-- in a later world
pub each_earlier : (u v : World) → Grows u v → (asking : Removal) (deeper : ℕ) (place : Place) (m : MemberAt) → IsMember u m → (made : List (MemberAt × Index)) → Every (λ element. IsMember u element.0) made → (others : List Selection) (indices : List Index) →
    elements_more (elements_seen (frames_of v) made) (each_below (table_in v) (reading_in asking v deeper) place (member_of (frames_of v) m) others indices)
    ≡ elements_more (elements_seen (frames_of u) made) (each_below (table_in u) (reading_in asking u deeper) place (member_of (frames_of u) m) others indices)
each_earlier u v g asking deeper place m is made are others indices =
    ap (λ before. elements_more before (each_below (table_in v) (reading_in asking v deeper) place (member_of (frames_of v) m) others indices)) (elements_later u v g made are)
    ∙ of_member (λ table member. elements_more (elements_seen (frames_of u) made) (each_below table (reading_for asking (reading_by table (reading table deeper))) place member others indices)) u v g m is

-- ---- behind each of the indices

module _ (u now : World) (g : Grows u now) (asking : Removal) (deeper : ℕ) (place : Place) (m : MemberAt) (is_there : IsMember u m) (chosen : List SelectionAt) (next : SelectionAt) (some : 0 < length chosen) (is_next : next ≡ get_or chosen 0 next)
    (indices : List Index) (i : ℕ) (made : List (MemberAt × Index)) (are : Every (λ element. IsMember now element.0) made) (whole : Outcome (List (Member × Index)))
    (left : elements_more (elements_seen (frames_of now) made) (each_below (table_in u) (reading_in asking u deeper) place (member_of (frames_of u) m) (selections_seen chosen) (drop i indices)) ≡ whole) where
  abbrev here : Member
  here = member_of (frames_of u) m

  abbrev first : Selection
  first = selection_seen next

  abbrev others : List Selection
  others = selections_seen (drop 1 chosen)

  abbrev before : List (Member × Index)
  before = elements_seen (frames_of now) made

  left_opened : elements_more before (each_below (table_in u) (reading_in asking u deeper) place here (first ∷ others) (drop i indices)) ≡ whole
  left_opened = ap (λ xs. elements_more before (each_below (table_in u) (reading_in asking u deeper) place here (selections_seen xs) (drop i indices))) (sym (first_of chosen next some is_next)) ∙ left

  pub each_done : length indices ≤ i → whole ≡ Ok before
  each_done all = each_end (table_in u) (reading_in asking u deeper) place here first others before indices i whole left_opened all

  module _ (index : Index) (small : i < length indices) (is_index : index ≡ get_or indices i index) where
    part_earlier : component_behind (table_in now) next.place (member_of (frames_of now) m) index next.name.now ≡ component_behind (table_in u) next.place here index next.name.now
    part_earlier = of_member (λ table member. component_behind table next.place member index next.name.now) u now g m is_there

    pub no_part : {T : Type 0} (view : T → Member) (stop : Stop) → GivesSeen {T = T} view (Err stop) (component_behind (table_in now) next.place (member_of (frames_of now) m) index next.name.now) →
        Gives {T = List (Member × Index)} (Err stop) whole
    no_part view stop told =
        part_halts (table_in u) (reading_in asking u deeper) place here first others before indices i whole left_opened view index stop small is_index (seen_as view (Err stop) _ _ part_earlier told)

    module _ (v : World) (h : Grows now v) (part : Member) (found : component_behind (table_in now) next.place (member_of (frames_of now) m) index next.name.now ≡ Ok part) where
      below_earlier : elements_more (elements_seen (frames_of v) made) (elements_below (table_in v) (reading_in asking v deeper) place part (selections_seen chosen))
          ≡ elements_more before (elements_below (table_in u) (reading_in asking u deeper) place part (first ∷ others))
      below_earlier =
          ap (λ before. elements_more before (elements_below (table_in v) (reading_in asking v deeper) place part (selections_seen chosen))) (elements_later now v h made are)
          ∙ (ap (λ table. elements_more before (elements_below table (reading_for asking (reading_by table (reading table deeper))) place part (selections_seen chosen))) (table_later u v (grows_trans u now v g h))
          ∙ ap (λ xs. elements_more before (elements_below (table_in u) (reading_in asking u deeper) place part (selections_seen xs))) (first_of chosen next some is_next))

      pub nothing_below : {T : Type 0} (view : T → List (Member × Index)) (stop : Stop) →
          GivesSeen {T = T} view (Err stop) (elements_more (elements_seen (frames_of v) made) (elements_below (table_in v) (reading_in asking v deeper) place part (selections_seen chosen))) →
          Gives {T = List (Member × Index)} (Err stop) whole
      nothing_below view stop told =
          below_halts (table_in u) (reading_in asking u deeper) place here first others before indices i whole left_opened index part stop small is_index (sym part_earlier ∙ found)
          (seen_halt view stop _ (seen_as view (Err stop) _ _ below_earlier told))

      pub all_below : (after : List (Member × Index)) →
          elements_more (elements_seen (frames_of v) made) (elements_below (table_in v) (reading_in asking v deeper) place part (selections_seen chosen)) ≡ Ok after →
          elements_more after (each_below (table_in u) (reading_in asking u deeper) place here (selections_seen chosen) (drop (i + 1) indices)) ≡ whole
      all_below after told =
          ap (λ xs. elements_more after (each_below (table_in u) (reading_in asking u deeper) place here (selections_seen xs) (drop (i + 1) indices))) (first_of chosen next some is_next)
          ∙ each_more (table_in u) (reading_in asking u deeper) place here first others before indices i whole left_opened index part after small is_index (sym part_earlier ∙ found) (sym below_earlier ∙ told)

-- ---- the elements themselves

pub all_put : (frames : List Frame) (made : List (MemberAt × Index)) (m : MemberAt) (indices : List Index) →
    elements_seen frames (made ++ map (λ index. (m, index)) indices) ≡ elements_seen frames made ++ map (λ index. (member_of frames m, index)) indices
all_put frames made m indices = map-append (λ (element : MemberAt × Index). (member_of frames element.0, element.1)) made (map (λ index. (m, index)) indices) ∙ ap (λ xs. elements_seen frames made ++ xs) (go indices)
  where
    go : (indices : List Index) → elements_seen frames (map (λ index. (m, index)) indices) ≡ map (λ index. (member_of frames m, index)) indices
    go [] = refl
    go (index ∷ indices) = ap (λ xs. (member_of frames m, index) ∷ xs) (go indices)

pub every_put : (world : World) (made : List (MemberAt × Index)) (m : MemberAt) (indices : List Index) → Every (λ element. IsMember world element.0) made → IsMember world m →
    Every (λ element. IsMember world element.0) (made ++ map (λ index. (m, index)) indices)
every_put world [] m [] are is = tt
every_put world [] m (index ∷ indices) are is = (is, every_put world [] m indices tt is)
every_put world (one ∷ made) m indices are is = (are.0, every_put world made m indices are.1 is)
