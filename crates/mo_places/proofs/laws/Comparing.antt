-- A rule that the comparison of two classes breaks is broken where it was asked, or where the class table and the frames stand.
use Rattle.std.proofs.Common.{◌≡◌, ℕ, zero, suc, ◌*◌, List, [], ◌∷◌, Option, Some, None, Ok, refl, nat_eq, if◌then◌else◌}
use Rattle.mo_syntax.specs.declared.place.Place.{Place}
use Rattle.mo_places.specs.Written.{Written, At}
use Rattle.mo_places.specs.Stands.{ChildStands, Every, IfAny, Answers, TableStands, FrameStands, MemberStands, WalkedStands}
use Rattle.mo_scope.specs.Rows.{Table, number_of_classes}
use Rattle.mo_scope.specs.Frames.{Frame, Member, class_of}
use Rattle.mo_scope.specs.Lookup.{Walked, asking_of, members_in}
use Rattle.mo_scope.specs.Names.{child_of_member, component_frame}
use Rattle.mo_scope.specs.Compatible.{Compare, Pairs, dimensions_of, prefix_of, same_prefixes, is_open_component, counterpart, same_types, is_matched, are_matched, compared, is_pair, with_pair, compatible_from, compatible}
use Rattle.mo_places.proofs.laws.Standing.{any_find, then_answers, if_answers}
use Rattle.mo_places.proofs.laws.Finding.{members_in_stand, asking_of_stands}
use Rattle.mo_places.proofs.laws.Naming.{child_of_member_stands, component_frame_stands}

module _ (P : Written → Type 0) (table : Table) (stands : TableStands P table) where
  abbrev pub Nothing : Unit {0} → Type 0
  Nothing u = Unit {0}

  abbrev ComparesWell : Compare → Type 0
  ComparesWell compare = (new wanted : Frame) → FrameStands P new → FrameStands P wanted → Answers P Nothing (compare new wanted)

  same_types_answer : (compare : Compare) (place : Place) (new wanted : Member) → ComparesWell compare → P (At place) → MemberStands P new → MemberStands P wanted →
      Answers P Nothing (same_types table compare place new wanted)
  same_types_answer compare place new wanted hc hp hn hw =
      then_answers P (ChildStands P) Nothing (child_of_member table new []) _ (child_of_member_stands P table stands new [] hn)
      (λ new_child ha. then_answers P (ChildStands P) Nothing (child_of_member table wanted []) _ (child_of_member_stands P table stands wanted [] hw)
      (λ wanted_child hb. if_answers P Nothing (nat_eq (dimensions_of table new new_child) (dimensions_of table wanted wanted_child)) _ _
      (hc (component_frame new [] new_child) (component_frame wanted [] wanted_child)
      (component_frame_stands P table stands new [] new_child hn ha) (component_frame_stands P table stands wanted [] wanted_child hw hb))
      (record { holds = hp })))

  is_matched_answers : (compare : Compare) (place : Place) (members : List Member) (wanted : Member) → ComparesWell compare → P (At place) → Every (MemberStands P) members →
      MemberStands P wanted → Answers P Nothing (is_matched table compare place members wanted)
  is_matched_answers compare place members wanted hc hp hm hw = by (counterpart members wanted) refl (any_find (MemberStands P) _ members hm)
    where
      by : (new : Option Member) → counterpart members wanted ≡ new → IfAny (MemberStands P) new → Answers P Nothing (is_matched table compare place members wanted)
      by None is h = rw is (record { holds = hp })
      by (Some new) is h =
          rw is (if_answers P Nothing (same_prefixes (prefix_of table new) (prefix_of table wanted)) _ _ (same_types_answer compare place new wanted hc hp h hw) (record { holds = hp }))

  are_matched_answer : (compare : Compare) (place : Place) (members wanted : List Member) → ComparesWell compare → P (At place) → Every (MemberStands P) members →
      Every (MemberStands P) wanted → Answers P Nothing (are_matched table compare place members wanted)
  are_matched_answer compare place members [] hc hp hm h = record { holds = tt }
  are_matched_answer compare place members (wanted ∷ others) hc hp hm h =
      then_answers P Nothing Nothing (if is_open_component wanted then is_matched table compare place members wanted else Ok tt) _
      (if_answers P Nothing (is_open_component wanted) _ _ (is_matched_answers compare place members wanted hc hp hm h.0) (record { holds = tt }))
      (λ u hu. are_matched_answer compare place members others hc hp hm h.1)

  compared_answers : (compare : Compare) (place : Place) (new wanted : Walked) → ComparesWell compare → P (At place) → WalkedStands P new → WalkedStands P wanted →
      Answers P Nothing (compared table compare place new wanted)
  compared_answers compare place new wanted hc hp hn hw = by new.leaf wanted.leaf refl refl
    where
      by : (a b : Option Frame) → new.leaf ≡ a → wanted.leaf ≡ b → Answers P Nothing (compared table compare place new wanted)
      by None None is have =
          rw (is, have) (are_matched_answer compare place (members_in new) (members_in wanted) hc hp (members_in_stand P table stands new hn) (members_in_stand P table stands wanted hw))
      by (Some a) (Some b) is have = rw (is, have) (if_answers P Nothing (nat_eq (class_of a) (class_of b)) _ _ (record { holds = tt }) (record { holds = hp }))
      by None (Some b) is have = rw (is, have) (record { holds = hp })
      by (Some a) None is have = rw (is, have) (record { holds = hp })

  compatible_from_answers : (left : ℕ) (place : Place) (pairs : Pairs) (new wanted : Frame) → P (At place) → FrameStands P new → FrameStands P wanted →
      Answers P Nothing (compatible_from table left place pairs new wanted)
  unfolding compatible_from
  compatible_from_answers zero place pairs new wanted hp hn hw = record { holds = tt }
  compatible_from_answers (suc left) place pairs new wanted hp hn hw =
      if_answers P Nothing (is_pair pairs new wanted) _ _ (record { holds = tt })
      (then_answers P (WalkedStands P) Nothing ((asking_of table).elements place new) _ ((asking_of_stands P table stands).elements place new hp hn)
      (λ new_walked ha. then_answers P (WalkedStands P) Nothing ((asking_of table).elements place wanted) _ ((asking_of_stands P table stands).elements place wanted hp hw)
      (λ wanted_walked hb. compared_answers (compatible_from table left place (with_pair pairs new wanted)) place new_walked wanted_walked
      (λ a b hna hwb. compatible_from_answers left place (with_pair pairs new wanted) a b hp hna hwb) hp ha hb)))

  pub compatible_answers : (place : Place) (new wanted : Frame) → P (At place) → FrameStands P new → FrameStands P wanted → Answers P Nothing (compatible table place new wanted)
  compatible_answers place new wanted hp hn hw = compatible_from_answers (number_of_classes table * number_of_classes table) place [] new wanted hp hn hw
