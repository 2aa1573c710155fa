-- The comparison of components and of classes, step by step.
use Rattle.std.proofs.Common.{◌≡◌, ℕ, zero, suc, ◌-◌, ◌<◌, Bool, true, false, List, [], map, Option, Some, None, Ok, Err, refl, ap, sym, ◌∙◌, arith}
use Rattle.std.specs.Prelude.{filter, nat_eq, if◌then◌else◌}
use Rattle.mo_syntax.specs.Outcome.{Outcome, and_then, breaks}
use Rattle.mo_syntax.specs.declared.place.Place.{Place}
use Rattle.mo_scope.specs.Rows.{Table, number_of_classes}
use Rattle.mo_scope.specs.Frames.{Frame, Member, class_of}
use Rattle.mo_scope.specs.Lookup.{Walked, asking_of, members_in, named, walked}
use Rattle.mo_scope.specs.Names.{Child, child_of_member, component_frame, walk_of}
use Rattle.mo_scope.specs.Compatible.{Compare, Pairs, are_matched, compared, compatible_from, counterpart, dimensions_of, is_matched, is_pair, prefix_of, same_prefixes, same_types, with_pair}
use Rattle.mo_scope.specs.Worlds.{MemberEntry, member_in}
use Rattle.mo_redeclare.specs.steps.Sights.{is_open}
use Rattle.mo_redeclare.specs.steps.Comparing.{both_walked, components_compared, counterpart_matched, entered_alike, entered_matching, leaves_compared, pair_compared}
use Rattle.mo_redeclare.proofs.Tables.{named_open}
use Rattle.mo_syntax.specs.declared.rules.TheConstants.{NOT_COMPATIBLE}

-- ---- a component and its counterpart

two_children : (a b : Outcome Child) (same : Child → Child → Bool) (frame other : Child → Frame) (compare : Compare) (place : Place) →
    and_then a (λ x. and_then b (λ y. if same x y then compare (frame x) (other y) else breaks NOT_COMPATIBLE place))
    ≡ and_then {A = Frame × Frame} (and_then {A = Child × Child} (and_then a (λ x. and_then b (λ y. Ok (x, y)))) (λ both. if same both.0 both.1 then Ok (frame both.0, other both.1) else breaks NOT_COMPATIBLE place)) (λ frames. compare frames.0 frames.1)
two_children (Err e) b same frame other compare place = refl
two_children (Ok x) (Err e) same frame other compare place = refl
two_children (Ok x) (Ok y) same frame other compare place = by (same x y)
  where
    by : (t : Bool) → (if t then compare (frame x) (other y) else breaks NOT_COMPATIBLE place) ≡ and_then {A = Frame × Frame} (if t then Ok (frame x, other y) else breaks NOT_COMPATIBLE place) (λ frames. compare frames.0 frames.1)
    by true = refl
    by false = refl

module _ (table : Table) (compare : Compare) (place : Place) (new wanted : Member) where
  types_are : same_types table compare place new wanted ≡ and_then (entered_alike table place new wanted) (λ frames. compare frames.0 frames.1)
  types_are =
      two_children (child_of_member table new []) (child_of_member table wanted [])
      (λ x y. nat_eq (dimensions_of table new x) (dimensions_of table wanted y)) (component_frame new []) (component_frame wanted []) compare place

  pub matching_is : counterpart_matched table compare place wanted (Some new) ≡ and_then (entered_matching table place new wanted) (λ frames. compare frames.0 frames.1)
  matching_is = by (same_prefixes (prefix_of table new) (prefix_of table wanted))
    where
      by : (t : Bool) → (if t then same_types table compare place new wanted else breaks NOT_COMPATIBLE place) ≡ and_then (if t then entered_alike table place new wanted else breaks NOT_COMPATIBLE place) (λ frames. compare frames.0 frames.1)
      by true = types_are
      by false = refl

-- what is found by name among public components is the counterpart
module _ (table : Table) (compare : Compare) (place : Place) (frames : List Frame) (members : List MemberEntry) (public : members ≡ filter is_open members) (wanted : Member) where
  by_name : named wanted.name (map (member_in frames) members) ≡ counterpart (map (member_in frames) members) wanted
  by_name = ap (λ (ms : List MemberEntry). named wanted.name (map (member_in frames) ms)) public ∙ named_open frames members wanted

  pub nothing_matches : named wanted.name (map (member_in frames) members) ≡ None → is_matched table compare place (map (member_in frames) members) wanted ≡ breaks NOT_COMPATIBLE place
  nothing_matches none = ap (counterpart_matched table compare place wanted) (sym by_name ∙ none)

  pub one_matches : (new : Member) → named wanted.name (map (member_in frames) members) ≡ Some new →
      pair_compared table compare place new wanted ≡ is_matched table compare place (map (member_in frames) members) wanted
  one_matches new some = sym (ap (counterpart_matched table compare place wanted) (sym by_name ∙ some) ∙ matching_is table compare place new wanted)

-- ---- two frames

-- no place is asked of where no class is having its bases found
anywhere : (table : Table) (n : ℕ) (place other : Place) (frame : Frame) → 0 < n → walked table n [] place frame ≡ walked table n [] other frame
unfolding walked
anywhere table zero place other frame some = absurd (omega (arith, some))
anywhere table (suc n) place other frame some = refl

there : (table : Table) (place : Place) (frame : Frame) → (asking_of table).elements place frame ≡ walk_of table frame
there table place frame = anywhere table (number_of_classes table) place (record { file = 0; byte = 0 }) frame some
  where
    some : 0 < number_of_classes table
    some = omega arith

both_there : (table : Table) (place : Place) (new wanted : Frame) (f : Walked → Walked → Outcome (Unit {0})) →
    and_then (both_walked table new wanted) (λ walked. f walked.0 walked.1)
    ≡ and_then ((asking_of table).elements place new) (λ a. and_then ((asking_of table).elements place wanted) (λ b. f a b))
both_there table place new wanted f =
    two (walk_of table new) (walk_of table wanted)
    ∙ ap (λ (o : Outcome Walked). and_then o (λ a. and_then (walk_of table wanted) (λ b. f a b))) (sym (there table place new))
    ∙ ap (λ (o : Outcome Walked). and_then ((asking_of table).elements place new) (λ a. and_then o (λ b. f a b))) (sym (there table place wanted))
  where
    two : (a b : Outcome Walked) → and_then {A = Walked × Walked} (and_then a (λ x. and_then b (λ y. Ok (x, y)))) (λ walked. f walked.0 walked.1) ≡ and_then a (λ x. and_then b (λ y. f x y))
    two (Err e) b = refl
    two (Ok x) (Err e) = refl
    two (Ok x) (Ok y) = refl

module _ (table : Table) (place : Place) (pairs : Pairs) (new wanted : Frame) where
  pub none_left : (left : ℕ) → left ≡ 0 → compatible_from table left place pairs new wanted ≡ Ok tt
  unfolding compatible_from
  none_left zero none = refl
  none_left (suc left) none = absurd (omega (arith, none))

  pub pair_left : (left : ℕ) → is_pair pairs new wanted ≡ true → compatible_from table left place pairs new wanted ≡ Ok tt
  unfolding compatible_from
  pair_left zero is = refl
  pair_left (suc left) is = rw is refl

  pub compared_further : (left : ℕ) → 0 < left → is_pair pairs new wanted ≡ false →
      components_compared table (left - 1) place (with_pair pairs new wanted) new wanted ≡ compatible_from table left place pairs new wanted
  unfolding compatible_from
  compared_further zero some free = absurd (omega (arith, some))
  compared_further (suc left) some free =
      let less : suc left - 1 ≡ left = omega arith in
      ap (λ l. components_compared table l place (with_pair pairs new wanted) new wanted) less
      ∙ both_there table place new wanted (compared table (compatible_from table left place (with_pair pairs new wanted)) place)
      ∙ rw free refl

-- ---- leaf types

abbrev compared_by : Table → Compare → Place → List Member → List Member → Option Frame → Option Frame → Outcome (Unit {0})
compared_by table compare place new wanted None None = are_matched table compare place new wanted
compared_by table compare place new wanted (Some a) (Some b) = if nat_eq (class_of a) (class_of b) then Ok tt else breaks NOT_COMPATIBLE place
compared_by table compare place new wanted a b = breaks NOT_COMPATIBLE place

leaves_are : (table : Table) (compare : Compare) (place : Place) (new wanted : List Member) (a b : Option Frame) →
    and_then (leaves_compared place a b) (λ none. if none then are_matched table compare place new wanted else Ok tt) ≡ compared_by table compare place new wanted a b
leaves_are table compare place new wanted None None = refl
leaves_are table compare place new wanted None (Some b) = refl
leaves_are table compare place new wanted (Some a) None = refl
leaves_are table compare place new wanted (Some a) (Some b) = by (nat_eq (class_of a) (class_of b))
  where
    by : (t : Bool) → and_then (if t then Ok false else breaks NOT_COMPATIBLE place) (λ none. if none then are_matched table compare place new wanted else Ok tt) ≡ (if t then Ok tt else breaks NOT_COMPATIBLE place)
    by true = refl
    by false = refl

pub leaves_first : (table : Table) (compare : Compare) (place : Place) (new wanted : Walked) →
    and_then (leaves_compared place new.leaf wanted.leaf) (λ none. if none then are_matched table compare place (members_in new) (members_in wanted) else Ok tt)
    ≡ compared table compare place new wanted
leaves_first table compare place new wanted = leaves_are table compare place (members_in new) (members_in wanted) new.leaf wanted.leaf
