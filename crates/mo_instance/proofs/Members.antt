-- What the elements of a frame have in common: the frames that declare them have its path, their names pass a test and differ.
use Rattle.std.proofs.Common.{◌≡◌, ℕ, zero, suc, ◌+◌, Bool, true, false, List, [], ◌∷◌, ◌++◌, Option, Some, None, Ok, Err, refl, subst, ◌∙◌}
use Rattle.std.specs.Prelude.{◌||◌, nat_eq, if◌then◌else◌, IsTrue}
use Rattle.std.specs.List.{list_any}
use Rattle.std.specs.Str.{bytes_eq}
use Rattle.mo_syntax.specs.Outcome.{Outcome, breaks}
use Rattle.mo_syntax.specs.declared.place.Place.{Place}
use Rattle.mo_syntax.specs.SoundTree.{Naming, any_name}
use Rattle.mo_scope.specs.Places.{Every, IfAny, Answers, HoldsOf}
use Rattle.mo_scope.specs.Rows.{Table, Row, row_at, number_of_classes, Part, Element_of, Base_of, Clause, is_left_out}
use Rattle.mo_scope.specs.Frames.{Frame, at_of, class_of}
use Rattle.mo_scope.specs.Lookup.{Inherited, Walked, Asking, base_class, base_of, contains, hidden_if, last_place, leaf_checked, leaf_of, not_counted, nothing_walked, through_base, walked, walked_class, walked_parts, with_base, with_busy, with_member, with_members}
use Rattle.mo_scope.specs.Names.{walk_of}
use Rattle.mo_scope.proofs.laws.Standing.{any_find, every_append, every_map, every_weaker, if_answers, if_list, then_answers}
use Rattle.mo_syntax.specs.declared.rules.TheConstants.{WRONG_KIND_OF_NAME, INHERITED_ELEMENTS_CLASH}

-- each element has another name than those behind it
abbrev pub Different : List Inherited → Type 0
Different [] = Unit {0}
Different (x ∷ xs) = Every (λ other. bytes_eq x.member.name other.member.name ≡ false) xs × Different xs

-- the elements of a frame
pub record IsWalkedOf (naming : Naming) (frame : Frame) (walked : Walked) : Type 0 where
  pub homes : Every (λ inherited. at_of inherited.member.home ≡ at_of frame) walked.members
  pub names : Every (λ inherited. IsTrue (naming inherited.member.name)) walked.members
  pub different : Different walked.members

abbrev pub PartNamed : Naming → Part → Type 0
PartNamed naming (Element_of declares) = IsTrue (naming declares.name)
PartNamed naming (Base_of clause) = Unit {0}

-- the names of what classes declare pass a test
abbrev pub RowNamed : Naming → Row → Type 0
RowNamed naming row = Every (PartNamed naming) row.parts

-- that a leaf type has no elements
abbrev checked_by : Walked → Option Frame → List Inherited → Outcome Walked
checked_by elements (Some leaf) (inherited ∷ others) = breaks WRONG_KIND_OF_NAME inherited.member.declares.place
checked_by elements leaf members = Ok elements

abbrev Anywhere : Place → Type 0
Anywhere place = Unit {0}

any_answers : {A : Type 0} (o : Outcome A) → Answers Anywhere (λ _. Unit {0}) o
any_answers (Ok a) = record { holds = tt }
any_answers (Err b) = record { holds = tt }

-- ---- different names

different_more : (xs : List Inherited) (x : Inherited) → Different xs → list_any (λ other. bytes_eq other.member.name x.member.name) xs ≡ false → Different (xs ++ x ∷ [])
different_more [] x all none = (tt, tt)
different_more (y ∷ ys) x all none = by (bytes_eq y.member.name x.member.name) refl none (λ rest. different_more ys x all.1 rest)
  where
    by : (b : Bool) → bytes_eq y.member.name x.member.name ≡ b → (b || list_any (λ other. bytes_eq other.member.name x.member.name) ys) ≡ false →
        (list_any (λ other. bytes_eq other.member.name x.member.name) ys ≡ false → Different (ys ++ x ∷ [])) → Different ((y ∷ ys) ++ x ∷ [])
    by true same none rest = absurd cc
    by false same none rest = (every_append (λ other. bytes_eq y.member.name other.member.name ≡ false) ys (x ∷ []) all.0 (same, tt), rest none)

different_counted : (is : Inherited → Bool) (P : Inherited → Type 0) (xs : List Inherited) → Every P xs → Every P (not_counted is xs)
different_counted is P [] all = tt
different_counted is P (x ∷ xs) all = if_list P (is x) (not_counted is xs) (x ∷ not_counted is xs) (different_counted is P xs all.1) (all.0, different_counted is P xs all.1)

module _ (naming : Naming) (table : Table) (named : Every (RowNamed naming) table) where
  record Asks (asking : Asking) : Type 0 where
    elements : (place : Place) (frame : Frame) → Answers Anywhere (IsWalkedOf naming frame) (asking.elements place frame)

  -- ---- joining elements

  abbrev HasHome : Frame → Inherited → Type 0
  HasHome frame inherited = at_of inherited.member.home ≡ at_of frame

  abbrev HasName : Inherited → Type 0
  HasName inherited = IsTrue (naming inherited.member.name)

  member_joined : (frame : Frame) (inherited : Inherited) (so_far : Walked) → HasHome frame inherited → HasName inherited → IsWalkedOf naming frame so_far →
      Answers Anywhere (IsWalkedOf naming frame) (with_member inherited so_far)
  member_joined frame inherited so_far home name is = by (list_any (λ other. bytes_eq other.member.name inherited.member.name) so_far.members) refl
    where
      by : (b : Bool) → list_any (λ other. bytes_eq other.member.name inherited.member.name) so_far.members ≡ b →
          Answers Anywhere (IsWalkedOf naming frame)
          (if b then breaks INHERITED_ELEMENTS_CLASH inherited.member.declares.place else
          Ok (record { members = so_far.members ++ inherited ∷ []; bases = so_far.bases; sections = so_far.sections; leaf = so_far.leaf }))
      by true same = record { holds = tt }
      by false same = record {
        holds = record {
          homes = every_append (HasHome frame) so_far.members (inherited ∷ []) is.homes (home, tt);
          names = every_append HasName so_far.members (inherited ∷ []) is.names (name, tt);
          different = different_more so_far.members inherited is.different same;
        };
      }

  members_joined : (frame : Frame) (members : List Inherited) (so_far : Walked) → Every (HasHome frame) members → Every HasName members → IsWalkedOf naming frame so_far →
      Answers Anywhere (IsWalkedOf naming frame) (with_members members so_far)
  members_joined frame [] so_far homes names is = record { holds = is }
  members_joined frame (inherited ∷ others) so_far homes names is =
      then_answers Anywhere (IsWalkedOf naming frame) (IsWalkedOf naming frame) (with_member inherited so_far) _ (member_joined frame inherited so_far homes.0 names.0 is)
      (λ walked hw. members_joined frame others walked homes.1 names.1 hw)

  base_joined : (frame : Frame) (hidden : Bool) (base : Frame) (walked so_far : Walked) → at_of base ≡ at_of frame → IsWalkedOf naming base walked → IsWalkedOf naming frame so_far →
      Answers Anywhere (IsWalkedOf naming frame) (with_base hidden base walked so_far)
  base_joined frame hidden base walked so_far at hw hs =
      members_joined frame _ _
      (different_counted _ (HasHome frame) _ (every_map (HasHome frame) (λ inherited. hidden_if hidden (through_base base inherited)) walked.members
      (every_weaker (HasHome base) _ (λ inherited h. h ∙ at) walked.members hw.homes)))
      (different_counted _ HasName _ (every_map HasName (λ inherited. hidden_if hidden (through_base base inherited)) walked.members
      (every_weaker HasName _ (λ inherited h. h) walked.members hw.names)))
      (record { homes = hs.homes; names = hs.names; different = hs.different })

  base_at : (asking : Asking) (frame : Frame) (row : Row) (clause : Clause) → Answers Anywhere (λ base. at_of base ≡ at_of frame) (base_of table asking frame row clause)
  base_at asking frame row clause =
      then_answers Anywhere (λ _. Unit {0}) (λ base. at_of base ≡ at_of frame) (base_class table asking frame clause) _ (any_answers (base_class table asking frame clause))
      (λ class hc. record { holds = refl })

  -- ---- the elements of a frame

  parts_walked : (asking : Asking) (frame : Frame) (row : Row) (item : ℕ) (parts : List Part) (so_far : Walked) → Asks asking → Every (PartNamed naming) parts → IsWalkedOf naming frame so_far →
      Answers Anywhere (IsWalkedOf naming frame) (walked_parts table asking frame row item parts so_far)
  parts_walked asking frame row item [] so_far asks names is = record { holds = is }
  parts_walked asking frame row item (Element_of declares ∷ parts) so_far asks names is =
      then_answers Anywhere (IsWalkedOf naming frame) (IsWalkedOf naming frame) (with_member _ so_far) _ (member_joined frame _ so_far refl names.0 is)
      (λ walked hw. parts_walked asking frame row (item + 1) parts walked asks names.1 hw)
  parts_walked asking frame row item (Base_of clause ∷ parts) so_far asks names is =
      then_answers Anywhere (λ base. at_of base ≡ at_of frame) (IsWalkedOf naming frame) (base_of table asking frame row clause) _ (base_at asking frame row clause)
      (λ base at. then_answers Anywhere (IsWalkedOf naming base) (IsWalkedOf naming frame) (asking.elements (last_place clause.base.parts) base) _ (asks.elements (last_place clause.base.parts) base)
      (λ walked hw. then_answers Anywhere (IsWalkedOf naming frame) (IsWalkedOf naming frame) (with_base clause.hidden base walked so_far) _ (base_joined frame clause.hidden base walked so_far at hw is)
      (λ joined hj. parts_walked asking frame row item parts joined asks names.1 hj)))

  leaf_is_checked : (frame : Frame) (elements : Walked) → IsWalkedOf naming frame elements → Answers Anywhere (IsWalkedOf naming frame) (leaf_checked elements)
  leaf_is_checked frame elements h = by elements.leaf elements.members
    where
      by : (leaf : Option Frame) (members : List Inherited) → Answers Anywhere (IsWalkedOf naming frame) (checked_by elements leaf members)
      by (Some leaf) (inherited ∷ others) = record { holds = tt }
      by (Some leaf) [] = record { holds = h }
      by None members = record { holds = h }

  class_walked : (asking : Asking) (frame : Frame) (row : Option Row) → Asks asking → IfAny (RowNamed naming) row → Answers Anywhere (IsWalkedOf naming frame) (walked_class table asking frame row)
  class_walked asking frame None asks names = record { holds = record { homes = tt; names = tt; different = tt } }
  class_walked asking frame (Some row) asks names =
      if_answers Anywhere (IsWalkedOf naming frame) (is_left_out row) _ _ (record { holds = tt })
      (then_answers Anywhere (IsWalkedOf naming frame) (IsWalkedOf naming frame) (walked_parts table asking frame row 0 row.parts (nothing_walked (leaf_of row frame))) _
      (parts_walked asking frame row 0 row.parts (nothing_walked (leaf_of row frame)) asks names (record { homes = tt; names = tt; different = tt }))
      (leaf_is_checked frame))

  all_walked : (left : ℕ) (busy : List ℕ) (place : Place) (frame : Frame) → Answers Anywhere (IsWalkedOf naming frame) (walked table left busy place frame)
  unfolding walked
  all_walked zero busy place frame = record { holds = tt }
  all_walked (suc left) busy place frame =
      if_answers Anywhere (IsWalkedOf naming frame) (contains busy (class_of frame)) _ _ (record { holds = tt })
      (class_walked _ frame (row_at table (class_of frame))
      (record { elements = λ asked base. all_walked left (with_busy busy frame) asked base })
      (any_find (RowNamed naming) (λ row. nat_eq row.number (class_of frame)) table named))

  pub walk_has : (frame : Frame) (walked : Walked) → walk_of table frame ≡ Ok walked → IsWalkedOf naming frame walked
  walk_has frame walked found =
      subst (HoldsOf Anywhere (IsWalkedOf naming frame)) found (all_walked (number_of_classes table) [] (record { file = 0; byte = 0 }) frame).holds

-- any name passes
pub all_named : (table : Table) → Every (RowNamed any_name) table
all_named [] = tt
all_named (row ∷ rows) = (parts row.parts, all_named rows)
  where
    parts : (ps : List Part) → Every (PartNamed any_name) ps
    parts [] = tt
    parts (Element_of declares ∷ ps) = (refl, parts ps)
    parts (Base_of clause ∷ ps) = (tt, parts ps)
