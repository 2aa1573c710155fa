-- A rule that the redeclarations of a frame break is broken where the frame and the class table stand.
use Rattle.std.proofs.Common.{ℕ, false, List, [], ◌∷◌, Option, Some, None, Ok, is_some, if◌then◌else◌}
use Rattle.mo_syntax.specs.Outcome.{Outcome, and_then, breaks}
use Rattle.mo_syntax.specs.declared.class.ComponentOf.{ComponentOf}
use Rattle.mo_syntax.specs.declared.class.Give.{Give}
use Rattle.mo_scope.specs.Rows.{Table, Constraint, is_class, component_of}
use Rattle.mo_scope.specs.Frames.{Frame, Scope, Member, sources_of}
use Rattle.mo_scope.specs.Parts.{Redeclaration, with_list}
use Rattle.mo_scope.specs.Lookup.{Walked, asking_of, class_named, members_in, named}
use Rattle.mo_scope.specs.Names.{scope_of_home}
use Rattle.mo_scope.specs.Compatible.{bool_eq, compatible}
use Rattle.mo_scope.specs.Spoken.{Spoken, spoken_in}
use Rattle.mo_scope.specs.Redeclarations.{Checked, constraining_class, declared_class, each_checked, fine, is_replaceable_for, new_class, redeclaration_checked, redeclaration_in, redeclarations_checked, spoken_checked, type_named}
use Rattle.mo_places.specs.Written.{Written}
use Rattle.mo_places.specs.Stands.{Anything, Every, IfAny, Answers, ConstraintStands, FrameStands, MemberStands, NameStands, RedeclarationStands, TableStands, WalkedStands}
use Rattle.mo_places.proofs.laws.Standing.{any_find, every_weaker, if_answers, then_answers}
use Rattle.mo_places.proofs.laws.Sources.{gathered_stand, sources_stand, with_list_stand}
use Rattle.mo_places.proofs.laws.Finding.{ClassedStands, asking_of_stands, class_named_stands, members_in_stand}
use Rattle.mo_places.proofs.laws.Naming.{component_stands}
use Rattle.mo_places.proofs.laws.Comparing.{compatible_answers}
use Rattle.mo_places.proofs.laws.Speaking.{SpokenStands, spoken_in_stands}
use Rattle.mo_syntax.specs.declared.rules.TheConstants.{WRONG_REPLACEABLE}

pub each_checked_answers : {A : Type 0} (P : Written → Type 0) (check : A → Checked) (xs : List A) → Every (λ x. Answers P (Anything {A = Unit {0}}) (check x)) xs → Answers P (Anything {A = Unit {0}}) (each_checked check xs)
each_checked_answers P check [] h = record { holds = tt }
each_checked_answers P check (x ∷ xs) h =
    then_answers P (Anything {A = Unit {0}}) (Anything {A = Unit {0}}) (check x) (λ done. each_checked check xs) h.0 (λ done u. each_checked_answers P check xs h.1)

module _ (P : Written → Type 0) (table : Table) (stands : TableStands P table) where
  abbrev ComponentStands : Option (ComponentOf Give) → Type 0
  ComponentStands component = IfAny (λ (component : ComponentOf Give). NameStands P component.base) component

  type_named_stands : (scope : Scope) (component : Option (ComponentOf Give)) → FrameStands P scope.frame → ComponentStands component → Answers P (FrameStands P) (type_named table scope component)
  type_named_stands scope None hf h = record { holds = hf }
  type_named_stands scope (Some component) hf h =
      then_answers P (ClassedStands P table stands) (FrameStands P) (class_named table (asking_of table) false scope component.base) (λ class. Ok class.frame)
      (class_named_stands P table stands (asking_of table) false scope component.base (asking_of_stands P table stands) hf h)
      (λ class hc. record { holds = hc })

  new_class_stands : (redeclaration : Redeclaration) → RedeclarationStands P redeclaration → Answers P (FrameStands P) (new_class table redeclaration)
  new_class_stands redeclaration h =
      if_answers P (FrameStands P) (is_class redeclaration.declares) _ _
      (record { holds = (gathered_stand P (with_list redeclaration.source redeclaration.declares.own) (with_list_stand P table stands redeclaration.source redeclaration.declares.own h.source h.declares.own), h.source.1, tt) })
      (type_named_stands redeclaration.source.scope (component_of redeclaration.declares) h.source.1 (component_stands P redeclaration.declares h.declares.sort))

  declared_class_stands : (member : Member) → MemberStands P member → Answers P (FrameStands P) (declared_class table member)
  declared_class_stands member h =
      if_answers P (FrameStands P) (is_class member.declares) _ _
      (record { holds = (tt, h.home, tt) })
      (type_named_stands (scope_of_home member) (component_of member.declares) h.home (component_stands P member.declares h.declares.sort))

  abbrev class_by : Member → Option Constraint → Outcome Frame
  class_by member None = declared_class table member
  class_by member (Some limit) = and_then (class_named table (asking_of table) false (scope_of_home member) limit.class) (λ class. Ok class.frame)

  class_by_stands : (member : Member) → MemberStands P member → (limit : Option Constraint) → IfAny (ConstraintStands P) limit → Answers P (FrameStands P) (class_by member limit)
  class_by_stands member h None hl = declared_class_stands member h
  class_by_stands member h (Some limit) hl =
      then_answers P (ClassedStands P table stands) (FrameStands P) (class_named table (asking_of table) false (scope_of_home member) limit.class) (λ class. Ok class.frame)
      (class_named_stands P table stands (asking_of table) false (scope_of_home member) limit.class (asking_of_stands P table stands) h.home hl.class)
      (λ class hc. record { holds = hc })

  constraining_class_stands : (member : Member) → MemberStands P member → Answers P (FrameStands P) (constraining_class table member)
  constraining_class_stands member h = class_by_stands member h member.declares.limit h.declares.limit

  redeclaration_answers : (member : Member) (redeclaration : Redeclaration) → MemberStands P member → RedeclarationStands P redeclaration →
      Answers P (Anything {A = Unit {0}}) (redeclaration_checked table member redeclaration)
  redeclaration_answers member redeclaration hm h =
      if_answers P (Anything {A = Unit {0}}) (bool_eq (is_class redeclaration.declares) (is_class member.declares)) _ _
      (if_answers P (Anything {A = Unit {0}}) (is_replaceable_for table member redeclaration) _ _
      (then_answers P (FrameStands P) (Anything {A = Unit {0}}) (new_class table redeclaration) (λ new. and_then (constraining_class table member) (compatible table redeclaration.place new)) (new_class_stands redeclaration h)
      (λ new hn. then_answers P (FrameStands P) (Anything {A = Unit {0}}) (constraining_class table member) (compatible table redeclaration.place new) (constraining_class_stands member hm)
      (λ wanted hw. compatible_answers P table stands redeclaration.place new wanted h.place hn hw)))
      (record { holds = h.place }))
      (record { holds = h.place })

  abbrev checked_by : Walked → Redeclaration → Option Member → Checked
  checked_by walked redeclaration (Some member) = redeclaration_checked table member redeclaration
  checked_by walked redeclaration None = if is_some walked.leaf then breaks WRONG_REPLACEABLE redeclaration.place else fine

  checked_by_answers : (walked : Walked) (redeclaration : Redeclaration) (member : Option Member) → RedeclarationStands P redeclaration → IfAny (MemberStands P) member →
      Answers P (Anything {A = Unit {0}}) (checked_by walked redeclaration member)
  checked_by_answers walked redeclaration (Some member) h hm = redeclaration_answers member redeclaration hm h
  checked_by_answers walked redeclaration None h hm =
      if_answers P (Anything {A = Unit {0}}) (is_some walked.leaf) (breaks WRONG_REPLACEABLE redeclaration.place) fine (record { holds = h.place }) (record { holds = tt })

  redeclaration_in_answers : (walked : Walked) (name : List ℕ) → WalkedStands P walked → (redeclaration : Redeclaration) → RedeclarationStands P redeclaration →
      Answers P (Anything {A = Unit {0}}) (redeclaration_in table walked name redeclaration)
  redeclaration_in_answers walked name hw redeclaration h =
      checked_by_answers walked redeclaration (named name (members_in walked)) h (any_find (MemberStands P) _ (members_in walked) (members_in_stand P table stands walked hw))

  spoken_answers : (walked : Walked) → WalkedStands P walked → (spoken : Spoken) → SpokenStands P spoken → Answers P (Anything {A = Unit {0}}) (spoken_checked table walked spoken)
  spoken_answers walked hw spoken h =
      each_checked_answers P (redeclaration_in table walked spoken.name) spoken.redeclares
      (every_weaker (RedeclarationStands P) _ (redeclaration_in_answers walked spoken.name hw) spoken.redeclares h.redeclares)

  pub redeclarations_answer : (walked : Walked) (frame : Frame) → WalkedStands P walked → FrameStands P frame → Answers P (Anything {A = Unit {0}}) (redeclarations_checked table walked frame)
  redeclarations_answer walked frame hw hf =
      each_checked_answers P (spoken_checked table walked) (spoken_in table (sources_of frame))
      (every_weaker (SpokenStands P) _ (spoken_answers walked hw) (spoken_in table (sources_of frame)) (spoken_in_stands P table stands (sources_of frame) (sources_stand P frame hf)))
