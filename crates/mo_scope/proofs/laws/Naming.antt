-- Elements, children and what the names of expressions and types find stand where the class table and the frame stand, and a rule that
-- they break is broken at such a place or at the name that asks.
use Rattle.std.proofs.Common.{◌≡◌, ℕ, suc, ◌+◌, length, arith, Bool, false, ◌||◌, List, [], ◌∷◌, map, find, Option, Some, None, Ok, refl}
use Rattle.mo_syntax.specs.Outcome.{Outcome}
use Rattle.mo_syntax.specs.declared.expr.Expr.{Expr}
use Rattle.mo_syntax.specs.declared.expr.PartOf.{PartOf}
use Rattle.mo_syntax.specs.declared.expr.ReferenceOf.{ReferenceOf}
use Rattle.mo_syntax.specs.declared.class.ComponentOf.{ComponentOf}
use Rattle.mo_syntax.specs.declared.class.Give.{Give}
use Rattle.mo_syntax.specs.declared.place.Place.{Place}
use Rattle.mo_scope.specs.TreePlaces.{nowhere, places_of_parts}
use Rattle.mo_scope.specs.Places.{Every, IfAny, RowStands, Answers, NameStands, SortStands, DeclaresStand, ClauseStands, TableStands, FrameStands, SourceStands, MemberStands, RedeclarationStands, FoundStands, ReachedStands, WalkedStands}
use Rattle.mo_scope.specs.Rows.{Table, Row, row_at, Sort, A_class, A_component, Declares, is_class, is_constant, component_of, Clause, number_of_classes}
use Rattle.mo_scope.specs.Frames.{Frame, Top, In, Scope, Member, class_of, sources_of, outer_of, owners}
use Rattle.mo_scope.specs.Parts.{Redeclaration}
use Rattle.mo_scope.specs.Lookup.{Found, Component, Class, Literal, Iteration, Function, Time, Element, Other, Absent, asking_of, asking_in, behind_class, class_named, entered, found_by_name, found_first, members_in, reached, walked, with_busy}
use Rattle.mo_scope.specs.Names.{walk_of, elements_of, base_frame_of, Child, typed_by, child_by, child_of_member, child_of, component_frame, is_inner_for, inner_among, inner_of, stands_for, constant_unless, taken, behind_component, behind_found, found_behind, found, found_reference, found_class, found_path}
use Rattle.mo_scope.proofs.laws.Standing.{any_find, then_answers, if_answers}
use Rattle.mo_scope.proofs.laws.Sources.{sources_stand, gathered_stand, row_stands, redeclared_stands, component_sources_stand}
use Rattle.mo_scope.proofs.laws.Finding.{members_in_stand, reached_stands, entered_stands, behind_class_stands, found_by_name_stands, found_first_stands, class_named_stands, base_of_stands, walked_stands, walked_class_stands, asking_of_stands, asking_in_stands, MetStands, ClassedStands}

-- a child: its declaration, the redeclaration that wins, the class of its type and its sources stand
pub record ChildStands (P : Place → Type 0) (child : Child) : Type 0 where
  pub declares : DeclaresStand P child.declares
  pub redeclared : IfAny (RedeclarationStands P) child.redeclared
  pub class : FrameStands P child.class
  pub sources : Every (SourceStands P) child.sources

pub component_stands : (P : Place → Type 0) (declares : Declares) → SortStands P declares.sort → IfAny (λ (component : ComponentOf Give). NameStands P component.base) (component_of declares)
component_stands P declares h = by declares.sort refl h
  where
    by : (sort : Sort) → declares.sort ≡ sort → SortStands P sort → IfAny (λ (component : ComponentOf Give). NameStands P component.base) (component_of declares)
    by (A_class number encapsulated) is h = rw is tt
    by (A_component component) is h = rw is h

pub outer_stands : (P : Place → Type 0) (frame : Frame) → FrameStands P frame → FrameStands P (outer_of frame)
outer_stands P Top h = tt
outer_stands P (In class sources outer at owner) h = h.1

pub owners_stand : (P : Place → Type 0) (frame : Frame) → FrameStands P frame → Every (FrameStands P) (owners frame)
owners_stand P Top h = tt
owners_stand P (In class sources outer at Top) h = tt
owners_stand P (In class sources outer at (In class' sources' outer' at' owner')) h =
    (h.2, owners_stand P (In class' sources' outer' at' owner') h.2)

module _ (P : Place → Type 0) (table : Table) (stands : TableStands P table) where
  -- ---- elements and bases

  -- No class is having its bases found, so the place at which is asked does not count.
  pub walk_of_stands : (frame : Frame) → FrameStands P frame → Answers P (WalkedStands P) (walk_of table frame)
  unfolding walked
  walk_of_stands frame hf =
      rw some (walked_class_stands P table stands (record { busy = with_busy [] frame; elements = walked table (5 + length table) (with_busy [] frame) }) frame (row_at table (class_of frame))
      (record { elements = λ asked base ha hb. walked_stands P table stands (5 + length table) (with_busy [] frame) asked base ha hb })
      hf (row_stands P table stands (class_of frame)))
    where
      some : number_of_classes table ≡ suc (5 + length table)
      some = omega arith

  pub elements_of_stand : (frame : Frame) → FrameStands P frame → Answers P (Every (MemberStands P)) (elements_of table frame)
  elements_of_stand frame hf =
      then_answers P (WalkedStands P) (Every (MemberStands P)) (walk_of table frame) _ (walk_of_stands frame hf)
      (λ walked hw. record { holds = members_in_stand P table stands walked hw })

  pub base_frame_of_stands : (frame : Frame) (clause : Clause) → FrameStands P frame → ClauseStands P clause → Answers P (FrameStands P) (base_frame_of table frame clause)
  base_frame_of_stands frame clause hf hc = by (row_at table (class_of frame)) refl (row_stands P table stands (class_of frame))
    where
      by : (row : Option Row) → row_at table (class_of frame) ≡ row → IfAny (RowStands P) row → Answers P (FrameStands P) (base_frame_of table frame clause)
      by None is hr = rw is (record { holds = hf })
      by (Some row) is hr = rw is (base_of_stands P table stands (asking_in table (class_of frame)) frame row clause (asking_in_stands P table stands (class_of frame)) hf hr hc)

  -- ---- children

  TypedStands : ComponentOf Give × Scope → Type 0
  TypedStands typed = NameStands P typed.0.base × FrameStands P typed.1.frame

  typed_by_stands : (member : Member) (component : ComponentOf Give) (wins : Option Redeclaration) → MemberStands P member → NameStands P component.base →
      IfAny (RedeclarationStands P) wins → Answers P TypedStands (typed_by member component wins)
  unfolding TypedStands
  typed_by_stands member component None hm hb h = record { holds = (hb, hm.home) }
  typed_by_stands member component (Some redeclaration) hm hb h =
      by (component_of redeclaration.declares) refl (component_stands P redeclaration.declares h.declares.sort)
    where
      by : (other : Option (ComponentOf Give)) → component_of redeclaration.declares ≡ other → IfAny (λ (component : ComponentOf Give). NameStands P component.base) other →
          Answers P TypedStands (typed_by member component (Some redeclaration))
      by None is ho = rw is (record { holds = h.place })
      by (Some other) is ho = rw is (record { holds = (ho, h.source.1) })

  child_by_stands : (member : Member) (index : List ℕ) (wins : Option Redeclaration) → MemberStands P member → IfAny (RedeclarationStands P) wins →
      Answers P (ChildStands P) (child_by table member index wins)
  unfolding TypedStands
  child_by_stands member index wins hm h = by (component_of member.declares) refl (component_stands P member.declares hm.declares.sort)
    where
      by : (component : Option (ComponentOf Give)) → component_of member.declares ≡ component → IfAny (λ (component : ComponentOf Give). NameStands P component.base) component →
          Answers P (ChildStands P) (child_by table member index wins)
      by None is hc =
          rw is (then_answers P (FrameStands P) (ChildStands P) (entered table member) _ (entered_stands P table stands member hm)
          (λ class hd. record { holds = record { declares = hm.declares; redeclared = h; class = hd; sources = sources_stand P class hd } }))
      by (Some component) is hc =
          rw is (then_answers P TypedStands (ChildStands P) (typed_by member component wins) _ (typed_by_stands member component wins hm hc h)
          (λ typed ht. then_answers P (ClassedStands P table stands) (ChildStands P) (class_named table (asking_of table) false typed.1 typed.0.base) _
          (class_named_stands P table stands (asking_of table) false typed.1 typed.0.base (asking_of_stands P table stands) ht.1 ht.0)
          (λ type hd. record { holds = record { declares = hm.declares; redeclared = h; class = hd; sources = component_sources_stand P table stands member index type.frame hm hd } })))

  pub child_of_member_stands : (member : Member) (index : List ℕ) → MemberStands P member → Answers P (ChildStands P) (child_of_member table member index)
  child_of_member_stands member index hm =
      child_by_stands member index _ hm (redeclared_stands P table stands (sources_of member.home) member.name index (sources_stand P member.home hm.home))

  -- A name that the frame does not have is asked of it nowhere.
  pub child_of_stands : (frame : Frame) (name index : List ℕ) → P nowhere → FrameStands P frame → Answers P (ChildStands P) (child_of table frame name index)
  child_of_stands frame name index hp hf =
      then_answers P (ReachedStands P) (ChildStands P) (reached table (asking_of table) nowhere frame name) _
      (reached_stands P table stands (asking_of table) nowhere frame name (asking_of_stands P table stands) hp hf)
      (elim [
        | Element member ↦ λ h. child_of_member_stands member index h
        | Other found ↦ λ h. record { holds = hp }
        | Absent ↦ λ h. record { holds = hp }
      ])

  pub component_frame_stands : (member : Member) (index : List ℕ) (child : Child) → MemberStands P member → ChildStands P child → FrameStands P (component_frame member index child)
  component_frame_stands member index child hm hc = (gathered_stand P child.sources hc.sources, outer_stands P child.class hc.class, hm.home)

  -- ---- components that stand for the inner one

  abbrev InnerStands : Frame × Member → Type 0
  InnerStands inner = FrameStands P inner.0 × MemberStands P inner.1

  abbrev inner_or : Frame → Outcome (Frame × Member) → Option Member → Outcome (Frame × Member)
  inner_or owner others (Some member) = Ok (owner, member)
  inner_or owner others None = others

  inner_or_stands : (owner : Frame) (others : Outcome (Frame × Member)) (member : Option Member) → FrameStands P owner → Answers P InnerStands others → IfAny (MemberStands P) member →
      Answers P InnerStands (inner_or owner others member)
  inner_or_stands owner others (Some member) hf ho h = record { holds = (hf, h) }
  inner_or_stands owner others None hf ho h = ho

  inner_among_stands : (ask : Place) (outer : Member) (frames : List Frame) → P ask → MemberStands P outer → Every (FrameStands P) frames →
      Answers P InnerStands (inner_among table ask outer frames)
  inner_among_stands ask outer [] hp hm h = record { holds = hm.declares.place }
  inner_among_stands ask outer (owner ∷ others) hp hm h =
      then_answers P (WalkedStands P) InnerStands ((asking_of table).elements ask owner) _ ((asking_of_stands P table stands).elements ask owner hp h.0)
      (λ walked hw. inner_or_stands owner (inner_among table ask outer others) (find (is_inner_for outer) (members_in walked)) h.0
      (inner_among_stands ask outer others hp hm h.1)
      (any_find (MemberStands P) (is_inner_for outer) (members_in walked) (members_in_stand P table stands walked hw)))

  pub inner_of_stands : (ask : Place) (outer : Member) → P ask → MemberStands P outer → Answers P InnerStands (inner_of table ask outer)
  inner_of_stands ask outer hp hm = inner_among_stands ask outer (owners outer.home) hp hm (owners_stand P outer.home hm.home)

  pub stands_for_stands : (ask : Place) (found : Found) → P ask → FoundStands P found → Answers P (FoundStands P) (stands_for table ask found)
  stands_for_stands ask (Component frame member) hp h =
      if_answers P (FoundStands P) member.declares.flags.outer _ _
      (then_answers P InnerStands (FoundStands P) (inner_of table ask member) _ (inner_of_stands ask member hp h.1) (λ inner hi. record { holds = (hi.0, hi.1) }))
      (record { holds = h })
  stands_for_stands ask (Class frame replaceable) hp h = record { holds = h }
  stands_for_stands ask (Literal class n) hp h = record { holds = tt }
  stands_for_stands ask (Iteration value) hp h = record { holds = tt }
  stands_for_stands ask (Function code) hp h = record { holds = tt }
  stands_for_stands ask Time hp h = record { holds = tt }

  -- ---- the names of expressions

  constant_unless_stands : (near : Bool) (place : Place) (found : Found) → P place → FoundStands P found → Answers P (FoundStands P) (constant_unless near place found)
  constant_unless_stands near place (Component frame member) hp h =
      if_answers P (FoundStands P) (near || is_constant member.declares) _ _ (record { holds = h }) (record { holds = hp })
  constant_unless_stands near place (Class frame replaceable) hp h = record { holds = h }
  constant_unless_stands near place (Literal class n) hp h = record { holds = tt }
  constant_unless_stands near place (Iteration value) hp h = record { holds = tt }
  constant_unless_stands near place (Function code) hp h = record { holds = tt }
  constant_unless_stands near place Time hp h = record { holds = tt }

  taken_stands : (near : Bool) (place : Place) (found : Found) → P place → FoundStands P found → Answers P (FoundStands P) (taken table near place found)
  taken_stands near place found hp h =
      then_answers P (FoundStands P) (FoundStands P) (constant_unless near place found) _ (constant_unless_stands near place found hp h)
      (λ found hd. stands_for_stands place found hp hd)

  behind_component_stands : (place : Place) (member : Member) (name : List ℕ) → P place → MemberStands P member → Answers P (FoundStands P) (behind_component table place member name)
  behind_component_stands place member name hp hm =
      then_answers P (ChildStands P) (FoundStands P) (child_of_member table member []) _ (child_of_member_stands member [] hm)
      (λ child hc. then_answers P (ReachedStands P) (FoundStands P) (reached table (asking_of table) place (component_frame member [] child) name) _
      (reached_stands P table stands (asking_of table) place (component_frame member [] child) name (asking_of_stands P table stands) hp (component_frame_stands member [] child hm hc))
      (elim [
        | Element part ↦ λ h. if_answers P (FoundStands P) (is_class part.declares) _ _ (record { holds = hp })
            (if_answers P (FoundStands P) part.hidden _ _ (record { holds = hp })
            (stands_for_stands place (Component (component_frame member [] child) part) hp (component_frame_stands member [] child hm hc, h)))
        | Other found ↦ λ h. record { holds = hp }
        | Absent ↦ λ h. record { holds = hp }
      ]))

  behind_found_stands : (found : Found) (part : PartOf Expr) → FoundStands P found → P part.place → Answers P (FoundStands P) (behind_found table found part)
  behind_found_stands (Class frame replaceable) part h hp =
      then_answers P (FoundStands P) (FoundStands P) (behind_class table (asking_of table) part.place part.place None frame part.name) _
      (behind_class_stands P table stands (asking_of table) part.place part.place None frame part.name (asking_of_stands P table stands) hp hp tt h)
      (λ found hd. taken_stands false part.place found hp hd)
  behind_found_stands (Component frame member) part h hp = behind_component_stands part.place member part.name hp h.1
  behind_found_stands (Literal class n) part h hp = record { holds = hp }
  behind_found_stands (Iteration value) part h hp = record { holds = hp }
  behind_found_stands (Function code) part h hp = record { holds = hp }
  behind_found_stands Time part h hp = record { holds = hp }

  found_behind_stands : (found : Found) (parts : List (PartOf Expr)) → FoundStands P found → Every P (map (λ part. part.place) parts) →
      Answers P (FoundStands P) (found_behind table found parts)
  found_behind_stands found [] h hp = record { holds = h }
  found_behind_stands found (part ∷ parts) h hp =
      then_answers P (FoundStands P) (FoundStands P) (behind_found table found part) _ (behind_found_stands found part h hp.0)
      (λ next hn. found_behind_stands next parts hn hp.1)

  -- A simple name: the place of a rule that it breaks stands, or is its own.
  pub found_stands : (scope : Scope) (name : List ℕ) (place : Place) → P place → FrameStands P scope.frame → Answers P (FoundStands P) (found table scope name place)
  found_stands scope name place hp hf =
      then_answers P (MetStands P table stands) (FoundStands P) (found_by_name table (asking_of table) false scope place name) _
      (found_by_name_stands P table stands (asking_of table) false scope place name (asking_of_stands P table stands) hp hf)
      (λ met hm. taken_stands met.near place met.found hp hm)

  pub found_reference_stands : (scope : Scope) (reference : ReferenceOf Expr) → NameStands P reference → FrameStands P scope.frame →
      Answers P (FoundStands P) (found_reference table scope reference)
  found_reference_stands scope reference h hf = by reference.parts refl h
    where
      by : (parts : List (PartOf Expr)) → reference.parts ≡ parts → Every P (places_of_parts parts) → Answers P (FoundStands P) (found_reference table scope reference)
      by [] is h = rw is (record { holds = h.0 })
      by (part ∷ parts) is h =
          rw is (then_answers P (MetStands P table stands) (FoundStands P) (found_first table (asking_of table) false reference.top scope part) _
          (found_first_stands P table stands (asking_of table) false reference.top scope part (asking_of_stands P table stands) h.0 hf)
          (λ met hm. then_answers P (FoundStands P) (FoundStands P) (taken table met.near part.place met.found) _ (taken_stands met.near part.place met.found h.0 hm)
          (λ first hd. found_behind_stands first parts hd h.1)))

  pub found_class_stands : (scope : Scope) (reference : ReferenceOf Expr) → NameStands P reference → FrameStands P scope.frame →
      Answers P (FoundStands P) (found_class table scope reference)
  found_class_stands scope reference h hf =
      then_answers P (ClassedStands P table stands) (FoundStands P) (class_named table (asking_of table) false scope reference) _
      (class_named_stands P table stands (asking_of table) false scope reference (asking_of_stands P table stands) hf h)
      (λ class hc. record { holds = hc })

  pub found_path_stands : (scope : Scope) (reference : ReferenceOf Expr) (class_wanted : Bool) → NameStands P reference → FrameStands P scope.frame →
      Answers P (FoundStands P) (found_path table scope reference class_wanted)
  found_path_stands scope reference class_wanted h hf =
      if_answers P (FoundStands P) class_wanted _ _ (found_class_stands scope reference h hf) (found_reference_stands scope reference h hf)
