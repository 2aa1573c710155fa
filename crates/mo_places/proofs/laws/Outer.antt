-- A rule that an outer component breaks is broken where the component and the class table stand.
use Rattle.std.proofs.Common.{[], Ok, Err, nat_eq}
use Rattle.mo_syntax.specs.Outcome.{breaks}
use Rattle.mo_syntax.specs.declared.place.Place.{Place}
use Rattle.mo_scope.specs.Rows.{Table}
use Rattle.mo_scope.specs.Frames.{Member}
use Rattle.mo_scope.specs.Names.{child_of_member, component_frame, inner_of}
use Rattle.mo_scope.specs.Compatible.{compatible}
use Rattle.mo_scope.specs.Redeclarations.{Checked}
use Rattle.mo_instance.specs.Outer.{as_differing, has_condition, is_alike, is_matched, is_wrongly_outer, outer_checked}
use Rattle.mo_places.specs.Written.{Written, At}
use Rattle.mo_places.specs.Stands.{ChildStands, InnerStands, Anything, Answers, MemberStands, TableStands}
use Rattle.mo_places.proofs.laws.Standing.{if_answers, then_answers}
use Rattle.mo_places.proofs.laws.Naming.{child_of_member_stands, component_frame_stands, inner_of_stands}
use Rattle.mo_places.proofs.laws.Comparing.{compatible_answers}
use Rattle.mo_syntax.specs.declared.rules.TheConstants.{INNER_DIFFERS, NOT_COMPATIBLE}

module _ (P : Written → Type 0) where
  abbrev Sure : Unit {0} → Type 0
  Sure = Anything {A = Unit {0}}

  differing_answers : (place : Place) (checked : Checked) → P (At place) → Answers P Sure checked → Answers P Sure (as_differing place checked)
  differing_answers place (Ok done) hp h = record { holds = tt }
  differing_answers place (Err broken) hp h = if_answers P Sure (nat_eq broken.rule NOT_COMPATIBLE) (breaks INNER_DIFFERS place) (Err broken) (record { holds = hp }) (record { holds = h.holds })

  module _ (table : Table) (stands : TableStands P table) where
    matched_answers : (outer inner : Member) → MemberStands P outer → MemberStands P inner → Answers P Sure (is_matched table outer inner)
    matched_answers outer inner ho hi =
        then_answers P (ChildStands P) Sure (child_of_member table outer []) _ (child_of_member_stands P table stands outer [] ho) (λ outer_child hoc.
        then_answers P (ChildStands P) Sure (child_of_member table inner []) _ (child_of_member_stands P table stands inner [] hi) (λ inner_child hic.
        if_answers P Sure (is_alike table outer outer_child inner inner_child) _ _
        (differing_answers outer.declares.place (compatible table outer.declares.place (component_frame inner [] inner_child) (component_frame outer [] outer_child)) ho.declares.place
        (compatible_answers P table stands outer.declares.place (component_frame inner [] inner_child) (component_frame outer [] outer_child) ho.declares.place
        (component_frame_stands P table stands inner [] inner_child hi hic) (component_frame_stands P table stands outer [] outer_child ho hoc)))
        (record { holds = ho.declares.place })))

    pub outer_checked_answers : (member : Member) → MemberStands P member → Answers P Sure (outer_checked table member)
    outer_checked_answers member h =
        if_answers P Sure (is_wrongly_outer table member) _ _ (record { holds = h.declares.place })
        (then_answers P (InnerStands P) Sure (inner_of table member.declares.place member) _ (inner_of_stands P table stands member.declares.place member h.declares.place h) (λ inner hi.
        if_answers P Sure (has_condition inner.1) _ _ (record { holds = h.declares.place }) (matched_answers member inner.1 h hi.1)))
