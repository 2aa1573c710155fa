-- One part further.
use Rattle.std.proofs.Common.{◌≡◌, ◌+◌, refl, ap, sym, subst, ◌∙◌}
use Rattle.mo_scope.specs.Places.{Every}
use Rattle.mo_scope.specs.Sights.{member_seen}
use Rattle.mo_scope.specs.Worlds.{MemberEntry}
use Rattle.mo_equations.proofs.Lists.{every_last}
use Rattle.mo_equations.proofs.Owners.{base_passed, element_of, element_put, with_left}
use Rattle.mo_equations.proofs.flows.elements_of.Goals as goal
use Rattle.mo_equations.proofs.flows.elements_of.Goals.{in-Element+in_ok-push+in-Some, in_default}

pub loop-part-preserved : goal.loop-part-preserved
loop-part-preserved c = elim c.match-part.branch [
  | in-Element+in_ok-push+in-Some w ↦
      let entry = member_seen (element_of c.args.frame c.loop-part.item w.in-Element.declares) in
      let made = w.made-is ∙ w.in_ok-push.ensures.ok in (
        λ frames. ap (λ all. with_left frames c.args.parts.now c.args.frame (c.loop-part.part-index + 1) c.match-part.item all) made
            ∙ element_put frames c.args.parts.now c.args.frame c.loop-part.part-index c.loop-part.item c.match-part.item c.loop-part.made c.part-item.result w.in-Element.declares c.loop-part-test.true c.part-item.is
            w.in-Element.is (w.item-is ∙ w.in-Some.ensures.1) ∙ c.loop-part.invariant.0 frames,
        subst (Every (λ (member : MemberEntry). member.home ≡ c.args.frame.0)) (sym made) (every_last (λ (member : MemberEntry). member.home ≡ c.args.frame.0) c.loop-part.made entry c.loop-part.invariant.1 refl),
      )
  | in_default w ↦ (
    λ frames. ap (λ all. with_left frames c.args.parts.now c.args.frame (c.loop-part.part-index + 1) c.match-part.item all) w.made-is
        ∙ base_passed frames c.args.parts.now c.args.frame c.loop-part.part-index c.loop-part.item c.match-part.item c.loop-part.made c.part-item.result w.in_default.field-0 c.loop-part-test.true c.part-item.is
        w.in_default.is w.item-is ∙ c.loop-part.invariant.0 frames,
    subst (Every (λ (member : MemberEntry). member.home ≡ c.args.frame.0)) (sym w.made-is) c.loop-part.invariant.1,
  )
]
