use Rattle.std.proofs.Common.{◌∙◌, arith}
use Rattle.mo_incidence.specs.Offsets.{by_place}
use Rattle.mo_blocks.proofs.Dummying.{at_diff, keep_next}
use Rattle.mo_select.proofs.Picking.{ok_through}
use Rattle.mo_select.proofs.choose.first_active.Goals as goal

pub keep-requires : goal.keep-requires
keep-requires c = λ k l.
    let known = at_diff (by_place c.args.c.now) 0 _ _ (c.deref.ensures.value ∙ c.in_ok-all.ensures (by_place c.args.c.now)) k l in
    omega (arith, known.0)

pub returns : goal.returns
returns c =
    ok_through c.keep.result _ _ (λ active are. keep_next (by_place c.args.c.now) 0 c.args.m _ active.items (c.deref.ensures.value ∙ c.in_ok-all.ensures (by_place c.args.c.now)) are) c.keep.ensures
