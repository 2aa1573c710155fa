use Rattle.std.proofs.Common.{◌≡◌, ◌+◌, ◌∙◌, [], get_or, refl, arith}
use Rattle.mo_verify.specs.Steps.{printed_of}
use Rattle.mo_verify.proofs.Numbering.{at_default}
use Rattle.mo_verify.proofs.Claiming.{one_longer, more_unknowns, other_unknown}
use Rattle.mo_verify.proofs.claims.read_unknowns.Goals as goal

pub loop-at-preserved : goal.loop-at-preserved
loop-at-preserved c =
    let key : c.as_str.result.now ≡ get_or c.args.names.now c.loop-at.at [] = c.as_str.ensures ∙ at_default c.args.names.now c.loop-at.at c.index-names-at.result c.index-names-at.is (omega arith) in
    let is = rw key at c.in-Some.ensures.some in
    record {
      read =
          more_unknowns c.args.names.now c.args.equations c.args._report.now (printed_of c.loop-at.claims) c.loop-at.at c.loop-at.rest.now c.first_line.result.0.now c.first_line.result.1.now c.loop-at.invariant.read
          (record { whole = c.first_line.ensures.whole; lines = c.first_line.ensures.lines; some = c.first_line.ensures.some }) (omega arith) _ _
          c.loop-at.invariant.d_all c.in_ok-push.ensures.items is;
      d_all = one_longer _ _ _ c.loop-at.at c.in_ok-push.ensures.items c.loop-at.invariant.d_all;
      rest = c.loop-at.invariant.rest;
    }

pub returns-in_default-clause-misshapen : goal.returns-in_default-clause-misshapen
returns-in_default-clause-misshapen c =
    let key : c.as_str.result.now ≡ get_or c.args.names.now c.loop-at.at [] = c.as_str.ensures ∙ at_default c.args.names.now c.loop-at.at c.index-names-at.result c.index-names-at.is (omega arith) in
    let none = rw key at c.in_default.ensures.none in
    other_unknown c.args.names.now c.args.equations c.args._report.now (printed_of c.loop-at.claims) c.loop-at.at c.loop-at.rest.now c.first_line.result.0.now c.first_line.result.1.now c.loop-at.invariant.read
    (record { whole = c.first_line.ensures.whole; lines = c.first_line.ensures.lines; some = c.first_line.ensures.some }) (omega arith) _
    (c.args.equations + c.loop-at.at + 1) _ c.in_ok-shape_verdict.ensures refl (omega (arith, c.loop-at.invariant.d_all)) none
