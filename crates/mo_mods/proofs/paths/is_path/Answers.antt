-- One name further.
use Rattle.std.proofs.Common.{true, false, arith}
use Rattle.mo_mods.proofs.PathTests.{text_test, other_lengths, path_step}
use Rattle.mo_mods.proofs.paths.is_path.Goals as goal

pub returns-then-a-b : goal.returns-then-a-b
returns-then-a-b c = other_lengths (λ name. name.now) c.args.a.now c.args.b.now c.if-a-b.true

pub returns-then-not-equals : goal.returns-then-not-equals
returns-then-not-equals c =
    path_step (λ name. name.now) c.args.a.now c.args.b.now c.loop-i.i c.index-a-i.result c.index-b-i.result false _ c.loop-i-test.true (omega arith) c.index-a-i.is c.index-b-i.is
    (text_test c.index-a-i.result.now c.index-b-i.result.now false c.if-not-equals.ensures) c.loop-i.invariant

pub loop-i-preserved : goal.loop-i-preserved
loop-i-preserved c =
    path_step (λ name. name.now) c.args.a.now c.args.b.now c.loop-i.i c.index-a-i.result c.index-b-i.result true _ c.loop-i-test.true (omega arith) c.index-a-i.is c.index-b-i.is
    (text_test c.index-a-i.result.now c.index-b-i.result.now true c.if-not-equals.ensures) c.loop-i.invariant
