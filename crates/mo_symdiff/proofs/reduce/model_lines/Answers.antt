-- What is paid for, equation by equation.
use Rattle.std.proofs.Common.{refl, arith}
use Rattle.mo_symdiff.specs.Reduced.{bytes_of, nodes_of}
use Rattle.mo_symdiff.proofs.Reducing.{all_within, cost_next, model_end, model_next, model_short, no_lines}
use Rattle.mo_symdiff.proofs.reduce.model_lines.Goals as goal

pub loop-i-init : goal.loop-i-init
loop-i-init c =
    record {
      lines = no_lines _ _ _ _ c.new-made.ensures;
      nodes = rw c.new-made.ensures (omega arith);
      bytes = rw c.new-made.ensures (omega arith);
    }

pub equation_lines-requires : goal.equation_lines-requires
equation_lines-requires c = omega (arith, c.loop-i.invariant.nodes)

pub returns-in_default : goal.returns-in_default
returns-in_default c =
    let invariant = c.loop-i.invariant in
    let q = c.index-equations-i.result in
    let short = rw c.in_default.is at c.in_ok-lines.ensures in
    model_short _ _ _ _ q _ q 0 _ _ _ _ _ _ c.loop-i-test.true c.requires.lengths c.index-equations-i.is refl invariant.lines invariant.nodes invariant.bytes short

pub loop-i-preserved : goal.loop-i-preserved
loop-i-preserved c =
    let invariant = c.loop-i.invariant in
    let q = c.index-equations-i.result in
    let found = rw c.in-Some.is at c.in_ok-lines.ensures in
    let made = c.in_ok-push.ensures.ok in
    record {
      lines = model_next _ _ _ _ q _ q 0 _ _ _ _ c.loop-i-test.true c.requires.lengths c.index-equations-i.is refl invariant.lines found.0 made;
      nodes = cost_next nodes_of _ _ _ _ _ _ _ invariant.nodes found.1.nodes_paid found.0 made;
      bytes = cost_next (bytes_of c.args.vars.now) _ _ _ _ _ _ _ invariant.bytes found.1.bytes_paid found.0 made;
    }

pub returns : goal.returns
returns c =
    let invariant = c.loop-i.invariant in
    let lines = model_end _ _ _ _ _ _ c.loop-i-test.false invariant.lines in
    (lines, all_within nodes_of _ _ _ _ lines invariant.nodes, all_within (bytes_of c.args.vars.now) _ _ _ _ lines invariant.bytes)
