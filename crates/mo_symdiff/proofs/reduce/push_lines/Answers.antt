-- What is paid for, line by line.
use Rattle.std.proofs.Common.{◌≡◌, ◌-◌, ◌++◌, ap, refl, arith}
use Rattle.mo_symdiff.specs.Reduced.{bytes_at, derivatives, nodes_at}
use Rattle.mo_symdiff.specs.declared.reduce.Room.{Room}
use Rattle.mo_symdiff.proofs.Reducing.{cost_turn, finished, line_turn, short_two}
use Rattle.mo_symdiff.proofs.reduce.push_lines.Goals as goal

pub loop-derivative-init : goal.loop-derivative-init
loop-derivative-init c =
    let all : c.args.count - 0 ≡ c.args.count = omega arith in
    record { lines = ap (λ n. c.args.made.now ++ derivatives c.args.vars.now n c.args.line) all; nodes = refl; bytes = refl; within = omega arith }

pub step-requires : goal.step-requires
step-requires c = omega (arith, c.loop-derivative.invariant.within)

pub returns-in_default : goal.returns-in_default
returns-in_default c =
    let invariant = c.loop-derivative.invariant in
    let short = rw c.in_default.is at c.in_ok-rest.ensures in
    short_two _ (c.args.count - c.loop-derivative._derivative) c.args.made.now _ (derivatives c.args.vars.now c.args.count c.args.line) _ _ _ _ _ (omega (arith, c.loop-derivative-test.true)) invariant.lines invariant.nodes invariant.bytes short

pub loop-derivative-preserved : goal.loop-derivative-preserved
loop-derivative-preserved c =
    let invariant = c.loop-derivative.invariant in
    let found = rw c.in-Some.is at c.in_ok-rest.ensures in
    let made = found.0 in
    let next = found.1 in
    let paid = found.2 in
    record {
      lines = line_turn _ _ _ _ _ _ _ _ c.loop-derivative-test.true invariant.lines made next;
      nodes = cost_turn nodes_at _ _ _ _ _ _ invariant.nodes paid.nodes_paid made;
      bytes = cost_turn (bytes_at c.args.vars.now) _ _ _ _ _ _ invariant.bytes paid.bytes_paid made;
      within = omega (arith, paid.nodes_paid, invariant.within);
    }

pub finish-requires : goal.finish-requires
finish-requires c = omega (arith, c.loop-derivative.invariant.within)

pub returns : goal.returns
returns c =
    let invariant = c.loop-derivative.invariant in
    let all : c.loop-derivative._derivative ≡ c.args.count = omega arith in
    finished (λ (room : Room). room.nodes) (λ (room : Room). room.bytes) _ _ _ _ _ _ _ _ _ _ _ _ _ all invariant.lines invariant.nodes invariant.bytes c.finish.ensures
