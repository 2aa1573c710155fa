use Rattle.std.proofs.Common.{◌<◌, ◌≤◌, ◌+◌, ◌-◌, ◌/◌, ◌∙◌, sym, arith}
use Rattle.mo_incidence.specs.Signature.{equations, row_len, unknown_at}
use Rattle.mo_certify.proofs.Halving.{one_entry, between_up, between_down, between_none}
use Rattle.mo_certify.proofs.entries.find_entry.Goals as goal

pub loop-low-init : goal.loop-low-init
loop-low-init c = record {
  order = omega arith;
  within = omega (arith, c.row_len-high.ensures);
  before = λ n nl. absurd (omega arith);
  after = λ n le nl. absurd (omega (arith, c.row_len-high.ensures));
}

pub returns-then-found-unknown-clause-only : goal.returns-then-found-unknown-clause-only
returns-then-found-unknown-clause-only c =
    let row_in : c.args.row - 1 < equations c.args.inc.now = omega (arith, c.requires.row) in
    let inside : c.loop-low.low + (c.loop-low.high - c.loop-low.low) / 2 < row_len c.args.inc.now (c.args.row - 1) = omega (arith, c.loop-low-test.true, c.loop-low.invariant.within) in
    λ n nl is. one_entry _ _ c.equations-equations.ensures.sound row_in _ n inside nl (sym c.entry-found.ensures.unknown ∙ c.if-found-unknown.true ∙ sym is)

pub loop-low-preserved-then-found-unknown-2 : goal.loop-low-preserved-then-found-unknown-2
loop-low-preserved-then-found-unknown-2 c =
    let row_in : c.args.row - 1 < equations c.args.inc.now = omega (arith, c.requires.row) in
    let above : c.loop-low.low ≤ c.loop-low.low + (c.loop-low.high - c.loop-low.low) / 2 = omega arith in
    let below : c.loop-low.low + (c.loop-low.high - c.loop-low.low) / 2 < c.loop-low.high = omega (arith, c.loop-low-test.true) in
    let less : unknown_at c.args.inc.now (c.args.row - 1) (c.loop-low.low + (c.loop-low.high - c.loop-low.low) / 2) < c.args.unknown = omega (arith, c.entry-found.ensures.unknown, c.if-found-unknown-2.true) in
    between_up _ _ _ _ _ c.equations-equations.ensures.sound row_in c.loop-low.invariant _ above below less

pub loop-low-preserved : goal.loop-low-preserved
loop-low-preserved c =
    let row_in : c.args.row - 1 < equations c.args.inc.now = omega (arith, c.requires.row) in
    let above : c.loop-low.low ≤ c.loop-low.low + (c.loop-low.high - c.loop-low.low) / 2 = omega arith in
    let below : c.loop-low.low + (c.loop-low.high - c.loop-low.low) / 2 < c.loop-low.high = omega (arith, c.loop-low-test.true) in
    let more : c.args.unknown < unknown_at c.args.inc.now (c.args.row - 1) (c.loop-low.low + (c.loop-low.high - c.loop-low.low) / 2) =
    omega (arith, c.entry-found.ensures.unknown, c.if-found-unknown.false, c.if-found-unknown-2.false) in
    between_down _ _ _ _ _ c.equations-equations.ensures.sound row_in c.loop-low.invariant _ above below more

pub returns-clause-none : goal.returns-clause-none
returns-clause-none c = between_none _ _ _ _ _ c.loop-low.invariant (omega arith)
