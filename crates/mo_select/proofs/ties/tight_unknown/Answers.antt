use Rattle.std.proofs.Common.{◌≡◌, ◌+◌, ◌-◌, get_or, arith}
use Rattle.mo_incidence.specs.Signature.{order_at}
use Rattle.mo_select.proofs.Ranks.{unknown_back, order_back}
use Rattle.mo_select.proofs.ties.tight_unknown.Goals as goal

pub returns-then-from-clause-none : goal.returns-then-from-clause-none
returns-then-from-clause-none c = λ tight. c.if-from.true (
    let is = unknown_back _ _ _ _ c.entry-unknown.ensures.unknown in
    let order_is = order_back _ _ _ _ c.entry-unknown.ensures.order in
    let at : get_or c.args.d.now (c.entry-unknown.result.0 - 1) 0 ≡ get_or c.args.c.now c.args.i 0 + order_at c.args.inc.now c.args.i c.args.k = rw (← is) at tight in
    omega (arith, at, order_is, c.from.ensures, c.from-2.ensures, c.from-3.ensures))

pub returns-clause-unknown : goal.returns-clause-unknown
returns-clause-unknown c = unknown_back _ _ _ _ c.entry-unknown.ensures.unknown

pub returns-clause-tight : goal.returns-clause-tight
returns-clause-tight c =
    let is = unknown_back _ _ _ _ c.entry-unknown.ensures.unknown in
    let order_is = order_back _ _ _ _ c.entry-unknown.ensures.order in
    let at : get_or c.args.d.now (c.entry-unknown.result.0 - 1) 0 ≡ get_or c.args.c.now c.args.i 0 + order_at c.args.inc.now c.args.i c.args.k =
    omega (arith, order_is, c.if-from.false, c.from.ensures, c.from-2.ensures, c.from-3.ensures) in
    rw (← is) at
