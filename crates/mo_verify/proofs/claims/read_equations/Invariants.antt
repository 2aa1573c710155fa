use Rattle.std.proofs.Common.{◌≡◌, length}
use Rattle.mo_verify.specs.Steps.{printed_of, AreReadTo}
use Rattle.mo_verify.proofs.claims.read_equations.Given as goal

abbrev pub invariant-loop-at : goal.invariant-loop-at
invariant-loop-at l = record {
  read : AreReadTo l._names l.count l._report (printed_of l.claims) l.at l.rest;
  c_all : length l.claims.offsets.c.items ≡ l.at;
  pairs_all : length l.claims.offsets.pairs.items ≡ l.at;
  orders_all : length l.claims.orders.items ≡ l.at;
  d : l.claims.offsets.d ≡ l.fn.claims.offsets.d;
}
