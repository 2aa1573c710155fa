use Rattle.std.proofs.Common.{◌≡◌, ◌+◌, length}
use Rattle.mo_verify.specs.Steps.{printed_of, AreReadTo}
use Rattle.mo_verify.proofs.claims.read_unknowns.Given as goal

abbrev pub invariant-loop-at : goal.invariant-loop-at
invariant-loop-at l = record {
  read : AreReadTo l.names l.equations l._report (printed_of l.claims) (l.equations + l.at) l.rest;
  d_all : length l.claims.offsets.d.items ≡ l.at;
  rest : (l.claims.offsets.c ≡ l.fn.claims.offsets.c) × (l.claims.offsets.pairs ≡ l.fn.claims.offsets.pairs) × (l.claims.orders ≡ l.fn.claims.orders);
}
