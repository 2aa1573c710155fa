use Rattle.std.proofs.Common.{◌≡◌, rules}
use Rattle.mo_connect.specs.Alike.{Breaks}
use Rattle.mo_connect.proofs.AlikeLemmas.{so, not_so}
use Rattle.mo_connect.proofs.refusals.breach_of.Goals as goal

pub returns-then-not-all_alike : goal.returns-then-not-all_alike
returns-then-not-all_alike c =
    let sizes : c.args.connect.now.left.dims ≡ c.args.connect.now.right.dims = search rules in
    Breaks.leaves (record {
      left = not_so _ c.is_neither.ensures c.if-is_neither.false;
      right = not_so _ c.is_neither-2.ensures c.if-is_neither-2.false;
    }) sizes (not_so _ (rw (c.as_slice-3.ensures, c.as_slice-4.ensures) at c.all_alike.ensures) c.if-not-all_alike.true) c.broken-then-not-all_alike.ensures

pub returns : goal.returns
returns c = record {
  connectors = record {
    left = not_so _ c.is_neither.ensures c.if-is_neither.false;
    right = not_so _ c.is_neither-2.ensures c.if-is_neither-2.false;
  };
  sizes = search rules;
  alike = so _ (rw (c.as_slice-3.ensures, c.as_slice-4.ensures) at c.all_alike.ensures) c.if-not-all_alike.false;
}
