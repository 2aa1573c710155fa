use Rattle.std.proofs.Common.{◌≡◌, ◌-◌, suc, slice_index_or, arith}
use Rattle.mo_incidence.proofs.Owning.{need_some}
use Rattle.mo_incidence.proofs.needing.needed.Goals as goal

pub returns-clause-some : goal.returns-clause-some
returns-clause-some c =
    let entry = c.entry-unknown.ensures in
    let held : slice_index_or c.args.owner.now c.entry-unknown.result.0 0 ≡ suc (slice_index_or c.args.owner.now c.entry-unknown.result.0 0 - 1) = omega (arith, c.if-holder-eq0.false) in
    need_some _ _ _ _ _ _ c.args.k _ _ entry.unknown entry.order c.requires.owners (omega (arith, c.if-from.false)) _ held
