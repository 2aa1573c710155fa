use Rattle.std.proofs.Common.{◌≡◌, ◌-◌, suc, slice_index_or, arith}
use Rattle.mo_pantelides.proofs.Ranking.{leads_by}
use Rattle.mo_pantelides.proofs.ranks.led_by.Goals as goal

pub returns-clause-some : goal.returns-clause-some
returns-clause-some c =
    let entry = c.entry-unknown.ensures in
    let x = slice_index_or c.args.paired.now.owner.now c.entry-unknown.result.0 0 - 1 in
    let back : slice_index_or c.args.paired.now.owner.now c.entry-unknown.result.0 0 ≡ suc x = omega (arith, c.if-holder-eq0.false) in
    let held = c.requires.matching.owns x c.entry-unknown.result.0 entry.known.0 entry.known.1 back in
    (held.0, leads_by _ _ _ _ c.args.k c.args.n x _ _ entry.unknown entry.order held.1 (omega (arith, c.if-holder-k.false, c.if-holder-eq0.false)) (omega (arith, c.if-from.false)))
