use Rattle.std.proofs.Common.{◌<◌, length, arith}
use Rattle.mo_certify.proofs.Marking.{see_kept, see_row_holds, see_only}
use Rattle.mo_certify.proofs.deficiency.see_row.Goals as goal

pub loop-k-preserved : goal.loop-k-preserved
loop-k-preserved c =
    let inside : c.entry-unknown.result.0 < length c.loop-k.seen = omega (arith, c.entry-unknown.ensures.known, c.requires.sizes.1) in
    let kl = c.row_len-k-end.ensures in
    record {
      row = see_row_holds c.args.inc.now c.args.row c.args.listed.now c.args.seen.now c.loop-k.seen c.loop-k.k _ c.entry-unknown.ensures.unknown (omega arith) inside c.if-listed-unknown-eq0.false c.loop-k.invariant.row;
      kept = λ j some. see_kept c.args.inc.now c.args.row c.args.listed.now c.args.seen.now c.loop-k.seen c.loop-k.k _ c.entry-unknown.ensures.unknown (omega arith) inside c.if-listed-unknown-eq0.false j (c.loop-k.invariant.kept j some);
      only = see_only c.args.inc.now c.args.row c.args.listed.now c.args.seen.now c.loop-k.seen c.loop-k.k _ c.entry-unknown.ensures.unknown (omega arith) inside c.if-listed-unknown-eq0.false c.loop-k.invariant.only;
    }
