use Rattle.std.proofs.Common.{map}
use Rattle.mo_eval.specs.Virtuals.{numbered}
use Rattle.mo_eval.proofs.Prefixes.{some_read, read_or_undecided}
use Rattle.mo_eval.proofs.reading.next.Goals as goal

pub reading-requires : goal.reading-requires
reading-requires c =
    let told = c.known.ensures (numbered (map read_or_undecided c.args.reads.now)) (some_read c.args.reads.now) in
    (rw (c.in-Err-Unread.is, c.in-Err-Unread.field-0-is) at told).answers

pub returns-in-Err-Unread : goal.returns-in-Err-Unread
returns-in-Err-Unread c = λ frames read are. c.reading.ensures frames read _ are
