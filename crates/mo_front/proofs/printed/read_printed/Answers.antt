-- What the bytes of a report are.
use Rattle.std.proofs.Common.{ap, Err}
use Rattle.mo_front.proofs.Verifying.{report_long, report_read}
use Rattle.mo_front.proofs.printed.read_printed.Goals as goal

pub returns-in-Ok-clause-bytes : goal.returns-in-Ok-clause-bytes
returns-in-Ok-clause-bytes g c = report_read (g.S.Shelf.told c.args.shelf.now) c.args.name.now c.in-Ok.bytes c.in-Ok.ensures.whole c.in-Ok.ensures.within

pub returns-in-Err-TooLong-clause-refused : goal.returns-in-Err-TooLong-clause-refused
returns-in-Err-TooLong-clause-refused g c =
    report_long (g.S.Shelf.told c.args.shelf.now) c.args.number c.args.name.now c.refused.result (c.in-Err-TooLong.ensures.long_told (ap Err c.in-Err-TooLong.field-0-is)) c.refused.ensures
