-- What the bytes of a file are.
use Rattle.std.proofs.Common.{rules, ap, Err}
use Rattle.mo_front.proofs.Loaded.{bytes_refused, long_refused}
use Rattle.mo_front.proofs.load.read_file.Goals as goal

pub returns-in-Ok-clause-refused : goal.returns-in-Ok-clause-refused
returns-in-Ok-clause-refused g c =
    bytes_refused (g.S.Shelf.told c.args.shelf.now) c.args.name.now c.in-Ok.bytes c.as_slice.result.now c.args.number c.args.left c.min.result _ (search rules) c.as_slice.ensures c.in-Ok.ensures.whole c.in-Ok.ensures.within c.text_of.ensures.refused

pub returns-in-Err-TooLong-clause-refused : goal.returns-in-Err-TooLong-clause-refused
returns-in-Err-TooLong-clause-refused g c =
    long_refused (g.S.Shelf.told c.args.shelf.now) c.args.number c.args.left c.min.result c.args.name.now c.refused.result (search rules) (c.in-Err-TooLong.ensures.long_told (ap Err c.in-Err-TooLong.field-0-is)) c.refused.ensures
