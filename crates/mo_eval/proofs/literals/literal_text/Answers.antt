use Rattle.std.proofs.Common.{[], sym}
use Rattle.std.specs.Prelude.{slice_get}
use Rattle.mo_scope.specs.Lookup.{literals_at}
use Rattle.mo_scope.specs.Worlds.{table_in}
use Rattle.mo_typing.specs.Indices.{or_else}
use Rattle.mo_eval.specs.Resolving.{path_of_class}
use Rattle.mo_eval.proofs.Spelled.{dotted_last}
use Rattle.mo_eval.proofs.literals.literal_text.Goals as goal

pub returns : goal.returns
returns c =
    let table = table_in c.args.s.now in
    rw (c.from_string.ensures, c.in_ok-push_str.ensures.bytes, c.in_ok-put_class.ensures, c.new-text.ensures.bytes, c.name_of.ensures)
    (sym (dotted_last (path_of_class table c.args.class.0) (or_else (slice_get (literals_at table c.args.class.0) c.args.n) [])))
