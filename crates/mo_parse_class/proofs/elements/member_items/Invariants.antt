use Rattle.std.proofs.Common.{◌≡◌, ◌++◌, map, length}
use Rattle.std.specs.Vec.Iter.{into_iter_items, into_iter_len}
use Rattle.mo_parse_class.specs.steps.Parts.{member_of}
use Rattle.mo_parse_class.proofs.elements.member_items.Given as goal

abbrev pub invariant-each : goal.invariant-each
invariant-each l = record {
  so_far : l.items ++ map (member_of l.flags l.limit) (into_iter_items l.what-iterator) ≡ map (member_of l.flags l.limit) (into_iter_items l.initial.what-iterator);
  counted : into_iter_len l.what-iterator ≡ length (into_iter_items l.what-iterator);
}
