use Rattle.std.proofs.Common.{◌≡◌, ◌++◌, string_bytes}
use Rattle.std.specs.Prelude.{codes}
use Rattle.std.specs.List.{repeat}
use Rattle.mo_pieces.proofs.text.Growing.put_line.Given as goal

abbrev pub invariant-loop : goal.invariant-loop
invariant-loop l =
    (string_bytes l.self.text ≡ string_bytes l.initial.self.text ++ repeat l.counter (codes "  "))
    × (l.self.ending ≡ l.initial.self.ending)
    × (l.self.depth ≡ l.initial.self.depth)
