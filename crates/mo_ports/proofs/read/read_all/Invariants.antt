use Rattle.std.proofs.Common.{◌-◌}
use Rattle.mo_ports.proofs.Reading.{IsReadUpTo}
use Rattle.mo_ports.proofs.read.read_all.Given as goal

abbrev pub invariant-loop-count : goal.invariant-loop-count
invariant-loop-count g l =
    IsReadUpTo (g.S.Shelf.told l.initial.shelf) (g.S.Shelf.told l.shelf) l.fn.name l.limit l.at l.bytes.items
    (g.S.Shelf.taken l.initial.shelf) (g.S.Shelf.taken l.shelf) (g.S.Shelf.faults l.initial.shelf) (g.S.Shelf.faults l.shelf)
    (g.S.Shelf.failed l.initial.shelf) (g.S.Shelf.failed l.shelf)

abbrev pub decreases-loop-count : goal.decreases-loop-count
decreases-loop-count g l = l.limit - l.at
