use Rattle.std.proofs.Common.{◌≡◌, ◌+◌, ◌≤◌, length, drop, IfSome, All}
use Rattle.mo_front.specs.Limits.{file_limit}
use Rattle.mo_front.specs.steps.Loading.{MoreFiles}
use Rattle.mo_front.proofs.load.read_files.Given as goal

abbrev pub invariant-loop-name : goal.invariant-loop-name
invariant-loop-name g l =
    (l.number ≡ 1 + l.name-index) × (length l.texts ≡ l.name-index) × All (λ text. length text ≤ file_limit) l.texts × (g.S.Shelf.told l.shelf ≡ g.S.Shelf.told l.initial.shelf)
    × (g.S.Shelf.faults l.initial.shelf ≤ g.S.Shelf.faults l.shelf)
    × IfSome (g.S.Shelf.told l.initial.shelf) (λ contents. MoreFiles contents l.names l.texts l.number l.left (drop l.name-index l.names))
