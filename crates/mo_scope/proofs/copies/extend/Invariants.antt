-- What was put behind the list is what was taken.
use Rattle.std.proofs.Common.{◌≡◌, ◌++◌, take}
use Rattle.mo_scope.proofs.copies.extend.Given as goal

abbrev pub invariant-loop-item : goal.invariant-loop-item
invariant-loop-item g l = l.made ≡ l.initial.made ++ take l.item-index l.items
