-- Those before win.
use Rattle.std.proofs.Common.{◌≡◌}
use Rattle.mo_scope.proofs.PathPicking.{filled}
use Rattle.mo_scope.proofs.pick_path.win_all.Given as goal

abbrev pub invariant-loop-at : goal.invariant-loop-at
invariant-loop-at l = l.wins ≡ filled l.at l.initial.wins
