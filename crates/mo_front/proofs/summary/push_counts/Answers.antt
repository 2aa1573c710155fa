-- Three numbers, one behind the other.
use Rattle.std.specs.Prelude.{string_bytes}
use Rattle.mo_front.proofs.Laddering.{behind_three}
use Rattle.mo_front.proofs.summary.push_counts.Goals as goal

pub returns : goal.returns
returns c =
    behind_three (string_bytes c.args.out.now) (string_bytes c.push_number.new.out) (string_bytes c.push_number-2.new.out) (string_bytes c.push_number-3.new.out) _ _ _
    (rw c.variables.ensures at c.in_ok-push_number.ensures) c.in_ok-push_number-2.ensures (rw c.len.ensures at c.in_ok-push_number-3.ensures)
