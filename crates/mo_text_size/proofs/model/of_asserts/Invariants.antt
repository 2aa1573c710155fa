-- The lines of those before.
use Rattle.std.proofs.Common.{◌≡◌, take}
use Rattle.std.specs.Prelude.{flat_map}
use Rattle.mo_flat.specs.Text.{assert_line}
use Rattle.mo_text_size.specs.Bytes.{bytes}
use Rattle.mo_text_size.proofs.model.of_asserts.Given as goal

abbrev pub invariant-loop-a : goal.invariant-loop-a
invariant-loop-a l = l.all ≡ bytes (flat_map (assert_line l.vars) (take l.a-index l.asserts))
