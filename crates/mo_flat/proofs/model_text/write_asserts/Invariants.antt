use Rattle.std.proofs.Common.{◌≡◌, ◌++◌, string_bytes, take}
use Rattle.std.specs.Prelude.{flat_map}
use Rattle.mo_flat.specs.Text.{assert_line}
use Rattle.mo_flat.proofs.model_text.write_asserts.Given as goal

abbrev pub invariant-loop-a : goal.invariant-loop-a
invariant-loop-a l = string_bytes l.out ≡ string_bytes l.initial.out ++ flat_map (assert_line l.vars) (take l.a-index l.asserts)
