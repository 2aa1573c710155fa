-- What the names that are left say is what all say.
use Rattle.std.proofs.Common.{◌≡◌, drop, map}
use Rattle.mo_syntax.specs.ClassTable.{path_eq}
use Rattle.mo_mods.proofs.paths.is_path.Given as goal

abbrev pub invariant-loop-i : goal.invariant-loop-i
invariant-loop-i l = path_eq (map (λ name. name.now) (drop l.i l.a)) (map (λ name. name.now) (drop l.i l.b)) ≡ path_eq (map (λ name. name.now) l.a) (map (λ name. name.now) l.b)
