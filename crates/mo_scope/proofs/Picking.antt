-- The values that sources give.
use Rattle.std.proofs.Common.{◌≡◌, ℕ, ◌<◌, [], length, None, refl}
use Rattle.std.proofs.lemmas.List.{drop_more}
use Rattle.mo_syntax.specs.declared.class.ArgumentOf.{ArgumentOf}
use Rattle.mo_syntax.specs.declared.class.Give.{Give}
use Rattle.mo_scope.specs.Frames.{Argued}
use Rattle.mo_scope.specs.Parts.{held}

-- an argument of which names are left holds no value
pub no_value_before : (argument : ArgumentOf Give) (passed : ℕ) → passed < length argument.name.0 → (held (Argued argument passed)).value ≡ None
no_value_before argument passed below = rw (drop_more argument.name.0 passed [] below) refl
