-- Those so far are sound.
use Rattle.std.proofs.Common.{ℕ, All, take}
use Rattle.mo_flat.specs.declared.expr.FlatExpr.{FlatExpr}
use Rattle.mo_flat.specs.Sound.{IsSoundIn}
use Rattle.mo_sound.proofs.sound.are_sound_attributes.Given as goal

abbrev pub invariant-loop-attribute : goal.invariant-loop-attribute
invariant-loop-attribute l = All (λ (attribute : ℕ × FlatExpr). IsSoundIn l.vars attribute.1) (take l.attribute-index l.attributes)
