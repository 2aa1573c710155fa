-- One after another.
use Rattle.std.proofs.Common.{ℕ}
use Rattle.std.proofs.lemmas.List.Elements.{All-nil}
use Rattle.mo_flat.specs.declared.expr.FlatExpr.{FlatExpr}
use Rattle.mo_flat.specs.Sound.{IsSoundIn}
use Rattle.mo_sound.proofs.Deciding.{all_done, all_next, all_stop}
use Rattle.mo_sound.proofs.sound.are_sound_attributes.Goals as goal

pub loop-attribute-init : goal.loop-attribute-init
loop-attribute-init c = All-nil (λ (attribute : ℕ × FlatExpr). IsSoundIn c.args.vars.now attribute.1)

pub returns-then-not-is_sound : goal.returns-then-not-is_sound
returns-then-not-is_sound c = all_stop (λ (attribute : ℕ × FlatExpr). IsSoundIn c.args.vars.now attribute.1) c.args.attributes.now c.loop-attribute.attribute-index c.attribute-item.result c.loop-attribute-test.true c.attribute-item.is c.is_sound.result c.is_sound.ensures c.if-not-is_sound.true

pub loop-attribute-preserved : goal.loop-attribute-preserved
loop-attribute-preserved c = all_next (λ (attribute : ℕ × FlatExpr). IsSoundIn c.args.vars.now attribute.1) c.args.attributes.now c.loop-attribute.attribute-index c.attribute-item.result c.loop-attribute-test.true c.attribute-item.is c.is_sound.result c.is_sound.ensures c.if-not-is_sound.false c.loop-attribute.invariant

pub returns : goal.returns
returns c = all_done (λ (attribute : ℕ × FlatExpr). IsSoundIn c.args.vars.now attribute.1) c.args.attributes.now c.loop-attribute.attribute-index c.loop-attribute-test.false c.loop-attribute.invariant
