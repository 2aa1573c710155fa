-- One after another.
use Rattle.std.proofs.lemmas.List.Elements.{All-nil}
use Rattle.mo_flat.specs.Sound.{IsSoundAssert}
use Rattle.mo_sound.proofs.Deciding.{all_done, all_next, all_stop}
use Rattle.mo_sound.proofs.sound.are_sound_asserts.Goals as goal

pub loop-assert-init : goal.loop-assert-init
loop-assert-init c = All-nil (IsSoundAssert c.args.vars.now)

pub returns-then-not-is_sound_assert : goal.returns-then-not-is_sound_assert
returns-then-not-is_sound_assert c = all_stop (IsSoundAssert c.args.vars.now) c.args.list.now c.loop-assert.assert-index c.assert-item.result c.loop-assert-test.true c.assert-item.is c.is_sound_assert.result c.is_sound_assert.ensures c.if-not-is_sound_assert.true

pub loop-assert-preserved : goal.loop-assert-preserved
loop-assert-preserved c = all_next (IsSoundAssert c.args.vars.now) c.args.list.now c.loop-assert.assert-index c.assert-item.result c.loop-assert-test.true c.assert-item.is c.is_sound_assert.result c.is_sound_assert.ensures c.if-not-is_sound_assert.false c.loop-assert.invariant

pub returns : goal.returns
returns c = all_done (IsSoundAssert c.args.vars.now) c.args.list.now c.loop-assert.assert-index c.loop-assert-test.false c.loop-assert.invariant
