-- The condition, the message and the level.
use Rattle.mo_flat.specs.Sound.{IsSoundAssert}
use Rattle.mo_sound.proofs.Deciding.{three_say}
use Rattle.mo_sound.proofs.sound.is_sound_assert.Goals as goal

pub returns : goal.returns
returns c =
    three_say {D = IsSoundAssert c.args.vars.now c.args.assert.now} c.all_hold.result _ _ _ c.all_hold.ensures c.is_sound-condition.ensures c.is_sound-message.ensures (rw c.as_ref.ensures.value at c.is_sound_option-level.ensures)
    (λ a b l. record { condition = a; message = b; level = l }) (λ q. q.condition) (λ q. q.message) (λ q. q.level)
