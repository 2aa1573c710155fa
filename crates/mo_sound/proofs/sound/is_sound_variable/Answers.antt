-- The attributes and the binding.
use Rattle.mo_flat.specs.Sound.{IsSoundVariable}
use Rattle.mo_sound.proofs.Deciding.{always, three_say}
use Rattle.mo_sound.proofs.sound.is_sound_variable.Goals as goal

pub returns : goal.returns
returns c =
    three_say {D = IsSoundVariable c.args.vars.now c.args.v.now} c.all_hold.result _ _ _ c.all_hold.ensures (rw c.as_slice.ensures at c.are_sound_attributes-attributes.ensures) (rw c.as_ref.ensures.value at c.is_sound_option-binding.ensures) always
    (λ a b u. record { attributes = a; binding = b }) (λ q. q.attributes) (λ q. q.binding) (λ q. tt)
