-- Both sides.
use Rattle.mo_flat.specs.Sound.{IsSoundEquation}
use Rattle.mo_sound.proofs.Deciding.{always, three_say}
use Rattle.mo_sound.proofs.sound.is_sound_equation.Goals as goal

pub returns : goal.returns
returns c =
    three_say {D = IsSoundEquation c.args.vars.now c.args.equation.now} c.all_hold.result _ _ _ c.all_hold.ensures c.is_sound_number-left.ensures c.is_sound_number-right.ensures always
    (λ l r u. record { left = l; right = r }) (λ q. q.left) (λ q. q.right) (λ q. tt)
