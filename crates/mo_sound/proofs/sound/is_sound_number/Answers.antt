-- Sound, and a number.
use Rattle.std.proofs.Common.{◌∙◌, ap}
use Rattle.mo_flat.specs.Sound.{is_numeric}
use Rattle.mo_sound.proofs.Deciding.{number_is}
use Rattle.mo_sound.proofs.sound.is_sound_number.Goals as goal

pub returns : goal.returns
returns c = number_is c.args.vars.now c.args.e.now c.all_hold.result c.is_sound-sound.result c.is_numeric-numeric.result c.all_hold.ensures c.is_sound-sound.ensures (c.is_numeric-numeric.ensures ∙ ap is_numeric c.kind_of.ensures)
