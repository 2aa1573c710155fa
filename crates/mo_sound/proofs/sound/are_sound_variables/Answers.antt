-- One after another.
use Rattle.std.proofs.lemmas.List.Elements.{All-nil}
use Rattle.mo_flat.specs.Sound.{IsSoundVariable}
use Rattle.mo_sound.proofs.Deciding.{all_done, all_next, all_stop}
use Rattle.mo_sound.proofs.sound.are_sound_variables.Goals as goal

pub loop-v-init : goal.loop-v-init
loop-v-init c = All-nil (IsSoundVariable c.args.vars.now)

pub returns-then-not-is_sound_variable : goal.returns-then-not-is_sound_variable
returns-then-not-is_sound_variable c = all_stop (IsSoundVariable c.args.vars.now) c.args.list.now c.loop-v.v-index c.v-item.result c.loop-v-test.true c.v-item.is c.is_sound_variable.result c.is_sound_variable.ensures c.if-not-is_sound_variable.true

pub loop-v-preserved : goal.loop-v-preserved
loop-v-preserved c = all_next (IsSoundVariable c.args.vars.now) c.args.list.now c.loop-v.v-index c.v-item.result c.loop-v-test.true c.v-item.is c.is_sound_variable.result c.is_sound_variable.ensures c.if-not-is_sound_variable.false c.loop-v.invariant

pub returns : goal.returns
returns c = all_done (IsSoundVariable c.args.vars.now) c.args.list.now c.loop-v.v-index c.loop-v-test.false c.loop-v.invariant
