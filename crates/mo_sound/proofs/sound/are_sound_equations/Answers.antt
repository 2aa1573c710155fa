-- One after another.
use Rattle.std.proofs.lemmas.List.Elements.{All-nil}
use Rattle.mo_flat.specs.Sound.{IsSoundEquation}
use Rattle.mo_sound.proofs.Deciding.{all_done, all_next, all_stop}
use Rattle.mo_sound.proofs.sound.are_sound_equations.Goals as goal

pub loop-equation-init : goal.loop-equation-init
loop-equation-init c = All-nil (IsSoundEquation c.args.vars.now)

pub returns-then-not-is_sound_equation : goal.returns-then-not-is_sound_equation
returns-then-not-is_sound_equation c = all_stop (IsSoundEquation c.args.vars.now) c.args.list.now c.loop-equation.equation-index c.equation-item.result c.loop-equation-test.true c.equation-item.is c.is_sound_equation.result c.is_sound_equation.ensures c.if-not-is_sound_equation.true

pub loop-equation-preserved : goal.loop-equation-preserved
loop-equation-preserved c = all_next (IsSoundEquation c.args.vars.now) c.args.list.now c.loop-equation.equation-index c.equation-item.result c.loop-equation-test.true c.equation-item.is c.is_sound_equation.result c.is_sound_equation.ensures c.if-not-is_sound_equation.false c.loop-equation.invariant

pub returns : goal.returns
returns c = all_done (IsSoundEquation c.args.vars.now) c.args.list.now c.loop-equation.equation-index c.loop-equation-test.false c.loop-equation.invariant
