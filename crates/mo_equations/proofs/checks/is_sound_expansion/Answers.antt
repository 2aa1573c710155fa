-- All parts.
use Rattle.mo_equations.proofs.Checked.{leaves_are}
use Rattle.mo_equations.proofs.checks.is_sound_expansion.Goals as goal

pub returns : goal.returns
returns c = λ numbers sound. record {
  variables = rw c.as_slice-vars.ensures at (c.are_sound_variables.ensures.0 c.if-not-are_sound_variables.false);
  first = rw (c.as_slice-vars.ensures, c.as_slice.ensures) at (c.are_sound_equations.ensures.0 c.if-not-are_sound_equations.false);
  first_asserts = rw (c.as_slice-vars.ensures, c.as_slice-2.ensures) at (c.are_sound_asserts.ensures.0 c.if-not-are_sound_asserts.false);
  equations = rw (c.as_slice-vars.ensures, c.as_slice-3.ensures) at (c.are_sound_equations-2.ensures.0 c.if-not-are_sound_equations-2.false);
  asserts = rw (c.as_slice-vars.ensures, c.as_slice-4.ensures) at (c.are_sound_asserts-2.ensures.0 c.if-not-are_sound_asserts-2.false);
  connects = sound;
  leaves = leaves_are c.args.parts.now.vars c.args.parts.now.connects (rw (c.as_slice-vars.ensures, c.as_slice-5.ensures) at (c.join_numbers.ensures c.if-not-join_numbers.false));
  flows = rw (c.as_slice-vars.ensures, c.as_slice-6.ensures) at (c.flow_numbers.ensures numbers);
}
