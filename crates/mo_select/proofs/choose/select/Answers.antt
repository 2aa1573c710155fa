use Rattle.mo_incidence.specs.Offsets.{by_number, c_of, d_of}
use Rattle.mo_select.specs.Levels.{levels_of}
use Rattle.mo_select.specs.steps.Staging.{AreWhole}
use Rattle.mo_select.proofs.LowLevels.{levels_low}
use Rattle.mo_select.proofs.Stages.{chosen_known, stages_nested}
use Rattle.mo_select.proofs.Counts.{dummies_count, states_whole}
use Rattle.mo_select.proofs.choose.select.Goals as goal

pub stages-requires-clause-low : goal.stages-requires-clause-low
stages-requires-clause-low c = rw (c.deref-4.ensures.value, c.in_ok-level.ensures) (levels_low c.as_slice.result.now)

pub states-requires-clause-known : goal.states-requires-clause-known
states-requires-clause-known c =
    let whole : AreWhole c.args.inc.now (c_of c.args.off.now) (d_of c.args.off.now) (by_number (levels_of c.args.m.now.vars)) c.in_ok-stages.stages =
    rw (c.deref.ensures.value, c.deref-2.ensures.value, c.deref-4.ensures.value, c.in_ok-level.ensures, c.as_slice.ensures) at c.in_ok-stages.ensures in
    rw (c.as_slice-2.ensures, c.deref-5.ensures.value, c.requires.lengths.1) (chosen_known _ _ _ _ _ c.equations-equations.ensures.sound (levels_low c.args.m.now.vars) whole)

pub states-requires-clause-nested : goal.states-requires-clause-nested
states-requires-clause-nested c =
    let whole : AreWhole c.args.inc.now (c_of c.args.off.now) (d_of c.args.off.now) (by_number (levels_of c.args.m.now.vars)) c.in_ok-stages.stages =
    rw (c.deref.ensures.value, c.deref-2.ensures.value, c.deref-4.ensures.value, c.in_ok-level.ensures, c.as_slice.ensures) at c.in_ok-stages.ensures in
    rw c.as_slice-2.ensures (stages_nested _ _ _ _ _ c.equations-equations.ensures.sound (levels_low c.args.m.now.vars) whole)

pub returns-clause-stages : goal.returns-clause-stages
returns-clause-stages c =
    let whole : AreWhole c.args.inc.now (c_of c.args.off.now) (d_of c.args.off.now) (by_number (levels_of c.args.m.now.vars)) c.in_ok-stages.stages =
    rw (c.deref.ensures.value, c.deref-2.ensures.value, c.deref-4.ensures.value, c.in_ok-level.ensures, c.as_slice.ensures) at c.in_ok-stages.ensures in
    whole.stages_are

pub returns-clause-nested : goal.returns-clause-nested
returns-clause-nested c =
    let whole : AreWhole c.args.inc.now (c_of c.args.off.now) (d_of c.args.off.now) (by_number (levels_of c.args.m.now.vars)) c.in_ok-stages.stages =
    rw (c.deref.ensures.value, c.deref-2.ensures.value, c.deref-4.ensures.value, c.in_ok-level.ensures, c.as_slice.ensures) at c.in_ok-stages.ensures in
    stages_nested _ _ _ _ _ c.equations-equations.ensures.sound (levels_low c.args.m.now.vars) whole

pub returns-clause-states : goal.returns-clause-states
returns-clause-states c = rw (c.as_slice-2.ensures, c.deref-5.ensures.value, c.requires.lengths.1) at c.in_ok-states.ensures.states

pub returns-clause-dummies_count : goal.returns-clause-dummies_count
returns-clause-dummies_count c =
    let whole : AreWhole c.args.inc.now (c_of c.args.off.now) (d_of c.args.off.now) (by_number (levels_of c.args.m.now.vars)) c.in_ok-stages.stages =
    rw (c.deref.ensures.value, c.deref-2.ensures.value, c.deref-4.ensures.value, c.in_ok-level.ensures, c.as_slice.ensures) at c.in_ok-stages.ensures in
    dummies_count _ _ _ _ _ c.equations-equations.ensures.sound (levels_low c.args.m.now.vars) whole

pub returns-clause-states_count : goal.returns-clause-states_count
returns-clause-states_count c =
    let whole : AreWhole c.args.inc.now (c_of c.args.off.now) (d_of c.args.off.now) (by_number (levels_of c.args.m.now.vars)) c.in_ok-stages.stages =
    rw (c.deref.ensures.value, c.deref-2.ensures.value, c.deref-4.ensures.value, c.in_ok-level.ensures, c.as_slice.ensures) at c.in_ok-stages.ensures in
    let states = rw (c.as_slice-2.ensures, c.deref-5.ensures.value, c.requires.lengths.1) at c.in_ok-states.ensures.states in
    let depths = rw (c.as_slice-2.ensures, c.deref-5.ensures.value, c.requires.lengths.1) at c.in_ok-states.ensures.depths in
    rw states (states_whole _ _ _ _ _ c.equations-equations.ensures.sound (levels_low c.args.m.now.vars) whole depths.0 depths.1)
