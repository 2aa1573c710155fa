use Rattle.std.proofs.Common.{◌≡◌, ◌∙◌, length, arith}
use Rattle.mo_graph.proofs.Lists.{written_whole}
use Rattle.mo_incidence.specs.Offsets.{c_of, d_of, pairs_of}
use Rattle.mo_blocks.proofs.Counts.{count_dummies, count_states}
use Rattle.mo_blocks.proofs.Dummying.{depth_low, states_there}
use Rattle.mo_blocks.proofs.Staging.{own_dummies, highest_dummies, followed_dummies, chosen_here}
use Rattle.mo_blocks.proofs.derivatives.dummies.Goals as goal

pub list_states-requires-clause-low : goal.list_states-requires-clause-low
list_states-requires-clause-low c =
    let full : c.in_ok-depth.depth.len ≡ length c.note_depths.new.depth = omega (arith, c.deref_mut.ensures.len, c.note_depths.auto.depth) in
    depth_low _ _ _ _ _ _ _ _ _ c.equations-equations.ensures.sound c.requires.square c.requires.lengths.1 c.requires.tight c.requires.all c.note_depths.ensures
    c.deref-4.ensures.value c.deref-6.ensures.value c.deref-7.ensures.value (c.deref-8.ensures.value ∙ written_whole _ _ _ full)

pub returns-clause-states : goal.returns-clause-states
returns-clause-states c =
    let full : c.in_ok-depth.depth.len ≡ length c.note_depths.new.depth = omega (arith, c.deref_mut.ensures.len, c.note_depths.auto.depth) in
    states_there _ _ _ _ _ _ _ _ _ c.equations-equations.ensures.sound c.requires.square c.requires.lengths.1 c.requires.tight c.requires.all c.note_depths.ensures
    c.deref-4.ensures.value c.deref-6.ensures.value c.deref-7.ensures.value (c.deref-8.ensures.value ∙ written_whole _ _ _ full) _ c.in_ok-states.ensures

pub returns-clause-own : goal.returns-clause-own
returns-clause-own c = rw (chosen_here _ _ _ _ _ _ _ _ c.deref.ensures.value c.deref-2.ensures.value c.deref-3.ensures.value c.in_ok-chosen.ensures) (own_dummies _ _ _ _ c.requires.tight c.requires.all)

pub returns-clause-highest : goal.returns-clause-highest
returns-clause-highest c = rw (chosen_here _ _ _ _ _ _ _ _ c.deref.ensures.value c.deref-2.ensures.value c.deref-3.ensures.value c.in_ok-chosen.ensures) (highest_dummies _ _ _ _ c.requires.tight c.requires.all)

pub returns-clause-followed : goal.returns-clause-followed
returns-clause-followed c = rw (chosen_here _ _ _ _ _ _ _ _ c.deref.ensures.value c.deref-2.ensures.value c.deref-3.ensures.value c.in_ok-chosen.ensures) (followed_dummies _ _ _ _ c.requires.tight c.requires.all)

pub returns-clause-dummies_count : goal.returns-clause-dummies_count
returns-clause-dummies_count c = rw (chosen_here _ _ _ _ _ _ _ _ c.deref.ensures.value c.deref-2.ensures.value c.deref-3.ensures.value c.in_ok-chosen.ensures) (count_dummies (c_of c.args.offsets.now) (d_of c.args.offsets.now) (pairs_of c.args.offsets.now) _)

pub returns-clause-states_count : goal.returns-clause-states_count
returns-clause-states_count c =
    let full : c.in_ok-depth.depth.len ≡ length c.note_depths.new.depth = omega (arith, c.deref_mut.ensures.len, c.note_depths.auto.depth) in
    rw (states_there _ _ _ _ _ _ _ _ _ c.equations-equations.ensures.sound c.requires.square c.requires.lengths.1 c.requires.tight c.requires.all c.note_depths.ensures
    c.deref-4.ensures.value c.deref-6.ensures.value c.deref-7.ensures.value (c.deref-8.ensures.value ∙ written_whole _ _ _ full) _ c.in_ok-states.ensures)
    (count_states _ _ _ _ c.equations-equations.ensures.sound c.requires.square c.requires.tight c.requires.all)
