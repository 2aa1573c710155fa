use Rattle.std.proofs.Common.{◌≡◌, ◌∙◌, length, arith}
use Rattle.mo_graph.proofs.Lists.{written_whole}
use Rattle.mo_select.proofs.Leaving.{listed_low, listed_states}
use Rattle.mo_select.proofs.states.states.Goals as goal

pub list_states-requires-clause-low : goal.list_states-requires-clause-low
list_states-requires-clause-low c =
    let full : c.in_ok-depth.depth.len ≡ length c.note_stages.new.depth = omega (arith, c.deref_mut.ensures.len, c.note_stages.auto.depth) in
    let size : length c.deref_mut.result.now ≡ length c.args.d.now = omega (arith, c.deref_mut.ensures.len, c.in_ok-depth.ensures.len) in
    rw (c.deref.ensures.value ∙ written_whole _ _ _ full) (listed_low c.args.d.now c.note_stages.new.depth c.args.stages.now (rw size at c.note_stages.ensures) c.requires.known)

pub returns-clause-states : goal.returns-clause-states
returns-clause-states c =
    let full : c.in_ok-depth.depth.len ≡ length c.note_stages.new.depth = omega (arith, c.deref_mut.ensures.len, c.note_stages.auto.depth) in
    let size : length c.deref_mut.result.now ≡ length c.args.d.now = omega (arith, c.deref_mut.ensures.len, c.in_ok-depth.ensures.len) in
    listed_states c.args.d.now c.note_stages.new.depth c.args.stages.now (rw size at c.note_stages.ensures) c.requires.known _ (rw (c.deref.ensures.value ∙ written_whole _ _ _ full) at c.in_ok-states.ensures)

pub returns-clause-depths : goal.returns-clause-depths
returns-clause-depths c =
    let size : length c.deref_mut.result.now ≡ length c.args.d.now = omega (arith, c.deref_mut.ensures.len, c.in_ok-depth.ensures.len) in
    (c.note_stages.new.depth, rw size at c.note_stages.ensures)

pub note_stages-requires-clause-known : goal.note_stages-requires-clause-known
note_stages-requires-clause-known c =
    let size : length c.deref_mut.result.now ≡ length c.args.d.now = omega (arith, c.deref_mut.ensures.len, c.in_ok-depth.ensures.len) in
    λ k j l there.
    let at = c.requires.known k j l there in
    (at.0, omega (arith, at.1, size))
