use Rattle.std.proofs.Common.{◌≡◌, ◌<◌, ◌+◌, length, arith}
use Rattle.mo_incidence.specs.Signature.{equations}
use Rattle.mo_incidence.proofs.Owning.{tight_known, needs_graph, edge_need, need_edge}
use Rattle.mo_incidence.proofs.needing.needs.Goals as goal

pub note_owners-requires-clause-known : goal.note_owners-requires-clause-known
note_owners-requires-clause-known c = λ i l.
    let pairs = c.deref.ensures.value in
    let owner = c.deref_mut.ensures.len in
    let inside : i < equations c.args.inc.now = omega (arith, c.deref.ensures.len) in
    let known = tight_known _ _ _ i _ c.equations-equations.ensures.sound inside (c.requires.tight.allowed i inside (c.requires.all i inside)) in
    let room : length c.deref_mut.result.now ≡ c.args.inc.now.unknowns + 1 = omega (arith, c.deref_mut.ensures.len, c.in_ok-owner.ensures.len, c.unknowns.ensures) in
    rw pairs (omega (arith, known.1))

pub returns-clause-only : goal.returns-clause-only
returns-clause-only c = rw (c.deref-2.ensures.value, c.deref-3.ensures.value, c.deref-4.ensures.value) at (edge_need _ _ _ _ _ _ c.equations-equations.ensures.sound c.in_ok-edges.ensures)

pub returns-clause-all : goal.returns-clause-all
returns-clause-all c = rw (c.deref-2.ensures.value, c.deref-3.ensures.value, c.deref-4.ensures.value) at (need_edge _ _ _ _ _ _ c.equations-equations.ensures.sound c.in_ok-edges.ensures)

pub returns-clause-graph : goal.returns-clause-graph
returns-clause-graph c = needs_graph _ _ _ _ _ _ c.equations-equations.ensures.sound c.in_ok-edges.ensures
