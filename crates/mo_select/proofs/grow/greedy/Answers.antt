use Rattle.std.proofs.Common.{◌∙◌}
use Rattle.mo_select.proofs.Growing.{grown_greedy}
use Rattle.mo_select.proofs.grow.greedy.Goals as goal

pub grow_all-requires-clause-sound : goal.grow_all-requires-clause-sound
grow_all-requires-clause-sound c = rw (c.of_entries-graph.ensures.signature, c.new-counted.ensures) c.equations-m.ensures.sound

pub returns-clause-greedy : goal.returns-clause-greedy
returns-clause-greedy c =
    grown_greedy c.args.rows.now c.of_entries-graph.result _ _ _ _ _ _ (c.of_entries-graph.ensures.signature ∙ c.new-counted.ensures) c.of_entries-graph.ensures.tight c.grow_all.ensures
