use Rattle.mo_blocks.proofs.Counts.{count_dummies, count_states}
use Rattle.mo_blocks.proofs.laws.counted_by_offsets.Goals as goal

pub returns-clause-dummies : goal.returns-clause-dummies
returns-clause-dummies c = count_dummies

pub returns-clause-states : goal.returns-clause-states
returns-clause-states c = count_states
