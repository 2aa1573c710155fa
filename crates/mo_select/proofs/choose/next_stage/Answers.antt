use Rattle.mo_select.proofs.choose.next_stage.Goals as goal

pub returns-clause-stage : goal.returns-clause-stage
returns-clause-stage c = record {
  made = c.in_ok-made.made;
  is_stage = rw c.deref.ensures.value at c.in_ok-made.ensures.stage;
  stages_are = c.in_ok-push.ensures.ok;
  candidates_are = rw c.as_slice.ensures at c.in_ok-candidates.ensures;
}
