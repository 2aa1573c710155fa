use Rattle.std.proofs.Common.{◌≡◌, ◌<◌, ◌∙◌, length, length-set, slice_index, refl, arith}
use Rattle.mo_match.proofs.Extending.{unmarked_next}
use Rattle.mo_match.proofs.search.Search.unmark.Goals as goal

pub loop-t-init : goal.loop-t-init
loop-t-init c = record {
  unmarked = record { cleared = λ s above below. absurd (omega arith); less = λ x some. some; others = λ x out. refl };
  queue = refl;
  parent = refl;
  size = refl;
}

pub loop-t-preserved : goal.loop-t-preserved
loop-t-preserved c =
    let before = c.loop-t.invariant in
    let inside : slice_index c.args.self.now.queue.items c.loop-t.t < length c.loop-t.self.mark.items = rw before.size (c.requires.in_range _ c.loop-t-test.true) in
    record {
      unmarked = rw (c.at-equation.ensures, before.queue) (unmarked_next _ _ _ _ _ before.unmarked (omega arith) inside);
      queue = before.queue;
      parent = before.parent;
      size = length-set _ _ _ ∙ before.size;
    }

pub returns-clause-unmarked : goal.returns-clause-unmarked
returns-clause-unmarked c =
    let at : c.loop-t.t ≡ c.args.tail = omega arith in
    rw at at c.loop-t.invariant.unmarked
