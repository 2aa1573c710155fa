-- One more name.
use Rattle.std.proofs.Common.{◌≡◌, ◌+◌, ◌∷◌, length, ◌∙◌, ap, arith}
use Rattle.std.specs.Vec.Iter.{into_iter_items, into_iter_len}
use Rattle.mo_tree.specs.Keys.{holds}
use Rattle.mo_tree.proofs.Steps.{name_fits, name_kept}
use Rattle.mo_tree.proofs.building.put_all.Goals as goal

pub loop-name-preserved : goal.loop-name-preserved
loop-name-preserved c =
    let steps : (into_iter_items c.loop-name.name-iterator ≡ c.in-Some.name ∷ into_iter_items c.next.new.self) × (into_iter_len c.next.new.self + 1 ≡ into_iter_len c.loop-name.name-iterator)
    = c.in-Some.ensures.steps in
    record {
      left = name_fits (holds c.loop-name.keys) (holds c.put.new.keys) c.in-Some.name (into_iter_items c.loop-name.name-iterator) (into_iter_items c.next.new.self) steps.0
          c.in_ok-put.ensures.accepted c.in_ok-put.ensures.kept ∙ c.loop-name.invariant.left;
      kept = λ key. name_kept (holds c.loop-name.keys) (holds c.put.new.keys) c.in-Some.name (into_iter_items c.loop-name.name-iterator) (into_iter_items c.next.new.self) steps.0
          c.in_ok-put.ensures.kept key ∙ c.loop-name.invariant.kept key;
      counted = omega (arith, ap length steps.0);
    }
