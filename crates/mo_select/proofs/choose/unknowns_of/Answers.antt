use Rattle.std.proofs.Common.{ℕ, ◌++◌, ◌∷◌, [], List, get_or, ap, arith}
use Rattle.std.proofs.lemmas.List.{map_more, take_all}
use Rattle.mo_select.proofs.choose.unknowns_of.Goals as goal

pub loop-pair-preserved : goal.loop-pair-preserved
loop-pair-preserved c =
    rw (c.in_ok-push.ensures.items, map_more (λ (x : ℕ × ℕ). x.0) c.args.chosen.now c.loop-pair.pair-index (0, 0) (omega arith))
    (ap (λ (ns : List ℕ). ns ++ (get_or c.args.chosen.now c.loop-pair.pair-index (0, 0)).0 ∷ []) c.loop-pair.invariant)

pub returns : goal.returns
returns c = rw (take_all c.loop-pair.pair-index c.args.chosen.now (omega arith)) at c.loop-pair.invariant
