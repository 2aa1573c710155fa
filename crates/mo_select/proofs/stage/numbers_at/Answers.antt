use Rattle.std.proofs.Common.{◌≡◌, ℕ, suc, ◌+◌, ◌-◌, ◌++◌, ◌∷◌, [], List, get_or, slice_index_or, ap, arith}
use Rattle.std.proofs.lemmas.List.{map_more, take_all}
use Rattle.mo_select.proofs.stage.numbers_at.Goals as goal

pub loop-place-preserved : goal.loop-place-preserved
loop-place-preserved c =
    let x = slice_index_or c.args.places.now c.loop-place.place-index 0 in
    let next : slice_index_or c.args.active.now (x - 1) 0 + 1 ≡ suc (slice_index_or c.args.active.now (x - 1) 0) = omega arith in
    rw (c.in_ok-push.ensures.ok, next, map_more (λ (n : ℕ). suc (get_or c.args.active.now (n - 1) 0)) c.args.places.now c.loop-place.place-index 0 (omega arith))
    (ap (λ (ns : List ℕ). ns ++ suc (slice_index_or c.args.active.now (x - 1) 0) ∷ []) c.loop-place.invariant)

pub returns : goal.returns
returns c = rw (take_all c.loop-place.place-index c.args.places.now (omega arith)) at c.loop-place.invariant
