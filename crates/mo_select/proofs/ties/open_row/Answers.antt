use Rattle.std.proofs.Common.{◌≡◌, ℕ, slice_index_or, ap, arith}
use Rattle.mo_incidence.specs.Signature.{unknown_at}
use Rattle.mo_select.proofs.Opening.{open_none, open_skip, open_push, open_whole}
use Rattle.mo_select.proofs.ties.open_row.Goals.{then-place-eq0-via-then-place-eq0, then-place-eq0-via-else-place-eq0+then-place-end}
use Rattle.mo_select.proofs.ties.open_row.Goals as goal

pub loop-k-init : goal.loop-k-init
loop-k-init c = open_none _ _ _ _ _ _ _ c.new-row.ensures.items

pub loop-k-preserved-in-None : goal.loop-k-preserved-in-None
loop-k-preserved-in-None c = open_skip _ _ _ _ _ _ _ _ c.loop-k.invariant (λ is_open. c.in-None.ensures.none is_open.2)

pub loop-k-preserved-then-place-eq0 : goal.loop-k-preserved-then-place-eq0
loop-k-preserved-then-place-eq0 c =
    let place_is : slice_index_or c.args.rank.now c.in-Some.unknown 0 ≡ slice_index_or c.args.rank.now (unknown_at c.args.inc.now c.args.i c.loop-k.k) 0 = ap (λ (u : ℕ). slice_index_or c.args.rank.now u 0) c.in-Some.ensures.unknown in
    open_skip _ _ _ _ _ _ _ _ c.loop-k.invariant (λ is_open. elim c.then-place-eq0.branch [
      | then-place-eq0-via-then-place-eq0 w ↦ omega (arith, w.if-place-eq0.true, place_is, is_open.0)
      | then-place-eq0-via-else-place-eq0+then-place-end w ↦ omega (arith, w.if-place-end.true, place_is, is_open.1)
    ])

pub loop-k-preserved : goal.loop-k-preserved
loop-k-preserved c =
    let place_is : slice_index_or c.args.rank.now c.in-Some.unknown 0 ≡ slice_index_or c.args.rank.now (unknown_at c.args.inc.now c.args.i c.loop-k.k) 0 = ap (λ (u : ℕ). slice_index_or c.args.rank.now u 0) c.in-Some.ensures.unknown in
    rw c.in_ok-push.ensures.items (open_push _ _ _ _ _ _ _ _ c.loop-k.invariant (omega arith, omega arith, c.in-Some.ensures.tight) _ c.in-Some.ensures.unknown)

pub returns : goal.returns
returns c = open_whole _ _ _ _ _ _ _ _ (omega arith) c.loop-k.invariant
