use Rattle.std.proofs.Common.{◌≡◌, ◌<◌, ◌-◌, ℕ, slice_index_or, ap, arith}
use Rattle.mo_incidence.specs.Signature.{unknown_at, row_len}
use Rattle.mo_incidence.specs.Offsets.{by_place, by_number}
use Rattle.mo_select.proofs.Rows.{length_entries}
use Rattle.mo_select.proofs.Tying.{slack_none, unranked_none, ranked_in, ranked_need, ranked_only, ties_skip, ties_row, ties_push, row_back}
use Rattle.mo_select.proofs.ties.tie.Goals as goal

pub put-requires : goal.put-requires
put-requires c =
    let held = c.requires.ranks.owns c.in-Some.unknown (slice_index_or c.args.rank.now c.in-Some.unknown 0 - 1) (omega (arith, c.if-place-eq0.false)) in
    omega (arith, held.0, c.loop-k.invariant.size, length_entries c.loop-k.rows.items)

pub loop-k-preserved-in-None : goal.loop-k-preserved-in-None
loop-k-preserved-in-None c =
    ties_skip _ _ _ _ _ _ _ _ c.loop-k.invariant (slack_none c.args.inc.now (by_place c.args.remaining.now.c.now) (by_number c.args.remaining.now.d.now) c.args._order.now c.args.rank.now c.requires.ranks _ _ c.in-None.ensures.none)

pub loop-k-preserved-then-place-eq0 : goal.loop-k-preserved-then-place-eq0
loop-k-preserved-then-place-eq0 c =
    let none : slice_index_or c.args.rank.now (unknown_at c.args.inc.now (slice_index_or c.args.remaining.now.active.now c.args.e 0) c.loop-k.k) 0 ≡ 0 = rw c.in-Some.ensures.unknown at c.if-place-eq0.true in
    ties_skip _ _ _ _ _ _ _ _ c.loop-k.invariant (unranked_none c.args.inc.now (by_place c.args.remaining.now.c.now) (by_number c.args.remaining.now.d.now) c.args._order.now c.args.rank.now c.requires.ranks _ _ none)

pub loop-k-preserved : goal.loop-k-preserved
loop-k-preserved c =
    let i = slice_index_or c.args.remaining.now.active.now c.args.e 0 in
    let place_is : slice_index_or c.args.rank.now c.in-Some.unknown 0 ≡ slice_index_or c.args.rank.now (unknown_at c.args.inc.now i c.loop-k.k) 0 = ap (λ (u : ℕ). slice_index_or c.args.rank.now u 0) c.in-Some.ensures.unknown in
    let inside = ranked_in c.args.inc.now (by_place c.args.remaining.now.c.now) (by_number c.args.remaining.now.d.now) c.args._order.now c.args.rank.now c.requires.ranks i c.loop-k.k _ place_is c.if-place-eq0.false in
    let all = row_back c.args.inc.now i _ c.row_len-k-end.ensures in
    let low : c.loop-k.k < row_len c.args.inc.now i = omega arith in
    ties_push _ _ _ _ _ _ _ _ c.loop-k.invariant c.requires.e low _ inside.0
    (ranked_need c.args.inc.now (by_place c.args.remaining.now.c.now) (by_number c.args.remaining.now.d.now) c.args._order.now c.args.rank.now c.requires.ranks i c.loop-k.k _ place_is c.if-place-eq0.false c.in-Some.ensures.tight)
    (ranked_only c.args.inc.now (by_place c.args.remaining.now.c.now) (by_number c.args.remaining.now.d.now) c.args._order.now c.args.rank.now c.requires.ranks i c.loop-k.k _ place_is c.if-place-eq0.false)
    _ c.in_ok-put.ensures.count c.in_ok-put.ensures.more c.in_ok-put.ensures.others

pub returns : goal.returns
returns c =
    let all = row_back c.args.inc.now (slice_index_or c.args.remaining.now.active.now c.args.e 0) _ c.row_len-k-end.ensures in
    ties_row _ _ _ _ _ _ _ _ c.loop-k.invariant (omega arith)
