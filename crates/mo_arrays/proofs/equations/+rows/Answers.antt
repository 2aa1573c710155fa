use Rattle.std.proofs.Common.{rules, ◌≡◌, ◌+◌, ◌∷◌, [], ◌++◌, map, flat_map, arith, ap, sym, ◌∙◌}
use Rattle.mo_typing.proofs.Empty.{no_rows}
use Rattle.mo_typing.specs.Indices.{indices, numbers_to}
use Rattle.mo_arrays.specs.Equations.{equation}
use Rattle.mo_arrays.proofs.Numbers.{flat_map_more, begun_more, begun_whole}
use Rattle.mo_arrays.proofs.equations.+rows.Goals as goal

pub equations_of_rows-returns-then-has_none : goal.equations_of_rows-returns-then-has_none
equations_of_rows-returns-then-has_none t c =
    c.new-made.ensures ∙ sym (ap (map (λ i. equation c.args.left.now c.args.right.now c.args.place (c.args.begun.now ++ i))) (no_rows c.args.n c.args.more.now (sym c.has_none.ensures ∙ c.if-has_none.true)))

pub equations_of_rows-loop-k-preserved : goal.equations_of_rows-loop-k-preserved
equations_of_rows-loop-k-preserved t c =
    let appended : c.append.new.self ≡ c.loop-k.made ++ c.in_ok-equations_below.field-0 = search rules in
    let next : c.in_ok-index.index ≡ c.args.begun.now ++ (c.loop-k.k + 1) ∷ [] = search rules in
    rw (appended, c.loop-k.invariant, c.in_ok-equations_below.ensures, c.as_slice.ensures, next)
    (sym (flat_map_more (λ k. map (λ i. equation c.args.left.now c.args.right.now c.args.place ((c.args.begun.now ++ k ∷ []) ++ i)) (indices c.args.more.now)) c.loop-k.k))

pub equations_of_rows-returns : goal.equations_of_rows-returns
equations_of_rows-returns t c =
    let end = c.loop-k.auto.k-end in
    let test = c.loop-k-test.false in
    let ended : c.loop-k.k ≡ c.args.n = omega arith in
    c.loop-k.invariant
    ∙ (ap (λ k. flat_map (λ k. map (λ i. equation c.args.left.now c.args.right.now c.args.place ((c.args.begun.now ++ k ∷ []) ++ i)) (indices c.args.more.now)) (numbers_to k)) ended
    ∙ begun_more (equation c.args.left.now c.args.right.now c.args.place) c.args.begun.now c.args.n c.args.more.now)

pub equations_below-returns-in_ok-push-in-empty : goal.equations_below-returns-in_ok-push-in-empty
equations_below-returns-in_ok-push-in-empty t c =
    let pushed : c.push.new.self ≡ c.in_ok-equation_at-in-empty.field-0 ∷ [] = search rules in
    begun_whole (equation c.args.left.now c.args.right.now c.args.place) c.args.begun.now c.args.dims.now _ _ c.in-empty.len_below pushed c.in_ok-equation_at-in-empty.ensures
