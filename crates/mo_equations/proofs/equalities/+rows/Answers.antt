-- Row after row.
use Rattle.std.proofs.Common.{◌≡◌, ℕ, ◌+◌, ◌≤◌, [], ◌∷◌, ◌++◌, ◌-◌, Ok, Err, map, length, List, take, drop, ap, sym, ◌∙◌, subst, arith, rules}
use Rattle.mo_flat.specs.declared.expr.FlatExpr.{FlatExpr}
use Rattle.mo_flat.specs.declared.model.FlatEquation.{FlatEquation}
use Rattle.mo_scope.specs.Worlds.{frames_of}
use Rattle.mo_syntax.specs.Outcome.{Outcome}
use Rattle.mo_typing.proofs.Empty.{no_rows}
use Rattle.mo_typing.specs.Indices.{Index, indices}
use Rattle.mo_typing.specs.Outcome.{each}
use Rattle.mo_arrays.specs.Equations.{equation}
use Rattle.mo_eval.specs.Seen.{virtuals_seen}
use Rattle.mo_eval.specs.Values.{most_references}
use Rattle.mo_eval.proofs.Grown.{there_still}
use Rattle.mo_equations.specs.Equalities.{replaced_sides}
use Rattle.mo_equations.specs.steps.Standing.{AreReplaced, tree_in}
use Rattle.mo_equations.proofs.Lists.{empty_list, opened_or}
use Rattle.mo_equations.proofs.Sided.{puts_as, puts_nothing, row_empty, row_next, row_stops, rows_below, rows_end, same_sides, same_variables}
use Rattle.mo_equations.proofs.Staying.{stays_on, stays_still}
use Rattle.mo_equations.proofs.equalities.+rows.Goals as goal

-- ---- put_below

pub put_below-put_rows-requires : goal.put_below-put_rows-requires
put_below-put_rows-requires t c = (search rules, (c.requires.there, (c.requires.desk, c.requires.replaced)))

pub put_below-returns-in-empty-clause-exact : goal.put_below-returns-in-empty-clause-exact
put_below-returns-in-empty-clause-exact t c =
    let sides = c.args.sides.now in
    let R = replaced_sides (tree_in c.args.s.now c.args.desk.now.leaves) (virtuals_seen (frames_of c.args.s.now) sides.virtuals) in
    row_empty c.put_equation.result R (equation sides.left sides.right c.args.below.place) c.args.below.begun.now c.args.below.dims.now c.args.row.now.made c.put_equation.new.row.made
    (empty_list c.args.below.dims.now (omega (arith, c.in-empty.len_below))) c.put_equation.ensures.exact

pub put_below-returns-in-len1-up-clause-exact : goal.put_below-returns-in-len1-up-clause-exact
put_below-returns-in-len1-up-clause-exact t c =
    let sides = c.args.sides.now in
    let dims = c.args.below.dims.now in
    let R = replaced_sides (tree_in c.args.s.now c.args.desk.now.leaves) (virtuals_seen (frames_of c.args.s.now) sides.virtuals) in
    rows_below c.put_rows.result R (equation sides.left sides.right c.args.below.place) c.args.below.begun.now dims (take (length dims - 1) (drop 1 dims)) _ c.args.row.now.made c.put_rows.new.row.made
    (sym (opened_or dims _ c.in-len1-up.len_at_least)) c.put_rows.ensures.exact

-- ---- put_rows

pub put_rows-loop-k-init : goal.put_rows-loop-k-init
put_rows-loop-k-init t c = record {
  stays = stays_still c.args.s.now c.args.desk.now c.requires.desk;
  there = c.requires.there;
  replaced = c.requires.replaced;
  put = puts_nothing c.args.row.now.made;
}

pub put_rows-returns-then-has_none-clause-exact : goal.put_rows-returns-then-has_none-clause-exact
put_rows-returns-then-has_none-clause-exact t c =
    let sides = c.args.sides.now in
    let replaced = replaced_sides (tree_in c.args.s.now c.args.desk.now.leaves) (virtuals_seen (frames_of c.args.s.now) sides.virtuals) in
    let none = no_rows c.args.n.now c.args.below.dims.now (sym c.has_none.ensures ∙ c.if-has_none.true) in
    puts_as (Ok tt) _ _ _ _
    (ap (λ (is : List Index). each replaced (map (λ (i : Index). equation sides.left sides.right c.args.below.place (c.args.below.begun.now ++ i)) is)) (sym none))
    (puts_nothing c.args.row.now.made)

pub put_rows-put_below-requires : goal.put_rows-put_below-requires
put_rows-put_below-requires t c =
    let inv = c.loop-k.invariant in
    let V = same_variables c.args.s.now c.loop-k.s c.args.desk.now c.loop-k.desk most_references c.args.sides.now.virtuals c.requires.desk inv.stays.goes c.requires.there in
    (search rules, (inv.there, (inv.stays.goes.desk, subst (λ (W : ℕ → Outcome FlatExpr). AreReplaced W c.loop-k.row.replaced.items) (sym V) inv.replaced)))

pub put_rows-returns-in_err-put_below-clause-exact : goal.put_rows-returns-in_err-put_below-clause-exact
put_rows-returns-in_err-put_below-clause-exact t c =
    let world = c.args.s.now in
    let desk = c.args.desk.now in
    let sides = c.args.sides.now in
    let inv = c.loop-k.invariant in
    let E = equation sides.left sides.right c.args.below.place in
    let begun = c.args.below.begun.now in
    let X = indices c.args.below.dims.now in
    let R = replaced_sides (tree_in world desk.leaves) (virtuals_seen (frames_of world) sides.virtuals) in
    let same = same_sides world c.loop-k.s desk c.loop-k.desk sides.virtuals c.requires.desk inv.stays.goes c.requires.there in
    let index : c.in_ok-index.index ≡ begun ++ (c.loop-k.k + 1) ∷ [] = c.in_ok-index.ensures in
    let stop = c.in_err-put_below.field-0.0 in
    let p : c.from_residual-in_err-put_below.result ≡ Err stop = search rules in
    let small : c.loop-k.k + 1 ≤ c.args.n.now = omega (arith, c.loop-k-test.true) in
    rw p (row_stops R E begun X _ _ _ c.loop-k.k c.args.n.now stop small inv.put
    (puts_as (Err stop) _ _ _ _ (ap (λ (Q : FlatEquation → Outcome FlatEquation). each Q (map (λ (i : Index). E ((begun ++ (c.loop-k.k + 1) ∷ []) ++ i)) X)) same) (rw (c.as_slice.ensures, index) at c.in_err-put_below.ensures.exact)))

pub put_rows-loop-k-preserved : goal.put_rows-loop-k-preserved
put_rows-loop-k-preserved t c =
    let world = c.args.s.now in
    let desk = c.args.desk.now in
    let sides = c.args.sides.now in
    let inv = c.loop-k.invariant in
    let E = equation sides.left sides.right c.args.below.place in
    let begun = c.args.below.begun.now in
    let X = indices c.args.below.dims.now in
    let R = replaced_sides (tree_in world desk.leaves) (virtuals_seen (frames_of world) sides.virtuals) in
    let same = same_sides world c.loop-k.s desk c.loop-k.desk sides.virtuals c.requires.desk inv.stays.goes c.requires.there in
    let index : c.in_ok-index.index ≡ begun ++ (c.loop-k.k + 1) ∷ [] = c.in_ok-index.ensures in
    let V = same_variables world c.loop-k.s desk c.loop-k.desk most_references sides.virtuals c.requires.desk inv.stays.goes c.requires.there in
    record {
      stays = stays_on world c.loop-k.s c.put_below.new.s desk c.loop-k.desk c.put_below.new.desk inv.stays c.in_ok-put_below.ensures.stays;
      there = there_still c.loop-k.s c.put_below.new.s c.in_ok-put_below.ensures.stays.goes.grows sides.virtuals inv.there;
      replaced = subst (λ (W : ℕ → Outcome FlatExpr). AreReplaced W c.put_below.new.row.replaced.items) V c.in_ok-put_below.ensures.replaced;
      put = row_next R E begun X _ _ _ c.loop-k.k inv.put
          (puts_as (Ok tt) _ _ _ _ (ap (λ (Q : FlatEquation → Outcome FlatEquation). each Q (map (λ (i : Index). E ((begun ++ (c.loop-k.k + 1) ∷ []) ++ i)) X)) same) (rw (c.as_slice.ensures, index) at c.in_ok-put_below.ensures.exact));
    }

pub put_rows-returns-clause-exact : goal.put_rows-returns-clause-exact
put_rows-returns-clause-exact t c =
    let sides = c.args.sides.now in
    let over = c.loop-k-test.false in
    let most = c.loop-k.auto.k-end in
    let same : c.loop-k.k ≡ c.args.n.now = omega (arith, over, most) in
    rows_end (replaced_sides (tree_in c.args.s.now c.args.desk.now.leaves) (virtuals_seen (frames_of c.args.s.now) sides.virtuals)) (equation sides.left sides.right c.args.below.place) c.args.below.begun.now (indices c.args.below.dims.now)
    _ _ c.loop-k.k c.args.n.now same c.loop-k.invariant.put
