use Rattle.std.proofs.Common.{◌≡◌, ◌+◌, ◌-◌, ◌∙◌, slice_index, refl, arith}
use Rattle.mo_match.proofs.Trees.{root_cleared}
use Rattle.mo_pantelides.proofs.Looking.{looked_root, looked_few, smaller_look, cost_look, cost_found}
use Rattle.mo_pantelides.proofs.Seeking.{seek_start, turn_in, x_in}
use Rattle.mo_pantelides.proofs.seek.seek.Goals as goal

pub begin-requires-clause-base : goal.begin-requires-clause-base
begin-requires-clause-base g c =
    let root = c.requires.root.0 in
    (omega (arith, root, c.requires.tree.queue_all), omega (arith, root, c.requires.tree.parent_all), omega arith)

pub begin-requires-clause-root : goal.begin-requires-clause-root
begin-requires-clause-root g c =
    let root = c.requires.root.0 in
    (omega (arith, root, c.requires.tree.mark_all), omega (arith, root, c.equations-equations.ensures.sound.few_equations))

pub on-init : goal.on-init
on-init g c =
    let bare = root_cleared c.requires.tree c.args.root c.requires.root.0 in
    rw (c.begin.ensures.queue, c.begin.ensures.parent, c.begin.ensures.mark) (record {
      seeking = seek_start _ _ _ _ _ _ _ _ _ _ _ c.requires.root.0 c.requires.root.1 c.requires.root.2 c.requires.fixed c.requires.tree c.requires.spare;
      cost = omega (arith, looked_root c.args.inc.now c.args.fixing.now.fixed.now c.args.search.now.mark.items c.args.root bare (omega (arith, c.requires.root.0, c.requires.tree.mark_all)));
      same = (refl, refl);
    })

pub at-equation-requires : goal.at-equation-requires
at-equation-requires g c =
    let inside = turn_in _ _ _ _ _ _ _ _ _ _ _ _ _ _ c.equations-equations.ensures.sound c.requires.open c.requires.root.0 c.on.invariant.seeking _ c.turn-place.ensures in
    let tree = c.on.invariant.seeking.tree in
    omega (arith, inside, tree.room, tree.queue_all)

pub mark_of-k-requires : goal.mark_of-k-requires
mark_of-k-requires g c = let inside = x_in _ _ _ _ _ _ _ _ _ _ _ _ _ _ c.equations-equations.ensures.sound c.requires.open c.requires.root.0 c.on.invariant.seeking _ c.turn-place.ensures in rw c.at-equation.ensures (omega (arith, inside, c.on.invariant.seeking.tree.mark_all))

pub overflow_sub-k : goal.overflow_sub-k
overflow_sub-k g c =
    let marked = c.on.invariant.seeking.tree.marked _ (turn_in _ _ _ _ _ _ _ _ _ _ _ _ _ _ c.equations-equations.ensures.sound c.requires.open c.requires.root.0 c.on.invariant.seeking _ c.turn-place.ensures) in
    rw (c.mark_of-k.ensures, c.at-equation.ensures) (omega (arith, marked))

pub row_len-requires : goal.row_len-requires
row_len-requires g c = let inside = x_in _ _ _ _ _ _ _ _ _ _ _ _ _ _ c.equations-equations.ensures.sound c.requires.open c.requires.root.0 c.on.invariant.seeking _ c.turn-place.ensures in rw c.at-equation.ensures (omega arith, omega (arith, inside))

pub finish-at-requires-clause-whole : goal.finish-at-requires-clause-whole
finish-at-requires-clause-whole g c =
    let marked = c.on.invariant.seeking.tree.marked _ (turn_in _ _ _ _ _ _ _ _ _ _ _ _ _ _ c.equations-equations.ensures.sound c.requires.open c.requires.root.0 c.on.invariant.seeking _ c.turn-place.ensures) in
    let equation = slice_index c.on.search.queue.items c.turn-place.result in
    let back : equation + 1 - 1 ≡ equation = omega arith in
    let whole = rw (c.row_len.ensures, c.mark_of-k.ensures, c.at-equation.ensures, back) at c.if-k-row_len.true in
    omega (arith, marked, whole)

pub on-preserved-then-k-row_len : goal.on-preserved-then-k-row_len
on-preserved-then-k-row_len g c =
    let before = c.on.invariant in
    let step = c.finish-at.ensures in
    record {
      seeking = step.on;
      same = (step.same.0 ∙ before.same.0, step.same.1 ∙ before.same.1);
      cost = rw step.looked before.cost;
    }

pub look-free-requires-clause-k : goal.look-free-requires-clause-k
look-free-requires-clause-k g c =
    let marked = c.on.invariant.seeking.tree.marked _ (turn_in _ _ _ _ _ _ _ _ _ _ _ _ _ _ c.equations-equations.ensures.sound c.requires.open c.requires.root.0 c.on.invariant.seeking _ c.turn-place.ensures) in
    rw (c.mark_of-k.ensures, c.at-equation.ensures) (omega (arith, marked))

pub look-free-requires-clause-entry : goal.look-free-requires-clause-entry
look-free-requires-clause-entry g c =
    let inside = x_in _ _ _ _ _ _ _ _ _ _ _ _ _ _ c.equations-equations.ensures.sound c.requires.open c.requires.root.0 c.on.invariant.seeking _ c.turn-place.ensures in
    let within = c.on.invariant.seeking.within _ inside in
    let marked = c.on.invariant.seeking.tree.marked _ (turn_in _ _ _ _ _ _ _ _ _ _ _ _ _ _ c.equations-equations.ensures.sound c.requires.open c.requires.root.0 c.on.invariant.seeking _ c.turn-place.ensures) in
    let equation = slice_index c.on.search.queue.items c.turn-place.result in
    let back : equation + 1 - 1 ≡ equation = omega arith in
    let left = rw (c.row_len.ensures, c.mark_of-k.ensures, c.at-equation.ensures, back) at c.if-k-row_len.false in
    rw (c.mark_of-k.ensures, c.at-equation.ensures) (omega (arith, within, marked, left))

pub returns-in-Some-clause-cost : goal.returns-in-Some-clause-cost
returns-in-Some-clause-cost g c =
    let look = c.look-free.ensures in
    let found = rw c.in-Some.is at look.found in
    cost_found _ _ _ _ _ (cost_look _ _ _ _ _ _ c.on.invariant.cost look.cost look.looked) (looked_few _ _ _ found.within)

pub on-smaller : goal.on-smaller
on-smaller g c =
    let look = c.look-free.ensures in
    let on = rw c.in-None.is at look.on in
    smaller_look _ _ _ _ _ _ _ _ look.looked (looked_few _ _ _ on.within) look.more.0 look.more.1

pub on-preserved : goal.on-preserved
on-preserved g c =
    let before = c.on.invariant in
    let look = c.look-free.ensures in
    record {
      seeking = rw c.in-None.is at look.on;
      same = before.same;
      cost = cost_look _ _ _ _ _ _ before.cost look.cost look.looked;
    }
