-- The equations of two sides.
use Rattle.std.proofs.Common.{◌≡◌, [], ◌++◌, Ok, Err, map, ap, rules}
use Rattle.mo_scope.specs.Worlds.{frames_of, scope_in, table_in}
use Rattle.mo_typing.specs.Indices.{indices}
use Rattle.mo_typing.specs.Outcome.{each}
use Rattle.mo_arrays.specs.Equations.{equation}
use Rattle.mo_eval.specs.Seen.{sides_seen, virtuals_seen}
use Rattle.mo_eval.specs.Values.{most_references, sides_of}
use Rattle.mo_equations.specs.Equalities.{replaced_sides}
use Rattle.mo_equations.specs.Leaves.{Tree}
use Rattle.mo_equations.specs.Replacing.{of_variable}
use Rattle.mo_equations.specs.steps.Standing.{replacing_in, tree_in}
use Rattle.mo_equations.proofs.InTurn.{none_replaced}
use Rattle.mo_equations.proofs.Sided.{puts_as, sides_halt, sides_made, sides_stop, sides_unchecked}
use Rattle.mo_equations.proofs.Staying.{desk_later, reads, same_tree, stays_on}
use Rattle.mo_equations.proofs.equalities.equalities.Goals as goal

pub returns-in_err-sides-clause-exact : goal.returns-in_err-sides-clause-exact
returns-in_err-sides-clause-exact c =
    let stop = c.in_err-sides.field-0.0 in
    let p : c.from_residual.result ≡ Err stop = search rules in
    rw p (sides_halt (tree_in c.args.s.now c.args.desk.now.leaves) c.args.place (sides_of (table_in c.args.s.now) (scope_in (frames_of c.args.s.now) c.args.at.now.frame.0 c.args.at.now.iters) c.args.left.now c.args.right.now)
    (sides_seen (frames_of c.sides.new.s)) stop c.in_err-sides.ensures.exact)

pub returns-in_err-sides-clause-stays : goal.returns-in_err-sides-clause-stays
returns-in_err-sides-clause-stays c = reads c.args.s.now c.sides.new.s c.args.desk.now c.sides.new.self c.in_err-sides.ensures.grows c.in_err-sides.ensures.kept c.requires.desk

pub returns-in_err-dims-clause-exact : goal.returns-in_err-dims-clause-exact
returns-in_err-dims-clause-exact c =
    let stop = c.in_err-dims.field-0.0 in
    let p : c.from_residual-in_err-dims.result ≡ Err stop = search rules in
    rw p (sides_unchecked (tree_in c.args.s.now c.args.desk.now.leaves) c.args.place (sides_of (table_in c.args.s.now) (scope_in (frames_of c.args.s.now) c.args.at.now.frame.0 c.args.at.now.iters) c.args.left.now c.args.right.now)
    c.in_ok-sides.sides.left c.in_ok-sides.sides.right (virtuals_seen (frames_of c.sides.new.s) c.in_ok-sides.sides.virtuals) c.in_ok-sides.ensures.exact stop c.in_err-dims.ensures.refused)

pub returns-in_err-put_below-clause-exact : goal.returns-in_err-put_below-clause-exact
returns-in_err-put_below-clause-exact c =
    let world = c.args.s.now in
    let mid = c.sides.new.s in
    let desk = c.args.desk.now in
    let later = record desk { reader = c.sides.new.self } in
    let sides = c.in_ok-sides.sides in
    let tree = tree_in world desk.leaves in
    let V = virtuals_seen (frames_of mid) sides.virtuals in
    let stays = reads world mid desk c.sides.new.self c.in_ok-sides.ensures.grows c.in_ok-sides.ensures.kept c.requires.desk in
    let trees = same_tree world mid desk later c.requires.desk stays.goes in
    let dims = c.in_ok-dims.dims in
    let same = ap (λ (tr : Tree). each (replaced_sides tr V) (map (λ index. equation sides.left sides.right c.args.place ([] ++ index)) (indices dims))) trees in
    let told = sides_of (table_in world) (scope_in (frames_of world) c.args.at.now.frame.0 c.args.at.now.iters) c.args.left.now c.args.right.now in
    let stop = c.in_err-put_below.field-0.0 in
    let p : c.from_residual-in_err-put_below.result ≡ Err stop = search rules in
    rw p (sides_stop tree c.args.place told sides.left sides.right V c.in_ok-sides.ensures.exact dims c.in_ok-dims.ensures.ok _ _ stop
    (puts_as (Err stop) _ _ _ _ same (rw c.as_slice.ensures at c.in_err-put_below.ensures.exact)))

pub returns-clause-exact : goal.returns-clause-exact
returns-clause-exact c =
    let world = c.args.s.now in
    let mid = c.sides.new.s in
    let desk = c.args.desk.now in
    let later = record desk { reader = c.sides.new.self } in
    let sides = c.in_ok-sides.sides in
    let tree = tree_in world desk.leaves in
    let V = virtuals_seen (frames_of mid) sides.virtuals in
    let stays = reads world mid desk c.sides.new.self c.in_ok-sides.ensures.grows c.in_ok-sides.ensures.kept c.requires.desk in
    let trees = same_tree world mid desk later c.requires.desk stays.goes in
    let dims = c.in_ok-dims.dims in
    let same = ap (λ (tr : Tree). each (replaced_sides tr V) (map (λ index. equation sides.left sides.right c.args.place ([] ++ index)) (indices dims))) trees in
    let told = sides_of (table_in world) (scope_in (frames_of world) c.args.at.now.frame.0 c.args.at.now.iters) c.args.left.now c.args.right.now in
    sides_made tree c.args.place told sides.left sides.right V c.in_ok-sides.ensures.exact dims c.in_ok-dims.ensures.ok c.new.result c.put_below.new.row.made c.new.ensures
    (puts_as (Ok tt) _ _ _ _ same (rw c.as_slice.ensures at c.in_ok-put_below.ensures.exact))

pub returns-in_err-dims-clause-stays : goal.returns-in_err-dims-clause-stays
returns-in_err-dims-clause-stays c = reads c.args.s.now c.sides.new.s c.args.desk.now c.sides.new.self c.in_ok-sides.ensures.grows c.in_ok-sides.ensures.kept c.requires.desk

pub returns-in_err-unreplaced-clause-stays : goal.returns-in_err-unreplaced-clause-stays
returns-in_err-unreplaced-clause-stays c = reads c.args.s.now c.sides.new.s c.args.desk.now c.sides.new.self c.in_ok-sides.ensures.grows c.in_ok-sides.ensures.kept c.requires.desk

pub returns-in_err-put_below-clause-stays : goal.returns-in_err-put_below-clause-stays
returns-in_err-put_below-clause-stays c =
    let stays = reads c.args.s.now c.sides.new.s c.args.desk.now c.sides.new.self c.in_ok-sides.ensures.grows c.in_ok-sides.ensures.kept c.requires.desk in
    stays_on c.args.s.now c.sides.new.s c.put_below.new.s c.args.desk.now (record c.args.desk.now { reader = c.sides.new.self }) c.put_below.new.desk stays c.in_err-put_below.ensures.stays

pub returns-clause-stays : goal.returns-clause-stays
returns-clause-stays c =
    let stays = reads c.args.s.now c.sides.new.s c.args.desk.now c.sides.new.self c.in_ok-sides.ensures.grows c.in_ok-sides.ensures.kept c.requires.desk in
    stays_on c.args.s.now c.sides.new.s c.put_below.new.s c.args.desk.now (record c.args.desk.now { reader = c.sides.new.self }) c.put_below.new.desk stays c.in_ok-put_below.ensures.stays

pub put_below-requires-clause-desk : goal.put_below-requires-clause-desk
put_below-requires-clause-desk c = desk_later c.args.s.now c.sides.new.s c.args.desk.now c.sides.new.self c.in_ok-sides.ensures.grows c.in_ok-sides.ensures.kept c.requires.desk

pub put_below-requires-clause-replaced : goal.put_below-requires-clause-replaced
put_below-requires-clause-replaced c = rw c.in_ok-unreplaced.ensures (none_replaced (of_variable (replacing_in c.sides.new.s c.args.desk.now.leaves most_references) (virtuals_seen (frames_of c.sides.new.s) c.in_ok-sides.sides.virtuals)) _)
