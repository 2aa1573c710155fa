-- Prefix by prefix.
use Rattle.std.proofs.Common.{◌++◌, ap, ◌∙◌, arith}
use Rattle.mo_scope.specs.Worlds.{frames_of, table_in}
use Rattle.mo_equations.specs.steps.Declaring.{dims_found}
use Rattle.mo_equations.specs.steps.Tables.{paths_seen, place_among}
use Rattle.mo_equations.proofs.Along.{sizes_all, sizes_more}
use Rattle.mo_equations.proofs.variables.sizes_along.Goals as goal

pub loop-k-preserved : goal.loop-k-preserved
loop-k-preserved c =
    let leaves = c.args.leaves.now in
    sizes_more (λ around. dims_found leaves.instances.now (place_among (paths_seen leaves.all) around)) c.args.path.now c.loop-k.k c.loop-k.sizes c.push_dims.new.sizes (omega (arith, c.loop-k-test.true)) c.loop-k.invariant
    (c.in_ok-push_dims.ensures ∙ ap (λ found. c.loop-k.sizes ++ dims_found leaves.instances.now found) c.in_ok-found.ensures)

pub returns : goal.returns
returns c =
    let leaves = c.args.leaves.now in
    sizes_all (frames_of c.args._s.now) c.requires.tree.naming (table_in c.args._s.now) leaves.instances.now (paths_seen leaves.all) c.args.path.now c.loop-k.k c.loop-k.sizes c.loop-k-test.false c.requires.tree.are c.requires.all c.loop-k.invariant
