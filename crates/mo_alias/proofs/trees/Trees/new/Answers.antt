use Rattle.std.proofs.Common.{◌+◌, ◌≡◌, ◌∙◌, arith, length, sym}
use Rattle.mo_alias.proofs.Planting.{never_put, trees_alone}
use Rattle.mo_alias.proofs.trees.Trees.new.Goals as goal

pub returns-clause-trees : goal.returns-clause-trees
returns-clause-trees c =
    let signs = rw c.in_ok-minus.ensures.values.0 at c.both-signs.ensures.values in
    let others = rw c.in_ok-minus.ensures.values.1 at c.both-others.ensures.values in
    let minus : length c.in_ok-minus.minus.items ≡ c.args.count + 1 = (let len = rw signs.0 at c.vec.ensures.len in let ok = c.in_ok-minus.minus.ok in omega (arith, len, ok)) in
    let since : length c.in_ok-minus.since.items ≡ c.args.count + 1 = (let len = rw signs.1 at c.vec-2.ensures.len in let ok = c.in_ok-minus.since.ok in omega (arith, len, ok)) in
    let ends : length c.in_ok-minus.ends.items ≡ c.args.count + 1 = (let len = rw others.0 at c.vec-3.ensures.len in let ok = c.in_ok-minus.ends.ok in omega (arith, len, ok)) in
    let height : length c.in_ok-minus.height.items ≡ c.args.count + 1 = (let len = rw others.1 at c.vec-4.ensures.len in let ok = c.in_ok-minus.height.ok in omega (arith, len, ok)) in
    let size = c.in_ok-parent.ensures.size in
    trees_alone (record { parent = c.in_ok-parent.parent; minus = c.in_ok-minus.minus; since = c.in_ok-minus.since; ends = c.in_ok-minus.ends; height = c.in_ok-minus.height }) c.in_ok-parent.ensures.alone (minus ∙ sym size) (since ∙ sym size) (ends ∙ sym size) (height ∙ sym size)
    (never_put (record { parent = c.in_ok-parent.parent; minus = c.in_ok-minus.minus; since = c.in_ok-minus.since; ends = c.in_ok-minus.ends; height = c.in_ok-minus.height }) (c.args.count + 1) ((rw signs.1 at c.vec-2.ensures.items_if_clones_equal) (λ y e. e)))

pub returns-clause-size : goal.returns-clause-size
returns-clause-size c = c.in_ok-parent.ensures.size

pub returns-clause-roots : goal.returns-clause-roots
returns-clause-roots c =
    let signs = rw c.in_ok-minus.ensures.values.0 at c.both-signs.ensures.values in
    never_put (record { parent = c.in_ok-parent.parent; minus = c.in_ok-minus.minus; since = c.in_ok-minus.since; ends = c.in_ok-minus.ends; height = c.in_ok-minus.height }) (c.args.count + 1) ((rw signs.1 at c.vec-2.ensures.items_if_clones_equal) (λ y e. e))
