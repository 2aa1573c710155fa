use Rattle.std.proofs.Common.{sym}
use Rattle.std.proofs.lemmas.List.{append-nil}
use Rattle.mo_scope.specs.Sizes.{sizes_if}
use Rattle.mo_scope.specs.Worlds.{scope_in}
use Rattle.mo_lookup.specs.Sizing.{sizes_seen}
use Rattle.mo_lookup.proofs.Written.{two_sizes}
use Rattle.mo_lookup.proofs.sizes.put_declared.Goals as goal

pub returns-in-Class-clause-exact : goal.returns-in-Class-clause-exact
returns-in-Class-clause-exact c = λ frames. rw c.in-Class.is (sym (append-nil (sizes_seen frames c.args.made.now)))

pub returns-in_ok-put_sizes-in-Component-2-clause-there : goal.returns-in_ok-put_sizes-in-Component-2-clause-there
returns-in_ok-put_sizes-in-Component-2-clause-there c = λ world is are.
    c.in_ok-put_sizes-in-Component-2.ensures.there world is (c.in_ok-put_sizes-in-Component.ensures.there world is are)

pub returns-in_ok-put_sizes-in-Component-2-clause-exact : goal.returns-in_ok-put_sizes-in-Component-2-clause-exact
returns-in_ok-put_sizes-in-Component-2-clause-exact c = λ frames.
    let scope = scope_in frames c.args.scope.now.frame.0 c.args.scope.now.iters in
    rw c.in-Component.is
    (two_sizes (sizes_seen frames c.args.made.now) (sizes_if c.in-Component.component.now.subs scope) (sizes_if c.in-Component.component.now.base_subs scope) _ _
    (rw c.as_slice.ensures at (c.in_ok-put_sizes-in-Component.ensures.exact frames)) (rw c.as_slice-in-Component.ensures at (c.in_ok-put_sizes-in-Component-2.ensures.exact frames)))
