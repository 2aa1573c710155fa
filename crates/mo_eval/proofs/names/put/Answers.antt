use Rattle.std.proofs.Common.{subst}
use Rattle.mo_scope.specs.Worlds.{frame_in}
use Rattle.mo_names.specs.declared.found.Found.TheVariants.{Component as component_at}
use Rattle.mo_names.specs.Sights.{IsFound, IsMember}
use Rattle.mo_eval.proofs.Naming.{put_behind}
use Rattle.mo_lookup.proofs.Written.{every_behind}
use Rattle.mo_eval.proofs.names.put.Goals as goal

pub returns-in_ok-push-in-Component-clause-there : goal.returns-in_ok-push-in-Component-clause-there
returns-in_ok-push-in-Component-clause-there c = λ world is are.
    let found : IsFound world (component_at c.in-Component.field-0 c.in-Component.member) = subst (IsFound world) c.in-Component.is is in
    rw c.in_ok-push-in-Component.ensures.ok (every_behind (λ name. IsMember world name.member) c.args.names.now _ are found.1)

pub returns-in_ok-push-in-Component-clause-exact : goal.returns-in_ok-push-in-Component-clause-exact
returns-in_ok-push-in-Component-clause-exact c = λ f frames named.
    rw (c.in_ok-push-in-Component.ensures.ok, c.in-Component.is) (put_behind f frames c.args.names.now _ (frame_in frames c.in-Component.field-0.0) named)
