-- One argument after another.
use Rattle.std.proofs.Common.{◌++◌, map, ap, ◌∙◌}
use Rattle.std.proofs.lemmas.List.{map-append}
use Rattle.mo_mods.specs.PathSights.{claim_seen}
use Rattle.mo_scope.proofs.Sayings.{gathered_all, gathered_more}
use Rattle.mo_instance.specs.Passes.{argument_claims}
use Rattle.mo_instance.proofs.own.put_list.Goals as goal

pub loop-argument-preserved : goal.loop-argument-preserved
loop-argument-preserved c =
    gathered_more argument_claims (map claim_seen c.args.made.now) (map claim_seen c.loop-argument.made) (map claim_seen c.append.new.self)
    c.args.list.now c.loop-argument.argument-index c.argument-item.result c.loop-argument-test.true c.argument-item.is c.loop-argument.invariant
    (ap (map claim_seen) c.in_ok-append.ensures.ok ∙ map-append claim_seen c.loop-argument.made c.in_ok-claims.claims
    ∙ ap (λ ys. map claim_seen c.loop-argument.made ++ ys) c.in_ok-claims.ensures)

pub returns : goal.returns
returns c =
    gathered_all argument_claims (map claim_seen c.args.made.now) (map claim_seen c.loop-argument.made) c.args.list.now c.loop-argument.argument-index c.loop-argument-test.false c.loop-argument.invariant
