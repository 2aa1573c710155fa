-- The paths of the arguments, where the list is of the declaration.
use Rattle.std.proofs.Common.{◌++◌, List, map, ap, sym, ◌∙◌}
use Rattle.std.proofs.lemmas.Result.{on_ok_weaker}
use Rattle.mo_mods.specs.PathSights.{claim_seen}
use Rattle.mo_scope.specs.Arguments.{Claim}
use Rattle.mo_scope.specs.Sights.{source_seen}
use Rattle.mo_scope.specs.Worlds.{source_in, table_in}
use Rattle.mo_scope.proofs.Sayings.{nothing_more}
use Rattle.mo_instance.proofs.Owning.{other_source, own_source}
use Rattle.mo_instance.proofs.own.put_source.Goals as goal

pub returns-then-is_own_of : goal.returns-then-is_own_of
returns-then-is_own_of c =
    on_ok_weaker c.put_spoken.result
    (λ is frames. is frames
    ∙ ap (λ (claims : List Claim). map claim_seen c.args.made.now ++ claims)
    (sym (own_source (table_in c.args.s.now) c.args.place (source_in frames (source_seen c.args.source.now)) (sym c.is_own_of.ensures ∙ c.if-is_own_of.true))))
    c.put_spoken.ensures

pub returns : goal.returns
returns c = λ frames.
    nothing_more _ _ (other_source (table_in c.args.s.now) c.args.place (source_in frames (source_seen c.args.source.now)) (sym c.is_own_of.ensures ∙ c.if-is_own_of.false))
