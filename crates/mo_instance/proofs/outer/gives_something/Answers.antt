-- Whether there are paths.
use Rattle.std.proofs.Common.{ap, sym, ◌∙◌}
use Rattle.std.specs.Prelude.{not}
use Rattle.mo_mods.specs.PathSights.{claim_seen}
use Rattle.mo_instance.proofs.Lists.{mapped_nothing, nothing_is}
use Rattle.mo_instance.proofs.outer.gives_something.Goals as goal

pub returns-then-is_empty : goal.returns-then-is_empty
returns-then-is_empty c =
    ap not (sym (mapped_nothing claim_seen c.args.spoken.now.claims ∙ nothing_is c.args.spoken.now.claims c.is_empty.result c.is_empty.ensures ∙ c.if-is_empty.true))

pub returns : goal.returns
returns c =
    ap not (sym (mapped_nothing claim_seen c.args.spoken.now.claims ∙ nothing_is c.args.spoken.now.claims c.is_empty.result c.is_empty.ensures ∙ c.if-is_empty.false))
