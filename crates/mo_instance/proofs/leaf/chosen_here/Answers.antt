-- The value of the table, if it has one.
use Rattle.std.proofs.Common.{Some, None, ap, sym, ◌∙◌}
use Rattle.mo_scope.specs.Instances.{Chosen}
use Rattle.mo_instance.proofs.Choosing.{here_is}
use Rattle.mo_instance.proofs.leaf.chosen_here.Goals as goal

pub returns-in_ok-made-in-Some : goal.returns-in_ok-made-in-Some
returns-in_ok-made-in-Some c = λ frames. ap (λ (chosen : Chosen). Some chosen) (c.in_ok-made-in-Some.ensures.is frames) ∙ sym (here_is frames c.args.env.now (Some c.in-Some.value) c.in-Some.is)

pub returns-in-None : goal.returns-in-None
returns-in-None c = λ frames. sym (here_is frames c.args.env.now None c.in-None.is)
