-- What the table of the frame holds for itself.
use Rattle.std.proofs.Common.{[], ◌∙◌}
use Rattle.std.proofs.lemmas.Result.{IfOk-weaker}
use Rattle.mo_scope.specs.Worlds.{frames_of}
use Rattle.mo_instance.proofs.Choosing.{chosen_exists}
use Rattle.mo_instance.proofs.leaf.binding_of.Goals as goal

pub returns-clause-is : goal.returns-clause-is
returns-clause-is c =
    IfOk-weaker c.chosen_here.result _ _ (λ made is. is (frames_of c.args.s.now) ∙ c.in_ok-env.ensures.stands.values []) c.chosen_here.ensures

pub returns-clause-exists : goal.returns-clause-exists
returns-clause-exists c =
    IfOk-weaker c.chosen_here.result _ _ (λ made is. chosen_exists c.args.s.now c.in_ok-env.env [] made is c.in_ok-env.ensures.exist) c.chosen_here.ensures
