-- Of a list the part that has the element is known as the list is.
use Rattle.mo_eval.specs.steps.Sites.{variables_in}
use Rattle.mo_eval.proofs.Growing.{gives_as}
use Rattle.mo_eval.proofs.reader.Reader.known_of_binding.Goals as goal

pub returns-clause-exact : goal.returns-clause-exact
returns-clause-exact c =
    gives_as c.known_in.result _ _ (c.part_of_bound.ensures (variables_in c.args.s.now c.args.left c.args.bound.now.resolved.virtuals)) (rw c.as_slice-virtuals.ensures at c.known_in.ensures.exact)
