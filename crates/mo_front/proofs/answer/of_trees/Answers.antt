-- A class tree that breaks a rule, and what flattening tells of one that breaks none.
use Rattle.mo_front.proofs.Answering.{no_tree_holds, told_flat, told_broken}
use Rattle.mo_front.proofs.answer.of_trees.Goals as goal

pub returns-in-Ok-clause-flat : goal.returns-in-Ok-clause-flat
returns-in-Ok-clause-flat c =
    rw c.in-Ok.ensures.ok at (told_flat _ _ _ (rw c.in-Ok.ensures.ok c.in-Ok.ensures.accepted) c.flatten.ensures.told)

pub returns-in-Ok-clause-refused : goal.returns-in-Ok-clause-refused
returns-in-Ok-clause-refused c =
    rw c.in-Ok.ensures.ok at (told_broken _ _ _ (rw c.in-Ok.ensures.ok c.in-Ok.ensures.accepted) c.flatten.ensures.told)

pub returns-in-Err-clause-refused : goal.returns-in-Err-clause-refused
returns-in-Err-clause-refused c = no_tree_holds _ _ c.build.result _ c.in-Err.is c.build.ensures.refused
