-- The phases, one after another.
use Rattle.std.proofs.Common.{map, subst, Ok, Err}
use Rattle.mo_syntax.specs.Lexeme.{lexemes}
use Rattle.mo_front.specs.Files.{Trees}
use Rattle.mo_front.proofs.SoundTrees.{trees_sound}
use Rattle.mo_front.proofs.Answering.{trees_flat, trees_refusal, no_trees_holds, no_tokens_holds}
use Rattle.mo_syntax.specs.Outcome.{IfBroken}
use Rattle.mo_front.proofs.answer.of_texts.Goals as goal

pub returns-in-Ok-all_trees-clause-flat : goal.returns-in-Ok-all_trees-clause-flat
returns-in-Ok-all_trees-clause-flat c =
    trees_flat _ _ _ _ _ c.in-Ok.ensures.tokens (subst (λ x. Trees (map lexemes x) (Ok c.in-Ok-all_trees.files)) c.as_slice.ensures c.in-Ok-all_trees.ensures.trees) c.of_trees.ensures.flat

pub returns-in-Ok-all_trees-clause-refused : goal.returns-in-Ok-all_trees-clause-refused
returns-in-Ok-all_trees-clause-refused c =
    trees_refusal _ _ _ _ _ c.in-Ok.ensures.tokens (subst (λ x. Trees (map lexemes x) (Ok c.in-Ok-all_trees.files)) c.as_slice.ensures c.in-Ok-all_trees.ensures.trees) c.of_trees.ensures.refused

pub returns-in-Ok-clause-refused : goal.returns-in-Ok-clause-refused
returns-in-Ok-clause-refused c =
    no_trees_holds _ _ _ c.all_trees.result _ c.in-Err-all_trees.is c.in-Ok.ensures.tokens (subst (λ x. IfBroken c.all_trees.result (λ b. Trees (map lexemes x) (Err b))) c.as_slice.ensures c.all_trees.ensures.broken)

pub returns-clause-refused : goal.returns-clause-refused
returns-clause-refused c = no_tokens_holds _ _ c.all_tokens.result _ c.in-Err.is c.all_tokens.ensures.broken

pub of_trees-requires : goal.of_trees-requires
of_trees-requires c =
    record { sound = trees_sound _ _ (subst (λ x. Trees (map lexemes x) (Ok c.in-Ok-all_trees.files)) c.as_slice.ensures c.in-Ok-all_trees.ensures.trees) }
