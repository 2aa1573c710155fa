-- One more class definition.
use Rattle.std.proofs.Common.{refl, arith}
use Rattle.mo_grammar.specs.Lexeme.{lexemes}
use Rattle.mo_grammar.proofs.Loops.{turn}
use Rattle.mo_class_heads.specs.Left.{limits}
use Rattle.mo_parse_class.specs.steps.Parts.{definition}
use Rattle.mo_parse_class.proofs.file.definitions.Goals as goal

pub each-preserved : goal.each-preserved
each-preserved c = record {
  so_far = turn definition refl refl (limits c.args.left) c.each.all _ (lexemes c.each.rest.now) _ _ _ c.each-test.ensures c.in_ok-next.ensures.reads c.in_ok-push.ensures.ok c.each.invariant.so_far;
  no_longer = omega (arith, c.in_ok-next.ensures.shorter, c.each.invariant.no_longer);
}
