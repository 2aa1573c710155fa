-- Names with dots between them, one after another.
use Rattle.std.proofs.Common.{rules, ap, ◌++◌, ◌∷◌, [], ◌∙◌}
use Rattle.mo_syntax.specs.Lexeme.{lexemes}
use Rattle.mo_front.proofs.Dotting.{dotted_step, dotted_stop, dotted_end}
use Rattle.mo_front.proofs.words.dotted.Goals as goal

pub each-preserved : goal.each-preserved
each-preserved c =
    dotted_step (lexemes c.args.tokens.now) c.each.rest.now c.each.names _ _ c.each.invariant (search rules) c.in-Some.ensures
    (c.in_ok-push.ensures.ok ∙ ap (λ t. c.each.names ++ t ∷ []) c.in_ok-from_str.ensures)

pub returns-in_default : goal.returns-in_default
returns-in_default c = dotted_stop (lexemes c.args.tokens.now) c.each.rest.now c.each.names c.each.invariant (search rules) c.in_default.ensures

pub returns-in_default-alone : goal.returns-in_default-alone
returns-in_default-alone c = dotted_end (lexemes c.args.tokens.now) c.each.rest.now c.each.names c.each.invariant (search rules) c.in_default-alone.ensures
