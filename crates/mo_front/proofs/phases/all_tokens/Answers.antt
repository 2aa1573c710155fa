-- Texts, one after another.
use Rattle.std.proofs.Common.{rules, ◌+◌, List, map, drop, refl}
use Rattle.std.proofs.lemmas.List.{drop_all}
use Rattle.mo_syntax.specs.declared.token.Token.{Token}
use Rattle.mo_syntax.specs.Lexeme.{lexemes}
use Rattle.mo_lexer.specs.Lexing.{Lexes, IsRefused}
use Rattle.mo_parse_class.specs.WholeFiles.{EndsAtEnd}
use Rattle.mo_front.proofs.OneByOne.{refused_as, more_given, more_broken, more_ended, more_start, lexed_ended, at_front, all_more, map_more}
use Rattle.mo_front.proofs.phases.all_tokens.Goals as goal

pub loop-text-init : goal.loop-text-init
loop-text-init c = (refl, search rules, rw c.new-lists.ensures (more_start Lexes IsRefused c.args.texts.now))

pub returns-in-Err-clause-broken : goal.returns-in-Err-clause-broken
returns-in-Err-clause-broken c = refused_as (List (List Token)) c.tokens.result c.in-Err.stop _ _ c.in-Err.is c.tokens.ensures.refused (λ b breaks.
    more_broken Lexes IsRefused c.args.texts.now (map lexemes c.loop-text.lists) c.loop-text.number c.as_str.result.now (drop c.loop-text.text-index c.args.texts.now)
    (drop (c.loop-text.text-index + 1) c.args.texts.now) b c.loop-text.invariant.2 (at_front c.args.texts.now c.loop-text.text-index c.as_str.result.now (search rules) (search rules)) breaks)

pub loop-text-preserved : goal.loop-text-preserved
loop-text-preserved c = (
  search rules,
  all_more (λ x. EndsAtEnd (lexemes x)) c.loop-text.lists _ c.in-Ok.list c.in_ok-push-in-Ok.ensures.ok c.loop-text.invariant.1 (lexed_ended _ _ _ c.in-Ok.ensures.lexes),
  more_given Lexes IsRefused c.args.texts.now (map lexemes c.loop-text.lists) (map lexemes c.push.new.self) c.loop-text.number (c.loop-text.number + 1) c.as_str.result.now
      (drop c.loop-text.text-index c.args.texts.now) (drop (c.loop-text.text-index + 1) c.args.texts.now) (lexemes c.in-Ok.list) c.loop-text.invariant.2 (at_front c.args.texts.now c.loop-text.text-index c.as_str.result.now (search rules) (search rules)) c.in-Ok.ensures.lexes (map_more lexemes _ _ _ c.in_ok-push-in-Ok.ensures.ok) refl,
)

pub returns-clause-tokens : goal.returns-clause-tokens
returns-clause-tokens c =
    more_ended Lexes IsRefused c.args.texts.now (map lexemes c.loop-text.lists) c.loop-text.number (drop c.loop-text.text-index c.args.texts.now) c.loop-text.invariant.2 (drop_all c.loop-text.text-index c.args.texts.now (search rules))
