-- A word that names no class.
use Rattle.std.proofs.Common.{rules, ap, sym, ◌∙◌}
use Rattle.mo_syntax.specs.Lexeme.{lexemes}
use Rattle.mo_front.proofs.Dotting.{no_path, other_word}
use Rattle.mo_front.proofs.words.class_path.Goals as goal

pub returns-in-Err-Broken-clause-none : goal.returns-in-Err-Broken-clause-none
returns-in-Err-Broken-clause-none c = λ same path n. (rw c.in-Err-Broken.field-0-is at c.in-Err-Broken.ensures.no_tokens) n.tokens n.lexes

pub returns-in_default-clause-none : goal.returns-in_default-clause-none
returns-in_default-clause-none c = λ same path n.
    no_path (lexemes c.as_slice.result.now) n.tokens path (search rules) (c.in-Ok.ensures.only n.tokens n.lexes ∙ ap lexemes (sym c.as_slice.ensures)) n.dotted

pub returns-then-not-is_same-clause-none : goal.returns-then-not-is_same-clause-none
returns-then-not-is_same-clause-none c = λ same path n.
    other_word (lexemes c.as_slice.result.now) n.tokens c.in-Some.names path c.as_slice-2.result.now c.args.word.now c.as_str.result.now (search rules)
    (c.in-Ok.ensures.only n.tokens n.lexes ∙ ap lexemes (sym c.as_slice.ensures)) n.dotted c.as_slice-2.ensures (search rules) n.whole (c.is_same.ensures.no c.if-not-is_same.true)
