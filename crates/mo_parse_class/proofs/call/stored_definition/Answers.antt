-- The laws of reading, of the reading that was made.
use Rattle.std.proofs.Common.{sym, subst}
use Rattle.std.specs.Prelude.{IfOk, IfErr}
use Rattle.mo_grammar.specs.Lexeme.{lexemes}
use Rattle.mo_grammar.specs.Language.{whole_limits, Spells}
use Rattle.mo_grammar.specs.Symbols.{Files}
use Rattle.std.specs.Prelude.{IsTrue}
use Rattle.mo_syntax.specs.SoundTree.{is_sound_file}
use Rattle.mo_parse_class.specs.WholeFiles.{IsTree, IsFirstImpossible, answered}
use Rattle.mo_parse_class.proofs.WholeFiles.{answered_found, answered_only, answered_refused}
use Rattle.mo_grammar.proofs.SoundTrees.{found_sound}
use Rattle.mo_parse_class.proofs.call.stored_definition.Goals as goal

pub returns-clause-found : goal.returns-clause-found
returns-clause-found c = subst (λ r. IfOk r (λ tree. Spells Files whole_limits (lexemes c.args.tokens.now) tree)) (sym c.answer.ensures) (answered_found (lexemes c.args.tokens.now) c.file.result c.file.ensures.reads)

pub returns-clause-only : goal.returns-clause-only
returns-clause-only c = λ tree s. subst (IsTree tree) (sym c.answer.ensures) (answered_only (lexemes c.args.tokens.now) c.file.result c.file.ensures.reads tree s)

pub returns-clause-refused : goal.returns-clause-refused
returns-clause-refused c = subst (λ r. IfErr r (IsFirstImpossible (lexemes c.args.tokens.now))) (sym c.answer.ensures) (answered_refused (lexemes c.args.tokens.now) c.file.result c.requires.ends c.file.ensures.reads)

pub returns-clause-sound : goal.returns-clause-sound
returns-clause-sound c = λ is_name h. subst (λ r. IfOk r (λ tree. IsTrue (is_sound_file is_name tree))) (sym c.answer.ensures)
    (found_sound is_name whole_limits (lexemes c.args.tokens.now) (answered c.file.result) (answered_found (lexemes c.args.tokens.now) c.file.result c.file.ensures.reads) h)
