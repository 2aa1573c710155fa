use Rattle.std.proofs.Common.{◌≡◌, take, map}
use Rattle.mo_grammar.specs.Lexeme.{lexemes}
use Rattle.mo_grammar.specs.ClassTrees.{text_of}
use Rattle.mo_class_parts.proofs.names.texts.Given as goal

abbrev pub invariant-loop-token : goal.invariant-loop-token
invariant-loop-token l = l.texts ≡ map text_of (lexemes (take l.token-index l.names))
