-- What is answered for the tokens of a whole file.
use Rattle.std.specs.Prelude.{◌≡◌, List, [], ◌∷◌, ◌++◌, Result, Ok, Err}
use Rattle.std.specs.Borrow.{Bor}
use Rattle.mo_syntax.specs.declared.token.Token.{Token}
use Rattle.mo_syntax.specs.declared.class.FileTree.{FileTree}
use Rattle.mo_syntax.specs.declared.place.Broken.{Broken}
use Rattle.mo_syntax.specs.declared.place.Stop.{Stop}
use Rattle.mo_syntax.specs.declared.place.Stop.TheVariants.{Broken as broken, NoMemory as no_memory}
use Rattle.mo_syntax.specs.declared.token.TokenKind.TheVariants.{End}
use Rattle.mo_grammar.specs.declared.fault.Fault.{Fault}
use Rattle.mo_grammar.specs.declared.fault.Fault.TheVariants.{Misplaced}
use Rattle.mo_grammar.specs.declared.reading.Halt.{Halt}
use Rattle.mo_grammar.specs.declared.reading.Halt.TheVariants.{NoMemory, Stuck}
use Rattle.mo_grammar.specs.Lexeme.{Lexeme, lexemes}
use Rattle.mo_grammar.specs.Symbols.{Files}
use Rattle.mo_grammar.specs.Language.{whole_limits, IsImpossibleAfter, HasFaultAfter}
use Rattle.mo_grammar.specs.Answers.{broken_at}

-- the last token is the end of the file
pub record EndsAtEnd (tokens : List Lexeme) : Type 0 where
  pub front : List Lexeme
  pub last : Lexeme
  pub parts : tokens ≡ front ++ last ∷ []
  pub is_end : last.kind ≡ End

-- The answer is that tree, where memory suffices.
abbrev pub IsTree : FileTree → Result FileTree Stop → Type 0
IsTree tree (Ok other) = other ≡ tree
IsTree tree (Err (broken b)) = ⊥
IsTree tree (Err no_memory) = Unit {0}

-- The place is that of a token that is impossible behind those before it, and the rule says why.
pub record IsAtImpossible (tokens : List Lexeme) (b : Broken) : Type 0 where
  pub before : List Lexeme
  pub token : Lexeme
  pub rest : List Lexeme
  pub fault : Fault
  pub parts : tokens ≡ before ++ token ∷ rest
  pub impossible : IsImpossibleAfter Files whole_limits before token
  pub why : HasFaultAfter Files whole_limits before token fault
  pub is : b ≡ broken_at fault (token ∷ rest)

-- A stop is at the first such token; want of memory says nothing.
abbrev pub IsFirstImpossible : List Lexeme → Stop → Type 0
IsFirstImpossible tokens (broken b) = IsAtImpossible tokens b
IsFirstImpossible tokens no_memory = Unit {0}

-- what is answered for a tree with the tokens behind it
abbrev pub answered_tree : FileTree → List Lexeme → Result FileTree Stop
answered_tree tree [] = Ok tree
answered_tree tree (t ∷ rest) = Err (broken (broken_at Misplaced (t ∷ rest)))

-- what is answered for a reading of a file
abbrev pub answered : Result (FileTree × Bor (List Token)) Halt → Result FileTree Stop
answered (Ok x) = answered_tree x.0 (lexemes x.1.now)
answered (Err (Stuck fault rest)) = Err (broken (broken_at fault (lexemes rest.now)))
answered (Err NoMemory) = Err no_memory
