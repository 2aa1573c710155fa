use Rattle.std.proofs.Common.{map, drop, ◌+◌}
use Rattle.mo_syntax.specs.Lexeme.{lexemes}
use Rattle.mo_front.specs.Files.{HasTree, HasNoTree}
use Rattle.mo_front.specs.steps.Loading.{More}
use Rattle.mo_front.proofs.phases.all_trees.Given as goal

abbrev pub invariant-loop-list : goal.invariant-loop-list
invariant-loop-list l = More HasTree HasNoTree (map lexemes l.lists) l.files (1 + l.list-index) (map lexemes (drop l.list-index l.lists))
