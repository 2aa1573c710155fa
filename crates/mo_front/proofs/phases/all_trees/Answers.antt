-- Lists of tokens, one after another.
use Rattle.std.proofs.Common.{rules, ◌+◌, List, map, drop, ap}
use Rattle.std.proofs.lemmas.List.{drop_all}
use Rattle.mo_syntax.specs.declared.class.FileTree.{FileTree}
use Rattle.mo_syntax.specs.Lexeme.{lexemes}
use Rattle.mo_front.specs.Files.{HasTree, HasNoTree}
use Rattle.mo_front.proofs.OneByOne.{impossible_as, more_given, more_broken, more_ended, more_start, at_front}
use Rattle.mo_front.proofs.phases.all_trees.Goals as goal

pub loop-list-init : goal.loop-list-init
loop-list-init c = rw c.new-files.ensures (more_start HasTree HasNoTree (map lexemes c.args.lists.now))

pub returns-in-Err-clause-broken : goal.returns-in-Err-clause-broken
returns-in-Err-clause-broken c = impossible_as (List FileTree) _ c.in-Err.stop _ c.in-Err.ensures.refused (λ b breaks.
    more_broken HasTree HasNoTree (map lexemes c.args.lists.now) c.loop-list.files (1 + c.loop-list.list-index) (lexemes c.as_slice.result.now) (map lexemes (drop c.loop-list.list-index c.args.lists.now))
    (map lexemes (drop (c.loop-list.list-index + 1) c.args.lists.now)) b c.loop-list.invariant (ap (map lexemes) (at_front c.args.lists.now c.loop-list.list-index c.as_slice.result.now (search rules) (search rules))) breaks)

pub loop-list-preserved : goal.loop-list-preserved
loop-list-preserved c =
    more_given HasTree HasNoTree (map lexemes c.args.lists.now) c.loop-list.files c.push.new.self (1 + c.loop-list.list-index) (1 + (c.loop-list.list-index + 1)) (lexemes c.as_slice.result.now)
    (map lexemes (drop c.loop-list.list-index c.args.lists.now)) (map lexemes (drop (c.loop-list.list-index + 1) c.args.lists.now)) c.in-Ok.file c.loop-list.invariant (ap (map lexemes) (at_front c.args.lists.now c.loop-list.list-index c.as_slice.result.now (search rules) (search rules)))
    c.in-Ok.ensures.found c.in_ok-push-in-Ok.ensures.ok (search rules)

pub returns-clause-trees : goal.returns-clause-trees
returns-clause-trees c =
    more_ended HasTree HasNoTree (map lexemes c.args.lists.now) c.loop-list.files (1 + c.loop-list.list-index) (map lexemes (drop c.loop-list.list-index c.args.lists.now)) c.loop-list.invariant (ap (map lexemes) (drop_all c.loop-list.list-index c.args.lists.now (search rules)))
