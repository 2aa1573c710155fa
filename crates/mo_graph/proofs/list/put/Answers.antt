use Rattle.std.proofs.Common.{◌<◌, ◌∷◌, ◌++◌, [], ap, ◌∙◌, sym, List, ℕ, length, arith}
use Rattle.mo_graph.proofs.Lists.{numbers_at, put_same, put_other}
use Rattle.mo_graph.proofs.list.put.Goals as goal

pub returns-clause-more : goal.returns-clause-more
returns-clause-more c =
    let l : c.args.b < length c.args.lists.now.items = omega arith in
    let old = numbers_at c.args.lists.now.items c.args.b c.index_mut.result.now l c.index_mut.ensures.value in
    put_same c.args.lists.now.items c.args.b c.push.new.self l ∙ c.in_ok-push.ensures.items ∙ ap (λ (z : List ℕ). z ++ c.args.number ∷ []) (sym old)

pub returns-clause-others : goal.returns-clause-others
returns-clause-others c = λ k ne. put_other c.args.lists.now.items c.args.b k c.push.new.self ne
