use Rattle.std.proofs.Common.{◌<◌, ◌∷◌, ◌++◌, [], ap, ◌∙◌, sym, List, ℕ, length, arith}
use Rattle.mo_select.proofs.Rows.{entries_at, put_same, put_other}
use Rattle.mo_select.proofs.ties.put.Goals as goal

pub returns-clause-more : goal.returns-clause-more
returns-clause-more c =
    let l : c.args.t < length c.args.rows.now.items = omega arith in
    let old = entries_at c.args.rows.now.items c.args.t c.index_mut.result.now l c.index_mut.ensures.value in
    put_same c.args.rows.now.items c.args.t c.push.new.self l ∙ c.in_ok-push.ensures.items ∙ ap (λ (z : List (ℕ × ℕ)). z ++ (c.args.number, 0) ∷ []) (sym old)

pub returns-clause-others : goal.returns-clause-others
returns-clause-others c = λ k ne. put_other c.args.rows.now.items c.args.t k c.push.new.self ne
