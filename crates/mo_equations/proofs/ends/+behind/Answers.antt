-- Name by name.
use Rattle.std.proofs.Common.{◌-◌, length, drop, take, sym, ◌∙◌, arith}
use Rattle.mo_equations.proofs.Behind.{all_behind, none_behind, other_first, same_first}
use Rattle.mo_equations.proofs.Lists.{empty_list, opened}
use Rattle.mo_equations.proofs.ends.+behind.Goals as goal

pub returns-in-empty : goal.returns-in-empty
returns-in-empty t c = all_behind c.args.path.now c.args.other.now (empty_list c.args.path.now (omega (arith, c.in-empty.len_below)))

pub returns-in-empty-other : goal.returns-in-empty-other
returns-in-empty-other t c =
    let path = c.args.path.now in
    none_behind path c.args.other.now (take (length path - 1) (drop 1 path)) c.step-item.result (opened path c.step-item.result c.in-len1-up.len_at_least c.step-item.is)
    (empty_list c.args.other.now (omega (arith, c.in-empty-other.len_below)))

pub returns-then-same_step : goal.returns-then-same_step
returns-then-same_step t c =
    let path = c.args.path.now in
    let other = c.args.other.now in
    c.behind.ensures
    ∙ same_first path other (take (length path - 1) (drop 1 path)) c.step-item.result (opened path c.step-item.result c.in-len1-up.len_at_least c.step-item.is)
    (take (length other - 1) (drop 1 other)) c.first-item.result (opened other c.first-item.result c.in-len1-up-other.len_at_least c.first-item.is)
    (sym c.same_step.ensures ∙ c.if-same_step.true)

pub returns-else-same_step : goal.returns-else-same_step
returns-else-same_step t c =
    let path = c.args.path.now in
    let other = c.args.other.now in
    other_first path other (take (length path - 1) (drop 1 path)) c.step-item.result (opened path c.step-item.result c.in-len1-up.len_at_least c.step-item.is)
    (take (length other - 1) (drop 1 other)) c.first-item.result (opened other c.first-item.result c.in-len1-up-other.len_at_least c.first-item.is)
    (sym c.same_step.ensures ∙ c.if-same_step.false)
