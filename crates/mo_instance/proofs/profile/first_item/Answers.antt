-- One item after another from the back.
use Rattle.std.proofs.Common.{◌≡◌, ◌-◌, ℕ, flat_map, length, drop, ap, sym, ◌∙◌, arith}
use Rattle.std.proofs.lemmas.List.{drop_all}
use Rattle.mo_scope.specs.Rows.{replacing_in}
use Rattle.mo_instance.specs.steps.Firsts.{earlier_place, wrong_items}
use Rattle.mo_instance.proofs.Lists.{back_step}
use Rattle.mo_instance.proofs.profile.first_item.Goals as goal

pub loop-at-init : goal.loop-at-init
loop-at-init c = λ table. ap (wrong_items table) (sym (drop_all (length c.args.items.now) c.args.items.now (omega arith)))

pub loop-at-preserved : goal.loop-at-preserved
loop-at-preserved c = λ table.
    c.earlier-first.ensures
    ∙ ap (earlier_place c.wrong_item.result) (c.loop-at.invariant table)
    ∙ sym (c.wrong_item.ensures table (flat_map replacing_in (drop c.loop-at.at c.args.items.now)))
    ∙ ap (wrong_items table) (sym (back_step c.args.items.now c.loop-at.at c.index-items-at.result (omega arith) (omega arith) c.index-items-at.is))

pub returns : goal.returns
returns c = λ table.
    let first : c.loop-at.at ≡ 0 = omega arith in
    c.loop-at.invariant table ∙ ap (λ (n : ℕ). wrong_items table (drop n c.args.items.now)) first
