-- One item after another.
use Rattle.std.proofs.Common.{◌+◌, ◌++◌, List, Some, flat_map, drop, ap, sym, ◌∙◌}
use Rattle.std.proofs.lemmas.List.{drop_all}
use Rattle.mo_syntax.specs.declared.class.Element.{Element}
use Rattle.mo_syntax.specs.declared.class.Item.{Item}
use Rattle.mo_syntax.specs.declared.place.Place.{Place}
use Rattle.mo_scope.specs.Rows.{replacing_in}
use Rattle.mo_names.proofs.Circling.{left_from}
use Rattle.mo_instance.specs.steps.Firsts.{first_replaced}
use Rattle.mo_instance.proofs.profile.first_replacing.Goals as goal

pub returns-in-Some : goal.returns-in-Some
returns-in-Some c = λ table.
    let G = λ (xs : List Item). first_replaced table (flat_map replacing_in xs) in
    let behind = flat_map replacing_in (drop (c.loop-item.item-index + 1) c.args.items.now) in
    ap (λ (place : Place). Some place) (c.name_place.ensures table)
    ∙ ap (λ (xs : List Element). first_replaced table (xs ++ behind)) c.in-Some.ensures
    ∙ left_from G c.args.items.now c.loop-item.item-index c.item-item.result _ c.loop-item-test.true c.item-item.is (c.loop-item.invariant table)

pub loop-item-preserved : goal.loop-item-preserved
loop-item-preserved c = λ table.
    let G = λ (xs : List Item). first_replaced table (flat_map replacing_in xs) in
    let behind = flat_map replacing_in (drop (c.loop-item.item-index + 1) c.args.items.now) in
    ap (λ (xs : List Element). first_replaced table (xs ++ behind)) c.in-None.ensures
    ∙ left_from G c.args.items.now c.loop-item.item-index c.item-item.result _ c.loop-item-test.true c.item-item.is (c.loop-item.invariant table)

pub returns : goal.returns
returns c = λ table.
    let G = λ (xs : List Item). first_replaced table (flat_map replacing_in xs) in
    ap G (sym (drop_all c.loop-item.item-index c.args.items.now c.loop-item-test.false)) ∙ c.loop-item.invariant table
