-- What is declared wrongly stands among the parts, or among the elements with `redeclare` behind them.
use Rattle.std.proofs.Common.{◌++◌, List, flat_map, map, ap, sym, ◌∙◌}
use Rattle.std.specs.Prelude.{filter}
use Rattle.mo_scope.specs.declared.row.Part.{Part as PartAt}
use Rattle.mo_scope.specs.Parts.{declared_in}
use Rattle.mo_scope.specs.Rows.{elements_in, is_class, replacing_in}
use Rattle.mo_scope.specs.Sights.{part_seen}
use Rattle.mo_instance.specs.steps.Firsts.{wrong_parts}
use Rattle.mo_instance.proofs.Firsts.{none_breaks, parts_first, wrong_breaks}
use Rattle.mo_instance.proofs.profile.parts_in_profile.Goals as goal

pub returns-in-Some : goal.returns-in-Some
returns-in-Some c = λ table.
    let behind = map (declared_in table) (flat_map replacing_in c.args.row.now.replacing.now) in
    let all = filter is_class (elements_in (map part_seen c.args.row.now.parts)) ++ behind in
    rw c.stop.ensures
    (wrong_breaks all c.in-Some.place
    (sym (c.in-Some.ensures
    ∙ ap (λ (xs : List PartAt). wrong_parts (map part_seen xs) c.first_item-behind.result) c.as_slice.ensures
    ∙ ap (wrong_parts (map part_seen c.args.row.now.parts)) (c.first_item-behind.ensures table)
    ∙ parts_first (map part_seen c.args.row.now.parts) behind)))

pub returns-in-None : goal.returns-in-None
returns-in-None c = λ table.
    let behind = map (declared_in table) (flat_map replacing_in c.args.row.now.replacing.now) in
    let all = filter is_class (elements_in (map part_seen c.args.row.now.parts)) ++ behind in
    none_breaks all
    (sym (c.in-None.ensures
    ∙ ap (λ (xs : List PartAt). wrong_parts (map part_seen xs) c.first_item-behind.result) c.as_slice.ensures
    ∙ ap (wrong_parts (map part_seen c.args.row.now.parts)) (c.first_item-behind.ensures table)
    ∙ parts_first (map part_seen c.args.row.now.parts) behind))
