-- One after another.
use Rattle.std.proofs.Common.{List, map, ap, sym, ◌∙◌}
use Rattle.std.specs.List.{list_any}
use Rattle.std.proofs.lemmas.List.{drop_all}
use Rattle.mo_names.proofs.Circling.{left_from}
use Rattle.mo_scope.specs.declared.row.Part.{Part as PartAt}
use Rattle.mo_scope.specs.Sights.{part_seen}
use Rattle.mo_instance.specs.steps.Firsts.{part_is_base}
use Rattle.mo_instance.proofs.Lists.{or_false, or_true}
use Rattle.mo_instance.proofs.profile.has_bases.Goals as goal

pub returns-then-is_base : goal.returns-then-is_base
returns-then-is_base c =
    let G = λ (xs : List PartAt). list_any part_is_base (map part_seen xs) in
    or_true _ _ _ (sym c.is_base.ensures ∙ c.if-is_base.true) (left_from G c.args.parts.now c.loop-part.part-index c.part-item.result _ c.loop-part-test.true c.part-item.is c.loop-part.invariant)

pub loop-part-preserved : goal.loop-part-preserved
loop-part-preserved c =
    let G = λ (xs : List PartAt). list_any part_is_base (map part_seen xs) in
    or_false _ _ _ (sym c.is_base.ensures ∙ c.if-is_base.false) (left_from G c.args.parts.now c.loop-part.part-index c.part-item.result _ c.loop-part-test.true c.part-item.is c.loop-part.invariant)

pub returns : goal.returns
returns c =
    let G = λ (xs : List PartAt). list_any part_is_base (map part_seen xs) in
    ap G (sym (drop_all c.loop-part.part-index c.args.parts.now c.loop-part-test.false)) ∙ c.loop-part.invariant
