-- One after another.
use Rattle.std.proofs.Common.{List, ap, sym, ◌∙◌}
use Rattle.std.specs.List.{list_any}
use Rattle.std.proofs.lemmas.List.{drop_all}
use Rattle.mo_names.proofs.Circling.{left_from}
use Rattle.mo_names.specs.declared.walk.Inherited.{Inherited as InheritedAt}
use Rattle.mo_instance.specs.steps.Walks.{inherits_name}
use Rattle.mo_instance.proofs.Lists.{or_false, or_true}
use Rattle.mo_instance.proofs.first_pass.is_inherited.Goals as goal

pub returns-then-is_inherited_as : goal.returns-then-is_inherited_as
returns-then-is_inherited_as c =
    let G = λ (xs : List InheritedAt). list_any (inherits_name c.args.name.now) xs in
    or_true _ _ _ (sym c.is_inherited_as.ensures ∙ c.if-is_inherited_as.true) (left_from G c.args.members.now c.loop-inherited.inherited-index c.inherited-item.result _ c.loop-inherited-test.true c.inherited-item.is c.loop-inherited.invariant)

pub loop-inherited-preserved : goal.loop-inherited-preserved
loop-inherited-preserved c =
    let G = λ (xs : List InheritedAt). list_any (inherits_name c.args.name.now) xs in
    or_false _ _ _ (sym c.is_inherited_as.ensures ∙ c.if-is_inherited_as.false) (left_from G c.args.members.now c.loop-inherited.inherited-index c.inherited-item.result _ c.loop-inherited-test.true c.inherited-item.is c.loop-inherited.invariant)

pub returns : goal.returns
returns c =
    let G = λ (xs : List InheritedAt). list_any (inherits_name c.args.name.now) xs in
    ap G (sym (drop_all c.loop-inherited.inherited-index c.args.members.now c.loop-inherited-test.false)) ∙ c.loop-inherited.invariant
