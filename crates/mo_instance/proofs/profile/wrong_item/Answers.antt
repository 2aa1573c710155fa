-- An element with `redeclare` in front of the others.
use Rattle.std.proofs.Common.{◌++◌, List, map, ap, sym, ◌∙◌}
use Rattle.mo_syntax.specs.declared.class.Element.{Element}
use Rattle.mo_scope.specs.Parts.{declared_in}
use Rattle.mo_instance.specs.steps.Firsts.{earlier_place, first_wrong}
use Rattle.mo_instance.proofs.Firsts.{first_step}
use Rattle.mo_instance.proofs.profile.wrong_item.Goals as goal

pub returns-in-Some : goal.returns-in-Some
returns-in-Some c = λ table others.
    ap (λ (xs : List Element). first_wrong (map (declared_in table) (xs ++ others))) (sym c.in-Some.ensures)
    ∙ first_step (declared_in table c.in-Some.element.now) (map (declared_in table) others)
    ∙ ap (λ o. earlier_place o (first_wrong (map (declared_in table) others))) (sym (c.wrong_element.ensures table))

pub returns-in-None : goal.returns-in-None
returns-in-None c = λ table others. ap (λ (xs : List Element). first_wrong (map (declared_in table) (xs ++ others))) (sym c.in-None.ensures)
