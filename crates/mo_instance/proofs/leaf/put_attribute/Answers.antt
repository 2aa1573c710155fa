-- The attribute is put, if a value is given.
use Rattle.std.proofs.Common.{ℕ, [], ◌∷◌, ◌++◌, Option, ap, map, subst, sym, ◌∙◌}
use Rattle.std.specs.Prelude.{option_map, IfSome}
use Rattle.std.proofs.lemmas.List.{map-append}
use Rattle.std.proofs.lemmas.Result.{on_ok_weaker}
use Rattle.mo_flat.specs.Text.{attribute_name}
use Rattle.mo_scope.specs.declared.instance.Chosen.{Chosen as ChosenAt}
use Rattle.mo_scope.specs.Instances.{Chosen}
use Rattle.mo_scope.specs.Trees.{IsChosen, attribute_in, chosen_in}
use Rattle.mo_scope.proofs.Sayings.{nothing_more}
use Rattle.mo_instance.specs.Attributes.{attribute_as}
use Rattle.mo_instance.proofs.Choosing.{chosen_exists}
use Rattle.mo_instance.proofs.Lists.{every_more}
use Rattle.mo_instance.proofs.leaf.put_attribute.Goals as goal

pub returns-in-Some-clause-are : goal.returns-in-Some-clause-are
returns-in-Some-clause-are c =
    on_ok_weaker c.push.result
    (λ is frames.
    ap (map (attribute_in frames)) is ∙ map-append (attribute_in frames) c.args.made.now ((c.args.attribute, c.in-Some.chosen) ∷ [])
    ∙ ap (λ (o : Option Chosen). map (attribute_in frames) c.args.made.now ++ attribute_as c.args.attribute o)
    (ap (option_map (chosen_in frames)) (sym c.in-Some.is) ∙ c.in_ok-found.ensures frames))
    c.push.ensures.ok

pub returns-in-Some-clause-exist : goal.returns-in-Some-clause-exist
returns-in-Some-clause-exist c =
    on_ok_weaker c.push.result
    (λ is world exist before.
    every_more (λ (one : ℕ × ChosenAt). IsChosen world one.1) c.args.made.now c.push.new.self (c.args.attribute, c.in-Some.chosen) is before
    (subst (λ (o : Option ChosenAt). IfSome o (IsChosen world)) c.in-Some.is
    (chosen_exists world c.args.env.now (attribute_name c.args.attribute ∷ []) c.in_ok-found.found c.in_ok-found.ensures exist)))
    c.push.ensures.ok

pub returns-in-None-clause-are : goal.returns-in-None-clause-are
returns-in-None-clause-are c = λ frames.
    nothing_more _ _ (ap (attribute_as c.args.attribute) (sym (c.in_ok-found.ensures frames) ∙ ap (option_map (chosen_in frames)) c.in-None.is))

pub returns-in-None-clause-exist : goal.returns-in-None-clause-exist
returns-in-None-clause-exist c = λ world exist before. before
