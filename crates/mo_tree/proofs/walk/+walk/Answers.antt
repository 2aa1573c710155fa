-- What is listed of each part.
use Rattle.mo_syntax.specs.Classes.{Apart, outline_of_element}
use Rattle.mo_syntax.specs.steps.Parts.{outline_of_class}
use Rattle.mo_syntax.proofs.Outlines.{at_Short, at_Enumeration, at_Der, at_Modify, at_Redeclare, at_Replaceable, at_Import, at_Extends, at_Member, at_Equations, at_Algorithm, at_Class}
use Rattle.std.proofs.Common.{false}
use Rattle.mo_tree.specs.Keys.{home_of}
use Rattle.mo_tree.proofs.Listing.{lists_nothing, in_long, in_mods, in_same, in_component, in_limited, unlimited}
use Rattle.mo_tree.proofs.walk.+walk.Goals as goal

pub of_body-returns-in_ok-next-in-Long : goal.of_body-returns-in_ok-next-in-Long
of_body-returns-in_ok-next-in-Long t c = rw c.in-Long.is (in_long c.of_items.result c.in-Long.extending c.in-Long.items c.as_slice.result.now c.in-Long.external (home_of c.args.scope.now) c.args.first
    c.in_ok-next-in-Long.next c.args.names.now c.of_extending.new.names c.of_items.new.names c.as_slice.ensures c.in_ok-next-in-Long.ensures c.of_items.ensures)

pub of_body-returns-in-Short : goal.of_body-returns-in-Short
of_body-returns-in-Short t c = rw c.in-Short.is (in_mods c.of_arguments.result _ c.in-Short.mods c.as_slice-in-Short.result.now (home_of c.args.scope.now) c.args.first c.args.names.now c.of_arguments.new.names
    c.as_slice-in-Short.ensures (at_Short c.in-Short.causal c.in-Short.base c.in-Short.subs c.in-Short.mods) c.of_arguments.ensures)

pub of_body-returns-in-Enumeration : goal.of_body-returns-in-Enumeration
of_body-returns-in-Enumeration t c = rw c.in-Enumeration.is (lists_nothing _ (home_of c.args.scope.now) c.args.first c.args.names.now (at_Enumeration c.in-Enumeration.field-0))

pub of_body-returns-in-Der : goal.of_body-returns-in-Der
of_body-returns-in-Der t c = rw c.in-Der.is (lists_nothing _ (home_of c.args.scope.now) c.args.first c.args.names.now (at_Der c.in-Der.field-0 c.in-Der.field-1))

pub of_element-returns-in-Some : goal.of_element-returns-in-Some
of_element-returns-in-Some t c = in_limited c.of_arguments.result c.args.element.now c.in-Some.field-0-0 c.in-Some.mods c.as_slice.result.now (home_of c.args.scope.now) c.args.first c.in_ok-next.next
    c.args.names.now c.of_declared.new.names c.of_arguments.new.names c.as_slice.ensures c.in-Some.is c.in_ok-next.ensures c.of_arguments.ensures

pub of_element-returns-in-None : goal.of_element-returns-in-None
of_element-returns-in-None t c = unlimited c.args.element.now (home_of c.args.scope.now) c.args.first c.in_ok-next.next c.args.names.now c.of_declared.new.names c.in-None.is c.in_ok-next.ensures

pub of_give-returns-in-Modify : goal.of_give-returns-in-Modify
of_give-returns-in-Modify t c = rw c.in-Modify.is (in_mods c.of_arguments.result _ c.in-Modify.mods c.as_slice.result.now Apart c.args.first c.args.names.now c.of_arguments.new.names
    c.as_slice.ensures (at_Modify c.in-Modify.mods c.in-Modify.field-1) c.of_arguments.ensures)

pub of_give-returns-in-Redeclare : goal.of_give-returns-in-Redeclare
of_give-returns-in-Redeclare t c = rw c.in-Redeclare.is (in_same c.of_element.result _ (outline_of_element c.in-Redeclare.element) Apart c.args.first c.args.names.now c.of_element.new.names (at_Redeclare c.in-Redeclare.element) c.of_element.ensures)

pub of_give-returns-in-Replaceable : goal.of_give-returns-in-Replaceable
of_give-returns-in-Replaceable t c = rw c.in-Replaceable.is (in_same c.of_element-in-Replaceable.result _ (outline_of_element c.in-Replaceable.element) Apart c.args.first c.args.names.now c.of_element-in-Replaceable.new.names
    (at_Replaceable c.in-Replaceable.element) c.of_element-in-Replaceable.ensures)

pub of_item-returns-in-Member : goal.of_item-returns-in-Member
of_item-returns-in-Member t c = rw c.in-Member.is (in_same c.of_element.result _ (outline_of_element c.in-Member.element) (home_of c.args.scope.now) c.args.first c.args.names.now c.of_element.new.names (at_Member c.in-Member.element) c.of_element.ensures)

pub of_item-returns-in-Extends : goal.of_item-returns-in-Extends
of_item-returns-in-Extends t c = rw c.in-Extends.is (in_mods c.of_arguments.result _ c.in-Extends.clause.mods c.as_slice.result.now (home_of c.args.scope.now) c.args.first c.args.names.now c.of_arguments.new.names
    c.as_slice.ensures (at_Extends c.in-Extends.clause) c.of_arguments.ensures)

pub of_item-returns-in-Import : goal.of_item-returns-in-Import
of_item-returns-in-Import t c = rw c.in-Import.is (lists_nothing _ (home_of c.args.scope.now) c.args.first c.args.names.now (at_Import c.in-Import.field-0))

pub of_item-returns-in-Equations : goal.of_item-returns-in-Equations
of_item-returns-in-Equations t c = rw c.in-Equations.is (lists_nothing _ (home_of c.args.scope.now) c.args.first c.args.names.now (at_Equations c.in-Equations.field-0 c.in-Equations.field-1))

pub of_item-returns-in-Algorithm : goal.of_item-returns-in-Algorithm
of_item-returns-in-Algorithm t c = rw c.in-Algorithm.is (lists_nothing _ (home_of c.args.scope.now) c.args.first c.args.names.now (at_Algorithm c.in-Algorithm.field-0 c.in-Algorithm.field-1))

pub of_what-returns-in-Class : goal.of_what-returns-in-Class
of_what-returns-in-Class t c = rw c.in-Class.is (in_same c.of_class.result _ (outline_of_class false c.in-Class.class) (home_of c.args.scope.now) c.args.first c.args.names.now c.of_class.new.names (at_Class c.in-Class.class) c.of_class.ensures)

pub of_what-returns-in_ok-push-in-Component : goal.of_what-returns-in_ok-push-in-Component
of_what-returns-in_ok-push-in-Component t c = rw c.in-Component.is (in_component c.of_arguments.result c.in-Component.component c.as_slice.result.now (home_of c.args.scope.now) c.args.first c.args.names.now
    c.push.new.self c.of_arguments.new.names c.in_ok-key-in-Component.key c.as_slice.ensures c.in_ok-key-in-Component.ensures c.in_ok-push-in-Component.ensures.ok c.of_arguments.ensures)
