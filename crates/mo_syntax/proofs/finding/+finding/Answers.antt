-- Which rows the parts have.
use Rattle.std.proofs.Common.{◌≡◌, ◌+◌, ◌∷◌, take, drop, ◌∙◌, sym, ap, arith, rules}
use Rattle.std.specs.Option.{option_map}
use Rattle.mo_syntax.specs.declared.class.Body.{the_lemmas as body_lemmas}
use Rattle.mo_syntax.specs.declared.class.Element.{the_lemmas as element_lemmas}
use Rattle.mo_syntax.specs.declared.class.Item.{the_lemmas as item_lemmas}
use Rattle.mo_syntax.specs.Classes.{Under, outline_of_item}
use Rattle.mo_syntax.specs.steps.Parts.{classes_in_item, classes_in_what}
use Rattle.mo_syntax.specs.Rows.{row_of}
use Rattle.mo_syntax.proofs.ClassCounts.{of_Element, of_Class, of_Member}
use Rattle.mo_syntax.proofs.Found.{in_Short, in_Enumeration, in_Der, in_Member, in_Import, in_Extends, in_Equations, in_Algorithm, in_redeclared, in_kept_class, in_kept_component, missed, found, below, goes_on, stops, counted, counts_on, front_of, long_few, long_rows}
use Rattle.mo_syntax.proofs.finding.+finding.Goals as goal

pub in_body-returns-in-Long : goal.in_body-returns-in-Long
in_body-returns-in-Long t c = rw c.in-Long.is (c.in_items.ensures ∙ long_rows c.args.path.now (Under (take c.args.at c.args.path.now)) c.args.first c.of_extending.result c.in-Long.extending c.in-Long.items c.as_slice.result.now
    c.in-Long.external c.as_slice.ensures c.of_extending.ensures (rw c.in-Long.is at c.requires.few))

pub in_body-in_items-requires : goal.in_body-in_items-requires
in_body-in_items-requires t c = (
  search (rules, body_lemmas),
  (
    c.requires.at,
    long_few c.in-Long.extending c.in-Long.items c.as_slice.result.now c.in-Long.external c.args.first c.of_extending.result
        c.as_slice.ensures c.of_extending.ensures (rw c.in-Long.is at c.requires.few),
  ),
)

pub in_element-in_class-requires : goal.in_element-in_class-requires
in_element-in_class-requires t c = (search (rules, element_lemmas), (c.requires.at, omega (arith, of_Element c.args.element.now, ap classes_in_what c.in-Class.is, of_Class c.in-Class.class)))

pub in_item-in_element-requires : goal.in_item-in_element-requires
in_item-in_element-requires t c = (search (rules, item_lemmas), (c.requires.at, omega (arith, ap classes_in_item c.in-Member.is, of_Member c.in-Member.element)))

pub in_body-returns-in-Short : goal.in_body-returns-in-Short
in_body-returns-in-Short t c = rw c.in-Short.is (in_Short c.args.path.now (Under (take c.args.at c.args.path.now)) c.args.first _ _ _ _)

pub in_body-returns-in-Enumeration : goal.in_body-returns-in-Enumeration
in_body-returns-in-Enumeration t c = rw c.in-Enumeration.is (in_Enumeration c.args.path.now (Under (take c.args.at c.args.path.now)) c.args.first _)

pub in_body-returns-in-Der : goal.in_body-returns-in-Der
in_body-returns-in-Der t c = rw c.in-Der.is (in_Der c.args.path.now (Under (take c.args.at c.args.path.now)) c.args.first _ _)

pub in_class-returns-then-not-is_at : goal.in_class-returns-then-not-is_at
in_class-returns-then-not-is_at t c = missed c.args.path.now c.args.at c.args.outermost c.args.class.now c.args.number c.if-not-is_at.ensures.no

pub in_class-returns-then-at-path : goal.in_class-returns-then-at-path
in_class-returns-then-at-path t c = found c.args.path.now c.args.at c.args.outermost c.args.class.now c.args.number c.if-not-is_at.ensures.yes c.if-at-path.true

pub in_class-returns : goal.in_class-returns
in_class-returns t c = c.in_body.ensures ∙ below c.args.path.now c.args.at c.args.outermost c.args.class.now c.args.number c.if-not-is_at.ensures.yes c.if-at-path.false c.requires.at

pub in_element-returns-then-element : goal.in_element-returns-then-element
in_element-returns-then-element t c = in_redeclared c.args.path.now (Under (take c.args.at c.args.path.now)) c.args.first c.args.element.now c.if-element.true

pub in_element-returns-in-Class : goal.in_element-returns-in-Class
in_element-returns-in-Class t c = c.in_class.ensures ∙ in_kept_class c.args.path.now (Under (take c.args.at c.args.path.now)) c.args.first c.args.element.now c.in-Class.class c.if-element.false c.in-Class.is

pub in_element-returns-in-Component : goal.in_element-returns-in-Component
in_element-returns-in-Component t c = in_kept_component c.args.path.now (Under (take c.args.at c.args.path.now)) c.args.first c.args.element.now c.in-Component.field-0 c.if-element.false c.in-Component.is

pub in_item-returns-in-Member : goal.in_item-returns-in-Member
in_item-returns-in-Member t c = rw c.in-Member.is (c.in_element.ensures ∙ sym (in_Member c.args.path.now (Under (take c.args.at c.args.path.now)) c.args.first c.in-Member.element))

pub in_item-returns-in-Import : goal.in_item-returns-in-Import
in_item-returns-in-Import t c = rw c.in-Import.is (in_Import c.args.path.now (Under (take c.args.at c.args.path.now)) c.args.first _)

pub in_item-returns-in-Extends : goal.in_item-returns-in-Extends
in_item-returns-in-Extends t c = rw c.in-Extends.is (in_Extends c.args.path.now (Under (take c.args.at c.args.path.now)) c.args.first _)

pub in_item-returns-in-Equations : goal.in_item-returns-in-Equations
in_item-returns-in-Equations t c = rw c.in-Equations.is (in_Equations c.args.path.now (Under (take c.args.at c.args.path.now)) c.args.first _ _)

pub in_item-returns-in-Algorithm : goal.in_item-returns-in-Algorithm
in_item-returns-in-Algorithm t c = rw c.in-Algorithm.is (in_Algorithm c.args.path.now (Under (take c.args.at c.args.path.now)) c.args.first _ _)

pub in_items-returns-in-Some : goal.in_items-returns-in-Some
in_items-returns-in-Some t c = stops outline_of_item c.args.path.now (Under (take c.args.at c.args.path.now)) (drop c.loop-item.item-index c.args.items.now) (drop (c.loop-item.item-index + 1) c.args.items.now)
    c.item-item.result c.loop-item.next (row_of c.in-Some.found) (front_of c.args.items.now c.loop-item.item-index c.item-item.result c.loop-item-test.true c.item-item.is)
    (ap (option_map row_of) (sym c.in-Some.is) ∙ c.in_item.ensures) ∙ c.loop-item.invariant.left

pub in_items-loop-item-preserved : goal.in_items-loop-item-preserved
in_items-loop-item-preserved t c =
    let front : drop c.loop-item.item-index c.args.items.now ≡ c.item-item.result ∷ drop (c.loop-item.item-index + 1) c.args.items.now
    = front_of c.args.items.now c.loop-item.item-index c.item-item.result c.loop-item-test.true c.item-item.is in
    let exact : c.of_item-next.result ≡ classes_in_item c.item-item.result
    = counted classes_in_item _ _ c.item-item.result c.loop-item.next c.of_item-next.result _ front c.loop-item.invariant.count c.requires.few c.of_item-next.ensures in
    record {
      left = goes_on outline_of_item c.args.path.now (Under (take c.args.at c.args.path.now)) _ _ c.item-item.result c.loop-item.next (c.loop-item.next + c.of_item-next.result) front (ap (λ m. c.loop-item.next + m) exact)
          (ap (option_map row_of) (sym c.in-None.is) ∙ c.in_item.ensures) ∙ c.loop-item.invariant.left;
      count = counts_on classes_in_item _ _ c.item-item.result c.loop-item.next c.of_item-next.result _ front c.loop-item.invariant.count exact;
    }
