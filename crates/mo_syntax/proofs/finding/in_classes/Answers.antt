-- The rows of a list of classes.
use Rattle.std.proofs.Common.{◌≡◌, ◌+◌, ◌∷◌, take, drop, true, ◌∙◌, sym, ap}
use Rattle.std.specs.Option.{option_map}
use Rattle.mo_syntax.specs.Classes.{Under}
use Rattle.mo_syntax.specs.steps.Parts.{outline_of_class, classes_in_class}
use Rattle.mo_syntax.specs.Rows.{row_of}
use Rattle.mo_syntax.proofs.Found.{goes_on, stops, counted, counts_on, front_of}
use Rattle.mo_syntax.proofs.finding.in_classes.Goals as goal

pub returns-in-Some : goal.returns-in-Some
returns-in-Some c = stops (outline_of_class true) c.args.path.now (Under (take c.args.at c.args.path.now)) (drop c.loop-class.class-index c.args.classes.now) (drop (c.loop-class.class-index + 1) c.args.classes.now)
    c.class-item.result c.loop-class.next (row_of c.in-Some.found) (front_of c.args.classes.now c.loop-class.class-index c.class-item.result c.loop-class-test.true c.class-item.is)
    (ap (option_map row_of) (sym c.in-Some.is) ∙ c.in_class.ensures) ∙ c.loop-class.invariant.left

pub loop-class-preserved : goal.loop-class-preserved
loop-class-preserved c =
    let front : drop c.loop-class.class-index c.args.classes.now ≡ c.class-item.result ∷ drop (c.loop-class.class-index + 1) c.args.classes.now
    = front_of c.args.classes.now c.loop-class.class-index c.class-item.result c.loop-class-test.true c.class-item.is in
    let exact : c.of_class-next.result ≡ classes_in_class c.class-item.result
    = counted classes_in_class _ _ c.class-item.result c.loop-class.next c.of_class-next.result _ front c.loop-class.invariant.count c.requires.few c.of_class-next.ensures in
    record {
      left = goes_on (outline_of_class true) c.args.path.now (Under (take c.args.at c.args.path.now)) _ _ c.class-item.result c.loop-class.next (c.loop-class.next + c.of_class-next.result) front (ap (λ m. c.loop-class.next + m) exact)
          (ap (option_map row_of) (sym c.in-None.is) ∙ c.in_class.ensures) ∙ c.loop-class.invariant.left;
      count = counts_on classes_in_class _ _ c.class-item.result c.loop-class.next c.of_class-next.result _ front c.loop-class.invariant.count exact;
    }
