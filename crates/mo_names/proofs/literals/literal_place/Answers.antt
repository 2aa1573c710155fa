-- One literal further.
use Rattle.std.proofs.Common.{true, false, ap, ◌∙◌, ◌≡◌, ◌+◌, ℕ, drop}
use Rattle.std.specs.List.{position_from}
use Rattle.std.specs.Str.{bytes_eq}
use Rattle.mo_names.proofs.Reading.{text_test, place_here, place_further}
use Rattle.mo_names.proofs.literals.literal_place.Goals as goal

pub returns-then-equals : goal.returns-then-equals
returns-then-equals c = place_here c.args.literals.now c.args.name.now c.loop-literal.literal-index c.loop-literal.place c.literal-item.result _ c.loop-literal-test.true c.literal-item.is c.loop-literal.invariant
    (text_test c.literal-item.result c.args.name.now true c.if-equals.ensures)

pub loop-literal-preserved : goal.loop-literal-preserved
loop-literal-preserved c =
    let next : c.in-Some.next ≡ c.loop-literal.place + 1 = c.in-Some.ensures.1 in
    ap (λ (p : ℕ). position_from (λ word. bytes_eq word c.args.name.now) p (drop (c.loop-literal.literal-index + 1) c.args.literals.now)) next
    ∙ place_further c.args.literals.now c.args.name.now c.loop-literal.literal-index c.loop-literal.place c.literal-item.result _ c.loop-literal-test.true c.literal-item.is c.loop-literal.invariant
    (text_test c.literal-item.result c.args.name.now false c.if-equals.ensures)
