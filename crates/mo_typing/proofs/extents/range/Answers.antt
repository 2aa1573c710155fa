use Rattle.std.proofs.Common.{◌≡◌, [], ◌∷◌, ap, sym, rules, ◌∙◌, w64, of_z}
use Rattle.std.proofs.lemmas.Int.{to_z-of_z}
use mir.Val.{SFits}
use Rattle.mo_typing.proofs.Ranges.{empty_range, long_range}
use Rattle.mo_typing.proofs.extents.range.Goals as goal

pub returns-then-is_past : goal.returns-then-is_past
returns-then-is_past c =
    let first : SFits w64 c.args.first = search rules in
    let step : SFits w64 c.args.step = search rules in
    let last : SFits w64 c.args.last = search rules in
    let e : c.in_ok-list_of_one.field-0 ≡ 0 ∷ [] = search rules in
    let past = simp to_z-of_z at (sym c.is_past.ensures ∙ c.if-is_past.true) in
    rw e (sym (empty_range c.args.place c.args.first c.args.step c.args.last (λ z. c.if-step-eq0.false (ap (of_z w64) z)) past))

pub returns-then-steps-ge4294967295 : goal.returns-then-steps-ge4294967295
returns-then-steps-ge4294967295 c =
    let first : SFits w64 c.args.first = search rules in
    let step : SFits w64 c.args.step = search rules in
    let last : SFits w64 c.args.last = search rules in
    let past = simp to_z-of_z at (sym c.is_past.ensures ∙ c.if-is_past.false) in
    let many = simp to_z-of_z at (rw (c.abs_diff.ensures, c.unsigned_abs.ensures.value) at c.if-steps-ge4294967295.true) in
    rw c.broken-then-steps-ge4294967295.ensures (sym (long_range c.args.place c.args.first c.args.step c.args.last (λ z. c.if-step-eq0.false (ap (of_z w64) z)) past many))
