use Rattle.std.proofs.Common.{◌∙◌, ap, sym, rules, w64}
use Rattle.mo_symdiff.specs.Derivative.{derived}
use Rattle.mo_symdiff.specs.Weights.{capped, literal_row, node_weight, row_weight, weigh}
use Rattle.mo_symdiff.proofs.Weighing.{literal_power_weighs, passed_on}
use mir.Val.{SFits}
use Rattle.mo_symdiff.proofs.sizes.literal_power_weight.Goals as goal

pub returns : goal.returns
returns c vars base h =
    let m = c.args.measure in
    let x = weigh vars m base in
    let y = weigh vars m (derived vars base) in
    let fits : SFits w64 c.args.n = search rules in
    passed_on (λ z. capped (row_weight (literal_row z) (node_weight m) x y)) c.args.n _ fits
    (c.row_weight.ensures x y h.whole_is h.slope_is ∙ ap (λ w. capped (row_weight w (node_weight m) x y)) c.literal_row.ensures)
    ∙ ap capped (sym (literal_power_weighs vars m c.args.n base (derived vars base)))
