use Rattle.std.proofs.Common.{Bool, ◌∙◌, ◌+◌, ◌*◌, ◌++◌, [], ◌∷◌, length, sym, refl}
use Rattle.mo_flat.specs.declared.expr.FlatExpr.{FlatExpr}
use Rattle.mo_symdiff.specs.Derivative.{product_terms, with_slopes}
use Rattle.mo_symdiff.specs.Weights.{weigh}
use Rattle.mo_symdiff.proofs.Weighing.{factor_moves, factor_stays, factors_count, factors_marks, factors_total, grown_moving, grown_still, last_term}
use Rattle.mo_symdiff.proofs.sizes.with_factor.Goals as goal

pub returns-then-one : goal.returns-then-one
returns-then-one c vars parts e h k =
    let m = c.args.measure in
    let x : Bool × FlatExpr = (c.args.divides, e) in
    let terms = product_terms vars [] (with_slopes vars parts) in
    let stays = sym k.still_is ∙ c.if-one.true in
    grown_still vars m parts terms (product_terms vars [] (with_slopes vars (parts ++ x ∷ []))) c.args.divides e (length terms * weigh vars m e + last_term vars m [] parts x)
    (factors_total vars m [] parts x) (factors_count vars m [] parts x) (factors_marks vars m [] parts x) _ _ _ _ _ h _ _ stays
    (c.add-whole.ensures _ _ h.whole_is k.whole_is) (c.add-slope.ensures _ _ h.slope_is (c.times.ensures _ _ h.moving_is k.whole_is) ∙ factor_stays vars m _ _ _ _ stays)

pub returns : goal.returns
returns c vars parts e h k =
    let m = c.args.measure in
    let x : Bool × FlatExpr = (c.args.divides, e) in
    let terms = product_terms vars [] (with_slopes vars parts) in
    let moves = sym k.still_is ∙ c.if-one.false in
    let slope = c.add-slope.ensures _ _ h.slope_is (c.times.ensures _ _ h.moving_is k.whole_is) in
    grown_moving vars m parts terms (product_terms vars [] (with_slopes vars (parts ++ x ∷ []))) c.args.divides e (length terms * weigh vars m e + last_term vars m [] parts x)
    (factors_total vars m [] parts x) (factors_count vars m [] parts x) (factors_marks vars m [] parts x) _ _ _ _ _ h _ _ _ _ moves c.or.ensures
    (c.add-whole.ensures _ _ h.whole_is k.whole_is) (c.add.ensures _ _ slope (c.term_of_factor-term.ensures _ _ _ h.whole_is k.whole_is k.slope_is) ∙ factor_moves vars m _ _ _ _ _ _ moves) (c.add-2.ensures _ 1 h.moving_is refl)
