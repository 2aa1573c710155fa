use Rattle.std.proofs.Common.{Bool, ◌∙◌, ◌++◌, [], ◌∷◌, sym, refl}
use Rattle.std.specs.Prelude.{if◌then◌else◌}
use Rattle.mo_flat.specs.declared.expr.FlatExpr.{FlatExpr}
use Rattle.mo_symdiff.specs.Derivative.{derived, moving_terms, with_slopes}
use Rattle.mo_symdiff.specs.Still.{is_still}
use Rattle.mo_symdiff.specs.Weights.{weigh}
use Rattle.mo_symdiff.proofs.Weighing.{grown_moving, grown_still, nothing_more, something_more, terms_count, terms_marks, terms_total}
use Rattle.mo_symdiff.proofs.sizes.with_term.Goals as goal

pub returns-then-one : goal.returns-then-one
returns-then-one c vars m parts e h k =
    let x : Bool × FlatExpr = (c.args.minus, e) in
    let stays = sym k.still_is ∙ c.if-one.true in
    grown_still vars m parts (moving_terms vars (with_slopes vars parts)) (moving_terms vars (with_slopes vars (parts ++ x ∷ []))) c.args.minus e (if is_still vars e then 0 else weigh vars m (derived vars e))
    (terms_total vars m parts x) (terms_count vars m parts x) (terms_marks vars m parts x) _ _ _ _ _ h _ _ stays
    (c.add-whole.ensures _ _ h.whole_is k.whole_is) (h.slope_is ∙ nothing_more vars m _ _ (weigh vars m (derived vars e)) stays)

pub returns : goal.returns
returns c vars m parts e h k =
    let x : Bool × FlatExpr = (c.args.minus, e) in
    let moves = sym k.still_is ∙ c.if-one.false in
    grown_moving vars m parts (moving_terms vars (with_slopes vars parts)) (moving_terms vars (with_slopes vars (parts ++ x ∷ []))) c.args.minus e (if is_still vars e then 0 else weigh vars m (derived vars e))
    (terms_total vars m parts x) (terms_count vars m parts x) (terms_marks vars m parts x) _ _ _ _ _ h _ _ _ _ moves c.or.ensures
    (c.add-whole.ensures _ _ h.whole_is k.whole_is) (c.add.ensures _ _ h.slope_is k.slope_is ∙ something_more vars m _ _ _ moves) (c.add-2.ensures _ 1 h.moving_is refl)
