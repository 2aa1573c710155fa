-- One redeclaration after another.
use Rattle.std.proofs.Common.{◌≡◌, ◌+◌, Bool, true, false, List, [], drop, map, refl, ap, sym, ◌∙◌}
use Rattle.std.proofs.lemmas.List.{drop_all}
use Rattle.mo_scope.specs.declared.saying.Redeclaration.{Redeclaration as RedeclarationAt}
use Rattle.mo_scope.specs.Sights.{redeclaration_in}
use Rattle.mo_redeclare.specs.steps.Comparing.{kept_behind}
use Rattle.mo_redeclare.proofs.Kept.{ended, kept_on, left}
use Rattle.mo_redeclare.proofs.replaceable.is_kept_behind.Goals as goal

pub returns-then-is_ended : goal.returns-then-is_ended
returns-then-is_ended c = λ frames.
    ended c.loop-redeclaration.behind _ c.args.place _ _ refl (sym c.is_ended.ensures ∙ c.if-is_ended.true)
    ∙ left frames c.loop-redeclaration.behind c.args.place c.args.redeclarations.now c.loop-redeclaration.redeclaration-index c.redeclaration-item.result c.loop-redeclaration-test.true c.redeclaration-item.is
    ∙ c.loop-redeclaration.invariant frames

pub loop-redeclaration-preserved : goal.loop-redeclaration-preserved
loop-redeclaration-preserved c = λ frames.
    ap (λ (b : Bool). kept_behind b c.args.place (map (redeclaration_in frames) (drop (c.loop-redeclaration.redeclaration-index + 1) c.args.redeclarations.now))) c.is_behind-behind.ensures
    ∙ kept_on c.loop-redeclaration.behind _ c.args.place _ _ refl (sym c.is_ended.ensures ∙ c.if-is_ended.false)
    ∙ left frames c.loop-redeclaration.behind c.args.place c.args.redeclarations.now c.loop-redeclaration.redeclaration-index c.redeclaration-item.result c.loop-redeclaration-test.true c.redeclaration-item.is
    ∙ c.loop-redeclaration.invariant frames

pub returns : goal.returns
returns c = λ frames.
    returns_by c.loop-redeclaration.behind
    (ap (λ (xs : List RedeclarationAt). kept_behind c.loop-redeclaration.behind c.args.place (map (redeclaration_in frames) xs)) (sym (drop_all c.loop-redeclaration.redeclaration-index c.args.redeclarations.now c.loop-redeclaration-test.false))
    ∙ c.loop-redeclaration.invariant frames)
  where
    returns_by : (b : Bool) {all : Bool} → kept_behind b c.args.place [] ≡ all → true ≡ all
    returns_by true is = is
    returns_by false is = is
