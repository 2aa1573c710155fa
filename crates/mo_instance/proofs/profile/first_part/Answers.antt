-- One part after another from the back.
use Rattle.std.proofs.Common.{◌≡◌, ◌-◌, ℕ, List, length, drop, map, ap, sym, ◌∙◌, arith}
use Rattle.std.proofs.lemmas.List.{drop_all}
use Rattle.mo_scope.specs.declared.row.Part.{Part as PartAt}
use Rattle.mo_scope.specs.Sights.{part_seen}
use Rattle.mo_instance.specs.steps.Firsts.{earlier_place, wrong_parts}
use Rattle.mo_instance.proofs.Lists.{back_step}
use Rattle.mo_instance.proofs.profile.first_part.Goals as goal

pub loop-at-init : goal.loop-at-init
loop-at-init c =
    let G = λ (xs : List PartAt). wrong_parts (map part_seen xs) c.args.behind in
    ap G (sym (drop_all (length c.args.parts.now) c.args.parts.now (omega arith)))

pub loop-at-preserved : goal.loop-at-preserved
loop-at-preserved c =
    let G = λ (xs : List PartAt). wrong_parts (map part_seen xs) c.args.behind in
    c.earlier-first.ensures
    ∙ ap (earlier_place c.wrong_part.result) c.loop-at.invariant
    ∙ ap (λ o. earlier_place o (G (drop c.loop-at.at c.args.parts.now))) c.wrong_part.ensures
    ∙ ap G (sym (back_step c.args.parts.now c.loop-at.at c.index-parts-at.result (omega arith) (omega arith) c.index-parts-at.is))

pub returns : goal.returns
returns c =
    let first : c.loop-at.at ≡ 0 = omega arith in
    c.loop-at.invariant ∙ ap (λ (n : ℕ). wrong_parts (map part_seen (drop n c.args.parts.now)) c.args.behind) first
