-- One after another.
use Rattle.std.proofs.Common.{List, map, ap, sym, ◌∙◌}
use Rattle.std.specs.List.{list_any}
use Rattle.std.proofs.lemmas.List.{drop_all}
use Rattle.mo_names.proofs.Circling.{left_from}
use Rattle.mo_instance.specs.declared.spoken.Spoken.{Spoken as SpokenAt}
use Rattle.mo_instance.specs.steps.Outer.{speaks_for}
use Rattle.mo_instance.specs.steps.Speeches.{speech_seen}
use Rattle.mo_instance.proofs.Lists.{or_false, or_true}
use Rattle.mo_instance.proofs.outer.is_given_for.Goals as goal

pub returns-then-gives_for : goal.returns-then-gives_for
returns-then-gives_for c =
    let G = λ (xs : List SpokenAt). list_any (speaks_for c.args.name.now) (map speech_seen xs) in
    or_true _ _ _ (sym c.gives_for.ensures ∙ c.if-gives_for.true) (left_from G c.args.spoken.now c.loop-one.one-index c.one-item.result _ c.loop-one-test.true c.one-item.is c.loop-one.invariant)

pub loop-one-preserved : goal.loop-one-preserved
loop-one-preserved c =
    let G = λ (xs : List SpokenAt). list_any (speaks_for c.args.name.now) (map speech_seen xs) in
    or_false _ _ _ (sym c.gives_for.ensures ∙ c.if-gives_for.false) (left_from G c.args.spoken.now c.loop-one.one-index c.one-item.result _ c.loop-one-test.true c.one-item.is c.loop-one.invariant)

pub returns : goal.returns
returns c =
    let G = λ (xs : List SpokenAt). list_any (speaks_for c.args.name.now) (map speech_seen xs) in
    ap G (sym (drop_all c.loop-one.one-index c.args.spoken.now c.loop-one-test.false)) ∙ c.loop-one.invariant
