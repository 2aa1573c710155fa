-- Nothing is left.
use Rattle.std.proofs.Common.{List, map, ap, sym, ◌∙◌}
use Rattle.std.proofs.lemmas.List.{nil_from_length}
use Rattle.std.specs.Vec.Iter.{into_iter_items}
use Rattle.mo_scope.specs.declared.saying.Saying.{Saying as SayingAt}
use Rattle.mo_scope.specs.Parts.{redeclarations_in}
use Rattle.mo_scope.specs.Sights.{redeclaration_in, saying_in}
use Rattle.mo_scope.proofs.Sayings.{taken_all}
use Rattle.mo_scope.proofs.sources.redeclarations_among.Goals as goal

pub returns : goal.returns
returns c = λ frames.
    let says = λ (xs : List SayingAt). redeclarations_in (map (saying_in frames) xs) in
    taken_all (map (redeclaration_in frames) c.loop-saying.made) (says (into_iter_items c.loop-saying.saying-iterator)) _
    (ap says (nil_from_length (into_iter_items c.loop-saying.saying-iterator) (sym c.loop-saying.invariant.counted ∙ c.in-None.ensures.steps.0)))
    (c.loop-saying.invariant.left frames)
    ∙ ap says (c.into_iter-saying-iterator.ensures.into_iter_gives.0 ∙ c.into_vec-saying-items.ensures)
