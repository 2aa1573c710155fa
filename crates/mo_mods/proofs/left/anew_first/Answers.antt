-- One after another.
use Rattle.std.proofs.Common.{Some, ap, ◌∙◌}
use Rattle.mo_scope.specs.declared.source.ScopeAt.{ScopeAt}
use Rattle.mo_scope.specs.Sights.{declares_seen}
use Rattle.mo_mods.specs.Sights.{left_in, redeclared_in, said_in}
use Rattle.mo_mods.proofs.Grouping.{anew_skipped, anew_found, anew_nowhere}
use Rattle.mo_mods.proofs.left.anew_first.Goals as goal

pub loop-one-preserved : goal.loop-one-preserved
loop-one-preserved c = λ frames.
    anew_skipped frames c.args.said.now c.loop-one.one-index c.one-item.result c.loop-one-test.true c.one-item.is (left_in frames c.in-GoesOn.field-0) _
    (ap (said_in frames) c.in-GoesOn.is) (c.loop-one.invariant frames)

pub returns-in-Anew : goal.returns-in-Anew
returns-in-Anew c = λ frames.
    ap (λ (scope : ScopeAt). Some (redeclared_in frames (record { declares = c.in-Anew.declares; scope = scope }))) c.in_ok-scope-in-Anew.ensures
    ∙ anew_found frames c.args.said.now c.loop-one.one-index c.one-item.result c.loop-one-test.true c.one-item.is (declares_seen c.in-Anew.declares) (left_in frames c.in-Anew.left) _
    (ap (said_in frames) c.in-Anew.is) (c.loop-one.invariant frames)

pub returns : goal.returns
returns c = λ frames. anew_nowhere frames c.args.said.now c.loop-one.one-index _ c.loop-one-test.false (c.loop-one.invariant frames)
