-- One part further, and after the last.
use Rattle.std.proofs.Common.{map}
use Rattle.mo_scope.specs.OwnNames.{own_held, own_place}
use Rattle.mo_scope.specs.Sights.{part_seen}
use Rattle.mo_scope.proofs.OwnNaming.{all_added, part_added}
use Rattle.mo_scope.proofs.own_names.named.Goals as goal

pub loop-at-preserved : goal.loop-at-preserved
loop-at-preserved c = λ name.
    part_added c.args.parts.now name c.loop-at.at c.loop-at.item c.in_ok-item.item _ (own_held c.loop-at.names name) (own_held c.add.new.self name) (own_place name 0 0 (map part_seen c.args.parts.now)) c.loop-at-test.true c.index-parts-at.is
    (c.in_ok-item.ensures name) (c.loop-at.invariant name)

pub returns : goal.returns
returns c = λ name. all_added c.args.parts.now name c.loop-at.at c.loop-at.item (own_held c.loop-at.names name) (own_place name 0 0 (map part_seen c.args.parts.now)) c.loop-at-test.false (c.loop-at.invariant name)
