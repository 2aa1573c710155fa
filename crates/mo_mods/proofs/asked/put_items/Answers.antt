-- One item after another.
use Rattle.std.proofs.Common.{◌++◌, map, ap, ◌∙◌}
use Rattle.mo_syntax.specs.declared.class.Element.{Element}
use Rattle.mo_syntax.specs.declared.class.Item.{Item}
use Rattle.mo_scope.specs.Arguments.{asked_element}
use Rattle.mo_scope.specs.Parts.{declared_in}
use Rattle.mo_scope.specs.Rows.{replacing_in}
use Rattle.mo_scope.specs.Sights.{source_seen}
use Rattle.mo_scope.specs.Worlds.{source_in, table_in}
use Rattle.mo_mods.specs.PathSights.{asked_seen}
use Rattle.mo_scope.proofs.Sayings.{gathered_more, gathered_all}
use Rattle.mo_mods.proofs.Claims.{map_flat}
use Rattle.mo_mods.proofs.asked.put_items.Goals as goal

pub loop-item-preserved : goal.loop-item-preserved
loop-item-preserved c = λ frames.
    gathered_more (λ (item : Item). map (λ (element : Element). asked_element (source_in frames (source_seen c.args.source.now)) (declared_in (table_in c.args.scopes.now) element)) (replacing_in item))
    (map asked_seen c.args.made.now) (map asked_seen c.loop-item.made) (map asked_seen c.put_item.new.made)
    c.args.items.now c.loop-item.item-index c.item-item.result c.loop-item-test.true c.item-item.is (c.loop-item.invariant frames) (c.in_ok-put_item.ensures frames)

pub returns : goal.returns
returns c = λ frames.
    let asks = λ (element : Element). asked_element (source_in frames (source_seen c.args.source.now)) (declared_in (table_in c.args.scopes.now) element) in
    gathered_all (λ (item : Item). map asks (replacing_in item)) (map asked_seen c.args.made.now) (map asked_seen c.loop-item.made)
    c.args.items.now c.loop-item.item-index c.loop-item-test.false (c.loop-item.invariant frames)
    ∙ ap (λ xs. map asked_seen c.args.made.now ++ xs) (map_flat asks replacing_in c.args.items.now)
