-- One item after another.
use Rattle.std.proofs.Common.{◌++◌, ap, sym, ◌∙◌}
use Rattle.mo_syntax.specs.declared.class.Element.{Element}
use Rattle.mo_syntax.specs.declared.class.Item.{Item}
use Rattle.mo_scope.specs.Parts.{declared_in}
use Rattle.mo_scope.specs.Rows.{replacing_in}
use Rattle.mo_scope.specs.Worlds.{table_in}
use Rattle.mo_mods.specs.Left.{element_says, elements_say}
use Rattle.mo_mods.specs.Sights.{left_in, said_held}
use Rattle.mo_scope.proofs.Sayings.{gathered_more, gathered_all, flat_map_flat_map}
use Rattle.mo_mods.proofs.groups.put_elements.Goals as goal

pub loop-item-preserved : goal.loop-item-preserved
loop-item-preserved c = λ frames other.
    gathered_more (λ (item : Item). elements_say (table_in c.args.scopes.now) other (left_in frames c.args.left.now) (replacing_in item))
    (said_held frames c.args.groups.now other) (said_held frames c.loop-item.groups other) (said_held frames c.put_item.new.groups other)
    c.args.items.now c.loop-item.item-index c.item-item.result c.loop-item-test.true c.item-item.is
    (c.loop-item.invariant frames other) (c.in_ok-put_item.ensures frames other)

pub returns : goal.returns
returns c = λ frames other.
    gathered_all (λ (item : Item). elements_say (table_in c.args.scopes.now) other (left_in frames c.args.left.now) (replacing_in item))
    (said_held frames c.args.groups.now other) (said_held frames c.loop-item.groups other)
    c.args.items.now c.loop-item.item-index c.loop-item-test.false (c.loop-item.invariant frames other)
    ∙ ap (λ xs. said_held frames c.args.groups.now other ++ xs)
    (sym (flat_map_flat_map (λ (element : Element). element_says other (left_in frames c.args.left.now) (declared_in (table_in c.args.scopes.now) element)) replacing_in c.args.items.now))
