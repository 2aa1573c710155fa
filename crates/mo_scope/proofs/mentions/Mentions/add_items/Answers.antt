-- One item after another.
use Rattle.std.proofs.Common.{◌++◌, flat_map, ap, sym, ◌∙◌}
use Rattle.mo_syntax.specs.declared.class.Element.{Element}
use Rattle.mo_syntax.specs.declared.class.Item.{Item}
use Rattle.mo_scope.specs.Mentions.{By_element, if_of, mention_by, mentions_held}
use Rattle.mo_scope.specs.Rows.{replacing_in}
use Rattle.mo_scope.proofs.Sayings.{gathered_more, gathered_all, flat_map_flat_map}
use Rattle.mo_scope.proofs.mentions.Mentions.add_items.Goals as goal

pub loop-item-preserved : goal.loop-item-preserved
loop-item-preserved c = λ other.
    gathered_more (λ (item : Item). flat_map (λ (element : Element). if_of other (mention_by c.args.source (By_element element))) (replacing_in item))
    (mentions_held c.args.self.now other) (mentions_held c.loop-item.self other) (mentions_held c.add_item.new.self other)
    c.args.items.now c.loop-item.item-index c.item-item.result c.loop-item-test.true c.item-item.is
    (c.loop-item.invariant other) (c.in_ok-add_item.ensures other)

pub returns : goal.returns
returns c = λ other.
    gathered_all (λ (item : Item). flat_map (λ (element : Element). if_of other (mention_by c.args.source (By_element element))) (replacing_in item))
    (mentions_held c.args.self.now other) (mentions_held c.loop-item.self other)
    c.args.items.now c.loop-item.item-index c.loop-item-test.false (c.loop-item.invariant other)
    ∙ ap (λ xs. mentions_held c.args.self.now other ++ xs)
    (sym (flat_map_flat_map (λ (element : Element). if_of other (mention_by c.args.source (By_element element))) replacing_in c.args.items.now))
