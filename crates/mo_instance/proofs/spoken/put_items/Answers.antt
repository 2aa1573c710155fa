-- One item after another.
use Rattle.std.proofs.Common.{◌++◌, List, flat_map, map, ap, sym, ◌∙◌}
use Rattle.mo_syntax.specs.declared.class.Element.{Element}
use Rattle.mo_syntax.specs.declared.class.Item.{Item}
use Rattle.mo_scope.specs.Parts.{declared_in}
use Rattle.mo_scope.specs.Rows.{replacing_in}
use Rattle.mo_scope.specs.Sights.{source_seen}
use Rattle.mo_scope.specs.Spoken.{spoken_element}
use Rattle.mo_scope.specs.Worlds.{source_in, table_in}
use Rattle.mo_scope.proofs.Sayings.{flat_map_flat_map, gathered_all, gathered_more}
use Rattle.mo_instance.specs.steps.Speeches.{Speech, speech_of, speech_seen}
use Rattle.mo_instance.proofs.spoken.put_items.Goals as goal

pub loop-item-preserved : goal.loop-item-preserved
loop-item-preserved c = λ frames.
    gathered_more (λ (item : Item). flat_map (λ (element : Element). map speech_of (spoken_element (table_in c.args.scopes.now) (source_in frames (source_seen c.args.source.now)) (declared_in (table_in c.args.scopes.now) element))) (replacing_in item))
    (map speech_seen c.args.made.now) (map speech_seen c.loop-item.made) (map speech_seen c.put_item.new.made)
    c.args.items.now c.loop-item.item-index c.item-item.result c.loop-item-test.true c.item-item.is (c.loop-item.invariant frames) (c.in_ok-put_item.ensures frames)

pub returns : goal.returns
returns c = λ frames.
    let says = λ (element : Element). map speech_of (spoken_element (table_in c.args.scopes.now) (source_in frames (source_seen c.args.source.now)) (declared_in (table_in c.args.scopes.now) element)) in
    gathered_all (λ (item : Item). flat_map says (replacing_in item)) (map speech_seen c.args.made.now) (map speech_seen c.loop-item.made)
    c.args.items.now c.loop-item.item-index c.loop-item-test.false (c.loop-item.invariant frames)
    ∙ ap (λ (xs : List Speech). map speech_seen c.args.made.now ++ xs) (sym (flat_map_flat_map says replacing_in c.args.items.now))
