-- One item after another.
use Rattle.std.proofs.Common.{◌++◌, flat_map, map, ap, sym, ◌∙◌}
use Rattle.std.specs.Option.{option_to_list}
use Rattle.mo_syntax.specs.declared.class.Element.{Element}
use Rattle.mo_syntax.specs.declared.class.Item.{Item}
use Rattle.mo_scope.specs.Parts.{declared_in}
use Rattle.mo_scope.specs.Rows.{replacing_in}
use Rattle.mo_scope.specs.Sights.{source_seen}
use Rattle.mo_scope.specs.Spoken.{spoken_element}
use Rattle.mo_scope.specs.Worlds.{frames_of, source_in, table_in}
use Rattle.mo_scope.proofs.Sayings.{gathered_more, gathered_all, flat_map_flat_map}
use Rattle.mo_redeclare.specs.steps.Sights.{IsNamed, named_seen}
use Rattle.mo_redeclare.specs.steps.Comparing.{redeclares_in}
use Rattle.mo_redeclare.proofs.Speaking.{put_more, put_exist}
use Rattle.mo_redeclare.proofs.spoken.add_items.Goals as goal

pub loop-item-preserved : goal.loop-item-preserved
loop-item-preserved c =
    let F = frames_of c.args.s.now in
    let says = λ (element : Element). redeclares_in (spoken_element (table_in c.args.s.now) (source_in F (source_seen c.args.source.now)) (declared_in (table_in c.args.s.now) element)) in
    record {
      are = gathered_more (λ (item : Item). flat_map says (replacing_in item)) (map (named_seen F) c.args.made.now) (map (named_seen F) c.loop-item.made) (map (named_seen F) c.put.new.made)
          c.args.items.now c.loop-item.item-index c.item-item.result c.loop-item-test.true c.item-item.is c.loop-item.invariant.are
          (put_more (named_seen F) c.loop-item.made c.put.new.made c.in_ok-found.found _ c.in_ok-put.ensures c.in_ok-found.ensures.are);
      exist = put_exist (IsNamed c.args.s.now) c.loop-item.made c.put.new.made (option_to_list c.in_ok-found.found) c.in_ok-put.ensures c.loop-item.invariant.exist c.in_ok-found.ensures.exist;
    }

pub returns : goal.returns
returns c =
    let F = frames_of c.args.s.now in
    let says = λ (element : Element). redeclares_in (spoken_element (table_in c.args.s.now) (source_in F (source_seen c.args.source.now)) (declared_in (table_in c.args.s.now) element)) in
    record {
      are = gathered_all (λ (item : Item). flat_map says (replacing_in item)) (map (named_seen F) c.args.made.now) (map (named_seen F) c.loop-item.made) c.args.items.now c.loop-item.item-index c.loop-item-test.false c.loop-item.invariant.are
          ∙ ap (λ zs. map (named_seen F) c.args.made.now ++ zs) (sym (flat_map_flat_map says replacing_in c.args.items.now));
      exist = c.loop-item.invariant.exist;
    }
