-- One attribute after another.
use Rattle.std.proofs.Common.{◌∷◌, ◌++◌, [], map, flat_map, get_or, ap, ◌∙◌}
use Rattle.mo_syntax.specs.declared.meaning.Kind.{Kind}
use Rattle.mo_flat.specs.Text.{attribute_name}
use Rattle.mo_scope.specs.Worlds.{frame_at, frames_of, table_in}
use Rattle.mo_scope.proofs.Sayings.{gathered_all, gathered_more}
use Rattle.mo_instance.specs.Attributes.{attribute_as, attributes_of, chosen_attribute}
use Rattle.mo_scope.specs.Trees.{attribute_in}
use Rattle.mo_instance.proofs.Lists.{same_default}
use Rattle.mo_instance.proofs.leaf.chosen_attributes.Goals as goal

pub loop-attribute-preserved : goal.loop-attribute-preserved
loop-attribute-preserved c =
    let F = frames_of c.args.s.now in
    let T = table_in c.args.s.now in
    let leaf = frame_at c.args.s.now c.args.leaf.0 in
    let item = get_or c.attributes_of-attributes.result.now c.loop-attribute.attribute-index 0 in
    record {
      are = gathered_more (chosen_attribute T leaf) [] (map (attribute_in F) c.loop-attribute.made) (map (attribute_in F) c.put_attribute.new.made)
          c.attributes_of-attributes.result.now c.loop-attribute.attribute-index item c.loop-attribute-test.true (same_default c.attributes_of-attributes.result.now c.loop-attribute.attribute-index 0 item c.loop-attribute-test.true) c.loop-attribute.invariant.are
          (c.in_ok-put_attribute.ensures.are F
          ∙ ap (λ value. map (attribute_in F) c.loop-attribute.made ++ attribute_as item value)
          (c.in_ok-env.ensures.stands.values (attribute_name item ∷ [])));
      exist = c.in_ok-put_attribute.ensures.exist c.args.s.now c.in_ok-env.ensures.exist c.loop-attribute.invariant.exist;
    }

pub returns-clause-are : goal.returns-clause-are
returns-clause-are c =
    let F = frames_of c.args.s.now in
    let T = table_in c.args.s.now in
    let leaf = frame_at c.args.s.now c.args.leaf.0 in
    gathered_all (chosen_attribute T leaf) [] (map (attribute_in F) c.loop-attribute.made) c.attributes_of-attributes.result.now c.loop-attribute.attribute-index c.loop-attribute-test.false c.loop-attribute.invariant.are
    ∙ ap (flat_map (chosen_attribute T leaf)) c.attributes_of-attributes.ensures
    ∙ ap (λ (kind : Kind). flat_map (chosen_attribute T leaf) (attributes_of kind)) c.kind_of_leaf.ensures
