use Rattle.mo_flat.specs.Text.{attribute_text}
use Rattle.mo_flat.proofs.Printing.{not_first}
use Rattle.mo_text_size.proofs.Lengths.{row_more}
use Rattle.mo_text_size.proofs.model.of_attributes.Goals as goal

pub loop-attribute-preserved : goal.loop-attribute-preserved
loop-attribute-preserved c = (
  row_more (attribute_text c.args.vars.now) (λ a. a) c.args.attributes.now c.loop-attribute.attribute-index c.attribute-item.result c.loop-attribute.first
      _ _ _ c.loop-attribute-test.true c.attribute-item.is c.loop-attribute.invariant.1 c.loop-attribute.invariant.0 c.of_given.ensures c.saturating_add-all.ensures,
  not_first _,
)
