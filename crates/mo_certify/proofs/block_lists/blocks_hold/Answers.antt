use Rattle.std.proofs.Common.{◌≡◌, ◌∙◌, sym}
use Rattle.mo_incidence.specs.Signature.{equations}
use Rattle.mo_graph.proofs.Arranging.{order_as}
use Rattle.mo_certify.proofs.BlockLists.{blocks_right, right_blocks}
use Rattle.mo_certify.proofs.block_lists.blocks_hold.Goals as goal

pub returns : goal.returns
returns c =
    let right = c.in_ok-offsets_hold.ensures.exact.0 c.if-not-branch.false in
    let square : equations c.args.inc.now ≡ c.args.inc.now.unknowns = sym c.equations.ensures.count ∙ c.if-equations-unknowns.false ∙ c.unknowns.ensures in
    let order = order_as _ _ c.in_ok-edges.ensures.only c.in_ok-edges.ensures.all _ _ (rw c.equations-2.ensures.count at c.in_ok-found.ensures) in
    record {
      exact = (
        blocks_right _ _ _ _ _ _ _ _ _ c.deref.ensures.value c.deref-2.ensures.value c.same_lists.ensures.yes c.same_lists.ensures.no order right square,
        right_blocks _ _ _ _ _ _ _ _ _ c.deref.ensures.value c.deref-2.ensures.value c.same_lists.ensures.yes c.same_lists.ensures.no order right square,
      );
    }

pub in_order-requires : goal.in_order-requires
in_order-requires c = record { graph = rw c.equations-2.ensures.count c.in_ok-edges.ensures.graph }
