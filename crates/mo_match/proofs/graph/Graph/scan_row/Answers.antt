use Rattle.std.proofs.Common.{◌≡◌, ◌+◌, ◌-◌, slice_index, arith}
use Rattle.mo_incidence.specs.Signature.{row_len}
use Rattle.mo_match.proofs.Trees.{grows_on, scan_next}
use Rattle.mo_match.proofs.graph.Graph.scan_row.Goals as goal

pub loop-k-preserved : goal.loop-k-preserved
loop-k-preserved g c = record {
  tree = c.visit-grown.ensures.tree;
  grows = grows_on c.loop-k.invariant.grows c.visit-grown.ensures.grows;
  searched = scan_next _ c.loop-k.invariant.grows c.requires.head.1 c.loop-k.invariant.searched c.visit-grown.ensures.grows.kept c.in-None.is c.visit-grown.ensures.passed;
  cost = omega (arith, c.visit-grown.ensures.cost);
}

pub returns-clause-searched : goal.returns-clause-searched
returns-clause-searched g c =
    let i = slice_index c.args.search.now.queue.items c.args.head in
    let back : i + 1 - 1 ≡ i = omega arith in
    let all : c.row_len-k-end.result ≡ row_len c.args.self.now.signature i = rw (c.at-equation.ensures, back) at c.row_len-k-end.ensures in
    let at : c.loop-k.k ≡ row_len c.args.self.now.signature i = omega arith in
    rw at at c.loop-k.invariant.searched
