use Rattle.std.proofs.Common.{◌<◌, ◌-◌, length, arith, slice_index_or}
use Rattle.mo_graph.proofs.Walks.{next_edge, path_room, walks_enter, enter_less, walks_look, walks_less, walks_finish, kept_by, kept_same}
use Rattle.mo_graph.proofs.finish.finish_from.Goals as goal

pub loop-top-init : goal.loop-top-init
loop-top-init c = record {
  walk = walks_enter _ _ _ _ _ _ _ _ c.requires.walk c.args.root c.requires.root.0 c.requires.root.1 (λ l. absurd (omega arith));
  root = kept_same c.args.mark.now c.args.root c.requires.root.0;
  kept = λ v some. kept_by c.args.mark.now c.args.root v c.requires.root.0 some;
}

pub loop-top-preserved-then-next-eq0 : goal.loop-top-preserved-then-next-eq0
loop-top-preserved-then-next-eq0 c = record {
  walk = walks_finish _ _ _ _ _ _ _ _ c.loop-top.invariant.walk (omega arith) c.if-next-eq0.true;
  root = c.loop-top.invariant.root;
  kept = c.loop-top.invariant.kept;
}

pub bounds-path-top-then-mark-target-eq0 : goal.bounds-path-top-then-mark-target-eq0
bounds-path-top-then-mark-target-eq0 c =
    let next = slice_index_or c.loop-top.cursor (slice_index_or c.loop-top.path (c.loop-top.top - 1) 0) 0 in
    let edge = next_edge _ _ _ _ _ _ _ _ c.loop-top.invariant.walk _ c.if-next-eq0.false in
    let wm : slice_index_or c.args.edges.now.targets.now (next - 1) 0 < length c.loop-top.mark = omega (arith, c.requires.graph.target (next - 1) edge.0) in
    omega (arith, path_room _ _ _ _ _ _ _ _ c.loop-top.invariant.walk _ wm c.if-mark-target-eq0.true)

pub loop-top-smaller-then-mark-target-eq0 : goal.loop-top-smaller-then-mark-target-eq0
loop-top-smaller-then-mark-target-eq0 c =
    let next = slice_index_or c.loop-top.cursor (slice_index_or c.loop-top.path (c.loop-top.top - 1) 0) 0 in
    let edge = next_edge _ _ _ _ _ _ _ _ c.loop-top.invariant.walk _ c.if-next-eq0.false in
    let wm : slice_index_or c.args.edges.now.targets.now (next - 1) 0 < length c.loop-top.mark = omega (arith, c.requires.graph.target (next - 1) edge.0) in
    enter_less _ _ _ _ _ _ _ _ c.loop-top.invariant.walk _ wm c.if-mark-target-eq0.true

pub loop-top-preserved-then-mark-target-eq0 : goal.loop-top-preserved-then-mark-target-eq0
loop-top-preserved-then-mark-target-eq0 c =
    let next = slice_index_or c.loop-top.cursor (slice_index_or c.loop-top.path (c.loop-top.top - 1) 0) 0 in
    let edge = next_edge _ _ _ _ _ _ _ _ c.loop-top.invariant.walk _ c.if-next-eq0.false in
    let wm : slice_index_or c.args.edges.now.targets.now (next - 1) 0 < length c.loop-top.mark = omega (arith, c.requires.graph.target (next - 1) edge.0) in
    record {
      walk = walks_enter _ _ _ _ _ _ _ _ c.loop-top.invariant.walk _ wm c.if-mark-target-eq0.true (λ _. edge.1);
      root = kept_by c.loop-top.mark _ c.args.root wm c.loop-top.invariant.root;
      kept = λ v some. kept_by c.loop-top.mark _ v wm (c.loop-top.invariant.kept v some);
    }

pub loop-top-smaller : goal.loop-top-smaller
loop-top-smaller c =
    let vm = (c.loop-top.invariant.walk.1.path_in (c.loop-top.top - 1) (omega arith)).0 in
    walks_less _ _ _ _ _ _ _ _ c.loop-top.invariant.walk _ c.requires.threads _ vm c.if-next-eq0.false c.if-mark-target-eq0.false

pub loop-top-preserved : goal.loop-top-preserved
loop-top-preserved c =
    let vm = (c.loop-top.invariant.walk.1.path_in (c.loop-top.top - 1) (omega arith)).0 in
    record {
      walk = walks_look _ _ _ _ _ _ _ _ c.loop-top.invariant.walk _ c.requires.threads _ vm c.if-next-eq0.false c.if-mark-target-eq0.false;
      root = c.loop-top.invariant.root;
      kept = c.loop-top.invariant.kept;
    }
