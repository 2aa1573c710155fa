use Rattle.std.proofs.Common.{◌≡◌, length, arith, sym}
use Rattle.mo_graph.proofs.Gathers.{row_room, row_take, row_head, row_taken, cursor_next, gather_next, seen_all}
use Rattle.mo_graph.proofs.gather.gather_row.Goals as goal

pub bounds-queue-tail : goal.bounds-queue-tail
bounds-queue-tail c =
    let same : length c.args.class.now ≡ length c.loop-cursor.class = sym c.loop-cursor.auto.class in
    let w = c.loop-cursor.invariant in
    let finished = rw same at c.requires.finished in
    let graph = rw same at c.requires.graph in
    omega (arith, w.gathered.queue_all, row_room _ _ _ _ _ _ _ _ _ _ _ _ _ _ _ graph c.requires.threads finished w.gathered (omega arith) w.head (omega arith) w.cursor (w.key (omega arith)) c.if-class-source-ne0.false)

pub loop-cursor-preserved : goal.loop-cursor-preserved
loop-cursor-preserved c =
    let same : length c.args.class.now ≡ length c.loop-cursor.class = sym c.loop-cursor.auto.class in
    let w = c.loop-cursor.invariant in
    let finished = rw same at c.requires.finished in
    let graph = rw same at c.requires.graph in
    let next = cursor_next _ _ _ _ _ _ _ _ _ _ _ _ _ _ _ graph c.requires.threads finished w.gathered (omega arith) w.head (omega arith) w.cursor (w.key (omega arith)) in
    record {
      gathered = row_take _ _ _ _ _ _ _ _ _ _ _ _ _ _ _ graph c.requires.threads finished w.gathered (omega arith) w.head (omega arith) w.cursor (w.key (omega arith)) c.if-class-source-ne0.false;
      head = row_head _ _ _ _ _ _ _ _ _ _ _ _ _ _ _ graph c.requires.threads finished w.gathered (omega arith) w.head (omega arith) w.cursor (w.key (omega arith)) c.if-class-source-ne0.false;
      more = omega arith;
      cursor = next.0;
      key = next.1;
      seen = row_taken _ _ _ _ _ _ _ _ _ _ _ _ _ _ _ graph c.requires.threads finished w.gathered (omega arith) w.head (omega arith) w.cursor (w.key (omega arith)) w.seen c.if-class-source-ne0.false;
    }

pub returns-clause-gathered : goal.returns-clause-gathered
returns-clause-gathered c =
    let same : length c.args.class.now ≡ length c.loop-cursor.class = sym c.loop-cursor.auto.class in
    let w = c.loop-cursor.invariant in
    let finished = rw same at c.requires.finished in
    let zero_here : c.loop-cursor.cursor ≡ 0 = omega arith in
    let seen = rw zero_here at w.seen in
    gather_next _ _ _ _ _ finished _ _ _ _ _ _ _ w.gathered (omega arith) (λ u there. seen_all c.args.edges.now.sources.now c.args.edges.now.targets.now _ _ u c.requires.graph.same seen (rw w.head at there))
