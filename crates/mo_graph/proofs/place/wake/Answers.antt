use Rattle.std.proofs.Common.{◌≡◌, length, arith, sym}
use Rattle.mo_graph.proofs.Waking.{wake_cursor, wake_less, wake_skip, wake_some, wake_lower, wake_ready}
use Rattle.mo_graph.proofs.place.wake.Goals as goal

pub loop-cursor-preserved-then-source-awake : goal.loop-cursor-preserved-then-source-awake
loop-cursor-preserved-then-source-awake c =
    let same : length c.args.waits.now ≡ length c.loop-cursor.waits = sym c.loop-cursor.auto.waits in
    let graph = rw same at c.requires.graph in
    let w = c.loop-cursor.invariant in
    let key = w.key (omega arith) in
    let next = wake_cursor _ _ _ _ _ _ _ _ _ _ _ _ graph c.requires.threads w.places c.requires.awake.1 c.requires.awake.2 (omega arith) w.cursor key in
    record {
      places = wake_skip _ _ _ _ _ _ _ _ _ _ _ _ graph c.requires.threads w.places c.requires.awake.1 c.requires.awake.2 (omega arith) w.cursor key c.if-source-awake.true;
      cursor = next.0;
      key = next.1;
    }

pub overflow_sub-waits : goal.overflow_sub-waits
overflow_sub-waits c =
    let same : length c.args.waits.now ≡ length c.loop-cursor.waits = sym c.loop-cursor.auto.waits in
    let graph = rw same at c.requires.graph in
    let w = c.loop-cursor.invariant in
    omega (arith, wake_some _ _ _ _ _ _ _ _ _ _ _ _ graph c.requires.threads w.places c.requires.awake.1 c.requires.awake.2 (omega arith) w.cursor (w.key (omega arith)) c.if-source-awake.false (c.requires.led.source _ (omega (arith, graph.same))))

pub loop-cursor-smaller-then-waits-source-ne0 : goal.loop-cursor-smaller-then-waits-source-ne0
loop-cursor-smaller-then-waits-source-ne0 c =
    let same : length c.args.waits.now ≡ length c.loop-cursor.waits = sym c.loop-cursor.auto.waits in
    let graph = rw same at c.requires.graph in
    let w = c.loop-cursor.invariant in
    wake_less _ _ _ _ _ _ _ _ _ _ _ _ graph c.requires.threads w.places c.requires.awake.1 c.requires.awake.2 (omega arith) w.cursor (w.key (omega arith))

pub loop-cursor-preserved-then-waits-source-ne0 : goal.loop-cursor-preserved-then-waits-source-ne0
loop-cursor-preserved-then-waits-source-ne0 c =
    let same : length c.args.waits.now ≡ length c.loop-cursor.waits = sym c.loop-cursor.auto.waits in
    let graph = rw same at c.requires.graph in
    let w = c.loop-cursor.invariant in
    let key = w.key (omega arith) in
    let next = wake_cursor _ _ _ _ _ _ _ _ _ _ _ _ graph c.requires.threads w.places c.requires.awake.1 c.requires.awake.2 (omega arith) w.cursor key in
    record {
      places = wake_lower _ _ _ _ _ _ _ _ _ _ _ _ graph c.requires.threads w.places c.requires.awake.1 c.requires.awake.2 (omega arith) w.cursor key c.if-source-awake.false (c.requires.led.source _ (omega (arith, graph.same))) c.if-waits-source-ne0.true;
      cursor = next.0;
      key = next.1;
    }

pub loop-cursor-preserved : goal.loop-cursor-preserved
loop-cursor-preserved c =
    let same : length c.args.waits.now ≡ length c.loop-cursor.waits = sym c.loop-cursor.auto.waits in
    let graph = rw same at c.requires.graph in
    let w = c.loop-cursor.invariant in
    let key = w.key (omega arith) in
    let next = wake_cursor _ _ _ _ _ _ _ _ _ _ _ _ graph c.requires.threads w.places c.requires.awake.1 c.requires.awake.2 (omega arith) w.cursor key in
    record {
      places = wake_ready _ _ _ _ _ _ _ _ _ _ _ _ graph c.requires.threads w.places c.requires.awake.1 c.requires.awake.2 (omega arith) w.cursor key c.if-source-awake.false (c.requires.led.source _ (omega (arith, graph.same))) _ c.in_ok-insert.ensures.updates c.if-waits-source-ne0.false;
      cursor = next.0;
      key = next.1;
    }
