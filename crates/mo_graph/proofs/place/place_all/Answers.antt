use Rattle.std.proofs.Common.{◌≡◌, length, arith, refl, sym, ◌∙◌, rules}
use Rattle.mo_graph.proofs.Places.{placing_begin}
use Rattle.mo_graph.proofs.Ready.{has_member, empty_at}
use Rattle.mo_graph.proofs.Waking.{less_left, step_room, step_place, step_last, step_over}
use Rattle.mo_graph.proofs.place.place_all.Goals as goal

pub loop-vertex-init : goal.loop-vertex-init
loop-vertex-init c =
    let led : length c.args.leader.now ≡ length c.args.placed.now = c.requires.sizes.1 in
    let ready = rw led at c.in_ok-ready.ensures in
    placing_begin _ _ _ _ _ _ _ _ 0 c.requires.sizes.2 refl (c.count_waits.auto.waits ∙ c.requires.sizes.3) c.requires.clear_placed c.count_waits.ensures ready.only ready.all

pub offset_bounds-order-count : goal.offset_bounds-order-count
offset_bounds-order-count c =
    let same : length c.args.placed.now ≡ length c.loop-vertex.placed = sym c.loop-vertex.auto.placed in
    let graph = rw same at c.requires.graph in
    let room = step_room _ _ _ _ _ _ _ _ _ _ _ graph c.requires.threads c.loop-vertex.invariant _ (has_member _ _ c.in-Some.ensures.member) c.in-Some.ensures.least c.in-Some.ensures.updates in
    let small = graph.small in
    search (rules, arith)

pub bounds-order-count : goal.bounds-order-count
bounds-order-count c =
    let same : length c.args.placed.now ≡ length c.loop-vertex.placed = sym c.loop-vertex.auto.placed in
    let graph = rw same at c.requires.graph in
    let room = step_room _ _ _ _ _ _ _ _ _ _ _ graph c.requires.threads c.loop-vertex.invariant _ (has_member _ _ c.in-Some.ensures.member) c.in-Some.ensures.least c.in-Some.ensures.updates in
    omega (arith, room.0, c.loop-vertex.invariant.1.order_all)

pub overflow_add-count : goal.overflow_add-count
overflow_add-count c =
    let same : length c.args.placed.now ≡ length c.loop-vertex.placed = sym c.loop-vertex.auto.placed in
    let graph = rw same at c.requires.graph in
    let room = step_room _ _ _ _ _ _ _ _ _ _ _ graph c.requires.threads c.loop-vertex.invariant _ (has_member _ _ c.in-Some.ensures.member) c.in-Some.ensures.least c.in-Some.ensures.updates in
    let small = graph.small in
    search (rules, arith)

pub overflow_cast-placed : goal.overflow_cast-placed
overflow_cast-placed c =
    let same : length c.args.placed.now ≡ length c.loop-vertex.placed = sym c.loop-vertex.auto.placed in
    let graph = rw same at c.requires.graph in
    let room = step_room _ _ _ _ _ _ _ _ _ _ _ graph c.requires.threads c.loop-vertex.invariant _ (has_member _ _ c.in-Some.ensures.member) c.in-Some.ensures.least c.in-Some.ensures.updates in
    let small = graph.small in
    search (rules, arith)

pub bounds-placed-vertex : goal.bounds-placed-vertex
bounds-placed-vertex c =
    let same : length c.args.placed.now ≡ length c.loop-vertex.placed = sym c.loop-vertex.auto.placed in
    let graph = rw same at c.requires.graph in
    (step_room _ _ _ _ _ _ _ _ _ _ _ graph c.requires.threads c.loop-vertex.invariant _ (has_member _ _ c.in-Some.ensures.member) c.in-Some.ensures.least c.in-Some.ensures.updates).1

pub wake-requires-clause-places : goal.wake-requires-clause-places
wake-requires-clause-places c =
    let same : length c.args.placed.now ≡ length c.loop-vertex.placed = sym c.loop-vertex.auto.placed in
    let graph = rw same at c.requires.graph in
    rw c.loop-vertex.invariant.1.waits_all (step_place _ _ _ _ _ _ _ _ _ _ _ graph c.requires.threads c.loop-vertex.invariant _ (has_member _ _ c.in-Some.ensures.member) c.in-Some.ensures.least c.in-Some.ensures.updates)

pub wake-requires-clause-awake : goal.wake-requires-clause-awake
wake-requires-clause-awake c =
    let same : length c.args.placed.now ≡ length c.loop-vertex.placed = sym c.loop-vertex.auto.placed in
    let graph = rw same at c.requires.graph in
    let room = step_room _ _ _ _ _ _ _ _ _ _ _ graph c.requires.threads c.loop-vertex.invariant _ (has_member _ _ c.in-Some.ensures.member) c.in-Some.ensures.least c.in-Some.ensures.updates in
    let last = step_last _ _ _ _ _ _ _ _ _ _ _ graph c.requires.threads c.loop-vertex.invariant _ (has_member _ _ c.in-Some.ensures.member) c.in-Some.ensures.least c.in-Some.ensures.updates in
    (omega (arith, room.1, c.loop-vertex.invariant.1.waits_all), last, omega arith)

pub loop-vertex-smaller : goal.loop-vertex-smaller
loop-vertex-smaller c =
    let same : length c.args.placed.now ≡ length c.loop-vertex.placed = sym c.loop-vertex.auto.placed in
    let graph = rw same at c.requires.graph in
    let room = step_room _ _ _ _ _ _ _ _ _ _ _ graph c.requires.threads c.loop-vertex.invariant _ (has_member _ _ c.in-Some.ensures.member) c.in-Some.ensures.least c.in-Some.ensures.updates in
    less_left c.loop-vertex.placed c.in-Some.vertex c.loop-vertex.count room.0

pub returns : goal.returns
returns c =
    let same : length c.args.placed.now ≡ length c.loop-vertex.placed = sym c.loop-vertex.auto.placed in
    let graph = rw same at c.requires.graph in
    let ranks = rw same at c.requires.ranks in
    rw same (step_over _ _ _ _ _ _ _ _ graph c.loop-vertex.invariant (empty_at c.loop-vertex.ready c.in_default.ensures.variant.1) ranks c.requires.led)
