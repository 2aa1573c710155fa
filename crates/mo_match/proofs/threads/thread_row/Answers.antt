use Rattle.std.proofs.Common.{arith, rules}
use Rattle.mo_match.proofs.Threading.{thread_small, thread_before, thread_row_of, thread_push, row_threaded, row_back}
use Rattle.mo_match.proofs.threads.thread_row.Goals as goal

pub offset_bounds-before-x : goal.offset_bounds-before-x
offset_bounds-before-x c =
    let all = row_back c.args.inc.now c.args.i _ c.row_len-k-end.ensures in
    let small = thread_small _ _ _ _ _ _ _ c.loop-k.invariant c.requires.sound c.requires.row (omega arith) in
    search (rules, arith)

pub bounds-before-x : goal.bounds-before-x
bounds-before-x c =
    let all = row_back c.args.inc.now c.args.i _ c.row_len-k-end.ensures in
    thread_before _ _ _ _ _ _ _ c.loop-k.invariant c.requires.sound c.requires.row (omega arith)

pub overflow_cast-last : goal.overflow_cast-last
overflow_cast-last c =
    let all = row_back c.args.inc.now c.args.i _ c.row_len-k-end.ensures in
    let small = thread_small _ _ _ _ _ _ _ c.loop-k.invariant c.requires.sound c.requires.row (omega arith) in
    search (rules, arith)

pub overflow_add-last : goal.overflow_add-last
overflow_add-last c =
    let all = row_back c.args.inc.now c.args.i _ c.row_len-k-end.ensures in
    let small = thread_small _ _ _ _ _ _ _ c.loop-k.invariant c.requires.sound c.requires.row (omega arith) in
    search (rules, arith)

pub offset_bounds-row_of-x : goal.offset_bounds-row_of-x
offset_bounds-row_of-x c =
    let all = row_back c.args.inc.now c.args.i _ c.row_len-k-end.ensures in
    let small = thread_small _ _ _ _ _ _ _ c.loop-k.invariant c.requires.sound c.requires.row (omega arith) in
    search (rules, arith)

pub bounds-row_of-x : goal.bounds-row_of-x
bounds-row_of-x c =
    let all = row_back c.args.inc.now c.args.i _ c.row_len-k-end.ensures in
    thread_row_of _ _ _ _ _ _ _ c.loop-k.invariant c.requires.sound c.requires.row (omega arith)

pub overflow_add-x : goal.overflow_add-x
overflow_add-x c =
    let all = row_back c.args.inc.now c.args.i _ c.row_len-k-end.ensures in
    let small = thread_small _ _ _ _ _ _ _ c.loop-k.invariant c.requires.sound c.requires.row (omega arith) in
    search (rules, arith)

pub loop-k-preserved : goal.loop-k-preserved
loop-k-preserved c =
    let all = row_back c.args.inc.now c.args.i _ c.row_len-k-end.ensures in
    thread_push _ _ _ _ _ _ _ c.loop-k.invariant c.requires.sound c.requires.row (omega arith) _ c.entry-unknown.ensures.unknown

pub returns : goal.returns
returns c =
    let all = row_back c.args.inc.now c.args.i _ c.row_len-k-end.ensures in
    row_threaded _ _ _ _ _ _ c.loop-k.k (omega arith) c.loop-k.invariant
