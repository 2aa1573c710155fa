use Rattle.std.proofs.Common.{◌≡◌, ◌≤◌, take}
use Rattle.std.specs.Vec.{vec_capacity}
use Rattle.mo_verify.proofs.fill.fill_list.Given as goal

abbrev pub invariant-loop-number : goal.invariant-loop-number
invariant-loop-number l = record {
  items : l.list.items ≡ take l.number-index l.numbers;
  room : vec_capacity l.fn.list ≤ vec_capacity l.list;
}
