use Rattle.std.proofs.Common.{◌-◌, ◌≤◌, length, take}
use Rattle.mo_lexer.specs.Spelling.{AreContents}
use Rattle.mo_lexer.specs.steps.Finding.{is_plain}
use Rattle.mo_lexer.proofs.contents.contents_len.Given as goal

abbrev pub invariant-loop-n : goal.invariant-loop-n
invariant-loop-n l = record {
  within : l.n ≤ length l.bytes;
  contents : AreContents (is_plain l.quotes) (take l.n l.bytes);
}

abbrev pub decreases-loop-n : goal.decreases-loop-n
decreases-loop-n l = length l.bytes - l.n
