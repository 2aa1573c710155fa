use Rattle.std.proofs.Common.{◌-◌, ◌≤◌, length, take}
use Rattle.mo_lexer.specs.Bytes.{is_quotable}
use Rattle.mo_lexer.specs.Spelling.{AreContents}
use Rattle.mo_report_lines.proofs.name.contents_len.Given as goal

abbrev pub invariant-contents : goal.invariant-contents
invariant-contents l = record {
  within : l.at ≤ length l.text;
  contents : AreContents is_quotable (take l.at l.text);
}

abbrev pub decreases-contents : goal.decreases-contents
decreases-contents l = length l.text - l.at
