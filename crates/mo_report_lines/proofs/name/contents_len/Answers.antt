use Rattle.std.proofs.Common.{arith, sym, ◌∙◌}
use Rattle.mo_lexer.specs.Spelling.{nothing}
use Rattle.mo_report_lines.proofs.Quotes.{contents_more, contents_more_escape}
use Rattle.mo_report_lines.proofs.name.contents_len.Goals as goal

pub contents-init : goal.contents-init
contents-init c = record { within = omega arith; contents = nothing }

pub contents-preserved-then-is_quotable : goal.contents-preserved-then-is_quotable
contents-preserved-then-is_quotable c = record {
  within = omega arith;
  contents = contents_more _ _ c.contents.invariant.contents c.contents-test.true (sym c.is_quotable.ensures ∙ c.if-is_quotable.true);
}

pub contents-preserved : goal.contents-preserved
contents-preserved c = record {
  within = omega arith;
  contents = contents_more_escape _ _ c.contents.invariant.contents c.if-at-text.true c.if-text-at-eq92.true (sym c.is_escaped.ensures ∙ c.if-is_escaped.true);
}
