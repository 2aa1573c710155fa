use Rattle.std.proofs.Common.{arith, sym, ◌∙◌}
use Rattle.mo_lexer.specs.Spelling.{nothing}
use Rattle.mo_lexer.proofs.Endings.{contents_more, contents_more_escape}
use Rattle.mo_lexer.proofs.contents.contents_len.Goals as goal

pub loop-n-init : goal.loop-n-init
loop-n-init c = record { within = omega arith; contents = nothing }

pub loop-n-preserved-then-is_plain : goal.loop-n-preserved-then-is_plain
loop-n-preserved-then-is_plain c = record {
  within = omega arith;
  contents = contents_more _ _ _ c.loop-n.invariant.contents c.loop-n-test.true (sym c.is_plain.ensures ∙ c.if-is_plain.true);
}

pub loop-n-preserved : goal.loop-n-preserved
loop-n-preserved c = record {
  within = omega arith;
  contents = contents_more_escape _ _ _ c.loop-n.invariant.contents c.if-n-bytes.true c.if-bytes-n-eq92.true (sym c.is_escaped.ensures ∙ c.if-is_escaped.true);
}
