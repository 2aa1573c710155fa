-- A rule that the text of a ladder breaks.
use Rattle.std.proofs.Common.{◌∙◌}
use Rattle.mo_front.proofs.Laddering.{told_line}
use Rattle.mo_front.proofs.ladder.ladder_answer.Goals as goal

pub returns-in-Err-Broken : goal.returns-in-Err-Broken
returns-in-Err-Broken c = record {
  tells = told_line c.args.n _ _ (c.as_slice.ensures ∙ c.in_ok-texts.ensures.texts) (c.as_slice-in-Err-Broken.ensures ∙ c.in_ok-texts.ensures.texts) c.in-Err-Broken.broken _
      c.in_ok-refusal_of-in-Err-Broken.ensures (rw c.in-Err-Broken.field-0-is at c.in-Err-Broken.ensures.refused);
}
