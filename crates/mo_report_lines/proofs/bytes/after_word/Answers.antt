use Rattle.std.proofs.lemmas.Bool.Decides.{Decides-eqb}
use Rattle.std.proofs.lemmas.Slice.Eq.{strip_prefix_is}
use Rattle.mo_report_lines.proofs.Options.{stripped_some, stripped_none}
use Rattle.mo_report_lines.proofs.bytes.after_word.Goals as goal

pub returns-clause-some : goal.returns-clause-some
returns-clause-some c =
    stripped_some c.args.text.now c.as_bytes.result.now c.args.word.now c.strip_prefix.result c.as_bytes.ensures.value (strip_prefix_is Decides-eqb c.args.text.now c.as_bytes.result.now c.strip_prefix.result c.strip_prefix.ensures.cases)

pub returns-clause-none : goal.returns-clause-none
returns-clause-none c =
    stripped_none c.args.text.now c.as_bytes.result.now c.args.word.now c.strip_prefix.result c.as_bytes.ensures.value (strip_prefix_is Decides-eqb c.args.text.now c.as_bytes.result.now c.strip_prefix.result c.strip_prefix.ensures.cases)
