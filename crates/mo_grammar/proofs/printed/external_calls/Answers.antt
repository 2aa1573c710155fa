use Rattle.mo_grammar.proofs.FactorForms.{external_calls_agree}
use Rattle.mo_grammar.proofs.printed.external_calls.Goals as goal

pub returns : goal.returns
returns c = external_calls_agree
