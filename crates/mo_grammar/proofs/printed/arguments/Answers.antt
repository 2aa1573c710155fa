use Rattle.mo_grammar.proofs.ArgumentForms.{arguments_agree, given_agree}
use Rattle.mo_grammar.proofs.printed.arguments.Goals as goal

pub returns-clause-call_arguments : goal.returns-clause-call_arguments
returns-clause-call_arguments c = arguments_agree

pub returns-clause-more_arguments : goal.returns-clause-more_arguments
returns-clause-more_arguments c = given_agree
