use Rattle.mo_grammar.proofs.BranchForms.{when_lists_agree}
use Rattle.mo_grammar.proofs.ElseForms.{if_lists_agree}
use Rattle.mo_grammar.proofs.EquationListForms.{for_lists_agree, else_lists_agree}
use Rattle.mo_grammar.proofs.printed.equation_lists.Goals as goal

pub returns-clause-for_equations : goal.returns-clause-for_equations
returns-clause-for_equations c = for_lists_agree

pub returns-clause-when_equations : goal.returns-clause-when_equations
returns-clause-when_equations c = when_lists_agree

pub returns-clause-if_equations : goal.returns-clause-if_equations
returns-clause-if_equations c = if_lists_agree

pub returns-clause-else_equations : goal.returns-clause-else_equations
returns-clause-else_equations c = else_lists_agree
