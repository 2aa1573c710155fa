use Rattle.mo_grammar.proofs.SectionForms.{compositions_agree, sections_agree, section_equations_agree}
use Rattle.mo_grammar.proofs.printed.compositions.Goals as goal

pub returns-clause-composition : goal.returns-clause-composition
returns-clause-composition c = compositions_agree

pub returns-clause-sections : goal.returns-clause-sections
returns-clause-sections c = sections_agree

pub returns-clause-section_equations : goal.returns-clause-section_equations
returns-clause-section_equations c = section_equations_agree
