use Rattle.std.proofs.Common.{◌++◌}
use Rattle.mo_grammar.specs.Productions.{rule}
use Rattle.mo_grammar.specs.Tables.{tables}
use Rattle.mo_grammar.proofs.Extending.{extends}
use Rattle.mo_grammar.proofs.Fronts.{front_begins}
use Rattle.mo_grammar.proofs.Checked.{known}
use Rattle.mo_grammar.proofs.Tested.{passed, level, productive, fillable}
use Rattle.mo_grammar.proofs.laws.beginnings_extend.Goals as goal

pub returns-clause-extends : goal.returns-clause-extends
returns-clause-extends c = λ x l tokens b. extends tables rule passed level 10 productive fillable x l tokens b

pub returns-clause-fronts : goal.returns-clause-fronts
returns-clause-fronts c = λ x l tokens more a s. front_begins tables rule passed x l tokens more (s.0, (known tables rule passed s.0).spelled_begins x l (tokens ++ more) a s.1)
