use Rattle.mo_grammar.proofs.ImportForms.{imports_agree}
use Rattle.mo_grammar.proofs.printed.imports.Goals as goal

pub returns : goal.returns
returns c = imports_agree
