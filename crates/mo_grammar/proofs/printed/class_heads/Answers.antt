use Rattle.mo_grammar.proofs.FactorForms.{short_specs_agree, class_specs_agree}
use Rattle.mo_grammar.proofs.PrefixForms.{class_prefixes_agree}
use Rattle.mo_grammar.proofs.printed.class_heads.Goals as goal

pub returns-clause-class_prefixes : goal.returns-clause-class_prefixes
returns-clause-class_prefixes c = class_prefixes_agree

pub returns-clause-short_spec : goal.returns-clause-short_spec
returns-clause-short_spec c = short_specs_agree

pub returns-clause-class_spec : goal.returns-clause-class_spec
returns-clause-class_spec c = class_specs_agree
