-- The printed numbers of the rules that a token can break.
use Rattle.std.specs.Prelude.{ℕ}
use Rattle.mo_grammar.specs.declared.fault.Fault.{Fault}
use Rattle.mo_grammar.specs.declared.fault.Fault.TheVariants.{Misplaced, Misnamed, TooDeep}

abbrev pub rule_of : Fault → ℕ
rule_of Misplaced = 6
rule_of Misnamed = 7
rule_of TooDeep = 8
