use Rattle.std.proofs.Common.{sym, ◌∙◌}
use mathlib.Core.Bool.{false≢true}
use Rattle.mo_lexer.proofs.Numbers.{number_front_decimal, number_front_wide}
use Rattle.mo_lexer.proofs.number.number.Goals as goal

pub returns-then-not-whole : goal.returns-then-not-whole
returns-then-not-whole c = number_front_decimal _ _ _ c.number_front-whole.ensures c.if-not-whole.true

pub returns-then-not-is_narrow : goal.returns-then-not-is_narrow
returns-then-not-is_narrow c =
    number_front_wide _ _ _ _ c.new.ensures c.number_front-whole.ensures c.if-not-whole.false (λ narrow. false≢true (sym c.if-not-is_narrow.true ∙ c.is_narrow.ensures.1 narrow))
