use Rattle.std.proofs.Common.{◌∙◌, sym}
use Rattle.mo_alias.proofs.alias.alias_of.Goals as goal
use Rattle.mo_alias.proofs.Recognizing.{left_zero, right_zero, two_sides}

pub returns-then-is_zero : goal.returns-then-is_zero
returns-then-is_zero c =
    left_zero c.args.numbers.now c.args.q.now (sym c.is_zero.ensures ∙ c.if-is_zero.true) c.two_terms.result c.said_of.result c.two_terms.ensures c.said_of.ensures

pub returns-then-is_zero-2 : goal.returns-then-is_zero-2
returns-then-is_zero-2 c =
    right_zero c.args.numbers.now c.args.q.now (sym c.is_zero.ensures ∙ c.if-is_zero.false) (sym c.is_zero-2.ensures ∙ c.if-is_zero-2.true) c.two_terms-then-is_zero-2.result c.said_of-then-is_zero-2.result c.two_terms-then-is_zero-2.ensures c.said_of-then-is_zero-2.ensures

pub returns : goal.returns
returns c =
    two_sides c.args.numbers.now c.args.q.now (sym c.is_zero.ensures ∙ c.if-is_zero.false) (sym c.is_zero-2.ensures ∙ c.if-is_zero-2.false) c.signed_unknown-left.result c.signed_unknown.result c.pair_of.result c.said_of-2.result c.signed_unknown-left.ensures c.signed_unknown.ensures c.pair_of.ensures c.said_of-2.ensures
