-- Element by element.
use Rattle.std.proofs.Common.{arith, rules, sym, ◌∙◌}
use Rattle.std.proofs.lemmas.List.{take_all}
use Rattle.mo_same.proofs.Alike.{one_more, same_arguments}
use Rattle.mo_same.proofs.+same.Goals as goal

pub are_same-loop-k-preserved : goal.are_same-loop-k-preserved
are_same-loop-k-preserved t c = one_more c.args.a.now c.args.b.now c.loop-k.k c.index-a-k.result c.index-b-k.result c.loop-k-test.true (omega arith) c.loop-k.invariant c.index-a-k.is c.index-b-k.is (c.is_same.ensures (search rules))

pub are_same-returns : goal.are_same-returns
are_same-returns t c = λ _. sym (take_all c.loop-k.k c.args.a.now (omega arith)) ∙ c.loop-k.invariant ∙ take_all c.loop-k.k c.args.b.now (omega arith)

pub are_same_arguments-loop-k-preserved : goal.are_same_arguments-loop-k-preserved
are_same_arguments-loop-k-preserved t c = one_more c.args.a.now c.args.b.now c.loop-k.k c.index-a-k.result c.index-b-k.result c.loop-k-test.true (omega arith) c.loop-k.invariant c.index-a-k.is c.index-b-k.is (c.is_same_argument.ensures (search rules))

pub are_same_arguments-returns : goal.are_same_arguments-returns
are_same_arguments-returns t c = λ _. sym (take_all c.loop-k.k c.args.a.now (omega arith)) ∙ c.loop-k.invariant ∙ take_all c.loop-k.k c.args.b.now (omega arith)

pub are_same_factors-loop-k-preserved : goal.are_same_factors-loop-k-preserved
are_same_factors-loop-k-preserved t c = one_more c.args.a.now c.args.b.now c.loop-k.k c.index-a-k.result c.index-b-k.result c.loop-k-test.true (omega arith) c.loop-k.invariant c.index-a-k.is c.index-b-k.is (c.is_same_factor.ensures (search rules))

pub are_same_factors-returns : goal.are_same_factors-returns
are_same_factors-returns t c = λ _. sym (take_all c.loop-k.k c.args.a.now (omega arith)) ∙ c.loop-k.invariant ∙ take_all c.loop-k.k c.args.b.now (omega arith)

pub are_same_options-loop-k-preserved : goal.are_same_options-loop-k-preserved
are_same_options-loop-k-preserved t c = one_more c.args.a.now c.args.b.now c.loop-k.k c.index-a-k.result c.index-b-k.result c.loop-k-test.true (omega arith) c.loop-k.invariant c.index-a-k.is c.index-b-k.is (c.is_same_option.ensures (search rules))

pub are_same_options-returns : goal.are_same_options-returns
are_same_options-returns t c = λ _. sym (take_all c.loop-k.k c.args.a.now (omega arith)) ∙ c.loop-k.invariant ∙ take_all c.loop-k.k c.args.b.now (omega arith)

pub are_same_parts-loop-k-preserved : goal.are_same_parts-loop-k-preserved
are_same_parts-loop-k-preserved t c = one_more c.args.a.now c.args.b.now c.loop-k.k c.index-a-k.result c.index-b-k.result c.loop-k-test.true (omega arith) c.loop-k.invariant c.index-a-k.is c.index-b-k.is (c.is_same_part.ensures (search rules))

pub are_same_parts-returns : goal.are_same_parts-returns
are_same_parts-returns t c = λ _. sym (take_all c.loop-k.k c.args.a.now (omega arith)) ∙ c.loop-k.invariant ∙ take_all c.loop-k.k c.args.b.now (omega arith)

pub are_same_terms-loop-k-preserved : goal.are_same_terms-loop-k-preserved
are_same_terms-loop-k-preserved t c = one_more c.args.a.now c.args.b.now c.loop-k.k c.index-a-k.result c.index-b-k.result c.loop-k-test.true (omega arith) c.loop-k.invariant c.index-a-k.is c.index-b-k.is (c.is_same_term.ensures (search rules))

pub are_same_terms-returns : goal.are_same_terms-returns
are_same_terms-returns t c = λ _. sym (take_all c.loop-k.k c.args.a.now (omega arith)) ∙ c.loop-k.invariant ∙ take_all c.loop-k.k c.args.b.now (omega arith)

pub are_same_plain-returns : goal.are_same_plain-returns
are_same_plain-returns t c = λ told.
    same_arguments c.args.a.now c.args.b.now (sym c.as_slice.ensures ∙ (c.are_same_arguments.ensures told ∙ c.as_slice-2.ensures))
    (c.are_plain.ensures.named (search rules) ∙ sym (c.are_plain-else-not-are_plain.ensures.named (search rules))) (c.are_plain.ensures.iters (search rules) ∙ sym (c.are_plain-else-not-are_plain.ensures.iters (search rules)))
