use Rattle.std.proofs.Common.{◌∙◌, ℕ, List, [], get_or, sym, ap, arith, inl, inr}
use Rattle.std.proofs.lemmas.Bool.Decides.{eqb_tells}
use Rattle.std.proofs.lemmas.List.{ext_get_or}
use Rattle.mo_incidence.specs.Blocks.{numbers_in}
use Rattle.mo_graph.proofs.Lists.{numbers_at, length_numbers}
use Rattle.mo_certify.proofs.block_lists.same_lists.Goals as goal

pub returns-then-not-same_numbers-clause-no : goal.returns-then-not-same_numbers-clause-no
returns-then-not-same_numbers-clause-no c = λ _ same.
    let left = numbers_at c.args.left.now c.loop-b.b c.index-left-b.result (omega arith) c.index-left-b.is in
    let right = numbers_at c.args.right.now c.loop-b.b c.index-right-b.result (omega arith) c.index-right-b.is in
    c.same_numbers.ensures.no c.if-not-same_numbers.true
    (c.deref.ensures.value ∙ sym left ∙ ap (λ (z : List (List ℕ)). get_or z c.loop-b.b []) same ∙ right ∙ sym c.deref-in-loop-b.ensures.value)

pub loop-b-preserved : goal.loop-b-preserved
loop-b-preserved c = λ i l.
    let left = numbers_at c.args.left.now c.loop-b.b c.index-left-b.result (omega arith) c.index-left-b.is in
    let right = numbers_at c.args.right.now c.loop-b.b c.index-right-b.result (omega arith) c.index-right-b.is in
    elim (eqb_tells i c.loop-b.b) [
      | inl e ↦ rw e.1 (left ∙ sym c.deref.ensures.value ∙ c.same_numbers.ensures.yes c.if-not-same_numbers.false ∙ c.deref-in-loop-b.ensures.value ∙ sym right)
      | inr e ↦ c.loop-b.invariant i (omega (arith, e.1))
    ]

pub returns-clause-yes : goal.returns-clause-yes
returns-clause-yes c = λ _.
    let a = length_numbers c.args.left.now in
    let b = length_numbers c.args.right.now in
    ext_get_or [] (numbers_in c.args.left.now) (numbers_in c.args.right.now) (omega arith) (λ i l. c.loop-b.invariant i (omega arith))
