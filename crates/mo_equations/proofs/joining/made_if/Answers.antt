-- By the branches that are left.
use Rattle.std.proofs.Common.{true, false, refl, sym, ◌∙◌}
use Rattle.std.proofs.lemmas.Bool.{false≢true}
use Rattle.mo_equations.specs.declared.made.Made.{Made as MadeAt}
use Rattle.mo_equations.specs.steps.Makings.{IsMade}
use Rattle.mo_equations.proofs.Joined.{joined_alone, joined_made, joined_unequal, uncapped}
use Rattle.mo_equations.proofs.Replacings.{answers_breaks}
use Rattle.mo_equations.proofs.joining.made_if.Goals as goal

pub returns-then-is_empty : goal.returns-then-is_empty
returns-then-is_empty c = λ choice is bare. joined_alone c.args.place c.args.choice choice is (c.is_empty.ensures.0 c.if-is_empty.true)

pub returns-then-not-have_equal_counts : goal.returns-then-not-have_equal_counts
returns-then-not-have_equal_counts c = λ choice is bare.
    let apart = rw c.as_slice.ensures at (sym c.have_equal_counts.ensures ∙ c.if-not-have_equal_counts.true) in
    answers_breaks {T = MadeAt} IsMade _ _ _ c.stop.ensures
    (joined_unequal c.args.place c.args.choice choice is (λ none. false≢true (sym c.if-is_empty.false ∙ c.is_empty.ensures.1 none)) (uncapped c.args.choice.other.count _ is.other.count c.if-choice.false) apart)

pub returns : goal.returns
returns c = λ choice is bare.
    let same = rw c.as_slice.ensures at (sym c.have_equal_counts.ensures ∙ c.if-not-have_equal_counts.false) in
    let held : MadeAt = record { count = c.args.choice.other.count; nodes = c.nodes_of_joined-nodes.result; equations = c.in_ok-equations.equations; asserts = c.new.result; connects = c.new-2.result } in
    joined_made c.args.place c.args.choice held choice is bare (λ none. false≢true (sym c.if-is_empty.false ∙ c.is_empty.ensures.1 none)) (uncapped c.args.choice.other.count _ is.other.count c.if-choice.false) same refl
    (rw c.as_slice-2.ensures at c.nodes_of_joined-nodes.ensures) c.in_ok-equations.ensures c.new.ensures c.new-2.ensures
