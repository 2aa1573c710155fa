use Rattle.std.proofs.Common.{ℕ, Bool, sym, length, subst}
use Rattle.mo_alias.specs.steps.Findings.{AreFindings}
use Rattle.mo_alias.specs.steps.Forests.{AreWithin}
use Rattle.mo_alias.specs.steps.Leasts.{AreGoneBelow, AreRoots}
use Rattle.mo_alias.proofs.Firsts.{gone_all}
use Rattle.mo_alias.proofs.find.found.Goals as goal

pub gone-requires-clause-trees : goal.gone-requires-clause-trees
gone-requires-clause-trees c = c.in_ok-findings.ensures.forest.trees

pub gone-requires-clause-size : goal.gone-requires-clause-size
gone-requires-clause-size c = c.in_ok-findings.ensures.size

pub dropped-requires : goal.dropped-requires
dropped-requires c = subst (λ z. AreFindings c.args.said.now (length c.args.said.now) z) (sym c.deref.ensures.value) c.in_ok-findings.ensures.findings

pub loops-requires-clause-findings : goal.loops-requires-clause-findings
loops-requires-clause-findings c = subst (λ z. AreFindings c.args.said.now (length c.args.said.now) z) (sym c.deref-2.ensures.value) c.in_ok-findings.ensures.findings

pub loops-requires-clause-within : goal.loops-requires-clause-within
loops-requires-clause-within c = subst (λ k. AreWithin c.args.said.now k) (sym c.in_ok-findings.ensures.size) c.requires

pub loops-requires-clause-forest : goal.loops-requires-clause-forest
loops-requires-clause-forest c = c.in_ok-findings.ensures.forest

pub returns-clause-gone : goal.returns-clause-gone
returns-clause-gone c =
    gone_all c.args.said.now c.in_ok-findings.trees c.in_ok-findings.ensures.forest c.in_ok-gone.gone
    (subst (λ k. (root : ℕ → ℕ) (sign : ℕ → Bool) → AreRoots c.in_ok-findings.trees root sign → AreGoneBelow root sign k c.in_ok-gone.gone) (sym c.in_ok-findings.ensures.size)
    (rw c.in_ok-gone.ensures.values.0 at c.gone.ensures))

pub returns-clause-dropped : goal.returns-clause-dropped
returns-clause-dropped c = rw (rw c.in_ok-gone.ensures.values.1 at c.both-equations.ensures.values).0 at c.dropped.ensures

pub returns-clause-loops : goal.returns-clause-loops
returns-clause-loops c = rw (rw c.in_ok-gone.ensures.values.1 at c.both-equations.ensures.values).1 at c.loops.ensures
