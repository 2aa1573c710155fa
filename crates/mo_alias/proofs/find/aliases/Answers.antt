use Rattle.std.proofs.Common.{◌+◌, ◌∙◌, List, Option, sym, subst}
use Rattle.std.specs.Prelude.{IfOk}
use Rattle.mo_alias.specs.declared.alias.Alias.{Alias}
use Rattle.mo_alias.specs.Aliases.{AreDropped, AreGone, AreLoops}
use Rattle.mo_alias.specs.steps.Forests.{AreWithin}
use Rattle.mo_alias.specs.Recognized.{aliases_in}
use Rattle.mo_alias.proofs.Bounding.{aliases_within}
use Rattle.mo_alias.proofs.find.aliases.Goals as goal

pub found-requires : goal.found-requires
found-requires c =
    subst (λ (w : List (Option Alias)). AreWithin w (c.in_ok-said.count + 1)) (sym (c.deref.ensures.value ∙ c.in_ok-said.ensures.said))
    (subst (λ k. AreWithin (aliases_in c.args.m.now) (k + 1)) (sym c.in_ok-said.ensures.count) (aliases_within c.args.m.now))

pub returns-clause-gone : goal.returns-clause-gone
returns-clause-gone c = subst (λ (w : List (Option Alias)). IfOk c.found.result (λ a. AreGone w a.gone)) (c.deref.ensures.value ∙ c.in_ok-said.ensures.said) c.found.ensures.gone

pub returns-clause-dropped : goal.returns-clause-dropped
returns-clause-dropped c = subst (λ (w : List (Option Alias)). IfOk c.found.result (λ a. AreDropped w a.dropped)) (c.deref.ensures.value ∙ c.in_ok-said.ensures.said) c.found.ensures.dropped

pub returns-clause-loops : goal.returns-clause-loops
returns-clause-loops c = subst (λ (w : List (Option Alias)). IfOk c.found.result (λ a. AreLoops w a.loops)) (c.deref.ensures.value ∙ c.in_ok-said.ensures.said) c.found.ensures.loops
