-- The binding, if there is one.
use Rattle.std.proofs.Common.{ap, sym, ◌∙◌}
use Rattle.std.specs.Prelude.{option_map}
use Rattle.mo_scope.specs.Trees.{chosen_in}
use Rattle.mo_scope.specs.Worlds.{frames_of}
use Rattle.mo_instance.specs.Elements.{no_leaf}
use Rattle.mo_instance.proofs.leaf.no_leaf.Goals as goal

pub returns-in-Some-clause-value : goal.returns-in-Some-clause-value
returns-in-Some-clause-value c =
    rw c.stop.ensures (ap no_leaf (sym c.in_ok-found.ensures.is ∙ ap (option_map (chosen_in (frames_of c.args.s.now))) c.in-Some.is))

pub returns-in-None-clause-value : goal.returns-in-None-clause-value
returns-in-None-clause-value c = ap no_leaf (sym c.in_ok-found.ensures.is ∙ ap (option_map (chosen_in (frames_of c.args.s.now))) c.in-None.is)
