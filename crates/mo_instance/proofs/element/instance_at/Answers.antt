-- What it is as a leaf, then the instance.
use Rattle.std.proofs.Common.{Ok, Option, ap, sym, ◌∙◌}
use Rattle.mo_scope.specs.Instances.{Instance, Leaf}
use Rattle.mo_scope.specs.Worlds.{frame_at, frames_of}
use Rattle.mo_names.specs.Sights.{member_of}
use Rattle.mo_instance.specs.Elements.{instance_of}
use Rattle.mo_syntax.specs.Outcome.{Outcome, and_then}
use Rattle.mo_instance.proofs.element.instance_at.Goals as goal

pub returns-clause-value : goal.returns-clause-value
returns-clause-value c =
    ap (λ (o : Outcome (Option Leaf)). and_then o (λ leaf. Ok (instance_of (member_of (frames_of c.args.s.now) c.args.member.now) c.args.dims.now (frame_at c.args.s.now c.args.frame.0) leaf))) c.in_ok-leaf.ensures.value
    ∙ ap (λ (instance : Instance). Ok instance) (sym c.in_ok-instance_of.ensures.is)
