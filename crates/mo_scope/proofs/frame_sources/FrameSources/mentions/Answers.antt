-- What is held of the name.
use Rattle.std.proofs.Common.{ap, ◌∙◌}
use Rattle.mo_scope.specs.Mentions.{mentions_of}
use Rattle.mo_scope.proofs.frame_sources.FrameSources.mentions.Goals as goal

pub returns : goal.returns
returns c = c.under.ensures ∙ c.self.invariant c.args.name.now ∙ ap (mentions_of c.args.name.now) c.self.view_is
