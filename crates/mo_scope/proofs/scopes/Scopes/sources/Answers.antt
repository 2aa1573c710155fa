-- The list of the sources that are held by name.
use Rattle.std.proofs.Common.{ap, sym, subst, ◌∙◌}
use Rattle.mo_scope.specs.Worlds.{AreFrames, frames_of, sources_in}
use Rattle.mo_scope.proofs.scopes.Scopes.sources.Goals as goal

pub returns-clause-is : goal.returns-clause-is
returns-clause-is c = ap (sources_in (frames_of c.args.self.now)) c.list.ensures ∙ c.sources_by_name.ensures.is

pub returns-clause-exist : goal.returns-clause-exist
returns-clause-exist c = subst (AreFrames c.args.self.now) (sym c.list.ensures) c.sources_by_name.ensures.exist
