-- The sources of an entry are those of its frame.
use Rattle.mo_scope.specs.Entries.{entry_seen}
use Rattle.mo_scope.proofs.Numbered.{sources_of_entry, below_frame}
use Rattle.mo_scope.proofs.scopes.Scopes.sources_by_name.Goals as goal

pub returns-clause-is : goal.returns-clause-is
returns-clause-is c = sources_of_entry c.args.self.now c.args.frame.0 (entry_seen c.entry.result.now) c.entry.ensures.is

pub returns-clause-exist : goal.returns-clause-exist
returns-clause-exist c = below_frame c.args.self.now c.args.frame.0 _ c.requires c.entry.ensures.sound.sources
