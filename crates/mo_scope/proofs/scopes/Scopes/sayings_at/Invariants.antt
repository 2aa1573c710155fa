-- What was added is what is said at the mentions so far.
use Rattle.std.proofs.Common.{◌≡◌, flat_map, map, take}
use Rattle.mo_scope.specs.Mentions.{mention_seen, said_at}
use Rattle.mo_scope.specs.Sights.{saying_in}
use Rattle.mo_scope.specs.Worlds.{frames_of, sources_in, table_in}
use Rattle.mo_scope.proofs.scopes.Scopes.sayings_at.Given as goal

abbrev pub invariant-loop-mention : goal.invariant-loop-mention
invariant-loop-mention l =
    map (saying_in (frames_of l.self)) l.made
    ≡ flat_map (λ mention. said_at (table_in l.self) l.asked.name.now l.asked.index.now (sources_in (frames_of l.self) l.sources) (mention_seen mention)) (take l.mention-index l.mentions)
