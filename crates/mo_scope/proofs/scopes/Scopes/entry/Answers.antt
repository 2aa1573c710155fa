-- What the invariant says of an entry.
use Rattle.std.proofs.Common.{ap}
use Rattle.mo_scope.specs.Entries.{entry_seen, table_seen}
use Rattle.mo_scope.proofs.Numbered.{entry_sound, entry_is, read_at, table_at, table_sound}
use Rattle.mo_scope.proofs.scopes.Scopes.entry.Goals as goal

pub returns-clause-at : goal.returns-clause-at
returns-clause-at c = read_at entry_seen c.args.self.now c.self.inside.frames.items c.args.frame.0 c.index.result.now (ap (λ w. w.entries) c.self.view_is) c.requires c.index.ensures

pub returns-clause-sound : goal.returns-clause-sound
returns-clause-sound c = entry_sound _ _ c.self.view_is c.self.invariant.world c.args.frame.0 (entry_seen c.index.result.now)
    (read_at entry_seen c.args.self.now c.self.inside.frames.items c.args.frame.0 c.index.result.now (ap (λ w. w.entries) c.self.view_is) c.requires c.index.ensures)

pub returns-clause-is : goal.returns-clause-is
returns-clause-is c = entry_is _ _ c.self.view_is c.self.invariant.world c.args.frame.0 (entry_seen c.index.result.now)
    (read_at entry_seen c.args.self.now c.self.inside.frames.items c.args.frame.0 c.index.result.now (ap (λ w. w.entries) c.self.view_is) c.requires c.index.ensures)

pub returns-clause-kept : goal.returns-clause-kept
returns-clause-kept c = table_at table_seen entry_seen c.args.self.now c.self.inside.frames.items c.args.frame.0 c.index.result.now (ap (λ w. w.tables) c.self.view_is) (ap (λ w. w.entries) c.self.view_is) c.requires c.index.ensures

pub returns-clause-table : goal.returns-clause-table
returns-clause-table c = table_sound _ _ c.self.view_is c.self.invariant.world c.args.frame.0 (table_seen c.index.result.now)
    (table_at table_seen entry_seen c.args.self.now c.self.inside.frames.items c.args.frame.0 c.index.result.now (ap (λ w. w.tables) c.self.view_is) (ap (λ w. w.entries) c.self.view_is) c.requires c.index.ensures)
