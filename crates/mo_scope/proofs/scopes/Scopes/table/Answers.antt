-- What the invariant says of a kept table.
use Rattle.std.proofs.Common.{◌≡◌, ◌∙◌, sym, map, Ok}
use Rattle.mo_scope.specs.Entries.{table_seen}
use Rattle.mo_scope.specs.Names.{elements_of}
use Rattle.mo_scope.specs.Worlds.{AreHomes, frame_at, frames_of, member_in, table_in}
use Rattle.mo_scope.proofs.Numbered.{if_kept}
use Rattle.mo_scope.proofs.scopes.Scopes.table.Goals as goal

pub returns-clause-is : goal.returns-clause-is
returns-clause-is c = c.as_ref.ensures.value ∙ sym c.entry.ensures.kept

pub returns-clause-elements : goal.returns-clause-elements
returns-clause-elements c = if_kept (λ ms. elements_of (table_in c.args.self.now) (frame_at c.args.self.now c.args.frame.0) ≡ Ok (map (member_in (frames_of c.args.self.now)) ms))
    c.as_ref.result (table_seen c.entry.result.now) c.as_ref.ensures.value (λ ms at. (c.entry.ensures.table ms at).elements)

pub returns-clause-homes : goal.returns-clause-homes
returns-clause-homes c = if_kept (AreHomes c.args.self.now) c.as_ref.result (table_seen c.entry.result.now) c.as_ref.ensures.value (λ ms at. (c.entry.ensures.table ms at).homes)
