-- The elements of the table are all elements of the frame.
use Rattle.std.proofs.Common.{Bool, Ok, ap, map, sym, ◌∙◌}
use Rattle.mo_scope.specs.Worlds.{frame_at, frames_of, member_in, table_in}
use Rattle.mo_names.specs.Sights.{asks}
use Rattle.mo_names.proofs.Tables.{kept_package, open_entries}
use Rattle.mo_names.proofs.kept.kept_package.Goals as goal

pub returns-in-Some : goal.returns-in-Some
returns-in-Some c =
    kept_package (table_in c.args.s.now) (asks (table_in c.args.s.now) c.args.ask.now) c.args.ask.now.place (frame_at c.args.s.now c.args.frame.0)
    (map (member_in (frames_of c.args.s.now)) c.in-Some.table.now) (c.in-Some.ensures.same c.args.ask.now.place) c.in-Some.ensures.idle c.in-Some.ensures.elements
    ∙ ap (λ (all : Bool). Ok all) (open_entries (frames_of c.args.s.now) c.in-Some.table.now ∙ sym c.is_open.ensures)
