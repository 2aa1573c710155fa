-- The elements of the table are all elements of the frame.
use Rattle.std.proofs.Common.{Ok, Option, ap, map, sym, ◌∙◌}
use Rattle.mo_scope.specs.Frames.{Member}
use Rattle.mo_scope.specs.Worlds.{frame_at, frames_of, member_in, table_in}
use Rattle.mo_names.specs.Sights.{member_of}
use Rattle.mo_names.proofs.Tables.{kept_inner}
use Rattle.mo_lookup.proofs.outer.inner_kept.Goals as goal

pub returns-in-Some-clause-is : goal.returns-in-Some-clause-is
returns-in-Some-clause-is c = λ place.
    let F = frames_of c.args.s.now in
    kept_inner (table_in c.args.s.now) place (frame_at c.args.s.now c.args.owner.0) (member_of F c.args.outer.now) (map (member_in F) c.in-Some.table.now) c.in-Some.ensures.elements
    ∙ ap (λ (o : Option Member). Ok o) (sym c.inner_in_table.ensures.is)
