-- The sections of the class of a frame.
use Rattle.std.proofs.Common.{List, Ok, refl, ap, sym}
use Rattle.mo_scope.specs.Worlds.{frame_at, frames_of, table_in}
use Rattle.mo_equations.specs.declared.sections.Placed.{Placed as PlacedAt}
use Rattle.mo_equations.specs.Expansion.{Placed, made_placed}
use Rattle.mo_equations.specs.Gathering.{turn_each}
use Rattle.mo_equations.specs.steps.Standing.{tree_in}
use Rattle.mo_equations.proofs.Parted.{puts_as, puts_nothing, sections_none, sections_some}
use Rattle.mo_equations.proofs.Staying.{stays_still}
use Rattle.mo_equations.proofs.sections.put_frame.Goals as goal

pub returns-in-Some-clause-exact : goal.returns-in-Some-clause-exact
returns-in-Some-clause-exact c =
    let placed : PlacedAt = record { frame = c.args.frame; class = c.in-Some.class } in
    puts_as c.put_class.result c.args.parts.now c.put_class.new.parts c.put_class.new.desk _ _
    (ap (λ (ps : List Placed). turn_each (made_placed (tree_in c.args.s.now c.args.desk.now.leaves)) ps c.args.desk.now.turns) (sections_some (table_in c.args.s.now) (frames_of c.args.s.now) placed (sym c.in-Some.ensures)))
    c.put_class.ensures.exact

pub returns-in-None-clause-exact : goal.returns-in-None-clause-exact
returns-in-None-clause-exact c =
    puts_as (Ok tt) c.args.parts.now c.args.parts.now c.args.desk.now _ _
    (ap (λ (ps : List Placed). turn_each (made_placed (tree_in c.args.s.now c.args.desk.now.leaves)) ps c.args.desk.now.turns) (sym (sections_none (table_in c.args.s.now) (frame_at c.args.s.now c.args.frame.0) (sym c.in-None.ensures))))
    (puts_nothing c.args.parts.now c.args.desk.now c.args.desk.now.turns refl)

-- ---- what goes on

pub returns-in-Some-clause-goes : goal.returns-in-Some-clause-goes
returns-in-Some-clause-goes c = c.put_class.ensures.goes

pub returns-in-None-clause-goes : goal.returns-in-None-clause-goes
returns-in-None-clause-goes c = (stays_still c.args.s.now c.args.desk.now c.requires.desk).goes
