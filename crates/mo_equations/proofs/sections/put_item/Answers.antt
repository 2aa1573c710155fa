-- The section of an item.
use Rattle.std.proofs.Common.{◌≡◌, ◌∷◌, [], List, map, refl, ap, sym}
use Rattle.mo_syntax.specs.declared.class.Item.TheVariants.{outs-Equations}
use Rattle.mo_scope.specs.Worlds.{frames_of}
use Rattle.mo_equations.specs.Expansion.{made_placed}
use Rattle.mo_equations.specs.Gathering.{turn_each}
use Rattle.mo_equations.specs.Sections.{Section, Equations, section_in}
use Rattle.mo_equations.specs.steps.Standing.{tree_in}
use Rattle.mo_equations.specs.steps.Placing.{placed_as}
use Rattle.mo_equations.proofs.Parted.{puts_as}
use Rattle.mo_equations.proofs.Staying.{stays_still}
use Rattle.mo_equations.proofs.sections.put_item.Goals as goal

pub returns-in-Equations-clause-exact : goal.returns-in-Equations-clause-exact
returns-in-Equations-clause-exact c =
    let x = c.in-Equations in
    let told : section_in c.args.item.now ≡ Equations x.initial x.equations ∷ [] = rw (x.is, outs-Equations x.initial x.equations) refl in
    puts_as c.put_equations.result c.args.parts.now c.put_equations.new.parts c.put_equations.new.desk _ _
    (ap (λ (ss : List Section). turn_each (made_placed (tree_in c.args.s.now c.args.desk.now.leaves)) (map (placed_as (frames_of c.args.s.now) c.args.placed.now) ss) c.args.desk.now.turns) (sym told))
    (rw c.as_slice-equations.ensures at c.put_equations.ensures.exact)

-- ---- what goes on

pub returns-in-Equations-clause-goes : goal.returns-in-Equations-clause-goes
returns-in-Equations-clause-goes c = c.put_equations.ensures.goes

pub returns-in-Algorithm-clause-goes : goal.returns-in-Algorithm-clause-goes
returns-in-Algorithm-clause-goes c = (stays_still c.args.s.now c.args.desk.now c.requires.desk).goes
