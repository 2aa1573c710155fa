-- A section of equations.
use Rattle.std.proofs.Common.{◌≡◌, Err, rules}
use Rattle.mo_scope.specs.Worlds.{frame_in, frames_of}
use Rattle.mo_equations.specs.steps.Standing.{tree_in}
use Rattle.mo_equations.proofs.Parted.{puts_section, stops_section}
use Rattle.mo_equations.proofs.sections.put_equations.Goals as goal

pub returns-in_err-made-clause-exact : goal.returns-in_err-made-clause-exact
returns-in_err-made-clause-exact c =
    let frame = frame_in (frames_of c.args.s.now) c.args.placed.now.frame.0 in
    let stop = c.in_err-made.field-0.0 in
    let p : c.from_residual.result ≡ Err stop = search rules in
    rw p (stops_section (tree_in c.args.s.now c.args.desk.now.leaves) frame c.args.placed.now.class.now.place c.args.initial c.args.equations.now c.args.desk.now.turns c.made_section.new.desk c.made_section.new.desk
    c.args.parts.now c.args.parts.now stop (rw c.new.ensures at c.in_err-made.ensures.exact))

pub returns-clause-exact : goal.returns-clause-exact
returns-clause-exact c =
    let frame = frame_in (frames_of c.args.s.now) c.args.placed.now.frame.0 in
    puts_section (tree_in c.args.s.now c.args.desk.now.leaves) frame c.args.placed.now.class.now.place c.args.initial c.args.equations.now c.args.desk.now.turns c.in_ok-made.made c.args.parts.now c.append.new.self c.made_section.new.desk
    (rw c.new.ensures at c.in_ok-made.ensures.exact) c.in_ok-append.ensures

-- ---- what goes on

pub returns-in_err-made-clause-goes : goal.returns-in_err-made-clause-goes
returns-in_err-made-clause-goes c = c.in_err-made.ensures.goes

pub returns-in_err-append-clause-goes : goal.returns-in_err-append-clause-goes
returns-in_err-append-clause-goes c = c.in_ok-made.ensures.goes

pub returns-clause-goes : goal.returns-clause-goes
returns-clause-goes c = c.in_ok-made.ensures.goes
