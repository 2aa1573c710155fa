-- The frames of all instances, and what comes of their sections.
use Rattle.std.proofs.Common.{◌≡◌, ◌∙◌, sym, ap, Err, flat_map, rules}
use Rattle.mo_scope.specs.Worlds.{frames_of}
use Rattle.mo_equations.specs.Expansion.{made_placed, sections_at}
use Rattle.mo_equations.specs.Gathering.{turn_each}
use Rattle.mo_equations.specs.Leaves.{Tree}
use Rattle.mo_equations.specs.steps.Standing.{tree_in}
use Rattle.mo_equations.specs.steps.Placing.{frames_seen, parts_of_tree}
use Rattle.mo_equations.proofs.Expanding.{parts_as, parts_by_frames, parts_halt}
use Rattle.mo_equations.proofs.Staying.{desk_grown, goes_on, same_tree, stays_grown}
use Rattle.mo_equations.proofs.whole.all_parts.Goals as goal

pub returns-in_err-frames-clause-exact : goal.returns-in_err-frames-clause-exact
returns-in_err-frames-clause-exact c =
    let stop = c.in_err-frames.field-0.0 in
    let p : c.from_residual.result ≡ Err stop = search rules in
    rw p (parts_halt (tree_in c.args.s.now c.args.desk.now.leaves) c.args.desk.now c.args.desk.now.turns stop c.in_err-frames.ensures.refused)

pub returns-in_err-frames-clause-goes : goal.returns-in_err-frames-clause-goes
returns-in_err-frames-clause-goes c = (stays_grown c.args.s.now c.frames_of_all.new.s c.args.desk.now c.frames_of_all.ensures.grows c.requires).goes

pub all_sections-requires-clause-desk : goal.all_sections-requires-clause-desk
all_sections-requires-clause-desk c = desk_grown c.args.s.now c.frames_of_all.new.s c.args.desk.now c.in_ok-frames.ensures.grows c.requires

pub returns-clause-goes : goal.returns-clause-goes
returns-clause-goes c =
    goes_on c.args.s.now c.frames_of_all.new.s c.all_sections.new.s c.args.desk.now c.args.desk.now c.all_sections.new.desk
    (stays_grown c.args.s.now c.frames_of_all.new.s c.args.desk.now c.in_ok-frames.ensures.grows c.requires).goes c.all_sections.ensures.goes

pub returns-clause-exact : goal.returns-clause-exact
returns-clause-exact c =
    let s = c.args.s.now in
    let mid = c.frames_of_all.new.s in
    let desk = c.args.desk.now in
    let tree = tree_in s desk.leaves in
    let frames = frames_seen (frames_of mid) c.in_ok-frames.frames in
    let same = same_tree s mid desk desk c.requires (stays_grown s mid desk c.in_ok-frames.ensures.grows c.requires).goes in
    parts_as c.all_sections.result c.all_sections.new.desk _ (parts_of_tree tree desk.turns)
    (ap (λ (tr : Tree). turn_each (made_placed tr) (flat_map (sections_at tr.classes) frames) desk.turns) same ∙ sym (parts_by_frames tree frames desk.turns c.in_ok-frames.ensures.exact))
    (rw c.as_slice.ensures at c.all_sections.ensures.exact)
