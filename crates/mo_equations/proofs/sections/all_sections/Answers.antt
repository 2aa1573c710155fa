-- The sections of one frame more.
use Rattle.std.proofs.Common.{◌≡◌, ◌++◌, [], List, Err, flat_map, refl, ap, sym, ◌∙◌, rules}
use Rattle.std.proofs.lemmas.List.{take_all}
use Rattle.mo_syntax.specs.declared.meaning.FrameId.{FrameId}
use Rattle.mo_equations.specs.Expansion.{made_placed}
use Rattle.mo_equations.specs.Gathering.{turn_each}
use Rattle.mo_equations.specs.steps.Standing.{tree_in}
use Rattle.mo_equations.specs.steps.Placing.{sections_with}
use Rattle.mo_equations.proofs.Parted.{item_later, told_all, told_more, told_stops}
use Rattle.mo_equations.proofs.Staying.{goes_on, same_tree, stays_still}
use Rattle.mo_equations.proofs.sections.all_sections.Goals as goal

pub loop-frame-init : goal.loop-frame-init
loop-frame-init c = record {
  goes = (stays_still c.args.s.now c.args.desk.now c.requires.desk).goes;
  parts = [];
  told = refl;
  are = c.new-parts.ensures;
}

pub put_frame-requires-clause-frame : goal.put_frame-requires-clause-frame
put_frame-requires-clause-frame c = item_later c.args.s.now c.loop-frame.s c.args.frames.now c.loop-frame.frame-index _ c.loop-frame.invariant.goes.grows c.requires.frames c.loop-frame-test.true

pub returns-in_err-put_frame-clause-goes : goal.returns-in_err-put_frame-clause-goes
returns-in_err-put_frame-clause-goes c = goes_on c.args.s.now c.loop-frame.s c.put_frame.new.s c.args.desk.now c.loop-frame.desk c.put_frame.new.desk c.loop-frame.invariant.goes c.in_err-put_frame.ensures.goes

pub returns-in_err-put_frame-clause-exact : goal.returns-in_err-put_frame-clause-exact
returns-in_err-put_frame-clause-exact c =
    let inv = c.loop-frame.invariant in
    let stop = c.in_err-put_frame.field-0.0 in
    let p : c.from_residual.result ≡ Err stop = search rules in
    rw p (told_stops c.args.s.now c.loop-frame.s c.args.frames.now c.loop-frame.frame-index _ inv.goes.grows c.requires.frames c.loop-frame-test.true
    (tree_in c.args.s.now c.args.desk.now.leaves) (tree_in c.loop-frame.s c.loop-frame.desk.leaves) (same_tree c.args.s.now c.loop-frame.s c.args.desk.now c.loop-frame.desk c.requires.desk inv.goes)
    c.args.desk.now.turns inv.parts c.loop-frame.desk inv.told c.loop-frame.parts c.put_frame.new.parts c.put_frame.new.desk c.put_frame.new.desk stop c.in_err-put_frame.ensures.exact)

pub loop-frame-preserved : goal.loop-frame-preserved
loop-frame-preserved c =
    let inv = c.loop-frame.invariant in
    let exact = c.in_ok-put_frame.ensures.exact in
    record {
      goes = goes_on c.args.s.now c.loop-frame.s c.put_frame.new.s c.args.desk.now c.loop-frame.desk c.put_frame.new.desk inv.goes c.in_ok-put_frame.ensures.goes;
      parts = inv.parts ++ exact.0;
      told = told_more c.args.s.now c.loop-frame.s c.args.frames.now c.loop-frame.frame-index _ inv.goes.grows c.requires.frames c.loop-frame-test.true
          (tree_in c.args.s.now c.args.desk.now.leaves) (tree_in c.loop-frame.s c.loop-frame.desk.leaves) (same_tree c.args.s.now c.loop-frame.s c.args.desk.now c.loop-frame.desk c.requires.desk inv.goes)
          c.args.desk.now.turns inv.parts c.loop-frame.desk inv.told exact.0 c.put_frame.new.desk exact.1;
      are = exact.2 inv.parts inv.are;
    }

pub returns-clause-exact : goal.returns-clause-exact
returns-clause-exact c =
    let inv = c.loop-frame.invariant in
    let tree = tree_in c.args.s.now c.args.desk.now.leaves in (
      inv.parts,
      told_all c.args.s.now c.args.frames.now tree c.args.desk.now.turns
          ∙ ap (λ (fs : List FrameId). turn_each (made_placed tree) (flat_map (sections_with c.args.s.now) fs) c.args.desk.now.turns) (sym (take_all c.loop-frame.frame-index c.args.frames.now c.loop-frame-test.false))
          ∙ inv.told,
      inv.are,
    )
