use Rattle.std.proofs.Common.{◌≢◌, ◌<◌, ◌-◌, arith, slice_index_or, get_or-set_same, get_or-set_other, ◌∙◌, inl, inr}
use Rattle.std.proofs.lemmas.Bool.Decides.{eqb_tells}
use Rattle.mo_incidence.specs.Signature.{equations}
use Rattle.mo_incidence.proofs.Owning.{tight_known}
use Rattle.mo_blocks.proofs.derivatives.note_depths.Goals as goal

pub bounds-depth-pairs : goal.bounds-depth-pairs
bounds-depth-pairs c =
    let inside : c.loop-i.i < equations c.args.inc.now = omega arith in
    let known = tight_known _ _ _ _ _ c.equations-equations.ensures.sound inside (c.requires.tight.allowed c.loop-i.i inside (c.requires.all c.loop-i.i inside)) in
    omega (arith, known.0, known.1)

pub loop-i-preserved : goal.loop-i-preserved
loop-i-preserved c = λ r l.
    let inside : c.loop-i.i < equations c.args.inc.now = omega arith in
    let known = tight_known _ _ _ _ _ c.equations-equations.ensures.sound inside (c.requires.tight.allowed c.loop-i.i inside (c.requires.all c.loop-i.i inside)) in
    elim (eqb_tells r c.loop-i.i) [
      | inl e ↦ rw e.1 (get_or-set_same c.loop-i.depth (slice_index_or c.args.pairs.now c.loop-i.i 0 - 1) (slice_index_or c.args.c.now c.loop-i.i 0) 0 (omega (arith, known.0, known.1)))
      | inr e ↦
          let rl : r < equations c.args.inc.now = omega arith in
          let other = tight_known _ _ _ _ _ c.equations-equations.ensures.sound rl (c.requires.tight.allowed r rl (c.requires.all r rl)) in
          let ne : slice_index_or c.args.pairs.now r 0 - 1 ≢ slice_index_or c.args.pairs.now c.loop-i.i 0 - 1 = λ same. e.1 (c.requires.tight.apart r c.loop-i.i rl inside (c.requires.all r rl) (omega (arith, known.0, other.0))) in
          get_or-set_other c.loop-i.depth (slice_index_or c.args.pairs.now c.loop-i.i 0 - 1) (slice_index_or c.args.pairs.now r 0 - 1) (slice_index_or c.args.c.now c.loop-i.i 0) 0 ne ∙ c.loop-i.invariant r (omega (arith, e.1))
    ]
