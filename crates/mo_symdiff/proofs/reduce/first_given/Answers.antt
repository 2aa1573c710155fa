use Rattle.std.proofs.Common.{◌∙◌, ◌+◌, ap, sym, refl, drop, get_or}
use Rattle.std.specs.Prelude.{Some, if◌then◌else◌}
use Rattle.mo_symdiff.specs.Reduced.{first_given}
use Rattle.mo_symdiff.proofs.Reducing.{given_turn}
use Rattle.mo_symdiff.proofs.reduce.first_given.Goals as goal

pub returns-then-differentiates_given : goal.returns-then-differentiates_given
returns-then-differentiates_given c =
    let q = c.index-equations-i.result in
    let vars = c.args.vars.now in
    let qs = c.args.equations.now in
    let cs = c.args.counts.now in
    let i = c.loop-i.i in
    ap (λ b. if b then Some q.place else first_given vars (drop (i + 1) qs) (drop (i + 1) cs)) c.if-differentiates_given.ensures
    ∙ sym (given_turn vars qs cs i q (get_or cs i 0) q 0 c.loop-i-test.true c.requires c.index-equations-i.is refl) ∙ c.loop-i.invariant

pub loop-i-preserved : goal.loop-i-preserved
loop-i-preserved c =
    let q = c.index-equations-i.result in
    let vars = c.args.vars.now in
    let qs = c.args.equations.now in
    let cs = c.args.counts.now in
    let i = c.loop-i.i in
    ap (λ b. if b then Some q.place else first_given vars (drop (i + 1) qs) (drop (i + 1) cs)) c.if-differentiates_given.ensures
    ∙ sym (given_turn vars qs cs i q (get_or cs i 0) q 0 c.loop-i-test.true c.requires c.index-equations-i.is refl) ∙ c.loop-i.invariant
