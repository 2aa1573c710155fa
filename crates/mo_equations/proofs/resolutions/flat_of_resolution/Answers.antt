-- The layers, then the element.
use Rattle.std.proofs.Common.{◌≡◌, ℕ, Err, rules, subst, sym}
use Rattle.mo_scope.specs.Worlds.{frames_of, scope_in, table_in}
use Rattle.mo_eval.specs.Seen.{resolved_seen}
use Rattle.mo_equations.specs.Replacing.{flat_element}
use Rattle.mo_equations.specs.steps.Flats.{Answers, IsFlat}
use Rattle.mo_equations.specs.steps.Standing.{replacing_in}
use Rattle.mo_equations.specs.steps.Layers.{fit_of, wanted_of}
use Rattle.mo_equations.proofs.Replacings.{flat_at_then, flat_at_unlayered}
use Rattle.mo_equations.proofs.ResolvedOnce.{resolution_with, then_ok}
use Rattle.mo_equations.proofs.Staying.{same_tree, stays_still}
use Rattle.mo_equations.proofs.resolutions.flat_of_resolution.Goals as goal

pub returns-in_err-answer-clause-exact : goal.returns-in_err-answer-clause-exact
returns-in_err-answer-clause-exact c =
    let a = c.args.asked.now in
    let stop = c.in_err-answer.field-0.0 in
    let p : c.from_residual.result ≡ Err stop = search rules in
    rw p (flat_at_unlayered (table_in c.args.s.now) a.left (replacing_in c.args.s.now c.args.desk.now.leaves a.left) (wanted_of a.layers.want a.layers.place) (fit_of a.layers.fit a.layers.place)
    (scope_in (frames_of c.args.s.now) a.at.now.frame.0 a.at.now.iters) a.value.now a.index.now (resolved_seen (frames_of c.args.s.now) c.args.resolution.now.resolved) stop c.requires.is (rw (c.layered_so.ensures c.args.resolution.now.resolved.expression c.requires.resolution.layers) at c.in_err-answer.ensures))

pub flat_of_array-requires-clause-there : goal.flat_of_array-requires-clause-there
flat_of_array-requires-clause-there c = rw c.as_slice.ensures c.requires.resolution.there

pub flat_of_array-requires-clause-replaced : goal.flat_of_array-requires-clause-replaced
flat_of_array-requires-clause-replaced c = rw c.as_slice.ensures c.requires.resolution.replaced

pub returns-clause-exact : goal.returns-clause-exact
returns-clause-exact c =
    let a = c.args.asked.now in
    let r = resolved_seen (frames_of c.args.s.now) c.args.resolution.now.resolved in
    flat_at_then (table_in c.args.s.now) a.left (replacing_in c.args.s.now c.args.desk.now.leaves a.left) (wanted_of a.layers.want a.layers.place) (fit_of a.layers.fit a.layers.place)
    (scope_in (frames_of c.args.s.now) a.at.now.frame.0 a.at.now.iters) a.value.now a.index.now r c.flat_of_array.result c.requires.is (rw (c.layered_so.ensures c.args.resolution.now.resolved.expression c.requires.resolution.layers) at c.in_ok-answer.ensures)
    (subst (λ (n : ℕ). Answers IsFlat c.flat_of_array.result (flat_element (replacing_in c.args.s.now c.args.desk.now.leaves n) r a.index.now)) (sym c.requires.left) (rw c.as_slice.ensures at c.flat_of_array.ensures.exact))

pub returns-clause-resolution : goal.returns-clause-resolution
returns-clause-resolution c =
    let u = c.args.s.now in
    let v = c.flat_of_array.new.s in
    let goes = c.flat_of_array.ensures.stays.goes in
    let same = same_tree u v c.args.desk.now c.flat_of_array.new.desk c.requires.desk goes in
    then_ok c.flat_of_array.result
    (resolution_with u v c.args.desk.now.leaves c.flat_of_array.new.desk.leaves c.args.resolution.now c.flat_of_array.new.replaced goes.grows same c.requires.resolution) (rw c.as_slice.ensures at c.flat_of_array.ensures.replaced)

-- ---- what stays

pub returns-in_err-answer-clause-stays : goal.returns-in_err-answer-clause-stays
returns-in_err-answer-clause-stays c = stays_still c.args.s.now c.args.desk.now c.requires.desk

pub returns-clause-stays : goal.returns-clause-stays
returns-clause-stays c = c.flat_of_array.ensures.stays
