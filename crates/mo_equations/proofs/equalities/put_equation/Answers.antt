-- The equation of the elements at an index.
use Rattle.std.proofs.Common.{◌≡◌, ℕ, [], ◌∷◌, Err, ap, sym, subst, ◌∙◌, rules}
use Rattle.mo_flat.specs.declared.expr.FlatExpr.{FlatExpr}
use Rattle.mo_scope.specs.Worlds.{frames_of}
use Rattle.mo_arrays.specs.Elements.{element_of}
use Rattle.mo_arrays.specs.Equations.{equation}
use Rattle.mo_eval.specs.Seen.{virtuals_seen}
use Rattle.mo_eval.specs.Values.{most_references}
use Rattle.mo_eval.proofs.Grown.{there_still}
use Rattle.mo_equations.specs.declared.flat.Flat.{Flat}
use Rattle.mo_equations.specs.Replacing.{with_variables}
use Rattle.mo_equations.specs.steps.Flats.{IsFlat}
use Rattle.mo_equations.specs.steps.Standing.{AreReplaced, tree_in}
use Rattle.mo_equations.proofs.Replacings.{answers_as}
use Rattle.mo_equations.proofs.Sided.{both_are, left_stops, right_stops, same_variables}
use Rattle.mo_equations.proofs.Staying.{stays_on}
use Rattle.mo_syntax.specs.Outcome.{Outcome}
use Rattle.mo_equations.proofs.equalities.put_equation.Goals as goal

pub returns-in_err-left-clause-exact : goal.returns-in_err-left-clause-exact
returns-in_err-left-clause-exact c =
    let world = c.args.s.now in
    let desk = c.args.desk.now in
    let tree = tree_in world desk.leaves in
    let sides = c.args.sides.now in
    let virtuals = virtuals_seen (frames_of world) sides.virtuals in
    let q = equation sides.left sides.right c.args.place c.args.index.now in
    let stop = c.in_err-left.field-0.0 in
    let p : c.from_residual.result ≡ Err stop = search rules in
    rw p (left_stops tree virtuals q _ _ stop (rw c.as_slice-virtuals.ensures at c.in_err-left.ensures.exact))

pub returns-in_err-right-clause-exact : goal.returns-in_err-right-clause-exact
returns-in_err-right-clause-exact c =
    let world = c.args.s.now in
    let desk = c.args.desk.now in
    let tree = tree_in world desk.leaves in
    let sides = c.args.sides.now in
    let virtuals = virtuals_seen (frames_of world) sides.virtuals in
    let q = equation sides.left sides.right c.args.place c.args.index.now in
    let left = rw c.as_slice-virtuals.ensures at c.in_ok-left.ensures.exact in
    let same = same_variables world c.flat_of_array.new.s desk c.flat_of_array.new.desk most_references sides.virtuals c.requires.desk c.in_ok-left.ensures.stays.goes c.requires.there in
    let stop = c.in_err-right.field-0.0 in
    let p : c.from_residual-in_err-right.result ≡ Err stop = search rules in
    rw p (right_stops tree virtuals q _ _ left.0 stop left.1
    (answers_as {T = Flat} IsFlat (Err stop) _ _ (ap (λ (V : ℕ → Outcome FlatExpr). with_variables V (element_of sides.right c.args.index.now)) same) (rw c.as_slice-virtuals.ensures at c.in_err-right.ensures.exact)))

pub returns-clause-exact : goal.returns-clause-exact
returns-clause-exact c =
    let world = c.args.s.now in
    let desk = c.args.desk.now in
    let tree = tree_in world desk.leaves in
    let sides = c.args.sides.now in
    let virtuals = virtuals_seen (frames_of world) sides.virtuals in
    let q = equation sides.left sides.right c.args.place c.args.index.now in
    let left = rw c.as_slice-virtuals.ensures at c.in_ok-left.ensures.exact in
    let same = same_variables world c.flat_of_array.new.s desk c.flat_of_array.new.desk most_references sides.virtuals c.requires.desk c.in_ok-left.ensures.stays.goes c.requires.there in
    let right = rw c.as_slice-virtuals.ensures at c.in_ok-right.ensures.exact in
    let right_is = ap (λ (V : ℕ → Outcome FlatExpr). with_variables V (element_of sides.right c.args.index.now)) (sym same) ∙ right.1 in (
      record { left = left.0; right = right.0; place = c.args.place } ∷ [],
      both_are tree virtuals q left.0 right.0 left.1 right_is,
      λ before is. c.in_ok-push_equation.ensures before left.0 right.0 is left.2 right.2,
    )

pub flat_of_array-requires-2-clause-there : goal.flat_of_array-requires-2-clause-there
flat_of_array-requires-2-clause-there c =
    rw c.as_slice-virtuals.ensures (there_still c.args.s.now c.flat_of_array.new.s c.in_ok-left.ensures.stays.goes.grows c.args.sides.now.virtuals c.requires.there)

pub flat_of_array-requires-2-clause-replaced : goal.flat_of_array-requires-2-clause-replaced
flat_of_array-requires-2-clause-replaced c =
    let same = same_variables c.args.s.now c.flat_of_array.new.s c.args.desk.now c.flat_of_array.new.desk most_references c.args.sides.now.virtuals c.requires.desk c.in_ok-left.ensures.stays.goes c.requires.there in
    rw c.as_slice-virtuals.ensures (subst (λ (V : ℕ → Outcome FlatExpr). AreReplaced V c.flat_of_array.new.replaced.items) (sym same) (rw c.as_slice-virtuals.ensures at c.in_ok-left.ensures.replaced))

pub returns-clause-replaced : goal.returns-clause-replaced
returns-clause-replaced c =
    let same = same_variables c.args.s.now c.flat_of_array.new.s c.args.desk.now c.flat_of_array.new.desk most_references c.args.sides.now.virtuals c.requires.desk c.in_ok-left.ensures.stays.goes c.requires.there in
    subst (λ (V : ℕ → Outcome FlatExpr). AreReplaced V c.flat_of_array-2.new.replaced.items) same (rw c.as_slice-virtuals.ensures at c.in_ok-right.ensures.replaced)

-- ---- what stays

pub returns-in_err-left-clause-stays : goal.returns-in_err-left-clause-stays
returns-in_err-left-clause-stays c = c.in_err-left.ensures.stays

pub returns-in_err-right-clause-stays : goal.returns-in_err-right-clause-stays
returns-in_err-right-clause-stays c = stays_on c.args.s.now c.flat_of_array.new.s c.flat_of_array-2.new.s c.args.desk.now c.flat_of_array.new.desk c.flat_of_array-2.new.desk c.in_ok-left.ensures.stays c.in_err-right.ensures.stays

pub returns-in_err-push_equation-clause-stays : goal.returns-in_err-push_equation-clause-stays
returns-in_err-push_equation-clause-stays c = stays_on c.args.s.now c.flat_of_array.new.s c.flat_of_array-2.new.s c.args.desk.now c.flat_of_array.new.desk c.flat_of_array-2.new.desk c.in_ok-left.ensures.stays c.in_ok-right.ensures.stays

pub returns-clause-stays : goal.returns-clause-stays
returns-clause-stays c = stays_on c.args.s.now c.flat_of_array.new.s c.flat_of_array-2.new.s c.args.desk.now c.flat_of_array.new.desk c.flat_of_array-2.new.desk c.in_ok-left.ensures.stays c.in_ok-right.ensures.stays
