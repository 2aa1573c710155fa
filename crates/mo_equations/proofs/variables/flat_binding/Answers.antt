-- Its value, or its expression.
use Rattle.std.proofs.Common.{◌≡◌, Err, rules, ap, sym, subst, ◌∙◌}
use Rattle.mo_flat.specs.declared.expr.FlatExpr.{FlatExpr}
use Rattle.mo_scope.specs.Rows.{Table}
use Rattle.mo_scope.specs.Trees.{chosen_in}
use Rattle.mo_scope.specs.Worlds.{frames_of, table_in}
use Rattle.mo_names.proofs.Later.{table_later}
use Rattle.mo_equations.specs.declared.flat.Flat.{Flat}
use Rattle.mo_equations.specs.Replacing.{flat_value}
use Rattle.mo_equations.specs.Variables.{flat_of_leaf}
use Rattle.mo_equations.specs.steps.Declaring.{known_of_binding, variable_in}
use Rattle.mo_equations.specs.steps.Standing.{tree_in}
use Rattle.mo_equations.specs.steps.Flats.{IsFlat}
use Rattle.mo_equations.proofs.Declares.{binding_is, flat_later, is_chosen_later, is_one_of_later}
use Rattle.mo_equations.proofs.Replacings.{answers_as, value_halts, value_none, value_some}
use Rattle.mo_equations.proofs.Staying.{stays_on}
use Rattle.mo_equations.proofs.variables.flat_binding.Goals as goal

pub returns-in_err-known-clause-exact : goal.returns-in_err-known-clause-exact
returns-in_err-known-clause-exact c =
    let tree = tree_in c.args.s.now c.args.desk.now.leaves in
    let variable = variable_in (frames_of c.args.s.now) c.args.variable.now in
    let binding = chosen_in (frames_of c.args.s.now) c.args.binding.now in
    let stop = c.in_err-known.field-0.0 in
    let p : c.from_residual.result ≡ Err stop = search rules in
    rw p (answers_as {T = Flat} IsFlat (Err stop) _ _ (sym (binding_is tree variable binding))
    (value_halts (table_in c.args.s.now) (flat_of_leaf tree variable variable.leaf.kind binding) (known_of_binding tree variable binding) stop c.in_err-known.ensures.exact))

pub expression_of_binding-requires : goal.expression_of_binding-requires
expression_of_binding-requires c = record {
  variable = is_one_of_later c.args.s.now c.known_binding.new.s c.args.variable.now c.in_ok-known.ensures.stays.goes.grows c.requires.variable;
  chosen = is_chosen_later c.args.s.now c.known_binding.new.s c.args.binding.now c.in_ok-known.ensures.stays.goes.grows c.requires.chosen;
  own = c.requires.own;
  desk = c.in_ok-known.ensures.stays.goes.desk;
}

pub returns-in_ok-flat_value-in-Some-clause-exact : goal.returns-in_ok-flat_value-in-Some-clause-exact
returns-in_ok-flat_value-in-Some-clause-exact c =
    let tree = tree_in c.args.s.now c.args.desk.now.leaves in
    let table = table_in c.args.s.now in
    let variable = variable_in (frames_of c.args.s.now) c.args.variable.now in
    let binding = chosen_in (frames_of c.args.s.now) c.args.binding.now in
    let told = rw c.in-Some.is at c.in_ok-known.ensures.exact in
    let value = c.in_ok-flat_value-in-Some.ensures ∙ ap (λ (T : Table). flat_value T c.in-Some.scalar) (table_later c.args.s.now c.known_binding.new.s c.in_ok-known.ensures.stays.goes.grows) in (
      flat_value table c.in-Some.scalar,
      binding_is tree variable binding ∙ value_some table (flat_of_leaf tree variable variable.leaf.kind binding) (known_of_binding tree variable binding) c.in-Some.scalar told,
      subst (λ (e : FlatExpr). IsFlat c.of.result e) value c.of.ensures,
    )

pub returns-in-None-clause-exact : goal.returns-in-None-clause-exact
returns-in-None-clause-exact c =
    let tree = tree_in c.args.s.now c.args.desk.now.leaves in
    let variable = variable_in (frames_of c.args.s.now) c.args.variable.now in
    let binding = chosen_in (frames_of c.args.s.now) c.args.binding.now in
    let told = rw c.in-None.is at c.in_ok-known.ensures.exact in
    let now = flat_later c.args.s.now c.known_binding.new.s c.args.desk.now c.known_binding.new.desk c.args.variable.now c.args.variable.now.leaf.now.kind c.args.binding.now c.requires.desk c.in_ok-known.ensures.stays.goes c.requires.variable c.requires.chosen in
    answers_as IsFlat c.expression_of_binding.result _ _
    (now ∙ sym (binding_is tree variable binding ∙ value_none (table_in c.args.s.now) (flat_of_leaf tree variable variable.leaf.kind binding) (known_of_binding tree variable binding) told)) c.expression_of_binding.ensures.exact

-- ---- what stays

pub returns-in_err-known-clause-stays : goal.returns-in_err-known-clause-stays
returns-in_err-known-clause-stays c = c.in_err-known.ensures.stays

pub returns-in_err-flat_value-in-Some-clause-stays : goal.returns-in_err-flat_value-in-Some-clause-stays
returns-in_err-flat_value-in-Some-clause-stays c = c.in_ok-known.ensures.stays

pub returns-in_ok-flat_value-in-Some-clause-stays : goal.returns-in_ok-flat_value-in-Some-clause-stays
returns-in_ok-flat_value-in-Some-clause-stays c = c.in_ok-known.ensures.stays

pub returns-in-None-clause-stays : goal.returns-in-None-clause-stays
returns-in-None-clause-stays c = stays_on c.args.s.now c.known_binding.new.s c.expression_of_binding.new.s c.args.desk.now c.known_binding.new.desk c.expression_of_binding.new.desk c.in_ok-known.ensures.stays c.expression_of_binding.ensures.stays
