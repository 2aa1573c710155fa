-- Its attributes, then its binding.
use Rattle.std.proofs.Common.{◌≡◌, ◌++◌, ◌∷◌, [], Err, rules, sym, subst, ◌∙◌}
use Rattle.mo_scope.specs.Worlds.{frames_of}
use Rattle.mo_names.proofs.Later.{grows_trans, table_later}
use Rattle.mo_equations.specs.Leaves.{Variable}
use Rattle.mo_equations.specs.Variables.{declared_with, flat_option}
use Rattle.mo_equations.specs.steps.Declaring.{AreAttributes, AreDeclared, variable_in}
use Rattle.mo_equations.specs.steps.Standing.{tree_in}
use Rattle.mo_equations.specs.steps.Makings.{IsFlatOption}
use Rattle.mo_equations.proofs.AllDeclared.{bound_of, declared_is, option_later, refused_first, refused_then}
use Rattle.mo_equations.proofs.Declares.{is_one_of_later, variable_later}
use Rattle.mo_equations.proofs.Replacings.{answers_as}
use Rattle.mo_equations.proofs.Staying.{stays_on}
use Rattle.mo_equations.proofs.variables.declare.Goals as goal

pub returns-in_err-attributes-clause-refused : goal.returns-in_err-attributes-clause-refused
returns-in_err-attributes-clause-refused c =
    let stop = c.in_err-attributes.field-0.0 in
    let p : c.from_residual.result ≡ Err stop = search rules in
    rw p (refused_first (Unit {0}) AreAttributes _ _ stop c.in_err-attributes.ensures.exact)

pub flat_option-requires : goal.flat_option-requires
flat_option-requires c = record {
  variable = is_one_of_later c.args.s.now c.flat_attributes.new.s c.args.variable.now c.in_ok-attributes.ensures.stays.goes.grows c.requires.variable;
  desk = c.in_ok-attributes.ensures.stays.goes.desk;
}

pub returns-in_err-binding-clause-refused : goal.returns-in_err-binding-clause-refused
returns-in_err-binding-clause-refused c =
    let stop = c.in_err-binding.field-0.0 in
    let given = c.in_ok-attributes.ensures.exact in
    let later = option_later c.args.s.now c.flat_attributes.new.s c.args.desk.now c.flat_attributes.new.desk c.args.variable.now c.requires.desk c.in_ok-attributes.ensures.stays.goes c.requires.variable in
    let p : c.from_residual-in_err-binding.result ≡ Err stop = search rules in
    rw p (refused_then (Unit {0}) IsFlatOption _ given.0 _ _ stop given.1 (answers_as IsFlatOption (Err stop) _ _ later c.in_err-binding.ensures.exact))

pub returns-clause-exact : goal.returns-clause-exact
returns-clause-exact c = λ before are.
    let u = c.args.s.now in
    let w = c.flat_option.new.s in
    let tree = tree_in u c.args.desk.now.leaves in
    let variable = variable_in (frames_of u) c.args.variable.now in
    let given = c.in_ok-attributes.ensures.exact in
    let binding = c.in_ok-binding.ensures.exact in
    let later = option_later u c.flat_attributes.new.s c.args.desk.now c.flat_attributes.new.desk c.args.variable.now c.requires.desk c.in_ok-attributes.ensures.stays.goes c.requires.variable in
    let told = sym later ∙ binding.1 in
    let grows = grows_trans u c.flat_attributes.new.s w c.in_ok-attributes.ensures.stays.goes.grows c.in_ok-binding.ensures.stays.goes.grows in (
      declared_with tree variable given.0 binding.0,
      declared_is tree variable given.0 binding.0 given.1 told,
      subst (λ (x : Variable). AreDeclared c.push.new.self (before ++ declared_with tree x given.0 binding.0 ∷ [])) (variable_later u w c.args.variable.now grows c.requires.variable)
          (c.in_ok-push.ensures tree before given.0 binding.0 (sym (table_later u w grows)) are given.2 binding.2 (bound_of tree variable (frames_of u) c.args.variable.now.leaf.now.binding binding.0 told)),
    )

-- ---- what stays

pub returns-in_err-attributes-clause-stays : goal.returns-in_err-attributes-clause-stays
returns-in_err-attributes-clause-stays c = c.in_err-attributes.ensures.stays

pub returns-in_err-binding-clause-stays : goal.returns-in_err-binding-clause-stays
returns-in_err-binding-clause-stays c = stays_on c.args.s.now c.flat_attributes.new.s c.flat_option.new.s c.args.desk.now c.flat_attributes.new.desk c.flat_option.new.desk c.in_ok-attributes.ensures.stays c.in_err-binding.ensures.stays

pub returns-in_err-push-clause-stays : goal.returns-in_err-push-clause-stays
returns-in_err-push-clause-stays c = stays_on c.args.s.now c.flat_attributes.new.s c.flat_option.new.s c.args.desk.now c.flat_attributes.new.desk c.flat_option.new.desk c.in_ok-attributes.ensures.stays c.in_ok-binding.ensures.stays

pub returns-clause-stays : goal.returns-clause-stays
returns-clause-stays c = stays_on c.args.s.now c.flat_attributes.new.s c.flat_option.new.s c.args.desk.now c.flat_attributes.new.desk c.flat_option.new.desk c.in_ok-attributes.ensures.stays c.in_ok-binding.ensures.stays
