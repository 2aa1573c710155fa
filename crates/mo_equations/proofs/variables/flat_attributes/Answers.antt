-- Attribute by attribute.
use Rattle.std.proofs.Common.{◌≡◌, ◌+◌, ◌++◌, ◌∷◌, [], Err, rules, ap, sym, ◌∙◌}
use Rattle.mo_scope.specs.Trees.{IsChosen, attribute_in, chosen_in}
use Rattle.mo_scope.specs.Worlds.{frames_of}
use Rattle.mo_syntax.specs.declared.meaning.Kind.{Kind}
use Rattle.mo_equations.specs.declared.flat.Flat.{Flat}
use Rattle.mo_equations.specs.Variables.{attribute_kind, flat_attribute, flat_of_leaf}
use Rattle.mo_equations.specs.steps.Declaring.{AreAttributes, attributes_in, variable_in}
use Rattle.mo_equations.specs.steps.Standing.{tree_in}
use Rattle.mo_equations.specs.steps.Flats.{IsFlat}
use Rattle.mo_equations.proofs.AllDeclared.{attribute_given, attribute_is, attribute_stop, attribute_within, attributes_end, each_stop}
use Rattle.mo_equations.proofs.Declares.{flat_later, is_chosen_later, is_one_of_later}
use Rattle.mo_equations.proofs.Eaching.{left_end, left_more}
use Rattle.mo_equations.proofs.Replacings.{answers_as}
use Rattle.mo_equations.proofs.Staying.{stays_on}
use Rattle.mo_equations.proofs.Tabled.{every_at}
use Rattle.mo_equations.proofs.variables.flat_attributes.Goals as goal

pub flat_of_leaf-requires : goal.flat_of_leaf-requires
flat_of_leaf-requires c =
    let before = c.loop-attribute.invariant.0 in
    record {
      variable = is_one_of_later c.args.s.now c.loop-attribute.s c.args.variable.now before.goes.grows c.requires.variable;
      chosen = is_chosen_later c.args.s.now c.loop-attribute.s c.attribute-item.result.1 before.goes.grows
          (every_at (λ a. IsChosen c.args.s.now a.1) c.args.variable.now.leaf.now.attributes c.loop-attribute.attribute-index c.attribute-item.result c.requires.variable.leaf.attributes
          (rw c.as_slice-attribute-items.ensures at c.loop-attribute-test.true) (rw c.as_slice-attribute-items.ensures at c.attribute-item.is));
      desk = before.goes.desk;
    }

pub returns-in_err-flat-clause-stays : goal.returns-in_err-flat-clause-stays
returns-in_err-flat-clause-stays c = stays_on c.args.s.now c.loop-attribute.s c.flat_of_leaf.new.s c.args.desk.now c.loop-attribute.desk c.flat_of_leaf.new.desk c.loop-attribute.invariant.0 c.in_err-flat.ensures.stays

pub returns-in_err-flat-clause-exact : goal.returns-in_err-flat-clause-exact
returns-in_err-flat-clause-exact c =
    let u = c.args.s.now in
    let F = frames_of u in
    let tree = tree_in u c.args.desk.now.leaves in
    let variable = variable_in F c.args.variable.now in
    let attributes = c.args.variable.now.leaf.now.attributes in
    let item = c.attribute-item.result in
    let before = c.loop-attribute.invariant.0 in
    let small = rw c.as_slice-attribute-items.ensures at c.loop-attribute-test.true in
    let is = rw c.as_slice-attribute-items.ensures at c.attribute-item.is in
    let chosen = every_at (λ a. IsChosen u a.1) attributes c.loop-attribute.attribute-index item c.requires.variable.leaf.attributes small is in
    let later = flat_later u c.loop-attribute.s c.args.desk.now c.loop-attribute.desk c.args.variable.now c.attribute_kind-kind.result item.1 c.requires.desk before.goes c.requires.variable chosen in
    let kinds = ap (λ (k : Kind). flat_of_leaf tree variable k (chosen_in F item.1)) c.attribute_kind-kind.ensures in
    let stop = c.in_err-flat.field-0.0 in
    let p : c.from_residual.result ≡ Err stop = search rules in
    rw p (each_stop AreAttributes (flat_attribute tree variable) (attributes_in F c.args.variable.now) c.loop-attribute.attribute-index c.loop-attribute.invariant.1 (attribute_in F item) stop
    (attribute_within F attributes c.loop-attribute.attribute-index small) (attribute_is F attributes c.loop-attribute.attribute-index item small is) c.loop-attribute.invariant.3
    (attribute_stop (flat_of_leaf tree variable (attribute_kind variable.leaf.kind item.0) (chosen_in F item.1)) item.0 stop (answers_as {T = Flat} IsFlat (Err stop) _ _ (later ∙ kinds) c.in_err-flat.ensures.exact)))

pub loop-attribute-preserved : goal.loop-attribute-preserved
loop-attribute-preserved c =
    let u = c.args.s.now in
    let F = frames_of u in
    let tree = tree_in u c.args.desk.now.leaves in
    let variable = variable_in F c.args.variable.now in
    let attributes = c.args.variable.now.leaf.now.attributes in
    let item = c.attribute-item.result in
    let before = c.loop-attribute.invariant.0 in
    let small = rw c.as_slice-attribute-items.ensures at c.loop-attribute-test.true in
    let is = rw c.as_slice-attribute-items.ensures at c.attribute-item.is in
    let chosen = every_at (λ a. IsChosen u a.1) attributes c.loop-attribute.attribute-index item c.requires.variable.leaf.attributes small is in
    let later = flat_later u c.loop-attribute.s c.args.desk.now c.loop-attribute.desk c.args.variable.now c.attribute_kind-kind.result item.1 c.requires.desk before.goes c.requires.variable chosen in
    let kinds = ap (λ (k : Kind). flat_of_leaf tree variable k (chosen_in F item.1)) c.attribute_kind-kind.ensures in
    let e = c.in_ok-flat.ensures.exact in
    let told = sym (later ∙ kinds) ∙ e.1 in (
      stays_on u c.loop-attribute.s c.flat_of_leaf.new.s c.args.desk.now c.loop-attribute.desk c.flat_of_leaf.new.desk before c.in_ok-flat.ensures.stays,
      c.loop-attribute.invariant.1 ++ (item.0, e.0) ∷ [],
      c.in_ok-push.ensures c.loop-attribute.invariant.1 e.0 c.loop-attribute.invariant.2 e.2,
      left_more (flat_attribute tree variable) (attributes_in F c.args.variable.now) c.loop-attribute.attribute-index c.loop-attribute.invariant.1 (attribute_in F item) (item.0, e.0)
          (attribute_within F attributes c.loop-attribute.attribute-index small) (attribute_is F attributes c.loop-attribute.attribute-index item small is)
          (attribute_given (flat_of_leaf tree variable (attribute_kind variable.leaf.kind item.0) (chosen_in F item.1)) item.0 e.0 told) ∙ c.loop-attribute.invariant.3,
    )

pub returns-clause-exact : goal.returns-clause-exact
returns-clause-exact c =
    let u = c.args.s.now in
    let F = frames_of u in
    let variable = variable_in F c.args.variable.now in (
      c.loop-attribute.invariant.1,
      sym c.loop-attribute.invariant.3 ∙ left_end (flat_attribute (tree_in u c.args.desk.now.leaves) variable) (attributes_in F c.args.variable.now) c.loop-attribute.attribute-index c.loop-attribute.invariant.1
          (attributes_end F c.args.variable.now.leaf.now.attributes c.loop-attribute.attribute-index (rw c.as_slice-attribute-items.ensures at c.loop-attribute-test.false)),
      c.loop-attribute.invariant.2,
    )

-- ---- what stays

pub returns-in_err-push-clause-stays : goal.returns-in_err-push-clause-stays
returns-in_err-push-clause-stays c = stays_on c.args.s.now c.loop-attribute.s c.flat_of_leaf.new.s c.args.desk.now c.loop-attribute.desk c.flat_of_leaf.new.desk c.loop-attribute.invariant.0 c.in_ok-flat.ensures.stays

pub returns-clause-stays : goal.returns-clause-stays
returns-clause-stays c = c.loop-attribute.invariant.0
