-- What stands for elements, one reference after another.
use Rattle.std.proofs.Common.{◌≡◌, ℕ, ◌-◌, List, Some, None, Err, ◌<◌, map, take, length, get_or, refl, ap, sym, subst, ◌∙◌, arith, rules}
use Rattle.std.specs.Prelude.{slice_set}
use Rattle.mo_flat.specs.declared.expr.FlatExpr.{FlatExpr}
use Rattle.mo_flat.specs.declared.expr.FlatExpr as flat
use Rattle.mo_scope.specs.Places.{Every}
use Rattle.mo_scope.specs.Rows.{Table}
use Rattle.mo_scope.specs.Parts.{Picked, picked_here}
use Rattle.mo_scope.specs.Sights.{picked_in, source_seen}
use Rattle.mo_scope.specs.Worlds.{frames_of, scope_in, table_in}
use Rattle.mo_names.specs.Children.{child_seen}
use Rattle.mo_names.proofs.Later.{is_member_later, table_later}
use Rattle.mo_values.specs.Asked.{fitted}
use Rattle.mo_eval.specs.Components.{place_of}
use Rattle.mo_eval.specs.Seen.{element_seen, resolved_seen, virtuals_seen}
use Rattle.mo_eval.specs.Virtuals.{Resolved}
use Rattle.mo_eval.proofs.Bindings.{picked_exists}
use Rattle.mo_eval.proofs.Grown.{there_still}
use Rattle.mo_equations.specs.declared.flat.Flat.{Flat}
use Rattle.mo_equations.specs.Leaves.{number_of}
use Rattle.mo_equations.specs.Replacing.{Replacing, constant, constant_by, flat_at, flat_element, flat_value, of_variable, of_virtual, standing, with_variables}
use Rattle.mo_equations.specs.steps.Flats.{IsFlat}
use Rattle.mo_equations.specs.steps.Layers.{fit_of, wanted_of}
use Rattle.mo_equations.specs.steps.Counting.{variables_in}
use Rattle.mo_equations.specs.steps.Standing.{IsAskedAt, constant_expression, constant_known, replacing_in, tree_in}
use Rattle.mo_equations.proofs.InTurn.{all_still, none_replaced, now_asked, still_replaced}
use Rattle.mo_equations.proofs.Lists.{every_all, every_taken, got, same_default}
use Rattle.mo_equations.proofs.Replacings.{all_there, answers_as, answers_breaks, bound_is, breaks_on, child_halts, chosen_now, constant_is, constant_none, constant_some, expression_now, flat_at_then, flat_at_unlayered, flat_at_unresolved, same_number, standing_none, standing_some, there_at, unbound_is, value_halts, value_none, value_some, variable_now}
use Rattle.mo_equations.proofs.Staying.{constant_now, desk_grown, desk_later, reads, same_replacing, stays_grown, stays_on, stays_still}
use Rattle.mo_equations.proofs.standing.+standing.Goals as goal

-- ---- flat_at

pub flat_at-returns-in_err-resolved-clause-exact : goal.flat_at-returns-in_err-resolved-clause-exact
flat_at-returns-in_err-resolved-clause-exact t c =
    let a = c.args.asked.now in
    let stop = c.in_err-resolved.field-0.0 in
    let p : c.from_residual.result ≡ Err stop = search rules in
    rw p (flat_at_unresolved (table_in c.args.s.now) a.left (replacing_in c.args.s.now c.args.desk.now.leaves a.left) (wanted_of a.layers.want a.layers.place) (fit_of a.layers.fit a.layers.place)
    (scope_in (frames_of c.args.s.now) a.at.now.frame.0 a.at.now.iters) a.value.now a.index.now (resolved_seen (frames_of c.resolved.new.s)) stop c.in_err-resolved.ensures.exact)

pub flat_at-returns-in_err-layered-clause-exact : goal.flat_at-returns-in_err-layered-clause-exact
flat_at-returns-in_err-layered-clause-exact t c =
    let a = c.args.asked.now in
    let stop = c.in_err-layered.field-0.0 in
    let p : c.from_residual-in_err-layered.result ≡ Err stop = search rules in
    rw p (flat_at_unlayered (table_in c.args.s.now) a.left (replacing_in c.args.s.now c.args.desk.now.leaves a.left) (wanted_of a.layers.want a.layers.place) (fit_of a.layers.fit a.layers.place)
    (scope_in (frames_of c.args.s.now) a.at.now.frame.0 a.at.now.iters) a.value.now a.index.now (resolved_seen (frames_of c.resolved.new.s) c.in_ok-resolved.resolved) stop c.in_ok-resolved.ensures.exact c.in_err-layered.ensures)

pub flat_at-flat_element-requires : goal.flat_at-flat_element-requires
flat_at-flat_element-requires t c = (
  search rules,
  (
    c.in_ok-resolved.ensures.there,
    desk_later c.args.s.now c.resolved.new.s c.args.desk.now c.resolved.new.self c.in_ok-resolved.ensures.grows c.in_ok-resolved.ensures.kept c.requires.desk,
  ),
)

pub flat_at-returns-clause-exact : goal.flat_at-returns-clause-exact
flat_at-returns-clause-exact t c =
    let a = c.args.asked.now in
    let desk = record c.args.desk.now { reader = c.resolved.new.self } in
    let r : Resolved = resolved_seen (frames_of c.resolved.new.s) c.in_ok-resolved.resolved in
    let goes = (reads c.args.s.now c.resolved.new.s c.args.desk.now c.resolved.new.self c.in_ok-resolved.ensures.grows c.in_ok-resolved.ensures.kept c.requires.desk).goes in
    let same = same_replacing c.args.s.now c.resolved.new.s c.args.desk.now desk a.left c.requires.desk goes in
    flat_at_then (table_in c.args.s.now) a.left (replacing_in c.args.s.now c.args.desk.now.leaves a.left) (wanted_of a.layers.want a.layers.place) (fit_of a.layers.fit a.layers.place)
    (scope_in (frames_of c.args.s.now) a.at.now.frame.0 a.at.now.iters) a.value.now a.index.now r c.flat_element.result c.in_ok-resolved.ensures.exact c.in_ok-layered.ensures
    (answers_as IsFlat c.flat_element.result (flat_element (replacing_in c.resolved.new.s c.args.desk.now.leaves a.left) r a.index.now) (flat_element (replacing_in c.args.s.now c.args.desk.now.leaves a.left) r a.index.now)
    (ap (λ (replace : Replacing). flat_element replace r a.index.now) same) c.flat_element.ensures.exact)

-- ---- flat_element

pub flat_element-ask-asked-requires : goal.flat_element-ask-asked-requires
flat_element-ask-asked-requires t c = (
  search rules,
  (
    rw c.as_slice-virtuals.ensures c.requires.there,
    (c.requires.desk, rw c.in_ok-replaced.ensures (none_replaced (of_variable (replacing_in c.args.s.now c.args.desk.now.leaves c.args.left) (virtuals_seen (frames_of c.args.s.now) c.as_slice-virtuals.result.now)) _)),
  ),
)

pub flat_element-returns-clause-exact : goal.flat_element-returns-clause-exact
flat_element-returns-clause-exact t c =
    let V = of_variable (replacing_in c.args.s.now c.args.desk.now.leaves c.args.left) (virtuals_seen (frames_of c.args.s.now) c.args.resolved.now.virtuals) in
    answers_as IsFlat c.put_asked.result (with_variables V c.in_ok-element.element) _ (ap (with_variables V) c.in_ok-element.ensures)
    (c.put_asked.ensures V (rw c.as_slice-virtuals.ensures at c.ask-asked.ensures.refused) (rw c.as_slice.ensures.value (rw c.as_slice-virtuals.ensures at c.ask-asked.ensures.replaced)) (rw c.as_slice.ensures.value c.ask-asked.ensures.asked))

-- ---- ask

pub ask-of_virtual-requires : goal.ask-of_virtual-requires
ask-of_virtual-requires t c = (
  search rules,
  (there_at c.loop-n.s c.args.virtuals.now c.loop-n.invariant.there c.saturating_sub-place.result c.in-Some.it.now (got c.args.virtuals.now c.saturating_sub-place.result c.in-Some.it.now c.in-Some.ensures.lookup.3.0 c.in-Some.ensures.lookup.1), c.loop-n.invariant.stays.goes.desk),
)

pub ask-loop-n-preserved-then-is_asked : goal.ask-loop-n-preserved-then-is_asked
ask-loop-n-preserved-then-is_asked t c =
    let items = c.as_slice-n-items.result.now in
    let n = get_or items c.loop-n.n-index 0 in
    let here : IsAskedAt c.loop-n.replaced.items n = rw (c.as_slice.ensures.value, c.saturating_sub-place.ensures) at (c.is_asked.ensures (search rules)) in
    record {
      stays = c.loop-n.invariant.stays;
      there = c.loop-n.invariant.there;
      replaced = c.loop-n.invariant.replaced;
      asked = every_taken (IsAskedAt c.loop-n.replaced.items) items c.loop-n.n-index n 0 c.loop-n-test.true refl c.loop-n.invariant.asked here;
    }

pub ask-loop-n-preserved : goal.ask-loop-n-preserved
ask-loop-n-preserved t c =
    let items = c.as_slice-n-items.result.now in
    let n = get_or items c.loop-n.n-index 0 in
    let place = c.saturating_sub-place.result in
    let less : place ≡ n - 1 = c.saturating_sub-place.ensures in
    let virtuals = c.args.virtuals.now in
    let V = of_variable (replacing_in c.args.s.now c.args.desk.now.leaves c.args.left) (virtuals_seen (frames_of c.args.s.now) virtuals) in
    let now = variable_now c.args.s.now c.loop-n.s c.args.desk.now c.loop-n.desk c.args.left virtuals n place c.in-Some.it.now c.requires.desk c.loop-n.invariant.stays.goes c.requires.there less (got c.args.virtuals.now c.saturating_sub-place.result c.in-Some.it.now c.in-Some.ensures.lookup.3.0 c.in-Some.ensures.lookup.1) in
    let e = c.in_ok-flat.ensures.exact in
    let set : c.put_replaced.new.replaced.items ≡ slice_set c.loop-n.replaced.items (n - 1) (Some c.in_ok-flat.flat) = rw less at c.in_ok-put_replaced.ensures.put in
    let small : n - 1 < length c.loop-n.replaced.items = rw less at c.in_ok-put_replaced.ensures.within in
    let same = λ (p q : ℕ) (h : p - 1 ≡ q - 1). same_number (replacing_in c.args.s.now c.args.desk.now.leaves c.args.left) (virtuals_seen (frames_of c.args.s.now) virtuals) p q h in
    record {
      stays = stays_on c.args.s.now c.loop-n.s c.of_virtual.new.s c.args.desk.now c.loop-n.desk c.of_virtual.new.desk c.loop-n.invariant.stays c.in_ok-flat.ensures.stays;
      there = there_still c.loop-n.s c.of_virtual.new.s c.in_ok-flat.ensures.stays.goes.grows virtuals c.loop-n.invariant.there;
      replaced = rw set (still_replaced V same c.loop-n.replaced.items n c.in_ok-flat.flat e.0 (now ∙ e.1) e.2 c.loop-n.invariant.replaced);
      asked = rw set
          (every_taken (IsAskedAt (slice_set c.loop-n.replaced.items (n - 1) (Some c.in_ok-flat.flat))) items c.loop-n.n-index n 0 c.loop-n-test.true refl
          (all_still V same c.loop-n.replaced.items n c.in_ok-flat.flat (take c.loop-n.n-index items) c.loop-n.invariant.asked)
          (now_asked V same c.loop-n.replaced.items n c.in_ok-flat.flat small));
    }

pub ask-returns-in_err-flat-clause-refused : goal.ask-returns-in_err-flat-clause-refused
ask-returns-in_err-flat-clause-refused t c =
    let items = c.as_slice-n-items.result.now in
    let n = get_or items c.loop-n.n-index 0 in
    let place = c.saturating_sub-place.result in
    let less : place ≡ n - 1 = c.saturating_sub-place.ensures in
    let virtuals = c.args.virtuals.now in
    let V = of_variable (replacing_in c.args.s.now c.args.desk.now.leaves c.args.left) (virtuals_seen (frames_of c.args.s.now) virtuals) in
    let now = variable_now c.args.s.now c.loop-n.s c.args.desk.now c.loop-n.desk c.args.left virtuals n place c.in-Some.it.now c.requires.desk c.loop-n.invariant.stays.goes c.requires.there less (got c.args.virtuals.now c.saturating_sub-place.result c.in-Some.it.now c.in-Some.ensures.lookup.3.0 c.in-Some.ensures.lookup.1) in
    let stop = c.in_err-flat.field-0.0 in
    let p : c.from_residual-in_err-flat.result ≡ Err stop = search rules in
    let are : items ≡ variables_in c.args.e.now = c.as_slice-n-items.ensures ∙ c.in_ok-numbers.ensures in
    let there = all_there V c.loop-n.replaced.items c.loop-n.invariant.replaced (take c.loop-n.n-index items) c.loop-n.invariant.asked in
    rw p (breaks_on V c.args.e.now c.loop-n.n-index n stop (rw are at there) (rw are at c.loop-n-test.true)
    (same_default items c.loop-n.n-index 0 n c.loop-n-test.true ∙ ap (λ (xs : List ℕ). get_or xs c.loop-n.n-index n) are)
    (answers_as {T = Flat} IsFlat (Err stop) _ (V n) (sym now) c.in_err-flat.ensures.exact))

pub ask-returns-clause-asked : goal.ask-returns-clause-asked
ask-returns-clause-asked t c =
    let are : c.as_slice-n-items.result.now ≡ variables_in c.args.e.now = c.as_slice-n-items.ensures ∙ c.in_ok-numbers.ensures in
    subst (Every (IsAskedAt c.loop-n.replaced.items)) are (every_all (IsAskedAt c.loop-n.replaced.items) c.as_slice-n-items.result.now c.loop-n.n-index c.loop-n-test.false c.loop-n.invariant.asked)

-- ---- of_virtual

pub of_virtual-standing-requires : goal.of_virtual-standing-requires
of_virtual-standing-requires t c = (search rules, ((rw c.in-Component.is at c.requires.there), c.requires.desk))

pub of_virtual-returns-in-Component-clause-exact : goal.of_virtual-returns-in-Component-clause-exact
of_virtual-returns-in-Component-clause-exact t c =
    rw c.in-Component.is c.standing.ensures.exact

pub of_virtual-returns-in-Division-clause-exact : goal.of_virtual-returns-in-Division-clause-exact
of_virtual-returns-in-Division-clause-exact t c = rw c.in-Division.is (answers_breaks {T = Flat} IsFlat _ _ _ c.stop.ensures refl)

-- ---- standing

pub standing-constant-requires : goal.standing-constant-requires
standing-constant-requires t c = (search rules, (c.requires.member, c.requires.desk))

pub standing-returns-in_ok-variable_at-in-Some-clause-exact : goal.standing-returns-in_ok-variable_at-in-Some-clause-exact
standing-returns-in_ok-variable_at-in-Some-clause-exact t c =
    let element = element_seen (frames_of c.args.s.now) c.args.element.now in
    let number = number_of (tree_in c.args.s.now c.args.desk.now.leaves) in
    let at = sym (rw c.as_slice.ensures at c.in_ok-path.ensures) ∙ c.in-Some.is in
    (flat.Var (number c.in-Some.path) 0, standing_some number (constant (table_in c.args.s.now) number c.args.left) element c.in-Some.path at, rw c.as_slice-in-Some.ensures at c.in_ok-variable_at-in-Some.ensures)

pub standing-returns-in-None-clause-exact : goal.standing-returns-in-None-clause-exact
standing-returns-in-None-clause-exact t c =
    let element = element_seen (frames_of c.args.s.now) c.args.element.now in
    let number = number_of (tree_in c.args.s.now c.args.desk.now.leaves) in
    let none = sym (rw c.as_slice.ensures at c.in_ok-path.ensures) ∙ c.in-None.is in
    answers_as IsFlat c.constant.result (constant (table_in c.args.s.now) number c.args.left element) _ (sym (standing_none number (constant (table_in c.args.s.now) number c.args.left) element none)) c.constant.ensures.exact

-- ---- constant

pub constant-returns-then-left-eq0-clause-exact : goal.constant-returns-then-left-eq0-clause-exact
constant-returns-then-left-eq0-clause-exact t c =
    let element = element_seen (frames_of c.args.s.now) c.args.element.now in
    let number = number_of (tree_in c.args.s.now c.args.desk.now.leaves) in
    answers_breaks {T = Flat} IsFlat _ _ _ c.stop.ensures (constant_none (table_in c.args.s.now) number c.args.left element c.if-left-eq0.true)

pub constant-returns-in-Some-clause-exact : goal.constant-returns-in-Some-clause-exact
constant-returns-in-Some-clause-exact t c = (rw c.in-Some.is at c.in_ok-flat.ensures)

pub constant-constant_by-requires : goal.constant-constant_by-requires
constant-constant_by-requires t c = (search rules, (c.requires.member, c.requires.desk))

pub constant-returns-in_err-flat-2-clause-exact : goal.constant-returns-in_err-flat-2-clause-exact
constant-returns-in_err-flat-2-clause-exact t c =
    let element = element_seen (frames_of c.args.s.now) c.args.element.now in
    let number = number_of (tree_in c.args.s.now c.args.desk.now.leaves) in
    let some = constant_some (table_in c.args.s.now) number c.args.left (c.args.left - 1) element (omega arith) in
    let stop = c.in_err-flat-2.field-0.0 in
    let p : c.from_residual-in_err-flat-2.result ≡ Err stop = search rules in
    rw p (answers_as {T = Flat} IsFlat (Err stop) _ _ (sym some) c.in_err-flat-2.ensures.exact)

pub constant-keep_constant-requires-clause-is : goal.constant-keep_constant-requires-clause-is
constant-keep_constant-requires-clause-is t c =
    let element = element_seen (frames_of c.args.s.now) c.args.element.now in
    let number = number_of (tree_in c.args.s.now c.args.desk.now.leaves) in
    let some = constant_some (table_in c.args.s.now) number c.args.left (c.args.left - 1) element (omega arith) in
    let e = c.in_ok-flat-2.ensures.exact in
    (e.0, constant_now c.args.s.now c.constant_by.new.s c.args.desk.now c.constant_by.new.desk c.args.left c.args.element.now c.requires.desk c.in_ok-flat-2.ensures.stays.goes c.requires.member ∙ (some ∙ e.1), e.2)

pub constant-returns-clause-exact : goal.constant-returns-clause-exact
constant-returns-clause-exact t c =
    let element = element_seen (frames_of c.args.s.now) c.args.element.now in
    let number = number_of (tree_in c.args.s.now c.args.desk.now.leaves) in
    let some = constant_some (table_in c.args.s.now) number c.args.left (c.args.left - 1) element (omega arith) in
    let e = c.in_ok-flat-2.ensures.exact in
    (e.0, some ∙ e.1, e.2)

-- ---- constant_by

pub constant_by-returns-in_err-scalar-clause-exact : goal.constant_by-returns-in_err-scalar-clause-exact
constant_by-returns-in_err-scalar-clause-exact t c =
    let table = table_in c.args.s.now in
    let element = element_seen (frames_of c.args.s.now) c.args.element.now in
    let replace = replacing_in c.args.s.now c.args.desk.now.leaves c.args.left in
    let other = constant_expression table c.args.left replace element in
    let known = constant_known table c.args.left element in
    let is = constant_is table c.args.left replace element in
    let stop = c.in_err-scalar.field-0.0 in
    let p : c.from_residual.result ≡ Err stop = search rules in
    rw p (answers_as {T = Flat} IsFlat (Err stop) _ _ (sym is) (value_halts table other known stop c.in_err-scalar.ensures.exact))

pub constant_by-constant_expression-requires : goal.constant_by-constant_expression-requires
constant_by-constant_expression-requires t c = (
  search rules,
  (is_member_later c.args.s.now c.constant_known.new.s c.args.element.now.member c.in_ok-scalar.ensures.stays.goes.grows c.requires.member, c.in_ok-scalar.ensures.stays.goes.desk),
)

pub constant_by-returns-in_ok-flat_value-in-Some-clause-exact : goal.constant_by-returns-in_ok-flat_value-in-Some-clause-exact
constant_by-returns-in_ok-flat_value-in-Some-clause-exact t c =
    let table = table_in c.args.s.now in
    let element = element_seen (frames_of c.args.s.now) c.args.element.now in
    let replace = replacing_in c.args.s.now c.args.desk.now.leaves c.args.left in
    let other = constant_expression table c.args.left replace element in
    let known = constant_known table c.args.left element in
    let is = constant_is table c.args.left replace element in
    let told = rw c.in-Some.is at c.in_ok-scalar.ensures.exact in
    let value = c.in_ok-flat_value-in-Some.ensures ∙ ap (λ (T : Table). flat_value T c.in-Some.scalar) (table_later c.args.s.now c.constant_known.new.s c.in_ok-scalar.ensures.stays.goes.grows) in
    (flat_value table c.in-Some.scalar, is ∙ value_some table other known c.in-Some.scalar told, subst (λ (e : FlatExpr). IsFlat c.of.result e) value c.of.ensures)

pub constant_by-returns-in-None-clause-exact : goal.constant_by-returns-in-None-clause-exact
constant_by-returns-in-None-clause-exact t c =
    let table = table_in c.args.s.now in
    let element = element_seen (frames_of c.args.s.now) c.args.element.now in
    let replace = replacing_in c.args.s.now c.args.desk.now.leaves c.args.left in
    let other = constant_expression table c.args.left replace element in
    let known = constant_known table c.args.left element in
    let is = constant_is table c.args.left replace element in
    let told = rw c.in-None.is at c.in_ok-scalar.ensures.exact in
    let now = expression_now c.args.s.now c.constant_known.new.s c.args.desk.now c.constant_known.new.desk c.args.left c.args.element.now c.requires.desk c.in_ok-scalar.ensures.stays.goes c.requires.member in
    answers_as IsFlat c.constant_expression.result _ _ (now ∙ sym (is ∙ value_none table other known told)) c.constant_expression.ensures.exact

-- ---- constant_expression

pub constant_expression-returns-in_err-child-clause-exact : goal.constant_expression-returns-in_err-child-clause-exact
constant_expression-returns-in_err-child-clause-exact t c =
    let stop = c.in_err-child.field-0.0 in
    let table = table_in c.args.s.now in
    let element = element_seen (frames_of c.args.s.now) c.args.element.now in
    let p : c.from_residual.result ≡ Err stop = search rules in
    rw p (child_halts table c.args.left (replacing_in c.args.s.now c.args.desk.now.leaves c.args.left) element (child_seen (frames_of c.child_of_member.new.s)) stop (rw c.as_slice.ensures at c.in_err-child.ensures.value))

pub constant_expression-returns-in-None-clause-exact : goal.constant_expression-returns-in-None-clause-exact
constant_expression-returns-in-None-clause-exact t c =
    let table = table_in c.args.s.now in
    let mid = c.child_of_member.new.s in
    let child = child_seen (frames_of mid) c.in_ok-child.child in
    let element = element_seen (frames_of c.args.s.now) c.args.element.now in
    let found = rw c.as_slice.ensures at c.in_ok-child.ensures.value in
    let none : picked_here child.sources ≡ None = sym (rw c.as_slice-2.ensures at (c.in-None.ensures (frames_of mid))) in
    answers_breaks {T = Flat} IsFlat _ _ _ c.stop.ensures (unbound_is table c.args.left (replacing_in c.args.s.now c.args.desk.now.leaves c.args.left) element child found none)

pub constant_expression-flat_at-requires : goal.constant_expression-flat_at-requires
constant_expression-flat_at-requires t c =
    let mid = c.child_of_member.new.s in
    let picked = rw c.as_slice-2.ensures at (c.in-Some.ensures (frames_of mid)) in
    (search rules, (picked_exists mid (map source_seen c.in_ok-child.child.sources) c.in-Some.binding c.in_ok-child.ensures.stand.sources picked, (tt, desk_grown c.args.s.now mid c.args.desk.now c.in_ok-child.ensures.grows c.requires.desk)))

pub constant_expression-returns-clause-exact : goal.constant_expression-returns-clause-exact
constant_expression-returns-clause-exact t c =
    let table = table_in c.args.s.now in
    let element = element_seen (frames_of c.args.s.now) c.args.element.now in
    let left = c.args.left in
    let mid = c.child_of_member.new.s in
    let picked = rw c.as_slice-2.ensures at (c.in-Some.ensures (frames_of mid)) in
    let child = child_seen (frames_of mid) c.in_ok-child.child in
    let binding : Picked = picked_in (frames_of mid) c.in-Some.binding in
    let found = rw c.as_slice.ensures at c.in_ok-child.ensures.value in
    let bound = bound_is table left (replacing_in c.args.s.now c.args.desk.now.leaves left) element child binding found (sym picked) in
    answers_as IsFlat c.flat_at.result _ _
    (chosen_now c.args.s.now mid c.args.desk.now left c.args.element.now.kind (fitted (place_of binding.value) binding.pending) binding c.requires.desk c.in_ok-child.ensures.grows ∙ sym bound) c.flat_at.ensures.exact

-- ---- what stays

pub flat_at-returns-in_err-resolved-clause-stays : goal.flat_at-returns-in_err-resolved-clause-stays
flat_at-returns-in_err-resolved-clause-stays t c =
    reads c.args.s.now c.resolved.new.s c.args.desk.now c.resolved.new.self c.in_err-resolved.ensures.grows c.in_err-resolved.ensures.kept c.requires.desk

pub flat_at-returns-in_err-layered-clause-stays : goal.flat_at-returns-in_err-layered-clause-stays
flat_at-returns-in_err-layered-clause-stays t c =
    reads c.args.s.now c.resolved.new.s c.args.desk.now c.resolved.new.self c.in_ok-resolved.ensures.grows c.in_ok-resolved.ensures.kept c.requires.desk

pub constant_expression-returns-in_err-child-clause-stays : goal.constant_expression-returns-in_err-child-clause-stays
constant_expression-returns-in_err-child-clause-stays t c = stays_grown c.args.s.now c.child_of_member.new.s c.args.desk.now c.in_err-child.ensures.grows c.requires.desk

pub constant_expression-returns-in-None-clause-stays : goal.constant_expression-returns-in-None-clause-stays
constant_expression-returns-in-None-clause-stays t c = stays_grown c.args.s.now c.child_of_member.new.s c.args.desk.now c.in_ok-child.ensures.grows c.requires.desk

pub flat_at-returns-clause-stays : goal.flat_at-returns-clause-stays
flat_at-returns-clause-stays t c =
    let desk = record c.args.desk.now { reader = c.resolved.new.self } in
    stays_on c.args.s.now c.resolved.new.s c.flat_element.new.s c.args.desk.now desk c.flat_element.new.desk (reads c.args.s.now c.resolved.new.s c.args.desk.now c.resolved.new.self c.in_ok-resolved.ensures.grows c.in_ok-resolved.ensures.kept c.requires.desk) c.flat_element.ensures.stays

pub flat_element-returns-in_err-element-clause-stays : goal.flat_element-returns-in_err-element-clause-stays
flat_element-returns-in_err-element-clause-stays t c =
    stays_still c.args.s.now c.args.desk.now c.requires.desk

pub flat_element-returns-in_err-replaced-clause-stays : goal.flat_element-returns-in_err-replaced-clause-stays
flat_element-returns-in_err-replaced-clause-stays t c =
    stays_still c.args.s.now c.args.desk.now c.requires.desk

pub flat_element-returns-clause-stays : goal.flat_element-returns-clause-stays
flat_element-returns-clause-stays t c =
    c.ask-asked.ensures.stays

pub ask-returns-in_err-numbers-clause-stays : goal.ask-returns-in_err-numbers-clause-stays
ask-returns-in_err-numbers-clause-stays t c =
    stays_still c.args.s.now c.args.desk.now c.requires.desk

pub ask-returns-in_err-flat-clause-stays : goal.ask-returns-in_err-flat-clause-stays
ask-returns-in_err-flat-clause-stays t c =
    stays_on c.args.s.now c.loop-n.s c.of_virtual.new.s c.args.desk.now c.loop-n.desk c.of_virtual.new.desk c.loop-n.invariant.stays c.in_err-flat.ensures.stays

pub ask-returns-in_err-put_replaced-clause-stays : goal.ask-returns-in_err-put_replaced-clause-stays
ask-returns-in_err-put_replaced-clause-stays t c =
    stays_on c.args.s.now c.loop-n.s c.of_virtual.new.s c.args.desk.now c.loop-n.desk c.of_virtual.new.desk c.loop-n.invariant.stays c.in_ok-flat.ensures.stays

pub ask-returns-clause-stays : goal.ask-returns-clause-stays
ask-returns-clause-stays t c =
    c.loop-n.invariant.stays

pub of_virtual-returns-in-Component-clause-stays : goal.of_virtual-returns-in-Component-clause-stays
of_virtual-returns-in-Component-clause-stays t c =
    c.standing.ensures.stays

pub of_virtual-returns-in-Division-clause-stays : goal.of_virtual-returns-in-Division-clause-stays
of_virtual-returns-in-Division-clause-stays t c =
    stays_still c.args.s.now c.args.desk.now c.requires.desk

pub standing-returns-in_err-path-clause-stays : goal.standing-returns-in_err-path-clause-stays
standing-returns-in_err-path-clause-stays t c =
    stays_still c.args.s.now c.args.desk.now c.requires.desk

pub standing-returns-in_err-variable_at-in-Some-clause-stays : goal.standing-returns-in_err-variable_at-in-Some-clause-stays
standing-returns-in_err-variable_at-in-Some-clause-stays t c =
    stays_still c.args.s.now c.args.desk.now c.requires.desk

pub standing-returns-in_ok-variable_at-in-Some-clause-stays : goal.standing-returns-in_ok-variable_at-in-Some-clause-stays
standing-returns-in_ok-variable_at-in-Some-clause-stays t c =
    stays_still c.args.s.now c.args.desk.now c.requires.desk

pub standing-returns-in-None-clause-stays : goal.standing-returns-in-None-clause-stays
standing-returns-in-None-clause-stays t c =
    c.constant.ensures.stays

pub constant-returns-then-left-eq0-clause-stays : goal.constant-returns-then-left-eq0-clause-stays
constant-returns-then-left-eq0-clause-stays t c =
    stays_still c.args.s.now c.args.desk.now c.requires.desk

pub constant-returns-in_err-flat-clause-stays : goal.constant-returns-in_err-flat-clause-stays
constant-returns-in_err-flat-clause-stays t c =
    stays_still c.args.s.now c.args.desk.now c.requires.desk

pub constant-returns-in-Some-clause-stays : goal.constant-returns-in-Some-clause-stays
constant-returns-in-Some-clause-stays t c =
    stays_still c.args.s.now c.args.desk.now c.requires.desk

pub constant-returns-in_err-flat-2-clause-stays : goal.constant-returns-in_err-flat-2-clause-stays
constant-returns-in_err-flat-2-clause-stays t c =
    c.in_err-flat-2.ensures.stays

pub constant_by-returns-in_err-scalar-clause-stays : goal.constant_by-returns-in_err-scalar-clause-stays
constant_by-returns-in_err-scalar-clause-stays t c =
    c.in_err-scalar.ensures.stays

pub constant_by-returns-in_err-flat_value-in-Some-clause-stays : goal.constant_by-returns-in_err-flat_value-in-Some-clause-stays
constant_by-returns-in_err-flat_value-in-Some-clause-stays t c =
    c.in_ok-scalar.ensures.stays

pub constant_by-returns-in_ok-flat_value-in-Some-clause-stays : goal.constant_by-returns-in_ok-flat_value-in-Some-clause-stays
constant_by-returns-in_ok-flat_value-in-Some-clause-stays t c =
    c.in_ok-scalar.ensures.stays

pub constant_by-returns-in-None-clause-stays : goal.constant_by-returns-in-None-clause-stays
constant_by-returns-in-None-clause-stays t c =
    stays_on c.args.s.now c.constant_known.new.s c.constant_expression.new.s c.args.desk.now c.constant_known.new.desk c.constant_expression.new.desk c.in_ok-scalar.ensures.stays c.constant_expression.ensures.stays

pub constant_expression-returns-clause-stays : goal.constant_expression-returns-clause-stays
constant_expression-returns-clause-stays t c =
    stays_on c.args.s.now c.child_of_member.new.s c.flat_at.new.s c.args.desk.now c.args.desk.now c.flat_at.new.desk (stays_grown c.args.s.now c.child_of_member.new.s c.args.desk.now c.in_ok-child.ensures.grows c.requires.desk) c.flat_at.ensures.stays
