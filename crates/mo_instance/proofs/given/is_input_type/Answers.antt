-- One class after another.
use Rattle.std.proofs.Common.{◌≡◌, List, Option, Some, None, ap, sym, ◌∙◌, arith}
use Rattle.std.specs.Prelude.{option_map}
use Rattle.mo_syntax.specs.declared.expr.Expr.{Expr}
use Rattle.mo_scope.specs.Frames.{Frame, class_of}
use Rattle.mo_scope.specs.Rows.{Table, row_at}
use Rattle.mo_scope.specs.Worlds.{frame_at, frames_of, table_in}
use Rattle.mo_names.proofs.Later.{grows_refl, grows_trans, table_later}
use Rattle.mo_lookup.specs.Types.{onward_seen, step_of}
use Rattle.mo_instance.specs.steps.Ways.{is_input_row}
use Rattle.mo_instance.proofs.Inputs.{input_ends, input_is, input_none, input_on}
use Rattle.mo_instance.proofs.given.is_input_type.Goals as goal

pub returns-then-is_input_class-clause-value : goal.returns-then-is_input_class-clause-value
returns-then-is_input_class-clause-value c =
    let u = c.args.s.now in
    let v = c.loop-left.s in
    let f = frame_at v c.loop-left.frame.0 in
    sym (input_is (table_in u) c.loop-left.left f c.loop-left-test.true
    (ap (λ (t : Table). is_input_row (row_at t (class_of f))) (sym (table_later u v c.loop-left.invariant.grows)) ∙ (sym c.is_input_class.ensures ∙ c.if-is_input_class.true)))
    ∙ c.loop-left.invariant.left

pub returns-in-None-clause-value : goal.returns-in-None-clause-value
returns-in-None-clause-value c =
    let u = c.args.s.now in
    let v = c.loop-left.s in
    let f = frame_at v c.loop-left.frame.0 in
    let none : ◌≡◌ {A = Option (List (Option Expr) × Frame)} None (step_of (table_in u) f) =
    sym (ap (option_map (onward_seen (frames_of c.step.new.s))) c.in-None.is) ∙ c.in_ok-on.ensures.value
    ∙ ap (λ (t : Table). step_of t f) (table_later u v c.loop-left.invariant.grows)
    in
    sym (input_ends (table_in u) c.loop-left.left f c.loop-left-test.true
    (ap (λ (t : Table). is_input_row (row_at t (class_of f))) (sym (table_later u v c.loop-left.invariant.grows)) ∙ (sym c.is_input_class.ensures ∙ c.if-is_input_class.false)) none)
    ∙ c.loop-left.invariant.left

pub loop-left-preserved : goal.loop-left-preserved
loop-left-preserved c =
    let u = c.args.s.now in
    let v = c.loop-left.s in
    let f = frame_at v c.loop-left.frame.0 in
    let base = frame_at c.step.new.s c.in-Some.on.base.0 in
    let on : ◌≡◌ {A = Option (List (Option Expr) × Frame)} (Some (c.in-Some.on.subscripts.now, base)) (step_of (table_in u) f) =
    sym (ap (option_map (onward_seen (frames_of c.step.new.s))) c.in-Some.is) ∙ c.in_ok-on.ensures.value
    ∙ ap (λ (t : Table). step_of t f) (table_later u v c.loop-left.invariant.grows)
    in
    record {
      grows = grows_trans u v c.step.new.s c.loop-left.invariant.grows c.in_ok-on.ensures.grows;
      stand = rw c.in-Some.is at c.in_ok-on.ensures.stand;
      left = input_on (table_in u) c.loop-left.left f base c.in-Some.on.subscripts.now c.loop-left-test.true
          (ap (λ (t : Table). is_input_row (row_at t (class_of f))) (sym (table_later u v c.loop-left.invariant.grows)) ∙ (sym c.is_input_class.ensures ∙ c.if-is_input_class.false)) on
          ∙ c.loop-left.invariant.left;
    }

pub returns-clause-value : goal.returns-clause-value
returns-clause-value c =
    let u = c.args.s.now in
    let v = c.loop-left.s in
    let none : c.loop-left.left ≡ 0 = omega arith in
    sym (input_none (table_in u) c.loop-left.left (frame_at v c.loop-left.frame.0) none) ∙ c.loop-left.invariant.left

pub returns-in_err-left-clause-grows : goal.returns-in_err-left-clause-grows
returns-in_err-left-clause-grows c = grows_refl _
