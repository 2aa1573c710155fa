-- Equations between expressions, asserts, conditions and ranges break a rule only where they and their expressions stand, and the scalar
-- equations stand where the equation does.
use Rattle.std.proofs.Common.{ℕ, ℤ, Bool, true, false, ◌&&◌, List, [], ◌∷◌, ◌++◌, map, flat_map, Option, Some, None, Ok, if◌then◌else◌}
use Rattle.mo_syntax.specs.Outcome.{Outcome, and_then}
use Rattle.mo_syntax.specs.declared.expr.Arg.{Arg, Arg-F, out-Arg}
use Rattle.mo_syntax.specs.declared.expr.Args.{Args, out-Args}
use Rattle.mo_syntax.specs.declared.expr.Expr.{Expr}
use Rattle.mo_syntax.specs.declared.expr.Node.{Node}
use Rattle.mo_syntax.specs.declared.meaning.Kind.{Kind}
use Rattle.mo_syntax.specs.declared.meaning.Kind.TheVariants.{Truth as truth_kind, Str}
use Rattle.mo_syntax.specs.declared.place.Place.{Place}
use Rattle.mo_flat.specs.declared.array.ArrayExpr.{ArrayExpr}
use Rattle.mo_flat.specs.declared.expr.FlatExpr.{FlatExpr}
use Rattle.mo_flat.specs.declared.model.FlatAssert.{FlatAssert}
use Rattle.mo_flat.specs.declared.model.FlatEquation.{FlatEquation}
use Rattle.mo_scope.specs.Frames.{Scope}
use Rattle.mo_syntax.specs.declared.rules.TheConstants.{WRONG_TYPE, CONDITION_NOT_BOOLEAN}
use Rattle.mo_typing.specs.Dims.{Dims, dims_of, matched}
use Rattle.mo_typing.specs.Indices.{Index, indices, numbers_to}
use Rattle.mo_typing.specs.Kinds.{accepts, is_number, kind_of}
use Rattle.mo_typing.specs.Outcome.{each}
use Rattle.mo_typing.specs.Subscripts.{both, subscripts_of}
use Rattle.mo_arrays.specs.Equations.{are_one, checked_sides, dims_of_sides, equation, equations_of, kinds_of_sides, sides}
use Rattle.mo_eval.specs.Components.{place_of, reader}
use Rattle.mo_values.specs.Asked.{layered, must_be_whole, only_scalar, only_truth, only_whole}
use Rattle.mo_eval.specs.Contexts.{truth_of}
use Rattle.mo_eval.specs.References.{numbers_of}
use Rattle.mo_values.specs.Scalars.{Known}
use Rattle.mo_eval.specs.Values.{known_of, most_references, reading, resolved_for_value}
use Rattle.mo_eval.specs.Virtuals.{Resolved, Virtual}
use Rattle.mo_equations.specs.Leaves.{Tree}
use Rattle.mo_equations.specs.Replacing.{of_variable, with_variables}
use Rattle.mo_equations.specs.Variables.{replacing}
use Rattle.mo_equations.specs.Equalities.{Sides, equalities, equalities_of, made_side, made_sides, replaced_sides}
use Rattle.mo_equations.specs.Asserts.{assert_of, assert_with, assertion_level, flat_argument, plain_values, value_of_argument, values_of, with_value}
use Rattle.mo_equations.specs.Equations.{condition_known, flat_condition, numbers_of_index, range_numbers, vector_size}
use Rattle.mo_places.specs.Written.{Written, At, Valued}
use Rattle.mo_places.specs.TreeWritten.{in_value}
use Rattle.mo_places.specs.Pieces.{in_argument, in_arguments_of_call, in_ranges}
use Rattle.mo_places.specs.Stands.{Anything, Every, IfAny, Answers, FrameStands, TableStands}
use Rattle.mo_places.specs.InFiles.{Descends}
use Rattle.mo_places.specs.MadeStands.{EquationStands}
use Rattle.mo_places.specs.Resolved.{ArrayStands, ResolvedStands, VirtualsStand}
use Rattle.mo_places.proofs.laws.Standing.{every_back, every_front, every_of, if_answers, then_answers}
use Rattle.mo_places.proofs.laws.Making.{any_each, any_ok, any_then, each_answers, makes, then_makes}
use Rattle.mo_places.proofs.laws.Dims.{matched_answers}
use Rattle.mo_places.proofs.laws.Layers.{LayersStand, layered_answers, must_be_whole_answers, only_scalar_answers, only_truth_answers, only_whole_answers}
use Rattle.mo_places.proofs.laws.Replacing.{accepts_answers, variables_answer}
use Rattle.mo_places.proofs.laws.Chosen.{Reads, expression_answers, variable_answers}
use Rattle.mo_places.proofs.laws.Declaring.{replaces}

module _ (P : Written → Type 0) where
  abbrev Sure : Unit {0} → Type 0
  Sure = Anything {A = Unit {0}}

  -- ---- two sides

  sides_answer : (place : Place) (left right : Kind) → P (At place) → Answers P Sure (sides place left right)
  sides_answer place left right hp =
      if_answers P Sure (are_one left right) _ _ (record { holds = hp }) (if_answers P Sure (is_number left && is_number right) _ _ (record { holds = tt }) (record { holds = hp }))

  all_at : (place : Place) → P (At place) → (left right : ArrayExpr) (all : List Index) → Every (EquationStands P) (map (equation left right place) all)
  all_at place hp left right [] = tt
  all_at place hp left right (index ∷ all) = (hp, all_at place hp left right all)

  module _ (layers : LayersStand P) where
    kinds_answer : (left right : ArrayExpr) (place : Place) → ArrayStands P left → ArrayStands P right → P (At place) → Answers P Sure (kinds_of_sides left right place)
    kinds_answer left right place hl hr hp =
        any_then P (kind_of left) (λ a. and_then (kind_of right) (sides place a)) (layers.kind left hl) (λ a.
        any_then P (kind_of right) (sides place a) (layers.kind right hr) (λ b. sides_answer place a b hp))

    dims_answer : (left right : ArrayExpr) (place : Place) → ArrayStands P left → ArrayStands P right → P (At place) → Answers P (Anything {A = Dims}) (dims_of_sides left right place)
    dims_answer left right place hl hr hp =
        any_then P (dims_of left) (λ a. and_then (dims_of right) (matched place a)) (layers.dims left hl) (λ a.
        any_then P (dims_of right) (matched place a) (layers.dims right hr) (λ b. matched_answers P place hp a b))

    checked_answer : (left right : ArrayExpr) (place : Place) → ArrayStands P left → ArrayStands P right → P (At place) → Answers P (Anything {A = Dims}) (checked_sides left right place)
    checked_answer left right place hl hr hp =
        any_then P (kinds_of_sides left right place) (λ _. and_then (dims_of_sides left right place) (λ dims. and_then (both (subscripts_of left) (subscripts_of right)) (λ _. Ok dims))) (kinds_answer left right place hl hr hp) (λ u.
        any_then P (dims_of_sides left right place) (λ dims. and_then (both (subscripts_of left) (subscripts_of right)) (λ _. Ok dims)) (dims_answer left right place hl hr hp) (λ dims.
        any_then P (both (subscripts_of left) (subscripts_of right)) (λ _. Ok dims)
        (any_then P (subscripts_of left) (λ _. subscripts_of right) (layers.subscripts left hl) (λ u. layers.subscripts right hr)) (λ u. any_ok P dims)))

    pub equations_answer : (left right : ArrayExpr) (place : Place) → ArrayStands P left → ArrayStands P right → P (At place) → Answers P (Every (EquationStands P)) (equations_of left right place)
    equations_answer left right place hl hr hp =
        then_answers P (Anything {A = Dims}) (Every (EquationStands P)) (checked_sides left right place) (λ dims. Ok (map (equation left right place) (indices dims)))
        (checked_answer left right place hl hr hp) (λ dims u. record { holds = all_at place hp left right (indices dims) })

    module _ (descends : Descends P) (tree : Tree) (stands : TableStands P tree.classes) (reads : Reads P tree.classes) where
      -- ---- equations between two expressions

      abbrev BothStand : ArrayExpr × ArrayExpr → Type 0
      BothStand both = ArrayStands P both.0 × ArrayStands P both.1

      abbrev SidesStand : Sides → Type 0
      SidesStand sides = BothStand sides.0 × VirtualsStand P sides.1

      made_sides_answer : (scope : Scope) (left right : Expr) → FrameStands P scope.frame → P (Valued left) → P (Valued right) →
          Answers P SidesStand (made_sides (made_side tree scope left) (made_side tree scope right))
      made_sides_answer scope left right hf hl hr =
          then_makes P (ArrayStands P) BothStand (made_side tree scope left) _ (reads.made scope left hf hl) (λ first h.
          then_makes P (ArrayStands P) BothStand (made_side tree scope right) _ (reads.made scope right hf hr) (λ second k.
          makes P BothStand (first, second) (h, k))) [] tt

      variable_fine : (virtuals : List Virtual) → VirtualsStand P virtuals → (n : ℕ) → Answers P (Anything {A = FlatExpr}) (of_variable (replacing tree) virtuals n)
      variable_fine virtuals h n = variable_answers P descends layers tree.classes stands reads (replacing tree) (replaces P descends layers tree stands reads) virtuals h n

      replaced_answer : (virtuals : List Virtual) → VirtualsStand P virtuals → (q : FlatEquation) → EquationStands P q → Answers P (EquationStands P) (replaced_sides tree virtuals q)
      replaced_answer virtuals hv q hq =
          then_answers P (Anything {A = FlatExpr}) (EquationStands P) (with_variables (of_variable (replacing tree) virtuals) q.left) _
          (variables_answer P (of_variable (replacing tree) virtuals) (variable_fine virtuals hv) q.left) (λ left u.
          then_answers P (Anything {A = FlatExpr}) (EquationStands P) (with_variables (of_variable (replacing tree) virtuals) q.right) _
          (variables_answer P (of_variable (replacing tree) virtuals) (variable_fine virtuals hv) q.right) (λ right v. record { holds = hq }))

      replaced_each : (virtuals : List Virtual) → VirtualsStand P virtuals → (qs : List FlatEquation) → Every (EquationStands P) qs → Every (λ q. Answers P (EquationStands P) (replaced_sides tree virtuals q)) qs
      replaced_each virtuals hv [] h = tt
      replaced_each virtuals hv (q ∷ qs) h = (replaced_answer virtuals hv q h.0, replaced_each virtuals hv qs h.1)

      equalities_of_answer : (place : Place) (both : Sides) → P (At place) → SidesStand both → Answers P (Every (EquationStands P)) (equalities_of tree place both)
      equalities_of_answer place both hp h =
          then_answers P (Every (EquationStands P)) (Every (EquationStands P)) (equations_of both.0.0 both.0.1 place) (each (replaced_sides tree both.1))
          (equations_answer both.0.0 both.0.1 place h.0.0 h.0.1 hp) (λ equations hq.
          each_answers P (EquationStands P) (replaced_sides tree both.1) equations (replaced_each both.1 h.1 equations hq))

      pub equalities_answer : (scope : Scope) (place : Place) (left right : Expr) → FrameStands P scope.frame → P (At place) → P (Valued left) → P (Valued right) →
          Answers P (Every (EquationStands P)) (equalities tree scope place left right)
      equalities_answer scope place left right hf hp hl hr =
          then_answers P SidesStand (Every (EquationStands P)) (made_sides (made_side tree scope left) (made_side tree scope right)) (equalities_of tree place)
          (made_sides_answer scope left right hf hl hr) (λ both h. equalities_of_answer place both hp h)

      -- ---- asserts

      place_stands : (e : Expr) → P (Valued e) → P (At (place_of e))
      place_stands e h = (descends.expression e h).0

      argument_answers : (scope : Scope) (kind : Kind) (e : Expr) → FrameStands P scope.frame → P (Valued e) → Answers P (Anything {A = FlatExpr}) (flat_argument tree scope kind e)
      argument_answers scope kind e hf he =
          expression_answers P descends layers tree.classes stands reads most_references (replacing tree) (replaces P descends layers tree stands reads)
          (λ got. accepts kind got (place_of e)) (only_scalar WRONG_TYPE (place_of e)) scope e [] hf he
          (λ got. accepts_answers P kind got (place_of e) (place_stands e he)) (only_scalar_answers P WRONG_TYPE (place_of e) (place_stands e he))

      with_answers : (scope : Scope) (condition message : Expr) (level : Outcome (Option FlatExpr)) → FrameStands P scope.frame → P (Valued condition) → P (Valued message) →
          Answers P (Anything {A = Option FlatExpr}) level → Answers P (Anything {A = FlatAssert}) (assert_with tree scope condition message level)
      with_answers scope condition message level hf hc hm hl =
          then_answers P (Anything {A = FlatExpr}) (Anything {A = FlatAssert}) (flat_argument tree scope truth_kind condition) _ (argument_answers scope truth_kind condition hf hc) (λ a u.
          then_answers P (Anything {A = FlatExpr}) (Anything {A = FlatAssert}) (flat_argument tree scope Str message) _ (argument_answers scope Str message hf hm) (λ b v.
          then_answers P (Anything {A = Option FlatExpr}) (Anything {A = FlatAssert}) level _ hl (λ c w. record { holds = tt })))

      abbrev ValuesStand : List Expr → Type 0
      ValuesStand values = Every (λ e. P (Valued e)) values

      assert_by : (scope : Scope) (place : Place) (values : Option (List Expr)) → FrameStands P scope.frame → P (At place) → IfAny ValuesStand values →
          Answers P (Anything {A = FlatAssert}) (assert_of tree scope place values)
      assert_by scope place None hf hp h = record { holds = hp }
      assert_by scope place (Some []) hf hp h = record { holds = hp }
      assert_by scope place (Some (condition ∷ [])) hf hp h = record { holds = hp }
      assert_by scope place (Some (condition ∷ message ∷ [])) hf hp h = with_answers scope condition message (Ok None) hf h.0 h.1.0 (record { holds = tt })
      assert_by scope place (Some (condition ∷ message ∷ level ∷ [])) hf hp h =
          with_answers scope condition message (and_then (flat_argument tree scope assertion_level level) (λ e. Ok (Some e))) hf h.0 h.1.0
          (any_then P (flat_argument tree scope assertion_level level) (λ e. Ok (Some e)) (argument_answers scope assertion_level level hf h.1.1.0) (λ e. any_ok P (Some e)))
      assert_by scope place (Some (condition ∷ message ∷ level ∷ other ∷ values)) hf hp h = record { holds = hp }

      -- the values of arguments

      abbrev argument_in : Arg-F Arg Node Args Expr → List Written
      argument_in (Arg-F.Value e) = Valued e ∷ []
      argument_in (Arg-F.Partial function named) = []

      abbrev value_in : Arg-F Arg Node Args Expr → Option Expr
      value_in (Arg-F.Value e) = Some e
      value_in (Arg-F.Partial function named) = None

      value_in_stands : (a : Arg-F Arg Node Args Expr) → Every P (argument_in a) → IfAny (λ (e : Expr). P (Valued e)) (value_in a)
      value_in_stands (Arg-F.Value e) h = h.0
      value_in_stands (Arg-F.Partial function named) h = tt

      value_stands : (argument : Arg) → Every P (in_argument argument) → IfAny (λ (e : Expr). P (Valued e)) (value_of_argument argument)
      value_stands argument h = value_in_stands (out-Arg argument) h

      with_value_stands : (value : Option Expr) (values : Option (List Expr)) → IfAny (λ (e : Expr). P (Valued e)) value → IfAny ValuesStand values → IfAny ValuesStand (with_value value values)
      with_value_stands (Some e) (Some es) h hs = (h, hs)
      with_value_stands (Some e) None h hs = tt
      with_value_stands None (Some es) h hs = tt
      with_value_stands None None h hs = tt

      values_stand : (arguments : List Arg) → Every P (flat_map in_argument arguments) → IfAny ValuesStand (values_of arguments)
      values_stand [] h = tt
      values_stand (argument ∷ arguments) h =
          with_value_stands (value_of_argument argument) (values_of arguments)
          (value_stands argument (every_front P (in_argument argument) (flat_map in_argument arguments) h))
          (values_stand arguments (every_back P (in_argument argument) (flat_map in_argument arguments) h))

      if_values : (b : Bool) (values : Option (List Expr)) → IfAny ValuesStand values → IfAny ValuesStand (if b then values else None)
      if_values true values h = h
      if_values false values h = tt

      plain_stand : (arguments : Args) → Every P (in_arguments_of_call arguments) → IfAny ValuesStand (plain_values arguments)
      plain_stand arguments h =
          let plain = flat_map in_argument (out-Args arguments).plain in
          let named = flat_map (λ (named : List ℕ × Arg). in_argument named.1) (out-Args arguments).named in
          let ranges = in_ranges (out-Args arguments).iters in
          if_values _ (values_of (out-Args arguments).plain) (values_stand (out-Args arguments).plain (every_front P plain named (every_front P (plain ++ named) ranges h)))

      pub assert_answer : (scope : Scope) (place : Place) (arguments : Args) → FrameStands P scope.frame → P (At place) → Every P (in_arguments_of_call arguments) →
          Answers P (Anything {A = FlatAssert}) (assert_of tree scope place (plain_values arguments))
      assert_answer scope place arguments hf hp h = assert_by scope place (plain_values arguments) hf hp (plain_stand arguments h)

      -- ---- conditions and ranges

      pub condition_answer : (scope : Scope) (e : Expr) → FrameStands P scope.frame → P (Valued e) → Answers P (Anything {A = FlatExpr}) (flat_condition tree scope e)
      condition_answer scope e hf he =
          expression_answers P descends layers tree.classes stands reads most_references (replacing tree) (replaces P descends layers tree stands reads)
          (only_truth CONDITION_NOT_BOOLEAN (place_of e)) (only_scalar CONDITION_NOT_BOOLEAN (place_of e)) scope e [] hf he (only_truth_answers P CONDITION_NOT_BOOLEAN (place_of e) (place_stands e he)) (only_scalar_answers P CONDITION_NOT_BOOLEAN (place_of e) (place_stands e he))

      truth_of_answer : (place : Place) (it : Resolved) → P (At place) → ResolvedStands P it → Answers P (Anything {A = Known}) (truth_of (reader (reading tree.classes most_references)) CONDITION_NOT_BOOLEAN place it)
      truth_of_answer place it hp h =
          then_answers P Sure (Anything {A = Known}) (layered (only_truth CONDITION_NOT_BOOLEAN place) (only_scalar CONDITION_NOT_BOOLEAN place) it.expression) _
          (layered_answers P layers Sure (only_truth CONDITION_NOT_BOOLEAN place) (only_scalar CONDITION_NOT_BOOLEAN place) it.expression h.expression (only_truth_answers P CONDITION_NOT_BOOLEAN place hp) (only_scalar_answers P CONDITION_NOT_BOOLEAN place hp))
          (λ u v. reads.known most_references it [] h)

      pub known_answer : (scope : Scope) (e : Expr) → FrameStands P scope.frame → P (Valued e) → Answers P (Anything {A = Known}) (condition_known tree scope e)
      known_answer scope e hf he =
          then_answers P (ResolvedStands P) (Anything {A = Known}) (resolved_for_value tree.classes most_references scope e) (truth_of (reader (reading tree.classes most_references)) CONDITION_NOT_BOOLEAN (place_of e))
          (reads.for_value most_references scope e hf he) (λ it h. truth_of_answer (place_of e) it (place_stands e he) h)

      numbers_answer : (it : Resolved) (place : Place) (n : ℕ) → ResolvedStands P it → P (At place) → Answers P (Anything {A = List ℤ}) (numbers_of (known_of tree.classes most_references it) place n)
      numbers_answer it place n h hp =
          any_each P (λ k. and_then (known_of tree.classes most_references it (k ∷ [])) (must_be_whole place)) (numbers_to n)
          (every_of (λ (k : ℕ). Answers P (Anything {A = ℤ}) (and_then (known_of tree.classes most_references it (k ∷ [])) (must_be_whole place)))
          (λ k. any_then P (known_of tree.classes most_references it (k ∷ [])) (must_be_whole place) (reads.known most_references it (k ∷ []) h) (λ known. must_be_whole_answers P place hp known)) (numbers_to n))

      size_answer : (place : Place) (dims : Dims) → P (At place) → Answers P (Anything {A = ℕ}) (vector_size place dims)
      size_answer place [] hp = record { holds = hp }
      size_answer place (n ∷ []) hp = record { holds = tt }
      size_answer place (n ∷ m ∷ dims) hp = record { holds = hp }

      range_answer : (scope : Scope) (e : Expr) → FrameStands P scope.frame → P (Valued e) → Answers P (Anything {A = List ℤ}) (range_numbers tree scope e)
      range_answer scope e hf he =
          then_answers P (ResolvedStands P) (Anything {A = List ℤ}) (resolved_for_value tree.classes most_references scope e) _ (reads.for_value most_references scope e hf he) (λ it h.
          then_answers P (Anything {A = ℕ}) (Anything {A = List ℤ}) (layered (only_whole (place_of e)) (vector_size (place_of e)) it.expression) (numbers_of (known_of tree.classes most_references it) (place_of e))
          (layered_answers P layers (Anything {A = ℕ}) (only_whole (place_of e)) (vector_size (place_of e)) it.expression h.expression
          (only_whole_answers P (place_of e) (place_stands e he)) (λ dims. size_answer (place_of e) dims (place_stands e he)))
          (λ n u. numbers_answer it (place_of e) n h (place_stands e he)))

      pub index_answer : (place : Place) (scope : Scope) (range : Option Expr) → FrameStands P scope.frame → P (At place) → Every P (in_value range) →
          Answers P (Anything {A = List ℤ}) (numbers_of_index tree place scope range)
      index_answer place scope None hf hp h = record { holds = hp }
      index_answer place scope (Some e) hf hp h = range_answer scope e hf h.0
