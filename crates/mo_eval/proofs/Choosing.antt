-- If-expressions branch by branch.
use Rattle.std.proofs.Common.{◌≡◌, Bool, true, false, List, [], ◌∷◌, ◌++◌, Option, Some, None, Ok, Err, refl, ap, sym, ◌∙◌, append_assoc}
use Rattle.std.proofs.lemmas.List.{append-nil}
use Rattle.mo_syntax.specs.Outcome.{Outcome, and_then}
use Rattle.mo_syntax.specs.declared.expr.BranchOf.{BranchOf}
use Rattle.mo_syntax.specs.declared.place.Stop.{Stop}
use Rattle.mo_syntax.specs.declared.place.Stop.TheVariants.{Broken as broken_by, NoMemory as no_memory}
use Rattle.mo_flat.specs.declared.array.ArrayExpr.{ArrayExpr}
use Rattle.mo_scope.specs.Worlds.{World}
use Rattle.mo_values.specs.declared.context.Context.{Context}
use Rattle.mo_eval.specs.declared.choice.BranchMade.{BranchMade}
use Rattle.mo_eval.specs.declared.choice.BranchMade.TheVariants.{Dropped, Kept, Last}
use Rattle.mo_values.specs.declared.value.Scalar.TheVariants.{Whole, Truth, Literal}
use Rattle.mo_eval.specs.declared.virtuals.Virtual.{Virtual as VirtualAt}
use Rattle.mo_values.specs.Scalars.{Known}
use Rattle.mo_eval.specs.Virtuals.{Element, Virtual, Making, make, make_then}
use Rattle.mo_eval.specs.Contexts.{Part}
use Rattle.mo_values.specs.Made.{Choice}
use Rattle.mo_eval.specs.Resolving.{make_part, made_choice}
use Rattle.mo_eval.specs.steps.Sites.{IsMade}
use Rattle.mo_eval.specs.steps.Choosing.{read_condition, truth_in, branch_by, made_branch, kept_in, last_in}

-- what the branches that are left make, with those that are made before
abbrev pub behind_made : List (ArrayExpr × ArrayExpr) → Choice × List Virtual → Outcome (Choice × List Virtual)
behind_made made more = Ok ((made ++ more.0.0, more.0.1), more.1)

module _ (read : Element → Outcome Known) (context : Context) (other : Part) where
  -- what the branches behind one make with it
  abbrev pub behind_branch : List (BranchOf Part) → BranchMade → Making Choice
  behind_branch branches (Last value) = make ([], value)
  behind_branch branches Dropped = made_choice read context branches other
  behind_branch branches (Kept condition value) = make_then (made_choice read context branches other) (λ choice. make ((condition, value) ∷ choice.0, choice.1))

  by_branch : (branch : BranchOf Part) (branches : List (BranchOf Part)) (before : List Virtual) →
      made_choice read context (branch ∷ branches) other before ≡ and_then (made_branch read context branch before) (λ step. behind_branch branches step.0 step.1)
  by_branch branch branches before = asked (read_condition read context branch.condition) refl
    where
      value_kept : (x : ArrayExpr) (o : Outcome (ArrayExpr × List Virtual)) →
          and_then {B = Choice × List Virtual} o (λ n. and_then (made_choice read context branches other n.1) (λ choice. Ok (((x, n.0) ∷ choice.0.0, choice.0.1), choice.1)))
          ≡ and_then (and_then {B = BranchMade × List Virtual} (and_then {B = (ArrayExpr × ArrayExpr) × List Virtual} o (λ n. Ok ((x, n.0), n.1))) (λ both. Ok (Kept both.0.0 both.0.1, both.1))) (λ step. behind_branch branches step.0 step.1)
      value_kept x (Ok n) = refl
      value_kept x (Err broken) = refl

      kept : (o : Outcome (ArrayExpr × List Virtual)) →
          and_then {B = Choice × List Virtual} o (λ m. and_then (make_part context branch.value m.1) (λ n. and_then (made_choice read context branches other n.1) (λ choice. Ok (((m.0, n.0) ∷ choice.0.0, choice.0.1), choice.1))))
          ≡ and_then (and_then {B = BranchMade × List Virtual} (and_then {B = (ArrayExpr × ArrayExpr) × List Virtual} o (λ m. and_then (make_part context branch.value m.1) (λ n. Ok ((m.0, n.0), n.1)))) (λ both. Ok (Kept both.0.0 both.0.1, both.1))) (λ step. behind_branch branches step.0 step.1)
      kept (Ok m) = value_kept m.0 (make_part context branch.value m.1)
      kept (Err broken) = refl

      last : (o : Outcome (ArrayExpr × List Virtual)) →
          and_then {B = Choice × List Virtual} o (λ m. Ok (([], m.0), m.1)) ≡ and_then (and_then {B = BranchMade × List Virtual} o (λ m. Ok (Last m.0, m.1))) (λ step. behind_branch branches step.0 step.1)
      last (Ok m) = refl
      last (Err broken) = refl

      asked : (o : Outcome Known) → read_condition read context branch.condition ≡ o →
          made_choice read context (branch ∷ branches) other before ≡ and_then (made_branch read context branch before) (λ step. behind_branch branches step.0 step.1)
      asked (Err broken) h = rw h refl
      asked (Ok None) h = rw h (kept (make_part context branch.condition before))
      asked (Ok (Some (Whole n))) h = rw h (kept (make_part context branch.condition before))
      asked (Ok (Some (Literal class n))) h = rw h (kept (make_part context branch.condition before))
      asked (Ok (Some (Truth true))) h = rw h (last (make_part context branch.value before))
      asked (Ok (Some (Truth false))) h = rw h refl

  pub branch_ok : (branch : BranchOf Part) (before : List Virtual) (known : Known) (told : Option Bool) → read_condition read context branch.condition ≡ Ok known → truth_in known ≡ told →
      made_branch read context branch before ≡ branch_by context branch told before
  branch_ok branch before known told h t =
      ap (λ (o : Outcome Known). and_then {A = Known × List Virtual} (and_then {B = Known × List Virtual} o (λ known. Ok (known, before))) (λ made. branch_by context branch (truth_in made.0) made.1)) h ∙ ap (λ o. branch_by context branch o before) t

  -- one more branch
  pub one_more : (made : List (ArrayExpr × ArrayExpr)) (branch : BranchOf Part) (branches : List (BranchOf Part)) (before after : List Virtual) (step : BranchMade) →
      made_branch read context branch before ≡ Ok (step, after) → last_in step ≡ None →
      and_then (made_choice read context (branch ∷ branches) other before) (behind_made made) ≡ and_then (made_choice read context branches other after) (behind_made (made ++ kept_in step))
  one_more made branch branches before after step h none =
      ap (λ o. and_then o (behind_made made)) (by_branch branch branches before ∙ ap (λ o. and_then o (λ step. behind_branch branches step.0 step.1)) h)
      ∙ go step none
    where
      kept : (condition value : ArrayExpr) (o : Outcome (Choice × List Virtual)) →
          and_then (and_then {B = Choice × List Virtual} o (λ choice. Ok (((condition, value) ∷ choice.0.0, choice.0.1), choice.1))) (behind_made made)
          ≡ and_then o (behind_made (made ++ (condition, value) ∷ []))
      kept condition value (Ok choice) = ap (λ xs. Ok ((xs, choice.0.1), choice.1)) (sym (append_assoc made ((condition, value) ∷ []) choice.0.0))
      kept condition value (Err broken) = refl

      go : (step : BranchMade) → last_in step ≡ None →
          and_then (behind_branch branches step after) (behind_made made) ≡ and_then (made_choice read context branches other after) (behind_made (made ++ kept_in step))
      go Dropped e = ap (λ xs. and_then (made_choice read context branches other after) (behind_made xs)) (sym (append-nil made))
      go (Kept condition value) e = kept condition value (made_choice read context branches other after)
      go (Last value) e = absurd (cc)

  -- the last branch
  pub one_last : (made : List (ArrayExpr × ArrayExpr)) (branch : BranchOf Part) (branches : List (BranchOf Part)) (before after : List Virtual) (step : BranchMade) (value : ArrayExpr) →
      made_branch read context branch before ≡ Ok (step, after) → last_in step ≡ Some value →
      and_then (made_choice read context (branch ∷ branches) other before) (behind_made made) ≡ Ok ((made ++ kept_in step, value), after)
  one_last made branch branches before after step value h some =
      ap (λ o. and_then o (behind_made made)) (by_branch branch branches before ∙ ap (λ o. and_then o (λ step. behind_branch branches step.0 step.1)) h)
      ∙ go step some
    where
      go : (step : BranchMade) → last_in step ≡ Some value → and_then (behind_branch branches step after) (behind_made made) ≡ Ok ((made ++ kept_in step, value), after)
      go Dropped e = absurd (cc)
      go (Kept condition other) e = absurd (cc)
      go (Last last) e = let same : last ≡ value = cc in ap (λ v. Ok ((made ++ [], v), after)) same

  pub one_halts : (world : World) (stop : Stop) (virtuals : List VirtualAt) (made : List (ArrayExpr × ArrayExpr)) (branch : BranchOf Part) (branches : List (BranchOf Part)) (before : List Virtual) →
      IsMade {A = BranchMade} world (Err stop) virtuals (made_branch read context branch before) →
      IsMade {A = Choice} world (Err stop) virtuals (and_then (made_choice read context (branch ∷ branches) other before) (behind_made made))
  one_halts world (broken_by broken) virtuals made branch branches before h =
      record { is = ap (λ o. and_then o (behind_made made)) (by_branch branch branches before ∙ ap (λ o. and_then o (λ step. behind_branch branches step.0 step.1)) h.is) }
  one_halts world no_memory virtuals made branch branches before h = record { is = tt }

  pub none_left : (made : List (ArrayExpr × ArrayExpr)) (before after : List Virtual) (value : ArrayExpr) → make_part context other before ≡ Ok (value, after) →
      and_then (made_choice read context [] other before) (behind_made made) ≡ Ok ((made, value), after)
  none_left made before after value h =
      ap (λ o. and_then (and_then {B = Choice × List Virtual} o (λ m. Ok (([], m.0), m.1))) (behind_made made)) h ∙ ap (λ xs. Ok ((xs, value), after)) (append-nil made)

  pub none_left_halts : (world : World) (stop : Stop) (virtuals : List VirtualAt) (made : List (ArrayExpr × ArrayExpr)) (before : List Virtual) →
      IsMade {A = ArrayExpr} world (Err stop) virtuals (make_part context other before) →
      IsMade {A = Choice} world (Err stop) virtuals (and_then (made_choice read context [] other before) (behind_made made))
  none_left_halts world (broken_by broken) virtuals made before h =
      record { is = ap (λ o. and_then (and_then {B = Choice × List Virtual} o (λ m. Ok (([], m.0), m.1))) (behind_made made)) h.is }
  none_left_halts world no_memory virtuals made before h = record { is = tt }
