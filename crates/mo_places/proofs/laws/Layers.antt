-- What is asked of the kind, the dimensions and the subscripts of a resolved expression, and of its value, stands where the expression does:
-- what these laws of kinds, dimensions, subscripts and walks say is gathered here, for the laws on what is resolved.
use Rattle.std.proofs.Common.{ℕ, [], ◌∷◌, Some, None, Ok}
use Rattle.mo_syntax.specs.Outcome.{Outcome}
use Rattle.mo_syntax.specs.declared.meaning.Kind.{Kind}
use Rattle.mo_syntax.specs.declared.meaning.Kind.TheVariants.{Real, Whole as whole_kind, Truth as truth_kind, Str, Enumeration}
use Rattle.mo_syntax.specs.declared.place.Place.{Place}
use Rattle.mo_flat.specs.declared.array.ArrayExpr.{ArrayExpr}
use Rattle.mo_syntax.specs.declared.rules.TheConstants.{WRONG_TYPE}
use Rattle.mo_typing.specs.Dims.{Dims, dims_of, is_scalar}
use Rattle.mo_typing.specs.Indices.{Index}
use Rattle.mo_typing.specs.Kinds.{kind_of}
use Rattle.mo_typing.specs.Subscripts.{Checked, subscripts_of}
use Rattle.mo_values.specs.Asked.{any_kind, layered, must_be_truth, must_be_whole, only_scalar, only_truth, only_whole, scalar_or_vector}
use Rattle.mo_eval.specs.Contexts.{truth_of, whole_of}
use Rattle.mo_values.specs.Scalars.{Known, division}
use Rattle.mo_eval.specs.Virtuals.{Element, Resolved, known_at}
use Rattle.mo_values.specs.declared.value.Scalar.TheVariants.{Whole, Truth, Literal}
use Rattle.mo_places.specs.Resolved.{ArrayStands, ReadStands, ResolvedStands}
use Rattle.mo_places.specs.Stands.{Answers, Anything}
use Rattle.mo_places.specs.Written.{Written, At}
use Rattle.mo_places.proofs.laws.Standing.{then_answers, if_answers}

pub record LayersStand (P : Written → Type 0) : Type 0 where
  pub kind : (e : ArrayExpr) → ArrayStands P e → Answers P Anything (kind_of e)
  pub dims : (e : ArrayExpr) → ArrayStands P e → Answers P Anything (dims_of e)
  pub subscripts : (e : ArrayExpr) → ArrayStands P e → Answers P Anything (subscripts_of e)
  pub division : (place : Place) → P (At place) → (function : ℕ) (a b : Known) → Answers P Anything (division place function a b)
  pub known : (read : Element → Outcome Known) → ReadStands P read → (resolved : Resolved) → ResolvedStands P resolved → (index : Index) → Answers P Anything (known_at read resolved index)

pub only_whole_answers : (P : Written → Type 0) (place : Place) → P (At place) → (kind : Kind) → Answers P Anything (only_whole place kind)
only_whole_answers P place h whole_kind = record { holds = tt }
only_whole_answers P place h Real = record { holds = h }
only_whole_answers P place h truth_kind = record { holds = h }
only_whole_answers P place h Str = record { holds = h }
only_whole_answers P place h (Enumeration class) = record { holds = h }

pub only_truth_answers : (P : Written → Type 0) (rule : ℕ) (place : Place) → P (At place) → (kind : Kind) → Answers P Anything (only_truth rule place kind)
only_truth_answers P rule place h truth_kind = record { holds = tt }
only_truth_answers P rule place h Real = record { holds = h }
only_truth_answers P rule place h whole_kind = record { holds = h }
only_truth_answers P rule place h Str = record { holds = h }
only_truth_answers P rule place h (Enumeration class) = record { holds = h }

pub only_scalar_answers : (P : Written → Type 0) (rule : ℕ) (place : Place) → P (At place) → (dims : Dims) → Answers P Anything (only_scalar rule place dims)
only_scalar_answers P rule place h dims = if_answers P Anything (is_scalar dims) _ _ (record { holds = tt }) (record { holds = h })

scalar_or_vector_answers : (P : Written → Type 0) (place : Place) → P (At place) → (dims : Dims) → Answers P Anything (scalar_or_vector place dims)
scalar_or_vector_answers P place h [] = record { holds = tt }
scalar_or_vector_answers P place h (n ∷ []) = record { holds = tt }
scalar_or_vector_answers P place h (n ∷ m ∷ dims) = record { holds = h }

pub must_be_whole_answers : (P : Written → Type 0) (place : Place) → P (At place) → (known : Known) → Answers P Anything (must_be_whole place known)
must_be_whole_answers P place h (Some (Whole n)) = record { holds = tt }
must_be_whole_answers P place h (Some (Truth b)) = record { holds = h }
must_be_whole_answers P place h (Some (Literal class n)) = record { holds = h }
must_be_whole_answers P place h None = record { holds = h }

pub must_be_truth_answers : (P : Written → Type 0) (place : Place) → P (At place) → (known : Known) → Answers P Anything (must_be_truth place known)
must_be_truth_answers P place h (Some (Truth b)) = record { holds = tt }
must_be_truth_answers P place h (Some (Whole n)) = record { holds = h }
must_be_truth_answers P place h (Some (Literal class n)) = record { holds = h }
must_be_truth_answers P place h None = record { holds = h }

module _ (P : Written → Type 0) (layers : LayersStand P) where
  pub layered_answers : {A : Type 0} (Q : A → Type 0) (wanted : Kind → Checked) (fit : Dims → Outcome A) (e : ArrayExpr) → ArrayStands P e →
      ((kind : Kind) → Answers P Anything (wanted kind)) → ((dims : Dims) → Answers P Q (fit dims)) → Answers P Q (layered wanted fit e)
  layered_answers Q wanted fit e h hw hf =
      then_answers P Anything Q (kind_of e) _ (layers.kind e h) (λ kind _.
      then_answers P Anything Q (wanted kind) _ (hw kind) (λ _ _.
      then_answers P Anything Q (dims_of e) _ (layers.dims e h) (λ dims _.
      then_answers P Q Q (fit dims) _ (hf dims) (λ fitted hq.
      then_answers P Anything Q (subscripts_of e) _ (layers.subscripts e h) (λ _ _. record { holds = hq })))))

  pub whole_scalar_answers : (place : Place) → P (At place) → (e : ArrayExpr) → ArrayStands P e → Answers P Anything (layered (only_whole place) (only_scalar WRONG_TYPE place) e)
  whole_scalar_answers place hp e h = layered_answers Anything (only_whole place) (only_scalar WRONG_TYPE place) e h (only_whole_answers P place hp) (only_scalar_answers P WRONG_TYPE place hp)

  pub whole_vector_answers : (place : Place) → P (At place) → (e : ArrayExpr) → ArrayStands P e → Answers P Anything (layered (only_whole place) (scalar_or_vector place) e)
  whole_vector_answers place hp e h = layered_answers Anything (only_whole place) (scalar_or_vector place) e h (only_whole_answers P place hp) (scalar_or_vector_answers P place hp)

  pub sizes_answer : (e : ArrayExpr) → ArrayStands P e → Answers P Anything (layered any_kind (λ dims. Ok dims) e)
  sizes_answer e h = layered_answers Anything any_kind (λ dims. Ok dims) e h (λ kind. record { holds = tt }) (λ dims. record { holds = tt })

  pub whole_of_answers : (read : Element → Outcome Known) → ReadStands P read → (place : Place) → P (At place) → (resolved : Resolved) → ResolvedStands P resolved → Answers P Anything (whole_of read place resolved)
  whole_of_answers read hr place hp resolved h =
      then_answers P Anything Anything (layered (only_whole place) (only_scalar WRONG_TYPE place) resolved.expression) _ (whole_scalar_answers place hp resolved.expression h.expression) (λ _ _.
      then_answers P Anything Anything (known_at read resolved []) _ (layers.known read hr resolved h []) (λ known _. must_be_whole_answers P place hp known))

  pub truth_of_answers : (read : Element → Outcome Known) → ReadStands P read → (rule : ℕ) (place : Place) → P (At place) → (resolved : Resolved) → ResolvedStands P resolved → Answers P Anything (truth_of read rule place resolved)
  truth_of_answers read hr rule place hp resolved h =
      then_answers P Anything Anything (layered (only_truth rule place) (only_scalar rule place) resolved.expression) _
      (layered_answers Anything (only_truth rule place) (only_scalar rule place) resolved.expression h.expression (only_truth_answers P rule place hp) (only_scalar_answers P rule place hp))
      (λ _ _. layers.known read hr resolved h [])
