-- How deep values are: more references left change no answer.
--
-- What is answered once with so many references left is answered so with more. So a value, once known with the number of references
-- that it needs, may be used wherever as many are left.
use Rattle.std.specs.Prelude.{◌≡◌, ℕ, ◌≤◌, Bool, Ok}
use Rattle.mo_syntax.specs.Outcome.{Outcome}
use Rattle.mo_syntax.specs.declared.expr.Expr.{Expr}
use Rattle.mo_scope.specs.Rows.{Table}
use Rattle.mo_scope.specs.Frames.{Scope, Member}
use Rattle.mo_typing.specs.Dims.{Dims}
use Rattle.mo_typing.specs.Indices.{Index}
use Rattle.mo_values.specs.Scalars.{Known}
use Rattle.mo_eval.specs.Virtuals.{Element}
use Rattle.mo_eval.specs.Values.{value_of, sizes_of, resolved, there_of, component_dims, value_of_element}

-- the answers of one are answers of the other
abbrev pub AnswersAlso : {A : Type 0} → Outcome A → Outcome A → Type 0
AnswersAlso {A} less more = (value : A) → less ≡ Ok value → more ≡ Ok value

-- More references left change no answer of a definition that is given their number.
abbrev pub IsSteady : {A : Type 0} → (ℕ → Outcome A) → Type 0
IsSteady outcome = (left more : ℕ) → left ≤ more → AnswersAlso (outcome left) (outcome more)

-- The law, for each of what is read.
pub record MoreReferencesChangeNoAnswer (table : Table) : Type 0 where
  pub values : (scope : Scope) (e : Expr) (index : Index) → IsSteady (λ left. value_of table left scope e index)
  pub sizes : (scope : Scope) (e : Expr) → IsSteady (λ left. sizes_of table left scope e)
  pub expressions : (scope : Scope) (e : Expr) → IsSteady (λ left. resolved table left scope e)
  pub conditions : (member : Member) → IsSteady (λ left. there_of table left member)
  pub dims : (member : Member) → IsSteady (λ left. component_dims table left member)
  pub elements : (element : Element) → IsSteady (λ left. value_of_element table left element)

-- ---- what a table may keep

-- A value that is kept for an element, with the number of references that were left when it was found.
abbrev pub IsValueAt : Table → ℕ → Element → Known → Type 0
IsValueAt table height element known = value_of_element table height element ≡ Ok known

abbrev pub IsThereAt : Table → ℕ → Member → Bool → Type 0
IsThereAt table height member b = there_of table height member ≡ Ok b

abbrev pub HasDimsAt : Table → ℕ → Member → Dims → Type 0
HasDimsAt table height member dims = component_dims table height member ≡ Ok dims
