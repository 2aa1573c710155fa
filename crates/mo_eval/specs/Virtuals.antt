-- What the variables of a resolved expression stand for (Modelica Language Specification 3.5, sections 3.8, 4.4 and 10.5).
--
-- Resolving an expression puts numbers of variables in the place of its names. They are virtual: a list says what each stands for,
-- the first one has number 1.
use Rattle.std.specs.Prelude.{ℕ, ◌+◌, ◌-◌, Bool, List, [], ◌∷◌, ◌++◌, fold, length, None, Ok, slice_get}
use Rattle.mo_syntax.specs.Outcome.{Outcome, and_then}
use Rattle.mo_syntax.specs.declared.meaning.Kind.{Kind}
use Rattle.mo_syntax.specs.declared.place.Place.{Place}
use Rattle.mo_flat.specs.declared.array.ArrayExpr.{ArrayExpr}
use Rattle.mo_scope.specs.Frames.{Member}
use Rattle.mo_typing.specs.Dims.{Dims}
use Rattle.mo_typing.specs.Indices.{Index, or_else}
use Rattle.mo_values.specs.Scalars.{Known, division}
use Rattle.mo_values.specs.Walk.{known_by}

-- An element of a component: its declaration, with the frame that it stands in, and its index; the kind of its type, which is Real for
-- a component that is no leaf; where the reference to it stands, and whether a declaration found by the names of the reference makes it
-- constant.
pub record Element : Type 0 where
  pub member : Member
  pub index : Index
  pub kind : Kind
  pub place : Place
  pub constant : Bool

-- An element of a component, or a call of `div`, `mod` or `rem` with its operands, whose variables stand before it in the list.
pub data Virtual : Type 0 where
  Component_element : Element → Virtual
  Division : Place → (function : ℕ) → ArrayExpr → ArrayExpr → Virtual

pub record Resolved : Type 0 where
  pub expression : ArrayExpr
  pub virtuals : List Virtual

-- ---- what is read one reference deeper

-- Whether a component is there, by its condition; its dimensions; and the value that the binding of an element gives.
pub record Reading : Type 0 where
  pub is_there : Member → Outcome Bool
  pub dims : Member → Outcome Dims
  pub value : Element → Outcome Known

-- A reference asks at its place for what is read deeper; where no more references may be read it breaks a rule there.
abbrev pub Ask : Type 0
Ask = Place → Outcome Reading

-- ---- what is made, with the virtual variables that are made on the way

abbrev pub Making : Type 0 → Type 0
Making A = List Virtual → Outcome (A × List Virtual)

abbrev pub make : {A : Type 0} → A → Making A
make a virtuals = Ok (a, virtuals)

abbrev pub make_then : {A B : Type 0} → Making A → (A → Making B) → Making B
make_then first f virtuals = and_then (first virtuals) (λ made. f made.0 made.1)

-- what makes no variable
abbrev pub make_from : {A : Type 0} → Outcome A → Making A
make_from outcome virtuals = and_then outcome (λ a. Ok (a, virtuals))

abbrev pub make_each : {A B : Type 0} → (A → Making B) → List A → Making (List B)
make_each f [] = make []
make_each f (x ∷ xs) = make_then (f x) (λ y. make_then (make_each f xs) (λ ys. make (y ∷ ys)))

-- numbers for so many variables that stand behind those before
abbrev pub numbers_behind : {A : Type 0} → ℕ → List A → List ℕ
numbers_behind before [] = []
numbers_behind before (x ∷ xs) = (before + 1) ∷ numbers_behind (before + 1) xs

-- the numbers of new variables
abbrev pub make_variables : List Virtual → Making (List ℕ)
make_variables new virtuals = Ok (numbers_behind (length virtuals) new, virtuals ++ new)

abbrev pub resolved_by : Outcome (ArrayExpr × List Virtual) → Outcome Resolved
resolved_by outcome = and_then outcome (λ made. Ok (record { expression = made.0; virtuals = made.1 }))

-- ---- what is known of them

abbrev pub numbered : List (Outcome Known) → ℕ → Outcome Known
numbered known n = or_else (slice_get known (n - 1)) (Ok None)

abbrev pub known_of_virtual : (Element → Outcome Known) → List (Outcome Known) → Virtual → Outcome Known
known_of_virtual read before (Component_element element) = read element
known_of_virtual read before (Division place function a b) =
    and_then (known_by (numbered before) a []) (λ a. and_then (known_by (numbered before) b []) (λ b. division place function a b))

-- what each variable has, by those before it
abbrev pub known_of_virtuals : (Element → Outcome Known) → List Virtual → List (Outcome Known)
known_of_virtuals read virtuals = fold (λ before virtual. before ++ known_of_virtual read before virtual ∷ []) [] virtuals

-- what is known of a resolved expression at an index
abbrev pub known_at : (Element → Outcome Known) → Resolved → Index → Outcome Known
known_at read resolved = known_by (numbered (known_of_virtuals read resolved.virtuals)) resolved.expression
