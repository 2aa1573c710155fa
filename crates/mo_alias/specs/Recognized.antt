-- Alias equations: those that say of two unknowns that one is the other, or minus the other. Modelica tools take them out before
-- they solve a model (F. E. Cellier and E. Kofman, Continuous System Simulation, 2006, chapter 7).
use Rattle.std.specs.Prelude.{ℕ, zero, suc, pos, Bool, true, false, not, List, [], ◌∷◌, Option, Some, None, map, get_or, if◌then◌else◌}
use Rattle.std.specs.Option.{option_map}
use Rattle.std.specs.Ordering.{int_eq}
use Rattle.mo_flat.specs.declared.expr.FlatExpr.{FlatExpr, FlatExpr-F, out-FlatExpr}
use Rattle.mo_flat.specs.declared.model.FlatEquation.{FlatEquation}
use Rattle.mo_flat.specs.declared.model.FlatModel.{FlatModel}
use Rattle.mo_alias.specs.declared.alias.Alias.{Alias}
use Rattle.mo_alias.specs.Numbers.{numbers_among}

-- the product of two signs, each true where it is a minus
abbrev pub sign_product : Bool → Bool → Bool
sign_product false b = b
sign_product true b = not b

abbrev pub positive : ℕ → Option ℕ
positive zero = None
positive (suc n) = Some (suc n)

-- the unknown that a node is, at order 0, where variables have these numbers among the unknowns
abbrev pub unknown_node : List ℕ → FlatExpr-F FlatExpr → Option ℕ
unknown_node numbers (FlatExpr-F.Var variable zero) = positive (get_or numbers variable 0)
unknown_node numbers _ = None

abbrev pub unknown_in : List ℕ → FlatExpr → Option ℕ
unknown_in numbers e = unknown_node numbers (out-FlatExpr e)

abbrev pub with_sign : Bool → Option ℕ → Option (Bool × ℕ)
with_sign minus unknown = option_map (λ u. (minus, u)) unknown

abbrev pub pair_of : {A : Type 0} → Option A → Option A → Option (A × A)
pair_of (Some a) (Some b) = Some (a, b)
pair_of _ _ = None

-- one unknown, with or without a minus
abbrev pub signed_node : List ℕ → FlatExpr-F FlatExpr → Option (Bool × ℕ)
signed_node numbers (FlatExpr-F.Sum ((minus, e) ∷ [])) = with_sign minus (unknown_in numbers e)
signed_node numbers node = with_sign false (unknown_node numbers node)

-- a sum of two terms that are each an unknown
abbrev pub two_terms : List ℕ → FlatExpr-F FlatExpr → Option ((Bool × ℕ) × (Bool × ℕ))
two_terms numbers (FlatExpr-F.Sum ((minus, e) ∷ (other, f) ∷ [])) = pair_of (with_sign minus (unknown_in numbers e)) (with_sign other (unknown_in numbers f))
two_terms numbers _ = None

-- the first is the second, or minus it where `opposite`
abbrev pub said_by : Bool → (Bool × ℕ) × (Bool × ℕ) → Alias
said_by opposite (a, b) = record { left = a.1; right = b.1; minus = sign_product opposite (sign_product a.0 b.0) }

-- the Integer literal 0
abbrev pub is_zero_node : FlatExpr-F FlatExpr → Bool
is_zero_node (FlatExpr-F.Whole n) = int_eq n (pos 0)
is_zero_node _ = false

-- what an equation between two nodes says of two unknowns, if it is an alias equation
abbrev pub alias_between : List ℕ → FlatExpr-F FlatExpr → FlatExpr-F FlatExpr → Option Alias
alias_between numbers left right =
    if is_zero_node left then option_map (said_by true) (two_terms numbers right)
    else (if is_zero_node right then option_map (said_by true) (two_terms numbers left)
    else option_map (said_by false) (pair_of (signed_node numbers left) (signed_node numbers right)))

abbrev pub alias_of : List ℕ → FlatEquation → Option Alias
alias_of numbers q = alias_between numbers (out-FlatExpr q.left) (out-FlatExpr q.right)

-- what each equation of a model says, in flat order
abbrev pub aliases_in : FlatModel → List (Option Alias)
aliases_in m = map (alias_of (numbers_among m.vars)) m.equations
