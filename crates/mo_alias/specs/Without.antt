-- The model without aliases: in the place of each unknown that is another stands that other, or a sum of it with a minus, at the same
-- order. Equations that say no more are left out, and the variables that stay are numbered anew.
use Rattle.std.specs.Prelude.{ℕ, zero, suc, ◌+◌, Bool, true, false, not, List, [], ◌∷◌, Option, Some, None, length, map, if◌then◌else◌, nat_eq, nat_lt}
use Rattle.std.specs.List.{list_any}
use Rattle.std.specs.Option.{option_map}
use Rattle.mo_flat.specs.declared.expr.FlatExpr.{FlatExpr, FlatExpr-F, fold-FlatExpr, roll-FlatExpr}
use Rattle.mo_flat.specs.declared.expr.FlatExpr.TheVariants.{Sum, Var}
use Rattle.mo_flat.specs.declared.model.FlatAssert.{FlatAssert}
use Rattle.mo_flat.specs.declared.model.FlatEquation.{FlatEquation}
use Rattle.mo_flat.specs.declared.model.FlatModel.{FlatModel}
use Rattle.mo_flat.specs.declared.model.FlatVar.{FlatVar}
use Rattle.mo_alias.specs.declared.found.Aliases.{Aliases}
use Rattle.mo_alias.specs.declared.found.Gone.{Gone}
use Rattle.mo_alias.specs.Numbers.{number_among, variable_of}

-- ---- what stands in the place of a variable: another, with its sign

-- what is said of an unknown, if it is gone
abbrev pub gone_at : List Gone → ℕ → Option Gone
gone_at [] unknown = None
gone_at (g ∷ gone) unknown = if nat_eq g.unknown unknown then Some g else gone_at gone unknown

abbrev pub is_absent : Option Gone → Bool
is_absent None = true
is_absent (Some g) = false

-- how many of the numbers from 1 to n are kept
abbrev pub kept_to : (ℕ → Bool) → ℕ → ℕ
kept_to keep zero = 0
kept_to keep (suc n) = if keep (suc n) then suc (kept_to keep n) else kept_to keep n

module _ (vars : List FlatVar) (gone : List Gone) where
  -- a variable that stays, by its number
  abbrev pub stays : ℕ → Bool
  stays variable = is_absent (gone_at gone (number_among vars variable))

  -- the new number of a variable that stays
  abbrev pub new_number : ℕ → ℕ
  new_number = kept_to stays

  abbrev pub place_of : Option Gone → ℕ → Bool × ℕ
  place_of None variable = (false, new_number variable)
  place_of (Some g) variable = (g.minus, new_number (variable_of vars g.of))

  -- the sign and the new number of what stands in the place of a variable; what is no variable stays
  abbrev pub place : ℕ → Bool × ℕ
  place variable =
      if nat_lt (length vars) variable then (false, variable) else place_of (gone_at gone (number_among vars variable)) variable

-- ---- everywhere

-- order k of what stands in a variable's place
abbrev pub order_of : Bool × ℕ → ℕ → FlatExpr
order_of (false, variable) order = Var variable order
order_of (true, variable) order = Sum ((true, Var variable order) ∷ [])

abbrev pub replace_node : (ℕ → Bool × ℕ) → FlatExpr-F FlatExpr → FlatExpr
replace_node place (FlatExpr-F.Var variable order) = order_of (place variable) order
replace_node place node = roll-FlatExpr node

abbrev pub replaced : (ℕ → Bool × ℕ) → FlatExpr → FlatExpr
replaced place = fold-FlatExpr FlatExpr (replace_node place)

abbrev pub replaced_option : (ℕ → Bool × ℕ) → Option FlatExpr → Option FlatExpr
replaced_option place = option_map (replaced place)

abbrev pub replaced_attribute : (ℕ → Bool × ℕ) → ℕ × FlatExpr → ℕ × FlatExpr
replaced_attribute place attribute = (attribute.0, replaced place attribute.1)

abbrev pub replaced_variable : (ℕ → Bool × ℕ) → FlatVar → FlatVar
replaced_variable place v = record {
  name = v.name;
  kind = v.kind;
  kind_text = v.kind_text;
  role = v.role;
  attributes = map (replaced_attribute place) v.attributes;
  binding = replaced_option place v.binding;
  place = v.place;
}

abbrev pub replaced_equation : (ℕ → Bool × ℕ) → FlatEquation → FlatEquation
replaced_equation place q = record { left = replaced place q.left; right = replaced place q.right; place = q.place }

abbrev pub replaced_assert : (ℕ → Bool × ℕ) → FlatAssert → FlatAssert
replaced_assert place a = record {
  condition = replaced place a.condition;
  message = replaced place a.message;
  level = replaced_option place a.level;
}

-- ---- the model

-- the elements that are kept, where the first has number n
abbrev pub kept_from : {A : Type 0} → (ℕ → Bool) → ℕ → List A → List A
kept_from keep n [] = []
kept_from keep n (x ∷ xs) = if keep n then x ∷ kept_from keep (n + 1) xs else kept_from keep (n + 1) xs

-- the equation of that number is not dropped
abbrev pub is_kept : List ℕ → ℕ → Bool
is_kept dropped i = not (list_any (nat_eq i) dropped)

-- with these places of variables, and the variables and equations that are kept by their numbers
abbrev pub without_by : (ℕ → Bool × ℕ) → (ℕ → Bool) → (ℕ → Bool) → FlatModel → FlatModel
without_by place keep_variable keep_equation m = record {
  name = m.name;
  place = m.place;
  vars = map (replaced_variable place) (kept_from keep_variable 1 m.vars);
  first = map (replaced_equation place) m.first;
  first_asserts = map (replaced_assert place) m.first_asserts;
  equations = map (replaced_equation place) (kept_from keep_equation 1 m.equations);
  asserts = map (replaced_assert place) m.asserts;
}

abbrev pub without : FlatModel → Aliases → FlatModel
without m a = without_by (place m.vars a.gone) (stays m.vars a.gone) (is_kept a.dropped) m
