-- Tables by which the model without aliases is made.
use Rattle.std.specs.Prelude.{ℕ, Bool, false, List, [], ◌∷◌, Option, None, Some, get_or, if◌then◌else◌, nat_eq}
use Rattle.mo_alias.specs.declared.found.Gone.{Gone}
use Rattle.mo_alias.specs.Without.{is_absent}

-- by a table of what stands in the places of variables; what is no variable stays
abbrev pub place_at : List (Bool × ℕ) → ℕ → Bool × ℕ
place_at places variable = get_or places variable (false, variable)

abbrev pub flag_at : List Bool → ℕ → Bool
flag_at flags n = get_or flags n false

-- of a variable with a number among the unknowns, by what is said of each
abbrev pub stays_by : List (Option Gone) → ℕ → Bool
stays_by said number = is_absent (get_or said number None)

abbrev pub place_by : List ℕ → List ℕ → Option Gone → ℕ → Bool × ℕ
place_by new variables None variable = (false, get_or new variable 0)
place_by new variables (Some g) variable = (g.minus, get_or new (get_or variables g.of 0) 0)

-- what is said of an unknown, with one more said behind it
abbrev pub gone_next : Option Gone → Gone → ℕ → Option Gone
gone_next (Some before) g unknown = Some before
gone_next None g unknown = if nat_eq g.unknown unknown then Some g else None

-- with all of a list said behind it
abbrev pub gone_from : Option Gone → List Gone → ℕ → Option Gone
gone_from before [] unknown = before
gone_from before (g ∷ gone) unknown = gone_from (gone_next before g unknown) gone unknown
