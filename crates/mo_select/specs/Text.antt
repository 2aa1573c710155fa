-- The text of a selection: for each stage its equations, the dummies that are chosen, and for each level how many unknowns of that level or
-- below were chosen, with the equations that they leave out; then the states.
use Rattle.std.specs.Prelude.{ℕ, suc, ◌+◌, ◌-◌, List, [], ◌∷◌, ◌++◌, codes, flat_map, get_or, length, map}
use Rattle.mo_incidence.specs.declared.findings.Offsets.{Offsets}
use Rattle.mo_incidence.specs.Dummies.{differentiated}
use Rattle.mo_incidence.specs.Offsets.{by_place, by_number}
use Rattle.mo_report.specs.Lines.{derivative, lines_below, numbered, state_line}
use Rattle.mo_select.specs.declared.selection.Selection.{Selection}
use Rattle.mo_select.specs.declared.selection.Stage.{Stage}

-- the levels of stateSelect, from 0 (Modelica Language Specification 3.5, section 4.8.7.1)
abbrev pub level_names : List (List ℕ)
level_names = codes "never" ∷ codes "avoid" ∷ codes "default" ∷ codes "prefer" ∷ codes "always" ∷ []

-- numbers, each behind a blank
abbrev pub listed : List ℕ → List ℕ
listed numbers = flat_map (numbered (32 ∷ [])) numbers

-- the numbers of the first n equations that are differentiated at least s times, each behind a blank
abbrev pub equations_at : (ℕ → ℕ) → ℕ → ℕ → List ℕ
equations_at c s n = listed (map suc (differentiated c s n))

abbrev pub stage_head : List ℕ → ℕ → List ℕ
stage_head c s = numbered (codes "stage ") s ++ codes " equations" ++ equations_at (by_place c) s (length c) ++ codes "\n"

-- a chosen unknown, at stage s
abbrev pub choice_line : List (List ℕ) → List ℕ → ℕ → ℕ × ℕ → List ℕ
choice_line names d s chosen = codes "dummy " ++ derivative names chosen.0 (by_number d chosen.0 - s + 1) ++ numbered (codes " stage ") s ++ codes "\n"

-- the equations that are left out, where there are any
abbrev pub left_out : List ℕ → List ℕ
left_out [] = []
left_out (i ∷ others) = codes " without" ++ listed (i ∷ others)

abbrev pub level_line : Stage → ℕ → List ℕ
level_line stage n =
    get_or level_names n [] ++ numbered (32 ∷ []) (get_or stage.counts n 0) ++ left_out (get_or stage.without n []) ++ codes "\n"

abbrev pub stage_lines : List (List ℕ) → Offsets → ℕ → Stage → List ℕ
stage_lines names offsets s stage =
    stage_head offsets.c.items s ++ flat_map (choice_line names offsets.d.items s) stage.chosen ++ lines_below (level_line stage) 5

-- of stage s and those behind it
abbrev pub stages_from : List (List ℕ) → Offsets → ℕ → List Stage → List ℕ
stages_from names offsets s [] = []
stages_from names offsets s (stage ∷ stages) = stage_lines names offsets s stage ++ stages_from names offsets (suc s) stages

-- the text, where the model and its unknowns have these names
abbrev pub selection_lines : List ℕ → List (List ℕ) → Offsets → Selection → List ℕ
selection_lines name unknowns offsets selection =
    codes "select " ++ name ++ codes "\n" ++ stages_from unknowns offsets 1 selection.stages ++ flat_map (state_line unknowns) selection.states
