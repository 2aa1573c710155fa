-- What an answer with equations says.
use Rattle.std.specs.Prelude.{◌≡◌, List, Result, Ok, Err}
use Rattle.mo_syntax.specs.Outcome.{Outcome, and_then}
use Rattle.mo_syntax.specs.declared.place.Stop.{Stop}
use Rattle.mo_syntax.specs.declared.place.Stop.TheVariants.{Broken as broken_by, NoMemory as no_memory}
use Rattle.mo_flat.specs.declared.model.FlatEquation.{FlatEquation}
use Rattle.mo_equations.specs.declared.made.Made.{Made as MadeAt}
use Rattle.mo_equations.specs.Gathering.{Made, beside, made_equations}
use Rattle.mo_equations.specs.steps.Flats.{Answers}
use Rattle.mo_equations.specs.steps.Makings.{IsMade}

abbrev pub GivesEquations : Result MadeAt Stop → Outcome (List FlatEquation) → Type 0
GivesEquations result told = Answers IsMade result (and_then told (λ equations. Ok (made_equations equations)))

-- The answer is this outcome, whose equations were put behind those before; want of memory says nothing.
abbrev pub PutsEquations : Result (Unit {0}) Stop → (old new : MadeAt) → Outcome (List FlatEquation) → Type 0
PutsEquations (Ok done) old new told =
    (equations : List FlatEquation) × (told ≡ Ok equations) × ((before : Made) → IsMade old before → IsMade new (beside before (made_equations equations)))
PutsEquations (Err (broken_by broken)) old new told = told ≡ Err broken
PutsEquations (Err no_memory) old new told = Unit {0}
