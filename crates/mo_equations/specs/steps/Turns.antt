-- What an answer with equations says where turns of loops are counted.
use Rattle.std.specs.Prelude.{◌≡◌, ℕ, ℤ, List, map, Result, Ok, Err}
use Rattle.mo_syntax.specs.Outcome.{Outcome}
use Rattle.mo_syntax.specs.declared.equation.EquationKind.{EquationKind}
use Rattle.mo_syntax.specs.declared.equation.EquationOf.{EquationOf}
use Rattle.mo_syntax.specs.declared.expr.Expr.{Expr}
use Rattle.mo_syntax.specs.declared.expr.IndexOf.{IndexOf}
use Rattle.mo_syntax.specs.declared.place.Place.{Place}
use Rattle.mo_syntax.specs.declared.place.Stop.{Stop}
use Rattle.mo_syntax.specs.declared.place.Stop.TheVariants.{Broken as broken_by, NoMemory as no_memory}
use Rattle.mo_flat.specs.declared.expr.FlatExpr.{FlatExpr}
use Rattle.mo_scope.specs.Frames.{Frame}
use Rattle.mo_scope.specs.Worlds.{scope_in}
use Rattle.mo_equations.specs.declared.desk.Desk.{Desk}
use Rattle.mo_equations.specs.declared.flat.Flat.{Flat}
use Rattle.mo_equations.specs.declared.forms.Site.{Site as SiteAt}
use Rattle.mo_equations.specs.declared.joining.Choice.{Choice as ChoiceAt}
use Rattle.mo_equations.specs.declared.made.Made.{Made as MadeAt}
use Rattle.mo_equations.specs.Equations.{Former, Site, all_made, made_choice, made_kind, made_loop, undecided_branch, with_iteration}
use Rattle.mo_equations.specs.Gathering.{Made, Turning, gathered, one_turn}
use Rattle.mo_equations.specs.Joining.{Choice}
use Rattle.mo_equations.specs.Leaves.{Tree, place_of_root}
use Rattle.mo_equations.specs.steps.Choices.{IsChoice}
use Rattle.mo_equations.specs.steps.Flats.{IsFlat}
use Rattle.mo_equations.specs.steps.Makings.{IsMade}

abbrev pub site_in : List Frame → SiteAt → Site
site_in frames site = record { scope = scope_in frames site.at.now.frame.0 site.at.now.iters; undecided = site.undecided }

-- The answer is this outcome, and so many turns were taken then; want of memory says nothing.
abbrev pub GivesMade : Result MadeAt Stop → Desk → Outcome (Made × ℕ) → Type 0
GivesMade (Ok held) desk told = (made : Made) × (told ≡ Ok (made, desk.turns)) × IsMade held made
GivesMade (Err (broken_by broken)) desk told = told ≡ Err broken
GivesMade (Err no_memory) desk told = Unit {0}

-- an equation as it is formed
abbrev pub formed_at : Tree → EquationOf EquationKind → EquationOf Former
formed_at tree equation = record { place = equation.place; what = made_kind tree equation.what }

-- equations one after another
abbrev pub all_made_at : Tree → List (EquationOf EquationKind) → Site → Turning Made
all_made_at tree equations = all_made (map (formed_at tree) equations)

abbrev pub branch_at : Tree → Expr × List (EquationOf EquationKind) → Expr × List (EquationOf Former)
branch_at tree branch = (branch.0, map (formed_at tree) branch.1)

-- the turns of an iteration variable, each with the loop of those behind it
abbrev pub made_turns : Tree → List ℕ → List ℤ → Place → List (IndexOf Expr) → (Site → Turning Made) → Site → Turning Made
made_turns tree name numbers place indices body site =
    gathered (λ n. one_turn (place_of_root tree) (made_loop tree place indices body (with_iteration site name n))) numbers

abbrev pub undecided_at : Tree → Site → Expr → List (EquationOf EquationKind) → Turning (FlatExpr × Made)
undecided_at tree site condition equations = undecided_branch tree site (branch_at tree (condition, equations))

abbrev pub choice_at : Tree → Site → List (Expr × List (EquationOf EquationKind)) → List (EquationOf EquationKind) → Turning Choice
choice_at tree site branches others = made_choice tree site (map (branch_at tree) branches) (map (formed_at tree) others)

abbrev pub GivesBranch : Result (Flat × MadeAt) Stop → Desk → Outcome ((FlatExpr × Made) × ℕ) → Type 0
GivesBranch (Ok held) desk told = (branch : FlatExpr × Made) × (told ≡ Ok (branch, desk.turns)) × (IsFlat held.0 branch.0 × IsMade held.1 branch.1)
GivesBranch (Err (broken_by broken)) desk told = told ≡ Err broken
GivesBranch (Err no_memory) desk told = Unit {0}

abbrev pub GivesChoice : Result ChoiceAt Stop → Desk → Outcome (Choice × ℕ) → Type 0
GivesChoice (Ok held) desk told = (choice : Choice) × (told ≡ Ok (choice, desk.turns)) × IsChoice held choice
GivesChoice (Err (broken_by broken)) desk told = told ≡ Err broken
GivesChoice (Err no_memory) desk told = Unit {0}
