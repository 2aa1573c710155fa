-- The branches of an if-equation, one after another.
use Rattle.std.proofs.Common.{◌≡◌, ℕ, ◌+◌, ◌<◌, true, false, List, [], ◌∷◌, ◌++◌, drop, length, get_or, Some, None, Ok, Err, refl, ap, sym, subst, ◌∙◌, append_assoc}
use Rattle.std.proofs.lemmas.List.{append-nil, drop_more}
use Rattle.mo_syntax.specs.Outcome.{Outcome, and_then}
use Rattle.mo_syntax.specs.declared.equation.EquationKind.{EquationKind}
use Rattle.mo_syntax.specs.declared.equation.EquationOf.{EquationOf}
use Rattle.mo_syntax.specs.declared.expr.Expr.{Expr}
use Rattle.mo_syntax.specs.declared.place.Broken.{Broken}
use Rattle.mo_syntax.specs.declared.place.Stop.{Stop}
use Rattle.mo_syntax.specs.declared.place.Stop.TheVariants.{Broken as broken_by, NoMemory as no_memory}
use Rattle.mo_flat.specs.declared.expr.FlatExpr.{FlatExpr}
use Rattle.mo_typing.specs.Outcome as told
use Rattle.mo_values.specs.Scalars.{Known}
use Rattle.mo_values.specs.declared.value.Scalar.TheVariants.{Whole, Truth, Literal}
use Rattle.mo_equations.specs.declared.desk.Desk.{Desk}
use Rattle.mo_equations.specs.declared.flat.Flat.{Flat}
use Rattle.mo_equations.specs.declared.made.Made.{Made as MadeAt}
use Rattle.mo_equations.specs.Equations.{Site, condition_known, in_branch}
use Rattle.mo_equations.specs.Gathering.{Made, Turning, turn_none, turn_then}
use Rattle.mo_equations.specs.Joining.{Choice}
use Rattle.mo_equations.specs.Leaves.{Tree}
use Rattle.mo_equations.specs.steps.Choices.{AreBranches}
use Rattle.mo_equations.specs.steps.Flats.{IsFlat}
use Rattle.mo_equations.specs.steps.Makings.{IsMade}
use Rattle.mo_equations.specs.steps.Turns.{GivesBranch, GivesChoice, GivesMade, all_made_at, choice_at, undecided_at}

abbrev Branch : Type 0
Branch = FlatExpr × Made

abbrev Written : Type 0
Written = Expr × List (EquationOf EquationKind)

-- ---- branches in front

abbrev in_front : List Branch → Choice × ℕ → Outcome (Choice × ℕ)
in_front branches c = Ok ((branches ++ c.0.0, c.0.1), c.1)

-- a choice with branches in front of it
abbrev pub put_front : List Branch → Turning Choice → Turning Choice
put_front branches rest = turn_then rest (λ choice. turn_none (Ok (branches ++ choice.0, choice.1)))

pub front_none : (rest : Turning Choice) (turns : ℕ) → put_front [] rest turns ≡ rest turns
front_none rest turns = go (rest turns)
  where
    go : (o : Outcome (Choice × ℕ)) → and_then {A = Choice × ℕ} {B = Choice × ℕ} o (in_front []) ≡ o
    go (Ok c) = refl
    go (Err broken) = refl

abbrev one_more : Branch → Turning Choice → Turning Choice
one_more first rest = turn_then rest (λ choice. turn_none (Ok (first ∷ choice.0, choice.1)))

front_more : (branches : List Branch) (first : Branch) (rest : Turning Choice) (turns : ℕ) → put_front (branches ++ first ∷ []) rest turns ≡ put_front branches (one_more first rest) turns
front_more branches first rest turns = go (rest turns)
  where
    go : (o : Outcome (Choice × ℕ)) → and_then {A = Choice × ℕ} {B = Choice × ℕ} o (in_front (branches ++ first ∷ []))
        ≡ and_then {A = Choice × ℕ} {B = Choice × ℕ} (and_then {A = Choice × ℕ} {B = Choice × ℕ} o (λ c. Ok ((first ∷ c.0.0, c.0.1), c.1))) (in_front branches)
    go (Ok c) = ap (λ (bs : List Branch). Ok ((bs, c.0.1), c.1)) (append_assoc branches (first ∷ []) c.0.0)
    go (Err broken) = refl

pub front_stops : (branches : List Branch) (rest : Turning Choice) (turns : ℕ) (all : Outcome (Choice × ℕ)) (broken : Broken) → put_front branches rest turns ≡ all → rest turns ≡ Err broken → all ≡ Err broken
front_stops branches rest turns all broken is h = sym is ∙ ap (λ (o : Outcome (Choice × ℕ)). and_then {A = Choice × ℕ} {B = Choice × ℕ} o (in_front branches)) h

-- ---- one branch

module _ (tree : Tree) (site : Site) (branch : Written) (rest : List Written) (others : List (EquationOf EquationKind)) (turns : ℕ) where
  pub step_true : condition_known tree site.scope branch.0 ≡ Ok (Some (Truth true)) →
      choice_at tree site (branch ∷ rest) others turns ≡ turn_then (all_made_at tree branch.1 site) (λ made. turn_none (Ok ([], made))) turns
  step_true h = rw h refl

  pub step_false : condition_known tree site.scope branch.0 ≡ Ok (Some (Truth false)) → choice_at tree site (branch ∷ rest) others turns ≡ choice_at tree site rest others turns
  step_false h = rw h refl

  pub step_other : (known : Known) → condition_known tree site.scope branch.0 ≡ Ok known → (known ≡ Some (Truth true) → ⊥) → (known ≡ Some (Truth false) → ⊥) →
      choice_at tree site (branch ∷ rest) others turns ≡ turn_then (undecided_at tree site branch.0 branch.1) (λ first. one_more first (choice_at tree (in_branch site) rest others)) turns
  step_other None h p q = rw h refl
  step_other (Some (Whole n)) h p q = rw h refl
  step_other (Some (Literal class n)) h p q = rw h refl
  step_other (Some (Truth true)) h p q = absurd (p refl)
  step_other (Some (Truth false)) h p q = absurd (q refl)

  pub step_halts : (desk : Desk) (branches : List Branch) (all : Outcome (Choice × ℕ)) (stop : Stop) → put_front branches (choice_at tree site (branch ∷ rest) others) turns ≡ all →
      told.Gives {T = Known} (Err stop) (condition_known tree site.scope branch.0) → GivesChoice (Err stop) desk all
  step_halts desk branches all (broken_by broken) is h = front_stops branches (choice_at tree site (branch ∷ rest) others) turns all broken is (rw h refl)
  step_halts desk branches all no_memory is h = tt

  -- the branch that holds is the last one
  pub true_stops : (later desk : Desk) (branches : List Branch) (all : Outcome (Choice × ℕ)) (stop : Stop) → put_front branches (choice_at tree site (branch ∷ rest) others) turns ≡ all →
      condition_known tree site.scope branch.0 ≡ Ok (Some (Truth true)) → GivesMade (Err stop) later (all_made_at tree branch.1 site turns) → GivesChoice (Err stop) desk all
  true_stops later desk branches all (broken_by broken) is h k = front_stops branches (choice_at tree site (branch ∷ rest) others) turns all broken is (step_true h ∙ rw k refl)
  true_stops later desk branches all no_memory is h k = tt

  pub true_made : (desk : Desk) (held : List (Flat × MadeAt)) (made : MadeAt) (branches : List Branch) (all : Outcome (Choice × ℕ)) → put_front branches (choice_at tree site (branch ∷ rest) others) turns ≡ all →
      AreBranches held branches → condition_known tree site.scope branch.0 ≡ Ok (Some (Truth true)) → GivesMade (Ok made) desk (all_made_at tree branch.1 site turns) →
      GivesChoice (Ok (record { branches = held; other = made })) desk all
  true_made desk held made branches all is are h k = (
    (branches ++ [], k.0),
    sym is ∙ (ap (λ (o : Outcome (Choice × ℕ)). and_then {A = Choice × ℕ} {B = Choice × ℕ} o (in_front branches)) (step_true h) ∙ rw k.1 refl),
    record { branches = subst (AreBranches held) (sym (append-nil branches)) are; other = k.2 },
  )

  -- a branch that no value decides
  pub other_stops : (later desk : Desk) (branches : List Branch) (all : Outcome (Choice × ℕ)) (known : Known) (stop : Stop) → put_front branches (choice_at tree site (branch ∷ rest) others) turns ≡ all →
      condition_known tree site.scope branch.0 ≡ Ok known → (known ≡ Some (Truth true) → ⊥) → (known ≡ Some (Truth false) → ⊥) →
      GivesBranch (Err stop) later (undecided_at tree site branch.0 branch.1 turns) → GivesChoice (Err stop) desk all
  other_stops later desk branches all known (broken_by broken) is h p q k =
      front_stops branches (choice_at tree site (branch ∷ rest) others) turns all broken is (step_other known h p q ∙ rw k refl)
  other_stops later desk branches all known no_memory is h p q k = tt

  pub other_left : (branches : List Branch) (first : Branch) (after : ℕ) (all : Outcome (Choice × ℕ)) (known : Known) → put_front branches (choice_at tree site (branch ∷ rest) others) turns ≡ all →
      condition_known tree site.scope branch.0 ≡ Ok known → (known ≡ Some (Truth true) → ⊥) → (known ≡ Some (Truth false) → ⊥) →
      undecided_at tree site branch.0 branch.1 turns ≡ Ok (first, after) → put_front (branches ++ first ∷ []) (choice_at tree (in_branch site) rest others) after ≡ all
  other_left branches first after all known is h p q k =
      front_more branches first (choice_at tree (in_branch site) rest others) after
      ∙ (sym (ap (λ (o : Outcome (Choice × ℕ)). and_then {A = Choice × ℕ} {B = Choice × ℕ} o (in_front branches)) (step_other known h p q ∙ rw k refl)) ∙ is)

  pub false_left : (branches : List Branch) (all : Outcome (Choice × ℕ)) → put_front branches (choice_at tree site (branch ∷ rest) others) turns ≡ all →
      condition_known tree site.scope branch.0 ≡ Ok (Some (Truth false)) → put_front branches (choice_at tree site rest others) turns ≡ all
  false_left branches all is h = sym (ap (λ (o : Outcome (Choice × ℕ)). and_then {A = Choice × ℕ} {B = Choice × ℕ} o (in_front branches)) (step_false h)) ∙ is

-- ---- the last branch

module _ (tree : Tree) (site : Site) (others : List (EquationOf EquationKind)) (turns : ℕ) where
  pub last_stops : (later desk : Desk) (branches : List Branch) (all : Outcome (Choice × ℕ)) (stop : Stop) → put_front branches (choice_at tree site [] others) turns ≡ all →
      GivesMade (Err stop) later (all_made_at tree others site turns) → GivesChoice (Err stop) desk all
  last_stops later desk branches all (broken_by broken) is k = front_stops branches (choice_at tree site [] others) turns all broken is (rw k refl)
  last_stops later desk branches all no_memory is k = tt

  pub last_made : (desk : Desk) (held : List (Flat × MadeAt)) (made : MadeAt) (branches : List Branch) (all : Outcome (Choice × ℕ)) → put_front branches (choice_at tree site [] others) turns ≡ all →
      AreBranches held branches → GivesMade (Ok made) desk (all_made_at tree others site turns) → GivesChoice (Ok (record { branches = held; other = made })) desk all
  last_made desk held made branches all is are k = (
    (branches ++ [], k.0),
    sym is ∙ rw k.1 refl,
    record { branches = subst (AreBranches held) (sym (append-nil branches)) are; other = k.2 },
  )

-- ---- one more branch

pub branches_more : (held : List (Flat × MadeAt)) (flat : Flat) (made : MadeAt) (branches : List Branch) (first : Branch) → AreBranches held branches → IsFlat flat first.0 → IsMade made first.1 →
    AreBranches (held ++ (flat, made) ∷ []) (branches ++ first ∷ [])
branches_more [] flat made [] first are is has = (is, has, tt)
branches_more [] flat made (b ∷ bs) first are is has = absurd are
branches_more (h ∷ hs) flat made [] first are is has = absurd are
branches_more (h ∷ hs) flat made (b ∷ bs) first are is has = (are.0, are.1, branches_more hs flat made bs first are.2 is has)

pub from_place : (branches : List Written) (i : ℕ) (branch : Written) → i < length branches → branch ≡ get_or branches i branch → drop i branches ≡ branch ∷ drop (i + 1) branches
from_place branches i branch small is = drop_more branches i branch small ∙ ap (λ (b : Written). b ∷ drop (i + 1) branches) (sym is)
