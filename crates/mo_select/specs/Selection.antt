-- Dummy derivatives by how much their unknowns are wanted as states (S. E. Mattsson and G. Söderlind, Index reduction in
-- differential-algebraic equations using dummy derivatives, SIAM J. Sci. Comput. 14, 1993). Stage s has the equations that are
-- differentiated at least s times. Its candidates are the unknowns chosen one stage before, at the first stage all unknowns. The sets of
-- candidates to which equations can be assigned are the independent sets of a transversal matroid (J. Edmonds and D. R. Fulkerson,
-- Transversals and matroid partition, J. Res. Nat. Bur. Standards 69B, 1965), so one of them has in every prefix of the candidates as many
-- members as any.
-- `active` lists the equations of a stage by their places, from 0. Unknowns are named by their numbers, from 1. c goes by the places of
-- equations, d and `level` by the numbers of unknowns.
use Rattle.std.specs.Prelude.{◌≡◌, ℕ, ◌+◌, ◌-◌, ◌<◌, ◌≤◌, ◌==◌, if◌then◌else◌, List, [], ◌∷◌, ◌++◌, Contains, length, map}
use Rattle.std.proofs.Common.{get_or, zero, suc}
use Rattle.mo_graph.specs.Counting.{count_below}
use Rattle.mo_graph.specs.Lists.{ListsWhere}
use Rattle.mo_incidence.specs.Signature.{Signature, equations}
use Rattle.mo_incidence.specs.Assignment.{Assigns}
use Rattle.mo_incidence.specs.Offsets.{IsTight, d_of}
use Rattle.mo_incidence.specs.declared.findings.Offsets.{Offsets}
use Rattle.mo_incidence.specs.Dummies.{differentiated, greatest, states_to}
use Rattle.mo_select.specs.declared.selection.Stage.{Stage}
use Rattle.mo_select.specs.declared.selection.Selection.{Selection}

-- ---- candidates

-- the numbers from 1 to n
abbrev pub numbers_to : ℕ → List ℕ
numbers_to zero = []
numbers_to (suc n) = numbers_to n ++ suc n ∷ []

-- of the listed unknowns those of one level, as listed
abbrev pub of_level : (ℕ → ℕ) → ℕ → List ℕ → List ℕ
of_level level n [] = []
of_level level n (j ∷ js) = if level j == n then j ∷ of_level level n js else of_level level n js

-- those of the first n levels, by level, then as listed
abbrev pub below_level : (ℕ → ℕ) → ℕ → List ℕ → List ℕ
below_level level zero js = []
below_level level (suc n) js = below_level level n js ++ of_level level n js

-- how many levels there are
unfoldable pub levels : ℕ
levels = 5

-- each number is one of a level
abbrev pub AreLevels : (ℕ → ℕ) → Type 0
AreLevels level = (j : ℕ) → level j < levels

-- ---- choices

module _ (g : Signature) (c d : ℕ → ℕ) (active : List ℕ) where
  -- the equation with x - 1 equations of the list before it is tight at unknown j
  abbrev pub CanHave : ℕ → ℕ → Type 0
  CanHave j x = (0 < x) × (x ≤ length active) × IsTight g c d (get_or active (x - 1) 0) j

  -- r gives some of the listed unknowns distinct equations, by their places in the list from 1, and 0 to the others
  abbrev pub IsPartialChoice : List ℕ → (ℕ → ℕ) → Type 0
  IsPartialChoice unknowns r = Assigns (λ t. CanHave (get_or unknowns t 0)) (length unknowns) (λ t. r (get_or unknowns t 0))

  -- each equation is given to one
  pub record IsChoice (unknowns : List ℕ) (r : ℕ → ℕ) : Type 0 where
    pub assigns : IsPartialChoice unknowns r
    pub all : (x : ℕ) → 0 < x → x ≤ length active → (t : ℕ) × (t < length unknowns) × (r (get_or unknowns t 0) ≡ x)

-- how many of the first n listed unknowns have an equation
abbrev pub members : List ℕ → (ℕ → ℕ) → ℕ → ℕ
members unknowns r n = count_below (λ t. r (get_or unknowns t 0)) n

-- a choice that has in every prefix of the unknowns as many members as any, also among the partial ones
pub record IsPreferred (g : Signature) (c d : ℕ → ℕ) (active unknowns : List ℕ) (r : ℕ → ℕ) : Type 0 where
  pub choice : IsChoice g c d active unknowns r
  pub most : (n : ℕ) → n ≤ length unknowns → (other : ℕ → ℕ) → IsPartialChoice g c d active unknowns other → members unknowns other n ≤ members unknowns r n

-- the unknowns that have equations, with the numbers of these
abbrev pub chosen_of : List ℕ → (ℕ → ℕ) → List ℕ → List (ℕ × ℕ)
chosen_of active r [] = []
chosen_of active r (j ∷ js) = if r j == 0 then chosen_of active r js else (j, suc (get_or active (r j - 1) 0)) ∷ chosen_of active r js

-- ---- evidence

-- of the assignments to the first m by what is allowed none covers more
pub record IsLargestOf (Allows : ℕ → ℕ → Type 0) (m : ℕ) (q : ℕ → ℕ) : Type 0 where
  pub assigns : Assigns Allows m q
  pub most : (r : ℕ → ℕ) → Assigns Allows m r → count_below r m ≤ count_below q m

module _ (g : Signature) (c d : ℕ → ℕ) (active unknowns : List ℕ) where
  -- the equation at place e of the list is tight at a listed unknown
  abbrev pub IsTiedTo : ℕ → ℕ → Type 0
  IsTiedTo e j = Contains unknowns j × IsTight g c d (get_or active e 0) j

  -- some largest assignment of listed unknowns leaves it out
  abbrev pub IsLeftOut : ℕ → Type 0
  IsLeftOut e = (q : ℕ → ℕ) × IsLargestOf IsTiedTo (length active) q × (q e ≡ 0)

  -- The list has the numbers of the equations that some largest assignment of listed unknowns leaves out. They have as many more members
  -- than listed unknowns at which they are tight as there are equations beyond `count`.
  pub record IsWithout (count : ℕ) (without : List ℕ) : Type 0 where
    pub places : List ℕ
    pub tied : List ℕ
    pub numbers : without ≡ map (λ x. suc (get_or active (x - 1) 0)) places
    pub left_out : ListsWhere (λ x. IsLeftOut (x - 1)) (length active) places
    pub tied_to : ListsWhere (λ j. (e : ℕ) × (e < length active) × IsLeftOut e × IsTiedTo e j) g.unknowns tied
    pub excess : length without + count ≡ length tied + length active

-- ---- stages

-- At each level, with the candidates of that level or below: how many of them were chosen, which is as many as any choice has, and the
-- equations that they can leave out.
pub record IsLevel (g : Signature) (c d : ℕ → ℕ) (active within : List ℕ) (r : ℕ → ℕ) (count : ℕ) (left : List ℕ) : Type 0 where
  pub chosen : count ≡ members within r (length within)
  pub greatest : (other : ℕ → ℕ) → IsPartialChoice g c d active within other → members within other (length within) ≤ count
  pub without : IsWithout g c d active within count left

-- what is said of a stage with these equations and candidates
pub record IsStage (g : Signature) (c d level : ℕ → ℕ) (active candidates : List ℕ) (stage : Stage) : Type 0 where
  pub by : ℕ → ℕ
  pub preferred : IsPreferred g c d active (below_level level levels candidates) by
  pub chosen : stage.chosen ≡ chosen_of active by candidates
  pub counts_all : length stage.counts ≡ levels
  pub without_all : length stage.without ≡ levels
  pub each : (n : ℕ) → n < levels → IsLevel g c d active (below_level level (suc n) candidates) by (get_or stage.counts n 0) (get_or stage.without n [])

abbrev pub no_stage : Stage
no_stage = record { chosen = []; counts = []; without = [] }

-- the candidates of the stage with k stages before it
abbrev pub candidates_at : ℕ → List Stage → ℕ → List ℕ
candidates_at n stages zero = numbers_to n
candidates_at n stages (suc k) = map (λ x. x.0) (get_or stages k no_stage).chosen

-- As many stages as the greatest number of differentiations. The one with k stages before it has the equations that are differentiated more
-- than k times.
pub record AreStages (g : Signature) (c d level : ℕ → ℕ) (stages : List Stage) : Type 0 where
  pub all : length stages ≡ greatest c (equations g)
  pub stage : (k : ℕ) → k < length stages → IsStage g c d level (differentiated c (suc k) (equations g)) (candidates_at g.unknowns stages k) (get_or stages k no_stage)

-- each unknown that is chosen at a stage is chosen at the one before
pub record AreNested (stages : List Stage) : Type 0 where
  pub inner : (k j : ℕ) → suc k < length stages → Contains (map (λ x. x.0) (get_or stages (suc k) no_stage).chosen) j
      → Contains (map (λ x. x.0) (get_or stages k no_stage).chosen) j

-- ---- dummies

-- the dummies of the stages from s on: of each chosen unknown derivative d - s + 1, with the stage and the equation
abbrev pub dummies_from : (ℕ → ℕ) → ℕ → List Stage → List (ℕ × ℕ × ℕ × ℕ)
dummies_from d s [] = []
dummies_from d s (stage ∷ stages) = map (λ x. (x.0, d x.0 - s + 1, s, x.1)) stage.chosen ++ dummies_from d (suc s) stages

-- those of a selection
abbrev pub dummies_in : Offsets → Selection → List (ℕ × ℕ × ℕ × ℕ)
dummies_in offsets selection = dummies_from (d_of offsets) 1 selection.stages

-- ---- the whole

-- what is selected: the stages, and the derivatives below the highest whose next one is no dummy
pub record IsSelection (g : Signature) (c d level : ℕ → ℕ) (selection : Selection) : Type 0 where
  pub stages : AreStages g c d level selection.stages
  pub states : selection.states ≡ states_to (dummies_from d 1 selection.stages) d g.unknowns

-- two selections say the same: at each stage the same chosen unknowns, counts and equations left out, and the same states
pub record SelectSame (a b : Selection) : Type 0 where
  pub count : length a.stages ≡ length b.stages
  pub chosen : (k : ℕ) → k < length a.stages → map (λ x. x.0) (get_or a.stages k no_stage).chosen ≡ map (λ x. x.0) (get_or b.stages k no_stage).chosen
  pub counts : (k : ℕ) → k < length a.stages → (get_or a.stages k no_stage).counts ≡ (get_or b.stages k no_stage).counts
  pub without : (k : ℕ) → k < length a.stages → (get_or a.stages k no_stage).without ≡ (get_or b.stages k no_stage).without
  pub states : a.states ≡ b.states

-- two selections of a system say the same
abbrev pub HasOneSelection : Signature → (c d level : ℕ → ℕ) → Type 0
HasOneSelection g c d level = (a b : Selection) → IsSelection g c d level a → IsSelection g c d level b → SelectSame a b
