-- Words on one stage, with the order of its candidates.
use Rattle.std.specs.Prelude.{◌≡◌, ◌≢◌, ℕ, ◌+◌, ◌-◌, ◌<◌, ◌≤◌, ◌==◌, if◌then◌else◌, List, [], ◌∷◌, ◌++◌, Vec, length, map, take}
use Rattle.std.specs.Global.{Global}
use Rattle.std.proofs.Common.{get_or, suc}
use Rattle.mo_graph.specs.Counting.{count_below}
use Rattle.mo_incidence.specs.Signature.{Signature, equations}
use Rattle.mo_incidence.specs.Assignment.{Assigns}
use Rattle.mo_incidence.specs.Offsets.{by_place, IsTight}
use Rattle.mo_incidence.specs.steps.Given.{given}
use Rattle.mo_incidence.specs.Dummies.{differentiated, greatest}
use Rattle.mo_select.specs.declared.selection.Stage.{Stage}
use Rattle.mo_select.specs.Selection.{CanHave, chosen_of, IsTiedTo, IsLargestOf, IsWithout, IsStage, no_stage, candidates_at, AreStages}
use Rattle.mo_select.specs.steps.Ties.{entries_in, AreOpenRows}

-- the equation of an unknown, by its place in the list from 1, or 0: that of the candidate at the place before its rank
abbrev pub taken : (rank pairs : List ℕ) → ℕ → ℕ
taken rank pairs j = if get_or rank j 0 == 0 then 0 else get_or pairs (get_or rank j 0 - 1) 0

-- The pairs, by the places of candidates in the order, are an assignment to candidates that in each prefix covers as many as any.
pub record IsGreedyChoice (g : Signature) (c d : ℕ → ℕ) (active order pairs : List ℕ) : Type 0 where
  pub size : length pairs ≡ length order
  pub few : length order ≤ 50000
  pub assigns : Assigns (λ t. CanHave g c d active (get_or order t 0)) (length order) (by_place pairs)
  pub low : (t : ℕ) → get_or pairs t 0 ≤ length active
  pub most : (n : ℕ) → n ≤ length order → (other : ℕ → ℕ) → Assigns (λ t. CanHave g c d active (get_or order t 0)) (length order) other
      → count_below other n ≤ count_below (by_place pairs) n

-- the list has the equations that some largest assignment of the listed unknowns leaves out
pub record IsLeft (g : Signature) (c d : ℕ → ℕ) (active unknowns left : List ℕ) : Type 0 where
  pub by : ℕ → ℕ
  pub largest : IsLargestOf (IsTiedTo g c d active unknowns) (length active) by
  pub without : IsWithout g c d active unknowns (count_below by (length active)) left

-- the incidence of the listed equations with the candidates before `end` at which they are tight
pub record IsOpened (g : Signature) (c d : ℕ → ℕ) (active rank : List ℕ) (end : ℕ) (opened : Signature) : Type 0 where
  pub rows : List (Vec (ℕ × ℕ) Global)
  pub is : opened ≡ given g.unknowns rows
  pub size : length (entries_in rows) ≡ length active
  pub row_is : AreOpenRows g c d active rank end (entries_in rows)

-- what is said of each of the first `upto` levels, by where it ends in the order
pub record AreEvidence (g : Signature) (c d : ℕ → ℕ) (active order ends pairs : List ℕ) (upto : ℕ) (counts : List ℕ) (without : List (List ℕ)) : Type 0 where
  pub counts_all : length counts ≡ upto
  pub without_all : length without ≡ upto
  pub count : (n : ℕ) → n < upto → get_or counts n 0 ≡ count_below (by_place pairs) (get_or ends n 0)
  pub left : (n : ℕ) → n < upto → IsLeft g c d active (take (get_or ends n 0) order) (get_or without n [])

-- a stage with the order of its candidates
pub record IsMade (g : Signature) (c d : ℕ → ℕ) (active candidates order ends rank : List ℕ) (stage : Stage) : Type 0 where
  pub pairs : List ℕ
  pub greedy : IsGreedyChoice g c d active order pairs
  pub chosen : stage.chosen ≡ chosen_of active (taken rank pairs) candidates
  pub evidence : AreEvidence g c d active order ends pairs (length ends) stage.counts stage.without

-- different places have different numbers
abbrev pub AreApart : List ℕ → Type 0
AreApart xs = (t u : ℕ) → t < length xs → u < length xs → get_or xs t 0 ≡ get_or xs u 0 → t ≡ u

-- x stands in the list
abbrev pub StandsAt : List ℕ → ℕ → Type 0
StandsAt xs x = (k : ℕ) × (k < length xs) × (get_or xs k 0 ≡ x)

-- the numbers are those of different unknowns
pub record AreUnknowns (n : ℕ) (xs : List ℕ) : Type 0 where
  pub known : (k : ℕ) → k < length xs → (0 < get_or xs k 0) × (get_or xs k 0 ≤ n)
  pub apart : AreApart xs

-- all listed equations can be given candidates by tight entries
pub record CanAssign (g : Signature) (c d : ℕ → ℕ) (active candidates : List ℕ) : Type 0 where
  pub by : ℕ → ℕ
  pub assigns : Assigns (λ e j. StandsAt candidates j × IsTight g c d (get_or active e 0) j) (length active) by
  pub covers : (e : ℕ) → e < length active → by e ≢ 0

-- one more stage, and its unknowns as the next candidates
pub record IsNextStage (g : Signature) (c d level : ℕ → ℕ) (active candidates : List ℕ) (stages : List Stage) (candidates' : List ℕ) (stages' : List Stage) : Type 0 where
  pub made : Stage
  pub is_stage : IsStage g c d level active candidates made
  pub stages_are : stages' ≡ stages ++ made ∷ []
  pub candidates_are : candidates' ≡ map (λ x. x.0) made.chosen

-- Before the stage with `done` stages before it: the stages so far, its candidates and its equations.
pub record AreMadeTo (g : Signature) (c d level : ℕ → ℕ) (stages : List Stage) (candidates active : List ℕ) (done : ℕ) : Type 0 where
  pub count : length stages ≡ done
  pub low : done ≤ greatest c (equations g)
  pub active_is : active ≡ differentiated c (done + 1) (equations g)
  pub candidates_are : candidates ≡ candidates_at g.unknowns stages done
  pub known : AreUnknowns g.unknowns candidates
  pub can : CanAssign g c d active candidates
  pub stage : (k : ℕ) → k < done → IsStage g c d level (differentiated c (suc k) (equations g)) (candidates_at g.unknowns stages k) (get_or stages k no_stage)
  pub known_at : (k : ℕ) → k < done → AreUnknowns g.unknowns (candidates_at g.unknowns stages k)

-- all stages, with what the candidates of each are
pub record AreWhole (g : Signature) (c d level : ℕ → ℕ) (stages : List Stage) : Type 0 where
  pub stages_are : AreStages g c d level stages
  pub known : (k : ℕ) → k < length stages → AreUnknowns g.unknowns (candidates_at g.unknowns stages k)
