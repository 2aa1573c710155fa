-- Two selections that say the same have one text.
use Rattle.std.proofs.Common.{◌≡◌, ℕ, suc, ◌<◌, List, [], ◌∷◌, length, get_or, map, refl, arith}
use Rattle.std.specs.Prelude.{flat_map}
use Rattle.mo_incidence.specs.declared.findings.Offsets.{Offsets}
use Rattle.mo_select.specs.declared.selection.Selection.{Selection}
use Rattle.mo_select.specs.declared.selection.Stage.{Stage}
use Rattle.mo_select.specs.Selection.{SelectSame, no_stage}
use Rattle.mo_select.specs.Text.{choice_line, selection_lines, stage_lines, stages_from}

flat_map_firsts : (f : ℕ → List ℕ) (xs ys : List (ℕ × ℕ)) → map (λ x. x.0) xs ≡ map (λ x. x.0) ys → flat_map (λ x. f x.0) xs ≡ flat_map (λ x. f x.0) ys
flat_map_firsts f [] [] e = refl
flat_map_firsts f [] (y ∷ ys) e = absurd cc
flat_map_firsts f (x ∷ xs) [] e = absurd cc
flat_map_firsts f (x ∷ xs) (y ∷ ys) e =
    let first : x.0 ≡ y.0 = cc in
    let rest : map (λ x. x.0) xs ≡ map (λ x. x.0) ys = cc in
    rw (first, flat_map_firsts f xs ys rest) refl

-- two stages say the same, whatever equations the chosen unknowns have
record SaySame (one other : Stage) : Type 0 where
  unknowns : map (λ x. x.0) one.chosen ≡ map (λ x. x.0) other.chosen
  counts : one.counts ≡ other.counts
  without : one.without ≡ other.without

record AllSaySame (ones others : List Stage) : Type 0 where
  size : length ones ≡ length others
  stage : (k : ℕ) → k < length ones → SaySame (get_or ones k no_stage) (get_or others k no_stage)

all_later : (one other : Stage) (ones others : List Stage) → AllSaySame (one ∷ ones) (other ∷ others) → AllSaySame ones others
all_later one other ones others all = record {
  size = omega (arith, all.size);
  stage = λ k l. all.stage (suc k) (omega arith);
}

same_lines : (names : List (List ℕ)) (offsets : Offsets) (s : ℕ) (one other : Stage) → SaySame one other → stage_lines names offsets s one ≡ stage_lines names offsets s other
same_lines names offsets s one other same =
    let choices : flat_map (choice_line names offsets.d.items s) one.chosen ≡ flat_map (choice_line names offsets.d.items s) other.chosen =
    flat_map_firsts (λ j. choice_line names offsets.d.items s (j, 0)) one.chosen other.chosen same.unknowns in
    rw (choices, same.counts, same.without) refl

same_stages : (names : List (List ℕ)) (offsets : Offsets) (s : ℕ) (ones others : List Stage) → AllSaySame ones others → stages_from names offsets s ones ≡ stages_from names offsets s others
same_stages names offsets s [] [] all = refl
same_stages names offsets s [] (other ∷ others) all = absurd (let e = all.size in omega arith)
same_stages names offsets s (one ∷ ones) [] all = absurd (let e = all.size in omega arith)
same_stages names offsets s (one ∷ ones) (other ∷ others) all =
    rw (same_lines names offsets s one other (all.stage 0 (omega arith)), same_stages names offsets (suc s) ones others (all_later one other ones others all)) refl

same_offsets : (names : List (List ℕ)) (o p : Offsets) → o.c.items ≡ p.c.items → o.d.items ≡ p.d.items → (s : ℕ) (stages : List Stage)
    → stages_from names o s stages ≡ stages_from names p s stages
same_offsets names o p c_is d_is s [] = refl
same_offsets names o p c_is d_is s (stage ∷ stages) =
    let here : stage_lines names o s stage ≡ stage_lines names p s stage = rw (c_is, d_is) refl in
    rw (here, same_offsets names o p c_is d_is (suc s) stages) refl

-- with whatever pairs, since no line has one
pub same_text : (name : List ℕ) (names : List (List ℕ)) (o p : Offsets) (a b : Selection) → o.c.items ≡ p.c.items → o.d.items ≡ p.d.items → SelectSame a b
    → selection_lines name names o a ≡ selection_lines name names p b
same_text name names o p a b c_is d_is same =
    let stages : stages_from names p 1 a.stages ≡ stages_from names p 1 b.stages = same_stages names p 1 a.stages b.stages (record {
      size = same.count;
      stage = λ k l. record { unknowns = same.chosen k l; counts = same.counts k l; without = same.without k l };
    }) in
    let offsets : stages_from names o 1 a.stages ≡ stages_from names p 1 a.stages = same_offsets names o p c_is d_is 1 a.stages in
    rw (offsets, stages, same.states) refl
