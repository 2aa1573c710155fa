-- Printed paths differ where paths do.
use Rattle.std.proofs.Common.{◌≡◌, ◌≢◌, ℕ, ◌≤◌, true, false, List, [], ◌∷◌, ◌++◌, flat_map, codes, All, IsTrue, refl, ap, sym, ◌∙◌, subst, arith, rules, append_assoc, append-nil, eq-eqb}
use Rattle.std.specs.Prelude.{◌==◌}
use Rattle.std.specs.Fmt.{decimal}
use Rattle.std.specs.List.{list_all}
use Rattle.std.specs.Str.Parse.{digits_value}
use Rattle.std.proofs.lemmas.Fmt.{decimal_injective, digits_decimal}
use Rattle.std.proofs.lemmas.List.{append_cancel_left}
use Rattle.std.proofs.lemmas.Str.Parse.{IsNumeralModel, numerals_by_value}
use Rattle.mo_syntax.specs.SoundTree.{Naming}
use Rattle.mo_lexer.specs.Bytes.{is_digit}
use Rattle.mo_scope.specs.Frames.{Indexed}
use Rattle.mo_scope.specs.Places.{Every}
use Rattle.mo_scope.proofs.laws.Standing.{every_weaker}
use Rattle.mo_instance.specs.Elements.{most_instances}
use Rattle.mo_equations.specs.Leaves.{index_text, path_text}
use Rattle.mo_path_names.specs.Delimited.{IsDelimited, ends_name}
use Rattle.mo_path_names.specs.Laws.{PathsPrintApart}
use Rattle.mo_path_names.specs.Named.{IsNamed}
use Rattle.mo_path_names.proofs.laws.Growing.{NoGreater}
use Rattle.mo_path_names.proofs.laws.Instancing.{PathNamed}
use Rattle.mo_path_names.proofs.laws.Splitting.{same_run, stops}
use Rattle.mo_path_names.proofs.laws.Testing.{all_every, left_of, right_of}

same_tail : (b : ℕ) (t u : List ℕ) → b ∷ t ≡ b ∷ u → t ≡ u
same_tail b t u e = cc

none_front : (b : ℕ) (t : List ℕ) → [] ≡ b ∷ t → ⊥
none_front b t e = cc

other_front : (a b : ℕ) (t u : List ℕ) → (a == b) ≡ false → a ∷ t ≡ b ∷ u → ⊥
other_front a b t u other e = let same : a ≡ b = cc in let equal : (a == b) ≡ true = eq-eqb a b same in cc

-- ---- numbers in brackets, by how a number is written

module _ (write : ℕ → List ℕ) where
  -- the numbers behind the first one, their bracket, and what follows
  abbrev numbers_then : List ℕ → List ℕ → List ℕ
  numbers_then [] rest = 93 ∷ rest
  numbers_then (n ∷ index) rest = 44 ∷ (write n ++ numbers_then index rest)

  numbers_step : (index rest : List ℕ) → flat_map (λ n. codes "," ++ write n) index ++ 93 ∷ rest ≡ numbers_then index rest
  numbers_step [] rest = refl
  numbers_step (n ∷ index) rest =
      ap (λ (l : List ℕ). 44 ∷ l) (append_assoc (write n) (flat_map (λ n. codes "," ++ write n) index) (93 ∷ rest) ∙ ap (λ (l : List ℕ). write n ++ l) (numbers_step index rest))

  -- the text of indices
  abbrev brackets : List ℕ → List ℕ
  brackets [] = []
  brackets (k ∷ index) = codes "[" ++ write k ++ flat_map (λ n. codes "," ++ write n) index ++ codes "]"

  brackets_step : (k : ℕ) (index rest : List ℕ) → brackets (k ∷ index) ++ rest ≡ 91 ∷ (write k ++ numbers_then index rest)
  brackets_step k index rest =
      let more : List ℕ = flat_map (λ n. codes "," ++ write n) index in
      ap (λ (l : List ℕ). 91 ∷ l)
      (append_assoc (write k ++ more) (93 ∷ []) rest ∙ append_assoc (write k) more (93 ∷ rest) ∙ ap (λ (l : List ℕ). write k ++ l) (numbers_step index rest))

  numbers_stop : (index rest : List ℕ) → IsTrue (stops is_digit (numbers_then index rest))
  numbers_stop [] rest = refl
  numbers_stop (n ∷ index) rest = refl

  brackets_end : (index rest : List ℕ) → IsTrue (ends_name rest) → IsTrue (ends_name (brackets index ++ rest))
  brackets_end [] rest h = h
  brackets_end (k ∷ index) rest h = subst (λ (l : List ℕ). IsTrue (ends_name l)) (sym (brackets_step k index rest)) refl

  -- numbers that are written as digits, and differently
  module _ (most : ℕ) (same_number : (n m : ℕ) (rest others : List ℕ) → n ≤ most → m ≤ most → IsTrue (stops is_digit rest) → IsTrue (stops is_digit others) → write n ++ rest ≡ write m ++ others → (n ≡ m) × (rest ≡ others)) where
    same_numbers : (index other rest others : List ℕ) → NoGreater most index → NoGreater most other → numbers_then index rest ≡ numbers_then other others → (index ≡ other) × (rest ≡ others)
    same_numbers [] [] rest others h k e = (refl, same_tail 93 rest others e)
    same_numbers [] (m ∷ other) rest others h k e = absurd (other_front 93 44 rest (write m ++ numbers_then other others) refl e)
    same_numbers (n ∷ index) [] rest others h k e = absurd (other_front 44 93 (write n ++ numbers_then index rest) others refl e)
    same_numbers (n ∷ index) (m ∷ other) rest others h k e =
        let behind = same_tail 44 (write n ++ numbers_then index rest) (write m ++ numbers_then other others) e in
        let one = same_number n m (numbers_then index rest) (numbers_then other others) h.0 k.0 (numbers_stop index rest) (numbers_stop other others) behind in
        let more = same_numbers index other rest others h.1 k.1 one.1 in
        (ap (λ (x : ℕ). x ∷ index) one.0 ∙ ap (λ (l : List ℕ). m ∷ l) more.0, more.1)

    -- what stands behind indices is no bracket
    same_brackets : (index other rest others : List ℕ) → NoGreater most index → NoGreater most other → ((text : List ℕ) → rest ≡ 91 ∷ text → ⊥) → ((text : List ℕ) → others ≡ 91 ∷ text → ⊥) →
        brackets index ++ rest ≡ brackets other ++ others → (index ≡ other) × (rest ≡ others)
    same_brackets [] [] rest others h k none never e = (refl, e)
    same_brackets [] (m ∷ other) rest others h k none never e = absurd (none (write m ++ numbers_then other others) (e ∙ brackets_step m other others))
    same_brackets (n ∷ index) [] rest others h k none never e = absurd (never (write n ++ numbers_then index rest) (sym e ∙ brackets_step n index rest))
    same_brackets (n ∷ index) (m ∷ other) rest others h k none never e =
        let behind = same_tail 91 (write n ++ numbers_then index rest) (write m ++ numbers_then other others) (sym (brackets_step n index rest) ∙ e ∙ brackets_step m other others) in
        let one = same_number n m (numbers_then index rest) (numbers_then other others) h.0 k.0 (numbers_stop index rest) (numbers_stop other others) behind in
        let more = same_numbers index other rest others h.1 k.1 one.1 in
        (ap (λ (x : ℕ). x ∷ index) one.0 ∙ ap (λ (l : List ℕ). m ∷ l) more.0, more.1)

-- ---- decimal numbers

digits : IsNumeralModel (λ ds. list_all is_digit ds ≡ true) (digits_value 10)
digits = numerals_by_value _ (search rules)

decimal_digits : (n : ℕ) → n ≤ most_instances → IsTrue (list_all is_digit (decimal n))
decimal_digits n small = digits_decimal digits n (omega (arith, small))

same_decimal : (n m : ℕ) (rest others : List ℕ) → n ≤ most_instances → m ≤ most_instances → IsTrue (stops is_digit rest) → IsTrue (stops is_digit others) → decimal n ++ rest ≡ decimal m ++ others →
    (n ≡ m) × (rest ≡ others)
same_decimal n m rest others small less ends stop e =
    let both = same_run is_digit (decimal n) (decimal m) rest others (decimal_digits n small) (decimal_digits m less) ends stop e in
    (decimal_injective n m (omega (arith, small)) (omega (arith, less)) both.0, both.1)

-- ---- the steps of a path

-- the text of a path is that of its first step and of those behind it
module _ (text : Indexed → List ℕ) where
  -- each behind a dot
  abbrev steps_behind : Indexed → List ℕ
  steps_behind [] = []
  steps_behind (step ∷ path) = 46 ∷ text (step ∷ path)

  no_bracket : (path : Indexed) (rest : List ℕ) → steps_behind path ≡ 91 ∷ rest → ⊥
  no_bracket [] rest e = none_front 91 rest e
  no_bracket (step ∷ path) rest e = other_front 46 91 (text (step ∷ path)) rest refl e

  behind_ends : (path : Indexed) → IsTrue (ends_name (steps_behind path))
  behind_ends [] = refl
  behind_ends (step ∷ path) = refl

  none_behind : (step : List ℕ × List ℕ) (path : Indexed) → [] ≡ steps_behind (step ∷ path) → ⊥
  none_behind step path e = none_front 46 (text (step ∷ path)) e

path_step : (step : List ℕ × List ℕ) (path : Indexed) → path_text (step ∷ path) ≡ step.0 ++ (index_text step.1 ++ steps_behind path_text path)
path_step step [] = ap (λ (l : List ℕ). step.0 ++ l) (sym (append-nil (index_text step.1)))
path_step step (next ∷ path) =
    append_assoc (step.0 ++ index_text step.1) (46 ∷ []) (path_text (next ∷ path)) ∙ append_assoc step.0 (index_text step.1) (46 ∷ path_text (next ∷ path))

index_is : (index : List ℕ) → index_text index ≡ brackets decimal index
index_is [] = refl
index_is (k ∷ index) = refl

-- ---- paths

module _ (naming : Naming) (delimited : IsDelimited naming) where
  rest_named : (step : List ℕ × List ℕ) (path : Indexed) → PathNamed naming (step ∷ path) → PathNamed naming path
  rest_named step path h = record { names = right_of (naming step.0) (list_all (λ (s : List ℕ × List ℕ). naming s.0) path) h.names; indices = h.indices.1 }

  name_passes : (step : List ℕ × List ℕ) (path : Indexed) → PathNamed naming (step ∷ path) → IsTrue (naming step.0)
  name_passes step path h = left_of (naming step.0) (list_all (λ (s : List ℕ × List ℕ). naming s.0) path) h.names

  abbrev behind : Indexed → List ℕ
  behind = steps_behind path_text

  step_is : (step : List ℕ × List ℕ) (path : Indexed) → path_text (step ∷ path) ≡ step.0 ++ (brackets decimal step.1 ++ behind path)
  step_is step path = path_step step path ∙ ap (λ (l : List ℕ). step.0 ++ (l ++ behind path)) (index_is step.1)

  -- the first steps, and what stands behind them
  same_first : (step : List ℕ × List ℕ) (p : Indexed) (other : List ℕ × List ℕ) (q : Indexed) → PathNamed naming (step ∷ p) → PathNamed naming (other ∷ q) →
      path_text (step ∷ p) ≡ path_text (other ∷ q) → (step ≡ other) × (behind p ≡ behind q)
  same_first step p other q h k e =
      let whole : step.0 ++ (brackets decimal step.1 ++ behind p) ≡ other.0 ++ (brackets decimal other.1 ++ behind q) = sym (step_is step p) ∙ e ∙ step_is other q in
      let name : step.0 ≡ other.0 = delimited.one step.0 other.0 (brackets decimal step.1 ++ behind p) (brackets decimal other.1 ++ behind q) (name_passes step p h) (name_passes other q k)
      (brackets_end decimal step.1 (behind p) (behind_ends path_text p)) (brackets_end decimal other.1 (behind q) (behind_ends path_text q)) whole in
      let rest : brackets decimal step.1 ++ behind p ≡ brackets decimal other.1 ++ behind q =
      append_cancel_left other.0 (brackets decimal step.1 ++ behind p) (brackets decimal other.1 ++ behind q) (ap (λ (n : List ℕ). n ++ (brackets decimal step.1 ++ behind p)) (sym name) ∙ whole) in
      let index = same_brackets decimal most_instances same_decimal step.1 other.1 (behind p) (behind q) h.indices.0 k.indices.0 (no_bracket path_text p) (no_bracket path_text q) rest in
      (ap (λ (n : List ℕ). (n, step.1)) name ∙ ap (λ (i : List ℕ). (other.0, i)) index.0, index.1)

  -- paths with a first step
  same_path : (step : List ℕ × List ℕ) (p : Indexed) (other : List ℕ × List ℕ) (q : Indexed) → PathNamed naming (step ∷ p) → PathNamed naming (other ∷ q) →
      path_text (step ∷ p) ≡ path_text (other ∷ q) → step ∷ p ≡ other ∷ q
  same_path step [] other [] h k e = ap (λ (s : List ℕ × List ℕ). s ∷ []) (same_first step [] other [] h k e).0
  same_path step [] other (next ∷ q) h k e = absurd (none_behind path_text next q (same_first step [] other (next ∷ q) h k e).1)
  same_path step (next ∷ p) other [] h k e = absurd (none_behind path_text next p (sym (same_first step (next ∷ p) other [] h k e).1))
  same_path step (next ∷ p) other (second ∷ q) h k e =
      let first = same_first step (next ∷ p) other (second ∷ q) h k e in
      let rest : path_text (next ∷ p) ≡ path_text (second ∷ q) = same_tail 46 (path_text (next ∷ p)) (path_text (second ∷ q)) first.1 in
      ap (λ (s : List ℕ × List ℕ). s ∷ next ∷ p) first.0
      ∙ ap (λ (path : Indexed). other ∷ path) (same_path next p second q (rest_named step (next ∷ p) h) (rest_named other (second ∷ q) k) rest)

  pub paths_apart : (path other : Indexed) → PathNamed naming path → PathNamed naming other → path ≢ [] → other ≢ [] → path_text path ≡ path_text other → path ≡ other
  paths_apart [] other h k some more e = absurd (some refl)
  paths_apart (step ∷ p) [] h k some more e = absurd (more refl)
  paths_apart (step ∷ p) (other ∷ q) h k some more e = same_path step p other q h k e

-- ---- as it is stated

each_small : (path : Indexed) → Every (λ step. All (λ k. k ≤ most_instances) step.1) path → Every (λ step. NoGreater most_instances step.1) path
each_small path h = every_weaker (λ (step : List ℕ × List ℕ). All (λ k. k ≤ most_instances) step.1) _ (λ step small. all_every (λ k. k ≤ most_instances) step.1 small) path h

by_recursion : (naming : Naming) (path : Indexed) → IsNamed naming path → PathNamed naming path
by_recursion naming path h = record { names = h.names; indices = each_small path (all_every (λ step. All (λ k. k ≤ most_instances) step.1) path h.indices) }

pub print_apart : PathsPrintApart
print_apart naming delimited path other h k some more e = paths_apart naming delimited path other (by_recursion naming path h) (by_recursion naming other k) some more e
