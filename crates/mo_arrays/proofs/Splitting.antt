-- Chains of factors, split behind their last matrix factor.
use Rattle.std.proofs.Common.{◌≡◌, ℕ, suc, ◌+◌, ◌-◌, ◌<◌, ◌≤◌, Bool, true, false, List, [], ◌∷◌, ◌++◌, map, length, take, drop, get_or, Option, Some, None, refl, ap, sym, ◌∙◌, add-one, arith, append_assoc, take-suc, length-drop}
use Rattle.std.specs.Prelude.{slice_get, slice_range, if◌then◌else◌}
use Rattle.std.proofs.lemmas.List.{map-append, get_or-drop}
use Rattle.std.proofs.lemmas.List.Sums.{fold-append}
use Rattle.std.proofs.lemmas.Option.{slice_get-get_or}
use Rattle.mo_flat.specs.declared.array.ArrayExpr.{ArrayExpr}
use Rattle.mo_typing.specs.Dims.{Dims}
use Rattle.mo_typing.specs.Shape.{is_matrix_factor, multiplied, operand}
use Rattle.mo_typing.specs.Indices.{Index}
use Rattle.mo_arrays.specs.Elements.{chain_of, extended, unbegun, at, plain}
use Rattle.mo_arrays.specs.steps.Parts.{factor_of, chain_before, begun_with, begun_by, behind_last, latest, acting, part_of, inner_with}

-- what is known of the first j factors
pub record IsSplit (factors : List (Bool × Bool × ArrayExpr)) (j : ℕ) (last : Option ℕ) (dims : Option Dims) : Type 0 where
  pub dims_are : dims ≡ (chain_before factors j).dims
  pub within : behind_last last ≤ j
  pub splits : (index : Index) → (chain_before factors j).factors index ≡ begun_by factors last index ++ acting (slice_range factors (behind_last last) j) index

one_more_taken : {A : Type 0} (xs : List A) (j : ℕ) (x : A) → j < length xs → x ≡ get_or xs j x → take (j + 1) xs ≡ take j xs ++ x ∷ []
one_more_taken xs j x small is = rw add-one (take-suc xs j x small ∙ ap (λ y. take j xs ++ y ∷ []) (sym is))

-- one more factor
pub chain_step : (factors : List (Bool × Bool × ArrayExpr)) (j : ℕ) (x : Bool × Bool × ArrayExpr) → j < length factors → x ≡ get_or factors j x →
    chain_before factors (j + 1) ≡ extended (chain_before factors j) (factor_of x)
chain_step factors j x small is =
    ap (λ xs. chain_of (map factor_of xs)) (one_more_taken factors j x small is)
    ∙ (ap chain_of (map-append factor_of (take j factors) (x ∷ []))
    ∙ fold-append extended unbegun (map factor_of (take j factors)) (factor_of x ∷ []))

slice_more : {A : Type 0} (xs : List A) (from j : ℕ) (x : A) → from ≤ j → j < length xs → x ≡ get_or xs j x →
    slice_range xs from (j + 1) ≡ slice_range xs from j ++ x ∷ []
slice_more xs from j x low small is =
    let n : suc (j - from) ≡ (j + 1) - from = omega arith in
    let m : from + (j - from) ≡ j = omega arith in
    let l : length (drop from xs) ≡ length xs - from = length-drop from xs in
    let k : j - from < length (drop from xs) = rw l (omega arith) in
    let e : get_or (drop from xs) (j - from) x ≡ x = get_or-drop from xs (j - from) x ∙ (ap (λ i. get_or xs i x) m ∙ sym is) in
    ap (λ i. take i (drop from xs)) (sym n) ∙ (take-suc (drop from xs) (j - from) x k ∙ ap (λ y. take (j - from) (drop from xs) ++ y ∷ []) e)

pub acting_more : (factors : List (Bool × Bool × ArrayExpr)) (from j : ℕ) (x : Bool × Bool × ArrayExpr) (index : Index) → from ≤ j → j < length factors → x ≡ get_or factors j x →
    acting (slice_range factors from (j + 1)) index ≡ acting (slice_range factors from j) index ++ (x.0, at (part_of x.2) index) ∷ []
acting_more factors from j x index low small is =
    ap (λ xs. acting xs index) (slice_more factors from j x low small is)
    ∙ map-append (λ (f : Bool × Bool × ArrayExpr). (f.0, at (part_of f.2) index)) (slice_range factors from j) (x ∷ [])

slice_none : {A : Type 0} (xs : List A) (n : ℕ) → slice_range xs n n ≡ []
slice_none xs n = let e : n - n ≡ 0 = omega arith in rw e refl

got : {A : Type 0} (xs : List A) (j : ℕ) (x : A) → j < length xs → x ≡ get_or xs j x → slice_get xs j ≡ Some x
got xs j x small is = slice_get-get_or xs j x small ∙ ap (λ y. Some y) (sym is)

-- the factors after a matrix factor, and after another one
after_matrix : (factors : List (Bool × Bool × ArrayExpr)) (j : ℕ) (x : Bool × Bool × ArrayExpr) (index : Index) → j < length factors → x ≡ get_or factors j x →
    is_matrix_factor (chain_before factors j).dims (operand x) ≡ true →
    (chain_before factors (j + 1)).factors index ≡ begun_by factors (Some j) index ++ acting (slice_range factors (j + 1) (j + 1)) index
after_matrix factors j x index small is matrix =
    ap (λ chain. chain.factors index) (chain_step factors j x small is)
    ∙ (ap (λ b. if b then plain (inner_with (chain_before factors j) (factor_of x) index) ∷ [] else (chain_before factors j).factors index ++ (x.0, at (part_of x.2) index) ∷ []) matrix
    ∙ sym (ap (λ o. begun_with (chain_before factors j) o index ++ acting (slice_range factors (j + 1) (j + 1)) index) (got factors j x small is)
    ∙ ap (λ xs. begun_with (chain_before factors j) (Some x) index ++ acting xs index) (slice_none factors (j + 1))))

after_other : (factors : List (Bool × Bool × ArrayExpr)) (j : ℕ) (last : Option ℕ) (x : Bool × Bool × ArrayExpr) (index : Index) → j < length factors → x ≡ get_or factors j x →
    behind_last last ≤ j → is_matrix_factor (chain_before factors j).dims (operand x) ≡ false →
    (chain_before factors j).factors index ≡ begun_by factors last index ++ acting (slice_range factors (behind_last last) j) index →
    (chain_before factors (j + 1)).factors index ≡ begun_by factors last index ++ acting (slice_range factors (behind_last last) (j + 1)) index
after_other factors j last x index small is low matrix before =
    rw (chain_step factors j x small is, matrix, before, acting_more factors (behind_last last) j x index low small is)
    (append_assoc (begun_by factors last index) (acting (slice_range factors (behind_last last) j) index) ((x.0, at (part_of x.2) index) ∷ []))

split_by : (factors : List (Bool × Bool × ArrayExpr)) (j : ℕ) (last : Option ℕ) (dims : Option Dims) (x : Bool × Bool × ArrayExpr) (matrix : Bool) → j < length factors → x ≡ get_or factors j x →
    is_matrix_factor (chain_before factors j).dims (operand x) ≡ matrix → IsSplit factors j last dims →
    IsSplit factors (j + 1) (latest matrix j last) (multiplied dims (operand x))
split_by factors j last dims x true small is matrix before = record {
  dims_are = rw (before.dims_are, chain_step factors j x small is) refl;
  within = omega arith;
  splits = λ index. after_matrix factors j x index small is matrix;
}
split_by factors j last dims x false small is matrix before = record {
  dims_are = rw (before.dims_are, chain_step factors j x small is) refl;
  within = let w = before.within in omega arith;
  splits = λ index. after_other factors j last x index small is before.within matrix (before.splits index);
}

-- one more factor seen
pub split_more : (factors : List (Bool × Bool × ArrayExpr)) (j : ℕ) (last : Option ℕ) (dims : Option Dims) (x : Bool × Bool × ArrayExpr) → j < length factors → x ≡ get_or factors j x →
    IsSplit factors j last dims →
    IsSplit factors (j + 1) (latest (is_matrix_factor dims (operand x)) j last) (multiplied dims (operand x))
split_more factors j last dims x small is before =
    split_by factors j last dims x (is_matrix_factor dims (operand x)) small is (ap (λ d. is_matrix_factor d (operand x)) (sym before.dims_are)) before

-- nothing seen
pub split_none : (factors : List (Bool × Bool × ArrayExpr)) → IsSplit factors 0 None None
split_none factors = record { dims_are = refl; within = omega arith; splits = λ index. refl }
