-- Chains of factors, split behind their last matrix factor.
use Rattle.std.proofs.Common.{◌≡◌, ℕ, suc, ◌+◌, ◌-◌, ◌<◌, ◌≤◌, Bool, true, false, List, [], ◌∷◌, ◌++◌, map, length, take, drop, get_or, Option, Some, None, refl, ap, sym, ◌∙◌, add-one, arith, take-suc, length-drop}
use Rattle.std.specs.Prelude.{fold, slice_get, slice_range, if◌then◌else◌}
use Rattle.std.proofs.lemmas.List.{map-append, get_or-drop}
use Rattle.std.proofs.lemmas.List.Sums.{fold-append}
use Rattle.std.proofs.lemmas.Option.{slice_get-get_or}
use Rattle.mo_syntax.specs.Outcome.{Outcome}
use Rattle.mo_typing.specs.Shape.{is_matrix_factor, multiplied, operand}
use Rattle.mo_typing.specs.Indices.{Index}
use Rattle.mo_values.specs.declared.value.Reckoned.{Reckoned}
use Rattle.mo_values.specs.Scalars.{Known}
use Rattle.mo_values.specs.Walk.{chain_of, extended, unbegun, signed_of}
use Rattle.mo_values.specs.steps.Chains.{Signed, chain_before, product_at, acting, begun_with, begun_by, behind_last, latest, inner_with}

-- what is known of the first j factors
pub record IsSplit (factors : List Signed) (j : ℕ) (last : Option ℕ) : Type 0 where
  pub within : behind_last last ≤ j
  pub splits : (variable : ℕ → Outcome Known) (index : Index) →
      (chain_before variable factors j).product index ≡ acting variable index (begun_by variable factors last index) (slice_range factors (behind_last last) j)

pub one_more_taken : {A : Type 0} (xs : List A) (j : ℕ) (x : A) → j < length xs → x ≡ get_or xs j x → take (j + 1) xs ≡ take j xs ++ x ∷ []
one_more_taken xs j x small is = rw add-one (take-suc xs j x small ∙ ap (λ y. take j xs ++ y ∷ []) (sym is))

-- one more factor
pub chain_step : (variable : ℕ → Outcome Known) (factors : List Signed) (j : ℕ) (x : Signed) → j < length factors → x ≡ get_or factors j x →
    chain_before variable factors (j + 1) ≡ extended (chain_before variable factors j) (signed_of variable x)
chain_step variable factors j x small is =
    ap (λ xs. chain_of (map (signed_of variable) xs)) (one_more_taken factors j x small is)
    ∙ (ap chain_of (map-append (signed_of variable) (take j factors) (x ∷ []))
    ∙ fold-append extended unbegun (map (signed_of variable) (take j factors)) (signed_of variable x ∷ []))

slice_more : {A : Type 0} (xs : List A) (from j : ℕ) (x : A) → from ≤ j → j < length xs → x ≡ get_or xs j x →
    slice_range xs from (j + 1) ≡ slice_range xs from j ++ x ∷ []
slice_more xs from j x low small is =
    let n : suc (j - from) ≡ (j + 1) - from = omega arith in
    let m : from + (j - from) ≡ j = omega arith in
    let l : length (drop from xs) ≡ length xs - from = length-drop from xs in
    let k : j - from < length (drop from xs) = rw l (omega arith) in
    let e : get_or (drop from xs) (j - from) x ≡ x = get_or-drop from xs (j - from) x ∙ (ap (λ i. get_or xs i x) m ∙ sym is) in
    ap (λ i. take i (drop from xs)) (sym n) ∙ (take-suc (drop from xs) (j - from) x k ∙ ap (λ y. take (j - from) (drop from xs) ++ y ∷ []) e)

acting_last : (variable : ℕ → Outcome Known) (index : Index) (begun : Outcome Reckoned) (xs : List Signed) (x : Signed) →
    acting variable index begun (xs ++ x ∷ []) ≡ product_at index (acting variable index begun xs) (signed_of variable x)
acting_last variable index begun xs x =
    ap (fold (product_at index) begun) (map-append (signed_of variable) xs (x ∷ []))
    ∙ fold-append (product_at index) begun (map (signed_of variable) xs) (signed_of variable x ∷ [])

pub acting_more : (variable : ℕ → Outcome Known) (factors : List Signed) (from j : ℕ) (x : Signed) (index : Index) (begun : Outcome Reckoned) → from ≤ j → j < length factors → x ≡ get_or factors j x →
    acting variable index begun (slice_range factors from (j + 1)) ≡ product_at index (acting variable index begun (slice_range factors from j)) (signed_of variable x)
acting_more variable factors from j x index begun low small is =
    ap (acting variable index begun) (slice_more factors from j x low small is) ∙ acting_last variable index begun (slice_range factors from j) x

slice_none : {A : Type 0} (xs : List A) (n : ℕ) → slice_range xs n n ≡ []
slice_none xs n = let e : n - n ≡ 0 = omega arith in rw e refl

pub got : {A : Type 0} (xs : List A) (j : ℕ) (x : A) → j < length xs → x ≡ get_or xs j x → slice_get xs j ≡ Some x
got xs j x small is = slice_get-get_or xs j x small ∙ ap (λ y. Some y) (sym is)

-- the factors after a matrix factor, and after another one
after_matrix : (variable : ℕ → Outcome Known) (factors : List Signed) (j : ℕ) (x : Signed) (index : Index) → j < length factors → x ≡ get_or factors j x →
    is_matrix_factor (chain_before variable factors j).dims (operand x) ≡ true →
    (chain_before variable factors (j + 1)).product index ≡ acting variable index (begun_by variable factors (Some j) index) (slice_range factors (j + 1) (j + 1))
after_matrix variable factors j x index small is matrix =
    ap (λ chain. chain.product index) (chain_step variable factors j x small is)
    ∙ (ap (λ b. if b then inner_with (chain_before variable factors j) (signed_of variable x) index else product_at index ((chain_before variable factors j).product index) (signed_of variable x)) matrix
    ∙ sym (ap (λ o. acting variable index (begun_with variable (chain_before variable factors j) o index) (slice_range factors (j + 1) (j + 1))) (got factors j x small is)
    ∙ ap (λ xs. acting variable index (begun_with variable (chain_before variable factors j) (Some x) index) xs) (slice_none factors (j + 1))))

after_other : (variable : ℕ → Outcome Known) (factors : List Signed) (j : ℕ) (last : Option ℕ) (x : Signed) (index : Index) → j < length factors → x ≡ get_or factors j x →
    behind_last last ≤ j → is_matrix_factor (chain_before variable factors j).dims (operand x) ≡ false →
    (chain_before variable factors j).product index ≡ acting variable index (begun_by variable factors last index) (slice_range factors (behind_last last) j) →
    (chain_before variable factors (j + 1)).product index ≡ acting variable index (begun_by variable factors last index) (slice_range factors (behind_last last) (j + 1))
after_other variable factors j last x index small is low matrix before =
    ap (λ chain. chain.product index) (chain_step variable factors j x small is)
    ∙ (ap (λ b. if b then inner_with (chain_before variable factors j) (signed_of variable x) index else product_at index ((chain_before variable factors j).product index) (signed_of variable x)) matrix
    ∙ (ap (λ so_far. product_at index so_far (signed_of variable x)) before
    ∙ sym (acting_more variable factors (behind_last last) j x index (begun_by variable factors last index) low small is)))

-- the dimensions of a chain so far
abbrev pub AreDims : List Signed → ℕ → Option (List ℕ) → Type 0
AreDims factors j dims = (variable : ℕ → Outcome Known) → dims ≡ (chain_before variable factors j).dims

pub dims_none : (factors : List Signed) → AreDims factors 0 None
dims_none factors variable = refl

pub dims_more : (factors : List Signed) (j : ℕ) (dims : Option (List ℕ)) (x : Signed) → j < length factors → x ≡ get_or factors j x → AreDims factors j dims →
    AreDims factors (j + 1) (multiplied dims (operand x))
dims_more factors j dims x small is before variable =
    ap (λ d. multiplied d (operand x)) (before variable) ∙ ap (λ chain. chain.dims) (sym (chain_step variable factors j x small is))

split_by : (factors : List Signed) (j : ℕ) (last : Option ℕ) (dims : Option (List ℕ)) (x : Signed) (matrix : Bool) → j < length factors → x ≡ get_or factors j x →
    is_matrix_factor dims (operand x) ≡ matrix → AreDims factors j dims → IsSplit factors j last → IsSplit factors (j + 1) (latest matrix j last)
split_by factors j last dims x true small is matrix are before = record {
  within = omega arith;
  splits = λ variable index. after_matrix variable factors j x index small is (ap (λ d. is_matrix_factor d (operand x)) (sym (are variable)) ∙ matrix);
}
split_by factors j last dims x false small is matrix are before = record {
  within = let w = before.within in omega arith;
  splits = λ variable index. after_other variable factors j last x index small is before.within (ap (λ d. is_matrix_factor d (operand x)) (sym (are variable)) ∙ matrix) (before.splits variable index);
}

-- one more factor seen
pub split_more : (factors : List Signed) (j : ℕ) (last : Option ℕ) (dims : Option (List ℕ)) (x : Signed) → j < length factors → x ≡ get_or factors j x →
    AreDims factors j dims → IsSplit factors j last → IsSplit factors (j + 1) (latest (is_matrix_factor dims (operand x)) j last)
split_more factors j last dims x small is are before = split_by factors j last dims x (is_matrix_factor dims (operand x)) small is refl are before

-- nothing seen
pub split_none : (factors : List Signed) → IsSplit factors 0 None
split_none factors = record { within = omega arith; splits = λ variable index. refl }
