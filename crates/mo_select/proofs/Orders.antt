-- Candidates by level.
use Rattle.std.proofs.Common.{◌≡◌, ◌≢◌, ℕ, zero, suc, ◌+◌, ◌-◌, ◌<◌, ◌≤◌, inl, inr, List, [], ◌∷◌, ◌++◌, length, get_or, take, refl, sym, ap, ◌∙◌, arith, length-append}
use Rattle.std.proofs.Math.ListN.{get_or-append}
use Rattle.std.proofs.Math.Seq.{get_or-append_right}
use Rattle.std.proofs.lemmas.List.{append-nil, append_assoc, take_at}
use Rattle.std.proofs.lemmas.Bool.Decides.{eqb_tells}
use Rattle.std.proofs.lemmas.Bool.{cases_lt}
use Rattle.mo_select.specs.Selection.{numbers_to, of_level, below_level}
use Rattle.mo_select.specs.steps.Staging.{AreApart, StandsAt}

-- x stands in the list and has level n
abbrev pub IsListed : (ℕ → ℕ) → ℕ → List ℕ → ℕ → Type 0
IsListed level n js x = (a : ℕ) × (a < length js) × (get_or js a 0 ≡ x) × (level x ≡ n)

listed_later : (level : ℕ → ℕ) (n j x : ℕ) (js : List ℕ) → IsListed level n js x → IsListed level n (j ∷ js) x
listed_later level n j x js there = (suc there.0, omega (arith, there.1), there.2, there.3)

listed_cons : (level : ℕ → ℕ) (n j : ℕ) (js xs : List ℕ) → ((k : ℕ) → k < length xs → IsListed level n js (get_or xs k 0)) → level j ≡ n
    → (k : ℕ) → k < length (j ∷ xs) → IsListed level n (j ∷ js) (get_or (j ∷ xs) k 0)
listed_cons level n j js xs at is zero l = (0, omega arith, refl, is)
listed_cons level n j js xs at is (suc k) l = listed_later level n j (get_or xs k 0) js (at k (omega arith))

pub of_level_at : (level : ℕ → ℕ) (n : ℕ) (js : List ℕ) (k : ℕ) → k < length (of_level level n js) → IsListed level n js (get_or (of_level level n js) k 0)
of_level_at level n [] k = λ l. absurd (omega arith)
of_level_at level n (j ∷ js) k = elim (eqb_tells (level j) n) [
  | inl e ↦ rw e.0 (listed_cons level n j js (of_level level n js) (of_level_at level n js) e.1 k)
  | inr e ↦ rw e.0 (λ l. listed_later level n j (get_or (of_level level n js) k 0) js (of_level_at level n js k l))
]

append_cases : (xs ys : List ℕ) (k : ℕ) (P : ℕ → Type 0) → ((a : ℕ) → a < length xs → P (get_or xs a 0)) → ((b : ℕ) → b < length ys → P (get_or ys b 0))
    → k < length (xs ++ ys) → P (get_or (xs ++ ys) k 0)
append_cases xs ys k P left right l =
    let size = length-append xs ys in
    elim (cases_lt k (length xs)) [
      | inl h ↦ rw (get_or-append xs ys 0 k h) (left k h)
      | inr h ↦ rw (get_or-append_right xs ys k 0 h) (right (k - length xs) (omega arith))
    ]

pub below_level_at : (level : ℕ → ℕ) (n : ℕ) (js : List ℕ) (k : ℕ) → k < length (below_level level n js)
    → (r : ℕ) × (r < n) × IsListed level r js (get_or (below_level level n js) k 0)
below_level_at level zero js k = λ l. absurd (omega arith)
below_level_at level (suc n) js k = append_cases (below_level level n js) (of_level level n js) k (λ (x : ℕ). (r : ℕ) × (r < suc n) × IsListed level r js x)
    (λ a l. let there = below_level_at level n js a l in (there.0, omega (arith, there.1), there.2))
    (λ b l. (n, omega arith, of_level_at level n js b l))

pub append_apart : (xs ys : List ℕ) → AreApart xs → AreApart ys → ((a b : ℕ) → a < length xs → b < length ys → get_or xs a 0 ≡ get_or ys b 0 → ⊥) → AreApart (xs ++ ys)
append_apart xs ys left right cross t u tl ul =
    let size = length-append xs ys in
    elim (cases_lt t (length xs)) [
      | inl h ↦ elim (cases_lt u (length xs)) [
        | inl h' ↦ rw (get_or-append xs ys 0 t h, get_or-append xs ys 0 u h') (left t u h h')
        | inr h' ↦ rw (get_or-append xs ys 0 t h, get_or-append_right xs ys u 0 h') (λ same. absurd (cross t (u - length xs) h (omega arith) same))
      ]
      | inr h ↦ elim (cases_lt u (length xs)) [
        | inl h' ↦ rw (get_or-append_right xs ys t 0 h, get_or-append xs ys 0 u h') (λ same. absurd (cross u (t - length xs) h' (omega arith) (sym same)))
        | inr h' ↦ rw (get_or-append_right xs ys t 0 h, get_or-append_right xs ys u 0 h')
            (λ same. let e = right (t - length xs) (u - length xs) (omega arith) (omega arith) same in omega arith)
      ]
    ]

pub apart_cons : (j : ℕ) (xs : List ℕ) → AreApart xs → ((k : ℕ) → k < length xs → get_or xs k 0 ≢ j) → AreApart (j ∷ xs)
apart_cons j xs apart other zero zero tl ul same = refl
apart_cons j xs apart other zero (suc u) tl ul same = absurd (other u (omega arith) (sym same))
apart_cons j xs apart other (suc t) zero tl ul same = absurd (other t (omega arith) same)
apart_cons j xs apart other (suc t) (suc u) tl ul same = ap suc (apart t u (omega arith) (omega arith) same)

pub apart_rest : (j : ℕ) (xs : List ℕ) → AreApart (j ∷ xs) → AreApart xs
apart_rest j xs apart t u tl ul same = let e = apart (suc t) (suc u) (omega arith) (omega arith) same in omega arith

pub of_level_apart : (level : ℕ → ℕ) (n : ℕ) (js : List ℕ) → AreApart js → AreApart (of_level level n js)
of_level_apart level n [] apart = λ t u tl ul same. absurd (omega arith)
of_level_apart level n (j ∷ js) apart = elim (eqb_tells (level j) n) [
  | inl e ↦ rw e.0 (apart_cons j (of_level level n js) (of_level_apart level n js (apart_rest j js apart))
      (λ k l same.
      let there = of_level_at level n js k l in
      let first = apart 0 (suc there.0) (omega arith) (omega (arith, there.1)) (sym same ∙ sym there.2) in
      absurd (omega arith)))
  | inr e ↦ rw e.0 (of_level_apart level n js (apart_rest j js apart))
]

pub below_level_apart : (level : ℕ → ℕ) (n : ℕ) (js : List ℕ) → AreApart js → AreApart (below_level level n js)
below_level_apart level zero js apart = λ t u tl ul same. absurd (omega arith)
below_level_apart level (suc n) js apart = append_apart (below_level level n js) (of_level level n js) (below_level_apart level n js apart) (of_level_apart level n js apart)
    (λ a b al bl same.
    let one = below_level_at level n js a al in
    let two = of_level_at level n js b bl in
    let is : level (get_or (below_level level n js) a 0) ≡ n = ap level same ∙ two.3 in
    omega (arith, one.1, one.2.3))

pub stands_later : (j x : ℕ) (xs : List ℕ) → StandsAt xs x → StandsAt (j ∷ xs) x
stands_later j x xs there = (suc there.0, omega (arith, there.1), there.2)

pub stands_left : (xs ys : List ℕ) (x : ℕ) → StandsAt xs x → StandsAt (xs ++ ys) x
stands_left xs ys x there = let size = length-append xs ys in (there.0, omega (arith, there.1), get_or-append xs ys 0 there.0 there.1 ∙ there.2)

pub stands_right : (xs ys : List ℕ) (x : ℕ) → StandsAt ys x → StandsAt (xs ++ ys) x
stands_right xs ys x there =
    let size = length-append xs ys in
    let back : length xs + there.0 - length xs ≡ there.0 = omega arith in
    (length xs + there.0, omega (arith, there.1), get_or-append_right xs ys (length xs + there.0) 0 (omega arith) ∙ rw back there.2)

pub of_level_all : (level : ℕ → ℕ) (n : ℕ) (js : List ℕ) (a : ℕ) → a < length js → level (get_or js a 0) ≡ n → StandsAt (of_level level n js) (get_or js a 0)
of_level_all level n [] a l is = absurd (omega arith)
of_level_all level n (j ∷ js) zero l is = elim (eqb_tells (level j) n) [
  | inl e ↦ rw e.0 (0, omega arith, refl)
  | inr e ↦ absurd (e.1 is)
]
of_level_all level n (j ∷ js) (suc a) l is =
    let there = of_level_all level n js a (omega arith) is in
    elim (eqb_tells (level j) n) [
      | inl e ↦ rw e.0 (stands_later j (get_or js a 0) (of_level level n js) there)
      | inr e ↦ rw e.0 there
    ]

pub below_level_all : (level : ℕ → ℕ) (n : ℕ) (js : List ℕ) (a : ℕ) → a < length js → level (get_or js a 0) < n → StandsAt (below_level level n js) (get_or js a 0)
below_level_all level zero js a l low = absurd (omega arith)
below_level_all level (suc n) js a l low = elim (eqb_tells (level (get_or js a 0)) n) [
  | inl e ↦ stands_right (below_level level n js) (of_level level n js) (get_or js a 0) (of_level_all level n js a l e.1)
  | inr e ↦ stands_left (below_level level n js) (of_level level n js) (get_or js a 0) (below_level_all level n js a l (omega (arith, e.1)))
]

-- the lower levels stand first
pub below_level_first : (level : ℕ → ℕ) (js : List ℕ) (n more : ℕ) → (rest : List ℕ) × (below_level level (n + more) js ≡ below_level level n js ++ rest)
below_level_first level js n zero = let same : n + zero ≡ n = omega arith in ([], rw same (sym (append-nil (below_level level n js))))
below_level_first level js n (suc more) =
    let there = below_level_first level js n more in
    let next : n + suc more ≡ suc (n + more) = omega arith in (
      there.0 ++ of_level level (n + more) js,
      rw next (ap (λ (z : List ℕ). z ++ of_level level (n + more) js) there.1 ∙ append_assoc (below_level level n js) there.0 (of_level level (n + more) js)),
    )

pub below_level_take : (level : ℕ → ℕ) (js : List ℕ) (n top : ℕ) → n ≤ top → take (length (below_level level n js)) (below_level level top js) ≡ below_level level n js
below_level_take level js n top le =
    let there = below_level_first level js n (top - n) in
    let whole : n + (top - n) ≡ top = omega arith in
    let is : below_level level top js ≡ below_level level n js ++ there.0 = rw whole at there.1 in
    rw is (take_at (below_level level n js) there.0 (length (below_level level n js)) refl)

pub below_level_length : (level : ℕ → ℕ) (js : List ℕ) (n top : ℕ) → n ≤ top → length (below_level level n js) ≤ length (below_level level top js)
below_level_length level js n top le =
    let there = below_level_first level js n (top - n) in
    let whole : n + (top - n) ≡ top = omega arith in
    let is : below_level level top js ≡ below_level level n js ++ there.0 = rw whole at there.1 in
    let size = ap length is ∙ length-append (below_level level n js) there.0 in
    omega arith

pub numbers_length : (n : ℕ) → length (numbers_to n) ≡ n
numbers_length zero = refl
numbers_length (suc n) = let rest = numbers_length n in let size = length-append (numbers_to n) (suc n ∷ []) in omega arith

pub numbers_at : (n k : ℕ) → k < n → get_or (numbers_to n) k 0 ≡ suc k
numbers_at zero k l = absurd (omega arith)
numbers_at (suc n) k l =
    let size = numbers_length n in
    elim (cases_lt k n) [
      | inl h ↦ get_or-append (numbers_to n) (suc n ∷ []) 0 k (omega arith) ∙ numbers_at n k h
      | inr h ↦
          let same : k ≡ n = omega arith in
          let back : n - length (numbers_to n) ≡ 0 = omega arith in
          rw same (get_or-append_right (numbers_to n) (suc n ∷ []) n 0 (omega arith) ∙ rw back refl)
    ]
