-- The lines of texts that are put together line by line.
use Rattle.std.proofs.Common.{◌≡◌, ℕ, zero, suc, ◌+◌, ◌-◌, ◌<◌, ◌≤◌, inl, inr, Bool, true, false, ◌==◌, List, [], ◌∷◌, ◌++◌, map, length, get_or, refl, sym, ap, ◌∙◌, arith, append_assoc, length-append}
use Rattle.std.proofs.lemmas.Bool.{cases_lt}
use Rattle.std.proofs.lemmas.List.{append-nil}
use Rattle.std.specs.Prelude.{if◌then◌else◌, flat_map}
use Rattle.mo_report.specs.Lines.{lines_below}
use Rattle.mo_report_lines.specs.Lines.{before_first, lines_of, without_feed}
use Rattle.mo_verify.proofs.Feeds.{feed_counts}

-- no byte is a line feed
abbrev pub is_plain : List ℕ → Bool
is_plain [] = true
is_plain (b ∷ bs) = if b == 10 then false else is_plain bs

pub plain_both : (a b : List ℕ) → is_plain a ≡ true → is_plain b ≡ true → is_plain (a ++ b) ≡ true
plain_both [] b h k = k
plain_both (x ∷ a) b h k = go (x == 10) refl (λ rest. plain_both a b rest k)
  where
    go : (feed : Bool) → (x == 10) ≡ feed → (is_plain a ≡ true → is_plain (a ++ b) ≡ true) → is_plain (x ∷ a ++ b) ≡ true
    go true e later = let no : false ≡ true = rw e at h in cc
    go false e later = rw e (later (rw e at h))

-- a text without line feeds, and a line feed
pub record IsOne (line : List ℕ) : Type 0 where
  pub text : List ℕ
  pub is : line ≡ text ++ 10 ∷ []
  pub plain : is_plain text ≡ true

one_alone : (text : List ℕ) → is_plain text ≡ true → lines_of (text ++ 10 ∷ []) ≡ (text ++ 10 ∷ []) ∷ []
one_alone [] h = refl
one_alone (b ∷ bs) h = go (b == 10) refl (λ rest. one_alone bs rest)
  where
    go : (feed : Bool) → (b == 10) ≡ feed → (is_plain bs ≡ true → lines_of (bs ++ 10 ∷ []) ≡ (bs ++ 10 ∷ []) ∷ []) → lines_of (b ∷ bs ++ 10 ∷ []) ≡ (b ∷ bs ++ 10 ∷ []) ∷ []
    go true e later = let no : false ≡ true = rw e at h in cc
    go false e later = rw (e, later (rw e at h)) refl

pub cut_one : (text : List ℕ) → is_plain text ≡ true → without_feed (text ++ 10 ∷ []) ≡ text
cut_one [] h = refl
cut_one (b ∷ bs) h = go (b == 10) refl (λ rest. cut_one bs rest)
  where
    go : (feed : Bool) → (b == 10) ≡ feed → (is_plain bs ≡ true → without_feed (bs ++ 10 ∷ []) ≡ bs) → without_feed (b ∷ bs ++ 10 ∷ []) ≡ b ∷ bs
    go true e later = let no : false ≡ true = rw e at h in cc
    go false e later = rw e (ap (λ (t : List ℕ). b ∷ t) (later (rw e at h)))

first_append : (b : ℕ) (xs ys : List (List ℕ)) → 0 < length xs → before_first b (xs ++ ys) ≡ before_first b xs ++ ys
first_append b [] ys some = absurd (omega (arith, some))
first_append b (x ∷ xs) ys some = refl

pub joined : (front rest : List ℕ) → lines_of (front ++ 10 ∷ rest) ≡ lines_of (front ++ 10 ∷ []) ++ lines_of rest
joined [] rest = refl
joined (b ∷ front) rest = go (b == 10) refl (joined front rest) (feed_counts front [])
  where
    go : (feed : Bool) → (b == 10) ≡ feed → lines_of (front ++ 10 ∷ rest) ≡ lines_of (front ++ 10 ∷ []) ++ lines_of rest → length (lines_of []) + 1 ≤ length (lines_of (front ++ 10 ∷ []))
        → lines_of (b ∷ front ++ 10 ∷ rest) ≡ lines_of (b ∷ front ++ 10 ∷ []) ++ lines_of rest
    go true e later some = rw e (ap (λ (ls : List (List ℕ)). (b ∷ []) ∷ ls) later)
    go false e later some = rw e (ap (before_first b) later ∙ first_append b (lines_of (front ++ 10 ∷ [])) (lines_of rest) (omega (arith, some)))

-- ---- lists of lines
abbrev pub together : List (List ℕ) → List ℕ
together [] = []
together (line ∷ lines) = line ++ together lines

-- each of them has the property
abbrev pub Each : (List ℕ → Type 0) → List (List ℕ) → Type 0
Each P lines = (i : ℕ) → i < length lines → P (get_or lines i [])

pub lines_together : (lines : List (List ℕ)) → Each IsOne lines → lines_of (together lines) ≡ lines
lines_together [] ones = refl
lines_together (line ∷ lines) ones =
    let one : IsOne line = ones 0 (omega arith) in
    let rest : lines_of (together lines) ≡ lines = lines_together lines (λ i below. ones (suc i) (omega arith)) in
    let whole : line ++ together lines ≡ one.text ++ 10 ∷ together lines = ap (λ (t : List ℕ). t ++ together lines) one.is ∙ append_assoc one.text (10 ∷ []) (together lines) in
    let alone : lines_of (one.text ++ 10 ∷ []) ≡ line ∷ [] = one_alone one.text one.plain ∙ ap (λ (t : List ℕ). t ∷ []) (sym one.is) in
    ap lines_of whole ∙ (joined one.text (together lines) ∙ rw (alone, rest) refl)

pub together_both : (a b : List (List ℕ)) → together (a ++ b) ≡ together a ++ together b
together_both [] b = refl
together_both (x ∷ a) b = ap (λ (t : List ℕ). x ++ t) (together_both a b) ∙ sym (append_assoc x (together a) (together b))

pub at_left : (xs ys : List (List ℕ)) (i : ℕ) → i < length xs → get_or (xs ++ ys) i [] ≡ get_or xs i []
at_left [] ys i below = absurd (omega arith)
at_left (x ∷ xs) ys zero below = refl
at_left (x ∷ xs) ys (suc i) below = at_left xs ys i (omega arith)

pub at_right : (xs ys : List (List ℕ)) (i k : ℕ) → k ≡ length xs + i → get_or (xs ++ ys) k [] ≡ get_or ys i []
at_right [] ys i k e = let f : k ≡ i = omega (arith, e) in rw f refl
at_right (x ∷ xs) ys i zero e = absurd (omega (arith, e))
at_right (x ∷ xs) ys i (suc k) e = at_right xs ys i k (omega (arith, e))

pub each_both : (P : List ℕ → Type 0) (xs ys : List (List ℕ)) → Each P xs → Each P ys → Each P (xs ++ ys)
each_both P xs ys a b i below = elim (cases_lt i (length xs)) [
  | inl left ↦ rw (at_left xs ys i left) (a i left)
  | inr right ↦ (
      let size : length (xs ++ ys) ≡ length xs + length ys = length-append xs ys in
      rw (at_right xs ys (i - length xs) i (omega (arith, right))) (b (i - length xs) (omega (arith, right, size, below))))
]

pub each_one : (P : List ℕ → Type 0) (x : List ℕ) → P x → Each P (x ∷ [])
each_one P x h zero below = h
each_one P x h (suc i) below = absurd (omega arith)

-- a line for each number below n
abbrev pub listed : (ℕ → List ℕ) → ℕ → List (List ℕ)
listed line zero = []
listed line (suc n) = listed line n ++ line n ∷ []

pub below_together : (line : ℕ → List ℕ) (n : ℕ) → lines_below line n ≡ together (listed line n)
below_together line zero = refl
below_together line (suc n) =
    ap (λ (t : List ℕ). t ++ line n) (below_together line n) ∙ sym (together_both (listed line n) (line n ∷ []) ∙ ap (λ (t : List ℕ). together (listed line n) ++ t) (append-nil (line n)))

pub listed_size : (line : ℕ → List ℕ) (n : ℕ) → length (listed line n) ≡ n
listed_size line zero = refl
listed_size line (suc n) =
    let size : length (listed line n ++ line n ∷ []) ≡ length (listed line n) + 1 = length-append (listed line n) (line n ∷ []) in
    let rest = listed_size line n in omega (arith, size, rest)

pub listed_at : (line : ℕ → List ℕ) (n i : ℕ) → i < n → get_or (listed line n) i [] ≡ line i
listed_at line zero i below = absurd (omega arith)
listed_at line (suc n) i below =
    let size = listed_size line n in
    elim (cases_lt i n) [
      | inl old ↦ at_left (listed line n) (line n ∷ []) i (omega (arith, size, old)) ∙ listed_at line n i old
      | inr new ↦ (let last : i ≡ n = omega arith in rw last (at_right (listed line n) (line n ∷ []) 0 n (omega (arith, size))))
    ]

pub each_listed : (P : List ℕ → Type 0) (line : ℕ → List ℕ) (n : ℕ) → ((i : ℕ) → i < n → P (line i)) → Each P (listed line n)
each_listed P line n all i below = let size = listed_size line n in let inside : i < n = omega (arith, size, below) in rw (listed_at line n i inside) (all i inside)

pub mapped_together : {A : Type 0} (f : A → List ℕ) (xs : List A) → flat_map f xs ≡ together (map f xs)
mapped_together f [] = refl
mapped_together f (x ∷ xs) = ap (λ (t : List ℕ). f x ++ t) (mapped_together f xs)

pub each_mapped : {A : Type 0} (P : List ℕ → Type 0) (f : A → List ℕ) (xs : List A) (d : A) → ((i : ℕ) → i < length xs → P (f (get_or xs i d))) → Each P (map f xs)
each_mapped P f [] d all i below = absurd (omega arith)
each_mapped P f (x ∷ xs) d all zero below = all 0 (omega arith)
each_mapped P f (x ∷ xs) d all (suc i) below = each_mapped P f xs d (λ k l. all (suc k) (omega arith)) i (omega arith)
