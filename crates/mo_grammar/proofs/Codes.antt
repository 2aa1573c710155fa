-- Tests, sets of codes and lists of tokens.
use Rattle.std.proofs.Common.{◌≡◌, ◌==◌, ◌||◌, ◌&&◌, not, ℕ, suc, ◌+◌, ◌<◌, Bool, true, false, List, [], ◌∷◌, ◌++◌, ◌⊎◌, inl, inr, length, refl, sym, ap, if◌then◌else◌, length-append, arith, eqb-true}
use Rattle.mo_grammar.specs.Lexeme.{Lexeme, code_of}
use Rattle.mo_grammar.specs.Grammar.{has}
use Rattle.mo_grammar.specs.Reading.{when, next_in, next_two, apart, covers, each_covers}

-- ---- tests

pub both : (a b : Bool) → (a && b) ≡ true → (a ≡ true) × (b ≡ true)
both true b e = (refl, e)
both false b e = cc

pub not_true : (a : Bool) → not a ≡ true → a ≡ false
not_true true e = cc
not_true false e = refl

pub one_of : (a b : Bool) → (a || b) ≡ true → (a ≡ true) ⊎ (b ≡ true)
one_of true b e = inl refl
one_of false b e = inr e

pub or_left : (a b : Bool) → a ≡ true → (a || b) ≡ true
or_left true b e = refl
or_left false b e = cc

pub or_right : (a b : Bool) → b ≡ true → (a || b) ≡ true
or_right true b e = refl
or_right false b e = e

pub neither : (a b : Bool) → (a || b) ≡ false → (a ≡ false) × (b ≡ false)
neither true b e = cc
neither false b e = (refl, e)

pub both_false : (a b : Bool) → a ≡ false → b ≡ false → (a || b) ≡ false
both_false true b e d = cc
both_false false b e d = d

pub never : {P : Type 0} (b : Bool) → b ≡ true → b ≡ false → P
never b e d = cc

pub told : (b : Bool) → (b ≡ true) ⊎ (b ≡ false)
told true = inl refl
told false = inr refl

pub false_from : (b : Bool) → (b ≡ true → ⊥) → b ≡ false
false_from true h = absurd (h refl)
false_from false h = refl

-- ---- sets of codes

pub has_append : (xs ys : List ℕ) (c : ℕ) → has (xs ++ ys) c ≡ true → (has xs c ≡ true) ⊎ (has ys c ≡ true)
has_append [] ys c e = inr e
has_append (x ∷ xs) ys c e = go (has_append xs ys c) (x == c) e
  where
    go : (has (xs ++ ys) c ≡ true → (has xs c ≡ true) ⊎ (has ys c ≡ true)) → (b : Bool) → (b || has (xs ++ ys) c) ≡ true → ((b || has xs c) ≡ true) ⊎ (has ys c ≡ true)
    go rest true e = inl refl
    go rest false e = rest e

pub has_left : (xs ys : List ℕ) (c : ℕ) → has xs c ≡ true → has (xs ++ ys) c ≡ true
has_left [] ys c e = cc
has_left (x ∷ xs) ys c e = go (has_left xs ys c) (x == c) e
  where
    go : (has xs c ≡ true → has (xs ++ ys) c ≡ true) → (b : Bool) → (b || has xs c) ≡ true → (b || has (xs ++ ys) c) ≡ true
    go rest true e = refl
    go rest false e = rest e

pub has_right : (xs ys : List ℕ) (c : ℕ) → has ys c ≡ true → has (xs ++ ys) c ≡ true
has_right [] ys c e = e
has_right (x ∷ xs) ys c e = or_right (x == c) (has (xs ++ ys) c) (has_right xs ys c e)

pub has_when : (b : Bool) (xs : List ℕ) (c : ℕ) → has (when b xs) c ≡ true → (b ≡ true) × (has xs c ≡ true)
has_when true xs c e = (refl, e)
has_when false xs c e = cc

pub when_has : (b : Bool) (xs : List ℕ) (c : ℕ) → b ≡ true → has xs c ≡ true → has (when b xs) c ≡ true
when_has true xs c e h = h
when_has false xs c e h = cc

pub apart_lem : (xs ys : List ℕ) (c : ℕ) → apart xs ys ≡ true → has xs c ≡ true → has ys c ≡ true → ⊥
apart_lem [] ys c a e d = cc
apart_lem (x ∷ xs) ys c a e d =
    let parts = both (not (has ys x)) (apart xs ys) a in
    elim (one_of (x == c) (has xs c) e) [
      | inl same ↦ never (has ys x) (rw (eqb-true x c same) d) (not_true (has ys x) parts.0)
      | inr more ↦ apart_lem xs ys c parts.1 more d
    ]

pub covers_lem : (xs ys : List ℕ) (c : ℕ) → covers xs ys ≡ true → has ys c ≡ true → has xs c ≡ true
covers_lem xs [] c k e = cc
covers_lem xs (y ∷ ys) c k e =
    let parts = both (has xs y) (covers xs ys) k in
    elim (one_of (y == c) (has ys c) e) [
      | inl same ↦ rw (eqb-true y c same) at parts.0
      | inr more ↦ covers_lem xs ys c parts.1 more
    ]

pub each_covers_lem : (test : ℕ → Bool) (cs : List ℕ) (c : ℕ) → each_covers test cs ≡ true → has cs c ≡ true → test c ≡ true
each_covers_lem test [] c k e = cc
each_covers_lem test (d ∷ cs) c k e =
    let parts = both (test d) (each_covers test cs) k in
    elim (one_of (d == c) (has cs c) e) [
      | inl same ↦ rw (eqb-true d c same) at parts.0
      | inr more ↦ each_covers_lem test cs c parts.1 more
    ]

-- a set of one code
pub has_one : (c d : ℕ) → has (c ∷ []) d ≡ true → c ≡ d
has_one c d e = go (one_of (c == d) false e)
  where
    go : ((c == d) ≡ true) ⊎ (false ≡ true) → c ≡ d
    go (inl same) = eqb-true c d same
    go (inr e) = cc

-- ---- the next tokens

pub next_in_append : (xs ys : List ℕ) (tokens : List Lexeme) → next_in (xs ++ ys) tokens ≡ true → (next_in xs tokens ≡ true) ⊎ (next_in ys tokens ≡ true)
next_in_append xs ys [] e = cc
next_in_append xs ys (t ∷ tokens) e = has_append xs ys (code_of t) e

pub next_in_left : (xs ys : List ℕ) (tokens : List Lexeme) → next_in xs tokens ≡ true → next_in (xs ++ ys) tokens ≡ true
next_in_left xs ys [] e = cc
next_in_left xs ys (t ∷ tokens) e = has_left xs ys (code_of t) e

pub next_in_right : (xs ys : List ℕ) (tokens : List Lexeme) → next_in ys tokens ≡ true → next_in (xs ++ ys) tokens ≡ true
next_in_right xs ys [] e = cc
next_in_right xs ys (t ∷ tokens) e = has_right xs ys (code_of t) e

pub next_in_when : (b : Bool) (xs : List ℕ) (tokens : List Lexeme) → b ≡ true → next_in xs tokens ≡ true → next_in (when b xs) tokens ≡ true
next_in_when b xs [] k e = cc
next_in_when b xs (t ∷ tokens) k e = when_has b xs (code_of t) k e

pub next_in_covers : (xs ys : List ℕ) (tokens : List Lexeme) → covers xs ys ≡ true → next_in ys tokens ≡ true → next_in xs tokens ≡ true
next_in_covers xs ys [] k e = cc
next_in_covers xs ys (t ∷ tokens) k e = covers_lem xs ys (code_of t) k e

-- ---- lists

pub split_one : (a b : List Lexeme) (t : Lexeme) (more : List Lexeme) → a ++ b ≡ t ∷ more → (a ≡ []) ⊎ ((a' : List Lexeme) × (a ≡ t ∷ a') × (more ≡ a' ++ b))
split_one [] b t more e = inl refl
split_one (x ∷ a) b t more e = inr (a, cc, cc)

pub nothing_left : (a b : List Lexeme) → [] ≡ a ++ b → (a ≡ []) × (b ≡ [])
nothing_left [] b e = (refl, sym e)
nothing_left (x ∷ a) b e = cc

-- the cut of one list at two places
pub cuts : (a b c d : List Lexeme) → a ++ b ≡ c ++ d → ((m : List Lexeme) × (c ≡ a ++ m) × (b ≡ m ++ d)) ⊎ ((m : List Lexeme) × (a ≡ c ++ m) × (d ≡ m ++ b))
cuts [] b c d e = inl (c, refl, e)
cuts (x ∷ a) b [] d e = inr (x ∷ a, refl, sym e)
cuts (x ∷ a) b (y ∷ c) d e = go (cuts a b c d cc)
  where
    go : ((m : List Lexeme) × (c ≡ a ++ m) × (b ≡ m ++ d)) ⊎ ((m : List Lexeme) × (a ≡ c ++ m) × (d ≡ m ++ b)) → ((m : List Lexeme) × (y ∷ c ≡ (x ∷ a) ++ m) × (b ≡ m ++ d)) ⊎ ((m : List Lexeme) × (x ∷ a ≡ (y ∷ c) ++ m) × (d ≡ m ++ b))
    go (inl (m, p, q)) = inl (m, cc, q)
    go (inr (m, p, q)) = inr (m, cc, q)

pub split_two : (a b : List Lexeme) (t u : Lexeme) (more : List Lexeme) → a ++ b ≡ t ∷ u ∷ more → (a ≡ []) ⊎ ((a ≡ t ∷ []) × (b ≡ u ∷ more) ⊎ ((a' : List Lexeme) × (a ≡ t ∷ u ∷ a')))
split_two [] b t u more e = inl refl
split_two (x ∷ []) b t u more e = inr (inl (cc, cc))
split_two (x ∷ y ∷ a) b t u more e = inr (inr (a, cc))

pub and_true : (a b : Bool) → a ≡ true → b ≡ true → (a && b) ≡ true
and_true true b e d = d
and_true false b e d = cc

pub next_in_neither : (xs ys : List ℕ) (tokens : List Lexeme) → next_in (xs ++ ys) tokens ≡ false → (next_in xs tokens ≡ false) × (next_in ys tokens ≡ false)
next_in_neither xs ys tokens e = (
  false_from (next_in xs tokens) (λ t. never (next_in (xs ++ ys) tokens) (next_in_left xs ys tokens t) e),
  false_from (next_in ys tokens) (λ t. never (next_in (xs ++ ys) tokens) (next_in_right xs ys tokens t) e),
)

pub next_in_unless : (b : Bool) (xs : List ℕ) (tokens : List Lexeme) → b ≡ true → next_in (when b xs) tokens ≡ false → next_in xs tokens ≡ false
next_in_unless b xs tokens k e = false_from (next_in xs tokens) (λ t. never (next_in (when b xs) tokens) (next_in_when b xs tokens k t) e)

-- what begins with a token of one set begins with none of a set that is apart from it
pub next_in_apart : (xs ys : List ℕ) (tokens : List Lexeme) → apart xs ys ≡ true → next_in ys tokens ≡ true → next_in xs tokens ≡ false
next_in_apart xs ys [] k e = refl
next_in_apart xs ys (t ∷ tokens) k e = false_from (has xs (code_of t)) (λ h. apart_lem xs ys (code_of t) k h e)

pub next_in_apart' : (xs ys : List ℕ) (tokens : List Lexeme) → apart xs ys ≡ true → next_in xs tokens ≡ true → next_in ys tokens ≡ false
next_in_apart' xs ys [] k e = cc
next_in_apart' xs ys (t ∷ tokens) k e = false_from (has ys (code_of t)) (λ h. apart_lem xs ys (code_of t) k e h)

-- no pair where the next token has neither the one code nor one of the others
pub no_pair : (c : ℕ) (ds : List ℕ) (tokens : List Lexeme) → next_in (c ∷ ds) tokens ≡ false → next_two c ds tokens ≡ false
no_pair c ds [] e = refl
no_pair c ds (t ∷ []) e = refl
no_pair c ds (t ∷ u ∷ tokens) e = rw ((neither (c == code_of t) (has ds (code_of t)) e).0) refl

pub choose_false : {A : Type 0} (b : Bool) (x y : A) → b ≡ false → (if b then x else y) ≡ y
choose_false true x y e = cc
choose_false false x y e = refl

pub choose_true : {A : Type 0} (b : Bool) (x y : A) → b ≡ true → (if b then x else y) ≡ x
choose_true true x y e = refl
choose_true false x y e = cc

-- two cuts of one list, of which the second leaves no more
pub shorter_or_same : (a c b d : List Lexeme) → a ++ b ≡ c ++ d → length d < length b + 1 → (length d < length b) ⊎ (b ≡ d)
shorter_or_same a c b d e less = elim (cuts a b c d e) [
  | inl m ↦ go m.0 m.2
  | inr m ↦ longer m.0 m.2
]
  where
    go : (m : List Lexeme) → b ≡ m ++ d → (length d < length b) ⊎ (b ≡ d)
    go [] q = inr q
    go (t ∷ m) q = inl (let s : length b ≡ suc (length (m ++ d)) = ap length q in omega (arith, length-append m d))

    longer : (m : List Lexeme) → d ≡ m ++ b → (length d < length b) ⊎ (b ≡ d)
    longer [] q = inr (sym q)
    longer (t ∷ m) q = absurd (let s : length d ≡ suc (length (m ++ b)) = ap length q in omega (arith, length-append m b))
