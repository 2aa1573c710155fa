-- Indices stand among those of a path exactly where some of its components have just these indices, in their order, and these sizes.
use Rattle.std.proofs.Common.{◌≡◌, ℕ, Bool, true, false, ◌&&◌, List, [], ◌∷◌, length, nat_eq, if◌then◌else◌, refl, ap, sym, ◌∙◌, arith}
use Rattle.std.proofs.lemmas.Bool.{eq-eqb, eqb-true, false≢true}
use Rattle.mo_equations.specs.Variables.{are_among}
use Rattle.mo_fits.specs.Laws.{kept}

both_true : (a b : Bool) → (a && b) ≡ true → (a ≡ true) × (b ≡ true)
both_true true true h = (refl, refl)
both_true true false h = absurd (false≢true h)
both_true false b h = absurd (false≢true h)

and_true : (a b : Bool) → a ≡ true → b ≡ true → (a && b) ≡ true
and_true true true h k = refl
and_true true false h k = k
and_true false b h k = h

either_true : (b x y : Bool) → x ≡ true → y ≡ true → (if b then x else y) ≡ true
either_true true x y h k = h
either_true false x y h k = k

-- what stands among some is marked there
pub marked : (pending dims indices sizes : List ℕ) → length pending ≡ length dims → are_among pending dims indices sizes ≡ true →
    (marks : List Bool) × (kept marks indices ≡ pending) × (kept marks sizes ≡ dims)
marked [] [] indices sizes same are = ([], refl, refl)
marked [] (n ∷ dims) indices sizes same are = absurd (omega (arith, same))
marked (i ∷ pending) [] indices sizes same are = absurd (false≢true are)
marked (i ∷ pending) (n ∷ dims) [] sizes same are = absurd (false≢true are)
marked (i ∷ pending) (n ∷ dims) (j ∷ indices) [] same are = absurd (false≢true are)
marked (i ∷ pending) (n ∷ dims) (j ∷ indices) (m ∷ sizes) same are =
    at (nat_eq i j && nat_eq n m) refl (marked pending dims indices sizes (omega (arith, same))) (marked (i ∷ pending) (n ∷ dims) indices sizes same)
  where
    at : (b : Bool) → (nat_eq i j && nat_eq n m) ≡ b →
        (are_among pending dims indices sizes ≡ true → (marks : List Bool) × (kept marks indices ≡ pending) × (kept marks sizes ≡ dims)) →
        (are_among (i ∷ pending) (n ∷ dims) indices sizes ≡ true → (marks : List Bool) × (kept marks indices ≡ i ∷ pending) × (kept marks sizes ≡ n ∷ dims)) →
        (marks : List Bool) × (kept marks (j ∷ indices) ≡ i ∷ pending) × (kept marks (m ∷ sizes) ≡ n ∷ dims)
    at true is fewer all =
        let parts = both_true (nat_eq i j) (nat_eq n m) is in
        let others = fewer (rw is at are) in (
          true ∷ others.0,
          ap (λ k. k ∷ kept others.0 indices) (sym (eqb-true i j parts.0)) ∙ ap (λ xs. i ∷ xs) others.1,
          ap (λ k. k ∷ kept others.0 sizes) (sym (eqb-true n m parts.1)) ∙ ap (λ xs. n ∷ xs) others.2,
        )
    at false is fewer all =
        let others = all (rw is at are) in
        (false ∷ others.0, others.1, others.2)

-- what stands among some stands among one more, given that fewer do where more do
one_more : (indices sizes : List ℕ) (fewer : (i n : ℕ) (pending dims : List ℕ) → are_among (i ∷ pending) (n ∷ dims) indices sizes ≡ true → are_among pending dims indices sizes ≡ true)
    (j m : ℕ) (pending dims : List ℕ) → are_among pending dims indices sizes ≡ true → are_among pending dims (j ∷ indices) (m ∷ sizes) ≡ true
one_more indices sizes fewer j m [] dims h = refl
one_more indices sizes fewer j m (i ∷ pending) [] h = h
one_more indices sizes fewer j m (i ∷ pending) (n ∷ dims) h = either_true (nat_eq i j && nat_eq n m) _ _ (fewer i n pending dims h) h

one_fewer : (i n : ℕ) (pending dims indices sizes : List ℕ) → are_among (i ∷ pending) (n ∷ dims) indices sizes ≡ true → are_among pending dims indices sizes ≡ true
one_fewer i n pending dims [] sizes h = absurd (false≢true h)
one_fewer i n pending dims (j ∷ indices) [] h = absurd (false≢true h)
one_fewer i n pending dims (j ∷ indices) (m ∷ sizes) h =
    at (nat_eq i j && nat_eq n m) refl
    (one_more indices sizes (λ k l others more. one_fewer k l others more indices sizes) j m pending dims)
    (one_fewer i n pending dims indices sizes)
  where
    at : (b : Bool) → (nat_eq i j && nat_eq n m) ≡ b →
        (are_among pending dims indices sizes ≡ true → are_among pending dims (j ∷ indices) (m ∷ sizes) ≡ true) →
        (are_among (i ∷ pending) (n ∷ dims) indices sizes ≡ true → are_among pending dims indices sizes ≡ true) →
        are_among pending dims (j ∷ indices) (m ∷ sizes) ≡ true
    at true is further fewer = further (rw is at h)
    at false is further fewer = further (fewer (rw is at h))

-- what is marked on a path stands among it
pub among : (marks : List Bool) (indices sizes : List ℕ) → length indices ≡ length sizes → are_among (kept marks indices) (kept marks sizes) indices sizes ≡ true
among [] indices sizes same = refl
among (mark ∷ marks) [] sizes same = refl
among (mark ∷ marks) (j ∷ indices) [] same = absurd (omega (arith, same))
among (true ∷ marks) (j ∷ indices) (m ∷ sizes) same =
    rw (and_true (nat_eq j j) (nat_eq m m) (eq-eqb j j refl) (eq-eqb m m refl)) (among marks indices sizes (omega (arith, same)))
among (false ∷ marks) (j ∷ indices) (m ∷ sizes) same =
    one_more indices sizes (λ i n pending dims. one_fewer i n pending dims indices sizes) j m (kept marks indices) (kept marks sizes) (among marks indices sizes (omega (arith, same)))
