-- Assignments turned round: which place has a number.
use Rattle.std.proofs.Common.{◌≡◌, ◌≢◌, ℕ, zero, suc, ◌-◌, ◌<◌, ◌≤◌, ◌==◌, inl, inr, if◌then◌else◌, refl, sym, ap, ◌∙◌, arith}
use Rattle.std.proofs.lemmas.Bool.Decides.{eqb_tells}
use Rattle.mo_graph.specs.Counting.{count_below}
use Rattle.mo_graph.proofs.Counting.{count_injection}
use Rattle.mo_incidence.specs.Assignment.{Assigns}

-- one more than the last of the first n places with number x, or 0
abbrev pub holder : (ℕ → ℕ) → ℕ → ℕ → ℕ
holder q zero x = 0
holder q (suc n) x = if q n == x then suc n else holder q n x

pub holder_at : (q : ℕ → ℕ) (n x e : ℕ) → holder q n x ≡ suc e → (e < n) × (q e ≡ x)
holder_at q zero x e = λ is. absurd (omega arith)
holder_at q (suc n) x e = elim (eqb_tells (q n) x) [
  | inl h ↦ rw h.0 (λ is. let same : e ≡ n = omega arith in (omega arith, ap q same ∙ h.1))
  | inr h ↦ rw h.0 (λ is. let there = holder_at q n x e is in (omega (arith, there.0), there.1))
]

pub holder_some : (q : ℕ → ℕ) (n x e : ℕ) → e < n → q e ≡ x → holder q n x ≢ 0
holder_some q zero x e l is = absurd (omega arith)
holder_some q (suc n) x e l is = elim (eqb_tells (q n) x) [
  | inl h ↦ rw h.0 (omega arith)
  | inr h ↦ elim (eqb_tells e n) [
    | inl s ↦ absurd (h.1 (ap q (sym s.1) ∙ is))
    | inr s ↦ rw h.0 (holder_some q n x e (omega (arith, s.1)) is)
  ]
]

pub holder_is : (q : ℕ → ℕ) (n x : ℕ) → holder q n x ≢ 0 → (holder q n x - 1 < n) × (q (holder q n x - 1) ≡ x)
holder_is q n x some = let is : holder q n x ≡ suc (holder q n x - 1) = omega (arith, some) in holder_at q n x (holder q n x - 1) is

-- q gives numbers to the first m places, of which u names k, each at its place
module _ (F : ℕ → ℕ → Type 0) (m k : ℕ) (q u place : ℕ → ℕ) (assigns : Assigns F m q)
    (some : (t : ℕ) → t < k → u t ≢ 0)
    (distinct : (t s : ℕ) → t < k → s < k → u t ≡ u s → t ≡ s)
    (known : (e : ℕ) → e < m → q e ≢ 0 → (place (q e) < k) × (u (place (q e)) ≡ q e)) where
  abbrev pub back : ℕ → ℕ
  back t = holder q m (u t)

  pub back_assigns : Assigns (λ t x. (0 < x) × (x ≤ m) × F (x - 1) (u t)) k back
  back_assigns = record {
    allowed = λ t l has.
        let at = holder_is q m (u t) has in
        let full : q (holder q m (u t) - 1) ≢ 0 = rw at.1 (some t l) in
        (omega (arith, has), omega (arith, at.0), rw at.1 at (assigns.allowed (holder q m (u t) - 1) at.0 full));
    apart = λ t s tl sl has same.
        let at = holder_is q m (u t) has in
        let has' : holder q m (u s) ≢ 0 = rw same at has in
        let at' = holder_is q m (u s) has' in
        distinct t s tl sl (sym at.1 ∙ ap (λ (x : ℕ). q (x - 1)) same ∙ at'.1);
  }

  pub back_count : count_below q m ≤ count_below back k
  back_count = count_injection q back (λ e. place (q e)) m k
      (λ e l has. let at = known e l has in (at.0, rw at.1 (holder_some q m (q e) e l refl)))
      (λ e f el fl se sf same.
      let at = known e el se in
      let at' = known f fl sf in
      assigns.apart e f el fl se (sym at.1 ∙ ap u same ∙ at'.1))

-- the name at the place before, or 0
abbrev pub name_before : (ℕ → ℕ) → ℕ → ℕ
name_before u h = if h == 0 then 0 else u (h - 1)

name_none : (u : ℕ → ℕ) (h : ℕ) → h ≡ 0 → name_before u h ≡ 0
name_none u h e = elim (eqb_tells h 0) [ inl z ↦ rw z.0 refl | inr z ↦ absurd (z.1 e) ]

pub name_some : (u : ℕ → ℕ) (h : ℕ) → h ≢ 0 → name_before u h ≡ u (h - 1)
name_some u h ne = elim (eqb_tells h 0) [ inl z ↦ absurd (ne z.1) | inr z ↦ rw z.0 refl ]

-- and the other way: p gives the first k places, which u names, numbers up to m
module _ (F : ℕ → ℕ → Type 0) (m k : ℕ) (p u : ℕ → ℕ) (assigns : Assigns (λ t x. (0 < x) × (x ≤ m) × F (x - 1) (u t)) k p)
    (some : (t : ℕ) → t < k → u t ≢ 0)
    (distinct : (t s : ℕ) → t < k → s < k → u t ≡ u s → t ≡ s) where
  abbrev pub forth : ℕ → ℕ
  forth e = name_before u (holder p k (suc e))

  forth_held : (e : ℕ) → forth e ≢ 0 → holder p k (suc e) ≢ 0
  forth_held e has none = has (name_none u (holder p k (suc e)) none)

  pub forth_assigns : Assigns F m forth
  forth_assigns = record {
    allowed = λ e l has.
        let held = forth_held e has in
        let at = holder_is p k (suc e) held in
        let full : p (holder p k (suc e) - 1) ≢ 0 = rw at.1 (omega arith) in
        let there = assigns.allowed (holder p k (suc e) - 1) at.0 full in
        let at_e : p (holder p k (suc e) - 1) - 1 ≡ e = omega (arith, at.1) in
        rw (name_some u (holder p k (suc e)) held) (rw at_e at there.2);
    apart = λ e f el fl has same.
        let held = forth_held e has in
        let held' = forth_held f (rw same at has) in
        let at = holder_is p k (suc e) held in
        let at' = holder_is p k (suc f) held' in
        let named : u (holder p k (suc e) - 1) ≡ u (holder p k (suc f) - 1) = sym (name_some u (holder p k (suc e)) held) ∙ same ∙ name_some u (holder p k (suc f)) held' in
        let one = distinct (holder p k (suc e) - 1) (holder p k (suc f) - 1) at.0 at'.0 named in
        let numbers : suc e ≡ suc f = sym at.1 ∙ ap p one ∙ at'.1 in
        omega arith;
  }

  forth_there : (t : ℕ) → t < k → p t ≢ 0 → forth (p t - 1) ≢ 0
  forth_there t l has =
      let is : suc (p t - 1) ≡ p t = omega (arith, has) in
      let held : holder p k (suc (p t - 1)) ≢ 0 = holder_some p k (suc (p t - 1)) t l (sym is) in
      let at = holder_is p k (suc (p t - 1)) held in
      rw (name_some u (holder p k (suc (p t - 1))) held) (some (holder p k (suc (p t - 1)) - 1) at.0)

  pub forth_count : count_below p k ≤ count_below forth m
  forth_count = count_injection p forth (λ t. p t - 1) k m
      (λ t l has. let there = assigns.allowed t l has in (omega (arith, there.0, there.1), forth_there t l has))
      (λ t s tl sl ht hs same. assigns.apart t s tl sl ht (omega (arith, ht, hs)))
