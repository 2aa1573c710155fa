-- Each equation that the search reaches is left out by an assignment of as many equations.
use Rattle.std.proofs.Common.{◌≡◌, ◌≢◌, ℕ, zero, suc, ◌<◌, inl, inr, List, get_or, refl, sym, ◌∙◌, arith}
use Rattle.std.proofs.lemmas.Bool.Decides.{eqb_tells}
use Rattle.mo_incidence.specs.Counting.{count_below}
use Rattle.mo_incidence.specs.Assignment.{Assigns}
use Rattle.mo_incidence.proofs.Counting.{changed, changed_same, changed_other, without, without_same, without_other, count_without, count_same}
use Rattle.mo_match.specs.Searching.{IsTree}

-- equation y, which has none, gets the unknown j of equation x
module _ (E : ℕ → ℕ → Type 0) (m : ℕ) (f : ℕ → ℕ) (assigns : Assigns E m f) (x y j : ℕ) (xm : x < m) (ym : y < m) (apart : x ≢ y)
    (has : f x ≡ j) (some : j ≢ 0) (none : f y ≡ 0) (allowed : E y j) where
  abbrev pub handed : ℕ → ℕ
  handed = changed (changed f x 0) y j

  handed_to : handed y ≡ j
  handed_to = changed_same (changed f x 0) y j

  pub handed_from : handed x ≡ 0
  handed_from = changed_other (changed f x 0) y j x apart ∙ changed_same f x 0

  pub handed_other : (i : ℕ) → i ≢ x → i ≢ y → handed i ≡ f i
  handed_other i nx ny = changed_other (changed f x 0) y j i ny ∙ changed_other f x 0 i nx

  held_by_x : (i : ℕ) → i < m → f i ≡ j → i ≡ x
  held_by_x i l e = assigns.apart i x l xm (rw e some) (e ∙ sym has)

  pub handed_assigns : Assigns E m handed
  handed_assigns = record {
    allowed = λ i l. elim (eqb_tells i y) [
      | inl e ↦ rw (e.1, handed_to) (λ _. allowed)
      | inr e ↦ elim (eqb_tells i x) [
        | inl e' ↦ rw (e'.1, handed_from) (λ bad. absurd (bad refl))
        | inr e' ↦ rw (handed_other i e'.1 e.1) (assigns.allowed i l)
      ]
    ];
    apart = λ i k il kl si same. elim (eqb_tells i y) [
      | inl e ↦ elim (eqb_tells k y) [
        | inl e' ↦ e.1 ∙ sym e'.1
        | inr e' ↦ elim (eqb_tells k x) [
          | inl z ↦ absurd (si (same ∙ rw z.1 handed_from))
          | inr z ↦ absurd (z.1 (held_by_x k kl (sym (handed_other k z.1 e'.1) ∙ sym same ∙ rw e.1 handed_to)))
        ]
      ]
      | inr e ↦ elim (eqb_tells i x) [
        | inl z ↦ absurd (si (rw z.1 handed_from))
        | inr z ↦ elim (eqb_tells k y) [
          | inl e' ↦ absurd (z.1 (held_by_x i il (sym (handed_other i z.1 e.1) ∙ same ∙ rw e'.1 handed_to)))
          | inr e' ↦ elim (eqb_tells k x) [
            | inl z' ↦ absurd (si (same ∙ rw z'.1 handed_from))
            | inr z' ↦ assigns.apart i k il kl (rw (handed_other i z.1 e.1) at si) (sym (handed_other i z.1 e.1) ∙ same ∙ handed_other k z'.1 e'.1)
          ]
        ]
      ]
    ];
  }

  pub handed_count : count_below handed m ≡ count_below f m
  handed_count =
      let one : count_below f m ≡ suc (count_below (without f x) m) = count_without f x m xm (rw has some) in
      let two : count_below handed m ≡ suc (count_below (without handed y) m) = count_without handed y m ym (rw handed_to some) in
      let same : count_below (without handed y) m ≡ count_below (without f x) m = count_same (without handed y) (without f x) m
      (λ i l. elim (eqb_tells i y) [
        | inl e ↦ let ne : y ≢ x = omega (arith, apart) in rw (e.1, without_same handed y, without_other f x y ne) (sym none)
        | inr e ↦ elim (eqb_tells i x) [
          | inl z ↦ rw z.1 (without_other handed y x apart ∙ handed_from ∙ sym (without_same f x))
          | inr z ↦ without_other handed y i e.1 ∙ handed_other i z.1 e.1 ∙ sym (without_other f x i z.1)
        ]
      ]) in
      omega arith

module _ (E : ℕ → ℕ → Type 0) (m : ℕ) (p q par mk : List ℕ) (b t : ℕ) (tree : IsTree E m p q par mk b t)
    (assigns : Assigns E m (λ i. get_or p i 0)) where
  record LeavesOut (s : ℕ) (f : ℕ → ℕ) : Type 0 where
    pub is : Assigns E m f
    pub count : count_below f m ≡ count_below (λ i. get_or p i 0) m
    pub out : f (get_or q s 0) ≡ 0
    pub later : (v : ℕ) → s < v → v < t → f (get_or q v 0) ≡ get_or p (get_or q v 0) 0

  left_out_below : (n s : ℕ) → s < n → s < t → (f : ℕ → ℕ) × LeavesOut s f
  left_out_below zero s sn st = absurd (omega arith)
  left_out_below (suc n) s sn st = elim (eqb_tells (get_or p (get_or q s 0) 0) 0) [
    | inl e ↦ (λ i. get_or p i 0, record { is = assigns; count = refl; out = e.1; later = λ v _ _. refl })
    | inr e ↦
        let link = tree.linked s st e.1 in
        let u = get_or par s 0 in
        let before = left_out_below n u (omega (arith, link.0)) (omega (arith, link.0)) in
        let x = get_or q s 0 in
        let y = get_or q u 0 in
        let j = get_or p x 0 in
        let ne : x ≢ y = λ same. let is : s ≡ u = tree.apart s u st (omega (arith, link.0)) same in omega (arith, link.0) in
        let has : before.0 x ≡ j = before.1.later s link.0 st in
        let xm : x < m = tree.in_range s st in
        let ym : y < m = tree.in_range u (omega (arith, link.0)) in (
          handed E m before.0 before.1.is x y j xm ym ne has e.1 before.1.out link.1,
          record {
            is = handed_assigns E m before.0 before.1.is x y j xm ym ne has e.1 before.1.out link.1;
            count = handed_count E m before.0 before.1.is x y j xm ym ne has e.1 before.1.out link.1 ∙ before.1.count;
            out = handed_from E m before.0 before.1.is x y j xm ym ne has e.1 before.1.out link.1;
            later = λ v sv vt.
                let nx : get_or q v 0 ≢ x = λ same. let is : v ≡ s = tree.apart v s vt st same in omega arith in
                let ny : get_or q v 0 ≢ y = λ same. let is : v ≡ u = tree.apart v u vt (omega (arith, link.0)) same in omega (arith, link.0) in
                handed_other E m before.0 before.1.is x y j xm ym ne has e.1 before.1.out link.1 (get_or q v 0) nx ny ∙ before.1.later v (omega (arith, link.0)) vt;
          },
        )
  ]

  pub left_out : (s : ℕ) → s < t → (f : ℕ → ℕ) × Assigns E m f × (count_below f m ≡ count_below (λ i. get_or p i 0) m) × (f (get_or q s 0) ≡ 0)
  left_out s l = let found = left_out_below (suc s) s (omega arith) l in (found.0, found.1.is, found.1.count, found.1.out)
