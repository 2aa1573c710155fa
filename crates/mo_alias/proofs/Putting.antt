-- What a link changes in the tables of trees.
use Rattle.std.proofs.Common.{◌≡◌, ℕ, suc, ◌<◌, ◌≤◌, Bool, false, inl, inr, List, Option, length, sym, ap, ◌∙◌, subst, arith, get_or-set_same, get_or-set_other, length-set}
use Rattle.std.proofs.lemmas.Bool.{cases_eq}
use Rattle.mo_alias.specs.declared.alias.Alias.{Alias}
use Rattle.mo_alias.specs.declared.trees.Trees.{Trees}
use Rattle.mo_alias.specs.Chains.{IsLink, Says}
use Rattle.mo_alias.specs.steps.Forests.{AreOnce, AreTrees, ends_in, IsLinked, IsPut, minus_in, parent_in, Reaches, since_in}

-- what is known of a link by its numbers
pub linked_by : (said : List (Option Alias)) (t : Trees) (u at near far above : ℕ) (minus sign other : Bool) → since_in t u ≡ at → ends_in t u ≡ (near, far) → parent_in t u ≡ above
    → IsLink said at → Says said at near far minus → Reaches t at near u sign → Reaches t at far above other → IsLinked said t u
linked_by said t u at near far above minus sign other e f g link says there here = record {
  link = subst (λ w. IsLink said w) (sym e) link;
  minus = minus;
  says = subst (λ w. Says said w (ends_in t u).0 (ends_in t u).1 minus) (sym e) (subst (λ w. Says said at w.0 w.1 minus) (sym f) says);
  sign = sign;
  near = subst (λ w. Reaches t w (ends_in t u).0 u sign) (sym e) (subst (λ w. Reaches t at w.0 u sign) (sym f) there);
  other_sign = other;
  far = subst (λ w. Reaches t w (ends_in t u).1 (parent_in t u) other) (sym e) (subst (λ w. Reaches t at w.1 (parent_in t u) other) (sym f) (subst (λ w. Reaches t at far w other) (sym g) here));
}

module _ (t new : Trees) (low high : ℕ) (minus : Bool) (at near far : ℕ) (put : IsPut t new low high minus at near far) (trees : AreTrees t) (inside : low < length t.parent.items) where
  pub parent_at : parent_in new low ≡ high
  parent_at = rw put.parents (get_or-set_same t.parent.items low high low inside)

  pub since_at : since_in new low ≡ at
  since_at = rw put.places (get_or-set_same t.since.items low at 18446744073709551615 (omega (arith, inside, trees.since_size)))

  pub minus_at : minus_in new low ≡ minus
  minus_at = rw put.signs (get_or-set_same t.minus.items low minus false (omega (arith, inside, trees.minus_size)))

  pub ends_at : ends_in new low ≡ (near, far)
  ends_at = rw put.sides (get_or-set_same t.ends.items low (near, far) (0, 0) (omega (arith, inside, trees.ends_size)))

  pub others : (u : ℕ) → (u ≡ low → ⊥) → (parent_in new u ≡ parent_in t u) × (since_in new u ≡ since_in t u) × (minus_in new u ≡ minus_in t u)
  others u ne = (
    rw put.parents (get_or-set_other t.parent.items low u high u ne),
    rw put.places (get_or-set_other t.since.items low u at 18446744073709551615 ne),
    rw put.signs (get_or-set_other t.minus.items low u minus false ne),
  )

  pub ends_other : (u : ℕ) → (u ≡ low → ⊥) → ends_in new u ≡ ends_in t u
  ends_other u ne = rw put.sides (get_or-set_other t.ends.items low u (near, far) (0, 0) ne)

  pub size_same : length new.parent.items ≡ length t.parent.items
  size_same = rw put.parents (length-set t.parent.items low high)

  module _ (early : at < 18446744073709551615) (root : 18446744073709551615 ≤ since_in t low) (above : 18446744073709551615 ≤ since_in t high) (apart : high ≡ low → ⊥) (within : high < length t.parent.items)
      (before : (u : ℕ) → since_in t u < 18446744073709551615 → since_in t u < at) where
    since_high : 18446744073709551615 ≤ since_in new high
    since_high = let h = others high apart in omega (arith, h.1, above)

    rises_new : (u : ℕ) → since_in new u < 18446744073709551615 → since_in new u < since_in new (parent_in new u)
    rises_new u l = elim (cases_eq u low) [
      | inl e ↦ rw e (let p = parent_at in let s = since_at in rw (p, s) (omega (arith, since_high, early)))
      | inr e ↦
          let h = others u e in
          let l' : since_in t u < 18446744073709551615 = omega (arith, h.1, l) in
          let up : since_in t u < since_in t (parent_in t u) = trees.rises u l' in
          let up' : since_in new u < since_in new (parent_in t u) = elim (cases_eq (parent_in t u) low) [
            | inl f ↦ rw (f, since_at) (let b = before u l' in omega (arith, h.1, b))
            | inr f ↦ let k = others (parent_in t u) f in omega (arith, h.1, k.1, up)
          ] in
          subst (λ w. since_in new u < since_in new w) (sym h.0) up'
    ]

    inside_new : (u : ℕ) → u < length new.parent.items → parent_in new u < length new.parent.items
    inside_new u l = elim (cases_eq u low) [
      | inl e ↦ rw e (let p = parent_at in omega (arith, p, size_same, within))
      | inr e ↦ let h = others u e in let i = trees.inside u (omega (arith, l, size_same)) in omega (arith, h.0, i, size_same)
    ]

    low_new : (u : ℕ) → since_in new u ≤ 18446744073709551615
    low_new u = elim (cases_eq u low) [
      | inl e ↦ rw e (let s = since_at in omega (arith, s, early))
      | inr e ↦ let h = others u e in let l = trees.low u in omega (arith, h.1, l)
    ]

    pub trees_new : AreTrees new
    trees_new = record {
      minus_size = ap length put.signs ∙ length-set t.minus.items low minus ∙ trees.minus_size ∙ sym size_same;
      since_size = ap length put.places ∙ length-set t.since.items low at ∙ trees.since_size ∙ sym size_same;
      ends_size = ap length put.sides ∙ length-set t.ends.items low (near, far) ∙ trees.ends_size ∙ sym size_same;
      height_size = put.heights ∙ trees.height_size ∙ sym size_same;
      inside = inside_new;
      rises = rises_new;
      low = low_new;
    }

    pub before_new : (u : ℕ) → since_in new u < 18446744073709551615 → since_in new u < suc at
    before_new u l = elim (cases_eq u low) [
      | inl e ↦ rw e (let s = since_at in omega (arith, s))
      | inr e ↦ let h = others u e in let b = before u (omega (arith, h.1, l)) in omega (arith, h.1, b)
    ]

    pub once_new : AreOnce t → AreOnce new
    once_new once u v l same = elim (cases_eq u low) [
      | inl e ↦ elim (cases_eq v low) [
        | inl f ↦ e ∙ sym f
        | inr f ↦ absurd (
            let h = others v f in
            let s = since_at in
            let is : since_in new u ≡ since_in new low = ap (since_in new) e in
            let b = before v (omega (arith, h.1, s, is, same, early)) in
            omega (arith, h.1, s, is, same, b))
      ]
      | inr e ↦ elim (cases_eq v low) [
        | inl f ↦ absurd (
            let h = others u e in
            let s = since_at in
            let is : since_in new v ≡ since_in new low = ap (since_in new) f in
            let b = before u (omega (arith, h.1, l)) in
            omega (arith, h.1, s, is, same, b))
        | inr f ↦ let h = others u e in let k = others v f in once u v (omega (arith, h.1, l)) (sym h.1 ∙ same ∙ k.1)
      ]
    ]
