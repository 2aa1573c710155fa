-- The trees with a link more.
use Rattle.std.proofs.Common.{◌≡◌, ℕ, suc, ◌+◌, ◌<◌, ◌≤◌, Bool, true, false, inl, inr, List, Option, Some, None, get_or, length, refl, sym, ap, ◌∙◌, subst, arith}
use Rattle.std.specs.Prelude.{◌⊎◌}
use Rattle.std.proofs.lemmas.Bool.{cases_eq}
use Rattle.mo_alias.specs.declared.alias.Alias.{Alias}
use Rattle.mo_alias.specs.declared.trees.Trees.{Trees}
use Rattle.mo_alias.specs.Chains.{IsLink, Says, forth, back}
use Rattle.mo_alias.specs.steps.Climbing.{top, up}
use Rattle.mo_alias.specs.steps.Forests.{AreRooted, ends_in, IsForest, IsLinked, IsPut, minus_in, parent_in, Reaches, since_in}
use Rattle.mo_alias.specs.Recognized.{sign_product}
use Rattle.mo_alias.proofs.Climbing.{climbs_kept, climbs_on, climbs_one, climbs_still, climbs_top}
use Rattle.mo_alias.proofs.Growing.{no_later, reaches_now}
use Rattle.mo_alias.proofs.Linking.{fresh, marked_link, root_after, root_in, root_out, sign_after, sign_in, sign_out}
use Rattle.mo_alias.proofs.Putting.{before_new, ends_at, ends_other, linked_by, minus_at, once_new, others, parent_at, since_at, size_same, trees_new}
use Rattle.mo_alias.proofs.Signs.{product_swap}

-- the sign between two roots, seen from below both
pub between_roots : (a b c d : Bool) → sign_product a (sign_product (sign_product (sign_product b c) d) false) ≡ sign_product a (sign_product b (sign_product d c))
between_roots false false false false = refl
between_roots false false false true = refl
between_roots false false true false = refl
between_roots false false true true = refl
between_roots false true false false = refl
between_roots false true false true = refl
between_roots false true true false = refl
between_roots false true true true = refl
between_roots true false false false = refl
between_roots true false false true = refl
between_roots true false true false = refl
between_roots true false true true = refl
between_roots true true false false = refl
between_roots true true false true = refl
between_roots true true true false = refl
between_roots true true true true = refl

module _ (said : List (Option Alias)) (t new : Trees) (n : ℕ) (forest : IsForest said t n) (early : n < 18446744073709551615) (low high : ℕ) (minus : Bool) (near far : ℕ)
    (put : IsPut t new low high minus n near far) (inside : low < length t.parent.items) (within : high < length t.parent.items) (apart : low ≡ high → ⊥)
    (m s z : Bool) (says : Says said n near far m) (there : Reaches t 18446744073709551615 near low s) (here : Reaches t 18446744073709551615 far high z)
    (sign : minus ≡ sign_product (sign_product s z) m) where
  low_root : 18446744073709551615 ≤ since_in t low
  low_root = climbs_top (parent_in t) (since_in t) (minus_in t) 18446744073709551615 near low s there

  high_root : 18446744073709551615 ≤ since_in t high
  high_root = climbs_top (parent_in t) (since_in t) (minus_in t) 18446744073709551615 far high z here

  since_new : since_in new low ≡ n
  since_new = since_at t new low high minus n near far put forest.trees inside

  same : (u : ℕ) → (u ≡ low → ⊥) → (parent_in new u ≡ parent_in t u) × (since_in new u ≡ since_in t u) × (minus_in new u ≡ minus_in t u)
  same = others t new low high minus n near far put forest.trees inside

  -- what was reached before is still reached then
  kept : (at : ℕ) → at ≤ n → (u r : ℕ) (w : Bool) → Reaches t at u r w → Reaches new at u r w
  kept at l u r w c =
      climbs_kept (parent_in t) (since_in t) (minus_in t) (parent_in new) (since_in new) (minus_in new) low at (omega (arith, l, low_root, early)) (omega (arith, l, since_new)) same u r w c

  near_low : Reaches t n near low s
  near_low = reaches_now said t n forest (omega (arith, early)) near low s there

  far_high : Reaches t n far high z
  far_high = reaches_now said t n forest (omega (arith, early)) far high z here

  module _ (r : AreRooted said t n) where
    near_root : (r.root near ≡ low) × (r.sign near ≡ s)
    near_root = climbs_one (parent_in t) (since_in t) (minus_in t) n near (r.root near) low (r.sign near) s (r.climbs near) near_low

    far_root : (r.root far ≡ high) × (r.sign far ≡ z)
    far_root = climbs_one (parent_in t) (since_in t) (minus_in t) n far (r.root far) high (r.sign far) z (r.climbs far) far_high

    roots_apart : r.root far ≡ r.root near → ⊥
    roots_apart e = apart (sym near_root.0 ∙ sym e ∙ far_root.0)

    pub new_link : IsLink said n
    new_link = fresh said n r.root r.sign r.marked near far m says roots_apart

    high_still : suc n ≤ since_in new high
    high_still = let h = same high (λ e. apart (sym e)) in omega (arith, h.1, high_root, early)

    turned_sign : minus_in new low ≡ sign_product (sign_product (r.sign near) (r.sign far)) m
    turned_sign =
        minus_at t new low high minus n near far put forest.trees inside ∙ sign
        ∙ ap (λ w. sign_product (sign_product w z) m) (sym near_root.1) ∙ ap (λ w. sign_product (sign_product (r.sign near) w) m) (sym far_root.1)

    -- from the root that was put below
    low_climbs : Reaches new (suc n) low high (sign_product (minus_in new low) false)
    low_climbs = up (omega (arith, since_new)) (subst (λ p. Reaches new (suc n) p high false) (sym (parent_at t new low high minus n near far put forest.trees inside)) (top high_still))

    moved_climbs : (u : ℕ) → r.root u ≡ r.root near → Reaches new (suc n) u (r.root far) (sign_product (r.sign u) (sign_product (r.sign near) (sign_product m (r.sign far))))
    moved_climbs u e =
        let way : Reaches new n u low (r.sign u) = kept n (omega arith) u low (r.sign u) (subst (λ w. Reaches t n u w (r.sign u)) (e ∙ near_root.0) (r.climbs u)) in
        let on : Reaches new (suc n) u high (sign_product (r.sign u) (sign_product (minus_in new low) false)) =
        climbs_on (parent_in new) (since_in new) (minus_in new) n (suc n) (omega arith) u low high (r.sign u) (sign_product (minus_in new low) false) way low_climbs in
        subst (λ w. Reaches new (suc n) u w (sign_product (r.sign u) (sign_product (r.sign near) (sign_product m (r.sign far))))) (sym far_root.0)
        (subst (λ w. Reaches new (suc n) u high w) (ap (λ w. sign_product (r.sign u) (sign_product w false)) turned_sign ∙ between_roots (r.sign u) (r.sign near) (r.sign far) m) on)

    stayed_climbs : (u : ℕ) → (r.root u ≡ r.root near → ⊥) → Reaches new (suc n) u (r.root u) (r.sign u)
    stayed_climbs u e =
        let ne : r.root u ≡ low → ⊥ = λ f. e (f ∙ sym near_root.0) in
        let h = same (r.root u) ne in
        let root : n ≤ since_in t (r.root u) = climbs_top (parent_in t) (since_in t) (minus_in t) n u (r.root u) (r.sign u) (r.climbs u) in
        let never : 18446744073709551615 ≤ since_in t (r.root u) = no_later said t n forest (r.root u) root in
        climbs_still (parent_in new) (since_in new) (minus_in new) n (suc n) (omega arith) u (r.root u) (r.sign u) (omega (arith, h.1, never, early)) (kept n (omega arith) u (r.root u) (r.sign u) (r.climbs u))

    after_climbs : (u : ℕ) → Reaches new (suc n) u (root_after said n r.root r.sign r.marked near far m says roots_apart u) (sign_after said n r.root r.sign r.marked near far m says roots_apart u)
    after_climbs u = elim (cases_eq (r.root u) (r.root near)) [
      | inl e ↦
          subst (λ w. Reaches new (suc n) u w (sign_after said n r.root r.sign r.marked near far m says roots_apart u)) (sym (root_in said n r.root r.sign r.marked near far m says roots_apart u e))
          (subst (λ w. Reaches new (suc n) u (r.root far) w) (sym (sign_in said n r.root r.sign r.marked near far m says roots_apart u e)) (moved_climbs u e))
      | inr e ↦
          subst (λ w. Reaches new (suc n) u w (sign_after said n r.root r.sign r.marked near far m says roots_apart u)) (sym (root_out said n r.root r.sign r.marked near far m says roots_apart u e))
          (subst (λ w. Reaches new (suc n) u (r.root u) w) (sym (sign_out said n r.root r.sign r.marked near far m says roots_apart u e)) (stayed_climbs u e))
    ]

    pub rooted_after : AreRooted said new (suc n)
    rooted_after = record {
      root = root_after said n r.root r.sign r.marked near far m says roots_apart;
      sign = sign_after said n r.root r.sign r.marked near far m says roots_apart;
      marked = marked_link said n r.root r.sign r.marked near far m says roots_apart;
      climbs = after_climbs;
    }

  rooted_before : (at : ℕ) → at ≤ n → AreRooted said t at → AreRooted said new at
  rooted_before at l r = record { root = r.root; sign = r.sign; marked = r.marked; climbs = λ u. kept at l u (r.root u) (r.sign u) (r.climbs u) }

  rooted_to : (at : ℕ) → at ≤ suc n → AreRooted said new at
  rooted_to at l = elim (cases_eq at (suc n)) [
    | inl e ↦ subst (λ w. AreRooted said new w) (sym e) (rooted_after (forest.rooted n (omega arith)))
    | inr e ↦ let small : at ≤ n = omega (arith, e, l) in rooted_before at small (forest.rooted at small)
  ]

  linked_to : (u : ℕ) → since_in new u < 18446744073709551615 → IsLinked said new u
  linked_to u l = elim (cases_eq u low) [
    | inl e ↦
        subst (λ w. IsLinked said new w) (sym e)
        (linked_by said new low n near far high m s z since_new (ends_at t new low high minus n near far put forest.trees inside) (parent_at t new low high minus n near far put forest.trees inside)
        (new_link (forest.rooted n (omega arith))) says (kept n (omega arith) near low s near_low) (kept n (omega arith) far high z far_high))
    | inr e ↦
        let h = same u e in
        let less : since_in t u < 18446744073709551615 = omega (arith, h.1, l) in
        let k = forest.linked u less in
        let b = forest.before u less in
        linked_by said new u (since_in t u) (ends_in t u).0 (ends_in t u).1 (parent_in t u) k.minus k.sign k.other_sign h.1 (ends_other t new low high minus n near far put forest.trees inside u e) h.0
        k.link k.says (kept (since_in t u) (omega (arith, b)) (ends_in t u).0 u k.sign k.near) (kept (since_in t u) (omega (arith, b)) (ends_in t u).1 (parent_in t u) k.other_sign k.far)
  ]

  pub forest_link : IsForest said new (suc n)
  forest_link = record {
    early = omega (arith, early);
    trees = trees_new t new low high minus n near far put forest.trees inside early low_root high_root (λ e. apart (sym e)) within forest.before;
    once = once_new t new low high minus n near far put forest.trees inside early low_root high_root (λ e. apart (sym e)) within forest.before forest.once;
    before = before_new t new low high minus n near far put forest.trees inside early low_root high_root (λ e. apart (sym e)) within forest.before;
    linked = linked_to;
    rooted = rooted_to;
  }

-- a link between two roots, put either way
module _ (said : List (Option Alias)) (t new : Trees) (n : ℕ) (forest : IsForest said t n) (early : n < 18446744073709551615) (a : Alias) (is : get_or said n None ≡ Some a)
    (one other : ℕ) (s z minus : Bool) (there : Reaches t 18446744073709551615 a.left one s) (here : Reaches t 18446744073709551615 a.right other z)
    (inside : one < length t.parent.items) (within : other < length t.parent.items) (apart : one ≡ other → ⊥) (sign : minus ≡ sign_product (sign_product s z) a.minus)
    (put : IsPut t new one other minus n a.left a.right ⊎ IsPut t new other one minus n a.right a.left) where
  pub join_forest : IsForest said new (n + 1)
  join_forest = let e : suc n ≡ n + 1 = omega arith in subst (λ w. IsForest said new w) e (by put)
    where
      by : IsPut t new one other minus n a.left a.right ⊎ IsPut t new other one minus n a.right a.left → IsForest said new (suc n)
      by (inl p) = forest_link said t new n forest early one other minus a.left a.right p inside within apart a.minus s z (forth a is refl refl refl) there here sign
      by (inr p) =
          forest_link said t new n forest early other one minus a.right a.left p within inside (λ e. apart (sym e)) a.minus z s (back a is refl refl refl) here there
          (sign ∙ ap (λ w. sign_product w a.minus) (product_swap s z))

  pub join_link : IsLink said n
  join_link = by put
    where
      by : IsPut t new one other minus n a.left a.right ⊎ IsPut t new other one minus n a.right a.left → IsLink said n
      by (inl p) = new_link said t new n forest early one other minus a.left a.right p inside within apart a.minus s z (forth a is refl refl refl) there here sign (forest.rooted n (omega arith))
      by (inr p) =
          new_link said t new n forest early other one minus a.right a.left p within inside (λ e. apart (sym e)) a.minus z s (back a is refl refl refl) here there
          (sign ∙ ap (λ w. sign_product w a.minus) (product_swap s z)) (forest.rooted n (omega arith))

  pub join_size : length new.parent.items ≡ length t.parent.items
  join_size = by put
    where
      by : IsPut t new one other minus n a.left a.right ⊎ IsPut t new other one minus n a.right a.left → length new.parent.items ≡ length t.parent.items
      by (inl p) = size_same t new one other minus n a.left a.right p forest.trees inside
      by (inr p) = size_same t new other one minus n a.right a.left p forest.trees within
