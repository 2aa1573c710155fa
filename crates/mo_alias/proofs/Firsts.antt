-- The first unknown of each tree, and the others.
use Rattle.std.proofs.Common.{◌≡◌, ℕ, zero, suc, ◌+◌, ◌<◌, ◌≤◌, Bool, false, inl, inr, List, [], ◌∷◌, ◌++◌, Option, Some, None, Contains, get_or, length, map, set, refl, sym, ap, ◌∙◌, subst, arith, get_or-set_same, get_or-set_other, length-set}
use Rattle.std.specs.Prelude.{◌⊎◌}
use Rattle.std.proofs.lemmas.Bool.{cases_eq, cases_lt}
use Rattle.std.proofs.lemmas.List.{get_or_default, get_or_past, map-append}
use Rattle.std.specs.List.Sorted.{IsStrictlyIncreasing}
use Rattle.mo_alias.specs.declared.alias.Alias.{Alias}
use Rattle.mo_alias.specs.declared.found.Gone.{Gone}
use Rattle.mo_alias.specs.declared.trees.Trees.{Trees}
use Rattle.mo_alias.specs.Aliases.{AreGone, IsGone}
use Rattle.mo_alias.specs.steps.Climbing.{top}
use Rattle.mo_alias.specs.steps.Forests.{AreRooted, IsForest, minus_in, parent_in, Reaches, since_in}
use Rattle.mo_alias.specs.steps.Leasts.{AreFirst, AreGoneBelow, AreRoots, AreSplit, IsFirst, IsGoneFrom}
use Rattle.mo_alias.specs.Recognized.{sign_product}
use Rattle.mo_alias.proofs.Ascending.{ascend_none, ascend_put, contains_kept, contains_last, contains_put}
use Rattle.mo_alias.proofs.Climbing.{climbs_inside, climbs_one}
use Rattle.mo_alias.proofs.Growing.{reaches_never}
use Rattle.mo_alias.proofs.Marking.{joined_signed, one_root, root_joins}
use Rattle.mo_alias.proofs.Signs.{product_swap}

pub none_more : (firsts : List (Option (ℕ × Bool))) → ((r : ℕ) → get_or firsts r None ≡ None) → (r : ℕ) → get_or (firsts ++ None ∷ []) r None ≡ None
none_more [] none zero = refl
none_more [] none (suc r) = refl
none_more (x ∷ firsts) none zero = none 0
none_more (x ∷ firsts) none (suc r) = none_more firsts (λ k. none (suc k)) r

module _ (root : ℕ → ℕ) (sign : ℕ → Bool) where
  pub firsts_none : (firsts : List (Option (ℕ × Bool))) → ((r : ℕ) → get_or firsts r None ≡ None) → AreFirst root sign 0 firsts
  firsts_none firsts none r l = subst (λ o. IsFirst root sign 0 r o) (sym (none r)) (λ u less. absurd (omega (arith, less)))

  pub gone_none : (gone : List Gone) → gone ≡ [] → AreGoneBelow root sign 0 gone
  gone_none gone e = subst (λ (z : List Gone). AreGoneBelow root sign 0 z) (sym e) (record {
    ascending = ascend_none;
    below = λ u c. absurd (let l = c.1 in omega (arith, l));
    only = λ g c. absurd (let l = c.1 in omega (arith, l));
    all = λ u v less low same. absurd (omega (arith, low));
  })

  module _ (n r : ℕ) (minus : Bool) (here : root n ≡ r) (sign-here : sign n ≡ minus) where
    weak : (q : ℕ) → (q ≡ r → ⊥) → (o : Option (ℕ × Bool)) → IsFirst root sign n q o → IsFirst root sign (n + 1) q o
    weak q ne None h = λ u less e. elim (cases_eq u n) [
      | inl same ↦ ne (sym e ∙ ap root same ∙ here)
      | inr other ↦ h u (omega (arith, less, other)) e
    ]
    weak q ne (Some p) h = (
      omega (arith, h.0),
      h.1,
      h.2,
      λ u less e. elim (cases_eq u n) [
        | inl same ↦ absurd (ne (sym e ∙ ap root same ∙ here))
        | inr other ↦ h.3 u (omega (arith, less, other)) e
      ],
    )

    -- with the first of its tree
    module _ (firsts : List (Option (ℕ × Bool))) (inside : r < length firsts) (to : AreFirst root sign n firsts) (none : get_or firsts r None ≡ None) where
      pub alone : (u : ℕ) → u < n → root u ≡ r → ⊥
      alone = subst (λ o. IsFirst root sign n r o) none (to r inside)

      least : (u : ℕ) → u < n + 1 → root u ≡ r → n ≤ u
      least u less e = elim (cases_lt u n) [ inl small ↦ absurd (alone u small e) | inr high ↦ high ]

      put_at : (q : ℕ) → q < length firsts → (q ≡ r) ⊎ (q ≡ r → ⊥) → IsFirst root sign (n + 1) q (get_or (set firsts r (Some (n, minus))) q None)
      put_at q l (inl e) =
          let at : get_or (set firsts r (Some (n, minus))) q None ≡ Some (n, minus) = rw e (get_or-set_same firsts r (Some (n, minus)) None inside) in
          subst (λ o. IsFirst root sign (n + 1) q o) (sym at) (omega arith, here ∙ sym e, sign-here, λ u less f. least u less (f ∙ e))
      put_at q l (inr e) =
          let at : get_or (set firsts r (Some (n, minus))) q None ≡ get_or firsts q None = get_or-set_other firsts r q (Some (n, minus)) None e in
          subst (λ o. IsFirst root sign (n + 1) q o) (sym at) (weak q e (get_or firsts q None) (to q l))

      pub first_put : AreFirst root sign (n + 1) (set firsts r (Some (n, minus)))
      first_put q l = put_at q (let s = length-set firsts r (Some (n, minus)) in omega (arith, s, l)) (cases_eq q r)

      pub gone_skip : (gone : List Gone) → AreGoneBelow root sign n gone → AreGoneBelow root sign (n + 1) gone
      gone_skip gone g = record {
        ascending = g.ascending;
        below = λ u c. let h = g.below u c in omega (arith, h);
        only = g.only;
        all = λ u v less low same. elim (cases_eq u n) [
          | inl e ↦ absurd (alone v (omega (arith, less, e)) (sym same ∙ ap root e ∙ here))
          | inr e ↦ g.all u v less (omega (arith, low, e)) same
        ];
      }

    -- with another one of its tree
    module _ (firsts : List (Option (ℕ × Bool))) (inside : r < length firsts) (to : AreFirst root sign n firsts) (of : ℕ) (s : Bool) (some : get_or firsts r None ≡ Some (of, s)) where
      before : (of < n) × (root of ≡ r) × (sign of ≡ s) × ((u : ℕ) → u < n → root u ≡ r → of ≤ u)
      before = subst (λ o. IsFirst root sign n r o) some (to r inside)

      still : (u : ℕ) → u < n + 1 → root u ≡ r → of ≤ u
      still u less e = elim (cases_eq u n) [
        | inl same ↦ let b = before.0 in omega (arith, b, same)
        | inr other ↦ before.3 u (omega (arith, less, other)) e
      ]

      kept_at : (q : ℕ) → q < length firsts → (q ≡ r) ⊎ (q ≡ r → ⊥) → IsFirst root sign (n + 1) q (get_or firsts q None)
      kept_at q l (inl e) =
          subst (λ z. IsFirst root sign (n + 1) z (get_or firsts z None)) (sym e)
          (subst (λ o. IsFirst root sign (n + 1) r o) (sym some) (let b = before.0 in omega (arith, b), before.1, before.2, still))
      kept_at q l (inr e) = weak q e (get_or firsts q None) (to q l)

      pub first_kept : AreFirst root sign (n + 1) firsts
      first_kept q l = kept_at q l (cases_eq q r)

      module _ (gone : List Gone) (g : AreGoneBelow root sign n gone) (one : Gone) (number : one.unknown ≡ n) (its : one.of ≡ of) (product : one.minus ≡ sign_product s minus) where
        numbers : map (λ (z : Gone). z.unknown) (gone ++ one ∷ []) ≡ map (λ (z : Gone). z.unknown) gone ++ n ∷ []
        numbers = map-append (λ (z : Gone). z.unknown) gone (one ∷ []) ∙ ap (λ w. map (λ (z : Gone). z.unknown) gone ++ w ∷ []) number

        new_gone : IsGoneFrom root sign one
        new_gone = record {
          lesser = (let b = before.0 in omega (arith, b, number, its));
          together = ap root number ∙ here ∙ sym before.1 ∙ ap root (sym its);
          signs = product ∙ ap (λ w. sign_product w minus) (sym before.2) ∙ ap (sign_product (sign of)) (sym sign-here) ∙ product_swap (sign of) (sign n)
              ∙ ap (λ w. sign_product (sign w) (sign of)) (sym number) ∙ ap (λ w. sign_product (sign one.unknown) (sign w)) (sym its);
          least = λ v less same. let h = before.3 v (omega (arith, less, number)) (same ∙ ap root number ∙ here) in omega (arith, h, its);
        }

        only_by : (h : Gone) → Contains gone h ⊎ (one ≡ h) → IsGoneFrom root sign h
        only_by h (inl c) = g.only h c
        only_by h (inr e) = subst (λ w. IsGoneFrom root sign w) e new_gone

        below_by : (u : ℕ) → Contains (map (λ (z : Gone). z.unknown) gone) u ⊎ (n ≡ u) → u < n + 1
        below_by u (inl c) = let h = g.below u c in omega (arith, h)
        below_by u (inr e) = omega (arith, e)

        all_by : (u v : ℕ) → v < u → u < n + 1 → root u ≡ root v → (u ≡ n) ⊎ (u ≡ n → ⊥) → Contains (map (λ (z : Gone). z.unknown) gone ++ n ∷ []) u
        all_by u v less low same (inl e) = subst (λ w. Contains (map (λ (z : Gone). z.unknown) gone ++ n ∷ []) w) (sym e) (contains_last (map (λ (z : Gone). z.unknown) gone) n)
        all_by u v less low same (inr e) = contains_kept (map (λ (z : Gone). z.unknown) gone) n u (g.all u v less (omega (arith, low, e)) same)

        pub gone_put : AreGoneBelow root sign (n + 1) (gone ++ one ∷ [])
        gone_put = record {
          ascending = subst (λ w. IsStrictlyIncreasing w) (sym numbers) (ascend_put (map (λ (z : Gone). z.unknown) gone) n g.ascending g.below);
          below = λ u c. below_by u (contains_put (map (λ (z : Gone). z.unknown) gone) n u (subst (λ w. Contains w u) numbers c));
          only = λ h c. only_by h (contains_put gone one h c);
          all = λ u v less low same. subst (λ w. Contains w u) (sym numbers) (all_by u v less low same (cases_eq u n));
        }

-- ---- the turns of the loop

module _ (t : Trees) (n : ℕ) (firsts : List (Option (ℕ × Bool))) (gone : List Gone) (r : ℕ) (minus : Bool) (reached : Reaches t 18446744073709551615 n r minus) (inside : r < length firsts)
    (root : ℕ → ℕ) (sign : ℕ → Bool) (roots : AreRoots t root sign) (before : AreSplit root sign n firsts gone) where
  one_here : (root n ≡ r) × (sign n ≡ minus)
  one_here = climbs_one (parent_in t) (since_in t) (minus_in t) 18446744073709551615 n (root n) r (sign n) minus (roots n) reached

  pub turn_first : get_or firsts r None ≡ None → AreSplit root sign (n + 1) (set firsts r (Some (n, minus))) gone
  turn_first none =
      (first_put root sign n r minus one_here.0 one_here.1 firsts inside before.0 none, gone_skip root sign n r minus one_here.0 one_here.1 firsts inside before.0 none gone before.1)

  pub turn_gone : (of : ℕ) (s : Bool) → get_or firsts r None ≡ Some (of, s) → (one : Gone) → one.unknown ≡ n → one.of ≡ of → one.minus ≡ sign_product s minus → AreSplit root sign (n + 1) firsts (gone ++ one ∷ [])
  turn_gone of s some one number its product =
      (first_kept root sign n r minus one_here.0 one_here.1 firsts inside before.0 of s some, gone_put root sign n r minus one_here.0 one_here.1 firsts inside before.0 of s some gone before.1 one number its product)

-- ---- all of them

module _ (said : List (Option Alias)) (t : Trees) (forest : IsForest said t (length said)) where
  root_outside : (r : AreRooted said t (length said)) (u : ℕ) → length t.parent.items ≤ u → r.root u ≡ u
  root_outside r u l =
      let past : since_in t u ≡ 18446744073709551615 = get_or_past t.since.items u 18446744073709551615 (let s = forest.trees.since_size in omega (arith, s, l)) in
      let early = forest.early in
      (climbs_one (parent_in t) (since_in t) (minus_in t) (length said) u (r.root u) u (r.sign u) false (r.climbs u) (top (omega (arith, past, early)))).0

  root_inside : (r : AreRooted said t (length said)) (u : ℕ) → u < length t.parent.items → r.root u < length t.parent.items
  root_inside r u l = climbs_inside (parent_in t) (since_in t) (minus_in t) (length said) (length t.parent.items) forest.trees.inside u (r.root u) (r.sign u) l (r.climbs u)

  -- what is outside is alone
  inside_by : (r : AreRooted said t (length said)) (u v : ℕ) → v < u → r.root u ≡ r.root v → u < length t.parent.items
  inside_by r u v less same = elim (cases_lt u (length t.parent.items)) [
    | inl l ↦ l
    | inr l ↦ absurd (
        let ru = root_outside r u l in
        elim (cases_lt v (length t.parent.items)) [
          | inl k ↦ let rv = root_inside r v k in omega (arith, ru, rv, same, l)
          | inr k ↦ let rv = root_outside r v k in omega (arith, ru, rv, same, less)
        ])
  ]

  pub roots_now : (r : AreRooted said t (length said)) → AreRoots t r.root r.sign
  roots_now r u = reaches_never said t (length said) forest forest.early u (r.root u) (r.sign u) (r.climbs u)

  pub gone_all : (gone : List Gone) → ((root : ℕ → ℕ) (sign : ℕ → Bool) → AreRoots t root sign → AreGoneBelow root sign (length t.parent.items) gone) → AreGone said gone
  gone_all gone below =
      let r = forest.rooted (length said) (omega arith) in
      let g = below r.root r.sign (roots_now r) in
      record {
        ascending = g.ascending;
        only = λ z c. only_by r z (g.only z c);
        all = λ u v minus less j. let same = (one_root said (length said) r.root r.sign r.marked u v minus j).0 in g.all u v less (inside_by r u v less same) same;
      }
    where
      only_by : (r : AreRooted said t (length said)) (z : Gone) → IsGoneFrom r.root r.sign z → IsGone said z
      only_by r z h = record {
        lesser = h.lesser;
        joined = joined_signed said (length said) z.unknown z.of (sign_product (r.sign z.unknown) (r.sign z.of)) z.minus (sym h.signs) (root_joins said (length said) r.root r.sign r.marked z.unknown z.of h.together);
        least = λ v minus j. least_by v (sym (one_root said (length said) r.root r.sign r.marked z.unknown v minus j).0);
      }
        where
          least_by : (v : ℕ) → r.root v ≡ r.root z.unknown → z.of ≤ v
          least_by v same = elim (cases_lt v z.unknown) [
            | inl l ↦ h.least v l same
            | inr l ↦ let k = h.lesser in omega (arith, k, l)
          ]

pub first_read : (firsts : List (Option (ℕ × Bool))) (r : ℕ) (x o : Option (ℕ × Bool)) → x ≡ get_or firsts r x → x ≡ o → r < length firsts → get_or firsts r None ≡ o
first_read firsts r x o e is l = get_or_default firsts r None x l ∙ sym e ∙ is
