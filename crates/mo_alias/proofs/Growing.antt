-- The trees of one equation more.
use Rattle.std.proofs.Common.{◌≡◌, ℕ, suc, ◌+◌, ◌<◌, ◌≤◌, Bool, true, false, inl, inr, List, Option, Some, None, get_or, refl, sym, ap, ◌∙◌, subst, arith, true≢false}
use Rattle.std.specs.Prelude.{◌⊎◌, not}
use Rattle.std.proofs.lemmas.Bool.{cases_eq}
use Rattle.mo_alias.specs.declared.alias.Alias.{Alias}
use Rattle.mo_alias.specs.declared.trees.Trees.{Trees}
use Rattle.mo_alias.specs.Chains.{Agrees, Contradicts, IsJoined}
use Rattle.mo_alias.specs.steps.Forests.{AreRooted, IsForest, minus_in, parent_in, Reaches, since_in}
use Rattle.mo_alias.specs.steps.Marking.{IsMarked}
use Rattle.mo_alias.specs.Recognized.{sign_product}
use Rattle.mo_alias.proofs.Climbing.{climbs_between, climbs_one}
use Rattle.mo_alias.proofs.Marking.{joined_signed, marked_closed, marked_none, one_root, root_joins}

agrees_by : (a b : Bool) → sign_product a b ≡ false → a ≡ b
agrees_by false false e = refl
agrees_by false true e = absurd (true≢false e)
agrees_by true false e = absurd (true≢false e)
agrees_by true true e = refl

contradicts_by : (a b : Bool) → sign_product a b ≡ true → a ≡ not b
contradicts_by false false e = absurd (true≢false (sym e))
contradicts_by false true e = refl
contradicts_by true false e = refl
contradicts_by true true e = absurd (true≢false (sym e))

module _ (said : List (Option Alias)) (t : Trees) (n : ℕ) (forest : IsForest said t n) where
  pub no_later : (u : ℕ) → n ≤ since_in t u → 18446744073709551615 ≤ since_in t u
  no_later u l = elim (low_or u) [ inl less ↦ absurd (let b = forest.before u less in omega (arith, b, l)) | inr high ↦ high ]
    where
      low_or : (u : ℕ) → (since_in t u < 18446744073709551615) ⊎ (18446744073709551615 ≤ since_in t u)
      low_or u = by (cases_eq (since_in t u) 18446744073709551615) (forest.trees.low u)
        where
          by : (since_in t u ≡ 18446744073709551615) ⊎ (since_in t u ≡ 18446744073709551615 → ⊥) → since_in t u ≤ 18446744073709551615 → (since_in t u < 18446744073709551615) ⊎ (18446744073709551615 ≤ since_in t u)
          by (inl e) l = inr (omega (arith, e))
          by (inr e) l = inl (omega (arith, e, l))

  -- the roots of the first n equations are those of all
  pub reaches_now : n ≤ 18446744073709551615 → (u r : ℕ) (s : Bool) → Reaches t 18446744073709551615 u r s → Reaches t n u r s
  reaches_now early = climbs_between (parent_in t) (since_in t) (minus_in t) 18446744073709551615 n forest.before (λ u l. omega (arith, l, early))

  pub reaches_never : n ≤ 18446744073709551615 → (u r : ℕ) (s : Bool) → Reaches t n u r s → Reaches t 18446744073709551615 u r s
  reaches_never early = climbs_between (parent_in t) (since_in t) (minus_in t) n 18446744073709551615 (λ u l. omega (arith, l, early)) no_later

  -- nothing was put
  next_roots : (at : ℕ) → at ≤ n → suc n ≤ 18446744073709551615 → (u r : ℕ) (s : Bool) → Reaches t n u r s → Reaches t (suc n) u r s
  next_roots at l early = climbs_between (parent_in t) (since_in t) (minus_in t) n (suc n) (λ u less. omega (arith, less)) (λ u more. let h = no_later u more in omega (arith, h, early))

  module _ (early : n < 18446744073709551615) where
    -- with an equation that is no link
    pub forest_same : ((root : ℕ → ℕ) (sign : ℕ → Bool) → IsMarked said n root sign → IsMarked said (suc n) root sign) → IsForest said t (suc n)
    forest_same more = record {
      early = omega (arith, early);
      trees = forest.trees;
      once = forest.once;
      before = λ u l. let b = forest.before u l in omega (arith, b);
      linked = forest.linked;
      rooted = rooted_to;
    }
      where
        rooted_to : (at : ℕ) → at ≤ suc n → AreRooted said t at
        rooted_to at l = by (cases_eq at (suc n))
          where
            last : AreRooted said t (suc n)
            last =
                let r = forest.rooted n (omega arith) in
                record {
                  root = r.root;
                  sign = r.sign;
                  marked = more r.root r.sign r.marked;
                  climbs = λ u. next_roots n (omega arith) (omega (arith, early)) u (r.root u) (r.sign u) (r.climbs u);
                }

            by : (at ≡ suc n) ⊎ (at ≡ suc n → ⊥) → AreRooted said t at
            by (inl e) = subst (λ w. AreRooted said t w) (sym e) last
            by (inr e) = forest.rooted at (omega (arith, e, l))

    pub forest_none : get_or said n None ≡ None → IsForest said t (suc n)
    forest_none is = forest_same (λ root sign marked. marked_none said n root sign marked is)

    pub forest_none_next : get_or said n None ≡ None → IsForest said t (n + 1)
    forest_none_next is = let e : suc n ≡ n + 1 = omega arith in subst (λ w. IsForest said t w) e (forest_none is)

    -- unknowns with their roots
    module _ (a : Alias) (is : get_or said n None ≡ Some a) (one other : ℕ) (s z : Bool) (there : Reaches t 18446744073709551615 a.left one s) (here : Reaches t 18446744073709551615 a.right other z) where
      pub root_left : (r : AreRooted said t n) → (r.root a.left ≡ one) × (r.sign a.left ≡ s)
      root_left r = climbs_one (parent_in t) (since_in t) (minus_in t) n a.left (r.root a.left) one (r.sign a.left) s (r.climbs a.left) (reaches_now (omega (arith, early)) a.left one s there)

      pub root_right : (r : AreRooted said t n) → (r.root a.right ≡ other) × (r.sign a.right ≡ z)
      root_right r = climbs_one (parent_in t) (since_in t) (minus_in t) n a.right (r.root a.right) other (r.sign a.right) z (r.climbs a.right) (reaches_now (omega (arith, early)) a.right other z here)

      pub closed_chain : one ≡ other → IsJoined said n a.left a.right (sign_product s z)
      closed_chain same =
          let r = forest.rooted n (omega arith) in
          let l = root_left r in
          let k = root_right r in
          joined_signed said n a.left a.right (sign_product (r.sign a.left) (r.sign a.right)) (sign_product s z) (ap (λ x. sign_product x (r.sign a.right)) l.1 ∙ ap (sign_product s) k.1)
          (root_joins said n r.root r.sign r.marked a.left a.right (l.0 ∙ same ∙ sym k.0))

      pub forest_closed : one ≡ other → IsForest said t (suc n)
      forest_closed same = forest_same (λ root sign marked. marked_closed said n root sign marked a is (one_root said n root sign marked a.left a.right (sign_product s z) (closed_chain same)).0)

      pub forest_closed_next : one ≡ other → IsForest said t (n + 1)
      forest_closed_next same = let e : suc n ≡ n + 1 = omega arith in subst (λ w. IsForest said t w) e (forest_closed same)

      pub closed_agrees : one ≡ other → sign_product (sign_product s z) a.minus ≡ false → Agrees said n
      closed_agrees same e = record { alias = a; is = is; chain = joined_signed said n a.left a.right (sign_product s z) a.minus (agrees_by (sign_product s z) a.minus e) (closed_chain same) }

      pub closed_contradicts : one ≡ other → sign_product (sign_product s z) a.minus ≡ true → Contradicts said n
      closed_contradicts same e = record { alias = a; is = is; chain = joined_signed said n a.left a.right (sign_product s z) (not a.minus) (contradicts_by (sign_product s z) a.minus e) (closed_chain same) }
