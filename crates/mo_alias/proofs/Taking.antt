-- The members of a set, taken from it one after another.
use Rattle.std.proofs.Common.{◌≡◌, ℕ, ◌<◌, false, inl, inr, List, [], ◌∷◌, ◌++◌, Contains, sym, arith, subst}
use Rattle.std.specs.Prelude.{◌⊎◌, IsTrue}
use Rattle.std.proofs.lemmas.Bool.{cases_eq}
use Rattle.std.specs.BTreeSet.{BTreeSet, contains, IsEmpty, IsLowerBound, Updates}
use Rattle.std.specs.Ordering.{nat_cmp}
use Rattle.mo_graph.specs.steps.Placing.{Has}
use Rattle.mo_graph.proofs.Ready.{has_least, has_member, has_none, has_rest, has_still}
use Rattle.mo_alias.specs.steps.Listing.{IsListedTo}
use Rattle.mo_alias.proofs.Ascending.{ascend_none, ascend_put, contains_kept, contains_last, contains_put}

pub listed_init : (set : BTreeSet ℕ) → IsListedTo set set []
listed_init set = record {
  ascending = ascend_none;
  below = λ x y c h. absurd (let l = c.1 in omega (arith, l));
  kept = λ x h. inr h;
  only = λ x h. out x h;
}
  where
    out : (x : ℕ) → Contains [] x ⊎ Has set x → Has set x
    out x (inl c) = absurd (let l = c.1 in omega (arith, l))
    out x (inr h) = h

module _ (set left next : BTreeSet ℕ) (made : List ℕ) (k : ℕ) (to : IsListedTo set left made) (member : IsTrue (contains nat_cmp left k)) (least : IsLowerBound nat_cmp left k)
    (updates : Updates nat_cmp left next k false) where
  pub listed_next : IsListedTo set next (made ++ k ∷ [])
  listed_next = record {
    ascending = ascend_put made k to.ascending (λ y c. to.below y k c (has_member left k member));
    below = λ x y c h. low x y (contains_put made k x c) (has_rest left next k updates y h);
    kept = λ x h. stays x (to.kept x h);
    only = λ x h. back x h;
  }
    where
      low : (x y : ℕ) → Contains made x ⊎ (k ≡ x) → Has left y × (y ≡ k → ⊥) → x < y
      low x y (inl c) (h, ne) = to.below x y c h
      low x y (inr e) (h, ne) = let l = has_least left k least y h in omega (arith, e, l, ne)

      stays : (x : ℕ) → Contains made x ⊎ Has left x → Contains (made ++ k ∷ []) x ⊎ Has next x
      stays x (inl c) = inl (contains_kept made k x c)
      stays x (inr h) = elim (cases_eq x k) [
        | inl e ↦ inl (subst (λ w. Contains (made ++ k ∷ []) w) (sym e) (contains_last made k))
        | inr e ↦ inr (has_still left next k updates x h e)
      ]

      before : (x : ℕ) → Contains made x ⊎ (k ≡ x) → Has set x
      before x (inl c) = to.only x (inl c)
      before x (inr e) = to.only x (inr (subst (λ w. Has left w) e (has_member left k member)))

      back : (x : ℕ) → Contains (made ++ k ∷ []) x ⊎ Has next x → Has set x
      back x (inl c) = before x (contains_put made k x c)
      back x (inr h) = to.only x (inr (has_rest left next k updates x h).0)

pub listed_done : (set left : BTreeSet ℕ) (made : List ℕ) → IsListedTo set left made → IsEmpty left → (x : ℕ) → (Has set x → Contains made x) × (Contains made x → Has set x)
listed_done set left made to none x = (λ h. out (to.kept x h), λ c. to.only x (inl c))
  where
    out : Contains made x ⊎ Has left x → Contains made x
    out (inl c) = c
    out (inr h) = absurd (has_none left x none h)
