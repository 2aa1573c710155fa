-- Chains that are split at their latest links.
use Rattle.std.proofs.Common.{◌≡◌, ℕ, zero, suc, ◌+◌, ◌<◌, Bool, inl, inr, List, [], ◌∷◌, ◌++◌, Option, Contains, get_or, length, refl, sym, ap, ◌∙◌, subst, arith}
use Rattle.std.specs.Prelude.{◌⊎◌}
use Rattle.std.proofs.lemmas.Bool.{cases_eq}
use Rattle.mo_alias.specs.declared.alias.Alias.{Alias}
use Rattle.mo_alias.specs.declared.chain.Stretch.{Stretch}
use Rattle.mo_alias.specs.Chains.{Chain, IsLinkBelow, IsLink, link, none, Says}
use Rattle.mo_alias.specs.steps.Marking.{IsMarked}
use Rattle.mo_alias.specs.steps.Stretches.{AreDistinct, IsStretch, weight, weight_of}
use Rattle.mo_alias.proofs.Chaining.{below_more, chain_append, chain_more}
use Rattle.mo_alias.specs.Recognized.{sign_product}
use Rattle.mo_alias.proofs.Linking.{one_saying}
use Rattle.mo_alias.proofs.Marking.{one_root}

-- ---- measures

pub weight_put : (waiting : List Stretch) (s : Stretch) → weight (waiting ++ s ∷ []) ≡ weight waiting + weight_of s.below
weight_put [] s = omega arith
weight_put (x ∷ waiting) s = let e = weight_put waiting s in omega (arith, e)

pub weight_some : (n : ℕ) → 0 < weight_of n
weight_some zero = omega arith
weight_some (suc n) = let h = weight_some n in omega (arith, h)

pub weight_less : (n k : ℕ) → n < k → weight_of n + weight_of n < weight_of k
weight_less n zero l = absurd (omega (arith, l))
weight_less n (suc k) l = elim (cases_eq n k) [
  | inl e ↦ let h = weight_some n in let f : weight_of n ≡ weight_of k = ap weight_of e in omega (arith, h, f)
  | inr e ↦ let h = weight_less n k (omega (arith, l, e)) in omega (arith, h)
]

-- ---- lists without a number twice

pub member_append : (xs ys : List ℕ) (x : ℕ) → Contains (xs ++ ys) x → Contains xs x ⊎ Contains ys x
member_append [] ys x h = inr h
member_append (y ∷ xs) ys x (zero, l, e) = inl (0, omega arith, e)
member_append (y ∷ xs) ys x (suc k, l, e) = by (member_append xs ys x (k, omega (arith, l), e))
  where
    by : Contains xs x ⊎ Contains ys x → Contains (y ∷ xs) x ⊎ Contains ys x
    by (inl (j, m, f)) = inl (suc j, omega (arith, m), f)
    by (inr h) = inr h

pub member_left : (xs ys : List ℕ) (x : ℕ) → Contains xs x → Contains (xs ++ ys) x
member_left [] ys x (k, l, e) = absurd (omega (arith, l))
member_left (y ∷ xs) ys x (zero, l, e) = (0, omega arith, e)
member_left (y ∷ xs) ys x (suc k, l, e) = let h = member_left xs ys x (k, omega (arith, l), e) in (suc h.0, omega (arith, h.1), h.2)

pub member_right : (xs ys : List ℕ) (x : ℕ) → Contains ys x → Contains (xs ++ ys) x
member_right [] ys x h = h
member_right (y ∷ xs) ys x h = let k = member_right xs ys x h in (suc k.0, omega (arith, k.1), k.2)

at_default : (ys : List ℕ) (i d e : ℕ) → i < length ys → get_or ys i e ≡ get_or ys i d
at_default [] i d e l = absurd (omega arith)
at_default (y ∷ ys) zero d e l = refl
at_default (y ∷ ys) (suc i) d e l = at_default ys i d e (omega arith)

member_at : (xs : List ℕ) (k : ℕ) → k < length xs → Contains xs (get_or xs k 0)
member_at xs k l = (k, l, at_default xs k 0 (get_or xs k 0) l)

pub distinct_none : AreDistinct []
distinct_none j k l m e = absurd (omega (arith, l))

pub distinct_more : (x : ℕ) (xs : List ℕ) → AreDistinct xs → (Contains xs x → ⊥) → AreDistinct (x ∷ xs)
distinct_more x xs d not zero zero l m e = refl
distinct_more x xs d not zero (suc k) l m e = absurd (not (subst (λ w. Contains xs w) (sym e) (member_at xs k (omega (arith, m)))))
distinct_more x xs d not (suc j) zero l m e = absurd (not (subst (λ w. Contains xs w) e (member_at xs j (omega (arith, l)))))
distinct_more x xs d not (suc j) (suc k) l m e = ap suc (d j k (omega (arith, l)) (omega (arith, m)) e)

pub distinct_tail : (x : ℕ) (xs : List ℕ) → AreDistinct (x ∷ xs) → AreDistinct xs
distinct_tail x xs d j k l m e = let h = d (suc j) (suc k) (omega (arith, l)) (omega (arith, m)) e in omega (arith, h)

pub distinct_head : (x : ℕ) (xs : List ℕ) → AreDistinct (x ∷ xs) → Contains xs x → ⊥
distinct_head x xs d (k, l, e) = let h = d zero (suc k) (omega arith) (omega (arith, l)) (sym e ∙ at_default xs k 0 x l) in omega (arith, h)

pub distinct_append : (xs ys : List ℕ) → AreDistinct xs → AreDistinct ys → ((x : ℕ) → Contains xs x → Contains ys x → ⊥) → AreDistinct (xs ++ ys)
distinct_append [] ys d e apart = e
distinct_append (x ∷ xs) ys d e apart =
    distinct_more x (xs ++ ys) (distinct_append xs ys (distinct_tail x xs d) e (λ z a b. apart z (let h : Contains (x ∷ xs) z = (suc a.0, omega (arith, a.1), a.2) in h) b))
    (λ h. out (member_append xs ys x h))
  where
    out : Contains xs x ⊎ Contains ys x → ⊥
    out (inl a) = distinct_head x xs d a
    out (inr b) = apart x (0, omega arith, refl) b

-- ---- chains and the numbers of their links

module _ (said : List (Option Alias)) where
  -- a link of a chain is one of its kind, and its ends have the chain's root
  pub chain_member : (P : ℕ → Type 0) (root : ℕ → ℕ) → ((e u v : ℕ) (minus : Bool) → P e → Says said e u v minus → root u ≡ root v)
      → (u v : ℕ) (minus : Bool) (es : List ℕ) → Chain said P u v minus es → (f : ℕ) → Contains es f → P f × ((x : ℕ) × (y : ℕ) × (m : Bool) × Says said f x y m × (root x ≡ root u))
  chain_member P root keeps u v minus es none f (k, l, e) = absurd (omega (arith, l))
  chain_member P root keeps u v minus es (link {v = w} {minus = m} {rest = r} {es = rs} g p s c) f (zero, l, e) =
      (subst P e p, (u, w, m, subst (λ z. Says said z u w m) e s, refl))
  chain_member P root keeps u v minus es (link {v = w} {minus = m} {rest = r} {es = rs} g p s c) f (suc k, l, e) =
      let h = chain_member P root keeps w v r rs c f (k, omega (arith, l), e) in
      (h.0, (h.1.0, h.1.1, h.1.2, h.1.3, h.1.4 ∙ sym (keeps g u w m p s)))

  pub below_less : (n e : ℕ) → IsLinkBelow said n e → e < n
  below_less zero e below = absurd below
  below_less (suc n) e (inl below) = let h = below_less n e below in omega (arith, h)
  below_less (suc n) e (inr at) = omega (arith, at.0)

  pub below_link : (n e : ℕ) → e < n → IsLink said e → IsLinkBelow said n e
  below_link n e l new = below_more said (suc e) n e (omega (arith, l)) (inr (refl, new))

  pub chain_low : (n u v : ℕ) (minus : Bool) (es : List ℕ) → Chain said (IsLinkBelow said n) u v minus es → (f : ℕ) → Contains es f → f < n
  chain_low n u v minus es none f (k, l, e) = absurd (omega (arith, l))
  chain_low n u v minus es (link {v = w} {minus = m} {rest = r} {es = rs} g p s c) f (zero, l, e) = let h = below_less n g p in omega (arith, h, e)
  chain_low n u v minus es (link {v = w} {minus = m} {rest = r} {es = rs} g p s c) f (suc k, l, e) = chain_low n w v r rs c f (k, omega (arith, l), e)

  -- two chains on the two sides of a link are one
  module _ (at below : ℕ) (low : at < below) (is : IsLink said at) (one near far other : ℕ) (minus : Bool) (says : Says said at near far minus)
      (root : ℕ → ℕ) (sign : ℕ → Bool) (marked : IsMarked said at root sign) (apart : root near ≡ root far → ⊥) where
    one_saying_root : (e u v : ℕ) (m : Bool) → IsLinkBelow said at e → Says said e u v m → root u ≡ root v
    one_saying_root e u v m below s = (marked.links e u v m below s).0

    pub stretch_joined : (xs ys : List ℕ) → IsStretch said (record { one = one; other = near; below = at }) xs → IsStretch said (record { one = far; other = other; below = at }) ys
        → IsStretch said (record { one = one; other = other; below = below }) (xs ++ at ∷ ys)
    stretch_joined xs ys a b = record {
      minus = sign_product a.minus (sign_product minus b.minus);
      chain = chain_append said (IsLinkBelow said below) one near other a.minus (sign_product minus b.minus) xs (at ∷ ys)
          (chain_more said (IsLinkBelow said at) (IsLinkBelow said below) (λ e h. below_more said at below e (omega (arith, low)) h) one near a.minus xs a.chain)
          (link at (below_link below at low is) says (chain_more said (IsLinkBelow said at) (IsLinkBelow said below) (λ e h. below_more said at below e (omega (arith, low)) h) far other b.minus ys b.chain));
      once = distinct_append xs (at ∷ ys) a.once (distinct_more at ys b.once not_there) never_both;
    }
      where
        not_there : Contains ys at → ⊥
        not_there h =
            let k = chain_member (IsLinkBelow said at) root one_saying_root far other b.minus ys b.chain at h in
            let l = below_less at at k.0 in
            omega (arith, l)

        never_both : (x : ℕ) → Contains xs x → Contains (at ∷ ys) x → ⊥
        never_both x h (zero, l, e) =
            let k = chain_member (IsLinkBelow said at) root one_saying_root one near a.minus xs a.chain x h in
            let less = below_less at x k.0 in
            omega (arith, less, e)
        never_both x h (suc j, l, e) =
            let k = chain_member (IsLinkBelow said at) root one_saying_root one near a.minus xs a.chain x h in
            let g = chain_member (IsLinkBelow said at) root one_saying_root far other b.minus ys b.chain x (j, omega (arith, l), e) in
            let side : root one ≡ root near = (one_root said at root sign marked one near a.minus (xs, a.chain)).0 in
            apart (sym side ∙ sym k.1.4 ∙ same_ends k.1.0 k.1.1 g.1.0 g.1.1 k.1.2 g.1.2 k.0 k.1.3 g.1.3 ∙ g.1.4)
          where
            same_ends : (p q u v : ℕ) (m w : Bool) → IsLinkBelow said at x → Says said x p q m → Says said x u v w → root p ≡ root u
            same_ends p q u v m w below s z = by (one_saying said x p q u v m w s z).0
              where
                by : ((p ≡ u) × (q ≡ v) ⊎ (p ≡ v) × (q ≡ u)) → root p ≡ root u
                by (inl both) = ap root both.0
                by (inr both) = ap root both.0 ∙ sym (one_saying_root x u v w below z)
