-- Chains: put together, turned round, and what all their links keep.
use Rattle.std.proofs.Common.{◌≡◌, ℕ, zero, suc, ◌≤◌, Bool, false, inl, inr, List, [], ◌∷◌, ◌++◌, Option, refl, sym, ap, ◌∙◌, subst, arith}
use Rattle.std.specs.Prelude.{◌⊎◌}
use Rattle.std.proofs.lemmas.Bool.{cases_eq}
use Rattle.mo_alias.specs.declared.alias.Alias.{Alias}
use Rattle.mo_alias.specs.Chains.{Says, forth, back, Chain, none, link, IsLinkBelow}
use Rattle.mo_alias.specs.Recognized.{sign_product}
use Rattle.mo_alias.proofs.Signs.{product_assoc, product_plus, product_swap}

module _ (said : List (Option Alias)) where
  pub says_back : (e u v : ℕ) (minus : Bool) → Says said e u v minus → Says said e v u minus
  says_back e u v minus (forth a is l r m) = back a is r l m
  says_back e u v minus (back a is r l m) = forth a is l r m

  pub chain_more : (P Q : ℕ → Type 0) → ((e : ℕ) → P e → Q e) → (u v : ℕ) (minus : Bool) (es : List ℕ) → Chain said P u v minus es → Chain said Q u v minus es
  chain_more P Q f u v minus es none = none
  chain_more P Q f u v minus es (link e l s c) = link e (f e l) s (chain_more P Q f _ v _ _ c)

  module _ (P : ℕ → Type 0) where
    -- with a sign that is equal
    pub chain_signed : (u v : ℕ) (a b : Bool) (es : List ℕ) → a ≡ b → Chain said P u v a es → Chain said P u v b es
    chain_signed u v a b es same c = subst (λ x. Chain said P u v x es) same c

    pub chain_append : (u v w : ℕ) (a b : Bool) (es fs : List ℕ) → Chain said P u v a es → Chain said P v w b fs → Chain said P u w (sign_product a b) (es ++ fs)
    chain_append u v w a b es fs none d = d
    chain_append u v w a b es fs (link {v = x} {minus = m} {rest = r} {es = rs} e l s c) d =
        chain_signed u w (sign_product m (sign_product r b)) (sign_product (sign_product m r) b) (e ∷ (rs ++ fs)) (sym (product_assoc m r b))
        (link e l s (chain_append x v w r b rs fs c d))

    pub chain_one : (e u v : ℕ) (minus : Bool) → P e → Says said e u v minus → Chain said P u v minus (e ∷ [])
    chain_one e u v minus l s = chain_signed u v (sign_product minus false) minus (e ∷ []) (product_plus minus) (link e l s none)

    -- the links of a chain from its other end
    abbrev pub turned : List ℕ → List ℕ
    turned [] = []
    turned (e ∷ es) = turned es ++ e ∷ []

    pub chain_back : (u v : ℕ) (minus : Bool) (es : List ℕ) → Chain said P u v minus es → Chain said P v u minus (turned es)
    chain_back u v minus es none = none
    chain_back u v minus es (link {v = x} {minus = m} {rest = r} {es = rs} e l s c) =
        chain_signed v u (sign_product r m) (sign_product m r) (turned rs ++ e ∷ []) (product_swap r m)
        (chain_append v x u r m (turned rs) (e ∷ []) (chain_back x v r rs c) (chain_one e x u m l (says_back e u x m s)))

    -- what every link keeps, every chain keeps
    pub chain_keeps : (root : ℕ → ℕ) (sign : ℕ → Bool) → ((e u v : ℕ) (minus : Bool) → P e → Says said e u v minus → (root u ≡ root v) × (sign u ≡ sign_product minus (sign v)))
        → (u v : ℕ) (minus : Bool) (es : List ℕ) → Chain said P u v minus es → (root u ≡ root v) × (sign u ≡ sign_product minus (sign v))
    chain_keeps root sign keeps u v minus es none = (refl, refl)
    chain_keeps root sign keeps u v minus es (link {v = x} {minus = m} {rest = r} {es = rs} e l s c) =
        let here = keeps e u x m l s in
        let more = chain_keeps root sign keeps x v r rs c in
        (here.0 ∙ more.0, here.1 ∙ ap (sign_product m) more.1 ∙ sym (product_assoc m r (sign v)))

  at_most : (n k : ℕ) → n ≤ suc k → (n ≤ k) ⊎ (n ≡ suc k)
  at_most n k l = elim (cases_eq n (suc k)) [ inl e ↦ inr e | inr ne ↦ inl (omega (arith, l, ne)) ]

  pub below_more : (n k e : ℕ) → n ≤ k → IsLinkBelow said n e → IsLinkBelow said k e
  below_more n zero e l below = let same : n ≡ 0 = omega (arith, l) in subst (λ x. IsLinkBelow said x e) same below
  below_more n (suc k) e l below = elim (at_most n k l) [
    | inl less ↦ inl (below_more n k e less below)
    | inr same ↦ subst (λ x. IsLinkBelow said x e) same below
  ]
