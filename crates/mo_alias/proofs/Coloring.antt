-- Chains with no link twice between the same unknowns have the same links: for each link there are two colours of unknowns that it alone
-- joins.
use Rattle.std.proofs.Common.{◌≡◌, ℕ, zero, suc, ◌<◌, Bool, true, false, inl, inr, List, [], ◌∷◌, Option, Some, None, Contains, get_or, refl, sym, ap, ◌∙◌, subst, arith, if◌then◌else◌, true≢false}
use Rattle.std.specs.Prelude.{◌⊎◌, not, eqb}
use Rattle.std.proofs.lemmas.Bool.{cases_eq, eq-eqb, ne_eqb}
use Rattle.mo_alias.specs.declared.alias.Alias.{Alias}
use Rattle.mo_alias.specs.Chains.{Chain, IsLink, IsLinkBelow, IsNew, link, none, Says, forth, back}
use Rattle.mo_alias.specs.steps.Marking.{IsMarked}
use Rattle.mo_alias.specs.Recognized.{sign_product}
use Rattle.mo_alias.specs.steps.Stretches.{AreDistinct}
use Rattle.mo_alias.proofs.Linking.{roots_at}
use Rattle.mo_alias.proofs.Marking.{closed_apart, no_alias, root_joins}
use Rattle.mo_alias.proofs.Stretching.{below_less, distinct_head, distinct_tail}

-- two colours that change at one link alone
pub record AreColours (said : List (Option Alias)) (n e : ℕ) (colour : ℕ → Bool) : Type 0 where
  pub kept : (f u v : ℕ) (minus : Bool) → IsLinkBelow said n f → Says said f u v minus → (f ≡ e → ⊥) → colour u ≡ colour v
  pub turned : (u v : ℕ) (minus : Bool) → Says said e u v minus → colour u ≡ not (colour v)

abbrev within : (ℕ → ℕ) → ℕ → ℕ → Bool
within root r u = eqb (root u) r

abbrev flipped : (ℕ → ℕ) → (ℕ → Bool) → Bool → ℕ → ℕ → Bool
flipped root colour turn r u = if eqb (root u) r then sign_product turn (colour u) else colour u

flip_same : (turn a b : Bool) → a ≡ b → sign_product turn a ≡ sign_product turn b
flip_same turn a b e = ap (sign_product turn) e

flip_not : (turn a b : Bool) → a ≡ not b → sign_product turn a ≡ not (sign_product turn b)
flip_not false a b e = e
flip_not true a b e = ap not e

difference : (a b : Bool) → a ≡ sign_product (sign_product a b) b
difference false false = refl
difference false true = refl
difference true false = refl
difference true true = refl

module _ (said : List (Option Alias)) where
  -- what the ends of an equation are by its alias
  ends_of : (k : ℕ) (a : Alias) → get_or said k None ≡ Some a → (Q : ℕ → ℕ → Type 0) → Q a.left a.right → Q a.right a.left → (u v : ℕ) (minus : Bool) → Says said k u v minus → Q u v
  ends_of k a is Q lr rl u v minus (forth b s l r m) =
      let same : a ≡ b = (let f : Some a ≡ Some b = sym is ∙ s in cc) in
      subst (λ p. Q p v) l (subst (λ q. Q b.left q) r (subst (λ (x : Alias). Q x.left x.right) same lr))
  ends_of k a is Q lr rl u v minus (back b s r l m) =
      let same : a ≡ b = (let f : Some a ≡ Some b = sym is ∙ s in cc) in
      subst (λ p. Q p v) r (subst (λ q. Q b.right q) l (subst (λ (x : Alias). Q x.right x.left) same rl))

  -- at the link itself: the tree of its left unknown, and the rest
  first_colours : (e : ℕ) → IsLink said e → (root : ℕ → ℕ) (sign : ℕ → Bool) → IsMarked said e root sign → (colour : ℕ → Bool) × AreColours said (suc e) e colour
  first_colours e new root sign marked = (
    within root (root new.alias.left),
    record {
      kept = λ f u v minus below s ne. kept_by f u v minus s ne below;
      turned = λ u v minus s. ends_of e new.alias new.is (λ p q. within root (root new.alias.left) p ≡ not (within root (root new.alias.left) q)) (left_is ∙ ap not (sym right_is)) (right_is ∙ ap not (sym left_is)) u v minus s;
    },
  )
    where
      apart : root new.alias.right ≡ root new.alias.left → ⊥
      apart same = let j = root_joins said e root sign marked new.alias.left new.alias.right (sym same) in new.apart _ j.0 j.1

      left_is : within root (root new.alias.left) new.alias.left ≡ true
      left_is = eq-eqb (root new.alias.left) (root new.alias.left) refl

      right_is : within root (root new.alias.left) new.alias.right ≡ false
      right_is = ne_eqb (root new.alias.right) (root new.alias.left) apart

      kept_by : (f u v : ℕ) (minus : Bool) → Says said f u v minus → (f ≡ e → ⊥) → IsLinkBelow said e f ⊎ (f ≡ e) × IsNew said (IsLinkBelow said e) e
          → within root (root new.alias.left) u ≡ within root (root new.alias.left) v
      kept_by f u v minus s ne (inl below) = ap (λ w. eqb w (root new.alias.left)) (marked.links f u v minus below s).0
      kept_by f u v minus s ne (inr at) = absurd (ne at.0)

  module _ (e k : ℕ) (low : e < k) (colour : ℕ → Bool) (colours : AreColours said k e colour) where
    -- an equation that is no link changes nothing
    still_colours : (IsNew said (IsLinkBelow said k) k → ⊥) → AreColours said (suc k) e colour
    still_colours never = record { kept = λ f u v minus below s ne. kept_by f u v minus s ne below; turned = colours.turned }
      where
        kept_by : (f u v : ℕ) (minus : Bool) → Says said f u v minus → (f ≡ e → ⊥) → IsLinkBelow said k f ⊎ (f ≡ k) × IsNew said (IsLinkBelow said k) k → colour u ≡ colour v
        kept_by f u v minus s ne (inl below) = colours.kept f u v minus below s ne
        kept_by f u v minus s ne (inr at) = absurd (never at.1)

    -- a later link: the tree of its right unknown is turned where the colours differ
    module _ (is-link : IsLinkBelow said k e) (root : ℕ → ℕ) (sign : ℕ → Bool) (marked : IsMarked said k root sign) (a : Alias) (is : get_or said k None ≡ Some a) (apart : root a.left ≡ root a.right → ⊥) where
      abbrev after : ℕ → Bool
      after = flipped root colour (sign_product (colour a.left) (colour a.right)) (root a.right)

      after_in : (u : ℕ) → root u ≡ root a.right → after u ≡ sign_product (sign_product (colour a.left) (colour a.right)) (colour u)
      after_in u same = rw (eq-eqb (root u) (root a.right) same) refl

      after_out : (u : ℕ) → (root u ≡ root a.right → ⊥) → after u ≡ colour u
      after_out u ne = rw (ne_eqb (root u) (root a.right) ne) refl

      one_place : (f u v : ℕ) (minus : Bool) → IsLinkBelow said k f → Says said f u v minus → root u ≡ root v
      one_place f u v minus below s = (marked.links f u v minus below s).0

      same_after : (u v : ℕ) → root u ≡ root v → colour u ≡ colour v → after u ≡ after v
      same_after u v r c = elim (cases_eq (root u) (root a.right)) [
        | inl here ↦ after_in u here ∙ flip_same (sign_product (colour a.left) (colour a.right)) (colour u) (colour v) c ∙ sym (after_in v (sym r ∙ here))
        | inr out ↦ after_out u out ∙ c ∙ sym (after_out v (λ f. out (r ∙ f)))
      ]

      not_after : (u v : ℕ) → root u ≡ root v → colour u ≡ not (colour v) → after u ≡ not (after v)
      not_after u v r c = elim (cases_eq (root u) (root a.right)) [
        | inl here ↦ after_in u here ∙ flip_not (sign_product (colour a.left) (colour a.right)) (colour u) (colour v) c ∙ ap not (sym (after_in v (sym r ∙ here)))
        | inr out ↦ after_out u out ∙ c ∙ ap not (sym (after_out v (λ f. out (r ∙ f))))
      ]

      ends_after : after a.left ≡ after a.right
      ends_after = after_out a.left apart ∙ difference (colour a.left) (colour a.right) ∙ sym (after_in a.right refl)

      next_colours : AreColours said (suc k) e after
      next_colours = record {
        kept = λ f u v minus below s ne. kept_by f u v minus s ne below;
        turned = λ u v minus s. not_after u v (one_place e u v minus is-link s) (colours.turned u v minus s);
      }
        where
          kept_by : (f u v : ℕ) (minus : Bool) → Says said f u v minus → (f ≡ e → ⊥) → IsLinkBelow said k f ⊎ (f ≡ k) × IsNew said (IsLinkBelow said k) k → after u ≡ after v
          kept_by f u v minus s ne (inl below) = same_after u v (one_place f u v minus below s) (colours.kept f u v minus below s ne)
          kept_by f u v minus s ne (inr at) = ends_of k a is (λ p q. after p ≡ after q) ends_after (sym ends_after) u v minus (subst (λ w. Says said w u v minus) at.0 s)

  -- two colours for each link
  pub colours_at : (n e : ℕ) → IsLinkBelow said n e → (colour : ℕ → Bool) × AreColours said n e colour
  colours_at zero e below = absurd below
  colours_at (suc k) e (inr at) =
      let r = roots_at said k in
      let c = first_colours k at.1 r.0 r.1 r.2 in
      (c.0, subst (λ w. AreColours said (suc k) w c.0) (sym at.0) c.1)
  colours_at (suc k) e (inl below) = let before = colours_at k e below in let r = roots_at said k in next before.0 before.1 r.0 r.1 r.2 (get_or said k None) refl
    where
      low : e < k
      low = below_less said k e below

      joining : (colour : ℕ → Bool) → AreColours said k e colour → (root : ℕ → ℕ) (sign : ℕ → Bool) → IsMarked said k root sign → (a : Alias) → get_or said k None ≡ Some a
          → (root a.left ≡ root a.right) ⊎ (root a.left ≡ root a.right → ⊥) → (colour : ℕ → Bool) × AreColours said (suc k) e colour
      joining colour colours root sign marked a is (inl same) = (colour, still_colours e k low colour colours (closed_apart said k root sign marked a is same))
      joining colour colours root sign marked a is (inr apart) = (_, next_colours e k low colour colours below root sign marked a is apart)

      next : (colour : ℕ → Bool) → AreColours said k e colour → (root : ℕ → ℕ) (sign : ℕ → Bool) → IsMarked said k root sign → (o : Option Alias) → get_or said k None ≡ o
          → (colour : ℕ → Bool) × AreColours said (suc k) e colour
      next colour colours root sign marked None is = (colour, still_colours e k low colour colours (no_alias said k is))
      next colour colours root sign marked (Some a) is = joining colour colours root sign marked a is (cases_eq (root a.left) (root a.right))

  module _ (n e : ℕ) (colour : ℕ → Bool) (colours : AreColours said n e colour) where
    -- along a chain without the link
    colour_kept : (u v : ℕ) (minus : Bool) (es : List ℕ) → Chain said (IsLinkBelow said n) u v minus es → (Contains es e → ⊥) → colour u ≡ colour v
    colour_kept u v minus es none not-in = refl
    colour_kept u v minus es (link {v = w} {minus = m} {rest = r} {es = rs} g p s c) not-in =
        colours.kept g u w m p s (λ same. not-in (0, omega arith, same)) ∙ colour_kept w v r rs c (λ h. not-in (suc h.0, omega (arith, h.1), h.2))

    -- along a chain that has it once
    colour_turned : (u v : ℕ) (minus : Bool) (es : List ℕ) → Chain said (IsLinkBelow said n) u v minus es → AreDistinct es → Contains es e → colour u ≡ not (colour v)
    colour_turned u v minus es none d h = absurd (let l = h.1 in omega (arith, l))
    colour_turned u v minus es (link {v = w} {minus = m} {rest = r} {es = rs} g p s c) d (zero, l, same) =
        colours.turned u w m (subst (λ z. Says said z u w m) same s) ∙ ap not (colour_kept w v r rs c (λ h. distinct_head g rs d (subst (λ z. Contains rs z) (sym same) h)))
    colour_turned u v minus es (link {v = w} {minus = m} {rest = r} {es = rs} g p s c) d (suc k, l, same) =
        colours.kept g u w m p s (λ f. distinct_head g rs d (subst (λ z. Contains rs z) (sym f) (k, omega (arith, l), same)))
        ∙ colour_turned w v r rs c (distinct_tail g rs d) (k, omega (arith, l), same)

  has_or : (xs : List ℕ) (x : ℕ) → Contains xs x ⊎ (Contains xs x → ⊥)
  has_or [] x = inr (λ h. let l = h.1 in omega (arith, l))
  has_or (y ∷ xs) x = by (cases_eq y x) (has_or xs x)
    where
      by : (y ≡ x) ⊎ (y ≡ x → ⊥) → Contains xs x ⊎ (Contains xs x → ⊥) → Contains (y ∷ xs) x ⊎ (Contains (y ∷ xs) x → ⊥)
      by (inl e) h = inl (0, omega arith, e)
      by (inr e) (inl (k, l, f)) = inl (suc k, omega (arith, l), f)
      by (inr e) (inr never) = inr (λ h. out h)
        where
          out : Contains (y ∷ xs) x → ⊥
          out (zero, l, f) = e f
          out (suc k, l, f) = never (k, omega (arith, l), f)

  not_itself : (b : Bool) → b ≡ not b → ⊥
  not_itself true f = true≢false f
  not_itself false f = true≢false (sym f)

  pub same_links : (n u v : ℕ) (minus other : Bool) (es fs : List ℕ) → Chain said (IsLinkBelow said n) u v minus es → AreDistinct es → Chain said (IsLinkBelow said n) u v other fs → (e : ℕ) → Contains es e → Contains fs e
  same_links n u v minus other es fs c d g e h = elim (has_or fs e) [
    | inl there ↦ there
    | inr absent ↦ absurd (
        let below = chain_below n u v minus es c e h in
        let k = colours_at n e below in
        let turned = colour_turned n e k.0 k.1 u v minus es c d h in
        let kept = colour_kept n e k.0 k.1 u v other fs g absent in
        not_itself (k.0 v) (sym kept ∙ turned))
  ]
    where
      chain_below : (n u v : ℕ) (minus : Bool) (es : List ℕ) → Chain said (IsLinkBelow said n) u v minus es → (e : ℕ) → Contains es e → IsLinkBelow said n e
      chain_below n u v minus es none e h = absurd (let l = h.1 in omega (arith, l))
      chain_below n u v minus es (link {v = w} {minus = m} {rest = r} {es = rs} g p s c) e (zero, l, same) = subst (λ z. IsLinkBelow said n z) same p
      chain_below n u v minus es (link {v = w} {minus = m} {rest = r} {es = rs} g p s c) e (suc k, l, same) = chain_below n w v r rs c e (k, omega (arith, l), same)
