-- A link: the unknowns of one root get the root of the others. So roots and signs are found for every number of equations.
use Rattle.std.proofs.Common.{◌≡◌, ℕ, zero, suc, Bool, false, inl, inr, List, [], ◌∷◌, Option, Some, None, get_or, refl, sym, ap, ◌∙◌, subst, arith, if◌then◌else◌}
use Rattle.std.specs.Prelude.{◌⊎◌, eqb}
use Rattle.std.proofs.lemmas.Bool.{cases_eq, eq-eqb, ne_eqb}
use Rattle.mo_alias.specs.declared.alias.Alias.{Alias}
use Rattle.mo_alias.specs.Chains.{Says, forth, back, none, IsNew, IsLinkBelow, IsJoined}
use Rattle.mo_alias.specs.steps.Marking.{IsMarked}
use Rattle.mo_alias.specs.Recognized.{sign_product}
use Rattle.mo_alias.proofs.Chaining.{chain_one}
use Rattle.mo_alias.proofs.Marking.{is_new, joined_append, joined_back, joined_more, marked_closed, marked_none}
use Rattle.mo_alias.proofs.Signs.{product_assoc, product_twice}

abbrev pub moved_root : (ℕ → ℕ) → ℕ → ℕ → ℕ → ℕ
moved_root root from to u = if eqb (root u) from then to else root u

abbrev pub moved_sign : (ℕ → ℕ) → (ℕ → Bool) → ℕ → Bool → ℕ → Bool
moved_sign root sign from turn u = if eqb (root u) from then sign_product (sign u) turn else sign u

-- one equation says one thing of two unknowns, from either side
pub one_saying : (said : List (Option Alias)) (n x y u v : ℕ) (m minus : Bool) → Says said n x y m → Says said n u v minus → ((x ≡ u) × (y ≡ v) ⊎ (x ≡ v) × (y ≡ u)) × (m ≡ minus)
one_saying said n x y u v m minus (forth a s l r k) (forth b z f g h) =
    let same : a ≡ b = (let e : Some a ≡ Some b = sym s ∙ z in cc) in
    (inl (sym l ∙ ap (λ (w : Alias). w.left) same ∙ f, sym r ∙ ap (λ (w : Alias). w.right) same ∙ g), sym k ∙ ap (λ (w : Alias). w.minus) same ∙ h)
one_saying said n x y u v m minus (forth a s l r k) (back b z g f h) =
    let same : a ≡ b = (let e : Some a ≡ Some b = sym s ∙ z in cc) in
    (inr (sym l ∙ ap (λ (w : Alias). w.left) same ∙ f, sym r ∙ ap (λ (w : Alias). w.right) same ∙ g), sym k ∙ ap (λ (w : Alias). w.minus) same ∙ h)
one_saying said n x y u v m minus (back a s r l k) (forth b z f g h) =
    let same : a ≡ b = (let e : Some a ≡ Some b = sym s ∙ z in cc) in
    (inr (sym r ∙ ap (λ (w : Alias). w.right) same ∙ g, sym l ∙ ap (λ (w : Alias). w.left) same ∙ f), sym k ∙ ap (λ (w : Alias). w.minus) same ∙ h)
one_saying said n x y u v m minus (back a s r l k) (back b z g f h) =
    let same : a ≡ b = (let e : Some a ≡ Some b = sym s ∙ z in cc) in
    (inl (sym r ∙ ap (λ (w : Alias). w.right) same ∙ g, sym l ∙ ap (λ (w : Alias). w.left) same ∙ f), sym k ∙ ap (λ (w : Alias). w.minus) same ∙ h)

-- an equation that says something of two unknowns of two roots is a link
pub fresh : (said : List (Option Alias)) (n : ℕ) (root : ℕ → ℕ) (sign : ℕ → Bool) → IsMarked said n root sign → (x y : ℕ) (m : Bool) → Says said n x y m → (root y ≡ root x → ⊥)
    → IsNew said (IsLinkBelow said n) n
fresh said n root sign marked x y m (forth a is l r k) apart = is_new said n root sign marked a is (λ e. apart (ap root (sym r) ∙ sym e ∙ ap root l))
fresh said n root sign marked x y m (back a is r l k) apart = is_new said n root sign marked a is (λ e. apart (ap root (sym l) ∙ e ∙ ap root r))

module _ (said : List (Option Alias)) (n : ℕ) (root : ℕ → ℕ) (sign : ℕ → Bool) (marked : IsMarked said n root sign) (x y : ℕ) (m : Bool)
    (says : Says said n x y m) (apart : root y ≡ root x → ⊥) where
  abbrev pub root_after : ℕ → ℕ
  root_after = moved_root root (root x) (root y)

  abbrev pub sign_after : ℕ → Bool
  sign_after = moved_sign root sign (root x) (sign_product (sign x) (sign_product m (sign y)))

  pub root_in : (u : ℕ) → root u ≡ root x → root_after u ≡ root y
  root_in u e = rw (eq-eqb (root u) (root x) e) refl

  pub root_out : (u : ℕ) → (root u ≡ root x → ⊥) → root_after u ≡ root u
  root_out u e = rw (ne_eqb (root u) (root x) e) refl

  pub sign_in : (u : ℕ) → root u ≡ root x → sign_after u ≡ sign_product (sign u) (sign_product (sign x) (sign_product m (sign y)))
  sign_in u e = rw (eq-eqb (root u) (root x) e) refl

  pub sign_out : (u : ℕ) → (root u ≡ root x → ⊥) → sign_after u ≡ sign u
  sign_out u e = rw (ne_eqb (root u) (root x) e) refl

  new : IsLinkBelow said (suc n) n
  new = inr (refl, fresh said n root sign marked x y m says apart)

  step : IsJoined said (suc n) x y m
  step = (n ∷ [], chain_one said (IsLinkBelow said (suc n)) n x y m new says)

  up : (u : ℕ) → IsJoined said (suc n) u (root u) (sign u)
  up u = joined_more said n (suc n) u (root u) (sign u) (omega arith) (marked.joined u)

  -- from a root of the right to the root of the left
  across : IsJoined said (suc n) (root x) (root y) (sign_product (sign x) (sign_product m (sign y)))
  across =
      joined_append said (suc n) (root x) x (root y) (sign x) (sign_product m (sign y))
      (joined_back said (suc n) x (root x) (sign x) (up x))
      (joined_append said (suc n) x y (root y) m (sign y) step (up y))

  moved_joined : (u : ℕ) → IsJoined said (suc n) u (root_after u) (sign_after u)
  moved_joined u = elim (cases_eq (root u) (root x)) [
    | inl e ↦
        let way = joined_append said (suc n) u (root u) (root y) (sign u) (sign_product (sign x) (sign_product m (sign y))) (up u)
        (subst (λ w. IsJoined said (suc n) w (root y) (sign_product (sign x) (sign_product m (sign y)))) (sym e) across) in
        rw (root_in u e, sign_in u e) way
    | inr e ↦ rw (root_out u e, sign_out u e) (up u)
  ]

  -- the two ends of a link of before
  kept : (u v : ℕ) (minus : Bool) → root u ≡ root v → sign u ≡ sign_product minus (sign v) → (root_after u ≡ root_after v) × (sign_after u ≡ sign_product minus (sign_after v))
  kept u v minus r s = elim (cases_eq (root u) (root x)) [
    | inl e ↦ (
      root_in u e ∙ sym (root_in v (sym r ∙ e)),
      sign_in u e ∙ ap (λ w. sign_product w (sign_product (sign x) (sign_product m (sign y)))) s
          ∙ product_assoc minus (sign v) (sign_product (sign x) (sign_product m (sign y))) ∙ ap (sign_product minus) (sym (sign_in v (sym r ∙ e))),
    )
    | inr e ↦ (
      root_out u e ∙ r ∙ sym (root_out v (λ f. e (r ∙ f))),
      sign_out u e ∙ s ∙ ap (sign_product minus) (sym (sign_out v (λ f. e (r ∙ f)))),
    )
  ]

  right_sign : sign_after x ≡ sign_product m (sign y)
  right_sign = sign_in x refl ∙ product_twice (sign x) (sign_product m (sign y))

  -- the two ends of the new link
  here : (root_after y ≡ root_after x) × (sign_after y ≡ sign_product m (sign_after x))
  here = (
    root_out y apart ∙ sym (root_in x refl),
    sign_out y apart ∙ sym (ap (sign_product m) right_sign ∙ product_twice m (sign y)),
  )

  there : (root_after x ≡ root_after y) × (sign_after x ≡ sign_product m (sign_after y))
  there = (sym here.0, right_sign ∙ ap (sign_product m) (sym (sign_out y apart)))

  new_ends : (u v : ℕ) (minus : Bool) → Says said n u v minus → (root_after u ≡ root_after v) × (sign_after u ≡ sign_product minus (sign_after v))
  new_ends u v minus s = let one = one_saying said n x y u v m minus says s in ends u v minus one.0 one.1
    where
      ends : (u v : ℕ) (minus : Bool) → ((x ≡ u) × (y ≡ v) ⊎ (x ≡ v) × (y ≡ u)) → m ≡ minus → (root_after u ≡ root_after v) × (sign_after u ≡ sign_product minus (sign_after v))
      ends u v minus (inl both) ms =
          subst (λ p. (root_after p ≡ root_after v) × (sign_after p ≡ sign_product minus (sign_after v))) both.0
          (subst (λ q. (root_after x ≡ root_after q) × (sign_after x ≡ sign_product minus (sign_after q))) both.1
          (subst (λ z. (root_after x ≡ root_after y) × (sign_after x ≡ sign_product z (sign_after y))) ms there))
      ends u v minus (inr both) ms =
          subst (λ p. (root_after p ≡ root_after v) × (sign_after p ≡ sign_product minus (sign_after v))) both.1
          (subst (λ q. (root_after y ≡ root_after q) × (sign_after y ≡ sign_product minus (sign_after q))) both.0
          (subst (λ z. (root_after y ≡ root_after x) × (sign_after y ≡ sign_product z (sign_after x))) ms here))

  pub marked_link : IsMarked said (suc n) root_after sign_after
  marked_link = record {
    joined = moved_joined;
    links = λ e u v minus below s. by e u v minus s below;
  }
    where
      by : (e u v : ℕ) (minus : Bool) → Says said e u v minus → IsLinkBelow said n e ⊎ (e ≡ n) × IsNew said (IsLinkBelow said n) n → (root_after u ≡ root_after v) × (sign_after u ≡ sign_product minus (sign_after v))
      by e u v minus s (inl below) = let l = marked.links e u v minus below s in kept u v minus l.0 l.1
      by e u v minus s (inr at) = new_ends u v minus (subst (λ x. Says said x u v minus) at.0 s)

-- no link joins nothing
pub marked_nothing : (said : List (Option Alias)) → IsMarked said zero (λ u. u) (λ u. false)
marked_nothing said = record { joined = λ u. ([], none); links = λ e u v minus below s. absurd below }

-- roots and signs for the links among the first n equations
pub roots_at : (said : List (Option Alias)) (n : ℕ) → (root : ℕ → ℕ) × (sign : ℕ → Bool) × IsMarked said n root sign
roots_at said zero = (λ u. u, λ u. false, marked_nothing said)
roots_at said (suc n) = let before = roots_at said n in next before.0 before.1 before.2 (get_or said n None) refl
  where
    joining : (root : ℕ → ℕ) (sign : ℕ → Bool) → IsMarked said n root sign → (a : Alias) → get_or said n None ≡ Some a → (root a.left ≡ root a.right) ⊎ (root a.left ≡ root a.right → ⊥)
        → (root : ℕ → ℕ) × (sign : ℕ → Bool) × IsMarked said (suc n) root sign
    joining root sign marked a is (inl same) = (root, sign, marked_closed said n root sign marked a is same)
    joining root sign marked a is (inr apart) = (_, _, marked_link said n root sign marked a.right a.left a.minus (back a is refl refl refl) apart)

    next : (root : ℕ → ℕ) (sign : ℕ → Bool) → IsMarked said n root sign → (o : Option Alias) → get_or said n None ≡ o → (root : ℕ → ℕ) × (sign : ℕ → Bool) × IsMarked said (suc n) root sign
    next root sign marked None is = (root, sign, marked_none said n root sign marked is)
    next root sign marked (Some a) is = joining root sign marked a is (cases_eq (root a.left) (root a.right))
