-- What stands in the places of variables, and which variables are still.
use Rattle.std.proofs.Common.{◌≡◌, ℕ, zero, suc, ◌+◌, ◌<◌, ◌≤◌, Bool, true, false, inl, inr, List, [], ◌∷◌, Option, Some, None, Contains, length, map, refl, sym, ap, ◌∙◌, subst, arith}
use Rattle.std.specs.Prelude.{◌⊎◌, ◌||◌, not, slice_get}
use Rattle.std.specs.Option.{option_map}
use Rattle.std.proofs.lemmas.Bool.{cases_lt, le-ltb, lt-ltb}
use Rattle.mo_flat.specs.declared.expr.FlatExpr.{FlatExpr-F, fold-roll-FlatExpr}
use Rattle.mo_flat.specs.declared.expr.FlatExpr.TheVariants.{Var, rolls-Sum, rolls-Var}
use Rattle.mo_flat.specs.declared.model.FlatModel.{FlatModel}
use Rattle.mo_flat.specs.declared.model.FlatVar.{FlatVar}
use Rattle.mo_flat.specs.Roles.{is_given_role, is_unknown, is_unknown_role, role_at, unknown_numbers}
use Rattle.mo_symdiff.specs.Still.{is_still, still_node}
use Rattle.mo_alias.specs.declared.alias.Alias.{Alias}
use Rattle.mo_alias.specs.declared.found.Aliases.{Aliases}
use Rattle.mo_alias.specs.declared.found.Gone.{Gone}
use Rattle.mo_alias.specs.Aliases.{AreAliases, IsAlias, IsGone}
use Rattle.mo_alias.specs.Chains.{Chain, IsLinkBelow, link, none, Says, forth, back}
use Rattle.mo_alias.specs.Numbers.{number_among, variable_of}
use Rattle.mo_alias.specs.Recognized.{aliases_in, sign_product}
use Rattle.mo_alias.specs.Without.{gone_at, is_absent, kept_from, kept_to, new_number, order_of, place, place_of, replaced_variable, stays}
use Rattle.mo_alias.proofs.Bounding.{aliases_known}
use Rattle.mo_alias.proofs.Marking.{joined_append}
use Rattle.mo_alias.proofs.Unknowns.{gone_found, kept_at, kept_shorter, number_variable, variable_number}

pub some_or : {A : Type 0} (o : Option A) → (o ≡ None) ⊎ ((x : A) × (o ≡ Some x))
some_or None = inl refl
some_or (Some x) = inr (x, refl)

length_map : {A B : Type 0} (f : A → B) (xs : List A) → length (map f xs) ≡ length xs
length_map f [] = refl
length_map f (x ∷ xs) = ap suc (length_map f xs)

get_map : {A B : Type 0} (f : A → B) (xs : List A) (i : ℕ) → slice_get (map f xs) i ≡ option_map f (slice_get xs i)
get_map f [] i = refl
get_map f (x ∷ xs) zero = refl
get_map f (x ∷ xs) (suc i) = get_map f xs i

get_past : {A : Type 0} (xs : List A) (i : ℕ) → length xs ≤ i → slice_get xs i ≡ None
get_past [] i l = refl
get_past (x ∷ xs) zero l = absurd (omega (arith, l))
get_past (x ∷ xs) (suc i) l = get_past xs i (omega (arith, l))

-- the last link of a chain
chain_end : (said : List (Option Alias)) (P : ℕ → Type 0) (u v : ℕ) (minus : Bool) (es : List ℕ) → Chain said P u v minus es → (u ≡ v) ⊎ ((e : ℕ) × (w : ℕ) × (k : Bool) × Says said e w v k)
chain_end said P u v minus es none = inl refl
chain_end said P u v minus es (link {v = x} {minus = m} {rest = r} {es = rs} e l s c) = by (chain_end said P x v r rs c)
  where
    by : (x ≡ v) ⊎ ((e : ℕ) × (w : ℕ) × (k : Bool) × Says said e w v k) → (u ≡ v) ⊎ ((e : ℕ) × (w : ℕ) × (k : Bool) × Says said e w v k)
    by (inl same) = inr (e, u, m, subst (λ z. Says said e u z m) same s)
    by (inr h) = inr h

-- what a variable with a sign is, still or not, its variable is
order_still : (new : List FlatVar) (at : Bool × ℕ) (k : ℕ) → is_still new (order_of at k) ≡ still_node new (FlatExpr-F.Var at.1 k)
order_still new (false, n) k = ap (is_still new) (sym (rolls-Var n k)) ∙ fold-roll-FlatExpr Bool (still_node new) (FlatExpr-F.Var n k)
order_still new (true, n) k =
    ap (is_still new) (sym (rolls-Sum ((true, Var n k) ∷ []))) ∙ fold-roll-FlatExpr Bool (still_node new) (FlatExpr-F.Sum ((true, Var n k) ∷ []))
    ∙ by (is_still new (Var n k)) ∙ ap (is_still new) (sym (rolls-Var n k)) ∙ fold-roll-FlatExpr Bool (still_node new) (FlatExpr-F.Var n k)
  where
    by : (b : Bool) → still_node new (FlatExpr-F.Sum ((true, b) ∷ [])) ≡ b
    by true = refl
    by false = refl

unknown_moves : (vars : List FlatVar) (v k : ℕ) → is_unknown vars v ≡ true → still_node vars (FlatExpr-F.Var v k) ≡ false
unknown_moves vars v k is = rw is refl

module _ (m : FlatModel) (a : Aliases) (found : AreAliases m a) where
  -- an unknown is joined to a number of an unknown
  known : (u v : ℕ) (minus : Bool) → IsAlias (aliases_in m) u v minus → (u ≡ v → ⊥) → (0 < v) × (v ≤ length (unknown_numbers m.vars))
  known u v minus j ne = by (chain_end (aliases_in m) (IsLinkBelow (aliases_in m) (length (aliases_in m))) u v minus j.0 j.1)
    where
      ends : (e w : ℕ) (k : Bool) → Says (aliases_in m) e w v k → (0 < v) × (v ≤ length (unknown_numbers m.vars))
      ends e w k (forth b is l r x) = subst (λ z. (0 < z) × (z ≤ length (unknown_numbers m.vars))) r (aliases_known m e b is).1
      ends e w k (back b is r l x) = subst (λ z. (0 < z) × (z ≤ length (unknown_numbers m.vars))) l (aliases_known m e b is).0

      by : (u ≡ v) ⊎ ((e : ℕ) × (w : ℕ) × (k : Bool) × Says (aliases_in m) e w v k) → (0 < v) × (v ≤ length (unknown_numbers m.vars))
      by (inl same) = absurd (ne same)
      by (inr h) = ends h.0 h.1 h.2 h.3

  -- what is said of an unknown
  pub is_gone : (u : ℕ) (g : Gone) → gone_at a.gone u ≡ Some g → Contains a.gone g × (g.unknown ≡ u) × IsGone (aliases_in m) g
  is_gone u g is = let f = gone_found a.gone u g is in (f.0, f.1, found.gone.only g f.0)

  pub of_known : (g : Gone) → IsGone (aliases_in m) g → (0 < g.of) × (g.of ≤ length (unknown_numbers m.vars))
  of_known g is = known g.unknown g.of g.minus is.joined (λ e. let l = is.lesser in absurd (omega (arith, e, l)))

  -- the other one is not gone
  pub of_stays : (g : Gone) → IsGone (aliases_in m) g → gone_at a.gone g.of ≡ None
  of_stays g is = elim (some_or (gone_at a.gone g.of)) [
    | inl absent ↦ absent
    | inr some ↦ absurd (
        let h = is_gone g.of some.0 some.1 in
        let j = subst (λ w. IsAlias (aliases_in m) w some.0.of some.0.minus) h.1 h.2.joined in
        let low = is.least some.0.of (sign_product g.minus some.0.minus) (joined_append (aliases_in m) (length (aliases_in m)) g.unknown g.of some.0.of g.minus some.0.minus is.joined j) in
        let less = h.2.lesser in
        let same = h.1 in
        omega (arith, low, less, same))
  ]

  pub of_variable : (g : Gone) → IsGone (aliases_in m) g
      → (number_among m.vars (variable_of m.vars g.of) ≡ g.of) × (is_unknown m.vars (variable_of m.vars g.of) ≡ true) × (variable_of m.vars g.of ≤ length m.vars) × (stays m.vars a.gone (variable_of m.vars g.of) ≡ true)
  of_variable g is =
      let k = of_known g is in
      let w = variable_number m.vars g.of k.0 k.1 in
      (w.0, w.1, w.2, ap is_absent (ap (gone_at a.gone) w.0 ∙ of_stays g is))

  -- the variable of a gone one
  pub gone_variable : (v : ℕ) (g : Gone) → gone_at a.gone (number_among m.vars v) ≡ Some g → (is_unknown m.vars v ≡ true) × (variable_of m.vars g.unknown ≡ v)
  gone_variable v g is =
      let h = is_gone (number_among m.vars v) g is in
      let less = h.2.lesser in
      let same = h.1 in
      let n = number_variable m.vars v (omega (arith, less, same)) in
      (n.1, ap (variable_of m.vars) same ∙ n.0)

  abbrev pub new : List FlatVar
  new = map (replaced_variable (place m.vars a.gone)) (kept_from (stays m.vars a.gone) 1 m.vars)

  -- a variable that stays has its role
  role_kept : (o : Option FlatVar) → option_map (λ v. v.role) (option_map (replaced_variable (place m.vars a.gone)) o) ≡ option_map (λ v. v.role) o
  role_kept None = refl
  role_kept (Some v) = refl

  role_new : (v : ℕ) → v ≤ length m.vars → stays m.vars a.gone v ≡ true → role_at new (new_number m.vars a.gone v) ≡ role_at m.vars v
  role_new zero l s = refl
  role_new (suc i) l s =
      let next : suc 0 + i ≡ suc i = omega arith in
      let h = kept_at (stays m.vars a.gone) 0 m.vars i (omega (arith, l)) (ap (stays m.vars a.gone) next ∙ s) in
      let number : new_number m.vars a.gone (suc i) ≡ suc h.0 = ap (kept_to (stays m.vars a.gone)) (sym next) ∙ h.1 ∙ omega arith in
      ap (role_at new) number ∙ ap (option_map (λ v. v.role)) (get_map (replaced_variable (place m.vars a.gone)) (kept_from (stays m.vars a.gone) 1 m.vars) h.0)
      ∙ role_kept (slice_get (kept_from (stays m.vars a.gone) 1 m.vars) h.0) ∙ ap (option_map (λ v. v.role)) h.2

  role_past : (v : ℕ) → length m.vars < v → role_at new v ≡ role_at m.vars v
  role_past zero l = absurd (omega (arith, l))
  role_past (suc i) l =
      let s = kept_shorter (stays m.vars a.gone) 1 m.vars in
      let n = length_map (replaced_variable (place m.vars a.gone)) (kept_from (stays m.vars a.gone) 1 m.vars) in
      ap (option_map (λ v. v.role)) (get_past new i (omega (arith, s, n, l))) ∙ sym (ap (option_map (λ v. v.role)) (get_past m.vars i (omega (arith, l))))

  still_by_role : (u v k : ℕ) → role_at new u ≡ role_at m.vars v → still_node new (FlatExpr-F.Var u k) ≡ still_node m.vars (FlatExpr-F.Var v k)
  still_by_role u v k e = ap (λ r. not (is_unknown_role r || is_given_role r)) e

  -- ---- places

  pub place_past : (v : ℕ) → length m.vars < v → place m.vars a.gone v ≡ (false, v)
  place_past v l = rw (lt-ltb (length m.vars) v l) refl

  pub place_within : (v : ℕ) → v ≤ length m.vars → place m.vars a.gone v ≡ place_of m.vars a.gone (gone_at a.gone (number_among m.vars v)) v
  place_within v l = rw (le-ltb (length m.vars) v l) refl

  stays_by : (v : ℕ) → gone_at a.gone (number_among m.vars v) ≡ None → stays m.vars a.gone v ≡ true
  stays_by v is = ap is_absent is

  pub same_still : (v k : ℕ) → is_still new (order_of (place m.vars a.gone v) k) ≡ still_node m.vars (FlatExpr-F.Var v k)
  same_still v k = elim (cases_lt (length m.vars) v) [
    | inl above ↦ ap (λ at. is_still new (order_of at k)) (place_past v above) ∙ order_still new (false, v) k ∙ still_by_role v v k (role_past v above)
    | inr below ↦ by below (some_or (gone_at a.gone (number_among m.vars v)))
  ]
    where
      by : v ≤ length m.vars → (gone_at a.gone (number_among m.vars v) ≡ None) ⊎ ((g : Gone) × (gone_at a.gone (number_among m.vars v) ≡ Some g))
          → is_still new (order_of (place m.vars a.gone v) k) ≡ still_node m.vars (FlatExpr-F.Var v k)
      by below (inl is) =
          ap (λ at. is_still new (order_of at k)) (place_within v below ∙ ap (λ o. place_of m.vars a.gone o v) is) ∙ order_still new (false, new_number m.vars a.gone v) k
          ∙ still_by_role (new_number m.vars a.gone v) v k (role_new v below (stays_by v is))
      by below (inr (g, is)) =
          let h = is_gone (number_among m.vars v) g is in
          let w = of_variable g h.2 in
          let x = gone_variable v g is in
          ap (λ at. is_still new (order_of at k)) (place_within v below ∙ ap (λ o. place_of m.vars a.gone o v) is) ∙ order_still new (g.minus, new_number m.vars a.gone (variable_of m.vars g.of)) k
          ∙ still_by_role (new_number m.vars a.gone (variable_of m.vars g.of)) (variable_of m.vars g.of) k (role_new (variable_of m.vars g.of) w.2 w.3)
          ∙ unknown_moves m.vars (variable_of m.vars g.of) k w.1 ∙ sym (unknown_moves m.vars v k x.0)

  -- what has a minus is an unknown
  pub minus_moves : (v k : ℕ) → (place m.vars a.gone v).0 ≡ true → still_node m.vars (FlatExpr-F.Var v k) ≡ false
  minus_moves v k minus = elim (cases_lt (length m.vars) v) [
    | inl above ↦ (let f : false ≡ true = ap (λ at. at.0) (sym (place_past v above)) ∙ minus in cc)
    | inr below ↦ by below (some_or (gone_at a.gone (number_among m.vars v)))
  ]
    where
      by : v ≤ length m.vars → (gone_at a.gone (number_among m.vars v) ≡ None) ⊎ ((g : Gone) × (gone_at a.gone (number_among m.vars v) ≡ Some g)) → still_node m.vars (FlatExpr-F.Var v k) ≡ false
      by below (inl is) = let f : false ≡ true = ap (λ at. at.0) (sym (place_within v below ∙ ap (λ o. place_of m.vars a.gone o v) is)) ∙ minus in cc
      by below (inr (g, is)) = unknown_moves m.vars v k (gone_variable v g is).0
