-- The model without aliases says of the unknowns that are left what the model says.
use Rattle.std.proofs.Common.{◌≡◌, ℕ, zero, suc, ◌+◌, ◌-◌, ◌<◌, ◌≤◌, ℤ, Bool, true, false, inl, inr, List, [], ◌∷◌, Option, Some, None, Contains, get_or, length, map, refl, sym, ap, ap₂, ◌∙◌, subst, arith, true≢false, if◌then◌else◌}
use Rattle.std.specs.Prelude.{◌⊎◌, ◌&&◌, ◌||◌, nat_eq, nat_lt, not}
use Rattle.std.specs.List.{list_any}
use Rattle.std.proofs.lemmas.Bool.{cases_eq, cases_lt, eq-eqb, ne_eqb, le-ltb, lt-ltb}
use Rattle.mo_flat.specs.declared.model.FlatEquation.{FlatEquation}
use Rattle.mo_flat.specs.declared.model.FlatModel.{FlatModel}
use Rattle.mo_flat.specs.Roles.{unknown_numbers}
use Rattle.mo_symdiff.specs.Carried.{carried}
use Rattle.mo_symdiff.specs.Dual.{Interpretation, signed, value_in}
use Rattle.mo_alias.specs.declared.alias.Alias.{Alias}
use Rattle.mo_alias.specs.declared.found.Aliases.{Aliases}
use Rattle.mo_alias.specs.declared.found.Gone.{Gone}
use Rattle.mo_alias.specs.Aliases.{AreAliases, IsAlias}
use Rattle.mo_alias.specs.Chains.{Agrees, IsLink, IsLinkBelow, none, forth}
use Rattle.mo_alias.specs.Meaning.{extended, Follows, number_at, Satisfies}
use Rattle.mo_alias.specs.Numbers.{number_among, numbers_among, variable_of}
use Rattle.mo_alias.specs.Recognized.{alias_of, aliases_in, sign_product}
use Rattle.mo_alias.specs.Without.{gone_at, is_absent, is_kept, kept_from, kept_to, new_number, place, place_of, replaced, replaced_equation, stays, without}
use Rattle.mo_alias.proofs.Bounding.{aliases_known}
use Rattle.mo_alias.proofs.Chaining.{chain_one}
use Rattle.mo_alias.proofs.Deriving.{carried_same}
use Rattle.mo_alias.proofs.Holding.{alias_holds, signed_twice}
use Rattle.mo_alias.proofs.Linking.{roots_at}
use Rattle.mo_alias.proofs.Marking.{joined_append, joined_back, joined_more, one_sign}
use Rattle.mo_alias.proofs.Moving.{gone_variable, is_gone, minus_moves, new, of_variable, place_past, place_within, same_still, some_or}
use Rattle.mo_alias.proofs.Replacing.{value_same}
use Rattle.mo_alias.proofs.Stretching.{below_link}
use Rattle.mo_alias.proofs.Unknowns.{gone_listed, kept_member, member_kept, variable_number}

contains_map : {A B : Type 0} (f : A → B) (xs : List A) (x : A) → Contains xs x → Contains (map f xs) (f x)
contains_map f [] x h = absurd (let l = h.1 in omega (arith, l))
contains_map f (y ∷ xs) x (zero, l, e) = (0, omega arith, ap f e)
contains_map f (y ∷ xs) x (suc k, l, e) = let h = contains_map f xs x (k, omega (arith, l), e) in (suc h.0, (let m = h.1 in omega (arith, m)), h.2)

map_contains : {A B : Type 0} (f : A → B) (xs : List A) (y : B) → Contains (map f xs) y → (x : A) × Contains xs x × (f x ≡ y)
map_contains f [] y h = absurd (let l = h.1 in omega (arith, l))
map_contains f (x ∷ xs) y (zero, l, e) = (x, (0, omega arith, refl), e)
map_contains f (x ∷ xs) y (suc k, l, e) =
    let h = map_contains f xs y (k, omega (arith, l), e) in
    (h.0, (suc h.1.0, (let m = h.1.1 in omega (arith, m)), h.1.2), h.2)

map_place : {A : Type 0} (f : A → Option Alias) (xs : List A) (k : ℕ) (x : A) → k < length xs → get_or xs k x ≡ x → get_or (map f xs) k None ≡ f x
map_place f [] k x l e = absurd (omega (arith, l))
map_place f (y ∷ xs) zero x l e = ap f e
map_place f (y ∷ xs) (suc k) x l e = map_place f xs k x (omega (arith, l)) e

any_member : (i : ℕ) (xs : List ℕ) → list_any (nat_eq i) xs ≡ true → Contains xs i
any_member i [] e = let f : false ≡ true = e in cc
any_member i (x ∷ xs) e = elim (cases_eq i x) [
  | inl same ↦ (0, omega arith, sym same)
  | inr other ↦ (let h = any_member i xs (drop_first (nat_eq i x) (list_any (nat_eq i) xs) (ne_eqb i x other) e) in (suc h.0, (let m = h.1 in omega (arith, m)), h.2))
]
  where
    drop_first : (b c : Bool) → b ≡ false → (b || c) ≡ true → c ≡ true
    drop_first true c f g = absurd (true≢false f)
    drop_first false c f g = g

module _ (m : FlatModel) (a : Aliases) (found : AreAliases m a) (I : Interpretation) where
  -- ---- numbers of unknowns

  -- the unknown by which one is known, with its sign
  abbrev other_by : Option Gone → ℕ → Bool × ℕ
  other_by None u = (false, u)
  other_by (Some g) u = (g.minus, g.of)

  abbrev other : ℕ → Bool × ℕ
  other u = other_by (gone_at a.gone u) u

  -- the number of what stands in the place of an unknown that is kept
  abbrev base : ℕ → ℤ
  base r = I.variable (new_number m.vars a.gone (variable_of m.vars r)) 0

  number_by : (o : Option Gone) (u : ℕ) → number_at I (place_of m.vars a.gone o (variable_of m.vars u)) 0 ≡ signed (other_by o u).0 (base (other_by o u).1)
  number_by None u = refl
  number_by (Some g) u = refl

  number_is : (u : ℕ) → 0 < u → u ≤ length (unknown_numbers m.vars) → (extended m a I).variable (variable_of m.vars u) 0 ≡ signed (other u).0 (base (other u).1)
  number_is u p l =
      let w = variable_number m.vars u p l in
      ap (λ at. number_at I at 0) (place_within m a found (variable_of m.vars u) w.2 ∙ ap (λ n. place_of m.vars a.gone (gone_at a.gone n) (variable_of m.vars u)) w.0)
      ∙ number_by (gone_at a.gone u) u

  other_joined_by : (u : ℕ) (o : Option Gone) → gone_at a.gone u ≡ o → IsAlias (aliases_in m) u (other_by o u).1 (other_by o u).0
  other_joined_by u None is = ([], none)
  other_joined_by u (Some g) is = let h = is_gone m a found u g is in subst (λ w. IsAlias (aliases_in m) w g.of g.minus) h.1 h.2.joined

  other_joined : (u : ℕ) → IsAlias (aliases_in m) u (other u).1 (other u).0
  other_joined u = other_joined_by u (gone_at a.gone u) refl

  other_least_by : (u v : ℕ) (minus : Bool) (o : Option Gone) → gone_at a.gone u ≡ o → IsAlias (aliases_in m) u v minus → (other_by o u).1 ≤ v
  other_least_by u v minus None is j = elim (cases_lt v u) [
    | inl less ↦ absurd (gone_listed a.gone u (found.gone.all u v minus less j) is)
    | inr high ↦ high
  ]
  other_least_by u v minus (Some g) is j = let h = is_gone m a found u g is in h.2.least v minus (subst (λ w. IsAlias (aliases_in m) w v minus) (sym h.1) j)

  other_least : (u v : ℕ) (minus : Bool) → IsAlias (aliases_in m) u v minus → (other u).1 ≤ v
  other_least u v minus j = other_least_by u v minus (gone_at a.gone u) refl j

  -- joined unknowns are known by one
  one_other : (u v : ℕ) (minus : Bool) → IsAlias (aliases_in m) u v minus → ((other u).1 ≡ (other v).1) × ((other u).0 ≡ sign_product minus (other v).0)
  one_other u v minus j =
      let n : ℕ = length (aliases_in m) in
      let there = joined_append (aliases_in m) n u v (other v).1 minus (other v).0 j (other_joined v) in
      let back = joined_append (aliases_in m) n v u (other u).1 minus (other u).0 (joined_back (aliases_in m) n u v minus j) (other_joined u) in
      let low = other_least u (other v).1 (sign_product minus (other v).0) there in
      let high = other_least v (other u).1 (sign_product minus (other u).0) back in
      let same : (other u).1 ≡ (other v).1 = omega (arith, low, high) in
      let r = roots_at (aliases_in m) n in
      (same, one_sign (aliases_in m) n r.0 r.1 r.2 u (other u).1 (other u).0 (sign_product minus (other v).0) (other_joined u) (subst (λ w. IsAlias (aliases_in m) u w (sign_product minus (other v).0)) (sym same) there))

  numbers_follow : (u v : ℕ) (minus : Bool) → IsAlias (aliases_in m) u v minus → 0 < u → u ≤ length (unknown_numbers m.vars) → 0 < v → v ≤ length (unknown_numbers m.vars)
      → (extended m a I).variable (variable_of m.vars u) 0 ≡ signed minus ((extended m a I).variable (variable_of m.vars v) 0)
  numbers_follow u v minus j pu lu pv lv =
      let one = one_other u v minus j in
      number_is u pu lu ∙ ap₂ (λ s r. signed s (base r)) one.1 one.0 ∙ sym (signed_twice minus (other v).0 (base (other v).1)) ∙ ap (signed minus) (sym (number_is v pv lv))

  -- ---- equations

  value_is : (q : FlatEquation) → (value_in I (carried (new m a found) (replaced (place m.vars a.gone) q.left)) ≡ value_in (extended m a I) (carried m.vars q.left))
      × (value_in I (carried (new m a found) (replaced (place m.vars a.gone) q.right)) ≡ value_in (extended m a I) (carried m.vars q.right))
  value_is q = (
    ap (value_in I) (carried_same (place m.vars a.gone) m.vars (new m a found) (same_still m a found) (minus_moves m a found) q.left) ∙ value_same (place m.vars a.gone) I (carried m.vars q.left),
    ap (value_in I) (carried_same (place m.vars a.gone) m.vars (new m a found) (same_still m a found) (minus_moves m a found) q.right) ∙ value_same (place m.vars a.gone) I (carried m.vars q.right),
  )

  spare_alias : (k : ℕ) → IsLink (aliases_in m) k ⊎ Agrees (aliases_in m) k → k < length (aliases_in m) → (b : Alias) × (get_or (aliases_in m) k None ≡ Some b) × IsAlias (aliases_in m) b.left b.right b.minus
  spare_alias k (inl new-link) l = (
    new-link.alias,
    new-link.is,
    (
      k ∷ [],
      chain_one (aliases_in m) (IsLinkBelow (aliases_in m) (length (aliases_in m))) k new-link.alias.left new-link.alias.right new-link.alias.minus
          (below_link (aliases_in m) (length (aliases_in m)) k l new-link) (forth new-link.alias new-link.is refl refl refl),
    ),
  )
  spare_alias k (inr agrees) l =
      (agrees.alias, agrees.is, joined_more (aliases_in m) k (length (aliases_in m)) agrees.alias.left agrees.alias.right agrees.alias.minus (omega (arith, l)) agrees.chain)

  -- an equation that is left out holds
  dropped_holds : (k : ℕ) (q : FlatEquation) → k < length m.equations → get_or m.equations k q ≡ q → Contains a.dropped (1 + k) → value_in (extended m a I) (carried m.vars q.left) ≡ value_in (extended m a I) (carried m.vars q.right)
  dropped_holds k q l e h =
      let spare = found.dropped.only (1 + k) h in
      let back : (1 + k) - 1 ≡ k = omega arith in
      let is-spare = subst (λ w. IsLink (aliases_in m) w ⊎ Agrees (aliases_in m) w) back spare.2 in
      let low = spare.1 in
      let b = spare_alias k is-spare (omega (arith, low)) in
      let says = map_place (alias_of (numbers_among m.vars)) m.equations k q l e in
      let known = aliases_known m k b.0 b.1 in
      alias_holds m.vars (extended m a I) q b.0 (sym says ∙ b.1) (numbers_follow b.0.left b.0.right b.0.minus b.2 known.0.0 known.0.1 known.1.0 known.1.1)

  kept_holds : Satisfies I (without m a) → (q : FlatEquation) → Contains m.equations q → value_in (extended m a I) (carried m.vars q.left) ≡ value_in (extended m a I) (carried m.vars q.right)
  kept_holds sat q (k, l, e) = by (list_any (nat_eq (1 + k)) a.dropped) refl
    where
      by : (b : Bool) → list_any (nat_eq (1 + k)) a.dropped ≡ b → value_in (extended m a I) (carried m.vars q.left) ≡ value_in (extended m a I) (carried m.vars q.right)
      by true is = dropped_holds k q l e (any_member (1 + k) a.dropped is)
      by false is =
          let kept = member_kept (is_kept a.dropped) 1 m.equations k q l e (ap not is) in
          let v = value_is q in
          sym v.0 ∙ sat (replaced_equation (place m.vars a.gone) q) (contains_map (replaced_equation (place m.vars a.gone)) (kept_from (is_kept a.dropped) 1 m.equations) q kept) ∙ v.1

  pub kept_forth : Satisfies I (without m a) → Satisfies (extended m a I) m
  kept_forth sat = λ q h. kept_holds sat q h

  pub kept_back : Satisfies (extended m a I) m → Satisfies I (without m a)
  kept_back sat = λ p h. (
      let x = map_contains (replaced_equation (place m.vars a.gone)) (kept_from (is_kept a.dropped) 1 m.equations) p h in
      let v = value_is x.0 in
      let holds = sat x.0 (kept_member (is_kept a.dropped) 1 m.equations x.0 x.1) in
      subst (λ (w : FlatEquation). value_in I (carried (new m a found) w.left) ≡ value_in I (carried (new m a found) w.right)) x.2 (v.0 ∙ holds ∙ sym v.1))

-- ---- back from an interpretation of the model

module _ (keep : ℕ → Bool) where
  -- the kept number, up to one, that has this new number
  abbrev pub old_by : ℕ → ℕ → ℕ
  old_by zero n = 0
  old_by (suc i) n = if keep (suc i) && nat_eq (kept_to keep (suc i)) n then suc i else old_by i n

  kept_rises : (i v : ℕ) → v ≤ i → kept_to keep v ≤ kept_to keep i
  kept_rises zero v l = let e : v ≡ 0 = omega (arith, l) in (let f : kept_to keep v ≡ 0 = ap (kept_to keep) e in omega (arith, f))
  kept_rises (suc i) v l = elim (cases_eq v (suc i)) [
    | inl e ↦ (let f : kept_to keep v ≡ kept_to keep (suc i) = ap (kept_to keep) e in omega (arith, f))
    | inr ne ↦ (let h = kept_rises i v (omega (arith, l, ne)) in by (keep (suc i)) h)
  ]
    where
      by : (b : Bool) → kept_to keep v ≤ kept_to keep i → kept_to keep v ≤ (if b then suc (kept_to keep i) else kept_to keep i)
      by true h = omega (arith, h)
      by false h = h

  old_is : (i v : ℕ) → v ≤ i → (v ≡ 0) ⊎ (keep v ≡ true) → old_by i (kept_to keep v) ≡ v
  old_is zero v l k = omega (arith, l)
  old_is (suc i) v l k = elim (cases_eq v (suc i)) [
    | inl e ↦ here e k
    | inr ne ↦ past (keep (suc i)) refl (omega (arith, l, ne)) (old_is i v (omega (arith, l, ne)) k)
  ]
    where
      here : v ≡ suc i → (v ≡ 0) ⊎ (keep v ≡ true) → old_by (suc i) (kept_to keep v) ≡ v
      here e (inl none-of) = absurd (omega (arith, e, none-of))
      here e (inr kept) =
          let f : keep (suc i) ≡ true = ap keep (sym e) ∙ kept in
          let g : nat_eq (kept_to keep (suc i)) (kept_to keep v) ≡ true = eq-eqb (kept_to keep (suc i)) (kept_to keep v) (ap (kept_to keep) (sym e)) in
          both (keep (suc i)) (nat_eq (kept_to keep (suc i)) (kept_to keep v)) f g ∙ sym e
        where
          both : (b c : Bool) → b ≡ true → c ≡ true → (if b && c then suc i else old_by i (kept_to keep v)) ≡ suc i
          both true true f g = refl
          both false c f g = absurd (true≢false (sym f))
          both true false f g = absurd (true≢false (sym g))

      past : (b : Bool) → keep (suc i) ≡ b → v ≤ i → old_by i (kept_to keep v) ≡ v → old_by (suc i) (kept_to keep v) ≡ v
      past true e low rest =
          let count : kept_to keep (suc i) ≡ suc (kept_to keep i) = rw e refl in
          let rise = kept_rises i v low in
          let g : nat_eq (kept_to keep (suc i)) (kept_to keep v) ≡ false = ne_eqb (kept_to keep (suc i)) (kept_to keep v) (λ same. omega (arith, count, rise, same)) in
          second (keep (suc i)) (nat_eq (kept_to keep (suc i)) (kept_to keep v)) g ∙ rest
        where
          second : (b c : Bool) → c ≡ false → (if b && c then suc i else old_by i (kept_to keep v)) ≡ old_by i (kept_to keep v)
          second true true f = absurd (true≢false f)
          second true false f = refl
          second false c f = refl
      past false e low rest = first (keep (suc i)) (nat_eq (kept_to keep (suc i)) (kept_to keep v)) e ∙ rest
        where
          first : (b c : Bool) → b ≡ false → (if b && c then suc i else old_by i (kept_to keep v)) ≡ old_by i (kept_to keep v)
          first true c f = absurd (true≢false f)
          first false c f = refl

module _ (m : FlatModel) (a : Aliases) (found : AreAliases m a) (J : Interpretation) (follows : Follows m a J) where
  -- the old number of a new one
  abbrev old : ℕ → ℕ
  old n = if nat_lt (length m.vars) n then n else old_by (stays m.vars a.gone) (length m.vars) n

  abbrev pub back : Interpretation
  back = record {
    time = J.time;
    variable = λ variable order. J.variable (if nat_lt (length m.vars) variable then variable else old_by (stays m.vars a.gone) (length m.vars) variable) order;
    decimal = J.decimal;
    string = J.string;
    literal = J.literal;
    function = J.function;
    power = J.power;
    reciprocal = J.reciprocal;
  }

  kept_low : (n : ℕ) → kept_to (stays m.vars a.gone) n ≤ n
  kept_low zero = omega arith
  kept_low (suc n) = by (stays m.vars a.gone (suc n)) (kept_low n)
    where
      by : (b : Bool) → kept_to (stays m.vars a.gone) n ≤ n → (if b then suc (kept_to (stays m.vars a.gone) n) else kept_to (stays m.vars a.gone) n) ≤ suc n
      by true l = omega (arith, l)
      by false l = omega (arith, l)

  old_kept : (v : ℕ) → v ≤ length m.vars → (v ≡ 0) ⊎ (stays m.vars a.gone v ≡ true) → old (new_number m.vars a.gone v) ≡ v
  old_kept v l k =
      let low = kept_low v in
      rw (le-ltb (length m.vars) (new_number m.vars a.gone v) (omega (arith, l, low))) (old_is (stays m.vars a.gone) (length m.vars) v l k)

  same_number : (v order : ℕ) → number_at back (place m.vars a.gone v) order ≡ J.variable v order
  same_number v order = elim (cases_lt (length m.vars) v) [
    | inl above ↦ ap (λ at. number_at back at order) (place_past m a found v above) ∙ ap (λ w. J.variable w order) (rw (lt-ltb (length m.vars) v above) refl)
    | inr below ↦ by below (some_or (gone_at a.gone (number_among m.vars v)))
  ]
    where
      by : v ≤ length m.vars → (gone_at a.gone (number_among m.vars v) ≡ None) ⊎ ((g : Gone) × (gone_at a.gone (number_among m.vars v) ≡ Some g)) → number_at back (place m.vars a.gone v) order ≡ J.variable v order
      by below (inl is) =
          ap (λ at. number_at back at order) (place_within m a found v below ∙ ap (λ o. place_of m.vars a.gone o v) is)
          ∙ ap (λ w. J.variable w order) (old_kept v below (inr (ap is_absent is)))
      by below (inr (g, is)) =
          let h = is_gone m a found (number_among m.vars v) g is in
          let w = of_variable m a found g h.2 in
          let x = gone_variable m a found v g is in
          ap (λ at. number_at back at order) (place_within m a found v below ∙ ap (λ o. place_of m.vars a.gone o v) is)
          ∙ ap (λ u. signed g.minus (J.variable u order)) (old_kept (variable_of m.vars g.of) w.2 (inr w.3))
          ∙ sym (follows g order h.0) ∙ ap (λ u. J.variable u order) x.1

  pub back_extended : extended m a back ≡ J
  back_extended = λ i. record {
    time = J.time;
    variable = λ v order. same_number v order i;
    decimal = J.decimal;
    string = J.string;
    literal = J.literal;
    function = J.function;
    power = J.power;
    reciprocal = J.reciprocal;
  }

pub meaning_kept : (m : FlatModel) (a : Aliases) (I : Interpretation) → AreAliases m a → (Satisfies I (without m a) → Satisfies (extended m a I) m) × (Satisfies (extended m a I) m → Satisfies I (without m a))
meaning_kept m a I found = (kept_forth m a found I, kept_back m a found I)

pub meaning_reached : (m : FlatModel) (a : Aliases) (J : Interpretation) → AreAliases m a → Satisfies J m → Follows m a J → (I : Interpretation) × (extended m a I ≡ J) × Satisfies I (without m a)
meaning_reached m a J found sat follows =
    (back m a found J follows, back_extended m a found J follows, kept_back m a found (back m a found J follows) (subst (λ K. Satisfies K m) (sym (back_extended m a found J follows)) sat))
