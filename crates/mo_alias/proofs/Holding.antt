-- What alias equations say of numbers: they hold where their unknowns have each other's numbers, by signs.
use Rattle.std.proofs.Common.{◌≡◌, ℕ, zero, suc, ◌<◌, ℤ, pos, negsuc, neg_ℤ, ◌+ℤ◌, Bool, true, false, List, [], ◌∷◌, Option, Some, None, map, refl, sym, ap, ap₂, ◌∙◌, subst, arith, if◌then◌else◌}
use Rattle.std.specs.Prelude.{not}
use Rattle.std.specs.Option.{option_map}
use Rattle.std.specs.Ordering.{int_eq}
use Rattle.std.proofs.lemmas.Bool.Decides.{Decides-int_eq}
use Rattle.std.proofs.Math.IntN.{+ℤ_idr, +ℤ_invl, +ℤ_invr}
use Rattle.mo_flat.specs.declared.expr.FlatExpr.{FlatExpr, FlatExpr-F, fold_out-FlatExpr, fold-roll-FlatExpr, map-FlatExpr, out-FlatExpr}
use Rattle.mo_flat.specs.declared.model.FlatEquation.{FlatEquation}
use Rattle.mo_flat.specs.declared.model.FlatVar.{FlatVar}
use Rattle.mo_symdiff.specs.Carried.{carried, carry_node}
use Rattle.mo_symdiff.specs.Dual.{Interpretation, signed, signed_sum, value_in, value_node}
use Rattle.mo_symdiff.proofs.SigmaGather.{map_map}
use Rattle.mo_alias.specs.declared.alias.Alias.{Alias}
use Rattle.mo_alias.specs.Numbers.{number_among, numbers_among, variable_of}
use Rattle.mo_alias.specs.Recognized.{alias_of, is_zero_node, pair_of, positive, said_by, sign_product, signed_node, two_terms, unknown_in, unknown_node, with_sign}
use Rattle.mo_alias.proofs.Signs.{product_twice}
use Rattle.mo_alias.proofs.Unknowns.{number_variable}

-- ---- signs

neg_neg : (x : ℤ) → neg_ℤ (neg_ℤ x) ≡ x
neg_neg (pos zero) = refl
neg_neg (pos (suc n)) = refl
neg_neg (negsuc n) = refl

pub signed_twice : (b c : Bool) (x : ℤ) → signed b (signed c x) ≡ signed (sign_product b c) x
signed_twice false c x = refl
signed_twice true false x = refl
signed_twice true true x = neg_neg x

sum_zero : (b c : Bool) (x : ℤ) → signed b (signed (not (sign_product b c)) x) +ℤ signed c x ≡ pos 0
sum_zero false false x = +ℤ_invl x
sum_zero false true x = +ℤ_invr x
sum_zero true false x = +ℤ_invl x
sum_zero true true x = ap (λ z. z +ℤ neg_ℤ x) (neg_neg x) ∙ +ℤ_invr x

zero_is : (n : ℤ) → int_eq n (pos 0) ≡ true → n ≡ pos 0
zero_is n e = (Decides-int_eq n (pos 0)).0 e

-- ---- what options hold

positive_is : (x u : ℕ) → positive x ≡ Some u → (0 < x) × (x ≡ u)
positive_is zero u e = let f : None ≡ Some u = e in cc
positive_is (suc x) u e = (omega arith, let f : Some (suc x) ≡ Some u = e in cc)

sign_is : (b : Bool) (o : Option ℕ) (p : Bool × ℕ) → with_sign b o ≡ Some p → (u : ℕ) × (o ≡ Some u) × (b ≡ p.0) × (u ≡ p.1)
sign_is b None p e = let f : None ≡ Some p = e in cc
sign_is b (Some u) p e =
    let same : (b, u) ≡ p = some_same (b, u) p e in
    (u, refl, ap (λ x. x.0) same, ap (λ x. x.1) same)
  where
    some_same : (x y : Bool × ℕ) → Some x ≡ Some y → x ≡ y
    some_same x y f = cc

pair_is : (x y : Option (Bool × ℕ)) (p : (Bool × ℕ) × (Bool × ℕ)) → pair_of x y ≡ Some p → (x ≡ Some p.0) × (y ≡ Some p.1)
pair_is None None p e = let f : None ≡ Some p = e in cc
pair_is None (Some b) p e = let f : None ≡ Some p = e in cc
pair_is (Some a) None p e = let f : None ≡ Some p = e in cc
pair_is (Some a) (Some b) p e = let same = some_same (a, b) p e in (ap (λ x. Some x.0) same, ap (λ x. Some x.1) same)
  where
    some_same : (x y : (Bool × ℕ) × (Bool × ℕ)) → Some x ≡ Some y → x ≡ y
    some_same x y f = cc

said_is : (b : Bool) (x : Option ((Bool × ℕ) × (Bool × ℕ))) (a : Alias) → option_map (said_by b) x ≡ Some a → (p : (Bool × ℕ) × (Bool × ℕ)) × (x ≡ Some p) × (said_by b p ≡ a)
said_is b None a e = let f : None ≡ Some a = e in cc
said_is b (Some p) a e = (p, refl, some_same (said_by b p) a e)
  where
    some_same : (x y : Alias) → Some x ≡ Some y → x ≡ y
    some_same x y f = cc

-- ---- values

module _ (vars : List FlatVar) (E : Interpretation) where
  -- the number of an unknown
  abbrev pub number : ℕ → ℤ
  number u = E.variable (variable_of vars u) 0

  abbrev pub value : FlatExpr → ℤ
  value e = value_in E (carried vars e)

  at_var : (e : FlatExpr) (v k : ℕ) → out-FlatExpr e ≡ FlatExpr-F.Var v k → value_in E (carried vars e) ≡ E.variable v k
  at_var e v k h =
      ap (value_in E) (fold_out-FlatExpr FlatExpr (carry_node vars) e ∙ ap (λ n. carry_node vars (map-FlatExpr FlatExpr FlatExpr (carried vars) n)) h)
      ∙ fold-roll-FlatExpr ℤ (value_node E) (FlatExpr-F.Var v k)

  at_sum : (e : FlatExpr) (ts : List (Bool × FlatExpr)) → out-FlatExpr e ≡ FlatExpr-F.Sum ts → value_in E (carried vars e) ≡ signed_sum (map (λ t. (t.0, value_in E (carried vars t.1))) ts)
  at_sum e ts h =
      ap (value_in E) (fold_out-FlatExpr FlatExpr (carry_node vars) e ∙ ap (λ n. carry_node vars (map-FlatExpr FlatExpr FlatExpr (carried vars) n)) h)
      ∙ fold-roll-FlatExpr ℤ (value_node E) (FlatExpr-F.Sum (map (λ t. (t.0, carried vars t.1)) ts))
      ∙ ap signed_sum (map_map (λ (t : Bool × FlatExpr). (t.0, value_in E t.1)) (λ (t : Bool × FlatExpr). (t.0, carried vars t.1)) ts)

  at_whole : (e : FlatExpr) (n : ℤ) → out-FlatExpr e ≡ FlatExpr-F.Whole n → value_in E (carried vars e) ≡ n
  at_whole e n h =
      ap (value_in E) (fold_out-FlatExpr FlatExpr (carry_node vars) e ∙ ap (λ k. carry_node vars (map-FlatExpr FlatExpr FlatExpr (carried vars) k)) h)
      ∙ fold-roll-FlatExpr ℤ (value_node E) (FlatExpr-F.Whole n)

  -- one unknown
  unknown_by : (e : FlatExpr) (x : FlatExpr-F FlatExpr) → out-FlatExpr e ≡ x → (u : ℕ) → unknown_node (numbers_among vars) x ≡ Some u → value_in E (carried vars e) ≡ E.variable (variable_of vars u) 0
  unknown_by e (FlatExpr-F.Var v zero) h u is =
      let p = positive_is (number_among vars v) u is in
      let n = number_variable vars v p.0 in
      at_var e v 0 h ∙ ap (λ w. E.variable w 0) (sym n.0 ∙ ap (variable_of vars) p.1)
  unknown_by e (FlatExpr-F.Var v (suc k)) h u is = let f : None ≡ Some u = is in cc
  unknown_by e (FlatExpr-F.Whole n) h u is = let f : None ≡ Some u = is in cc
  unknown_by e (FlatExpr-F.Sum ts) h u is = let f : None ≡ Some u = is in cc
  unknown_by e (FlatExpr-F.Decimal x) h u is = let f : None ≡ Some u = is in cc
  unknown_by e (FlatExpr-F.Str x) h u is = let f : None ≡ Some u = is in cc
  unknown_by e (FlatExpr-F.Truth b) h u is = let f : None ≡ Some u = is in cc
  unknown_by e (FlatExpr-F.Literal x) h u is = let f : None ≡ Some u = is in cc
  unknown_by e FlatExpr-F.Time h u is = let f : None ≡ Some u = is in cc
  unknown_by e (FlatExpr-F.Der f) h u is = let f : None ≡ Some u = is in cc
  unknown_by e (FlatExpr-F.Product ts) h u is = let f : None ≡ Some u = is in cc
  unknown_by e (FlatExpr-F.Power f g) h u is = let f : None ≡ Some u = is in cc
  unknown_by e (FlatExpr-F.Call k es) h u is = let f : None ≡ Some u = is in cc
  unknown_by e (FlatExpr-F.Relation op f g) h u is = let f : None ≡ Some u = is in cc
  unknown_by e (FlatExpr-F.Not f) h u is = let f : None ≡ Some u = is in cc
  unknown_by e (FlatExpr-F.All es) h u is = let f : None ≡ Some u = is in cc
  unknown_by e (FlatExpr-F.Any es) h u is = let f : None ≡ Some u = is in cc
  unknown_by e (FlatExpr-F.If bs f) h u is = let f : None ≡ Some u = is in cc

  unknown_value : (e : FlatExpr) (u : ℕ) → unknown_in (numbers_among vars) e ≡ Some u → value_in E (carried vars e) ≡ E.variable (variable_of vars u) 0
  unknown_value e u is = unknown_by e (out-FlatExpr e) refl u is

  plain_value : (e : FlatExpr) (x : FlatExpr-F FlatExpr) → out-FlatExpr e ≡ x → (p : Bool × ℕ) → with_sign false (unknown_node (numbers_among vars) x) ≡ Some p
      → value_in E (carried vars e) ≡ signed p.0 (E.variable (variable_of vars p.1) 0)
  plain_value e x h p is =
      let w = sign_is false (unknown_node (numbers_among vars) x) p is in
      unknown_by e x h w.0 w.1 ∙ ap₂ (λ b u. signed b (E.variable (variable_of vars u) 0)) w.2 w.3

  -- one unknown with a sign
  signed_value : (e : FlatExpr) (x : FlatExpr-F FlatExpr) → out-FlatExpr e ≡ x → (p : Bool × ℕ) → signed_node (numbers_among vars) x ≡ Some p
      → value_in E (carried vars e) ≡ signed p.0 (E.variable (variable_of vars p.1) 0)
  signed_value e (FlatExpr-F.Sum []) h p is = let f : None ≡ Some p = is in cc
  signed_value e (FlatExpr-F.Sum ((b, g) ∷ [])) h p is =
      let w = sign_is b (unknown_in (numbers_among vars) g) p is in
      at_sum e ((b, g) ∷ []) h ∙ +ℤ_idr (signed b (value_in E (carried vars g))) ∙ ap (signed b) (unknown_value g w.0 w.1)
      ∙ ap₂ (λ c u. signed c (E.variable (variable_of vars u) 0)) w.2 w.3
  signed_value e (FlatExpr-F.Sum (s ∷ t ∷ ts)) h p is = let f : None ≡ Some p = is in cc
  signed_value e (FlatExpr-F.Var v k) h p is = plain_value e (FlatExpr-F.Var v k) h p is
  signed_value e (FlatExpr-F.Whole n) h p is = let f : None ≡ Some p = is in cc
  signed_value e (FlatExpr-F.Decimal x) h p is = let f : None ≡ Some p = is in cc
  signed_value e (FlatExpr-F.Str x) h p is = let f : None ≡ Some p = is in cc
  signed_value e (FlatExpr-F.Truth b) h p is = let f : None ≡ Some p = is in cc
  signed_value e (FlatExpr-F.Literal x) h p is = let f : None ≡ Some p = is in cc
  signed_value e FlatExpr-F.Time h p is = let f : None ≡ Some p = is in cc
  signed_value e (FlatExpr-F.Der f) h p is = let f : None ≡ Some p = is in cc
  signed_value e (FlatExpr-F.Product ts) h p is = let f : None ≡ Some p = is in cc
  signed_value e (FlatExpr-F.Power f g) h p is = let f : None ≡ Some p = is in cc
  signed_value e (FlatExpr-F.Call k es) h p is = let f : None ≡ Some p = is in cc
  signed_value e (FlatExpr-F.Relation op f g) h p is = let f : None ≡ Some p = is in cc
  signed_value e (FlatExpr-F.Not f) h p is = let f : None ≡ Some p = is in cc
  signed_value e (FlatExpr-F.All es) h p is = let f : None ≡ Some p = is in cc
  signed_value e (FlatExpr-F.Any es) h p is = let f : None ≡ Some p = is in cc
  signed_value e (FlatExpr-F.If bs f) h p is = let f : None ≡ Some p = is in cc

  -- two unknowns with signs
  two_value : (e : FlatExpr) (x : FlatExpr-F FlatExpr) → out-FlatExpr e ≡ x → (p : (Bool × ℕ) × (Bool × ℕ)) → two_terms (numbers_among vars) x ≡ Some p
      → value_in E (carried vars e) ≡ signed p.0.0 (E.variable (variable_of vars p.0.1) 0) +ℤ signed p.1.0 (E.variable (variable_of vars p.1.1) 0)
  two_value e (FlatExpr-F.Sum []) h p is = let f : None ≡ Some p = is in cc
  two_value e (FlatExpr-F.Sum (s ∷ [])) h p is = let f : None ≡ Some p = is in cc
  two_value e (FlatExpr-F.Sum ((b, g) ∷ (c, k) ∷ [])) h p is =
      let both = pair_is (with_sign b (unknown_in (numbers_among vars) g)) (with_sign c (unknown_in (numbers_among vars) k)) p is in
      let w = sign_is b (unknown_in (numbers_among vars) g) p.0 both.0 in
      let y = sign_is c (unknown_in (numbers_among vars) k) p.1 both.1 in
      at_sum e ((b, g) ∷ (c, k) ∷ []) h ∙ ap (λ z. signed b (value_in E (carried vars g)) +ℤ z) (+ℤ_idr (signed c (value_in E (carried vars k))))
      ∙ ap₂ (λ s t. signed b s +ℤ signed c t) (unknown_value g w.0 w.1) (unknown_value k y.0 y.1)
      ∙ ap₂ (λ s t. s +ℤ t) (ap₂ (λ d u. signed d (E.variable (variable_of vars u) 0)) w.2 w.3) (ap₂ (λ d u. signed d (E.variable (variable_of vars u) 0)) y.2 y.3)
  two_value e (FlatExpr-F.Sum (s ∷ t ∷ r ∷ ts)) h p is = let f : None ≡ Some p = is in cc
  two_value e (FlatExpr-F.Whole n) h p is = let f : None ≡ Some p = is in cc
  two_value e (FlatExpr-F.Var v k) h p is = let f : None ≡ Some p = is in cc
  two_value e (FlatExpr-F.Decimal x) h p is = let f : None ≡ Some p = is in cc
  two_value e (FlatExpr-F.Str x) h p is = let f : None ≡ Some p = is in cc
  two_value e (FlatExpr-F.Truth b) h p is = let f : None ≡ Some p = is in cc
  two_value e (FlatExpr-F.Literal x) h p is = let f : None ≡ Some p = is in cc
  two_value e FlatExpr-F.Time h p is = let f : None ≡ Some p = is in cc
  two_value e (FlatExpr-F.Der f) h p is = let f : None ≡ Some p = is in cc
  two_value e (FlatExpr-F.Product ts) h p is = let f : None ≡ Some p = is in cc
  two_value e (FlatExpr-F.Power f g) h p is = let f : None ≡ Some p = is in cc
  two_value e (FlatExpr-F.Call k es) h p is = let f : None ≡ Some p = is in cc
  two_value e (FlatExpr-F.Relation op f g) h p is = let f : None ≡ Some p = is in cc
  two_value e (FlatExpr-F.Not f) h p is = let f : None ≡ Some p = is in cc
  two_value e (FlatExpr-F.All es) h p is = let f : None ≡ Some p = is in cc
  two_value e (FlatExpr-F.Any es) h p is = let f : None ≡ Some p = is in cc
  two_value e (FlatExpr-F.If bs f) h p is = let f : None ≡ Some p = is in cc

  zero_value : (e : FlatExpr) (x : FlatExpr-F FlatExpr) → out-FlatExpr e ≡ x → is_zero_node x ≡ true → value_in E (carried vars e) ≡ pos 0
  zero_value e (FlatExpr-F.Whole n) h is = at_whole e n h ∙ zero_is n is
  zero_value e (FlatExpr-F.Var v k) h is = let f : false ≡ true = is in cc
  zero_value e (FlatExpr-F.Sum ts) h is = let f : false ≡ true = is in cc
  zero_value e (FlatExpr-F.Decimal x) h is = let f : false ≡ true = is in cc
  zero_value e (FlatExpr-F.Str x) h is = let f : false ≡ true = is in cc
  zero_value e (FlatExpr-F.Truth b) h is = let f : false ≡ true = is in cc
  zero_value e (FlatExpr-F.Literal x) h is = let f : false ≡ true = is in cc
  zero_value e FlatExpr-F.Time h is = let f : false ≡ true = is in cc
  zero_value e (FlatExpr-F.Der f) h is = let f : false ≡ true = is in cc
  zero_value e (FlatExpr-F.Product ts) h is = let f : false ≡ true = is in cc
  zero_value e (FlatExpr-F.Power f g) h is = let f : false ≡ true = is in cc
  zero_value e (FlatExpr-F.Call k es) h is = let f : false ≡ true = is in cc
  zero_value e (FlatExpr-F.Relation op f g) h is = let f : false ≡ true = is in cc
  zero_value e (FlatExpr-F.Not f) h is = let f : false ≡ true = is in cc
  zero_value e (FlatExpr-F.All es) h is = let f : false ≡ true = is in cc
  zero_value e (FlatExpr-F.Any es) h is = let f : false ≡ true = is in cc
  zero_value e (FlatExpr-F.If bs f) h is = let f : false ≡ true = is in cc

  -- 0 against two unknowns
  zero_holds : (zero-side other : FlatExpr) (a : Alias) → is_zero_node (out-FlatExpr zero-side) ≡ true → option_map (said_by true) (two_terms (numbers_among vars) (out-FlatExpr other)) ≡ Some a
      → E.variable (variable_of vars a.left) 0 ≡ signed a.minus (E.variable (variable_of vars a.right) 0) → value_in E (carried vars zero-side) ≡ value_in E (carried vars other)
  zero_holds zero-side other a nothing is says =
      let p = said_is true (two_terms (numbers_among vars) (out-FlatExpr other)) a is in
      let said : E.variable (variable_of vars p.0.0.1) 0 ≡ signed (not (sign_product p.0.0.0 p.0.1.0)) (E.variable (variable_of vars p.0.1.1) 0) =
      subst (λ (x : Alias). E.variable (variable_of vars x.left) 0 ≡ signed x.minus (E.variable (variable_of vars x.right) 0)) (sym p.2) says in
      zero_value zero-side (out-FlatExpr zero-side) refl nothing
      ∙ sym (two_value other (out-FlatExpr other) refl p.0 p.1 ∙ ap (λ z. signed p.0.0.0 z +ℤ signed p.0.1.0 (E.variable (variable_of vars p.0.1.1) 0)) said
      ∙ sum_zero p.0.0.0 p.0.1.0 (E.variable (variable_of vars p.0.1.1) 0))

  -- two sides
  sides_hold : (left right : FlatExpr) (a : Alias)
      → option_map (said_by false) (pair_of (signed_node (numbers_among vars) (out-FlatExpr left)) (signed_node (numbers_among vars) (out-FlatExpr right))) ≡ Some a
      → E.variable (variable_of vars a.left) 0 ≡ signed a.minus (E.variable (variable_of vars a.right) 0) → value_in E (carried vars left) ≡ value_in E (carried vars right)
  sides_hold left right a is says =
      let p = said_is false (pair_of (signed_node (numbers_among vars) (out-FlatExpr left)) (signed_node (numbers_among vars) (out-FlatExpr right))) a is in
      let both = pair_is (signed_node (numbers_among vars) (out-FlatExpr left)) (signed_node (numbers_among vars) (out-FlatExpr right)) p.0 p.1 in
      let said : E.variable (variable_of vars p.0.0.1) 0 ≡ signed (sign_product p.0.0.0 p.0.1.0) (E.variable (variable_of vars p.0.1.1) 0) =
      subst (λ (x : Alias). E.variable (variable_of vars x.left) 0 ≡ signed x.minus (E.variable (variable_of vars x.right) 0)) (sym p.2) says in
      signed_value left (out-FlatExpr left) refl p.0.0 both.0 ∙ ap (signed p.0.0.0) said ∙ signed_twice p.0.0.0 (sign_product p.0.0.0 p.0.1.0) (E.variable (variable_of vars p.0.1.1) 0)
      ∙ ap (λ b. signed b (E.variable (variable_of vars p.0.1.1) 0)) (product_twice p.0.0.0 p.0.1.0) ∙ sym (signed_value right (out-FlatExpr right) refl p.0.1 both.1)

  -- an alias equation holds where its unknowns have each other's numbers, by its sign
  pub alias_holds : (q : FlatEquation) (a : Alias) → alias_of (numbers_among vars) q ≡ Some a
      → E.variable (variable_of vars a.left) 0 ≡ signed a.minus (E.variable (variable_of vars a.right) 0) → value_in E (carried vars q.left) ≡ value_in E (carried vars q.right)
  alias_holds q a is says = by (is_zero_node (out-FlatExpr q.left)) (is_zero_node (out-FlatExpr q.right)) refl refl is
    where
      by : (b c : Bool) → is_zero_node (out-FlatExpr q.left) ≡ b → is_zero_node (out-FlatExpr q.right) ≡ c
          → (if b then option_map (said_by true) (two_terms (numbers_among vars) (out-FlatExpr q.right))
          else (if c then option_map (said_by true) (two_terms (numbers_among vars) (out-FlatExpr q.left))
          else option_map (said_by false) (pair_of (signed_node (numbers_among vars) (out-FlatExpr q.left)) (signed_node (numbers_among vars) (out-FlatExpr q.right))))) ≡ Some a
          → value_in E (carried vars q.left) ≡ value_in E (carried vars q.right)
      by true c e f said = zero_holds q.left q.right a e said says
      by false true e f said = sym (zero_holds q.right q.left a f said says)
      by false false e f said = sides_hold q.left q.right a said says
