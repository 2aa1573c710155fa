-- The kind of an expression, by its parts.
use Rattle.std.proofs.Common.{◌≡◌, ℕ, ◌+◌, ◌<◌, ◌≤◌, Bool, true, false, ◌&&◌, List, [], ◌∷◌, ◌++◌, get_or, length, map, take, Option, None, refl, ap, sym, ◌∙◌, if◌then◌else◌}
use Rattle.std.specs.Prelude.{option_map}
use Rattle.std.specs.List.{list_all, list_any}
use Rattle.std.proofs.lemmas.List.{take_all, take_more}
use Rattle.std.proofs.lemmas.List.Folds.{list_all_at, list_all_more, list_all-map}
use Rattle.mo_syntax.specs.declared.expr.RelOp.{RelOp}
use Rattle.mo_flat.specs.declared.expr.FlatExpr.{FlatExpr, FlatExpr-F, fold_out-FlatExpr, map-FlatExpr, out-FlatExpr}
use Rattle.mo_flat.specs.declared.expr.FlatExpr.TheVariants.{Der, Sum, Product, Power, Call, Relation, Not, All, Any, If, outs-Der, outs-Sum, outs-Product, outs-Power, outs-Call, outs-Relation, outs-Not, outs-All, outs-Any, outs-If}
use Rattle.mo_flat.specs.declared.model.FlatVar.{FlatVar}
use Rattle.mo_flat.specs.Sound.{FlatKind, real, truth, call_kind, common_kind, is_numeric, is_truth, kind_node, kind_of, number_kind, where_holds}
use Rattle.mo_sound.specs.SoundKinds.{product_kind}
use Rattle.mo_sound.proofs.Related.{map_map}

any_map : {A B : Type 0} (p : B → Bool) (h : A → B) (xs : List A) → list_any p (map h xs) ≡ list_any (λ x. p (h x)) xs
any_map p h [] = refl
any_map p h (x ∷ xs) = rw (any_map p h xs) refl

mapped_last : {A B : Type 0} (f : A → B) (xs : List A) (x : A) → map f (xs ++ x ∷ []) ≡ map f xs ++ f x ∷ []
mapped_last f [] x = refl
mapped_last f (y ∷ xs) x = ap (λ ys. f y ∷ ys) (mapped_last f xs x)

module _ (vars : List FlatVar) where
  abbrev Kind : Type 0
  Kind = Option FlatKind

  kind_by : (e : FlatExpr) (node : FlatExpr-F FlatExpr) → out-FlatExpr e ≡ node → kind_of vars e ≡ kind_node vars (map-FlatExpr FlatExpr Kind (kind_of vars) node)
  kind_by e node h = fold_out-FlatExpr Kind (kind_node vars) e ∙ ap (λ n. kind_node vars (map-FlatExpr FlatExpr Kind (kind_of vars) n)) h

  pub at_Der : (a : FlatExpr) → kind_of vars (Der a) ≡ where_holds (is_numeric (kind_of vars a)) real
  at_Der a = kind_by (Der a) (FlatExpr-F.Der a) (outs-Der a)

  pub at_Not : (a : FlatExpr) → kind_of vars (Not a) ≡ where_holds (is_truth (kind_of vars a)) truth
  at_Not a = kind_by (Not a) (FlatExpr-F.Not a) (outs-Not a)

  pub at_Sum : (ts : List (Bool × FlatExpr)) → kind_of vars (Sum ts) ≡ number_kind (map (λ t. kind_of vars t.1) ts)
  at_Sum ts = kind_by (Sum ts) (FlatExpr-F.Sum ts) (outs-Sum ts) ∙ ap number_kind (map_map (λ (t : Bool × Kind). t.1) (λ (t : Bool × FlatExpr). (t.0, kind_of vars t.1)) ts)

  pub at_Product : (ts : List (Bool × FlatExpr)) → kind_of vars (Product ts) ≡ product_kind (list_any (λ t. t.0) ts) (map (λ t. kind_of vars t.1) ts)
  at_Product ts =
      kind_by (Product ts) (FlatExpr-F.Product ts) (outs-Product ts)
      ∙ three _ _ _ _ _ _ (any_map (λ (t : Bool × Kind). t.0) mark ts)
      (list_all-map (λ (t : Bool × Kind). is_numeric t.1) mark ts ∙ sym (list_all-map is_numeric (λ (t : Bool × FlatExpr). kind_of vars t.1) ts))
      (map_map (λ (t : Bool × Kind). t.1) mark ts)
    where
      mark : Bool × FlatExpr → Bool × Kind
      mark t = (t.0, kind_of vars t.1)

      three : (a b c d : Bool) (xs ys : List Kind) → a ≡ b → c ≡ d → xs ≡ ys → (if a then where_holds c real else number_kind xs) ≡ (if b then where_holds d real else number_kind ys)
      three a b c d xs ys p q r = rw (p, q, r) refl

  pub at_Power : (a b : FlatExpr) → kind_of vars (Power a b) ≡ where_holds (is_numeric (kind_of vars a) && is_numeric (kind_of vars b)) real
  at_Power a b = kind_by (Power a b) (FlatExpr-F.Power a b) (outs-Power a b)

  pub at_Call : (f : ℕ) (args : List FlatExpr) → kind_of vars (Call f args) ≡ call_kind f (map (kind_of vars) args)
  at_Call f args = kind_by (Call f args) (FlatExpr-F.Call f args) (outs-Call f args)

  pub at_Relation : (op : RelOp) (a b : FlatExpr) → kind_of vars (Relation op a b) ≡ option_map (λ _. truth) (common_kind (kind_of vars a ∷ kind_of vars b ∷ []))
  at_Relation op a b = kind_by (Relation op a b) (FlatExpr-F.Relation op a b) (outs-Relation op a b)

  pub at_All : (parts : List FlatExpr) → kind_of vars (All parts) ≡ where_holds (list_all is_truth (map (kind_of vars) parts)) truth
  at_All parts = kind_by (All parts) (FlatExpr-F.All parts) (outs-All parts)

  pub at_Any : (parts : List FlatExpr) → kind_of vars (Any parts) ≡ where_holds (list_all is_truth (map (kind_of vars) parts)) truth
  at_Any parts = kind_by (Any parts) (FlatExpr-F.Any parts) (outs-Any parts)

  pub at_If : (branches : List (FlatExpr × FlatExpr)) (other : FlatExpr) →
      kind_of vars (If branches other)
      ≡ (if list_all (λ b. is_truth (kind_of vars b.0)) branches then common_kind (kind_of vars other ∷ map (λ b. kind_of vars b.1) branches) else None)
  at_If branches other =
      kind_by (If branches other) (FlatExpr-F.If branches other) (outs-If branches other)
      ∙ two _ _ _ _ (list_all-map (λ (b : Kind × Kind). is_truth b.0) mark branches) (map_map (λ (b : Kind × Kind). b.1) mark branches)
    where
      mark : FlatExpr × FlatExpr → Kind × Kind
      mark b = (kind_of vars b.0, kind_of vars b.1)

      two : (a b : Bool) (xs ys : List Kind) → a ≡ b → xs ≡ ys → (if a then common_kind (kind_of vars other ∷ xs) else None) ≡ (if b then common_kind (kind_of vars other ∷ ys) else None)
      two a b xs ys p q = rw (p, q) refl

  -- ---- if-expressions

  abbrev pub choice_kind : List (FlatExpr × FlatExpr) → FlatExpr → Option FlatKind
  choice_kind branches other = if list_all (λ b. is_truth (kind_of vars b.0)) branches then common_kind (kind_of vars other ∷ map (λ b. kind_of vars b.1) branches) else None

  pub choice_stops : (branches : List (FlatExpr × FlatExpr)) (other : FlatExpr) (i : ℕ) (branch : FlatExpr × FlatExpr) (r : Bool) → i < length branches → branch ≡ get_or branches i branch →
      r ≡ is_truth (kind_of vars branch.0) → r ≡ false → None ≡ choice_kind branches other
  choice_stops branches other i branch r small is same fails =
      let bad : is_truth (kind_of vars (get_or branches i branch).0) ≡ false = sym (ap (λ (b : FlatExpr × FlatExpr). is_truth (kind_of vars b.0)) is) ∙ sym same ∙ fails in
      let none : list_all (λ (b : FlatExpr × FlatExpr). is_truth (kind_of vars b.0)) branches ≡ false = list_all_at (λ (b : FlatExpr × FlatExpr). is_truth (kind_of vars b.0)) branches i branch small bad in
      rw none refl

  pub choice_done : (branches : List (FlatExpr × FlatExpr)) (other : FlatExpr) (i : ℕ) (k : Option FlatKind) → length branches ≤ i → list_all (λ b. is_truth (kind_of vars b.0)) (take i branches) ≡ true →
      k ≡ common_kind (kind_of vars other ∷ map (λ b. kind_of vars b.1) (take i branches)) → k ≡ choice_kind branches other
  choice_done branches other i k past all is =
      let whole = take_all i branches past in
      let every : list_all (λ (b : FlatExpr × FlatExpr). is_truth (kind_of vars b.0)) branches ≡ true = ap (list_all (λ (b : FlatExpr × FlatExpr). is_truth (kind_of vars b.0))) (sym whole) ∙ all in
      is ∙ (ap (λ (bs : List (FlatExpr × FlatExpr)). common_kind (kind_of vars other ∷ map (λ b. kind_of vars b.1) bs)) whole ∙ sym (rw every refl))

  pub choice_next : (branches : List (FlatExpr × FlatExpr)) (other : FlatExpr) (i : ℕ) (branch : FlatExpr × FlatExpr) (r : Bool) → i < length branches → branch ≡ get_or branches i branch →
      r ≡ is_truth (kind_of vars branch.0) → r ≡ true → list_all (λ b. is_truth (kind_of vars b.0)) (take i branches) ≡ true → list_all (λ b. is_truth (kind_of vars b.0)) (take (i + 1) branches) ≡ true
  choice_next branches other i branch r small is same holds before =
      list_all_more (λ (b : FlatExpr × FlatExpr). is_truth (kind_of vars b.0)) branches i branch small
      ∙ both (list_all (λ (b : FlatExpr × FlatExpr). is_truth (kind_of vars b.0)) (take i branches)) (is_truth (kind_of vars (get_or branches i branch).0)) before
      (sym (ap (λ (b : FlatExpr × FlatExpr). is_truth (kind_of vars b.0)) is) ∙ sym same ∙ holds)
    where
      both : (a b : Bool) → a ≡ true → b ≡ true → (a && b) ≡ true
      both a b p q = rw (p, q) refl

  pub kinds_next : (branches : List (FlatExpr × FlatExpr)) (other : FlatExpr) (i : ℕ) (branch : FlatExpr × FlatExpr) (k : Option FlatKind) → i < length branches → branch ≡ get_or branches i branch →
      k ≡ kind_of vars branch.1 → kind_of vars other ∷ map (λ b. kind_of vars b.1) (take (i + 1) branches) ≡ (kind_of vars other ∷ map (λ b. kind_of vars b.1) (take i branches)) ++ k ∷ []
  kinds_next branches other i branch k small is same =
      ap (λ (ks : List Kind). kind_of vars other ∷ ks)
      (ap (map (λ (b : FlatExpr × FlatExpr). kind_of vars b.1)) (take_more branches i branch small)
      ∙ (mapped_last (λ (b : FlatExpr × FlatExpr). kind_of vars b.1) (take i branches) (get_or branches i branch)
      ∙ ap (λ (j : Kind). map (λ (b : FlatExpr × FlatExpr). kind_of vars b.1) (take i branches) ++ j ∷ []) (sym (ap (λ (b : FlatExpr × FlatExpr). kind_of vars b.1) is) ∙ sym same)))

  pub power_is : (a b : FlatExpr) (n : Bool) (x y : Option FlatKind) → n ≡ (is_numeric x && (is_numeric y && true)) → x ≡ kind_of vars a → y ≡ kind_of vars b →
      where_holds n real ≡ where_holds (is_numeric (kind_of vars a) && is_numeric (kind_of vars b)) real
  power_is a b n x y is p q = rw (is, p, q, one (is_numeric (kind_of vars b))) refl
    where
      one : (c : Bool) → (c && true) ≡ c
      one true = refl
      one false = refl
