-- Sound flat expressions, form by form.
use Rattle.std.proofs.Common.{◌≡◌, ◌<◌, ◌+◌, ℕ, suc, Bool, true, false, ◌&&◌, length, List, [], ◌∷◌, map, Option, Some, ℤ, refl, ap, ◌∙◌, arith, if◌then◌else◌}
use Rattle.std.specs.Prelude.{nat_lt, nat_le, nat_eq, option_map}
use Rattle.std.specs.List.{list_all, list_any}
use Rattle.mo_flat.specs.declared.expr.FlatExpr.{FlatExpr, FlatExpr-F, fold-FlatExpr, fold_out-FlatExpr, map-FlatExpr, out-FlatExpr}
use Rattle.mo_flat.specs.declared.expr.FlatExpr.TheVariants.{Sum, Product, Power, Call, Der, Var, Whole, Decimal, Time, outs-Sum, outs-Product, outs-Power, outs-Call, outs-Der, outs-Var, outs-Whole, outs-Decimal, outs-Time}
use Rattle.mo_flat.specs.declared.model.FlatVar.{FlatVar}
use Rattle.mo_flat.specs.Roles.{variable_at}
use Rattle.mo_flat.specs.Sound.{FlatKind, real, whole, is_numeric, is_whole, is_nonempty, is_shaped, shape_node, flat_kind, kind_of, kind_node, number_kind, where_holds, call_kind, is_among, takes, begins_multiplied, orders_node}
use Rattle.mo_tables.specs.declared.functions.TheConstants.{ABS, MAX, MIN}

-- whether the orders of an expression fit inside so many derivatives
abbrev pub orders_at : FlatExpr → ℕ → Bool
orders_at = fold-FlatExpr (ℕ → Bool) (orders_node 65535)

-- a sound number with at most so many derivatives around one another
pub record IsGood (vars : List FlatVar) (left : ℕ) (e : FlatExpr) : Type 0 where
  pub shaped : is_shaped vars e ≡ true
  pub numeric : is_numeric (kind_of vars e) ≡ true
  pub orders : (around : ℕ) → left + around < 65535 → orders_at e around ≡ true

abbrev pub Each : {A : Type 0} → (A → Type 0) → List A → Type 0
Each P [] = Unit {0}
Each P (x ∷ xs) = P x × Each P xs

pub each_true : {A B : Type 0} (P : A → Type 0) (h : A → B) (test : B → Bool) → ((a : A) → P a → test (h a) ≡ true) → (xs : List A) → Each P xs → list_all test (map h xs) ≡ true
each_true P h test holds [] e = refl
each_true P h test holds (x ∷ xs) e = rw (holds x e.0) (each_true P h test holds xs e.1)

both_true : (a b : Bool) → a ≡ true → b ≡ true → (a && b) ≡ true
both_true a b p q = rw (p, q) refl

nonempty_mapped : {A B : Type 0} (h : A → B) (xs : List A) → is_nonempty (map h xs) ≡ is_nonempty xs
nonempty_mapped h [] = refl
nonempty_mapped h (x ∷ xs) = refl

multiplied_mapped : {A B : Type 0} (h : A → B) (xs : List (Bool × A)) → begins_multiplied (map (λ x. (x.0, h x.1)) xs) ≡ begins_multiplied xs
multiplied_mapped h [] = refl
multiplied_mapped h (x ∷ xs) = refl

length_mapped : {A B : Type 0} (h : A → B) (xs : List A) → length (map h xs) ≡ length xs
length_mapped h [] = refl
length_mapped h (x ∷ xs) = ap (λ n. suc n) (length_mapped h xs)

module _ (vars : List FlatVar) where
  shaped_at : (e : FlatExpr) (node : FlatExpr-F FlatExpr) → out-FlatExpr e ≡ node → is_shaped vars e ≡ shape_node vars (map-FlatExpr FlatExpr Bool (is_shaped vars) node)
  shaped_at e node h = fold_out-FlatExpr Bool (shape_node vars) e ∙ ap (λ n. shape_node vars (map-FlatExpr FlatExpr Bool (is_shaped vars) n)) h

  kind_at : (e : FlatExpr) (node : FlatExpr-F FlatExpr) → out-FlatExpr e ≡ node → kind_of vars e ≡ kind_node vars (map-FlatExpr FlatExpr (Option FlatKind) (kind_of vars) node)
  kind_at e node h = fold_out-FlatExpr (Option FlatKind) (kind_node vars) e ∙ ap (λ n. kind_node vars (map-FlatExpr FlatExpr (Option FlatKind) (kind_of vars) n)) h

  ordered_at : (e : FlatExpr) (node : FlatExpr-F FlatExpr) (around : ℕ) → out-FlatExpr e ≡ node → orders_at e around ≡ orders_node 65535 (map-FlatExpr FlatExpr (ℕ → Bool) orders_at node) around
  ordered_at e node around h = ap (λ f. f around) (fold_out-FlatExpr (ℕ → Bool) (orders_node 65535) e) ∙ ap (λ n. orders_node 65535 (map-FlatExpr FlatExpr (ℕ → Bool) orders_at n) around) h

  number_numeric : (kinds : List (Option FlatKind)) → list_all is_numeric kinds ≡ true → is_numeric (number_kind kinds) ≡ true
  number_numeric kinds all = at (list_all is_whole kinds) (list_all is_numeric kinds) all
    where
      at : (a b : Bool) → b ≡ true → is_numeric (if a then Some whole else where_holds b real) ≡ true
      at true b is = refl
      at false b is = rw is refl

  pub good_Whole : (left : ℕ) (n : ℤ) → IsGood vars left (Whole n)
  good_Whole left n = record {
    shaped = shaped_at (Whole n) (FlatExpr-F.Whole n) (outs-Whole n);
    numeric = ap is_numeric (kind_at (Whole n) (FlatExpr-F.Whole n) (outs-Whole n));
    orders = λ around l. ordered_at (Whole n) (FlatExpr-F.Whole n) around (outs-Whole n);
  }

  pub good_Decimal : (left : ℕ) (text : List ℕ) → IsGood vars left (Decimal text)
  good_Decimal left text = record {
    shaped = shaped_at (Decimal text) (FlatExpr-F.Decimal text) (outs-Decimal text);
    numeric = ap is_numeric (kind_at (Decimal text) (FlatExpr-F.Decimal text) (outs-Decimal text));
    orders = λ around l. ordered_at (Decimal text) (FlatExpr-F.Decimal text) around (outs-Decimal text);
  }

  pub good_Time : (left : ℕ) → IsGood vars left Time
  good_Time left = record {
    shaped = shaped_at Time FlatExpr-F.Time outs-Time;
    numeric = ap is_numeric (kind_at Time FlatExpr-F.Time outs-Time);
    orders = λ around l. ordered_at Time FlatExpr-F.Time around outs-Time;
  }

  pub good_Var : (left n : ℕ) → (nat_le 1 n && nat_le n (length vars)) ≡ true → is_numeric (option_map (λ v. flat_kind v.kind) (variable_at vars n)) ≡ true → IsGood vars left (Var n 0)
  good_Var left n within kind = record {
    shaped = shaped_at (Var n 0) (FlatExpr-F.Var n 0) (outs-Var n 0) ∙ within;
    numeric = ap is_numeric (kind_at (Var n 0) (FlatExpr-F.Var n 0) (outs-Var n 0)) ∙ kind;
    orders = λ around l. ordered_at (Var n 0) (FlatExpr-F.Var n 0) around (outs-Var n 0) ∙ low around l;
  }
    where
      low : (around : ℕ) → left + around < 65535 → nat_lt (0 + around) 65535 ≡ true
      low around l = grind arith

  pub good_Der : (left : ℕ) (e : FlatExpr) → IsGood vars left e → IsGood vars (suc left) (Der e)
  good_Der left e g = record {
    shaped = shaped_at (Der e) (FlatExpr-F.Der e) (outs-Der e) ∙ g.shaped;
    numeric = ap is_numeric (kind_at (Der e) (FlatExpr-F.Der e) (outs-Der e)) ∙ ap (λ b. is_numeric (where_holds b real)) g.numeric;
    orders = λ around l. ordered_at (Der e) (FlatExpr-F.Der e) around (outs-Der e) ∙ g.orders (around + 1) (omega (arith, l));
  }

  pub good_Sum : (left : ℕ) (ts : List (Bool × FlatExpr)) → is_nonempty ts ≡ true → Each (λ t. IsGood vars left t.1) ts → IsGood vars left (Sum ts)
  good_Sum left ts some each = record {
    shaped = shaped_at (Sum ts) (FlatExpr-F.Sum ts) (outs-Sum ts)
        ∙ both_true _ _ (nonempty_mapped _ ts ∙ some) (each_true {A = Bool × FlatExpr} {B = Bool × Bool} (λ t. IsGood vars left t.1) (λ t. (t.0, is_shaped vars t.1)) (λ t. t.1) (λ t g. g.shaped) ts each);
    numeric = ap is_numeric (kind_at (Sum ts) (FlatExpr-F.Sum ts) (outs-Sum ts)) ∙ number_numeric (map {A = Bool × Option FlatKind} (λ t. t.1) (map (λ t. (t.0, kind_of vars t.1)) ts)) (numbers ts each);
    orders = λ around l. ordered_at (Sum ts) (FlatExpr-F.Sum ts) around (outs-Sum ts)
        ∙ each_true {A = Bool × FlatExpr} {B = Bool × (ℕ → Bool)} (λ t. IsGood vars left t.1) (λ t. (t.0, orders_at t.1)) (λ t. t.1 around) (λ t g. g.orders around l) ts each;
  }
    where
      numbers : (ts : List (Bool × FlatExpr)) → Each (λ t. IsGood vars left t.1) ts → list_all is_numeric (map {A = Bool × Option FlatKind} (λ t. t.1) (map (λ t. (t.0, kind_of vars t.1)) ts)) ≡ true
      numbers [] e = refl
      numbers (t ∷ ts) e = rw e.0.numeric (numbers ts e.1)

  pub good_Product : (left : ℕ) (fs : List (Bool × FlatExpr)) → begins_multiplied fs ≡ true → Each (λ f. IsGood vars left f.1) fs → IsGood vars left (Product fs)
  good_Product left fs first each = record {
    shaped = shaped_at (Product fs) (FlatExpr-F.Product fs) (outs-Product fs)
        ∙ both_true _ _ (multiplied_mapped (is_shaped vars) fs ∙ first) (each_true {A = Bool × FlatExpr} {B = Bool × Bool} (λ f. IsGood vars left f.1) (λ f. (f.0, is_shaped vars f.1)) (λ f. f.1) (λ f g. g.shaped) fs each);
    numeric = ap is_numeric (kind_at (Product fs) (FlatExpr-F.Product fs) (outs-Product fs)) ∙ at (list_any {X = Bool × Option FlatKind} (λ f. f.0) (map (λ f. (f.0, kind_of vars f.1)) fs));
    orders = λ around l. ordered_at (Product fs) (FlatExpr-F.Product fs) around (outs-Product fs)
        ∙ each_true {A = Bool × FlatExpr} {B = Bool × (ℕ → Bool)} (λ f. IsGood vars left f.1) (λ f. (f.0, orders_at f.1)) (λ f. f.1 around) (λ f g. g.orders around l) fs each;
  }
    where
      numbers : (fs : List (Bool × FlatExpr)) → Each (λ f. IsGood vars left f.1) fs → list_all is_numeric (map {A = Bool × Option FlatKind} (λ f. f.1) (map (λ f. (f.0, kind_of vars f.1)) fs)) ≡ true
      numbers [] e = refl
      numbers (f ∷ fs) e = rw e.0.numeric (numbers fs e.1)

      all_numbers : list_all {X = Bool × Option FlatKind} (λ factor. is_numeric factor.1) (map (λ f. (f.0, kind_of vars f.1)) fs) ≡ true
      all_numbers = each_true {A = Bool × FlatExpr} {B = Bool × Option FlatKind} (λ f. IsGood vars left f.1) (λ f. (f.0, kind_of vars f.1)) (λ f. is_numeric f.1) (λ f g. g.numeric) fs each

      at : (b : Bool) → is_numeric (if b then where_holds (list_all {X = Bool × Option FlatKind} (λ factor. is_numeric factor.1) (map (λ f. (f.0, kind_of vars f.1)) fs)) real else number_kind (map {A = Bool × Option FlatKind} (λ f. f.1) (map (λ f. (f.0, kind_of vars f.1)) fs))) ≡ true
      at true = ap (λ b. is_numeric (where_holds b real)) all_numbers
      at false = number_numeric (map {A = Bool × Option FlatKind} (λ f. f.1) (map (λ f. (f.0, kind_of vars f.1)) fs)) (numbers fs each)

  pub good_Power : (left : ℕ) (a b : FlatExpr) → IsGood vars left a → IsGood vars left b → IsGood vars left (Power a b)
  good_Power left a b g h = record {
    shaped = shaped_at (Power a b) (FlatExpr-F.Power a b) (outs-Power a b) ∙ both_true _ _ g.shaped h.shaped;
    numeric = ap is_numeric (kind_at (Power a b) (FlatExpr-F.Power a b) (outs-Power a b)) ∙ ap (λ c. is_numeric (where_holds c real)) (both_true _ _ g.numeric h.numeric);
    orders = λ around l. ordered_at (Power a b) (FlatExpr-F.Power a b) around (outs-Power a b) ∙ both_true _ _ (g.orders around l) (h.orders around l);
  }

  -- a function whose kind is that of its arguments, or a Real
  pub good_Call : (left code : ℕ) (es : List FlatExpr) → takes code (length es) ≡ true → nat_eq code 18 ≡ false → Each (IsGood vars left) es → IsGood vars left (Call code es)
  good_Call left code es taken other each = record {
    shaped = shaped_at (Call code es) (FlatExpr-F.Call code es) (outs-Call code es)
        ∙ both_true _ _ (ap (takes code) (length_mapped _ es) ∙ taken) (each_true (IsGood vars left) (is_shaped vars) (λ b. b) (λ e g. g.shaped) es each);
    numeric = ap is_numeric (kind_at (Call code es) (FlatExpr-F.Call code es) (outs-Call code es)) ∙ called;
    orders = λ around l. ordered_at (Call code es) (FlatExpr-F.Call code es) around (outs-Call code es) ∙ each_true (IsGood vars left) orders_at (λ f. f around) (λ e g. g.orders around l) es each;
  }
    where
      numbers : list_all is_numeric (map (kind_of vars) es) ≡ true
      numbers = each_true (IsGood vars left) (kind_of vars) is_numeric (λ e g. g.numeric) es each

      at : (b : Bool) → is_numeric (if b then number_kind (map (kind_of vars) es) else where_holds (list_all is_numeric (map (kind_of vars) es)) real) ≡ true
      at true = number_numeric (map (kind_of vars) es) numbers
      at false = ap (λ c. is_numeric (where_holds c real)) numbers

      called : is_numeric (call_kind code (map (kind_of vars) es)) ≡ true
      called = rw other (at (is_among (ABS ∷ MAX ∷ MIN ∷ []) code))
