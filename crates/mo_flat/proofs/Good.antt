-- Sound flat expressions, form by form: what each form asks of its parts.
use Rattle.std.proofs.Common.{◌≡◌, ◌<◌, ◌≤◌, ◌+◌, ℕ, suc, Bool, true, false, ◌&&◌, length, List, [], ◌∷◌, map, Option, Some, None, ℤ, refl, ap, ◌∙◌, arith, if◌then◌else◌}
use Rattle.std.specs.Prelude.{nat_lt, nat_le, option_map}
use Rattle.std.specs.List.{list_all, list_any}
use Rattle.mo_syntax.specs.declared.meaning.Kind.{Kind}
use Rattle.mo_syntax.specs.declared.meaning.Kind.TheVariants.{Real, Whole as Integer, Truth as Boolean, Str as String, Enumeration}
use Rattle.mo_syntax.specs.declared.expr.RelOp.{RelOp}
use Rattle.mo_flat.specs.declared.expr.FlatExpr.{FlatExpr, FlatExpr-F, fold-FlatExpr, fold_out-FlatExpr, map-FlatExpr, out-FlatExpr}
use Rattle.mo_flat.specs.declared.expr.FlatExpr.TheVariants.{Whole, Decimal, Str, Truth, Literal, Time, Var, Der, Sum, Product, Power, Call, Relation, Not, All, Any, If}
use Rattle.mo_flat.specs.declared.expr.FlatExpr.TheVariants.{outs-Whole, outs-Decimal, outs-Str, outs-Truth, outs-Literal, outs-Time, outs-Var, outs-Der, outs-Sum, outs-Product, outs-Power, outs-Call, outs-Relation, outs-Not, outs-All, outs-Any, outs-If}
use Rattle.mo_flat.specs.declared.model.FlatVar.{FlatVar}
use Rattle.mo_flat.specs.Roles.{variable_at}
use Rattle.mo_flat.specs.Sound.{FlatKind, real, whole, truth, string, enumeration, is_numeric, is_whole, is_truth, is_string, is_enumeration, is_nonempty, is_shaped, shape_node, flat_kind, kind_of, kind_node, number_kind, common_kind, kept_kind, where_holds, call_kind, takes, begins_multiplied, orders_node}
use Rattle.mo_flat.specs.SoundArray.{fits_kind, has_kind}

-- whether the orders of an expression stay below a limit inside so many derivatives
abbrev pub orders_at : ℕ → FlatExpr → ℕ → Bool
orders_at limit = fold-FlatExpr (ℕ → Bool) (orders_node limit)

-- well shaped, with at most so many derivatives around one another
pub record IsFine (vars : List FlatVar) (nesting : ℕ) (e : FlatExpr) : Type 0 where
  pub shaped : is_shaped vars e ≡ true
  pub orders : (limit around : ℕ) → nesting + around < limit → orders_at limit e around ≡ true

-- of a kind besides
pub record IsGood (vars : List FlatVar) (kind : Kind) (nesting : ℕ) (e : FlatExpr) : Type 0 where
  pub fine : IsFine vars nesting e
  pub fits : fits_kind kind (kind_of vars e) ≡ true

abbrev pub Each : {A : Type 0} → (A → Type 0) → List A → Type 0
Each P [] = Unit {0}
Each P (x ∷ xs) = P x × Each P xs

pub each_mapped : {A : Type 0} (P Q : A → Type 0) → ((a : A) → P a → Q a) → (xs : List A) → Each P xs → Each Q xs
each_mapped P Q f [] e = tt
each_mapped P Q f (x ∷ xs) e = (f x e.0, each_mapped P Q f xs e.1)

pub each_of : {A B : Type 0} (P : A → Type 0) (Q : B → Type 0) (h : A → B) → ((a : A) → P a → Q (h a)) → (xs : List A) → Each P xs → Each Q (map h xs)
each_of P Q h f [] e = tt
each_of P Q h f (x ∷ xs) e = (f x e.0, each_of P Q h f xs e.1)

pub each_true : {A B : Type 0} (P : A → Type 0) (h : A → B) (test : B → Bool) → ((a : A) → P a → test (h a) ≡ true) → (xs : List A) → Each P xs → list_all test (map h xs) ≡ true
each_true P h test holds [] e = refl
each_true P h test holds (x ∷ xs) e = rw (holds x e.0) (each_true P h test holds xs e.1)

pub all_true : {A : Type 0} (test : A → Bool) (xs : List A) → Each (λ x. test x ≡ true) xs → list_all test xs ≡ true
all_true test [] e = refl
all_true test (x ∷ xs) e = rw e.0 (all_true test xs e.1)

pub both_true : (a b : Bool) → a ≡ true → b ≡ true → (a && b) ≡ true
both_true a b p q = rw (p, q) refl

nonempty_mapped : {A B : Type 0} (h : A → B) (xs : List A) → is_nonempty (map h xs) ≡ is_nonempty xs
nonempty_mapped h [] = refl
nonempty_mapped h (x ∷ xs) = refl

multiplied_mapped : {A B : Type 0} (h : A → B) (xs : List (Bool × A)) → begins_multiplied (map (λ x. (x.0, h x.1)) xs) ≡ begins_multiplied xs
multiplied_mapped h [] = refl
multiplied_mapped h (x ∷ xs) = refl

pub length_mapped : {A B : Type 0} (h : A → B) (xs : List A) → length (map h xs) ≡ length xs
length_mapped h [] = refl
length_mapped h (x ∷ xs) = ap suc (length_mapped h xs)

-- ---- kinds

-- Real and Integer
abbrev pub IsNumber : Kind → Type 0
IsNumber Real = Unit {0}
IsNumber Integer = Unit {0}
IsNumber _ = ⊥

-- what fits the one fits the other
abbrev pub Widens : Kind → Kind → Type 0
Widens a b = (kind : Option FlatKind) → fits_kind a kind ≡ true → fits_kind b kind ≡ true

pub whole_is_numeric : (kind : Option FlatKind) → is_whole kind ≡ true → is_numeric kind ≡ true
whole_is_numeric None e = let f : false ≡ true = e in cc
whole_is_numeric (Some real) e = let f : false ≡ true = e in cc
whole_is_numeric (Some whole) e = refl
whole_is_numeric (Some truth) e = let f : false ≡ true = e in cc
whole_is_numeric (Some string) e = let f : false ≡ true = e in cc
whole_is_numeric (Some enumeration) e = let f : false ≡ true = e in cc

pub number_widens : (k : Kind) → IsNumber k → Widens k Real
number_widens Real n kind e = e
number_widens Integer n kind e = whole_is_numeric kind e
number_widens Boolean n kind e = absurd n
number_widens String n kind e = absurd n
number_widens (Enumeration class) n kind e = absurd n

truth_is_no_number : (kind : Option FlatKind) → is_truth kind ≡ true → is_numeric kind ≡ false
truth_is_no_number None e = let f : false ≡ true = e in cc
truth_is_no_number (Some real) e = let f : false ≡ true = e in cc
truth_is_no_number (Some whole) e = let f : false ≡ true = e in cc
truth_is_no_number (Some truth) e = refl
truth_is_no_number (Some string) e = let f : false ≡ true = e in cc
truth_is_no_number (Some enumeration) e = let f : false ≡ true = e in cc

string_is_no_number : (kind : Option FlatKind) → is_string kind ≡ true → (is_numeric kind ≡ false) × (is_truth kind ≡ false)
string_is_no_number None e = let f : false ≡ true = e in cc
string_is_no_number (Some real) e = let f : false ≡ true = e in cc
string_is_no_number (Some whole) e = let f : false ≡ true = e in cc
string_is_no_number (Some truth) e = let f : false ≡ true = e in cc
string_is_no_number (Some string) e = (refl, refl)
string_is_no_number (Some enumeration) e = let f : false ≡ true = e in cc

enumeration_is_alone : (kind : Option FlatKind) → is_enumeration kind ≡ true → (is_numeric kind ≡ false) × (is_truth kind ≡ false) × (is_string kind ≡ false)
enumeration_is_alone None e = let f : false ≡ true = e in cc
enumeration_is_alone (Some real) e = let f : false ≡ true = e in cc
enumeration_is_alone (Some whole) e = let f : false ≡ true = e in cc
enumeration_is_alone (Some truth) e = let f : false ≡ true = e in cc
enumeration_is_alone (Some string) e = let f : false ≡ true = e in cc
enumeration_is_alone (Some enumeration) e = (refl, refl, refl)

where_numeric : (kinds : List (Option FlatKind)) → list_all is_numeric kinds ≡ true → is_numeric (number_kind kinds) ≡ true
where_numeric kinds all = at (list_all is_whole kinds) (list_all is_numeric kinds) all
  where
    at : (a b : Bool) → b ≡ true → is_numeric (if a then Some whole else where_holds b real) ≡ true
    at true b is = refl
    at false b is = rw is refl

-- numbers of one kind give a number of it
pub number_fits : (k : Kind) → IsNumber k → (kinds : List (Option FlatKind)) → Each (λ kind. fits_kind k kind ≡ true) kinds → fits_kind k (number_kind kinds) ≡ true
number_fits Real n kinds e = where_numeric kinds (all_true is_numeric kinds e)
number_fits Integer n kinds e = rw (all_true is_whole kinds e) refl
number_fits Boolean n kinds e = absurd n
number_fits String n kinds e = absurd n
number_fits (Enumeration class) n kinds e = absurd n

chosen : (b : Bool) (x y : Option FlatKind) → b ≡ true → is_numeric x ≡ true → is_numeric (if b then x else y) ≡ true
chosen true x y is e = e
chosen false x y is e = let f : false ≡ true = is in cc

-- values of one kind have it in common
pub common_fits : (k : Kind) (first : Option FlatKind) (kinds : List (Option FlatKind)) → Each (λ kind. fits_kind k kind ≡ true) (first ∷ kinds) → fits_kind k (common_kind (first ∷ kinds)) ≡ true
common_fits Real first kinds e = chosen (list_all is_numeric (first ∷ kinds)) (number_kind (first ∷ kinds)) _ (all_true is_numeric (first ∷ kinds) e) (where_numeric (first ∷ kinds) (all_true is_numeric (first ∷ kinds) e))
common_fits Integer first kinds e =
    let numbers : list_all is_numeric (first ∷ kinds) ≡ true = all_true is_numeric (first ∷ kinds) (each_mapped (λ kind. is_whole kind ≡ true) (λ kind. is_numeric kind ≡ true) whole_is_numeric (first ∷ kinds) e) in
    rw (numbers, all_true is_whole (first ∷ kinds) e) refl
common_fits Boolean first kinds e =
    let no : is_numeric first ≡ false = truth_is_no_number first e.0 in
    rw (no, all_true is_truth (first ∷ kinds) e) refl
common_fits String first kinds e =
    let no : (is_numeric first ≡ false) × (is_truth first ≡ false) = string_is_no_number first e.0 in
    rw (no.0, no.1, all_true is_string (first ∷ kinds) e) refl
common_fits (Enumeration class) first kinds e =
    let no : (is_numeric first ≡ false) × (is_truth first ≡ false) × (is_string first ≡ false) = enumeration_is_alone first e.0 in
    rw (no.0, no.1, no.2, all_true is_enumeration (first ∷ kinds) e) refl

-- two values of one kind can be compared
pub compared : (k : Kind) (a b : Option FlatKind) → fits_kind k a ≡ true → fits_kind k b ≡ true → is_truth (option_map (λ _. truth) (common_kind (a ∷ b ∷ []))) ≡ true
compared k a b p q = some k (common_kind (a ∷ b ∷ [])) (common_fits k a (b ∷ []) (p, (q, tt)))
  where
    some : (k : Kind) (o : Option FlatKind) → fits_kind k o ≡ true → is_truth (option_map (λ _. truth) o) ≡ true
    some k (Some kind) e = refl
    some Real None e = let f : false ≡ true = e in cc
    some Integer None e = let f : false ≡ true = e in cc
    some Boolean None e = let f : false ≡ true = e in cc
    some String None e = let f : false ≡ true = e in cc
    some (Enumeration class) None e = let f : false ≡ true = e in cc

-- a number or a truth value is kept
pub kept_number : (k : Kind) → IsNumber k → (kind : Option FlatKind) → fits_kind k kind ≡ true → fits_kind k (kept_kind kind) ≡ true
kept_number k n kind e = let is : is_numeric kind ≡ true = number_widens k n kind e in rw is e

pub kept_truth : (kind : Option FlatKind) → is_truth kind ≡ true → is_truth (kept_kind kind) ≡ true
kept_truth kind e = let no : is_numeric kind ≡ false = truth_is_no_number kind e in rw (no, e) e

-- ---- forms

module _ (vars : List FlatVar) where
  shaped_at : (e : FlatExpr) (node : FlatExpr-F FlatExpr) → out-FlatExpr e ≡ node → is_shaped vars e ≡ shape_node vars (map-FlatExpr FlatExpr Bool (is_shaped vars) node)
  shaped_at e node h = fold_out-FlatExpr Bool (shape_node vars) e ∙ ap (λ n. shape_node vars (map-FlatExpr FlatExpr Bool (is_shaped vars) n)) h

  pub kind_at : (e : FlatExpr) (node : FlatExpr-F FlatExpr) → out-FlatExpr e ≡ node → kind_of vars e ≡ kind_node vars (map-FlatExpr FlatExpr (Option FlatKind) (kind_of vars) node)
  kind_at e node h = fold_out-FlatExpr (Option FlatKind) (kind_node vars) e ∙ ap (λ n. kind_node vars (map-FlatExpr FlatExpr (Option FlatKind) (kind_of vars) n)) h

  ordered_at : (limit : ℕ) (e : FlatExpr) (node : FlatExpr-F FlatExpr) (around : ℕ) → out-FlatExpr e ≡ node → orders_at limit e around ≡ orders_node limit (map-FlatExpr FlatExpr (ℕ → Bool) (orders_at limit) node) around
  ordered_at limit e node around h = ap (λ f. f around) (fold_out-FlatExpr (ℕ → Bool) (orders_node limit) e) ∙ ap (λ n. orders_node limit (map-FlatExpr FlatExpr (ℕ → Bool) (orders_at limit) n) around) h

  pub widened : (a b : Kind) (nesting : ℕ) (e : FlatExpr) → Widens a b → IsGood vars a nesting e → IsGood vars b nesting e
  widened a b nesting e w g = record { fine = g.fine; fits = w (kind_of vars e) g.fits }

  pub deeper : (kind : Kind) (n m : ℕ) (e : FlatExpr) → n ≤ m → IsGood vars kind n e → IsGood vars kind m e
  deeper kind n m e l g = record {
    fine = record { shaped = g.fine.shaped; orders = λ limit around h. g.fine.orders limit around (omega (arith, l, h)) };
    fits = g.fits;
  }

  pub good_Whole : (k : Kind) → IsNumber k → (nesting : ℕ) (n : ℤ) → IsGood vars k nesting (Whole n)
  good_Whole k number nesting n = record {
    fine = record {
      shaped = shaped_at (Whole n) (FlatExpr-F.Whole n) (outs-Whole n);
      orders = λ limit around l. ordered_at limit (Whole n) (FlatExpr-F.Whole n) around (outs-Whole n);
    };
    fits = ap (fits_kind k) (kind_at (Whole n) (FlatExpr-F.Whole n) (outs-Whole n)) ∙ at k number;
  }
    where
      at : (k : Kind) → IsNumber k → fits_kind k (Some whole) ≡ true
      at Real n = refl
      at Integer n = refl
      at Boolean n = absurd n
      at String n = absurd n
      at (Enumeration class) n = absurd n

  pub good_Decimal : (nesting : ℕ) (text : List ℕ) → IsGood vars Real nesting (Decimal text)
  good_Decimal nesting text = record {
    fine = record {
      shaped = shaped_at (Decimal text) (FlatExpr-F.Decimal text) (outs-Decimal text);
      orders = λ limit around l. ordered_at limit (Decimal text) (FlatExpr-F.Decimal text) around (outs-Decimal text);
    };
    fits = ap is_numeric (kind_at (Decimal text) (FlatExpr-F.Decimal text) (outs-Decimal text));
  }

  pub good_Str : (nesting : ℕ) (text : List ℕ) → IsGood vars String nesting (Str text)
  good_Str nesting text = record {
    fine = record {
      shaped = shaped_at (Str text) (FlatExpr-F.Str text) (outs-Str text);
      orders = λ limit around l. ordered_at limit (Str text) (FlatExpr-F.Str text) around (outs-Str text);
    };
    fits = ap is_string (kind_at (Str text) (FlatExpr-F.Str text) (outs-Str text));
  }

  pub good_Truth : (nesting : ℕ) (b : Bool) → IsGood vars Boolean nesting (Truth b)
  good_Truth nesting b = record {
    fine = record {
      shaped = shaped_at (Truth b) (FlatExpr-F.Truth b) (outs-Truth b);
      orders = λ limit around l. ordered_at limit (Truth b) (FlatExpr-F.Truth b) around (outs-Truth b);
    };
    fits = ap is_truth (kind_at (Truth b) (FlatExpr-F.Truth b) (outs-Truth b));
  }

  pub good_Literal : (k : Kind) → fits_kind k (Some enumeration) ≡ true → (nesting : ℕ) (text : List ℕ) → IsGood vars k nesting (Literal text)
  good_Literal k is nesting text = record {
    fine = record {
      shaped = shaped_at (Literal text) (FlatExpr-F.Literal text) (outs-Literal text);
      orders = λ limit around l. ordered_at limit (Literal text) (FlatExpr-F.Literal text) around (outs-Literal text);
    };
    fits = ap (fits_kind k) (kind_at (Literal text) (FlatExpr-F.Literal text) (outs-Literal text)) ∙ is;
  }

  pub good_Time : (nesting : ℕ) → IsGood vars Real nesting Time
  good_Time nesting = record {
    fine = record {
      shaped = shaped_at Time FlatExpr-F.Time outs-Time;
      orders = λ limit around l. ordered_at limit Time FlatExpr-F.Time around outs-Time;
    };
    fits = ap is_numeric (kind_at Time FlatExpr-F.Time outs-Time);
  }

  pub good_Var : (k : Kind) (nesting n : ℕ) → has_kind vars k n ≡ true → IsGood vars k nesting (Var n 0)
  good_Var k nesting n has = record {
    fine = record {
      shaped = shaped_at (Var n 0) (FlatExpr-F.Var n 0) (outs-Var n 0) ∙ within (nat_le 1 n) (nat_le n (length vars)) (fits_kind k (option_map (λ v. flat_kind v.kind) (variable_at vars n))) has;
      orders = λ limit around l. ordered_at limit (Var n 0) (FlatExpr-F.Var n 0) around (outs-Var n 0) ∙ low limit around l;
    };
    fits = ap (fits_kind k) (kind_at (Var n 0) (FlatExpr-F.Var n 0) (outs-Var n 0)) ∙ fitting (nat_le 1 n) (nat_le n (length vars)) (fits_kind k (option_map (λ v. flat_kind v.kind) (variable_at vars n))) has;
  }
    where
      within : (a b c : Bool) → (a && b && c) ≡ true → (a && b) ≡ true
      within true true c e = refl
      within true false c e = e
      within false b c e = e

      fitting : (a b c : Bool) → (a && b && c) ≡ true → c ≡ true
      fitting true true c e = e
      fitting true false c e = let f : false ≡ true = e in cc
      fitting false b c e = let f : false ≡ true = e in cc

      low : (limit around : ℕ) → nesting + around < limit → nat_lt (0 + around) limit ≡ true
      low limit around l = grind arith

  pub good_Der : (nesting : ℕ) (e : FlatExpr) → IsGood vars Real nesting e → IsGood vars Real (nesting + 1) (Der e)
  good_Der nesting e g = record {
    fine = record {
      shaped = shaped_at (Der e) (FlatExpr-F.Der e) (outs-Der e) ∙ g.fine.shaped;
      orders = λ limit around l. ordered_at limit (Der e) (FlatExpr-F.Der e) around (outs-Der e) ∙ g.fine.orders limit (around + 1) (omega (arith, l));
    };
    fits = ap is_numeric (kind_at (Der e) (FlatExpr-F.Der e) (outs-Der e)) ∙ ap (λ b. is_numeric (where_holds b real)) g.fits;
  }

  pub good_Sum : (k : Kind) → IsNumber k → (nesting : ℕ) (ts : List (Bool × FlatExpr)) → is_nonempty ts ≡ true → Each (λ t. IsGood vars k nesting t.1) ts → IsGood vars k nesting (Sum ts)
  good_Sum k number nesting ts some each = record {
    fine = record {
      shaped = shaped_at (Sum ts) (FlatExpr-F.Sum ts) (outs-Sum ts)
          ∙ both_true _ _ (nonempty_mapped _ ts ∙ some) (each_true {A = Bool × FlatExpr} {B = Bool × Bool} (λ t. IsGood vars k nesting t.1) (λ t. (t.0, is_shaped vars t.1)) (λ t. t.1) (λ t g. g.fine.shaped) ts each);
      orders = λ limit around l. ordered_at limit (Sum ts) (FlatExpr-F.Sum ts) around (outs-Sum ts)
          ∙ each_true {A = Bool × FlatExpr} {B = Bool × (ℕ → Bool)} (λ t. IsGood vars k nesting t.1) (λ t. (t.0, orders_at limit t.1)) (λ t. t.1 around) (λ t g. g.fine.orders limit around l) ts each;
    };
    fits = ap (fits_kind k) (kind_at (Sum ts) (FlatExpr-F.Sum ts) (outs-Sum ts)) ∙ number_fits k number (map {A = Bool × Option FlatKind} (λ t. t.1) (map (λ t. (t.0, kind_of vars t.1)) ts)) (kinds ts each);
  }
    where
      kinds : (ts : List (Bool × FlatExpr)) → Each (λ t. IsGood vars k nesting t.1) ts → Each (λ kind. fits_kind k kind ≡ true) (map {A = Bool × Option FlatKind} (λ t. t.1) (map (λ t. (t.0, kind_of vars t.1)) ts))
      kinds [] e = tt
      kinds (t ∷ ts) e = (e.0.fits, kinds ts e.1)

  -- no factor divides where an Integer is wanted
  pub good_Product : (k : Kind) → IsNumber k → (nesting : ℕ) (fs : List (Bool × FlatExpr)) → begins_multiplied fs ≡ true → (k ≡ Integer → list_any (λ f. f.0) fs ≡ false) → Each (λ f. IsGood vars k nesting f.1) fs → IsGood vars k nesting (Product fs)
  good_Product k number nesting fs first whole_only each = record {
    fine = record {
      shaped = shaped_at (Product fs) (FlatExpr-F.Product fs) (outs-Product fs)
          ∙ both_true _ _ (multiplied_mapped (is_shaped vars) fs ∙ first) (each_true {A = Bool × FlatExpr} {B = Bool × Bool} (λ f. IsGood vars k nesting f.1) (λ f. (f.0, is_shaped vars f.1)) (λ f. f.1) (λ f g. g.fine.shaped) fs each);
      orders = λ limit around l. ordered_at limit (Product fs) (FlatExpr-F.Product fs) around (outs-Product fs)
          ∙ each_true {A = Bool × FlatExpr} {B = Bool × (ℕ → Bool)} (λ f. IsGood vars k nesting f.1) (λ f. (f.0, orders_at limit f.1)) (λ f. f.1 around) (λ f g. g.fine.orders limit around l) fs each;
    };
    fits = ap (fits_kind k) (kind_at (Product fs) (FlatExpr-F.Product fs) (outs-Product fs)) ∙ at k number whole_only (kinds fs each);
  }
    where
      Pairs : Type 0
      Pairs = List (Bool × Option FlatKind)

      pairs : List (Bool × FlatExpr) → List (Bool × Option FlatKind)
      pairs fs = map (λ f. (f.0, kind_of vars f.1)) fs

      kinds : (fs : List (Bool × FlatExpr)) → Each (λ f. IsGood vars k nesting f.1) fs → Each (λ f. fits_kind k f.1 ≡ true) (map {B = Bool × Option FlatKind} (λ f. (f.0, kind_of vars f.1)) fs)
      kinds [] e = tt
      kinds (f ∷ fs) e = (e.0.fits, kinds fs e.1)

      seconds : (k : Kind) (ps : List (Bool × Option FlatKind)) → Each (λ f. fits_kind k f.1 ≡ true) ps → Each (λ kind. fits_kind k kind ≡ true) (map (λ f. f.1) ps)
      seconds k [] e = tt
      seconds k (p ∷ ps) e = (e.0, seconds k ps e.1)

      numbers : (k : Kind) → IsNumber k → (ps : List (Bool × Option FlatKind)) → Each (λ f. fits_kind k f.1 ≡ true) ps → list_all (λ f. is_numeric f.1) ps ≡ true
      numbers k n [] e = refl
      numbers k n (p ∷ ps) e = let one : is_numeric p.1 ≡ true = number_widens k n p.1 e.0 in rw one (numbers k n ps e.1)

      flags : (fs : List (Bool × FlatExpr)) → list_any (λ f. f.0) (map {B = Bool × Option FlatKind} (λ f. (f.0, kind_of vars f.1)) fs) ≡ list_any (λ f. f.0) fs
      flags [] = refl
      flags (f ∷ fs) = rw (flags fs) refl

      by : (b : Bool) (ps : List (Bool × Option FlatKind)) → Each (λ f. is_numeric f.1 ≡ true) ps → is_numeric (if b then where_holds (list_all (λ f. is_numeric f.1) ps) real else number_kind (map (λ f. f.1) ps)) ≡ true
      by true ps e = ap (λ c. is_numeric (where_holds c real)) (numbers Real tt ps e)
      by false ps e = where_numeric (map (λ f. f.1) ps) (all_true is_numeric (map (λ f. f.1) ps) (seconds Real ps e))

      at : (k : Kind) → IsNumber k → (k ≡ Integer → list_any (λ f. f.0) fs ≡ false) → Each (λ f. fits_kind k f.1 ≡ true) (map {B = Bool × Option FlatKind} (λ f. (f.0, kind_of vars f.1)) fs) →
          fits_kind k (kind_node vars (map-FlatExpr FlatExpr (Option FlatKind) (kind_of vars) (FlatExpr-F.Product fs))) ≡ true
      at Real n w e = by (list_any {X = Bool × Option FlatKind} (λ f. f.0) (map (λ f. (f.0, kind_of vars f.1)) fs)) (map (λ f. (f.0, kind_of vars f.1)) fs) e
      at Integer n w e = let no : list_any {X = Bool × Option FlatKind} (λ f. f.0) (map (λ f. (f.0, kind_of vars f.1)) fs) ≡ false = flags fs ∙ w refl in rw no (number_fits Integer tt (map (λ f. f.1) (map (λ f. (f.0, kind_of vars f.1)) fs)) (seconds Integer (map (λ f. (f.0, kind_of vars f.1)) fs) e))
      at Boolean n w e = absurd n
      at String n w e = absurd n
      at (Enumeration class) n w e = absurd n

  pub good_Power : (nesting : ℕ) (a b : FlatExpr) → IsGood vars Real nesting a → IsGood vars Real nesting b → IsGood vars Real nesting (Power a b)
  good_Power nesting a b g h = record {
    fine = record {
      shaped = shaped_at (Power a b) (FlatExpr-F.Power a b) (outs-Power a b) ∙ both_true _ _ g.fine.shaped h.fine.shaped;
      orders = λ limit around l. ordered_at limit (Power a b) (FlatExpr-F.Power a b) around (outs-Power a b) ∙ both_true _ _ (g.fine.orders limit around l) (h.fine.orders limit around l);
    };
    fits = ap is_numeric (kind_at (Power a b) (FlatExpr-F.Power a b) (outs-Power a b)) ∙ ap (λ c. is_numeric (where_holds c real)) (both_true _ _ g.fits h.fits);
  }

  -- a call of a kind by those of its arguments
  pub good_Call : (k : Kind) (nesting code : ℕ) (es : List FlatExpr) → takes code (length es) ≡ true → Each (IsFine vars nesting) es → fits_kind k (call_kind code (map (kind_of vars) es)) ≡ true → IsGood vars k nesting (Call code es)
  good_Call k nesting code es taken each called = record {
    fine = record {
      shaped = shaped_at (Call code es) (FlatExpr-F.Call code es) (outs-Call code es)
          ∙ both_true _ _ (ap (takes code) (length_mapped _ es) ∙ taken) (each_true (IsFine vars nesting) (is_shaped vars) (λ b. b) (λ e g. g.shaped) es each);
      orders = λ limit around l. ordered_at limit (Call code es) (FlatExpr-F.Call code es) around (outs-Call code es) ∙ each_true (IsFine vars nesting) (orders_at limit) (λ f. f around) (λ e g. g.orders limit around l) es each;
    };
    fits = ap (fits_kind k) (kind_at (Call code es) (FlatExpr-F.Call code es) (outs-Call code es)) ∙ called;
  }

  pub good_Relation : (k : Kind) (nesting : ℕ) (op : RelOp) (a b : FlatExpr) → IsGood vars k nesting a → IsGood vars k nesting b → IsGood vars Boolean nesting (Relation op a b)
  good_Relation k nesting op a b g h = record {
    fine = record {
      shaped = shaped_at (Relation op a b) (FlatExpr-F.Relation op a b) (outs-Relation op a b) ∙ both_true _ _ g.fine.shaped h.fine.shaped;
      orders = λ limit around l. ordered_at limit (Relation op a b) (FlatExpr-F.Relation op a b) around (outs-Relation op a b) ∙ both_true _ _ (g.fine.orders limit around l) (h.fine.orders limit around l);
    };
    fits = ap is_truth (kind_at (Relation op a b) (FlatExpr-F.Relation op a b) (outs-Relation op a b)) ∙ compared k (kind_of vars a) (kind_of vars b) g.fits h.fits;
  }

  pub good_Not : (nesting : ℕ) (e : FlatExpr) → IsGood vars Boolean nesting e → IsGood vars Boolean nesting (Not e)
  good_Not nesting e g = record {
    fine = record {
      shaped = shaped_at (Not e) (FlatExpr-F.Not e) (outs-Not e) ∙ g.fine.shaped;
      orders = λ limit around l. ordered_at limit (Not e) (FlatExpr-F.Not e) around (outs-Not e) ∙ g.fine.orders limit around l;
    };
    fits = ap is_truth (kind_at (Not e) (FlatExpr-F.Not e) (outs-Not e)) ∙ ap (λ b. is_truth (where_holds b truth)) g.fits;
  }

  pub good_All : (nesting : ℕ) (es : List FlatExpr) → is_nonempty es ≡ true → Each (IsGood vars Boolean nesting) es → IsGood vars Boolean nesting (All es)
  good_All nesting es some each = record {
    fine = record {
      shaped = shaped_at (All es) (FlatExpr-F.All es) (outs-All es) ∙ both_true _ _ (nonempty_mapped _ es ∙ some) (each_true (IsGood vars Boolean nesting) (is_shaped vars) (λ b. b) (λ e g. g.fine.shaped) es each);
      orders = λ limit around l. ordered_at limit (All es) (FlatExpr-F.All es) around (outs-All es) ∙ each_true (IsGood vars Boolean nesting) (orders_at limit) (λ f. f around) (λ e g. g.fine.orders limit around l) es each;
    };
    fits = ap is_truth (kind_at (All es) (FlatExpr-F.All es) (outs-All es)) ∙ ap (λ b. is_truth (where_holds b truth)) (each_true (IsGood vars Boolean nesting) (kind_of vars) is_truth (λ e g. g.fits) es each);
  }

  pub good_Any : (nesting : ℕ) (es : List FlatExpr) → is_nonempty es ≡ true → Each (IsGood vars Boolean nesting) es → IsGood vars Boolean nesting (Any es)
  good_Any nesting es some each = record {
    fine = record {
      shaped = shaped_at (Any es) (FlatExpr-F.Any es) (outs-Any es) ∙ both_true _ _ (nonempty_mapped _ es ∙ some) (each_true (IsGood vars Boolean nesting) (is_shaped vars) (λ b. b) (λ e g. g.fine.shaped) es each);
      orders = λ limit around l. ordered_at limit (Any es) (FlatExpr-F.Any es) around (outs-Any es) ∙ each_true (IsGood vars Boolean nesting) (orders_at limit) (λ f. f around) (λ e g. g.fine.orders limit around l) es each;
    };
    fits = ap is_truth (kind_at (Any es) (FlatExpr-F.Any es) (outs-Any es)) ∙ ap (λ b. is_truth (where_holds b truth)) (each_true (IsGood vars Boolean nesting) (kind_of vars) is_truth (λ e g. g.fits) es each);
  }

  pub good_If : (k : Kind) (nesting : ℕ) (bs : List (FlatExpr × FlatExpr)) (other : FlatExpr) → is_nonempty bs ≡ true → Each (λ b. IsGood vars Boolean nesting b.0 × IsGood vars k nesting b.1) bs → IsGood vars k nesting other → IsGood vars k nesting (If bs other)
  good_If k nesting bs other some each g = record {
    fine = record {
      shaped = shaped_at (If bs other) (FlatExpr-F.If bs other) (outs-If bs other)
          ∙ three _ _ _ (nonempty_mapped _ bs ∙ some) (each_true {A = FlatExpr × FlatExpr} {B = Bool × Bool} (λ b. IsGood vars Boolean nesting b.0 × IsGood vars k nesting b.1) (λ b. (is_shaped vars b.0, is_shaped vars b.1)) (λ b. b.0 && b.1) (λ b h. both_true _ _ h.0.fine.shaped h.1.fine.shaped) bs each) g.fine.shaped;
      orders = λ limit around l. ordered_at limit (If bs other) (FlatExpr-F.If bs other) around (outs-If bs other)
          ∙ both_true _ _ (each_true {A = FlatExpr × FlatExpr} {B = (ℕ → Bool) × (ℕ → Bool)} (λ b. IsGood vars Boolean nesting b.0 × IsGood vars k nesting b.1) (λ b. (orders_at limit b.0, orders_at limit b.1)) (λ b. b.0 around && b.1 around) (λ b h. both_true _ _ (h.0.fine.orders limit around l) (h.1.fine.orders limit around l)) bs each) (g.fine.orders limit around l);
    };
    fits = ap (fits_kind k) (kind_at (If bs other) (FlatExpr-F.If bs other) (outs-If bs other)) ∙ at;
  }
    where
      three : (a b c : Bool) → a ≡ true → b ≡ true → c ≡ true → (a && b && c) ≡ true
      three a b c p q r = rw (p, q, r) refl

      values : (bs : List (FlatExpr × FlatExpr)) → Each (λ b. IsGood vars Boolean nesting b.0 × IsGood vars k nesting b.1) bs → Each (λ kind. fits_kind k kind ≡ true) (map {A = Option FlatKind × Option FlatKind} (λ b. b.1) (map (λ b. (kind_of vars b.0, kind_of vars b.1)) bs))
      values [] e = tt
      values (b ∷ bs) e = (e.0.1.fits, values bs e.1)

      conditions : list_all {X = Option FlatKind × Option FlatKind} (λ b. is_truth b.0) (map (λ b. (kind_of vars b.0, kind_of vars b.1)) bs) ≡ true
      conditions = each_true {A = FlatExpr × FlatExpr} {B = Option FlatKind × Option FlatKind} (λ b. IsGood vars Boolean nesting b.0 × IsGood vars k nesting b.1) (λ b. (kind_of vars b.0, kind_of vars b.1)) (λ b. is_truth b.0) (λ b h. h.0.fits) bs each

      at : fits_kind k (kind_node vars (map-FlatExpr FlatExpr (Option FlatKind) (kind_of vars) (FlatExpr-F.If bs other))) ≡ true
      at = rw conditions (common_fits k (kind_of vars other) (map {A = Option FlatKind × Option FlatKind} (λ b. b.1) (map (λ b. (kind_of vars b.0, kind_of vars b.1)) bs)) (g.fits, values bs each))
