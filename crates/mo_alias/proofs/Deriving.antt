-- The derivative of an expression with other variables in the places of theirs is the derivative with these in their places.
use Rattle.std.proofs.Common.{◌≡◌, ℕ, ℤ, pos, Bool, true, false, List, [], ◌∷◌, ◌++◌, Option, Some, None, map, refl, sym, ap, ap₂, ◌∙◌, subst, true≢false, if◌then◌else◌}
use Rattle.std.specs.Prelude.{◌-ℤ◌, nat_eq}
use Rattle.std.specs.Ordering.{int_eq}
use Rattle.std.proofs.lemmas.List.{map-append}
use Rattle.mo_syntax.specs.declared.expr.RelOp.{RelOp}
use Rattle.mo_syntax.specs.declared.expr.RelOp.TheVariants.{Less, Greater, GreaterEqual}
use Rattle.mo_tables.specs.declared.functions.TheConstants.{ABS, ACOS, ASIN, ATAN, ATAN2, COS, COSH, EXP, LOG, LOG10, MAX, MIN, SIN, SINH, SQRT, TAN, TANH}
use Rattle.mo_flat.specs.declared.expr.FlatExpr.{FlatExpr, FlatExpr-F, fold-roll-FlatExpr, fold_out-FlatExpr, ind-FlatExpr, map-FlatExpr, out-FlatExpr, para-roll-FlatExpr, roll-FlatExpr}
use Rattle.mo_flat.specs.declared.expr.FlatExpr.TheVariants.{Whole, Var, Der, Sum, Product, Power, Call, Relation, Not, All, Any, If, rolls-Whole, rolls-Var, rolls-Der, rolls-Sum, rolls-Product, rolls-Power, rolls-Call, rolls-Relation, rolls-Not, rolls-All, rolls-Any, rolls-If}
use Rattle.mo_flat.specs.declared.expr.FlatExpr.TheVariants.{outs-Sum, outs-Var, rolls-Decimal, rolls-Literal, rolls-Str, rolls-Time, rolls-Truth, outs-Whole, outs-Decimal, outs-Str, outs-Truth, outs-Literal, outs-Time, outs-Der, outs-Product, outs-Power, outs-Call, outs-Relation, outs-Not, outs-All, outs-Any, outs-If}
use Rattle.mo_flat.specs.declared.model.FlatVar.{FlatVar}
use Rattle.mo_symdiff.specs.Carried.{carried, carry_node}
use Rattle.mo_symdiff.specs.Derivative.{Part, applied, args_slope, base_term, call_slope, call_slope_of_two, chosen, derive_node, derived, exponent_term, general_power, in_place, literal_at, literal_power, minus, moving_terms, negated, next_order, one, over, plain_factors, plus, power_by, power_slope, product_terms, replaced_factor, slope_node, squared, sum_of, times, two}
use Rattle.mo_symdiff.specs.Still.{is_still, still_node}
use Rattle.mo_symdiff.proofs.SigmaGather.{folds_related, mapped, map_map, Related}
use Rattle.mo_alias.specs.Without.{order_of, replace_node, replaced}
use Rattle.mo_alias.proofs.Replacing.{IsOther, other_node, other_still, same_node, still_same}

abbrev IsDer : {X : Type 0} → FlatExpr-F X → Type 0
IsDer (FlatExpr-F.Der a) = Unit {0}
IsDer _ = ⊥

module _ (place : ℕ → Bool × ℕ) where
  -- ---- by constructors

  abbrev rep : FlatExpr → FlatExpr
  rep = replaced place

  abbrev signed_rep : Bool × FlatExpr → Bool × FlatExpr
  signed_rep t = (t.0, replaced place t.1)

  pub at_Sum : (ts : List (Bool × FlatExpr)) → replaced place (Sum ts) ≡ Sum (map (λ t. (t.0, replaced place t.1)) ts)
  at_Sum ts = ap (replaced place) (sym (rolls-Sum ts)) ∙ fold-roll-FlatExpr FlatExpr (replace_node place) (FlatExpr-F.Sum ts) ∙ rolls-Sum (map (λ t. (t.0, replaced place t.1)) ts)

  pub at_Product : (ts : List (Bool × FlatExpr)) → replaced place (Product ts) ≡ Product (map (λ t. (t.0, replaced place t.1)) ts)
  at_Product ts = ap (replaced place) (sym (rolls-Product ts)) ∙ fold-roll-FlatExpr FlatExpr (replace_node place) (FlatExpr-F.Product ts) ∙ rolls-Product (map (λ t. (t.0, replaced place t.1)) ts)

  pub at_Whole : (n : ℤ) → replaced place (Whole n) ≡ Whole n
  at_Whole n = ap (replaced place) (sym (rolls-Whole n)) ∙ fold-roll-FlatExpr FlatExpr (replace_node place) (FlatExpr-F.Whole n) ∙ rolls-Whole n

  pub at_Der : (a : FlatExpr) → replaced place (Der a) ≡ Der (replaced place a)
  at_Der a = ap (replaced place) (sym (rolls-Der a)) ∙ fold-roll-FlatExpr FlatExpr (replace_node place) (FlatExpr-F.Der a) ∙ rolls-Der (replaced place a)

  pub at_Power : (a b : FlatExpr) → replaced place (Power a b) ≡ Power (replaced place a) (replaced place b)
  at_Power a b = ap (replaced place) (sym (rolls-Power a b)) ∙ fold-roll-FlatExpr FlatExpr (replace_node place) (FlatExpr-F.Power a b) ∙ rolls-Power (replaced place a) (replaced place b)

  pub at_Call : (k : ℕ) (es : List FlatExpr) → replaced place (Call k es) ≡ Call k (map (replaced place) es)
  at_Call k es = ap (replaced place) (sym (rolls-Call k es)) ∙ fold-roll-FlatExpr FlatExpr (replace_node place) (FlatExpr-F.Call k es) ∙ rolls-Call k (map (replaced place) es)

  pub at_Relation : (op : RelOp) (a b : FlatExpr) → replaced place (Relation op a b) ≡ Relation op (replaced place a) (replaced place b)
  at_Relation op a b = ap (replaced place) (sym (rolls-Relation op a b)) ∙ fold-roll-FlatExpr FlatExpr (replace_node place) (FlatExpr-F.Relation op a b) ∙ rolls-Relation op (replaced place a) (replaced place b)

  pub at_Not : (a : FlatExpr) → replaced place (Not a) ≡ Not (replaced place a)
  at_Not a = ap (replaced place) (sym (rolls-Not a)) ∙ fold-roll-FlatExpr FlatExpr (replace_node place) (FlatExpr-F.Not a) ∙ rolls-Not (replaced place a)

  pub at_All : (es : List FlatExpr) → replaced place (All es) ≡ All (map (replaced place) es)
  at_All es = ap (replaced place) (sym (rolls-All es)) ∙ fold-roll-FlatExpr FlatExpr (replace_node place) (FlatExpr-F.All es) ∙ rolls-All (map (replaced place) es)

  pub at_Any : (es : List FlatExpr) → replaced place (Any es) ≡ Any (map (replaced place) es)
  at_Any es = ap (replaced place) (sym (rolls-Any es)) ∙ fold-roll-FlatExpr FlatExpr (replace_node place) (FlatExpr-F.Any es) ∙ rolls-Any (map (replaced place) es)

  pub at_If : (bs : List (FlatExpr × FlatExpr)) (o : FlatExpr) → replaced place (If bs o) ≡ If (map (λ b. (replaced place b.0, replaced place b.1)) bs) (replaced place o)
  at_If bs o = ap (replaced place) (sym (rolls-If bs o)) ∙ fold-roll-FlatExpr FlatExpr (replace_node place) (FlatExpr-F.If bs o) ∙ rolls-If (map (λ b. (replaced place b.0, replaced place b.1)) bs) (replaced place o)

  pub at_Var : (v k : ℕ) → replaced place (Var v k) ≡ order_of (place v) k
  at_Var v k = ap (replaced place) (sym (rolls-Var v k)) ∙ fold-roll-FlatExpr FlatExpr (replace_node place) (FlatExpr-F.Var v k)

  -- ---- the forms of the table of derivatives

  at_times : (a b : FlatExpr) → replaced place (times (a ∷ b ∷ [])) ≡ times (replaced place a ∷ replaced place b ∷ [])
  at_times a b = at_Product ((false, a) ∷ (false, b) ∷ [])

  at_times_three : (a b c : FlatExpr) → replaced place (times (a ∷ b ∷ c ∷ [])) ≡ times (replaced place a ∷ replaced place b ∷ replaced place c ∷ [])
  at_times_three a b c = at_Product ((false, a) ∷ (false, b) ∷ (false, c) ∷ [])

  at_over : (a b : FlatExpr) → replaced place (over a b) ≡ over (replaced place a) (replaced place b)
  at_over a b = at_Product ((false, a) ∷ (true, b) ∷ [])

  at_plus : (a b : FlatExpr) → replaced place (plus a b) ≡ plus (replaced place a) (replaced place b)
  at_plus a b = at_Sum ((false, a) ∷ (false, b) ∷ [])

  at_minus : (a b : FlatExpr) → replaced place (minus a b) ≡ minus (replaced place a) (replaced place b)
  at_minus a b = at_Sum ((false, a) ∷ (true, b) ∷ [])

  at_negated : (a : FlatExpr) → replaced place (negated a) ≡ negated (replaced place a)
  at_negated a = at_Sum ((true, a) ∷ [])

  at_applied : (k : ℕ) (a : FlatExpr) → replaced place (applied k a) ≡ applied k (replaced place a)
  at_applied k a = at_Call k (a ∷ [])

  at_squared : (a : FlatExpr) → replaced place (squared a) ≡ squared (replaced place a)
  at_squared a = at_Power a two ∙ ap (λ x. Power (replaced place a) x) (at_Whole (pos 2))

  at_chosen : (op : RelOp) (a b u v : FlatExpr) → replaced place (chosen op a b u v) ≡ chosen op (replaced place a) (replaced place b) (replaced place u) (replaced place v)
  at_chosen op a b u v = at_If ((Relation op a b, u) ∷ []) v ∙ ap (λ c. If ((c, replaced place u) ∷ []) (replaced place v)) (at_Relation op a b)

  -- a choice
  row : (b : Bool) (x y s t : FlatExpr) → s ≡ replaced place x → t ≡ replaced place y → (if b then s else t) ≡ replaced place (if b then x else y)
  row true x y s t p q = p
  row false x y s t p q = q

  row_by : (b c : Bool) → c ≡ b → (x y s t : FlatExpr) → s ≡ replaced place x → t ≡ replaced place y → (if c then s else t) ≡ replaced place (if b then x else y)
  row_by b c e x y s t p q = rw e (row b x y s t p q)

  one_less : (u : FlatExpr) → replaced place (applied SQRT (minus one (squared u))) ≡ applied SQRT (minus one (squared (replaced place u)))
  one_less u = at_applied SQRT (minus one (squared u)) ∙ ap (applied SQRT) (at_minus one (squared u) ∙ ap₂ minus (at_Whole (pos 1)) (at_squared u))

  -- functions of one argument and of two
  call_same : (f : ℕ) (u d : FlatExpr) → call_slope f (replaced place u, replaced place d) ≡ replaced place (call_slope f (u, d))
  call_same f u d =
      row (nat_eq f SIN) _ _ _ _ (sym (at_times (applied COS u) d ∙ ap (λ x. times (x ∷ rep d ∷ [])) (at_applied COS u))) (
      row (nat_eq f COS) _ _ _ _ (sym (at_negated (times (applied SIN u ∷ d ∷ [])) ∙ ap negated (at_times (applied SIN u) d ∙ ap (λ x. times (x ∷ rep d ∷ [])) (at_applied SIN u)))) (
      row (nat_eq f TAN) _ _ _ _ (sym (at_over d (squared (applied COS u)) ∙ ap (over (rep d)) (at_squared (applied COS u) ∙ ap squared (at_applied COS u)))) (
      row (nat_eq f ASIN) _ _ _ _ (sym (at_over d (applied SQRT (minus one (squared u))) ∙ ap (over (rep d)) (one_less u))) (
      row (nat_eq f ACOS) _ _ _ _ (sym (at_negated (over d (applied SQRT (minus one (squared u)))) ∙ ap negated (at_over d (applied SQRT (minus one (squared u))) ∙ ap (over (rep d)) (one_less u)))) (
      row (nat_eq f ATAN) _ _ _ _ (sym (at_over d (plus one (squared u)) ∙ ap (over (rep d)) (at_plus one (squared u) ∙ ap₂ plus (at_Whole (pos 1)) (at_squared u)))) (
      row (nat_eq f SINH) _ _ _ _ (sym (at_times (applied COSH u) d ∙ ap (λ x. times (x ∷ rep d ∷ [])) (at_applied COSH u))) (
      row (nat_eq f COSH) _ _ _ _ (sym (at_times (applied SINH u) d ∙ ap (λ x. times (x ∷ rep d ∷ [])) (at_applied SINH u))) (
      row (nat_eq f TANH) _ _ _ _ (sym (at_over d (squared (applied COSH u)) ∙ ap (over (rep d)) (at_squared (applied COSH u) ∙ ap squared (at_applied COSH u)))) (
      row (nat_eq f EXP) _ _ _ _ (sym (at_times (applied EXP u) d ∙ ap (λ x. times (x ∷ rep d ∷ [])) (at_applied EXP u))) (
      row (nat_eq f LOG) _ _ _ _ (sym (at_over d u)) (
      row (nat_eq f LOG10) _ _ _ _ (sym (at_over d (times (u ∷ applied LOG (Whole (pos 10)) ∷ [])) ∙ ap (over (rep d)) (at_times u (applied LOG (Whole (pos 10))) ∙ ap (λ x. times (rep u ∷ x ∷ [])) (at_applied LOG (Whole (pos 10)) ∙ ap (applied LOG) (at_Whole (pos 10)))))) (
      row (nat_eq f SQRT) _ _ _ _ (sym (at_over d (times (two ∷ applied SQRT u ∷ [])) ∙ ap (over (rep d)) (at_times two (applied SQRT u) ∙ ap₂ (λ x y. times (x ∷ y ∷ [])) (at_Whole (pos 2)) (at_applied SQRT u)))) (
      row (nat_eq f ABS) _ _ _ _ (sym (at_chosen GreaterEqual u (Whole (pos 0)) d (negated d) ∙ ap₂ (λ x y. chosen GreaterEqual (rep u) x (rep d) y) (at_Whole (pos 0)) (at_negated d))) (
      sym (at_applied f d)))))))))))))))

  call_same_two : (f : ℕ) (a p b q : FlatExpr) → call_slope_of_two f (replaced place a, replaced place p) (replaced place b, replaced place q) ≡ replaced place (call_slope_of_two f (a, p) (b, q))
  call_same_two f a p b q =
      row (nat_eq f ATAN2) _ _ _ _ (sym (at_over (minus (times (p ∷ b ∷ [])) (times (a ∷ q ∷ []))) (plus (squared a) (squared b))
      ∙ ap₂ over (at_minus (times (p ∷ b ∷ [])) (times (a ∷ q ∷ [])) ∙ ap₂ minus (at_times p b) (at_times a q)) (at_plus (squared a) (squared b) ∙ ap₂ plus (at_squared a) (at_squared b)))) (
      row (nat_eq f MIN) _ _ _ _ (sym (at_chosen Less a b p q)) (
      row (nat_eq f MAX) _ _ _ _ (sym (at_chosen Greater a b p q)) (
      sym (at_Call f (p ∷ q ∷ [])))))

  abbrev both : Part → Part
  both p = (replaced place p.0, replaced place p.1)

  args_same : (f : ℕ) (es : List Part) → args_slope f (map (λ (p : Part). (replaced place p.0, replaced place p.1)) es) ≡ replaced place (args_slope f es)
  args_same f [] = sym (at_Call f [])
  args_same f (u ∷ []) = call_same f u.0 u.1
  args_same f (a ∷ b ∷ []) = call_same_two f a.0 a.1 b.0 b.1
  args_same f (a ∷ b ∷ c ∷ es) =
      ap (λ l. Call f l) (map_map (λ (p : Part). p.1) (λ (p : Part). (replaced place p.0, replaced place p.1)) (a ∷ b ∷ c ∷ es) ∙ sym (map_map (replaced place) (λ (p : Part). p.1) (a ∷ b ∷ c ∷ es)))
      ∙ sym (at_Call f (map (λ (p : Part). p.1) (a ∷ b ∷ c ∷ es)))

  sum_same : (us : List (Bool × FlatExpr)) → sum_of (map (λ t. (t.0, replaced place t.1)) us) ≡ replaced place (sum_of us)
  sum_same [] = sym (at_Sum [])
  sum_same ((false, u) ∷ []) = refl
  sum_same ((true, u) ∷ []) = sym (at_Sum ((true, u) ∷ []))
  sum_same ((false, u) ∷ t ∷ us) = sym (at_Sum ((false, u) ∷ t ∷ us))
  sum_same ((true, u) ∷ t ∷ us) = sym (at_Sum ((true, u) ∷ t ∷ us))

  -- an Integer literal stays one
  order_literal : (at : Bool × ℕ) (k : ℕ) → literal_at (out-FlatExpr (order_of at k)) ≡ None
  order_literal (false, v) k = ap literal_at (outs-Var v k)
  order_literal (true, v) k = ap literal_at (outs-Sum ((true, Var v k) ∷ []))

  literal_node : (n : FlatExpr-F FlatExpr) → literal_at (out-FlatExpr (replace_node place (map-FlatExpr FlatExpr FlatExpr (replaced place) n))) ≡ literal_at n
  literal_node (FlatExpr-F.Var v k) = order_literal (place v) k
  literal_node (FlatExpr-F.Whole i) = ap (λ e. literal_at (out-FlatExpr e)) (rolls-Whole i) ∙ ap literal_at (outs-Whole i)
  literal_node (FlatExpr-F.Decimal x) = ap (λ e. literal_at (out-FlatExpr e)) (rolls-Decimal x) ∙ ap literal_at (outs-Decimal x)
  literal_node (FlatExpr-F.Str x) = ap (λ e. literal_at (out-FlatExpr e)) (rolls-Str x) ∙ ap literal_at (outs-Str x)
  literal_node (FlatExpr-F.Truth b) = ap (λ e. literal_at (out-FlatExpr e)) (rolls-Truth b) ∙ ap literal_at (outs-Truth b)
  literal_node (FlatExpr-F.Literal x) = ap (λ e. literal_at (out-FlatExpr e)) (rolls-Literal x) ∙ ap literal_at (outs-Literal x)
  literal_node FlatExpr-F.Time = ap (λ e. literal_at (out-FlatExpr e)) rolls-Time ∙ ap literal_at outs-Time
  literal_node (FlatExpr-F.Der a) = ap (λ e. literal_at (out-FlatExpr e)) (rolls-Der (replaced place a)) ∙ ap literal_at (outs-Der (replaced place a))
  literal_node (FlatExpr-F.Sum ts) = ap (λ e. literal_at (out-FlatExpr e)) (rolls-Sum (map (λ t. (t.0, replaced place t.1)) ts)) ∙ ap literal_at (outs-Sum (map (λ t. (t.0, replaced place t.1)) ts))
  literal_node (FlatExpr-F.Product ts) = ap (λ e. literal_at (out-FlatExpr e)) (rolls-Product (map (λ t. (t.0, replaced place t.1)) ts)) ∙ ap literal_at (outs-Product (map (λ t. (t.0, replaced place t.1)) ts))
  literal_node (FlatExpr-F.Power a b) = ap (λ e. literal_at (out-FlatExpr e)) (rolls-Power (replaced place a) (replaced place b)) ∙ ap literal_at (outs-Power (replaced place a) (replaced place b))
  literal_node (FlatExpr-F.Call k es) = ap (λ e. literal_at (out-FlatExpr e)) (rolls-Call k (map (replaced place) es)) ∙ ap literal_at (outs-Call k (map (replaced place) es))
  literal_node (FlatExpr-F.Relation op a b) = ap (λ e. literal_at (out-FlatExpr e)) (rolls-Relation op (replaced place a) (replaced place b)) ∙ ap literal_at (outs-Relation op (replaced place a) (replaced place b))
  literal_node (FlatExpr-F.Not a) = ap (λ e. literal_at (out-FlatExpr e)) (rolls-Not (replaced place a)) ∙ ap literal_at (outs-Not (replaced place a))
  literal_node (FlatExpr-F.All es) = ap (λ e. literal_at (out-FlatExpr e)) (rolls-All (map (replaced place) es)) ∙ ap literal_at (outs-All (map (replaced place) es))
  literal_node (FlatExpr-F.Any es) = ap (λ e. literal_at (out-FlatExpr e)) (rolls-Any (map (replaced place) es)) ∙ ap literal_at (outs-Any (map (replaced place) es))
  literal_node (FlatExpr-F.If bs o) = ap (λ e. literal_at (out-FlatExpr e)) (rolls-If (map (λ b. (replaced place b.0, replaced place b.1)) bs) (replaced place o)) ∙ ap literal_at (outs-If (map (λ b. (replaced place b.0, replaced place b.1)) bs) (replaced place o))

  literal_same : (e : FlatExpr) → literal_at (out-FlatExpr (replaced place e)) ≡ literal_at (out-FlatExpr e)
  literal_same e = ap (λ x. literal_at (out-FlatExpr x)) (fold_out-FlatExpr FlatExpr (replace_node place) e) ∙ literal_node (out-FlatExpr e)

  literal_power_same : (n : ℤ) (a d : FlatExpr) → literal_power n (replaced place a, replaced place d) ≡ replaced place (literal_power n (a, d))
  literal_power_same n a d =
      row (int_eq n (pos 2)) _ _ _ _
      (sym (at_times_three two a d ∙ ap (λ x. times (x ∷ rep a ∷ rep d ∷ [])) (at_Whole (pos 2))))
      (sym (at_times_three (Whole n) (Power a (Whole (n -ℤ pos 1))) d
      ∙ ap₂ (λ x y. times (x ∷ y ∷ rep d ∷ [])) (at_Whole n) (at_Power a (Whole (n -ℤ pos 1)) ∙ ap (λ x. Power (rep a) x) (at_Whole (n -ℤ pos 1)))))

  base_same : (a d b : FlatExpr) → base_term (replaced place a, replaced place d) (replaced place b) ≡ replaced place (base_term (a, d) b)
  base_same a d b =
      sym (at_times_three b (Power a (minus b one)) d
      ∙ ap (λ x. times (rep b ∷ x ∷ rep d ∷ [])) (at_Power a (minus b one) ∙ ap (λ x. Power (rep a) x) (at_minus b one ∙ ap (minus (rep b)) (at_Whole (pos 1)))))

  exponent_same : (a b d : FlatExpr) → exponent_term (replaced place a) (replaced place b, replaced place d) ≡ replaced place (exponent_term a (b, d))
  exponent_same a b d =
      sym (at_times_three (Power a b) (applied LOG a) d ∙ ap₂ (λ x y. times (x ∷ y ∷ rep d ∷ [])) (at_Power a b) (at_applied LOG a))

  in_place_same : (divides : Bool) (f d : FlatExpr) → in_place divides (replaced place f) (replaced place d) ≡ map (λ t. (t.0, replaced place t.1)) (in_place divides f d)
  in_place_same false f d = refl
  in_place_same true f d = refl

  plain_same : (fs : List (Bool × Part)) → plain_factors (map (λ (t : Bool × Part). (t.0, (replaced place t.1.0, replaced place t.1.1))) fs) ≡ map (λ t. (t.0, replaced place t.1)) (plain_factors fs)
  plain_same [] = refl
  plain_same (f ∷ fs) = ap (λ l. (f.0, replaced place f.1.0) ∷ l) (plain_same fs)

  factor_same : (before after : List (Bool × FlatExpr)) (f : Bool × Part)
      → replaced_factor (map (λ t. (t.0, replaced place t.1)) before) (f.0, (replaced place f.1.0, replaced place f.1.1)) (map (λ t. (t.0, replaced place t.1)) after)
      ≡ (f.0, replaced place (replaced_factor before f after).1)
  factor_same before after (divides, (f, d)) =
      ap (λ x. (divides, x)) (
      ap (λ l. Product (map (λ t. (t.0, replaced place t.1)) before ++ (l ++ map (λ t. (t.0, replaced place t.1)) after))) (in_place_same divides f d)
      ∙ ap (λ l. Product (map (λ t. (t.0, replaced place t.1)) before ++ l)) (sym (map-append (λ t. (t.0, replaced place t.1)) (in_place divides f d) after))
      ∙ ap (λ l. Product l) (sym (map-append (λ t. (t.0, replaced place t.1)) before (in_place divides f d ++ after)))
      ∙ sym (at_Product (before ++ (in_place divides f d ++ after))))

  module _ (vars new : List FlatVar) (same : (v k : ℕ) → is_still new (order_of (place v) k) ≡ still_node vars (FlatExpr-F.Var v k)) where
    still : (e : FlatExpr) → is_still new (replaced place e) ≡ is_still vars e
    still = still_same place vars new same

    moving_same : (ts : List (Bool × Part)) → moving_terms new (map (λ (t : Bool × Part). (t.0, (replaced place t.1.0, replaced place t.1.1))) ts) ≡ map (λ t. (t.0, replaced place t.1)) (moving_terms vars ts)
    moving_same [] = refl
    moving_same (t ∷ ts) = rw (still t.1.0, moving_same ts) (by (is_still vars t.1.0))
      where
        by : (b : Bool) → (if b then map {B = Bool × FlatExpr} (λ u. (u.0, replaced place u.1)) (moving_terms vars ts) else (t.0, replaced place t.1.1) ∷ map {B = Bool × FlatExpr} (λ u. (u.0, replaced place u.1)) (moving_terms vars ts))
            ≡ map {B = Bool × FlatExpr} (λ u. (u.0, replaced place u.1)) (if b then moving_terms vars ts else (t.0, t.1.1) ∷ moving_terms vars ts)
        by true = refl
        by false = refl

    product_same : (before : List (Bool × FlatExpr)) (fs : List (Bool × Part))
        → product_terms new (map (λ t. (t.0, replaced place t.1)) before) (map (λ (t : Bool × Part). (t.0, (replaced place t.1.0, replaced place t.1.1))) fs)
        ≡ map (λ t. (t.0, replaced place t.1)) (product_terms vars before fs)
    product_same before [] = refl
    product_same before (f ∷ fs) =
        let more : map (λ t. (t.0, replaced place t.1)) before ++ (f.0, replaced place f.1.0) ∷ [] ≡ map (λ t. (t.0, replaced place t.1)) (before ++ (f.0, f.1.0) ∷ []) =
        sym (map-append (λ t. (t.0, replaced place t.1)) before ((f.0, f.1.0) ∷ [])) in
        let rest = ap (λ l. product_terms new l (map (λ (t : Bool × Part). (t.0, (replaced place t.1.0, replaced place t.1.1))) fs)) more ∙ product_same (before ++ (f.0, f.1.0) ∷ []) fs in
        let here = ap (λ l. replaced_factor (map (λ t. (t.0, replaced place t.1)) before) (f.0, (replaced place f.1.0, replaced place f.1.1)) l) (plain_same fs) ∙ factor_same before (plain_factors fs) f in
        rw (still f.1.0) (by (is_still vars f.1.0) _ _ _ _ rest here)
      where
        by : (b : Bool) (xs ys : List (Bool × FlatExpr)) (x y : Bool × FlatExpr) → xs ≡ map (λ t. (t.0, replaced place t.1)) ys → x ≡ (y.0, replaced place y.1)
            → (if b then xs else x ∷ xs) ≡ map (λ t. (t.0, replaced place t.1)) (if b then ys else y ∷ ys)
        by true xs ys x y p q = p
        by false xs ys x y p q = ap₂ (λ u us. u ∷ us) q p

    general_same : (a d b s : FlatExpr) → general_power new (replaced place a, replaced place d) (replaced place b, replaced place s) ≡ replaced place (general_power vars (a, d) (b, s))
    general_same a d b s =
        row_by (is_still vars b) (is_still new (replaced place b)) (still b) _ _ _ _ (base_same a d b)
        (row_by (is_still vars a) (is_still new (replaced place a)) (still a) _ _ _ _ (exponent_same a b s)
        (sym (at_plus (base_term (a, d) b) (exponent_term a (b, s)) ∙ ap₂ plus (sym (base_same a d b)) (sym (exponent_same a b s)))))

    power_by_same : (o : Option ℤ) (a d b s : FlatExpr) → power_by new o (replaced place a, replaced place d) (replaced place b, replaced place s) ≡ replaced place (power_by vars o (a, d) (b, s))
    power_by_same None a d b s = general_same a d b s
    power_by_same (Some n) a d b s = literal_power_same n a d

    power_same : (a d b s : FlatExpr) → power_slope new (replaced place a, replaced place d) (replaced place b, replaced place s) ≡ replaced place (power_slope vars (a, d) (b, s))
    power_same a d b s =
        ap (λ o. power_by new o (replaced place a, replaced place d) (replaced place b, replaced place s)) (literal_same b) ∙ power_by_same (literal_at (out-FlatExpr b)) a d b s

    -- ---- a node that is no variable

    slope_same : (n : FlatExpr-F Part) → IsOther n → slope_node new (map-FlatExpr Part Part (λ p. (replaced place p.0, replaced place p.1)) n) ≡ replaced place (slope_node vars n)
    slope_same (FlatExpr-F.Var v k) other = absurd other
    slope_same (FlatExpr-F.Whole i) other = sym (at_Whole (pos 0))
    slope_same (FlatExpr-F.Decimal x) other = sym (at_Whole (pos 0))
    slope_same (FlatExpr-F.Str x) other = sym (at_Whole (pos 0))
    slope_same (FlatExpr-F.Truth b) other = sym (at_Whole (pos 0))
    slope_same (FlatExpr-F.Literal x) other = sym (at_Whole (pos 0))
    slope_same FlatExpr-F.Time other = sym (at_Whole (pos 1))
    slope_same (FlatExpr-F.Der a) other = sym (at_Der a.1)
    slope_same (FlatExpr-F.Sum ts) other = ap sum_of (moving_same ts) ∙ sum_same (moving_terms vars ts)
    slope_same (FlatExpr-F.Product ts) other = ap sum_of (product_same [] ts) ∙ sum_same (product_terms vars [] ts)
    slope_same (FlatExpr-F.Power a b) other = power_same a.0 a.1 b.0 b.1
    slope_same (FlatExpr-F.Call k es) other = args_same k es
    slope_same (FlatExpr-F.Relation op a b) other = sym (at_Relation op a.1 b.1)
    slope_same (FlatExpr-F.Not a) other = sym (at_Not a.1)
    slope_same (FlatExpr-F.All es) other =
        ap (λ l. All l) (map_map (λ (p : Part). p.1) (λ (p : Part). (replaced place p.0, replaced place p.1)) es ∙ sym (map_map (replaced place) (λ (p : Part). p.1) es)) ∙ sym (at_All (map (λ (p : Part). p.1) es))
    slope_same (FlatExpr-F.Any es) other =
        ap (λ l. Any l) (map_map (λ (p : Part). p.1) (λ (p : Part). (replaced place p.0, replaced place p.1)) es ∙ sym (map_map (replaced place) (λ (p : Part). p.1) es)) ∙ sym (at_Any (map (λ (p : Part). p.1) es))
    slope_same (FlatExpr-F.If bs o) other =
        ap (λ l. If l (replaced place o.1)) (map_map (λ (b : Part × Part). (b.0.0, b.1.1)) (λ (b : Part × Part). ((replaced place b.0.0, replaced place b.0.1), (replaced place b.1.0, replaced place b.1.1))) bs
        ∙ sym (map_map (λ (b : FlatExpr × FlatExpr). (replaced place b.0, replaced place b.1)) (λ (b : Part × Part). (b.0.0, b.1.1)) bs))
        ∙ sym (at_If (map (λ (b : Part × Part). (b.0.0, b.1.1)) bs) o.1)

    derive_same : (n : FlatExpr-F Part) → IsOther n → IsOther (map-FlatExpr Part Bool (λ p. is_still vars p.0) n) → derive_node new (map-FlatExpr Part Part (λ p. (replaced place p.0, replaced place p.1)) n) ≡ replaced place (derive_node vars n)
    derive_same n other also =
        row_by (still_node vars (map-FlatExpr Part Bool (λ p. is_still vars p.0) n)) (still_node new (map-FlatExpr Part Bool (λ p. is_still new p.0) (map-FlatExpr Part Part (λ p. (replaced place p.0, replaced place p.1)) n)))
        (ap (still_node new) (mapped Part Part Bool (λ p. is_still new p.0) (λ p. (replaced place p.0, replaced place p.1)) n ∙ same_node Part Bool (λ p. is_still new (replaced place p.0)) (λ p. is_still vars p.0) (λ p. still p.0) n)
        ∙ other_still vars new (map-FlatExpr Part Bool (λ p. is_still vars p.0) n) also)
        (Whole (pos 0)) (slope_node vars n) (Whole (pos 0)) (slope_node new (map-FlatExpr Part Part (λ p. (replaced place p.0, replaced place p.1)) n)) (sym (at_Whole (pos 0))) (slope_same n other)

    module _ (moves : (v k : ℕ) → (place v).0 ≡ true → still_node vars (FlatExpr-F.Var v k) ≡ false) where
      -- a variable
      derived_var : (vs : List FlatVar) (n k : ℕ) → derived vs (Var n k) ≡ (if still_node vs (FlatExpr-F.Var n k) then Whole (pos 0) else Var n (next_order k))
      derived_var vs n k = ap (derived vs) (sym (rolls-Var n k)) ∙ para-roll-FlatExpr FlatExpr (derive_node vs) (FlatExpr-F.Var n k)

      still_var : (vs : List FlatVar) (n k : ℕ) → is_still vs (Var n k) ≡ still_node vs (FlatExpr-F.Var n k)
      still_var vs n k = ap (is_still vs) (sym (rolls-Var n k)) ∙ fold-roll-FlatExpr Bool (still_node vs) (FlatExpr-F.Var n k)

      still_minus : (n k : ℕ) → is_still new (Sum ((true, Var n k) ∷ [])) ≡ (if is_still new (Var n k) then true else false)
      still_minus n k = ap (is_still new) (sym (rolls-Sum ((true, Var n k) ∷ []))) ∙ fold-roll-FlatExpr Bool (still_node new) (FlatExpr-F.Sum ((true, Var n k) ∷ [])) ∙ by (is_still new (Var n k))
        where
          by : (b : Bool) → still_node new (FlatExpr-F.Sum ((true, b) ∷ [])) ≡ (if b then true else false)
          by true = refl
          by false = refl

      at_choice : (b : Bool) (v k : ℕ) → replaced place (if b then Whole (pos 0) else Var v (next_order k)) ≡ (if b then Whole (pos 0) else order_of (place v) (next_order k))
      at_choice true v k = at_Whole (pos 0)
      at_choice false v k = at_Var v (next_order k)

      derived_place : (at : Bool × ℕ) (v k : ℕ) → place v ≡ at → derived new (order_of at k) ≡ (if still_node vars (FlatExpr-F.Var v k) then Whole (pos 0) else order_of at (next_order k))
      derived_place (false, n) v k is =
          derived_var new n k
          ∙ ap (λ b. if b then Whole (pos 0) else Var n (next_order k)) (sym (still_var new n k) ∙ subst (λ at. is_still new (order_of at k) ≡ still_node vars (FlatExpr-F.Var v k)) is (same v k))
      derived_place (true, n) v k is =
          let not-still : still_node vars (FlatExpr-F.Var v k) ≡ false = moves v k (ap (λ at. at.0) is) in
          let inner : is_still new (Var n k) ≡ false = by (is_still new (Var n k)) (sym (still_minus n k) ∙ subst (λ at. is_still new (order_of at k) ≡ still_node vars (FlatExpr-F.Var v k)) is (same v k) ∙ not-still) in
          let var : derived new (Var n k) ≡ Var n (next_order k) = derived_var new n k ∙ ap (λ b. if b then Whole (pos 0) else Var n (next_order k)) (sym (still_var new n k) ∙ inner) in
          ap (derived new) (sym (rolls-Sum ((true, Var n k) ∷ []))) ∙ para-roll-FlatExpr FlatExpr (derive_node new) (FlatExpr-F.Sum ((true, Var n k) ∷ []))
          ∙ step (is_still new (Var n k)) (derived new (Var n k)) inner ∙ ap (λ x. Sum ((true, x) ∷ [])) var
          ∙ ap (λ b. if b then Whole (pos 0) else Sum ((true, Var n (next_order k)) ∷ [])) (sym not-still)
        where
          by : (b : Bool) → (if b then true else false) ≡ false → b ≡ false
          by true e = e
          by false e = refl

          step : (b : Bool) (x : FlatExpr) → b ≡ false → (if still_node new (FlatExpr-F.Sum ((true, b) ∷ [])) then Whole (pos 0) else sum_of (if b then [] else (true, x) ∷ [])) ≡ Sum ((true, x) ∷ [])
          step true x e = absurd (true≢false e)
          step false x e = refl

      var_same : (v k : ℕ) → derived new (replaced place (roll-FlatExpr (FlatExpr-F.Var v k))) ≡ replaced place (derived vars (roll-FlatExpr (FlatExpr-F.Var v k)))
      var_same v k =
          ap (derived new) (fold-roll-FlatExpr FlatExpr (replace_node place) (FlatExpr-F.Var v k)) ∙ derived_place (place v) v k refl
          ∙ sym (ap (replaced place) (para-roll-FlatExpr FlatExpr (derive_node vars) (FlatExpr-F.Var v k)) ∙ at_choice (still_node vars (FlatExpr-F.Var v k)) v k)

      -- ---- the whole

      Same : FlatExpr → Type 0
      Same e = derived new (replaced place e) ≡ replaced place (derived vars e)

      abbrev Known : Type 0
      Known = (e : FlatExpr) × (derived new (replaced place e) ≡ replaced place (derived vars e))

      node_same : (y : FlatExpr-F ((e : FlatExpr) × (derived new (replaced place e) ≡ replaced place (derived vars e))))
          → IsOther (map-FlatExpr FlatExpr FlatExpr (replaced place) (map-FlatExpr Known FlatExpr (λ t. t.0) y)) → IsOther (map-FlatExpr Known Part (λ t. (t.0, derived vars t.0)) y)
          → IsOther (map-FlatExpr Part Bool (λ p. is_still vars p.0) (map-FlatExpr Known Part (λ t. (t.0, derived vars t.0)) y))
          → derived new (replaced place (roll-FlatExpr (map-FlatExpr Known FlatExpr (λ t. t.0) y))) ≡ replaced place (derived vars (roll-FlatExpr (map-FlatExpr Known FlatExpr (λ t. t.0) y)))
      node_same y first other also =
          let x : FlatExpr-F FlatExpr = map-FlatExpr Known FlatExpr (λ t. t.0) y in
          let n : FlatExpr-F Part = map-FlatExpr Known Part (λ t. (t.0, derived vars t.0)) y in
          ap (derived new) (fold-roll-FlatExpr FlatExpr (replace_node place) x ∙ other_node place (map-FlatExpr FlatExpr FlatExpr (replaced place) x) first)
          ∙ para-roll-FlatExpr FlatExpr (derive_node new) (map-FlatExpr FlatExpr FlatExpr (replaced place) x)
          ∙ ap (derive_node new) (
          mapped FlatExpr FlatExpr Part (λ z. (z, derived new z)) (replaced place) x
          ∙ mapped Known FlatExpr Part (λ e. (replaced place e, derived new (replaced place e))) (λ t. t.0) y
          ∙ same_node Known Part (λ t. (replaced place t.0, derived new (replaced place t.0))) (λ t. (replaced place t.0, replaced place (derived vars t.0))) (λ t. ap (λ d. (replaced place t.0, d)) t.1) y
          ∙ sym (mapped Known Part Part (λ p. (replaced place p.0, replaced place p.1)) (λ t. (t.0, derived vars t.0)) y))
          ∙ derive_same n other also
          ∙ ap (replaced place) (sym (para-roll-FlatExpr FlatExpr (derive_node vars) x ∙ ap (derive_node vars) (mapped Known FlatExpr Part (λ e. (e, derived vars e)) (λ t. t.0) y)))

      known_same : (y : FlatExpr-F ((e : FlatExpr) × (derived new (replaced place e) ≡ replaced place (derived vars e))))
          → derived new (replaced place (roll-FlatExpr (map-FlatExpr Known FlatExpr (λ t. t.0) y))) ≡ replaced place (derived vars (roll-FlatExpr (map-FlatExpr Known FlatExpr (λ t. t.0) y)))
      known_same (FlatExpr-F.Var v k) = var_same v k
      known_same (FlatExpr-F.Whole i) = node_same (FlatExpr-F.Whole i) tt tt tt
      known_same (FlatExpr-F.Decimal x) = node_same (FlatExpr-F.Decimal x) tt tt tt
      known_same (FlatExpr-F.Str x) = node_same (FlatExpr-F.Str x) tt tt tt
      known_same (FlatExpr-F.Truth b) = node_same (FlatExpr-F.Truth b) tt tt tt
      known_same (FlatExpr-F.Literal x) = node_same (FlatExpr-F.Literal x) tt tt tt
      known_same FlatExpr-F.Time = node_same FlatExpr-F.Time tt tt tt
      known_same (FlatExpr-F.Der a) = node_same (FlatExpr-F.Der a) tt tt tt
      known_same (FlatExpr-F.Sum ts) = node_same (FlatExpr-F.Sum ts) tt tt tt
      known_same (FlatExpr-F.Product ts) = node_same (FlatExpr-F.Product ts) tt tt tt
      known_same (FlatExpr-F.Power a b) = node_same (FlatExpr-F.Power a b) tt tt tt
      known_same (FlatExpr-F.Call k es) = node_same (FlatExpr-F.Call k es) tt tt tt
      known_same (FlatExpr-F.Relation op a b) = node_same (FlatExpr-F.Relation op a b) tt tt tt
      known_same (FlatExpr-F.Not a) = node_same (FlatExpr-F.Not a) tt tt tt
      known_same (FlatExpr-F.All es) = node_same (FlatExpr-F.All es) tt tt tt
      known_same (FlatExpr-F.Any es) = node_same (FlatExpr-F.Any es) tt tt tt
      known_same (FlatExpr-F.If bs o) = node_same (FlatExpr-F.If bs o) tt tt tt

      pub derived_same : (e : FlatExpr) → derived new (replaced place e) ≡ replaced place (derived vars e)
      derived_same = ind-FlatExpr (λ e. derived new (replaced place e) ≡ replaced place (derived vars e)) (λ x y is.
          subst (λ z. derived new (replaced place (roll-FlatExpr z)) ≡ replaced place (derived vars (roll-FlatExpr z))) is (known_same y))

      -- ---- with all derivatives carried out

      carried_var : (n k : ℕ) → carried new (Var n k) ≡ Var n k
      carried_var n k = ap (carried new) (sym (rolls-Var n k)) ∙ fold-roll-FlatExpr FlatExpr (carry_node new) (FlatExpr-F.Var n k) ∙ rolls-Var n k

      carried_order : (at : Bool × ℕ) (k : ℕ) → carried new (order_of at k) ≡ order_of at k
      carried_order (false, n) k = carried_var n k
      carried_order (true, n) k =
          ap (carried new) (sym (rolls-Sum ((true, Var n k) ∷ []))) ∙ fold-roll-FlatExpr FlatExpr (carry_node new) (FlatExpr-F.Sum ((true, Var n k) ∷ []))
          ∙ rolls-Sum ((true, carried new (Var n k)) ∷ []) ∙ ap (λ x. Sum ((true, x) ∷ [])) (carried_var n k)

      abbrev Carries : Type 0
      Carries = Related FlatExpr FlatExpr (λ x c. carried new x ≡ replaced place c)

      other_carry : (vs : List FlatVar) (n : FlatExpr-F FlatExpr) → IsOther n → (IsDer n → ⊥) → carry_node vs n ≡ roll-FlatExpr n
      other_carry vs (FlatExpr-F.Var v k) other not = absurd other
      other_carry vs (FlatExpr-F.Der a) other not = absurd (not tt)
      other_carry vs (FlatExpr-F.Whole i) other not = refl
      other_carry vs (FlatExpr-F.Decimal x) other not = refl
      other_carry vs (FlatExpr-F.Str x) other not = refl
      other_carry vs (FlatExpr-F.Truth b) other not = refl
      other_carry vs (FlatExpr-F.Literal x) other not = refl
      other_carry vs FlatExpr-F.Time other not = refl
      other_carry vs (FlatExpr-F.Sum ts) other not = refl
      other_carry vs (FlatExpr-F.Product ts) other not = refl
      other_carry vs (FlatExpr-F.Power a b) other not = refl
      other_carry vs (FlatExpr-F.Call k es) other not = refl
      other_carry vs (FlatExpr-F.Relation op a b) other not = refl
      other_carry vs (FlatExpr-F.Not a) other not = refl
      other_carry vs (FlatExpr-F.All es) other not = refl
      other_carry vs (FlatExpr-F.Any es) other not = refl
      other_carry vs (FlatExpr-F.If bs o) other not = refl

      carry_other : (n : FlatExpr-F (Related FlatExpr FlatExpr (λ x c. carried new x ≡ replaced place c)))
          → IsOther (map-FlatExpr Carries FlatExpr (λ r. r.0) n) → IsOther (map-FlatExpr Carries FlatExpr (λ r. r.1) n) → IsOther (map-FlatExpr Carries FlatExpr (λ r. carried new r.0) n)
          → (IsDer (map-FlatExpr Carries FlatExpr (λ r. carried new r.0) n) → ⊥) → (IsDer (map-FlatExpr Carries FlatExpr (λ r. r.1) n) → ⊥)
          → IsOther (map-FlatExpr FlatExpr FlatExpr (replaced place) (map-FlatExpr Carries FlatExpr (λ r. r.1) n))
          → carried new (replace_node place (map-FlatExpr Carries FlatExpr (λ r. r.0) n)) ≡ replaced place (carry_node vars (map-FlatExpr Carries FlatExpr (λ r. r.1) n))
      carry_other n first other third der never last =
          ap (carried new) (other_node place (map-FlatExpr Carries FlatExpr (λ r. r.0) n) first) ∙ fold-roll-FlatExpr FlatExpr (carry_node new) (map-FlatExpr Carries FlatExpr (λ r. r.0) n)
          ∙ ap (carry_node new) (mapped Carries FlatExpr FlatExpr (carried new) (λ r. r.0) n) ∙ other_carry new (map-FlatExpr Carries FlatExpr (λ r. carried new r.0) n) third der
          ∙ ap roll-FlatExpr (same_node Carries FlatExpr (λ r. carried new r.0) (λ r. replaced place r.1) (λ r. r.2) n ∙ sym (mapped Carries FlatExpr FlatExpr (replaced place) (λ r. r.1) n))
          ∙ sym (other_node place (map-FlatExpr FlatExpr FlatExpr (replaced place) (map-FlatExpr Carries FlatExpr (λ r. r.1) n)) last)
          ∙ sym (fold-roll-FlatExpr FlatExpr (replace_node place) (map-FlatExpr Carries FlatExpr (λ r. r.1) n))
          ∙ ap (replaced place) (sym (other_carry vars (map-FlatExpr Carries FlatExpr (λ r. r.1) n) other never))

      carry_step : (n : FlatExpr-F (Related FlatExpr FlatExpr (λ x c. carried new x ≡ replaced place c)))
          → carried new (replace_node place (map-FlatExpr Carries FlatExpr (λ r. r.0) n)) ≡ replaced place (carry_node vars (map-FlatExpr Carries FlatExpr (λ r. r.1) n))
      carry_step (FlatExpr-F.Var v k) = carried_order (place v) k ∙ sym (fold-roll-FlatExpr FlatExpr (replace_node place) (FlatExpr-F.Var v k))
      carry_step (FlatExpr-F.Der r) =
          fold-roll-FlatExpr FlatExpr (carry_node new) (FlatExpr-F.Der r.0) ∙ ap (derived new) r.2 ∙ derived_same r.1
      carry_step (FlatExpr-F.Whole i) = carry_other (FlatExpr-F.Whole i) tt tt tt (λ d. d) (λ d. d) tt
      carry_step (FlatExpr-F.Decimal x) = carry_other (FlatExpr-F.Decimal x) tt tt tt (λ d. d) (λ d. d) tt
      carry_step (FlatExpr-F.Str x) = carry_other (FlatExpr-F.Str x) tt tt tt (λ d. d) (λ d. d) tt
      carry_step (FlatExpr-F.Truth b) = carry_other (FlatExpr-F.Truth b) tt tt tt (λ d. d) (λ d. d) tt
      carry_step (FlatExpr-F.Literal x) = carry_other (FlatExpr-F.Literal x) tt tt tt (λ d. d) (λ d. d) tt
      carry_step FlatExpr-F.Time = carry_other FlatExpr-F.Time tt tt tt (λ d. d) (λ d. d) tt
      carry_step (FlatExpr-F.Sum ts) = carry_other (FlatExpr-F.Sum ts) tt tt tt (λ d. d) (λ d. d) tt
      carry_step (FlatExpr-F.Product ts) = carry_other (FlatExpr-F.Product ts) tt tt tt (λ d. d) (λ d. d) tt
      carry_step (FlatExpr-F.Power a b) = carry_other (FlatExpr-F.Power a b) tt tt tt (λ d. d) (λ d. d) tt
      carry_step (FlatExpr-F.Call k es) = carry_other (FlatExpr-F.Call k es) tt tt tt (λ d. d) (λ d. d) tt
      carry_step (FlatExpr-F.Relation op a b) = carry_other (FlatExpr-F.Relation op a b) tt tt tt (λ d. d) (λ d. d) tt
      carry_step (FlatExpr-F.Not a) = carry_other (FlatExpr-F.Not a) tt tt tt (λ d. d) (λ d. d) tt
      carry_step (FlatExpr-F.All es) = carry_other (FlatExpr-F.All es) tt tt tt (λ d. d) (λ d. d) tt
      carry_step (FlatExpr-F.Any es) = carry_other (FlatExpr-F.Any es) tt tt tt (λ d. d) (λ d. d) tt
      carry_step (FlatExpr-F.If bs o) = carry_other (FlatExpr-F.If bs o) tt tt tt (λ d. d) (λ d. d) tt

      -- derivatives are carried out alike
      pub carried_same : (e : FlatExpr) → carried new (replaced place e) ≡ replaced place (carried vars e)
      carried_same = folds_related FlatExpr FlatExpr (replace_node place) (carry_node vars) (λ x c. carried new x ≡ replaced place c) carry_step
