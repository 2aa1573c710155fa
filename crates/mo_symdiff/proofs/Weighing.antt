-- The weights of expressions by their parts, and those of their derivatives by the rows of the table of derivatives.
use Rattle.std.proofs.Common.{◌≡◌, ℕ, zero, suc, ℤ, pos, ◌+◌, ◌*◌, ◌-◌, ◌^◌, ◌<◌, ◌≤◌, Bool, true, false, List, [], ◌∷◌, ◌++◌, map, length, min, take, get_or, refl, ap, ◌∙◌, sym, subst, arith, mul-le-mul, inl, inr, w64}
use Rattle.std.specs.Prelude.{◌&&◌, ◌||◌, ◌⊎◌, ◌-ℤ◌, not, if◌then◌else◌, nat_eq, sum_by}
use Rattle.std.specs.Ordering.{int_eq}
use Rattle.std.specs.List.{list_all, list_any}
use Rattle.std.proofs.lemmas.Bool.{cases_lt}
use Rattle.std.proofs.lemmas.Bool.Decides.{nat_tests}
use Rattle.std.proofs.lemmas.Int.{to_z-of_z}
use mir.Val.{SFits, of_z, to_z}
use Rattle.std.proofs.lemmas.List.Sums.{sum_by-cons, sum_by-append, sum_by_push}
use Rattle.std.proofs.lemmas.List.{length-append, map-append, take_more}
use Rattle.mo_syntax.specs.declared.expr.RelOp.{RelOp}
use Rattle.mo_syntax.specs.declared.expr.RelOp.TheVariants.{Less, Greater, GreaterEqual}
use Rattle.mo_tables.specs.declared.functions.TheConstants.{ABS, ACOS, ASIN, ATAN, ATAN2, COS, COSH, EXP, LOG, LOG10, MAX, MIN, SIN, SINH, SQRT, TAN, TANH}
use Rattle.mo_flat.specs.declared.expr.FlatExpr.{FlatExpr, FlatExpr-F, fold_out-FlatExpr, map-FlatExpr, out-FlatExpr}
use Rattle.mo_flat.specs.declared.expr.FlatExpr.TheVariants.{Whole, Decimal, Str, Truth, Literal, Time, Var, Der, Sum, Product, Power, Call, Relation, Not, All, Any, If}
use Rattle.mo_flat.specs.declared.expr.FlatExpr.TheVariants.{outs-Whole, outs-Decimal, outs-Str, outs-Truth, outs-Literal, outs-Time, outs-Var, outs-Der, outs-Sum, outs-Product, outs-Power, outs-Call, outs-Relation, outs-Not, outs-All, outs-Any, outs-If}
use Rattle.mo_flat.specs.declared.model.FlatVar.{FlatVar}
use Rattle.mo_symdiff.specs.declared.weights.Measure.{Measure}
use Rattle.mo_symdiff.specs.declared.weights.Measure.TheVariants.{Nodes, Literals, Names}
use Rattle.mo_symdiff.specs.declared.weights.Row.{Row}
use Rattle.mo_symdiff.specs.Derivative.{Part, applied, args_slope, base_term, call_slope, call_slope_of_two, chosen, derived, exponent_term, general_power, in_place, literal_power, minus, moving_terms, negated, next_order, one, over, plus, product_terms, replaced_factor, squared, sum_of, times, two, with_slopes}
use Rattle.mo_symdiff.specs.Still.{is_still}
use Rattle.mo_symdiff.specs.Weights.{AreBranchSizes, AreSizes, AreTermSizes, IsSize, args_row, call_row, call_row_of_two, capped, literal_row, literal_weight, node_weight, row_of, row_weight, variable_weight, weigh, weigh_node}
use Rattle.mo_flat.specs.Roles.{is_given, is_unknown}
use Rattle.mo_symdiff.proofs.Derived.{at_Time as at_Time_derived, derived_Var, all_push, moving_push, moving_one, product_front, still_Var, unless}

-- ---- numbers that stop at the greatest of 64 bits

pub capped_sum : (a b x y r : ℕ) → a ≡ capped x → b ≡ capped y → r ≡ min (a + b) (2 ^ 64 - 1) → r ≡ capped (x + y)
capped_sum a b x y r h k is = omega arith

over_top : (a b n x m : ℕ) → m ≤ a → m ≤ n → 0 < b → 0 < x → min (a * b) m ≡ min (n * x) m
over_top a b n x m h k l p =
    let first : m * 1 ≤ a * b = mul-le-mul h l in
    let second : m * 1 ≤ n * x = mul-le-mul k p in
    omega (arith, first, second)

product_stops : (a b n x m : ℕ) → 0 < m → a ≡ min n m → b ≡ min x m → min (a * b) m ≡ min (n * x) m
product_stops a b zero x m l h k =
    let none : a ≡ 0 = omega arith in
    let left : a * b ≡ 0 * b = ap (λ y. y * b) none in
    omega (arith, left)
product_stops a b n zero m l h k =
    let none : b ≡ 0 = omega arith in
    let left : a * b ≡ a * 0 = ap (λ y. a * y) none in
    omega (arith, left)
product_stops a b (suc n) (suc x) m l h k = by_size (cases_lt m (suc n)) (cases_lt m (suc x)) where
  by_size : (m < suc n) ⊎ (suc n ≤ m) → (m < suc x) ⊎ (suc x ≤ m) → min (a * b) m ≡ min (suc n * suc x) m
  by_size (inl p) q = over_top a b (suc n) (suc x) m (omega (arith, p)) (omega (arith, p)) (omega arith) (omega arith)
  by_size (inr p) (inl q) =
      let first : 1 * m ≤ a * b = mul-le-mul (omega arith) (omega (arith, q)) in
      let second : 1 * m ≤ suc n * suc x = mul-le-mul (omega arith) (omega (arith, q)) in
      omega (arith, first, second)
  by_size (inr p) (inr q) =
      let e : a ≡ suc n = omega (arith, p) in
      let f : b ≡ suc x = omega (arith, q) in
      ap (λ y. min (y * b) m) e ∙ ap (λ y. min (suc n * y) m) f

pub capped_product : (a b n x r : ℕ) → a ≡ capped n → b ≡ capped x → r ≡ min (a * b) (2 ^ 64 - 1) → r ≡ capped (n * x)
capped_product a b n x r h k is = is ∙ product_stops a b n x (2 ^ 64 - 1) (omega arith) h k

pub node_stops : (m : Measure) → capped (node_weight m) ≡ node_weight m
node_stops Nodes = refl
node_stops Literals = refl
node_stops Names = refl

-- ---- nodes

pub mapped : {A B : Type 0} (f : B → ℕ) (h : A → B) (xs : List A) → sum_by f (map h xs) ≡ sum_by (λ x. f (h x)) xs
mapped f h [] = refl
mapped f h (x ∷ xs) = sum_by-cons f (h x) (map h xs) ∙ ap (λ n. f (h x) + n) (mapped f h xs) ∙ sym (sum_by-cons (λ y. f (h y)) x xs)

module _ (vars : List FlatVar) (m : Measure) where
  weigh_at : (e : FlatExpr) (node : FlatExpr-F FlatExpr) → out-FlatExpr e ≡ node → weigh vars m e ≡ weigh_node vars m (map-FlatExpr FlatExpr ℕ (weigh vars m) node)
  unfolding weigh
  weigh_at e node h = fold_out-FlatExpr ℕ (weigh_node vars m) e ∙ ap (λ n. weigh_node vars m (map-FlatExpr FlatExpr ℕ (weigh vars m) n)) h

  pub at_Whole : (n : ℤ) → weigh vars m (Whole n) ≡ node_weight m
  at_Whole n = weigh_at (Whole n) (FlatExpr-F.Whole n) (outs-Whole n)

  pub at_Decimal : (s : List ℕ) → weigh vars m (Decimal s) ≡ node_weight m + literal_weight m s
  at_Decimal s = weigh_at (Decimal s) (FlatExpr-F.Decimal s) (outs-Decimal s)

  pub at_Str : (s : List ℕ) → weigh vars m (Str s) ≡ node_weight m + literal_weight m s
  at_Str s = weigh_at (Str s) (FlatExpr-F.Str s) (outs-Str s)

  pub at_Truth : (b : Bool) → weigh vars m (Truth b) ≡ node_weight m
  at_Truth b = weigh_at (Truth b) (FlatExpr-F.Truth b) (outs-Truth b)

  pub at_Literal : (s : List ℕ) → weigh vars m (Literal s) ≡ node_weight m + literal_weight m s
  at_Literal s = weigh_at (Literal s) (FlatExpr-F.Literal s) (outs-Literal s)

  pub at_Time : weigh vars m Time ≡ node_weight m
  at_Time = weigh_at Time FlatExpr-F.Time outs-Time

  pub at_Var : (v k : ℕ) → weigh vars m (Var v k) ≡ node_weight m + variable_weight vars m v k
  at_Var v k = weigh_at (Var v k) (FlatExpr-F.Var v k) (outs-Var v k)

  pub at_Der : (a : FlatExpr) → weigh vars m (Der a) ≡ node_weight m + weigh vars m a
  at_Der a = weigh_at (Der a) (FlatExpr-F.Der a) (outs-Der a)

  pub at_Not : (a : FlatExpr) → weigh vars m (Not a) ≡ node_weight m + weigh vars m a
  at_Not a = weigh_at (Not a) (FlatExpr-F.Not a) (outs-Not a)

  pub at_Power : (a b : FlatExpr) → weigh vars m (Power a b) ≡ node_weight m + (weigh vars m a + weigh vars m b)
  at_Power a b = weigh_at (Power a b) (FlatExpr-F.Power a b) (outs-Power a b)

  pub at_Relation : (op : RelOp) (a b : FlatExpr) → weigh vars m (Relation op a b) ≡ node_weight m + (weigh vars m a + weigh vars m b)
  at_Relation op a b = weigh_at (Relation op a b) (FlatExpr-F.Relation op a b) (outs-Relation op a b)

  pub at_Sum : (ts : List (Bool × FlatExpr)) → weigh vars m (Sum ts) ≡ node_weight m + sum_by (λ t. weigh vars m t.1) ts
  at_Sum ts = weigh_at (Sum ts) (FlatExpr-F.Sum ts) (outs-Sum ts) ∙ ap (λ n. node_weight m + n) (mapped (λ t. t.1) (λ t. (t.0, weigh vars m t.1)) ts)

  pub at_Product : (ts : List (Bool × FlatExpr)) → weigh vars m (Product ts) ≡ node_weight m + sum_by (λ t. weigh vars m t.1) ts
  at_Product ts = weigh_at (Product ts) (FlatExpr-F.Product ts) (outs-Product ts) ∙ ap (λ n. node_weight m + n) (mapped (λ t. t.1) (λ t. (t.0, weigh vars m t.1)) ts)

  pub at_Call : (f : ℕ) (args : List FlatExpr) → weigh vars m (Call f args) ≡ node_weight m + sum_by (weigh vars m) args
  at_Call f args = weigh_at (Call f args) (FlatExpr-F.Call f args) (outs-Call f args) ∙ ap (λ n. node_weight m + n) (mapped (λ n. n) (weigh vars m) args)

  pub at_All : (parts : List FlatExpr) → weigh vars m (All parts) ≡ node_weight m + sum_by (weigh vars m) parts
  at_All parts = weigh_at (All parts) (FlatExpr-F.All parts) (outs-All parts) ∙ ap (λ n. node_weight m + n) (mapped (λ n. n) (weigh vars m) parts)

  pub at_Any : (parts : List FlatExpr) → weigh vars m (Any parts) ≡ node_weight m + sum_by (weigh vars m) parts
  at_Any parts = weigh_at (Any parts) (FlatExpr-F.Any parts) (outs-Any parts) ∙ ap (λ n. node_weight m + n) (mapped (λ n. n) (weigh vars m) parts)

  pub at_If : (bs : List (FlatExpr × FlatExpr)) (o : FlatExpr) → weigh vars m (If bs o) ≡ node_weight m + (sum_by (λ b. weigh vars m b.0 + weigh vars m b.1) bs + weigh vars m o)
  at_If bs o = weigh_at (If bs o) (FlatExpr-F.If bs o) (outs-If bs o) ∙ ap (λ n. node_weight m + (n + weigh vars m o)) (mapped (λ b. b.0 + b.1) (λ b. (weigh vars m b.0, weigh vars m b.1)) bs)

-- ---- the trees of the table of derivatives

module _ (vars : List FlatVar) (m : Measure) where
  at_times_two : (a b : FlatExpr) → weigh vars m (times (a ∷ b ∷ [])) ≡ node_weight m + (weigh vars m a + weigh vars m b)
  at_times_two a b = let e = at_Product vars m ((false, a) ∷ (false, b) ∷ []) in omega (arith, e)

  at_times_three : (a b c : FlatExpr) → weigh vars m (times (a ∷ b ∷ c ∷ [])) ≡ node_weight m + (weigh vars m a + (weigh vars m b + weigh vars m c))
  at_times_three a b c = let e = at_Product vars m ((false, a) ∷ (false, b) ∷ (false, c) ∷ []) in omega (arith, e)

  at_over : (a b : FlatExpr) → weigh vars m (over a b) ≡ node_weight m + (weigh vars m a + weigh vars m b)
  at_over a b = let e = at_Product vars m ((false, a) ∷ (true, b) ∷ []) in omega (arith, e)

  at_plus : (a b : FlatExpr) → weigh vars m (plus a b) ≡ node_weight m + (weigh vars m a + weigh vars m b)
  at_plus a b = let e = at_Sum vars m ((false, a) ∷ (false, b) ∷ []) in omega (arith, e)

  at_minus : (a b : FlatExpr) → weigh vars m (minus a b) ≡ node_weight m + (weigh vars m a + weigh vars m b)
  at_minus a b = let e = at_Sum vars m ((false, a) ∷ (true, b) ∷ []) in omega (arith, e)

  at_negated : (a : FlatExpr) → weigh vars m (negated a) ≡ node_weight m + weigh vars m a
  at_negated a = let e = at_Sum vars m ((true, a) ∷ []) in omega (arith, e)

  at_squared : (a : FlatExpr) → weigh vars m (squared a) ≡ node_weight m + (weigh vars m a + node_weight m)
  at_squared a = at_Power vars m a two ∙ ap (λ n. node_weight m + (weigh vars m a + n)) (at_Whole vars m (pos 2))

  at_applied : (f : ℕ) (a : FlatExpr) → weigh vars m (applied f a) ≡ node_weight m + weigh vars m a
  at_applied f a = let e = at_Call vars m f (a ∷ []) in omega (arith, e)

  at_chosen : (op : RelOp) (a b u v : FlatExpr) → weigh vars m (chosen op a b u v) ≡ node_weight m + ((node_weight m + (weigh vars m a + weigh vars m b)) + (weigh vars m u + weigh vars m v))
  at_chosen op a b u v =
      let e = at_If vars m ((Relation op a b, u) ∷ []) v in
      let d = at_Relation vars m op a b in
      omega (arith, e, d)

  -- a tree that weighs what a row says
  abbrev pub Weighs : (arguments slopes : ℕ) → FlatExpr → Row → Type 0
  Weighs arguments slopes tree row = weigh vars m tree ≡ row_weight row (node_weight m) arguments slopes

  either : (x y : ℕ) (b : Bool) (s t : FlatExpr) (p q : Row) → Weighs x y s p → Weighs x y t q → Weighs x y (if b then s else t) (if b then p else q)
  either x y true s t p q h k = h
  either x y false s t p q h k = k

  scaled : (f : ℕ) (u s : FlatExpr) → Weighs (weigh vars m u) (weigh vars m s) (times (applied f u ∷ s ∷ [])) (row_of 2 1 1)
  scaled f u s = let e = at_times_two (applied f u) s in let d = at_applied f u in omega (arith, e, d)

  scaled_below : (f : ℕ) (u s : FlatExpr) → Weighs (weigh vars m u) (weigh vars m s) (negated (times (applied f u ∷ s ∷ []))) (row_of 3 1 1)
  scaled_below f u s = let c = at_negated (times (applied f u ∷ s ∷ [])) in let e = at_times_two (applied f u) s in let d = at_applied f u in omega (arith, c, e, d)

  by_square : (f : ℕ) (u s : FlatExpr) → Weighs (weigh vars m u) (weigh vars m s) (over s (squared (applied f u))) (row_of 4 1 1)
  by_square f u s = let e = at_over s (squared (applied f u)) in let d = at_squared (applied f u) in let c = at_applied f u in omega (arith, e, d, c)

  less_square : (u : FlatExpr) → weigh vars m (applied SQRT (minus one (squared u))) ≡ 5 * node_weight m + weigh vars m u
  less_square u =
      let a = at_applied SQRT (minus one (squared u)) in let b = at_minus one (squared u) in let c = at_squared u in let d = at_Whole vars m (pos 1) in
      omega (arith, a, b, c, d)

  by_root : (u s : FlatExpr) → Weighs (weigh vars m u) (weigh vars m s) (over s (applied SQRT (minus one (squared u)))) (row_of 6 1 1)
  by_root u s = let e = at_over s (applied SQRT (minus one (squared u))) in let d = less_square u in omega (arith, e, d)

  by_root_below : (u s : FlatExpr) → Weighs (weigh vars m u) (weigh vars m s) (negated (over s (applied SQRT (minus one (squared u))))) (row_of 7 1 1)
  by_root_below u s = let e = at_negated (over s (applied SQRT (minus one (squared u)))) in let d = by_root u s in omega (arith, e, d)

  by_more_square : (u s : FlatExpr) → Weighs (weigh vars m u) (weigh vars m s) (over s (plus one (squared u))) (row_of 5 1 1)
  by_more_square u s =
      let a = at_over s (plus one (squared u)) in let b = at_plus one (squared u) in let c = at_squared u in let d = at_Whole vars m (pos 1) in
      omega (arith, a, b, c, d)

  by_argument : (u s : FlatExpr) → Weighs (weigh vars m u) (weigh vars m s) (over s u) (row_of 1 1 1)
  by_argument u s = let e = at_over s u in omega (arith, e)

  by_ten : (u s : FlatExpr) → Weighs (weigh vars m u) (weigh vars m s) (over s (times (u ∷ applied LOG (Whole (pos 10)) ∷ []))) (row_of 4 1 1)
  by_ten u s =
      let ten = applied LOG (Whole (pos 10)) in
      let a = at_over s (times (u ∷ ten ∷ [])) in let b = at_times_two u ten in let c = at_applied LOG (Whole (pos 10)) in let d = at_Whole vars m (pos 10) in
      omega (arith, a, b, c, d)

  by_twice_root : (u s : FlatExpr) → Weighs (weigh vars m u) (weigh vars m s) (over s (times (two ∷ applied SQRT u ∷ []))) (row_of 4 1 1)
  by_twice_root u s =
      let a = at_over s (times (two ∷ applied SQRT u ∷ [])) in let b = at_times_two two (applied SQRT u) in let c = at_applied SQRT u in let d = at_Whole vars m (pos 2) in
      omega (arith, a, b, c, d)

  by_sign : (u s : FlatExpr) → Weighs (weigh vars m u) (weigh vars m s) (chosen GreaterEqual u (Whole (pos 0)) s (negated s)) (row_of 4 1 2)
  by_sign u s =
      let a = at_chosen GreaterEqual u (Whole (pos 0)) s (negated s) in let b = at_negated s in let d = at_Whole vars m (pos 0) in
      omega (arith, a, b, d)

  kept : (f : ℕ) (u s : FlatExpr) → Weighs (weigh vars m u) (weigh vars m s) (applied f s) (row_of 1 0 1)
  kept f u s = let a = at_applied f s in omega (arith, a)

  pub call_weighs : (f : ℕ) (u s : FlatExpr) → Weighs (weigh vars m u) (weigh vars m s) (call_slope f (u, s)) (call_row f)
  call_weighs f u s =
      let x = weigh vars m u in
      let y = weigh vars m s in
      either x y (nat_eq f SIN) _ _ _ _ (scaled COS u s) (either x y (nat_eq f COS) _ _ _ _ (scaled_below SIN u s) (either x y (nat_eq f TAN) _ _ _ _ (by_square COS u s)
      (either x y (nat_eq f ASIN) _ _ _ _ (by_root u s) (either x y (nat_eq f ACOS) _ _ _ _ (by_root_below u s) (either x y (nat_eq f ATAN) _ _ _ _ (by_more_square u s)
      (either x y (nat_eq f SINH) _ _ _ _ (scaled COSH u s) (either x y (nat_eq f COSH) _ _ _ _ (scaled SINH u s) (either x y (nat_eq f TANH) _ _ _ _ (by_square COSH u s)
      (either x y (nat_eq f EXP) _ _ _ _ (scaled EXP u s) (either x y (nat_eq f LOG) _ _ _ _ (by_argument u s) (either x y (nat_eq f LOG10) _ _ _ _ (by_ten u s)
      (either x y (nat_eq f SQRT) _ _ _ _ (by_twice_root u s) (either x y (nat_eq f ABS) _ _ _ _ (by_sign u s) (kept f u s))))))))))))))

  angle : (a p b q : FlatExpr) → Weighs (weigh vars m a + weigh vars m b) (weigh vars m p + weigh vars m q) (over (minus (times (p ∷ b ∷ [])) (times (a ∷ q ∷ []))) (plus (squared a) (squared b))) (row_of 9 2 1)
  angle a p b q =
      let e = at_over (minus (times (p ∷ b ∷ [])) (times (a ∷ q ∷ []))) (plus (squared a) (squared b)) in
      let d = at_minus (times (p ∷ b ∷ [])) (times (a ∷ q ∷ [])) in let c = at_times_two p b in let k = at_times_two a q in
      let f = at_plus (squared a) (squared b) in let g = at_squared a in let h = at_squared b in
      omega (arith, e, d, c, k, f, g, h)

  choice : (op : RelOp) (a p b q : FlatExpr) → Weighs (weigh vars m a + weigh vars m b) (weigh vars m p + weigh vars m q) (chosen op a b p q) (row_of 2 1 1)
  choice op a p b q = let e = at_chosen op a b p q in omega (arith, e)

  both_kept : (f : ℕ) (a p b q : FlatExpr) → Weighs (weigh vars m a + weigh vars m b) (weigh vars m p + weigh vars m q) (Call f (p ∷ q ∷ [])) (row_of 1 0 1)
  both_kept f a p b q = let e = at_Call vars m f (p ∷ q ∷ []) in omega (arith, e)

  pub call_of_two_weighs : (f : ℕ) (a p b q : FlatExpr) → Weighs (weigh vars m a + weigh vars m b) (weigh vars m p + weigh vars m q) (call_slope_of_two f (a, p) (b, q)) (call_row_of_two f)
  call_of_two_weighs f a p b q =
      let x = weigh vars m a + weigh vars m b in
      let y = weigh vars m p + weigh vars m q in
      either x y (nat_eq f ATAN2) _ _ _ _ (angle a p b q) (either x y (nat_eq f MIN) _ _ _ _ (choice Less a p b q) (either x y (nat_eq f MAX) _ _ _ _ (choice Greater a p b q) (both_kept f a p b q)))

  pub args_weigh : (f : ℕ) (args : List FlatExpr) → Weighs (sum_by (weigh vars m) args) (sum_by (λ e. weigh vars m (derived vars e)) args) (args_slope f (map (λ e. (e, derived vars e)) args)) (args_row f args)
  args_weigh f [] = let e = at_Call vars m f [] in omega (arith, e)
  args_weigh f (u ∷ []) =
      call_weighs f u (derived vars u) ∙ ap (λ x. row_weight (call_row f) (node_weight m) x (weigh vars m (derived vars u))) (omega arith)
      ∙ ap (λ y. row_weight (call_row f) (node_weight m) (sum_by (weigh vars m) (u ∷ [])) y) (omega arith)
  args_weigh f (a ∷ b ∷ []) =
      call_of_two_weighs f a (derived vars a) b (derived vars b) ∙ ap (λ x. row_weight (call_row_of_two f) (node_weight m) x (weigh vars m (derived vars a) + weigh vars m (derived vars b))) (omega arith)
      ∙ ap (λ y. row_weight (call_row_of_two f) (node_weight m) (sum_by (weigh vars m) (a ∷ b ∷ [])) y) (omega arith)
  args_weigh f (a ∷ b ∷ c ∷ args) =
      let all = a ∷ b ∷ c ∷ args in
      let e = at_Call vars m f (map {A = Part} (λ p. p.1) (map (λ x. (x, derived vars x)) all)) in
      let d = mapped {A = Part} (weigh vars m) (λ p. p.1) (map (λ x. (x, derived vars x)) all) in
      let k = mapped {B = Part} (λ p. weigh vars m p.1) (λ x. (x, derived vars x)) all in
      omega (arith, e, d, k)

  pub base_term_weighs : (a s b : FlatExpr) → Weighs (weigh vars m a + (weigh vars m b + weigh vars m b)) (weigh vars m s) (base_term (a, s) b) (row_of 4 1 1)
  base_term_weighs a s b =
      let e = at_times_three b (Power a (minus b one)) s in let d = at_Power vars m a (minus b one) in let c = at_minus b one in let k = at_Whole vars m (pos 1) in
      omega (arith, e, d, c, k)

  pub exponent_term_weighs : (a b s : FlatExpr) → Weighs (weigh vars m a + (weigh vars m a + weigh vars m b)) (weigh vars m s) (exponent_term a (b, s)) (row_of 3 1 1)
  exponent_term_weighs a b s =
      let e = at_times_three (Power a b) (applied LOG a) s in let d = at_Power vars m a b in let c = at_applied LOG a in
      omega (arith, e, d, c)

  square_weighs : (a s : FlatExpr) → Weighs (weigh vars m a) (weigh vars m s) (times (two ∷ a ∷ s ∷ [])) (row_of 2 1 1)
  square_weighs a s = let e = at_times_three two a s in let k = at_Whole vars m (pos 2) in omega (arith, e, k)

  other_power_weighs : (n k : ℤ) (a s : FlatExpr) → Weighs (weigh vars m a) (weigh vars m s) (times (Whole n ∷ Power a (Whole k) ∷ s ∷ [])) (row_of 4 1 1)
  other_power_weighs n k a s =
      let e = at_times_three (Whole n) (Power a (Whole k)) s in let d = at_Power vars m a (Whole k) in let c = at_Whole vars m n in let f = at_Whole vars m k in
      omega (arith, e, d, c, f)

  pub literal_power_weighs : (n : ℤ) (a s : FlatExpr) → Weighs (weigh vars m a) (weigh vars m s) (literal_power n (a, s)) (literal_row n)
  literal_power_weighs n a s = either (weigh vars m a) (weigh vars m s) (int_eq n (pos 2)) _ _ _ _ (square_weighs a s) (other_power_weighs n (n -ℤ pos 1) a s)

  pub by_row : (x y r : ℕ) (tree : FlatExpr) (row told : Row) → Weighs x y tree told → row ≡ told → r ≡ capped (row_weight row (node_weight m) x y) → r ≡ capped (weigh vars m tree)
  by_row x y r tree row told h k is = is ∙ ap capped (ap (λ w. row_weight w (node_weight m) x y) k ∙ sym h)

  chosen_weight : (b : Bool) (r x y : ℕ) (s t : FlatExpr) → r ≡ (if b then x else y) → x ≡ capped (weigh vars m s) → y ≡ capped (weigh vars m t) → r ≡ capped (weigh vars m (if b then s else t))
  chosen_weight true r x y s t is h k = is ∙ h
  chosen_weight false r x y s t is h k = is ∙ k

  pub general_power_weighs : (a p b q : FlatExpr) (first second : Bool) (x y z other r : ℕ) → first ≡ is_still vars b → second ≡ is_still vars a → x ≡ capped (weigh vars m (base_term (a, p) b)) → y ≡ capped (weigh vars m (exponent_term a (b, q))) →
      z ≡ capped (node_weight m + (weigh vars m (base_term (a, p) b) + weigh vars m (exponent_term a (b, q)))) → other ≡ (if second then y else z) → r ≡ (if first then x else other) → r ≡ capped (weigh vars m (general_power vars (a, p) (b, q)))
  general_power_weighs a p b q first second x y z other r f s hx hy hz ho hr =
      let sum : z ≡ capped (weigh vars m (plus (base_term (a, p) b) (exponent_term a (b, q)))) = hz ∙ ap capped (sym (at_plus (base_term (a, p) b) (exponent_term a (b, q)))) in
      let rest = chosen_weight (is_still vars a) other y z (exponent_term a (b, q)) (plus (base_term (a, p) b) (exponent_term a (b, q))) (ho ∙ ap (λ c. if c then y else z) s) hy sum in
      chosen_weight (is_still vars b) r x other (base_term (a, p) b) (if is_still vars a then exponent_term a (b, q) else plus (base_term (a, p) b) (exponent_term a (b, q))) (hr ∙ ap (λ c. if c then x else other) f) hx rest

refuted : (b : Bool) → (b ≡ true → ⊥) → b ≡ false
refuted true h = absurd (h refl)
refuted false h = refl

not_one : (n : ℕ) → nat_eq (suc (suc n)) 1 ≡ false
not_one n = refuted (nat_eq (suc (suc n)) 1) (λ h. let e : suc (suc n) ≡ 1 = grind (arith, nat_tests) in absurd (omega (arith, e)))

same_test : (a b : Bool) → (a ≡ true → b ≡ true) → (b ≡ true → a ≡ true) → a ≡ b
same_test true b h k = sym (h refl)
same_test false true h k = k refl
same_test false false h k = refl

one_stops : (n : ℕ) → nat_eq (capped n) 1 ≡ nat_eq n 1
one_stops n = same_test (nat_eq (capped n) 1) (nat_eq n 1) (λ h. grind (arith, nat_tests)) (λ h. grind (arith, nat_tests))

module _ (vars : List FlatVar) (m : Measure) where
  -- a sum, of which one positive term stands alone
  sum_weighs : (ts : List (Bool × FlatExpr)) →
      weigh vars m (sum_of ts) ≡ (if nat_eq (length ts) 1 && not (list_any (λ t. t.0) ts) then sum_by (λ t. weigh vars m t.1) ts else node_weight m + sum_by (λ t. weigh vars m t.1) ts)
  sum_weighs [] = at_Sum vars m []
  sum_weighs ((false, u) ∷ []) = omega arith
  sum_weighs ((true, u) ∷ []) = at_Sum vars m ((true, u) ∷ [])
  sum_weighs ((false, u) ∷ v ∷ ts) = at_Sum vars m ((false, u) ∷ v ∷ ts) ∙ sym (several ((false, u) ∷ v ∷ ts) (length ts)) where
    several : (us : List (Bool × FlatExpr)) (n : ℕ) →
        (if nat_eq (suc (suc n)) 1 && not (list_any (λ t. t.0) us) then sum_by (λ t. weigh vars m t.1) us else node_weight m + sum_by (λ t. weigh vars m t.1) us) ≡ node_weight m + sum_by (λ t. weigh vars m t.1) us
    several us n = ap (λ b. if b && not (list_any (λ t. t.0) us) then sum_by (λ t. weigh vars m t.1) us else node_weight m + sum_by (λ t. weigh vars m t.1) us) (not_one n)
  sum_weighs ((true, u) ∷ v ∷ ts) = at_Sum vars m ((true, u) ∷ v ∷ ts) ∙ sym (several ((true, u) ∷ v ∷ ts) (length ts)) where
    several : (us : List (Bool × FlatExpr)) (n : ℕ) →
        (if nat_eq (suc (suc n)) 1 && not (list_any (λ t. t.0) us) then sum_by (λ t. weigh vars m t.1) us else node_weight m + sum_by (λ t. weigh vars m t.1) us) ≡ node_weight m + sum_by (λ t. weigh vars m t.1) us
    several us n = ap (λ b. if b && not (list_any (λ t. t.0) us) then sum_by (λ t. weigh vars m t.1) us else node_weight m + sum_by (λ t. weigh vars m t.1) us) (not_one n)

  stopped : (b : Bool) (x y : ℕ) → (if b then capped x else capped y) ≡ capped (if b then x else y)
  stopped true x y = refl
  stopped false x y = refl

  pub joined_weighs : (parts ts : List (Bool × FlatExpr)) (still minus : Bool) (whole slope moving joined sum : ℕ) → AreTermSizes vars m parts ts still minus whole slope moving → joined ≡ (if nat_eq moving 1 && not minus then slope else sum) →
      (slope ≡ capped (sum_by (λ t. weigh vars m t.1) ts) → sum ≡ capped (node_weight m + sum_by (λ t. weigh vars m t.1) ts)) → joined ≡ capped (weigh vars m (sum_of ts))
  joined_weighs parts ts still minus whole slope moving joined sum all is more =
      let t = sum_by (λ (t : Bool × FlatExpr). weigh vars m t.1) ts in
      let one : nat_eq moving 1 ≡ nat_eq (length ts) 1 = ap (λ n. nat_eq n 1) all.moving_is ∙ one_stops (length ts) in
      is ∙ ap (λ b. if b && not minus then slope else sum) one
      ∙ ap (λ b. if nat_eq (length ts) 1 && not b then slope else sum) all.minus_is
      ∙ ap (λ x. if nat_eq (length ts) 1 && not (list_any (λ t. t.0) ts) then x else sum) all.slope_is
      ∙ ap (λ y. if nat_eq (length ts) 1 && not (list_any (λ t. t.0) ts) then capped t else y) (more all.slope_is)
      ∙ stopped (nat_eq (length ts) 1 && not (list_any (λ t. t.0) ts)) t (node_weight m + t) ∙ ap capped (sym (sum_weighs ts))

-- ---- terms and factors, one by one

and_true : (b : Bool) → (b && true) ≡ b
and_true true = refl
and_true false = refl

and_false : (b : Bool) → (b && false) ≡ false
and_false true = refl
and_false false = refl

or_false : (b : Bool) → (b || false) ≡ b
or_false true = refl
or_false false = refl

or_assoc : (a b c : Bool) → (a || (b || c)) ≡ ((a || b) || c)
or_assoc true b c = refl
or_assoc false b c = refl

any_append : {A : Type 0} (p : A → Bool) (xs ys : List A) → list_any p (xs ++ ys) ≡ (list_any p xs || list_any p ys)
any_append p [] ys = refl
any_append p (x ∷ xs) ys = ap (λ b. p x || b) (any_append p xs ys) ∙ or_assoc (p x) (list_any p xs) (list_any p ys)

-- whether a part moves, as a number
abbrev pub one_if : Bool → ℕ
one_if still = if still then 0 else 1

abbrev pub mark_if : Bool → Bool → Bool
mark_if still mark = if still then false else mark

one_count : (b : Bool) (t : Bool × FlatExpr) → length (moving_one b t) ≡ one_if b
one_count true t = refl
one_count false t = refl

one_mark : (b : Bool) (t : Bool × FlatExpr) → list_any (λ u. u.0) (moving_one b t) ≡ mark_if b t.0
one_mark true t = refl
one_mark false t = or_false t.0

slopes_append : (vars : List FlatVar) (xs : List (Bool × FlatExpr)) (x : Bool × FlatExpr) → with_slopes vars (xs ++ x ∷ []) ≡ with_slopes vars xs ++ (x.0, (x.1, derived vars x.1)) ∷ []
slopes_append vars xs x = map-append (λ t. (t.0, (t.1, derived vars t.1))) xs (x ∷ [])

more_times : (n w : ℕ) → suc n * w ≡ w + n * w
more_times n w = omega arith

module _ (vars : List FlatVar) (m : Measure) where
  abbrev pub total : List (Bool × FlatExpr) → ℕ
  total = sum_by (λ t. weigh vars m t.1)

  one_total : (b : Bool) (t : Bool × FlatExpr) → total (moving_one b t) ≡ (if b then 0 else weigh vars m t.1)
  one_total true t = refl
  one_total false t = omega arith

  -- what stands in the place of a factor
  abbrev pub place : Bool × FlatExpr → ℕ
  place x = if x.0 then weigh vars m x.1 + (weigh vars m (derived vars x.1) + weigh vars m x.1) else weigh vars m (derived vars x.1)

  placed : (d : Bool) (f s : FlatExpr) → total (in_place d f s) ≡ (if d then weigh vars m f + (weigh vars m s + weigh vars m f) else weigh vars m s)
  placed true f s = omega arith
  placed false f s = omega arith

  factor_term : (before : List (Bool × FlatExpr)) (x : Bool × FlatExpr) (after : List (Bool × FlatExpr)) →
      weigh vars m (replaced_factor before (x.0, (x.1, derived vars x.1)) after).1 ≡ node_weight m + (total before + (place x + total after))
  factor_term before x after =
      let here = in_place x.0 x.1 (derived vars x.1) in
      let a = at_Product vars m (before ++ (here ++ after)) in
      let b = sum_by-append (λ (t : Bool × FlatExpr). weigh vars m t.1) before (here ++ after) in
      let c = sum_by-append (λ (t : Bool × FlatExpr). weigh vars m t.1) here after in
      let d = placed x.0 x.1 (derived vars x.1) in
      omega (arith, a, b, c, d)

  abbrev pub front : List (Bool × FlatExpr) → Bool × FlatExpr → List (Bool × FlatExpr) → Bool × FlatExpr
  front before x after = replaced_factor before (x.0, (x.1, derived vars x.1)) after

  abbrev pub terms_of : List (Bool × FlatExpr) → List (Bool × FlatExpr) → List (Bool × FlatExpr)
  terms_of before xs = product_terms vars before (with_slopes vars xs)

  front_total : (before : List (Bool × FlatExpr)) (x : Bool × FlatExpr) (after : List (Bool × FlatExpr)) →
      total (terms_of before (x ∷ after)) ≡ (if is_still vars x.1 then 0 else node_weight m + (total before + (place x + total after))) + total (terms_of (before ++ x ∷ []) after)
  front_total before x after =
      ap total (product_front vars before x after)
      ∙ sum_by-append (λ (t : Bool × FlatExpr). weigh vars m t.1) (moving_one (is_still vars x.1) (front before x after)) (terms_of (before ++ x ∷ []) after)
      ∙ ap (λ n. n + total (terms_of (before ++ x ∷ []) after))
      (one_total (is_still vars x.1) (front before x after) ∙ ap (λ n. if is_still vars x.1 then 0 else n) (factor_term before x after))

  front_count : (before : List (Bool × FlatExpr)) (x : Bool × FlatExpr) (after : List (Bool × FlatExpr)) →
      length (terms_of before (x ∷ after)) ≡ one_if (is_still vars x.1) + length (terms_of (before ++ x ∷ []) after)
  front_count before x after =
      ap length (product_front vars before x after)
      ∙ length-append (moving_one (is_still vars x.1) (front before x after)) (terms_of (before ++ x ∷ []) after)
      ∙ ap (λ n. n + length (terms_of (before ++ x ∷ []) after)) (one_count (is_still vars x.1) (front before x after))

  front_marks : (before : List (Bool × FlatExpr)) (x : Bool × FlatExpr) (after : List (Bool × FlatExpr)) →
      list_any (λ t. t.0) (terms_of before (x ∷ after)) ≡ (mark_if (is_still vars x.1) x.0 || list_any (λ t. t.0) (terms_of (before ++ x ∷ []) after))
  front_marks before x after =
      ap (list_any (λ t. t.0)) (product_front vars before x after)
      ∙ any_append (λ t. t.0) (moving_one (is_still vars x.1) (front before x after)) (terms_of (before ++ x ∷ []) after)
      ∙ ap (λ b. b || list_any (λ t. t.0) (terms_of (before ++ x ∷ []) after)) (one_mark (is_still vars x.1) (front before x after))

  -- the term of a factor behind others
  abbrev pub last_term : List (Bool × FlatExpr) → List (Bool × FlatExpr) → Bool × FlatExpr → ℕ
  last_term before xs x = if is_still vars x.1 then 0 else node_weight m + ((total before + total xs) + place x)

  step : (b : Bool) (node tb px ta w all count rest : ℕ) →
      (if b then 0 else node + (tb + (px + (ta + w)))) + (all + (count * w + rest)) ≡ ((if b then 0 else node + (tb + (px + ta))) + all) + ((one_if b + count) * w + rest)
  step true node tb px ta w all count rest = let e : (0 + count) * w ≡ count * w = ap (λ n. n * w) (omega arith) in omega (arith, e)
  step false node tb px ta w all count rest = let e : (1 + count) * w ≡ w + count * w = ap (λ n. n * w) (omega arith) ∙ more_times count w in omega (arith, e)

  -- one more factor stands in each term of those before it
  pub factors_total : (before xs : List (Bool × FlatExpr)) (x : Bool × FlatExpr) →
      total (terms_of before (xs ++ x ∷ [])) ≡ total (terms_of before xs) + (length (terms_of before xs) * weigh vars m x.1 + last_term before xs x)
  factors_total before [] x =
      let e = front_total before x [] in
      let d : (if is_still vars x.1 then 0 else node_weight m + (total before + (place x + total []))) ≡ last_term before [] x = ap (λ n. if is_still vars x.1 then 0 else node_weight m + n) (omega arith) in
      let k : 0 * weigh vars m x.1 ≡ 0 = omega arith in
      omega (arith, e, d, k)
  factors_total before (y ∷ xs) x =
      let w = weigh vars m x.1 in
      let still = is_still vars y.1 in
      let next = terms_of (before ++ y ∷ []) xs in
      let here : total (terms_of before (y ∷ (xs ++ x ∷ []))) ≡ (if still then 0 else node_weight m + (total before + (place y + total (xs ++ x ∷ [])))) + total (terms_of (before ++ y ∷ []) (xs ++ x ∷ [])) = front_total before y (xs ++ x ∷ []) in
      let longer : total (xs ++ x ∷ []) ≡ total xs + w = sum_by_push (λ (t : Bool × FlatExpr). weigh vars m t.1) xs x in
      let parts : total (before ++ y ∷ []) + total xs ≡ total before + total (y ∷ xs) =
      (let a = sum_by_push (λ (t : Bool × FlatExpr). weigh vars m t.1) before y in let b = sum_by-cons (λ (t : Bool × FlatExpr). weigh vars m t.1) y xs in omega (arith, a, b)) in
      here
      ∙ ap (λ n. (if still then 0 else node_weight m + (total before + (place y + n))) + total (terms_of (before ++ y ∷ []) (xs ++ x ∷ []))) longer
      ∙ ap (λ n. (if still then 0 else node_weight m + (total before + (place y + (total xs + w)))) + n) (factors_total (before ++ y ∷ []) xs x)
      ∙ ap (λ n. (if still then 0 else node_weight m + (total before + (place y + (total xs + w)))) + (total next + (length next * w + (if is_still vars x.1 then 0 else node_weight m + (n + place x))))) parts
      ∙ step still (node_weight m) (total before) (place y) (total xs) w (total next) (length next) (last_term before (y ∷ xs) x)
      ∙ ap (λ n. n + ((one_if still + length next) * w + last_term before (y ∷ xs) x)) (sym (front_total before y xs))
      ∙ ap (λ n. total (terms_of before (y ∷ xs)) + (n * w + last_term before (y ∷ xs) x)) (sym (front_count before y xs))

  pub factors_count : (before xs : List (Bool × FlatExpr)) (x : Bool × FlatExpr) → length (terms_of before (xs ++ x ∷ [])) ≡ length (terms_of before xs) + one_if (is_still vars x.1)
  factors_count before [] x = let e = front_count before x [] in omega (arith, e)
  factors_count before (y ∷ xs) x =
      let a = front_count before y (xs ++ x ∷ []) in let b = factors_count (before ++ y ∷ []) xs x in let c = front_count before y xs in
      omega (arith, a, b, c)

  pub factors_marks : (before xs : List (Bool × FlatExpr)) (x : Bool × FlatExpr) →
      list_any (λ t. t.0) (terms_of before (xs ++ x ∷ [])) ≡ (list_any (λ t. t.0) (terms_of before xs) || mark_if (is_still vars x.1) x.0)
  factors_marks before [] x = front_marks before x [] ∙ or_false (mark_if (is_still vars x.1) x.0)
  factors_marks before (y ∷ xs) x =
      front_marks before y (xs ++ x ∷ []) ∙ ap (λ b. mark_if (is_still vars y.1) y.0 || b) (factors_marks (before ++ y ∷ []) xs x)
      ∙ or_assoc (mark_if (is_still vars y.1) y.0) (list_any (λ t. t.0) (terms_of (before ++ y ∷ []) xs)) (mark_if (is_still vars x.1) x.0)
      ∙ ap (λ b. b || mark_if (is_still vars x.1) x.0) (sym (front_marks before y xs))

  abbrev pub moving : List (Bool × FlatExpr) → List (Bool × FlatExpr)
  moving xs = moving_terms vars (with_slopes vars xs)

  terms_more : (xs : List (Bool × FlatExpr)) (x : Bool × FlatExpr) → moving (xs ++ x ∷ []) ≡ moving xs ++ moving_one (is_still vars x.1) (x.0, derived vars x.1)
  terms_more xs x = ap (moving_terms vars) (slopes_append vars xs x) ∙ moving_push vars (with_slopes vars xs) (x.0, (x.1, derived vars x.1))

  pub terms_total : (xs : List (Bool × FlatExpr)) (x : Bool × FlatExpr) → total (moving (xs ++ x ∷ [])) ≡ total (moving xs) + (if is_still vars x.1 then 0 else weigh vars m (derived vars x.1))
  terms_total xs x =
      ap total (terms_more xs x) ∙ sum_by-append (λ (t : Bool × FlatExpr). weigh vars m t.1) (moving xs) (moving_one (is_still vars x.1) (x.0, derived vars x.1))
      ∙ ap (λ n. total (moving xs) + n) (one_total (is_still vars x.1) (x.0, derived vars x.1))

  pub terms_count : (xs : List (Bool × FlatExpr)) (x : Bool × FlatExpr) → length (moving (xs ++ x ∷ [])) ≡ length (moving xs) + one_if (is_still vars x.1)
  terms_count xs x =
      ap length (terms_more xs x) ∙ length-append (moving xs) (moving_one (is_still vars x.1) (x.0, derived vars x.1))
      ∙ ap (λ n. length (moving xs) + n) (one_count (is_still vars x.1) (x.0, derived vars x.1))

  pub terms_marks : (xs : List (Bool × FlatExpr)) (x : Bool × FlatExpr) → list_any (λ t. t.0) (moving (xs ++ x ∷ [])) ≡ (list_any (λ t. t.0) (moving xs) || mark_if (is_still vars x.1) x.0)
  terms_marks xs x =
      ap (list_any (λ t. t.0)) (terms_more xs x) ∙ any_append (λ t. t.0) (moving xs) (moving_one (is_still vars x.1) (x.0, derived vars x.1))
      ∙ ap (λ b. list_any (λ t. t.0) (moving xs) || b) (one_mark (is_still vars x.1) (x.0, derived vars x.1))

  module _ (parts terms terms2 : List (Bool × FlatExpr)) (d : Bool) (e : FlatExpr) (extra : ℕ)
      (weight : total terms2 ≡ total terms + extra)
      (count : length terms2 ≡ length terms + one_if (is_still vars e))
      (marks : list_any (λ t. t.0) terms2 ≡ (list_any (λ t. t.0) terms || mark_if (is_still vars e) d))
      (still minus : Bool) (whole slope moved : ℕ) (all : AreTermSizes vars m parts terms still minus whole slope moved) where
    pub grown_still : (whole2 slope2 : ℕ) → is_still vars e ≡ true → whole2 ≡ capped (total parts + weigh vars m e) → slope2 ≡ capped (total terms + extra) →
        AreTermSizes vars m (parts ++ (d, e) ∷ []) terms2 still minus whole2 slope2 moved
    grown_still whole2 slope2 s w l =
        record {
          still_is = all.still_is ∙ sym (all_push (λ (t : Bool × FlatExpr). is_still vars t.1) parts (d, e) ∙ ap (λ b. list_all (λ (t : Bool × FlatExpr). is_still vars t.1) parts && b) s ∙ and_true (list_all (λ (t : Bool × FlatExpr). is_still vars t.1) parts));
          whole_is = w ∙ ap capped (sym (sum_by_push (λ (t : Bool × FlatExpr). weigh vars m t.1) parts (d, e)));
          slope_is = l ∙ ap capped (sym weight);
          moving_is = all.moving_is ∙ ap capped (sym (count ∙ ap (λ b. length terms + one_if b) s ∙ omega arith));
          minus_is = all.minus_is ∙ sym (marks ∙ ap (λ b. list_any (λ t. t.0) terms || mark_if b d) s ∙ or_false (list_any (λ t. t.0) terms));
        }

    pub grown_moving : (minus2 : Bool) (whole2 slope2 moved2 : ℕ) → is_still vars e ≡ false → minus2 ≡ (minus || d) → whole2 ≡ capped (total parts + weigh vars m e) → slope2 ≡ capped (total terms + extra) →
        moved2 ≡ capped (length terms + 1) → AreTermSizes vars m (parts ++ (d, e) ∷ []) terms2 false minus2 whole2 slope2 moved2
    grown_moving minus2 whole2 slope2 moved2 s mk w l n =
        record {
          still_is = sym (all_push (λ (t : Bool × FlatExpr). is_still vars t.1) parts (d, e) ∙ ap (λ b. list_all (λ (t : Bool × FlatExpr). is_still vars t.1) parts && b) s ∙ and_false (list_all (λ (t : Bool × FlatExpr). is_still vars t.1) parts));
          whole_is = w ∙ ap capped (sym (sum_by_push (λ (t : Bool × FlatExpr). weigh vars m t.1) parts (d, e)));
          slope_is = l ∙ ap capped (sym weight);
          moving_is = n ∙ ap capped (sym (count ∙ ap (λ b. length terms + one_if b) s));
          minus_is = mk ∙ ap (λ b. b || d) all.minus_is ∙ sym (marks ∙ ap (λ b. list_any (λ t. t.0) terms || mark_if b d) s);
        }

  -- ---- whole expressions

  unless_weighs : (all : Bool) (tree : FlatExpr) (slope : ℕ) → slope ≡ (if all then node_weight m else capped (weigh vars m tree)) → slope ≡ capped (weigh vars m (unless all tree))
  unless_weighs true tree slope h = h ∙ sym (ap capped (at_Whole vars m (pos 0)) ∙ node_stops m)
  unless_weighs false tree slope h = h

  pub sized : (e tree : FlatExpr) (all : Bool) (x : ℕ) → is_still vars e ≡ all → derived vars e ≡ unless all tree → weigh vars m e ≡ x → (still : Bool) (whole slope : ℕ) → still ≡ all →
      whole ≡ capped x → slope ≡ (if all then node_weight m else capped (weigh vars m tree)) → IsSize vars m e still whole slope
  sized e tree all x s d w still whole slope h k l =
      record {
        still_is = h ∙ sym s;
        whole_is = k ∙ ap capped (sym w);
        slope_is = unless_weighs all tree slope l ∙ ap (λ t. capped (weigh vars m t)) (sym d);
      }

  pub sized_around : (e tree : FlatExpr) (all : Bool) (x y : ℕ) → is_still vars e ≡ all → derived vars e ≡ unless all tree → weigh vars m e ≡ node_weight m + x → weigh vars m tree ≡ node_weight m + y →
      (parts still : Bool) (whole slope : ℕ) → parts ≡ all → still ≡ parts → whole ≡ capped (node_weight m + x) → slope ≡ (if parts then node_weight m else capped (node_weight m + y)) → IsSize vars m e still whole slope
  sized_around e tree all x y s d w v parts still whole slope p h k l =
      sized e tree all (node_weight m + x) s d w still whole slope (h ∙ p) k
      (l ∙ ap (λ b. if b then node_weight m else capped (node_weight m + y)) p ∙ ap (λ n. if all then node_weight m else capped n) (sym v))

  pub at_All_slopes : (es : List FlatExpr) → weigh vars m (All (map (derived vars) es)) ≡ node_weight m + sum_by (λ e. weigh vars m (derived vars e)) es
  at_All_slopes es = at_All vars m (map (derived vars) es) ∙ ap (λ n. node_weight m + n) (mapped (weigh vars m) (derived vars) es)

  pub at_Any_slopes : (es : List FlatExpr) → weigh vars m (Any (map (derived vars) es)) ≡ node_weight m + sum_by (λ e. weigh vars m (derived vars e)) es
  at_Any_slopes es = at_Any vars m (map (derived vars) es) ∙ ap (λ n. node_weight m + n) (mapped (weigh vars m) (derived vars) es)

  pub at_If_slopes : (bs : List (FlatExpr × FlatExpr)) (o : FlatExpr) →
      weigh vars m (If (map (λ b. (b.0, derived vars b.1)) bs) (derived vars o)) ≡ node_weight m + (sum_by (λ b. weigh vars m b.0 + weigh vars m (derived vars b.1)) bs + weigh vars m (derived vars o))
  at_If_slopes bs o = at_If vars m (map (λ b. (b.0, derived vars b.1)) bs) (derived vars o)
      ∙ ap (λ n. node_weight m + (n + weigh vars m (derived vars o))) (mapped (λ (b : FlatExpr × FlatExpr). weigh vars m b.0 + weigh vars m b.1) (λ b. (b.0, derived vars b.1)) bs)

  pub both_still : (es : List FlatExpr) (e : FlatExpr) (still one all : Bool) → still ≡ list_all (is_still vars) es → one ≡ is_still vars e → all ≡ (still && one) → all ≡ list_all (is_still vars) (es ++ e ∷ [])
  both_still es e still one all h k l = l ∙ ap (λ b. b && one) h ∙ ap (λ b. list_all (is_still vars) es && b) k ∙ sym (all_push (is_still vars) es e)

  -- one more part
  pub parts_more : (es : List FlatExpr) (e : FlatExpr) (still one all : Bool) (whole slope x y whole2 slope2 : ℕ) → AreSizes vars m es still whole slope → IsSize vars m e one x y → all ≡ (still && one) →
      whole2 ≡ capped (sum_by (weigh vars m) es + weigh vars m e) → slope2 ≡ capped (sum_by (λ e. weigh vars m (derived vars e)) es + weigh vars m (derived vars e)) → AreSizes vars m (es ++ e ∷ []) all whole2 slope2
  parts_more es e still one all whole slope x y whole2 slope2 h k l w s =
      record {
        still_is = both_still es e still one all h.still_is k.still_is l;
        whole_is = w ∙ ap capped (sym (sum_by_push (weigh vars m) es e));
        slope_is = s ∙ ap capped (sym (sum_by_push (λ e. weigh vars m (derived vars e)) es e));
      }

  pub branches_more : (bs : List (FlatExpr × FlatExpr)) (c e : FlatExpr) (still one all : Bool) (whole2 slope2 : ℕ) → still ≡ list_all (λ b. is_still vars b.1) bs → one ≡ is_still vars e → all ≡ (still && one) →
      whole2 ≡ capped (sum_by (λ b. weigh vars m b.0 + weigh vars m b.1) bs + (weigh vars m c + weigh vars m e)) →
      slope2 ≡ capped (sum_by (λ b. weigh vars m b.0 + weigh vars m (derived vars b.1)) bs + (weigh vars m c + weigh vars m (derived vars e))) → AreBranchSizes vars m (bs ++ (c, e) ∷ []) all whole2 slope2
  branches_more bs c e still one all whole2 slope2 h k l w s =
      record {
        still_is = l ∙ ap (λ b. b && one) h ∙ ap (λ b. list_all (λ (b : FlatExpr × FlatExpr). is_still vars b.1) bs && b) k ∙ sym (all_push (λ (b : FlatExpr × FlatExpr). is_still vars b.1) bs (c, e));
        whole_is = w ∙ ap capped (sym (sum_by_push (λ (b : FlatExpr × FlatExpr). weigh vars m b.0 + weigh vars m b.1) bs (c, e)));
        slope_is = s ∙ ap capped (sym (sum_by_push (λ (b : FlatExpr × FlatExpr). weigh vars m b.0 + weigh vars m (derived vars b.1)) bs (c, e)));
      }

  -- what a still part leaves, and what another adds
  pub nothing_more : (b : Bool) (n x : ℕ) → b ≡ true → capped n ≡ capped (n + (if b then 0 else x))
  nothing_more true n x h = ap capped (omega arith)
  nothing_more false n x h = absurd cc

  pub something_more : (b : Bool) (n x : ℕ) → b ≡ false → capped (n + x) ≡ capped (n + (if b then 0 else x))
  something_more true n x h = absurd cc
  something_more false n x h = refl

  pub factor_stays : (b : Bool) (n w x : ℕ) → b ≡ true → capped (n + w) ≡ capped (n + (w + (if b then 0 else x)))
  factor_stays true n w x h = ap capped (omega arith)
  factor_stays false n w x h = absurd cc

  pub factor_moves : (b : Bool) (n w node before here : ℕ) → b ≡ false → capped ((n + w) + (node + (before + here))) ≡ capped (n + (w + (if b then 0 else node + ((0 + before) + here))))
  factor_moves true n w node before here h = absurd cc
  factor_moves false n w node before here h = ap capped (omega arith)

  pub both_are : (r p q a b : Bool) → r ≡ (p && q) → p ≡ a → q ≡ b → r ≡ (a && b)
  both_are r p q a b is h k = is ∙ ap (λ x. x && q) h ∙ ap (λ x. a && x) k

  pub sized_settled : (e tree : FlatExpr) (all : Bool) (x : ℕ) → is_still vars e ≡ all → derived vars e ≡ unless all tree → weigh vars m e ≡ x → (given still : Bool) (w s whole slope : ℕ) → given ≡ all → w ≡ capped x → s ≡ capped (weigh vars m tree) →
      still ≡ given → whole ≡ w → slope ≡ (if given then node_weight m else s) → IsSize vars m e still whole slope
  sized_settled e tree all x es ed ew given still w s whole slope g hw hs h k l =
      sized e tree all x es ed ew still whole slope (h ∙ g) (k ∙ hw) (l ∙ ap (λ b. if b then node_weight m else s) g ∙ ap (λ n. if all then node_weight m else n) hs)

  pub leaf_sized : (e : FlatExpr) (x : ℕ) → (true ≡ is_still vars e) × (Whole (pos 0) ≡ derived vars e) → weigh vars m e ≡ x → (still : Bool) (whole slope : ℕ) → still ≡ true → whole ≡ capped x → slope ≡ node_weight m → IsSize vars m e still whole slope
  leaf_sized e x made w still whole slope h k l =
      record {
        still_is = h ∙ made.0;
        whole_is = k ∙ ap capped (sym w);
        slope_is = l ∙ sym (node_stops m) ∙ ap capped (sym (at_Whole vars m (pos 0)) ∙ ap (weigh vars m) made.1);
      }

  pub time_sized : (still : Bool) (whole slope : ℕ) → still ≡ false → whole ≡ node_weight m → slope ≡ node_weight m → IsSize vars m Time still whole slope
  time_sized still whole slope h k l =
      record {
        still_is = h ∙ (at_Time_derived vars).0;
        whole_is = k ∙ sym (node_stops m) ∙ ap capped (sym (at_Time vars m));
        slope_is = l ∙ sym (node_stops m) ∙ ap capped (sym (at_Whole vars m (pos 1)) ∙ ap (weigh vars m) (at_Time_derived vars).1);
      }

  pub variable_sized : (v k here later next : ℕ) (moves still : Bool) (whole slope : ℕ) → here ≡ capped (node_weight m + variable_weight vars m v k) → later ≡ min (k + 1) 4294967295 →
      next ≡ capped (node_weight m + variable_weight vars m v later) → moves ≡ (is_unknown vars v || is_given vars v) → still ≡ not moves → whole ≡ here → slope ≡ (if not moves then node_weight m else next) → IsSize vars m (Var v k) still whole slope
  variable_sized v k here later next moves still whole slope hh hl hx hm s w l =
      let stays : not moves ≡ is_still vars (Var v k) = ap not hm ∙ sym (still_Var vars v k) in
      let second : next ≡ capped (weigh vars m (Var v (next_order k))) = hx ∙ ap (λ n. capped (node_weight m + variable_weight vars m v n)) hl ∙ ap capped (sym (at_Var vars m v (next_order k))) in
      sized_settled (Var v k) (Var v (next_order k)) (is_still vars (Var v k)) (node_weight m + variable_weight vars m v k) refl (derived_Var vars v k) (at_Var vars m v k) (not moves) still here next whole slope stays hh second s w l

-- a whole number that is passed on
pub passed_on : (f : ℤ → ℕ) (x : ℤ) (r : ℕ) → SFits w64 x → r ≡ f (to_z w64 (of_z w64 x)) → r ≡ f x
passed_on f x r fits e = grind (arith, to_z-of_z)

-- a turn of a loop over a list
pub next_of : {A : Type 0} (P : List A → Type 0) (xs : List A) (i : ℕ) (x : A) → i < length xs → x ≡ get_or xs i x → P (take i xs ++ x ∷ []) → P (take (i + 1) xs)
next_of P xs i x l is h = subst P (sym (take_more xs i x l ∙ ap (λ y. take i xs ++ y ∷ []) (sym is))) h
