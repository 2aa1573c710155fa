-- Each row of the table of derivatives has the first-order part of the dual number as its value.
use Rattle.std.proofs.Common.{◌≡◌, ℕ, ℤ, pos, neg_ℤ, ◌+ℤ◌, ◌-ℤ◌, ◌*ℤ◌, Bool, true, false, List, [], ◌∷◌, ◌++◌, Option, Some, None, map, refl, ap, ◌∙◌, sym}
use Rattle.std.proofs.Math.IntN.{+ℤ_idl, +ℤ_idr, *ℤ_comm, *ℤ-zero, zero-*ℤ}
use Rattle.std.specs.Prelude.{if◌then◌else◌, nat_eq, int_le}
use Rattle.std.specs.Ordering.{int_eq}
use Rattle.mo_syntax.specs.declared.expr.RelOp.TheVariants.{Less, Greater, GreaterEqual}
use Rattle.mo_tables.specs.declared.functions.TheConstants.{ABS, ACOS, ASIN, ATAN, ATAN2, COS, COSH, EXP, LOG, LOG10, MAX, MIN, SIN, SINH, SQRT, TAN, TANH}
use Rattle.mo_flat.specs.declared.expr.FlatExpr.{FlatExpr, FlatExpr-F, fold_out-FlatExpr, para-roll-FlatExpr, roll-out-FlatExpr, map-FlatExpr, out-FlatExpr}
use Rattle.mo_flat.specs.declared.expr.FlatExpr.TheVariants.{Whole, Product, Power}
use Rattle.mo_flat.specs.declared.model.FlatVar.{FlatVar}
use Rattle.mo_symdiff.specs.Derivative.{Part, applied, base_term, call_slope, call_slope_of_two, derived, derive_node, exponent_term, literal_at, literal_power, minus, moving_terms, negated, one, over, plain_factors, plus, power_by, power_slope, product_terms, replaced_factor, slope_node, squared, sum_of, times, two}
use Rattle.mo_symdiff.specs.Dual.{Dual, Interpretation, apply, call_part, call_part_of_two, dual_product, power_part, product_from, signed, signed_sum, value_in}
use Rattle.mo_symdiff.specs.Still.{is_still, still_node}
use Rattle.mo_symdiff.proofs.DualAt.{at_Whole, at_Sum, at_Product, at_Power, at_Call, at_times_two, at_times_three, at_over, at_squared, at_plus, at_minus, at_negated, at_applied, at_chosen, signed_values}
use Rattle.mo_symdiff.proofs.DualRing.{one_times, times_one, neg_times, times_assoc, inverse_part, product_step, still_step}
use Rattle.mo_symdiff.proofs.SigmaGather.{mapped}

-- the dual number of an expression, by the derivative
abbrev pub told : Interpretation → List FlatVar → FlatExpr → Dual
told I vars e = record { still = is_still vars e; value = value_in I e; part = value_in I (derived vars e) }

both_ways : (I : Interpretation) (b : Bool) (x y : FlatExpr) (m n : ℤ) → value_in I x ≡ m → value_in I y ≡ n → value_in I (if b then x else y) ≡ (if b then m else n)
both_ways I true x y m n h k = h
both_ways I false x y m n h k = k

-- the derivative of a still expression
zero_where : (I : Interpretation) (b : Bool) (s : FlatExpr) → b ≡ true → value_in I (if b then Whole (pos 0) else s) ≡ pos 0
zero_where I true s h = at_Whole I (pos 0)
zero_where I false s h = absurd cc

pub still_slope : (I : Interpretation) (vars : List FlatVar) (e : FlatExpr) → is_still vars e ≡ true → value_in I (derived vars e) ≡ pos 0
still_slope I vars e h =
    let x : FlatExpr-F FlatExpr = out-FlatExpr e in
    let node : FlatExpr-F Part = map-FlatExpr FlatExpr Part (λ z. (z, derived vars z)) x in
    let opened : derived vars e ≡ derive_node vars node = ap (derived vars) (sym (roll-out-FlatExpr e)) ∙ para-roll-FlatExpr FlatExpr (derive_node vars) x in
    let stills : still_node vars (map-FlatExpr Part Bool (λ p. is_still vars p.0) node) ≡ is_still vars e =
    ap (still_node vars) (mapped FlatExpr Part Bool (λ p. is_still vars p.0) (λ z. (z, derived vars z)) x) ∙ sym (fold_out-FlatExpr Bool (still_node vars) e) in
    ap (value_in I) opened ∙ zero_where I (still_node vars (map-FlatExpr Part Bool (λ p. is_still vars p.0) node)) (slope_node vars node) (stills ∙ h)

-- one argument
pub call_row : (I : Interpretation) (f : ℕ) (u s : FlatExpr) → value_in I (call_slope f (u, s)) ≡ call_part I f (value_in I u) (value_in I s)
call_row I f u s =
    let v : ℤ = value_in I u in let p : ℤ = value_in I s in
    let root = at_applied I SQRT (minus one (squared u)) ∙ ap (apply I SQRT) (at_minus I one (squared u) ∙ ap (λ x. x -ℤ value_in I (squared u)) (at_Whole I (pos 1)) ∙ ap (λ x. pos 1 -ℤ x) (at_squared I u)) in
    both_ways I (nat_eq f SIN) _ _ _ _ (at_times_two I (applied COS u) s ∙ ap (λ x. x *ℤ p) (at_applied I COS u))
    (both_ways I (nat_eq f COS) _ _ _ _ (at_negated I (times (applied SIN u ∷ s ∷ [])) ∙ ap neg_ℤ (at_times_two I (applied SIN u) s ∙ ap (λ x. x *ℤ p) (at_applied I SIN u)))
    (both_ways I (nat_eq f TAN) _ _ _ _ (at_over I s (squared (applied COS u)) ∙ ap (λ x. p *ℤ I.reciprocal x) (at_squared I (applied COS u) ∙ ap (λ x. I.power x (pos 2)) (at_applied I COS u)))
    (both_ways I (nat_eq f ASIN) _ _ _ _ (at_over I s (applied SQRT (minus one (squared u))) ∙ ap (λ x. p *ℤ I.reciprocal x) root)
    (both_ways I (nat_eq f ACOS) _ _ _ _ (at_negated I (over s (applied SQRT (minus one (squared u)))) ∙ ap neg_ℤ (at_over I s (applied SQRT (minus one (squared u))) ∙ ap (λ x. p *ℤ I.reciprocal x) root))
    (both_ways I (nat_eq f ATAN) _ _ _ _ (at_over I s (plus one (squared u)) ∙ ap (λ x. p *ℤ I.reciprocal x) (at_plus I one (squared u) ∙ ap (λ x. x +ℤ value_in I (squared u)) (at_Whole I (pos 1)) ∙ ap (λ x. pos 1 +ℤ x) (at_squared I u)))
    (both_ways I (nat_eq f SINH) _ _ _ _ (at_times_two I (applied COSH u) s ∙ ap (λ x. x *ℤ p) (at_applied I COSH u))
    (both_ways I (nat_eq f COSH) _ _ _ _ (at_times_two I (applied SINH u) s ∙ ap (λ x. x *ℤ p) (at_applied I SINH u))
    (both_ways I (nat_eq f TANH) _ _ _ _ (at_over I s (squared (applied COSH u)) ∙ ap (λ x. p *ℤ I.reciprocal x) (at_squared I (applied COSH u) ∙ ap (λ x. I.power x (pos 2)) (at_applied I COSH u)))
    (both_ways I (nat_eq f EXP) _ _ _ _ (at_times_two I (applied EXP u) s ∙ ap (λ x. x *ℤ p) (at_applied I EXP u))
    (both_ways I (nat_eq f LOG) _ _ _ _ (at_over I s u ∙ *ℤ_comm p (I.reciprocal v))
    (both_ways I (nat_eq f LOG10) _ _ _ _ (at_over I s (times (u ∷ applied LOG (Whole (pos 10)) ∷ [])) ∙ ap (λ x. p *ℤ I.reciprocal x) (at_times_two I u (applied LOG (Whole (pos 10))) ∙ ap (λ x. v *ℤ x) (at_applied I LOG (Whole (pos 10)) ∙ ap (apply I LOG) (at_Whole I (pos 10)))))
    (both_ways I (nat_eq f SQRT) _ _ _ _ (at_over I s (times (two ∷ applied SQRT u ∷ [])) ∙ ap (λ x. p *ℤ I.reciprocal x) (at_times_two I two (applied SQRT u) ∙ ap (λ x. x *ℤ value_in I (applied SQRT u)) (at_Whole I (pos 2)) ∙ ap (λ x. pos 2 *ℤ x) (at_applied I SQRT u)))
    (both_ways I (nat_eq f ABS) _ _ _ _ (at_chosen I GreaterEqual u (Whole (pos 0)) s (negated s) ∙ ap (λ z. if int_le z v then p else value_in I (negated s)) (at_Whole I (pos 0)) ∙ ap (λ x. if int_le (pos 0) v then p else x) (at_negated I s))
    (at_applied I f s))))))))))))))

-- two arguments
pub call_row_of_two : (I : Interpretation) (vars : List FlatVar) (f : ℕ) (a b : FlatExpr) →
    value_in I (call_slope_of_two f (a, derived vars a) (b, derived vars b)) ≡ call_part_of_two I f (told I vars a) (told I vars b)
call_row_of_two I vars f a b =
    let s : FlatExpr = derived vars a in let t : FlatExpr = derived vars b in
    both_ways I (nat_eq f ATAN2) _ _ _ _
    (at_over I (minus (times (s ∷ b ∷ [])) (times (a ∷ t ∷ []))) (plus (squared a) (squared b))
    ∙ ap (λ x. x *ℤ I.reciprocal (value_in I (plus (squared a) (squared b)))) (at_minus I (times (s ∷ b ∷ [])) (times (a ∷ t ∷ []))
    ∙ ap (λ x. x -ℤ value_in I (times (a ∷ t ∷ []))) (at_times_two I s b) ∙ ap (λ x. value_in I s *ℤ value_in I b -ℤ x) (at_times_two I a t))
    ∙ ap (λ x. (value_in I s *ℤ value_in I b -ℤ value_in I a *ℤ value_in I t) *ℤ I.reciprocal x) (at_plus I (squared a) (squared b)
    ∙ ap (λ x. x +ℤ value_in I (squared b)) (at_squared I a) ∙ ap (λ x. I.power (value_in I a) (pos 2) +ℤ x) (at_squared I b)))
    (both_ways I (nat_eq f MIN) _ _ _ _ (at_chosen I Less a b s t)
    (both_ways I (nat_eq f MAX) _ _ _ _ (at_chosen I Greater a b s t)
    (at_Call I f (s ∷ t ∷ []))))

-- powers
literal_row : (I : Interpretation) (vars : List FlatVar) (n : ℤ) (a b : FlatExpr) → value_in I (literal_power n (a, derived vars a)) ≡ power_part I (Some n) (told I vars a) (told I vars b)
literal_row I vars n a b =
    let s : FlatExpr = derived vars a in
    both_ways I (int_eq n (pos 2)) _ _ _ _
    (at_times_three I two a s ∙ ap (λ x. x *ℤ value_in I a *ℤ value_in I s) (at_Whole I (pos 2)))
    (at_times_three I (Whole n) (Power a (Whole (n -ℤ pos 1))) s ∙ ap (λ x. x *ℤ value_in I (Power a (Whole (n -ℤ pos 1))) *ℤ value_in I s) (at_Whole I n)
    ∙ ap (λ x. n *ℤ x *ℤ value_in I s) (at_Power I a (Whole (n -ℤ pos 1)) ∙ ap (I.power (value_in I a)) (at_Whole I (n -ℤ pos 1))))

base_value : (I : Interpretation) (a s b : FlatExpr) → value_in I (base_term (a, s) b) ≡ value_in I b *ℤ I.power (value_in I a) (value_in I b -ℤ pos 1) *ℤ value_in I s
base_value I a s b =
    at_times_three I b (Power a (minus b one)) s
    ∙ ap (λ x. value_in I b *ℤ x *ℤ value_in I s) (at_Power I a (minus b one) ∙ ap (I.power (value_in I a)) (at_minus I b one ∙ ap (λ x. value_in I b -ℤ x) (at_Whole I (pos 1))))

exponent_value : (I : Interpretation) (a b t : FlatExpr) → value_in I (exponent_term a (b, t)) ≡ I.power (value_in I a) (value_in I b) *ℤ apply I LOG (value_in I a) *ℤ value_in I t
exponent_value I a b t =
    at_times_three I (Power a b) (applied LOG a) t ∙ ap (λ x. x *ℤ value_in I (applied LOG a) *ℤ value_in I t) (at_Power I a b)
    ∙ ap (λ x. I.power (value_in I a) (value_in I b) *ℤ x *ℤ value_in I t) (at_applied I LOG a)

-- a still base has a part of 0, and so has the term that is left out
base_part : (I : Interpretation) (vars : List FlatVar) (a b : FlatExpr) (i : Bool) → is_still vars a ≡ i →
    value_in I b *ℤ I.power (value_in I a) (value_in I b -ℤ pos 1) *ℤ value_in I (derived vars a)
    ≡ (if i then pos 0 else value_in I b *ℤ I.power (value_in I a) (value_in I b -ℤ pos 1) *ℤ value_in I (derived vars a))
base_part I vars a b true h = ap (λ x. value_in I b *ℤ I.power (value_in I a) (value_in I b -ℤ pos 1) *ℤ x) (still_slope I vars a h) ∙ *ℤ-zero (value_in I b *ℤ I.power (value_in I a) (value_in I b -ℤ pos 1))
base_part I vars a b false h = refl

general_row : (I : Interpretation) (vars : List FlatVar) (a b : FlatExpr) (i j : Bool) → is_still vars a ≡ i → is_still vars b ≡ j →
    value_in I (if j then base_term (a, derived vars a) b else (if i then exponent_term a (b, derived vars b) else plus (base_term (a, derived vars a) b) (exponent_term a (b, derived vars b))))
    ≡ (if i then pos 0 else value_in I b *ℤ I.power (value_in I a) (value_in I b -ℤ pos 1) *ℤ value_in I (derived vars a))
    +ℤ (if j then pos 0 else I.power (value_in I a) (value_in I b) *ℤ apply I LOG (value_in I a) *ℤ value_in I (derived vars b))
general_row I vars a b i true h k = base_value I a (derived vars a) b ∙ base_part I vars a b i h ∙ sym (+ℤ_idr (if i then pos 0 else value_in I b *ℤ I.power (value_in I a) (value_in I b -ℤ pos 1) *ℤ value_in I (derived vars a)))
general_row I vars a b true false h k = exponent_value I a b (derived vars b) ∙ sym (+ℤ_idl (I.power (value_in I a) (value_in I b) *ℤ apply I LOG (value_in I a) *ℤ value_in I (derived vars b)))
general_row I vars a b false false h k =
    at_plus I (base_term (a, derived vars a) b) (exponent_term a (b, derived vars b))
    ∙ ap (λ x. x +ℤ value_in I (exponent_term a (b, derived vars b))) (base_value I a (derived vars a) b)
    ∙ ap (λ x. value_in I b *ℤ I.power (value_in I a) (value_in I b -ℤ pos 1) *ℤ value_in I (derived vars a) +ℤ x) (exponent_value I a b (derived vars b))

power_at : (I : Interpretation) (vars : List FlatVar) (a b : FlatExpr) (o : Option ℤ) → value_in I (power_by vars o (a, derived vars a) (b, derived vars b)) ≡ power_part I o (told I vars a) (told I vars b)
power_at I vars a b None = general_row I vars a b (is_still vars a) (is_still vars b) refl refl
power_at I vars a b (Some n) = literal_row I vars n a b

pub power_row : (I : Interpretation) (vars : List FlatVar) (a b : FlatExpr) → value_in I (power_slope vars (a, derived vars a) (b, derived vars b)) ≡ power_part I (literal_at (out-FlatExpr b)) (told I vars a) (told I vars b)
power_row I vars a b = power_at I vars a b (literal_at (out-FlatExpr b))

-- sums
pub sum_row : (I : Interpretation) (ts : List (Bool × FlatExpr)) → value_in I (sum_of ts) ≡ signed_sum (signed_values I ts)
sum_row I [] = at_Sum I []
sum_row I ((false, u) ∷ []) = sym (+ℤ_idr (value_in I u))
sum_row I ((true, u) ∷ []) = at_Sum I ((true, u) ∷ [])
sum_row I ((false, u) ∷ t ∷ ts) = at_Sum I ((false, u) ∷ t ∷ ts)
sum_row I ((true, u) ∷ t ∷ ts) = at_Sum I ((true, u) ∷ t ∷ ts)

signed_zero : (b : Bool) → signed b (pos 0) ≡ pos 0
signed_zero true = refl
signed_zero false = refl

moving_step : (I : Interpretation) (vars : List FlatVar) (s : Bool) (a : FlatExpr) (terms : List (Bool × FlatExpr)) (n : ℤ) → signed_sum (signed_values I terms) ≡ n → (b : Bool) → is_still vars a ≡ b →
    signed_sum (signed_values I (if b then terms else (s, derived vars a) ∷ terms)) ≡ signed s (value_in I (derived vars a)) +ℤ n
moving_step I vars s a terms n h true e = h ∙ sym (ap (λ x. signed s x +ℤ n) (still_slope I vars a e) ∙ ap (λ x. x +ℤ n) (signed_zero s) ∙ +ℤ_idl n)
moving_step I vars s a terms n h false e = ap (λ x. signed s (value_in I (derived vars a)) +ℤ x) h

pub moving_row : (I : Interpretation) (vars : List FlatVar) (ts : List (Bool × FlatExpr)) →
    signed_sum (signed_values I (moving_terms vars (map (λ t. (t.0, (t.1, derived vars t.1))) ts))) ≡ signed_sum (map (λ t. (t.0, value_in I (derived vars t.1))) ts)
moving_row I vars [] = refl
moving_row I vars (t ∷ ts) = moving_step I vars t.0 t.1 _ _ (moving_row I vars ts) (is_still vars t.1) refl

-- products
product_append : (I : Interpretation) (v : ℤ) (xs ys : List (Bool × FlatExpr)) → product_from I v (signed_values I (xs ++ ys)) ≡ product_from I (product_from I v (signed_values I xs)) (signed_values I ys)
product_append I v [] ys = refl
product_append I v ((false, x) ∷ xs) ys = product_append I (v *ℤ value_in I x) xs ys
product_append I v ((true, x) ∷ xs) ys = product_append I (v *ℤ I.reciprocal (value_in I x)) xs ys

product_scaled : (I : Interpretation) (v w : ℤ) (xs : List (Bool × ℤ)) → product_from I (v *ℤ w) xs ≡ v *ℤ product_from I w xs
product_scaled I v w [] = refl
product_scaled I v w ((false, x) ∷ xs) = ap (λ z. product_from I z xs) (times_assoc v w x) ∙ product_scaled I v (w *ℤ x) xs
product_scaled I v w ((true, x) ∷ xs) = ap (λ z. product_from I z xs) (times_assoc v w (I.reciprocal x)) ∙ product_scaled I v (w *ℤ I.reciprocal x) xs

product_rest : (I : Interpretation) (v : ℤ) (xs : List (Bool × ℤ)) → product_from I v xs ≡ v *ℤ product_from I (pos 1) xs
product_rest I v xs = ap (λ z. product_from I z xs) (sym (times_one v)) ∙ product_scaled I v (pos 1) xs

plain : (vars : List FlatVar) (ts : List (Bool × FlatExpr)) → plain_factors (map (λ t. (t.0, (t.1, derived vars t.1))) ts) ≡ ts
plain vars [] = refl
plain vars (t ∷ ts) = ap (λ l. t ∷ l) (plain vars ts)

abbrev slopes : List FlatVar → List (Bool × FlatExpr) → List (Bool × Part)
slopes vars ts = map (λ t. (t.0, (t.1, derived vars t.1))) ts

abbrev duals : Interpretation → List FlatVar → List (Bool × FlatExpr) → List (Bool × Dual)
duals I vars ts = map (λ t. (t.0, told I vars t.1)) ts

-- the product of the factors before
abbrev leading : Interpretation → List (Bool × FlatExpr) → ℤ
leading I before = product_from I (pos 1) (signed_values I before)

-- the sum of the terms of a product's derivative
abbrev terms_value : Interpretation → List FlatVar → List (Bool × FlatExpr) → List (Bool × FlatExpr) → ℤ
terms_value I vars before ts = signed_sum (signed_values I (product_terms vars before (slopes vars ts)))

multiplied_step : (I : Interpretation) (vars : List FlatVar) (before ts : List (Bool × FlatExpr)) (f : FlatExpr) (v p : ℤ) → v ≡ leading I before → (b : Bool) → is_still vars f ≡ b →
    (terms : List (Bool × FlatExpr)) →
    (p *ℤ value_in I f +ℤ v *ℤ value_in I (derived vars f)) *ℤ product_from I (pos 1) (signed_values I ts) +ℤ signed_sum (signed_values I terms)
    ≡ p *ℤ (value_in I f *ℤ product_from I (pos 1) (signed_values I ts)) +ℤ signed_sum (signed_values I (if b then terms else replaced_factor before (false, (f, derived vars f)) ts ∷ terms))
multiplied_step I vars before ts f v p h true e terms =
    let rest : ℤ = product_from I (pos 1) (signed_values I ts) in
    ap (λ x. (p *ℤ value_in I f +ℤ v *ℤ x) *ℤ rest +ℤ signed_sum (signed_values I terms)) (still_slope I vars f e) ∙ still_step p (value_in I f) v rest (signed_sum (signed_values I terms))
multiplied_step I vars before ts f v p h false e terms =
    let q : ℤ = value_in I (derived vars f) in let rest : ℤ = product_from I (pos 1) (signed_values I ts) in
    let term : value_in I (Product (before ++ (false, derived vars f) ∷ ts)) ≡ (v *ℤ q) *ℤ rest =
    at_Product I (before ++ (false, derived vars f) ∷ ts) ∙ product_append I (pos 1) before ((false, derived vars f) ∷ ts)
    ∙ ap (λ x. product_from I (x *ℤ q) (signed_values I ts)) (sym h) ∙ product_rest I (v *ℤ q) (signed_values I ts) in
    product_step p (value_in I f) v q rest (signed_sum (signed_values I terms)) ∙ ap (λ x. p *ℤ (value_in I f *ℤ rest) +ℤ (x +ℤ signed_sum (signed_values I terms))) (sym term)

divided_step : (I : Interpretation) (vars : List FlatVar) (before ts : List (Bool × FlatExpr)) (f : FlatExpr) (v p : ℤ) → v ≡ leading I before → (b : Bool) → is_still vars f ≡ b →
    (terms : List (Bool × FlatExpr)) →
    (p *ℤ I.reciprocal (value_in I f) +ℤ v *ℤ (neg_ℤ (I.reciprocal (value_in I f)) *ℤ I.reciprocal (value_in I f) *ℤ value_in I (derived vars f))) *ℤ product_from I (pos 1) (signed_values I ts) +ℤ signed_sum (signed_values I terms)
    ≡ p *ℤ (I.reciprocal (value_in I f) *ℤ product_from I (pos 1) (signed_values I ts)) +ℤ signed_sum (signed_values I (if b then terms else replaced_factor before (true, (f, derived vars f)) ts ∷ terms))
divided_step I vars before ts f v p h true e terms =
    let r : ℤ = I.reciprocal (value_in I f) in let rest : ℤ = product_from I (pos 1) (signed_values I ts) in
    ap (λ x. (p *ℤ r +ℤ v *ℤ x) *ℤ rest +ℤ signed_sum (signed_values I terms)) (ap (λ x. neg_ℤ r *ℤ r *ℤ x) (still_slope I vars f e) ∙ *ℤ-zero (neg_ℤ r *ℤ r))
    ∙ still_step p r v rest (signed_sum (signed_values I terms))
divided_step I vars before ts f v p h false e terms =
    let r : ℤ = I.reciprocal (value_in I f) in let q : ℤ = value_in I (derived vars f) in let rest : ℤ = product_from I (pos 1) (signed_values I ts) in
    let list : List (Bool × FlatExpr) = (true, f) ∷ (false, derived vars f) ∷ (true, f) ∷ ts in
    let term : neg_ℤ (value_in I (Product (before ++ list))) ≡ (v *ℤ (neg_ℤ r *ℤ r *ℤ q)) *ℤ rest =
    ap neg_ℤ (at_Product I (before ++ list) ∙ product_append I (pos 1) before list
    ∙ ap (λ x. product_from I (x *ℤ r *ℤ q *ℤ r) (signed_values I ts)) (sym h) ∙ product_rest I (v *ℤ r *ℤ q *ℤ r) (signed_values I ts))
    ∙ sym (neg_times (v *ℤ r *ℤ q *ℤ r) rest) ∙ ap (λ x. x *ℤ rest) (sym (inverse_part v r q)) in
    product_step p r v (neg_ℤ r *ℤ r *ℤ q) rest (signed_sum (signed_values I terms)) ∙ ap (λ x. p *ℤ (r *ℤ rest) +ℤ (x +ℤ signed_sum (signed_values I terms))) (sym term)

product_from_left : (I : Interpretation) (vars : List FlatVar) (before ts : List (Bool × FlatExpr)) (v p : ℤ) → v ≡ leading I before →
    (dual_product I (v, p) (duals I vars ts)).1 ≡ p *ℤ product_from I (pos 1) (signed_values I ts) +ℤ terms_value I vars before ts
product_from_left I vars before [] v p h = sym (+ℤ_idr (p *ℤ pos 1) ∙ times_one p)
product_from_left I vars before ((false, f) ∷ ts) v p h =
    let w : ℤ = value_in I f in let after : List (Bool × FlatExpr) = before ++ (false, f) ∷ [] in
    let lead : v *ℤ w ≡ leading I after = ap (λ x. x *ℤ w) h ∙ sym (product_append I (pos 1) before ((false, f) ∷ [])) in
    let scaled : w *ℤ product_from I (pos 1) (signed_values I ts) ≡ product_from I (pos 1 *ℤ w) (signed_values I ts) =
    sym (product_rest I w (signed_values I ts)) ∙ ap (λ x. product_from I x (signed_values I ts)) (sym (one_times w)) in
    product_from_left I vars after ts (v *ℤ w) (p *ℤ w +ℤ v *ℤ value_in I (derived vars f)) lead
    ∙ multiplied_step I vars before ts f v p h (is_still vars f) refl (product_terms vars after (slopes vars ts))
    ∙ ap (λ x. p *ℤ x +ℤ signed_sum (signed_values I (if is_still vars f then product_terms vars after (slopes vars ts) else replaced_factor before (false, (f, derived vars f)) ts ∷ product_terms vars after (slopes vars ts)))) scaled
    ∙ ap (λ l. p *ℤ product_from I (pos 1 *ℤ w) (signed_values I ts) +ℤ signed_sum (signed_values I (if is_still vars f then product_terms vars after (slopes vars ts) else replaced_factor before (false, (f, derived vars f)) l ∷ product_terms vars after (slopes vars ts)))) (sym (plain vars ts))
product_from_left I vars before ((true, f) ∷ ts) v p h =
    let r : ℤ = I.reciprocal (value_in I f) in let after : List (Bool × FlatExpr) = before ++ (true, f) ∷ [] in
    let lead : v *ℤ r ≡ leading I after = ap (λ x. x *ℤ r) h ∙ sym (product_append I (pos 1) before ((true, f) ∷ [])) in
    let scaled : r *ℤ product_from I (pos 1) (signed_values I ts) ≡ product_from I (pos 1 *ℤ r) (signed_values I ts) =
    sym (product_rest I r (signed_values I ts)) ∙ ap (λ x. product_from I x (signed_values I ts)) (sym (one_times r)) in
    product_from_left I vars after ts (v *ℤ r) (p *ℤ r +ℤ v *ℤ (neg_ℤ r *ℤ r *ℤ value_in I (derived vars f))) lead
    ∙ divided_step I vars before ts f v p h (is_still vars f) refl (product_terms vars after (slopes vars ts))
    ∙ ap (λ x. p *ℤ x +ℤ signed_sum (signed_values I (if is_still vars f then product_terms vars after (slopes vars ts) else replaced_factor before (true, (f, derived vars f)) ts ∷ product_terms vars after (slopes vars ts)))) scaled
    ∙ ap (λ l. p *ℤ product_from I (pos 1 *ℤ r) (signed_values I ts) +ℤ signed_sum (signed_values I (if is_still vars f then product_terms vars after (slopes vars ts) else replaced_factor before (true, (f, derived vars f)) l ∷ product_terms vars after (slopes vars ts)))) (sym (plain vars ts))

pub product_row : (I : Interpretation) (vars : List FlatVar) (ts : List (Bool × FlatExpr)) → (dual_product I (pos 1, pos 0) (duals I vars ts)).1 ≡ terms_value I vars [] ts
product_row I vars ts =
    product_from_left I vars [] ts (pos 1) (pos 0) refl ∙ ap (λ x. x +ℤ terms_value I vars [] ts) (zero-*ℤ (product_from I (pos 1) (signed_values I ts))) ∙ +ℤ_idl (terms_value I vars [] ts)
