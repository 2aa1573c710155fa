-- Each row of the table of derivatives raises the gathered number.
use Rattle.std.proofs.Common.{◌≡◌, ℕ, ◌≤◌, ℤ, pos, Bool, true, false, List, [], ◌∷◌, Option, Some, None, refl, arith}
use Rattle.std.specs.Prelude.{max, if◌then◌else◌, nat_eq, ◌-ℤ◌}
use Rattle.std.specs.Ordering.{int_eq}
use Rattle.mo_tables.specs.declared.functions.TheConstants.{ABS, ACOS, ASIN, ATAN, ATAN2, COS, COSH, EXP, LOG, LOG10, MAX, MIN, SIN, SINH, SQRT, TAN, TANH}
use Rattle.mo_syntax.specs.declared.expr.RelOp.TheVariants.{Less, Greater, GreaterEqual}
use Rattle.mo_flat.specs.declared.expr.FlatExpr.{FlatExpr, FlatExpr-F, out-FlatExpr}
use Rattle.mo_flat.specs.declared.expr.FlatExpr.TheVariants.{Whole, Power}
use Rattle.mo_flat.specs.declared.model.FlatVar.{FlatVar}
use Rattle.mo_symdiff.specs.Derivative.{Part, applied, base_term, call_slope, call_slope_of_two, exponent_term, literal_at, literal_power, minus, negated, one, over, plus, power_by, power_slope, squared, sum_of, times, two}
use Rattle.mo_symdiff.specs.Still.{is_still}
use Rattle.mo_symdiff.proofs.SigmaAt.{at_node, at_Whole, at_Sum, at_Power, at_Call, at_times_two, at_times_three, at_over, at_squared, at_plus, at_minus, at_negated, at_applied, at_chosen}
use Rattle.mo_symdiff.proofs.SigmaGather.{gathered, greatest_by}
use Rattle.mo_symdiff.proofs.SigmaRaise.{IsRaise, still_gathers}

-- an expression, by what it gathers, with its derivative
pub record Rises (up : ℕ → ℕ) (L a slope : ℕ) : Type 0 where
  pub low : a ≤ L
  pub raised : slope ≡ up a

abbrev pub PartRises : (ℕ → ℕ → ℕ) → (ℕ → ℕ) → (ℕ → ℕ) → ℕ → Part → Type 0
PartRises var der up L p = Rises up L (gathered var der p.0) (gathered var der p.1)

either : (var : ℕ → ℕ → ℕ) (der : ℕ → ℕ) (n : ℕ) (b : Bool) (x y : FlatExpr) → gathered var der x ≡ n → gathered var der y ≡ n → gathered var der (if b then x else y) ≡ n
either var der n true x y h k = h
either var der n false x y h k = k

pub literal_row : {vars : List FlatVar} {var : ℕ → ℕ → ℕ} {der up : ℕ → ℕ} {L : ℕ} → IsRaise vars var der up L → (n : ℤ) (p : Part) → PartRises var der up L p →
    gathered var der (literal_power n p) ≡ up (gathered var der p.0)
literal_row {vars} {var} {der} {up} {L} r n (a, s) h =
    let rise = r.rises (gathered var der a) h.low in
    either var der (up (gathered var der a)) (int_eq n (pos 2)) _ _
    (let e = at_times_three var der two a s in let w = at_Whole var der (pos 2) in omega arith)
    (let m : FlatExpr = Whole (n -ℤ pos 1) in let e = at_times_three var der (Whole n) (Power a m) s in let w = at_Whole var der n in let u = at_Whole var der (n -ℤ pos 1) in let q = at_Power var der a m in omega arith)

base_row : {vars : List FlatVar} {var : ℕ → ℕ → ℕ} {der up : ℕ → ℕ} {L : ℕ} → IsRaise vars var der up L → (a s b : FlatExpr) → PartRises var der up L (a, s) →
    gathered var der (base_term (a, s) b) ≡ max (gathered var der b) (up (gathered var der a))
base_row {vars} {var} {der} {up} {L} r a s b h =
    let rise = r.rises (gathered var der a) h.low in
    let e = at_times_three var der b (Power a (minus b one)) s in let q = at_Power var der a (minus b one) in let m = at_minus var der b one in let w = at_Whole var der (pos 1) in omega arith

exponent_row : {vars : List FlatVar} {var : ℕ → ℕ → ℕ} {der up : ℕ → ℕ} {L : ℕ} → IsRaise vars var der up L → (a b s : FlatExpr) → PartRises var der up L (b, s) →
    gathered var der (exponent_term a (b, s)) ≡ max (gathered var der a) (up (gathered var der b))
exponent_row {vars} {var} {der} {up} {L} r a b s h =
    let rise = r.rises (gathered var der b) h.low in
    let e = at_times_three var der (Power a b) (applied LOG a) s in let q = at_Power var der a b in let l = at_applied var der LOG a in omega arith

general_row : {vars : List FlatVar} {var : ℕ → ℕ → ℕ} {der up : ℕ → ℕ} {L : ℕ} → IsRaise vars var der up L → (a s b t : FlatExpr) → PartRises var der up L (a, s) → PartRises var der up L (b, t) →
    (i j : Bool) → is_still vars a ≡ i → is_still vars b ≡ j →
    gathered var der (if j then base_term (a, s) b else (if i then exponent_term a (b, t) else plus (base_term (a, s) b) (exponent_term a (b, t)))) ≡ up (max (gathered var der a) (gathered var der b))
general_row {vars} {var} {der} {up} {L} r a s b t h k i true e d =
    let z = still_gathers r b d in let n = r.none in let row = base_row r a s b h in let j = r.joins (gathered var der a) (gathered var der b) in
    let u : up (gathered var der b) ≡ 0 = cc in omega arith
general_row {vars} {var} {der} {up} {L} r a s b t h k true false e d =
    let z = still_gathers r a e in let n = r.none in let row = exponent_row r a b t k in let j = r.joins (gathered var der a) (gathered var der b) in
    let u : up (gathered var der a) ≡ 0 = cc in omega arith
general_row {vars} {var} {der} {up} {L} r a s b t h k false false e d =
    let first = base_row r a s b h in let second = exponent_row r a b t k in let both = at_plus var der (base_term (a, s) b) (exponent_term a (b, t)) in
    let j = r.joins (gathered var der a) (gathered var der b) in let p = r.rises (gathered var der a) h.low in let q = r.rises (gathered var der b) k.low in omega arith

power_at : {vars : List FlatVar} {var : ℕ → ℕ → ℕ} {der up : ℕ → ℕ} {L : ℕ} → IsRaise vars var der up L → (a s b t : FlatExpr) → PartRises var der up L (a, s) → PartRises var der up L (b, t) →
    (o : Option ℤ) → ((n : ℤ) → o ≡ Some n → gathered var der b ≡ 0) →
    gathered var der (power_by vars o (a, s) (b, t)) ≡ up (max (gathered var der a) (gathered var der b))
power_at {vars} r a s b t h k None z = general_row r a s b t h k (is_still vars a) (is_still vars b) refl refl
power_at {vars} {var} {der} {up} {L} r a s b t h k (Some n) z =
    let zero = z n refl in let none = r.none in let row = literal_row r n (a, s) h in let j = r.joins (gathered var der a) (gathered var der b) in
    let u : up (gathered var der b) ≡ 0 = cc in omega arith

literal_gathers : (var : ℕ → ℕ → ℕ) (der : ℕ → ℕ) (b : FlatExpr) (node : FlatExpr-F FlatExpr) → out-FlatExpr b ≡ node → (n : ℤ) → literal_at node ≡ Some n → gathered var der b ≡ 0
literal_gathers var der b (FlatExpr-F.Whole m) h n e = at_node var der b (FlatExpr-F.Whole m) h
literal_gathers var der b (FlatExpr-F.Decimal t) h n e = absurd cc
literal_gathers var der b (FlatExpr-F.Str t) h n e = absurd cc
literal_gathers var der b (FlatExpr-F.Truth c) h n e = absurd cc
literal_gathers var der b (FlatExpr-F.Literal t) h n e = absurd cc
literal_gathers var der b FlatExpr-F.Time h n e = absurd cc
literal_gathers var der b (FlatExpr-F.Var v k) h n e = absurd cc
literal_gathers var der b (FlatExpr-F.Der a) h n e = absurd cc
literal_gathers var der b (FlatExpr-F.Sum ts) h n e = absurd cc
literal_gathers var der b (FlatExpr-F.Product ts) h n e = absurd cc
literal_gathers var der b (FlatExpr-F.Power a c) h n e = absurd cc
literal_gathers var der b (FlatExpr-F.Call f args) h n e = absurd cc
literal_gathers var der b (FlatExpr-F.Relation op a c) h n e = absurd cc
literal_gathers var der b (FlatExpr-F.Not a) h n e = absurd cc
literal_gathers var der b (FlatExpr-F.All ps) h n e = absurd cc
literal_gathers var der b (FlatExpr-F.Any ps) h n e = absurd cc
literal_gathers var der b (FlatExpr-F.If bs o) h n e = absurd cc

pub power_row : {vars : List FlatVar} {var : ℕ → ℕ → ℕ} {der up : ℕ → ℕ} {L : ℕ} → IsRaise vars var der up L → (a s b t : FlatExpr) → PartRises var der up L (a, s) → PartRises var der up L (b, t) →
    gathered var der (power_slope vars (a, s) (b, t)) ≡ up (max (gathered var der a) (gathered var der b))
power_row {vars} {var} {der} r a s b t h k = power_at r a s b t h k (literal_at (out-FlatExpr b)) (literal_gathers var der b (out-FlatExpr b) refl)

-- functions of one argument
pub call_row : {vars : List FlatVar} {var : ℕ → ℕ → ℕ} {der up : ℕ → ℕ} {L : ℕ} → IsRaise vars var der up L → (f : ℕ) (u s : FlatExpr) → PartRises var der up L (u, s) →
    gathered var der (call_slope f (u, s)) ≡ up (gathered var der u)
call_row {vars} {var} {der} {up} {L} r f u s h =
    let n : ℕ = up (gathered var der u) in
    let rise = r.rises (gathered var der u) h.low in
    let sq = at_squared var der u in
    let w = at_Whole var der (pos 1) in let w' = at_Whole var der (pos 2) in let ten = at_Whole var der (pos 10) in
    either var der n (nat_eq f SIN) _ _ (let a = at_applied var der COS u in let e = at_times_two var der (applied COS u) s in omega arith)
    (either var der n (nat_eq f COS) _ _ (let a = at_applied var der SIN u in let e = at_times_two var der (applied SIN u) s in let d = at_negated var der (times (applied SIN u ∷ s ∷ [])) in omega arith)
    (either var der n (nat_eq f TAN) _ _ (let a = at_applied var der COS u in let q = at_squared var der (applied COS u) in let e = at_over var der s (squared (applied COS u)) in omega arith)
    (either var der n (nat_eq f ASIN) _ _ (let m = at_minus var der one (squared u) in let a = at_applied var der SQRT (minus one (squared u)) in let e = at_over var der s (applied SQRT (minus one (squared u))) in omega arith)
    (either var der n (nat_eq f ACOS) _ _ (let m = at_minus var der one (squared u) in let a = at_applied var der SQRT (minus one (squared u)) in let e = at_over var der s (applied SQRT (minus one (squared u))) in let d = at_negated var der (over s (applied SQRT (minus one (squared u)))) in omega arith)
    (either var der n (nat_eq f ATAN) _ _ (let m = at_plus var der one (squared u) in let e = at_over var der s (plus one (squared u)) in omega arith)
    (either var der n (nat_eq f SINH) _ _ (let a = at_applied var der COSH u in let e = at_times_two var der (applied COSH u) s in omega arith)
    (either var der n (nat_eq f COSH) _ _ (let a = at_applied var der SINH u in let e = at_times_two var der (applied SINH u) s in omega arith)
    (either var der n (nat_eq f TANH) _ _ (let a = at_applied var der COSH u in let q = at_squared var der (applied COSH u) in let e = at_over var der s (squared (applied COSH u)) in omega arith)
    (either var der n (nat_eq f EXP) _ _ (let a = at_applied var der EXP u in let e = at_times_two var der (applied EXP u) s in omega arith)
    (either var der n (nat_eq f LOG) _ _ (let e = at_over var der s u in omega arith)
    (either var der n (nat_eq f LOG10) _ _ (let a = at_applied var der LOG (Whole (pos 10)) in let t = at_times_two var der u (applied LOG (Whole (pos 10))) in let e = at_over var der s (times (u ∷ applied LOG (Whole (pos 10)) ∷ [])) in omega arith)
    (either var der n (nat_eq f SQRT) _ _ (let a = at_applied var der SQRT u in let t = at_times_two var der two (applied SQRT u) in let e = at_over var der s (times (two ∷ applied SQRT u ∷ [])) in omega arith)
    (either var der n (nat_eq f ABS) _ _ (let d = at_negated var der s in let e = at_chosen var der GreaterEqual u (Whole (pos 0)) s (negated s) in omega arith)
    (let e = at_applied var der f s in omega arith))))))))))))))

-- functions of two
pub call_row_of_two : {vars : List FlatVar} {var : ℕ → ℕ → ℕ} {der up : ℕ → ℕ} {L : ℕ} → IsRaise vars var der up L → (f : ℕ) (a s b t : FlatExpr) → PartRises var der up L (a, s) → PartRises var der up L (b, t) →
    gathered var der (call_slope_of_two f (a, s) (b, t)) ≡ up (max (gathered var der a) (gathered var der b))
call_row_of_two {vars} {var} {der} {up} {L} r f a s b t h k =
    let n : ℕ = up (max (gathered var der a) (gathered var der b)) in
    let j = r.joins (gathered var der a) (gathered var der b) in
    let rise = r.rises (gathered var der a) h.low in let rise' = r.rises (gathered var der b) k.low in
    either var der n (nat_eq f ATAN2) _ _
    (let x = at_times_two var der s b in let y = at_times_two var der a t in let m = at_minus var der (times (s ∷ b ∷ [])) (times (a ∷ t ∷ [])) in
    let sa = at_squared var der a in let sb = at_squared var der b in let p = at_plus var der (squared a) (squared b) in
    let e = at_over var der (minus (times (s ∷ b ∷ [])) (times (a ∷ t ∷ []))) (plus (squared a) (squared b)) in omega arith)
    (either var der n (nat_eq f MIN) _ _ (let e = at_chosen var der Less a b s t in omega arith)
    (either var der n (nat_eq f MAX) _ _ (let e = at_chosen var der Greater a b s t in omega arith)
    (let e = at_Call var der f (s ∷ t ∷ []) in omega arith)))

pub sum_row : (var : ℕ → ℕ → ℕ) (der : ℕ → ℕ) (ts : List (Bool × FlatExpr)) → gathered var der (sum_of ts) ≡ greatest_by (λ t. gathered var der t.1) ts
sum_row var der [] = at_Sum var der []
sum_row var der ((false, u) ∷ []) = omega arith
sum_row var der ((true, u) ∷ []) = at_Sum var der ((true, u) ∷ [])
sum_row var der ((false, u) ∷ t ∷ ts) = at_Sum var der ((false, u) ∷ t ∷ ts)
sum_row var der ((true, u) ∷ t ∷ ts) = at_Sum var der ((true, u) ∷ t ∷ ts)
