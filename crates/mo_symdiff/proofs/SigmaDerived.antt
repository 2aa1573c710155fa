-- The derivative of an expression raises the gathered number.
use Rattle.std.proofs.Common.{◌≡◌, ℕ, ◌≤◌, pos, Bool, true, false, List, [], ◌∷◌, ◌++◌, map, refl, ap, ◌∙◌, sym, subst, arith}
use Rattle.std.specs.Prelude.{max, if◌then◌else◌}
use Rattle.mo_flat.specs.declared.expr.FlatExpr.{FlatExpr, FlatExpr-F, fold-roll-FlatExpr, para-roll-FlatExpr, ind-FlatExpr, map-FlatExpr, roll-FlatExpr}
use Rattle.mo_flat.specs.declared.expr.FlatExpr.TheVariants.{If, Whole}
use Rattle.mo_flat.specs.declared.model.FlatVar.{FlatVar}
use Rattle.mo_symdiff.specs.Derivative.{Part, args_slope, derived, derive_node, moving_terms, next_order, plain_factors, product_terms, replaced_factor, slope_node}
use Rattle.mo_symdiff.specs.Still.{is_still, still_node}
use Rattle.mo_symdiff.proofs.SigmaAt.{at_roll, at_All, at_Any, at_Call, at_Der, at_If, at_Not, at_Product, at_Relation, at_Var, at_Whole, greatest_append}
use Rattle.mo_symdiff.proofs.SigmaGather.{gathered, gathered_related, gather_node, greatest_by, map_map, mapped}
use Rattle.mo_symdiff.proofs.SigmaRaise.{IsRaise, still_gathers}
use Rattle.mo_symdiff.proofs.SigmaRows.{PartRises, call_row, call_row_of_two, power_row, sum_row}

-- the orders of the variables are at most L
abbrev pub low : (ℕ → ℕ → ℕ) → FlatExpr → ℕ
low var = gathered var (λ n. n)

pub low_gathered : {vars : List FlatVar} {var : ℕ → ℕ → ℕ} {der up : ℕ → ℕ} {L : ℕ} → IsRaise vars var der up L → (e : FlatExpr) → low var e ≤ L → gathered var der e ≤ L
low_gathered {vars} {var} {der} {up} {L} r =
    gathered_related (λ a b. a ≤ L → b ≤ L) var var (λ n. n) der (λ h. h)
    (λ a b c d f g h. let i = f (omega arith) in let j = g (omega arith) in omega arith)
    (λ v k h. h) (λ a b f h. r.der_low b (f h))

abbrev Raised : List FlatVar → (ℕ → ℕ → ℕ) → (ℕ → ℕ) → (ℕ → ℕ) → ℕ → FlatExpr → Type 0
Raised vars var der up L e = low var e ≤ L → gathered var der (derived vars e) ≡ up (gathered var der e)

abbrev Proved : List FlatVar → (ℕ → ℕ → ℕ) → (ℕ → ℕ) → (ℕ → ℕ) → ℕ → Type 0
Proved vars var der up L = (e : FlatExpr) × Raised vars var der up L e

abbrev slope_of : (vars : List FlatVar) (var : ℕ → ℕ → ℕ) (der up : ℕ → ℕ) (L : ℕ) → Proved vars var der up L → Part
slope_of vars var der up L t = (t.0, derived vars t.0)

abbrev greatest_signed : List (Bool × ℕ) → ℕ
greatest_signed = greatest_by (λ t. t.1)

part_rises : {vars : List FlatVar} {var : ℕ → ℕ → ℕ} {der up : ℕ → ℕ} {L : ℕ} → IsRaise vars var der up L → (t : Proved vars var der up L) → low var t.0 ≤ L → PartRises var der up L (t.0, derived vars t.0)
part_rises r t h = record { low = low_gathered r t.0 h; raised = t.1 h }

raised_list : {vars : List FlatVar} {var : ℕ → ℕ → ℕ} {der up : ℕ → ℕ} {L : ℕ} → IsRaise vars var der up L → {S Y Z W : Type 0} (f : Y → ℕ) (p : S → Y) (g : Z → ℕ) (q : S → Z) (l : W → ℕ) (w : S → W) →
    ((s : S) → l (w s) ≤ L → f (p s) ≡ up (g (q s))) → (ss : List S) → greatest_by l (map w ss) ≤ L → greatest_by f (map p ss) ≡ up (greatest_by g (map q ss))
raised_list r f p g q l w each [] h = sym r.none
raised_list r f p g q l w each (s ∷ ss) h =
    let e = each s (omega arith) in let d = raised_list r f p g q l w each ss (omega arith) in let j = r.joins (g (q s)) (greatest_by g (map q ss)) in omega arith

moving_step : {vars : List FlatVar} {var : ℕ → ℕ → ℕ} {der up : ℕ → ℕ} {L : ℕ} → IsRaise vars var der up L → (a : FlatExpr) (term : Bool × FlatExpr) (terms : List (Bool × FlatExpr)) (n : ℕ) →
    gathered var der term.1 ≡ up (gathered var der a) → greatest_by (λ t. gathered var der t.1) terms ≡ up n → (b : Bool) → is_still vars a ≡ b →
    greatest_by (λ t. gathered var der t.1) (if b then terms else term ∷ terms) ≡ up (max (gathered var der a) n)
moving_step {vars} {var} {der} {up} r a term terms n h k true e =
    let z = still_gathers r a e in let none = r.none in let u : up (gathered var der a) ≡ 0 = cc in let j = r.joins (gathered var der a) n in omega arith
moving_step {vars} {var} {der} r a term terms n h k false e = let j = r.joins (gathered var der a) n in omega arith

moving_greatest : {vars : List FlatVar} {var : ℕ → ℕ → ℕ} {der up : ℕ → ℕ} {L : ℕ} → IsRaise vars var der up L → (ts : List (Bool × Proved vars var der up L)) →
    greatest_signed (map (λ t. (t.0, low var t.1.0)) ts) ≤ L →
    greatest_by (λ t. gathered var der t.1) (moving_terms vars (map (λ t. (t.0, (t.1.0, derived vars t.1.0))) ts)) ≡ up (greatest_signed (map (λ t. (t.0, gathered var der t.1.0)) ts))
moving_greatest r [] h = sym r.none
moving_greatest {vars} r (t ∷ ts) h =
    moving_step r t.1.0 (t.0, derived vars t.1.0) _ _ (t.1.1 (omega arith)) (moving_greatest r ts (omega arith)) (is_still vars t.1.0) refl

-- the greatest of the terms of a product's derivative lies between two numbers
record Between (low n high : ℕ) : Type 0 where
  above : low ≤ n
  below : n ≤ high

replaced : {vars : List FlatVar} {var : ℕ → ℕ → ℕ} {der up : ℕ → ℕ} {L : ℕ} → IsRaise vars var der up L → (before after : List (Bool × FlatExpr)) (s : Bool) (f slope : FlatExpr) →
    PartRises var der up L (f, slope) →
    Between (up (gathered var der f)) (gathered var der (replaced_factor before (s, (f, slope)) after).1)
    (max (greatest_by (λ t. gathered var der t.1) before) (max (up (gathered var der f)) (greatest_by (λ t. gathered var der t.1) after)))
replaced {vars} {var} {der} {up} {L} r before after false f slope h =
    let e = at_Product var der (before ++ (false, slope) ∷ after) in
    let d = greatest_append (λ t. gathered var der t.1) before ((false, slope) ∷ after) in
    record { above = omega arith; below = omega arith }
replaced {vars} {var} {der} {up} {L} r before after true f slope h =
    let e = at_Product var der (before ++ (true, f) ∷ (false, slope) ∷ (true, f) ∷ after) in
    let d = greatest_append (λ t. gathered var der t.1) before ((true, f) ∷ (false, slope) ∷ (true, f) ∷ after) in
    let rise = r.rises (gathered var der f) h.low in
    record { above = omega arith; below = omega arith }

plain_greatest : {vars : List FlatVar} {var : ℕ → ℕ → ℕ} {der up : ℕ → ℕ} {L : ℕ} → IsRaise vars var der up L → (ts : List (Bool × Proved vars var der up L)) →
    greatest_by (λ t. gathered var der t.1) (plain_factors (map (λ t. (t.0, (t.1.0, derived vars t.1.0))) ts)) ≡ greatest_signed (map (λ t. (t.0, gathered var der t.1.0)) ts)
plain_greatest r [] = refl
plain_greatest {vars} {var} {der} r (t ∷ ts) = ap (λ n. max (gathered var der t.1.0) n) (plain_greatest r ts)

factors_low : {vars : List FlatVar} {var : ℕ → ℕ → ℕ} {der up : ℕ → ℕ} {L : ℕ} → IsRaise vars var der up L → (ts : List (Bool × Proved vars var der up L)) →
    greatest_signed (map (λ t. (t.0, low var t.1.0)) ts) ≤ L → greatest_signed (map (λ t. (t.0, gathered var der t.1.0)) ts) ≤ L
factors_low r [] h = h
factors_low r (t ∷ ts) h = let e = low_gathered r t.1.0 (omega arith) in let d = factors_low r ts (omega arith) in omega arith

product_step : {vars : List FlatVar} {var : ℕ → ℕ → ℕ} {der up : ℕ → ℕ} {L : ℕ} → IsRaise vars var der up L → (a : FlatExpr) (term : FlatExpr) (terms : List (Bool × FlatExpr)) (s : Bool) (before rest whole : ℕ) →
    whole ≤ L → rest ≤ whole → gathered var der a ≤ whole → max (gathered var der a) rest ≡ whole →
    Between (up (gathered var der a)) (gathered var der term) (max before (max (up (gathered var der a)) rest)) →
    Between (up rest) (greatest_by (λ t. gathered var der t.1) terms) (max (max before (gathered var der a)) (up rest)) →
    (b : Bool) → is_still vars a ≡ b →
    Between (up whole) (greatest_by (λ t. gathered var der t.1) (if b then terms else (s, term) ∷ terms)) (max before (up whole))
product_step {vars} {var} {der} {up} {L} r a term terms s before rest whole low lr la w h k true e =
    let z = still_gathers r a e in let none = r.none in let u : up (gathered var der a) ≡ 0 = cc in let j = r.joins (gathered var der a) rest in
    let same : rest ≡ whole = omega arith in let up_same : up rest ≡ up whole = ap up same in
    let x = k.above in let y = k.below in record { above = omega arith; below = omega arith }
product_step {vars} {var} {der} {up} {L} r a term terms s before rest whole low lr la w h k false e =
    let j = r.joins (gathered var der a) rest in let up_same : up (max (gathered var der a) rest) ≡ up whole = ap up w in
    let rise = r.rises rest (omega arith) in let rise' = r.rises (gathered var der a) (omega arith) in
    let x = k.above in let y = k.below in let x' = h.above in let y' = h.below in record { above = omega arith; below = omega arith }

product_between : {vars : List FlatVar} {var : ℕ → ℕ → ℕ} {der up : ℕ → ℕ} {L : ℕ} → IsRaise vars var der up L → (before : List (Bool × FlatExpr)) (ts : List (Bool × Proved vars var der up L)) →
    greatest_signed (map (λ t. (t.0, low var t.1.0)) ts) ≤ L →
    Between (up (greatest_signed (map (λ t. (t.0, gathered var der t.1.0)) ts)))
    (greatest_by (λ t. gathered var der t.1) (product_terms vars before (map (λ t. (t.0, (t.1.0, derived vars t.1.0))) ts)))
    (max (greatest_by (λ t. gathered var der t.1) before) (up (greatest_signed (map (λ t. (t.0, gathered var der t.1.0)) ts))))
product_between r before [] h = let none = r.none in record { above = omega arith; below = omega arith }
product_between {vars} {var} {der} {up} {L} r before (t ∷ ts) h =
    let rest : ℕ = greatest_signed (map (λ t. (t.0, gathered var der t.1.0)) ts) in
    let here = part_rises r t.1 (omega arith) in
    let term = replaced r before (plain_factors (map (λ t. (t.0, (t.1.0, derived vars t.1.0))) ts)) t.0 t.1.0 (derived vars t.1.0) here in
    let plain = plain_greatest r ts in
    let later = product_between r (before ++ (t.0, t.1.0) ∷ []) ts (omega arith) in
    let wider = greatest_append (λ t. gathered var der t.1) before ((t.0, t.1.0) ∷ []) in
    let low_rest = factors_low r ts (omega arith) in
    let x = term.above in let y = term.below in let x' = later.above in let y' = later.below in let l = here.low in
    let slopes : List (Bool × Part) = map (λ t. (t.0, (t.1.0, derived vars t.1.0))) ts in
    product_step r t.1.0 _ (product_terms vars (before ++ (t.0, t.1.0) ∷ []) slopes) (replaced_factor before (t.0, (t.1.0, derived vars t.1.0)) (plain_factors slopes)).0
    (greatest_by (λ t. gathered var der t.1) before) rest (max (gathered var der t.1.0) rest)
    (omega arith) (omega arith) (omega arith) refl
    (record { above = x; below = omega arith }) (record { above = x'; below = omega arith }) (is_still vars t.1.0) refl

product_greatest : {vars : List FlatVar} {var : ℕ → ℕ → ℕ} {der up : ℕ → ℕ} {L : ℕ} → IsRaise vars var der up L → (ts : List (Bool × Proved vars var der up L)) →
    greatest_signed (map (λ t. (t.0, low var t.1.0)) ts) ≤ L →
    greatest_by (λ t. gathered var der t.1) (product_terms vars [] (map (λ t. (t.0, (t.1.0, derived vars t.1.0))) ts)) ≡ up (greatest_signed (map (λ t. (t.0, gathered var der t.1.0)) ts))
product_greatest r ts h = let e = product_between r [] ts h in let x = e.above in let y = e.below in omega arith

slopes_greatest : {vars : List FlatVar} {var : ℕ → ℕ → ℕ} {der up : ℕ → ℕ} {L : ℕ} → IsRaise vars var der up L → (ts : List (Proved vars var der up L)) →
    greatest_by (λ n. n) (map (λ t. low var t.0) ts) ≤ L →
    greatest_by (gathered var der) (map (λ (p : Part). p.1) (map (slope_of vars var der up L) ts)) ≡ up (greatest_by (λ n. n) (map (λ t. gathered var der t.0) ts))
slopes_greatest {vars} {var} {der} r ts h =
    ap (greatest_by (gathered var der)) (map_map (λ (p : Part). p.1) (λ t. (t.0, derived vars t.0)) ts)
    ∙ raised_list r (gathered var der) (λ t. derived vars t.0) (λ n. n) (λ t. gathered var der t.0) (λ n. n) (λ t. low var t.0) (λ t l. t.1 l) ts h

args_row : {vars : List FlatVar} {var : ℕ → ℕ → ℕ} {der up : ℕ → ℕ} {L : ℕ} → IsRaise vars var der up L → (f : ℕ) (ts : List (Proved vars var der up L)) →
    greatest_by (λ n. n) (map (λ t. low var t.0) ts) ≤ L →
    gathered var der (args_slope f (map (slope_of vars var der up L) ts)) ≡ up (greatest_by (λ n. n) (map (λ t. gathered var der t.0) ts))
args_row {vars} {var} {der} r f [] h = at_Call var der f [] ∙ sym r.none
args_row {vars} {var} {der} {up} r f (t ∷ []) h =
    call_row r f t.0 (derived vars t.0) (part_rises r t (omega arith)) ∙ (let e : gathered var der t.0 ≡ max (gathered var der t.0) 0 = omega arith in ap up e)
args_row {vars} {var} {der} {up} r f (t ∷ s ∷ []) h =
    call_row_of_two r f t.0 (derived vars t.0) s.0 (derived vars s.0) (part_rises r t (omega arith)) (part_rises r s (omega arith))
    ∙ (let e : max (gathered var der t.0) (gathered var der s.0) ≡ max (gathered var der t.0) (max (gathered var der s.0) 0) = omega arith in ap up e)
args_row {vars} {var} {der} r f (t ∷ s ∷ q ∷ ts) h = at_Call var der f _ ∙ slopes_greatest r (t ∷ s ∷ q ∷ ts) h

-- the branches of the derivative of an if-expression
abbrev branch_slopes : (vars : List FlatVar) (var : ℕ → ℕ → ℕ) (der up : ℕ → ℕ) (L : ℕ) → List (Proved vars var der up L × Proved vars var der up L) → List (FlatExpr × FlatExpr)
branch_slopes vars var der up L bs = map (λ (b : Part × Part). (b.0.0, b.1.1)) (map (λ b. ((b.0.0, derived vars b.0.0), (b.1.0, derived vars b.1.0))) bs)

branches_greatest : {vars : List FlatVar} {var : ℕ → ℕ → ℕ} {der up : ℕ → ℕ} {L : ℕ} → IsRaise vars var der up L → (bs : List (Proved vars var der up L × Proved vars var der up L)) →
    greatest_by {X = ℕ × ℕ} (λ b. b.1) (map (λ b. (low var b.0.0, low var b.1.0)) bs) ≤ L →
    greatest_by (λ b. gathered var der b.1) (branch_slopes vars var der up L bs) ≡ up (greatest_by {X = ℕ × ℕ} (λ b. b.1) (map (λ b. (gathered var der b.0.0, gathered var der b.1.0)) bs))
branches_greatest {vars} {var} {der} r bs h =
    ap (greatest_by (λ b. gathered var der b.1)) (map_map (λ (b : Part × Part). (b.0.0, b.1.1)) (λ b. ((b.0.0, derived vars b.0.0), (b.1.0, derived vars b.1.0))) bs)
    ∙ raised_list r (λ b. gathered var der b.1) (λ b. (b.0.0, derived vars b.1.0)) (λ b. b.1) (λ b. (gathered var der b.0.0, gathered var der b.1.0)) (λ b. b.1) (λ b. (low var b.0.0, low var b.1.0)) (λ b l. b.1.1 l) bs h

if_row : {vars : List FlatVar} {var : ℕ → ℕ → ℕ} {der up : ℕ → ℕ} {L : ℕ} → IsRaise vars var der up L → (bs : List (FlatExpr × FlatExpr)) (o : FlatExpr) (m n : ℕ) →
    greatest_by (λ b. gathered var der b.1) bs ≡ up m → gathered var der o ≡ up n → gathered var der (If bs o) ≡ up (max m n)
if_row {vars} {var} {der} r bs o m n h k = let e = at_If var der bs o in let j = r.joins m n in omega arith

-- a node that is not still
slope_row : {vars : List FlatVar} {var : ℕ → ℕ → ℕ} {der up : ℕ → ℕ} {L : ℕ} → IsRaise vars var der up L → (y : FlatExpr-F (Proved vars var der up L)) →
    gather_node var (λ n. n) (map-FlatExpr (Proved vars var der up L) ℕ (λ t. low var t.0) y) ≤ L →
    gathered var der (slope_node vars (map-FlatExpr (Proved vars var der up L) Part (slope_of vars var der up L) y)) ≡ up (gather_node var der (map-FlatExpr (Proved vars var der up L) ℕ (λ t. gathered var der t.0) y))
slope_row {vars} {var} {der} r (FlatExpr-F.Whole n) h = at_Whole var der (pos 0) ∙ sym r.none
slope_row {vars} {var} {der} r (FlatExpr-F.Decimal t) h = at_Whole var der (pos 0) ∙ sym r.none
slope_row {vars} {var} {der} r (FlatExpr-F.Str t) h = at_Whole var der (pos 0) ∙ sym r.none
slope_row {vars} {var} {der} r (FlatExpr-F.Truth b) h = at_Whole var der (pos 0) ∙ sym r.none
slope_row {vars} {var} {der} r (FlatExpr-F.Literal t) h = at_Whole var der (pos 0) ∙ sym r.none
slope_row {vars} {var} {der} r FlatExpr-F.Time h = at_Whole var der (pos 1) ∙ sym r.none
slope_row {vars} {var} {der} r (FlatExpr-F.Var v k) h = at_Var var der v (next_order k) ∙ r.next v k
slope_row {vars} {var} {der} r (FlatExpr-F.Der a) h = at_Der var der (derived vars a.0) ∙ ap der (a.1 h) ∙ r.der_up (gathered var der a.0)
slope_row {vars} {var} {der} r (FlatExpr-F.Sum ts) h = sum_row var der _ ∙ moving_greatest r ts h
slope_row {vars} {var} {der} r (FlatExpr-F.Product ts) h = sum_row var der _ ∙ product_greatest r ts h
slope_row {vars} r (FlatExpr-F.Power a b) h = power_row r a.0 (derived vars a.0) b.0 (derived vars b.0) (part_rises r a (omega arith)) (part_rises r b (omega arith))
slope_row r (FlatExpr-F.Call f args) h = args_row r f args h
slope_row {vars} {var} {der} r (FlatExpr-F.Relation op a b) h =
    let e = at_Relation var der op (derived vars a.0) (derived vars b.0) in let d = a.1 (omega arith) in let c = b.1 (omega arith) in let j = r.joins (gathered var der a.0) (gathered var der b.0) in omega arith
slope_row {vars} {var} {der} r (FlatExpr-F.Not a) h = at_Not var der (derived vars a.0) ∙ a.1 h
slope_row {vars} {var} {der} r (FlatExpr-F.All ps) h = at_All var der _ ∙ slopes_greatest r ps h
slope_row {vars} {var} {der} r (FlatExpr-F.Any ps) h = at_Any var der _ ∙ slopes_greatest r ps h
slope_row {vars} {var} {der} {up} {L} r (FlatExpr-F.If bs o) h =
    if_row r (branch_slopes vars var der up L bs) (derived vars o.0) (greatest_by {X = ℕ × ℕ} (λ b. b.1) (map (λ b. (gathered var der b.0.0, gathered var der b.1.0)) bs)) (gathered var der o.0)
    (branches_greatest r bs (omega arith)) (o.1 (omega arith))

by_case : {vars : List FlatVar} {var : ℕ → ℕ → ℕ} {der up : ℕ → ℕ} {L : ℕ} → IsRaise vars var der up L → (b : Bool) (s : FlatExpr) (n : ℕ) → (b ≡ true → n ≡ 0) → gathered var der s ≡ up n →
    gathered var der (if b then Whole (pos 0) else s) ≡ up n
by_case {vars} {var} {der} {up} r true s n z h = let w = at_Whole var der (pos 0) in let e = z refl in let none = r.none in cc
by_case r false s n z h = h

rolled : {vars : List FlatVar} {var : ℕ → ℕ → ℕ} {der up : ℕ → ℕ} {L : ℕ} → IsRaise vars var der up L → (y : FlatExpr-F (Proved vars var der up L)) →
    Raised vars var der up L (roll-FlatExpr (map-FlatExpr (Proved vars var der up L) FlatExpr (λ t. t.0) y))
rolled {vars} {var} {der} {up} {L} r y h =
    let T : Type 0 = Proved vars var der up L in
    let x : FlatExpr-F FlatExpr = map-FlatExpr T FlatExpr (λ t. t.0) y in
    let parts : map-FlatExpr FlatExpr Part (λ z. (z, derived vars z)) x ≡ map-FlatExpr T Part (slope_of vars var der up L) y = mapped T FlatExpr Part (λ z. (z, derived vars z)) (λ t. t.0) y in
    let numbers : gathered var der (roll-FlatExpr x) ≡ gather_node var der (map-FlatExpr T ℕ (λ t. gathered var der t.0) y) = at_roll var der x ∙ ap (gather_node var der) (mapped T FlatExpr ℕ (gathered var der) (λ t. t.0) y) in
    let lows : low var (roll-FlatExpr x) ≡ gather_node var (λ n. n) (map-FlatExpr T ℕ (λ t. low var t.0) y) = at_roll var (λ n. n) x ∙ ap (gather_node var (λ n. n)) (mapped T FlatExpr ℕ (low var) (λ t. t.0) y) in
    let n : ℕ = gather_node var der (map-FlatExpr T ℕ (λ t. gathered var der t.0) y) in
    let stills : still_node vars (map-FlatExpr Part Bool (λ p. is_still vars p.0) (map-FlatExpr T Part (slope_of vars var der up L) y)) ≡ is_still vars (roll-FlatExpr x) =
    ap (still_node vars) (mapped T Part Bool (λ p. is_still vars p.0) (slope_of vars var der up L) y ∙ sym (mapped T FlatExpr Bool (is_still vars) (λ t. t.0) y)) ∙ sym (fold-roll-FlatExpr Bool (still_node vars) x) in
    let slope : gathered var der (derive_node vars (map-FlatExpr T Part (slope_of vars var der up L) y)) ≡ up n =
    by_case r (still_node vars (map-FlatExpr Part Bool (λ p. is_still vars p.0) (map-FlatExpr T Part (slope_of vars var der up L) y))) _ n
    (λ b. sym numbers ∙ still_gathers r (roll-FlatExpr x) (sym stills ∙ b)) (slope_row r y (subst (λ l. l ≤ L) lows h)) in
    ap (gathered var der) (para-roll-FlatExpr FlatExpr (derive_node vars) x ∙ ap (derive_node vars) parts) ∙ slope ∙ ap up (sym numbers)

pub derived_gathers : {vars : List FlatVar} {var : ℕ → ℕ → ℕ} {der up : ℕ → ℕ} {L : ℕ} → IsRaise vars var der up L → (e : FlatExpr) → low var e ≤ L → gathered var der (derived vars e) ≡ up (gathered var der e)
derived_gathers {vars} {var} {der} {up} {L} r = ind-FlatExpr (Raised vars var der up L) (λ x y is. subst (λ z. Raised vars var der up L (roll-FlatExpr z)) is (rolled r y))
