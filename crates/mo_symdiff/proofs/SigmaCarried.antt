-- Carrying derivatives out raises the gathered number at each of them.
use Rattle.std.proofs.Common.{◌≡◌, ℕ, ◌≤◌, Bool, List, [], ◌∷◌, map, refl, ap, ◌∙◌, sym, subst, arith}
use Rattle.std.specs.Prelude.{max}
use Rattle.mo_flat.specs.declared.expr.FlatExpr.{FlatExpr, FlatExpr-F, fold-roll-FlatExpr, ind-FlatExpr, map-FlatExpr, roll-FlatExpr}
use Rattle.mo_flat.specs.declared.model.FlatVar.{FlatVar}
use Rattle.mo_symdiff.specs.Carried.{carried, carry_node}
use Rattle.mo_symdiff.proofs.SigmaAt.{at_roll}
use Rattle.mo_symdiff.proofs.SigmaDerived.{derived_gathers, low, low_gathered}
use Rattle.mo_symdiff.proofs.SigmaGather.{gathered, gather_node, greatest_by, map_map, mapped}
use Rattle.mo_symdiff.proofs.SigmaRaise.{IsRaise}

-- a raise goes on where derivatives count nothing, or each of them counts once
pub uncounted : {vars : List FlatVar} {var : ℕ → ℕ → ℕ} {der up : ℕ → ℕ} {L : ℕ} → IsRaise vars var der up L → IsRaise vars var (λ n. n) up L
uncounted r = record { none = r.none; rises = r.rises; joins = r.joins; low = r.low; still = r.still; next = r.next; der_none = refl; der_low = λ a h. h; der_up = λ a. refl }

pub counted : {vars : List FlatVar} {var : ℕ → ℕ → ℕ} {der up : ℕ → ℕ} {L : ℕ} → IsRaise vars var der up L → IsRaise vars var up up L
counted r = record { none = r.none; rises = r.rises; joins = r.joins; low = r.low; still = r.still; next = r.next; der_none = r.none; der_low = λ a h. r.low a; der_up = λ a. refl }

abbrev Carries : List FlatVar → (ℕ → ℕ → ℕ) → (ℕ → ℕ) → (ℕ → ℕ) → ℕ → FlatExpr → Type 0
Carries vars var der up L e = low var e ≤ L → gathered var der (carried vars e) ≡ gathered var up e

abbrev Carried : List FlatVar → (ℕ → ℕ → ℕ) → (ℕ → ℕ) → (ℕ → ℕ) → ℕ → Type 0
Carried vars var der up L = (e : FlatExpr) × Carries vars var der up L e

-- what is carried out stays low
abbrev StayLow : List FlatVar → (ℕ → ℕ → ℕ) → (ℕ → ℕ) → (ℕ → ℕ) → ℕ → Type 0
StayLow vars var der up L = (e : FlatExpr) → gathered var der (carried vars e) ≡ gathered var up e → low var e ≤ L → low var (carried vars e) ≤ L

same_list : {L : ℕ} {S Y Z W : Type 0} (f : Y → ℕ) (p : S → Y) (g : Z → ℕ) (q : S → Z) (l : W → ℕ) (w : S → W) →
    ((s : S) → l (w s) ≤ L → f (p s) ≡ g (q s)) → (ss : List S) → greatest_by l (map w ss) ≤ L → greatest_by f (map p ss) ≡ greatest_by g (map q ss)
same_list f p g q l w each [] h = refl
same_list f p g q l w each (s ∷ ss) h = let e = each s (omega arith) in let d = same_list f p g q l w each ss (omega arith) in omega arith

if_row : (var : ℕ → ℕ → ℕ) (der : ℕ → ℕ) (bs : List (FlatExpr × FlatExpr)) (o : FlatExpr) (m n : ℕ) →
    greatest_by {X = ℕ × ℕ} (λ b. b.1) (map (λ b. (gathered var der b.0, gathered var der b.1)) bs) ≡ m → gathered var der o ≡ n → gathered var der (roll-FlatExpr (FlatExpr-F.If bs o)) ≡ max m n
if_row var der bs o m n h k = let e = at_roll var der (FlatExpr-F.If bs o) in omega arith

carried_row : {vars : List FlatVar} {var : ℕ → ℕ → ℕ} {der up : ℕ → ℕ} {L : ℕ} → IsRaise vars var der up L → StayLow vars var der up L → (y : FlatExpr-F (Carried vars var der up L)) →
    gather_node var (λ n. n) (map-FlatExpr (Carried vars var der up L) ℕ (λ t. low var t.0) y) ≤ L →
    gathered var der (carry_node vars (map-FlatExpr (Carried vars var der up L) FlatExpr (λ t. carried vars t.0) y)) ≡ gather_node var up (map-FlatExpr (Carried vars var der up L) ℕ (λ t. gathered var up t.0) y)
carried_row {vars} {var} {der} r stay (FlatExpr-F.Whole n) h = at_roll var der (FlatExpr-F.Whole n)
carried_row {vars} {var} {der} r stay (FlatExpr-F.Decimal t) h = at_roll var der (FlatExpr-F.Decimal t)
carried_row {vars} {var} {der} r stay (FlatExpr-F.Str t) h = at_roll var der (FlatExpr-F.Str t)
carried_row {vars} {var} {der} r stay (FlatExpr-F.Truth b) h = at_roll var der (FlatExpr-F.Truth b)
carried_row {vars} {var} {der} r stay (FlatExpr-F.Literal t) h = at_roll var der (FlatExpr-F.Literal t)
carried_row {vars} {var} {der} r stay FlatExpr-F.Time h = at_roll var der FlatExpr-F.Time
carried_row {vars} {var} {der} r stay (FlatExpr-F.Var v k) h = at_roll var der (FlatExpr-F.Var v k)
carried_row {vars} {var} {der} {up} r stay (FlatExpr-F.Der a) h = derived_gathers r (carried vars a.0) (stay a.0 (a.1 h) h) ∙ ap up (a.1 h)
carried_row {vars} {var} {der} {up} r stay (FlatExpr-F.Sum ts) h =
    at_roll var der (FlatExpr-F.Sum (map (λ t. (t.0, carried vars t.1.0)) ts))
    ∙ ap (greatest_by {X = Bool × ℕ} (λ t. t.1)) (map_map (λ (t : Bool × FlatExpr). (t.0, gathered var der t.1)) (λ t. (t.0, carried vars t.1.0)) ts)
    ∙ same_list (λ t. t.1) (λ t. (t.0, gathered var der (carried vars t.1.0))) (λ t. t.1) (λ t. (t.0, gathered var up t.1.0)) (λ t. t.1) (λ t. (t.0, low var t.1.0)) (λ t l. t.1.1 l) ts h
carried_row {vars} {var} {der} {up} r stay (FlatExpr-F.Product ts) h =
    at_roll var der (FlatExpr-F.Product (map (λ t. (t.0, carried vars t.1.0)) ts))
    ∙ ap (greatest_by {X = Bool × ℕ} (λ t. t.1)) (map_map (λ (t : Bool × FlatExpr). (t.0, gathered var der t.1)) (λ t. (t.0, carried vars t.1.0)) ts)
    ∙ same_list (λ t. t.1) (λ t. (t.0, gathered var der (carried vars t.1.0))) (λ t. t.1) (λ t. (t.0, gathered var up t.1.0)) (λ t. t.1) (λ t. (t.0, low var t.1.0)) (λ t l. t.1.1 l) ts h
carried_row {vars} {var} {der} r stay (FlatExpr-F.Power a b) h =
    let e = at_roll var der (FlatExpr-F.Power (carried vars a.0) (carried vars b.0)) in let d = a.1 (omega arith) in let c = b.1 (omega arith) in omega arith
carried_row {vars} {var} {der} r stay (FlatExpr-F.Relation op a b) h =
    let e = at_roll var der (FlatExpr-F.Relation op (carried vars a.0) (carried vars b.0)) in let d = a.1 (omega arith) in let c = b.1 (omega arith) in omega arith
carried_row {vars} {var} {der} {up} r stay (FlatExpr-F.Call f args) h =
    at_roll var der (FlatExpr-F.Call f (map (λ t. carried vars t.0) args))
    ∙ ap (greatest_by {X = ℕ} (λ n. n)) (map_map (gathered var der) (λ t. carried vars t.0) args)
    ∙ same_list (λ n. n) (λ t. gathered var der (carried vars t.0)) (λ n. n) (λ t. gathered var up t.0) (λ n. n) (λ t. low var t.0) (λ t l. t.1 l) args h
carried_row {vars} {var} {der} {up} r stay (FlatExpr-F.All ps) h =
    at_roll var der (FlatExpr-F.All (map (λ t. carried vars t.0) ps))
    ∙ ap (greatest_by {X = ℕ} (λ n. n)) (map_map (gathered var der) (λ t. carried vars t.0) ps)
    ∙ same_list (λ n. n) (λ t. gathered var der (carried vars t.0)) (λ n. n) (λ t. gathered var up t.0) (λ n. n) (λ t. low var t.0) (λ t l. t.1 l) ps h
carried_row {vars} {var} {der} {up} r stay (FlatExpr-F.Any ps) h =
    at_roll var der (FlatExpr-F.Any (map (λ t. carried vars t.0) ps))
    ∙ ap (greatest_by {X = ℕ} (λ n. n)) (map_map (gathered var der) (λ t. carried vars t.0) ps)
    ∙ same_list (λ n. n) (λ t. gathered var der (carried vars t.0)) (λ n. n) (λ t. gathered var up t.0) (λ n. n) (λ t. low var t.0) (λ t l. t.1 l) ps h
carried_row {vars} {var} {der} r stay (FlatExpr-F.Not a) h = at_roll var der (FlatExpr-F.Not (carried vars a.0)) ∙ a.1 h
carried_row {vars} {var} {der} {up} {L} r stay (FlatExpr-F.If bs o) h =
    if_row var der (map (λ b. (carried vars b.0.0, carried vars b.1.0)) bs) (carried vars o.0) (greatest_by {X = ℕ × ℕ} (λ b. b.1) (map (λ b. (gathered var up b.0.0, gathered var up b.1.0)) bs)) (gathered var up o.0)
    (ap (greatest_by {X = ℕ × ℕ} (λ b. b.1)) (map_map (λ (b : FlatExpr × FlatExpr). (gathered var der b.0, gathered var der b.1)) (λ b. (carried vars b.0.0, carried vars b.1.0)) bs)
    ∙ same_list {L = L} {Y = ℕ × ℕ} {Z = ℕ × ℕ} {W = ℕ × ℕ} (λ b. b.1) (λ b. (gathered var der (carried vars b.0.0), gathered var der (carried vars b.1.0))) (λ b. b.1) (λ b. (gathered var up b.0.0, gathered var up b.1.0)) (λ b. b.1) (λ b. (low var b.0.0, low var b.1.0)) (λ b l. b.1.1 l) bs (omega arith))
    (o.1 (omega arith))

rolled : {vars : List FlatVar} {var : ℕ → ℕ → ℕ} {der up : ℕ → ℕ} {L : ℕ} → IsRaise vars var der up L → StayLow vars var der up L → (y : FlatExpr-F (Carried vars var der up L)) →
    Carries vars var der up L (roll-FlatExpr (map-FlatExpr (Carried vars var der up L) FlatExpr (λ t. t.0) y))
rolled {vars} {var} {der} {up} {L} r stay y h =
    let T : Type 0 = Carried vars var der up L in
    let x : FlatExpr-F FlatExpr = map-FlatExpr T FlatExpr (λ t. t.0) y in
    let parts : map-FlatExpr FlatExpr FlatExpr (carried vars) x ≡ map-FlatExpr T FlatExpr (λ t. carried vars t.0) y = mapped T FlatExpr FlatExpr (carried vars) (λ t. t.0) y in
    let numbers : gathered var up (roll-FlatExpr x) ≡ gather_node var up (map-FlatExpr T ℕ (λ t. gathered var up t.0) y) = at_roll var up x ∙ ap (gather_node var up) (mapped T FlatExpr ℕ (gathered var up) (λ t. t.0) y) in
    let lows : low var (roll-FlatExpr x) ≡ gather_node var (λ n. n) (map-FlatExpr T ℕ (λ t. low var t.0) y) = at_roll var (λ n. n) x ∙ ap (gather_node var (λ n. n)) (mapped T FlatExpr ℕ (low var) (λ t. t.0) y) in
    ap (gathered var der) (fold-roll-FlatExpr FlatExpr (carry_node vars) x ∙ ap (carry_node vars) parts) ∙ carried_row r stay y (subst (λ l. l ≤ L) lows h) ∙ sym numbers

carried_where : {vars : List FlatVar} {var : ℕ → ℕ → ℕ} {der up : ℕ → ℕ} {L : ℕ} → IsRaise vars var der up L → StayLow vars var der up L → (e : FlatExpr) → Carries vars var der up L e
carried_where {vars} {var} {der} {up} {L} r stay = ind-FlatExpr (Carries vars var der up L) (λ x y is. subst (λ z. Carries vars var der up L (roll-FlatExpr z)) is (rolled r stay y))

-- with no derivative counted
pub carried_low : {vars : List FlatVar} {var : ℕ → ℕ → ℕ} {der up : ℕ → ℕ} {L : ℕ} → IsRaise vars var der up L → (e : FlatExpr) → low var e ≤ L → low var (carried vars e) ≡ gathered var up e
carried_low {vars} {var} {der} {up} {L} r = carried_where (uncounted r) (λ e same h. subst (λ n. n ≤ L) (sym same) (low_gathered (counted r) e h))

pub carried_gathers : {vars : List FlatVar} {var : ℕ → ℕ → ℕ} {der up : ℕ → ℕ} {L : ℕ} → IsRaise vars var der up L → (e : FlatExpr) → low var e ≤ L → gathered var der (carried vars e) ≡ gathered var up e
carried_gathers {vars} {var} {der} {up} {L} r = carried_where r (λ e same h. subst (λ n. n ≤ L) (sym (carried_low r e h)) (low_gathered (counted r) e h))
