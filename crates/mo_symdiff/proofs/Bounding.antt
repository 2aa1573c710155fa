-- Weights bound what is printed: nodes are those of the flat model, and names and literals stand in the text.
use Rattle.std.proofs.Common.{◌≡◌, ℕ, zero, suc, ◌+◌, ◌-◌, ◌^◌, ◌≤◌, Bool, true, false, List, [], ◌∷◌, ◌++◌, map, length, refl, ap, arith, inl, inr}
use Rattle.std.specs.Prelude.{codes, flat_map, if◌then◌else◌, min, nat_lt, sum_by}
use Rattle.std.proofs.lemmas.List.{length-append}
use Rattle.std.proofs.lemmas.List.Sums.{sum_by-cons}
use Rattle.mo_flat.specs.declared.expr.FlatExpr.{FlatExpr, FlatExpr-F, map-FlatExpr}
use Rattle.mo_flat.specs.declared.model.FlatVar.{FlatVar}
use Rattle.mo_flat.specs.declared.model.FlatEquation.{FlatEquation}
use Rattle.mo_flat.specs.Nodes.{count_node, node_count}
use Rattle.mo_flat.specs.Text.{Printed, branch_mark, chain_text, derivative_text, expr_text, factor_mark, function_name, in_row, operand, print_node, printed, relation_mark, separator, term_mark, variable_name}
use Rattle.mo_symdiff.specs.declared.weights.Measure.TheVariants.{Nodes, Names}
use Rattle.mo_symdiff.specs.Carried.{carried}
use Rattle.mo_symdiff.specs.Derivative.{derived}
use Rattle.mo_symdiff.specs.Reduced.{bytes_at, carried_equation, derived_equation, nodes_at}
use Rattle.mo_symdiff.specs.steps.Room.{IsShort}
use Rattle.mo_symdiff.specs.Weights.{capped, weigh, weigh_node}
use Rattle.mo_symdiff.proofs.SigmaGather.{Related, folds_related}

-- ---- nodes

abbrev Same : Type 0
Same = Related ℕ ℕ (λ a b. a ≡ b)

sums_same : {T X Y : Type 0} (f : X → ℕ) (g : Y → ℕ) (p : T → X) (q : T → Y) → ((t : T) → f (p t) ≡ g (q t)) → (ts : List T) → sum_by f (map p ts) ≡ sum_by g (map q ts)
sums_same f g p q each [] = refl
sums_same f g p q each (t ∷ ts) =
    let a = sum_by-cons f (p t) (map p ts) in let b = sum_by-cons g (q t) (map q ts) in let c = each t in let d = sums_same f g p q each ts in
    omega (arith, a, b, c, d)

same_node : (vars : List FlatVar) (n : FlatExpr-F Same) → weigh_node vars Nodes (map-FlatExpr Same ℕ (λ r. r.0) n) ≡ count_node (map-FlatExpr Same ℕ (λ r. r.1) n)
same_node vars (FlatExpr-F.Whole n) = refl
same_node vars (FlatExpr-F.Decimal t) = refl
same_node vars (FlatExpr-F.Str t) = refl
same_node vars (FlatExpr-F.Truth b) = refl
same_node vars (FlatExpr-F.Literal t) = refl
same_node vars FlatExpr-F.Time = refl
same_node vars (FlatExpr-F.Var v k) = refl
same_node vars (FlatExpr-F.Der a) = ap (λ n. 1 + n) a.2
same_node vars (FlatExpr-F.Sum ts) = ap (λ n. 1 + n) (sums_same {X = Bool × ℕ} {Y = Bool × ℕ} (λ t. t.1) (λ t. t.1) (λ t. (t.0, t.1.0)) (λ t. (t.0, t.1.1)) (λ t. t.1.2) ts)
same_node vars (FlatExpr-F.Product ts) = ap (λ n. 1 + n) (sums_same {X = Bool × ℕ} {Y = Bool × ℕ} (λ t. t.1) (λ t. t.1) (λ t. (t.0, t.1.0)) (λ t. (t.0, t.1.1)) (λ t. t.1.2) ts)
same_node vars (FlatExpr-F.Power a b) = let h = a.2 in let k = b.2 in omega (arith, h, k)
same_node vars (FlatExpr-F.Call f args) = ap (λ n. 1 + n) (sums_same (λ n. n) (λ n. n) (λ t. t.0) (λ t. t.1) (λ t. t.2) args)
same_node vars (FlatExpr-F.Relation op a b) = let h = a.2 in let k = b.2 in omega (arith, h, k)
same_node vars (FlatExpr-F.Not a) = ap (λ n. 1 + n) a.2
same_node vars (FlatExpr-F.All ps) = ap (λ n. 1 + n) (sums_same (λ n. n) (λ n. n) (λ t. t.0) (λ t. t.1) (λ t. t.2) ps)
same_node vars (FlatExpr-F.Any ps) = ap (λ n. 1 + n) (sums_same (λ n. n) (λ n. n) (λ t. t.0) (λ t. t.1) (λ t. t.2) ps)
same_node vars (FlatExpr-F.If bs o) =
    let a = sums_same {X = ℕ × ℕ} {Y = ℕ × ℕ} (λ b. b.0 + b.1) (λ b. b.0 + b.1) (λ b. (b.0.0, b.1.0)) (λ b. (b.0.1, b.1.1)) (λ b. let h = b.0.2 in let k = b.1.2 in omega (arith, h, k)) bs in
    let h = o.2 in
    omega (arith, a, h)

nodes_weigh : (vars : List FlatVar) (e : FlatExpr) → weigh vars Nodes e ≡ node_count e
unfolding weigh
nodes_weigh vars e = folds_related ℕ ℕ (weigh_node vars Nodes) count_node (λ a b. a ≡ b) (same_node vars) e

-- ---- texts

abbrev Fits : ℕ → Printed → Type 0
Fits n p = n ≤ length p.text

abbrev Shown : Type 0
Shown = Related ℕ Printed Fits

in_operand : (wanted : ℕ) (p : Printed) → length p.text ≤ length (operand wanted p)
in_operand wanted p = by_case (nat_lt p.level wanted) where
  by_case : (b : Bool) → length p.text ≤ length (if b then codes "(" ++ p.text ++ codes ")" else p.text)
  by_case true = omega (arith, length-append (codes "(" ++ p.text) (codes ")"), length-append (codes "(") p.text, length-append (codes "(") (p.text ++ codes ")"), length-append p.text (codes ")"))
  by_case false = omega arith

lines_fit : {T X Y : Type 0} (f : X → ℕ) (part : Y → List ℕ) (p : T → X) (q : T → Y) → ((t : T) → f (p t) ≤ length (part (q t))) → (ts : List T) → sum_by f (map p ts) ≤ length (flat_map part (map q ts))
lines_fit f part p q each [] = omega arith
lines_fit f part p q each (t ∷ ts) =
    let a = sum_by-cons f (p t) (map p ts) in let b = length-append (part (q t)) (flat_map part (map q ts)) in let c = each t in let d = lines_fit f part p q each ts in
    omega (arith, a, b, c, d)

row_fits : {T X Y : Type 0} (f : X → ℕ) (part : Bool → Y → List ℕ) (p : T → X) (q : T → Y) → ((first : Bool) (t : T) → f (p t) ≤ length (part first (q t))) → (ts : List T) → sum_by f (map p ts) ≤ length (in_row part (map q ts))
row_fits f part p q each [] = omega arith
row_fits f part p q each (t ∷ ts) =
    let a = sum_by-cons f (p t) (map p ts) in let b = length-append (part true (q t)) (flat_map (part false) (map q ts)) in let c = each true t in let d = lines_fit f (part false) p q (each false) ts in
    omega (arith, a, b, c, d)

marked : (mark : List ℕ) (wanted : ℕ) (r : Shown) → r.0 ≤ length (mark ++ operand wanted r.1)
marked mark wanted r = let a = length-append mark (operand wanted r.1) in let b = in_operand wanted r.1 in let c = r.2 in omega (arith, a, b, c)

chain_fits : (mark : List ℕ) (wanted : ℕ) (rs : List Shown) → sum_by (λ n. n) (map (λ r. r.0) rs) ≤ length (chain_text mark wanted (map (λ r. r.1) rs))
chain_fits mark wanted rs = row_fits (λ n. n) (λ first part. separator mark first ++ operand wanted part) (λ r. r.0) (λ r. r.1) (λ first r. marked (separator mark first) wanted r) rs

name_fits : (k : ℕ) (name : List ℕ) → length name ≤ length (derivative_text k name)
name_fits zero name = omega arith
name_fits (suc k) name =
    let a = length-append (codes "der(" ++ derivative_text k name) (codes ")") in let b = length-append (codes "der(") (derivative_text k name) in
    let d = length-append (codes "der(") (derivative_text k name ++ codes ")") in let e = length-append (derivative_text k name) (codes ")") in
    let c = name_fits k name in omega (arith, a, b, c, d, e)

framed : (a b c : List ℕ) (n : ℕ) → n ≤ length b → n ≤ length (a ++ b ++ c)
framed a b c n h = omega (arith, length-append (a ++ b) c, length-append a b, length-append a (b ++ c), length-append b c, h)

paired : (a b c : List ℕ) (n k : ℕ) → n ≤ length a → k ≤ length c → n + k ≤ length (a ++ b ++ c)
paired a b c n k h l = omega (arith, length-append (a ++ b) c, length-append a b, length-append a (b ++ c), length-append b c, h, l)

shown : (wanted : ℕ) (r : Shown) → r.0 ≤ length (operand wanted r.1)
shown wanted r = let b = in_operand wanted r.1 in let c = r.2 in omega (arith, b, c)

branch_fits : (first : Bool) (b : Shown × Shown) → b.0.0 + b.1.0 ≤ length (branch_mark first ++ operand 0 b.0.1 ++ codes " then " ++ operand 0 b.1.1)
branch_fits first b =
    let x = operand 0 b.0.1 in
    let y = operand 0 b.1.1 in
    let mid = codes " then " in
    omega (
      arith,
      length-append (branch_mark first ++ x ++ mid) y,
      length-append (branch_mark first ++ x) mid,
      length-append (branch_mark first) x,
      length-append (branch_mark first) (x ++ mid ++ y),
      length-append x (mid ++ y),
      length-append mid y,
      shown 0 b.0,
      shown 0 b.1,
    )

text_node : (vars : List FlatVar) (n : FlatExpr-F Shown) → Fits (weigh_node vars Names (map-FlatExpr Shown ℕ (λ r. r.0) n)) (print_node vars (map-FlatExpr Shown Printed (λ r. r.1) n))
text_node vars (FlatExpr-F.Whole n) = omega arith
text_node vars (FlatExpr-F.Decimal t) = omega arith
text_node vars (FlatExpr-F.Str t) = omega arith
text_node vars (FlatExpr-F.Truth b) = omega arith
text_node vars (FlatExpr-F.Literal t) = omega arith
text_node vars FlatExpr-F.Time = omega arith
text_node vars (FlatExpr-F.Var v k) = let e = name_fits k (variable_name vars v) in omega (arith, e)
text_node vars (FlatExpr-F.Der a) = let e = framed (codes "der(") (operand 0 a.1) (codes ")") a.0 (shown 0 a) in omega (arith, e)
text_node vars (FlatExpr-F.Sum ts) =
    let e = row_fits {T = Bool × Shown} {X = Bool × ℕ} {Y = Bool × Printed} (λ t. t.1) (λ first term. term_mark first term.0 ++ operand 6 term.1) (λ t. (t.0, t.1.0)) (λ t. (t.0, t.1.1)) (λ first t. marked (term_mark first t.0) 6 t.1) ts in omega (arith, e)
text_node vars (FlatExpr-F.Product ts) =
    let e = row_fits {T = Bool × Shown} {X = Bool × ℕ} {Y = Bool × Printed} (λ t. t.1) (λ first factor. factor_mark first factor.0 ++ operand 7 factor.1) (λ t. (t.0, t.1.0)) (λ t. (t.0, t.1.1)) (λ first t. marked (factor_mark first t.0) 7 t.1) ts in omega (arith, e)
text_node vars (FlatExpr-F.Power a b) = let e = paired (operand 8 a.1) (codes "^") (operand 8 b.1) a.0 b.0 (shown 8 a) (shown 8 b) in omega (arith, e)
text_node vars (FlatExpr-F.Call f args) =
    let row = chain_text (codes ", ") 0 (map (λ r. r.1) args) in
    let e = framed (function_name f ++ codes "(") row (codes ")") (sum_by (λ n. n) (map (λ r. r.0) args)) (chain_fits (codes ", ") 0 args) in
    let d = framed (codes "(") row (codes ")") (sum_by (λ n. n) (map (λ r. r.0) args)) (chain_fits (codes ", ") 0 args) in
    let c = length-append (function_name f) (codes "(" ++ row ++ codes ")") in
    omega (arith, e, d, c)
text_node vars (FlatExpr-F.Relation op a b) = let e = paired (operand 5 a.1) (relation_mark op) (operand 5 b.1) a.0 b.0 (shown 5 a) (shown 5 b) in omega (arith, e)
text_node vars (FlatExpr-F.Not a) = let e = marked (codes "not ") 4 a in omega (arith, e)
text_node vars (FlatExpr-F.All ps) = let e = chain_fits (codes " and ") 3 ps in omega (arith, e)
text_node vars (FlatExpr-F.Any ps) = let e = chain_fits (codes " or ") 2 ps in omega (arith, e)
text_node vars (FlatExpr-F.If bs o) =
    let rows = row_fits {T = Shown × Shown} {X = ℕ × ℕ} {Y = Printed × Printed} (λ b. b.0 + b.1) (λ first branch. branch_mark first ++ operand 0 branch.0 ++ codes " then " ++ operand 0 branch.1) (λ b. (b.0.0, b.1.0)) (λ b. (b.0.1, b.1.1)) branch_fits bs in
    let e = paired (in_row (λ first branch. branch_mark first ++ operand 0 branch.0 ++ codes " then " ++ operand 0 branch.1) (map (λ b. (b.0.1, b.1.1)) bs)) (codes " else ") (operand 0 o.1) (sum_by (λ b. b.0 + b.1) (map (λ b. (b.0.0, b.1.0)) bs)) o.0 rows (shown 0 o) in
    omega (arith, e)

names_fit : (vars : List FlatVar) (e : FlatExpr) → weigh vars Names e ≤ length (expr_text vars e)
unfolding weigh
names_fit vars e = folds_related ℕ Printed (weigh_node vars Names) (print_node vars) Fits (text_node vars) e

-- ---- lines

pub line_nodes : (vars : List FlatVar) (q : FlatEquation) → nodes_at q ≡ weigh vars Nodes q.left + weigh vars Nodes q.right
unfolding nodes_at
line_nodes vars q = let a = nodes_weigh vars q.left in let b = nodes_weigh vars q.right in omega (arith, a, b)

pub line_names : (vars : List FlatVar) (q : FlatEquation) → weigh vars Names q.left + weigh vars Names q.right ≤ bytes_at vars q
unfolding bytes_at
line_names vars q =
    let x = operand 1 (printed vars q.left) in
    let y = expr_text vars q.right in
    let begin = codes "  " in
    let mark = codes " = " in
    let close = codes ";\n" in
    let a = in_operand 1 (printed vars q.left) in
    let b = names_fit vars q.left in
    let c = names_fit vars q.right in
    omega (
      arith,
      a,
      b,
      c,
      length-append (begin ++ x ++ mark ++ y) close,
      length-append (begin ++ x ++ mark) y,
      length-append (begin ++ x) mark,
      length-append begin x,
      length-append begin (x ++ mark ++ y ++ close),
      length-append x (mark ++ y ++ close),
      length-append mark (y ++ close),
      length-append y close,
    )

-- the sum of two weights that stop is at most their sum
pub lighter : (x y a b n : ℕ) → a ≡ capped x → b ≡ capped y → n ≡ min (a + b) (2 ^ 64 - 1) → n ≤ x + y
lighter x y a b n h k is = omega (arith, h, k, is)

pub derived_nodes : (vars : List FlatVar) (q : FlatEquation) (n : ℕ) → n ≤ weigh vars Nodes (derived vars q.left) + weigh vars Nodes (derived vars q.right) → n ≤ nodes_at (derived_equation vars q)
unfolding derived_equation
derived_nodes vars q n h = let e = line_nodes vars (derived_equation vars q) in omega (arith, e, h)

pub derived_names : (vars : List FlatVar) (q : FlatEquation) (n : ℕ) → n ≤ weigh vars Names (derived vars q.left) + weigh vars Names (derived vars q.right) → n ≤ bytes_at vars (derived_equation vars q)
unfolding derived_equation
derived_names vars q n h = let e = line_names vars (derived_equation vars q) in omega (arith, e, h)

pub carried_nodes : (vars : List FlatVar) (q : FlatEquation) (n : ℕ) → n ≤ weigh vars Nodes (carried vars q.left) + weigh vars Nodes (carried vars q.right) → n ≤ nodes_at (carried_equation vars q)
unfolding carried_equation
carried_nodes vars q n h = let e = line_nodes vars (carried_equation vars q) in omega (arith, e, h)

pub carried_names : (vars : List FlatVar) (q : FlatEquation) (n : ℕ) → n ≤ weigh vars Names (carried vars q.left) + weigh vars Names (carried vars q.right) → n ≤ bytes_at vars (carried_equation vars q)
unfolding carried_equation
carried_names vars q n h = let e = line_names vars (carried_equation vars q) in omega (arith, e, h)

-- more is wanted than is left
pub short_by : (nodes bytes n b x y : ℕ) → IsShort nodes bytes n b → n ≤ x → b ≤ y → IsShort nodes bytes x y
short_by nodes bytes n b x y (inl l) h k = inl (omega (arith, l, h))
short_by nodes bytes n b x y (inr l) h k = inr (omega (arith, l, k))
