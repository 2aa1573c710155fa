-- The text of an expression by its parts, in the order in which it is written.
use Rattle.std.proofs.Common.{◌≡◌, ℕ, zero, suc, add-one, Result, ◌+◌, ◌<◌, Bool, true, false, eqb, List, [], ◌∷◌, ◌++◌, map, take, get_or, length, ap, ◌∙◌, sym, append_assoc, arith, length-take-le, OnOk, Ok, Err}
use Rattle.std.specs.Prelude.{codes, flat_map}
use Rattle.std.proofs.lemmas.Grind.{common_steps, flat_map-append}
use Rattle.std.proofs.lemmas.List.{take_more, map-append, append-nil, length-map}
use Rattle.mo_syntax.specs.declared.expr.RelOp.{RelOp}
use Rattle.mo_flat.specs.declared.expr.FlatExpr.{FlatExpr, FlatExpr-F, fold_out-FlatExpr, map-FlatExpr, out-FlatExpr}
use Rattle.mo_flat.specs.declared.expr.FlatExpr.TheVariants.{Sum, Product, Power, Call, Relation, Not, All, Any, If, outs-Sum, outs-Product, outs-Power, outs-Call, outs-Relation, outs-Not, outs-All, outs-Any, outs-If}
use Rattle.mo_flat.specs.declared.model.FlatVar.{FlatVar}
use Rattle.mo_flat.specs.Text.{Printed, printed, print_node, expr_text, operand, in_row, terms_text, factors_text, chain_text, branches_text, relation_mark, function_name, derivative_text}

-- an expression is printed as its node is, over its printed parts
pub opened : (vars : List FlatVar) (e : FlatExpr) (node : FlatExpr-F FlatExpr) → out-FlatExpr e ≡ node → printed vars e ≡ print_node vars (map-FlatExpr FlatExpr Printed (printed vars) node)
opened vars e node h = fold_out-FlatExpr Printed (print_node vars) e ∙ ap (λ n. print_node vars (map-FlatExpr FlatExpr Printed (printed vars) n)) h

pub text_at : (vars : List FlatVar) (e : FlatExpr) (node : FlatExpr-F FlatExpr) → out-FlatExpr e ≡ node → expr_text vars e ≡ (print_node vars (map-FlatExpr FlatExpr Printed (printed vars) node)).text
text_at vars e node h = ap (λ p. p.text) (opened vars e node h)

pub at_Sum : (vars : List FlatVar) (ts : List (Bool × FlatExpr)) → expr_text vars (Sum ts) ≡ terms_text (map (λ t. (t.0, printed vars t.1)) ts)
at_Sum vars ts = text_at vars (Sum ts) (FlatExpr-F.Sum ts) (outs-Sum ts)

pub at_Product : (vars : List FlatVar) (ts : List (Bool × FlatExpr)) → expr_text vars (Product ts) ≡ factors_text (map (λ t. (t.0, printed vars t.1)) ts)
at_Product vars ts = text_at vars (Product ts) (FlatExpr-F.Product ts) (outs-Product ts)

pub at_Power : (vars : List FlatVar) (a b : FlatExpr) → expr_text vars (Power a b) ≡ operand 8 (printed vars a) ++ codes "^" ++ operand 8 (printed vars b)
at_Power vars a b = text_at vars (Power a b) (FlatExpr-F.Power a b) (outs-Power a b)

pub at_Call : (vars : List FlatVar) (f : ℕ) (args : List FlatExpr) → expr_text vars (Call f args) ≡ function_name f ++ codes "(" ++ chain_text (codes ", ") 0 (map (printed vars) args) ++ codes ")"
at_Call vars f args = text_at vars (Call f args) (FlatExpr-F.Call f args) (outs-Call f args)

pub at_Relation : (vars : List FlatVar) (op : RelOp) (a b : FlatExpr) → expr_text vars (Relation op a b) ≡ operand 5 (printed vars a) ++ relation_mark op ++ operand 5 (printed vars b)
at_Relation vars op a b = text_at vars (Relation op a b) (FlatExpr-F.Relation op a b) (outs-Relation op a b)

pub at_Not : (vars : List FlatVar) (a : FlatExpr) → expr_text vars (Not a) ≡ codes "not " ++ operand 4 (printed vars a)
at_Not vars a = text_at vars (Not a) (FlatExpr-F.Not a) (outs-Not a)

pub at_All : (vars : List FlatVar) (parts : List FlatExpr) → expr_text vars (All parts) ≡ chain_text (codes " and ") 3 (map (printed vars) parts)
at_All vars parts = text_at vars (All parts) (FlatExpr-F.All parts) (outs-All parts)

pub at_Any : (vars : List FlatVar) (parts : List FlatExpr) → expr_text vars (Any parts) ≡ chain_text (codes " or ") 2 (map (printed vars) parts)
at_Any vars parts = text_at vars (Any parts) (FlatExpr-F.Any parts) (outs-Any parts)

pub at_If : (vars : List FlatVar) (branches : List (FlatExpr × FlatExpr)) (other : FlatExpr) → expr_text vars (If branches other) ≡ branches_text (map (λ b. (printed vars b.0, printed vars b.1)) branches) ++ codes " else " ++ operand 0 (printed vars other)
at_If vars branches other = text_at vars (If branches other) (FlatExpr-F.If branches other) (outs-If branches other)

-- one more part of a row
in_row_push : {B : Type 0} (part : Bool → B → List ℕ) (ys : List B) (y : B) → in_row part (ys ++ y ∷ []) ≡ in_row part ys ++ part (eqb (length ys) 0) y
in_row_push part [] y = append-nil (part true y)
in_row_push part (x ∷ xs) y =
    let not_nil : false ≡ eqb (suc (length xs)) 0 = grind (arith, common_steps) in
    ap (λ t. part true x ++ t) (flat_map-append (part false) xs (y ∷ []) ∙ ap (λ t. flat_map (part false) xs ++ t) (append-nil (part false y))) ∙ sym (append_assoc (part true x) _ _)
    ∙ ap (λ b. (part true x ++ flat_map (part false) xs) ++ part b y) not_nil

in_row_more : {A B : Type 0} (part : Bool → B → List ℕ) (h : A → B) (xs : List A) (i : ℕ) (d : A) → i < length xs →
    in_row part (map h (take (i + 1) xs)) ≡ in_row part (map h (take i xs)) ++ part (eqb i 0) (h (get_or xs i d))
in_row_more part h xs i d l =
    let counted : length (map h (take i xs)) ≡ i = length-map (take i xs) h ∙ length-take-le i xs (omega arith) in
    ap (λ ys. in_row part (map h ys)) (take_more xs i d l) ∙ ap (in_row part) (map-append h (take i xs) (get_or xs i d ∷ []))
    ∙ in_row_push part (map h (take i xs)) (h (get_or xs i d)) ∙ ap (λ n. in_row part (map h (take i xs)) ++ part (eqb n 0) (h (get_or xs i d))) counted

-- a turn of a loop that writes a row
pub row_step : {A B : Type 0} (part : Bool → B → List ℕ) (h : A → B) (xs : List A) (i : ℕ) (d x : A) (first : Bool) (old before after : List ℕ) →
    i < length xs → x ≡ get_or xs i d → first ≡ eqb i 0 → before ≡ old ++ in_row part (map h (take i xs)) → after ≡ before ++ part first (h x) →
    after ≡ old ++ in_row part (map h (take (i + 1) xs))
row_step part h xs i d x first old before after l is f b a =
    a ∙ ap (λ t. t ++ part first (h x)) b ∙ append_assoc old _ _ ∙
    ap (λ t. old ++ t) (ap (λ q. in_row part (map h (take i xs)) ++ part q (h x)) f ∙ ap (λ y. in_row part (map h (take i xs)) ++ part (eqb i 0) (h y)) is ∙ sym (in_row_more part h xs i d l))

-- after a first part the next is not the first
pub not_first : (i : ℕ) → false ≡ eqb (i + 1) 0
not_first i = grind (arith, common_steps)

pub after_two : (before m after a b : List ℕ) → m ≡ before ++ a → after ≡ m ++ b → after ≡ before ++ (a ++ b)
after_two before m after a b h k = grind (arith, common_steps)

pub after_four : (before m n o after a b c d : List ℕ) → m ≡ before ++ a → n ≡ m ++ b → o ≡ n ++ c → after ≡ o ++ d → after ≡ before ++ (a ++ b ++ c ++ d)
after_four before m n o after a b c d h k l e = grind (arith, common_steps)

-- k copies of a text
abbrev pub repeated : ℕ → List ℕ → List ℕ
repeated zero s = []
repeated (suc k) s = s ++ repeated k s

pub repeated_more : (k : ℕ) (s : List ℕ) → repeated (k + 1) s ≡ repeated k s ++ s
repeated_more zero s = append-nil s
repeated_more (suc k) s =
    let e : repeated (suc k) s ≡ repeated k s ++ s = ap (λ n. repeated n s) (sym (add-one k)) ∙ repeated_more k s in
    ap (λ n. repeated n s) (add-one (suc k)) ∙ ap (λ t. s ++ t) e ∙ sym (append_assoc s (repeated k s) s)

around : (a o n c b : List ℕ) → (a ++ ((o ++ n) ++ c)) ++ b ≡ ((a ++ o) ++ n) ++ (c ++ b)
around a o n c b = simp append_assoc

-- the text by its opening marks, its name and its closing marks
pub derivative_text_repeated : (k : ℕ) (name : List ℕ) → derivative_text k name ≡ repeated k (codes "der(") ++ name ++ repeated k (codes ")")
derivative_text_repeated zero name = sym (append-nil name)
derivative_text_repeated (suc k) name =
    let e : repeated (suc k) (codes ")") ≡ repeated k (codes ")") ++ codes ")" = ap (λ n. repeated n (codes ")")) (sym (add-one k)) ∙ repeated_more k (codes ")") in
    let h = derivative_text_repeated k name in
    rw (e, h) (around (codes "der(") (repeated k (codes "der(")) name (repeated k (codes ")")) (codes ")"))

-- five pieces one after another
pub in_five : {E : Type 0} (r : Result (Unit {0}) E) (old a b c d e m n o p new : List ℕ) →
    m ≡ old ++ a → n ≡ m ++ b → o ≡ n ++ c → p ≡ o ++ d → OnOk r (new ≡ p ++ e) → OnOk r (new ≡ old ++ (a ++ b ++ c ++ d ++ e))
in_five (Ok u) old a b c d e m n o p new h k l q s = grind (arith, common_steps)
in_five (Err u) old a b c d e m n o p new h k l q s = tt
