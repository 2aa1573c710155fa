-- The printed text of each expression is read as that expression.
use Rattle.std.proofs.Common.{◌≡◌, ℕ, zero, suc, pos, negsuc, ◌+◌, ◌-◌, ◌≤◌, Bool, true, false, List, [], ◌∷◌, ◌++◌, map, refl, ap, ◌∙◌, sym, subst, arith}
use Rattle.std.specs.Fmt.{signed_decimal}
use Rattle.std.specs.Prelude.{codes, flat_map, if◌then◌else◌, nat_lt}
use Rattle.std.proofs.lemmas.Bool.Decides.{nat_tests}
use Rattle.mo_flat.specs.declared.expr.FlatExpr.{FlatExpr, FlatExpr-F, fold-roll-FlatExpr, ind-FlatExpr, map-FlatExpr, out-FlatExpr, out-roll-FlatExpr, roll-FlatExpr}
use Rattle.mo_flat.specs.declared.expr.FlatExpr.TheVariants.{rolls-Whole, rolls-Decimal, rolls-Str, rolls-Truth, rolls-Literal, rolls-Time, rolls-Var, rolls-Der, rolls-Sum, rolls-Product, rolls-Power, rolls-Call, rolls-Relation, rolls-Not, rolls-All, rolls-Any, rolls-If}
use Rattle.mo_flat.specs.declared.model.FlatVar.{FlatVar}
use Rattle.mo_flat.specs.Text.{Printed, branch_mark, branches_text, chain_text, expr_text, factor_mark, factors_text, level_of, node_level, node_text, operand, print_node, printed, separator, term_mark, terms_text}
use Rattle.mo_flat.specs.Grammar.{phrase, terms, factors, chain, branches, Spells, tighter, enclosed, natural, negative, real, string, truth, falsehood, literal, time, variable, derivative, call, power, product, sum, relation, negation, conjunction, disjunction, choice, no_terms, term, no_factors, factor, no_parts, part, no_branches, branch}
use Rattle.mo_flat.proofs.Printing.{opened}

-- the text of an expression is a phrase of its own production
abbrev pub IsRead : List FlatVar → FlatExpr → Type 0
IsRead vars e = Spells vars (phrase (level_of e) e) (expr_text vars e)

-- a phrase of a production is one of each production before it
loosened : (vars : List FlatVar) (e : FlatExpr) (t : List ℕ) (k w v : ℕ) → k + w ≡ v → Spells vars (phrase v e) t → Spells vars (phrase w e) t
loosened vars e t zero w v h s = let same : v ≡ w = omega arith in subst (λ n. Spells vars (phrase n e) t) same s
loosened vars e t (suc k) w v h s =
    let same : v ≡ suc (k + w) = omega arith in
    loosened vars e t k w (k + w) refl (tighter (subst (λ n. Spells vars (phrase n e) t) same s))

node_level_map : {A B : Type 0} (h : A → B) (n : FlatExpr-F A) → node_level (map-FlatExpr A B h n) ≡ node_level n
node_level_map h (FlatExpr-F.Whole n) = refl
node_level_map h (FlatExpr-F.Decimal t) = refl
node_level_map h (FlatExpr-F.Str t) = refl
node_level_map h (FlatExpr-F.Truth b) = refl
node_level_map h (FlatExpr-F.Literal t) = refl
node_level_map h FlatExpr-F.Time = refl
node_level_map h (FlatExpr-F.Var n k) = refl
node_level_map h (FlatExpr-F.Der a) = refl
node_level_map h (FlatExpr-F.Sum ts) = refl
node_level_map h (FlatExpr-F.Product fs) = refl
node_level_map h (FlatExpr-F.Power a b) = refl
node_level_map h (FlatExpr-F.Call f args) = refl
node_level_map h (FlatExpr-F.Relation op a b) = refl
node_level_map h (FlatExpr-F.Not a) = refl
node_level_map h (FlatExpr-F.All ps) = refl
node_level_map h (FlatExpr-F.Any ps) = refl
node_level_map h (FlatExpr-F.If bs o) = refl

-- the level that an expression is printed with is that of its node
pub printed_level : (vars : List FlatVar) (e : FlatExpr) → (printed vars e).level ≡ level_of e
printed_level vars e = ap (λ p. p.level) (opened vars e (out-FlatExpr e) refl) ∙ node_level_map (printed vars) (out-FlatExpr e)

operand_by : (vars : List FlatVar) (e : FlatExpr) (w : ℕ) (b : Bool) → nat_lt (printed vars e).level w ≡ b → w ≤ 8 → IsRead vars e →
    Spells vars (phrase w e) (if b then codes "(" ++ expr_text vars e ++ codes ")" else expr_text vars e)
operand_by vars e w true h l s =
    loosened vars e _ (8 - w) w 8 (omega arith) (enclosed (loosened vars e (expr_text vars e) (level_of e) 0 (level_of e) (omega arith) s) refl)
operand_by vars e w false h l s =
    let same = printed_level vars e in
    let above : w ≤ level_of e = grind (arith, nat_tests) in
    loosened vars e (expr_text vars e) (level_of e - w) w (level_of e) (omega arith) s

-- an operand, with its parentheses where it has any, is a phrase of the production that is wanted
pub operand_read : (vars : List FlatVar) (e : FlatExpr) (w : ℕ) → w ≤ 8 → IsRead vars e → Spells vars (phrase w e) (operand w (printed vars e))
operand_read vars e w l s = operand_by vars e w (nat_lt (printed vars e).level w) refl l s

-- an expression that is read from its text
abbrev Read : List FlatVar → Type 0
Read vars = (e : FlatExpr) × IsRead vars e

abbrev plain_signed : (vars : List FlatVar) → List (Bool × Read vars) → List (Bool × FlatExpr)
plain_signed vars = map (λ y. (y.0, y.1.0))

abbrev shown_signed : (vars : List FlatVar) → List (Bool × Read vars) → List (Bool × Printed)
shown_signed vars ys = map (λ t. (t.0, printed vars t.1)) (plain_signed vars ys)

terms_rest : (vars : List FlatVar) (ys : List (Bool × Read vars)) →
    Spells vars (terms false (plain_signed vars ys)) (flat_map (λ t. term_mark false t.0 ++ operand 6 t.1) (shown_signed vars ys))
terms_rest vars [] = no_terms
terms_rest vars (y ∷ ys) = term (operand_read vars y.1.0 6 (omega arith) y.1.1) (terms_rest vars ys) refl

terms_read : (vars : List FlatVar) (ys : List (Bool × Read vars)) → Spells vars (terms true (plain_signed vars ys)) (terms_text (shown_signed vars ys))
terms_read vars [] = no_terms
terms_read vars (y ∷ ys) = term (operand_read vars y.1.0 6 (omega arith) y.1.1) (terms_rest vars ys) refl

factors_rest : (vars : List FlatVar) (ys : List (Bool × Read vars)) →
    Spells vars (factors false (plain_signed vars ys)) (flat_map (λ t. factor_mark false t.0 ++ operand 7 t.1) (shown_signed vars ys))
factors_rest vars [] = no_factors
factors_rest vars (y ∷ ys) = factor (operand_read vars y.1.0 7 (omega arith) y.1.1) (factors_rest vars ys) refl

factors_read : (vars : List FlatVar) (ys : List (Bool × Read vars)) → Spells vars (factors true (plain_signed vars ys)) (factors_text (shown_signed vars ys))
factors_read vars [] = no_factors
factors_read vars (y ∷ ys) = factor (operand_read vars y.1.0 7 (omega arith) y.1.1) (factors_rest vars ys) refl

abbrev plain : (vars : List FlatVar) → List (Read vars) → List FlatExpr
plain vars = map (λ y. y.0)

chain_rest : (vars : List FlatVar) (mark : List ℕ) (w : ℕ) → w ≤ 8 → (ys : List (Read vars)) →
    Spells vars (chain mark w false (plain vars ys)) (flat_map (λ t. separator mark false ++ operand w t) (map (printed vars) (plain vars ys)))
chain_rest vars mark w l [] = no_parts
chain_rest vars mark w l (y ∷ ys) = part (operand_read vars y.0 w l y.1) (chain_rest vars mark w l ys) refl

chain_read : (vars : List FlatVar) (mark : List ℕ) (w : ℕ) → w ≤ 8 → (ys : List (Read vars)) →
    Spells vars (chain mark w true (plain vars ys)) (chain_text mark w (map (printed vars) (plain vars ys)))
chain_read vars mark w l [] = no_parts
chain_read vars mark w l (y ∷ ys) = part (operand_read vars y.0 w l y.1) (chain_rest vars mark w l ys) refl

abbrev plain_branches : (vars : List FlatVar) → List (Read vars × Read vars) → List (FlatExpr × FlatExpr)
plain_branches vars = map (λ y. (y.0.0, y.1.0))

abbrev shown_branches : (vars : List FlatVar) → List (Read vars × Read vars) → List (Printed × Printed)
shown_branches vars ys = map (λ b. (printed vars b.0, printed vars b.1)) (plain_branches vars ys)

branches_rest : (vars : List FlatVar) (ys : List (Read vars × Read vars)) →
    Spells vars (branches false (plain_branches vars ys)) (flat_map (λ b. branch_mark false ++ operand 0 b.0 ++ codes " then " ++ operand 0 b.1) (shown_branches vars ys))
branches_rest vars [] = no_branches
branches_rest vars (y ∷ ys) =
    branch (operand_read vars y.0.0 0 (omega arith) y.0.1) (operand_read vars y.1.0 0 (omega arith) y.1.1) (branches_rest vars ys) refl

branches_read : (vars : List FlatVar) (ys : List (Read vars × Read vars)) → Spells vars (branches true (plain_branches vars ys)) (branches_text (shown_branches vars ys))
branches_read vars [] = no_branches
branches_read vars (y ∷ ys) =
    branch (operand_read vars y.0.0 0 (omega arith) y.0.1) (operand_read vars y.1.0 0 (omega arith) y.1.1) (branches_rest vars ys) refl

unsigned : (n : ℕ) → node_level {A = FlatExpr} (FlatExpr-F.Whole (pos n)) ≡ 8
unsigned n = grind (arith, nat_tests)

-- a node is read where its parts are
node_read : (vars : List FlatVar) (y : FlatExpr-F (Read vars)) →
    let x : FlatExpr-F FlatExpr = map-FlatExpr (Read vars) FlatExpr (λ e. e.0) y in
    Spells vars (phrase (node_level x) (roll-FlatExpr x)) (node_text vars (map-FlatExpr FlatExpr Printed (printed vars) x))
node_read vars (FlatExpr-F.Whole (pos n)) = subst (λ k. Spells vars (phrase k (roll-FlatExpr (FlatExpr-F.Whole (pos n)))) (signed_decimal (pos n))) (sym (unsigned n)) (natural (rolls-Whole (pos n)) refl)
node_read vars (FlatExpr-F.Whole (negsuc n)) = negative (rolls-Whole (negsuc n)) refl
node_read vars (FlatExpr-F.Decimal t) = real (rolls-Decimal t)
node_read vars (FlatExpr-F.Str t) = string (rolls-Str t)
node_read vars (FlatExpr-F.Truth true) = truth (rolls-Truth true) refl
node_read vars (FlatExpr-F.Truth false) = falsehood (rolls-Truth false) refl
node_read vars (FlatExpr-F.Literal t) = literal (rolls-Literal t)
node_read vars FlatExpr-F.Time = time rolls-Time refl
node_read vars (FlatExpr-F.Var n k) = variable (rolls-Var n k) refl
node_read vars (FlatExpr-F.Der a) = derivative (operand_read vars a.0 0 (omega arith) a.1) (rolls-Der a.0) refl
node_read vars (FlatExpr-F.Sum ts) = sum (terms_read vars ts) (rolls-Sum (plain_signed vars ts))
node_read vars (FlatExpr-F.Product fs) = product (factors_read vars fs) (rolls-Product (plain_signed vars fs))
node_read vars (FlatExpr-F.Power a b) = power (operand_read vars a.0 8 (omega arith) a.1) (operand_read vars b.0 8 (omega arith) b.1) (rolls-Power a.0 b.0) refl
node_read vars (FlatExpr-F.Call f args) = call (chain_read vars (codes ", ") 0 (omega arith) args) (rolls-Call f (plain vars args)) refl
node_read vars (FlatExpr-F.Relation op a b) = relation (operand_read vars a.0 5 (omega arith) a.1) (operand_read vars b.0 5 (omega arith) b.1) (rolls-Relation op a.0 b.0) refl
node_read vars (FlatExpr-F.Not a) = negation (operand_read vars a.0 4 (omega arith) a.1) (rolls-Not a.0) refl
node_read vars (FlatExpr-F.All ps) = conjunction (chain_read vars (codes " and ") 3 (omega arith) ps) (rolls-All (plain vars ps))
node_read vars (FlatExpr-F.Any ps) = disjunction (chain_read vars (codes " or ") 2 (omega arith) ps) (rolls-Any (plain vars ps))
node_read vars (FlatExpr-F.If bs o) = choice (branches_read vars bs) (operand_read vars o.0 0 (omega arith) o.1) (rolls-If (plain_branches vars bs) o.0) refl

rolled : (vars : List FlatVar) (n : FlatExpr-F FlatExpr) →
    Spells vars (phrase (node_level n) (roll-FlatExpr n)) (node_text vars (map-FlatExpr FlatExpr Printed (printed vars) n)) → IsRead vars (roll-FlatExpr n)
rolled vars n s =
    subst (λ k. Spells vars (phrase k (roll-FlatExpr n)) (expr_text vars (roll-FlatExpr n))) (ap node_level (sym (out-roll-FlatExpr n)))
    (subst (λ t. Spells vars (phrase (node_level n) (roll-FlatExpr n)) t) (sym (ap (λ p. p.text) (fold-roll-FlatExpr Printed (print_node vars) n))) s)

pub read : (vars : List FlatVar) (e : FlatExpr) → IsRead vars e
read vars = ind-FlatExpr (IsRead vars) (λ x y is. subst (λ z. IsRead vars (roll-FlatExpr z)) is (rolled vars (map-FlatExpr (Read vars) FlatExpr (λ e. e.0) y) (node_read vars y)))
