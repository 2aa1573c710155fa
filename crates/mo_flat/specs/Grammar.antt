-- The texts that are read as an expression, by the productions of the Modelica Language Specification 3.5, appendix A.2.7:
-- what each production is made of, and nothing of how a text is printed. A phrase is a production with what it stands for.
use Rattle.std.specs.Prelude.{◌≡◌, ℕ, suc, pos, negsuc, Bool, true, false, List, [], ◌∷◌, ◌++◌, codes}
use Rattle.std.specs.Fmt.{decimal}
use Rattle.mo_syntax.specs.declared.expr.RelOp.{RelOp}
use Rattle.mo_flat.specs.declared.expr.FlatExpr.{FlatExpr}
use Rattle.mo_flat.specs.declared.expr.FlatExpr.TheVariants.{Whole, Decimal, Str, Truth, Literal, Time, Var, Der, Sum, Product, Power, Call, Relation, Not, All, Any, If}
use Rattle.mo_flat.specs.declared.model.FlatVar.{FlatVar}
use Rattle.mo_flat.specs.Text.{branch_mark, derivative_text, factor_mark, function_name, relation_mark, separator, term_mark, variable_name}

pub data Phrase : Type 0 where
  -- an expression by its production: 0 expression, 1 logical, 2 conjunction, 3 negation, 4 relation, 5 arithmetic, 6 term,
  -- 7 factor, 8 primary
  phrase : ℕ → FlatExpr → Phrase
  -- the rest of a sum, a product, a chain of operands of one production with a mark between, and an if-expression, each
  -- with whether its next part is the first
  terms : Bool → List (Bool × FlatExpr) → Phrase
  factors : Bool → List (Bool × FlatExpr) → Phrase
  chain : List ℕ → ℕ → Bool → List FlatExpr → Phrase
  branches : Bool → List (FlatExpr × FlatExpr) → Phrase

pub data Spells (vars : List FlatVar) : Phrase → List ℕ → Type 0 where
  -- each production is also the one before it
  tighter : {w : ℕ} {e : FlatExpr} {t : List ℕ} → Spells vars (phrase (suc w) e) t → Spells vars (phrase w e) t
  enclosed : {e : FlatExpr} {t u : List ℕ} → Spells vars (phrase 0 e) t → u ≡ codes "(" ++ t ++ codes ")" → Spells vars (phrase 8 e) u
  natural : {n : ℕ} {e : FlatExpr} {t : List ℕ} → e ≡ Whole (pos n) → t ≡ decimal n → Spells vars (phrase 8 e) t
  negative : {n : ℕ} {e : FlatExpr} {t : List ℕ} → e ≡ Whole (negsuc n) → t ≡ codes "-" ++ decimal (suc n) → Spells vars (phrase 5 e) t
  real : {e : FlatExpr} {t : List ℕ} → e ≡ Decimal t → Spells vars (phrase 8 e) t
  string : {e : FlatExpr} {t : List ℕ} → e ≡ Str t → Spells vars (phrase 8 e) t
  truth : {e : FlatExpr} {t : List ℕ} → e ≡ Truth true → t ≡ codes "true" → Spells vars (phrase 8 e) t
  falsehood : {e : FlatExpr} {t : List ℕ} → e ≡ Truth false → t ≡ codes "false" → Spells vars (phrase 8 e) t
  literal : {e : FlatExpr} {t : List ℕ} → e ≡ Literal t → Spells vars (phrase 8 e) t
  time : {e : FlatExpr} {t : List ℕ} → e ≡ Time → t ≡ codes "time" → Spells vars (phrase 8 e) t
  variable : {n k : ℕ} {e : FlatExpr} {t : List ℕ} → e ≡ Var n k → t ≡ derivative_text k (variable_name vars n) → Spells vars (phrase 8 e) t
  derivative : {e u : FlatExpr} {t s : List ℕ} → Spells vars (phrase 0 u) s → e ≡ Der u → t ≡ codes "der(" ++ s ++ codes ")" → Spells vars (phrase 8 e) t
  call : {f : ℕ} {args : List FlatExpr} {e : FlatExpr} {t s : List ℕ} → Spells vars (chain (codes ", ") 0 true args) s →
      e ≡ Call f args → t ≡ function_name f ++ codes "(" ++ s ++ codes ")" → Spells vars (phrase 8 e) t
  power : {e a b : FlatExpr} {t r s : List ℕ} → Spells vars (phrase 8 a) r → Spells vars (phrase 8 b) s →
      e ≡ Power a b → t ≡ r ++ codes "^" ++ s → Spells vars (phrase 7 e) t
  product : {e : FlatExpr} {fs : List (Bool × FlatExpr)} {t : List ℕ} → Spells vars (factors true fs) t → e ≡ Product fs → Spells vars (phrase 6 e) t
  sum : {e : FlatExpr} {ts : List (Bool × FlatExpr)} {t : List ℕ} → Spells vars (terms true ts) t → e ≡ Sum ts → Spells vars (phrase 5 e) t
  relation : {op : RelOp} {e a b : FlatExpr} {t r s : List ℕ} → Spells vars (phrase 5 a) r → Spells vars (phrase 5 b) s →
      e ≡ Relation op a b → t ≡ r ++ relation_mark op ++ s → Spells vars (phrase 4 e) t
  negation : {e u : FlatExpr} {t s : List ℕ} → Spells vars (phrase 4 u) s → e ≡ Not u → t ≡ codes "not " ++ s → Spells vars (phrase 3 e) t
  conjunction : {e : FlatExpr} {es : List FlatExpr} {t : List ℕ} → Spells vars (chain (codes " and ") 3 true es) t → e ≡ All es → Spells vars (phrase 2 e) t
  disjunction : {e : FlatExpr} {es : List FlatExpr} {t : List ℕ} → Spells vars (chain (codes " or ") 2 true es) t → e ≡ Any es → Spells vars (phrase 1 e) t
  choice : {e other : FlatExpr} {bs : List (FlatExpr × FlatExpr)} {t r s : List ℕ} → Spells vars (branches true bs) r → Spells vars (phrase 0 other) s →
      e ≡ If bs other → t ≡ r ++ codes " else " ++ s → Spells vars (phrase 0 e) t
  no_terms : {first : Bool} → Spells vars (terms first []) []
  term : {first minus : Bool} {e : FlatExpr} {ts : List (Bool × FlatExpr)} {t r s : List ℕ} → Spells vars (phrase 6 e) r → Spells vars (terms false ts) s →
      t ≡ (term_mark first minus ++ r) ++ s → Spells vars (terms first ((minus, e) ∷ ts)) t
  no_factors : {first : Bool} → Spells vars (factors first []) []
  factor : {first divides : Bool} {e : FlatExpr} {fs : List (Bool × FlatExpr)} {t r s : List ℕ} → Spells vars (phrase 7 e) r → Spells vars (factors false fs) s →
      t ≡ (factor_mark first divides ++ r) ++ s → Spells vars (factors first ((divides, e) ∷ fs)) t
  no_parts : {mark : List ℕ} {w : ℕ} {first : Bool} → Spells vars (chain mark w first []) []
  part : {mark : List ℕ} {w : ℕ} {first : Bool} {e : FlatExpr} {es : List FlatExpr} {t r s : List ℕ} → Spells vars (phrase w e) r → Spells vars (chain mark w false es) s →
      t ≡ (separator mark first ++ r) ++ s → Spells vars (chain mark w first (e ∷ es)) t
  no_branches : {first : Bool} → Spells vars (branches first []) []
  branch : {first : Bool} {c v : FlatExpr} {bs : List (FlatExpr × FlatExpr)} {t q r s : List ℕ} → Spells vars (phrase 0 c) q → Spells vars (phrase 0 v) r →
      Spells vars (branches false bs) s → t ≡ (branch_mark first ++ q ++ codes " then " ++ r) ++ s → Spells vars (branches first ((c, v) ∷ bs)) t
