-- Expressions in pieces. An expression has a level: how tightly it binds (Modelica Language Specification 3.5, section 3.2 and
-- appendix A.2.7). An operand whose level is below the one that its place wants stands in parentheses, and no other does.
use Rattle.std.specs.Prelude.{ℕ, pos, int_lt, Bool, true, false, List, [], ◌∷◌, ◌++◌, map, flat_map, Option, Some, None, codes, if◌then◌else◌, nat_lt}
use Rattle.std.specs.Fmt.{signed_decimal}
use Rattle.mo_syntax.specs.declared.expr.TermOf.{TermOf}
use Rattle.mo_syntax.specs.declared.expr.FactorOf.{FactorOf}
use Rattle.mo_syntax.specs.declared.expr.BranchOf.{BranchOf}
use Rattle.mo_syntax.specs.declared.expr.PartOf.{PartOf}
use Rattle.mo_syntax.specs.declared.expr.ReferenceOf.{ReferenceOf}
use Rattle.mo_syntax.specs.declared.expr.IndexOf.{IndexOf}
use Rattle.mo_syntax.specs.declared.expr.CalleeOf.{CalleeOf}
use Rattle.mo_syntax.specs.declared.expr.CalleeOf.TheVariants.{Named, Der, Initial, Pure}
use Rattle.mo_syntax.specs.declared.expr.RelOp.{RelOp}
use Rattle.mo_syntax.specs.declared.expr.RelOp.TheVariants.{Less, LessEqual, Greater, GreaterEqual, Equal, NotEqual}
use Rattle.mo_syntax.specs.declared.expr.Expr.{Expr, Expr-F, fold-Expr}
use Rattle.mo_syntax.specs.declared.expr.Node.{Node, Node-F, fold-Node}
use Rattle.mo_syntax.specs.declared.expr.Arg.{Arg, Arg-F, fold-Arg}
use Rattle.mo_syntax.specs.declared.expr.Args.{Args, Args-F, fold-Args}
use Rattle.mo_pieces.specs.Pieces.{Piece, a_name, a_word, a_mark, a_whole, a_decimal, a_string, a_blank}

-- an expression in pieces, with its level
pub record Shown : Type 0 where
  pub level : ℕ
  pub pieces : List Piece

-- ---- layout

abbrev pub in_parentheses : List Piece → List Piece
in_parentheses inner = a_mark (codes "(") ∷ inner ++ a_mark (codes ")") ∷ []

abbrev pub in_brackets : List Piece → List Piece
in_brackets inner = a_mark (codes "[") ∷ inner ++ a_mark (codes "]") ∷ []

abbrev pub in_braces : List Piece → List Piece
in_braces inner = a_mark (codes "{") ∷ inner ++ a_mark (codes "}") ∷ []

-- with a blank on each side
abbrev pub spaced : Piece → List Piece
spaced piece = a_blank ∷ piece ∷ a_blank ∷ []

-- the parts in a row; `part` is told whether it is the first
abbrev pub in_row : {A : Type 0} → (Bool → A → List Piece) → List A → List Piece
in_row part [] = []
in_row part (x ∷ xs) = part true x ++ flat_map (part false) xs

-- the parts in a row with a mark between each two
abbrev pub joined_by : {A : Type 0} → List Piece → (A → List Piece) → List A → List Piece
joined_by mark part xs = in_row (λ first x. (if first then [] else mark) ++ part x) xs

abbrev pub a_comma : List Piece
a_comma = a_mark (codes ",") ∷ a_blank ∷ []

-- a comma between two lists, none where one of them is empty
abbrev pub comma_where : (first_empty second_empty : Bool) → List Piece
comma_where first_empty second_empty = if first_empty then [] else (if second_empty then [] else a_comma)

abbrev pub a_semicolon : List Piece
a_semicolon = a_mark (codes ";") ∷ a_blank ∷ []

abbrev pub commas : {A : Type 0} → (A → List Piece) → List A → List Piece
commas part xs = joined_by a_comma part xs

-- an operand, in parentheses where it binds more loosely than its place wants
abbrev pub operand : ℕ → Shown → List Piece
operand wanted e = if nat_lt e.level wanted then in_parentheses e.pieces else e.pieces

-- ---- the parts of expressions; `show` tells what stands in them

-- a subscript `:` stands for None
abbrev pub subscript_pieces : {E : Type 0} → (E → Shown) → Option E → List Piece
subscript_pieces show None = a_mark (codes ":") ∷ []
subscript_pieces show (Some e) = (show e).pieces

abbrev pub subscripts_pieces : {E : Type 0} → (E → Shown) → List (Option E) → List Piece
subscripts_pieces show [] = []
subscripts_pieces show (x ∷ xs) = in_brackets (commas (subscript_pieces show) (x ∷ xs))

abbrev pub part_pieces : {E : Type 0} → (E → Shown) → PartOf E → List Piece
part_pieces show part = a_name part.name ∷ subscripts_pieces show part.subs

abbrev pub top_pieces : Bool → List Piece
top_pieces top = if top then a_mark (codes ".") ∷ [] else []

abbrev pub reference_pieces : {E : Type 0} → (E → Shown) → ReferenceOf E → List Piece
reference_pieces show r = top_pieces r.top ++ joined_by (a_mark (codes ".") ∷ []) (part_pieces show) r.parts

abbrev pub callee_pieces : {E : Type 0} → (E → Shown) → CalleeOf E → List Piece
callee_pieces show (Named r) = reference_pieces show r
callee_pieces show Der = a_word (codes "der") ∷ []
callee_pieces show Initial = a_word (codes "initial") ∷ []
callee_pieces show Pure = a_word (codes "pure") ∷ []

abbrev pub range_pieces : {E : Type 0} → (E → Shown) → Option E → List Piece
range_pieces show None = []
range_pieces show (Some e) = spaced (a_word (codes "in")) ++ (show e).pieces

abbrev pub index_pieces : {E : Type 0} → (E → Shown) → IndexOf E → List Piece
index_pieces show index = a_name index.name ∷ range_pieces show index.range

abbrev pub indices_pieces : {E : Type 0} → (E → Shown) → List (IndexOf E) → List Piece
indices_pieces show indices = commas (index_pieces show) indices

-- `for` and the iterators behind it
abbrev pub iterators_pieces : {E : Type 0} → (E → Shown) → List (IndexOf E) → List Piece
iterators_pieces show [] = []
iterators_pieces show (x ∷ xs) = spaced (a_word (codes "for")) ++ indices_pieces show (x ∷ xs)

-- an output that is left out leaves nothing between its commas
abbrev pub output_pieces : {E : Type 0} → (E → Shown) → Option E → List Piece
output_pieces show None = []
output_pieces show (Some e) = (show e).pieces

abbrev pub outputs_pieces : {E : Type 0} → (E → Shown) → List (Option E) → List Piece
outputs_pieces show outputs = commas (output_pieces show) outputs

abbrev pub named_pieces : {A : Type 0} → (A → List Piece) → List ℕ × A → List Piece
named_pieces show named = a_name named.0 ∷ spaced (a_mark (codes "=")) ++ show named.1

-- plain arguments, and named ones behind them
abbrev pub given_pieces : {A : Type 0} → (A → List Piece) → List A → List (List ℕ × A) → List Piece
given_pieces show plain named = commas (λ x. x) (map show plain ++ map (named_pieces show) named)

-- ---- operators

abbrev pub sign_mark : Bool → Bool → List ℕ
sign_mark minus dotted = if minus then (if dotted then codes ".-" else codes "-") else (if dotted then codes ".+" else codes "+")

-- what stands before a term; a first term has a sign only where it is subtracted
abbrev pub sign_before : Bool → Bool → Bool → List Piece
sign_before first minus dotted = if first then (if minus then a_mark (sign_mark true dotted) ∷ [] else []) else spaced (a_mark (sign_mark minus dotted))

abbrev pub term_pieces : {E : Type 0} → (E → Shown) → Bool → TermOf E → List Piece
term_pieces show first term = sign_before first term.minus term.dotted ++ operand 7 (show term.value)

abbrev pub terms_pieces : {E : Type 0} → (E → Shown) → List (TermOf E) → List Piece
terms_pieces show terms = in_row (term_pieces show) terms

abbrev pub times_mark : Bool → Bool → List ℕ
times_mark divide dotted = if dotted then (if divide then codes "./" else codes ".*") else (if divide then codes "/" else codes "*")

-- what stands before a factor; nothing stands before the first
abbrev pub times_before : Bool → Bool → Bool → List Piece
times_before first divide dotted = if first then [] else (if dotted then spaced (a_mark (times_mark divide dotted)) else a_mark (times_mark divide dotted) ∷ [])

abbrev pub factor_pieces : {E : Type 0} → (E → Shown) → Bool → FactorOf E → List Piece
factor_pieces show first factor = times_before first factor.divide factor.dotted ++ operand 8 (show factor.value)

abbrev pub factors_pieces : {E : Type 0} → (E → Shown) → List (FactorOf E) → List Piece
factors_pieces show factors = in_row (factor_pieces show) factors

abbrev pub power_mark : Bool → List Piece
power_mark dotted = if dotted then spaced (a_mark (codes ".^")) else a_mark (codes "^") ∷ []

abbrev pub relation_mark : RelOp → List ℕ
relation_mark Less = codes "<"
relation_mark LessEqual = codes "<="
relation_mark Greater = codes ">"
relation_mark GreaterEqual = codes ">="
relation_mark Equal = codes "=="
relation_mark NotEqual = codes "<>"

-- operands of a chain with a word between
abbrev pub chain_pieces : {E : Type 0} → List ℕ → ℕ → (E → Shown) → List E → List Piece
chain_pieces word wanted show operands = joined_by (spaced (a_word word)) (λ e. operand wanted (show e)) operands

-- the step of a range, with the mark behind it
abbrev pub step_pieces : {E : Type 0} → (E → Shown) → Option E → List Piece
step_pieces show None = []
step_pieces show (Some e) = operand 2 (show e) ++ a_mark (codes ":") ∷ []

abbrev pub branch_word : Bool → List Piece
branch_word first = if first then a_word (codes "if") ∷ a_blank ∷ [] else spaced (a_word (codes "elseif"))

abbrev pub branch_pieces : {E : Type 0} → (E → Shown) → Bool → BranchOf E → List Piece
branch_pieces show first branch = branch_word first ++ (show branch.condition).pieces ++ spaced (a_word (codes "then")) ++ (show branch.value).pieces

abbrev pub row_pieces : {E : Type 0} → (E → Shown) → List E → List Piece
row_pieces show row = commas (λ e. (show e).pieces) row

-- ---- each form, over its parts

abbrev pub itself : Shown → Shown
itself e = e

-- By the production that spells it. A negative whole number has the sign of a sum.
abbrev pub node_level : {A N R E : Type 0} → Node-F A N R E → ℕ
node_level (Node-F.Whole n) = if int_lt n (pos 0) then 6 else 9
node_level (Node-F.If branches last) = 0
node_level (Node-F.Range first step last) = 1
node_level (Node-F.Any operands) = 2
node_level (Node-F.All operands) = 3
node_level (Node-F.Not e) = 4
node_level (Node-F.Relation op left right) = 5
node_level (Node-F.Sum terms) = 6
node_level (Node-F.Product factors) = 7
node_level (Node-F.Power base dotted exponent) = 8
node_level _ = 9

abbrev pub node_pieces : Node-F (List Piece) Shown (List Piece) Shown → List Piece
node_pieces (Node-F.Whole n) = a_whole (signed_decimal n) ∷ []
node_pieces (Node-F.Decimal text) = a_decimal text ∷ []
node_pieces (Node-F.Str text) = a_string text ∷ []
node_pieces (Node-F.Truth truth) = a_word (if truth then codes "true" else codes "false") ∷ []
node_pieces (Node-F.Ref r) = reference_pieces itself r
node_pieces (Node-F.Sum terms) = terms_pieces itself terms
node_pieces (Node-F.Product factors) = factors_pieces itself factors
node_pieces (Node-F.Power base dotted exponent) = operand 9 base ++ power_mark dotted ++ operand 9 exponent
node_pieces (Node-F.Relation op left right) = operand 6 left ++ spaced (a_mark (relation_mark op)) ++ operand 6 right
node_pieces (Node-F.Not e) = a_word (codes "not") ∷ a_blank ∷ operand 5 e
node_pieces (Node-F.All operands) = chain_pieces (codes "and") 4 itself operands
node_pieces (Node-F.Any operands) = chain_pieces (codes "or") 3 itself operands
node_pieces (Node-F.Range first step last) = operand 2 first ++ a_mark (codes ":") ∷ step_pieces itself step ++ operand 2 last
node_pieces (Node-F.If branches last) = in_row (branch_pieces itself) branches ++ spaced (a_word (codes "else")) ++ last.pieces
node_pieces (Node-F.Call callee args) = callee_pieces itself callee ++ args
node_pieces (Node-F.Tuple outputs) = in_parentheses (outputs_pieces itself outputs)
node_pieces (Node-F.Array elements) = in_braces (row_pieces itself elements)
node_pieces (Node-F.ArrayFor e iterators) = in_braces (e.pieces ++ iterators_pieces itself iterators)
node_pieces (Node-F.Matrix rows) = in_brackets (joined_by a_semicolon (row_pieces itself) rows)
node_pieces Node-F.EndMark = a_word (codes "end") ∷ []

abbrev pub show_node : Node-F (List Piece) Shown (List Piece) Shown → Shown
show_node node = record { level = node_level node; pieces = node_pieces node }

abbrev pub show_args : Args-F (List Piece) Shown (List Piece) Shown → List Piece
show_args args = in_parentheses (given_pieces (λ arg. arg) args.plain args.named ++ iterators_pieces itself args.iters)

abbrev pub show_arg : Arg-F (List Piece) Shown (List Piece) Shown → List Piece
show_arg (Arg-F.Value e) = e.pieces
show_arg (Arg-F.Partial function named) =
    a_word (codes "function") ∷ a_blank ∷ reference_pieces itself function ++ in_parentheses (commas (named_pieces (λ arg. arg)) named)

abbrev pub show_expr : Expr-F (List Piece) Shown (List Piece) Shown → Shown
show_expr e = e.node

-- ---- trees in pieces

abbrev pub shown_expr : Expr → Shown
shown_expr = fold-Expr (List Piece) Shown (List Piece) Shown show_arg show_node show_args show_expr

abbrev pub shown_node : Node → Shown
shown_node = fold-Node (List Piece) Shown (List Piece) Shown show_arg show_node show_args show_expr

abbrev pub pieces_of_node : Node → List Piece
pieces_of_node node = (shown_node node).pieces

abbrev pub pieces_of_arg : Arg → List Piece
pieces_of_arg = fold-Arg (List Piece) Shown (List Piece) Shown show_arg show_node show_args show_expr

-- the arguments of a call, in their parentheses
abbrev pub pieces_of_args : Args → List Piece
pieces_of_args = fold-Args (List Piece) Shown (List Piece) Shown show_arg show_node show_args show_expr

abbrev pub pieces_of_expr : Expr → List Piece
pieces_of_expr e = (shown_expr e).pieces

-- an expression where an if-expression stands in parentheses
abbrev pub pieces_of_simple : Expr → List Piece
pieces_of_simple e = operand 1 (shown_expr e)

abbrev pub pieces_of_reference : ReferenceOf Expr → List Piece
pieces_of_reference = reference_pieces shown_expr

-- the subscripts in their brackets, nothing where there are none
abbrev pub pieces_of_subscripts : List (Option Expr) → List Piece
pieces_of_subscripts = subscripts_pieces shown_expr

abbrev pub pieces_of_indices : List (IndexOf Expr) → List Piece
pieces_of_indices = indices_pieces shown_expr

-- outputs, without the parentheses around them
abbrev pub pieces_of_outputs : List (Option Expr) → List Piece
pieces_of_outputs = outputs_pieces shown_expr
