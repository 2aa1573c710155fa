-- What each form of an expression is in pieces.
use Rattle.std.proofs.lemmas.List.{length-map}
use Rattle.std.proofs.Common.{length, eqb, append_assoc, Result, OnOk, Ok, Err, ◌≡◌, ℤ, Bool, List, [], ◌∷◌, ◌++◌, map, Option, Some, None, refl, ap, sym, ◌∙◌, codes}
use Rattle.mo_syntax.specs.declared.text.Text.{Text}
use Rattle.mo_syntax.specs.declared.expr.Arg.TheShapes as shapes
use Rattle.mo_syntax.specs.declared.expr.TermOf.{TermOf}
use Rattle.mo_syntax.specs.declared.expr.FactorOf.{FactorOf}
use Rattle.mo_syntax.specs.declared.expr.BranchOf.{BranchOf}
use Rattle.mo_syntax.specs.declared.expr.IndexOf.{IndexOf}
use Rattle.mo_syntax.specs.declared.expr.PartOf.{PartOf}
use Rattle.mo_syntax.specs.declared.expr.ReferenceOf.{ReferenceOf}
use Rattle.mo_syntax.specs.declared.expr.CalleeOf.{CalleeOf}
use Rattle.mo_syntax.specs.declared.expr.CalleeOf.TheVariants.{Named, Der, Initial, Pure}
use Rattle.mo_syntax.specs.declared.expr.RelOp.{RelOp}
use Rattle.mo_syntax.specs.declared.expr.Expr.{Expr}
use Rattle.mo_syntax.specs.declared.expr.Args.{Args, out-Args, fold_out-Args}
use Rattle.mo_syntax.specs.declared.expr.Arg.{Arg, Arg-F, fold_out-Arg, map-Arg, out-Arg}
use Rattle.mo_syntax.specs.declared.expr.Arg.TheVariants.{Value, Partial, outs-Value, outs-Partial}
use Rattle.mo_syntax.specs.declared.expr.Node.{Node, Node-F, fold_out-Node, map-Node, out-Node}
use Rattle.mo_syntax.specs.declared.expr.Node.TheVariants.{Whole, Decimal, Str, Truth, Ref, Sum, Product, Power, Relation, Not, All, Any, Range, If, Call, Tuple, Array, ArrayFor, Matrix, EndMark, outs-Whole, outs-Decimal, outs-Str, outs-Truth, outs-Ref, outs-Sum, outs-Product, outs-Power, outs-Relation, outs-Not, outs-All, outs-Any, outs-Range, outs-If, outs-Call, outs-Tuple, outs-Array, outs-ArrayFor, outs-Matrix, outs-EndMark}
use Rattle.mo_pieces.specs.Pieces.{Piece, a_name, a_mark, a_word, a_blank, a_whole, a_decimal, a_string}
use Rattle.std.specs.Prelude.{if◌then◌else◌}
use Rattle.std.specs.Fmt.{signed_decimal}
use Rattle.mo_pieces.specs.ShownExpressions.{Shown, itself, show_arg, show_node, node_level, node_pieces, show_args, show_expr, shown_expr, shown_node, pieces_of_node, pieces_of_arg, pieces_of_args, pieces_of_expr, pieces_of_reference, pieces_of_outputs, callee_pieces, terms_pieces, factors_pieces, chain_pieces, operand, term_pieces, factor_pieces, step_pieces, branch_pieces, output_pieces, row_pieces, iterators_pieces, given_pieces, named_pieces, in_parentheses, in_braces, in_brackets, in_row, joined_by, a_comma, a_semicolon, spaced, commas, subscript_pieces, part_pieces, subscripts_pieces, index_pieces, power_mark, relation_mark, top_pieces}
use Rattle.mo_unparse.proofs.Rows.{in_row_map, map_same, commas_append}

-- ---- lists of parts that became pieces

pub joined_map : {A B : Type 0} (mark : List Piece) (f : B → List Piece) (g : A → List Piece) (h : A → B) → ((a : A) → f (h a) ≡ g a) → (xs : List A) → joined_by mark f (map h xs) ≡ joined_by mark g xs
joined_map mark f g h same xs = in_row_map (λ first x. (if first then [] else mark) ++ f x) (λ first x. (if first then [] else mark) ++ g x) h (λ first a. ap (λ t. (if first then [] else mark) ++ t) (same a)) xs

output_same : (o : Option Expr) → output_pieces itself (shapes.former-Node-Tuple-0-at-1.map Expr Shown shown_expr o) ≡ output_pieces shown_expr o
output_same None = refl
output_same (Some e) = refl

subscript_same : (o : Option Expr) → subscript_pieces itself (shapes.former-Node-Tuple-0-at-1.map Expr Shown shown_expr o) ≡ subscript_pieces shown_expr o
subscript_same None = refl
subscript_same (Some e) = refl

subscripts_same : (xs : List (Option Expr)) → subscripts_pieces itself (map (shapes.former-Node-Tuple-0-at-1.map Expr Shown shown_expr) xs) ≡ subscripts_pieces shown_expr xs
subscripts_same [] = refl
subscripts_same (x ∷ xs) = ap in_brackets (joined_map a_comma (subscript_pieces itself) (subscript_pieces shown_expr) (shapes.former-Node-Tuple-0-at-1.map Expr Shown shown_expr) subscript_same (x ∷ xs))

part_same : (p : PartOf Expr) → part_pieces itself (shapes.former-Node-Call-0-at-6.map Expr Shown shown_expr p) ≡ part_pieces shown_expr p
part_same p = ap (λ t. a_name p.name ∷ t) (subscripts_same p.subs)

index_at : (name : Text) (range : Option Expr) → index_pieces itself (shapes.former-Node-ArrayFor-1-at-3.map Expr Shown shown_expr (record { name = name; range = range })) ≡ index_pieces shown_expr (record { name = name; range = range })
index_at name None = refl
index_at name (Some e) = refl

index_same : (i : IndexOf Expr) → index_pieces itself (shapes.former-Node-ArrayFor-1-at-3.map Expr Shown shown_expr i) ≡ index_pieces shown_expr i
index_same i = index_at i.name i.range

iterators_same : (xs : List (IndexOf Expr)) → iterators_pieces itself (map (shapes.former-Node-ArrayFor-1-at-3.map Expr Shown shown_expr) xs) ≡ iterators_pieces shown_expr xs
iterators_same [] = refl
iterators_same (x ∷ xs) = ap (λ t. spaced (a_word (codes "for")) ++ t) (joined_map a_comma (index_pieces itself) (index_pieces shown_expr) (shapes.former-Node-ArrayFor-1-at-3.map Expr Shown shown_expr) index_same (x ∷ xs))

row_same : (es : List Expr) → row_pieces itself (map shown_expr es) ≡ row_pieces shown_expr es
row_same es = joined_map a_comma (λ e. e.pieces) pieces_of_expr shown_expr (λ e. refl) es

named_same : (named : List (Text × Arg)) → commas (named_pieces (λ arg. arg)) (map (λ n. (n.0, pieces_of_arg n.1)) named) ≡ commas (named_pieces pieces_of_arg) named
named_same named = joined_map a_comma (named_pieces (λ arg. arg)) (named_pieces pieces_of_arg) (λ n. (n.0, pieces_of_arg n.1)) (λ n. refl) named

-- ---- each form

abbrev layer_shown : Node-F Arg Node Args Expr → Node-F (List Piece) Shown (List Piece) Shown
layer_shown = map-Node Arg Node Args Expr (List Piece) Shown (List Piece) Shown pieces_of_arg shown_node pieces_of_args shown_expr

-- a node is shown as its form is, over its parts in pieces
pub shown_at : (n : Node) (layer : Node-F Arg Node Args Expr) → out-Node n ≡ layer → shown_node n ≡ show_node (layer_shown layer)
shown_at n layer h = fold_out-Node (List Piece) Shown (List Piece) Shown show_arg show_node show_args show_expr n ∙ ap (λ m. show_node (layer_shown m)) h

pub level_at : (n : Node) (layer : Node-F Arg Node Args Expr) → out-Node n ≡ layer → (shown_node n).level ≡ node_level (layer_shown layer)
level_at n layer h = ap (λ e. e.level) (shown_at n layer h)

pieces_at : (n : Node) (layer : Node-F Arg Node Args Expr) → out-Node n ≡ layer → pieces_of_node n ≡ node_pieces (layer_shown layer)
pieces_at n layer h = ap (λ e. e.pieces) (shown_at n layer h)

pub at_Whole : (n : ℤ) → pieces_of_node (Whole n) ≡ a_whole (signed_decimal n) ∷ []
at_Whole n = pieces_at (Whole n) _ (outs-Whole n)

pub at_Decimal : (text : Text) → pieces_of_node (Decimal text) ≡ a_decimal text ∷ []
at_Decimal text = pieces_at (Decimal text) _ (outs-Decimal text)

pub at_Str : (text : Text) → pieces_of_node (Str text) ≡ a_string text ∷ []
at_Str text = pieces_at (Str text) _ (outs-Str text)

pub at_Truth : (truth : Bool) → pieces_of_node (Truth truth) ≡ a_word (if truth then codes "true" else codes "false") ∷ []
at_Truth truth = pieces_at (Truth truth) _ (outs-Truth truth)

pub at_EndMark : pieces_of_node EndMark ≡ a_word (codes "end") ∷ []
at_EndMark = pieces_at EndMark _ (outs-EndMark)

pub at_Ref : (r : ReferenceOf Expr) → pieces_of_node (Ref r) ≡ pieces_of_reference r
at_Ref r = pieces_at (Ref r) _ (outs-Ref r) ∙ (ap (λ t. top_pieces r.top ++ t) (joined_map (a_mark (codes ".") ∷ []) (part_pieces itself) (part_pieces shown_expr) (shapes.former-Node-Call-0-at-6.map Expr Shown shown_expr) part_same r.parts))

pub at_Sum : (terms : List (TermOf Expr)) → pieces_of_node (Sum terms) ≡ terms_pieces shown_expr terms
at_Sum terms = pieces_at (Sum terms) _ (outs-Sum terms) ∙ (in_row_map {B = TermOf Shown} (term_pieces itself) (term_pieces shown_expr) _ (λ first t. refl) terms)

pub at_Product : (factors : List (FactorOf Expr)) → pieces_of_node (Product factors) ≡ factors_pieces shown_expr factors
at_Product factors = pieces_at (Product factors) _ (outs-Product factors) ∙ (in_row_map {B = FactorOf Shown} (factor_pieces itself) (factor_pieces shown_expr) _ (λ first t. refl) factors)

pub at_Power : (a : Expr) (dotted : Bool) (b : Expr) → pieces_of_node (Power a dotted b) ≡ operand 9 (shown_expr a) ++ power_mark dotted ++ operand 9 (shown_expr b)
at_Power a dotted b = pieces_at (Power a dotted b) _ (outs-Power a dotted b)

pub at_Relation : (op : RelOp) (a b : Expr) → pieces_of_node (Relation op a b) ≡ operand 6 (shown_expr a) ++ spaced (a_mark (relation_mark op)) ++ operand 6 (shown_expr b)
at_Relation op a b = pieces_at (Relation op a b) _ (outs-Relation op a b)

pub at_Not : (a : Expr) → pieces_of_node (Not a) ≡ a_word (codes "not") ∷ a_blank ∷ operand 5 (shown_expr a)
at_Not a = pieces_at (Not a) _ (outs-Not a)

pub at_All : (es : List Expr) → pieces_of_node (All es) ≡ chain_pieces (codes "and") 4 shown_expr es
at_All es = pieces_at (All es) _ (outs-All es) ∙ joined_map (spaced (a_word (codes "and"))) (operand 4) (λ e. operand 4 (shown_expr e)) shown_expr (λ e. refl) es

pub at_Any : (es : List Expr) → pieces_of_node (Any es) ≡ chain_pieces (codes "or") 3 shown_expr es
at_Any es = pieces_at (Any es) _ (outs-Any es) ∙ joined_map (spaced (a_word (codes "or"))) (operand 3) (λ e. operand 3 (shown_expr e)) shown_expr (λ e. refl) es

pub at_Range : (a : Expr) (step : Option Expr) (b : Expr) → pieces_of_node (Range a step b) ≡ operand 2 (shown_expr a) ++ a_mark (codes ":") ∷ step_pieces shown_expr step ++ operand 2 (shown_expr b)
at_Range a None b = pieces_at (Range a None b) _ (outs-Range a None b)
at_Range a (Some c) b = pieces_at (Range a (Some c) b) _ (outs-Range a (Some c) b)

pub at_If : (bs : List (BranchOf Expr)) (e : Expr) → pieces_of_node (If bs e) ≡ in_row (branch_pieces shown_expr) bs ++ spaced (a_word (codes "else")) ++ pieces_of_expr e
at_If bs e = pieces_at (If bs e) _ (outs-If bs e) ∙ (ap (λ t. t ++ spaced (a_word (codes "else")) ++ pieces_of_expr e) (in_row_map {B = BranchOf Shown} (branch_pieces itself) (branch_pieces shown_expr) _ (λ first b. refl) bs))

pub at_Call : (callee : CalleeOf Expr) (args : Args) → pieces_of_node (Call callee args) ≡ callee_pieces shown_expr callee ++ pieces_of_args args
at_Call (Named r) args = pieces_at (Call (Named r) args) _ (outs-Call (Named r) args) ∙ (ap (λ t. (top_pieces r.top ++ t) ++ pieces_of_args args) (joined_map (a_mark (codes ".") ∷ []) (part_pieces itself) (part_pieces shown_expr) (shapes.former-Node-Call-0-at-6.map Expr Shown shown_expr) part_same r.parts))
at_Call Der args = pieces_at (Call Der args) _ (outs-Call Der args)
at_Call Initial args = pieces_at (Call Initial args) _ (outs-Call Initial args)
at_Call Pure args = pieces_at (Call Pure args) _ (outs-Call Pure args)

pub at_Tuple : (es : List (Option Expr)) → pieces_of_node (Tuple es) ≡ in_parentheses (pieces_of_outputs es)
at_Tuple es = pieces_at (Tuple es) _ (outs-Tuple es) ∙ (ap in_parentheses (joined_map a_comma (output_pieces itself) (output_pieces shown_expr) (shapes.former-Node-Tuple-0-at-1.map Expr Shown shown_expr) output_same es))

pub at_Array : (es : List Expr) → pieces_of_node (Array es) ≡ in_braces (row_pieces shown_expr es)
at_Array es = pieces_at (Array es) _ (outs-Array es) ∙ ap in_braces (row_same es)

pub at_ArrayFor : (e : Expr) (is : List (IndexOf Expr)) → pieces_of_node (ArrayFor e is) ≡ in_braces (pieces_of_expr e ++ iterators_pieces shown_expr is)
at_ArrayFor e is = pieces_at (ArrayFor e is) _ (outs-ArrayFor e is) ∙ (ap (λ t. in_braces (pieces_of_expr e ++ t)) (iterators_same is))

pub at_Matrix : (rows : List (List Expr)) → pieces_of_node (Matrix rows) ≡ in_brackets (joined_by a_semicolon (row_pieces shown_expr) rows)
at_Matrix rows = pieces_at (Matrix rows) _ (outs-Matrix rows) ∙ ap in_brackets (joined_map a_semicolon (row_pieces itself) (row_pieces shown_expr) (map shown_expr) row_same rows)

abbrev argument_shown : Arg-F Arg Node Args Expr → Arg-F (List Piece) Shown (List Piece) Shown
argument_shown = map-Arg Arg Node Args Expr (List Piece) Shown (List Piece) Shown pieces_of_arg shown_node pieces_of_args shown_expr

arg_at : (a : Arg) (layer : Arg-F Arg Node Args Expr) → out-Arg a ≡ layer → pieces_of_arg a ≡ show_arg (argument_shown layer)
arg_at a layer h = fold_out-Arg (List Piece) Shown (List Piece) Shown show_arg show_node show_args show_expr a ∙ ap (λ m. show_arg (argument_shown m)) h

pub at_Value : (e : Expr) → pieces_of_arg (Value e) ≡ pieces_of_expr e
at_Value e = arg_at (Value e) _ (outs-Value e)

two : (a b c d : List Piece) → a ≡ b → c ≡ d → a ++ c ≡ b ++ d
two a b c d p q = cc

pub at_Partial : (function : ReferenceOf Expr) (named : List (Text × Arg)) → pieces_of_arg (Partial function named) ≡ a_word (codes "function") ∷ a_blank ∷ pieces_of_reference function ++ in_parentheses (commas (named_pieces pieces_of_arg) named)
at_Partial function named =
    arg_at (Partial function named) _ (outs-Partial function named) ∙
    (ap (λ t. a_word (codes "function") ∷ a_blank ∷ t) (two _ _ _ _ (ap (λ t. top_pieces function.top ++ t) (joined_map (a_mark (codes ".") ∷ []) (part_pieces itself) (part_pieces shown_expr) (shapes.former-Node-Call-0-at-6.map Expr Shown shown_expr) part_same function.parts)) (ap in_parentheses (named_same named))))

given_same : (plain : List Arg) (named : List (Text × Arg)) → given_pieces (λ a. a) (map pieces_of_arg plain) (map (λ n. (n.0, pieces_of_arg n.1)) named) ≡ given_pieces pieces_of_arg plain named
given_same plain named =
    let one : map (λ a. a) (map pieces_of_arg plain) ≡ map pieces_of_arg plain = map_same (λ a. a) pieces_of_arg pieces_of_arg (λ a. refl) plain in
    let other : map (named_pieces (λ a. a)) (map (λ n. (n.0, pieces_of_arg n.1)) named) ≡ map (named_pieces pieces_of_arg) named =
    map_same (named_pieces (λ a. a)) (named_pieces pieces_of_arg) (λ n. (n.0, pieces_of_arg n.1)) (λ n. refl) named in
    ap (commas (λ x. x)) (appended _ _ _ _ one other)
  where
    appended : (a b c d : List (List Piece)) → a ≡ b → c ≡ d → a ++ c ≡ b ++ d
    appended a b c d p q = cc

pub at_Args : (args : Args) → pieces_of_args args ≡ in_parentheses (given_pieces pieces_of_arg (out-Args args).plain (out-Args args).named ++ iterators_pieces shown_expr (out-Args args).iters)
at_Args args = fold_out-Args (List Piece) Shown (List Piece) Shown show_arg show_node show_args show_expr args ∙ ap in_parentheses (two _ _ _ _ (given_same (out-Args args).plain (out-Args args).named) (iterators_same (out-Args args).iters))

pub ruleset forms = (at_Ref, at_Sum, at_Product, at_All, at_Any, at_Range, at_If, at_Call, at_Tuple, at_Array, at_ArrayFor, at_Matrix, at_Partial, at_Args)

-- plain arguments, a comma where both are there, and named ones
given_split : (plain : List Arg) (named : List (Text × Arg)) (p q : Bool) → p ≡ eqb (length plain) 0 → q ≡ eqb (length named) 0 →
    given_pieces pieces_of_arg plain named ≡ commas pieces_of_arg plain ++ (if p then [] else (if q then [] else a_comma)) ++ commas (named_pieces pieces_of_arg) named
given_split plain named p q e d =
    let one = joined_map a_comma (λ x. x) pieces_of_arg pieces_of_arg (λ a. refl) plain in
    let other = joined_map a_comma (λ x. x) (named_pieces pieces_of_arg) (named_pieces pieces_of_arg) (λ a. refl) named in
    commas_append (λ x. x) (map pieces_of_arg plain) (map (named_pieces pieces_of_arg) named) p q (e ∙ ap (λ n. eqb n 0) (sym (length-map plain pieces_of_arg))) (d ∙ ap (λ n. eqb n 0) (sym (length-map named (named_pieces pieces_of_arg))))
    ∙ ap (λ t. t ++ (if p then [] else (if q then [] else a_comma)) ++ commas (λ x. x) (map (named_pieces pieces_of_arg) named)) one ∙ ap (λ t. commas pieces_of_arg plain ++ (if p then [] else (if q then [] else a_comma)) ++ t) other

in_order : (before a b c d e f g0 g1 g2 g3 g4 after : List Piece) → g0 ≡ before ++ a → g1 ≡ g0 ++ b → g2 ≡ g1 ++ c → g3 ≡ g2 ++ d → g4 ≡ g3 ++ e → after ≡ g4 ++ f → after ≡ before ++ (a ++ (((b ++ c) ++ d) ++ e) ++ f)
in_order before a b c d e f g0 g1 g2 g3 g4 after h0 h1 h2 h3 h4 h5 =
    h5 ∙ ap (λ t. t ++ f) (h4 ∙ ap (λ t. t ++ e) (h3 ∙ ap (λ t. t ++ d) (h2 ∙ ap (λ t. t ++ c) (h1 ∙ ap (λ t. t ++ b) h0)))) ∙ simp append_assoc

-- the arguments of a call by the steps that write them
pub args_written : {E : Type 0} (r : Result (Unit {0}) E) (args : Args) (p q : Bool) (before g0 g1 g2 g3 g4 after : List Piece) → p ≡ eqb (length (out-Args args).plain) 0 → q ≡ eqb (length (out-Args args).named) 0 →
    g0 ≡ before ++ a_mark (codes "(") ∷ [] → g1 ≡ g0 ++ commas pieces_of_arg (out-Args args).plain → g2 ≡ g1 ++ (if p then [] else (if q then [] else a_comma)) →
    g3 ≡ g2 ++ commas (named_pieces pieces_of_arg) (out-Args args).named → g4 ≡ g3 ++ iterators_pieces shown_expr (out-Args args).iters →
    OnOk r (after ≡ g4 ++ a_mark (codes ")") ∷ []) → OnOk r (after ≡ before ++ pieces_of_args args)
args_written (Ok u) args p q before g0 g1 g2 g3 g4 after e d h0 h1 h2 h3 h4 h5 =
    in_order before (a_mark (codes "(") ∷ []) _ _ _ _ (a_mark (codes ")") ∷ []) g0 g1 g2 g3 g4 after h0 h1 h2 h3 h4 h5
    ∙ ap (λ t. before ++ in_parentheses (t ++ iterators_pieces shown_expr (out-Args args).iters)) (sym (given_split (out-Args args).plain (out-Args args).named p q e d)) ∙ ap (λ t. before ++ t) (sym (at_Args args))
args_written (Err u) args p q before g0 g1 g2 g3 g4 after e d h0 h1 h2 h3 h4 h5 = tt

-- a function with named arguments by the steps that write it
pub partial_written : {E : Type 0} (r : Result (Unit {0}) E) (arg : Arg) (function : ReferenceOf Expr) (named : List (Text × Arg)) (before g0 g1 g2 g3 g4 after : List Piece) → arg ≡ Partial function named →
    g0 ≡ before ++ a_word (codes "function") ∷ [] → g1 ≡ g0 ++ a_blank ∷ [] → g2 ≡ g1 ++ pieces_of_reference function → g3 ≡ g2 ++ a_mark (codes "(") ∷ [] →
    g4 ≡ g3 ++ commas (named_pieces pieces_of_arg) named → OnOk r (after ≡ g4 ++ a_mark (codes ")") ∷ []) → OnOk r (after ≡ before ++ pieces_of_arg arg)
partial_written (Ok u) arg function named before g0 g1 g2 g3 g4 after is h0 h1 h2 h3 h4 h5 =
    in_order before (a_word (codes "function") ∷ []) (a_blank ∷ []) _ _ _ _ g0 g1 g2 g3 g4 after h0 h1 h2 h3 h4 h5
    ∙ ap (λ t. before ++ t) (regrouped (a_word (codes "function") ∷ a_blank ∷ []) (pieces_of_reference function) (a_mark (codes "(") ∷ []) _ (a_mark (codes ")") ∷ []) ∙ sym (ap pieces_of_arg is ∙ at_Partial function named))
  where
    regrouped : (a b c d e : List Piece) → a ++ ((b ++ c) ++ d) ++ e ≡ (a ++ b) ++ (c ++ d ++ e)
    regrouped a b c d e = simp append_assoc
partial_written (Err u) arg function named before g0 g1 g2 g3 g4 after is h0 h1 h2 h3 h4 h5 = tt

-- an array over iterators by the steps that write it
pub array_for_written : {E : Type 0} (r : Result (Unit {0}) E) (node : Node) (e : Expr) (is : List (IndexOf Expr)) (before g0 g1 g2 after : List Piece) → node ≡ ArrayFor e is →
    g0 ≡ before ++ a_mark (codes "{") ∷ [] → g1 ≡ g0 ++ pieces_of_expr e → g2 ≡ g1 ++ iterators_pieces shown_expr is →
    OnOk r (after ≡ g2 ++ a_mark (codes "}") ∷ []) → OnOk r (after ≡ before ++ pieces_of_node node)
array_for_written (Ok u) node e is before g0 g1 g2 after same h0 h1 h2 h3 =
    h3 ∙ ap (λ t. t ++ a_mark (codes "}") ∷ []) (h2 ∙ ap (λ t. t ++ iterators_pieces shown_expr is) (h1 ∙ ap (λ t. t ++ pieces_of_expr e) h0))
    ∙ regrouped before (a_mark (codes "{") ∷ []) (pieces_of_expr e) (iterators_pieces shown_expr is) (a_mark (codes "}") ∷ []) ∙ ap (λ t. before ++ t) (sym (ap pieces_of_node same ∙ at_ArrayFor e is))
  where
    regrouped : (a b c d e : List Piece) → (((a ++ b) ++ c) ++ d) ++ e ≡ a ++ (b ++ (c ++ d) ++ e)
    regrouped a b c d e = simp append_assoc
array_for_written (Err u) node e is before g0 g1 g2 after same h0 h1 h2 h3 = tt
