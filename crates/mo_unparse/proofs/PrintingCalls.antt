-- A simple expression that is the call of a name: what it is in pieces, and that nothing stands before the name.
use Rattle.std.proofs.Common.{◌≡◌, ◌==◌, ◌||◌, ◌++◌, Bool, true, false, List, [], ◌∷◌, map, Some, refl, sym, ap, subst, ◌∙◌, codes}
use Rattle.mo_syntax.specs.declared.place.Place.{Place}
use Rattle.mo_syntax.specs.declared.expr.Args.{Args}
use Rattle.mo_syntax.specs.declared.expr.Arg.{Arg}
use Rattle.mo_syntax.specs.declared.expr.CalleeOf.{CalleeOf}
use Rattle.mo_syntax.specs.declared.expr.CalleeOf.TheVariants.{Named}
use Rattle.mo_syntax.specs.declared.expr.Expr.{Expr, fold_out-Expr}
use Rattle.mo_syntax.specs.declared.expr.Node.{Node, Node-F, out-Node, roll-Node, roll-out-Node}
use Rattle.mo_syntax.specs.declared.expr.Node.TheVariants.{Call, outs-Call}
use Rattle.mo_syntax.specs.declared.expr.ReferenceOf.{ReferenceOf}
use Rattle.mo_syntax.specs.declared.expr.PartOf.{PartOf}
use Rattle.mo_syntax.specs.declared.token.TokenKind.TheVariants.{Ident}
use Rattle.mo_grammar.specs.Codes.{ident, dot}
use Rattle.mo_grammar.specs.Lexeme.{Lexeme, code_of}
use Rattle.mo_grammar.specs.ClassTrees.{name_called, name_called_by}
use Rattle.mo_grammar.specs.Trees.{expr_at}
use Rattle.mo_pieces.specs.Pieces.{Piece, a_mark, nowhere, tokens_of}
use Rattle.mo_unparse.specs.Placeless.{placeless_expr, placeless_args, placeless_part, placeless_reference}
use Rattle.mo_pieces.specs.ShownExpressions.{Shown, operand, show_arg, show_node, show_args, show_expr, shown_expr, shown_node, pieces_of_args, pieces_of_reference, pieces_of_simple, joined_by, part_pieces, top_pieces}
use Rattle.mo_unparse.proofs.NamedCalls.{Filled}
use Rattle.mo_unparse.proofs.WordPieces.{dot_is}
use Rattle.mo_unparse.proofs.ExpressionForms as forms
use Rattle.mo_unparse.proofs.PlacelessForms as placeless_forms

-- ---- the call that an expression is

call_node : (n : Node) (callee : CalleeOf Expr) (args : Args) → out-Node n ≡ Node-F.Call callee args → n ≡ Call callee args
call_node n callee args e = sym (roll-out-Node n) ∙ ap roll-Node (e ∙ sym (outs-Call callee args)) ∙ roll-out-Node (Call callee args)

named_layer : (layer : Node-F Arg Node Args Expr) (r : ReferenceOf Expr) (args : Args) → name_called_by layer ≡ Some (r, args) → layer ≡ Node-F.Call (Named r) args
named_layer (Node-F.Call (Named q) more) r args e =
    let same : (let pair : ReferenceOf Expr × Args = (q, more) in pair) ≡ (r, args) = cc in
    ap (λ x. Node-F.Call (Named x.0) x.1) same
named_layer _ r args e = cc

pub called_is : (a : Expr) (r : ReferenceOf Expr) (args : Args) → name_called a ≡ Some (r, args) → a ≡ expr_at a.place (Call (Named r) args)
unfolding name_called
called_is a r args e = ap (expr_at a.place) (call_node a.node (Named r) args (named_layer (out-Node a.node) r args e))

pub called_placeless : (place : Place) (r : ReferenceOf Expr) (args : Args) → name_called (placeless_expr (expr_at place (Call (Named r) args))) ≡ Some (placeless_reference r, placeless_args args)
unfolding name_called
called_placeless place r args =
    ap name_called (placeless_forms.at_node place (Call (Named r) args) (placeless_forms.at_Call (Named r) args)) ∙ ap name_called_by (outs-Call (Named (placeless_reference r)) (placeless_args args))

shown_at_node : (a : Expr) → shown_expr a ≡ shown_node a.node
shown_at_node a = rw (fold_out-Expr (List Piece) Shown (List Piece) Shown show_arg show_node show_args show_expr a)

pub pieces_of_call : (place : Place) (r : ReferenceOf Expr) (args : Args) → pieces_of_simple (expr_at place (Call (Named r) args)) ≡ pieces_of_reference r ++ pieces_of_args args
pieces_of_call place r args =
    let n = Call (Named r) args in
    let shown = forms.shown_at n (Node-F.Call (Named r) args) (outs-Call (Named r) args) in
    ap (operand 1) (shown_at_node (expr_at place n)) ∙ ap (operand 1) shown ∙ sym (ap (λ s. s.pieces) shown) ∙ forms.at_Call (Named r) args

-- ---- its first token

-- what a reference of one identifier or more begins with
pub reference_leads : (r : ReferenceOf Expr) → Filled r → (rest : List Piece) → (t : Lexeme) × (more : List Lexeme) × (tokens_of (pieces_of_reference r ++ rest) ≡ t ∷ more) × ((code_of t == ident || code_of t == dot) ≡ true)
reference_leads r (part, others, e) rest = go r.top r.parts e
  where
    go : (top : Bool) (parts : List (PartOf Expr)) → parts ≡ part ∷ others → (t : Lexeme) × (more : List Lexeme) × (tokens_of ((top_pieces top ++ joined_by (a_mark (codes ".") ∷ []) (part_pieces shown_expr) parts) ++ rest) ≡ t ∷ more) × ((code_of t == ident || code_of t == dot) ≡ true)
    go true parts e =
        let behind = tokens_of (joined_by (a_mark (codes ".") ∷ []) (part_pieces shown_expr) parts ++ rest) in
        (dot_is.token, behind, ap (λ v. v ++ behind) dot_is.is, ap (λ c. c == ident || c == dot) dot_is.is_code)
    go false parts e =
        let lead : (t : Lexeme) × (more : List Lexeme) × (tokens_of (joined_by (a_mark (codes ".") ∷ []) (part_pieces shown_expr) (part ∷ others) ++ rest) ≡ t ∷ more) × ((code_of t == ident || code_of t == dot) ≡ true) =
        (record { kind = Ident; text = part.name; place = nowhere }, _, refl, refl) in
        subst (λ ps. (t : Lexeme) × (more : List Lexeme) × (tokens_of (joined_by (a_mark (codes ".") ∷ []) (part_pieces shown_expr) ps ++ rest) ≡ t ∷ more) × ((code_of t == ident || code_of t == dot) ≡ true)) (sym e) lead

mapped_filled : {A B : Type 0} (f : A → B) (xs : List A) (y : B) (ys : List B) → map f xs ≡ y ∷ ys → (x : A) × (more : List A) × (xs ≡ x ∷ more)
mapped_filled f [] y ys e = cc
mapped_filled f (x ∷ xs) y ys e = (x, xs, refl)

-- a reference has identifiers where it has them without its places
pub filled_before : (r : ReferenceOf Expr) → Filled (placeless_reference r) → Filled r
filled_before r (part, more, e) = mapped_filled placeless_part r.parts part more e
