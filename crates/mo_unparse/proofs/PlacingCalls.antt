-- The call of a name stays the call of a name where the places are set to nowhere.
use Rattle.std.proofs.Common.{◌≡◌, Option, Some, None, refl, sym, ap, ◌∙◌}
use Rattle.std.specs.Option.{option_map}
use Rattle.std.specs.Prelude.{is_some}
use Rattle.mo_syntax.specs.declared.expr.Expr.{Expr}
use Rattle.mo_syntax.specs.declared.expr.Arg.{Arg}
use Rattle.mo_syntax.specs.declared.expr.Args.{Args}
use Rattle.mo_syntax.specs.declared.expr.ReferenceOf.{ReferenceOf}
use Rattle.mo_syntax.specs.declared.expr.CalleeOf.TheVariants.{Named, Der, Initial, Pure}
use Rattle.mo_syntax.specs.declared.expr.Node.{Node, Node-F, out-Node, roll-Node, roll-out-Node}
use Rattle.mo_syntax.specs.declared.expr.Node.TheVariants.{Whole, Decimal, Str, Truth, Ref, Sum, Product, Power, Relation, Not, All, Any, Range, If, Tuple, Array, ArrayFor, Matrix, EndMark, Call, outs-Whole, outs-Decimal, outs-Str, outs-Truth, outs-Ref, outs-Sum, outs-Product, outs-Power, outs-Relation, outs-Not, outs-All, outs-Any, outs-Range, outs-If, outs-Tuple, outs-Array, outs-ArrayFor, outs-Matrix, outs-EndMark, outs-Call, rolls-Whole, rolls-Decimal, rolls-Str, rolls-Truth, rolls-Ref, rolls-Sum, rolls-Product, rolls-Power, rolls-Relation, rolls-Not, rolls-All, rolls-Any, rolls-Range, rolls-If, rolls-Tuple, rolls-Array, rolls-ArrayFor, rolls-Matrix, rolls-EndMark, rolls-Call}
use Rattle.mo_grammar.specs.ClassTrees.{name_called, name_called_by}
use Rattle.mo_unparse.specs.Placeless.{placeless_expr, placeless_node, placeless_args, placeless_reference, placeless_callee}
use Rattle.mo_unparse.proofs.PlacelessForms.{at_place, at_Whole, at_Decimal, at_Str, at_Truth, at_Ref, at_Sum, at_Product, at_Power, at_Relation, at_Not, at_All, at_Any, at_Range, at_If, at_Tuple, at_Array, at_ArrayFor, at_Matrix, at_EndMark, at_Call}

-- a call without its places
abbrev pub placeless_call : ReferenceOf Expr × Args → ReferenceOf Expr × Args
placeless_call call = (placeless_reference call.0, placeless_args call.1)

rolled : (node : Node) (e : Node-F Arg Node Args Expr) (other : Node) → out-Node node ≡ e → roll-Node e ≡ other → node ≡ other
rolled node e other p q = sym (roll-out-Node node) ∙ ap roll-Node p ∙ q

seen : (node other target : Node) (e : Node-F Arg Node Args Expr) → node ≡ other → placeless_node other ≡ target → out-Node target ≡ e → name_called_by (out-Node (placeless_node node)) ≡ name_called_by e
seen node other target e p q r = ap (λ n. name_called_by (out-Node (placeless_node n))) p ∙ ap (λ n. name_called_by (out-Node n)) q ∙ ap name_called_by r

node_called : (node : Node) (e : Node-F Arg Node Args Expr) → out-Node node ≡ e → name_called_by (out-Node (placeless_node node)) ≡ option_map placeless_call (name_called_by e)
node_called node (Node-F.Whole i) p = seen node (Whole i) _ _ (rolled node (Node-F.Whole i) (Whole i) p (rolls-Whole i)) (at_Whole i) (outs-Whole _)
node_called node (Node-F.Decimal text) p = seen node (Decimal text) _ _ (rolled node (Node-F.Decimal text) (Decimal text) p (rolls-Decimal text)) (at_Decimal text) (outs-Decimal _)
node_called node (Node-F.Str text) p = seen node (Str text) _ _ (rolled node (Node-F.Str text) (Str text) p (rolls-Str text)) (at_Str text) (outs-Str _)
node_called node (Node-F.Truth b) p = seen node (Truth b) _ _ (rolled node (Node-F.Truth b) (Truth b) p (rolls-Truth b)) (at_Truth b) (outs-Truth _)
node_called node (Node-F.Ref r) p = seen node (Ref r) _ _ (rolled node (Node-F.Ref r) (Ref r) p (rolls-Ref r)) (at_Ref r) (outs-Ref _)
node_called node (Node-F.Sum terms) p = seen node (Sum terms) _ _ (rolled node (Node-F.Sum terms) (Sum terms) p (rolls-Sum terms)) (at_Sum terms) (outs-Sum _)
node_called node (Node-F.Product factors) p = seen node (Product factors) _ _ (rolled node (Node-F.Product factors) (Product factors) p (rolls-Product factors)) (at_Product factors) (outs-Product _)
node_called node (Node-F.Power base dotted exponent) p = seen node (Power base dotted exponent) _ _ (rolled node (Node-F.Power base dotted exponent) (Power base dotted exponent) p (rolls-Power base dotted exponent)) (at_Power base dotted exponent) (outs-Power _ _ _)
node_called node (Node-F.Relation op left right) p = seen node (Relation op left right) _ _ (rolled node (Node-F.Relation op left right) (Relation op left right) p (rolls-Relation op left right)) (at_Relation op left right) (outs-Relation _ _ _)
node_called node (Node-F.Not operand) p = seen node (Not operand) _ _ (rolled node (Node-F.Not operand) (Not operand) p (rolls-Not operand)) (at_Not operand) (outs-Not _)
node_called node (Node-F.All operands) p = seen node (All operands) _ _ (rolled node (Node-F.All operands) (All operands) p (rolls-All operands)) (at_All operands) (outs-All _)
node_called node (Node-F.Any operands) p = seen node (Any operands) _ _ (rolled node (Node-F.Any operands) (Any operands) p (rolls-Any operands)) (at_Any operands) (outs-Any _)
node_called node (Node-F.Range first step last) p = seen node (Range first step last) _ _ (rolled node (Node-F.Range first step last) (Range first step last) p (rolls-Range first step last)) (at_Range first step last) (outs-Range _ _ _)
node_called node (Node-F.If branches last) p = seen node (If branches last) _ _ (rolled node (Node-F.If branches last) (If branches last) p (rolls-If branches last)) (at_If branches last) (outs-If _ _)
node_called node (Node-F.Tuple outputs) p = seen node (Tuple outputs) _ _ (rolled node (Node-F.Tuple outputs) (Tuple outputs) p (rolls-Tuple outputs)) (at_Tuple outputs) (outs-Tuple _)
node_called node (Node-F.Array elements) p = seen node (Array elements) _ _ (rolled node (Node-F.Array elements) (Array elements) p (rolls-Array elements)) (at_Array elements) (outs-Array _)
node_called node (Node-F.ArrayFor element iterators) p = seen node (ArrayFor element iterators) _ _ (rolled node (Node-F.ArrayFor element iterators) (ArrayFor element iterators) p (rolls-ArrayFor element iterators)) (at_ArrayFor element iterators) (outs-ArrayFor _ _)
node_called node (Node-F.Matrix rows) p = seen node (Matrix rows) _ _ (rolled node (Node-F.Matrix rows) (Matrix rows) p (rolls-Matrix rows)) (at_Matrix rows) (outs-Matrix _)
node_called node Node-F.EndMark p = seen node EndMark _ _ (rolled node Node-F.EndMark EndMark p rolls-EndMark) at_EndMark outs-EndMark
node_called node (Node-F.Call (Named r) args) p = seen node (Call (Named r) args) _ _ (rolled node (Node-F.Call (Named r) args) (Call (Named r) args) p (rolls-Call (Named r) args)) (at_Call (Named r) args) (outs-Call (placeless_callee (Named r)) (placeless_args args))
node_called node (Node-F.Call Der args) p = seen node (Call Der args) _ _ (rolled node (Node-F.Call Der args) (Call Der args) p (rolls-Call Der args)) (at_Call Der args) (outs-Call (placeless_callee Der) (placeless_args args))
node_called node (Node-F.Call Initial args) p = seen node (Call Initial args) _ _ (rolled node (Node-F.Call Initial args) (Call Initial args) p (rolls-Call Initial args)) (at_Call Initial args) (outs-Call (placeless_callee Initial) (placeless_args args))
node_called node (Node-F.Call Pure args) p = seen node (Call Pure args) _ _ (rolled node (Node-F.Call Pure args) (Call Pure args) p (rolls-Call Pure args)) (at_Call Pure args) (outs-Call (placeless_callee Pure) (placeless_args args))

pub called_placed : (a : Expr) → name_called (placeless_expr a) ≡ option_map placeless_call (name_called a)
unfolding name_called
called_placed a = ap (λ e. name_called_by (out-Node e.node)) (at_place a.place a.node) ∙ node_called a.node (out-Node a.node) refl

some_stays : {A B : Type 0} (f : A → B) (o : Option A) → is_some (option_map f o) ≡ is_some o
some_stays f None = refl
some_stays f (Some a) = refl

pub is_called_placed : (a : Expr) → is_some (name_called (placeless_expr a)) ≡ is_some (name_called a)
is_called_placed a = ap (λ o. is_some o) (called_placed a) ∙ some_stays placeless_call (name_called a)
