-- Classes in pieces (Modelica Language Specification 3.5, appendix A.2.2 and A.2.3).
use Rattle.std.specs.Prelude.{ℕ, Bool, true, false, List, [], ◌∷◌, ◌++◌, map, Option, Some, None, codes}
use Rattle.mo_syntax.specs.declared.expr.Expr.{Expr}
use Rattle.mo_syntax.specs.declared.expr.ReferenceOf.{ReferenceOf}
use Rattle.mo_syntax.specs.declared.class.ArgumentOf.{ArgumentOf}
use Rattle.mo_syntax.specs.declared.class.Body.{Body, Body-F, fold-Body}
use Rattle.mo_syntax.specs.declared.class.Causal.{Causal}
use Rattle.mo_syntax.specs.declared.class.ClassDefOf.{ClassDefOf}
use Rattle.mo_syntax.specs.declared.class.ClassFlags.{ClassFlags}
use Rattle.mo_syntax.specs.declared.class.ClassKind.{ClassKind}
use Rattle.mo_syntax.specs.declared.class.ClassKind.TheVariants.{Plain, Model, Block as block_kind, Recd, Connector, TypeDef, Package, Function as function_kind, Operator as operator_kind}
use Rattle.mo_syntax.specs.declared.class.Element.{Element, Element-F, fold-Element}
use Rattle.mo_syntax.specs.declared.class.Give.{Give, Give-F, fold-Give}
use Rattle.mo_syntax.specs.declared.class.Item.{Item, Item-F, fold-Item}
use Rattle.mo_syntax.specs.declared.class.ModsOf.{ModsOf}
use Rattle.mo_syntax.specs.declared.class.What.{What, What-F, fold-What}
use Rattle.mo_pieces.specs.declared.section.Section.TheVariants.{Public, Behavior}
use Rattle.mo_pieces.specs.Pieces.{Piece, a_name, a_word, a_mark, a_blank, a_line, deeper, shallower}
use Rattle.mo_pieces.specs.Lines.{on_a_line, lines_of, head_line, word_if}
use Rattle.mo_pieces.specs.ShownExpressions.{commas, a_comma, spaced, in_parentheses, pieces_of_reference, pieces_of_subscripts}
use Rattle.mo_pieces.specs.ShownEquations.{pieces_of_equation, pieces_of_statement}
use Rattle.mo_pieces.specs.ShownModifiers.{ShownGive, pieces_of_name, pieces_of_binding, argument_with, mods_with}
use Rattle.mo_pieces.specs.ShownElements.{ShownElement, ShownItem, pieces_of_causal, component_with, pieces_of_flags, limit_with, extends_with, pieces_of_import, section_of, items_from}

-- ---- the heads of classes

abbrev pub word_of_kind : ClassKind → List ℕ
word_of_kind Plain = codes "class"
word_of_kind Model = codes "model"
word_of_kind block_kind = codes "block"
word_of_kind Recd = codes "record"
word_of_kind Connector = codes "connector"
word_of_kind TypeDef = codes "type"
word_of_kind Package = codes "package"
word_of_kind function_kind = codes "function"
word_of_kind operator_kind = codes "operator"

abbrev pub pieces_of_purity : Option Bool → List Piece
pieces_of_purity None = []
pieces_of_purity (Some true) = a_word (codes "pure") ∷ a_blank ∷ []
pieces_of_purity (Some false) = a_word (codes "impure") ∷ a_blank ∷ []

-- the words that a class begins with
abbrev pub head_of : ClassKind → ClassFlags → List Piece
head_of kind flags =
    word_if (codes "encapsulated") flags.encapsulated ++ (word_if (codes "partial") flags.partial ++ (pieces_of_purity flags.purity
    ++ (word_if (codes "operator") flags.operator ++ (word_if (codes "expandable") flags.expandable ++ (a_word (word_of_kind kind) ∷ a_blank ∷ [])))))

-- what stands behind them, from the name of the class
abbrev pub ShownBody : Type 0
ShownBody = List ℕ → List Piece

abbrev pub class_with : {B : Type 0} → (B → ShownBody) → ClassDefOf B → List Piece
class_with shown class = head_of class.kind class.flags ++ shown class.body class.name

-- ---- what a class consists of

-- an `external` clause, where one stands there
abbrev pub external_line : Bool → List Piece
external_line false = []
external_line true = a_line ∷ a_word (codes "external") ∷ a_mark (codes ";") ∷ []

-- the end of a class, with an external clause before it
abbrev pub end_with : (external : Bool) → (name : List ℕ) → List Piece
end_with external name = external_line external ++ (a_line ∷ a_word (codes "end") ∷ a_blank ∷ a_name name ∷ [])

-- the items of a class, and its end
abbrev pub inside_of : List ShownItem → (external : Bool) → (name : List ℕ) → List Piece
inside_of items external name = deeper ∷ items_from Public items ++ (shallower ∷ end_with external name)

-- the head of a class, with the modifiers of `extends NAME`
abbrev pub name_with : {G : Type 0} → (G → ShownGive) → Option (ModsOf G) → (name : List ℕ) → List Piece
name_with shown None name = a_name name ∷ []
name_with shown (Some mods) name = a_word (codes "extends") ∷ a_blank ∷ a_name name ∷ mods_with shown mods

abbrev pub pieces_of_literals : Option (List (List ℕ)) → List Piece
pieces_of_literals None = a_mark (codes ":") ∷ []
pieces_of_literals (Some literals) = commas pieces_of_name literals

-- name = [input | output] base [subscripts] [modifiers]
abbrev pub short_with : {G : Type 0} → (G → ShownGive) → Causal → ReferenceOf Expr → List (Option Expr) → ModsOf G → (name : List ℕ) → List Piece
short_with shown causal base subs mods name =
    a_name name ∷ spaced (a_mark (codes "=")) ++ (pieces_of_causal causal ++ (pieces_of_reference base ++ (pieces_of_subscripts subs ++ mods_with shown mods)))

-- name = enumeration(literals)
abbrev pub enumeration_of : Option (List (List ℕ)) → (name : List ℕ) → List Piece
enumeration_of literals name = a_name name ∷ spaced (a_mark (codes "=")) ++ (a_word (codes "enumeration") ∷ in_parentheses (pieces_of_literals literals))

-- name = der(function, names)
abbrev pub derivative_of : ReferenceOf Expr → List (List ℕ) → (name : List ℕ) → List Piece
derivative_of function names name =
    a_name name ∷ spaced (a_mark (codes "=")) ++ (a_word (codes "der") ∷ in_parentheses (pieces_of_reference function ++ (a_comma ++ commas pieces_of_name names)))

-- a section with its head, each part on a line of its own
abbrev pub section_with : {A : Type 0} → List ℕ → (A → List Piece) → Bool → List A → List Piece
section_with word shown initial parts = head_line (word_if (codes "initial") initial ++ a_word word ∷ []) ++ lines_of shown parts

-- ---- the parts of the tree

abbrev pub in_body : Body-F ShownBody ShownGive ShownItem (List Piece) ShownElement → ShownBody
in_body (Body-F.Long extending items external) name = name_with (λ give. give) extending name ++ inside_of items external name
in_body (Body-F.Short causal base subs mods) name = short_with (λ give. give) causal base subs mods name
in_body (Body-F.Enumeration literals) name = enumeration_of literals name
in_body (Body-F.Der function names) name = derivative_of function names name

abbrev pub in_give : Give-F ShownBody ShownGive ShownItem (List Piece) ShownElement → ShownGive
in_give (Give-F.Modify mods value) flags name = flags ++ (name ++ (mods_with (λ give. give) mods ++ pieces_of_binding value))
in_give (Give-F.Redeclare element) flags name = a_word (codes "redeclare") ∷ a_blank ∷ flags ++ element.pieces
in_give (Give-F.Replaceable element) flags name = flags ++ element.pieces

abbrev pub in_item : Item-F ShownBody ShownGive ShownItem (List Piece) ShownElement → ShownItem
in_item (Item-F.Import clause) = record { section = None; pieces = on_a_line (pieces_of_import clause) }
in_item (Item-F.Extends clause) = record { section = Some (section_of clause.hidden); pieces = on_a_line (extends_with (λ give. give) clause) }
in_item (Item-F.Member element) = record { section = Some element.section; pieces = on_a_line element.pieces }
in_item (Item-F.Equations initial equations) = record { section = Some Behavior; pieces = section_with (codes "equation") pieces_of_equation initial equations }
in_item (Item-F.Algorithm initial statements) = record { section = Some Behavior; pieces = section_with (codes "algorithm") pieces_of_statement initial statements }

abbrev pub in_what : What-F ShownBody ShownGive ShownItem (List Piece) ShownElement → List Piece
in_what (What-F.Class class) = class_with (λ body. body) class
in_what (What-F.Component component) = component_with (λ give. give) component

abbrev pub in_element : Element-F ShownBody ShownGive ShownItem (List Piece) ShownElement → ShownElement
in_element element = record {
  section = section_of element.flags.hidden;
  pieces = pieces_of_flags element.flags ++ (element.what ++ limit_with (λ give. give) element.limit);
}

abbrev pub shown_body : Body → ShownBody
shown_body = fold-Body ShownBody ShownGive ShownItem (List Piece) ShownElement in_body in_give in_item in_what in_element

abbrev pub shown_give : Give → ShownGive
shown_give = fold-Give ShownBody ShownGive ShownItem (List Piece) ShownElement in_body in_give in_item in_what in_element

abbrev pub shown_item : Item → ShownItem
shown_item = fold-Item ShownBody ShownGive ShownItem (List Piece) ShownElement in_body in_give in_item in_what in_element

abbrev pub pieces_of_what : What → List Piece
pieces_of_what = fold-What ShownBody ShownGive ShownItem (List Piece) ShownElement in_body in_give in_item in_what in_element

abbrev pub shown_element : Element → ShownElement
shown_element = fold-Element ShownBody ShownGive ShownItem (List Piece) ShownElement in_body in_give in_item in_what in_element

abbrev pub pieces_of_mods : ModsOf Give → List Piece
pieces_of_mods = mods_with shown_give

abbrev pub pieces_of_argument : ArgumentOf Give → List Piece
pieces_of_argument = argument_with shown_give

abbrev pub pieces_of_element : Element → List Piece
pieces_of_element element = (shown_element element).pieces

abbrev pub pieces_of_items : List Item → List Piece
pieces_of_items items = items_from Public (map shown_item items)

abbrev pub pieces_of_class : ClassDefOf Body → List Piece
pieces_of_class = class_with shown_body
