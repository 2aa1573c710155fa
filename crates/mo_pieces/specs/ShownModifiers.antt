-- Modifiers in pieces (Modelica Language Specification 3.5, appendix A.2.5).
use Rattle.std.specs.Prelude.{ℕ, List, [], ◌∷◌, ◌++◌, Option, Some, None, codes}
use Rattle.mo_syntax.specs.declared.text.Path.{Path}
use Rattle.mo_syntax.specs.declared.expr.Expr.{Expr}
use Rattle.mo_syntax.specs.declared.class.ArgumentOf.{ArgumentOf}
use Rattle.mo_syntax.specs.declared.class.ModsOf.{ModsOf}
use Rattle.mo_pieces.specs.Pieces.{Piece, a_name, a_mark}
use Rattle.mo_pieces.specs.Lines.{word_if}
use Rattle.mo_pieces.specs.ShownExpressions.{commas, in_parentheses, joined_by, spaced, pieces_of_expr}

-- an identifier, as a part of a list
abbrev pub pieces_of_name : List ℕ → List Piece
pieces_of_name name = a_name name ∷ []

-- identifiers with dots between them
abbrev pub pieces_of_path : Path → List Piece
pieces_of_path path = joined_by (a_mark (codes ".") ∷ []) pieces_of_name path.0

-- `= value`, nothing where no value stands
abbrev pub pieces_of_binding : Option Expr → List Piece
pieces_of_binding None = []
pieces_of_binding (Some value) = spaced (a_mark (codes "=")) ++ pieces_of_expr value

-- what an argument is, from its flags and its name
abbrev pub ShownGive : Type 0
ShownGive = (flags name : List Piece) → List Piece

-- an argument, where it is said how to show what it gives
abbrev pub argument_with : {G : Type 0} → (G → ShownGive) → ArgumentOf G → List Piece
argument_with shown argument =
    shown argument.give (word_if (codes "each") argument.each ++ word_if (codes "final") argument.last) (pieces_of_path argument.name)

-- arguments in parentheses, nothing where there are none
abbrev pub arguments_with : {G : Type 0} → (G → ShownGive) → List (ArgumentOf G) → List Piece
arguments_with shown [] = []
arguments_with shown (argument ∷ more) = in_parentheses (commas (argument_with shown) (argument ∷ more))

abbrev pub mods_with : {G : Type 0} → (G → ShownGive) → ModsOf G → List Piece
mods_with shown mods = arguments_with shown mods.0
