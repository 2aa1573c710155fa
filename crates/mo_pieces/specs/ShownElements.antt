-- Elements and imports in pieces, and the heads of the sections that they stand in (Modelica Language Specification 3.5,
-- appendix A.2.3 and A.2.4).
use Rattle.std.specs.Prelude.{Bool, true, false, List, [], ◌∷◌, ◌++◌, Option, Some, None, codes}
use Rattle.mo_syntax.specs.declared.expr.Expr.{Expr}
use Rattle.mo_syntax.specs.declared.expr.ReferenceOf.{ReferenceOf}
use Rattle.mo_syntax.specs.declared.class.Causal.{Causal}
use Rattle.mo_syntax.specs.declared.class.Causal.TheVariants.{None as neither_way, Input, Output}
use Rattle.mo_syntax.specs.declared.class.ComponentOf.{ComponentOf}
use Rattle.mo_syntax.specs.declared.class.ElementFlags.{ElementFlags}
use Rattle.mo_syntax.specs.declared.class.ExtendsOf.{ExtendsOf}
use Rattle.mo_syntax.specs.declared.class.Import.{Import}
use Rattle.mo_syntax.specs.declared.class.Import.TheVariants.{Renamed, Named, Group, All}
use Rattle.mo_syntax.specs.declared.class.ModsOf.{ModsOf}
use Rattle.mo_syntax.specs.declared.class.Prefix.{Prefix}
use Rattle.mo_syntax.specs.declared.class.Vary.{Vary}
use Rattle.mo_syntax.specs.declared.class.Vary.TheVariants.{Free, Discrete, Parameter, Constant}
use Rattle.mo_pieces.specs.declared.section.Section.{Section}
use Rattle.mo_pieces.specs.declared.section.Section.TheVariants.{Public, Protected, Behavior}
use Rattle.mo_pieces.specs.Pieces.{Piece, a_name, a_word, a_mark, a_blank}
use Rattle.mo_pieces.specs.Lines.{word_if, head_line}
use Rattle.mo_pieces.specs.ShownExpressions.{commas, spaced, in_braces, pieces_of_expr, pieces_of_reference, pieces_of_subscripts}
use Rattle.mo_pieces.specs.ShownModifiers.{ShownGive, pieces_of_name, pieces_of_path, pieces_of_binding, mods_with}

-- ---- components

abbrev pub pieces_of_vary : Vary → List Piece
pieces_of_vary Free = []
pieces_of_vary Discrete = a_word (codes "discrete") ∷ a_blank ∷ []
pieces_of_vary Parameter = a_word (codes "parameter") ∷ a_blank ∷ []
pieces_of_vary Constant = a_word (codes "constant") ∷ a_blank ∷ []

abbrev pub pieces_of_causal : Causal → List Piece
pieces_of_causal neither_way = []
pieces_of_causal Input = a_word (codes "input") ∷ a_blank ∷ []
pieces_of_causal Output = a_word (codes "output") ∷ a_blank ∷ []

abbrev pub pieces_of_prefix : Prefix → List Piece
pieces_of_prefix prefix = word_if (codes "flow") prefix.flow ++ (word_if (codes "stream") prefix.stream ++ (pieces_of_vary prefix.vary ++ pieces_of_causal prefix.causal))

-- `if condition`, nothing where no condition stands
abbrev pub pieces_of_condition : Option Expr → List Piece
pieces_of_condition None = []
pieces_of_condition (Some condition) = spaced (a_word (codes "if")) ++ pieces_of_expr condition

-- the prefixes, the type and the dimensions behind it
abbrev pub type_of : {G : Type 0} → ComponentOf G → List Piece
type_of component = pieces_of_prefix component.prefix ++ (pieces_of_reference component.base ++ pieces_of_subscripts component.base_subs)

-- the value and the condition
abbrev pub value_of : {G : Type 0} → ComponentOf G → List Piece
value_of component = pieces_of_binding component.binding ++ pieces_of_condition component.condition

-- a component, where it is said how to show what the arguments of its modifiers give
abbrev pub component_with : {G : Type 0} → (G → ShownGive) → ComponentOf G → List Piece
component_with shown component =
    type_of component ++ (a_blank ∷ a_name component.name ∷ pieces_of_subscripts component.subs ++ (mods_with shown component.mods ++ value_of component))

-- ---- elements

abbrev pub pieces_of_flags : ElementFlags → List Piece
pieces_of_flags flags =
    word_if (codes "redeclare") flags.redeclare ++ (word_if (codes "final") flags.last ++ (word_if (codes "inner") flags.inner
    ++ (word_if (codes "outer") flags.outer ++ word_if (codes "replaceable") flags.replaceable)))

-- a constraining clause, nothing where there is none
abbrev pub limit_with : {G : Type 0} → (G → ShownGive) → Option (ReferenceOf Expr × ModsOf G) → List Piece
limit_with shown None = []
limit_with shown (Some (base, mods)) = spaced (a_word (codes "constrainedby")) ++ (pieces_of_reference base ++ mods_with shown mods)

abbrev pub extends_with : {G : Type 0} → (G → ShownGive) → ExtendsOf G → List Piece
extends_with shown clause = a_word (codes "extends") ∷ a_blank ∷ pieces_of_reference clause.base ++ mods_with shown clause.mods

abbrev pub in_import : Import → List Piece
in_import (Renamed name path place) = a_name name ∷ spaced (a_mark (codes "=")) ++ pieces_of_path path
in_import (Named path place) = pieces_of_path path
in_import (Group path names place) = pieces_of_path path ++ (a_mark (codes ".") ∷ in_braces (commas pieces_of_name names))
in_import (All path place) = pieces_of_path path ++ a_mark (codes ".*") ∷ []

abbrev pub pieces_of_import : Import → List Piece
pieces_of_import import = a_word (codes "import") ∷ a_blank ∷ in_import import

-- ---- sections

-- an element in pieces, with the section that it stands in
pub record ShownElement : Type 0 where
  pub section : Section
  pub pieces : List Piece

-- an item of a class in pieces, with the section that it stands in; None for an import, which stands in any of elements
pub record ShownItem : Type 0 where
  pub section : Option Section
  pub pieces : List Piece

abbrev pub section_of : (hidden : Bool) → Section
section_of false = Public
section_of true = Protected

-- the section that is open behind an item, from that before it
abbrev pub section_behind : Section → Option Section → Section
section_behind before (Some section) = section
section_behind Behavior None = Public
section_behind before None = before

-- the head of a section of elements, where another section is open
abbrev pub head_between : (before behind : Section) → List Piece
head_between Public Public = []
head_between Protected Protected = []
head_between before Public = head_line (a_word (codes "public") ∷ [])
head_between before Protected = head_line (a_word (codes "protected") ∷ [])
head_between before Behavior = []

-- the items of a class from one on, where a section is open
abbrev pub items_from : Section → List ShownItem → List Piece
items_from before [] = []
items_from before (item ∷ items) =
    let section = section_behind before item.section in head_between before section ++ (item.pieces ++ items_from section items)
