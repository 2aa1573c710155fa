-- The attributes of the predefined types (Modelica Language Specification 3.5, section 4.8), and what modifiers give for them.
use Rattle.std.specs.Prelude.{ℕ, Bool, false, List, [], ◌∷◌, flat_map, Option, Some, None}
use Rattle.std.specs.List.{list_any}
use Rattle.std.specs.Str.{bytes_eq}
use Rattle.mo_syntax.specs.declared.meaning.Kind.{Kind}
use Rattle.mo_syntax.specs.declared.meaning.Kind.TheVariants.{Real, Whole, Truth, Str, Enumeration}
use Rattle.mo_flat.specs.Text.{attribute_name}
use Rattle.mo_scope.specs.Rows.{Table}
use Rattle.mo_scope.specs.Frames.{Frame, class_of, sources_of}
use Rattle.mo_scope.specs.Parts.{picked}
use Rattle.mo_scope.specs.Instances.{Chosen}
use Rattle.mo_eval.specs.References.{kind_of_class}

-- The attributes of a kind, by their numbers among those of Real: quantity 0, unit 1, displayUnit 2, min 3, max 4, start 5, fixed 6,
-- nominal 7, unbounded 8, stateSelect 9.
abbrev pub attributes_of : Kind → List ℕ
attributes_of Real = 0 ∷ 1 ∷ 2 ∷ 3 ∷ 4 ∷ 5 ∷ 6 ∷ 7 ∷ 8 ∷ 9 ∷ []
attributes_of Whole = 0 ∷ 3 ∷ 4 ∷ 5 ∷ 6 ∷ []
attributes_of Truth = 0 ∷ 5 ∷ 6 ∷ []
attributes_of Str = 0 ∷ 5 ∷ 6 ∷ []
attributes_of (Enumeration class) = 0 ∷ 3 ∷ 4 ∷ 5 ∷ 6 ∷ []

abbrev pub kind_of_leaf : Frame → Kind
kind_of_leaf leaf = kind_of_class (class_of leaf)

-- whether a name is an attribute, where the bases of a class end at a leaf type
abbrev pub is_attribute : Option Frame → List ℕ → Bool
is_attribute None name = false
is_attribute (Some leaf) name = list_any (λ number. bytes_eq (attribute_name number) name) (attributes_of (kind_of_leaf leaf))

abbrev pub attribute_as : ℕ → Option Chosen → List (ℕ × Chosen)
attribute_as number None = []
attribute_as number (Some value) = (number, value) ∷ []

-- the attribute of that number, if it is given
abbrev pub chosen_attribute : Table → Frame → ℕ → List (ℕ × Chosen)
chosen_attribute table leaf number = attribute_as number (picked table (sources_of leaf) (attribute_name number ∷ []))

-- The attributes that are given at the end of the bases, in their order: what extends clauses and short classes add is there.
abbrev pub chosen_attributes : Table → Frame → List (ℕ × Chosen)
chosen_attributes table leaf = flat_map (chosen_attribute table leaf) (attributes_of (kind_of_leaf leaf))
