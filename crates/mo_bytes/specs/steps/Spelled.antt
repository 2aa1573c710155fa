-- What stands of the values that productions make, for a property of what is written that holds of an expression or an equation where it holds
-- of all that these hold.
use Rattle.std.specs.Prelude.{ℕ, List, [], ◌∷◌, flat_map, map}
use Rattle.mo_syntax.specs.declared.equation.EquationKind.{EquationKind}
use Rattle.mo_syntax.specs.declared.equation.EquationOf.{EquationOf}
use Rattle.mo_syntax.specs.declared.expr.Arg.{Arg}
use Rattle.mo_syntax.specs.declared.expr.Expr.{Expr}
use Rattle.mo_grammar.specs.Lexeme.{Lexeme}
use Rattle.mo_grammar.specs.Symbols.{Symbol, ValueOf, Expressions, Simples, Logicals, Conjunctions, Negations, Relations, Sums, Products, Powers, Primaries, CallArguments, Arguments, MoreArguments, OneArgument, Indices, References, Subscripts, TypeSpecs, Names, ClassMods, ModArguments, EquationItems, ForEquations, WhenEquations, ElseEquations, IfEquations, StatementItems, ImportNames, ElementItems, Compositions, Sections, SectionEquations, ClassDefinitions, Files}
use Rattle.mo_places.specs.Written.{Written, At, Valued, Stated}
use Rattle.mo_places.specs.TreeWritten.{in_subs, places_in_class, places_in_item, places_of_parts}
use Rattle.mo_places.specs.Pieces.{in_argument, in_arguments_of_call, in_equation, in_expression, in_name, in_ranges}
use Rattle.mo_places.specs.Stands.{ArgumentStands, Every, IfAny}

-- What holds of all that an expression or an equation holds holds of it.
pub record Ascends (P : Written → Type 0) : Type 0 where
  pub expression : (e : Expr) → Every P (in_expression e) → P (Valued e)
  pub equation : (equation : EquationOf EquationKind) → Every P (in_equation equation) → P (Stated equation)

abbrev pub AreArguments : (Written → Type 0) → List Arg → Type 0
AreArguments P arguments = Every P (flat_map in_argument arguments)

abbrev pub AreNamed : (Written → Type 0) → List (List ℕ × Arg) → Type 0
AreNamed P arguments = Every P (flat_map (λ named. in_argument named.1) arguments)

-- the tokens of a name: one at least
abbrev pub AreNames : (Written → Type 0) → List Lexeme → Type 0
AreNames P [] = ⊥
AreNames P (t ∷ names) = P (At t.place) × Every (λ (other : Lexeme). P (At other.place)) names

abbrev pub AreEquations : (Written → Type 0) → List (EquationOf EquationKind) → Type 0
AreEquations P equations = Every P (map Stated equations)

-- conditions with their equations
abbrev pub AreBranches : (Written → Type 0) → List (Expr × List (EquationOf EquationKind)) → Type 0
AreBranches P branches = Every (λ branch. P (Valued branch.0) × AreEquations P branch.1) branches

abbrev pub Spelled : (Written → Type 0) → (x : Symbol) → ValueOf x → Type 0
Spelled P Expressions e = P (Valued e)
Spelled P Simples e = P (Valued e)
Spelled P Logicals e = P (Valued e)
Spelled P Conjunctions e = P (Valued e)
Spelled P Negations e = P (Valued e)
Spelled P Relations e = P (Valued e)
Spelled P Sums e = P (Valued e)
Spelled P Products e = P (Valued e)
Spelled P Powers e = P (Valued e)
Spelled P Primaries e = P (Valued e)
Spelled P CallArguments args = Every P (in_arguments_of_call args)
Spelled P Arguments args = Every P (in_arguments_of_call args)
Spelled P MoreArguments x = AreArguments P x.0 × AreNamed P x.1
Spelled P OneArgument arg = Every P (in_argument arg)
Spelled P Indices indices = Every P (in_ranges indices)
Spelled P References r = Every P (in_name r)
Spelled P Subscripts subs = Every P (in_subs subs)
Spelled P TypeSpecs r = Every P (places_of_parts r.parts)
Spelled P Names names = AreNames P names
Spelled P ClassMods mods = Every (ArgumentStands P) mods.0
Spelled P ModArguments argument = ArgumentStands P argument
Spelled P EquationItems equation = P (Stated equation)
Spelled P ForEquations equations = AreEquations P equations
Spelled P WhenEquations x = AreEquations P x.0 × AreBranches P x.1
Spelled P ElseEquations equations = AreEquations P equations
Spelled P IfEquations x = AreEquations P x.0 × (AreBranches P x.1.0 × AreEquations P x.1.1)
Spelled P StatementItems statement = Unit {0}
Spelled P ImportNames x = AreNames P x.0
Spelled P (ElementItems hidden) items = Every (λ item. Every P (places_in_item item)) items
Spelled P Compositions x = Every (λ item. Every P (places_in_item item)) x.0
Spelled P Sections x = Every (λ item. Every P (places_in_item item)) x.0
Spelled P SectionEquations x = AreEquations P x.0 × Every (λ item. Every P (places_in_item item)) x.1.0
Spelled P ClassDefinitions class = Every P (places_in_class class)
Spelled P Files file = Every (λ class. Every P (places_in_class class)) file.classes × IfAny (λ within. P (At within.1)) file.within
