-- The grammar passes the test, one production after another.
use Rattle.std.proofs.Common.{◌≡◌, ℕ, true, refl}
use Rattle.mo_grammar.specs.Reading.{AreRight}
use Rattle.mo_grammar.specs.Symbols.{Symbol, ValueOf, Expressions, Simples, Logicals, Conjunctions, Negations, Relations, Sums, Products, Powers, Primaries, CallArguments, Arguments, MoreArguments, OneArgument, Indices, References, Subscripts, TypeSpecs, Names, ClassMods, ModArguments, EquationItems, ForEquations, WhenEquations, ElseEquations, IfEquations, StatementItems, ImportNames, ElementItems, Compositions, Sections, SectionEquations, ClassDefinitions, Files}
use Rattle.mo_grammar.specs.Productions.{rule}
use Rattle.mo_grammar.specs.Tables.{tables}
use Rattle.mo_grammar.proofs.Checked.{Checked, checked, is_sound_at, right}
use Rattle.mo_grammar.proofs.Extending.{is_productive, is_fillable}

pub tested : (x : Symbol) → is_sound_at tables rule x ≡ true
unfolding rule
tested Expressions = refl
tested Simples = refl
tested Logicals = refl
tested Conjunctions = refl
tested Negations = refl
tested Relations = refl
tested Sums = refl
tested Products = refl
tested Powers = refl
tested Primaries = refl
tested CallArguments = refl
tested Arguments = refl
tested MoreArguments = refl
tested OneArgument = refl
tested Indices = refl
tested References = refl
tested Subscripts = refl
tested TypeSpecs = refl
tested Names = refl
tested ClassMods = refl
tested ModArguments = refl
tested EquationItems = refl
tested ForEquations = refl
tested WhenEquations = refl
tested ElseEquations = refl
tested IfEquations = refl
tested StatementItems = refl
tested ImportNames = refl
tested (ElementItems hidden) = refl
tested Compositions = refl
tested Sections = refl
tested SectionEquations = refl
tested ClassDefinitions = refl
tested Files = refl

-- Each production has a spelling that lower ones alone lead to.
abbrev pub level : Symbol → ℕ
level Expressions = 9
level Simples = 8
level Logicals = 7
level Conjunctions = 6
level Negations = 5
level Relations = 4
level Sums = 3
level Products = 2
level Powers = 1
level Primaries = 0
level CallArguments = 0
level Arguments = 2
level MoreArguments = 3
level OneArgument = 2
level Indices = 0
level References = 0
level Subscripts = 0
level TypeSpecs = 1
level Names = 0
level ClassMods = 0
level ModArguments = 0
level EquationItems = 1
level ForEquations = 0
level WhenEquations = 0
level ElseEquations = 0
level IfEquations = 0
level StatementItems = 0
level ImportNames = 0
level (ElementItems hidden) = 1
level Compositions = 1
level Sections = 0
level SectionEquations = 0
level ClassDefinitions = 0
level Files = 0

pub productive : (x : Symbol) → is_productive level (level x) (rule x) ≡ true
unfolding rule
productive Expressions = refl
productive Simples = refl
productive Logicals = refl
productive Conjunctions = refl
productive Negations = refl
productive Relations = refl
productive Sums = refl
productive Products = refl
productive Powers = refl
productive Primaries = refl
productive CallArguments = refl
productive Arguments = refl
productive MoreArguments = refl
productive OneArgument = refl
productive Indices = refl
productive References = refl
productive Subscripts = refl
productive TypeSpecs = refl
productive Names = refl
productive ClassMods = refl
productive ModArguments = refl
productive EquationItems = refl
productive ForEquations = refl
productive WhenEquations = refl
productive ElseEquations = refl
productive IfEquations = refl
productive StatementItems = refl
productive ImportNames = refl
productive (ElementItems hidden) = refl
productive Compositions = refl
productive Sections = refl
productive SectionEquations = refl
productive ClassDefinitions = refl
productive Files = refl

pub fillable : (x : Symbol) → is_fillable level 10 (rule x) ≡ true
unfolding rule
fillable Expressions = refl
fillable Simples = refl
fillable Logicals = refl
fillable Conjunctions = refl
fillable Negations = refl
fillable Relations = refl
fillable Sums = refl
fillable Products = refl
fillable Powers = refl
fillable Primaries = refl
fillable CallArguments = refl
fillable Arguments = refl
fillable MoreArguments = refl
fillable OneArgument = refl
fillable Indices = refl
fillable References = refl
fillable Subscripts = refl
fillable TypeSpecs = refl
fillable Names = refl
fillable ClassMods = refl
fillable ModArguments = refl
fillable EquationItems = refl
fillable ForEquations = refl
fillable WhenEquations = refl
fillable ElseEquations = refl
fillable IfEquations = refl
fillable StatementItems = refl
fillable ImportNames = refl
fillable (ElementItems hidden) = refl
fillable Compositions = refl
fillable Sections = refl
fillable SectionEquations = refl
fillable ClassDefinitions = refl
fillable Files = refl

pub tables_right : AreRight tables rule
tables_right = right tables rule tested

pub passed : Checked Symbol ValueOf tables rule
passed = checked tables rule tables_right
