-- What is known of the types, dimensions and modifiers that classes and elements are made of, and what follows where they may be
-- left out.
use Rattle.std.proofs.Common.{◌≡◌, ◌++◌, List, [], ◌∷◌, map, Option, Some, None, refl, sym, ap, codes}
use Rattle.std.specs.Prelude.{if◌then◌else◌}
use Rattle.mo_syntax.specs.declared.expr.Expr.{Expr}
use Rattle.mo_syntax.specs.declared.expr.ReferenceOf.{ReferenceOf}
use Rattle.mo_syntax.specs.declared.class.ArgumentOf.{ArgumentOf}
use Rattle.mo_syntax.specs.declared.class.Body.{Body}
use Rattle.mo_syntax.specs.declared.class.ClassDefOf.{ClassDefOf}
use Rattle.mo_syntax.specs.declared.class.Give.{Give}
use Rattle.mo_grammar.specs.Lexeme.{Lexeme}
use Rattle.mo_grammar.specs.Grammar.{Limits, symbol}
use Rattle.mo_grammar.specs.Forms.{optional}
use Rattle.mo_grammar.specs.Trees.{or_nothing}
use Rattle.mo_grammar.specs.ClassTrees.{Mods, mods_or_none, path_of, text_of}
use Rattle.mo_grammar.specs.Symbols.{Symbol, ValueOf, ClassDefinitions, ClassMods, ModArguments, Subscripts, TypeSpecs}
use Rattle.mo_pieces.specs.Pieces.{a_mark, IsToken}
use Rattle.mo_unparse.specs.Placeless.{placeless_options, placeless_reference}
use Rattle.mo_unparse.specs.PlacelessClasses.{placeless_argument, placeless_class, placeless_mods}
use Rattle.mo_pieces.specs.ShownExpressions.{pieces_of_reference, pieces_of_subscripts}
use Rattle.mo_pieces.specs.ShownModifiers.{arguments_with, pieces_of_name, pieces_of_path}
use Rattle.mo_pieces.specs.ShownClasses.{pieces_of_argument, pieces_of_class, pieces_of_mods, shown_give}
use Rattle.mo_unparse.proofs.Holding.{Fact, HoldsBy}
use Rattle.mo_unparse.proofs.Building.{IsPrinted, by_absent, by_pieces, by_present}
use Rattle.mo_unparse.proofs.Inverting.{HoldsOption, optional_holds}
use Rattle.mo_unparse.proofs.PrintingParts.{name_of, pieces_of_names}
use Rattle.mo_unparse.proofs.Rows.{in_row_map}

pub record TypesPrinted (P : Fact Symbol ValueOf) : Type 0 where
  pub type_spec : (l : Limits) (a : ReferenceOf Expr) → P TypeSpecs l a → IsPrinted (symbol TypeSpecs) l (pieces_of_reference a) (placeless_reference a)
  pub subscripts : (l : Limits) (a : List (Option Expr)) → P Subscripts l a → IsPrinted (symbol Subscripts) l (pieces_of_subscripts a) (placeless_options a)

abbrev pub ArgumentPrinted : Limits → ArgumentOf Give → Type 0
ArgumentPrinted l a = IsPrinted (symbol ModArguments) l (pieces_of_argument a) (placeless_argument a)

-- a list of modifiers is spelled by its pieces, unless it is empty: then it has none
abbrev pub ModsPrinted : Limits → Mods → Type 0
ModsPrinted l mods = (a : ArgumentOf Give) (more : List (ArgumentOf Give)) → mods.0 ≡ a ∷ more → IsPrinted (symbol ClassMods) l (pieces_of_mods mods) (placeless_mods mods)

pub record ModifiersPrinted (P : Fact Symbol ValueOf) : Type 0 where
  pub argument : (l : Limits) (a : ArgumentOf Give) → P ModArguments l a → ArgumentPrinted l a
  pub mods : (l : Limits) (a : Mods) → P ClassMods l a → ModsPrinted l a

abbrev pub ClassPrinted : Limits → ClassDefOf Body → Type 0
ClassPrinted l class = IsPrinted (symbol ClassDefinitions) l (pieces_of_class class) (placeless_class class)

-- ---- parts that may be left out

-- modifiers in pieces, as a value that stands there or not
abbrev pub OptionalMods : Limits → Mods → Type 0
OptionalMods l mods = (o : Option Mods) × (mods_or_none o ≡ placeless_mods mods) × IsPrinted (optional (symbol ClassMods)) l (pieces_of_mods mods) o

by_mods_of : (l : Limits) (mods : Mods) (list : List (ArgumentOf Give)) → mods.0 ≡ list → ModsPrinted l mods → OptionalMods l mods
by_mods_of l mods (a ∷ more) e p = (Some (placeless_mods mods), refl, by_present (p a more e))
by_mods_of l mods [] e p =
    let none : mods_or_none None ≡ placeless_mods mods = ap (λ list. let mods : Mods = record { 0 = map placeless_argument list } in mods) (sym e) in
    (None, none, by_pieces (ap (arguments_with shown_give) (sym e)) by_absent)

pub by_mods : (l : Limits) (mods : Mods) → ModsPrinted l mods → OptionalMods l mods
by_mods l mods p = by_mods_of l mods mods.0 refl p

abbrev pub OptionalSubscripts : Limits → List (Option Expr) → Type 0
OptionalSubscripts l list = (o : Option (List (Option Expr))) × (or_nothing o ≡ placeless_options list) × IsPrinted (optional (symbol Subscripts)) l (pieces_of_subscripts list) o

no_mods : (l : Limits) → ModsPrinted l (mods_or_none None)
no_mods l a more e = cc

module _ (P : Fact Symbol ValueOf) (types : TypesPrinted P) (modifiers : ModifiersPrinted P) where
  mods_known : (l : Limits) (o : Option Mods) → HoldsOption (P ClassMods l) o → ModsPrinted l (mods_or_none o)
  mods_known l None h = no_mods l
  mods_known l (Some mods) h = modifiers.mods l mods h

  pub optional_mods : (l : Limits) (o : Option Mods) → HoldsBy P IsToken (optional (symbol ClassMods)) l o → OptionalMods l (mods_or_none o)
  optional_mods l o h = by_mods l (mods_or_none o) (mods_known l o (optional_holds P IsToken (symbol ClassMods) l o h))

  pub optional_subscripts : (l : Limits) (o : Option (List (Option Expr))) → HoldsBy P IsToken (optional (symbol Subscripts)) l o → OptionalSubscripts l (or_nothing o)
  optional_subscripts l o h = go o (optional_holds P IsToken (symbol Subscripts) l o h)
    where
      go : (o : Option (List (Option Expr))) → HoldsOption (P Subscripts l) o → OptionalSubscripts l (or_nothing o)
      go None h = (None, refl, by_absent)
      go (Some list) h = (Some (placeless_options list), refl, by_present (types.subscripts l list h))

-- the identifiers of a name in pieces, by their tokens
pub names_same : (names : List Lexeme) → pieces_of_path (path_of names) ≡ pieces_of_names names
names_same names = in_row_map (λ first text. (if first then [] else a_mark (codes ".") ∷ []) ++ pieces_of_name text) (λ first t. (if first then [] else a_mark (codes ".") ∷ []) ++ name_of t) text_of (λ first t. refl) names
