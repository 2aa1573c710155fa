-- What tokens spell is sound, and each name in it is that of an identifier: by induction over all productions.
use Rattle.std.proofs.Common.{◌≡◌, ℕ, true, false, List, [], ◌∷◌, inl, inr, Result, IsTrue, refl, eqb-true, arith}
use Rattle.std.specs.List.{All}
use Rattle.std.proofs.lemmas.List.Elements.{All-cons, All-head, All-nil, All-tail}
use Rattle.std.specs.Prelude.{◌==◌, IfOk}
use Rattle.std.proofs.lemmas.Result.{IfOk-weaker}
use Rattle.mo_syntax.specs.declared.class.FileTree.{FileTree}
use Rattle.mo_syntax.specs.declared.token.TokenKind.{TokenKind}
use Rattle.mo_syntax.specs.declared.token.TokenKind.TheVariants.{Ident, Keyword, Operator, Whole, Decimal, Str, End}
use Rattle.mo_syntax.specs.SoundTree.{Naming, is_sound_file}
use Rattle.mo_grammar.specs.Lexeme.{Lexeme, code_of_kind}
use Rattle.mo_grammar.specs.Codes.{ident, whole, decimal, string, end_of_file, operator_code, word_code}
use Rattle.mo_grammar.specs.Grammar.{Limits, has, identifiers}
use Rattle.mo_grammar.specs.Language.{Spells}
use Rattle.mo_grammar.specs.Naming.{IdentifiersPass}
use Rattle.mo_grammar.specs.Productions.{rule}
use Rattle.mo_grammar.specs.Symbols.{Symbol, ValueOf, Expressions, Simples, Logicals, Conjunctions, Negations, Relations, Sums, Products, Powers, Primaries, CallArguments, Arguments, MoreArguments, OneArgument, Indices, References, Subscripts, TypeSpecs, Names, ClassMods, ModArguments, EquationItems, ForEquations, WhenEquations, ElseEquations, IfEquations, StatementItems, ImportNames, ElementItems, Compositions, Sections, SectionEquations, ClassDefinitions, Files}
use Rattle.mo_grammar.proofs.Codes.{one_of}
use Rattle.mo_grammar.proofs.Holding.{HoldsBy, spelled_holds}
use Rattle.mo_grammar.proofs.SoundSteps.{NamedToken, Sound, SoundFact}
use Rattle.mo_grammar.proofs.SoundExpressions as of
use Rattle.mo_grammar.proofs.SoundClasses as part
use Rattle.mo_grammar.proofs.SoundElements as class

module _ (is_name : Naming) where
  step : (x : Symbol) (l : Limits) (a : ValueOf x) → HoldsBy (SoundFact is_name) (NamedToken is_name) (rule x) l a → Sound is_name x a
  unfolding rule
  step Expressions l a h = (of.expressions_made is_name).holds l a h
  step Simples l a h = (of.simples_made is_name).holds l a h
  step Logicals l a h = (of.logicals_made is_name).holds l a h
  step Conjunctions l a h = (of.conjunctions_made is_name).holds l a h
  step Negations l a h = (of.negations_made is_name).holds l a h
  step Relations l a h = (of.relations_made is_name).holds l a h
  step Sums l a h = (of.sums_made is_name).holds l a h
  step Products l a h = (of.products_made is_name).holds l a h
  step Powers l a h = (of.powers_made is_name).holds l a h
  step Primaries l a h = (of.primaries_made is_name).holds l a h
  step CallArguments l a h = (of.call_arguments_made is_name).holds l a h
  step Arguments l a h = (of.arguments_made is_name).holds l a h
  step MoreArguments l a h = (of.more_arguments_made is_name).holds l a h
  step OneArgument l a h = (of.one_argument_made is_name).holds l a h
  step Indices l a h = (of.indices_made is_name).holds l a h
  step References l a h = (of.references_made is_name).holds l a h
  step Subscripts l a h = (of.subscripts_made is_name).holds l a h
  step TypeSpecs l a h = (of.type_specs_made is_name).holds l a h
  step Names l a h = (of.names_made is_name).holds l a h
  step ClassMods l a h = (part.class_mods_made is_name).holds l a h
  step ModArguments l a h = (part.arguments_made is_name).holds l a h
  step EquationItems l a h = (part.equation_items_made is_name).holds l a h
  step ForEquations l a h = (part.for_equations_made is_name).holds l a h
  step WhenEquations l a h = (part.when_equations_made is_name).holds l a h
  step ElseEquations l a h = (part.else_equations_made is_name).holds l a h
  step IfEquations l a h = (part.if_equations_made is_name).holds l a h
  step StatementItems l a h = (part.statement_items_made is_name).holds l a h
  step ImportNames l a h = (class.import_names_made is_name).holds l a h
  step (ElementItems hidden) l a h = (class.elements_made is_name hidden).holds l a h
  step Compositions l a h = (class.compositions_made is_name).holds l a h
  step Sections l a h = (class.sections_made is_name).holds l a h
  step SectionEquations l a h = (class.section_equations_made is_name).holds l a h
  step ClassDefinitions l a h = (class.classes_made is_name).holds l a h
  step Files l a h = (class.files_made is_name).holds l a h

-- ---- identifiers

code_clash : (n m : ℕ) → has (n ∷ []) m ≡ true → n ≡ m
code_clash n m e = elim (one_of (n == m) false e) [ inl h ↦ eqb-true n m h | inr h ↦ cc ]

kind_is_name : (k : TokenKind) → has identifiers (code_of_kind k) ≡ true → k ≡ Ident
kind_is_name Ident e = refl
kind_is_name Whole e = let h = code_clash ident whole e in absurd (omega arith)
kind_is_name Decimal e = let h = code_clash ident decimal e in absurd (omega arith)
kind_is_name Str e = let h = code_clash ident string e in absurd (omega arith)
kind_is_name End e = let h = code_clash ident end_of_file e in absurd (omega arith)
kind_is_name (Operator n) e = let h = code_clash ident (operator_code n) e in absurd (omega arith)
kind_is_name (Keyword n) e = let h = code_clash ident (word_code n) e in absurd (omega arith)

abbrev Passes : Naming → Lexeme → Type 0
Passes is_name t = t.kind ≡ Ident → IsTrue (is_name t.text)

named_tokens : (is_name : Naming) (tokens : List Lexeme) → IdentifiersPass is_name tokens → All (NamedToken is_name) tokens
named_tokens is_name [] h = All-nil (NamedToken is_name)
named_tokens is_name (t ∷ tokens) h = All-cons (NamedToken is_name) t tokens (λ e. All-head (Passes is_name) t tokens h (kind_is_name t.kind e)) (named_tokens is_name tokens (All-tail (Passes is_name) t tokens h))

-- what tokens spell by a production is sound, where each identifier among them passes
pub all_sound : (is_name : Naming) (x : Symbol) (l : Limits) (tokens : List Lexeme) (a : ValueOf x) → Spells x l tokens a → IdentifiersPass is_name tokens → Sound is_name x a
all_sound is_name x l tokens a s h = spelled_holds rule (SoundFact is_name) (NamedToken is_name) (step is_name) x l tokens a s (named_tokens is_name tokens h)

-- a file
pub file_sound : (is_name : Naming) (l : Limits) (tokens : List Lexeme) (file : FileTree) → Spells Files l tokens file → IdentifiersPass is_name tokens → IsTrue (is_sound_file is_name file)
file_sound is_name l tokens file s h = all_sound is_name Files l tokens file s h

-- where a file is found
pub found_sound : {E : Type 0} (is_name : Naming) (l : Limits) (tokens : List Lexeme) (found : Result FileTree E) → IfOk found (λ file. Spells Files l tokens file) → IdentifiersPass is_name tokens → IfOk found (λ file. IsTrue (is_sound_file is_name file))
found_sound is_name l tokens found s h =
    IfOk-weaker found (λ file. Spells Files l tokens file) (λ file. IsTrue (is_sound_file is_name file)) (λ file spelled. file_sound is_name l tokens file spelled h) s
