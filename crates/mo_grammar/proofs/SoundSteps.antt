-- What is sound of the values of each production, and what follows for a part of the grammar from what holds of its own parts.
use Rattle.std.proofs.Common.{◌≡◌, ℕ, Bool, true, List, [], ◌∷◌, inl, inr, Option, Some, None, IsTrue, refl, subst}
use Rattle.std.specs.Prelude.{◌&&◌}
use Rattle.std.specs.List.{list_all}
use Rattle.mo_syntax.specs.SoundTree.{Naming, some_by, option_by, named_by, is_sound_expr, is_sound_args, is_sound_arg, are_sound_options, is_sound_reference, are_sound_indices, branches_by, is_sound_equation, is_sound_statement, is_sound_mods, argument_by, is_sound_give, is_sound_item, is_sound_class, is_sound_file}
use Rattle.mo_grammar.specs.Lexeme.{Lexeme, code_of}
use Rattle.mo_grammar.specs.Grammar.{Opening, Limits, renamed, empty, token, seq, either, either2, many, made, placed, nested, under, unless, symbol, has, identifiers}
use Rattle.mo_grammar.specs.Forms.{optional, behind, before, between, separated}
use Rattle.mo_grammar.specs.ClassTrees.{Equation, Branched, BranchedElse, Imported}
use Rattle.mo_grammar.specs.Symbols.{Symbol, ValueOf, Form, Expressions, Simples, Logicals, Conjunctions, Negations, Relations, Sums, Products, Powers, Primaries, CallArguments, Arguments, MoreArguments, OneArgument, Indices, References, Subscripts, TypeSpecs, Names, ClassMods, ModArguments, EquationItems, ForEquations, WhenEquations, ElseEquations, IfEquations, StatementItems, ImportNames, ElementItems, Compositions, Sections, SectionEquations, ClassDefinitions, Files}
use Rattle.mo_grammar.proofs.Holding.{Fact, HoldsBy, HoldsEach, HoldsOr, each_follows}

-- ---- tests

pub all_true : {a b : Bool} → a ≡ true → b ≡ true → (a && b) ≡ true
all_true {a = a} {b = b} p q = cc

pub one_more : {A : Type 0} (test : A → Bool) (x : A) (xs : List A) → test x ≡ true → list_all test xs ≡ true → list_all test (x ∷ xs) ≡ true
one_more test x xs p q = all_true p q

-- some, each of which passes
pub each_of_some : {A : Type 0} (test : A → Bool) (xs : List A) → some_by test xs ≡ true → list_all test xs ≡ true
each_of_some test [] e = refl
each_of_some test (x ∷ xs) e = e

-- ---- names

-- the name in an identifier
abbrev pub named_token : Naming → Lexeme → Bool
named_token is_name t = is_name t.text

-- what is known of each token: the name in an identifier passes
abbrev pub NamedToken : Naming → Lexeme → Type 0
NamedToken is_name t = IsTrue (has identifiers (code_of t)) → IsTrue (is_name t.text)

-- ---- the values of productions

abbrev pub AreSoundEquations : Naming → List Equation → Type 0
AreSoundEquations is_name equations = list_all (is_sound_equation is_name) equations ≡ true

-- equations, and the branches behind them
abbrev pub IsSoundBranched : Naming → Branched → Type 0
IsSoundBranched is_name x = AreSoundEquations is_name x.0 × (branches_by is_name (is_sound_equation is_name) x.1 ≡ true)

-- equations, the branches behind them, and the equations of `else`
abbrev pub IsSoundBranchedElse : Naming → BranchedElse → Type 0
IsSoundBranchedElse is_name x = AreSoundEquations is_name x.0 × ((branches_by is_name (is_sound_equation is_name) x.1.0 ≡ true) × AreSoundEquations is_name x.1.1)

-- the names that are taken from an imported one
abbrev pub taken_test : Naming → Option (Option (List Lexeme)) → Bool
taken_test is_name = option_by (option_by (list_all (named_token is_name)))

abbrev pub IsSoundImported : Naming → Imported → Type 0
IsSoundImported is_name x = (some_by (named_token is_name) x.0 ≡ true) × (taken_test is_name x.1 ≡ true)

abbrev pub Sound : Naming → (x : Symbol) → ValueOf x → Type 0
Sound is_name Expressions e = is_sound_expr is_name e ≡ true
Sound is_name Simples e = is_sound_expr is_name e ≡ true
Sound is_name Logicals e = is_sound_expr is_name e ≡ true
Sound is_name Conjunctions e = is_sound_expr is_name e ≡ true
Sound is_name Negations e = is_sound_expr is_name e ≡ true
Sound is_name Relations e = is_sound_expr is_name e ≡ true
Sound is_name Sums e = is_sound_expr is_name e ≡ true
Sound is_name Products e = is_sound_expr is_name e ≡ true
Sound is_name Powers e = is_sound_expr is_name e ≡ true
Sound is_name Primaries e = is_sound_expr is_name e ≡ true
Sound is_name CallArguments args = is_sound_args is_name args ≡ true
Sound is_name Arguments args = is_sound_args is_name args ≡ true
Sound is_name MoreArguments x = (list_all (is_sound_arg is_name) x.0 ≡ true) × (list_all (named_by is_name (is_sound_arg is_name)) x.1 ≡ true)
Sound is_name OneArgument arg = is_sound_arg is_name arg ≡ true
Sound is_name Indices indices = are_sound_indices is_name indices ≡ true
Sound is_name References r = is_sound_reference is_name r ≡ true
Sound is_name Subscripts subs = are_sound_options is_name subs ≡ true
Sound is_name TypeSpecs r = is_sound_reference is_name r ≡ true
Sound is_name Names names = some_by (named_token is_name) names ≡ true
Sound is_name ClassMods mods = is_sound_mods is_name mods ≡ true
Sound is_name ModArguments argument = argument_by is_name (is_sound_give is_name) argument ≡ true
Sound is_name EquationItems equation = is_sound_equation is_name equation ≡ true
Sound is_name ForEquations equations = AreSoundEquations is_name equations
Sound is_name WhenEquations x = IsSoundBranched is_name x
Sound is_name ElseEquations equations = AreSoundEquations is_name equations
Sound is_name IfEquations x = IsSoundBranchedElse is_name x
Sound is_name StatementItems statement = is_sound_statement is_name statement ≡ true
Sound is_name ImportNames x = IsSoundImported is_name x
Sound is_name (ElementItems hidden) items = list_all (is_sound_item is_name) items ≡ true
Sound is_name Compositions x = list_all (is_sound_item is_name) x.0 ≡ true
Sound is_name Sections x = list_all (is_sound_item is_name) x.0 ≡ true
Sound is_name SectionEquations x = AreSoundEquations is_name x.0 × (list_all (is_sound_item is_name) x.1.0 ≡ true)
Sound is_name ClassDefinitions class = is_sound_class is_name class ≡ true
Sound is_name Files file = is_sound_file is_name file ≡ true

abbrev pub SoundFact : Naming → Fact Symbol ValueOf
SoundFact is_name x l a = Sound is_name x a

-- ---- parts of the grammar

-- What the part makes of tokens has the fact Q, where the productions in it make what is sound.
pub record Makes (is_name : Naming) {A : Type 0} (g : Form A) (Q : A → Type 0) : Type 0 where
  pub holds : (l : Limits) (a : A) → HoldsBy (SoundFact is_name) (NamedToken is_name) g l a → Q a

abbrev pub OfOption : {A : Type 0} → (A → Type 0) → Option A → Type 0
OfOption Q None = Unit {0}
OfOption Q (Some a) = Q a

module _ {is_name : Naming} where
  -- nothing is asked
  pub anything : {A : Type 0} (g : Form A) → Makes is_name g (λ a. Unit {0})
  anything g = record { holds = λ l a h. tt }

  pub by_symbol : (x : Symbol) → Makes is_name (symbol x) (Sound is_name x)
  by_symbol x = record { holds = λ l a h. h }

  pub by_name : Makes is_name (token identifiers) (λ t. is_name t.text ≡ true)
  by_name = record { holds = λ l t h. h.0 h.1 }

  pub by_empty : {A : Type 0} {Q : A → Type 0} (a : A) → Q a → Makes is_name (empty a) Q
  by_empty {Q = Q} a q = record { holds = λ l b h. subst Q h q }

  pub by_seq : {A B : Type 0} {g : Form A} {h : Form B} {Q : A → Type 0} {R : B → Type 0} → Makes is_name g Q → Makes is_name h R → Makes is_name (seq g h) (λ x. Q x.0 × R x.1)
  by_seq p q = record { holds = λ l x h. (p.holds l x.0 h.0, q.holds l x.1 h.1) }

  either_holds : {A : Type 0} {g h : Form A} {Q : A → Type 0} → Makes is_name g Q → Makes is_name h Q → (l : Limits) (a : A) → HoldsBy (SoundFact is_name) (NamedToken is_name) (either g h) l a → Q a
  either_holds p q l a (inl h) = p.holds l a h
  either_holds p q l a (inr h) = q.holds l a h

  pub by_either : {A : Type 0} {g h : Form A} {Q : A → Type 0} → Makes is_name g Q → Makes is_name h Q → Makes is_name (either g h) Q
  by_either p q = record { holds = either_holds p q }

  pub by_either2 : {A : Type 0} {c : ℕ} {ds : List ℕ} {g h : Form A} {Q : A → Type 0} → Makes is_name g Q → Makes is_name h Q → Makes is_name (either2 c ds g h) Q
  by_either2 p q = record { holds = either_holds p q }

  pub by_made : {A B : Type 0} {f : A → B} {g : Form A} {Q : A → Type 0} {R : B → Type 0} → Makes is_name g Q → ((a : A) → Q a → R (f a)) → Makes is_name (made f g) R
  by_made {R = R} p k = record { holds = λ l b h. subst R h.2 (k h.0 (p.holds l h.0 h.1)) }

  -- what follows from what holds
  pub by_weaker : {A : Type 0} {g : Form A} {Q R : A → Type 0} → Makes is_name g Q → ((a : A) → Q a → R a) → Makes is_name g R
  by_weaker p k = record { holds = λ l a h. k a (p.holds l a h) }

  pub by_placed : {A : Type 0} {g : Form A} {Q : A → Type 0} → Makes is_name g Q → Makes is_name (placed g) (λ x. Q x.1)
  by_placed p = record { holds = λ l x h. p.holds l x.1 h }

  pub by_nested : {A : Type 0} {o : Opening} {g : Form A} {Q : A → Type 0} → Makes is_name g Q → Makes is_name (nested o g) Q
  by_nested p = record { holds = λ l a h. p.holds h.0 a h.2 }

  pub by_under : {A B : Type 0} {called : A → List ℕ} {g : Form A} {h : Form B} {Q : A → Type 0} {R : B → Type 0} → Makes is_name g Q → Makes is_name h R → Makes is_name (under called g h) (λ x. Q x.0 × R x.1)
  by_under {called = called} p q = record { holds = λ l x h. (p.holds l x.0 h.0, q.holds (renamed (called x.0) l) x.1 h.1) }

  or_holds : {B : Type 0} {h : Form B} {R : B → Type 0} → Makes is_name h R → (l : Limits) (T : Lexeme → Type 0) (o : Option B) → HoldsOr (HoldsBy (SoundFact is_name) (NamedToken is_name) h l) T o → OfOption R o
  or_holds q l T None k = tt
  or_holds q l T (Some b) k = q.holds l b k

  pub by_unless : {A B : Type 0} {test : Lexeme → A → Bool} {g : Form A} {h : Form B} {Q : A → Type 0} {R : B → Type 0} → Makes is_name g Q → Makes is_name h R → Makes is_name (unless test g h) (λ x. Q x.0 × OfOption R x.1)
  by_unless p q = record { holds = λ l x h. (p.holds l x.0 h.0, or_holds q l _ x.1 h.1) }

  each_holds : {A : Type 0} {g : Form A} (test : A → Bool) → Makes is_name g (λ a. test a ≡ true) → (l : Limits) (list : List A) → HoldsEach (HoldsBy (SoundFact is_name) (NamedToken is_name) g l) list → list_all test list ≡ true
  each_holds test p l [] h = refl
  each_holds test p l (a ∷ list) h = one_more test a list (p.holds l a h.0) (each_holds test p l list h.1)

  pub by_many : {A : Type 0} {g : Form A} (test : A → Bool) → Makes is_name g (λ a. test a ≡ true) → Makes is_name (many g) (λ list. list_all test list ≡ true)
  by_many test p = record { holds = each_holds test p }

  -- each of the values
  pub by_each : {A : Type 0} {g : Form A} {Q : A → Type 0} → Makes is_name g Q → Makes is_name (many g) (HoldsEach Q)
  by_each {Q = Q} p = record { holds = λ l list h. each_follows _ Q (λ a held. p.holds l a held) list h }

  -- ---- forms

  pub by_optional : {A : Type 0} {g : Form A} {Q : A → Type 0} → Makes is_name g Q → Makes is_name (optional g) (OfOption Q)
  by_optional {Q = Q} p = by_either (by_made p (λ a q. q)) (by_empty {Q = OfOption Q} None tt)

  pub by_behind : {A : Type 0} {c : ℕ} {g : Form A} {Q : A → Type 0} → Makes is_name g Q → Makes is_name (behind c g) Q
  by_behind {c = c} p = by_made (by_seq (anything (token (c ∷ []))) p) (λ x q. q.1)

  pub by_before : {A : Type 0} {c : ℕ} {g : Form A} {Q : A → Type 0} → Makes is_name g Q → Makes is_name (before g c) Q
  by_before {c = c} p = by_made (by_seq p (anything (token (c ∷ [])))) (λ x q. q.0)

  pub by_between : {A : Type 0} {c d : ℕ} {g : Form A} {Q : A → Type 0} → Makes is_name g Q → Makes is_name (between c d g) Q
  by_between p = by_nested (by_behind (by_before p))

  pub by_separated : {A : Type 0} {c : ℕ} {g : Form A} (test : A → Bool) → Makes is_name g (λ a. test a ≡ true) → Makes is_name (separated c g) (λ list. some_by test list ≡ true)
  by_separated test p = by_made (by_seq p (by_many test (by_behind p))) (λ x q. one_more test x.0 x.1 q.0 q.1)

  pub by_separated_each : {A : Type 0} {c : ℕ} {g : Form A} {Q : A → Type 0} → Makes is_name g Q → Makes is_name (separated c g) (HoldsEach Q)
  by_separated_each p = by_made (by_seq p (by_each (by_behind p))) (λ x q. q)

  -- the same, of any number
  pub by_listed : {A : Type 0} {c : ℕ} {g : Form A} (test : A → Bool) → Makes is_name g (λ a. test a ≡ true) → Makes is_name (separated c g) (λ list. list_all test list ≡ true)
  by_listed test p = by_weaker (by_separated test p) (λ list q. each_of_some test list q)
