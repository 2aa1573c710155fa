-- What holds of the parts of what tokens spell by a form: one lemma for each form of productions.
use Rattle.std.proofs.Common.{◌≡◌, ℕ, List, ◌∷◌, inl, inr, Option, Some, None, subst}
use Rattle.mo_grammar.specs.Lexeme.{Lexeme}
use Rattle.mo_grammar.specs.Codes.{end_word}
use Rattle.mo_grammar.specs.Grammar.{a_construct, Limits, left_inside, many}
use Rattle.mo_grammar.specs.Forms.{optional, behind, before, between, separated}
use Rattle.mo_grammar.specs.Symbols.{Symbol, ValueOf, Form}
use Rattle.mo_grammar.specs.Classes.{commented}
use Rattle.mo_unparse.proofs.Holding.{Fact, HoldsEach, HoldsBy, each_follows}

-- of the value, where there is one
abbrev pub HoldsOption : {A : Type 0} → (A → Type 0) → Option A → Type 0
HoldsOption part (Some a) = part a
HoldsOption part None = Unit {0}

-- what follows of what a function makes
pub follows : {A B : Type 0} (f : A → B) (H : A → Type 0) (Q : B → Type 0) → ((a : A) → H a → Q (f a)) → (b : B) → (a : A) × H a × (f a ≡ b) → Q b
follows f H Q k b (a, h, e) = subst Q e (k a h)

module _ (P : Fact Symbol ValueOf) (T : Lexeme → Type 0) where
  pub behind_holds : {A : Type 0} (c : ℕ) (g : Form A) (l : Limits) (a : A) → HoldsBy P T (behind c g) l a → HoldsBy P T g l a
  behind_holds c g l a (y, h, e) = subst (HoldsBy P T g l) e h.1

  pub before_holds : {A : Type 0} (g : Form A) (c : ℕ) (l : Limits) (a : A) → HoldsBy P T (before g c) l a → HoldsBy P T g l a
  before_holds g c l a (y, h, e) = subst (HoldsBy P T g l) e h.0

  pub ended_holds : {A : Type 0} (g : Form A) (c : ℕ) (l : Limits) (a : A) → HoldsBy P T (before (before g end_word) c) l a → HoldsBy P T g l a
  ended_holds g c l a h = before_holds g end_word l a (before_holds (before g end_word) c l a h)

  pub between_holds : {A : Type 0} (c d : ℕ) (g : Form A) (l : Limits) (a : A) → HoldsBy P T (between c d g) l a → (inner : Limits) × (left_inside a_construct l ≡ Some inner) × HoldsBy P T g inner a
  between_holds c d g l a (inner, e, h) = (inner, e, before_holds g d inner a (behind_holds c (before g d) inner a h))

  pub optional_holds : {A : Type 0} (g : Form A) (l : Limits) (o : Option A) → HoldsBy P T (optional g) l o → HoldsOption (HoldsBy P T g l) o
  optional_holds g l o (inl (y, h, e)) = subst (HoldsOption (HoldsBy P T g l)) e h
  optional_holds g l o (inr e) = subst (HoldsOption (HoldsBy P T g l)) e tt

  -- a list that is not empty
  pub separated_holds : {A : Type 0} (c : ℕ) (g : Form A) (l : Limits) (list : List A) → HoldsBy P T (separated c g) l list → (a : A) × (more : List A) × (a ∷ more ≡ list) × HoldsBy P T g l a × HoldsEach (HoldsBy P T g l) more
  separated_holds c g l list (y, h, e) = (y.0, y.1, e, h.0, each_follows (HoldsBy P T (behind c g) l) (HoldsBy P T g l) (behind_holds c g l) y.1 h.1)

  pub each_before_holds : {A : Type 0} (g : Form A) (c : ℕ) (l : Limits) (list : List A) → HoldsBy P T (many (before g c)) l list → HoldsEach (HoldsBy P T g l) list
  each_before_holds g c l list h = each_follows (HoldsBy P T (before g c) l) (HoldsBy P T g l) (before_holds g c l) list h

  pub each_behind_holds : {A : Type 0} (c : ℕ) (g : Form A) (l : Limits) (list : List A) → HoldsBy P T (many (behind c g)) l list → HoldsEach (HoldsBy P T g l) list
  each_behind_holds c g l list h = each_follows (HoldsBy P T (behind c g) l) (HoldsBy P T g l) (behind_holds c g l) list h

  pub commented_holds : {A : Type 0} (g : Form A) (l : Limits) (a : A) → HoldsBy P T (commented g) l a → HoldsBy P T g l a
  commented_holds g l a (y, h, e) = subst (HoldsBy P T g l) e h.0
