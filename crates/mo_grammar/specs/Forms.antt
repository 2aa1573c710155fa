-- Forms that productions are built of.
use Rattle.std.specs.Prelude.{ℕ, Bool, true, false, List, [], ◌∷◌, Option, Some, None}
use Rattle.mo_grammar.specs.Lexeme.{Lexeme}
use Rattle.mo_grammar.specs.Grammar.{a_construct, Grammar, empty, token, seq, either, many, made, nested}

abbrev pub first_of : {A B : Type 0} → A × B → A
first_of x = x.0

abbrev pub second_of : {A B : Type 0} → A × B → B
second_of x = x.1

abbrev pub joined : {A : Type 0} → A × List A → List A
joined x = x.0 ∷ x.1

abbrev pub present : Lexeme → Bool
present t = true

-- what leaves no trace in a tree
abbrev pub dropped : {A : Type 0} → A → Unit {0}
dropped x = tt

-- [g]
abbrev pub optional : {S : Type 0} {V : S → Type 0} {A : Type 0} → Grammar S V A → Grammar S V (Option A)
optional g = either (made Some g) (empty None)

-- [c], by whether it stands there
abbrev pub flag : {S : Type 0} {V : S → Type 0} → ℕ → Grammar S V Bool
flag c = either (made present (token (c ∷ []))) (empty false)

-- c g
abbrev pub behind : {S : Type 0} {V : S → Type 0} {A : Type 0} → ℕ → Grammar S V A → Grammar S V A
behind c g = made second_of (seq (token (c ∷ [])) g)

-- g c
abbrev pub before : {S : Type 0} {V : S → Type 0} {A : Type 0} → Grammar S V A → ℕ → Grammar S V A
before g c = made first_of (seq g (token (c ∷ [])))

-- c g d, a construct that counts as nesting
abbrev pub between : {S : Type 0} {V : S → Type 0} {A : Type 0} → ℕ → ℕ → Grammar S V A → Grammar S V A
between c d g = nested a_construct (behind c (before g d))

-- g {c g}
abbrev pub separated : {S : Type 0} {V : S → Type 0} {A : Type 0} → ℕ → Grammar S V A → Grammar S V (List A)
separated c g = made joined (seq g (many (behind c g)))
