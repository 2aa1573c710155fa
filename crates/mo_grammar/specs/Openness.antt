-- Which token is the first that cannot stand where it stands, and which rule it breaks.
use Rattle.std.specs.Prelude.{◌≡◌, ℕ, List, [], ◌∷◌, ◌++◌}
use Rattle.mo_grammar.specs.declared.fault.Fault.{Fault}
use Rattle.mo_grammar.specs.declared.fault.Fault.TheVariants.{Misplaced, Misnamed, TooDeep}
use Rattle.mo_grammar.specs.Lexeme.{Lexeme}
use Rattle.mo_grammar.specs.Grammar.{EndName, any_name, Limits, at_most, end_name_in, Productions, BegunAs}

-- The tokens begin what the production spells, when nesting is not limited.
abbrev pub BegunAtAnyDepth : {S : Type 0} {V : S → Type 0} → Productions S V → EndName → S → List Lexeme → Type 0
BegunAtAnyDepth rule name x tokens = (constructs : ℕ) × (classes : ℕ) × BegunAs rule x (at_most constructs classes name) tokens

-- The tokens before it begin the production within the limits, and the tokens through it do not.
abbrev pub ImpossibleAfter : {S : Type 0} {V : S → Type 0} → Productions S V → S → Limits → List Lexeme → Lexeme → Type 0
ImpossibleAfter rule x l before t = BegunAs rule x l before × (BegunAs rule x l (before ++ t ∷ []) → ⊥)

-- Why: the token is too deep if it could stand there were nesting not limited, otherwise misnamed if it could were the
-- names behind `end` free besides, otherwise misplaced.
abbrev pub FaultAfter : {S : Type 0} {V : S → Type 0} → Productions S V → S → Limits → List Lexeme → Lexeme → Fault → Type 0
FaultAfter rule x l before t TooDeep = BegunAtAnyDepth rule (end_name_in l) x (before ++ t ∷ [])
FaultAfter rule x l before t Misnamed = (BegunAtAnyDepth rule (end_name_in l) x (before ++ t ∷ []) → ⊥) × BegunAtAnyDepth rule any_name x (before ++ t ∷ [])
FaultAfter rule x l before t Misplaced = (BegunAtAnyDepth rule (end_name_in l) x (before ++ t ∷ []) → ⊥) × (BegunAtAnyDepth rule any_name x (before ++ t ∷ []) → ⊥)

-- The front is the longest run of these tokens that begins the production when nesting is not limited, and the rest is what
-- follows it.
pub record LongestFront (S : Type 0) (V : S → Type 0) (rule : Productions S V) (x : S) (name : EndName) (tokens front rest : List Lexeme) : Type 0 where
  pub parts : tokens ≡ front ++ rest
  pub begun : BegunAtAnyDepth rule name x front
  pub ends : (t : Lexeme) (more : List Lexeme) → rest ≡ t ∷ more → BegunAtAnyDepth rule name x (front ++ t ∷ []) → ⊥
