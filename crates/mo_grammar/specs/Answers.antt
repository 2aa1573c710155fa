-- What the answer of a reader says of reading by the grammar.
use Rattle.std.specs.Prelude.{◌≡◌, ◌-◌, ℕ, List, [], ◌∷◌, ◌++◌, ◌⊎◌, drop, if◌then◌else◌, Result, Ok, Err}
use Rattle.std.specs.Borrow.{Bor}
use Rattle.mo_syntax.specs.declared.place.Broken.{Broken}
use Rattle.mo_syntax.specs.declared.place.Stop.{Stop}
use Rattle.mo_syntax.specs.declared.place.Stop.TheVariants.{Broken as broken, NoMemory as no_memory}
use Rattle.mo_syntax.specs.declared.token.Token.{Token}
use Rattle.mo_grammar.specs.declared.fault.Fault.{Fault}
use Rattle.mo_grammar.specs.declared.fault.Fault.TheVariants.{Misplaced, TooDeep}
use Rattle.mo_grammar.specs.declared.reading.Halt.{Halt}
use Rattle.mo_grammar.specs.declared.reading.Halt.TheVariants.{NoMemory, Stuck}
use Rattle.mo_grammar.specs.Faults.{rule_of}
use Rattle.mo_grammar.specs.Lexeme.{Lexeme, lexemes}
use Rattle.mo_grammar.specs.Grammar.{Limits, this_name, end_name_in}
use Rattle.mo_grammar.specs.Reading.{Outcome, read, stuck, next_in, place_of_first}
use Rattle.mo_grammar.specs.Symbols.{Symbol, ValueOf, Form}
use Rattle.mo_grammar.specs.Language.{Spells, Begins, BeginsAtAnyDepth, IsLongestFront, IsImpossibleAfter, limits_inside, whole_limits, reads_form}

-- A value is what is read, and a halt at a token is where reading is stuck, for that reason; want of memory says nothing.
abbrev pub Gives : {A B : Type 0} → (A → Outcome B) → Result A Halt → Outcome B → Type 0
Gives seen (Ok x) outcome = outcome ≡ seen x
Gives seen (Err (Stuck fault rest)) outcome = outcome ≡ stuck fault (lexemes rest.now)
Gives seen (Err NoMemory) outcome = Unit {0}

-- what is left of the tokens from a place on
abbrev pub from : List Token → ℕ → List Lexeme
from tokens at = lexemes (drop at tokens)

-- the rule that the fault names, at the first of these tokens
abbrev pub broken_at : Fault → List Lexeme → Broken
broken_at fault rest = record { rule = rule_of fault; place = place_of_first rest }

-- a value with the tokens behind it
abbrev pub with_rest : {A : Type 0} → A × Bor (List Token) → Outcome A
with_rest x = read x.0 (lexemes x.1.now)

-- the same, of what a value is seen as
abbrev pub as_read : {A B : Type 0} → (A → B) → A × Bor (List Token) → Outcome B
as_read seen x = read (seen x.0) (lexemes x.1.now)

-- What a value is seen as is what is read, with the tokens behind it, and a halt is where reading is stuck.
abbrev pub ReadsAs : {A B : Type 0} → (A → B) → Result (A × Bor (List Token)) Halt → Outcome B → Type 0
ReadsAs seen result outcome = Gives (as_read seen) result outcome

-- reading by a part of the grammar inside so many constructs less than the limit
abbrev pub reads_inside : {A : Type 0} → Form A → ℕ → List Token → Outcome A
reads_inside g left tokens = reads_form g (limits_inside left) (lexemes tokens)

-- reading by a part of the grammar that holds no construct
abbrev pub reads_whole : {A : Type 0} → Form A → List Token → Outcome A
reads_whole g tokens = reads_form g whole_limits (lexemes tokens)

-- Why a construct that one of these codes opens cannot stand here, where the limit of nesting is reached.
abbrev pub fault_past_limit : List ℕ → List Lexeme → Fault
fault_past_limit openings tokens = if next_in openings tokens then TooDeep else Misplaced

-- ---- what a call answers that reads one production from a place on

-- what is left of the limits inside so many constructs; where these pass 128, as inside 128
abbrev pub limits_at : ℕ → Limits
limits_at nest = limits_inside (128 - nest)

-- The longest run of the tokens from one place on that begins the production, when nesting is not limited, ends before the
-- other place, and spells the value within the limits.
pub record IsLongestSpelling (x : Symbol) (nest : ℕ) (tokens : List Token) (at : ℕ) (a : ValueOf x) (end : ℕ) : Type 0 where
  pub front : List Lexeme
  pub longest : IsLongestFront x (this_name []) (from tokens at) front (from tokens end)
  pub spells : Spells x (limits_at nest) front a

-- The answer is that value with the place behind it, where memory suffices.
abbrev pub IsAnswer : {A : Type 0} → A → List Lexeme → List Token → Result (A × ℕ) Stop → Type 0
IsAnswer a rest tokens (Ok x) = (x.0 ≡ a) × (from tokens x.1 ≡ rest)
IsAnswer a rest tokens (Err (broken b)) = ⊥
IsAnswer a rest tokens (Err no_memory) = Unit {0}

-- Rule 6: the longest run that begins the production opens no more than the limits allow and spells nothing, whatever the
-- limits are, and the place is that of the token behind it, the first with which nothing begins.
pub record IsMisplaced (x : Symbol) (l : Limits) (tokens : List Lexeme) (b : Broken) : Type 0 where
  pub front : List Lexeme
  pub rest : List Lexeme
  pub longest : IsLongestFront x (this_name []) tokens front rest
  pub within : Begins x l front
  pub unspelled : (m : Limits) (a : ValueOf x) → end_name_in m ≡ this_name [] → Spells x m front a → ⊥
  pub is : b ≡ broken_at Misplaced rest

-- Rule 8: the tokens before that token begin the production within the limits, and the tokens through it begin it only past
-- them.
pub record IsTooDeep (x : Symbol) (l : Limits) (tokens : List Lexeme) (b : Broken) : Type 0 where
  pub before : List Lexeme
  pub token : Lexeme
  pub rest : List Lexeme
  pub parts : tokens ≡ before ++ token ∷ rest
  pub impossible : IsImpossibleAfter x l before token
  pub past : BeginsAtAnyDepth (this_name []) x (before ++ token ∷ [])
  pub is : b ≡ broken_at TooDeep (token ∷ rest)

-- Where the longest run of the tokens from a place on that begins the production spells a value within the limits, the answer is that value.
abbrev pub AnswersLongest : (x : Symbol) → ℕ → List Token → ℕ → Result (ValueOf x × ℕ) Stop → Type 0
AnswersLongest x nest tokens at result = (front rest : List Lexeme) (a : ValueOf x) → IsLongestFront x (this_name []) (from tokens at) front rest
    → Spells x (limits_at nest) front a → IsAnswer a rest tokens result

-- A refusal is one of the two; want of memory says nothing.
abbrev pub IsRefusal : {A : Type 0} → (x : Symbol) → ℕ → List Lexeme → Result A Stop → Type 0
IsRefusal x nest tokens (Ok a) = Unit {0}
IsRefusal x nest tokens (Err (broken b)) = IsMisplaced x (limits_at nest) tokens b ⊎ IsTooDeep x (limits_at nest) tokens b
IsRefusal x nest tokens (Err no_memory) = Unit {0}
