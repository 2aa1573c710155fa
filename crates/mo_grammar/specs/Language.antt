-- The language of the profile: what its grammar spells and begins, and how it is read from left to right.
use Rattle.std.specs.Prelude.{◌≡◌, ◌↔◌, ℕ, List, [], ◌∷◌, ◌++◌, false}
use Rattle.mo_grammar.specs.declared.fault.Fault.{Fault}
use Rattle.mo_grammar.specs.Codes.{ident}
use Rattle.mo_grammar.specs.Lexeme.{Lexeme}
use Rattle.mo_grammar.specs.Grammar.{EndName, this_name, Limits, at_most, end_name_in, has, SpelledBy, SpelledIn, SpelledAs, BegunAs}
use Rattle.mo_grammar.specs.Reading.{Outcome, read, stuck, reads_as, reads_by, Tables}
use Rattle.mo_grammar.specs.Openness.{BegunAtAnyDepth, ImpossibleAfter, FaultAfter, LongestFront}
use Rattle.mo_grammar.specs.Symbols.{Symbol, ValueOf, Form}
use Rattle.mo_grammar.specs.Productions.{rule}
use Rattle.mo_grammar.specs.Tables.{tables}

-- At most 128 constructs and 32 classes may be open inside one another. No name may stand behind `end` outside all classes.
abbrev pub whole_limits : Limits
whole_limits = at_most 128 32 (this_name [])

-- what is left of the limits inside that many constructs
abbrev pub limits_inside : ℕ → Limits
limits_inside left = at_most left 32 (this_name [])

-- The tokens spell the value of the production, within the limits.
abbrev pub Spells : (x : Symbol) → Limits → List Lexeme → ValueOf x → Type 0
Spells x l tokens a = SpelledAs rule x l tokens a

-- The tokens begin what the production spells, and open no more than the limits allow.
abbrev pub Begins : Symbol → Limits → List Lexeme → Type 0
Begins x l tokens = BegunAs rule x l tokens

-- The same, with no limit of nesting.
abbrev pub BeginsAtAnyDepth : EndName → Symbol → List Lexeme → Type 0
BeginsAtAnyDepth name x tokens = BegunAtAnyDepth rule name x tokens

-- The front is the longest run of the tokens that begins the production when nesting is not limited.
abbrev pub IsLongestFront : Symbol → EndName → (tokens front rest : List Lexeme) → Type 0
IsLongestFront x name tokens front rest = LongestFront Symbol ValueOf rule x name tokens front rest

-- What stands before the token begins the production, and what ends with it does not.
abbrev pub IsImpossibleAfter : Symbol → Limits → List Lexeme → Lexeme → Type 0
IsImpossibleAfter x l before t = ImpossibleAfter rule x l before t

-- why it is impossible
abbrev pub HasFaultAfter : Symbol → Limits → List Lexeme → Lexeme → Fault → Type 0
HasFaultAfter x l before t fault = FaultAfter rule x l before t fault

-- Behind a whole spelling of the production no identifier makes it longer.
abbrev pub EndsBeforeNames : Symbol → Type 0
EndsBeforeNames x = has (Tables.laters tables x) ident ≡ false

-- Reading the production from left to right.
unfoldable pub reads : (x : Symbol) → Limits → List Lexeme → Outcome (ValueOf x)
reads x l tokens = reads_as tables rule x l tokens

-- Reading by a part of the grammar.
abbrev pub reads_form : {A : Type 0} → Form A → Limits → List Lexeme → Outcome A
reads_form g l tokens = reads_by (Tables.starts tables) reads g l tokens

-- The tokens spell the value by a part of the grammar, within the limits.
abbrev pub SpelledByForm : {A : Type 0} → Form A → Limits → List Lexeme → A → Type 0
SpelledByForm g l tokens a = (n : ℕ) × SpelledBy (SpelledIn rule n) g l tokens a

-- ---- what the laws say of a production

-- Both spell the same: the same value, by the same tokens, within the same limits.
abbrev pub SpellAlike : {A : Type 0} → (left right : Limits → List Lexeme → A → Type 0) → Type 0
SpellAlike {A} left right = (l : Limits) (tokens : List Lexeme) (a : A) → left l tokens a ↔ right l tokens a

-- Tokens spell at most one tree of it, whatever the limits are.
abbrev pub SpellsOneTree : Symbol → Type 0
SpellsOneTree x = (l m : Limits) (tokens : List Lexeme) (a b : ValueOf x) → Spells x l tokens a → Spells x m tokens b → a ≡ b

-- Some tokens behind these complete a spelling of it, where nesting goes as deep as it has to.
abbrev pub CanBeCompleted : Symbol → Limits → List Lexeme → Type 0
CanBeCompleted x l tokens =
    (more : List Lexeme) × (a : ValueOf x) × (constructs : ℕ) × (classes : ℕ) × Spells x (at_most constructs classes (end_name_in l)) (tokens ++ more) a

-- Each front of what is spelled begins it.
abbrev pub FrontsBegin : Symbol → Type 0
FrontsBegin x = (l : Limits) (tokens more : List Lexeme) (a : ValueOf x) → Spells x l (tokens ++ more) a → Begins x l tokens

-- What is read of it is its longest front, which is spelled within the limits.
abbrev pub ReadsOnlyLongest : Symbol → Type 0
ReadsOnlyLongest x = (l : Limits) (tokens : List Lexeme) (a : ValueOf x) (rest : List Lexeme) → reads x l tokens ≡ read a rest
    → (front : List Lexeme) × IsLongestFront x (end_name_in l) tokens front rest × Spells x l front a

-- Where its longest front is spelled within the limits, it is read.
abbrev pub ReadsEachLongest : Symbol → Type 0
ReadsEachLongest x = (l : Limits) (tokens front rest : List Lexeme) (a : ValueOf x) → IsLongestFront x (end_name_in l) tokens front rest → Spells x l front a
    → reads x l tokens ≡ read a rest

-- Where reading it is stuck, what was taken begins it within the limits, and the next token is impossible behind that, for this reason.
abbrev pub HaltsAtImpossible : Symbol → Type 0
HaltsAtImpossible x = (l : Limits) (tokens rest : List Lexeme) (fault : Fault) → reads x l tokens ≡ stuck fault rest
    → (before : List Lexeme) × (tokens ≡ before ++ rest) × Begins x l before
    × ((t : Lexeme) (more : List Lexeme) → rest ≡ t ∷ more → IsImpossibleAfter x l before t × HasFaultAfter x l before t fault)

-- Tokens have at most one that is impossible behind what stands before it.
abbrev pub HasOneImpossible : Symbol → Type 0
HasOneImpossible x = (l : Limits) (tokens before after other rest : List Lexeme) (t u : Lexeme) → tokens ≡ before ++ t ∷ after → tokens ≡ other ++ u ∷ rest
    → IsImpossibleAfter x l before t → IsImpossibleAfter x l other u → before ≡ other

-- Where reading it is stuck for this reason, its longest front ends there and is no whole spelling.
abbrev pub HaltsUnfinished : Fault → Symbol → Type 0
HaltsUnfinished fault x = (l : Limits) (tokens rest : List Lexeme) → reads x l tokens ≡ stuck fault rest
    → (front : List Lexeme) × IsLongestFront x (end_name_in l) tokens front rest
    × ((m : Limits) (a : ValueOf x) → end_name_in m ≡ end_name_in l → Spells x m front a → ⊥)

-- It is read in the same way whatever the limit of classes and the name behind `end` are.
abbrev pub ReadsWithoutClasses : Symbol → Type 0
ReadsWithoutClasses x = (constructs classes others : ℕ) (name other : EndName) (tokens : List Lexeme)
    → reads x (at_most constructs classes name) tokens ≡ reads x (at_most constructs others other) tokens
