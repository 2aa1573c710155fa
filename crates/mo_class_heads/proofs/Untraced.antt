-- Loops whose items leave no trace in a tree.
use Rattle.std.proofs.Common.{◌≡◌, true, false, List, [], ◌∷◌, refl, sym, ap, ◌∙◌}
use Rattle.mo_grammar.specs.Lexeme.{Lexeme}
use Rattle.mo_grammar.specs.Grammar.{Limits, many}
use Rattle.mo_grammar.specs.Reading.{Outcome, read, stuck, unfinished, ◌>>=◌, is_decided, may_be_empty, first_codes, next_in}
use Rattle.mo_grammar.specs.Symbols.{Form}
use Rattle.mo_grammar.specs.Tables.{tables}
use Rattle.mo_grammar.specs.Language.{reads_form}
use Rattle.mo_grammar.proofs.Loops.{with_front, turn}

-- what is read, without its value
abbrev pub untraced : {A : Type 0} → Outcome A → Outcome (Unit {0})
untraced o = o >>= λ x. read tt x.1

front_untraced : {A : Type 0} (front : List A) (o : Outcome (List A)) → untraced (with_front front o) ≡ untraced o
front_untraced front (read list rest) = refl
front_untraced front (stuck fault rest) = refl
front_untraced front unfinished = refl

-- One more item, without its value.
pub untraced_turn : {A : Type 0} (g : Form A) → is_decided tables g ≡ true → may_be_empty g ≡ false → (l : Limits) (w : List Lexeme) (a : A) (rest : List Lexeme) (all : Outcome (Unit {0})) → true ≡ next_in (first_codes tables.starts g) w → reads_form g l w ≡ read a rest → untraced (reads_form (many g) l w) ≡ all → untraced (reads_form (many g) l rest) ≡ all
untraced_turn g d e l w a rest all n r so_far =
    sym (front_untraced (a ∷ []) (reads_form (many g) l rest)) ∙ ap untraced (turn g d e l [] (a ∷ []) w a rest (with_front [] (reads_form (many g) l w)) n r refl refl) ∙ front_untraced [] (reads_form (many g) l w) ∙ so_far
