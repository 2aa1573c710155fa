-- What begins, and what ends, with the next tokens.
use Rattle.std.specs.Prelude.{◌&&◌, ◌||◌, not, ℕ, Bool, List, [], ◌∷◌}
use Rattle.mo_grammar.specs.Codes.{ident, end_word, if_word, elseif_word, else_word, when_word, elsewhen_word, initial_word, equation_word, algorithm_word, public_word, protected_word, final_word, encapsulated_word, partial_word, class_word, model_word, record_word, block_word, connector_word, type_word, package_word, function_word, expandable_word, pure_word, impure_word, operator_word}
use Rattle.mo_grammar.specs.Lexeme.{Lexeme}
use Rattle.mo_grammar.specs.Reading.{next_in, next_two, Tables}
use Rattle.mo_grammar.specs.Symbols.{ClassDefinitions, EquationItems}
use Rattle.mo_grammar.specs.Tables.{tables}

-- An equation follows: neither the end of the class nor an initial section does.
abbrev pub equation_follows : List Lexeme → Bool
equation_follows w = not (next_two end_word (ident ∷ []) w) && (not (next_two initial_word (equation_word ∷ algorithm_word ∷ []) w) && next_in (Tables.starts tables EquationItems) w)

-- `elseif`, `else` or `end if` comes next.
abbrev pub if_branch_ends : List Lexeme → Bool
if_branch_ends w = next_in (elseif_word ∷ else_word ∷ []) w || next_two end_word (if_word ∷ []) w

-- `elsewhen` or `end when` comes next.
abbrev pub when_branch_ends : List Lexeme → Bool
when_branch_ends w = next_in (elsewhen_word ∷ []) w || next_two end_word (when_word ∷ []) w

-- what a section begins with
abbrev pub section_codes : List ℕ
section_codes = public_word ∷ protected_word ∷ equation_word ∷ algorithm_word ∷ initial_word ∷ []

-- what a class may begin with
abbrev pub class_codes : List ℕ
class_codes = encapsulated_word ∷ partial_word ∷ class_word ∷ model_word ∷ record_word ∷ block_word ∷ connector_word ∷ type_word ∷ package_word ∷ function_word ∷ expandable_word ∷ pure_word ∷ impure_word ∷ operator_word ∷ []

abbrev pub definition_codes : List ℕ
definition_codes = final_word ∷ Tables.starts tables ClassDefinitions
