-- Parts of prefixes that have a reader of their own.
use Rattle.std.specs.Prelude.{Bool, [], ◌∷◌}
use Rattle.mo_syntax.specs.declared.class.ElementFlags.{ElementFlags}
use Rattle.mo_grammar.specs.Codes.{redeclare_word, final_word, inner_word, outer_word, class_word, model_word, operator_word, record_word, block_word, expandable_word, connector_word, type_word, package_word, pure_word, impure_word, function_word}
use Rattle.mo_grammar.specs.Grammar.{token, seq, either, made}
use Rattle.mo_grammar.specs.Forms.{optional, flag, behind}
use Rattle.mo_grammar.specs.ClassTrees.{Kinded, one_word_kind, expandable_kind, pure_kind, operator_or}
use Rattle.mo_grammar.specs.Symbols.{Form}

-- (pure | impure) [operator] function
abbrev pub word_pure : Form Kinded
word_pure = made pure_kind (seq (token (pure_word ∷ impure_word ∷ [])) (seq (flag operator_word) (token (function_word ∷ []))))

-- operator [record | function]
abbrev pub word_operator : Form Kinded
word_operator = made operator_or (behind operator_word (optional (token (record_word ∷ function_word ∷ []))))

-- what stands behind `partial` in the prefixes of a class
abbrev pub class_words : Form Kinded
class_words =
    either (made one_word_kind (token (class_word ∷ model_word ∷ record_word ∷ block_word ∷ connector_word ∷ type_word ∷ package_word ∷ function_word ∷ [])))
    (either (made expandable_kind (behind expandable_word (token (connector_word ∷ []))))
    (either word_pure word_operator))

-- the prefixes of an element
abbrev pub words : Form (Bool × (Bool × (Bool × Bool)))
words = seq (flag redeclare_word) (seq (flag final_word) (seq (flag inner_word) (flag outer_word)))

abbrev pub words_of : ElementFlags → Bool × (Bool × (Bool × Bool))
words_of flags = (flags.redeclare, (flags.last, (flags.inner, flags.outer)))
