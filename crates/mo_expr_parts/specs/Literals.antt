-- What a literal or `end` stands for.
use Rattle.std.specs.Prelude.{◌==◌, ◌^◌, ◌-◌, min, pos, true, false, if◌then◌else◌}
use Rattle.mo_syntax.specs.declared.expr.Node.{Node}
use Rattle.mo_syntax.specs.declared.expr.Node.TheVariants.{Whole, Decimal, Str, Truth, EndMark}
use Rattle.mo_grammar.specs.Lexeme.{Lexeme, code_of}
use Rattle.mo_grammar.specs.Codes.{whole, decimal, string, false_word, true_word}
use Rattle.mo_grammar.specs.Trees.{digits_after}

abbrev pub literal_tree : Lexeme → Node
literal_tree t =
    if code_of t == whole then Whole (pos (min (digits_after 0 t.text) (2 ^ 63 - 1)))
    else (if code_of t == decimal then Decimal t.text else (if code_of t == string then Str t.text
    else (if code_of t == false_word then Truth false else (if code_of t == true_word then Truth true else EndMark))))
