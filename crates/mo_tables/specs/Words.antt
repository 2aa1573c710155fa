-- The words of the language by name, and the code that a word has among them.
use Rattle.std.specs.Prelude.{ℕ, List, [], ◌∷◌, Option, codes}
use Rattle.std.specs.List.{position_from}
use Rattle.std.specs.Str.{bytes_eq}

-- the place of the text among the words, from 0, where it is one of them
abbrev pub code_in : List (List ℕ) → List ℕ → Option ℕ
code_in words text = position_from (λ word. bytes_eq word text) 0 words

-- the reserved words (Modelica Language Specification 3.5, section 2.3.3)
unfoldable pub keywords : List (List ℕ)
keywords =
    codes "algorithm" ∷ codes "and" ∷ codes "annotation" ∷ codes "block" ∷ codes "break" ∷ codes "class" ∷
    codes "connect" ∷ codes "connector" ∷ codes "constant" ∷ codes "constrainedby" ∷ codes "der" ∷ codes "discrete" ∷
    codes "each" ∷ codes "else" ∷ codes "elseif" ∷ codes "elsewhen" ∷ codes "encapsulated" ∷ codes "end" ∷
    codes "enumeration" ∷ codes "equation" ∷ codes "expandable" ∷ codes "extends" ∷ codes "external" ∷ codes "false" ∷
    codes "final" ∷ codes "flow" ∷ codes "for" ∷ codes "function" ∷ codes "if" ∷ codes "import" ∷
    codes "impure" ∷ codes "in" ∷ codes "initial" ∷ codes "inner" ∷ codes "input" ∷ codes "loop" ∷
    codes "model" ∷ codes "not" ∷ codes "operator" ∷ codes "or" ∷ codes "outer" ∷ codes "output" ∷
    codes "package" ∷ codes "parameter" ∷ codes "partial" ∷ codes "protected" ∷ codes "public" ∷ codes "pure" ∷
    codes "record" ∷ codes "redeclare" ∷ codes "replaceable" ∷ codes "return" ∷ codes "stream" ∷ codes "then" ∷
    codes "true" ∷ codes "type" ∷ codes "when" ∷ codes "while" ∷ codes "within" ∷ []

-- the operators and marks
unfoldable pub operators : List (List ℕ)
operators =
    codes "(" ∷ codes ")" ∷ codes "*" ∷ codes "+" ∷ codes "," ∷ codes "-" ∷
    codes "." ∷ codes ".*" ∷ codes ".+" ∷ codes ".-" ∷ codes "./" ∷ codes ".^" ∷
    codes "/" ∷ codes ":" ∷ codes ":=" ∷ codes ";" ∷ codes "<" ∷ codes "<=" ∷
    codes "<>" ∷ codes "=" ∷ codes "==" ∷ codes ">" ∷ codes ">=" ∷ codes "[" ∷
    codes "]" ∷ codes "^" ∷ codes "{" ∷ codes "}" ∷ []

-- the functions that expressions may call (Modelica Language Specification 3.5, sections 3.7 and 10.3)
unfoldable pub functions : List (List ℕ)
functions =
    codes "abs" ∷ codes "acos" ∷ codes "asin" ∷ codes "atan" ∷ codes "atan2" ∷ codes "cos" ∷
    codes "cosh" ∷ codes "cross" ∷ codes "div" ∷ codes "exp" ∷ codes "fill" ∷ codes "identity" ∷
    codes "log" ∷ codes "log10" ∷ codes "max" ∷ codes "min" ∷ codes "mod" ∷ codes "ndims" ∷
    codes "noEvent" ∷ codes "ones" ∷ codes "product" ∷ codes "rem" ∷ codes "sin" ∷ codes "sinh" ∷
    codes "size" ∷ codes "sqrt" ∷ codes "sum" ∷ codes "tan" ∷ codes "tanh" ∷ codes "transpose" ∷
    codes "zeros" ∷ []
