-- The code of each word by its name.
use Rattle.std.proofs.Common.{◌≡◌, Some, refl, codes}
use Rattle.mo_tables.specs.Words.{keywords, operators, functions, code_in}
use Rattle.mo_tables.specs.declared.keywords.TheConstants.{ALGORITHM, AND, ANNOTATION, BLOCK, BREAK, CLASS, CONNECT, CONNECTOR, CONSTANT, CONSTRAINEDBY, DER, DISCRETE, EACH, ELSE, ELSEIF, ELSEWHEN, ENCAPSULATED, END, ENUMERATION, EQUATION, EXPANDABLE, EXTENDS, EXTERNAL, FALSE, FINAL, FLOW, FOR, FUNCTION, IF, IMPORT, IMPURE, IN, INITIAL, INNER, INPUT, LOOP, MODEL, NOT, OPERATOR, OR, OUTER, OUTPUT, PACKAGE, PARAMETER, PARTIAL, PROTECTED, PUBLIC, PURE, RECORD, REDECLARE, REPLACEABLE, RETURN, STREAM, THEN, TRUE, TYPE, WHEN, WHILE, WITHIN}
use Rattle.mo_tables.specs.declared.operators.TheConstants.{OPEN_PAREN, CLOSE_PAREN, STAR, PLUS, COMMA, MINUS, DOT, DOT_STAR, DOT_PLUS, DOT_MINUS, DOT_SLASH, DOT_CARET, SLASH, COLON, ASSIGN, SEMICOLON, LESS, LESS_EQUAL, NOT_EQUAL, EQUALS, DOUBLE_EQUALS, GREATER, GREATER_EQUAL, OPEN_BRACKET, CLOSE_BRACKET, CARET, OPEN_BRACE, CLOSE_BRACE}
use Rattle.mo_tables.specs.declared.functions.TheConstants.{ABS, ACOS, ASIN, ATAN, ATAN2, COS, COSH, CROSS, DIV, EXP, FILL, IDENTITY, LOG, LOG10, MAX, MIN, MOD, NDIMS, NO_EVENT, ONES, PRODUCT, REM, SIN, SINH, SIZE, SQRT, SUM, TAN, TANH, TRANSPOSE, ZEROS}

pub keyword_algorithm : code_in keywords (codes "algorithm") ≡ Some ALGORITHM
unfolding keywords
keyword_algorithm = refl

pub keyword_and : code_in keywords (codes "and") ≡ Some AND
unfolding keywords
keyword_and = refl

pub keyword_annotation : code_in keywords (codes "annotation") ≡ Some ANNOTATION
unfolding keywords
keyword_annotation = refl

pub keyword_block : code_in keywords (codes "block") ≡ Some BLOCK
unfolding keywords
keyword_block = refl

pub keyword_break : code_in keywords (codes "break") ≡ Some BREAK
unfolding keywords
keyword_break = refl

pub keyword_class : code_in keywords (codes "class") ≡ Some CLASS
unfolding keywords
keyword_class = refl

pub keyword_connect : code_in keywords (codes "connect") ≡ Some CONNECT
unfolding keywords
keyword_connect = refl

pub keyword_connector : code_in keywords (codes "connector") ≡ Some CONNECTOR
unfolding keywords
keyword_connector = refl

pub keyword_constant : code_in keywords (codes "constant") ≡ Some CONSTANT
unfolding keywords
keyword_constant = refl

pub keyword_constrainedby : code_in keywords (codes "constrainedby") ≡ Some CONSTRAINEDBY
unfolding keywords
keyword_constrainedby = refl

pub keyword_der : code_in keywords (codes "der") ≡ Some DER
unfolding keywords
keyword_der = refl

pub keyword_discrete : code_in keywords (codes "discrete") ≡ Some DISCRETE
unfolding keywords
keyword_discrete = refl

pub keyword_each : code_in keywords (codes "each") ≡ Some EACH
unfolding keywords
keyword_each = refl

pub keyword_else : code_in keywords (codes "else") ≡ Some ELSE
unfolding keywords
keyword_else = refl

pub keyword_elseif : code_in keywords (codes "elseif") ≡ Some ELSEIF
unfolding keywords
keyword_elseif = refl

pub keyword_elsewhen : code_in keywords (codes "elsewhen") ≡ Some ELSEWHEN
unfolding keywords
keyword_elsewhen = refl

pub keyword_encapsulated : code_in keywords (codes "encapsulated") ≡ Some ENCAPSULATED
unfolding keywords
keyword_encapsulated = refl

pub keyword_end : code_in keywords (codes "end") ≡ Some END
unfolding keywords
keyword_end = refl

pub keyword_enumeration : code_in keywords (codes "enumeration") ≡ Some ENUMERATION
unfolding keywords
keyword_enumeration = refl

pub keyword_equation : code_in keywords (codes "equation") ≡ Some EQUATION
unfolding keywords
keyword_equation = refl

pub keyword_expandable : code_in keywords (codes "expandable") ≡ Some EXPANDABLE
unfolding keywords
keyword_expandable = refl

pub keyword_extends : code_in keywords (codes "extends") ≡ Some EXTENDS
unfolding keywords
keyword_extends = refl

pub keyword_external : code_in keywords (codes "external") ≡ Some EXTERNAL
unfolding keywords
keyword_external = refl

pub keyword_false : code_in keywords (codes "false") ≡ Some FALSE
unfolding keywords
keyword_false = refl

pub keyword_final : code_in keywords (codes "final") ≡ Some FINAL
unfolding keywords
keyword_final = refl

pub keyword_flow : code_in keywords (codes "flow") ≡ Some FLOW
unfolding keywords
keyword_flow = refl

pub keyword_for : code_in keywords (codes "for") ≡ Some FOR
unfolding keywords
keyword_for = refl

pub keyword_function : code_in keywords (codes "function") ≡ Some FUNCTION
unfolding keywords
keyword_function = refl

pub keyword_if : code_in keywords (codes "if") ≡ Some IF
unfolding keywords
keyword_if = refl

pub keyword_import : code_in keywords (codes "import") ≡ Some IMPORT
unfolding keywords
keyword_import = refl

pub keyword_impure : code_in keywords (codes "impure") ≡ Some IMPURE
unfolding keywords
keyword_impure = refl

pub keyword_in : code_in keywords (codes "in") ≡ Some IN
unfolding keywords
keyword_in = refl

pub keyword_initial : code_in keywords (codes "initial") ≡ Some INITIAL
unfolding keywords
keyword_initial = refl

pub keyword_inner : code_in keywords (codes "inner") ≡ Some INNER
unfolding keywords
keyword_inner = refl

pub keyword_input : code_in keywords (codes "input") ≡ Some INPUT
unfolding keywords
keyword_input = refl

pub keyword_loop : code_in keywords (codes "loop") ≡ Some LOOP
unfolding keywords
keyword_loop = refl

pub keyword_model : code_in keywords (codes "model") ≡ Some MODEL
unfolding keywords
keyword_model = refl

pub keyword_not : code_in keywords (codes "not") ≡ Some NOT
unfolding keywords
keyword_not = refl

pub keyword_operator : code_in keywords (codes "operator") ≡ Some OPERATOR
unfolding keywords
keyword_operator = refl

pub keyword_or : code_in keywords (codes "or") ≡ Some OR
unfolding keywords
keyword_or = refl

pub keyword_outer : code_in keywords (codes "outer") ≡ Some OUTER
unfolding keywords
keyword_outer = refl

pub keyword_output : code_in keywords (codes "output") ≡ Some OUTPUT
unfolding keywords
keyword_output = refl

pub keyword_package : code_in keywords (codes "package") ≡ Some PACKAGE
unfolding keywords
keyword_package = refl

pub keyword_parameter : code_in keywords (codes "parameter") ≡ Some PARAMETER
unfolding keywords
keyword_parameter = refl

pub keyword_partial : code_in keywords (codes "partial") ≡ Some PARTIAL
unfolding keywords
keyword_partial = refl

pub keyword_protected : code_in keywords (codes "protected") ≡ Some PROTECTED
unfolding keywords
keyword_protected = refl

pub keyword_public : code_in keywords (codes "public") ≡ Some PUBLIC
unfolding keywords
keyword_public = refl

pub keyword_pure : code_in keywords (codes "pure") ≡ Some PURE
unfolding keywords
keyword_pure = refl

pub keyword_record : code_in keywords (codes "record") ≡ Some RECORD
unfolding keywords
keyword_record = refl

pub keyword_redeclare : code_in keywords (codes "redeclare") ≡ Some REDECLARE
unfolding keywords
keyword_redeclare = refl

pub keyword_replaceable : code_in keywords (codes "replaceable") ≡ Some REPLACEABLE
unfolding keywords
keyword_replaceable = refl

pub keyword_return : code_in keywords (codes "return") ≡ Some RETURN
unfolding keywords
keyword_return = refl

pub keyword_stream : code_in keywords (codes "stream") ≡ Some STREAM
unfolding keywords
keyword_stream = refl

pub keyword_then : code_in keywords (codes "then") ≡ Some THEN
unfolding keywords
keyword_then = refl

pub keyword_true : code_in keywords (codes "true") ≡ Some TRUE
unfolding keywords
keyword_true = refl

pub keyword_type : code_in keywords (codes "type") ≡ Some TYPE
unfolding keywords
keyword_type = refl

pub keyword_when : code_in keywords (codes "when") ≡ Some WHEN
unfolding keywords
keyword_when = refl

pub keyword_while : code_in keywords (codes "while") ≡ Some WHILE
unfolding keywords
keyword_while = refl

pub keyword_within : code_in keywords (codes "within") ≡ Some WITHIN
unfolding keywords
keyword_within = refl

pub operator_open_paren : code_in operators (codes "(") ≡ Some OPEN_PAREN
unfolding operators
operator_open_paren = refl

pub operator_close_paren : code_in operators (codes ")") ≡ Some CLOSE_PAREN
unfolding operators
operator_close_paren = refl

pub operator_star : code_in operators (codes "*") ≡ Some STAR
unfolding operators
operator_star = refl

pub operator_plus : code_in operators (codes "+") ≡ Some PLUS
unfolding operators
operator_plus = refl

pub operator_comma : code_in operators (codes ",") ≡ Some COMMA
unfolding operators
operator_comma = refl

pub operator_minus : code_in operators (codes "-") ≡ Some MINUS
unfolding operators
operator_minus = refl

pub operator_dot : code_in operators (codes ".") ≡ Some DOT
unfolding operators
operator_dot = refl

pub operator_dot_star : code_in operators (codes ".*") ≡ Some DOT_STAR
unfolding operators
operator_dot_star = refl

pub operator_dot_plus : code_in operators (codes ".+") ≡ Some DOT_PLUS
unfolding operators
operator_dot_plus = refl

pub operator_dot_minus : code_in operators (codes ".-") ≡ Some DOT_MINUS
unfolding operators
operator_dot_minus = refl

pub operator_dot_slash : code_in operators (codes "./") ≡ Some DOT_SLASH
unfolding operators
operator_dot_slash = refl

pub operator_dot_caret : code_in operators (codes ".^") ≡ Some DOT_CARET
unfolding operators
operator_dot_caret = refl

pub operator_slash : code_in operators (codes "/") ≡ Some SLASH
unfolding operators
operator_slash = refl

pub operator_colon : code_in operators (codes ":") ≡ Some COLON
unfolding operators
operator_colon = refl

pub operator_assign : code_in operators (codes ":=") ≡ Some ASSIGN
unfolding operators
operator_assign = refl

pub operator_semicolon : code_in operators (codes ";") ≡ Some SEMICOLON
unfolding operators
operator_semicolon = refl

pub operator_less : code_in operators (codes "<") ≡ Some LESS
unfolding operators
operator_less = refl

pub operator_less_equal : code_in operators (codes "<=") ≡ Some LESS_EQUAL
unfolding operators
operator_less_equal = refl

pub operator_not_equal : code_in operators (codes "<>") ≡ Some NOT_EQUAL
unfolding operators
operator_not_equal = refl

pub operator_equals : code_in operators (codes "=") ≡ Some EQUALS
unfolding operators
operator_equals = refl

pub operator_double_equals : code_in operators (codes "==") ≡ Some DOUBLE_EQUALS
unfolding operators
operator_double_equals = refl

pub operator_greater : code_in operators (codes ">") ≡ Some GREATER
unfolding operators
operator_greater = refl

pub operator_greater_equal : code_in operators (codes ">=") ≡ Some GREATER_EQUAL
unfolding operators
operator_greater_equal = refl

pub operator_open_bracket : code_in operators (codes "[") ≡ Some OPEN_BRACKET
unfolding operators
operator_open_bracket = refl

pub operator_close_bracket : code_in operators (codes "]") ≡ Some CLOSE_BRACKET
unfolding operators
operator_close_bracket = refl

pub operator_caret : code_in operators (codes "^") ≡ Some CARET
unfolding operators
operator_caret = refl

pub operator_open_brace : code_in operators (codes "{") ≡ Some OPEN_BRACE
unfolding operators
operator_open_brace = refl

pub operator_close_brace : code_in operators (codes "}") ≡ Some CLOSE_BRACE
unfolding operators
operator_close_brace = refl

pub function_abs : code_in functions (codes "abs") ≡ Some ABS
unfolding functions
function_abs = refl

pub function_acos : code_in functions (codes "acos") ≡ Some ACOS
unfolding functions
function_acos = refl

pub function_asin : code_in functions (codes "asin") ≡ Some ASIN
unfolding functions
function_asin = refl

pub function_atan : code_in functions (codes "atan") ≡ Some ATAN
unfolding functions
function_atan = refl

pub function_atan2 : code_in functions (codes "atan2") ≡ Some ATAN2
unfolding functions
function_atan2 = refl

pub function_cos : code_in functions (codes "cos") ≡ Some COS
unfolding functions
function_cos = refl

pub function_cosh : code_in functions (codes "cosh") ≡ Some COSH
unfolding functions
function_cosh = refl

pub function_cross : code_in functions (codes "cross") ≡ Some CROSS
unfolding functions
function_cross = refl

pub function_div : code_in functions (codes "div") ≡ Some DIV
unfolding functions
function_div = refl

pub function_exp : code_in functions (codes "exp") ≡ Some EXP
unfolding functions
function_exp = refl

pub function_fill : code_in functions (codes "fill") ≡ Some FILL
unfolding functions
function_fill = refl

pub function_identity : code_in functions (codes "identity") ≡ Some IDENTITY
unfolding functions
function_identity = refl

pub function_log : code_in functions (codes "log") ≡ Some LOG
unfolding functions
function_log = refl

pub function_log10 : code_in functions (codes "log10") ≡ Some LOG10
unfolding functions
function_log10 = refl

pub function_max : code_in functions (codes "max") ≡ Some MAX
unfolding functions
function_max = refl

pub function_min : code_in functions (codes "min") ≡ Some MIN
unfolding functions
function_min = refl

pub function_mod : code_in functions (codes "mod") ≡ Some MOD
unfolding functions
function_mod = refl

pub function_ndims : code_in functions (codes "ndims") ≡ Some NDIMS
unfolding functions
function_ndims = refl

pub function_no_event : code_in functions (codes "noEvent") ≡ Some NO_EVENT
unfolding functions
function_no_event = refl

pub function_ones : code_in functions (codes "ones") ≡ Some ONES
unfolding functions
function_ones = refl

pub function_product : code_in functions (codes "product") ≡ Some PRODUCT
unfolding functions
function_product = refl

pub function_rem : code_in functions (codes "rem") ≡ Some REM
unfolding functions
function_rem = refl

pub function_sin : code_in functions (codes "sin") ≡ Some SIN
unfolding functions
function_sin = refl

pub function_sinh : code_in functions (codes "sinh") ≡ Some SINH
unfolding functions
function_sinh = refl

pub function_size : code_in functions (codes "size") ≡ Some SIZE
unfolding functions
function_size = refl

pub function_sqrt : code_in functions (codes "sqrt") ≡ Some SQRT
unfolding functions
function_sqrt = refl

pub function_sum : code_in functions (codes "sum") ≡ Some SUM
unfolding functions
function_sum = refl

pub function_tan : code_in functions (codes "tan") ≡ Some TAN
unfolding functions
function_tan = refl

pub function_tanh : code_in functions (codes "tanh") ≡ Some TANH
unfolding functions
function_tanh = refl

pub function_transpose : code_in functions (codes "transpose") ≡ Some TRANSPOSE
unfolding functions
function_transpose = refl

pub function_zeros : code_in functions (codes "zeros") ≡ Some ZEROS
unfolding functions
function_zeros = refl
