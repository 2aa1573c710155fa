-- Each reserved word, operator and mark is a token of its code.
use Rattle.std.proofs.Common.{◌≡◌, ℕ, true, List, Some, refl, ap}
use Rattle.std.specs.Prelude.{codes, unwrap_or}
use Rattle.mo_syntax.specs.declared.token.TokenKind.TheVariants.{Keyword, Operator}
use Rattle.mo_tables.specs.Words.{code_in, keywords, operators}
use Rattle.mo_lexer.specs.Spelling.{is_word}
use Rattle.mo_grammar.specs.Codes.{word_code, operator_code, open_paren, close_paren, times, plus, comma, minus, dot, dot_times, dot_plus, dot_minus, dot_divides, dot_power, divides, colon, assigns, semicolon, less, less_equal, not_equal, equals, equal_equal, greater, greater_equal, open_bracket, close_bracket, power, open_brace, close_brace, algorithm_word, and_word, annotation_word, block_word, break_word, class_word, connect_word, connector_word, constant_word, constrainedby_word, der_word, discrete_word, each_word, else_word, elseif_word, elsewhen_word, encapsulated_word, end_word, enumeration_word, equation_word, expandable_word, extends_word, external_word, false_word, final_word, flow_word, for_word, function_word, if_word, import_word, impure_word, in_word, initial_word, inner_word, input_word, loop_word, model_word, not_word, operator_word, or_word, outer_word, output_word, package_word, parameter_word, partial_word, protected_word, public_word, pure_word, record_word, redeclare_word, replaceable_word, return_word, stream_word, then_word, true_word, type_word, when_word, while_word, within_word}
use Rattle.mo_pieces.specs.Pieces.{a_word, a_mark, nowhere, token_of}
use Rattle.mo_unparse.proofs.Building.{IsPieceOf}

word_is : (text : List ℕ) (number : ℕ) → is_word text ≡ true → code_in keywords text ≡ Some number → IsPieceOf (a_word text) (word_code number)
word_is text number w e = record {
  token = record { kind = Keyword number; text = text; place = nowhere };
  is = ap (λ o. token_of (Keyword (unwrap_or o 0)) text) e;
  is_token = ((w, e), tt);
  is_code = refl;
}

mark_is : (text : List ℕ) (number : ℕ) → code_in operators text ≡ Some number → IsPieceOf (a_mark text) (operator_code number)
mark_is text number e = record {
  token = record { kind = Operator number; text = text; place = nowhere };
  is = ap (λ o. token_of (Operator (unwrap_or o 0)) text) e;
  is_token = (e, tt);
  is_code = refl;
}

pub open_paren_is : IsPieceOf (a_mark (codes "(")) open_paren
unfolding operators
open_paren_is = mark_is (codes "(") 0 refl

pub close_paren_is : IsPieceOf (a_mark (codes ")")) close_paren
unfolding operators
close_paren_is = mark_is (codes ")") 1 refl

pub times_is : IsPieceOf (a_mark (codes "*")) times
unfolding operators
times_is = mark_is (codes "*") 2 refl

pub plus_is : IsPieceOf (a_mark (codes "+")) plus
unfolding operators
plus_is = mark_is (codes "+") 3 refl

pub comma_is : IsPieceOf (a_mark (codes ",")) comma
unfolding operators
comma_is = mark_is (codes ",") 4 refl

pub minus_is : IsPieceOf (a_mark (codes "-")) minus
unfolding operators
minus_is = mark_is (codes "-") 5 refl

pub dot_is : IsPieceOf (a_mark (codes ".")) dot
unfolding operators
dot_is = mark_is (codes ".") 6 refl

pub dot_times_is : IsPieceOf (a_mark (codes ".*")) dot_times
unfolding operators
dot_times_is = mark_is (codes ".*") 7 refl

pub dot_plus_is : IsPieceOf (a_mark (codes ".+")) dot_plus
unfolding operators
dot_plus_is = mark_is (codes ".+") 8 refl

pub dot_minus_is : IsPieceOf (a_mark (codes ".-")) dot_minus
unfolding operators
dot_minus_is = mark_is (codes ".-") 9 refl

pub dot_divides_is : IsPieceOf (a_mark (codes "./")) dot_divides
unfolding operators
dot_divides_is = mark_is (codes "./") 10 refl

pub dot_power_is : IsPieceOf (a_mark (codes ".^")) dot_power
unfolding operators
dot_power_is = mark_is (codes ".^") 11 refl

pub divides_is : IsPieceOf (a_mark (codes "/")) divides
unfolding operators
divides_is = mark_is (codes "/") 12 refl

pub colon_is : IsPieceOf (a_mark (codes ":")) colon
unfolding operators
colon_is = mark_is (codes ":") 13 refl

pub assigns_is : IsPieceOf (a_mark (codes ":=")) assigns
unfolding operators
assigns_is = mark_is (codes ":=") 14 refl

pub semicolon_is : IsPieceOf (a_mark (codes ";")) semicolon
unfolding operators
semicolon_is = mark_is (codes ";") 15 refl

pub less_is : IsPieceOf (a_mark (codes "<")) less
unfolding operators
less_is = mark_is (codes "<") 16 refl

pub less_equal_is : IsPieceOf (a_mark (codes "<=")) less_equal
unfolding operators
less_equal_is = mark_is (codes "<=") 17 refl

pub not_equal_is : IsPieceOf (a_mark (codes "<>")) not_equal
unfolding operators
not_equal_is = mark_is (codes "<>") 18 refl

pub equals_is : IsPieceOf (a_mark (codes "=")) equals
unfolding operators
equals_is = mark_is (codes "=") 19 refl

pub equal_equal_is : IsPieceOf (a_mark (codes "==")) equal_equal
unfolding operators
equal_equal_is = mark_is (codes "==") 20 refl

pub greater_is : IsPieceOf (a_mark (codes ">")) greater
unfolding operators
greater_is = mark_is (codes ">") 21 refl

pub greater_equal_is : IsPieceOf (a_mark (codes ">=")) greater_equal
unfolding operators
greater_equal_is = mark_is (codes ">=") 22 refl

pub open_bracket_is : IsPieceOf (a_mark (codes "[")) open_bracket
unfolding operators
open_bracket_is = mark_is (codes "[") 23 refl

pub close_bracket_is : IsPieceOf (a_mark (codes "]")) close_bracket
unfolding operators
close_bracket_is = mark_is (codes "]") 24 refl

pub power_is : IsPieceOf (a_mark (codes "^")) power
unfolding operators
power_is = mark_is (codes "^") 25 refl

pub open_brace_is : IsPieceOf (a_mark (codes "{")) open_brace
unfolding operators
open_brace_is = mark_is (codes "{") 26 refl

pub close_brace_is : IsPieceOf (a_mark (codes "}")) close_brace
unfolding operators
close_brace_is = mark_is (codes "}") 27 refl

pub algorithm_word_is : IsPieceOf (a_word (codes "algorithm")) algorithm_word
unfolding keywords
algorithm_word_is = word_is (codes "algorithm") 0 refl refl

pub and_word_is : IsPieceOf (a_word (codes "and")) and_word
unfolding keywords
and_word_is = word_is (codes "and") 1 refl refl

pub annotation_word_is : IsPieceOf (a_word (codes "annotation")) annotation_word
unfolding keywords
annotation_word_is = word_is (codes "annotation") 2 refl refl

pub block_word_is : IsPieceOf (a_word (codes "block")) block_word
unfolding keywords
block_word_is = word_is (codes "block") 3 refl refl

pub break_word_is : IsPieceOf (a_word (codes "break")) break_word
unfolding keywords
break_word_is = word_is (codes "break") 4 refl refl

pub class_word_is : IsPieceOf (a_word (codes "class")) class_word
unfolding keywords
class_word_is = word_is (codes "class") 5 refl refl

pub connect_word_is : IsPieceOf (a_word (codes "connect")) connect_word
unfolding keywords
connect_word_is = word_is (codes "connect") 6 refl refl

pub connector_word_is : IsPieceOf (a_word (codes "connector")) connector_word
unfolding keywords
connector_word_is = word_is (codes "connector") 7 refl refl

pub constant_word_is : IsPieceOf (a_word (codes "constant")) constant_word
unfolding keywords
constant_word_is = word_is (codes "constant") 8 refl refl

pub constrainedby_word_is : IsPieceOf (a_word (codes "constrainedby")) constrainedby_word
unfolding keywords
constrainedby_word_is = word_is (codes "constrainedby") 9 refl refl

pub der_word_is : IsPieceOf (a_word (codes "der")) der_word
unfolding keywords
der_word_is = word_is (codes "der") 10 refl refl

pub discrete_word_is : IsPieceOf (a_word (codes "discrete")) discrete_word
unfolding keywords
discrete_word_is = word_is (codes "discrete") 11 refl refl

pub each_word_is : IsPieceOf (a_word (codes "each")) each_word
unfolding keywords
each_word_is = word_is (codes "each") 12 refl refl

pub else_word_is : IsPieceOf (a_word (codes "else")) else_word
unfolding keywords
else_word_is = word_is (codes "else") 13 refl refl

pub elseif_word_is : IsPieceOf (a_word (codes "elseif")) elseif_word
unfolding keywords
elseif_word_is = word_is (codes "elseif") 14 refl refl

pub elsewhen_word_is : IsPieceOf (a_word (codes "elsewhen")) elsewhen_word
unfolding keywords
elsewhen_word_is = word_is (codes "elsewhen") 15 refl refl

pub encapsulated_word_is : IsPieceOf (a_word (codes "encapsulated")) encapsulated_word
unfolding keywords
encapsulated_word_is = word_is (codes "encapsulated") 16 refl refl

pub end_word_is : IsPieceOf (a_word (codes "end")) end_word
unfolding keywords
end_word_is = word_is (codes "end") 17 refl refl

pub enumeration_word_is : IsPieceOf (a_word (codes "enumeration")) enumeration_word
unfolding keywords
enumeration_word_is = word_is (codes "enumeration") 18 refl refl

pub equation_word_is : IsPieceOf (a_word (codes "equation")) equation_word
unfolding keywords
equation_word_is = word_is (codes "equation") 19 refl refl

pub expandable_word_is : IsPieceOf (a_word (codes "expandable")) expandable_word
unfolding keywords
expandable_word_is = word_is (codes "expandable") 20 refl refl

pub extends_word_is : IsPieceOf (a_word (codes "extends")) extends_word
unfolding keywords
extends_word_is = word_is (codes "extends") 21 refl refl

pub external_word_is : IsPieceOf (a_word (codes "external")) external_word
unfolding keywords
external_word_is = word_is (codes "external") 22 refl refl

pub false_word_is : IsPieceOf (a_word (codes "false")) false_word
unfolding keywords
false_word_is = word_is (codes "false") 23 refl refl

pub final_word_is : IsPieceOf (a_word (codes "final")) final_word
unfolding keywords
final_word_is = word_is (codes "final") 24 refl refl

pub flow_word_is : IsPieceOf (a_word (codes "flow")) flow_word
unfolding keywords
flow_word_is = word_is (codes "flow") 25 refl refl

pub for_word_is : IsPieceOf (a_word (codes "for")) for_word
unfolding keywords
for_word_is = word_is (codes "for") 26 refl refl

pub function_word_is : IsPieceOf (a_word (codes "function")) function_word
unfolding keywords
function_word_is = word_is (codes "function") 27 refl refl

pub if_word_is : IsPieceOf (a_word (codes "if")) if_word
unfolding keywords
if_word_is = word_is (codes "if") 28 refl refl

pub import_word_is : IsPieceOf (a_word (codes "import")) import_word
unfolding keywords
import_word_is = word_is (codes "import") 29 refl refl

pub impure_word_is : IsPieceOf (a_word (codes "impure")) impure_word
unfolding keywords
impure_word_is = word_is (codes "impure") 30 refl refl

pub in_word_is : IsPieceOf (a_word (codes "in")) in_word
unfolding keywords
in_word_is = word_is (codes "in") 31 refl refl

pub initial_word_is : IsPieceOf (a_word (codes "initial")) initial_word
unfolding keywords
initial_word_is = word_is (codes "initial") 32 refl refl

pub inner_word_is : IsPieceOf (a_word (codes "inner")) inner_word
unfolding keywords
inner_word_is = word_is (codes "inner") 33 refl refl

pub input_word_is : IsPieceOf (a_word (codes "input")) input_word
unfolding keywords
input_word_is = word_is (codes "input") 34 refl refl

pub loop_word_is : IsPieceOf (a_word (codes "loop")) loop_word
unfolding keywords
loop_word_is = word_is (codes "loop") 35 refl refl

pub model_word_is : IsPieceOf (a_word (codes "model")) model_word
unfolding keywords
model_word_is = word_is (codes "model") 36 refl refl

pub not_word_is : IsPieceOf (a_word (codes "not")) not_word
unfolding keywords
not_word_is = word_is (codes "not") 37 refl refl

pub operator_word_is : IsPieceOf (a_word (codes "operator")) operator_word
unfolding keywords
operator_word_is = word_is (codes "operator") 38 refl refl

pub or_word_is : IsPieceOf (a_word (codes "or")) or_word
unfolding keywords
or_word_is = word_is (codes "or") 39 refl refl

pub outer_word_is : IsPieceOf (a_word (codes "outer")) outer_word
unfolding keywords
outer_word_is = word_is (codes "outer") 40 refl refl

pub output_word_is : IsPieceOf (a_word (codes "output")) output_word
unfolding keywords
output_word_is = word_is (codes "output") 41 refl refl

pub package_word_is : IsPieceOf (a_word (codes "package")) package_word
unfolding keywords
package_word_is = word_is (codes "package") 42 refl refl

pub parameter_word_is : IsPieceOf (a_word (codes "parameter")) parameter_word
unfolding keywords
parameter_word_is = word_is (codes "parameter") 43 refl refl

pub partial_word_is : IsPieceOf (a_word (codes "partial")) partial_word
unfolding keywords
partial_word_is = word_is (codes "partial") 44 refl refl

pub protected_word_is : IsPieceOf (a_word (codes "protected")) protected_word
unfolding keywords
protected_word_is = word_is (codes "protected") 45 refl refl

pub public_word_is : IsPieceOf (a_word (codes "public")) public_word
unfolding keywords
public_word_is = word_is (codes "public") 46 refl refl

pub pure_word_is : IsPieceOf (a_word (codes "pure")) pure_word
unfolding keywords
pure_word_is = word_is (codes "pure") 47 refl refl

pub record_word_is : IsPieceOf (a_word (codes "record")) record_word
unfolding keywords
record_word_is = word_is (codes "record") 48 refl refl

pub redeclare_word_is : IsPieceOf (a_word (codes "redeclare")) redeclare_word
unfolding keywords
redeclare_word_is = word_is (codes "redeclare") 49 refl refl

pub replaceable_word_is : IsPieceOf (a_word (codes "replaceable")) replaceable_word
unfolding keywords
replaceable_word_is = word_is (codes "replaceable") 50 refl refl

pub return_word_is : IsPieceOf (a_word (codes "return")) return_word
unfolding keywords
return_word_is = word_is (codes "return") 51 refl refl

pub stream_word_is : IsPieceOf (a_word (codes "stream")) stream_word
unfolding keywords
stream_word_is = word_is (codes "stream") 52 refl refl

pub then_word_is : IsPieceOf (a_word (codes "then")) then_word
unfolding keywords
then_word_is = word_is (codes "then") 53 refl refl

pub true_word_is : IsPieceOf (a_word (codes "true")) true_word
unfolding keywords
true_word_is = word_is (codes "true") 54 refl refl

pub type_word_is : IsPieceOf (a_word (codes "type")) type_word
unfolding keywords
type_word_is = word_is (codes "type") 55 refl refl

pub when_word_is : IsPieceOf (a_word (codes "when")) when_word
unfolding keywords
when_word_is = word_is (codes "when") 56 refl refl

pub while_word_is : IsPieceOf (a_word (codes "while")) while_word
unfolding keywords
while_word_is = word_is (codes "while") 57 refl refl

pub within_word_is : IsPieceOf (a_word (codes "within")) within_word
unfolding keywords
within_word_is = word_is (codes "within") 58 refl refl
