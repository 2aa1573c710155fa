-- The codes of the tokens. That of an operator comes from its place in the table of operators, that of a reserved word from
-- its place in the table of reserved words, both in the order of their bytes.
use Rattle.std.specs.Prelude.{ℕ, ◌+◌, ◌*◌}

abbrev pub ident : ℕ
ident = 0

abbrev pub whole : ℕ
whole = 1

abbrev pub decimal : ℕ
decimal = 2

abbrev pub string : ℕ
string = 3

abbrev pub end_of_file : ℕ
end_of_file = 4

abbrev pub operator_code : ℕ → ℕ
operator_code place = 2 * place + 5

abbrev pub word_code : ℕ → ℕ
word_code place = 2 * place + 6

-- (
abbrev pub open_paren : ℕ
open_paren = operator_code 0

-- )
abbrev pub close_paren : ℕ
close_paren = operator_code 1

-- *
abbrev pub times : ℕ
times = operator_code 2

-- +
abbrev pub plus : ℕ
plus = operator_code 3

-- ,
abbrev pub comma : ℕ
comma = operator_code 4

-- -
abbrev pub minus : ℕ
minus = operator_code 5

-- .
abbrev pub dot : ℕ
dot = operator_code 6

-- .*
abbrev pub dot_times : ℕ
dot_times = operator_code 7

-- .+
abbrev pub dot_plus : ℕ
dot_plus = operator_code 8

-- .-
abbrev pub dot_minus : ℕ
dot_minus = operator_code 9

-- ./
abbrev pub dot_divides : ℕ
dot_divides = operator_code 10

-- .^
abbrev pub dot_power : ℕ
dot_power = operator_code 11

-- /
abbrev pub divides : ℕ
divides = operator_code 12

-- :
abbrev pub colon : ℕ
colon = operator_code 13

-- :=
abbrev pub assigns : ℕ
assigns = operator_code 14

-- ;
abbrev pub semicolon : ℕ
semicolon = operator_code 15

-- <
abbrev pub less : ℕ
less = operator_code 16

-- <=
abbrev pub less_equal : ℕ
less_equal = operator_code 17

-- <>
abbrev pub not_equal : ℕ
not_equal = operator_code 18

-- =
abbrev pub equals : ℕ
equals = operator_code 19

-- ==
abbrev pub equal_equal : ℕ
equal_equal = operator_code 20

-- >
abbrev pub greater : ℕ
greater = operator_code 21

-- >=
abbrev pub greater_equal : ℕ
greater_equal = operator_code 22

-- [
abbrev pub open_bracket : ℕ
open_bracket = operator_code 23

-- ]
abbrev pub close_bracket : ℕ
close_bracket = operator_code 24

-- ^
abbrev pub power : ℕ
power = operator_code 25

-- {
abbrev pub open_brace : ℕ
open_brace = operator_code 26

-- }
abbrev pub close_brace : ℕ
close_brace = operator_code 27

abbrev pub algorithm_word : ℕ
algorithm_word = word_code 0

abbrev pub and_word : ℕ
and_word = word_code 1

abbrev pub annotation_word : ℕ
annotation_word = word_code 2

abbrev pub block_word : ℕ
block_word = word_code 3

abbrev pub break_word : ℕ
break_word = word_code 4

abbrev pub class_word : ℕ
class_word = word_code 5

abbrev pub connect_word : ℕ
connect_word = word_code 6

abbrev pub connector_word : ℕ
connector_word = word_code 7

abbrev pub constant_word : ℕ
constant_word = word_code 8

abbrev pub constrainedby_word : ℕ
constrainedby_word = word_code 9

abbrev pub der_word : ℕ
der_word = word_code 10

abbrev pub discrete_word : ℕ
discrete_word = word_code 11

abbrev pub each_word : ℕ
each_word = word_code 12

abbrev pub else_word : ℕ
else_word = word_code 13

abbrev pub elseif_word : ℕ
elseif_word = word_code 14

abbrev pub elsewhen_word : ℕ
elsewhen_word = word_code 15

abbrev pub encapsulated_word : ℕ
encapsulated_word = word_code 16

abbrev pub end_word : ℕ
end_word = word_code 17

abbrev pub enumeration_word : ℕ
enumeration_word = word_code 18

abbrev pub equation_word : ℕ
equation_word = word_code 19

abbrev pub expandable_word : ℕ
expandable_word = word_code 20

abbrev pub extends_word : ℕ
extends_word = word_code 21

abbrev pub external_word : ℕ
external_word = word_code 22

abbrev pub false_word : ℕ
false_word = word_code 23

abbrev pub final_word : ℕ
final_word = word_code 24

abbrev pub flow_word : ℕ
flow_word = word_code 25

abbrev pub for_word : ℕ
for_word = word_code 26

abbrev pub function_word : ℕ
function_word = word_code 27

abbrev pub if_word : ℕ
if_word = word_code 28

abbrev pub import_word : ℕ
import_word = word_code 29

abbrev pub impure_word : ℕ
impure_word = word_code 30

abbrev pub in_word : ℕ
in_word = word_code 31

abbrev pub initial_word : ℕ
initial_word = word_code 32

abbrev pub inner_word : ℕ
inner_word = word_code 33

abbrev pub input_word : ℕ
input_word = word_code 34

abbrev pub loop_word : ℕ
loop_word = word_code 35

abbrev pub model_word : ℕ
model_word = word_code 36

abbrev pub not_word : ℕ
not_word = word_code 37

abbrev pub operator_word : ℕ
operator_word = word_code 38

abbrev pub or_word : ℕ
or_word = word_code 39

abbrev pub outer_word : ℕ
outer_word = word_code 40

abbrev pub output_word : ℕ
output_word = word_code 41

abbrev pub package_word : ℕ
package_word = word_code 42

abbrev pub parameter_word : ℕ
parameter_word = word_code 43

abbrev pub partial_word : ℕ
partial_word = word_code 44

abbrev pub protected_word : ℕ
protected_word = word_code 45

abbrev pub public_word : ℕ
public_word = word_code 46

abbrev pub pure_word : ℕ
pure_word = word_code 47

abbrev pub record_word : ℕ
record_word = word_code 48

abbrev pub redeclare_word : ℕ
redeclare_word = word_code 49

abbrev pub replaceable_word : ℕ
replaceable_word = word_code 50

abbrev pub return_word : ℕ
return_word = word_code 51

abbrev pub stream_word : ℕ
stream_word = word_code 52

abbrev pub then_word : ℕ
then_word = word_code 53

abbrev pub true_word : ℕ
true_word = word_code 54

abbrev pub type_word : ℕ
type_word = word_code 55

abbrev pub when_word : ℕ
when_word = word_code 56

abbrev pub while_word : ℕ
while_word = word_code 57

abbrev pub within_word : ℕ
within_word = word_code 58
