-- Token lists of every production with the trees that they spell, and lists that are refused, each read by computing. Above
-- each stands the text that the tokens come from. `longest_spelling` and `first_impossible` say what a reading shows.
use Rattle.std.proofs.Common.{◌≡◌, ℕ, List, [], ◌∷◌, ◌++◌, Option, Some, None, true, false, refl, codes, pos}
use Rattle.mo_syntax.specs.declared.place.Place.{Place}
use Rattle.mo_syntax.specs.declared.token.TokenKind.TheVariants.{Ident, Keyword, Operator, Whole as whole_kind, Decimal as decimal_kind, Str as string_kind, End}
use Rattle.mo_syntax.specs.declared.expr.Expr.{Expr}
use Rattle.mo_syntax.specs.declared.expr.Node.{Node, out-Node}
use Rattle.mo_syntax.specs.declared.expr.Node.TheVariants.{Whole, Decimal, Str, Truth, Ref, Sum, Product, Power, Relation, Not, All, Any, Range, If, Call, Tuple, Array, ArrayFor, Matrix, EndMark}
use Rattle.mo_syntax.specs.declared.expr.Arg.TheVariants.{Value, Partial}
use Rattle.mo_syntax.specs.declared.expr.PartOf.{PartOf}
use Rattle.mo_syntax.specs.declared.expr.CalleeOf.TheVariants.{Named, Der, Initial, Pure}
use Rattle.mo_syntax.specs.declared.expr.RelOp.TheVariants.{LessEqual, NotEqual}
use Rattle.mo_syntax.specs.declared.equation.EquationKind.TheVariants.{Equal, If as if_equation, For as for_equation, When as when_equation, Connect}
use Rattle.mo_syntax.specs.declared.equation.StatementKind.TheVariants.{Assign, Call as call_statement, Outputs, Break, Return, If as if_statement, For as for_statement, While as while_statement, When as when_statement}
use Rattle.mo_syntax.specs.declared.class.Body.TheVariants.{Long, Short, Enumeration, Der as body_der}
use Rattle.mo_syntax.specs.declared.class.Give.TheVariants.{Modify, Redeclare, Replaceable}
use Rattle.mo_syntax.specs.declared.class.Item.TheVariants.{Import as import_item, Extends as extends_item, Member, Equations, Algorithm}
use Rattle.mo_syntax.specs.declared.class.Import.TheVariants.{Renamed, Named as Named_import, Group, All as All_import}
use Rattle.mo_syntax.specs.declared.class.What.TheVariants.{Class, Component}
use Rattle.mo_syntax.specs.declared.class.Vary.TheVariants.{Free, Parameter}
use Rattle.mo_syntax.specs.declared.class.Causal.TheVariants.{None as neither_way}
use Rattle.mo_syntax.specs.declared.class.ClassFlags.{ClassFlags}
use Rattle.mo_syntax.specs.declared.class.ClassKind.TheVariants.{Plain, Model, Block as block_kind, Connector, TypeDef, Package, Function as function_kind}
use Rattle.mo_grammar.specs.declared.fault.Fault.TheVariants.{Misplaced, Misnamed, TooDeep}
use Rattle.mo_grammar.specs.Lexeme.{Lexeme}
use Rattle.mo_grammar.specs.Grammar.{this_name, at_most}
use Rattle.mo_grammar.specs.Reading.{read, stuck, reads_as}
use Rattle.mo_grammar.specs.Trees.{args_of}
use Rattle.mo_grammar.specs.ClassTrees.{name_called}
use Rattle.mo_grammar.specs.Symbols.{Expressions, ClassMods, EquationItems, StatementItems, Files}
use Rattle.mo_grammar.specs.Productions.{rule}
use Rattle.mo_grammar.specs.Language.{whole_limits, limits_inside, reads}

abbrev place_at : ℕ → Place
place_at byte = record { file = 1; byte = byte }

abbrev at : ℕ → Node → Expr
at byte node = record { place = place_at byte; node = node }

abbrev part_at : ℕ → List ℕ → List (Option Expr) → PartOf Expr
part_at byte name subs = record { name = name; place = place_at byte; subs = subs }

abbrev plain_flags : ClassFlags
plain_flags = record { encapsulated = false; partial = false; operator = false; expandable = false; purity = None }

abbrev name_token : List ℕ → ℕ → Lexeme
name_token text byte = record { kind = Ident; text = text; place = place_at byte }

abbrev whole_token : List ℕ → ℕ → Lexeme
whole_token text byte = record { kind = whole_kind; text = text; place = place_at byte }

abbrev decimal_token : List ℕ → ℕ → Lexeme
decimal_token text byte = record { kind = decimal_kind; text = text; place = place_at byte }

abbrev string_token : List ℕ → ℕ → Lexeme
string_token text byte = record { kind = string_kind; text = text; place = place_at byte }

abbrev word_token : ℕ → List ℕ → ℕ → Lexeme
word_token code text byte = record { kind = Keyword code; text = text; place = place_at byte }

abbrev mark_token : ℕ → List ℕ → ℕ → Lexeme
mark_token code text byte = record { kind = Operator code; text = text; place = place_at byte }

abbrev end_token : ℕ → Lexeme
end_token byte = record { kind = End; text = []; place = place_at byte }

-- ---- what is spelled

-- 007
whole_number : reads Expressions whole_limits ((whole_token (codes "007") 0) ∷ (end_token 3) ∷ []) ≡ read ((at 0 (Whole (pos 7)))) ((end_token 3) ∷ [])
unfolding reads reads_as rule name_called out-Node
whole_number = refl

-- 1.5e3
decimal_number : reads Expressions whole_limits ((decimal_token (codes "1.5e3") 0) ∷ (end_token 5) ∷ []) ≡ read ((at 0 (Decimal (codes "1.5e3")))) ((end_token 5) ∷ [])
unfolding reads reads_as rule name_called out-Node
decimal_number = refl

-- "ab"
string : reads Expressions whole_limits ((string_token (34 ∷ (codes "ab" ++ 34 ∷ [])) 0) ∷ (end_token 4) ∷ []) ≡ read ((at 0 (Str (34 ∷ (codes "ab" ++ 34 ∷ []))))) ((end_token 4) ∷ [])
unfolding reads reads_as rule name_called out-Node
string = refl

-- true and false
truth_values : reads Expressions whole_limits ((word_token 54 (codes "true") 0) ∷ (word_token 1 (codes "and") 5) ∷ (word_token 23 (codes "false") 9) ∷ (end_token 14) ∷ []) ≡ read ((at 0 (All ((at 0 (Truth true)) ∷ (at 9 (Truth false)) ∷ [])))) ((end_token 14) ∷ [])
unfolding reads reads_as rule name_called out-Node
truth_values = refl

-- end
end_mark : reads Expressions whole_limits ((word_token 17 (codes "end") 0) ∷ (end_token 3) ∷ []) ≡ read ((at 0 EndMark)) ((end_token 3) ∷ [])
unfolding reads reads_as rule name_called out-Node
end_mark = refl

-- 2^3^4
power_once : reads Expressions whole_limits ((whole_token (codes "2") 0) ∷ (mark_token 25 (codes "^") 1) ∷ (whole_token (codes "3") 2) ∷ (mark_token 25 (codes "^") 3) ∷ (whole_token (codes "4") 4) ∷ (end_token 5) ∷ []) ≡ read ((at 0 (Power (at 0 (Whole (pos 2))) false (at 2 (Whole (pos 3)))))) ((mark_token 25 (codes "^") 3) ∷ (whole_token (codes "4") 4) ∷ (end_token 5) ∷ [])
unfolding reads reads_as rule name_called out-Node
power_once = refl

-- x.^y
dotted_power : reads Expressions whole_limits ((name_token (codes "x") 0) ∷ (mark_token 11 (codes ".^") 1) ∷ (name_token (codes "y") 3) ∷ (end_token 4) ∷ []) ≡ read ((at 0 (Power (at 0 (Ref (record { top = false; parts = (part_at 0 (codes "x") []) ∷ [] }))) true (at 3 (Ref (record { top = false; parts = (part_at 3 (codes "y") []) ∷ [] })))))) ((end_token 4) ∷ [])
unfolding reads reads_as rule name_called out-Node
dotted_power = refl

-- a*b/c.*d./e
product : reads Expressions whole_limits ((name_token (codes "a") 0) ∷ (mark_token 2 (codes "*") 1) ∷ (name_token (codes "b") 2) ∷ (mark_token 12 (codes "/") 3) ∷ (name_token (codes "c") 4) ∷ (mark_token 7 (codes ".*") 5) ∷ (name_token (codes "d") 7) ∷ (mark_token 10 (codes "./") 8) ∷ (name_token (codes "e") 10) ∷ (end_token 11) ∷ []) ≡ read ((at 0 (Product (record { divide = false; dotted = false; value = (at 0 (Ref (record { top = false; parts = (part_at 0 (codes "a") []) ∷ [] }))) } ∷ record { divide = false; dotted = false; value = (at 2 (Ref (record { top = false; parts = (part_at 2 (codes "b") []) ∷ [] }))) } ∷ record { divide = true; dotted = false; value = (at 4 (Ref (record { top = false; parts = (part_at 4 (codes "c") []) ∷ [] }))) } ∷ record { divide = false; dotted = true; value = (at 7 (Ref (record { top = false; parts = (part_at 7 (codes "d") []) ∷ [] }))) } ∷ record { divide = true; dotted = true; value = (at 10 (Ref (record { top = false; parts = (part_at 10 (codes "e") []) ∷ [] }))) } ∷ [])))) ((end_token 11) ∷ [])
unfolding reads reads_as rule name_called out-Node
product = refl

-- a + b - c .+ d .- e
sum : reads Expressions whole_limits ((name_token (codes "a") 0) ∷ (mark_token 3 (codes "+") 2) ∷ (name_token (codes "b") 4) ∷ (mark_token 5 (codes "-") 6) ∷ (name_token (codes "c") 8) ∷ (mark_token 8 (codes ".+") 10) ∷ (name_token (codes "d") 13) ∷ (mark_token 9 (codes ".-") 15) ∷ (name_token (codes "e") 18) ∷ (end_token 19) ∷ []) ≡ read ((at 0 (Sum (record { minus = false; dotted = false; value = (at 0 (Ref (record { top = false; parts = (part_at 0 (codes "a") []) ∷ [] }))) } ∷ record { minus = false; dotted = false; value = (at 4 (Ref (record { top = false; parts = (part_at 4 (codes "b") []) ∷ [] }))) } ∷ record { minus = true; dotted = false; value = (at 8 (Ref (record { top = false; parts = (part_at 8 (codes "c") []) ∷ [] }))) } ∷ record { minus = false; dotted = true; value = (at 13 (Ref (record { top = false; parts = (part_at 13 (codes "d") []) ∷ [] }))) } ∷ record { minus = true; dotted = true; value = (at 18 (Ref (record { top = false; parts = (part_at 18 (codes "e") []) ∷ [] }))) } ∷ [])))) ((end_token 19) ∷ [])
unfolding reads reads_as rule name_called out-Node
sum = refl

-- -x^2
leading_minus : reads Expressions whole_limits ((mark_token 5 (codes "-") 0) ∷ (name_token (codes "x") 1) ∷ (mark_token 25 (codes "^") 2) ∷ (whole_token (codes "2") 3) ∷ (end_token 4) ∷ []) ≡ read ((at 0 (Sum (record { minus = true; dotted = false; value = (at 1 (Power (at 1 (Ref (record { top = false; parts = (part_at 1 (codes "x") []) ∷ [] }))) false (at 3 (Whole (pos 2))))) } ∷ [])))) ((end_token 4) ∷ [])
unfolding reads reads_as rule name_called out-Node
leading_minus = refl

-- +x
leading_plus : reads Expressions whole_limits ((mark_token 3 (codes "+") 0) ∷ (name_token (codes "x") 1) ∷ (end_token 2) ∷ []) ≡ read ((at 1 (Ref (record { top = false; parts = (part_at 1 (codes "x") []) ∷ [] })))) ((end_token 2) ∷ [])
unfolding reads reads_as rule name_called out-Node
leading_plus = refl

-- a - (b - c)
parentheses : reads Expressions whole_limits ((name_token (codes "a") 0) ∷ (mark_token 5 (codes "-") 2) ∷ (mark_token 0 (codes "(") 4) ∷ (name_token (codes "b") 5) ∷ (mark_token 5 (codes "-") 7) ∷ (name_token (codes "c") 9) ∷ (mark_token 1 (codes ")") 10) ∷ (end_token 11) ∷ []) ≡ read ((at 0 (Sum (record { minus = false; dotted = false; value = (at 0 (Ref (record { top = false; parts = (part_at 0 (codes "a") []) ∷ [] }))) } ∷ record { minus = true; dotted = false; value = (at 5 (Sum (record { minus = false; dotted = false; value = (at 5 (Ref (record { top = false; parts = (part_at 5 (codes "b") []) ∷ [] }))) } ∷ record { minus = true; dotted = false; value = (at 9 (Ref (record { top = false; parts = (part_at 9 (codes "c") []) ∷ [] }))) } ∷ []))) } ∷ [])))) ((end_token 11) ∷ [])
unfolding reads reads_as rule name_called out-Node
parentheses = refl

-- (1) + x
first_parenthesis : reads Expressions whole_limits ((mark_token 0 (codes "(") 0) ∷ (whole_token (codes "1") 1) ∷ (mark_token 1 (codes ")") 2) ∷ (mark_token 3 (codes "+") 4) ∷ (name_token (codes "x") 6) ∷ (end_token 7) ∷ []) ≡ read ((at 0 (Sum (record { minus = false; dotted = false; value = (at 1 (Whole (pos 1))) } ∷ record { minus = false; dotted = false; value = (at 6 (Ref (record { top = false; parts = (part_at 6 (codes "x") []) ∷ [] }))) } ∷ [])))) ((end_token 7) ∷ [])
unfolding reads reads_as rule name_called out-Node
first_parenthesis = refl

-- a <= b
relation : reads Expressions whole_limits ((name_token (codes "a") 0) ∷ (mark_token 17 (codes "<=") 2) ∷ (name_token (codes "b") 5) ∷ (end_token 6) ∷ []) ≡ read ((at 0 (Relation LessEqual (at 0 (Ref (record { top = false; parts = (part_at 0 (codes "a") []) ∷ [] }))) (at 5 (Ref (record { top = false; parts = (part_at 5 (codes "b") []) ∷ [] })))))) ((end_token 6) ∷ [])
unfolding reads reads_as rule name_called out-Node
relation = refl

-- not a <> b
negation : reads Expressions whole_limits ((word_token 37 (codes "not") 0) ∷ (name_token (codes "a") 4) ∷ (mark_token 18 (codes "<>") 6) ∷ (name_token (codes "b") 9) ∷ (end_token 10) ∷ []) ≡ read ((at 0 (Not (at 4 (Relation NotEqual (at 4 (Ref (record { top = false; parts = (part_at 4 (codes "a") []) ∷ [] }))) (at 9 (Ref (record { top = false; parts = (part_at 9 (codes "b") []) ∷ [] })))))))) ((end_token 10) ∷ [])
unfolding reads reads_as rule name_called out-Node
negation = refl

-- a or b or c
disjunction : reads Expressions whole_limits ((name_token (codes "a") 0) ∷ (word_token 39 (codes "or") 2) ∷ (name_token (codes "b") 5) ∷ (word_token 39 (codes "or") 7) ∷ (name_token (codes "c") 10) ∷ (end_token 11) ∷ []) ≡ read ((at 0 (Any ((at 0 (Ref (record { top = false; parts = (part_at 0 (codes "a") []) ∷ [] }))) ∷ (at 5 (Ref (record { top = false; parts = (part_at 5 (codes "b") []) ∷ [] }))) ∷ (at 10 (Ref (record { top = false; parts = (part_at 10 (codes "c") []) ∷ [] }))) ∷ [])))) ((end_token 11) ∷ [])
unfolding reads reads_as rule name_called out-Node
disjunction = refl

-- 1:2
range : reads Expressions whole_limits ((whole_token (codes "1") 0) ∷ (mark_token 13 (codes ":") 1) ∷ (whole_token (codes "2") 2) ∷ (end_token 3) ∷ []) ≡ read ((at 0 (Range (at 0 (Whole (pos 1))) None (at 2 (Whole (pos 2)))))) ((end_token 3) ∷ [])
unfolding reads reads_as rule name_called out-Node
range = refl

-- 1:2:9
stepped_range : reads Expressions whole_limits ((whole_token (codes "1") 0) ∷ (mark_token 13 (codes ":") 1) ∷ (whole_token (codes "2") 2) ∷ (mark_token 13 (codes ":") 3) ∷ (whole_token (codes "9") 4) ∷ (end_token 5) ∷ []) ≡ read ((at 0 (Range (at 0 (Whole (pos 1))) (Some (at 2 (Whole (pos 2)))) (at 4 (Whole (pos 9)))))) ((end_token 5) ∷ [])
unfolding reads reads_as rule name_called out-Node
stepped_range = refl

-- if a then b elseif c then d else e
if_expression : reads Expressions whole_limits ((word_token 28 (codes "if") 0) ∷ (name_token (codes "a") 3) ∷ (word_token 53 (codes "then") 5) ∷ (name_token (codes "b") 10) ∷ (word_token 14 (codes "elseif") 12) ∷ (name_token (codes "c") 19) ∷ (word_token 53 (codes "then") 21) ∷ (name_token (codes "d") 26) ∷ (word_token 13 (codes "else") 28) ∷ (name_token (codes "e") 33) ∷ (end_token 34) ∷ []) ≡ read ((at 0 (If (record { condition = (at 3 (Ref (record { top = false; parts = (part_at 3 (codes "a") []) ∷ [] }))); value = (at 10 (Ref (record { top = false; parts = (part_at 10 (codes "b") []) ∷ [] }))) } ∷ record { condition = (at 19 (Ref (record { top = false; parts = (part_at 19 (codes "c") []) ∷ [] }))); value = (at 26 (Ref (record { top = false; parts = (part_at 26 (codes "d") []) ∷ [] }))) } ∷ []) (at 33 (Ref (record { top = false; parts = (part_at 33 (codes "e") []) ∷ [] })))))) ((end_token 34) ∷ [])
unfolding reads reads_as rule name_called out-Node
if_expression = refl

-- .a.b[1, :].c
reference : reads Expressions whole_limits ((mark_token 6 (codes ".") 0) ∷ (name_token (codes "a") 1) ∷ (mark_token 6 (codes ".") 2) ∷ (name_token (codes "b") 3) ∷ (mark_token 23 (codes "[") 4) ∷ (whole_token (codes "1") 5) ∷ (mark_token 4 (codes ",") 6) ∷ (mark_token 13 (codes ":") 8) ∷ (mark_token 24 (codes "]") 9) ∷ (mark_token 6 (codes ".") 10) ∷ (name_token (codes "c") 11) ∷ (end_token 12) ∷ []) ≡ read ((at 0 (Ref (record { top = true; parts = (part_at 1 (codes "a") []) ∷ (part_at 3 (codes "b") (Some (at 5 (Whole (pos 1))) ∷ None ∷ [])) ∷ (part_at 11 (codes "c") []) ∷ [] })))) ((end_token 12) ∷ [])
unfolding reads reads_as rule name_called out-Node
reference = refl

-- f()
call : reads Expressions whole_limits ((name_token (codes "f") 0) ∷ (mark_token 0 (codes "(") 1) ∷ (mark_token 1 (codes ")") 2) ∷ (end_token 3) ∷ []) ≡ read ((at 0 (Call (Named (record { top = false; parts = (part_at 0 (codes "f") []) ∷ [] })) (args_of [] [] [])))) ((end_token 3) ∷ [])
unfolding reads reads_as rule name_called out-Node
call = refl

-- der(x)
derivative : reads Expressions whole_limits ((word_token 10 (codes "der") 0) ∷ (mark_token 0 (codes "(") 3) ∷ (name_token (codes "x") 4) ∷ (mark_token 1 (codes ")") 5) ∷ (end_token 6) ∷ []) ≡ read ((at 0 (Call (Der) (args_of ((Value (at 4 (Ref (record { top = false; parts = (part_at 4 (codes "x") []) ∷ [] })))) ∷ []) [] [])))) ((end_token 6) ∷ [])
unfolding reads reads_as rule name_called out-Node
derivative = refl

-- initial()
initial_call : reads Expressions whole_limits ((word_token 32 (codes "initial") 0) ∷ (mark_token 0 (codes "(") 7) ∷ (mark_token 1 (codes ")") 8) ∷ (end_token 9) ∷ []) ≡ read ((at 0 (Call (Initial) (args_of [] [] [])))) ((end_token 9) ∷ [])
unfolding reads reads_as rule name_called out-Node
initial_call = refl

-- pure(f(1))
pure_call : reads Expressions whole_limits ((word_token 47 (codes "pure") 0) ∷ (mark_token 0 (codes "(") 4) ∷ (name_token (codes "f") 5) ∷ (mark_token 0 (codes "(") 6) ∷ (whole_token (codes "1") 7) ∷ (mark_token 1 (codes ")") 8) ∷ (mark_token 1 (codes ")") 9) ∷ (end_token 10) ∷ []) ≡ read ((at 0 (Call (Pure) (args_of ((Value (at 5 (Call (Named (record { top = false; parts = (part_at 5 (codes "f") []) ∷ [] })) (args_of ((Value (at 7 (Whole (pos 1)))) ∷ []) [] [])))) ∷ []) [] [])))) ((end_token 10) ∷ [])
unfolding reads reads_as rule name_called out-Node
pure_call = refl

-- f(1, x = 2, y = 3)
plain_and_named : reads Expressions whole_limits ((name_token (codes "f") 0) ∷ (mark_token 0 (codes "(") 1) ∷ (whole_token (codes "1") 2) ∷ (mark_token 4 (codes ",") 3) ∷ (name_token (codes "x") 5) ∷ (mark_token 19 (codes "=") 7) ∷ (whole_token (codes "2") 9) ∷ (mark_token 4 (codes ",") 10) ∷ (name_token (codes "y") 12) ∷ (mark_token 19 (codes "=") 14) ∷ (whole_token (codes "3") 16) ∷ (mark_token 1 (codes ")") 17) ∷ (end_token 18) ∷ []) ≡ read ((at 0 (Call (Named (record { top = false; parts = (part_at 0 (codes "f") []) ∷ [] })) (args_of ((Value (at 2 (Whole (pos 1)))) ∷ []) ((codes "x", (Value (at 9 (Whole (pos 2))))) ∷ (codes "y", (Value (at 16 (Whole (pos 3))))) ∷ []) [])))) ((end_token 18) ∷ [])
unfolding reads reads_as rule name_called out-Node
plain_and_named = refl

-- f(x = 1)
named_alone : reads Expressions whole_limits ((name_token (codes "f") 0) ∷ (mark_token 0 (codes "(") 1) ∷ (name_token (codes "x") 2) ∷ (mark_token 19 (codes "=") 4) ∷ (whole_token (codes "1") 6) ∷ (mark_token 1 (codes ")") 7) ∷ (end_token 8) ∷ []) ≡ read ((at 0 (Call (Named (record { top = false; parts = (part_at 0 (codes "f") []) ∷ [] })) (args_of [] ((codes "x", (Value (at 6 (Whole (pos 1))))) ∷ []) [])))) ((end_token 8) ∷ [])
unfolding reads reads_as rule name_called out-Node
named_alone = refl

-- f(i for i in n, j)
iterators : reads Expressions whole_limits ((name_token (codes "f") 0) ∷ (mark_token 0 (codes "(") 1) ∷ (name_token (codes "i") 2) ∷ (word_token 26 (codes "for") 4) ∷ (name_token (codes "i") 8) ∷ (word_token 31 (codes "in") 10) ∷ (name_token (codes "n") 13) ∷ (mark_token 4 (codes ",") 14) ∷ (name_token (codes "j") 16) ∷ (mark_token 1 (codes ")") 17) ∷ (end_token 18) ∷ []) ≡ read ((at 0 (Call (Named (record { top = false; parts = (part_at 0 (codes "f") []) ∷ [] })) (args_of ((Value (at 2 (Ref (record { top = false; parts = (part_at 2 (codes "i") []) ∷ [] })))) ∷ []) [] (record { name = codes "i"; range = Some (at 13 (Ref (record { top = false; parts = (part_at 13 (codes "n") []) ∷ [] }))) } ∷ record { name = codes "j"; range = None } ∷ []))))) ((end_token 18) ∷ [])
unfolding reads reads_as rule name_called out-Node
iterators = refl

-- f(function g(z = 2))
function_argument : reads Expressions whole_limits ((name_token (codes "f") 0) ∷ (mark_token 0 (codes "(") 1) ∷ (word_token 27 (codes "function") 2) ∷ (name_token (codes "g") 11) ∷ (mark_token 0 (codes "(") 12) ∷ (name_token (codes "z") 13) ∷ (mark_token 19 (codes "=") 15) ∷ (whole_token (codes "2") 17) ∷ (mark_token 1 (codes ")") 18) ∷ (mark_token 1 (codes ")") 19) ∷ (end_token 20) ∷ []) ≡ read ((at 0 (Call (Named (record { top = false; parts = (part_at 0 (codes "f") []) ∷ [] })) (args_of ((Partial (record { top = false; parts = (part_at 11 (codes "g") []) ∷ [] }) ((codes "z", (Value (at 17 (Whole (pos 2))))) ∷ [])) ∷ []) [] [])))) ((end_token 20) ∷ [])
unfolding reads reads_as rule name_called out-Node
function_argument = refl

-- (a, , b)
tuple : reads Expressions whole_limits ((mark_token 0 (codes "(") 0) ∷ (name_token (codes "a") 1) ∷ (mark_token 4 (codes ",") 2) ∷ (mark_token 4 (codes ",") 4) ∷ (name_token (codes "b") 6) ∷ (mark_token 1 (codes ")") 7) ∷ (end_token 8) ∷ []) ≡ read ((at 0 (Tuple (Some (at 1 (Ref (record { top = false; parts = (part_at 1 (codes "a") []) ∷ [] }))) ∷ None ∷ Some (at 6 (Ref (record { top = false; parts = (part_at 6 (codes "b") []) ∷ [] }))) ∷ [])))) ((end_token 8) ∷ [])
unfolding reads reads_as rule name_called out-Node
tuple = refl

-- {1, 2}
array : reads Expressions whole_limits ((mark_token 26 (codes "{") 0) ∷ (whole_token (codes "1") 1) ∷ (mark_token 4 (codes ",") 2) ∷ (whole_token (codes "2") 4) ∷ (mark_token 27 (codes "}") 5) ∷ (end_token 6) ∷ []) ≡ read ((at 0 (Array ((at 1 (Whole (pos 1))) ∷ (at 4 (Whole (pos 2))) ∷ [])))) ((end_token 6) ∷ [])
unfolding reads reads_as rule name_called out-Node
array = refl

-- {i for i in n}
array_of_iterators : reads Expressions whole_limits ((mark_token 26 (codes "{") 0) ∷ (name_token (codes "i") 1) ∷ (word_token 26 (codes "for") 3) ∷ (name_token (codes "i") 7) ∷ (word_token 31 (codes "in") 9) ∷ (name_token (codes "n") 12) ∷ (mark_token 27 (codes "}") 13) ∷ (end_token 14) ∷ []) ≡ read ((at 0 (ArrayFor (at 1 (Ref (record { top = false; parts = (part_at 1 (codes "i") []) ∷ [] }))) (record { name = codes "i"; range = Some (at 12 (Ref (record { top = false; parts = (part_at 12 (codes "n") []) ∷ [] }))) } ∷ [])))) ((end_token 14) ∷ [])
unfolding reads reads_as rule name_called out-Node
array_of_iterators = refl

-- [1, 2; 3, 4]
matrix : reads Expressions whole_limits ((mark_token 23 (codes "[") 0) ∷ (whole_token (codes "1") 1) ∷ (mark_token 4 (codes ",") 2) ∷ (whole_token (codes "2") 4) ∷ (mark_token 15 (codes ";") 5) ∷ (whole_token (codes "3") 7) ∷ (mark_token 4 (codes ",") 8) ∷ (whole_token (codes "4") 10) ∷ (mark_token 24 (codes "]") 11) ∷ (end_token 12) ∷ []) ≡ read ((at 0 (Matrix (((at 1 (Whole (pos 1))) ∷ (at 4 (Whole (pos 2))) ∷ []) ∷ ((at 7 (Whole (pos 3))) ∷ (at 10 (Whole (pos 4))) ∷ []) ∷ [])))) ((end_token 12) ∷ [])
unfolding reads reads_as rule name_called out-Node
matrix = refl

-- x = 1 "why"
equality : reads EquationItems whole_limits ((name_token (codes "x") 0) ∷ (mark_token 19 (codes "=") 2) ∷ (whole_token (codes "1") 4) ∷ (string_token (34 ∷ (codes "why" ++ 34 ∷ [])) 6) ∷ (end_token 11) ∷ []) ≡ read (record { place = place_at 0; what = Equal (at 0 (Ref (record { top = false; parts = (part_at 0 (codes "x") []) ∷ [] }))) (at 4 (Whole (pos 1))) }) ((end_token 11) ∷ [])
unfolding reads reads_as rule name_called out-Node
equality = refl

-- f(x) = y
call_on_the_left : reads EquationItems whole_limits ((name_token (codes "f") 0) ∷ (mark_token 0 (codes "(") 1) ∷ (name_token (codes "x") 2) ∷ (mark_token 1 (codes ")") 3) ∷ (mark_token 19 (codes "=") 5) ∷ (name_token (codes "y") 7) ∷ (end_token 8) ∷ []) ≡ read (record { place = place_at 0; what = Equal (at 0 (Call (Named (record { top = false; parts = (part_at 0 (codes "f") []) ∷ [] })) (args_of ((Value (at 2 (Ref (record { top = false; parts = (part_at 2 (codes "x") []) ∷ [] })))) ∷ []) [] []))) (at 7 (Ref (record { top = false; parts = (part_at 7 (codes "y") []) ∷ [] }))) }) ((end_token 8) ∷ [])
unfolding reads reads_as rule name_called out-Node
call_on_the_left = refl

-- end = y
end_on_the_left : reads EquationItems whole_limits ((word_token 17 (codes "end") 0) ∷ (mark_token 19 (codes "=") 4) ∷ (name_token (codes "y") 6) ∷ (end_token 7) ∷ []) ≡ read (record { place = place_at 0; what = Equal (at 0 EndMark) (at 6 (Ref (record { top = false; parts = (part_at 6 (codes "y") []) ∷ [] }))) }) ((end_token 7) ∷ [])
unfolding reads reads_as rule name_called out-Node
end_on_the_left = refl

-- connect(a.p, b)
connection : reads EquationItems whole_limits ((word_token 6 (codes "connect") 0) ∷ (mark_token 0 (codes "(") 7) ∷ (name_token (codes "a") 8) ∷ (mark_token 6 (codes ".") 9) ∷ (name_token (codes "p") 10) ∷ (mark_token 4 (codes ",") 11) ∷ (name_token (codes "b") 13) ∷ (mark_token 1 (codes ")") 14) ∷ (end_token 15) ∷ []) ≡ read (record { place = place_at 0; what = Connect (record { top = false; parts = (part_at 8 (codes "a") []) ∷ (part_at 10 (codes "p") []) ∷ [] }) (record { top = false; parts = (part_at 13 (codes "b") []) ∷ [] }) }) ((end_token 15) ∷ [])
unfolding reads reads_as rule name_called out-Node
connection = refl

-- for i in n loop x = i; end for
equation_loop : reads EquationItems whole_limits ((word_token 26 (codes "for") 0) ∷ (name_token (codes "i") 4) ∷ (word_token 31 (codes "in") 6) ∷ (name_token (codes "n") 9) ∷ (word_token 35 (codes "loop") 11) ∷ (name_token (codes "x") 16) ∷ (mark_token 19 (codes "=") 18) ∷ (name_token (codes "i") 20) ∷ (mark_token 15 (codes ";") 21) ∷ (word_token 17 (codes "end") 23) ∷ (word_token 26 (codes "for") 27) ∷ (end_token 30) ∷ []) ≡ read (record { place = place_at 0; what = for_equation (record { name = codes "i"; range = Some (at 9 (Ref (record { top = false; parts = (part_at 9 (codes "n") []) ∷ [] }))) } ∷ []) (record { place = place_at 16; what = Equal (at 16 (Ref (record { top = false; parts = (part_at 16 (codes "x") []) ∷ [] }))) (at 20 (Ref (record { top = false; parts = (part_at 20 (codes "i") []) ∷ [] }))) } ∷ []) }) ((end_token 30) ∷ [])
unfolding reads reads_as rule name_called out-Node
equation_loop = refl

-- if a then x = 1; elseif b then else y = 2; end if
if_equation_read : reads EquationItems whole_limits ((word_token 28 (codes "if") 0) ∷ (name_token (codes "a") 3) ∷ (word_token 53 (codes "then") 5) ∷ (name_token (codes "x") 10) ∷ (mark_token 19 (codes "=") 12) ∷ (whole_token (codes "1") 14) ∷ (mark_token 15 (codes ";") 15) ∷ (word_token 14 (codes "elseif") 17) ∷ (name_token (codes "b") 24) ∷ (word_token 53 (codes "then") 26) ∷ (word_token 13 (codes "else") 31) ∷ (name_token (codes "y") 36) ∷ (mark_token 19 (codes "=") 38) ∷ (whole_token (codes "2") 40) ∷ (mark_token 15 (codes ";") 41) ∷ (word_token 17 (codes "end") 43) ∷ (word_token 28 (codes "if") 47) ∷ (end_token 49) ∷ []) ≡ read (record { place = place_at 0; what = if_equation (((at 3 (Ref (record { top = false; parts = (part_at 3 (codes "a") []) ∷ [] }))), (record { place = place_at 10; what = Equal (at 10 (Ref (record { top = false; parts = (part_at 10 (codes "x") []) ∷ [] }))) (at 14 (Whole (pos 1))) } ∷ [])) ∷ ((at 24 (Ref (record { top = false; parts = (part_at 24 (codes "b") []) ∷ [] }))), []) ∷ []) (record { place = place_at 36; what = Equal (at 36 (Ref (record { top = false; parts = (part_at 36 (codes "y") []) ∷ [] }))) (at 40 (Whole (pos 2))) } ∷ []) }) ((end_token 49) ∷ [])
unfolding reads reads_as rule name_called out-Node
if_equation_read = refl

-- when a then x = 1; elsewhen b then end when
when_equation_read : reads EquationItems whole_limits ((word_token 56 (codes "when") 0) ∷ (name_token (codes "a") 5) ∷ (word_token 53 (codes "then") 7) ∷ (name_token (codes "x") 12) ∷ (mark_token 19 (codes "=") 14) ∷ (whole_token (codes "1") 16) ∷ (mark_token 15 (codes ";") 17) ∷ (word_token 15 (codes "elsewhen") 19) ∷ (name_token (codes "b") 28) ∷ (word_token 53 (codes "then") 30) ∷ (word_token 17 (codes "end") 35) ∷ (word_token 56 (codes "when") 39) ∷ (end_token 43) ∷ []) ≡ read (record { place = place_at 0; what = when_equation (((at 5 (Ref (record { top = false; parts = (part_at 5 (codes "a") []) ∷ [] }))), (record { place = place_at 12; what = Equal (at 12 (Ref (record { top = false; parts = (part_at 12 (codes "x") []) ∷ [] }))) (at 16 (Whole (pos 1))) } ∷ [])) ∷ ((at 28 (Ref (record { top = false; parts = (part_at 28 (codes "b") []) ∷ [] }))), []) ∷ []) }) ((end_token 43) ∷ [])
unfolding reads reads_as rule name_called out-Node
when_equation_read = refl

-- x := 1.0
assignment : reads StatementItems whole_limits ((name_token (codes "x") 0) ∷ (mark_token 14 (codes ":=") 2) ∷ (decimal_token (codes "1.0") 5) ∷ (end_token 8) ∷ []) ≡ read (record { place = place_at 0; what = Assign (record { top = false; parts = (part_at 0 (codes "x") []) ∷ [] }) (at 5 (Decimal (codes "1.0"))) }) ((end_token 8) ∷ [])
unfolding reads reads_as rule name_called out-Node
assignment = refl

-- f(x)
statement_call : reads StatementItems whole_limits ((name_token (codes "f") 0) ∷ (mark_token 0 (codes "(") 1) ∷ (name_token (codes "x") 2) ∷ (mark_token 1 (codes ")") 3) ∷ (end_token 4) ∷ []) ≡ read (record { place = place_at 0; what = call_statement (record { top = false; parts = (part_at 0 (codes "f") []) ∷ [] }) (args_of ((Value (at 2 (Ref (record { top = false; parts = (part_at 2 (codes "x") []) ∷ [] })))) ∷ []) [] []) }) ((end_token 4) ∷ [])
unfolding reads reads_as rule name_called out-Node
statement_call = refl

-- (a, ) := f()
outputs_of_a_call : reads StatementItems whole_limits ((mark_token 0 (codes "(") 0) ∷ (name_token (codes "a") 1) ∷ (mark_token 4 (codes ",") 2) ∷ (mark_token 1 (codes ")") 4) ∷ (mark_token 14 (codes ":=") 6) ∷ (name_token (codes "f") 9) ∷ (mark_token 0 (codes "(") 10) ∷ (mark_token 1 (codes ")") 11) ∷ (end_token 12) ∷ []) ≡ read (record { place = place_at 0; what = Outputs (Some (at 1 (Ref (record { top = false; parts = (part_at 1 (codes "a") []) ∷ [] }))) ∷ None ∷ []) (record { top = false; parts = (part_at 9 (codes "f") []) ∷ [] }) (args_of [] [] []) }) ((end_token 12) ∷ [])
unfolding reads reads_as rule name_called out-Node
outputs_of_a_call = refl

-- break
breaks : reads StatementItems whole_limits ((word_token 4 (codes "break") 0) ∷ (end_token 5) ∷ []) ≡ read (record { place = place_at 0; what = Break }) ((end_token 5) ∷ [])
unfolding reads reads_as rule name_called out-Node
breaks = refl

-- return
returns : reads StatementItems whole_limits ((word_token 51 (codes "return") 0) ∷ (end_token 6) ∷ []) ≡ read (record { place = place_at 0; what = Return }) ((end_token 6) ∷ [])
unfolding reads reads_as rule name_called out-Node
returns = refl

-- if a then break; else return; end if
if_statement_read : reads StatementItems whole_limits ((word_token 28 (codes "if") 0) ∷ (name_token (codes "a") 3) ∷ (word_token 53 (codes "then") 5) ∷ (word_token 4 (codes "break") 10) ∷ (mark_token 15 (codes ";") 15) ∷ (word_token 13 (codes "else") 17) ∷ (word_token 51 (codes "return") 22) ∷ (mark_token 15 (codes ";") 28) ∷ (word_token 17 (codes "end") 30) ∷ (word_token 28 (codes "if") 34) ∷ (end_token 36) ∷ []) ≡ read (record { place = place_at 0; what = if_statement (((at 3 (Ref (record { top = false; parts = (part_at 3 (codes "a") []) ∷ [] }))), (record { place = place_at 10; what = Break } ∷ [])) ∷ []) (record { place = place_at 22; what = Return } ∷ []) }) ((end_token 36) ∷ [])
unfolding reads reads_as rule name_called out-Node
if_statement_read = refl

-- for i loop break; end for
statement_loop : reads StatementItems whole_limits ((word_token 26 (codes "for") 0) ∷ (name_token (codes "i") 4) ∷ (word_token 35 (codes "loop") 6) ∷ (word_token 4 (codes "break") 11) ∷ (mark_token 15 (codes ";") 16) ∷ (word_token 17 (codes "end") 18) ∷ (word_token 26 (codes "for") 22) ∷ (end_token 25) ∷ []) ≡ read (record { place = place_at 0; what = for_statement (record { name = codes "i"; range = None } ∷ []) (record { place = place_at 11; what = Break } ∷ []) }) ((end_token 25) ∷ [])
unfolding reads reads_as rule name_called out-Node
statement_loop = refl

-- while a loop end while
while_loop : reads StatementItems whole_limits ((word_token 57 (codes "while") 0) ∷ (name_token (codes "a") 6) ∷ (word_token 35 (codes "loop") 8) ∷ (word_token 17 (codes "end") 13) ∷ (word_token 57 (codes "while") 17) ∷ (end_token 22) ∷ []) ≡ read (record { place = place_at 0; what = while_statement (at 6 (Ref (record { top = false; parts = (part_at 6 (codes "a") []) ∷ [] }))) [] }) ((end_token 22) ∷ [])
unfolding reads reads_as rule name_called out-Node
while_loop = refl

-- when a then return; end when
when_statement_read : reads StatementItems whole_limits ((word_token 56 (codes "when") 0) ∷ (name_token (codes "a") 5) ∷ (word_token 53 (codes "then") 7) ∷ (word_token 51 (codes "return") 12) ∷ (mark_token 15 (codes ";") 18) ∷ (word_token 17 (codes "end") 20) ∷ (word_token 56 (codes "when") 24) ∷ (end_token 28) ∷ []) ≡ read (record { place = place_at 0; what = when_statement (((at 5 (Ref (record { top = false; parts = (part_at 5 (codes "a") []) ∷ [] }))), (record { place = place_at 12; what = Return } ∷ [])) ∷ []) }) ((end_token 28) ∷ [])
unfolding reads reads_as rule name_called out-Node
when_statement_read = refl

-- (each final a.b = 1, c(d = 2) "why")
modifiers : reads ClassMods whole_limits ((mark_token 0 (codes "(") 0) ∷ (word_token 12 (codes "each") 1) ∷ (word_token 24 (codes "final") 6) ∷ (name_token (codes "a") 12) ∷ (mark_token 6 (codes ".") 13) ∷ (name_token (codes "b") 14) ∷ (mark_token 19 (codes "=") 16) ∷ (whole_token (codes "1") 18) ∷ (mark_token 4 (codes ",") 19) ∷ (name_token (codes "c") 21) ∷ (mark_token 0 (codes "(") 22) ∷ (name_token (codes "d") 23) ∷ (mark_token 19 (codes "=") 25) ∷ (whole_token (codes "2") 27) ∷ (mark_token 1 (codes ")") 28) ∷ (string_token (34 ∷ (codes "why" ++ 34 ∷ [])) 30) ∷ (mark_token 1 (codes ")") 35) ∷ (end_token 36) ∷ []) ≡ read (record { 0 = (record { each = true; last = true; name = record { 0 = (codes "a" ∷ codes "b" ∷ []) }; place = place_at 12; give = Modify (record { 0 = [] }) (Some (at 18 (Whole (pos 1)))) } ∷ record { each = false; last = false; name = record { 0 = (codes "c" ∷ []) }; place = place_at 21; give = Modify (record { 0 = (record { each = false; last = false; name = record { 0 = (codes "d" ∷ []) }; place = place_at 23; give = Modify (record { 0 = [] }) (Some (at 27 (Whole (pos 2)))) } ∷ []) }) None } ∷ []) }) ((end_token 36) ∷ [])
unfolding reads reads_as rule name_called out-Node
modifiers = refl

-- (redeclare replaceable Real x constrainedby B, redeclare type T = R)
redeclaration : reads ClassMods whole_limits ((mark_token 0 (codes "(") 0) ∷ (word_token 49 (codes "redeclare") 1) ∷ (word_token 50 (codes "replaceable") 11) ∷ (name_token (codes "Real") 23) ∷ (name_token (codes "x") 28) ∷ (word_token 9 (codes "constrainedby") 30) ∷ (name_token (codes "B") 44) ∷ (mark_token 4 (codes ",") 45) ∷ (word_token 49 (codes "redeclare") 47) ∷ (word_token 55 (codes "type") 57) ∷ (name_token (codes "T") 62) ∷ (mark_token 19 (codes "=") 64) ∷ (name_token (codes "R") 66) ∷ (mark_token 1 (codes ")") 67) ∷ (end_token 68) ∷ []) ≡ read (record { 0 = (record { each = false; last = false; name = record { 0 = (codes "x" ∷ []) }; place = place_at 28; give = Redeclare (record { flags = record { redeclare = false; last = false; inner = false; outer = false; replaceable = true; hidden = false }; what = Component (record { prefix = record { flow = false; stream = false; vary = Free; causal = neither_way }; base = record { top = false; parts = (part_at 23 (codes "Real") []) ∷ [] }; base_subs = []; name = codes "x"; place = place_at 28; subs = []; mods = record { 0 = [] }; binding = None; condition = None }); limit = (Some (record { top = false; parts = (part_at 44 (codes "B") []) ∷ [] }, record { 0 = [] })) }) } ∷ record { each = false; last = false; name = record { 0 = (codes "T" ∷ []) }; place = place_at 62; give = Redeclare (record { flags = record { redeclare = false; last = false; inner = false; outer = false; replaceable = false; hidden = false }; what = Class (record { kind = TypeDef; flags = plain_flags; name = codes "T"; place = place_at 62; body = Short neither_way (record { top = false; parts = (part_at 66 (codes "R") []) ∷ [] }) [] (record { 0 = [] }) }); limit = None }) } ∷ []) }) ((end_token 68) ∷ [])
unfolding reads reads_as rule name_called out-Node
redeclaration = refl

-- (replaceable model N = O)
replaceable_argument : reads ClassMods whole_limits ((mark_token 0 (codes "(") 0) ∷ (word_token 50 (codes "replaceable") 1) ∷ (word_token 36 (codes "model") 13) ∷ (name_token (codes "N") 19) ∷ (mark_token 19 (codes "=") 21) ∷ (name_token (codes "O") 23) ∷ (mark_token 1 (codes ")") 24) ∷ (end_token 25) ∷ []) ≡ read (record { 0 = (record { each = false; last = false; name = record { 0 = (codes "N" ∷ []) }; place = place_at 19; give = Replaceable (record { flags = record { redeclare = false; last = false; inner = false; outer = false; replaceable = true; hidden = false }; what = Class (record { kind = Model; flags = plain_flags; name = codes "N"; place = place_at 19; body = Short neither_way (record { top = false; parts = (part_at 23 (codes "O") []) ∷ [] }) [] (record { 0 = [] }) }); limit = None }) } ∷ []) }) ((end_token 25) ∷ [])
unfolding reads reads_as rule name_called out-Node
replaceable_argument = refl

-- model M end M;
empty_class : reads Files whole_limits ((word_token 36 (codes "model") 0) ∷ (name_token (codes "M") 6) ∷ (word_token 17 (codes "end") 8) ∷ (name_token (codes "M") 12) ∷ (mark_token 15 (codes ";") 13) ∷ (end_token 14) ∷ []) ≡ read (record { file = 1; within = None; classes = (record { kind = Model; flags = plain_flags; name = codes "M"; place = place_at 6; body = Long None [] false } ∷ []) }) ([])
unfolding reads reads_as rule name_called out-Node
empty_class = refl

-- within A.B; package P end P;
within_name : reads Files whole_limits ((word_token 58 (codes "within") 0) ∷ (name_token (codes "A") 7) ∷ (mark_token 6 (codes ".") 8) ∷ (name_token (codes "B") 9) ∷ (mark_token 15 (codes ";") 10) ∷ (word_token 42 (codes "package") 12) ∷ (name_token (codes "P") 20) ∷ (word_token 17 (codes "end") 22) ∷ (name_token (codes "P") 26) ∷ (mark_token 15 (codes ";") 27) ∷ (end_token 28) ∷ []) ≡ read (record { file = 1; within = Some (record { 0 = (codes "A" ∷ codes "B" ∷ []) }, place_at 7); classes = (record { kind = Package; flags = plain_flags; name = codes "P"; place = place_at 20; body = Long None [] false } ∷ []) }) ([])
unfolding reads reads_as rule name_called out-Node
within_name = refl

-- within; final block Q end Q;
within_nothing : reads Files whole_limits ((word_token 58 (codes "within") 0) ∷ (mark_token 15 (codes ";") 6) ∷ (word_token 24 (codes "final") 8) ∷ (word_token 3 (codes "block") 14) ∷ (name_token (codes "Q") 20) ∷ (word_token 17 (codes "end") 22) ∷ (name_token (codes "Q") 26) ∷ (mark_token 15 (codes ";") 27) ∷ (end_token 28) ∷ []) ≡ read (record { file = 1; within = None; classes = (record { kind = block_kind; flags = plain_flags; name = codes "Q"; place = place_at 20; body = Long None [] false } ∷ []) }) ([])
unfolding reads reads_as rule name_called out-Node
within_nothing = refl

-- model M Real x; protected flow Real y = 1; equation x = y; initial equation y = x; end M;
sections : reads Files whole_limits ((word_token 36 (codes "model") 0) ∷ (name_token (codes "M") 6) ∷ (name_token (codes "Real") 8) ∷ (name_token (codes "x") 13) ∷ (mark_token 15 (codes ";") 14) ∷ (word_token 45 (codes "protected") 16) ∷ (word_token 25 (codes "flow") 26) ∷ (name_token (codes "Real") 31) ∷ (name_token (codes "y") 36) ∷ (mark_token 19 (codes "=") 38) ∷ (whole_token (codes "1") 40) ∷ (mark_token 15 (codes ";") 41) ∷ (word_token 19 (codes "equation") 43) ∷ (name_token (codes "x") 52) ∷ (mark_token 19 (codes "=") 54) ∷ (name_token (codes "y") 56) ∷ (mark_token 15 (codes ";") 57) ∷ (word_token 32 (codes "initial") 59) ∷ (word_token 19 (codes "equation") 67) ∷ (name_token (codes "y") 76) ∷ (mark_token 19 (codes "=") 78) ∷ (name_token (codes "x") 80) ∷ (mark_token 15 (codes ";") 81) ∷ (word_token 17 (codes "end") 83) ∷ (name_token (codes "M") 87) ∷ (mark_token 15 (codes ";") 88) ∷ (end_token 89) ∷ []) ≡ read (record { file = 1; within = None; classes = (record { kind = Model; flags = plain_flags; name = codes "M"; place = place_at 6; body = Long None (Member (record { flags = record { redeclare = false; last = false; inner = false; outer = false; replaceable = false; hidden = false }; what = Component (record { prefix = record { flow = false; stream = false; vary = Free; causal = neither_way }; base = record { top = false; parts = (part_at 8 (codes "Real") []) ∷ [] }; base_subs = []; name = codes "x"; place = place_at 13; subs = []; mods = record { 0 = [] }; binding = None; condition = None }); limit = None }) ∷ Member (record { flags = record { redeclare = false; last = false; inner = false; outer = false; replaceable = false; hidden = true }; what = Component (record { prefix = record { flow = true; stream = false; vary = Free; causal = neither_way }; base = record { top = false; parts = (part_at 31 (codes "Real") []) ∷ [] }; base_subs = []; name = codes "y"; place = place_at 36; subs = []; mods = record { 0 = [] }; binding = Some (at 40 (Whole (pos 1))); condition = None }); limit = None }) ∷ Equations false (record { place = place_at 52; what = Equal (at 52 (Ref (record { top = false; parts = (part_at 52 (codes "x") []) ∷ [] }))) (at 56 (Ref (record { top = false; parts = (part_at 56 (codes "y") []) ∷ [] }))) } ∷ []) ∷ Equations true (record { place = place_at 76; what = Equal (at 76 (Ref (record { top = false; parts = (part_at 76 (codes "y") []) ∷ [] }))) (at 80 (Ref (record { top = false; parts = (part_at 80 (codes "x") []) ∷ [] }))) } ∷ []) ∷ []) false } ∷ []) }) ([])
unfolding reads reads_as rule name_called out-Node
sections = refl

-- function f algorithm return; end f;
algorithm_section : reads Files whole_limits ((word_token 27 (codes "function") 0) ∷ (name_token (codes "f") 9) ∷ (word_token 0 (codes "algorithm") 11) ∷ (word_token 51 (codes "return") 21) ∷ (mark_token 15 (codes ";") 27) ∷ (word_token 17 (codes "end") 29) ∷ (name_token (codes "f") 33) ∷ (mark_token 15 (codes ";") 34) ∷ (end_token 35) ∷ []) ≡ read (record { file = 1; within = None; classes = (record { kind = function_kind; flags = plain_flags; name = codes "f"; place = place_at 9; body = Long None (Algorithm false (record { place = place_at 21; what = Return } ∷ []) ∷ []) false } ∷ []) }) ([])
unfolding reads reads_as rule name_called out-Node
algorithm_section = refl

-- class C import a = b.c; import d.e; import g.*; import h.{i, j}; end C;
imports : reads Files whole_limits ((word_token 5 (codes "class") 0) ∷ (name_token (codes "C") 6) ∷ (word_token 29 (codes "import") 8) ∷ (name_token (codes "a") 15) ∷ (mark_token 19 (codes "=") 17) ∷ (name_token (codes "b") 19) ∷ (mark_token 6 (codes ".") 20) ∷ (name_token (codes "c") 21) ∷ (mark_token 15 (codes ";") 22) ∷ (word_token 29 (codes "import") 24) ∷ (name_token (codes "d") 31) ∷ (mark_token 6 (codes ".") 32) ∷ (name_token (codes "e") 33) ∷ (mark_token 15 (codes ";") 34) ∷ (word_token 29 (codes "import") 36) ∷ (name_token (codes "g") 43) ∷ (mark_token 7 (codes ".*") 44) ∷ (mark_token 15 (codes ";") 46) ∷ (word_token 29 (codes "import") 48) ∷ (name_token (codes "h") 55) ∷ (mark_token 6 (codes ".") 56) ∷ (mark_token 26 (codes "{") 57) ∷ (name_token (codes "i") 58) ∷ (mark_token 4 (codes ",") 59) ∷ (name_token (codes "j") 61) ∷ (mark_token 27 (codes "}") 62) ∷ (mark_token 15 (codes ";") 63) ∷ (word_token 17 (codes "end") 65) ∷ (name_token (codes "C") 69) ∷ (mark_token 15 (codes ";") 70) ∷ (end_token 71) ∷ []) ≡ read (record { file = 1; within = None; classes = (record { kind = Plain; flags = plain_flags; name = codes "C"; place = place_at 6; body = Long None (import_item (Renamed (codes "a") (record { 0 = (codes "b" ∷ codes "c" ∷ []) }) (place_at 19)) ∷ import_item (Named_import (record { 0 = (codes "d" ∷ codes "e" ∷ []) }) (place_at 31)) ∷ import_item (All_import (record { 0 = (codes "g" ∷ []) }) (place_at 43)) ∷ import_item (Group (record { 0 = (codes "h" ∷ []) }) (codes "i" ∷ codes "j" ∷ []) (place_at 55)) ∷ []) false } ∷ []) }) ([])
unfolding reads reads_as rule name_called out-Node
imports = refl

-- model M extends N(a = 1); inner parameter Real[2] p(unit = "m") if c; end M;
extends_and_conditions : reads Files whole_limits ((word_token 36 (codes "model") 0) ∷ (name_token (codes "M") 6) ∷ (word_token 21 (codes "extends") 8) ∷ (name_token (codes "N") 16) ∷ (mark_token 0 (codes "(") 17) ∷ (name_token (codes "a") 18) ∷ (mark_token 19 (codes "=") 20) ∷ (whole_token (codes "1") 22) ∷ (mark_token 1 (codes ")") 23) ∷ (mark_token 15 (codes ";") 24) ∷ (word_token 33 (codes "inner") 26) ∷ (word_token 43 (codes "parameter") 32) ∷ (name_token (codes "Real") 42) ∷ (mark_token 23 (codes "[") 46) ∷ (whole_token (codes "2") 47) ∷ (mark_token 24 (codes "]") 48) ∷ (name_token (codes "p") 50) ∷ (mark_token 0 (codes "(") 51) ∷ (name_token (codes "unit") 52) ∷ (mark_token 19 (codes "=") 57) ∷ (string_token (34 ∷ (codes "m" ++ 34 ∷ [])) 59) ∷ (mark_token 1 (codes ")") 62) ∷ (word_token 28 (codes "if") 64) ∷ (name_token (codes "c") 67) ∷ (mark_token 15 (codes ";") 68) ∷ (word_token 17 (codes "end") 70) ∷ (name_token (codes "M") 74) ∷ (mark_token 15 (codes ";") 75) ∷ (end_token 76) ∷ []) ≡ read (record { file = 1; within = None; classes = (record { kind = Model; flags = plain_flags; name = codes "M"; place = place_at 6; body = Long None (extends_item (record { base = record { top = false; parts = (part_at 16 (codes "N") []) ∷ [] }; mods = record { 0 = (record { each = false; last = false; name = record { 0 = (codes "a" ∷ []) }; place = place_at 18; give = Modify (record { 0 = [] }) (Some (at 22 (Whole (pos 1)))) } ∷ []) }; hidden = false }) ∷ Member (record { flags = record { redeclare = false; last = false; inner = true; outer = false; replaceable = false; hidden = false }; what = Component (record { prefix = record { flow = false; stream = false; vary = Parameter; causal = neither_way }; base = record { top = false; parts = (part_at 42 (codes "Real") []) ∷ [] }; base_subs = (Some (at 47 (Whole (pos 2))) ∷ []); name = codes "p"; place = place_at 50; subs = []; mods = record { 0 = (record { each = false; last = false; name = record { 0 = (codes "unit" ∷ []) }; place = place_at 52; give = Modify (record { 0 = [] }) (Some (at 59 (Str (34 ∷ (codes "m" ++ 34 ∷ []))))) } ∷ []) }; binding = None; condition = Some (at 67 (Ref (record { top = false; parts = (part_at 67 (codes "c") []) ∷ [] }))) }); limit = None }) ∷ []) false } ∷ []) }) ([])
unfolding reads reads_as rule name_called out-Node
extends_and_conditions = refl

-- type E = enumeration(a, b "bee");
enumeration : reads Files whole_limits ((word_token 55 (codes "type") 0) ∷ (name_token (codes "E") 5) ∷ (mark_token 19 (codes "=") 7) ∷ (word_token 18 (codes "enumeration") 9) ∷ (mark_token 0 (codes "(") 20) ∷ (name_token (codes "a") 21) ∷ (mark_token 4 (codes ",") 22) ∷ (name_token (codes "b") 24) ∷ (string_token (34 ∷ (codes "bee" ++ 34 ∷ [])) 26) ∷ (mark_token 1 (codes ")") 31) ∷ (mark_token 15 (codes ";") 32) ∷ (end_token 33) ∷ []) ≡ read (record { file = 1; within = None; classes = (record { kind = TypeDef; flags = plain_flags; name = codes "E"; place = place_at 5; body = Enumeration (Some (codes "a" ∷ codes "b" ∷ [])) } ∷ []) }) ([])
unfolding reads reads_as rule name_called out-Node
enumeration = refl

-- type E = enumeration(:);
open_enumeration : reads Files whole_limits ((word_token 55 (codes "type") 0) ∷ (name_token (codes "E") 5) ∷ (mark_token 19 (codes "=") 7) ∷ (word_token 18 (codes "enumeration") 9) ∷ (mark_token 0 (codes "(") 20) ∷ (mark_token 13 (codes ":") 21) ∷ (mark_token 1 (codes ")") 22) ∷ (mark_token 15 (codes ";") 23) ∷ (end_token 24) ∷ []) ≡ read (record { file = 1; within = None; classes = (record { kind = TypeDef; flags = plain_flags; name = codes "E"; place = place_at 5; body = Enumeration None } ∷ []) }) ([])
unfolding reads reads_as rule name_called out-Node
open_enumeration = refl

-- function d = der(f, x, y);
derivative_class : reads Files whole_limits ((word_token 27 (codes "function") 0) ∷ (name_token (codes "d") 9) ∷ (mark_token 19 (codes "=") 11) ∷ (word_token 10 (codes "der") 13) ∷ (mark_token 0 (codes "(") 16) ∷ (name_token (codes "f") 17) ∷ (mark_token 4 (codes ",") 18) ∷ (name_token (codes "x") 20) ∷ (mark_token 4 (codes ",") 21) ∷ (name_token (codes "y") 23) ∷ (mark_token 1 (codes ")") 24) ∷ (mark_token 15 (codes ";") 25) ∷ (end_token 26) ∷ []) ≡ read (record { file = 1; within = None; classes = (record { kind = function_kind; flags = plain_flags; name = codes "d"; place = place_at 9; body = body_der (record { top = false; parts = (part_at 17 (codes "f") []) ∷ [] }) (codes "x" ∷ codes "y" ∷ []) } ∷ []) }) ([])
unfolding reads reads_as rule name_called out-Node
derivative_class = refl

-- encapsulated partial pure operator function f external "C" y = g(1); end f;
class_prefixes : reads Files whole_limits ((word_token 16 (codes "encapsulated") 0) ∷ (word_token 44 (codes "partial") 13) ∷ (word_token 47 (codes "pure") 21) ∷ (word_token 38 (codes "operator") 26) ∷ (word_token 27 (codes "function") 35) ∷ (name_token (codes "f") 44) ∷ (word_token 22 (codes "external") 46) ∷ (string_token (34 ∷ (codes "C" ++ 34 ∷ [])) 55) ∷ (name_token (codes "y") 59) ∷ (mark_token 19 (codes "=") 61) ∷ (name_token (codes "g") 63) ∷ (mark_token 0 (codes "(") 64) ∷ (whole_token (codes "1") 65) ∷ (mark_token 1 (codes ")") 66) ∷ (mark_token 15 (codes ";") 67) ∷ (word_token 17 (codes "end") 69) ∷ (name_token (codes "f") 73) ∷ (mark_token 15 (codes ";") 74) ∷ (end_token 75) ∷ []) ≡ read (record { file = 1; within = None; classes = (record { kind = function_kind; flags = record { encapsulated = true; partial = true; operator = true; expandable = false; purity = Some true }; name = codes "f"; place = place_at 44; body = Long None [] true } ∷ []) }) ([])
unfolding reads reads_as rule name_called out-Node
class_prefixes = refl

-- connector extends P(a = 1) "why" annotation(b); end P;
extending_class : reads Files whole_limits ((word_token 7 (codes "connector") 0) ∷ (word_token 21 (codes "extends") 10) ∷ (name_token (codes "P") 18) ∷ (mark_token 0 (codes "(") 19) ∷ (name_token (codes "a") 20) ∷ (mark_token 19 (codes "=") 22) ∷ (whole_token (codes "1") 24) ∷ (mark_token 1 (codes ")") 25) ∷ (string_token (34 ∷ (codes "why" ++ 34 ∷ [])) 27) ∷ (word_token 2 (codes "annotation") 33) ∷ (mark_token 0 (codes "(") 43) ∷ (name_token (codes "b") 44) ∷ (mark_token 1 (codes ")") 45) ∷ (mark_token 15 (codes ";") 46) ∷ (word_token 17 (codes "end") 48) ∷ (name_token (codes "P") 52) ∷ (mark_token 15 (codes ";") 53) ∷ (end_token 54) ∷ []) ≡ read (record { file = 1; within = None; classes = (record { kind = Connector; flags = plain_flags; name = codes "P"; place = place_at 18; body = Long (Some (record { 0 = (record { each = false; last = false; name = record { 0 = (codes "a" ∷ []) }; place = place_at 20; give = Modify (record { 0 = [] }) (Some (at 24 (Whole (pos 1)))) } ∷ []) })) [] false } ∷ []) }) ([])
unfolding reads reads_as rule name_called out-Node
extending_class = refl

-- model M replaceable model N end N constrainedby O; end M;
replaceable_class : reads Files whole_limits ((word_token 36 (codes "model") 0) ∷ (name_token (codes "M") 6) ∷ (word_token 50 (codes "replaceable") 8) ∷ (word_token 36 (codes "model") 20) ∷ (name_token (codes "N") 26) ∷ (word_token 17 (codes "end") 28) ∷ (name_token (codes "N") 32) ∷ (word_token 9 (codes "constrainedby") 34) ∷ (name_token (codes "O") 48) ∷ (mark_token 15 (codes ";") 49) ∷ (word_token 17 (codes "end") 51) ∷ (name_token (codes "M") 55) ∷ (mark_token 15 (codes ";") 56) ∷ (end_token 57) ∷ []) ≡ read (record { file = 1; within = None; classes = (record { kind = Model; flags = plain_flags; name = codes "M"; place = place_at 6; body = Long None (Member (record { flags = record { redeclare = false; last = false; inner = false; outer = false; replaceable = true; hidden = false }; what = Class (record { kind = Model; flags = plain_flags; name = codes "N"; place = place_at 26; body = Long None [] false }); limit = (Some (record { top = false; parts = (part_at 48 (codes "O") []) ∷ [] }, record { 0 = [] })) }) ∷ []) false } ∷ []) }) ([])
unfolding reads reads_as rule name_called out-Node
replaceable_class = refl

-- ---- what is refused

-- a^-2
sign_behind_power : reads Expressions whole_limits ((name_token (codes "a") 0) ∷ (mark_token 25 (codes "^") 1) ∷ (mark_token 5 (codes "-") 2) ∷ (whole_token (codes "2") 3) ∷ (end_token 4) ∷ []) ≡ stuck Misplaced ((mark_token 5 (codes "-") 2) ∷ (whole_token (codes "2") 3) ∷ (end_token 4) ∷ [])
unfolding reads reads_as rule name_called out-Node
sign_behind_power = refl

-- f(1, x = 2, 3)
plain_behind_named : reads Expressions whole_limits ((name_token (codes "f") 0) ∷ (mark_token 0 (codes "(") 1) ∷ (whole_token (codes "1") 2) ∷ (mark_token 4 (codes ",") 3) ∷ (name_token (codes "x") 5) ∷ (mark_token 19 (codes "=") 7) ∷ (whole_token (codes "2") 9) ∷ (mark_token 4 (codes ",") 10) ∷ (whole_token (codes "3") 12) ∷ (mark_token 1 (codes ")") 13) ∷ (end_token 14) ∷ []) ≡ stuck Misplaced ((whole_token (codes "3") 12) ∷ (mark_token 1 (codes ")") 13) ∷ (end_token 14) ∷ [])
unfolding reads reads_as rule name_called out-Node
plain_behind_named = refl

-- no token
nothing : reads Expressions whole_limits ((end_token 0) ∷ []) ≡ stuck Misplaced ((end_token 0) ∷ [])
unfolding reads reads_as rule name_called out-Node
nothing = refl

-- a +
operand_missing : reads Expressions whole_limits ((name_token (codes "a") 0) ∷ (mark_token 3 (codes "+") 2) ∷ (end_token 4) ∷ []) ≡ stuck Misplaced ((end_token 4) ∷ [])
unfolding reads reads_as rule name_called out-Node
operand_missing = refl

-- (a < b < c)
two_relations_in_parentheses : reads Expressions whole_limits ((mark_token 0 (codes "(") 0) ∷ (name_token (codes "a") 1) ∷ (mark_token 16 (codes "<") 3) ∷ (name_token (codes "b") 5) ∷ (mark_token 16 (codes "<") 7) ∷ (name_token (codes "c") 9) ∷ (mark_token 1 (codes ")") 10) ∷ (end_token 11) ∷ []) ≡ stuck Misplaced ((mark_token 16 (codes "<") 7) ∷ (name_token (codes "c") 9) ∷ (mark_token 1 (codes ")") 10) ∷ (end_token 11) ∷ [])
unfolding reads reads_as rule name_called out-Node
two_relations_in_parentheses = refl

-- if a then b
no_else : reads Expressions whole_limits ((word_token 28 (codes "if") 0) ∷ (name_token (codes "a") 3) ∷ (word_token 53 (codes "then") 5) ∷ (name_token (codes "b") 10) ∷ (end_token 11) ∷ []) ≡ stuck Misplaced ((end_token 11) ∷ [])
unfolding reads reads_as rule name_called out-Node
no_else = refl

-- {1, }
comma_at_end : reads Expressions whole_limits ((mark_token 26 (codes "{") 0) ∷ (whole_token (codes "1") 1) ∷ (mark_token 4 (codes ",") 2) ∷ (mark_token 27 (codes "}") 4) ∷ (end_token 5) ∷ []) ≡ stuck Misplaced ((mark_token 27 (codes "}") 4) ∷ (end_token 5) ∷ [])
unfolding reads reads_as rule name_called out-Node
comma_at_end = refl

-- der + 1
derivative_alone : reads Expressions whole_limits ((word_token 10 (codes "der") 0) ∷ (mark_token 3 (codes "+") 4) ∷ (whole_token (codes "1") 6) ∷ (end_token 7) ∷ []) ≡ stuck Misplaced ((mark_token 3 (codes "+") 4) ∷ (whole_token (codes "1") 6) ∷ (end_token 7) ∷ [])
unfolding reads reads_as rule name_called out-Node
derivative_alone = refl

-- ((x))
too_deep : reads Expressions (limits_inside 1) ((mark_token 0 (codes "(") 0) ∷ (mark_token 0 (codes "(") 1) ∷ (name_token (codes "x") 2) ∷ (mark_token 1 (codes ")") 3) ∷ (mark_token 1 (codes ")") 4) ∷ (end_token 5) ∷ []) ≡ stuck TooDeep ((mark_token 0 (codes "(") 1) ∷ (name_token (codes "x") 2) ∷ (mark_token 1 (codes ")") 3) ∷ (mark_token 1 (codes ")") 4) ∷ (end_token 5) ∷ [])
unfolding reads reads_as rule name_called out-Node
too_deep = refl

-- if a then b else c
too_deep_if : reads Expressions (limits_inside 0) ((word_token 28 (codes "if") 0) ∷ (name_token (codes "a") 3) ∷ (word_token 53 (codes "then") 5) ∷ (name_token (codes "b") 10) ∷ (word_token 13 (codes "else") 12) ∷ (name_token (codes "c") 17) ∷ (end_token 18) ∷ []) ≡ stuck TooDeep ((word_token 28 (codes "if") 0) ∷ (name_token (codes "a") 3) ∷ (word_token 53 (codes "then") 5) ∷ (name_token (codes "b") 10) ∷ (word_token 13 (codes "else") 12) ∷ (name_token (codes "c") 17) ∷ (end_token 18) ∷ [])
unfolding reads reads_as rule name_called out-Node
too_deep_if = refl

-- (x
deep_enough_but_cut : reads Expressions (limits_inside 1) ((mark_token 0 (codes "(") 0) ∷ (name_token (codes "x") 1) ∷ (end_token 2) ∷ []) ≡ stuck Misplaced ((end_token 2) ∷ [])
unfolding reads reads_as rule name_called out-Node
deep_enough_but_cut = refl

-- x + 1
no_equation : reads EquationItems whole_limits ((name_token (codes "x") 0) ∷ (mark_token 3 (codes "+") 2) ∷ (whole_token (codes "1") 4) ∷ (end_token 5) ∷ []) ≡ stuck Misplaced ((end_token 5) ∷ [])
unfolding reads reads_as rule name_called out-Node denote.Hole.Carrier.out
no_equation = refl

-- (f(x))
call_in_parentheses : reads EquationItems whole_limits ((mark_token 0 (codes "(") 0) ∷ (name_token (codes "f") 1) ∷ (mark_token 0 (codes "(") 2) ∷ (name_token (codes "x") 3) ∷ (mark_token 1 (codes ")") 4) ∷ (mark_token 1 (codes ")") 5) ∷ (end_token 6) ∷ []) ≡ stuck Misplaced ((end_token 6) ∷ [])
unfolding reads reads_as rule name_called out-Node
call_in_parentheses = refl

-- for i in n loop end if
other_end : reads EquationItems whole_limits ((word_token 26 (codes "for") 0) ∷ (name_token (codes "i") 4) ∷ (word_token 31 (codes "in") 6) ∷ (name_token (codes "n") 9) ∷ (word_token 35 (codes "loop") 11) ∷ (word_token 17 (codes "end") 16) ∷ (word_token 28 (codes "if") 20) ∷ (end_token 22) ∷ []) ≡ stuck Misplaced ((word_token 28 (codes "if") 20) ∷ (end_token 22) ∷ [])
unfolding reads reads_as rule name_called out-Node
other_end = refl

-- x = 1
equals_for_assigns : reads StatementItems whole_limits ((name_token (codes "x") 0) ∷ (mark_token 19 (codes "=") 2) ∷ (whole_token (codes "1") 4) ∷ (end_token 5) ∷ []) ≡ stuck Misplaced ((mark_token 19 (codes "=") 2) ∷ (whole_token (codes "1") 4) ∷ (end_token 5) ∷ [])
unfolding reads reads_as rule name_called out-Node
equals_for_assigns = refl

-- (final each a)
final_before_each : reads ClassMods whole_limits ((mark_token 0 (codes "(") 0) ∷ (word_token 24 (codes "final") 1) ∷ (word_token 12 (codes "each") 7) ∷ (name_token (codes "a") 12) ∷ (mark_token 1 (codes ")") 13) ∷ (end_token 14) ∷ []) ≡ stuck Misplaced ((word_token 12 (codes "each") 7) ∷ (name_token (codes "a") 12) ∷ (mark_token 1 (codes ")") 13) ∷ (end_token 14) ∷ [])
unfolding reads reads_as rule name_called out-Node
final_before_each = refl

-- model M end N;
another_name : reads Files whole_limits ((word_token 36 (codes "model") 0) ∷ (name_token (codes "M") 6) ∷ (word_token 17 (codes "end") 8) ∷ (name_token (codes "N") 12) ∷ (mark_token 15 (codes ";") 13) ∷ (end_token 14) ∷ []) ≡ stuck Misnamed ((name_token (codes "N") 12) ∷ (mark_token 15 (codes ";") 13) ∷ (end_token 14) ∷ [])
unfolding reads reads_as rule name_called out-Node
another_name = refl

-- model M model N end M; end M;
inner_name : reads Files whole_limits ((word_token 36 (codes "model") 0) ∷ (name_token (codes "M") 6) ∷ (word_token 36 (codes "model") 8) ∷ (name_token (codes "N") 14) ∷ (word_token 17 (codes "end") 16) ∷ (name_token (codes "M") 20) ∷ (mark_token 15 (codes ";") 21) ∷ (word_token 17 (codes "end") 23) ∷ (name_token (codes "M") 27) ∷ (mark_token 15 (codes ";") 28) ∷ (end_token 29) ∷ []) ≡ stuck Misnamed ((name_token (codes "M") 20) ∷ (mark_token 15 (codes ";") 21) ∷ (word_token 17 (codes "end") 23) ∷ (name_token (codes "M") 27) ∷ (mark_token 15 (codes ";") 28) ∷ (end_token 29) ∷ [])
unfolding reads reads_as rule name_called out-Node
inner_name = refl

-- model M equation x = a + ; end M;
operand_before_semicolon : reads Files whole_limits ((word_token 36 (codes "model") 0) ∷ (name_token (codes "M") 6) ∷ (word_token 19 (codes "equation") 8) ∷ (name_token (codes "x") 17) ∷ (mark_token 19 (codes "=") 19) ∷ (name_token (codes "a") 21) ∷ (mark_token 3 (codes "+") 23) ∷ (mark_token 15 (codes ";") 25) ∷ (word_token 17 (codes "end") 27) ∷ (name_token (codes "M") 31) ∷ (mark_token 15 (codes ";") 32) ∷ (end_token 33) ∷ []) ≡ stuck Misplaced ((mark_token 15 (codes ";") 25) ∷ (word_token 17 (codes "end") 27) ∷ (name_token (codes "M") 31) ∷ (mark_token 15 (codes ";") 32) ∷ (end_token 33) ∷ [])
unfolding reads reads_as rule name_called out-Node
operand_before_semicolon = refl

-- model M Real x end M;
no_semicolon : reads Files whole_limits ((word_token 36 (codes "model") 0) ∷ (name_token (codes "M") 6) ∷ (name_token (codes "Real") 8) ∷ (name_token (codes "x") 13) ∷ (word_token 17 (codes "end") 15) ∷ (name_token (codes "M") 19) ∷ (mark_token 15 (codes ";") 20) ∷ (end_token 21) ∷ []) ≡ stuck Misplaced ((word_token 17 (codes "end") 15) ∷ (name_token (codes "M") 19) ∷ (mark_token 15 (codes ";") 20) ∷ (end_token 21) ∷ [])
unfolding reads reads_as rule name_called out-Node
no_semicolon = refl

-- model M
no_end : reads Files whole_limits ((word_token 36 (codes "model") 0) ∷ (name_token (codes "M") 6) ∷ (end_token 7) ∷ []) ≡ stuck Misplaced ((end_token 7) ∷ [])
unfolding reads reads_as rule name_called out-Node
no_end = refl

-- model M model N end N; end M;
class_too_deep : reads Files (at_most 128 1 (this_name [])) ((word_token 36 (codes "model") 0) ∷ (name_token (codes "M") 6) ∷ (word_token 36 (codes "model") 8) ∷ (name_token (codes "N") 14) ∷ (word_token 17 (codes "end") 16) ∷ (name_token (codes "N") 20) ∷ (mark_token 15 (codes ";") 21) ∷ (word_token 17 (codes "end") 23) ∷ (name_token (codes "M") 27) ∷ (mark_token 15 (codes ";") 28) ∷ (end_token 29) ∷ []) ≡ stuck TooDeep ((word_token 36 (codes "model") 8) ∷ (name_token (codes "N") 14) ∷ (word_token 17 (codes "end") 16) ∷ (name_token (codes "N") 20) ∷ (mark_token 15 (codes ";") 21) ∷ (word_token 17 (codes "end") 23) ∷ (name_token (codes "M") 27) ∷ (mark_token 15 (codes ";") 28) ∷ (end_token 29) ∷ [])
unfolding reads reads_as rule name_called out-Node
class_too_deep = refl

-- model M equation x = (1); end M;
bracket_too_deep_in_class : reads Files (at_most 1 32 (this_name [])) ((word_token 36 (codes "model") 0) ∷ (name_token (codes "M") 6) ∷ (word_token 19 (codes "equation") 8) ∷ (name_token (codes "x") 17) ∷ (mark_token 19 (codes "=") 19) ∷ (mark_token 0 (codes "(") 21) ∷ (whole_token (codes "1") 22) ∷ (mark_token 1 (codes ")") 23) ∷ (mark_token 15 (codes ";") 24) ∷ (word_token 17 (codes "end") 26) ∷ (name_token (codes "M") 30) ∷ (mark_token 15 (codes ";") 31) ∷ (end_token 32) ∷ []) ≡ stuck TooDeep ((mark_token 0 (codes "(") 21) ∷ (whole_token (codes "1") 22) ∷ (mark_token 1 (codes ")") 23) ∷ (mark_token 15 (codes ";") 24) ∷ (word_token 17 (codes "end") 26) ∷ (name_token (codes "M") 30) ∷ (mark_token 15 (codes ";") 31) ∷ (end_token 32) ∷ [])
unfolding reads reads_as rule name_called out-Node
bracket_too_deep_in_class = refl

-- function f external; equation end f;
section_behind_external : reads Files whole_limits ((word_token 27 (codes "function") 0) ∷ (name_token (codes "f") 9) ∷ (word_token 22 (codes "external") 11) ∷ (mark_token 15 (codes ";") 19) ∷ (word_token 19 (codes "equation") 21) ∷ (word_token 17 (codes "end") 30) ∷ (name_token (codes "f") 34) ∷ (mark_token 15 (codes ";") 35) ∷ (end_token 36) ∷ []) ≡ stuck Misplaced ((word_token 19 (codes "equation") 21) ∷ (word_token 17 (codes "end") 30) ∷ (name_token (codes "f") 34) ∷ (mark_token 15 (codes ";") 35) ∷ (end_token 36) ∷ [])
unfolding reads reads_as rule name_called out-Node
section_behind_external = refl
