-- The arguments of calls in pieces.
use Rattle.std.proofs.Common.{◌≡◌, ℕ, List, [], ◌∷◌, ◌++◌, inl, inr, map, Option, Some, None, refl, sym, ap, subst, ◌∙◌, append-nil, append_assoc}
use Rattle.std.specs.Prelude.{codes, flat_map}
use Rattle.std.specs.Option.{option_map}
use Rattle.mo_syntax.specs.declared.expr.ReferenceOf.{ReferenceOf}
use Rattle.mo_syntax.specs.declared.expr.IndexOf.{IndexOf}
use Rattle.mo_syntax.specs.declared.expr.Expr.{Expr}
use Rattle.mo_syntax.specs.declared.expr.Arg.{Arg}
use Rattle.mo_syntax.specs.declared.expr.Arg.TheVariants.{Value, Partial}
use Rattle.mo_syntax.specs.declared.expr.Args.{Args, out-roll-Args}
use Rattle.mo_grammar.specs.Codes.{comma as comma_code, equals, open_paren, close_paren, function_word, for_word}
use Rattle.mo_grammar.specs.Grammar.{a_construct, Limits, left_inside, seq, made, symbol}
use Rattle.mo_grammar.specs.Forms.{optional, behind, between}
use Rattle.mo_grammar.specs.Symbols.{Form, Expressions, CallArguments, Arguments, MoreArguments, OneArgument, Indices, TypeSpecs}
use Rattle.mo_grammar.specs.Productions.{rule}
use Rattle.mo_grammar.specs.Expressions.{named, named_list, function_argument, arg, more_arguments, args, call_args}
use Rattle.mo_grammar.specs.Trees.{Given, or_nothing, args_of, args_or_none, given_named, given_or_none, given_more, args_given, following_iters, following_more, args_from, partial_argument}
use Rattle.mo_pieces.specs.Pieces.{Piece, a_mark, a_word, IsToken}
use Rattle.mo_unparse.specs.Placeless.{placeless_expr, placeless_arg, placeless_named, placeless_indices, placeless_reference}
use Rattle.mo_pieces.specs.ShownExpressions.{shown_expr, pieces_of_arg, pieces_of_args, named_pieces, given_pieces, iterators_pieces, a_comma, spaced, commas, in_parentheses}
use Rattle.mo_unparse.proofs.PlacelessForms as placeless
use Rattle.mo_unparse.proofs.ExpressionForms as forms
use Rattle.mo_unparse.proofs.Holding.{HoldsBy}
use Rattle.mo_unparse.proofs.Building.{IsPrinted, by_pieces, by_value, by_name, by_made, by_seq, by_each, by_rule, by_left, by_right, by_left2, by_right2, by_between, by_behind, by_present, by_absent, after_blank}
use Rattle.mo_unparse.proofs.WordPieces.{comma_is, equals_is, open_paren_is, close_paren_is, function_word_is, for_word_is}
use Rattle.mo_unparse.proofs.PrintingLevels.{IsGiven, expression_printed}
use Rattle.mo_unparse.proofs.PrintingLists.{HoldsOption, optional_held, behind_held, between_held, each_held, by_mark, each_marked, IsSome, some}
use Rattle.mo_unparse.proofs.PrintingReferences.{iterators_some}
use Rattle.mo_unparse.proofs.ExpressionFacts.{ExpressionFact, listed_pieces}

-- ---- named arguments

named_held : (l : Limits) (n : List ℕ × Arg) → HoldsBy ExpressionFact IsToken named l n → IsPrinted named l (named_pieces pieces_of_arg n) (placeless_named n)
named_held l n ((t, a), ((is_token, code), value), same) =
    subst (λ v. IsPrinted named l (named_pieces pieces_of_arg v) (placeless_named v)) same
    (by_made refl (by_seq (by_name t is_token code) (by_mark (spaced (a_mark (codes "="))) equals_is refl (behind_held ExpressionFact equals (symbol OneArgument) l a value))))

named_list_printed : (l : Limits) (list : List (List ℕ × Arg)) → HoldsBy ExpressionFact IsToken named_list l list → IsPrinted named_list l (commas (named_pieces pieces_of_arg) list) (map placeless_named list)
named_list_printed l list ((t, (a, more)), ((is_token, code), (value, others)), same) =
    subst (λ v. IsPrinted named_list l (commas (named_pieces pieces_of_arg) v) (map placeless_named v)) same
    (by_made refl (by_seq (by_name t is_token code) (by_seq (by_mark (spaced (a_mark (codes "="))) equals_is refl (behind_held ExpressionFact equals (symbol OneArgument) l a value))
    (by_each (λ n. a_comma ++ named_pieces pieces_of_arg n) placeless_named more
    (each_marked named l a_comma comma_is refl (named_pieces pieces_of_arg) placeless_named more (each_held (λ n h. named_held l n (behind_held ExpressionFact comma_code named l n h)) more others))))))

named_list_some : (l : Limits) (list : List (List ℕ × Arg)) → HoldsBy ExpressionFact IsToken named_list l list → IsSome list
named_list_some l list (x, held, same) = subst (λ v. IsSome v) same some

-- ---- one argument

options_printed : (l : Limits) (o : Option (List (List ℕ × Arg))) → HoldsOption (HoldsBy ExpressionFact IsToken named_list l) o →
    IsPrinted (optional named_list) l (commas (named_pieces pieces_of_arg) (or_nothing o)) (option_map (map placeless_named) o)
options_printed l None h = by_absent
options_printed l (Some list) h = by_present (named_list_printed l list h)

partial_value : (r : ReferenceOf Expr) (o : Option (List (List ℕ × Arg))) → partial_argument (placeless_reference r, option_map (map placeless_named) o) ≡ Partial (placeless_reference r) (map placeless_named (or_nothing o))
partial_value r None = refl
partial_value r (Some list) = refl

abbrev FunctionRest : Form (ReferenceOf Expr × Option (List (List ℕ × Arg)))
FunctionRest = seq (symbol TypeSpecs) (between open_paren close_paren (optional named_list))

function_printed : (l : Limits) (r : ReferenceOf Expr) (o : Option (List (List ℕ × Arg))) → HoldsBy ExpressionFact IsToken FunctionRest l (r, o) →
    IsPrinted function_argument l (pieces_of_arg (Partial r (or_nothing o))) (placeless_arg (Partial r (or_nothing o)))
function_printed l r o (p, given) =
    let inside = between_held ExpressionFact open_paren close_paren (optional named_list) l o given in
    by_made (partial_value r o ∙ sym (placeless.at_Partial r (or_nothing o))) (by_pieces (sym (forms.at_Partial r (or_nothing o)))
    (by_behind function_word_is (after_blank (by_seq p (by_between inside.1 open_paren_is close_paren_is (options_printed inside.0 o (optional_held ExpressionFact named_list inside.0 o inside.2)))))))

function_held : (l : Limits) (a : Arg) → HoldsBy ExpressionFact IsToken function_argument l a → IsPrinted function_argument l (pieces_of_arg a) (placeless_arg a)
function_held l a ((r, o), held, same) =
    subst (λ v. IsPrinted function_argument l (pieces_of_arg v) (placeless_arg v)) same (function_printed l r o (behind_held ExpressionFact function_word FunctionRest l (r, o) held))

value_printed : (l : Limits) (e : Expr) → IsGiven 0 l e → IsPrinted (made Value (symbol Expressions)) l (pieces_of_arg (Value e)) (placeless_arg (Value e))
value_printed l e p = by_made (sym (placeless.at_Value e)) (by_pieces (sym (forms.at_Value e)) (expression_printed l e p))

pub one_argument_step : (l : Limits) (a : Arg) → HoldsBy ExpressionFact IsToken arg l a → IsPrinted (symbol OneArgument) l (pieces_of_arg a) (placeless_arg a)
unfolding rule
one_argument_step l a (inl h) = by_rule OneArgument (by_left (function_held l a h))
one_argument_step l a (inr (e, p, same)) = subst (λ v. IsPrinted (symbol OneArgument) l (pieces_of_arg v) (placeless_arg v)) same (by_rule OneArgument (by_right (value_printed l e p)))

-- ---- plain arguments and more

abbrev parts_of : List Arg → List (List ℕ × Arg) → List (List Piece)
parts_of plain named = map pieces_of_arg plain ++ map (named_pieces pieces_of_arg) named

abbrev placeless_given : Given → Given
placeless_given given = (map placeless_arg given.0, map placeless_named given.1)

-- a comma, and the arguments behind it
abbrev pieces_behind : Option Given → List Piece
pieces_behind None = []
pieces_behind (Some given) = a_comma ++ given_pieces pieces_of_arg given.0 given.1

one_more : (x : List Piece) (xs : List (List Piece)) → IsSome xs → commas (λ p. p) (x ∷ xs) ≡ x ++ (a_comma ++ commas (λ p. p) xs)
one_more x [] h = elim h [ ]
one_more x (y ∷ ys) h = ap (λ t. x ++ t) (append_assoc a_comma y (flat_map (λ p. a_comma ++ p) ys))

abbrev IsSomeBehind : Option Given → Type 0
IsSomeBehind o = HoldsOption (λ given. IsSome (parts_of given.0 given.1)) o

more_pieces : (a : Arg) (o : Option Given) → IsSomeBehind o → pieces_of_arg a ++ pieces_behind o ≡ given_pieces pieces_of_arg (given_more (a, o)).0 (given_more (a, o)).1
more_pieces a None h = refl
more_pieces a (Some given) h = sym (one_more (pieces_of_arg a) (parts_of given.0 given.1) h)

abbrev FactBehind : Limits → Option Given → Type 0
FactBehind l o = HoldsOption (HoldsBy ExpressionFact IsToken (behind comma_code (symbol MoreArguments)) l) o

some_behind : (l : Limits) (o : Option Given) → FactBehind l o → IsSomeBehind o
some_behind l None h = tt
some_behind l (Some given) h = (behind_held ExpressionFact comma_code (symbol MoreArguments) l given h).1

behind_printed : (l : Limits) (o : Option Given) → FactBehind l o → IsPrinted (optional (behind comma_code (symbol MoreArguments))) l (pieces_behind o) (option_map placeless_given o)
behind_printed l None h = by_absent
behind_printed l (Some given) h = by_present (by_mark a_comma comma_is refl (behind_held ExpressionFact comma_code (symbol MoreArguments) l given h).0)

more_value : (a : Arg) (o : Option Given) → given_more (placeless_arg a, option_map placeless_given o) ≡ placeless_given (given_more (a, o))
more_value a None = refl
more_value a (Some given) = refl

-- an argument and what follows it
more_printed : {g : Form Arg} (l : Limits) (a : Arg) (o : Option Given) → IsPrinted g l (pieces_of_arg a) (placeless_arg a) → FactBehind l o →
    IsPrinted (made given_more (seq g (optional (behind comma_code (symbol MoreArguments))))) l (given_pieces pieces_of_arg (given_more (a, o)).0 (given_more (a, o)).1) (placeless_given (given_more (a, o)))
more_printed l a o p h = by_made (more_value a o) (by_pieces (more_pieces a o (some_behind l o h)) (by_seq p (behind_printed l o h)))

named_only : (list : List (List ℕ × Arg)) → commas (named_pieces pieces_of_arg) list ≡ given_pieces pieces_of_arg [] list
named_only list = sym (forms.joined_map a_comma (λ p. p) (named_pieces pieces_of_arg) (named_pieces pieces_of_arg) (λ n. refl) list)

some_parts : (list : List (List ℕ × Arg)) → IsSome list → IsSome (parts_of [] list)
some_parts [] h = elim h [ ]
some_parts (n ∷ list) h = some

named_given : (l : Limits) (list : List (List ℕ × Arg)) → HoldsBy ExpressionFact IsToken named_list l list → IsPrinted (made given_named named_list) l (given_pieces pieces_of_arg [] list) ([], map placeless_named list)
named_given l list h = by_made refl (by_pieces (named_only list) (named_list_printed l list h))

pub more_arguments_step : (l : Limits) (given : Given) → HoldsBy ExpressionFact IsToken more_arguments l given → ExpressionFact MoreArguments l given
unfolding rule
more_arguments_step l given (inl (list, h, same)) =
    subst (λ v. ExpressionFact MoreArguments l v) same (by_rule MoreArguments (by_left2 (named_given l list h)), some_parts list (named_list_some l list h))
more_arguments_step l given (inr ((a, o), (p, rest), same)) =
    subst (λ v. ExpressionFact MoreArguments l v) same
    (by_rule MoreArguments (by_right2 (more_printed l a o p (optional_held ExpressionFact (behind comma_code (symbol MoreArguments)) l o rest))), some)

-- ---- all arguments of a call

arguments_listed : (l : Limits) (plain : List Arg) (named : List (List ℕ × Arg)) (iters : List (IndexOf Expr)) → IsPrinted (symbol Arguments) l (listed_pieces plain named iters) (args_of (map placeless_arg plain) (map placeless_named named) (placeless_indices iters)) →
    ExpressionFact Arguments l (args_of plain named iters)
arguments_listed l plain named iters p =
    by_pieces (ap (λ r. listed_pieces r.plain r.named r.iters) (sym (out-roll-Args (record { plain = plain; named = named; iters = iters })))) (by_value (sym (placeless.at_args_of plain named iters)) p)

no_iterators : (plain : List Arg) (named : List (List ℕ × Arg)) → given_pieces pieces_of_arg plain named ≡ listed_pieces plain named []
no_iterators plain named = sym (append-nil (given_pieces pieces_of_arg plain named))

iterated : (l : Limits) (e : Expr) (is : List (IndexOf Expr)) → IsGiven 0 l e → ExpressionFact Indices l is → ExpressionFact Arguments l (args_from (e, following_iters is))
unfolding rule
iterated l e is p q =
    arguments_listed l (Value e ∷ []) [] is (by_pieces (ap (λ t. t ++ iterators_pieces shown_expr is) (sym (append-nil (pieces_of_arg (Value e))))) (by_rule Arguments (by_right2 (by_right (by_made (ap (λ v. args_of (v ∷ []) [] (placeless_indices is)) (sym (placeless.at_Value e)))
    (by_pieces (placeless.both_same (λ a b. a ++ b) _ _ _ _ (sym (forms.at_Value e)) (iterators_some is q.1))
    (by_seq (expression_printed l e p) (by_left (by_made refl (by_mark (spaced (a_word (codes "for"))) for_word_is refl q.0))))))))))

followed_value : (e : Expr) (o : Option Given) → args_from (placeless_expr e, following_more (option_map placeless_given o)) ≡ args_of (map placeless_arg (Value e ∷ (given_or_none o).0)) (map placeless_named (given_or_none o).1) []
followed_value e None = ap (λ v. args_of (v ∷ []) [] []) (sym (placeless.at_Value e))
followed_value e (Some given) = ap (λ v. args_of (v ∷ map placeless_arg given.0) (map placeless_named given.1) []) (sym (placeless.at_Value e))

followed : (l : Limits) (e : Expr) (o : Option Given) → IsGiven 0 l e → FactBehind l o → ExpressionFact Arguments l (args_from (e, following_more o))
unfolding rule
followed l e o p h =
    arguments_listed l (Value e ∷ (given_or_none o).0) (given_or_none o).1 [] (by_pieces (no_iterators (Value e ∷ (given_or_none o).0) (given_or_none o).1) (by_rule Arguments (by_right2 (by_right (by_made (followed_value e o)
    (by_pieces (ap (λ t. t ++ pieces_behind o) (sym (forms.at_Value e)) ∙ more_pieces (Value e) o (some_behind l o h)) (by_seq (expression_printed l e p) (by_right (by_made refl (behind_printed l o h))))))))))

pub arguments_step : (l : Limits) (a : Args) → HoldsBy ExpressionFact IsToken args l a → ExpressionFact Arguments l a
unfolding rule
arguments_step l a (inl (given, (list, h, same), whole)) =
    subst (λ v. ExpressionFact Arguments l v) (ap args_given same ∙ whole)
    (arguments_listed l [] list [] (by_pieces (no_iterators [] list) (by_rule Arguments (by_left2 (by_made refl (named_given l list h))))))
arguments_step l a (inr (inl (given, ((f, o), (p, rest), same), whole))) =
    subst (λ v. ExpressionFact Arguments l v) (ap args_given same ∙ whole)
    (arguments_listed l (given_more (f, o)).0 (given_more (f, o)).1 [] (by_pieces (no_iterators (given_more (f, o)).0 (given_more (f, o)).1)
    (by_rule Arguments (by_right2 (by_left (by_made refl (more_printed l f o (function_held l f p) (optional_held ExpressionFact (behind comma_code (symbol MoreArguments)) l o rest))))))))
arguments_step l a (inr (inr ((e, x), (p, inl (is, h, same)), whole))) =
    subst (λ v. ExpressionFact Arguments l v) (ap (λ y. args_from (e, y)) same ∙ whole) (iterated l e is p (behind_held ExpressionFact for_word (symbol Indices) l is h))
arguments_step l a (inr (inr ((e, x), (p, inr (o, h, same)), whole))) =
    subst (λ v. ExpressionFact Arguments l v) (ap (λ y. args_from (e, y)) same ∙ whole) (followed l e o p (optional_held ExpressionFact (behind comma_code (symbol MoreArguments)) l o h))

no_arguments : pieces_of_args (args_of [] [] []) ≡ in_parentheses []
no_arguments = forms.at_Args (args_of [] [] []) ∙ ap (λ r. in_parentheses (listed_pieces r.plain r.named r.iters)) (out-roll-Args (record { plain = []; named = []; iters = [] }))

called_with : (l inner : Limits) (o : Option Args) → left_inside a_construct l ≡ Some inner → HoldsOption (λ a. ExpressionFact Arguments inner a) o → ExpressionFact CallArguments l (args_or_none o)
unfolding rule
called_with l inner None within h =
    by_pieces (sym no_arguments) (by_value (sym (placeless.at_args_of [] [] [])) (by_rule CallArguments (by_made refl (by_between within open_paren_is close_paren_is by_absent))))
called_with l inner (Some a) within h =
    by_pieces (sym (forms.at_Args a)) (by_rule CallArguments (by_made refl (by_between within open_paren_is close_paren_is (by_present h))))

pub call_arguments_step : (l : Limits) (a : Args) → HoldsBy ExpressionFact IsToken call_args l a → ExpressionFact CallArguments l a
call_arguments_step l a (o, given, same) =
    let inside = between_held ExpressionFact open_paren close_paren (optional (symbol Arguments)) l o given in
    subst (λ v. ExpressionFact CallArguments l v) same (called_with l inside.0 o inside.1 (optional_held ExpressionFact (symbol Arguments) inside.0 o inside.2))
