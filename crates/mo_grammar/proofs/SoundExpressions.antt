-- What tokens spell by the productions of expressions is sound.
use Rattle.std.proofs.Common.{◌≡◌, ℕ, Bool, true, false, List, [], ◌∷◌, map, Option, Some, None, refl, ap, ◌∙◌}
use Rattle.std.specs.Prelude.{if◌then◌else◌}
use Rattle.std.specs.List.{list_all}
use Rattle.mo_syntax.specs.declared.place.Place.{Place}
use Rattle.mo_syntax.specs.declared.expr.CalleeOf.TheVariants.{Named, Der, Initial, Pure}
use Rattle.mo_syntax.specs.declared.expr.FactorOf.{FactorOf}
use Rattle.mo_syntax.specs.declared.expr.IndexOf.{IndexOf}
use Rattle.mo_syntax.specs.declared.expr.ReferenceOf.{ReferenceOf}
use Rattle.mo_syntax.specs.declared.expr.TermOf.{TermOf}
use Rattle.mo_syntax.specs.declared.expr.Expr.{Expr}
use Rattle.mo_syntax.specs.declared.expr.Args.{Args, out-roll-Args}
use Rattle.mo_syntax.specs.declared.expr.Arg.{Arg}
use Rattle.mo_syntax.specs.declared.expr.Arg.TheVariants.{Value, Partial, outs-Value, outs-Partial}
use Rattle.mo_syntax.specs.declared.expr.Node.{Node, Node-F, out-Node}
use Rattle.mo_syntax.specs.declared.expr.Node.TheVariants.{Sum, outs-Whole, outs-Decimal, outs-Str, outs-Truth, outs-Ref, outs-Sum, outs-Product, outs-Power, outs-Relation, outs-Not, outs-All, outs-Any, outs-Range, outs-If, outs-Call, outs-Tuple, outs-Array, outs-ArrayFor, outs-Matrix, outs-EndMark}
use Rattle.mo_syntax.specs.SoundTree.{Naming, some_by, option_by, part_by, callee_by, index_by, named_by, branch_by, node_by, args_by, arg_by, is_sound_expr, is_sound_args, is_sound_arg, is_sound_option, are_sound_options, is_sound_reference, are_sound_indices}
use Rattle.mo_syntax.proofs.SoundParts.{expr_is, node_is, args_are, arg_is}
use Rattle.mo_grammar.specs.Lexeme.{Lexeme}
use Rattle.mo_grammar.specs.Codes.{comma}
use Rattle.mo_grammar.specs.Grammar.{symbol}
use Rattle.mo_grammar.specs.Forms.{behind, optional}
use Rattle.mo_grammar.specs.Trees.{expr_at, plain_part, or_nothing, reference_node, callee_of, args_of, args_or_none, Given, given_or_none, Following, terms_tree, sum_tree, product_tree, power_tree, relation_tree, not_tree, any_tree, all_tree, range_tree, outputs_tree, array_node, is_minus, term_of, InBraces}
use Rattle.mo_grammar.specs.Symbols.{Expressions, Simples, Logicals, Conjunctions, Negations, Relations, Sums, Products, Powers, Primaries, CallArguments, Arguments, MoreArguments, OneArgument, Indices, References, Subscripts, TypeSpecs, Names}
use Rattle.mo_grammar.specs.Expressions.{name, type_spec, part, reference, subscript, subscripts, index, indices, named, named_list, function_argument, arg, more_arguments, args, call_args, outputs, exprs, array_args, literal, word_call, primary, factor, term, arith, relation, neg, conj, logical, simple, further_branch, if_expression, expr}
use Rattle.mo_grammar.proofs.Codes.{both}
use Rattle.mo_grammar.proofs.SoundSteps.{all_true, named_token, Makes, OfOption, anything, by_symbol, by_name, by_seq, by_either, by_either2, by_made, by_weaker, by_placed, by_nested, by_many, by_optional, by_behind, by_between, by_separated, by_listed}

-- ---- options and lists

pub option_passes : {A : Type 0} (test : A → Bool) (o : Option A) → OfOption (λ a. test a ≡ true) o → option_by test o ≡ true
option_passes test None h = refl
option_passes test (Some a) h = h

pub options_or_nothing : {A : Type 0} (test : A → Bool) (o : Option (List A)) → OfOption (λ list. list_all test list ≡ true) o → list_all test (or_nothing o) ≡ true
options_or_nothing test None h = refl
options_or_nothing test (Some list) h = h

-- names that become parts of a reference
parts_named : (is_name : Naming) (names : List Lexeme) → list_all (named_token is_name) names ≡ true → list_all (part_by is_name (is_sound_expr is_name)) (map plain_part names) ≡ true
parts_named is_name [] h = refl
parts_named is_name (t ∷ names) h = let parts = both (is_name t.text) _ h in all_true (all_true parts.0 refl) (parts_named is_name names parts.1)

some_parts_named : (is_name : Naming) (names : List Lexeme) → some_by (named_token is_name) names ≡ true → some_by (part_by is_name (is_sound_expr is_name)) (map plain_part names) ≡ true
some_parts_named is_name [] h = h
some_parts_named is_name (t ∷ names) h = parts_named is_name (t ∷ names) h

module _ (is_name : Naming) where
  abbrev sound : Expr → Bool
  sound = is_sound_expr is_name

  -- a node whose form is sound, at any place
  pub node_sound : (place : Place) (n : Node) (layer : Node-F Arg Node Args Expr) → out-Node n ≡ layer → node_by is_name (is_sound_args is_name) sound layer ≡ true → sound (expr_at place n) ≡ true
  node_sound place n layer e h = expr_is is_name (expr_at place n) ∙ (node_is is_name n ∙ (ap (node_by is_name (is_sound_args is_name) sound) e ∙ h))

  -- ---- names and references

  pub names_made : Makes is_name name (λ names. some_by (named_token is_name) names ≡ true)
  names_made = by_separated (named_token is_name) by_name

  pub type_specs_made : Makes is_name type_spec (λ r. is_sound_reference is_name r ≡ true)
  type_specs_made = by_made (by_seq (anything _) (by_symbol Names)) (λ x h. some_parts_named is_name x.1 h.1)

  part_made : Makes is_name part (λ p. part_by is_name sound p ≡ true)
  part_made = by_made (by_seq by_name (by_optional (by_symbol Subscripts))) (λ x h. all_true h.0 (options_or_nothing _ x.1 h.1))

  pub references_made : Makes is_name reference (λ r. is_sound_reference is_name r ≡ true)
  references_made = by_made (by_seq (anything _) (by_separated (part_by is_name sound) part_made)) (λ x h. h.1)

  subscript_made : Makes is_name subscript (λ o. is_sound_option is_name o ≡ true)
  subscript_made = by_either (by_made (anything _) (λ t h. refl)) (by_made (by_symbol Expressions) (λ e h. h))

  pub subscripts_made : Makes is_name subscripts (λ subs. are_sound_options is_name subs ≡ true)
  subscripts_made = by_between (by_listed (is_sound_option is_name) subscript_made)

  index_made : Makes is_name index (λ i. index_by is_name sound i ≡ true)
  index_made = by_made (by_seq by_name (by_optional (by_behind (by_symbol Expressions)))) (λ x h. all_true h.0 (option_passes sound x.1 h.1))

  pub indices_made : Makes is_name indices (λ list. are_sound_indices is_name list ≡ true)
  indices_made = by_listed (index_by is_name sound) index_made

  -- ---- arguments

  abbrev named_test : List ℕ × Arg → Bool
  named_test = named_by is_name (is_sound_arg is_name)

  abbrev AreSoundGiven : Given → Type 0
  AreSoundGiven x = (list_all (is_sound_arg is_name) x.0 ≡ true) × (list_all named_test x.1 ≡ true)

  value_sound : (e : Expr) → sound e ≡ true → is_sound_arg is_name (Value e) ≡ true
  value_sound e h = arg_is is_name (Value e) ∙ (ap (arg_by is_name (is_sound_arg is_name) sound) (outs-Value e) ∙ h)

  partial_sound : (r : ReferenceOf Expr) (list : List (List ℕ × Arg)) → is_sound_reference is_name r ≡ true → list_all named_test list ≡ true → is_sound_arg is_name (Partial r list) ≡ true
  partial_sound r list p q = arg_is is_name (Partial r list) ∙ (ap (arg_by is_name (is_sound_arg is_name) sound) (outs-Partial r list) ∙ all_true p q)

  args_sound : (plain : List Arg) (list : List (List ℕ × Arg)) (iters : List (IndexOf Expr)) → list_all (is_sound_arg is_name) plain ≡ true → list_all named_test list ≡ true → are_sound_indices is_name iters ≡ true → is_sound_args is_name (args_of plain list iters) ≡ true
  args_sound plain list iters p q r = args_are is_name (args_of plain list iters) ∙ (ap (args_by is_name (is_sound_arg is_name) sound) (out-roll-Args (record { plain = plain; named = list; iters = iters })) ∙ all_true p (all_true q r))

  given_sound : (o : Option Given) → OfOption AreSoundGiven o → AreSoundGiven (given_or_none o)
  given_sound None h = (refl, refl)
  given_sound (Some given) h = h

  named_made : Makes is_name named (λ n. named_test n ≡ true)
  named_made = by_made (by_seq by_name (by_behind (by_symbol OneArgument))) (λ x h. all_true h.0 h.1)

  named_list_made : Makes is_name named_list (λ list. list_all named_test list ≡ true)
  named_list_made = by_made (by_seq by_name (by_seq (by_behind (by_symbol OneArgument)) (by_many named_test (by_behind named_made)))) (λ x h. all_true (all_true h.0 h.1.0) h.1.1)

  function_argument_made : Makes is_name function_argument (λ a. is_sound_arg is_name a ≡ true)
  function_argument_made = by_made (by_behind (by_seq (by_symbol TypeSpecs) (by_between (by_optional named_list_made)))) (λ x h. partial_sound x.0 (or_nothing x.1) h.0 (options_or_nothing _ x.1 h.1))

  pub one_argument_made : Makes is_name arg (λ a. is_sound_arg is_name a ≡ true)
  one_argument_made = by_either function_argument_made (by_made (by_symbol Expressions) value_sound)

  more_made : Makes is_name (optional (behind comma (symbol MoreArguments))) (OfOption AreSoundGiven)
  more_made = by_optional (by_behind (by_symbol MoreArguments))

  pub more_arguments_made : Makes is_name more_arguments AreSoundGiven
  more_arguments_made =
      by_either2 (by_made named_list_made (λ list h. (refl, h)))
      (by_made (by_seq (by_symbol OneArgument) more_made) (λ x h. let more = given_sound x.1 h.1 in (all_true h.0 more.0, more.1)))

  abbrev IsSoundFollowing : Following → Type 0
  IsSoundFollowing x = (are_sound_indices is_name x.0 ≡ true) × AreSoundGiven x.1

  pub arguments_made : Makes is_name args (λ a. is_sound_args is_name a ≡ true)
  arguments_made =
      by_either2 (by_made (by_made {R = AreSoundGiven} named_list_made (λ list h. (refl, h))) (λ x h. args_sound x.0 x.1 [] h.0 h.1 refl))
      (by_either (by_made (by_made {R = AreSoundGiven} (by_seq function_argument_made more_made) (λ x h. let more = given_sound x.1 h.1 in (all_true h.0 more.0, more.1))) (λ x h. args_sound x.0 x.1 [] h.0 h.1 refl))
      (by_made (by_seq (by_symbol Expressions) (by_either {Q = IsSoundFollowing} (by_made (by_behind (by_symbol Indices)) (λ i h. (h, (refl, refl)))) (by_made more_made (λ o h. (refl, given_sound o h)))))
      (λ x h. args_sound (Value x.0 ∷ x.1.1.0) x.1.1.1 x.1.0 (all_true (value_sound x.0 h.0) h.1.1.0) h.1.1.1 h.1.0)))

  pub args_or_none_sound : (o : Option Args) → OfOption (λ a. is_sound_args is_name a ≡ true) o → is_sound_args is_name (args_or_none o) ≡ true
  args_or_none_sound None h = args_sound [] [] [] refl refl refl
  args_or_none_sound (Some a) h = h

  pub call_arguments_made : Makes is_name call_args (λ a. is_sound_args is_name a ≡ true)
  call_arguments_made = by_made (by_between (by_optional (by_symbol Arguments))) args_or_none_sound

  -- ---- primaries

  pub outputs_made : Makes is_name outputs (λ os. are_sound_options is_name os ≡ true)
  outputs_made = by_listed (is_sound_option is_name) (by_weaker (by_optional (by_symbol Expressions)) (option_passes sound))

  exprs_made : Makes is_name exprs (λ es. some_by sound es ≡ true)
  exprs_made = by_separated sound (by_symbol Expressions)

  literal_made : Makes is_name literal (λ e. sound e ≡ true)
  literal_made =
      by_either (by_made (anything _) (λ t h. node_sound t.place _ _ (outs-Whole _) refl))
      (by_either (by_made (anything _) (λ t h. node_sound t.place _ _ (outs-Decimal t.text) refl))
      (by_either (by_made (anything _) (λ t h. node_sound t.place _ _ (outs-Str t.text) refl))
      (by_either (by_made (anything _) (λ t h. node_sound t.place _ _ (outs-Truth false) refl))
      (by_either (by_made (anything _) (λ t h. node_sound t.place _ _ (outs-Truth true) refl))
      (by_made (anything _) (λ t h. node_sound t.place _ _ outs-EndMark refl))))))

  callee_sound : (a b : Bool) → callee_by is_name sound (if a then Der else (if b then Initial else Pure)) ≡ true
  callee_sound true b = refl
  callee_sound false true = refl
  callee_sound false false = refl

  word_call_made : Makes is_name word_call (λ e. sound e ≡ true)
  word_call_made = by_made (by_seq (anything _) (by_symbol CallArguments)) (λ x h. node_sound x.0.place _ _ (outs-Call (callee_of x.0) x.1) (all_true (callee_sound _ _) h.1))

  reference_sound : (place : Place) (r : ReferenceOf Expr) (o : Option Args) → is_sound_reference is_name r ≡ true → OfOption (λ a. is_sound_args is_name a ≡ true) o → sound (expr_at place (reference_node r o)) ≡ true
  reference_sound place r None p q = node_sound place _ _ (outs-Ref r) p
  reference_sound place r (Some a) p q = node_sound place _ _ (outs-Call (Named r) a) (all_true p q)

  outputs_sound : (place : Place) (os : List (Option Expr)) → are_sound_options is_name os ≡ true → sound (outputs_tree (place, os)) ≡ true
  outputs_sound place [] h = node_sound place _ _ (outs-Tuple []) refl
  outputs_sound place (None ∷ more) h = node_sound place _ _ (outs-Tuple (None ∷ more)) h
  outputs_sound place (Some a ∷ []) h = (both (sound a) true h).0
  outputs_sound place (Some a ∷ b ∷ more) h = node_sound place _ _ (outs-Tuple (Some a ∷ b ∷ more)) h

  abbrev AreSoundInBraces : InBraces → Type 0
  AreSoundInBraces x = OfOption (λ iters. are_sound_indices is_name iters ≡ true) x.0 × (list_all sound x.1 ≡ true)

  array_sound : (place : Place) (a : Expr) (o : Option (List (IndexOf Expr))) (more : List Expr) → sound a ≡ true → OfOption (λ iters. are_sound_indices is_name iters ≡ true) o → list_all sound more ≡ true → sound (expr_at place (array_node a o more)) ≡ true
  array_sound place a None more p q r = node_sound place _ _ (outs-Array (a ∷ more)) (all_true p r)
  array_sound place a (Some iters) more p q r = node_sound place _ _ (outs-ArrayFor a iters) (all_true p q)

  array_args_made : Makes is_name array_args (λ x. (sound x.0 ≡ true) × AreSoundInBraces x.1)
  array_args_made = by_seq (by_symbol Expressions) (by_either {Q = AreSoundInBraces} (by_made (by_behind (by_symbol Indices)) (λ i h. (h, refl))) (by_made (by_many sound (by_behind (by_symbol Expressions))) (λ more h. (tt, h))))

  pub primaries_made : Makes is_name primary (λ e. sound e ≡ true)
  primaries_made =
      by_either literal_made
      (by_either word_call_made
      (by_either (by_made (by_placed (by_seq (by_symbol References) (by_optional (by_symbol CallArguments)))) (λ x h. reference_sound x.0 x.1.0 x.1.1 h.0 h.1))
      (by_either (by_made (by_placed (by_between outputs_made)) (λ x h. outputs_sound x.0 x.1 h))
      (by_either (by_made (by_placed (by_between (by_separated (some_by sound) exprs_made))) (λ x h. node_sound x.0 _ _ (outs-Matrix x.1) h))
      (by_made (by_placed (by_between array_args_made)) (λ x h. array_sound x.0 x.1.0 x.1.1.0 x.1.1.1 h.0 h.1.0 h.1.1))))))

  -- ---- operators

  power_sound : (place : Place) (a : Expr) (o : Option (Lexeme × Expr)) → sound a ≡ true → OfOption (λ x. Unit {0} × (sound x.1 ≡ true)) o → sound (power_tree (place, (a, o))) ≡ true
  power_sound place a None p q = p
  power_sound place a (Some x) p q = node_sound place _ _ (outs-Power a _ x.1) (all_true p q.1)

  pub powers_made : Makes is_name factor (λ e. sound e ≡ true)
  powers_made = by_made (by_placed (by_seq (by_symbol Primaries) (by_optional (by_seq (anything _) (by_symbol Primaries))))) (λ x h. power_sound x.0 x.1.0 x.1.1 h.0 h.1)

  product_sound : (place : Place) (a : Expr) (more : List (FactorOf Expr)) → sound a ≡ true → list_all (λ f. sound f.value) more ≡ true → sound (product_tree (place, (a, more))) ≡ true
  product_sound place a [] p q = p
  product_sound place a (b ∷ more) p q = node_sound place _ _ (outs-Product _) (all_true p q)

  pub products_made : Makes is_name term (λ e. sound e ≡ true)
  products_made = by_made (by_placed (by_seq (by_symbol Powers) (by_many (λ f. sound f.value) (by_made (by_seq (anything _) (by_symbol Powers)) (λ x h. h.1))))) (λ x h. product_sound x.0 x.1.0 x.1.1 h.0 h.1)

  terms_sound : (place : Place) (a : Expr) (more : List (TermOf Expr)) → sound a ≡ true → list_all (λ t. sound t.value) more ≡ true → sound (terms_tree place a more) ≡ true
  terms_sound place a [] p q = p
  terms_sound place a (b ∷ more) p q = node_sound place _ _ (outs-Sum _) (all_true p q)

  signed_sound : (t : Lexeme) (minus : Bool) (place : Place) (a : Expr) (more : List (TermOf Expr)) → sound a ≡ true → list_all (λ t. sound t.value) more ≡ true → sound (if minus then expr_at t.place (Sum (term_of (t, a) ∷ more)) else terms_tree place a more) ≡ true
  signed_sound t true place a more p q = node_sound t.place _ _ (outs-Sum _) (all_true p q)
  signed_sound t false place a more p q = terms_sound place a more p q

  sum_sound : (o : Option Lexeme) (place : Place) (a : Expr) (more : List (TermOf Expr)) → sound a ≡ true → list_all (λ t. sound t.value) more ≡ true → sound (sum_tree (o, (place, (a, more)))) ≡ true
  sum_sound None place a more p q = terms_sound place a more p q
  sum_sound (Some t) place a more p q = signed_sound t (is_minus t) place a more p q

  pub sums_made : Makes is_name arith (λ e. sound e ≡ true)
  sums_made = by_made (by_seq (anything _) (by_placed (by_seq (by_symbol Products) (by_many (λ t. sound t.value) (by_made (by_seq (anything _) (by_symbol Products)) (λ x h. h.1)))))) (λ x h. sum_sound x.0 x.1.0 x.1.1.0 x.1.1.1 h.1.0 h.1.1)

  relation_sound : (place : Place) (a : Expr) (o : Option (Lexeme × Expr)) → sound a ≡ true → OfOption (λ x. Unit {0} × (sound x.1 ≡ true)) o → sound (relation_tree (place, (a, o))) ≡ true
  relation_sound place a None p q = p
  relation_sound place a (Some x) p q = node_sound place _ _ (outs-Relation _ a x.1) (all_true p q.1)

  pub relations_made : Makes is_name relation (λ e. sound e ≡ true)
  relations_made = by_made (by_placed (by_seq (by_symbol Sums) (by_optional (by_seq (anything _) (by_symbol Sums))))) (λ x h. relation_sound x.0 x.1.0 x.1.1 h.0 h.1)

  not_sound : (place : Place) (b : Bool) (a : Expr) → sound a ≡ true → sound (not_tree (place, (b, a))) ≡ true
  not_sound place true a p = node_sound place _ _ (outs-Not a) p
  not_sound place false a p = p

  pub negations_made : Makes is_name neg (λ e. sound e ≡ true)
  negations_made = by_made (by_placed (by_seq (anything _) (by_symbol Relations))) (λ x h. not_sound x.0 x.1.0 x.1.1 h.1)

  all_sound : (place : Place) (a : Expr) (more : List Expr) → sound a ≡ true → list_all sound more ≡ true → sound (all_tree (place, (a, more))) ≡ true
  all_sound place a [] p q = p
  all_sound place a (b ∷ more) p q = node_sound place _ _ (outs-All (a ∷ b ∷ more)) (all_true p q)

  pub conjunctions_made : Makes is_name conj (λ e. sound e ≡ true)
  conjunctions_made = by_made (by_placed (by_seq (by_symbol Negations) (by_many sound (by_behind (by_symbol Negations))))) (λ x h. all_sound x.0 x.1.0 x.1.1 h.0 h.1)

  any_sound : (place : Place) (a : Expr) (more : List Expr) → sound a ≡ true → list_all sound more ≡ true → sound (any_tree (place, (a, more))) ≡ true
  any_sound place a [] p q = p
  any_sound place a (b ∷ more) p q = node_sound place _ _ (outs-Any (a ∷ b ∷ more)) (all_true p q)

  pub logicals_made : Makes is_name logical (λ e. sound e ≡ true)
  logicals_made = by_made (by_placed (by_seq (by_symbol Conjunctions) (by_many sound (by_behind (by_symbol Conjunctions))))) (λ x h. any_sound x.0 x.1.0 x.1.1 h.0 h.1)

  range_sound : (place : Place) (a : Expr) (o : Option (Expr × Option Expr)) → sound a ≡ true → OfOption (λ x. (sound x.0 ≡ true) × OfOption (λ e. sound e ≡ true) x.1) o → sound (range_tree (place, (a, o))) ≡ true
  range_sound place a None p q = p
  range_sound place a (Some (b, None)) p q = node_sound place _ _ (outs-Range a None b) (all_true p q.0)
  range_sound place a (Some (b, Some c)) p q = node_sound place _ _ (outs-Range a (Some b) c) (all_true p (all_true q.0 q.1))

  pub simples_made : Makes is_name simple (λ e. sound e ≡ true)
  simples_made = by_made (by_placed (by_seq (by_symbol Logicals) (by_optional (by_behind (by_seq (by_symbol Logicals) (by_optional (by_behind (by_symbol Logicals)))))))) (λ x h. range_sound x.0 x.1.0 x.1.1 h.0 h.1)

  further_branch_made : Makes is_name further_branch (λ b. branch_by sound b ≡ true)
  further_branch_made = by_made (by_seq (by_behind (by_symbol Expressions)) (by_behind (by_symbol Expressions))) (λ x h. all_true h.0 h.1)

  if_made : Makes is_name if_expression (λ e. sound e ≡ true)
  if_made =
      by_nested (by_made (by_placed (by_behind (by_seq (by_symbol Expressions) (by_seq (by_behind (by_symbol Expressions)) (by_seq (by_many (branch_by sound) further_branch_made) (by_behind (by_symbol Expressions)))))))
      (λ x h. node_sound x.0 _ _ (outs-If _ x.1.1.1.1) (all_true (all_true (all_true h.0 h.1.0) h.1.1.0) h.1.1.1)))

  pub expressions_made : Makes is_name expr (λ e. sound e ≡ true)
  expressions_made = by_either if_made (by_symbol Simples)
