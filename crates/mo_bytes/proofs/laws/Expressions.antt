-- What tokens spell by the productions of expressions stands where the places of the tokens do.
use Rattle.std.proofs.Common.{◌≡◌, ℕ, Bool, true, false, List, [], ◌∷◌, ◌++◌, map, flat_map, Option, Some, None, sym, subst, if◌then◌else◌}
use Rattle.mo_syntax.specs.declared.place.Place.{Place}
use Rattle.mo_syntax.specs.declared.expr.Arg.{Arg, Arg-F}
use Rattle.mo_syntax.specs.declared.expr.Arg.TheVariants.{Value, Partial, outs-Value, outs-Partial}
use Rattle.mo_syntax.specs.declared.expr.Args.{Args, Args-F, out-roll-Args}
use Rattle.mo_syntax.specs.declared.expr.BranchOf.{BranchOf}
use Rattle.mo_syntax.specs.declared.expr.CalleeOf.TheVariants.{Named, Der, Initial, Pure}
use Rattle.mo_syntax.specs.declared.expr.Expr.{Expr}
use Rattle.mo_syntax.specs.declared.expr.FactorOf.{FactorOf}
use Rattle.mo_syntax.specs.declared.expr.IndexOf.{IndexOf}
use Rattle.mo_syntax.specs.declared.expr.Node.{Node, Node-F, out-Node}
use Rattle.mo_syntax.specs.declared.expr.Node.TheVariants.{Sum, outs-Whole, outs-Decimal, outs-Str, outs-Truth, outs-Ref, outs-Sum, outs-Product, outs-Power, outs-Relation, outs-Not, outs-All, outs-Any, outs-Range, outs-If, outs-Call, outs-Tuple, outs-Array, outs-ArrayFor, outs-Matrix, outs-EndMark}
use Rattle.mo_syntax.specs.declared.expr.PartOf.{PartOf}
use Rattle.mo_syntax.specs.declared.expr.ReferenceOf.{ReferenceOf}
use Rattle.mo_syntax.specs.declared.expr.TermOf.{TermOf}
use Rattle.mo_grammar.specs.Lexeme.{Lexeme}
use Rattle.mo_grammar.specs.Codes.{comma}
use Rattle.mo_grammar.specs.Grammar.{symbol}
use Rattle.mo_grammar.specs.Forms.{behind, optional}
use Rattle.mo_grammar.specs.Trees.{expr_at, plain_part, or_nothing, reference_node, callee_of, args_of, args_or_none, Given, given_or_none, Following, terms_tree, sum_tree, product_tree, power_tree, relation_tree, not_tree, any_tree, all_tree, range_tree, outputs_tree, array_node, is_minus, term_of, InBraces}
use Rattle.mo_grammar.specs.Symbols.{Form, Expressions, Simples, Logicals, Conjunctions, Negations, Relations, Sums, Products, Powers, Primaries, CallArguments, Arguments, MoreArguments, OneArgument, Indices, References, Subscripts, Names}
use Rattle.mo_grammar.specs.Expressions.{name, type_spec, part, reference, subscript, subscripts, index, indices, named, named_list, function_argument, arg, more_arguments, args, call_args, outputs, exprs, array_args, literal, word_call, primary, factor, term, arith, relation, neg, conj, logical, simple, further_branch, if_expression, expr}
use Rattle.mo_places.specs.Written.{Written, At, Valued}
use Rattle.mo_places.specs.TreeWritten.{in_subs, in_value, places_of_parts}
use Rattle.mo_places.specs.Pieces.{in_argument, in_arguments_of_call, in_callee, in_name, in_node, in_ranges}
use Rattle.mo_places.specs.Stands.{Every, IfAny}
use Rattle.mo_places.proofs.laws.Standing.{every_append, every_flat_map, every_map, every_weaker}
use Rattle.mo_bytes.specs.steps.Spelled.{Spelled, AreArguments, AreNamed, Ascends}
use Rattle.mo_bytes.proofs.laws.Placing.{Makes, SomeOf, anything, by_behind, by_between, by_either, by_either2, by_listed, by_made, by_many, by_nested, by_optional, by_placed, by_separated, by_seq, by_symbol, by_token, by_weaker}

module _ (P : Written → Type 0) (ascends : Ascends P) where
  abbrev pub Spells : {A : Type 0} → Form A → (A → Type 0) → Type 0
  Spells g R = Makes (Spelled P) (λ place. P (At place)) g R

  -- ---- lists and options

  pub values_stand : (subs : List (Option Expr)) → Every (λ o. Every P (in_value o)) subs → Every P (in_subs subs)
  values_stand subs h = every_flat_map P in_value subs h

  pub value_stands : (o : Option Expr) → IfAny (λ (e : Expr). P (Valued e)) o → Every P (in_value o)
  value_stands None h = tt
  value_stands (Some e) h = (h, tt)

  pub subs_or_nothing : (o : Option (List (Option Expr))) → IfAny (λ (subs : List (Option Expr)). Every P (in_subs subs)) o → Every P (in_subs (or_nothing o))
  subs_or_nothing None h = tt
  subs_or_nothing (Some subs) h = h

  -- ---- names and references

  pub names_spell : Spells name (SomeOf (λ (t : Lexeme). P (At t.place)))
  names_spell = by_separated by_token

  parts_after : (names : List Lexeme) → Every (λ (t : Lexeme). P (At t.place)) names → Every P (map (λ (other : PartOf Expr). At other.place) (map plain_part names))
  parts_after [] h = tt
  parts_after (t ∷ names) h = (h.0, parts_after names h.1)

  pub parts_stand : (names : List Lexeme) → SomeOf (λ (t : Lexeme). P (At t.place)) names → Every P (places_of_parts (map plain_part names))
  parts_stand [] h = absurd h
  parts_stand (t ∷ names) h = (h.0, parts_after names h.1)

  pub type_specs_spell : Spells type_spec (λ (r : ReferenceOf Expr). Every P (places_of_parts r.parts))
  type_specs_spell = by_made (by_seq (anything _) (by_symbol Names)) (λ x h. parts_stand x.1 h.1)

  abbrev PartIn : PartOf Expr → Type 0
  PartIn p = P (At p.place) × Every P (in_subs p.subs)

  part_spells : Spells part PartIn
  part_spells = by_made (by_seq by_token (by_optional (by_symbol Subscripts))) (λ x h. (h.0, subs_or_nothing x.1 h.1))

  places_after : (parts : List (PartOf Expr)) → Every PartIn parts → Every P (map (λ (other : PartOf Expr). At other.place) parts)
  places_after [] h = tt
  places_after (p ∷ parts) h = (h.0.0, places_after parts h.1)

  name_stands : (parts : List (PartOf Expr)) → SomeOf PartIn parts → Every P (places_of_parts parts ++ flat_map (λ (p : PartOf Expr). in_subs p.subs) parts)
  name_stands [] h = absurd h
  name_stands (p ∷ parts) h =
      every_append P (places_of_parts (p ∷ parts)) (flat_map (λ (p : PartOf Expr). in_subs p.subs) (p ∷ parts)) (h.0.0, places_after parts h.1)
      (every_flat_map P (λ (p : PartOf Expr). in_subs p.subs) (p ∷ parts) (every_weaker PartIn (λ (p : PartOf Expr). Every P (in_subs p.subs)) (λ p k. k.1) (p ∷ parts) h))

  pub references_spell : Spells reference (λ (r : ReferenceOf Expr). Every P (in_name r))
  references_spell = by_made (by_seq (anything _) (by_separated part_spells)) (λ x h. name_stands x.1 h.1)

  subscript_spells : Spells subscript (λ o. Every P (in_value o))
  subscript_spells = by_either (by_made (anything _) (λ t h. tt)) (by_made (by_symbol Expressions) (λ e h. (h, tt)))

  pub subscripts_spell : Spells subscripts (λ subs. Every P (in_subs subs))
  subscripts_spell = by_between (by_weaker (by_listed subscript_spells) values_stand)

  index_spells : Spells index (λ (i : IndexOf Expr). Every P (in_value i.range))
  index_spells = by_made (by_seq (anything _) (by_optional (by_behind (by_symbol Expressions)))) (λ x h. value_stands x.1 h.1)

  pub indices_spell : Spells indices (λ list. Every P (in_ranges list))
  indices_spell = by_weaker (by_listed index_spells) (λ list h. every_flat_map P (λ (i : IndexOf Expr). in_value i.range) list h)

  -- ---- arguments

  abbrev argument_in : Arg-F Arg Node Args Expr → List Written
  argument_in (Arg-F.Value e) = Valued e ∷ []
  argument_in (Arg-F.Partial function _) = []

  value_argument : (e : Expr) → P (Valued e) → Every P (in_argument (Value e))
  value_argument e h = subst (λ (a : Arg-F Arg Node Args Expr). Every P (argument_in a)) (sym (outs-Value e)) (h, tt)

  partial_argument_stands : (r : ReferenceOf Expr) (list : List (List ℕ × Arg)) → Every P (in_argument (Partial r list))
  partial_argument_stands r list = subst (λ (a : Arg-F Arg Node Args Expr). Every P (argument_in a)) (sym (outs-Partial r list)) tt

  abbrev arguments_in : Args-F Arg Node Args Expr → List Written
  arguments_in y = flat_map in_argument y.plain ++ flat_map (λ (named : List ℕ × Arg). in_argument named.1) y.named ++ in_ranges y.iters

  args_stand : (plain : List Arg) (list : List (List ℕ × Arg)) (iters : List (IndexOf Expr)) → AreArguments P plain → AreNamed P list → Every P (in_ranges iters) →
      Every P (in_arguments_of_call (args_of plain list iters))
  args_stand plain list iters p q r =
      let first = flat_map in_argument plain in
      let second = flat_map (λ (named : List ℕ × Arg). in_argument named.1) list in
      subst (λ (y : Args-F Arg Node Args Expr). Every P (arguments_in y)) (sym (out-roll-Args (record { plain = plain; named = list; iters = iters })))
      (every_append P (first ++ second) (in_ranges iters) (every_append P first second p q) r)

  one_argument_more : (a : Arg) (plain : List Arg) → Every P (in_argument a) → AreArguments P plain → AreArguments P (a ∷ plain)
  one_argument_more a plain h hs = every_append P (in_argument a) (flat_map in_argument plain) h hs

  one_named_more : (a : List ℕ × Arg) (list : List (List ℕ × Arg)) → Every P (in_argument a.1) → AreNamed P list → AreNamed P (a ∷ list)
  one_named_more a list h hs = every_append P (in_argument a.1) (flat_map (λ (named : List ℕ × Arg). in_argument named.1) list) h hs

  abbrev AreGiven : Given → Type 0
  AreGiven x = AreArguments P x.0 × AreNamed P x.1

  given_stands : (o : Option Given) → IfAny AreGiven o → AreGiven (given_or_none o)
  given_stands None h = (tt, tt)
  given_stands (Some given) h = h

  named_spells : Spells named (λ (n : List ℕ × Arg). Every P (in_argument n.1))
  named_spells = by_made (by_seq (anything _) (by_behind (by_symbol OneArgument))) (λ x h. h.1)

  named_list_spells : Spells named_list (AreNamed P)
  named_list_spells =
      by_made (by_seq (anything _) (by_seq (by_behind (by_symbol OneArgument)) (by_many (by_behind named_spells))))
      (λ x h. one_named_more (x.0.text, x.1.0) x.1.1 h.1.0 (every_flat_map P (λ (named : List ℕ × Arg). in_argument named.1) x.1.1 h.1.1))

  function_argument_spells : Spells function_argument (λ a. Every P (in_argument a))
  function_argument_spells = by_made (anything _) (λ x h. partial_argument_stands x.0 (or_nothing x.1))

  pub one_argument_spells : Spells arg (λ a. Every P (in_argument a))
  one_argument_spells = by_either function_argument_spells (by_made (by_symbol Expressions) value_argument)

  more_spell : Spells (optional (behind comma (symbol MoreArguments))) (IfAny AreGiven)
  more_spell = by_optional (by_behind (by_symbol MoreArguments))

  pub more_arguments_spell : Spells more_arguments AreGiven
  more_arguments_spell =
      by_either2 (by_made named_list_spells (λ list h. (tt, h)))
      (by_made (by_seq (by_symbol OneArgument) more_spell) (λ x h. let more = given_stands x.1 h.1 in (one_argument_more x.0 (given_or_none x.1).0 h.0 more.0, more.1)))

  abbrev AreFollowing : Following → Type 0
  AreFollowing x = Every P (in_ranges x.0) × AreGiven x.1

  pub arguments_spell : Spells args (λ a. Every P (in_arguments_of_call a))
  arguments_spell =
      by_either2 (by_made (by_made {T = AreGiven} named_list_spells (λ list h. (tt, h))) (λ x h. args_stand x.0 x.1 [] h.0 h.1 tt))
      (by_either (by_made (by_made {T = AreGiven} (by_seq function_argument_spells more_spell) (λ x h. let more = given_stands x.1 h.1 in (one_argument_more x.0 (given_or_none x.1).0 h.0 more.0, more.1))) (λ x h. args_stand x.0 x.1 [] h.0 h.1 tt))
      (by_made (by_seq (by_symbol Expressions) (by_either {R = AreFollowing} (by_made (by_behind (by_symbol Indices)) (λ i h. (h, (tt, tt)))) (by_made more_spell (λ o h. (tt, given_stands o h)))))
      (λ x h. args_stand (Value x.0 ∷ x.1.1.0) x.1.1.1 x.1.0 (one_argument_more (Value x.0) x.1.1.0 (value_argument x.0 h.0) h.1.1.0) h.1.1.1 h.1.0)))

  args_or_none_stand : (o : Option Args) → IfAny (λ a. Every P (in_arguments_of_call a)) o → Every P (in_arguments_of_call (args_or_none o))
  args_or_none_stand None h = args_stand [] [] [] tt tt tt
  args_or_none_stand (Some a) h = h

  pub call_arguments_spell : Spells call_args (λ a. Every P (in_arguments_of_call a))
  call_arguments_spell = by_made (by_between (by_optional (by_symbol Arguments))) args_or_none_stand

  -- ---- primaries

  -- a node whose parts stand, at a place that stands
  pub node_stands : (place : Place) (n : Node) (layer : Node-F Arg Node Args Expr) → out-Node n ≡ layer → P (At place) → Every P (in_node layer) → P (Valued (expr_at place n))
  node_stands place n layer is hp h = ascends.expression (expr_at place n) (hp, subst (λ (l : Node-F Arg Node Args Expr). Every P (in_node l)) (sym is) h)

  abbrev Stands : Expr → Type 0
  Stands e = P (Valued e)

  all_values : (es : List Expr) → Every Stands es → Every P (map Valued es)
  all_values es h = every_map P Valued es h

  pub outputs_spell : Spells outputs (Every (λ o. Every P (in_value o)))
  outputs_spell = by_listed (by_weaker (by_optional (by_symbol Expressions)) value_stands)

  exprs_spell : Spells exprs (Every Stands)
  exprs_spell = by_listed (by_symbol Expressions)

  literal_spells : Spells literal Stands
  literal_spells =
      by_either (by_made by_token (λ t h. node_stands t.place _ _ (outs-Whole _) h tt))
      (by_either (by_made by_token (λ t h. node_stands t.place _ _ (outs-Decimal t.text) h tt))
      (by_either (by_made by_token (λ t h. node_stands t.place _ _ (outs-Str t.text) h tt))
      (by_either (by_made by_token (λ t h. node_stands t.place _ _ (outs-Truth false) h tt))
      (by_either (by_made by_token (λ t h. node_stands t.place _ _ (outs-Truth true) h tt))
      (by_made by_token (λ t h. node_stands t.place _ _ outs-EndMark h tt))))))

  callee_stands : (a b : Bool) → Every P (in_callee (if a then Der else (if b then Initial else Pure)))
  callee_stands true b = tt
  callee_stands false true = tt
  callee_stands false false = tt

  word_call_spells : Spells word_call Stands
  word_call_spells =
      by_made (by_seq by_token (by_symbol CallArguments))
      (λ x h. node_stands x.0.place _ _ (outs-Call (callee_of x.0) x.1) h.0 (every_append P (in_callee (callee_of x.0)) (in_arguments_of_call x.1) (callee_stands _ _) h.1))

  reference_stands : (place : Place) (r : ReferenceOf Expr) (o : Option Args) → P (At place) → Every P (in_name r) → IfAny (λ a. Every P (in_arguments_of_call a)) o → Stands (expr_at place (reference_node r o))
  reference_stands place r None hp p q = node_stands place _ _ (outs-Ref r) hp p
  reference_stands place r (Some a) hp p q = node_stands place _ _ (outs-Call (Named r) a) hp (every_append P (in_name r) (in_arguments_of_call a) p q)

  outputs_stand : (place : Place) (os : List (Option Expr)) → P (At place) → Every (λ o. Every P (in_value o)) os → Stands (outputs_tree (place, os))
  outputs_stand place [] hp h = node_stands place _ _ (outs-Tuple []) hp tt
  outputs_stand place (None ∷ more) hp h = node_stands place _ _ (outs-Tuple (None ∷ more)) hp (every_flat_map P in_value (None ∷ more) h)
  outputs_stand place (Some a ∷ []) hp h = h.0.0
  outputs_stand place (Some a ∷ b ∷ more) hp h = node_stands place _ _ (outs-Tuple (Some a ∷ b ∷ more)) hp (every_flat_map P in_value (Some a ∷ b ∷ more) h)

  abbrev AreInBraces : InBraces → Type 0
  AreInBraces x = IfAny (λ iters. Every P (in_ranges iters)) x.0 × Every Stands x.1

  array_stands : (place : Place) (a : Expr) (o : Option (List (IndexOf Expr))) (more : List Expr) → P (At place) → Stands a → IfAny (λ iters. Every P (in_ranges iters)) o → Every Stands more →
      Stands (expr_at place (array_node a o more))
  array_stands place a None more hp p q r = node_stands place _ _ (outs-Array (a ∷ more)) hp (p, all_values more r)
  array_stands place a (Some iters) more hp p q r = node_stands place _ _ (outs-ArrayFor a iters) hp (p, q)

  array_args_spell : Spells array_args (λ x. Stands x.0 × AreInBraces x.1)
  array_args_spell =
      by_seq (by_symbol Expressions) (by_either {R = AreInBraces} (by_made (by_behind (by_symbol Indices)) (λ i h. (h, tt))) (by_made (by_many (by_behind (by_symbol Expressions))) (λ more h. (tt, h))))

  rows_stand : (rows : List (List Expr)) → Every (Every Stands) rows → Every P (flat_map (λ row. map Valued row) rows)
  rows_stand rows h = every_flat_map P (λ row. map Valued row) rows (every_weaker (Every Stands) (λ row. Every P (map Valued row)) all_values rows h)

  pub primaries_spell : Spells primary Stands
  primaries_spell =
      by_either literal_spells
      (by_either word_call_spells
      (by_either (by_made (by_placed (by_seq (by_symbol References) (by_optional (by_symbol CallArguments)))) (λ x h. reference_stands x.0 x.1.0 x.1.1 h.0 h.1.0 h.1.1))
      (by_either (by_made (by_placed (by_between outputs_spell)) (λ x h. outputs_stand x.0 x.1 h.0 h.1))
      (by_either (by_made (by_placed (by_between (by_listed exprs_spell))) (λ x h. node_stands x.0 _ _ (outs-Matrix x.1) h.0 (rows_stand x.1 h.1)))
      (by_made (by_placed (by_between array_args_spell)) (λ x h. array_stands x.0 x.1.0 x.1.1.0 x.1.1.1 h.0 h.1.0 h.1.1.0 h.1.1.1))))))

  -- ---- operators

  power_stands : (place : Place) (a : Expr) (o : Option (Lexeme × Expr)) → P (At place) → Stands a → IfAny (λ (x : Lexeme × Expr). Unit {0} × Stands x.1) o → Stands (power_tree (place, (a, o)))
  power_stands place a None hp p q = p
  power_stands place a (Some x) hp p q = node_stands place _ _ (outs-Power a _ x.1) hp (p, (q.1, tt))

  pub powers_spell : Spells factor Stands
  powers_spell = by_made (by_placed (by_seq (by_symbol Primaries) (by_optional (by_seq (anything _) (by_symbol Primaries))))) (λ x h. power_stands x.0 x.1.0 x.1.1 h.0 h.1.0 h.1.1)

  factors_stand : (factors : List (FactorOf Expr)) → Every (λ (f : FactorOf Expr). Stands f.value) factors → Every P (map (λ (f : FactorOf Expr). Valued f.value) factors)
  factors_stand factors h = every_map P (λ (f : FactorOf Expr). Valued f.value) factors h

  product_stands : (place : Place) (a : Expr) (more : List (FactorOf Expr)) → P (At place) → Stands a → Every (λ (f : FactorOf Expr). Stands f.value) more → Stands (product_tree (place, (a, more)))
  product_stands place a [] hp p q = p
  product_stands place a (b ∷ more) hp p q = node_stands place _ _ (outs-Product _) hp (p, factors_stand (b ∷ more) q)

  pub products_spell : Spells term Stands
  products_spell = by_made (by_placed (by_seq (by_symbol Powers) (by_many (by_made (by_seq (anything _) (by_symbol Powers)) (λ x h. h.1))))) (λ x h. product_stands x.0 x.1.0 x.1.1 h.0 h.1.0 h.1.1)

  terms_of_stand : (terms : List (TermOf Expr)) → Every (λ (t : TermOf Expr). Stands t.value) terms → Every P (map (λ (t : TermOf Expr). Valued t.value) terms)
  terms_of_stand terms h = every_map P (λ (t : TermOf Expr). Valued t.value) terms h

  terms_stand : (place : Place) (a : Expr) (more : List (TermOf Expr)) → P (At place) → Stands a → Every (λ (t : TermOf Expr). Stands t.value) more → Stands (terms_tree place a more)
  terms_stand place a [] hp p q = p
  terms_stand place a (b ∷ more) hp p q = node_stands place _ _ (outs-Sum _) hp (p, terms_of_stand (b ∷ more) q)

  signed_stands : (t : Lexeme) (minus : Bool) (place : Place) (a : Expr) (more : List (TermOf Expr)) → P (At t.place) → P (At place) → Stands a → Every (λ (t : TermOf Expr). Stands t.value) more →
      Stands (if minus then expr_at t.place (Sum (term_of (t, a) ∷ more)) else terms_tree place a more)
  signed_stands t true place a more ht hp p q = node_stands t.place _ _ (outs-Sum _) ht (p, terms_of_stand more q)
  signed_stands t false place a more ht hp p q = terms_stand place a more hp p q

  sum_stands : (o : Option Lexeme) (place : Place) (a : Expr) (more : List (TermOf Expr)) → IfAny (λ (t : Lexeme). P (At t.place)) o → P (At place) → Stands a → Every (λ (t : TermOf Expr). Stands t.value) more →
      Stands (sum_tree (o, (place, (a, more))))
  sum_stands None place a more ho hp p q = terms_stand place a more hp p q
  sum_stands (Some t) place a more ho hp p q = signed_stands t (is_minus t) place a more ho hp p q

  pub sums_spell : Spells arith Stands
  sums_spell =
      by_made (by_seq (by_optional by_token) (by_placed (by_seq (by_symbol Products) (by_many (by_made (by_seq (anything _) (by_symbol Products)) (λ x h. h.1))))))
      (λ x h. sum_stands x.0 x.1.0 x.1.1.0 x.1.1.1 h.0 h.1.0 h.1.1.0 h.1.1.1)

  relation_stands : (place : Place) (a : Expr) (o : Option (Lexeme × Expr)) → P (At place) → Stands a → IfAny (λ (x : Lexeme × Expr). Unit {0} × Stands x.1) o → Stands (relation_tree (place, (a, o)))
  relation_stands place a None hp p q = p
  relation_stands place a (Some x) hp p q = node_stands place _ _ (outs-Relation _ a x.1) hp (p, (q.1, tt))

  pub relations_spell : Spells relation Stands
  relations_spell = by_made (by_placed (by_seq (by_symbol Sums) (by_optional (by_seq (anything _) (by_symbol Sums))))) (λ x h. relation_stands x.0 x.1.0 x.1.1 h.0 h.1.0 h.1.1)

  not_stands : (place : Place) (b : Bool) (a : Expr) → P (At place) → Stands a → Stands (not_tree (place, (b, a)))
  not_stands place true a hp p = node_stands place _ _ (outs-Not a) hp (p, tt)
  not_stands place false a hp p = p

  pub negations_spell : Spells neg Stands
  negations_spell = by_made (by_placed (by_seq (anything _) (by_symbol Relations))) (λ x h. not_stands x.0 x.1.0 x.1.1 h.0 h.1.1)

  all_stand : (place : Place) (a : Expr) (more : List Expr) → P (At place) → Stands a → Every Stands more → Stands (all_tree (place, (a, more)))
  all_stand place a [] hp p q = p
  all_stand place a (b ∷ more) hp p q = node_stands place _ _ (outs-All (a ∷ b ∷ more)) hp (p, all_values (b ∷ more) q)

  pub conjunctions_spell : Spells conj Stands
  conjunctions_spell = by_made (by_placed (by_seq (by_symbol Negations) (by_many (by_behind (by_symbol Negations))))) (λ x h. all_stand x.0 x.1.0 x.1.1 h.0 h.1.0 h.1.1)

  any_stand : (place : Place) (a : Expr) (more : List Expr) → P (At place) → Stands a → Every Stands more → Stands (any_tree (place, (a, more)))
  any_stand place a [] hp p q = p
  any_stand place a (b ∷ more) hp p q = node_stands place _ _ (outs-Any (a ∷ b ∷ more)) hp (p, all_values (b ∷ more) q)

  pub logicals_spell : Spells logical Stands
  logicals_spell = by_made (by_placed (by_seq (by_symbol Conjunctions) (by_many (by_behind (by_symbol Conjunctions))))) (λ x h. any_stand x.0 x.1.0 x.1.1 h.0 h.1.0 h.1.1)

  range_stands : (place : Place) (a : Expr) (o : Option (Expr × Option Expr)) → P (At place) → Stands a → IfAny (λ (x : Expr × Option Expr). Stands x.0 × IfAny Stands x.1) o → Stands (range_tree (place, (a, o)))
  range_stands place a None hp p q = p
  range_stands place a (Some (b, None)) hp p q = node_stands place _ _ (outs-Range a None b) hp (p, (q.0, tt))
  range_stands place a (Some (b, Some c)) hp p q = node_stands place _ _ (outs-Range a (Some b) c) hp (p, (q.0, (q.1, tt)))

  pub simples_spell : Spells simple Stands
  simples_spell =
      by_made (by_placed (by_seq (by_symbol Logicals) (by_optional (by_behind (by_seq (by_symbol Logicals) (by_optional (by_behind (by_symbol Logicals))))))))
      (λ x h. range_stands x.0 x.1.0 x.1.1 h.0 h.1.0 h.1.1)

  abbrev BranchIn : BranchOf Expr → Type 0
  BranchIn branch = Stands branch.condition × Stands branch.value

  further_branch_spells : Spells further_branch BranchIn
  further_branch_spells = by_made (by_seq (by_behind (by_symbol Expressions)) (by_behind (by_symbol Expressions))) (λ x h. h)

  branches_stand : (branches : List (BranchOf Expr)) → Every BranchIn branches → Every P (flat_map (λ (branch : BranchOf Expr). Valued branch.condition ∷ Valued branch.value ∷ []) branches)
  branches_stand branches h =
      every_flat_map P (λ (branch : BranchOf Expr). Valued branch.condition ∷ Valued branch.value ∷ []) branches
      (every_weaker BranchIn (λ (branch : BranchOf Expr). Every P (Valued branch.condition ∷ Valued branch.value ∷ [])) (λ branch k. (k.0, (k.1, tt))) branches h)

  if_spells : Spells if_expression Stands
  if_spells =
      by_nested (by_made (by_placed (by_behind (by_seq (by_symbol Expressions) (by_seq (by_behind (by_symbol Expressions)) (by_seq (by_many further_branch_spells) (by_behind (by_symbol Expressions)))))))
      (λ x h. node_stands x.0 _ _ (outs-If _ x.1.1.1.1) h.0
      (every_append P (flat_map (λ (branch : BranchOf Expr). Valued branch.condition ∷ Valued branch.value ∷ []) (record { condition = x.1.0; value = x.1.1.0 } ∷ x.1.1.1.0)) (Valued x.1.1.1.1 ∷ [])
      (branches_stand (record { condition = x.1.0; value = x.1.1.0 } ∷ x.1.1.1.0) ((h.1.0, h.1.1.0), h.1.1.1.0)) (h.1.1.1.1, tt))))

  pub expressions_spell : Spells expr Stands
  expressions_spell = by_either if_spells (by_symbol Simples)
