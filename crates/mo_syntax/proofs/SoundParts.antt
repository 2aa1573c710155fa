-- A part of a tree is sound where its form is and its own parts are.
use Rattle.std.proofs.Common.{◌≡◌, Bool, List, [], ◌∷◌, map, Option, Some, None, refl, ap, ◌∙◌}
use Rattle.std.specs.Prelude.{◌&&◌}
use Rattle.std.specs.List.{list_all}
use Rattle.mo_syntax.specs.declared.expr.Arg.TheShapes as shapes
use Rattle.mo_syntax.specs.declared.expr.CalleeOf.TheVariants.{Named, Der, Initial, Pure}
use Rattle.mo_syntax.specs.declared.expr.FactorOf.{FactorOf}
use Rattle.mo_syntax.specs.declared.expr.IndexOf.{IndexOf}
use Rattle.mo_syntax.specs.declared.expr.ReferenceOf.{ReferenceOf}
use Rattle.mo_syntax.specs.declared.expr.Expr.{Expr, fold_out-Expr}
use Rattle.mo_syntax.specs.declared.expr.Node.{Node, Node-F, fold_out-Node, map-Node, out-Node}
use Rattle.mo_syntax.specs.declared.expr.Args.{Args, Args-F, fold_out-Args, map-Args, out-Args}
use Rattle.mo_syntax.specs.declared.expr.Arg.{Arg, Arg-F, fold_out-Arg, map-Arg, out-Arg}
use Rattle.mo_syntax.specs.declared.equation.EquationKind.{EquationKind, EquationKind-F, fold_out-EquationKind, map-EquationKind, out-EquationKind}
use Rattle.mo_syntax.specs.declared.equation.StatementKind.{StatementKind, StatementKind-F, fold_out-StatementKind, map-StatementKind, out-StatementKind}
use Rattle.mo_syntax.specs.declared.class.ElementFlags.{ElementFlags}
use Rattle.mo_syntax.specs.declared.class.ModsOf.{ModsOf}
use Rattle.mo_syntax.specs.declared.class.Body.{Body, Body-F, fold_out-Body, map-Body, out-Body}
use Rattle.mo_syntax.specs.declared.class.Give.{Give, Give-F, fold_out-Give, map-Give, out-Give}
use Rattle.mo_syntax.specs.declared.class.Item.{Item, Item-F, fold_out-Item, map-Item, out-Item}
use Rattle.mo_syntax.specs.declared.class.What.{What, What-F, fold_out-What, map-What, out-What}
use Rattle.mo_syntax.specs.declared.class.Element.{Element, Element-F, fold_out-Element, map-Element, out-Element}
use Rattle.mo_syntax.specs.SoundTree.{Naming, itself, is_nonempty, option_by, part_by, reference_by, index_by, begins_multiplied, branch_by, some_by, node_by, args_by, arg_by, expr_by, is_sound_expr, is_sound_node, is_sound_args, is_sound_arg, is_sound_option, are_sound_options, is_sound_reference, equation_kind_by, is_sound_equation_kind, statement_kind_by, is_sound_statement_kind, argument_by, body_by, give_by, item_by, what_by, element_by, is_sound_body, is_sound_give, is_sound_item, is_sound_what, is_sound_element}

-- ---- lists of what was tested

both_same : (a b c d : Bool) → a ≡ c → b ≡ d → (a && b) ≡ (c && d)
both_same a b c d p q = cc

-- elements that became others are tested as they are
all_mapped : {A B : Type 0} (test : B → Bool) (h : A → B) (other : A → Bool) → ((a : A) → test (h a) ≡ other a) → (xs : List A) → list_all test (map h xs) ≡ list_all other xs
all_mapped test h other same [] = refl
all_mapped test h other same (x ∷ xs) = both_same _ _ _ _ (same x) (all_mapped test h other same xs)

nonempty_mapped : {A B : Type 0} (h : A → B) (xs : List A) → is_nonempty (map h xs) ≡ is_nonempty xs
nonempty_mapped h [] = refl
nonempty_mapped h (x ∷ xs) = refl

some_mapped : {A B : Type 0} (test : B → Bool) (h : A → B) (other : A → Bool) → ((a : A) → test (h a) ≡ other a) → (xs : List A) → some_by test (map h xs) ≡ some_by other xs
some_mapped test h other same xs = both_same _ _ _ _ (nonempty_mapped h xs) (all_mapped test h other same xs)

-- an option, where it is said what becomes of none and of a value
option_mapped : {A B : Type 0} (test : B → Bool) (h : Option A → Option B) (k : A → B) (other : A → Bool) → h None ≡ None → ((a : A) → h (Some a) ≡ Some (k a)) → ((a : A) → test (k a) ≡ other a) → (o : Option A) → option_by test (h o) ≡ option_by other o
option_mapped test h k other none some same None = ap (option_by test) none
option_mapped test h k other none some same (Some a) = ap (option_by test) (some a) ∙ same a

multiplied_mapped : {A B : Type 0} (h : FactorOf A → FactorOf B) → ((f : FactorOf A) → (h f).divide ≡ f.divide) → (fs : List (FactorOf A)) → begins_multiplied (map h fs) ≡ begins_multiplied fs
multiplied_mapped h same [] = refl
multiplied_mapped h same (f ∷ fs) = let one = same f in cc

-- ---- expressions

module _ (is_name : Naming) where
  abbrev expr_test : Expr → Bool
  expr_test = is_sound_expr is_name

  options_same : (h : Option Expr → Option Bool) → h None ≡ None → ((e : Expr) → h (Some e) ≡ Some (expr_test e)) → (xs : List (Option Expr)) → list_all (option_by itself) (map h xs) ≡ list_all (option_by expr_test) xs
  options_same h none some xs = all_mapped _ _ _ (option_mapped itself h expr_test expr_test none some (λ e. refl)) xs

  reference_same : (r : ReferenceOf Expr) → some_by (part_by is_name itself) (map (shapes.former-Node-Call-0-at-6.map Expr Bool expr_test) r.parts) ≡ reference_by is_name expr_test r
  reference_same r = some_mapped _ _ _ (λ p. ap (λ b. is_name p.name && b) (options_same _ refl (λ e. refl) p.subs)) r.parts

  index_same : (i : IndexOf Expr) → index_by is_name itself (shapes.former-Node-ArrayFor-1-at-3.map Expr Bool expr_test i) ≡ index_by is_name expr_test i
  index_same i = ap (λ b. is_name i.name && b) (option_mapped itself (shapes.former-Node-Tuple-0-at-1.map Expr Bool expr_test) expr_test expr_test refl (λ e. refl) (λ e. refl) i.range)

  node_mapped : (layer : Node-F Arg Node Args Expr) → node_by is_name itself itself (map-Node Arg Node Args Expr Bool Bool Bool Bool (is_sound_arg is_name) (is_sound_node is_name) (is_sound_args is_name) expr_test layer) ≡ node_by is_name (is_sound_args is_name) expr_test layer
  node_mapped (Node-F.Whole value) = refl
  node_mapped (Node-F.Decimal text) = refl
  node_mapped (Node-F.Str text) = refl
  node_mapped (Node-F.Truth truth) = refl
  node_mapped (Node-F.Ref r) = reference_same r
  node_mapped (Node-F.Sum terms) = some_mapped _ _ _ (λ t. refl) terms
  node_mapped (Node-F.Product factors) = both_same _ _ _ _ (multiplied_mapped _ (λ f. refl) factors) (all_mapped _ _ _ (λ f. refl) factors)
  node_mapped (Node-F.Power base dotted exponent) = refl
  node_mapped (Node-F.Relation op left right) = refl
  node_mapped (Node-F.Not operand) = refl
  node_mapped (Node-F.All operands) = some_mapped _ _ _ (λ e. refl) operands
  node_mapped (Node-F.Any operands) = some_mapped _ _ _ (λ e. refl) operands
  node_mapped (Node-F.Range first None last) = refl
  node_mapped (Node-F.Range first (Some step) last) = refl
  node_mapped (Node-F.If branches other) = ap (λ b. b && expr_test other) (some_mapped _ _ (branch_by expr_test) (λ b. refl) branches)
  node_mapped (Node-F.Call (Named r) given) = ap (λ b. b && is_sound_args is_name given) (reference_same r)
  node_mapped (Node-F.Call Der given) = refl
  node_mapped (Node-F.Call Initial given) = refl
  node_mapped (Node-F.Call Pure given) = refl
  node_mapped (Node-F.Tuple outputs) = options_same _ refl (λ e. refl) outputs
  node_mapped (Node-F.Array elements) = some_mapped _ _ _ (λ e. refl) elements
  node_mapped (Node-F.ArrayFor element iterators) = ap (λ b. expr_test element && b) (all_mapped _ _ _ index_same iterators)
  node_mapped (Node-F.Matrix rows) = some_mapped _ _ _ (λ row. some_mapped _ _ _ (λ e. refl) row) rows
  node_mapped Node-F.EndMark = refl

  -- a node is sound where its form is and its parts are
  pub node_is : (n : Node) → is_sound_node is_name n ≡ node_by is_name (is_sound_args is_name) (is_sound_expr is_name) (out-Node n)
  unfolding is_sound_expr is_sound_node is_sound_args is_sound_arg
  node_is n = fold_out-Node Bool Bool Bool Bool (arg_by is_name itself itself) (node_by is_name itself itself) (args_by is_name itself itself) (expr_by itself) n ∙ node_mapped (out-Node n)

  args_mapped : (layer : Args-F Arg Node Args Expr) → args_by is_name itself itself (map-Args Arg Node Args Expr Bool Bool Bool Bool (is_sound_arg is_name) (is_sound_node is_name) (is_sound_args is_name) expr_test layer) ≡ args_by is_name (is_sound_arg is_name) expr_test layer
  args_mapped layer = both_same _ _ _ _ (all_mapped _ _ _ (λ a. refl) layer.plain) (both_same _ _ _ _ (all_mapped _ _ _ (λ n. refl) layer.named) (all_mapped _ _ _ index_same layer.iters))

  -- the arguments of a call
  pub args_are : (args : Args) → is_sound_args is_name args ≡ args_by is_name (is_sound_arg is_name) (is_sound_expr is_name) (out-Args args)
  unfolding is_sound_expr is_sound_node is_sound_args is_sound_arg
  args_are args = fold_out-Args Bool Bool Bool Bool (arg_by is_name itself itself) (node_by is_name itself itself) (args_by is_name itself itself) (expr_by itself) args ∙ args_mapped (out-Args args)

  arg_mapped : (layer : Arg-F Arg Node Args Expr) → arg_by is_name itself itself (map-Arg Arg Node Args Expr Bool Bool Bool Bool (is_sound_arg is_name) (is_sound_node is_name) (is_sound_args is_name) expr_test layer) ≡ arg_by is_name (is_sound_arg is_name) expr_test layer
  arg_mapped (Arg-F.Value value) = refl
  arg_mapped (Arg-F.Partial function named) = both_same _ _ _ _ (reference_same function) (all_mapped _ _ _ (λ n. refl) named)

  -- an argument
  pub arg_is : (arg : Arg) → is_sound_arg is_name arg ≡ arg_by is_name (is_sound_arg is_name) (is_sound_expr is_name) (out-Arg arg)
  unfolding is_sound_expr is_sound_node is_sound_args is_sound_arg
  arg_is arg = fold_out-Arg Bool Bool Bool Bool (arg_by is_name itself itself) (node_by is_name itself itself) (args_by is_name itself itself) (expr_by itself) arg ∙ arg_mapped (out-Arg arg)

  -- an expression
  pub expr_is : (e : Expr) → is_sound_expr is_name e ≡ is_sound_node is_name e.node
  unfolding is_sound_expr is_sound_node is_sound_args is_sound_arg
  expr_is e = fold_out-Expr Bool Bool Bool Bool (arg_by is_name itself itself) (node_by is_name itself itself) (args_by is_name itself itself) (expr_by itself) e

  -- ---- equations and statements

  equation_kind_mapped : (layer : EquationKind-F EquationKind) → equation_kind_by is_name itself (map-EquationKind EquationKind Bool (is_sound_equation_kind is_name) layer) ≡ equation_kind_by is_name (is_sound_equation_kind is_name) layer
  equation_kind_mapped (EquationKind-F.Equal left right) = refl
  equation_kind_mapped (EquationKind-F.If branches others) = both_same _ _ _ _ (all_mapped _ _ _ (λ b. ap (λ c. is_sound_expr is_name b.0 && c) (all_mapped _ _ _ (λ q. refl) b.1)) branches) (all_mapped _ _ _ (λ q. refl) others)
  equation_kind_mapped (EquationKind-F.For indices equations) = both_same _ _ _ _ refl (all_mapped _ _ _ (λ q. refl) equations)
  equation_kind_mapped (EquationKind-F.When branches) = all_mapped _ _ _ (λ b. ap (λ c. is_sound_expr is_name b.0 && c) (all_mapped _ _ _ (λ q. refl) b.1)) branches
  equation_kind_mapped (EquationKind-F.Connect left right) = refl
  equation_kind_mapped (EquationKind-F.Call called args) = refl

  -- what an equation says
  pub equation_kind_is : (kind : EquationKind) → is_sound_equation_kind is_name kind ≡ equation_kind_by is_name (is_sound_equation_kind is_name) (out-EquationKind kind)
  unfolding is_sound_equation_kind
  equation_kind_is kind = fold_out-EquationKind Bool (equation_kind_by is_name itself) kind ∙ equation_kind_mapped (out-EquationKind kind)

  statement_kind_mapped : (layer : StatementKind-F StatementKind) → statement_kind_by is_name itself (map-StatementKind StatementKind Bool (is_sound_statement_kind is_name) layer) ≡ statement_kind_by is_name (is_sound_statement_kind is_name) layer
  statement_kind_mapped (StatementKind-F.Assign variable value) = refl
  statement_kind_mapped (StatementKind-F.Call called args) = refl
  statement_kind_mapped (StatementKind-F.Outputs outputs called args) = refl
  statement_kind_mapped StatementKind-F.Break = refl
  statement_kind_mapped StatementKind-F.Return = refl
  statement_kind_mapped (StatementKind-F.If branches others) = both_same _ _ _ _ (all_mapped _ _ _ (λ b. ap (λ c. is_sound_expr is_name b.0 && c) (all_mapped _ _ _ (λ q. refl) b.1)) branches) (all_mapped _ _ _ (λ q. refl) others)
  statement_kind_mapped (StatementKind-F.For indices statements) = both_same _ _ _ _ refl (all_mapped _ _ _ (λ q. refl) statements)
  statement_kind_mapped (StatementKind-F.While condition statements) = both_same _ _ _ _ refl (all_mapped _ _ _ (λ q. refl) statements)
  statement_kind_mapped (StatementKind-F.When branches) = all_mapped _ _ _ (λ b. ap (λ c. is_sound_expr is_name b.0 && c) (all_mapped _ _ _ (λ q. refl) b.1)) branches

  -- what a statement does
  pub statement_kind_is : (kind : StatementKind) → is_sound_statement_kind is_name kind ≡ statement_kind_by is_name (is_sound_statement_kind is_name) (out-StatementKind kind)
  unfolding is_sound_statement_kind
  statement_kind_is kind = fold_out-StatementKind Bool (statement_kind_by is_name itself) kind ∙ statement_kind_mapped (out-StatementKind kind)

  -- ---- classes

  body_mapped : (layer : Body-F Body Give Item What Element) → body_by is_name itself itself (map-Body Body Give Item What Element Bool Bool Bool Bool Bool (is_sound_body is_name) (is_sound_give is_name) (is_sound_item is_name) (is_sound_what is_name) (is_sound_element is_name) layer) ≡ body_by is_name (is_sound_give is_name) (is_sound_item is_name) layer
  body_mapped (Body-F.Long None items external) = all_mapped _ _ _ (λ i. refl) items
  body_mapped (Body-F.Long (Some mods) items external) = both_same _ _ _ _ (all_mapped _ _ _ (λ a. refl) mods.0) (all_mapped _ _ _ (λ i. refl) items)
  body_mapped (Body-F.Short causal base subs mods) = both_same _ _ _ _ refl (both_same _ _ _ _ refl (all_mapped _ _ _ (λ a. refl) mods.0))
  body_mapped (Body-F.Enumeration literals) = refl
  body_mapped (Body-F.Der function names) = refl

  -- what a class consists of
  pub body_is : (body : Body) → is_sound_body is_name body ≡ body_by is_name (is_sound_give is_name) (is_sound_item is_name) (out-Body body)
  unfolding is_sound_body is_sound_give is_sound_item is_sound_what is_sound_element
  body_is body = fold_out-Body Bool Bool Bool Bool Bool (body_by is_name itself itself) (give_by is_name itself itself) (item_by is_name itself itself) (what_by is_name itself itself) (element_by is_name itself itself) body ∙ body_mapped (out-Body body)

  give_mapped : (layer : Give-F Body Give Item What Element) → give_by is_name itself itself (map-Give Body Give Item What Element Bool Bool Bool Bool Bool (is_sound_body is_name) (is_sound_give is_name) (is_sound_item is_name) (is_sound_what is_name) (is_sound_element is_name) layer) ≡ give_by is_name (is_sound_give is_name) (is_sound_element is_name) layer
  give_mapped (Give-F.Modify mods value) = both_same _ _ _ _ (all_mapped _ _ _ (λ a. refl) mods.0) refl
  give_mapped (Give-F.Redeclare declared) = refl
  give_mapped (Give-F.Replaceable declared) = refl

  -- what an argument gives
  pub give_is : (give : Give) → is_sound_give is_name give ≡ give_by is_name (is_sound_give is_name) (is_sound_element is_name) (out-Give give)
  unfolding is_sound_body is_sound_give is_sound_item is_sound_what is_sound_element
  give_is give = fold_out-Give Bool Bool Bool Bool Bool (body_by is_name itself itself) (give_by is_name itself itself) (item_by is_name itself itself) (what_by is_name itself itself) (element_by is_name itself itself) give ∙ give_mapped (out-Give give)

  item_mapped : (layer : Item-F Body Give Item What Element) → item_by is_name itself itself (map-Item Body Give Item What Element Bool Bool Bool Bool Bool (is_sound_body is_name) (is_sound_give is_name) (is_sound_item is_name) (is_sound_what is_name) (is_sound_element is_name) layer) ≡ item_by is_name (is_sound_give is_name) (is_sound_element is_name) layer
  item_mapped (Item-F.Import clause) = refl
  item_mapped (Item-F.Extends clause) = both_same _ _ _ _ refl (all_mapped _ _ _ (λ a. refl) clause.mods.0)
  item_mapped (Item-F.Member declared) = refl
  item_mapped (Item-F.Equations initial equations) = refl
  item_mapped (Item-F.Algorithm initial statements) = refl

  -- a part of a class
  pub item_is : (item : Item) → is_sound_item is_name item ≡ item_by is_name (is_sound_give is_name) (is_sound_element is_name) (out-Item item)
  unfolding is_sound_body is_sound_give is_sound_item is_sound_what is_sound_element
  item_is item = fold_out-Item Bool Bool Bool Bool Bool (body_by is_name itself itself) (give_by is_name itself itself) (item_by is_name itself itself) (what_by is_name itself itself) (element_by is_name itself itself) item ∙ item_mapped (out-Item item)

  what_mapped : (layer : What-F Body Give Item What Element) → what_by is_name itself itself (map-What Body Give Item What Element Bool Bool Bool Bool Bool (is_sound_body is_name) (is_sound_give is_name) (is_sound_item is_name) (is_sound_what is_name) (is_sound_element is_name) layer) ≡ what_by is_name (is_sound_body is_name) (is_sound_give is_name) layer
  what_mapped (What-F.Class class) = refl
  what_mapped (What-F.Component component) =
      ap (λ mods. is_name component.name && (is_sound_reference is_name component.base && (are_sound_options is_name component.base_subs && (are_sound_options is_name component.subs && (mods && (is_sound_option is_name component.binding && is_sound_option is_name component.condition))))))
      (all_mapped (argument_by is_name itself) _ (argument_by is_name (is_sound_give is_name)) (λ a. refl) component.mods.0)

  -- what an element declares
  pub what_is : (what : What) → is_sound_what is_name what ≡ what_by is_name (is_sound_body is_name) (is_sound_give is_name) (out-What what)
  unfolding is_sound_body is_sound_give is_sound_item is_sound_what is_sound_element
  what_is what = fold_out-What Bool Bool Bool Bool Bool (body_by is_name itself itself) (give_by is_name itself itself) (item_by is_name itself itself) (what_by is_name itself itself) (element_by is_name itself itself) what ∙ what_mapped (out-What what)

  abbrev an_element : ElementFlags → What → Option (ReferenceOf Expr × ModsOf Give) → Element-F Body Give Item What Element
  an_element flags what limit = record { flags = flags; what = what; limit = limit }

  element_mapped : (flags : ElementFlags) (what : What) (limit : Option (ReferenceOf Expr × ModsOf Give)) → element_by is_name itself itself (map-Element Body Give Item What Element Bool Bool Bool Bool Bool (is_sound_body is_name) (is_sound_give is_name) (is_sound_item is_name) (is_sound_what is_name) (is_sound_element is_name) (an_element flags what limit)) ≡ element_by is_name (is_sound_give is_name) (is_sound_what is_name) (an_element flags what limit)
  element_mapped flags what None = refl
  element_mapped flags what (Some limit) = both_same _ _ _ _ refl (both_same _ _ _ _ refl (all_mapped _ _ _ (λ a. refl) limit.1.0))

  -- an element
  pub element_is : (element : Element) → is_sound_element is_name element ≡ element_by is_name (is_sound_give is_name) (is_sound_what is_name) (out-Element element)
  unfolding is_sound_body is_sound_give is_sound_item is_sound_what is_sound_element
  element_is element = fold_out-Element Bool Bool Bool Bool Bool (body_by is_name itself itself) (give_by is_name itself itself) (item_by is_name itself itself) (what_by is_name itself itself) (element_by is_name itself itself) element ∙ element_mapped (out-Element element).flags (out-Element element).what (out-Element element).limit
