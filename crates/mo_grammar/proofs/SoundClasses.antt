-- What tokens spell by the productions of modifications, equations, statements, classes and files is sound.
use Rattle.std.proofs.Common.{◌≡◌, Bool, true, List, [], ◌∷◌, map, Option, Some, None, refl, sym, ap, ◌∙◌}
use Rattle.std.specs.Prelude.{◌&&◌}
use Rattle.std.specs.List.{list_all}
use Rattle.std.proofs.lemmas.List.Folds.{list_all-map}
use Rattle.mo_syntax.specs.declared.expr.Expr.{Expr}
use Rattle.mo_syntax.specs.declared.expr.Args.{Args}
use Rattle.mo_syntax.specs.declared.expr.Arg.{Arg}
use Rattle.mo_syntax.specs.declared.expr.CalleeOf.TheVariants.{Named as called_name}
use Rattle.mo_syntax.specs.declared.expr.Node.{Node, Node-F, out-Node}
use Rattle.mo_syntax.specs.declared.expr.ReferenceOf.{ReferenceOf}
use Rattle.mo_syntax.specs.declared.equation.EquationKind.{EquationKind, EquationKind-F, out-EquationKind}
use Rattle.mo_syntax.specs.declared.equation.EquationKind.TheVariants.{outs-Equal, outs-If as outs-if_equation, outs-For as outs-for_equation, outs-When as outs-when_equation, outs-Connect, outs-Call as outs-call_equation}
use Rattle.mo_syntax.specs.declared.equation.StatementKind.{StatementKind, StatementKind-F, out-StatementKind}
use Rattle.mo_syntax.specs.declared.equation.StatementKind.TheVariants.{outs-Assign, outs-Call as outs-call_statement, outs-Outputs, outs-Break, outs-Return, outs-If as outs-if_statement, outs-For as outs-for_statement, outs-While as outs-while_statement, outs-When as outs-when_statement}
use Rattle.mo_syntax.specs.declared.class.Body.{Body, Body-F, out-Body}
use Rattle.mo_syntax.specs.declared.class.Body.TheVariants.{outs-Short, outs-Enumeration}
use Rattle.mo_syntax.specs.declared.class.ClassDefOf.{ClassDefOf}
use Rattle.mo_syntax.specs.declared.class.ComponentOf.{ComponentOf}
use Rattle.mo_syntax.specs.declared.class.Element.{Element, roll-Element, out-roll-Element}
use Rattle.mo_syntax.specs.declared.class.ElementFlags.{ElementFlags}
use Rattle.mo_syntax.specs.declared.class.Give.{Give, Give-F, out-Give}
use Rattle.mo_syntax.specs.declared.class.Give.TheVariants.{outs-Modify, outs-Redeclare, outs-Replaceable}
use Rattle.mo_syntax.specs.declared.class.Item.{Item}
use Rattle.mo_syntax.specs.declared.class.Prefix.{Prefix}
use Rattle.mo_syntax.specs.declared.class.What.{What}
use Rattle.mo_syntax.specs.declared.class.What.TheVariants.{Class, Component, outs-Class, outs-Component}
use Rattle.mo_syntax.specs.SoundTree.{Naming, some_by, option_by, node_by, equation_kind_by, statement_kind_by, argument_by, limit_by, component_by, body_by, give_by, what_by, element_by, is_sound_expr, is_sound_args, is_sound_option, are_sound_options, is_sound_reference, is_sound_equation_kind, is_sound_equation, is_sound_statement_kind, is_sound_statement, is_sound_path, is_sound_mods, is_sound_body, is_sound_give, is_sound_item, is_sound_what, is_sound_element, is_sound_class}
use Rattle.mo_syntax.proofs.SoundParts.{expr_is, node_is, equation_kind_is, statement_kind_is, body_is, give_is, what_is, element_is}
use Rattle.mo_grammar.specs.Lexeme.{Lexeme}
use Rattle.mo_grammar.specs.ClassTrees.{Mods, Binding, Declares, Limit, Argued, Equation, Statement, Declared, mods_or_none, text_of, path_of, binding_or_none, name_called, name_called_by, call_of, equality, reference_statement, Behind, component_of, argument_of}
use Rattle.mo_grammar.specs.Symbols.{Form, Expressions, Simples, CallArguments, Indices, References, Subscripts, TypeSpecs, Names, ClassMods, ModArguments, EquationItems, ForEquations, WhenEquations, ElseEquations, IfEquations, StatementItems}
use Rattle.mo_grammar.specs.Classes.{class_mod, modification, declaration, component1, constraint, literals, enumeration, short_class, short_spec, argument_declares, replaceable_arg, argument, for_equations, when_equations, else_equations, if_equations, equation_item, statements, statement_branch, statement, component, commented}
use Rattle.mo_grammar.proofs.Codes.{both}
use Rattle.mo_grammar.proofs.SoundSteps.{all_true, named_token, AreSoundEquations, IsSoundBranched, IsSoundBranchedElse, Makes, OfOption, anything, by_symbol, by_name, by_seq, by_either, by_either2, by_made, by_weaker, by_placed, by_nested, by_unless, by_many, by_optional, by_behind, by_before, by_between, by_listed}
use Rattle.mo_grammar.proofs.SoundExpressions.{option_passes, options_or_nothing, outputs_made, args_or_none_sound}

-- ---- names

-- names that become texts
pub texts_named : (is_name : Naming) (names : List Lexeme) → list_all (named_token is_name) names ≡ true → list_all is_name (map text_of names) ≡ true
texts_named is_name names h = list_all-map is_name text_of names ∙ h

pub path_sound : (is_name : Naming) (names : List Lexeme) → some_by (named_token is_name) names ≡ true → is_sound_path is_name (path_of names) ≡ true
path_sound is_name [] h = h
path_sound is_name (t ∷ names) h = texts_named is_name (t ∷ names) h

pub by_commented : {is_name : Naming} {A : Type 0} {g : Form A} {Q : A → Type 0} → Makes is_name g Q → Makes is_name (commented g) Q
by_commented p = by_made (by_seq p (anything _)) (λ x h. h.0)

module _ (is_name : Naming) where
  abbrev sound : Expr → Bool
  sound = is_sound_expr is_name

  abbrev item_test : Item → Bool
  item_test = is_sound_item is_name

  abbrev what_test : What → Bool
  what_test = is_sound_what is_name

  -- ---- modifications

  pub mods_sound : (o : Option Mods) → OfOption (λ m. is_sound_mods is_name m ≡ true) o → is_sound_mods is_name (mods_or_none o) ≡ true
  mods_sound None h = refl
  mods_sound (Some m) h = h

  pub class_mods_made : Makes is_name class_mod (λ m. is_sound_mods is_name m ≡ true)
  class_mods_made = by_made (by_between (by_optional (by_listed (argument_by is_name (is_sound_give is_name)) (by_symbol ModArguments)))) (λ o h. options_or_nothing _ o h)

  abbrev pub IsSoundBinding : Binding → Type 0
  IsSoundBinding x = (is_sound_mods is_name x.0 ≡ true) × (is_sound_option is_name x.1 ≡ true)

  binding_sound : (o : Option Binding) → OfOption IsSoundBinding o → IsSoundBinding (binding_or_none o)
  binding_sound None h = (refl, refl)
  binding_sound (Some x) h = h

  modification_made : Makes is_name modification IsSoundBinding
  modification_made =
      by_either (by_weaker (by_seq (by_symbol ClassMods) (by_optional (by_behind (by_symbol Expressions)))) (λ x h. (h.0, option_passes sound x.1 h.1)))
      (by_made (by_seq (anything _) (by_symbol Expressions)) (λ x h. (refl, h.1)))

  abbrev pub IsSoundDeclared : Declared → Type 0
  IsSoundDeclared x = (is_name x.0.text ≡ true) × (OfOption (λ subs. are_sound_options is_name subs ≡ true) x.1.0 × OfOption IsSoundBinding x.1.1)

  pub declaration_made : Makes is_name declaration IsSoundDeclared
  declaration_made = by_seq by_name (by_seq (by_optional (by_symbol Subscripts)) (by_optional modification_made))

  pub class_what : (class : ClassDefOf Body) → is_sound_class is_name class ≡ true → what_test (Class class) ≡ true
  class_what class h = what_is is_name (Class class) ∙ (ap (what_by is_name (is_sound_body is_name) (is_sound_give is_name)) (outs-Class class) ∙ h)

  pub component_what : (component : ComponentOf Give) → component_by is_name (is_sound_give is_name) component ≡ true → what_test (Component component) ≡ true
  component_what component h = what_is is_name (Component component) ∙ (ap (what_by is_name (is_sound_body is_name) (is_sound_give is_name)) (outs-Component component) ∙ h)

  pub component_sound : (prefix : Prefix) (base : ReferenceOf Expr) (base_subs : List (Option Expr)) (d : Declared) (condition : Option Expr) → is_sound_reference is_name base ≡ true → are_sound_options is_name base_subs ≡ true → IsSoundDeclared d → is_sound_option is_name condition ≡ true → component_by is_name (is_sound_give is_name) (component_of prefix base base_subs d condition) ≡ true
  component_sound prefix base base_subs d condition p q r s =
      let binding = binding_sound d.1.1 r.1.1 in
      all_true r.0 (all_true p (all_true q (all_true (options_or_nothing _ d.1.0 r.1.0) (all_true binding.0 (all_true binding.1 s)))))

  -- what an element declares, with the name that it declares
  abbrev IsSoundDeclares : Declares → Type 0
  IsSoundDeclares x = (is_name x.0.text ≡ true) × (what_test x.1 ≡ true)

  component1_made : Makes is_name component1 IsSoundDeclares
  component1_made =
      by_made (by_seq (anything _) (by_seq (by_symbol TypeSpecs) (by_commented declaration_made)))
      (λ x h. (h.1.1.0, component_what _ (component_sound x.0 x.1.0 [] x.1.1 None h.1.0 refl h.1.1 refl)))

  pub constraint_made : Makes is_name constraint (λ limit. limit_by is_name (is_sound_give is_name) limit ≡ true)
  constraint_made = by_made (by_behind (by_seq (by_symbol TypeSpecs) (by_optional (by_symbol ClassMods)))) (λ x h. all_true h.0 (mods_sound x.1 h.1))

  pub body_sound : (body : Body) (layer : Body-F Body Give Item What Element) → out-Body body ≡ layer → body_by is_name (is_sound_give is_name) item_test layer ≡ true → is_sound_body is_name body ≡ true
  body_sound body layer e h = body_is is_name body ∙ (ap (body_by is_name (is_sound_give is_name) item_test) e ∙ h)

  literals_made : Makes is_name literals (λ texts. list_all is_name texts ≡ true)
  literals_made = by_listed is_name (by_commented (by_made by_name (λ t h. h)))

  pub enumeration_made : Makes is_name enumeration (λ body. is_sound_body is_name body ≡ true)
  enumeration_made =
      by_made (by_commented (by_behind (by_between (by_either {Q = λ o. option_by (list_all is_name) o ≡ true} (by_made (anything _) (λ t h. refl)) (by_made (by_optional literals_made) (λ o h. options_or_nothing is_name o h))))))
      (λ o h. body_sound _ _ (outs-Enumeration o) h)

  pub short_class_made : Makes is_name short_class (λ body. is_sound_body is_name body ≡ true)
  short_class_made =
      by_made (by_seq (anything _) (by_seq (by_symbol TypeSpecs) (by_seq (by_optional (by_symbol Subscripts)) (by_commented (by_optional (by_symbol ClassMods))))))
      (λ x h. body_sound _ _ (outs-Short _ x.1.0 _ _) (all_true h.1.0 (all_true (options_or_nothing _ x.1.1.0 h.1.1.0) (mods_sound x.1.1.1 h.1.1.1))))

  -- a class by its name and its body
  abbrev pub IsSoundNamed : Lexeme × Body → Type 0
  IsSoundNamed x = (is_name x.0.text ≡ true) × (is_sound_body is_name x.1 ≡ true)

  short_spec_made : Makes is_name short_spec IsSoundNamed
  short_spec_made = by_seq by_name (by_behind (by_either enumeration_made short_class_made))

  argument_declares_made : Makes is_name argument_declares IsSoundDeclares
  argument_declares_made = by_either (by_made (by_seq (anything _) short_spec_made) (λ x h. (h.1.0, class_what _ (all_true h.1.0 h.1.1)))) component1_made

  replaceable_made : Makes is_name replaceable_arg (λ x. IsSoundDeclares x.0 × OfOption (λ limit. limit_by is_name (is_sound_give is_name) limit ≡ true) x.1)
  replaceable_made = by_behind (by_seq argument_declares_made (by_optional constraint_made))

  pub element_sound : (flags : ElementFlags) (what : What) (limit : Option Limit) → what_test what ≡ true → OfOption (λ limit. limit_by is_name (is_sound_give is_name) limit ≡ true) limit → is_sound_element is_name (roll-Element (record { flags = flags; what = what; limit = limit })) ≡ true
  element_sound flags what limit p q =
      element_is is_name (roll-Element (record { flags = flags; what = what; limit = limit }))
      ∙ (ap (element_by is_name (is_sound_give is_name) what_test) (out-roll-Element (record { flags = flags; what = what; limit = limit })) ∙ all_true p (option_passes _ limit q))

  give_sound : (give : Give) (layer : Give-F Body Give Item What Element) → out-Give give ≡ layer → give_by is_name (is_sound_give is_name) (is_sound_element is_name) layer ≡ true → is_sound_give is_name give ≡ true
  give_sound give layer e h = give_is is_name give ∙ (ap (give_by is_name (is_sound_give is_name) (is_sound_element is_name)) e ∙ h)

  -- what an argument gives, with its name
  abbrev IsSoundArgued : Argued → Type 0
  IsSoundArgued x = (some_by (named_token is_name) x.0.1 ≡ true) × (is_sound_give is_name x.1 ≡ true)

  argument_sound : (x : Bool × (Bool × Argued)) → (Unit {0}) × (Unit {0} × IsSoundArgued x.1.1) → argument_by is_name (is_sound_give is_name) (argument_of x) ≡ true
  argument_sound x h = all_true (path_sound is_name x.1.1.0.1 h.1.1.0) h.1.1.1

  pub arguments_made : Makes is_name argument (λ a. argument_by is_name (is_sound_give is_name) a ≡ true)
  arguments_made =
      by_either
      (by_behind (by_made (by_seq (anything _) (by_seq (anything _) (by_either {Q = IsSoundArgued}
      (by_made replaceable_made (λ x h. (all_true h.0.0 refl, give_sound _ _ (outs-Redeclare _) (element_sound _ x.0.1 x.1 h.0.1 h.1))))
      (by_made argument_declares_made (λ x h. (all_true h.0 refl, give_sound _ _ (outs-Redeclare _) (element_sound _ x.1 None h.1 tt))))))) argument_sound))
      (by_made (by_seq (anything _) (by_seq (anything _) (by_either {Q = IsSoundArgued}
      (by_made replaceable_made (λ x h. (all_true h.0.0 refl, give_sound _ _ (outs-Replaceable _) (element_sound _ x.0.1 x.1 h.0.1 h.1))))
      (by_made (by_made (by_seq (by_seq (by_placed (by_symbol Names)) (by_optional modification_made)) (anything _)) (λ x h. h.0))
      (λ x h. let binding = binding_sound x.1 h.1 in (h.0, give_sound _ _ (outs-Modify _ _) (all_true binding.0 binding.1))))))) argument_sound)

  -- ---- equations

  abbrev AreSound : List Equation → Type 0
  AreSound = AreSoundEquations is_name

  kind_sound : (kind : EquationKind) (layer : EquationKind-F EquationKind) → out-EquationKind kind ≡ layer → equation_kind_by is_name (is_sound_equation_kind is_name) layer ≡ true → is_sound_equation_kind is_name kind ≡ true
  kind_sound kind layer e h = equation_kind_is is_name kind ∙ (ap (equation_kind_by is_name (is_sound_equation_kind is_name)) e ∙ h)

  pub for_equations_made : Makes is_name for_equations AreSound
  for_equations_made = by_either2 (by_made (anything _) (λ x h. refl)) (by_made (by_seq (by_before (by_symbol EquationItems)) (by_symbol ForEquations)) (λ x h. all_true h.0 h.1))

  pub else_equations_made : Makes is_name else_equations AreSound
  else_equations_made = by_either2 (by_made (anything _) (λ x h. refl)) (by_made (by_seq (by_before (by_symbol EquationItems)) (by_symbol ElseEquations)) (λ x h. all_true h.0 h.1))

  pub when_equations_made : Makes is_name when_equations (IsSoundBranched is_name)
  when_equations_made =
      by_either2 (by_made (anything _) (λ x h. (refl, refl)))
      (by_either (by_made (by_behind (by_seq (by_symbol Expressions) (by_behind (by_symbol WhenEquations)))) (λ x h. (refl, all_true (all_true h.0 h.1.0) h.1.1)))
      (by_made (by_seq (by_before (by_symbol EquationItems)) (by_symbol WhenEquations)) (λ x h. (all_true h.0 h.1.0, h.1.1))))

  pub if_equations_made : Makes is_name if_equations (IsSoundBranchedElse is_name)
  if_equations_made =
      by_either2 (by_made (anything _) (λ x h. (refl, (refl, refl))))
      (by_either (by_made (by_behind (by_seq (by_symbol Expressions) (by_behind (by_symbol IfEquations)))) (λ x h. (refl, (all_true (all_true h.0 h.1.0) h.1.1.0, h.1.1.1))))
      (by_either (by_made (by_behind (by_symbol ElseEquations)) (λ x h. (refl, (refl, h))))
      (by_made (by_seq (by_before (by_symbol EquationItems)) (by_symbol IfEquations)) (λ x h. (all_true h.0 h.1.0, h.1.1)))))

  -- the call of a name that a sound expression is
  called_sound : (layer : Node-F Arg Node Args Expr) → node_by is_name (is_sound_args is_name) sound layer ≡ true → OfOption (λ call. (is_sound_reference is_name call.0 ≡ true) × (is_sound_args is_name call.1 ≡ true)) (name_called_by layer)
  called_sound (Node-F.Call (called_name r) a) h = both (is_sound_reference is_name r) (is_sound_args is_name a) h
  called_sound _ h = tt

  call_sound : (a : Expr) (o : Option (ReferenceOf Expr × Args)) → sound a ≡ true → OfOption (λ call. (is_sound_reference is_name call.0 ≡ true) × (is_sound_args is_name call.1 ≡ true)) o → is_sound_equation_kind is_name (call_of a o) ≡ true
  call_sound a None p q = kind_sound _ _ (outs-Equal a a) (all_true p p)
  call_sound a (Some call) p q = kind_sound _ _ (outs-call_equation call.0 call.1) (all_true q.0 q.1)

  name_called_sound : (a : Expr) → sound a ≡ true → OfOption (λ call. (is_sound_reference is_name call.0 ≡ true) × (is_sound_args is_name call.1 ≡ true)) (name_called a)
  unfolding name_called
  name_called_sound a h = called_sound (out-Node a.node) (sym (expr_is is_name a ∙ node_is is_name a.node) ∙ h)

  equality_sound : (a : Expr) (o : Option Expr) → sound a ≡ true → OfOption (λ e. sound e ≡ true) o → is_sound_equation_kind is_name (equality (a, o)) ≡ true
  equality_sound a None p q = call_sound a (name_called a) p (name_called_sound a p)
  equality_sound a (Some b) p q = kind_sound _ _ (outs-Equal a b) (all_true p q)

  pub equation_items_made : Makes is_name equation_item (λ q. is_sound_equation is_name q ≡ true)
  equation_items_made =
      by_made (by_placed (by_commented (by_either {Q = λ k. is_sound_equation_kind is_name k ≡ true}
      (by_nested (by_made (by_behind (by_seq (by_symbol Expressions) (by_behind (by_symbol IfEquations)))) (λ x h. kind_sound _ _ (outs-if_equation _ x.1.1.1) (all_true (all_true (all_true h.0 h.1.0) h.1.1.0) h.1.1.1))))
      (by_either (by_nested (by_made (by_behind (by_seq (by_symbol Indices) (by_behind (by_symbol ForEquations)))) (λ x h. kind_sound _ _ (outs-for_equation x.0 x.1) (all_true h.0 h.1))))
      (by_either (by_nested (by_made (by_behind (by_seq (by_symbol Expressions) (by_behind (by_symbol WhenEquations)))) (λ x h. kind_sound _ _ (outs-when_equation _) (all_true (all_true h.0 h.1.0) h.1.1))))
      (by_either (by_made (by_behind (by_between (by_seq (by_symbol References) (by_behind (by_symbol References))))) (λ x h. kind_sound _ _ (outs-Connect x.0 x.1) (all_true h.0 h.1)))
      (by_made (by_unless (by_symbol Simples) (by_behind (by_symbol Expressions))) (λ x h. equality_sound x.0 x.1 h.0 h.1))))))))
      (λ x h. h)

  -- ---- statements

  abbrev pub statement_test : Statement → Bool
  statement_test = is_sound_statement is_name

  statement_sound : (kind : StatementKind) (layer : StatementKind-F StatementKind) → out-StatementKind kind ≡ layer → statement_kind_by is_name (is_sound_statement_kind is_name) layer ≡ true → is_sound_statement_kind is_name kind ≡ true
  statement_sound kind layer e h = statement_kind_is is_name kind ∙ (ap (statement_kind_by is_name (is_sound_statement_kind is_name)) e ∙ h)

  pub statements_made : Makes is_name statements (λ list. list_all statement_test list ≡ true)
  statements_made = by_many statement_test (by_before (by_symbol StatementItems))

  -- a condition with its statements
  abbrev branch_test : Expr × List Statement → Bool
  branch_test branch = sound branch.0 && list_all statement_test branch.1

  branch_made : Makes is_name statement_branch (λ branch. branch_test branch ≡ true)
  branch_made = by_weaker (by_seq (by_symbol Expressions) (by_behind statements_made)) (λ x h. all_true h.0 h.1)

  behind_sound : (r : ReferenceOf Expr) (x : Behind) → is_sound_reference is_name r ≡ true → OfOption (λ e. sound e ≡ true) x.0 × OfOption (λ a. is_sound_args is_name a ≡ true) x.1 → is_sound_statement_kind is_name (reference_statement (r, x)) ≡ true
  behind_sound r (Some value, args) p q = statement_sound _ _ (outs-Assign r value) (all_true p q.0)
  behind_sound r (None, args) p q = statement_sound _ _ (outs-call_statement r _) (all_true p (args_or_none_sound is_name args q.1))

  pub statement_items_made : Makes is_name statement (λ s. statement_test s ≡ true)
  statement_items_made =
      by_made (by_placed (by_commented (by_either {Q = λ k. is_sound_statement_kind is_name k ≡ true} (by_made (anything _) (λ t h. statement_sound _ _ outs-Break refl))
      (by_either (by_made (anything _) (λ t h. statement_sound _ _ outs-Return refl))
      (by_either (by_nested (by_made (by_behind (by_seq branch_made (by_seq (by_many branch_test (by_behind branch_made)) (by_before (by_before (by_optional (by_behind statements_made))))))) (λ x h. statement_sound _ _ (outs-if_statement _ _) (all_true (all_true h.0 h.1.0) (options_or_nothing statement_test x.1.1 h.1.1)))))
      (by_either (by_nested (by_made (by_behind (by_seq (by_symbol Indices) (by_behind (by_before (by_before statements_made))))) (λ x h. statement_sound _ _ (outs-for_statement x.0 x.1) (all_true h.0 h.1))))
      (by_either (by_nested (by_made (by_behind (by_seq (by_symbol Expressions) (by_behind (by_before (by_before statements_made))))) (λ x h. statement_sound _ _ (outs-while_statement x.0 x.1) (all_true h.0 h.1))))
      (by_either (by_nested (by_made (by_behind (by_seq branch_made (by_before (by_before (by_many branch_test (by_behind branch_made)))))) (λ x h. statement_sound _ _ (outs-when_statement _) (all_true h.0 h.1))))
      (by_either (by_made (by_seq (by_between (outputs_made is_name)) (by_behind (by_seq (by_symbol References) (by_symbol CallArguments)))) (λ x h. statement_sound _ _ (outs-Outputs x.0 x.1.0 x.1.1) (all_true h.0 (all_true h.1.0 h.1.1))))
      (by_made (by_seq (by_symbol References) (by_either {Q = λ x. OfOption (λ e. sound e ≡ true) x.0 × OfOption (λ a. is_sound_args is_name a ≡ true) x.1} (by_made (by_behind (by_symbol Expressions)) (λ e h. (h, tt))) (by_made (by_symbol CallArguments) (λ a h. (tt, h))))) (λ x h. behind_sound x.0 x.1 h.0 h.1))))))))))
      ) (λ x h. h)
