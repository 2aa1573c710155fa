-- What tokens spell by the productions of modifications and equations stands where the places of the tokens do.
use Rattle.std.proofs.Common.{◌≡◌, Bool, List, [], ◌∷◌, ◌++◌, map, flat_map, Option, Some, None, sym, subst}
use Rattle.mo_syntax.specs.declared.expr.Arg.{Arg}
use Rattle.mo_syntax.specs.declared.expr.Args.{Args}
use Rattle.mo_syntax.specs.declared.expr.CalleeOf.TheVariants.{Named as called_name}
use Rattle.mo_syntax.specs.declared.expr.Expr.{Expr}
use Rattle.mo_syntax.specs.declared.expr.Node.{Node, Node-F, out-Node}
use Rattle.mo_syntax.specs.declared.expr.ReferenceOf.{ReferenceOf}
use Rattle.mo_syntax.specs.declared.equation.EquationKind.{EquationKind, EquationKind-F, out-EquationKind}
use Rattle.mo_syntax.specs.declared.equation.EquationKind.TheVariants.{outs-Equal, outs-If as outs-if_equation, outs-For as outs-for_equation, outs-When as outs-when_equation, outs-Connect, outs-Call as outs-call_equation}
use Rattle.mo_syntax.specs.declared.class.ArgumentOf.{ArgumentOf}
use Rattle.mo_syntax.specs.declared.class.Body.{Body, Body-F, out-Body}
use Rattle.mo_syntax.specs.declared.class.Body.TheVariants.{outs-Short, outs-Enumeration}
use Rattle.mo_syntax.specs.declared.class.ClassDefOf.{ClassDefOf}
use Rattle.mo_syntax.specs.declared.class.ComponentOf.{ComponentOf}
use Rattle.mo_syntax.specs.declared.class.Element.{Element, roll-Element}
use Rattle.mo_syntax.specs.declared.class.ElementFlags.{ElementFlags}
use Rattle.mo_syntax.specs.declared.class.Give.{Give, Give-F, out-Give}
use Rattle.mo_syntax.specs.declared.class.Give.TheVariants.{outs-Modify, outs-Redeclare, outs-Replaceable}
use Rattle.mo_syntax.specs.declared.class.Item.{Item}
use Rattle.mo_syntax.specs.declared.class.Prefix.{Prefix}
use Rattle.mo_syntax.specs.declared.class.What.{What, What-F}
use Rattle.mo_syntax.specs.declared.class.What.TheVariants.{Class, Component, outs-Class, outs-Component}
use Rattle.mo_grammar.specs.Lexeme.{Lexeme}
use Rattle.mo_grammar.specs.Trees.{or_nothing}
use Rattle.mo_grammar.specs.ClassTrees.{Mods, Binding, Declares, Limit, Argued, Equation, Declared, mods_or_none, mods_of, binding_or_none, name_called, name_called_by, call_of, equality, component_of, argument_of}
use Rattle.mo_grammar.specs.Symbols.{Form, Expressions, Simples, Indices, References, Subscripts, TypeSpecs, Names, ClassMods, ModArguments, EquationItems, ForEquations, WhenEquations, ElseEquations, IfEquations}
use Rattle.mo_grammar.specs.Classes.{class_mod, modification, declaration, component1, constraint, enumeration, short_class, short_spec, argument_declares, replaceable_arg, argument, for_equations, when_equations, else_equations, if_equations, equation_item, commented}
use Rattle.mo_places.specs.Written.{Written, At, Valued, Stated}
use Rattle.mo_places.specs.TreeWritten.{in_subs, in_value, places_in_body, places_in_class, places_in_element, places_in_give, places_in_what, places_of_parts}
use Rattle.mo_places.specs.Pieces.{in_arguments_of_call, in_kind, in_name, in_node, in_ranges}
use Rattle.mo_places.specs.Stands.{ArgumentStands, Every, IfAny}
use Rattle.mo_places.specs.InFiles.{Descends}
use Rattle.mo_places.proofs.laws.Standing.{every_append, every_back, every_flat_map, every_front}
use Rattle.mo_places.proofs.laws.TreeParts.{at_body, at_give, at_what, by_body, by_give, by_what, places_in_arguments, places_in_limit, rolled}
use Rattle.mo_bytes.specs.steps.Spelled.{Spelled, AreBranches, AreEquations, Ascends}
use Rattle.mo_bytes.proofs.laws.Placing.{anything, by_before, by_behind, by_between, by_either, by_either2, by_listed, by_made, by_nested, by_optional, by_placed, by_seq, by_symbol, by_token, by_unless, by_weaker}
use Rattle.mo_bytes.proofs.laws.Expressions.{Spells, subs_or_nothing, value_stands}

module _ (P : Written → Type 0) (ascends : Ascends P) (descends : Descends P) where
  abbrev pub Tells : {A : Type 0} → Form A → (A → Type 0) → Type 0
  Tells g R = Spells P ascends g R

  pub by_commented : {A : Type 0} {g : Form A} {R : A → Type 0} → Tells g R → Tells (commented g) R
  by_commented p = by_made (by_seq p (anything _)) (λ x h. h.0)

  -- ---- modifications

  abbrev pub ModsStand : Mods → Type 0
  ModsStand mods = Every (ArgumentStands P) mods.0

  pub arguments_written : (arguments : List (ArgumentOf Give)) → Every (ArgumentStands P) arguments → Every P (places_in_arguments arguments)
  arguments_written arguments h = every_flat_map P (λ (argument : ArgumentOf Give). At argument.place ∷ places_in_give argument.give) arguments h

  pub mods_stand : (o : Option Mods) → IfAny ModsStand o → ModsStand (mods_or_none o)
  mods_stand None h = tt
  mods_stand (Some m) h = h

  listed_stand : (o : Option (List (ArgumentOf Give))) → IfAny (Every (ArgumentStands P)) o → ModsStand (mods_of o)
  listed_stand None h = tt
  listed_stand (Some arguments) h = h

  pub class_mods_spell : Tells class_mod ModsStand
  class_mods_spell = by_made (by_between (by_optional (by_listed (by_symbol ModArguments)))) listed_stand

  abbrev pub BindingStands : Binding → Type 0
  BindingStands x = ModsStand x.0 × Every P (in_value x.1)

  binding_stands : (o : Option Binding) → IfAny BindingStands o → BindingStands (binding_or_none o)
  binding_stands None h = (tt, tt)
  binding_stands (Some x) h = h

  modification_spells : Tells modification BindingStands
  modification_spells =
      by_either (by_weaker (by_seq (by_symbol ClassMods) (by_optional (by_behind (by_symbol Expressions)))) (λ x h. (h.0, value_stands P ascends x.1 h.1)))
      (by_made (by_seq (anything _) (by_symbol Expressions)) (λ x h. (tt, (h.1, tt))))

  abbrev pub DeclaredIn : Declared → Type 0
  DeclaredIn x = P (At x.0.place) × (IfAny (λ (subs : List (Option Expr)). Every P (in_subs subs)) x.1.0 × IfAny BindingStands x.1.1)

  pub declaration_spells : Tells declaration DeclaredIn
  declaration_spells = by_seq by_token (by_seq (by_optional (by_symbol Subscripts)) (by_optional modification_spells))

  pub class_what : (class : ClassDefOf Body) → Every P (places_in_class class) → Every P (places_in_what (Class class))
  class_what class h = subst (Every P) (sym (at_what (Class class) _ (outs-Class class))) h

  pub component_what : (component : ComponentOf Give) → Every P (by_what (What-F.Component component)) → Every P (places_in_what (Component component))
  component_what component h = subst (Every P) (sym (at_what (Component component) _ (outs-Component component))) h

  pub component_stands : (prefix : Prefix) (base : ReferenceOf Expr) (base_subs : List (Option Expr)) (d : Declared) (condition : Option Expr) → Every P (places_of_parts base.parts) → Every P (in_subs base_subs) →
      DeclaredIn d → Every P (in_value condition) → Every P (places_in_what (Component (component_of prefix base base_subs d condition)))
  component_stands prefix base base_subs d condition p q r s =
      let binding = binding_stands d.1.1 r.1.1 in
      let arguments = places_in_arguments (binding_or_none d.1.1).0.0 in
      let subs = in_subs (or_nothing d.1.0) in
      let value = in_value (binding_or_none d.1.1).1 in
      component_what (component_of prefix base base_subs d condition)
      (every_append P (At d.0.place ∷ places_of_parts base.parts) (arguments ++ (in_subs base_subs ++ subs ++ value ++ in_value condition)) (r.0, p)
      (every_append P arguments (in_subs base_subs ++ subs ++ value ++ in_value condition) (arguments_written (binding_or_none d.1.1).0.0 binding.0)
      (every_append P (in_subs base_subs ++ subs ++ value) (in_value condition)
      (every_append P (in_subs base_subs ++ subs) value (every_append P (in_subs base_subs) subs q (subs_or_nothing P ascends d.1.0 r.1.0)) binding.1) s)))

  -- what an element declares, with the name that it declares
  abbrev pub DeclaresIn : Declares → Type 0
  DeclaresIn x = P (At x.0.place) × Every P (places_in_what x.1)

  component1_spells : Tells component1 DeclaresIn
  component1_spells =
      by_made (by_seq (anything _) (by_seq (by_symbol TypeSpecs) (by_commented declaration_spells)))
      (λ x h. (h.1.1.0, component_stands x.0 x.1.0 [] x.1.1 None h.1.0 tt h.1.1 tt))

  abbrev pub LimitStands : Limit → Type 0
  LimitStands limit = Every P (places_of_parts limit.0.parts) × ModsStand limit.1

  pub constraint_spells : Tells constraint LimitStands
  constraint_spells = by_made (by_behind (by_seq (by_symbol TypeSpecs) (by_optional (by_symbol ClassMods)))) (λ x h. (h.0, mods_stand x.1 h.1))

  pub body_stands : (body : Body) (layer : Body-F Body Give Item What Element) → out-Body body ≡ layer → Every P (by_body layer) → Every P (places_in_body body)
  body_stands body layer is h = subst (Every P) (sym (at_body body layer is)) h

  pub enumeration_spells : Tells enumeration (λ (body : Body). Every P (places_in_body body))
  enumeration_spells =
      by_made (by_commented (by_behind (by_between (anything _)))) (λ o h. body_stands _ _ (outs-Enumeration o) tt)

  pub short_class_spells : Tells short_class (λ (body : Body). Every P (places_in_body body))
  short_class_spells =
      by_made (by_seq (anything _) (by_seq (by_symbol TypeSpecs) (by_seq (by_optional (by_symbol Subscripts)) (by_commented (by_optional (by_symbol ClassMods))))))
      (λ x h. body_stands _ _ (outs-Short _ x.1.0 (or_nothing x.1.1.0) (mods_or_none x.1.1.1))
      (every_append P (places_of_parts x.1.0.parts) (places_in_arguments (mods_or_none x.1.1.1).0 ++ in_subs (or_nothing x.1.1.0)) h.1.0
      (every_append P (places_in_arguments (mods_or_none x.1.1.1).0) (in_subs (or_nothing x.1.1.0)) (arguments_written (mods_or_none x.1.1.1).0 (mods_stand x.1.1.1 h.1.1.1)) (subs_or_nothing P ascends x.1.1.0 h.1.1.0))))

  -- a class by its name and its body
  abbrev pub NamedBody : Lexeme × Body → Type 0
  NamedBody x = P (At x.0.place) × Every P (places_in_body x.1)

  short_spec_spells : Tells short_spec NamedBody
  short_spec_spells = by_seq by_token (by_behind (by_either enumeration_spells short_class_spells))

  argument_declares_spell : Tells argument_declares DeclaresIn
  argument_declares_spell = by_either (by_made (by_seq (anything _) short_spec_spells) (λ x h. (h.1.0, class_what _ (h.1.0, h.1.1)))) component1_spells

  replaceable_spells : Tells replaceable_arg (λ x. DeclaresIn x.0 × IfAny LimitStands x.1)
  replaceable_spells = by_behind (by_seq argument_declares_spell (by_optional constraint_spells))

  limit_written : (limit : Option Limit) → IfAny LimitStands limit → Every P (places_in_limit limit)
  limit_written None h = tt
  limit_written (Some limit) h = every_append P (places_of_parts limit.0.parts) (places_in_arguments limit.1.0) h.0 (arguments_written limit.1.0 h.1)

  pub element_stands : (flags : ElementFlags) (what : What) (limit : Option Limit) → Every P (places_in_what what) → IfAny LimitStands limit →
      Every P (places_in_element (roll-Element (record { flags = flags; what = what; limit = limit })))
  element_stands flags what limit p q =
      subst (Every P) (sym (rolled flags what limit)) (every_append P (places_in_what what) (places_in_limit limit) p (limit_written limit q))

  give_stands : (give : Give) (layer : Give-F Body Give Item What Element) → out-Give give ≡ layer → Every P (by_give layer) → Every P (places_in_give give)
  give_stands give layer is h = subst (Every P) (sym (at_give give layer is)) h

  -- what an argument gives, with the place of its name
  abbrev ArguedIn : Argued → Type 0
  ArguedIn x = P (At x.0.0) × Every P (places_in_give x.1)

  argument_stands : (x : Bool × (Bool × Argued)) → (Unit {0}) × (Unit {0} × ArguedIn x.1.1) → ArgumentStands P (argument_of x)
  argument_stands x h = (h.1.1.0, h.1.1.1)

  pub arguments_spell : Tells argument (ArgumentStands P)
  arguments_spell =
      by_either
      (by_behind (by_made (by_seq (anything _) (by_seq (anything _) (by_either {R = ArguedIn}
      (by_made replaceable_spells (λ x h. (h.0.0, give_stands _ _ (outs-Redeclare _) (element_stands _ x.0.1 x.1 h.0.1 h.1))))
      (by_made argument_declares_spell (λ x h. (h.0, give_stands _ _ (outs-Redeclare _) (element_stands _ x.1 None h.1 tt))))))) argument_stands))
      (by_made (by_seq (anything _) (by_seq (anything _) (by_either {R = ArguedIn}
      (by_made replaceable_spells (λ x h. (h.0.0, give_stands _ _ (outs-Replaceable _) (element_stands _ x.0.1 x.1 h.0.1 h.1))))
      (by_made (by_made (by_seq (by_seq (by_placed (by_symbol Names)) (by_optional modification_spells)) (anything _)) (λ x h. h.0))
      (λ x h. let binding = binding_stands x.1 h.1 in (
        h.0.0,
        give_stands _ _ (outs-Modify _ _)
            (every_append P (places_in_arguments (binding_or_none x.1).0.0) (in_value (binding_or_none x.1).1) (arguments_written (binding_or_none x.1).0.0 binding.0) binding.1),
      )))))) argument_stands)

  -- ---- equations

  abbrev KindIn : EquationKind → Type 0
  KindIn kind = Every P (in_kind (out-EquationKind kind))

  kind_stands : (kind : EquationKind) (layer : EquationKind-F EquationKind) → out-EquationKind kind ≡ layer → Every P (in_kind layer) → KindIn kind
  kind_stands kind layer is h = subst (λ (k : EquationKind-F EquationKind). Every P (in_kind k)) (sym is) h

  pub for_equations_spell : Tells for_equations (AreEquations P)
  for_equations_spell = by_either2 (by_made (anything _) (λ x h. tt)) (by_made (by_seq (by_before (by_symbol EquationItems)) (by_symbol ForEquations)) (λ x h. (h.0, h.1)))

  pub else_equations_spell : Tells else_equations (AreEquations P)
  else_equations_spell = by_either2 (by_made (anything _) (λ x h. tt)) (by_made (by_seq (by_before (by_symbol EquationItems)) (by_symbol ElseEquations)) (λ x h. (h.0, h.1)))

  pub when_equations_spell : Tells when_equations (Spelled P WhenEquations)
  when_equations_spell =
      by_either2 (by_made (anything _) (λ x h. (tt, tt)))
      (by_either (by_made (by_behind (by_seq (by_symbol Expressions) (by_behind (by_symbol WhenEquations)))) (λ x h. (tt, ((h.0, h.1.0), h.1.1))))
      (by_made (by_seq (by_before (by_symbol EquationItems)) (by_symbol WhenEquations)) (λ x h. ((h.0, h.1.0), h.1.1))))

  pub if_equations_spell : Tells if_equations (Spelled P IfEquations)
  if_equations_spell =
      by_either2 (by_made (anything _) (λ x h. (tt, (tt, tt))))
      (by_either (by_made (by_behind (by_seq (by_symbol Expressions) (by_behind (by_symbol IfEquations)))) (λ x h. (tt, (((h.0, h.1.0), h.1.1.0), h.1.1.1))))
      (by_either (by_made (by_behind (by_symbol ElseEquations)) (λ x h. (tt, (tt, h))))
      (by_made (by_seq (by_before (by_symbol EquationItems)) (by_symbol IfEquations)) (λ x h. ((h.0, h.1.0), h.1.1)))))

  -- the call of a name that an expression is
  abbrev CallIn : ReferenceOf Expr × Args → Type 0
  CallIn call = Every P (in_name call.0) × Every P (in_arguments_of_call call.1)

  called_stands : (layer : Node-F Arg Node Args Expr) → Every P (in_node layer) → IfAny CallIn (name_called_by layer)
  called_stands (Node-F.Call (called_name r) a) h = (every_front P (in_name r) (in_arguments_of_call a) h, every_back P (in_name r) (in_arguments_of_call a) h)
  called_stands _ h = tt

  call_stands : (a : Expr) (o : Option (ReferenceOf Expr × Args)) → P (Valued a) → IfAny CallIn o → KindIn (call_of a o)
  call_stands a None p q = kind_stands _ _ (outs-Equal a a) (p, (p, tt))
  call_stands a (Some call) p q = kind_stands _ _ (outs-call_equation call.0 call.1) (every_append P (in_name call.0) (in_arguments_of_call call.1) q.0 q.1)

  name_called_stands : (a : Expr) → P (Valued a) → IfAny CallIn (name_called a)
  unfolding name_called
  name_called_stands a h = called_stands (out-Node a.node) (descends.expression a h).1

  equality_stands : (a : Expr) (o : Option Expr) → P (Valued a) → IfAny (λ (e : Expr). P (Valued e)) o → KindIn (equality (a, o))
  equality_stands a None p q = call_stands a (name_called a) p (name_called_stands a p)
  equality_stands a (Some b) p q = kind_stands _ _ (outs-Equal a b) (p, (q, tt))

  abbrev Equations_of : Type 0
  Equations_of = List Equation

  branches_written : (branches : List (Expr × List Equation)) → AreBranches P branches → Every P (flat_map (λ (branch : Expr × List Equation). Valued branch.0 ∷ map Stated branch.1) branches)
  branches_written branches h = every_flat_map P (λ (branch : Expr × List Equation). Valued branch.0 ∷ map Stated branch.1) branches h

  pub equation_items_spell : Tells equation_item (λ (q : Equation). P (Stated q))
  equation_items_spell =
      by_made (by_placed (by_commented (by_either {R = KindIn}
      (by_nested (by_made (by_behind (by_seq (by_symbol Expressions) (by_behind (by_symbol IfEquations))))
      (λ x h. kind_stands _ _ (outs-if_equation ((x.0, x.1.0) ∷ x.1.1.0) x.1.1.1)
      (every_append P (flat_map (λ (branch : Expr × List Equation). Valued branch.0 ∷ map Stated branch.1) ((x.0, x.1.0) ∷ x.1.1.0)) (map Stated x.1.1.1)
      (branches_written ((x.0, x.1.0) ∷ x.1.1.0) ((h.0, h.1.0), h.1.1.0)) h.1.1.1))))
      (by_either (by_nested (by_made (by_behind (by_seq (by_symbol Indices) (by_behind (by_symbol ForEquations))))
      (λ x h. kind_stands _ _ (outs-for_equation x.0 x.1) (every_append P (in_ranges x.0) (map Stated x.1) h.0 h.1))))
      (by_either (by_nested (by_made (by_behind (by_seq (by_symbol Expressions) (by_behind (by_symbol WhenEquations))))
      (λ x h. kind_stands _ _ (outs-when_equation ((x.0, x.1.0) ∷ x.1.1)) (branches_written ((x.0, x.1.0) ∷ x.1.1) ((h.0, h.1.0), h.1.1)))))
      (by_either (by_made (by_behind (by_between (by_seq (by_symbol References) (by_behind (by_symbol References)))))
      (λ x h. kind_stands _ _ (outs-Connect x.0 x.1) (every_append P (in_name x.0) (in_name x.1) h.0 h.1)))
      (by_made (by_unless (by_symbol Simples) (by_behind (by_symbol Expressions))) (λ x h. equality_stands x.0 x.1 h.0 h.1))))))))
      (λ x h. ascends.equation (record { place = x.0; what = x.1 }) (h.0, h.1))
