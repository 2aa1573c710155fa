-- What each form of equation gives, and what resolving makes of a name and of a literal.
use Rattle.std.proofs.Common.{◌≡◌, ℕ, ℤ, Bool, false, List, [], ◌∷◌, map, Option, Some, None, refl, ap, sym, ◌∙◌}
use Rattle.mo_syntax.specs.declared.equation.EquationKind.{EquationKind, EquationKind-F, fold_out-EquationKind}
use Rattle.mo_syntax.specs.declared.equation.EquationKind.TheVariants as kind
use Rattle.mo_syntax.specs.declared.equation.EquationOf.{EquationOf}
use Rattle.mo_syntax.specs.declared.expr.Args.{Args}
use Rattle.mo_syntax.specs.declared.expr.Expr.{Expr, roll-Expr, para-roll-Expr}
use Rattle.mo_syntax.specs.declared.expr.IndexOf.{IndexOf}
use Rattle.mo_syntax.specs.declared.expr.Node.{Node, Node-F, para-Node, para-roll-Node}
use Rattle.mo_syntax.specs.declared.expr.Node.TheVariants.{EndMark, Range, Ref, Truth, Whole, rolls-EndMark, rolls-Range, rolls-Ref, rolls-Truth, rolls-Whole}
use Rattle.mo_syntax.specs.declared.expr.PartOf.{PartOf}
use Rattle.mo_syntax.specs.declared.expr.ReferenceOf.{ReferenceOf}
use Rattle.mo_syntax.specs.declared.place.Place.{Place}
use Rattle.mo_flat.specs.declared.array.ArrayExpr.{ArrayExpr}
use Rattle.mo_scope.specs.Rows.{Table}
use Rattle.mo_scope.specs.Frames.{Scope}
use Rattle.mo_eval.specs.Virtuals.{Ask, Making}
use Rattle.mo_values.specs.declared.context.Context.{Context}
use Rattle.mo_eval.specs.Contexts.{Part}
use Rattle.mo_eval.specs.Resolving.{made, made_node, made_expr, argument_of, arguments_of}
use Rattle.mo_equations.specs.Leaves.{Tree}
use Rattle.mo_equations.specs.Equations.{Former, made_form, made_kind}
use Rattle.mo_equations.specs.steps.Turns.{branch_at, formed_at}

-- ---- equations

module _ (tree : Tree) where
  pub at_Equal : (left right : Expr) → made_kind tree (kind.Equal left right) ≡ made_form tree (EquationKind-F.Equal left right)
  at_Equal left right = rw (fold_out-EquationKind Former (made_form tree) (kind.Equal left right), kind.outs-Equal left right) refl

  pub at_If : (branches : List (Expr × List (EquationOf EquationKind))) (others : List (EquationOf EquationKind)) →
      made_kind tree (kind.If branches others) ≡ made_form tree (EquationKind-F.If (map (branch_at tree) branches) (map (formed_at tree) others))
  at_If branches others = rw (fold_out-EquationKind Former (made_form tree) (kind.If branches others), kind.outs-If branches others) refl

  pub at_For : (indices : List (IndexOf Expr)) (equations : List (EquationOf EquationKind)) →
      made_kind tree (kind.For indices equations) ≡ made_form tree (EquationKind-F.For indices (map (formed_at tree) equations))
  at_For indices equations = rw (fold_out-EquationKind Former (made_form tree) (kind.For indices equations), kind.outs-For indices equations) refl

  pub at_When : (branches : List (Expr × List (EquationOf EquationKind))) →
      made_kind tree (kind.When branches) ≡ made_form tree (EquationKind-F.When (map (branch_at tree) branches))
  at_When branches = rw (fold_out-EquationKind Former (made_form tree) (kind.When branches), kind.outs-When branches) refl

  pub at_Connect : (left right : ReferenceOf Expr) → made_kind tree (kind.Connect left right) ≡ made_form tree (EquationKind-F.Connect left right)
  at_Connect left right = rw (fold_out-EquationKind Former (made_form tree) (kind.Connect left right), kind.outs-Connect left right) refl

  pub at_Call : (called : ReferenceOf Expr) (arguments : Args) → made_kind tree (kind.Call called arguments) ≡ made_form tree (EquationKind-F.Call called arguments)
  at_Call called arguments = rw (fold_out-EquationKind Former (made_form tree) (kind.Call called arguments), kind.outs-Call called arguments) refl

-- ---- names and literals

-- a form of expression, resolved at a place
abbrev pub Resolving : Type 0
Resolving = Place → Context → Making ArrayExpr

abbrev pub made_below : Table → Ask → Scope → Node → Resolving
made_below table ask scope =
    para-Node (Option Part) Resolving (Option (List Part)) (Context → Making ArrayExpr) argument_of (made_node table ask scope) arguments_of made_expr

abbrev pub as_part : Table → Ask → Scope → Expr → Part
as_part table ask scope e = (e, made table ask scope e)

-- an identifier with a subscript for each expression
abbrev pub indexed : {E : Type 0} → List ℕ → Place → List (Option E) → PartOf E
indexed name place subs = record { name = name; place = place; subs = subs }

abbrev pub simple : {E : Type 0} → PartOf E → ReferenceOf E
simple part = record { top = false; parts = part ∷ [] }

module _ (table : Table) (ask : Ask) (scope : Scope) where
  pub at_expr : (place : Place) (node : Node) → made table ask scope (roll-Expr (record { place = place; node = node })) ≡ made_below table ask scope node place
  at_expr place node =
      para-roll-Expr (Option Part) Resolving (Option (List Part)) (Context → Making ArrayExpr) argument_of (made_node table ask scope) arguments_of made_expr (record { place = place; node = node })

  pub at_Whole : (n : ℤ) → made_below table ask scope (Whole n) ≡ made_node table ask scope (Node-F.Whole n)
  at_Whole n = ap (made_below table ask scope) (sym (rolls-Whole n))
      ∙ para-roll-Node (Option Part) Resolving (Option (List Part)) (Context → Making ArrayExpr) argument_of (made_node table ask scope) arguments_of made_expr (Node-F.Whole n)

  pub at_Truth : (b : Bool) → made_below table ask scope (Truth b) ≡ made_node table ask scope (Node-F.Truth b)
  at_Truth b = ap (made_below table ask scope) (sym (rolls-Truth b))
      ∙ para-roll-Node (Option Part) Resolving (Option (List Part)) (Context → Making ArrayExpr) argument_of (made_node table ask scope) arguments_of made_expr (Node-F.Truth b)

  pub at_name : (name : List ℕ) (place : Place) → made_below table ask scope (Ref (simple (indexed name place [])))
      ≡ made_node table ask scope (Node-F.Ref (simple (indexed name place [])))
  at_name name place = ap (made_below table ask scope) (sym (rolls-Ref (simple (indexed name place []))))
      ∙ para-roll-Node (Option Part) Resolving (Option (List Part)) (Context → Making ArrayExpr) argument_of (made_node table ask scope) arguments_of made_expr (Node-F.Ref (simple (indexed name place [])))

  pub at_indexed : (name : List ℕ) (place : Place) (e : Expr) → made_below table ask scope (Ref (simple (indexed name place (Some e ∷ []))))
      ≡ made_node table ask scope (Node-F.Ref (simple (indexed name place (Some (as_part table ask scope e) ∷ []))))
  at_indexed name place e = ap (made_below table ask scope) (sym (rolls-Ref (simple (indexed name place (Some e ∷ [])))))
      ∙ para-roll-Node (Option Part) Resolving (Option (List Part)) (Context → Making ArrayExpr) argument_of (made_node table ask scope) arguments_of made_expr (Node-F.Ref (simple (indexed name place (Some e ∷ []))))

  -- a range without a step
  pub at_Range : (first last : Expr) → made_below table ask scope (Range first None last)
      ≡ made_node table ask scope (Node-F.Range (as_part table ask scope first) None (as_part table ask scope last))
  at_Range first last = ap (made_below table ask scope) (sym (rolls-Range first None last))
      ∙ para-roll-Node (Option Part) Resolving (Option (List Part)) (Context → Making ArrayExpr) argument_of (made_node table ask scope) arguments_of made_expr (Node-F.Range first None last)

  -- two identifiers with a dot between them
  pub at_dotted : (a b : List ℕ) (p q : Place) →
      made_below table ask scope (Ref (record { top = false; parts = indexed a p [] ∷ indexed b q [] ∷ [] }))
      ≡ made_node table ask scope (Node-F.Ref (record { top = false; parts = indexed a p [] ∷ indexed b q [] ∷ [] }))
  at_dotted a b p q = ap (made_below table ask scope) (sym (rolls-Ref (record { top = false; parts = indexed a p [] ∷ indexed b q [] ∷ [] })))
      ∙ para-roll-Node (Option Part) Resolving (Option (List Part)) (Context → Making ArrayExpr) argument_of (made_node table ask scope) arguments_of made_expr
      (Node-F.Ref (record { top = false; parts = indexed a p [] ∷ indexed b q [] ∷ [] }))

  pub at_EndMark : made_below table ask scope EndMark ≡ made_node table ask scope Node-F.EndMark
  at_EndMark = ap (made_below table ask scope) (sym rolls-EndMark)
      ∙ para-roll-Node (Option Part) Resolving (Option (List Part)) (Context → Making ArrayExpr) argument_of (made_node table ask scope) arguments_of made_expr Node-F.EndMark
