-- What equations are in pieces spells them. A list of equations is printed with what ends it.
use Rattle.std.proofs.Common.{◌≡◌, ◌==◌, ◌||◌, ◌++◌, ℕ, true, List, [], ◌∷◌, map, flat_map, inl, inr, Option, Some, None, refl, sym, ap, subst, ◌∙◌, append_assoc, codes, is_some}
use Rattle.mo_syntax.specs.declared.equation.EquationKind.{EquationKind, fold_out-EquationKind}
use Rattle.mo_syntax.specs.declared.equation.EquationKind.TheVariants.{Equal, If as if_equation, For as for_equation, When as when_equation, Connect, Call as call_equation, outs-Equal, outs-Connect, outs-Call as outs-call_equation}
use Rattle.mo_syntax.specs.declared.expr.Args.{Args}
use Rattle.mo_syntax.specs.declared.expr.CalleeOf.TheVariants.{Named}
use Rattle.mo_syntax.specs.declared.expr.Expr.{Expr}
use Rattle.mo_syntax.specs.declared.expr.Node.TheVariants.{Call}
use Rattle.mo_syntax.specs.declared.expr.ReferenceOf.{ReferenceOf}
use Rattle.mo_grammar.specs.ClassTrees.{Branched, BranchedElse, Equation, call_of, is_call, name_called}
use Rattle.mo_grammar.specs.Classes.{connect_eq, equality_or_call, for_eq, if_eq, when_eq}
use Rattle.mo_grammar.specs.Codes.{close_paren, comma, dot, else_word, elseif_word, elsewhen_word, equals, for_word, ident, if_word, connect_word, loop_word, open_paren, semicolon, then_word, when_word}
use Rattle.mo_grammar.specs.Forms.{before, behind, between}
use Rattle.mo_grammar.specs.Grammar.{Limits, either, seq, symbol}
use Rattle.mo_grammar.specs.Lexeme.{code_of}
use Rattle.mo_grammar.specs.Productions.{rule}
use Rattle.mo_grammar.specs.Symbols.{ElseEquations, EquationItems, Expressions, ForEquations, Form, IfEquations, Indices, References, Simples, Symbol, ValueOf, WhenEquations}
use Rattle.mo_grammar.specs.Trees.{expr_at}
use Rattle.mo_grammar.proofs.Codes.{and_true, both}
use Rattle.mo_pieces.specs.Lines.{end_of, lines_of, on_a_line}
use Rattle.mo_pieces.specs.Pieces.{IsToken, Piece, a_line, a_mark, a_word, tokens_of}
use Rattle.mo_unparse.specs.Placeless.{placeless_args, placeless_equation, placeless_equation_branch, placeless_equation_kind, placeless_equations, placeless_expr, placeless_reference}
use Rattle.mo_pieces.specs.ShownEquations.{branch_of, connection_of, else_of, in_equation, pieces_of_equation, pieces_of_equation_kind}
use Rattle.mo_pieces.specs.ShownExpressions.{pieces_of_args, pieces_of_expr, pieces_of_reference, pieces_of_simple, spaced}
use Rattle.mo_unparse.proofs.Building.{IsPrinted, IsPieceOf, after_blank, after_line, by_before, by_behind, by_between, by_kept, by_left, by_left2, by_left_out, by_made, by_nested, by_one, by_pieces, by_placed, by_right, by_right2, by_rule, by_seq, by_value}
use Rattle.mo_unparse.proofs.EquationLayers as layers
use Rattle.mo_unparse.proofs.Holding.{Fact, HoldsBy}
use Rattle.mo_unparse.proofs.Inverting.{before_holds, behind_holds, between_holds, commented_holds}
use Rattle.mo_unparse.proofs.NamedCalls.{call_named}
use Rattle.mo_unparse.proofs.PlacelessForms as placeless_forms
use Rattle.mo_unparse.proofs.PrintingCalls.{called_is, called_placeless, filled_before, pieces_of_call, reference_leads}
use Rattle.mo_unparse.proofs.PrintingForms.{branch_before, branches_before, by_commented, by_further_in}
use Rattle.mo_unparse.proofs.PrintingParts.{ExpressionsPrinted}
use Rattle.mo_unparse.proofs.WordPieces.{close_paren_is, comma_is, connect_word_is, else_word_is, elseif_word_is, elsewhen_word_is, end_word_is, equals_is, for_word_is, if_word_is, loop_word_is, open_paren_is, semicolon_is, then_word_is, when_word_is}

-- ---- equations in pieces, by their form

at_Equal : (left right : Expr) → pieces_of_equation_kind (Equal left right) ≡ pieces_of_simple left ++ (spaced (a_mark (codes "=")) ++ pieces_of_expr right)
at_Equal left right = rw (fold_out-EquationKind (List Piece) in_equation (Equal left right), outs-Equal left right)

at_Connect : (one other : ReferenceOf Expr) → pieces_of_equation_kind (Connect one other) ≡ connection_of one other
at_Connect one other = rw (fold_out-EquationKind (List Piece) in_equation (Connect one other), outs-Connect one other)

at_Call : (called : ReferenceOf Expr) (args : Args) → pieces_of_equation_kind (call_equation called args) ≡ pieces_of_reference called ++ pieces_of_args args
at_Call called args = rw (fold_out-EquationKind (List Piece) in_equation (call_equation called args), outs-call_equation called args)

-- an equation in its pieces, without its places
abbrev KindPrinted : Form EquationKind → Limits → EquationKind → Type 0
KindPrinted g l k = IsPrinted g l (pieces_of_equation_kind k) (placeless_equation_kind k)

-- the same by the pieces and the tree of its form
of_form : {g : Form EquationKind} {l : Limits} {ps : List Piece} {b : EquationKind} (a : EquationKind) (k : EquationKind) → a ≡ k → pieces_of_equation_kind a ≡ ps → placeless_equation_kind a ≡ b → IsPrinted g l ps b → KindPrinted g l k
of_form a k e q v p = by_pieces (sym q ∙ ap pieces_of_equation_kind e) (by_value (sym v ∙ ap placeless_equation_kind e) p)

-- ---- what is printed for each production

-- conditions with their equations, each on a line of its own
abbrev pub further_branches : List ℕ → List (Expr × List Equation) → List Piece
further_branches word branches = flat_map (λ b. a_line ∷ branch_of word pieces_of_equation b) branches

abbrev pub behind_when : List (Expr × List Equation) → List Piece
behind_when branches = further_branches (codes "elsewhen") branches ++ end_of (codes "when")

abbrev pub behind_if : List (Expr × List Equation) → List Equation → List Piece
behind_if branches others = further_branches (codes "elseif") branches ++ (else_of pieces_of_equation others ++ end_of (codes "if"))

abbrev pub EquationPrinted : Limits → Equation → Type 0
EquationPrinted l a = IsPrinted (symbol EquationItems) l (pieces_of_equation a) (placeless_equation a)

abbrev pub ForPrinted : Limits → List Equation → Type 0
ForPrinted l a = IsPrinted (symbol ForEquations) l (lines_of pieces_of_equation a ++ end_of (codes "for")) (placeless_equations a)

abbrev pub WhenPrinted : Limits → Branched → Type 0
WhenPrinted l x = IsPrinted (symbol WhenEquations) l (lines_of pieces_of_equation x.0 ++ behind_when x.1) (placeless_equations x.0, map placeless_equation_branch x.1)

abbrev pub ElsePrinted : Limits → List Equation → Type 0
ElsePrinted l a = IsPrinted (symbol ElseEquations) l (lines_of pieces_of_equation a ++ end_of (codes "if")) (placeless_equations a)

abbrev pub IfPrinted : Limits → BranchedElse → Type 0
IfPrinted l x = IsPrinted (symbol IfEquations) l (lines_of pieces_of_equation x.0 ++ behind_if x.1.0 x.1.1) (placeless_equations x.0, (map placeless_equation_branch x.1.0, placeless_equations x.1.1))

-- What is known of the equations that stand in others: what holds of what tokens spell (P) gives that the pieces spell it.
pub record EquationsPrinted (P : Fact Symbol ValueOf) : Type 0 where
  pub equation : (l : Limits) (a : Equation) → P EquationItems l a → EquationPrinted l a
  pub for_list : (l : Limits) (a : List Equation) → P ForEquations l a → ForPrinted l a
  pub when_list : (l : Limits) (x : Branched) → P WhenEquations l x → WhenPrinted l x
  pub else_list : (l : Limits) (a : List Equation) → P ElseEquations l a → ElsePrinted l a
  pub if_list : (l : Limits) (x : BranchedElse) → P IfEquations l x → IfPrinted l x

some_call : {A : Type 0} (o : Option A) → is_some o ≡ true → (x : A) × (o ≡ Some x)
some_call (Some x) e = (x, refl)
some_call None e = cc

module _ (P : Fact Symbol ValueOf) (expressions : ExpressionsPrinted P) (equations : EquationsPrinted P) where
  -- ---- lists with what ends them

  -- an equation in front
  line_printed : (l : Limits) (a : Equation) → HoldsBy P IsToken (before (symbol EquationItems) semicolon) l a → IsPrinted (before (symbol EquationItems) semicolon) l (on_a_line (pieces_of_equation a)) (placeless_equation a)
  line_printed l a h = after_line (by_before (equations.equation l a (before_holds P IsToken (symbol EquationItems) semicolon l a h)) semicolon_is)

  -- equations and what ends them, before more
  more_lines : (a : Equation) (list : List Equation) (rest : List Piece) → on_a_line (pieces_of_equation a) ++ (lines_of pieces_of_equation list ++ rest) ≡ lines_of pieces_of_equation (a ∷ list) ++ rest
  more_lines a list rest = sym (append_assoc (on_a_line (pieces_of_equation a)) (lines_of pieces_of_equation list) rest)

  pub for_step : (l : Limits) (a : List Equation) → HoldsBy P IsToken (rule ForEquations) l a → ForPrinted l a
  unfolding rule
  for_step l a (inl (t, h, e)) = subst (ForPrinted l) e (by_rule ForEquations (by_left2 (by_made refl (by_seq (after_line (by_one end_word_is)) (after_blank (by_one for_word_is))))))
  for_step l a (inr (y, h, e)) =
      subst (ForPrinted l) e (by_rule ForEquations (by_right2 (by_made refl (by_pieces (more_lines y.0 y.1 (end_of (codes "for"))) (by_seq (line_printed l y.0 h.0) (equations.for_list l y.1 h.1))))))

  pub else_step : (l : Limits) (a : List Equation) → HoldsBy P IsToken (rule ElseEquations) l a → ElsePrinted l a
  unfolding rule
  else_step l a (inl (t, h, e)) = subst (ElsePrinted l) e (by_rule ElseEquations (by_left2 (by_made refl (by_seq (after_line (by_one end_word_is)) (after_blank (by_one if_word_is))))))
  else_step l a (inr (y, h, e)) =
      subst (ElsePrinted l) e (by_rule ElseEquations (by_right2 (by_made refl (by_pieces (more_lines y.0 y.1 (end_of (codes "if"))) (by_seq (line_printed l y.0 h.0) (equations.else_list l y.1 h.1))))))

  -- a branch in front of what follows it, behind its word
  branch_printed : {p : ℕ} (word : List ℕ) (l : Limits) (condition : Expr) (list : List Equation) (rest : List Piece) → IsPieceOf (a_word word) p → {A : Type 0} {g : Form A} {a : A} → P Expressions l condition → IsPrinted g l (lines_of pieces_of_equation list ++ rest) a → IsPrinted (behind p (seq (symbol Expressions) (behind then_word g))) l (branch_of word pieces_of_equation (condition, list) ++ rest) (placeless_expr condition, a)
  branch_printed word l condition list rest is h p =
      by_pieces (branch_before word pieces_of_equation (condition, list) rest) (by_behind is (after_blank (by_seq (expressions.expression l condition h) (after_blank (by_behind then_word_is (by_further_in pieces_of_equation list rest p))))))

  -- and more branches behind it
  more_branches : (word : List ℕ) (branch : Expr × List Equation) (branches : List (Expr × List Equation)) (rest : List Piece) → a_line ∷ (branch_of word pieces_of_equation branch ++ (further_branches word branches ++ rest)) ≡ further_branches word (branch ∷ branches) ++ rest
  more_branches word branch branches rest = sym (append_assoc (a_line ∷ branch_of word pieces_of_equation branch) (further_branches word branches) rest)

  pub when_step : (l : Limits) (x : Branched) → HoldsBy P IsToken (rule WhenEquations) l x → WhenPrinted l x
  unfolding rule
  when_step l x (inl (t, h, e)) = subst (WhenPrinted l) e (by_rule WhenEquations (by_left2 (by_made refl (by_seq (after_line (by_one end_word_is)) (after_blank (by_one when_word_is))))))
  when_step l x (inr (inl (y, h, e))) =
      let parts = behind_holds P IsToken elsewhen_word (seq (symbol Expressions) (behind then_word (symbol WhenEquations))) l y h in
      let list = equations.when_list l y.1 (behind_holds P IsToken then_word (symbol WhenEquations) l y.1 parts.1) in
      subst (WhenPrinted l) e (by_rule WhenEquations (by_right2 (by_left (by_made refl
      (by_pieces (more_branches (codes "elsewhen") (y.0, y.1.0) y.1.1 (end_of (codes "when"))) (after_line (branch_printed (codes "elsewhen") l y.0 y.1.0 (behind_when y.1.1) elsewhen_word_is parts.0 list)))))))
  when_step l x (inr (inr (y, h, e))) =
      subst (WhenPrinted l) e (by_rule WhenEquations (by_right2 (by_right (by_made refl (by_pieces (more_lines y.0 y.1.0 (behind_when y.1.1)) (by_seq (line_printed l y.0 h.0) (equations.when_list l y.1 h.1)))))))

  -- what stands under `else`, with `end if`
  else_printed : (l : Limits) (list : List Equation) → P ElseEquations l list → IsPrinted (symbol IfEquations) l (behind_if [] list) ([], ([], placeless_equations list))
  unfolding rule
  else_printed l [] h = by_rule IfEquations (by_left2 (by_made refl (by_seq (after_line (by_one end_word_is)) (after_blank (by_one if_word_is)))))
  else_printed l (a ∷ list) h =
      by_rule IfEquations (by_right2 (by_right (by_left (by_made refl (after_line (by_behind else_word_is (by_further_in pieces_of_equation (a ∷ list) (end_of (codes "if")) (equations.else_list l (a ∷ list) h))))))))

  pub if_step : (l : Limits) (x : BranchedElse) → HoldsBy P IsToken (rule IfEquations) l x → IfPrinted l x
  unfolding rule
  if_step l x (inl (t, h, e)) = subst (IfPrinted l) e (by_rule IfEquations (by_left2 (by_made refl (by_seq (after_line (by_one end_word_is)) (after_blank (by_one if_word_is))))))
  if_step l x (inr (inl (y, h, e))) =
      let parts = behind_holds P IsToken elseif_word (seq (symbol Expressions) (behind then_word (symbol IfEquations))) l y h in
      let list = equations.if_list l y.1 (behind_holds P IsToken then_word (symbol IfEquations) l y.1 parts.1) in
      subst (IfPrinted l) e (by_rule IfEquations (by_right2 (by_left (by_made refl
      (by_pieces (more_branches (codes "elseif") (y.0, y.1.0) y.1.1.0 (else_of pieces_of_equation y.1.1.1 ++ end_of (codes "if"))) (after_line (branch_printed (codes "elseif") l y.0 y.1.0 (behind_if y.1.1.0 y.1.1.1) elseif_word_is parts.0 list)))))))
  if_step l x (inr (inr (inl (y, h, e)))) = subst (IfPrinted l) e (else_printed l y (behind_holds P IsToken else_word (symbol ElseEquations) l y h))
  if_step l x (inr (inr (inr (y, h, e)))) =
      subst (IfPrinted l) e (by_rule IfEquations (by_right2 (by_right (by_right (by_made refl (by_pieces (more_lines y.0 y.1.0 (behind_if y.1.1.0 y.1.1.1)) (by_seq (line_printed l y.0 h.0) (equations.if_list l y.1 h.1))))))))

  -- ---- equations

  if_printed : (l : Limits) (k : EquationKind) → HoldsBy P IsToken if_eq l k → KindPrinted if_eq l k
  if_printed l k (inner, left, (y, h, e)) =
      let parts = behind_holds P IsToken if_word (seq (symbol Expressions) (behind then_word (symbol IfEquations))) inner y h in
      let list = equations.if_list inner y.1 (behind_holds P IsToken then_word (symbol IfEquations) inner y.1 parts.1) in
      let all : KindPrinted if_eq l (if_equation ((y.0, y.1.0) ∷ y.1.1.0) y.1.1.1) =
      of_form (if_equation ((y.0, y.1.0) ∷ y.1.1.0) y.1.1.1) _ refl (layers.at_if_equation ((y.0, y.1.0) ∷ y.1.1.0) y.1.1.1) (placeless_forms.at_if_equation ((y.0, y.1.0) ∷ y.1.1.0) y.1.1.1)
      (by_pieces (branches_before (codes "if") (codes "elseif") pieces_of_equation (y.0, y.1.0) y.1.1.0 (else_of pieces_of_equation y.1.1.1 ++ end_of (codes "if"))) (by_nested left (by_made refl (branch_printed (codes "if") inner y.0 y.1.0 (behind_if y.1.1.0 y.1.1.1) if_word_is parts.0 list)))) in
      subst (KindPrinted if_eq l) e all

  when_printed : (l : Limits) (k : EquationKind) → HoldsBy P IsToken when_eq l k → KindPrinted when_eq l k
  when_printed l k (inner, left, (y, h, e)) =
      let parts = behind_holds P IsToken when_word (seq (symbol Expressions) (behind then_word (symbol WhenEquations))) inner y h in
      let list = equations.when_list inner y.1 (behind_holds P IsToken then_word (symbol WhenEquations) inner y.1 parts.1) in
      let all : KindPrinted when_eq l (when_equation ((y.0, y.1.0) ∷ y.1.1)) =
      of_form (when_equation ((y.0, y.1.0) ∷ y.1.1)) _ refl (layers.at_when_equation ((y.0, y.1.0) ∷ y.1.1)) (placeless_forms.at_when_equation ((y.0, y.1.0) ∷ y.1.1))
      (by_pieces (branches_before (codes "when") (codes "elsewhen") pieces_of_equation (y.0, y.1.0) y.1.1 (end_of (codes "when"))) (by_nested left (by_made refl (branch_printed (codes "when") inner y.0 y.1.0 (behind_when y.1.1) when_word_is parts.0 list)))) in
      subst (KindPrinted when_eq l) e all

  for_printed : (l : Limits) (k : EquationKind) → HoldsBy P IsToken for_eq l k → KindPrinted for_eq l k
  for_printed l k (inner, left, (y, h, e)) =
      let parts = behind_holds P IsToken for_word (seq (symbol Indices) (behind loop_word (symbol ForEquations))) inner y h in
      let list = equations.for_list inner y.1 (behind_holds P IsToken loop_word (symbol ForEquations) inner y.1 parts.1) in
      of_form (for_equation y.0 y.1) k e (layers.at_for_equation y.0 y.1) (placeless_forms.at_for_equation y.0 y.1)
      (by_nested left (by_made refl (by_behind for_word_is (after_blank (by_seq (expressions.indices inner y.0 parts.0) (after_blank (by_behind loop_word_is (by_further_in pieces_of_equation y.1 (end_of (codes "for")) list))))))))

  connect_printed : (l : Limits) (k : EquationKind) → HoldsBy P IsToken connect_eq l k → KindPrinted connect_eq l k
  connect_printed l k (y, h, e) =
      let inside = between_holds P IsToken open_paren close_paren (seq (symbol References) (behind comma (symbol References))) l y (behind_holds P IsToken connect_word (between open_paren close_paren (seq (symbol References) (behind comma (symbol References)))) l y h) in
      let other = behind_holds P IsToken comma (symbol References) inside.0 y.1 inside.2.1 in
      of_form (Connect y.0 y.1) k e (at_Connect y.0 y.1) (placeless_forms.at_Connect y.0 y.1)
      (by_made refl (by_behind connect_word_is (by_between inside.1 open_paren_is close_paren_is (by_seq (expressions.reference inside.0 y.0 inside.2.0) (by_behind comma_is (after_blank (expressions.reference inside.0 y.1 other)))))))

  -- the call of a name without `=`
  call_printed : (l : Limits) (a : Expr) → P Simples l a → (r : ReferenceOf Expr) (args : Args) → name_called a ≡ Some (r, args) → IsPrinted equality_or_call l (pieces_of_reference r ++ pieces_of_args args) (call_equation (placeless_reference r) (placeless_args args))
  call_printed l a h r args named =
      let call = expr_at a.place (Call (Named r) args) in
      let printed : IsPrinted (symbol Simples) l (pieces_of_reference r ++ pieces_of_args args) (placeless_expr call) =
      by_pieces (pieces_of_call a.place r args) (subst (λ v. IsPrinted (symbol Simples) l (pieces_of_simple v) (placeless_expr v)) (called_is a r args named) (expressions.simple l a h)) in
      let called = called_placeless a.place r args in
      let filled = filled_before r (call_named l (tokens_of (pieces_of_reference r ++ pieces_of_args args)) (placeless_expr call) printed.spelled printed.tokens (placeless_reference r, placeless_args args) called) in
      let lead = reference_leads r filled (pieces_of_args args) in
      let test : is_call lead.0 (placeless_expr call) ≡ true = and_true (code_of lead.0 == ident || code_of lead.0 == dot) (is_some (name_called (placeless_expr call))) lead.3 (ap is_some called) in
      by_made (ap (call_of (placeless_expr call)) called) (by_left_out lead.0 lead.1 lead.2 test printed)

  equality_printed : (l : Limits) (k : EquationKind) → HoldsBy P IsToken equality_or_call l k → KindPrinted equality_or_call l k
  equality_printed l k ((a, Some b), h, e) =
      of_form (Equal a b) k e (at_Equal a b) (placeless_forms.at_Equal a b)
      (by_made refl (by_kept (expressions.simple l a h.0) (after_blank (by_behind equals_is (after_blank (expressions.expression l b (behind_holds P IsToken equals (symbol Expressions) l b h.1)))))))
  equality_printed l k ((a, None), h, e) =
      let passed = both (code_of h.1.0 == ident || code_of h.1.0 == dot) (is_some (name_called a)) h.1.1.1 in
      let call = some_call (name_called a) passed.1 in
      of_form (call_equation call.0.0 call.0.1) k (sym (ap (call_of a) call.1) ∙ e) (at_Call call.0.0 call.0.1) (placeless_forms.at_call_equation call.0.0 call.0.1) (call_printed l a h.0 call.0.0 call.0.1 call.1)

  abbrev kinds : Form EquationKind
  kinds = either if_eq (either for_eq (either when_eq (either connect_eq equality_or_call)))

  kind_printed : (l : Limits) (k : EquationKind) → HoldsBy P IsToken kinds l k → KindPrinted kinds l k
  kind_printed l k (inl h) = by_left (if_printed l k h)
  kind_printed l k (inr (inl h)) = by_right (by_left (for_printed l k h))
  kind_printed l k (inr (inr (inl h))) = by_right (by_right (by_left (when_printed l k h)))
  kind_printed l k (inr (inr (inr (inl h)))) = by_right (by_right (by_right (by_left (connect_printed l k h))))
  kind_printed l k (inr (inr (inr (inr h)))) = by_right (by_right (by_right (by_right (equality_printed l k h))))

  pub equation_step : (l : Limits) (a : Equation) → HoldsBy P IsToken (rule EquationItems) l a → EquationPrinted l a
  unfolding rule
  equation_step l a (y, h, e) = subst (EquationPrinted l) e (by_rule EquationItems (by_made refl (by_placed refl (by_commented (kind_printed l y.1 (commented_holds P IsToken kinds l y.1 h))))))
