-- What statements are in pieces spells them.
use Rattle.std.proofs.Common.{◌≡◌, ℕ, List, [], ◌∷◌, ◌++◌, map, flat_map, inl, inr, Option, Some, None, refl, sym, ap, subst, ◌∙◌, codes}
use Rattle.mo_syntax.specs.declared.expr.Args.{Args}
use Rattle.mo_syntax.specs.declared.expr.Expr.{Expr}
use Rattle.mo_syntax.specs.declared.expr.IndexOf.{IndexOf}
use Rattle.mo_syntax.specs.declared.expr.ReferenceOf.{ReferenceOf}
use Rattle.mo_syntax.specs.declared.equation.StatementKind.{StatementKind, fold_out-StatementKind}
use Rattle.mo_syntax.specs.declared.equation.StatementKind.TheVariants.{Assign, Call as call_statement, Outputs, Break, Return, If as if_statement, For as for_statement, While as while_statement, When as when_statement, outs-Assign, outs-Call as outs-call_statement, outs-Outputs, outs-Break, outs-Return}
use Rattle.mo_grammar.specs.Codes.{comma, end_word, assigns, else_word, elseif_word, elsewhen_word, if_word, for_word, while_word, when_word, loop_word, then_word, open_paren, close_paren}
use Rattle.mo_grammar.specs.Grammar.{Limits, many, seq, symbol}
use Rattle.mo_grammar.specs.Forms.{behind, before, optional}
use Rattle.mo_grammar.specs.Trees.{or_nothing}
use Rattle.mo_grammar.specs.ClassTrees.{Statement, reference_statement}
use Rattle.mo_grammar.specs.Symbols.{Symbol, ValueOf, Form, Expressions, CallArguments, Indices, References, StatementItems}
use Rattle.mo_grammar.specs.Expressions.{outputs}
use Rattle.mo_grammar.specs.Classes.{statements, statement_branch, if_st, for_st, while_st, when_st, statement_kind}
use Rattle.mo_grammar.specs.Productions.{rule}
use Rattle.mo_pieces.specs.Pieces.{Piece, a_word, a_mark, a_blank, a_line, IsToken}
use Rattle.mo_unparse.specs.Placeless.{placeless_option, placeless_options, placeless_statement, placeless_statements, placeless_statement_branch, placeless_statement_kind}
use Rattle.mo_pieces.specs.Lines.{block_of, end_of}
use Rattle.mo_pieces.specs.ShownExpressions.{spaced, in_parentheses, a_comma, output_pieces, shown_expr, pieces_of_args, pieces_of_expr, pieces_of_outputs, pieces_of_reference}
use Rattle.mo_pieces.specs.ShownEquations.{branch_of, else_of, in_statement, pieces_of_statement, pieces_of_statement_kind}
use Rattle.mo_unparse.proofs.EquationLayers as layers
use Rattle.mo_unparse.proofs.PlacelessForms as placeless_forms
use Rattle.mo_unparse.proofs.Holding.{Fact, HoldsBy, each_follows}
use Rattle.mo_unparse.proofs.Building.{IsPrinted, IsPieceOf, after_blank, after_line, by_absent, by_behind, by_between, by_left, by_made, by_nested, by_one, by_pieces, by_placed, by_present, by_right, by_rule, by_seq, by_value, by_each}
use Rattle.mo_unparse.proofs.WordPieces.{assigns_is, break_word_is, close_paren_is, comma_is, else_word_is, elseif_word_is, elsewhen_word_is, for_word_is, if_word_is, loop_word_is, open_paren_is, return_word_is, then_word_is, when_word_is, while_word_is}
use Rattle.mo_unparse.proofs.Inverting.{HoldsOption, behind_holds, ended_holds, between_holds, optional_holds, separated_holds, each_before_holds, commented_holds}
use Rattle.mo_unparse.proofs.PrintingForms.{branches_before, by_block, by_commented, by_ended, by_joined}
use Rattle.mo_unparse.proofs.PrintingParts.{ExpressionsPrinted}

-- ---- statements in pieces, by their form

at_Assign : (variable : ReferenceOf Expr) (value : Expr) → pieces_of_statement_kind (Assign variable value) ≡ pieces_of_reference variable ++ (spaced (a_mark (codes ":=")) ++ pieces_of_expr value)
at_Assign variable value = rw (fold_out-StatementKind (List Piece) in_statement (Assign variable value), outs-Assign variable value)

at_Call : (called : ReferenceOf Expr) (args : Args) → pieces_of_statement_kind (call_statement called args) ≡ pieces_of_reference called ++ pieces_of_args args
at_Call called args = rw (fold_out-StatementKind (List Piece) in_statement (call_statement called args), outs-call_statement called args)

at_Outputs : (outputs : List (Option Expr)) (called : ReferenceOf Expr) (args : Args) → pieces_of_statement_kind (Outputs outputs called args) ≡ in_parentheses (pieces_of_outputs outputs) ++ (spaced (a_mark (codes ":=")) ++ (pieces_of_reference called ++ pieces_of_args args))
at_Outputs outputs called args = rw (fold_out-StatementKind (List Piece) in_statement (Outputs outputs called args), outs-Outputs outputs called args)

at_Break : pieces_of_statement_kind Break ≡ a_word (codes "break") ∷ []
at_Break = rw (fold_out-StatementKind (List Piece) in_statement Break, outs-Break)

at_Return : pieces_of_statement_kind Return ≡ a_word (codes "return") ∷ []
at_Return = rw (fold_out-StatementKind (List Piece) in_statement Return, outs-Return)

-- a statement in its pieces, without its places
abbrev KindPrinted : Form StatementKind → Limits → StatementKind → Type 0
KindPrinted g l k = IsPrinted g l (pieces_of_statement_kind k) (placeless_statement_kind k)

-- the same by the pieces and the tree of its form
of_form : {g : Form StatementKind} {l : Limits} {ps : List Piece} {b : StatementKind} (a : StatementKind) (k : StatementKind) → a ≡ k → pieces_of_statement_kind a ≡ ps → placeless_statement_kind a ≡ b → IsPrinted g l ps b → KindPrinted g l k
of_form a k e q v p = by_pieces (sym q ∙ ap pieces_of_statement_kind e) (by_value (sym v ∙ ap placeless_statement_kind e) p)

-- ---- what stands inside the constructs

abbrev IfInside : Type 0
IfInside = (Expr × List Statement) × (List (Expr × List Statement) × Option (List Statement))

abbrev if_inside : Form IfInside
if_inside = seq statement_branch (seq (many (behind elseif_word statement_branch)) (before (before (optional (behind else_word statements)) end_word) if_word))

abbrev for_inside : Form (List (IndexOf Expr) × List Statement)
for_inside = seq (symbol Indices) (behind loop_word (before (before statements end_word) for_word))

abbrev while_inside : Form (Expr × List Statement)
while_inside = seq (symbol Expressions) (behind loop_word (before (before statements end_word) while_word))

abbrev when_inside : Form ((Expr × List Statement) × List (Expr × List Statement))
when_inside = seq statement_branch (before (before (many (behind elsewhen_word statement_branch)) end_word) when_word)

-- what is printed for statements
abbrev pub StatementPrinted : Limits → Statement → Type 0
StatementPrinted l a = IsPrinted (symbol StatementItems) l (pieces_of_statement a) (placeless_statement a)

module _ (P : Fact Symbol ValueOf) (expressions : ExpressionsPrinted P) (inside : (l : Limits) (a : Statement) → P StatementItems l a → StatementPrinted l a) where
  -- statements further in
  block_printed : (l : Limits) (list : List Statement) → HoldsBy P IsToken statements l list → IsPrinted statements l (block_of pieces_of_statement list) (placeless_statements list)
  block_printed l list h = by_block pieces_of_statement placeless_statement list (each_follows (P StatementItems l) (StatementPrinted l) (inside l) list (each_before_holds P IsToken (symbol StatementItems) _ l list h))

  -- a condition with its statements, behind its word
  branch_printed : (l : Limits) (branch : Expr × List Statement) → HoldsBy P IsToken statement_branch l branch → IsPrinted statement_branch l (a_blank ∷ pieces_of_expr branch.0 ++ (a_blank ∷ a_word (codes "then") ∷ block_of pieces_of_statement branch.1)) (placeless_statement_branch branch)
  branch_printed l branch h = after_blank (by_seq (expressions.expression l branch.0 h.0) (after_blank (by_behind then_word_is (block_printed l branch.1 (behind_holds P IsToken then_word statements l branch.1 h.1)))))

  else_printed : (l : Limits) (list : List Statement) → HoldsBy P IsToken statements l list → (o : Option (List Statement)) × (or_nothing o ≡ placeless_statements list) × IsPrinted (optional (behind else_word statements)) l (else_of pieces_of_statement list) o
  else_printed l [] h = (None, refl, by_absent)
  else_printed l (s ∷ list) h = (Some (placeless_statements (s ∷ list)), refl, by_present (after_line (by_behind else_word_is (block_printed l (s ∷ list) h))))

  or_nothing_holds : (c : ℕ) (l : Limits) (o : Option (List Statement)) → HoldsBy P IsToken (optional (behind c statements)) l o → HoldsBy P IsToken statements l (or_nothing o)
  or_nothing_holds c l o h = go o (optional_holds P IsToken (behind c statements) l o h)
    where
      go : (o : Option (List Statement)) → HoldsOption (HoldsBy P IsToken (behind c statements) l) o → HoldsBy P IsToken statements l (or_nothing o)
      go None h = tt
      go (Some list) h = behind_holds P IsToken c statements l list h

  -- further conditions, each on a line of its own
  branches_printed : (p : List ℕ) (c : ℕ) → IsPieceOf (a_word p) c → (l : Limits) (branches : List (Expr × List Statement)) → HoldsBy P IsToken (many (behind c statement_branch)) l branches → IsPrinted (many (behind c statement_branch)) l (flat_map (λ b. a_line ∷ branch_of p pieces_of_statement b) branches) (map placeless_statement_branch branches)
  branches_printed p c is l branches h =
      by_each (λ b. a_line ∷ branch_of p pieces_of_statement b) placeless_statement_branch branches
      (each_follows (HoldsBy P IsToken (behind c statement_branch) l) (λ b. IsPrinted (behind c statement_branch) l (a_line ∷ branch_of p pieces_of_statement b) (placeless_statement_branch b)) (λ b h. after_line (by_behind is (branch_printed l b (behind_holds P IsToken c statement_branch l b h)))) branches h)

  if_printed : (l : Limits) (k : StatementKind) → HoldsBy P IsToken if_st l k → KindPrinted if_st l k
  if_printed l k (inner, left, (y, h, e)) =
      let parts = behind_holds P IsToken if_word if_inside inner y h in
      let first = y.0 in
      let branches = y.1.0 in
      let others = or_nothing y.1.1 in
      let other = else_printed inner others (or_nothing_holds else_word inner y.1.1 (ended_holds P IsToken (optional (behind else_word statements)) if_word inner y.1.1 parts.1.1)) in
      let all : KindPrinted if_st l (if_statement (first ∷ branches) others) =
      of_form (if_statement (first ∷ branches) others) _ refl (layers.at_if_statement (first ∷ branches) others) (placeless_forms.at_if_statement (first ∷ branches) others)
      (by_pieces (branches_before (codes "if") (codes "elseif") pieces_of_statement first branches (else_of pieces_of_statement others ++ end_of (codes "if"))) (by_nested left (by_made (ap (if_statement (map placeless_statement_branch (first ∷ branches))) other.1) (by_behind if_word_is (by_seq (branch_printed inner first parts.0) (by_seq (branches_printed (codes "elseif") elseif_word elseif_word_is inner branches parts.1.0) (by_ended other.2 if_word_is))))))) in
      subst (KindPrinted if_st l) e all

  for_printed : (l : Limits) (k : StatementKind) → HoldsBy P IsToken for_st l k → KindPrinted for_st l k
  for_printed l k (inner, left, (y, h, e)) =
      let parts = behind_holds P IsToken for_word for_inside inner y h in
      let list = ended_holds P IsToken statements for_word inner y.1 (behind_holds P IsToken loop_word (before (before statements end_word) for_word) inner y.1 parts.1) in
      of_form (for_statement y.0 y.1) k e (layers.at_for_statement y.0 y.1) (placeless_forms.at_for_statement y.0 y.1)
      (by_nested left (by_made refl (by_behind for_word_is (after_blank (by_seq (expressions.indices inner y.0 parts.0) (after_blank (by_behind loop_word_is (by_ended (block_printed inner y.1 list) for_word_is))))))))

  while_printed : (l : Limits) (k : StatementKind) → HoldsBy P IsToken while_st l k → KindPrinted while_st l k
  while_printed l k (inner, left, (y, h, e)) =
      let parts = behind_holds P IsToken while_word while_inside inner y h in
      let list = ended_holds P IsToken statements while_word inner y.1 (behind_holds P IsToken loop_word (before (before statements end_word) while_word) inner y.1 parts.1) in
      of_form (while_statement y.0 y.1) k e (layers.at_while_statement y.0 y.1) (placeless_forms.at_while_statement y.0 y.1)
      (by_nested left (by_made refl (by_behind while_word_is (after_blank (by_seq (expressions.expression inner y.0 parts.0) (after_blank (by_behind loop_word_is (by_ended (block_printed inner y.1 list) while_word_is))))))))

  when_printed : (l : Limits) (k : StatementKind) → HoldsBy P IsToken when_st l k → KindPrinted when_st l k
  when_printed l k (inner, left, (y, h, e)) =
      let parts = behind_holds P IsToken when_word when_inside inner y h in
      let branches = ended_holds P IsToken (many (behind elsewhen_word statement_branch)) when_word inner y.1 parts.1 in
      of_form (when_statement (y.0 ∷ y.1)) k e (layers.at_when_statement (y.0 ∷ y.1)) (placeless_forms.at_when_statement (y.0 ∷ y.1))
      (by_pieces (branches_before (codes "when") (codes "elsewhen") pieces_of_statement y.0 y.1 (end_of (codes "when"))) (by_nested left (by_made refl (by_behind when_word_is (by_seq (branch_printed inner y.0 parts.0) (by_ended (branches_printed (codes "elsewhen") elsewhen_word elsewhen_word_is inner y.1 branches) when_word_is))))))

  output_printed : (l : Limits) (o : Option Expr) → HoldsBy P IsToken (optional (symbol Expressions)) l o → IsPrinted (optional (symbol Expressions)) l (output_pieces shown_expr o) (placeless_option o)
  output_printed l o h = go o (optional_holds P IsToken (symbol Expressions) l o h)
    where
      go : (o : Option Expr) → HoldsOption (P Expressions l) o → IsPrinted (optional (symbol Expressions)) l (output_pieces shown_expr o) (placeless_option o)
      go None h = by_absent
      go (Some a) h = by_present (expressions.expression l a h)

  outputs_printed : (l : Limits) (list : List (Option Expr)) → HoldsBy P IsToken outputs l list → IsPrinted outputs l (pieces_of_outputs list) (placeless_options list)
  outputs_printed l list h =
      let parts = separated_holds P IsToken comma (optional (symbol Expressions)) l list h in
      subst (λ v. IsPrinted outputs l (pieces_of_outputs v) (placeless_options v)) parts.2
      (by_joined a_comma (output_pieces shown_expr) placeless_option (λ o p. by_behind comma_is (after_blank p)) parts.0 parts.1 (output_printed l parts.0 parts.3)
      (each_follows (HoldsBy P IsToken (optional (symbol Expressions)) l) (λ o. IsPrinted (optional (symbol Expressions)) l (output_pieces shown_expr o) (placeless_option o)) (output_printed l) parts.1 parts.4))

  kind_printed : (l : Limits) (k : StatementKind) → HoldsBy P IsToken statement_kind l k → KindPrinted statement_kind l k
  kind_printed l k (inl (t, h, e)) = of_form Break k e at_Break placeless_forms.at_Break (by_left (by_made refl (by_one break_word_is)))
  kind_printed l k (inr (inl (t, h, e))) = of_form Return k e at_Return placeless_forms.at_Return (by_right (by_left (by_made refl (by_one return_word_is))))
  kind_printed l k (inr (inr (inl h))) = by_right (by_right (by_left (if_printed l k h)))
  kind_printed l k (inr (inr (inr (inl h)))) = by_right (by_right (by_right (by_left (for_printed l k h))))
  kind_printed l k (inr (inr (inr (inr (inl h))))) = by_right (by_right (by_right (by_right (by_left (while_printed l k h)))))
  kind_printed l k (inr (inr (inr (inr (inr (inl h)))))) = by_right (by_right (by_right (by_right (by_right (by_left (when_printed l k h))))))
  kind_printed l k (inr (inr (inr (inr (inr (inr (inl (y, h, e)))))))) =
      let listed = between_holds P IsToken open_paren close_paren outputs l y.0 h.0 in
      let call = behind_holds P IsToken assigns (seq (symbol References) (symbol CallArguments)) l y.1 h.1 in
      of_form (Outputs y.0 y.1.0 y.1.1) k e (at_Outputs y.0 y.1.0 y.1.1) (placeless_forms.at_Outputs y.0 y.1.0 y.1.1)
      (by_right (by_right (by_right (by_right (by_right (by_right (by_left (by_made refl
      (by_seq (by_between listed.1 open_paren_is close_paren_is (outputs_printed listed.0 y.0 listed.2)) (after_blank (by_behind assigns_is (after_blank (by_seq (expressions.reference l y.1.0 call.0) (expressions.arguments l y.1.1 call.1))))))))))))))
  kind_printed l k (inr (inr (inr (inr (inr (inr (inr (y, (hr, inl (value, hv, ev)), e)))))))) =
      of_form (Assign y.0 value) k (ap (λ b. reference_statement (y.0, b)) ev ∙ e) (at_Assign y.0 value) (placeless_forms.at_Assign y.0 value)
      (by_right (by_right (by_right (by_right (by_right (by_right (by_right (by_made refl
      (by_seq (expressions.reference l y.0 hr) (by_left (by_made refl (after_blank (by_behind assigns_is (after_blank (expressions.expression l value (behind_holds P IsToken assigns (symbol Expressions) l value hv))))))))))))))))
  kind_printed l k (inr (inr (inr (inr (inr (inr (inr (y, (hr, inr (args, ha, ea)), e)))))))) =
      of_form (call_statement y.0 args) k (ap (λ b. reference_statement (y.0, b)) ea ∙ e) (at_Call y.0 args) (placeless_forms.at_call_statement y.0 args)
      (by_right (by_right (by_right (by_right (by_right (by_right (by_right (by_made refl (by_seq (expressions.reference l y.0 hr) (by_right (by_made refl (expressions.arguments l args ha))))))))))))

  pub statement_step : (l : Limits) (a : Statement) → HoldsBy P IsToken (rule StatementItems) l a → StatementPrinted l a
  unfolding rule
  statement_step l a (y, h, e) = subst (StatementPrinted l) e (by_rule StatementItems (by_made refl (by_placed refl (by_commented (kind_printed l y.1 (commented_holds P IsToken statement_kind l y.1 h))))))
