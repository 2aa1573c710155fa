-- Lists of equations with branches behind them, as they are printed and as they are read.
use Rattle.std.proofs.Common.{◌≡◌, ℕ, zero, suc, List, [], ◌∷◌, ◌++◌, inl, inr, refl, sym, ap, subst, ◌∙◌, append_assoc}
use Rattle.mo_syntax.specs.declared.expr.Expr.{Expr}
use Rattle.mo_grammar.specs.Lexeme.{Lexeme}
use Rattle.mo_grammar.specs.Codes.{semicolon, end_word, when_word, elsewhen_word, then_word}
use Rattle.mo_grammar.specs.Grammar.{Limits, token, seq, symbol, SpelledBy, SpelledEach, SpelledIn}
use Rattle.mo_grammar.specs.Forms.{before}
use Rattle.mo_grammar.specs.ClassTrees.{Equation, Branched, branch_before, branched_more}
use Rattle.mo_grammar.specs.Symbols.{Form, Expressions, EquationItems, WhenEquations}
use Rattle.mo_grammar.specs.Classes.{printed_branch, printed_branched}
use Rattle.mo_grammar.specs.Productions.{rule}
use Rattle.mo_grammar.specs.Language.{Spells, SpelledByForm}
use Rattle.mo_grammar.proofs.Extending.{two_heights}

abbrev item : Form Equation
item = before (symbol EquationItems) semicolon

-- an equation in front
equation_first : {A : Type 0} (closing : Form A) (c : ℕ) (l : Limits) (front rest : List Lexeme) (a : Equation) (x : Branched) (h h' : ℕ) → SpelledBy (SpelledIn rule h) item l front a → SpelledBy (SpelledIn rule h') (printed_branched c closing) l rest x → SpelledByForm (printed_branched c closing) l (front ++ rest) (branched_more (a, x))
equation_first closing c l front rest a x h h' s s' =
    let t = two_heights rule l l item (printed_branched c closing) front rest a x h h' s s' in
    let p = t.2 in
    (t.0, (front ++ p.0, p.1, ap (λ v. front ++ v) p.2 ∙ sym (append_assoc front p.0 p.1), (front, p.0, refl, t.1, p.3), p.4))

-- a branch in front: its equations are the list that stood first
branch_first : {A : Type 0} (closing : Form A) (c : ℕ) (l : Limits) (fc fe ft : List Lexeme) (rest : List Lexeme) (t u : Lexeme) (condition : Expr) (x : Branched) (h h' : ℕ) → SpelledBy (SpelledIn rule h) (token (c ∷ [])) l fc t → SpelledIn rule h Expressions l fe condition → SpelledBy (SpelledIn rule h) (token (then_word ∷ [])) l ft u → SpelledBy (SpelledIn rule h') (printed_branched c closing) l rest x → SpelledByForm (printed_branched c closing) l (fc ++ (fe ++ (ft ++ rest))) (branch_before (condition, x))
branch_first closing c l fc fe ft rest t u condition x h h' st se su s' =
    let q = two_heights rule l l (symbol Expressions) (printed_branched c closing) fe rest condition x h h' se s' in
    let p = q.2 in
    let b = p.4 in
    let y = b.1 in
    let items = p.3 in
    let branch : SpelledBy (SpelledIn rule q.0) (printed_branch c) l (fc ++ (fe ++ (ft ++ p.0))) (condition, x.0) =
    ((t, (condition, x.0)), (fc, fe ++ (ft ++ p.0), refl, st, (fe, ft ++ p.0, refl, q.1, ((u, x.0), (ft, p.0, refl, su, items), refl))), refl) in (
      q.0,
      (
        [],
        fc ++ (fe ++ (ft ++ rest)),
        refl,
        refl,
        (
          ((condition, x.0) ∷ b.0.0, b.0.1),
          (
            (fc ++ (fe ++ (ft ++ p.0))) ++ y.0,
            y.1,
            regroup fc fe ft p.0 y.0 y.1 rest (p.2 ∙ ap (λ v. p.0 ++ v) y.2),
            (fc ++ (fe ++ (ft ++ p.0)), y.0, refl, branch, y.3),
            y.4,
          ),
          ap (λ v. (condition, x.0) ∷ v) b.2,
        ),
      ),
    )
  where
    regroup : (a b c d e f g : List Lexeme) → g ≡ d ++ (e ++ f) → a ++ (b ++ (c ++ g)) ≡ ((a ++ (b ++ (c ++ d))) ++ e) ++ f
    regroup a b c d e f g k = simp (append_assoc, k)

abbrev when_end : Form (Lexeme × Lexeme)
when_end = seq (token (end_word ∷ [])) (token (when_word ∷ []))

when_printed : (n : ℕ) (l : Limits) (w : List Lexeme) (x : Branched) → SpelledIn rule n WhenEquations l w x → SpelledByForm (printed_branched elsewhen_word when_end) l w x
unfolding rule
when_printed zero l w x s = absurd s
when_printed (suc n) l w x (inl (y, s, e)) = (n, subst (SpelledBy (SpelledIn rule n) (printed_branched elsewhen_word when_end) l w) e ([], w, refl, refl, (([], y), ([], w, refl, refl, s), refl)))
when_printed (suc n) l w x (inr (inl ((condition, y), ((t, z), (fc, r1, c1, st, (fe, r2, c2, se, ((u, m), (ft, r3, c3, su, sm), e3))), e1), e))) =
    let ih = when_printed n l r3 m sm in
    let p = branch_first when_end elsewhen_word l fc fe ft r3 t u z.0 m n ih.0 st se su ih.1 in (
      p.0,
      subst (λ v. SpelledBy (SpelledIn rule p.0) (printed_branched elsewhen_word when_end) l v x) (sym (c1 ∙ ap (λ v. fc ++ v) (c2 ∙ ap (λ v. fe ++ v) c3)))
          (subst (SpelledBy (SpelledIn rule p.0) (printed_branched elsewhen_word when_end) l (fc ++ (fe ++ (ft ++ r3)))) (ap (λ v. branch_before (z.0, v)) e3 ∙ ap branch_before e1 ∙ e) p.1),
    )
when_printed (suc n) l w x (inr (inr ((a, y), (front, rest, cut, s, later), e))) =
    let ih = when_printed n l rest y later in
    let p = equation_first when_end elsewhen_word l front rest a y n ih.0 s ih.1 in
    (p.0, subst (λ v. SpelledBy (SpelledIn rule p.0) (printed_branched elsewhen_word when_end) l v x) (sym cut) (subst (SpelledBy (SpelledIn rule p.0) (printed_branched elsewhen_word when_end) l (front ++ rest)) e p.1))

equations_read : (n : ℕ) (l : Limits) (items : List Equation) (w rest : List Lexeme) (branches : List (Expr × List Equation)) → SpelledEach (SpelledBy (SpelledIn rule n) item l) w items → Spells WhenEquations l rest ([], branches) → Spells WhenEquations l (w ++ rest) (items, branches)
unfolding rule
equations_read n l [] w rest branches none s = subst (λ v. Spells WhenEquations l (v ++ rest) ([], branches)) (sym none) s
equations_read n l (a ∷ items) w rest branches (front, more, cut, here, others) s =
    let ih = equations_read n l items more rest branches others s in
    let p = two_heights rule l l item (symbol WhenEquations) front (more ++ rest) a (items, branches) n ih.0 here ih.1 in
    (suc p.0, inr (inr ((a, (items, branches)), (front, more ++ rest, ap (λ v. v ++ rest) cut ∙ append_assoc front more rest, p.1, p.2), refl)))

branches_read : (n : ℕ) (l : Limits) (branches : List (Expr × List Equation)) (w v : List Lexeme) (x : Lexeme × Lexeme) → SpelledEach (SpelledBy (SpelledIn rule n) (printed_branch elsewhen_word) l) w branches → SpelledBy (SpelledIn rule n) when_end l v x → Spells WhenEquations l (w ++ v) ([], branches)
unfolding rule
branches_read n l [] w v x none s = (suc n, inl (x, subst (λ u. SpelledBy (SpelledIn rule n) when_end l (u ++ v) x) (sym none) s, refl))
branches_read n l (b ∷ branches) w v x (f, r, cut, ((t, z), (fc, r1, c1, st, (fe, r2, c2, se, ((u, items), (ft, r3, c3, su, si), e3))), e1), others) s =
    let ih = equations_read n l items r3 (r ++ v) branches si (branches_read n l branches r v x others s) in
    let p = two_heights rule l l (symbol Expressions) (symbol WhenEquations) fe (r3 ++ (r ++ v)) z.0 (items, branches) n ih.0 se ih.1 in (
      suc p.0,
      inr (inl (
        (z.0, (items, branches)),
        ((t, (z.0, (items, branches))), (fc, fe ++ (ft ++ (r3 ++ (r ++ v))), regroup w v f r fc r1 fe r2 ft r3 cut c1 c2 c3, st, (fe, ft ++ (r3 ++ (r ++ v)), refl, p.1, ((u, (items, branches)), (ft, r3 ++ (r ++ v), refl, su, p.2), refl))), refl),
        ap (λ y. let out : Branched = ([], y ∷ branches) in out) (ap (λ y. let pair : Expr × List Equation = (z.0, y) in pair) e3 ∙ e1),
      )),
    )
  where
    regroup : (w v f r fc r1 fe r2 ft r3 : List Lexeme) → w ≡ f ++ r → f ≡ fc ++ r1 → r1 ≡ fe ++ r2 → r2 ≡ ft ++ r3 → w ++ v ≡ fc ++ (fe ++ (ft ++ (r3 ++ (r ++ v))))
    regroup w v f r fc r1 fe r2 ft r3 a b c d = simp (a, b, c, d, append_assoc)

when_read : (n : ℕ) (l : Limits) (w : List Lexeme) (x : Branched) → SpelledBy (SpelledIn rule n) (printed_branched elsewhen_word when_end) l w x → Spells WhenEquations l w x
when_read n l w x (f, r, cut, si, ((branches, y), (f2, r2, cut2, sb, sc), e)) =
    let s = branches_read n l branches f2 r2 y sb sc in
    subst (λ v. Spells WhenEquations l v x) (sym (cut ∙ ap (λ v. f ++ v) cut2)) (subst (λ b. Spells WhenEquations l (f ++ (f2 ++ r2)) (x.0, b)) e (equations_read n l x.0 f (f2 ++ r2) branches si s))

pub when_lists_agree : (l : Limits) (w : List Lexeme) (x : Branched) → (Spells WhenEquations l w x → SpelledByForm (printed_branched elsewhen_word when_end) l w x) × (SpelledByForm (printed_branched elsewhen_word when_end) l w x → Spells WhenEquations l w x)
when_lists_agree l w x = (λ s. when_printed s.0 l w x s.1, λ s. when_read s.0 l w x s.1)
