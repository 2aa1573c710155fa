-- The equations of an if-equation with its branches, as they are printed and as they are read.
use Rattle.std.proofs.Common.{◌≡◌, ℕ, zero, suc, List, [], ◌∷◌, ◌++◌, inl, inr, Some, None, refl, sym, ap, subst, ◌∙◌, append_assoc}
use Rattle.mo_syntax.specs.declared.expr.Expr.{Expr}
use Rattle.mo_grammar.specs.Lexeme.{Lexeme}
use Rattle.mo_grammar.specs.Codes.{semicolon, end_word, if_word, elseif_word, then_word}
use Rattle.mo_grammar.specs.Grammar.{Limits, token, seq, symbol, SpelledBy, SpelledEach, SpelledIn}
use Rattle.mo_grammar.specs.Forms.{before}
use Rattle.mo_grammar.specs.ClassTrees.{Equation, BranchedElse, branch_before_else, branched_else_more}
use Rattle.mo_grammar.specs.Symbols.{Form, Expressions, EquationItems, IfEquations}
use Rattle.mo_grammar.specs.Classes.{printed_branch, printed_else, printed_branched_else}
use Rattle.mo_grammar.specs.Productions.{rule}
use Rattle.mo_grammar.specs.Language.{Spells, SpelledByForm}
use Rattle.mo_grammar.proofs.Extending.{two_heights}
use Rattle.mo_grammar.proofs.EquationListForms.{else_printed, else_read}

abbrev item : Form Equation
item = before (symbol EquationItems) semicolon

-- an equation in front
equation_first : (l : Limits) (front rest : List Lexeme) (a : Equation) (x : BranchedElse) (h h' : ℕ) → SpelledBy (SpelledIn rule h) item l front a → SpelledBy (SpelledIn rule h') printed_branched_else l rest x → SpelledByForm printed_branched_else l (front ++ rest) (branched_else_more (a, x))
equation_first l front rest a x h h' s s' =
    let t = two_heights rule l l item printed_branched_else front rest a x h h' s s' in
    let p = t.2 in
    (t.0, (front ++ p.0, p.1, ap (λ v. front ++ v) p.2 ∙ sym (append_assoc front p.0 p.1), (front, p.0, refl, t.1, p.3), p.4))

-- a branch in front: its equations are the list that stood first
branch_first : (l : Limits) (fc fe ft rest : List Lexeme) (t u : Lexeme) (condition : Expr) (x : BranchedElse) (h h' : ℕ) → SpelledBy (SpelledIn rule h) (token (elseif_word ∷ [])) l fc t → SpelledIn rule h Expressions l fe condition → SpelledBy (SpelledIn rule h) (token (then_word ∷ [])) l ft u → SpelledBy (SpelledIn rule h') printed_branched_else l rest x → SpelledByForm printed_branched_else l (fc ++ (fe ++ (ft ++ rest))) (branch_before_else (condition, x))
branch_first l fc fe ft rest t u condition x h h' st se su s' =
    let q = two_heights rule l l (symbol Expressions) printed_branched_else fe rest condition x h h' se s' in
    let p = q.2 in
    let y = p.4 in
    let branch : SpelledBy (SpelledIn rule q.0) (printed_branch elseif_word) l (fc ++ (fe ++ (ft ++ p.0))) (condition, x.0) =
    ((t, (condition, x.0)), (fc, fe ++ (ft ++ p.0), refl, st, (fe, ft ++ p.0, refl, q.1, ((u, x.0), (ft, p.0, refl, su, p.3), refl))), refl) in (
      q.0,
      (
        [],
        fc ++ (fe ++ (ft ++ rest)),
        refl,
        refl,
        ((fc ++ (fe ++ (ft ++ p.0))) ++ y.0, y.1, regroup fc fe ft p.0 y.0 y.1 rest (p.2 ∙ ap (λ v. p.0 ++ v) y.2), (fc ++ (fe ++ (ft ++ p.0)), y.0, refl, branch, y.3), y.4),
      ),
    )
  where
    regroup : (a b c d e f g : List Lexeme) → g ≡ d ++ (e ++ f) → a ++ (b ++ (c ++ g)) ≡ ((a ++ (b ++ (c ++ d))) ++ e) ++ f
    regroup a b c d e f g k = simp (append_assoc, k)

if_printed : (n : ℕ) (l : Limits) (w : List Lexeme) (x : BranchedElse) → SpelledIn rule n IfEquations l w x → SpelledByForm printed_branched_else l w x
unfolding rule
if_printed zero l w x s = absurd s
if_printed (suc n) l w x (inl (y, s, e)) =
    (n, subst (SpelledBy (SpelledIn rule n) printed_branched_else l w) e ([], w, refl, refl, ([], w, refl, refl, (([], y), ([], w, refl, (None, inr (refl, refl), refl), s), refl))))
if_printed (suc n) l w x (inr (inl ((condition, y), ((t, z), (fc, r1, c1, st, (fe, r2, c2, se, ((u, m), (ft, r3, c3, su, sm), e3))), e1), e))) =
    let ih = if_printed n l r3 m sm in
    let p = branch_first l fc fe ft r3 t u z.0 m n ih.0 st se su ih.1 in (
      p.0,
      subst (λ v. SpelledBy (SpelledIn rule p.0) printed_branched_else l v x) (sym (c1 ∙ ap (λ v. fc ++ v) (c2 ∙ ap (λ v. fe ++ v) c3)))
          (subst (SpelledBy (SpelledIn rule p.0) printed_branched_else l (fc ++ (fe ++ (ft ++ r3)))) (ap (λ v. branch_before_else (z.0, v)) e3 ∙ ap branch_before_else e1 ∙ e) p.1),
    )
if_printed (suc n) l w x (inr (inr (inl (list, ((t, z), (fc, r, cut, st, sz), e1), e)))) =
    let q = else_printed n l r z sz in
    let b = q.1 in
    let y = b.1 in (
      q.0,
      subst (SpelledBy (SpelledIn rule q.0) printed_branched_else l w) (ap (λ v. let out : BranchedElse = ([], ([], v)) in out) (b.2 ∙ e1) ∙ e) (
        [],
        w,
        refl,
        refl,
        (
          [],
          w,
          refl,
          refl,
          ((b.0.0, b.0.1), (fc ++ y.0, y.1, cut ∙ ap (λ v. fc ++ v) y.2 ∙ sym (append_assoc fc y.0 y.1), (Some b.0.0, inl (b.0.0, ((t, b.0.0), (fc, y.0, refl, st, y.3), refl), refl), refl), y.4), refl),
        ),
      ),
    )
if_printed (suc n) l w x (inr (inr (inr ((a, y), (front, rest, cut, s, later), e)))) =
    let ih = if_printed n l rest y later in
    let p = equation_first l front rest a y n ih.0 s ih.1 in
    (p.0, subst (λ v. SpelledBy (SpelledIn rule p.0) printed_branched_else l v x) (sym cut) (subst (SpelledBy (SpelledIn rule p.0) printed_branched_else l (front ++ rest)) e p.1))

equations_read : (n : ℕ) (l : Limits) (items : List Equation) (w rest : List Lexeme) (x : List (Expr × List Equation) × List Equation) → SpelledEach (SpelledBy (SpelledIn rule n) item l) w items → Spells IfEquations l rest ([], x) → Spells IfEquations l (w ++ rest) (items, x)
unfolding rule
equations_read n l [] w rest x none s = subst (λ v. Spells IfEquations l (v ++ rest) ([], x)) (sym none) s
equations_read n l (a ∷ items) w rest x (front, more, cut, here, others) s =
    let ih = equations_read n l items more rest x others s in
    let p = two_heights rule l l item (symbol IfEquations) front (more ++ rest) a (items, x) n ih.0 here ih.1 in
    (suc p.0, inr (inr (inr ((a, (items, x)), (front, more ++ rest, ap (λ v. v ++ rest) cut ∙ append_assoc front more rest, p.1, p.2), refl))))

branches_read : (n : ℕ) (l : Limits) (branches : List (Expr × List Equation)) (w v : List Lexeme) (list : List Equation) → SpelledEach (SpelledBy (SpelledIn rule n) (printed_branch elseif_word) l) w branches → Spells IfEquations l v ([], ([], list)) → Spells IfEquations l (w ++ v) ([], (branches, list))
unfolding rule
branches_read n l [] w v list none s = subst (λ u. Spells IfEquations l (u ++ v) ([], ([], list))) (sym none) s
branches_read n l (b ∷ branches) w v list (f, r, cut, ((t, z), (fc, r1, c1, st, (fe, r2, c2, se, ((u, items), (ft, r3, c3, su, si), e3))), e1), others) s =
    let ih = equations_read n l items r3 (r ++ v) (branches, list) si (branches_read n l branches r v list others s) in
    let p = two_heights rule l l (symbol Expressions) (symbol IfEquations) fe (r3 ++ (r ++ v)) z.0 (items, (branches, list)) n ih.0 se ih.1 in (
      suc p.0,
      inr (inl (
        (z.0, (items, (branches, list))),
        ((t, (z.0, (items, (branches, list)))), (fc, fe ++ (ft ++ (r3 ++ (r ++ v))), regroup w v f r fc r1 fe r2 ft r3 cut c1 c2 c3, st, (fe, ft ++ (r3 ++ (r ++ v)), refl, p.1, ((u, (items, (branches, list))), (ft, r3 ++ (r ++ v), refl, su, p.2), refl))), refl),
        ap (λ y. let out : BranchedElse = ([], (y ∷ branches, list)) in out) (ap (λ y. let pair : Expr × List Equation = (z.0, y) in pair) e3 ∙ e1),
      )),
    )
  where
    regroup : (w v f r fc r1 fe r2 ft r3 : List Lexeme) → w ≡ f ++ r → f ≡ fc ++ r1 → r1 ≡ fe ++ r2 → r2 ≡ ft ++ r3 → w ++ v ≡ fc ++ (fe ++ (ft ++ (r3 ++ (r ++ v))))
    regroup w v f r fc r1 fe r2 ft r3 a b c d = simp (a, b, c, d, append_assoc)

else_end_read : (n : ℕ) (l : Limits) (w : List Lexeme) (list : List Equation) → SpelledBy (SpelledIn rule n) printed_else l w list → Spells IfEquations l w ([], ([], list))
unfolding rule
else_end_read n l w list ((items, y), (f, r, cut, (None, inr none, e1), s), e) =
    (suc n, inl (y, subst (λ v. SpelledBy (SpelledIn rule n) (seq (token (end_word ∷ [])) (token (if_word ∷ []))) l v y) (sym (cut ∙ ap (λ v. v ++ r) none.0)) s, ap (λ v. let out : BranchedElse = ([], ([], v)) in out) (e1 ∙ e)))
else_end_read n l w list ((items, y), (f, r, cut, (None, inl some, e1), s), e) = let clash = some.2 in cc
else_end_read n l w list ((items, y), (f, r, cut, (Some o, inr none, e1), s), e) = let clash = none.1 in cc
else_end_read n l w list ((items, y), (f, r, cut, (Some o, inl (v, ((t, z), (fc, fi, cut2, st, si), e3), e2), e1), s), e) =
    let q = else_read n l z fi r y si s in
    let same : z ≡ list = e3 ∙ (let h : v ≡ o = cc in h) ∙ e1 ∙ e in
    (suc q.0, inr (inr (inl (z, ((t, z), (fc, fi ++ r, cut ∙ ap (λ v. v ++ r) cut2 ∙ append_assoc fc fi r, st, q.1), refl), ap (λ v. let out : BranchedElse = ([], ([], v)) in out) same))))

if_read : (n : ℕ) (l : Limits) (w : List Lexeme) (x : BranchedElse) → SpelledBy (SpelledIn rule n) printed_branched_else l w x → Spells IfEquations l w x
if_read n l w x (f, r, cut, si, (f2, r2, cut2, sb, sc)) =
    subst (λ v. Spells IfEquations l v x) (sym (cut ∙ ap (λ v. f ++ v) cut2)) (equations_read n l x.0 f (f2 ++ r2) x.1 si (branches_read n l x.1.0 f2 r2 x.1.1 sb (else_end_read n l r2 x.1.1 sc)))

pub if_lists_agree : (l : Limits) (w : List Lexeme) (x : BranchedElse) → (Spells IfEquations l w x → SpelledByForm printed_branched_else l w x) × (SpelledByForm printed_branched_else l w x → Spells IfEquations l w x)
if_lists_agree l w x = (λ s. if_printed s.0 l w x s.1, λ s. if_read s.0 l w x s.1)
