-- A list of equations with what ends it, as it is printed and as it is read.
use Rattle.std.proofs.Common.{ℕ, zero, suc, List, [], ◌∷◌, ◌++◌, inl, inr, refl, sym, ap, subst, ◌∙◌, append_assoc}
use Rattle.mo_grammar.specs.Lexeme.{Lexeme}
use Rattle.mo_grammar.specs.Codes.{semicolon, end_word, for_word, if_word}
use Rattle.mo_grammar.specs.Grammar.{Limits, token, seq, symbol, SpelledBy, SpelledEach, SpelledIn}
use Rattle.mo_grammar.specs.Forms.{before}
use Rattle.mo_grammar.specs.ClassTrees.{Equation}
use Rattle.mo_grammar.specs.Symbols.{Form, EquationItems, ForEquations, ElseEquations}
use Rattle.mo_grammar.specs.Classes.{printed_equations}
use Rattle.mo_grammar.specs.Productions.{rule}
use Rattle.mo_grammar.specs.Language.{Spells, SpelledByForm}
use Rattle.mo_grammar.proofs.Extending.{two_heights}

abbrev item : Form Equation
item = before (symbol EquationItems) semicolon

-- an item in front of a list and its end
item_first : {A : Type 0} (closing : Form A) (l : Limits) (front rest : List Lexeme) (a : Equation) (list : List Equation) (h h' : ℕ) → SpelledBy (SpelledIn rule h) item l front a → SpelledBy (SpelledIn rule h') (printed_equations closing) l rest list → SpelledByForm (printed_equations closing) l (front ++ rest) (a ∷ list)
item_first closing l front rest a list h h' s s' =
    let t = two_heights rule l l item (printed_equations closing) front rest a list h h' s s' in
    let p = t.2 in
    let x = p.1 in
    (t.0, ((a ∷ p.0.0, p.0.1), (front ++ x.0, x.1, ap (λ v. front ++ v) x.2 ∙ sym (append_assoc front x.0 x.1), (front, x.0, refl, t.1, x.3), x.4), ap (λ v. a ∷ v) p.2))

abbrev for_end : Form (Lexeme × Lexeme)
for_end = seq (token (end_word ∷ [])) (token (for_word ∷ []))

abbrev if_end : Form (Lexeme × Lexeme)
if_end = seq (token (end_word ∷ [])) (token (if_word ∷ []))

for_printed : (n : ℕ) (l : Limits) (w : List Lexeme) (list : List Equation) → SpelledIn rule n ForEquations l w list → SpelledByForm (printed_equations for_end) l w list
unfolding rule
for_printed zero l w list s = absurd s
for_printed (suc n) l w list (inl (x, s, e)) = (n, (([], x), ([], w, refl, refl, s), e))
for_printed (suc n) l w list (inr ((a, more), (front, rest, cut, s, later), e)) =
    let others = for_printed n l rest more later in
    let t = item_first for_end l front rest a more n others.0 s others.1 in
    (t.0, subst (λ v. SpelledBy (SpelledIn rule t.0) (printed_equations for_end) l v list) (sym cut) (subst (SpelledBy (SpelledIn rule t.0) (printed_equations for_end) l (front ++ rest)) e t.1))

for_read : (n : ℕ) (l : Limits) (list : List Equation) (w v : List Lexeme) (x : Lexeme × Lexeme) → SpelledEach (SpelledBy (SpelledIn rule n) item l) w list → SpelledBy (SpelledIn rule n) for_end l v x → Spells ForEquations l (w ++ v) list
unfolding rule
for_read n l [] w v x none s = (suc n, inl (x, subst (λ u. SpelledBy (SpelledIn rule n) for_end l (u ++ v) x) (sym none) s, refl))
for_read n l (a ∷ list) w v x (front, rest, cut, here, others) s =
    let more = for_read n l list rest v x others s in
    let t = two_heights rule l l item (symbol ForEquations) front (rest ++ v) a list n more.0 here more.1 in
    (suc t.0, inr ((a, list), (front, rest ++ v, ap (λ u. u ++ v) cut ∙ append_assoc front rest v, t.1, t.2), refl))

pub else_printed : (n : ℕ) (l : Limits) (w : List Lexeme) (list : List Equation) → SpelledIn rule n ElseEquations l w list → SpelledByForm (printed_equations if_end) l w list
unfolding rule
else_printed zero l w list s = absurd s
else_printed (suc n) l w list (inl (x, s, e)) = (n, (([], x), ([], w, refl, refl, s), e))
else_printed (suc n) l w list (inr ((a, more), (front, rest, cut, s, later), e)) =
    let others = else_printed n l rest more later in
    let t = item_first if_end l front rest a more n others.0 s others.1 in
    (t.0, subst (λ v. SpelledBy (SpelledIn rule t.0) (printed_equations if_end) l v list) (sym cut) (subst (SpelledBy (SpelledIn rule t.0) (printed_equations if_end) l (front ++ rest)) e t.1))

pub else_read : (n : ℕ) (l : Limits) (list : List Equation) (w v : List Lexeme) (x : Lexeme × Lexeme) → SpelledEach (SpelledBy (SpelledIn rule n) item l) w list → SpelledBy (SpelledIn rule n) if_end l v x → Spells ElseEquations l (w ++ v) list
unfolding rule
else_read n l [] w v x none s = (suc n, inl (x, subst (λ u. SpelledBy (SpelledIn rule n) if_end l (u ++ v) x) (sym none) s, refl))
else_read n l (a ∷ list) w v x (front, rest, cut, here, others) s =
    let more = else_read n l list rest v x others s in
    let t = two_heights rule l l item (symbol ElseEquations) front (rest ++ v) a list n more.0 here more.1 in
    (suc t.0, inr ((a, list), (front, rest ++ v, ap (λ u. u ++ v) cut ∙ append_assoc front rest v, t.1, t.2), refl))

pub for_lists_agree : (l : Limits) (w : List Lexeme) (list : List Equation) → (Spells ForEquations l w list → SpelledByForm (printed_equations for_end) l w list) × (SpelledByForm (printed_equations for_end) l w list → Spells ForEquations l w list)
for_lists_agree l w list = (
  λ s. for_printed s.0 l w list s.1,
  λ s. let p = s.1 in let x = p.1 in subst (Spells ForEquations l w) p.2 (subst (λ v. Spells ForEquations l v p.0.0) (sym x.2) (for_read s.0 l p.0.0 x.0 x.1 p.0.1 x.3 x.4)),
)

pub else_lists_agree : (l : Limits) (w : List Lexeme) (list : List Equation) → (Spells ElseEquations l w list → SpelledByForm (printed_equations if_end) l w list) × (SpelledByForm (printed_equations if_end) l w list → Spells ElseEquations l w list)
else_lists_agree l w list = (
  λ s. else_printed s.0 l w list s.1,
  λ s. let p = s.1 in let x = p.1 in subst (Spells ElseEquations l w) p.2 (subst (λ v. Spells ElseEquations l v p.0.0) (sym x.2) (else_read s.0 l p.0.0 x.0 x.1 p.0.1 x.3 x.4)),
)
