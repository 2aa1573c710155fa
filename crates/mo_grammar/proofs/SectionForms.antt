-- The sections of a class, as they are printed and as they are read.
use Rattle.std.proofs.Common.{◌≡◌, ℕ, zero, suc, Bool, true, false, List, [], ◌∷◌, ◌++◌, inl, inr, Option, Some, None, is_some, refl, sym, ap, subst, ◌∙◌, append_assoc}
use Rattle.mo_syntax.specs.declared.class.Item.{Item}
use Rattle.mo_syntax.specs.declared.class.Item.TheVariants.{Equations, Algorithm}
use Rattle.mo_grammar.specs.Lexeme.{Lexeme}
use Rattle.mo_grammar.specs.Codes.{string, semicolon, end_word, initial_word}
use Rattle.mo_grammar.specs.Grammar.{Limits, token, seq, either, symbol, end_name, SpelledBy, SpelledEach, SpelledIn}
use Rattle.mo_grammar.specs.Forms.{behind, before, flag, optional}
use Rattle.mo_grammar.specs.ClassTrees.{Equation, Inside, items_before, external_clause, equations_section, algorithm_section, one_more_equation}
use Rattle.mo_grammar.specs.Symbols.{Form, EquationItems, Compositions, Sections, SectionEquations}
use Rattle.mo_grammar.specs.Classes.{annotation_part, elements, statements, class_end, annotated_end, external_call, external_end, section, initial_section, other_section, sections, section_equations}
use Rattle.mo_grammar.specs.Printed.{items_of_sections, equations_items, algorithm_items, printed_external_call, printed_section, printed_external, printed_class_end, printed_sections, printed_section_equations, printed_composition}
use Rattle.mo_grammar.specs.Productions.{rule}
use Rattle.mo_grammar.specs.Language.{Spells, SpelledByForm}
use Rattle.mo_grammar.proofs.Extending.{two_heights}
use Rattle.mo_grammar.proofs.FactorForms.{external_out, external_in}

abbrev item : Form Equation
item = before (symbol EquationItems) semicolon

-- ---- the end of a class

abbrev plain_end : Form (Option (Unit {0}) × Lexeme)
plain_end = seq (optional (before annotation_part semicolon)) (behind end_word end_name)

-- behind the word `external`
abbrev external_read : Form (Option Lexeme × (Option (Unit {0}) × Option (Unit {0})))
external_read = seq (optional (token (string ∷ []))) (seq (optional external_call) (optional annotation_part))

abbrev external_printed : Form (Option Lexeme × (Option (Unit {0}) × Option (Unit {0})))
external_printed = seq (optional (token (string ∷ []))) (seq (optional printed_external_call) (optional annotation_part))

clause_out : (n : ℕ) (l : Limits) (w : List Lexeme) (a : Option Lexeme × (Option (Unit {0}) × Option (Unit {0}))) → SpelledBy (SpelledIn rule n) external_read l w a → SpelledBy (SpelledIn rule n) external_printed l w a
clause_out n l w a (f, r, cut, s, (f2, r2, cut2, inl (x, call, e), s3)) = (f, r, cut, s, (f2, r2, cut2, inl (x, external_out n l f2 x call, e), s3))
clause_out n l w a (f, r, cut, s, (f2, r2, cut2, inr none, s3)) = (f, r, cut, s, (f2, r2, cut2, inr none, s3))

clause_in : (n : ℕ) (l : Limits) (w : List Lexeme) (a : Option Lexeme × (Option (Unit {0}) × Option (Unit {0}))) → SpelledBy (SpelledIn rule n) external_printed l w a → SpelledBy (SpelledIn rule n) external_read l w a
clause_in n l w a (f, r, cut, s, (f2, r2, cut2, inl (x, call, e), s3)) = (f, r, cut, s, (f2, r2, cut2, inl (x, external_in n l f2 x call, e), s3))
clause_in n l w a (f, r, cut, s, (f2, r2, cut2, inr none, s3)) = (f, r, cut, s, (f2, r2, cut2, inr none, s3))

plain_out : (n : ℕ) (l : Limits) (w : List Lexeme) (x : Inside) → SpelledBy (SpelledIn rule n) (either annotated_end class_end) l w x → (y : Option (Unit {0}) × Lexeme) × SpelledBy (SpelledIn rule n) plain_end l w y × (let no : Inside = ([], false) in no ≡ x)
plain_out n l w x (inr (t, s, e)) = ((None, t), ([], w, refl, inr (refl, refl), s), e)
plain_out n l w x (inl ((ta, y), (f, r, cut, sa, ((m, z), (f2, r2, cut2, ((k, ts), (f3, r3, cut3, sk, ss), em), (t, s, e2)), e1)), e)) =
    let note : SpelledBy (SpelledIn rule n) annotation_part l (f ++ f3) tt = (k, ((ta, k), (f, f3, refl, sa, sk), refl), refl) in (
      (Some tt, t),
      (
        f ++ f2,
        r2,
        cut ∙ ap (λ v. f ++ v) cut2 ∙ sym (append_assoc f f2 r2),
        inl (tt, ((tt, ts), (f ++ f3, r3, ap (λ v. f ++ v) cut3 ∙ sym (append_assoc f f3 r3), note, ss), refl), refl),
        s,
      ),
      e2 ∙ e1 ∙ e,
    )

plain_in : (n : ℕ) (l : Limits) (w : List Lexeme) (y : Option (Unit {0}) × Lexeme) → SpelledBy (SpelledIn rule n) plain_end l w y → SpelledBy (SpelledIn rule n) (either annotated_end class_end) l w ([], false)
plain_in n l w (o, t) (f, r, cut, inr none, s) = inr (t, subst (λ v. SpelledBy (SpelledIn rule n) (behind end_word end_name) l v t) (sym (cut ∙ ap (λ v. v ++ r) none.0)) s, refl)
plain_in n l w (o, t) (f, r, cut, inl (u, ((v, ts), (f1, r1, c1, (m, ((ta, k), (f2, f3, c2, sa, sk), em), ev), ss), e1), e2), s) =
    inl ((ta, ([], false)), (f2, (f3 ++ r1) ++ r, regroup w f r f1 r1 f2 f3 cut c1 c2, sa, ((k, ([], false)), (f3 ++ r1, r, refl, ((k, ts), (f3, r1, refl, sk, ss), refl), (t, s, refl)), refl)), refl)
  where
    regroup : (w f r f1 r1 f2 f3 : List Lexeme) → w ≡ f ++ r → f ≡ f1 ++ r1 → f1 ≡ f2 ++ f3 → w ≡ f2 ++ ((f3 ++ r1) ++ r)
    regroup w f r f1 r1 f2 f3 a b c = simp (a, b, c, append_assoc)

-- an end, as what follows all sections
ended : (n : ℕ) (l : Limits) (w : List Lexeme) (b : Bool) (x : Inside) → SpelledBy (SpelledIn rule n) printed_class_end l w b → (let out : Inside = ([], b) in out ≡ x) → SpelledByForm printed_sections l w x
ended n l w b x s e = (n, (([], b), ([], w, refl, refl, s), e))

plain_ended : (n : ℕ) (l : Limits) (w : List Lexeme) (x : Inside) → SpelledBy (SpelledIn rule n) (either annotated_end class_end) l w x → SpelledByForm printed_sections l w x
plain_ended n l w x s =
    let p = plain_out n l w x s in
    ended n l w false x ((None, p.0), ([], w, refl, inr (refl, refl), p.1), refl) p.2

external_ended : (n : ℕ) (l : Limits) (w : List Lexeme) (x : Inside) → SpelledBy (SpelledIn rule n) external_end l w x → SpelledByForm printed_sections l w x
external_ended n l w x (x1, ((te, y), (f, r, cut, se, ((a, z), (f2, r2, cut2, sa, ((ts, u), (f3, r3, cut3, ss, sp), eu)), ez)), ey), ex) =
    let p = plain_out n l r3 u sp in
    let clause : SpelledBy (SpelledIn rule n) printed_external l (f ++ (f2 ++ f3)) tt =
    (a, ((te, a), (f, f2 ++ f3, refl, se, ((a, ts), (f2, f3, refl, clause_out n l f2 a sa, ss), refl)), refl), refl) in
    ended n l w true x ((Some tt, p.0), (f ++ (f2 ++ f3), r3, regroup w f r f2 r2 f3 r3 cut cut2 cut3, inl (tt, clause, refl), p.1), refl)
    (ap external_clause (p.2 ∙ eu ∙ ez ∙ ey) ∙ ex)
  where
    regroup : (w f r f2 r2 f3 r3 : List Lexeme) → w ≡ f ++ r → r ≡ f2 ++ r2 → r2 ≡ f3 ++ r3 → w ≡ (f ++ (f2 ++ f3)) ++ r3
    regroup w f r f2 r2 f3 r3 a b c = simp (a, b, c, append_assoc)

end_in : (n : ℕ) (l : Limits) (w : List Lexeme) (b : Bool) → SpelledBy (SpelledIn rule n) printed_class_end l w b → SpelledBy (SpelledIn rule n) (either external_end (either annotated_end class_end)) l w ([], b)
end_in n l w b ((o, y), (f, r, cut, inr none, s), e) =
    let value : false ≡ b = ap is_some none.1 ∙ e in
    subst (λ v. SpelledBy (SpelledIn rule n) (either external_end (either annotated_end class_end)) l w ([], v)) value
    (inr (subst (λ v. SpelledBy (SpelledIn rule n) (either annotated_end class_end) l v ([], false)) (sym (cut ∙ ap (λ v. v ++ r) none.0)) (plain_in n l r y s)))
end_in n l w b ((o, y), (f, r, cut, inl (u, (a, ((te, a1), (f1, r1, c1, se, ((a2, ts), (f2, f3, c2, sa, ss), e2)), e1), eu), eo), s), e) =
    let value : true ≡ b = ap is_some eo ∙ e in
    subst (λ v. SpelledBy (SpelledIn rule n) (either external_end (either annotated_end class_end)) l w ([], v)) value
    (inl (
      ([], false),
      (
        (te, ([], false)),
        (
          f1,
          f2 ++ (f3 ++ r),
          regroup w f r f1 r1 f2 f3 cut c1 c2,
          se,
          ((a2, ([], false)), (f2, f3 ++ r, refl, clause_in n l f2 a2 sa, ((ts, ([], false)), (f3, r, refl, ss, plain_in n l r y s), refl)), refl),
        ),
        refl,
      ),
      refl,
    ))
  where
    regroup : (w f r f1 r1 f2 f3 : List Lexeme) → w ≡ f ++ r → f ≡ f1 ++ r1 → r1 ≡ f2 ++ f3 → w ≡ f1 ++ (f2 ++ (f3 ++ r))
    regroup w f r f1 r1 f2 f3 a b c = simp (a, b, c, append_assoc)

-- ---- from what is read to what is printed

-- a section in front
section_first : (l : Limits) (front rest : List Lexeme) (a : List (List Item)) (x : Inside) (h h' : ℕ) → SpelledBy (SpelledIn rule h) printed_section l front a → SpelledBy (SpelledIn rule h') printed_sections l rest x → SpelledByForm printed_sections l (front ++ rest) (items_before (a, x))
section_first l front rest a x h h' s s' =
    let t = two_heights rule l l printed_section printed_sections front rest a x h h' s s' in
    let q = t.2 in
    let p = q.1 in
    (t.0, ((a ∷ q.0.0, q.0.1), (front ++ p.0, p.1, ap (λ v. front ++ v) p.2 ∙ sym (append_assoc front p.0 p.1), (front, p.0, refl, t.1, p.3), p.4), ap (λ v. items_before (a, v)) q.2))

-- an equation in front
equation_first : (l : Limits) (front rest : List Lexeme) (a : Equation) (x : List Equation × Inside) (h h' : ℕ) → SpelledBy (SpelledIn rule h) item l front a → SpelledBy (SpelledIn rule h') printed_section_equations l rest x → SpelledByForm printed_section_equations l (front ++ rest) (one_more_equation (a, x))
equation_first l front rest a x h h' s s' =
    let t = two_heights rule l l item printed_section_equations front rest a x h h' s s' in
    let p = t.2 in
    (t.0, (front ++ p.0, p.1, ap (λ v. front ++ v) p.2 ∙ sym (append_assoc front p.0 p.1), (front, p.0, refl, t.1, p.3), p.4))

abbrev SectionsOut : ℕ → Type 0
SectionsOut n = (l : Limits) (w : List Lexeme) (x : Inside) → SpelledIn rule n Sections l w x → SpelledByForm printed_sections l w x

abbrev EquationsOut : ℕ → Type 0
EquationsOut n = (l : Limits) (w : List Lexeme) (x : List Equation × Inside) → SpelledIn rule n SectionEquations l w x → SpelledByForm printed_section_equations l w x

-- the same value, spelled by the same tokens
moved : (l : Limits) (v w : List Lexeme) (y x : Inside) → w ≡ v → y ≡ x → SpelledByForm printed_sections l v y → SpelledByForm printed_sections l w x
moved l v w y x shape same s = subst (λ u. SpelledByForm printed_sections l u x) (sym shape) (subst (SpelledByForm printed_sections l v) same s)

section_out : (n : ℕ) (l : Limits) (initial : Bool) (fi w : List Lexeme) (x : Inside) → SectionsOut n → EquationsOut n → SpelledBy (SpelledIn rule n) (flag initial_word) l fi initial → SpelledBy (SpelledIn rule n) (section initial) l w x → SpelledByForm printed_sections l (fi ++ w) x
section_out n l initial fi w x os oe sf (inl (y, ((te, z), (f, r, cut, st, se), ez), ex)) =
    let p = oe l r z se in
    let q = p.1 in
    let here : SpelledBy (SpelledIn rule p.0) printed_section l (fi ++ (f ++ q.0)) (equations_items (initial, z.0)) =
    inr (inr (inl ((initial, z.0), (fi, f ++ q.0, refl, sf, ((te, z.0), (f, q.0, refl, st, q.3), refl)), refl))) in
    moved l ((fi ++ (f ++ q.0)) ++ q.1) (fi ++ w) (equations_section initial z) x (regroup fi w f r q.0 q.1 cut q.2) (ap (equations_section initial) ez ∙ ex)
    (section_first l (fi ++ (f ++ q.0)) q.1 (equations_items (initial, z.0)) z.1 p.0 p.0 here q.4)
  where
    regroup : (fi w f r a b : List Lexeme) → w ≡ f ++ r → r ≡ a ++ b → fi ++ w ≡ (fi ++ (f ++ a)) ++ b
    regroup fi w f r a b c d = simp (c, d, append_assoc)
section_out n l initial fi w x os oe sf (inr (y, ((ta, z), (f, r, cut, st, (f2, r2, cut2, ss, sn)), ez), ex)) =
    let p = os l r2 z.1 sn in
    let here : SpelledBy (SpelledIn rule n) printed_section l (fi ++ (f ++ f2)) (algorithm_items (initial, z.0)) =
    inr (inr (inr ((initial, z.0), (fi, f ++ f2, refl, sf, ((ta, z.0), (f, f2, refl, st, ss), refl)), refl))) in
    moved l ((fi ++ (f ++ f2)) ++ r2) (fi ++ w) (algorithm_section initial z) x (regroup fi w f r f2 r2 cut cut2) (ap (algorithm_section initial) ez ∙ ex)
    (section_first l (fi ++ (f ++ f2)) r2 (algorithm_items (initial, z.0)) z.1 n p.0 here p.1)
  where
    regroup : (fi w f r a b : List Lexeme) → w ≡ f ++ r → r ≡ a ++ b → fi ++ w ≡ (fi ++ (f ++ a)) ++ b
    regroup fi w f r a b c d = simp (c, d, append_assoc)

other_out : (n : ℕ) (l : Limits) (w : List Lexeme) (x : Inside) → SectionsOut n → EquationsOut n → SpelledBy (SpelledIn rule n) other_section l w x → SpelledByForm printed_sections l w x
other_out n l w x os oe (inl (y, ((t, z), (f, r, cut, st, (f2, r2, cut2, se, sn)), ez), ex)) =
    let p = os l r2 z.1 sn in
    moved l ((f ++ f2) ++ r2) w (items_before z) x (cut ∙ ap (λ v. f ++ v) cut2 ∙ sym (append_assoc f f2 r2)) (ap items_before ez ∙ ex)
    (section_first l (f ++ f2) r2 z.0 z.1 n p.0 (inl ((t, z.0), (f, f2, refl, st, se), refl)) p.1)
other_out n l w x os oe (inr (inl (y, ((t, z), (f, r, cut, st, (f2, r2, cut2, se, sn)), ez), ex))) =
    let p = os l r2 z.1 sn in
    moved l ((f ++ f2) ++ r2) w (items_before z) x (cut ∙ ap (λ v. f ++ v) cut2 ∙ sym (append_assoc f f2 r2)) (ap items_before ez ∙ ex)
    (section_first l (f ++ f2) r2 z.0 z.1 n p.0 (inr (inl ((t, z.0), (f, f2, refl, st, se), refl))) p.1)
other_out n l w x os oe (inr (inr (inl s))) = section_out n l false [] w x os oe (inr (refl, refl)) s
other_out n l w x os oe (inr (inr (inr (inl s)))) = external_ended n l w x s
other_out n l w x os oe (inr (inr (inr (inr s)))) = plain_ended n l w x (inl s)

initial_out : (n : ℕ) (l : Limits) (w : List Lexeme) (x : Inside) → SectionsOut n → EquationsOut n → SpelledBy (SpelledIn rule n) initial_section l w x → SpelledByForm printed_sections l w x
initial_out n l w x os oe ((t, y), (f, r, cut, st, s), e) = moved l (f ++ r) w y x cut e (section_out n l true f r y os oe (inl (t, st, refl)) s)

sections_out : (n : ℕ) (l : Limits) (w : List Lexeme) (x : Inside) → SectionsOut n → EquationsOut n → SpelledBy (SpelledIn rule n) sections l w x → SpelledByForm printed_sections l w x
sections_out n l w x os oe (inl s) = other_out n l w x os oe s
sections_out n l w x os oe (inr (inl s)) = initial_out n l w x os oe s
sections_out n l w x os oe (inr (inr s)) = plain_ended n l w x (inr s)

no_equations_out : (l : Limits) (w : List Lexeme) (x : Inside) (y : List Equation × Inside) → (let out : List Equation × Inside = ([], x) in out ≡ y) → SpelledByForm printed_sections l w x → SpelledByForm printed_section_equations l w y
no_equations_out l w x y e s = (s.0, subst (SpelledBy (SpelledIn rule s.0) printed_section_equations l w) e ([], w, refl, refl, s.1))

equations_out : (n : ℕ) (l : Limits) (w : List Lexeme) (y : List Equation × Inside) → SectionsOut n → EquationsOut n → SpelledBy (SpelledIn rule n) section_equations l w y → SpelledByForm printed_section_equations l w y
equations_out n l w y os oe (inl (x, s, e)) = no_equations_out l w x y e (plain_ended n l w x (inr s))
equations_out n l w y os oe (inr (inl (x, s, e))) = no_equations_out l w x y e (initial_out n l w x os oe s)
equations_out n l w y os oe (inr (inr (inl ((a, z), (f, r, cut, sa, sz), e)))) =
    let p = oe l r z sz in
    let q = equation_first l f r a z n p.0 sa p.1 in
    (q.0, subst (λ v. SpelledBy (SpelledIn rule q.0) printed_section_equations l v y) (sym cut) (subst (SpelledBy (SpelledIn rule q.0) printed_section_equations l (f ++ r)) e q.1))
equations_out n l w y os oe (inr (inr (inr (x, s, e)))) = no_equations_out l w x y e (other_out n l w x os oe s)

both_out : (n : ℕ) → SectionsOut n × EquationsOut n
unfolding rule
both_out zero = (λ l w x s. absurd s, λ l w x s. absurd s)
both_out (suc n) = let ih = both_out n in (λ l w x s. sections_out n l w x ih.0 ih.1 s, λ l w x s. equations_out n l w x ih.0 ih.1 s)

-- ---- back

no_equations_in : (l : Limits) (w : List Lexeme) (x : Inside) → Spells Sections l w x → Spells SectionEquations l w ([], x)
unfolding rule
no_equations_in l w x (zero, s) = absurd s
no_equations_in l w x (suc n, inl s) = (suc n, inr (inr (inr (x, s, refl))))
no_equations_in l w x (suc n, inr (inl s)) = (suc n, inr (inl (x, s, refl)))
no_equations_in l w x (suc n, inr (inr s)) = (suc n, inl (x, s, refl))

equations_in : (n : ℕ) (l : Limits) (items : List Equation) (w rest : List Lexeme) (x : Inside) → SpelledEach (SpelledBy (SpelledIn rule n) item l) w items → Spells Sections l rest x → Spells SectionEquations l (w ++ rest) (items, x)
unfolding rule
equations_in n l [] w rest x none s = subst (λ v. Spells SectionEquations l (v ++ rest) ([], x)) (sym none) (no_equations_in l rest x s)
equations_in n l (a ∷ items) w rest x (front, more, cut, here, others) s =
    let ih = equations_in n l items more rest x others s in
    let p = two_heights rule l l item (symbol SectionEquations) front (more ++ rest) a (items, x) n ih.0 here ih.1 in
    (suc p.0, inr (inr (inl ((a, (items, x)), (front, more ++ rest, ap (λ v. v ++ rest) cut ∙ append_assoc front more rest, p.1, p.2), refl))))

-- a section of equations or statements, with `initial` before it or not
flagged : (n : ℕ) (l : Limits) (i : Bool) (fi w : List Lexeme) (value : Bool → Inside) → SpelledBy (SpelledIn rule n) (flag initial_word) l fi i → ((b : Bool) → SpelledBy (SpelledIn rule n) (section b) l w (value b)) → Spells Sections l (fi ++ w) (value i)
unfolding rule
flagged n l i fi w value (inl (t, st, e)) s = subst (λ v. Spells Sections l (fi ++ w) (value v)) e (suc n, inr (inl ((t, value true), (fi, w, refl, st, s true), refl)))
flagged n l i fi w value (inr none) s =
    subst (λ v. Spells Sections l (fi ++ w) (value v)) none.1
    (subst (λ v. Spells Sections l (v ++ w) (value false)) (sym none.0) (suc n, inl (inr (inr (inl (s false))))))

section_in : (n : ℕ) (l : Limits) (w rest : List Lexeme) (a : List (List Item)) (x : Inside) → SpelledBy (SpelledIn rule n) printed_section l w a → Spells Sections l rest x → Spells Sections l (w ++ rest) (items_before (a, x))
unfolding rule
section_in n l w rest a x (inl ((t, z), (f, r, cut, st, se), e)) s =
    let p = two_heights rule l l (elements false) (symbol Sections) r rest z x n s.0 se s.1 in
    (suc p.0, inl (inl ((z, x), ((t, (z, x)), (f, r ++ rest, ap (λ v. v ++ rest) cut ∙ append_assoc f r rest, st, (r, rest, refl, p.1, p.2)), refl), ap (λ v. items_before (v, x)) e)))
section_in n l w rest a x (inr (inl ((t, z), (f, r, cut, st, se), e))) s =
    let p = two_heights rule l l (elements true) (symbol Sections) r rest z x n s.0 se s.1 in
    (suc p.0, inl (inr (inl ((z, x), ((t, (z, x)), (f, r ++ rest, ap (λ v. v ++ rest) cut ∙ append_assoc f r rest, st, (r, rest, refl, p.1, p.2)), refl), ap (λ v. items_before (v, x)) e))))
section_in n l w rest a x (inr (inr (inl ((i, list), (fi, r1, c1, sf, ((t, items), (f, r, c2, st, si), e2)), e)))) s =
    let q = equations_in n l items r rest x si s in
    let value : Bool → Inside = λ b. (Equations b items ∷ x.0, x.1) in
    let all = flagged q.0 l i fi (f ++ (r ++ rest)) value sf (λ b. inl ((items, x), ((t, (items, x)), (f, r ++ rest, refl, st, q.1), refl), refl)) in
    subst (λ v. Spells Sections l v (items_before (a, x))) (sym (regroup w rest fi r1 f r c1 c2))
    (subst (Spells Sections l (fi ++ (f ++ (r ++ rest)))) (ap (λ v. items_before (equations_items (i, v), x)) e2 ∙ ap (λ v. items_before (v, x)) e) all)
  where
    regroup : (w rest fi r1 f r : List Lexeme) → w ≡ fi ++ r1 → r1 ≡ f ++ r → w ++ rest ≡ fi ++ (f ++ (r ++ rest))
    regroup w rest fi r1 f r c d = simp (c, d, append_assoc)
section_in n l w rest a x (inr (inr (inr ((i, list), (fi, r1, c1, sf, ((t, items), (f, r, c2, st, si), e2)), e)))) s =
    let p = two_heights rule l l statements (symbol Sections) r rest items x n s.0 si s.1 in
    let value : Bool → Inside = λ b. (Algorithm b items ∷ x.0, x.1) in
    let all = flagged p.0 l i fi (f ++ (r ++ rest)) value sf (λ b. inr ((items, x), ((t, (items, x)), (f, r ++ rest, refl, st, (r, rest, refl, p.1, p.2)), refl), refl)) in
    subst (λ v. Spells Sections l v (items_before (a, x))) (sym (regroup w rest fi r1 f r c1 c2))
    (subst (Spells Sections l (fi ++ (f ++ (r ++ rest)))) (ap (λ v. items_before (algorithm_items (i, v), x)) e2 ∙ ap (λ v. items_before (v, x)) e) all)
  where
    regroup : (w rest fi r1 f r : List Lexeme) → w ≡ fi ++ r1 → r1 ≡ f ++ r → w ++ rest ≡ fi ++ (f ++ (r ++ rest))
    regroup w rest fi r1 f r c d = simp (c, d, append_assoc)

end_read : (n : ℕ) (l : Limits) (w : List Lexeme) (b : Bool) → SpelledBy (SpelledIn rule n) (either external_end (either annotated_end class_end)) l w ([], b) → Spells Sections l w ([], b)
unfolding rule
end_read n l w b (inl s) = (suc n, inl (inr (inr (inr (inl s)))))
end_read n l w b (inr (inl s)) = (suc n, inl (inr (inr (inr (inr s)))))
end_read n l w b (inr (inr s)) = (suc n, inr (inr s))

list_in : (n : ℕ) (l : Limits) (list : List (List (List Item))) (w v : List Lexeme) (b : Bool) → SpelledEach (SpelledBy (SpelledIn rule n) printed_section l) w list → SpelledBy (SpelledIn rule n) printed_class_end l v b → Spells Sections l (w ++ v) (items_of_sections list, b)
list_in n l [] w v b none s = subst (λ u. Spells Sections l (u ++ v) ([], b)) (sym none) (end_read n l v b (end_in n l v b s))
list_in n l (a ∷ list) w v b (front, more, cut, here, others) s =
    subst (λ u. Spells Sections l u (items_of_sections (a ∷ list), b)) (sym (ap (λ u. u ++ v) cut ∙ append_assoc front more v))
    (section_in n l front (more ++ v) a (items_of_sections list, b) here (list_in n l list more v b others s))

sections_in : (n : ℕ) (l : Limits) (w : List Lexeme) (x : Inside) → SpelledBy (SpelledIn rule n) printed_sections l w x → Spells Sections l w x
sections_in n l w x ((list, b), (f, r, cut, s, end), e) = subst (λ v. Spells Sections l v x) (sym cut) (subst (Spells Sections l (f ++ r)) e (list_in n l list f r b s end))

-- ---- both forms spell the same

pub sections_agree : (l : Limits) (w : List Lexeme) (x : Inside) → (Spells Sections l w x → SpelledByForm printed_sections l w x) × (SpelledByForm printed_sections l w x → Spells Sections l w x)
sections_agree l w x = (λ s. (both_out s.0).0 l w x s.1, λ s. sections_in s.0 l w x s.1)

pub section_equations_agree : (l : Limits) (w : List Lexeme) (y : List Equation × Inside) → (Spells SectionEquations l w y → SpelledByForm printed_section_equations l w y) × (SpelledByForm printed_section_equations l w y → Spells SectionEquations l w y)
section_equations_agree l w y = (λ s. (both_out s.0).1 l w y s.1, λ s. back s.0 s.1)
  where
    back : (n : ℕ) → SpelledBy (SpelledIn rule n) printed_section_equations l w y → Spells SectionEquations l w y
    back n (f, r, cut, s, more) = subst (λ v. Spells SectionEquations l v y) (sym cut) (equations_in n l y.0 f r y.1 s (sections_in n l r y.1 more))

pub compositions_agree : (l : Limits) (w : List Lexeme) (x : Inside) → (Spells Compositions l w x → SpelledByForm printed_composition l w x) × (SpelledByForm printed_composition l w x → Spells Compositions l w x)
unfolding rule
compositions_agree l w x = (λ s. out s.0 s.1, λ s. back s.0 s.1)
  where
    out : (n : ℕ) → SpelledIn rule n Compositions l w x → SpelledByForm printed_composition l w x
    out zero s = absurd s
    out (suc n) (y, (f, r, cut, se, s), e) =
        let p = (both_out n).0 l r y.1 s in
        let t = two_heights rule l l (elements false) printed_sections f r y.0 y.1 n p.0 se p.1 in
        (t.0, (y, (f, r, cut, t.1, t.2), e))

    back : (n : ℕ) → SpelledBy (SpelledIn rule n) printed_composition l w x → Spells Compositions l w x
    back n (y, (f, r, cut, se, s), e) =
        let p = sections_in n l r y.1 s in
        let t = two_heights rule l l (elements false) (symbol Sections) f r y.0 y.1 n p.0 se p.1 in
        (suc t.0, (y, (f, r, cut, t.1, t.2), e))
