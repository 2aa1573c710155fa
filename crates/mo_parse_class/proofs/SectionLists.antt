-- Sections of a class, one after another, and its end.
use Rattle.std.proofs.Common.{◌≡◌, ◌==◌, ◌&&◌, not, ℕ, Bool, true, false, List, [], ◌∷◌, ◌++◌, refl, sym, ap, subst, ◌∙◌, append_assoc, append-nil, eqb-true, inl, inr, if◌then◌else◌}
use Rattle.mo_syntax.specs.declared.class.Item.TheVariants.{Equations, Algorithm}
use Rattle.mo_grammar.specs.declared.fault.Fault.{Fault}
use Rattle.mo_grammar.specs.Codes.{ident, semicolon, public_word, protected_word, equation_word, algorithm_word, initial_word, external_word, annotation_word, end_word}
use Rattle.mo_grammar.specs.Lexeme.{Lexeme, code_of}
use Rattle.mo_grammar.specs.Grammar.{Limits, symbol, seq, made, has}
use Rattle.mo_grammar.specs.Forms.{before, second_of}
use Rattle.mo_grammar.specs.ClassTrees.{Equation, Statement, Inside, items_before, equations_section, algorithm_section, one_more_equation}
use Rattle.mo_grammar.specs.Symbols.{EquationItems, Sections, SectionEquations}
use Rattle.mo_grammar.specs.Classes.{elements, statements, section, sections, section_equations, other_section}
use Rattle.mo_grammar.specs.Reading.{Outcome, read, stuck, unfinished, ◌>>=◌, next_in, next_two, reads_token, first_codes, Tables}
use Rattle.mo_grammar.specs.Tables.{tables}
use Rattle.mo_grammar.specs.Language.{reads, reads_form}
use Rattle.mo_grammar.proofs.Codes.{both, told, never, false_from, not_true, choose_true}
use Rattle.mo_grammar.proofs.Readers.{sections_are, section_equations_are}
use Rattle.mo_parse_class.specs.steps.Parts.{element_list, with_items, with_equations, before_sections, closing}
use Rattle.mo_class_parts.specs.Starts.{equation_follows, section_codes}
use Rattle.mo_parse_class.proofs.ElementLists.{items_follow}
use Rattle.mo_class_heads.proofs.ImportNames.{one_code, rest_of}

-- ---- single codes

-- a token of one code that was read
pub was_token : (c : ℕ) (w : List Lexeme) (t : Lexeme) (rest : List Lexeme) → reads_token (c ∷ []) w ≡ read t rest → (u : Lexeme) × (w ≡ u ∷ rest) × (code_of u ≡ c)
was_token c [] t rest e = cc
was_token c (u ∷ w) t rest e = go (has (c ∷ []) (code_of u)) refl
  where
    go : (b : Bool) → has (c ∷ []) (code_of u) ≡ b → (v : Lexeme) × (u ∷ w ≡ v ∷ rest) × (code_of v ≡ c)
    go true s = (u, ap (λ v. u ∷ v) (ap rest_of (rw s at e)), one_code c (code_of u) s)
    go false s = let clash = rw s at e in cc

absent : (xs : List ℕ) (d c : ℕ) → has xs d ≡ true → has xs c ≡ false → (d == c) ≡ false
absent xs d c e f = false_from (d == c) (λ s. never (has xs c) (subst (λ v. has xs v ≡ true) (eqb-true d c s) e) f)

pub kept_behind : {A : Type 0} (t : Lexeme) (o : Outcome A) → ((o >>= λ y. let two : Outcome (Lexeme × A) = read (t, y.0) y.1 in two) >>= λ x. let second : Outcome A = read (second_of x.0) x.1 in second) ≡ o
kept_behind t (read a rest) = refl
kept_behind t (stuck fault rest) = refl
kept_behind t unfinished = refl

-- ---- which section it is

public_at : (l : Limits) (u : Lexeme) (rest : List Lexeme) → code_of u ≡ public_word → reads Sections l (u ∷ rest) ≡ (reads_form (element_list false) l rest >>= λ x. with_items x.0 (reads Sections l x.1))
public_at l u rest is =
    sections_are l (u ∷ rest) ∙ rw is (
    ap (λ o. let all : Outcome Inside = o >>= λ x. read (items_before x.0) x.1 in all) (kept_behind u (reads_form (seq (elements false) (symbol Sections)) l rest))
    ∙ items_follow (reads_form (elements false) l rest) (reads Sections l))

protected_at : (l : Limits) (u : Lexeme) (rest : List Lexeme) → code_of u ≡ protected_word → reads Sections l (u ∷ rest) ≡ (reads_form (element_list true) l rest >>= λ x. with_items x.0 (reads Sections l x.1))
protected_at l u rest is =
    sections_are l (u ∷ rest) ∙ rw is (
    ap (λ o. let all : Outcome Inside = o >>= λ x. read (items_before x.0) x.1 in all) (kept_behind u (reads_form (seq (elements true) (symbol Sections)) l rest))
    ∙ items_follow (reads_form (elements true) l rest) (reads Sections l))

initial_at : (l : Limits) (u : Lexeme) (rest : List Lexeme) → code_of u ≡ initial_word → reads Sections l (u ∷ rest) ≡ reads_form (section true) l rest
initial_at l u rest is = sections_are l (u ∷ rest) ∙ rw is (kept_behind u (reads_form (section true) l rest))

pub public_is : (l : Limits) (w : List Lexeme) (t : Lexeme) (rest : List Lexeme) → reads_token (public_word ∷ []) w ≡ read t rest → reads Sections l w ≡ (reads_form (element_list false) l rest >>= λ x. with_items x.0 (reads Sections l x.1))
public_is l w t rest e =
    let (u, is, code) = was_token public_word w t rest e in
    ap (reads Sections l) is ∙ public_at l u rest code

pub protected_is : (l : Limits) (w : List Lexeme) (t : Lexeme) (rest : List Lexeme) → reads_token (protected_word ∷ []) w ≡ read t rest → reads Sections l w ≡ (reads_form (element_list true) l rest >>= λ x. with_items x.0 (reads Sections l x.1))
protected_is l w t rest e =
    let (u, is, code) = was_token protected_word w t rest e in
    ap (reads Sections l) is ∙ protected_at l u rest code

pub initial_is : (l : Limits) (w : List Lexeme) (t : Lexeme) (rest : List Lexeme) → reads_token (initial_word ∷ []) w ≡ read t rest → reads Sections l w ≡ reads_form (section true) l rest
initial_is l w t rest e =
    let (u, is, code) = was_token initial_word w t rest e in
    ap (reads Sections l) is ∙ initial_at l u rest code

-- neither public nor protected nor initial
pub plain_is : (l : Limits) (w : List Lexeme) → next_in section_codes w ≡ true → next_in (public_word ∷ []) w ≡ false → next_in (protected_word ∷ []) w ≡ false → next_in (initial_word ∷ []) w ≡ false → reads Sections l w ≡ reads_form (section false) l w
plain_is l [] e p q r = cc
plain_is l (u ∷ w) e p q r = sections_are l (u ∷ w) ∙ elim (told (equation_word == code_of u)) [
  | inl found ↦ let is : code_of u ≡ equation_word = sym (eqb-true equation_word (code_of u) found) in rw is refl
  | inr none ↦ elim (told (algorithm_word == code_of u)) [
    | inl found ↦ let is : code_of u ≡ algorithm_word = sym (eqb-true algorithm_word (code_of u) found) in rw is refl
    | inr neither ↦
        let p' = absent (public_word ∷ []) public_word (code_of u) refl p in
        let q' = absent (protected_word ∷ []) protected_word (code_of u) refl q in
        let r' = absent (initial_word ∷ []) initial_word (code_of u) refl r in
        let clash = rw p' at (rw q' at (rw r' at (rw none at (rw neither at e)))) in cc
  ]
]

-- none of them
pub closing_is : (l : Limits) (w : List Lexeme) → next_in section_codes w ≡ false → reads Sections l w ≡ reads_form closing l w
closing_is l [] e = sections_are l []
closing_is l (u ∷ w) e =
    let a = absent section_codes public_word (code_of u) refl e in
    let b = absent section_codes protected_word (code_of u) refl e in
    let c = absent section_codes equation_word (code_of u) refl e in
    let d = absent section_codes algorithm_word (code_of u) refl e in
    let f = absent section_codes initial_word (code_of u) refl e in
    sections_are l (u ∷ w) ∙ elim (told (external_word == code_of u)) [
      | inl found ↦ let is : code_of u ≡ external_word = sym (eqb-true external_word (code_of u) found) in rw is refl
      | inr none ↦ elim (told (annotation_word == code_of u)) [
        | inl found ↦ let is : code_of u ≡ annotation_word = sym (eqb-true annotation_word (code_of u) found) in rw is refl
        | inr neither ↦ rw a (rw b (rw c (rw d (rw f (rw none (rw neither refl))))))
      ]
    ]

-- ---- what a section holds

equations_then : (initial : Bool) (equations : List Equation) (o : Outcome Inside) → (before_sections equations o >>= λ x. read (equations_section initial x.0) x.1) ≡ with_items (Equations initial equations ∷ []) o
equations_then initial equations (read x rest) = refl
equations_then initial equations (stuck fault rest) = refl
equations_then initial equations unfinished = refl

equations_at : (initial : Bool) (l : Limits) (u : Lexeme) (rest : List Lexeme) → code_of u ≡ equation_word → reads_form (section initial) l (u ∷ rest) ≡ (reads SectionEquations l rest >>= λ x. read (equations_section initial x.0) x.1)
equations_at initial l u rest is = rw is (ap (λ o. let all : Outcome Inside = o >>= λ x. read (equations_section initial x.0) x.1 in all) (kept_behind u (reads SectionEquations l rest)))

pub equations_is : (initial : Bool) (l : Limits) (w : List Lexeme) (t : Lexeme) (rest : List Lexeme) (equations : List Equation) (o : Outcome Inside) → reads_token (equation_word ∷ []) w ≡ read t rest → reads SectionEquations l rest ≡ before_sections equations o → reads_form (section initial) l w ≡ with_items (Equations initial equations ∷ []) o
equations_is initial l w t rest equations o e r =
    let (u, is, code) = was_token equation_word w t rest e in
    ap (reads_form (section initial) l) is ∙ equations_at initial l u rest code
    ∙ ap (λ o. let all : Outcome Inside = o >>= λ x. read (equations_section initial x.0) x.1 in all) r ∙ equations_then initial equations o

algorithm_then : (initial : Bool) (list : List Statement) (o : Outcome Inside) → ((o >>= λ y. let two : Outcome (List Statement × Inside) = read (list, y.0) y.1 in two) >>= λ x. read (algorithm_section initial x.0) x.1) ≡ with_items (Algorithm initial list ∷ []) o
algorithm_then initial list (read x rest) = refl
algorithm_then initial list (stuck fault rest) = refl
algorithm_then initial list unfinished = refl

algorithm_at : (initial : Bool) (l : Limits) (u : Lexeme) (rest : List Lexeme) → code_of u ≡ algorithm_word → reads_form (section initial) l (u ∷ rest) ≡ (reads_form (seq statements (symbol Sections)) l rest >>= λ x. read (algorithm_section initial x.0) x.1)
algorithm_at initial l u rest is = rw is (ap (λ o. let all : Outcome Inside = o >>= λ x. read (algorithm_section initial x.0) x.1 in all) (kept_behind u (reads_form (seq statements (symbol Sections)) l rest)))

pub algorithm_is : (initial : Bool) (l : Limits) (w : List Lexeme) (t : Lexeme) (rest : List Lexeme) (list : List Statement) (after : List Lexeme) → reads_token (algorithm_word ∷ []) w ≡ read t rest → reads_form statements l rest ≡ read list after → reads_form (section initial) l w ≡ with_items (Algorithm initial list ∷ []) (reads Sections l after)
algorithm_is initial l w t rest list after e r =
    let (u, is, code) = was_token algorithm_word w t rest e in
    let next : List Statement × List Lexeme → Outcome (List Statement × Inside) = λ x. reads Sections l x.1 >>= λ y. read (x.0, y.0) y.1 in
    ap (reads_form (section initial) l) is ∙ algorithm_at initial l u rest code
    ∙ ap (λ o. let all : Outcome Inside = (o >>= next) >>= λ x. read (algorithm_section initial x.0) x.1 in all) r ∙ algorithm_then initial list (reads Sections l after)

-- ---- equations one after another

again : (l : Limits) (w : List Lexeme) → equation_follows w ≡ true → reads SectionEquations l w ≡ reads_form (made one_more_equation (seq (before (symbol EquationItems) semicolon) (symbol SectionEquations))) l w
again l w e =
    let p = both (not (next_two end_word (ident ∷ []) w)) (not (next_two initial_word (equation_word ∷ algorithm_word ∷ []) w) && next_in (Tables.starts tables EquationItems) w) e in
    let q = both (not (next_two initial_word (equation_word ∷ algorithm_word ∷ []) w)) (next_in (Tables.starts tables EquationItems) w) p.1 in
    section_equations_are l w ∙ choose (next_two end_word (ident ∷ []) w) (next_two initial_word (equation_word ∷ algorithm_word ∷ []) w) (next_in (Tables.starts tables EquationItems) w) _ _ _ _ (not_true _ p.0) (not_true _ q.0) q.1
  where
    choose : {A : Type 0} (a b c : Bool) (o p q r : A) → a ≡ false → b ≡ false → c ≡ true → (if a then o else (if b then p else (if c then q else r))) ≡ q
    choose true b c o p q r d e f = cc
    choose false true c o p q r d e f = cc
    choose false false true o p q r d e f = refl
    choose false false false o p q r d e f = cc

more_kept : (front : List Equation) (a : Equation) (o : Outcome (List Equation × Inside)) → with_equations front ((o >>= λ y. let two : Outcome (Equation × (List Equation × Inside)) = read (a, y.0) y.1 in two) >>= λ x. read (one_more_equation x.0) x.1) ≡ with_equations (front ++ a ∷ []) o
more_kept front a (read x rest) = ap (λ v. let all : Outcome (List Equation × Inside) = read (v, x.1) rest in all) (sym (append_assoc front (a ∷ []) x.0))
more_kept front a (stuck fault rest) = refl
more_kept front a unfinished = refl

-- An equation is read, and then those behind it.
pub equations_turn : (l : Limits) (front now : List Equation) (w : List Lexeme) (a : Equation) (rest : List Lexeme) (all : Outcome (List Equation × Inside)) → true ≡ equation_follows w → reads_form (before (symbol EquationItems) semicolon) l w ≡ read a rest → now ≡ front ++ a ∷ [] → with_equations front (reads SectionEquations l w) ≡ all → with_equations now (reads SectionEquations l rest) ≡ all
equations_turn l front now w a rest all n r pushed so_far =
    let next : Equation × List Lexeme → Outcome (Equation × (List Equation × Inside)) = λ x. reads SectionEquations l x.1 >>= λ y. read (x.0, y.0) y.1 in
    ap (λ list. with_equations list (reads SectionEquations l rest)) pushed ∙ sym (more_kept front a (reads SectionEquations l rest))
    ∙ sym (ap (λ o. with_equations front ((o >>= next) >>= λ x. let all : Outcome (List Equation × Inside) = read (one_more_equation x.0) x.1 in all)) r)
    ∙ sym (ap (with_equations front) (again l w (sym n))) ∙ so_far

-- An equation that is stuck ends the reading of them all.
pub equations_stuck : (l : Limits) (front : List Equation) (w : List Lexeme) (fault : Fault) (rest : List Lexeme) (all : Outcome (List Equation × Inside)) → true ≡ equation_follows w → reads_form (before (symbol EquationItems) semicolon) l w ≡ stuck fault rest → with_equations front (reads SectionEquations l w) ≡ all → all ≡ stuck fault rest
equations_stuck l front w fault rest all n r so_far =
    let next : Equation × List Lexeme → Outcome (Equation × (List Equation × Inside)) = λ x. reads SectionEquations l x.1 >>= λ y. read (x.0, y.0) y.1 in
    sym so_far ∙ ap (with_equations front) (again l w (sym n)) ∙ ap (λ o. with_equations front ((o >>= next) >>= λ x. let all : Outcome (List Equation × Inside) = read (one_more_equation x.0) x.1 in all)) r

done_kept : (front : List Equation) (o : Outcome Inside) → with_equations front (before_sections [] o) ≡ before_sections front o
done_kept front (read x rest) = ap (λ v. let all : Outcome (List Equation × Inside) = read (v, x) rest in all) (append-nil front)
done_kept front (stuck fault rest) = refl
done_kept front unfinished = refl

end_next : (l : Limits) (w : List Lexeme) → next_two end_word (ident ∷ []) w ≡ true → reads_form section_equations l w ≡ before_sections [] (reads_form sections l w)
end_next l [] e = cc
end_next l (t ∷ []) e = cc
end_next l (t ∷ u ∷ w) e =
    let p = both (end_word == code_of t) (has (ident ∷ []) (code_of u)) e in
    let is : code_of t ≡ end_word = sym (eqb-true end_word (code_of t) p.0) in
    let named : code_of u ≡ ident = one_code ident (code_of u) p.1 in
    rw is (rw named refl)

initial_next : (l : Limits) (w : List Lexeme) → next_two initial_word (equation_word ∷ algorithm_word ∷ []) w ≡ true → reads_form section_equations l w ≡ before_sections [] (reads_form sections l w)
initial_next l [] e = cc
initial_next l (t ∷ []) e = cc
initial_next l (t ∷ u ∷ w) e =
    let p = both (initial_word == code_of t) (has (equation_word ∷ algorithm_word ∷ []) (code_of u)) e in
    let is : code_of t ≡ initial_word = sym (eqb-true initial_word (code_of t) p.0) in
    rw is (elim (told (equation_word == code_of u)) [
      | inl found ↦ let which : code_of u ≡ equation_word = sym (eqb-true equation_word (code_of u) found) in rw which refl
      | inr none ↦ elim (told (algorithm_word == code_of u)) [
        | inl found ↦ let which : code_of u ≡ algorithm_word = sym (eqb-true algorithm_word (code_of u) found) in rw which refl
        | inr neither ↦ let clash = rw none at (rw neither at p.1) in cc
      ]
    ])

other_next : (l : Limits) (w : List Lexeme) → next_in (Tables.starts tables EquationItems) w ≡ false → reads_form other_section l w ≡ reads_form sections l w
other_next l [] e = refl
other_next l (u ∷ w) e =
    let a = absent (Tables.starts tables EquationItems) end_word (code_of u) refl e in
    let b = absent (Tables.starts tables EquationItems) initial_word (code_of u) refl e in
    elim (told (has (first_codes (Tables.starts tables) other_section) (code_of u))) [
      | inl found ↦ sym (choose_true (has (first_codes (Tables.starts tables) other_section) (code_of u)) (reads_form other_section l (u ∷ w)) _ found)
      | inr none ↦
          let c = absent (first_codes (Tables.starts tables) other_section) public_word (code_of u) refl none in
          let d = absent (first_codes (Tables.starts tables) other_section) protected_word (code_of u) refl none in
          let f = absent (first_codes (Tables.starts tables) other_section) equation_word (code_of u) refl none in
          let g = absent (first_codes (Tables.starts tables) other_section) algorithm_word (code_of u) refl none in
          let h = absent (first_codes (Tables.starts tables) other_section) external_word (code_of u) refl none in
          let i = absent (first_codes (Tables.starts tables) other_section) annotation_word (code_of u) refl none in
          rw a (rw b (rw c (rw d (rw f (rw g (rw h (rw i refl)))))))
    ]

pick_last : {A : Type 0} (a b c : Bool) (o p q r : A) → a ≡ false → b ≡ false → c ≡ false → (if a then o else (if b then p else (if c then q else r))) ≡ r
pick_last true b c o p q r d e f = cc
pick_last false true c o p q r d e f = cc
pick_last false false true o p q r d e f = cc
pick_last false false false o p q r d e f = refl

no_equation : (l : Limits) (w : List Lexeme) → equation_follows w ≡ false → reads SectionEquations l w ≡ before_sections [] (reads Sections l w)
no_equation l w e = section_equations_are l w ∙ go ∙ ap (before_sections []) (sym (sections_are l w))
  where
    left_over : (a b c : Bool) → (not a && (not b && c)) ≡ false → a ≡ false → b ≡ false → c ≡ false
    left_over true b c e p q = cc
    left_over false true c e p q = cc
    left_over false false c e p q = e

    go : reads_form section_equations l w ≡ before_sections [] (reads_form sections l w)
    go = elim (told (next_two end_word (ident ∷ []) w)) [
      | inl found ↦ end_next l w found
      | inr not_end ↦ elim (told (next_two initial_word (equation_word ∷ algorithm_word ∷ []) w)) [
        | inl found ↦ initial_next l w found
        | inr not_initial ↦
            let none = left_over (next_two end_word (ident ∷ []) w) (next_two initial_word (equation_word ∷ algorithm_word ∷ []) w) (next_in (Tables.starts tables EquationItems) w) e not_end not_initial in
            pick_last (next_two end_word (ident ∷ []) w) (next_two initial_word (equation_word ∷ algorithm_word ∷ []) w) (next_in (Tables.starts tables EquationItems) w) _ _ _ _ not_end not_initial none
            ∙ ap (before_sections []) (other_next l w none)
      ]
    ]

-- Where no equation follows, the next section does, or the end.
pub equations_done : (l : Limits) (front : List Equation) (w : List Lexeme) (all : Outcome (List Equation × Inside)) → false ≡ equation_follows w → with_equations front (reads SectionEquations l w) ≡ all → all ≡ before_sections front (reads Sections l w)
equations_done l front w all n so_far = sym so_far ∙ ap (with_equations front) (no_equation l w (sym n)) ∙ done_kept front (reads Sections l w)
