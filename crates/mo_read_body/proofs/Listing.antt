-- Equations up to a mark that two tokens tell, as a loop reads them.
use Rattle.std.proofs.Common.{◌≡◌, ◌==◌, ◌||◌, ℕ, Bool, true, false, List, [], ◌∷◌, ◌++◌, if◌then◌else◌, refl, sym, ap, subst, ◌∙◌, append_assoc, append-nil}
use Rattle.mo_syntax.specs.declared.expr.Expr.{Expr}
use Rattle.mo_syntax.specs.declared.equation.EquationKind.{EquationKind}
use Rattle.mo_syntax.specs.declared.equation.EquationKind.TheVariants.{If, When}
use Rattle.mo_grammar.specs.declared.fault.Fault.{Fault}
use Rattle.mo_grammar.specs.Lexeme.{Lexeme, code_of}
use Rattle.mo_grammar.specs.Codes.{else_word, elseif_word, elsewhen_word, end_word, for_word, if_word, when_word}
use Rattle.mo_grammar.specs.Grammar.{Limits, token, seq, made, symbol}
use Rattle.mo_grammar.specs.Forms.{joined, behind}
use Rattle.mo_grammar.specs.ClassTrees.{Equation, Branched, BranchedElse, no_equations, no_branches, no_branches_else, branch_before, branch_before_else, branched_more, branched_else_more, else_only}
use Rattle.mo_grammar.specs.Reading.{Outcome, read, stuck, unfinished, ◌>>=◌, next_in, next_two, reads_token}
use Rattle.mo_grammar.specs.Symbols.{ForEquations, WhenEquations, IfEquations, ElseEquations}
use Rattle.mo_grammar.specs.Language.{reads, reads_form}
use Rattle.mo_grammar.proofs.Codes.{neither, choose_true, choose_false}
use Rattle.mo_grammar.proofs.Entering.{two_first}
use Rattle.mo_grammar.proofs.Loops.{with_front}
use Rattle.mo_grammar.proofs.Readers.{for_equations_are, when_equations_are, if_equations_are, else_equations_are}
use Rattle.mo_read_body.specs.steps.EquationParts.{Tail, Branch, equation_line, behind_equations, when_branch, when_end, elsewhen_tail, first_branch, no_branch, reads_when_tail, if_branch, elseif_tail, first_branch_else, no_branch_else, if_end, reads_if_tail, joined_branch, joined_branch_else}

-- ---- what comes next

-- two tokens that begin with one code do not begin with another
not_both : (c d : ℕ) (ds : List ℕ) (w : List Lexeme) → ((d == c) || false) ≡ false → next_two c ds w ≡ true → next_in (d ∷ []) w ≡ false
not_both c d ds [] e n = refl
not_both c d ds (t ∷ w) e n = subst (λ v. ((d == v) || false) ≡ false) (two_first c ds t w n) e

one_or_other : (a b : Bool) → (a || (b || false)) ≡ ((a || false) || (b || false))
one_or_other true b = refl
one_or_other false b = refl

next_of_two : (a b : ℕ) (w : List Lexeme) → next_in (a ∷ b ∷ []) w ≡ (next_in (a ∷ []) w || next_in (b ∷ []) w)
next_of_two a b [] = refl
next_of_two a b (t ∷ w) = one_or_other (a == code_of t) (b == code_of t)

-- ---- lists that end with `end for` or `end if`

again : {A : Type 0} (front : List A) (a : A) (o : Outcome (List A)) → with_front front ((o >>= λ y. let both : Outcome (A × List A) = read (a, y.0) y.1 in both) >>= λ z. read (joined z.0) z.1) ≡ with_front (front ++ a ∷ []) o
again front a (read list rest) = ap (λ v. read v rest) (sym (append_assoc front (a ∷ []) list))
again front a (stuck fault rest) = refl
again front a unfinished = refl

-- the equation that comes next, and those behind it
abbrev more_for : Limits → List Lexeme → Outcome (Equation × List Equation)
more_for l w = reads_form equation_line l w >>= λ x. reads ForEquations l x.1 >>= λ y. read (x.0, y.0) y.1

for_opens : (l : Limits) (w : List Lexeme) → false ≡ next_two end_word (for_word ∷ []) w → reads ForEquations l w ≡ (more_for l w >>= λ z. read (joined z.0) z.1)
for_opens l w n = for_equations_are l w ∙ choose_false {A = Outcome (List Equation)} (next_two end_word (for_word ∷ []) w) (reads_form (made no_equations (seq (token (end_word ∷ [])) (token (for_word ∷ [])))) l w) (more_for l w >>= λ z. read (joined z.0) z.1) (sym n)

pub for_ends : (l : Limits) (w : List Lexeme) → true ≡ next_two end_word (for_word ∷ []) w → reads ForEquations l w ≡ reads_form (made no_equations (seq (token (end_word ∷ [])) (token (for_word ∷ [])))) l w
for_ends l w n = for_equations_are l w ∙ choose_true {A = Outcome (List Equation)} (next_two end_word (for_word ∷ []) w) (reads_form (made no_equations (seq (token (end_word ∷ [])) (token (for_word ∷ [])))) l w) (more_for l w >>= λ z. read (joined z.0) z.1) (sym n)

pub for_stuck : (l : Limits) (w : List Lexeme) (fault : Fault) (rest : List Lexeme) → false ≡ next_two end_word (for_word ∷ []) w → reads_form equation_line l w ≡ stuck fault rest → reads ForEquations l w ≡ stuck fault rest
for_stuck l w fault rest n e = for_opens l w n ∙ ap (λ o. (o >>= λ x. reads ForEquations l x.1 >>= λ y. let both : Outcome (Equation × List Equation) = read (x.0, y.0) y.1 in both) >>= λ z. read (joined z.0) z.1) e

pub for_turn : (l : Limits) (front now : List Equation) (w : List Lexeme) (a : Equation) (rest : List Lexeme) (all : Outcome (List Equation)) → false ≡ next_two end_word (for_word ∷ []) w → reads_form equation_line l w ≡ read a rest → now ≡ front ++ a ∷ [] → with_front front (reads ForEquations l w) ≡ all → with_front now (reads ForEquations l rest) ≡ all
for_turn l front now w a rest all n e pushed so_far =
    ap (λ list. with_front list (reads ForEquations l rest)) pushed ∙ sym (again front a (reads ForEquations l rest))
    ∙ sym (ap (λ o. with_front front ((o >>= λ x. reads ForEquations l x.1 >>= λ y. let both : Outcome (Equation × List Equation) = read (x.0, y.0) y.1 in both) >>= λ z. read (joined z.0) z.1)) e)
    ∙ sym (ap (with_front front) (for_opens l w n)) ∙ so_far

abbrev more_else : Limits → List Lexeme → Outcome (Equation × List Equation)
more_else l w = reads_form equation_line l w >>= λ x. reads ElseEquations l x.1 >>= λ y. read (x.0, y.0) y.1

else_opens : (l : Limits) (w : List Lexeme) → false ≡ next_two end_word (if_word ∷ []) w → reads ElseEquations l w ≡ (more_else l w >>= λ z. read (joined z.0) z.1)
else_opens l w n = else_equations_are l w ∙ choose_false {A = Outcome (List Equation)} (next_two end_word (if_word ∷ []) w) (reads_form (made no_equations (seq (token (end_word ∷ [])) (token (if_word ∷ [])))) l w) (more_else l w >>= λ z. read (joined z.0) z.1) (sym n)

pub else_ends : (l : Limits) (w : List Lexeme) → true ≡ next_two end_word (if_word ∷ []) w → reads ElseEquations l w ≡ reads_form (made no_equations (seq (token (end_word ∷ [])) (token (if_word ∷ [])))) l w
else_ends l w n = else_equations_are l w ∙ choose_true {A = Outcome (List Equation)} (next_two end_word (if_word ∷ []) w) (reads_form (made no_equations (seq (token (end_word ∷ [])) (token (if_word ∷ [])))) l w) (more_else l w >>= λ z. read (joined z.0) z.1) (sym n)

pub else_stuck : (l : Limits) (w : List Lexeme) (fault : Fault) (rest : List Lexeme) → false ≡ next_two end_word (if_word ∷ []) w → reads_form equation_line l w ≡ stuck fault rest → reads ElseEquations l w ≡ stuck fault rest
else_stuck l w fault rest n e = else_opens l w n ∙ ap (λ o. (o >>= λ x. reads ElseEquations l x.1 >>= λ y. let both : Outcome (Equation × List Equation) = read (x.0, y.0) y.1 in both) >>= λ z. read (joined z.0) z.1) e

pub else_turn : (l : Limits) (front now : List Equation) (w : List Lexeme) (a : Equation) (rest : List Lexeme) (all : Outcome (List Equation)) → false ≡ next_two end_word (if_word ∷ []) w → reads_form equation_line l w ≡ read a rest → now ≡ front ++ a ∷ [] → with_front front (reads ElseEquations l w) ≡ all → with_front now (reads ElseEquations l rest) ≡ all
else_turn l front now w a rest all n e pushed so_far =
    ap (λ list. with_front list (reads ElseEquations l rest)) pushed ∙ sym (again front a (reads ElseEquations l rest))
    ∙ sym (ap (λ o. with_front front ((o >>= λ x. reads ElseEquations l x.1 >>= λ y. let both : Outcome (Equation × List Equation) = read (x.0, y.0) y.1 in both) >>= λ z. read (joined z.0) z.1)) e)
    ∙ sym (ap (with_front front) (else_opens l w n)) ∙ so_far

-- ---- lists of a branch

-- equations that were read before, in front of those of the branch
abbrev pub with_first : {B : Type 0} → List Equation → Outcome (List Equation × B) → Outcome (List Equation × B)
with_first front o = o >>= λ y. read (front ++ y.0.0, y.0.1) y.1

line_again : {B : Type 0} (front : List Equation) (a : Equation) (o : Outcome (List Equation × B)) (f : Equation × (List Equation × B) → List Equation × B) → ((list : List Equation) (b : B) → f (a, (list, b)) ≡ (a ∷ list, b)) → with_first front ((o >>= λ y. let both : Outcome (Equation × (List Equation × B)) = read (a, y.0) y.1 in both) >>= λ z. read (f z.0) z.1) ≡ with_first (front ++ a ∷ []) o
line_again {B = B} front a (read (list, b) rest) f is =
    ap (λ v. let out : Outcome (List Equation × B) = read (front ++ v.0, v.1) rest in out) (is list b) ∙ ap (λ v. let out : Outcome (List Equation × B) = read (v, b) rest in out) (sym (append_assoc front (a ∷ []) list))
line_again front a (stuck fault rest) f is = refl
line_again front a unfinished f is = refl

end_commutes : {A B : Type 0} (c : A → List Equation × B) (d : A → B) → ((a : A) → c a ≡ ([], d a)) → (o : Outcome A) → (o >>= λ x. read (c x.0) x.1) ≡ behind_equations [] (o >>= λ x. read (d x.0) x.1)
end_commutes {B = B} c d is (read a rest) = ap (λ v. let out : Outcome (List Equation × B) = read v rest in out) (is a)
end_commutes c d is (stuck fault rest) = refl
end_commutes c d is unfinished = refl

-- ---- the branches of a when-equation

abbrev stop_when : Limits → List Lexeme → Outcome Branched
stop_when l w = reads_form (made no_branches (seq (token (end_word ∷ [])) (token (when_word ∷ [])))) l w

abbrev next_when : Limits → List Lexeme → Outcome Branched
next_when l w = reads_form (made branch_before (behind elsewhen_word when_branch)) l w

abbrev lines_when : Limits → List Lexeme → Outcome (Equation × Branched)
lines_when l w = reads_form equation_line l w >>= λ x. reads WhenEquations l x.1 >>= λ y. read (x.0, y.0) y.1

abbrev more_when : Limits → List Lexeme → Outcome Branched
more_when l w = lines_when l w >>= λ z. read (branched_more z.0) z.1

when_chooses : (l : Limits) (w : List Lexeme) → reads WhenEquations l w ≡ (if next_two end_word (when_word ∷ []) w then stop_when l w else (if next_in (elsewhen_word ∷ []) w then next_when l w else more_when l w))
when_chooses l w = when_equations_are l w

when_opens : (l : Limits) (w : List Lexeme) → false ≡ (next_in (elsewhen_word ∷ []) w || next_two end_word (when_word ∷ []) w) → reads WhenEquations l w ≡ more_when l w
when_opens l w n =
    let none = neither (next_in (elsewhen_word ∷ []) w) (next_two end_word (when_word ∷ []) w) (sym n) in
    when_chooses l w ∙ choose_false (next_two end_word (when_word ∷ []) w) (stop_when l w) (if next_in (elsewhen_word ∷ []) w then next_when l w else more_when l w) none.1 ∙ choose_false (next_in (elsewhen_word ∷ []) w) (next_when l w) (more_when l w) none.0

pub when_stuck : (l : Limits) (w : List Lexeme) (fault : Fault) (rest : List Lexeme) → false ≡ (next_in (elsewhen_word ∷ []) w || next_two end_word (when_word ∷ []) w) → reads_form equation_line l w ≡ stuck fault rest → reads WhenEquations l w ≡ stuck fault rest
when_stuck l w fault rest n e = when_opens l w n ∙ ap (λ o. (o >>= λ x. reads WhenEquations l x.1 >>= λ y. let both : Outcome (Equation × Branched) = read (x.0, y.0) y.1 in both) >>= λ z. read (branched_more z.0) z.1) e

pub when_turn : (l : Limits) (front now : List Equation) (w : List Lexeme) (a : Equation) (rest : List Lexeme) (all : Outcome Branched) → false ≡ (next_in (elsewhen_word ∷ []) w || next_two end_word (when_word ∷ []) w) → reads_form equation_line l w ≡ read a rest → now ≡ front ++ a ∷ [] → with_first front (reads WhenEquations l w) ≡ all → with_first now (reads WhenEquations l rest) ≡ all
when_turn l front now w a rest all n e pushed so_far =
    ap (λ list. with_first list (reads WhenEquations l rest)) pushed ∙ sym (line_again front a (reads WhenEquations l rest) branched_more (λ list b. refl))
    ∙ sym (ap (λ o. with_first front ((o >>= λ x. reads WhenEquations l x.1 >>= λ y. let both : Outcome (Equation × Branched) = read (x.0, y.0) y.1 in both) >>= λ z. read (branched_more z.0) z.1)) e)
    ∙ sym (ap (with_first front) (when_opens l w n)) ∙ so_far

pick_when : (P Q : Bool) (X Y M : Outcome Branched) (Y' X' : Outcome (List Branch)) → (P ≡ true → Q ≡ false) → true ≡ (Q || P) → X ≡ behind_equations [] X' → Y ≡ behind_equations [] Y' → (if P then X else (if Q then Y else M)) ≡ behind_equations [] (if Q then Y' else X')
pick_when true true X Y M Y' X' apart n x y = let clash = apart refl in cc
pick_when true false X Y M Y' X' apart n x y = x
pick_when false true X Y M Y' X' apart n x y = y
pick_when false false X Y M Y' X' apart n x y = cc

before_is : (a : Expr × Branched) → branch_before a ≡ ([], first_branch a)
before_is (condition, x) = refl

pub when_ends : (l : Limits) (w : List Lexeme) → true ≡ (next_in (elsewhen_word ∷ []) w || next_two end_word (when_word ∷ []) w) → reads WhenEquations l w ≡ behind_equations [] (reads_when_tail l w)
unfolding reads_when_tail
when_ends l w n =
    when_chooses l w
    ∙ pick_when (next_two end_word (when_word ∷ []) w) (next_in (elsewhen_word ∷ []) w) (stop_when l w) (next_when l w) (more_when l w) (reads_form elsewhen_tail l w) (reads_form when_end l w)
    (not_both end_word elsewhen_word (when_word ∷ []) w refl) n
    (end_commutes no_branches no_branch (λ a. refl) (reads_form (seq (token (end_word ∷ [])) (token (when_word ∷ []))) l w))
    (end_commutes branch_before first_branch before_is (reads_form (behind elsewhen_word when_branch) l w))

-- one more branch, or the end
pub tail_elsewhen : (l : Limits) (w : List Lexeme) → true ≡ next_in (elsewhen_word ∷ []) w → reads_when_tail l w ≡ reads_form elsewhen_tail l w
unfolding reads_when_tail
tail_elsewhen l w n = choose_true (next_in (elsewhen_word ∷ []) w) (reads_form elsewhen_tail l w) (reads_form when_end l w) (sym n)

pub tail_end_when : (l : Limits) (w : List Lexeme) → false ≡ next_in (elsewhen_word ∷ []) w → reads_when_tail l w ≡ reads_form when_end l w
unfolding reads_when_tail
tail_end_when l w n = choose_false (next_in (elsewhen_word ∷ []) w) (reads_form elsewhen_tail l w) (reads_form when_end l w) (sym n)

-- ---- the branches of an if-equation

abbrev stop_if : Limits → List Lexeme → Outcome BranchedElse
stop_if l w = reads_form (made no_branches_else (seq (token (end_word ∷ [])) (token (if_word ∷ [])))) l w

abbrev next_if : Limits → List Lexeme → Outcome BranchedElse
next_if l w = reads_form (made branch_before_else (behind elseif_word if_branch)) l w

abbrev else_if : Limits → List Lexeme → Outcome BranchedElse
else_if l w = reads_form (made else_only (behind else_word (symbol ElseEquations))) l w

abbrev lines_if : Limits → List Lexeme → Outcome (Equation × BranchedElse)
lines_if l w = reads_form equation_line l w >>= λ x. reads IfEquations l x.1 >>= λ y. read (x.0, y.0) y.1

abbrev more_if : Limits → List Lexeme → Outcome BranchedElse
more_if l w = lines_if l w >>= λ z. read (branched_else_more z.0) z.1

if_chooses : (l : Limits) (w : List Lexeme) → reads IfEquations l w ≡ (if next_two end_word (if_word ∷ []) w then stop_if l w else (if next_in (elseif_word ∷ []) w then next_if l w else (if next_in (else_word ∷ []) w then else_if l w else more_if l w)))
if_chooses l w = if_equations_are l w

-- what ends the equations of a branch
abbrev pub ends_if : List Lexeme → Bool
ends_if w = next_in (elseif_word ∷ else_word ∷ []) w || next_two end_word (if_word ∷ []) w

if_opens : (l : Limits) (w : List Lexeme) → false ≡ ends_if w → reads IfEquations l w ≡ more_if l w
if_opens l w n =
    let P = next_two end_word (if_word ∷ []) w in
    let Q = next_in (elseif_word ∷ []) w in
    let R = next_in (else_word ∷ []) w in
    let none = neither (next_in (elseif_word ∷ else_word ∷ []) w) P (sym n) in
    let neither_mark = neither Q R (sym (next_of_two elseif_word else_word w) ∙ none.0) in
    if_chooses l w ∙ choose_false P (stop_if l w) (if Q then next_if l w else (if R then else_if l w else more_if l w)) none.1
    ∙ choose_false Q (next_if l w) (if R then else_if l w else more_if l w) neither_mark.0 ∙ choose_false R (else_if l w) (more_if l w) neither_mark.1

pub if_stuck : (l : Limits) (w : List Lexeme) (fault : Fault) (rest : List Lexeme) → false ≡ ends_if w → reads_form equation_line l w ≡ stuck fault rest → reads IfEquations l w ≡ stuck fault rest
if_stuck l w fault rest n e = if_opens l w n ∙ ap (λ o. (o >>= λ x. reads IfEquations l x.1 >>= λ y. let both : Outcome (Equation × BranchedElse) = read (x.0, y.0) y.1 in both) >>= λ z. read (branched_else_more z.0) z.1) e

pub if_turn : (l : Limits) (front now : List Equation) (w : List Lexeme) (a : Equation) (rest : List Lexeme) (all : Outcome BranchedElse) → false ≡ ends_if w → reads_form equation_line l w ≡ read a rest → now ≡ front ++ a ∷ [] → with_first front (reads IfEquations l w) ≡ all → with_first now (reads IfEquations l rest) ≡ all
if_turn l front now w a rest all n e pushed so_far =
    ap (λ list. with_first list (reads IfEquations l rest)) pushed ∙ sym (line_again front a (reads IfEquations l rest) branched_else_more (λ list b. refl))
    ∙ sym (ap (λ o. with_first front ((o >>= λ x. reads IfEquations l x.1 >>= λ y. let both : Outcome (Equation × BranchedElse) = read (x.0, y.0) y.1 in both) >>= λ z. read (branched_else_more z.0) z.1)) e)
    ∙ sym (ap (with_first front) (if_opens l w n)) ∙ so_far

abbrev no_branch_after : Outcome (List Equation) → Outcome Tail
no_branch_after o = o >>= λ x. read (no_branch_else x.0) x.1

pick_if : (P Q R : Bool) (X Y Z M : Outcome BranchedElse) (Y' : Outcome Tail) (Z' X' : Outcome (List Equation)) → (P ≡ true → Q ≡ false) → (P ≡ true → R ≡ false) → true ≡ ((Q || R) || P) → X ≡ behind_equations [] (no_branch_after X') → Y ≡ behind_equations [] Y' → Z ≡ behind_equations [] (no_branch_after Z')
    → (if P then X else (if Q then Y else (if R then Z else M))) ≡ behind_equations [] (if Q then Y' else no_branch_after (if R then Z' else X'))
pick_if true true R X Y Z M Y' Z' X' apart apart' n x y z = let clash = apart refl in cc
pick_if true false true X Y Z M Y' Z' X' apart apart' n x y z = let clash = apart' refl in cc
pick_if true false false X Y Z M Y' Z' X' apart apart' n x y z = x
pick_if false true R X Y Z M Y' Z' X' apart apart' n x y z = y
pick_if false false true X Y Z M Y' Z' X' apart apart' n x y z = z
pick_if false false false X Y Z M Y' Z' X' apart apart' n x y z = cc

before_else_is : (a : Expr × BranchedElse) → branch_before_else a ≡ ([], first_branch_else a)
before_else_is (condition, x) = refl

stop_is : (o : Outcome (Lexeme × Lexeme)) → (o >>= λ x. read (no_branches_else x.0) x.1) ≡ behind_equations [] (no_branch_after (o >>= λ x. read (no_equations x.0) x.1))
stop_is (read a rest) = refl
stop_is (stuck fault rest) = refl
stop_is unfinished = refl

pub if_ends : (l : Limits) (w : List Lexeme) → true ≡ ends_if w → reads IfEquations l w ≡ behind_equations [] (reads_if_tail l w)
unfolding reads_if_tail
if_ends l w n =
    let P = next_two end_word (if_word ∷ []) w in
    if_chooses l w
    ∙ pick_if P (next_in (elseif_word ∷ []) w) (next_in (else_word ∷ []) w) (stop_if l w) (next_if l w) (else_if l w) (more_if l w) (reads_form elseif_tail l w) (reads_form (behind else_word (symbol ElseEquations)) l w) (reads_form (made no_equations (seq (token (end_word ∷ [])) (token (if_word ∷ [])))) l w)
    (not_both end_word elseif_word (if_word ∷ []) w refl) (not_both end_word else_word (if_word ∷ []) w refl)
    (n ∙ ap (λ b. b || P) (next_of_two elseif_word else_word w))
    (stop_is (reads_form (seq (token (end_word ∷ [])) (token (if_word ∷ []))) l w))
    (end_commutes branch_before_else first_branch_else before_else_is (reads_form (behind elseif_word if_branch) l w))
    (end_commutes else_only no_branch_else (λ a. refl) (reads_form (behind else_word (symbol ElseEquations)) l w))

-- one more branch, or what follows them
pub tail_elseif : (l : Limits) (w : List Lexeme) → true ≡ next_in (elseif_word ∷ []) w → reads_if_tail l w ≡ reads_form elseif_tail l w
unfolding reads_if_tail
tail_elseif l w n = choose_true (next_in (elseif_word ∷ []) w) (reads_form elseif_tail l w) (reads_form (made no_branch_else if_end) l w) (sym n)

pub tail_end_if : (l : Limits) (w : List Lexeme) → false ≡ next_in (elseif_word ∷ []) w → reads_if_tail l w ≡ reads_form (made no_branch_else if_end) l w
unfolding reads_if_tail
tail_end_if l w n = choose_false (next_in (elseif_word ∷ []) w) (reads_form elseif_tail l w) (reads_form (made no_branch_else if_end) l w) (sym n)

-- ---- branches that were read

-- in front of those that follow
abbrev pub with_when : List Branch → Outcome (List Branch) → Outcome EquationKind
with_when front o = o >>= λ y. read (When (front ++ y.0)) y.1

abbrev pub with_if : List Branch → Outcome Tail → Outcome EquationKind
with_if front o = o >>= λ y. read (If (front ++ y.0.0) y.0.1) y.1

when_kept : (front : List Branch) (branch : Branch) (o : Outcome (List Branch)) → with_when front (joined_branch branch o) ≡ with_when (front ++ branch ∷ []) o
when_kept front branch (read list rest) = ap (λ v. let out : Outcome EquationKind = read (When v) rest in out) (sym (append_assoc front (branch ∷ []) list))
when_kept front branch (stuck fault rest) = refl
when_kept front branch unfinished = refl

pub branch_turn_when : (l : Limits) (front now : List Branch) (w : List Lexeme) (branch : Branch) (rest : List Lexeme) (all : Outcome EquationKind) → true ≡ next_in (elsewhen_word ∷ []) w → reads_form elsewhen_tail l w ≡ joined_branch branch (reads_when_tail l rest) → now ≡ front ++ branch ∷ [] → with_when front (reads_when_tail l w) ≡ all → with_when now (reads_when_tail l rest) ≡ all
branch_turn_when l front now w branch rest all n e pushed so_far =
    ap (λ list. with_when list (reads_when_tail l rest)) pushed ∙ sym (when_kept front branch (reads_when_tail l rest)) ∙ sym (ap (with_when front) (tail_elsewhen l w n ∙ e)) ∙ so_far

if_kept : (front : List Branch) (branch : Branch) (o : Outcome Tail) → with_if front (joined_branch_else branch o) ≡ with_if (front ++ branch ∷ []) o
if_kept front branch (read (list, equations) rest) = ap (λ v. let out : Outcome EquationKind = read (If v equations) rest in out) (sym (append_assoc front (branch ∷ []) list))
if_kept front branch (stuck fault rest) = refl
if_kept front branch unfinished = refl

pub branch_turn_if : (l : Limits) (front now : List Branch) (w : List Lexeme) (branch : Branch) (rest : List Lexeme) (all : Outcome EquationKind) → true ≡ next_in (elseif_word ∷ []) w → reads_form elseif_tail l w ≡ joined_branch_else branch (reads_if_tail l rest) → now ≡ front ++ branch ∷ [] → with_if front (reads_if_tail l w) ≡ all → with_if now (reads_if_tail l rest) ≡ all
branch_turn_if l front now w branch rest all n e pushed so_far =
    ap (λ list. with_if list (reads_if_tail l rest)) pushed ∙ sym (if_kept front branch (reads_if_tail l rest)) ∙ sym (ap (with_if front) (tail_elseif l w n ∙ e)) ∙ so_far

-- ---- where a loop ends

pub for_done : (l : Limits) (front : List Equation) (w : List Lexeme) (t : Lexeme) (v : List Lexeme) (u : Lexeme) (rest : List Lexeme) (all : Outcome (List Equation)) → true ≡ next_two end_word (for_word ∷ []) w → reads_token (end_word ∷ []) w ≡ read t v → reads_token (for_word ∷ []) v ≡ read u rest → with_front front (reads ForEquations l w) ≡ all → all ≡ read front rest
for_done l front w t v u rest all n one other so_far =
    sym so_far ∙ ap (with_front front) (for_ends l w n ∙ ap (λ o. (o >>= λ x. reads_token (for_word ∷ []) x.1 >>= λ y. let both : Outcome (Lexeme × Lexeme) = read (x.0, y.0) y.1 in both) >>= λ z. let none : Outcome (List Equation) = read [] z.1 in none) one ∙ ap (λ o. (o >>= λ y. let both : Outcome (Lexeme × Lexeme) = read (t, y.0) y.1 in both) >>= λ z. let none : Outcome (List Equation) = read [] z.1 in none) other)
    ∙ ap (λ list. let out : Outcome (List Equation) = read list rest in out) (append-nil front)

pub else_done : (l : Limits) (front : List Equation) (w : List Lexeme) (t : Lexeme) (v : List Lexeme) (u : Lexeme) (rest : List Lexeme) (all : Outcome (List Equation)) → true ≡ next_two end_word (if_word ∷ []) w → reads_token (end_word ∷ []) w ≡ read t v → reads_token (if_word ∷ []) v ≡ read u rest → with_front front (reads ElseEquations l w) ≡ all → all ≡ read front rest
else_done l front w t v u rest all n one other so_far =
    sym so_far ∙ ap (with_front front) (else_ends l w n ∙ ap (λ o. (o >>= λ x. reads_token (if_word ∷ []) x.1 >>= λ y. let both : Outcome (Lexeme × Lexeme) = read (x.0, y.0) y.1 in both) >>= λ z. let none : Outcome (List Equation) = read [] z.1 in none) one ∙ ap (λ o. (o >>= λ y. let both : Outcome (Lexeme × Lexeme) = read (t, y.0) y.1 in both) >>= λ z. let none : Outcome (List Equation) = read [] z.1 in none) other)
    ∙ ap (λ list. let out : Outcome (List Equation) = read list rest in out) (append-nil front)

front_behind : {B : Type 0} (front : List Equation) (o : Outcome B) → with_first front (behind_equations [] o) ≡ behind_equations front o
front_behind {B = B} front (read b rest) = ap (λ list. let out : Outcome (List Equation × B) = read (list, b) rest in out) (append-nil front)
front_behind front (stuck fault rest) = refl
front_behind front unfinished = refl

pub when_done : (l : Limits) (front : List Equation) (w : List Lexeme) (all : Outcome Branched) → true ≡ (next_in (elsewhen_word ∷ []) w || next_two end_word (when_word ∷ []) w) → with_first front (reads WhenEquations l w) ≡ all → all ≡ behind_equations front (reads_when_tail l w)
when_done l front w all n so_far = sym so_far ∙ ap (with_first front) (when_ends l w n) ∙ front_behind front (reads_when_tail l w)

pub if_done : (l : Limits) (front : List Equation) (w : List Lexeme) (all : Outcome BranchedElse) → true ≡ ends_if w → with_first front (reads IfEquations l w) ≡ all → all ≡ behind_equations front (reads_if_tail l w)
if_done l front w all n so_far = sym so_far ∙ ap (with_first front) (if_ends l w n) ∙ front_behind front (reads_if_tail l w)

pub branches_done_when : (l : Limits) (front : List Branch) (w : List Lexeme) (t : Lexeme) (v : List Lexeme) (u : Lexeme) (rest : List Lexeme) (all : Outcome EquationKind) → false ≡ next_in (elsewhen_word ∷ []) w → reads_token (end_word ∷ []) w ≡ read t v → reads_token (when_word ∷ []) v ≡ read u rest → with_when front (reads_when_tail l w) ≡ all → all ≡ read (When front) rest
branches_done_when l front w t v u rest all n one other so_far =
    sym so_far ∙ ap (with_when front) (tail_end_when l w n ∙ ap (λ o. (o >>= λ x. reads_token (when_word ∷ []) x.1 >>= λ y. let both : Outcome (Lexeme × Lexeme) = read (x.0, y.0) y.1 in both) >>= λ z. let none : Outcome (List Branch) = read [] z.1 in none) one ∙ ap (λ o. (o >>= λ y. let both : Outcome (Lexeme × Lexeme) = read (t, y.0) y.1 in both) >>= λ z. let none : Outcome (List Branch) = read [] z.1 in none) other)
    ∙ ap (λ list. let out : Outcome EquationKind = read (When list) rest in out) (append-nil front)

pub branches_done_if : (l : Limits) (front : List Branch) (w : List Lexeme) (equations : List Equation) (rest : List Lexeme) (all : Outcome EquationKind) → false ≡ next_in (elseif_word ∷ []) w → reads_form if_end l w ≡ read equations rest → with_if front (reads_if_tail l w) ≡ all → all ≡ read (If front equations) rest
branches_done_if l front w equations rest all n ending so_far =
    sym so_far ∙ ap (with_if front) (tail_end_if l w n ∙ ap (λ o. o >>= λ x. let tail : Outcome Tail = read (no_branch_else x.0) x.1 in tail) ending)
    ∙ ap (λ list. let out : Outcome EquationKind = read (If list equations) rest in out) (append-nil front)
