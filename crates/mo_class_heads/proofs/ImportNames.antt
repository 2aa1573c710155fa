-- The names of import clauses, one identifier after another.
use Rattle.std.proofs.Common.{◌≡◌, ◌==◌, ℕ, Bool, true, false, List, [], ◌∷◌, ◌++◌, Option, Some, None, refl, sym, ap, subst, ◌∙◌, append_assoc, eqb-true, inl, inr}
use Rattle.mo_grammar.specs.declared.fault.Fault.TheVariants.{Misplaced}
use Rattle.mo_grammar.specs.Codes.{ident, dot, times, open_brace}
use Rattle.mo_grammar.specs.Lexeme.{Lexeme, code_of}
use Rattle.mo_grammar.specs.Grammar.{Limits, token, has}
use Rattle.mo_grammar.specs.Forms.{behind}
use Rattle.mo_grammar.specs.ClassTrees.{Imported, imported}
use Rattle.mo_grammar.specs.Symbols.{ImportNames}
use Rattle.mo_grammar.specs.Reading.{Outcome, read, stuck, unfinished, ◌>>=◌, next_in, next_two, reads_token}
use Rattle.mo_grammar.specs.Language.{reads, reads_form}
use Rattle.mo_grammar.proofs.Codes.{both, told, never}
use Rattle.mo_grammar.proofs.Readers.{import_names_are}
use Rattle.mo_class_heads.specs.Imports.{import_tail, with_names}

pub one_code : (c d : ℕ) → has (c ∷ []) d ≡ true → d ≡ c
one_code c d e = go (c == d) refl e
  where
    go : (b : Bool) → (c == d) ≡ b → has (c ∷ []) d ≡ true → d ≡ c
    go true s e = sym (eqb-true c d s)
    go false s e = never (has (c ∷ []) d) e (rw s refl)

first_kept : (t : Lexeme) (o : Outcome (Option Imported)) → with_names (t ∷ []) o ≡ ((o >>= λ y. let both : Outcome (Lexeme × Option Imported) = read (t, y.0) y.1 in both) >>= λ x. read (imported x.0) x.1)
first_kept t (read None rest) = refl
first_kept t (read (Some x) rest) = refl
first_kept t (stuck fault rest) = refl
first_kept t unfinished = refl

-- an identifier, and what stands behind it
pub names_first : (l : Limits) (t : Lexeme) (w rest : List Lexeme) → reads_token (ident ∷ []) w ≡ read t rest → with_names (t ∷ []) (reads_form import_tail l rest) ≡ reads ImportNames l w
names_first l t w rest e =
    let next : Lexeme × List Lexeme → Outcome (Lexeme × Option Imported) = λ x. reads_form import_tail l x.1 >>= λ y. read (x.0, y.0) y.1 in
    first_kept t (reads_form import_tail l rest) ∙ sym (import_names_are l w ∙ ap (λ o. let all : Outcome Imported = (o >>= next) >>= λ x. read (imported x.0) x.1 in all) e)

next_kept : (front : List Lexeme) (d t : Lexeme) (o : Outcome (Option Imported)) → with_names front (((with_names (t ∷ []) o >>= λ y. let both : Outcome (Lexeme × Imported) = read (d, y.0) y.1 in both) >>= λ x. let second : Outcome Imported = read x.0.1 x.1 in second) >>= λ x. read (Some x.0) x.1) ≡ with_names (front ++ t ∷ []) o
next_kept front d t (read None rest) = refl
next_kept front d t (read (Some x) rest) = ap (λ v. let all : Outcome Imported = read (v, x.1) rest in all) (sym (append_assoc front (t ∷ []) x.0))
next_kept front d t (stuck fault rest) = refl
next_kept front d t unfinished = refl

next_named : (l : Limits) (front : List Lexeme) (d u : Lexeme) (w : List Lexeme) → code_of d ≡ dot → code_of u ≡ ident → with_names front (reads_form import_tail l (d ∷ u ∷ w)) ≡ with_names (front ++ u ∷ []) (reads_form import_tail l w)
next_named l front d u w dotted named =
    let first : with_names (u ∷ []) (reads_form import_tail l w) ≡ reads ImportNames l (u ∷ w) = names_first l u (u ∷ w) w (rw named refl) in
    rw dotted (rw named (rw (← first) (next_kept front d u (reads_form import_tail l w))))

abbrev after : Limits → List Lexeme → Outcome Lexeme → Outcome Imported
after l front (read t rest) = with_names (front ++ t ∷ []) (reads_form import_tail l rest)
after l front (stuck fault rest) = unfinished
after l front unfinished = unfinished

-- a dot and one more identifier
pub names_next : (l m : Limits) (front : List Lexeme) (w : List Lexeme) (t : Lexeme) (rest : List Lexeme) → next_two dot (ident ∷ []) w ≡ true → reads_form (behind dot (token (ident ∷ []))) m w ≡ read t rest → with_names front (reads_form import_tail l w) ≡ with_names (front ++ t ∷ []) (reads_form import_tail l rest)
names_next l m front [] t rest e r = cc
names_next l m front (d ∷ []) t rest e r = cc
names_next l m front (d ∷ u ∷ w) t rest e r =
    let p = both (dot == code_of d) (has (ident ∷ []) (code_of u)) e in
    let dotted : code_of d ≡ dot = sym (eqb-true dot (code_of d) p.0) in
    let named : code_of u ≡ ident = one_code ident (code_of u) p.1 in
    let is : read u w ≡ read t rest = rw named at (rw dotted at r) in
    next_named l front d u w dotted named ∙ ap (after l front) is

names_there : (l : Limits) (w : List Lexeme) → next_in (ident ∷ []) w ≡ false → reads ImportNames l w ≡ stuck Misplaced w
names_there l [] e = import_names_are l []
names_there l (u ∷ w) e = import_names_are l (u ∷ w) ∙ rw e refl

next_alone : (d : Lexeme) (w : List Lexeme) → code_of d ≡ dot → next_two dot (ident ∷ []) (d ∷ w) ≡ false → next_in (ident ∷ []) w ≡ false
next_alone d [] dotted e = refl
next_alone d (u ∷ w) dotted e = rw dotted at e

stuck_at : (l : Limits) (d : Lexeme) (w : List Lexeme) → code_of d ≡ dot → next_two dot (ident ∷ []) (d ∷ w) ≡ false → next_in (times ∷ []) w ≡ false → next_in (open_brace ∷ []) w ≡ false → reads_form import_tail l (d ∷ w) ≡ stuck Misplaced w
stuck_at l d w dotted e m b = rw dotted (rw m (rw b (rw (names_there l w (next_alone d w dotted e)) refl)))

abbrev pub rest_of : Outcome Lexeme → List Lexeme
rest_of (read t rest) = rest
rest_of (stuck fault rest) = []
rest_of unfinished = []

-- neither an identifier nor what else may stand behind a dot
pub names_stuck : (l : Limits) (w : List Lexeme) (t : Lexeme) (rest : List Lexeme) → next_two dot (ident ∷ []) w ≡ false → reads_token (dot ∷ []) w ≡ read t rest → next_in (times ∷ []) rest ≡ false → next_in (open_brace ∷ []) rest ≡ false → reads_form import_tail l w ≡ stuck Misplaced rest
names_stuck l [] t rest e r m b = cc
names_stuck l (d ∷ w) t rest e r m b = elim (told (has (dot ∷ []) (code_of d))) [
  | inl found ↦
      let dotted : code_of d ≡ dot = one_code dot (code_of d) found in
      let is : w ≡ rest = ap rest_of (rw dotted at r) in
      subst (λ v. reads_form import_tail l (d ∷ w) ≡ stuck Misplaced v) is (stuck_at l d w dotted e (rw is m) (rw is b))
  | inr none ↦ let clash = rw none at r in cc
]
