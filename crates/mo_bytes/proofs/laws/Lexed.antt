-- The tokens of a text begin in its file, not past its end, and so do the rules that the text breaks.
use Rattle.std.proofs.Common.{◌≡◌, ◌≤◌, ◌+◌, ℕ, Bool, true, false, ◌&&◌, List, [], ◌∷◌, length, length-append, eqb, refl, ap, sym, subst, arith}
use Rattle.mo_syntax.specs.Lexeme.{Lexeme}
use Rattle.mo_syntax.specs.declared.place.Broken.{Broken}
use Rattle.mo_syntax.specs.declared.place.Place.{Place}
use Rattle.mo_lexer.specs.Lexing.{Breaks, IsBadAt, IsRefused, Lexes, Reads, after_mark, bad_byte, cut_by_end, end_of, in_quoted, in_string, no_token, place_before, skips, stops, takes, too_wide}
use Rattle.mo_parse_class.specs.WholeFiles.{IsAtImpossible}
use Rattle.mo_places.specs.Stands.{Every}
use Rattle.mo_places.proofs.laws.Standing.{every_append, every_back}
use Rattle.mo_bytes.specs.Bytes.{IsByteOf}

-- ---- tokens

before_in : (k : ℕ) (whole rest : List ℕ) (place : Place) → place ≡ place_before k whole rest → IsByteOf k whole place
before_in k whole rest place is = record {
  file = ap (λ (p : Place). p.file) is;
  byte = subst (λ (p : Place). p.byte ≤ length whole) (sym is) (omega arith);
}

reads_in : (k : ℕ) (whole rest : List ℕ) (tokens : List Lexeme) (left : List ℕ) → Reads k whole rest tokens left → Every (λ (t : Lexeme). IsByteOf k whole t.place) tokens
reads_in k whole rest tokens left (stops e) = tt
reads_in k whole rest tokens left (skips piece after e s f others) = reads_in k whole after tokens left others
reads_in k whole rest (t ∷ tokens) left (takes after e s f w is others) = (before_in k whole rest t.place is, reads_in k whole after tokens left others)

pub tokens_in : (k : ℕ) (text : List ℕ) (tokens : List Lexeme) → Lexes k text tokens → Every (λ (t : Lexeme). IsByteOf k text t.place) tokens
tokens_in k text tokens lexes =
    subst (Every (λ (t : Lexeme). IsByteOf k text t.place)) (sym lexes.closed)
    (every_append (λ (t : Lexeme). IsByteOf k text t.place) lexes.before_end (end_of k text ∷ []) (reads_in k text (after_mark text) lexes.before_end [] lexes.all)
    (record { file = refl; byte = omega arith }, tt))

-- ---- rules that a text breaks

-- what is left is no longer than what was left before
no_longer : (k : ℕ) (whole rest : List ℕ) (tokens : List Lexeme) (left : List ℕ) → Reads k whole rest tokens left → length left ≤ length rest
no_longer k whole rest tokens left (stops e) = subst (λ (z : List ℕ). length z ≤ length rest) e (omega arith)
no_longer k whole rest tokens left (skips piece after e s f others) =
    subst (λ (z : List ℕ). length left ≤ length z) (sym e) (omega (arith, length-append piece after, no_longer k whole after tokens left others))
no_longer k whole rest (t ∷ tokens) left (takes after e s f w is others) =
    subst (λ (z : List ℕ). length left ≤ length z) (sym e) (omega (arith, length-append t.text after, no_longer k whole after tokens left others))

after_mark_within : (text : List ℕ) → length (after_mark text) ≤ length text
after_mark_within [] = omega arith
after_mark_within (a ∷ []) = omega arith
after_mark_within (a ∷ b ∷ []) = omega arith
after_mark_within (a ∷ b ∷ c ∷ rest) = by ((eqb a 0xEF) && (eqb b 0xBB) && (eqb c 0xBF)) refl
  where
    by : (r : Bool) → ((eqb a 0xEF) && (eqb b 0xBB) && (eqb c 0xBF)) ≡ r → length (after_mark (a ∷ b ∷ c ∷ rest)) ≤ length (a ∷ b ∷ c ∷ rest)
    by true e = rw e (omega arith)
    by false e = rw e (omega arith)

bad_within : (left : List ℕ) (at : ℕ) → IsBadAt left at → at ≤ length left
bad_within left at (in_string body after e contents escaped is) =
    subst (λ (n : ℕ). n ≤ length left) (sym is) (subst (λ (z : List ℕ). 1 + length body ≤ length z) (sym e) (omega (arith, length-append body (92 ∷ after))))
bad_within left at (in_quoted body b after e contents quotable one escape is) =
    subst (λ (n : ℕ). n ≤ length left) (sym is) (subst (λ (z : List ℕ). 1 + length body ≤ length z) (sym e) (omega (arith, length-append body (b ∷ after))))

breaks_within : (left : List ℕ) (rule at : ℕ) → Breaks left rule at → at ≤ length left
breaks_within left rule at (too_wide wide r is) = subst (λ (n : ℕ). n ≤ length left) (sym is) (omega arith)
breaks_within left rule at (cut_by_end wide cut r is) = subst (λ (n : ℕ). n ≤ length left) (sym is) (omega arith)
breaks_within left rule at (bad_byte wide cut bad r) = bad_within left at bad
breaks_within left rule at (no_token wide cut bad r is) = subst (λ (n : ℕ). n ≤ length left) (sym is) (omega arith)

pub refused_in : (k : ℕ) (text : List ℕ) (b : Broken) → IsRefused k text b → IsByteOf k text b.place
refused_in k text b refused =
    let front = no_longer k text (after_mark text) refused.tokens refused.left refused.front in
    let mark = after_mark_within text in
    let there = breaks_within refused.left b.rule refused.at refused.breaks in
    record {
      file = ap (λ (p : Place). p.file) refused.place;
      byte = subst (λ (p : Place). p.byte ≤ length text) (sym refused.place) (omega (arith, front, mark, there));
    }

-- ---- rules that tokens break

pub impossible_in : (Q : Place → Type 0) (tokens : List Lexeme) (b : Broken) → IsAtImpossible tokens b → Every (λ (t : Lexeme). Q t.place) tokens → Q b.place
impossible_in Q tokens b at h =
    let all = subst (Every (λ (t : Lexeme). Q t.place)) at.parts h in
    let here = every_back (λ (t : Lexeme). Q t.place) at.before (at.token ∷ at.rest) all in
    subst (λ (other : Broken). Q other.place) (sym at.is) here.0
