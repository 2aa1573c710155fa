-- How far the tokens of a text have been read.
use Rattle.std.proofs.Common.{◌≡◌, ℕ, ◌+◌, ◌-◌, ◌≤◌, Bool, true, false, ◌&&◌, List, [], ◌∷◌, ◌++◌, length, take, drop, get_or, eqb, refl, sym, ap, subst, ◌∙◌, arith, append_assoc, append-nil, take-append-drop, length-drop}
use Rattle.std.specs.Str.{IsUtf8, IsCharBoundary}
use Rattle.std.proofs.lemmas.List.{map-append}
use Rattle.std.proofs.lemmas.Bool.Decides.{nat_tests}
use Rattle.std.proofs.lemmas.Str.{IsUtf8-past_char, IsCharBoundary-at_seam}
use lib.Utf8.{encode}
use Rattle.mo_syntax.specs.declared.place.Broken.{Broken}
use Rattle.mo_syntax.specs.declared.place.Place.{Place}
use Rattle.mo_syntax.specs.declared.token.Token.{Token}
use Rattle.mo_syntax.specs.declared.token.TokenKind.{TokenKind}
use Rattle.mo_syntax.specs.declared.token.TokenKind.TheVariants.{End}
use Rattle.mo_lexer.specs.Spelling.{Spells, IsWithinLimit, IsSeparator}
use Rattle.mo_syntax.specs.Lexeme.{Lexeme, lexeme, lexemes}
use Rattle.mo_lexer.specs.Lexing.{Fits, Reads, stops, skips, takes, after_mark, end_of, Lexes, IsStuck, Breaks, place_before, IsRefused}

unfoldable pub placed : ℕ → ℕ → Place
placed file byte = record { file = file; byte = byte }

-- the tokens found are those before rest
pub record Reached (file : ℕ) (text : List ℕ) (found : List Token) (rest : List ℕ) : Type 0 where
  pub within : length rest ≤ length text
  pub so_far : (more : List Lexeme) (left : List ℕ) → Reads file text rest more left → Reads file text (after_mark text) (lexemes found ++ more) left

after_mark_within : (text : List ℕ) → length (after_mark text) ≤ length text
after_mark_within [] = omega arith
after_mark_within (a ∷ []) = omega arith
after_mark_within (a ∷ b ∷ []) = omega arith
after_mark_within (a ∷ b ∷ c ∷ rest) = go ((eqb a 0xEF) && (eqb b 0xBB) && (eqb c 0xBF)) refl
  where
    go : (r : Bool) → ((eqb a 0xEF) && (eqb b 0xBB) && (eqb c 0xBF)) ≡ r → length (after_mark (a ∷ b ∷ c ∷ rest)) ≤ length (a ∷ b ∷ c ∷ rest)
    go true e = rw e (omega arith)
    go false e = rw e (omega arith)

pub reached_none : (file : ℕ) (text rest : List ℕ) → rest ≡ after_mark text → Reached file text [] rest
reached_none file text rest e = record {
  within = rw e (after_mark_within text);
  so_far = λ more left r. subst (λ x. Reads file text x more left) e r;
}

module _ (file : ℕ) (text : List ℕ) (found : List Token) (rest : List ℕ) (so_far : Reached file text found rest) where
  pub reached_skip : (n : ℕ) (after : List ℕ) → after ≡ drop n rest → IsSeparator (take n rest) → Fits (take n rest) (drop n rest) → Reached file text found after
  reached_skip n after e separator fits = record {
    within = rw e (omega (arith, length-drop n rest, so_far.within));
    so_far = λ more left r. so_far.so_far more left (skips (take n rest) (drop n rest) (sym (take-append-drop n rest)) separator fits (subst (λ x. Reads file text x more left) e r));
  }

  pub reached_take : (n : ℕ) (token : Token) (after : List ℕ) (longer : List Token) → after ≡ drop n rest → token.text.now ≡ take n rest → token.place ≡ place_before file text rest → longer ≡ found ++ token ∷ []
      → Spells token.kind (take n rest) → Fits (take n rest) (drop n rest) → IsWithinLimit token.kind (take n rest) → Reached file text longer after
  reached_take n token after longer e spelled place pushed spells fits limit = record {
    within = rw e (omega (arith, length-drop n rest, so_far.within));
    so_far = λ more left r.
        let one : Reads file text rest (lexeme token ∷ more) left =
        takes (drop n rest) (sym (take-append-drop n rest) ∙ ap (λ x. x ++ drop n rest) (sym spelled)) (subst (Spells token.kind) (sym spelled) spells)
        (subst (λ x. Fits x (drop n rest)) (sym spelled) fits) (subst (IsWithinLimit token.kind) (sym spelled) limit) place (subst (λ x. Reads file text x more left) e r) in
        let joined : lexemes longer ++ more ≡ lexemes found ++ (lexeme token ∷ more) =
        ap (λ x. lexemes x ++ more) pushed ∙ ap (λ x. x ++ more) (map-append lexeme found (token ∷ [])) ∙ append_assoc (lexemes found) (lexeme token ∷ []) more in
        subst (λ x. Reads file text (after_mark text) x left) (sym joined) (so_far.so_far (lexeme token ∷ more) left one);
  }

  pub reached_refused : (at : ℕ) (broken : Broken) → IsStuck rest → Breaks rest broken.rule at → broken.place ≡ record { file = file; byte = (length text - length rest) + at } → IsRefused file text broken
  reached_refused at broken stuck breaks place =
      record { tokens = lexemes found; left = rest; at = at; front = subst (λ x. Reads file text (after_mark text) x rest) (append-nil (lexemes found)) (so_far.so_far [] rest (stops refl)); stuck = stuck; breaks = breaks; place = place }

  pub reached_end : (token : Token) (longer : List Token) → rest ≡ [] → longer ≡ found ++ token ∷ [] → lexeme token ≡ end_of file text → Lexes file text (lexemes longer)
  reached_end token longer none pushed end =
      record {
        before_end = lexemes found;
        all = subst (λ x. Reads file text (after_mark text) x []) (append-nil (lexemes found)) (so_far.so_far [] [] (stops none));
        closed = ap lexemes pushed ∙ map-append lexeme found (token ∷ []) ∙ ap (λ x. lexemes found ++ x ∷ []) end;
      }

-- a text may be cut after its byte order mark
pub cut_after_mark : (bytes : List ℕ) → IsUtf8 bytes → 3 ≤ length bytes → get_or bytes 0 0 ≡ 239 → get_or bytes 1 0 ≡ 187 → get_or bytes 2 0 ≡ 191 → IsCharBoundary bytes 3
unfolding encode
cut_after_mark [] utf8 long first second third = absurd (omega arith)
cut_after_mark (a ∷ []) utf8 long first second third = absurd (omega arith)
cut_after_mark (a ∷ b ∷ []) utf8 long first second third = absurd (omega arith)
cut_after_mark (a ∷ b ∷ c ∷ t) utf8 long first second third =
    let whole : a ∷ b ∷ c ∷ t ≡ encode 0xFEFF ++ t = rw (first, second, third) refl in
    IsCharBoundary-at_seam (a ∷ b ∷ c ∷ t) (encode 0xFEFF) t whole (IsUtf8-past_char (a ∷ b ∷ c ∷ t) t 0xFEFF utf8 whole)

pub refused_place : (file : ℕ) (text rest : List ℕ) (at : ℕ) (place : Place) → place ≡ place_before file text rest → placed file (place.byte + at) ≡ placed file ((length text - length rest) + at)
unfolding placed
refused_place file text rest at place e = ap (λ (p : Place). placed file (p.byte + at)) e

pub empty_rest : (rest : List ℕ) (r : Bool) → r ≡ eqb (length rest) 0 → r ≡ true → rest ≡ []
empty_rest [] r e h = refl
empty_rest (b ∷ rest) r e h =
    let off : eqb (length (b ∷ rest)) 0 ≡ false = grind (arith, nat_tests) in cc

unfoldable pub made : TokenKind → List ℕ → Place → Lexeme
made kind text place = record { kind = kind; text = text; place = place }

pub end_lexeme : (file : ℕ) (text rest : List ℕ) (place : Place) → rest ≡ [] → place ≡ place_before file text rest → made End rest place ≡ end_of file text
unfolding made placed
end_lexeme file text rest place none e =
    let byte : length text - length rest ≡ length text = omega (arith, ap length none) in
    let there : place ≡ placed file (length text) = e ∙ ap (placed file) byte in
    let both : made End rest place ≡ made End [] (placed file (length text)) = ap (λ x. made End x place) none ∙ ap (made End []) there in
    both
