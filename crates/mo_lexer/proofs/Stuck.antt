-- Where no piece fits, and what is the longest that does.
use Rattle.std.proofs.Common.{◌≡◌, ℕ, suc, ◌+◌, ◌-◌, ◌<◌, ◌≤◌, inl, inr, true, List, [], ◌∷◌, ◌++◌, length, take, drop, get_or, refl, sym, ap, subst, ◌∙◌, arith, append_assoc, take-append-drop, length-append, length-take-le}
use Rattle.std.specs.Str.{IsCharBoundary}
use Rattle.std.proofs.lemmas.Str.{IsCharBoundary-after_ascii}
use Rattle.mo_syntax.specs.declared.rules.TheConstants.{LITERAL_TOO_WIDE}
use Rattle.mo_syntax.specs.declared.token.TokenKind.{TokenKind}
use Rattle.mo_lexer.specs.Spelling.{Spells, IsWithinLimit, IsComment, IsSeparator}
use Rattle.mo_lexer.specs.Lexing.{IsPiece, opens_block, Fits, IsStuck, IsTooWide, Breaks, too_wide}
use Rattle.mo_lexer.specs.steps.Finding.{IsCut}
use Rattle.std.proofs.lemmas.Bool.Decides.{nat_tests}
use Rattle.mo_lexer.proofs.Shapes.{Class, class, ShapeAt, shape_as, some_of_piece}
use Rattle.mo_lexer.proofs.OneKind.{same_kind, separator_is_no_token}
use Rattle.mo_lexer.proofs.Unique.{same_piece}

-- the front of n bytes fits where no piece at the front is longer
pub fits_from : (rest : List ℕ) (n : ℕ) → n ≤ length rest → ((text after : List ℕ) → rest ≡ text ++ after → IsPiece text → length text ≤ n) → (opens_block rest ≡ true → IsComment (take n rest)) → Fits (take n rest) (drop n rest)
fits_from rest n within most comment = record {
  longest = λ more after e some p.
      let whole : rest ≡ (take n rest ++ more) ++ after = sym (take-append-drop n rest) ∙ ap (λ x. take n rest ++ x) e ∙ sym (append_assoc (take n rest) more after) in
      let bound : length (take n rest ++ more) ≤ n = most (take n rest ++ more) after whole p in
      omega (arith, length-append (take n rest) more, length-take-le n rest within);
  comment = λ opens. comment (rw (take-append-drop n rest) at opens);
}

-- a bound on the pieces of one shape
pub bounded : (c : Class) (b : ℕ) (t : List ℕ) → class b ≡ c → (n : ℕ) → ((s after : List ℕ) → t ≡ s ++ after → ShapeAt c b s → suc (length s) ≤ n)
    → (text after : List ℕ) → b ∷ t ≡ text ++ after → IsPiece text → length text ≤ n
bounded c b t e n most [] after eq p = omega arith
bounded c b t e n most (x ∷ s) after eq p =
    let same : x ≡ b = cc in
    let tails : t ≡ s ++ after = cc in
    let whole : IsPiece (b ∷ s) = subst (λ y. IsPiece (y ∷ s)) same p in
    most s after tails (shape_as c b s e whole)

-- no piece stands at the front
abbrev pub HasNoPiece : List ℕ → Type 0
HasNoPiece rest = (text after : List ℕ) → rest ≡ text ++ after → IsPiece text → ⊥

pub no_piece : (c : Class) (b : ℕ) (t : List ℕ) → class b ≡ c → ((s after : List ℕ) → t ≡ s ++ after → ShapeAt c b s → ⊥) → HasNoPiece (b ∷ t)
no_piece c b t e none text after eq p =
    let bound : length text ≤ 0 = bounded c b t e 0 (λ s after eq h. absurd (none s after eq h)) text after eq p in
    empty text eq p bound
  where
    empty : (text : List ℕ) → b ∷ t ≡ text ++ after → IsPiece text → length text ≤ 0 → ⊥
    empty [] eq p bound = some p
      where
        some : IsPiece [] → ⊥
        some p = omega (arith, some_of_piece [] p)
    empty (x ∷ s) eq p bound = omega arith

pub stuck_where_none : (rest : List ℕ) → 0 < length rest → HasNoPiece rest → IsStuck rest
stuck_where_none rest some none = record {
  some = some;
  separator = λ piece after e s f. none piece after e (inl s);
  token = λ kind piece after e s f l. none piece after e (inr (kind, s));
}

pub narrow_where_none : (rest : List ℕ) → HasNoPiece rest → IsTooWide rest → ⊥
narrow_where_none rest none wide = none wide.piece wide.after wide.is (inr (wide.kind, wide.spells))

-- a spelling past its limit leaves no other to be taken
pub stuck_where_wide : (rest : List ℕ) → 0 < length rest → IsTooWide rest → IsStuck rest
stuck_where_wide rest some wide = record {
  some = some;
  separator = λ piece after e s f.
      let same = same_piece piece wide.piece after wide.after (sym e ∙ wide.is) (inl s) (inr (wide.kind, wide.spells)) f wide.fits in
      separator_is_no_token wide.piece wide.kind (subst IsSeparator same.0 s) wide.spells;
  token = λ kind piece after e s f l.
      let same = same_piece piece wide.piece after wide.after (sym e ∙ wide.is) (inr (kind, s)) (inr (wide.kind, wide.spells)) f wide.fits in
      let spells : Spells kind wide.piece = subst (Spells kind) same.0 s in
      let within : IsWithinLimit kind wide.piece = subst (IsWithinLimit kind) same.0 l in
      wide.past (subst (λ k. IsWithinLimit k wide.piece) (same_kind wide.piece kind wide.kind spells wide.spells) within);
}

-- the front of n bytes is spelled past its limit
pub wide_front : (rest : List ℕ) (n : ℕ) (kind : TokenKind) (rule : ℕ) → rule ≡ LITERAL_TOO_WIDE → 0 < length rest → Spells kind (take n rest) → Fits (take n rest) (drop n rest) → (IsWithinLimit kind (take n rest) → ⊥)
    → (0 < length rest) × IsStuck rest × Breaks rest rule 0
wide_front rest n kind rule is some spells fits past =
    let wide : IsTooWide rest = record { kind = kind; piece = take n rest; after = drop n rest; is = sym (take-append-drop n rest); spells = spells; fits = fits; past = past } in
    (some, stuck_where_wide rest some wide, too_wide wide is refl)

-- a text may be cut after an ASCII byte
pub cut_after : (rest : List ℕ) (n : ℕ) → 0 < n → n ≤ length rest → get_or rest (n - 1) 0 < 128 → IsCut rest n
cut_after rest n some within ascii = record {
  some = some;
  within = within;
  boundary = λ utf8.
      let one_on : n - 1 + 1 ≡ n = omega arith in
      subst (IsCharBoundary rest) one_on (IsCharBoundary-after_ascii rest (n - 1) utf8 (omega arith) ascii);
}

pub opens_with_slash : (b : ℕ) (t : List ℕ) → opens_block (b ∷ t) ≡ true → b ≡ 47
opens_with_slash b [] h = cc
opens_with_slash b (x ∷ t) h = grind (arith, nat_tests)
