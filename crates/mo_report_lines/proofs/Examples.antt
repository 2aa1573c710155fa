-- The definitions on small lines.
use Rattle.std.proofs.Common.{◌≡◌, ℕ, ◌<◌, ◌+◌, inl, inr, [], ◌∷◌, codes, refl, sym, arith}
use Rattle.std.proofs.lemmas.Fmt.{decimal_digit}
use Rattle.mo_syntax.specs.declared.token.TokenKind.TheVariants.{Ident}
use Rattle.mo_tables.specs.Words.{keywords}
use Rattle.mo_lexer.specs.Spelling.{Spells as SpellsToken}
use Rattle.mo_report_lines.specs.Grammar.{one, more, IsNumber, IsName, plain, indexed, IsDerivative, done, next, offsets, square, IsReadable}
use Rattle.mo_report_lines.specs.Lines.{lines_of, line_at}

-- ---- lines
two_lines : lines_of (codes "in 1\nin 2") ≡ codes "in 1\n" ∷ codes "in 2" ∷ []
two_lines = refl

an_empty_line : lines_of (codes "\nin 1\n") ≡ codes "\n" ∷ codes "in 1\n" ∷ []
an_empty_line = refl

no_third_line : line_at (codes "in 1\nin 2\n") 3 ≡ []
no_third_line = refl

-- ---- numbers and names
digit : (n : ℕ) → n < 10 → IsNumber ((48 + n) ∷ [])
digit n small = record { value = n; is = sym (decimal_digit n small); fits = omega arith }

word_x : SpellsToken Ident (codes "x")
unfolding keywords
word_x = inl (refl, refl)

word_y : SpellsToken Ident (codes "y")
unfolding keywords
word_y = inl (refl, refl)

name_x : IsName (codes "x")
name_x = one (plain word_x)

name_with_indices : IsName (codes "x[1,2].y")
name_with_indices =
    more (codes "x[1,2]") (codes "y") refl
    (indexed (codes "x") (codes "1,2") refl word_x (more (codes "1") (codes "2") refl (digit 1 (omega arith)) (one (digit 2 (omega arith)))))
    (one (plain word_y))

second_derivative : IsDerivative (codes "der(der(x))")
second_derivative = record { order = 2; name = codes "x"; is = refl; is_name = name_x }

-- ---- whole lines
index_line : IsReadable (codes "index 3\n")
index_line = record { text = codes "index 3"; is = refl; is_line = square (inr (inr (inr (inl (next (codes "3") [] refl (digit 3 (omega arith)) done))))) }

state_line : IsReadable (codes "state der(der(x))\n")
state_line = record { text = codes "state der(der(x))"; is = refl; is_line = square (inr (inr (inl (next (codes "der(der(x))") [] refl second_derivative done)))) }

unknown_line : IsReadable (codes "unknown x d 2\n")
unknown_line = record {
  text = codes "unknown x d 2";
  is = refl;
  is_line = offsets (inr (inl (next (codes "x") (codes " d 2") refl name_x (next (codes "2") [] refl (digit 2 (omega arith)) done))));
}
