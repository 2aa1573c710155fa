-- The lines of equations and unknowns, word by word.
use Rattle.std.proofs.Common.{◌≡◌, ℕ, ◌-◌, ◌<◌, true, false, ◌==◌, List, [], ◌∷◌, ◌++◌, length, take, codes, refl, sym, ap, ◌∙◌, arith, append-nil, length-append}
use Rattle.std.specs.Fmt.{decimal}
use Rattle.std.proofs.lemmas.Fmt.{decimal_injective}
use Rattle.mo_lexer.specs.Bytes.{is_digit}
use Rattle.mo_report_lines.specs.Grammar.{IsNumber, IsName, IsEquationLine, IsUnknownLine}
use Rattle.mo_report_lines.specs.steps.Reading.{stops, is_no_blank, in_name, BeginsOnly, BeginsNever, IsNumberedAt, IsNoNumberAt, IsNamedAt, IsNoNameAt}
use Rattle.mo_report_lines.proofs.Runs.{take_front, front_is}
use Rattle.mo_report_lines.proofs.Numbers.{digits_of, zero_of}
use Rattle.mo_report_lines.proofs.Forms.{strip, number_then_blank, name_then_blank}
use Rattle.mo_report_lines.proofs.Parts.{stops_within}

-- ---- numbers and names behind words
pub numbered_at : (word text start rest : List ℕ) (n : ℕ) → text ≡ word ++ start → start ≡ decimal n ++ rest → n < 4294967296 → BeginsOnly IsNumber is_digit start rest → IsNumberedAt word text n rest
numbered_at word text start rest n e f small b = record {
  is = e ∙ ap (λ (x : List ℕ). word ++ x) f;
  fits = small;
  only = λ m other ends fits g.
      let here : start ≡ decimal m ++ other = strip word start (decimal m ++ other) (sym e ∙ g) in
      let digits : stops is_digit other ≡ true = stops_within is_digit is_no_blank number_then_blank other ends in
      let same : other ≡ rest = b.only other digits (record { front = decimal m; holds = record { value = m; is = refl; fits = fits }; is = here }) in
      let digits' : stops is_digit rest ≡ true = rw same at digits in
      let one = (front_is is_digit start (decimal m) other (digits_of m fits) digits here).0 in
      let two = (front_is is_digit start (decimal n) rest (digits_of n small) digits' f).0 in
      (decimal_injective m n (omega arith) (omega arith) (one ∙ sym two), same);
}

pub no_number_at : (word text start : List ℕ) → text ≡ word ++ start → BeginsNever IsNumber is_digit start → IsNoNumberAt word text
no_number_at word text start e none m other ends fits g =
    none other (stops_within is_digit is_no_blank number_then_blank other ends)
    (record { front = decimal m; holds = record { value = m; is = refl; fits = fits }; is = strip word start (decimal m ++ other) (sym e ∙ g) })

front_by_length : (s f r : List ℕ) → s ≡ f ++ r → take (length s - length r) s ≡ f
front_by_length s f r e =
    let size : length s - length r ≡ length f = omega (arith, ap length e, length-append f r) in
    rw (size, e) (take_front f r)

pub named_at : (word text start rest : List ℕ) → text ≡ word ++ start → BeginsOnly IsName in_name start rest → IsNamedAt word text (take (length start - length rest) start) rest
named_at word text start rest e b =
    let name : take (length start - length rest) start ≡ b.begins.front = front_by_length start b.begins.front rest b.begins.is in
    record {
      is = rw name (e ∙ ap (λ (x : List ℕ). word ++ x) b.begins.is);
      is_name = rw name b.begins.holds;
      only = λ other_name other ends n g.
          let here : start ≡ other_name ++ other = strip word start (other_name ++ other) (sym e ∙ g) in
          let same : other ≡ rest = b.only other (stops_within in_name is_no_blank name_then_blank other ends) (record { front = other_name; holds = n; is = here }) in
          (sym (front_by_length start other_name rest (here ∙ ap (λ (x : List ℕ). other_name ++ x) same)), same);
    }

pub no_name_at : (word text start : List ℕ) → text ≡ word ++ start → BeginsNever IsName in_name start → IsNoNameAt word text
no_name_at word text start e none name other ends n g =
    none other (stops_within in_name is_no_blank name_then_blank other ends) (record { front = name; holds = n; is = strip word start (name ++ other) (sym e ∙ g) })

-- no word stands there
pub no_word_number : (word text : List ℕ) → ((rest : List ℕ) → text ≡ word ++ rest → ⊥) → IsNoNumberAt word text
no_word_number word text none m other ends fits g = none (decimal m ++ other) g

pub no_word_name : (word text : List ℕ) → ((rest : List ℕ) → text ≡ word ++ rest → ⊥) → IsNoNameAt word text
no_word_name word text none name other ends n g = none (name ++ other) g

-- ---- the line of an equation
module _ (line : List ℕ) (i c k : ℕ) (name : List ℕ) (e : IsEquationLine line i c name k) where
  abbrev pub after_pairs : List ℕ
  after_pairs = codes " order " ++ decimal k

  abbrev pub after_offset : List ℕ
  after_offset = codes " pairs " ++ (name ++ after_pairs)

  abbrev pub after_equation : List ℕ
  after_equation = codes " c " ++ (decimal c ++ after_offset)

  pub never_number : IsNoNumberAt (codes "equation ") line → ⊥
  never_number none = none i after_equation refl e.number_fits e.is

  module _ (n : ℕ) (one : List ℕ) (first : IsNumberedAt (codes "equation ") line n one) where
    pub number_is : (i ≡ n) × (after_equation ≡ one)
    number_is = first.only i after_equation refl e.number_fits e.is

    pub never_offset : IsNoNumberAt (codes " c ") one → ⊥
    never_offset none = none c after_offset refl e.offset_fits (sym number_is.1)

    module _ (o : ℕ) (two : List ℕ) (second : IsNumberedAt (codes " c ") one o two) where
      pub offset_is : (c ≡ o) × (after_offset ≡ two)
      offset_is = second.only c after_offset refl e.offset_fits (sym number_is.1)

      pub never_pair : IsNoNameAt (codes " pairs ") two → ⊥
      never_pair none = none name after_pairs refl e.is_name (sym offset_is.1)

      module _ (u three : List ℕ) (third : IsNamedAt (codes " pairs ") two u three) where
        pub pair_is : (name ≡ u) × (after_pairs ≡ three)
        pair_is = third.only name after_pairs refl e.is_name (sym offset_is.1)

        last : three ≡ codes " order " ++ (decimal k ++ [])
        last = sym pair_is.1 ∙ ap (λ (x : List ℕ). codes " order " ++ x) (sym (append-nil (decimal k)))

        pub never_order : IsNoNumberAt (codes " order ") three → ⊥
        never_order none = none k [] refl e.order_fits last

        pub order_is : (m : ℕ) (four : List ℕ) → IsNumberedAt (codes " order ") three m four → (k ≡ m) × ([] ≡ four)
        order_is m four fourth = fourth.only k [] refl e.order_fits last

pub equation_line_is : (line : List ℕ) (n : ℕ) (one : List ℕ) (o : ℕ) (two u three : List ℕ) (m : ℕ) (four : List ℕ) → IsNumberedAt (codes "equation ") line n one → IsNumberedAt (codes " c ") one o two
    → IsNamedAt (codes " pairs ") two u three → IsNumberedAt (codes " order ") three m four → four ≡ [] → IsEquationLine line n o u m
equation_line_is line n one o two u three m four a b c d none = record {
  is = a.is ∙ ap (λ (x : List ℕ). codes "equation " ++ (decimal n ++ x)) (b.is ∙ ap (λ (x : List ℕ). codes " c " ++ (decimal o ++ x)) (c.is ∙ ap (λ (x : List ℕ). codes " pairs " ++ (u ++ x))
      (d.is ∙ ap (λ (x : List ℕ). codes " order " ++ x) (ap (λ (x : List ℕ). decimal m ++ x) none ∙ append-nil (decimal m)))));
  number_fits = a.fits;
  offset_fits = b.fits;
  is_name = c.is_name;
  order_fits = d.fits;
}

-- ---- the line of an unknown
module _ (line name : List ℕ) (d : ℕ) (e : IsUnknownLine line name d) where
  abbrev pub after_name : List ℕ
  after_name = codes " d " ++ decimal d

  pub never_unknown : IsNoNameAt (codes "unknown ") line → ⊥
  never_unknown none = none name after_name refl e.is_name e.is

  module _ (u one : List ℕ) (first : IsNamedAt (codes "unknown ") line u one) where
    pub unknown_is : (name ≡ u) × (after_name ≡ one)
    unknown_is = first.only name after_name refl e.is_name e.is

    end : one ≡ codes " d " ++ (decimal d ++ [])
    end = sym unknown_is.1 ∙ ap (λ (x : List ℕ). codes " d " ++ x) (sym (append-nil (decimal d)))

    pub never_highest : IsNoNumberAt (codes " d ") one → ⊥
    never_highest none = none d [] refl e.fits end

    pub highest_is : (m : ℕ) (two : List ℕ) → IsNumberedAt (codes " d ") one m two → (d ≡ m) × ([] ≡ two)
    highest_is m two second = second.only d [] refl e.fits end

pub unknown_line_is : (line u one : List ℕ) (m : ℕ) (two : List ℕ) → IsNamedAt (codes "unknown ") line u one → IsNumberedAt (codes " d ") one m two → two ≡ [] → IsUnknownLine line u m
unknown_line_is line u one m two a b none = record {
  is = a.is ∙ ap (λ (x : List ℕ). codes "unknown " ++ (u ++ x)) (b.is ∙ ap (λ (x : List ℕ). codes " d " ++ x) (ap (λ (x : List ℕ). decimal m ++ x) none ∙ append-nil (decimal m)));
  is_name = a.is_name;
  fits = b.fits;
}

pub nothing_of : (text : List ℕ) → (length text == 0) ≡ true → text ≡ []
nothing_of [] e = refl
nothing_of (x ∷ text) e = absurd (omega (arith, zero_of (length (x ∷ text)) e))

pub something_of : (text : List ℕ) → (length text == 0) ≡ false → [] ≡ text → ⊥
something_of [] h e = cc
something_of (x ∷ text) h e = cc
