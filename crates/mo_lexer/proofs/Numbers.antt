-- The longest number at the front.
use Rattle.std.proofs.Common.{◌≡◌, ℕ, zero, suc, ◌+◌, ◌-◌, ◌<◌, ◌≤◌, ◌⊎◌, inl, inr, Bool, true, false, ◌&&◌, List, [], ◌∷◌, ◌++◌, length, take, drop, get_or, eqb, ltb, refl, sym, ap, subst, ◌∙◌, arith, length-append, append_assoc, append-nil, length-take-le}
use Rattle.std.specs.List.{list_all, prefix_len}
use Rattle.mo_syntax.specs.declared.rules.TheConstants.{LITERAL_TOO_WIDE}
use mathlib.Core.Bool.{false≢true}
use Rattle.std.specs.Str.Parse.{digits_value}
use Rattle.std.proofs.lemmas.Bool.Decides.{nat_tests}
use Rattle.std.proofs.Math.Seq.{take-add}
use Rattle.std.proofs.lemmas.List.{drop_at, length-drop, get_or-take}
use Rattle.std.proofs.lemmas.List.Sums.{prefix_len-le-length}
use Rattle.mo_syntax.specs.declared.token.TokenKind.TheVariants.{Whole, Decimal}
use Rattle.mo_lexer.specs.Bytes.{is_digit, is_exponent_mark, is_sign}
use Rattle.mo_lexer.specs.Spelling.{are_digits, IsExponent, IsWhole, IsDecimal, pointed, unpointed, Spells, line, block}
use Rattle.mo_lexer.specs.Lexing.{IsPiece, opens_block, Fits, IsStuck, Breaks}
use Rattle.mo_lexer.specs.steps.Finding.{point_len, mark_len, exponent_len, begins_number, is_mark, number_kind, IsCut, IsNumberFront}
use Rattle.mo_lexer.proofs.Fronts.{first_is, both_hold, both, first_passes, later_pass, all_joined, run_passes, run_longest, run_ends, tail_is}
use Rattle.mo_lexer.proofs.Shapes.{operator_is_mark, mark_second, digit_is_no_mark, IsNumber, whole, decimal, Digits, Marks, class, class_digit, IsMarked, operator, number, remark, some_of_spelling}
use Rattle.mo_lexer.proofs.Stuck.{fits_from, bounded, cut_after, opens_with_slash, wide_front}

-- ---- the exponent
mark_is_no_digit : (b : ℕ) → is_exponent_mark b ≡ true → is_digit b ≡ false
mark_is_no_digit b h = grind (arith, nat_tests)

mark_is_no_point : (b : ℕ) → is_exponent_mark b ≡ true → eqb b 46 ≡ false
mark_is_no_point b h = grind (arith, nat_tests)

digit_is_no_sign : (b : ℕ) → is_digit b ≡ true → is_sign b ≡ false
digit_is_no_sign b h = grind (arith, nat_tests)

-- what is after the mark and sign, where there are digits
exponent_value : (bytes : List ℕ) (start digits : ℕ) → mark_len bytes ≡ start → prefix_len is_digit (drop start bytes) ≡ digits → 0 < start → 0 < digits → exponent_len bytes ≡ start + digits
exponent_value bytes start digits e f some more =
    let one : eqb start 0 ≡ false = grind (arith, nat_tests) in
    let two : eqb digits 0 ≡ false = grind (arith, nat_tests) in
    rw (e, f, one, two) refl

-- nothing that is spelled as an exponent is longer
pub exponent_longest : (text after : List ℕ) → IsExponent text → length text ≤ exponent_len (text ++ after)
exponent_longest text after ex = go ex.sign ex.digits ex.is ex.is_sign ex.are_digits ex.some
  where
    go : (sign digits : List ℕ) → text ≡ ex.mark ∷ (sign ++ digits) → (length sign ≤ 1) × (list_all is_sign sign ≡ true) → are_digits digits ≡ true → 0 < length digits → length text ≤ exponent_len (text ++ after)
    go [] [] e s ds some = absurd (omega arith)
    go [] (d ∷ digits) e s ds some =
        let mark : is_exponent_mark ex.mark ≡ true = ex.is_mark in
        let no_sign : is_sign d ≡ false = digit_is_no_sign d (first_passes is_digit d digits ds) in
        let start : mark_len (ex.mark ∷ d ∷ (digits ++ after)) ≡ 1 = rw (mark, no_sign) refl in
        let run : length (d ∷ digits) ≤ prefix_len is_digit ((d ∷ digits) ++ after) = run_longest is_digit (d ∷ digits) after ds in
        let value : exponent_len (ex.mark ∷ d ∷ (digits ++ after)) ≡ 1 + prefix_len is_digit ((d ∷ digits) ++ after) = exponent_value (ex.mark ∷ d ∷ (digits ++ after)) 1 _ start refl (omega arith) (omega (arith, run)) in
        rw e (rw value (omega (arith, run)))
    go (s ∷ []) digits e is ds some =
        let mark : is_exponent_mark ex.mark ≡ true = ex.is_mark in
        let sign : is_sign s ≡ true = first_passes is_sign s [] is.1 in
        let start : mark_len (ex.mark ∷ s ∷ (digits ++ after)) ≡ 2 = rw (mark, sign) refl in
        let run : length digits ≤ prefix_len is_digit (digits ++ after) = run_longest is_digit digits after ds in
        let value : exponent_len (ex.mark ∷ s ∷ (digits ++ after)) ≡ 2 + prefix_len is_digit (digits ++ after) = exponent_value (ex.mark ∷ s ∷ (digits ++ after)) 2 _ start refl (omega arith) (omega (arith, run)) in
        rw e (rw value (omega (arith, run)))
    go (s ∷ s' ∷ sign) digits e is ds some = absurd (omega (arith, is.0))

-- that many bytes are an exponent, or none
pub exponent_is : (bytes : List ℕ) → (take (exponent_len bytes) bytes ≡ []) ⊎ IsExponent (take (exponent_len bytes) bytes)
exponent_is [] = inl refl
exponent_is (b ∷ []) = go (is_exponent_mark b) refl
  where
    go : (r : Bool) → is_exponent_mark b ≡ r → (take (exponent_len (b ∷ [])) (b ∷ []) ≡ []) ⊎ IsExponent (take (exponent_len (b ∷ [])) (b ∷ []))
    go true h = inl (rw h refl)
    go false h = inl (rw h refl)
exponent_is (b ∷ c ∷ t) = go (is_exponent_mark b) (is_sign c) refl refl
  where
    none : (n : ℕ) → n ≡ 0 → (take n (b ∷ c ∷ t) ≡ []) ⊎ IsExponent (take n (b ∷ c ∷ t))
    none n e = inl (rw e refl)

    signed : is_exponent_mark b ≡ true → is_sign c ≡ true → (d : ℕ) → d ≡ prefix_len is_digit t → (n : ℕ) → exponent_len (b ∷ c ∷ t) ≡ n → 0 < d → (take n (b ∷ c ∷ t) ≡ []) ⊎ IsExponent (take n (b ∷ c ∷ t))
    signed h k d size n value some =
        let start : mark_len (b ∷ c ∷ t) ≡ 2 = rw (h, k) refl in
        let more : n ≡ suc (suc d) = omega (arith, value, exponent_value (b ∷ c ∷ t) 2 d start (sym size) (omega arith) some) in
        let run : are_digits (take d t) ≡ true = rw size (run_passes is_digit t) in
        let within : d ≤ length t = omega (arith, prefix_len-le-length is_digit t) in
        inr (rw more record { mark = b; sign = c ∷ []; digits = take d t; is = refl; is_mark = h; is_sign = (omega arith, rw k refl); are_digits = run; some = omega (arith, length-take-le d t within) })

    unsigned : is_exponent_mark b ≡ true → is_sign c ≡ false → (d : ℕ) → d ≡ prefix_len is_digit (c ∷ t) → (n : ℕ) → exponent_len (b ∷ c ∷ t) ≡ n → 0 < d → (take n (b ∷ c ∷ t) ≡ []) ⊎ IsExponent (take n (b ∷ c ∷ t))
    unsigned h k d size n value some =
        let start : mark_len (b ∷ c ∷ t) ≡ 1 = rw (h, k) refl in
        let more : n ≡ suc d = omega (arith, value, exponent_value (b ∷ c ∷ t) 1 d start (sym size) (omega arith) some) in
        let run : are_digits (take d (c ∷ t)) ≡ true = rw size (run_passes is_digit (c ∷ t)) in
        let within : d ≤ length (c ∷ t) = omega (arith, prefix_len-le-length is_digit (c ∷ t)) in
        inr (rw more record { mark = b; sign = []; digits = take d (c ∷ t); is = refl; is_mark = h; is_sign = (omega arith, refl); are_digits = run; some = omega (arith, length-take-le d (c ∷ t) within) })

    go : (r s : Bool) → is_exponent_mark b ≡ r → is_sign c ≡ s → (take (exponent_len (b ∷ c ∷ t)) (b ∷ c ∷ t) ≡ []) ⊎ IsExponent (take (exponent_len (b ∷ c ∷ t)) (b ∷ c ∷ t))
    go false s h k = none _ (rw h refl)
    go true true h k = digits (prefix_len is_digit t) refl
      where
        digits : (d : ℕ) → d ≡ prefix_len is_digit t → (take (exponent_len (b ∷ c ∷ t)) (b ∷ c ∷ t) ≡ []) ⊎ IsExponent (take (exponent_len (b ∷ c ∷ t)) (b ∷ c ∷ t))
        digits zero e = none _ (rw (h, k) (let z : prefix_len is_digit t ≡ 0 = sym e in rw z refl))
        digits (suc d) e = signed h k (suc d) e _ refl (omega arith)
    go true false h k = digits (prefix_len is_digit (c ∷ t)) refl
      where
        digits : (d : ℕ) → d ≡ prefix_len is_digit (c ∷ t) → (take (exponent_len (b ∷ c ∷ t)) (b ∷ c ∷ t) ≡ []) ⊎ IsExponent (take (exponent_len (b ∷ c ∷ t)) (b ∷ c ∷ t))
        digits zero e = none _ (rw (h, k) (let z : prefix_len is_digit (c ∷ t) ≡ 0 = sym e in rw z refl))
        digits (suc d) e = unsigned h k (suc d) e _ refl (omega arith)

-- ---- the whole number
-- the bytes before, at and after the point, and those of the exponent
pub record Measured (rest : List ℕ) (d f e : ℕ) : Type 0 where
  pub begins : begins_number rest ≡ true
  pub digits : d ≡ prefix_len is_digit rest
  pub point : f ≡ point_len (drop d rest)
  pub exponent : e ≡ exponent_len (drop (d + f) rest)

module _ (rest : List ℕ) (d f e : ℕ) (m : Measured rest d f e) where
  -- no number is longer
  pub number_longest : (text after : List ℕ) → rest ≡ text ++ after → IsNumber text → length text ≤ d + f + e
  number_longest text after eq (whole w) =
      let run : length text ≤ prefix_len is_digit (text ++ after) = run_longest is_digit text after w.are_digits in
      omega (arith, run, m.digits, ap (prefix_len is_digit) eq)
  number_longest text after eq (decimal (unpointed digits exponent is w ex)) =
      let split : rest ≡ digits ++ (exponent ++ after) = eq ∙ ap (λ x. x ++ after) is ∙ append_assoc digits exponent after in
      let opened : exponent ++ after ≡ ex.mark ∷ ((ex.sign ++ ex.digits) ++ after) = ap (λ x. x ++ after) ex.is in
      let marked : rest ≡ digits ++ ex.mark ∷ ((ex.sign ++ ex.digits) ++ after) = split ∙ ap (λ x. digits ++ x) opened in
      let first : d ≡ length digits = m.digits ∙ ap (prefix_len is_digit) marked ∙ run_ends is_digit digits ex.mark ((ex.sign ++ ex.digits) ++ after) w.are_digits (mark_is_no_digit ex.mark ex.is_mark) in
      let dropped : drop d rest ≡ exponent ++ after = ap (drop d) split ∙ drop_at digits (exponent ++ after) d (sym first) in
      let no_point : eqb ex.mark 46 ≡ false = mark_is_no_point ex.mark ex.is_mark in
      let no_fraction : point_len (ex.mark ∷ ((ex.sign ++ ex.digits) ++ after)) ≡ 0 = rw no_point refl in
      let none : f ≡ 0 = m.point ∙ ap point_len (dropped ∙ opened) ∙ no_fraction in
      let same : d + f ≡ d = omega (arith, none) in
      let last : e ≡ exponent_len (exponent ++ after) = m.exponent ∙ ap (λ k. exponent_len (drop k rest)) same ∙ ap exponent_len dropped in
      omega (arith, last, exponent_longest exponent after ex, first, none, ap length is, length-append digits exponent)
  number_longest text after eq (decimal (pointed digits fraction exponent is ds fs some ex)) =
      let split : rest ≡ digits ++ 46 ∷ ((fraction ++ exponent) ++ after) = eq ∙ ap (λ x. x ++ after) is ∙ append_assoc digits (46 ∷ (fraction ++ exponent)) after in
      let first : d ≡ length digits = m.digits ∙ ap (prefix_len is_digit) split ∙ run_ends is_digit digits 46 ((fraction ++ exponent) ++ after) ds refl in
      let dropped : drop d rest ≡ 46 ∷ ((fraction ++ exponent) ++ after) = ap (drop d) split ∙ drop_at digits (46 ∷ ((fraction ++ exponent) ++ after)) d (sym first) in
      let point : f ≡ 1 + prefix_len is_digit ((fraction ++ exponent) ++ after) = m.point ∙ ap point_len dropped in
      let size : length text ≡ length digits + (1 + (length fraction + length exponent)) = omega (arith, ap length is, length-append digits (46 ∷ (fraction ++ exponent)), length-append fraction exponent) in
      by_exponent split first point size ex
    where
      by_exponent : rest ≡ digits ++ 46 ∷ ((fraction ++ exponent) ++ after) → d ≡ length digits → f ≡ 1 + prefix_len is_digit ((fraction ++ exponent) ++ after)
          → length text ≡ length digits + (1 + (length fraction + length exponent)) → (exponent ≡ []) ⊎ IsExponent exponent → length text ≤ d + f + e
      by_exponent split first point size (inl none) =
          let plain : (fraction ++ exponent) ++ after ≡ fraction ++ after = ap (λ x. (fraction ++ x) ++ after) none ∙ ap (λ x. x ++ after) (append-nil fraction) in
          let run : length fraction ≤ prefix_len is_digit (fraction ++ after) = run_longest is_digit fraction after fs in
          omega (arith, run, ap (prefix_len is_digit) plain, first, point, size, ap length none)
      by_exponent split first point size (inr ex) =
          let opened : (fraction ++ exponent) ++ after ≡ fraction ++ ex.mark ∷ ((ex.sign ++ ex.digits) ++ after) = append_assoc fraction exponent after ∙ ap (λ x. fraction ++ (x ++ after)) ex.is in
          let ends : prefix_len is_digit ((fraction ++ exponent) ++ after) ≡ length fraction = ap (prefix_len is_digit) opened ∙ run_ends is_digit fraction ex.mark ((ex.sign ++ ex.digits) ++ after) fs (mark_is_no_digit ex.mark ex.is_mark) in
          let whole_front : rest ≡ (digits ++ 46 ∷ fraction) ++ (exponent ++ after) =
          split ∙ ap (λ x. digits ++ 46 ∷ x) (append_assoc fraction exponent after) ∙ sym (append_assoc digits (46 ∷ fraction) (exponent ++ after)) in
          let front_size : length (digits ++ 46 ∷ fraction) ≡ d + f = omega (arith, length-append digits (46 ∷ fraction), first, point, ends) in
          let dropped : drop (d + f) rest ≡ exponent ++ after = ap (drop (d + f)) whole_front ∙ drop_at (digits ++ 46 ∷ fraction) (exponent ++ after) (d + f) front_size in
          let last : e ≡ exponent_len (exponent ++ after) = m.exponent ∙ ap exponent_len dropped in
          omega (arith, last, exponent_longest exponent after ex, first, point, ends, size)

-- ---- the front is a number
digit_stops : (xs : List ℕ) (b : ℕ) (t : List ℕ) → xs ≡ b ∷ t → is_digit b ≡ true → 0 < prefix_len is_digit xs
digit_stops xs b t e h = rw (e, h) (omega arith)

-- a point that is there, with the digits after it
pub record Point (bytes : List ℕ) (f : ℕ) : Type 0 where
  pub fraction : List ℕ
  pub is : take f bytes ≡ 46 ∷ fraction
  pub are_digits : are_digits fraction ≡ true
  pub size : f ≡ 1 + length fraction

point_is : (bytes : List ℕ) (f : ℕ) → f ≡ point_len bytes → (f ≡ 0) ⊎ Point bytes f
point_is [] f e = inl e
point_is (b ∷ bs) f e = go (eqb b 46) refl
  where
    go : (r : Bool) → eqb b 46 ≡ r → (f ≡ 0) ⊎ Point (b ∷ bs) f
    go false h = inl (e ∙ (rw h refl))
    go true h =
        let point : b ≡ 46 = grind (arith, nat_tests) in
        let value : point_len (b ∷ bs) ≡ 1 + prefix_len is_digit bs = rw h refl in
        let size : f ≡ suc (prefix_len is_digit bs) = omega arith in
        let within : prefix_len is_digit bs ≤ length bs = prefix_len-le-length is_digit bs in
        inr record {
          fraction = take (prefix_len is_digit bs) bs;
          is = rw (size, point) refl;
          are_digits = run_passes is_digit bs;
          size = omega (arith, size, length-take-le (prefix_len is_digit bs) bs within);
        }

-- where no digit stands before it, the number begins with a point and a digit
pub record StartsWithPoint (rest : List ℕ) : Type 0 where
  pub digit : ℕ
  pub after : List ℕ
  pub is : rest ≡ 46 ∷ digit ∷ after
  pub is_digit : is_digit digit ≡ true

pub begins_so : (rest : List ℕ) → begins_number rest ≡ true → (0 < prefix_len is_digit rest) ⊎ StartsWithPoint rest
begins_so [] h = cc
begins_so (b ∷ []) h = inl (digit_stops (b ∷ []) b [] refl h)
begins_so (b ∷ c ∷ t) h = go (is_digit b) refl
  where
    go : (r : Bool) → is_digit b ≡ r → (0 < prefix_len is_digit (b ∷ c ∷ t)) ⊎ StartsWithPoint (b ∷ c ∷ t)
    go true e = inl (digit_stops (b ∷ c ∷ t) b (c ∷ t) refl e)
    go false e =
        let both' : (eqb b 46 && is_digit c) ≡ true = rw e at h in
        let point : eqb b 46 ≡ true = (both_hold (eqb b 46) (is_digit c) both').0 in
        let same : b ≡ 46 = grind (arith, nat_tests) in
        inr record { digit = c; after = t; is = rw same refl; is_digit = (both_hold (eqb b 46) (is_digit c) both').1 }

-- with no digit before it, a point is there, and a digit after it
pointed_start : (rest : List ℕ) → StartsWithPoint rest → (1 < point_len rest) × (prefix_len is_digit rest ≡ 0)
pointed_start rest s =
    let some : 0 < prefix_len is_digit (s.digit ∷ s.after) = digit_stops (s.digit ∷ s.after) s.digit s.after refl s.is_digit in
    let value : point_len rest ≡ 1 + prefix_len is_digit (s.digit ∷ s.after) = ap point_len s.is in
    (omega (arith, value, some), ap (prefix_len is_digit) s.is)

module _ (rest : List ℕ) (d f e : ℕ) (m : Measured rest d f e) where
  within_digits : d ≤ length rest
  within_digits = omega (arith, m.digits, prefix_len-le-length is_digit rest)

  front_digits : are_digits (take d rest) ≡ true
  front_digits = subst (λ n. are_digits (take n rest) ≡ true) (sym m.digits) (run_passes is_digit rest)

  -- where the point is at the front, it counts
  start : (0 < d) ⊎ ((d ≡ 0) × (1 < f))
  start = elim (begins_so rest m.begins) [
    | inl some ↦ inl (omega (arith, m.digits, some))
    | inr s ↦
        let p = pointed_start rest s in
        let none : d ≡ 0 = omega (arith, m.digits, p.1) in
        let all : drop d rest ≡ rest = rw none refl in
        inr (none, omega (arith, p.0, m.point, ap point_len all))
  ]

  pub whole_front : d + f + e ≡ d → IsWhole (take d rest)
  whole_front none = record {
    are_digits = front_digits;
    some = elim start [
      | inl some ↦ omega (arith, some, length-take-le d rest within_digits)
      | inr s ↦ absurd (omega (arith, s.1))
    ];
  }

  exponent_front : (take e (drop (d + f) rest) ≡ []) ⊎ IsExponent (take e (drop (d + f) rest))
  exponent_front = subst (λ n. (take n (drop (d + f) rest) ≡ []) ⊎ IsExponent (take n (drop (d + f) rest))) (sym m.exponent) (exponent_is (drop (d + f) rest))

  split_front : take (d + f + e) rest ≡ take d rest ++ (take f (drop d rest) ++ take e (drop (d + f) rest))
  split_front = take-add (d + f) e rest ∙ ap (λ x. x ++ take e (drop (d + f) rest)) (take-add d f rest) ∙ append_assoc (take d rest) (take f (drop d rest)) (take e (drop (d + f) rest))

  pub decimal_front : (d + f + e ≡ d → ⊥) → d + f + e ≤ length rest → IsDecimal (take (d + f + e) rest)
  decimal_front more within = elim (point_is (drop d rest) f m.point) [
    | inl none ↦ without_point none exponent_front
    | inr point ↦ pointed (take d rest) point.fraction (take e (drop (d + f) rest))
        (split_front ∙ ap (λ x. take d rest ++ (x ++ take e (drop (d + f) rest))) point.is) front_digits point.are_digits
        (elim start [ inl some ↦ omega (arith, some, length-take-le d rest within_digits) | inr s ↦ omega (arith, s.1, point.size) ])
        exponent_front
  ]
    where
      without_point : f ≡ 0 → (take e (drop (d + f) rest) ≡ []) ⊎ IsExponent (take e (drop (d + f) rest)) → IsDecimal (take (d + f + e) rest)
      without_point none (inl empty) =
          let left : length (drop (d + f) rest) ≡ length rest - (d + f) = length-drop (d + f) rest in
          let size : length (take e (drop (d + f) rest)) ≡ e = length-take-le e (drop (d + f) rest) (omega (arith, left)) in
          absurd (more (omega (arith, size, ap length empty)))
      without_point none (inr ex) =
          let nothing_taken : take f (drop d rest) ≡ [] = rw none refl in
          unpointed (take d rest) (take e (drop (d + f) rest)) (split_front ∙ ap (λ x. take d rest ++ (x ++ take e (drop (d + f) rest))) nothing_taken)
          record { are_digits = front_digits; some = elim start [ inl some ↦ omega (arith, some, length-take-le d rest within_digits) | inr s ↦ absurd (omega (arith, s.1)) ] }
          ex

-- ---- a number is ASCII
is_ascii_byte : ℕ → Bool
is_ascii_byte b = ltb b 128

all_weaker : (p q : ℕ → Bool) → ((b : ℕ) → p b ≡ true → q b ≡ true) → (xs : List ℕ) → list_all p xs ≡ true → list_all q xs ≡ true
all_weaker p q weaker [] h = refl
all_weaker p q weaker (x ∷ xs) h = both _ _ (weaker x (first_passes p x xs h)) (all_weaker p q weaker xs (later_pass p x xs h))

digits_are_ascii : (xs : List ℕ) → are_digits xs ≡ true → list_all is_ascii_byte xs ≡ true
unfolding is_ascii_byte
digits_are_ascii xs h = all_weaker is_digit is_ascii_byte (λ b k. grind (arith, nat_tests)) xs h

signs_are_ascii : (xs : List ℕ) → list_all is_sign xs ≡ true → list_all is_ascii_byte xs ≡ true
unfolding is_ascii_byte
signs_are_ascii xs h = all_weaker is_sign is_ascii_byte (λ b k. grind (arith, nat_tests)) xs h

mark_is_ascii : (b : ℕ) → is_exponent_mark b ≡ true → is_ascii_byte b ≡ true
unfolding is_ascii_byte
mark_is_ascii b h = grind (arith, nat_tests)

point_is_ascii : is_ascii_byte 46 ≡ true
unfolding is_ascii_byte
point_is_ascii = refl

exponent_is_ascii : (text : List ℕ) → IsExponent text → list_all is_ascii_byte text ≡ true
exponent_is_ascii text ex =
    rw ex.is (both _ _ (mark_is_ascii ex.mark ex.is_mark) (all_joined is_ascii_byte ex.sign ex.digits (signs_are_ascii ex.sign ex.is_sign.1) (digits_are_ascii ex.digits ex.are_digits)))

number_is_ascii : (text : List ℕ) → IsNumber text → list_all is_ascii_byte text ≡ true
number_is_ascii text (whole w) = digits_are_ascii text w.are_digits
number_is_ascii text (decimal (unpointed digits exponent is w ex)) = rw is (all_joined is_ascii_byte digits exponent (digits_are_ascii digits w.are_digits) (exponent_is_ascii exponent ex))
number_is_ascii text (decimal (pointed digits fraction exponent is ds fs some ex)) =
    let end : list_all is_ascii_byte exponent ≡ true = elim ex [ inl none ↦ rw none refl | inr is ↦ exponent_is_ascii exponent is ] in
    rw is (all_joined is_ascii_byte digits (46 ∷ (fraction ++ exponent)) (digits_are_ascii digits ds) (both _ _ point_is_ascii (all_joined is_ascii_byte fraction exponent (digits_are_ascii fraction fs) end)))

pub passes_at : (p : ℕ → Bool) (xs : List ℕ) (k : ℕ) → list_all p xs ≡ true → k < length xs → p (get_or xs k 0) ≡ true
passes_at p [] k h below = absurd (omega arith)
passes_at p (x ∷ xs) zero h below = first_passes p x xs h
passes_at p (x ∷ xs) (suc k) h below = passes_at p xs k (later_pass p x xs h) (omega arith)

last_is_ascii : (rest : List ℕ) (n : ℕ) → 0 < n → n ≤ length rest → list_all is_ascii_byte (take n rest) ≡ true → get_or rest (n - 1) 0 < 128
unfolding is_ascii_byte
last_is_ascii rest n some within h =
    let passes : is_ascii_byte (get_or (take n rest) (n - 1) 0) ≡ true = passes_at is_ascii_byte (take n rest) (n - 1) h (omega (arith, length-take-le n rest within)) in
    let same : get_or (take n rest) (n - 1) 0 ≡ get_or rest (n - 1) 0 = get_or-take n rest (n - 1) 0 (omega arith) in
    let here : is_ascii_byte (get_or rest (n - 1) 0) ≡ true = rw same at passes in
    grind (arith, nat_tests)

-- ---- as a piece
some_of_number : (text : List ℕ) → IsNumber text → 0 < length text
some_of_number text (whole w) = w.some
some_of_number text (decimal d) = some_of_spelling Decimal text d

number_spelling : (text : List ℕ) (is_whole : Bool) → Spells (number_kind is_whole) text → IsNumber text
number_spelling text true w = whole w
number_spelling text false d = decimal d

module _ (b : ℕ) (t : List ℕ) (d f e : ℕ) (m : Measured (b ∷ t) d f e) where
  at_digit : is_digit b ≡ true → (text after : List ℕ) → b ∷ t ≡ text ++ after → IsPiece text → length text ≤ d + f + e
  at_digit h = bounded Digits b t (class_digit b h) (d + f + e) (λ s after eq num. number_longest (b ∷ t) d f e m (b ∷ s) after (ap (λ x. b ∷ x) eq) num)

  at_point : 0 < d + f + e → b ≡ 46 → (c : ℕ) (u : List ℕ) → t ≡ c ∷ u → is_digit c ≡ true → (text after : List ℕ) → b ∷ t ≡ text ++ after → IsPiece text → length text ≤ d + f + e
  at_point some point c u tail digit = bounded Marks b t (ap class point) (d + f + e) longest
    where
      longest : (s after : List ℕ) → t ≡ s ++ after → IsMarked b s → suc (length s) ≤ d + f + e
      longest s after eq (number there num) = number_longest (b ∷ t) d f e m (b ∷ s) after (ap (λ x. b ∷ x) eq) (decimal num)
      longest s after eq (remark (line body is pass)) = let slash : b ≡ 47 = first_is b 47 s _ is in absurd (omega arith)
      longest s after eq (remark (block body is never)) = let slash : b ≡ 47 = first_is b 47 s _ is in absurd (omega arith)
      longest [] after eq (operator code is) = omega arith
      longest (x ∷ s) after eq (operator code is) =
          let same : c ≡ x = first_is c x u (s ++ after) (sym tail ∙ eq) in
          let on : is_digit x ≡ true = rw (← same) digit in
          absurd (digit_is_no_mark x on (mark_second b x s (operator_is_mark _ code is)).3)

  no_block : is_digit b ≡ true ⊎ (b ≡ 46) → opens_block (b ∷ t) ≡ true → ⊥
  no_block (inl digit) opens = let slash : b ≡ 47 = opens_with_slash b t opens in grind (arith, nat_tests)
  no_block (inr point) opens = let slash : b ≡ 47 = opens_with_slash b t opens in omega arith

  first_digit : 0 < prefix_len is_digit (b ∷ t) → is_digit b ≡ true
  first_digit some = go (is_digit b) refl
    where
      go : (r : Bool) → is_digit b ≡ r → is_digit b ≡ true
      go true h = h
      go false h = let none : prefix_len is_digit (b ∷ t) ≡ 0 = rw h refl in absurd (omega arith)

  pub number_at : (is_whole : Bool) → d + f + e ≤ length (b ∷ t) → Spells (number_kind is_whole) (take (d + f + e) (b ∷ t)) → IsNumberFront (b ∷ t) is_whole (d + f + e)
  number_at is_whole within spells =
      let n : ℕ = d + f + e in
      let num = number_spelling (take n (b ∷ t)) is_whole spells in
      let some : 0 < n = omega (arith, some_of_number (take n (b ∷ t)) num, length-take-le n (b ∷ t) within) in
      record {
        cut = cut_after (b ∷ t) n some within (last_is_ascii (b ∷ t) n some within (number_is_ascii (take n (b ∷ t)) num));
        spells = spells;
        fits = elim (begins_so (b ∷ t) m.begins) [
          | inl digits ↦ fits_from (b ∷ t) n within (at_digit (first_digit digits)) (λ opens. absurd (no_block (inl (first_digit digits)) opens))
          | inr s ↦
              let point : b ≡ 46 = first_is b 46 t (s.digit ∷ s.after) s.is in
              fits_from (b ∷ t) n within (at_point some point s.digit s.after (tail_is b 46 t (s.digit ∷ s.after) s.is) s.is_digit) (λ opens. absurd (no_block (inr point) opens))
        ];
      }

-- in the form of the code
pub number_whole : (rest : List ℕ) (d f e : ℕ) → Measured rest d f e → d + f + e ≡ d → d + f + e ≤ length rest → IsNumberFront rest true (d + f + e)
number_whole [] d f e m none within = let begins = m.begins in cc
number_whole (b ∷ t) d f e m none within = number_at b t d f e m true within (subst (λ n. IsWhole (take n (b ∷ t))) (sym none) (whole_front (b ∷ t) d f e m none))

pub number_decimal : (rest : List ℕ) (d f e : ℕ) → Measured rest d f e → (d + f + e ≡ d → ⊥) → d + f + e ≤ length rest → IsNumberFront rest false (d + f + e)
number_decimal [] d f e m more within = let begins = m.begins in cc
number_decimal (b ∷ t) d f e m more within = number_at b t d f e m false within (decimal_front (b ∷ t) d f e m more within)

pub number_front_decimal : (rest : List ℕ) (is_whole : Bool) (n : ℕ) → IsNumberFront rest is_whole n → is_whole ≡ false → IsCut rest n × IsDecimal (take n rest) × Fits (take n rest) (drop n rest) × Unit {0}
number_front_decimal rest true n front e = cc
number_front_decimal rest false n front e = (front.cut, front.spells, front.fits, tt)

pub number_front_wide : (rest : List ℕ) (is_whole : Bool) (n rule : ℕ) → rule ≡ LITERAL_TOO_WIDE → IsNumberFront rest is_whole n → is_whole ≡ true → (digits_value 10 (take n rest) ≤ 9223372036854775807 → ⊥)
    → (0 < length rest) × IsStuck rest × Breaks rest rule 0
number_front_wide rest false n rule is front e past = absurd (false≢true e)
number_front_wide rest true n rule is front e past = wide_front rest n Whole rule is (omega (arith, front.cut.some, front.cut.within)) front.spells front.fits past
