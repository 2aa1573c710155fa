-- The line of an equation or of an unknown says one thing.
use Rattle.std.proofs.Common.{◌≡◌, ℕ, ◌+◌, ◌<◌, Bool, true, false, List, [], ◌∷◌, ◌++◌, take, length, get_or, codes, decimal, refl, sym, ap, ◌∙◌, arith, append_assoc, length-append}
use Rattle.mo_lexer.specs.Bytes.{is_digit}
use Rattle.mo_lexer.specs.Spelling.{are_digits}
use Rattle.mo_report_lines.specs.Grammar.{IsEquationLine, IsUnknownLine}
use Rattle.mo_report_lines.proofs.Runs.{take_front, passes_at}
use Rattle.mo_report_lines.proofs.Numbers.{digits_of, value_is}
use Rattle.mo_report_lines.proofs.Forms.{strip}

tail_all : (x : ℕ) (xs : List ℕ) → are_digits (x ∷ xs) ≡ true → are_digits xs ≡ true
tail_all x xs h = go (is_digit x) refl
  where
    go : (b : Bool) → is_digit x ≡ b → are_digits xs ≡ true
    go true e = rw e at h
    go false e = let no : false ≡ true = rw e at h in cc

blank_there : (front b : List ℕ) → get_or (front ++ 32 ∷ b) (length front) 0 ≡ 32
blank_there [] b = refl
blank_there (x ∷ front) b = blank_there front b

longer_there : (front b : List ℕ) → length front < length (front ++ 32 ∷ b)
longer_there front b = let size : length (front ++ 32 ∷ b) ≡ length front + length (32 ∷ b) = length-append front (32 ∷ b) in omega (arith, size)

-- digits have no blank among them
no_blank : (a front b : List ℕ) → are_digits a ≡ true → a ≡ front ++ 32 ∷ b → ⊥
no_blank a front b all e =
    let moved : are_digits (front ++ 32 ∷ b) ≡ true = rw e at all in
    let digit : is_digit 32 ≡ true = rw (blank_there front b) at (passes_at is_digit (front ++ 32 ∷ b) (length front) moved (longer_there front b)) in
    let no : false ≡ true = digit in cc

-- digits before the first blank
pub split_first : (a b x y : List ℕ) → are_digits a ≡ true → are_digits b ≡ true → a ++ 32 ∷ x ≡ b ++ 32 ∷ y → (a ≡ b) × (x ≡ y)
split_first [] [] x y h k e = (refl, cc)
split_first [] (d ∷ b) x y h k e =
    let first : d ≡ 32 = cc in
    let moved : are_digits (32 ∷ b) ≡ true = rw first at k in
    absurd (no_blank (32 ∷ b) [] b moved refl)
split_first (d ∷ a) [] x y h k e =
    let first : d ≡ 32 = cc in
    let moved : are_digits (32 ∷ a) ≡ true = rw first at h in
    absurd (no_blank (32 ∷ a) [] a moved refl)
split_first (c ∷ a) (d ∷ b) x y h k e =
    let rest = split_first a b x y (tail_all c a h) (tail_all d b k) (cc) in
    let first : c ≡ d = cc in
    (rw (first, rest.0) refl, rest.1)

-- digits behind the last blank
pub split_last : (front other a b : List ℕ) → are_digits a ≡ true → are_digits b ≡ true → front ++ 32 ∷ a ≡ other ++ 32 ∷ b → (front ≡ other) × (a ≡ b)
split_last [] [] a b h k e = (refl, cc)
split_last [] (y ∷ other) a b h k e = absurd (no_blank a other b h (cc))
split_last (x ∷ front) [] a b h k e = absurd (no_blank b front a k (cc))
split_last (x ∷ front) (y ∷ other) a b h k e =
    let rest = split_last front other a b h k (cc) in
    let first : x ≡ y = cc in
    (rw (first, rest.0) refl, rest.1)

strip_end : (a b w : List ℕ) → a ++ w ≡ b ++ w → a ≡ b
strip_end a b w e =
    let left : length (a ++ w) ≡ length a + length w = length-append a w in
    let right : length (b ++ w) ≡ length b + length w = length-append b w in
    let same : length a ≡ length b = omega (arith, left, right, ap length e) in
    sym (take_front a w) ∙ (ap (take (length a)) e ∙ (ap (λ (n : ℕ). take n (b ++ w)) same ∙ take_front b w))

same_number : (n m : ℕ) → n < 4294967296 → m < 4294967296 → decimal n ≡ decimal m → n ≡ m
same_number n m fits fits' e = sym (value_is n (decimal m) fits e) ∙ value_is m (decimal m) fits' refl

-- a name, a word that ends with a blank, and a number
named_number : (name other word : List ℕ) (k l : ℕ) → k < 4294967296 → l < 4294967296 → name ++ (word ++ 32 ∷ decimal k) ≡ other ++ (word ++ 32 ∷ decimal l) → (name ≡ other) × (k ≡ l)
named_number name other word k l fits fits' e =
    let parts = split_last (name ++ word) (other ++ word) (decimal k) (decimal l) (digits_of k fits) (digits_of l fits') (append_assoc name word (32 ∷ decimal k) ∙ (e ∙ sym (append_assoc other word (32 ∷ decimal l)))) in
    (strip_end name other word parts.0, same_number k l fits fits' parts.1)

pub one_equation_line : (line : List ℕ) (i c : ℕ) (name : List ℕ) (k j d : ℕ) (other : List ℕ) (l : ℕ) → IsEquationLine line i c name k → IsEquationLine line j d other l → (i ≡ j) × (c ≡ d) × (name ≡ other) × (k ≡ l)
one_equation_line line i c name k j d other l a b =
    let e = strip (codes "equation ") _ _ (sym a.is ∙ b.is) in
    let first = split_first (decimal i) (decimal j) _ _ (digits_of i a.number_fits) (digits_of j b.number_fits) e in
    let f = strip (codes "c ") _ _ first.1 in
    let second = split_first (decimal c) (decimal d) _ _ (digits_of c a.offset_fits) (digits_of d b.offset_fits) f in
    let g = strip (codes "pairs ") _ _ second.1 in
    let third = named_number name other (codes " order") k l a.order_fits b.order_fits g in
    (same_number i j a.number_fits b.number_fits first.0, same_number c d a.offset_fits b.offset_fits second.0, third.0, third.1)

pub one_unknown_line : (line name : List ℕ) (d : ℕ) (other : List ℕ) (h : ℕ) → IsUnknownLine line name d → IsUnknownLine line other h → (name ≡ other) × (d ≡ h)
one_unknown_line line name d other h a b = named_number name other (codes " d") d h a.fits b.fits (strip (codes "unknown ") _ _ (sym a.is ∙ b.is))

pub renamed : (line name other : List ℕ) (d : ℕ) → name ≡ other → IsUnknownLine line name d → IsUnknownLine line other d
renamed line name other d e is = rw e at is
