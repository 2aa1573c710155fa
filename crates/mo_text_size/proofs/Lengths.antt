-- The bytes of texts by their pieces.
use Rattle.std.proofs.Common.{◌≡◌, ℕ, zero, suc, ◌+◌, ◌*◌, ◌-◌, ◌^◌, ◌<◌, ◌≤◌, Bool, true, false, eqb, List, [], ◌∷◌, ◌++◌, map, take, get_or, length, min, refl, ap, ◌∙◌, sym, arith}
use Rattle.std.specs.Prelude.{codes, flat_map, if◌then◌else◌, nat_lt}
use Rattle.std.proofs.lemmas.Bool.Decides.{nat_tests}
use Rattle.std.proofs.lemmas.Grind.{flat_map-append}
use Rattle.std.proofs.lemmas.List.{append-nil, length-append, take_more}
use Rattle.mo_flat.specs.declared.expr.FlatExpr.{FlatExpr, FlatExpr-F}
use Rattle.mo_flat.specs.declared.expr.FlatExpr.TheVariants.{Der, outs-Der}
use Rattle.mo_flat.specs.declared.model.FlatVar.{FlatVar}
use Rattle.mo_flat.specs.Text.{Printed, derivative_text, expr_text, in_row, level_of, operand, printed}
use Rattle.mo_flat.proofs.Printing.{row_step, text_at}
use Rattle.mo_flat.proofs.Reading.{printed_level}
use Rattle.mo_text_size.specs.Bytes.{bytes}

-- numbers that stop at the greatest of 64 bits
pub plus : (x y a b r : ℕ) → a ≡ min x (2 ^ 64 - 1) → b ≡ min y (2 ^ 64 - 1) → r ≡ min (a + b) (2 ^ 64 - 1) → r ≡ min (x + y) (2 ^ 64 - 1)
plus x y a b r h k is = omega (arith, h, k, is)

pub grown : (x n a r : ℕ) → a ≡ min x (2 ^ 64 - 1) → r ≡ min (a + n) (2 ^ 64 - 1) → r ≡ min (x + n) (2 ^ 64 - 1)
grown x n a r h is = omega (arith, h, is)

-- the number that was counted is that of a text
pub counted : (n r : ℕ) (text : List ℕ) → length text ≡ n → r ≡ min n (2 ^ 64 - 1) → r ≡ bytes text
counted n r text e is = is ∙ ap (λ k. min k (2 ^ 64 - 1)) (sym e)

-- one text behind another
pub joined : (s t : List ℕ) (a b r : ℕ) → a ≡ bytes s → b ≡ bytes t → r ≡ min (a + b) (2 ^ 64 - 1) → r ≡ bytes (s ++ t)
joined s t a b r h k is = counted (length s + length t) r (s ++ t) (length-append s t) (plus (length s) (length t) a b r h k is)

pub around : (a b c : List ℕ) → length (a ++ b ++ c) ≡ length a + (length b + length c)
around a b c = let x = length-append (a ++ b) c in let y = length-append a b in omega (arith, x, y)

pub of_four : (a b c d : List ℕ) → length (a ++ b ++ c ++ d) ≡ length a + (length b + (length c + length d))
of_four a b c d = let x = length-append (a ++ b ++ c) d in let y = around a b c in omega (arith, x, y)

pub of_five : (a b c d e : List ℕ) → length (a ++ b ++ c ++ d ++ e) ≡ length a + (length b + (length c + (length d + length e)))
of_five a b c d e = let x = length-append (a ++ b ++ c ++ d) e in let y = of_four a b c d in omega (arith, x, y)

pub of_six : (a b c d e f : List ℕ) → length (a ++ b ++ c ++ d ++ e ++ f) ≡ length a + (length b + (length c + (length d + (length e + length f))))
of_six a b c d e f = let x = length-append (a ++ b ++ c ++ d ++ e) f in let y = of_five a b c d e in omega (arith, x, y)

pub of_eight : (a b c d e f g h : List ℕ) → length (a ++ b ++ c ++ d ++ e ++ f ++ g ++ h) ≡ length a + (length b + (length c + (length d + (length e + (length f + (length g + length h))))))
of_eight a b c d e f g h =
    let x = length-append (a ++ b ++ c ++ d ++ e ++ f ++ g) h in let y = length-append (a ++ b ++ c ++ d ++ e ++ f) g in let z = of_six a b c d e f in
    omega (arith, x, y, z)

pub derivative_length : (k : ℕ) (name : List ℕ) → length (derivative_text k name) ≡ length name + 5 * k
derivative_length zero name = omega arith
derivative_length (suc k) name =
    let e = around (codes "der(") (derivative_text k name) (codes ")") in
    let opens : length (codes "der(") ≡ 4 = refl in
    let closes : length (codes ")") ≡ 1 = refl in
    let h = derivative_length k name in
    omega (arith, e, opens, closes, h)

pub at_Der : (vars : List FlatVar) (a : FlatExpr) → expr_text vars (Der a) ≡ codes "der(" ++ operand 0 (printed vars a) ++ codes ")"
at_Der vars a = text_at vars (Der a) (FlatExpr-F.Der a) (outs-Der a)

-- ---- operands

in_parentheses : (wanted : ℕ) (p : Printed) → p.level < wanted → operand wanted p ≡ codes "(" ++ p.text ++ codes ")"
in_parentheses wanted p l =
    let test : nat_lt p.level wanted ≡ true = grind (arith, nat_tests) in
    ap (λ b. if b then codes "(" ++ p.text ++ codes ")" else p.text) test

bare : (wanted : ℕ) (p : Printed) → wanted ≤ p.level → operand wanted p ≡ p.text
bare wanted p l =
    let test : nat_lt p.level wanted ≡ false = grind (arith, nat_tests) in
    ap (λ b. if b then codes "(" ++ p.text ++ codes ")" else p.text) test

module _ (vars : List FlatVar) (e : FlatExpr) (wanted level : ℕ) where
  pub enclosed : (inside r : ℕ) → level ≡ level_of e → level < wanted → inside ≡ bytes (expr_text vars e) → r ≡ min (inside + 2) (2 ^ 64 - 1) → r ≡ bytes (operand wanted (printed vars e))
  enclosed inside r h l i is =
      let same = printed_level vars e in
      let text = in_parentheses wanted (printed vars e) (omega (arith, same, h, l)) in
      let long = around (codes "(") (expr_text vars e) (codes ")") in
      let opens : length (codes "(") ≡ 1 = refl in
      let closes : length (codes ")") ≡ 1 = refl in
      rw text (omega (arith, long, opens, closes, i, is))

  pub alone : (r : ℕ) → level ≡ level_of e → wanted ≤ level → r ≡ bytes (expr_text vars e) → r ≡ bytes (operand wanted (printed vars e))
  alone r h l i =
      let same = printed_level vars e in
      let text = bare wanted (printed vars e) (omega (arith, same, h, l)) in
      i ∙ ap bytes (sym text)

-- ---- turns of loops

-- one more part of a row
pub row_more : {A B : Type 0} (part : Bool → B → List ℕ) (h : A → B) (xs : List A) (i : ℕ) (x : A) (first : Bool) (all one r : ℕ) →
    i < length xs → x ≡ get_or xs i x → first ≡ eqb i 0 → all ≡ bytes (in_row part (map h (take i xs))) → one ≡ bytes (part first (h x)) → r ≡ min (all + one) (2 ^ 64 - 1) →
    r ≡ bytes (in_row part (map h (take (i + 1) xs)))
row_more part h xs i x first all one r l is f a o sum =
    let before = in_row part (map h (take i xs)) in
    let text = row_step part h xs i x x first [] before (before ++ part first (h x)) l is f refl refl in
    joined before (part first (h x)) all one r a o sum ∙ ap bytes text

-- one more line
pub line_more : {A : Type 0} (line : A → List ℕ) (xs : List A) (i : ℕ) (x : A) (all one r : ℕ) →
    i < length xs → x ≡ get_or xs i x → all ≡ bytes (flat_map line (take i xs)) → one ≡ bytes (line x) → r ≡ min (all + one) (2 ^ 64 - 1) →
    r ≡ bytes (flat_map line (take (i + 1) xs))
line_more line xs i x all one r l is a o sum =
    let text : flat_map line (take (i + 1) xs) ≡ flat_map line (take i xs) ++ line x =
    ap (flat_map line) (take_more xs i x l ∙ ap (λ y. take i xs ++ y ∷ []) (sym is)) ∙ flat_map-append line (take i xs) (x ∷ []) ∙ ap (λ t. flat_map line (take i xs) ++ t) (append-nil (line x)) in
    joined (flat_map line (take i xs)) (line x) all one r a o sum ∙ ap bytes (sym text)
