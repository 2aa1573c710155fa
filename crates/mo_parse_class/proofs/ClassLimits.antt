-- What is left of the limits inside a class.
use Rattle.std.proofs.Common.{◌≡◌, ◌<◌, ◌-◌, ◌∙◌, ℕ, zero, suc, Option, Some, None, refl, ap, arith}
use Rattle.mo_grammar.specs.Grammar.{a_class, EndName, Limits, at_most, left_inside}

pub no_construct_left : (constructs classes : ℕ) (name : EndName) → constructs ≡ 0 → left_inside a_class (at_most constructs classes name) ≡ None
no_construct_left zero classes name e = refl
no_construct_left (suc n) classes name e = cc

pub no_class_left : (constructs classes : ℕ) (name : EndName) → classes ≡ 0 → left_inside a_class (at_most constructs classes name) ≡ None
no_class_left zero classes name e = refl
no_class_left (suc n) zero name e = refl
no_class_left (suc n) (suc k) name e = cc

pub class_left : (constructs classes : ℕ) (name : EndName) → 0 < constructs → 0 < classes → left_inside a_class (at_most constructs classes name) ≡ Some (at_most (constructs - 1) (classes - 1) name)
class_left zero classes name p q = absurd (omega arith)
class_left (suc n) zero name p q = absurd (omega arith)
class_left (suc n) (suc k) name p q =
    let one : n ≡ suc n - 1 = omega arith in
    let two : k ≡ suc k - 1 = omega arith in
    ap (λ m. let all : Option Limits = Some (at_most m k name) in all) one ∙ ap (λ m. let all : Option Limits = Some (at_most (suc n - 1) m name) in all) two
