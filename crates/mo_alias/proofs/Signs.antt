-- Products of signs.
use Rattle.std.proofs.Common.{◌≡◌, Bool, true, false, refl, ap, ◌∙◌}
use Rattle.std.specs.Prelude.{not}
use Rattle.mo_alias.specs.Recognized.{sign_product}

pub product_plus : (a : Bool) → sign_product a false ≡ a
product_plus false = refl
product_plus true = refl

pub product_same : (a : Bool) → sign_product a a ≡ false
product_same false = refl
product_same true = refl

pub product_swap : (a b : Bool) → sign_product a b ≡ sign_product b a
product_swap false false = refl
product_swap false true = refl
product_swap true false = refl
product_swap true true = refl

pub product_assoc : (a b c : Bool) → sign_product (sign_product a b) c ≡ sign_product a (sign_product b c)
product_assoc false b c = refl
product_assoc true false c = refl
product_assoc true true false = refl
product_assoc true true true = refl

pub product_twice : (a b : Bool) → sign_product a (sign_product a b) ≡ b
product_twice false b = refl
product_twice true false = refl
product_twice true true = refl

-- a sign that is left by another
pub product_left : (a b c : Bool) → sign_product a c ≡ sign_product b c → a ≡ b
product_left false false c e = refl
product_left false true false e = let f : false ≡ true = e in cc
product_left false true true e = let f : true ≡ false = e in cc
product_left true false false e = let f : true ≡ false = e in cc
product_left true false true e = let f : false ≡ true = e in cc
product_left true true c e = refl

pub product_moved : (a b c : Bool) → a ≡ sign_product b c → sign_product a c ≡ b
product_moved a b c e = ap (λ x. sign_product x c) e ∙ product_assoc b c c ∙ ap (sign_product b) (product_same c) ∙ product_plus b

pub not_not : (a : Bool) → not (not a) ≡ a
not_not false = refl
not_not true = refl
