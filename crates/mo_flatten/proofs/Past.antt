-- What is too large before its connection sets are known is too large with them.
use Rattle.std.proofs.Common.{◌≡◌, ℕ, ◌+◌, ◌<◌, Bool, true, false, ◌||◌, List, ◌++◌, flat_map, length, refl, arith}
use Rattle.std.specs.Prelude.{nat_lt, sum_by}
use Rattle.std.proofs.lemmas.Bool.{ltb-true, lt-ltb}
use Rattle.std.proofs.lemmas.List.{length-append}
use Rattle.std.proofs.lemmas.List.Sums.{sum_by-append}
use Rattle.mo_flat.specs.declared.model.FlatEquation.{FlatEquation}
use Rattle.mo_connect.specs.Equations.{equations_of}
use Rattle.mo_equations.specs.Size.{has_too_many, most_equations, most_nodes, nodes_of_equation}
use Rattle.mo_flatten.specs.Flat.{model_of, PastStaysPast}

longer : (n : ℕ) (xs ys : List FlatEquation) → n < length xs → n < length (xs ++ ys)
longer n xs ys h = omega (length-append xs ys, h, arith)

more_equations : (xs ys : List FlatEquation) → nat_lt most_equations (length xs) ≡ true → nat_lt most_equations (length (xs ++ ys)) ≡ true
more_equations xs ys h = lt-ltb most_equations (length (xs ++ ys)) (longer most_equations xs ys (ltb-true most_equations (length xs) h))

larger : (n before behind : ℕ) (xs ys : List FlatEquation) → n < before + sum_by nodes_of_equation xs + behind → n < before + sum_by nodes_of_equation (xs ++ ys) + behind
larger n before behind xs ys h = omega (sum_by-append nodes_of_equation xs ys, h, arith)

more_nodes : (before behind : ℕ) (xs ys : List FlatEquation) → nat_lt most_nodes (before + sum_by nodes_of_equation xs + behind) ≡ true
    → nat_lt most_nodes (before + sum_by nodes_of_equation (xs ++ ys) + behind) ≡ true
more_nodes before behind xs ys h =
    lt-ltb most_nodes (before + sum_by nodes_of_equation (xs ++ ys) + behind) (larger most_nodes before behind xs ys (ltb-true most_nodes (before + sum_by nodes_of_equation xs + behind) h))

some_holds : (a b c b' c' : Bool) → (b ≡ true → b' ≡ true) → (c ≡ true → c' ≡ true) → (a || b || c) ≡ true → (a || b' || c') ≡ true
some_holds true b c b' c' p q h = refl
some_holds false true c b' c' p q h = rw (p refl) refl
some_holds false false c true c' p q h = refl
some_holds false false c false c' p q h = q h

still_holds : (a b : Bool) → a ≡ true → (a || b) ≡ true
still_holds a b h = rw (h) refl

pub past_stays_past : PastStaysPast
past_stays_past e sets h =
    still_holds (has_too_many (model_of e sets)) _
    (some_holds _ _ _ _ _ (more_equations e.equations (flat_map equations_of sets)) (more_nodes _ _ e.equations (flat_map equations_of sets)) h)
