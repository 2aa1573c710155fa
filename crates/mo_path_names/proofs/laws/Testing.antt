-- Tests that pass, of two values and of lists, and what holds of each element of a list.
use Rattle.std.proofs.Common.{Bool, true, false, List, [], ◌∷◌, ◌++◌, All, IsTrue, refl}
use Rattle.std.specs.Prelude.{◌&&◌}
use Rattle.std.specs.List.{AllByRecursion, list_all}
use Rattle.std.proofs.lemmas.List.Elements.{All-from_recursion, recursion_from_All}
use Rattle.mo_scope.specs.Places.{Every}

pub left_of : (a b : Bool) → IsTrue (a && b) → IsTrue a
left_of true b h = refl
left_of false b h = absurd cc

pub right_of : (a b : Bool) → IsTrue (a && b) → IsTrue b
right_of true b h = h
right_of false b h = absurd cc

pub both_pass : (a b : Bool) → IsTrue a → IsTrue b → IsTrue (a && b)
both_pass true b p q = q
both_pass false b p q = absurd cc

pub all_last : {A : Type 0} (test : A → Bool) (xs : List A) (x : A) → IsTrue (list_all test xs) → IsTrue (test x) → IsTrue (list_all test (xs ++ x ∷ []))
all_last test [] x h p = both_pass (test x) true p refl
all_last test (y ∷ ys) x h p =
    both_pass (test y) (list_all test (ys ++ x ∷ [])) (left_of (test y) (list_all test ys) h) (all_last test ys x (right_of (test y) (list_all test ys) h) p)

as_recursion : {A : Type 0} (P : A → Type 0) (xs : List A) → Every P xs → AllByRecursion P xs
as_recursion P [] h = tt
as_recursion P (x ∷ xs) h = (h.0, as_recursion P xs h.1)

from_recursion : {A : Type 0} (P : A → Type 0) (xs : List A) → AllByRecursion P xs → Every P xs
from_recursion P [] h = tt
from_recursion P (x ∷ xs) h = (h.0, from_recursion P xs h.1)

pub every_all : {A : Type 0} (P : A → Type 0) (xs : List A) → Every P xs → All P xs
every_all P xs h = All-from_recursion P xs (as_recursion P xs h)

pub all_every : {A : Type 0} (P : A → Type 0) (xs : List A) → All P xs → Every P xs
all_every P xs h = from_recursion P xs (recursion_from_All P xs h)
