-- Joining the elements of bases, one after another from the end of a list.
use Rattle.std.proofs.Common.{◌≡◌, Bool, true, false, cond, List, [], ◌∷◌, ◌++◌, map, reverse, Ok, Err, refl, ap, sym, subst, ◌∙◌, append_assoc}
use Rattle.std.specs.Prelude.{◌||◌}
use Rattle.std.specs.List.{list_any}
use Rattle.std.proofs.lemmas.List.{reverse-append, map-append}
use Rattle.mo_syntax.specs.Outcome.{Outcome, and_then}
use Rattle.mo_syntax.specs.declared.place.Broken.{Broken}
use Rattle.mo_scope.specs.Lookup.{Inherited, Walked, not_counted, with_member, with_members}
use Rattle.mo_scope.specs.Places.{Every}

-- the last of a list is the first from its end
pub turned_last : {A : Type 0} (old new : List A) (x : A) → old ≡ new ++ x ∷ [] → reverse old ≡ x ∷ reverse new
turned_last old new x is = ap reverse is ∙ reverse-append new (x ∷ [])

-- ---- elements behind others

pub members_go_on : {A : Type 0} (f : A → Inherited) (old new : List A) (x : A) (w w' : Walked) (all : Outcome Walked) → old ≡ new ++ x ∷ [] →
    with_members (map f (reverse old)) w ≡ all → with_member (f x) w ≡ Ok w' → with_members (map f (reverse new)) w' ≡ all
members_go_on f old new x w w' all is rest one =
    ap (λ (o : Outcome Walked). and_then o (with_members (map f (reverse new)))) (sym one)
    ∙ ap (λ xs. with_members (map f xs) w) (sym (turned_last old new x is)) ∙ rest

pub members_stop : {A : Type 0} (f : A → Inherited) (old new : List A) (x : A) (w : Walked) (all : Outcome Walked) (b : Broken) → old ≡ new ++ x ∷ [] →
    with_members (map f (reverse old)) w ≡ all → with_member (f x) w ≡ Err b → all ≡ Err b
members_stop f old new x w all b is rest one =
    sym rest ∙ ap (λ xs. with_members (map f xs) w) (turned_last old new x is) ∙ ap (λ (o : Outcome Walked). and_then o (with_members (map f (reverse new)))) one

pub every_turned : {A : Type 0} (P : A → Type 0) (old new : List A) (x : A) → old ≡ new ++ x ∷ [] → Every P (reverse old) → P x × Every P (reverse new)
every_turned P old new x is all = subst (Every P) (turned_last old new x is) all

-- ---- those that count

pub counts_on : {A B : Type 0} (f : A → B) (test : B → Bool) (g : B → B) (made old new made' : List A) (x y : A) (all : List B) → old ≡ new ++ x ∷ [] → f y ≡ g (f x) → made' ≡ made ++ y ∷ [] → test (g (f x)) ≡ false →
    map f made ++ not_counted test (map g (map f (reverse old))) ≡ all → map f made' ++ not_counted test (map g (map f (reverse new))) ≡ all
counts_on f test g made old new made' x y all is seen more new_one rest =
    ap (λ ys. map f ys ++ not_counted test (map g (map f (reverse new)))) more
    ∙ ap (λ ys. ys ++ not_counted test (map g (map f (reverse new)))) (map-append f made (y ∷ []))
    ∙ ap (λ z. (map f made ++ z ∷ []) ++ not_counted test (map g (map f (reverse new)))) seen
    ∙ append_assoc (map f made) (g (f x) ∷ []) (not_counted test (map g (map f (reverse new))))
    ∙ ap (λ b. map f made ++ cond b (not_counted test (map g (map f (reverse new)))) (g (f x) ∷ not_counted test (map g (map f (reverse new))))) (sym new_one)
    ∙ ap (λ xs. map f made ++ not_counted test (map g (map f xs))) (sym (turned_last old new x is))
    ∙ rest

pub counted_on : {A B : Type 0} (f : A → B) (test : B → Bool) (g : B → B) (made old new : List A) (x : A) (all : List B) → old ≡ new ++ x ∷ [] → test (g (f x)) ≡ true →
    map f made ++ not_counted test (map g (map f (reverse old))) ≡ all → map f made ++ not_counted test (map g (map f (reverse new))) ≡ all
counted_on f test g made old new x all is old_one rest =
    ap (λ b. map f made ++ cond b (not_counted test (map g (map f (reverse new)))) (g (f x) ∷ not_counted test (map g (map f (reverse new))))) (sym old_one)
    ∙ ap (λ xs. map f made ++ not_counted test (map g (map f xs))) (sym (turned_last old new x is))
    ∙ rest

-- ---- in any order

any_append : {A : Type 0} (test : A → Bool) (xs ys : List A) → list_any test (xs ++ ys) ≡ (list_any test xs || list_any test ys)
any_append test [] ys = refl
any_append test (x ∷ xs) ys = ap (λ b. test x || b) (any_append test xs ys) ∙ regroup (test x) (list_any test xs) (list_any test ys)
  where
    regroup : (a b c : Bool) → (a || (b || c)) ≡ ((a || b) || c)
    regroup true b c = refl
    regroup false b c = refl

pub any_turned : {A : Type 0} (test : A → Bool) (xs : List A) → list_any test (reverse xs) ≡ list_any test xs
any_turned test [] = refl
any_turned test (x ∷ xs) =
    ap (list_any test) (reverse-append (x ∷ []) xs) ∙ any_append test (reverse xs) (x ∷ []) ∙ ap (λ b. b || (test x || false)) (any_turned test xs)
    ∙ other (list_any test xs) (test x)
  where
    other : (a b : Bool) → (a || (b || false)) ≡ (b || a)
    other true true = refl
    other true false = refl
    other false true = refl
    other false false = refl
