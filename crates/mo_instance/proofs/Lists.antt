-- Steps of lists and of outcomes.
use Rattle.std.proofs.Common.{◌≡◌, ℕ, zero, suc, ◌+◌, ◌-◌, ◌<◌, ◌≤◌, Bool, true, false, List, [], ◌∷◌, ◌++◌, length, map, take, drop, get_or, Option, Some, None, Result, Err, refl, ap, sym, subst, ◌∙◌, arith}
use Rattle.std.proofs.lemmas.List.{length-drop, take_all}
use Rattle.std.specs.Prelude.{◌||◌, if◌then◌else◌, IsTrue}
use Rattle.mo_syntax.specs.Outcome.{Outcome, and_then}
use Rattle.mo_syntax.specs.declared.place.Broken.{Broken}
use Rattle.mo_syntax.specs.declared.place.Stop.{Stop}
use Rattle.mo_syntax.specs.declared.place.Stop.TheVariants.{Broken as broken_by, NoMemory as no_memory}
use Rattle.mo_scope.specs.Arguments.{or_later}
use Rattle.mo_scope.specs.Outcome.{Gives}
use Rattle.mo_scope.specs.Places.{Every}
use Rattle.mo_scope.specs.Sizes.{is_nothing}
use Rattle.mo_names.proofs.Reading.{at_element}

pub every_at : {A : Type 0} (P : A → Type 0) (xs : List A) (i : ℕ) (x : A) → Every P xs → i < length xs → x ≡ get_or xs i x → P x
every_at P [] i x are below is = absurd (omega (arith, below))
every_at P (y ∷ xs) zero x are below is = subst P (sym is) are.0
every_at P (y ∷ xs) (suc i) x are below is = every_at P xs i x are.1 (omega (arith, below)) is

pub every_more : {A : Type 0} (P : A → Type 0) (xs ys : List A) (x : A) → ys ≡ xs ++ x ∷ [] → Every P xs → P x → Every P ys
every_more {A} P xs ys x is are this = subst (Every P) (sym is) (with_last xs are)
  where
    with_last : (zs : List A) → Every P zs → Every P (zs ++ x ∷ [])
    with_last [] none = (this, tt)
    with_last (z ∷ zs) all = (all.0, with_last zs all.1)

pub same_default : {A : Type 0} (xs : List A) (i : ℕ) (a b : A) → i < length xs → get_or xs i a ≡ get_or xs i b
same_default [] i a b below = absurd (omega (arith, below))
same_default (x ∷ xs) zero a b below = refl
same_default (x ∷ xs) (suc i) a b below = same_default xs i a b (omega (arith, below))

pub length_mapped : {A B : Type 0} (f : A → B) (xs : List A) → length (map f xs) ≡ length xs
length_mapped f [] = refl
length_mapped f (x ∷ xs) = ap (λ n. suc n) (length_mapped f xs)

pub dropped_map : {A B : Type 0} (f : A → B) (n : ℕ) (xs : List A) → map f (drop n xs) ≡ drop n (map f xs)
dropped_map f zero xs = refl
dropped_map f (suc n) [] = refl
dropped_map f (suc n) (x ∷ xs) = dropped_map f n xs

-- what stands behind the first n, as it is read
pub rest_taken : {A : Type 0} (n : ℕ) (xs : List A) → take (length xs - n) (drop n xs) ≡ drop n xs
rest_taken n xs = take_all (length xs - n) (drop n xs) (omega (arith, length-drop n xs))

-- ---- lists with nothing in them

pub mapped_nothing : {A B : Type 0} (f : A → B) (xs : List A) → is_nothing (map f xs) ≡ is_nothing xs
mapped_nothing f [] = refl
mapped_nothing f (x ∷ xs) = refl

pub nothing_is : {A : Type 0} (xs : List A) (b : Bool) → (IsTrue b → xs ≡ []) × (xs ≡ [] → IsTrue b) → is_nothing xs ≡ b
nothing_is [] true h = refl
nothing_is [] false h = absurd (let both : false ≡ true = h.1 refl in cc)
nothing_is (x ∷ xs) true h = absurd (let none : x ∷ xs ≡ [] = h.0 refl in cc)
nothing_is (x ∷ xs) false h = refl

-- ---- tests of one after another

pub or_true : (b rest all : Bool) → b ≡ true → (b || rest) ≡ all → true ≡ all
or_true b rest all is before = ap (λ c. c || rest) (sym is) ∙ before

pub or_false : (b rest all : Bool) → b ≡ false → (b || rest) ≡ all → rest ≡ all
or_false b rest all is before = ap (λ c. c || rest) (sym is) ∙ before

pub then_is : {A : Type 0} (b : Bool) (x y all : A) → b ≡ true → (if b then x else y) ≡ all → x ≡ all
then_is b x y all is before = ap (λ c. if c then x else y) (sym is) ∙ before

pub else_is : {A : Type 0} (b : Bool) (x y all : A) → b ≡ false → (if b then x else y) ≡ all → y ≡ all
else_is b x y all is before = ap (λ c. if c then x else y) (sym is) ∙ before

-- ---- the first broken rule

pub later_some : (o rest all : Option Broken) (b : Broken) → Some b ≡ o → or_later o rest ≡ all → Some b ≡ all
later_some o rest all b is before = ap (λ x. or_later x rest) is ∙ before

pub later_none : (o rest all : Option Broken) → None ≡ o → or_later o rest ≡ all → rest ≡ all
later_none o rest all is before = ap (λ x. or_later x rest) is ∙ before

-- ---- answers that follow from others

-- a broken rule on the way breaks all
pub broken_on : {T U A B : Type 0} (view : T → A) (view' : U → B) (e : Stop) (o : Outcome A) (f : A → Outcome B) (all : Outcome B) → Gives view (Err e) o → and_then o f ≡ all → Gives view' (Err e) all
broken_on view view' (broken_by b) o f all is left = sym left ∙ ap (λ x. and_then x f) is
broken_on view view' no_memory o f all is left = tt

-- the same answer of an outcome that is the same
pub gives_as : {T A : Type 0} (view : T → A) (r : Result T Stop) (o all : Outcome A) → o ≡ all → Gives view r o → Gives view r all
gives_as {T} {A} view r o all is gives = subst (Gives {T = T} {A = A} view r) is gives

-- a broken rule, where what follows keeps broken rules
pub broken_to : {T U A B : Type 0} (view : T → A) (view' : U → B) (e : Stop) (o : Outcome A) (all : Outcome B) → Gives view (Err e) o → ((b : Broken) → o ≡ Err b → all ≡ Err b) → Gives view' (Err e) all
broken_to view view' (broken_by b) o all is further = further b is
broken_to view view' no_memory o all is further = tt

-- ---- from the back

pub back_step : {A : Type 0} (xs : List A) (at : ℕ) (x : A) → 0 < at → at ≤ length xs → x ≡ get_or xs (at - 1) x → drop (at - 1) xs ≡ x ∷ drop at xs
back_step xs at x some below is =
    let again : (at - 1) + 1 ≡ at = omega (arith, some) in
    at_element xs (at - 1) x (omega (arith, some, below)) is ∙ ap (λ n. x ∷ drop n xs) again
