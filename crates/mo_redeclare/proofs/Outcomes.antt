-- Outcomes, one after another.
use Rattle.std.proofs.Common.{◌≡◌, ℕ, zero, suc, ◌+◌, ◌<◌, List, [], ◌∷◌, length, drop, get_or, Ok, Err, refl, ap, sym, subst, ◌∙◌, arith}
use Rattle.std.proofs.lemmas.List.{drop_more}
use Rattle.mo_syntax.specs.Outcome.{Outcome, and_then}
use Rattle.mo_syntax.specs.declared.place.Broken.{Broken}
use Rattle.mo_syntax.specs.declared.place.Stop.{Stop}
use Rattle.mo_syntax.specs.declared.place.Stop.TheVariants.{Broken as broken_by, NoMemory as no_memory}
use Rattle.mo_scope.specs.Outcome.{Gives}
use Rattle.mo_scope.specs.Places.{Every}
use Rattle.mo_scope.specs.Rows.{Table}
use Rattle.mo_scope.specs.Worlds.{World, Grows, table_in}
use Rattle.mo_names.proofs.Later.{table_later}

-- what follows from a step of an outcome
pub then_ok : {A B : Type 0} (o : Outcome A) (f : A → Outcome B) (a : A) (all : Outcome B) → and_then o f ≡ all → o ≡ Ok a → f a ≡ all
then_ok o f a all is ok = ap (λ x. and_then x f) (sym ok) ∙ is

pub then_err : {A B : Type 0} (o : Outcome A) (f : A → Outcome B) (b : Broken) (all : Outcome B) → and_then o f ≡ all → o ≡ Err b → all ≡ Err b
then_err o f b all is err = sym is ∙ ap (λ x. and_then x f) err

pub then_then : {A B C : Type 0} (o : Outcome A) (f : A → Outcome B) (g : B → Outcome C) → and_then o (λ a. and_then (f a) g) ≡ and_then (and_then o f) g
then_then (Ok a) f g = refl
then_then (Err b) f g = refl

pub then_same : {A B : Type 0} (o : Outcome A) (f g : A → Outcome B) → ((a : A) → f a ≡ g a) → and_then o f ≡ and_then o g
then_same (Ok a) f g same = same a
then_same (Err b) f g same = refl

-- what is left of a list from an element on
pub left_from : {A B : Type 0} (G : List A → B) (xs : List A) (i : ℕ) (x : A) (all : B) → i < length xs → x ≡ get_or xs i x → G (drop i xs) ≡ all → G (x ∷ drop (i + 1) xs) ≡ all
left_from G xs i x all below is rest = ap G (sym (drop_more xs i x below ∙ ap (λ y. y ∷ drop (i + 1) xs) (sym is))) ∙ rest

-- what was told of an older table
pub told_of : {A : Type 0} (told : Table → Outcome A) (u v : World) (o : Outcome A) → Grows u v → told (table_in v) ≡ o → told (table_in u) ≡ o
told_of told u v o g is = ap told (sym (table_later u v g)) ∙ is

-- ---- answers that are no values

pub err_on : {T U A B : Type 0} (view : T → A) (view' : U → B) (e : Stop) (o : Outcome A) (f : A → Outcome B) (all : Outcome B) → Gives view (Err e) o → and_then o f ≡ all → Gives view' (Err e) all
err_on view view' (broken_by b) o f all is left = then_err o f b all left is
err_on view view' no_memory o f all is left = tt

-- ---- elements of lists

pub every_at : {A : Type 0} (P : A → Type 0) (xs : List A) (i : ℕ) (x : A) → Every P xs → i < length xs → x ≡ get_or xs i x → P x
every_at P [] i x are below is = absurd (omega (arith, below))
every_at P (y ∷ xs) zero x are below is = subst P (sym is) are.0
every_at P (y ∷ xs) (suc i) x are below is = every_at P xs i x are.1 (omega (arith, below)) is
