-- Elements of lists by their places.
use Rattle.std.proofs.Common.{◌≡◌, ℕ, zero, suc, ◌+◌, ◌-◌, ◌<◌, ◌≤◌, List, [], ◌∷◌, ◌++◌, length, take, drop, get_or, map, flat_map, Option, Some, None, refl, ap, sym, subst, ◌∙◌, append_assoc, arith}
use Rattle.std.specs.Prelude.{slice_get}
use Rattle.std.proofs.lemmas.List.{append-nil, drop_more, take_all, take_more, take-append-drop}
use Rattle.mo_scope.specs.Places.{Every}

pub got : {A : Type 0} (xs : List A) (k : ℕ) (x : A) → k < length xs → x ≡ get_or xs k x → slice_get xs k ≡ Some x
got [] k x small is = absurd (omega (arith, small))
got (y ∷ ys) zero x small is = ap Some (sym is)
got (y ∷ ys) (suc k) x small is = got ys k x (omega (arith, small)) is

pub every_at : {A : Type 0} (P : A → Type 0) (xs : List A) (i : ℕ) (x : A) → Every P xs → i < length xs → x ≡ get_or xs i x → P x
every_at P [] i x are below is = absurd (omega (arith, below))
every_at P (y ∷ xs) zero x are below is = subst P (sym is) are.0
every_at P (y ∷ xs) (suc i) x are below is = every_at P xs i x are.1 (omega (arith, below)) is

pub every_last : {A : Type 0} (P : A → Type 0) (zs : List A) (x : A) → Every P zs → P x → Every P (zs ++ x ∷ [])
every_last P [] x none this = (this, tt)
every_last P (z ∷ zs) x all this = (all.0, every_last P zs x all.1 this)

-- all up to a place, and the one there
pub every_taken : {A : Type 0} (P : A → Type 0) (xs : List A) (i : ℕ) (x d : A) → i < length xs → x ≡ get_or xs i d → Every P (take i xs) → P x → Every P (take (i + 1) xs)
every_taken P xs i x d small is are this =
    subst (Every P) (sym (take_more xs i d small)) (every_last P (take i xs) (get_or xs i d) are (subst P is this))

pub every_mapped : {A : Type 0} (P Q : A → Type 0) → ((x : A) → P x → Q x) → (xs : List A) → Every P xs → Every Q xs
every_mapped P Q f [] are = tt
every_mapped P Q f (x ∷ xs) are = (f x are.0, every_mapped P Q f xs are.1)

-- what is behind a place
pub split_at : {A : Type 0} (xs : List A) (i : ℕ) (x : A) → i < length xs → x ≡ get_or xs i x → xs ≡ take i xs ++ x ∷ drop (i + 1) xs
split_at {A} xs i x small is =
    sym (take-append-drop i xs) ∙ ap (λ (zs : List A). take i xs ++ zs) (drop_more xs i x small ∙ ap (λ (z : A). z ∷ drop (i + 1) xs) (sym is))

pub flat_mapped : {A B : Type 0} (f : A → List B) (xs ys : List A) → flat_map f (xs ++ ys) ≡ flat_map f xs ++ flat_map f ys
flat_mapped f [] ys = refl
flat_mapped {A} {B} f (x ∷ xs) ys = ap (λ (zs : List B). f x ++ zs) (flat_mapped f xs ys) ∙ sym (append_assoc (f x) (flat_map f xs) (flat_map f ys))

pub every_all : {A : Type 0} (P : A → Type 0) (xs : List A) (i : ℕ) → length xs ≤ i → Every P (take i xs) → Every P xs
every_all P xs i above are = subst (Every P) (take_all i xs above) are

pub same_default : {A : Type 0} (xs : List A) (i : ℕ) (a b : A) → i < length xs → get_or xs i a ≡ get_or xs i b
same_default [] i a b below = absurd (omega (arith, below))
same_default (x ∷ xs) zero a b below = refl
same_default (x ∷ xs) (suc i) a b below = same_default xs i a b (omega (arith, below))

-- the first element and those behind it
pub opened : {A : Type 0} (xs : List A) (x : A) → 1 ≤ length xs → x ≡ get_or xs 0 x → xs ≡ x ∷ take (length xs - 1) (drop 1 xs)
opened [] x some is = absurd (omega (arith, some))
opened {A} (y ∷ ys) x some is = ap (λ (z : A). z ∷ ys) (sym is) ∙ ap (λ (zs : List A). x ∷ zs) (sym (take_all (length (y ∷ ys) - 1) ys (omega arith)))

pub opened_or : {A : Type 0} (xs : List A) (d : A) → 1 ≤ length xs → xs ≡ get_or xs 0 d ∷ take (length xs - 1) (drop 1 xs)
opened_or xs d some = opened xs (get_or xs 0 d) some (same_default xs 0 d (get_or xs 0 d) (omega (arith, some)))

pub empty_list : {A : Type 0} (xs : List A) → length xs ≡ 0 → xs ≡ []
empty_list [] h = refl
empty_list (x ∷ xs) h = absurd (omega (arith, h))

-- an element that is there
pub below_got : {A : Type 0} (xs : List A) (k : ℕ) (x : A) → slice_get xs k ≡ Some x → k < length xs
below_got {A} [] k x is = absurd (let clash : ◌≡◌ {A = Option A} None (Some x) = is in cc)
below_got (y ∷ ys) zero x is = omega arith
below_got (y ∷ ys) (suc k) x is = let less = below_got ys k x is in omega (arith, less)

pub at_got : {A : Type 0} (xs : List A) (k : ℕ) (x : A) → slice_get xs k ≡ Some x → x ≡ get_or xs k x
at_got {A} [] k x is = absurd (let clash : ◌≡◌ {A = Option A} None (Some x) = is in cc)
at_got {A} (y ∷ ys) zero x is = let same : ◌≡◌ {A = Option A} (Some y) (Some x) = is in cc
at_got (y ∷ ys) (suc k) x is = at_got ys k x is

pub taken_got : {A : Type 0} (xs : List A) (k : ℕ) (x : A) → slice_get xs k ≡ Some x → take (k + 1) xs ≡ take k xs ++ x ∷ []
taken_got {A} xs k x is = take_more xs k x (below_got xs k x is) ∙ ap (λ (y : A). take k xs ++ y ∷ []) (sym (at_got xs k x is))

pub split_got : {A : Type 0} (xs : List A) (k : ℕ) (x : A) → slice_get xs k ≡ Some x → xs ≡ take k xs ++ x ∷ drop (k + 1) xs
split_got xs k x is = split_at xs k x (below_got xs k x is) (at_got xs k x is)

-- what the elements up to a place give, and one more
pub flat_taken : {A B : Type 0} (f : A → List B) (xs : List A) (i : ℕ) (x : A) → i < length xs → x ≡ get_or xs i x → flat_map f (take (i + 1) xs) ≡ flat_map f (take i xs) ++ f x
flat_taken {A} {B} f xs i x small is =
    ap (flat_map f) (take_more xs i x small ∙ ap (λ (y : A). take i xs ++ y ∷ []) (sym is)) ∙ flat_mapped f (take i xs) (x ∷ []) ∙ ap (λ (bs : List B). flat_map f (take i xs) ++ bs) (append-nil (f x))

pub flat_split : {A B : Type 0} (f : A → List B) (xs : List A) (i : ℕ) (x : A) → i < length xs → x ≡ get_or xs i x → flat_map f xs ≡ flat_map f (take i xs) ++ (f x ++ flat_map f (drop (i + 1) xs))
flat_split f xs i x small is = ap (flat_map f) (split_at xs i x small is) ∙ flat_mapped f (take i xs) (x ∷ drop (i + 1) xs)

pub mapped_both : {A B : Type 0} (f : A → B) (xs ys : List A) → map f (xs ++ ys) ≡ map f xs ++ map f ys
mapped_both f [] ys = refl
mapped_both {A} {B} f (x ∷ xs) ys = ap (λ (bs : List B). f x ∷ bs) (mapped_both f xs ys)

pub mapped_flat : {A B C : Type 0} (f : B → C) (g : A → List B) (xs : List A) → map f (flat_map g xs) ≡ flat_map (λ x. map f (g x)) xs
mapped_flat f g [] = refl
mapped_flat {A} {B} {C} f g (x ∷ xs) = mapped_both f (g x) (flat_map g xs) ∙ ap (λ (cs : List C). map f (g x) ++ cs) (mapped_flat f g xs)

-- the same by the element that is there
pub flat_taken_or : {A B : Type 0} (f : A → List B) (xs : List A) (i : ℕ) (d : A) → i < length xs → flat_map f (take (i + 1) xs) ≡ flat_map f (take i xs) ++ f (get_or xs i d)
flat_taken_or f xs i d small = flat_taken f xs i (get_or xs i d) small (same_default xs i d (get_or xs i d) small)

pub flat_split_or : {A B : Type 0} (f : A → List B) (xs : List A) (i : ℕ) (d : A) → i < length xs → flat_map f xs ≡ flat_map f (take i xs) ++ (f (get_or xs i d) ++ flat_map f (drop (i + 1) xs))
flat_split_or f xs i d small = flat_split f xs i (get_or xs i d) small (same_default xs i d (get_or xs i d) small)

pub flat_of_map : {A B C : Type 0} (f : B → List C) (g : A → B) (xs : List A) → flat_map f (map g xs) ≡ flat_map (λ x. f (g x)) xs
flat_of_map f g [] = refl
flat_of_map {A} {B} {C} f g (x ∷ xs) = ap (λ (cs : List C). f (g x) ++ cs) (flat_of_map f g xs)
