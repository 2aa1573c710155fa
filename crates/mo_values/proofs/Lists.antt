-- Lists of what is told, one more at their end.
use Rattle.std.proofs.Common.{◌≡◌, ℕ, ◌+◌, ◌-◌, ◌<◌, ◌≤◌, Bool, false, List, [], ◌∷◌, ◌++◌, map, flat_map, take, drop, length, get_or, Option, Some, Ok, Err, refl, ap, ap₂, sym, ◌∙◌, add-one, append_assoc, arith, take_all}
use Rattle.std.specs.Prelude.{fold}
use Rattle.std.proofs.lemmas.List.{map-append, append-nil}
use Rattle.std.proofs.lemmas.List.Sums.{fold-append}
use Rattle.std.proofs.lemmas.Grind.{common_steps, flat_map-append}
use Rattle.std.proofs.lemmas.Simd.{map-map}
use Rattle.std.proofs.Math.Seq.{take-length}
use Rattle.mo_flat.specs.declared.array.ArrayExpr.{ArrayExpr}
use Rattle.mo_flat.specs.declared.array.Subscript.{Subscript}
use Rattle.mo_syntax.specs.Outcome.{Outcome, and_then}
use Rattle.mo_typing.specs.Dims.{Dims}
use Rattle.mo_typing.specs.Shape.{shape_of, or_scalar, multiplied}
use Rattle.mo_typing.specs.Indices.{Index, numbers_to, indices, own, first_number}
use Rattle.mo_values.specs.declared.value.Reckoned.{Reckoned}
use Rattle.mo_values.specs.declared.value.Reckoned.TheVariants.{Unknown}
use Rattle.mo_values.specs.Selected.{selected, selected_numbers}
use Rattle.mo_values.specs.Scalars.{Known, sum_with, read_all}
use Rattle.mo_values.specs.Walk.{Part, Chain, at, both, number, branch_reads, branch_of}
use Rattle.mo_values.specs.steps.Chains.{Signed, begun_with, inner_term, inner_sum, gathering, gathered}
use Rattle.mo_values.proofs.Splitting.{one_more_taken}

-- one more operand of a fold
pub fold_taken : {S A B : Type 0} (f : S → B → S) (g : A → B) (s : S) (xs : List A) (i : ℕ) (x : A) → i < length xs → x ≡ get_or xs i x →
    f (fold f s (map g (take i xs))) (g x) ≡ fold f s (map g (take (i + 1) xs))
fold_taken f g s xs i x small is =
    sym (ap (λ ys. fold f s (map g ys)) (one_more_taken xs i x small is)
    ∙ (ap (fold f s) (map-append g (take i xs) (x ∷ [])) ∙ fold-append f s (map g (take i xs)) (g x ∷ [])))

-- one more that is read
pub read_all_more : (xs : List (Outcome Known)) (y : Outcome Known) → read_all (read_all xs ∷ y ∷ []) ≡ read_all (xs ++ y ∷ [])
read_all_more [] y = refl
read_all_more (Ok known ∷ xs) y = read_all_more xs y
read_all_more (Err broken ∷ xs) y = refl

pub read_taken : {A : Type 0} (f : A → Outcome Known) (xs : List A) (i : ℕ) (x : A) → i < length xs → x ≡ get_or xs i x →
    read_all (read_all (map f (take i xs)) ∷ f x ∷ []) ≡ read_all (map f (take (i + 1) xs))
read_taken f xs i x small is =
    read_all_more (map f (take i xs)) (f x)
    ∙ ap read_all (sym (ap (map f) (one_more_taken xs i x small is) ∙ map-append f (take i xs) (x ∷ [])))

branches_more : (i : Index) (bs : List (Part × Part)) (b : Part × Part) → branch_reads i (bs ++ b ∷ []) ≡ (branch_reads i bs ++ at b.0 i ∷ []) ++ at b.1 i ∷ []
branches_more i [] b = refl
branches_more i (c ∷ bs) b = ap (λ xs. at c.0 i ∷ at c.1 i ∷ xs) (branches_more i bs b)

pub branches_taken : (variable : ℕ → Outcome Known) (i : Index) (bs : List (ArrayExpr × ArrayExpr)) (j : ℕ) (b : ArrayExpr × ArrayExpr) → j < length bs → b ≡ get_or bs j b →
    read_all (read_all (read_all (branch_reads i (map (branch_of variable) (take j bs))) ∷ at (branch_of variable b).0 i ∷ []) ∷ at (branch_of variable b).1 i ∷ [])
    ≡ read_all (branch_reads i (map (branch_of variable) (take (j + 1) bs)))
branches_taken variable i bs j b small is =
    let before = branch_reads i (map (branch_of variable) (take j bs)) in
    ap (λ x. read_all (x ∷ at (branch_of variable b).1 i ∷ [])) (read_all_more before (at (branch_of variable b).0 i))
    ∙ (read_all_more (before ++ at (branch_of variable b).0 i ∷ []) (at (branch_of variable b).1 i)
    ∙ ap read_all (sym (ap (λ xs. branch_reads i (map (branch_of variable) xs)) (one_more_taken bs j b small is)
    ∙ (ap (branch_reads i) (map-append (branch_of variable) (take j bs) (b ∷ []))
    ∙ branches_more i (map (branch_of variable) (take j bs)) (branch_of variable b)))))

-- one operand whose value is dropped
pub undecided_alone : (x : Outcome Known) → ◌≡◌ {A = Outcome Reckoned} (and_then x (λ known. Ok Unknown)) (and_then (read_all (x ∷ [])) (λ known. Ok Unknown))
undecided_alone (Ok known) = refl
undecided_alone (Err broken) = refl

-- ---- elements by their indices

next : (k : ℕ) → numbers_to (k + 1) ≡ numbers_to k ++ (k + 1) ∷ []
next k = rw add-one refl

pub inner_more : (variable : ℕ → Outcome Known) (chain : Chain) (factor : Option Signed) (row column : Index) (k : ℕ) →
    both (sum_with false) (inner_sum variable chain factor row column k) (inner_term variable chain factor row column (k + 1)) ≡ inner_sum variable chain factor row column (k + 1)
inner_more variable chain factor row column k =
    sym (ap (λ ks. fold (both (sum_with false)) (Ok (number 0)) (map (inner_term variable chain factor row column) ks)) (next k)
    ∙ (ap (fold (both (sum_with false)) (Ok (number 0))) (map-append (inner_term variable chain factor row column) (numbers_to k) ((k + 1) ∷ []))
    ∙ fold-append (both (sum_with false)) (Ok (number 0)) (map (inner_term variable chain factor row column) (numbers_to k)) (inner_term variable chain factor row column (k + 1) ∷ [])))

-- the sum of products at a matrix factor
pub inner_begins : (variable : ℕ → Outcome Known) (chain : Chain) (got : Option Signed) (x : Signed) (before after : Option Dims) (shape : Dims) (index own_index row column : Index) (rows count : ℕ) →
    got ≡ Some x → before ≡ chain.dims → shape ≡ shape_of x.2 → after ≡ multiplied before (x.0, x.1, shape) → own_index ≡ own (or_scalar after) index →
    rows ≡ length (or_scalar before) - 1 → row ≡ take rows own_index → column ≡ drop rows own_index → count ≡ first_number shape →
    inner_sum variable chain got row column count ≡ begun_with variable chain got index
inner_begins variable chain got x before after shape index own_index row column rows count g b s a o r w c n =
    rw (g, n, c, w, r, o, a, s, b) refl

flat_map_more : {A : Type 0} (f : ℕ → List A) (k : ℕ) → flat_map f (numbers_to (k + 1)) ≡ flat_map f (numbers_to k) ++ f (k + 1)
flat_map_more f k = ap (flat_map f) (next k) ∙ (flat_map-append f (numbers_to k) ((k + 1) ∷ []) ∙ ap (λ xs. flat_map f (numbers_to k) ++ xs) (append-nil (f (k + 1))))

-- one more row
pub gathered_more : (multiplies : Bool) (before : Outcome Reckoned) (f : ℕ → List (Outcome Reckoned)) (k : ℕ) →
    gathered multiplies (gathered multiplies before (flat_map f (numbers_to k))) (f (k + 1)) ≡ gathered multiplies before (flat_map f (numbers_to (k + 1)))
gathered_more multiplies before f k =
    sym (ap (gathered multiplies before) (flat_map_more f k) ∙ fold-append (both (gathering multiplies)) before (flat_map f (numbers_to k)) (f (k + 1)))

-- the one element of a scalar
pub gathered_one : (multiplies : Bool) (before : Outcome Reckoned) (f : Index → Outcome Reckoned) (begun : Index) (dims : Dims) → length dims < 1 →
    both (gathering multiplies) before (f begun) ≡ gathered multiplies before (map (λ i. f (begun ++ i)) (indices dims))
gathered_one multiplies before f begun [] small = ap (λ i. both (gathering multiplies) before (f i)) (sym (append-nil begun))
gathered_one multiplies before f begun (n ∷ dims) small = absurd (grind (arith, common_steps))

maps_flat : {A B C : Type 0} (f : B → C) (g : A → List B) (xs : List A) → map f (flat_map g xs) ≡ flat_map (λ x. map f (g x)) xs
maps_flat f g [] = refl
maps_flat f g (x ∷ xs) = map-append f (g x) (flat_map g xs) ∙ ap (λ ys. map f (g x) ++ ys) (maps_flat f g xs)

flat_same : {A B : Type 0} (f g : A → List B) → ((x : A) → f x ≡ g x) → (xs : List A) → flat_map f xs ≡ flat_map g xs
flat_same f g same [] = refl
flat_same f g same (x ∷ xs) = ap (λ ys. ys ++ flat_map f xs) (same x) ∙ ap (λ ys. g x ++ ys) (flat_same f g same xs)

map_same : {A B : Type 0} (f g : A → B) → ((x : A) → f x ≡ g x) → (xs : List A) → map f xs ≡ map g xs
map_same f g same [] = refl
map_same f g same (x ∷ xs) = ap (λ y. y ∷ map f xs) (same x) ∙ ap (λ ys. g x ∷ ys) (map_same f g same xs)

-- the indices that begin so, by their next number
pub begun_more : {A : Type 0} (f : Index → A) (begun : Index) (n : ℕ) (dims : Dims) →
    flat_map (λ k. map (λ i. f ((begun ++ k ∷ []) ++ i)) (indices dims)) (numbers_to n) ≡ map (λ i. f (begun ++ i)) (indices (n ∷ dims))
begun_more f begun n dims =
    flat_same _ _ (λ k. map_same _ _ (λ i. ap f (append_assoc begun (k ∷ []) i)) (indices dims) ∙ sym (map-map (λ i. f (begun ++ i)) (λ i. k ∷ i) (indices dims))) (numbers_to n)
    ∙ sym (maps_flat (λ i. f (begun ++ i)) (λ k. map (λ i. k ∷ i) (indices dims)) (numbers_to n))

-- the first number and the others
pub opened : (dims : Dims) → 1 ≤ length dims → get_or dims 0 0 ∷ take (length dims - 1) (drop 1 dims) ≡ dims
opened [] some = absurd (grind (arith, common_steps))
opened (n ∷ dims) some =
    let others : length (n ∷ dims) - 1 ≡ length dims = omega arith in
    ap (λ k. n ∷ take k dims) others ∙ ap (λ xs. n ∷ xs) (take-length dims)

-- ---- what subscripts select

pub nothing_each : {A B : Type 0} (xs : List A) → ◌≡◌ {A = List B} (flat_map (λ x. []) xs) []
nothing_each [] = refl
nothing_each (x ∷ xs) = nothing_each xs

-- nothing is selected where nothing is behind the first dimension
pub nothing_behind : (dims : Dims) (subs : List Subscript) → 1 ≤ length dims → 1 ≤ length subs → selected (take (length dims - 1) (drop 1 dims)) (take (length subs - 1) (drop 1 subs)) ≡ [] → selected dims subs ≡ []
nothing_behind [] subs some more none = elim some [ ]
nothing_behind (n ∷ dims) [] some more none = elim more [ ]
nothing_behind (n ∷ dims) (sub ∷ subs) some more none =
    ap (λ indices. flat_map (λ k. map (λ index. k ∷ index) indices) (selected_numbers n sub)) (ap₂ selected (sym (take_all (length (n ∷ dims) - 1) dims (omega arith))) (sym (take_all (length (sub ∷ subs) - 1) subs (omega arith))) ∙ none) ∙ nothing_each (selected_numbers n sub)
