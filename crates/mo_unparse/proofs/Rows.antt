-- Parts in a row, as a loop writes them one after another.
use Rattle.std.proofs.Common.{◌≡◌, ℕ, suc, ◌+◌, ◌<◌, Bool, true, false, eqb, List, [], ◌∷◌, ◌++◌, map, take, get_or, length, ap, ◌∙◌, refl, sym, append_assoc, arith, length-take-le}
use Rattle.std.specs.Prelude.{flat_map, if◌then◌else◌}
use Rattle.std.proofs.lemmas.Grind.{common_steps, flat_map-append}
use Rattle.std.proofs.lemmas.List.{take_more, append-nil}
use Rattle.mo_pieces.specs.Pieces.{Piece}
use Rattle.mo_pieces.specs.ShownExpressions.{in_row, commas, a_comma}

-- one more part of a row
in_row_push : {A : Type 0} (part : Bool → A → List Piece) (ys : List A) (y : A) → in_row part (ys ++ y ∷ []) ≡ in_row part ys ++ part (eqb (length ys) 0) y
in_row_push part [] y = append-nil (part true y)
in_row_push part (x ∷ xs) y =
    let not_nil : false ≡ eqb (suc (length xs)) 0 = grind (arith, common_steps) in
    ap (λ t. part true x ++ t) (flat_map-append (part false) xs (y ∷ []) ∙ ap (λ t. flat_map (part false) xs ++ t) (append-nil (part false y))) ∙ sym (append_assoc (part true x) _ _)
    ∙ ap (λ b. (part true x ++ flat_map (part false) xs) ++ part b y) not_nil

in_row_more : {A : Type 0} (part : Bool → A → List Piece) (xs : List A) (i : ℕ) (d : A) → i < length xs →
    in_row part (take (i + 1) xs) ≡ in_row part (take i xs) ++ part (eqb i 0) (get_or xs i d)
in_row_more part xs i d l =
    let counted : length (take i xs) ≡ i = length-take-le i xs (omega arith) in
    ap (in_row part) (take_more xs i d l) ∙ in_row_push part (take i xs) (get_or xs i d) ∙ ap (λ n. in_row part (take i xs) ++ part (eqb n 0) (get_or xs i d)) counted

-- a turn of a loop that writes a row
pub row_step : {A : Type 0} (part : Bool → A → List Piece) (xs : List A) (i : ℕ) (x : A) (first : Bool) (old before after : List Piece) →
    i < length xs → x ≡ get_or xs i x → first ≡ eqb i 0 → before ≡ old ++ in_row part (take i xs) → after ≡ before ++ part first x →
    after ≡ old ++ in_row part (take (i + 1) xs)
row_step part xs i x first old before after l is f b a =
    a ∙ ap (λ t. t ++ part first x) b ∙ append_assoc old _ _ ∙
    ap (λ t. old ++ t) (ap (λ q. in_row part (take i xs) ++ part q x) f ∙ ap (λ y. in_row part (take i xs) ++ part (eqb i 0) y) is ∙ sym (in_row_more part xs i x l))

-- after a first part the next is not the first
pub not_first : (i : ℕ) → false ≡ eqb (i + 1) 0
not_first i = grind (arith, common_steps)

-- a name between two others
pub after_name : (before m n after a c : List Piece) (name : Piece) → m ≡ before ++ a → n ≡ m ++ name ∷ [] → after ≡ n ++ c → after ≡ before ++ (a ++ name ∷ c)
after_name before m n after a c name h k l = grind (arith, common_steps)

pub after_four : (before m n o after a b c d : List Piece) → m ≡ before ++ a → n ≡ m ++ b → o ≡ n ++ c → after ≡ o ++ d → after ≡ before ++ (a ++ b ++ c ++ d)
after_four before m n o after a b c d h k l e = grind (arith, common_steps)

pub after_named : (before m n o after a c d : List Piece) (name : Piece) → m ≡ before ++ a → n ≡ m ++ name ∷ [] → o ≡ n ++ c → after ≡ o ++ d → after ≡ before ++ (a ++ (name ∷ c ++ d))
after_named before m n o after a c d name h k l e = grind (arith, common_steps)

-- a row of what others become
pub in_row_map : {A B : Type 0} (f : Bool → B → List Piece) (g : Bool → A → List Piece) (h : A → B) → ((first : Bool) (a : A) → f first (h a) ≡ g first a) → (xs : List A) → in_row f (map h xs) ≡ in_row g xs
in_row_map f g h same [] = refl
in_row_map {A} {B} f g h same (x ∷ xs) = ap (λ t. t ++ flat_map (f false) (map h xs)) (same true x) ∙ ap (λ t. g true x ++ t) (rest xs)
  where
    rest : (ys : List A) → flat_map (f false) (map h ys) ≡ flat_map (g false) ys
    rest [] = refl
    rest (y ∷ ys) = ap (λ t. t ++ flat_map (f false) (map h ys)) (same false y) ∙ ap (λ t. g false y ++ t) (rest ys)

regrouped : (a b c d e : List Piece) → a ++ (b ++ ((c ++ d) ++ e)) ≡ ((a ++ b) ++ c) ++ (d ++ e)
regrouped a b c d e = simp append_assoc

-- two rows, with a comma between where neither is empty
pub commas_append : {A : Type 0} (part : A → List Piece) (xs ys : List A) (p q : Bool) → p ≡ eqb (length xs) 0 → q ≡ eqb (length ys) 0 →
    commas part (xs ++ ys) ≡ commas part xs ++ (if p then [] else (if q then [] else a_comma)) ++ commas part ys
commas_append part [] ys p q e d = rw e refl
commas_append part (x ∷ xs) [] p q e d =
    let f : eqb (suc (length xs)) 0 ≡ false = grind (arith, common_steps) in
    rw (e, f, d) (ap (commas part) (append-nil (x ∷ xs)) ∙ sym (append-nil _ ∙ append-nil _))
commas_append part (x ∷ xs) (y ∷ ys) p q e d =
    let f : eqb (suc (length xs)) 0 ≡ false = grind (arith, common_steps) in
    let g : eqb (suc (length ys)) 0 ≡ false = grind (arith, common_steps) in
    let more = flat_map-append (λ x. a_comma ++ part x) xs (y ∷ ys) in
    rw (e, f, d, g, more) (regrouped (part x) (flat_map (λ x. a_comma ++ part x) xs) a_comma (part y) (flat_map (λ x. a_comma ++ part x) ys))

pub map_same : {A B C : Type 0} (f : B → C) (g : A → C) (h : A → B) → ((a : A) → f (h a) ≡ g a) → (xs : List A) → map f (map h xs) ≡ map g xs
map_same f g h same [] = refl
map_same f g h same (x ∷ xs) = let here = same x in let more = map_same f g h same xs in cc
