-- Lists of parts in pieces, where the parts are mapped or come one by one.
use Rattle.std.proofs.Common.{◌≡◌, ◌+◌, ◌<◌, ℕ, Bool, List, [], ◌∷◌, ◌++◌, map, take, get_or, length, eqb, refl, ap, ◌∙◌, append_assoc}
use Rattle.std.specs.Prelude.{flat_map, codes, if◌then◌else◌}
use Rattle.mo_syntax.specs.declared.expr.Expr.{Expr}
use Rattle.mo_pieces.specs.Pieces.{Piece, a_word, a_line, deeper, shallower}
use Rattle.mo_pieces.specs.Lines.{on_a_line, lines_of, block_of}
use Rattle.mo_unparse.proofs.Rows.{row_step, in_row_map}
use Rattle.mo_pieces.specs.ShownEquations.{branch_of, branches_of, else_of}

-- ---- mapped parts

pub flat_map_map : {A B C : Type 0} (h : A → B) (f : B → List C) (g : A → List C) → ((a : A) → f (h a) ≡ g a) → (xs : List A) → flat_map f (map h xs) ≡ flat_map g xs
flat_map_map h f g same [] = refl
flat_map_map h f g same (x ∷ xs) = ap (λ t. t ++ flat_map f (map h xs)) (same x) ∙ ap (λ t. g x ++ t) (flat_map_map h f g same xs)

pub lines_map : {A B : Type 0} (h : A → B) (f : B → List Piece) (g : A → List Piece) → ((a : A) → f (h a) ≡ g a) → (xs : List A) → lines_of f (map h xs) ≡ lines_of g xs
lines_map h f g same xs = flat_map_map h (λ part. on_a_line (f part)) (λ part. on_a_line (g part)) (λ a. ap on_a_line (same a)) xs

pub block_map : {A B : Type 0} (h : A → B) (f : B → List Piece) (g : A → List Piece) → ((a : A) → f (h a) ≡ g a) → (xs : List A) → block_of f (map h xs) ≡ block_of g xs
block_map h f g same xs = ap (λ t. deeper ∷ t ++ shallower ∷ []) (lines_map h f g same xs)

pub else_map : {A B : Type 0} (h : A → B) (f : B → List Piece) (g : A → List Piece) → ((a : A) → f (h a) ≡ g a) → (xs : List A) → else_of f (map h xs) ≡ else_of g xs
else_map h f g same [] = refl
else_map h f g same (x ∷ xs) = ap (λ t. a_line ∷ a_word (codes "else") ∷ t) (block_map h f g same (x ∷ xs))

pub branches_map : {A B : Type 0} (word other : List ℕ) (h : Expr × List A → Expr × List B) (f : B → List Piece) (g : A → List Piece) → ((w : List ℕ) (b : Expr × List A) → branch_of w f (h b) ≡ branch_of w g b) → (xs : List (Expr × List A)) → branches_of word other f (map h xs) ≡ branches_of word other g xs
branches_map word other h f g same xs =
    in_row_map (λ first branch. (if first then [] else a_line ∷ []) ++ branch_of (if first then word else other) f branch) (λ first branch. (if first then [] else a_line ∷ []) ++ branch_of (if first then word else other) g branch) h
    (λ first b. ap (λ t. (if first then [] else a_line ∷ []) ++ t) (same (if first then word else other) b)) xs

-- ---- parts one by one

-- a turn of a loop that writes branches
pub branch_turn : {A : Type 0} (shown : A → List Piece) (word other begin : List ℕ) (branches : List (Expr × List A)) (i : ℕ) (branch : Expr × List A) (parts : List A) (first : Bool) (old before separated after : List Piece) →
    i < length branches → branch ≡ get_or branches i branch → first ≡ eqb i 0 → before ≡ old ++ branches_of word other shown (take i branches) →
    begin ≡ (if first then word else other) → parts ≡ branch.1 → separated ≡ before ++ (if first then [] else a_line ∷ []) → after ≡ separated ++ branch_of begin shown (branch.0, parts) →
    after ≡ old ++ branches_of word other shown (take (i + 1) branches)
branch_turn {A = A} shown word other begin branches i branch parts first old before separated after l is f b w p s a =
    row_step (λ first branch. (if first then [] else a_line ∷ []) ++ branch_of (if first then word else other) shown branch) branches i branch first old before after l is f b
    (a ∙ ap (λ t. t ++ branch_of begin shown (branch.0, parts)) s ∙ append_assoc before _ _ ∙
    ap (λ t. before ++ ((if first then [] else a_line ∷ []) ++ t)) (ap (λ u. branch_of u shown (branch.0, parts)) w ∙ ap (λ q. branch_of (if first then word else other) shown (branch.0, q)) p))
