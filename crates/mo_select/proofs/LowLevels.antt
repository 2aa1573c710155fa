-- Levels are below 5.
use Rattle.std.proofs.Common.{ℕ, zero, suc, ◌+◌, ◌-◌, ◌<◌, ◌≤◌, true, false, List, [], ◌∷◌, length, get_or, Option, Some, ◌==◌, if◌then◌else◌, Bool, arith}
use Rattle.std.specs.Prelude.{unwrap_or, cond}
use Rattle.std.specs.List.{position_from}
use Rattle.std.specs.Str.{bytes_eq}
use Rattle.mo_flat.specs.declared.expr.FlatExpr.{FlatExpr, FlatExpr-F, out-FlatExpr}
use Rattle.mo_flat.specs.declared.model.FlatVar.{FlatVar}
use Rattle.mo_flat.specs.Roles.{is_unknown_role}
use Rattle.mo_incidence.specs.Offsets.{by_number}
use Rattle.mo_select.specs.Levels.{level_words, level_at, level_in, levels_of}
use Rattle.mo_select.specs.Selection.{levels}

found_low : (b : Bool) (i top : ℕ) (rest : Option ℕ) → i < top → unwrap_or rest 2 < top → unwrap_or (cond b (Some i) rest) 2 < top
found_low true i top rest here later = here
found_low false i top rest here later = later

place_low : (test : List ℕ → Bool) (i top : ℕ) (words : List (List ℕ)) → i + length words ≤ top → 2 < top → unwrap_or (position_from test i words) 2 < top
place_low test i top [] le two = two
place_low test i top (w ∷ ws) le two = found_low (test w) i top (position_from test (i + 1) ws) (omega arith) (place_low test (i + 1) top ws (omega arith) two)

words_few : 0 + length level_words ≤ 5
unfolding level_words
words_few = omega arith

level_at_low : (node : FlatExpr-F FlatExpr) → level_at node < 5
level_at_low (FlatExpr-F.Literal text) = place_low (λ word. bytes_eq word text) 0 5 level_words words_few (omega arith)
level_at_low _ = omega arith

one_low : (b : Bool) (x y : ℕ) → x < 5 → y < 5 → (if b then x else y) < 5
one_low true x y xl yl = xl
one_low false x y xl yl = yl

level_in_low : (attributes : List (ℕ × FlatExpr)) → level_in attributes < 5
level_in_low [] = omega arith
level_in_low (attribute ∷ attributes) = one_low (attribute.0 == 9) (level_at (out-FlatExpr attribute.1)) (level_in attributes) (level_at_low (out-FlatExpr attribute.1)) (level_in_low attributes)

list_low : (b : Bool) (x : ℕ) (xs : List ℕ) → x < 5 → ((k : ℕ) → get_or xs k 0 < 5) → (k : ℕ) → get_or (if b then x ∷ xs else xs) k 0 < 5
list_low true x xs here rest zero = here
list_low true x xs here rest (suc k) = rest k
list_low false x xs here rest k = rest k

levels_few : (vars : List FlatVar) (k : ℕ) → get_or (levels_of vars) k 0 < 5
levels_few [] k = omega arith
levels_few (v ∷ vs) k = list_low (is_unknown_role (Some v.role)) (level_in v.attributes) (levels_of vs) (level_in_low v.attributes) (levels_few vs) k

pub levels_low : (vars : List FlatVar) (j : ℕ) → by_number (levels_of vars) j < levels
unfolding levels
levels_low vars j = levels_few vars (j - 1)
