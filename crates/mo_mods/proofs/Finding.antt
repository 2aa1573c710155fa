-- Finding what a table gives.
use Rattle.std.proofs.Common.{◌≡◌, ℕ, ◌+◌, ◌<◌, Bool, true, false, List, [], ◌∷◌, length, drop, get_or, map, refl, ap, sym, ◌∙◌}
use Rattle.std.specs.Borrow.{Bor}
use Rattle.std.specs.BTreeMap.{is_at}
use Rattle.std.specs.Cmp.Lexicographic.{slice_cmp}
use Rattle.std.specs.Map.{lookup}
use Rattle.std.specs.Ordering.{nat_cmp}
use Rattle.std.specs.Str.{bytes_eq}
use Rattle.std.proofs.lemmas.List.{drop_more}
use Rattle.std.proofs.lemmas.Map.Text.{is_eq-slice_cmp}
use Rattle.std.specs.Cmp.Lexicographic.{nat_list_eq_equiv}
use Rattle.mo_scope.specs.Frames.{Frame}
use Rattle.mo_mods.specs.declared.env.MergedEnv.{MergedEnv, fold_out-MergedEnv, out-MergedEnv}
use Rattle.mo_mods.specs.Merged.{Merged, Below_then, nothing_merged, tables_below, table_for, at_path}
use Rattle.mo_mods.specs.Sights.{below_in, below_seen, merged_in, merged_node, merged_or}

pub below_map : (frames : List Frame) (xs : List (Bor (List ℕ) × MergedEnv)) → below_in (map (λ one. (one.0, merged_in frames one.1)) xs) ≡ below_seen frames xs
below_map frames [] = refl
below_map frames (one ∷ others) = ap (Below_then one.0.now (merged_in frames one.1)) (below_map frames others)

pub below_is : (frames : List Frame) (env : MergedEnv) → tables_below (merged_in frames env) ≡ below_seen frames (out-MergedEnv env).below.entries
below_is frames env = ap tables_below (fold_out-MergedEnv Merged (merged_node frames) env) ∙ below_map frames (out-MergedEnv env).below.entries

pub same_bytes : (a b : List ℕ) → bytes_eq a b ≡ bytes_eq b a
same_bytes a b = nat_list_eq_equiv.symm a b

-- a table that is looked up by its name
pub looked_up : (frames : List Frame) (name : List ℕ) (xs : List (Bor (List ℕ) × MergedEnv)) →
    merged_or frames (lookup (is_at (λ k. slice_cmp nat_cmp name k.now)) xs) ≡ table_for name (below_seen frames xs)
looked_up frames name [] = refl
looked_up frames name (one ∷ others) = by (bytes_eq one.0.now name) refl (looked_up frames name others)
  where
    by : (same : Bool) → bytes_eq one.0.now name ≡ same → merged_or frames (lookup (is_at (λ k. slice_cmp nat_cmp name k.now)) others) ≡ table_for name (below_seen frames others) →
        merged_or frames (lookup (is_at (λ k. slice_cmp nat_cmp name k.now)) (one ∷ others)) ≡ table_for name (below_seen frames (one ∷ others))
    by true is rest = rw (is_eq-slice_cmp name one.0.now, same_bytes name one.0.now, is) refl
    by false is rest = rw (is_eq-slice_cmp name one.0.now, same_bytes name one.0.now, is) rest

pub nothing_at : (path : List (List ℕ)) → nothing_merged ≡ at_path nothing_merged path
nothing_at [] = refl
nothing_at (name ∷ names) = nothing_at names

pub path_front : (merged : Merged) (path : List (List ℕ)) (i : ℕ) (name : List ℕ) → i < length path → name ≡ get_or path i name →
    at_path (table_for name (tables_below merged)) (drop (i + 1) path) ≡ at_path merged (drop i path)
path_front merged path i name below at = sym (ap (at_path merged) (drop_more path i name below ∙ ap (λ y. y ∷ drop (i + 1) path) (sym at)))
