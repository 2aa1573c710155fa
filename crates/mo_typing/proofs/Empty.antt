-- Where one of the dimensions is 0 there is no index.
use Rattle.std.proofs.Common.{◌≡◌, ℕ, zero, suc, Bool, true, false, List, [], ◌∷◌, ◌++◌, map, flat_map, refl, ap, ◌∙◌, arith, eqb-true}
use Rattle.std.specs.Prelude.{◌||◌, nat_eq}
use Rattle.std.specs.List.{list_any}
use Rattle.mo_typing.specs.Dims.{Dims}
use Rattle.mo_typing.specs.Indices.{Index, indices, numbers_to}

nothing_gathered : (ns : List ℕ) (none : List Index) → none ≡ [] → flat_map (λ k. map (λ index. k ∷ index) none) ns ≡ []
nothing_gathered [] none is = refl
nothing_gathered (n ∷ ns) none is =
    ap (λ xs. map (λ index. n ∷ index) xs ++ flat_map (λ k. map (λ index. k ∷ index) none) ns) is ∙ nothing_gathered ns none is

pub no_indices : (dims : Dims) → list_any (λ n. nat_eq n 0) dims ≡ true → indices dims ≡ []
no_indices [] none = cc
no_indices (zero ∷ dims) none = refl
no_indices (suc n ∷ dims) none = nothing_gathered (numbers_to (suc n)) (indices dims) (no_indices dims (behind (nat_eq (suc n) 0) refl none))
  where
    behind : (b : Bool) → nat_eq (suc n) 0 ≡ b → (b || list_any (λ m. nat_eq m 0) dims) ≡ true → list_any (λ m. nat_eq m 0) dims ≡ true
    behind true is some = absurd (let same : suc n ≡ 0 = eqb-true (suc n) 0 is in omega arith)
    behind false is rest = rest

-- behind each number of a dimension before them, too
pub no_rows : (n : ℕ) (dims : Dims) → list_any (λ m. nat_eq m 0) dims ≡ true → indices (n ∷ dims) ≡ []
no_rows n dims none = nothing_gathered (numbers_to n) (indices dims) (no_indices dims none)
