-- One entry more behind those below a number.
use Rattle.std.proofs.Common.{◌≡◌, ℕ, suc, ◌+◌, List, [], ◌∷◌, ◌++◌, map, refl, arith}
use Rattle.std.proofs.lemmas.List.{map-append}
use Rattle.serde_json.specs.Data.{Data}
use Rattle.serde_json.specs.View.{view}
use Rattle.serde_json.specs.declared.value.Value.{Value}
use Rattle.mo_json.specs.Values.{data_below}

pub below_next : (entry : ℕ → Data) (n : ℕ) (old new : List Value) (v : Value) → map view old ≡ data_below entry n → view v ≡ entry n → new ≡ old ++ v ∷ []
    → map view new ≡ data_below entry (n + 1)
below_next entry n old new v so_far here more =
    let next : n + 1 ≡ suc n = omega arith in
    rw (next, more, map-append view old (v ∷ []), so_far, here) refl
