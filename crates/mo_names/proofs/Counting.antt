-- Where no base stands before, none counts already.
use Rattle.std.proofs.Common.{◌≡◌, List, [], ◌∷◌, arith, false, length, map, refl}
use Rattle.mo_scope.specs.Frames.{Frame}
use Rattle.mo_scope.specs.Lookup.{is_counted}

pub none_counted : {A : Type 0} (f : A → List Frame) (bases : List A) (through : List Frame) → length bases ≡ 0 → false ≡ is_counted (map f bases) through
none_counted f [] [] none = refl
none_counted f [] (x ∷ through) none = none_counted f [] through none
none_counted f (b ∷ bases) through none = absurd (omega arith)
