-- Lists of blocks are right exactly where they are the ones that are found.
use Rattle.std.proofs.Common.{◌≡◌, ℕ, Bool, true, false, List, refl}
use Rattle.std.specs.Prelude.{IsTrue, Vec}
use Rattle.std.specs.Global.{Global}
use Rattle.mo_incidence.specs.Signature.{Signature, equations}
use Rattle.mo_incidence.specs.Offsets.{by_place, by_number}
use Rattle.mo_incidence.specs.Blocks.{Needs, AreBlocksInOrder, numbers_in}
use Rattle.mo_graph.proofs.Unique.{order_unique}
use Rattle.mo_certify.specs.Offsets.{AreOffsets}

not_false : (r : Bool) → (r ≡ false → ⊥) → r ≡ true
not_false true h = refl
not_false false h = absurd (h refl)

module _ (g : Signature) (c d pairs : List ℕ) (found listed found' listed' : List (Vec ℕ Global)) (r : Bool) (f_is : found' ≡ found) (l_is : listed' ≡ listed)
    (yes : r ≡ true → numbers_in found' ≡ numbers_in listed') (no : r ≡ false → numbers_in found' ≡ numbers_in listed' → ⊥)
    (order : AreBlocksInOrder g (by_place c) (by_number d) (by_place pairs) (numbers_in found)) (right : AreOffsets g c d pairs) (square : equations g ≡ g.unknowns) where
  pub blocks_right : IsTrue r → AreOffsets g c d pairs × (equations g ≡ g.unknowns) × AreBlocksInOrder g (by_place c) (by_number d) (by_place pairs) (numbers_in listed)
  blocks_right is = (right, square, let same : numbers_in found ≡ numbers_in listed = rw (f_is, l_is) at (yes is) in rw same at order)

  pub right_blocks : AreOffsets g c d pairs × (equations g ≡ g.unknowns) × AreBlocksInOrder g (by_place c) (by_number d) (by_place pairs) (numbers_in listed) → IsTrue r
  right_blocks all = not_false r (λ bad. no bad (rw (f_is, l_is) (order_unique (Needs g (by_place c) (by_number d) (by_place pairs)) (equations g) (numbers_in found) (numbers_in listed) order all.2)))
