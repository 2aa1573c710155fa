-- Parts behind one another, as they are written.
use Rattle.std.proofs.Common.{◌≡◌, List, ◌++◌, arith, Result, Ok, Err, OnOk}
use Rattle.std.proofs.lemmas.Grind.{common_steps}
use Rattle.mo_pieces.specs.Pieces.{Piece}

pub after_two : (before m after a b : List Piece) → m ≡ before ++ a → after ≡ m ++ b → after ≡ before ++ (a ++ b)
after_two before m after a b h k = grind (arith, common_steps)

-- two, three and four parts behind one another, where the last is written if there is memory
pub two_written : {E : Type 0} (r : Result (Unit {0}) E) (old m new a b : List Piece) → m ≡ old ++ a → OnOk r (new ≡ m ++ b) → OnOk r (new ≡ old ++ (a ++ b))
two_written (Ok u) old m new a b p q = after_two old m new a b p q
two_written (Err e) old m new a b p q = tt

pub three_written : {E : Type 0} (r : Result (Unit {0}) E) (old m n new a b c : List Piece) → m ≡ old ++ a → n ≡ m ++ b → OnOk r (new ≡ n ++ c) → OnOk r (new ≡ old ++ (a ++ (b ++ c)))
three_written r old m n new a b c p q s = two_written r old m new a (b ++ c) p (two_written r m n new b c q s)

pub four_written : {E : Type 0} (r : Result (Unit {0}) E) (old m n o new a b c d : List Piece) → m ≡ old ++ a → n ≡ m ++ b → o ≡ n ++ c → OnOk r (new ≡ o ++ d) → OnOk r (new ≡ old ++ (a ++ (b ++ (c ++ d))))
four_written r old m n o new a b c d p q s t = two_written r old m new a (b ++ (c ++ d)) p (three_written r m n o new b c d q s t)
