-- Parts of a class laid out in lines.
use Rattle.std.specs.Prelude.{ℕ, Bool, true, false, List, [], ◌∷◌, ◌++◌, flat_map, codes}
use Rattle.mo_pieces.specs.Pieces.{Piece, a_word, a_mark, a_blank, a_line, deeper, shallower}

-- pieces on a line of their own, with a semicolon behind them
abbrev pub on_a_line : List Piece → List Piece
on_a_line pieces = a_line ∷ pieces ++ a_mark (codes ";") ∷ []

-- each part on a line of its own
abbrev pub lines_of : {A : Type 0} → (A → List Piece) → List A → List Piece
lines_of shown parts = flat_map (λ part. on_a_line (shown part)) parts

-- the same, further in
abbrev pub block_of : {A : Type 0} → (A → List Piece) → List A → List Piece
block_of shown parts = deeper ∷ lines_of shown parts ++ shallower ∷ []

-- a line that stands less far in than those around it
abbrev pub head_line : List Piece → List Piece
head_line pieces = shallower ∷ a_line ∷ pieces ++ deeper ∷ []

-- a word that stands there or not
abbrev pub word_if : List ℕ → Bool → List Piece
word_if word true = a_word word ∷ a_blank ∷ []
word_if word false = []

-- what ends a construct: `end word`
abbrev pub end_of : List ℕ → List Piece
end_of word = a_line ∷ a_word (codes "end") ∷ a_blank ∷ a_word word ∷ []
