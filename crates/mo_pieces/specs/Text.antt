-- The text of pieces. Tokens stand as they are spelled, with a blank between two that would be read as one.
use Rattle.std.specs.Prelude.{ℕ, ◌+◌, ◌-◌, Bool, false, ◌==◌, ◌&&◌, ◌||◌, List, [], ◌∷◌, ◌++◌, is_some, if◌then◌else◌, codes}
use Rattle.std.specs.List.{repeat}
use Rattle.mo_tables.specs.Words.{code_in, operators}
use Rattle.mo_lexer.specs.Bytes.{is_digit, is_word_byte}
use Rattle.mo_pieces.specs.declared.text.Ending.{Ending}
use Rattle.mo_pieces.specs.declared.text.Ending.TheVariants.{Closed, Word, Number, Mark}
use Rattle.mo_pieces.specs.Pieces.{Piece, a_name, a_word, a_mark, a_whole, a_decimal, a_string, a_blank, a_line, deeper, shallower}

-- what begins with that byte would be read with what it follows: as one word, number, operator or comment
abbrev pub joins : Ending → ℕ → Bool
joins Closed b = false
joins Word b = is_word_byte b
joins Number b = is_word_byte b || (b == 46)
joins (Mark a) b = is_some (code_in operators (a ∷ b ∷ [])) || ((a == 47) && ((b == 47) || (b == 42))) || ((a == 46) && is_digit b)

-- a blank before what would join
abbrev pub gap : Ending → List ℕ → List ℕ
gap before [] = []
gap before (b ∷ bs) = if joins before b then codes " " else []

abbrev pub spaced : Ending → List ℕ → List ℕ
spaced before text = gap before text ++ text

-- an identifier in quotes is closed by them
abbrev pub name_ending : List ℕ → Ending
name_ending [] = Word
name_ending (b ∷ bs) = if b == 39 then Closed else Word

-- nothing joins an operator of two bytes
abbrev pub mark_ending : List ℕ → Ending
mark_ending (a ∷ []) = Mark a
mark_ending _ = Closed

-- how the text ends after a piece
abbrev pub ending_after : Ending → Piece → Ending
ending_after before (a_name text) = name_ending text
ending_after before (a_word text) = Word
ending_after before (a_mark text) = mark_ending text
ending_after before (a_whole text) = Number
ending_after before (a_decimal text) = Number
ending_after before (a_string text) = Closed
ending_after before a_blank = Closed
ending_after before a_line = Closed
ending_after before deeper = before
ending_after before shallower = before

-- how far in lines begin after a piece
abbrev pub depth_after : ℕ → Piece → ℕ
depth_after depth deeper = depth + 1
depth_after depth shallower = depth - 1
depth_after depth _ = depth

-- two blanks for each step that a line begins further in
abbrev pub piece_text : ℕ → Piece → List ℕ
piece_text depth (a_name text) = text
piece_text depth (a_word text) = text
piece_text depth (a_mark text) = text
piece_text depth (a_whole text) = text
piece_text depth (a_decimal text) = text
piece_text depth (a_string text) = text
piece_text depth a_blank = codes " "
piece_text depth a_line = codes "\n" ++ repeat depth (codes "  ")
piece_text depth deeper = []
piece_text depth shallower = []

-- the text of the pieces that follow what ends so, where lines begin so far in
abbrev pub text_from : Ending → ℕ → List Piece → List ℕ
text_from before depth [] = []
text_from before depth (p ∷ ps) =
    spaced before (piece_text depth p) ++ text_from (ending_after before p) (depth_after depth p) ps

abbrev pub text_of : List Piece → List ℕ
text_of pieces = text_from Closed 0 pieces
