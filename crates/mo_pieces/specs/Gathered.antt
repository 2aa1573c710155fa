-- What contracts see of the pieces that the code gathers.
use Rattle.std.specs.Prelude.{List, map}
use Rattle.std.specs.Fmt.{signed_decimal}
use Rattle.mo_pieces.specs.declared.piece.Piece.{Piece as CodePiece}
use Rattle.mo_pieces.specs.declared.piece.Piece.TheVariants.{Name, Word, Mark, Whole, Decimal, Quoted, Blank, Line, Deeper, Shallower}
use Rattle.mo_pieces.specs.declared.piece.Pieces.{Pieces}
use Rattle.mo_pieces.specs.Pieces.{Piece, a_name, a_word, a_mark, a_whole, a_decimal, a_string, a_blank, a_line, deeper, shallower}

abbrev pub piece_of : CodePiece → Piece
piece_of (Name text) = a_name text.now
piece_of (Word text) = a_word text.now
piece_of (Mark text) = a_mark text.now
piece_of (Whole value) = a_whole (signed_decimal value)
piece_of (Decimal text) = a_decimal text.now
piece_of (Quoted text) = a_string text.now
piece_of Blank = a_blank
piece_of Line = a_line
piece_of Deeper = deeper
piece_of Shallower = shallower

abbrev pub gathered : Pieces → List Piece
gathered pieces = map piece_of pieces.0.items
