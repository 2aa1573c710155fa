use Rattle.std.proofs.Common.{◌≡◌, ◌≤◌, ◌++◌, map, drop, string_bytes}
use Rattle.mo_pieces.specs.Text.{text_from, text_of}
use Rattle.mo_pieces.specs.Gathered.{gathered, piece_of}
use Rattle.mo_pieces.proofs.text.text_of.Given as goal

abbrev pub invariant-loop-piece : goal.invariant-loop-piece
invariant-loop-piece l =
    (string_bytes l.growing.text ++ text_from l.growing.ending l.growing.depth (map piece_of (drop l.piece-index l.piece-items)) ≡ text_of (gathered l.pieces))
    × (l.growing.depth ≤ l.piece-index)
