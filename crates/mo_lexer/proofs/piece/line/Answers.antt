use Rattle.std.proofs.lemmas.List.{take_rest}
use Rattle.mo_lexer.proofs.Comments.{line_found}
use Rattle.mo_lexer.proofs.piece.line.Goals as goal

pub returns : goal.returns
returns c =
    let size = rw (take_rest c.args.rest.now 2) at c.line_len.ensures.value in
    let front = line_found _ c.requires _ size in
    (front.cut, front.is, front.fits)
