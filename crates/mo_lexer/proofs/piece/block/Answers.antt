use Rattle.std.proofs.lemmas.List.{take_rest}
use Rattle.mo_lexer.proofs.Comments.{block_found_at, block_open_at}
use Rattle.mo_lexer.proofs.piece.block.Goals as goal

pub returns-in-Some : goal.returns-in-Some
returns-in-Some c =
    let found = rw (take_rest c.args.rest.now 2) at c.in-Some.ensures in
    let front = block_found_at _ c.requires _ found in
    (front.cut, front.is, front.fits)

pub returns-in-None : goal.returns-in-None
returns-in-None c =
    let none = rw (take_rest c.args.rest.now 2) at c.in-None.ensures in
    block_open_at _ c.requires _ c.new.ensures none
