use Rattle.std.proofs.Common.{◌<◌, ◌+◌, length, arith}
use Rattle.std.proofs.lemmas.List.{take_rest}
use Rattle.mo_lexer.proofs.Quoted.{string_open_at, string_bad_at, string_found_at}
use Rattle.mo_lexer.proofs.piece.string.Goals as goal

pub returns-then-close-rest : goal.returns-then-close-rest
returns-then-close-rest c =
    let ends = rw (take_rest c.args.rest.now 1) at c.contents_len-close.ensures in
    string_open_at _ c.requires.some c.requires.first _ _ c.new.ensures c.if-close-rest.true ends

pub returns-then-rest-close-ne34 : goal.returns-then-rest-close-ne34
returns-then-rest-close-ne34 c =
    let ends = rw (take_rest c.args.rest.now 1) at c.contents_len-close.ensures in
    let below : 1 + c.contents_len-close.result < length c.args.rest.now = omega (arith, c.contents_len-close.ensures.within) in
    string_bad_at _ c.requires.some c.requires.first _ _ c.new-then-rest-close-ne34.ensures below ends c.if-rest-close-ne34.true

pub returns-else-rest-close-ne34 : goal.returns-else-rest-close-ne34
returns-else-rest-close-ne34 c =
    let ends = rw (take_rest c.args.rest.now 1) at c.contents_len-close.ensures in
    let below : 1 + c.contents_len-close.result < length c.args.rest.now = omega (arith, c.contents_len-close.ensures.within) in
    let front = string_found_at _ c.requires.some c.requires.first _ below ends c.if-rest-close-ne34.false in
    (front.cut, front.is, front.fits, tt)
