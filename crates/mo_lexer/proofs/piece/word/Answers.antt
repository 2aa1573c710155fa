use Rattle.std.proofs.Common.{inl, sym, ◌∙◌, arith, length-take-le}
use Rattle.mo_lexer.proofs.Words.{word_found, word_too_wide}
use Rattle.mo_lexer.proofs.piece.word.Goals as goal

pub returns-in-Some : goal.returns-in-Some
returns-in-Some c =
    let front = word_found c.args.rest.now c.requires _ c.word_len-len.ensures.value in
    (front.cut, (front.is, sym c.keyword.ensures ∙ c.in-Some.is), front.fits, tt)

pub returns-in-None : goal.returns-in-None
returns-in-None c =
    let front = word_found c.args.rest.now c.requires _ c.word_len-len.ensures.value in
    word_too_wide _ _ _ c.new.ensures front (sym c.keyword.ensures ∙ c.in-None.is) c.if-len-gt-IDENTIFIER_MAX.true

pub returns-in-None-2 : goal.returns-in-None-2
returns-in-None-2 c =
    let front = word_found c.args.rest.now c.requires _ c.word_len-len.ensures.value in
    (front.cut, inl (front.is, sym c.keyword.ensures ∙ c.in-None.is), front.fits, omega (arith, length-take-le c.word_len-len.result c.args.rest.now front.cut.within))
