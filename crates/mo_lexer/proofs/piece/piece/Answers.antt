use Rattle.std.proofs.Common.{sym, ◌∙◌}
use Rattle.mo_lexer.proofs.Words.{blank_found}
use Rattle.mo_lexer.proofs.piece.piece.Goals as goal

pub returns-then-is_blank : goal.returns-then-is_blank
returns-then-is_blank c =
    let front = blank_found _ c.requires (sym c.is_blank.ensures ∙ c.if-is_blank.true) in
    (front.cut, front.is, front.fits)
