use Rattle.std.proofs.Common.{sym, ◌∙◌}
use Rattle.mo_lexer.proofs.Marks.{IsLone, two_found, one_found, none_found, none_is, no_pair}
use Rattle.mo_lexer.proofs.piece.lone_mark.Goals as goal

pub returns-in-Some : goal.returns-in-Some
returns-in-Some c =
    let lone : IsLone c.args.rest.now = record { some = c.requires.some; first = c.requires.first; no_number = c.requires.no_number; no_line = c.requires.no_line; no_block = c.requires.no_block } in
    let front = two_found _ lone c.in-Some.ensures.found.0 _ c.in-Some.ensures.found.1 in
    (front.cut, front.is, front.fits, tt)

pub returns-in-Some-operator : goal.returns-in-Some-operator
returns-in-Some-operator c =
    let lone : IsLone c.args.rest.now = record { some = c.requires.some; first = c.requires.first; no_number = c.requires.no_number; no_line = c.requires.no_line; no_block = c.requires.no_block } in
    let front = one_found _ lone _ (sym c.operator.ensures ∙ c.in-Some-operator.is) (no_pair _ c.in_default.ensures.none) in
    (front.cut, front.is, front.fits, tt)

pub returns-in-None : goal.returns-in-None
returns-in-None c =
    let lone : IsLone c.args.rest.now = record { some = c.requires.some; first = c.requires.first; no_number = c.requires.no_number; no_line = c.requires.no_line; no_block = c.requires.no_block } in
    none_found _ lone _ c.new.ensures (none_is _ (sym c.operator.ensures ∙ c.in-None.is)) (no_pair _ c.in_default.ensures.none)
