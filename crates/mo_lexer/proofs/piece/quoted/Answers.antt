use Rattle.std.proofs.Common.{inr, ◌<◌, ◌+◌, length, arith, length-take-le}
use Rattle.std.proofs.lemmas.List.{take_rest}
use Rattle.mo_lexer.proofs.Quoted.{quoted_open_at, quoted_bad_at, quoted_found_at, quoted_too_wide, unless_either}
use Rattle.mo_lexer.proofs.piece.quoted.Goals as goal

pub returns-then-close-rest : goal.returns-then-close-rest
returns-then-close-rest c =
    let ends = rw (take_rest c.args.rest.now 1) at c.contents_len-body.ensures in
    quoted_open_at _ c.requires.some c.requires.first _ _ c.new.ensures c.if-close-rest.true ends

pub returns-then-body-lt-QUOTED_MIN : goal.returns-then-body-lt-QUOTED_MIN
returns-then-body-lt-QUOTED_MIN c =
    let ends = rw (take_rest c.args.rest.now 1) at c.contents_len-body.ensures in
    let below : 1 + c.contents_len-body.result < length c.args.rest.now = omega (arith, c.contents_len-body.ensures.within) in
    quoted_bad_at _ c.requires.some c.requires.first _ _ c.new-then-body-lt-QUOTED_MIN.ensures below ends (unless_either _ c.if-body-lt-QUOTED_MIN.either)

pub returns-then-close-ge-IDENTIFIER_MAX : goal.returns-then-close-ge-IDENTIFIER_MAX
returns-then-close-ge-IDENTIFIER_MAX c =
    let ends = rw (take_rest c.args.rest.now 1) at c.contents_len-body.ensures in
    let below : 1 + c.contents_len-body.result < length c.args.rest.now = omega (arith, c.contents_len-body.ensures.within) in
    let front = quoted_found_at _ c.requires.some c.requires.first _ below ends c.if-body-lt-QUOTED_MIN.false.0 (omega (arith, c.if-body-lt-QUOTED_MIN.false.1)) in
    quoted_too_wide _ _ _ c.new-then-close-ge-IDENTIFIER_MAX.ensures front (omega arith)

pub returns-else-close-ge-IDENTIFIER_MAX : goal.returns-else-close-ge-IDENTIFIER_MAX
returns-else-close-ge-IDENTIFIER_MAX c =
    let ends = rw (take_rest c.args.rest.now 1) at c.contents_len-body.ensures in
    let below : 1 + c.contents_len-body.result < length c.args.rest.now = omega (arith, c.contents_len-body.ensures.within) in
    let front = quoted_found_at _ c.requires.some c.requires.first _ below ends c.if-body-lt-QUOTED_MIN.false.0 (omega (arith, c.if-body-lt-QUOTED_MIN.false.1)) in
    (front.cut, inr front.is, front.fits, omega (arith, length-take-le (1 + c.contents_len-body.result + 1) c.args.rest.now front.cut.within))
