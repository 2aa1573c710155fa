use Rattle.std.proofs.Common.{◌+◌, ◌≤◌, length, arith}
use Rattle.std.proofs.lemmas.List.{take_rest, length-drop}
use Rattle.mo_lexer.proofs.Numbers.{Measured, number_whole, number_decimal}
use Rattle.mo_lexer.proofs.number.number_front.Goals as goal

pub returns-then-len-digits : goal.returns-then-len-digits
returns-then-len-digits c =
    let all = c.args.rest.now in
    let d = c.digits_len-digits.result in
    let f = c.point_len.result in
    let e = c.exponent_len.result in
    let point = rw (take_rest all d) at c.point_len.ensures.value in
    let exponent = rw (take_rest all (d + f)) at c.exponent_len.ensures.value in
    let in_rest = rw (take_rest all d) at c.point_len.ensures.within in
    let in_tail = rw (take_rest all (d + f)) at c.exponent_len.ensures.within in
    let within : d + f + e ≤ length all = omega (arith, in_rest, in_tail, length-drop d all, length-drop (d + f) all, c.digits_len-digits.ensures.within) in
    let m : Measured all d f e = record { begins = c.requires; digits = c.digits_len-digits.ensures.value; point = point; exponent = exponent } in
    number_whole _ _ _ _ m c.if-len-digits.true within

pub returns-else-len-digits : goal.returns-else-len-digits
returns-else-len-digits c =
    let all = c.args.rest.now in
    let d = c.digits_len-digits.result in
    let f = c.point_len.result in
    let e = c.exponent_len.result in
    let point = rw (take_rest all d) at c.point_len.ensures.value in
    let exponent = rw (take_rest all (d + f)) at c.exponent_len.ensures.value in
    let in_rest = rw (take_rest all d) at c.point_len.ensures.within in
    let in_tail = rw (take_rest all (d + f)) at c.exponent_len.ensures.within in
    let within : d + f + e ≤ length all = omega (arith, in_rest, in_tail, length-drop d all, length-drop (d + f) all, c.digits_len-digits.ensures.within) in
    let m : Measured all d f e = record { begins = c.requires; digits = c.digits_len-digits.ensures.value; point = point; exponent = exponent } in
    number_decimal _ _ _ _ m c.if-len-digits.false within
