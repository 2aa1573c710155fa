-- What is asked of all equations first decides; then the limits do.
use Rattle.mo_symdiff.proofs.Reducing.{given_answer}
use Rattle.mo_symdiff.proofs.reduce.reduced.Goals as goal

pub returns-in-Some-clause-refused : goal.returns-in-Some-clause-refused
returns-in-Some-clause-refused c =
    let given = given_answer _ _ _ _ _ _ _ c.as_slice.ensures c.as_slice-2.ensures c.first_given.ensures c.in-Some.is in
    rw given c.broken.ensures

pub returns-in-None-2-clause-refused : goal.returns-in-None-2-clause-refused
returns-in-None-2-clause-refused c =
    let given = given_answer _ _ _ _ _ _ _ c.as_slice.ensures c.as_slice-2.ensures c.first_given.ensures c.in-None.is in
    let short = rw c.in-None-2.is at c.in_ok-lines_within-in-None.ensures in
    rw given (short, c.too_large.ensures)

pub returns-in-Some-2-clause-lines : goal.returns-in-Some-2-clause-lines
returns-in-Some-2-clause-lines c =
    let found = rw c.in-Some-2.is at c.in_ok-lines_within-in-None.ensures in
    found.0

pub returns-in-Some-2-clause-differentiates : goal.returns-in-Some-2-clause-differentiates
returns-in-Some-2-clause-differentiates c = given_answer _ _ _ _ _ _ _ c.as_slice.ensures c.as_slice-2.ensures c.first_given.ensures c.in-None.is

pub returns-in-Some-2-clause-within : goal.returns-in-Some-2-clause-within
returns-in-Some-2-clause-within c =
    let found = rw c.in-Some-2.is at c.in_ok-lines_within-in-None.ensures in
    rw found.0 found.1
