use Rattle.std.proofs.Common.{◌≡◌, subst, arith}
use Rattle.mo_incidence.specs.Signature.{equations}
use Rattle.mo_verify.specs.Faults.{AreChainedTo}
use Rattle.mo_verify.specs.Steps.{printed_of}
use Rattle.mo_verify.proofs.Judging.{some_through, none_through, fault_verdict, right_so_far, sizes_of, not_least_verdict}
use Rattle.mo_verify.proofs.whole.claims_verdict.Goals as goal

pub first_fault-requires : goal.first_fault-requires
first_fault-requires c = rw (c.seen-seen.ensures, c.requires.model) (record { sizes = sizes_of c.args.m.now c.args.text.now (printed_of c.args.claims.now) c.requires.read.printed })

pub unchained-requires-clause-sizes : goal.unchained-requires-clause-sizes
unchained-requires-clause-sizes c = rw (c.seen-seen.ensures, c.requires.model) (sizes_of c.args.m.now c.args.text.now (printed_of c.args.claims.now) c.requires.read.printed)

pub returns-in-Some-clause-some : goal.returns-in-Some-clause-some
returns-in-Some-clause-some c =
    let some = rw c.in-Some.is at c.in_ok-verdict.ensures.some in
    let here = rw (c.seen-seen.ensures, c.requires.model) at some in
    fault_verdict c.args.m.now c.args.text.now (printed_of c.args.claims.now) c.requires.read c.in-Some.verdict here

pub returns-clause-some : goal.returns-clause-some
returns-clause-some c =
    let none = rw c.in_default.is at c.in_ok-verdict.ensures.none in
    let right = rw (c.seen-seen.ensures, c.requires.model) at none in
    let square : equations c.args.inc.now ≡ c.args.inc.now.unknowns = omega (arith, c.equations.ensures.count, c.unknowns.ensures, c.if-equations-unknowns.false) in
    some_through c.unchained.result _ _
    (λ v is.
    not_least_verdict c.args.m.now c.args.text.now (printed_of c.args.claims.now) v (right_so_far c.args.m.now c.args.text.now (printed_of c.args.claims.now) c.requires.read right) (rw c.requires.model at square)
    (rw (c.seen-seen.ensures, c.requires.model) at is))
    c.unchained.ensures.some

pub returns-clause-chained : goal.returns-clause-chained
returns-clause-chained c = none_through c.unchained.result _ _ (λ chains square. subst (λ p. AreChainedTo c.args.inc.now p (equations c.args.inc.now)) c.seen-seen.ensures chains) c.unchained.ensures.none
