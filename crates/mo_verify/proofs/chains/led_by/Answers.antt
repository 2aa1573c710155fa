use Rattle.std.proofs.Common.{◌≡◌, ◌+◌, ◌-◌, get_or, arith, refl}
use Rattle.mo_verify.specs.Finding.{printed_in}
use Rattle.mo_verify.proofs.Chaining.{leads, leads_only}
use Rattle.mo_verify.proofs.chains.led_by.Goals as goal

pub returns-clause-some : goal.returns-clause-some
returns-clause-some c =
    let back : c.args.k + 1 - 1 ≡ c.args.k = omega arith in
    leads c.args.inc.now (printed_in c.args.claims.now) c.args.owner.now c.requires.owners.1 c.args.k c.args.n c.entry-unknown.result.0 c.entry-unknown.result.1
    (rw back at c.entry-unknown.ensures.unknown) (rw back at c.entry-unknown.ensures.order) _ refl (λ none. omega (arith, none)) (λ own. omega (arith, own)) (omega arith)

pub returns-clause-only : goal.returns-clause-only
returns-clause-only c =
    let back : c.args.k + 1 - 1 ≡ c.args.k = omega arith in
    λ x below l.
    let o = leads_only c.args.inc.now (printed_in c.args.claims.now) c.args.owner.now c.requires.owners.1 c.args.k c.args.n c.entry-unknown.result.0 c.entry-unknown.result.1
    (rw back at c.entry-unknown.ensures.unknown) (rw back at c.entry-unknown.ensures.order) _ refl x below l in
    omega (arith, o.0)

pub returns-then-from-clause-none : goal.returns-then-from-clause-none
returns-then-from-clause-none c =
    let back : c.args.k + 1 - 1 ≡ c.args.k = omega arith in
    λ x below l.
    let o = leads_only c.args.inc.now (printed_in c.args.claims.now) c.args.owner.now c.requires.owners.1 c.args.k c.args.n c.entry-unknown.result.0 c.entry-unknown.result.1
    (rw back at c.entry-unknown.ensures.unknown) (rw back at c.entry-unknown.ensures.order) _ refl x below l in
    let tight : get_or c.args.claims.now.d.now (c.entry-unknown.result.0 - 1) 0 ≡ get_or c.args.claims.now.c.now c.args.k 0 + c.entry-unknown.result.1 = o.2 in
    omega (arith, tight)

pub returns-then-holder-eq0-clause-none : goal.returns-then-holder-eq0-clause-none
returns-then-holder-eq0-clause-none c =
    let back : c.args.k + 1 - 1 ≡ c.args.k = omega arith in
    λ x below l.
    let o = leads_only c.args.inc.now (printed_in c.args.claims.now) c.args.owner.now c.requires.owners.1 c.args.k c.args.n c.entry-unknown.result.0 c.entry-unknown.result.1
    (rw back at c.entry-unknown.ensures.unknown) (rw back at c.entry-unknown.ensures.order) _ refl x below l in
    omega (arith, o.0)

pub returns-then-holder-k-clause-none : goal.returns-then-holder-k-clause-none
returns-then-holder-k-clause-none c =
    let back : c.args.k + 1 - 1 ≡ c.args.k = omega arith in
    λ x below l.
    let o = leads_only c.args.inc.now (printed_in c.args.claims.now) c.args.owner.now c.requires.owners.1 c.args.k c.args.n c.entry-unknown.result.0 c.entry-unknown.result.1
    (rw back at c.entry-unknown.ensures.unknown) (rw back at c.entry-unknown.ensures.order) _ refl x below l in
    omega (arith, o.0, o.1)
