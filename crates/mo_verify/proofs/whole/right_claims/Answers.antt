use Rattle.std.proofs.Common.{◌≡◌, length, ap, ◌∙◌, arith}
use Rattle.mo_incidence.specs.Signature.{Signature, equations}
use Rattle.mo_report.specs.Size.{unknown_names}
use Rattle.mo_verify.proofs.Feeds.{begun_lines}
use Rattle.mo_verify.proofs.Judging.{equations_of, unknowns_of, shape_told}
use Rattle.mo_verify.proofs.whole.right_claims.Goals as goal

pub read_claims-requires-clause-begun : goal.read_claims-requires-clause-begun
read_claims-requires-clause-begun c = begun_lines c.args.m.now c.args.text.now c.requires.begun.second

pub read_claims-requires-clause-few : goal.read_claims-requires-clause-few
read_claims-requires-clause-few c =
    let names : c.as_slice-names.result.now ≡ unknown_names c.args.m.now.vars = c.as_slice-names.ensures ∙ c.requires.blank.unknowns in
    let unknowns = ap (λ (g : Signature). g.unknowns) c.requires.model in
    (omega (arith, c.equations.ensures.count, c.equations.ensures.sound.few_equations), omega (arith, ap length names, unknowns_of c.args.m.now c.args.text.now, unknowns, c.equations.ensures.sound.few_unknowns))

pub returns-in-Verdict-clause-verdict : goal.returns-in-Verdict-clause-verdict
returns-in-Verdict-clause-verdict c =
    let names : c.as_slice-names.result.now ≡ unknown_names c.args.m.now.vars = c.as_slice-names.ensures ∙ c.requires.blank.unknowns in
    let count : c.equations.result ≡ length c.args.m.now.equations = c.equations.ensures.count ∙ (ap equations c.requires.model ∙ equations_of c.args.m.now c.args.text.now) in
    let told = rw c.in-Verdict.is at c.in_ok-verdict.ensures.misshapen in
    shape_told c.args.m.now c.args.text.now c.as_slice-names.result.now c.equations.result c.in-Verdict.verdict names count c.requires.begun c.requires.can told

pub claims_verdict-requires-clause-read : goal.claims_verdict-requires-clause-read
claims_verdict-requires-clause-read c =
    let names : c.as_slice-names.result.now ≡ unknown_names c.args.m.now.vars = c.as_slice-names.ensures ∙ c.requires.blank.unknowns in
    let count : c.equations.result ≡ length c.args.m.now.equations = c.equations.ensures.count ∙ (ap equations c.requires.model ∙ equations_of c.args.m.now c.args.text.now) in
    let told = rw c.in-Next.is at c.in_ok-verdict.ensures.next in
    record { begun = c.requires.begun; can = c.requires.can; printed = rw (names, count) at told }

pub returns-in-None-clause-read : goal.returns-in-None-clause-read
returns-in-None-clause-read c =
    let names : c.as_slice-names.result.now ≡ unknown_names c.args.m.now.vars = c.as_slice-names.ensures ∙ c.requires.blank.unknowns in
    let count : c.equations.result ≡ length c.args.m.now.equations = c.equations.ensures.count ∙ (ap equations c.requires.model ∙ equations_of c.args.m.now c.args.text.now) in
    let told = rw c.in-Next.is at c.in_ok-verdict.ensures.next in
    record { begun = c.requires.begun; can = c.requires.can; printed = rw (names, count) at told }
