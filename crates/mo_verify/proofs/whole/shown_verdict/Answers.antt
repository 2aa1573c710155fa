use Rattle.std.proofs.Common.{subst, arith}
use Rattle.mo_incidence.specs.Signature.{equations}
use Rattle.mo_incidence.specs.Model.{incidence_of}
use Rattle.mo_incidence.specs.Offsets.{by_place}
use Rattle.mo_verify.specs.Faults.{AreChainedTo}
use Rattle.mo_verify.specs.Steps.{printed_of}
use Rattle.mo_verify.proofs.Covering.{no_more}
use Rattle.mo_verify.proofs.Judging.{ok_through, equations_of, right_so_far, sizes_of, square_verdict, undetermined_verdict}
use Rattle.mo_verify.proofs.whole.shown_verdict.Goals as goal

pub returns-then-equations-unknowns : goal.returns-then-equations-unknowns
returns-then-equations-unknowns c =
    ok_through c.compared.result _ _
    (λ v is.
    undetermined_verdict c.args.m.now c.args.text.now (printed_of c.args.claims) (right_so_far c.args.m.now c.args.text.now (printed_of c.args.claims) c.requires.read (rw c.requires.model at c.requires.right))
    c.undetermined_report.new.report v c.undetermined_report.ensures is)
    c.compared.ensures

pub square_report-requires-clause-sizes : goal.square_report-requires-clause-sizes
square_report-requires-clause-sizes c = rw c.requires.model (sizes_of c.args.m.now c.args.text.now (printed_of c.args.claims) c.requires.read.printed)

pub square_report-requires-clause-square : goal.square_report-requires-clause-square
square_report-requires-clause-square c =
    let few = no_more c.args.inc.now (by_place c.args.work.assignment) c.equations.ensures.sound c.requires.assigned c.requires.all in
    omega (arith, few, c.equations.ensures.count, c.unknowns.ensures, c.if-equations-unknowns.false)

pub square_report-requires-clause-chained : goal.square_report-requires-clause-chained
square_report-requires-clause-chained c =
    let few = no_more c.args.inc.now (by_place c.args.work.assignment) c.equations.ensures.sound c.requires.assigned c.requires.all in
    c.requires.chained (omega (arith, few, c.equations.ensures.count, c.unknowns.ensures, c.if-equations-unknowns.false))

pub returns : goal.returns
returns c =
    let few = no_more c.args.inc.now (by_place c.args.work.assignment) c.equations.ensures.sound c.requires.assigned c.requires.all in
    let chained = c.requires.chained (omega (arith, few, c.equations.ensures.count, c.unknowns.ensures, c.if-equations-unknowns.false)) in
    let here = subst (λ g. AreChainedTo g (printed_of c.args.claims) (equations g)) c.requires.model chained in
    let chains = subst (λ n. AreChainedTo (incidence_of c.args.m.now) (printed_of c.args.claims) n) (equations_of c.args.m.now c.args.text.now) here in
    ok_through c.compared-2.result _ _
    (λ v is.
    square_verdict c.args.m.now c.args.text.now (printed_of c.args.claims) (right_so_far c.args.m.now c.args.text.now (printed_of c.args.claims) c.requires.read (rw c.requires.model at c.requires.right))
    c.square_report.new.report v chains c.in_ok-square_report.ensures is)
    c.compared-2.ensures
