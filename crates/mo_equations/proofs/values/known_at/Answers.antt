-- What is resolved, then what is known of it.
use Rattle.std.proofs.Common.{subst}
use Rattle.mo_scope.specs.Rows.{Table}
use Rattle.mo_scope.specs.Worlds.{frames_of, scope_in, table_in}
use Rattle.mo_typing.specs.Outcome.{Gives}
use Rattle.mo_names.proofs.Later.{grows_trans, table_later}
use Rattle.mo_eval.specs.Seen.{resolved_seen}
use Rattle.mo_eval.specs.Values.{known_of, most_references}
use Rattle.mo_equations.specs.steps.Layers.{fit_of, wanted_of}
use Rattle.mo_equations.proofs.Knowing.{known_then}
use Rattle.mo_equations.proofs.Staying.{reads}
use Rattle.mo_equations.proofs.values.known_at.Goals as goal

pub returns-in_err-resolved-clause-stays : goal.returns-in_err-resolved-clause-stays
returns-in_err-resolved-clause-stays c =
    reads c.args.s.now c.resolved_for_value.new.s c.args.desk.now c.resolved_for_value.new.self c.resolved_for_value.ensures.grows c.resolved_for_value.ensures.kept c.requires.desk

pub returns-in_err-layered-clause-stays : goal.returns-in_err-layered-clause-stays
returns-in_err-layered-clause-stays c =
    reads c.args.s.now c.resolved_for_value.new.s c.args.desk.now c.resolved_for_value.new.self c.resolved_for_value.ensures.grows c.resolved_for_value.ensures.kept c.requires.desk

pub returns-clause-stays : goal.returns-clause-stays
returns-clause-stays c =
    reads c.args.s.now c.known.new.s c.args.desk.now c.known.new.self (grows_trans c.args.s.now c.resolved_for_value.new.s c.known.new.s c.resolved_for_value.ensures.grows c.known.ensures.grows) c.known.ensures.kept c.requires.desk

pub returns-clause-exact : goal.returns-clause-exact
returns-clause-exact c =
    let asked = c.args.asked.now in
    let mid = c.resolved_for_value.new.s in
    known_then (table_in c.args.s.now) (wanted_of asked.layers.want asked.layers.place) (fit_of asked.layers.fit asked.layers.place)
    (scope_in (frames_of c.args.s.now) asked.at.now.frame.0 asked.at.now.iters) asked.value.now asked.index.now (resolved_seen (frames_of mid) c.in_ok-resolved.resolved) c.known.result
    c.in_ok-resolved.ensures.exact c.in_ok-layered.ensures
    (subst (λ (table : Table). Gives c.known.result (known_of table most_references (resolved_seen (frames_of mid) c.in_ok-resolved.resolved) asked.index.now))
    (table_later c.args.s.now mid c.resolved_for_value.ensures.grows) c.known.ensures.exact)
