-- The layers, then what is known.
use Rattle.std.proofs.Common.{Ok}
use Rattle.mo_scope.specs.Worlds.{frames_of, scope_in, table_in}
use Rattle.mo_eval.specs.Keeping.{bound_seen}
use Rattle.mo_equations.specs.steps.Layers.{fit_of, wanted_of}
use Rattle.mo_equations.proofs.ArrayBindings.{value_binding_later}
use Rattle.mo_equations.proofs.Knowing.{known_then}
use Rattle.mo_equations.proofs.Staying.{reads, stays_still, with_read}
use Rattle.mo_equations.proofs.array_values.known_by.Goals as goal

pub layered_bound-requires : goal.layered_bound-requires
layered_bound-requires c = record { rule = c.requires.rule; layers = c.requires.binding.is.layers }

pub known_of_binding-requires : goal.known_of_binding-requires
known_of_binding-requires c = record { there = c.requires.binding.is.there; layers = c.requires.binding.is.layers; kept = c.requires.desk.reader }

pub returns-clause-exact : goal.returns-clause-exact
returns-clause-exact c =
    let asked = c.args.asked.now in
    known_then (table_in c.args.s.now) (wanted_of asked.layers.want asked.layers.place) (fit_of asked.layers.fit asked.layers.place)
    (scope_in (frames_of c.args.s.now) asked.at.now.frame.0 asked.at.now.iters) asked.value.now asked.index.now (bound_seen (frames_of c.args.s.now) c.args.binding.bound) (Ok c.in_ok-known.known)
    c.requires.is c.in_ok-layered_bound.ensures c.in_ok-known.ensures.exact

-- ---- what stays

pub returns-in_err-layered_bound-clause-stays : goal.returns-in_err-layered_bound-clause-stays
returns-in_err-layered_bound-clause-stays c = stays_still c.args.s.now c.args.desk.now c.requires.desk

pub returns-in_err-known-clause-stays : goal.returns-in_err-known-clause-stays
returns-in_err-known-clause-stays c =
    reads c.args.s.now c.known_of_binding.new.s c.args.desk.now c.known_of_binding.new.self c.known_of_binding.ensures.grows c.known_of_binding.ensures.kept c.requires.desk

pub returns-clause-stays : goal.returns-clause-stays
returns-clause-stays c =
    with_read c.args.s.now c.known_of_binding.new.s c.args.desk.now _ c.args.binding
    (reads c.args.s.now c.known_of_binding.new.s c.args.desk.now c.known_of_binding.new.self c.known_of_binding.ensures.grows c.known_of_binding.ensures.kept c.requires.desk)
    (value_binding_later c.args.s.now c.known_of_binding.new.s c.args.binding c.known_of_binding.ensures.grows c.requires.binding)
