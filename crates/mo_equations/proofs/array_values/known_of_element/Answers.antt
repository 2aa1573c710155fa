-- By what binds its array, or alone.
use Rattle.std.proofs.Common.{◌≡◌, Err, Option, rules, subst, ◌∙◌}
use Rattle.mo_scope.specs.Worlds.{frames_of, scope_in, table_in}
use Rattle.mo_syntax.specs.Outcome.{Outcome}
use Rattle.mo_typing.specs.Outcome.{Gives}
use Rattle.mo_values.specs.Scalars.{Known}
use Rattle.mo_names.proofs.Later.{is_frame_later}
use Rattle.mo_equations.specs.declared.desk.ValueBinding.{ValueBinding}
use Rattle.mo_equations.specs.steps.Layers.{fit_of, wanted_of}
use Rattle.mo_equations.proofs.Knowing.{known_now, resolved_now, unknown_so}
use Rattle.mo_equations.proofs.Staying.{stays_on}
use Rattle.mo_equations.proofs.array_values.known_of_element.Goals as goal

pub returns-in_err-found-clause-exact : goal.returns-in_err-found-clause-exact
returns-in_err-found-clause-exact c =
    let a = c.args.asked.now in
    let stop = c.in_err-found.field-0.0 in
    let p : c.from_residual.result ≡ Err stop = search rules in
    rw p (unknown_so (Option ValueBinding) (table_in c.args.s.now) (wanted_of a.layers.want a.layers.place) (fit_of a.layers.fit a.layers.place)
    (scope_in (frames_of c.args.s.now) a.at.now.frame.0 a.at.now.iters) a.value.now a.index.now stop c.in_err-found.ensures.refused)

pub known_by-requires : goal.known_by-requires
known_by-requires c = record {
  rule = c.requires.rule;
  binding = rw c.in-Some.is at c.in_ok-found.ensures.binding;
  is = resolved_now c.args.s.now c.value_binding.new.s c.args.asked.now.at.now c.args.asked.now.value.now c.in_ok-found.ensures.stays.goes.grows c.requires.frame ∙ (rw c.in-Some.is at c.in_ok-found.ensures.is);
  desk = c.in_ok-found.ensures.stays.goes.desk;
}

pub returns-in-Some-clause-exact : goal.returns-in-Some-clause-exact
returns-in-Some-clause-exact c =
    subst (λ (o : Outcome Known). Gives c.known_by.result o) (known_now c.args.s.now c.value_binding.new.s c.args.asked.now c.in_ok-found.ensures.stays.goes.grows c.requires.frame) c.known_by.ensures.exact

pub known_at-requires : goal.known_at-requires
known_at-requires c = record {
  frame = is_frame_later c.args.s.now c.value_binding.new.s c.args.asked.now.at.now.frame.0 c.in_ok-found.ensures.stays.goes.grows c.requires.frame;
  rule = c.requires.rule;
  desk = c.in_ok-found.ensures.stays.goes.desk;
}

pub returns-in-None-clause-exact : goal.returns-in-None-clause-exact
returns-in-None-clause-exact c =
    subst (λ (o : Outcome Known). Gives c.known_at.result o) (known_now c.args.s.now c.value_binding.new.s c.args.asked.now c.in_ok-found.ensures.stays.goes.grows c.requires.frame) c.known_at.ensures.exact

-- ---- what stays

pub returns-in_err-found-clause-stays : goal.returns-in_err-found-clause-stays
returns-in_err-found-clause-stays c = c.in_err-found.ensures.stays

pub returns-in-Some-clause-stays : goal.returns-in-Some-clause-stays
returns-in-Some-clause-stays c = stays_on c.args.s.now c.value_binding.new.s c.known_by.new.s c.args.desk.now c.value_binding.new.desk c.known_by.new.desk c.in_ok-found.ensures.stays c.known_by.ensures.stays

pub returns-in-None-clause-stays : goal.returns-in-None-clause-stays
returns-in-None-clause-stays c = stays_on c.args.s.now c.value_binding.new.s c.known_at.new.s c.args.desk.now c.value_binding.new.desk c.known_at.new.desk c.in_ok-found.ensures.stays c.known_at.ensures.stays
