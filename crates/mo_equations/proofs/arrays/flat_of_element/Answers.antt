-- By the binding of its array, or alone.
use Rattle.std.proofs.Common.{◌≡◌, Err, Option, rules, ◌∙◌}
use Rattle.mo_scope.specs.Worlds.{frames_of, scope_in, table_in}
use Rattle.mo_names.proofs.Later.{is_frame_later}
use Rattle.mo_eval.specs.Seen.{resolved_seen}
use Rattle.mo_equations.specs.declared.desk.ArrayBinding.{ArrayBinding}
use Rattle.mo_equations.specs.steps.Standing.{replacing_in}
use Rattle.mo_equations.specs.steps.Flats.{IsFlat}
use Rattle.mo_equations.specs.steps.Layers.{fit_of, wanted_of}
use Rattle.mo_equations.proofs.ResolvedOnce.{refused_so, resolved_still}
use Rattle.mo_equations.proofs.Replacings.{answers_as, asked_now, flat_at_unresolved}
use Rattle.mo_equations.proofs.Staying.{stays_on}
use Rattle.mo_equations.proofs.arrays.flat_of_element.Goals as goal

pub returns-in_err-found-clause-exact : goal.returns-in_err-found-clause-exact
returns-in_err-found-clause-exact c =
    let a = c.args.asked.now in
    let stop = c.in_err-found.field-0.0 in
    let p : c.from_residual.result ≡ Err stop = search rules in
    rw p (flat_at_unresolved (table_in c.args.s.now) a.left (replacing_in c.args.s.now c.args.desk.now.leaves a.left) (wanted_of a.layers.want a.layers.place) (fit_of a.layers.fit a.layers.place)
    (scope_in (frames_of c.args.s.now) a.at.now.frame.0 a.at.now.iters) a.value.now a.index.now (resolved_seen (frames_of c.args.s.now)) stop (refused_so (Option ArrayBinding) (resolved_seen (frames_of c.args.s.now)) _ stop c.in_err-found.ensures.refused))

pub flat_by-requires : goal.flat_by-requires
flat_by-requires c = record {
  rule = c.requires.rule;
  left = c.requires.left;
  binding = rw c.in-Some.is at c.in_ok-found.ensures.binding;
  is = resolved_still c.args.s.now c.array_binding.new.s c.args.asked.now.left c.args.asked.now.at.now c.args.asked.now.value.now c.in_ok-found.ensures.stays.goes.grows c.requires.frame ∙ (rw c.in-Some.is at c.in_ok-found.ensures.is);
  desk = c.in_ok-found.ensures.stays.goes.desk;
}

pub returns-in-Some-clause-exact : goal.returns-in-Some-clause-exact
returns-in-Some-clause-exact c =
    answers_as IsFlat c.flat_by.result _ _ (asked_now c.args.s.now c.array_binding.new.s c.args.desk.now c.array_binding.new.desk c.args.asked.now c.requires.desk c.in_ok-found.ensures.stays.goes c.requires.frame) c.flat_by.ensures.exact

pub flat_at-requires : goal.flat_at-requires
flat_at-requires c = record {
  frame = is_frame_later c.args.s.now c.array_binding.new.s c.args.asked.now.at.now.frame.0 c.in_ok-found.ensures.stays.goes.grows c.requires.frame;
  rule = c.requires.rule;
  desk = c.in_ok-found.ensures.stays.goes.desk;
}

pub returns-in-None-clause-exact : goal.returns-in-None-clause-exact
returns-in-None-clause-exact c =
    answers_as IsFlat c.flat_at.result _ _ (asked_now c.args.s.now c.array_binding.new.s c.args.desk.now c.array_binding.new.desk c.args.asked.now c.requires.desk c.in_ok-found.ensures.stays.goes c.requires.frame) c.flat_at.ensures.exact

-- ---- what stays

pub returns-in_err-found-clause-stays : goal.returns-in_err-found-clause-stays
returns-in_err-found-clause-stays c = c.in_err-found.ensures.stays

pub returns-in-Some-clause-stays : goal.returns-in-Some-clause-stays
returns-in-Some-clause-stays c = stays_on c.args.s.now c.array_binding.new.s c.flat_by.new.s c.args.desk.now c.array_binding.new.desk c.flat_by.new.desk c.in_ok-found.ensures.stays c.flat_by.ensures.stays

pub returns-in-None-clause-stays : goal.returns-in-None-clause-stays
returns-in-None-clause-stays c = stays_on c.args.s.now c.array_binding.new.s c.flat_at.new.s c.args.desk.now c.array_binding.new.desk c.flat_at.new.desk c.in_ok-found.ensures.stays c.flat_at.ensures.stays
