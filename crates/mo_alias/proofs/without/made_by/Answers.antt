use Rattle.std.proofs.Common.{map, ap, ◌∙◌}
use Rattle.std.specs.Prelude.{not}
use Rattle.mo_alias.specs.steps.Placing.{flag_at, place_at}
use Rattle.mo_alias.specs.Without.{kept_from, replaced_assert, replaced_equation, replaced_variable}
use Rattle.mo_alias.proofs.without.made_by.Goals as goal

pub variables-vars-requires : goal.variables-vars-requires
variables-vars-requires c = rw c.as_slice.ensures c.requires.stays

pub kept_equations-kept-requires : goal.kept_equations-kept-requires
kept_equations-kept-requires c = rw c.as_slice-2.ensures c.requires.out

pub returns : goal.returns
returns c =
    let name = rw c.in_ok-name.ensures.values.0 at c.copy.ensures in
    let lists = rw c.in_ok-name.ensures.values.1 at c.both-lists.ensures.values in
    let kept = rw lists.0 at c.both.ensures.values in
    let firsts = rw lists.1 at c.both-3.ensures.values in
    let sayings = rw firsts.1 at c.both-2.ensures.values in
    let vars = (rw kept.0 at c.variables-vars.ensures) ∙ ap (λ xs. map (replaced_variable (place_at c.args.places.now)) (kept_from (flag_at c.args.stays.now) 1 xs)) c.as_slice.ensures in
    let equations = (rw kept.1 at c.kept_equations-kept.ensures) ∙ ap (λ xs. map (replaced_equation (place_at c.args.places.now)) (kept_from (λ i. not (flag_at c.args.out.now i)) 1 xs)) c.as_slice-2.ensures in
    let first = (rw firsts.0 at c.equations-first.ensures) ∙ ap (map (replaced_equation (place_at c.args.places.now))) c.as_slice-3.ensures in
    let first_asserts = (rw sayings.0 at c.asserts-first_asserts.ensures) ∙ ap (map (replaced_assert (place_at c.args.places.now))) c.as_slice-4.ensures in
    let asserts = (rw sayings.1 at c.asserts-asserts.ensures) ∙ ap (map (replaced_assert (place_at c.args.places.now))) c.as_slice-5.ensures in
    λ i. record {
      name = name i;
      place = c.args.m.now.place;
      vars = vars i;
      first = first i;
      first_asserts = first_asserts i;
      equations = equations i;
      asserts = asserts i;
    }
