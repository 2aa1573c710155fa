-- What is resolved, then its numbers.
use Rattle.std.proofs.Common.{[], ◌∷◌, map, Ok, arith, sym, ◌∙◌}
use Rattle.std.proofs.lemmas.Int.{to_z-of_z}
use Rattle.mo_typing.specs.Indices.{numbers_to, range_element}
use Rattle.mo_scope.specs.Worlds.{frames_of, scope_in, table_in}
use Rattle.mo_eval.specs.Seen.{resolved_seen}
use Rattle.mo_equations.specs.Equations.{vector_size}
use Rattle.mo_equations.specs.steps.Standing.{tree_in}
use Rattle.mo_equations.proofs.Knowing.{range_is, range_known}
use Rattle.mo_equations.proofs.Staying.{reads}
use Rattle.mo_equations.proofs.values.range_numbers.Goals as goal

pub returns-in_err-resolved-clause-stays : goal.returns-in_err-resolved-clause-stays
returns-in_err-resolved-clause-stays c =
    reads c.args.s.now c.resolved_for_value.new.s c.args.desk.now c.resolved_for_value.new.self c.resolved_for_value.ensures.grows c.resolved_for_value.ensures.kept c.requires.desk

pub returns-in_err-size-clause-stays : goal.returns-in_err-size-clause-stays
returns-in_err-size-clause-stays c =
    reads c.args.s.now c.resolved_for_value.new.s c.args.desk.now c.resolved_for_value.new.self c.resolved_for_value.ensures.grows c.resolved_for_value.ensures.kept c.requires.desk

pub returns-in-Range-clause-stays : goal.returns-in-Range-clause-stays
returns-in-Range-clause-stays c =
    reads c.args.s.now c.resolved_for_value.new.s c.args.desk.now c.resolved_for_value.new.self c.resolved_for_value.ensures.grows c.resolved_for_value.ensures.kept c.requires.desk

pub returns-in_err-layers-clause-stays : goal.returns-in_err-layers-clause-stays
returns-in_err-layers-clause-stays c =
    reads c.args.s.now c.resolved_for_value.new.s c.args.desk.now c.resolved_for_value.new.self c.resolved_for_value.ensures.grows c.resolved_for_value.ensures.kept c.requires.desk

pub returns-in-Range-clause-exact : goal.returns-in-Range-clause-exact
returns-in-Range-clause-exact c =
    let r = resolved_seen (frames_of c.resolved_for_value.new.s) c.in_ok-resolved.resolved in
    let place = c.args.e.now.place in
    let is =
    range_is (tree_in c.args.s.now c.args.desk.now.leaves) (scope_in (frames_of c.args.s.now) c.args.at.now.frame.0 c.args.at.now.iters) c.args.e.now r c.in_ok-size.size
    (Ok (map (λ k. range_element c.in-Range.first c.in-Range.step (k ∷ [])) (numbers_to c.in_ok-size.size))) c.in_ok-resolved.ensures.exact c.in_ok-size.ensures
    (range_known (table_in c.args.s.now) r c.in-Range.first c.in-Range.step _ place (vector_size place) c.in_ok-size.size (sym c.get.ensures ∙ c.in-Range.is) c.in_ok-size.ensures) in
    grind (arith, to_z-of_z, is)

pub numbers_listed-requires : goal.numbers_listed-requires
numbers_listed-requires c = record {
  there = c.in_ok-resolved.ensures.there;
  layers = c.in_ok-layers.ensures.layers;
  desk = (reads c.args.s.now c.resolved_for_value.new.s c.args.desk.now c.resolved_for_value.new.self c.resolved_for_value.ensures.grows c.resolved_for_value.ensures.kept c.requires.desk).goes.desk;
}
