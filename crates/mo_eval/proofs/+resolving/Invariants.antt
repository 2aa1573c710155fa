use Rattle.mo_eval.proofs.Growing.{behind_made}
use Rattle.mo_eval.proofs.Prefixes.{unread_among}
use Rattle.mo_eval.specs.Calls.{make_arguments, read_sizes}
use Rattle.mo_eval.specs.Components.{each_dim}
use Rattle.mo_eval.specs.Contexts.{Part}
use Rattle.mo_syntax.specs.Outcome.{and_then}
use Rattle.mo_values.specs.Asked.{must_be_whole}
use Rattle.mo_eval.specs.Keeping.{IsKept}
use Rattle.mo_eval.specs.References.{read_subscripts, selections}
use Rattle.mo_eval.specs.Resolving.{made_choice, make_parts}
use Rattle.mo_eval.specs.Seen.{AreThere, resolved_seen, virtuals_seen}
use Rattle.mo_eval.specs.steps.Sites.{elements_in, part_in, plain_in, variables_in}
use Rattle.mo_values.specs.Told.{AreRead}
use Rattle.mo_eval.specs.Values.{reading}
use Rattle.mo_eval.specs.Virtuals.{make_each, known_at}
use Rattle.mo_eval.specs.steps.Absence.{Removal}
use Rattle.mo_eval.specs.steps.Measuring.{bound_in, dims_more, scoped}
use Rattle.mo_eval.specs.steps.Naming.{names_seen}
use Rattle.mo_eval.specs.steps.Parts.{as_branch, as_factor, as_term, made_factor, made_term}
use Rattle.mo_eval.specs.steps.Selecting.{each_below, elements_more, elements_seen, reading_in, selections_seen}
use Rattle.mo_lookup.specs.Sizing.{sizes_seen}
use Rattle.mo_names.specs.Sights.{IsMember, member_of}
use Rattle.mo_scope.specs.Frames.{Scope}
use Rattle.mo_scope.specs.Places.{Every}
use Rattle.mo_scope.specs.Worlds.{Grows, frames_of, scope_in, table_in}
use Rattle.mo_syntax.specs.declared.expr.Expr.{Expr}
use Rattle.mo_typing.specs.Indices.{numbers_to}
use Rattle.mo_typing.specs.Outcome.{each}
use Rattle.std.proofs.Common.{List, Ok, Option, Some, [], drop, length, map, option_map as option_map_of_common, ◌*◌, ◌++◌, ◌+◌, ◌∷◌, ◌≡◌}
use Rattle.std.specs.Option.{option_map}
use Rattle.std.specs.Prelude.{IfSome}
use Rattle.mo_eval.proofs.+resolving.Given as goal

abbrev pub invariant-variables::known_with-reading : goal.invariant-variables::known_with-reading
invariant-variables::known_with-reading l = Grows l.initial.s l.s × AreRead l.reads.items (variables_in l.initial.s l.left l.virtuals)
    × IsKept l.s l.reader

abbrev pub decreases-variables::known_with-reading : goal.decreases-variables::known_with-reading
decreases-variables::known_with-reading l = unread_among l.reads.items

abbrev pub invariant-choice::choice-loop-one : goal.invariant-choice::choice-loop-one
invariant-choice::choice-loop-one l =
    Grows l.initial.s l.s × AreThere l.s l.virtuals
    × (and_then (made_choice (elements_in l.initial.s l.site.left) l.site.context (map (as_branch (part_in l.initial.s l.site)) (drop l.one-index l.branches)) (part_in l.initial.s l.site l.other) (virtuals_seen (frames_of l.s) l.virtuals)) (λ more. Ok ((l.made ++ more.0.0, more.0.1), more.1))
    ≡ made_choice (elements_in l.initial.s l.site.left) l.site.context (map (as_branch (part_in l.initial.s l.site)) l.branches) (part_in l.initial.s l.site l.other) (virtuals_seen (frames_of l.initial.s) l.initial.virtuals))
    × IsKept l.s l.reader

abbrev pub invariant-calls::arguments-loop-arg : goal.invariant-calls::arguments-loop-arg
invariant-calls::arguments-loop-arg l =
    Grows l.initial.s l.s × AreThere l.s l.virtuals
    × ((parts : List Part) → plain_in l.initial.s l.site l.args ≡ Some parts →
    and_then (make_arguments l.site.context (drop l.arg-index parts) (virtuals_seen (frames_of l.s) l.virtuals)) (behind_made l.made)
    ≡ make_arguments l.site.context parts (virtuals_seen (frames_of l.initial.s) l.initial.virtuals))
    × IsKept l.s l.reader

abbrev pub invariant-calls::sizes-loop-arg : goal.invariant-calls::sizes-loop-arg
invariant-calls::sizes-loop-arg l =
    Grows l.initial.s l.s
    × ((parts : List Part) → plain_in l.initial.s l.site l.args ≡ Some parts →
    and_then (read_sizes (elements_in l.initial.s l.site.left) l.site.context (drop l.arg-index parts)) (λ more. Ok (l.made ++ more))
    ≡ read_sizes (elements_in l.initial.s l.site.left) l.site.context parts)
    × IsKept l.s l.reader

abbrev pub invariant-resolve::operands-loop-part : goal.invariant-resolve::operands-loop-part
invariant-resolve::operands-loop-part l =
    Grows l.initial.s l.s × AreThere l.s l.virtuals
    × (and_then (make_parts l.site.context (map (part_in l.initial.s l.site) (drop l.part-index l.parts)) (virtuals_seen (frames_of l.s) l.virtuals)) (λ more. Ok (l.made ++ more.0, more.1))
    ≡ make_parts l.site.context (map (part_in l.initial.s l.site) l.parts) (virtuals_seen (frames_of l.initial.s) l.initial.virtuals))
    × IsKept l.s l.reader

abbrev pub invariant-resolve::terms-loop-term : goal.invariant-resolve::terms-loop-term
invariant-resolve::terms-loop-term l =
    Grows l.initial.s l.s × AreThere l.s l.virtuals
    × (and_then (make_each (made_term l.site.context) (map (as_term (part_in l.initial.s l.site)) (drop l.term-index l.terms)) (virtuals_seen (frames_of l.s) l.virtuals)) (λ more. Ok (l.made ++ more.0, more.1))
    ≡ make_each (made_term l.site.context) (map (as_term (part_in l.initial.s l.site)) l.terms) (virtuals_seen (frames_of l.initial.s) l.initial.virtuals))
    × IsKept l.s l.reader

abbrev pub invariant-resolve::factors-loop-factor : goal.invariant-resolve::factors-loop-factor
invariant-resolve::factors-loop-factor l =
    Grows l.initial.s l.s × AreThere l.s l.virtuals
    × (and_then (make_each (made_factor l.site.context) (map (as_factor (part_in l.initial.s l.site)) (drop l.factor-index l.factors)) (virtuals_seen (frames_of l.s) l.virtuals)) (λ more. Ok (l.made ++ more.0, more.1))
    ≡ make_each (made_factor l.site.context) (map (as_factor (part_in l.initial.s l.site)) l.factors) (virtuals_seen (frames_of l.initial.s) l.initial.virtuals))
    × IsKept l.s l.reader

abbrev pub invariant-subscripts::numbers_of-loop-k : goal.invariant-subscripts::numbers_of-loop-k
invariant-subscripts::numbers_of-loop-k l =
    Grows l.initial.s l.s × AreRead l.reads.items (variables_in l.initial.s l.left l.resolved.virtuals)
    × (and_then (each (λ k. and_then (known_at (elements_in l.initial.s l.left) (resolved_seen (frames_of l.initial.s) l.resolved) (k ∷ [])) (must_be_whole l.place)) (drop l.k (numbers_to l.size))) (λ more. Ok (l.made ++ more))
    ≡ each (λ k. and_then (known_at (elements_in l.initial.s l.left) (resolved_seen (frames_of l.initial.s) l.resolved) (k ∷ [])) (must_be_whole l.place)) (numbers_to l.size))
    × IsKept l.s l.reader

abbrev pub invariant-subscripts::read_subscripts-loop-k : goal.invariant-subscripts::read_subscripts-loop-k
invariant-subscripts::read_subscripts-loop-k l =
    Grows l.initial.s l.s
    × (and_then (read_subscripts (elements_in l.initial.s l.site.left) (drop l.k l.dims) (drop l.k (map (option_map (part_in l.initial.s l.site)) l.subs))) (λ more. Ok (l.made ++ more))
    ≡ read_subscripts (elements_in l.initial.s l.site.left) l.dims (map (option_map (part_in l.initial.s l.site)) l.subs))
    × IsKept l.s l.reader

abbrev pub invariant-dimensions::put_dims-loop-sub : goal.invariant-dimensions::put_dims-loop-sub
invariant-dimensions::put_dims-loop-sub l = record {
  grows : Grows l.initial.s l.s;
  is : (others : List (Scope × Option Expr)) →
      dims_more (table_in l.initial.s) (reading (table_in l.initial.s) l.of.left) (bound_in l.initial.s l.of) l.made (scoped (scope_in (frames_of l.initial.s) l.sizes.scope.frame.0 l.sizes.scope.iters) (drop l.sub-index l.sizes.subscripts.now) ++ others)
      ≡ dims_more (table_in l.initial.s) (reading (table_in l.initial.s) l.of.left) (bound_in l.initial.s l.of) l.initial.made (scoped (scope_in (frames_of l.initial.s) l.sizes.scope.frame.0 l.sizes.scope.iters) l.sizes.subscripts.now ++ others);
  kept : IsKept l.s l.reader;
}

abbrev pub invariant-dimensions::all_dims-loop-one : goal.invariant-dimensions::all_dims-loop-one
invariant-dimensions::all_dims-loop-one l = record {
  grows : Grows l.initial.s l.s;
  is : dims_more (table_in l.initial.s) (reading (table_in l.initial.s) l.of.left) (bound_in l.initial.s l.of) l.made (each_dim (sizes_seen (frames_of l.initial.s) (drop l.one-index l.sizes)))
      ≡ dims_more (table_in l.initial.s) (reading (table_in l.initial.s) l.of.left) (bound_in l.initial.s l.of) [] (each_dim (sizes_seen (frames_of l.initial.s) l.sizes));
  kept : IsKept l.s l.reader;
}

abbrev pub invariant-selections::selections-loop-i : goal.invariant-selections::selections-loop-i
invariant-selections::selections-loop-i l = record {
  grows : Grows l.initial.s l.s;
  member : IfSome l.member (IsMember l.s);
  is : (asking : Removal) → and_then (selections (table_in l.initial.s) (reading_in asking l.initial.s l.deeper) (elements_in l.initial.s l.site.left) (option_map_of_common (member_of (frames_of l.s)) l.member) (names_seen (part_in l.initial.s l.site) (frames_of l.initial.s) (drop l.i l.names))) (λ more. Ok (selections_seen l.made ++ more))
      ≡ selections (table_in l.initial.s) (reading_in asking l.initial.s l.deeper) (elements_in l.initial.s l.site.left) (Some (member_of (frames_of l.initial.s) l.first)) (names_seen (part_in l.initial.s l.site) (frames_of l.initial.s) l.names);
  kept : IsKept l.s l.reader;
}

abbrev pub invariant-below::below_each-loop-index : goal.invariant-below::below_each-loop-index
invariant-below::below_each-loop-index l = record {
  grows : Grows l.initial.s l.s;
  there : Every (λ element. IsMember l.s element.0) l.made;
  is : (asking : Removal) → elements_more (elements_seen (frames_of l.s) l.made) (each_below (table_in l.initial.s) (reading_in asking l.initial.s l.deeper) l.place (member_of (frames_of l.initial.s) l.member) (selections_seen l.chosen) (drop l.index-index l.indices))
      ≡ elements_more (elements_seen (frames_of l.initial.s) l.initial.made) (each_below (table_in l.initial.s) (reading_in asking l.initial.s l.deeper) l.place (member_of (frames_of l.initial.s) l.member) (selections_seen l.chosen) l.indices);
  kept : IsKept l.s l.reader;
}

abbrev pub decreases-components::value_in : goal.decreases-components::value_in
decreases-components::value_in l = (l.left + 1) * 18446744073709551616 * 10000 + 1

abbrev pub decreases-components::resolved_binding : goal.decreases-components::resolved_binding
decreases-components::resolved_binding l = (l.left + 1) * 18446744073709551616 * 10000 + 0

abbrev pub decreases-components::element_value : goal.decreases-components::element_value
decreases-components::element_value l = (l.left + 1) * 18446744073709551616 * 10000 + 2

abbrev pub decreases-variables::element_known : goal.decreases-variables::element_known
decreases-variables::element_known l = l.left * 18446744073709551616 * 10000 + 4

abbrev pub decreases-variables::variable_known : goal.decreases-variables::variable_known
decreases-variables::variable_known l = l.left * 18446744073709551616 * 10000 + 5

abbrev pub decreases-variables::known_with : goal.decreases-variables::known_with
decreases-variables::known_with l = l.left * 18446744073709551616 * 10000 + 6

abbrev pub decreases-variables::known_in : goal.decreases-variables::known_in
decreases-variables::known_in l = l.left * 18446744073709551616 * 10000 + 7

abbrev pub decreases-alone::end_of : goal.decreases-alone::end_of
decreases-alone::end_of l = l.left * 18446744073709551616 * 10000 + 8

abbrev pub decreases-alone::truth_of : goal.decreases-alone::truth_of
decreases-alone::truth_of l = l.left * 18446744073709551616 * 10000 + 8

abbrev pub decreases-alone::whole_of : goal.decreases-alone::whole_of
decreases-alone::whole_of l = l.left * 18446744073709551616 * 10000 + 9

abbrev pub decreases-components::bound_value : goal.decreases-components::bound_value
decreases-components::bound_value l = l.left * 18446744073709551616 * 10000 + 8

abbrev pub decreases-division::value_of : goal.decreases-division::value_of
decreases-division::value_of l = l.left * 18446744073709551616 * 10000 + 8

abbrev pub decreases-resolve::resolve : goal.decreases-resolve::resolve
decreases-resolve::resolve l = (l.site.now.left * 18446744073709551616 + l.site.now.room) * 10000 + 0

abbrev pub decreases-alone::alone : goal.decreases-alone::alone
decreases-alone::alone l = (l.site.now.left * 18446744073709551616 + l.site.now.room) * 10000 + 1

abbrev pub decreases-resolve::operand : goal.decreases-resolve::operand
decreases-resolve::operand l = (l.site.now.left * 18446744073709551616 + l.site.now.room) * 10000 + 1

abbrev pub decreases-calls::array : goal.decreases-calls::array
decreases-calls::array l = (l.site.now.left * 18446744073709551616 + l.site.now.room) * 10000 + 1

abbrev pub decreases-resolve::two : goal.decreases-resolve::two
decreases-resolve::two l = (l.site.now.left * 18446744073709551616 + l.site.now.room) * 10000 + 12

abbrev pub decreases-resolve::operands : goal.decreases-resolve::operands
decreases-resolve::operands l = (l.site.now.left * 18446744073709551616 + l.site.now.room) * 10000 + 12

abbrev pub decreases-resolve::terms : goal.decreases-resolve::terms
decreases-resolve::terms l = (l.site.now.left * 18446744073709551616 + l.site.now.room) * 10000 + 12

abbrev pub decreases-resolve::factors : goal.decreases-resolve::factors
decreases-resolve::factors l = (l.site.now.left * 18446744073709551616 + l.site.now.room) * 10000 + 12

abbrev pub decreases-alone::read_end : goal.decreases-alone::read_end
decreases-alone::read_end l = (l.site.now.left * 18446744073709551616 + l.site.now.room) * 10000 + 20

abbrev pub decreases-alone::read_size : goal.decreases-alone::read_size
decreases-alone::read_size l = (l.site.now.left * 18446744073709551616 + l.site.now.room) * 10000 + 20

abbrev pub decreases-alone::read_condition : goal.decreases-alone::read_condition
decreases-alone::read_condition l = (l.site.now.left * 18446744073709551616 + l.site.now.room) * 10000 + 20

abbrev pub decreases-choice::read_step : goal.decreases-choice::read_step
decreases-choice::read_step l = (l.site.now.left * 18446744073709551616 + l.site.now.room) * 10000 + 21

abbrev pub decreases-choice::range : goal.decreases-choice::range
decreases-choice::range l = (l.site.now.left * 18446744073709551616 + l.site.now.room) * 10000 + 22

abbrev pub decreases-choice::made_branch : goal.decreases-choice::made_branch
decreases-choice::made_branch l = (l.site.now.left * 18446744073709551616 + l.site.now.room) * 10000 + 21

abbrev pub decreases-choice::choice : goal.decreases-choice::choice
decreases-choice::choice l = (l.site.now.left * 18446744073709551616 + l.site.now.room) * 10000 + 22

abbrev pub decreases-calls::arguments : goal.decreases-calls::arguments
decreases-calls::arguments l = (l.site.now.left * 18446744073709551616 + l.site.now.room) * 10000 + 20

abbrev pub decreases-calls::sizes : goal.decreases-calls::sizes
decreases-calls::sizes l = (l.site.now.left * 18446744073709551616 + l.site.now.room) * 10000 + 21

abbrev pub decreases-calls::number : goal.decreases-calls::number
decreases-calls::number l = (l.site.now.left * 18446744073709551616 + l.site.now.room) * 10000 + 22

abbrev pub decreases-calls::size : goal.decreases-calls::size
decreases-calls::size l = (l.site.now.left * 18446744073709551616 + l.site.now.room) * 10000 + 23

abbrev pub decreases-calls::ndims : goal.decreases-calls::ndims
decreases-calls::ndims l = (l.site.now.left * 18446744073709551616 + l.site.now.room) * 10000 + 23

abbrev pub decreases-calls::fill : goal.decreases-calls::fill
decreases-calls::fill l = (l.site.now.left * 18446744073709551616 + l.site.now.room) * 10000 + 23

abbrev pub decreases-calls::sized : goal.decreases-calls::sized
decreases-calls::sized l = (l.site.now.left * 18446744073709551616 + l.site.now.room) * 10000 + 23

abbrev pub decreases-calls::derivative : goal.decreases-calls::derivative
decreases-calls::derivative l = (l.site.now.left * 18446744073709551616 + l.site.now.room) * 10000 + 23

abbrev pub decreases-calls::function : goal.decreases-calls::function
decreases-calls::function l = (l.site.now.left * 18446744073709551616 + l.site.now.room) * 10000 + 24

abbrev pub decreases-calls::call : goal.decreases-calls::call
decreases-calls::call l = (l.site.now.left * 18446744073709551616 + l.site.now.room) * 10000 + 25

abbrev pub decreases-division::in_flat : goal.decreases-division::in_flat
decreases-division::in_flat l = (l.site.now.left * 18446744073709551616 + l.site.now.room) * 10000 + 21

abbrev pub decreases-division::division : goal.decreases-division::division
decreases-division::division l = (l.site.now.left * 18446744073709551616 + l.site.now.room) * 10000 + 22

abbrev pub decreases-resolve::resolve_node : goal.decreases-resolve::resolve_node
decreases-resolve::resolve_node l = (l.site.now.left * 18446744073709551616 + l.site.now.room) * 10000 + 9000

abbrev pub decreases-components::condition_in : goal.decreases-components::condition_in
decreases-components::condition_in l = (l.left + 1) * 18446744073709551616 * 10000 + 0

abbrev pub decreases-components::is_there : goal.decreases-components::is_there
decreases-components::is_there l = (l.left + 1) * 18446744073709551616 * 10000 + 1

abbrev pub decreases-subscripts::numbers_of : goal.decreases-subscripts::numbers_of
decreases-subscripts::numbers_of l = l.left * 18446744073709551616 * 10000 + 8

abbrev pub decreases-subscripts::subscript_in : goal.decreases-subscripts::subscript_in
decreases-subscripts::subscript_in l = l.left * 18446744073709551616 * 10000 + 9

abbrev pub decreases-subscripts::read_subscript : goal.decreases-subscripts::read_subscript
decreases-subscripts::read_subscript l = (l.site.now.left * 18446744073709551616 + l.site.now.room) * 10000 + 20

abbrev pub decreases-subscripts::subscript_at : goal.decreases-subscripts::subscript_at
decreases-subscripts::subscript_at l = (l.site.now.left * 18446744073709551616 + l.site.now.room) * 10000 + 21

abbrev pub decreases-subscripts::subscript_of : goal.decreases-subscripts::subscript_of
decreases-subscripts::subscript_of l = (l.site.now.left * 18446744073709551616 + l.site.now.room) * 10000 + 22

abbrev pub decreases-subscripts::read_subscripts : goal.decreases-subscripts::read_subscripts
decreases-subscripts::read_subscripts l = (l.site.now.left * 18446744073709551616 + l.site.now.room) * 10000 + 23

abbrev pub decreases-dimensions::written_dim : goal.decreases-dimensions::written_dim
decreases-dimensions::written_dim l = (l.left + 1) * 18446744073709551616 * 10000 + 0

abbrev pub decreases-dimensions::dims_in : goal.decreases-dimensions::dims_in
decreases-dimensions::dims_in l = (l.left + 1) * 18446744073709551616 * 10000 + 0

abbrev pub decreases-dimensions::binding_dims : goal.decreases-dimensions::binding_dims
decreases-dimensions::binding_dims l = (l.of.now.left + 1) * 18446744073709551616 * 10000 + 1

abbrev pub decreases-dimensions::dim_at : goal.decreases-dimensions::dim_at
decreases-dimensions::dim_at l = (l.of.now.left + 1) * 18446744073709551616 * 10000 + 2

abbrev pub decreases-dimensions::put_dims : goal.decreases-dimensions::put_dims
decreases-dimensions::put_dims l = (l.of.now.left + 1) * 18446744073709551616 * 10000 + 3

abbrev pub decreases-dimensions::all_dims : goal.decreases-dimensions::all_dims
decreases-dimensions::all_dims l = (l.of.now.left + 1) * 18446744073709551616 * 10000 + 4

abbrev pub decreases-dimensions::dims : goal.decreases-dimensions::dims
decreases-dimensions::dims l = (l.left + 1) * 18446744073709551616 * 10000 + 5

abbrev pub decreases-selections::there : goal.decreases-selections::there
decreases-selections::there l = (l.deeper + 1) * 18446744073709551616 * 10000 + 10

abbrev pub decreases-selections::dims_there : goal.decreases-selections::dims_there
decreases-selections::dims_there l = (l.deeper + 1) * 18446744073709551616 * 10000 + 11

abbrev pub decreases-selections::dims_at : goal.decreases-selections::dims_at
decreases-selections::dims_at l = (l.deeper + 1) * 18446744073709551616 * 10000 + 12

abbrev pub decreases-below::agrees : goal.decreases-below::agrees
decreases-below::agrees l = (l.deeper + 1) * 18446744073709551616 * 10000 + 12

abbrev pub decreases-below::below : goal.decreases-below::below
decreases-below::below l = (l.deeper + 1) * 18446744073709551616 * 10000 + 2 * length l.chosen.now + 100

abbrev pub decreases-below::below_each : goal.decreases-below::below_each
decreases-below::below_each l = (l.deeper + 1) * 18446744073709551616 * 10000 + 2 * length l.chosen.now + 101

abbrev pub decreases-references::elements_selected : goal.decreases-references::elements_selected
decreases-references::elements_selected l = (l.deeper + 1) * 18446744073709551616 * 10000 + 2999

abbrev pub decreases-selections::selection_at : goal.decreases-selections::selection_at
decreases-selections::selection_at l = (l.site.now.left * 18446744073709551616 + l.site.now.room) * 10000 + 3000

abbrev pub decreases-selections::selections : goal.decreases-selections::selections
decreases-selections::selections l = (l.site.now.left * 18446744073709551616 + l.site.now.room) * 10000 + 3001

abbrev pub decreases-references::components : goal.decreases-references::components
decreases-references::components l = (l.site.now.left * 18446744073709551616 + l.site.now.room) * 10000 + 3100

abbrev pub decreases-references::name : goal.decreases-references::name
decreases-references::name l = (l.site.now.left * 18446744073709551616 + l.site.now.room) * 10000 + 3101
