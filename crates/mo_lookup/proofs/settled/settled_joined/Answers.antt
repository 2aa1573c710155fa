-- The base has the elements that are known.
use Rattle.std.proofs.Common.{ap, ◌∙◌}
use Rattle.std.specs.Prelude.{◌||◌}
use Rattle.mo_scope.specs.Lookup.{contains}
use Rattle.mo_lookup.proofs.Settling.{base_is_joined}
use Rattle.mo_lookup.proofs.settled.settled_joined.Goals as goal

pub returns-clause-joined : goal.returns-clause-joined
returns-clause-joined c =
    base_is_joined c.args.s.now c.args.hidden c.args.base.0 c.args.one.now c.args.so_far.now
    (record { walk = c.with_elements.new.so_far; item = c.args.so_far.now.item; classes = c.add_classes.new.classes; deep = c.greater-so_far.result; alike = c.are_both-so_far.result })
    c.in_ok-elements.elements c.requires.same c.requires.one c.in_ok-elements.ensures c.in_ok-with_elements.ensures.value
    (λ n. c.in_ok-add_classes.ensures n ∙ ap (λ classes. contains c.args.so_far.now.classes n || contains classes n) c.as_slice.ensures)
    c.greater-so_far.ensures.second c.are_both-so_far.ensures.second
