-- By the prefixes.
use Rattle.std.proofs.Common.{◌||◌, true, false, is_some, take, ap, sym, ◌∙◌, arith}
use Rattle.mo_equations.specs.steps.Tables.{paths_seen, place_among}
use Rattle.mo_equations.proofs.Around.{any_found, any_next, any_of_all, around_by_prefixes}
use Rattle.mo_equations.proofs.leaves.is_around.Goals as goal

pub returns-then-is_some : goal.returns-then-is_some
returns-then-is_some c =
    sym (around_by_prefixes (paths_seen c.args.table.now) c.args.path.now
    ∙ any_found (λ around. is_some (place_among (paths_seen c.args.table.now) around)) c.args.path.now c.loop-k.k (omega (arith, c.loop-k-test.true)) (ap is_some (sym c.in_ok-place.ensures) ∙ sym c.is_some.ensures ∙ c.if-is_some.true))

pub loop-k-preserved : goal.loop-k-preserved
loop-k-preserved c =
    any_next (λ around. is_some (place_among (paths_seen c.args.table.now) around)) c.args.path.now c.loop-k.k (omega (arith, c.loop-k-test.true))
    ∙ ap (λ b. b || is_some (place_among (paths_seen c.args.table.now) (take c.loop-k.k c.args.path.now))) c.loop-k.invariant
    ∙ (ap is_some (sym c.in_ok-place.ensures) ∙ sym c.is_some.ensures ∙ c.if-is_some.false)

pub returns : goal.returns
returns c =
    sym (around_by_prefixes (paths_seen c.args.table.now) c.args.path.now
    ∙ sym (any_of_all (λ around. is_some (place_among (paths_seen c.args.table.now) around)) c.args.path.now c.loop-k.k c.loop-k-test.false) ∙ c.loop-k.invariant)
