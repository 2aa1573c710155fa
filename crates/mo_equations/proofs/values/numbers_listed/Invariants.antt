-- What was made, and what comes of the numbers that are left, is what comes of all.
use Rattle.std.proofs.Common.{◌≡◌, ◌∷◌, []}
use Rattle.mo_scope.specs.Worlds.{frames_of, table_in}
use Rattle.mo_syntax.specs.Outcome.{and_then}
use Rattle.mo_typing.specs.Indices.{numbers_to}
use Rattle.mo_values.specs.Asked.{must_be_whole}
use Rattle.mo_eval.specs.References.{numbers_of}
use Rattle.mo_eval.specs.Seen.{AreThere, resolved_seen}
use Rattle.mo_eval.specs.Values.{known_of, most_references}
use Rattle.mo_equations.specs.steps.Desks.{Stays}
use Rattle.mo_equations.proofs.Eaching.{Left}
use Rattle.mo_equations.proofs.values.numbers_listed.Given as goal

abbrev pub invariant-loop-k : goal.invariant-loop-k
invariant-loop-k l =
    Stays l.initial.s l.s l.initial.desk l.desk
    × AreThere l.s l.bound.resolved.virtuals
    × (Left (λ n. and_then (known_of (table_in l.initial.s) most_references (resolved_seen (frames_of l.initial.s) l.bound.resolved) (n ∷ [])) (must_be_whole l.place)) (numbers_to l.size) l.k l.made
    ≡ numbers_of (known_of (table_in l.initial.s) most_references (resolved_seen (frames_of l.initial.s) l.bound.resolved)) l.place l.size)
