-- The class among the rows that are left is that among all.
use Rattle.std.proofs.Common.{◌≡◌, drop}
use Rattle.std.specs.Prelude.{find, option_map}
use Rattle.mo_scope.specs.Worlds.{table_in}
use Rattle.mo_instance.specs.Instances.{is_placed}
use Rattle.mo_instance.specs.steps.Roots.{names_seen}
use Rattle.mo_instance.proofs.root.placed_class.Given as goal

abbrev pub invariant-loop-at : goal.invariant-loop-at
invariant-loop-at l = option_map (λ row. row.number) (find (is_placed (names_seen l.before) l.name) (drop l.at (table_in l.s)))
    ≡ option_map (λ row. row.number) (find (is_placed (names_seen l.before) l.name) (table_in l.s))
