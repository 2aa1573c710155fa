-- The classes that were put are those behind.
use Rattle.std.proofs.Common.{◌≡◌, ℕ, List, drop, find, map}
use Rattle.std.specs.Prelude.{option_map}
use Rattle.std.specs.Str.{bytes_eq}
use Rattle.mo_scope.specs.Held.{top_held}
use Rattle.mo_scope.specs.Rows.{top_classes}
use Rattle.mo_scope.specs.Sights.{row_seen}
use Rattle.mo_scope.proofs.tops.tops_of.Given as goal

abbrev pub invariant-loop-at : goal.invariant-loop-at
invariant-loop-at l = (name : List ℕ) → top_held l.tops name ≡ option_map (λ row. row.number) (find (λ row. bytes_eq row.class.name name) (top_classes (map row_seen (drop l.at l.rows))))
