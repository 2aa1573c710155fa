-- What the components of an end select, as the code holds it: words of the contracts inside this crate alone.
use Rattle.std.specs.Prelude.{List, [], ◌∷◌, Some, Ok}
use Rattle.mo_syntax.specs.Outcome.{Outcome, and_then}
use Rattle.mo_syntax.specs.declared.expr.PartOf.{PartOf}
use Rattle.mo_syntax.specs.declared.place.Place.{Place}
use Rattle.mo_scope.specs.Frames.{Frame, Member}
use Rattle.mo_scope.specs.Places.{Every}
use Rattle.mo_scope.specs.Rows.{Table}
use Rattle.mo_scope.specs.Worlds.{World}
use Rattle.mo_names.specs.Sights.{IsMember}
use Rattle.mo_eval.specs.declared.ends.Ended.TheVariants.{Selected as selected_at}
use Rattle.mo_eval.specs.declared.ends.Selected.{Selected as SelectedAt}
use Rattle.mo_eval.specs.Contexts.{Part}
use Rattle.mo_eval.specs.Ends.{Ended, Selected, ended_by, ended_seen, selected_from}

abbrev pub selected_seen : List Frame → SelectedAt → Ended
selected_seen frames selected = ended_seen frames (selected_at selected)

-- the components of the elements exist
abbrev pub AreSelected : World → SelectedAt → Type 0
AreSelected world selected = Every (λ element. IsMember world element.0) selected.elements

abbrev pub selection_of : Table → Place → List (Member × PartOf Part) → Outcome Selected
selection_of table place [] = Ok (record { chosen = []; elements = [] })
selection_of table place (first ∷ others) = selected_from table place first others

-- what components select, where there are some
abbrev pub selected_by : Table → Place → List (Member × PartOf Part) → Outcome Ended
selected_by table place names = and_then (selection_of table place names) (λ selected. Ok (ended_by (Some selected)))
