-- The classes that were put are those behind.
use Rattle.std.proofs.Common.{◌≡◌, drop, map}
use Rattle.mo_syntax.specs.declared.place.Place.{Place}
use Rattle.mo_scope.specs.Held.{number_held}
use Rattle.mo_scope.specs.steps.Listed.{class_seen}
use Rattle.mo_scope.specs.Rows.{number_among}
use Rattle.mo_scope.proofs.places.places_of.Given as goal

abbrev pub invariant-loop-at : goal.invariant-loop-at
invariant-loop-at l = (place : Place) → number_held l.places place ≡ number_among (map class_seen (drop l.at l.classes)) place
