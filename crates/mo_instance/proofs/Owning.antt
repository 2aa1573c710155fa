-- The paths of the own modifiers of a declaration.
use Rattle.std.proofs.Common.{◌≡◌, true, false, [], flat_map, refl, sym}
use Rattle.std.proofs.lemmas.List.Folds.{flat_map-map}
use Rattle.mo_syntax.specs.declared.place.Place.{Place}
use Rattle.mo_scope.specs.Frames.{Source}
use Rattle.mo_scope.specs.Rows.{Table}
use Rattle.mo_scope.specs.Spoken.{spoken_of}
use Rattle.mo_instance.specs.Passes.{is_own_of, source_claims}
use Rattle.mo_instance.specs.steps.Speeches.{Speech, speech_of, speeches_of}

module _ (table : Table) (place : Place) (source : Source) where
  pub own_source : is_own_of place source.piece.origin ≡ true → source_claims table place source ≡ flat_map (λ (one : Speech). one.claims) (speeches_of table source)
  own_source is = rw is (sym (flat_map-map (λ (one : Speech). one.claims) speech_of (spoken_of table source)))

  pub other_source : is_own_of place source.piece.origin ≡ false → source_claims table place source ≡ []
  other_source is = rw is refl
