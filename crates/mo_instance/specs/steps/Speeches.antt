-- What is read of the arguments of sources, each by its first name.
use Rattle.std.specs.Prelude.{ℕ, Bool, true, false, ◌||◌, List, [], ◌∷◌, map, flat_map}
use Rattle.mo_syntax.specs.declared.place.Place.{Place}
use Rattle.mo_scope.specs.Rows.{Table, Declares}
use Rattle.mo_scope.specs.Frames.{Origin, Source}
use Rattle.mo_syntax.specs.declared.class.ArgumentOf.{ArgumentOf}
use Rattle.mo_syntax.specs.declared.class.Give.{Give}
use Rattle.mo_scope.specs.Arguments.{Claim, claim, claims_of}
use Rattle.mo_scope.specs.Worlds.{SourceEntry}
use Rattle.mo_scope.specs.Sights.{origin_seen}
use Rattle.mo_scope.specs.Spoken.{Spoken, spoken_of}
use Rattle.mo_mods.specs.PathSights.{claim_seen}
use Rattle.mo_instance.specs.declared.spoken.Spoken.{Spoken as SpokenAt}

-- an argument without its source and without what it redeclares
pub record Speech : Type 0 where
  pub outside : Bool
  pub origin : Origin
  pub name : List ℕ
  pub place : Place
  pub claims : List Claim
  pub replacing : Bool

abbrev pub speech_of : Spoken → Speech
speech_of spoken = record {
  outside = spoken.source.piece.outside;
  origin = spoken.source.piece.origin;
  name = spoken.name;
  place = spoken.place;
  claims = spoken.claims;
  replacing = spoken.replacing;
}

abbrev pub speeches_of : Table → Source → List Speech
speeches_of table source = map speech_of (spoken_of table source)

abbrev pub speeches_in : Table → List Source → List Speech
speeches_in table sources = flat_map (speeches_of table) sources

abbrev pub speech_seen : SpokenAt → Speech
speech_seen spoken = record {
  outside = spoken.outside;
  origin = origin_seen spoken.origin;
  name = spoken.name.now;
  place = spoken.place;
  claims = map claim_seen spoken.claims;
  replacing = spoken.replacing;
}

-- an argument by the names that are left of it, and the first of them
abbrev pub spoken_with : SourceEntry → ArgumentOf Give → List ℕ → List (List ℕ) → Bool → Speech
spoken_with source argument name names last = record {
  outside = source.piece.outside;
  origin = source.piece.origin;
  name = name;
  place = argument.place;
  claims = claims_of argument.give names argument.place last;
  replacing = false;
}

-- an element with `redeclare` of a class
abbrev pub element_with : SourceEntry → Declares → Speech
element_with source declares = record {
  outside = source.piece.outside;
  origin = source.piece.origin;
  name = declares.name;
  place = declares.place;
  claims = claim (declares.name ∷ []) declares.place (source.piece.last || declares.flags.last) ∷ [];
  replacing = true;
}
