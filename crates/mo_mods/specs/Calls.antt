-- What the calls of this crate answer. Tables hold numbers of frames: a clause says what they are whatever frames these stand for.
use Rattle.std.specs.Prelude.{◌≡◌, ◌++◌, ℕ, Bool, List, [], ◌∷◌, map, Option, option_map, not, if◌then◌else◌}
use Rattle.std.specs.List.{list_any}
use Rattle.std.specs.Str.{bytes_eq}
use Rattle.mo_syntax.specs.Outcome.{Outcome}
use Rattle.mo_syntax.specs.declared.class.ArgumentOf.{ArgumentOf}
use Rattle.mo_syntax.specs.declared.class.Give.{Give}
use Rattle.mo_scope.specs.declared.source.Picked.{Picked as PickedAt}
use Rattle.mo_scope.specs.declared.source.Source.{Source as SourceAt}
use Rattle.mo_scope.specs.Arguments.{claims_of, second_pass}
use Rattle.mo_scope.specs.Frames.{Frame, Listing, listing_eq, sources_of}
use Rattle.mo_scope.specs.Rows.{Table}
use Rattle.mo_scope.specs.Sights.{picked_in, source_seen}
use Rattle.mo_scope.specs.Worlds.{World, AreFrames, IsFrame, frame_at, frames_of, sources_in, table_in}
use Rattle.mo_mods.specs.declared.asked.Claim.{Claim as ClaimAt}
use Rattle.mo_mods.specs.declared.env.MergedEnv.{MergedEnv}
use Rattle.mo_mods.specs.declared.paths.ByPath.{ByPath}
use Rattle.mo_mods.specs.Merged.{StandsFor, StepsIn, binding, table_for, tables_below}
use Rattle.mo_mods.specs.PathSights.{claim_seen, lists_held}
use Rattle.mo_mods.specs.Scopes.{ScopesExist}
use Rattle.mo_mods.specs.Sights.{merged_in, merged_or}
use Rattle.mo_mods.specs.Steps.{stepped_in}

-- ---- arguments

-- the paths that an argument with these names gives something for
abbrev pub AreClaims : ArgumentOf Give → (names : List (List ℕ)) → (last : Bool) → List ClaimAt → Type 0
AreClaims argument names last made = map claim_seen made ≡ claims_of argument.give names argument.place last

-- what was held is held, and behind it this list under that key
abbrev pub HoldsListAlso : (old new : ByPath) → (key : List ℕ) → Listing → Type 0
HoldsListAlso old new key listing =
    (other : List ℕ) → lists_held new other ≡ lists_held old other ++ (if bytes_eq key other then listing ∷ [] else [])

abbrev pub has_list : Listing → List Listing → Bool
has_list listing lists = list_any (λ other. listing_eq other listing) lists

abbrev pub has_other_list : Listing → List Listing → Bool
has_other_list listing lists = list_any (λ other. not (listing_eq other listing)) lists

-- that what the sources of a frame give breaks no rule
abbrev pub second_pass_at : World → ℕ → Outcome (Unit {0})
second_pass_at world frame = second_pass (table_in world) (sources_of (frame_at world frame))

-- ---- merged tables

-- the table stands for these sources
abbrev pub StandsForSources : Table → List SourceAt → MergedEnv → Type 0
StandsForSources table sources made = (frames : List Frame) → StandsFor table (merged_in frames made) (sources_in frames (map source_seen sources))

-- its scopes exist where those of these sources do
abbrev pub ScopesExistBy : List SourceAt → MergedEnv → Type 0
ScopesExistBy sources made = (world : World) → AreFrames world (map source_seen sources) → ScopesExist world made

-- the table stands for the sources of that frame
abbrev pub StandsForFrame : World → ℕ → MergedEnv → Type 0
StandsForFrame world frame made = StandsFor (table_in world) (merged_in (frames_of world) made) (sources_of (frame_at world frame))

-- the table below another one for that name
abbrev pub IsTableFor : MergedEnv → List ℕ → Option MergedEnv → Type 0
IsTableFor env name found = (frames : List Frame) → merged_or frames found ≡ table_for name (tables_below (merged_in frames env))

-- the table for the element of that name, entered at an index
abbrev pub IsSteppedIn : MergedEnv → (name index : List ℕ) → MergedEnv → Type 0
IsSteppedIn env name index made = (frames : List Frame) → merged_in frames made ≡ stepped_in (merged_in frames env) name index

-- the same by what the tables say of each path
abbrev pub StandsSteppedIn : MergedEnv → (name index : List ℕ) → MergedEnv → Type 0
StandsSteppedIn env name index made = (frames : List Frame) → (table : Table) → StepsIn table (merged_in frames env) name index (merged_in frames made)

-- ---- values

-- the value that a table has for a path
abbrev pub IsBoundTo : MergedEnv → List (List ℕ) → Option PickedAt → Type 0
IsBoundTo env path found = (frames : List Frame) → option_map (picked_in frames) found ≡ binding (merged_in frames env) path

-- the frame exists in which a value is looked up
abbrev pub ScopeExists : World → PickedAt → Type 0
ScopeExists world picked = IsFrame world picked.scope.now.frame.0
