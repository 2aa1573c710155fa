-- What the arguments of the code and the paths of its lists are as data.
use Rattle.std.specs.Prelude.{◌≡◌, ℕ, Bool, List, [], map, Option, Some, None}
use Rattle.std.specs.HashMap.{get_by}
use Rattle.std.specs.List.{list_any}
use Rattle.std.specs.Str.{bytes_eq}
use Rattle.mo_scope.specs.Arguments.{Asked, Claim}
use Rattle.mo_scope.specs.Frames.{Listing}
use Rattle.mo_scope.specs.Held.{path_key}
use Rattle.mo_scope.specs.Sights.{listing_seen}
use Rattle.mo_mods.specs.declared.asked.Asked.{Asked as AskedAt}
use Rattle.mo_mods.specs.declared.asked.Claim.{Claim as ClaimAt}
use Rattle.mo_mods.specs.declared.paths.ByPath.{ByPath}
use Rattle.mo_mods.specs.declared.paths.Having.{Having}
use Rattle.mo_mods.specs.Passes.{Listed_path, is_path_of}

abbrev pub claim_seen : ClaimAt → Claim
claim_seen claim = record { path = map (λ name. name.now) claim.path; place = claim.place; last = claim.last }

abbrev pub asked_seen : AskedAt → Asked
asked_seen asked = record {
  listing = listing_seen asked.listing.now;
  place = asked.place;
  each = asked.each;
  claims = map claim_seen asked.claims;
}

abbrev pub having_seen : Having → Listing
having_seen having = listing_seen having.listing.now

abbrev pub lists_or_none : Option (List Having) → List Listing
lists_or_none None = []
lists_or_none (Some lists) = map having_seen lists

-- the lists under a key
abbrev pub lists_held : ByPath → List ℕ → List Listing
lists_held lists key = lists_or_none (get_by (λ k. bytes_eq key k.items) lists.lists)

-- under the key of each path there are the lists that have it
abbrev pub HasPaths : ByPath → List Listed_path → Type 0
HasPaths lists paths =
    (path : List (List ℕ)) (test : Listing → Bool) → list_any test (lists_held lists (path_key path)) ≡ is_path_of test path paths
