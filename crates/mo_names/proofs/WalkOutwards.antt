-- The walk outwards, and what stands behind a class, told of later worlds.
use Rattle.std.proofs.Common.{◌≡◌, ℕ, Bool, false, List, Some, ap, ◌∙◌}
use Rattle.mo_syntax.specs.declared.place.Place.{Place}
use Rattle.mo_scope.specs.Frames.{class_of}
use Rattle.mo_scope.specs.Lookup.{behind_class, found_from, found_in}
use Rattle.mo_scope.specs.Rows.{row_at}
use Rattle.mo_scope.specs.Worlds.{World, Grows, IsFrame, frame_at, table_in}
use Rattle.mo_names.specs.declared.found.Ask.{Ask}
use Rattle.mo_names.specs.steps.Parts.{imports_of}
use Rattle.mo_names.specs.Past.{past}
use Rattle.mo_names.specs.Sights.{asks}
use Rattle.mo_names.specs.steps.Lookup.{imports_met}
use Rattle.mo_names.proofs.Later.{frame_later, table_later}

pub past_told : (u v w : World) (place : Place) (n : ℕ) (name : List ℕ) → Grows u v → Grows v w → IsFrame v n →
    past (table_in w) place (frame_at w n) name ≡ past (table_in u) place (frame_at v n) name
past_told u v w place n name before after at =
    ap (λ t. past t place (frame_at w n) name) (table_later v w after ∙ table_later u v before)
    ∙ ap (λ f. past (table_in u) place f name) (frame_later v w n after at)

pub here_told : (u v : World) (ask : Ask) (bare near : Bool) (n : ℕ) (name : List ℕ) → Grows u v →
    found_in (table_in v) (asks (table_in v) ask) bare near (frame_at v n) ask.place name ≡ found_in (table_in u) (asks (table_in u) ask) bare near (frame_at v n) ask.place name
here_told u v ask bare near n name g = ap (λ t. found_in t (asks t ask) bare near (frame_at v n) ask.place name) (table_later u v g)

pub imports_told : (u v : World) (ask : Ask) (n : ℕ) (name : List ℕ) → Grows u v → IsFrame u n →
    imports_met (table_in v) (asks (table_in v) ask) ask.place name (imports_of (row_at (table_in v) (class_of (frame_at v n))))
    ≡ imports_met (table_in u) (asks (table_in u) ask) ask.place name (imports_of (row_at (table_in u) (class_of (frame_at u n))))
imports_told u v ask n name g at =
    ap (λ t. imports_met t (asks t ask) ask.place name (imports_of (row_at t (class_of (frame_at v n))))) (table_later u v g)
    ∙ ap (λ f. imports_met (table_in u) (asks (table_in u) ask) ask.place name (imports_of (row_at (table_in u) (class_of f)))) (frame_later u v n g at)

pub around_told : (u v : World) (ask : Ask) (n : ℕ) (name : List ℕ) → Grows u v → IsFrame u n →
    found_from (table_in v) (asks (table_in v) ask) false false (frame_at v n) ask.place name ≡ found_from (table_in u) (asks (table_in u) ask) false false (frame_at u n) ask.place name
around_told u v ask n name g at =
    ap (λ t. found_from t (asks t ask) false false (frame_at v n) ask.place name) (table_later u v g) ∙ ap (λ f. found_from (table_in u) (asks (table_in u) ask) false false f ask.place name) (frame_later u v n g at)

pub behind_told : (u v : World) (ask : Ask) (n : ℕ) (name : List ℕ) → Grows u v → IsFrame u n →
    behind_class (table_in v) (asks (table_in v) ask) ask.place ask.place (Some ask.place) (frame_at v n) name ≡ behind_class (table_in u) (asks (table_in u) ask) ask.place ask.place (Some ask.place) (frame_at u n) name
behind_told u v ask n name g at =
    ap (λ t. behind_class t (asks t ask) ask.place ask.place (Some ask.place) (frame_at v n) name) (table_later u v g)
    ∙ ap (λ f. behind_class (table_in u) (asks (table_in u) ask) ask.place ask.place (Some ask.place) f name) (frame_later u v n g at)
