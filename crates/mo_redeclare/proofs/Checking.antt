-- The redeclarations of a frame, one after another.
use Rattle.std.proofs.Common.{◌≡◌, ℕ, Bool, List, [], ◌∷◌, ◌++◌, map, Option, Some, None, Ok, Err, refl, ap, ◌∙◌}
use Rattle.std.specs.Prelude.{is_some, option_map}
use Rattle.mo_syntax.specs.Outcome.{and_then}
use Rattle.mo_syntax.specs.declared.meaning.FrameId.{FrameId}
use Rattle.mo_scope.specs.Frames.{Frame, Member, sources_of}
use Rattle.mo_scope.specs.Lookup.{Walked, members_in, named}
use Rattle.mo_scope.specs.Parts.{Redeclaration}
use Rattle.mo_scope.specs.Redeclarations.{Checked, each_checked, redeclarations_checked, spoken_checked}
use Rattle.mo_scope.specs.Rows.{Table}
use Rattle.mo_scope.specs.Spoken.{Spoken, spoken_in}
use Rattle.mo_scope.specs.Worlds.{MemberEntry, World, frame_at, frame_in, frames_of, member_in, table_in}
use Rattle.mo_names.specs.declared.walk.Walk.{Walk}
use Rattle.mo_names.specs.Sights.{walk_seen}
use Rattle.mo_redeclare.specs.declared.spoken.Named.{Named}
use Rattle.mo_redeclare.specs.steps.Sights.{entry_of, named_seen}
use Rattle.mo_redeclare.proofs.Tables.{members_are}
use Rattle.mo_redeclare.specs.steps.Comparing.{found_checked, redeclares_in, redeclares_of}

each_append : {A : Type 0} (check : A → Checked) (xs ys : List A) → each_checked check (xs ++ ys) ≡ and_then (each_checked check xs) (λ _. each_checked check ys)
each_append check [] ys = refl
each_append check (x ∷ xs) ys = by (check x) (each_append check xs ys)
  where
    by : (o : Checked) → each_checked check (xs ++ ys) ≡ and_then (each_checked check xs) (λ _. each_checked check ys) →
        and_then o (λ _. each_checked check (xs ++ ys)) ≡ and_then (and_then o (λ _. each_checked check xs)) (λ _. each_checked check ys)
    by (Ok u) is = is
    by (Err b) is = refl

each_map : {A B : Type 0} (check : B → Checked) (f : A → B) (xs : List A) → each_checked check (map f xs) ≡ each_checked (λ x. check (f x)) xs
each_map check f [] = refl
each_map check f (x ∷ xs) = ap (λ (rest : Checked). and_then (check (f x)) (λ _. rest)) (each_map check f xs)

module _ (table : Table) (walked : Walked) where
  abbrev check : List ℕ × Redeclaration → Checked
  check = found_checked table (members_in walked) (is_some walked.leaf)

  all_spoken : (spoken : List Spoken) → each_checked check (redeclares_in spoken) ≡ each_checked (spoken_checked table walked) spoken
  all_spoken [] = refl
  all_spoken (one ∷ others) =
      each_append check (redeclares_of one) (redeclares_in others)
      ∙ ap (λ (here : Checked). and_then here (λ _. each_checked check (redeclares_in others))) (each_map check (λ redeclaration. (one.name, redeclaration)) one.redeclares)
      ∙ ap (λ (rest : Checked). and_then (spoken_checked table walked one) (λ _. rest)) (all_spoken others)

  pub all_checked : (frame : Frame) → each_checked check (redeclares_in (spoken_in table (sources_of frame))) ≡ redeclarations_checked table walked frame
  all_checked frame = all_spoken (spoken_in table (sources_of frame))

is_some_map : {A B : Type 0} (f : A → B) (o : Option A) → is_some o ≡ is_some (option_map f o)
is_some_map f None = refl
is_some_map f (Some a) = refl

pub walk_is : (world : World) (walk : Walk) (frame : ℕ) (members : List MemberEntry) (leaf : Bool) (redeclared : List Named) →
    members ≡ map entry_of walk.members → leaf ≡ is_some walk.leaf →
    map (named_seen (frames_of world)) redeclared ≡ redeclares_in (spoken_in (table_in world) (sources_of (frame_at world frame))) →
    each_checked (found_checked (table_in world) (map (member_in (frames_of world)) members) leaf) (map (named_seen (frames_of world)) redeclared)
    ≡ redeclarations_checked (table_in world) (walk_seen (frames_of world) walk) (frame_at world frame)
walk_is world walk frame members leaf redeclared are is named =
    ap (λ (ms : List MemberEntry). each_checked (found_checked (table_in world) (map (member_in (frames_of world)) ms) leaf) (map (named_seen (frames_of world)) redeclared)) are
    ∙ ap (λ (ms : List Member). each_checked (found_checked (table_in world) ms leaf) (map (named_seen (frames_of world)) redeclared)) (members_are (frames_of world) walk.members)
    ∙ ap (λ (l : Bool). each_checked (found_checked (table_in world) (members_in (walk_seen (frames_of world) walk)) l) (map (named_seen (frames_of world)) redeclared))
    (is ∙ is_some_map (λ (frame : FrameId). frame_in (frames_of world) frame.0) walk.leaf)
    ∙ ap (each_checked (found_checked (table_in world) (members_in (walk_seen (frames_of world) walk)) (is_some (walk_seen (frames_of world) walk).leaf))) named
    ∙ all_checked (table_in world) (walk_seen (frames_of world) walk) (frame_at world frame)
