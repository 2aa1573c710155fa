-- A rule that a frame breaks where it is instantiated is broken at the place where its class is named, or where the frame and the class table
-- stand.
use Rattle.std.proofs.Common.{ℕ, Bool, true, false, ◌&&◌, List, [], ◌∷◌, ◌++◌, map, filter, length, Option, Some, None, nat_lt, if◌then◌else◌}
use Rattle.std.specs.List.{list_any}
use Rattle.mo_syntax.specs.Outcome.{breach}
use Rattle.mo_syntax.specs.declared.class.Element.{Element}
use Rattle.mo_syntax.specs.declared.place.Broken.{Broken}
use Rattle.mo_syntax.specs.declared.place.Place.{Place}
use Rattle.mo_syntax.specs.ClassTable.{path_eq}
use Rattle.mo_scope.specs.Rows.{Table, Row, row_at, Declares, Clause, clauses_in, elements_in, is_class}
use Rattle.mo_scope.specs.Frames.{Frame, Member, Origin, Own_of, Constraint_of, Elsewhere, Source, class_of, sources_of}
use Rattle.mo_scope.specs.Parts.{declared_in}
use Rattle.mo_scope.specs.Arguments.{Claim, second_pass}
use Rattle.mo_scope.specs.Lookup.{Walked, final_frame, members_in, named}
use Rattle.mo_scope.specs.Names.{clauses_of, walk_of}
use Rattle.mo_scope.specs.Sizes.{first_base}
use Rattle.mo_scope.specs.Redeclarations.{Checked, each_checked, redeclarations_checked}
use Rattle.mo_scope.specs.Spoken.{Spoken, spoken_in}
use Rattle.mo_instance.specs.Passes.{breach_if, broken_against, broken_constraint, broken_found, broken_member, broken_name, broken_spoken, first_of_all, first_pass, inherits, is_known, own_claims}
use Rattle.mo_instance.specs.Checks.{added_to, base_passed, before_last, earlier_of, first_in_text, frame_checked, frame_passed, in_profile, is_function, is_inner_or_outer, is_partial_short, partial_base, profile_of, replaces_by, replaces_inherited, type_checked, unless_any, unless_bases, whole_class, whole_row, wrongly_inner}
use Rattle.mo_places.specs.Written.{Written, At}
use Rattle.mo_places.specs.Stands.{Anything, Every, IfAny, Answers, DeclaresStand, ElementStands, FrameStands, RowStands, SourceStands, TableStands, WalkedStands}
use Rattle.mo_places.proofs.laws.Standing.{every_append, every_drop, every_filter, every_flat_map, every_map, every_weaker, if_answers, if_list, then_answers}
use Rattle.mo_places.proofs.laws.Sources.{declared_stand, row_stands, sources_stand}
use Rattle.mo_places.proofs.laws.Finding.{elements_stand}
use Rattle.mo_places.proofs.laws.Naming.{final_stands, walk_of_stands}
use Rattle.mo_places.proofs.laws.Passing.{BrokenStands, ClaimStands, least_stands, or_later_stands, second_pass_answers, unless_answers}
use Rattle.mo_places.proofs.laws.Speaking.{SpokenStands, spoken_in_stands}
use Rattle.mo_places.proofs.laws.Redeclaring.{each_checked_answers, redeclarations_answer}
use Rattle.mo_places.proofs.laws.values.TypeSizes.{clauses_of_stand, first_base_answers}
use Rattle.mo_syntax.specs.declared.rules.TheConstants.{PROTECTED_ELEMENT, FINAL_MODIFIED, MODIFIED_ELEMENT_NOT_FOUND, MODIFIED_TWICE}

module _ (P : Written → Type 0) (table : Table) (stands : TableStands P table) where
  abbrev Fine : Checked → Type 0
  Fine checked = Answers P (Anything {A = Unit {0}}) checked

  -- ---- partial classes

  whole_row_answers : (place : Place) (row : Option Row) → P (At place) → Fine (whole_row place row)
  whole_row_answers place None hp = record { holds = tt }
  whole_row_answers place (Some row) hp = if_answers P (Anything {A = Unit {0}}) row.class.flags.partial _ _ (record { holds = hp }) (record { holds = tt })

  -- ---- what is left out

  either_stands : (b : Bool) (x y : Declares) → DeclaresStand P x → DeclaresStand P y → IfAny (DeclaresStand P) (if b then Some x else Some y)
  either_stands true x y hx hy = hx
  either_stands false x y hx hy = hy

  earlier_stands : (declares : Declares) (other : Option Declares) → DeclaresStand P declares → IfAny (DeclaresStand P) other → IfAny (DeclaresStand P) (earlier_of declares other)
  earlier_stands declares None h ho = h
  earlier_stands declares (Some other) h ho = either_stands (nat_lt other.place.byte declares.place.byte) other declares ho h

  first_in_text_stands : (all : List Declares) → Every (DeclaresStand P) all → IfAny (DeclaresStand P) (first_in_text all)
  first_in_text_stands [] h = tt
  first_in_text_stands (declares ∷ others) h = earlier_stands declares (first_in_text others) h.0 (first_in_text_stands others h.1)

  wrongly_inner_stand : (row : Row) → RowStands P row → Every (DeclaresStand P) (wrongly_inner table row)
  wrongly_inner_stand row h =
      every_filter (DeclaresStand P) is_inner_or_outer (filter is_class (elements_in row.parts) ++ map (declared_in table) row.replacing)
      (every_append (DeclaresStand P) (filter is_class (elements_in row.parts)) (map (declared_in table) row.replacing)
      (every_filter (DeclaresStand P) is_class (elements_in row.parts) (elements_stand P table stands row.parts h.parts))
      (every_map (DeclaresStand P) (declared_in table) row.replacing (declared_stand P table stands row.replacing h.replacing)))

  unless_any_answers : (declares : Option Declares) → IfAny (DeclaresStand P) declares → Fine (unless_any declares)
  unless_any_answers None h = record { holds = tt }
  unless_any_answers (Some declares) h = record { holds = h.place }

  profile_answers : (row : Option Row) → IfAny (RowStands P) row → Fine (profile_of table row)
  profile_answers None h = record { holds = tt }
  profile_answers (Some row) h =
      if_answers P (Anything {A = Unit {0}}) (is_function row.class.kind) _ _ (record { holds = h.place })
      (unless_any_answers (first_in_text (wrongly_inner table row)) (first_in_text_stands (wrongly_inner table row) (wrongly_inner_stand row h)))

  in_profile_answers : (frame : Frame) → Fine (in_profile table frame)
  in_profile_answers frame = profile_answers (row_at table (class_of frame)) (row_stands P table stands (class_of frame))

  -- ---- elements that replace nothing

  unless_bases_answers : (clauses : List Clause) (replacing : List Element) → Every (ElementStands P) replacing → Fine (unless_bases table clauses replacing)
  unless_bases_answers [] [] h = record { holds = tt }
  unless_bases_answers [] (element ∷ others) h = record { holds = (declared_stand P table stands (element ∷ others) h).0.place }
  unless_bases_answers (clause ∷ clauses) replacing h = record { holds = tt }

  replaces_answers : (row : Option Row) → IfAny (RowStands P) row → Fine (replaces_by table row)
  replaces_answers None h = record { holds = tt }
  replaces_answers (Some row) h = unless_bases_answers (clauses_in row.parts) row.replacing h.replacing

  replaces_inherited_answers : (frame : Frame) → Fine (replaces_inherited table frame)
  replaces_inherited_answers frame = replaces_answers (row_at table (class_of frame)) (row_stands P table stands (class_of frame))

  -- ---- the first pass

  abbrev AllBroken : List Broken → Type 0
  AllBroken broken = Every (BrokenStands P) broken

  breach_stands : (test : Bool) (rule : ℕ) (place : Place) → P (At place) → AllBroken (breach_if test rule place)
  breach_stands test rule place hp = if_list (BrokenStands P) test (breach rule place ∷ []) [] (hp, tt) tt

  member_stands : (spoken : Spoken) (member : Member) → SpokenStands P spoken → AllBroken (broken_member spoken member)
  member_stands spoken member h =
      every_append (BrokenStands P) (breach_if (spoken.source.piece.outside && member.hidden) PROTECTED_ELEMENT spoken.place) (breach_if member.declares.flags.last FINAL_MODIFIED spoken.place)
      (breach_stands (spoken.source.piece.outside && member.hidden) PROTECTED_ELEMENT spoken.place h.place)
      (breach_stands member.declares.flags.last FINAL_MODIFIED spoken.place h.place)

  found_stands : (is_replaced : List ℕ → Bool) (walked : Walked) (spoken : Spoken) (member : Option Member) → SpokenStands P spoken → AllBroken (broken_found is_replaced walked spoken member)
  found_stands is_replaced walked spoken (Some member) h = member_stands spoken member h
  found_stands is_replaced walked spoken None h = if_list (BrokenStands P) (is_known is_replaced walked spoken) [] (breach MODIFIED_ELEMENT_NOT_FOUND spoken.place ∷ []) tt (h.place, tt)

  against_stands : (own claims : List Claim) → Every (ClaimStands P) claims → AllBroken (broken_against own claims)
  against_stands own claims h =
      every_flat_map (BrokenStands P) (λ (one : Claim). breach_if (list_any (λ (other : Claim). path_eq other.path one.path) own) MODIFIED_TWICE one.place) claims
      (every_weaker (ClaimStands P) _ (λ one hp. breach_stands (list_any (λ (other : Claim). path_eq other.path one.path) own) MODIFIED_TWICE one.place hp) claims h)

  constraint_stands : (frame : Frame) (origin : Origin) (claims : List Claim) → Every (ClaimStands P) claims → AllBroken (broken_constraint table frame origin claims)
  constraint_stands frame Elsewhere claims h = tt
  constraint_stands frame (Own_of place) claims h = tt
  constraint_stands frame (Constraint_of place) claims h = against_stands (own_claims table frame place) claims h

  spoken_stands : (frame : Frame) (is_replaced : List ℕ → Bool) (walked : Walked) (spoken : Spoken) → SpokenStands P spoken → IfAny (BrokenStands P) (broken_spoken table frame is_replaced walked spoken)
  spoken_stands frame is_replaced walked spoken h =
      least_stands P (broken_name is_replaced walked spoken ++ broken_constraint table frame spoken.source.piece.origin spoken.claims)
      (every_append (BrokenStands P) (broken_name is_replaced walked spoken) (broken_constraint table frame spoken.source.piece.origin spoken.claims)
      (found_stands is_replaced walked spoken (named spoken.name (members_in walked)) h)
      (constraint_stands frame spoken.source.piece.origin spoken.claims h.claims))

  first_of_all_stands : (broken : Spoken → Option Broken) → ((spoken : Spoken) → SpokenStands P spoken → IfAny (BrokenStands P) (broken spoken)) → (all : List Spoken) → Every (SpokenStands P) all →
      IfAny (BrokenStands P) (first_of_all broken all)
  first_of_all_stands broken each [] h = tt
  first_of_all_stands broken each (spoken ∷ others) h = or_later_stands P (broken spoken) (first_of_all broken others) (each spoken h.0) (first_of_all_stands broken each others h.1)

  first_pass_answers : (frame : Frame) (is_replaced : List ℕ → Bool) (walked : Walked) (sources : List Source) → Every (SourceStands P) sources → Fine (first_pass table frame is_replaced walked sources)
  first_pass_answers frame is_replaced walked sources h =
      unless_answers P (first_of_all (broken_spoken table frame is_replaced walked) (spoken_in table sources))
      (first_of_all_stands (broken_spoken table frame is_replaced walked) (spoken_stands frame is_replaced walked) (spoken_in table sources) (spoken_in_stands P table stands sources h))

  -- ---- a frame and its bases

  abbrev Sure : Unit {0} → Type 0
  Sure = Anything {A = Unit {0}}

  frame_passed_answers : (is_replaced : List ℕ → Bool) (added : List Source) (frame : Frame) → Every (SourceStands P) added → FrameStands P frame →
      Answers P (WalkedStands P) (frame_passed table is_replaced added frame)
  frame_passed_answers is_replaced added frame ha hf =
      then_answers P (WalkedStands P) (WalkedStands P) (walk_of table frame) _ (walk_of_stands P table stands frame hf) (λ walked hw.
      then_answers P Sure (WalkedStands P) (in_profile table frame) _ (in_profile_answers frame) (λ u v.
      then_answers P Sure (WalkedStands P) (first_pass table frame is_replaced walked added) _ (first_pass_answers frame is_replaced walked added ha) (λ u v.
      then_answers P Sure (WalkedStands P) (second_pass table (sources_of frame)) _ (second_pass_answers P table stands (sources_of frame) (sources_stand P frame hf)) (λ u v.
      then_answers P Sure (WalkedStands P) (redeclarations_checked table walked frame) _ (redeclarations_answer P table stands walked frame hw hf) (λ u v.
      then_answers P Sure (WalkedStands P) (replaces_inherited table frame) _ (replaces_inherited_answers frame) (λ u v.
      record { holds = hw }))))))

  base_passed_answers : (frame base : Frame) → FrameStands P frame → FrameStands P base → Fine (base_passed table frame base)
  base_passed_answers frame base hf hb =
      then_answers P (WalkedStands P) Sure (walk_of table frame) _ (walk_of_stands P table stands frame hf) (λ walked hw.
      then_answers P (WalkedStands P) Sure (frame_passed table (inherits walked) (added_to frame base) base) _
      (frame_passed_answers (inherits walked) (added_to frame base) base (every_drop (SourceStands P) (length (sources_of frame)) (sources_of base) (sources_stand P base hb)) hb)
      (λ passed hp. record { holds = tt }))

  before_last_stands : (frame : Frame) (bases : List Frame) → FrameStands P frame → Every (FrameStands P) bases → FrameStands P (before_last frame bases)
  before_last_stands frame [] hf h = hf
  before_last_stands frame (base ∷ []) hf h = hf
  before_last_stands frame (base ∷ next ∷ bases) hf h = before_last_stands base (next ∷ bases) h.0 h.1

  pub frame_checked_answers : (place : Place) (frame : Frame) → P (At place) → FrameStands P frame → Answers P (WalkedStands P) (frame_checked table place frame)
  frame_checked_answers place frame hp hf =
      then_answers P Sure (WalkedStands P) (whole_class table place frame) _ (whole_row_answers place (row_at table (class_of frame)) hp) (λ u v.
      then_answers P (WalkedStands P) (WalkedStands P) (frame_passed table (λ name. false) (sources_of frame) frame) _
      (frame_passed_answers (λ name. false) (sources_of frame) frame (sources_stand P frame hf) hf) (λ walked hw.
      then_answers P Sure (WalkedStands P) (each_checked (λ through. base_passed table (before_last frame through) (final_frame through)) walked.bases) _
      (each_checked_answers P (λ through. base_passed table (before_last frame through) (final_frame through)) walked.bases
      (every_weaker (Every (FrameStands P)) _
      (λ through h. base_passed_answers (before_last frame through) (final_frame through) (before_last_stands frame through hf h) (final_stands P through h)) walked.bases hw.bases))
      (λ u v. record { holds = hw })))

  -- ---- the class of a component's type

  partial_base_answers : (frame : Frame) → FrameStands P frame → Fine (partial_base table frame)
  partial_base_answers frame hf =
      if_answers P Sure (is_partial_short (row_at table (class_of frame))) _ _
      (then_answers P (FrameStands P) Sure (first_base table frame (clauses_of table frame)) _
      (first_base_answers P table stands frame (clauses_of table frame) hf (clauses_of_stand P table stands frame)) (λ base hb. record { holds = tt }))
      (record { holds = tt })

  pub type_checked_answers : (place : Place) (frame : Frame) → P (At place) → FrameStands P frame → Answers P (WalkedStands P) (type_checked table place frame)
  type_checked_answers place frame hp hf =
      then_answers P Sure (WalkedStands P) (partial_base table frame) _ (partial_base_answers frame hf) (λ u v. frame_checked_answers place frame hp hf)
