-- Frames that differ in their paths and owners alone.
use Rattle.std.specs.Prelude.{◌≡◌, Bool, true, false, List, [], ◌∷◌, map, None, Ok}
use Rattle.mo_syntax.specs.Outcome.{Outcome, and_then}
use Rattle.mo_syntax.specs.declared.expr.Expr.{Expr}
use Rattle.mo_syntax.specs.declared.expr.PartOf.{PartOf}
use Rattle.mo_scope.specs.Frames.{Frame, Top, In, No_source, at_of, owner_of_base}
use Rattle.mo_scope.specs.Lookup.{Inherited, Walked, named, own_members}
use Rattle.mo_scope.specs.Rows.{Table}

-- the class with its sources in the frame around it, only looked up
abbrev pub unowned : Frame → Frame
unowned Top = Top
unowned (In class sources outer at owner) = In class sources outer None Top

-- a base as that of a frame: with the path of this, and owned by it where it has a path or an owner
abbrev pub owned_by : Frame → Frame → Frame
owned_by frame Top = In 0 No_source Top (at_of frame) (owner_of_base frame)
owned_by frame (In class sources outer at owner) = In class sources outer (at_of frame) (owner_of_base frame)

-- base frames, outermost first, each as the base of the one before
abbrev pub owned_through : Frame → List Frame → List Frame
owned_through frame [] = []
owned_through frame (base ∷ through) = owned_by frame base ∷ owned_through (owned_by frame base) through

abbrev pub owned_home : Frame → List Frame → Frame
owned_home frame [] = frame
owned_home frame (base ∷ through) = owned_home (owned_by frame base) through

abbrev pub owned_inherited : Frame → Inherited → Inherited
owned_inherited frame inherited = record {
  member = record {
    name = inherited.member.name;
    home = owned_home frame inherited.through;
    item = inherited.member.item;
    hidden = inherited.member.hidden;
    declares = inherited.member.declares;
  };
  through = owned_through frame inherited.through;
}

-- the elements of a frame by those of one that differs in its path and owner alone and ends at no leaf type
abbrev pub owned_walk : Frame → Walked → Walked
owned_walk frame walked = record {
  members = map (owned_inherited frame) walked.members;
  bases = map (owned_through frame) walked.bases;
  sections = map (owned_through frame) walked.sections;
  leaf = None;
}

abbrev pub owned_outcome : Frame → Outcome Walked → Outcome Walked
owned_outcome frame outcome = and_then outcome (λ walked. Ok (owned_walk frame walked))

-- The first identifier of a name is none of the own elements of a frame, or stands behind a leading dot.
abbrev pub BeginsElsewhere : Table → Frame → Bool → List (PartOf Expr) → Type 0
BeginsElsewhere table frame true parts = Unit {0}
BeginsElsewhere table frame false [] = Unit {0}
BeginsElsewhere table frame false (part ∷ parts) = named part.name (own_members table frame) ≡ None
