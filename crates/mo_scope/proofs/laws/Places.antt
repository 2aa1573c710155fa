-- Every place of a rule that the definitions of names break stands in the trees of the files, or is the place at which was asked.
--
-- The frame is one whose sources hold arguments of the trees. A frame with no sources, no path and no owner is one, and so are all that
-- the definitions give.
use Rattle.std.proofs.Common.{◌≡◌, inl, inr, List, [], ◌∷◌, Contains, Err, refl, ℕ, Bool}
use Rattle.std.proofs.lemmas.List.Elements.{Contains-append_left, Contains-append_right, Contains-push}
use Rattle.mo_syntax.specs.Outcome.{Outcome}
use Rattle.mo_syntax.specs.declared.class.ArgumentOf.{ArgumentOf}
use Rattle.mo_syntax.specs.declared.class.FileTree.{FileTree}
use Rattle.mo_syntax.specs.declared.class.Give.{Give}
use Rattle.mo_syntax.specs.declared.expr.Expr.{Expr}
use Rattle.mo_syntax.specs.declared.expr.ReferenceOf.{ReferenceOf}
use Rattle.mo_syntax.specs.declared.place.Broken.{Broken}
use Rattle.mo_syntax.specs.declared.place.Place.{Place}
use Rattle.mo_scope.specs.TreePlaces.{nowhere, places_in_give, places_in_element, places_in_files}
use Rattle.mo_scope.specs.Places.{Every, Answers, StandsIn, StandsInOrAsked, NameStands, ArgumentStands, ElementStands, ClauseStands, TableStands, GivenStands, FrameStands, SourcesStand, SourceStands, MemberStands}
use Rattle.mo_scope.specs.Rows.{Clause, table_of}
use Rattle.mo_scope.specs.Frames.{Given, Listed, Argued, Replacing, Frame, Top, In, Sources, No_source, Source_then, Scope, Source, Member}
use Rattle.mo_scope.specs.Names.{elements_of, base_frame_of, child_of_member, child_of, found, found_path}
use Rattle.mo_scope.specs.Arguments.{second_pass}
use Rattle.mo_scope.specs.Compatible.{compatible}
use Rattle.mo_scope.proofs.laws.Standing.{every_weaker}
use Rattle.mo_scope.proofs.laws.Tables.{table_stands}
use Rattle.mo_scope.proofs.laws.Naming.{elements_of_stand, base_frame_of_stands, child_of_member_stands, child_of_stands, found_stands, found_path_stands}
use Rattle.mo_scope.proofs.laws.Comparing.{compatible_answers}
use Rattle.mo_scope.proofs.laws.Passing.{second_pass_answers}

-- ---- a weaker property

module _ (P Q : Place → Type 0) (weaker : (place : Place) → P place → Q place) where
  argument_weaker : (argument : ArgumentOf Give) → ArgumentStands P argument → ArgumentStands Q argument
  argument_weaker argument h = (weaker argument.place h.0, every_weaker P Q weaker (places_in_give argument.give) h.1)

  given_weaker : (given : Given) → GivenStands P given → GivenStands Q given
  given_weaker (Listed modifiers) h = every_weaker (ArgumentStands P) (ArgumentStands Q) argument_weaker modifiers.list h
  given_weaker (Argued argument passed) h = argument_weaker argument h
  given_weaker (Replacing elements) h = every_weaker (ElementStands P) (ElementStands Q) (λ element. every_weaker P Q weaker (places_in_element element)) elements h

  mutual
    pub frame_weaker : (frame : Frame) → FrameStands P frame → FrameStands Q frame
    frame_weaker Top h = tt
    frame_weaker (In class sources outer at owner) h = (sources_weaker sources h.0, frame_weaker outer h.1, frame_weaker owner h.2)

    sources_weaker : (sources : Sources) → SourcesStand P sources → SourcesStand Q sources
    sources_weaker No_source h = tt
    sources_weaker (Source_then piece frame iterations others) h = (given_weaker piece.given h.0, frame_weaker frame h.1, sources_weaker others h.2)

-- ---- the trees of files

every_contained : {A : Type 0} (xs ys : List A) → ((x : A) → Contains xs x → Contains ys x) → Every (Contains ys) xs
every_contained [] ys f = tt
every_contained (x ∷ xs) ys f =
    (f x (Contains-append_left (x ∷ []) xs x (Contains-push [] x)), every_contained xs ys (λ y h. f y (Contains-append_right (x ∷ []) xs y h)))

broken_at : {A : Type 0} (P : Place → Type 0) (Q : A → Type 0) (outcome : Outcome A) (broken : Broken) → Answers P Q outcome → outcome ≡ Err broken → P broken.place
broken_at P Q outcome broken h is = (rw is at h).holds

module _ (files : List FileTree) where
  pub files_stand : TableStands (StandsIn files) (table_of files)
  files_stand = table_stands (StandsIn files) files (every_contained (places_in_files files) (places_in_files files) (λ place h. h))

  or_asked : (asked place : Place) → StandsIn files place → StandsInOrAsked files asked place
  or_asked asked place h = inl h

  asked_files_stand : (asked : Place) → TableStands (StandsInOrAsked files asked) (table_of files)
  asked_files_stand asked =
      table_stands (StandsInOrAsked files asked) files
      (every_weaker (StandsIn files) (StandsInOrAsked files asked) (or_asked asked) (places_in_files files)
      (every_contained (places_in_files files) (places_in_files files) (λ place h. h)))

  -- A rule that the elements of a frame break is broken in the trees.
  pub elements_break_in_trees : (frame : Frame) (broken : Broken) → FrameStands (StandsIn files) frame → elements_of (table_of files) frame ≡ Err broken → StandsIn files broken.place
  elements_break_in_trees frame broken h is = broken_at (StandsIn files) _ _ broken (elements_of_stand (StandsIn files) (table_of files) files_stand frame h) is

  -- and what the base of a frame breaks
  pub base_breaks_in_trees : (frame : Frame) (clause : Clause) (broken : Broken) → FrameStands (StandsIn files) frame → ClauseStands (StandsIn files) clause →
      base_frame_of (table_of files) frame clause ≡ Err broken → StandsIn files broken.place
  base_breaks_in_trees frame clause broken h hc is =
      broken_at (StandsIn files) _ _ broken (base_frame_of_stands (StandsIn files) (table_of files) files_stand frame clause h hc) is

  -- and what a child of a frame breaks
  pub child_breaks_in_trees : (member : Member) (index : List ℕ) (broken : Broken) → MemberStands (StandsIn files) member →
      child_of_member (table_of files) member index ≡ Err broken → StandsIn files broken.place
  child_breaks_in_trees member index broken h is =
      broken_at (StandsIn files) _ _ broken (child_of_member_stands (StandsIn files) (table_of files) files_stand member index h) is

  -- A name that the frame does not have is broken nowhere.
  pub child_of_breaks_in_trees : (frame : Frame) (name index : List ℕ) (broken : Broken) → FrameStands (StandsIn files) frame →
      child_of (table_of files) frame name index ≡ Err broken → StandsInOrAsked files nowhere broken.place
  child_of_breaks_in_trees frame name index broken h is =
      broken_at (StandsInOrAsked files nowhere) _ _ broken
      (child_of_stands (StandsInOrAsked files nowhere) (table_of files) (asked_files_stand nowhere) frame name index (inr refl)
      (frame_weaker (StandsIn files) (StandsInOrAsked files nowhere) (or_asked nowhere) frame h))
      is

  -- A rule that a simple name breaks is broken in the trees, or at the name.
  pub name_breaks_in_trees : (scope : Scope) (name : List ℕ) (asked : Place) (broken : Broken) → FrameStands (StandsIn files) scope.frame →
      found (table_of files) scope name asked ≡ Err broken → StandsInOrAsked files asked broken.place
  name_breaks_in_trees scope name asked broken h is =
      broken_at (StandsInOrAsked files asked) _ _ broken
      (found_stands (StandsInOrAsked files asked) (table_of files) (asked_files_stand asked) scope name asked (inr refl)
      (frame_weaker (StandsIn files) (StandsInOrAsked files asked) (or_asked asked) scope.frame h))
      is

  -- A rule that a name of the trees breaks is broken in the trees.
  pub path_breaks_in_trees : (scope : Scope) (reference : ReferenceOf Expr) (class_wanted : Bool) (broken : Broken) → NameStands (StandsIn files) reference →
      FrameStands (StandsIn files) scope.frame → found_path (table_of files) scope reference class_wanted ≡ Err broken → StandsIn files broken.place
  path_breaks_in_trees scope reference class_wanted broken hr h is =
      broken_at (StandsIn files) _ _ broken (found_path_stands (StandsIn files) (table_of files) files_stand scope reference class_wanted hr h) is

  -- and what arguments break in the second pass
  pub arguments_break_in_trees : (sources : List Source) (broken : Broken) → Every (SourceStands (StandsIn files)) sources →
      second_pass (table_of files) sources ≡ Err broken → StandsIn files broken.place
  arguments_break_in_trees sources broken h is = broken_at (StandsIn files) _ _ broken (second_pass_answers (StandsIn files) (table_of files) files_stand sources h) is

  -- A rule that a comparison of classes breaks is broken in the trees, or where it was asked.
  pub comparison_breaks_in_trees : (asked : Place) (new wanted : Frame) (broken : Broken) → FrameStands (StandsIn files) new → FrameStands (StandsIn files) wanted →
      compatible (table_of files) asked new wanted ≡ Err broken → StandsInOrAsked files asked broken.place
  comparison_breaks_in_trees asked new wanted broken hn hw is =
      broken_at (StandsInOrAsked files asked) _ _ broken
      (compatible_answers (StandsInOrAsked files asked) (table_of files) (asked_files_stand asked) asked new wanted (inr refl)
      (frame_weaker (StandsIn files) (StandsInOrAsked files asked) (or_asked asked) new hn)
      (frame_weaker (StandsIn files) (StandsInOrAsked files asked) (or_asked asked) wanted hw))
      is
