-- Every place that the calls from names to flat models answer stands in the trees of the files: of what is found, of what is made, and of a
-- rule that is broken.
--
-- Each call answers exactly the value of its definition, so these are statements about definitions, over all files. Their premises are met
-- by what other calls answer: the frames, elements, instances and expressions that are given stand in the files.
use Rattle.std.specs.Prelude.{ℕ, Bool, List}
use Rattle.mo_syntax.specs.Outcome.{Outcome}
use Rattle.mo_syntax.specs.declared.class.FileTree.{FileTree}
use Rattle.mo_syntax.specs.declared.expr.Expr.{Expr}
use Rattle.mo_syntax.specs.declared.expr.ReferenceOf.{ReferenceOf}
use Rattle.mo_syntax.specs.declared.place.Place.{Place}
use Rattle.mo_flat.specs.declared.model.FlatModel.{FlatModel}
use Rattle.mo_scope.specs.Rows.{Clause, table_of}
use Rattle.mo_scope.specs.Frames.{Frame, Member, Scope}
use Rattle.mo_scope.specs.Instances.{Instance}
use Rattle.mo_scope.specs.Lookup.{Found, Walked}
use Rattle.mo_scope.specs.Names.{base_frame_of, child_of, child_of_member, elements_of, found, found_path, inner_of, stands_for, walk_of}
use Rattle.mo_scope.specs.Compatible.{compatible}
use Rattle.mo_scope.specs.Redeclarations.{redeclarations_checked}
use Rattle.mo_typing.specs.Indices.{Index}
use Rattle.mo_eval.specs.Ends.{ended_of}
use Rattle.mo_eval.specs.Values.{component_dims, known_of, resolved, resolved_for_value, sides_of, sizes_of, there_of, value_of, value_of_element}
use Rattle.mo_eval.specs.Virtuals.{Element, Resolved}
use Rattle.mo_instance.specs.Instances.{instances_of}
use Rattle.mo_equations.specs.Expansion.{expansion_of}
use Rattle.mo_equations.specs.Leaves.{place_of_root}
use Rattle.mo_flatten.specs.Flat.{Flattens}
use Rattle.mo_places.specs.Written.{Written, Valued}
use Rattle.mo_places.specs.TreeWritten.{nowhere}
use Rattle.mo_places.specs.Pieces.{in_name}
use Rattle.mo_places.specs.Stands.{Anything, Every, Answers, ChildStands, ClauseStands, FoundStands, FrameStands, InnerStands, MemberStands, NameStands, WalkedStands}
use Rattle.mo_places.specs.InFiles.{IsWritten, StandsIn, WrittenOrAsked}
use Rattle.mo_places.specs.Resolved.{ElementStands, EndedStands, ResolvedStands, SidesStand}
use Rattle.mo_places.specs.MadeStands.{ExpandedStands, InstanceStands, ToldStands}

-- a value of that property, or a broken rule, with all its places in the files
abbrev pub AnswersIn : {A : Type 0} → List FileTree → ((Written → Type 0) → A → Type 0) → Outcome A → Type 0
AnswersIn files Q outcome = Answers (IsWritten files) (Q (IsWritten files)) outcome

-- the same, where a rule may be broken at the place that is asked from
abbrev pub AnswersAsked : {A : Type 0} → List FileTree → Place → ((Written → Type 0) → A → Type 0) → Outcome A → Type 0
AnswersAsked files asked Q outcome = Answers (WrittenOrAsked files asked) (Q (WrittenOrAsked files asked)) outcome

-- a value in which nothing has a place, or a broken rule whose place is in the files
abbrev pub RefusesIn : {A : Type 0} → List FileTree → Outcome A → Type 0
RefusesIn files outcome = Answers (IsWritten files) Anything outcome

-- ---- names

-- What elements, bases, names and children are found to be. A name that is asked from a place may break a rule there.
pub record NamesStand (files : List FileTree) : Type 0 where
  pub walk : (frame : Frame) → FrameStands (IsWritten files) frame → AnswersIn files WalkedStands (walk_of (table_of files) frame)
  pub elements : (frame : Frame) → FrameStands (IsWritten files) frame → AnswersIn files (λ P. Every (MemberStands P)) (elements_of (table_of files) frame)
  pub base : (frame : Frame) (clause : Clause) → FrameStands (IsWritten files) frame → ClauseStands (IsWritten files) clause →
      AnswersIn files FrameStands (base_frame_of (table_of files) frame clause)
  pub find : (scope : Scope) (name : List ℕ) (place : Place) → FrameStands (IsWritten files) scope.frame →
      AnswersAsked files place FoundStands (found (table_of files) scope name place)
  pub path : (scope : Scope) (reference : ReferenceOf Expr) (class_wanted : Bool) → FrameStands (IsWritten files) scope.frame → NameStands (IsWritten files) reference →
      AnswersIn files FoundStands (found_path (table_of files) scope reference class_wanted)
  pub child : (frame : Frame) (name index : List ℕ) → FrameStands (IsWritten files) frame → AnswersAsked files nowhere ChildStands (child_of (table_of files) frame name index)
  pub child_of_member : (member : Member) (index : List ℕ) → MemberStands (IsWritten files) member → AnswersIn files ChildStands (child_of_member (table_of files) member index)
  pub inner : (place : Place) (outer : Member) → MemberStands (IsWritten files) outer → AnswersAsked files place InnerStands (inner_of (table_of files) place outer)
  pub standing : (place : Place) (it : Found) → FoundStands (IsWritten files) it → AnswersAsked files place FoundStands (stands_for (table_of files) place it)

-- Where redeclarations are checked and classes are compared a rule is broken in the files, or where the comparison was asked.
pub record RedeclarationsStand (files : List FileTree) : Type 0 where
  pub checked : (walked : Walked) (frame : Frame) → WalkedStands (IsWritten files) walked → FrameStands (IsWritten files) frame → RefusesIn files (redeclarations_checked (table_of files) walked frame)
  pub compared : (place : Place) (new wanted : Frame) → StandsIn files place → FrameStands (IsWritten files) new → FrameStands (IsWritten files) wanted →
      RefusesIn files (compatible (table_of files) place new wanted)

-- ---- values

-- What expressions are resolved to, their sizes and their values, with so many references left; what is read of components; and what the
-- ends of connects select.
pub record ValuesStand (files : List FileTree) : Type 0 where
  pub resolved : (left : ℕ) (scope : Scope) (e : Expr) → FrameStands (IsWritten files) scope.frame → IsWritten files (Valued e) → AnswersIn files ResolvedStands (resolved (table_of files) left scope e)
  pub for_value : (left : ℕ) (scope : Scope) (e : Expr) → FrameStands (IsWritten files) scope.frame → IsWritten files (Valued e) →
      AnswersIn files ResolvedStands (resolved_for_value (table_of files) left scope e)
  pub sides : (scope : Scope) (first second : Expr) → FrameStands (IsWritten files) scope.frame → IsWritten files (Valued first) → IsWritten files (Valued second) →
      AnswersIn files SidesStand (sides_of (table_of files) scope first second)
  pub sizes : (left : ℕ) (scope : Scope) (e : Expr) → FrameStands (IsWritten files) scope.frame → IsWritten files (Valued e) → RefusesIn files (sizes_of (table_of files) left scope e)
  pub value : (left : ℕ) (scope : Scope) (e : Expr) (index : Index) → FrameStands (IsWritten files) scope.frame → IsWritten files (Valued e) → RefusesIn files (value_of (table_of files) left scope e index)
  pub known : (left : ℕ) (it : Resolved) (index : Index) → ResolvedStands (IsWritten files) it → RefusesIn files (known_of (table_of files) left it index)
  pub element : (left : ℕ) (element : Element) → ElementStands (IsWritten files) element → RefusesIn files (value_of_element (table_of files) left element)
  pub there : (left : ℕ) (member : Member) → MemberStands (IsWritten files) member → RefusesIn files (there_of (table_of files) left member)
  pub dims : (left : ℕ) (member : Member) → MemberStands (IsWritten files) member → RefusesIn files (component_dims (table_of files) left member)
  pub ends : (scope : Scope) (reference : ReferenceOf Expr) → FrameStands (IsWritten files) scope.frame → Every (IsWritten files) (in_name reference) →
      AnswersIn files EndedStands (ended_of (table_of files) scope reference)

-- ---- instances

-- the instances of each class, with what is chosen for their attributes and bindings
abbrev pub InstancesStand : List FileTree → Type 0
InstancesStand files = (class : ℕ) → AnswersIn files (λ P. Every (InstanceStands P)) (instances_of (table_of files) class)

-- ---- equations

-- what instances that stand give, where the name of their class stands
abbrev pub EquationsStand : List FileTree → Type 0
EquationsStand files =
    (instances : List Instance) → Every (InstanceStands (IsWritten files)) instances → StandsIn files (place_of_root (record { classes = table_of files; instances = instances })) →
    AnswersIn files ExpandedStands (expansion_of (record { classes = table_of files; instances = instances }))

-- ---- flat models

-- What is told of the class of a path, for which nothing is asked: the flat model and each broken rule stand in the files, but for rule 11,
-- that no class has the path, which stands on the command line.
abbrev pub FlatModelsStand : List FileTree → Type 0
FlatModelsStand files = (path : List (List ℕ)) (told : Outcome FlatModel) → Flattens files path told → ToldStands (IsWritten files) told
