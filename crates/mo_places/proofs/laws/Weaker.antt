-- What stands for a property stands for a weaker one.
use Rattle.std.proofs.Common.{Option, Some, None}
use Rattle.mo_syntax.specs.declared.class.ArgumentOf.{ArgumentOf}
use Rattle.mo_syntax.specs.declared.class.Give.{Give}
use Rattle.mo_syntax.specs.declared.expr.Expr.{Expr}
use Rattle.mo_scope.specs.Rows.{Constraint, Declares, Modifiers, Sort, A_class, A_component}
use Rattle.mo_scope.specs.Frames.{Given, Listed, Argued, Replacing, Frame, Top, In, Sources, No_source, Source_then, Member}
use Rattle.mo_scope.specs.Lookup.{Found, Component, Class, Literal, Iteration, Function, Time}
use Rattle.mo_places.specs.Written.{Written, At, Valued}
use Rattle.mo_places.specs.TreeWritten.{in_component, places_in_element, places_in_give, places_of_parts}
use Rattle.mo_places.specs.Stands.{IfAny, ArgumentStands, ConstraintStands, DeclaresStand, ElementStands, FoundStands, FrameStands, GivenStands, MemberStands, ModifiersStand, SortStands, SourcesStand, ValueStands}
use Rattle.mo_places.proofs.laws.Standing.{every_weaker}

module _ (P Q : Written → Type 0) (weaker : (w : Written) → P w → Q w) where
  value_weaker : (value : Option Expr) → ValueStands P value → ValueStands Q value
  value_weaker None h = tt
  value_weaker (Some e) h = weaker (Valued e) h

  argument_weaker : (argument : ArgumentOf Give) → ArgumentStands P argument → ArgumentStands Q argument
  argument_weaker argument h = (weaker (At argument.place) h.0, every_weaker P Q weaker (places_in_give argument.give) h.1)

  modifiers_weaker : (modifiers : Modifiers) → ModifiersStand P modifiers → ModifiersStand Q modifiers
  modifiers_weaker modifiers h = (every_weaker (ArgumentStands P) (ArgumentStands Q) argument_weaker modifiers.list h.0, value_weaker modifiers.value h.1)

  given_weaker : (given : Given) → GivenStands P given → GivenStands Q given
  given_weaker (Listed modifiers) h = modifiers_weaker modifiers h
  given_weaker (Argued argument passed) h = argument_weaker argument h
  given_weaker (Replacing elements) h = every_weaker (ElementStands P) (ElementStands Q) (λ element. every_weaker P Q weaker (places_in_element element)) elements h

  mutual
    pub frame_weaker : (frame : Frame) → FrameStands P frame → FrameStands Q frame
    frame_weaker Top h = tt
    frame_weaker (In class sources outer at owner) h = (sources_weaker sources h.0, frame_weaker outer h.1, frame_weaker owner h.2)

    sources_weaker : (sources : Sources) → SourcesStand P sources → SourcesStand Q sources
    sources_weaker No_source h = tt
    sources_weaker (Source_then piece frame iterations others) h = (given_weaker piece.given h.0, frame_weaker frame h.1, sources_weaker others h.2)

  sort_weaker : (sort : Sort) → SortStands P sort → SortStands Q sort
  sort_weaker (A_class number encapsulated) h = tt
  sort_weaker (A_component component) h = (every_weaker P Q weaker (places_of_parts component.base.parts) h.0, every_weaker P Q weaker (in_component component) h.1)

  limit_weaker : (limit : Option Constraint) → IfAny (ConstraintStands P) limit → IfAny (ConstraintStands Q) limit
  limit_weaker None h = tt
  limit_weaker (Some limit) h = record { class = every_weaker P Q weaker (places_of_parts limit.class.parts) h.class; modifiers = modifiers_weaker limit.modifiers h.modifiers }

  declares_weaker : (declares : Declares) → DeclaresStand P declares → DeclaresStand Q declares
  declares_weaker declares h = record {
    place = weaker (At declares.place) h.place;
    sort = sort_weaker declares.sort h.sort;
    own = modifiers_weaker declares.own h.own;
    limit = limit_weaker declares.limit h.limit;
  }

  pub member_weaker : (member : Member) → MemberStands P member → MemberStands Q member
  member_weaker member h = record { home = frame_weaker member.home h.home; declares = declares_weaker member.declares h.declares }

  pub found_weaker : (found : Found) → FoundStands P found → FoundStands Q found
  found_weaker (Component frame member) h = (frame_weaker frame h.0, member_weaker member h.1)
  found_weaker (Class frame replaceable) h = frame_weaker frame h
  found_weaker (Literal class n) h = tt
  found_weaker (Iteration value) h = tt
  found_weaker (Function code) h = tt
  found_weaker Time h = tt
