-- What the values of the code are as data.
use Rattle.std.specs.Prelude.{List, Option, map, flat_map, option_map, option_copied}
use Rattle.mo_syntax.specs.declared.class.Body.{out-Body}
use Rattle.mo_syntax.specs.declared.meaning.FrameId.{FrameId}
use Rattle.mo_syntax.specs.Classes as classes
use Rattle.mo_scope.specs.declared.source.Given.{Given as GivenAt}
use Rattle.mo_scope.specs.declared.source.Given.TheVariants.{Listed as listed_at, Argued as argued_at, Replacing as replacing_at}
use Rattle.mo_scope.specs.declared.source.Listing.{Listing as ListingAt}
use Rattle.mo_scope.specs.declared.source.Modifiers.{Modifiers as ModifiersAt}
use Rattle.mo_scope.specs.declared.source.Origin.{Origin as OriginAt}
use Rattle.mo_scope.specs.declared.source.Origin.TheVariants.{Elsewhere as elsewhere_at, OwnOf, ConstraintOf}
use Rattle.mo_scope.specs.declared.source.Picked.{Picked as PickedAt}
use Rattle.mo_scope.specs.declared.source.ScopeAt.{ScopeAt}
use Rattle.mo_scope.specs.declared.source.Source.{Source as SourceAt}
use Rattle.mo_scope.specs.declared.row.Clause.{Clause as ClauseAt}
use Rattle.mo_scope.specs.declared.row.Constraint.{Constraint as ConstraintAt}
use Rattle.mo_scope.specs.declared.row.Declares.{Declares as DeclaresAt}
use Rattle.mo_scope.specs.declared.row.Home.{Home as HomeAt}
use Rattle.mo_scope.specs.declared.row.Home.TheVariants.{Under, Inside, Apart}
use Rattle.mo_scope.specs.declared.row.Member.{Member as MemberAt}
use Rattle.mo_scope.specs.declared.row.Part.{Part as PartAt}
use Rattle.mo_scope.specs.declared.row.Part.TheVariants.{Element as element_at, Base as base_at}
use Rattle.mo_scope.specs.declared.row.Row.{Row as RowAt}
use Rattle.mo_scope.specs.declared.row.Sort.{Sort as SortAt}
use Rattle.mo_scope.specs.declared.row.Sort.TheVariants.{Class as class_at, Component as component_at}
use Rattle.mo_scope.specs.declared.saying.Redeclaration.{Redeclaration as RedeclarationAt}
use Rattle.mo_scope.specs.declared.saying.Saying.{Saying as SayingAt}
use Rattle.mo_scope.specs.declared.saying.Saying.TheVariants.{Modifies as modifies_at, Redeclares as redeclares_at}
use Rattle.mo_scope.specs.Rows.{Modifiers, Constraint, Declares, Sort, A_class, A_component, Clause, Part, Element_of, Base_of, Row, replacing_in, form_in}
use Rattle.mo_scope.specs.Frames.{Frame, Scope, Source, Member, Given, Listed, Argued, Replacing, Listing, Origin, Elsewhere, Own_of, Constraint_of}
use Rattle.mo_scope.specs.Parts.{Picked, Redeclaration, Saying, Modifies, Redeclares}
use Rattle.mo_scope.specs.Worlds.{World, SourceEntry, MemberEntry, frame_or_top, frames_of, member_in, scope_in, source_in, sources_in}

-- ---- rows

abbrev pub modifiers_seen : ModifiersAt → Modifiers
modifiers_seen modifiers = record { list = modifiers.list.now; value = option_copied modifiers.value }

abbrev pub constraint_seen : ConstraintAt → Constraint
constraint_seen limit = record { class = limit.class.now; modifiers = modifiers_seen limit.modifiers }

abbrev pub sort_seen : SortAt → Sort
sort_seen (class_at number encapsulated) = A_class number encapsulated
sort_seen (component_at component) = A_component component.now

abbrev pub declares_seen : DeclaresAt → Declares
declares_seen declares = record {
  name = declares.name.now;
  place = declares.place;
  flags = declares.flags;
  sort = sort_seen declares.sort;
  own = modifiers_seen declares.own;
  limit = option_map constraint_seen declares.limit;
}

abbrev pub clause_seen : ClauseAt → Clause
clause_seen clause = record { base = clause.base.now; mods = record { 0 = clause.list.now }; hidden = clause.hidden }

abbrev pub part_seen : PartAt → Part
part_seen (element_at declares) = Element_of (declares_seen declares)
part_seen (base_at clause) = Base_of (clause_seen clause)

abbrev pub home_seen : HomeAt → classes.Home
home_seen (Under path) = classes.Under (map (λ name. name.now) path)
home_seen (Inside n) = classes.Inside n
home_seen Apart = classes.Apart

abbrev pub row_seen : RowAt → Row
row_seen row = record {
  number = row.number;
  home = home_seen row.home;
  outermost = row.outermost;
  class = row.class.now;
  form = form_in (out-Body row.class.now.body);
  parts = map part_seen row.parts;
  replacing = flat_map replacing_in row.replacing.now;
  imports = map (λ clause. clause.now) row.imports;
}

-- ---- sources

abbrev pub given_seen : GivenAt → Given
given_seen (listed_at modifiers) = Listed (modifiers_seen modifiers)
given_seen (argued_at argument passed) = Argued argument.now passed
given_seen (replacing_at items) = Replacing (flat_map replacing_in items.now)

abbrev pub listing_seen : ListingAt → Listing
listing_seen listing = record { place = listing.place; passed = map (λ name. name.now) listing.passed }

abbrev pub origin_seen : OriginAt → Origin
origin_seen elsewhere_at = Elsewhere
origin_seen (OwnOf place) = Own_of place
origin_seen (ConstraintOf place) = Constraint_of place

abbrev pub source_seen : SourceAt → SourceEntry
source_seen source = record {
  piece = record {
    given = given_seen source.given;
    pending = source.pending;
    listing = listing_seen source.listing;
    last = source.last;
    outside = source.outside;
    origin = origin_seen source.origin;
  };
  frame = source.scope.frame.0;
  iterations = source.scope.iters;
}

-- a redeclaration, where frames have these numbers
abbrev pub redeclaration_in : List Frame → RedeclarationAt → Redeclaration
redeclaration_in frames redeclaration = record {
  declares = declares_seen redeclaration.declares;
  place = redeclaration.place;
  keeps = redeclaration.keeps;
  source = source_in frames (source_seen redeclaration.source);
}

abbrev pub saying_in : List Frame → SayingAt → Saying
saying_in frames (modifies_at source) = Modifies (source_in frames (source_seen source))
saying_in frames (redeclares_at redeclaration) = Redeclares (redeclaration_in frames redeclaration)

-- a value that was picked, where frames have these numbers
abbrev pub picked_in : List Frame → PickedAt → Picked
picked_in frames picked = record {
  value = picked.value.now;
  scope = scope_in frames picked.scope.now.frame.0 picked.scope.now.iters;
  pending = picked.pending.now;
}

-- ---- elements

abbrev pub member_seen : MemberAt → MemberEntry
member_seen member = record {
  name = member.name.now;
  home = member.home.0;
  item = member.item;
  hidden = member.hidden;
  declares = declares_seen member.declares;
}

-- ---- what they are in a world, whose frames have the numbers

-- the frame with that number, Top where there is none
abbrev pub frame_at_or_top : World → Option FrameId → Frame
frame_at_or_top world frame = frame_or_top (frames_of world) (option_map (λ id. id.0) frame)

abbrev pub scope_at : World → ScopeAt → Scope
scope_at world scope = scope_in (frames_of world) scope.frame.0 scope.iters

abbrev pub source_at : World → SourceAt → Source
source_at world source = source_in (frames_of world) (source_seen source)

abbrev pub sources_at : World → List SourceAt → List Source
sources_at world sources = sources_in (frames_of world) (map source_seen sources)

abbrev pub redeclaration_at : World → RedeclarationAt → Redeclaration
redeclaration_at world = redeclaration_in (frames_of world)

abbrev pub member_at : World → MemberAt → Member
member_at world member = member_in (frames_of world) (member_seen member)
