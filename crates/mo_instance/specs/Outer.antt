-- Components that are declared `outer` (Modelica Language Specification 3.5, section 5.4). They are no instances, and stand for the inner
-- one.
use Rattle.std.specs.Prelude.{ℕ, Bool, false, ◌&&◌, ◌||◌, not, List, [], Option, Some, None, Ok, Err, is_some, if◌then◌else◌, nat_eq}
use Rattle.std.specs.List.{list_any}
use Rattle.std.specs.Str.{bytes_eq}
use Rattle.mo_syntax.specs.Outcome.{and_then, breaks}
use Rattle.mo_syntax.specs.declared.class.ComponentOf.{ComponentOf}
use Rattle.mo_syntax.specs.declared.class.Give.{Give}
use Rattle.mo_syntax.specs.declared.class.Prefix.{Prefix}
use Rattle.mo_syntax.specs.declared.place.Place.{Place}
use Rattle.mo_scope.specs.Rows.{Table, component_of}
use Rattle.mo_scope.specs.Frames.{Member, sources_of}
use Rattle.mo_scope.specs.Parts.{is_nothing}
use Rattle.mo_scope.specs.Names.{Child, child_of_member, component_frame, inner_of}
use Rattle.mo_scope.specs.Sizes.{is_nothing as is_empty}
use Rattle.mo_scope.specs.Compatible.{bool_eq, compatible, dimensions_of, prefix_of}
use Rattle.mo_scope.specs.Spoken.{Spoken, spoken_in}
use Rattle.mo_scope.specs.Redeclarations.{Checked, fine}
use Rattle.mo_instance.specs.Prefixes.{is_discrete}
use Rattle.mo_syntax.specs.declared.rules.TheConstants.{INNER_DIFFERS, NOT_COMPATIBLE, OUTSIDE_PROFILE}

-- ---- what an outer component may not have

abbrev pub condition_in : Option (ComponentOf Give) → Bool
condition_in None = false
condition_in (Some component) = is_some component.condition

abbrev pub has_condition : Member → Bool
has_condition member = condition_in (component_of member.declares)

abbrev pub is_left_out_prefix : Prefix → Bool
is_left_out_prefix prefix = prefix.stream || is_discrete prefix.vary

-- an argument that gives something for a name
abbrev pub speaks_of : List ℕ → Spoken → Bool
speaks_of name spoken = bytes_eq spoken.name name && not (is_empty spoken.claims)

-- It is `inner` too; or it has modifiers, a binding or a condition; or a source of its frame speaks of it.
abbrev pub is_wrongly_outer : Table → Member → Bool
is_wrongly_outer table member =
    member.declares.flags.inner || not (is_nothing member.declares.own) || has_condition member
    || is_left_out_prefix (prefix_of table member)
    || list_any (speaks_of member.name) (spoken_in table (sources_of member.home))

-- ---- the two components

-- that the types are not compatible is rule 46
abbrev pub as_differing : Place → Checked → Checked
as_differing place (Ok done) = fine
as_differing place (Err broken) = if nat_eq broken.rule NOT_COMPATIBLE then breaks INNER_DIFFERS place else Err broken

abbrev pub is_alike : Table → Member → Child → Member → Child → Bool
is_alike table outer outer_child inner inner_child =
    nat_eq (dimensions_of table inner inner_child) (dimensions_of table outer outer_child)
    && bool_eq (prefix_of table inner).flow (prefix_of table outer).flow

-- The inner component has as many dimensions, the same flow prefix and a compatible type.
abbrev pub is_matched : Table → (outer : Member) → (inner : Member) → Checked
is_matched table outer inner =
    and_then (child_of_member table outer []) (λ outer_child.
    and_then (child_of_member table inner []) (λ inner_child.
    if is_alike table outer outer_child inner inner_child then
    as_differing outer.declares.place
    (compatible table outer.declares.place (component_frame inner [] inner_child) (component_frame outer [] outer_child))
    else breaks INNER_DIFFERS outer.declares.place))

-- ---- the checks

-- All of it stands at the name of the outer component: rule 34, then 45 where there is no inner one, then 46.
abbrev pub outer_checked : Table → Member → Checked
outer_checked table member =
    if is_wrongly_outer table member then breaks OUTSIDE_PROFILE member.declares.place else
    and_then (inner_of table member.declares.place member) (λ inner.
    if has_condition inner.1 then breaks OUTSIDE_PROFILE member.declares.place else is_matched table member inner.1)
