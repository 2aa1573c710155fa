-- Steps of what is asked of outer components.
use Rattle.std.specs.Prelude.{ℕ, Bool, ◌&&◌, ◌||◌, not, List, [], if◌then◌else◌}
use Rattle.std.specs.List.{list_any}
use Rattle.std.specs.Str.{bytes_eq}
use Rattle.mo_syntax.specs.Outcome.{breaks}
use Rattle.mo_syntax.specs.declared.place.Place.{Place}
use Rattle.mo_scope.specs.Rows.{Table}
use Rattle.mo_scope.specs.Frames.{Frame, Member, sources_of}
use Rattle.mo_scope.specs.Names.{Child, component_frame}
use Rattle.mo_scope.specs.Parts.{is_nothing as holds_nothing}
use Rattle.mo_scope.specs.Sizes.{is_nothing}
use Rattle.mo_scope.specs.Compatible.{compatible}
use Rattle.mo_scope.specs.Redeclarations.{Checked}
use Rattle.mo_scope.specs.Spoken.{spoken_in}
use Rattle.mo_instance.specs.Outer.{as_differing, has_condition, is_alike, is_matched, speaks_of}
use Rattle.mo_instance.specs.steps.Speeches.{Speech}
use Rattle.mo_syntax.specs.declared.rules.TheConstants.{INNER_DIFFERS, OUTSIDE_PROFILE}

-- an argument that gives something for a name
abbrev pub speaks_for : List ℕ → Speech → Bool
speaks_for name speech = bytes_eq speech.name name && not (is_nothing speech.claims)

-- It is `inner` too, or it has modifiers, a binding or a condition.
abbrev pub declared_wrongly : Member → Bool
declared_wrongly member = member.declares.flags.inner || not (holds_nothing member.declares.own) || has_condition member

-- a source of the frame of an element speaks of it
abbrev pub is_spoken_of : Table → Member → Bool
is_spoken_of table member = list_any (speaks_of member.name) (spoken_in table (sources_of member.home))

abbrev pub compared_frames : Table → Place → (inner : Frame) → (outer : Frame) → Checked
compared_frames table place inner outer = as_differing place (compatible table place inner outer)

-- an inner component in the place of an outer one, both entered
abbrev pub matched_children : Table → (outer : Member) → Child → (inner : Member) → Child → Checked
matched_children table outer outer_child inner inner_child =
    if is_alike table outer outer_child inner inner_child then
    compared_frames table outer.declares.place (component_frame inner [] inner_child) (component_frame outer [] outer_child)
    else breaks INNER_DIFFERS outer.declares.place

-- what is asked of the inner component
abbrev pub inner_asked : Table → (outer : Member) → (inner : Member) → Checked
inner_asked table outer inner = if has_condition inner then breaks OUTSIDE_PROFILE outer.declares.place else is_matched table outer inner
