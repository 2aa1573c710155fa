-- What the names of references find, as the code holds it: words of the contracts inside this crate alone.
use Rattle.std.specs.Prelude.{List, ◌++◌, length, map, Ok, if◌then◌else◌, nat_eq}
use Rattle.mo_syntax.specs.Outcome.{Outcome, and_then, breaks}
use Rattle.mo_syntax.specs.declared.expr.Expr.{Expr}
use Rattle.mo_syntax.specs.declared.expr.PartOf.{PartOf}
use Rattle.mo_scope.specs.Frames.{Frame, Member}
use Rattle.mo_scope.specs.Lookup.{Found}
use Rattle.mo_scope.specs.Places.{Every}
use Rattle.mo_scope.specs.Rows.{Table}
use Rattle.mo_scope.specs.Worlds.{World}
use Rattle.mo_names.specs.Sights.{IsFound, IsMember, found_in, member_of}
use Rattle.mo_syntax.specs.declared.rules.TheConstants.{WRONG_TYPE}
use Rattle.mo_typing.specs.Subscripts.{Checked, fine}
use Rattle.mo_eval.specs.declared.names.Name.{Name}
use Rattle.mo_eval.specs.declared.names.Referred.{Referred}
use Rattle.mo_eval.specs.declared.names.Referred.TheVariants.{Components as components_at, Other as other_at}
use Rattle.mo_eval.specs.Contexts.{Part}
use Rattle.mo_eval.specs.References.{Named, Components, Found_at, named_from, number_of_dims}
use Rattle.mo_eval.specs.steps.Parts.{as_identifier}

-- a component with its identifier
abbrev pub name_seen : (Expr → Part) → List Frame → Name → Member × PartOf Part
name_seen part frames name = (member_of frames name.member, as_identifier part name.part.now)

abbrev pub names_seen : (Expr → Part) → List Frame → List Name → List (Member × PartOf Part)
names_seen part frames names = map (name_seen part frames) names

abbrev pub referred_seen : (Expr → Part) → List Frame → Referred → Named
referred_seen part frames (components_at names) = Components (names_seen part frames names)
referred_seen part frames (other_at found place) = Found_at (found_in frames found) place

-- with the components before
abbrev pub named_behind : List (Member × PartOf Part) → Named → Named
named_behind before (Components names) = Components (before ++ names)
named_behind before (Found_at found place) = Found_at found place

-- their components exist
abbrev pub AreNames : World → List Name → Type 0
AreNames world names = Every (λ name. IsMember world name.member) names

-- the components exist, and so does what else was found
abbrev pub IsReferred : World → Referred → Type 0
IsReferred world (components_at names) = AreNames world names
IsReferred world (other_at found place) = IsFound world found

-- what comes of the identifiers that are left, behind the names so far
abbrev pub named_on : Table → List (Member × PartOf Part) → Found → PartOf Part → List (PartOf Part) → Outcome Named
named_on table before found part parts = and_then (named_from table found part parts) (λ named. Ok (named_behind before named))

abbrev pub counted_in : Table → Member → PartOf Expr → Checked
counted_in table member part = and_then (number_of_dims table member) (λ n. if nat_eq n (length part.subs) then fine else breaks WRONG_TYPE part.place)
