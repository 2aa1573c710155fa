-- Compatibility of classes (Modelica Language Specification 3.5, sections 6.4 and 7.3.2), as far as this profile asks it.
use Rattle.std.specs.Prelude.{ℕ, zero, suc, ◌*◌, Bool, true, false, ◌&&◌, not, List, [], ◌∷◌, ◌++◌, find, Option, Some, None, Ok, if◌then◌else◌, nat_eq}
use Rattle.std.specs.List.{list_any}
use Rattle.std.specs.Str.{bytes_eq}
use Rattle.mo_syntax.specs.Outcome.{Outcome, and_then, breaks}
use Rattle.mo_syntax.specs.declared.class.Causal.{Causal}
use Rattle.mo_syntax.specs.declared.class.Causal.TheVariants.{None as NoCausality, Input, Output}
use Rattle.mo_syntax.specs.declared.class.ComponentOf.{ComponentOf}
use Rattle.mo_syntax.specs.declared.class.Give.{Give}
use Rattle.mo_syntax.specs.declared.class.Prefix.{Prefix}
use Rattle.mo_syntax.specs.declared.class.Vary.TheVariants.{Free}
use Rattle.mo_syntax.specs.declared.place.Place.{Place}
use Rattle.mo_scope.specs.Rows.{Table, number_of_classes, is_class, component_of}
use Rattle.mo_scope.specs.Frames.{Frame, Member, class_of, sources_of}
use Rattle.mo_scope.specs.Parts.{Redeclaration, redeclared}
use Rattle.mo_scope.specs.Lookup.{Walked, asking_of, members_in}
use Rattle.mo_scope.specs.Names.{Child, child_of_member, component_frame}
use Rattle.mo_scope.specs.Sizes.{declared_sizes, type_sizes, count_sizes, prefix_over}
use Rattle.mo_syntax.specs.declared.rules.TheConstants.{NOT_COMPATIBLE}

-- ---- prefixes and dimensions

abbrev pub no_prefix : Prefix
no_prefix = record { flow = false; stream = false; vary = Free; causal = NoCausality }

abbrev pub prefix_in : Option (ComponentOf Give) → Prefix
prefix_in None = no_prefix
prefix_in (Some component) = component.prefix

abbrev pub prefix_by : Member → Option Redeclaration → Prefix
prefix_by member None = prefix_in (component_of member.declares)
prefix_by member (Some redeclaration) = prefix_over (prefix_in (component_of redeclaration.declares)) (prefix_in (component_of member.declares))

-- the declared prefixes of a component; what its type adds does not count
abbrev pub prefix_of : Table → Member → Prefix
prefix_of table member = prefix_by member (redeclared table (sources_of member.home) member.name [])

abbrev pub causal_eq : Causal → Causal → Bool
causal_eq NoCausality NoCausality = true
causal_eq Input Input = true
causal_eq Output Output = true
causal_eq _ _ = false

abbrev pub bool_eq : Bool → Bool → Bool
bool_eq true b = b
bool_eq false b = not b

abbrev pub same_prefixes : Prefix → Prefix → Bool
same_prefixes a b = bool_eq a.flow b.flow && causal_eq a.causal b.causal

-- how many dimensions a component has, those of its type included
abbrev pub dimensions_of : Table → Member → Child → ℕ
dimensions_of table member child =
    count_sizes (declared_sizes member child.redeclared ++ type_sizes table child.class)

-- ---- components

abbrev pub is_open_component : Member → Bool
is_open_component member = not member.hidden && not (is_class member.declares)

-- the public component of that name
abbrev pub counterpart : List Member → Member → Option Member
counterpart members member = find (λ other. bytes_eq other.name member.name && is_open_component other) members

abbrev pub Compare : Type 0
Compare = Frame → Frame → Outcome (Unit {0})

-- of a component and its counterpart: the number of dimensions, then the types
abbrev pub same_types : Table → Compare → Place → Member → Member → Outcome (Unit {0})
same_types table compare place new wanted =
    and_then (child_of_member table new []) (λ new_child.
    and_then (child_of_member table wanted []) (λ wanted_child.
    if nat_eq (dimensions_of table new new_child) (dimensions_of table wanted wanted_child) then
    compare (component_frame new [] new_child) (component_frame wanted [] wanted_child)
    else breaks NOT_COMPATIBLE place))

abbrev pub is_matched : Table → Compare → Place → List Member → Member → Outcome (Unit {0})
is_matched table compare place members wanted = matched_by (counterpart members wanted)
  where
    matched_by : Option Member → Outcome (Unit {0})
    matched_by None = breaks NOT_COMPATIBLE place
    matched_by (Some new) =
        if same_prefixes (prefix_of table new) (prefix_of table wanted) then same_types table compare place new wanted else breaks NOT_COMPATIBLE place

-- each public component that is wanted has its counterpart
abbrev pub are_matched : Table → Compare → Place → List Member → List Member → Outcome (Unit {0})
are_matched table compare place members [] = Ok tt
are_matched table compare place members (wanted ∷ others) =
    and_then (if is_open_component wanted then is_matched table compare place members wanted else Ok tt)
    (λ _. are_matched table compare place members others)

-- ---- classes

-- two classes of which one is a leaf type are compatible where both are leaf types of one kind
abbrev pub compared : Table → Compare → Place → Walked → Walked → Outcome (Unit {0})
compared table compare place new wanted = compared_by new.leaf wanted.leaf
  where
    compared_by : Option Frame → Option Frame → Outcome (Unit {0})
    compared_by None None = are_matched table compare place (members_in new) (members_in wanted)
    compared_by (Some a) (Some b) = if nat_eq (class_of a) (class_of b) then Ok tt else breaks NOT_COMPATIBLE place
    compared_by a b = breaks NOT_COMPATIBLE place

-- a pair of classes that is being compared
abbrev pub Pairs : Type 0
Pairs = List (ℕ × ℕ)

abbrev pub is_pair : Pairs → Frame → Frame → Bool
is_pair pairs new wanted = list_any (λ pair. nat_eq pair.0 (class_of new) && nat_eq pair.1 (class_of wanted)) pairs

abbrev pub with_pair : Pairs → Frame → Frame → Pairs
with_pair pairs new wanted = (class_of new, class_of wanted) ∷ pairs

-- While the components of a pair are being compared, that pair counts as compatible.
abbrev pub compared_frames : Table → (Pairs → Compare) → Pairs → Place → Compare
compared_frames table next pairs place new wanted =
    if is_pair pairs new wanted then Ok tt else
    and_then ((asking_of table).elements place new) (λ new_walked.
    and_then ((asking_of table).elements place wanted) (λ wanted_walked.
    compared table (next (with_pair pairs new wanted)) place new_walked wanted_walked))

-- The number tells how many pairs are not being compared. Where none is left, this pair is being compared.
unfoldable pub compatible_from : Table → ℕ → Place → Pairs → Frame → Frame → Outcome (Unit {0})
compatible_from table zero place pairs new wanted = Ok tt
compatible_from table (suc left) place pairs new wanted =
    compared_frames table (compatible_from table left place) pairs place new wanted

-- The new class is compatible with the wanted one, or a rule is broken; that it is not is rule 25 at the place.
abbrev pub compatible : Table → Place → Frame → Frame → Outcome (Unit {0})
compatible table place new wanted = compatible_from table (number_of_classes table * number_of_classes table) place [] new wanted
