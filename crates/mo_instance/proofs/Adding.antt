-- What the walk adds, where frames have numbers and worlds grow.
use Rattle.std.proofs.Common.{◌≡◌, ℕ, ◌+◌, ◌-◌, ◌<◌, Bool, true, false, List, [], ◌∷◌, ◌++◌, length, map, drop, Ok, Err, ap, sym, ◌∙◌}
use Rattle.std.specs.Prelude.{if◌then◌else◌, nat_eq}
use Rattle.std.specs.List.{list_any}
use Rattle.std.proofs.lemmas.List.{map-append}
use Rattle.mo_syntax.specs.Outcome.{Outcome, and_then}
use Rattle.mo_syntax.specs.declared.place.Stop.{Stop}
use Rattle.mo_scope.specs.declared.instance.Instance.{Instance as InstanceAt}
use Rattle.mo_scope.specs.declared.row.Member.{Member as MemberAt}
use Rattle.mo_scope.specs.Frames.{Member}
use Rattle.mo_scope.specs.Instances.{Instance}
use Rattle.mo_scope.specs.Lookup.{Walked}
use Rattle.mo_scope.specs.Outcome.{Gives}
use Rattle.mo_scope.specs.Places.{Every}
use Rattle.mo_scope.specs.Rows.{Table}
use Rattle.mo_scope.specs.Trees.{instance_in, instances_in}
use Rattle.mo_scope.specs.Worlds.{World, Grows, frames_of, table_in}
use Rattle.mo_names.specs.declared.walk.Walk.{Walk as WalkAt}
use Rattle.mo_names.specs.Sights.{IsMember, inherited_seen, member_of, walk_seen}
use Rattle.mo_names.proofs.Later.{table_later}
use Rattle.mo_typing.specs.Dims.{Dims}
use Rattle.mo_typing.specs.Indices.{Index}
use Rattle.mo_instance.specs.Elements.{Around}
use Rattle.mo_instance.specs.Instances.{component_entered, deeper, element_entered, member_entered, parts_entered}
use Rattle.mo_instance.specs.steps.Sights.{IsEntered}
use Rattle.mo_instance.specs.steps.Instances.{component_asked, element_made, elements_to, elements_under, is_entered, members_added}
use Rattle.mo_instance.proofs.Later.{instances_later}
use Rattle.mo_instance.proofs.Lists.{broken_on, length_mapped}
use Rattle.mo_instance.proofs.Walking.{component_before, element_is, elements_next, member_is, none_added, some_depth, under_all, under_before}

-- ---- one element

element_counted : (u : World) (around : Around) (member : Member) (dims : Dims) (index : Index) (old : List InstanceAt) (count : ℕ) → count ≡ length old →
    element_made (table_in u) around member dims index (length (instances_in u old)) ≡ element_made (table_in u) around member dims index count
element_counted u around member dims index old count counted =
    ap (element_made (table_in u) around member dims index) (length_mapped (instance_in (frames_of u)) old ∙ sym counted)

pub element_added : (u v : World) (left : ℕ) (around : Around) (member : Member) (dims : Dims) (index : Index) (old new : List InstanceAt) (one : InstanceAt) (walk : WalkAt) (count : ℕ) →
    Grows u v → Every (IsEntered u) old → count ≡ length old → new ≡ old ++ one ∷ [] →
    element_made (table_in u) around member dims index count ≡ Ok (instance_in (frames_of v) one, walk_seen (frames_of v) walk) →
    members_added (table_in v) left around (map (inherited_seen (frames_of v)) walk.members) (instances_in v new)
    ≡ element_entered (table_in u) (parts_entered (table_in u) (deeper (table_in u) left)) around member dims index (instances_in u old)
element_added u v left around member dims index old new one walk count g are counted is made =
    ap (λ (t : Table). members_added t left around (map (inherited_seen (frames_of v)) walk.members) (instances_in v new)) (table_later u v g)
    ∙ ap (λ (so_far : List Instance). members_added (table_in u) left around (map (inherited_seen (frames_of v)) walk.members) so_far)
    (ap (instances_in v) is ∙ map-append (instance_in (frames_of v)) old (one ∷ []) ∙ ap (λ (so_far : List Instance). so_far ++ instance_in (frames_of v) one ∷ []) (instances_later u v old g are))
    ∙ sym (ap (λ (o : Outcome (Instance × Walked)). and_then o (λ made. parts_entered (table_in u) (deeper (table_in u) left) around made.1 (instances_in u old ++ made.0 ∷ [])))
    (element_counted u around member dims index old count counted ∙ made))
    ∙ element_is (table_in u) (parts_entered (table_in u) (deeper (table_in u) left)) around member dims index (instances_in u old)

pub element_broken : {T U : Type 0} (view : T → Instance × Walked) (view' : U → List Instance) (u : World) (left : ℕ) (around : Around) (member : Member) (dims : Dims) (index : Index) (old : List InstanceAt) (count : ℕ) (e : Stop) →
    count ≡ length old → Gives view (Err e) (element_made (table_in u) around member dims index count) →
    Gives view' (Err e) (element_entered (table_in u) (parts_entered (table_in u) (deeper (table_in u) left)) around member dims index (instances_in u old))
element_broken view view' u left around member dims index old count e counted gives =
    broken_on view view' e (element_made (table_in u) around member dims index count) (λ made. parts_entered (table_in u) (deeper (table_in u) left) around made.1 (instances_in u old ++ made.0 ∷ [])) _ gives
    (ap (λ (o : Outcome (Instance × Walked)). and_then o (λ made. parts_entered (table_in u) (deeper (table_in u) left) around made.1 (instances_in u old ++ made.0 ∷ [])))
    (sym (element_counted u around member dims index old count counted))
    ∙ element_is (table_in u) (parts_entered (table_in u) (deeper (table_in u) left)) around member dims index (instances_in u old))

-- ---- the elements of a component

-- one number more
pub under_next : (u v : World) (left : ℕ) (around : Around) (m : MemberAt) (dims : Dims) (before : Index) (n : ℕ) (index : Index) (now : List InstanceAt) (start : List Instance) →
    Grows u v → IsMember u m → index ≡ before ++ (n + 1) ∷ [] →
    elements_to (table_in u) (parts_entered (table_in u) (deeper (table_in u) left)) around (member_of (frames_of u) m) dims before n start ≡ Ok (instances_in v now) →
    elements_under (table_in v) (parts_entered (table_in v) (deeper (table_in v) left)) around (member_of (frames_of v) m) dims index (drop (length index) dims) (instances_in v now)
    ≡ elements_to (table_in u) (parts_entered (table_in u) (deeper (table_in u) left)) around (member_of (frames_of u) m) dims before (n + 1) start
under_next u v left around m dims before n index now start g is same so_far =
    under_before u v left around m dims index (drop (length index) dims) (instances_in v now) g is
    ∙ ap (λ (ix : Index). elements_under (table_in u) (parts_entered (table_in u) (deeper (table_in u) left)) around (member_of (frames_of u) m) dims ix (drop (length ix) dims) (instances_in v now)) same
    ∙ sym (ap (λ (o : Outcome (List Instance)). and_then o (elements_under (table_in u) (parts_entered (table_in u) (deeper (table_in u) left)) around (member_of (frames_of u) m) dims (before ++ (n + 1) ∷ []) (drop (length (before ++ (n + 1) ∷ [])) dims))) so_far)
    ∙ sym (elements_next (table_in u) (parts_entered (table_in u) (deeper (table_in u) left)) around (member_of (frames_of u) m) dims before n start)

-- ---- one component

pub component_added : (u v : World) (left : ℕ) (around : Around) (m : MemberAt) (asked : Around × Dims) (old : List InstanceAt) →
    Grows u v → IsMember u m → Every (IsEntered u) old → component_asked (table_in u) around (member_of (frames_of u) m) ≡ Ok asked → 0 < left →
    elements_under (table_in v) (parts_entered (table_in v) (deeper (table_in v) (left - 1))) asked.0 (member_of (frames_of v) m) asked.1 [] asked.1 (instances_in v old)
    ≡ component_entered (table_in u) (deeper (table_in u) left) around (member_of (frames_of u) m) (instances_in u old)
component_added u v left around m asked old g is are found some =
    under_before u v (left - 1) asked.0 m asked.1 [] asked.1 (instances_in v old) g is
    ∙ ap (λ (so_far : List Instance). elements_under (table_in u) (parts_entered (table_in u) (deeper (table_in u) (left - 1))) asked.0 (member_of (frames_of u) m) asked.1 [] asked.1 so_far) (instances_later u v old g are)
    ∙ under_all (table_in u) (parts_entered (table_in u) (deeper (table_in u) (left - 1))) asked.0 (member_of (frames_of u) m) asked.1 (instances_in u old)
    ∙ some_depth (table_in u) left around (member_of (frames_of u) m) (instances_in u old) asked found some

-- a component without elements
pub component_empty : (u v : World) (left : ℕ) (around : Around) (member : Member) (asked : Around × Dims) (old : List InstanceAt) →
    Grows u v → Every (IsEntered u) old → component_asked (table_in u) around member ≡ Ok asked → 0 < left → list_any (λ n. nat_eq n 0) asked.1 ≡ true →
    component_entered (table_in u) (deeper (table_in u) left) around member (instances_in u old) ≡ Ok (instances_in v old)
component_empty u v left around member asked old g are found some none =
    sym (some_depth (table_in u) left around member (instances_in u old) asked found some)
    ∙ none_added (table_in u) (parts_entered (table_in u) (deeper (table_in u) (left - 1))) asked.0 member asked.1 (instances_in u old) none
    ∙ ap (λ (so_far : List Instance). Ok so_far) (sym (instances_later u v old g are))

-- ---- one element of a frame

pub member_added : (u v : World) (left : ℕ) (around : Around) (m : MemberAt) (old : List InstanceAt) → Grows u v → IsMember u m → Every (IsEntered u) old →
    is_entered (table_in u) (member_of (frames_of u) m) ≡ Ok true →
    component_entered (table_in v) (deeper (table_in v) left) around (member_of (frames_of v) m) (instances_in v old)
    ≡ member_entered (table_in u) (deeper (table_in u) left) around (member_of (frames_of u) m) (instances_in u old)
member_added u v left around m old g is are entered =
    component_before u v left around m (instances_in v old) g is
    ∙ ap (component_entered (table_in u) (deeper (table_in u) left) around (member_of (frames_of u) m)) (instances_later u v old g are)
    ∙ sym (ap (λ (o : Outcome Bool). and_then o (λ is. if is then component_entered (table_in u) (deeper (table_in u) left) around (member_of (frames_of u) m) (instances_in u old) else Ok (instances_in u old))) entered)
    ∙ member_is (table_in u) (deeper (table_in u) left) around (member_of (frames_of u) m) (instances_in u old)

pub member_left_out : (u v : World) (left : ℕ) (around : Around) (member : Member) (old : List InstanceAt) → Grows u v → Every (IsEntered u) old →
    is_entered (table_in u) member ≡ Ok false → member_entered (table_in u) (deeper (table_in u) left) around member (instances_in u old) ≡ Ok (instances_in v old)
member_left_out u v left around member old g are entered =
    sym (member_is (table_in u) (deeper (table_in u) left) around member (instances_in u old))
    ∙ ap (λ (o : Outcome Bool). and_then o (λ is. if is then component_entered (table_in u) (deeper (table_in u) left) around member (instances_in u old) else Ok (instances_in u old))) entered
    ∙ ap (λ (so_far : List Instance). Ok so_far) (sym (instances_later u v old g are))
