-- Elements that are entered.
use Rattle.std.proofs.Common.{◌≡◌, ℕ, Bool, true, false, cond, List, [], length, Option, Some, None, Result, Ok, Err, refl, ap, sym, subst, ◌∙◌}
use Rattle.std.specs.Prelude.{option_map, IfSome}
use Rattle.mo_syntax.specs.Outcome.{Outcome, and_then, breaks}
use Rattle.mo_syntax.specs.declared.class.ComponentOf.{ComponentOf}
use Rattle.mo_syntax.specs.declared.class.Give.{Give}
use Rattle.mo_syntax.specs.declared.place.Stop.{Stop}
use Rattle.mo_syntax.specs.declared.meaning.FrameId.{FrameId}
use Rattle.mo_scope.specs.declared.row.Member.{Member as MemberAt}
use Rattle.mo_scope.specs.declared.saying.Redeclaration.{Redeclaration as RedeclarationAt}
use Rattle.mo_scope.specs.Outcome.{Gives}
use Rattle.mo_scope.specs.Rows.{Table, class_number, component_of, is_class}
use Rattle.mo_scope.specs.Frames.{Frame, Scope, Source, Member, looked_up, sources_of}
use Rattle.mo_scope.specs.Lookup.{asking_of, class_named, entered}
use Rattle.mo_scope.specs.Names.{Child, child_of_member, component_entered, component_frame, scope_of_home, typed_by}
use Rattle.mo_scope.specs.Parts.{Redeclaration, class_sources, component_sources, redeclared}
use Rattle.mo_scope.specs.Sights.{declares_seen, member_at, redeclaration_in, source_seen}
use Rattle.mo_scope.specs.Worlds.{World, SourceEntry, AreFrames, Grows, IsFrame, frame_at, frames_of, sources_in, table_in}
use Rattle.mo_scope.proofs.Numbered.{alike_sources, frames_stay, listed_gathered}
use Rattle.mo_names.specs.Calls.{IsComponentFrame, element_child_at}
use Rattle.mo_names.specs.Children.{child_at, class_child, component_child, type_by}
use Rattle.mo_names.specs.Sights.{IsMember}
use Rattle.mo_names.specs.declared.found.Child.{Child as ChildAt}
use Rattle.mo_lookup.proofs.Chains.{then_after}
use Rattle.mo_names.proofs.Later.{frame_later, is_frame_later, member_later, table_later}
use Rattle.mo_syntax.specs.declared.rules.TheConstants.{WRONG_KIND_OF_NAME}

-- ---- later worlds

pub redeclaration_later : (u v : World) (r : RedeclarationAt) → Grows u v → IsFrame u r.source.scope.frame.0 → redeclaration_in (frames_of v) r ≡ redeclaration_in (frames_of u) r
redeclaration_later u v r g at =
    ap (λ (f : Frame). record {
      declares = declares_seen r.declares;
      place = r.place;
      keeps = r.keeps;
      source = record { piece = (source_seen r.source).piece; scope = record { frame = f; iterations = (source_seen r.source).iterations } };
    }) (frame_later u v r.source.scope.frame.0 g at)

pub wins_later : (u v : World) (wins : Option RedeclarationAt) → Grows u v → IfSome wins (λ r. IsFrame u r.source.scope.frame.0) →
    option_map (redeclaration_in (frames_of v)) wins ≡ option_map (redeclaration_in (frames_of u)) wins
wins_later u v None g at = refl
wins_later u v (Some r) g at = ap (λ (x : Redeclaration). Some x) (redeclaration_later u v r g at)

pub wins_stand_later : (u v : World) (wins : Option RedeclarationAt) → Grows u v → IfSome wins (λ r. IsFrame u r.source.scope.frame.0) → IfSome wins (λ r. IsFrame v r.source.scope.frame.0)
wins_stand_later u v None g at = tt
wins_stand_later u v (Some r) g at = is_frame_later u v r.source.scope.frame.0 g at

pub sources_later : (u v : World) (xs : List SourceEntry) → Grows u v → AreFrames u xs → sources_in (frames_of v) xs ≡ sources_in (frames_of u) xs
sources_later u v xs g are = alike_sources (frames_of v) (frames_of u) (length u.entries) (frames_stay u v g) xs are

-- ---- frames of components

pub child_stays : (u v : World) (m : MemberAt) (index : List ℕ) (o : Outcome Child) → Grows u v → IsMember u m → element_child_at u m index ≡ o → element_child_at v m index ≡ o
child_stays u v m index o g is same =
    ap (λ t. child_of_member t (member_at v m) index) (table_later u v g) ∙ (ap (λ (x : Member). child_of_member (table_in u) x index) (member_later u v m g is) ∙ same)

pub entered_stays : (u v : World) (m : MemberAt) (index : List ℕ) (child : ChildAt) (frame : FrameId) → Grows u v → IsMember u m → element_child_at u m index ≡ Ok (child_at u child) → IsComponentFrame u v m index child frame →
    component_entered (table_in v) (member_at v m) index ≡ Ok (frame_at v frame.0)
entered_stays u v m index child frame g is own at =
    ap (λ t. component_entered t (member_at v m) index) (table_later u v g)
    ∙ (ap (λ (x : Member). component_entered (table_in u) x index) (member_later u v m g is)
    ∙ (ap (λ o. and_then o (λ child. Ok (component_frame (member_at u m) index child))) own
    ∙ ap (λ (f : Frame). Ok f) (sym at)))

-- ---- classes

looked_up_sources : (n : ℕ) (xs : List Source) (outer class : Frame) (o : Outcome Frame) → o ≡ Ok (looked_up n xs outer) → o ≡ Ok class → sources_of class ≡ xs
looked_up_sources n xs outer class o is same = let one : looked_up n xs outer ≡ class = cc in ap sources_of (sym one) ∙ listed_gathered xs

pub entered_sources : (table : Table) (member : Member) (class : Frame) → entered table member ≡ Ok class → sources_of class ≡ class_sources table member
entered_sources table member class = by (class_sources table member) refl (redeclared table (sources_of member.home) member.name []) refl
  where
    by_class : (b : Bool) (r : Redeclaration) → cond b (Ok (looked_up (class_number r.declares) (class_sources table member) r.source.scope.frame)) (breaks WRONG_KIND_OF_NAME r.place) ≡ Ok class → sources_of class ≡ class_sources table member
    by_class true r is = looked_up_sources (class_number r.declares) (class_sources table member) r.source.scope.frame class _ refl is
    by_class false r is = absurd cc

    by : (sources : List Source) → class_sources table member ≡ sources → (wins : Option Redeclaration) → redeclared table (sources_of member.home) member.name [] ≡ wins → entered table member ≡ Ok class → sources_of class ≡ sources
    by sources same None e = rw e (λ is. looked_up_sources (class_number member.declares) (class_sources table member) member.home class _ refl is ∙ same)
    by sources same (Some r) e = rw e (λ is. by_class (is_class r.declares) r is ∙ same)

pub class_child_is : (table : Table) (member : Member) (index : List ℕ) → component_of member.declares ≡ None → class_child table member index ≡ child_of_member table member index
class_child_is table member index none = rw none (by (entered table member) refl)
  where
    child : Frame → List Source → Child
    child class sources = record { declares = member.declares; redeclared = redeclared table (sources_of member.home) member.name index; class = class; sources = sources }

    by : (o : Outcome Frame) → entered table member ≡ o → and_then o (λ class. Ok (child class (class_sources table member))) ≡ and_then o (λ class. Ok (child class (sources_of class)))
    by (Ok class) e = ap (λ (s : List Source). Ok (child class s)) (sym (entered_sources table member class e))
    by (Err broken) e = refl

-- ---- components

pub component_child_is : (table : Table) (member : Member) (index : List ℕ) (component : ComponentOf Give) → component_of member.declares ≡ Some component →
    component_child table member index component ≡ child_of_member table member index
component_child_is table member index component some = rw some (by (redeclared table (sources_of member.home) member.name index))
  where
    child : Option Redeclaration → Frame → Child
    child wins class = record { declares = member.declares; redeclared = wins; class = class; sources = component_sources table member index class }

    by_named : (wins : Option Redeclaration) (scope : Scope) (type : ComponentOf Give) →
        and_then (and_then (class_named table (asking_of table) false scope type.base) (λ class. Ok class.frame)) (λ class. Ok (child wins class))
        ≡ and_then (class_named table (asking_of table) false scope type.base) (λ class. Ok (child wins class.frame))
    by_named wins scope type = sym (then_after (class_named table (asking_of table) false scope type.base) (λ class. Ok class.frame) (λ class. Ok (child wins class)))

    by : (wins : Option Redeclaration) → and_then (type_by table member component wins) (λ class. Ok (child wins class))
        ≡ and_then (typed_by member component wins) (λ typed. and_then (class_named table (asking_of table) false typed.1 typed.0.base) (λ class. Ok (child wins class.frame)))
    by None = by_named None (scope_of_home member) component
    by (Some r) = by_type (component_of r.declares) refl
      where
        by_type : (type : Option (ComponentOf Give)) → component_of r.declares ≡ type → and_then (type_by table member component (Some r)) (λ class. Ok (child (Some r) class))
            ≡ and_then (typed_by member component (Some r)) (λ typed. and_then (class_named table (asking_of table) false typed.1 typed.0.base) (λ class. Ok (child (Some r) class.frame)))
        by_type None e = rw e refl
        by_type (Some other) e = rw e (by_named (Some r) r.source.scope other)

-- ---- answers

pub component_gives : {T : Type 0} (view : T → Child) (r : Result T Stop) (table : Table) (member : Member) (index : List ℕ) (component : ComponentOf Give) → component_of member.declares ≡ Some component →
    Gives view r (component_child table member index component) → Gives view r (child_of_member table member index)
component_gives view r table member index component some gives = subst (Gives view r) (component_child_is table member index component some) gives

pub class_gives : {T : Type 0} (view : T → Child) (r : Result T Stop) (table : Table) (member : Member) (index : List ℕ) → component_of member.declares ≡ None →
    Gives view r (class_child table member index) → Gives view r (child_of_member table member index)
class_gives view r table member index none gives = subst (Gives view r) (class_child_is table member index none) gives
