-- What one component is asked for, one step after another.
use Rattle.std.proofs.Common.{◌≡◌, ℕ, Bool, true, false, [], Ok, Err, Result, refl, ap, sym, ◌∙◌}
use Rattle.std.specs.Prelude.{if◌then◌else◌}
use Rattle.mo_syntax.specs.Outcome.{Outcome, and_then}
use Rattle.mo_syntax.specs.declared.place.Stop.{Stop}
use Rattle.mo_syntax.specs.declared.place.Stop.TheVariants.{Broken as broken_by, NoMemory as no_memory}
use Rattle.mo_scope.specs.declared.row.Member.{Member as MemberAt}
use Rattle.mo_scope.specs.Compatible.{prefix_of}
use Rattle.mo_scope.specs.Frames.{Frame, Member}
use Rattle.mo_scope.specs.Names.{Child, child_of_member}
use Rattle.mo_scope.specs.Outcome.{Gives}
use Rattle.mo_scope.specs.Redeclarations.{Checked}
use Rattle.mo_scope.specs.Rows.{Table, is_class}
use Rattle.mo_scope.specs.Worlds.{World, Grows, IsFrame, frame_at, frames_of, table_in}
use Rattle.mo_names.specs.Sights.{IsMember, member_of}
use Rattle.mo_names.proofs.Later.{frame_later, grows_trans, member_later, table_later}
use Rattle.mo_typing.specs.Dims.{Dims}
use Rattle.mo_typing.specs.Outcome.{Gives as GivesValue}
use Rattle.mo_eval.specs.Values.{most_references, there_of, component_dims}
use Rattle.mo_instance.specs.Elements.{Around, around_parts}
use Rattle.mo_instance.specs.Outer.{outer_checked}
use Rattle.mo_instance.specs.Prefixes.{prefix_in_profile}
use Rattle.mo_instance.specs.steps.Instances.{component_asked, component_class, is_entered}

-- ---- answers of a reader

pub gives_value : {T : Type 0} (r : Result T Stop) (o : Outcome T) → GivesValue r o → Gives (λ value. value) r o
gives_value (Ok value) o is = is
gives_value (Err (broken_by b)) o is = is
gives_value (Err no_memory) o is = tt

pub breaks_value : {T U B : Type 0} (view : U → B) (e : Stop) (o : Outcome T) (f : T → Outcome B) (all : Outcome B) → GivesValue (Err e) o → and_then o f ≡ all → Gives view (Err e) all
breaks_value view (broken_by b) o f all is left = sym left ∙ ap (λ x. and_then x f) is
breaks_value view no_memory o f all is left = tt

-- ---- a component

module _ (table : Table) (around : Around) (member : Member) where
  abbrev pub behind_class : Frame → Outcome (Around × Dims)
  behind_class class = and_then {A = Dims} {B = Around × Dims} (component_dims table most_references member) (λ dims. Ok (around_parts table around member class, dims))

  pub asked_is : and_then (component_class table member) behind_class ≡ component_asked table around member
  asked_is = by (prefix_in_profile member.declares.place (prefix_of table member)) (child_of_member table member [])
    where
      by : (a : Checked) (b : Outcome Child) →
          and_then (and_then a (λ _. and_then b (λ child. Ok child.class))) behind_class ≡ and_then a (λ _. and_then b (λ child. behind_class child.class))
      by (Err x) b = refl
      by (Ok u) (Err x) = refl
      by (Ok u) (Ok child) = refl

  pub class_asked : (class : Frame) → component_class table member ≡ Ok class → behind_class class ≡ component_asked table around member
  class_asked class is = sym (ap (λ (o : Outcome Frame). and_then o behind_class) is) ∙ asked_is

pub dims_before : (u v : World) (m : MemberAt) → Grows u v → IsMember u m →
    component_dims (table_in v) most_references (member_of (frames_of v) m) ≡ component_dims (table_in u) most_references (member_of (frames_of u) m)
dims_before u v m g is =
    ap (λ (t : Table). component_dims t most_references (member_of (frames_of v) m)) (table_later u v g)
    ∙ ap (component_dims (table_in u) most_references) (member_later u v m g is)

pub around_before : (u v w : World) (around : Around) (m : MemberAt) (class : ℕ) → Grows u v → Grows v w → IsMember u m → IsFrame v class →
    around_parts (table_in w) around (member_of (frames_of w) m) (frame_at w class) ≡ around_parts (table_in u) around (member_of (frames_of u) m) (frame_at v class)
around_before u v w around m class g h is there =
    ap (λ (t : Table). around_parts t around (member_of (frames_of w) m) (frame_at w class)) (table_later u w (grows_trans u v w g h))
    ∙ ap (λ (x : Member). around_parts (table_in u) around x (frame_at w class)) (member_later u w m (grows_trans u v w g h) is)
    ∙ ap (around_parts (table_in u) around (member_of (frames_of u) m)) (frame_later v w class h there)

abbrev ok_pair : Around → Dims → Outcome (Around × Dims)
ok_pair a dims = Ok (a, dims)

-- what is asked of a component is answered
pub answered : (u v w : World) (around below : Around) (m : MemberAt) (class : ℕ) (dims : Dims) → Grows u v → Grows v w → IsMember u m → IsFrame v class →
    component_class (table_in u) (member_of (frames_of u) m) ≡ Ok (frame_at v class) →
    component_dims (table_in v) most_references (member_of (frames_of v) m) ≡ Ok dims →
    below ≡ around_parts (table_in w) around (member_of (frames_of w) m) (frame_at w class) →
    component_asked (table_in u) around (member_of (frames_of u) m) ≡ Ok (below, dims)
answered u v w around below m class dims g h is there found sized made =
    sym (class_asked (table_in u) around (member_of (frames_of u) m) (frame_at v class) found)
    ∙ ap (λ (o : Outcome Dims). and_then {A = Dims} {B = Around × Dims} o (λ dims. Ok (around_parts (table_in u) around (member_of (frames_of u) m) (frame_at v class), dims))) (sym (dims_before u v m g is) ∙ sized)
    ∙ ap (λ (a : Around). ok_pair a dims) (sym (made ∙ around_before u v w around m class g h is there))

-- ---- whether an element is entered

module _ (table : Table) (member : Member) where
  abbrev by_outer : Bool → Outcome Bool
  by_outer outer = if outer then and_then (outer_checked table member) (λ _. Ok false) else there_of table most_references member

  pub entered_class : is_class member.declares ≡ true → is_entered table member ≡ Ok false
  entered_class is = ap (λ b. if b then Ok false else by_outer member.declares.flags.outer) is

  pub entered_outer : is_class member.declares ≡ false → member.declares.flags.outer ≡ true → and_then (outer_checked table member) (λ _. Ok false) ≡ is_entered table member
  entered_outer is outer = sym (ap (λ b. if b then Ok false else by_outer member.declares.flags.outer) is ∙ ap by_outer outer)

  pub entered_there : is_class member.declares ≡ false → member.declares.flags.outer ≡ false → there_of table most_references member ≡ is_entered table member
  entered_there is inner = sym (ap (λ b. if b then Ok false else by_outer member.declares.flags.outer) is ∙ ap by_outer inner)
