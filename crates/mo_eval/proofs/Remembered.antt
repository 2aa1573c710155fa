-- What a reader keeps of components.
use Rattle.std.proofs.Common.{◌≡◌, ℕ, zero, suc, Bool, true, false, List, [], ◌∷◌, ◌++◌, Option, Some, None, Ok, Err, refl, ap, sym, subst, ◌∙◌}
use Rattle.std.specs.Prelude.{IfSome, slice_get}
use Rattle.std.proofs.Math.ListN.{set}
use Rattle.mo_syntax.specs.Outcome.{Outcome, breaks}
use Rattle.mo_syntax.specs.declared.meaning.Kind.{Kind}
use Rattle.mo_syntax.specs.declared.place.Place.{Place}
use Rattle.mo_scope.specs.Frames.{Member}
use Rattle.mo_scope.specs.Parts.{Picked, picked_here}
use Rattle.mo_scope.specs.Names.{Child, child_of_member}
use Rattle.mo_scope.specs.Rows.{Table}
use Rattle.mo_scope.specs.Sights.{declares_seen}
use Rattle.mo_scope.specs.Worlds.{World, frame_in, frames_of, table_in}
use Rattle.mo_scope.proofs.KeptComponents.{same_own}
use Rattle.mo_scope.specs.declared.row.Member.{Member as MemberAt}
use Rattle.mo_names.specs.Sights.{IsMember, member_of}
use Rattle.mo_syntax.specs.declared.rules.TheConstants.{NO_VALUE}
use Rattle.mo_typing.specs.Indices.{Index}
use Rattle.mo_eval.specs.Components.{binding_of}
use Rattle.mo_eval.specs.Keeping.{IsBinding, IsBindingKept, bound_seen}
use Rattle.mo_eval.specs.References.{is_replaced}
use Rattle.mo_values.specs.Scalars.{Known}
use Rattle.mo_eval.specs.Values.{reading, resolved_for_value, value_of_element}
use Rattle.mo_eval.specs.Virtuals.{Element}
use Rattle.mo_eval.specs.declared.reader.KeptBinding.{KeptBinding}
use Rattle.mo_eval.specs.declared.reader.Bound.{Bound}
use Rattle.mo_eval.specs.steps.Asking.{unbound}
use Rattle.mo_eval.proofs.Bindings.{bound_is, unbound_is}

abbrev pub or_this : {A : Type 0} → A → Option A → A
or_this d (Some x) = x
or_this d None = d

-- what holds of all, and of one more
pub each_pushed : {A : Type 0} (P : A → Type 0) (xs : List A) (y : A) → ((k : ℕ) (x : A) → slice_get xs k ≡ Some x → P x) → P y →
    (k : ℕ) (x : A) → slice_get (xs ++ y ∷ []) k ≡ Some x → P x
each_pushed P [] y each is zero x at = subst P (ap (or_this y) at) is
each_pushed {A = A} P [] y each is (suc k) x at = absurd (let clash : ◌≡◌ {A = Option A} None (Some x) = at in cc)
each_pushed P (z ∷ xs) y each is zero x at = each zero x at
each_pushed P (z ∷ xs) y each is (suc k) x at = each_pushed P xs y (λ j w h. each (suc j) w h) is k x at

-- and of all but one, in whose place another one stands
pub each_set : {A : Type 0} (P : A → Type 0) (xs : List A) (i : ℕ) (y : A) → ((k : ℕ) (x : A) → slice_get xs k ≡ Some x → P x) → P y →
    (k : ℕ) (x : A) → slice_get (set xs i y) k ≡ Some x → P x
each_set P [] i y each is k x at = each k x at
each_set P (z ∷ xs) zero y each is zero x at = subst P (ap (or_this y) at) is
each_set P (z ∷ xs) zero y each is (suc k) x at = each (suc k) x at
each_set P (z ∷ xs) (suc i) y each is zero x at = each zero x at
each_set P (z ∷ xs) (suc i) y each is (suc k) x at = each_set P xs i y (λ j w h. each (suc j) w h) is k x at

-- ---- one component

pub same_member : (world : World) (a b : MemberAt) → a.home.0 ≡ b.home.0 → a.item ≡ b.item → a.hidden ≡ b.hidden → IsMember world a → IsMember world b → member_of (frames_of world) a ≡ member_of (frames_of world) b
same_member world a b home item hidden is also =
    same_own (table_in world) a.name.now b.name.now (frame_in (frames_of world) a.home.0) (frame_in (frames_of world) b.home.0) a.item b.item a.hidden b.hidden (declares_seen a.declares) (declares_seen b.declares)
    (ap (frame_in (frames_of world)) home) item hidden is.own also.own

-- ---- one element, wherever the reference stands

abbrev pub element_with : Member → Index → Kind → Bool → Place → Element
element_with member index kind constant place = record { member = member; index = index; kind = kind; place = place; constant = constant }

pub value_anywhere : (table : Table) (left : ℕ) (member : Member) (index : Index) (kind : Kind) (constant : Bool) (p q : Place) (known : Known) →
    value_of_element table left (element_with member index kind constant p) ≡ Ok known → value_of_element table left (element_with member index kind constant q) ≡ Ok known
value_anywhere table left member index kind constant p q known h = go (child_of_member table member index) refl
  where
    replaced : (b : Bool) → is_replaced (element_with member index kind constant p) ≡ b → unbound (element_with member index kind constant p) ≡ Ok known → unbound (element_with member index kind constant q) ≡ Ok known
    replaced true e k = absurd (let clash : ◌≡◌ {A = Outcome Known} (breaks NO_VALUE p) (Ok known) = (rw e at k) in cc)
    replaced false e k = rw e (rw e at k)

    among : (child : Child) (o : Option Picked) → child_of_member table member index ≡ Ok child → picked_here child.sources ≡ o →
        value_of_element table left (element_with member index kind constant q) ≡ Ok known
    among child None found none =
        unbound_is table (reading table left) (element_with member index kind constant q) child found none
        ∙ replaced (is_replaced (element_with member index kind constant p)) refl (sym (unbound_is table (reading table left) (element_with member index kind constant p) child found none) ∙ h)
    among child (Some picked) found some =
        bound_is table (reading table left) (element_with member index kind constant q) child picked found some
        ∙ (sym (bound_is table (reading table left) (element_with member index kind constant p) child picked found some) ∙ h)

    go : (o : Outcome Child) → child_of_member table member index ≡ o → value_of_element table left (element_with member index kind constant q) ≡ Ok known
    go (Ok child) found = among child (picked_here child.sources) found refl
    go (Err broken) found = absurd (let clash : ◌≡◌ {A = Outcome Known} (Err broken) (Ok known) = (rw found at h) in cc)

pub value_same : (table : Table) (left : ℕ) (m n : Member) (i j : Index) (k l : Kind) (b c : Bool) (p q : Place) (known : Known) → m ≡ n → i ≡ j → k ≡ l → b ≡ c →
    value_of_element table left (element_with m i k b p) ≡ Ok known → value_of_element table left (element_with n j l c q) ≡ Ok known
value_same table left m n i j k l b c p q known members indices kinds constants h =
    sym
    (ap (λ x. value_of_element table left (element_with x i k b q)) members
    ∙ (ap (λ x. value_of_element table left (element_with n x k b q)) indices
    ∙ (ap (λ x. value_of_element table left (element_with n j x b q)) kinds ∙ ap (λ x. value_of_element table left (element_with n j l x q)) constants)))
    ∙ value_anywhere table left m i k b p q known h

-- ---- one binding

-- the binding that is kept in a row of a component
pub taken : (world : World) (left : ℕ) (member : MemberAt) (row : KeptBinding) (result : Option Bound) → IsBindingKept world row → row.left ≡ left →
    member_of (frames_of world) row.member ≡ member_of (frames_of world) member → result ≡ row.bound → IfSome result (IsBinding world left member)
taken world left member row None kept same members is = tt
taken world left member row (Some bound) kept same members is =
    let one : IsBinding world row.left row.member bound = kept.is bound (sym is) in
    record {
      there = one.there;
      layers = one.layers;
      is = λ index picked at. subst (λ (n : ℕ). resolved_for_value (table_in world) n picked.scope picked.value ≡ Ok (bound_seen (frames_of world) bound)) same
          (one.is index picked (ap (λ m. binding_of (table_in world) m index) members ∙ at));
    }
