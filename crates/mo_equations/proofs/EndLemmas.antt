-- What the ends of connects hold.
use Rattle.std.proofs.Common.{◌≡◌, ℕ, zero, suc, ◌<◌, List, [], ◌∷◌, map, Option, Some, None, Ok, Err, All, refl, sym, ap, ◌∙◌, subst, arith}
use Rattle.mo_syntax.specs.Outcome.{Outcome, and_then}
use Rattle.mo_syntax.specs.declared.expr.Expr.{Expr}
use Rattle.mo_syntax.specs.declared.expr.ReferenceOf.{ReferenceOf}
use Rattle.mo_syntax.specs.declared.place.Broken.{Broken}
use Rattle.mo_syntax.specs.declared.place.Place.{Place}
use Rattle.mo_flat.specs.declared.connect.End.{End}
use Rattle.mo_flat.specs.declared.connect.EndLeaf.{EndLeaf}
use Rattle.mo_flat.specs.declared.connect.Side.{Side}
use Rattle.mo_flat.specs.declared.connect.Side.TheVariants.{Inside, Outside, Neither}
use Rattle.mo_flat.specs.SoundConnects.{AreDistinct}
use Rattle.mo_scope.specs.Frames.{Indexed, Member, Scope, at_of}
use Rattle.mo_scope.specs.Names.{path_below}
use Rattle.mo_typing.specs.Indices.{Index}
use Rattle.mo_typing.specs.Subscripts.{subscripts}
use Rattle.mo_eval.specs.References.{Named, Components, Found_at, handed_in, named}
use Rattle.mo_equations.specs.Leaves.{Tree, variables_of}
use Rattle.mo_equations.specs.Connectors.{leaves_below}
use Rattle.mo_eval.specs.Ends.{Selected, first_identifier, selected_from, unless_removed, with_parts}
use Rattle.mo_equations.specs.Ends.{end_of, end_with, leaves_of, no_connector, side_of}
use Rattle.mo_equations.proofs.Below.{Differ_paths, IsLeafOf, leaf_below, leaves_are_distinct}
use Rattle.mo_equations.proofs.Numbers.{Among}

-- ---- outcomes

-- a value behind an outcome comes of its value
pub record Comes {A B : Type 0} (o : Outcome A) (f : A → Outcome B) (b : B) : Type 0 where
  pub value : A
  pub first : o ≡ Ok value
  pub then_is : f value ≡ Ok b

pub comes : {A B : Type 0} (o : Outcome A) (f : A → Outcome B) (b : B) → and_then o f ≡ Ok b → Comes o f b
comes (Ok a) f b h = record { value = a; first = refl; then_is = h }
comes (Err broken) f b h = err_is_ok broken b h
  where
    err_is_ok : {A B : Type 0} (broken : Broken) (b : B) → Err broken ≡ Ok b → A
    err_is_ok {A} {B} broken b e = absurd (subst is_err e tt)
      where
        is_err : Outcome B → Type 0
        is_err (Ok x) = ⊥
        is_err (Err x) = Unit {0}

ok_one : {A : Type 0} (a b : A) (o : Outcome A) → o ≡ Ok a → o ≡ Ok b → a ≡ b
ok_one {A} a b o p q = ap value_in (sym p ∙ q)
  where
    value_in : Outcome A → A
    value_in (Ok x) = x
    value_in (Err x) = a

abbrev good : {A : Type 0} → A → Outcome (Option A)
good a = Ok (Some a)

abbrev absent : (A : Type 0) → Outcome (Option A)
absent A = Ok None

-- ---- elements of an end

-- the leaves of an element of an end
pub record AreOf (tree : Tree) (leaves : List EndLeaf) : Type 0 where
  pub distinct : AreDistinct leaves
  pub each : (leaf : EndLeaf) → Among leaves leaf → (path : Indexed) × IsLeafOf tree (variables_of tree) path leaf

nothing_of : (tree : Tree) → AreOf tree []
nothing_of tree = record {
  distinct = λ j k a b p q e. let within : j < 0 = p.within in absurd (omega arith);
  each = λ leaf a. absurd a;
}

below_of : (tree : Tree) → Differ_paths tree.instances → (path : Indexed) → AreOf tree (leaves_below tree path)
below_of tree h path = record {
  distinct = leaves_are_distinct tree path h;
  each = λ leaf a. (path, leaf_below tree path leaf a);
}

leaves_are_of : (tree : Tree) → Differ_paths tree.instances → (element : Member × Index) → AreOf tree (leaves_of tree element)
leaves_are_of tree h element = at_path (path_below (at_of element.0.home) element.0.name element.1) refl
  where
    at_path : (found : Option Indexed) → path_below (at_of element.0.home) element.0.name element.1 ≡ found → AreOf tree (leaves_of tree element)
    at_path None is = rw is (nothing_of tree)
    at_path (Some path) is = rw is (below_of tree h path)

-- ---- ends

-- what is said of an end: it has no elements where it is no connector, and its elements are made of leaves of variables
pub record IsEndOf (tree : Tree) (end : End) : Type 0 where
  pub none : end.side ≡ Neither → end.elements ≡ []
  pub elements : All (AreOf tree) end.elements

all_none : {X : Type 0} (P : X → Type 0) → All P []
all_none P k d less = absurd (omega (arith, less))

all_mapped : {X Y : Type 0} (P : Y → Type 0) (f : X → Y) → ((x : X) → P (f x)) → (xs : List X) → All P (map f xs)
all_mapped P f h [] k d less = absurd (omega (arith, less))
all_mapped P f h (x ∷ xs) zero d less = h x
all_mapped P f h (x ∷ xs) (suc k) d less = all_mapped P f h xs k d (omega (arith, less))

end_without : (tree : Tree) (end : End) → end.elements ≡ [] → IsEndOf tree end
end_without tree end h = record { none = λ e. h; elements = subst (All (AreOf tree)) (sym h) (all_none (AreOf tree)) }

-- an end on a side, with the elements that it selects
end_on : (tree : Tree) → Differ_paths tree.instances → (side : Side) → (side ≡ Neither → ⊥)
    → (place : Place) (dims : List ℕ) (elements : List (Member × Index)) (end : End)
    → record { place = place; side = side; dims = dims; elements = map (leaves_of tree) elements } ≡ end → IsEndOf tree end
end_on tree h side other place dims elements end e = subst (IsEndOf tree) e (record {
  none = λ n. absurd (other n);
  elements = all_mapped (AreOf tree) (leaves_of tree) (leaves_are_of tree h) elements;
})

is_inside : Inside ≡ Neither → ⊥
is_inside e = subst no e tt
  where
    no : Side → Type 0
    no Inside = Unit {0}
    no side = ⊥

is_outside : Outside ≡ Neither → ⊥
is_outside e = subst no e tt
  where
    no : Side → Type 0
    no Outside = Unit {0}
    no side = ⊥

abbrev pub end_made : Tree → Place → Selected → Side → End
end_made tree place selected side =
    record { place = place; side = side; dims = (handed_in selected.chosen).0; elements = map (leaves_of tree) selected.elements }

on_side : (tree : Tree) → Differ_paths tree.instances → (place : Place) (selected : Selected) (side : Side) → (side ≡ Neither → ⊥)
    → (end : End) → and_then (subscripts (handed_in selected.chosen).0 (handed_in selected.chosen).1) (λ _. Ok (end_made tree place selected side)) ≡ Ok end → IsEndOf tree end
on_side tree h place selected side other end e =
    let one = comes (subscripts (handed_in selected.chosen).0 (handed_in selected.chosen).1) (λ u. Ok (end_made tree place selected side)) end e in
    end_on tree h side other place (handed_in selected.chosen).0 selected.elements end
    (ok_one (end_made tree place selected side) end (Ok (end_made tree place selected side)) refl one.then_is)

end_with_is : (tree : Tree) → Differ_paths tree.instances → (place : Place) (selected : Selected) (side : Side) (end : End)
    → end_with tree place selected side ≡ Ok end → IsEndOf tree end
end_with_is tree h place selected Neither end e = end_without tree end (sym (elements_one e))
  where
    elements_one : end_with tree place selected Neither ≡ Ok end → [] ≡ end.elements
    elements_one e = ap elements_in e
      where
        elements_in : Outcome End → List (List EndLeaf)
        elements_in (Ok x) = x.elements
        elements_in (Err x) = []
end_with_is tree h place selected Inside end e = on_side tree h place selected Inside is_inside end e
end_with_is tree h place selected Outside end e = on_side tree h place selected Outside is_outside end e

abbrev pub with_selected : Tree → Scope → ReferenceOf Expr → Option Selected → Outcome (Option End)
with_selected tree scope reference None = Ok None
with_selected tree scope reference (Some selected) =
    and_then (end_with tree (first_identifier reference.parts) selected (side_of tree.classes scope reference)) (λ end. Ok (Some end))

abbrev pub with_named : Tree → Scope → ReferenceOf Expr → Named → Outcome (Option End)
with_named tree scope reference (Components (first ∷ others)) =
    and_then (unless_removed (selected_from tree.classes (first_identifier reference.parts) first others)) (with_selected tree scope reference)
with_named tree scope reference other = Ok (Some (no_connector (first_identifier reference.parts)))

pub some_is : {A : Type 0} (a b : A) → good a ≡ good b → a ≡ b
some_is {A} a b e = ap value_in e
  where
    value_in : Outcome (Option A) → A
    value_in (Ok (Some x)) = x
    value_in (Ok None) = a
    value_in (Err x) = a

pub none_is : {A B : Type 0} (a : A) → absent A ≡ good a → B
none_is {A} a e = absurd (subst is_none e tt)
  where
    is_none : Outcome (Option A) → Type 0
    is_none (Ok None) = Unit {0}
    is_none (Ok (Some x)) = ⊥
    is_none (Err x) = ⊥

selected_is : (tree : Tree) → Differ_paths tree.instances → (scope : Scope) (reference : ReferenceOf Expr) (found : Option Selected) (end : End)
    → with_selected tree scope reference found ≡ Ok (Some end) → IsEndOf tree end
selected_is tree h scope reference None end e = none_is end e
selected_is tree h scope reference (Some selected) end e =
    let one = comes (end_with tree (first_identifier reference.parts) selected (side_of tree.classes scope reference)) (λ x. Ok (Some x)) (Some end) e in
    end_with_is tree h (first_identifier reference.parts) selected (side_of tree.classes scope reference) end
    (one.first ∙ ap Ok (some_is one.value end one.then_is))

without_is : (tree : Tree) (place : Place) (end : End) → good (no_connector place) ≡ good end → IsEndOf tree end
without_is tree place end e = end_without tree end (sym (ap (λ x. x.elements) (some_is (no_connector place) end e)))

named_is : (tree : Tree) → Differ_paths tree.instances → (scope : Scope) (reference : ReferenceOf Expr) (found : Named) (end : End)
    → with_named tree scope reference found ≡ Ok (Some end) → IsEndOf tree end
named_is tree h scope reference (Components []) end e = without_is tree (first_identifier reference.parts) end e
named_is tree h scope reference (Found_at found at) end e = without_is tree (first_identifier reference.parts) end e
named_is tree h scope reference (Components (first ∷ others)) end e =
    let one = comes (unless_removed (selected_from tree.classes (first_identifier reference.parts) first others)) (with_selected tree scope reference) (Some end) e in
    selected_is tree h scope reference one.value end one.then_is

-- what each end that is made of a name holds
pub end_is : (tree : Tree) → Differ_paths tree.instances → (scope : Scope) (reference : ReferenceOf Expr) (end : End)
    → end_of tree scope reference ≡ Ok (Some end) → IsEndOf tree end
end_is tree h scope reference end e =
    let one = comes (named tree.classes scope (with_parts tree.classes scope reference)) (with_named tree scope reference) (Some end) e in
    named_is tree h scope reference one.value end one.then_is
