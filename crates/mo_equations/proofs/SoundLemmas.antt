-- The connects of a class are sound, where each end has as many elements as its dimensions say.
use Rattle.std.proofs.Common.{◌≡◌, ℕ, zero, suc, ◌<◌, List, [], ◌∷◌, map, length, get_or, Option, Some, None, Ok, All, refl, sym, ap, ◌∙◌, subst, arith}
use Rattle.std.proofs.lemmas.List.{get_or_default}
use Rattle.mo_syntax.specs.Outcome.{Outcome, and_then}
use Rattle.mo_syntax.specs.declared.expr.Expr.{Expr}
use Rattle.mo_syntax.specs.declared.expr.ReferenceOf.{ReferenceOf}
use Rattle.mo_syntax.specs.declared.place.Place.{Place}
use Rattle.mo_flat.specs.declared.connect.Connect.{Connect}
use Rattle.mo_flat.specs.declared.connect.Connects.{Connects}
use Rattle.mo_flat.specs.declared.connect.End.{End}
use Rattle.mo_flat.specs.declared.connect.EndLeaf.{EndLeaf}
use Rattle.mo_flat.specs.declared.connect.Expanded.{Expanded}
use Rattle.mo_flat.specs.SoundConnects.{AreDistinct, Ascends, IsAt, IsLeafIn, IsLeafOf, IsListedAsFlow, IsSoundConnect, IsSoundConnects, IsSoundEnd}
use Rattle.mo_scope.specs.Frames.{Indexed, Scope}
use Rattle.mo_scope.specs.Places.{Every}
use Rattle.mo_equations.specs.Leaves.{Tree, variables_of}
use Rattle.mo_equations.specs.Connectors.{all_flows}
use Rattle.mo_equations.specs.Ends.{connect_of, end_of}
use Rattle.mo_equations.specs.Gathering.{all_beside, turn_each}
use Rattle.mo_equations.specs.Variables.{Declared, all_declared}
use Rattle.mo_equations.specs.Expansion.{Parts, all_sections, expanded_with, expansion_of, made_placed}
use Rattle.mo_equations.specs.steps.Checking.{AreFull, IsFull}
use Rattle.mo_equations.proofs.Below.{Differ_paths, IsLeafOf as IsLeafOfTree}
use Rattle.mo_equations.proofs.EndLemmas.{AreOf, IsEndOf, comes, end_is}
use Rattle.mo_equations.proofs.Full.{end_full}
use Rattle.mo_equations.proofs.Keeping.{expansion_keeps, good, ok_one}
use Rattle.mo_equations.proofs.Numbers.{among_at, flows_ascend, listed_flow, one_variable, only_flows}

-- ---- connects

-- both ends are made of leaves of variables
pub record IsOf (tree : Tree) (c : Connect) : Type 0 where
  pub left : IsEndOf tree c.left
  pub right : IsEndOf tree c.right

abbrev with_right : Place → End → Option End → Outcome (List Connect)
with_right place left None = Ok []
with_right place left (Some right) = Ok (record { place = place; left = left; right = right } ∷ [])

abbrev with_left : Tree → Scope → Place → ReferenceOf Expr → Option End → Outcome (List Connect)
with_left tree scope place reference None = Ok []
with_left tree scope place reference (Some left) = and_then (end_of tree scope reference) (with_right place left)

abbrev pair : {A B : Type 0} → A → B → A × B
pair a b = (a, b)

module _ (tree : Tree) (differ : Differ_paths tree.instances) where
  none_made : (connects : List Connect) → good {A = List Connect} [] ≡ good connects → Every (IsOf tree) connects
  none_made connects e = subst (Every (IsOf tree)) (ok_one [] connects e) tt

  right_made : (place : Place) (left : End) (found : Option End) (connects : List Connect) → IsEndOf tree left → ((right : End) → found ≡ Some right → IsEndOf tree right)
      → with_right place left found ≡ Ok connects → Every (IsOf tree) connects
  right_made place left None connects l r e = none_made connects e
  right_made place left (Some right) connects l r e =
      subst (Every (IsOf tree)) (ok_one (record { place = place; left = left; right = right } ∷ []) connects e) (record { left = l; right = r right refl }, tt)

  left_made : (scope : Scope) (place : Place) (reference : ReferenceOf Expr) (found : Option End) (connects : List Connect) → ((left : End) → found ≡ Some left → IsEndOf tree left)
      → with_left tree scope place reference found ≡ Ok connects → Every (IsOf tree) connects
  left_made scope place reference None connects l e = none_made connects e
  left_made scope place reference (Some left) connects l e =
      let one = comes (end_of tree scope reference) (with_right place left) connects e in
      right_made place left one.value connects (l left refl) (λ right is. end_is tree differ scope reference right (one.first ∙ ap Ok is)) one.then_is

  connect_made : (scope : Scope) (place : Place) (left right : ReferenceOf Expr) (connects : List Connect) → connect_of tree scope place left right ≡ Ok connects → Every (IsOf tree) connects
  connect_made scope place left right connects e =
      let one = comes (end_of tree scope left) (with_left tree scope place right) connects e in
      left_made scope place right one.value connects (λ end is. end_is tree differ scope left end (one.first ∙ ap Ok is)) one.then_is

  -- all connects of a class
  pub connects_are_of : (e : Expanded) → expansion_of tree ≡ Ok e → Every (IsOf tree) e.connects.list
  connects_are_of e h = expansion_keeps (IsOf tree) tree connect_made e h

  -- ---- soundness

  every_at : {X : Type 0} (P : X → Type 0) (xs : List X) (k : ℕ) (x : X) → Every P xs → IsAt xs k x → P x
  every_at P [] k x h at = let within : k < 0 = at.within in absurd (omega (arith, within))
  every_at P (y ∷ ys) zero x h at = subst P at.is h.0
  every_at P (y ∷ ys) (suc k) x h at = let within = at.within in every_at P ys k x h.1 (record { within = omega (arith, within); is = at.is })

  all_at : {X : Type 0} (P : X → Type 0) (xs : List X) (k : ℕ) (x : X) → All P xs → IsAt xs k x → P x
  all_at P xs k x h at = subst P at.is (h k x at.within)

  all_distinct : (elements : List (List EndLeaf)) → All (AreOf tree) elements → All AreDistinct elements
  all_distinct elements h k d less = (h k d less).distinct

  end_sound : (end : End) → IsEndOf tree end → IsFull end → IsSoundEnd end
  end_sound end h full = record { none = h.none; full = full; distinct = all_distinct end.elements h.elements }

  connect_sound : (c : Connect) → IsOf tree c → AreFull c → IsSoundConnect c
  connect_sound c h full = record { left = end_sound c.left h.left full.left; right = end_sound c.right h.right full.right }

  -- each leaf of an end is that of a variable
  leaf_of_end : (end : End) → IsEndOf tree end → (leaf : EndLeaf) → IsLeafOf end leaf → (path : Indexed) × IsLeafOfTree tree (variables_of tree) path leaf
  leaf_of_end end h leaf l = (all_at (AreOf tree) end.elements l.at l.element h.elements l.there).each leaf (among_at l.element l.number leaf l.is)

  leaf_in : (c : Connects) → Every (IsOf tree) c.list → (leaf : EndLeaf) → IsLeafIn c leaf → (path : Indexed) × IsLeafOfTree tree (variables_of tree) path leaf
  leaf_in c h leaf (IsLeafIn.left k x at l) = leaf_of_end x.left (every_at (IsOf tree) c.list k x h at).left leaf l
  leaf_in c h leaf (IsLeafIn.right k x at l) = leaf_of_end x.right (every_at (IsOf tree) c.list k x h at).right leaf l

  same_pair : {A B : Type 0} (a b : A) (x y : B) → a ≡ b → x ≡ y → pair a x ≡ pair b y
  same_pair a b x y p q = rw (p, q) refl

  is_listed : (leaf : EndLeaf) (path : Indexed) → IsLeafOfTree tree (variables_of tree) path leaf → IsListedAsFlow (all_flows tree) leaf
  is_listed leaf path l = record {
    listed = λ flow.
        subst (λ f. (k : ℕ) × IsAt (all_flows tree) k f) (same_pair l.variable.number leaf.variable l.variable.instance.place leaf.place (sym l.number) (sym l.place))
        (listed_flow tree l.variable l.among (sym l.flow ∙ flow));
    only = λ k place at.
        let found = only_flows tree l.variable k place l.among (subst (λ n. IsAt (all_flows tree) k (n, place)) l.number at) in
        (l.flow ∙ found.0, l.place ∙ found.1);
  }

  one_place : (a b : EndLeaf) (p q : Indexed) → IsLeafOfTree tree (variables_of tree) p a → IsLeafOfTree tree (variables_of tree) q b → a.variable ≡ b.variable → a.place ≡ b.place
  one_place a b p q l m e =
      let same : l.variable ≡ m.variable = one_variable tree l.variable m.variable l.among m.among (sym l.number ∙ e ∙ m.number) in
      l.place ∙ ap (λ v. v.instance.place) same ∙ sym m.place

  connects_sound : (c : Connects) → c.flows ≡ all_flows tree → Every (IsOf tree) c.list → All AreFull c.list → IsSoundConnects c
  connects_sound c flows h full = record {
    connects = λ k d less. connect_sound (get_or c.list k d) (every_at (IsOf tree) c.list k (get_or c.list k d) h (at_place k d less)) (full k d less);
    ascends = subst Ascends (sym flows) (flows_ascend tree);
    flows = λ leaf l. let one = leaf_in c h leaf l in subst (λ f. IsListedAsFlow f leaf) (sym flows) (is_listed leaf one.0 one.1);
    places = λ a b l m e. let one = leaf_in c h a l in let two = leaf_in c h b m in one_place a b one.0 two.0 one.1 two.1 e;
  }
    where
      at_place : (k : ℕ) (d : Connect) → k < length c.list → IsAt c.list k (get_or c.list k d)
      at_place k d less = record { within = less; is = get_or_default c.list k (get_or c.list k d) d less }

  whole : List Declared → List Parts → Expanded
  whole declared parts = expanded_with tree declared (all_beside (map (λ one. one.initial) parts)) (all_beside (map (λ one. one.usual) parts))

  flows_are : (e : Expanded) → expansion_of tree ≡ Ok e → e.connects.flows ≡ all_flows tree
  unfolding whole
  flows_are e h =
      let declared = comes (all_declared tree) (λ declared. and_then (all_sections tree) (λ sections. and_then (turn_each (made_placed tree) sections 0) (λ made. Ok (whole declared made.0)))) e h in
      let sections = comes (all_sections tree) (λ sections. and_then (turn_each (made_placed tree) sections 0) (λ made. Ok (whole declared.value made.0))) e declared.then_is in
      let made = comes (turn_each (made_placed tree) sections.value 0) (λ made. Ok (whole declared.value made.0)) e sections.then_is in
      sym (ap (λ x. x.connects.flows) (ok_one (whole declared.value made.value.0) e made.then_is))

  -- the connects of a class are sound, where its ends are full
  pub expansion_sound : (e : Expanded) → expansion_of tree ≡ Ok e → All AreFull e.connects.list → IsSoundConnects e.connects
  expansion_sound e h full = connects_sound e.connects (flows_are e h) (connects_are_of e h) full

  -- ---- all elements of ends

  full_right : (place : Place) (left : End) (found : Option End) (connects : List Connect) → IsFull left → ((right : End) → found ≡ Some right → IsFull right) → with_right place left found ≡ Ok connects → Every AreFull connects
  full_right place left None connects l r e = subst (Every AreFull) (ok_one [] connects e) tt
  full_right place left (Some right) connects l r e =
      subst (Every AreFull) (ok_one (record { place = place; left = left; right = right } ∷ []) connects e) (record { left = l; right = r right refl }, tt)

  full_left : (scope : Scope) (place : Place) (reference : ReferenceOf Expr) (found : Option End) (connects : List Connect) → ((left : End) → found ≡ Some left → IsFull left)
      → with_left tree scope place reference found ≡ Ok connects → Every AreFull connects
  full_left scope place reference None connects l e = subst (Every AreFull) (ok_one [] connects e) tt
  full_left scope place reference (Some left) connects l e =
      let one = comes (end_of tree scope reference) (with_right place left) connects e in
      full_right place left one.value connects (l left refl) (λ right is. end_full tree scope reference right (one.first ∙ ap Ok is)) one.then_is

  full_made : (scope : Scope) (place : Place) (left right : ReferenceOf Expr) (connects : List Connect) → connect_of tree scope place left right ≡ Ok connects → Every AreFull connects
  full_made scope place left right connects e =
      let one = comes (end_of tree scope left) (with_left tree scope place right) connects e in
      full_left scope place right one.value connects (λ end is. end_full tree scope left end (one.first ∙ ap Ok is)) one.then_is

  all_of : (xs : List Connect) → Every AreFull xs → All AreFull xs
  all_of [] h k d less = absurd (omega (arith, less))
  all_of (x ∷ xs) h zero d less = h.0
  all_of (x ∷ xs) h (suc k) d less = all_of xs h.1 k d (omega (arith, less))

  -- the connects of a class are sound
  pub connects_sound_in : (e : Expanded) → expansion_of tree ≡ Ok e → IsSoundConnects e.connects
  connects_sound_in e h = expansion_sound e h (all_of e.connects.list (expansion_keeps AreFull tree full_made e h))
