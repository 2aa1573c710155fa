-- Connection sets and the rules that connects break stand where the connects and the flow leaves stand.
use Rattle.std.proofs.Common.{ℕ, zero, suc, arith, Bool, List, [], ◌∷◌, flat_map, refl, sym, subst, if◌then◌else◌}
use Rattle.mo_syntax.specs.declared.place.Broken.{Broken}
use Rattle.mo_syntax.specs.declared.place.Place.{Place}
use Rattle.mo_flat.specs.SoundConnects.{IsAt}
use Rattle.mo_flat.specs.declared.connect.Connect.{Connect}
use Rattle.mo_flat.specs.declared.connect.Connects.{Connects}
use Rattle.mo_flat.specs.declared.connect.EndLeaf.{EndLeaf}
use Rattle.mo_flat.specs.declared.connect.FaceSet.{FaceSet}
use Rattle.mo_flat.specs.declared.connect.Side.{Side}
use Rattle.mo_flat.specs.declared.model.FlatEquation.{FlatEquation}
use Rattle.mo_connect.specs.Alike.{Breaks, IsFirstBroken, left_end, right_end, sizes as by_sizes, leaves as by_leaves}
use Rattle.mo_connect.specs.Equations.{equations_of, flow_equation, potential_equations}
use Rattle.mo_connect.specs.Joins.{JoinsConnectAt, JoinsElementAt, JoinsLeaf, JoinsLeafAt}
use Rattle.mo_connect.specs.Sets.{AreConnectionSets, IsDeclared, left as by_left, right as by_right, listed as by_flow}
use Rattle.mo_connect.specs.declared.joins.Join.{Join}
use Rattle.mo_places.specs.Written.{Written, At}
use Rattle.mo_places.specs.Stands.{Every}
use Rattle.mo_places.specs.MadeStands.{ConnectStands, EquationStands}
use Rattle.mo_places.proofs.laws.Standing.{every_flat_map, if_list}

-- what holds of each element holds of the one at a place, and the other way round
pub every_at : {A : Type 0} (Q : A → Type 0) (xs : List A) (k : ℕ) (x : A) → Every Q xs → IsAt xs k x → Q x
every_at Q [] k x h at = absurd (omega (arith, at.within))
every_at Q (y ∷ ys) zero x h at = subst Q at.is h.0
every_at Q (y ∷ ys) (suc k) x h at = every_at Q ys k x h.1 (record { within = omega (arith, at.within); is = at.is })

pub every_from : {A : Type 0} (Q : A → Type 0) (xs : List A) → ((k : ℕ) (x : A) → IsAt xs k x → Q x) → Every Q xs
every_from Q [] f = tt
every_from Q (x ∷ xs) f = (
  f 0 x (record { within = omega arith; is = refl }),
  every_from Q xs (λ k y at. f (suc k) y (record { within = omega (arith, at.within); is = at.is })),
)

module _ (P : Written → Type 0) where
  abbrev LeafStands : EndLeaf → Type 0
  LeafStands leaf = P (At leaf.place)

  -- ---- what is joined

  pub record JoinStands (x : Join) : Type 0 where
    pub left : P (At x.left.place)
    pub right : P (At x.right.place)

  leaf_joins : (left_side : Side) (leaf : EndLeaf) (right_side : Side) (rights : List EndLeaf) (x : Join) → LeafStands leaf → Every LeafStands rights → JoinsLeaf left_side leaf right_side rights x → JoinStands x
  leaf_joins left_side leaf right_side rights x hl hr joins =
      subst JoinStands (sym joins.is) (record { left = hl; right = every_at LeafStands rights joins.at joins.right hr joins.there })

  leaf_at_joins : (left_side : Side) (lefts : List EndLeaf) (right_side : Side) (rights : List EndLeaf) (k : ℕ) (x : Join) → Every LeafStands lefts → Every LeafStands rights →
      JoinsLeafAt left_side lefts right_side rights k x → JoinStands x
  leaf_at_joins left_side lefts right_side rights k x hl hr joins =
      leaf_joins left_side joins.left right_side rights x (every_at LeafStands lefts k joins.left hl joins.there) hr joins.joins

  element_joins : (c : Connect) (k : ℕ) (x : Join) → ConnectStands P c → JoinsElementAt c k x → JoinStands x
  element_joins c k x h joins =
      leaf_at_joins c.left.side joins.left c.right.side joins.right joins.at x
      (every_at (Every LeafStands) c.left.elements k joins.left h.left.leaves joins.left_there)
      (every_at (Every LeafStands) c.right.elements k joins.right h.right.leaves joins.right_there) joins.joins

  connect_joins : (connects : List Connect) (k : ℕ) (x : Join) → Every (ConnectStands P) connects → JoinsConnectAt connects k x → JoinStands x
  connect_joins connects k x h joins = element_joins joins.connect joins.at x (every_at (ConnectStands P) connects k joins.connect h joins.there) joins.joins

  -- ---- connection sets

  abbrev FlowStands : ℕ × Place → Type 0
  FlowStands flow = P (At flow.1)

  declared_stands : (c : Connects) (variable : ℕ) (flow : Bool) (place : Place) → Every (ConnectStands P) c.list → Every FlowStands c.flows → IsDeclared c variable flow place → P (At place)
  declared_stands c variable flow place hc hf (by_left k x joins is same at) = subst (λ (p : Place). P (At p)) at (connect_joins c.list k x hc joins).left
  declared_stands c variable flow place hc hf (by_right k x joins is same at) = subst (λ (p : Place). P (At p)) at (connect_joins c.list k x hc joins).right
  declared_stands c variable flow place hc hf (by_flow k f there is same at) = subst (λ (p : Place). P (At p)) at (every_at FlowStands c.flows k f hf there)

  equal_each : (place : Place) → P (At place) → (first : ℕ × Bool) (more : List (ℕ × Bool)) → Every (EquationStands P) (potential_equations place first more)
  equal_each place hp first [] = tt
  equal_each place hp first (member ∷ more) = (hp, equal_each place hp first more)

  abbrev members_give : FaceSet → List (ℕ × Bool) → List FlatEquation
  members_give set [] = []
  members_give set (first ∷ more) = if set.flow then flow_equation set.place first more ∷ [] else potential_equations set.place first more

  members_stand : (set : FaceSet) (members : List (ℕ × Bool)) → ((first : ℕ × Bool) → IsAt members 0 first → P (At set.place)) → Every (EquationStands P) (members_give set members)
  members_stand set [] h = tt
  members_stand set (first ∷ more) h =
      let hp = h first (record { within = omega arith; is = refl }) in
      if_list (EquationStands P) set.flow (flow_equation set.place first more ∷ []) (potential_equations set.place first more) (hp, tt) (equal_each set.place hp first more)

  set_stands : (set : FaceSet) → ((first : ℕ × Bool) → IsAt set.members 0 first → P (At set.place)) → Every (EquationStands P) (equations_of set)
  set_stands set h = members_stand set set.members h

  pub sets_stand : (c : Connects) (sets : List FaceSet) → Every (ConnectStands P) c.list → Every FlowStands c.flows → AreConnectionSets c sets → Every (EquationStands P) (flat_map equations_of sets)
  sets_stand c sets hc hf are =
      every_flat_map (EquationStands P) equations_of sets
      (every_from (λ (set : FaceSet). Every (EquationStands P) (equations_of set)) sets (λ k set at. set_stands set (λ first there. declared_stands c first.0 set.flow set.place hc hf (are.declared k set first at there))))

  -- ---- rules

  breaks_stands : (c : Connect) (b : Broken) → ConnectStands P c → Breaks c b → P (At b.place)
  breaks_stands c b h (left_end none is) = subst (λ (x : Broken). P (At x.place)) (sym is) h.left.place
  breaks_stands c b h (right_end some none is) = subst (λ (x : Broken). P (At x.place)) (sym is) h.right.place
  breaks_stands c b h (by_sizes are differ is) = subst (λ (x : Broken). P (At x.place)) (sym is) h.place
  breaks_stands c b h (by_leaves are same differ is) = subst (λ (x : Broken). P (At x.place)) (sym is) h.place

  pub first_broken_stands : (connects : List Connect) (b : Broken) → Every (ConnectStands P) connects → IsFirstBroken connects b → P (At b.place)
  first_broken_stands connects b h first =
      breaks_stands first.connect b (every_at (ConnectStands P) connects first.at first.connect h (record { within = first.within; is = first.is })) first.breaks
