-- What lists of joins gain.
use Rattle.std.proofs.Common.{◌≡◌, ℕ, ◌+◌, ◌-◌, ◌<◌, ◌≤◌, inl, inr, List, [], ◌∷◌, ◌++◌, length, get_or, refl, sym, ap, ◌∙◌, subst, arith, append_assoc, length-append}
use Rattle.std.proofs.Math.ListN.{get_or-append}
use Rattle.std.proofs.Math.Seq.{get_or-append_right}
use Rattle.std.proofs.lemmas.List.{get_or_default, append-nil, get_or-append-add}
use Rattle.std.proofs.lemmas.Bool.Decides.{eqb_tells, leb_tells}
use Rattle.std.specs.Prelude.{All, Any}
use Rattle.mo_flat.specs.declared.connect.Connect.{Connect}
use Rattle.mo_flat.specs.declared.connect.EndLeaf.{EndLeaf}
use Rattle.mo_flat.specs.declared.connect.Side.{Side}
use Rattle.mo_connect.specs.declared.joins.Join.{Join}
use Rattle.mo_connect.specs.Alike.{Corresponds, HavePartners, AreAlike, IsConnectable}
use Rattle.mo_connect.specs.Joins.{face_of, Gains, IsAt, AreDistinct, IsBefore, JoinsLeaf, JoinsLeafAt, JoinsElementAt, JoinsConnectAt}

pub gains_none : {X : Type 0} (xs : List X) (P : X → Type 0) → ((x : X) → P x → ⊥) → Gains xs xs P
gains_none xs P none = record {
  more = [];
  is = sym (append-nil xs);
  lists = record { only = λ k d within. absurd (omega arith); all = λ x p. absurd (none x p) };
}

pub gains_before_none : {X : Type 0} (xs : List X) (Q : ℕ → X → Type 0) → Gains xs xs (IsBefore Q 0)
gains_before_none xs Q = gains_none xs (IsBefore Q 0) (λ x b. let small = b.small in absurd (omega arith))

pub gains_one : {X : Type 0} (xs : List X) (x : X) (P : X → Type 0) → P x → ((y : X) → P y → y ≡ x) → Gains xs (xs ++ x ∷ []) P
gains_one {X} xs x P here only = record {
  more = x ∷ [];
  is = refl;
  lists = record {
    only = λ k d within. let first : k ≡ 0 = omega arith in rw first here;
    all = λ y p. (0, omega arith, sym (only y p));
  };
}

pub gains_more : {X : Type 0} (xs ys zs : List X) (Q : ℕ → X → Type 0) (i : ℕ) → Gains xs ys (IsBefore Q i) → Gains ys zs (Q i) → Gains xs zs (IsBefore Q (i + 1))
gains_more {X} xs ys zs Q i a b =
    let size : length (a.more ++ b.more) ≡ length a.more + length b.more = length-append a.more b.more in
    record {
      more = a.more ++ b.more;
      is = b.is ∙ ap (λ l. l ++ b.more) a.is ∙ append_assoc xs a.more b.more;
      lists = record {
        only = λ k d within. elim (leb_tells (length a.more) k) [
          | inl e ↦
              let far : length a.more ≤ k = e.1 in
              let here : Q i (get_or b.more (k - length a.more) d) = b.lists.only (k - length a.more) d (omega arith) in
              rw (get_or-append_right a.more b.more k d far) (record { at = i; small = omega arith; holds = here })
          | inr e ↦
              let near : k < length a.more = e.1 in
              let before : IsBefore Q i (get_or a.more k d) = a.lists.only k d near in
              let small : before.at < i = before.small in
              rw (get_or-append a.more b.more d k near) (record { at = before.at; small = omega arith; holds = before.holds })
        ];
        all = λ x h. elim (eqb_tells h.at i) [
          | inl e ↦
              let (k, within, is) = b.lists.all x (let P : ℕ → Type 0 = λ n. Q n x in subst P e.1 h.holds) in
              (length a.more + k, omega arith, get_or-append-add a.more b.more k x ∙ is)
          | inr e ↦
              let small : h.at < i + 1 = h.small in
              let (k, within, is) = a.lists.all x (record { at = h.at; small = omega (arith, e.1); holds = h.holds }) in
              (k, omega arith, get_or-append a.more b.more x k within ∙ is)
        ];
      };
    }

-- what is listed is so in other words
pub gains_same : {X : Type 0} (xs ys : List X) (P Q : X → Type 0) → ((x : X) → P x → Q x) → ((x : X) → Q x → P x) → Gains xs ys P → Gains xs ys Q
gains_same xs ys P Q to from g = record {
  more = g.more;
  is = g.is;
  lists = record { only = λ k d within. to (get_or g.more k d) (g.lists.only k d within); all = λ x q. g.lists.all x (from x q) };
}

pub is_at : {X : Type 0} (xs : List X) (k : ℕ) (x : X) → x ≡ get_or xs k x → k < length xs → IsAt xs k x
is_at xs k x is within = record { within = within; is = sym is }

pub is_at_same : {X : Type 0} (xs : List X) (k : ℕ) (x y : X) → IsAt xs k x → IsAt xs k y → x ≡ y
is_at_same xs k x y a b = sym a.is ∙ get_or_default xs k x y a.within ∙ b.is

pub no_partner : (leaf : EndLeaf) (rights : List EndLeaf) → Any (Corresponds leaf) rights
    → ((k : ℕ) (d : EndLeaf) → k < length rights → Corresponds leaf (get_or rights k d) → ⊥) → ⊥
no_partner leaf rights some none =
    let (k, x, within, is, corresponds) = some in
    let P : EndLeaf → Type 0 = Corresponds leaf in
    none k x within (subst P (sym is) corresponds)

pub gains_leaf : (made : List Join) (left_side : Side) (leaf : EndLeaf) (right_side : Side) (rights : List EndLeaf) (k : ℕ) (right : EndLeaf)
    → right ≡ get_or rights k right → (k < length rights) × ((d : EndLeaf) → Corresponds leaf (get_or rights k d)) → AreDistinct rights
    → Gains made (made ++ record { left = face_of left_side leaf; right = face_of right_side right } ∷ []) (JoinsLeaf left_side leaf right_side rights)
gains_leaf made left_side leaf right_side rights k right is found distinct =
    let there : IsAt rights k right = is_at rights k right is found.0 in
    let C : EndLeaf → Type 0 = Corresponds leaf in
    let corresponds : Corresponds leaf right = subst C (sym is) (found.1 right) in
    let join : EndLeaf → Join = λ r. record { left = face_of left_side leaf; right = face_of right_side r } in
    gains_one made (join right) (JoinsLeaf left_side leaf right_side rights)
    (record { at = k; right = right; there = there; same = corresponds.below; is = refl })
    (λ y p.
    let place : p.at ≡ k = distinct p.at k p.right right p.there there (sym p.same ∙ corresponds.below) in
    let P : ℕ → Type 0 = λ n. IsAt rights n p.right in
    p.is ∙ ap join (is_at_same rights k p.right right (subst P place p.there) there))

pub leaf_at : (a b : List Join) (left_side : Side) (lefts : List EndLeaf) (right_side : Side) (rights : List EndLeaf) (i : ℕ) (leaf : EndLeaf)
    → leaf ≡ get_or lefts i leaf → i < length lefts → Gains a b (JoinsLeaf left_side leaf right_side rights) → Gains a b (JoinsLeafAt left_side lefts right_side rights i)
leaf_at a b left_side lefts right_side rights i leaf is within =
    let there : IsAt lefts i leaf = is_at lefts i leaf is within in
    gains_same a b (JoinsLeaf left_side leaf right_side rights) (JoinsLeafAt left_side lefts right_side rights i)
    (λ x p. record { left = leaf; there = there; joins = p })
    (λ x p. let P : EndLeaf → Type 0 = λ l. JoinsLeaf left_side l right_side rights x in subst P (is_at_same lefts i p.left leaf p.there there) p.joins)

pub leaf_partner : (lefts rights : List EndLeaf) (i : ℕ) (leaf : EndLeaf) → leaf ≡ get_or lefts i leaf → i < length lefts → HavePartners lefts rights → Any (Corresponds leaf) rights
leaf_partner lefts rights i leaf is within all = let P : EndLeaf → Type 0 = λ l. Any (Corresponds l) rights in subst P (sym is) (all i leaf within)

-- the connectors at place k of the arrays of a connect
pub record AreConnectedAt (c : Connect) (k : ℕ) (left right : List EndLeaf) : Type 0 where
  pub left_there : IsAt c.left.elements k left
  pub right_there : IsAt c.right.elements k right

pub connected_at : (c : Connect) (k : ℕ) (left right : List EndLeaf) (rights : List (List EndLeaf)) → left ≡ get_or c.left.elements k left → k < length c.left.elements
    → rights ≡ c.right.elements → right ≡ get_or rights k right → k < length rights → AreConnectedAt c k left right
connected_at c k left right rights is within same is' within' = record {
  left_there = is_at c.left.elements k left is within;
  right_there = let P : List (List EndLeaf) → Type 0 = λ l. IsAt l k right in subst P same (is_at rights k right is' within');
}

pub element_at : (a b : List Join) (c : Connect) (k : ℕ) (left right : List EndLeaf) → AreConnectedAt c k left right
    → Gains a b (IsBefore (JoinsLeafAt c.left.side left c.right.side right) (length left)) → Gains a b (JoinsElementAt c k)
element_at a b c k left right there =
    gains_same a b (IsBefore (JoinsLeafAt c.left.side left c.right.side right) (length left)) (JoinsElementAt c k)
    (λ x p. record { left = left; right = right; left_there = there.left_there; right_there = there.right_there; at = p.at; joins = p.holds })
    (λ x p.
    let P : List EndLeaf → Type 0 = λ l. JoinsLeafAt c.left.side l c.right.side p.right p.at x in
    let Q : List EndLeaf → Type 0 = λ r. JoinsLeafAt c.left.side left c.right.side r p.at x in
    let first : JoinsLeafAt c.left.side left c.right.side p.right p.at x = subst P (is_at_same c.left.elements k p.left left p.left_there there.left_there) p.joins in
    let second : JoinsLeafAt c.left.side left c.right.side right p.at x = subst Q (is_at_same c.right.elements k p.right right p.right_there there.right_there) first in
    record { at = p.at; small = second.there.within; holds = second })

pub element_partners : (c : Connect) (k : ℕ) (left right : List EndLeaf) → AreConnectedAt c k left right → IsConnectable c → HavePartners left right
element_partners c k left right there connectable =
    let l = there.left_there in
    let r = there.right_there in
    let alike : AreAlike (get_or c.left.elements k left) (get_or c.right.elements k right) = connectable.alike k left right l.within r.within in
    let P : List EndLeaf → Type 0 = λ x. AreAlike x (get_or c.right.elements k right) in
    let Q : List EndLeaf → Type 0 = λ x. AreAlike left x in
    let both : AreAlike left right = subst Q r.is (subst P l.is alike) in
    both.forth

pub element_distinct : (c : Connect) (k : ℕ) (left right : List EndLeaf) → AreConnectedAt c k left right → All AreDistinct c.right.elements → AreDistinct right
element_distinct c k left right there all =
    let r = there.right_there in
    let P : List EndLeaf → Type 0 = AreDistinct in
    subst P r.is (all k right r.within)

pub no_element : (made : List Join) (c : Connect) (k : ℕ) → length c.right.elements ≤ k → Gains made made (JoinsElementAt c k)
no_element made c k past = gains_none made (JoinsElementAt c k) (λ x p. let within = p.right_there.within in absurd (omega arith))

pub connect_at : (a b : List Join) (connects : List Connect) (k : ℕ) (c : Connect) → c ≡ get_or connects k c → k < length connects
    → Gains a b (IsBefore (JoinsElementAt c) (length c.left.elements)) → Gains a b (JoinsConnectAt connects k)
connect_at a b connects k c is within =
    let there : IsAt connects k c = is_at connects k c is within in
    gains_same a b (IsBefore (JoinsElementAt c) (length c.left.elements)) (JoinsConnectAt connects k)
    (λ x p. record { connect = c; there = there; at = p.at; joins = p.holds })
    (λ x p.
    let P : Connect → Type 0 = λ d. JoinsElementAt d p.at x in
    let joins : JoinsElementAt c p.at x = subst P (is_at_same connects k p.connect c p.there there) p.joins in
    record { at = p.at; small = joins.left_there.within; holds = joins })

pub holds_at : {X : Type 0} (P : X → Type 0) (xs : List X) (k : ℕ) (x : X) → x ≡ get_or xs k x → k < length xs → All P xs → P x
holds_at P xs k x is within all = subst P (sym is) (all k x within)
