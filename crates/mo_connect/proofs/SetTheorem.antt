-- The gathered sets are all connection sets, in their order.
use Rattle.std.proofs.Common.{◌≡◌, ◌≢◌, ℕ, ◌*◌, ◌/◌, ◌<◌, ◌≤◌, inl, inr, ◌⊎◌, Bool, true, false, List, [], ◌∷◌, Option, Some, None, length, get_or, refl, sym, ap, ◌∙◌, subst, arith}
use Rattle.std.proofs.lemmas.Bool.Decides.{eqb_tells, leb_tells}
use Rattle.std.specs.Prelude.{Contains}
use Rattle.mo_syntax.specs.declared.place.Place.{Place}
use Rattle.mo_flat.specs.declared.connect.Connect.{Connect}
use Rattle.mo_flat.specs.declared.connect.Connects.{Connects}
use Rattle.mo_flat.specs.declared.connect.FaceSet.{FaceSet}
use Rattle.mo_connect.specs.declared.joins.Join.{Join}
use Rattle.mo_connect.specs.declared.declared.Declared.{Declared}
use Rattle.mo_connect.specs.Joins.{Lists, Gains, IsAt, IsBefore, JoinsConnectAt, number_of}
use Rattle.mo_connect.specs.steps.Labels.{number_in, face_at, IsChained, AreBelow, AreFlowsBelow, AreLabels}
use Rattle.mo_connect.specs.steps.Gathering.{AreGathered, IsTold, IsKnown, IsListed, IsTable, labelled, set_with, set_from, sets_below}
use Rattle.mo_connect.specs.Sets.{seen, IsJoined, IsFlowLeaf, IsDeclared, IsLoneFlow, IsConnectionSet, IsInSome, AreConnectionSets}
use Rattle.mo_connect.proofs.JoinLemmas.{is_at_same}
use Rattle.mo_connect.proofs.LabelLemmas.{number_below}
use Rattle.mo_connect.proofs.LabelledLemmas.{number_at, face_of_number, labelled_at, labelled_all, labelled_ordered, first_labelled}
use Rattle.mo_connect.proofs.SetLemmas.{IsSetOf, pair_from, lone_from, below_at, below_all, below_ordered}

-- what the calls before have found
pub record IsGathered (c : Connects) (joins : List Join) (bound : ℕ) (labels : List ℕ) (table : List (Option Declared)) : Type 0 where
  pub lists : Lists joins (IsBefore (JoinsConnectAt c.list) (length c.list))
  pub below : AreBelow bound joins
  pub flows_below : AreFlowsBelow bound c.flows
  pub labels_are : AreLabels (2 * bound) joins labels
  pub table_is : IsTable bound joins c.flows (length joins) (length c.flows) table

-- a face of a variable that is known
pub record IsEnd (table : List (Option Declared)) (bound : ℕ) (a : ℕ × Bool) : Type 0 where
  pub known : IsKnown table a.0
  pub small : number_of a < 2 * bound

two_in : (xs : List (ℕ × Bool)) (a b : ℕ × Bool) → Contains xs a → Contains xs b → a ≢ b → 1 < length xs
two_in xs a b in_a in_b ne =
    let (i, within, is) = in_a in
    let (j, within', is') = in_b in
    elim (eqb_tells i j) [
      | inl e ↦
          let P : ℕ → Type 0 = λ m. IsAt xs m a in
          let first : IsAt xs i a = record { within = within; is = is } in
          absurd (ne (is_at_same xs j a b (subst P e.1 first) (record { within = within'; is = is' })))
      | inr e ↦ omega (arith, e.1)
    ]

single : (xs : List (ℕ × Bool)) (k : ℕ) (x : ℕ × Bool) → IsAt xs k x → length xs < 2 → xs ≡ x ∷ []
single [] k x at few = let within : k < 0 = at.within in absurd (omega arith)
single (y ∷ []) k x at few =
    let within : k < 1 = at.within in
    let first : k ≡ 0 = omega arith in
    let P : ℕ → Type 0 = λ m. IsAt (y ∷ []) m x in
    let here : IsAt (y ∷ []) 0 x = subst P first at in
    ap (λ z. z ∷ []) here.is
single (y ∷ z ∷ more) k x at few = absurd (omega arith)

told_listed : (c : Connects) (joins : List Join) (v : ℕ) (e : Declared) → IsTold joins c.flows v e → e.listed ≡ true → IsFlowLeaf c v
told_listed c joins v e (IsTold.left k x at is told) listed = let no : false ≡ true = ap (λ (d : Declared). d.listed) told ∙ listed in cc
told_listed c joins v e (IsTold.right k x at is told) listed = let no : false ≡ true = ap (λ (d : Declared). d.listed) told ∙ listed in cc
told_listed c joins v e (IsTold.flow k f at is told) listed = record { at = k; leaf = f; there = at; is = is }

module _ (c : Connects) (joins : List Join) (bound : ℕ) (labels : List ℕ) (table : List (Option Declared)) (g : IsGathered c joins bound labels table) where
  in_joins : (k : ℕ) (x : Join) → JoinsConnectAt c.list k x → Contains joins x
  in_joins k x j = g.lists.all x (record { at = k; small = j.there.within; holds = j })

  of_joins : (k : ℕ) (x : Join) → IsAt joins k x → IsBefore (JoinsConnectAt c.list) (length c.list) x
  of_joins k x at = let P : Join → Type 0 = IsBefore (JoinsConnectAt c.list) (length c.list) in subst P at.is (g.lists.only k x at.within)

  chained_joined : {i j : ℕ} → IsChained joins i j → IsJoined c (face_at i) (face_at j)
  chained_joined IsChained.same = IsJoined.same
  chained_joined (IsChained.join k x at) =
      let b : IsBefore (JoinsConnectAt c.list) (length c.list) x = of_joins k x at in
      let P : ℕ × Bool → Type 0 = λ a. IsJoined c a (face_at (number_in x.right)) in
      let Q : ℕ × Bool → Type 0 = λ a. IsJoined c (seen x.left) a in
      let here : IsJoined c (seen x.left) (seen x.right) = IsJoined.connected b.at x b.holds in
      subst P (sym (face_of_number (seen x.left))) (subst Q (sym (face_of_number (seen x.right))) here)
  chained_joined (IsChained.back l) = IsJoined.back (chained_joined l)
  chained_joined (IsChained.chain l m) = IsJoined.chain (chained_joined l) (chained_joined m)

  joined_labels : {a b : ℕ × Bool} → IsJoined c a b → get_or labels (number_of a) 0 ≡ get_or labels (number_of b) 0
  joined_labels IsJoined.same = refl
  joined_labels (IsJoined.connected k x j) =
      let (i, within, is) = in_joins k x j in
      let P : Join → Type 0 = λ y. get_or labels (number_in y.left) 0 ≡ get_or labels (number_in y.right) 0 in
      subst P is (g.labels_are.complete i x within)
  joined_labels (IsJoined.back l) = sym (joined_labels l)
  joined_labels (IsJoined.chain l m) = joined_labels l ∙ joined_labels m

  joined_ends : {a b : ℕ × Bool} → IsJoined c a b → (a ≡ b) ⊎ (IsEnd table bound a × IsEnd table bound b)
  joined_ends IsJoined.same = inl refl
  joined_ends (IsJoined.connected k x j) =
      let (i, within, is) = in_joins k x j in
      let P : Join → Type 0 = λ y. IsEnd table bound (seen y.left) × IsEnd table bound (seen y.right) in
      let y : Join = get_or joins i x in
      inr (subst P is (
        record { known = g.table_is.left i x within; small = number_below y.left bound (g.below i x within).0 },
        record { known = g.table_is.right i x within; small = number_below y.right bound (g.below i x within).1 },
      ))
  joined_ends (IsJoined.back l) = elim (joined_ends l) [ inl e ↦ inl (sym e) | inr e ↦ inr (e.1, e.0) ]
  joined_ends (IsJoined.chain l m) =
      let P : ℕ × Bool → Type 0 = IsEnd table bound in
      elim (joined_ends l) [
        | inl e ↦ elim (joined_ends m) [ inl f ↦ inl (e ∙ f) | inr f ↦ inr (subst P (sym e) f.0, f.1) ]
        | inr e ↦ elim (joined_ends m) [ inl f ↦ inr (e.0, subst P f e.1) | inr f ↦ inr (e.0, f.1) ]
      ]

  size : length labels ≡ 2 * bound
  size = g.labels_are.length_is

  to_root : (a : ℕ × Bool) → number_of a < 2 * bound → IsJoined c a (face_at (get_or labels (number_of a) 0))
  to_root a small =
      let P : ℕ × Bool → Type 0 = λ x. IsJoined c x (face_at (get_or labels (number_of a) 0)) in
      subst P (face_of_number a) (chained_joined (g.labels_are.sound (number_of a) small))

  known_root : (a : ℕ × Bool) → number_of a < 2 * bound → IsKnown table a.0 → IsKnown table (get_or labels (number_of a) 0 / 2)
  known_root a small known =
      let P : ℕ × Bool → Type 0 = λ x. IsKnown table x.0 in
      elim (joined_ends (to_root a small)) [ inl e ↦ subst P e known | inr e ↦ e.1.known ]

  root_of : (r : ℕ) (a : ℕ × Bool) → Contains (labelled labels r (length labels)) a → IsJoined c a (face_at r)
  root_of r a in_a =
      let (k, within, is) = in_a in
      let there = labelled_at labels r (length labels) k a (record { within = within; is = is }) in
      let low : number_of a < length labels = there.0 in
      let same : length labels ≡ 2 * bound = size in
      let P : ℕ → Type 0 = λ m. IsJoined c a (face_at m) in
      subst P there.1 (to_root a (omega arith))

  first_of : (r : ℕ) (a : ℕ × Bool) → IsAt (labelled labels r (length labels)) 0 a → a ≡ face_at r
  first_of r a at =
      let same : length labels ≡ 2 * bound = size in
      first_labelled labels r a g.labels_are.low (λ i less. g.labels_are.flat i (omega arith)) at

  lone_flow : (r v : ℕ) (e : Declared) → labelled labels r (length labels) ≡ (v, false) ∷ [] → get_or table (r / 2) None ≡ Some e → e.listed ≡ true
      → IsLoneFlow c (labelled labels r (length labels))
  lone_flow r v e is known listed =
      let P : List (ℕ × Bool) → Type 0 = λ l. IsAt l 0 (v, false) in
      let head : IsAt ((v, false) ∷ []) 0 (v, false) = record { within = omega arith; is = refl } in
      let face : (v, false) ≡ face_at r = first_of r (v, false) (subst P (sym is) head) in
      let Q : ℕ → Type 0 = IsFlowLeaf c in
      let half : r / 2 ≡ v = ap (λ (x : ℕ × Bool). x.0) (sym face) in
      record { variable = v; is = is; listed = subst Q half (told_listed c joins (r / 2) e (g.table_is.only (r / 2) e known) listed) }

  set_right : (r : ℕ) (s : FaceSet) → IsSetOf labels table (length labels) s r → IsConnectionSet c s.members
  set_right r s of =
      let from = of.from in
      let members : List (ℕ × Bool) = labelled labels r (length labels) in
      let same : length labels ≡ 2 * bound = size in
      let here : IsConnectionSet c members = record {
        ordered = labelled_ordered labels r (length labels);
        joined = λ a b in_a in_b. IsJoined.chain (root_of r a in_a) (IsJoined.back (root_of r b in_b));
        whole = λ a b in_a joined.
            let (k, within, is) = in_a in
            let there = labelled_at labels r (length labels) k a (record { within = within; is = is }) in
            let P : ℕ × Bool → Type 0 = Contains members in
            elim (joined_ends joined) [
              | inl e ↦ subst P e in_a
              | inr e ↦
                  let low : number_of b < 2 * bound = e.1.small in
                  labelled_all labels r (length labels) b (omega arith) (sym (joined_labels joined) ∙ there.1)
            ];
        enough = elim from.enough [
          | inl two ↦ inl two
          | inr lone ↦ let (v, is, listed) = lone in inr (lone_flow r v from.declared is from.known listed)
        ];
      } in
      let Q : FaceSet → Type 0 = λ t. IsConnectionSet c t.members in
      subst Q (sym from.is) here

  told_declared : (v : ℕ) (e : Declared) → IsTold joins c.flows v e → IsDeclared c v e.flow e.place
  told_declared v e (IsTold.left k x at is told) =
      let b : IsBefore (JoinsConnectAt c.list) (length c.list) x = of_joins k x at in
      IsDeclared.left b.at x b.holds is (ap (λ (d : Declared). d.flow) told) (ap (λ (d : Declared). d.place) told)
  told_declared v e (IsTold.right k x at is told) =
      let b : IsBefore (JoinsConnectAt c.list) (length c.list) x = of_joins k x at in
      IsDeclared.right b.at x b.holds is (ap (λ (d : Declared). d.flow) told) (ap (λ (d : Declared). d.place) told)
  told_declared v e (IsTold.flow k f at is told) =
      IsDeclared.listed k f at is (sym (ap (λ (d : Declared). d.flow) told)) (ap (λ (d : Declared). d.place) told)

  set_first : (r : ℕ) (s : FaceSet) (a : ℕ × Bool) → IsSetOf labels table (length labels) s r → IsAt s.members 0 a → a ≡ face_at r
  set_first r s a of at =
      let from = of.from in
      let P : FaceSet → Type 0 = λ t. IsAt t.members 0 a in
      let here : IsAt (labelled labels r (length labels)) 0 a = subst P from.is at in
      first_of r a here

  set_declared : (r : ℕ) (s : FaceSet) (a : ℕ × Bool) → IsSetOf labels table (length labels) s r → IsAt s.members 0 a → IsDeclared c a.0 s.flow s.place
  set_declared r s a of at =
      let from = of.from in
      let face : a ≡ face_at r = set_first r s a of at in
      let here : IsDeclared c (r / 2) from.declared.flow from.declared.place = told_declared (r / 2) from.declared (g.table_is.only (r / 2) from.declared from.known) in
      let P : FaceSet → Type 0 = λ t. IsDeclared c (r / 2) t.flow t.place in
      let Q : ℕ × Bool → Type 0 = λ x. IsDeclared c x.0 s.flow s.place in
      subst Q (sym face) (subst P (sym from.is) here)

  pair_in : (a : ℕ × Bool) → number_of a < 2 * bound → IsKnown table a.0 → 1 < length (labelled labels (get_or labels (number_of a) 0) (length labels))
      → IsInSome (sets_below labels table (length labels)) a
  pair_in a small known two =
      let same : length labels ≡ 2 * bound = size in
      let r : ℕ = get_or labels (number_of a) 0 in
      let low : r ≤ number_of a = g.labels_are.low (number_of a) (omega arith) in
      let root : IsKnown table (r / 2) = known_root a small known in
      let made : FaceSet = set_with (labelled labels r (length labels)) root.declared in
      let (k, there) = below_all labels table (length labels) r made (omega arith) (pair_from (labelled labels r (length labels)) (get_or table (r / 2) None) root.declared two root.is) in
      record { at = k; set = made; there = there; member = labelled_all labels r (length labels) a (omega arith) refl }

  joined_in : (a b : ℕ × Bool) → IsJoined c a b → a ≢ b → IsInSome (sets_below labels table (length labels)) a
  joined_in a b joined ne =
      let same : length labels ≡ 2 * bound = size in
      elim (joined_ends joined) [
        | inl e ↦ absurd (ne e)
        | inr ends ↦
            let low : number_of a < 2 * bound = ends.0.small in
            let high : number_of b < 2 * bound = ends.1.small in
            let r : ℕ = get_or labels (number_of a) 0 in
            let in_a : Contains (labelled labels r (length labels)) a = labelled_all labels r (length labels) a (omega arith) refl in
            let in_b : Contains (labelled labels r (length labels)) b = labelled_all labels r (length labels) b (omega arith) (sym (joined_labels joined)) in
            pair_in a low ends.0.known (two_in (labelled labels r (length labels)) a b in_a in_b ne)
      ]

  listed_of : (v : ℕ) → IsFlowLeaf c v → IsListed table v × (v < bound)
  listed_of v leaf =
      let there = leaf.there in
      let P : ℕ × Place → Type 0 = λ f. IsListed table f.0 × (f.0 < bound) in
      let Q : ℕ → Type 0 = λ w. IsListed table w × (w < bound) in
      subst Q leaf.is (subst P there.is (g.table_is.flow leaf.at leaf.leaf there.within, g.flows_below leaf.at leaf.leaf there.within))

  flow_in : (v : ℕ) → IsFlowLeaf c v → IsInSome (sets_below labels table (length labels)) (v, false)
  flow_in v leaf =
      let same : length labels ≡ 2 * bound = size in
      let (listed, below) = listed_of v leaf in
      let a : ℕ × Bool = (v, false) in
      let small : number_of (v, false) < 2 * bound = omega arith in
      let low-a : number_of (v, false) < length labels = omega arith in
      let r : ℕ = get_or labels (number_of (v, false)) 0 in
      let low : r ≤ number_of (v, false) = g.labels_are.low (number_of (v, false)) low-a in
      let below-r : r < length labels = omega arith in
      let members : List (ℕ × Bool) = labelled labels r (length labels) in
      let in_a : Contains members (v, false) = labelled_all labels r (length labels) (v, false) low-a (refl {a = get_or labels (number_of (v, false)) 0}) in
      elim (leb_tells 2 (length members)) [
        | inl two ↦ pair_in (v, false) small (record { declared = listed.declared; is = listed.is }) (omega (arith, two.1))
        | inr few ↦
            let (k, within, is) = in_a in
            let alone : members ≡ (v, false) ∷ [] = single members k (v, false) (record { within = within; is = is }) few.1 in
            let P : List (ℕ × Bool) → Type 0 = λ l. IsAt l 0 (v, false) in
            let head : IsAt ((v, false) ∷ []) 0 (v, false) = record { within = omega arith; is = refl } in
            let face : (v, false) ≡ face_at r = first_of r (v, false) (subst P (sym alone) head) in
            let half : v ≡ r / 2 = ap (λ (x : ℕ × Bool). x.0) face in
            let T : ℕ → Type 0 = λ w. get_or table w None ≡ Some listed.declared in
            let known : get_or table (r / 2) None ≡ Some listed.declared = subst T half listed.is in
            let Q : List (ℕ × Bool) → Type 0 = λ l. set_from l (get_or table (r / 2) None) ≡ set_with l listed.declared ∷ [] in
            let made : set_from members (get_or table (r / 2) None) ≡ set_with members listed.declared ∷ [] =
            subst Q (sym alone) (lone_from v (get_or table (r / 2) None) listed.declared known listed.listed) in
            let (i, there) = below_all labels table (length labels) r (set_with members listed.declared) below-r made in
            record { at = i; set = set_with members listed.declared; there = there; member = in_a }
      ]

  pub sets_right : AreConnectionSets c (sets_below labels table (length labels))
  sets_right = record {
    each = λ k s at. let (r, of) = below_at labels table (length labels) k s at in set_right r s of;
    declared = λ k s first at there. let (r, of) = below_at labels table (length labels) k s at in set_declared r s first of there;
    ordered = λ j k s t a b at_s at_t less first second.
        let both = below_ordered labels table (length labels) j k s t at_s at_t less in
        let less' : both.first < both.second = both.less in
        let x : number_of a ≡ both.first = ap number_of (set_first both.first s a both.first_is first) ∙ number_at both.first in
        let y : number_of b ≡ both.second = ap number_of (set_first both.second t b both.second_is second) ∙ number_at both.second in
        omega arith;
    joined = joined_in;
    flows = flow_in;
  }

pub sets_of_connects : (c : Connects) (list : List Connect) (flows : List (ℕ × Place)) (start made joins : List Join) (sets : List FaceSet) → list ≡ c.list → flows ≡ c.flows
    → start ≡ [] → joins ≡ made → Gains start made (IsBefore (JoinsConnectAt list) (length list)) → AreGathered joins flows sets → AreConnectionSets c sets
sets_of_connects c list flows start made joins sets list-is flows-is start-is joins-is gains of =
    let P : List Connect → Type 0 = λ l. Gains start made (IsBefore (JoinsConnectAt l) (length l)) in
    let Q : List Join → Type 0 = λ l. Gains l made (IsBefore (JoinsConnectAt c.list) (length c.list)) in
    let R : List Join → Type 0 = λ l. Lists l (IsBefore (JoinsConnectAt c.list) (length c.list)) in
    let S : List (ℕ × Place) → Type 0 = λ f. AreGathered joins f sets in
    let T : List FaceSet → Type 0 = AreConnectionSets c in
    let g : Gains [] made (IsBefore (JoinsConnectAt c.list) (length c.list)) = subst Q start-is (subst P list-is gains) in
    let same : joins ≡ g.more = joins-is ∙ g.is in
    let lists : Lists joins (IsBefore (JoinsConnectAt c.list) (length c.list)) = subst R (sym same) g.lists in
    let gathered : AreGathered joins c.flows sets = subst S flows-is of in
    subst T (sym gathered.is)
    (sets_right c joins gathered.bound gathered.labels gathered.table
    (record { lists = lists; below = gathered.below; flows_below = gathered.flows_below; labels_are = gathered.labels_are; table_is = gathered.table_is }))
