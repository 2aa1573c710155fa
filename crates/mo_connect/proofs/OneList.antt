-- Sound connects have one list of connection sets, and each member of a set is the face of a leaf.
use Rattle.std.proofs.Common.{◌≡◌, ◌≢◌, ℕ, zero, suc, ◌<◌, inl, inr, ◌⊎◌, Bool, true, false, List, [], ◌∷◌, length, get_or, refl, sym, ap, ◌∙◌, subst, arith}
use Rattle.std.proofs.lemmas.List.{get_or_default}
use Rattle.std.proofs.lemmas.Bool.Decides.{eqb_tells, leb_tells}
use Rattle.std.specs.Prelude.{All, Contains}
use Rattle.mo_syntax.specs.declared.place.Place.{Place}
use Rattle.mo_flat.specs.declared.connect.Connects.{Connects}
use Rattle.mo_flat.specs.declared.connect.EndLeaf.{EndLeaf}
use Rattle.mo_flat.specs.declared.connect.FaceSet.{FaceSet}
use Rattle.mo_flat.specs.SoundConnects.{IsAt, IsLeafIn, Ascends, IsSoundConnects}
use Rattle.mo_connect.specs.declared.joins.Join.{Join}
use Rattle.mo_connect.specs.Joins.{number_of, HasDistinctLeaves, JoinsConnectAt}
use Rattle.mo_connect.specs.Sets.{IsJoined, IsDeclared, IsConnectionSet, IsInSome, AreConnectionSets, IsOfLeaf, HasLeaves}
use Rattle.mo_connect.proofs.JoinLemmas.{is_at, is_at_same}

-- ---- lists whose keys ascend

-- an element of a list
abbrev Among : {X : Type 0} → List X → X → Type 0
Among [] x = ⊥
Among (y ∷ ys) x = (y ≡ x) ⊎ Among ys x

-- each key is below those of all later elements
abbrev Rises : {X : Type 0} → (X → ℕ) → List X → Type 0
Rises key [] = Unit {0}
Rises {X = X} key (x ∷ xs) = ((y : X) → Among xs y → key x < key y) × Rises key xs

same_first : {X : Type 0} (key : X → ℕ) (x : X) (xs : List X) (y : X) (ys : List X) → Rises key (x ∷ xs) → Rises key (y ∷ ys) → Among (y ∷ ys) x → Among (x ∷ xs) y → x ≡ y
same_first key x xs y ys p q (inl e) b = sym e
same_first key x xs y ys p q (inr a) (inl e) = e
same_first key x xs y ys p q (inr a) (inr b) = let one = q.0 x a in let other = p.0 y b in absurd (omega arith)

same_rest : {X : Type 0} (key : X → ℕ) (x : X) (xs : List X) (y : X) (ys : List X) → x ≡ y → Rises key (x ∷ xs) → (z : X) → Among xs z → Among (y ∷ ys) z → Among ys z
same_rest key x xs y ys same p z a (inl e) = let less = p.0 z a in let equal : key x ≡ key z = ap key (same ∙ e) in absurd (omega arith)
same_rest key x xs y ys same p z a (inr b) = b

-- lists that ascend and have the same elements are one
one_order : {X : Type 0} (key : X → ℕ) (xs ys : List X) → Rises key xs → Rises key ys → ((x : X) → Among xs x → Among ys x) → ((y : X) → Among ys y → Among xs y) → xs ≡ ys
one_order key [] [] p q to from = refl
one_order key [] (y ∷ ys) p q to from = absurd (from y (inl refl))
one_order key (x ∷ xs) [] p q to from = absurd (to x (inl refl))
one_order key (x ∷ xs) (y ∷ ys) p q to from =
    let same : x ≡ y = same_first key x xs y ys p q (to x (inl refl)) (from y (inl refl)) in
    let rest : xs ≡ ys = one_order key xs ys p.1 q.1 (λ z a. same_rest key x xs y ys same p z a (to z (inr a))) (λ z a. same_rest key y ys x xs (sym same) q z a (from z (inr a))) in
    cc

later : {X : Type 0} (y : X) (xs : List X) (k : ℕ) (x : X) → IsAt xs k x → IsAt (y ∷ xs) (suc k) x
later y xs k x at = let within = at.within in record { within = omega arith; is = at.is }

at_of : {X : Type 0} (xs : List X) (x : X) → Among xs x → (k : ℕ) × IsAt xs k x
at_of [] x a = absurd a
at_of (y ∷ ys) x (inl e) = (zero, record { within = omega arith; is = e })
at_of (y ∷ ys) x (inr a) = let (k, at) = at_of ys x a in (suc k, later y ys k x at)

among_of : {X : Type 0} (xs : List X) (k : ℕ) (x : X) → IsAt xs k x → Among xs x
among_of [] k x at = let within : k < 0 = at.within in absurd (omega arith)
among_of (y ∷ ys) zero x at = inl at.is
among_of (y ∷ ys) (suc k) x at = let within = at.within in inr (among_of ys k x (record { within = omega arith; is = at.is }))

rises_of : {X : Type 0} (key : X → ℕ) (xs : List X) → ((j k : ℕ) (a b : X) → IsAt xs j a → IsAt xs k b → j < k → key a < key b) → Rises key xs
rises_of key [] h = tt
rises_of key (x ∷ xs) h = (
  λ y a. let (k, at) = at_of xs y a in h zero (suc k) x y (record { within = omega arith; is = refl }) (later x xs k y at) (omega arith),
  rises_of key xs (λ j k a b p q less. h (suc j) (suc k) a b (later x xs j a p) (later x xs k b q) (omega arith)),
)

among_contained : {X : Type 0} (xs : List X) (x : X) → Contains xs x → Among xs x
among_contained xs x (k, within, is) = among_of xs k x (record { within = within; is = is })

contains_among : {X : Type 0} (xs : List X) (x : X) → Among xs x → Contains xs x
contains_among xs x a = let (k, at) = at_of xs x a in (k, at.within, at.is)

-- ---- leaves and what they are declared to be

module _ (c : Connects) where
  left_in : (k : ℕ) (x : Join) (j : JoinsConnectAt c.list k x) → IsLeafIn c j.joins.joins.left
  left_in k x j = IsLeafIn.left k j.connect j.there (record { at = j.at; element = j.joins.left; there = j.joins.left_there; number = j.joins.at; is = j.joins.joins.there })

  right_in : (k : ℕ) (x : Join) (j : JoinsConnectAt c.list k x) → IsLeafIn c j.joins.joins.joins.right
  right_in k x j = IsLeafIn.right k j.connect j.there (record { at = j.at; element = j.joins.right; there = j.joins.right_there; number = j.joins.joins.joins.at; is = j.joins.joins.joins.there })

  -- what a leaf, or a listed flow leaf, tells of its variable
  data IsTold (variable : ℕ) (flow : Bool) (place : Place) : Type 0 where
    leaf : (l : EndLeaf) → IsLeafIn c l → l.variable ≡ variable → l.flow ≡ flow → l.place ≡ place → IsTold variable flow place
    listed : (k : ℕ) (f : ℕ × Place) → IsAt c.flows k f → f.0 ≡ variable → flow ≡ true → f.1 ≡ place → IsTold variable flow place

  told_of : {variable : ℕ} {flow : Bool} {place : Place} → IsDeclared c variable flow place → IsTold variable flow place
  told_of (IsDeclared.left k x j v f p) =
      let is = j.joins.joins.joins.is in
      IsTold.leaf j.joins.joins.left (left_in k x j) (sym (ap (λ (y : Join). y.left.variable) is) ∙ v) (sym (ap (λ (y : Join). y.left.flow) is) ∙ f) (sym (ap (λ (y : Join). y.left.place) is) ∙ p)
  told_of (IsDeclared.right k x j v f p) =
      let is = j.joins.joins.joins.is in
      IsTold.leaf j.joins.joins.joins.right (right_in k x j) (sym (ap (λ (y : Join). y.right.variable) is) ∙ v) (sym (ap (λ (y : Join). y.right.flow) is) ∙ f) (sym (ap (λ (y : Join). y.right.place) is) ∙ p)
  told_of (IsDeclared.listed k f at v t p) = IsTold.listed k f at v t p

  -- a flow leaf that is listed with that place, for a leaf of its variable
  listed_at : (l : EndLeaf) (k : ℕ) (f : ℕ × Place) → IsAt c.flows k f → f.0 ≡ l.variable → IsAt c.flows k (l.variable, f.1)
  listed_at l k f at e = let P : ℕ → Type 0 = λ v. IsAt c.flows k (v, f.1) in subst P e at

  same_flow : (s : IsSoundConnects c) (a b : EndLeaf) → IsLeafIn c a → IsLeafIn c b → a.variable ≡ b.variable → a.flow ≡ true → b.flow ≡ true
  same_flow s a b in_a in_b e t =
      let (k, at) = (s.flows a in_a).listed t in
      let P : ℕ → Type 0 = λ v. IsAt c.flows k (v, a.place) in
      ((s.flows b in_b).only k a.place (subst P e at)).0

  same_bool : (a b : Bool) → (a ≡ true → b ≡ true) → (b ≡ true → a ≡ true) → a ≡ b
  same_bool true b f g = sym (f refl)
  same_bool false true f g = g refl
  same_bool false false f g = refl

  same_listed : Ascends c.flows → (j k : ℕ) (f g : ℕ × Place) → IsAt c.flows j f → IsAt c.flows k g → f.0 ≡ g.0 → f ≡ g
  same_listed ascends j k f g at_f at_g e = elim (eqb_tells j k) [
    | inl same ↦ let P : ℕ → Type 0 = λ m. IsAt c.flows m f in is_at_same c.flows k f g (subst P same.1 at_f) at_g
    | inr ne ↦ elim (leb_tells j k) [
      | inl low ↦ let less = ascends j k f g at_f at_g (omega (arith, low.1, ne.1)) in absurd (omega arith)
      | inr high ↦ let less = ascends k j g f at_g at_f (omega (arith, high.1)) in absurd (omega arith)
    ]
  ]

  -- sound connects tell one thing of a variable
  told_once : IsSoundConnects c → (variable : ℕ) (flow flow' : Bool) (place place' : Place) → IsTold variable flow place → IsTold variable flow' place' → (flow ≡ flow') × (place ≡ place')
  told_once s variable flow flow' place place' (IsTold.leaf a in_a v f p) (IsTold.leaf b in_b v' f' p') =
      let e : a.variable ≡ b.variable = v ∙ sym v' in
      (sym f ∙ (same_bool a.flow b.flow (same_flow s a b in_a in_b e) (same_flow s b a in_b in_a (sym e)) ∙ f'), sym p ∙ (s.places a b in_a in_b e ∙ p'))
  told_once s variable flow flow' place place' (IsTold.leaf a in_a v f p) (IsTold.listed k g at v' t p') =
      let found = (s.flows a in_a).only k g.1 (listed_at a k g at (v' ∙ sym v)) in
      (sym f ∙ (found.0 ∙ sym t), sym p ∙ (found.1 ∙ p'))
  told_once s variable flow flow' place place' (IsTold.listed k g at v t p) (IsTold.leaf a in_a v' f' p') =
      let found = (s.flows a in_a).only k g.1 (listed_at a k g at (v ∙ sym v')) in
      (t ∙ (sym found.0 ∙ f'), sym p ∙ (sym found.1 ∙ p'))
  told_once s variable flow flow' place place' (IsTold.listed j f at v t p) (IsTold.listed k g at' v' t' p') =
      let same : f ≡ g = same_listed s.ascends j k f g at at' (v ∙ sym v') in
      (t ∙ sym t', sym p ∙ (ap (λ (x : ℕ × Place). x.1) same ∙ p'))

  -- ---- members

  joined_leaves : {a b : ℕ × Bool} → IsJoined c a b → (a ≡ b) ⊎ (IsOfLeaf c a.0 × IsOfLeaf c b.0)
  joined_leaves IsJoined.same = inl refl
  joined_leaves (IsJoined.connected k x j) =
      let is = j.joins.joins.joins.is in
      inr (IsOfLeaf.leaf j.joins.joins.left (left_in k x j) (sym (ap (λ (y : Join). y.left.variable) is)), IsOfLeaf.leaf j.joins.joins.joins.right (right_in k x j) (sym (ap (λ (y : Join). y.right.variable) is)))
  joined_leaves (IsJoined.back l) = elim (joined_leaves l) [ inl e ↦ inl (sym e) | inr e ↦ inr (e.1, e.0) ]
  joined_leaves (IsJoined.chain l m) =
      let P : ℕ × Bool → Type 0 = λ z. IsOfLeaf c z.0 in
      elim (joined_leaves l) [
        | inl e ↦ elim (joined_leaves m) [ inl f ↦ inl (e ∙ f) | inr f ↦ inr (subst P (sym e) f.0, f.1) ]
        | inr e ↦ elim (joined_leaves m) [ inl f ↦ inr (e.0, subst P f e.1) | inr f ↦ inr (e.0, f.1) ]
      ]

  at_place : (members : List (ℕ × Bool)) (k : ℕ) → k < length members → (a : ℕ × Bool) × IsAt members k a
  at_place members k within =
      let d : ℕ × Bool = (0, false) in
      (get_or members k d, is_at members k (get_or members k d) (get_or_default members k d (get_or members k d) within) within)

  -- another member of a set of two or more
  another : (members : List (ℕ × Bool)) → IsConnectionSet c members → 1 < length members → (a : ℕ × Bool) → Contains members a → (b : ℕ × Bool) × Contains members b × (a ≢ b)
  another members set two a (k, within, is) =
      let at : IsAt members k a = record { within = within; is = is } in
      elim (leb_tells k 0) [
        | inl first ↦
            let (b, there) = at_place members 1 two in
            let less : number_of a < number_of b = set.ordered k 1 a b at there (omega (arith, first.1)) in
            (b, (1, there.within, there.is), λ e. let same : number_of a ≡ number_of b = ap number_of e in absurd (omega arith))
        | inr later ↦
            let (b, there) = at_place members 0 (omega (arith, two)) in
            let less : number_of b < number_of a = set.ordered 0 k b a there at (omega (arith, later.1)) in
            (b, (0, there.within, there.is), λ e. let same : number_of a ≡ number_of b = ap number_of e in absurd (omega arith))
      ]

  only_member : (members : List (ℕ × Bool)) (x a : ℕ × Bool) → members ≡ x ∷ [] → Contains members a → x ≡ a
  only_member members x a is in_a =
      let P : List (ℕ × Bool) → Type 0 = λ l. Contains l a in
      elim (among_contained (x ∷ []) a (subst P is in_a)) [ inl e ↦ e | inr none ↦ absurd none ]

  member_leaf : (members : List (ℕ × Bool)) → IsConnectionSet c members → (a : ℕ × Bool) → Contains members a → IsOfLeaf c a.0
  member_leaf members set a in_a = elim set.enough [
    | inl two ↦
        let (b, in_b, ne) = another members set two a in_a in
        elim (joined_leaves (set.joined a b in_a in_b)) [ inl e ↦ absurd (ne e) | inr leaves ↦ leaves.0 ]
    | inr lone ↦
        let P : ℕ × Bool → Type 0 = λ z. IsOfLeaf c z.0 in
        subst P (only_member members (lone.variable, false) a lone.is in_a) (IsOfLeaf.flow lone.listed)
  ]

  pub members_are_leaves : (sets : List FaceSet) → AreConnectionSets c sets → All (HasLeaves c) sets
  members_are_leaves sets p k d within j e inside =
      let set : FaceSet = get_or sets k d in
      let at : IsAt sets k set = is_at sets k set (get_or_default sets k d set within) within in
      let a : ℕ × Bool = get_or set.members j e in
      member_leaf set.members (p.each k set at) a (j, inside, sym (get_or_default set.members j e a inside))

  -- ---- one list

  same_members : (left right : List (ℕ × Bool)) → IsConnectionSet c left → IsConnectionSet c right → (a : ℕ × Bool) → Contains left a → Contains right a → left ≡ right
  same_members left right p q a in_left in_right = one_order number_of left right (rises_of number_of left p.ordered) (rises_of number_of right q.ordered)
      (λ b in_b. among_contained right b (q.whole a b in_right (p.joined a b in_left (contains_among left b in_b))))
      (λ b in_b. among_contained left b (p.whole a b in_left (q.joined a b in_right (contains_among right b in_b))))

  abbrev face_set : Bool → Place → List (ℕ × Bool) → FaceSet
  face_set flow place members = record { flow = flow; place = place; members = members }

  same_set : (s t : FaceSet) → s.flow ≡ t.flow → s.place ≡ t.place → s.members ≡ t.members → s ≡ t
  same_set s t e f g = ap (λ flow. face_set flow s.place s.members) e ∙ (ap (λ place. face_set t.flow place s.members) f ∙ ap (λ members. face_set t.flow t.place members) g)

  -- two sets with a common member
  one_set : IsSoundConnects c → (sets others : List FaceSet) → AreConnectionSets c sets → AreConnectionSets c others
      → (j k : ℕ) (s t : FaceSet) → IsAt sets j s → IsAt others k t → (a : ℕ × Bool) → Contains s.members a → Contains t.members a → s ≡ t
  one_set sound sets others p q j k s t at_s at_t a in_s in_t =
      let members : s.members ≡ t.members = same_members s.members t.members (p.each j s at_s) (q.each k t at_t) a in_s in_t in
      let (i, within, is) = in_s in
      let (first, there) = at_place s.members 0 (omega (arith, within)) in
      let P : List (ℕ × Bool) → Type 0 = λ l. IsAt l 0 first in
      let told = told_once sound first.0 s.flow t.flow s.place t.place (told_of (p.declared j s first at_s there)) (told_of (q.declared k t first at_t (subst P members there))) in
      same_set s t told.0 told.1 members

  -- a member of a set that is in some set of each list
  record IsShared (others : List FaceSet) (members : List (ℕ × Bool)) : Type 0 where
    face : ℕ × Bool
    member : Contains members face
    inside : IsInSome others face

  shared : (others : List FaceSet) → AreConnectionSets c others → (members : List (ℕ × Bool)) → IsConnectionSet c members → IsShared others members
  shared others q members set = elim set.enough [
    | inl two ↦
        let (a, there) = at_place members 0 (omega (arith, two)) in
        let in_a : Contains members a = (0, there.within, there.is) in
        let (b, in_b, ne) = another members set two a in_a in
        record { face = a; member = in_a; inside = q.joined a b (set.joined a b in_a in_b) ne }
    | inr lone ↦
        let P : List (ℕ × Bool) → Type 0 = λ l. Contains l (lone.variable, false) in
        let alone : Contains ((lone.variable, false) ∷ []) (lone.variable, false) = (0, omega arith, refl) in
        record { face = (lone.variable, false); member = subst P (sym lone.is) alone; inside = q.flows lone.variable lone.listed }
  ]

  among_others : IsSoundConnects c → (sets others : List FaceSet) → AreConnectionSets c sets → AreConnectionSets c others → (s : FaceSet) → Among sets s → Among others s
  among_others sound sets others p q s a =
      let (j, at) = at_of sets s a in
      let common = shared others q s.members (p.each j s at) in
      let other = common.inside in
      let same : s ≡ other.set = one_set sound sets others p q j other.at s other.set at other.there common.face common.member other.member in
      let P : FaceSet → Type 0 = λ x. Among others x in
      subst P (sym same) (among_of others other.at other.set other.there)

  first_number : List (ℕ × Bool) → ℕ
  first_number [] = 0
  first_number (a ∷ members) = number_of a

  first_number_is : (members : List (ℕ × Bool)) (a : ℕ × Bool) → IsAt members 0 a → first_number members ≡ number_of a
  unfolding first_number
  first_number_is [] a at = let within : 0 < 0 = at.within in absurd (omega arith)
  first_number_is (x ∷ members) a at = ap number_of at.is

  sets_rise : (sets : List FaceSet) → AreConnectionSets c sets → Rises (λ s. first_number s.members) sets
  sets_rise sets p = rises_of (λ s. first_number s.members) sets (λ j k s t at_s at_t less.
      let in_s = (shared sets p s.members (p.each j s at_s)).member in
      let in_t = (shared sets p t.members (p.each k t at_t)).member in
      let (i, within, _) = in_s in
      let (i', within', _) = in_t in
      let (a, first) = at_place s.members 0 (omega (arith, within)) in
      let (b, second) = at_place t.members 0 (omega (arith, within')) in
      let low : first_number s.members ≡ number_of a = first_number_is s.members a first in
      let high : first_number t.members ≡ number_of b = first_number_is t.members b second in
      let below : number_of a < number_of b = p.ordered j k s t a b at_s at_t less first second in
      omega arith)

  -- sound connects have one list of sets
  pub one_list : IsSoundConnects c → (sets others : List FaceSet) → AreConnectionSets c sets → AreConnectionSets c others → sets ≡ others
  one_list sound sets others p q = one_order (λ s. first_number s.members) sets others (sets_rise sets p) (sets_rise others q) (among_others sound sets others p q) (among_others sound others sets q p)

  -- the leaves of each connector of sound connects have different names
  pub distinct : IsSoundConnects c → All HasDistinctLeaves c.list
  distinct sound k d within = (sound.connects k d within).right.distinct
