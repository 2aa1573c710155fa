-- What is left of a chain that is split at its latest link.
use Rattle.std.proofs.Common.{◌≡◌, ℕ, zero, suc, ◌+◌, ◌-◌, ◌<◌, ◌≤◌, Bool, true, false, inl, inr, List, [], ◌∷◌, ◌++◌, Option, Contains, length, sym, ap, ◌∙◌, subst, arith, append-nil, append_assoc, true≢false}
use Rattle.std.specs.Prelude.{◌⊎◌}
use Rattle.std.proofs.lemmas.Bool.{cases_lt}
use Rattle.std.specs.BTreeSet.{BTreeSet, Updates}
use Rattle.std.specs.Ordering.{nat_cmp}
use Rattle.mo_graph.specs.steps.Placing.{Has}
use Rattle.mo_graph.proofs.Ready.{has_either, has_new, has_old}
use Rattle.mo_alias.specs.declared.alias.Alias.{Alias}
use Rattle.mo_alias.specs.declared.chain.Stretch.{Stretch}
use Rattle.mo_alias.specs.declared.trees.Latest.{Latest}
use Rattle.mo_alias.specs.declared.trees.Trees.{Trees}
use Rattle.mo_alias.specs.Chains.{Chain, IsLinkBelow, IsLink, Says, forth, back}
use Rattle.mo_alias.specs.Chains as chains
use Rattle.mo_alias.specs.steps.Forests.{AreRooted, AreWithin, ends_in, first, HaveRoot, IsForest, IsLatest, minus_in, parent_in, Reaches, second, since_in}
use Rattle.mo_alias.specs.steps.Stretches.{AreLeft, AreOpen, AreSame, AreStretches, IsListed, IsOpen, IsStretch, weight}
use Rattle.mo_alias.specs.steps.Stretches as stretches
use Rattle.mo_alias.proofs.Chaining.{says_back}
use Rattle.mo_alias.proofs.Climbing.{climbs_one}
use Rattle.mo_alias.proofs.Latest.{later_root}
use Rattle.mo_alias.proofs.Stretching.{distinct_none, member_append, member_left, member_right, stretch_joined, weight_less, weight_put, weight_some}

-- ---- lists of stretches, from their ends

pub waiting_put : (t : Trees) (n : ℕ) (ws : List Stretch) (w : Stretch) → AreOpen t n ws → IsOpen t n w → AreOpen t n (ws ++ w ∷ [])
waiting_put t n ws w stretches.AreOpen.none o = stretches.AreOpen.more o stretches.AreOpen.none
waiting_put t n ws w (stretches.AreOpen.more {stretches = os} p ps) o = stretches.AreOpen.more p (waiting_put t n os w ps o)

pub waiting_last : (t : Trees) (n : ℕ) (ws : List Stretch) (w : Stretch) → AreOpen t n (ws ++ w ∷ []) → AreOpen t n ws × IsOpen t n w
waiting_last t n [] w (stretches.AreOpen.more o os) = (stretches.AreOpen.none, o)
waiting_last t n (x ∷ ws) w (stretches.AreOpen.more o os) = let h = waiting_last t n ws w os in (stretches.AreOpen.more o h.0, h.1)

module _ (said : List (Option Alias)) where
  pub stretches_put : (ws : List Stretch) (w : Stretch) (others links : List ℕ) → AreStretches said ws others → IsStretch said w links → AreStretches said (ws ++ w ∷ []) (others ++ links)
  stretches_put ws w others links stretches.AreStretches.none s = subst (λ z. AreStretches said (w ∷ []) z) (append-nil links) (stretches.AreStretches.more s stretches.AreStretches.none)
  stretches_put ws w others links (stretches.AreStretches.more {stretch = x} {stretches = xs} {links = ls} {others = os} p ps) s =
      subst (λ z. AreStretches said (x ∷ (xs ++ w ∷ [])) z) (sym (append_assoc ls os links)) (stretches.AreStretches.more p (stretches_put xs w os links ps s))

  pub stretches_last : (ws : List Stretch) (w : Stretch) (all : List ℕ) → AreStretches said (ws ++ w ∷ []) all
      → (others : List ℕ) × (links : List ℕ) × AreStretches said ws others × IsStretch said w links × (all ≡ others ++ links)
  stretches_last [] w all (stretches.AreStretches.more {links = ls} p stretches.AreStretches.none) = ([], ls, stretches.AreStretches.none, p, append-nil ls)
  stretches_last (x ∷ ws) w all (stretches.AreStretches.more {links = ls} {others = os} p ps) =
      let h = stretches_last ws w os ps in
      (ls ++ h.0, h.1, stretches.AreStretches.more p h.2, h.3, ap (λ z. ls ++ z) h.4 ∙ sym (append_assoc ls h.0 h.1))

  empty_stretch : (w : Stretch) → w.one ≡ w.other → IsStretch said w []
  empty_stretch w e = record {
    minus = false;
    chain = subst (λ z. Chain said (IsLinkBelow said w.below) w.one z false []) e chains.Chain.none;
    once = distinct_none;
  }

  -- ---- what is left

  module _ (whole : Stretch) (old : BTreeSet ℕ) where
    pub left_init : AreLeft said whole old (whole ∷ []) old
    left_init links s = by (stretches_last [] whole links s)
      where
        by : (others : List ℕ) × (ls : List ℕ) × AreStretches said [] others × IsStretch said whole ls × (links ≡ others ++ ls) → (all : List ℕ) × IsStretch said whole all × AreSame old links old all
        by (others, ls, stretches.AreStretches.none, p, e) = (ls, p, λ x. (λ h. subst (λ z. IsListed old z x) e h, λ h. subst (λ z. IsListed old z x) (sym e) h))

    pub left_done : (set : BTreeSet ℕ) → AreLeft said whole old [] set → (links : List ℕ) × IsStretch said whole links × ((x : ℕ) → (Has set x → IsListed old links x) × (IsListed old links x → Has set x))
    left_done set left = let h = left [] stretches.AreStretches.none in (h.0, h.1, λ x. ((λ m. (h.2 x).0 (inl m)), (λ m. out x ((h.2 x).1 m))))
      where
        out : (x : ℕ) → IsListed set [] x → Has set x
        out x (inl m) = m
        out x (inr (p, m)) = absurd (let l = m.1 in omega (arith, l))

    pub left_skip : (ws : List Stretch) (w : Stretch) (set : BTreeSet ℕ) → w.one ≡ w.other → AreLeft said whole old (ws ++ w ∷ []) set → AreLeft said whole old ws set
    left_skip ws w set e left links s =
        let h = left (links ++ []) (stretches_put ws w links [] s (empty_stretch w e)) in
        (h.0, h.1, subst (λ z. AreSame set z old h.0) (append-nil links) h.2)

    module _ (ws : List Stretch) (w a b : Stretch) (set next : BTreeSet ℕ) (at : ℕ) (up : Updates nat_cmp set next (at + 1) true)
        (joined : (xs ys : List ℕ) → IsStretch said a xs → IsStretch said b ys → IsStretch said w (xs ++ at ∷ ys)) where
      into : (others xs ys : List ℕ) (x : ℕ) → IsListed next ((others ++ xs) ++ ys) x → IsListed set (others ++ (xs ++ at ∷ ys)) x
      into others xs ys x (inl has) = by (has_either set next (at + 1) up x has)
        where
          by : Has set x ⊎ (x ≡ at + 1) → IsListed set (others ++ (xs ++ at ∷ ys)) x
          by (inl h) = inl h
          by (inr e) =
              let less : x - 1 ≡ at = omega (arith, e) in
              inr (omega (arith, e), member_right others (xs ++ at ∷ ys) (x - 1) (member_right xs (at ∷ ys) (x - 1) (0, omega arith, sym less)))
      into others xs ys x (inr (p, m)) = by (member_append (others ++ xs) ys (x - 1) m)
        where
          inner : Contains others (x - 1) ⊎ Contains xs (x - 1) → IsListed set (others ++ (xs ++ at ∷ ys)) x
          inner (inl h) = inr (p, member_left others (xs ++ at ∷ ys) (x - 1) h)
          inner (inr h) = inr (p, member_right others (xs ++ at ∷ ys) (x - 1) (member_left xs (at ∷ ys) (x - 1) h))

          by : Contains (others ++ xs) (x - 1) ⊎ Contains ys (x - 1) → IsListed set (others ++ (xs ++ at ∷ ys)) x
          by (inl h) = inner (member_append others xs (x - 1) h)
          by (inr h) = inr (p, member_right others (xs ++ at ∷ ys) (x - 1) (member_right xs (at ∷ ys) (x - 1) (suc h.0, omega (arith, h.1), h.2)))

      from : (others xs ys : List ℕ) (x : ℕ) → IsListed set (others ++ (xs ++ at ∷ ys)) x → IsListed next ((others ++ xs) ++ ys) x
      from others xs ys x (inl has) = inl (has_old set next (at + 1) up x has)
      from others xs ys x (inr (p, m)) = by (member_append others (xs ++ at ∷ ys) (x - 1) m)
        where
          last : Contains (at ∷ ys) (x - 1) → IsListed next ((others ++ xs) ++ ys) x
          last (zero, l, e) = let is : x ≡ at + 1 = omega (arith, p, e) in inl (subst (λ z. Has next z) (sym is) (has_new set next (at + 1) up))
          last (suc k, l, e) = inr (p, member_right (others ++ xs) ys (x - 1) (k, omega (arith, l), e))

          inner : Contains xs (x - 1) ⊎ Contains (at ∷ ys) (x - 1) → IsListed next ((others ++ xs) ++ ys) x
          inner (inl h) = inr (p, member_left (others ++ xs) ys (x - 1) (member_right others xs (x - 1) h))
          inner (inr h) = last h

          by : Contains others (x - 1) ⊎ Contains (xs ++ at ∷ ys) (x - 1) → IsListed next ((others ++ xs) ++ ys) x
          by (inl h) = inr (p, member_left (others ++ xs) ys (x - 1) (member_left others xs (x - 1) h))
          by (inr h) = inner (member_append xs (at ∷ ys) (x - 1) h)

      pub left_split : AreLeft said whole old (ws ++ w ∷ []) set → AreLeft said whole old ((ws ++ a ∷ []) ++ b ∷ []) next
      left_split left links s =
          let two = stretches_last (ws ++ a ∷ []) b links s in
          let one = stretches_last ws a two.0 two.2 in
          let is : links ≡ (one.0 ++ one.1) ++ two.1 = two.4 ∙ ap (λ z. z ++ two.1) one.4 in
          let h = left (one.0 ++ (one.1 ++ at ∷ two.1)) (stretches_put ws w one.0 (one.1 ++ at ∷ two.1) one.2 (joined one.1 two.1 one.3 two.3)) in (
            h.0,
            h.1,
            λ x. (
              (λ m. (h.2 x).0 (into one.0 one.1 two.1 x (subst (λ z. IsListed next z x) is m))),
              (λ m. subst (λ z. IsListed next z x) (sym is) (from one.0 one.1 two.1 x ((h.2 x).1 m))),
            ),
          )

  -- ---- the latest link

  -- its ends stand in two trees before it, each with one of the unknowns
  pub record IsSplit (t : Trees) (one other below : ℕ) (latest : Latest) : Type 0 where
    pub low : latest.at < below
    pub link : IsLink said latest.at
    pub minus : Bool
    pub says : Says said latest.at latest.near latest.far minus
    pub near_joined : HaveRoot t latest.at one latest.near
    pub far_joined : HaveRoot t latest.at latest.far other
    pub apart : (r : AreRooted said t latest.at) → r.root latest.near ≡ r.root latest.far → ⊥

  module _ (t : Trees) (n : ℕ) (forest : IsForest said t n) (one other below : ℕ) (joined : HaveRoot t below one other) (latest : Latest) where
    not_above : (u : ℕ) → since_in t u < 18446744073709551615 → u ≡ parent_in t u → ⊥
    not_above u l e = let r = forest.trees.rises u l in let same : since_in t u ≡ since_in t (parent_in t u) = ap (since_in t) e in omega (arith, r, same)

    before_below : (u v : ℕ) (s z : Bool) → (u ≡ v → ⊥) → latest.at < 18446744073709551615 → Reaches t latest.at one u s → Reaches t latest.at other v z → latest.at < below
    before_below u v s z ne l c d = elim (cases_lt latest.at below) [
      | inl less ↦ less
      | inr high ↦ absurd (
          let h = later_root t forest.trees below latest.at one other high (omega (arith, l)) joined in
          let x = climbs_one (parent_in t) (since_in t) (minus_in t) latest.at one u h.root s h.sign c h.above in
          let y = climbs_one (parent_in t) (since_in t) (minus_in t) latest.at other v h.root z h.other_sign d h.other_above in
          ne (x.0 ∙ sym y.0))
    ]

    two_roots : (u v near far : ℕ) (s z : Bool) → (u ≡ v → ⊥) → Reaches t latest.at near u s → Reaches t latest.at far v z → (r : AreRooted said t latest.at) → r.root near ≡ r.root far → ⊥
    two_roots u v near far s z ne c d r e =
        let x = climbs_one (parent_in t) (since_in t) (minus_in t) latest.at near u (r.root near) s (r.sign near) c (r.climbs near) in
        let y = climbs_one (parent_in t) (since_in t) (minus_in t) latest.at far v (r.root far) z (r.sign far) d (r.climbs far) in
        ne (x.0 ∙ e ∙ sym y.0)

    pub is_split : IsLatest t one other latest → IsSplit t one other below latest
    is_split (first u s z at l near far c d) =
        let k = forest.linked u (omega (arith, at, l)) in
        let ne : u ≡ parent_in t u → ⊥ = not_above u (omega (arith, at, l)) in
        let nu : Reaches t latest.at latest.near u k.sign = subst (λ w. Reaches t w latest.near u k.sign) at (subst (λ w. Reaches t (since_in t u) w u k.sign) near k.near) in
        let fu : Reaches t latest.at latest.far (parent_in t u) k.other_sign = subst (λ w. Reaches t w latest.far (parent_in t u) k.other_sign) at (subst (λ w. Reaches t (since_in t u) w (parent_in t u) k.other_sign) far k.far) in
        record {
          low = before_below u (parent_in t u) s z ne l c d;
          link = subst (λ w. IsLink said w) at k.link;
          minus = k.minus;
          says = subst (λ w. Says said w latest.near latest.far k.minus) at (subst (λ w. Says said (since_in t u) w latest.far k.minus) near (subst (λ w. Says said (since_in t u) (ends_in t u).0 w k.minus) far k.says));
          near_joined = record { root = u; sign = s; other_sign = k.sign; above = c; other_above = nu };
          far_joined = record { root = parent_in t u; sign = k.other_sign; other_sign = z; above = fu; other_above = d };
          apart = two_roots u (parent_in t u) latest.near latest.far k.sign k.other_sign ne nu fu;
        }
    is_split (second u s z at l near far c d) =
        let k = forest.linked u (omega (arith, at, l)) in
        let ne : parent_in t u ≡ u → ⊥ = λ e. not_above u (omega (arith, at, l)) (sym e) in
        let fu : Reaches t latest.at latest.far u k.sign = subst (λ w. Reaches t w latest.far u k.sign) at (subst (λ w. Reaches t (since_in t u) w u k.sign) far k.near) in
        let nu : Reaches t latest.at latest.near (parent_in t u) k.other_sign = subst (λ w. Reaches t w latest.near (parent_in t u) k.other_sign) at (subst (λ w. Reaches t (since_in t u) w (parent_in t u) k.other_sign) near k.far) in
        record {
          low = before_below (parent_in t u) u s z ne l c d;
          link = subst (λ w. IsLink said w) at k.link;
          minus = k.minus;
          says = says_back said latest.at latest.far latest.near k.minus
              (subst (λ w. Says said w latest.far latest.near k.minus) at (subst (λ w. Says said (since_in t u) latest.far w k.minus) near (subst (λ w. Says said (since_in t u) w (ends_in t u).1 k.minus) far k.says)));
          near_joined = record { root = parent_in t u; sign = s; other_sign = k.other_sign; above = c; other_above = nu };
          far_joined = record { root = u; sign = k.sign; other_sign = z; above = fu; other_above = d };
          apart = two_roots (parent_in t u) u latest.near latest.far k.other_sign k.sign ne nu fu;
        }

    module _ (split : IsSplit t one other below latest) (within : AreWithin said (length t.parent.items)) where
      ends_inside : (e u v : ℕ) (m : Bool) → Says said e u v m → (u < length t.parent.items) × (v < length t.parent.items)
      ends_inside e u v m (forth a is l r k) = let h = within e a is in (subst (λ w. w < length t.parent.items) l h.0, subst (λ w. w < length t.parent.items) r h.1)
      ends_inside e u v m (back a is r l k) = let h = within e a is in (subst (λ w. w < length t.parent.items) r h.1, subst (λ w. w < length t.parent.items) l h.0)

      pub near_open : below ≤ n → one < length t.parent.items → IsOpen t n (record { one = one; other = latest.near; below = latest.at })
      near_open low l = record { early = (let h = split.low in omega (arith, h, low)); one = l; other = (ends_inside latest.at latest.near latest.far split.minus split.says).0; joined = split.near_joined }

      pub far_open : below ≤ n → other < length t.parent.items → IsOpen t n (record { one = latest.far; other = other; below = latest.at })
      far_open low l = record { early = (let h = split.low in omega (arith, h, low)); one = (ends_inside latest.at latest.near latest.far split.minus split.says).1; other = l; joined = split.far_joined }

      pub both_joined : below ≤ n → (xs ys : List ℕ) → IsStretch said (record { one = one; other = latest.near; below = latest.at }) xs
          → IsStretch said (record { one = latest.far; other = other; below = latest.at }) ys → IsStretch said (record { one = one; other = other; below = below }) (xs ++ latest.at ∷ ys)
      both_joined l xs ys =
          let low = split.low in
          let r = forest.rooted latest.at (omega (arith, low, l)) in
          stretch_joined said latest.at below split.low split.link one latest.near latest.far other split.minus split.says r.root r.sign r.marked (split.apart r) xs ys

-- ---- the turns of the loop

module _ (said : List (Option Alias)) (t : Trees) (n : ℕ) (forest : IsForest said t n) (within : AreWithin said (length t.parent.items)) (whole : Stretch) (old : BTreeSet ℕ) where
  pub turn_begin : (items : List Stretch) → items ≡ [] ++ whole ∷ [] → IsOpen t n whole → AreOpen t n items × AreLeft said whole old items old
  turn_begin items e o = subst (λ z. AreOpen t n z × AreLeft said whole old z old) (sym e) (stretches.AreOpen.more o stretches.AreOpen.none, left_init said whole old)

  module _ (items rest : List Stretch) (w : Stretch) (set : BTreeSet ℕ) (e : items ≡ rest ++ w ∷ []) (before : AreOpen t n items × AreLeft said whole old items set) where
    before_last : AreOpen t n (rest ++ w ∷ []) × AreLeft said whole old (rest ++ w ∷ []) set
    before_last = subst (λ z. AreOpen t n z × AreLeft said whole old z set) e before

    pub turn_open : IsOpen t n w
    turn_open = (waiting_last t n rest w before_last.0).1

    pub turn_joined : HaveRoot t 18446744073709551615 w.one w.other
    turn_joined =
        let low = turn_open.early in
        let high = forest.early in
        later_root t forest.trees w.below 18446744073709551615 w.one w.other (omega (arith, low, high)) (omega arith) turn_open.joined

    pub turn_skip : w.one ≡ w.other → AreOpen t n rest × AreLeft said whole old rest set
    turn_skip same = ((waiting_last t n rest w before_last.0).0, left_skip said whole old rest w set same before_last.1)

    pub turn_skip_less : weight rest < weight items
    turn_skip_less =
        let more = weight_put rest w in
        let some = weight_some w.below in
        let is : weight items ≡ weight (rest ++ w ∷ []) = ap weight e in
        omega (arith, more, some, is)

    module _ (latest : Latest) (is-latest : IsLatest t w.one w.other latest) (after : List Stretch)
        (f : after ≡ (rest ++ (record { one = w.one; other = latest.near; below = latest.at }) ∷ []) ++ (record { one = latest.far; other = w.other; below = latest.at }) ∷ []) where
      split : IsSplit said t w.one w.other w.below latest
      split = is_split said t n forest w.one w.other w.below turn_open.joined latest is-latest

      pub turn_split : (next : BTreeSet ℕ) (number : ℕ) → number ≡ latest.at + 1 → Updates nat_cmp set next number true → AreOpen t n after × AreLeft said whole old after next
      turn_split next number is up = subst (λ z. AreOpen t n z × AreLeft said whole old z next) (sym f) (
        waiting_put t n (rest ++ (record { one = w.one; other = latest.near; below = latest.at }) ∷ []) (record { one = latest.far; other = w.other; below = latest.at })
            (waiting_put t n rest (record { one = w.one; other = latest.near; below = latest.at }) (waiting_last t n rest w before_last.0).0
            (near_open said t n forest w.one w.other w.below turn_open.joined latest split within turn_open.early turn_open.one))
            (far_open said t n forest w.one w.other w.below turn_open.joined latest split within turn_open.early turn_open.other),
        left_split said whole old rest w (record { one = w.one; other = latest.near; below = latest.at }) (record { one = latest.far; other = w.other; below = latest.at }) set next latest.at
            (subst (λ z. Updates nat_cmp set next z true) is up)
            (both_joined said t n forest w.one w.other w.below turn_open.joined latest split within turn_open.early) before_last.1,
      )

      pub turn_split_less : weight after < weight items
      turn_split_less =
          let more = weight_put rest w in
          let one = weight_put rest (record { one = w.one; other = latest.near; below = latest.at }) in
          let two = weight_put (rest ++ (record { one = w.one; other = latest.near; below = latest.at }) ∷ []) (record { one = latest.far; other = w.other; below = latest.at }) in
          let less = weight_less latest.at w.below split.low in
          let is : weight items ≡ weight (rest ++ w ∷ []) = ap weight e in
          let then : weight after ≡ weight ((rest ++ (record { one = w.one; other = latest.near; below = latest.at }) ∷ []) ++ (record { one = latest.far; other = w.other; below = latest.at }) ∷ []) = ap weight f in
          omega (arith, more, one, two, less, is, then)

pub turn_done : (said : List (Option Alias)) (whole : Stretch) (old : BTreeSet ℕ) (items : List Stretch) (set : BTreeSet ℕ) → (0 < length items → false ≡ true) → AreLeft said whole old items set
    → (links : List ℕ) × IsStretch said whole links × ((x : ℕ) → (Has set x → IsListed old links x) × (IsListed old links x → Has set x))
turn_done said whole old [] set none left = left_done said whole old set left
turn_done said whole old (w ∷ ws) set none left = absurd (true≢false (sym (none (omega arith))))
