-- The lists of the members, by the places of their leaders, are the blocks in order.
use Rattle.std.proofs.Common.{◌≡◌, ◌≢◌, ℕ, suc, ◌+◌, ◌-◌, ◌<◌, ◌≤◌, inl, inr, List, [], length, get_or, take, Contains, refl, sym, ap, ◌∙◌, arith, length-take, get_or-take}
use Rattle.std.proofs.lemmas.Bool.{cases_lt}
use Rattle.std.proofs.lemmas.Bool.Decides.{eqb_tells}
use Rattle.mo_graph.specs.Order.{Leads, IsBlock, IsPlaced, IsReady, IsNext, IsInOrder}
use Rattle.mo_graph.specs.Edges.{Edge, IsGraph, AreLeaders, AreReplaced}
use Rattle.mo_graph.specs.steps.Gathering.{AreClasses}
use Rattle.mo_graph.specs.steps.Placing.{IsOrdered, HasRanks}
use Rattle.mo_graph.specs.steps.Listing.{members, IsArranged}
use Rattle.mo_graph.proofs.Chains.{edge_at, edge_where}
use Rattle.mo_graph.proofs.Members.{members_ascend, members_contain, contain_members, at_contains, least_contained}

leads_map : {E N : ℕ → ℕ → Type 0} → ((u v : ℕ) → E u v → N u v) → {u v : ℕ} → Leads E u v → Leads N u v
leads_map f Leads.none = Leads.none
leads_map f (Leads.step e p) = Leads.step (f _ _ e) (leads_map f p)

falls_on : {a b c : ℕ} → a ≤ b → b ≤ c → a ≤ c
falls_on p q = omega (arith, p, q)

-- numbers don't fall along chains
classes_fall : (m : ℕ) (sources targets class : List ℕ) → AreClasses m sources targets class → {u v : ℕ} → Leads (Edge sources targets) u v → get_or class u 0 ≤ get_or class v 0
classes_fall m sources targets class classes Leads.none = omega arith
classes_fall m sources targets class classes (Leads.step e p) = falls_on (classes.falls _ _ e) (classes_fall m sources targets class classes p)

module _ (Need : ℕ → ℕ → Type 0) (m : ℕ) (sources targets class leader placed : List ℕ) (count : ℕ)
    (graph : IsGraph m sources targets)
    (edge-need : (i k : ℕ) → Edge sources targets i k → Need i k) (need-edge : (i k : ℕ) → Need i k → Edge sources targets i k)
    (classes : AreClasses m sources targets class) (leaders : AreLeaders class leader) (arranged : IsArranged m sources targets leader placed count) where
  ordered : IsOrdered m arranged.new_sources arranged.new_targets leader arranged.order placed count
  ordered = arranged.ordered.ordered

  place : ℕ → ℕ
  place i = get_or placed (get_or leader i 0) 0

  leader_in : (i : ℕ) → i < m → get_or leader i 0 < m
  leader_in i l = omega (arith, leaders.low i (omega (arith, classes.size)))

  leader_same : (i : ℕ) → i < m → get_or class (get_or leader i 0) 0 ≡ get_or class i 0
  leader_same i l = leaders.same i (omega (arith, classes.size))

  leader_one : (i k : ℕ) → i < m → k < m → get_or class i 0 ≡ get_or class k 0 → get_or leader i 0 ≡ get_or leader k 0
  leader_one i k il kl same = leaders.one i k (omega (arith, classes.size)) (omega (arith, classes.size)) same

  leader_leads : (i : ℕ) → i < m → get_or leader (get_or leader i 0) 0 ≡ get_or leader i 0
  leader_leads i l = leader_one (get_or leader i 0) i (leader_in i l) l (leader_same i l)

  place_in : (i : ℕ) → i < m → (0 < place i) × (place i ≤ count)
  unfolding place
  place_in i l =
      let some = arranged.ordered.all (get_or leader i 0) (leader_in i l) (leader_leads i l) in
      (omega arith, (ordered.placed_in (get_or leader i 0) some).0)

  place_order : (i q : ℕ) → i < m → place i ≡ suc q → get_or arranged.order q 0 ≡ get_or leader i 0
  unfolding place
  place_order i q l e =
      let there = (ordered.placed_in (get_or leader i 0) (omega arith)).1 in
      let back : get_or placed (get_or leader i 0) 0 - 1 ≡ q = omega arith in
      rw back at there

  -- the same place means chains there and back
  place_chained : (i k : ℕ) → i < m → k < m → place i ≡ place k → Leads Need i k × Leads Need k i
  place_chained i k il kl same =
      let some = place_in i il in
      let q : ℕ = place i - 1 in
      let at_i = place_order i (place i - 1) il (omega arith) in
      let at_k = place_order k (place i - 1) kl (omega arith) in
      let led : get_or leader i 0 ≡ get_or leader k 0 = sym at_i ∙ at_k in
      let both : get_or class i 0 ≡ get_or class k 0 = sym (leader_same i il) ∙ ap (λ (z : ℕ). get_or class z 0) led ∙ leader_same k kl in
      (leads_map edge-need (classes.together i k il both), leads_map edge-need (classes.together k i kl (sym both)))

  mutual_leader : (i k : ℕ) → i < m → k < m → Leads Need i k → Leads Need k i → get_or leader i 0 ≡ get_or leader k 0
  mutual_leader i k il kl p q =
      let up = classes_fall m sources targets class classes (leads_map need-edge p) in
      let down = classes_fall m sources targets class classes (leads_map need-edge q) in
      leader_one i k il kl (omega arith)

  mutual_place : (i k : ℕ) → i < m → k < m → Leads Need i k → Leads Need k i → place i ≡ place k
  unfolding place
  mutual_place i k il kl p q = ap (λ (z : ℕ). get_or placed z 0) (mutual_leader i k il kl p q)

  module _ (bs : List (List ℕ)) (size : length bs ≡ count) (lists : (b : ℕ) → b < count → get_or bs b [] ≡ members (λ i. get_or placed (get_or leader i 0) 0) (suc b) m) where
    contains_place : (b x : ℕ) → b < count → Contains (get_or bs b []) x → (0 < x) × (x ≤ m) × (place (x - 1) ≡ suc b)
    unfolding place
    contains_place b x l has = members_contain (λ (i : ℕ). get_or placed (get_or leader i 0) 0) (suc b) m x (rw (lists b l) at has)

    place_contains : (b i : ℕ) → b < count → i < m → place i ≡ suc b → Contains (get_or bs b []) (suc i)
    unfolding place
    place_contains b i l il e = rw (lists b l) (contain_members (λ (i : ℕ). get_or placed (get_or leader i 0) 0) (suc b) m i il e)

    ascends : (b : ℕ) → b < count → (k : ℕ) → k + 1 < length (get_or bs b []) → get_or (get_or bs b []) k 0 < get_or (get_or bs b []) (k + 1) 0
    ascends b l = rw (lists b l) (members_ascend (λ (i : ℕ). get_or placed (get_or leader i 0) 0) (suc b) m)

    -- the leader of a block
    order_in_holds : (b : ℕ) → b < count → (get_or arranged.order b 0 < m) × (get_or leader (get_or arranged.order b 0) 0 ≡ get_or arranged.order b 0) × (place (get_or arranged.order b 0) ≡ suc b)
    unfolding place
    order_in_holds b l = let at = ordered.order_in b l in (at.0, at.1, rw at.1 at.2)

    block_there : (b : ℕ) → b < count → IsBlock Need m (get_or bs b [])
    block_there b l =
        let at = order_in_holds b l in (
          get_or arranged.order b 0,
          at.0,
          record {
            ascending = ascends b l;
            only = λ x has.
                let known = contains_place b x l has in
                let inside : x - 1 < m = omega arith in
                let chained = place_chained (get_or arranged.order b 0) (x - 1) at.0 inside (at.2 ∙ sym known.2) in
                (known.0, known.1, (chained.0, chained.1));
            all = λ x above below there.
                let inside : x - 1 < m = omega arith in
                let same = mutual_place (get_or arranged.order b 0) (x - 1) at.0 inside there.0 there.1 in
                let back : suc (x - 1) ≡ x = omega arith in
                rw back at (place_contains b (x - 1) l inside (sym same ∙ at.2));
          },
        )

    placed_place : (b x : ℕ) → b ≤ count → IsPlaced (take b bs) x → (0 < x) × (x ≤ m) × (place (x - 1) ≤ b)
    placed_place b x l h =
        let low : h.0 < b = omega (arith, h.1, length-take b bs) in
        let has : Contains (get_or bs h.0 []) x = rw (get_or-take b bs h.0 [] low) at h.2 in
        let known = contains_place h.0 x (omega arith) has in
        (known.0, known.1, omega (arith, known.2))

    place_placed : (b i : ℕ) → b ≤ count → i < m → place i ≤ b → IsPlaced (take b bs) (suc i)
    place_placed b i l il le =
        let some = place_in i il in
        let low : place i - 1 < b = omega arith in
        let inside : place i - 1 < count = omega arith in
        let has = place_contains (place i - 1) i inside il (omega arith) in
        (place i - 1, omega (arith, length-take b bs), rw (get_or-take b bs (place i - 1) [] low) has)

    -- an edge of the graph, between leaders
    edge_between : (i k : ℕ) → Need i k → (x : ℕ) × (x < length arranged.new_sources) × (get_or arranged.new_sources x 0 ≡ get_or leader i 0) × (get_or arranged.new_targets x 0 ≡ get_or leader k 0) × (i < m) × (k < m)
    edge_between i k need =
        let e = edge_where sources targets i k (need-edge i k need) in
        let inside : e.0 < length targets = omega (arith, e.1, graph.same) in
        let from = arranged.replaced_sources.at e.0 e.1 in
        let to = arranged.replaced_targets.at e.0 inside in
        (e.0, omega (arith, e.1, arranged.replaced_sources.size), rw e.2 at from, rw e.3 at to, rw e.2 at (graph.source e.0 e.1), rw e.3 at (graph.target e.0 e.1))

    place_leader : (i k : ℕ) → get_or leader i 0 ≡ get_or leader k 0 → place k ≡ place i
    unfolding place
    place_leader i k e = ap (λ (z : ℕ). get_or placed z 0) (sym e)

    place_low : (k b x : ℕ) → get_or arranged.new_targets x 0 ≡ get_or leader k 0 → get_or placed (get_or arranged.new_targets x 0) 0 ≤ b → place k ≤ b
    unfolding place
    place_low k b x e le = rw e at le

    ready_there : (b : ℕ) → b < count → IsReady Need m (take b bs) (get_or bs b [])
    ready_there b l = record {
      is_block = block_there b l;
      unplaced = λ x has before.
          let here = contains_place b x l has in
          let there = placed_place b x (omega arith) before in
          omega (arith, here.2, there.2);
      met = λ i k has need.
          let x = edge_between i k need in
          let here = contains_place b (suc i) l has in
          let back : suc i - 1 ≡ i = omega arith in
          let at : place i ≡ suc b = rw back at here.2 in
          let from : get_or arranged.new_sources x.0 0 ≡ get_or arranged.order b 0 = x.2 ∙ sym (place_order i b x.4 at) in
          elim (eqb_tells (get_or leader i 0) (get_or leader k 0)) [
            | inl e ↦ inl (place_contains b k l x.5 (place_leader i k e.1 ∙ at))
            | inr e ↦
                let differ : get_or arranged.new_sources x.0 0 ≢ get_or arranged.new_targets x.0 0 = λ same. e.1 (sym x.2 ∙ same ∙ x.3) in
                let done = ordered.met b x.0 l x.1 from differ in
                inr (place_placed b k (omega arith) x.5 (place_low k b x.0 x.3 done.1))
          ];
    }

    -- another block that is ready
    module _ (b : ℕ) (l : b < count) (other : List ℕ) (ready : IsReady Need m (take b bs) other) where
      i : ℕ
      i = ready.is_block.0

      v : ℕ
      v = get_or leader ready.is_block.0 0

      i_in : i < m
      unfolding i
      i_in = ready.is_block.1

      has : (k : ℕ) → k < m → Leads Need i k → Leads Need k i → Contains other (suc k)
      unfolding i
      has k kl p q = let back : suc k - 1 ≡ k = omega arith in ready.is_block.2.all (suc k) (omega arith) (omega arith) (rw back (p, q))

      chained : (x : ℕ) → Contains other x → (0 < x) × (x ≤ m) × (get_or leader (x - 1) 0 ≡ v)
      unfolding i v
      chained x there =
          let known = ready.is_block.2.only x there in
          let inside : x - 1 < m = omega arith in
          (known.0, known.1, sym (mutual_leader i (x - 1) i_in inside known.2.0 known.2.1))

      later : get_or placed v 0 ≢ 0 → b < get_or placed v 0
      unfolding i v place
      later some = elim (cases_lt b (get_or placed v 0)) [
        | inl h ↦ h
        | inr h ↦ absurd (ready.unplaced (suc i) (has i i_in Leads.none Leads.none) (place_placed b i (omega arith) i_in h))
      ]

      needs : (x : ℕ) → x < length arranged.new_sources → get_or arranged.new_sources x 0 ≡ v → get_or arranged.new_sources x 0 ≢ get_or arranged.new_targets x 0
          → (get_or placed (get_or arranged.new_targets x 0) 0 ≢ 0) × (get_or placed (get_or arranged.new_targets x 0) 0 ≤ b)
      unfolding i v place
      needs x xl from differ =
          let xs : x < length sources = omega (arith, arranged.replaced_sources.size) in
          let xt : x < length targets = omega (arith, graph.same) in
          let s_is : get_or arranged.new_sources x 0 ≡ get_or leader (get_or sources x 0) 0 = arranged.replaced_sources.at x xs in
          let t_is : get_or arranged.new_targets x 0 ≡ get_or leader (get_or targets x 0) 0 = arranged.replaced_targets.at x xt in
          let sm : get_or sources x 0 < m = graph.source x xs in
          let tm : get_or targets x 0 < m = graph.target x xs in
          let same : place i ≡ place (get_or sources x 0) = ap (λ (z : ℕ). get_or placed z 0) (sym from ∙ s_is) in
          let chains = place_chained i (get_or sources x 0) i_in sm same in
          let here = has (get_or sources x 0) sm chains.0 chains.1 in
          elim (ready.met (get_or sources x 0) (get_or targets x 0) here (edge-need (get_or sources x 0) (get_or targets x 0) (edge_at sources targets x xs))) [
            | inl inside ↦
                let known = chained (suc (get_or targets x 0)) inside in
                let back : suc (get_or targets x 0) - 1 ≡ get_or targets x 0 = omega arith in
                let led : get_or leader (get_or targets x 0) 0 ≡ v = rw back at known.2 in
                absurd (differ (from ∙ sym led ∙ sym t_is))
            | inr before ↦
                let known = placed_place b (suc (get_or targets x 0)) (omega arith) before in
                let back : suc (get_or targets x 0) - 1 ≡ get_or targets x 0 = omega arith in
                let low : place (get_or targets x 0) ≤ b = rw back at known.2 in
                let some = (place_in (get_or targets x 0) tm).0 in
                rw t_is (omega arith, low)
          ]

      pub least_there : get_or (get_or bs b []) 0 0 ≤ get_or other 0 0
      unfolding i v
      least_there =
          let at = order_in_holds b l in
          let head = (least_contained (get_or bs b []) (suc (get_or arranged.order b 0)) (ascends b l) (place_contains b (get_or arranged.order b 0) l at.0 at.2)).0 in
          let lead : get_or arranged.order b 0 ≤ v = ordered.least b v l (leader_in i i_in) (leader_leads i i_in) later needs in
          let some = (least_contained other (suc i) ready.is_block.2.ascending (has i i_in Leads.none Leads.none)).1 in
          let first = chained (get_or other 0 0) (at_contains other (get_or other 0 0) 0 some refl) in
          let inside : get_or other 0 0 - 1 < m = omega arith in
          let low : get_or leader (get_or other 0 0 - 1) 0 ≤ get_or other 0 0 - 1 = leaders.low (get_or other 0 0 - 1) (omega (arith, classes.size)) in
          omega (arith, first.2)

    next_there : (b : ℕ) → b < count → IsNext Need m (take b bs) (get_or bs b [])
    next_there b l = record { ready = ready_there b l; least = λ other ready. least_there b l other ready }

    pub in_order : IsInOrder Need m bs
    in_order = record {
      next = λ b l. next_there b (omega arith);
      all = λ x above below.
          let inside : x - 1 < m = omega arith in
          let some = place_in (x - 1) inside in
          let back : suc (x - 1) ≡ x = omega arith in
          let has = place_contains (place (x - 1) - 1) (x - 1) (omega arith) inside (omega arith) in
          (place (x - 1) - 1, omega arith, rw back at has);
    }

-- the numbers of classes rise along the edges between different leaders
pub ranks_rise : (m : ℕ) (sources targets class leader new_sources new_targets : List ℕ) → IsGraph m sources targets → AreClasses m sources targets class → AreLeaders class leader
    → AreReplaced leader sources new_sources → AreReplaced leader targets new_targets
    → HasRanks m new_sources new_targets
ranks_rise m sources targets class leader new_sources new_targets graph classes leaders rs rt = record {
  rank = λ v. get_or class v 0;
  top = m;
  low = λ v l. (classes.some v l).1;
  rise = λ x l differ.
      let xs : x < length sources = omega (arith, rs.size) in
      let xt : x < length targets = omega (arith, graph.same) in
      let sm : get_or sources x 0 < length class = omega (arith, graph.source x xs, classes.size) in
      let tm : get_or targets x 0 < length class = omega (arith, graph.target x xs, classes.size) in
      let falls = classes.falls (get_or sources x 0) (get_or targets x 0) (edge_at sources targets x xs) in
      let apart : get_or class (get_or sources x 0) 0 ≢ get_or class (get_or targets x 0) 0 = λ same. differ (rs.at x xs ∙ leaders.one (get_or sources x 0) (get_or targets x 0) sm tm same ∙ sym (rt.at x xt)) in
      rw (rs.at x xs, rt.at x xt, leaders.same (get_or sources x 0) sm, leaders.same (get_or targets x 0) tm) (omega (arith, falls, apart));
}

-- what the steps give together
module _ (sources targets class leader placed : List ℕ) (count m : ℕ) (graph : IsGraph m sources targets)
    (sources' targets' class' leader' : List ℕ) (s_is : sources' ≡ sources) (t_is : targets' ≡ targets) (c_is : class' ≡ class) (l_is : leader' ≡ leader)
    (classes : AreClasses m sources' targets' class) (leaders : AreLeaders class' leader) (arranged : IsArranged (length leader') sources targets leader' placed count) where
  classes_here : AreClasses m sources targets class
  classes_here = rw (← s_is, ← t_is) classes

  leaders_here : AreLeaders class leader
  leaders_here = rw (← c_is) leaders

  arranged_here : IsArranged m sources targets leader placed count
  arranged_here =
      let size : length leader' ≡ m = rw (← l_is) at (leaders_here.size ∙ classes_here.size) in
      rw (← size, ← l_is) arranged

  pub found_in_order : (bs : List (List ℕ)) (leader'' placed'' : List ℕ) → leader'' ≡ leader → placed'' ≡ placed → length bs ≡ count
      → ((b : ℕ) → b < count → get_or bs b [] ≡ members (λ i. get_or placed'' (get_or leader'' i 0) 0) (suc b) (length leader''))
      → IsInOrder (Edge sources targets) m bs
  found_in_order bs leader'' placed'' l_is' p_is' size lists =
      let all : length leader ≡ m = leaders_here.size ∙ classes_here.size in
      let lists' : (b : ℕ) → b < count → get_or bs b [] ≡ members (λ i. get_or placed (get_or leader i 0) 0) (suc b) m = rw (← all, ← l_is', ← p_is') lists in
      in_order (Edge sources targets) m sources targets class leader placed count graph (λ _ _ e. e) (λ _ _ e. e) classes_here leaders_here arranged_here bs size lists'

-- blocks in order by one relation are so by another that says the same
module _ (E N : ℕ → ℕ → Type 0) (there : (i k : ℕ) → E i k → N i k) (back : (i k : ℕ) → N i k → E i k) (m : ℕ) where
  block_as : (F G : ℕ → ℕ → Type 0) → ((i k : ℕ) → F i k → G i k) → ((i k : ℕ) → G i k → F i k) → (xs : List ℕ) → IsBlock F m xs → IsBlock G m xs
  block_as F G f g xs block = (
    block.0,
    block.1,
    record {
      ascending = block.2.ascending;
      only = λ x has. let known = block.2.only x has in (known.0, known.1, (leads_map f known.2.0, leads_map f known.2.1));
      all = λ x above below both. block.2.all x above below (leads_map g both.0, leads_map g both.1);
    },
  )

  ready_as : (F G : ℕ → ℕ → Type 0) → ((i k : ℕ) → F i k → G i k) → ((i k : ℕ) → G i k → F i k) → (before : List (List ℕ)) (xs : List ℕ) → IsReady F m before xs → IsReady G m before xs
  ready_as F G f g before xs ready = record {
    is_block = block_as F G f g xs ready.is_block;
    unplaced = ready.unplaced;
    met = λ i k has need. ready.met i k has (g i k need);
  }

  pub order_as : (bs : List (List ℕ)) → IsInOrder E m bs → IsInOrder N m bs
  order_as bs order = record {
    next = λ b l.
        let next = order.next b l in
        record { ready = ready_as E N there back (take b bs) (get_or bs b []) next.ready; least = λ other ready. next.least other (ready_as N E back there (take b bs) other ready) };
    all = order.all;
  }
