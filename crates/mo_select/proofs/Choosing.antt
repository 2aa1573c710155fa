-- What the pairs of candidates and equations say of the choice and of each level.
use Rattle.std.proofs.Common.{◌≡◌, ◌≢◌, ℕ, suc, ◌-◌, ◌<◌, ◌≤◌, inl, inr, if◌then◌else◌, true, false, nat_lt, List, length, get_or, take, refl, sym, ap, ◌∙◌, arith}
use Rattle.std.proofs.lemmas.List.{get_or-take}
use Rattle.std.proofs.lemmas.Bool.Decides.{eqb_tells, nat_tests}
use Rattle.std.proofs.lemmas.Bool.{cases_lt}
use Rattle.mo_graph.specs.Counting.{count_below}
use Rattle.mo_graph.proofs.Counting.{count_injection, count_same, count_ones, count_full}
use Rattle.mo_incidence.specs.Signature.{Signature}
use Rattle.mo_incidence.specs.Assignment.{Assigns}
use Rattle.mo_incidence.specs.Offsets.{by_place, IsTight}
use Rattle.mo_incidence.specs.steps.Needing.{AreOwners}
use Rattle.mo_match.proofs.ListLemmas.{contains_at, at_contains}
use Rattle.mo_select.specs.Selection.{CanHave, IsPartialChoice, members, IsPreferred, IsTiedTo, IsLargestOf, IsLevel}
use Rattle.mo_select.specs.steps.Staging.{taken, AreApart, StandsAt, IsGreedyChoice, IsLeft}
use Rattle.mo_select.proofs.Holders.{holder, holder_is, holder_some, back_assigns, back_count, forth, forth_assigns, forth_count}

assigns_same : {E : ℕ → ℕ → Type 0} (m : ℕ) (f h : ℕ → ℕ) → ((t : ℕ) → t < m → h t ≡ f t) → Assigns E m f → Assigns E m h
assigns_same m f h same assigns = record {
  allowed = λ t l. rw (same t l) (assigns.allowed t l);
  apart = λ t u tl ul. rw (same t tl, same u ul) (assigns.apart t u tl ul);
}

pub count_low : (f : ℕ → ℕ) (n : ℕ) → count_below f n ≤ n
count_low f n =
    let few : count_below f n ≤ count_below (λ _. 1) n = count_injection f (λ _. 1) (λ i. i) n n (λ i l some. (l, omega arith)) (λ i k il kl si sk same. same) in
    omega (arith, count_ones n)

pub count_all : (f : ℕ → ℕ) (n : ℕ) → ((i : ℕ) → i < n → f i ≢ 0) → count_below f n ≡ n
count_all f n all =
    let many : count_below (λ _. 1) n ≤ count_below f n = count_injection (λ _. 1) f (λ i. i) n n (λ i l some. (l, all i l)) (λ i k il kl si sk same. same) in
    omega (arith, count_ones n, count_low f n)

-- the first w numbers of f, and then 0
abbrev pub cut : ℕ → (ℕ → ℕ) → ℕ → ℕ
cut w f t = if nat_lt t w then f t else 0

cut_in : (w : ℕ) (f : ℕ → ℕ) (t : ℕ) → t < w → cut w f t ≡ f t
cut_in w f t l = let yes : nat_lt t w ≡ true = grind (arith, nat_tests) in rw yes refl

cut_out : (w : ℕ) (f : ℕ → ℕ) (t : ℕ) → w ≤ t → cut w f t ≡ 0
cut_out w f t l = let past : nat_lt t w ≡ false = grind (arith, nat_tests) in rw past refl

cut_some : (w : ℕ) (f : ℕ → ℕ) (t : ℕ) → cut w f t ≢ 0 → t < w
cut_some w f t some = elim (cases_lt t w) [ inl l ↦ l | inr l ↦ absurd (some (cut_out w f t l)) ]

pub taken_at : (order rank pairs : List ℕ) → AreOwners (length order) (by_place order) rank → (t : ℕ) → t < length order → taken rank pairs (get_or order t 0) ≡ get_or pairs t 0
taken_at order rank pairs ranks t l =
    let is : get_or rank (get_or order t 0) 0 ≡ suc t = ranks.owned t l in
    elim (eqb_tells (get_or rank (get_or order t 0) 0) 0) [
      | inl e ↦ absurd (omega (arith, e.1))
      | inr e ↦ let back : get_or rank (get_or order t 0) 0 - 1 ≡ t = omega arith in rw (e.0, back) refl
    ]

module _ (g : Signature) (c d : ℕ → ℕ) (active order rank pairs : List ℕ) (ranks : AreOwners (length order) (by_place order) rank)
    (greedy : IsGreedyChoice g c d active order pairs) where
  abbrev pub by : ℕ → ℕ
  by = taken rank pairs

  pub by_at : (t : ℕ) → t < length order → by (get_or order t 0) ≡ get_or pairs t 0
  by_at = taken_at order rank pairs ranks

  pub by_assigns : IsPartialChoice g c d active order by
  by_assigns = assigns_same (length order) (by_place pairs) (λ t. by (get_or order t 0)) by_at greedy.assigns

  pub by_members : (n : ℕ) → n ≤ length order → members order by n ≡ count_below (by_place pairs) n
  by_members n le = count_same (λ t. by (get_or order t 0)) (by_place pairs) n (λ t l. by_at t (omega arith))

  by_most : (n : ℕ) → n ≤ length order → (other : ℕ → ℕ) → IsPartialChoice g c d active order other → members order other n ≤ members order by n
  by_most n le other assigns =
      let most : count_below (λ t. other (get_or order t 0)) n ≤ count_below (by_place pairs) n = greedy.most n le (λ t. other (get_or order t 0)) assigns in
      omega (arith, by_members n le)

  -- some assignment gives each equation a candidate
  module _ (f : ℕ → ℕ) (full : Assigns (λ e j. StandsAt order j × IsTight g c d (get_or active e 0) j) (length active) f) (covers : (e : ℕ) → e < length active → f e ≢ 0)
      (known : (t : ℕ) → t < length order → get_or order t 0 ≢ 0) (apart : AreApart order) where
    place_known : (e : ℕ) → e < length active → f e ≢ 0 → (get_or rank (f e) 0 - 1 < length order) × (get_or order (get_or rank (f e) 0 - 1) 0 ≡ f e)
    place_known e l some =
        let there = full.allowed e l some in
        let is : get_or rank (f e) 0 ≡ suc there.0.0 = rw there.0.2 at (ranks.owned there.0.0 there.0.1) in
        let back : get_or rank (f e) 0 - 1 ≡ there.0.0 = omega arith in
        rw back (there.0.1, there.0.2)

    many : length active ≤ count_below (by_place pairs) (length order)
    many =
        let count = back_count (λ e j. StandsAt order j × IsTight g c d (get_or active e 0) j) (length active) (length order) f (by_place order) (λ j. get_or rank j 0 - 1) full known apart place_known in
        let assigns = back_assigns (λ e j. StandsAt order j × IsTight g c d (get_or active e 0) j) (length active) (length order) f (by_place order) (λ j. get_or rank j 0 - 1) full known apart place_known in
        let most : count_below (λ t. holder f (length active) (get_or order t 0)) (length order) ≤ count_below (by_place pairs) (length order) =
        greedy.most (length order) (omega arith) (λ t. holder f (length active) (get_or order t 0)) (record {
          allowed = λ t l some. let at = assigns.allowed t l some in (at.0, at.1, at.2.1);
          apart = assigns.apart;
        }) in
        omega (arith, count_all f (length active) covers)

    pub by_count : count_below (by_place pairs) (length order) ≡ length active
    by_count =
        let few : count_below (by_place pairs) (length order) ≤ count_below (λ _. 1) (length active) = count_injection (by_place pairs) (λ _. 1) (λ t. get_or pairs t 0 - 1) (length order) (length active)
        (λ t l some. let at = greedy.assigns.allowed t l some in (omega (arith, at.0, at.1), omega arith))
        (λ t u tl ul st su same. greedy.assigns.apart t u tl ul st (omega (arith, st, su))) in
        omega (arith, many, count_ones (length active))

    used : (e : ℕ) → e < length active → holder (by_place pairs) (length order) (suc e) ≢ 0
    used =
        let there : count_below (by_place pairs) (length order) ≤ count_below (λ e. holder (by_place pairs) (length order) (suc e)) (length active) =
        count_injection (by_place pairs) (λ e. holder (by_place pairs) (length order) (suc e)) (λ t. get_or pairs t 0 - 1) (length order) (length active)
        (λ t l some.
        let at = greedy.assigns.allowed t l some in
        let is : suc (get_or pairs t 0 - 1) ≡ get_or pairs t 0 = omega (arith, some) in
        (omega (arith, at.0, at.1), holder_some (by_place pairs) (length order) (suc (get_or pairs t 0 - 1)) t l (sym is)))
        (λ t u tl ul st su same. greedy.assigns.apart t u tl ul st (omega (arith, st, su))) in
        count_full (λ e. holder (by_place pairs) (length order) (suc e)) (length active)
        (omega (arith, by_count, count_low (λ e. holder (by_place pairs) (length order) (suc e)) (length active)))

    -- the place in the order of the candidate that an equation is given to
    pub used_at : (e : ℕ) → e < length active → (holder (by_place pairs) (length order) (suc e) - 1 < length order) × (get_or pairs (holder (by_place pairs) (length order) (suc e) - 1) 0 ≡ suc e)
    used_at e l = holder_is (by_place pairs) (length order) (suc e) (used e l)

    pub by_preferred : IsPreferred g c d active order by
    by_preferred = record {
      choice = record {
        assigns = by_assigns;
        all = λ x above below.
            let at = used_at (x - 1) (omega arith) in
            let is : suc (x - 1) ≡ x = omega arith in
            (holder (by_place pairs) (length order) (suc (x - 1)) - 1, at.0, by_at (holder (by_place pairs) (length order) (suc (x - 1)) - 1) at.0 ∙ at.1 ∙ is);
      };
      most = by_most;
    }

  -- the first candidates of the order
  module _ (within : List ℕ) (low : length within ≤ length order) (first : take (length within) order ≡ within)
      (known : (t : ℕ) → t < length order → get_or order t 0 ≢ 0) (apart : AreApart order) where
    within_at : (t : ℕ) → t < length within → get_or within t 0 ≡ get_or order t 0
    within_at t l = ap (λ (z : List ℕ). get_or z t 0) (sym first) ∙ get_or-take (length within) order t 0 l

    within_known : (t : ℕ) → t < length within → get_or within t 0 ≢ 0
    within_known t l = rw (within_at t l) (known t (omega arith))

    within_apart : (t u : ℕ) → t < length within → u < length within → get_or within t 0 ≡ get_or within u 0 → t ≡ u
    within_apart t u tl ul = rw (within_at t tl, within_at u ul) (apart t u (omega arith) (omega arith))

    by_within : members within by (length within) ≡ count_below (by_place pairs) (length within)
    by_within = count_same (λ t. by (get_or within t 0)) (by_place pairs) (length within) (λ t l. rw (within_at t l) (by_at t (omega arith)))

    -- a rival on them alone
    rival_low : (other : ℕ → ℕ) → Assigns (λ t. CanHave g c d active (get_or within t 0)) (length within) other → count_below other (length within) ≤ count_below (by_place pairs) (length within)
    rival_low other assigns =
        let same : count_below (cut (length within) other) (length within) ≡ count_below other (length within) = count_same (cut (length within) other) other (length within) (λ t l. cut_in (length within) other t l) in
        let most : count_below (cut (length within) other) (length within) ≤ count_below (by_place pairs) (length within) = greedy.most (length within) low (cut (length within) other) (record {
          allowed = λ t l some.
              let inside = cut_some (length within) other t some in
              let is = cut_in (length within) other t inside in
              rw (is, ← within_at t inside) (assigns.allowed t inside (rw is at some));
          apart = λ t u tl ul some same.
              let inside = cut_some (length within) other t some in
              let inside' = cut_some (length within) other u (rw same at some) in
              let is = cut_in (length within) other t inside in
              let is' = cut_in (length within) other u inside' in
              assigns.apart t u inside inside' (rw is at some) (sym is ∙ same ∙ is');
        }) in
        omega arith

    pub by_greatest : (other : ℕ → ℕ) → IsPartialChoice g c d active within other → members within other (length within) ≤ count_below (by_place pairs) (length within)
    by_greatest other assigns = rival_low (λ t. other (get_or within t 0)) assigns

    module _ (q : ℕ → ℕ) (largest : IsLargestOf (IsTiedTo g c d active within) (length active) q) where
      place_in : (e : ℕ) → e < length active → q e ≢ 0 → (get_or rank (q e) 0 - 1 < length within) × (get_or within (get_or rank (q e) 0 - 1) 0 ≡ q e)
      place_in e l some =
          let tied = largest.assigns.allowed e l some in
          let at = contains_at within (q e) tied.0 in
          let is : get_or order at.0 0 ≡ q e = sym (within_at at.0 at.1) ∙ at.2 in
          let ranked : get_or rank (q e) 0 ≡ suc at.0 = rw is at (ranks.owned at.0 (omega (arith, at.1))) in
          let back : get_or rank (q e) 0 - 1 ≡ at.0 = omega arith in
          rw back (at.1, at.2)

      up : count_below q (length active) ≤ count_below (by_place pairs) (length within)
      up =
          let count = back_count (IsTiedTo g c d active within) (length active) (length within) q (by_place within) (λ j. get_or rank j 0 - 1) largest.assigns within_known within_apart place_in in
          let assigns = back_assigns (IsTiedTo g c d active within) (length active) (length within) q (by_place within) (λ j. get_or rank j 0 - 1) largest.assigns within_known within_apart place_in in
          let most = rival_low (λ t. holder q (length active) (get_or within t 0)) (record {
            allowed = λ t l some. let at = assigns.allowed t l some in (at.0, at.1, at.2.1);
            apart = assigns.apart;
          }) in
          omega arith

      down : count_below (by_place pairs) (length within) ≤ count_below q (length active)
      down =
          let assigns : Assigns (λ t x. (0 < x) × (x ≤ length active) × IsTiedTo g c d active within (x - 1) (get_or within t 0)) (length within) (by_place pairs) = record {
            allowed = λ t l some.
                let at = greedy.assigns.allowed t (omega arith) some in
                (at.0, at.1, (at_contains within (get_or within t 0) t l refl, rw (within_at t l) at.2));
            apart = λ t u tl ul. greedy.assigns.apart t u (omega arith) (omega arith);
          } in
          let count = forth_count (IsTiedTo g c d active within) (length active) (length within) (by_place pairs) (by_place within) assigns within_known within_apart in
          let rival = forth_assigns (IsTiedTo g c d active within) (length active) (length within) (by_place pairs) (by_place within) assigns within_known within_apart in
          let most = largest.most (forth (IsTiedTo g c d active within) (length active) (length within) (by_place pairs) (by_place within) assigns within_known within_apart) rival in
          omega arith

      pub same_count : count_below q (length active) ≡ count_below (by_place pairs) (length within)
      same_count = omega (arith, up, down)

    pub by_level : (count : ℕ) (without : List ℕ) → count ≡ count_below (by_place pairs) (length within) → IsLeft g c d active within without → IsLevel g c d active within by count without
    by_level count without is left = record {
      chosen = is ∙ sym by_within;
      greatest = λ other assigns. rw is (by_greatest other assigns);
      without = rw (is, ← same_count left.by left.largest) left.without;
    }
