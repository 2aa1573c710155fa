-- There is one list of the blocks in order.
use Rattle.std.proofs.Common.{◌≡◌, ℕ, zero, suc, ◌+◌, ◌-◌, ◌<◌, ◌≤◌, ◌⊎◌, inl, inr, List, [], ◌∷◌, length, get_or, take, Contains, refl, sym, ◌∙◌, arith}
use Rattle.std.specs.List.Sorted.{IsStrictlyIncreasing}
use Rattle.std.proofs.Math.Seq.{take-length}
use Rattle.std.proofs.lemmas.List.{take_more_same}
use Rattle.std.proofs.lemmas.Bool.{cases_lt}
use Rattle.mo_graph.specs.Order.{Leads, IsBlock, IsPlaced, IsNext, IsInOrder}
use Rattle.mo_graph.proofs.Chains.{leads_on}
use Rattle.mo_graph.proofs.Members.{at_contains, least_contained}

tail_rises : (x : ℕ) (xs : List ℕ) → IsStrictlyIncreasing (x ∷ xs) → IsStrictlyIncreasing xs
tail_rises x xs rises k l =
    let two : suc k + 1 ≡ suc (k + 1) = omega arith in
    let inside : suc k + 1 < length (x ∷ xs) = omega arith in
    let there = rises (suc k) inside in
    rw two at there

-- what stands behind the first number is above it
tail_above : (x : ℕ) (xs : List ℕ) → IsStrictlyIncreasing (x ∷ xs) → (z : ℕ) → Contains xs z → x < z
tail_above x xs rises z has =
    let low = least_contained xs z (tail_rises x xs rises) has in
    let step : x < get_or xs 0 0 = rises 0 (omega (arith, low.1)) in
    omega (arith, low.0)

head_contained : (x : ℕ) (xs : List ℕ) → Contains (x ∷ xs) x
head_contained x xs = (0, omega arith, refl)

tail_contained : (x : ℕ) (xs : List ℕ) (z : ℕ) → Contains xs z → Contains (x ∷ xs) z
tail_contained x xs z (k, l, e) = (suc k, omega arith, e)

contained_cases : (x : ℕ) (xs : List ℕ) (z : ℕ) → Contains (x ∷ xs) z → (x ≡ z) ⊎ Contains xs z
contained_cases x xs z (zero, l, e) = inl e
contained_cases x xs z (suc k, l, e) = inr (k, omega arith, e)

-- ascending lists of the same numbers are the same
pub same_ascending : (xs ys : List ℕ) → IsStrictlyIncreasing xs → IsStrictlyIncreasing ys → ((z : ℕ) → Contains xs z → Contains ys z) → ((z : ℕ) → Contains ys z → Contains xs z) → xs ≡ ys
same_ascending [] [] rx ry there back = refl
same_ascending [] (y ∷ ys) rx ry there back = absurd (let h = back y (head_contained y ys) in omega (arith, h.1))
same_ascending (x ∷ xs) [] rx ry there back = absurd (let h = there x (head_contained x xs) in omega (arith, h.1))
same_ascending (x ∷ xs) (y ∷ ys) rx ry there back =
    let first : x ≡ y =
    (let low = (least_contained (y ∷ ys) x ry (there x (head_contained x xs))).0 in
    let high = (least_contained (x ∷ xs) y rx (back y (head_contained y ys))).0 in
    omega arith) in
    let rest : xs ≡ ys = same_ascending xs ys (tail_rises x xs rx) (tail_rises y ys ry)
    (λ z has. elim (contained_cases y ys z (there z (tail_contained x xs z has))) [
      | inl e ↦ absurd (let above = tail_above x xs rx z has in omega arith)
      | inr h ↦ h
    ])
    (λ z has. elim (contained_cases x xs z (back z (tail_contained y ys z has))) [
      | inl e ↦ absurd (let above = tail_above y ys ry z has in omega arith)
      | inr h ↦ h
    ]) in
    rw (first, rest) refl

placed_as : (ds es : List (List ℕ)) (x : ℕ) → ds ≡ es → IsPlaced ds x → IsPlaced es x
placed_as ds es x e h = rw (← e) h

module _ (Need : ℕ → ℕ → Type 0) (m : ℕ) where
  block_rises : (xs : List ℕ) → IsBlock Need m xs → IsStrictlyIncreasing xs
  block_rises xs block = block.2.ascending

  block_some : (xs : List ℕ) → IsBlock Need m xs → 0 < length xs
  block_some xs block =
      let back : suc block.0 - 1 ≡ block.0 = omega arith in
      let has : Contains xs (suc block.0) = block.2.all (suc block.0) (omega arith) (omega (arith, block.1)) (rw back (Leads.none, Leads.none)) in
      (least_contained xs (suc block.0) block.2.ascending has).1

  -- a number of both makes them one
  block_into : (xs ys : List ℕ) → IsBlock Need m xs → IsBlock Need m ys → (x : ℕ) → Contains xs x → Contains ys x → (z : ℕ) → Contains xs z → Contains ys z
  block_into xs ys a b x in_xs in_ys z has =
      let one = (a.2.only x in_xs).2 in
      let two = (b.2.only x in_ys).2 in
      let here = a.2.only z has in
      b.2.all z here.0 here.1 (leads_on two.0 (leads_on one.1 here.2.0), leads_on here.2.1 (leads_on one.0 two.1))

  pub next_unique : (before : List (List ℕ)) (x y : List ℕ) → IsNext Need m before x → IsNext Need m before y → x ≡ y
  next_unique before x y a b =
      let up = a.least y b.ready in
      let down = b.least x a.ready in
      let head : get_or x 0 0 ≡ get_or y 0 0 = omega arith in
      let in_x = at_contains x (get_or x 0 0) 0 (block_some x a.ready.is_block) refl in
      let in_y = at_contains y (get_or x 0 0) 0 (block_some y b.ready.is_block) (sym head) in
      same_ascending x y (block_rises x a.ready.is_block) (block_rises y b.ready.is_block)
      (block_into x y a.ready.is_block b.ready.is_block (get_or x 0 0) in_x in_y)
      (block_into y x b.ready.is_block a.ready.is_block (get_or x 0 0) in_y in_x)

  module _ (bs cs : List (List ℕ)) (one : IsInOrder Need m bs) (two : IsInOrder Need m cs) where
    same_front : (b : ℕ) → b ≤ length bs → b ≤ length cs → take b bs ≡ take b cs
    same_front zero l l' = refl
    same_front (suc b) l l' =
        let rest = same_front b (omega arith) (omega arith) in
        let here : get_or bs b [] ≡ get_or cs b [] = next_unique (take b cs) (get_or bs b []) (get_or cs b []) (rw rest at (one.next b (omega arith))) (two.next b (omega arith)) in
        let next : suc b ≡ b + 1 = omega arith in
        rw next (take_more_same bs cs b [] (omega arith) (omega arith) rest here)

    -- nothing is ready after all blocks
    no_more : (ds es : List (List ℕ)) → IsInOrder Need m ds → IsInOrder Need m es → take (length ds) ds ≡ take (length ds) es → length ds < length es → ⊥
    no_more ds es whole longer same l =
        let next = longer.next (length ds) l in
        let block = next.ready.is_block in
        let x : ℕ = get_or (get_or es (length ds) []) 0 0 in
        let has = at_contains (get_or es (length ds) []) (get_or (get_or es (length ds) []) 0 0) 0 (block_some (get_or es (length ds) []) block) refl in
        let known = block.2.only (get_or (get_or es (length ds) []) 0 0) has in
        let there = whole.all (get_or (get_or es (length ds) []) 0 0) known.0 known.1 in
        let whole_is : ds ≡ take (length ds) es = sym (take-length ds) ∙ same in
        next.ready.unplaced (get_or (get_or es (length ds) []) 0 0) has (placed_as ds (take (length ds) es) (get_or (get_or es (length ds) []) 0 0) whole_is there)

    pub order_unique : bs ≡ cs
    order_unique = elim (cases_lt (length bs) (length cs)) [
      | inl l ↦ absurd (no_more bs cs one two (same_front (length bs) (omega arith) (omega arith)) l)
      | inr l ↦ elim (cases_lt (length cs) (length bs)) [
        | inl h ↦ absurd (no_more cs bs two one (sym (same_front (length cs) (omega arith) (omega arith))) h)
        | inr h ↦
            let size : length bs ≡ length cs = omega arith in
            let front = same_front (length bs) (omega arith) (omega arith) in
            sym (take-length bs) ∙ front ∙ (rw size (take-length cs))
      ]
    ]
