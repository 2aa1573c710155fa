-- The rows that starts cut out of one flat list of entries.
use Rattle.std.proofs.Common.{◌≡◌, ℕ, zero, suc, ◌+◌, ◌-◌, ◌<◌, ◌≤◌, List, [], length, get_or, drop, refl, sym, ap, ◌∙◌, arith, length-take, length-drop}
use Rattle.std.proofs.Math.Seq.{get_or-take, get_or-drop}
use Rattle.std.proofs.lemmas.List.FromFn.{length-map-range_with_len, get_or-map-range_with_len}
use Rattle.mo_graph.specs.Counting.{sum_below}
use Rattle.mo_incidence.specs.Signature.{Signature, equations, row_len, unknown_at, order_at, entries, IsSound}
use Rattle.mo_incidence.specs.Flat.{row_at, signature, IsCut, IsFlat}
use Rattle.mo_graph.proofs.Counting.{sum_same}

pub equations_signature : (u : ℕ) (s : List ℕ) (f : List (ℕ × ℕ)) → equations (signature u s f) ≡ length s - 1
unfolding equations signature
equations_signature u s f = length-map-range_with_len (row_at s f) 0 (length s - 1)

pub unknowns_signature : (u : ℕ) (s : List ℕ) (f : List (ℕ × ℕ)) → (signature u s f).unknowns ≡ u
unfolding signature
unknowns_signature u s f = refl

pub rows_signature : (u : ℕ) (s : List ℕ) (f : List (ℕ × ℕ)) (i : ℕ) → i + 1 < length s → get_or (signature u s f).rows i [] ≡ row_at s f i
unfolding signature
rows_signature u s f i l = get_or-map-range_with_len (row_at s f) 0 (length s - 1) i i [] (omega arith) (omega arith)

module _ (u : ℕ) (s : List ℕ) (f : List (ℕ × ℕ)) (cut : IsCut s f) (i : ℕ) (l : i + 1 < length s) where
  pub length_row_at : length (row_at s f i) ≡ get_or s (i + 1) 0 - get_or s i 0
  length_row_at =
      let upper : get_or s (i + 1) 0 ≤ length f = cut.within (i + 1) l in
      simp (length-take, length-drop) (omega arith)

  pub row_len_signature : row_len (signature u s f) i ≡ get_or s (i + 1) 0 - get_or s i 0
  unfolding row_len
  row_len_signature = ap length (rows_signature u s f i l) ∙ length_row_at

  module _ (k : ℕ) (kl : k < row_len (signature u s f) i) where
    pub entry_place : get_or s i 0 + k < length f
    entry_place =
        let upper : get_or s (i + 1) 0 ≤ length f = cut.within (i + 1) l in
        omega (arith, row_len_signature)

    entry_here : get_or (get_or (signature u s f).rows i []) k (0, 0) ≡ get_or f (get_or s i 0 + k) (0, 0)
    entry_here =
        let inside : k < get_or s (i + 1) 0 - get_or s i 0 = omega (arith, row_len_signature) in
        rw (rows_signature u s f i l) (get_or-take (get_or s (i + 1) 0 - get_or s i 0) (drop (get_or s i 0) f) k (0, 0) inside ∙ get_or-drop (get_or s i 0) f k (0, 0))

    pub unknown_at_signature : unknown_at (signature u s f) i k ≡ (get_or f (get_or s i 0 + k) (0, 0)).0
    unfolding unknown_at
    unknown_at_signature = ap (λ (e : ℕ × ℕ). e.0) entry_here

    pub order_at_signature : order_at (signature u s f) i k ≡ (get_or f (get_or s i 0 + k) (0, 0)).1
    unfolding order_at
    order_at_signature = ap (λ (e : ℕ × ℕ). e.1) entry_here

sum_steps : (s : List ℕ) (n : ℕ) → n < length s → ((i : ℕ) → i + 1 < length s → get_or s i 0 ≤ get_or s (i + 1) 0)
    → (sum_below (λ i. get_or s (i + 1) 0 - get_or s i 0) n + get_or s 0 0 ≡ get_or s n 0)
sum_steps s zero l ordered = omega arith
sum_steps s (suc n) l ordered =
    let rest : sum_below (λ i. get_or s (i + 1) 0 - get_or s i 0) n + get_or s 0 0 ≡ get_or s n 0 = sum_steps s n (omega arith) ordered in
    let step : get_or s n 0 ≤ get_or s (n + 1) 0 = ordered n (omega arith) in
    let same : n + 1 ≡ suc n = omega arith in
    let there : get_or s (n + 1) 0 ≡ get_or s (suc n) 0 = ap (λ k. get_or s k 0) same in
    omega arith

pub entries_signature : (u : ℕ) (s : List ℕ) (f : List (ℕ × ℕ)) → IsCut s f → entries (signature u s f) ≡ length f
unfolding entries
entries_signature u s f cut =
    let some : 0 < length s = cut.some in
    let first : get_or s 0 0 ≡ 0 = cut.first in
    let last : get_or s (length s - 1) 0 ≡ length f = cut.last in
    let rows : sum_below (row_len (signature u s f)) (length s - 1) ≡ sum_below (λ i. get_or s (i + 1) 0 - get_or s i 0) (length s - 1) =
    sum_same (row_len (signature u s f)) (λ i. get_or s (i + 1) 0 - get_or s i 0) (length s - 1) (λ i l. row_len_signature u s f cut i (omega arith)) in
    let steps : sum_below (λ i. get_or s (i + 1) 0 - get_or s i 0) (length s - 1) + get_or s 0 0 ≡ get_or s (length s - 1) 0 = sum_steps s (length s - 1) (omega arith) cut.ordered in
    rw (equations_signature u s f) (omega arith)

-- what the accessors of a table that is seen as g need
module _ (u : ℕ) (s : List ℕ) (f : List (ℕ × ℕ)) (g : Signature) (view : signature u s f ≡ g) (flat : IsFlat u s f) where
  pub table_sound : IsSound g
  table_sound = rw view at flat.sound

  pub table_unknowns : g.unknowns ≡ u
  table_unknowns = rw (← view) (unknowns_signature u s f)

  pub table_equations : equations g + 1 ≡ length s
  table_equations =
      let some : 0 < length s = flat.cut.some in
      let count : equations g ≡ length s - 1 = rw (← view) (equations_signature u s f) in
      omega arith

  pub table_entries : entries g ≡ length f
  table_entries = rw (← view) (entries_signature u s f flat.cut)

  module _ (row : ℕ) (row_in : (0 < row) × (row ≤ equations g)) where
    pub row_in_holds : row < length s
    row_in_holds = omega (arith, table_equations)

    pub row_start : row - 1 < length s
    row_start = omega (arith, table_equations)

    after_row : row - 1 + 1 ≡ row
    after_row = omega arith

    below_row : row - 1 + 1 < length s
    below_row = omega (arith, table_equations)

    pub row_ordered : get_or s (row - 1) 0 ≤ get_or s row 0
    row_ordered = rw after_row at (flat.cut.ordered (row - 1) below_row)

    pub table_row_len : get_or s row 0 - get_or s (row - 1) 0 ≡ row_len g (row - 1)
    table_row_len =
        let e : row_len (signature u s f) (row - 1) ≡ get_or s (row - 1 + 1) 0 - get_or s (row - 1) 0 = row_len_signature u s f flat.cut (row - 1) below_row in
        rw (← view) (rw after_row at (sym e))

    module _ (k : ℕ) (k_in : k < row_len g (row - 1)) where
      k_row : k < row_len (signature u s f) (row - 1)
      k_row = rw view k_in

      pub table_place : get_or s (row - 1) 0 + k < length f
      table_place = entry_place u s f flat.cut (row - 1) below_row k k_row

      pub table_unknown : (get_or f (get_or s (row - 1) 0 + k) (0, 0)).0 ≡ unknown_at g (row - 1) k
      table_unknown = rw (← view) (sym (unknown_at_signature u s f flat.cut (row - 1) below_row k k_row))

      pub table_known : (0 < (get_or f (get_or s (row - 1) 0 + k) (0, 0)).0) × ((get_or f (get_or s (row - 1) 0 + k) (0, 0)).0 ≤ g.unknowns)
      table_known = rw table_unknown (table_sound.known (row - 1) k (omega arith) k_in)

      pub table_order : (get_or f (get_or s (row - 1) 0 + k) (0, 0)).1 ≡ order_at g (row - 1) k
      table_order = rw (← view) (sym (order_at_signature u s f flat.cut (row - 1) below_row k k_row))

      pub table_small : length f ≤ 1000000
      table_small = let few : entries g ≤ 1000000 = table_sound.few_entries in omega (arith, table_entries)
