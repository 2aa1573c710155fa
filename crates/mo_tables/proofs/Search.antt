-- A binary search in a table whose names rise finds the first row with the name.
use Rattle.std.proofs.Common.{◌≡◌, ℕ, zero, suc, ◌+◌, ◌<◌, Bool, true, false, ◌&&◌, List, [], ◌∷◌, length, get_or, Some, None, Err, refl, sym, ◌∙◌, ap, inl, inr, arith}
use Rattle.std.specs.Cmp.Lexicographic.{slice_cmp, nat_list_cmp_total}
use Rattle.std.specs.List.Sorted.{IsSortedBy, IsBinarySearchResult, IsNonDecreasingBy}
use Rattle.std.specs.Ordering.{nat_cmp, is_lt, is_eq, ordering_index, ordering_reverse}
use Rattle.std.specs.declared.cmp.Ordering.{Ordering}
use Rattle.std.specs.declared.cmp.Ordering.TheVariants.{Less, Equal, Greater}
use Rattle.std.specs.Str.{bytes_eq}
use Rattle.std.proofs.lemmas.Bool.{cases_lt}
use Rattle.std.proofs.lemmas.Map.Text.{is_eq-slice_cmp}
use Rattle.std.proofs.lemmas.List.Sorted.{searchable_from_sorted}
use Rattle.std.proofs.lemmas.Cmp.{alike_right}
use Rattle.mo_tables.specs.Table.{code_of, ascends}
use Rattle.mo_tables.specs.declared.table.Row.{Row}

-- the order of a name and a text
abbrev pub order : Row → List ℕ → Ordering
order row text = slice_cmp nat_cmp row.name.now text

both_hold : (a b : Bool) → (a && b) ≡ true → (a ≡ true) × (b ≡ true)
both_hold true true h = (refl, refl)
both_hold true false h = cc
both_hold false b h = cc

less_from_test : (o : Ordering) → is_lt o ≡ true → o ≡ Less
less_from_test Less h = refl
less_from_test Equal h = cc
less_from_test Greater h = cc

not_less_back : (o p : Ordering) → o ≡ Less → o ≡ ordering_reverse p → is_lt p ≡ false
not_less_back o Less e f = cc
not_less_back o Equal e f = refl
not_less_back o Greater e f = refl

-- each name is below the next
adjacent_rise : (rows : List Row) → ascends rows ≡ true → (k : ℕ) (d : Row) → k + 1 < length rows → order (get_or rows k d) (get_or rows (k + 1) d).name.now ≡ Less
adjacent_rise [] up k d lt = absurd (omega arith)
adjacent_rise (row ∷ []) up k d lt = absurd (omega arith)
adjacent_rise (row ∷ next ∷ rows) up zero d lt = less_from_test _ (both_hold _ _ up).0
adjacent_rise (row ∷ next ∷ rows) up (suc k) d lt =
    let step : suc k + 1 ≡ suc (k + 1) = omega arith in
    rw step (adjacent_rise (next ∷ rows) (both_hold _ _ up).1 k d (omega arith))

-- a later name is above the first
first_below : (row : Row) (rows : List Row) → ascends (row ∷ rows) ≡ true → (j : ℕ) (d : Row) → j < length rows → order row (get_or rows j d).name.now ≡ Less
first_below row [] up j d lt = absurd (omega arith)
first_below row (next ∷ rows) up zero d lt = less_from_test _ (both_hold _ _ up).0
first_below row (next ∷ rows) up (suc j) d lt =
    nat_list_cmp_total.trans _ next.name.now _ (less_from_test _ (both_hold _ _ up).0) (first_below next rows (both_hold _ _ up).1 j d (omega arith))

tail_ascends : (row : Row) (rows : List Row) → ascends (row ∷ rows) ≡ true → ascends rows ≡ true
tail_ascends row [] up = refl
tail_ascends row (next ∷ rows) up = (both_hold _ _ up).1

-- the table is sorted, as a binary search asks
sorted : (rows : List Row) → ascends rows ≡ true → IsSortedBy (λ (a : Row) (b : Row). is_lt (slice_cmp nat_cmp a.name.now b.name.now)) rows
sorted rows up k d low lt = not_less_back _ _ (adjacent_rise rows up k d lt) (nat_list_cmp_total.antisymm (get_or rows k d).name.now (get_or rows (k + 1) d).name.now)

searchable : (rows : List Row) → ascends rows ≡ true → (text : List ℕ) → IsNonDecreasingBy (λ (row : Row). ordering_index (order row text)) rows
searchable rows up text = searchable_from_sorted nat_list_cmp_total (λ (row : Row). row.name.now) rows text (sorted rows up)

-- a row that is not equal in order has another name
other_name : (row : Row) (text : List ℕ) (o : Ordering) → order row text ≡ o → is_eq o ≡ false → bytes_eq row.name.now text ≡ false
other_name row text o e h = sym (is_eq-slice_cmp row.name.now text) ∙ ap is_eq e ∙ h

same_name : (row : Row) (text : List ℕ) → order row text ≡ Equal → bytes_eq row.name.now text ≡ true
same_name row text e = sym (is_eq-slice_cmp row.name.now text) ∙ ap is_eq e

skips : (row : Row) (rows : List Row) (text : List ℕ) → bytes_eq row.name.now text ≡ false → code_of (row ∷ rows) text ≡ code_of rows text
skips row rows text e = rw e refl

-- the row that the search found is the first with the name
pub found : (rows : List Row) (up : ascends rows ≡ true) (text : List ℕ) (at : ℕ) (d : Row) → at < length rows → order (get_or rows at d) text ≡ Equal → Some (get_or rows at d).code ≡ code_of rows text
found [] up text at d lt e = absurd (omega arith)
found (row ∷ rows) up text zero d lt e = rw (same_name row text e) refl
found (row ∷ rows) up text (suc at) d lt e =
    let below = first_below row rows up at d (omega arith) in
    let same : order row text ≡ Less = sym (alike_right nat_list_cmp_total (get_or rows at d).name.now text row.name.now e) ∙ below in
    found rows (tail_ascends row rows up) text at d (omega arith) e ∙ sym (skips row rows text (other_name row text Less same refl))

-- where each name is below or above the text, no row has it
pub absent : (rows : List Row) (text : List ℕ) → ((k : ℕ) (d : Row) → k < length rows → is_eq (order (get_or rows k d) text) ≡ false) → None ≡ code_of rows text
absent [] text apart = refl
absent (row ∷ rows) text apart =
    absent rows text (λ k d lt. apart (suc k) d (omega arith)) ∙ sym (skips row rows text (other_name row text _ refl (apart 0 row (omega arith))))

-- in the gap that the search answers, no row has the name
pub in_gap : (rows : List Row) (up : ascends rows ≡ true) (text : List ℕ) (at : ℕ) → IsBinarySearchResult (λ (row : Row). order row text) rows (Err at) → None ≡ code_of rows text
in_gap rows up text at parted =
    let parts = parted (searchable rows up text) in
    absent rows text (λ k d lt. elim (cases_lt k at) [
      | inl before ↦ ap is_eq (parts.0 k d (omega arith) before)
      | inr after ↦ ap is_eq (parts.1 k d after lt)
    ])
