-- Rows that are held in vectors, and one entry more.
use Rattle.std.proofs.Common.{◌≡◌, ◌≢◌, ℕ, zero, suc, ◌<◌, inl, inr, List, [], ◌∷◌, ◌++◌, length, get_or, set, refl, sym, ap, ◌∙◌, arith, length-append, get_or-set_same, get_or-set_other, Vec, Global}
use Rattle.std.proofs.Math.Seq.{get_or-append_seam}
use Rattle.std.proofs.Math.ListN.{get_or-append}
use Rattle.std.proofs.lemmas.Bool.{cases_lt}
use Rattle.mo_select.specs.steps.Ties.{entries_in, HasEntry}

entries_set : (xs : List (Vec (ℕ × ℕ) Global)) (b : ℕ) (v : Vec (ℕ × ℕ) Global) → entries_in (set xs b v) ≡ set (entries_in xs) b v.items
entries_set [] b v = refl
entries_set (x ∷ xs) zero v = refl
entries_set (x ∷ xs) (suc b) v = ap (λ (ys : List (List (ℕ × ℕ))). x.items ∷ ys) (entries_set xs b v)

pub length_entries : (xs : List (Vec (ℕ × ℕ) Global)) → length (entries_in xs) ≡ length xs
length_entries [] = refl
length_entries (x ∷ xs) = ap suc (length_entries xs)

pub entries_at : (xs : List (Vec (ℕ × ℕ) Global)) (b : ℕ) (x : Vec (ℕ × ℕ) Global) → b < length xs → x ≡ get_or xs b x → get_or (entries_in xs) b [] ≡ x.items
entries_at [] b x l e = absurd (omega arith)
entries_at (y ∷ xs) zero x l e = ap (λ (z : Vec (ℕ × ℕ) Global). z.items) (sym e)
entries_at (y ∷ xs) (suc b) x l e = entries_at xs b x (omega arith) e

pub put_same : (xs : List (Vec (ℕ × ℕ) Global)) (b : ℕ) (v : Vec (ℕ × ℕ) Global) → b < length xs → get_or (entries_in (set xs b v)) b [] ≡ v.items
put_same xs b v l = rw (entries_set xs b v) (get_or-set_same (entries_in xs) b v.items [] (omega (arith, length_entries xs)))

pub put_other : (xs : List (Vec (ℕ × ℕ) Global)) (b k : ℕ) (v : Vec (ℕ × ℕ) Global) → k ≢ b → get_or (entries_in (set xs b v)) k [] ≡ get_or (entries_in xs) k []
put_other xs b k v ne = rw (entries_set xs b v) (get_or-set_other (entries_in xs) b k v.items [] ne)

pub entry_kept : (row : List (ℕ × ℕ)) (entry : ℕ × ℕ) (x : ℕ) → HasEntry row x → HasEntry (row ++ entry ∷ []) x
entry_kept row entry x there =
    let size = length-append row (entry ∷ []) in
    (there.0, omega (arith, there.1), ap (λ (e : ℕ × ℕ). e.0) (get_or-append row (entry ∷ []) (0, 0) there.0 there.1) ∙ there.2)

pub entry_new : (row : List (ℕ × ℕ)) (entry : ℕ × ℕ) → HasEntry (row ++ entry ∷ []) entry.0
entry_new row entry =
    let size = length-append row (entry ∷ []) in
    (length row, omega arith, ap (λ (e : ℕ × ℕ). e.0) (get_or-append_seam row entry [] (0, 0)))

-- what holds of all entries before and of the new one
pub entries_next : (row : List (ℕ × ℕ)) (entry : ℕ × ℕ) (P : ℕ → Type 0) → ((n : ℕ) → n < length row → P ((get_or row n (0, 0)).0)) → P entry.0
    → (n : ℕ) → n < length (row ++ entry ∷ []) → P ((get_or (row ++ entry ∷ []) n (0, 0)).0)
entries_next row entry P before here n l =
    let size = length-append row (entry ∷ []) in
    elim (cases_lt n (length row)) [
      | inl h ↦ rw (get_or-append row (entry ∷ []) (0, 0) n h) (before n h)
      | inr h ↦ let same : n ≡ length row = omega arith in rw (same, get_or-append_seam row entry [] (0, 0)) here
    ]
