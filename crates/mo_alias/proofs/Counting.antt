-- One variable more, or one number more, of a table.
use Rattle.std.proofs.Common.{◌≡◌, ℕ, suc, ◌+◌, ◌<◌, ◌≤◌, Bool, true, false, inl, inr, List, [], ◌∷◌, ◌++◌, Some, None, Option, get_or, drop, length, sym, ap, ◌∙◌, subst, arith, add-one, append_assoc, drop-cons, length-append, if◌then◌else◌}
use Rattle.std.proofs.Math.ListN.{get_or-append}
use Rattle.std.proofs.Math.Seq.{get_or-append_seam}
use Rattle.std.proofs.lemmas.Bool.{cases_eq, cases_lt}
use Rattle.std.proofs.lemmas.List.{drop_all, get_or_past}
use Rattle.mo_flat.specs.declared.model.FlatVar.{FlatVar}
use Rattle.mo_flat.specs.Roles.{is_unknown_role, unknowns_from}
use Rattle.mo_alias.specs.declared.found.Gone.{Gone}
use Rattle.mo_alias.specs.Numbers.{numbers_from}
use Rattle.mo_alias.specs.steps.Placing.{gone_from}
use Rattle.mo_alias.specs.Without.{gone_at}
use Rattle.mo_alias.proofs.Noting.{gone_all}

pub one_left : {A : Type 0} (xs : List A) (i : ℕ) (x : A) → i < length xs → x ≡ get_or xs i x → drop i xs ≡ x ∷ drop (i + 1) xs
one_left xs i x small is = rw add-one (drop-cons xs i x small ∙ ap (λ y. y ∷ drop (suc i) xs) (sym is))

module _ (vars : List FlatVar) (i : ℕ) (v : FlatVar) (small : i < length vars) (is : v ≡ get_or vars i v) where
  pub number_more : (n next : ℕ) (xs ys all : List ℕ) → ys ≡ xs ++ (if is_unknown_role (Some v.role) then n + 1 else 0) ∷ [] → next ≡ (if is_unknown_role (Some v.role) then n + 1 else n)
      → xs ++ numbers_from n (drop i vars) ≡ all → ys ++ numbers_from next (drop (i + 1) vars) ≡ all
  number_more n next xs ys all put counted so_far =
      rw (put, counted) (by (is_unknown_role (Some v.role)) (subst (λ (w : List FlatVar). xs ++ numbers_from n w ≡ all) (one_left vars i v small is) so_far))
    where
      by : (b : Bool) → xs ++ (if b then (n + 1) ∷ numbers_from (n + 1) (drop (i + 1) vars) else 0 ∷ numbers_from n (drop (i + 1) vars)) ≡ all
          → (xs ++ (if b then n + 1 else 0) ∷ []) ++ numbers_from (if b then n + 1 else n) (drop (i + 1) vars) ≡ all
      by true e = append_assoc xs ((n + 1) ∷ []) (numbers_from (n + 1) (drop (i + 1) vars)) ∙ e
      by false e = append_assoc xs (0 ∷ []) (numbers_from n (drop (i + 1) vars)) ∙ e

  pub count_more : (n next all : ℕ) → next ≡ (if is_unknown_role (Some v.role) then n + 1 else n)
      → n + length (unknowns_from (i + 1) (drop i vars)) ≡ all → next + length (unknowns_from (i + 1 + 1) (drop (i + 1) vars)) ≡ all
  count_more n next all counted so_far =
      rw counted (by (is_unknown_role (Some v.role)) (subst (λ (w : List FlatVar). n + length (unknowns_from (i + 1) w) ≡ all) (one_left vars i v small is) so_far))
    where
      by : (b : Bool) → n + length (if b then (i + 1) ∷ unknowns_from (i + 1 + 1) (drop (i + 1) vars) else unknowns_from (i + 1 + 1) (drop (i + 1) vars)) ≡ all
          → (if b then n + 1 else n) + length (unknowns_from (i + 1 + 1) (drop (i + 1) vars)) ≡ all
      by true e = omega (arith, e)
      by false e = e

-- what is said of an unknown
pub gone_end : (gone : List Gone) (i : ℕ) → length gone ≤ i → (o : Option Gone) (u : ℕ) → gone_from o (drop i gone) u ≡ gone_at gone u → o ≡ gone_at gone u
gone_end gone i end o u so_far = subst (λ (w : List Gone). gone_from o w u ≡ gone_at gone u) (drop_all i gone end) so_far

pub gone_start : (gone : List Gone) (o : Option Gone) (u : ℕ) → o ≡ None → gone_from o gone u ≡ gone_at gone u
gone_start gone o u none = rw none (gone_all gone u)

-- each number at its place
pub alone_more : (xs : List ℕ) (n : ℕ) → length xs ≡ n → ((u : ℕ) → get_or xs u u ≡ u) → (u : ℕ) → get_or (xs ++ n ∷ []) u u ≡ u
alone_more xs n size alone u = elim (cases_lt u n) [
  | inl low ↦ get_or-append xs (n ∷ []) u u (omega (arith, low, size)) ∙ alone u
  | inr high ↦ elim (cases_eq u (length xs)) [
    | inl same ↦ subst (λ w. get_or (xs ++ n ∷ []) w w ≡ w) (sym same) (get_or-append_seam xs n [] (length xs) ∙ sym size)
    | inr other ↦ get_or_past (xs ++ n ∷ []) u u (let s = length-append xs (n ∷ []) in omega (arith, s, other, high, size))
  ]
]
