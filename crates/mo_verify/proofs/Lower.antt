-- Where some equations have no chain of reasons to an offset of 0, the offsets of all these and of their unknowns can be lowered by one (Pryce
-- 2001).
use Rattle.std.proofs.Common.{◌≡◌, ◌≢◌, Option, Some, None, IfSome, ℕ, suc, ◌+◌, ◌-◌, ◌<◌, ◌≤◌, inl, inr, Bool, true, false, List, get_or, refl, sym, ap, ◌∙◌, arith}
use Rattle.std.specs.Prelude.{if◌then◌else◌}
use Rattle.std.proofs.lemmas.Bool.{cases_lt, cases_eq}
use Rattle.mo_incidence.specs.Signature.{Signature, equations, row_len, unknown_at, order_at, IsSound}
use Rattle.mo_incidence.specs.Offsets.{Fits, IsTight, IsAdmissible, by_place, by_number}
use Rattle.mo_incidence.specs.steps.Needing.{AreOwners}
use Rattle.mo_incidence.specs.Reasons.{IsCandidate}
use Rattle.mo_certify.proofs.Leastness.{reached, assigns_permute}
use Rattle.mo_verify.specs.declared.verdict.Verdict.{Verdict}
use Rattle.mo_verify.specs.Printed.{Printed}
use Rattle.mo_verify.specs.Faults.{IsChained}
use Rattle.mo_verify.specs.Finding.{HaveSizes, HasNoFault, IsUnchained, IsNotLeast}
use Rattle.mo_verify.proofs.Least.{fits, tight, covers}

module _ (g : Signature) (p : Printed) (sizes : HaveSizes g p) (right : HasNoFault g p) (owner : List ℕ) (owners : AreOwners (equations g) (by_place p.pairs) owner)
    (all_owned : (j : ℕ) → 0 < j → j ≤ g.unknowns → get_or owner j 0 ≢ 0) (sound : IsSound g) (marks : List Bool)
    (zeros : (i : ℕ) → i < equations g → get_or p.c i 0 ≡ 0 → get_or marks i false ≡ true)
    (closed : (i k : ℕ) → i < equations g → IsCandidate g (by_place p.c) (by_number p.d) (by_place p.pairs) i k → get_or marks k false ≡ true → get_or marks i false ≡ true) where
  -- by how much an equation is lowered
  abbrev low : ℕ → ℕ
  low i = if get_or marks i false then 0 else 1

  low_of : (b : Bool) (i : ℕ) → get_or marks i false ≡ b → low i ≡ (if b then 0 else 1)
  low_of b i e = rw e refl

  abbrev pub lower_c : ℕ → ℕ
  lower_c i = get_or p.c i 0 - low i

  abbrev pub lower_d : ℕ → ℕ
  lower_d j = by_number p.d j - low (get_or owner j 0 - 1)

  low_one : (i : ℕ) → low i ≤ 1
  low_one i = go (get_or marks i false) refl
    where
      go : (b : Bool) → get_or marks i false ≡ b → low i ≤ 1
      go true e = rw e (omega arith)
      go false e = rw e (omega arith)

  -- what is lowered is above 0
  high_enough : (i : ℕ) → i < equations g → low i ≤ get_or p.c i 0
  high_enough i below = go (get_or marks i false) refl
    where
      go : (b : Bool) → get_or marks i false ≡ b → low i ≤ get_or p.c i 0
      go true e = rw e (omega arith)
      go false e = elim (cases_eq (get_or p.c i 0) 0) [
        | inl nought ↦ (let no : false ≡ true = sym e ∙ zeros i below nought in cc)
        | inr some ↦ rw e (omega (arith, some))
      ]

  -- the equation of an unknown
  held : (j : ℕ) → 0 < j → j ≤ g.unknowns → (i : ℕ) × (i < equations g) × (get_or p.pairs i 0 ≡ j) × (get_or owner j 0 - 1 ≡ i)
  held j some within =
      let e : get_or owner j 0 ≡ suc (get_or owner j 0 - 1) = omega (arith, all_owned j some within) in
      let h = owners.owns j (get_or owner j 0 - 1) e in
      (get_or owner j 0 - 1, h.0, h.1, refl)

  -- an entry is lowered on both sides, or has room
  fit_at : (i k : ℕ) → i < equations g → k < row_len g i → lower_c i + order_at g i k ≤ lower_d (unknown_at g i k)
  unfolding IsTight
  fit_at i k below within =
      let j : ℕ = unknown_at g i k in
      let known = sound.known i k below within in
      let h = held (unknown_at g i k) known.0 known.1 in
      let fit : get_or p.c i 0 + order_at g i k ≤ by_number p.d (unknown_at g i k) = (fits g p sizes right).entry i k below within in
      go h.0 h.1 h.2 h.3 fit (low_one h.0) (high_enough i below)
    where
      lows : (x : ℕ) → x < equations g → IsCandidate g (by_place p.c) (by_number p.d) (by_place p.pairs) x i → low x ≤ low i
      lows x under candidate = by (get_or marks i false) refl
        where
          by : (b : Bool) → get_or marks i false ≡ b → low x ≤ low i
          by true e = (let on = closed x i under candidate e in rw (on, e) (omega arith))
          by false e = rw e (low_one x)

      go : (x : ℕ) → x < equations g → get_or p.pairs x 0 ≡ unknown_at g i k → get_or owner (unknown_at g i k) 0 - 1 ≡ x → get_or p.c i 0 + order_at g i k ≤ by_number p.d (unknown_at g i k) → low x ≤ 1 → low i ≤ get_or p.c i 0
          → lower_c i + order_at g i k ≤ lower_d (unknown_at g i k)
      go x under pair own fit small enough = elim (cases_lt (get_or p.c i 0 + order_at g i k) (by_number p.d (unknown_at g i k))) [
        | inl room ↦ rw own (omega (arith, room, small, enough))
        | inr full ↦ elim (cases_eq i x) [
          | inl same ↦ (let both : low x ≡ low i = ap low (sym same) in rw own (omega (arith, fit, full, both, enough)))
          | inr other ↦ (
              let tight_here : by_number p.d (get_or p.pairs x 0) ≡ get_or p.c i 0 + order_at g i k = ap (by_number p.d) pair ∙ omega (arith, fit, full) in
              let candidate : IsCandidate g (by_place p.c) (by_number p.d) (by_place p.pairs) x i = record { known = below; other = other; tight = (k, within, sym pair, tight_here) } in
              let both : low x ≤ low i = lows x under candidate in
              rw own (omega (arith, fit, full, both, enough)))
        ]
      ]

  pub lower_fits : Fits g lower_c lower_d
  lower_fits = record { entry = λ i k below within. fit_at i k below within }

  lower_tight_at : (i : ℕ) → i < equations g → IsTight g (by_place p.c) (by_number p.d) i (get_or p.pairs i 0) → IsTight g lower_c lower_d i (get_or p.pairs i 0)
  unfolding IsTight
  lower_tight_at i below t =
      let own : get_or owner (get_or p.pairs i 0) 0 - 1 ≡ i = omega (arith, owners.owned i below) in
      let same : lower_d (get_or p.pairs i 0) ≡ lower_c i + order_at g i t.0 = rw own (omega (arith, t.3, high_enough i below)) in
      (t.0, t.1, t.2, same)

  pub lower_admissible : IsAdmissible g lower_c lower_d
  lower_admissible =
      let old = tight g p sizes right in
      let all = covers g p sizes right in
      record {
        fits = lower_fits;
        tight = (
          by_place p.pairs,
          record { allowed = λ i below some. lower_tight_at i below (old.allowed i below (all i below)); apart = old.apart },
          all,
        );
      }

  -- an equation without a mark is lowered by one
  pub lowered : (i : ℕ) → get_or marks i false ≡ false → lower_c i ≡ get_or p.c i 0 - 1
  lowered i free = rw (low_of false i free) refl

-- ---- from the marks of chains
module _ (g : Signature) (p : Printed) (sizes : HaveSizes g p) (right : HasNoFault g p) (sound : IsSound g) (square : equations g ≡ g.unknowns) (owner : List ℕ)
    (owners : AreOwners (equations g) (by_place p.pairs) owner) (marks : List Bool) (yes : (i : ℕ) → get_or marks i false ≡ true → IsChained g p i)
    (no : (i : ℕ) → i < equations g → get_or marks i false ≡ false → IsChained g p i → ⊥) where
  all_owned : (j : ℕ) → 0 < j → j ≤ g.unknowns → get_or owner j 0 ≢ 0
  all_owned j some within none =
      let permutes = assigns_permute g (by_place p.c) (by_number p.d) (by_place p.pairs) sound square (tight g p sizes right) (covers g p sizes right) in
      let paired = reached (by_place p.pairs) (equations g) permutes j some (omega (arith, square, within)) in
      let owned : get_or owner j 0 ≡ suc paired.0 = rw paired.2 at (owners.owned paired.0 paired.1) in
      omega (arith, owned, none)

  marked : (i : ℕ) → i < equations g → IsChained g p i → get_or marks i false ≡ true
  marked i below chain = go (get_or marks i false) refl
    where
      go : (b : Bool) → get_or marks i false ≡ b → get_or marks i false ≡ true
      go true e = e
      go false e = absurd (no i below e chain)

  unmarked_there : (i : ℕ) → (IsChained g p i → ⊥) → get_or marks i false ≡ false
  unmarked_there i none = go (get_or marks i false) refl
    where
      go : (b : Bool) → get_or marks i false ≡ b → get_or marks i false ≡ false
      go true e = absurd (none (yes i e))
      go false e = e

  zeros_marked : (i : ℕ) → i < equations g → get_or p.c i 0 ≡ 0 → get_or marks i false ≡ true
  zeros_marked i below nought = marked i below (0, nought)

  all_closed : (i k : ℕ) → i < equations g → IsCandidate g (by_place p.c) (by_number p.d) (by_place p.pairs) i k → get_or marks k false ≡ true → get_or marks i false ≡ true
  all_closed i k below candidate on = let chain = yes k on in marked i below (suc chain.0, inr (k, candidate, chain.1))

  -- some admissible offsets have one less for the first equation without a mark
  pub not_least : (v : Verdict) → IsUnchained g p v → IsNotLeast g p v
  not_least v u =
      let one : lower_c g p sizes right owner owners all_owned sound marks zeros_marked all_closed u.place ≡ get_or p.c u.place 0 - 1 = lowered g p sizes right owner owners all_owned sound marks zeros_marked all_closed u.place (unmarked_there u.place u.none) in
      record {
        unchained = u;
        less = record {
          c = lower_c g p sizes right owner owners all_owned sound marks zeros_marked all_closed;
          d = lower_d g p sizes right owner owners all_owned sound marks zeros_marked all_closed;
          admissible = lower_admissible g p sizes right owner owners all_owned sound marks zeros_marked all_closed;
          is = omega (arith, one, u.offset);
        };
      }

  pub not_least_some : (o : Option Verdict) → IfSome o (IsUnchained g p) → IfSome o (IsNotLeast g p)
  not_least_some None none = none
  not_least_some (Some v) u = not_least v u
