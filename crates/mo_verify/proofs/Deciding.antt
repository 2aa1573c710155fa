-- A report has one verdict.
use Rattle.std.proofs.Common.{◌≡◌, ℕ, zero, suc, ◌+◌, ◌-◌, ◌<◌, ◌≤◌, ◌⊎◌, inl, inr, List, [], true, nat_lt, length, get_or, codes, Option, Some, None, refl, sym, ap, ◌∙◌, arith}
use Rattle.std.proofs.lemmas.Bool.{cases_lt}
use Rattle.std.proofs.lemmas.Bool.Decides.{nat_tests}
use Rattle.std.specs.Prelude.{flat_map}
use Rattle.mo_flat.specs.declared.model.FlatModel.{FlatModel}
use Rattle.mo_incidence.specs.Signature.{Signature, equations, unknown_at, order_at}
use Rattle.mo_incidence.specs.Assignment.{CanCoverAll, IsUndetermined}
use Rattle.mo_incidence.specs.Offsets.{by_number}
use Rattle.mo_incidence.specs.Model.{incidence_of}
use Rattle.mo_report.specs.declared.report.Report.{Report}
use Rattle.mo_report.specs.Lines.{name_line, rest_lines, report_lines}
use Rattle.mo_report.specs.Size.{unknown_names}
use Rattle.mo_report.proofs.Once.{same_numbers, same_listed}
use Rattle.mo_report.proofs.OneReport.{one_report}
use Rattle.mo_report.proofs.SameLines.{same_lines}
use Rattle.mo_report_lines.specs.Lines.{line_at, without_feed, AreReadable, IsFirstUnreadable, DifferFirst}
use Rattle.mo_verify.specs.declared.verdict.Verdict.{Verdict}
use Rattle.mo_verify.specs.declared.verdict.Verdict.TheVariants.{Yes, Admissible, Unreadable, Line, Shape, Order, Low, Loose, Twice, NotLeast}
use Rattle.mo_verify.specs.Printed.{Printed}
use Rattle.mo_verify.specs.Reading.{text_at, number_of, ArePrintedTo, ArePrinted, IsMisshapen}
use Rattle.mo_verify.specs.Faults.{IsSigma, HaveOrders, IsLowAt, FitTo, MeetTo, IsChained, AreChainedTo}
use Rattle.mo_verify.specs.Finding.{HasNoFault, IsOrderFault, IsLowFault, IsLooseFault, IsTwiceFault, IsFirstFault, order, low, loose, twice}
use Rattle.mo_verify.specs.Steps.{ComparesWith, differs, same}
use Rattle.mo_verify.specs.Verdict as verdict
use Rattle.mo_verify.specs.Verdict.{head_text, IsBegun, IsRead, IsDeficitReport, IsUndeterminedReport, IsSquareReport, IsVerdict}
use Rattle.mo_verify.proofs.Judging.{equations_of, unknowns_of, no_fault}
use Rattle.mo_verify.proofs.Saying.{one_equation_line, one_unknown_line}
use Rattle.mo_verify.proofs.Written.{below_text, same_rest}
use Rattle.mo_verify.proofs.Completing.{not_unreadable, not_head, no_cover, same_printed, same_text, sigma_once, some_is}

-- of two numbers one is less, or they are the same
three : (a b : ℕ) → (a < b) ⊎ ((b < a) ⊎ (a ≡ b))
three a b = elim (cases_lt a b) [
  | inl less ↦ inl less
  | inr more ↦ elim (cases_lt b a) [ inl less ↦ inr (inl less) | inr equal ↦ inr (inr (omega arith)) ]
]

-- ---- lines
earlier_unreadable : (text : List ℕ) (n k : ℕ) → IsFirstUnreadable text n → IsFirstUnreadable text k → n < k → ⊥
earlier_unreadable text zero k f h before = omega (arith, f.some)
earlier_unreadable text (suc n) k f h before = f.here (h.before n (omega (arith, before)))

one_unreadable : (text : List ℕ) (n k : ℕ) → IsFirstUnreadable text n → IsFirstUnreadable text k → n ≡ k
one_unreadable text n k f h = elim (three n k) [
  | inl less ↦ absurd (earlier_unreadable text n k f h less)
  | inr more ↦ elim more [ inl less ↦ absurd (earlier_unreadable text k n h f less) | inr equal ↦ equal ]
]

earlier_difference : (text wanted : List ℕ) (n k : ℕ) (line other line' other' : List ℕ) → DifferFirst text wanted n line other → DifferFirst text wanted k line' other' → n < k → ⊥
earlier_difference text wanted zero k line other line' other' d e before = omega (arith, d.some)
earlier_difference text wanted (suc n) k line other line' other' d e before = d.apart (d.left ∙ (e.before n (omega (arith, before)) ∙ sym d.right))

one_difference : (text wanted : List ℕ) (n k : ℕ) (line other line' other' : List ℕ) → DifferFirst text wanted n line other → DifferFirst text wanted k line' other' → n ≡ k
one_difference text wanted n k line other line' other' d e = elim (three n k) [
  | inl less ↦ absurd (earlier_difference text wanted n k line other line' other' d e less)
  | inr more ↦ elim more [ inl less ↦ absurd (earlier_difference text wanted k n line' other' line other e d less) | inr equal ↦ equal ]
]

same_line : (n k : ℕ) (a b c d : List ℕ) → n ≡ k → a ≡ c → b ≡ d → Line n a b ≡ Line k c d
same_line n k a b c d e f h = rw (e, f, h) refl

one_line_verdict : (text wanted : List ℕ) (n k : ℕ) (line other line' other' : List ℕ) → DifferFirst text wanted n line other → DifferFirst text wanted k line' other'
    → Line n (without_feed line) (without_feed other) ≡ Line k (without_feed line') (without_feed other')
one_line_verdict text wanted n k line other line' other' d e =
    let number = one_difference text wanted n k line other line' other' d e in
    let left : line ≡ line' = d.left ∙ (ap (line_at text) number ∙ sym e.left) in
    let right : other ≡ other' = d.right ∙ (ap (line_at wanted) number ∙ sym e.right) in
    same_line n k (without_feed line) (without_feed other) (without_feed line') (without_feed other') number (ap without_feed left) (ap without_feed right)

-- the verdict of a comparison with one text
one_comparison : (text a b : List ℕ) (holds v w : Verdict) → a ≡ b → ComparesWith text a holds v → ComparesWith text b holds w → v ≡ w
one_comparison text a b holds v w e c d = go (rw e at c) d
  where
    go : ComparesWith text b holds v → ComparesWith text b holds w → v ≡ w
    go (differs n line other x is) (differs k line' other' y is') = is ∙ (one_line_verdict text b n k line other line' other' x y ∙ sym is')
    go (differs n line other x is) (same f is') = absurd (x.apart (x.left ∙ (ap (λ (t : List ℕ). line_at t n) f ∙ sym x.right)))
    go (same f is) (differs n line other x is') = absurd (x.apart (x.left ∙ (ap (λ (t : List ℕ). line_at t n) f ∙ sym x.right)))
    go (same f is) (same h is') = is ∙ sym is'

-- ---- what is printed
module _ (names : List (List ℕ)) (m : ℕ) (report : List ℕ) where
  printed_once : (p q : Printed) → ArePrinted names m report p → ArePrinted names m report q → p ≡ q
  printed_once p q a b =
      let says : (i : ℕ) → i < m → (get_or p.c i 0 ≡ get_or q.c i 0) × (get_or p.pairs i 0 ≡ get_or q.pairs i 0) × (get_or p.orders i 0 ≡ get_or q.orders i 0) =
      λ i l.
      let left = a.lines.equation i l (omega (arith, l)) in
      let right = b.lines.equation i l (omega (arith, l)) in
      let one = one_equation_line (text_at report (i + 3)) _ _ left.name _ _ _ right.name _ left.line right.line in
      let number : Some (get_or p.pairs i 0) ≡ Some (get_or q.pairs i 0) = sym left.is_number ∙ (ap (number_of names) one.2 ∙ right.is_number) in
      (one.1, some_is _ _ number, one.3) in
      same_printed p q
      (same_numbers p.c q.c (a.c_all ∙ sym b.c_all) (λ i l. (says i (omega (arith, l, a.c_all))).0))
      (same_numbers p.d q.d (a.d_all ∙ sym b.d_all)
      (λ j l.
      let below : j < length names = omega (arith, l, a.d_all) in
      (one_unknown_line (text_at report (m + j + 3)) _ _ _ _ (a.lines.unknown j below (omega (arith, below))) (b.lines.unknown j below (omega (arith, below)))).1))
      (same_numbers p.pairs q.pairs (a.pairs_all ∙ sym b.pairs_all) (λ i l. (says i (omega (arith, l, a.pairs_all))).1))
      (same_numbers p.orders q.orders (a.orders_all ∙ sym b.orders_all) (λ i l. (says i (omega (arith, l, a.orders_all))).2))

  -- a line that is read has its shape
  shaped : (p : Printed) (n k : ℕ) → ArePrintedTo names m report p n → k < n → IsMisshapen names m report k → ⊥
  shaped p n k printed before shape = elim (cases_lt k m) [
    | inl below ↦ shape.equation below _ _ _ (printed.equation k below before)
    | inr past ↦ (
        let place : k ≡ m + (k - m) = omega (arith, past) in
        shape.unknown (k - m) place _ (printed.unknown (k - m) (omega (arith, past, shape.within)) (omega (arith, past, before))))
  ]

  one_shape : (p q : Printed) (k l : ℕ) → ArePrintedTo names m report p k → ArePrintedTo names m report q l → IsMisshapen names m report k → IsMisshapen names m report l → k ≡ l
  one_shape p q k l a b here there = elim (three k l) [
    | inl less ↦ absurd (shaped q l k b less here)
    | inr more ↦ elim more [ inl less ↦ absurd (shaped p k l a less there) | inr equal ↦ equal ]
  ]

-- ---- faults
one_sigma : (m : FlatModel) (i j : ℕ) (x y : Option ℕ) → IsSigma (incidence_of m) i j x → IsSigma (incidence_of m) i j y → x ≡ y
one_sigma m i j None None s t = refl
one_sigma m i j None (Some y) s t = absurd (s t.0 t.1 t.2)
one_sigma m i j (Some x) None s t = absurd (t s.0 s.1 s.2)
one_sigma m i j (Some x) (Some y) s t = sym (sigma_once m i j x (Some y) s t)

moved_sigma : (m : FlatModel) (p : Printed) (i k : ℕ) (x : Option ℕ) → k ≡ i → IsSigma (incidence_of m) k (get_or p.pairs k 0) x → IsSigma (incidence_of m) i (get_or p.pairs i 0) x
moved_sigma m p i k x e s = rw e at s

moved_low : (g : Signature) (p : Printed) (i k n : ℕ) → i ≡ k → IsLowAt g p i n → IsLowAt g p k n
moved_low g p i k n e h = rw e at h

order_as : (p : Printed) (i k : ℕ) (x y : Option ℕ) → i ≡ k → x ≡ y → Order (i + 1) (get_or p.pairs i 0) (get_or p.orders i 0) x ≡ Order (k + 1) (get_or p.pairs k 0) (get_or p.orders k 0) y
order_as p i k x y e f = rw (e, f) refl

low_as : (g : Signature) (p : Printed) (i k n l : ℕ) → i ≡ k → n ≡ l
    → Low (i + 1) (unknown_at g i n) (order_at g i n) (get_or p.c i 0) (by_number p.d (unknown_at g i n)) ≡ Low (k + 1) (unknown_at g k l) (order_at g k l) (get_or p.c k 0) (by_number p.d (unknown_at g k l))
low_as g p i k n l e f = rw (e, f) refl

loose_as : (p : Printed) (i k : ℕ) → i ≡ k
    → Loose (i + 1) (get_or p.pairs i 0) (get_or p.orders i 0) (get_or p.c i 0) (by_number p.d (get_or p.pairs i 0)) ≡ Loose (k + 1) (get_or p.pairs k 0) (get_or p.orders k 0) (get_or p.c k 0) (by_number p.d (get_or p.pairs k 0))
loose_as p i k e = rw e refl

twice_as : (p : Printed) (i k n l : ℕ) → i ≡ k → n ≡ l → Twice (i + 1) (n + 1) (get_or p.pairs n 0) ≡ Twice (k + 1) (l + 1) (get_or p.pairs l 0)
twice_as p i k n l e f = rw (e, f) refl

module _ (m : FlatModel) (p : Printed) where
  order_never : (v : Verdict) → IsOrderFault (incidence_of m) p v → HaveOrders (incidence_of m) p (equations (incidence_of m)) → ⊥
  order_never v f have = f.apart (one_sigma m f.place (get_or p.pairs f.place 0) f.found (Some (get_or p.orders f.place 0)) f.sigma (have f.place f.within))

  low_never : (v : Verdict) → IsLowFault (incidence_of m) p v → FitTo (incidence_of m) p (equations (incidence_of m)) 0 → ⊥
  low_never v f fit = fit.rows f.place f.entry f.within.0 f.within.1 f.low

  loose_never : (v : Verdict) → IsLooseFault (incidence_of m) p v → MeetTo p (equations (incidence_of m)) → ⊥
  loose_never v f meet = meet f.place f.within f.loose

  earlier_order : (v w : Verdict) (f : IsOrderFault (incidence_of m) p v) (h : IsOrderFault (incidence_of m) p w) → f.place < h.place → ⊥
  earlier_order v w f h before = f.apart (one_sigma m f.place (get_or p.pairs f.place 0) f.found (Some (get_or p.orders f.place 0)) f.sigma (h.before f.place before))

  one_order : (v w : Verdict) → IsOrderFault (incidence_of m) p v → IsOrderFault (incidence_of m) p w → v ≡ w
  one_order v w f h = elim (three f.place h.place) [
    | inl less ↦ absurd (earlier_order v w f h less)
    | inr more ↦ elim more [
      | inl less ↦ absurd (earlier_order w v h f less)
      | inr equal ↦
          f.is ∙ (order_as p f.place h.place f.found h.found equal (one_sigma m f.place (get_or p.pairs f.place 0) f.found h.found f.sigma (moved_sigma m p f.place h.place h.found (sym equal) h.sigma)) ∙ sym h.is)
    ]
  ]

  one_low : (v w : Verdict) → IsLowFault (incidence_of m) p v → IsLowFault (incidence_of m) p w → v ≡ w
  one_low v w f h = elim (three f.place h.place) [
    | inl less ↦ absurd (h.before.rows f.place f.entry less f.within.1 f.low)
    | inr more ↦ elim more [
      | inl less ↦ absurd (f.before.rows h.place h.entry less h.within.1 h.low)
      | inr equal ↦ elim (three f.entry h.entry) [
        | inl less ↦ absurd (h.before.here f.entry less (moved_low (incidence_of m) p f.place h.place f.entry equal f.low))
        | inr later ↦ elim later [
          | inl less ↦ absurd (f.before.here h.entry less (moved_low (incidence_of m) p h.place f.place h.entry (sym equal) h.low))
          | inr here ↦ f.is ∙ (low_as (incidence_of m) p f.place h.place f.entry h.entry equal here ∙ sym h.is)
        ]
      ]
    ]
  ]

  one_loose : (v w : Verdict) → IsLooseFault (incidence_of m) p v → IsLooseFault (incidence_of m) p w → v ≡ w
  one_loose v w f h = elim (three f.place h.place) [
    | inl less ↦ absurd (h.before f.place less f.loose)
    | inr more ↦ elim more [ inl less ↦ absurd (f.before h.place less h.loose) | inr equal ↦ f.is ∙ (loose_as p f.place h.place equal ∙ sym h.is) ]
  ]

  one_twice : (v w : Verdict) → IsTwiceFault (incidence_of m) p v → IsTwiceFault (incidence_of m) p w → v ≡ w
  one_twice v w f h = elim (three f.second h.second) [
    | inl less ↦ absurd (h.before f.first f.second f.within.0 less f.same)
    | inr more ↦ elim more [
      | inl less ↦ absurd (f.before h.first h.second h.within.0 less h.same)
      | inr equal ↦ (
          let both : get_or p.pairs f.first 0 ≡ get_or p.pairs h.first 0 = f.same ∙ (ap (λ (n : ℕ). get_or p.pairs n 0) equal ∙ sym h.same) in
          elim (three f.first h.first) [
            | inl less ↦ absurd (h.before f.first h.first less h.within.0 both)
            | inr later ↦ elim later [
              | inl less ↦ absurd (f.before h.first f.first less f.within.0 (sym both))
              | inr here ↦ f.is ∙ (twice_as p f.first h.first f.second h.second here equal ∙ sym h.is)
            ]
          ])
    ]
  ]

  one_fault : (v w : Verdict) → IsFirstFault (incidence_of m) p v → IsFirstFault (incidence_of m) p w → v ≡ w
  one_fault v w (order f) (order h) = one_order v w f h
  one_fault v w (order f) (low have h) = absurd (order_never v f have)
  one_fault v w (order f) (loose have fit h) = absurd (order_never v f have)
  one_fault v w (order f) (twice have fit meet h) = absurd (order_never v f have)
  one_fault v w (low have f) (order h) = absurd (order_never w h have)
  one_fault v w (low have f) (low have' h) = one_low v w f h
  one_fault v w (low have f) (loose have' fit h) = absurd (low_never v f fit)
  one_fault v w (low have f) (twice have' fit meet h) = absurd (low_never v f fit)
  one_fault v w (loose have fit f) (order h) = absurd (order_never w h have)
  one_fault v w (loose have fit f) (low have' h) = absurd (low_never w h fit)
  one_fault v w (loose have fit f) (loose have' fit' h) = one_loose v w f h
  one_fault v w (loose have fit f) (twice have' fit' meet h) = absurd (loose_never v f meet)
  one_fault v w (twice have fit meet f) (order h) = absurd (order_never w h have)
  one_fault v w (twice have fit meet f) (low have' h) = absurd (low_never w h fit)
  one_fault v w (twice have fit meet f) (loose have' fit' h) = absurd (loose_never w h meet)
  one_fault v w (twice have fit meet f) (twice have' fit' meet' h) = one_twice v w f h

  no_fault_then : (v : Verdict) → IsFirstFault (incidence_of m) p v → HasNoFault (incidence_of m) p → ⊥
  no_fault_then v (order f) right = order_never v f right.orders
  no_fault_then v (low have f) right = low_never v f right.fit
  no_fault_then v (loose have fit f) right = loose_never v f right.meet
  no_fault_then v (twice have fit meet f) right = right.apart f.first f.second f.within.0 f.within.1 f.same

-- ---- what is read twice
both_read : (m : FlatModel) (report : List ℕ) (p q : Printed) → IsRead m report p → IsRead m report q → p ≡ q
both_read m report p q a b = printed_once (unknown_names m.vars) (length m.equations) report p q a.printed b.printed

shaped_read : (m : FlatModel) (report : List ℕ) (q : Printed) → IsRead m report q → (k : ℕ) → IsMisshapen (unknown_names m.vars) (length m.equations) report k → ⊥
shaped_read m report q read k here = shaped (unknown_names m.vars) (length m.equations) report q (length m.equations + length (unknown_names m.vars)) k read.printed.lines here.within here

shape_same : (report : List ℕ) (v w : Verdict) (k l : ℕ) → k ≡ l → v ≡ Shape (k + 3) (text_at report (k + 3)) (k + 1) → w ≡ Shape (l + 3) (text_at report (l + 3)) (l + 1) → v ≡ w
shape_same report v w k l e is is' = is ∙ (go ∙ sym is')
  where
    go : Shape (k + 3) (text_at report (k + 3)) (k + 1) ≡ Shape (l + 3) (text_at report (l + 3)) (l + 1)
    go = rw e refl

fault_same : (m : FlatModel) (v w : Verdict) (p q : Printed) → p ≡ q → IsFirstFault (incidence_of m) p v → IsFirstFault (incidence_of m) q w → v ≡ w
fault_same m v w p q e a b = one_fault m q v w (rw e at a) b

fault_never : (m : FlatModel) (v : Verdict) (p q : Printed) → p ≡ q → IsFirstFault (incidence_of m) p v → HasNoFault (incidence_of m) q → ⊥
fault_never m v p q e a right = no_fault_then m q v (rw e at a) right

never_chained : (m : FlatModel) (p q : Printed) → p ≡ q → (i : ℕ) → i < equations (incidence_of m) → (IsChained (incidence_of m) p i → ⊥) → AreChainedTo (incidence_of m) q (equations (incidence_of m)) → ⊥
never_chained m p q e i below none chains = go (rw e at none)
  where
    go : (IsChained (incidence_of m) q i → ⊥) → ⊥
    go alone = alone (chains i below)

least_as : (p : Printed) (i k n l : ℕ) → i ≡ k → n ≡ l → NotLeast (i + 1) (get_or p.c i 0) n ≡ NotLeast (k + 1) (get_or p.c k 0) l
least_as p i k n l e f = rw (e, f) refl

least_same : (m : FlatModel) (v w : Verdict) (p q : Printed) → p ≡ q → (i k n l : ℕ) → AreChainedTo (incidence_of m) p i → AreChainedTo (incidence_of m) q k → (IsChained (incidence_of m) p i → ⊥) → (IsChained (incidence_of m) q k → ⊥)
    → get_or p.c i 0 ≡ n + 1 → get_or q.c k 0 ≡ l + 1 → v ≡ NotLeast (i + 1) (get_or p.c i 0) n → w ≡ NotLeast (k + 1) (get_or q.c k 0) l → v ≡ w
least_same m v w p q e i k n l before before' none none' offset offset' is is' = go (rw e at before) (rw e at none) (rw e at offset) (rw e at is)
  where
    go : AreChainedTo (incidence_of m) q i → (IsChained (incidence_of m) q i → ⊥) → get_or q.c i 0 ≡ n + 1 → v ≡ NotLeast (i + 1) (get_or q.c i 0) n → v ≡ w
    go all alone is_offset is_v = elim (three i k) [
      | inl less ↦ absurd (alone (before' i less))
      | inr more ↦ elim more [
        | inl less ↦ absurd (none' (all k less))
        | inr equal ↦ (let one : get_or q.c i 0 ≡ get_or q.c k 0 = ap (λ (x : ℕ). get_or q.c x 0) equal in is_v ∙ (least_as q i k n l equal (omega (arith, one, is_offset, offset')) ∙ sym is'))
      ]
    ]

few_lines : (m : FlatModel) (p : Printed) (r : Report) → IsUndeterminedReport m p r → rest_lines r ≡ flat_map (name_line (codes "undetermined ") (unknown_names m.vars)) r.loose.items
few_lines m p r u =
    let count : length m.equations < length (unknown_names m.vars) = omega (arith, u.fewer, equations_of m [], unknowns_of m []) in
    let yes : nat_lt (length m.equations) (length (unknown_names m.vars)) ≡ true = grind (arith, nat_tests, count) in
    let test : nat_lt r.equations (length r.unknowns) ≡ true = rw (u.has.equations, u.has.unknowns) yes in
    let lines : rest_lines r ≡ flat_map (name_line (codes "undetermined ") r.unknowns) r.loose.items = rw test refl in
    lines ∙ ap (λ (us : List (List ℕ)). flat_map (name_line (codes "undetermined ") us) r.loose.items) u.has.unknowns

few_text : (m : FlatModel) (p q : Printed) (r s : Report) → p ≡ q → IsUndeterminedReport m p r → IsUndeterminedReport m q s → report_lines r ≡ report_lines s
few_text m p q r s e a b = go (rw e at a)
  where
    go : IsUndeterminedReport m q r → report_lines r ≡ report_lines s
    go a =
        let loose = same_listed (IsUndetermined (incidence_of m)) (incidence_of m).unknowns r.loose.items s.loose.items a.loose b.loose in
        let rest : rest_lines r ≡ rest_lines s = few_lines m q r a ∙ (ap (flat_map (name_line (codes "undetermined ") (unknown_names m.vars))) loose ∙ sym (few_lines m q s b)) in
        below_text m q a.offsets r a.has ∙ (same_rest m q (rest_lines r) (rest_lines s) rest ∙ sym (below_text m q b.offsets s b.has))

whole_text : (m : FlatModel) (p q : Printed) (r s : Report) → p ≡ q → IsSquareReport m p r → IsSquareReport m q s → report_lines r ≡ report_lines s
whole_text m p q r s e a b = same_text m q r s (rw e at a) b

-- ---- the steps, and what holds where each is reached
data View (m : FlatModel) (report : List ℕ) (v : Verdict) : Type 0 where
  not_readable : (n : ℕ) → IsFirstUnreadable report n → v ≡ Unreadable n → View m report v
  other_head : (n : ℕ) (line other : List ℕ) → AreReadable report → DifferFirst report (head_text m) n line other → n ≤ 2 → v ≡ Line n (without_feed line) (without_feed other) → View m report v
  in_deficit : (r : Report) → IsBegun m report → IsDeficitReport m r → ComparesWith report (report_lines r) Yes v → View m report v
  misshapen : (p : Printed) (k : ℕ) → IsBegun m report → CanCoverAll (incidence_of m) → ArePrintedTo (unknown_names m.vars) (length m.equations) report p k → IsMisshapen (unknown_names m.vars) (length m.equations) report k
      → v ≡ Shape (k + 3) (text_at report (k + 3)) (k + 1) → View m report v
  faulty : (p : Printed) → IsRead m report p → IsFirstFault (incidence_of m) p v → View m report v
  fewer : (p : Printed) (r : Report) → IsRead m report p → HasNoFault (incidence_of m) p → IsUndeterminedReport m p r → ComparesWith report (report_lines r) Admissible v → View m report v
  unchained : (p : Printed) (i smaller : ℕ) → IsRead m report p → HasNoFault (incidence_of m) p → equations (incidence_of m) ≡ (incidence_of m).unknowns → AreChainedTo (incidence_of m) p i → i < equations (incidence_of m)
      → (IsChained (incidence_of m) p i → ⊥) → get_or p.c i 0 ≡ smaller + 1 → v ≡ NotLeast (i + 1) (get_or p.c i 0) smaller → View m report v
  whole : (p : Printed) (r : Report) → IsRead m report p → HasNoFault (incidence_of m) p → AreChainedTo (incidence_of m) p (equations (incidence_of m)) → IsSquareReport m p r → ComparesWith report (report_lines r) Yes v
      → View m report v

module _ (m : FlatModel) (report : List ℕ) where
  view : (v : Verdict) → IsVerdict m report v → View m report v
  view v (verdict.unreadable {n} f) = not_readable n f refl
  view v (verdict.head line other {n} readable d within a b) = other_head n line other readable d within (rw (a, b) refl)
  view v (verdict.deficit_differs r line other {n} b d differ f h) = in_deficit r b d (differs n line other differ (rw (f, h) refl))
  view v (verdict.deficit r b d is) = in_deficit r b d (same is refl)
  view v (verdict.shape p k b can before here f h i) = misshapen p k b can before here (rw (h, f, i) refl)
  view v (verdict.order p i {equation} {unknown} {printed} {found} read before below a b c sigma apart) =
      faulty p read (order (record { place = i; found = found; within = rw (equations_of m []) below; before = before; sigma = rw b at sigma; apart = rw c at apart; is = rw (a, b, c) refl }))
  view v (verdict.low p i k read have fit below within here a b c f h) =
      faulty p read (low (rw (equations_of m []) have) (record { place = i; entry = k; within = (rw (equations_of m []) below, within); before = fit; low = here; is = rw (h, a, b, c, f) refl }))
  view v (verdict.loose p i read have fit meet below here a b c f h) =
      faulty p read (loose (rw (equations_of m []) have) (rw (equations_of m []) fit) (record { place = i; within = rw (equations_of m []) below; before = meet; loose = here; is = rw (h, a, b, c, f) refl }))
  view v (verdict.twice p i k read have fit meet apart before below one a b c) =
      faulty p read (twice (rw (equations_of m []) have) (rw (equations_of m []) fit) (rw (equations_of m []) meet)
      (record { first = i; second = k; within = (before, rw (equations_of m []) below); before = apart; same = one; is = rw (a, b, c) refl }))
  view v (verdict.undetermined_differs p r line other {n} right u differ a b) = fewer p r right.read (no_fault m report p right) u (differs n line other differ (rw (a, b) refl))
  view v (verdict.undetermined p r right u is) = fewer p r right.read (no_fault m report p right) u (same is refl)
  view v (verdict.not_least p i {equation} {printed} {smaller} right square chains below none a b c less) =
      unchained p i smaller right.read (no_fault m report p right) square chains (rw (equations_of m []) below) none (sym b ∙ c) (rw (a, b) refl)
  view v (verdict.square_differs p r line other {n} right chains s differ a b) = whole p r right.read (no_fault m report p right) (rw (equations_of m []) chains) s (differs n line other differ (rw (a, b) refl))
  view v (verdict.square p r right chains s is) = whole p r right.read (no_fault m report p right) (rw (equations_of m []) chains) s (same is refl)

  one_view : (v w : Verdict) → View m report v → View m report w → v ≡ w
  one_view v w (not_readable an af ais) (not_readable bn bf bis) = ais ∙ (ap Unreadable (one_unreadable report an bn af bf) ∙ sym bis)
  one_view v w (not_readable an af ais) (other_head bn bline bother breadable bd bwithin bis) = absurd (not_unreadable report an breadable af)
  one_view v w (not_readable an af ais) (in_deficit br bbegun bd bcompares) = absurd (not_unreadable report an bbegun.readable af)
  one_view v w (not_readable an af ais) (misshapen bp bk bbegun bcan bbefore bhere bis) = absurd (not_unreadable report an bbegun.readable af)
  one_view v w (not_readable an af ais) (faulty bp bread bfault) = absurd (not_unreadable report an bread.begun.readable af)
  one_view v w (not_readable an af ais) (fewer bp br bread bright bu bcompares) = absurd (not_unreadable report an bread.begun.readable af)
  one_view v w (not_readable an af ais) (unchained bp bi bsmaller bread bright beven bbefore bbelow bnone boffset bis) = absurd (not_unreadable report an bread.begun.readable af)
  one_view v w (not_readable an af ais) (whole bp br bread bright bchains bs bcompares) = absurd (not_unreadable report an bread.begun.readable af)
  one_view v w (other_head an aline aother areadable ad awithin ais) (not_readable bn bf bis) = absurd (not_unreadable report bn areadable bf)
  one_view v w (other_head an aline aother areadable ad awithin ais) (other_head bn bline bother breadable bd bwithin bis) = ais ∙ (one_line_verdict report (head_text m) an bn aline aother bline bother ad bd ∙ sym bis)
  one_view v w (other_head an aline aother areadable ad awithin ais) (in_deficit br bbegun bd bcompares) = absurd (not_head report (head_text m) an aline aother bbegun.first bbegun.second ad awithin)
  one_view v w (other_head an aline aother areadable ad awithin ais) (misshapen bp bk bbegun bcan bbefore bhere bis) = absurd (not_head report (head_text m) an aline aother bbegun.first bbegun.second ad awithin)
  one_view v w (other_head an aline aother areadable ad awithin ais) (faulty bp bread bfault) = absurd (not_head report (head_text m) an aline aother bread.begun.first bread.begun.second ad awithin)
  one_view v w (other_head an aline aother areadable ad awithin ais) (fewer bp br bread bright bu bcompares) = absurd (not_head report (head_text m) an aline aother bread.begun.first bread.begun.second ad awithin)
  one_view v w (other_head an aline aother areadable ad awithin ais) (unchained bp bi bsmaller bread bright beven bbefore bbelow bnone boffset bis) = absurd (not_head report (head_text m) an aline aother bread.begun.first bread.begun.second ad awithin)
  one_view v w (other_head an aline aother areadable ad awithin ais) (whole bp br bread bright bchains bs bcompares) = absurd (not_head report (head_text m) an aline aother bread.begun.first bread.begun.second ad awithin)
  one_view v w (in_deficit ar abegun ad acompares) (not_readable bn bf bis) = absurd (not_unreadable report bn abegun.readable bf)
  one_view v w (in_deficit ar abegun ad acompares) (other_head bn bline bother breadable bd bwithin bis) = absurd (not_head report (head_text m) bn bline bother abegun.first abegun.second bd bwithin)
  one_view v w (in_deficit ar abegun ad acompares) (in_deficit br bbegun bd bcompares) = one_comparison report (report_lines ar) (report_lines br) Yes v w (same_lines ar br (one_report m ar br ad.right bd.right)) acompares bcompares
  one_view v w (in_deficit ar abegun ad acompares) (misshapen bp bk bbegun bcan bbefore bhere bis) = absurd (no_cover m ar ad bcan)
  one_view v w (in_deficit ar abegun ad acompares) (faulty bp bread bfault) = absurd (no_cover m ar ad bread.can)
  one_view v w (in_deficit ar abegun ad acompares) (fewer bp br bread bright bu bcompares) = absurd (no_cover m ar ad bread.can)
  one_view v w (in_deficit ar abegun ad acompares) (unchained bp bi bsmaller bread bright beven bbefore bbelow bnone boffset bis) = absurd (no_cover m ar ad bread.can)
  one_view v w (in_deficit ar abegun ad acompares) (whole bp br bread bright bchains bs bcompares) = absurd (no_cover m ar ad bread.can)
  one_view v w (misshapen pa ak abegun acan abefore ahere ais) (not_readable bn bf bis) = absurd (not_unreadable report bn abegun.readable bf)
  one_view v w (misshapen pa ak abegun acan abefore ahere ais) (other_head bn bline bother breadable bd bwithin bis) = absurd (not_head report (head_text m) bn bline bother abegun.first abegun.second bd bwithin)
  one_view v w (misshapen pa ak abegun acan abefore ahere ais) (in_deficit br bbegun bd bcompares) = absurd (no_cover m br bd acan)
  one_view v w (misshapen pa ak abegun acan abefore ahere ais) (misshapen bp bk bbegun bcan bbefore bhere bis) = shape_same report v w ak bk (one_shape (unknown_names m.vars) (length m.equations) report pa bp ak bk abefore bbefore ahere bhere) ais bis
  one_view v w (misshapen pa ak abegun acan abefore ahere ais) (faulty bp bread bfault) = absurd (shaped_read m report bp bread ak ahere)
  one_view v w (misshapen pa ak abegun acan abefore ahere ais) (fewer bp br bread bright bu bcompares) = absurd (shaped_read m report bp bread ak ahere)
  one_view v w (misshapen pa ak abegun acan abefore ahere ais) (unchained bp bi bsmaller bread bright beven bbefore bbelow bnone boffset bis) = absurd (shaped_read m report bp bread ak ahere)
  one_view v w (misshapen pa ak abegun acan abefore ahere ais) (whole bp br bread bright bchains bs bcompares) = absurd (shaped_read m report bp bread ak ahere)
  one_view v w (faulty pa aread afault) (not_readable bn bf bis) = absurd (not_unreadable report bn aread.begun.readable bf)
  one_view v w (faulty pa aread afault) (other_head bn bline bother breadable bd bwithin bis) = absurd (not_head report (head_text m) bn bline bother aread.begun.first aread.begun.second bd bwithin)
  one_view v w (faulty pa aread afault) (in_deficit br bbegun bd bcompares) = absurd (no_cover m br bd aread.can)
  one_view v w (faulty pa aread afault) (misshapen bp bk bbegun bcan bbefore bhere bis) = absurd (shaped_read m report pa aread bk bhere)
  one_view v w (faulty pa aread afault) (faulty bp bread bfault) = fault_same m v w pa bp (both_read m report pa bp aread bread) afault bfault
  one_view v w (faulty pa aread afault) (fewer bp br bread bright bu bcompares) = absurd (fault_never m v pa bp (both_read m report pa bp aread bread) afault bright)
  one_view v w (faulty pa aread afault) (unchained bp bi bsmaller bread bright beven bbefore bbelow bnone boffset bis) = absurd (fault_never m v pa bp (both_read m report pa bp aread bread) afault bright)
  one_view v w (faulty pa aread afault) (whole bp br bread bright bchains bs bcompares) = absurd (fault_never m v pa bp (both_read m report pa bp aread bread) afault bright)
  one_view v w (fewer pa ar aread aright au acompares) (not_readable bn bf bis) = absurd (not_unreadable report bn aread.begun.readable bf)
  one_view v w (fewer pa ar aread aright au acompares) (other_head bn bline bother breadable bd bwithin bis) = absurd (not_head report (head_text m) bn bline bother aread.begun.first aread.begun.second bd bwithin)
  one_view v w (fewer pa ar aread aright au acompares) (in_deficit br bbegun bd bcompares) = absurd (no_cover m br bd aread.can)
  one_view v w (fewer pa ar aread aright au acompares) (misshapen bp bk bbegun bcan bbefore bhere bis) = absurd (shaped_read m report pa aread bk bhere)
  one_view v w (fewer pa ar aread aright au acompares) (faulty bp bread bfault) = absurd (fault_never m w bp pa (both_read m report bp pa bread aread) bfault aright)
  one_view v w (fewer pa ar aread aright au acompares) (fewer bp br bread bright bu bcompares) = one_comparison report (report_lines ar) (report_lines br) Admissible v w (few_text m pa bp ar br (both_read m report pa bp aread bread) au bu) acompares bcompares
  one_view v w (fewer pa ar aread aright au acompares) (unchained bp bi bsmaller bread bright beven bbefore bbelow bnone boffset bis) = absurd (omega (arith, au.fewer, beven))
  one_view v w (fewer pa ar aread aright au acompares) (whole bp br bread bright bchains bs bcompares) = absurd (omega (arith, au.fewer, bs.square))
  one_view v w (unchained pa ai asmaller aread aright aeven abefore abelow anone aoffset ais) (not_readable bn bf bis) = absurd (not_unreadable report bn aread.begun.readable bf)
  one_view v w (unchained pa ai asmaller aread aright aeven abefore abelow anone aoffset ais) (other_head bn bline bother breadable bd bwithin bis) = absurd (not_head report (head_text m) bn bline bother aread.begun.first aread.begun.second bd bwithin)
  one_view v w (unchained pa ai asmaller aread aright aeven abefore abelow anone aoffset ais) (in_deficit br bbegun bd bcompares) = absurd (no_cover m br bd aread.can)
  one_view v w (unchained pa ai asmaller aread aright aeven abefore abelow anone aoffset ais) (misshapen bp bk bbegun bcan bbefore bhere bis) = absurd (shaped_read m report pa aread bk bhere)
  one_view v w (unchained pa ai asmaller aread aright aeven abefore abelow anone aoffset ais) (faulty bp bread bfault) = absurd (fault_never m w bp pa (both_read m report bp pa bread aread) bfault aright)
  one_view v w (unchained pa ai asmaller aread aright aeven abefore abelow anone aoffset ais) (fewer bp br bread bright bu bcompares) = absurd (omega (arith, bu.fewer, aeven))
  one_view v w (unchained pa ai asmaller aread aright aeven abefore abelow anone aoffset ais) (unchained bp bi bsmaller bread bright beven bbefore bbelow bnone boffset bis) = least_same m v w pa bp (both_read m report pa bp aread bread) ai bi asmaller bsmaller abefore bbefore anone bnone aoffset boffset ais bis
  one_view v w (unchained pa ai asmaller aread aright aeven abefore abelow anone aoffset ais) (whole bp br bread bright bchains bs bcompares) = absurd (never_chained m pa bp (both_read m report pa bp aread bread) ai abelow anone bchains)
  one_view v w (whole pa ar aread aright achains sa acompares) (not_readable bn bf bis) = absurd (not_unreadable report bn aread.begun.readable bf)
  one_view v w (whole pa ar aread aright achains sa acompares) (other_head bn bline bother breadable bd bwithin bis) = absurd (not_head report (head_text m) bn bline bother aread.begun.first aread.begun.second bd bwithin)
  one_view v w (whole pa ar aread aright achains sa acompares) (in_deficit br bbegun bd bcompares) = absurd (no_cover m br bd aread.can)
  one_view v w (whole pa ar aread aright achains sa acompares) (misshapen bp bk bbegun bcan bbefore bhere bis) = absurd (shaped_read m report pa aread bk bhere)
  one_view v w (whole pa ar aread aright achains sa acompares) (faulty bp bread bfault) = absurd (fault_never m w bp pa (both_read m report bp pa bread aread) bfault aright)
  one_view v w (whole pa ar aread aright achains sa acompares) (fewer bp br bread bright bu bcompares) = absurd (omega (arith, bu.fewer, sa.square))
  one_view v w (whole pa ar aread aright achains sa acompares) (unchained bp bi bsmaller bread bright beven bbefore bbelow bnone boffset bis) = absurd (never_chained m bp pa (both_read m report bp pa bread aread) bi bbelow bnone achains)
  one_view v w (whole pa ar aread aright achains sa acompares) (whole bp br bread bright bchains bs bcompares) = one_comparison report (report_lines ar) (report_lines br) Yes v w (whole_text m pa bp ar br (both_read m report pa bp aread bread) sa bs) acompares bcompares

  pub one_verdict : (v w : Verdict) → IsVerdict m report v → IsVerdict m report w → v ≡ w
  one_verdict v w a b = one_view v w (view v a) (view w b)
