-- The text of a right report gets the verdict Yes: none of the other steps applies to it.
use Rattle.std.proofs.Common.{◌≡◌, ◌≢◌, ℕ, zero, suc, ◌+◌, ◌-◌, ◌<◌, ◌≤◌, inl, inr, List, [], ◌∷◌, ◌++◌, length, get_or, Option, Some, None, refl, sym, ap, ◌∙◌, arith}
use Rattle.std.proofs.lemmas.Bool.{cases_lt}
use Rattle.std.proofs.lemmas.Bool.Decides.{eqb_tells}
use Rattle.mo_flat.specs.declared.model.FlatModel.{FlatModel}
use Rattle.mo_graph.proofs.Unique.{order_unique}
use Rattle.mo_incidence.specs.declared.findings.Deficit.{Deficit}
use Rattle.mo_incidence.specs.declared.findings.Offsets.{Offsets}
use Rattle.mo_incidence.specs.Counting.{sum_below}
use Rattle.mo_incidence.specs.Signature.{Signature, equations, order_at, IsSound}
use Rattle.mo_incidence.specs.Assignment.{Mentions, CanCoverAll, IsDeficit}
use Rattle.mo_incidence.specs.Offsets.{by_place, by_number, after_reasons, sum_unknowns, c_of, d_of, pairs_of}
use Rattle.mo_incidence.specs.Reasons.{IsReason, IsWithin, AreReasonsOf}
use Rattle.mo_incidence.specs.Blocks.{Needs, AreBlocksInOrder, numbers_in}
use Rattle.mo_incidence.specs.Dummies.{dummies_of, states_of}
use Rattle.mo_incidence.specs.Model.{incidence_of}
use Rattle.mo_certify.proofs.Leastness.{tight_entry}
use Rattle.mo_report.specs.declared.report.Report.{Report}
use Rattle.mo_report.specs.Right.{index_of, HasSquareParts, singular, underdetermined, square, IsRightFor}
use Rattle.mo_report.specs.Lines.{unknown_name, report_lines}
use Rattle.mo_report.specs.Size.{unknown_names}
use Rattle.mo_report.proofs.Once.{same_numbers, same_reasons, one_entry}
use Rattle.mo_report_lines.specs.Lines.{lines_of, line_at, AreReadable, IsFirstUnreadable, DifferFirst}
use Rattle.mo_verify.specs.declared.verdict.Verdict.{Verdict}
use Rattle.mo_verify.specs.declared.verdict.Verdict.TheVariants.{Yes}
use Rattle.mo_verify.specs.Printed.{Printed}
use Rattle.mo_verify.specs.Reading.{text_at, number_of, IsEquationAt, IsUnknownAt, ArePrinted, IsMisshapen}
use Rattle.mo_verify.specs.Faults.{IsSigma, IsChained}
use Rattle.mo_verify.specs.Verdict as verdict
use Rattle.mo_verify.specs.Verdict.{head_text, IsDeficitReport, IsSquareReport, IsRightWith, HasNames, IsVerdict}
use Rattle.mo_verify.proofs.Covering.{never_deficient}
use Rattle.mo_verify.proofs.Judging.{equations_of, unknowns_of}
use Rattle.mo_verify.proofs.Lining.{together, lines_together, listed, listed_size, listed_at, at_left, at_right, cut_one}
use Rattle.mo_verify.proofs.Numbering.{numbered_name}
use Rattle.mo_verify.proofs.Printing.{equation_plain, unknown_plain}
use Rattle.mo_verify.proofs.Saying.{one_equation_line, one_unknown_line, renamed}
use Rattle.mo_verify.proofs.Written.{name_is, head_two, head_together, equation_text, unknown_text, body, square_list, square_text}
use Rattle.mo_verify.proofs.Bounding.{tight, pair_known}
use Rattle.mo_verify.proofs.Goods.{equation_said, unknown_said, good_head, lines_are, readable}

-- ---- small facts
pub not_unreadable : (text : List ℕ) (n : ℕ) → AreReadable text → IsFirstUnreadable text n → ⊥
not_unreadable text zero all f = omega (arith, f.some)
not_unreadable text (suc n) all f = f.here (all n (omega (arith, f.within)))

pub not_head : (text head : List ℕ) (n : ℕ) (line other : List ℕ) → line_at text 1 ≡ line_at head 1 → line_at text 2 ≡ line_at head 2 → DifferFirst text head n line other → n ≤ 2 → ⊥
not_head text head zero line other first second d within = omega (arith, d.some)
not_head text head (suc zero) line other first second d within = d.apart (d.left ∙ (first ∙ sym d.right))
not_head text head (suc (suc zero)) line other first second d within = d.apart (d.left ∙ (second ∙ sym d.right))
not_head text head (suc (suc (suc n))) line other first second d within = omega (arith, within)

pub not_differ : (text other : List ℕ) (n : ℕ) (line wanted : List ℕ) → text ≡ other → DifferFirst text other n line wanted → ⊥
not_differ text other n line wanted same d = d.apart (d.left ∙ (ap (λ (t : List ℕ). line_at t n) same ∙ sym d.right))

numbered : (m : FlatModel) → HasNames m → (j : ℕ) → 0 < j → j ≤ length (unknown_names m.vars) → number_of (unknown_names m.vars) (unknown_name (unknown_names m.vars) j) ≡ Some j
numbered m names zero some within = absurd (omega arith)
numbered m names (suc j) some within =
    let next : j + 1 ≡ suc j = omega arith in
    rw (name_is (unknown_names m.vars) j) (numbered_name (unknown_names m.vars) j (omega arith) names.apart ∙ ap Some next)

pub some_is : (a b : ℕ) → Some a ≡ Some b → a ≡ b
some_is a b e = cc

pub same_printed : (p q : Printed) → p.c ≡ q.c → p.d ≡ q.d → p.pairs ≡ q.pairs → p.orders ≡ q.orders → p ≡ q
same_printed p q c d pairs orders = go p.c p.d p.pairs p.orders c d pairs orders
  where
    go : (a b x y : List ℕ) → a ≡ q.c → b ≡ q.d → x ≡ q.pairs → y ≡ q.orders → record { c = a; d = b; pairs = x; orders = y } ≡ q
    go a b x y e f h k = rw (e, f, h, k) refl

-- ---- counting
below_same : (i a b : ℕ) → i < a → a ≡ b → i < b
below_same i a b l e = omega arith

in_first : (i a b : ℕ) → i < a → i < a + b
in_first i a b l = omega arith

in_second : (j a b : ℕ) → j < b → a + j < a + b
in_second j a b l = omega arith

within_same : (i a b : ℕ) → i ≤ a → a ≡ b → i ≤ b
within_same i a b l e = omega arith

below_two : (i a : ℕ) → i < 2 → a ≡ 2 → i < a
below_two i a l e = omega arith

is_apart : (a b : ℕ) → a < b → a ≡ b → ⊥
is_apart a b l e = omega arith

sum_apart : (a b d : ℕ) → a + b < d → d ≡ b + a → ⊥
sum_apart a b d l e = omega arith

low_apart : (a b d : ℕ) → d < a + b → b + a ≤ d → ⊥
low_apart a b d l k = omega arith

three_on : (n : ℕ) → n + 3 ≡ suc (n + 2)
three_on n = omega arith

one_on : (n : ℕ) → n + 1 ≡ suc n
one_on n = omega arith

-- following reasons is a chain
chain_of : (g : Signature) (p : Printed) (by : ℕ → ℕ) → ((i : ℕ) → i < equations g → get_or p.c i 0 ≢ 0 → IsReason g (by_place p.c) (by_number p.d) (by_place p.pairs) i (by i))
    → (n i : ℕ) → i < equations g → get_or p.c (after_reasons by n i) 0 ≡ 0 → IsWithin g (by_place p.c) (by_number p.d) (by_place p.pairs) n i
chain_of g p by reason zero i below e = e
chain_of g p by reason (suc n) i below e = elim (eqb_tells (get_or p.c i 0) 0) [
  | inl z ↦ inl z.1
  | inr some ↦ (let why = reason i below some.1 in inr (by i, why.candidate, chain_of g p by reason n (by i) why.candidate.known e))
]

-- an unknown stands in an equation at one order
pub sigma_once : (m : FlatModel) (i j x : ℕ) (o : Option ℕ) → IsSigma (incidence_of m) i j (Some x) → IsSigma (incidence_of m) i j o → o ≡ Some x
sigma_once m i j x None s none = absurd (none s.0 s.1 s.2)
sigma_once m i j x (Some y) s t =
    let same : t.0 ≡ s.0 = one_entry m i s.0 t.0 s.1 t.1 (s.2 ∙ sym t.2) in
    let here : order_at (incidence_of m) i s.0 ≡ y = rw same at t.3 in
    ap Some (sym here ∙ s.3)

pub deficit_found : (m : FlatModel) (r : Report) → IsDeficitReport m r → (deficit : Deficit) × (k : ℕ) × (r.deficit ≡ Some deficit) × (k ≢ 0) × IsDeficit (incidence_of m) deficit.equations.items deficit.unknowns.items k
deficit_found m r d = go d.right.found
  where
    go : IsRightFor (incidence_of m) r → (deficit : Deficit) × (k : ℕ) × (r.deficit ≡ Some deficit) × (k ≢ 0) × IsDeficit (incidence_of m) deficit.equations.items deficit.unknowns.items k
    go (singular deficit k some given is no_offsets orders loose none) = (deficit, k, given, some, is)
    go (underdetermined offsets less has loose none) = let clash : Some d.deficit ≡ None = sym d.given ∙ has.no_deficit in cc
    go (square offsets same has loose parts) = let clash : Some d.deficit ≡ None = sym d.given ∙ has.no_deficit in cc

pub no_cover : (m : FlatModel) (r : Report) → IsDeficitReport m r → CanCoverAll (incidence_of m) → ⊥
no_cover m r d can = let found = deficit_found m r d in never_deficient (incidence_of m) can found.0.equations.items found.0.unknowns.items found.1 found.3 found.4

-- ---- two reports with the same offsets and pairs
module _ (g : Signature) (o p : Offsets) (c_is : o.c.items ≡ p.c.items) (d_is : o.d.items ≡ p.d.items) (t_is : o.pairs.items ≡ p.pairs.items) (r s : Report)
    (a : HasSquareParts g o r) (b : HasSquareParts g p s) where
  both_reasons : r.reasons.items ≡ s.reasons.items
  both_reasons =
      let other : AreReasonsOf g (c_of o) (d_of o) (pairs_of o) s.reasons.items = rw (c_is, d_is, t_is) b.reasons in
      a.reasons.listed ∙ (same_reasons g (c_of o) (d_of o) (pairs_of o) a.reasons.by other.by a.reasons.reason other.reason (equations g) (omega arith) ∙ sym other.listed)

  both_blocks : numbers_in r.blocks.0.items ≡ numbers_in s.blocks.0.items
  both_blocks =
      let other : AreBlocksInOrder g (c_of o) (d_of o) (pairs_of o) (numbers_in s.blocks.0.items) = rw (c_is, d_is, t_is) b.blocks in
      order_unique (Needs g (c_of o) (d_of o) (pairs_of o)) (equations g) (numbers_in r.blocks.0.items) (numbers_in s.blocks.0.items) a.blocks other

  both_dummies : r.dummies.chosen.items ≡ s.dummies.chosen.items
  both_dummies =
      let other : s.dummies.chosen.items ≡ dummies_of (c_of o) (d_of o) (pairs_of o) (equations g) = rw (c_is, d_is, t_is) b.dummies in
      a.dummies ∙ sym other

  both_states : r.dummies.states.items ≡ s.dummies.states.items
  both_states =
      let other : s.dummies.states.items ≡ states_of (c_of o) (d_of o) (pairs_of o) (equations g) g.unknowns = rw (c_is, d_is, t_is) b.states in
      a.states ∙ sym other

  both_index : r.index ≡ s.index
  both_index =
      let other : s.index ≡ index_of g (c_of o) (d_of o) = rw (c_is, d_is) b.index in
      a.index ∙ sym other

  both_freedom : r.freedom ≡ s.freedom
  both_freedom =
      let other : s.freedom + sum_below (c_of o) (equations g) ≡ sum_unknowns g (d_of o) = rw (c_is, d_is) b.freedom in
      let one = a.freedom in
      omega (arith, one, other)

  both_lists : r.unknowns ≡ s.unknowns → square_list r ≡ square_list s
  unfolding square_list
  both_lists names = rw (names, both_reasons, both_blocks, both_dummies, both_states, both_index, both_freedom) refl

pub same_text : (m : FlatModel) (p : Printed) (r s : Report) → IsSquareReport m p r → IsSquareReport m p s → report_lines r ≡ report_lines s
same_text m p r s a b =
    let lists = both_lists (incidence_of m) a.offsets b.offsets (a.has.c ∙ sym b.has.c) (a.has.d ∙ sym b.has.d) (a.has.pairs ∙ sym b.has.pairs) r s a.parts b.parts (a.has.unknowns ∙ sym b.has.unknowns) in
    square_text m p r a ∙ (ap (λ (rest : List (List ℕ)). together (head_two m ++ body m p rest)) lists ∙ sym (square_text m p s b))

-- ---- a square model
module _ (m : FlatModel) (names : HasNames m) (sound : IsSound (incidence_of m)) (p : Printed) (r : Report) (right : IsRightWith m p r) (few : length (report_lines r) ≤ 67108864) where
  two_lines : length (head_two m) ≡ 2
  unfolding head_two
  two_lines = refl

  head_at : (n : ℕ) → n < 2 → get_or (lines_of (report_lines r)) n [] ≡ get_or (lines_of (head_text m)) n []
  head_at n below =
      let rest = body m p (square_list r) in
      let left : get_or (lines_of (report_lines r)) n [] ≡ get_or (head_two m) n [] =
      ap (λ (ls : List (List ℕ)). get_or ls n []) (lines_are m names sound p r right few) ∙ at_left (head_two m) (body m p (square_list r)) n (below_two n _ below two_lines) in
      let head : lines_of (head_text m) ≡ head_two m = ap lines_of (head_together m) ∙ lines_together (head_two m) (λ i l. let h = good_head m names sound i l in record { text = h.text; is = h.is; plain = h.plain }) in
      left ∙ ap (λ (ls : List (List ℕ)). get_or ls n []) (sym head)

  behind_at : (k : ℕ) → get_or (lines_of (report_lines r)) (k + 2) [] ≡ get_or (body m p (square_list r)) k []
  behind_at k = ap (λ (ls : List (List ℕ)). get_or ls (k + 2) []) (lines_are m names sound p r right few) ∙ at_right (head_two m) (body m p (square_list r)) k (k + 2) (omega (arith, two_lines))

  equation_there : (i : ℕ) → i < length m.equations → text_at (report_lines r) (i + 3) ≡ equation_text (unknown_names m.vars) p i
  equation_there i below =
      let us = unknown_names m.vars in
      let line = λ (x : ℕ). equation_text us p x ++ 10 ∷ [] in
      let size = listed_size (λ x. equation_text us p x ++ 10 ∷ []) (length m.equations) in
      let here : get_or (lines_of (report_lines r)) (i + 2) [] ≡ equation_text us p i ++ 10 ∷ [] =
      behind_at i ∙ (at_left (listed (λ x. equation_text us p x ++ 10 ∷ []) (length m.equations)) (listed (λ j. unknown_text us p j ++ 10 ∷ []) (length us) ++ square_list r) i (omega (arith, size, below)) ∙
      listed_at (λ x. equation_text us p x ++ 10 ∷ []) (length m.equations) i below) in
      let three = three_on i in
      let plain = equation_plain (equation_text us p i) _ _ _ _ (equation_said m names sound p r right few i below) in
      rw (three, here) (cut_one (equation_text us p i) plain)

  unknown_there : (j : ℕ) → j < length (unknown_names m.vars) → text_at (report_lines r) (length m.equations + j + 3) ≡ unknown_text (unknown_names m.vars) p j
  unknown_there j below =
      let us = unknown_names m.vars in
      let size = listed_size (λ x. equation_text us p x ++ 10 ∷ []) (length m.equations) in
      let size' = listed_size (λ x. unknown_text us p x ++ 10 ∷ []) (length us) in
      let here : get_or (lines_of (report_lines r)) (length m.equations + j + 2) [] ≡ unknown_text us p j ++ 10 ∷ [] =
      behind_at (length m.equations + j) ∙
      (at_right (listed (λ x. equation_text us p x ++ 10 ∷ []) (length m.equations)) (listed (λ x. unknown_text us p x ++ 10 ∷ []) (length us) ++ square_list r) j (length m.equations + j) (omega (arith, size)) ∙
      (at_left (listed (λ x. unknown_text us p x ++ 10 ∷ []) (length us)) (square_list r) j (omega (arith, size', below)) ∙ listed_at (λ x. unknown_text us p x ++ 10 ∷ []) (length us) j below)) in
      let three = three_on (length m.equations + j) in
      let plain = unknown_plain (unknown_text us p j) _ _ (unknown_said m names sound p r right few j below) in
      rw (three, here) (cut_one (unknown_text us p j) plain)

  equation_at : (i : ℕ) → i < length m.equations → IsEquationAt (unknown_names m.vars) (report_lines r) i (get_or p.c i 0) (get_or p.pairs i 0) (get_or p.orders i 0)
  equation_at i below =
      let inside : i < equations (incidence_of m) = rw (equations_of m []) below in
      let known = pair_known m sound p r right few i inside in
      record {
        name = unknown_name (unknown_names m.vars) (get_or p.pairs i 0);
        line = rw (equation_there i below) (equation_said m names sound p r right few i below);
        is_number = numbered m names (get_or p.pairs i 0) known.0 (within_same _ _ _ known.1 (unknowns_of m []));
      }

  unknown_at_line : (j : ℕ) → j < length (unknown_names m.vars) → IsUnknownAt (unknown_names m.vars) (report_lines r) (length m.equations) j (get_or p.d j 0)
  unknown_at_line j below =
      let next = one_on j in
      let name : unknown_name (unknown_names m.vars) (j + 1) ≡ get_or (unknown_names m.vars) j [] = rw next (name_is (unknown_names m.vars) j) in
      rw (unknown_there j below) (renamed (unknown_text (unknown_names m.vars) p j) _ _ _ name (unknown_said m names sound p r right few j below))

  -- what is read is what is printed
  read_once : (q : Printed) → ArePrinted (unknown_names m.vars) (length m.equations) (report_lines r) q → q ≡ p
  read_once q a =
      let sizes = right.sizes in
      let says : (i : ℕ) → i < length m.equations → (get_or q.c i 0 ≡ get_or p.c i 0) × (get_or q.pairs i 0 ≡ get_or p.pairs i 0) × (get_or q.orders i 0 ≡ get_or p.orders i 0) =
      λ i l.
      let there = a.lines.equation i l (in_first i (length m.equations) (length (unknown_names m.vars)) l) in
      let here = equation_at i l in
      let one = one_equation_line (text_at (report_lines r) (i + 3)) _ _ there.name _ _ _ here.name _ there.line here.line in
      let number : Some (get_or q.pairs i 0) ≡ Some (get_or p.pairs i 0) = sym there.is_number ∙ (ap (number_of (unknown_names m.vars)) one.2 ∙ here.is_number) in
      (one.1, some_is _ _ number, one.3) in
      same_printed q p
      (same_numbers q.c p.c (a.c_all ∙ sym (sizes.c_all ∙ equations_of m [])) (λ i l. (says i (below_same i _ _ l a.c_all)).0))
      (same_numbers q.d p.d (a.d_all ∙ sym (sizes.d_all ∙ unknowns_of m []))
      (λ j l.
      let below : j < length (unknown_names m.vars) = below_same j _ _ l a.d_all in
      (one_unknown_line (text_at (report_lines r) (length m.equations + j + 3)) _ _ _ _ (a.lines.unknown j below (in_second j (length m.equations) (length (unknown_names m.vars)) below)) (unknown_at_line j below)).1))
      (same_numbers q.pairs p.pairs (a.pairs_all ∙ sym (sizes.pairs_all ∙ equations_of m [])) (λ i l. (says i (below_same i _ _ l a.pairs_all)).1))
      (same_numbers q.orders p.orders (a.orders_all ∙ sym (sizes.orders_all ∙ equations_of m [])) (λ i l. (says i (below_same i _ _ l a.orders_all)).2))

  not_misshapen : (k : ℕ) → IsMisshapen (unknown_names m.vars) (length m.equations) (report_lines r) k → ⊥
  not_misshapen k shape = elim (cases_lt k (length m.equations)) [
    | inl below ↦ shape.equation below _ _ _ (equation_at k below)
    | inr past ↦ (
        let j = k - length m.equations in
        let same : k ≡ length m.equations + (k - length m.equations) = omega (arith, past) in
        shape.unknown (k - length m.equations) same _ (unknown_at_line (k - length m.equations) (omega (arith, past, shape.within))))
  ]

  tight_sigma : (i : ℕ) → i < equations (incidence_of m) → by_number p.d (get_or p.pairs i 0) ≡ get_or p.c i 0 + get_or p.orders i 0
  tight_sigma i below =
      let entry = tight_entry (incidence_of m) (by_place p.c) (by_number p.d) i (get_or p.pairs i 0) ((tight m sound p r right few).allowed i below (right.all i below)) in
      let order = right.orders i (rw (equations_of m []) at below) in
      let same : entry.0 ≡ order.0 = one_entry m i order.0 entry.0 order.1 entry.1 (order.2 ∙ sym entry.2) in
      let here : by_number p.d (get_or p.pairs i 0) ≡ get_or p.c i 0 + order_at (incidence_of m) i order.0 = rw same at entry.3 in
      omega (arith, here, order.3)

  can : CanCoverAll (incidence_of m)
  unfolding Mentions
  can =
      let t = tight m sound p r right few in
      (by_place p.pairs, record { allowed = λ i l some. let entry = tight_entry (incidence_of m) (by_place p.c) (by_number p.d) i (get_or p.pairs i 0) (t.allowed i l some) in (entry.0, entry.1, entry.2); apart = t.apart }, right.all)

  chained : (i : ℕ) → i < equations (incidence_of m) → IsChained (incidence_of m) p i
  chained i below =
      let has = right.report.has in
      let reasons : AreReasonsOf (incidence_of m) (by_place p.c) (by_number p.d) (by_place p.pairs) r.reasons.items = rw (has.c, has.d, has.pairs) at right.report.parts.reasons in
      let ends = reasons.ends i below in
      (ends.0, chain_of (incidence_of m) p reasons.by reasons.reason ends.0 i below ends.1)

  pub square_complete : (v : Verdict) → IsVerdict m (report_lines r) v → v ≡ Yes
  square_complete v (verdict.unreadable {n} f) = absurd (not_unreadable (report_lines r) n (readable m names sound p r right few) f)
  square_complete v (verdict.head line other {n} readable d within a b) = absurd (not_head (report_lines r) (head_text m) n line other (head_at 0 (omega arith)) (head_at 1 (omega arith)) d within)
  square_complete v (verdict.deficit_differs s line other b d differ f h) = absurd (no_cover m s d can)
  square_complete v (verdict.deficit s b d is) = refl
  square_complete v (verdict.shape q k b c before here f h i) = absurd (not_misshapen k here)
  square_complete v (verdict.order q i read before below a b c sigma apart) =
      let same = read_once q read.printed in
      let pair : get_or q.pairs i 0 ≡ get_or p.pairs i 0 = ap (λ (x : Printed). get_or x.pairs i 0) same in
      let order : get_or q.orders i 0 ≡ get_or p.orders i 0 = ap (λ (x : Printed). get_or x.orders i 0) same in
      let there = rw (b, pair) at sigma in
      absurd (apart (sigma_once m i (get_or p.pairs i 0) (get_or p.orders i 0) _ (right.orders i below) there ∙ ap Some (sym (c ∙ order))))
  square_complete v (verdict.low q i k read have fit below within here a b c f h) =
      let same = read_once q read.printed in
      let inside : i < equations (incidence_of m) = rw (equations_of m []) below in
      let low = rw same at here in
      let entry = right.least.admissible.fits.entry i k inside within in
      absurd (low_apart _ _ _ low entry)
  square_complete v (verdict.loose q i read have fit meet below here a b c f h) =
      let same = read_once q read.printed in
      let inside : i < equations (incidence_of m) = rw (equations_of m []) below in
      let loose = rw same at here in
      let sum = tight_sigma i inside in
      absurd (sum_apart _ _ _ loose sum)
  square_complete v (verdict.twice q i k read have fit meet apart before below one a b c) =
      let same = read_once q read.printed in
      let pairs : get_or p.pairs i 0 ≡ get_or p.pairs k 0 = rw same at one in
      let inside : k < equations (incidence_of m) = rw (equations_of m []) below in
      let first : i < equations (incidence_of m) = omega (arith, before, inside) in
      let equal : i ≡ k = (tight m sound p r right few).apart i k first inside (right.all i first) pairs in
      absurd (is_apart _ _ before equal)
  square_complete v (verdict.undetermined_differs q s line other good u differ a b) = absurd (is_apart _ _ u.fewer right.report.square)
  square_complete v (verdict.undetermined q s good u is) = absurd (is_apart _ _ u.fewer right.report.square)
  square_complete v (verdict.not_least q i good even chains below none a b c less) =
      let same = read_once q good.read.printed in
      let inside : i < equations (incidence_of m) = rw (equations_of m []) below in
      let unchained = rw same at none in
      absurd (unchained (chained i inside))
  square_complete v (verdict.square_differs q s line other {n} good chains u differ a b) =
      let same = read_once q good.read.printed in
      let other_square = rw same at u in
      absurd (not_differ (report_lines r) (report_lines s) n line other (same_text m p r s right.report other_square) differ)
  square_complete v (verdict.square q s good chains u is) = refl
