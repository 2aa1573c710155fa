-- All lines of a right report are good ones.
use Rattle.std.proofs.Common.{◌≡◌, ◌≢◌, ℕ, zero, suc, ◌+◌, ◌-◌, ◌<◌, ◌≤◌, inl, inr, Bool, true, false, nat_lt, List, [], ◌∷◌, ◌++◌, map, length, get_or, codes, decimal, refl, ap, ◌∙◌, arith}
use Rattle.std.proofs.lemmas.Bool.Decides.{eqb_tells}
use Rattle.std.proofs.lemmas.List.{map-append}
use Rattle.mo_flat.specs.declared.model.FlatModel.{FlatModel}
use Rattle.mo_graph.specs.Order.{none}
use Rattle.mo_graph.proofs.Members.{at_contains}
use Rattle.mo_incidence.specs.declared.findings.Reason.{Reason}
use Rattle.mo_incidence.specs.Signature.{Signature, equations, IsSound}
use Rattle.mo_incidence.specs.Offsets.{by_place, by_number}
use Rattle.mo_incidence.specs.Reasons.{IsReason, listed_reasons}
use Rattle.mo_incidence.specs.Blocks.{AreBlocksInOrder, numbers_in}
use Rattle.mo_incidence.specs.Dummies.{differentiated, dummy, dummies_to, greatest, dummies_of, is_dummy, states_below, states_to}
use Rattle.mo_incidence.specs.Model.{incidence_of}
use Rattle.mo_report.specs.declared.report.Report.{Report}
use Rattle.mo_report.specs.Lines.{unknown_name, reason_line, block_line, dummy_line, state_line, report_lines}
use Rattle.mo_report.specs.Size.{unknown_names}
use Rattle.mo_report_lines.specs.Grammar.{IsEquationLine, IsUnknownLine}
use Rattle.mo_report_lines.specs.Lines.{lines_of, AreReadable}
use Rattle.mo_verify.specs.Printed.{Printed}
use Rattle.mo_verify.specs.Verdict.{IsRightWith, HasNames}
use Rattle.mo_verify.proofs.Judging.{equations_of, unknowns_of}
use Rattle.mo_verify.proofs.Lining.{Each, lines_together, each_both, each_one, each_listed, each_mapped, listed}
use Rattle.mo_verify.proofs.Printing.{IsGood, good_name, good_counts, good_equation, good_unknown, good_reason, good_block, good_dummy, good_state, good_index, good_freedom}
use Rattle.mo_verify.proofs.Written.{known_name, head_two, equation_text, unknown_text, body, square_list, square_text}
use Rattle.mo_verify.proofs.Bounding.{chosen_is, states_are, c_within, pair_known, d_within, order_within, stage_within, index_small, freedom_small}

-- ---- of lists that are made step by step
each_kept : {A : Type 0} (P : List ℕ → Type 0) (f : A → List ℕ) (h : ℕ → A) (c : ℕ → ℕ) (s n : ℕ) → ((i : ℕ) → i < n → P (f (h i))) → Each P (map f (map h (differentiated c s n)))
each_kept P f h c s zero all = λ i below. absurd (omega arith)
each_kept P f h c s (suc n) all = go (nat_lt (c n) s) refl (each_kept P f h c s n (λ i l. all i (omega arith)))
  where
    go : (b : Bool) → nat_lt (c n) s ≡ b → Each P (map f (map h (differentiated c s n))) → Each P (map f (map h (differentiated c s (suc n))))
    go true e later = rw e later
    go false e later =
        rw (e, map-append h (differentiated c s n) (n ∷ []), map-append f (map h (differentiated c s n)) (h n ∷ []))
        (each_both P (map f (map h (differentiated c s n))) (f (h n) ∷ []) later (each_one P (f (h n)) (all n (omega arith))))

each_dummy : (P : List ℕ → Type 0) (f : ℕ × ℕ × ℕ × ℕ → List ℕ) (c d t : ℕ → ℕ) (m stage : ℕ) → ((s i : ℕ) → s ≤ stage → i < m → P (f (dummy d t s i))) → Each P (map f (dummies_to c d t m stage))
each_dummy P f c d t m zero all = λ i below. absurd (omega arith)
each_dummy P f c d t m (suc s) all =
    let new = map (dummy d t (suc s)) (differentiated c (suc s) m) in
    rw (map-append f (dummies_to c d t m s) (map (dummy d t (suc s)) (differentiated c (suc s) m)))
    (each_both P (map f (dummies_to c d t m s)) (map f new) (each_dummy P f c d t m s (λ x i l h. all x i (omega arith) h)) (each_kept P f (dummy d t (suc s)) c (suc s) m (λ i l. all (suc s) i (omega arith) l)))

each_below : (P : List ℕ → Type 0) (f : ℕ × ℕ → List ℕ) (ds : List (ℕ × ℕ × ℕ × ℕ)) (j k : ℕ) → ((x : ℕ) → P (f (j, x))) → Each P (map f (states_below ds j k))
each_below P f ds j zero all = λ i below. absurd (omega arith)
each_below P f ds j (suc k) all = go (is_dummy ds j (suc k)) refl (each_below P f ds j k all)
  where
    go : (b : Bool) → is_dummy ds j (suc k) ≡ b → Each P (map f (states_below ds j k)) → Each P (map f (states_below ds j (suc k)))
    go true e later = rw e later
    go false e later = rw (e, map-append f (states_below ds j k) ((j, k) ∷ [])) (each_both P (map f (states_below ds j k)) (f (j, k) ∷ []) later (each_one P (f (j, k)) (all k)))

each_state : (P : List ℕ → Type 0) (f : ℕ × ℕ → List ℕ) (ds : List (ℕ × ℕ × ℕ × ℕ)) (d : ℕ → ℕ) (n : ℕ) → ((j x : ℕ) → 0 < j → j ≤ n → P (f (j, x))) → Each P (map f (states_to ds d n))
each_state P f ds d zero all = λ i below. absurd (omega arith)
each_state P f ds d (suc n) all =
    rw (map-append f (states_to ds d n) (states_below ds (suc n) (d (suc n))))
    (each_both P (map f (states_to ds d n)) (map f (states_below ds (suc n) (d (suc n)))) (each_state P f ds d n (λ j x some l. all j x some (omega arith))) (each_below P f ds (suc n) (d (suc n)) (λ x. all (suc n) x (omega arith) (omega arith))))

module _ (g : Signature) (c d t by : ℕ → ℕ) (reason : (i : ℕ) → i < equations g → c i ≢ 0 → IsReason g c d t i (by i)) (few : equations g ≤ 50000) where
  each_reason : (n : ℕ) → n ≤ equations g → Each IsGood (map reason_line (listed_reasons c by n))
  each_reason zero l = λ i below. absurd (omega arith)
  each_reason (suc n) l =
      let rest = each_reason n (omega arith) in
      elim (eqb_tells (c n) 0) [
        | inl e ↦ rw e.0 rest
        | inr e ↦ (
            let known = (reason n (omega arith) e.1).candidate.known in
            let last : Reason = record { equation = suc n; from = suc (by n) } in
            rw (e.0, map-append reason_line (listed_reasons c by n) (last ∷ []))
            (each_both IsGood (map reason_line (listed_reasons c by n)) (reason_line last ∷ []) rest
            (each_one IsGood (reason_line last) (good_reason last (omega (arith, few, l)) (omega (arith, few, known))))))
      ]

each_block : (g : Signature) (c d t : ℕ → ℕ) (blocks : List (List ℕ)) → equations g ≤ 50000 → AreBlocksInOrder g c d t blocks → Each IsGood (map block_line blocks)
each_block g c d t blocks few order = each_mapped IsGood block_line blocks [] (λ b below.
    let block = (order.next b below).ready.is_block in
    let back : suc block.0 - 1 ≡ block.0 = omega arith in
    let there = block.2.all (suc block.0) (omega arith) (omega (arith, block.1)) (rw back (none, none)) in
    good_block (get_or blocks b []) (omega (arith, there.1)) (λ k l. let known = block.2.only (get_or (get_or blocks b []) k 0) (at_contains (get_or blocks b []) (get_or (get_or blocks b []) k 0) k l refl) in omega (arith, known.1, few)))

pub good_head : (m : FlatModel) → HasNames m → IsSound (incidence_of m) → Each IsGood (head_two m)
unfolding head_two
good_head m names sound zero below = good_name m.name names.name
good_head m names sound (suc zero) below = good_counts (length m.equations) (length (unknown_names m.vars)) (omega (arith, equations_of m [], sound.few_equations)) (omega (arith, unknowns_of m [], sound.few_unknowns))
good_head m names sound (suc (suc k)) below = absurd (omega (arith, below))

-- ---- of a right report on a square model
module _ (m : FlatModel) (names : HasNames m) (sound : IsSound (incidence_of m)) (p : Printed) (r : Report) (right : IsRightWith m p r) (few : length (report_lines r) ≤ 67108864) where
  pub equation_said : (i : ℕ) → i < length m.equations
      → IsEquationLine (equation_text (unknown_names m.vars) p i) (i + 1) (get_or p.c i 0) (unknown_name (unknown_names m.vars) (get_or p.pairs i 0)) (get_or p.orders i 0)
  equation_said i below =
      let inside : i < equations (incidence_of m) = rw (equations_of m []) below in
      let c = c_within m sound p r right few i inside in
      let known = pair_known m sound p r right few i inside in
      let order = order_within m sound p r right few i inside in
      record {
        is = refl;
        number_fits = omega (arith, inside, sound.few_equations);
        offset_fits = omega (arith, c);
        is_name = known_name m names (get_or p.pairs i 0) known.0 (omega (arith, known.1, unknowns_of m []));
        order_fits = omega (arith, order);
      }

  pub unknown_said : (j : ℕ) → j < length (unknown_names m.vars) → IsUnknownLine (unknown_text (unknown_names m.vars) p j) (unknown_name (unknown_names m.vars) (j + 1)) (get_or p.d j 0)
  unknown_said j below =
      let back : j + 1 - 1 ≡ j = omega arith in
      let d : get_or p.d j 0 ≤ 67174400 = rw back at (d_within m sound p r right few (j + 1) (omega arith) (omega (arith, below, unknowns_of m []))) in
      record { is = refl; is_name = known_name m names (j + 1) (omega arith) (omega (arith, below)); fits = omega (arith, d) }

  good_square : Each IsGood (square_list r)
  unfolding square_list
  good_square =
      let a = map reason_line r.reasons.items in
      let b = map block_line (numbers_in r.blocks.0.items) in
      let x = map (dummy_line r.unknowns) r.dummies.chosen.items in
      let s = map (state_line r.unknowns) r.dummies.states.items in
      let e = ((codes "index " ++ decimal r.index) ++ 10 ∷ []) ∷ ((codes "freedom " ++ decimal r.freedom) ++ 10 ∷ []) ∷ [] in
      let parts = right.report.parts in
      let us = unknown_names m.vars in
      let reasons : Each IsGood (map reason_line r.reasons.items) = rw parts.reasons.listed (each_reason (incidence_of m) _ _ _ parts.reasons.by parts.reasons.reason sound.few_equations (equations (incidence_of m)) (omega arith)) in
      let blocks : Each IsGood (map block_line (numbers_in r.blocks.0.items)) = each_block (incidence_of m) _ _ _ (numbers_in r.blocks.0.items) sound.few_equations parts.blocks in
      let chosen : Each IsGood (map (dummy_line r.unknowns) r.dummies.chosen.items) =
      rw (right.report.has.unknowns, chosen_is m sound p r right few)
      (each_dummy IsGood (dummy_line us) (by_place p.c) (by_number p.d) (by_place p.pairs) (equations (incidence_of m)) (greatest (by_place p.c) (equations (incidence_of m)))
      (λ stage i l below.
      let known = pair_known m sound p r right few i below in
      let most = stage_within m sound p r right few in
      good_dummy us (dummy (by_number p.d) (by_place p.pairs) stage i) (known_name m names (get_or p.pairs i 0) known.0 (omega (arith, known.1, unknowns_of m []))) (omega (arith, l, most)) (omega (arith, below, sound.few_equations)))) in
      let states : Each IsGood (map (state_line r.unknowns) r.dummies.states.items) =
      rw (right.report.has.unknowns, states_are m sound p r right few)
      (each_state IsGood (state_line us) (dummies_of (by_place p.c) (by_number p.d) (by_place p.pairs) (equations (incidence_of m))) (by_number p.d) (incidence_of m).unknowns
      (λ j k some l. good_state us (j, k) (known_name m names j some (omega (arith, l, unknowns_of m []))))) in
      let index = good_index r.index (omega (arith, index_small m sound p r right few)) in
      let freedom = good_freedom r.freedom (omega (arith, freedom_small m sound p r right few)) in
      each_both IsGood a (b ++ (x ++ (s ++ e))) reasons
      (each_both IsGood b (x ++ (s ++ e)) blocks
      (each_both IsGood x (s ++ e) chosen
      (each_both IsGood s e states
      (each_both IsGood (((codes "index " ++ decimal r.index) ++ 10 ∷ []) ∷ []) (((codes "freedom " ++ decimal r.freedom) ++ 10 ∷ []) ∷ []) (each_one IsGood _ index) (each_one IsGood _ freedom)))))

  good_body : Each IsGood (body m p (square_list r))
  good_body =
      let us = unknown_names m.vars in
      let a = listed (λ i. equation_text us p i ++ 10 ∷ []) (length m.equations) in
      let b = listed (λ j. unknown_text us p j ++ 10 ∷ []) (length us) in
      each_both IsGood a (b ++ square_list r) (each_listed IsGood (λ i. equation_text us p i ++ 10 ∷ []) (length m.equations) (λ i l. good_equation (equation_text us p i) _ _ _ _ (equation_said i l)))
      (each_both IsGood b (square_list r) (each_listed IsGood (λ j. unknown_text us p j ++ 10 ∷ []) (length us) (λ j l. good_unknown (unknown_text us p j) _ _ (unknown_said j l))) good_square)

  pub good_all : Each IsGood (head_two m ++ body m p (square_list r))
  good_all = each_both IsGood (head_two m) (body m p (square_list r)) (good_head m names sound) good_body

  pub lines_are : lines_of (report_lines r) ≡ head_two m ++ body m p (square_list r)
  lines_are = ap lines_of (square_text m p r right.report) ∙ lines_together (head_two m ++ body m p (square_list r)) (λ i below. let h = good_all i below in record { text = h.text; is = h.is; plain = h.plain })

  pub readable : AreReadable (report_lines r)
  readable k below =
      let inside : k < length (head_two m ++ body m p (square_list r)) = rw lines_are at below in
      let h = good_all k inside in
      rw lines_are (record { text = h.text; is = h.is; is_line = h.is_line })
