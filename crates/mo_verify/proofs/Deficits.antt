-- The text of a right report on a model in which some equation can't be assigned gets the verdict Yes.
use Rattle.std.proofs.Common.{◌≡◌, ℕ, ◌<◌, ◌≤◌, List, [], ◌∷◌, ◌++◌, map, length, get_or, codes, Some, refl, sym, ap, ◌∙◌, arith, append_assoc}
use Rattle.mo_flat.specs.declared.model.FlatModel.{FlatModel}
use Rattle.mo_graph.proofs.Members.{at_contains}
use Rattle.mo_incidence.specs.declared.findings.Deficit.{Deficit}
use Rattle.mo_incidence.specs.Signature.{IsSound}
use Rattle.mo_incidence.specs.Assignment.{IsDeficit}
use Rattle.mo_incidence.specs.Model.{incidence_of}
use Rattle.mo_report.specs.declared.report.Report.{Report}
use Rattle.mo_report.specs.Lines.{head_lines, in_line, name_line, deficit_head, deficit_lines, report_lines}
use Rattle.mo_report.specs.Size.{unknown_names}
use Rattle.mo_report.proofs.OneReport.{one_report}
use Rattle.mo_report.proofs.SameLines.{same_lines}
use Rattle.mo_report_lines.specs.Lines.{lines_of, AreReadable}
use Rattle.mo_verify.specs.declared.verdict.Verdict.{Verdict}
use Rattle.mo_verify.specs.declared.verdict.Verdict.TheVariants.{Yes}
use Rattle.mo_verify.specs.Verdict as verdict
use Rattle.mo_verify.specs.Verdict.{head_text, IsDeficitReport, IsRightText, HasNames, IsVerdict}
use Rattle.mo_verify.proofs.Judging.{unknowns_of}
use Rattle.mo_verify.proofs.Lining.{Each, together, together_both, lines_together, mapped_together, each_both, each_one, each_mapped, at_left}
use Rattle.mo_verify.proofs.Printing.{IsGood, good_in, good_mention, good_deficit}
use Rattle.mo_verify.proofs.Written.{known_name, head_two, head_together}
use Rattle.mo_verify.proofs.Bounding.{part_left, part_right, mapped_many, ended}
use Rattle.mo_verify.proofs.Goods.{good_head, readable}
use Rattle.mo_verify.proofs.Completing.{not_unreadable, not_head, not_differ, deficit_found, no_cover, square_complete}

-- the lines behind the first two
abbrev deficit_list : List (List ℕ) → Deficit → List (List ℕ)
deficit_list us deficit = deficit_head deficit ∷ (map in_line deficit.equations.items ++ map (name_line (codes "mentions ") us) deficit.unknowns.items)

deficit_together : (us : List (List ℕ)) (deficit : Deficit) → deficit_lines us deficit ≡ together (deficit_list us deficit)
deficit_together us deficit =
    let h = deficit_head deficit in
    let a = together (map in_line deficit.equations.items) in
    let b = together (map (name_line (codes "mentions ") us) deficit.unknowns.items) in
    let parts : deficit_lines us deficit ≡ (h ++ a) ++ b = rw (mapped_together in_line deficit.equations.items, mapped_together (name_line (codes "mentions ") us) deficit.unknowns.items) refl in
    parts ∙ (append_assoc h a b ∙ ap (λ (t : List ℕ). h ++ t) (sym (together_both (map in_line deficit.equations.items) (map (name_line (codes "mentions ") us) deficit.unknowns.items))))

module _ (m : FlatModel) (names : HasNames m) (sound : IsSound (incidence_of m)) (r : Report) (d : IsDeficitReport m r) (few : length (report_lines r) ≤ 67108864) (deficit : Deficit) (k : ℕ) (given : r.deficit ≡ Some deficit)
    (is_deficit : IsDeficit (incidence_of m) deficit.equations.items deficit.unknowns.items k) where
  all_text : report_lines r ≡ together (head_two m ++ deficit_list (unknown_names m.vars) deficit)
  all_text =
      let us = unknown_names m.vars in
      let parts : report_lines r ≡ head_lines r ++ deficit_lines r.unknowns deficit = rw given refl in
      let head : head_lines r ≡ head_text m = rw (d.right.name, d.right.unknowns, d.right.equations) refl in
      let rest : deficit_lines r.unknowns deficit ≡ together (deficit_list us deficit) = rw d.right.unknowns (deficit_together us deficit) in
      parts ∙ (ap (λ (t : List ℕ). head_lines r ++ t) rest ∙ (ap (λ (t : List ℕ). t ++ together (deficit_list us deficit)) (head ∙ head_together m) ∙ sym (together_both (head_two m) (deficit_list us deficit))))

  few_equations : length deficit.equations.items ≤ 67108864
  few_equations =
      let us = unknown_names m.vars in
      let a = map in_line deficit.equations.items in
      let b = map (name_line (codes "mentions ") us) deficit.unknowns.items in
      let many = mapped_many in_line deficit.equations.items (λ x. ended _) in
      omega (arith, many, part_left a b, part_right (deficit_head deficit ∷ []) (a ++ b), part_right (head_two m) (deficit_list us deficit), ap length all_text, few)

  few_unknowns : length deficit.unknowns.items ≤ 67108864
  few_unknowns =
      let us = unknown_names m.vars in
      let a = map in_line deficit.equations.items in
      let b = map (name_line (codes "mentions ") us) deficit.unknowns.items in
      let many = mapped_many (name_line (codes "mentions ") us) deficit.unknowns.items (λ x. ended _) in
      omega (arith, many, part_right a b, part_right (deficit_head deficit ∷ []) (a ++ b), part_right (head_two m) (deficit_list us deficit), ap length all_text, few)

  good_list : Each IsGood (head_two m ++ deficit_list (unknown_names m.vars) deficit)
  good_list =
      let us = unknown_names m.vars in
      let a = map in_line deficit.equations.items in
      let b = map (name_line (codes "mentions ") us) deficit.unknowns.items in
      let listed : Each IsGood (map in_line deficit.equations.items) = each_mapped IsGood in_line deficit.equations.items 0
      (λ i l. let known = is_deficit.equations.only (get_or deficit.equations.items i 0) (at_contains deficit.equations.items (get_or deficit.equations.items i 0) i l refl) in good_in (get_or deficit.equations.items i 0) (omega (arith, known.1, sound.few_equations))) in
      let mentioned : Each IsGood (map (name_line (codes "mentions ") us) deficit.unknowns.items) = each_mapped IsGood (name_line (codes "mentions ") us) deficit.unknowns.items 0
      (λ i l.
      let known = is_deficit.unknowns.only (get_or deficit.unknowns.items i 0) (at_contains deficit.unknowns.items (get_or deficit.unknowns.items i 0) i l refl) in
      good_mention us (get_or deficit.unknowns.items i 0) (known_name m names (get_or deficit.unknowns.items i 0) known.0 (omega (arith, known.1, unknowns_of m [])))) in
      each_both IsGood (head_two m) (deficit_list us deficit) (good_head m names sound)
      (each_both IsGood (deficit_head deficit ∷ []) (a ++ b) (each_one IsGood (deficit_head deficit) (good_deficit deficit (omega (arith, few_equations)) (omega (arith, few_unknowns)))) (each_both IsGood a b listed mentioned))

  all_lines : lines_of (report_lines r) ≡ head_two m ++ deficit_list (unknown_names m.vars) deficit
  all_lines = ap lines_of all_text ∙ lines_together (head_two m ++ deficit_list (unknown_names m.vars) deficit) (λ i l. let h = good_list i l in record { text = h.text; is = h.is; plain = h.plain })

  pub all_readable : AreReadable (report_lines r)
  all_readable n below =
      let inside : n < length (head_two m ++ deficit_list (unknown_names m.vars) deficit) = rw all_lines at below in
      let h = good_list n inside in
      rw all_lines (record { text = h.text; is = h.is; is_line = h.is_line })

  two_lines : length (head_two m) ≡ 2
  unfolding head_two
  two_lines = refl

  head_at : (n : ℕ) → n < 2 → get_or (lines_of (report_lines r)) n [] ≡ get_or (lines_of (head_text m)) n []
  head_at n below =
      let left : get_or (lines_of (report_lines r)) n [] ≡ get_or (head_two m) n [] =
      ap (λ (ls : List (List ℕ)). get_or ls n []) all_lines ∙ at_left (head_two m) (deficit_list (unknown_names m.vars) deficit) n (omega (arith, below, two_lines)) in
      let head : lines_of (head_text m) ≡ head_two m = ap lines_of (head_together m) ∙ lines_together (head_two m) (λ i l. let h = good_head m names sound i l in record { text = h.text; is = h.is; plain = h.plain }) in
      left ∙ ap (λ (ls : List (List ℕ)). get_or ls n []) (sym head)

  deficit_complete : (v : Verdict) → IsVerdict m (report_lines r) v → v ≡ Yes
  deficit_complete v (verdict.unreadable {n} f) = absurd (not_unreadable (report_lines r) n all_readable f)
  deficit_complete v (verdict.head line other {n} readable e within a b) = absurd (not_head (report_lines r) (head_text m) n line other (head_at 0 (omega arith)) (head_at 1 (omega arith)) e within)
  deficit_complete v (verdict.deficit_differs s line other {n} b e differ f h) = absurd (not_differ (report_lines r) (report_lines s) n line other (same_lines r s (one_report m r s d.right e.right)) differ)
  deficit_complete v (verdict.deficit s b e is) = refl
  deficit_complete v (verdict.shape p n b can before here f h i) = absurd (no_cover m r d can)
  deficit_complete v (verdict.order p i read before below a b c sigma apart) = absurd (no_cover m r d read.can)
  deficit_complete v (verdict.low p i n read have fit below within here a b c f h) = absurd (no_cover m r d read.can)
  deficit_complete v (verdict.loose p i read have fit meet below here a b c f h) = absurd (no_cover m r d read.can)
  deficit_complete v (verdict.twice p i n read have fit meet apart before below one a b c) = absurd (no_cover m r d read.can)
  deficit_complete v (verdict.undetermined_differs p s line other right u differ a b) = absurd (no_cover m r d right.read.can)
  deficit_complete v (verdict.undetermined p s right u is) = absurd (no_cover m r d right.read.can)
  deficit_complete v (verdict.not_least p i right square chains below none a b c less) = absurd (no_cover m r d right.read.can)
  deficit_complete v (verdict.square_differs p s line other right chains u differ a b) = absurd (no_cover m r d right.read.can)
  deficit_complete v (verdict.square p s right chains u is) = refl

-- ---- both
pub complete : (m : FlatModel) → HasNames m → IsSound (incidence_of m) → (report : List ℕ) → length report ≤ 67108864 → IsRightText m report → (v : Verdict) → IsVerdict m report v → v ≡ Yes
complete m names sound report few (verdict.singular r d is) v h =
    let found = deficit_found m r d in
    deficit_complete m names sound r d (rw is at few) found.0 found.1 found.2 found.4 v (rw is at h)
complete m names sound report few (verdict.least p r right is) v h = square_complete m names sound p r right (rw is at few) v (rw is at h)

pub right_readable : (m : FlatModel) (report : List ℕ) → IsSound (incidence_of m) → HasNames m → length report ≤ 67108864 → IsRightText m report → AreReadable report
right_readable m report sound names few (verdict.singular r d is) = let found = deficit_found m r d in rw is (all_readable m names sound r d (rw is at few) found.0 found.1 found.2 found.4)
right_readable m report sound names few (verdict.least p r right is) = rw is (readable m names sound p r right (rw is at few))
