-- What is told of one input is one thing: one status and one text.
use Rattle.std.proofs.Common.{◌≡◌, ℕ, Bool, true, false, if◌then◌else◌, List, [], ◌∷◌, Option, Some, None, is_some, length, unwrap_or, nat_le, refl, ap, sym, ◌∙◌, subst}
use Rattle.std.specs.Prelude.{flat_map}
use Rattle.std.proofs.lemmas.List.{length-map}
use Rattle.mo_syntax.specs.declared.place.Broken.{Broken}
use Rattle.mo_syntax.specs.declared.place.Place.{Place}
use Rattle.mo_flat.specs.declared.model.FlatModel.{FlatModel}
use Rattle.mo_symdiff.specs.Reduced.{IsWithin, first_given, reduced_lines, reduced_text, too_large}
use Rattle.mo_symdiff.specs.Refusal.{of_given}
use Rattle.mo_incidence.specs.declared.findings.Deficit.{Deficit}
use Rattle.mo_incidence.specs.declared.findings.Offsets.{Offsets}
use Rattle.mo_report.specs.declared.report.Report.{Report}
use Rattle.mo_report.specs.Size.{report_limit}
use Rattle.mo_report.specs.Same.{SaySame, deficit_lists, offset_lists}
use Rattle.mo_report.proofs.OneReport.{one_report}
use Rattle.mo_report.proofs.SameLines.{same_lines, offsets_are, offsets_none, none_offsets, both_none, none_both}
use Rattle.mo_json.proofs.SameData.{same_line}
use Rattle.mo_incidence.specs.Model.{incidence_of}
use Rattle.mo_incidence.specs.Offsets.{by_number, c_of, d_of}
use Rattle.mo_select.specs.declared.selection.Selection.{Selection}
use Rattle.mo_select.specs.Levels.{levels_of}
use Rattle.mo_select.proofs.LowLevels.{levels_low}
use Rattle.mo_select.proofs.SameText.{same_text}
use Rattle.mo_select.proofs.Unique.{one_selection_holds}
use Rattle.mo_alias.specs.Text.{aliases_text}
use Rattle.mo_alias.proofs.Uniqueness.{one_finding_holds}
use Rattle.mo_front.specs.declared.status.Status.{Status}
use Rattle.mo_front.specs.declared.table.Part.{Part}
use Rattle.mo_front.specs.declared.table.Part.TheVariants as part
use Rattle.mo_front.specs.declared.table.Phase.{Phase}
use Rattle.mo_front.specs.declared.table.Phase.TheVariants as phase
use Rattle.mo_front.specs.declared.status.Status.TheVariants.{Done, Singular}
use Rattle.mo_front.specs.declared.words.Emit.{Emit}
use Rattle.mo_front.specs.declared.words.Emit.TheVariants as emit
use Rattle.mo_front.specs.Emitted.{PhaseBreaks, PhasesBreak, all_passed, this_one, later, least_status, ReducedBreaks, no_offsets, given, large, nothing, Writes, flat_text, without_aliases, reduced_model, analysed, Refuses, no_incidence, no_text as no_part, asked_by, derivatives_size, report_refusal, reduced_part, reduced_status, part_text, status_of, is_singular, IsSelected, IsTextOfAliases, no_selection, selection, Selects}
use Rattle.mo_report.specs.Right.{IsRightReport}
use Rattle.mo_front.specs.States.{IsSelectionOf, selected_lines}
use Rattle.mo_front.specs.Least.{IsLeastOf}
use Rattle.mo_front.proofs.OneLeast.{one_least, right_least}
use Rattle.mo_front.specs.Ladder.{IsSummary, SumsUpGiven, TellsLadder, ladder_names, ladder_path, ladder_texts, summary_line, summed, refused as refused_ladder}
use Rattle.mo_front.specs.Told.{Outcome, flat, broken, WritesGiven, Breaks, no_model, no_text, TellsOf, TextsGive, line_of_broken, written, refused}

some_is : {A : Type 0} (a b : A) → Some a ≡ Some b → a ≡ b
some_is a b e = cc

some_none : {A : Type 0} (a : A) → Some a ≡ None → ⊥
some_none a e = cc

-- ---- the phases

module _ (m : FlatModel) where
  same_reduced : (o p : Option Offsets) → offset_lists o ≡ offset_lists p → reduced_part m o ≡ reduced_part m p
  same_reduced None None e = refl
  same_reduced None (Some p) e = absurd (none_offsets p e)
  same_reduced (Some o) None e = absurd (offsets_none o e)
  same_reduced (Some o) (Some p) e = ap (λ (c : List ℕ). Some (reduced_text m (reduced_lines m.vars m.equations c))) (offsets_are o p e).0

  one_reduced : (o p : Offsets) (x y : Option Broken) → o.c.items ≡ p.c.items → ReducedBreaks m (Some o) x → ReducedBreaks m (Some p) y → x ≡ y
  one_reduced o p x y same (given place at) (given other at') =
      ap (λ (q : Place). Some (of_given q)) (some_is place other (sym at ∙ (ap (first_given m.vars m.equations) same ∙ at')))
  one_reduced o p x y same (given place at) (large none past) = absurd (some_none place (sym at ∙ (ap (first_given m.vars m.equations) same ∙ none)))
  one_reduced o p x y same (given place at) (nothing none within) = absurd (some_none place (sym at ∙ (ap (first_given m.vars m.equations) same ∙ none)))
  one_reduced o p x y same (large none past) (given other at') = absurd (some_none other (sym at' ∙ (ap (first_given m.vars m.equations) (sym same) ∙ none)))
  one_reduced o p x y same (large none past) (large none' past') = refl
  one_reduced o p x y same (large none past) (nothing none' within) = absurd (past (subst (λ (c : List ℕ). IsWithin m (reduced_lines m.vars m.equations c)) (sym same) within))
  one_reduced o p x y same (nothing none within) (given other at') = absurd (some_none other (sym at' ∙ (ap (first_given m.vars m.equations) (sym same) ∙ none)))
  one_reduced o p x y same (nothing none within) (large none' past) = absurd (past (subst (λ (c : List ℕ). IsWithin m (reduced_lines m.vars m.equations c)) same within))
  one_reduced o p x y same (nothing none within) (nothing none' within') = refl

  one_reduction : (o p : Option Offsets) (x y : Option Broken) → offset_lists o ≡ offset_lists p → ReducedBreaks m o x → ReducedBreaks m p y → x ≡ y
  one_reduction None None x y e no_offsets no_offsets = refl
  one_reduction None (Some p) x y e a b = absurd (none_offsets p e)
  one_reduction (Some o) None x y e a b = absurd (offsets_none o e)
  one_reduction (Some o) (Some p) x y e a b = one_reduced o p x y (offsets_are o p e).0 a b

  same_size : (o p : Option Offsets) → offset_lists o ≡ offset_lists p → derivatives_size m o ≡ derivatives_size m p
  same_size None None e = refl
  same_size None (Some p) e = absurd (none_offsets p e)
  same_size (Some o) None e = absurd (offsets_none o e)
  same_size (Some o) (Some p) e = rw ((offsets_are o p e).0, (offsets_are o p e).1) refl

  same_refusal : (o p : Option Offsets) → offset_lists o ≡ offset_lists p → report_refusal m o ≡ report_refusal m p
  same_refusal o p e = ap (λ (n : ℕ). if nat_le n report_limit then None else Some (too_large m)) (same_size o p e)

  module _ (o p : Option Offsets) (same : offset_lists o ≡ offset_lists p) where
    one_phase : (asked : Phase) (x y : Option Broken) → PhaseBreaks m o asked x → PhaseBreaks m p asked y → x ≡ y
    one_phase phase.Size x y a b = sym a ∙ (same_refusal o p same ∙ b)
    one_phase phase.Reduction x y a b = one_reduction o p x y same a b

    pub one_break : (phases : List Phase) (x y : Option Broken) → PhasesBreak m o phases x → PhasesBreak m p phases y → x ≡ y
    one_break [] x y all_passed all_passed = refl
    one_break (asked ∷ phases) x y (this_one {b = b} a) (this_one {b = c} a') = one_phase asked (Some b) (Some c) a a'
    one_break (asked ∷ phases) x y (this_one {b = b} a) (later a' rest') = absurd (some_none b (one_phase asked (Some b) None a a'))
    one_break (asked ∷ phases) x y (later a rest) (this_one {b = c} a') = absurd (some_none c (sym (one_phase asked None (Some c) a a')))
    one_break (asked ∷ phases) x y (later a rest) (later a' rest') = one_break phases x y rest rest'

  -- the least offsets leave no choice of what is broken
  pub one_rule_by : (o p : Option Offsets) (phases : List Phase) (x y : Option Broken) → IsLeastOf m o → IsLeastOf m p → PhasesBreak m o phases x → PhasesBreak m p phases y → x ≡ y
  one_rule_by o p phases x y a b = one_break o p (one_least m o p a b) phases x y

  same_reduced_status : (o p : Offsets) → offset_lists (Some o) ≡ offset_lists (Some p) → reduced_status o ≡ reduced_status p
  same_reduced_status o p e = rw ((offsets_are o p e).0, (offsets_are o p e).1) refl

  pub same_least_status : (o p : Option Offsets) → offset_lists o ≡ offset_lists p → least_status o ≡ least_status p
  same_least_status None None e = refl
  same_least_status None (Some p) e = absurd (none_offsets p e)
  same_least_status (Some o) None e = absurd (offsets_none o e)
  same_least_status (Some o) (Some p) e = same_reduced_status o p e

  same_reduced_text : (o p : Offsets) → offset_lists (Some o) ≡ offset_lists (Some p) → reduced_text m (reduced_lines m.vars m.equations o.c.items) ≡ reduced_text m (reduced_lines m.vars m.equations p.c.items)
  same_reduced_text o p e = ap (λ (c : List ℕ). reduced_text m (reduced_lines m.vars m.equations c)) (offsets_are o p e).0

  module _ (r s : Report) (say : SaySame r s) where
    -- ---- the text and the status

    same_test : (x y : Option Deficit) → deficit_lists x ≡ deficit_lists y → is_some x ≡ is_some y
    same_test None None e = refl
    same_test None (Some y) e = absurd (none_both y e)
    same_test (Some x) None e = absurd (both_none x e)
    same_test (Some x) (Some y) e = refl

    same_singular : is_singular r ≡ is_singular s
    same_singular = rw (same_test r.deficit s.deficit say.deficit, say.equations, say.unknowns) refl

    one_selected : (x y : Option Selection) → IsSelected m r x → IsSelected m s y → selected_lines r x r.offsets ≡ selected_lines s y s.offsets
    one_selected None None (no_selection holds) (no_selection holds') = same_lines r s say
    one_selected None (Some b) (no_selection holds) (selection p fails p_is b_is) = let never : true ≡ false = sym holds ∙ same_singular ∙ fails in absurd cc
    one_selected (Some a) None (selection o fails o_is a_is) (no_selection holds) = let never : true ≡ false = sym holds ∙ sym same_singular ∙ fails in absurd cc
    one_selected (Some a) (Some b) (selection o fails o_is a_is) (selection p fails' p_is b_is) =
        let lists : offset_lists (Some o) ≡ offset_lists (Some p) = rw (o_is, p_is) at say.offsets in
        let are = offsets_are o p lists in
        let there : IsSelectionOf m o b = rw (are.0, are.1) b_is in
        let same = one_selection_holds (incidence_of m) (c_of o) (d_of o) (by_number (levels_of m.vars)) a b (levels_low m.vars) a_is there in
        rw (o_is, p_is, say.name, say.unknowns) (same_text s.name s.unknowns o p a b are.0 are.1 same)

    none_selected : (x y : Option Selection) → x ≡ None → y ≡ None → selected_lines r x r.offsets ≡ selected_lines s y s.offsets
    none_selected x y e e' = rw (e, e') (same_lines r s say)

    one_selects : (emit : Emit) (x y : Option Selection) → Selects emit m r x → Selects emit m s y → selected_lines r x r.offsets ≡ selected_lines s y s.offsets
    one_selects emit.Flat x y a b = none_selected x y a b
    one_selects emit.Reduced x y a b = none_selected x y a b
    one_selects emit.Report x y a b = none_selected x y a b
    one_selects emit.All x y a b = none_selected x y a b
    one_selects emit.Json x y a b = none_selected x y a b
    one_selects emit.States x y a b = one_selected x y a b
    one_selects emit.Alias x y a b = none_selected x y a b

    module _ (x y : Option Selection) (lines : selected_lines r x r.offsets ≡ selected_lines s y s.offsets) where
      same_part : (p : Part) → part_text m r x p ≡ part_text m s y p
      same_part part.Flat = refl
      same_part part.Reduced = ap (λ (t : Option (List ℕ)). unwrap_or t []) (same_reduced r.offsets s.offsets say.offsets)
      same_part part.Report = same_lines r s say
      same_part part.Json = same_line r s say
      same_part part.StatesOrReport = lines

      same_parts : (parts : List Part) → flat_map (part_text m r x) parts ≡ flat_map (part_text m s y) parts
      same_parts [] = refl
      same_parts (p ∷ parts) = rw (same_part p, same_parts parts) refl

    same_status : status_of r ≡ status_of s
    same_status = ap (λ (b : Bool). if b then Singular else Done) same_singular

  flat_no_alias : emit.Flat ≡ emit.Alias → ⊥
  flat_no_alias e = cc

  flat_no_reduced : emit.Flat ≡ emit.Reduced → ⊥
  flat_no_reduced e = cc

  alias_no_reduced : emit.Alias ≡ emit.Reduced → ⊥
  alias_no_reduced e = cc

  one_aliases : (text more : List ℕ) → IsTextOfAliases m text → IsTextOfAliases m more → text ≡ more
  one_aliases text more (a, is, text_is) (b, also, more_is) = text_is ∙ ap (aliases_text m) (one_finding_holds m a b is also) ∙ sym more_is

  -- a reduced model has offsets, and a report that stands in its place has none
  never_reduced : (o : Offsets) (r : Report) → IsLeastOf m (Some o) → IsRightReport m r → r.offsets ≡ None → ⊥
  never_reduced o r they right none = offsets_none o (one_least m (Some o) r.offsets they (right_least m r right) ∙ ap offset_lists none)

  module _ (emit : Emit) where
    one_written : (status other : Status) (text more : List ℕ) → Writes emit m status text → Writes emit m other more → (status ≡ other) × (text ≡ more)
    one_written status other text more (flat_text is done whole) (flat_text is' done' whole') = (done ∙ sym done', whole ∙ sym whole')
    one_written status other text more (flat_text is done whole) (without_aliases o alias accepted they passes status_is text_is) = absurd (flat_no_alias (sym is ∙ alias))
    one_written status other text more (flat_text is done whole) (reduced_model o reduced accepted they passes status_is text_is) = absurd (flat_no_reduced (sym is ∙ reduced))
    one_written status other text more (flat_text is done whole) (analysed r not also none accepted right passes status_is text_is) = absurd (not is)
    one_written status other text more (without_aliases o alias accepted they passes status_is text_is) (flat_text is done whole) = absurd (flat_no_alias (sym is ∙ alias))
    one_written status other text more (without_aliases o alias accepted they passes status_is text_is) (without_aliases p alias' accepted' they' passes' status_is' text_is') =
        (status_is ∙ sym status_is', one_aliases text more text_is text_is')
    one_written status other text more (without_aliases o alias accepted they passes status_is text_is) (reduced_model p reduced accepted' they' passes' status_is' text_is') = absurd (alias_no_reduced (sym alias ∙ reduced))
    one_written status other text more (without_aliases o alias accepted they passes status_is text_is) (analysed s not also none accepted' right' passes' status_is' text_is') = absurd (also alias)
    one_written status other text more (reduced_model o reduced accepted they passes status_is text_is) (flat_text is done whole) = absurd (flat_no_reduced (sym is ∙ reduced))
    one_written status other text more (reduced_model o reduced accepted they passes status_is text_is) (without_aliases p alias accepted' they' passes' status_is' text_is') = absurd (alias_no_reduced (sym alias ∙ reduced))
    one_written status other text more (reduced_model o reduced accepted they passes status_is text_is) (reduced_model p reduced' accepted' they' passes' status_is' text_is') =
        let lists = one_least m (Some o) (Some p) they they' in
        (status_is ∙ (same_reduced_status o p lists ∙ sym status_is'), text_is ∙ (same_reduced_text o p lists ∙ sym text_is'))
    one_written status other text more (reduced_model o reduced accepted they passes status_is text_is) (analysed s not also none accepted' right' passes' status_is' text_is') = absurd (never_reduced o s they right' (none reduced))
    one_written status other text more (analysed r not also none accepted right passes status_is text_is) (flat_text is done whole) = absurd (not is)
    one_written status other text more (analysed r not also none accepted right passes status_is text_is) (without_aliases s alias accepted' they' passes' status_is' text_is') = absurd (also alias)
    one_written status other text more (analysed r not also none accepted right passes status_is text_is) (reduced_model p reduced accepted' they' passes' status_is' text_is') = absurd (never_reduced p r they' right (none reduced))
    one_written status other text more (analysed r not also none accepted right passes status_is text_is) (analysed s not' also' none' accepted' right' passes' status_is' text_is') =
        let say = one_report m r s right right' in
        let lines = one_selects r s say emit text_is.selected text_is'.selected text_is.selects text_is'.selects in
        (status_is ∙ (same_status r s say ∙ sym status_is'), text_is.is ∙ (same_parts r s say text_is.selected text_is'.selected lines (asked_by emit).parts ∙ sym text_is'.is))

    one_refusal : (b c : Broken) → Refuses emit m b → Refuses emit m c → b ≡ c
    one_refusal b c (no_incidence not is) (no_incidence not' is') = some_is b c (sym is ∙ is')
    one_refusal b c (no_incidence not is) (no_part p not' accepted they breaks) = absurd (some_none b (sym is ∙ accepted))
    one_refusal b c (no_part o not accepted they breaks) (no_incidence not' is') = absurd (some_none c (sym is' ∙ accepted))
    one_refusal b c (no_part o not accepted they breaks) (no_part p not' accepted' they' breaks') =
        some_is b c (one_rule_by o p (asked_by emit).phases (Some b) (Some c) they they' breaks breaks')

    -- phases that passed break nothing
    never_broken : (o p : Option Offsets) (b : Broken) → IsLeastOf m o → IsLeastOf m p → PhasesBreak m o (asked_by emit).phases None → PhasesBreak m p (asked_by emit).phases (Some b) → ⊥
    never_broken o p b they they' passes breaks = some_none b (sym (one_rule_by o p (asked_by emit).phases None (Some b) they they' passes breaks))

    never_both : (status : Status) (text : List ℕ) (b : Broken) → Writes emit m status text → Refuses emit m b → ⊥
    never_both status text b (flat_text is done whole) (no_incidence not is') = not is
    never_both status text b (flat_text is done whole) (no_part p not accepted they breaks) = not is
    never_both status text b (without_aliases o alias accepted they passes status_is text_is) (no_incidence not' is') = some_none b (sym is' ∙ accepted)
    never_both status text b (without_aliases o alias accepted they passes status_is text_is) (no_part p not' accepted' they' breaks') = never_broken o p b they they' passes breaks'
    never_both status text b (reduced_model o reduced accepted they passes status_is text_is) (no_incidence not' is') = some_none b (sym is' ∙ accepted)
    never_both status text b (reduced_model o reduced accepted they passes status_is text_is) (no_part p not' accepted' they' breaks') = never_broken (Some o) p b they they' passes breaks'
    never_both status text b (analysed r not also none accepted right passes status_is text_is) (no_incidence not' is') = some_none b (sym is' ∙ accepted)
    never_both status text b (analysed r not also none accepted right passes status_is text_is) (no_part p not' accepted' they' breaks') =
        never_broken r.offsets p b (right_least m r right) they' passes breaks'

-- ---- what is told

module _ (Gives : Outcome → Type 0) (once : (o p : Outcome) → Gives o → Gives p → o ≡ p) (line : Broken → List ℕ) (emit : Emit) where
  one_model : (m n : FlatModel) → Gives (flat m) → Gives (flat n) → m ≡ n
  one_model m n a b = let same : flat m ≡ flat n = once (flat m) (flat n) a b in cc

  no_model_broken : (m : FlatModel) (b : Broken) → Gives (flat m) → Gives (broken b) → ⊥
  no_model_broken m b x y = let same : flat m ≡ broken b = once (flat m) (broken b) x y in cc

  one_rule : (b c : Broken) → Gives (broken b) → Gives (broken c) → b ≡ c
  one_rule b c x y = let same : broken b ≡ broken c = once (broken b) (broken c) x y in cc

  pub one_break_of : (b c : Broken) → Breaks Gives emit b → Breaks Gives emit c → b ≡ c
  one_break_of b c (no_model x) (no_model y) = one_rule b c x y
  one_break_of b c (no_model x) (no_text n y refuses) = absurd (no_model_broken n b y x)
  one_break_of b c (no_text m x refuses) (no_model y) = absurd (no_model_broken m c x y)
  one_break_of b c (no_text m x refuses) (no_text n y refuses') =
      one_refusal m emit b c refuses (subst (λ (k : FlatModel). Refuses emit k c) (sym (one_model m n x y)) refuses')

  written_and_broken : (status : Status) (text : List ℕ) (b : Broken) → WritesGiven Gives emit status text → Breaks Gives emit b → ⊥
  written_and_broken status text b w (no_model y) = no_model_broken w.m b w.given y
  written_and_broken status text b w (no_text n y refuses) =
      never_both w.m emit status text b w.writes (subst (λ (k : FlatModel). Refuses emit k b) (sym (one_model w.m n w.given y)) refuses)

  pub one_told : (status other : Status) (text more : List ℕ) → TellsOf Gives line emit status text → TellsOf Gives line emit other more → (status ≡ other) × (text ≡ more)
  one_told status other text more (written w) (written v) =
      one_written w.m emit status other text more w.writes (subst (λ (k : FlatModel). Writes emit k other more) (sym (one_model w.m v.m w.given v.given)) v.writes)
  one_told status other text more (written w) (refused b breaks is text_is) = absurd (written_and_broken status text b w breaks)
  one_told status other text more (refused b breaks is text_is) (written w) = absurd (written_and_broken other more b w breaks)
  one_told status other text more (refused b breaks is text_is) (refused c breaks' is' text_is') =
      (is ∙ sym is', text_is ∙ (ap line (one_break_of b c breaks breaks') ∙ sym text_is'))

-- ---- a ladder

module _ (n : ℕ) (m : FlatModel) where
  block_count : (r s : Report) → SaySame r s → length r.blocks.0.items ≡ length s.blocks.0.items
  block_count r s say = sym (length-map r.blocks.0.items (λ block. block.items)) ∙ ap length say.blocks ∙ length-map s.blocks.0.items (λ block. block.items)

  one_line : (r s : Report) → SaySame r s → summary_line n m r ≡ summary_line n m s
  one_line r s say = rw (say.equations, say.unknowns, say.index, say.freedom, block_count r s say) refl

  one_summary : (text more : List ℕ) → IsSummary n m text → IsSummary n m more → text ≡ more
  one_summary text more a b = a.is ∙ (one_line a.r b.r (one_report m a.r b.r a.right b.right) ∙ sym b.is)

  summed_no_refusal : (text : List ℕ) (b : Broken) → IsSummary n m text → Refuses emit.Report m b → ⊥
  summed_no_refusal text b sums (no_incidence not is) = some_none b (sym is ∙ sums.accepted)
  summed_no_refusal text b sums (no_part p not accepted they breaks) =
      some_none b (sym (one_rule_by m sums.r.offsets p (asked_by emit.Report).phases None (Some b) (right_least m sums.r sums.right) they sums.passed breaks))

module _ (n : ℕ) (once : (o p : Outcome) → TextsGive ladder_path (ladder_texts n) o → TextsGive ladder_path (ladder_texts n) p → o ≡ p) where
  abbrev of_ladder : Outcome → Type 0
  of_ladder = TextsGive ladder_path (ladder_texts n)

  abbrev line : Broken → List ℕ
  line = line_of_broken ladder_names (ladder_texts n)

  summed_and_broken : (text : List ℕ) (b : Broken) → SumsUpGiven of_ladder n text → Breaks of_ladder emit.Report b → ⊥
  summed_and_broken text b s (no_model gives) = no_model_broken of_ladder once line emit.Report s.m b s.given gives
  summed_and_broken text b s (no_text k gives refuses) =
      summed_no_refusal n s.m text b s.sums (subst (λ (x : FlatModel). Refuses emit.Report x b) (sym (one_model of_ladder once line emit.Report s.m k s.given gives)) refuses)

  pub one_ladder : (status other : Status) (text more : List ℕ) → TellsLadder n status text → TellsLadder n other more → (status ≡ other) × (text ≡ more)
  one_ladder status other text more (summed s is) (summed t is') =
      (is ∙ sym is', one_summary n s.m text more s.sums (subst (λ (x : FlatModel). IsSummary n x more) (sym (one_model of_ladder once line emit.Report s.m t.m s.given t.given)) t.sums))
  one_ladder status other text more (summed s is) (refused_ladder b breaks is' text_is) = absurd (summed_and_broken text b s breaks)
  one_ladder status other text more (refused_ladder b breaks is text_is) (summed s is') = absurd (summed_and_broken more b s breaks)
  one_ladder status other text more (refused_ladder b breaks is text_is) (refused_ladder c breaks' is' text_is') =
      (is ∙ sym is', text_is ∙ (ap line (one_break_of of_ladder once line emit.Report b c breaks breaks') ∙ sym text_is'))
