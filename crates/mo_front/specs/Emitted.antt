-- What is written of a flat model, by what is asked for: its text, its reduced model (S. E. Mattsson and G. Söderlind, Index
-- reduction in differential-algebraic equations using dummy derivatives, SIAM J. Sci. Comput. 14, 1993), the report on its
-- structure (J. D. Pryce, A simple structural analysis method for DAEs, BIT 41, 2001), as lines or as JSON, or all three; the states that
-- stateSelect prefers (Modelica Language Specification 3.5, section 4.8.7.1); or its aliases and the model without them.
use Rattle.std.specs.Prelude.{◌≡◌, ◌≢◌, ℕ, ◌==◌, ◌||◌, Bool, true, false, List, [], ◌∷◌, flat_map, Option, Some, None, is_some, length, nat_le, nat_lt, unwrap_or, if◌then◌else◌}
use Rattle.mo_syntax.specs.declared.place.Broken.{Broken}
use Rattle.mo_syntax.specs.declared.place.Place.{Place}
use Rattle.mo_flat.specs.declared.model.FlatModel.{FlatModel}
use Rattle.mo_flat.specs.Text.{model_text}
use Rattle.mo_symdiff.specs.Reduced.{IsWithin, first_given, reduced_lines, reduced_text, too_large}
use Rattle.mo_symdiff.specs.Refusal.{of_given}
use Rattle.mo_incidence.specs.declared.findings.Offsets.{Offsets}
use Rattle.mo_incidence.specs.Model.{refusal_of}
use Rattle.mo_report.specs.declared.report.Report.{Report}
use Rattle.mo_report.specs.Lines.{report_lines}
use Rattle.mo_report.specs.Right.{IsRightReport}
use Rattle.mo_report.specs.Size.{report_limit, report_size, unknown_names}
use Rattle.mo_json.specs.Values.{json_line}
use Rattle.mo_select.specs.declared.selection.Selection.{Selection}
use Rattle.mo_alias.specs.declared.found.Aliases.{Aliases}
use Rattle.mo_alias.specs.Aliases.{AreAliases}
use Rattle.mo_alias.specs.Text.{aliases_text}
use Rattle.mo_front.specs.declared.status.Status.{Status}
use Rattle.mo_front.specs.declared.status.Status.TheVariants.{Done, Singular}
use Rattle.mo_front.specs.declared.words.Emit.{Emit}
use Rattle.mo_front.specs.declared.words.Emit.TheVariants as emit
use Rattle.mo_front.specs.declared.table.Phase.{Phase}
use Rattle.mo_front.specs.declared.table.Phase.TheVariants as phase
use Rattle.mo_front.specs.declared.table.Part.{Part}
use Rattle.mo_front.specs.declared.table.Part.TheVariants as part
use Rattle.mo_front.specs.States.{IsSelectionOf, selected_lines}
use Rattle.mo_front.specs.Least.{IsLeastOf}

-- ---- what is asked for

-- phases behind the incidence, in order, and texts that go by the report, one behind the other
pub record Asked : Type 0 where
  pub phases : List Phase
  pub parts : List Part

-- The phases and texts of each value. Of the flat text alone not even the incidence is asked; the text of aliases and that of the reduced
-- model go by no report, which stands in place of a reduced model where some equation cannot be assigned.
abbrev pub asked_by : Emit → Asked
asked_by emit.Flat = record { phases = []; parts = part.Flat ∷ [] }
asked_by emit.Reduced = record { phases = phase.Reduction ∷ []; parts = part.Report ∷ [] }
asked_by emit.Report = record { phases = phase.Size ∷ []; parts = part.Report ∷ [] }
asked_by emit.All = record { phases = phase.Size ∷ phase.Reduction ∷ []; parts = part.Flat ∷ part.Reduced ∷ part.Report ∷ [] }
asked_by emit.Json = record { phases = phase.Size ∷ []; parts = part.Json ∷ [] }
asked_by emit.States = record { phases = phase.Size ∷ []; parts = part.StatesOrReport ∷ [] }
asked_by emit.Alias = record { phases = phase.Size ∷ []; parts = [] }

-- ---- the rules that the phases behind the incidence break, which go by the least offsets, none where some equation cannot be assigned

-- How much text the derivatives in the report take: none where some equation cannot be assigned or the system is not square, so
-- that there are not as many offsets of equations as of unknowns.
abbrev pub derivatives_size : FlatModel → Option Offsets → ℕ
derivatives_size m None = 0
derivatives_size m (Some offsets) = if length offsets.c.items == length offsets.d.items then report_size (unknown_names m.vars) offsets.d.items else 0

-- rule 44 at the model where the report does not fit
abbrev pub report_refusal : FlatModel → Option Offsets → Option Broken
report_refusal m o = if nat_le (derivatives_size m o) report_limit then None else Some (too_large m)

-- The rule that the reduced model breaks: 43 at the first equation in which a given variable would be differentiated, then 44
-- at the model where the lines pass their limits. Without offsets there is none.
pub data ReducedBreaks (m : FlatModel) : Option Offsets → Option Broken → Type 0 where
  no_offsets : ReducedBreaks m None None
  given : {offsets : Offsets} (place : Place) → first_given m.vars m.equations offsets.c.items ≡ Some place → ReducedBreaks m (Some offsets) (Some (of_given place))
  large : {offsets : Offsets} → first_given m.vars m.equations offsets.c.items ≡ None → (IsWithin m (reduced_lines m.vars m.equations offsets.c.items) → ⊥)
      → ReducedBreaks m (Some offsets) (Some (too_large m))
  nothing : {offsets : Offsets} → first_given m.vars m.equations offsets.c.items ≡ None → IsWithin m (reduced_lines m.vars m.equations offsets.c.items)
      → ReducedBreaks m (Some offsets) None

-- the rule that one phase breaks
abbrev pub PhaseBreaks : FlatModel → Option Offsets → Phase → Option Broken → Type 0
PhaseBreaks m o phase.Size b = report_refusal m o ≡ b
PhaseBreaks m o phase.Reduction b = ReducedBreaks m o b

-- the rule that is broken by phases that are asked one after another
pub data PhasesBreak (m : FlatModel) (offsets : Option Offsets) : List Phase → Option Broken → Type 0 where
  all_passed : PhasesBreak m offsets [] None
  this_one : {asked : Phase} {phases : List Phase} {b : Broken} → PhaseBreaks m offsets asked (Some b) → PhasesBreak m offsets (asked ∷ phases) (Some b)
  later : {asked : Phase} {phases : List Phase} {o : Option Broken} → PhaseBreaks m offsets asked None → PhasesBreak m offsets phases o → PhasesBreak m offsets (asked ∷ phases) o

-- ---- the text and the status

-- the text of the reduced model, where all equations can be assigned
abbrev pub reduced_part : FlatModel → Option Offsets → Option (List ℕ)
reduced_part m None = None
reduced_part m (Some offsets) = Some (reduced_text m (reduced_lines m.vars m.equations offsets.c.items))

-- one of the texts that may be written of the model, with the states that are selected where they are asked for
abbrev pub part_text : FlatModel → Report → Option Selection → Part → List ℕ
part_text m r s part.Flat = model_text m
part_text m r s part.Reduced = unwrap_or (reduced_part m r.offsets) []
part_text m r s part.Report = report_lines r
part_text m r s part.Json = json_line r
part_text m r s part.StatesOrReport = selected_lines r s r.offsets

-- not every equation or not every unknown can be assigned
abbrev pub is_singular : Report → Bool
is_singular r = is_some r.deficit || nat_lt r.equations (length r.unknowns)

abbrev pub status_of : Report → Status
status_of r = if is_singular r then Singular else Done

-- where all equations can be assigned, and there are not fewer than unknowns
abbrev pub reduced_status : Offsets → Status
reduced_status offsets = if nat_lt (length offsets.c.items) (length offsets.d.items) then Singular else Done

-- that of a report on the model
abbrev pub least_status : Option Offsets → Status
least_status None = Singular
least_status (Some offsets) = reduced_status offsets

-- ---- the states

-- the selection of a model with that report: none where not every equation or not every unknown can be assigned
pub data IsSelected (m : FlatModel) (r : Report) : Option Selection → Type 0 where
  no_selection : is_singular r ≡ true → IsSelected m r None
  selection : {selected : Selection} (offsets : Offsets) → is_singular r ≡ false → r.offsets ≡ Some offsets → IsSelectionOf m offsets selected → IsSelected m r (Some selected)

-- states are selected where they are asked for
abbrev pub Selects : Emit → FlatModel → Report → Option Selection → Type 0
Selects emit.States m r s = IsSelected m r s
Selects asked m r s = s ≡ None

-- the texts that are asked for, one behind the other
pub record IsTextOf (asked : Emit) (m : FlatModel) (r : Report) (text : List ℕ) : Type 0 where
  pub selected : Option Selection
  pub selects : Selects asked m r selected
  pub is : text ≡ flat_map (part_text m r selected) (asked_by asked).parts

-- the texts that are asked for go by a right report with these offsets, and so does the status
pub record IsReported (asked : Emit) (m : FlatModel) (offsets : Option Offsets) (status : Status) (text : List ℕ) : Type 0 where
  pub r : Report
  pub right : IsRightReport m r
  pub given : r.offsets ≡ offsets
  pub status_is : status ≡ status_of r
  pub text_is : IsTextOf asked m r text

-- the text of what is found of aliases
abbrev pub IsTextOfAliases : FlatModel → List ℕ → Type 0
IsTextOfAliases m text = (found : Aliases) × AreAliases m found × (text ≡ aliases_text m found)

-- ---- the whole

-- The text that is written of the model, with its status; the flat text and that of aliases are written of singular models too. A
-- reduced model goes by the least offsets alone.
pub data Writes (asked : Emit) (m : FlatModel) (status : Status) (text : List ℕ) : Type 0 where
  flat_text : asked ≡ emit.Flat → status ≡ Done → text ≡ model_text m → Writes asked m status text
  without_aliases : (offsets : Option Offsets) → asked ≡ emit.Alias → refusal_of m ≡ None → IsLeastOf m offsets → PhasesBreak m offsets (asked_by asked).phases None → status ≡ Done
      → IsTextOfAliases m text → Writes asked m status text
  reduced_model : (offsets : Offsets) → asked ≡ emit.Reduced → refusal_of m ≡ None → IsLeastOf m (Some offsets) → PhasesBreak m (Some offsets) (asked_by asked).phases None
      → status ≡ reduced_status offsets → text ≡ reduced_text m (reduced_lines m.vars m.equations offsets.c.items) → Writes asked m status text
  analysed : (r : Report) → asked ≢ emit.Flat → asked ≢ emit.Alias → (asked ≡ emit.Reduced → r.offsets ≡ None) → refusal_of m ≡ None → IsRightReport m r
      → PhasesBreak m r.offsets (asked_by asked).phases None → status ≡ status_of r → IsTextOf asked m r text → Writes asked m status text

-- the first rule that is broken instead: those of the incidence before those of the other phases
pub data Refuses (asked : Emit) (m : FlatModel) (b : Broken) : Type 0 where
  no_incidence : asked ≢ emit.Flat → refusal_of m ≡ Some b → Refuses asked m b
  no_text : (offsets : Option Offsets) → asked ≢ emit.Flat → refusal_of m ≡ None → IsLeastOf m offsets → PhasesBreak m offsets (asked_by asked).phases (Some b) → Refuses asked m b
