-- The states that stateSelect prefers in a model (Modelica Language Specification 3.5, section 4.8.7.1), and what is written of them.
use Rattle.std.specs.Prelude.{ℕ, List, Option, Some, None}
use Rattle.mo_flat.specs.declared.model.FlatModel.{FlatModel}
use Rattle.mo_incidence.specs.declared.findings.Offsets.{Offsets}
use Rattle.mo_incidence.specs.Model.{incidence_of}
use Rattle.mo_incidence.specs.Offsets.{by_number, c_of, d_of}
use Rattle.mo_report.specs.declared.report.Report.{Report}
use Rattle.mo_report.specs.Lines.{report_lines}
use Rattle.mo_select.specs.declared.selection.Selection.{Selection}
use Rattle.mo_select.specs.Levels.{levels_of}
use Rattle.mo_select.specs.Selection.{IsSelection}
use Rattle.mo_select.specs.Text.{selection_lines}

-- the selection of the model with these offsets
abbrev pub IsSelectionOf : FlatModel → Offsets → Selection → Type 0
IsSelectionOf m offsets = IsSelection (incidence_of m) (c_of offsets) (d_of offsets) (by_number (levels_of m.vars))

-- the text of what is selected, or the report where nothing is
abbrev pub selected_lines : Report → Option Selection → Option Offsets → List ℕ
selected_lines r None offsets = report_lines r
selected_lines r (Some selection) None = report_lines r
selected_lines r (Some selection) (Some offsets) = selection_lines r.name r.unknowns offsets selection
