-- The text of a report, line by line. Equations and unknowns are written by their numbers, from 1, unknowns also by their names.
use Rattle.std.specs.Prelude.{ℕ, zero, suc, ◌+◌, List, [], ◌++◌, Option, Some, None, codes, decimal, flat_map, length, nat_lt, if◌then◌else◌, slice_get, slice_index, unwrap_or}
use Rattle.mo_incidence.specs.declared.findings.Offsets.{Offsets}
use Rattle.mo_incidence.specs.declared.findings.Deficit.{Deficit}
use Rattle.mo_incidence.specs.declared.findings.Reason.{Reason}
use Rattle.mo_report.specs.declared.report.Report.{Report}
use Rattle.mo_flat.specs.Text.{derivative_text}

-- the name of an unknown by its number, and nothing where there is none
abbrev pub unknown_name : List (List ℕ) → ℕ → List ℕ
unknown_name names zero = []
unknown_name names (suc n) = unwrap_or (slice_get names n) []

-- a word and behind it a number
unfoldable pub numbered : List ℕ → ℕ → List ℕ
numbered word n = word ++ decimal n

-- a word and behind it a text
unfoldable pub named : List ℕ → List ℕ → List ℕ
named word text = word ++ text

-- a line for each number below n
abbrev pub lines_below : (ℕ → List ℕ) → ℕ → List ℕ
lines_below line zero = []
lines_below line (suc n) = lines_below line n ++ line n

-- ---- heads

abbrev pub head_lines : Report → List ℕ
head_lines r =
    named (codes "report ") r.name ++ numbered (codes "\nequations ") r.equations ++ numbered (codes " unknowns ") (length r.unknowns) ++ codes "\n"

-- ---- a deficit

abbrev pub in_line : ℕ → List ℕ
in_line i = numbered (codes "in ") i ++ codes "\n"

-- a word and the name of an unknown
abbrev pub name_line : List ℕ → List (List ℕ) → ℕ → List ℕ
name_line word names j = named word (unknown_name names j) ++ codes "\n"

abbrev pub deficit_head : Deficit → List ℕ
deficit_head deficit =
    numbered (codes "deficit ") (length deficit.equations.items) ++ numbered (codes " equations ") (length deficit.unknowns.items) ++ codes " unknowns\n"

abbrev pub deficit_lines : List (List ℕ) → Deficit → List ℕ
deficit_lines names deficit =
    deficit_head deficit ++ flat_map in_line deficit.equations.items ++ flat_map (name_line (codes "mentions ") names) deficit.unknowns.items

-- ---- offsets

abbrev pub equation_line : List (List ℕ) → List ℕ → Offsets → ℕ → List ℕ
equation_line names orders offsets i =
    numbered (codes "equation ") (i + 1) ++ numbered (codes " c ") (slice_index offsets.c.items i) ++
    named (codes " pairs ") (unknown_name names (slice_index offsets.pairs.items i)) ++ numbered (codes " order ") (slice_index orders i) ++ codes "\n"

abbrev pub unknown_line : List (List ℕ) → Offsets → ℕ → List ℕ
unknown_line names offsets j =
    named (codes "unknown ") (unknown_name names (j + 1)) ++ numbered (codes " d ") (slice_index offsets.d.items j) ++ codes "\n"

abbrev pub offset_lines : Report → Offsets → List ℕ
offset_lines r offsets =
    lines_below (equation_line r.unknowns r.orders.items offsets) r.equations ++ lines_below (unknown_line r.unknowns offsets) (length r.unknowns)

-- ---- square systems

abbrev pub reason_line : Reason → List ℕ
reason_line reason = numbered (codes "reason ") reason.equation ++ numbered (codes " from ") reason.from ++ codes "\n"

abbrev pub block_line : List ℕ → List ℕ
block_line block = codes "block" ++ flat_map (numbered (codes " ")) block ++ codes "\n"

-- an order of an unknown as derivatives
unfoldable pub derivative : List (List ℕ) → ℕ → ℕ → List ℕ
derivative names j order = derivative_text order (unknown_name names j)

abbrev pub dummy_line : List (List ℕ) → ℕ × ℕ × ℕ × ℕ → List ℕ
dummy_line names dummy =
    codes "dummy " ++ derivative names dummy.0 dummy.1 ++ numbered (codes " stage ") dummy.2 ++ numbered (codes " equation ") dummy.3 ++ codes "\n"

abbrev pub state_line : List (List ℕ) → ℕ × ℕ → List ℕ
state_line names state = codes "state " ++ derivative names state.0 state.1 ++ codes "\n"

abbrev pub number_lines : Report → List ℕ
number_lines r = numbered (codes "index ") r.index ++ numbered (codes "\nfreedom ") r.freedom ++ codes "\n"

abbrev pub square_lines : Report → List ℕ
square_lines r =
    flat_map reason_line r.reasons.items ++
    flat_map (λ block. block_line block.items) r.blocks.0.items ++
    flat_map (dummy_line r.unknowns) r.dummies.chosen.items ++
    flat_map (state_line r.unknowns) r.dummies.states.items ++
    number_lines r

-- what follows the offsets: with fewer equations than unknowns the undetermined ones
abbrev pub rest_lines : Report → List ℕ
rest_lines r =
    if nat_lt r.equations (length r.unknowns) then flat_map (name_line (codes "undetermined ") r.unknowns) r.loose.items else square_lines r

-- ---- the whole

abbrev pub found_lines : Report → Option Offsets → List ℕ
found_lines r None = []
found_lines r (Some offsets) = offset_lines r offsets ++ rest_lines r

abbrev pub part_lines : Report → Option Deficit → List ℕ
part_lines r (Some deficit) = deficit_lines r.unknowns deficit
part_lines r None = found_lines r r.offsets

abbrev pub report_lines : Report → List ℕ
report_lines r = head_lines r ++ part_lines r r.deficit
