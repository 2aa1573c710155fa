-- The data of a report as JSON. An object's members stand in the order of their keys; lists have the order of the report's lines.
-- Equations and unknowns are numbered from 1; unknowns are given by their names.
use Rattle.std.specs.Prelude.{ℕ, zero, suc, ◌+◌, List, [], ◌∷◌, ◌++◌, Option, Some, None, codes, length, map, nat_lt, if◌then◌else◌, slice_index}
use Rattle.serde_json.specs.Data.{Data, null, number, unsigned, string, array, object, no_members, member}
use Rattle.serde_json.specs.View.{items_of}
use Rattle.serde_json.specs.Written.{compact_text}
use Rattle.mo_incidence.specs.declared.findings.Offsets.{Offsets}
use Rattle.mo_incidence.specs.declared.findings.Deficit.{Deficit}
use Rattle.mo_incidence.specs.declared.findings.Reason.{Reason}
use Rattle.mo_report.specs.declared.report.Report.{Report}
use Rattle.mo_report.specs.Lines.{unknown_name, derivative}

abbrev pub count : ℕ → Data
count n = number (unsigned n)

-- one after another
abbrev pub listed : List Data → Data
listed ds = array (items_of ds)

abbrev pub numbers_data : List ℕ → Data
numbers_data ns = listed (map count ns)

-- the name of an unknown by its number
abbrev pub name_data : List (List ℕ) → ℕ → Data
name_data names j = string (unknown_name names j)

abbrev pub names_data : List (List ℕ) → List ℕ → Data
names_data names js = listed (map (name_data names) js)

-- the data of each place below n
abbrev pub data_below : (ℕ → Data) → ℕ → List Data
data_below entry zero = []
data_below entry (suc n) = data_below entry n ++ entry n ∷ []

-- ---- parts

abbrev pub deficit_data : List (List ℕ) → Deficit → Data
deficit_data names deficit = object
    (member (codes "equations") (numbers_data deficit.equations.items)
    (member (codes "mentions") (names_data names deficit.unknowns.items) no_members))

abbrev pub equation_data : List (List ℕ) → List ℕ → Offsets → ℕ → Data
equation_data names orders offsets i = object
    (member (codes "c") (count (slice_index offsets.c.items i))
    (member (codes "order") (count (slice_index orders i))
    (member (codes "pair") (name_data names (slice_index offsets.pairs.items i)) no_members)))

abbrev pub unknown_data : List (List ℕ) → Offsets → ℕ → Data
unknown_data names offsets j = object
    (member (codes "d") (count (slice_index offsets.d.items j))
    (member (codes "name") (name_data names (j + 1)) no_members))

abbrev pub reason_data : Reason → Data
reason_data reason = object (member (codes "equation") (count reason.equation) (member (codes "from") (count reason.from) no_members))

-- an order of an unknown as derivatives
abbrev pub derivative_data : List (List ℕ) → ℕ × ℕ → Data
derivative_data names x = string (derivative names x.0 x.1)

abbrev pub dummy_data : List (List ℕ) → ℕ × ℕ × ℕ × ℕ → Data
dummy_data names x = object
    (member (codes "derivative") (string (derivative names x.0 x.1))
    (member (codes "equation") (count x.3)
    (member (codes "stage") (count x.2) no_members)))

abbrev pub equations_data : Report → Offsets → Data
equations_data r offsets = listed (data_below (equation_data r.unknowns r.orders.items offsets) r.equations)

abbrev pub unknowns_data : Report → Offsets → Data
unknowns_data r offsets = listed (data_below (unknown_data r.unknowns offsets) (length r.unknowns))

-- ---- the whole, by its kind

abbrev pub singular_data : Report → Deficit → Data
singular_data r deficit = object
    (member (codes "deficit") (deficit_data r.unknowns deficit)
    (member (codes "equation_count") (count r.equations)
    (member (codes "kind") (string (codes "deficit"))
    (member (codes "model") (string r.name)
    (member (codes "unknown_count") (count (length r.unknowns)) no_members)))))

abbrev pub undetermined_data : Report → Offsets → Data
undetermined_data r offsets = object
    (member (codes "equation_count") (count r.equations)
    (member (codes "equations") (equations_data r offsets)
    (member (codes "kind") (string (codes "undetermined"))
    (member (codes "model") (string r.name)
    (member (codes "undetermined") (names_data r.unknowns r.loose.items)
    (member (codes "unknown_count") (count (length r.unknowns))
    (member (codes "unknowns") (unknowns_data r offsets) no_members)))))))

abbrev pub square_data : Report → Offsets → Data
square_data r offsets = object
    (member (codes "blocks") (listed (map (λ block. numbers_data block.items) r.blocks.0.items))
    (member (codes "dummies") (listed (map (dummy_data r.unknowns) r.dummies.chosen.items))
    (member (codes "equation_count") (count r.equations)
    (member (codes "equations") (equations_data r offsets)
    (member (codes "freedom") (count r.freedom)
    (member (codes "index") (count r.index)
    (member (codes "kind") (string (codes "square"))
    (member (codes "model") (string r.name)
    (member (codes "reasons") (listed (map reason_data r.reasons.items))
    (member (codes "states") (listed (map (derivative_data r.unknowns) r.dummies.states.items))
    (member (codes "unknown_count") (count (length r.unknowns))
    (member (codes "unknowns") (unknowns_data r offsets) no_members))))))))))))

-- with offsets: fewer equations than unknowns, or a square system
abbrev pub found_data : Report → Option Offsets → Data
found_data r None = null
found_data r (Some offsets) = if nat_lt r.equations (length r.unknowns) then undetermined_data r offsets else square_data r offsets

abbrev pub part_data : Report → Option Deficit → Data
part_data r (Some deficit) = singular_data r deficit
part_data r None = found_data r r.offsets

abbrev pub report_data : Report → Data
report_data r = part_data r r.deficit

-- its text, with no white space, and a line feed
abbrev pub json_line : Report → List ℕ
json_line r = compact_text (report_data r) ++ codes "\n"
