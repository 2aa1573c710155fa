-- How the object of a report is built: its members are put in one after another, each at its place among the keys.
use Rattle.std.specs.Prelude.{ℕ, List, codes, length, map}
use Rattle.serde_json.specs.Data.{string, Members, put}
use Rattle.mo_incidence.specs.declared.findings.Offsets.{Offsets}
use Rattle.mo_report.specs.declared.report.Report.{Report}
use Rattle.mo_json.specs.Values.{count, listed, numbers_data, equations_data, unknowns_data, reason_data, dummy_data, derivative_data}

abbrev pub with_counts : Report → List ℕ → Members → Members
with_counts r kind members =
    put (codes "unknown_count") (count (length r.unknowns))
    (put (codes "equation_count") (count r.equations)
    (put (codes "model") (string r.name)
    (put (codes "kind") (string kind) members)))

abbrev pub with_offsets : Report → Offsets → Members → Members
with_offsets r offsets members =
    put (codes "unknowns") (unknowns_data r offsets)
    (put (codes "equations") (equations_data r offsets) members)

abbrev pub with_square : Report → Members → Members
with_square r members =
    put (codes "freedom") (count r.freedom)
    (put (codes "index") (count r.index)
    (put (codes "states") (listed (map (derivative_data r.unknowns) r.dummies.states.items))
    (put (codes "dummies") (listed (map (dummy_data r.unknowns) r.dummies.chosen.items))
    (put (codes "blocks") (listed (map (λ block. numbers_data block.items) r.blocks.0.items))
    (put (codes "reasons") (listed (map reason_data r.reasons.items)) members)))))
