-- When two reports say the same, part by part.
use Rattle.std.specs.Prelude.{◌≡◌, ℕ, List, Option, option_map}
use Rattle.mo_incidence.specs.declared.findings.Offsets.{Offsets}
use Rattle.mo_incidence.specs.declared.findings.Deficit.{Deficit}
use Rattle.mo_incidence.specs.Blocks.{numbers_in}
use Rattle.mo_report.specs.declared.report.Report.{Report}

abbrev pub deficit_lists : Option Deficit → Option (List ℕ × List ℕ)
deficit_lists = option_map (λ deficit. (deficit.equations.items, deficit.unknowns.items))

abbrev pub offset_lists : Option Offsets → Option (List ℕ × List ℕ × List ℕ)
offset_lists = option_map (λ offsets. (offsets.c.items, offsets.d.items, offsets.pairs.items))

pub record SaySame (r s : Report) : Type 0 where
  pub name : r.name ≡ s.name
  pub unknowns : r.unknowns ≡ s.unknowns
  pub equations : r.equations ≡ s.equations
  pub orders : r.orders.items ≡ s.orders.items
  pub deficit : deficit_lists r.deficit ≡ deficit_lists s.deficit
  pub offsets : offset_lists r.offsets ≡ offset_lists s.offsets
  pub loose : r.loose.items ≡ s.loose.items
  pub reasons : r.reasons.items ≡ s.reasons.items
  pub blocks : numbers_in r.blocks.0.items ≡ numbers_in s.blocks.0.items
  pub dummies : r.dummies.chosen.items ≡ s.dummies.chosen.items
  pub states : r.dummies.states.items ≡ s.dummies.states.items
  pub index : r.index ≡ s.index
  pub freedom : r.freedom ≡ s.freedom
