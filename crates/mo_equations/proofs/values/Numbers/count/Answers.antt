use Rattle.std.proofs.Common.{length, ap, sym, ◌∙◌}
use Rattle.mo_equations.specs.steps.Ranges.{numbers_seen}
use Rattle.mo_equations.proofs.Ranged.{range_length}
use Rattle.mo_equations.proofs.values.Numbers.count.Goals as goal

pub returns-in-Range : goal.returns-in-Range
returns-in-Range c = sym (ap (λ n. length (numbers_seen n)) c.in-Range.is ∙ range_length c.in-Range.first c.in-Range.step c.in-Range.count)
