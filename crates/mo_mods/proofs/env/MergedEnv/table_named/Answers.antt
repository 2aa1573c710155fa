-- The table is found by its name.
use Rattle.std.proofs.Common.{ap, sym, ◌∙◌}
use Rattle.mo_mods.specs.Merged.{table_for}
use Rattle.mo_mods.specs.declared.env.MergedEnv.{out-MergedEnv}
use Rattle.mo_mods.specs.Sights.{merged_or}
use Rattle.mo_mods.proofs.Finding.{below_is, looked_up}
use Rattle.mo_mods.proofs.env.MergedEnv.table_named.Goals as goal

pub returns : goal.returns
returns c = λ frames.
    ap (merged_or frames) c.get.ensures.value
    ∙ looked_up frames c.args.name.now (out-MergedEnv c.args.self.now).below.entries
    ∙ ap (table_for c.args.name.now) (sym (below_is frames c.args.self.now))
