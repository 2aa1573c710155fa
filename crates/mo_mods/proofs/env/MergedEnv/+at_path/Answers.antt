-- Nothing is given below a name for which there is no table.
use Rattle.std.proofs.Common.{◌+◌, drop, ap, ◌∙◌}
use Rattle.mo_mods.specs.Merged.{at_path}
use Rattle.mo_mods.specs.Sights.{merged_in}
use Rattle.mo_mods.proofs.Finding.{nothing_at, path_front}
use Rattle.mo_mods.proofs.env.MergedEnv.+at_path.Goals as goal

pub returns-in-None : goal.returns-in-None
returns-in-None t c = λ frames.
    nothing_at (drop (c.args.passed + 1) c.args.path.now)
    ∙ ap (λ merged. at_path merged (drop (c.args.passed + 1) c.args.path.now)) (c.in-None.ensures frames)
    ∙ path_front (merged_in frames c.args.self.now) c.args.path.now c.args.passed c.index-path-passed.result c.if-passed-path.false c.index-path-passed.is
