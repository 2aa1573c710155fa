-- The table that is made stands for the sources of the element.
use Rattle.std.proofs.Common.{subst, sym}
use Rattle.std.proofs.lemmas.Result.{IfOk-weaker}
use Rattle.mo_mods.specs.Merged.{Merged, StepsIn}
use Rattle.mo_mods.specs.Sights.{merged_in}
use Rattle.mo_mods.proofs.Existing.{steps_exist}
use Rattle.mo_mods.proofs.Stepped.{steps_in}
use Rattle.mo_mods.proofs.env.MergedEnv.step_in.Goals as goal

pub returns-clause-stands : goal.returns-clause-stands
returns-clause-stands c =
    IfOk-weaker c.stepped.result _ _
    (λ made is frames table.
    subst (λ (to : Merged). StepsIn table (merged_in frames c.args.self.now) c.args.name.now c.args.index.now to) (sym (is frames)) (steps_in table (merged_in frames c.args.self.now) c.args.name.now c.args.index.now))
    c.stepped.ensures

pub returns-clause-exist : goal.returns-clause-exist
returns-clause-exist c =
    IfOk-weaker c.stepped.result _ _
    (λ made is world exist. steps_exist world c.args.self.now made c.args.name.now c.args.index.now is exist)
    c.stepped.ensures
