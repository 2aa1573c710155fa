-- A table without a redeclaration is made of its parts.
use Rattle.std.proofs.Common.{refl}
use Rattle.std.proofs.lemmas.Result.{IfOk-weaker}
use Rattle.mo_mods.proofs.Making.{stepped_is}
use Rattle.mo_mods.proofs.stepping.stepped_env.Goals as goal

pub returns : goal.returns
returns c =
    IfOk-weaker c.table_of.result _ _
    (λ made parts frames.
    stepped_is frames c.args.index.now made c.args.env.now c.entered_option.result _ c.entered_below.result parts
    (IfOk-weaker c.entered_option.result _ _ (λ _ is. is frames) c.entered_option.ensures) refl
    (IfOk-weaker c.entered_below.result _ _ (λ _ is. is frames) c.entered_below.ensures))
    c.table_of.ensures
