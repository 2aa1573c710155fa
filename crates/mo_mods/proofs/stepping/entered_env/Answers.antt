-- A table is made of its parts.
use Rattle.std.proofs.lemmas.Result.{IfOk-weaker}
use Rattle.mo_mods.proofs.Making.{entered_is}
use Rattle.mo_mods.proofs.stepping.entered_env.Goals as goal

pub returns : goal.returns
returns c =
    IfOk-weaker c.table_of.result _ _
    (λ made parts frames below.
    entered_is frames c.args.index.now made c.args.env.now c.entered_option.result c.copied_redeclared.result c.args.below parts
    (IfOk-weaker c.entered_option.result _ _ (λ _ is. is frames) c.entered_option.ensures)
    (IfOk-weaker c.copied_redeclared.result _ _ (λ _ is. is frames) c.copied_redeclared.ensures) below)
    c.table_of.ensures
