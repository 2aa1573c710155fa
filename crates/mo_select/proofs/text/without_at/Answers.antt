use Rattle.std.proofs.Common.{◌≡◌, None, [], sym, ap, ◌∙◌}
use Rattle.std.specs.Prelude.{option_copied, slice_get}
use Rattle.std.proofs.lemmas.Option.{unwrap_or-slice_get}
use Rattle.mo_select.proofs.text.without_at.Goals as goal

pub returns-in-None : goal.returns-in-None
returns-in-None c =
    let none : slice_get c.args.stage.now.without c.args.level ≡ None = sym c.get.ensures ∙ ap option_copied c.in-None.is in
    rw none at (unwrap_or-slice_get c.args.stage.now.without c.args.level [])
