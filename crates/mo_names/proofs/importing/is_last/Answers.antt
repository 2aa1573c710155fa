-- The last of some names.
use Rattle.std.proofs.Common.{◌-◌, length, arith, ap, sym, ◌∙◌, ℕ, List}
use Rattle.std.specs.Str.{bytes_eq}
use Rattle.mo_names.proofs.Ends.{last_is}
use Rattle.mo_names.proofs.Reading.{text_test}
use Rattle.mo_names.proofs.importing.is_last.Goals as goal

pub returns-in-len1-up : goal.returns-in-len1-up
returns-in-len1-up c =
    sym (ap (λ (n : List ℕ). bytes_eq n c.args.name.now) (sym (last_is c.args.names.now (length c.args.names.now - 1) c.last-item.result (omega (arith, c.in-len1-up.len_at_least)) c.last-item.is))
    ∙ text_test c.last-item.result c.args.name.now c.equals.result c.equals.ensures)
