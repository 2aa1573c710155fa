use Rattle.std.proofs.Common.{◌≡◌, subst, arith}
use Rattle.std.proofs.lemmas.Grind.{common_steps}
use Rattle.mo_flat.specs.Grammar.{Spells, phrase}
use Rattle.mo_flat.specs.Text.{expr_text, level_of}
use Rattle.mo_flat.proofs.Reading.{read}
use Rattle.mo_flat.proofs.model_text.flat_expr_text.Goals as goal

pub returns-clause-read : goal.returns-clause-read
returns-clause-read c =
    let e = c.args.e.now in
    let vars = c.args.m.now.vars in
    let same : expr_text vars e ≡ c.from_string.result = grind (arith, common_steps) in
    subst (λ t. Spells vars (phrase (level_of e) e) t) same (read vars e)
