use Rattle.std.proofs.Common.{◌≡◌, ◌<◌, length, Some, ◌+◌, ◌∷◌, [], ap, arith, sym, ◌∙◌, subst}
use Rattle.std.specs.Result.{IfOk}
use Rattle.mo_typing.specs.Indices.{range_element}
use Rattle.std.specs.Prelude.{slice_get}
use Rattle.std.proofs.lemmas.Int.{to_z-of_z}
use Rattle.mo_equations.specs.steps.Ranges.{numbers_seen}
use Rattle.mo_equations.proofs.Making.{if_ok}
use Rattle.mo_equations.proofs.Ranged.{range_at, range_length}
use Rattle.mo_equations.proofs.values.Numbers.number.Goals as goal

pub returns-else-k-ge4294967295 : goal.returns-else-k-ge4294967295
returns-else-k-ge4294967295 c =
    let small : c.args.k < c.in-Range.count = subst (λ n. c.args.k < n) (ap (λ n. length (numbers_seen n)) c.in-Range.is ∙ range_length c.in-Range.first c.in-Range.step c.in-Range.count) c.requires in
    let told : IfOk c.range_element.result (λ n. n ≡ range_element c.in-Range.first c.in-Range.step ((c.args.k + 1) ∷ [])) = grind (arith, to_z-of_z, c.range_element.ensures) in
    if_ok c.range_element.result (λ n is. ap (λ ns. slice_get (numbers_seen ns) c.args.k) c.in-Range.is ∙ range_at c.in-Range.first c.in-Range.step c.in-Range.count c.args.k small ∙ ap (λ m. Some m) (sym is)) told
