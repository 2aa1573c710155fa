-- The subscripts of an array with these dimensions.
use Rattle.std.proofs.Common.{ℕ, List, ap, subst, ◌∙◌}
use Rattle.mo_syntax.specs.declared.meaning.Kind.TheVariants.{Real}
use Rattle.mo_flat.specs.declared.array.ArrayExpr.{roll-ArrayExpr}
use Rattle.mo_flat.specs.declared.array.ArrayNode.{ArrayNode}
use Rattle.mo_flat.specs.declared.array.ArrayNode.TheVariants.{Vars}
use Rattle.mo_typing.specs.Outcome.{Gives}
use Rattle.mo_typing.specs.Subscripts.{subscripts_of}
use Rattle.mo_equations.proofs.Ended.{gives_checked, subscripts_within}
use Rattle.mo_equations.proofs.ends.checked_subscripts.Goals as goal

pub returns : goal.returns
returns c =
    let dims = c.args.dims in
    let subs = c.args.subs in
    let same = ap (λ (node : ArrayNode). subscripts_of (roll-ArrayExpr (record { place = c.args.place; node = node }))) c.in_ok-new.ensures
    ∙ (ap (λ (vars : List ℕ). subscripts_of (roll-ArrayExpr (record { place = c.args.place; node = Vars vars Real dims subs }))) c.new.ensures ∙ subscripts_within c.args.place dims subs) in
    subst (Gives c.subscripts.result) same (gives_checked c.subscripts.result _ c.subscripts.ensures.ok c.subscripts.ensures.refused)
