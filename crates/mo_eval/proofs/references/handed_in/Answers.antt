use Rattle.std.proofs.Common.{◌≡◌, List, IfOk, ap, sym, subst, ◌∙◌}
use Rattle.mo_flat.specs.declared.array.Subscript.{Subscript}
use Rattle.mo_typing.specs.Dims.{Dims}
use Rattle.mo_eval.specs.References.{handed_in}
use Rattle.mo_eval.specs.steps.Selecting.{selections_seen}
use Rattle.mo_eval.proofs.Putting.{handed_by}
use Rattle.mo_eval.proofs.references.handed_in.Goals as goal

pub returns : goal.returns
returns c =
    let e = handed_by c.pop.new.self c.in-Some.last c.in_ok-dims.dims (rw c.as_slice.ensures at c.in_ok-dims.ensures) in
    subst (λ (x : Dims × List Subscript). IfOk c.handed_behind.result (λ handed. handed ≡ x)) (e ∙ ap (λ xs. handed_in (selections_seen xs)) (sym c.in-Some.ensures)) c.handed_behind.ensures
