-- The row of the class is that of its number.
use Rattle.std.proofs.Common.{◌≡◌, Some, None, ap, ◌∙◌}
use Rattle.std.proofs.lemmas.Result.{IfOk-weaker}
use Rattle.mo_scope.specs.Rows.{Row}
use Rattle.mo_scope.specs.Sights.{row_seen}
use Rattle.mo_instance.specs.steps.Roots.{names_seen, path_of_home}
use Rattle.mo_instance.proofs.root.path_of_class.Goals as goal

pub returns-in-Some : goal.returns-in-Some
returns-in-Some c =
    IfOk-weaker c.copied.result _ _
    (λ made is row at.
    let same : row_seen c.in-Some.row.now ≡ row = let one : Some (row_seen c.in-Some.row.now) ≡ Some row = c.in-Some.ensures.is ∙ at in cc in
    ap names_seen is ∙ c.path_around.ensures ∙ ap (λ (r : Row). path_of_home r.home) same)
    c.copied.ensures

pub returns-in-None : goal.returns-in-None
returns-in-None c = λ row at. absurd (let one : None ≡ Some row = c.in-None.ensures.is ∙ at in cc)
