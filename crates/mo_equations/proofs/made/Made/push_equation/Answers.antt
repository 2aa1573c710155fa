-- One equation behind those before.
use Rattle.std.proofs.Common.{[], ◌∷◌}
use Rattle.mo_equations.specs.Gathering.{made_equations}
use Rattle.mo_equations.proofs.Making.{on_ok}
use Rattle.mo_equations.proofs.made.Made.push_equation.Goals as goal

pub returns : goal.returns
returns c =
    on_ok c.append.result
    (λ h made l r is left right. h made (made_equations (record { left = l; right = r; place = c.args.place } ∷ [])) is (c.in_ok-one.ensures l r left right))
    c.append.ensures
