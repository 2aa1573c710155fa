-- What stands behind a path, name by name.
use Rattle.std.proofs.Common.{◌≡◌, Bool, true, false, List, [], ◌∷◌, Some, None, if◌then◌else◌, ℕ, ap, sym, ◌∙◌}
use Rattle.mo_scope.specs.Frames.{Indexed}
use Rattle.mo_equations.specs.Leaves.{behind}
use Rattle.mo_equations.specs.steps.Tables.{step_eq}

pub all_behind : (path other : Indexed) → path ≡ [] → Some other ≡ behind path other
all_behind path other e = ap (λ (p : Indexed). behind p other) (sym e)

module _ (path other more : Indexed) (step : List ℕ × List ℕ) (p : path ≡ step ∷ more) where
  pub none_behind : other ≡ [] → None ≡ behind path other
  none_behind e = ap (λ (o : Indexed). behind (step ∷ more) o) (sym e) ∙ ap (λ (q : Indexed). behind q other) (sym p)

  module _ (rest : Indexed) (first : List ℕ × List ℕ) (q : other ≡ first ∷ rest) where
    whole : behind (step ∷ more) (first ∷ rest) ≡ behind path other
    whole = ap (λ (o : Indexed). behind (step ∷ more) o) (sym q) ∙ ap (λ (x : Indexed). behind x other) (sym p)

    pub same_first : step_eq step first ≡ true → behind more rest ≡ behind path other
    same_first h = sym (ap (λ (b : Bool). if b then behind more rest else None) h) ∙ whole

    pub other_first : step_eq step first ≡ false → None ≡ behind path other
    other_first h = sym (ap (λ (b : Bool). if b then behind more rest else None) h) ∙ whole
