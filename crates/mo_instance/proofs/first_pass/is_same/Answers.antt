-- The names of both.
use Rattle.std.proofs.Common.{ℕ, Bor, List, ap, map, ◌∙◌}
use Rattle.mo_syntax.specs.ClassTable.{path_eq}
use Rattle.mo_instance.proofs.first_pass.is_same.Goals as goal

pub returns : goal.returns
returns c =
    c.is_path.ensures
    ∙ ap (λ (xs : List (Bor (List ℕ))). path_eq (map (λ name. name.now) xs) (map (λ name. name.now) c.as_slice-2.result.now)) c.as_slice.ensures
    ∙ ap (λ (xs : List (Bor (List ℕ))). path_eq (map (λ name. name.now) c.args.other.now.path) (map (λ name. name.now) xs)) c.as_slice-2.ensures
