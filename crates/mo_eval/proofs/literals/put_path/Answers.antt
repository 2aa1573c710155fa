use Rattle.std.proofs.Common.{◌≡◌, ◌++◌, ◌∷◌, [], Some, append_assoc, ap, refl, sym, ◌∙◌}
use Rattle.std.specs.Prelude.{string_bytes}
use Rattle.mo_scope.specs.Rows.{row_at}
use Rattle.mo_scope.specs.Sights.{row_seen}
use Rattle.mo_scope.specs.Worlds.{table_in}
use Rattle.mo_eval.specs.Resolving.{path_of_class}
use Rattle.mo_eval.specs.steps.Spelling.{home_path, with_dots}
use Rattle.mo_eval.proofs.Spelled.{dotted_last}
use Rattle.mo_eval.proofs.literals.put_path.Goals as goal

pub returns-in_ok-push_str-in-Some : goal.returns-in_ok-push_str-in-Some
returns-in_ok-push_str-in-Some c =
    let table = table_in c.args.s.now in
    let row = row_seen c.in-Some.row.now in
    let before = string_bytes c.args.text.now in
    let found : row_at table c.args.class.0 ≡ Some row = sym (rw c.in-Some.is at c.row.ensures.is) in
    let path : path_of_class table c.args.class.0 ≡ home_path row.home ++ row.class.name ∷ [] = rw found refl in
    rw (c.in_ok-push_str-in-Some.ensures.bytes, c.in_ok-put_home-in-Some.ensures, c.as_str.ensures, path)
    (append_assoc before (with_dots (home_path row.home)) row.class.name ∙ ap (λ text. before ++ text) (sym (dotted_last (home_path row.home) row.class.name)))
