-- A path is found by its text, and compared.
use Rattle.std.proofs.Common.{◌≡◌, None, Some, true, ap, sym, ◌∙◌}
use Rattle.std.specs.HashMap.{get_by_text}
use Rattle.std.specs.Borrow.{Bor}
use Rattle.mo_syntax.specs.declared.meaning.InstancePath.{InstancePath}
use Rattle.mo_scope.specs.Frames.{indexed_eq}
use Rattle.mo_equations.specs.Leaves.{path_text}
use Rattle.mo_equations.specs.steps.Tables.{paths_seen, place_of_text}
use Rattle.mo_equations.proofs.Places.{no_text_no_path, path_of_text, seen_at}
use Rattle.mo_equations.proofs.table.PathTable.place.Goals as goal

pub returns-in_default : goal.returns-in_default
returns-in_default c =
    let paths = paths_seen c.args.self.now in
    let path = c.args.path.now in
    let text : c.as_str.result.now ≡ path_text path = c.as_str.ensures.value ∙ c.in_ok-text.ensures in
    let none : place_of_text paths (path_text path) ≡ None = sym (c.requires.is.places (path_text path)) ∙ (ap (get_by_text c.args.self.now.places) (sym text) ∙ sym c.in_default.ensures.value) in
    sym (no_text_no_path paths path none)

pub returns-then-same_path : goal.returns-then-same_path
returns-then-same_path c =
    let paths = paths_seen c.args.self.now in
    let path = c.args.path.now in
    let k = c.in-Some.place.now in
    let text : c.as_str.result.now ≡ path_text path = c.as_str.ensures.value ∙ c.in_ok-text.ensures in
    let some : place_of_text paths (path_text path) ≡ Some k = sym (c.requires.is.places (path_text path)) ∙ (ap (get_by_text c.args.self.now.places) (sym text) ∙ sym c.in-Some.ensures.value) in
    let at = seen_at (λ (p : Bor InstancePath). p.now.0) c.args.self.now.paths k c.in-Some-get.found.now (sym c.in-Some-get.ensures) in
    let same : indexed_eq c.in-Some-get.found.now.now.0 path ≡ true = rw c.as_slice.ensures at (sym c.same_path.ensures ∙ c.if-same_path.true) in
    sym (path_of_text paths path c.in-Some-get.found.now.now.0 k some at same)
