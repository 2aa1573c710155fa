-- The numbers under the text of a path are those of the leaves below it.
use Rattle.std.proofs.Common.{◌≡◌, ℕ, [], List, flat_map, ap, sym, ◌∙◌}
use Rattle.std.specs.HashMap.{get_by_text}
use Rattle.mo_scope.specs.Worlds.{frames_of, table_in}
use Rattle.mo_equations.specs.Leaves.{path_text}
use Rattle.mo_equations.specs.steps.Standing.{tree_in}
use Rattle.mo_equations.specs.steps.LeafTables.{leaf_at_number, leaves_in, numbers_at, numbers_or_none}
use Rattle.mo_equations.proofs.Located.{leaves_located}
use Rattle.mo_equations.proofs.Making.{if_ok}
use Rattle.mo_equations.proofs.ends.leaves_below.Goals as goal

pub returns-in-Some : goal.returns-in-Some
returns-in-Some c =
    let leaves = c.args.leaves.now in
    let path = c.args.path.now in
    let tree = tree_in c.args.s.now leaves in
    let text : c.as_str.result.now ≡ path_text path = c.as_str.ensures.value ∙ c.in_ok-text.ensures in
    let held : numbers_or_none (get_by_text leaves.below (path_text path)) ≡ c.in-Some.numbers.now = ap (λ (t : List ℕ). numbers_or_none (get_by_text leaves.below t)) (sym text) ∙ ap numbers_or_none (sym c.in-Some.ensures.value) in
    let numbers : c.in-Some.numbers.now ≡ numbers_at (leaves_in leaves.instances.now) (path_text path) = sym held ∙ c.requires.below (path_text path) in
    if_ok c.leaves_of_numbers.result
    (λ made h. h ∙ (ap (flat_map (leaf_at_number tree path)) (c.as_slice.ensures ∙ numbers) ∙ leaves_located (table_in c.args.s.now) (frames_of c.args.s.now) leaves.instances.now path))
    c.leaves_of_numbers.ensures

pub returns : goal.returns
returns c =
    let leaves = c.args.leaves.now in
    let path = c.args.path.now in
    let tree = tree_in c.args.s.now leaves in
    let text : c.as_str.result.now ≡ path_text path = c.as_str.ensures.value ∙ c.in_ok-text.ensures in
    let held : numbers_or_none (get_by_text leaves.below (path_text path)) ≡ [] = ap (λ (t : List ℕ). numbers_or_none (get_by_text leaves.below t)) (sym text) ∙ ap numbers_or_none (sym c.in-None.ensures.value) in
    let none : numbers_at (leaves_in leaves.instances.now) (path_text path) ≡ [] = sym (c.requires.below (path_text path)) ∙ held in
    c.new.ensures ∙ (ap (flat_map (leaf_at_number tree path)) (sym none) ∙ leaves_located (table_in c.args.s.now) (frames_of c.args.s.now) leaves.instances.now path)
