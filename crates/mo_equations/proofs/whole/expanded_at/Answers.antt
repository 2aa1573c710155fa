-- The variables, then the sections, then the rest.
use Rattle.std.proofs.Common.{◌≡◌, ◌∙◌, ap, subst, sym, Err, Ok, rules}
use Rattle.mo_equations.specs.Counted.{GivesExpansion}
use Rattle.mo_equations.specs.Leaves.{Tree}
use Rattle.mo_equations.specs.Variables.{all_declared}
use Rattle.mo_equations.specs.steps.Standing.{tree_in}
use Rattle.mo_equations.specs.steps.Placing.{parts_of_tree}
use Rattle.mo_equations.proofs.Expanding.{declared_stop, parts_as}
use Rattle.mo_equations.proofs.Staying.{goes_on, same_tree}
use Rattle.mo_equations.proofs.whole.expanded_at.Goals as goal

pub returns-in_err-declared-clause-exact : goal.returns-in_err-declared-clause-exact
returns-in_err-declared-clause-exact c =
    let stop = c.in_err-declared.field-0.0 in
    let p : c.from_residual.result ≡ Err stop = search rules in
    rw p (declared_stop (tree_in c.args.s.now c.args.desk.now.leaves) stop c.in_err-declared.ensures.exact)

pub returns-clause-exact : goal.returns-clause-exact
returns-clause-exact c =
    let s = c.args.s.now in
    let desk = c.args.desk.now in
    let tree = tree_in s desk.leaves in
    let later = c.all_declared.new in
    let last = c.all_parts-parts.new in
    let told = c.in_ok-declared.ensures.exact in
    let stays = c.in_ok-declared.ensures.stays in
    let same = same_tree s later.s desk later.desk c.requires.desk stays.goes in
    let goes = goes_on s later.s last.s desk later.desk last.desk stays.goes c.all_parts-parts.ensures.goes in
    let at_last = same_tree s last.s desk last.desk c.requires.desk goes in
    let declared = subst (λ (t : Tree). all_declared t ≡ Ok told.0) (sym at_last) told.1 in
    let parts = parts_as c.all_parts-parts.result last.desk _ (parts_of_tree (tree_in last.s last.desk.leaves) 0)
    (ap (λ (t : Tree). parts_of_tree t later.desk.turns) (same ∙ sym at_last) ∙ ap (parts_of_tree (tree_in last.s last.desk.leaves)) (stays.turns ∙ c.requires.turns)) c.all_parts-parts.ensures.exact in
    subst (GivesExpansion c.with_parts.result) at_last (c.with_parts.ensures told.0 declared told.2 parts)
