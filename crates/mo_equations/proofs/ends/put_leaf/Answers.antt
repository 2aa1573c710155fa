-- The leaf of a number.
use Rattle.std.proofs.Common.{◌≡◌, ◌-◌, Bool, ◌++◌, List, None, Some, false, option_copied, ap, sym, subst, ◌∙◌}
use Rattle.std.specs.Prelude.{OnOk, slice_get}
use Rattle.std.proofs.lemmas.List.{append-nil}
use Rattle.mo_flat.specs.declared.connect.EndLeaf.{EndLeaf}
use Rattle.mo_scope.specs.declared.instance.Instance.{Instance}
use Rattle.mo_scope.specs.Frames.{Indexed}
use Rattle.mo_scope.specs.Trees.{instances_in}
use Rattle.mo_scope.specs.Worlds.{frames_of, table_in}
use Rattle.mo_equations.specs.Connectors.{is_connector, is_declared_flow}
use Rattle.mo_equations.specs.Leaves.{behind}
use Rattle.mo_equations.specs.steps.Standing.{tree_in}
use Rattle.mo_equations.specs.steps.LeafTables.{is_flow_by, leaves_in, paths_that}
use Rattle.mo_equations.proofs.Located.{is_behind, not_behind, not_joined, positive_by, variable_of}
use Rattle.mo_equations.proofs.Making.{some_is}
use Rattle.mo_equations.proofs.Places.{seen_at}
use Rattle.mo_equations.proofs.ends.put_leaf.Goals as goal

pub returns-then-not-is_joined_leaf : goal.returns-then-not-is_joined_leaf
returns-then-not-is_joined_leaf c =
    let u = c.args._s.now in
    let leaves = c.args.leaves.now in
    let n = c.args.number in
    let i = c.in-Some.variable.now in
    let at : slice_get (leaves_in leaves.instances.now) (n - 1) ≡ Some i = sym c.variable.ensures ∙ ap option_copied c.in-Some.is in
    let v = variable_of (frames_of u) i 1 (n - 1) leaves.instances.now at in
    let none = not_joined (tree_in u leaves) c.args.path.now (frames_of u) i n v (positive_by n c.if-number-eq0.false) (sym c.if-not-is_joined_leaf.ensures) in
    sym (append-nil c.args.made.now) ∙ ap (λ (ls : List EndLeaf). c.args.made.now ++ ls) (sym none)

pub returns-in_default-behind : goal.returns-in_default-behind
returns-in_default-behind c =
    let u = c.args._s.now in
    let leaves = c.args.leaves.now in
    let n = c.args.number in
    let i = c.in-Some.variable.now in
    let at : slice_get (leaves_in leaves.instances.now) (n - 1) ≡ Some i = sym c.variable.ensures ∙ ap option_copied c.in-Some.is in
    let v = variable_of (frames_of u) i 1 (n - 1) leaves.instances.now at in
    let apart : behind c.args.path.now i.path.0 ≡ None = ap (behind c.args.path.now) (sym c.as_slice.ensures) ∙ sym c.in_default-behind.ensures in
    let none = not_behind (tree_in u leaves) c.args.path.now (frames_of u) i n v (positive_by n c.if-number-eq0.false) apart in
    sym (append-nil c.args.made.now) ∙ ap (λ (ls : List EndLeaf). c.args.made.now ++ ls) (sym none)

pub returns : goal.returns
returns c =
    let u = c.args._s.now in
    let leaves = c.args.leaves.now in
    let n = c.args.number in
    let i = c.in-Some.variable.now in
    let all = instances_in u leaves.instances.now in
    let at : slice_get (leaves_in leaves.instances.now) (n - 1) ≡ Some i = sym c.variable.ensures ∙ ap option_copied c.in-Some.is in
    let v = variable_of (frames_of u) i 1 (n - 1) leaves.instances.now at in
    let flows_of = λ (instance : Instance). is_flow_by (paths_that (is_connector (table_in u)) all) (paths_that (is_declared_flow (table_in u)) all) instance in
    let held : slice_get leaves.flows (n - 1) ≡ Some (flows_of i) = ap (λ (bs : List Bool). slice_get bs (n - 1)) c.requires.flows ∙ seen_at flows_of (leaves_in leaves.instances.now) (n - 1) i at in
    let flow : c.in-Some-get.flow.now ≡ flows_of i = some_is (flows_of i) c.in-Some-get.flow.now (sym held ∙ sym c.in-Some-get.ensures) in
    let below : behind c.args.path.now i.path.0 ≡ Some c.in_ok-below.below =
    ap (behind c.args.path.now) (sym c.as_slice.ensures) ∙ (sym c.in-Some-behind.ensures ∙ ap (λ (p : Indexed). Some p) (sym c.in_ok-below.ensures)) in
    let leaf = is_behind (tree_in u leaves) c.args.path.now (frames_of u) i n v (positive_by n c.if-number-eq0.false) c.in_ok-below.below c.in-Some-get.flow.now (sym c.if-not-is_joined_leaf.ensures) below flow in
    subst (λ (ls : List EndLeaf). OnOk c.push.result (c.push.new.self ≡ c.args.made.now ++ ls)) (sym leaf) c.push.ensures.ok
