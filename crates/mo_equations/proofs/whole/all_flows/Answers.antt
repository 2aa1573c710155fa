-- One variable more.
use Rattle.std.proofs.Common.{ℕ, ◌++◌, List, flat_map, ap, sym, ◌∙◌, arith}
use Rattle.std.proofs.lemmas.List.{take_all}
use Rattle.mo_syntax.specs.declared.place.Place.{Place}
use Rattle.mo_scope.specs.Worlds.{frames_of}
use Rattle.mo_equations.specs.Leaves.{variables_of}
use Rattle.mo_equations.specs.steps.Standing.{tree_in}
use Rattle.mo_equations.specs.steps.LeafTables.{flow_at, flow_in}
use Rattle.mo_equations.proofs.Flowing.{flows_step, places_many}
use Rattle.mo_equations.proofs.whole.all_flows.Goals as goal

pub loop-k-preserved : goal.loop-k-preserved
loop-k-preserved c =
    let tree = tree_in c.args.s.now c.args.leaves.now in
    c.in_ok-put_flow.ensures ∙ (ap (λ (fs : List (ℕ × Place)). fs ++ flow_at tree c.loop-k.k) c.loop-k.invariant ∙ sym (flows_step tree c.loop-k.k))

pub returns : goal.returns
returns c =
    let tree = tree_in c.args.s.now c.args.leaves.now in
    let many = places_many c.args.leaves.now (frames_of c.args.s.now) c.requires.places in
    let over = c.loop-k-test.false in
    let counted = c.len-k-end.ensures in
    c.loop-k.invariant ∙ ap (flat_map (flow_in tree)) (take_all c.loop-k.k (variables_of tree) (omega (arith, many, over, counted)))
