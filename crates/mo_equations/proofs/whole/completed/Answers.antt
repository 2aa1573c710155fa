-- The parts with the name and the flows.
use Rattle.std.proofs.Common.{◌≡◌, List, Result, Ok, Err, sym, subst, refl}
use Rattle.std.specs.Prelude.{IfOk}
use Rattle.mo_equations.specs.declared.whole.Expansion.{Expansion}
use Rattle.mo_equations.specs.Counted.{IsExpansion}
use Rattle.mo_equations.specs.Connectors.{all_flows}
use Rattle.mo_equations.specs.Expansion.{Parts, name_of_root}
use Rattle.mo_equations.specs.Variables.{Declared}
use Rattle.mo_equations.specs.steps.Declaring.{AreDeclared, expanded_from}
use Rattle.mo_equations.specs.steps.Standing.{tree_in}
use Rattle.mo_equations.specs.steps.Placing.{AreParts}
use Rattle.mo_equations.proofs.whole.completed.Goals as goal

if_ok : {E : Type 0} (result : Result Expansion E) (P Q : Expansion → Type 0) → ((made : Expansion) → P made → Q made) → IfOk result P → IfOk result Q
if_ok (Ok made) P Q f h = f made h
if_ok (Err e) P Q f h = tt

held_ok : {A E : Type 0} (r : Result A E) (x : A) (P : A → Type 0) → r ≡ Ok x → IfOk r P → P x
held_ok r x P e h = subst (λ s. IfOk s P) e h

pub returns : goal.returns
returns c =
    let tree = tree_in c.args.s.now c.args.desk.now.leaves in
    let values = c.in_ok-name.ensures.values in
    let name = held_ok c.name_of_root-name.result c.in_ok-name.name (λ name. name ≡ name_of_root tree) values.0 c.name_of_root-name.ensures in
    let flows = held_ok c.all_flows-flows.result c.in_ok-name.flows (λ flows. flows ≡ all_flows tree) values.1 c.all_flows-flows.ensures in
    if_ok c.put_together.result _
    (λ made. (all : List Declared) (of : List Parts) → AreDeclared c.args.declared all → AreParts c.args.parts of → IsExpansion made (expanded_from tree all of))
    (λ made h all of declared are. h all of (expanded_from tree all of) declared are (tree, refl) (sym name) (sym c.requires.asked) (sym flows))
    c.put_together.ensures
