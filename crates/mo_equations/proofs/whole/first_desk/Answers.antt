-- Nothing was read yet.
use Rattle.std.proofs.Common.{◌≡◌, ◌∙◌, List, Option, Some, None, sym, ap, subst}
use Rattle.mo_scope.specs.Places.{Every}
use Rattle.mo_scope.specs.declared.instance.Instance.{Instance as InstanceAt}
use Rattle.mo_equations.specs.declared.desk.KeptConstant.{KeptConstant}
use Rattle.mo_equations.specs.Leaves.{place_of_root}
use Rattle.mo_equations.specs.steps.Sharing.{IsShared}
use Rattle.mo_equations.proofs.Expanding.{tree_with}
use Rattle.mo_equations.proofs.whole.first_desk.Goals as goal

pub returns-clause-desk : goal.returns-clause-desk
returns-clause-desk c = record {
  reader = c.new-reader.ensures c.args.s.now;
  leaves = c.in_ok-leaves.ensures.is;
  constants = λ k kept at. absurd (let clash : ◌≡◌ {A = Option KeptConstant} None (Some kept) = rw c.new-constants.ensures at at in cc);
  binding = tt;
  read = tt;
  shared = subst (Every (IsShared c.args.s.now c.in_ok-leaves.leaves)) (sym c.new.ensures.items) tt;
  asked = c.place_of_root-asked.ensures c.args.s.now ∙ ap (λ (is : List InstanceAt). place_of_root (tree_with c.args.s.now is)) (sym c.in_ok-leaves.ensures.instances);
}
