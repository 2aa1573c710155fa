use Rattle.std.proofs.Common.{◌≡◌, ◌<◌, ◌∙◌, refl, rules, arith}
use Rattle.mo_incidence.specs.Signature.{equations}
use Rattle.mo_incidence.specs.Assignment.{CoversAll}
use Rattle.mo_incidence.specs.Offsets.{ArePaired, by_number, by_place}
use Rattle.mo_incidence.specs.Transversal.{IsLeastSequence}
use Rattle.mo_pantelides.proofs.Fixing.{fixed_start, fixed_skip, fixed_tight, fixed_covers, fixed_least, tree_as, cost_next, cost_skip}
use Rattle.mo_pantelides.proofs.transversal.fix_all.Goals as goal

pub loop-root-init : goal.loop-root-init
loop-root-init g c = record {
  fixed = fixed_start _ _ _ _ _ _ _ c.copy_from_slice.ensures.after c.requires.sizes.1 (c.clear.auto.list ∙ c.requires.sizes.3) c.clear.ensures c.requires.matching c.requires.all;
  tree = tree_as c.requires.tree;
  same = (refl, refl);
  cost = omega arith;
}

pub loop-root-preserved-then-fixing-root-ne0 : goal.loop-root-preserved-then-fixing-root-ne0
loop-root-preserved-then-fixing-root-ne0 g c =
    let at : c.loop-root.root < equations c.args.inc.now = omega (arith, c.equations-equations.ensures.count) in
    record {
      fixed = fixed_skip _ _ _ _ _ _ _ _ _ c.equations-equations.ensures.sound c.requires.open c.loop-root.invariant.fixed at c.if-fixing-root-ne0.true;
      tree = c.loop-root.invariant.tree;
      same = c.loop-root.invariant.same;
      cost = cost_skip _ _ _ _ c.loop-root.invariant.cost;
    }

pub loop-root-preserved : goal.loop-root-preserved
loop-root-preserved g c =
    let before = c.loop-root.invariant in
    record {
      fixed = c.fix.ensures.fixed;
      tree = c.fix.ensures.tree;
      same = (c.fix.ensures.same.0 ∙ before.same.0, c.fix.ensures.same.1 ∙ before.same.1);
      cost = cost_next _ _ _ _ _ before.cost c.fix.ensures.cost;
    }

pub returns-clause-tight : goal.returns-clause-tight
returns-clause-tight g c =
    let at : c.loop-root.root ≡ equations c.args.inc.now = omega (arith, c.equations-equations.ensures.count) in
    let made : ArePaired c.args.inc.now (by_place c.args.priced.now.c.now) (by_number c.args.priced.now.d.now) (by_place c.loop-root.fixing.fixed.now) =
    fixed_tight _ _ _ _ _ _ _ _ (rw at at c.loop-root.invariant.fixed) in
    let kept = c.loop-root.invariant.same in
    search (rules, made, kept)

pub returns-clause-all : goal.returns-clause-all
returns-clause-all g c =
    let at : c.loop-root.root ≡ equations c.args.inc.now = omega (arith, c.equations-equations.ensures.count) in
    let made : CoversAll c.args.inc.now (by_place c.loop-root.fixing.fixed.now) = fixed_covers _ _ _ _ _ _ _ _ (rw at at c.loop-root.invariant.fixed) in
    let kept = c.loop-root.invariant.same in
    search (rules, made, kept)

pub returns-clause-least : goal.returns-clause-least
returns-clause-least g c =
    let at : c.loop-root.root ≡ equations c.args.inc.now = omega (arith, c.equations-equations.ensures.count) in
    let made : IsLeastSequence c.args.inc.now (by_place c.args.priced.now.c.now) (by_number c.args.priced.now.d.now) (by_place c.loop-root.fixing.fixed.now) =
    fixed_least _ _ _ _ _ _ _ _ (rw at at c.loop-root.invariant.fixed) in
    let kept = c.loop-root.invariant.same in
    search (rules, made, kept)
