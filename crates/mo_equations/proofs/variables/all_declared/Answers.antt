-- Instance by instance.
use Rattle.std.proofs.Common.{◌≡◌, ℕ, ◌+◌, ◌++◌, ◌∷◌, [], Err, length, rules, ap, sym, ◌∙◌}
use Rattle.mo_scope.specs.Trees.{IsInstance}
use Rattle.mo_scope.specs.Worlds.{frames_of}
use Rattle.mo_typing.specs.Outcome.{each}
use Rattle.mo_eval.specs.FrameBindings.{IsBoundByFrame}
use Rattle.mo_equations.specs.Variables.{all_declared, declared}
use Rattle.mo_equations.specs.steps.Declaring.{AreDeclared}
use Rattle.mo_equations.specs.steps.Standing.{tree_in}
use Rattle.mo_equations.proofs.AllDeclared.{all_break, all_given, counts, declared_there, gives_more, leaf_bound, leaf_exists, nowhere, passes, refused_at, variable_of}
use Rattle.mo_equations.proofs.Staying.{are_bound_later, is_instance_later, stays_on}
use Rattle.mo_equations.proofs.Tabled.{every_at}
use Rattle.mo_equations.proofs.variables.all_declared.Goals as goal

pub declare-requires : goal.declare-requires
declare-requires c =
    let u = c.args.s.now in
    let F = frames_of u in
    let v = c.loop-instance.s in
    let desk = c.args.desk.now in
    let tree = tree_in u desk.leaves in
    let xs = desk.leaves.instances.now in
    let i = c.loop-instance.instance-index in
    let item = c.instance-item.result in
    let small = c.loop-instance-test.true in
    let before = c.loop-instance.invariant in
    let exists = every_at (IsInstance u) xs i item c.requires.desk.leaves.exist small c.instance-item.is in
    let later = is_instance_later u v item before.0.goes.grows exists in
    record {
      variable = record {
        instance = later;
        leaf = leaf_exists v item c.in-Some.leaf later c.in-Some.is;
        bound = leaf_bound v item c.in-Some.leaf (every_at (IsBoundByFrame v) xs i item (are_bound_later u v xs before.0.goes.grows c.requires.desk.leaves.exist c.requires.desk.leaves.bound) small c.instance-item.is) c.in-Some.is;
      };
      desk = before.0.goes.desk;
    }

pub loop-instance-preserved-in_default : goal.loop-instance-preserved-in_default
loop-instance-preserved-in_default c =
    let u = c.args.s.now in
    let F = frames_of u in
    let v = c.loop-instance.s in
    let desk = c.args.desk.now in
    let tree = tree_in u desk.leaves in
    let xs = desk.leaves.instances.now in
    let i = c.loop-instance.instance-index in
    let item = c.instance-item.result in
    let small = c.loop-instance-test.true in
    let before = c.loop-instance.invariant in
    let same = passes F xs i item small c.instance-item.is (nowhere item.leaf c.in_default.not-Some) in
    (before.0, before.1 ∙ sym (ap length same), before.2, before.3, ap (each (declared tree)) same ∙ before.4)

pub loop-instance-preserved : goal.loop-instance-preserved
loop-instance-preserved c =
    let u = c.args.s.now in
    let F = frames_of u in
    let v = c.loop-instance.s in
    let desk = c.args.desk.now in
    let tree = tree_in u desk.leaves in
    let xs = desk.leaves.instances.now in
    let i = c.loop-instance.instance-index in
    let item = c.instance-item.result in
    let small = c.loop-instance-test.true in
    let before = c.loop-instance.invariant in
    let exists = every_at (IsInstance u) xs i item c.requires.desk.leaves.exist small c.instance-item.is in
    let leaf = c.in-Some.leaf in
    let n = c.loop-instance.number in
    let next = c.in-Some-checked_add.ensures.1 in
    let same = declared_there u v desk c.loop-instance.desk c.in-Some-checked_add.next item leaf c.requires.desk before.0.goes exists c.in-Some.is
    ∙ ap (λ (m : ℕ). declared tree (variable_of F m item leaf)) next in
    let told = c.in_ok-declare.ensures.exact before.2 before.3 in (
      stays_on u v c.declare.new.s desk c.loop-instance.desk c.declare.new.desk before.0 c.in_ok-declare.ensures.stays,
      next ∙ counts F xs i item leaf n small c.instance-item.is c.in-Some.is before.1,
      before.2 ++ told.0 ∷ [],
      told.2,
      gives_more F (declared tree) xs i item leaf n before.2 told.0 small c.instance-item.is c.in-Some.is before.1 before.4 (sym same ∙ told.1),
    )

pub returns-in_err-declare-clause-exact : goal.returns-in_err-declare-clause-exact
returns-in_err-declare-clause-exact c =
    let u = c.args.s.now in
    let F = frames_of u in
    let v = c.loop-instance.s in
    let desk = c.args.desk.now in
    let tree = tree_in u desk.leaves in
    let xs = desk.leaves.instances.now in
    let i = c.loop-instance.instance-index in
    let item = c.instance-item.result in
    let small = c.loop-instance-test.true in
    let before = c.loop-instance.invariant in
    let exists = every_at (IsInstance u) xs i item c.requires.desk.leaves.exist small c.instance-item.is in
    let leaf = c.in-Some.leaf in
    let n = c.loop-instance.number in
    let next = c.in-Some-checked_add.ensures.1 in
    let same = declared_there u v desk c.loop-instance.desk c.in-Some-checked_add.next item leaf c.requires.desk before.0.goes exists c.in-Some.is
    ∙ ap (λ (m : ℕ). declared tree (variable_of F m item leaf)) next in
    let stop = c.in_err-declare.field-0.0 in
    let p : c.from_residual.result ≡ Err stop = search rules in
    rw p (refused_at (Unit {0}) AreDeclared (declared (tree_in v c.loop-instance.desk.leaves) (variable_of (frames_of v) c.in-Some-checked_add.next item leaf)) (all_declared tree) stop c.in_err-declare.ensures.refused
    (λ broken h. all_break F (declared tree) xs i item leaf n before.2 broken small c.instance-item.is c.in-Some.is before.1 before.4 (sym same ∙ h)))

pub returns-clause-exact : goal.returns-clause-exact
returns-clause-exact c =
    let u = c.args.s.now in
    let before = c.loop-instance.invariant in
    (before.2, all_given (frames_of u) (declared (tree_in u c.args.desk.now.leaves)) c.args.desk.now.leaves.instances.now c.loop-instance.instance-index before.2 c.loop-instance-test.false before.4, before.3)

-- ---- what stays

pub returns-in_err-declare-clause-stays : goal.returns-in_err-declare-clause-stays
returns-in_err-declare-clause-stays c = stays_on c.args.s.now c.loop-instance.s c.declare.new.s c.args.desk.now c.loop-instance.desk c.declare.new.desk c.loop-instance.invariant.0 c.in_err-declare.ensures.stays

pub returns-clause-stays : goal.returns-clause-stays
returns-clause-stays c = c.loop-instance.invariant.0
