-- What was made is a tree of instances.
use Rattle.std.proofs.Common.{◌<◌, List, ap, subst, sym, ◌∙◌}
use Rattle.mo_syntax.specs.declared.class.FileTree.{FileTree}
use Rattle.mo_scope.specs.Frames.{class_of}
use Rattle.mo_scope.specs.Instances.{Instance}
use Rattle.mo_scope.specs.Places.{Every}
use Rattle.mo_scope.specs.Rows.{Table, number_of_classes, table_of}
use Rattle.mo_scope.specs.Trees.{instances_in}
use Rattle.mo_names.proofs.Later.{table_later}
use Rattle.mo_instance.specs.Instances.{instances_of}
use Rattle.mo_instance.proofs.Later.{are_bound, are_instances, classes_exist}
use Rattle.mo_instance.proofs.Trees.{tree_of}
use Rattle.mo_instance.proofs.asked_class.instantiate.Goals as goal

pub returns-clause-exact : goal.returns-clause-exact
returns-clause-exact c = ap (λ (files : List FileTree). instances_of (table_of files) c.args.class.0) (sym c.in_ok-scopes.ensures.files) ∙ c.in_ok-instances.ensures.value

pub returns-clause-exist : goal.returns-clause-exist
returns-clause-exist c = are_instances c.instances_of.new.s c.in_ok-instances.instances c.in_ok-instances.ensures.stand

pub returns-clause-bound : goal.returns-clause-bound
returns-clause-bound c = are_bound c.instances_of.new.s c.in_ok-instances.instances c.in_ok-instances.ensures.stand

pub returns-clause-sound : goal.returns-clause-sound
returns-clause-sound c = λ row at.
    let S = c.instances_of.new.s in
    let seen : List Instance = instances_in S c.in_ok-instances.instances in
    tree_of (table_of c.args.tree.now.files) c.args.class.0 row seen at
    (ap (λ (files : List FileTree). instances_of (table_of files) c.args.class.0) (sym c.in_ok-scopes.ensures.files) ∙ c.in_ok-instances.ensures.value)
    (subst (λ (t : Table). Every (λ (one : Instance). class_of one.frame < number_of_classes t) seen)
    (table_later c.in_ok-scopes.scopes S c.in_ok-instances.ensures.grows ∙ ap table_of c.in_ok-scopes.ensures.files)
    (classes_exist S c.in_ok-instances.instances c.in_ok-instances.ensures.stand))
