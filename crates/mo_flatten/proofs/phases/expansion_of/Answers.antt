-- Instances, then what they give.
use Rattle.std.proofs.Common.{◌≡◌, Err, List, ap, sym, subst, rules}
use Rattle.mo_syntax.specs.declared.class.FileTree.{FileTree}
use Rattle.mo_syntax.specs.SoundTree.{any_name}
use Rattle.mo_scope.specs.Instances.{IsInstanceTree}
use Rattle.mo_scope.specs.Rows.{Table, table_of}
use Rattle.mo_scope.specs.Trees.{tree_seen}
use Rattle.mo_equations.specs.Counted.{tree_of}
use Rattle.mo_flatten.proofs.Telling.{expanded_told, instances_stop}
use Rattle.mo_flatten.proofs.phases.expansion_of.Goals as goal

pub returns-in_err-instances-clause-told : goal.returns-in_err-instances-clause-told
returns-in_err-instances-clause-told c =
    let stop = c.in_err-instances.field-0.0 in
    let p : c.from_residual.result ≡ Err stop = search rules in
    rw p (instances_stop tree_seen c.args.tree.now.files c.args.class.0 stop c.in_err-instances.ensures.exact)

pub expand-requires-clause-instances : goal.expand-requires-clause-instances
expand-requires-clause-instances c =
    let table = ap table_of c.in_ok-instances.ensures.files in
    record {
      naming = any_name;
      are = subst (λ (t : Table). IsInstanceTree any_name t (tree_seen c.in_ok-instances.instances)) (sym table) (c.in_ok-instances.ensures.sound c.requires.row.row c.requires.row.is);
    }

pub returns-clause-told : goal.returns-clause-told
returns-clause-told c =
    let seen = tree_seen c.in_ok-instances.instances in
    expanded_told c.expand.result c.args.tree.now.files c.args.class.0 (tree_of c.in_ok-instances.instances) seen c.in_ok-instances.ensures.exact
    (ap (λ (files : List FileTree). record { classes = table_of files; instances = seen }) c.in_ok-instances.ensures.files) c.expand.ensures.exact
