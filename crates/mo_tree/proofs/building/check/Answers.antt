-- No keys stand before the first file, and each file adds its own.
use Rattle.std.proofs.Common.{◌∙◌, ap, sym}
use Rattle.std.proofs.Math.Path.{fun_ext}
use Rattle.mo_syntax.proofs.Found.{front_of}
use Rattle.mo_tree.specs.Keys.{holds}
use Rattle.mo_tree.specs.steps.Repeats.{files_broken}
use Rattle.mo_tree.proofs.Breaking.{tree_alike}
use Rattle.mo_tree.proofs.Steps.{file_fits}
use Rattle.mo_tree.proofs.building.check.Goals as goal

pub loop-file-init : goal.loop-file-init
loop-file-init c = ap (λ k. files_broken c.args.files.now k 6 c.args.files.now) (fun_ext c.new-keys.ensures) ∙ sym (tree_alike c.args.files.now)

pub loop-file-preserved : goal.loop-file-preserved
loop-file-preserved c = file_fits c.args.files.now _ _ c.file-item.result (holds c.loop-file.keys) (holds c.put_all.new.keys) c.in_ok-home.home c.loop-file.next c.in_ok-next.next c.new-names.result c.file_names.new.names
    (front_of c.args.files.now c.loop-file.file-index c.file-item.result c.loop-file-test.true c.file-item.is) c.in_ok-home.ensures.accepted c.in_ok-home.ensures.number c.new-names.ensures c.in_ok-next.ensures
    c.in_ok-put_all.ensures.accepted c.in_ok-put_all.ensures.kept ∙ c.loop-file.invariant
