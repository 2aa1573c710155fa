use Rattle.std.proofs.Common.{◌≡◌, length, arith}
use Rattle.mo_connect.proofs.LabelLemmas.{labels_of}
use Rattle.mo_connect.proofs.labels.label_all.Goals as goal

pub returns : goal.returns
returns c =
    let size : length c.unite_all.new.parent ≡ length c.args.parent.now = omega arith in
    rw size at (labels_of _ _ _ c.unite_all.ensures c.flatten.ensures.shortens c.flatten.ensures.flat)
