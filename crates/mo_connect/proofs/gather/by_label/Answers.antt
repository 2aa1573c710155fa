use Rattle.std.proofs.Common.{◌<◌, [], ◌∷◌, ◌++◌, length, get_or, ap, ◌∙◌, arith}
use Rattle.mo_connect.specs.steps.Labels.{face_at}
use Rattle.std.proofs.lemmas.List.{length-set, get_or_default}
use Rattle.mo_connect.proofs.LabelledLemmas.{labelled_more}
use Rattle.mo_connect.proofs.gather.by_label.Goals as goal

pub loop-n-preserved : goal.loop-n-preserved
loop-n-preserved c =
    let low = c.requires.forest c.loop-n.n c.loop-n-test.true in
    let size = c.loop-n.invariant.0 in
    let within : get_or c.args.labels.now c.loop-n.n 0 < length c.loop-n.made.items = omega arith in
    let h = c.index_mut.ensures.value in
    (length-set _ _ _ ∙ c.loop-n.invariant.0, labelled_more _ _ _ _ within (c.in_ok-put_face.ensures ∙ ap (λ l. l ++ face_at c.loop-n.n ∷ []) (h ∙ get_or_default _ _ _ _ within)) c.loop-n.invariant.1)
