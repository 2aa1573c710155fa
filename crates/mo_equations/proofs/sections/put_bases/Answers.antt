-- One base more.
use Rattle.std.proofs.Common.{◌≡◌, ◌+◌, ◌++◌, ◌∷◌, [], List, take, ap, sym, ◌∙◌, append_assoc}
use Rattle.std.proofs.lemmas.List.{take_more}
use Rattle.mo_syntax.specs.declared.meaning.FrameId.{FrameId}
use Rattle.mo_equations.specs.steps.Placing.{last_frame, last_frames}
use Rattle.mo_equations.proofs.Parted.{first_is, last_more}
use Rattle.mo_equations.proofs.sections.put_bases.Goals as goal

pub loop-through-preserved : goal.loop-through-preserved
loop-through-preserved c =
    let bases = c.args.bases.now in
    let i = c.loop-through.through-index in
    let base = c.through-item.result in
    let one : last_frame base ≡ c.in-Some.frame.now ∷ [] = first_is base c.in-Some.frame.now (sym c.in-Some.ensures) in
    let more : last_frames (take (i + 1) bases) ≡ last_frames (take i bases) ++ c.in-Some.frame.now ∷ [] =
    ap last_frames (take_more bases i base c.loop-through-test.true ∙ ap (λ (b : List FrameId). take i bases ++ b ∷ []) (sym c.through-item.is))
    ∙ (last_more (take i bases) base ∙ ap (λ (fs : List FrameId). last_frames (take i bases) ++ fs) one) in
    c.in_ok-push-in-Some.ensures.ok ∙ (ap (λ (fs : List FrameId). fs ++ c.in-Some.frame.now ∷ []) c.loop-through.invariant
    ∙ (append_assoc c.args.frames.now (last_frames (take i bases)) (c.in-Some.frame.now ∷ []) ∙ ap (λ (fs : List FrameId). c.args.frames.now ++ fs) (sym more)))
