use Rattle.std.proofs.Common.{◌≡◌, get_or, refl, sym, ap, ◌∙◌, arith}
use Rattle.std.proofs.lemmas.List.{get_or_read}
use Rattle.mo_select.specs.declared.selection.Stage.{Stage}
use Rattle.mo_select.specs.Selection.{no_stage}
use Rattle.mo_select.proofs.Deepening.{depths_none, depths_next}
use Rattle.mo_select.proofs.states.note_stages.Goals as goal

pub loop-k-init : goal.loop-k-init
loop-k-init c = depths_none _ _ _ refl c.requires.clear

pub note_stage-requires : goal.note_stage-requires
note_stage-requires c =
    let at = get_or_read c.args.stages.now c.loop-k.k c.index-stages-k.result (omega arith) c.index-stages-k.is no_stage in
    let slice : c.as_slice.result.now ≡ (get_or c.args.stages.now c.loop-k.k no_stage).chosen = c.as_slice.ensures ∙ ap (λ (s : Stage). s.chosen) (sym c.index-stages-k.is ∙ at) in
    λ j there.
    let known = c.requires.known c.loop-k.k j (omega arith) (rw slice at there) in
    (known.0, omega (arith, known.1, c.loop-k.invariant.size))

pub loop-k-preserved : goal.loop-k-preserved
loop-k-preserved c =
    let at = get_or_read c.args.stages.now c.loop-k.k c.index-stages-k.result (omega arith) c.index-stages-k.is no_stage in
    let slice : c.as_slice.result.now ≡ (get_or c.args.stages.now c.loop-k.k no_stage).chosen = c.as_slice.ensures ∙ ap (λ (s : Stage). s.chosen) (sym c.index-stages-k.is ∙ at) in
    depths_next _ _ _ _ _ (omega arith) c.requires.nested c.loop-k.invariant c.note_stage.auto.depth (rw slice at c.note_stage.ensures)
