-- What the source breaks, by what it speaks of.
use Rattle.std.proofs.Common.{List, map, ap, ◌∙◌}
use Rattle.std.specs.Prelude.{option_copied}
use Rattle.mo_scope.specs.Arguments.{Claim}
use Rattle.mo_scope.specs.Sights.{source_seen}
use Rattle.mo_scope.specs.Worlds.{frame_at, frames_of, source_in, table_in}
use Rattle.mo_names.specs.Sights.{walk_seen}
use Rattle.mo_mods.specs.PathSights.{claim_seen}
use Rattle.mo_instance.specs.steps.FirstPass.{against, broken_speech, is_replaced_by}
use Rattle.mo_instance.specs.Passes.{first_of_all}
use Rattle.mo_instance.specs.steps.Speeches.{speech_seen}
use Rattle.mo_instance.specs.steps.Walks.{walk_or_none}
use Rattle.mo_instance.proofs.Passing.{source_is}
use Rattle.mo_instance.proofs.first_pass.broken_source.Goals as goal

pub returns : goal.returns
returns c =
    let F = frames_of c.args.s.now in
    let T = table_in c.args.s.now in
    let f = frame_at c.args.s.now c.args.frame.0 in
    let R = is_replaced_by (walk_or_none F (option_copied c.args.replaced)) in
    let W = walk_seen F c.args.walk.now in
    let S = source_in F (source_seen c.args.source.now) in
    c.first_broken.ensures
    ∙ ap (λ (own : List Claim). first_of_all (broken_speech R W own) (map speech_seen c.as_slice-2.result.now)) (ap (map claim_seen) c.as_slice.ensures ∙ c.in_ok-own.ensures)
    ∙ ap (first_of_all (broken_speech R W (against T f S.piece.origin))) (ap (map speech_seen) c.as_slice-2.ensures ∙ c.in_ok-spoken.ensures F)
    ∙ source_is T f R W S
