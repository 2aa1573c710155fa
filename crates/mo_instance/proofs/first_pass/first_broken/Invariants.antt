-- The first rule of those that are left is the first of all.
use Rattle.std.proofs.Common.{◌≡◌, drop, map}
use Rattle.std.specs.Prelude.{option_copied}
use Rattle.mo_scope.specs.Worlds.{frames_of}
use Rattle.mo_names.specs.Sights.{walk_seen}
use Rattle.mo_mods.specs.PathSights.{claim_seen}
use Rattle.mo_instance.specs.steps.FirstPass.{broken_speech, is_replaced_by}
use Rattle.mo_instance.specs.Passes.{first_of_all}
use Rattle.mo_instance.specs.steps.Speeches.{speech_seen}
use Rattle.mo_instance.specs.steps.Walks.{walk_or_none}
use Rattle.mo_instance.proofs.first_pass.first_broken.Given as goal

abbrev pub invariant-loop-one : goal.invariant-loop-one
invariant-loop-one l =
    first_of_all (broken_speech (is_replaced_by (walk_or_none (frames_of l.s) (option_copied l.replaced))) (walk_seen (frames_of l.s) l.walk) (map claim_seen l.own)) (map speech_seen (drop l.one-index l.spoken))
    ≡ first_of_all (broken_speech (is_replaced_by (walk_or_none (frames_of l.s) (option_copied l.replaced))) (walk_seen (frames_of l.s) l.walk) (map claim_seen l.own)) (map speech_seen l.spoken)
