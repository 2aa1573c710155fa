-- One argument after another.
use Rattle.std.proofs.Common.{List, map, ap, sym, ◌∙◌}
use Rattle.std.specs.Prelude.{option_copied}
use Rattle.std.proofs.lemmas.List.{drop_all}
use Rattle.mo_scope.specs.Worlds.{frames_of}
use Rattle.mo_names.specs.Sights.{walk_seen}
use Rattle.mo_names.proofs.Circling.{left_from}
use Rattle.mo_mods.specs.PathSights.{claim_seen}
use Rattle.mo_instance.specs.declared.spoken.Spoken.{Spoken as SpokenAt}
use Rattle.mo_instance.specs.steps.FirstPass.{broken_speech, is_replaced_by}
use Rattle.mo_instance.specs.Passes.{first_of_all}
use Rattle.mo_instance.specs.steps.Speeches.{speech_seen}
use Rattle.mo_instance.specs.steps.Walks.{walk_or_none}
use Rattle.mo_instance.proofs.Lists.{later_none, later_some}
use Rattle.mo_instance.proofs.first_pass.first_broken.Goals as goal

pub returns-in-Some : goal.returns-in-Some
returns-in-Some c =
    let F = frames_of c.args.s.now in
    let G = λ (xs : List SpokenAt). first_of_all (broken_speech (is_replaced_by (walk_or_none F (option_copied c.args.replaced))) (walk_seen F c.args.walk.now) (map claim_seen c.args.own.now)) (map speech_seen xs) in
    later_some _ _ _ c.in-Some.broken c.in-Some.ensures (left_from G c.args.spoken.now c.loop-one.one-index c.one-item.result _ c.loop-one-test.true c.one-item.is c.loop-one.invariant)

pub loop-one-preserved : goal.loop-one-preserved
loop-one-preserved c =
    let F = frames_of c.args.s.now in
    let G = λ (xs : List SpokenAt). first_of_all (broken_speech (is_replaced_by (walk_or_none F (option_copied c.args.replaced))) (walk_seen F c.args.walk.now) (map claim_seen c.args.own.now)) (map speech_seen xs) in
    later_none _ _ _ c.in-None.ensures (left_from G c.args.spoken.now c.loop-one.one-index c.one-item.result _ c.loop-one-test.true c.one-item.is c.loop-one.invariant)

pub returns : goal.returns
returns c =
    let F = frames_of c.args.s.now in
    let G = λ (xs : List SpokenAt). first_of_all (broken_speech (is_replaced_by (walk_or_none F (option_copied c.args.replaced))) (walk_seen F c.args.walk.now) (map claim_seen c.args.own.now)) (map speech_seen xs) in
    ap G (sym (drop_all c.loop-one.one-index c.args.spoken.now c.loop-one-test.false)) ∙ c.loop-one.invariant
