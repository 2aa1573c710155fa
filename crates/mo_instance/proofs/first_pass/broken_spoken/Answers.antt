-- The element of its first name, if there is one.
use Rattle.std.proofs.Common.{Bool, List, Option, Some, None, ap, map, ◌∙◌}
use Rattle.std.specs.Prelude.{◌&&◌, option_copied}
use Rattle.mo_syntax.specs.declared.place.Place.{Place}
use Rattle.mo_scope.specs.Frames.{Member}
use Rattle.mo_scope.specs.Worlds.{frames_of}
use Rattle.mo_names.specs.Sights.{walk_seen}
use Rattle.mo_mods.specs.declared.asked.Claim.{Claim as ClaimAt}
use Rattle.mo_mods.specs.PathSights.{claim_seen}
use Rattle.mo_instance.specs.steps.FirstPass.{first_repeated, is_replaced_by, least_found, least_of_member, least_of_none}
use Rattle.mo_instance.specs.steps.Speeches.{speech_seen}
use Rattle.mo_instance.specs.steps.Walks.{walk_or_none}
use Rattle.mo_instance.proofs.Named.{found_named}
use Rattle.mo_instance.proofs.first_pass.broken_spoken.Goals as goal

pub returns-in-Some : goal.returns-in-Some
returns-in-Some c =
    let F = frames_of c.args.s.now in
    let R = is_replaced_by (walk_or_none F (option_copied c.args.replaced)) in
    let W = walk_seen F c.args.walk.now in
    let member = c.in-Some.member.now in
    let own = map claim_seen c.args.own.now in
    let repeated = first_repeated own (map claim_seen c.args.spoken.now.claims) in
    c.broken_element.ensures
    ∙ ap (least_of_member (c.args.spoken.now.outside && member.hidden) member.declares.flags.last c.args.spoken.now.place)
    (c.first_repeated-repeated.ensures ∙ ap (λ (xs : List ClaimAt). first_repeated own (map claim_seen xs)) c.as_slice.ensures)
    ∙ ap (λ (o : Option Member). least_found R W (speech_seen c.args.spoken.now) repeated o)
    (found_named F c.args.walk.now c.args.spoken.now.name.now c.args.table.now (Some member) c.requires.table c.in-Some.ensures)

pub returns-in-None : goal.returns-in-None
returns-in-None c =
    let F = frames_of c.args.s.now in
    let R = is_replaced_by (walk_or_none F (option_copied c.args.replaced)) in
    let W = walk_seen F c.args.walk.now in
    let own = map claim_seen c.args.own.now in
    let repeated = first_repeated own (map claim_seen c.args.spoken.now.claims) in
    c.broken_none.ensures
    ∙ ap (λ (known : Bool). least_of_none known c.args.spoken.now.place c.first_repeated-repeated.result) c.is_known.ensures
    ∙ ap (λ (o : Option Place). least_found R W (speech_seen c.args.spoken.now) o None)
    (c.first_repeated-repeated.ensures ∙ ap (λ (xs : List ClaimAt). first_repeated own (map claim_seen xs)) c.as_slice.ensures)
    ∙ ap (λ (o : Option Member). least_found R W (speech_seen c.args.spoken.now) repeated o)
    (found_named F c.args.walk.now c.args.spoken.now.name.now c.args.table.now None c.requires.table c.in-None.ensures)
