use Rattle.std.proofs.Common.{Err, map, sym}
use Rattle.mo_scope.specs.Worlds.{frames_of, table_in}
use Rattle.mo_names.specs.Children.{first_found}
use Rattle.mo_names.specs.Sights.{found_in}
use Rattle.mo_eval.specs.References.{named_from}
use Rattle.mo_eval.specs.steps.Sites.{part_in, scope_of}
use Rattle.mo_eval.specs.steps.Naming.{referred_seen}
use Rattle.mo_eval.specs.steps.Parts.{as_identifier}
use Rattle.mo_eval.proofs.Earlier.{seen_as, seen_halts_seen}
use Rattle.mo_eval.proofs.Naming.{begun, first_named}
use Rattle.mo_names.proofs.Later.{grows_trans}
use Rattle.mo_eval.proofs.names.named_parts.Goals as goal

pub returns-in-Err-clause-exact : goal.returns-in-Err-clause-exact
returns-in-Err-clause-exact c =
    let s = c.args.s.now in
    let end = c.find_first.new.s in
    let T = table_in s in
    let scope = scope_of s c.args.site.now in
    let f = part_in s c.args.site.now in
    let part = as_identifier f c.args.part.now in
    let others = map (as_identifier f) c.args.others.now in
    let view = referred_seen f (frames_of end) in
    let stop = c.in-Err.stop in
    seen_as view (Err stop) _ _ (sym (first_named T scope c.args.top part others))
    (seen_halts_seen (found_in (frames_of end)) view stop (first_found T c.args.top scope c.args.part.now.name c.args.part.now.place) (λ found. named_from T found part others) c.in-Err.ensures.value)

pub returns-in-Ok-clause-exact : goal.returns-in-Ok-clause-exact
returns-in-Ok-clause-exact c =
    let s = c.args.s.now in
    let mid = c.find_first.new.s in
    let f = part_in s c.args.site.now in
    let part = as_identifier f c.args.part.now in
    let others = map (as_identifier f) c.args.others.now in
    seen_as (referred_seen f (frames_of c.parts_behind.new.s)) c.parts_behind.result _ _
    (begun s mid c.in-Ok.ensures.grows (scope_of s c.args.site.now) c.args.top c.in-Ok.found part others c.in-Ok.ensures.value)
    (c.parts_behind.ensures.exact f)

pub returns-in-Ok-clause-grows : goal.returns-in-Ok-clause-grows
returns-in-Ok-clause-grows c = grows_trans _ _ _ c.in-Ok.ensures.grows c.parts_behind.ensures.grows
