use Rattle.std.proofs.Common.{[], Ok, ap, sym, refl, ◌∙◌}
use Rattle.mo_scope.specs.Worlds.{frames_of, table_in}
use Rattle.mo_names.specs.Sights.{found_in}
use Rattle.mo_names.proofs.Later.{is_found_later}
use Rattle.mo_eval.specs.steps.Naming.{named_on, names_seen, referred_seen}
use Rattle.mo_eval.specs.steps.Parts.{as_identifier}
use Rattle.mo_eval.proofs.Earlier.{seen_as}
use Rattle.mo_eval.proofs.Naming.{are_names_later, as_seen, counting_halts, last_as, last_named}
use Rattle.mo_eval.proofs.names.last_counted.Goals as goal

pub returns-clause-exact : goal.returns-clause-exact
returns-clause-exact c = λ f.
    let T = table_in c.args.s.now in
    let F = frames_of c.args.s.now in
    let found = found_in F c.args.at.now.found in
    let part = as_identifier f c.args.at.now.part.now in
    let names = names_seen f F c.args.names in
    as_seen (referred_seen f (frames_of c.counted.new.s)) c.in-Err.stop (named_on T names found part [])
    (counting_halts T found part names (named_on T names found part []) [] c.in-Err.stop refl (c.in-Err.ensures.exact f))

pub returns-in-Ok-clause-exact : goal.returns-in-Ok-clause-exact
returns-in-Ok-clause-exact c = λ f.
    let s = c.args.s.now in
    let end = c.counted.new.s in
    let T = table_in s in
    let found = found_in (frames_of s) c.args.at.now.found in
    let part = as_identifier f c.args.at.now.part.now in
    let names = names_seen f (frames_of s) c.args.names in
    seen_as (referred_seen f (frames_of end)) c.last_named.result _ (named_on T names found part [])
    (ap Ok (last_as s end c.in-Ok.ensures.grows f c.args.names c.args.at.now.found part c.requires.names c.requires.found)
    ∙ sym (last_named T found part names (named_on T names found part []) _ refl (c.in-Ok.ensures.exact f) refl))
    (c.last_named.ensures.exact f (frames_of end))

pub returns-in-Ok-clause-there : goal.returns-in-Ok-clause-there
returns-in-Ok-clause-there c =
    let s = c.args.s.now in
    let end = c.counted.new.s in
    c.last_named.ensures.there end (is_found_later s end c.args.at.now.found c.in-Ok.ensures.grows c.requires.found) (are_names_later s end c.in-Ok.ensures.grows c.args.names c.requires.names)
