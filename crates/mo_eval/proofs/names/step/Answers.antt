use Rattle.std.proofs.Common.{◌≡◌, ◌∷◌, Ok, Err, refl, sym, rules}
use Rattle.mo_scope.specs.Worlds.{frames_of, table_in}
use Rattle.mo_names.specs.Sights.{found_in}
use Rattle.mo_names.proofs.Later.{grows_trans, is_found_later}
use Rattle.mo_eval.specs.steps.Naming.{named_on, names_seen}
use Rattle.mo_eval.specs.steps.Parts.{as_identifier}
use Rattle.mo_eval.proofs.Naming.{are_names_later, behind_earlier, counting_halts, finding_halts, goes_halt, more_names, next_named}
use Rattle.mo_eval.proofs.names.step.Goals as goal

pub returns-in_err-counted-clause-exact : goal.returns-in_err-counted-clause-exact
returns-in_err-counted-clause-exact c = λ f others.
    let T = table_in c.args.s.now in
    let F = frames_of c.args.s.now in
    let found = found_in F c.args.at.now.found in
    let part = as_identifier f c.args.at.now.part.now in
    let before = names_seen f F c.args.names.now in
    let left = as_identifier f c.args.next.now ∷ others in
    let stop = c.in_err-counted.field-0.0 in
    let p : c.from_residual.result ≡ Err stop = search rules in
    rw p (goes_halt stop _ _ (counting_halts T found part before (named_on T before found part left) left stop refl (c.in_err-counted.ensures.exact f)))

pub returns-in-Err-clause-exact : goal.returns-in-Err-clause-exact
returns-in-Err-clause-exact c = λ f others.
    let s = c.args.s.now in
    let mid = c.counted.new.s in
    let T = table_in s in
    let F = frames_of s in
    let found = found_in F c.args.at.now.found in
    let part = as_identifier f c.args.at.now.part.now in
    let next = as_identifier f c.args.next.now in
    let before = names_seen f F c.args.names.now in
    let stop = c.in-Err.stop in
    let view = found_in (frames_of c.find_behind.new.s) in
    let told = behind_earlier view s mid c.in_ok-counted.ensures.grows c.args.at.now.found c.requires.found c.args.next.now.name c.args.next.now.place (Err stop) c.in-Err.ensures.value in
    goes_halt stop _ _ (finding_halts T found part before (named_on T before found part (next ∷ others)) view next others stop refl (c.in_ok-counted.ensures.exact f) told)

pub returns-in-Ok-clause-exact : goal.returns-in-Ok-clause-exact
returns-in-Ok-clause-exact c = λ f others.
    let s = c.args.s.now in
    let mid = c.counted.new.s in
    let end = c.find_behind.new.s in
    let T = table_in s in
    let F = frames_of s in
    let found = found_in F c.args.at.now.found in
    let part = as_identifier f c.args.at.now.part.now in
    let next = as_identifier f c.args.next.now in
    let before = names_seen f F c.args.names.now in
    let view = found_in (frames_of end) in
    let told = behind_earlier view s mid c.in_ok-counted.ensures.grows c.args.at.now.found c.requires.found c.args.next.now.name c.args.next.now.place (Ok c.in-Ok.found) c.in-Ok.ensures.value in
    let grown = grows_trans s mid end c.in_ok-counted.ensures.grows c.in-Ok.ensures.grows in
    let more = more_names s end grown f c.args.names.now c.put.new.names c.args.at.now.found part c.requires.names c.requires.found (c.in_ok-put.ensures.exact f (frames_of end)) in
    sym (next_named T found part before (named_on T before found part (next ∷ others)) next others (view c.in-Ok.found) (names_seen f (frames_of end) c.put.new.names) refl (c.in_ok-counted.ensures.exact f) told more)

pub returns-in-Ok-clause-names : goal.returns-in-Ok-clause-names
returns-in-Ok-clause-names c =
    let s = c.args.s.now in
    let mid = c.counted.new.s in
    let end = c.find_behind.new.s in
    let grown = grows_trans s mid end c.in_ok-counted.ensures.grows c.in-Ok.ensures.grows in
    c.in_ok-put.ensures.there end (is_found_later s end c.args.at.now.found grown c.requires.found) (are_names_later s end grown c.args.names.now c.requires.names)

pub returns-in-Ok-clause-grows : goal.returns-in-Ok-clause-grows
returns-in-Ok-clause-grows c = grows_trans _ _ _ c.in_ok-counted.ensures.grows c.in-Ok.ensures.grows

pub returns-in-Err-clause-grows : goal.returns-in-Err-clause-grows
returns-in-Err-clause-grows c = grows_trans _ _ _ c.in_ok-counted.ensures.grows c.in-Err.ensures.grows
