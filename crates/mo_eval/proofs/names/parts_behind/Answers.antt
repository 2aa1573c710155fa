use Rattle.std.proofs.Common.{◌+◌, [], Err, map, drop, ap, sym, refl, ◌∙◌, arith}
use Rattle.std.proofs.lemmas.List.{drop_all}
use Rattle.mo_scope.specs.Worlds.{frames_of, table_in}
use Rattle.mo_names.specs.Sights.{found_in}
use Rattle.mo_names.proofs.Later.{grows_refl, grows_trans, table_later}
use Rattle.mo_eval.specs.References.{named_from}
use Rattle.mo_eval.specs.steps.Naming.{named_on, names_seen, referred_seen}
use Rattle.mo_eval.specs.steps.Parts.{as_identifier}
use Rattle.mo_eval.proofs.Earlier.{seen_as}
use Rattle.mo_eval.proofs.Naming.{as_seen, from_none, left_on, step_halts}
use Rattle.mo_eval.proofs.names.parts_behind.Goals as goal

pub loop-next-init : goal.loop-next-init
loop-next-init c = record { grows = grows_refl c.args.s.now; found = c.requires.found; names = rw c.new-names.ensures tt; is = λ f. refl }

pub loop-next-preserved : goal.loop-next-preserved
loop-next-preserved c =
    let begin = c.args.s.now in
    let now = c.loop-next.s in
    let later = c.step.new.s in
    let i = c.loop-next.next-index in
    record {
      grows = grows_trans begin now later c.loop-next.invariant.grows c.in-Ok.ensures.grows;
      found = c.in-Ok.ensures.found;
      names = c.in-Ok.ensures.names;
      is = λ f. left_on begin now c.loop-next.invariant.grows f (names_seen f (frames_of now) c.loop-next.names) (names_seen f (frames_of later) c.step.new.names) (found_in (frames_of now) c.loop-next.at.found) (found_in (frames_of later) c.in-Ok.latest.found)
          (as_identifier f c.loop-next.at.part.now) c.args.others.now i c.next-item.result (as_identifier f c.in-Ok.latest.part.now) _ c.loop-next-test.true c.next-item.is
          (c.in-Ok.ensures.exact f (map (as_identifier f) (drop (i + 1) c.args.others.now))) (c.loop-next.invariant.is f);
    }

pub returns-in-Err-clause-exact : goal.returns-in-Err-clause-exact
returns-in-Err-clause-exact c = λ f.
    let begin = c.args.s.now in
    let now = c.loop-next.s in
    let others = c.args.others.now in
    let i = c.loop-next.next-index in
    let stop = c.in-Err.stop in
    let view = referred_seen f (frames_of c.step.new.s) in
    let T = table_in begin in
    let first = found_in (frames_of begin) c.args.first.now.found in
    let part = as_identifier f c.args.first.now.part.now in
    let start = from_none T (frames_of begin) f c.new-names.result first part (map (as_identifier f) others) c.new-names.ensures in
    seen_as view (Err stop) _ (named_from T first part (map (as_identifier f) others)) start
    (as_seen view stop _
    (step_halts begin now c.loop-next.invariant.grows f (names_seen f (frames_of now) c.loop-next.names) (found_in (frames_of now) c.loop-next.at.found) (as_identifier f c.loop-next.at.part.now) others i c.next-item.result _ stop _ c.loop-next-test.true c.next-item.is
    (c.in-Err.ensures.exact f (map (as_identifier f) (drop (i + 1) others))) (c.loop-next.invariant.is f)))

pub returns-clause-exact : goal.returns-clause-exact
returns-clause-exact c = λ f.
    let begin = c.args.s.now in
    let now = c.loop-next.s in
    let end = c.last_counted.new.s in
    let others = c.args.others.now in
    let i = c.loop-next.next-index in
    let T = table_in begin in
    let names = names_seen f (frames_of now) c.loop-next.names in
    let found = found_in (frames_of now) c.loop-next.at.found in
    let part = as_identifier f c.loop-next.at.part.now in
    let first = found_in (frames_of begin) c.args.first.now.found in
    let first_part = as_identifier f c.args.first.now.part.now in
    let start = from_none T (frames_of begin) f c.new-names.result first first_part (map (as_identifier f) others) c.new-names.ensures in
    seen_as (referred_seen f (frames_of end)) c.last_counted.result (named_on (table_in now) names found part []) (named_from T first first_part (map (as_identifier f) others))
    (ap (λ t. named_on t names found part []) (table_later begin now c.loop-next.invariant.grows)
    ∙ (ap (λ xs. named_on T names found part (map (as_identifier f) xs)) (sym (drop_all i others (omega arith)))
    ∙ (c.loop-next.invariant.is f ∙ start)))
    (c.last_counted.ensures.exact f)
