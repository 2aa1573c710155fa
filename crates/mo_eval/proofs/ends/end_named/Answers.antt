use Rattle.std.proofs.Common.{◌≡◌, Err, rules}
use Rattle.mo_scope.specs.Outcome.{Gives as GivesSeen}
use Rattle.mo_scope.specs.Worlds.{frames_of, table_in}
use Rattle.mo_eval.specs.Ends.{ended_in, ended_seen}
use Rattle.mo_eval.specs.References.{Components}
use Rattle.mo_eval.specs.steps.Sites.{part_in}
use Rattle.mo_eval.specs.steps.Naming.{names_seen, referred_seen}
use Rattle.mo_eval.proofs.Earlier.{seen_as}
use Rattle.mo_eval.proofs.Ending.{components_end, names_end, no_names}
use Rattle.mo_eval.proofs.Grown.{kept_still}
use Rattle.mo_names.proofs.Later.{grows_trans}
use Rattle.mo_eval.proofs.ends.end_named.Goals as goal

pub returns-in_err-names-clause-kept : goal.returns-in_err-names-clause-kept
returns-in_err-names-clause-kept c = kept_still _ _ c.named.ensures.grows _ c.requires.kept

pub returns-in_err-names-clause-exact : goal.returns-in_err-names-clause-exact
returns-in_err-names-clause-exact c =
    let w = c.args.s.now in
    let stop = c.in_err-names.field-0.0 in
    let p : c.from_residual.result ≡ Err stop = search rules in
    rw p (no_names w c.args.site.now c.requires.left c.args.reference.now (referred_seen (part_in w c.args.site.now) (frames_of c.named.new.s)) (ended_seen (frames_of c.named.new.s)) stop c.in_err-names.ensures.exact)

pub with_components-requires-clause-kept : goal.with_components-requires-clause-kept
with_components-requires-clause-kept c = kept_still _ _ c.named.ensures.grows _ c.requires.kept

pub returns-in-Components-clause-exact : goal.returns-in-Components-clause-exact
returns-in-Components-clause-exact c =
    let w = c.args.s.now in
    let u = c.named.new.s in
    let place = c.place_of-place.result in
    let told : GivesSeen (ended_seen (frames_of c.with_components.new.s)) c.with_components.result (ended_in (table_in u) place (Components (names_seen (part_in u c.args.site.now) (frames_of u) c.as_slice.result.now))) =
    c.with_components.ensures.exact in
    seen_as (ended_seen (frames_of c.with_components.new.s)) c.with_components.result _ _
    (components_end w c.args.site.now c.requires.left c.args.reference.now u c.named.ensures.grows c.requires.frame c.in-Components.names (rw c.in-Components.is at c.in_ok-names.ensures.exact))
    (rw (c.place_of-place.ensures, c.as_slice.ensures) at told)

pub returns-in-Other-clause-kept : goal.returns-in-Other-clause-kept
returns-in-Other-clause-kept c = kept_still _ _ c.named.ensures.grows _ c.requires.kept

pub returns-in-Other-clause-exact : goal.returns-in-Other-clause-exact
returns-in-Other-clause-exact c =
    names_end c.args.s.now c.args.site.now c.requires.left c.args.reference.now _ (rw c.in-Other.is at c.in_ok-names.ensures.exact)

pub returns-in-Components-clause-grows : goal.returns-in-Components-clause-grows
returns-in-Components-clause-grows c = grows_trans _ _ _ c.in_ok-names.ensures.grows c.with_components.ensures.grows
