-- What is answered of the calls of alone.rt.
use Rattle.mo_eval.proofs.Growing.{gives_as, same_elements}
use Rattle.mo_eval.specs.Contexts.{place_of as place_of_of_contexts, truth_of, whole_of}
use Rattle.mo_eval.specs.Seen.{resolved_seen}
use Rattle.mo_eval.specs.steps.Sites.{elements_in, part_in}
use Rattle.mo_eval.specs.steps.Asking.{end_in}
use Rattle.mo_scope.specs.Worlds.{frames_of}
use Rattle.std.proofs.Common.{ap}
use Rattle.mo_syntax.specs.declared.rules.TheConstants.{WRONG_TYPE}
use Rattle.mo_eval.proofs.+resolving.Goals as goal
use Rattle.mo_names.proofs.Later.{grows_refl, grows_trans}

pub read_end-returns-clause-exact : goal.alone::read_end-returns-clause-exact
read_end-returns-clause-exact t c =
    let mid = c.alone.new.s in
    let left = c.args.site.now.left in
    let asked = resolved_seen (frames_of mid) c.in_ok-resolved.resolved in
    let place = place_of_of_contexts (part_in c.args.s.now c.args.site.now c.args.e.now) in
    let same = same_elements c.args.s.now mid left c.alone.ensures.grows in
    rw (rw c.read_in.ensures at c.in_ok-resolved.ensures.exact) (gives_as c.end_of.result (end_in (elements_in mid left) place asked) (end_in (elements_in c.args.s.now left) place asked) (ap (λ read. end_in read place asked) same) c.end_of.ensures.exact)

pub read_size-returns-clause-exact : goal.alone::read_size-returns-clause-exact
read_size-returns-clause-exact t c =
    let mid = c.alone.new.s in
    let left = c.args.site.now.left in
    let asked = resolved_seen (frames_of mid) c.in_ok-resolved.resolved in
    let place = place_of_of_contexts (part_in c.args.s.now c.args.site.now c.args.e.now) in
    let same = same_elements c.args.s.now mid left c.alone.ensures.grows in
    rw (rw c.read_in.ensures at c.in_ok-resolved.ensures.exact)
    (c.with_place.ensures (whole_of (elements_in c.args.s.now left) place asked)
    (gives_as c.whole_of.result (whole_of (elements_in mid left) place asked) (whole_of (elements_in c.args.s.now left) place asked) (ap (λ read. whole_of read place asked) same) c.whole_of.ensures.exact))

pub read_condition-returns-clause-exact : goal.alone::read_condition-returns-clause-exact
read_condition-returns-clause-exact t c =
    let mid = c.alone.new.s in
    let left = c.args.site.now.left in
    let asked = resolved_seen (frames_of mid) c.in_ok-resolved.resolved in
    let place = place_of_of_contexts (part_in c.args.s.now c.args.site.now c.args.e.now) in
    let same = same_elements c.args.s.now mid left c.alone.ensures.grows in
    rw (rw c.read_in.ensures at c.in_ok-resolved.ensures.exact) (gives_as c.truth_of.result (truth_of (elements_in mid left) WRONG_TYPE place asked) (truth_of (elements_in c.args.s.now left) WRONG_TYPE place asked) (ap (λ read. truth_of read WRONG_TYPE place asked) same) c.truth_of.ensures.exact)

-- ---- what grows

pub end_of-returns-in_err-whole_scalar-clause-grows : goal.alone::end_of-returns-in_err-whole_scalar-clause-grows
end_of-returns-in_err-whole_scalar-clause-grows t c = grows_refl c.args.s.now

pub truth_of-returns-in_err-truth_scalar-clause-grows : goal.alone::truth_of-returns-in_err-truth_scalar-clause-grows
truth_of-returns-in_err-truth_scalar-clause-grows t c = grows_refl c.args.s.now

pub read_end-returns-clause-grows : goal.alone::read_end-returns-clause-grows
read_end-returns-clause-grows t c = grows_trans _ _ _ c.alone.ensures.grows c.end_of.ensures.grows

pub read_size-returns-clause-grows : goal.alone::read_size-returns-clause-grows
read_size-returns-clause-grows t c = grows_trans _ _ _ c.alone.ensures.grows c.whole_of.ensures.grows

pub read_condition-returns-clause-grows : goal.alone::read_condition-returns-clause-grows
read_condition-returns-clause-grows t c = grows_trans _ _ _ c.alone.ensures.grows c.truth_of.ensures.grows
