use Rattle.std.proofs.Common.{ap}
use Rattle.mo_scope.specs.Worlds.{frames_of}
use Rattle.mo_eval.specs.Components.{place_of}
use Rattle.mo_eval.specs.Seen.{resolved_seen}
use Rattle.mo_eval.specs.steps.Sites.{elements_in}
use Rattle.mo_eval.specs.Values.{most_references}
use Rattle.mo_eval.specs.steps.Asking.{value_in}
use Rattle.mo_eval.proofs.Growing.{gives_as, same_elements}
use Rattle.mo_names.proofs.Later.{grows_trans}
use Rattle.mo_eval.proofs.reader.Reader.value.Goals as goal

pub returns-clause-exact : goal.returns-clause-exact
returns-clause-exact c =
    let mid = c.alone.new.s in
    let asked = resolved_seen (frames_of mid) c.in_ok-resolved.resolved in
    let place = place_of c.args.e.now in
    let same = same_elements c.args.s.now mid most_references c.alone.ensures.grows in
    rw (rw c.for_value.ensures at c.in_ok-resolved.ensures.exact)
    (gives_as c.value_of.result (value_in (elements_in mid most_references) place c.args.index.now asked) (value_in (elements_in c.args.s.now most_references) place c.args.index.now asked)
    (ap (λ read. value_in read place c.args.index.now asked) same) c.value_of.ensures.exact)

pub returns-clause-grows : goal.returns-clause-grows
returns-clause-grows c = grows_trans _ _ _ c.in_ok-resolved.ensures.grows c.value_of.ensures.grows
