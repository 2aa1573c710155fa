use Rattle.std.proofs.Common.{◌≡◌, length, suc, sym, ap, ◌∙◌, arith}
use Rattle.mo_match.specs.Results.{Results}
use Rattle.mo_match.proofs.Written.{written_back, found_loose}
use Rattle.mo_match.proofs.spread.undetermined.Goals as goal

pub find_loose-requires-clause-matching : goal.find_loose-requires-clause-matching
find_loose-requires-clause-matching c =
    let size = c.note_owners.auto.owner ∙ ap length c.deref_mut.ensures.value in
    let is : c.deref-3.result.now ≡ c.note_owners.new.owner =
    c.deref-3.ensures.value ∙ written_back c.work.inside.matching.owner.len c.note_owners.new.owner c.work.inside.matching.owner.items size (omega arith) in
    let same : c.deref-2.result.now ≡ c.deref.result.now = c.deref-2.ensures.value ∙ sym c.deref.ensures.value in
    rw (is, same) c.note_owners.ensures

pub returns-clause-loose : goal.returns-clause-loose
returns-clause-loose c =
    let size = c.find_loose.auto.reached ∙ ap length c.deref_mut-5.ensures.value in
    let is : c.deref-4.result.now ≡ c.find_loose.new.reached =
    c.deref-4.ensures.value ∙ written_back c.work.inside.reached.len c.find_loose.new.reached c.work.inside.reached.items size (omega arith) in
    let unknowns : c.work.inside.unknowns ≡ c.args.inc.now.unknowns = ap (λ (w : Results). w.unknowns) c.work.view_is ∙ c.requires.made.unknowns in
    let all : length c.deref-4.result.now ≡ suc c.args.inc.now.unknowns = ap length is ∙ size ∙ c.work.invariant.reached ∙ ap suc unknowns in
    found_loose _ _ _ _ is all c.find_loose.ensures.marked c.find_loose.ensures.all c.list_unknowns.ensures.items
