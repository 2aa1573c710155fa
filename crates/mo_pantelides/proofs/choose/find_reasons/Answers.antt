use Rattle.std.proofs.Common.{◌≡◌, ◌∙◌, ap, length, arith, refl}
use Rattle.mo_incidence.specs.Signature.{equations}
use Rattle.mo_pantelides.proofs.Choosing.{best_some, all_reasons, tight_mentions}
use Rattle.mo_pantelides.proofs.choose.find_reasons.Goals as goal

pub note_owners-requires-clause-assigned : goal.note_owners-requires-clause-assigned
note_owners-requires-clause-assigned c = rw c.deref.ensures.value (tight_mentions _ _ _ _ c.requires.tight)

pub list_reasons-requires-clause-best : goal.list_reasons-requires-clause-best
list_reasons-requires-clause-best c = λ i l. best_some _ _ _ _ _ _ _ refl c.choose_all.ensures c.find_ranks.ensures.ranked i (omega (arith, ap length c.deref-2.ensures.value, c.requires.sizes.0))

pub returns-clause-reasons : goal.returns-clause-reasons
returns-clause-reasons c =
    let size : length c.deref-2.result.now ≡ equations c.args.inc.now = ap length c.deref-2.ensures.value ∙ c.requires.sizes.0 in
    let all = all_reasons _ _ _ _ _ _ _ refl c.choose_all.ensures c.find_ranks.ensures.ranked _ (rw size at c.list_reasons.ensures.items) in
    rw (c.deref-2.ensures.value, c.deref-3.ensures.value, c.deref-4.ensures.value) at all
