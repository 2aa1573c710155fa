use Rattle.std.proofs.Common.{inl, inr}
use Rattle.mo_certify.proofs.Marking.{seen_next, seen_listed, seen_seen, seen_only, mentioned_by, entry_mentions}
use Rattle.std.proofs.Common.{refl}
use Rattle.mo_certify.proofs.deficiency.see_rows.Goals as goal

pub returns-then-not-see_row-clause-no : goal.returns-then-not-see_row-clause-no
returns-then-not-see_row-clause-no c = λ _.
    let there = c.see_row.ensures.no c.if-not-see_row.true in
    (_, mentioned_by _ _ c.loop-row.row-index _ c.loop-row-test.true (entry_mentions _ _ _ _ there.1 refl), there.2)

pub returns-then-not-see_row-clause-only : goal.returns-then-not-see_row-clause-only
returns-then-not-see_row-clause-only c = λ j some.
    elim (c.see_row.ensures.only j some) [
      | inl h ↦ seen_only _ _ _ _ _ c.loop-row.invariant c.loop-row.auto.row-index-end j h
      | inr h ↦ mentioned_by _ _ c.loop-row.row-index _ c.loop-row-test.true h
    ]

pub loop-row-preserved : goal.loop-row-preserved
loop-row-preserved c = seen_next _ _ _ _ _ _ c.loop-row.invariant (c.see_row.ensures.yes c.if-not-see_row.false) c.see_row.ensures.kept c.see_row.ensures.only

pub returns-clause-listed : goal.returns-clause-listed
returns-clause-listed c = λ _. seen_listed _ _ _ _ _ c.loop-row.invariant c.loop-row-test.false

pub returns-clause-seen : goal.returns-clause-seen
returns-clause-seen c = λ _. seen_seen _ _ _ _ _ c.loop-row.invariant c.loop-row-test.false

pub returns-clause-only : goal.returns-clause-only
returns-clause-only c = seen_only _ _ _ _ _ c.loop-row.invariant c.loop-row.auto.row-index-end
