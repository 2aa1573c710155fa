use Rattle.std.proofs.Common.{◌≡◌, ◌++◌, ◌∷◌, ℕ, [], length, ap, ◌∙◌, refl, arith, Vec, Global}
use Rattle.std.proofs.lemmas.List.{map-append, length_push}
use Rattle.mo_select.specs.steps.Ties.{entries_in}
use Rattle.mo_select.proofs.Opening.{open_rows_none, open_rows_push}
use Rattle.mo_select.proofs.ties.open_rows.Goals as goal

pub loop-place-init : goal.loop-place-init
loop-place-init c = record {
  count = ap length (ap entries_in c.new-rows.ensures.items);
  rows = open_rows_none _ _ _ _ _ _ _ (ap entries_in c.new-rows.ensures.items);
}

pub loop-place-preserved : goal.loop-place-preserved
loop-place-preserved c =
    let more : entries_in c.push.new.self.items ≡ entries_in c.loop-place.rows.items ++ c.in_ok-row.row.items ∷ [] =
    ap entries_in c.in_ok-push.ensures.items ∙ map-append (λ (r : Vec (ℕ × ℕ) Global). r.items) c.loop-place.rows.items (c.in_ok-row.row ∷ []) in
    record {
      count = ap length more ∙ length_push (entries_in c.loop-place.rows.items) c.in_ok-row.row.items ∙ omega (arith, c.loop-place.invariant.count);
      rows = rw more (open_rows_push _ _ _ _ _ _ _ _ _ c.loop-place.invariant.rows (rw c.loop-place.invariant.count refl) c.in_ok-row.ensures);
    }
