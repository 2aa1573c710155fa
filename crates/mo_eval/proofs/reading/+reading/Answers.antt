use Rattle.std.proofs.Common.{◌≡◌, ◌-◌, ◌<◌, [], map, take, Some, None, Ok, Err, ap, sym, ◌∙◌, arith}
use Rattle.std.specs.Prelude.{slice_get}
use Rattle.std.specs.Option.{option_map}
use Rattle.std.proofs.lemmas.Option.{slice_get-map}
use Rattle.mo_eval.specs.Virtuals.{known_of_virtuals}
use Rattle.mo_values.specs.Told.{IsUnread}
use Rattle.mo_eval.specs.Seen.{virtual_seen, virtuals_seen}
use Rattle.mo_values.proofs.Splitting.{got}
use Rattle.mo_eval.proofs.Prefixes.{before_read, some_read, read_or_undecided, unread_before, told_at}
use Rattle.mo_eval.proofs.reading.+reading.Goals as goal

pub returns-in_default-told_by : goal.returns-in_default-told_by
returns-in_default-told_by t c = λ frames read told are.
    let at = c.saturating_sub-at.result in
    let it = c.in-Some.it.now in
    let lookup = c.in-Some.ensures.lookup in
    let found : slice_get c.args.virtuals.now at ≡ Some it = got c.args.virtuals.now at it lookup.3.0 lookup.1 in
    let before = before_read c.args.reads.now (known_of_virtuals read (virtuals_seen frames c.args.virtuals.now)) at are in (
      c.requires,
      record {
        it = virtual_seen frames it;
        found = ap (λ k. slice_get (virtuals_seen frames c.args.virtuals.now) k) (sym c.saturating_sub-at.ensures)
            ∙ (slice_get-map (virtual_seen frames) c.args.virtuals.now at ∙ ap (option_map (virtual_seen frames)) found);
        component = c.in_default-told_by.ensures frames read _ before;
      },
    )

pub reading-requires : goal.reading-requires
reading-requires t c =
    let at = c.saturating_sub-at.result in
    let place = c.saturating_sub-at.ensures in
    let told = c.in-Some-told_by.ensures [] (λ element. Ok None) (map read_or_undecided (take at c.args.reads.now)) (some_read (take at c.args.reads.now)) in
    let unread : IsUnread (take at c.args.reads.now) c.in-Err-Unread.m = (rw (c.in-Err-Unread.is, c.in-Err-Unread.field-0-is) at told).answers in
    let both = unread_before c.args.reads.now at c.in-Err-Unread.m unread in
    let small : c.in-Err-Unread.m - 1 < at = both.0 in
    let measured = c.decreases in
    (omega arith, both.1)

pub returns-in-Ok : goal.returns-in-Ok
returns-in-Ok t c = λ frames read told are.
    let at = c.saturating_sub-at.result in
    let it = c.in-Some.it.now in
    let lookup = c.in-Some.ensures.lookup in
    let virtuals = virtuals_seen frames c.args.virtuals.now in
    let found : slice_get c.args.virtuals.now at ≡ Some it = got c.args.virtuals.now at it lookup.3.0 lookup.1 in
    let before = before_read c.args.reads.now (known_of_virtuals read virtuals) at are in
    let tells = rw c.in-Ok.is at (c.in-Some-told_by.ensures frames read _ before) in (
      c.requires,
      ap (λ k. slice_get (known_of_virtuals read virtuals) k) (sym c.saturating_sub-at.ensures)
          ∙ told_at read virtuals at (virtual_seen frames it) (Ok c.in-Ok.known) (slice_get-map (virtual_seen frames) c.args.virtuals.now at ∙ ap (option_map (virtual_seen frames)) found) tells.answers,
    )

pub returns-in-Err-Broken : goal.returns-in-Err-Broken
returns-in-Err-Broken t c = λ frames read told are.
    let at = c.saturating_sub-at.result in
    let it = c.in-Some.it.now in
    let lookup = c.in-Some.ensures.lookup in
    let virtuals = virtuals_seen frames c.args.virtuals.now in
    let found : slice_get c.args.virtuals.now at ≡ Some it = got c.args.virtuals.now at it lookup.3.0 lookup.1 in
    let before = before_read c.args.reads.now (known_of_virtuals read virtuals) at are in
    let tells = rw (c.in-Err-Broken.is, c.in-Err-Broken.field-0-is) at (c.in-Some-told_by.ensures frames read _ before) in (
      c.requires,
      ap (λ k. slice_get (known_of_virtuals read virtuals) k) (sym c.saturating_sub-at.ensures)
          ∙ told_at read virtuals at (virtual_seen frames it) (Err c.in-Err-Broken.broken) (slice_get-map (virtual_seen frames) c.args.virtuals.now at ∙ ap (option_map (virtual_seen frames)) found) tells.answers,
    )
