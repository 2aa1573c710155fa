use Rattle.std.proofs.lemmas.Str.{IsUtf8-drop}
use Rattle.mo_lexer.proofs.Unique.{same_tokens}
use Rattle.mo_lexer.proofs.Refusals.{same_refusal, none_where_refused}
use Rattle.mo_lexer.proofs.Reached.{reached_skip, reached_take, reached_refused, reached_end, refused_place, empty_rest, end_lexeme, placed, made}
use Rattle.mo_lexer.proofs.text.tokens.Goals as goal

pub each-preserved-in-Separator : goal.each-preserved-in-Separator
each-preserved-in-Separator c =
    let so_far = c.each.invariant in
    let found = rw c.as_bytes.ensures.value at c.in-Separator.ensures in
    let back = c.split_at.ensures.back in
    (rw back (IsUtf8-drop _ _ so_far.0 (found.0.boundary so_far.0)), reached_skip _ _ _ _ so_far.1 _ _ back found.1 found.2)

pub each-preserved : goal.each-preserved
each-preserved c =
    let so_far = c.each.invariant in
    let found = rw c.as_bytes.ensures.value at c.in-Spelled.ensures in
    let parts = c.split_at-in-Spelled.ensures in (
      rw parts.back (IsUtf8-drop _ _ so_far.0 (found.0.boundary so_far.0)),
      reached_take _ _ _ _ so_far.1 _ _ _ _ parts.back parts.front c.place_before-place.ensures c.in_ok-push-in-Spelled.ensures.ok found.1 found.2 found.3,
    )

pub returns-in-Unfit-clause-refused : goal.returns-in-Unfit-clause-refused
unfolding placed
returns-in-Unfit-clause-refused c =
    let found = rw c.as_bytes.ensures.value at c.in-Unfit.ensures in
    reached_refused _ _ _ _ c.each.invariant.1 _ _ found.1 found.2 (refused_place _ _ _ _ _ c.place_before-place.ensures)

pub returns-in-Unfit-clause-only_refused : goal.returns-in-Unfit-clause-only_refused
returns-in-Unfit-clause-only_refused c other refused = same_refusal _ _ _ other (returns-in-Unfit-clause-refused c) refused

pub returns-in-Unfit-clause-no_tokens : goal.returns-in-Unfit-clause-no_tokens
returns-in-Unfit-clause-no_tokens c tokens lexes = none_where_refused _ _ _ tokens (returns-in-Unfit-clause-refused c) lexes

pub returns-clause-lexes : goal.returns-clause-lexes
unfolding made
returns-clause-lexes c =
    let none = empty_rest _ _ c.is_empty.ensures c.each-test.false in
    reached_end _ _ _ _ c.each.invariant.1 _ _ none c.in_ok-push.ensures.ok (end_lexeme _ _ _ _ none c.place_before-place-2.ensures)

pub returns-clause-only : goal.returns-clause-only
returns-clause-only c others lexes = same_tokens _ _ _ others (returns-clause-lexes c) lexes

pub returns-clause-not_refused : goal.returns-clause-not_refused
returns-clause-not_refused c broken refused = none_where_refused _ _ broken _ refused (returns-clause-lexes c)
