-- The comment at the front.
use Rattle.std.proofs.Common.{◌≡◌, ℕ, suc, ◌+◌, ◌-◌, ◌<◌, ◌≤◌, inl, inr, true, false, List, [], ◌∷◌, ◌++◌, length, take, drop, get_or, Some, None, refl, sym, ap, subst, ◌∙◌, arith, length-append, append_assoc, take-append-drop, length-take-le}
use Rattle.std.specs.List.{list_all, prefix_len}
use Rattle.std.specs.Str.{IsCharBoundary}
use Rattle.std.proofs.lemmas.Bool.{cases_lt}
use Rattle.std.proofs.lemmas.Bool.Decides.{nat_tests}
use Rattle.std.proofs.lemmas.List.{drop_more, take_more, get_or_at, get_or-append-add, get_or-take}
use Rattle.std.proofs.lemmas.List.Sums.{prefix_len_stops, prefix_len-le-length}
use Rattle.std.proofs.lemmas.Str.{IsCharBoundary-end, IsCharBoundary-before_ascii}
use Rattle.mo_lexer.specs.Bytes.{is_line_byte}
use Rattle.mo_lexer.specs.Spelling.{IsComment, line, block, IsSeparator, comment, NeverCloses}
use Rattle.mo_lexer.specs.Lexing.{Fits, opens_block, IsStuck, Breaks, cut_by_end, IsTooWide, comment as cut_comment}
use Rattle.mo_lexer.specs.steps.Finding.{opens_line, IsFirstClose, ClosesAt}
use Rattle.mo_lexer.proofs.Fronts.{first_is, run_passes, run_longest, tail_is}
use Rattle.mo_lexer.proofs.Endings.{same_body}
use Rattle.mo_lexer.proofs.Shapes.{some_of_separator, some_of_spelling, Marks, class, operator_is_mark, IsMarked, operator, number, remark}
use Rattle.mo_lexer.proofs.OneKind.{slash_mark}
use Rattle.mo_lexer.proofs.Stuck.{fits_from, bounded, cut_after}
use Rattle.mo_lexer.proofs.Words.{Front}
use Rattle.mo_syntax.specs.declared.rules.TheConstants.{TEXT_WITHOUT_END}

-- ---- up to the end of the line
line_front : (a b : ℕ) (t : List ℕ) → a ≡ 47 → b ≡ 47 → (n : ℕ) → n ≡ prefix_len is_line_byte t → Front IsSeparator (a ∷ b ∷ t) (suc (suc n))
line_front a b t first second n size =
    let within : n ≤ length t = omega (arith, prefix_len-le-length is_line_byte t) in
    let mark : class a ≡ Marks = rw first refl in
    let all : list_all is_line_byte (take n t) ≡ true = rw size (run_passes is_line_byte t) in
    let bound : (s after : List ℕ) → b ∷ t ≡ s ++ after → IsMarked a s → suc (length s) ≤ suc (suc n) = λ s after e m. longest s after e m in
    record {
      cut = record {
        some = omega arith;
        within = omega (arith, within);
        boundary = λ utf8. elim (cases_lt n (length t)) [
          | inl below ↦ IsCharBoundary-before_ascii (a ∷ b ∷ t) (suc (suc n)) (omega (arith, below)) (ends_line below)
          | inr over ↦ subst (IsCharBoundary (a ∷ b ∷ t)) (let whole : length (a ∷ b ∷ t) ≡ suc (suc n) = omega (arith, within, over) in whole) (IsCharBoundary-end (a ∷ b ∷ t))
        ];
      };
      is = comment (line (take n t) (rw (first, second) refl) all);
      fits = fits_from (a ∷ b ∷ t) (suc (suc n)) (omega (arith, within)) (bounded Marks a (b ∷ t) mark (suc (suc n)) bound) (λ opens. line (take n t) (rw (first, second) refl) all);
    }
  where
    ends_line : n < length t → get_or t n 0 < 128
    ends_line below =
        let stop : is_line_byte (get_or t n 0) ≡ false = rw size (prefix_len_stops is_line_byte t 0 (omega arith)) in
        grind (arith, nat_tests)

    longest : (s after : List ℕ) → b ∷ t ≡ s ++ after → IsMarked a s → suc (length s) ≤ suc (suc n)
    longest [] after e m = omega arith
    longest (x ∷ s) after e (operator code is) = absurd (slash_mark a x s first (operator_is_mark _ code is))
    longest (x ∷ s) after e (number point d) = absurd (omega arith)
    longest (x ∷ s) after e (remark (line body is pass)) =
        let rest : x ∷ s ≡ 47 ∷ body = tail_is a 47 (x ∷ s) (47 ∷ body) is in
        let text : s ≡ body = tail_is x 47 s body rest in
        let tails : t ≡ s ++ after = tail_is b x t (s ++ after) e in
        let most : length body ≤ prefix_len is_line_byte (body ++ after) = run_longest is_line_byte body after pass in
        let same : t ≡ body ++ after = tails ∙ ap (λ y. y ++ after) text in
        omega (arith, most, ap (prefix_len is_line_byte) same, ap length text)
    longest (x ∷ s) after e (remark (block body is never)) =
        let rest : x ∷ s ≡ 42 ∷ (body ++ 42 ∷ 47 ∷ []) = tail_is a 47 (x ∷ s) _ is in
        let star : x ≡ 42 = first_is x 42 s _ rest in
        let same : b ≡ x = first_is b x t (s ++ after) e in
        absurd (omega arith)

pub line_found : (rest : List ℕ) → opens_line rest ≡ true → (n : ℕ) → n ≡ prefix_len is_line_byte (drop 2 rest) → Front IsSeparator rest (2 + n)
line_found [] opens n size = cc
line_found (a ∷ []) opens n size = cc
line_found (a ∷ b ∷ t) opens n size =
    let two : 2 + n ≡ suc (suc n) = omega arith in
    let first : a ≡ 47 = grind (arith, nat_tests) in
    let second : b ≡ 47 = grind (arith, nat_tests) in
    rw two (line_front a b t first second n size)

-- ---- up to `*/`
-- where a body with its close stands
closes_there : (before after : List ℕ) → ClosesAt (before ++ 42 ∷ 47 ∷ after) (length before)
closes_there before after =
    let one : length before + 1 ≡ length before + 1 = refl in
    (omega (arith, length-append before (42 ∷ 47 ∷ after)), get_or_at before 42 (47 ∷ after) 0 (length before) refl, get_or-append-add before (42 ∷ 47 ∷ after) 1 0)

never_where_none : (t : List ℕ) → IsFirstClose t None → NeverCloses t
never_where_none t none before after e = none (length before) (subst (λ x. ClosesAt x (length before)) (sym e) (closes_there before after))

closed_parts : (t : List ℕ) (n : ℕ) → ClosesAt t n → t ≡ take n t ++ 42 ∷ 47 ∷ drop (n + 2) t
closed_parts t n closes =
    let below : n < length t = omega (arith, closes.0) in
    let first : drop n t ≡ get_or t n 0 ∷ drop (n + 1) t = drop_more t n 0 below in
    let second : drop (n + 1) t ≡ get_or t (n + 1) 0 ∷ drop (n + 1 + 1) t = drop_more t (n + 1) 0 closes.0 in
    let two : n + 1 + 1 ≡ n + 2 = omega arith in
    let star : get_or t n 0 ≡ 42 = closes.1 in
    let slash : get_or t (n + 1) 0 ≡ 47 = closes.2 in
    let tail : drop n t ≡ 42 ∷ 47 ∷ drop (n + 2) t = rw (first, second, star, slash, two) refl in
    sym (take-append-drop n t) ∙ ap (λ x. take n t ++ x) tail

never_before : (t : List ℕ) (n : ℕ) → n ≤ length t → ((k : ℕ) → k < n → ClosesAt t k → ⊥) → NeverCloses (take n t)
never_before t n within none before after e =
    let size : length (take n t) ≡ n = length-take-le n t within in
    let there = subst (λ x. ClosesAt x (length before)) (sym e) (closes_there before after) in
    let below : length before + 1 < n = omega (arith, size, there.0) in
    none (length before) (omega arith)
    (omega (arith, below), sym (get_or-take n t (length before) 0 (omega arith)) ∙ there.1, sym (get_or-take n t (length before + 1) 0 below) ∙ there.2)

-- only this kind of piece may stand where `/*` does
module _ (a b : ℕ) (t : List ℕ) (first : a ≡ 47) (second : b ≡ 42) where
  -- a comment that stands there has a body with its close
  is_block : (s after : List ℕ) → b ∷ t ≡ s ++ after → IsComment (a ∷ s) → (body : List ℕ) × NeverCloses body × (s ≡ 42 ∷ (body ++ 42 ∷ 47 ∷ [])) × (t ≡ body ++ 42 ∷ 47 ∷ after)
  is_block s after e (line body is pass) =
      let rest : s ≡ 47 ∷ body = tail_is a 47 s (47 ∷ body) is in
      let whole : b ∷ t ≡ 47 ∷ (body ++ after) = e ∙ ap (λ x. x ++ after) rest in
      let slash : b ≡ 47 = first_is b 47 t (body ++ after) whole in
      absurd (omega arith)
  is_block s after e (block body is never) =
      let rest : s ≡ 42 ∷ (body ++ 42 ∷ 47 ∷ []) = tail_is a 47 s _ is in
      let whole : b ∷ t ≡ 42 ∷ ((body ++ 42 ∷ 47 ∷ []) ++ after) = e ∙ ap (λ x. x ++ after) rest in
      let tails : t ≡ (body ++ 42 ∷ 47 ∷ []) ++ after = tail_is b 42 t _ whole in
      (body, never, rest, tails ∙ append_assoc body (42 ∷ 47 ∷ []) after)

  not_opened : (s : List ℕ) (after : List ℕ) → b ∷ t ≡ s ++ after → Fits (a ∷ s) after → IsComment (a ∷ s)
  not_opened s after e fits =
      fits.comment (let same : a ∷ b ∷ t ≡ a ∷ (s ++ after) = ap (λ x. a ∷ x) e in subst (λ x. opens_block x ≡ true) same (rw (first, second) refl))

  pub block_open : (rule : ℕ) → rule ≡ TEXT_WITHOUT_END → IsFirstClose t None → IsStuck (a ∷ b ∷ t) × Breaks (a ∷ b ∷ t) rule 0
  block_open rule is none =
      let never = never_where_none t none in (
        record { some = omega arith; separator = λ piece after e s f. no_fit never piece after e (some_of_separator piece s) f; token = λ kind piece after e s f l. no_fit never piece after e (some_of_spelling kind piece s) f },
        cut_by_end (narrow never) (cut_comment t (rw (first, second) refl) never) is refl,
      )
    where
      no_fit : NeverCloses t → (piece after : List ℕ) → a ∷ b ∷ t ≡ piece ++ after → 0 < length piece → Fits piece after → ⊥
      no_fit never [] after e some f = omega arith
      no_fit never (x ∷ s) after e some f =
          let same : x ≡ a = cc in
          let tails : b ∷ t ≡ s ++ after = cc in
          let found = is_block s after tails (not_opened s after tails (subst (λ y. Fits (y ∷ s) after) same f)) in
          never found.0 after found.3

      narrow : NeverCloses t → IsTooWide (a ∷ b ∷ t) → ⊥
      narrow never wide = no_fit never wide.piece wide.after wide.is (some_of_spelling wide.kind wide.piece wide.spells) wide.fits

  pub block_front : (n : ℕ) → IsFirstClose t (Some n) → Front IsSeparator (a ∷ b ∷ t) (suc (suc (n + 2)))
  block_front n found =
      let below : n + 2 ≤ length t = omega (arith, found.0.0) in
      let whole = closed_parts t n found.0 in
      let never = never_before t n (omega arith) found.1 in
      let taken : take (n + 2) t ≡ take n t ++ 42 ∷ 47 ∷ [] = take_two n below found.0 in
      let is : IsComment (take (suc (suc (n + 2))) (a ∷ b ∷ t)) = block (take n t) (rw (first, second, taken) refl) never in
      record {
        cut = cut_after (a ∷ b ∷ t) (suc (suc (n + 2))) (omega arith) (omega (arith, below)) (last_byte found.0);
        is = comment is;
        fits = fits_from (a ∷ b ∷ t) (suc (suc (n + 2))) (omega (arith, below)) (bounded Marks a (b ∷ t) (rw first refl) (suc (suc (n + 2))) (longest n (omega arith) never whole)) (λ opens. is);
      }
    where
      last_byte : ClosesAt t n → get_or (a ∷ b ∷ t) (suc (suc (n + 2)) - 1) 0 < 128
      last_byte closes =
          let place : suc (suc (n + 2)) - 1 ≡ suc (suc (n + 1)) = omega arith in
          let slash : get_or t (n + 1) 0 ≡ 47 = closes.2 in
          rw (place, slash) (omega arith)

      take_two : (n : ℕ) → n + 2 ≤ length t → ClosesAt t n → take (n + 2) t ≡ take n t ++ 42 ∷ 47 ∷ []
      take_two n below closes =
          let two : n + 2 ≡ n + 1 + 1 = omega arith in
          let here : n < length t = omega arith in
          let star : get_or t n 0 ≡ 42 = closes.1 in
          let slash : get_or t (n + 1) 0 ≡ 47 = closes.2 in
          let one : take (n + 1) t ≡ take n t ++ 42 ∷ [] = rw (take_more t n 0 here, star) refl in
          rw (two, take_more t (n + 1) 0 closes.0, slash, one) (append_assoc (take n t) (42 ∷ []) (47 ∷ []))

      longest : (n : ℕ) → n ≤ length t → NeverCloses (take n t) → t ≡ take n t ++ 42 ∷ 47 ∷ drop (n + 2) t → (s after : List ℕ) → b ∷ t ≡ s ++ after → IsMarked a s → suc (length s) ≤ suc (suc (n + 2))
      longest n within never whole [] after e m = omega arith
      longest n within never whole (x ∷ s) after e (operator code is) = absurd (slash_mark a x s first (operator_is_mark _ code is))
      longest n within never whole (x ∷ s) after e (number point d) = absurd (omega arith)
      longest n within never whole (x ∷ s) after e (remark c) =
          let found = is_block (x ∷ s) after e c in
          let same : found.0 ≡ take n t = same_body found.0 (take n t) after (drop (n + 2) t) found.1 never (sym found.3 ∙ whole) in
          omega (arith, ap length found.2, length-append found.0 (42 ∷ 47 ∷ []), ap length same, length-take-le n t within)

pub block_open_at : (rest : List ℕ) → opens_block rest ≡ true → (rule : ℕ) → rule ≡ TEXT_WITHOUT_END → IsFirstClose (drop 2 rest) None → (0 < length rest) × IsStuck rest × Breaks rest rule 0
block_open_at [] opens rule is none = cc
block_open_at (a ∷ []) opens rule is none = cc
block_open_at (a ∷ b ∷ t) opens rule is none =
    let r = block_open a b t (grind (arith, nat_tests)) (grind (arith, nat_tests)) rule is none in
    (omega arith, r.0, r.1)

pub block_found_at : (rest : List ℕ) → opens_block rest ≡ true → (n : ℕ) → IsFirstClose (drop 2 rest) (Some n) → Front IsSeparator rest (2 + n + 2)
block_found_at [] opens n found = cc
block_found_at (a ∷ []) opens n found = cc
block_found_at (a ∷ b ∷ t) opens n found =
    let size : 2 + n + 2 ≡ suc (suc (n + 2)) = omega arith in
    rw size (block_front a b t (grind (arith, nat_tests)) (grind (arith, nat_tests)) n found)
