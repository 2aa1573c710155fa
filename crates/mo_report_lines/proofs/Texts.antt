-- The lines of a text, one after another.
use Rattle.std.proofs.Common.{◌≡◌, ℕ, zero, suc, ◌+◌, ◌<◌, ◌≤◌, inl, inr, Bool, true, false, not, ◌==◌, eqb, List, [], ◌∷◌, ◌++◌, length, take, drop, get_or, refl, sym, ap, ◌∙◌, arith, add-one, length-append}
use Rattle.std.specs.List.{prefix_len}
use Rattle.std.specs.Cmp.Lexicographic.{same_text, other_text}
use lib.Pointwise.{pointwise}
use Rattle.std.proofs.lemmas.List.{take_all, drop_all}
use Rattle.std.proofs.lemmas.Bool.{cases_lt}
use Rattle.mo_lexer.specs.Bytes.{is_line_byte}
use Rattle.mo_report_lines.proofs.Runs.{off}
use Rattle.mo_report_lines.specs.Grammar.{IsReadable}
use Rattle.mo_report_lines.specs.Lines.{before_first, lines_of, line_at, AreReadable, IsFirstUnreadable, DifferFirst}

-- ---- the first line
pub lines_cut : (text : List ℕ) → prefix_len is_line_byte text < length text → lines_of text ≡ take (suc (prefix_len is_line_byte text)) text ∷ lines_of (drop (suc (prefix_len is_line_byte text)) text)
lines_cut [] h = absurd (omega arith)
lines_cut (b ∷ bs) h = go (b == 10) refl h (lines_cut bs)
  where
    go : (feed : Bool) → (b == 10) ≡ feed → prefix_len is_line_byte (b ∷ bs) < length (b ∷ bs)
        → (prefix_len is_line_byte bs < length bs → lines_of bs ≡ take (suc (prefix_len is_line_byte bs)) bs ∷ lines_of (drop (suc (prefix_len is_line_byte bs)) bs))
        → lines_of (b ∷ bs) ≡ take (suc (prefix_len is_line_byte (b ∷ bs))) (b ∷ bs) ∷ lines_of (drop (suc (prefix_len is_line_byte (b ∷ bs))) (b ∷ bs))
    go true e below more = rw e refl
    go false e below more =
        let size : prefix_len is_line_byte (b ∷ bs) ≡ suc (prefix_len is_line_byte bs) = rw e (omega arith) in
        let later : prefix_len is_line_byte bs < length bs = omega (arith, size, below) in
        rw (size, e, more later) refl

pub lines_last : (text : List ℕ) → 0 < length text → length text ≤ prefix_len is_line_byte text → lines_of text ≡ text ∷ []
lines_last [] some h = absurd (omega arith)
lines_last (b ∷ []) some h = go (b == 10) refl h
  where
    go : (feed : Bool) → (b == 10) ≡ feed → length (b ∷ []) ≤ prefix_len is_line_byte (b ∷ []) → lines_of (b ∷ []) ≡ (b ∷ []) ∷ []
    go true e h = rw e refl
    go false e h = rw e refl
lines_last (b ∷ c ∷ bs) some h = go (b == 10) refl h (lines_last (c ∷ bs) (omega arith))
  where
    go : (feed : Bool) → (b == 10) ≡ feed → length (b ∷ c ∷ bs) ≤ prefix_len is_line_byte (b ∷ c ∷ bs) → (length (c ∷ bs) ≤ prefix_len is_line_byte (c ∷ bs) → lines_of (c ∷ bs) ≡ (c ∷ bs) ∷ [])
        → lines_of (b ∷ c ∷ bs) ≡ (b ∷ c ∷ bs) ∷ []
    go true e h more = let none : prefix_len is_line_byte (b ∷ c ∷ bs) ≡ 0 = rw e refl in absurd (omega (arith, none, h))
    go false e h more =
        let size : prefix_len is_line_byte (b ∷ c ∷ bs) ≡ 1 + prefix_len is_line_byte (c ∷ bs) = rw e refl in
        let rest : lines_of (c ∷ bs) ≡ (c ∷ bs) ∷ [] = more (omega (arith, size, h)) in
        let step : lines_of (b ∷ c ∷ bs) ≡ before_first b (lines_of (c ∷ bs)) = rw e refl in
        step ∙ ap (before_first b) rest

-- the text up to the end of its first line, and what stands behind
pub first_cut : (text : List ℕ) (end : ℕ) → 0 < length text → (prefix_len is_line_byte text < length text → end ≡ prefix_len is_line_byte text + 1) → (length text ≤ prefix_len is_line_byte text → end ≡ length text)
    → lines_of text ≡ take end text ∷ lines_of (drop end text)
first_cut text end some feed last = go (prefix_len is_line_byte text) refl
  where
    go : (n : ℕ) → prefix_len is_line_byte text ≡ n → lines_of text ≡ take end text ∷ lines_of (drop end text)
    go n e = elim (cases_lt (prefix_len is_line_byte text) (length text)) [
      | inl below ↦ (let is : end ≡ suc (prefix_len is_line_byte text) = omega (arith, feed below) in rw is (lines_cut text below))
      | inr above ↦ (
          let is : end ≡ length text = last above in
          let front : take end text ≡ text = take_all end text (omega (arith, is)) in
          let back : drop end text ≡ [] = drop_all end text (omega (arith, is)) in
          rw (front, back) (lines_last text some above))
    ]

-- ---- one line more of a list of lines
pub at_line : (lines : List (List ℕ)) (n : ℕ) (line : List ℕ) (rest : List (List ℕ)) → drop n lines ≡ line ∷ rest → (n < length lines) × (get_or lines n [] ≡ line) × (drop (n + 1) lines ≡ rest)
at_line [] zero line rest e = cc
at_line [] (suc n) line rest e = cc
at_line (x ∷ lines) zero line rest e = (omega arith, cc, cc)
at_line (x ∷ lines) (suc n) line rest e =
    let more = at_line lines n line rest e in
    let step : suc n + 1 ≡ suc (n + 1) = omega arith in
    (omega (arith, more.0), more.1, rw step more.2)

pub past_lines : (lines : List (List ℕ)) (n : ℕ) → drop n lines ≡ [] → length lines ≤ n
past_lines [] n e = omega arith
past_lines (x ∷ lines) zero e = cc
past_lines (x ∷ lines) (suc n) e = omega (arith, past_lines lines n e)

pub nothing_past : (lines : List (List ℕ)) (n : ℕ) → length lines ≤ n → get_or lines n [] ≡ []
nothing_past [] n h = refl
nothing_past (x ∷ lines) zero h = absurd (omega arith)
nothing_past (x ∷ lines) (suc n) h = nothing_past lines n (omega arith)

-- ---- the first line that is not readable
pub record IsReadTo (text rest : List ℕ) (n : ℕ) : Type 0 where
  pub at : drop n (lines_of text) ≡ lines_of rest
  pub good : (k : ℕ) → k < n → IsReadable (get_or (lines_of text) k [])
  pub small : n + length rest ≤ length text

pub none_read : (text : List ℕ) → IsReadTo text text 0
none_read text = record { at = refl; good = λ k h. absurd (omega arith); small = omega arith }

pub one_read : (text rest line left : List ℕ) (n : ℕ) → IsReadTo text rest n → lines_of rest ≡ line ∷ lines_of left → length left < length rest → IsReadable line → IsReadTo text left (n + 1)
one_read text rest line left n r e shorter good =
    let here = at_line (lines_of text) n line (lines_of left) (r.at ∙ e) in
    record {
      at = here.2;
      good = λ k h. elim (cases_lt k n) [
        | inl below ↦ r.good k below
        | inr above ↦ (let same : k ≡ n = omega arith in rw (same, here.1) good)
      ];
      small = omega (arith, r.small, shorter);
    }

pub unreadable_here : (text rest line left : List ℕ) (n : ℕ) → IsReadTo text rest n → lines_of rest ≡ line ∷ lines_of left → (IsReadable line → ⊥) → IsFirstUnreadable text (n + 1)
unreadable_here text rest line left n r e bad =
    let here = at_line (lines_of text) n line (lines_of left) (r.at ∙ e) in
    record {
      some = omega arith;
      within = omega (arith, here.0);
      before = λ k h. r.good k (omega arith);
      here = λ good. bad (let at : line_at text (n + 1) ≡ line = rw (add-one) here.1 in rw at at good);
    }

pub all_readable : (text rest : List ℕ) (n : ℕ) → IsReadTo text rest n → length rest ≡ 0 → AreReadable text
all_readable text rest n r none k h =
    let empty : rest ≡ [] = no_bytes rest none in
    let size : length (lines_of text) ≤ n = past_lines (lines_of text) n (r.at ∙ ap lines_of empty) in
    r.good k (omega arith)
  where
    no_bytes : (xs : List ℕ) → length xs ≡ 0 → xs ≡ []
    no_bytes [] e = refl
    no_bytes (x ∷ xs) e = absurd (omega arith)

-- ---- the first line at which two texts differ
pub record IsSameTo (printed wanted left right : List ℕ) (n : ℕ) : Type 0 where
  pub left_at : drop n (lines_of printed) ≡ lines_of left
  pub right_at : drop n (lines_of wanted) ≡ lines_of right
  pub same : (k : ℕ) → k < n → get_or (lines_of printed) k [] ≡ get_or (lines_of wanted) k []
  pub whole : left ≡ right → printed ≡ wanted
  pub small : n + length left ≤ length printed

pub none_same : (printed wanted : List ℕ) → IsSameTo printed wanted printed wanted 0
none_same printed wanted = record { left_at = refl; right_at = refl; same = λ k h. absurd (omega arith); whole = λ e. e; small = omega arith }

-- a line that is cut off a text
pub record IsCutOff (text line rest : List ℕ) : Type 0 where
  pub whole : text ≡ line ++ rest
  pub lines : 0 < length text → lines_of text ≡ line ∷ lines_of rest
  pub some : 0 < length text → length rest < length text

empty_front : (a b : List ℕ) → [] ≡ a ++ b → (a ≡ []) × (b ≡ [])
empty_front [] b e = (refl, sym e)
empty_front (x ∷ a) b e = cc

-- the line is that of its number
line_is : (text left line rest : List ℕ) (n : ℕ) → drop n (lines_of text) ≡ lines_of left → IsCutOff left line rest → (get_or (lines_of text) n [] ≡ line) × (drop (n + 1) (lines_of text) ≡ lines_of rest)
line_is text [] line rest n at cut =
    let parts = empty_front line rest cut.whole in
    let past : length (lines_of text) ≤ n = past_lines (lines_of text) n at in
    let none : drop (n + 1) (lines_of text) ≡ [] = drop_all (n + 1) (lines_of text) (omega arith) in
    (nothing_past (lines_of text) n past ∙ sym parts.0, none ∙ ap lines_of (sym parts.1))
line_is text (b ∷ left) line rest n at cut =
    let here = at_line (lines_of text) n line (lines_of rest) (at ∙ cut.lines (omega arith)) in
    (here.1, here.2)

pub one_same : (printed wanted left right line left_rest right_rest : List ℕ) (n : ℕ) → IsSameTo printed wanted left right n → IsCutOff left line left_rest → IsCutOff right line right_rest → 0 < length left + length right
    → IsSameTo printed wanted left_rest right_rest (n + 1)
one_same printed wanted left right line left_rest right_rest n s cut cut' some =
    let here = line_is printed left line left_rest n s.left_at cut in
    let there = line_is wanted right line right_rest n s.right_at cut' in
    record {
      left_at = here.1;
      right_at = there.1;
      same = λ k h. elim (cases_lt k n) [
        | inl below ↦ s.same k below
        | inr above ↦ (let is : k ≡ n = omega arith in rw is (here.0 ∙ sym there.0))
      ];
      whole = λ e. s.whole (cut.whole ∙ ap (λ (x : List ℕ). line ++ x) e ∙ sym cut'.whole);
      small = shrinks left refl right refl;
    }
  where
    -- where the first text is at its end its line is empty, and then so is that of the second, which has a line
    shrinks : (l : List ℕ) → l ≡ left → (r : List ℕ) → r ≡ right → n + 1 + length left_rest ≤ length printed
    shrinks [] e [] f = absurd (omega (arith, some, ap length e, ap length f))
    shrinks [] e (b ∷ r) f =
        let cut0 : IsCutOff [] line left_rest = rw e cut in
        let parts = empty_front line left_rest cut0.whole in
        let less : length right_rest < length right = cut'.some (omega (arith, ap length f)) in
        let size : length right ≡ length line + length right_rest = ap length cut'.whole ∙ length-append line right_rest in
        absurd (omega (arith, less, size, ap length parts.0))
    shrinks (b ∷ l) e r f = let less : length left_rest < length left = cut.some (omega (arith, ap length e)) in omega (arith, s.small, less)

pub cut_same : (text line other rest : List ℕ) → line ≡ other → IsCutOff text other rest → IsCutOff text line rest
cut_same text line other rest e cut = rw e cut

pub differ_here : (printed wanted left right line other left_rest right_rest : List ℕ) (n : ℕ) → IsSameTo printed wanted left right n → IsCutOff left line left_rest → IsCutOff right other right_rest → (line ≡ other → ⊥)
    → DifferFirst printed wanted (n + 1) line other
differ_here printed wanted left right line other left_rest right_rest n s cut cut' apart =
    let here = line_is printed left line left_rest n s.left_at cut in
    let there = line_is wanted right other right_rest n s.right_at cut' in
    record {
      some = omega arith;
      before = λ k h. s.same k (omega arith);
      left = rw (add-one) (sym here.0);
      right = rw (add-one) (sym there.0);
      apart = apart;
    }

pub same_texts : (printed wanted left right : List ℕ) (n : ℕ) → IsSameTo printed wanted left right n → length left ≡ 0 → length right ≡ 0 → printed ≡ wanted
same_texts printed wanted left right n s e f = s.whole (no_bytes left e ∙ sym (no_bytes right f))
  where
    no_bytes : (xs : List ℕ) → length xs ≡ 0 → xs ≡ []
    no_bytes [] e = refl
    no_bytes (x ∷ xs) e = absurd (omega arith)

-- ---- what a test of two lines tells
on_again : (b : Bool) → not b ≡ false → b ≡ true
on_again true e = refl
on_again false e = cc

pub lines_apart : (xs ys : List ℕ) (r : Bool) → r ≡ not (pointwise eqb xs ys) → r ≡ true → xs ≡ ys → ⊥
lines_apart xs ys r e h = other_text xs ys (sym (off (pointwise eqb xs ys) (sym e ∙ h)))

pub lines_same : (xs ys : List ℕ) (r : Bool) → r ≡ not (pointwise eqb xs ys) → r ≡ false → xs ≡ ys
lines_same xs ys r e h = same_text xs ys (sym (on_again (pointwise eqb xs ys) (sym e ∙ h)))
