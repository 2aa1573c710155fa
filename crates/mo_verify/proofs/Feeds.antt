-- Line feeds and lines, and the first two lines of a report.
use Rattle.std.proofs.Common.{◌≡◌, ◌≢◌, ℕ, zero, suc, ◌+◌, ◌<◌, ◌≤◌, inl, inr, Bool, true, false, ◌==◌, List, [], ◌∷◌, ◌++◌, codes, decimal, length, get_or, refl, sym, ap, ◌∙◌, arith, append_assoc}
use Rattle.std.proofs.lemmas.Bool.{cases_lt}
use Rattle.std.proofs.lemmas.List.{append-nil}
use Rattle.mo_flat.specs.declared.model.FlatModel.{FlatModel}
use Rattle.mo_incidence.specs.Signature.{Signature, equations}
use Rattle.mo_report.specs.declared.report.Report.{Report}
use Rattle.mo_report.specs.Lines.{numbered, named, head_lines, report_lines}
use Rattle.mo_report.specs.Size.{unknown_names}
use Rattle.mo_report_lines.specs.Lines.{before_first, lines_of, line_at}
use Rattle.mo_report_lines.proofs.Texts.{nothing_past}
use Rattle.mo_verify.specs.Steps.{IsBlankReport}
use Rattle.mo_verify.specs.Verdict.{head_text}

longer : (b : ℕ) (lines : List (List ℕ)) → length lines ≤ length (before_first b lines)
longer b [] = omega arith
longer b (line ∷ lines) = omega arith

-- a text has a line for each line feed, and those of what stands behind it
pub feed_counts : (front rest : List ℕ) → length (lines_of rest) + 1 ≤ length (lines_of (front ++ 10 ∷ rest))
feed_counts [] rest = omega arith
feed_counts (b ∷ front) rest = go (b == 10) refl (feed_counts front rest)
  where
    go : (feed : Bool) → (b == 10) ≡ feed → length (lines_of rest) + 1 ≤ length (lines_of (front ++ 10 ∷ rest)) → length (lines_of rest) + 1 ≤ length (lines_of (b ∷ front ++ 10 ∷ rest))
    go true e later = rw e (omega (arith, later))
    go false e later = let more = longer b (lines_of (front ++ 10 ∷ rest)) in rw e (omega (arith, later, more))

-- ---- no line is empty
first_some : (b : ℕ) (lines : List (List ℕ)) (n : ℕ) → n < length (before_first b lines) → ((k : ℕ) → k < length lines → get_or lines k [] ≢ []) → get_or (before_first b lines) n [] ≢ []
first_some b [] zero below later e = cc
first_some b [] (suc n) below later e = omega arith
first_some b (line ∷ lines) zero below later e = cc
first_some b (line ∷ lines) (suc n) below later e = later (suc n) (omega arith) e

feed_some : (b : ℕ) (lines : List (List ℕ)) (n : ℕ) → n < length ((b ∷ []) ∷ lines) → ((k : ℕ) → k < length lines → get_or lines k [] ≢ []) → get_or ((b ∷ []) ∷ lines) n [] ≢ []
feed_some b lines zero below later e = cc
feed_some b lines (suc n) below later e = later n (omega arith) e

pub line_some : (text : List ℕ) (n : ℕ) → n < length (lines_of text) → get_or (lines_of text) n [] ≢ []
line_some [] n below = absurd (omega arith)
line_some (b ∷ bs) n below = go (b == 10) refl (λ k h. line_some bs k h)
  where
    go : (feed : Bool) → (b == 10) ≡ feed → ((k : ℕ) → k < length (lines_of bs) → get_or (lines_of bs) k [] ≢ []) → get_or (lines_of (b ∷ bs)) n [] ≢ []
    go true e later = rw e (feed_some b (lines_of bs) n (rw e at below) later)
    go false e later = rw e (first_some b (lines_of bs) n (rw e at below) later)

-- ---- the head
unfoldable pub middle : FlatModel → List ℕ
middle m = (codes "equations " ++ decimal (length m.equations)) ++ numbered (codes " unknowns ") (length (unknown_names m.vars))

pub head_is : (m : FlatModel) → head_text m ≡ named (codes "report ") m.name ++ 10 ∷ (middle m ++ 10 ∷ [])
unfolding numbered middle
head_is m =
    let a = named (codes "report ") m.name in
    let b = codes "equations " ++ decimal (length m.equations) in
    let c = codes " unknowns " ++ decimal (length (unknown_names m.vars)) in
    append_assoc (a ++ 10 ∷ b) c (10 ∷ []) ∙ (append_assoc a (10 ∷ b) (c ++ 10 ∷ []) ∙ ap (λ (t : List ℕ). a ++ 10 ∷ t) (sym (append_assoc b c (10 ∷ []))))

pub head_lines_two : (m : FlatModel) → 2 ≤ length (lines_of (head_text m))
head_lines_two m =
    let last : 1 ≤ length (lines_of (middle m ++ 10 ∷ [])) = let h = feed_counts (middle m) [] in omega (arith, h) in
    let all = feed_counts (named (codes "report ") m.name) (middle m ++ 10 ∷ []) in
    rw (head_is m) (omega (arith, last, all))

-- a text with the second line of a head has two lines
pub begun_lines : (m : FlatModel) (report : List ℕ) → line_at report 2 ≡ line_at (head_text m) 2 → 2 ≤ length (lines_of report)
begun_lines m report second = elim (cases_lt (length (lines_of report)) 2) [
  | inl short ↦ absurd (line_some (head_text m) 1 (head_lines_two m) (sym second ∙ nothing_past (lines_of report) 1 (omega arith)))
  | inr long ↦ long
]

-- the text of a report in which nothing is found is the head
pub blank_head : (m : FlatModel) (g : Signature) (r : Report) → equations g ≡ length m.equations → IsBlankReport m g r → report_lines r ≡ head_text m
blank_head m g r count b = rw (b.deficit, b.offsets) (append-nil (head_lines r) ∙ rw (b.name, b.unknowns, b.equations, count) refl)
