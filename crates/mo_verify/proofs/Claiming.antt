-- The lines of equations and unknowns, one after another.
use Rattle.std.proofs.Common.{◌≡◌, ◌≢◌, ℕ, zero, suc, ◌+◌, ◌<◌, ◌≤◌, inl, inr, List, [], ◌∷◌, ◌++◌, length, drop, get_or, Some, None, refl, sym, ap, ◌∙◌, arith, length-append}
use Rattle.std.proofs.lemmas.Bool.{cases_lt}
use Rattle.std.proofs.lemmas.List.{drop_all}
use Rattle.mo_report_lines.specs.Grammar.{IsEquationLine, IsUnknownLine}
use Rattle.mo_report_lines.specs.Lines.{lines_of, without_feed}
use Rattle.mo_report_lines.proofs.Texts.{IsCutOff, at_line, past_lines, nothing_past}
use Rattle.mo_verify.specs.declared.verdict.Verdict.{Verdict}
use Rattle.mo_verify.specs.declared.verdict.Verdict.TheVariants.{Shape}
use Rattle.mo_verify.specs.Printed.{Printed}
use Rattle.mo_verify.specs.Reading.{text_at, number_of, IsEquationText, ArePrintedTo, ArePrinted}
use Rattle.mo_verify.specs.Steps.{AreReadTo, IsShapeAt}

empty_front : (a b : List ℕ) → [] ≡ a ++ b → (a ≡ []) × (b ≡ [])
empty_front [] b e = (refl, sym e)
empty_front (x ∷ a) b e = cc

-- the line at the front of what is left is that of its number
line_is : (text left line rest : List ℕ) (n : ℕ) → drop n (lines_of text) ≡ lines_of left → IsCutOff left line rest → (get_or (lines_of text) n [] ≡ line) × (drop (n + 1) (lines_of text) ≡ lines_of rest)
line_is text [] line rest n at cut =
    let parts = empty_front line rest cut.whole in
    let past : length (lines_of text) ≤ n = past_lines (lines_of text) n at in
    let none : drop (n + 1) (lines_of text) ≡ [] = drop_all (n + 1) (lines_of text) (omega arith) in
    (nothing_past (lines_of text) n past ∙ sym parts.0, none ∙ ap lines_of (sym parts.1))
line_is text (b ∷ left) line rest n at cut =
    let here = at_line (lines_of text) n line (lines_of rest) (at ∙ cut.lines (omega arith)) in
    (here.1, here.2)

-- the first elements stay, and the last one stands behind them
kept : (xs : List ℕ) (x i : ℕ) → i < length xs → get_or (xs ++ x ∷ []) i 0 ≡ get_or xs i 0
kept [] x i below = absurd (omega arith)
kept (y ∷ xs) x zero below = refl
kept (y ∷ xs) x (suc i) below = kept xs x i (omega arith)

last : (xs : List ℕ) (x n : ℕ) → length xs ≡ n → get_or (xs ++ x ∷ []) n 0 ≡ x
last [] x zero e = refl
last [] x (suc n) e = absurd (omega arith)
last (y ∷ xs) x zero e = absurd (omega arith)
last (y ∷ xs) x (suc n) e = last xs x n (omega arith)

pub one_longer : (xs ys : List ℕ) (x n : ℕ) → ys ≡ xs ++ x ∷ [] → length xs ≡ n → length ys ≡ n + 1
one_longer xs ys x n e l = let size : length (xs ++ x ∷ []) ≡ length xs + 1 = length-append xs (x ∷ []) in ap length e ∙ omega (arith, size, l)

module _ (names : List (List ℕ)) (m : ℕ) (report : List ℕ) where
  pub all_printed : (p : Printed) → length p.c ≡ m → length p.pairs ≡ m → length p.orders ≡ m → length p.d ≡ length names → ArePrintedTo names m report p (m + length names) → ArePrinted names m report p
  all_printed p c pairs orders d lines = record { c_all = c; pairs_all = pairs; orders_all = orders; d_all = d; lines = lines }

  pub none_read : (p : Printed) (rest : List ℕ) → drop 2 (lines_of report) ≡ lines_of rest → AreReadTo names m report p 0 rest
  none_read p rest at = record { at = at; printed = record { equation = λ i below before. absurd (omega arith); unknown = λ j below before. absurd (omega arith) } }

  module _ (p : Printed) (k : ℕ) (rest line left : List ℕ) (r : AreReadTo names m report p k rest) (cut : IsCutOff rest line left) where
    here : (get_or (lines_of report) (k + 2) [] ≡ line) × (drop (k + 2 + 1) (lines_of report) ≡ lines_of left)
    here = line_is report rest line left (k + 2) r.at cut

    text_is : text_at report (k + 3) ≡ without_feed line
    text_is = let three : k + 3 ≡ suc (k + 2) = omega arith in rw three (ap without_feed here.0)

    next_at : drop (k + 1 + 2) (lines_of report) ≡ lines_of left
    next_at = let three : k + 1 + 2 ≡ k + 2 + 1 = omega arith in rw three here.1

    -- the line of an equation
    pub one_equation : (c pair order : ℕ) → k < m → length p.c ≡ k → length p.pairs ≡ k → length p.orders ≡ k → IsEquationText names (without_feed line) (k + 1) c pair order
        → AreReadTo names m report (record { c = p.c ++ c ∷ []; d = p.d; pairs = p.pairs ++ pair ∷ []; orders = p.orders ++ order ∷ [] }) (k + 1) left
    one_equation c pair order below c_all pairs_all orders_all is = record {
      at = next_at;
      printed = record {
        equation = λ i within before. elim (cases_lt i k) [
          | inl old ↦ (
              let e = kept p.c c i (omega (arith, c_all, old)) in
              let f = kept p.pairs pair i (omega (arith, pairs_all, old)) in
              let h = kept p.orders order i (omega (arith, orders_all, old)) in
              rw (e, f, h) (r.printed.equation i within old))
          | inr new ↦ (
              let same : i ≡ k = omega arith in
              let e = last p.c c k c_all in
              let f = last p.pairs pair k pairs_all in
              let h = last p.orders order k orders_all in
              rw (same, e, f, h, text_is) is)
        ];
        unknown = λ j within before. absurd (omega arith);
      };
    }

    pub more_equations : (c pair order : ℕ) (cs pairs orders : List ℕ) → k < m → length p.c ≡ k → length p.pairs ≡ k → length p.orders ≡ k → cs ≡ p.c ++ c ∷ [] → pairs ≡ p.pairs ++ pair ∷ [] → orders ≡ p.orders ++ order ∷ []
        → IsEquationText names (without_feed line) (k + 1) c pair order → AreReadTo names m report (record { c = cs; d = p.d; pairs = pairs; orders = orders }) (k + 1) left
    more_equations c pair order cs pairs orders below c_all pairs_all orders_all e f h is = rw (e, f, h) (one_equation c pair order below c_all pairs_all orders_all is)

    pub no_equation : k < m → ((c pair order : ℕ) → IsEquationText names (without_feed line) (k + 1) c pair order → ⊥) → IsShapeAt names m report p k (Shape (k + 1 + 2) (without_feed line) (k + 1))
    no_equation below none = record {
      before = r.printed;
      here = record { within = omega arith; equation = λ within c pair order is. none c pair order (rw text_is at is); unknown = λ j same d is. omega arith };
      is = let three : k + 1 + 2 ≡ k + 3 = omega arith in rw (three, text_is) refl;
    }

    pub other_equation : (v : Verdict) (n : ℕ) → n ≡ k → k < m → v ≡ Shape (k + 1 + 2) (without_feed line) (k + 1) → ((c pair order : ℕ) → IsEquationText names (without_feed line) (k + 1) c pair order → ⊥) → IsShapeAt names m report p n v
    other_equation v n e below is none = rw (is, e) (no_equation below none)

  -- the line of an unknown
  module _ (p : Printed) (j : ℕ) (rest line left : List ℕ) (r : AreReadTo names m report p (m + j) rest) (cut : IsCutOff rest line left) (below : j < length names) where
    there : (get_or (lines_of report) (m + j + 2) [] ≡ line) × (drop (m + j + 2 + 1) (lines_of report) ≡ lines_of left)
    there = line_is report rest line left (m + j + 2) r.at cut

    text_there : text_at report (m + j + 3) ≡ without_feed line
    text_there = let three : m + j + 3 ≡ suc (m + j + 2) = omega arith in rw three (ap without_feed there.0)

    pub one_unknown : (d : ℕ) → length p.d ≡ j → IsUnknownLine (without_feed line) (get_or names j []) d
        → AreReadTo names m report (record { c = p.c; d = p.d ++ d ∷ []; pairs = p.pairs; orders = p.orders }) (m + (j + 1)) left
    one_unknown d d_all is = record {
      at = let three : m + (j + 1) + 2 ≡ m + j + 2 + 1 = omega arith in rw three there.1;
      printed = record {
        equation = λ i within before. r.printed.equation i within (omega arith);
        unknown = λ u within before. elim (cases_lt u j) [
          | inl old ↦ (let e = kept p.d d u (omega (arith, d_all, old)) in rw e (r.printed.unknown u within (omega arith)))
          | inr new ↦ (
              let same : u ≡ j = omega arith in
              let e = last p.d d j d_all in
              rw (same, e, text_there) is)
        ];
      };
    }

    pub more_unknowns : (d : ℕ) (ds : List ℕ) → length p.d ≡ j → ds ≡ p.d ++ d ∷ [] → IsUnknownLine (without_feed line) (get_or names j []) d
        → AreReadTo names m report (record { c = p.c; d = ds; pairs = p.pairs; orders = p.orders }) (m + (j + 1)) left
    more_unknowns d ds d_all e is = rw e (one_unknown d d_all is)

    pub no_unknown : ((d : ℕ) → IsUnknownLine (without_feed line) (get_or names j []) d → ⊥) → (wanted : ℕ) → wanted ≡ m + j + 1 → IsShapeAt names m report p (m + j) (Shape (wanted + 2) (without_feed line) wanted)
    no_unknown none wanted e = record {
      before = r.printed;
      here = record {
        within = omega arith;
        equation = λ within c pair order is. omega arith;
        unknown = λ u same d is. (let one : u ≡ j = omega arith in none d (rw (one, text_there) at is));
      };
      is = let three : wanted + 2 ≡ m + j + 3 = omega arith in rw (three, text_there, e) refl;
    }

    pub other_unknown : (v : Verdict) (wanted n : ℕ) → v ≡ Shape (wanted + 2) (without_feed line) wanted → wanted ≡ m + j + 1 → n ≡ m + j → ((d : ℕ) → IsUnknownLine (without_feed line) (get_or names j []) d → ⊥)
        → IsShapeAt names m report p n v
    other_unknown v wanted n is e f none = rw (is, f) (no_unknown none wanted e)

-- what stands behind two lines
pub two_off : (report line rest next left : List ℕ) → 2 ≤ length (lines_of report) → IsCutOff report line rest → IsCutOff rest next left → drop 2 (lines_of report) ≡ lines_of left
two_off [] line rest next left two cut more = absurd (omega (arith, two))
two_off (b ∷ report) line [] next left two cut more = let one : lines_of (b ∷ report) ≡ line ∷ [] = cut.lines (omega arith) in let few : 2 ≤ 1 = rw one at two in absurd (omega (arith, few))
two_off (b ∷ report) line (x ∷ rest) next left two cut more = rw (cut.lines (omega arith), more.lines (omega arith)) refl

-- ---- what one line says
-- the line of an equation says one thing
pub record SaysOnly (text : List ℕ) (number offset : ℕ) (name : List ℕ) (order : ℕ) : Type 0 where
  pub is : IsEquationLine text number offset name order
  pub only : (i c k : ℕ) (other : List ℕ) → IsEquationLine text i c other k → (i ≡ number) × (c ≡ offset) × (other ≡ name) × (k ≡ order)

module _ (names : List (List ℕ)) (text : List ℕ) (number : ℕ) where
  pub claim_not_line : ((i c k : ℕ) (name : List ℕ) → IsEquationLine text i c name k → ⊥) → (c pair order : ℕ) → IsEquationText names text number c pair order → ⊥
  claim_not_line none c pair order is = none number c order is.name is.line

  module _ (n offset : ℕ) (name : List ℕ) (k : ℕ) (s : SaysOnly text n offset name k) where
    pub claim_not_number : n ≢ number → (c pair order : ℕ) → IsEquationText names text number c pair order → ⊥
    claim_not_number apart c pair order is = apart (sym (s.only number c order is.name is.line).0)

    pub claim_not_name : number_of names name ≡ None → (c pair order : ℕ) → IsEquationText names text number c pair order → ⊥
    claim_not_name none c pair order is =
        let same : is.name ≡ name = (s.only number c order is.name is.line).2 in
        let clash : None ≡ Some pair = sym none ∙ ap (number_of names) (sym same) ∙ is.is_number in cc

    pub claim_is : (pair : ℕ) → n ≡ number → number_of names name ≡ Some pair → IsEquationText names text number offset pair k
    claim_is pair same found = record { name = name; line = rw same at s.is; is_number = found }
