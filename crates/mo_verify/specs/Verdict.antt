-- The verdict on a printed report: the first thing that is wrong with it, or that what it says holds. It is decided by what is printed,
-- whichever tight assignment the pairs are (C. C. Pantelides, The consistent initialization of differential-algebraic systems, SIAM J. Sci.
-- Stat. Comput. 9, 1988; J. D. Pryce, A simple structural analysis method for DAEs, BIT 41, 2001).
use Rattle.std.specs.Prelude.{◌≡◌, ◌≢◌, ℕ, ◌+◌, ◌<◌, ◌≤◌, List, [], ◌++◌, Option, Some, None, length, codes}
use Rattle.std.proofs.Common.{get_or}
use Rattle.mo_flat.specs.declared.model.FlatModel.{FlatModel}
use Rattle.mo_incidence.specs.declared.findings.Deficit.{Deficit}
use Rattle.mo_incidence.specs.declared.findings.Offsets.{Offsets}
use Rattle.mo_incidence.specs.Signature.{IsSound, equations, row_len, unknown_at, order_at}
use Rattle.mo_incidence.specs.Assignment.{Assigns, CoversAll, CanCoverAll, IsUndetermined, ListsWhere}
use Rattle.mo_incidence.specs.Offsets.{IsTight, IsAdmissible, IsLeast, by_place, by_number}
use Rattle.mo_incidence.specs.Model.{incidence_of}
use Rattle.mo_report.specs.declared.report.Report.{Report}
use Rattle.mo_report.specs.Lines.{numbered, named, report_lines}
use Rattle.mo_report.specs.Right.{HasSquareParts, HasNoSquareParts, IsRightReport}
use Rattle.mo_report.specs.Size.{unknown_names}
use Rattle.mo_report_lines.specs.Grammar.{IsName}
use Rattle.mo_report_lines.specs.Lines.{line_at, without_feed, AreReadable, IsFirstUnreadable, DifferFirst}
use Rattle.mo_verify.specs.declared.verdict.Verdict.{Verdict}
use Rattle.mo_verify.specs.declared.verdict.Verdict.TheVariants.{Yes, Admissible, Unreadable, Line, Shape, Order, Low, Loose, Twice, NotLeast}
use Rattle.mo_verify.specs.Printed.{Printed}
use Rattle.mo_verify.specs.Reading.{text_at, ArePrintedTo, ArePrinted, IsMisshapen}
use Rattle.mo_verify.specs.Finding.{HaveSizes}
use Rattle.mo_verify.specs.Faults.{IsSigma, HaveOrders, IsLowAt, FitTo, IsLooseAt, MeetTo, AreApartTo, IsChained, AreChainedTo, HasOffset}

-- the first two lines of a model's report
abbrev pub head_text : FlatModel → List ℕ
head_text m =
    named (codes "report ") m.name ++ numbered (codes "\nequations ") (length m.equations) ++ numbered (codes " unknowns ") (length (unknown_names m.vars)) ++ codes "\n"

-- all lines are readable, and the first two are the model's
pub record IsBegun (m : FlatModel) (report : List ℕ) : Type 0 where
  pub readable : AreReadable report
  pub first : line_at report 1 ≡ line_at (head_text m) 1
  pub second : line_at report 2 ≡ line_at (head_text m) 2

-- besides, all equations can be assigned, and this is printed
pub record IsRead (m : FlatModel) (report : List ℕ) (p : Printed) : Type 0 where
  pub begun : IsBegun m report
  pub can : CanCoverAll (incidence_of m)
  pub printed : ArePrinted (unknown_names m.vars) (length m.equations) report p

-- the printed offsets are admissible, with the printed pairs as a tight assignment
pub record AreAdmissible (m : FlatModel) (report : List ℕ) (p : Printed) : Type 0 where
  pub read : IsRead m report p
  pub orders : HaveOrders (incidence_of m) p (length m.equations)
  pub fit : FitTo (incidence_of m) p (length m.equations) 0
  pub meet : MeetTo p (length m.equations)
  pub apart : AreApartTo p (length m.equations)

-- the report has the names of the model and the printed offsets and pairs
pub record HasPrinted (m : FlatModel) (p : Printed) (offsets : Offsets) (r : Report) : Type 0 where
  pub name : r.name ≡ m.name
  pub unknowns : r.unknowns ≡ unknown_names m.vars
  pub equations : r.equations ≡ length m.equations
  pub no_deficit : r.deficit ≡ None
  pub given : r.offsets ≡ Some offsets
  pub c : offsets.c.items ≡ p.c
  pub d : offsets.d.items ≡ p.d
  pub pairs : offsets.pairs.items ≡ p.pairs
  pub orders : r.orders.items ≡ p.orders

-- the report on a model with fewer equations than unknowns that has what is printed
pub record IsUndeterminedReport (m : FlatModel) (p : Printed) (r : Report) : Type 0 where
  pub offsets : Offsets
  pub has : HasPrinted m p offsets r
  pub fewer : equations (incidence_of m) < (incidence_of m).unknowns
  pub loose : ListsWhere (IsUndetermined (incidence_of m)) (incidence_of m).unknowns r.loose.items
  pub no_square : HasNoSquareParts r

-- the report on a square model that has what is printed, and what follows from it
pub record IsSquareReport (m : FlatModel) (p : Printed) (r : Report) : Type 0 where
  pub offsets : Offsets
  pub has : HasPrinted m p offsets r
  pub square : equations (incidence_of m) ≡ (incidence_of m).unknowns
  pub parts : HasSquareParts (incidence_of m) offsets r

-- some equation can have no unknown of its own, and the report says so
pub record IsDeficitReport (m : FlatModel) (r : Report) : Type 0 where
  pub right : IsRightReport m r
  pub deficit : Deficit
  pub given : r.deficit ≡ Some deficit

-- the verdict, in eleven steps; each holds where none before does
pub data IsVerdict (m : FlatModel) (report : List ℕ) : Verdict → Type 0 where
  -- 1: the first line that is not readable
  unreadable : {n : ℕ} → IsFirstUnreadable report n → IsVerdict m report (Unreadable n)
  -- 2: line 1 or 2 is not the model's
  head : (line other : List ℕ) {n : ℕ} {printed found : List ℕ} → AreReadable report → DifferFirst report (head_text m) n line other → n ≤ 2
      → printed ≡ without_feed line → found ≡ without_feed other → IsVerdict m report (Line n printed found)
  -- 3: some equation can't be assigned
  deficit_differs : (r : Report) (line other : List ℕ) {n : ℕ} {printed found : List ℕ} → IsBegun m report → IsDeficitReport m r → DifferFirst report (report_lines r) n line other
      → printed ≡ without_feed line → found ≡ without_feed other → IsVerdict m report (Line n printed found)
  deficit : (r : Report) → IsBegun m report → IsDeficitReport m r → report ≡ report_lines r → IsVerdict m report Yes
  -- 4: the first line of an equation or an unknown that has another shape
  shape : (p : Printed) (k : ℕ) {n : ℕ} {printed : List ℕ} {wanted : ℕ} → IsBegun m report → CanCoverAll (incidence_of m)
      → ArePrintedTo (unknown_names m.vars) (length m.equations) report p k → IsMisshapen (unknown_names m.vars) (length m.equations) report k
      → n ≡ k + 3 → printed ≡ text_at report n → wanted ≡ k + 1 → IsVerdict m report (Shape n printed wanted)
  -- 5: the printed order of a pair is not its highest order
  order : (p : Printed) (i : ℕ) {equation unknown printed : ℕ} {found : Option ℕ} → IsRead m report p → HaveOrders (incidence_of m) p i → i < length m.equations
      → equation ≡ i + 1 → unknown ≡ get_or p.pairs i 0 → printed ≡ get_or p.orders i 0 → IsSigma (incidence_of m) i unknown found → found ≢ Some printed
      → IsVerdict m report (Order equation unknown printed found)
  -- 6: an entry passes the difference of the offsets
  low : (p : Printed) (i k : ℕ) {equation unknown order c d : ℕ} → IsRead m report p → HaveOrders (incidence_of m) p (length m.equations) → FitTo (incidence_of m) p i k
      → i < length m.equations → k < row_len (incidence_of m) i → IsLowAt (incidence_of m) p i k
      → equation ≡ i + 1 → unknown ≡ unknown_at (incidence_of m) i k → order ≡ order_at (incidence_of m) i k → c ≡ get_or p.c i 0 → d ≡ by_number p.d unknown
      → IsVerdict m report (Low equation unknown order c d)
  -- 7: a pair does not make up the difference
  loose : (p : Printed) (i : ℕ) {equation unknown order c d : ℕ} → IsRead m report p → HaveOrders (incidence_of m) p (length m.equations) → FitTo (incidence_of m) p (length m.equations) 0
      → MeetTo p i → i < length m.equations → IsLooseAt p i
      → equation ≡ i + 1 → unknown ≡ get_or p.pairs i 0 → order ≡ get_or p.orders i 0 → c ≡ get_or p.c i 0 → d ≡ by_number p.d unknown
      → IsVerdict m report (Loose equation unknown order c d)
  -- 8: two equations have one unknown
  twice : (p : Printed) (i k : ℕ) {first second unknown : ℕ} → IsRead m report p → HaveOrders (incidence_of m) p (length m.equations) → FitTo (incidence_of m) p (length m.equations) 0
      → MeetTo p (length m.equations) → AreApartTo p k → i < k → k < length m.equations → get_or p.pairs i 0 ≡ get_or p.pairs k 0
      → first ≡ i + 1 → second ≡ k + 1 → unknown ≡ get_or p.pairs k 0 → IsVerdict m report (Twice first second unknown)
  -- 9: with fewer equations than unknowns, the undetermined ones
  undetermined_differs : (p : Printed) (r : Report) (line other : List ℕ) {n : ℕ} {printed found : List ℕ} → AreAdmissible m report p → IsUndeterminedReport m p r
      → DifferFirst report (report_lines r) n line other → printed ≡ without_feed line → found ≡ without_feed other → IsVerdict m report (Line n printed found)
  undetermined : (p : Printed) (r : Report) → AreAdmissible m report p → IsUndeterminedReport m p r → report ≡ report_lines r → IsVerdict m report Admissible
  -- 10: the first equation from which no chain of reasons leads to an offset of 0; some admissible offsets have one less for it
  not_least : (p : Printed) (i : ℕ) {equation printed smaller : ℕ} → AreAdmissible m report p → equations (incidence_of m) ≡ (incidence_of m).unknowns → AreChainedTo (incidence_of m) p i
      → i < length m.equations → (IsChained (incidence_of m) p i → ⊥) → equation ≡ i + 1 → printed ≡ get_or p.c i 0 → printed ≡ smaller + 1 → HasOffset (incidence_of m) i smaller
      → IsVerdict m report (NotLeast equation printed smaller)
  -- 11: the other lines
  square_differs : (p : Printed) (r : Report) (line other : List ℕ) {n : ℕ} {printed found : List ℕ} → AreAdmissible m report p → AreChainedTo (incidence_of m) p (length m.equations) → IsSquareReport m p r
      → DifferFirst report (report_lines r) n line other → printed ≡ without_feed line → found ≡ without_feed other → IsVerdict m report (Line n printed found)
  square : (p : Printed) (r : Report) → AreAdmissible m report p → AreChainedTo (incidence_of m) p (length m.equations) → IsSquareReport m p r → report ≡ report_lines r → IsVerdict m report Yes

-- ---- what the verdict promises

-- the report is right for the model, with the printed pairs as one of its tight assignments of all equations
pub record IsRightWith (m : FlatModel) (p : Printed) (r : Report) : Type 0 where
  pub report : IsSquareReport m p r
  pub sizes : HaveSizes (incidence_of m) p
  pub orders : HaveOrders (incidence_of m) p (length m.equations)
  pub tight : Assigns (IsTight (incidence_of m) (by_place p.c) (by_number p.d)) (length m.equations) (by_place p.pairs)
  pub all : CoversAll (incidence_of m) (by_place p.pairs)
  pub least : IsLeast (incidence_of m) (by_place p.c) (by_number p.d)

-- the text is that of a right report in a model where some equation can't be assigned, or that is square
pub data IsRightText (m : FlatModel) (report : List ℕ) : Type 0 where
  singular : (r : Report) → IsDeficitReport m r → report ≡ report_lines r → IsRightText m report
  least : (p : Printed) (r : Report) → IsRightWith m p r → report ≡ report_lines r → IsRightText m report

-- The text is that of a report on a model with fewer equations than unknowns whose offsets are admissible, with the printed pairs as a
-- tight assignment. Nothing that such a report prints shows whether they are the least.
pub record IsAdmissibleText (m : FlatModel) (report : List ℕ) : Type 0 where
  pub printed : Printed
  pub shown : Report
  pub is : report ≡ report_lines shown
  pub says : IsUndeterminedReport m printed shown
  pub orders : HaveOrders (incidence_of m) printed (length m.equations)
  pub tight : Assigns (IsTight (incidence_of m) (by_place printed.c) (by_number printed.d)) (length m.equations) (by_place printed.pairs)
  pub all : CoversAll (incidence_of m) (by_place printed.pairs)
  pub admissible : IsAdmissible (incidence_of m) (by_place printed.c) (by_number printed.d)

-- the model's name and those of its unknowns are names of a report, and no two unknowns have one
pub record HasNames (m : FlatModel) : Type 0 where
  pub name : IsName m.name
  pub unknowns : (j : ℕ) → j < length (unknown_names m.vars) → IsName (get_or (unknown_names m.vars) j [])
  pub apart : (i k : ℕ) → i < length (unknown_names m.vars) → k < length (unknown_names m.vars) → get_or (unknown_names m.vars) i [] ≡ get_or (unknown_names m.vars) k [] → i ≡ k

-- where a report is right, all its lines are readable, if the model's name and those of its unknowns are names of a report
abbrev pub IsReadableIfRight : FlatModel → List ℕ → Type 0
IsReadableIfRight m report = IsSound (incidence_of m) → HasNames m → length report ≤ 67108864 → IsRightText m report → AreReadable report

-- where the verdict is that an offset is not the least, one with the smaller number it names is admissible
abbrev pub HasSmallerOffset : FlatModel → Verdict → Type 0
HasSmallerOffset m verdict = (i printed less : ℕ) → verdict ≡ NotLeast (i + 1) printed less → HasOffset (incidence_of m) i less
