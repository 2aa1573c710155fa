-- Words on the steps of a verdict.
use Rattle.std.specs.Prelude.{◌≡◌, ℕ, ◌+◌, ◌<◌, ◌≤◌, List, [], Option, None, Vec, drop, length}
use Rattle.std.specs.Global.{Global}
use Rattle.std.specs.HashMap.{get_by}
use Rattle.std.specs.Str.{bytes_eq}
use Rattle.std.proofs.Common.{get_or}
use Rattle.mo_flat.specs.declared.model.FlatModel.{FlatModel}
use Rattle.mo_incidence.specs.Signature.{Signature, equations}
use Rattle.mo_incidence.specs.declared.findings.Blocks.{Blocks}
use Rattle.mo_incidence.specs.declared.findings.Dummies.{Dummies}
use Rattle.mo_incidence.specs.declared.findings.Offsets.{Offsets}
use Rattle.mo_incidence.specs.declared.findings.Reason.{Reason}
use Rattle.mo_incidence.specs.Blocks.{AreBlocksInOrder, numbers_in}
use Rattle.mo_incidence.specs.Counting.{sum_below}
use Rattle.mo_incidence.specs.Dummies.{dummies_of, states_of}
use Rattle.mo_incidence.specs.Offsets.{sum_unknowns, c_of, d_of, pairs_of}
use Rattle.mo_incidence.specs.Reasons.{AreReasonsOf}
use Rattle.mo_report.specs.declared.report.Report.{Report}
use Rattle.mo_report.specs.Right.{HasNoSquareParts, index_of}
use Rattle.mo_report.specs.Size.{unknown_names}
use Rattle.mo_report_lines.specs.Lines.{lines_of, without_feed, DifferFirst}
use Rattle.mo_verify.specs.declared.claims.Claims.{Claims}
use Rattle.mo_verify.specs.declared.numbers.Numbers.{Numbers}
use Rattle.mo_verify.specs.declared.verdict.Verdict.{Verdict}
use Rattle.mo_verify.specs.declared.verdict.Verdict.TheVariants.{Line, Shape}
use Rattle.mo_verify.specs.declared.verdict.Step.{Step}
use Rattle.mo_verify.specs.declared.verdict.Step.TheVariants.{Next, Verdict as given}
use Rattle.mo_verify.specs.Printed.{Printed}
use Rattle.mo_verify.specs.Reading.{text_at, ArePrintedTo, IsMisshapen}

-- ---- what a step gives
abbrev pub IfNext : {T : Type 0} → Step T → (T → Type 0) → Type 0
IfNext (Next x) P = P x
IfNext (given v) P = Unit {0}

abbrev pub IfVerdict : {T : Type 0} → Step T → (Verdict → Type 0) → Type 0
IfVerdict (Next x) P = Unit {0}
IfVerdict (given v) P = P v

-- ---- comparing
-- the verdict tells the first line, up to this one, at which the texts differ
pub record IsDifference (report wanted : List ℕ) (last : ℕ) (verdict : Verdict) : Type 0 where
  pub number : ℕ
  pub line : List ℕ
  pub other : List ℕ
  pub differ : DifferFirst report wanted number line other
  pub within : number ≤ last
  pub is : verdict ≡ Line number (without_feed line) (without_feed other)

-- the verdict of a comparison: the first line that differs, or what holds where the texts are the same
pub data ComparesWith (report wanted : List ℕ) (holds verdict : Verdict) : Type 0 where
  differs : (number : ℕ) (line other : List ℕ) → DifferFirst report wanted number line other → verdict ≡ Line number (without_feed line) (without_feed other) → ComparesWith report wanted holds verdict
  same : report ≡ wanted → verdict ≡ holds → ComparesWith report wanted holds verdict

-- the texts do not differ up to this line
abbrev pub AgreeTo : List ℕ → List ℕ → ℕ → Type 0
AgreeTo report wanted last = (n : ℕ) → n < last → get_or (lines_of report) n [] ≡ get_or (lines_of wanted) n []

-- ---- reports
-- a report with the names of a model, in which nothing is found
pub record IsBlankReport (m : FlatModel) (g : Signature) (r : Report) : Type 0 where
  pub name : r.name ≡ m.name
  pub unknowns : r.unknowns ≡ unknown_names m.vars
  pub equations : r.equations ≡ equations g
  pub orders : r.orders.items ≡ []
  pub deficit : r.deficit ≡ None
  pub offsets : r.offsets ≡ None
  pub loose : r.loose.items ≡ []
  pub square : HasNoSquareParts r

-- besides what was in the report, it has the reasons of these offsets
pub record PutsReasons (g : Signature) (offsets : Offsets) (before after : Report) : Type 0 where
  pub reasons : Vec Reason Global
  pub is : after ≡ record before { reasons = reasons }
  pub are : AreReasonsOf g (c_of offsets) (d_of offsets) (pairs_of offsets) reasons.items

-- it has their blocks
pub record PutsBlocks (g : Signature) (offsets : Offsets) (before after : Report) : Type 0 where
  pub blocks : Blocks
  pub is : after ≡ record before { blocks = blocks }
  pub are : AreBlocksInOrder g (c_of offsets) (d_of offsets) (pairs_of offsets) (numbers_in blocks.0.items)

-- it has their dummies, index and freedom
pub record PutsDummies (g : Signature) (offsets : Offsets) (before after : Report) : Type 0 where
  pub dummies : Dummies
  pub index : ℕ
  pub freedom : ℕ
  pub is : after ≡ record before { dummies = dummies; index = index; freedom = freedom }
  pub chosen : dummies.chosen.items ≡ dummies_of (c_of offsets) (d_of offsets) (pairs_of offsets) (equations g)
  pub states : dummies.states.items ≡ states_of (c_of offsets) (d_of offsets) (pairs_of offsets) (equations g) g.unknowns
  pub index_is : index ≡ index_of g (c_of offsets) (d_of offsets)
  pub freedom_is : freedom ≡ length dummies.states.items
  pub counted : length dummies.states.items + sum_below (c_of offsets) (equations g) ≡ sum_unknowns g (d_of offsets)

-- ---- names
abbrev pub number_held : Numbers → List ℕ → Option ℕ
number_held table name = get_by (λ k. bytes_eq name k.now) table.numbers

-- ---- lines
-- the lists that are printed, as they are kept
abbrev pub printed_of : Claims → Printed
printed_of claims = record { c = claims.offsets.c.items; d = claims.offsets.d.items; pairs = claims.offsets.pairs.items; orders = claims.orders.items }

-- so many lines behind the head are read, and the first n of the lists say what they say
pub record AreReadTo (names : List (List ℕ)) (m : ℕ) (report : List ℕ) (p : Printed) (n : ℕ) (rest : List ℕ) : Type 0 where
  pub at : drop (n + 2) (lines_of report) ≡ lines_of rest
  pub printed : ArePrintedTo names m report p n

-- the verdict tells that the line of this turn, from 0, has another shape
pub record IsShapeAt (names : List (List ℕ)) (m : ℕ) (report : List ℕ) (p : Printed) (k : ℕ) (verdict : Verdict) : Type 0 where
  pub before : ArePrintedTo names m report p k
  pub here : IsMisshapen names m report k
  pub is : verdict ≡ Shape (k + 3) (text_at report (k + 3)) (k + 1)
