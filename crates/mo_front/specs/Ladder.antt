-- What is told of a ladder: one line with the counts of its flat model and the numbers of its report.
use Rattle.std.specs.Prelude.{◌≡◌, ℕ, List, [], ◌∷◌, ◌++◌, length, codes, decimal, None}
use Rattle.mo_syntax.specs.declared.place.Broken.{Broken}
use Rattle.mo_gen.specs.Ladder.{ladder_text}
use Rattle.mo_flat.specs.declared.model.FlatModel.{FlatModel}
use Rattle.mo_incidence.specs.Model.{refusal_of}
use Rattle.mo_report.specs.declared.report.Report.{Report}
use Rattle.mo_report.specs.Right.{IsRightReport}
use Rattle.mo_front.specs.declared.status.Status.{Status}
use Rattle.mo_front.specs.declared.status.Status.TheVariants.{Done, Refused}
use Rattle.mo_front.specs.declared.words.Emit.TheVariants as emit
use Rattle.mo_front.specs.Emitted.{PhasesBreak, asked_by}
use Rattle.mo_front.specs.Told.{Breaks, Outcome, TextsGive, flat, line_of_broken}

-- the class that is asked for
abbrev pub ladder_path : List (List ℕ)
ladder_path = codes "Ladder" ∷ []

-- what stands in place of the name of a file
abbrev pub ladder_names : List (List ℕ)
ladder_names = codes "ladder" ∷ []

abbrev pub ladder_texts : ℕ → List (List ℕ)
ladder_texts n = ladder_text n ∷ []

-- a name, and behind it a number
unfoldable pub named_number : List ℕ → ℕ → List ℕ
named_number name n = name ++ decimal n

-- how large its flat model is
abbrev pub counts_text : FlatModel → Report → List ℕ
counts_text m r = named_number (codes ": variables ") (length m.vars) ++ named_number (codes ", equations ") r.equations ++ named_number (codes ", unknowns ") (length r.unknowns)

-- the numbers of the report on its structure
abbrev pub structure_text : Report → List ℕ
structure_text r = named_number (codes ", index ") r.index ++ named_number (codes ", freedom ") r.freedom ++ named_number (codes ", blocks ") (length r.blocks.0.items)

-- the line for a ladder of so many rungs, by its flat model and the report on it
abbrev pub summary_line : ℕ → FlatModel → Report → List ℕ
summary_line n m r = named_number (codes "ladder ") n ++ counts_text m r ++ structure_text r ++ codes "\n"

-- the line, where the phases that the report asks for break no rule
pub record IsSummary (n : ℕ) (m : FlatModel) (text : List ℕ) : Type 0 where
  pub r : Report
  pub accepted : refusal_of m ≡ None
  pub right : IsRightReport m r
  pub passed : PhasesBreak m r.offsets (asked_by emit.Report).phases None
  pub is : text ≡ summary_line n m r

-- the line of the model that is given
pub record SumsUpGiven (Gives : Outcome → Type 0) (n : ℕ) (text : List ℕ) : Type 0 where
  pub m : FlatModel
  pub given : Gives (flat m)
  pub sums : IsSummary n m text

-- What is told of a ladder of so many rungs: the line, or that of the first broken rule.
pub data TellsLadder (n : ℕ) (status : Status) (text : List ℕ) : Type 0 where
  summed : SumsUpGiven (TextsGive ladder_path (ladder_texts n)) n text → status ≡ Done → TellsLadder n status text
  refused : (b : Broken) → Breaks (TextsGive ladder_path (ladder_texts n)) emit.Report b → status ≡ Refused → text ≡ line_of_broken ladder_names (ladder_texts n) b →
      TellsLadder n status text
