-- From what the text of a ladder gives to what is told of it.
use Rattle.std.proofs.Common.{◌≡◌, ◌++◌, ℕ, List, Option, Some, None, Result, Ok, Err, IfOk, refl, ap, sym, ◌∙◌, subst}
use Rattle.std.proofs.lemmas.List.{append_assoc}
use Rattle.mo_syntax.specs.Outcome.{IfBroken}
use Rattle.mo_syntax.specs.declared.place.Broken.{Broken}
use Rattle.mo_syntax.specs.declared.place.Stop.{Stop}
use Rattle.mo_syntax.specs.declared.place.Stop.TheVariants.{Broken as broken_by, NoMemory as no_memory}
use Rattle.mo_flat.specs.declared.model.FlatModel.{FlatModel}
use Rattle.mo_incidence.specs.declared.findings.Offsets.{Offsets}
use Rattle.mo_incidence.specs.Model.{refusal_of}
use Rattle.mo_report.specs.declared.report.Report.{Report}
use Rattle.mo_report.specs.Right.{IsRightReport}
use Rattle.mo_front.specs.declared.status.Status.{Status}
use Rattle.mo_front.specs.declared.status.Status.TheVariants.{Differs, Refused, Singular}
use Rattle.mo_front.specs.declared.words.Emit.TheVariants as emit
use Rattle.mo_front.specs.Emitted.{PhasesBreak, Refuses, asked_by, no_text as no_part}
use Rattle.mo_front.specs.Ladder.{IsSummary, SumsUpGiven, TellsLadder, ladder_names, ladder_path, ladder_texts, refused, summary_line, summed}
use Rattle.mo_front.specs.Run.{IsAnswer}
use Rattle.mo_front.specs.Least.{IsLeastOf}
use Rattle.mo_front.specs.Told.{Breaks, TextsGive, broken, flat, line_of_broken, no_model, no_text}

pub report_no_flat : emit.Report ≡ emit.Flat → ⊥
report_no_flat e = cc

-- three texts at the end, one behind the other
pub behind_three : (s p q r a b c : List ℕ) → p ≡ s ++ a → q ≡ p ++ b → r ≡ q ++ c → r ≡ s ++ ((a ++ b) ++ c)
behind_three s p q r a b c first second third =
    third ∙ ap (λ (x : List ℕ). x ++ c) (second ∙ ap (λ (x : List ℕ). x ++ b) first ∙ append_assoc s a b) ∙ append_assoc s (a ++ b) c

-- ---- by the least offsets

pub report_refused : {A : Type 0} (m : FlatModel) (o : Option Offsets) (t : Result A Stop) (s : Stop) → t ≡ Err s → refusal_of m ≡ None → IsLeastOf m o
    → IfBroken t (λ b. PhasesBreak m o (asked_by emit.Report).phases (Some b)) → IfBroken {T = List ℕ} (Err s) (λ b. Refuses emit.Report m b)
report_refused {A} m o t s is accepted they was = at s (rw is at was)
  where
    at : (s : Stop) → IfBroken {T = A} (Err s) (λ b. PhasesBreak m o (asked_by emit.Report).phases (Some b)) → IfBroken {T = List ℕ} (Err s) (λ b. Refuses emit.Report m b)
    at (broken_by b) was = no_part o report_no_flat accepted they was
    at no_memory was = tt

pub summed_up : (n : ℕ) (m : FlatModel) (o : Option Offsets) (r : Report) (text : List ℕ) → refusal_of m ≡ None → IsRightReport m r → r.offsets ≡ o
    → PhasesBreak m o (asked_by emit.Report).phases None → text ≡ summary_line n m r → IsSummary n m text
summed_up n m o r text accepted right given passed is = record {
  r = r;
  accepted = accepted;
  right = right;
  passed = subst (λ (x : Option Offsets). PhasesBreak m x (asked_by emit.Report).phases None) (sym given) passed;
  is = is;
}

-- ---- of what the text gives

module _ (n : ℕ) (path texts : List (List ℕ)) (class : path ≡ ladder_path) where
  module _ (m : FlatModel) (gives : TextsGive path texts (flat m)) where
    ladder_gives : TextsGive ladder_path texts (flat m)
    ladder_gives = subst (λ (p : List (List ℕ)). TextsGive p texts (flat m)) class gives

    pub sums_given : (t : Result (List ℕ) Stop) → IfOk t (IsSummary n m) → IfOk t (SumsUpGiven (TextsGive ladder_path texts) n)
    sums_given (Ok text) sums = record { m = m; given = ladder_gives; sums = sums }
    sums_given (Err s) sums = tt

    pub refused_given : (t : Result (List ℕ) Stop) → IfBroken t (λ b. Refuses emit.Report m b) → IfBroken t (λ b. Breaks (TextsGive ladder_path texts) emit.Report b)
    refused_given (Ok text) refuses = tt
    refused_given (Err (broken_by b)) refuses = no_text m ladder_gives refuses
    refused_given (Err no_memory) refuses = tt

  pub refused_before : (r : Result FlatModel Stop) (s : Stop) → r ≡ Err s → IfBroken r (λ b. TextsGive path texts (broken b))
      → IfBroken {T = List ℕ} (Err s) (λ b. Breaks (TextsGive ladder_path texts) emit.Report b)
  refused_before r s is was = at s (rw is at was)
    where
      at : (s : Stop) → IfBroken {T = FlatModel} (Err s) (λ b. TextsGive path texts (broken b)) → IfBroken {T = List ℕ} (Err s) (λ b. Breaks (TextsGive ladder_path texts) emit.Report b)
      at (broken_by b) was = no_model (subst (λ (p : List (List ℕ)). TextsGive p texts (broken b)) class was)
      at no_memory was = tt

-- ---- what is told

-- the line of a rule that the text breaks
pub told_line : (n : ℕ) (texts others : List (List ℕ)) → texts ≡ ladder_texts n → others ≡ ladder_texts n → (b : Broken) (bytes : List ℕ) → bytes ≡ line_of_broken ladder_names others b
    → Breaks (TextsGive ladder_path texts) emit.Report b → TellsLadder n Refused bytes
told_line n texts others same also b bytes is breaks =
    refused b (subst (λ (x : List (List ℕ)). Breaks (TextsGive ladder_path x) emit.Report b) same breaks) refl
    (subst (λ (x : List (List ℕ)). bytes ≡ line_of_broken ladder_names x b) also is)

-- a ladder is done or refused
pub ladder_status : (n : ℕ) (status : Status) (text : List ℕ) → TellsLadder n status text → IsAnswer status × (status ≡ Singular → ⊥)
ladder_status n status text (summed sums is) = (rw is tt, λ (e : status ≡ Singular). cc)
ladder_status n status text (refused b breaks is text_is) = (rw is tt, λ (e : status ≡ Singular). cc)

pub ladder_never_differs : (n : ℕ) (status : Status) (text : List ℕ) → TellsLadder n status text → status ≡ Differs → ⊥
ladder_never_differs n status text (summed sums is) e = cc
ladder_never_differs n status text (refused b breaks is text_is) e = cc
