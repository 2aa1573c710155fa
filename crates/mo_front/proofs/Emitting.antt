-- From a right report to what is written of a model.
use Rattle.std.proofs.Common.{◌≡◌, ℕ, Bool, true, false, List, [], ◌∷◌, length, map, Option, Some, None, Result, Ok, Err, IfOk, IfSome, if◌then◌else◌, refl, ap, sym, ◌∙◌, subst, arith}
use Rattle.std.specs.Prelude.{MatchOption, nat_le}
use Rattle.mo_syntax.specs.Outcome.{IfBroken, IfBroken as IfReducedBroken}
use Rattle.mo_syntax.specs.declared.place.Broken.{Broken}
use Rattle.mo_syntax.specs.declared.place.Place.{Place}
use Rattle.mo_syntax.specs.declared.place.Stop.{Stop}
use Rattle.mo_syntax.specs.declared.place.Stop.TheVariants.{Broken as broken_by, NoMemory as no_memory}
use Rattle.mo_flat.specs.declared.model.FlatEquation.{FlatEquation}
use Rattle.mo_flat.specs.declared.model.FlatModel.{FlatModel}
use Rattle.mo_symdiff.specs.declared.reduced_model.Reduced.{Reduced}
use Rattle.mo_symdiff.specs.Reduced.{IsWithin, first_given, reduced_lines, reduced_text, too_large}
use Rattle.mo_symdiff.specs.Refusal.{of_given}
use Rattle.mo_incidence.specs.declared.findings.Offsets.{Offsets}
use Rattle.mo_incidence.specs.Model.{incidence_of, refusal_of, row_of}
use Rattle.mo_incidence.specs.Signature.{equations}
use Rattle.mo_report.specs.declared.report.Report.{Report}
use Rattle.mo_report.specs.Right.{AreLeastOffsets, IsRightReport}
use Rattle.mo_report.specs.Size.{report_limit}
use Rattle.mo_front.specs.declared.status.Status.{Status}
use Rattle.mo_front.specs.declared.words.Emit.{Emit}
use Rattle.mo_front.specs.declared.words.Emit.TheVariants as asks
use Rattle.mo_front.specs.Emitted.{IsReported, IsTextOf, PhaseBreaks, PhasesBreak, ReducedBreaks, Refuses, Writes, all_passed, analysed, asked_by, derivatives_size, given, large, later, no_text, nothing, reduced_part, report_refusal, status_of, this_one}
use Rattle.mo_front.specs.Least.{IsLeastOf, least_offsets, left_out}
use Rattle.mo_front.specs.declared.table.Phase.{Phase}

-- ---- the size of the report

pub report_accepted : (m : FlatModel) (o : Option Offsets) (b : Bool) → b ≡ nat_le (derivatives_size m o) report_limit → b ≡ true → report_refusal m o ≡ None
report_accepted m o b is holds = ap (λ (t : Bool). if t then None else Some (too_large m)) (sym is ∙ holds)

pub report_refused : (m : FlatModel) (o : Option Offsets) (b : Bool) → b ≡ nat_le (derivatives_size m o) report_limit → b ≡ false → report_refusal m o ≡ Some (too_large m)
report_refused m o b is fails = ap (λ (t : Bool). if t then None else Some (too_large m)) (sym is ∙ fails)

-- ---- the reduced model

length_map : {A B : Type 0} (f : A → B) (xs : List A) → length (map f xs) ≡ length xs
length_map f [] = refl
length_map f (x ∷ xs) = let e = length_map f xs in omega arith

equations_of : (m : FlatModel) → equations (incidence_of m) ≡ length m.equations
unfolding equations incidence_of
equations_of m = length_map (row_of m.vars) m.equations

-- there is a count for each equation
pub counts : (m : FlatModel) (offsets : Offsets) (c : List ℕ) → AreLeastOffsets (incidence_of m) offsets → c ≡ offsets.c.items → length c ≡ length m.equations
counts m offsets c they same = ap length same ∙ they.equations_all ∙ equations_of m

pub least_is : (m : FlatModel) (o : Option Offsets) (offsets : Offsets) → IsLeastOf m o → o ≡ Some offsets → AreLeastOffsets (incidence_of m) offsets
least_is m None offsets (left_out deficient mentioned k some deficit) is = let never : None ≡ Some offsets = is in absurd cc
least_is m (Some others) offsets (least_offsets they) is =
    let same : others ≡ offsets = cc in
    subst (AreLeastOffsets (incidence_of m)) same they

pub reduced_passed : (m : FlatModel) (offsets : Offsets) (c : List ℕ) (lines : List (List FlatEquation)) → c ≡ offsets.c.items
    → first_given m.vars m.equations c ≡ None → lines ≡ reduced_lines m.vars m.equations c → IsWithin m lines → ReducedBreaks m (Some offsets) None
reduced_passed m offsets c lines same none they within = nothing apart small
  where
    apart : first_given m.vars m.equations offsets.c.items ≡ None
    apart = ap (first_given m.vars m.equations) (sym same) ∙ none

    small : IsWithin m (reduced_lines m.vars m.equations offsets.c.items)
    small = subst (λ (ls : List (List FlatEquation)). IsWithin m ls) (they ∙ ap (reduced_lines m.vars m.equations) same) within

pub reduced_is : (m : FlatModel) (offsets : Offsets) (c : List ℕ) (lines : List (List FlatEquation)) (text : List ℕ) → c ≡ offsets.c.items
    → lines ≡ reduced_lines m.vars m.equations c → text ≡ reduced_text m lines → text ≡ reduced_text m (reduced_lines m.vars m.equations offsets.c.items)
reduced_is m offsets c lines text same they text_is = text_is ∙ ap (reduced_text m) (they ∙ ap (reduced_lines m.vars m.equations) same)

reduced_breaks : (m : FlatModel) (offsets : Offsets) (b : Broken) (found : Option Place) → first_given m.vars m.equations offsets.c.items ≡ found
    → MatchOption found ((IsWithin m (reduced_lines m.vars m.equations offsets.c.items) → ⊥) × (b ≡ too_large m)) (λ place. b ≡ of_given place) → ReducedBreaks m (Some offsets) (Some b)
reduced_breaks m offsets b None none was = subst (λ (x : Broken). ReducedBreaks m (Some offsets) (Some x)) (sym was.1) (large none was.0)
reduced_breaks m offsets b (Some place) at was = subst (λ (x : Broken). ReducedBreaks m (Some offsets) (Some x)) (sym was) (given place at)

-- what `reduced` says of a refusal
abbrev RefusedBy : FlatModel → List ℕ → Broken → Type 0
RefusedBy m c b = MatchOption (first_given m.vars m.equations c) ((IsWithin m (reduced_lines m.vars m.equations c) → ⊥) × (b ≡ too_large m)) (λ place. b ≡ of_given place)

pub reduced_refused : (m : FlatModel) (offsets : Offsets) (c : List ℕ) (r : Result Reduced Stop) (s : Stop) → c ≡ offsets.c.items → r ≡ Err s
    → IfReducedBroken r (λ b. MatchOption (first_given m.vars m.equations c) ((IsWithin m (reduced_lines m.vars m.equations c) → ⊥) × (b ≡ too_large m)) (λ place. b ≡ of_given place))
    → IfBroken {T = List ℕ} (Err s) (λ b. ReducedBreaks m (Some offsets) (Some b))
reduced_refused m offsets c r s same stops was = at s (rw (stops, same) at was)
  where
    at : (s : Stop) → IfReducedBroken {T = Reduced} (Err s) (λ b. RefusedBy m offsets.c.items b) → IfBroken {T = List ℕ} (Err s) (λ b. ReducedBreaks m (Some offsets) (Some b))
    at (broken_by b) was = reduced_breaks m offsets b (first_given m.vars m.equations offsets.c.items) refl was
    at no_memory was = tt

module _ (m : FlatModel) (o : Option Offsets) (offsets : Offsets) (is : o ≡ Some offsets) where
  pub part_passed : ReducedBreaks m (Some offsets) None → ReducedBreaks m o None
  part_passed passes = subst (λ (x : Option Offsets). ReducedBreaks m x None) (sym is) passes

  pub part_is : (text : List ℕ) → text ≡ reduced_text m (reduced_lines m.vars m.equations offsets.c.items) → Some text ≡ reduced_part m o
  part_is text text_is = ap (λ (t : List ℕ). Some t) text_is ∙ sym (ap (reduced_part m) is)

  pub part_refused : (t : Result (List ℕ) Stop) (s : Stop) → t ≡ Err s → IfBroken t (λ b. ReducedBreaks m (Some offsets) (Some b)) → IfBroken {T = Option (List ℕ)} (Err s) (λ b. ReducedBreaks m o (Some b))
  part_refused t s stops was = at s (rw stops at was)
    where
      at : (s : Stop) → IfBroken {T = List ℕ} (Err s) (λ b. ReducedBreaks m (Some offsets) (Some b)) → IfBroken {T = Option (List ℕ)} (Err s) (λ b. ReducedBreaks m o (Some b))
      at (broken_by b) was = subst (λ (x : Option Offsets). ReducedBreaks m x (Some b)) (sym is) was
      at no_memory was = tt

-- ---- a stop

pub stopped_at : (s : Stop) (b : Broken) (P : Broken → Type 0) → s ≡ broken_by b → P b → IfBroken {T = List ℕ} (Err s) P
stopped_at s b P is p = rw is p

-- ---- phases, one after another

-- whatever the phases from `left` on break is what all of them break
abbrev pub Passed : FlatModel → Option Offsets → List Phase → List Phase → Type 0
Passed m r phases left = (o : Option Broken) → PhasesBreak m r left o → PhasesBreak m r phases o

module _ (m : FlatModel) (r : Option Offsets) (phases left rest : List Phase) (asked : Phase) (so_far : Passed m r phases left) (front : left ≡ asked ∷ rest) where
  pub one_passed : PhaseBreaks m r asked None → Passed m r phases rest
  one_passed here o breaks = so_far o (subst (λ (l : List Phase). PhasesBreak m r l o) (sym front) (later here breaks))

  -- want of memory says nothing; a rule that one phase breaks is what is broken
  pub one_stopped : {A : Type 0} (t : Result A Stop) (s : Stop) → t ≡ Err s → IfBroken t (λ b. PhaseBreaks m r asked (Some b))
      → IfBroken {T = A} (Err s) (λ b. PhasesBreak m r phases (Some b))
  one_stopped {A} t s is was = at s (rw is at was)
    where
      at : (s : Stop) → IfBroken {T = A} (Err s) (λ b. PhaseBreaks m r asked (Some b)) → IfBroken {T = A} (Err s) (λ b. PhasesBreak m r phases (Some b))
      at (broken_by b) was = so_far (Some b) (subst (λ (l : List Phase). PhasesBreak m r l (Some b)) (sym front) (this_one was))
      at no_memory was = tt

pub all_asked : (m : FlatModel) (r : Option Offsets) (phases left : List Phase) → Passed m r phases left → left ≡ [] → PhasesBreak m r phases None
all_asked m r phases left so_far is = so_far None (subst (λ (l : List Phase). PhasesBreak m r l None) (sym is) all_passed)

pub alias_no_flat : asks.Alias ≡ asks.Flat → ⊥
alias_no_flat e = cc

pub reduced_no_flat : asks.Reduced ≡ asks.Flat → ⊥
reduced_no_flat e = cc

pub reduced_no_alias : asks.Reduced ≡ asks.Alias → ⊥
reduced_no_alias e = cc

pub by_phases : {A : Type 0} (emit : Emit) (m : FlatModel) (o : Option Offsets) (t : Result A Stop) (s : Stop) → t ≡ Err s → (emit ≡ asks.Flat → ⊥) → refusal_of m ≡ None → IsLeastOf m o
    → IfBroken t (λ b. PhasesBreak m o (asked_by emit).phases (Some b)) → IfBroken {T = Status × List ℕ} (Err s) (λ b. Refuses emit m b)
by_phases {A} emit m o t s is asked accepted they was = at s (rw is at was)
  where
    at : (s : Stop) → IfBroken {T = A} (Err s) (λ b. PhasesBreak m o (asked_by emit).phases (Some b)) → IfBroken {T = Status × List ℕ} (Err s) (λ b. Refuses emit m b)
    at (broken_by b) was = no_text o asked accepted they was
    at no_memory was = tt

-- ---- the reduced model alone

pub reduction_passed : (m : FlatModel) (o : Option Offsets) → ReducedBreaks m o None → PhasesBreak m o (asked_by asks.Reduced).phases None
reduction_passed m o passes = later passes all_passed

pub reduction_refused : (m : FlatModel) (offsets : Offsets) (o : Option Offsets) (t : Result (List ℕ) Stop) (s : Stop) → t ≡ Err s → o ≡ Some offsets → refusal_of m ≡ None → IsLeastOf m o
    → IfBroken t (λ b. ReducedBreaks m (Some offsets) (Some b)) → IfBroken {T = Status × List ℕ} (Err s) (λ b. Refuses asks.Reduced m b)
reduction_refused m offsets o t s stops is accepted they was = at s (rw stops at was)
  where
    at : (s : Stop) → IfBroken {T = List ℕ} (Err s) (λ b. ReducedBreaks m (Some offsets) (Some b)) → IfBroken {T = Status × List ℕ} (Err s) (λ b. Refuses asks.Reduced m b)
    at (broken_by b) was = no_text (Some offsets) reduced_no_flat accepted (subst (IsLeastOf m) is they) (this_one was)
    at no_memory was = tt

-- ---- by the report

pub written_by : (emit : Emit) (m : FlatModel) (o : Option Offsets) (status : Status) (text : List ℕ) → (emit ≡ asks.Flat → ⊥) → (emit ≡ asks.Alias → ⊥) → (emit ≡ asks.Reduced → o ≡ None)
    → refusal_of m ≡ None → PhasesBreak m o (asked_by emit).phases None → IsReported emit m o status text → Writes emit m status text
written_by emit m o status text no_flat no_alias reduced accepted passes reported =
    analysed reported.r no_flat no_alias (λ (e : emit ≡ asks.Reduced). reported.given ∙ reduced e) accepted reported.right
    (subst (λ (x : Option Offsets). PhasesBreak m x (asked_by emit).phases None) (sym reported.given) passes) reported.status_is reported.text_is

pub made_by : (m : FlatModel) (o p : Option Offsets) (made : Option (Option (List ℕ))) → p ≡ o → IfSome made (λ part. part ≡ reduced_part m o) → IfSome made (λ part. part ≡ reduced_part m p)
made_by m o p made same is = subst (λ (x : Option Offsets). IfSome made (λ part. part ≡ reduced_part m x)) (sym same) is

pub reported_by : {E : Type 0} (emit : Emit) (m : FlatModel) (o : Option Offsets) (r : Report) (t : Result (Status × List ℕ) E) → IsRightReport m r → r.offsets ≡ o
    → IfOk t (λ w. (w.0 ≡ status_of r) × IsTextOf emit m r w.1) → IfOk t (λ w. IsReported emit m o w.0 w.1)
reported_by emit m o r (Ok w) right same is = record { r = r; right = right; given = same; status_is = is.0; text_is = is.1 }
reported_by emit m o r (Err s) right same is = tt
