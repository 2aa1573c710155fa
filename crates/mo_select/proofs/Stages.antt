-- From the first stage to the last.
use Rattle.std.proofs.Common.{◌≡◌, ℕ, zero, suc, ◌+◌, ◌-◌, ◌<◌, ◌≤◌, inl, inr, List, [], ◌∷◌, ◌++◌, Contains, length, get_or, map, true, false, nat_lt, refl, ap, ◌∙◌, arith, length-append}
use Rattle.std.proofs.Math.ListN.{get_or-append}
use Rattle.std.proofs.Math.Seq.{get_or-append_seam}
use Rattle.std.proofs.lemmas.Bool.{cases_lt}
use Rattle.std.proofs.lemmas.Bool.Decides.{nat_tests}
use Rattle.mo_graph.proofs.Chains.{below_next}
use Rattle.mo_incidence.specs.Signature.{Signature, equations, IsSound}
use Rattle.mo_incidence.specs.Assignment.{Assigns, CoversAll}
use Rattle.mo_incidence.specs.Offsets.{IsTight}
use Rattle.mo_incidence.specs.Dummies.{differentiated}
use Rattle.mo_incidence.proofs.Owning.{tight_known}
use Rattle.mo_blocks.specs.Stages.{kept}
use Rattle.mo_blocks.proofs.Dummying.{diff_only, diff_all, keep_next, stage_low, stage_over, tight_low}
use Rattle.mo_match.proofs.ListLemmas.{contains_at, at_contains}
use Rattle.mo_select.specs.declared.selection.Stage.{Stage}
use Rattle.mo_select.specs.Selection.{numbers_to, levels, IsStage, no_stage, candidates_at, AreNested}
use Rattle.mo_select.specs.steps.Staging.{AreApart, StandsAt, AreUnknowns, CanAssign, AreMadeTo, AreWhole}
use Rattle.mo_select.proofs.Orders.{append_apart, numbers_length, numbers_at}
use Rattle.mo_select.proofs.Staging.{next_unknowns, can_next, chosen_only, chosen_tight, stage_length}

pub unknowns_first : (n : ℕ) → AreUnknowns n (numbers_to n)
unknowns_first n =
    let size = numbers_length n in
    record {
      known = λ k l. let at = numbers_at n k (omega arith) in rw at (omega arith, omega arith);
      apart = λ t u tl ul same. let at = numbers_at n t (omega arith) in let at' = numbers_at n u (omega arith) in omega arith;
    }

one_apart : (n : ℕ) → AreApart (n ∷ [])
one_apart n t u tl ul same = omega arith

pub diff_apart : (c : ℕ → ℕ) (s m : ℕ) → AreApart (differentiated c s m)
diff_apart c s zero = λ t u tl ul same. absurd (omega arith)
diff_apart c s (suc n) = elim (cases_lt (c n) s) [
  | inl l ↦ let yes : nat_lt (c n) s ≡ true = grind (arith, nat_tests) in rw yes (diff_apart c s n)
  | inr l ↦
      let past : nat_lt (c n) s ≡ false = grind (arith, nat_tests) in
      rw past (append_apart (differentiated c s n) (n ∷ []) (diff_apart c s n) (one_apart n)
      (λ a b al bl same.
      let low = diff_only c s n (get_or (differentiated c s n) a 0) (at_contains (differentiated c s n) (get_or (differentiated c s n) a 0) a al refl) in
      let none : b ≡ 0 = omega arith in
      let is : get_or (n ∷ []) b 0 ≡ n = rw none refl in
      omega (arith, low.0)))
]

pub diff_few : (c : ℕ → ℕ) (s m : ℕ) → length (differentiated c s m) ≤ m
diff_few c s zero = omega arith
diff_few c s (suc n) = elim (cases_lt (c n) s) [
  | inl l ↦ let yes : nat_lt (c n) s ≡ true = grind (arith, nat_tests) in let rest = diff_few c s n in rw yes (omega arith)
  | inr l ↦
      let past : nat_lt (c n) s ≡ false = grind (arith, nat_tests) in
      let rest = diff_few c s n in
      let size = length-append (differentiated c s n) (n ∷ []) in
      rw past (omega arith)
]

pub diff_at : (c : ℕ → ℕ) (s m : ℕ) (e : ℕ) → e < length (differentiated c s m) → (get_or (differentiated c s m) e 0 < m) × (s ≤ c (get_or (differentiated c s m) e 0))
diff_at c s m e l = diff_only c s m (get_or (differentiated c s m) e 0) (at_contains (differentiated c s m) (get_or (differentiated c s m) e 0) e l refl)

diff_next : (c : ℕ → ℕ) (s m : ℕ) (e : ℕ) → e < length (differentiated c (s + 1) m) → StandsAt (differentiated c s m) (get_or (differentiated c (s + 1) m) e 0)
diff_next c s m e l =
    let at = diff_at c (s + 1) m e l in
    contains_at (differentiated c s m) (get_or (differentiated c (s + 1) m) e 0) (diff_all c s m (get_or (differentiated c (s + 1) m) e 0) at.0 (omega (arith, at.1)))

pub can_first : (g : Signature) (c d t : ℕ → ℕ) (s : ℕ) → IsSound g → Assigns (IsTight g c d) (equations g) t → CoversAll g t
    → CanAssign g c d (differentiated c s (equations g)) (numbers_to g.unknowns)
can_first g c d t s sound assigns all =
    let size = numbers_length g.unknowns in
    record {
      by = λ e. t (get_or (differentiated c s (equations g)) e 0);
      assigns = record {
        allowed = λ e l some.
            let i = get_or (differentiated c s (equations g)) e 0 in
            let at = diff_at c s (equations g) e l in
            let tight = assigns.allowed i at.0 some in
            let known = tight_known g c d i (t i) sound at.0 tight in
            let is : suc (t i - 1) ≡ t i = omega (arith, known.0) in
            ((t i - 1, omega (arith, known.0, known.1), numbers_at g.unknowns (t i - 1) (omega (arith, known.0, known.1)) ∙ is), tight);
        apart = λ e f el fl some same.
            let at = diff_at c s (equations g) e el in
            let at' = diff_at c s (equations g) f fl in
            diff_apart c s (equations g) e f el fl (assigns.apart (get_or (differentiated c s (equations g)) e 0) (get_or (differentiated c s (equations g)) f 0) at.0 at'.0 some same);
      };
      covers = λ e l. let at = diff_at c s (equations g) e l in all (get_or (differentiated c s (equations g)) e 0) at.0;
    }

pub made_none : (g : Signature) (c d level t : ℕ → ℕ) (stages : List Stage) (candidates active : List ℕ) → IsSound g → Assigns (IsTight g c d) (equations g) t → CoversAll g t
    → stages ≡ [] → candidates ≡ numbers_to g.unknowns → active ≡ differentiated c (0 + 1) (equations g) → AreMadeTo g c d level stages candidates active 0
made_none g c d level t stages candidates active sound assigns all none candidates_are active_is = record {
  count = ap length none;
  low = omega arith;
  active_is = active_is;
  candidates_are = candidates_are;
  known = rw candidates_are (unknowns_first g.unknowns);
  can = rw (candidates_are, active_is) (can_first g c d t (0 + 1) sound assigns all);
  stage = λ k l. absurd (omega arith);
  known_at = λ k l. absurd (omega arith);
}

candidates_kept : (n : ℕ) (stages : List Stage) (made : Stage) (k : ℕ) → k ≤ length stages → candidates_at n (stages ++ made ∷ []) k ≡ candidates_at n stages k
candidates_kept n stages made zero l = refl
candidates_kept n stages made (suc k) l = ap (λ (z : Stage). map (λ x. x.0) z.chosen) (get_or-append stages (made ∷ []) no_stage k (omega arith))

module _ (g : Signature) (c d level : ℕ → ℕ) (stages : List Stage) (candidates active : List ℕ) (done : ℕ) (low : (j : ℕ) → level j < levels)
    (to : AreMadeTo g c d level stages candidates active done) (some : 0 < length active) (made : Stage) (is_stage : IsStage g c d level active candidates made)
    (stages' : List Stage) (candidates' active' : List ℕ) (stages_are : stages' ≡ stages ++ made ∷ [])
    (candidates_are : candidates' ≡ map (λ x. x.0) made.chosen) (active_is : active' ≡ kept c (done + 1 + 1) active) where
  next_active : active' ≡ differentiated c (done + 1 + 1) (equations g)
  next_active = keep_next c (done + 1) (equations g) active active' to.active_is active_is

  last_is : get_or stages' done no_stage ≡ made
  last_is = rw (stages_are, ← to.count) (get_or-append_seam stages made [] no_stage)

  kept_is : (k : ℕ) → k < done → get_or stages' k no_stage ≡ get_or stages k no_stage
  kept_is k l = rw stages_are (get_or-append stages (made ∷ []) no_stage k (omega (arith, to.count)))

  candidates_is : (k : ℕ) → k ≤ done → candidates_at g.unknowns stages' k ≡ candidates_at g.unknowns stages k
  candidates_is k l = rw stages_are (candidates_kept g.unknowns stages made k (omega (arith, to.count)))

  pub made_next : AreMadeTo g c d level stages' candidates' active' (done + 1)
  made_next =
      let next : suc done ≡ done + 1 = omega arith in
      let size = ap length stages_are ∙ length-append stages (made ∷ []) in
      record {
        count = omega (arith, to.count);
        low = stage_low c (done + 1) (equations g) (rw to.active_is at some);
        active_is = next_active;
        candidates_are = candidates_are ∙ rw (← next, last_is) refl;
        known = rw candidates_are (next_unknowns g c d level active candidates to.known made is_stage);
        can = rw candidates_are (can_next g c d level active candidates to.known made is_stage active'
            (λ e. rw (next_active, to.active_is) (diff_next c (done + 1) (equations g) e))
            (rw next_active (diff_apart c (done + 1 + 1) (equations g))));
        stage = λ k l. elim (below_next k done l) [
          | inl h ↦ rw (candidates_is k (omega arith), kept_is k h) (to.stage k h)
          | inr e ↦
              let there : IsStage g c d level (differentiated c (suc done) (equations g)) (candidates_at g.unknowns stages done) made = rw (next, ← to.active_is, ← to.candidates_are) is_stage in
              rw (e, candidates_is done (omega arith), last_is) there
        ];
        known_at = λ k l. elim (below_next k done l) [
          | inl h ↦ rw (candidates_is k (omega arith)) (to.known_at k h)
          | inr e ↦ rw (e, candidates_is done (omega arith), ← to.candidates_are) to.known
        ];
      }

-- ---- the end

pub made_whole : (g : Signature) (c d level : ℕ → ℕ) (stages : List Stage) (candidates active : List ℕ) (done : ℕ) → AreMadeTo g c d level stages candidates active done
    → length active ≡ 0 → AreWhole g c d level stages
made_whole g c d level stages candidates active done to none =
    let over = stage_over c done (equations g) (rw to.active_is at none) in
    record {
      stages_are = record { all = omega (arith, to.count, to.low); stage = λ k l. to.stage k (omega (arith, to.count)) };
      known = λ k l. to.known_at k (omega (arith, to.count));
    }

module _ (g : Signature) (c d level : ℕ → ℕ) (stages : List Stage) (sound : IsSound g) (low : (j : ℕ) → level j < levels) (whole : AreWhole g c d level stages) where
  -- a chosen unknown is known, and has derivatives for all stages so far
  pub chosen_known : (k j : ℕ) → k < length stages → Contains (map (λ x. x.0) (get_or stages k no_stage).chosen) j → (0 < j) × (j ≤ g.unknowns) × (k < d j)
  chosen_known k j l there =
      let at = contains_at (map (λ x. x.0) (get_or stages k no_stage).chosen) j there in
      let tight = chosen_tight g c d level (differentiated c (suc k) (equations g)) (candidates_at g.unknowns stages k) (whole.known k l) (get_or stages k no_stage) (whole.stages_are.stage k l) j at low in
      let place = diff_at c (suc k) (equations g) tight.0 tight.1 in
      let known = tight_known g c d (get_or (differentiated c (suc k) (equations g)) tight.0 0) j sound place.0 tight.2 in
      let high = tight_low g c d (get_or (differentiated c (suc k) (equations g)) tight.0 0) j tight.2 in
      (known.0, known.1, omega (arith, place.1, high))

  pub stages_nested : AreNested stages
  stages_nested = record {
    inner = λ k j l there.
        let at = contains_at (map (λ x. x.0) (get_or stages (suc k) no_stage).chosen) j there in
        let stage = whole.stages_are.stage (suc k) l in
        let from = chosen_only (differentiated c (suc (suc k)) (equations g)) stage.by (candidates_at g.unknowns stages (suc k)) j (rw stage.chosen at at) in
        at_contains (map (λ x. x.0) (get_or stages k no_stage).chosen) j from.0.0 from.0.1 from.0.2;
  }

  pub stage_size : (k : ℕ) → k < length stages → length (get_or stages k no_stage).chosen ≡ length (differentiated c (suc k) (equations g))
  stage_size k l =
      stage_length g c d level (differentiated c (suc k) (equations g)) (candidates_at g.unknowns stages k) (whole.known k l) (get_or stages k no_stage) (whole.stages_are.stage k l) low
