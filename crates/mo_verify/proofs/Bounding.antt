-- No number of a right report passes 32 bits where its text does not pass 64 MiB: there are as many dummies as all equations are differentiated, and
-- each has its line.
use Rattle.std.proofs.Common.{◌≡◌, ℕ, zero, suc, ◌+◌, ◌<◌, ◌≤◌, inl, inr, List, [], ◌∷◌, ◌++◌, map, length, get_or, Bool, true, false, nat_lt, codes, decimal, refl, ap, arith, length-append}
use Rattle.std.proofs.lemmas.Bool.Decides.{nat_tests}
use Rattle.std.proofs.lemmas.Bool.{cases_lt}
use Rattle.mo_flat.specs.declared.model.FlatModel.{FlatModel}
use Rattle.mo_incidence.specs.Counting.{sum_below}
use Rattle.mo_incidence.specs.Signature.{Signature, equations, order_at, IsSound}
use Rattle.mo_incidence.specs.Assignment.{Assigns}
use Rattle.mo_incidence.specs.Offsets.{IsTight, by_place, by_number, sum_unknowns}
use Rattle.mo_incidence.specs.Dummies.{greatest, dummies_of, states_of}
use Rattle.mo_incidence.specs.Model.{incidence_of}
use Rattle.mo_incidence.proofs.Counting.{sum_without}
use Rattle.mo_blocks.proofs.Counts.{count_dummies, count_states}
use Rattle.mo_certify.proofs.Leastness.{reached, assigns_permute, tight_entry}
use Rattle.mo_report.specs.declared.report.Report.{Report}
use Rattle.mo_report.specs.Right.{has_zero, index_of}
use Rattle.mo_report.specs.Lines.{derivative, numbered, reason_line, block_line, dummy_line, state_line, report_lines}
use Rattle.mo_incidence.specs.Blocks.{numbers_in}
use Rattle.mo_report.specs.Size.{unknown_names}
use Rattle.mo_verify.specs.Printed.{Printed}
use Rattle.mo_verify.specs.Verdict.{IsRightWith}
use Rattle.mo_verify.proofs.Judging.{equations_of}
use Rattle.mo_verify.proofs.Lining.{together, together_both, listed}
use Rattle.mo_verify.proofs.Written.{head_two, equation_text, unknown_text, body, square_list, square_text}

-- ---- lengths
pub part_left : (a b : List (List ℕ)) → length (together a) ≤ length (together (a ++ b))
part_left a b = let size : length (together a ++ together b) ≡ length (together a) + length (together b) = length-append (together a) (together b) in omega (arith, size, ap length (together_both a b))

pub part_right : (a b : List (List ℕ)) → length (together b) ≤ length (together (a ++ b))
part_right a b = let size : length (together a ++ together b) ≡ length (together a) + length (together b) = length-append (together a) (together b) in omega (arith, size, ap length (together_both a b))

pub mapped_many : {A : Type 0} (f : A → List ℕ) (xs : List A) → ((x : A) → 0 < length (f x)) → length xs ≤ length (together (map f xs))
mapped_many f [] some = omega arith
mapped_many f (x ∷ xs) some =
    let size : length (f x ++ together (map f xs)) ≡ length (f x) + length (together (map f xs)) = length-append (f x) (together (map f xs)) in
    omega (arith, size, some x, mapped_many f xs some)

pub ended : (xs : List ℕ) → 0 < length (xs ++ 10 ∷ [])
ended xs = let size : length (xs ++ 10 ∷ []) ≡ length xs + 1 = length-append xs (10 ∷ []) in omega (arith, size)

dummies_many : (r : Report) → length r.dummies.chosen.items ≤ length (together (square_list r))
unfolding square_list
dummies_many r =
    let a = map reason_line r.reasons.items in
    let b = map block_line (numbers_in r.blocks.0.items) in
    let c = map (dummy_line r.unknowns) r.dummies.chosen.items in
    let d = map (state_line r.unknowns) r.dummies.states.items in
    let e = ((codes "index " ++ decimal r.index) ++ 10 ∷ []) ∷ ((codes "freedom " ++ decimal r.freedom) ++ 10 ∷ []) ∷ [] in
    let many = mapped_many (dummy_line r.unknowns) r.dummies.chosen.items (λ x. ended (codes "dummy " ++ derivative r.unknowns x.0 x.1 ++ numbered (codes " stage ") x.2 ++ numbered (codes " equation ") x.3)) in
    omega (arith, many, part_left c (d ++ e), part_right b (c ++ (d ++ e)), part_right a (b ++ (c ++ (d ++ e))))

states_many : (r : Report) → length r.dummies.states.items ≤ length (together (square_list r))
unfolding square_list
states_many r =
    let a = map reason_line r.reasons.items in
    let b = map block_line (numbers_in r.blocks.0.items) in
    let c = map (dummy_line r.unknowns) r.dummies.chosen.items in
    let d = map (state_line r.unknowns) r.dummies.states.items in
    let e = ((codes "index " ++ decimal r.index) ++ 10 ∷ []) ∷ ((codes "freedom " ++ decimal r.freedom) ++ 10 ∷ []) ∷ [] in
    let many = mapped_many (state_line r.unknowns) r.dummies.states.items (λ x. ended (codes "state " ++ derivative r.unknowns x.0 x.1)) in
    omega (arith, many, part_left d e, part_right c (d ++ e), part_right b (c ++ (d ++ e)), part_right a (b ++ (c ++ (d ++ e))))

in_body : (m : FlatModel) (p : Printed) (rest : List (List ℕ)) → length (together rest) ≤ length (together (body m p rest))
in_body m p rest =
    let a = listed (λ i. equation_text (unknown_names m.vars) p i ++ 10 ∷ []) (length m.equations) in
    let b = listed (λ j. unknown_text (unknown_names m.vars) p j ++ 10 ∷ []) (length (unknown_names m.vars)) in
    omega (arith, part_right b rest, part_right a (b ++ rest))

moved : (f : ℕ → ℕ) (x j n : ℕ) → x ≡ j → f x ≡ n → f j ≡ n
moved f x j n e h = rw e at h

greatest_within : (c : ℕ → ℕ) (n bound : ℕ) → ((i : ℕ) → i < n → c i ≤ bound) → greatest c n ≤ bound
greatest_within c zero bound all = omega arith
greatest_within c (suc n) bound all = elim (cases_lt (greatest c n) (c n)) [
  | inl more ↦ (let yes : nat_lt (greatest c n) (c n) ≡ true = grind (arith, nat_tests, more) in rw yes (all n (omega arith)))
  | inr less ↦ (let none : nat_lt (greatest c n) (c n) ≡ false = grind (arith, nat_tests, less) in rw none (greatest_within c n bound (λ i l. all i (omega arith))))
]

index_within : (g : Signature) (c d : ℕ → ℕ) → index_of g c d ≤ greatest c (equations g) + 1
index_within g c d = go (has_zero d g.unknowns) refl
  where
    go : (b : Bool) → has_zero d g.unknowns ≡ b → index_of g c d ≤ greatest c (equations g) + 1
    go true e = rw e (omega arith)
    go false e = rw e (omega arith)

module _ (m : FlatModel) (sound : IsSound (incidence_of m)) (p : Printed) (r : Report) (right : IsRightWith m p r) (few : length (report_lines r) ≤ 67108864) where
  square : equations (incidence_of m) ≡ (incidence_of m).unknowns
  square = right.report.square

  pub tight : Assigns (IsTight (incidence_of m) (by_place p.c) (by_number p.d)) (equations (incidence_of m)) (by_place p.pairs)
  tight = rw (← equations_of m []) at right.tight

  inside : length (together (square_list r)) ≤ length (report_lines r)
  inside = omega (arith, ap length (square_text m p r right.report), part_right (head_two m) (body m p (square_list r)), in_body m p (square_list r))

  pub chosen_is : r.dummies.chosen.items ≡ dummies_of (by_place p.c) (by_number p.d) (by_place p.pairs) (equations (incidence_of m))
  chosen_is = rw (right.report.has.c, right.report.has.d, right.report.has.pairs) at right.report.parts.dummies

  pub states_are : r.dummies.states.items ≡ states_of (by_place p.c) (by_number p.d) (by_place p.pairs) (equations (incidence_of m)) (incidence_of m).unknowns
  states_are = rw (right.report.has.c, right.report.has.d, right.report.has.pairs) at right.report.parts.states

  sum_within : sum_below (by_place p.c) (equations (incidence_of m)) ≤ 67108864
  sum_within =
      let count = count_dummies (by_place p.c) (by_number p.d) (by_place p.pairs) (equations (incidence_of m)) in
      omega (arith, count, ap length chosen_is, dummies_many r, inside, few)

  pub c_within : (i : ℕ) → i < equations (incidence_of m) → get_or p.c i 0 ≤ 67108864
  c_within i below = let parts = sum_without (by_place p.c) i (equations (incidence_of m)) below in omega (arith, parts, sum_within)

  pub pair_known : (i : ℕ) → i < equations (incidence_of m) → (0 < get_or p.pairs i 0) × (get_or p.pairs i 0 ≤ (incidence_of m).unknowns)
  pair_known i below =
      let entry = tight_entry (incidence_of m) (by_place p.c) (by_number p.d) i (get_or p.pairs i 0) (tight.allowed i below (right.all i below)) in
      rw entry.2 at (sound.known i entry.0 below entry.1)

  pub d_within : (j : ℕ) → 0 < j → j ≤ (incidence_of m).unknowns → by_number p.d j ≤ 67174400
  d_within j some within =
      let permutes = assigns_permute (incidence_of m) (by_place p.c) (by_number p.d) (by_place p.pairs) sound square tight right.all in
      let paired = reached (by_place p.pairs) (equations (incidence_of m)) permutes j some (omega (arith, square, within)) in
      let entry = tight_entry (incidence_of m) (by_place p.c) (by_number p.d) paired.0 (get_or p.pairs paired.0 0) (tight.allowed paired.0 paired.1 (right.all paired.0 paired.1)) in
      let sum : by_number p.d (get_or p.pairs paired.0 0) ≡ get_or p.c paired.0 0 + order_at (incidence_of m) paired.0 entry.0 = entry.3 in
      let here : by_number p.d j ≡ get_or p.c paired.0 0 + order_at (incidence_of m) paired.0 entry.0 = moved (by_number p.d) (get_or p.pairs paired.0 0) j _ paired.2 sum in
      omega (arith, here, c_within paired.0 paired.1, sound.low paired.0 entry.0 paired.1 entry.1)

  pub order_within : (i : ℕ) → i < equations (incidence_of m) → get_or p.orders i 0 < 65536
  order_within i below =
      let sigma = right.orders i (rw (equations_of m []) at below) in
      let low = sound.low i sigma.0 below sigma.1 in
      omega (arith, low, sigma.3)

  pub stage_within : greatest (by_place p.c) (equations (incidence_of m)) ≤ 67108864
  stage_within = greatest_within (by_place p.c) (equations (incidence_of m)) 67108864 c_within

  pub index_small : r.index ≤ 67108865
  index_small =
      let is : r.index ≡ index_of (incidence_of m) (by_place p.c) (by_number p.d) = rw (right.report.has.c, right.report.has.d) at right.report.parts.index in
      omega (arith, is, index_within (incidence_of m) (by_place p.c) (by_number p.d), stage_within)

  pub freedom_small : r.freedom ≤ 67108864
  freedom_small =
      let is : r.freedom + sum_below (by_place p.c) (equations (incidence_of m)) ≡ sum_unknowns (incidence_of m) (by_number p.d) = rw (right.report.has.c, right.report.has.d) at right.report.parts.freedom in
      let count = count_states (incidence_of m) (by_place p.c) (by_number p.d) (by_place p.pairs) sound square tight right.all in
      omega (arith, is, count, ap length states_are, states_many r, inside, few)
