-- One entry more is put on the thread of its unknown.
use Rattle.std.proofs.Common.{◌≡◌, ◌≢◌, ℕ, suc, ◌+◌, ◌-◌, ◌<◌, ◌≤◌, ◌⊎◌, inl, inr, List, length, get_or, set, replicate, refl, sym, ◌∙◌, arith, length-set, get_or-set_other, get_or-set_same}
use Rattle.std.proofs.Math.ListN.{length-replicate}
use Rattle.std.proofs.lemmas.Bool.Decides.{eqb_tells}
use Rattle.mo_incidence.specs.Counting.{sum_below}
use Rattle.mo_incidence.specs.Signature.{Signature, equations, row_len, unknown_at, entries, IsSound}
use Rattle.mo_incidence.proofs.Counting.{sum_more}
use Rattle.mo_match.specs.steps.Threads.{IsThreadedTo, IsThreaded, AreThreaded}

below_next : (s t : ℕ) → s < t + 1 → (s < t) ⊎ (s ≡ t)
below_next s t l = elim (eqb_tells s t) [ inl e ↦ inr e.1 | inr e ↦ inl (omega (arith, e.1)) ]

pub threads_none : (g : Signature) (last before row_of : List ℕ) → length last ≡ suc g.unknowns → length before ≡ entries g → length row_of ≡ entries g
    → ((j : ℕ) → get_or last j 0 ≡ 0) → IsThreaded g last before row_of 0 0 0
threads_none g last before row_of size_last size_before size_row none = (
  replicate (entries g) 0,
  record {
    count = refl;
    last_all = size_last;
    before_all = size_before;
    row_all = size_row;
    target_all = length-replicate (entries g) 0;
    last_in = λ j l. omega (arith, none j);
    at_last = λ j l some. absurd (omega (arith, none j));
    past_last = λ x l. absurd (omega arith);
    falls = λ x l. absurd (omega arith);
    at_before = λ x l. absurd (omega arith);
    none_between = λ x y l. absurd (omega arith);
    row_in = λ x l. absurd (omega arith);
    entry = λ x l. absurd (omega arith);
    rows = λ i k l. absurd (omega arith);
    here = λ k l. absurd (omega arith);
  },
)

module _ (g : Signature) (last before row_of target : List ℕ) (x row k : ℕ) (to : IsThreadedTo g last before row_of target x row k)
    (sound : IsSound g) (rm : row < equations g) (kl : k < row_len g row) (j : ℕ) (j_is : j ≡ unknown_at g row k) where
  pub thread_room : x < entries g
  unfolding entries
  thread_room =
      let whole : sum_below (row_len g) (suc row) ≤ sum_below (row_len g) (equations g) = sum_more (row_len g) (suc row) (equations g) rm in
      let step : sum_below (row_len g) (suc row) ≡ row_len g row + sum_below (row_len g) row = refl in
      omega (arith, to.count)

  j_in : (0 < j) × (j ≤ g.unknowns)
  j_in = rw j_is (sound.known row k rm kl)

  l_at : get_or (set last j (x + 1)) j 0 ≡ x + 1
  l_at = let l : j < length last = omega (arith, to.last_all, j_in) in get_or-set_same last j (x + 1) 0 l

  l_off : (y : ℕ) → y ≢ j → get_or (set last j (x + 1)) y 0 ≡ get_or last y 0
  l_off y ne = get_or-set_other last j y (x + 1) 0 ne

  b_at : get_or (set before x (get_or last j 0)) x 0 ≡ get_or last j 0
  b_at = let l : x < length before = omega (arith, to.before_all, thread_room) in get_or-set_same before x (get_or last j 0) 0 l

  b_off : (y : ℕ) → y < x → get_or (set before x (get_or last j 0)) y 0 ≡ get_or before y 0
  b_off y l = let ne : y ≢ x = omega arith in get_or-set_other before x y (get_or last j 0) 0 ne

  r_at : get_or (set row_of x row) x 0 ≡ row
  r_at = let l : x < length row_of = omega (arith, to.row_all, thread_room) in get_or-set_same row_of x row 0 l

  r_off : (y : ℕ) → y < x → get_or (set row_of x row) y 0 ≡ get_or row_of y 0
  r_off y l = let ne : y ≢ x = omega arith in get_or-set_other row_of x y row 0 ne

  t_at : get_or (set target x j) x 0 ≡ j
  t_at = let l : x < length target = omega (arith, to.target_all, thread_room) in get_or-set_same target x j 0 l

  t_off : (y : ℕ) → y < x → get_or (set target x j) y 0 ≡ get_or target y 0
  t_off y l = let ne : y ≢ x = omega arith in get_or-set_other target x y j 0 ne

  pub thread_next : IsThreaded g (set last j (x + 1)) (set before x (get_or last j 0)) (set row_of x row) (x + 1) row (k + 1)
  thread_next = (
    set target x j,
    record {
      count = omega (arith, to.count);
      last_all = length-set last j (x + 1) ∙ to.last_all;
      before_all = length-set before x (get_or last j 0) ∙ to.before_all;
      row_all = length-set row_of x row ∙ to.row_all;
      target_all = length-set target x j ∙ to.target_all;
      last_in = λ y l. elim (eqb_tells y j) [
        | inl e ↦ rw (e.1, l_at) (omega arith)
        | inr e ↦ rw (l_off y e.1) (omega (arith, to.last_in y l))
      ];
      at_last = λ y l. elim (eqb_tells y j) [
        | inl e ↦ rw (e.1, l_at) (λ _. let back : x + 1 - 1 ≡ x = omega arith in rw back t_at)
        | inr e ↦ rw (l_off y e.1) (λ some. t_off (get_or last y 0 - 1) (omega (arith, to.last_in y l)) ∙ to.at_last y l some)
      ];
      past_last = λ z l. elim (below_next z x l) [
        | inr e ↦ rw (e, t_at, l_at) (omega arith)
        | inl h ↦ rw (t_off z h) (elim (eqb_tells (get_or target z 0) j) [
          | inl e ↦ rw (e.1, l_at) (omega arith)
          | inr e ↦ rw (l_off (get_or target z 0) e.1) (to.past_last z h)
        ])
      ];
      falls = λ z l. elim (below_next z x l) [
        | inr e ↦ rw (e, b_at) (to.last_in j j_in.1)
        | inl h ↦ rw (b_off z h) (to.falls z h)
      ];
      at_before = λ z l. elim (below_next z x l) [
        | inr e ↦ rw (e, b_at, t_at) (λ some. t_off (get_or last j 0 - 1) (omega (arith, to.last_in j j_in.1)) ∙ to.at_last j j_in.1 some)
        | inl h ↦ rw (b_off z h, t_off z h) (λ some. t_off (get_or before z 0 - 1) (omega (arith, to.falls z h)) ∙ to.at_before z h some)
      ];
      none_between = λ z y l yz. elim (below_next z x l) [
        | inr e ↦ rw (e, b_at, t_at) (λ same.
            let yx : y < x = omega arith in
            let is : get_or target y 0 ≡ j = sym (t_off y yx) ∙ same in
            rw is at (to.past_last y yx))
        | inl h ↦ rw (b_off z h, t_off z h, t_off y (omega arith)) (to.none_between z y h yz)
      ];
      row_in = λ z l. elim (below_next z x l) [
        | inr e ↦ rw (e, r_at) rm
        | inl h ↦ rw (r_off z h) (to.row_in z h)
      ];
      entry = λ z l. elim (below_next z x l) [
        | inr e ↦ rw (e, r_at, t_at) (k, kl, sym j_is)
        | inl h ↦ rw (r_off z h, t_off z h) (to.entry z h)
      ];
      rows = λ i n il nl. let there = to.rows i n il nl in (there.0, omega (arith, there.1), r_off there.0 there.1 ∙ there.2, t_off there.0 there.1 ∙ there.3);
      here = λ n nl. elim (below_next n k nl) [
        | inr e ↦ (x, omega arith, r_at, rw e (t_at ∙ j_is))
        | inl h ↦ let there = to.here n h in (there.0, omega (arith, there.1), r_off there.0 there.1 ∙ there.2, t_off there.0 there.1 ∙ there.3)
      ];
    },
  )

pub row_threaded : (g : Signature) (last before row_of : List ℕ) (x row k : ℕ) → k ≡ row_len g row → IsThreaded g last before row_of x row k → IsThreaded g last before row_of x (row + 1) 0
row_threaded g last before row_of x row k all (target, to) = (
  target,
  record {
    count = let next : row + 1 ≡ suc row = omega arith in rw next (omega (arith, to.count));
    last_all = to.last_all;
    before_all = to.before_all;
    row_all = to.row_all;
    target_all = to.target_all;
    last_in = to.last_in;
    at_last = to.at_last;
    past_last = to.past_last;
    falls = to.falls;
    at_before = to.at_before;
    none_between = to.none_between;
    row_in = to.row_in;
    entry = to.entry;
    rows = λ i n il nl. elim (below_next i row il) [
      | inl h ↦ to.rows i n h nl
      | inr e ↦ rw e (to.here n (let same : n < row_len g row = rw e at nl in omega arith))
    ];
    here = λ n nl. absurd (omega arith);
  },
)

pub all_threaded : (g : Signature) (last before row_of : List ℕ) (x row : ℕ) → row ≡ equations g → IsThreaded g last before row_of x row 0 → AreThreaded g last before row_of
unfolding entries
all_threaded g last before row_of x row all (target, to) =
    let filled : x ≡ entries g = rw (← all) (omega (arith, to.count)) in
    rw (← filled, ← all) (target, to)

module _ (g : Signature) (last before row_of : List ℕ) (x row k : ℕ) (threads : IsThreaded g last before row_of x row k)
    (sound : IsSound g) (rm : row < equations g) (kl : k < row_len g row) where
  pub thread_small : x < 1000000
  thread_small = let room = thread_room g last before row_of threads.0 x row k threads.1 sound rm kl (unknown_at g row k) refl in omega (arith, sound.few_entries)

  pub thread_before : x < length before
  thread_before = let room = thread_room g last before row_of threads.0 x row k threads.1 sound rm kl (unknown_at g row k) refl in omega (arith, threads.1.before_all)

  pub thread_row_of : x < length row_of
  thread_row_of = let room = thread_room g last before row_of threads.0 x row k threads.1 sound rm kl (unknown_at g row k) refl in omega (arith, threads.1.row_all)

  pub thread_push : (j : ℕ) → j ≡ unknown_at g (row + 1 - 1) k → IsThreaded g (set last j (x + 1)) (set before x (get_or last j 0)) (set row_of x row) (x + 1) row (k + 1)
  thread_push j e = let back : row + 1 - 1 ≡ row = omega arith in thread_next g last before row_of threads.0 x row k threads.1 sound rm kl j (rw back at e)

pub row_back : (g : Signature) (row n : ℕ) → n ≡ row_len g (row + 1 - 1) → n ≡ row_len g row
row_back g row n e = let back : row + 1 - 1 ≡ row = omega arith in rw back at e
