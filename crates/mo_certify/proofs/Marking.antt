-- Lists whose numbers are marked, and the pigeonhole behind a deficiency.
use Rattle.std.proofs.Common.{◌≡◌, ◌≢◌, ℕ, zero, suc, ◌+◌, ◌-◌, ◌<◌, ◌≤◌, ◌⊎◌, inl, inr, List, [], ◌∷◌, ◌==◌, if◌then◌else◌, length, get_or, set, refl, sym, ap, ◌∙◌, arith, length-set, get_or-set_other, get_or-set_same}
use Rattle.std.proofs.lemmas.Bool.Decides.{eqb_tells}
use Rattle.mo_incidence.specs.Signature.{Signature, equations, row_len, unknown_at}
use Rattle.mo_incidence.specs.Assignment.{Mentions, CanCoverAll}
use Rattle.mo_incidence.proofs.Counting.{distinct_room}
use Rattle.mo_certify.specs.Deficiency.{AreDistinctBelow, IsMentionedBy, IsListed, IsDeficiency}

below_next : (s t : ℕ) → s < t + 1 → (s < t) ⊎ (s ≡ t)
below_next s t l = elim (eqb_tells s t) [ inl e ↦ inr e.1 | inr e ↦ inl (omega (arith, e.1)) ]

-- the first t numbers are right, and marked, and no others are
pub record IsMarkedTo (xs mark : List ℕ) (bound t : ℕ) : Type 0 where
  pub size : length mark ≡ bound
  pub in_range : (i : ℕ) → i < t → (0 < get_or xs i 0) × (get_or xs i 0 < bound)
  pub apart : (i k : ℕ) → i < t → k < t → get_or xs i 0 ≡ get_or xs k 0 → i ≡ k
  pub marked : (i : ℕ) → i < t → get_or mark (get_or xs i 0) 0 ≢ 0
  pub listed : (x : ℕ) → get_or mark x 0 ≢ 0 → (i : ℕ) × (i < t) × (get_or xs i 0 ≡ x)

pub marks_begin : (xs mark : List ℕ) → ((x : ℕ) → get_or mark x 0 ≡ 0) → IsMarkedTo xs mark (length mark) 0
marks_begin xs mark none = record {
  size = refl;
  in_range = λ i l. absurd (omega arith);
  apart = λ i k l. absurd (omega arith);
  marked = λ i l. absurd (omega arith);
  listed = λ x some. absurd (some (none x));
}

module _ (xs mark : List ℕ) (bound t : ℕ) (to : IsMarkedTo xs mark bound t) where
  pub marks_next : 0 < get_or xs t 0 → get_or xs t 0 < bound → get_or mark (get_or xs t 0) 0 ≡ 0 → IsMarkedTo xs (set mark (get_or xs t 0) 1) bound (t + 1)
  marks_next above below unmarked =
      let inside : get_or xs t 0 < length mark = omega (arith, to.size) in
      let at : get_or (set mark (get_or xs t 0) 1) (get_or xs t 0) 0 ≡ 1 = get_or-set_same mark (get_or xs t 0) 1 0 inside in
      let off : (x : ℕ) → x ≢ get_or xs t 0 → get_or (set mark (get_or xs t 0) 1) x 0 ≡ get_or mark x 0 = λ x ne. get_or-set_other mark (get_or xs t 0) x 1 0 ne in
      let fresh : (i : ℕ) → i < t → get_or xs i 0 ≢ get_or xs t 0 = λ i l same. to.marked i l (rw same unmarked) in
      record {
        size = length-set mark (get_or xs t 0) 1 ∙ to.size;
        in_range = λ i l. elim (below_next i t l) [ inl h ↦ to.in_range i h | inr e ↦ rw e (above, below) ];
        apart = λ i k il kl same. elim (below_next i t il) [
          | inl h ↦ elim (below_next k t kl) [
            | inl h' ↦ to.apart i k h h' same
            | inr e' ↦ absurd (fresh i h (same ∙ ap (λ (z : ℕ). get_or xs z 0) e'))
          ]
          | inr e ↦ elim (below_next k t kl) [
            | inl h' ↦ absurd (fresh k h' (sym same ∙ ap (λ (z : ℕ). get_or xs z 0) e))
            | inr e' ↦ e ∙ sym e'
          ]
        ];
        marked = λ i l. elim (below_next i t l) [
          | inl h ↦ rw (off (get_or xs i 0) (fresh i h)) (to.marked i h)
          | inr e ↦ rw (e, at) (omega arith)
        ];
        listed = λ x some. elim (eqb_tells x (get_or xs t 0)) [
          | inl e ↦ (t, omega arith, sym e.1)
          | inr e ↦ let there = to.listed x (rw (off x e.1) at some) in (there.0, omega (arith, there.1), there.2)
        ];
      }

  pub marks_distinct : length xs ≤ t → AreDistinctBelow xs bound
  marks_distinct all = record {
    in_range = λ i l. to.in_range i (omega arith);
    apart = λ i k l l'. to.apart i k (omega arith) (omega arith);
  }

  pub marks_marked : length xs ≤ t → (x : ℕ) → IsListed xs x → get_or mark x 0 ≢ 0
  unfolding IsListed
  marks_marked all x h = rw (← h.2) (to.marked h.0 (omega (arith, h.1)))

  pub marks_only : t ≤ length xs → (x : ℕ) → get_or mark x 0 ≢ 0 → IsListed xs x
  unfolding IsListed
  marks_only all x some = let there = to.listed x some in (there.0, omega (arith, there.1), there.2)

  pub marks_twice : t < length xs → get_or mark (get_or xs t 0) 0 ≢ 0 → AreDistinctBelow xs bound → ⊥
  marks_twice inside some distinct =
      let there = to.listed (get_or xs t 0) some in
      let same : there.0 ≡ t = distinct.apart there.0 t (omega (arith, there.1)) inside there.2 in
      omega (arith, there.1)

pub listed_at : (xs : List ℕ) (i : ℕ) → i < length xs → IsListed xs (get_or xs i 0)
unfolding IsListed
listed_at xs i l = (i, l, refl)

pub listed_where : (xs : List ℕ) (x : ℕ) → IsListed xs x → (i : ℕ) × (i < length xs) × (get_or xs i 0 ≡ x)
unfolding IsListed
listed_where xs x h = h

pub mentioned_by : (g : Signature) (xs : List ℕ) (i j : ℕ) → i < length xs → Mentions g (get_or xs i 0 - 1) j → IsMentionedBy g xs j
unfolding IsMentionedBy
mentioned_by g xs i j l mentions = (i, l, mentions)

pub mentioned_where : (g : Signature) (xs : List ℕ) (j : ℕ) → IsMentionedBy g xs j → (i : ℕ) × (i < length xs) × Mentions g (get_or xs i 0 - 1) j
unfolding IsMentionedBy
mentioned_where g xs j h = h

pub entry_mentions : (g : Signature) (i k j : ℕ) → k < row_len g i → unknown_at g i k ≡ j → Mentions g i j
unfolding Mentions
entry_mentions g i k j l e = (k, l, e)

pub mentions_entry : (g : Signature) (i j : ℕ) → Mentions g i j → (k : ℕ) × (k < row_len g i) × (unknown_at g i k ≡ j)
unfolding Mentions
mentions_entry g i j h = h

-- the first place of a number in a list
index_of : List ℕ → ℕ → ℕ
index_of [] x = 0
index_of (y ∷ ys) x = if y == x then 0 else suc (index_of ys x)

index_finds : (xs : List ℕ) (x i : ℕ) → i < length xs → get_or xs i 0 ≡ x → (index_of xs x < length xs) × (get_or xs (index_of xs x) 0 ≡ x)
unfolding index_of
index_finds [] x i l e = absurd (omega arith)
index_finds (y ∷ ys) x zero l e = elim (eqb_tells y x) [
  | inl h ↦ rw h.0 (omega arith, h.1)
  | inr h ↦ absurd (h.1 e)
]
index_finds (y ∷ ys) x (suc i) l e =
    let there = index_finds ys x i (omega arith) e in
    elim (eqb_tells y x) [
      | inl h ↦ rw h.0 (omega arith, h.1)
      | inr h ↦ rw h.0 (omega (arith, there.0), there.1)
    ]

-- equations with fewer unknowns cannot all have one
pub deficiency_singular : (g : Signature) (deficient mentioned : List ℕ) → IsDeficiency g deficient mentioned → CanCoverAll g → ⊥
deficiency_singular g deficient mentioned short can =
    let unknown : ℕ → ℕ = λ i. can.0 (get_or deficient i 0 - 1) in
    let f : ℕ → ℕ = λ i. index_of mentioned (can.0 (get_or deficient i 0 - 1)) in
    let row : (i : ℕ) → i < length deficient → get_or deficient i 0 - 1 < equations g = λ i l. let known = short.equations_known.in_range i l in omega arith in
    let found : (i : ℕ) → i < length deficient → (f i < length mentioned) × (get_or mentioned (f i) 0 ≡ can.0 (get_or deficient i 0 - 1)) =
    λ i l.
    let mentions = can.1.allowed (get_or deficient i 0 - 1) (row i l) (can.2 (get_or deficient i 0 - 1) (row i l)) in
    let there = listed_where mentioned (can.0 (get_or deficient i 0 - 1)) (short.all _ (mentioned_by g deficient i _ l mentions)) in
    index_finds mentioned (can.0 (get_or deficient i 0 - 1)) there.0 there.1 there.2 in
    let room : length deficient ≤ length mentioned = distinct_room f (length deficient) (length mentioned)
    (λ i l. (found i l).0)
    (λ i k il kl same.
    let equal : can.0 (get_or deficient i 0 - 1) ≡ can.0 (get_or deficient k 0 - 1) = sym (found i il).1 ∙ ap (λ (z : ℕ). get_or mentioned z 0) same ∙ (found k kl).1 in
    let rows : get_or deficient i 0 - 1 ≡ get_or deficient k 0 - 1 = can.1.apart _ _ (row i il) (row k kl) (can.2 (get_or deficient i 0 - 1) (row i il)) equal in
    let known = short.equations_known.in_range i il in
    let known' = short.equations_known.in_range k kl in
    short.equations_known.apart i k il kl (omega arith)) in
    omega (arith, short.fewer)

-- the rows before t are seen, and no others
pub record AreSeenTo (g : Signature) (rows listed seen : List ℕ) (t : ℕ) : Type 0 where
  pub all_listed : (i j : ℕ) → i < t → Mentions g (get_or rows i 0 - 1) j → get_or listed j 0 ≢ 0
  pub all_seen : (i j : ℕ) → i < t → Mentions g (get_or rows i 0 - 1) j → get_or seen j 0 ≢ 0
  pub only : (j : ℕ) → get_or seen j 0 ≢ 0 → (i : ℕ) × (i < t) × Mentions g (get_or rows i 0 - 1) j

pub seen_begin : (g : Signature) (rows listed seen : List ℕ) → ((j : ℕ) → get_or seen j 0 ≡ 0) → AreSeenTo g rows listed seen 0
seen_begin g rows listed seen none = record { all_listed = λ i j l. absurd (omega arith); all_seen = λ i j l. absurd (omega arith); only = λ j some. absurd (some (none j)) }

pub seen_next : (g : Signature) (rows listed seen seen' : List ℕ) (t : ℕ) → AreSeenTo g rows listed seen t
    → ((k : ℕ) → k < row_len g (get_or rows t 0 - 1) → (get_or listed (unknown_at g (get_or rows t 0 - 1) k) 0 ≢ 0) × (get_or seen' (unknown_at g (get_or rows t 0 - 1) k) 0 ≢ 0))
    → ((j : ℕ) → get_or seen j 0 ≢ 0 → get_or seen' j 0 ≢ 0)
    → ((j : ℕ) → get_or seen' j 0 ≢ 0 → (get_or seen j 0 ≢ 0) ⊎ Mentions g (get_or rows t 0 - 1) j)
    → AreSeenTo g rows listed seen' (t + 1)
seen_next g rows listed seen seen' t to row kept only = record {
  all_listed = λ i j l. elim (below_next i t l) [
    | inl h ↦ to.all_listed i j h
    | inr e ↦ rw e (λ mentions. let there = mentions_entry g (get_or rows t 0 - 1) j mentions in rw there.2 at (row there.0 there.1).0)
  ];
  all_seen = λ i j l. elim (below_next i t l) [
    | inl h ↦ λ mentions. kept j (to.all_seen i j h mentions)
    | inr e ↦ rw e (λ mentions. let there = mentions_entry g (get_or rows t 0 - 1) j mentions in rw there.2 at (row there.0 there.1).1)
  ];
  only = λ j some. elim (only j some) [
    | inl h ↦ let there = to.only j h in (there.0, omega (arith, there.1), there.2)
    | inr h ↦ (t, omega arith, h)
  ];
}

module _ (g : Signature) (rows listed seen : List ℕ) (t : ℕ) (to : AreSeenTo g rows listed seen t) where
  pub seen_listed : length rows ≤ t → (j : ℕ) → IsMentionedBy g rows j → get_or listed j 0 ≢ 0
  unfolding IsMentionedBy
  seen_listed all j h = to.all_listed h.0 j (omega (arith, h.1)) h.2

  pub seen_seen : length rows ≤ t → (j : ℕ) → IsMentionedBy g rows j → get_or seen j 0 ≢ 0
  unfolding IsMentionedBy
  seen_seen all j h = to.all_seen h.0 j (omega (arith, h.1)) h.2

  pub seen_only : t ≤ length rows → (j : ℕ) → get_or seen j 0 ≢ 0 → IsMentionedBy g rows j
  unfolding IsMentionedBy
  seen_only all j some = let there = to.only j some in (there.0, omega (arith, there.1), there.2)

-- one entry more of the row is seen
module _ (g : Signature) (row : ℕ) (listed seen0 seen : List ℕ) (k j : ℕ) (j_is : j ≡ unknown_at g (row - 1) k) (kl : k < row_len g (row - 1))
    (inside : j < length seen) (is_listed : get_or listed j 0 ≢ 0) where
  s_at : get_or (set seen j 1) j 0 ≡ 1
  s_at = get_or-set_same seen j 1 0 inside

  pub see_kept : (x : ℕ) → get_or seen x 0 ≢ 0 → get_or (set seen j 1) x 0 ≢ 0
  see_kept x some = elim (eqb_tells x j) [
    | inl e ↦ rw (e.1, s_at) (omega arith)
    | inr e ↦ rw (get_or-set_other seen j x 1 0 e.1) some
  ]

  pub see_row_holds : ((n : ℕ) → n < k → (get_or listed (unknown_at g (row - 1) n) 0 ≢ 0) × (get_or seen (unknown_at g (row - 1) n) 0 ≢ 0))
      → (n : ℕ) → n < k + 1 → (get_or listed (unknown_at g (row - 1) n) 0 ≢ 0) × (get_or (set seen j 1) (unknown_at g (row - 1) n) 0 ≢ 0)
  see_row_holds before n l = elim (below_next n k l) [
    | inl h ↦ let was = before n h in (was.0, see_kept (unknown_at g (row - 1) n) was.1)
    | inr e ↦ rw (e, ← j_is, s_at) (is_listed, omega arith)
  ]

  pub see_only : ((x : ℕ) → get_or seen x 0 ≢ 0 → (get_or seen0 x 0 ≢ 0) ⊎ Mentions g (row - 1) x)
      → (x : ℕ) → get_or (set seen j 1) x 0 ≢ 0 → (get_or seen0 x 0 ≢ 0) ⊎ Mentions g (row - 1) x
  see_only before x some = elim (eqb_tells x j) [
    | inl e ↦ inr (entry_mentions g (row - 1) k x kl (sym j_is ∙ sym e.1))
    | inr e ↦ before x (rw (get_or-set_other seen j x 1 0 e.1) at some)
  ]
