-- The unknowns that some assignment of all equations leaves out are those that the search reaches.
use Rattle.std.proofs.Common.{◌≡◌, ◌≢◌, ℕ, zero, suc, ◌-◌, ◌<◌, ◌≤◌, ◌==◌, inl, inr, if◌then◌else◌, List, get_or, sym, ap, ◌∙◌, arith, subst}
use Rattle.std.proofs.lemmas.Bool.Decides.{nat_tests, eqb_tells}
use Rattle.mo_incidence.specs.Signature.{Signature, equations, IsSound}
use Rattle.mo_incidence.specs.Assignment.{Mentions, Assigns, IsAssignment, CoversAll, IsUndetermined}
use Rattle.mo_incidence.proofs.Counting.{changed, changed_same, changed_other, onto}
use Rattle.mo_match.specs.Searching.{IsMatching}
use Rattle.mo_match.specs.steps.Spreading.{IsSpread, AreFreeMarked, IsSpreadTo}
use Rattle.mo_match.proofs.Covering.{matching_assigns}

abbrev unset : ℕ → ℕ
unset x = if x == 0 then 1 else 0

unset_by : (x : ℕ) → x ≡ 0 → unset x ≢ 0
unset_by x e none = grind (arith, nat_tests, e, none)

unset_is : (x : ℕ) → unset x ≢ 0 → x ≡ 0
unset_is x some = elim (eqb_tells x 0) [ inl e ↦ e.1 | inr e ↦ absurd (some (grind (arith, nat_tests, e.1))) ]

module _ (E : ℕ → ℕ → Type 0) (m n : ℕ) (p owner : List ℕ) (lo : ℕ → ℕ) (match : IsMatching E m n p owner)
    (known : (i j : ℕ) → i < m → E i j → (0 < j) × (j ≤ n))
    (closed : (i j : ℕ) → i < m → E i j → lo j ≢ 0 → lo (get_or p i 0) ≢ 0)
    (free : (j : ℕ) → 0 < j → j ≤ n → get_or owner j 0 ≡ 0 → lo j ≢ 0)
    (q : ℕ → ℕ) (assigns : Assigns E m q) (full : (i : ℕ) → i < m → q i ≢ 0) where
  abbrev out : ℕ → ℕ
  out i = unset (lo (get_or p i 0))

  abbrev back : ℕ → ℕ
  back i = get_or owner (q i) 0 - 1

  back_facts : (i : ℕ) → i < m → out i ≢ 0 → (back i < m) × (get_or p (back i) 0 ≡ q i) × (lo (q i) ≡ 0)
  back_facts i l some =
      let here = assigns.allowed i l (full i l) in
      let in_range = known i (q i) l here in
      let off : lo (q i) ≡ 0 = elim (eqb_tells (lo (q i)) 0) [ inl e ↦ e.1 | inr e ↦ absurd (closed i (q i) l here e.1 (unset_is (lo (get_or p i 0)) some)) ] in
      let owned : get_or owner (q i) 0 ≢ 0 = λ none. free (q i) in_range.0 in_range.1 none off in
      let held = match.owns (back i) (q i) in_range.0 in_range.1 (omega arith) in
      (held.0, held.1, off)

  pub used_by_all : (j : ℕ) → 0 < j → j ≤ n → lo j ≡ 0 → (i : ℕ) × (i < m) × (q i ≡ j)
  used_by_all j above below off =
      let owned : get_or owner j 0 ≢ 0 = λ none. free j above below none off in
      let k = get_or owner j 0 - 1 in
      let held = match.owns k j above below (omega arith) in
      let found = onto out back m
      (λ i l some. let there = back_facts i l some in (there.0, unset_by (lo (get_or p (back i) 0)) (rw there.1 there.2)))
      (λ i i' il il' some some' same.
      let one = back_facts i il some in
      let two = back_facts i' il' some' in
      assigns.apart i i' il il' (full i il) (sym one.1 ∙ ap (λ (x : ℕ). get_or p x 0) same ∙ two.1))
      k held.0 (unset_by (lo (get_or p k 0)) (rw held.1 off)) in
      let there = back_facts found.0 found.1 found.2 in
      (found.0, found.1, sym there.1 ∙ ap (λ (x : ℕ). get_or p x 0) found.3 ∙ held.1)

module _ (g : Signature) (p owner reached order : List ℕ) (t : ℕ) (match : IsMatching (Mentions g) (equations g) g.unknowns p owner)
    (full : (i : ℕ) → i < equations g → get_or p i 0 ≢ 0) (spread : IsSpread g owner reached order t) where
  record Avoids (s : ℕ) (f : ℕ → ℕ) : Type 0 where
    pub is : IsAssignment g f
    pub covers : CoversAll g f
    pub out : (i : ℕ) → i < equations g → f i ≢ get_or order s 0
    pub later : (v i : ℕ) → s < v → v < t → i < equations g → get_or p i 0 ≡ get_or order v 0 → f i ≡ get_or order v 0

  avoided : (n s : ℕ) → s < n → s < t → (f : ℕ → ℕ) × Avoids s f
  avoided zero s sn st = absurd (omega arith)
  avoided (suc n) s sn st = elim (eqb_tells (get_or owner (get_or order s 0) 0) 0) [
    | inl e ↦ (
      λ i. get_or p i 0,
      record {
        is = matching_assigns match;
        covers = full;
        out = λ i l same.
            let held : get_or owner (get_or order s 0) 0 ≡ suc i = rw same at (match.owned i l (full i l)).1 in
            absurd (omega (arith, e.1));
        later = λ v i _ _ _ is. is;
      },
    )
    | inr e ↦
        let j = get_or order s 0 in
        let x = get_or owner j 0 - 1 in
        let in_range = spread.in_range s st in
        let held = match.owns x j in_range.0 in_range.1 (omega (arith, e.1)) in
        let link = spread.linked s st e.1 in
        let u = link.0 in
        let w = get_or order u 0 in
        let before = avoided n u (omega (arith, link.1)) (omega (arith, link.1)) in
        let has : before.0 x ≡ j = before.1.later s x link.1 st held.0 held.1 in
        let known = spread.in_range u (omega (arith, link.1)) in
        let ne : w ≢ j = λ same. let is : u ≡ s = spread.apart u s (omega (arith, link.1)) st same in omega (arith, link.1) in
        let f : ℕ → ℕ = changed before.0 x w in
        let at : f x ≡ w = changed_same before.0 x w in
        let off : (i : ℕ) → i ≢ x → f i ≡ before.0 i = λ i ni. changed_other before.0 x w i ni in (
          f,
          record {
            is = record {
              allowed = λ i l. elim (eqb_tells i x) [
                | inl z ↦ rw (z.1, at) (λ _. link.2)
                | inr z ↦ rw (off i z.1) (before.1.is.allowed i l)
              ];
              apart = λ i k il kl some same. elim (eqb_tells i x) [
                | inl z ↦ elim (eqb_tells k x) [
                  | inl z' ↦ z.1 ∙ sym z'.1
                  | inr z' ↦ absurd (before.1.out k kl (sym (off k z'.1) ∙ sym same ∙ ap f z.1 ∙ at))
                ]
                | inr z ↦ elim (eqb_tells k x) [
                  | inl z' ↦ absurd (before.1.out i il (sym (off i z.1) ∙ same ∙ ap f z'.1 ∙ at))
                  | inr z' ↦ before.1.is.apart i k il kl (rw (off i z.1) at some) (sym (off i z.1) ∙ same ∙ off k z'.1)
                ]
              ];
            };
            covers = λ i l. elim (eqb_tells i x) [
              | inl z ↦ rw (z.1, at) (omega (arith, known.0))
              | inr z ↦ rw (off i z.1) (before.1.covers i l)
            ];
            out = λ i l. elim (eqb_tells i x) [
              | inl z ↦ rw (z.1, at) ne
              | inr z ↦ rw (off i z.1) (λ same. z.1 (before.1.is.apart i x l held.0 (before.1.covers i l) (same ∙ sym has)))
            ];
            later = λ v i sv vt il is.
                let ni : i ≢ x = λ z.
                let same : get_or order v 0 ≡ get_or order s 0 = sym is ∙ ap (λ (y : ℕ). get_or p y 0) z ∙ held.1 in
                let place : v ≡ s = spread.apart v s vt st same in
                omega arith in
                off i ni ∙ before.1.later v i (omega (arith, link.1)) vt il is;
          },
        )
  ]

  pub left_by_some : (s : ℕ) → s < t → IsUndetermined g (get_or order s 0)
  left_by_some s l = let found = avoided (suc s) s (omega arith) l in (found.0, found.1.is, found.1.covers, found.1.out)

  module _ (sound : IsSound g) (free : AreFreeMarked g owner reached (suc g.unknowns)) (closed : IsSpreadTo g p reached order t) where
    mentions_known : (i j : ℕ) → i < equations g → Mentions g i j → (0 < j) × (j ≤ g.unknowns)
    unfolding Mentions
    mentions_known i j l mentions = rw mentions.2 at (sound.known i mentions.0 l mentions.1)

    pub undetermined_marked : (j : ℕ) → 0 < j → j ≤ g.unknowns → IsUndetermined g j → get_or reached j 0 ≢ 0
    undetermined_marked j above below loose off =
        let used = used_by_all (Mentions g) (equations g) g.unknowns p owner (λ x. get_or reached x 0) match mentions_known
        (λ i u l mentions some.
        let there = spread.listed u some in
        (closed.inner there.0 there.1).inner i l (subst (λ (x : ℕ). Mentions g i x) (sym there.2) mentions))
        (λ u a b none. free.free u a (omega arith) none)
        loose.0 loose.1 loose.2 j above below off in
        loose.3 used.0 used.1 used.2

    pub marked_undetermined : (j : ℕ) → get_or reached j 0 ≢ 0 → IsUndetermined g j
    marked_undetermined j some =
        let there = spread.listed j some in
        subst (λ (x : ℕ). IsUndetermined g x) there.2 (left_by_some there.0 there.1)
