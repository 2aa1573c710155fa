-- One stage more is noted.
use Rattle.std.proofs.Common.{◌≡◌, ◌≢◌, ℕ, zero, suc, ◌+◌, ◌-◌, ◌<◌, ◌≤◌, ◌⊎◌, inl, inr, List, [], ◌∷◌, ◌++◌, Contains, length, get_or, set, take, refl, sym, ap, ◌∙◌, arith, get_or-set_same, get_or-set_other}
use Rattle.std.proofs.lemmas.List.{take_more, map-append, length-map, get_or-map}
use Rattle.std.proofs.lemmas.List.Elements.{Contains-append_left, Contains-append_right, Contains-append_cases}
use Rattle.std.proofs.lemmas.Bool.Decides.{eqb_tells}
use Rattle.mo_graph.proofs.Chains.{below_next}
use Rattle.mo_incidence.specs.Offsets.{by_place}
use Rattle.mo_match.proofs.ListLemmas.{contains_at, at_contains}
use Rattle.mo_select.specs.declared.selection.Stage.{Stage}
use Rattle.mo_select.specs.Selection.{no_stage, AreNested}
use Rattle.mo_select.specs.steps.Depths.{unknowns_in, IsNoted, AreDepths}
use Rattle.mo_select.proofs.Holders.{holder, holder_is, holder_some}

contains_or_not : (xs : List ℕ) (x : ℕ) → Contains xs x ⊎ (Contains xs x → ⊥)
contains_or_not xs x = elim (eqb_tells (holder (by_place xs) (length xs) x) 0) [
  | inl e ↦ inr (λ there. let at = contains_at xs x there in holder_some (by_place xs) (length xs) x at.0 at.1 at.2 e.1)
  | inr e ↦ inl (let at = holder_is (by_place xs) (length xs) x e.1 in at_contains xs x (holder (by_place xs) (length xs) x - 1) at.0 at.1)
]

pub noted_none : (stage : ℕ) (depth : List ℕ) → IsNoted [] stage depth depth
noted_none stage depth = record {
  here = λ j there. absurd (omega (arith, there.1));
  others = λ u _. refl;
}

one_contains : (n x : ℕ) → Contains (n ∷ []) x → n ≡ x
one_contains n x (zero, l, e) = e
one_contains n x (suc k, l, e) = absurd (omega arith)

-- one unknown more
pub noted_push : (chosen : List (ℕ × ℕ)) (stage : ℕ) (depth depth' : List ℕ) (x : ℕ × ℕ) → IsNoted chosen stage depth depth' → 0 < x.0 → x.0 ≤ length depth'
    → IsNoted (chosen ++ x ∷ []) stage depth (set depth' (x.0 - 1) stage)
noted_push chosen stage depth depth' x to above below =
    let names : unknowns_in (chosen ++ x ∷ []) ≡ unknowns_in chosen ++ x.0 ∷ [] = map-append (λ (z : ℕ × ℕ). z.0) chosen (x ∷ []) in
    record {
      here = λ j. rw names (λ there. elim (eqb_tells (j - 1) (x.0 - 1)) [
        | inl e ↦ rw e.1 (get_or-set_same depth' (x.0 - 1) stage 0 (omega arith))
        | inr e ↦ rw (get_or-set_other depth' (x.0 - 1) (j - 1) stage 0 e.1) (elim (Contains-append_cases (unknowns_in chosen) (x.0 ∷ []) j there) [
          | inl old ↦ to.here j old
          | inr new ↦ let same = one_contains x.0 j new in absurd (e.1 (ap (λ (z : ℕ). z - 1) (sym same)))
        ])
      ]);
      others = λ u. rw names (λ out.
          let past : u ≢ x.0 - 1 = λ same. out (Contains-append_right (unknowns_in chosen) (x.0 ∷ []) (suc u) (0, omega arith, let is : x.0 ≡ suc u = omega arith in is)) in
          get_or-set_other depth' (x.0 - 1) u stage 0 past ∙ to.others u (λ there. out (Contains-append_left (unknowns_in chosen) (x.0 ∷ []) (suc u) there)));
    }

pub noted_known : (chosen : List (ℕ × ℕ)) (i : ℕ) (x : ℕ × ℕ) → i < length chosen → x ≡ get_or chosen i (0, 0) → Contains (unknowns_in chosen) x.0
noted_known chosen i x l is =
    let size = length-map chosen (λ (z : ℕ × ℕ). z.0) in
    at_contains (unknowns_in chosen) x.0 i (omega arith) (get_or-map (λ (z : ℕ × ℕ). z.0) chosen i (0, 0) 0 l ∙ ap (λ (z : ℕ × ℕ). z.0) (sym is))

pub noted_next : (chosen : List (ℕ × ℕ)) (stage i : ℕ) (depth depth' : List ℕ) (x : ℕ × ℕ) → i < length chosen → x ≡ get_or chosen i (0, 0) → IsNoted (take i chosen) stage depth depth'
    → 0 < x.0 → x.0 ≤ length depth' → IsNoted (take (i + 1) chosen) stage depth (set depth' (x.0 - 1) stage)
noted_next chosen stage i depth depth' x l is to above below =
    let more : take (i + 1) chosen ≡ take i chosen ++ x ∷ [] = take_more chosen i (0, 0) l ∙ ap (λ (z : ℕ × ℕ). take i chosen ++ z ∷ []) (sym is) in
    rw more (noted_push (take i chosen) stage depth depth' x to above below)

pub depths_none : (stages : List Stage) (n : ℕ) (depth : List ℕ) → length depth ≡ n → ((u : ℕ) → get_or depth u 0 ≡ 0) → AreDepths stages n 0 depth
depths_none stages n depth size none = record {
  size = size;
  low = λ u. let z = none u in omega arith;
  chosen = λ k u l. absurd (omega arith);
  unchosen = λ k u l. absurd (omega arith);
}

module _ (stages : List Stage) (n k : ℕ) (depth depth' : List ℕ) (kl : k < length stages) (nested : AreNested stages) (to : AreDepths stages n k depth)
    (size : length depth' ≡ length depth) (noted : IsNoted (get_or stages k no_stage).chosen (k + 1) depth depth') where
  abbrev Chosen : ℕ → ℕ → Type 0
  Chosen s u = Contains (unknowns_in (get_or stages s no_stage).chosen) (suc u)

  here_is : (u : ℕ) → Chosen k u → get_or depth' u 0 ≡ k + 1
  here_is u there = let back : suc u - 1 ≡ u = omega arith in rw back at (noted.here (suc u) there)

  -- one that is chosen now was chosen at all stages before
  all_before : (u : ℕ) → u < n → Chosen k u → (s : ℕ) → s < k → Chosen s u
  all_before u ul there s l =
      let last : suc (k - 1) ≡ k = omega arith in
      let before : Chosen (k - 1) u = nested.inner (k - 1) (suc u) (omega arith) (rw last there) in
      let deep = to.unchosen (k - 1) u (omega arith) ul before in
      let low = to.low u in
      to.chosen s u l ul (omega arith)

  pub depths_next : AreDepths stages n (k + 1) depth'
  depths_next = record {
    size = size ∙ to.size;
    low = λ u. elim (contains_or_not (unknowns_in (get_or stages k no_stage).chosen) (suc u)) [
      | inl there ↦ let is = here_is u there in omega arith
      | inr out ↦ let is = noted.others u out in let low = to.low u in omega arith
    ];
    chosen = λ s u sl ul deep. elim (contains_or_not (unknowns_in (get_or stages k no_stage).chosen) (suc u)) [
      | inl there ↦ elim (below_next s k sl) [
        | inl h ↦ all_before u ul there s h
        | inr e ↦ rw e there
      ]
      | inr out ↦
          let is = noted.others u out in
          let low = to.low u in
          to.chosen s u (omega arith) ul (omega arith)
    ];
    unchosen = λ s u sl ul there. elim (contains_or_not (unknowns_in (get_or stages k no_stage).chosen) (suc u)) [
      | inl now ↦ let is = here_is u now in omega arith
      | inr out ↦ elim (below_next s k sl) [
        | inl h ↦
            let is = noted.others u out in
            let deep = to.unchosen s u h ul there in
            omega arith
        | inr e ↦ absurd (out (rw e at there))
      ]
    ];
  }
