-- Rows are put one after another.
use Rattle.std.proofs.Common.{◌≡◌, ℕ, suc, ◌+◌, ◌-◌, ◌<◌, ◌≤◌, inl, inr, List, [], ◌∷◌, ◌++◌, length, get_or, drop, refl, sym, ap, ◌∙◌, arith, length-append, length-drop, Vec, Global}
use Rattle.std.proofs.Math.Seq.{take-append-le, drop-append-le, take-length, drop-append_seam, get_or-append_seam, ext_get_or}
use Rattle.std.proofs.Math.ListN.{get_or-append, length-map}
use Rattle.std.proofs.lemmas.List.{get_or-map}
use Rattle.std.proofs.lemmas.Bool.Decides.{eqb_tells}
use Rattle.mo_graph.specs.Counting.{sum_below}
use Rattle.mo_incidence.specs.Signature.{Signature, equations, row_len, unknown_at, order_at, entries, IsSound}
use Rattle.mo_incidence.specs.Flat.{row_at, signature, IsCut, IsFlat}
use Rattle.mo_incidence.specs.steps.Given.{given, IsRow}
use Rattle.mo_graph.proofs.Counting.{sum_same, sum_more}
use Rattle.mo_incidence.proofs.Rows.{equations_signature, rows_signature, entries_signature}

-- the row is right up to place k, before which `before` is the unknown, or 0 at the start
pub record IsRowTo (unknowns : ℕ) (row : List (ℕ × ℕ)) (k before : ℕ) : Type 0 where
  pub known : (i : ℕ) → i < k → (0 < (get_or row i (0, 0)).0) × ((get_or row i (0, 0)).0 ≤ unknowns)
  pub ascending : (i : ℕ) → i + 1 < k → (get_or row i (0, 0)).0 < (get_or row (i + 1) (0, 0)).0
  pub low : (i : ℕ) → i < k → (get_or row i (0, 0)).1 < 65536
  pub start : k ≡ 0 → before ≡ 0
  pub last : (i : ℕ) → i + 1 ≡ k → before ≡ (get_or row i (0, 0)).0

pub row_none : (unknowns : ℕ) (row : List (ℕ × ℕ)) → IsRowTo unknowns row 0 0
row_none unknowns row = record {
  known = λ i l. absurd (omega arith);
  ascending = λ i l. absurd (omega arith);
  low = λ i l. absurd (omega arith);
  start = λ _. refl;
  last = λ i e. absurd (omega arith);
}

pub row_next : (unknowns : ℕ) (row : List (ℕ × ℕ)) (k before : ℕ) (entry : ℕ × ℕ) → IsRowTo unknowns row k before → entry ≡ get_or row k (0, 0)
    → (before < entry.0) × (entry.0 ≤ unknowns) × (entry.1 < 65536) → IsRowTo unknowns row (k + 1) entry.0
row_next unknowns row k before entry to is next =
    let unknown_is : entry.0 ≡ (get_or row k (0, 0)).0 = ap (λ (e : ℕ × ℕ). e.0) is in
    let order_is : entry.1 ≡ (get_or row k (0, 0)).1 = ap (λ (e : ℕ × ℕ). e.1) is in
    record {
      known = λ i l. elim (eqb_tells i k) [
        | inl e ↦ rw e.1 (omega (arith, next.0), omega (arith, next.1))
        | inr e ↦ to.known i (omega (arith, e.1))
      ];
      ascending = λ i l. elim (eqb_tells (i + 1) k) [
        | inl e ↦ let before_is : before ≡ (get_or row i (0, 0)).0 = to.last i e.1 in rw e.1 (omega (arith, next.0))
        | inr e ↦ to.ascending i (omega (arith, e.1))
      ];
      low = λ i l. elim (eqb_tells i k) [
        | inl e ↦ rw e.1 (omega (arith, next.2))
        | inr e ↦ to.low i (omega (arith, e.1))
      ];
      start = λ e. absurd (omega arith);
      last = λ i e. let same : i ≡ k = omega arith in rw same unknown_is;
    }

pub row_end : (unknowns : ℕ) (row : List (ℕ × ℕ)) (k before : ℕ) → IsRowTo unknowns row k before → k ≡ length row → IsRow unknowns row
row_end unknowns row k before to e = record {
  known = λ i l. to.known i (omega arith);
  ascending = λ i l. to.ascending i (omega arith);
  low = λ i l. to.low i (omega arith);
}

pub row_stops : (unknowns : ℕ) (row : List (ℕ × ℕ)) (k before : ℕ) (entry : ℕ × ℕ) → IsRowTo unknowns row k before → entry ≡ get_or row k (0, 0)
    → k < length row → IsRow unknowns row → (before < entry.0) × (entry.0 ≤ unknowns) × (entry.1 < 65536)
row_stops unknowns row k before entry to is inside right =
    let unknown_is : entry.0 ≡ (get_or row k (0, 0)).0 = ap (λ (e : ℕ × ℕ). e.0) is in
    let order_is : entry.1 ≡ (get_or row k (0, 0)).1 = ap (λ (e : ℕ × ℕ). e.1) is in
    let known = right.known k inside in
    let low = right.low k inside in
    let above : before < entry.0 = elim (eqb_tells k 0) [
      | inl e ↦ let none : before ≡ 0 = to.start e.1 in omega (arith, known.0)
      | inr e ↦
          let some : k - 1 + 1 ≡ k = omega (arith, e.1) in
          let before_is : before ≡ (get_or row (k - 1) (0, 0)).0 = to.last (k - 1) some in
          let rises : (get_or row (k - 1) (0, 0)).0 < (get_or row k (0, 0)).0 = rw some at (right.ascending (k - 1) (rw some inside)) in
          omega arith
    ] in
    (above, omega (arith, known.1), omega arith)

pub equations_given : (u : ℕ) (rows : List (Vec (ℕ × ℕ) Global)) → equations (given u rows) ≡ length rows
unfolding equations given
equations_given u rows = length-map rows (λ row. row.items)

pub row_given : (u : ℕ) (rows : List (Vec (ℕ × ℕ) Global)) (i : ℕ) (row : Vec (ℕ × ℕ) Global) → i < length rows → row ≡ get_or rows i row
    → get_or (given u rows).rows i [] ≡ row.items
unfolding given
row_given u rows i row l is = get_or-map (λ (r : Vec (ℕ × ℕ) Global). r.items) rows i row [] l ∙ ap (λ (r : Vec (ℕ × ℕ) Global). r.items) (sym is)

-- the first `done` rows are right, and stand one after another
pub record IsBuiltTo (g : Signature) (done : ℕ) (starts : List ℕ) (flat : List (ℕ × ℕ)) : Type 0 where
  pub cut : IsCut starts flat
  pub count : length starts ≡ done + 1
  pub rows : (i : ℕ) → i < done → get_or g.rows i [] ≡ row_at starts flat i
  pub right : (i : ℕ) → i < done → IsRow g.unknowns (get_or g.rows i [])
  pub few : length flat ≤ 1000000

pub built_none : (g : Signature) (starts : List ℕ) (flat : List (ℕ × ℕ)) → starts ≡ 0 ∷ [] → flat ≡ [] → IsBuiltTo g 0 starts flat
built_none g starts flat starts_are flat_is =
    let count : length starts ≡ 1 = ap length starts_are in
    let none : length flat ≡ 0 = ap length flat_is in
    let zero_first : (i : ℕ) → i < 1 → get_or starts i 0 ≡ 0 = λ i l. let at : i ≡ 0 = omega arith in rw (at, starts_are) refl in
    record {
      cut = record {
        some = omega arith;
        first = zero_first 0 (omega arith);
        last = let at : length starts - 1 ≡ 0 = omega arith in rw (at, none) (zero_first 0 (omega arith));
        ordered = λ i l. absurd (omega arith);
        within = λ i l. let z = zero_first i (omega arith) in omega arith;
      };
      count = omega arith;
      rows = λ i l. absurd (omega arith);
      right = λ i l. absurd (omega arith);
      few = omega arith;
    }

module _ (g : Signature) (done : ℕ) (starts : List ℕ) (flat : List (ℕ × ℕ)) (to : IsBuiltTo g done starts flat) where
  built_last : get_or starts done 0 ≡ length flat
  built_last =
      let at : length starts - 1 ≡ done = omega (arith, to.count) in
      rw at at to.cut.last

  module _ (row : List (ℕ × ℕ)) (row_is : get_or g.rows done [] ≡ row) (row_right : IsRow g.unknowns row)
      (starts' : List ℕ) (flat' : List (ℕ × ℕ)) (flat_is : flat' ≡ flat ++ row) (few : length flat' ≤ 1000000) (starts_are : starts' ≡ starts ++ length flat' ∷ []) where
    longer : length flat' ≡ length flat + length row
    longer = ap length flat_is ∙ length-append flat row

    count' : length starts' ≡ done + 1 + 1
    count' = omega (arith, ap length starts_are, length-append starts (length flat' ∷ []), to.count)

    old_start : (i : ℕ) → i < length starts → get_or starts' i 0 ≡ get_or starts i 0
    old_start i l = rw starts_are (get_or-append starts (length flat' ∷ []) 0 i l)

    new_start : (i : ℕ) → i ≡ length starts → get_or starts' i 0 ≡ length flat'
    new_start i e = rw (e, starts_are) (get_or-append_seam starts (length flat') [] 0)

    old_row : (i : ℕ) → i < done → row_at starts' flat' i ≡ row_at starts flat i
    old_row i l =
        let here = old_start i (omega (arith, to.count)) in
        let next = old_start (i + 1) (omega (arith, to.count)) in
        let below : get_or starts i 0 ≤ length flat = to.cut.within i (omega (arith, to.count)) in
        let above : get_or starts (i + 1) 0 ≤ length flat = to.cut.within (i + 1) (omega (arith, to.count)) in
        rw (here, next, flat_is, drop-append-le (get_or starts i 0) flat row below)
        (take-append-le (get_or starts (i + 1) 0 - get_or starts i 0) (drop (get_or starts i 0) flat) row (omega (arith, length-drop (get_or starts i 0) flat)))

    new_row : row_at starts' flat' done ≡ row
    new_row =
        let here = old_start done (omega (arith, to.count)) ∙ built_last in
        let next = new_start (done + 1) (omega (arith, to.count)) in
        let size : length flat' - length flat ≡ length row = omega (arith, longer) in
        rw (here, next, size, flat_is, drop-append_seam flat row) (take-length row)

    cut' : IsCut starts' flat'
    cut' = record {
      some = omega (arith, count');
      first = old_start 0 (omega (arith, to.count)) ∙ to.cut.first;
      last = new_start (length starts' - 1) (omega (arith, count', to.count));
      ordered = λ i l. elim (eqb_tells (i + 1) (length starts)) [
        | inl e ↦
            let here : get_or starts' i 0 ≡ get_or starts i 0 = old_start i (omega (arith, e.1)) in
            let next : get_or starts' (i + 1) 0 ≡ length flat' = new_start (i + 1) e.1 in
            let under : get_or starts i 0 ≤ length flat = to.cut.within i (omega (arith, e.1)) in
            omega (arith, longer)
        | inr e ↦
            let small : i + 1 < length starts = omega (arith, e.1, count', to.count) in
            let here : get_or starts' i 0 ≡ get_or starts i 0 = old_start i (omega arith) in
            let next : get_or starts' (i + 1) 0 ≡ get_or starts (i + 1) 0 = old_start (i + 1) small in
            omega (arith, to.cut.ordered i small)
      ];
      within = λ i l. elim (eqb_tells i (length starts)) [
        | inl e ↦ let here : get_or starts' i 0 ≡ length flat' = new_start i e.1 in omega arith
        | inr e ↦
            let small : i < length starts = omega (arith, e.1, count', to.count) in
            let here : get_or starts' i 0 ≡ get_or starts i 0 = old_start i small in
            omega (arith, longer, to.cut.within i small)
      ];
    }

    pub built_next : IsBuiltTo g (done + 1) starts' flat'
    built_next = record {
      cut = cut';
      count = count';
      rows = λ i l. elim (eqb_tells i done) [
        | inl e ↦ rw e.1 (row_is ∙ sym new_row)
        | inr e ↦ to.rows i (omega (arith, e.1)) ∙ sym (old_row i (omega (arith, e.1)))
      ];
      right = λ i l. elim (eqb_tells i done) [
        | inl e ↦ rw (e.1, row_is) row_right
        | inr e ↦ to.right i (omega (arith, e.1))
      ];
      few = few;
    }

  pub built_entries : sum_below (row_len g) done ≡ length flat
  unfolding row_len entries
  built_entries =
      let size : equations (signature g.unknowns starts flat) ≡ done = omega (arith, equations_signature g.unknowns starts flat, to.count) in
      let same : (i : ℕ) → i < done → row_len g i ≡ row_len (signature g.unknowns starts flat) i =
      λ i l. ap length (to.rows i l ∙ sym (rows_signature g.unknowns starts flat i (omega (arith, to.count)))) in
      sum_same (row_len g) (row_len (signature g.unknowns starts flat)) done same ∙ rw size at (entries_signature g.unknowns starts flat to.cut)

-- the rows of a sound signature matrix are right, and no more than its entries are in the first of them
pub sound_row : (g : Signature) (i : ℕ) (row : List (ℕ × ℕ)) → IsSound g → i < equations g → get_or g.rows i [] ≡ row → IsRow g.unknowns row
unfolding row_len unknown_at order_at
sound_row g i row sound l is =
    let there : IsRow g.unknowns (get_or g.rows i []) = record { known = λ k kl. sound.known i k l kl; ascending = λ k kl. sound.ascending i k l kl; low = λ k kl. sound.low i k l kl } in
    rw is at there

pub too_many : (g : Signature) (done : ℕ) (starts : List ℕ) (flat row : List (ℕ × ℕ)) → IsBuiltTo g done starts flat → IsSound g → done < equations g
    → get_or g.rows done [] ≡ row → length flat + length row ≤ 1000000
unfolding row_len entries
too_many g done starts flat row to sound l is =
    let before : sum_below (row_len g) done ≡ length flat = built_entries g done starts flat to in
    let here : row_len g done ≡ length row = ap length is in
    let more : sum_below (row_len g) (suc done) ≤ entries g = sum_more (row_len g) (suc done) (equations g) (omega arith) in
    let few : entries g ≤ 1000000 = sound.few_entries in
    omega arith

module _ (g : Signature) (starts : List ℕ) (flat : List (ℕ × ℕ)) (to : IsBuiltTo g (equations g) starts flat) where
  rows_same : (signature g.unknowns starts flat).rows ≡ g.rows
  unfolding equations
  rows_same =
      let size : equations (signature g.unknowns starts flat) ≡ equations g = omega (arith, equations_signature g.unknowns starts flat, to.count) in
      ext_get_or [] (signature g.unknowns starts flat).rows g.rows size
      (λ i l. rows_signature g.unknowns starts flat i (omega (arith, to.count, size)) ∙ sym (to.rows i (omega (arith, size))))

  pub built_end : signature g.unknowns starts flat ≡ g
  unfolding signature
  built_end = ap (λ (rs : List (List (ℕ × ℕ))). let made : Signature = record { unknowns = g.unknowns; rows = rs } in made) rows_same

  pub built_sound : equations g ≤ 50000 → g.unknowns ≤ 50000 → IsSound g
  unfolding row_len unknown_at order_at entries
  built_sound few_equations few_unknowns = record {
    known = λ i k l kl. (to.right i l).known k kl;
    ascending = λ i k l kl. (to.right i l).ascending k kl;
    low = λ i k l kl. (to.right i l).low k kl;
    few_equations = few_equations;
    few_unknowns = few_unknowns;
    few_entries = let all : entries g ≡ length flat = built_entries g (equations g) starts flat to in omega (arith, to.few);
  }

  pub built_flat : equations g ≤ 50000 → g.unknowns ≤ 50000 → IsFlat g.unknowns starts flat
  built_flat few_equations few_unknowns = record { cut = to.cut; sound = rw built_end (built_sound few_equations few_unknowns) }
