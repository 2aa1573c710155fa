-- The faces with one label.
use Rattle.std.proofs.Common.{◌≡◌, ◌≢◌, ℕ, zero, suc, ◌+◌, ◌-◌, ◌*◌, ◌/◌, ◌%◌, ◌<◌, ◌≤◌, inl, inr, ◌⊎◌, Bool, true, false, List, [], ◌∷◌, ◌++◌, length, get_or, set, refl, sym, ap, ◌∙◌, subst, arith, add-one, length-append, get_or-set_other, get_or-set_same}
use Rattle.std.proofs.lemmas.Bool.Decides.{eqb_tells, leb_tells}
use Rattle.std.proofs.Math.ListN.{get_or-append}
use Rattle.std.proofs.Math.Seq.{get_or-append_seam, get_or-append_right}
use Rattle.mo_connect.specs.steps.Forest.{IsForest, IsFlatBelow}
use Rattle.mo_connect.specs.Joins.{IsAt, number_of}
use Rattle.mo_connect.proofs.JoinLemmas.{is_at_same}
use Rattle.std.specs.Prelude.{Contains}
use Rattle.mo_connect.specs.steps.Labels.{face_at}
use Rattle.mo_connect.specs.steps.Gathering.{labelled}

pub number_at : (n : ℕ) → number_of (face_at n) ≡ n
number_at n = elim (eqb_tells (n % 2) 1) [
  | inl e ↦ rw e.0 (omega (arith, e.1))
  | inr e ↦ rw e.0 (omega (arith, e.1))
]

pub face_of_number : (a : ℕ × Bool) → face_at (number_of a) ≡ a
face_of_number (v, true) =
    let half : (2 * v + 1) / 2 ≡ v = omega arith in
    let odd : (2 * v + 1) % 2 ≡ 1 = omega arith in
    rw (half, odd) refl
face_of_number (v, false) =
    let half : (2 * v + 0) / 2 ≡ v = omega arith in
    let even : (2 * v + 0) % 2 ≡ 0 = omega arith in
    rw (half, even) refl

pub labelled_yes : (labels : List ℕ) (r n : ℕ) → get_or labels n 0 ≡ r → labelled labels r (n + 1) ≡ labelled labels r n ++ face_at n ∷ []
labelled_yes labels r n e = elim (eqb_tells (get_or labels n 0) r) [
  | inl z ↦ rw (add-one n, z.0) refl
  | inr z ↦ absurd (z.1 e)
]

pub labelled_no : (labels : List ℕ) (r n : ℕ) → get_or labels n 0 ≢ r → labelled labels r (n + 1) ≡ labelled labels r n
labelled_no labels r n ne = elim (eqb_tells (get_or labels n 0) r) [
  | inl z ↦ absurd (ne z.1)
  | inr z ↦ rw (add-one n, z.0) refl
]

-- one more face is put into the list of its label
pub labelled_more : (lists : List (List (ℕ × Bool))) (labels : List ℕ) (n : ℕ) (at : List (ℕ × Bool)) → get_or labels n 0 < length lists
    → at ≡ get_or lists (get_or labels n 0) [] ++ face_at n ∷ []
    → ((r : ℕ) → get_or lists r [] ≡ labelled labels r n) → (r : ℕ) → get_or (set lists (get_or labels n 0) at) r [] ≡ labelled labels r (n + 1)
labelled_more lists labels n at within is before r = elim (eqb_tells (get_or labels n 0) r) [
  | inl e ↦
      let here : get_or (set lists (get_or labels n 0) at) (get_or labels n 0) [] ≡ at = get_or-set_same lists (get_or labels n 0) at [] within in
      let old : get_or lists (get_or labels n 0) [] ≡ labelled labels r n = before (get_or labels n 0) ∙ ap (λ m. labelled labels m n) e.1 in
      ap (λ m. get_or (set lists (get_or labels n 0) at) m []) (sym e.1) ∙ here ∙ is ∙ ap (λ l. l ++ face_at n ∷ []) old ∙ sym (labelled_yes labels r n e.1)
  | inr e ↦
      let other : r ≢ get_or labels n 0 = λ z. e.1 (sym z) in
      get_or-set_other lists (get_or labels n 0) r at [] other ∙ before r ∙ sym (labelled_no labels r n e.1)
]

pub in_labelled : (labels : List ℕ) (r n k : ℕ) (d : ℕ × Bool) → k < length (labelled labels r n)
    → (number_of (get_or (labelled labels r n) k d) < n) × (get_or labels (number_of (get_or (labelled labels r n) k d)) 0 ≡ r)
in_labelled labels r zero k d within = absurd (omega arith)
in_labelled labels r (suc n) k d within = elim (eqb_tells (get_or labels n 0) r) [
  | inr e ↦
      let same = labelled_no labels r n e.1 in
      let same' : labelled labels r (suc n) ≡ labelled labels r n = ap (labelled labels r) (sym (add-one n)) ∙ same in
      let there = in_labelled labels r n k d (rw same' at within) in
      rw same' (omega (arith, there.0), there.1)
  | inl e ↦
      let same' : labelled labels r (suc n) ≡ labelled labels r n ++ face_at n ∷ [] = ap (labelled labels r) (sym (add-one n)) ∙ labelled_yes labels r n e.1 in
      let size = length-append (labelled labels r n) (face_at n ∷ []) in
      let within' : k < length (labelled labels r n ++ face_at n ∷ []) = rw same' at within in
      rw same' (elim (eqb_tells k (length (labelled labels r n))) [
        | inl z ↦
            let at : get_or (labelled labels r n ++ face_at n ∷ []) k d ≡ face_at n = rw z.1 (get_or-append_seam (labelled labels r n) (face_at n) [] d) in
            let number : number_of (get_or (labelled labels r n ++ face_at n ∷ []) k d) ≡ n = ap number_of at ∙ number_at n in
            (omega arith, ap (λ m. get_or labels m 0) number ∙ e.1)
        | inr z ↦
            let small : k < length (labelled labels r n) = omega (arith, z.1) in
            let there = in_labelled labels r n k d small in
            rw (get_or-append (labelled labels r n) (face_at n ∷ []) d k small) (omega (arith, there.0), there.1)
      ])
]

pub labelled_at : (labels : List ℕ) (r n k : ℕ) (a : ℕ × Bool) → IsAt (labelled labels r n) k a → (number_of a < n) × (get_or labels (number_of a) 0 ≡ r)
labelled_at labels r n k a at =
    let P : ℕ × Bool → Type 0 = λ x. (number_of x < n) × (get_or labels (number_of x) 0 ≡ r) in
    subst P at.is (in_labelled labels r n k a at.within)

pub labelled_all : (labels : List ℕ) (r n : ℕ) (a : ℕ × Bool) → number_of a < n → get_or labels (number_of a) 0 ≡ r → Contains (labelled labels r n) a
labelled_all labels r zero a small is = absurd (omega arith)
labelled_all labels r (suc n) a small is = elim (eqb_tells (number_of a) n) [
  | inl z ↦
      let yes : get_or labels n 0 ≡ r = ap (λ m. get_or labels m 0) (sym z.1) ∙ is in
      let same : labelled labels r (suc n) ≡ labelled labels r n ++ face_at n ∷ [] = ap (labelled labels r) (sym (add-one n)) ∙ labelled_yes labels r n yes in
      let size = length-append (labelled labels r n) (face_at n ∷ []) in
      let face : face_at n ≡ a = ap face_at (sym z.1) ∙ face_of_number a in
      rw same (length (labelled labels r n), omega arith, get_or-append_seam (labelled labels r n) (face_at n) [] a ∙ face)
  | inr z ↦
      let (k, within, there) = labelled_all labels r n a (omega (arith, z.1)) is in
      elim (eqb_tells (get_or labels n 0) r) [
        | inl e ↦
            let same : labelled labels r (suc n) ≡ labelled labels r n ++ face_at n ∷ [] = ap (labelled labels r) (sym (add-one n)) ∙ labelled_yes labels r n e.1 in
            let size = length-append (labelled labels r n) (face_at n ∷ []) in
            rw same (k, omega arith, get_or-append (labelled labels r n) (face_at n ∷ []) a k within ∙ there)
        | inr e ↦
            let same : labelled labels r (suc n) ≡ labelled labels r n = ap (labelled labels r) (sym (add-one n)) ∙ labelled_no labels r n e.1 in
            rw same (k, within, there)
      ]
]

pub at_append : {X : Type 0} (xs ys : List X) (k : ℕ) (x : X) → IsAt (xs ++ ys) k x → IsAt xs k x ⊎ ((length xs ≤ k) × IsAt ys (k - length xs) x)
at_append xs ys k x at =
    let size : length (xs ++ ys) ≡ length xs + length ys = length-append xs ys in
    let within : k < length (xs ++ ys) = at.within in
    elim (leb_tells (length xs) k) [
      | inl e ↦ inr (e.1, record { within = omega (arith, e.1); is = sym (get_or-append_right xs ys k x e.1) ∙ at.is })
      | inr e ↦ inl (record { within = e.1; is = sym (get_or-append xs ys x k e.1) ∙ at.is })
    ]

pub labelled_ordered : (labels : List ℕ) (r n j k : ℕ) (a b : ℕ × Bool) → IsAt (labelled labels r n) j a → IsAt (labelled labels r n) k b → j < k → number_of a < number_of b
labelled_ordered labels r zero j k a b at_a at_b less = let within = at_b.within in absurd (omega arith)
labelled_ordered labels r (suc n) j k a b at_a at_b less = elim (eqb_tells (get_or labels n 0) r) [
  | inr e ↦
      let same : labelled labels r (suc n) ≡ labelled labels r n = ap (labelled labels r) (sym (add-one n)) ∙ labelled_no labels r n e.1 in
      labelled_ordered labels r n j k a b (rw same at at_a) (rw same at at_b) less
  | inl e ↦
      let same : labelled labels r (suc n) ≡ labelled labels r n ++ face_at n ∷ [] = ap (labelled labels r) (sym (add-one n)) ∙ labelled_yes labels r n e.1 in
      let front = at_append (labelled labels r n) (face_at n ∷ []) j a (rw same at at_a) in
      let back = at_append (labelled labels r n) (face_at n ∷ []) k b (rw same at at_b) in
      elim back [
        | inl old_b ↦ elim front [
          | inl old_a ↦ labelled_ordered labels r n j k a b old_a old_b less
          | inr new_a ↦ let far = new_a.0 in let within = old_b.within in absurd (omega arith)
        ]
        | inr new_b ↦
            let near : k - length (labelled labels r n) < 1 = new_b.1.within in
            let zero-at : k - length (labelled labels r n) ≡ 0 = omega arith in
            let P : ℕ → Type 0 = λ m. IsAt (face_at n ∷ []) m b in
            let last : IsAt (face_at n ∷ []) 0 b = subst P zero-at new_b.1 in
            let face : face_at n ≡ b = last.is in
            let number : number_of b ≡ n = ap number_of (sym face) ∙ number_at n in
            elim front [
              | inl old_a ↦ let low = (labelled_at labels r n j a old_a).0 in omega arith
              | inr new_a ↦
                  let within = new_a.1.within in
                  let far = new_a.0 in
                  let far' = new_b.0 in
                  absurd (omega arith)
            ]
      ]
]

pub first_labelled : (labels : List ℕ) (r : ℕ) (a : ℕ × Bool) → IsForest labels → IsFlatBelow (length labels) labels → IsAt (labelled labels r (length labels)) 0 a → a ≡ face_at r
first_labelled labels r a forest flat at =
    let n : ℕ = length labels in
    let there = labelled_at labels r n 0 a at in
    let label : get_or labels (number_of a) 0 ≡ r = there.1 in
    let small : number_of a < length labels = there.0 in
    let low : get_or labels (number_of a) 0 ≤ number_of a = forest (number_of a) small in
    let root : get_or labels r 0 ≡ r = ap (λ m. get_or labels m 0) (sym label) ∙ flat (number_of a) small ∙ label in
    let number : number_of (face_at r) ≡ r = number_at r in
    let (k, within, is) = labelled_all labels r n (face_at r) (omega arith) (ap (λ m. get_or labels m 0) number ∙ root) in
    let root-at : IsAt (labelled labels r n) k (face_at r) = record { within = within; is = is } in
    elim (eqb_tells k 0) [
      | inl z ↦
          let P : ℕ → Type 0 = λ m. IsAt (labelled labels r n) m (face_at r) in
          is_at_same (labelled labels r n) 0 a (face_at r) at (subst P z.1 root-at)
      | inr z ↦
          let later : number_of a < number_of (face_at r) = labelled_ordered labels r n 0 k a (face_at r) at root-at (omega (arith, z.1)) in
          absurd (omega arith)
    ]
