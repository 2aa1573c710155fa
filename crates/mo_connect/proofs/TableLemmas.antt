-- Writing what is told of variables.
use Rattle.std.proofs.Common.{◌≡◌, ℕ, zero, suc, ◌+◌, ◌-◌, ◌<◌, inl, inr, Bool, true, List, [], ◌∷◌, ◌++◌, Option, Some, None, length, get_or, take, set, refl, sym, ap, ◌∙◌, subst, arith, get_or-set_other, get_or-set_same}
use Rattle.std.proofs.lemmas.List.{get_or_default, length-set}
use Rattle.std.proofs.lemmas.Bool.Decides.{eqb_tells, leb_tells}
use Rattle.std.proofs.Math.ListN.{get_or-append}
use Rattle.std.proofs.Math.Seq.{get_or-append_right, take-append_seam}
use Rattle.mo_syntax.specs.declared.place.Place.{Place}
use Rattle.mo_connect.specs.declared.joins.Join.{Join}
use Rattle.mo_connect.specs.declared.declared.Declared.{Declared}
use Rattle.mo_connect.specs.steps.Labels.{AreBelow, AreFlowsBelow}
use Rattle.mo_connect.specs.steps.Gathering.{told_by_face, told_by_flow, IsTold, IsKnown, IsListed, IsTable}
use Rattle.mo_connect.proofs.AlikeLemmas.{one_more}
use Rattle.mo_connect.proofs.JoinLemmas.{is_at}

known_here : (t : List (Option Declared)) (v : ℕ) (d : Declared) → v < length t → IsKnown (set t v (Some d)) v
known_here t v d within = record { declared = d; is = get_or-set_same t v (Some d) None within }

known_stays : (t : List (Option Declared)) (v : ℕ) (d : Declared) → v < length t → (w : ℕ) → IsKnown t w → IsKnown (set t v (Some d)) w
known_stays t v d within w known = elim (eqb_tells w v) [
  | inl e ↦ rw e.1 (known_here t v d within)
  | inr e ↦ record { declared = known.declared; is = get_or-set_other t v w (Some d) None e.1 ∙ known.is }
]

listed_here : (t : List (Option Declared)) (v : ℕ) (d : Declared) → v < length t → d.listed ≡ true → IsListed (set t v (Some d)) v
listed_here t v d within listed = record { declared = d; is = get_or-set_same t v (Some d) None within; listed = listed }

listed_stays : (t : List (Option Declared)) (v : ℕ) (d : Declared) → v < length t → d.listed ≡ true → (w : ℕ) → IsListed t w → IsListed (set t v (Some d)) w
listed_stays t v d within listed w known = elim (eqb_tells w v) [
  | inl e ↦ rw e.1 (listed_here t v d within listed)
  | inr e ↦ record { declared = known.declared; is = get_or-set_other t v w (Some d) None e.1 ∙ known.is; listed = known.listed }
]

some_same : (d e : Declared) → Some d ≡ Some e → d ≡ e
some_same d e same = cc

told_more : (P : ℕ → Declared → Type 0) (t : List (Option Declared)) (v : ℕ) (d : Declared) → v < length t
    → ((w : ℕ) (e : Declared) → get_or t w None ≡ Some e → P w e) → P v d → (w : ℕ) (e : Declared) → get_or (set t v (Some d)) w None ≡ Some e → P w e
told_more P t v d within before here w e is = elim (eqb_tells w v) [
  | inl z ↦
      let at : get_or (set t v (Some d)) w None ≡ Some d = rw z.1 (get_or-set_same t v (Some d) None within) in
      let same : d ≡ e = some_same d e (sym at ∙ is) in
      let Q : Declared → Type 0 = P v in
      rw z.1 (subst Q same here)
  | inr z ↦ before w e (sym (get_or-set_other t v w (Some d) None z.1) ∙ is)
]

pub table_join : (size : ℕ) (joins : List Join) (flows : List (ℕ × Place)) (k : ℕ) (d e : Join) (t t1 t2 : List (Option Declared)) → k < length joins → AreBelow size joins
    → t1 ≡ set t (get_or joins k d).left.variable (Some (told_by_face (get_or joins k d).left))
    → t2 ≡ set t1 (get_or joins k e).right.variable (Some (told_by_face (get_or joins k e).right))
    → IsTable size joins flows k 0 t → IsTable size joins flows (k + 1) 0 t2
table_join size joins flows k d e t t1 t2 within below first second table =
    let x : Join = get_or joins k d in
    let y : Join = get_or joins k e in
    let x-is : x ≡ get_or joins k x = get_or_default joins k d x within in
    let y-is : y ≡ get_or joins k y = get_or_default joins k e y within in
    let one : List (Option Declared) = set t x.left.variable (Some (told_by_face x.left)) in
    let two : List (Option Declared) = set one y.right.variable (Some (told_by_face y.right)) in
    let size-one : length one ≡ length t = length-set t x.left.variable (Some (told_by_face x.left)) in
    let size-two : length two ≡ length one = length-set one y.right.variable (Some (told_by_face y.right)) in
    let same : length t ≡ size = table.length_is in
    let low = (below k d within).0 in
    let high = (below k e within).1 in
    let left-in : x.left.variable < length t = omega arith in
    let right-in : y.right.variable < length one = omega arith in
    let stays : (w : ℕ) → IsKnown t w → IsKnown two w =
    λ w known. known_stays one y.right.variable (told_by_face y.right) right-in w (known_stays t x.left.variable (told_by_face x.left) left-in w known) in
    let PL : ℕ → Join → Type 0 = λ j z. IsKnown two z.left.variable in
    let PR : ℕ → Join → Type 0 = λ j z. IsKnown two z.right.variable in
    let PT : ℕ → Declared → Type 0 = λ v a. IsTold joins flows v a in
    let made : IsTable size joins flows (k + 1) 0 two = record {
      length_is = omega arith;
      left = one_more PL joins k x x-is within (λ j z less. stays (get_or joins j z).left.variable (table.left j z less))
          (known_stays one y.right.variable (told_by_face y.right) right-in x.left.variable (known_here t x.left.variable (told_by_face x.left) left-in));
      right = one_more PR joins k y y-is within (λ j z less. stays (get_or joins j z).right.variable (table.right j z less))
          (known_here one y.right.variable (told_by_face y.right) right-in);
      flow = λ j z less. absurd (omega arith);
      only = told_more PT one y.right.variable (told_by_face y.right) right-in
          (told_more PT t x.left.variable (told_by_face x.left) left-in table.only (IsTold.left k x (is_at joins k x x-is within) refl refl))
          (IsTold.right k y (is_at joins k y y-is within) refl refl);
    } in
    let Q : List (Option Declared) → Type 0 = λ u. IsTable size joins flows (k + 1) 0 u in
    let step : t2 ≡ two = second ∙ ap (λ u. set u y.right.variable (Some (told_by_face y.right))) first in
    subst Q (sym step) made

pub table_flow : (size : ℕ) (joins : List Join) (flows : List (ℕ × Place)) (j k : ℕ) (d : ℕ × Place) (t : List (Option Declared)) → k < length flows → AreFlowsBelow size flows
    → IsTable size joins flows j k t → IsTable size joins flows j (k + 1) (set t (get_or flows k d).0 (Some (told_by_flow (get_or flows k d))))
table_flow size joins flows j k d t within below table =
    let f : ℕ × Place = get_or flows k d in
    let f-is : f ≡ get_or flows k f = get_or_default flows k d f within in
    let told : Declared = told_by_flow f in
    let low : f.0 < size = below k d within in
    let same : length t ≡ size = table.length_is in
    let there : f.0 < length t = omega arith in
    let sizes : length (set t f.0 (Some told)) ≡ length t = length-set t f.0 (Some told) in
    let P : ℕ → ℕ × Place → Type 0 = λ i z. IsListed (set t f.0 (Some told)) z.0 in
    let PT : ℕ → Declared → Type 0 = λ v a. IsTold joins flows v a in
    record {
      length_is = omega arith;
      left = λ i z less. known_stays t f.0 told there (get_or joins i z).left.variable (table.left i z less);
      right = λ i z less. known_stays t f.0 told there (get_or joins i z).right.variable (table.right i z less);
      flow = one_more P flows k f f-is within (λ i z less. listed_stays t f.0 told there refl (get_or flows i z).0 (table.flow i z less)) (listed_here t f.0 told there refl);
      only = told_more PT t f.0 told there table.only (IsTold.flow k f (is_at flows k f f-is within) refl refl);
    }

lone_empty : (i : ℕ) → get_or {A = List (ℕ × Bool)} ([] ∷ []) i [] ≡ []
lone_empty zero = refl
lone_empty (suc i) = refl

pub empty_more : (xs : List (List (ℕ × Bool))) → ((r : ℕ) → get_or xs r [] ≡ []) → (r : ℕ) → get_or (xs ++ [] ∷ []) r [] ≡ []
empty_more xs all r = elim (leb_tells (length xs) r) [
  | inl e ↦ get_or-append_right xs ([] ∷ []) r [] e.1 ∙ lone_empty (r - length xs)
  | inr e ↦ get_or-append xs ([] ∷ []) [] r e.1 ∙ all r
]

lone_none : (i : ℕ) → get_or {A = Option Declared} (None ∷ []) i None ≡ None
lone_none zero = refl
lone_none (suc i) = refl

pub none_more : (xs : List (Option Declared)) → ((r : ℕ) → get_or xs r None ≡ None) → (r : ℕ) → get_or (xs ++ None ∷ []) r None ≡ None
none_more xs all r = elim (leb_tells (length xs) r) [
  | inl e ↦ get_or-append_right xs (None ∷ []) r None e.1 ∙ lone_none (r - length xs)
  | inr e ↦ get_or-append xs (None ∷ []) None r e.1 ∙ all r
]

none_some : (d : Declared) → None ≡ Some d → ⊥
none_some d e = cc

pub table_none : (joins : List Join) (flows : List (ℕ × Place)) (t : List (Option Declared)) → ((v : ℕ) → get_or t v None ≡ None) → IsTable (length t) joins flows 0 0 t
table_none joins flows t none = record {
  length_is = refl;
  left = λ k d less. absurd (omega arith);
  right = λ k d less. absurd (omega arith);
  flow = λ k d less. absurd (omega arith);
  only = λ v d is. absurd (none_some d (sym (none v) ∙ is));
}

pub whole_table : (n : ℕ) (xs ys : List (Option Declared)) → length xs ≡ n → take n (xs ++ ys) ≡ xs
whole_table n xs ys e = let P : ℕ → Type 0 = λ m. take m (xs ++ ys) ≡ xs in subst P e (take-append_seam xs ys)
