-- From trees to labels.
use Rattle.std.proofs.Common.{◌≡◌, ℕ, ◌+◌, ◌*◌, ◌<◌, ◌≤◌, true, false, List, ◌++◌, length, get_or, take, sym, ap, ◌∙◌, subst, arith}
use Rattle.std.proofs.lemmas.List.{get_or_default}
use Rattle.std.proofs.Math.Seq.{take-append_seam}
use Rattle.mo_connect.specs.declared.joins.Face.{Face}
use Rattle.mo_connect.specs.declared.joins.Join.{Join}
use Rattle.mo_connect.specs.Joins.{IsAt, bit}
use Rattle.mo_connect.specs.steps.Forest.{Climbs, Shortens, IsLinked, Unites, IsFlatBelow}
use Rattle.mo_connect.specs.steps.Labels.{number_in, IsChained, AreLabels, AreUnited}
use Rattle.mo_connect.proofs.AlikeLemmas.{one_more}
use Rattle.mo_connect.proofs.JoinLemmas.{is_at}

pub number_below : (face : Face) (bound : ℕ) → face.variable < bound → number_in face < 2 * bound
number_below face bound less =
    let small : bit face.outside ≤ 1 = elim face.outside as (λ b. bit b ≤ 1) [ true ↦ omega arith | false ↦ omega arith ] in
    omega arith

pub united_none : (joins : List Join) (p : List ℕ) → ((i : ℕ) → i < length p → get_or p i 0 ≡ i) → AreUnited joins 0 p
united_none joins p each = record {
  forest = λ i less. let same : get_or p i 0 ≡ i = each i less in omega arith;
  sound = λ i less. rw (each i less) IsChained.same;
  complete = λ f constant k d none. absurd (omega arith);
}

climbs_chained : (joins : List Join) (p : List ℕ) → ((i : ℕ) → i < length p → IsChained joins i (get_or p i 0)) → {i j : ℕ} → Climbs p i j → IsChained joins i j
climbs_chained joins p sound Climbs.here = IsChained.same
climbs_chained joins p sound (Climbs.up {i} less) = sound i less
climbs_chained joins p sound (Climbs.chain a b) = IsChained.chain (climbs_chained joins p sound a) (climbs_chained joins p sound b)

linked_chained : (joins : List Join) (p : List ℕ) (k : ℕ) (x : Join) → IsAt joins k x → ((i : ℕ) → i < length p → IsChained joins i (get_or p i 0))
    → {i j : ℕ} → IsLinked p (number_in x.left) (number_in x.right) i j → IsChained joins i j
linked_chained joins p k x at sound (IsLinked.climbs c) = climbs_chained joins p sound c
linked_chained joins p k x at sound IsLinked.pair = IsChained.join k x at
linked_chained joins p k x at sound (IsLinked.back l) = IsChained.back (linked_chained joins p k x at sound l)
linked_chained joins p k x at sound (IsLinked.chain l m) = IsChained.chain (linked_chained joins p k x at sound l) (linked_chained joins p k x at sound m)

pub united_more : (joins : List Join) (k : ℕ) (x : Join) (p q : List ℕ) → x ≡ get_or joins k x → k < length joins → AreUnited joins k p
    → Unites (number_in x.left) (number_in x.right) p q → AreUnited joins (k + 1) q
united_more joins k x p q is within before u = record {
  forest = u.forest;
  sound = λ i less. linked_chained joins p k x (is_at joins k x is within) before.sound (u.linked i (omega (arith, u.size)));
  complete = λ f constant.
      let P : ℕ → Join → Type 0 = λ j y. f (number_in y.left) ≡ f (number_in y.right) in
      one_more P joins k x is within (before.complete f (u.constant f constant)) (u.same f constant);
}

pub labels_of : (joins : List Join) (p q : List ℕ) → AreUnited joins (length joins) p → Shortens p q → IsFlatBelow (length q) q → AreLabels (length p) joins q
labels_of joins p q united s flat = record {
  length_is = s.size;
  low = s.forest;
  flat = λ i less. flat i (omega (arith, s.size));
  sound = λ i less. climbs_chained joins p united.sound (s.climbs i less);
  complete = λ k d within. united.complete (λ i. get_or q i 0) (s.constant (λ i. get_or q i 0) (λ i less. sym (flat i less))) k d within;
}

pub whole_front : (n : ℕ) (xs ys : List ℕ) → length xs ≡ n → take n (xs ++ ys) ≡ xs
whole_front n xs ys e = let P : ℕ → Type 0 = λ m. take m (xs ++ ys) ≡ xs in subst P e (take-append_seam xs ys)

pub united_at : (joins : List Join) (k : ℕ) (d e : Join) (a b : ℕ) (p q : List ℕ) → k < length joins
    → a ≡ number_in (get_or joins k d).left → b ≡ number_in (get_or joins k e).right → AreUnited joins k p → Unites a b p q → AreUnited joins (k + 1) q
united_at joins k d e a b p q within a-is b-is before u =
    let x : Join = get_or joins k d in
    let b-same : b ≡ number_in x.right = b-is ∙ ap (λ (y : Join). number_in y.right) (get_or_default joins k e d within) in
    let P : ℕ → Type 0 = λ n. Unites n b p q in
    let Q : ℕ → Type 0 = λ n. Unites (number_in x.left) n p q in
    united_more joins k x p q (get_or_default joins k d x within) within before (subst Q b-same (subst P a-is u))
