-- The equations of two sides, index by index.
use Rattle.std.proofs.Common.{◌≡◌, ℕ, zero, suc, ◌+◌, ◌<◌, ◌≤◌, List, [], ◌∷◌, ◌++◌, map, flat_map, Result, Ok, Err, refl, ap, sym, subst, ◌∙◌, append_assoc, add-one, ◌⊎◌, inl, inr, arith}
use Rattle.std.proofs.lemmas.Bool.{cases_lt}
use Rattle.std.proofs.lemmas.List.{append-nil}
use Rattle.mo_syntax.specs.Outcome.{IfBroken, Outcome, and_then}
use Rattle.mo_syntax.specs.declared.place.Broken.{Broken}
use Rattle.mo_syntax.specs.declared.place.Stop.{Stop}
use Rattle.mo_syntax.specs.declared.place.Stop.TheVariants.{Broken as broken_by, NoMemory as no_memory}
use Rattle.mo_flat.specs.declared.expr.FlatExpr.{FlatExpr}
use Rattle.mo_flat.specs.declared.model.FlatEquation.{FlatEquation}
use Rattle.mo_syntax.specs.declared.place.Place.{Place}
use Rattle.mo_flat.specs.declared.array.ArrayExpr.{ArrayExpr}
use Rattle.mo_scope.specs.Outcome as seen
use Rattle.mo_scope.specs.Worlds.{World, frames_of}
use Rattle.mo_typing.specs.Dims.{Dims}
use Rattle.mo_typing.specs.Indices.{Index, indices, numbers_to}
use Rattle.mo_typing.specs.Outcome.{each}
use Rattle.mo_arrays.specs.Equations.{checked_sides, equation}
use Rattle.mo_eval.specs.declared.virtuals.Virtual.{Virtual as VirtualAt}
use Rattle.mo_eval.specs.Seen.{AreThere, virtuals_seen}
use Rattle.mo_eval.specs.Virtuals.{Virtual}
use Rattle.mo_eval.proofs.Grown.{same_virtuals}
use Rattle.mo_equations.specs.declared.desk.Desk.{Desk}
use Rattle.mo_equations.specs.declared.made.Made.{Made as MadeAt}
use Rattle.mo_equations.specs.Equalities.{Sides, equalities_of, replaced_sides}
use Rattle.mo_equations.specs.Gathering.{Made, beside, made_equations, nothing}
use Rattle.mo_equations.specs.Leaves.{Tree}
use Rattle.mo_equations.specs.Replacing.{Replacing, of_variable, with_variables}
use Rattle.mo_equations.specs.Variables.{replacing}
use Rattle.mo_equations.specs.steps.Desks.{Goes, IsDesk}
use Rattle.mo_equations.specs.steps.Standing.{replacing_in, tree_in}
use Rattle.mo_equations.specs.declared.flat.Flat.{Flat}
use Rattle.mo_equations.specs.steps.Equalities.{GivesEquations, PutsEquations}
use Rattle.mo_equations.specs.steps.Flats.{Answers, IsFlat}
use Rattle.mo_equations.specs.steps.Makings.{IsMade}
use Rattle.mo_equations.proofs.Eaching.{each_append, each_both, each_fails}
use Rattle.mo_equations.proofs.Lists.{flat_mapped}
use Rattle.mo_equations.proofs.Staying.{same_replacing, same_tree}
use Rattle.mo_equations.proofs.Turning.{beside_beside, beside_nothing}

-- ---- later worlds

pub same_variables : (u v : World) (before after : Desk) (left : ℕ) (virtuals : List VirtualAt) → IsDesk u before → Goes u v before after → AreThere u virtuals →
    of_variable (replacing_in v after.leaves left) (virtuals_seen (frames_of v) virtuals) ≡ of_variable (replacing_in u before.leaves left) (virtuals_seen (frames_of u) virtuals)
same_variables u v before after left virtuals is goes are =
    ap (λ (r : Replacing). of_variable r (virtuals_seen (frames_of v) virtuals)) (same_replacing u v before after left is goes)
    ∙ ap (of_variable (replacing_in u before.leaves left)) (same_virtuals u v goes.grows virtuals are)

pub same_sides : (u v : World) (before after : Desk) (virtuals : List VirtualAt) → IsDesk u before → Goes u v before after → AreThere u virtuals →
    replaced_sides (tree_in v after.leaves) (virtuals_seen (frames_of v) virtuals) ≡ replaced_sides (tree_in u before.leaves) (virtuals_seen (frames_of u) virtuals)
same_sides u v before after virtuals is goes are =
    ap (λ (tree : Tree). replaced_sides tree (virtuals_seen (frames_of v) virtuals)) (same_tree u v before after is goes)
    ∙ ap (replaced_sides (tree_in u before.leaves)) (same_virtuals u v goes.grows virtuals are)

-- ---- one equation

module _ (tree : Tree) (virtuals : List Virtual) (q : FlatEquation) where
  pub left_breaks : (broken : Broken) → with_variables (of_variable (replacing tree) virtuals) q.left ≡ Err broken → each (replaced_sides tree virtuals) (q ∷ []) ≡ Err broken
  left_breaks broken h = rw h refl

  pub right_breaks : (l : FlatExpr) (broken : Broken) → with_variables (of_variable (replacing tree) virtuals) q.left ≡ Ok l →
      with_variables (of_variable (replacing tree) virtuals) q.right ≡ Err broken → each (replaced_sides tree virtuals) (q ∷ []) ≡ Err broken
  right_breaks l broken h k = rw (h, k) refl

  pub both_are : (l r : FlatExpr) → with_variables (of_variable (replacing tree) virtuals) q.left ≡ Ok l →
      with_variables (of_variable (replacing tree) virtuals) q.right ≡ Ok r → each (replaced_sides tree virtuals) (q ∷ []) ≡ Ok (record { left = l; right = r; place = q.place } ∷ [])
  both_are l r h k = rw (h, k) refl

  pub left_stops : (a b : MadeAt) (stop : Stop) → Answers {T = Flat} IsFlat (Err stop) (with_variables (of_variable (replacing tree) virtuals) q.left) →
      PutsEquations (Err stop) a b (each (replaced_sides tree virtuals) (q ∷ []))
  left_stops a b (broken_by broken) h = left_breaks broken h
  left_stops a b no_memory h = tt

  pub right_stops : (a b : MadeAt) (l : FlatExpr) (stop : Stop) → with_variables (of_variable (replacing tree) virtuals) q.left ≡ Ok l →
      Answers {T = Flat} IsFlat (Err stop) (with_variables (of_variable (replacing tree) virtuals) q.right) → PutsEquations (Err stop) a b (each (replaced_sides tree virtuals) (q ∷ []))
  right_stops a b l (broken_by broken) h k = right_breaks l broken h k
  right_stops a b l no_memory h k = tt

-- ---- answers

pub puts_as : (result : Result (Unit {0}) Stop) (a b : MadeAt) (o o' : Outcome (List FlatEquation)) → o ≡ o' → PutsEquations result a b o → PutsEquations result a b o'
puts_as result a b o o' e h = subst (PutsEquations result a b) e h

pub puts_nothing : (a : MadeAt) → PutsEquations (Ok tt) a a (Ok [])
puts_nothing a = ([], refl, λ before is. subst (IsMade a) (sym (beside_nothing before)) is)

joined : (before : Made) (xs ys : List FlatEquation) → beside (beside before (made_equations xs)) (made_equations ys) ≡ beside before (made_equations (xs ++ ys))
joined before xs ys = beside_beside before (made_equations xs) (made_equations ys)

module _ {A : Type 0} (f : A → Outcome FlatEquation) (a b c : MadeAt) where
  pub puts_more : (xs ys : List A) → PutsEquations (Ok tt) a b (each f xs) → PutsEquations (Ok tt) b c (each f ys) → PutsEquations (Ok tt) a c (each f (xs ++ ys))
  puts_more xs ys p q = (
    p.0 ++ q.0,
    each_both f xs ys p.0 q.0 p.1 q.1,
    λ before is. subst (IsMade c) (joined before p.0 q.0) (q.2 (beside before (made_equations p.0)) (p.2 before is)),
  )

  fails_first : (ys zs : List A) (broken : Broken) → each f ys ≡ Err broken → each f (ys ++ zs) ≡ Err broken
  fails_first ys zs broken h = each_append f ys zs ∙ rw h refl

  pub puts_stop : (xs ys zs : List A) (stop : Stop) → PutsEquations (Ok tt) a b (each f xs) → PutsEquations (Err stop) b c (each f ys) → PutsEquations (Err stop) a c (each f (xs ++ (ys ++ zs)))
  puts_stop xs ys zs (broken_by broken) p q = each_fails f xs (ys ++ zs) p.0 broken p.1 (fails_first ys zs broken q)
  puts_stop xs ys zs no_memory p q = tt

-- ---- rows

pub numbers_next : (k : ℕ) → numbers_to (k + 1) ≡ numbers_to k ++ (k + 1) ∷ []
numbers_next k = ap numbers_to (add-one k) ∙ ap (λ (n : ℕ). numbers_to k ++ n ∷ []) (sym (add-one k))

pub record Further (k n : ℕ) : Type 0 where
  pub rest : List ℕ
  pub are : numbers_to n ≡ numbers_to k ++ rest

further_none : (k : ℕ) → Further k k
further_none k = record { rest = []; are = sym (nothing (numbers_to k)) }
  where
    nothing : (xs : List ℕ) → xs ++ [] ≡ xs
    nothing [] = refl
    nothing (x ∷ xs) = ap (λ (ys : List ℕ). x ∷ ys) (nothing xs)

further_more : (k n : ℕ) → Further k n → Further k (suc n)
further_more k n f = record {
  rest = f.rest ++ suc n ∷ [];
  are = ap (λ (xs : List ℕ). xs ++ suc n ∷ []) f.are ∙ append_assoc (numbers_to k) f.rest (suc n ∷ []);
}

pub further : (k n : ℕ) → k ≤ n → Further k n
further k zero small = let none : k ≡ 0 = omega (arith, small) in subst (λ (m : ℕ). Further k m) none (further_none k)
further k (suc n) small = go (cases_lt k (suc n)) (further k n)
  where
    go : (k < suc n) ⊎ (suc n ≤ k) → (k ≤ n → Further k n) → Further k (suc n)
    go (inl less) more = further_more k n (more (omega (arith, less)))
    go (inr above) more = let same : k ≡ suc n = omega (arith, small, above) in subst (λ (m : ℕ). Further k m) same (further_none k)

module _ {B : Type 0} (E : Index → B) (begun : Index) where
  one_row : (n : ℕ) (X : List Index) → map (λ index. E (begun ++ index)) (map (λ index. n ∷ index) X) ≡ map (λ index. E ((begun ++ n ∷ []) ++ index)) X
  one_row n [] = refl
  one_row n (x ∷ xs) =
      ap (λ (b : B). b ∷ map (λ index. E (begun ++ index)) (map (λ index. n ∷ index) xs)) (ap E (sym (append_assoc begun (n ∷ []) x)))
      ∙ ap (λ (bs : List B). E ((begun ++ n ∷ []) ++ x) ∷ bs) (one_row n xs)

  mapped_both : (xs ys : List Index) → map (λ index. E (begun ++ index)) (xs ++ ys) ≡ map (λ index. E (begun ++ index)) xs ++ map (λ index. E (begun ++ index)) ys
  mapped_both [] ys = refl
  mapped_both (x ∷ xs) ys = ap (λ (bs : List B). E (begun ++ x) ∷ bs) (mapped_both xs ys)

  -- the elements of each row, one row after another
  pub rows_are : (X : List Index) (ns : List ℕ) → map (λ index. E (begun ++ index)) (flat_map (λ k. map (λ index. k ∷ index) X) ns) ≡ flat_map (λ k. map (λ index. E ((begun ++ k ∷ []) ++ index)) X) ns
  rows_are X [] = refl
  rows_are X (n ∷ ns) =
      mapped_both (map (λ index. n ∷ index) X) (flat_map (λ k. map (λ index. k ∷ index) X) ns)
      ∙ (ap (λ (bs : List B). bs ++ map (λ index. E (begun ++ index)) (flat_map (λ k. map (λ index. k ∷ index) X) ns)) (one_row n X)
      ∙ ap (λ (bs : List B). map (λ index. E ((begun ++ n ∷ []) ++ index)) X ++ bs) (rows_are X ns))

-- ---- all equations of two sides

module _ (tree : Tree) (place : Place) (o : Outcome Sides) where
  pub sides_halt : {T : Type 0} (view : T → Sides) (stop : Stop) → seen.Gives view (Err stop) o → GivesEquations (Err stop) (and_then o (equalities_of tree place))
  sides_halt view (broken_by broken) h = rw h refl
  sides_halt view no_memory h = tt

  module _ (l r : ArrayExpr) (V : List Virtual) (is : o ≡ Ok ((l, r), V)) where
    sides_are : and_then o (equalities_of tree place) ≡ equalities_of tree place ((l, r), V)
    sides_are = ap (λ (x : Outcome Sides). and_then x (equalities_of tree place)) is

    pub sides_unchecked : (stop : Stop) → IfBroken {T = Dims} (Err stop) (λ broken. checked_sides l r place ≡ Err broken) → GivesEquations (Err stop) (and_then o (equalities_of tree place))
    sides_unchecked (broken_by broken) h =
        ap (λ (x : Outcome (List FlatEquation)). and_then x (λ equations. Ok (made_equations equations)))
        (sides_are ∙ ap (λ (d : Outcome Dims). and_then (and_then d (λ dims. Ok (map (equation l r place) (indices dims)))) (each (replaced_sides tree V))) h)
    sides_unchecked no_memory h = tt

    module _ (dims : Dims) (checked : checked_sides l r place ≡ Ok dims) where
      told_is : and_then o (equalities_of tree place) ≡ each (replaced_sides tree V) (map (equation l r place) (indices dims))
      told_is = sides_are ∙ ap (λ (d : Outcome Dims). and_then (and_then d (λ dims. Ok (map (equation l r place) (indices dims)))) (each (replaced_sides tree V))) checked

      pub sides_stop : (a b : MadeAt) (stop : Stop) → PutsEquations (Err stop) a b (each (replaced_sides tree V) (map (λ index. equation l r place ([] ++ index)) (indices dims))) →
          GivesEquations (Err stop) (and_then o (equalities_of tree place))
      sides_stop a b (broken_by broken) h = ap (λ (x : Outcome (List FlatEquation)). and_then x (λ equations. Ok (made_equations equations))) (told_is ∙ h)
      sides_stop a b no_memory h = tt

      pub sides_made : (a b : MadeAt) → IsMade a nothing → PutsEquations (Ok tt) a b (each (replaced_sides tree V) (map (λ index. equation l r place ([] ++ index)) (indices dims))) →
          GivesEquations (Ok b) (and_then o (equalities_of tree place))
      sides_made a b none p = (
        made_equations p.0,
        ap (λ (x : Outcome (List FlatEquation)). and_then x (λ equations. Ok (made_equations equations))) (told_is ∙ p.1),
        p.2 nothing none,
      )

-- ---- one row more

module _ (R : FlatEquation → Outcome FlatEquation) (E : Index → FlatEquation) (begun : Index) (X : List Index) where
  abbrev pub row_at : ℕ → List FlatEquation
  row_at k = map (λ index. E ((begun ++ k ∷ []) ++ index)) X

  pub row_next : (a b c : MadeAt) (k : ℕ) → PutsEquations (Ok tt) a b (each R (flat_map row_at (numbers_to k))) → PutsEquations (Ok tt) b c (each R (row_at (k + 1))) →
      PutsEquations (Ok tt) a c (each R (flat_map row_at (numbers_to (k + 1))))
  row_next a b c k p q =
      let one : flat_map row_at ((k + 1) ∷ []) ≡ row_at (k + 1) = append-nil (row_at (k + 1)) in
      let all : flat_map row_at (numbers_to k) ++ row_at (k + 1) ≡ flat_map row_at (numbers_to (k + 1)) =
      sym (ap (flat_map row_at) (numbers_next k) ∙ (flat_mapped row_at (numbers_to k) ((k + 1) ∷ []) ∙ ap (λ (es : List FlatEquation). flat_map row_at (numbers_to k) ++ es) one)) in
      subst (λ (es : List FlatEquation). PutsEquations (Ok tt) a c (each R es)) all (puts_more R a b c (flat_map row_at (numbers_to k)) (row_at (k + 1)) p q)

  pub row_stops : (a b c : MadeAt) (k n : ℕ) (stop : Stop) → k + 1 ≤ n → PutsEquations (Ok tt) a b (each R (flat_map row_at (numbers_to k))) → PutsEquations (Err stop) b c (each R (row_at (k + 1))) →
      PutsEquations (Err stop) a c (each R (map (λ index. E (begun ++ index)) (flat_map (λ k. map (λ index. k ∷ index) X) (numbers_to n))))
  row_stops a b c k n stop small p q =
      let f = further (k + 1) n small in
      let split : numbers_to n ≡ numbers_to k ++ ((k + 1) ∷ f.rest) = f.are ∙ (ap (λ (ns : List ℕ). ns ++ f.rest) (numbers_next k) ∙ append_assoc (numbers_to k) ((k + 1) ∷ []) f.rest) in
      let all : map (λ index. E (begun ++ index)) (flat_map (λ k. map (λ index. k ∷ index) X) (numbers_to n)) ≡ flat_map row_at (numbers_to k) ++ (row_at (k + 1) ++ flat_map row_at f.rest) =
      rows_are E begun X (numbers_to n) ∙ (ap (flat_map row_at) split ∙ flat_mapped row_at (numbers_to k) ((k + 1) ∷ f.rest)) in
      subst (λ (es : List FlatEquation). PutsEquations (Err stop) a c (each R es)) (sym all) (puts_stop R a b c (flat_map row_at (numbers_to k)) (row_at (k + 1)) (flat_map row_at f.rest) stop p q)

  pub rows_end : (a b : MadeAt) (k n : ℕ) → k ≡ n → PutsEquations (Ok tt) a b (each R (flat_map row_at (numbers_to k))) →
      PutsEquations (Ok tt) a b (each R (map (λ index. E (begun ++ index)) (flat_map (λ k. map (λ index. k ∷ index) X) (numbers_to n))))
  rows_end a b k n same p =
      subst (λ (es : List FlatEquation). PutsEquations (Ok tt) a b (each R es)) (ap (λ (m : ℕ). flat_map row_at (numbers_to m)) same ∙ sym (rows_are E begun X (numbers_to n))) p

pub row_empty : (result : Result (Unit {0}) Stop) (R : FlatEquation → Outcome FlatEquation) (E : Index → FlatEquation) (begun dims : Index) (a b : MadeAt) → dims ≡ [] → PutsEquations result a b (each R (E begun ∷ [])) →
    PutsEquations result a b (each R (map (λ index. E (begun ++ index)) (indices dims)))
row_empty result R E begun dims a b none h =
    subst (λ (es : List FlatEquation). PutsEquations result a b (each R es))
    (ap (λ (index : Index). E index ∷ []) (sym (append-nil begun)) ∙ ap (λ (ds : List ℕ). map (λ index. E (begun ++ index)) (indices ds)) (sym none)) h

pub rows_below : (result : Result (Unit {0}) Stop) (R : FlatEquation → Outcome FlatEquation) (E : Index → FlatEquation) (begun dims rest : Index) (n : ℕ) (a b : MadeAt) → n ∷ rest ≡ dims →
    PutsEquations result a b (each R (map (λ index. E (begun ++ index)) (indices (n ∷ rest)))) → PutsEquations result a b (each R (map (λ index. E (begun ++ index)) (indices dims)))
rows_below result R E begun dims rest n a b same h = subst (λ (ds : List ℕ). PutsEquations result a b (each R (map (λ index. E (begun ++ index)) (indices ds)))) same h
