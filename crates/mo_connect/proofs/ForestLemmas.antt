-- Steps on a forest.
use Rattle.std.proofs.Common.{◌≡◌, ◌≢◌, ℕ, ◌+◌, ◌<◌, ◌≤◌, inl, inr, List, length, get_or, set, refl, sym, ap, ◌∙◌, arith, get_or-set_other, get_or-set_same}
use Rattle.std.proofs.lemmas.List.{length-set}
use Rattle.std.proofs.lemmas.Bool.Decides.{eqb_tells}
use Rattle.mo_connect.specs.steps.Forest.{IsForest, Climbs, IsConstant, Shortens, IsLinked, Unites, IsFlatBelow}

pub shortens_none : (p : List ℕ) → IsForest p → Shortens p p
shortens_none p forest = record { size = refl; forest = forest; climbs = λ i less. Climbs.up less; constant = λ f constant. constant }

pub climbs_through : (p q : List ℕ) → length q ≡ length p → ((i : ℕ) → i < length p → Climbs p i (get_or q i 0)) → {i j : ℕ} → Climbs q i j → Climbs p i j
climbs_through p q size each Climbs.here = Climbs.here
climbs_through p q size each (Climbs.up {i} less) = each i (omega arith)
climbs_through p q size each (Climbs.chain a b) = Climbs.chain (climbs_through p q size each a) (climbs_through p q size each b)

pub shortens_twice : (p q r : List ℕ) → Shortens p q → Shortens q r → Shortens p r
shortens_twice p q r a b = record {
  size = b.size ∙ a.size;
  forest = b.forest;
  climbs = λ i less. climbs_through p q a.size a.climbs (b.climbs i (omega (arith, a.size)));
  constant = λ f constant. a.constant f (b.constant f constant);
}

-- at a place that was written, and at another
at_same : (p : List ℕ) (at x i : ℕ) → at < length p → i ≡ at → get_or (set p at x) i 0 ≡ x
at_same p at x i within e = rw e (get_or-set_same p at x 0 within)

at_other : (p : List ℕ) (at x i : ℕ) → i ≢ at → get_or (set p at x) i 0 ≡ get_or p i 0
at_other p at x i ne = get_or-set_other p at i x 0 ne

constant_at : (p : List ℕ) (at : ℕ) (f : ℕ → ℕ) → IsForest p → at < length p → IsConstant (set p at (get_or p (get_or p at 0) 0)) f → f at ≡ f (get_or p at 0)
constant_at p at f forest within constant =
    let up : ℕ = get_or p at 0 in
    let next : ℕ = get_or p up 0 in
    let size : length (set p at next) ≡ length p = length-set p at next in
    let low : up ≤ at = forest at within in
    let here : f at ≡ f next = constant at (omega arith) ∙ ap f (at_same p at next at within refl) in
    elim (eqb_tells up at) [
      | inl e ↦ ap f (sym e.1)
      | inr e ↦ let there : f up ≡ f next = constant up (omega arith) ∙ ap f (at_other p at next up e.1) in here ∙ sym there
    ]

-- a number is hung one step higher
pub shortens_at : (p : List ℕ) (at : ℕ) → IsForest p → at < length p → Shortens p (set p at (get_or p (get_or p at 0) 0))
shortens_at p at forest within =
    let up : ℕ = get_or p at 0 in
    let next : ℕ = get_or p up 0 in
    let size : length (set p at next) ≡ length p = length-set p at next in
    let low : up ≤ at = forest at within in
    let known : up < length p = omega arith in
    let lower : next ≤ up = forest up known in
    record {
      size = size;
      forest = λ i less. elim (eqb_tells i at) [
        | inl e ↦ rw (at_same p at next i within e.1) (omega (arith, e.1))
        | inr e ↦ rw (at_other p at next i e.1) (forest i (omega arith))
      ];
      climbs = λ i less. elim (eqb_tells i at) [
        | inl e ↦ rw (at_same p at next i within e.1) (rw e.1 (Climbs.chain (Climbs.up within) (Climbs.up known)))
        | inr e ↦ rw (at_other p at next i e.1) (Climbs.up less)
      ];
      constant = λ f constant i less. elim (eqb_tells i at) [
        | inl e ↦ rw e.1 (constant_at p at f forest within constant)
        | inr e ↦ constant i (omega arith) ∙ ap f (at_other p at next i e.1)
      ];
    }

pub flat_more : (p : List ℕ) (i : ℕ) → IsForest p → i < length p → IsFlatBelow i p → IsFlatBelow (i + 1) (set p i (get_or p (get_or p i 0) 0))
flat_more p i forest within flat j less =
    let up : ℕ = get_or p i 0 in
    let next : ℕ = get_or p up 0 in
    let low : up ≤ i = forest i within in
    let lower : next ≤ up = forest up (omega arith) in
    elim (eqb_tells j i) [
      | inl e ↦ rw (at_same p i next j within e.1) (elim (eqb_tells up i) [
        | inl z ↦ let all : next ≡ i = ap (λ k. get_or p k 0) z.1 ∙ z.1 in at_same p i next next within all
        | inr z ↦ at_other p i next next (omega (arith, z.1)) ∙ flat up (omega (arith, z.1))
      ])
      | inr e ↦
          let below : get_or p j 0 ≤ j = forest j (omega arith) in
          rw (at_other p i next j e.1) (at_other p i next (get_or p j 0) (omega (arith, e.1)) ∙ flat j (omega (arith, e.1)))
    ]

pub climbs_root : (p : List ℕ) {i j : ℕ} → Climbs p i j → get_or p i 0 ≡ i → j ≡ i
climbs_root p Climbs.here root = refl
climbs_root p (Climbs.up less) root = root
climbs_root p (Climbs.chain {i} {j} {k} a b) root =
    let first : j ≡ i = climbs_root p a root in
    climbs_root p b (rw first root) ∙ first

pub root_stays : (p q : List ℕ) (i : ℕ) → i < length p → Shortens p q → get_or p i 0 ≡ i → get_or q i 0 ≡ i
root_stays p q i less s root = climbs_root p (s.climbs i less) root

-- the root y is hung below x, where the tree of a has x and that of b has y
pub unites_at : (p q : List ℕ) (a b x y : ℕ) → Shortens p q → Climbs p a x → Climbs p b y
    → ((f : ℕ → ℕ) → IsConstant q f → f a ≡ f x) → ((f : ℕ → ℕ) → IsConstant q f → f b ≡ f y)
    → get_or q y 0 ≡ y → x ≤ y → y < length q → Unites a b p (set q y x)
unites_at p q a b x y s climb_a climb_b same_a same_b root low within =
    let size : length (set q y x) ≡ length q = length-set q y x in
    let inner : (f : ℕ → ℕ) → IsConstant (set q y x) f → IsConstant q f =
    λ f constant i less. elim (eqb_tells i y) [
      | inl e ↦ rw e.1 (ap f (sym root))
      | inr e ↦ constant i (omega arith) ∙ ap f (at_other q y x i e.1)
    ] in
    record {
      size = size ∙ s.size;
      forest = λ i less. elim (eqb_tells i y) [
        | inl e ↦ rw (at_same q y x i within e.1) (omega (arith, e.1))
        | inr e ↦ rw (at_other q y x i e.1) (s.forest i (omega arith))
      ];
      linked = λ i less. elim (eqb_tells i y) [
        | inl e ↦ rw (at_same q y x i within e.1) (rw e.1 (IsLinked.chain (IsLinked.back (IsLinked.chain IsLinked.pair (IsLinked.climbs climb_b))) (IsLinked.climbs climb_a)))
        | inr e ↦ rw (at_other q y x i e.1) (IsLinked.climbs (s.climbs i less))
      ];
      constant = λ f constant. s.constant f (inner f constant);
      same = λ f constant.
          same_a f (inner f constant) ∙ sym (constant y (omega arith) ∙ ap f (at_same q y x y within refl)) ∙ sym (same_b f (inner f constant));
    }

linked_swap : (p : List ℕ) (a b : ℕ) {i j : ℕ} → IsLinked p a b i j → IsLinked p b a i j
linked_swap p a b (IsLinked.climbs c) = IsLinked.climbs c
linked_swap p a b IsLinked.pair = IsLinked.back IsLinked.pair
linked_swap p a b (IsLinked.back l) = IsLinked.back (linked_swap p a b l)
linked_swap p a b (IsLinked.chain l m) = IsLinked.chain (linked_swap p a b l) (linked_swap p a b m)

pub unites_swap : (p q : List ℕ) (a b : ℕ) → Unites a b p q → Unites b a p q
unites_swap p q a b u = record {
  size = u.size;
  forest = u.forest;
  linked = λ i less. linked_swap p a b (u.linked i less);
  constant = u.constant;
  same = λ f constant. sym (u.same f constant);
}

pub same_higher : (p : List ℕ) (at from : ℕ) → IsForest p → at < length p → ((f : ℕ → ℕ) → IsConstant p f → f from ≡ f at)
    → (f : ℕ → ℕ) → IsConstant (set p at (get_or p (get_or p at 0) 0)) f → f from ≡ f (get_or p (get_or p at 0) 0)
same_higher p at from forest within same f constant =
    let next : ℕ = get_or p (get_or p at 0) 0 in
    let size : length (set p at next) ≡ length p = length-set p at next in
    let s : Shortens p (set p at next) = shortens_at p at forest within in
    same f (s.constant f constant) ∙ constant at (omega arith) ∙ ap f (at_same p at next at within refl)
