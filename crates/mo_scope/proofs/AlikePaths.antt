-- Instance paths that are one.
use Rattle.std.proofs.Common.{◌≡◌, ℕ, suc, ◌≢◌, Bool, true, false, List, [], ◌∷◌, length, Option, Some, None, refl, ap, ◌∙◌}
use Rattle.std.specs.Prelude.{◌&&◌, option_copied, option_map}
use Rattle.std.specs.Borrow.{Bor}
use Rattle.std.specs.Str.{bytes_eq}
use Rattle.std.proofs.lemmas.Slice.Eq.{bytes_eq-Decides}
use Rattle.mo_scope.specs.Frames.{Indexed, at_eq, indexed_eq, numbers_eq}

-- paths of other lengths are not one
pub other_names : (a b : Indexed) → length a ≢ length b → false ≡ indexed_eq a b
other_names [] [] other = absurd (other refl)
other_names [] (y ∷ b) other = refl
other_names (x ∷ a) [] other = refl
other_names (x ∷ a) (y ∷ b) other = by (bytes_eq x.0 y.0 && numbers_eq x.1 y.1) (other_names a b (λ same. other (ap suc same)))
  where
    by : (t : Bool) {r : Bool} → false ≡ r → false ≡ (t && r)
    by true rest = rest
    by false rest = refl

both_true : (a b : Bool) → (a && b) ≡ true → (a ≡ true) × (b ≡ true)
both_true true true h = (refl, refl)
both_true true false h = cc
both_true false b h = cc

-- paths that are one are alike
indexed_same : (a b : Indexed) → indexed_eq a b ≡ true → a ≡ b
indexed_same [] [] h = refl
indexed_same [] (y ∷ b) h = cc
indexed_same (x ∷ a) [] h = cc
indexed_same (x ∷ a) (y ∷ b) h =
    let parts : ((bytes_eq x.0 y.0 && numbers_eq x.1 y.1) ≡ true) × (indexed_eq a b ≡ true) = both_true (bytes_eq x.0 y.0 && numbers_eq x.1 y.1) (indexed_eq a b) h in
    let names : (bytes_eq x.0 y.0 ≡ true) × (numbers_eq x.1 y.1 ≡ true) = both_true (bytes_eq x.0 y.0) (numbers_eq x.1 y.1) parts.0 in
    ap (λ (n : List ℕ). (n, x.1) ∷ a) ((bytes_eq-Decides x.0 y.0).0 names.0)
    ∙ ap (λ (n : List ℕ). (y.0, n) ∷ a) ((bytes_eq-Decides x.1 y.1).0 names.1)
    ∙ ap (λ (l : Indexed). y ∷ l) (indexed_same a b parts.1)

pub at_same : (a b : Option Indexed) → at_eq a b ≡ true → a ≡ b
at_same None None h = refl
at_same None (Some b) h = cc
at_same (Some a) None h = cc
at_same (Some a) (Some b) h = ap Some (indexed_same a b h)

-- a path that is lent
pub lent : {A B : Type 0} (seen : A → B) (o : Option (Bor A)) (a : Option A) → option_copied o ≡ a → option_map (λ x. seen x.now) o ≡ option_map seen a
lent seen None a same = ap (option_map seen) same
lent seen (Some x) a same = ap (option_map seen) same
