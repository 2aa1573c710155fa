-- The trees of the table of derivatives.
use Rattle.std.proofs.Common.{◌≡◌, ℕ, Bool, false, List, [], ◌∷◌, ◌++◌, map, length, refl, ap, ◌∙◌, sym, arith}
use Rattle.std.proofs.lemmas.Simd.{map-map}
use Rattle.std.proofs.lemmas.Grind.{common_steps}
use Rattle.mo_flat.specs.declared.expr.FlatExpr.{FlatExpr}
use Rattle.mo_flat.specs.declared.expr.FlatExpr.TheVariants.{Call}
use Rattle.mo_symdiff.specs.Derivative.{sum_of, args_slope}

-- one positive term is its sum
pub sum_of_one : (terms rest : List (Bool × FlatExpr)) (only : FlatExpr) (last : Bool × FlatExpr) → terms ≡ (false, only) ∷ [] → terms ≡ rest ++ last ∷ [] → last.1 ≡ sum_of terms
sum_of_one terms [] only last h k = rw h (let e : (false, only) ∷ [] ≡ last ∷ [] = sym h ∙ k in cc)
sum_of_one terms (x ∷ rest) only last h k =
    let e : 1 ≡ length ((x ∷ rest) ++ last ∷ []) = ap length (sym h ∙ k) in
    absurd (grind (arith, common_steps))

-- a call of another number of arguments
pub other_args : (function : ℕ) (slope : FlatExpr → FlatExpr) (args slopes : List FlatExpr) → (length args ≡ 1 → ⊥) → (length args ≡ 2 → ⊥) → slopes ≡ map slope args → Call function slopes ≡ args_slope function (map (λ a. (a, slope a)) args)
other_args function slope [] slopes h k is = ap (λ s. Call function s) is
other_args function slope (a ∷ []) slopes h k is = absurd (h refl)
other_args function slope (a ∷ b ∷ []) slopes h k is = absurd (k refl)
other_args function slope (a ∷ b ∷ c ∷ args) slopes h k is = ap (λ s. Call function s) (is ∙ sym (map-map (λ (p : FlatExpr × FlatExpr). p.1) (λ x. (x, slope x)) (a ∷ b ∷ c ∷ args)))
