-- Unknowns each alone.
use Rattle.std.proofs.Common.{◌≡◌, ℕ, inl, inr, get_or, length, List, ◌∙◌, ap, arith, replicate}
use Rattle.std.proofs.lemmas.Bool.{cases_lt}
use Rattle.std.proofs.lemmas.List.{get_or-replicate, get_or_past, length-replicate}
use Rattle.mo_alias.specs.declared.trees.Trees.{Trees}
use Rattle.mo_alias.specs.steps.Forests.{AreTrees, since_in}

-- no link put an unknown anywhere
pub never_put : (t : Trees) (n : ℕ) → t.since.items ≡ replicate n 18446744073709551615 → (u : ℕ) → since_in t u ≡ 18446744073709551615
never_put t n is u = elim (cases_lt u n) [
  | inl low ↦ ap (λ (l : List ℕ). get_or l u 18446744073709551615) is ∙ get_or-replicate n u 18446744073709551615 18446744073709551615 low
  | inr high ↦ get_or_past t.since.items u 18446744073709551615 (let s = length-replicate {A = ℕ} n 18446744073709551615 in let e = ap length is in omega (arith, s, e, high))
]

pub trees_alone : (t : Trees) → ((u : ℕ) → get_or t.parent.items u u ≡ u) → length t.minus.items ≡ length t.parent.items → length t.since.items ≡ length t.parent.items
    → length t.ends.items ≡ length t.parent.items → length t.height.items ≡ length t.parent.items → ((u : ℕ) → since_in t u ≡ 18446744073709551615) → AreTrees t
trees_alone t alone minus since ends height never = record {
  minus_size = minus;
  since_size = since;
  ends_size = ends;
  height_size = height;
  inside = λ u l. let e = alone u in omega (arith, e, l);
  rises = λ u l. absurd (let e = never u in omega (arith, e, l));
  low = λ u. let e = never u in omega (arith, e);
}
