-- What is read of the tables of trees.
use Rattle.std.proofs.Common.{◌≡◌, ℕ, ◌<◌, Bool, false, get_or, length, sym, ap, ◌∙◌, subst, arith}
use Rattle.std.proofs.lemmas.List.{get_or_default}
use Rattle.mo_alias.specs.declared.trees.Trees.{Trees}
use Rattle.mo_alias.specs.steps.Climbing.{up}
use Rattle.mo_alias.specs.steps.Forests.{AreTrees, ends_in, minus_in, parent_in, Reaches, since_in}
use Rattle.mo_alias.specs.Recognized.{sign_product}
use Rattle.mo_alias.proofs.Signs.{product_assoc}

module _ (t : Trees) (trees : AreTrees t) (u : ℕ) (inside : u < length t.parent.items) where
  pub parent_read : (x : ℕ) → x ≡ get_or t.parent.items u x → x ≡ parent_in t u
  parent_read x e = e ∙ get_or_default t.parent.items u x u inside

  pub since_read : (x : ℕ) → x ≡ get_or t.since.items u x → x ≡ since_in t u
  since_read x e = e ∙ get_or_default t.since.items u x 18446744073709551615 (omega (arith, inside, trees.since_size))

  pub minus_read : (x : Bool) → x ≡ get_or t.minus.items u x → x ≡ minus_in t u
  minus_read x e = e ∙ get_or_default t.minus.items u x false (omega (arith, inside, trees.minus_size))

  pub ends_read : (x : ℕ × ℕ) → x ≡ get_or t.ends.items u x → x ≡ ends_in t u
  ends_read x e = e ∙ get_or_default t.ends.items u x (0, 0) (omega (arith, inside, trees.ends_size))

  -- one step up from what is no root
  pub root_step : (unknown : ℕ) (minus : Bool) → ((r : ℕ) (s : Bool) → Reaches t 18446744073709551615 u r s → Reaches t 18446744073709551615 unknown r (sign_product minus s))
      → (since : ℕ) → since ≡ get_or t.since.items u since → (since ≡ 18446744073709551615 → ⊥) → (m : Bool) → m ≡ get_or t.minus.items u m → (p : ℕ) → p ≡ get_or t.parent.items u p
      → (product : Bool) → product ≡ sign_product minus m
      → (p < length t.parent.items) × ((r : ℕ) (s : Bool) → Reaches t 18446744073709551615 p r s → Reaches t 18446744073709551615 unknown r (sign_product product s))
  root_step unknown minus way since e ne m em p ep product is =
      let at : since ≡ since_in t u = since_read since e in
      let low = trees.low u in
      let early : since_in t u < 18446744073709551615 = omega (arith, at, ne, low) in
      let par : p ≡ parent_in t u = parent_read p ep in
      let inner = trees.inside u inside in (
        omega (arith, par, inner),
        λ r s c.
            (let same : sign_product minus (sign_product (minus_in t u) s) ≡ sign_product product s = sym (product_assoc minus (minus_in t u) s) ∙ ap (λ w. sign_product w s) (ap (sign_product minus) (sym (minus_read m em)) ∙ sym is) in
            subst (λ w. Reaches t 18446744073709551615 unknown r w) same
            (way r (sign_product (minus_in t u) s) (up early (subst (λ w. Reaches t 18446744073709551615 w r s) par c)))),
      )

  pub root_smaller : (since : ℕ) → since ≡ get_or t.since.items u since → (since ≡ 18446744073709551615 → ⊥) → since_in t u < 18446744073709551615
  root_smaller since e ne = let at : since ≡ since_in t u = since_read since e in let low = trees.low u in omega (arith, at, ne, low)
