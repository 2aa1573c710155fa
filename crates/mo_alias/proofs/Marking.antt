-- What joins unknowns, by roots and signs: they are found for every number of equations, so chains between the same unknowns say the same.
use Rattle.std.proofs.Common.{◌≡◌, ℕ, suc, ◌≤◌, Bool, inl, inr, List, ◌++◌, Option, Some, None, get_or, sym, ◌∙◌, subst, arith}
use Rattle.std.specs.Prelude.{◌⊎◌}
use Rattle.mo_alias.specs.declared.alias.Alias.{Alias}
use Rattle.mo_alias.specs.Chains.{Says, IsNew, IsLinkBelow, IsJoined}
use Rattle.mo_alias.specs.steps.Marking.{IsMarked}
use Rattle.mo_alias.specs.Recognized.{sign_product}
use Rattle.mo_alias.proofs.Chaining.{below_more, chain_append, chain_back, chain_keeps, chain_more, turned}
use Rattle.mo_alias.proofs.Signs.{product_left}

module _ (said : List (Option Alias)) where
  pub joined_back : (n u v : ℕ) (minus : Bool) → IsJoined said n u v minus → IsJoined said n v u minus
  joined_back n u v minus j = (turned said (IsLinkBelow said n) j.0, chain_back said (IsLinkBelow said n) u v minus j.0 j.1)

  pub joined_append : (n u v w : ℕ) (a b : Bool) → IsJoined said n u v a → IsJoined said n v w b → IsJoined said n u w (sign_product a b)
  joined_append n u v w a b j k = (j.0 ++ k.0, chain_append said (IsLinkBelow said n) u v w a b j.0 k.0 j.1 k.1)

  pub joined_signed : (n u v : ℕ) (a b : Bool) → a ≡ b → IsJoined said n u v a → IsJoined said n u v b
  joined_signed n u v a b same j = subst (λ x. IsJoined said n u v x) same j

  pub joined_more : (n k u v : ℕ) (minus : Bool) → n ≤ k → IsJoined said n u v minus → IsJoined said k u v minus
  joined_more n k u v minus l j = (j.0, chain_more said (IsLinkBelow said n) (IsLinkBelow said k) (λ e below. below_more said n k e l below) u v minus j.0 j.1)

  module _ (n : ℕ) (root : ℕ → ℕ) (sign : ℕ → Bool) (marked : IsMarked said n root sign) where
    -- joined unknowns have one root
    pub one_root : (u v : ℕ) (minus : Bool) → IsJoined said n u v minus → (root u ≡ root v) × (sign u ≡ sign_product minus (sign v))
    one_root u v minus j = chain_keeps said (IsLinkBelow said n) root sign marked.links u v minus j.0 j.1

    -- unknowns of one root are joined, by the product of their signs
    pub root_joins : (u v : ℕ) → root u ≡ root v → IsJoined said n u v (sign_product (sign u) (sign v))
    root_joins u v same =
        joined_append n u (root u) v (sign u) (sign v) (marked.joined u)
        (joined_back n v (root u) (sign v) (subst (λ x. IsJoined said n v x (sign v)) (sym same) (marked.joined v)))

    -- chains between the same unknowns say the same
    pub one_sign : (u v : ℕ) (a b : Bool) → IsJoined said n u v a → IsJoined said n u v b → a ≡ b
    one_sign u v a b j k = product_left a b (sign v) (sym (one_root u v a j).1 ∙ (one_root u v b k).1)

  -- an equation that is no link changes nothing
  pub marked_same : (n : ℕ) (root : ℕ → ℕ) (sign : ℕ → Bool) → IsMarked said n root sign → (IsNew said (IsLinkBelow said n) n → ⊥) → IsMarked said (suc n) root sign
  marked_same n root sign marked never = record {
    joined = λ u. joined_more n (suc n) u (root u) (sign u) (omega arith) (marked.joined u);
    links = λ e u v minus below s. by e u v minus s below;
  }
    where
      by : (e u v : ℕ) (minus : Bool) → Says said e u v minus → IsLinkBelow said n e ⊎ (e ≡ n) × IsNew said (IsLinkBelow said n) n → (root u ≡ root v) × (sign u ≡ sign_product minus (sign v))
      by e u v minus s (inl below) = marked.links e u v minus below s
      by e u v minus s (inr new) = absurd (never new.1)

  pub no_alias : (n : ℕ) → get_or said n None ≡ None → IsNew said (IsLinkBelow said n) n → ⊥
  no_alias n is new = let f : Some new.alias ≡ None = sym new.is ∙ is in cc

  pub marked_none : (n : ℕ) (root : ℕ → ℕ) (sign : ℕ → Bool) → IsMarked said n root sign → get_or said n None ≡ None → IsMarked said (suc n) root sign
  marked_none n root sign marked is = marked_same n root sign marked (no_alias n is)

  -- an equation between joined unknowns is no link
  pub closed_apart : (n : ℕ) (root : ℕ → ℕ) (sign : ℕ → Bool) → IsMarked said n root sign → (a : Alias) → get_or said n None ≡ Some a → root a.left ≡ root a.right
      → IsNew said (IsLinkBelow said n) n → ⊥
  closed_apart n root sign marked a is same new =
      let one : a ≡ new.alias = (let f : Some a ≡ Some new.alias = sym is ∙ new.is in cc) in
      let j = root_joins n root sign marked a.left a.right same in
      let k = subst (λ (x : Alias). IsJoined said n x.left x.right (sign_product (sign a.left) (sign a.right))) one j in
      new.apart _ k.0 k.1

  pub marked_closed : (n : ℕ) (root : ℕ → ℕ) (sign : ℕ → Bool) → IsMarked said n root sign → (a : Alias) → get_or said n None ≡ Some a → root a.left ≡ root a.right
      → IsMarked said (suc n) root sign
  marked_closed n root sign marked a is same = marked_same n root sign marked (closed_apart n root sign marked a is same)

  -- an equation between unknowns that are not joined is a link
  pub is_new : (n : ℕ) (root : ℕ → ℕ) (sign : ℕ → Bool) → IsMarked said n root sign → (a : Alias) → get_or said n None ≡ Some a → (root a.left ≡ root a.right → ⊥)
      → IsNew said (IsLinkBelow said n) n
  is_new n root sign marked a is other = record {
    alias = a;
    is = is;
    apart = λ minus es c. other (one_root n root sign marked a.left a.right minus (es, c)).0;
  }
