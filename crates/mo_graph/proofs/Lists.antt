-- Lists that are held in vectors.
use Rattle.std.proofs.Common.{◌≡◌, ◌≢◌, ℕ, zero, suc, ◌+◌, ◌-◌, ◌<◌, inl, inr, List, [], ◌∷◌, ◌++◌, length, get_or, set, take, refl, sym, ap, ◌∙◌, arith, get_or-set_same, get_or-set_other}
use Rattle.std.proofs.Math.Seq.{take-append_seam}
use Rattle.std.specs.Prelude.{Vec}
use Rattle.std.specs.Global.{Global}
use Rattle.std.proofs.lemmas.Bool.Decides.{eqb_tells}
use Rattle.mo_graph.specs.Order.{numbers_in}
use Rattle.mo_graph.specs.steps.Listing.{members}
use Rattle.mo_graph.proofs.Members.{members_some, members_none}

numbers_set : (xs : List (Vec ℕ Global)) (b : ℕ) (v : Vec ℕ Global) → numbers_in (set xs b v) ≡ set (numbers_in xs) b v.items
numbers_set [] b v = refl
numbers_set (x ∷ xs) zero v = refl
numbers_set (x ∷ xs) (suc b) v = ap (λ (ys : List (List ℕ)). x.items ∷ ys) (numbers_set xs b v)

pub length_numbers : (xs : List (Vec ℕ Global)) → length (numbers_in xs) ≡ length xs
length_numbers [] = refl
length_numbers (x ∷ xs) = ap suc (length_numbers xs)

pub numbers_at : (xs : List (Vec ℕ Global)) (b : ℕ) (x : Vec ℕ Global) → b < length xs → x ≡ get_or xs b x → get_or (numbers_in xs) b [] ≡ x.items
numbers_at [] b x l e = absurd (omega arith)
numbers_at (y ∷ xs) zero x l e = ap (λ (z : Vec ℕ Global). z.items) (sym e)
numbers_at (y ∷ xs) (suc b) x l e = numbers_at xs b x (omega arith) e

pub put_same : (xs : List (Vec ℕ Global)) (b : ℕ) (v : Vec ℕ Global) → b < length xs → get_or (numbers_in (set xs b v)) b [] ≡ v.items
put_same xs b v l = rw (numbers_set xs b v) (get_or-set_same (numbers_in xs) b v.items [] (omega (arith, length_numbers xs)))

pub put_other : (xs : List (Vec ℕ Global)) (b k : ℕ) (v : Vec ℕ Global) → k ≢ b → get_or (numbers_in (set xs b v)) k [] ≡ get_or (numbers_in xs) k []
put_other xs b k v ne = rw (numbers_set xs b v) (get_or-set_other (numbers_in xs) b k v.items [] ne)

-- one number more was put
module _ (xs ys : List (List ℕ)) (f : ℕ → ℕ) (i count : ℕ) (to : (b : ℕ) → b < count → get_or xs b [] ≡ members f (suc b) i)
    (more : get_or ys (f i - 1) [] ≡ get_or xs (f i - 1) [] ++ (i + 1) ∷ []) (others : (k : ℕ) → k ≢ f i - 1 → get_or ys k [] ≡ get_or xs k []) (some : 0 < f i) where
  pub members_next : (b : ℕ) → b < count → get_or ys b [] ≡ members f (suc b) (i + 1)
  members_next b l =
      let next : i + 1 ≡ suc i = omega arith in
      elim (eqb_tells b (f i - 1)) [
        | inl e ↦
            let is : f i ≡ suc b = omega (arith, e.1) in
            let here : get_or ys b [] ≡ members f (suc b) i ++ (i + 1) ∷ [] = rw (e.1) (more ∙ ap (λ (z : List ℕ). z ++ (i + 1) ∷ []) (rw e.1 at (to b l))) in
            let here' = rw next at here in
            rw next (here' ∙ sym (members_some f (suc b) i is))
        | inr e ↦
            let not_it : f i ≢ suc b = λ is. e.1 (omega arith) in
            rw next (others b e.1 ∙ to b l ∙ sym (members_none f (suc b) i not_it))
      ]

-- what was written back into a vector
pub written_whole : (xs zs : List ℕ) (n : ℕ) → n ≡ length xs → take n (xs ++ zs) ≡ xs
written_whole xs zs n e = rw e (take-append_seam xs zs)
