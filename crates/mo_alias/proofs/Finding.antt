-- Dropped equations and loops, one equation after another.
use Rattle.std.proofs.Common.{◌≡◌, ℕ, ◌+◌, ◌-◌, ◌<◌, ◌≤◌, Bool, true, false, inl, inr, List, [], ◌∷◌, ◌++◌, Option, Some, None, Contains, get_or, length, refl, sym, ap, ◌∙◌, subst, arith, length-append, true≢false}
use Rattle.std.specs.Prelude.{◌⊎◌, not}
use Rattle.std.proofs.Math.ListN.{get_or-append}
use Rattle.std.proofs.Math.Seq.{get_or-append_seam}
use Rattle.std.proofs.lemmas.Bool.{cases_eq}
use Rattle.std.proofs.lemmas.List.{get_or_default}
use Rattle.mo_graph.specs.Lists.{ListsWhere}
use Rattle.mo_alias.specs.declared.alias.Alias.{Alias}
use Rattle.mo_alias.specs.declared.classify.Finding.{Finding}
use Rattle.mo_alias.specs.Aliases.{AreLoops, IsLoop, IsSpare}
use Rattle.mo_alias.specs.Chains.{Agrees, Contradicts, IsJoined, IsLink}
use Rattle.mo_alias.specs.steps.Findings.{AreLoopsTo, contradicting, is_spare, IsFinding}
use Rattle.mo_alias.proofs.Ascending.{ascend_none, ascend_put, contains_kept, contains_last, contains_put}
use Rattle.mo_alias.proofs.Linking.{roots_at}
use Rattle.mo_alias.proofs.Marking.{one_sign}

-- ---- ascending lists of the numbers of which something holds

module _ (P : ℕ → Type 0) where
  pub lists_none : (xs : List ℕ) → xs ≡ [] → ListsWhere P 0 xs
  lists_none xs e = subst (λ (z : List ℕ). ListsWhere P 0 z) (sym e) (record {
    ascending = ascend_none;
    only = λ x c. absurd (let l = c.1 in omega (arith, l));
    all = λ x p l h. absurd (omega (arith, p, l));
  })

  pub lists_skip : (n : ℕ) (xs : List ℕ) → ListsWhere P n xs → (P (n + 1) → ⊥) → ListsWhere P (n + 1) xs
  lists_skip n xs l not = record {
    ascending = l.ascending;
    only = λ x c. let h = l.only x c in (h.0, omega (arith, h.1), h.2);
    all = λ x p low h. all_by x p low h (cases_eq x (n + 1));
  }
    where
      all_by : (x : ℕ) → 0 < x → x ≤ n + 1 → P x → (x ≡ n + 1) ⊎ (x ≡ n + 1 → ⊥) → Contains xs x
      all_by x p low h (inl e) = absurd (not (subst P e h))
      all_by x p low h (inr e) = l.all x p (omega (arith, low, e)) h

  pub lists_put : (n : ℕ) (xs : List ℕ) → ListsWhere P n xs → P (n + 1) → ListsWhere P (n + 1) (xs ++ (n + 1) ∷ [])
  lists_put n xs l is = record {
    ascending = ascend_put xs (n + 1) l.ascending (λ y c. let h = l.only y c in omega (arith, h.1));
    only = λ x c. only_by x (contains_put xs (n + 1) x c);
    all = λ x p low h. all_by x p low h (cases_eq x (n + 1));
  }
    where
      only_by : (x : ℕ) → Contains xs x ⊎ (n + 1 ≡ x) → (0 < x) × (x ≤ n + 1) × P x
      only_by x (inl c) = let h = l.only x c in (h.0, omega (arith, h.1), h.2)
      only_by x (inr e) = (omega (arith, e), omega (arith, e), subst P e is)

      all_by : (x : ℕ) → 0 < x → x ≤ n + 1 → P x → (x ≡ n + 1) ⊎ (x ≡ n + 1 → ⊥) → Contains (xs ++ (n + 1) ∷ []) x
      all_by x p low h (inl e) = subst (λ w. Contains (xs ++ (n + 1) ∷ []) w) (sym e) (contains_last xs (n + 1))
      all_by x p low h (inr e) = contains_kept xs (n + 1) x (l.all x p (omega (arith, low, e)) h)

-- ---- each equation is one thing

module _ (said : List (Option Alias)) (e : ℕ) where
  one_alias : (a b : Alias) → get_or said e None ≡ Some a → get_or said e None ≡ Some b → a ≡ b
  one_alias a b f g = let h : Some a ≡ Some b = sym f ∙ g in cc

  pub no_link : (a : Alias) (minus : Bool) → get_or said e None ≡ Some a → IsJoined said e a.left a.right minus → IsLink said e → ⊥
  no_link a minus is j new =
      let k = subst (λ (x : Alias). IsJoined said e x.left x.right minus) (one_alias a new.alias is new.is) j in
      new.apart minus k.0 k.1

  not_same : (b : Bool) → b ≡ not b → ⊥
  not_same true f = true≢false f
  not_same false f = true≢false (sym f)

  pub not_both : Contradicts said e → Agrees said e → ⊥
  not_both c a =
      let r = roots_at said e in
      let j = subst (λ (x : Alias). IsJoined said e x.left x.right x.minus) (one_alias a.alias c.alias a.is c.is) a.chain in
      not_same c.alias.minus (one_sign said e r.0 r.1 r.2 c.alias.left c.alias.right c.alias.minus (not c.alias.minus) j c.chain)

  pub spare_yes : (f : Finding) → IsFinding said e f → is_spare f ≡ true → IsLink said e ⊎ Agrees said e
  spare_yes Finding.Other is y = absurd (true≢false (sym y))
  spare_yes Finding.Link is y = inl is
  spare_yes Finding.Agrees is y = inr is
  spare_yes Finding.Contradicts is y = absurd (true≢false (sym y))

  pub spare_no : (f : Finding) → IsFinding said e f → is_spare f ≡ false → IsLink said e ⊎ Agrees said e → ⊥
  spare_no Finding.Other is y (inl new) = let f : Some new.alias ≡ None = sym new.is ∙ is in cc
  spare_no Finding.Other is y (inr agrees) = let f : Some agrees.alias ≡ None = sym agrees.is ∙ is in cc
  spare_no Finding.Link is y h = true≢false y
  spare_no Finding.Agrees is y h = true≢false y
  spare_no Finding.Contradicts is y (inl new) = no_link is.alias (not is.alias.minus) is.is is.chain new
  spare_no Finding.Contradicts is y (inr agrees) = not_both is agrees

  pub contradicting_some : (f : Finding) (s : Option Alias) (a : Alias) → IsFinding said e f → contradicting f s ≡ Some a → Contradicts said e × (s ≡ Some a)
  contradicting_some Finding.Other s a is y = absurd (let g : None ≡ Some a = y in cc)
  contradicting_some Finding.Link s a is y = absurd (let g : None ≡ Some a = y in cc)
  contradicting_some Finding.Agrees s a is y = absurd (let g : None ≡ Some a = y in cc)
  contradicting_some Finding.Contradicts s a is y = (is, y)

  pub contradicting_none : (f : Finding) → IsFinding said e f → contradicting f (get_or said e None) ≡ None → Contradicts said e → ⊥
  contradicting_none Finding.Other is y c = let f : Some c.alias ≡ None = sym c.is ∙ is in cc
  contradicting_none Finding.Link is y c = no_link c.alias (not c.alias.minus) c.is c.chain is
  contradicting_none Finding.Agrees is y c = not_both c is
  contradicting_none Finding.Contradicts is y c = let f : Some c.alias ≡ None = sym c.is ∙ y in cc

  pub at_read : (x : Option Alias) → x ≡ get_or said e x → e < length said → x ≡ get_or said e None
  at_read x f l = f ∙ get_or_default said e x None l

module _ (said : List (Option Alias)) (n : ℕ) where
  back : (n + 1) - 1 ≡ n
  back = omega arith

  pub spare_at : IsLink said n ⊎ Agrees said n → IsSpare said (n + 1)
  spare_at h = subst (λ w. IsLink said w ⊎ Agrees said w) (sym back) h

  pub at_spare : IsSpare said (n + 1) → IsLink said n ⊎ Agrees said n
  at_spare h = subst (λ w. IsLink said w ⊎ Agrees said w) back h

  pub contradicts_at : Contradicts said n → Contradicts said ((n + 1) - 1)
  contradicts_at h = subst (λ w. Contradicts said w) (sym back) h

  pub at_contradicts : Contradicts said ((n + 1) - 1) → Contradicts said n
  at_contradicts h = subst (λ w. Contradicts said w) back h

  pub dropped_put : (xs : List ℕ) (f : Finding) (number : ℕ) → ListsWhere (IsSpare said) n xs → IsFinding said n f → is_spare f ≡ true → number ≡ n + 1 → ListsWhere (IsSpare said) (n + 1) (xs ++ number ∷ [])
  dropped_put xs f number l is y e = subst (λ w. ListsWhere (IsSpare said) (n + 1) (xs ++ w ∷ [])) (sym e) (lists_put (IsSpare said) n xs l (spare_at (spare_yes said n f is y)))

  pub dropped_skip : (xs : List ℕ) (f : Finding) → ListsWhere (IsSpare said) n xs → IsFinding said n f → is_spare f ≡ false → ListsWhere (IsSpare said) (n + 1) xs
  dropped_skip xs f l is y = lists_skip (IsSpare said) n xs l (λ h. spare_no said n f is y (at_spare h))

  pub loops_put : (loops : List (List ℕ)) (one : List ℕ) → AreLoopsTo said n loops → Contradicts said n → IsLoop said (n + 1) one → AreLoopsTo said (n + 1) (loops ++ one ∷ [])
  loops_put loops one to c is = record {
    contradicting = to.contradicting ++ (n + 1) ∷ [];
    all = lists_put (λ i. Contradicts said (i - 1)) n to.contradicting to.all (contradicts_at c);
    count = (let a = length-append loops (one ∷ []) in let b = length-append to.contradicting ((n + 1) ∷ []) in let h = to.count in omega (arith, a, b, h));
    loop = λ k l. loop_by k l (cases_eq k (length loops));
  }
    where
      loop_by : (k : ℕ) → k < length (loops ++ one ∷ []) → (k ≡ length loops) ⊎ (k ≡ length loops → ⊥) → IsLoop said (get_or (to.contradicting ++ (n + 1) ∷ []) k 0) (get_or (loops ++ one ∷ []) k [])
      loop_by k l (inl e) =
          let e' : k ≡ length to.contradicting = e ∙ to.count in
          let a : get_or (loops ++ one ∷ []) k [] ≡ one = rw e (get_or-append_seam loops one [] []) in
          let b : get_or (to.contradicting ++ (n + 1) ∷ []) k 0 ≡ n + 1 = rw e' (get_or-append_seam to.contradicting (n + 1) [] 0) in
          rw (a, b) is
      loop_by k l (inr e) =
          let s = length-append loops (one ∷ []) in
          let small : k < length loops = omega (arith, l, e, s) in
          let a : get_or (loops ++ one ∷ []) k [] ≡ get_or loops k [] = get_or-append loops (one ∷ []) [] k small in
          let b : get_or (to.contradicting ++ (n + 1) ∷ []) k 0 ≡ get_or to.contradicting k 0 = get_or-append to.contradicting ((n + 1) ∷ []) 0 k (let h = to.count in omega (arith, small, h)) in
          rw (a, b) (to.loop k small)

  pub loops_skip : (loops : List (List ℕ)) → AreLoopsTo said n loops → (Contradicts said n → ⊥) → AreLoopsTo said (n + 1) loops
  loops_skip loops to not = record {
    contradicting = to.contradicting;
    all = lists_skip (λ i. Contradicts said (i - 1)) n to.contradicting to.all (λ h. not (at_contradicts h));
    count = to.count;
    loop = to.loop;
  }

pub loops_none : (said : List (Option Alias)) (loops : List (List ℕ)) → loops ≡ [] → AreLoopsTo said 0 loops
loops_none said loops e = record {
  contradicting = [];
  all = lists_none (λ i. Contradicts said (i - 1)) [] refl;
  count = ap length e;
  loop = λ k l. absurd (let z : length loops ≡ 0 = ap length e in omega (arith, l, z));
}

pub loops_all : (said : List (Option Alias)) (loops : List (List ℕ)) → AreLoopsTo said (length said) loops → AreLoops said loops
loops_all said loops to = record { contradicting = to.contradicting; all = to.all; count = to.count; loop = to.loop }
