-- What each equation is, and the loops of those that contradict.
use Rattle.std.proofs.Common.{◌≡◌, ℕ, ◌+◌, ◌-◌, ◌<◌, ◌≤◌, true, false, inl, inr, List, [], ◌∷◌, ◌++◌, Option, Some, None, Contains, get_or, length, sym, ap, ◌∙◌, subst, arith, length-append}
use Rattle.std.specs.Prelude.{◌⊎◌, not, Result, Ok, Err, IfOk}
use Rattle.std.proofs.Math.ListN.{get_or-append}
use Rattle.std.proofs.Math.Seq.{get_or-append_seam}
use Rattle.std.proofs.lemmas.Bool.{cases_eq}
use Rattle.std.specs.List.Sorted.{IsStrictlyIncreasing}
use Rattle.std.specs.BTreeSet.{BTreeSet, IsEmpty, Updates}
use Rattle.std.specs.Ordering.{nat_cmp}
use Rattle.mo_graph.specs.steps.Placing.{Has}
use Rattle.mo_graph.proofs.Ready.{has_either, has_new, has_none}
use Rattle.mo_alias.specs.declared.alias.Alias.{Alias}
use Rattle.mo_alias.specs.declared.classify.Finding.{Finding}
use Rattle.mo_alias.specs.declared.trees.Trees.{Trees}
use Rattle.mo_alias.specs.Aliases.{IsLoop}
use Rattle.mo_alias.specs.Chains.{Chain, Contradicts, IsJoined, IsLinkBelow}
use Rattle.mo_alias.specs.steps.Climbing.{top}
use Rattle.mo_alias.specs.steps.Findings.{AreFindings, IsFinding}
use Rattle.mo_alias.specs.steps.Forests.{AreRooted, AreTrees, AreWithin, IsForest, Reaches, since_in}
use Rattle.mo_alias.specs.steps.Stretches.{IsListed, IsOpen, IsStretch}
use Rattle.mo_alias.proofs.Linking.{marked_nothing}
use Rattle.mo_alias.proofs.Marking.{one_root, one_sign}
use Rattle.mo_alias.proofs.Stretching.{chain_low}

pub both_ok : {T E : Type 0} {P Q R : T → Type 0} (r : Result T E) → ((x : T) → P x → Q x → R x) → IfOk r P → IfOk r Q → IfOk r R
both_ok (Ok x) f p q = f x p q
both_ok (Err e) f p q = q

pub at_none : (said : List (Option Alias)) (at : ℕ) (x : Option Alias) → x ≡ get_or said at x → x ≡ None → get_or said at None ≡ None
at_none said at x e none = subst (λ w. get_or said at w ≡ w) none (sym e)

-- no equation was taken
pub forest_begin : (said : List (Option Alias)) (t : Trees) → AreTrees t → ((u : ℕ) → since_in t u ≡ 18446744073709551615) → IsForest said t 0
forest_begin said t trees roots = record {
  early = omega arith;
  trees = trees;
  once = λ u v l e. absurd (let r = roots u in omega (arith, r, l));
  before = λ u l. absurd (let r = roots u in omega (arith, r, l));
  linked = λ u l. absurd (let r = roots u in omega (arith, r, l));
  rooted = λ at l. rooted_to at l;
}
  where
    none : AreRooted said t 0
    none = record { root = λ u. u; sign = λ u. false; marked = marked_nothing said; climbs = λ u. top (omega arith) }

    rooted_to : (at : ℕ) → at ≤ 0 → AreRooted said t at
    rooted_to at l = let e : 0 ≡ at = omega (arith, l) in subst (λ w. AreRooted said t w) e none

pub findings_none : (said : List (Option Alias)) (fs : List Finding) → fs ≡ [] → AreFindings said 0 fs
findings_none said fs e = (ap length e, λ k l. absurd (omega (arith, l)))

pub findings_put : (said : List (Option Alias)) (n : ℕ) (fs : List Finding) (f : Finding) → AreFindings said n fs → IsFinding said n f → AreFindings said (n + 1) (fs ++ f ∷ [])
findings_put said n fs f (size, all) is = (let s = length-append fs (f ∷ []) in omega (arith, s, size), λ e l. at e l)
  where
    at : (e : ℕ) → e < n + 1 → IsFinding said e (get_or (fs ++ f ∷ []) e Finding.Other)
    at e l = elim (cases_eq e (length fs)) [
      | inl same ↦
          let one : get_or (fs ++ f ∷ []) e Finding.Other ≡ f = rw same (get_or-append_seam fs f [] Finding.Other) in
          let n-is : n ≡ e = omega (arith, same, size) in
          rw one (subst (λ w. IsFinding said w f) n-is is)
      | inr other ↦
          let small : e < length fs = omega (arith, l, other, size) in
          let one : get_or (fs ++ f ∷ []) e Finding.Other ≡ get_or fs e Finding.Other = get_or-append fs (f ∷ []) Finding.Other e small in
          rw one (all e (omega (arith, small, size)))
    ]

module _ (said : List (Option Alias)) (t : Trees) (n : ℕ) (forest : IsForest said t n) (at : ℕ) (low : at < n) (a : Alias) (is : get_or said at None ≡ Some a) (contradicts : Contradicts said at) where
  pub loop_chain : IsJoined said at a.left a.right (not a.minus)
  loop_chain =
      let same : contradicts.alias ≡ a = (let f : Some contradicts.alias ≡ Some a = sym contradicts.is ∙ is in cc) in
      subst (λ (w : Alias). IsJoined said at w.left w.right (not w.minus)) same contradicts.chain

  pub loop_open : AreWithin said (length t.parent.items) → IsOpen t n (record { one = a.left; other = a.right; below = at })
  loop_open within =
      let r = forest.rooted at (omega (arith, low)) in
      let same = one_root said at r.root r.sign r.marked a.left a.right (not a.minus) loop_chain in
      record {
        early = omega (arith, low);
        one = (within at a is).0;
        other = (within at a is).1;
        joined = record {
          root = r.root a.left;
          sign = r.sign a.left;
          other_sign = r.sign a.right;
          above = r.climbs a.left;
          other_above = subst (λ w. Reaches t at a.right w (r.sign a.right)) (sym same.0) (r.climbs a.right);
        };
      }

  module _ (empty before set : BTreeSet ℕ) (made : List ℕ) (number : ℕ) (none : IsEmpty empty) (numbered : number ≡ at + 1) (up : Updates nat_cmp empty before number true)
      (put : (links : List ℕ) × IsStretch said (record { one = a.left; other = a.right; below = at }) links × ((x : ℕ) → (Has set x → IsListed before links x) × (IsListed before links x → Has set x)))
      (ascending : IsStrictlyIncreasing made) (members : (x : ℕ) → (Has set x → Contains made x) × (Contains made x → Has set x)) (size : n ≡ length said) where
    pub loop_is : IsLoop said (at + 1) made
    loop_is = record {
      alias = a;
      is = subst (λ w. get_or said w None ≡ Some a) back is;
      links = put.0;
      chain = subst (λ w. Chain said (IsLinkBelow said w) a.left a.right (not a.minus) put.0) back
          (subst (λ w. Chain said (IsLinkBelow said at) a.left a.right w put.0) sign put.1.chain);
      once = put.1.once;
      members = record {
        ascending = ascending;
        only = λ x c. only_by x ((put.2 x).0 ((members x).1 c));
        all = λ x p l h. (members x).0 ((put.2 x).1 (all_by x p h));
      };
    }
      where
        back : at ≡ (at + 1) - 1
        back = omega arith

        sign : put.1.minus ≡ not a.minus
        sign = let r = forest.rooted at (omega (arith, low)) in one_sign said at r.root r.sign r.marked a.left a.right put.1.minus (not a.minus) (put.0, put.1.chain) loop_chain

        first_by : (x : ℕ) → Has empty x ⊎ (x ≡ number) → (0 < x) × (x ≤ length said) × ((x ≡ at + 1) ⊎ Contains put.0 (x - 1))
        first_by x (inl h) = absurd (has_none empty x none h)
        first_by x (inr e) = (omega (arith, e, numbered), omega (arith, e, numbered, low, size), inl (e ∙ numbered))

        only_by : (x : ℕ) → IsListed before put.0 x → (0 < x) × (x ≤ length said) × ((x ≡ at + 1) ⊎ Contains put.0 (x - 1))
        only_by x (inl h) = first_by x (has_either empty before number up x h)
        only_by x (inr (p, m)) =
            let less = chain_low said at a.left a.right put.1.minus put.0 put.1.chain (x - 1) m in
            (p, omega (arith, less, low, size), inr m)

        all_by : (x : ℕ) → 0 < x → (x ≡ at + 1) ⊎ Contains put.0 (x - 1) → IsListed before put.0 x
        all_by x p (inl e) = inl (subst (λ w. Has before w) (numbered ∙ sym e) (has_new empty before number up))
        all_by x p (inr m) = inr (p, m)
