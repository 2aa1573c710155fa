-- Nothing else can be found of aliases.
use Rattle.std.proofs.Common.{◌≡◌, ℕ, zero, suc, ◌-◌, ◌<◌, ◌≤◌, Bool, inl, inr, List, [], ◌∷◌, Option, Some, Contains, drop, get_or, length, map, refl, sym, ap, ap₂, ◌∙◌, subst, arith}
use Rattle.std.specs.Prelude.{◌⊎◌, not}
use Rattle.mo_flat.specs.declared.model.FlatModel.{FlatModel}
use Rattle.mo_graph.specs.Lists.{ListsWhere}
use Rattle.mo_graph.proofs.Unique.{same_ascending}
use Rattle.mo_alias.specs.declared.alias.Alias.{Alias}
use Rattle.mo_alias.specs.declared.found.Aliases.{Aliases}
use Rattle.mo_alias.specs.declared.found.Gone.{Gone}
use Rattle.mo_alias.specs.Aliases.{AreAliases, AreGone, AreLoops, IsAlias, IsGone, IsLoop, IsSpare}
use Rattle.mo_alias.specs.Chains.{Chain, Contradicts, IsLinkBelow}
use Rattle.mo_alias.specs.Recognized.{aliases_in}
use Rattle.mo_alias.proofs.Coloring.{same_links}
use Rattle.mo_alias.proofs.Linking.{roots_at}
use Rattle.mo_alias.proofs.Marking.{one_sign}

-- ---- lists

-- the numbers of which something holds, where it holds of the same
pub same_where : (P Q : ℕ → Type 0) (n : ℕ) (xs ys : List ℕ) → ListsWhere P n xs → ListsWhere Q n ys → ((x : ℕ) → P x → Q x) → ((x : ℕ) → Q x → P x) → xs ≡ ys
same_where P Q n xs ys a b there back =
    same_ascending xs ys a.ascending b.ascending
    (λ z h. let k = a.only z h in b.all z k.0 k.1 (there z k.2))
    (λ z h. let k = b.only z h in a.all z k.0 k.1 (back z k.2))

pub same_where_one : (P : ℕ → Type 0) (n : ℕ) (xs ys : List ℕ) → ListsWhere P n xs → ListsWhere P n ys → xs ≡ ys
same_where_one P n xs ys a b = same_where P P n xs ys a b (λ x p. p) (λ x p. p)

same_by_places : (xs ys : List (List ℕ)) → length xs ≡ length ys → ((k : ℕ) → k < length xs → get_or xs k [] ≡ get_or ys k []) → xs ≡ ys
same_by_places [] [] e at = refl
same_by_places [] (y ∷ ys) e at = absurd (omega (arith, e))
same_by_places (x ∷ xs) [] e at = absurd (omega (arith, e))
same_by_places (x ∷ xs) (y ∷ ys) e at =
    let first : x ≡ y = at 0 (omega arith) in
    let rest : xs ≡ ys = same_by_places xs ys (omega (arith, e)) (λ k l. at (suc k) (omega (arith, l))) in
    ap₂ (λ (a : List ℕ) (b : List (List ℕ)). a ∷ b) first rest

-- a number in the list of the numbers of the gone ones
gone_member : (xs : List Gone) (u : ℕ) → Contains (map (λ (g : Gone). g.unknown) xs) u → (g : Gone) × Contains xs g × (g.unknown ≡ u)
gone_member [] u h = absurd (let l = h.1 in omega (arith, l))
gone_member (g ∷ xs) u (zero, l, e) = (g, (0, omega arith, refl), e)
gone_member (g ∷ xs) u (suc k, l, e) =
    let h = gone_member xs u (k, omega (arith, l), e) in
    (h.0, (suc h.1.0, (let m = h.1.1 in omega (arith, m)), h.1.2), h.2)

gone_number : (xs : List Gone) (g : Gone) → Contains xs g → Contains (map (λ (z : Gone). z.unknown) xs) g.unknown
gone_number [] g h = absurd (let l = h.1 in omega (arith, l))
gone_number (x ∷ xs) g (zero, l, e) = (0, omega arith, ap (λ (z : Gone). z.unknown) e)
gone_number (x ∷ xs) g (suc k, l, e) = let h = gone_number xs g (k, omega (arith, l), e) in (suc h.0, (let m = h.1 in omega (arith, m)), h.2)

same_gone_by : (xs ys : List Gone) → map (λ (z : Gone). z.unknown) xs ≡ map (λ (z : Gone). z.unknown) ys
    → ((g h : Gone) → Contains xs g → Contains ys h → g.unknown ≡ h.unknown → g ≡ h) → xs ≡ ys
same_gone_by [] [] e one = refl
same_gone_by [] (y ∷ ys) e one = absurd (let f : 0 ≡ suc (length (map (λ (z : Gone). z.unknown) ys)) = ap length e in omega (arith, f))
same_gone_by (x ∷ xs) [] e one = absurd (let f : suc (length (map (λ (z : Gone). z.unknown) xs)) ≡ 0 = ap length e in omega (arith, f))
same_gone_by (x ∷ xs) (y ∷ ys) e one =
    let numbers : x.unknown ≡ y.unknown = ap (λ (zs : List ℕ). get_or zs 0 0) e in
    let first : x ≡ y = one x y (0, omega arith, refl) (0, omega arith, refl) numbers in
    let tails : map (λ (z : Gone). z.unknown) xs ≡ map (λ (z : Gone). z.unknown) ys = ap (λ (zs : List ℕ). drop 1 zs) e in
    let rest : xs ≡ ys = same_gone_by xs ys tails (λ g h a b. one g h (suc a.0, (let m = a.1 in omega (arith, m)), a.2) (suc b.0, (let m = b.1 in omega (arith, m)), b.2)) in
    ap₂ (λ (a : Gone) (b : List Gone). a ∷ b) first rest

abbrev gone_of : ℕ → ℕ → Bool → Gone
gone_of unknown of minus = record { unknown = unknown; of = of; minus = minus }

abbrev aliases_of : List Gone → List ℕ → List (List ℕ) → Aliases
aliases_of gone dropped loops = record { gone = gone; dropped = dropped; loops = loops }

-- ---- what is found

module _ (said : List (Option Alias)) where
  one_gone : (g h : Gone) → IsGone said g → IsGone said h → g.unknown ≡ h.unknown → g ≡ h
  one_gone g h a b same =
      let low : g.of ≤ h.of = a.least h.of h.minus (subst (λ w. IsAlias said w h.of h.minus) (sym same) b.joined) in
      let high : h.of ≤ g.of = b.least g.of g.minus (subst (λ w. IsAlias said w g.of g.minus) same a.joined) in
      let of : g.of ≡ h.of = omega (arith, low, high) in
      let r = roots_at said (length said) in
      let j = subst (λ w. IsAlias said g.unknown w h.minus) (sym of) (subst (λ w. IsAlias said w h.of h.minus) (sym same) b.joined) in
      let minus : g.minus ≡ h.minus = one_sign said (length said) r.0 r.1 r.2 g.unknown g.of g.minus h.minus a.joined j in
      by same of minus
    where
      by : g.unknown ≡ h.unknown → g.of ≡ h.of → g.minus ≡ h.minus → g ≡ h
      by u o m = ap (λ x. gone_of x g.of g.minus) u ∙ ap (λ x. gone_of h.unknown x g.minus) o ∙ ap (λ x. gone_of h.unknown h.of x) m

  numbers_there : (xs ys : List Gone) → AreGone said xs → AreGone said ys → (u : ℕ) → Contains (map (λ (z : Gone). z.unknown) xs) u → Contains (map (λ (z : Gone). z.unknown) ys) u
  numbers_there xs ys a b u h =
      let m = gone_member xs u h in
      let is = a.only m.0 m.1 in
      subst (λ w. Contains (map (λ (z : Gone). z.unknown) ys) w) m.2 (b.all m.0.unknown m.0.of m.0.minus is.lesser is.joined)

  pub one_list_gone : (xs ys : List Gone) → AreGone said xs → AreGone said ys → xs ≡ ys
  one_list_gone xs ys a b =
      same_gone_by xs ys
      (same_ascending (map (λ (z : Gone). z.unknown) xs) (map (λ (z : Gone). z.unknown) ys) a.ascending b.ascending (numbers_there xs ys a b) (numbers_there ys xs b a))
      (λ g h c d. one_gone g h (a.only g c) (b.only h d))

  pub one_loop : (i : ℕ) (xs ys : List ℕ) → IsLoop said i xs → IsLoop said i ys → xs ≡ ys
  one_loop i xs ys a b =
      let same : b.alias ≡ a.alias = (let f : Some b.alias ≡ Some a.alias = sym b.is ∙ a.is in cc) in
      let chain : Chain said (IsLinkBelow said (i - 1)) a.alias.left a.alias.right (not a.alias.minus) b.links =
      subst (λ (w : Alias). Chain said (IsLinkBelow said (i - 1)) w.left w.right (not w.minus) b.links) same b.chain in
      same_where (λ x. (x ≡ i) ⊎ Contains a.links (x - 1)) (λ x. (x ≡ i) ⊎ Contains b.links (x - 1)) (length said) xs ys a.members b.members
      (λ x h. moved x a.links b.links (same_links said (i - 1) a.alias.left a.alias.right (not a.alias.minus) (not a.alias.minus) a.links b.links a.chain a.once chain) h)
      (λ x h. moved x b.links a.links (same_links said (i - 1) a.alias.left a.alias.right (not a.alias.minus) (not a.alias.minus) b.links a.links chain b.once a.chain) h)
    where
      moved : (x : ℕ) (es fs : List ℕ) → ((e : ℕ) → Contains es e → Contains fs e) → (x ≡ i) ⊎ Contains es (x - 1) → (x ≡ i) ⊎ Contains fs (x - 1)
      moved x es fs there (inl e) = inl e
      moved x es fs there (inr h) = inr (there (x - 1) h)

  pub one_loops : (xs ys : List (List ℕ)) → AreLoops said xs → AreLoops said ys → xs ≡ ys
  one_loops xs ys a b =
      let same : a.contradicting ≡ b.contradicting = same_where_one (λ i. Contradicts said (i - 1)) (length said) a.contradicting b.contradicting a.all b.all in
      same_by_places xs ys (a.count ∙ ap length same ∙ sym b.count)
      (λ k l. one_loop (get_or a.contradicting k 0) (get_or xs k []) (get_or ys k []) (a.loop k l)
      (subst (λ (w : List ℕ). IsLoop said (get_or w k 0) (get_or ys k [])) (sym same) (b.loop k (let f = a.count in let g = b.count in let h : length a.contradicting ≡ length b.contradicting = ap length same in omega (arith, l, f, g, h)))))

pub one_finding_holds : (m : FlatModel) (a b : Aliases) → AreAliases m a → AreAliases m b → a ≡ b
one_finding_holds m a b x y =
    by (one_list_gone (aliases_in m) a.gone b.gone x.gone y.gone)
    (same_where_one (IsSpare (aliases_in m)) (length (aliases_in m)) a.dropped b.dropped x.dropped y.dropped)
    (one_loops (aliases_in m) a.loops b.loops x.loops y.loops)
  where
    by : a.gone ≡ b.gone → a.dropped ≡ b.dropped → a.loops ≡ b.loops → a ≡ b
    by u v w = ap (λ (x : List Gone). aliases_of x a.dropped a.loops) u ∙ ap (λ (x : List ℕ). aliases_of b.gone x a.loops) v ∙ ap (λ (x : List (List ℕ)). aliases_of b.gone b.dropped x) w
