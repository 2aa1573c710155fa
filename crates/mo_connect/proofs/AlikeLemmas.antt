-- What a search for partners of leaves has found.
use Rattle.std.proofs.Common.{◌≡◌, ℕ, ◌+◌, ◌<◌, ◌≤◌, List, [], length, get_or, Bool, true, false, IsTrue, sym, ap, subst, inl, inr, ◌∙◌, arith}
use Rattle.std.proofs.lemmas.Bool.Decides.{eqb_tells}
use Rattle.std.proofs.lemmas.List.{ext_get_or, get_or_default}
use Rattle.std.specs.Prelude.{Any}
use Rattle.mo_flat.specs.declared.connect.EndLeaf.{EndLeaf}
use Rattle.mo_connect.specs.Alike.{Corresponds, HavePartners, AreAlike, AllAlike}

pub same_steps : (left right : List (List ℕ × List ℕ)) (k : ℕ) → length left ≡ length right → length left ≤ k
    → ((j : ℕ) (d : List ℕ × List ℕ) → j < k → get_or left j d ≡ get_or right j d) → left ≡ right
same_steps left right k e past same = ext_get_or ([], []) left right e (λ i h. same i ([], []) (omega arith))

-- a leaf without a partner
pub without_partner : (leaves others : List EndLeaf) (i : ℕ) (leaf : EndLeaf) → leaf ≡ get_or leaves i leaf → i < length leaves
    → ((k : ℕ) (d : EndLeaf) → k < length others → Corresponds leaf (get_or others k d) → ⊥) → HavePartners leaves others → ⊥
without_partner leaves others i leaf is within none all =
    let (k, x, there, at, corresponds) = all i leaf within in
    none k x there (record {
      below = ap (λ (l : EndLeaf). l.below) is ∙ corresponds.below ∙ ap (λ (l : EndLeaf). l.below) (sym at);
      flow = ap (λ (l : EndLeaf). l.flow) is ∙ corresponds.flow ∙ ap (λ (l : EndLeaf). l.flow) (sym at);
    })

-- what holds of the elements before place i and of the one there
pub one_more : {X : Type 0} (P : ℕ → X → Type 0) (list : List X) (i : ℕ) (x : X) → x ≡ get_or list i x → i < length list
    → ((j : ℕ) (d : X) → j < i → P j (get_or list j d)) → P i x → (j : ℕ) (d : X) → j < i + 1 → P j (get_or list j d)
one_more {X} P list i x is within before here j d small = elim (eqb_tells j i) [
  | inl e ↦ rw e.1 (let Q : X → Type 0 = P i in subst Q (is ∙ get_or_default list i x d within) here)
  | inr e ↦ before j d (omega (arith, e.1))
]

-- one more leaf with a partner
pub partners_more : (leaves others : List EndLeaf) (i : ℕ) (leaf : EndLeaf) → leaf ≡ get_or leaves i leaf → i < length leaves
    → ((j : ℕ) (d : EndLeaf) → j < i → Any (Corresponds (get_or leaves j d)) others) → (k : ℕ)
    → (k < length others) × ((d : EndLeaf) → Corresponds leaf (get_or others k d))
    → (j : ℕ) (d : EndLeaf) → j < i + 1 → Any (Corresponds (get_or leaves j d)) others
partners_more leaves others i leaf is within before k found =
    let P : ℕ → EndLeaf → Type 0 = λ j l. Any (Corresponds l) others in
    let there : EndLeaf = get_or others k leaf in
    let here : Any (Corresponds leaf) others = (k, there, found.0, get_or_default others k there leaf found.0, found.1 leaf) in
    one_more P leaves i leaf is within before here

pub alike_more : (lefts rights : List (List EndLeaf)) (i : ℕ) (left : List EndLeaf) → left ≡ get_or lefts i left → i < length lefts
    → ((j : ℕ) (d e : List EndLeaf) → j < i → j < length rights → AreAlike (get_or lefts j d) (get_or rights j e))
    → ((e : List EndLeaf) → i < length rights → AreAlike left (get_or rights i e))
    → (j : ℕ) (d e : List EndLeaf) → j < i + 1 → j < length rights → AreAlike (get_or lefts j d) (get_or rights j e)
alike_more lefts rights i left is within before here j d e small =
    let P : ℕ → List EndLeaf → Type 0 = λ k l. (f : List EndLeaf) → k < length rights → AreAlike l (get_or rights k f) in
    one_more P lefts i left is within (λ k g less f there. before k g f less there) here j d small e

-- connectors that are not alike
pub unlike : (lefts rights : List (List EndLeaf)) (i : ℕ) (left : List EndLeaf) → left ≡ get_or lefts i left → i < length lefts
    → AllAlike lefts rights → (e : List EndLeaf) → i < length rights → AreAlike left (get_or rights i e)
unlike lefts rights i left is within all e there =
    let Q : List EndLeaf → Type 0 = λ l. AreAlike l (get_or rights i e) in
    subst Q (sym is) (all i left e within there)

pub so : {P : Type 0} (b : Bool) → (IsTrue b → P) × (P → IsTrue b) → b ≡ true → P
so b tells e = tells.0 e

pub not_so : {P : Type 0} (b : Bool) → (IsTrue b → P) × (P → IsTrue b) → b ≡ false → P → ⊥
not_so b tells e p = let no : false ≡ true = sym e ∙ tells.1 p in cc

pub false_answer : {P : Type 0} → (P → ⊥) → (IsTrue false → P) × (P → IsTrue false)
false_answer none = (λ no. cc, λ p. absurd (none p))

pub alike_at : (left right : List EndLeaf) (rights : List (List EndLeaf)) (k : ℕ) (b : Bool) → right ≡ get_or rights k right → k < length rights
    → (IsTrue b → AreAlike left right) × (AreAlike left right → IsTrue b)
    → (IsTrue b → (d : List EndLeaf) → k < length rights → AreAlike left (get_or rights k d)) × (((d : List EndLeaf) → k < length rights → AreAlike left (get_or rights k d)) → IsTrue b)
alike_at left right rights k b is within tells =
    let Q : List EndLeaf → Type 0 = AreAlike left in
    (λ yes d there. subst Q (is ∙ get_or_default rights k right d within) (tells.0 yes), λ all. tells.1 (subst Q (sym is) (all right within)))
