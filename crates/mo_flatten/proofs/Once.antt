-- What is told of a class leaves no choice, where the connects are sound.
use Rattle.std.proofs.Common.{◌≡◌, ℕ, ◌<◌, ◌≤◌, inl, inr, ◌⊎◌, List, Option, Some, None, Ok, Err, sym, ap, ◌∙◌, subst}
use Rattle.std.specs.Prelude.{All}
use Rattle.std.proofs.lemmas.Bool.{cases_lt}
use Rattle.std.proofs.Math.Nat.{eq-or-lt_of_le}
use Rattle.mo_syntax.specs.Outcome.{Outcome}
use Rattle.mo_syntax.specs.declared.class.FileTree.{FileTree}
use Rattle.mo_syntax.specs.declared.place.Broken.{Broken}
use Rattle.mo_syntax.specs.Classes.{ClassRow}
use Rattle.mo_syntax.specs.ClassTable.{class_of_path, broken_class}
use Rattle.mo_flat.specs.declared.connect.Connect.{Connect}
use Rattle.mo_flat.specs.declared.connect.Expanded.{Expanded}
use Rattle.mo_flat.specs.declared.model.FlatModel.{FlatModel}
use Rattle.mo_flat.specs.SoundConnects.{IsAt, IsSoundConnects}
use Rattle.mo_connect.specs.Alike.{Breaks, left_end, right_end, sizes, leaves, IsConnectable, IsFirstBroken}
use Rattle.mo_connect.proofs.JoinLemmas.{is_at_same}
use Rattle.mo_connect.proofs.OneList.{one_list}
use Rattle.mo_flatten.specs.Flat.{no_class, not_expanded, not_connected, joined, Flattens, Joins, expansion_in, model_of, within_size}

-- ---- connects

-- a connect breaks one rule
breaks_one : (c : Connect) (a b : Broken) → Breaks c a → Breaks c b → a ≡ b
breaks_one c a b (left_end n e) (left_end n' e') = e ∙ sym e'
breaks_one c a b (left_end n e) (right_end l n' e') = absurd (l n)
breaks_one c a b (left_end n e) (sizes s d e') = absurd (s.left n)
breaks_one c a b (left_end n e) (leaves s d f e') = absurd (s.left n)
breaks_one c a b (right_end l n e) (left_end n' e') = absurd (l n')
breaks_one c a b (right_end l n e) (right_end l' n' e') = e ∙ sym e'
breaks_one c a b (right_end l n e) (sizes s d e') = absurd (s.right n)
breaks_one c a b (right_end l n e) (leaves s d f e') = absurd (s.right n)
breaks_one c a b (sizes s d e) (left_end n e') = absurd (s.left n)
breaks_one c a b (sizes s d e) (right_end l n e') = absurd (s.right n)
breaks_one c a b (sizes s d e) (sizes s' d' e') = e ∙ sym e'
breaks_one c a b (sizes s d e) (leaves s' d' f e') = absurd (d d')
breaks_one c a b (leaves s d f e) (left_end n e') = absurd (s.left n)
breaks_one c a b (leaves s d f e) (right_end l n e') = absurd (s.right n)
breaks_one c a b (leaves s d f e) (sizes s' d' e') = absurd (d' d)
breaks_one c a b (leaves s d f e) (leaves s' d' f' e') = e ∙ sym e'

-- and one that can be made breaks none
not_both : (c : Connect) (b : Broken) → Breaks c b → IsConnectable c → ⊥
not_both c b (left_end n e) h = h.connectors.left n
not_both c b (right_end l n e) h = h.connectors.right n
not_both c b (sizes s d e) h = d h.sizes
not_both c b (leaves s d f e) h = f h.alike

before : (connects : List Connect) (a b : Broken) (p : IsFirstBroken connects a) (q : IsFirstBroken connects b) → p.at < q.at → ⊥
before connects a b p q less = not_both p.connect a p.breaks (subst IsConnectable p.is (q.before p.at p.connect less))

at_one : (connects : List Connect) (a b : Broken) (p : IsFirstBroken connects a) (q : IsFirstBroken connects b) → p.at ≡ q.at → a ≡ b
at_one connects a b p q e =
    let at_q : IsAt connects q.at p.connect = subst (λ n. IsAt connects n p.connect) e (record { within = p.within; is = p.is }) in
    let same : p.connect ≡ q.connect = is_at_same connects q.at p.connect q.connect at_q (record { within = q.within; is = q.is }) in
    breaks_one q.connect a b (subst (λ c. Breaks c a) same p.breaks) q.breaks

first_one : (connects : List Connect) (a b : Broken) → IsFirstBroken connects a → IsFirstBroken connects b → a ≡ b
first_one connects a b p q = by_order (cases_lt p.at q.at)
  where
    by_rest : (q.at ≡ p.at) ⊎ (q.at < p.at) → a ≡ b
    by_rest (inl e) = at_one connects a b p q (sym e)
    by_rest (inr more) = absurd (before connects b a q p more)

    by_order : (p.at < q.at) ⊎ (q.at ≤ p.at) → a ≡ b
    by_order (inl less) = absurd (before connects a b p q less)
    by_order (inr rest) = by_rest (eq-or-lt_of_le rest)

none_broken : (connects : List Connect) (b : Broken) → All IsConnectable connects → IsFirstBroken connects b → ⊥
none_broken connects b h p = not_both p.connect b p.breaks (subst IsConnectable p.is (h p.at p.connect p.within))

-- ---- all phases

held : {A : Type 0} → A → Option A → A
held a None = a
held a (Some b) = b

value_in : {A : Type 0} → A → Outcome A → A
value_in a (Ok b) = b
value_in a (Err broken) = a

broken_in : {A : Type 0} → Broken → Outcome A → Broken
broken_in broken (Ok a) = broken
broken_in broken (Err other) = other

abbrev good : {A : Type 0} → A → Outcome A
good a = Ok a

abbrev bad : (A : Type 0) → Broken → Outcome A
bad A broken = Err broken

some_one : {A : Type 0} (a b : A) → Some a ≡ Some b → a ≡ b
unfolding held
some_one a b e = ap (held a) e

ok_one : {A : Type 0} (a b : A) → good a ≡ good b → a ≡ b
unfolding value_in
ok_one a b e = ap (value_in a) e

err_one : {A : Type 0} (a b : Broken) → bad A a ≡ bad A b → a ≡ b
unfolding broken_in
err_one a b e = ap (broken_in a) e

ok_or_err : {A B : Type 0} (a : A) (b : Broken) → good a ≡ bad A b → B
ok_or_err {A} a b e = absurd (subst is_ok e tt)
  where
    is_ok : Outcome A → Type 0
    is_ok (Ok a) = Unit {0}
    is_ok (Err b) = ⊥

some_or_none : {A B : Type 0} (a : A) → Some a ≡ None → B
some_or_none {A} a e = absurd (subst is_some e tt)
  where
    is_some : Option A → Type 0
    is_some (Some a) = Unit {0}
    is_some None = ⊥

-- a class that has no flat model is none that has one
not_this : {A : Type 0} (found : Option ClassRow) (row : ClassRow) (b : Broken) → broken_class found ≡ Some b → found ≡ Some row → broken_class (Some row) ≡ None → A
not_this found row b h k n = some_or_none b (sym h ∙ ap broken_class k ∙ n)

module _ (files : List FileTree) (path : List (List ℕ)) where
  -- what the class of the path is expanded to
  one_expansion : (row other : ClassRow) (a b : Outcome Expanded) → class_of_path files path ≡ Some row → class_of_path files path ≡ Some other
      → expansion_in files row.number ≡ a → expansion_in files other.number ≡ b → a ≡ b
  one_expansion row other a b h k x y = sym x ∙ ap (λ r. expansion_in files r.number) (some_one row other (sym h ∙ k)) ∙ y

  one_joining : (e : Expanded) (told other : Outcome FlatModel) → IsSoundConnects e.connects → Joins e told → Joins e other → told ≡ other
  one_joining e told other sound p q =
      p.is ∙ ap (λ sets. within_size (model_of e sets)) (one_list e.connects sound p.sets q.sets p.are q.are) ∙ sym q.is

pub flattens_once : (files : List FileTree) (path : List (List ℕ)) (told other : Outcome FlatModel) →
    ((row : ClassRow) (e : Expanded) → class_of_path files path ≡ Some row → expansion_in files row.number ≡ Ok e → IsSoundConnects e.connects) →
    Flattens files path told → Flattens files path other → told ≡ other
flattens_once files path told other sound (no_class b h e) (no_class b' h' e') = e ∙ ap Err (some_one b b' (sym h ∙ h')) ∙ sym e'
flattens_once files path told other sound (no_class b h e) (not_expanded row b' c n x e') = not_this (class_of_path files path) row b h c n
flattens_once files path told other sound (no_class b h e) (not_connected row m b' c n x f e') = not_this (class_of_path files path) row b h c n
flattens_once files path told other sound (no_class b h e) (joined row m c n x j) = not_this (class_of_path files path) row b h c n
flattens_once files path told other sound (not_expanded row b c n x e) (no_class b' h e') = not_this (class_of_path files path) row b' h c n
flattens_once files path told other sound (not_connected row m b c n x f e) (no_class b' h e') = not_this (class_of_path files path) row b' h c n
flattens_once files path told other sound (joined row m c n x j) (no_class b' h e') = not_this (class_of_path files path) row b' h c n
flattens_once files path told other sound (not_expanded row b c n x e) (not_expanded row' b' c' n' x' e') =
    e ∙ ap Err (err_one {A = Expanded} b b' (one_expansion files path row row' (Err b) (Err b') c c' x x')) ∙ sym e'
flattens_once files path told other sound (not_expanded row b c n x e) (not_connected row' m b' c' n' x' f e') =
    ok_or_err m b (one_expansion files path row' row (Ok m) (Err b) c' c x' x)
flattens_once files path told other sound (not_expanded row b c n x e) (joined row' m c' n' x' j) =
    ok_or_err m b (one_expansion files path row' row (Ok m) (Err b) c' c x' x)
flattens_once files path told other sound (not_connected row m b c n x f e) (not_expanded row' b' c' n' x' e') =
    ok_or_err m b' (one_expansion files path row row' (Ok m) (Err b') c c' x x')
flattens_once files path told other sound (joined row m c n x j) (not_expanded row' b' c' n' x' e') =
    ok_or_err m b' (one_expansion files path row row' (Ok m) (Err b') c c' x x')
flattens_once files path told other sound (not_connected row m b c n x f e) (not_connected row' m' b' c' n' x' f' e') =
    let same : m ≡ m' = ok_one m m' (one_expansion files path row row' (Ok m) (Ok m') c c' x x') in
    e ∙ ap Err (first_one m'.connects.list b b' (subst (λ w. IsFirstBroken w.connects.list b) same f) f') ∙ sym e'
flattens_once files path told other sound (not_connected row m b c n x f e) (joined row' m' c' n' x' j) =
    let same : m ≡ m' = ok_one m m' (one_expansion files path row row' (Ok m) (Ok m') c c' x x') in
    absurd (none_broken m'.connects.list b j.connectable (subst (λ w. IsFirstBroken w.connects.list b) same f))
flattens_once files path told other sound (joined row m c n x j) (not_connected row' m' b' c' n' x' f e') =
    let same : m ≡ m' = ok_one m m' (one_expansion files path row row' (Ok m) (Ok m') c c' x x') in
    absurd (none_broken m.connects.list b' j.connectable (subst (λ w. IsFirstBroken w.connects.list b') (sym same) f))
flattens_once files path told other sound (joined row m c n x j) (joined row' m' c' n' x' j') =
    let same : m ≡ m' = ok_one m m' (one_expansion files path row row' (Ok m) (Ok m') c c' x x') in
    one_joining files path m' told other (sound row' m' c' x') (subst (λ w. Joins w told) same j) j'
