-- Lists of paths that tables are made of, one more at the end.
use Rattle.std.specs.Borrow.{Bor}
use Rattle.std.specs.Option.{IfSome, option_copied}
use Rattle.std.proofs.lemmas.Bool.{ltb-false, ltb-true}
use Rattle.std.specs.Prelude.{slice_get}
use Rattle.std.proofs.lemmas.Option.{slice_get_past, slice_get_read}
use Rattle.std.proofs.Common.{◌≡◌, ℕ, drop, suc, zero, ◌+◌, ◌<◌, ◌≤◌, Bool, true, false, List, [], ◌∷◌, ◌++◌, length, filter, map, take, get_or, Option, Some, None, is_some, if◌then◌else◌, nat_lt, refl, ap, sym, ◌∙◌, arith}
use Rattle.std.proofs.lemmas.List.{append-nil, map-append, take_more, take_all}
use Rattle.mo_scope.specs.declared.instance.Instance.{Instance as InstanceAt}
use Rattle.mo_scope.specs.Frames.{Frame, Indexed}
use Rattle.mo_scope.specs.Instances.{Instance}
use Rattle.mo_scope.specs.Places.{Every}
use Rattle.mo_scope.specs.Trees.{instance_in}
use Rattle.mo_equations.specs.steps.LeafTables.{instances_at, is_leaf, leaves_in, paths_that}

pub one_more : {A : Type 0} (xs : List A) (i : ℕ) (x : A) → i < length xs → x ≡ get_or xs i x → take (i + 1) xs ≡ take i xs ++ x ∷ []
one_more xs i x small is = take_more xs i x small ∙ ap (λ y. take i xs ++ y ∷ []) (sym is)

pub filter_more : {A : Type 0} (test : A → Bool) (xs : List A) (x : A) → filter test (xs ++ x ∷ []) ≡ filter test xs ++ (if test x then x ∷ [] else [])
filter_more test [] x = at (test x) refl
  where
    at : (b : Bool) → test x ≡ b → filter test (x ∷ []) ≡ (if test x then x ∷ [] else [])
    at true is = rw is refl
    at false is = rw is refl
filter_more test (y ∷ ys) x = at (test y) refl (filter_more test ys x)
  where
    at : (b : Bool) → test y ≡ b → filter test (ys ++ x ∷ []) ≡ filter test ys ++ (if test x then x ∷ [] else [])
        → filter test (y ∷ (ys ++ x ∷ [])) ≡ filter test (y ∷ ys) ++ (if test x then x ∷ [] else [])
    at true is more = rw (is, more) refl
    at false is more = rw (is, more) refl

pub every_at : {A : Type 0} (P : A → Type 0) (xs : List A) (i : ℕ) (x : A) → Every P xs → i < length xs → x ≡ get_or xs i x → P x
every_at P [] i x all small is = let h : i < 0 = small in absurd (omega arith)
every_at P (y ∷ ys) zero x all small is = rw is all.0
every_at P (y ∷ ys) (suc i) x all small is = every_at P ys i x all.1 (omega arith) is

-- instances that pass a test, by the ones seen so far
module _ (is : Instance → Bool) (frames : List Frame) where
  abbrev pub seen : List InstanceAt → List Indexed
  seen xs = paths_that is (map (instance_in frames) xs)

  pub passed : (xs : List InstanceAt) (i : ℕ) (x : InstanceAt) (b : Bool) (old new : List Indexed) → i < length xs → x ≡ get_or xs i x → b ≡ is (instance_in frames x) →
      old ≡ seen (take i xs) → new ≡ old ++ (if b then x.path.0 ∷ [] else []) → new ≡ seen (take (i + 1) xs)
  passed xs i x b old new small at test before more =
      more ∙ ap (λ ps. ps ++ (if b then x.path.0 ∷ [] else [])) before
      ∙ ap (λ c. seen (take i xs) ++ (if c then x.path.0 ∷ [] else [])) test
      ∙ sym (ap seen (one_more xs i x small at)
      ∙ ap (λ ys. map (λ instance. instance.path) (filter is ys)) (map-append (instance_in frames) (take i xs) (x ∷ []))
      ∙ ap (map (λ instance. instance.path)) (filter_more is (map (instance_in frames) (take i xs)) (instance_in frames x))
      ∙ map-append (λ instance. instance.path) (filter is (map (instance_in frames) (take i xs))) (if is (instance_in frames x) then instance_in frames x ∷ [] else [])
      ∙ ap (λ ps. seen (take i xs) ++ ps) (last (is (instance_in frames x))))
    where
      last : (c : Bool) → map (λ (instance : Instance). instance.path) (if c then instance_in frames x ∷ [] else []) ≡ (if c then x.path.0 ∷ [] else [])
      last true = refl
      last false = refl

  pub all_passed : (xs : List InstanceAt) (i : ℕ) (old : List Indexed) → length xs ≤ i → old ≡ seen (take i xs) → old ≡ seen xs
  all_passed xs i old above before = before ∙ ap seen (take_all i xs above)

-- ---- the places of the leaves

leaves_more : (xs : List InstanceAt) (i : ℕ) (x : InstanceAt) → i < length xs → x ≡ get_or xs i x → is_leaf x ≡ true → leaves_in (take (i + 1) xs) ≡ leaves_in (take i xs) ++ x ∷ []
leaves_more xs i x small at leaf = ap leaves_in (one_more xs i x small at) ∙ filter_more is_leaf (take i xs) x ∙ rw leaf refl

leaves_same : (xs : List InstanceAt) (i : ℕ) (x : InstanceAt) → i < length xs → x ≡ get_or xs i x → is_leaf x ≡ false → leaves_in (take (i + 1) xs) ≡ leaves_in (take i xs)
leaves_same xs i x small at leaf = ap leaves_in (one_more xs i x small at) ∙ filter_more is_leaf (take i xs) x ∙ (rw leaf refl ∙ append-nil (leaves_in (take i xs)))

found_at : {A : Type 0} (xs : List A) (i : ℕ) (x : A) → i < length xs → x ≡ get_or xs i x → slice_get xs i ≡ Some x
found_at [] i x small at = let h : i < 0 = small in absurd (omega (arith, h))
found_at (y ∷ ys) zero x small at = ap (λ z. Some z) (sym at)
found_at (y ∷ ys) (suc i) x small at = found_at ys i x (omega (arith, small)) at

pub places_more : (xs : List InstanceAt) (i : ℕ) (x : InstanceAt) (places : List ℕ) → i < length xs → x ≡ get_or xs i x → is_leaf x ≡ true →
    instances_at xs places ≡ map (λ instance. Some instance) (leaves_in (take i xs)) → instances_at xs (places ++ i ∷ []) ≡ map (λ instance. Some instance) (leaves_in (take (i + 1) xs))
places_more xs i x places small at leaf before =
    map-append (slice_get xs) places (i ∷ [])
    ∙ ap (λ found. found ++ slice_get xs i ∷ []) before
    ∙ ap (λ one. map (λ instance. Some instance) (leaves_in (take i xs)) ++ one ∷ []) (found_at xs i x small at)
    ∙ sym (ap (map (λ instance. Some instance)) (leaves_more xs i x small at leaf) ∙ map-append (λ instance. Some instance) (leaves_in (take i xs)) (x ∷ []))

pub places_same : (xs : List InstanceAt) (i : ℕ) (x : InstanceAt) (places : List ℕ) → i < length xs → x ≡ get_or xs i x → is_leaf x ≡ false →
    instances_at xs places ≡ map (λ instance. Some instance) (leaves_in (take i xs)) → instances_at xs places ≡ map (λ instance. Some instance) (leaves_in (take (i + 1) xs))
places_same xs i x places small at leaf before = before ∙ ap (map (λ instance. Some instance)) (sym (leaves_same xs i x small at leaf))

pub places_next : (xs : List InstanceAt) (i : ℕ) (x : InstanceAt) (b : Bool) (old new : List ℕ) → i < length xs → x ≡ get_or xs i x → b ≡ is_leaf x → new ≡ (if b then old ++ i ∷ [] else old) →
    instances_at xs old ≡ map (λ instance. Some instance) (leaves_in (take i xs)) → instances_at xs new ≡ map (λ instance. Some instance) (leaves_in (take (i + 1) xs))
places_next xs i x true old new small at leaf is before = ap (instances_at xs) is ∙ places_more xs i x old small at (sym leaf) before
places_next xs i x false old new small at leaf is before = ap (instances_at xs) is ∙ places_same xs i x old small at (sym leaf) before

-- the instance of a variable
pub placed_at : (xs : List InstanceAt) (places : List ℕ) (leaves : List InstanceAt) (k : ℕ) (place : ℕ) → instances_at xs places ≡ map (λ instance. Some instance) leaves → slice_get places k ≡ Some place →
    slice_get xs place ≡ slice_get leaves k
placed_at xs [] leaves k place are at = absurd (no at)
  where
    no : None ≡ Some place → ⊥
    no e = cc
placed_at xs (p ∷ places) [] k place are at = absurd (no are)
  where
    no : slice_get xs p ∷ map (slice_get xs) places ≡ [] → ⊥
    no e = cc
placed_at xs (p ∷ places) (leaf ∷ leaves) zero place are at = ap (slice_get xs) (same place p at) ∙ ap (λ l. get_or l 0 (Some leaf)) are
  where
    same : (a b : ℕ) → Some b ≡ Some a → a ≡ b
    same a b e = cc
placed_at xs (p ∷ places) (leaf ∷ leaves) (suc k) place are at = placed_at xs places leaves k place (ap (drop 1) are) at

pub none_placed : (xs : List InstanceAt) (places : List ℕ) (leaves : List InstanceAt) (k : ℕ) → instances_at xs places ≡ map (λ instance. Some instance) leaves → slice_get places k ≡ None → slice_get leaves k ≡ None
none_placed xs [] [] k are at = refl
none_placed xs [] (leaf ∷ leaves) k are at = absurd (no are)
  where
    no : [] ≡ Some leaf ∷ map (λ instance. Some instance) leaves → ⊥
    no e = cc
none_placed xs (p ∷ places) [] k are at = refl
none_placed xs (p ∷ places) (leaf ∷ leaves) zero are at = absurd (no at)
  where
    no : Some p ≡ None → ⊥
    no e = cc
none_placed xs (p ∷ places) (leaf ∷ leaves) (suc k) are at = none_placed xs places leaves k (ap (drop 1) are) at

-- an element of a slice that was looked up
pub looked_up : {A : Type 0} (xs : List A) (k : ℕ) (o : Option (Bor A)) → IfSome o (λ x. x.now ≡ get_or xs k x.now) → is_some o ≡ nat_lt k (length xs) → option_copied o ≡ slice_get xs k
looked_up xs k None is within = sym (slice_get_past xs k (ltb-false k (length xs) (sym within)))
looked_up xs k (Some x) is within = sym (slice_get_read xs (length xs) k x.now refl (ltb-true k (length xs) (sym within)) is)
