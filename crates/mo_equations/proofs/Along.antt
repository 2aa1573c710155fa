-- The sizes along a path, prefix by prefix: in a tree of instances each instance stands behind those around it, and has a path of its own.
use Rattle.std.proofs.Common.{◌≡◌, ◌≢◌, ◌⊎◌, inl, inr, ℕ, zero, suc, ◌+◌, ◌<◌, ◌≤◌, Bool, true, false, ◌&&◌, List, [], ◌∷◌, ◌++◌, filter, flat_map, get_or, length, map, take, Option, Some, None, is_some, option_map, if◌then◌else◌, refl, ap, sym, ◌∙◌, subst, arith}
use Rattle.std.specs.Str.{bytes_eq}
use Rattle.std.proofs.lemmas.Bool.{cases_lt, false≢true}
use Rattle.std.proofs.lemmas.Slice.Eq.{bytes_eq-Decides}
use Rattle.std.proofs.lemmas.Grind.{flat_map-append}
use Rattle.std.proofs.lemmas.List.{append-nil}
use Rattle.mo_syntax.specs.SoundTree.{Naming}
use Rattle.mo_scope.specs.declared.instance.Instance.{Instance as InstanceAt}
use Rattle.mo_scope.specs.Rows.{Table}
use Rattle.mo_scope.specs.Frames.{Frame, Indexed, indexed_eq, numbers_eq}
use Rattle.mo_scope.specs.Instances.{Follow, Instance, IsInstanceTree}
use Rattle.mo_scope.specs.Trees.{instance_in}
use Rattle.mo_equations.specs.Leaves.{behind, is_at_or_around}
use Rattle.mo_equations.specs.steps.Declaring.{dims_at, dims_found}
use Rattle.mo_equations.specs.steps.LeafTables.{prefixes}
use Rattle.mo_equations.specs.steps.Tables.{place_among}
use Rattle.mo_equations.proofs.Around.{every_prefix, next_prefix}
use Rattle.mo_equations.proofs.Numbers.{Among, among_at, place_of}
use Rattle.mo_equations.proofs.Places.{same_paths}

-- ---- what leads to a path

abbrev Leads : Indexed → Indexed → Type 0
Leads p path = is_some (behind p path) ≡ true

step_same : (s t : List ℕ × List ℕ) (p path : Indexed) → is_some (if bytes_eq s.0 t.0 && numbers_eq s.1 t.1 then behind p path else None) ≡ true →
    ((bytes_eq s.0 t.0 && numbers_eq s.1 t.1) ≡ true) × Leads p path
step_same s t p path h = at (bytes_eq s.0 t.0 && numbers_eq s.1 t.1) refl h
  where
    at : (b : Bool) → (bytes_eq s.0 t.0 && numbers_eq s.1 t.1) ≡ b → is_some (if b then behind p path else None) ≡ true → ((bytes_eq s.0 t.0 && numbers_eq s.1 t.1) ≡ true) × Leads p path
    at true is e = (is, e)
    at false is e = absurd (false≢true e)

-- one of the paths that lead to a path is its front of that length
front_of : (p path : Indexed) → Leads p path → p ≡ take (length p) path
front_of [] path h = refl
front_of (s ∷ ss) [] h = absurd (false≢true h)
front_of (s ∷ ss) (t ∷ ts) h =
    let parts = step_same s t ss ts h in
    let one : s ∷ [] ≡ t ∷ [] = same_paths (s ∷ []) (t ∷ []) (rw parts.0 refl) in
    let first : s ≡ t = ap (λ xs. get_or xs 0 s) one in
    ap (λ x. x ∷ ss) first ∙ ap (λ xs. t ∷ xs) (front_of ss ts parts.1)

-- ---- what is made of the prefixes

-- one prefix gives something of its own, and what is shorter gives nothing
hit : (p path : Indexed) (own : List ℕ) (g : Indexed → List ℕ) → Leads p path → ((k : ℕ) → k ≤ length p → g (take k path) ≡ []) →
    flat_map (λ a. if indexed_eq p a then own else g a) (prefixes path) ≡ own ++ flat_map g (prefixes path)
hit [] [] own g h none = ap (λ xs. own ++ xs) (sym (ap (λ xs. xs ++ []) (none 0 (omega arith))))
hit [] (t ∷ ts) own g h none =
    ap (λ xs. own ++ xs) (beyond (prefixes ts) ∙ sym (ap (λ xs. xs ++ flat_map g (map (λ around. t ∷ around) (prefixes ts))) (none 0 (omega arith))))
  where
    beyond : (as_ : List Indexed) → flat_map (λ a. if indexed_eq [] a then own else g a) (map (λ around. t ∷ around) as_) ≡ flat_map g (map (λ around. t ∷ around) as_)
    beyond [] = refl
    beyond (a ∷ as_) = ap (λ xs. g (t ∷ a) ++ xs) (beyond as_)
hit (s ∷ ss) [] own g h none = absurd (false≢true h)
hit (s ∷ ss) (t ∷ ts) own g h none =
    let parts = step_same s t ss ts h in
    ap (λ xs. xs ++ flat_map (λ a. if indexed_eq (s ∷ ss) a then own else g a) (map (λ around. t ∷ around) (prefixes ts))) (none 0 (omega arith))
    ∙ (below parts.0 (prefixes ts)
    ∙ hit ss ts own (λ a. g (t ∷ a)) parts.1 (λ k within. none (suc k) (omega (arith, within)))
    ∙ ap (λ xs. own ++ xs) (sym (mapped (prefixes ts)) ∙ sym (ap (λ xs. xs ++ flat_map g (map (λ around. t ∷ around) (prefixes ts))) (none 0 (omega arith)))))
  where
    mapped : (as_ : List Indexed) → flat_map g (map (λ around. t ∷ around) as_) ≡ flat_map (λ a. g (t ∷ a)) as_
    mapped [] = refl
    mapped (a ∷ as_) = ap (λ xs. g (t ∷ a) ++ xs) (mapped as_)

    below : (bytes_eq s.0 t.0 && numbers_eq s.1 t.1) ≡ true → (as_ : List Indexed) →
        flat_map (λ a. if indexed_eq (s ∷ ss) a then own else g a) (map (λ around. t ∷ around) as_) ≡ flat_map (λ a. if indexed_eq ss a then own else g (t ∷ a)) as_
    below same [] = refl
    below same (a ∷ as_) = rw (same, below same as_) refl

-- a path that does not lead there is none of the prefixes
missed : (p path : Indexed) (own : List ℕ) (g : Indexed → List ℕ) → is_some (behind p path) ≡ false →
    flat_map (λ a. if indexed_eq p a then own else g a) (prefixes path) ≡ flat_map g (prefixes path)
missed [] path own g h = absurd (false≢true (sym h))
missed (s ∷ ss) [] own g h = refl
missed (s ∷ ss) (t ∷ ts) own g h = ap (λ xs. g [] ++ xs) (at (missed ss ts own (λ a. g (t ∷ a))) (bytes_eq s.0 t.0 && numbers_eq s.1 t.1) refl h)
  where
    mapped : (as_ : List Indexed) → flat_map g (map (λ around. t ∷ around) as_) ≡ flat_map (λ a. g (t ∷ a)) as_
    mapped [] = refl
    mapped (a ∷ as_) = ap (λ xs. g (t ∷ a) ++ xs) (mapped as_)

    alike : (bytes_eq s.0 t.0 && numbers_eq s.1 t.1) ≡ true → (as_ : List Indexed) →
        flat_map (λ a. if indexed_eq (s ∷ ss) a then own else g a) (map (λ around. t ∷ around) as_) ≡ flat_map (λ a. if indexed_eq ss a then own else g (t ∷ a)) as_
    alike same [] = refl
    alike same (a ∷ as_) = rw (same, alike same as_) refl

    apart : (bytes_eq s.0 t.0 && numbers_eq s.1 t.1) ≡ false → (as_ : List Indexed) →
        flat_map (λ a. if indexed_eq (s ∷ ss) a then own else g a) (map (λ around. t ∷ around) as_) ≡ flat_map g (map (λ around. t ∷ around) as_)
    apart differ [] = refl
    apart differ (a ∷ as_) = rw (differ, apart differ as_) refl

    at : (is_some (behind ss ts) ≡ false → flat_map (λ a. if indexed_eq ss a then own else g (t ∷ a)) (prefixes ts) ≡ flat_map (λ a. g (t ∷ a)) (prefixes ts)) →
        (b : Bool) → (bytes_eq s.0 t.0 && numbers_eq s.1 t.1) ≡ b → is_some (if b then behind ss ts else None) ≡ false →
        flat_map (λ a. if indexed_eq (s ∷ ss) a then own else g a) (map (λ around. t ∷ around) (prefixes ts)) ≡ flat_map g (map (λ around. t ∷ around) (prefixes ts))
    at below true is e = alike is (prefixes ts) ∙ below e ∙ sym (mapped (prefixes ts))
    at below false is e = apart is (prefixes ts)

-- ---- the dimensions at a path

-- of the first instance there
abbrev pub dims_of : List Instance → Indexed → List ℕ
dims_of [] path = []
dims_of (x ∷ xs) path = if indexed_eq x.path path then x.dims else dims_of xs path

-- those that lead to a path stand by their lengths
abbrev Chain : Indexed → List Instance → Type 0
Chain path [] = Unit {0}
Chain path (x ∷ xs) = ((y : Instance) → Among xs y → Leads x.path path → Leads y.path path → length x.path < length y.path) × Chain path xs

leads_front : (k : ℕ) (path : Indexed) → Leads (take k path) path
leads_front zero path = refl
leads_front (suc k) [] = refl
leads_front (suc k) (t ∷ ts) = rw (itself t.0, itself t.1) (leads_front k ts)
  where
    itself : (n : List ℕ) → bytes_eq n n ≡ true
    itself n = (bytes_eq-Decides n n).1 refl

take_length : {A : Type 0} (k : ℕ) (xs : List A) → length (take k xs) ≤ k
take_length zero xs = omega arith
take_length (suc k) [] = omega arith
take_length (suc k) (x ∷ xs) = let rest = take_length k xs in omega (arith, rest)

-- nothing is at a path where no instance is
nothing_at : (xs : List Instance) (path : Indexed) → ((y : Instance) → Among xs y → y.path ≡ path → ⊥) → dims_of xs path ≡ []
nothing_at [] path h = refl
nothing_at (x ∷ xs) path h = at (nothing_at xs path (λ y a e. h y (inr a) e)) (indexed_eq x.path path) refl
  where
    at : dims_of xs path ≡ [] → (b : Bool) → indexed_eq x.path path ≡ b → dims_of (x ∷ xs) path ≡ []
    at rest true is = absurd (h x (inl refl) (same_paths x.path path is))
    at rest false is = rw is rest

pub along : (path : Indexed) (xs : List Instance) → Chain path xs → flat_map (dims_of xs) (prefixes path) ≡ flat_map (λ instance. instance.dims) (filter (is_at_or_around path) xs)
along path [] chain = none (prefixes path)
  where
    none : (as_ : List Indexed) → flat_map (dims_of []) as_ ≡ []
    none [] = refl
    none (a ∷ as_) = none as_
along path (x ∷ xs) chain = at (along path xs chain.1) (is_some (behind x.path path)) refl
  where
    at : flat_map (dims_of xs) (prefixes path) ≡ flat_map (λ instance. instance.dims) (filter (is_at_or_around path) xs) → (b : Bool) → is_some (behind x.path path) ≡ b → flat_map (dims_of (x ∷ xs)) (prefixes path) ≡ flat_map (λ instance. instance.dims) (filter (is_at_or_around path) (x ∷ xs))
    at rest true is =
        hit x.path path x.dims (dims_of xs) is (λ k within. nothing_at xs (take k path) (λ y a e.
        let less : length x.path < length y.path = chain.0 y a is (subst (λ p. Leads p path) (sym e) (leads_front k path)) in
        let same : length y.path ≡ length (take k path) = ap length e in
        let few : length (take k path) ≤ k = take_length k path in
        absurd (omega (arith, less, same, few, within))))
        ∙ rw is (ap (λ ds. x.dims ++ ds) rest)
    at rest false is = missed x.path path x.dims (dims_of xs) is ∙ rw is rest

-- ---- trees

-- all that is around an instance is there
abbrev Closed : List Instance → Type 0
Closed xs = (x : Instance) → Among xs x → (k : ℕ) → k ≤ length x.path → (z : Instance) × Among xs z × (z.path ≡ take k x.path)

among_front : (xs ys : List Instance) (i : Instance) → Among xs i → Among (xs ++ ys) i
among_front [] ys i a = absurd a
among_front (z ∷ zs) ys i (inl e) = inl e
among_front (z ∷ zs) ys i (inr c) = inr (among_front zs ys i c)

among_last : (xs : List Instance) (x : Instance) → Among (xs ++ x ∷ []) x
among_last [] x = inl refl
among_last (y ∷ ys) x = inr (among_last ys x)

among_either : (xs : List Instance) (x y : Instance) → Among (xs ++ x ∷ []) y → Among xs y ⊎ (x ≡ y)
among_either [] x y (inl e) = inr e
among_either [] x y (inr a) = absurd a
among_either (z ∷ zs) x y (inl e) = inl (inl e)
among_either (z ∷ zs) x y (inr a) = later (among_either zs x y a)
  where
    later : Among zs y ⊎ (x ≡ y) → Among (z ∷ zs) y ⊎ (x ≡ y)
    later (inl b) = inl (inr b)
    later (inr e) = inr e

take_front : {A : Type 0} (k : ℕ) (xs ys : List A) → k ≤ length xs → take k (xs ++ ys) ≡ take k xs
take_front zero xs ys within = refl
take_front (suc k) [] ys within = let h : suc k ≤ 0 = within in absurd (omega (arith, h))
take_front (suc k) (x ∷ xs) ys within = ap (λ zs. x ∷ zs) (take_front k xs ys (omega (arith, within)))

take_whole : {A : Type 0} (k : ℕ) (xs : List A) → length xs ≤ k → take k xs ≡ xs
take_whole zero [] within = refl
take_whole zero (x ∷ xs) within = let h : suc (length xs) ≤ 0 = within in absurd (omega (arith, h))
take_whole (suc k) [] within = refl
take_whole (suc k) (x ∷ xs) within = ap (λ zs. x ∷ zs) (take_whole k xs (omega (arith, within)))

length_more : {A : Type 0} (xs : List A) (x : A) → length (xs ++ x ∷ []) ≡ suc (length xs)
length_more [] x = refl
length_more (y ∷ ys) x = ap suc (length_more ys x)

-- one instance more
closed_more : (naming : Naming) (table : Table) (before : List Instance) (y : Instance) → Closed before → Follow naming table before (y ∷ []) → Closed (before ++ y ∷ [])
closed_more naming table before y closed follow x a k within = at (among_either before y x a)
  where
    old : (w : Instance) → Among before w → (n : ℕ) → n ≤ length w.path → (p : Indexed) → take n w.path ≡ p → (z : Instance) × Among (before ++ y ∷ []) z × (z.path ≡ p)
    old w b n small p e = let (z, c, is) = closed w b n small in (z, among_front before (y ∷ []) z c, is ∙ e)

    here : y ≡ x → (cases : (k ≤ length follow.0.below.parent) ⊎ (suc (length follow.0.below.parent) ≤ k)) → (z : Instance) × Among (before ++ y ∷ []) z × (z.path ≡ take k x.path)
    here e (inl short) =
        let stands = follow.0.below.stands in
        let parent = stands.1 in
        let there : Among before parent = among_at before stands.0 parent (record { within = stands.2; is = stands.3 }) in
        let is : parent.path ≡ follow.0.below.parent = stands.4 in
        old parent there k (subst (λ p. k ≤ length p) (sym is) short) (take k x.path)
        (ap (take k) is
        ∙ sym (ap (take k) (ap (λ i. i.path) (sym e) ∙ follow.0.below.splits) ∙ take_front k follow.0.below.parent ((follow.0.below.name, follow.0.below.index) ∷ []) short))
    here e (inr long) = (
      y,
      among_last before y,
      ap (λ i. i.path) e ∙ sym (take_whole k x.path
          (subst (λ n. n ≤ k) (sym (ap length (ap (λ i. i.path) (sym e) ∙ follow.0.below.splits) ∙ length_more follow.0.below.parent (follow.0.below.name, follow.0.below.index))) long)),
    )

    at : Among before x ⊎ (y ≡ x) → (z : Instance) × Among (before ++ y ∷ []) z × (z.path ≡ take k x.path)
    at (inl b) = old x b k within (take k x.path) refl
    at (inr e) = here e (cases_le k (length follow.0.below.parent))
      where
        cases_le : (m n : ℕ) → (m ≤ n) ⊎ (suc n ≤ m)
        cases_le m n = turned (cases_lt n m)
          where
            turned : (n < m) ⊎ (m ≤ n) → (m ≤ n) ⊎ (suc n ≤ m)
            turned (inl less) = inr (omega (arith, less))
            turned (inr small) = inl small

-- what follows is longer, of what leads to one path
longer : (naming : Naming) (table : Table) (path : Indexed) (before others : List Instance) → Closed before → Follow naming table before others →
    (x y : Instance) → Among before x → Among others y → Leads x.path path → Leads y.path path → length x.path < length y.path
longer naming table path before [] closed follow x y a b p q = absurd b
longer naming table path before (first ∷ rest) closed follow x y a (inr b) p q =
    longer naming table path (before ++ first ∷ []) rest (closed_more naming table before first closed (follow.0, tt)) follow.1 x y (among_front before (first ∷ []) x a) b p q
longer naming table path before (first ∷ rest) closed follow x y a (inl e) p q = at (cases_lt (length x.path) (length y.path))
  where
    again : length y.path ≤ length x.path → ⊥
    again small =
        let (z, c, is) = closed x a (length y.path) small in
        let (k, place) = place_of before z c in
        let differs : z.path ≢ first.path = subst (λ i. i.path ≢ first.path) place.is (follow.0.new k z place.within) in
        let one : y.path ≡ take (length y.path) path = front_of y.path path q in
        let other : x.path ≡ take (length x.path) path = front_of x.path path p in
        differs (is ∙ ap (take (length y.path)) other ∙ take_twice (length y.path) (length x.path) path small ∙ sym one ∙ sym (ap (λ i. i.path) e))
      where
        take_twice : {A : Type 0} (m n : ℕ) (xs : List A) → m ≤ n → take m (take n xs) ≡ take m xs
        take_twice zero n xs within = refl
        take_twice (suc m) zero xs within = let h : suc m ≤ 0 = within in absurd (omega (arith, h))
        take_twice (suc m) (suc n) [] within = refl
        take_twice (suc m) (suc n) (w ∷ ws) within = ap (λ zs. w ∷ zs) (take_twice m n ws (omega (arith, within)))

    at : (length x.path < length y.path) ⊎ (length y.path ≤ length x.path) → length x.path < length y.path
    at (inl less) = less
    at (inr small) = absurd (again small)

chain_of : (naming : Naming) (table : Table) (path : Indexed) (before others : List Instance) → Closed before → Follow naming table before others → Chain path others
chain_of naming table path before [] closed follow = tt
chain_of naming table path before (first ∷ rest) closed follow =
    let more = closed_more naming table before first closed (follow.0, tt) in (
      λ y a p q. longer naming table path (before ++ first ∷ []) rest more follow.1 first y (among_last before first) a p q,
      chain_of naming table path (before ++ first ∷ []) rest more follow.1,
    )

pub tree_chain : (naming : Naming) (table : Table) (path : Indexed) (instances : List Instance) → IsInstanceTree naming table instances → Chain path instances
tree_chain naming table path instances (IsInstanceTree.tree {root} {others} is follow) =
    (λ y a p q. longer naming table path (root ∷ []) others closed follow root y (inl refl) a p q, chain_of naming table path (root ∷ []) others closed follow)
  where
    closed : Closed (root ∷ [])
    closed x (inr a) k within = absurd a
    closed x (inl e) k within = (root, inl refl, at k)
      where
        empty : x.path ≡ []
        empty = ap (λ i. i.path) (sym e) ∙ is.path

        at : (n : ℕ) → root.path ≡ take n x.path
        at n = is.path ∙ sym (ap (take n) empty ∙ nothing n)
          where
            nothing : (m : ℕ) → ◌≡◌ {A = Indexed} (take m []) []
            nothing zero = refl
            nothing (suc m) = refl

-- ---- as the tables hold them

-- by the place of a path
pub dims_by_place : (frames : List Frame) (xs : List InstanceAt) (path : Indexed) →
    dims_found xs (place_among (map (λ instance. instance.path.0) xs) path) ≡ dims_of (map (instance_in frames) xs) path
dims_by_place frames [] path = refl
dims_by_place frames (x ∷ xs) path = at (indexed_eq x.path.0 path) (place_among (map (λ instance. instance.path.0) xs) path) (dims_by_place frames xs path)
  where
    later : (k : ℕ) → dims_at (x ∷ xs) (k + 1) ≡ dims_at xs k
    later k = ap (dims_at (x ∷ xs)) (one k)
      where
        one : (n : ℕ) → n + 1 ≡ suc n
        one n = omega arith

    at : (b : Bool) (found : Option ℕ) → dims_found xs found ≡ dims_of (map (instance_in frames) xs) path →
        dims_found (x ∷ xs) (if b then Some 0 else option_map (λ k. k + 1) found) ≡ (if b then x.dims else dims_of (map (instance_in frames) xs) path)
    at true found h = refl
    at false None h = h
    at false (Some k) h = later k ∙ h

-- one prefix more
pub sizes_more : (sizes : Indexed → List ℕ) (path : Indexed) (k : ℕ) (old new : List ℕ) → k ≤ length path → old ≡ flat_map sizes (take k (prefixes path)) → new ≡ old ++ sizes (take k path) →
    new ≡ flat_map sizes (take (k + 1) (prefixes path))
sizes_more sizes path k old new within is more =
    more ∙ ap (λ xs. xs ++ sizes (take k path)) is
    ∙ sym (ap (λ n. flat_map sizes (take n (prefixes path))) (plus_one k) ∙ ap (flat_map sizes) (next_prefix path k within) ∙ flat_map-append sizes (take k (prefixes path)) (take k path ∷ [])
    ∙ ap (λ xs. flat_map sizes (take k (prefixes path)) ++ xs) (append-nil (sizes (take k path))))
  where
    plus_one : (n : ℕ) → n + 1 ≡ suc n
    plus_one n = omega arith

-- all of them
pub sizes_all : (frames : List Frame) (naming : Naming) (table : Table) (xs : List InstanceAt) (paths : List Indexed) (path : Indexed) (k : ℕ) (sizes : List ℕ) → length path + 1 ≤ k →
    IsInstanceTree naming table (map (instance_in frames) xs) → paths ≡ map (λ instance. instance.path.0) xs → sizes ≡ flat_map (λ around. dims_found xs (place_among paths around)) (take k (prefixes path)) →
    sizes ≡ flat_map (λ instance. instance.dims) (filter (is_at_or_around path) (map (instance_in frames) xs))
sizes_all frames naming table xs paths path k sizes above stands are is =
    is ∙ ap (λ ps. flat_map (λ around. dims_found xs (place_among ps around)) (take k (prefixes path))) are
    ∙ ap (flat_map (λ around. dims_found xs (place_among (map (λ instance. instance.path.0) xs) around))) (every_prefix path k above)
    ∙ flat_same (prefixes path)
    ∙ along path (map (instance_in frames) xs) (tree_chain naming table path (map (instance_in frames) xs) stands)
  where
    flat_same : (as_ : List Indexed) → flat_map (λ around. dims_found xs (place_among (map (λ instance. instance.path.0) xs) around)) as_ ≡ flat_map (dims_of (map (instance_in frames) xs)) as_
    flat_same [] = refl
    flat_same (a ∷ as_) = rw (dims_by_place frames xs a, flat_same as_) refl
