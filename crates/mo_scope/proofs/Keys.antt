-- Tables whose keys are told apart by lists of numbers, and the keys of paths.
use Rattle.std.proofs.Common.{◌≡◌, ℕ, ◌+◌, ◌<◌, Bool, true, false, cond, List, [], ◌∷◌, ◌++◌, map, length, take, get_or, Option, Some, None, refl, ap, sym, ◌∙◌, subst, arith, append_assoc}
use Rattle.std.specs.Prelude.{if◌then◌else◌, unwrap_or}
use Rattle.std.specs.Str.{bytes_eq}
use Rattle.std.specs.HashMap.{HashMap, get_by, UpdatesBy}
use Rattle.std.specs.Map.{lookup, IsKeyTest, AreApart, KeepsOthers}
use Rattle.std.specs.Cmp.Lexicographic.{nat_list_eq_equiv}
use Rattle.std.proofs.lemmas.Slice.Eq.{bytes_eq-Decides}
use Rattle.std.proofs.lemmas.Grind.{flat_map-append}
use Rattle.std.proofs.lemmas.List.{take_more, map-append}
use Rattle.mo_syntax.specs.Classes.{Under}
use Rattle.mo_syntax.specs.ClassTable.{path_eq}
use Rattle.mo_syntax.proofs.Searching.{paths_same, path_eq_same}
use Rattle.mo_scope.specs.declared.row.Part.{Part as PartAt}
use Rattle.mo_scope.specs.Held.{path_key, parts_or_none, placed_by, placed_among}
use Rattle.mo_scope.specs.Rows.{Part, ClassEntry, placed_part}
use Rattle.mo_scope.specs.Sights.{part_seen}

-- ---- tables

others_kept : {K X : Type 0} (eq : K → K → Bool) (test : K → Bool) (old new : List (K × X)) → KeepsOthers eq test old new →
    (other : K → Bool) → IsKeyTest eq other → AreApart test other → lookup other new ≡ lookup other old
unfolding KeepsOthers
others_kept eq test old new h = h

apart : (bs cs ks : List ℕ) → bytes_eq bs cs ≡ false → bytes_eq bs ks ≡ true → bytes_eq cs ks ≡ false
apart bs cs ks n y = nat_list_eq_equiv.symm cs ks ∙ sym (nat_list_eq_equiv.congr bs ks cs y) ∙ n

-- what a table has under each list of numbers after a change under one
pub updates_items : {K X S : Type 0} (items : K → List ℕ) (bs : List ℕ) (m n : HashMap K X S) (w : Option X) → UpdatesBy (λ x y. bytes_eq (items x) (items y)) (λ k. bytes_eq bs (items k)) m n w →
    (cs : List ℕ) → get_by (λ k. bytes_eq cs (items k)) n ≡ cond (bytes_eq bs cs) w (get_by (λ k. bytes_eq cs (items k)) m)
updates_items {K = K} {X = X} {S = S} items bs m n w h cs = by (bytes_eq bs cs) refl
  where
    by : (b : Bool) → bytes_eq bs cs ≡ b → get_by (λ k. bytes_eq cs (items k)) n ≡ cond b w (get_by (λ k. bytes_eq cs (items k)) m)
    by true is = subst (λ (l : List ℕ). get_by (λ k. bytes_eq l (items k)) n ≡ w) ((bytes_eq-Decides bs cs).0 is) h.1
    by false is = others_kept _ (λ k. bytes_eq bs (items k)) m.entries n.entries h.3 (λ k. bytes_eq cs (items k)) (λ x y. nat_list_eq_equiv.congr cs (items x) (items y)) (λ k. apart bs cs (items k) is)

-- ---- keys of paths

append_nil : {A : Type 0} (xs : List A) → xs ++ [] ≡ xs
append_nil [] = refl
append_nil (x ∷ xs) = ap (λ l. x ∷ l) (append_nil xs)

abbrev written : List ℕ → List ℕ
written name = map (λ b. b + 1) name ++ 0 ∷ []

pub path_key_push : (names : List (List ℕ)) (name : List ℕ) → path_key (names ++ name ∷ []) ≡ path_key names ++ (map (λ b. b + 1) name ++ 0 ∷ [])
path_key_push [] name = append_nil (written name)
path_key_push (n ∷ ns) name = ap (λ l. written n ++ l) (path_key_push ns name) ∙ sym (append_assoc (written n) (path_key ns) (written name))

pub path_key_more : {A : Type 0} (seen : A → List ℕ) (path : List A) (i : ℕ) (name : A) (key : List ℕ) → i < length path → name ≡ get_or path i name → key ≡ path_key (map seen (take i path)) →
    key ++ (map (λ b. b + 1) (seen name) ++ 0 ∷ []) ≡ path_key (map seen (take (i + 1) path))
path_key_more seen path i name key inside same before =
    ap (λ k. k ++ written (seen name)) before
    ∙ sym (path_key_push (map seen (take i path)) (seen name))
    ∙ ap path_key (sym (map_push seen (take i path) name))
    ∙ ap (λ n. path_key (map seen (take i path ++ n ∷ []))) same
    ∙ ap (λ p. path_key (map seen p)) (sym (take_more path i name inside))
  where
    map_push : {A : Type 0} (f : A → List ℕ) (xs : List A) (x : A) → map f (xs ++ x ∷ []) ≡ map f xs ++ f x ∷ []
    map_push f [] x = refl
    map_push f (y ∷ xs) x = ap (λ l. f y ∷ l) (map_push f xs x)

one_more : (a b : ℕ) → a + 1 ≡ b + 1 → a ≡ b
one_more a b h = omega arith

not_zero : (a : ℕ) → a + 1 ≡ 0 → ⊥
not_zero a h = absurd (omega arith)

written_same : (a b r s : List ℕ) → written a ++ r ≡ written b ++ s → (a ≡ b) × (r ≡ s)
written_same [] [] r s h = (refl, cc)
written_same [] (y ∷ b) r s h = absurd (not_zero y (sym cc))
written_same (x ∷ a) [] r s h = absurd (not_zero x cc)
written_same (x ∷ a) (y ∷ b) r s h =
    let heads : x + 1 ≡ y + 1 = cc in
    let tails : written a ++ r ≡ written b ++ s = cc in
    let rest : (a ≡ b) × (r ≡ s) = written_same a b r s tails in
    let first : x ≡ y = one_more x y heads in
    let front : a ≡ b = rest.0 in
    (cc, rest.1)

path_key_same : (xs ys : List (List ℕ)) → path_key xs ≡ path_key ys → xs ≡ ys
path_key_same [] [] h = refl
path_key_same [] ([] ∷ ys) h = cc
path_key_same [] ((y ∷ b) ∷ ys) h = cc
path_key_same ([] ∷ xs) [] h = cc
path_key_same ((x ∷ a) ∷ xs) [] h = cc
path_key_same (x ∷ xs) (y ∷ ys) h =
    let parts : (x ≡ y) × (path_key xs ≡ path_key ys) = written_same x y (path_key xs) (path_key ys) h in
    let first : x ≡ y = parts.0 in
    let rest : xs ≡ ys = path_key_same xs ys parts.1 in cc

same_tests : (a b : Bool) → (a ≡ true → b ≡ true) → (b ≡ true → a ≡ true) → a ≡ b
same_tests true true f g = refl
same_tests true false f g = sym (f refl)
same_tests false true f g = g refl
same_tests false false f g = refl

-- paths are told apart by their keys
pub path_key_eq : (xs ys : List (List ℕ)) → bytes_eq (path_key xs) (path_key ys) ≡ path_eq xs ys
path_key_eq xs ys = same_tests _ _
    (λ h. let same : xs ≡ ys = path_key_same xs ys ((bytes_eq-Decides (path_key xs) (path_key ys)).0 h) in ap (λ l. path_eq l ys) same ∙ path_eq_same ys)
    (λ h. (bytes_eq-Decides (path_key xs) (path_key ys)).1 (ap path_key (paths_same xs ys h)))

-- ---- numbers that are held

pub or_zero : (here : Bool) (n : ℕ) (before : Option ℕ) → unwrap_or (cond here (Some n) before) 0 ≡ (if here then n else unwrap_or before 0)
or_zero true n before = refl
or_zero false n before = refl

-- ---- parts that are held

-- a part that is put behind those under a key, which are taken out before
pub group_put : {K S : Type 0} (items : K → List ℕ) (query key : List ℕ) (old middle new : HashMap K (List PartAt) S) (taken : Option (List PartAt)) (group more : List PartAt) (part : PartAt) → query ≡ key →
    taken ≡ get_by (λ k. bytes_eq query (items k)) old → UpdatesBy (λ x y. bytes_eq (items x) (items y)) (λ k. bytes_eq query (items k)) old middle None →
    map part_seen group ≡ parts_or_none taken → more ≡ group ++ part ∷ [] →
    UpdatesBy (λ x y. bytes_eq (items x) (items y)) (λ k. bytes_eq key (items k)) middle new (Some more) → (other : List ℕ) →
    parts_or_none (get_by (λ k. bytes_eq other (items k)) new)
    ≡ (if bytes_eq key other then parts_or_none (get_by (λ k. bytes_eq other (items k)) old) ++ part_seen part ∷ [] else parts_or_none (get_by (λ k. bytes_eq other (items k)) old))
group_put items query key old middle new taken group more part same was removed seen behind inserted other =
    by (bytes_eq key other) refl (updates_items items query old middle None removed other ∙ ap (λ (l : List ℕ). cond (bytes_eq l other) None before) same) (updates_items items key middle new (Some more) inserted other)
  where
    before : Option (List PartAt)
    before = get_by (λ k. bytes_eq other (items k)) old

    by : (b : Bool) → bytes_eq key other ≡ b → get_by (λ k. bytes_eq other (items k)) middle ≡ cond (bytes_eq key other) None before →
        get_by (λ k. bytes_eq other (items k)) new ≡ cond (bytes_eq key other) (Some more) (get_by (λ k. bytes_eq other (items k)) middle) →
        parts_or_none (get_by (λ k. bytes_eq other (items k)) new) ≡ (if b then parts_or_none before ++ part_seen part ∷ [] else parts_or_none before)
    by true is taken_out put_in =
        ap parts_or_none (put_in ∙ ap (λ b. cond b (Some more) (get_by (λ k. bytes_eq other (items k)) middle)) is)
        ∙ ap (map part_seen) behind ∙ map-append part_seen group (part ∷ [])
        ∙ ap (λ l. l ++ part_seen part ∷ []) (seen ∙ ap parts_or_none (was ∙ ap (λ (l : List ℕ). get_by (λ k. bytes_eq l (items k)) old) (same ∙ (bytes_eq-Decides key other).0 is)))
    by false is taken_out put_in =
        ap parts_or_none (put_in ∙ ap (λ b. cond b (Some more) (get_by (λ k. bytes_eq other (items k)) middle)) is ∙ taken_out ∙ ap (λ b. cond b None before) is)

-- ---- one more in a loop

pub front_more : {A B : Type 0} (seen : A → B) (xs : List A) (i : ℕ) (x : A) → i < length xs → x ≡ get_or xs i x → map seen (take (i + 1) xs) ≡ map seen (take i xs) ++ seen x ∷ []
front_more seen xs i x inside same =
    ap (map seen) (take_more xs i x inside) ∙ map-append seen (take i xs) (get_or xs i x ∷ []) ∙ ap (λ y. map seen (take i xs) ++ seen y ∷ []) (sym same)

pub mapped_more : {A B C D : Type 0} (seen : A → B) (f : B → C) (made : D → C) (xs : List A) (i : ℕ) (x : A) (ys zs : List D) (y : D) → i < length xs → x ≡ get_or xs i x →
    map made ys ≡ map f (map seen (take i xs)) → made y ≡ f (seen x) → zs ≡ ys ++ y ∷ [] → map made zs ≡ map f (map seen (take (i + 1) xs))
mapped_more seen f made xs i x ys zs y inside same before here pushed =
    ap (map made) pushed ∙ map-append made ys (y ∷ []) ∙ ap (λ l. l ++ made y ∷ []) before ∙ ap (λ c. map f (map seen (take i xs)) ++ c ∷ []) here
    ∙ sym (ap (map f) (front_more seen xs i x inside same) ∙ map-append f (map seen (take i xs)) (seen x ∷ []))

pub placed_more : {A : Type 0} (seen : A → ClassEntry) (path : List (List ℕ)) (xs : List A) (i : ℕ) (x : A) → i < length xs → x ≡ get_or xs i x →
    map placed_part (placed_among path (map seen (take i xs))) ++ map placed_part (placed_by path (seen x)) ≡ map placed_part (placed_among path (map seen (take (i + 1) xs)))
placed_more seen path xs i x inside same = sym
    (ap (λ l. map placed_part (placed_among path l)) (front_more seen xs i x inside same)
    ∙ ap (map placed_part) (flat_map-append (placed_by path) (map seen (take i xs)) (seen x ∷ []) ∙ ap (λ l. placed_among path (map seen (take i xs)) ++ l) (append_nil (placed_by path (seen x))))
    ∙ map-append placed_part (placed_among path (map seen (take i xs))) (placed_by path (seen x)))

-- a class that is put under the key of the path that its file places it under
pub placed_added : (key : List ℕ) (at path : List (List ℕ)) (entry : ClassEntry) (old : List Part) (part : Part) → key ≡ path_key at → entry.home ≡ Under at → entry.row.outermost ≡ true → part ≡ placed_part entry.row →
    (if bytes_eq key (path_key path) then old ++ part ∷ [] else old) ≡ old ++ map placed_part (placed_by path entry)
placed_added key at path entry old part is home outermost seen =
    ap (λ b. if b then old ++ part ∷ [] else old) (ap (λ (l : List ℕ). bytes_eq l (path_key path)) is ∙ path_key_eq at path) ∙ by (path_eq at path) refl
  where
    by : (b : Bool) → path_eq at path ≡ b → (if b then old ++ part ∷ [] else old) ≡ old ++ map placed_part (placed_by path entry)
    by true same = ap (λ p. old ++ p ∷ []) seen ∙ sym (rw (home, outermost, same) refl)
    by false same = sym (rw (home, outermost, same) (append_nil old))
