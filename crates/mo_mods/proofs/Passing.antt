-- The second pass over arguments in two runs.
use Rattle.std.proofs.Common.{◌≡◌, ℕ, zero, suc, ◌+◌, ◌<◌, Bool, true, false, List, [], ◌∷◌, ◌++◌, length, map, take, drop, get_or, Option, Some, None, if◌then◌else◌, refl, sym, ap, ◌∙◌, subst, append-nil, append_assoc, arith}
use Rattle.std.specs.Prelude.{◌&&◌, ◌||◌, not, nat_eq, slice_get, unwrap_or}
use Rattle.std.specs.List.{list_any}
use Rattle.std.specs.Cmp.{nat_eq_equiv}
use Rattle.std.specs.Str.{bytes_eq}
use Rattle.std.proofs.lemmas.Grind.{flat_map-append}
use Rattle.std.proofs.lemmas.List.{drop_more, take_more, map-append, length-map, take-map, get_or-map}
use Rattle.std.proofs.lemmas.List.Folds.{list_any-append}
use Rattle.mo_syntax.specs.Outcome.{breach}
use Rattle.mo_syntax.specs.declared.place.Broken.{Broken}
use Rattle.mo_syntax.specs.declared.place.Place.{Place}
use Rattle.mo_syntax.specs.ClassTable.{path_eq, otherwise}
use Rattle.mo_syntax.proofs.Searching.{path_eq_same}
use Rattle.mo_scope.specs.Frames.{Listing, listing_eq}
use Rattle.mo_scope.specs.Rows.{place_eq}
use Rattle.mo_scope.specs.Arguments.{Asked, Claim, is_repeated, is_among, is_front, is_below_final, broken_claims, broken_argument, least, or_later, first_broken}
use Rattle.mo_scope.specs.Held.{path_key}
use Rattle.mo_mods.specs.declared.paths.ByPath.{ByPath}
use Rattle.mo_mods.specs.PathSights.{HasPaths, lists_held}
use Rattle.mo_mods.proofs.PathTests.{has_more, has_swapped}
use Rattle.mo_mods.specs.Passes.{Listed_path, paths_of, all_paths, finals_of, all_finals, is_path_of, or_first, first_repeated, all_repeated, first_below, least_broken}
use Rattle.mo_syntax.specs.declared.rules.TheConstants.{MODIFIED_TWICE, FINAL_MODIFIED, WRONG_EACH}

-- ---- tests of lists

-- what holds in any case holds of one if there is one
any_and : {A : Type 0} (p : A → Bool) (t : Bool) (xs : List A) → list_any (λ x. p x && t) xs ≡ (t && list_any p xs)
any_and p true [] = refl
any_and p false [] = refl
any_and p true (x ∷ xs) = and_true (p x) (any_and p true xs)
  where
    and_true : (b : Bool) {r s : Bool} → r ≡ s → (b && true || r) ≡ (b || s)
    and_true true same = refl
    and_true false same = same
any_and p false (x ∷ xs) = and_false (p x) (any_and p false xs)
  where
    and_false : (b : Bool) {r : Bool} → r ≡ false → (b && false || r) ≡ false
    and_false true same = same
    and_false false same = same

any_none : {A : Type 0} (xs : List A) → list_any (λ x. false) xs ≡ false
any_none [] = refl
any_none (x ∷ xs) = any_none xs

four : (a b r s : Bool) → ((a || b) || (r || s)) ≡ ((a || r) || (b || s))
four true b r s = refl
four false true true s = refl
four false true false s = refl
four false false r s = refl

any_or : {A : Type 0} (p q : A → Bool) (xs : List A) → list_any (λ x. p x || q x) xs ≡ (list_any p xs || list_any q xs)
any_or p q [] = refl
any_or p q (x ∷ xs) = ap (λ b. (p x || q x) || b) (any_or p q xs) ∙ four (p x) (q x) (list_any p xs) (list_any q xs)

any_swap : {A B : Type 0} (h : A → B → Bool) (xs : List A) (ys : List B) → list_any (λ x. list_any (h x) ys) xs ≡ list_any (λ y. list_any (λ x. h x y) xs) ys
any_swap h xs [] = any_none xs
any_swap h xs (y ∷ ys) = any_or (λ x. h x y) (λ x. list_any (h x) ys) xs ∙ ap (λ b. list_any (λ x. h x y) xs || b) (any_swap h xs ys)

any_same : {A : Type 0} (p q : A → Bool) → ((x : A) → p x ≡ q x) → (xs : List A) → list_any p xs ≡ list_any q xs
any_same p q same [] = refl
any_same p q same (x ∷ xs) = ap (λ b. b || list_any p xs) (same x) ∙ ap (λ b. q x || b) (any_same p q same xs)

any_map : {A B : Type 0} (p : B → Bool) (f : A → B) (xs : List A) → list_any p (map f xs) ≡ list_any (λ x. p (f x)) xs
any_map p f [] = refl
any_map p f (x ∷ xs) = ap (λ b. p (f x) || b) (any_map p f xs)

-- ---- the fronts of a path

abbrev pub fronts : List (List ℕ) → List (List (List ℕ))
fronts [] = [] ∷ []
fronts (name ∷ names) = [] ∷ map (λ front. name ∷ front) (fronts names)

pub fronts_more : (path : List (List ℕ)) (name : List ℕ) → fronts (path ++ name ∷ []) ≡ fronts path ++ (path ++ name ∷ []) ∷ []
fronts_more [] name = refl
fronts_more (first ∷ path) name =
    ap (λ xs. [] ∷ map (λ front. first ∷ front) xs) (fronts_more path name)
    ∙ ap (λ xs. [] ∷ xs) (map-append (λ front. first ∷ front) (fronts path) ((path ++ name ∷ []) ∷ []))

front_is : (front path : List (List ℕ)) → list_any (path_eq front) (fronts path) ≡ is_front front path
front_is [] [] = refl
front_is [] (name ∷ names) = refl
front_is (name ∷ names) [] = refl
front_is (name ∷ names) (other ∷ others) =
    any_map (path_eq (name ∷ names)) (λ front. other ∷ front) (fronts others)
    ∙ by (bytes_eq name other) (front_is names others)
  where
    by : (b : Bool) → list_any (path_eq names) (fronts others) ≡ is_front names others → list_any (λ front. b && path_eq names front) (fronts others) ≡ (b && is_front names others)
    by true rest = rest
    by false rest = any_none (fronts others)

-- ---- repeated paths

place_same : (place : Place) → place_eq place place ≡ true
place_same place = by place.file place.byte
  where
    same : (n : ℕ) → nat_eq n n ≡ true
    same n = nat_eq_equiv.refl n

    by : (file byte : ℕ) → (nat_eq file file && nat_eq byte byte) ≡ true
    by file byte = ap (λ b. b && nat_eq byte byte) (same file) ∙ same byte

listing_same : (listing : Listing) → listing_eq listing listing ≡ true
listing_same listing = ap (λ b. b && path_eq listing.passed listing.passed) (place_same listing.place) ∙ path_eq_same listing.passed

of_list : (listing own : Listing) (path : List (List ℕ)) (claims : List Claim) →
    is_path_of (λ other. listing_eq other listing) path (paths_of own claims) ≡ (listing_eq own listing && list_any (λ other. path_eq other.path path) claims)
of_list listing own path claims =
    any_map (λ one. path_eq one.1 path && listing_eq one.0 listing) (λ one. (own, one.path)) claims
    ∙ any_and (λ other. path_eq other.path path) (listing_eq own listing) claims

repeated_is : (before : List Asked) (listing : Listing) (one : Claim) → is_path_of (λ other. listing_eq other listing) one.path (all_paths before) ≡ is_repeated before listing one
repeated_is [] listing one = refl
repeated_is (asked ∷ before) listing one =
    list_any-append (λ other. path_eq other.1 one.path && listing_eq other.0 listing) (paths_of asked.listing asked.claims) (all_paths before)
    ∙ ap (λ b. b || is_path_of (λ other. listing_eq other listing) one.path (all_paths before)) (of_list listing asked.listing one.path asked.claims)
    ∙ ap (λ b. listing_eq asked.listing listing && list_any (λ other. path_eq other.path one.path) asked.claims || b) (repeated_is before listing one)

pub repeated_or_among : (before : List Asked) (listing : Listing) (passed : List Claim) (one : Claim) →
    is_path_of (λ other. listing_eq other listing) one.path (all_paths before ++ paths_of listing passed) ≡ (is_repeated before listing one || is_among passed one)
repeated_or_among before listing passed one =
    list_any-append (λ other. path_eq other.1 one.path && listing_eq other.0 listing) (all_paths before) (paths_of listing passed)
    ∙ ap (λ b. b || is_path_of (λ other. listing_eq other listing) one.path (paths_of listing passed)) (repeated_is before listing one)
    ∙ ap (λ b. is_repeated before listing one || b) (of_list listing listing one.path passed ∙ ap (λ b. b && is_among passed one) (listing_same listing))

pub all_paths_more : (before : List Asked) (one : Asked) → all_paths (before ++ one ∷ []) ≡ all_paths before ++ paths_of one.listing one.claims
all_paths_more before one =
    flat_map-append (λ (asked : Asked). paths_of asked.listing asked.claims) before (one ∷ []) ∙ ap (λ xs. all_paths before ++ xs) (append-nil (paths_of one.listing one.claims))

pub paths_more : (before : List Asked) (listing : Listing) (passed : List Claim) (one : Claim) →
    (all_paths before ++ paths_of listing passed) ++ (listing, one.path) ∷ [] ≡ all_paths before ++ paths_of listing (passed ++ one ∷ [])
paths_more before listing passed one =
    append_assoc (all_paths before) (paths_of listing passed) ((listing, one.path) ∷ [])
    ∙ ap (λ xs. all_paths before ++ xs) (sym (map-append (λ (claim : Claim). (listing, claim.path)) passed (one ∷ [])))

-- one more path of an argument
pub repeated_more : (before : List Asked) (listing : Listing) (passed rest : List Claim) (one : Claim) (found : Option Place) (is : Bool) (all : Option Place) →
    is ≡ (is_repeated before listing one || is_among passed one) → otherwise found (first_repeated before listing passed (one ∷ rest)) ≡ all →
    otherwise (or_first found is one.place) (first_repeated before listing (passed ++ one ∷ []) rest) ≡ all
repeated_more before listing passed rest one (Some place) is all test before_is = before_is
repeated_more before listing passed rest one None is all test before_is =
    by is ∙ ap (λ b. if b then Some one.place else first_repeated before listing (passed ++ one ∷ []) rest) test ∙ before_is
  where
    by : (b : Bool) → otherwise (if b then Some one.place else None) (first_repeated before listing (passed ++ one ∷ []) rest) ≡ (if b then Some one.place else first_repeated before listing (passed ++ one ∷ []) rest)
    by true = refl
    by false = refl

pub otherwise_none : (found : Option Place) → otherwise found None ≡ found
otherwise_none (Some place) = refl
otherwise_none None = refl

-- the argument with so many before it
pub repeated_there : (before asked : List Asked) (i : ℕ) (one : Asked) → i < length asked → one ≡ get_or asked i one →
    slice_get (all_repeated before asked) i ≡ Some (first_repeated (before ++ take i asked) one.listing [] one.claims)
repeated_there before [] i one below at = absurd (omega arith)
repeated_there before (first ∷ asked) zero one below at =
    ap (λ xs. Some (first_repeated xs first.listing [] first.claims)) (sym (append-nil before))
    ∙ ap (λ (x : Asked). Some (first_repeated (before ++ []) x.listing [] x.claims)) (sym at)
repeated_there before (first ∷ asked) (suc i) one below at =
    repeated_there (before ++ first ∷ []) asked i one (omega arith) at
    ∙ ap (λ xs. Some (first_repeated xs one.listing [] one.claims)) (append_assoc before (first ∷ []) (take i asked))

-- ---- paths below final ones

final_list : (listing own : Listing) (path : List (List ℕ)) (claims : List Claim) →
    list_any (λ one. is_front one.1 path && not (listing_eq one.0 listing)) (finals_of own claims) ≡ (not (listing_eq own listing) && list_any (λ other. other.last && is_front other.path path) claims)
final_list listing own path claims = by (not (listing_eq own listing)) refl claims
  where
    none : (t : Bool) → false ≡ (t && false)
    none true = refl
    none false = refl

    last_one : (last f t r s : Bool) → r ≡ (t && s) → (if last then (f && t || r) else r) ≡ (t && (last && f || s))
    last_one true true true r s is = refl
    last_one true true false r s is = is
    last_one true false true r s is = is
    last_one true false false r s is = is
    last_one false f true r s is = is
    last_one false f false r s is = is

    if_final : (last : Bool) (x : Listed_path) (xs : List Listed_path) (p : Listed_path → Bool) → list_any p ((if last then x ∷ [] else []) ++ xs) ≡ (if last then (p x || list_any p xs) else list_any p xs)
    if_final true x xs p = refl
    if_final false x xs p = refl

    by : (t : Bool) → not (listing_eq own listing) ≡ t → (claims : List Claim) →
        list_any (λ one. is_front one.1 path && not (listing_eq one.0 listing)) (finals_of own claims) ≡ (not (listing_eq own listing) && list_any (λ other. other.last && is_front other.path path) claims)
    by t is [] = none (not (listing_eq own listing))
    by t is (one ∷ claims) =
        if_final one.last (own, one.path) (finals_of own claims) (λ other. is_front other.1 path && not (listing_eq other.0 listing))
        ∙ last_one one.last (is_front one.path path) (not (listing_eq own listing)) _ _ (by t is claims)

below_is : (after : List Asked) (listing : Listing) (one : Claim) →
    list_any (λ final. is_front final.1 one.path && not (listing_eq final.0 listing)) (all_finals after) ≡ is_below_final after listing one
below_is [] listing one = refl
below_is (asked ∷ after) listing one =
    list_any-append (λ final. is_front final.1 one.path && not (listing_eq final.0 listing)) (finals_of asked.listing asked.claims) (all_finals after)
    ∙ ap (λ b. b || list_any (λ final. is_front final.1 one.path && not (listing_eq final.0 listing)) (all_finals after)) (final_list listing asked.listing one.path asked.claims)
    ∙ ap (λ b. not (listing_eq asked.listing listing) && list_any (λ other. other.last && is_front other.path one.path) asked.claims || b) (below_is after listing one)

-- a final path of another list stands at a front of the path
pub below_fronts : (after : List Asked) (listing : Listing) (one : Claim) →
    list_any (λ front. is_path_of (λ other. not (listing_eq other listing)) front (all_finals after)) (fronts one.path) ≡ is_below_final after listing one
below_fronts after listing one =
    any_swap (λ front final. path_eq final.1 front && not (listing_eq final.0 listing)) (fronts one.path) (all_finals after)
    ∙ any_same _ _ (λ (final : Listed_path).
    any_and (path_eq final.1) (not (listing_eq final.0 listing)) (fronts one.path)
    ∙ ap (λ b. not (listing_eq final.0 listing) && b) (front_is final.1 one.path)
    ∙ swapped (not (listing_eq final.0 listing)) (is_front final.1 one.path)) (all_finals after)
    ∙ below_is after listing one
  where
    swapped : (a b : Bool) → (a && b) ≡ (b && a)
    swapped true true = refl
    swapped true false = refl
    swapped false true = refl
    swapped false false = refl

pub below_more : (after : List Asked) (listing : Listing) (rest : List Claim) (one : Claim) (found : Option Place) (is : Bool) (all : Option Place) → is ≡ is_below_final after listing one →
    otherwise found (first_below after listing (one ∷ rest)) ≡ all → otherwise (or_first found is one.place) (first_below after listing rest) ≡ all
below_more after listing rest one (Some place) is all test before_is = before_is
below_more after listing rest one None is all test before_is =
    by is ∙ ap (λ b. if b then Some one.place else first_below after listing rest) test ∙ before_is
  where
    by : (b : Bool) → otherwise (if b then Some one.place else None) (first_below after listing rest) ≡ (if b then Some one.place else first_below after listing rest)
    by true = refl
    by false = refl

-- ---- the least rule

module _ (each : Bool) (at : Place) where
  repeated_first : (place : Place) (others : List Broken) (repeated below : Option Place) → least others ≡ least_broken repeated below each at →
      least (breach MODIFIED_TWICE place ∷ others) ≡ least_broken (Some place) below each at
  repeated_first place others (Some other) below is = rw is refl
  repeated_first place others None (Some other) is = rw is refl
  repeated_first place others None None is = by each is
    where
      by : (b : Bool) → least others ≡ least_broken None None b at → least (breach MODIFIED_TWICE place ∷ others) ≡ Some (breach MODIFIED_TWICE place)
      by true is = rw is refl
      by false is = rw is refl

  below_first : (place : Place) (others : List Broken) (repeated below : Option Place) → least others ≡ least_broken repeated below each at →
      least (breach FINAL_MODIFIED place ∷ others) ≡ least_broken repeated (Some place) each at
  below_first place others (Some other) below is = rw is refl
  below_first place others None (Some other) is = rw is refl
  below_first place others None None is = by each is
    where
      by : (b : Bool) → least others ≡ least_broken None None b at → least (breach FINAL_MODIFIED place ∷ others) ≡ Some (breach FINAL_MODIFIED place)
      by true is = rw is refl
      by false is = rw is refl

  claims_least : (before after : List Asked) (listing : Listing) (passed claims : List Claim) →
      least (broken_claims before after listing passed claims ++ (if each then breach WRONG_EACH at ∷ [] else []))
      ≡ least_broken (first_repeated before listing passed claims) (first_below after listing claims) each at
  claims_least before after listing passed [] = by each
    where
      by : (b : Bool) → least (if b then breach WRONG_EACH at ∷ [] else []) ≡ least_broken None None b at
      by true = refl
      by false = refl
  claims_least before after listing passed (one ∷ claims) =
      by (is_repeated before listing one || is_among passed one) (is_below_final after listing one) (claims_least before after listing (passed ++ one ∷ []) claims)
    where
      rest : List Broken
      rest = broken_claims before after listing (passed ++ one ∷ []) claims

      by : (r b : Bool) →
          least (rest ++ (if each then breach WRONG_EACH at ∷ [] else [])) ≡ least_broken (first_repeated before listing (passed ++ one ∷ []) claims) (first_below after listing claims) each at →
          least (((if r then breach MODIFIED_TWICE one.place ∷ [] else []) ++ (if b then breach FINAL_MODIFIED one.place ∷ [] else []) ++ rest) ++ (if each then breach WRONG_EACH at ∷ [] else []))
          ≡ least_broken (if r then Some one.place else first_repeated before listing (passed ++ one ∷ []) claims) (if b then Some one.place else first_below after listing claims) each at
      by true true is =
          repeated_first one.place (breach FINAL_MODIFIED one.place ∷ (rest ++ (if each then breach WRONG_EACH at ∷ [] else []))) (first_repeated before listing (passed ++ one ∷ []) claims) (Some one.place)
          (below_first one.place (rest ++ (if each then breach WRONG_EACH at ∷ [] else [])) (first_repeated before listing (passed ++ one ∷ []) claims) (first_below after listing claims) is)
      by true false is =
          repeated_first one.place (rest ++ (if each then breach WRONG_EACH at ∷ [] else [])) (first_repeated before listing (passed ++ one ∷ []) claims) (first_below after listing claims) is
      by false true is =
          below_first one.place (rest ++ (if each then breach WRONG_EACH at ∷ [] else [])) (first_repeated before listing (passed ++ one ∷ []) claims) (first_below after listing claims) is
      by false false is = is

pub argument_least : (before after : List Asked) (asked : Asked) →
    least (broken_argument before after asked) ≡ least_broken (first_repeated before asked.listing [] asked.claims) (first_below after asked.listing asked.claims) asked.each asked.place
argument_least before after asked = claims_least asked.each asked.place before after asked.listing [] asked.claims

-- ---- one more in a loop

module _ {A B : Type 0} (seen : A → B) (xs : List A) (i : ℕ) (x : A) (inside : i < length xs) (at : x ≡ get_or xs i x) where
  pub taken : map seen (take (i + 1) xs) ≡ map seen (take i xs) ++ seen x ∷ []
  taken = ap (map seen) (take_more xs i x inside) ∙ map-append seen (take i xs) (get_or xs i x ∷ []) ∙ ap (λ y. map seen (take i xs) ++ seen y ∷ []) (sym at)

  pub left : map seen (drop i xs) ≡ seen x ∷ map seen (drop (i + 1) xs)
  left = ap (map seen) (drop_more xs i x inside) ∙ ap (λ y. seen y ∷ map seen (drop (i + 1) xs)) (sym at)

module _ {A : Type 0} (seen : A → Claim) (xs : List A) (i : ℕ) (x : A) (inside : i < length xs) (at : x ≡ get_or xs i x) where
  -- the paths so far and one more
  pub repeated_has : (old new : ByPath) (before : List Asked) (listing : Listing) (key : List ℕ) → key ≡ path_key (seen x).path → HasPaths old (all_paths before ++ paths_of listing (map seen (take i xs))) →
      ((other : List ℕ) → lists_held new other ≡ lists_held old other ++ (if bytes_eq key other then listing ∷ [] else [])) →
      HasPaths new (all_paths before ++ paths_of listing (map seen (take (i + 1) xs)))
  repeated_has old new before listing key is has more =
      subst (HasPaths new) (paths_more before listing (map seen (take i xs)) (seen x) ∙ ap (λ ys. all_paths before ++ paths_of listing ys) (sym (taken seen xs i x inside at)))
      (has_more old new (all_paths before ++ paths_of listing (map seen (take i xs))) listing key (seen x).path is has more)

  pub repeated_found : (old : ByPath) (before : List Asked) (listing : Listing) (key : List ℕ) (found : Option Place) (is : Bool) (all : Option Place) → key ≡ path_key (seen x).path →
      HasPaths old (all_paths before ++ paths_of listing (map seen (take i xs))) → is ≡ list_any (λ other. listing_eq other listing) (lists_held old key) →
      otherwise found (first_repeated before listing (map seen (take i xs)) (map seen (drop i xs))) ≡ all →
      otherwise (or_first found is (seen x).place) (first_repeated before listing (map seen (take (i + 1) xs)) (map seen (drop (i + 1) xs))) ≡ all
  repeated_found old before listing key found is all same has test before_is =
      ap (λ ys. otherwise (or_first found is (seen x).place) (first_repeated before listing ys (map seen (drop (i + 1) xs)))) (taken seen xs i x inside at)
      ∙ repeated_more before listing (map seen (take i xs)) (map seen (drop (i + 1) xs)) (seen x) found is all
      (test ∙ ap (λ k. list_any (λ other. listing_eq other listing) (lists_held old k)) same ∙ has (seen x).path (λ other. listing_eq other listing)
      ∙ repeated_or_among before listing (map seen (take i xs)) (seen x))
      (ap (λ ys. otherwise found (first_repeated before listing (map seen (take i xs)) ys)) (sym (left seen xs i x inside at)) ∙ before_is)

  pub below_found : (after : List Asked) (listing : Listing) (found : Option Place) (is : Bool) (all : Option Place) → is ≡ is_below_final after listing (seen x) →
      otherwise found (first_below after listing (map seen (drop i xs))) ≡ all → otherwise (or_first found is (seen x).place) (first_below after listing (map seen (drop (i + 1) xs))) ≡ all
  below_found after listing found is all test before_is =
      below_more after listing (map seen (drop (i + 1) xs)) (seen x) found is all test (ap (λ ys. otherwise found (first_below after listing ys)) (sym (left seen xs i x inside at)) ∙ before_is)

  pub finals_more : (paths : List Listed_path) (listing : Listing) →
      (paths ++ finals_of listing (map seen (take i xs))) ++ finals_of listing (seen x ∷ []) ≡ paths ++ finals_of listing (map seen (take (i + 1) xs))
  finals_more paths listing =
      append_assoc paths (finals_of listing (map seen (take i xs))) (finals_of listing (seen x ∷ []))
      ∙ ap (λ ys. paths ++ ys) (sym (flat_map-append (λ (one : Claim). if one.last then (listing, one.path) ∷ [] else []) (map seen (take i xs)) (seen x ∷ [])))
      ∙ ap (λ ys. paths ++ finals_of listing ys) (sym (taken seen xs i x inside at))

-- one more argument from the front
pub repeats_more : {A : Type 0} (seen : A → Asked) (xs : List A) (i : ℕ) (x : A) → i < length xs → x ≡ get_or xs i x → (made new : List (Option Place)) (found : Option Place) (all : List (Option Place)) →
    found ≡ first_repeated (map seen (take i xs)) (seen x).listing [] (seen x).claims → new ≡ made ++ found ∷ [] →
    made ++ all_repeated (map seen (take i xs)) (map seen (drop i xs)) ≡ all → new ++ all_repeated (map seen (take (i + 1) xs)) (map seen (drop (i + 1) xs)) ≡ all
repeats_more seen xs i x inside at made new found all is pushed before =
    ap (λ ys. ys ++ all_repeated (map seen (take (i + 1) xs)) (map seen (drop (i + 1) xs))) pushed
    ∙ append_assoc made (found ∷ []) (all_repeated (map seen (take (i + 1) xs)) (map seen (drop (i + 1) xs)))
    ∙ ap (λ f. made ++ f ∷ all_repeated (map seen (take (i + 1) xs)) (map seen (drop (i + 1) xs))) is
    ∙ ap (λ ys. made ++ first_repeated (map seen (take i xs)) (seen x).listing [] (seen x).claims ∷ all_repeated ys (map seen (drop (i + 1) xs))) (taken seen xs i x inside at)
    ∙ ap (λ ys. made ++ all_repeated (map seen (take i xs)) ys) (sym (left seen xs i x inside at))
    ∙ before

pub or_false : (b : Bool) → b ≡ (b || false)
or_false true = refl
or_false false = refl

-- one more front of a path
pub front_tested : {A : Type 0} (seen : A → List ℕ) (xs : List A) (i : ℕ) (x : A) → i < length xs → x ≡ get_or xs i x → (test : List (List ℕ) → Bool) (is other : Bool) →
    is ≡ list_any test (fronts (map seen (take i xs))) → other ≡ test (map seen (take (i + 1) xs)) → (is || other) ≡ list_any test (fronts (map seen (take (i + 1) xs)))
front_tested seen xs i x inside at test is other before here =
    ap (λ b. b || other) before ∙ ap (λ b. list_any test (fronts (map seen (take i xs))) || b) (here ∙ ap test (taken seen xs i x inside at) ∙ or_false (test (map seen (take i xs) ++ seen x ∷ [])))
    ∙ sym (list_any-append test (fronts (map seen (take i xs))) ((map seen (take i xs) ++ seen x ∷ []) ∷ []))
    ∙ ap (list_any test) (sym (ap fronts (taken seen xs i x inside at) ∙ fronts_more (map seen (take i xs)) (seen x)))

-- the argument before those that were taken from the back
pub finals_before : {A : Type 0} (seen : A → Asked) (xs : List A) (i : ℕ) (x : A) → i < length xs → x ≡ get_or xs i x → (lists : ByPath) →
    HasPaths lists (all_finals (map seen (drop (i + 1) xs)) ++ finals_of (seen x).listing (seen x).claims) → HasPaths lists (all_finals (map seen (drop i xs)))
finals_before seen xs i x inside at lists has =
    subst (HasPaths lists) (ap all_finals (sym (left seen xs i x inside at))) (has_swapped lists (all_finals (map seen (drop (i + 1) xs))) (finals_of (seen x).listing (seen x).claims) has)

-- and what it breaks
pub broken_before : {A : Type 0} (seen : A → Asked) (xs : List A) (i : ℕ) (x : A) → i < length xs → x ≡ get_or xs i x → (repeats : List (Option Place)) (below : Option Place) (later : Option Broken) →
    repeats ≡ all_repeated [] (map seen xs) → below ≡ first_below (map seen (drop (i + 1) xs)) (seen x).listing (seen x).claims →
    later ≡ first_broken (map seen (take (i + 1) xs)) (map seen (drop (i + 1) xs)) →
    or_later (least_broken (unwrap_or (slice_get repeats i) None) below (seen x).each (seen x).place) later ≡ first_broken (map seen (take i xs)) (map seen (drop i xs))
broken_before seen xs i x inside at repeats below later repeats_is below_same later_is =
    ap (λ o. or_later (least_broken (unwrap_or o None) below (seen x).each (seen x).place) later)
    (ap (λ ys. slice_get ys i) repeats_is ∙ repeated_there [] (map seen xs) i (seen x) (subst (λ n. i < n) (sym (length-map xs seen)) inside) (ap seen at ∙ sym (get_or-map seen xs i x (seen x) inside)))
    ∙ ap (λ ys. or_later (least_broken (first_repeated ys (seen x).listing [] (seen x).claims) below (seen x).each (seen x).place) later) (take-map seen i xs)
    ∙ ap (λ b. or_later (least_broken (first_repeated (map seen (take i xs)) (seen x).listing [] (seen x).claims) b (seen x).each (seen x).place) later) below_same
    ∙ ap (λ b. or_later b later) (sym (argument_least (map seen (take i xs)) (map seen (drop (i + 1) xs)) (seen x)))
    ∙ ap (or_later (least (broken_argument (map seen (take i xs)) (map seen (drop (i + 1) xs)) (seen x)))) (later_is ∙ ap (λ ys. first_broken ys (map seen (drop (i + 1) xs))) (taken seen xs i x inside at))
    ∙ sym (ap (first_broken (map seen (take i xs))) (left seen xs i x inside at))
