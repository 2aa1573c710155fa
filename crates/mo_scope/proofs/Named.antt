-- Elements that are found by name.
use Rattle.std.proofs.Common.{◌≡◌, ℕ, suc, ◌+◌, Bool, true, false, cond, List, [], ◌∷◌, ◌++◌, length, map, find, Option, Some, None, refl, ap, sym, ◌∙◌, arith, Bor}
use Rattle.std.specs.Prelude.{slice_get, option_map, option_copied, MatchOption, is_some, ◌&&◌, if◌then◌else◌}
use Rattle.std.specs.Str.{bytes_eq}
use Rattle.std.proofs.lemmas.List.{length-map, map-append}
use Rattle.std.proofs.lemmas.Option.{slice_get-map}
use Rattle.std.proofs.lemmas.Slice.Eq.{bytes_eq-Decides}
use Rattle.mo_syntax.specs.ClassTable.{otherwise}
use Rattle.mo_scope.specs.ByName.{place_of}
use Rattle.mo_scope.specs.Open.{are_open, is_open_declares}
use Rattle.mo_scope.specs.Worlds.{MemberEntry}

or_none : {A : Type 0} (o : Option A) → otherwise o None ≡ o
or_none None = refl
or_none (Some a) = refl

next_place : (o : Option ℕ) (n : ℕ) (here : Bool) → option_map (λ m. m + 1) (otherwise o (if here then Some n else None)) ≡ otherwise (option_map (λ m. m + 1) o) (if here then Some (suc n) else None)
next_place None n true = ap Some (omega arith)
next_place None n false = refl
next_place (Some m) n here = refl

-- one more element at the end
pub place_of_more : (members : List MemberEntry) (member : MemberEntry) (name : List ℕ) →
    place_of name (members ++ member ∷ []) ≡ otherwise (place_of name members) (if bytes_eq member.name name then Some (length members) else None)
place_of_more [] member name = refl
place_of_more (m ∷ members) member name = by (bytes_eq m.name name) (place_of_more members member name)
  where
    by : (b : Bool) → place_of name (members ++ member ∷ []) ≡ otherwise (place_of name members) (if bytes_eq member.name name then Some (length members) else None) →
        (if b then Some 0 else option_map (λ n. n + 1) (place_of name (members ++ member ∷ [])))
        ≡ otherwise (if b then Some 0 else option_map (λ n. n + 1) (place_of name members)) (if bytes_eq member.name name then Some (suc (length members)) else None)
    by true rest = refl
    by false rest = ap (option_map (λ n. n + 1)) rest ∙ next_place (place_of name members) (length members) (bytes_eq member.name name)

-- the element at its place is the first one
pub found_at : (members : List MemberEntry) (name : List ℕ) (n : ℕ) → place_of name members ≡ Some n → slice_get members n ≡ find (λ member. bytes_eq member.name name) members
found_at [] name n is = absurd (cc)
found_at (m ∷ members) name n is = by (bytes_eq m.name name) refl (found_at members name) is
  where
    by : (b : Bool) → bytes_eq m.name name ≡ b → ((k : ℕ) → place_of name members ≡ Some k → slice_get members k ≡ find (λ member. bytes_eq member.name name) members) →
        (if b then Some 0 else option_map (λ n. n + 1) (place_of name members)) ≡ Some n → slice_get (m ∷ members) n ≡ cond b (Some m) (find (λ member. bytes_eq member.name name) members)
    by true same rest is = let here : 0 ≡ n = cc in ap (slice_get (m ∷ members)) (sym here)
    by false same rest is = further (place_of name members) refl is
      where
        further : (o : Option ℕ) → place_of name members ≡ o → option_map (λ n. n + 1) o ≡ Some n → slice_get (m ∷ members) n ≡ find (λ member. bytes_eq member.name name) members
        further None at is = absurd (cc)
        further (Some k) at is = let next : suc k ≡ n = (let e : k + 1 ≡ n = cc in omega arith) in ap (slice_get (m ∷ members)) (sym next) ∙ rest k at

pub found_nowhere : (members : List MemberEntry) (name : List ℕ) → place_of name members ≡ None → None ≡ find (λ member. bytes_eq member.name name) members
found_nowhere [] name is = refl
found_nowhere (m ∷ members) name is = by (bytes_eq m.name name) (found_nowhere members name) is
  where
    by : (b : Bool) → (place_of name members ≡ None → None ≡ find (λ member. bytes_eq member.name name) members) →
        (if b then Some 0 else option_map (λ n. n + 1) (place_of name members)) ≡ None → None ≡ cond b (Some m) (find (λ member. bytes_eq member.name name) members)
    by true rest is = absurd (cc)
    by false rest is = rest (none (place_of name members) is)
      where
        none : (o : Option ℕ) → option_map (λ n. n + 1) o ≡ None → o ≡ None
        none None h = refl
        none (Some k) h = absurd (cc)

-- ---- a name that is put

-- a name that has a place keeps it
pub name_kept : {A : Type 0} (held : List ℕ → Option A) (name other : List ℕ) (n : A) → is_some (held name) ≡ true → held other ≡ otherwise (held other) (if bytes_eq name other then Some n else None)
name_kept {A = A} held name other n has = by (bytes_eq name other) refl
  where
    some : (o : Option A) → is_some o ≡ true → o ≡ otherwise o (Some n)
    some None h = absurd (cc)
    some (Some m) h = refl

    by : (b : Bool) → bytes_eq name other ≡ b → held other ≡ otherwise (held other) (if b then Some n else None)
    by true is = let same : name ≡ other = (bytes_eq-Decides name other).0 is in some (held other) (ap (λ (l : List ℕ). is_some (held l)) (sym same) ∙ has)
    by false is = sym (or_none (held other))

-- one that has none gets its place
pub name_put : {A : Type 0} (held : List ℕ → Option A) (name other : List ℕ) (n : A) (new : Option A) → is_some (held name) ≡ false → new ≡ cond (bytes_eq name other) (Some n) (held other) →
    new ≡ otherwise (held other) (if bytes_eq name other then Some n else None)
name_put {A = A} held name other n new has is = is ∙ by (bytes_eq name other) refl
  where
    none : (o : Option A) → is_some o ≡ false → Some n ≡ otherwise o (Some n)
    none None h = refl
    none (Some m) h = absurd (cc)

    by : (b : Bool) → bytes_eq name other ≡ b → cond b (Some n) (held other) ≡ otherwise (held other) (if b then Some n else None)
    by true is = let same : name ≡ other = (bytes_eq-Decides name other).0 is in none (held other) (ap (λ (l : List ℕ). is_some (held l)) (sym same) ∙ has)
    by false is = sym (or_none (held other))

-- ---- what is taken back

pub taken_back : {A : Type 0} (xs ys : List A) (x y : A) → xs ++ x ∷ [] ≡ ys ++ y ∷ [] → xs ≡ ys
taken_back [] [] x y h = refl
taken_back [] (b ∷ []) x y h = absurd (cc)
taken_back [] (b ∷ c ∷ ys) x y h = absurd (cc)
taken_back (a ∷ []) [] x y h = absurd (cc)
taken_back (a ∷ c ∷ xs) [] x y h = absurd (cc)
taken_back (a ∷ xs) (b ∷ ys) x y h =
    let tails : xs ++ x ∷ [] ≡ ys ++ y ∷ [] = cc in
    let heads : a ≡ b = cc in
    let rest : xs ≡ ys = taken_back xs ys x y tails in cc

pub popped : {A : Type 0} (r : Option A) (xs middle ys : List A) (x : A) → middle ≡ xs ++ x ∷ [] → MatchOption r ((middle ≡ []) × (ys ≡ [])) (λ last. middle ≡ ys ++ last ∷ []) → xs ≡ ys
popped None xs middle ys x pushed is = absurd (none xs (sym pushed ∙ is.0))
  where
    none : (xs : List _) → xs ++ x ∷ [] ≡ [] → ⊥
    none [] h = cc
    none (y ∷ xs) h = cc
popped (Some last) xs middle ys x pushed is = taken_back xs ys x last (sym pushed ∙ is)

-- ---- a table

pub names_more : {A : Type 0} (seen : A → MemberEntry) (xs ys : List A) (x : A) (at : ℕ) (old new : List ℕ → Option ℕ) → ((name : List ℕ) → old name ≡ place_of name (map seen xs)) → at ≡ length xs → ys ≡ xs ++ x ∷ [] →
    ((other : List ℕ) → new other ≡ otherwise (old other) (if bytes_eq (seen x).name other then Some at else None)) → (name : List ℕ) → new name ≡ place_of name (map seen ys)
names_more seen xs ys x at old new held counted pushed put name =
    put name ∙ ap (λ o. otherwise o (if bytes_eq (seen x).name name then Some at else None)) (held name)
    ∙ ap (λ n. otherwise (place_of name (map seen xs)) (if bytes_eq (seen x).name name then Some n else None)) (counted ∙ sym (length-map xs seen))
    ∙ sym (ap (place_of name) (ap (map seen) pushed ∙ map-append seen xs (x ∷ [])) ∙ place_of_more (map seen xs) (seen x) name)

pub named : {A : Type 0} (seen : A → MemberEntry) (members : List MemberEntry) (xs : List A) (name : List ℕ) (n : ℕ) (r : Option (Bor A)) → map seen xs ≡ members → place_of name (map seen xs) ≡ Some n → option_copied r ≡ slice_get xs n →
    option_map seen (option_copied r) ≡ find (λ member. bytes_eq member.name name) members
named seen members xs name n r are at is =
    ap (option_map seen) is ∙ sym (slice_get-map seen xs n) ∙ found_at (map seen xs) name n at ∙ ap (find (λ member. bytes_eq member.name name)) are

-- ---- what may stand in a package

and_last : (a b : Bool) (c : Bool) → (a && (b && c)) ≡ ((a && b) && c)
and_last true b c = refl
and_last false b c = refl

and_true : (b : Bool) → (b && true) ≡ b
and_true true = refl
and_true false = refl

all_more : (members : List MemberEntry) (member : MemberEntry) → are_open (members ++ member ∷ []) ≡ (are_open members && is_open_declares member.declares)
all_more [] member = and_true (is_open_declares member.declares)
all_more (m ∷ members) member = ap (λ (b : Bool). is_open_declares m.declares && b) (all_more members member) ∙ and_last (is_open_declares m.declares) (are_open members) (is_open_declares member.declares)

pub open_more : {A : Type 0} (seen : A → MemberEntry) (xs ys : List A) (x : A) (old new : Bool) → old ≡ are_open (map seen xs) → new ≡ (old && is_open_declares (seen x).declares) → ys ≡ xs ++ x ∷ [] → new ≡ are_open (map seen ys)
open_more seen xs ys x old new held is pushed =
    is ∙ ap (λ (b : Bool). b && is_open_declares (seen x).declares) held
    ∙ sym (all_more (map seen xs) (seen x))
    ∙ ap are_open (sym (ap (map seen) pushed ∙ map-append seen xs (x ∷ [])))
