-- Elements of classes with paths are elements of the classes with these numbers, as long as no name is repeated.
use Rattle.std.proofs.Common.{◌≡◌, ℕ, ◌+◌, ◌≤◌, Bool, true, false, nat_eq, List, [], ◌∷◌, ◌++◌, Option, Some, None, refl, ap, sym, ◌∙◌, subst, arith, append_assoc, append-nil, eqb-true, eq-eqb}
use Rattle.std.specs.Prelude.{◌&&◌, ◌||◌, if◌then◌else◌, option_map}
use Rattle.std.specs.List.{list_any}
use Rattle.std.specs.Str.{bytes_eq}
use Rattle.std.proofs.lemmas.Slice.Eq.{bytes_eq-Decides}
use Rattle.mo_syntax.specs.declared.class.Body.{Body}
use Rattle.mo_syntax.specs.declared.class.ClassDefOf.{ClassDefOf}
use Rattle.mo_syntax.specs.declared.class.FileTree.{FileTree}
use Rattle.mo_syntax.specs.declared.place.Place.{Place}
use Rattle.mo_syntax.specs.Classes.{Home, Under, Inside, Apart, ClassRow, Component, Class, Declared, Declaration, Outline, Outlined, apart, both, in_class, inside}
use Rattle.mo_syntax.specs.ClassTable.{class_of_path, declarations, first_row, is_repeated, otherwise, path_eq, path_of, same_home}
use Rattle.mo_syntax.specs.steps.Parts.{declares}
use Rattle.mo_syntax.proofs.Searching.{first_row_append, path_eq_same, paths_same, untrue}
use Rattle.mo_tree.proofs.Everywhere.{Closed}
use Rattle.mo_tree.proofs.Numbering.{Stands, from_six, one_class}
use Rattle.mo_tree.proofs.Repeating.{HasNumber, is_same, same_tests}

-- ---- paths with one more name

pub last_same : (xs ys : List (List ℕ)) (x y : List ℕ) → xs ++ x ∷ [] ≡ ys ++ y ∷ [] → (xs ≡ ys) × (x ≡ y)
last_same [] [] x y h = (refl, cc)
last_same [] (b ∷ []) x y h = (cc, cc)
last_same [] (b ∷ c ∷ ys) x y h = (cc, cc)
last_same (a ∷ []) [] x y h = (cc, cc)
last_same (a ∷ c ∷ xs) [] x y h = (cc, cc)
last_same (a ∷ xs) (b ∷ ys) x y h =
    let tails : xs ++ x ∷ [] ≡ ys ++ y ∷ [] = cc in
    let rest : (xs ≡ ys) × (x ≡ y) = last_same xs ys x y tails in
    let heads : a ≡ b = cc in
    let front : xs ≡ ys = rest.0 in
    (cc, rest.1)

last_some : (xs : List (List ℕ)) (x : List ℕ) → xs ++ x ∷ [] ≡ [] → ⊥
last_some [] x e = cc
last_some (y ∷ xs) x e = cc

-- ---- the class of a path among declarations

abbrev row_with : List (List ℕ) → Declared → Option (List (List ℕ)) → Option ClassRow
row_with path Component at = None
row_with path (Class row) None = None
row_with path (Class row) (Some at) = if path_eq at path then Some row else None

abbrev path_under : Home → List ℕ → Option (List (List ℕ))
path_under (Under path) name = Some (path ++ name ∷ [])
path_under (Inside n) name = None
path_under Apart name = None

under_is : (d : Declaration) → path_of d ≡ path_under d.home d.name
under_is d = by d.home refl
  where
    by : (home : Home) → d.home ≡ home → path_of d ≡ path_under d.home d.name
    by (Under path) is = rw is refl
    by (Inside n) is = rw is refl
    by Apart is = rw is refl

first_is : (path : List (List ℕ)) (d : Declaration) (ds : List Declaration) → first_row path (d ∷ ds) ≡ otherwise (row_with path d.what (path_under d.home d.name)) (first_row path ds)
first_is path d ds = ap (λ (at : Option (List (List ℕ))). otherwise (row_with path d.what at) (first_row path ds)) (under_is d)

same_some : {A : Type 0} (a b : A) → Some a ≡ Some b → a ≡ b
same_some {A} a b e = ap held e
  where
    held : Option A → A
    held (Some x) = x
    held None = a

-- a class with a path among declarations
record Found (path : List (List ℕ)) (row : ClassRow) (ds : List Declaration) : Type 0 where
  it : Declaration
  before : List Declaration
  behind : List Declaration
  is : ds ≡ before ++ it ∷ behind
  what : it.what ≡ Class row
  at : path_under it.home it.name ≡ Some path

found_in : (path : List (List ℕ)) (row : ClassRow) (ds : List Declaration) → first_row path ds ≡ Some row → Found path row ds
found_in path row [] e = absurd cc
found_in path row (d ∷ ds) e = by d.what (path_under d.home d.name) refl refl (sym (first_is path d ds) ∙ e) (found_in path row ds)
  where
    later : Found path row ds → Found path row (d ∷ ds)
    later found = record { it = found.it; before = d ∷ found.before; behind = found.behind; is = ap (λ l. d ∷ l) found.is; what = found.what; at = found.at }

    here : (r : ClassRow) (at : List (List ℕ)) → d.what ≡ Class r → path_under d.home d.name ≡ Some at → (b : Bool) → path_eq at path ≡ b → otherwise (if b then Some r else None) (first_row path ds) ≡ Some row →
        (first_row path ds ≡ Some row → Found path row ds) → Found path row (d ∷ ds)
    here r at what is true same h more =
        let one : r ≡ row = same_some r row h in
        record { it = d; before = []; behind = ds; is = refl; what = what ∙ ap (λ x. Class x) one; at = is ∙ ap (λ p. Some p) (paths_same at path same) }
    here r at what is false same h more = later (more h)

    by : (w : Declared) (at : Option (List (List ℕ))) → d.what ≡ w → path_under d.home d.name ≡ at → otherwise (row_with path d.what (path_under d.home d.name)) (first_row path ds) ≡ Some row →
        (first_row path ds ≡ Some row → Found path row ds) → Found path row (d ∷ ds)
    by Component at what is h more =
        later (more (subst (λ w. otherwise (row_with path w (path_under d.home d.name)) (first_row path ds) ≡ Some row) what h))
    by (Class r) None what is h more =
        later (more (subst (λ a. otherwise (row_with path (Class r) a) (first_row path ds) ≡ Some row) is (subst (λ w. otherwise (row_with path w (path_under d.home d.name)) (first_row path ds) ≡ Some row) what h)))
    by (Class r) (Some at) what is h more =
        here r at what is (path_eq at path) refl
        (subst (λ a. otherwise (row_with path (Class r) a) (first_row path ds) ≡ Some row) is (subst (λ w. otherwise (row_with path w (path_under d.home d.name)) (first_row path ds) ≡ Some row) what h)) more

-- Where no element of the class of that path has the name before, no class has the longer path before.
none_before : (path : List (List ℕ)) (name : List ℕ) (ds : List Declaration) → list_any (is_same (Under path) name) ds ≡ false → first_row (path ++ name ∷ []) ds ≡ None
none_before path name [] h = refl
none_before path name (d ∷ ds) h =
    let parts = neither (is_same (Under path) name d) (list_any (is_same (Under path) name) ds) h in
    first_is (path ++ name ∷ []) d ds
    ∙ ap (λ (r : Option ClassRow). otherwise r (first_row (path ++ name ∷ []) ds)) (other d.home d.what parts.0)
    ∙ none_before path name ds parts.1
  where
    neither : (a b : Bool) → (a || b) ≡ false → (a ≡ false) × (b ≡ false)
    neither true b e = absurd cc
    neither false b e = (refl, e)

    apart_from : (front : List (List ℕ)) → (path_eq front path && bytes_eq d.name name) ≡ false → path_eq (front ++ d.name ∷ []) (path ++ name ∷ []) ≡ false
    apart_from front no_one = untrue _ (λ same.
        let parts = last_same front path d.name name (paths_same (front ++ d.name ∷ []) (path ++ name ∷ []) same) in
        let yes : (path_eq front path && bytes_eq d.name name) ≡ true = rw (ap (λ p. path_eq front p) (sym parts.0) ∙ path_eq_same front, (bytes_eq-Decides d.name name).1 parts.1) refl in
        let clash : false ≡ true = sym no_one ∙ yes in cc)

    other : (home : Home) (w : Declared) → (same_home home (Under path) && bytes_eq d.name name) ≡ false → row_with (path ++ name ∷ []) w (path_under home d.name) ≡ None
    other home Component no_one = refl
    other (Under front) (Class row) no_one = ap (λ b. if b then Some row else None) (apart_from front no_one)
    other (Inside n) (Class row) no_one = refl
    other Apart (Class row) no_one = refl

module _ (all : List FileTree) where
  -- ---- the number of the class of a path

  -- the top has the number 0
  abbrev pub number_of_path : List (List ℕ) → Option ℕ
  number_of_path [] = Some 0
  number_of_path (name ∷ names) = option_map (λ row. row.number) (class_of_path all (name ∷ names))

  pub number_of_class : (path : List (List ℕ)) (row : ClassRow) → class_of_path all path ≡ Some row → number_of_path path ≡ Some row.number
  number_of_class [] row found = let it = found_in [] row (declarations all) found in absurd (no_top it.it.name it.it.home it.at)
    where
      no_top : (name : List ℕ) (home : Home) → path_under home name ≡ Some [] → ⊥
      no_top name (Under path) e = last_some path name (same_some (path ++ name ∷ []) [] e)
      no_top name (Inside n) e = cc
      no_top name Apart e = cc
  number_of_class (name ∷ names) row found = ap (option_map (λ row. row.number)) found

  -- the class of a path that has a number
  record HasRow (path : List (List ℕ)) (n : ℕ) : Type 0 where
    it : Declaration
    row : ClassRow
    stands : Stands all it
    what : it.what ≡ Class row
    at : path_under it.home it.name ≡ Some path
    number : row.number ≡ n

  row_of_number : (name : List ℕ) (names : List (List ℕ)) (n : ℕ) → number_of_path (name ∷ names) ≡ Some n → HasRow (name ∷ names) n
  row_of_number name names n e = by (class_of_path all (name ∷ names)) refl e
    where
      by : (o : Option ClassRow) → class_of_path all (name ∷ names) ≡ o → option_map (λ row. row.number) o ≡ Some n → HasRow (name ∷ names) n
      by None is h = absurd cc
      by (Some row) is h =
          let found = found_in (name ∷ names) row (declarations all) is in
          record {
            it = found.it;
            row = row;
            stands = record { before = found.before; behind = found.behind; is = found.is };
            what = found.what;
            at = found.at;
            number = same_some row.number n h;
          }

  not_top : (name : List ℕ) (names : List (List ℕ)) → number_of_path (name ∷ names) ≡ Some 0 → ⊥
  not_top name names e = let has = row_of_number name names 0 e in let above : 6 ≤ has.row.number = from_six all has.it has.row has.stands has.what in omega (arith, above, has.number)

  one_path : (p q : List (List ℕ)) (n : ℕ) → number_of_path p ≡ Some n → number_of_path q ≡ Some n → p ≡ q
  one_path [] [] n a b = refl
  one_path [] (y ∷ q) n a b = absurd (not_top y q (b ∙ sym a))
  one_path (x ∷ p) [] n a b = absurd (not_top x p (a ∙ sym b))
  one_path (x ∷ p) (y ∷ q) n a b =
      let here = row_of_number x p n a in
      let there = row_of_number y q n b in
      let same : here.it ≡ there.it = one_class all here.it there.it here.row there.row here.stands there.stands here.what there.what (here.number ∙ sym there.number) in
      same_some (x ∷ p) (y ∷ q) (sym here.at ∙ ap (λ (d : Declaration). path_under d.home d.name) same ∙ there.at)

  -- a class without a path has the number of no path
  no_path : (d : Declaration) (row : ClassRow) → Stands all d → d.what ≡ Class row → path_under d.home d.name ≡ None → (path : List (List ℕ)) → number_of_path path ≡ Some row.number → ⊥
  no_path d row stands what none [] e = let zero : 0 ≡ row.number = same_some 0 row.number e in let above : 6 ≤ row.number = from_six all d row stands what in omega (arith, above, zero)
  no_path d row stands what none (x ∷ path) e =
      let has = row_of_number x path row.number e in
      let same : has.it ≡ d = one_class all has.it d has.row row has.stands stands has.what what has.number in
      let clash : Some (x ∷ path) ≡ None = sym has.at ∙ ap (λ (e : Declaration). path_under e.home e.name) same ∙ none in cc

  -- ---- homes by number

  pub data IsHome : Home → Home → Type 0 where
    of_path : {path : List (List ℕ)} {n : ℕ} → number_of_path path ≡ Some n → IsHome (Under path) (Inside n)
    of_class : {n : ℕ} → ((path : List (List ℕ)) → number_of_path path ≡ Some n → ⊥) → IsHome (Inside n) (Inside n)
    of_none : IsHome Apart Apart

  pub same_number : (home a other b : Home) → IsHome home a → IsHome other b → same_home home other ≡ same_home a b
  same_number (Under p) (Inside n) (Under q) (Inside m) (of_path x) (of_path y) = same_tests (path_eq p q) (nat_eq n m) to from
    where
      to : path_eq p q ≡ true → nat_eq n m ≡ true
      to same = eq-eqb n m (same_some n m (sym x ∙ ap number_of_path (paths_same p q same) ∙ y))

      from : nat_eq n m ≡ true → path_eq p q ≡ true
      from same = ap (path_eq p) (sym (one_path p q n x (y ∙ ap (λ k. Some k) (sym (eqb-true n m same))))) ∙ path_eq_same p
  same_number (Under p) (Inside n) (Inside m) _ (of_path x) (of_class none) = sym (untrue (nat_eq n m) (λ same. none p (x ∙ ap (λ k. Some k) (eqb-true n m same))))
  same_number (Under p) (Inside n) Apart Apart (of_path x) of_none = refl
  same_number (Inside n) _ (Under q) (Inside m) (of_class none) (of_path y) = sym (untrue (nat_eq n m) (λ same. none q (y ∙ ap (λ k. Some k) (sym (eqb-true n m same)))))
  same_number (Inside n) _ (Inside m) _ (of_class none) (of_class never) = refl
  same_number (Inside n) _ Apart Apart (of_class none) of_none = refl
  same_number Apart Apart other b of_none y = refl
  same_number (Under p) (Under _) other b x y = elim x [ ]
  same_number (Under p) Apart other b x y = elim x [ ]
  same_number Apart (Under _) other b x y = elim x [ ]
  same_number Apart (Inside n) other b x y = elim x [ ]
  same_number (Under p) (Inside n) (Under q) (Under _) x y = elim y [ ]
  same_number (Under p) (Inside n) (Under q) Apart x y = elim y [ ]
  same_number (Under p) (Inside n) Apart (Under _) x y = elim y [ ]
  same_number (Under p) (Inside n) Apart (Inside m) x y = elim y [ ]
  same_number (Inside n) a (Under q) (Under _) x y = elim y [ ]
  same_number (Inside n) a (Under q) Apart x y = elim y [ ]
  same_number (Inside n) a Apart (Under _) x y = elim y [ ]
  same_number (Inside n) a Apart (Inside m) x y = elim y [ ]

  -- ---- no name is repeated

  -- no declaration is repeated among those before it, the front among them
  abbrev FreshBehind : List Declaration → List Declaration → Type 0
  FreshBehind front [] = Unit {0}
  FreshBehind front (d ∷ ds) = (is_repeated front d ≡ false) × FreshBehind (front ++ d ∷ []) ds

  abbrev pub Fresh : List Declaration → Type 0
  Fresh before = FreshBehind [] before

  earlier : (front before more : List Declaration) → FreshBehind front (before ++ more) → FreshBehind front before
  earlier front [] more fresh = tt
  earlier front (d ∷ before) more fresh = (fresh.0, earlier (front ++ d ∷ []) before more fresh.1)

  last_new : (front before : List Declaration) (d : Declaration) → FreshBehind front (before ++ d ∷ []) → is_repeated (front ++ before) d ≡ false
  last_new front [] d fresh = subst (λ l. is_repeated l d ≡ false) (sym (append-nil front)) fresh.0
  last_new front (x ∷ before) d fresh = subst (λ l. is_repeated l d ≡ false) (append_assoc front (x ∷ []) before) (last_new (front ++ x ∷ []) before d fresh.1)

  pub fresh_push : (front before : List Declaration) (d : Declaration) → FreshBehind front before → is_repeated (front ++ before) d ≡ false → FreshBehind front (before ++ d ∷ [])
  fresh_push front [] d fresh new = (subst (λ l. is_repeated l d ≡ false) (append-nil front) new, tt)
  fresh_push front (x ∷ before) d fresh new =
      (fresh.0, fresh_push (front ++ x ∷ []) before d fresh.1 (subst (λ l. is_repeated l d ≡ false) (sym (append_assoc front (x ∷ []) before)) new))

  -- a home by number, which it has while no name was repeated
  pub record Goes (before : List Declaration) (home other : Home) : Type 0 where
    pub numbered : HasNumber other
    pub is : Fresh before → IsHome home other

  goes_on : (before more : List Declaration) (home other : Home) → Goes before home other → Goes (before ++ more) home other
  goes_on before more home other goes = record { numbered = goes.numbered; is = λ fresh. goes.is (earlier [] before more fresh) }

  -- ---- declarations beside each other

  pub record Beside (before : List Declaration) (d e : Declaration) : Type 0 where
    pub home : Goes before d.home e.home
    pub name : d.name ≡ e.name
    pub place : d.place ≡ e.place

  abbrev pub AllBeside : List Declaration → List Declaration → List Declaration → Type 0
  AllBeside before [] [] = Unit {0}
  AllBeside before [] (e ∷ es) = ⊥
  AllBeside before (d ∷ ds) [] = ⊥
  AllBeside before (d ∷ ds) (e ∷ es) = Beside before d e × AllBeside (before ++ d ∷ []) ds es

  beside_append : (before xs as_ ys bs : List Declaration) → AllBeside before xs as_ → AllBeside (before ++ xs) ys bs → AllBeside before (xs ++ ys) (as_ ++ bs)
  beside_append before [] [] ys bs h k = subst (λ l. AllBeside l ys bs) (append-nil before) k
  beside_append before [] (a ∷ as_) ys bs h k = absurd h
  beside_append before (x ∷ xs) [] ys bs h k = absurd h
  beside_append before (x ∷ xs) (a ∷ as_) ys bs h k =
      (h.0, beside_append (before ++ x ∷ []) xs as_ ys bs h.1 (subst (λ l. AllBeside l ys bs) (sym (append_assoc before (x ∷ []) xs)) k))

  -- what a part declares, with numbers in place of paths
  abbrev pub Alike : Outline → Type 0
  Alike part = (home other : Home) (n : ℕ) (before rest : List Declaration) → declarations all ≡ before ++ (part.declared home n ++ rest) → Goes before home other →
      AllBeside before (part.declared home n) (part.declared other n)

  alike_both : (a b : Outline) → Alike a → Alike b → Alike (both a b)
  alike_both a b ka kb home other n before rest is goes =
      let first : List Declaration = a.declared home n in
      let second : List Declaration = b.declared home (n + a.classes) in
      beside_append before first (a.declared other n) second (b.declared other (n + a.classes))
      (ka home other n before (second ++ rest) (is ∙ ap (λ l. before ++ l) (append_assoc first second rest)) goes)
      (kb home other (n + a.classes) (before ++ first) rest (is ∙ ap (λ l. before ++ l) (append_assoc first second rest) ∙ sym (append_assoc before first (second ++ rest)))
      (goes_on before first home other goes))

  alike_apart : (a : Outline) → Alike a → Alike (apart a)
  alike_apart a k home other n before rest is goes = k Apart Apart n before rest is (record { numbered = tt; is = λ fresh. of_none })

  alike_component : (name : List ℕ) (place : Place) (mods : Outline) → Alike mods → Alike (declares name place mods)
  alike_component name place mods k home other n before rest is goes =
      let d : Declaration = record { home = home; name = name; place = place; what = Component } in (
        record { home = goes; name = refl; place = refl },
        k home other n (before ++ d ∷ []) rest (is ∙ sym (append_assoc before (d ∷ []) (mods.declared home n ++ rest))) (goes_on before (d ∷ []) home other goes),
      )

  -- ---- classes

  -- a class that is not repeated is the class of its path
  first_of_path : (before behind : List Declaration) (d : Declaration) (row : ClassRow) (path : List (List ℕ)) → declarations all ≡ before ++ d ∷ behind → d.what ≡ Class row → d.home ≡ Under path →
      is_repeated before d ≡ false → class_of_path all (path ++ d.name ∷ []) ≡ Some row
  first_of_path before behind d row path is what home new =
      let longer : List (List ℕ) = path ++ d.name ∷ [] in
      ap (first_row longer) is ∙ first_row_append longer before (d ∷ behind)
      ∙ ap (λ (r : Option ClassRow). otherwise r (first_row longer (d ∷ behind))) (none_before path d.name before (subst (λ h. list_any (is_same h d.name) before ≡ false) home new))
      ∙ first_is longer d behind
      ∙ ap (λ w. otherwise (row_with longer w (path_under d.home d.name)) (first_row longer behind)) what
      ∙ ap (λ h. otherwise (row_with longer (Class row) (path_under h d.name)) (first_row longer behind)) home
      ∙ ap (λ b. otherwise (if b then Some row else None) (first_row longer behind)) (path_eq_same longer)

  abbrev row_of : Bool → ClassDefOf (Outlined Body) → ℕ → ClassRow
  row_of outermost class n = record {
    number = n;
    class = record { kind = class.kind; flags = class.flags; name = class.name; place = class.place; body = class.body.0 };
    outermost = outermost;
  }

  abbrev declared_class : Bool → ClassDefOf (Outlined Body) → Home → ℕ → Declaration
  declared_class outermost class home n = record { home = home; name = class.name; place = class.place; what = Class (row_of outermost class n) }

  within : (outermost : Bool) (class : ClassDefOf (Outlined Body)) (path : List (List ℕ)) (n : ℕ) (before behind : List Declaration) →
      declarations all ≡ before ++ declared_class outermost class (Under path) n ∷ behind → Fresh (before ++ declared_class outermost class (Under path) n ∷ []) → IsHome (Under (path ++ class.name ∷ [])) (Inside n)
  within outermost class path n before behind is fresh =
      of_path (number_of_class (path ++ class.name ∷ []) (row_of outermost class n)
      (first_of_path before behind (declared_class outermost class (Under path) n) (row_of outermost class n) path is refl refl (last_new [] before (declared_class outermost class (Under path) n) fresh)))

  without : (outermost : Bool) (class : ClassDefOf (Outlined Body)) (home : Home) (n : ℕ) (before behind : List Declaration) → declarations all ≡ before ++ declared_class outermost class home n ∷ behind →
      path_under home class.name ≡ None → (path : List (List ℕ)) → number_of_path path ≡ Some n → ⊥
  without outermost class home n before behind is none path e =
      no_path (declared_class outermost class home n) (row_of outermost class n) (record { before = before; behind = behind; is = is }) refl none path e

  -- the elements of a class that stands in some home
  goes_inside : (outermost : Bool) (class : ClassDefOf (Outlined Body)) (home other : Home) (n : ℕ) (before behind : List Declaration) →
      declarations all ≡ before ++ declared_class outermost class home n ∷ behind → HasNumber other →
      Goes (before ++ declared_class outermost class home n ∷ []) (inside home class.name n) (inside other class.name n)
  goes_inside outermost class home (Under path) n before behind is numbered = absurd numbered
  goes_inside outermost class (Under path) (Inside m) n before behind is numbered = record { numbered = tt; is = within outermost class path n before behind is }
  goes_inside outermost class (Under path) Apart n before behind is numbered = record { numbered = tt; is = within outermost class path n before behind is }
  goes_inside outermost class (Inside k) (Inside m) n before behind is numbered = record { numbered = tt; is = λ fresh. of_class (without outermost class (Inside k) n before behind is refl) }
  goes_inside outermost class (Inside k) Apart n before behind is numbered = record { numbered = tt; is = λ fresh. of_class (without outermost class (Inside k) n before behind is refl) }
  goes_inside outermost class Apart (Inside m) n before behind is numbered = record { numbered = tt; is = λ fresh. of_class (without outermost class Apart n before behind is refl) }
  goes_inside outermost class Apart Apart n before behind is numbered = record { numbered = tt; is = λ fresh. of_class (without outermost class Apart n before behind is refl) }

  alike_class : (outermost : Bool) (class : ClassDefOf (Outlined Body)) → Alike class.body.1 → Alike (in_class outermost class)
  alike_class outermost class k home other n before rest is goes =
      let d : Declaration = declared_class outermost class home n in
      let body : List Declaration = class.body.1.declared (inside home class.name n) (n + 1) in (
        record { home = goes; name = refl; place = refl },
        k (inside home class.name n) (inside other class.name n) (n + 1) (before ++ d ∷ []) rest (is ∙ sym (append_assoc before (d ∷ []) (body ++ rest)))
            (goes_inside outermost class home other n before (body ++ rest) is goes.numbered),
      )

  pub alike : Closed Alike
  alike = record {
    no_part = λ home other n before rest is goes. tt;
    two_parts = alike_both;
    apart_part = alike_apart;
    class_part = alike_class;
    component_part = alike_component;
  }
