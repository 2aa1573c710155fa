-- Each class of the files has a number of its own, from 6 on.
use Rattle.std.proofs.Common.{◌≡◌, ℕ, zero, suc, ◌+◌, ◌≤◌, Bool, true, false, nat_eq, List, [], ◌∷◌, ◌++◌, flat_map, Option, Some, None, refl, ap, sym, ◌∙◌, subst, arith, eqb-true, eq-eqb}
use Rattle.std.specs.Prelude.{if◌then◌else◌}
use Rattle.std.proofs.lemmas.Grind.{flat_map-append}
use Rattle.mo_syntax.specs.declared.class.FileTree.{FileTree}
use Rattle.mo_syntax.specs.Classes.{Home, Under, Apart, ClassRow, Component, Class, Declared, Declaration, Outline, both, each}
use Rattle.mo_syntax.specs.ClassTable.{class_count, declarations, first_number, in_file, names_of}
use Rattle.mo_tree.proofs.Everywhere.{Closed, in_classes}

-- so many numbers from n on
abbrev numbers_from : ℕ → ℕ → List ℕ
numbers_from n zero = []
numbers_from n (suc k) = n ∷ numbers_from (n + 1) k

numbers_from_append : (n a b : ℕ) → numbers_from n (a + b) ≡ numbers_from n a ++ numbers_from (n + a) b
numbers_from_append n zero b = ap (numbers_from n) (omega arith) ∙ ap (λ m. numbers_from m b) (omega arith)
numbers_from_append n (suc a) b =
    let more : suc a + b ≡ suc (a + b) = omega arith in
    let on : (n + 1) + a ≡ n + suc a = omega arith in
    ap (numbers_from n) more ∙ ap (λ l. n ∷ l) (numbers_from_append (n + 1) a b ∙ ap (λ m. numbers_from (n + 1) a ++ numbers_from m b) on)

abbrev number_in : Declared → List ℕ
number_in Component = []
number_in (Class row) = row.number ∷ []

-- the numbers of the classes among some declarations
abbrev numbers_of : List Declaration → List ℕ
numbers_of ds = flat_map (λ d. number_in d.what) ds

-- the classes of a part have the numbers from that of its first class on
abbrev Counts : Outline → Type 0
Counts part = (home : Home) (n : ℕ) → numbers_of (part.declared home n) ≡ numbers_from n part.classes

counts_both : (a b : Outline) → Counts a → Counts b → Counts (both a b)
counts_both a b ca cb home n =
    flat_map-append (λ (d : Declaration). number_in d.what) (a.declared home n) (b.declared home (n + a.classes))
    ∙ ap (λ l. l ++ numbers_of (b.declared home (n + a.classes))) (ca home n)
    ∙ ap (λ l. numbers_from n a.classes ++ l) (cb home (n + a.classes))
    ∙ sym (numbers_from_append n a.classes b.classes)

one_more : (k : ℕ) → suc k ≡ 1 + k
one_more k = omega arith

counts : Closed Counts
counts = record {
  no_part = λ home n. refl;
  two_parts = counts_both;
  apart_part = λ a c home n. c Apart n;
  class_part = λ outermost class c home n. ap (λ l. n ∷ l) (c _ (n + 1)) ∙ ap (numbers_from n) (one_more class.body.1.classes);
  component_part = λ name place mods c home n. c home n;
}

counts_files : (files : List FileTree) → Counts (each in_file files)
counts_files [] home n = refl
counts_files (file ∷ files) home n =
    counts_both (in_file file) (each in_file files) (λ h m. in_classes Counts counts file.classes (Under (names_of file.within)) m) (counts_files files) home n

files_numbered : (files : List FileTree) → numbers_of (declarations files) ≡ numbers_from first_number (class_count files)
files_numbered files = counts_files files Apart first_number

-- ---- the class with a number

abbrev has_number : ℕ → Declared → Bool
has_number n Component = false
has_number n (Class row) = nat_eq row.number n

abbrev numbered : ℕ → List Declaration → Option Declaration
numbered n [] = None
numbered n (d ∷ ds) = if has_number n d.what then Some d else numbered n ds

other_number : (a b : ℕ) → suc a ≤ b → nat_eq a b ≡ false
other_number a b less = by (nat_eq a b) refl
  where
    by : (t : Bool) → nat_eq a b ≡ t → nat_eq a b ≡ false
    by true is = absurd (let same : a ≡ b = eqb-true a b is in omega (arith, less, same))
    by false is = is

-- a class that is declared, found by its number
record IsNumbered (a n : ℕ) (ds : List Declaration) (d : Declaration) : Type 0 where
  found : numbered n ds ≡ Some d
  above : a ≤ n

found_first : (xs : List Declaration) (d : Declaration) (ys : List Declaration) (row : ClassRow) (a c : ℕ) → d.what ≡ Class row → numbers_of (xs ++ d ∷ ys) ≡ numbers_from a c →
    IsNumbered a row.number (xs ++ d ∷ ys) d
found_first [] d ys row a c what are = by c (subst (λ w. number_in w ++ numbers_of ys ≡ numbers_from a c) what are)
  where
    here : numbered row.number (d ∷ ys) ≡ Some d
    here = ap (λ w. if has_number row.number w then Some d else numbered row.number ys) what ∙ ap (λ b. if b then Some d else numbered row.number ys) (eq-eqb row.number row.number refl)

    by : (c : ℕ) → row.number ∷ numbers_of ys ≡ numbers_from a c → IsNumbered a row.number (d ∷ ys) d
    by zero is = absurd cc
    by (suc c) is = let first : row.number ≡ a = cc in record { found = here; above = omega (arith, first) }
found_first (x ∷ xs) d ys row a c what are = by x.what refl c are (found_first xs d ys row a c what) (λ b k. found_first xs d ys row b k what)
  where
    past : (w : Declared) → x.what ≡ w → has_number row.number w ≡ false → numbered row.number (x ∷ (xs ++ d ∷ ys)) ≡ numbered row.number (xs ++ d ∷ ys)
    past w is none = ap (λ v. if has_number row.number v then Some x else numbered row.number (xs ++ d ∷ ys)) is ∙ ap (λ b. if b then Some x else numbered row.number (xs ++ d ∷ ys)) none

    by : (w : Declared) → x.what ≡ w → (c : ℕ) → number_in x.what ++ numbers_of (xs ++ d ∷ ys) ≡ numbers_from a c →
        (numbers_of (xs ++ d ∷ ys) ≡ numbers_from a c → IsNumbered a row.number (xs ++ d ∷ ys) d) →
        ((b k : ℕ) → numbers_of (xs ++ d ∷ ys) ≡ numbers_from b k → IsNumbered b row.number (xs ++ d ∷ ys) d) → IsNumbered a row.number (x ∷ (xs ++ d ∷ ys)) d
    by Component is c are same more =
        let rest = same (subst (λ w. number_in w ++ numbers_of (xs ++ d ∷ ys) ≡ numbers_from a c) is are) in
        record { found = past Component is refl ∙ rest.found; above = rest.above }
    by (Class r) is zero are same more = let clash : r.number ∷ numbers_of (xs ++ d ∷ ys) ≡ [] = subst (λ w. number_in w ++ numbers_of (xs ++ d ∷ ys) ≡ []) is are in absurd cc
    by (Class r) is (suc k) are same more =
        let whole : r.number ∷ numbers_of (xs ++ d ∷ ys) ≡ a ∷ numbers_from (a + 1) k = subst (λ w. number_in w ++ numbers_of (xs ++ d ∷ ys) ≡ numbers_from a (suc k)) is are in
        let first : r.number ≡ a = cc in
        let behind : numbers_of (xs ++ d ∷ ys) ≡ numbers_from (a + 1) k = cc in
        let rest = more (a + 1) k behind in
        record { found = past (Class r) is (other_number r.number row.number (omega (arith, first, rest.above))) ∙ rest.found; above = omega (arith, rest.above) }

-- ---- classes with one number

-- where a declaration stands among those of the files
pub record Stands (files : List FileTree) (d : Declaration) : Type 0 where
  pub before : List Declaration
  pub behind : List Declaration
  pub is : declarations files ≡ before ++ d ∷ behind

at_number : (files : List FileTree) (d : Declaration) (row : ClassRow) → Stands files d → d.what ≡ Class row → IsNumbered first_number row.number (declarations files) d
at_number files d row at what =
    subst (λ (ds : List Declaration). IsNumbered first_number row.number ds d) (sym at.is)
    (found_first at.before d at.behind row first_number (class_count files) what (ap numbers_of (sym at.is) ∙ files_numbered files))

pub from_six : (files : List FileTree) (d : Declaration) (row : ClassRow) → Stands files d → d.what ≡ Class row → 6 ≤ row.number
from_six files d row at what = (at_number files d row at what).above

pub one_class : (files : List FileTree) (d e : Declaration) (row other : ClassRow) → Stands files d → Stands files e → d.what ≡ Class row → e.what ≡ Class other → row.number ≡ other.number → d ≡ e
one_class files d e row other at there what is same =
    let first : numbered row.number (declarations files) ≡ Some d = (at_number files d row at what).found in
    let second : numbered other.number (declarations files) ≡ Some e = (at_number files e other there is).found in
    let both_found : Some d ≡ Some e = sym first ∙ ap (λ n. numbered n (declarations files)) same ∙ second in
    same_some d e both_found
  where
    same_some : (a b : Declaration) → Some a ≡ Some b → a ≡ b
    same_some a b h = ap held h
      where
        held : Option Declaration → Declaration
        held (Some x) = x
        held None = a
