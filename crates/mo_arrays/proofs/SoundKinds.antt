-- What the kind of an operation accepts of the kinds of its operands.
use Rattle.std.proofs.Common.{◌≡◌, Bool, true, false, List, [], ◌∷◌, Option, Some, None, refl, ap, sym, ◌∙◌, subst, if◌then◌else◌}
use Rattle.std.specs.Prelude.{fold, Ok, Err, nat_eq}
use Rattle.mo_syntax.specs.Outcome.{Outcome, and_then}
use Rattle.mo_syntax.specs.declared.place.Place.{Place}
use Rattle.mo_syntax.specs.declared.place.Broken.{Broken}
use Rattle.mo_syntax.specs.declared.meaning.Kind.{Kind}
use Rattle.mo_syntax.specs.declared.meaning.Kind.TheVariants.{Real, Whole as Integer, Truth as Boolean, Str as String, Enumeration}
use Rattle.mo_flat.specs.SoundArray.{fits_kind}
use Rattle.mo_flat.proofs.Good.{Each, IsNumber, Widens, number_widens}
use Rattle.mo_syntax.specs.declared.rules.TheConstants.{WRONG_ENUMERATION, WRONG_TYPE}
use Rattle.mo_typing.specs.declared.agree.Shared.TheVariants.{Alike, Different}
use Rattle.mo_typing.specs.Kinds.{common, number, wider, with_number, arithmetic, truth, is_truth, with_truth, logical, joined, joined_by, settled, alike, relation, or_breaks, are_enumerations, numeric, is_number, real_of, kept, both_numeric}
use Rattle.mo_typing.proofs.Agreeing.{ok_same, not_broken, after, under}

pub through : (a b c : Kind) → Widens a b → Widens b c → Widens a c
through a b c v w o e = w o (v o e)

same_widens : (a b : Kind) → a ≡ b → Widens a b
same_widens a b is o e = subst (λ k. fits_kind k o ≡ true) is e

-- ---- arithmetic

broken_stays : (place : Place) (b : Broken) (ks : List Kind) → fold (with_number place) (Err b) ks ≡ Err b
broken_stays place b [] = refl
broken_stays place b (k ∷ ks) = broken_stays place b ks

pub record AreNumbers (s : Kind) (ks : List Kind) (k : Kind) : Type 0 where
  pub number : IsNumber k
  pub first : Widens s k
  pub each : Each (λ a. Widens a k) ks

not_here : {A : Type 0} (place : Place) (b : Broken) (ks : List Kind) (k : Kind) → fold (with_number place) (Err b) ks ≡ Ok k → A
not_here place b ks k e = absurd (not_broken b k (sym (broken_stays place b ks) ∙ e))

numbers_from : (place : Place) (s : Kind) → IsNumber s → (ks : List Kind) (k : Kind) → fold (with_number place) (Ok s) ks ≡ Ok k → AreNumbers s ks k
numbers_from place s n [] k e = let is = ok_same s k e in record { number = subst IsNumber is n; first = same_widens s k is; each = tt }
numbers_from place Real n (Real ∷ ks) k e = let r = numbers_from place Real tt ks k e in record { number = r.number; first = r.first; each = (r.first, r.each) }
numbers_from place Real n (Integer ∷ ks) k e = let r = numbers_from place Real tt ks k e in record { number = r.number; first = r.first; each = (through Integer Real k (number_widens Integer tt) r.first, r.each) }
numbers_from place Integer n (Real ∷ ks) k e = let r = numbers_from place Real tt ks k e in record { number = r.number; first = through Integer Real k (number_widens Integer tt) r.first; each = (r.first, r.each) }
numbers_from place Integer n (Integer ∷ ks) k e = let r = numbers_from place Integer tt ks k e in record { number = r.number; first = r.first; each = (r.first, r.each) }
numbers_from place Boolean n (x ∷ ks) k e = absurd n
numbers_from place String n (x ∷ ks) k e = absurd n
numbers_from place (Enumeration class) n (x ∷ ks) k e = absurd n
numbers_from place Real n (Boolean ∷ ks) k e = not_here place _ ks k e
numbers_from place Real n (String ∷ ks) k e = not_here place _ ks k e
numbers_from place Real n (Enumeration class ∷ ks) k e = not_here place _ ks k e
numbers_from place Integer n (Boolean ∷ ks) k e = not_here place _ ks k e
numbers_from place Integer n (String ∷ ks) k e = not_here place _ ks k e
numbers_from place Integer n (Enumeration class ∷ ks) k e = not_here place _ ks k e

pub numbers_agree : (place : Place) (ks : List Kind) (k : Kind) → arithmetic place ks ≡ Ok k → AreNumbers Integer ks k
numbers_agree place ks k e = numbers_from place Integer tt ks k e

-- ---- values of one kind

some_same : (a b : Kind) → ◌≡◌ {A = Option Kind} (Some a) (Some b) → a ≡ b
some_same a b e = let f = e in cc

none_is_not : {A : Type 0} (c : Kind) → ◌≡◌ {A = Option Kind} None (Some c) → A
none_is_not c e = let f = e in cc

widen_both : (a b c : Kind) → ◌≡◌ {A = Option Kind} (Some a) (Some c) → Widens b a → Widens a c × Widens b c
widen_both a b c e w = let is = some_same a c e in (same_widens a c is, through b a c w (same_widens a c is))

same_class : (a : Kind) (b : Bool) (c : Kind) → (if b then Some a else None) ≡ Some c → a ≡ c
same_class a true c e = some_same a c e
same_class a false c e = none_is_not c e

pub common_widens : (a b c : Kind) → common a b ≡ Some c → Widens a c × Widens b c
common_widens Real Real c e = widen_both Real Real c e (λ o h. h)
common_widens Real Integer c e = widen_both Real Integer c e (number_widens Integer tt)
common_widens Integer Real c e = let both = widen_both Real Integer c e (number_widens Integer tt) in (both.1, both.0)
common_widens Integer Integer c e = widen_both Integer Integer c e (λ o h. h)
common_widens Boolean Boolean c e = widen_both Boolean Boolean c e (λ o h. h)
common_widens String String c e = widen_both String String c e (λ o h. h)
common_widens (Enumeration a) (Enumeration b) c e =
    let is = same_class (Enumeration a) (nat_eq a.0 b.0) c e in
    (same_widens (Enumeration a) c is, through (Enumeration b) (Enumeration a) c (λ o h. h) (same_widens (Enumeration a) c is))
common_widens Real Boolean c e = none_is_not c e
common_widens Real String c e = none_is_not c e
common_widens Real (Enumeration b) c e = none_is_not c e
common_widens Integer Boolean c e = none_is_not c e
common_widens Integer String c e = none_is_not c e
common_widens Integer (Enumeration b) c e = none_is_not c e
common_widens Boolean Real c e = none_is_not c e
common_widens Boolean Integer c e = none_is_not c e
common_widens Boolean String c e = none_is_not c e
common_widens Boolean (Enumeration b) c e = none_is_not c e
common_widens String Real c e = none_is_not c e
common_widens String Integer c e = none_is_not c e
common_widens String Boolean c e = none_is_not c e
common_widens String (Enumeration b) c e = none_is_not c e
common_widens (Enumeration a) Real c e = none_is_not c e
common_widens (Enumeration a) Integer c e = none_is_not c e
common_widens (Enumeration a) Boolean c e = none_is_not c e
common_widens (Enumeration a) String c e = none_is_not c e

different_stays : (ks : List Kind) → fold joined Different ks ≡ Different
different_stays [] = refl
different_stays (k ∷ ks) = different_stays ks

pub alike_from : (place : Place) (a : Kind) (ks : List Kind) (k : Kind) → settled place (fold joined (Alike a) ks) ≡ Ok k → Widens a k × Each (λ b. Widens b k) ks
alike_from place a [] k e = (same_widens a k (ok_same a k e), tt)
alike_from place a (b ∷ ks) k e = step (common a b) refl e (λ c h. alike_from place c ks k h)
  where
    step : (o : Option Kind) → common a b ≡ o → settled place (fold joined (joined_by o) ks) ≡ Ok k → ((c : Kind) → settled place (fold joined (Alike c) ks) ≡ Ok k → Widens c k × Each (λ b. Widens b k) ks) → Widens a k × Each (λ b. Widens b k) (b ∷ ks)
    step None is e more = absurd (not_broken _ k (ap (settled place) (sym (different_stays ks)) ∙ e))
    step (Some c) is e more =
        let both = common_widens a b c is in
        let r = more c e in
        (through a c k both.0 r.0, (through b c k both.1 r.0, r.1))

pub alike_widen : (place : Place) (ks : List Kind) (k : Kind) → alike place ks ≡ Ok k → Each (λ b. Widens b k) ks
alike_widen place [] k e = tt
alike_widen place (a ∷ ks) k e = let r = alike_from place a ks k e in (r.0, r.1)

-- ---- relations and truth values

pub related_kinds : (place : Place) (a b k : Kind) → relation place a b ≡ Ok k → (c : Kind) × (Widens a c × Widens b c) × (Boolean ≡ k)
related_kinds place a b k e = step (common a b) refl e
  where
    step : (o : Option Kind) → common a b ≡ o → and_then (or_breaks o (if are_enumerations a b then WRONG_ENUMERATION else WRONG_TYPE) place) (λ _. Ok Boolean) ≡ Ok k → (c : Kind) × (Widens a c × Widens b c) × (Boolean ≡ k)
    step None is e = absurd (not_broken _ k e)
    step (Some c) is e = (c, common_widens a b c is, ok_same Boolean k e)

pub truth_kind : (place : Place) (a k : Kind) → truth place a ≡ Ok k → (Boolean ≡ k) × (a ≡ Boolean)
truth_kind place a k e = let u = under (is_truth a) (Ok Boolean) _ k e in (ok_same Boolean k u.1, only a u.0)
  where
    only : (a : Kind) → is_truth a ≡ true → a ≡ Boolean
    only Boolean e = refl
    only Real e = let f : false ≡ true = e in cc
    only Integer e = let f : false ≡ true = e in cc
    only String e = let f : false ≡ true = e in cc
    only (Enumeration class) e = let f : false ≡ true = e in cc

truths_stay : (place : Place) (b : Broken) (ks : List Kind) → fold (with_truth place) (Err b) ks ≡ Err b
truths_stay place b [] = refl
truths_stay place b (k ∷ ks) = truths_stay place b ks

truths_from : (place : Place) (ks : List Kind) (k : Kind) → fold (with_truth place) (Ok Boolean) ks ≡ Ok k → (Boolean ≡ k) × Each (λ a. a ≡ Boolean) ks
truths_from place [] k e = (ok_same Boolean k e, tt)
truths_from place (a ∷ ks) k e = step (truth place a) refl e (λ h. truths_from place ks k h)
  where
    step : (o : Outcome Kind) → truth place a ≡ o → fold (with_truth place) o ks ≡ Ok k → (fold (with_truth place) (Ok Boolean) ks ≡ Ok k → (Boolean ≡ k) × Each (λ a. a ≡ Boolean) ks) → (Boolean ≡ k) × Each (λ a. a ≡ Boolean) (a ∷ ks)
    step (Err b) is e more = absurd (not_broken b k (sym (truths_stay place b ks) ∙ e))
    step (Ok c) is e more =
        let t = truth_kind place a c is in
        let r = more (ap (λ x. fold (with_truth place) (Ok x) ks) t.0 ∙ e) in
        (r.0, (t.1, r.1))

pub truths_agree : (place : Place) (ks : List Kind) (k : Kind) → logical place ks ≡ Ok k → (Boolean ≡ k) × Each (λ a. a ≡ Boolean) ks
truths_agree place ks k e = truths_from place ks k e

-- ---- arguments of functions

pub is_number_kind : (a : Kind) → is_number a ≡ true → IsNumber a
is_number_kind Real e = tt
is_number_kind Integer e = tt
is_number_kind Boolean e = let f : false ≡ true = e in cc
is_number_kind String e = let f : false ≡ true = e in cc
is_number_kind (Enumeration class) e = let f : false ≡ true = e in cc

pub numeric_kind : (place : Place) (a k : Kind) → numeric place a ≡ Ok k → IsNumber a × (a ≡ k)
numeric_kind place a k e = let u = under (is_number a) (Ok a) _ k e in (is_number_kind a u.0, ok_same a k u.1)

pub real_kind : (place : Place) (a k : Kind) → real_of place a ≡ Ok k → IsNumber a × (Real ≡ k)
real_kind place a k e = let u = after (numeric place a) (λ _. Ok Real) k e in ((numeric_kind place a u.0 u.1).0, ok_same Real k u.2)

pub data IsKept : Kind → Type 0 where
  a_number : {k : Kind} → IsNumber k → IsKept k
  a_truth : IsKept Boolean

pub kept_kind_of : (place : Place) (a k : Kind) → kept place a ≡ Ok k → IsKept a × (a ≡ k)
kept_kind_of place Real k e = (a_number tt, ok_same Real k e)
kept_kind_of place Integer k e = (a_number tt, ok_same Integer k e)
kept_kind_of place Boolean k e = (a_truth, ok_same Boolean k e)
kept_kind_of place String k e = absurd (not_broken _ k e)
kept_kind_of place (Enumeration class) k e = absurd (not_broken _ k e)

wider_kinds : (a b : Kind) → IsNumber a → IsNumber b → IsNumber (wider a b) × Widens a (wider a b) × Widens b (wider a b)
wider_kinds Real Real p q = (tt, λ o h. h, λ o h. h)
wider_kinds Real Integer p q = (tt, λ o h. h, number_widens Integer tt)
wider_kinds Integer Real p q = (tt, number_widens Integer tt, λ o h. h)
wider_kinds Integer Integer p q = (tt, λ o h. h, λ o h. h)
wider_kinds Boolean b p q = absurd p
wider_kinds String b p q = absurd p
wider_kinds (Enumeration class) b p q = absurd p
wider_kinds Real Boolean p q = absurd q
wider_kinds Real String p q = absurd q
wider_kinds Real (Enumeration class) p q = absurd q
wider_kinds Integer Boolean p q = absurd q
wider_kinds Integer String p q = absurd q
wider_kinds Integer (Enumeration class) p q = absurd q

pub both_kinds : (place : Place) (a b k : Kind) → both_numeric place a b ≡ Ok k → IsNumber k × Widens a k × Widens b k
both_kinds place a b k e =
    let one = after (numeric place a) (λ a. and_then (numeric place b) (λ b. Ok (wider a b))) k e in
    let two = after (numeric place b) (λ b. Ok (wider one.0 b)) k one.2 in
    let p = numeric_kind place a one.0 one.1 in
    let q = numeric_kind place b two.0 two.1 in
    let w = wider_kinds a b p.0 q.0 in
    let is : wider a b ≡ k = ap (λ x. wider x b) p.1 ∙ (ap (λ x. wider one.0 x) q.1 ∙ ok_same (wider one.0 two.0) k two.2) in
    (subst IsNumber is w.0, through a (wider a b) k w.1 (same_widens (wider a b) k is), through b (wider a b) k w.2 (same_widens (wider a b) k is))
