-- Tests that decide properties, of all elements of a list and of both of two.
use Rattle.std.proofs.Common.{◌≡◌, ℕ, ◌+◌, ◌<◌, ◌≤◌, Bool, true, false, ◌&&◌, List, length, take, get_or, is_some, All, refl, sym, subst, ◌∙◌}
use Rattle.std.specs.Prelude.{◌↔◌, IsTrue}
use Rattle.std.proofs.lemmas.List.{take_all}
use Rattle.std.proofs.lemmas.List.Elements.{All-more}
use Rattle.mo_flat.specs.declared.expr.FlatExpr.{FlatExpr}
use Rattle.mo_flat.specs.declared.model.FlatVar.{FlatVar}
use Rattle.mo_flat.specs.Sound.{IsSoundIn, IsSoundNumber, is_numeric, is_shaped, kind_of, orders_fit}

clash : {A : Type 0} (b : Bool) → b ≡ false → b ≡ true → A
clash {A} b p q = absurd (let no : false ≡ true = sym p ∙ q in cc)

module _ {X : Type 0} (P : X → Type 0) (xs : List X) (i : ℕ) (x : X) (small : i < length xs) (is : x ≡ get_or xs i x) where
  pub all_stop : (r : Bool) → (IsTrue r ↔ P x) → r ≡ false → (IsTrue false ↔ All P xs)
  all_stop r d fails = ((λ h. clash false refl h), (λ all. clash r fails (d.1 (subst P (sym is) (all i x small)))))

  pub all_next : (r : Bool) → (IsTrue r ↔ P x) → r ≡ true → All P (take i xs) → All P (take (i + 1) xs)
  all_next r d holds before = All-more P xs i x small before (subst P is (d.0 holds))

pub all_done : {X : Type 0} (P : X → Type 0) (xs : List X) (i : ℕ) → length xs ≤ i → All P (take i xs) → (IsTrue true ↔ All P xs)
all_done P xs i past all = ((λ h. subst (All P) (take_all i xs past) all), (λ h. refl))

-- what all of three tests say
pub record AllThree (a b c : Bool) : Type 0 where
  pub first : a ≡ true
  pub second : b ≡ true
  pub third : c ≡ true

pub all_three : (a b c : Bool) → (a && b && c) ≡ true → AllThree a b c
all_three true true true h = record { first = refl; second = refl; third = refl }
all_three false b c h = clash false refl (none b c h)
  where
    none : (b c : Bool) → (false && b && c) ≡ true → false ≡ true
    none true true h = h
    none true false h = h
    none false true h = h
    none false false h = h
all_three true false c h = clash false refl (none c h)
  where
    none : (c : Bool) → (true && false && c) ≡ true → false ≡ true
    none true h = h
    none false h = h
all_three true true false h = clash false refl h

pub three_are : (a b c : Bool) → a ≡ true → b ≡ true → c ≡ true → (a && b && c) ≡ true
three_are a b c p q r = rw (p, q, r) refl

pub sound_is : (vars : List FlatVar) (e : FlatExpr) (r shaped low some : Bool) → r ≡ (shaped && low && some) → shaped ≡ is_shaped vars e → low ≡ orders_fit 65535 e → some ≡ is_some (kind_of vars e) → (IsTrue r ↔ IsSoundIn vars e)
sound_is vars e r shaped low some is a b c = (
  (λ h.
      let all = all_three shaped low some (sym is ∙ h) in
      record { shaped = sym a ∙ all.first; kinds_agree = sym c ∙ all.third; orders = sym b ∙ all.second }),
  (λ s. is ∙ three_are shaped low some (a ∙ s.shaped) (b ∙ s.orders) (c ∙ s.kinds_agree)),
)

pub number_is : (vars : List FlatVar) (e : FlatExpr) (r sound numeric : Bool) → r ≡ (sound && numeric && true) → (IsTrue sound ↔ IsSoundIn vars e) → numeric ≡ is_numeric (kind_of vars e) → (IsTrue r ↔ IsSoundNumber 65535 vars e)
number_is vars e r sound numeric is d n = (
  (λ h. let all = all_three sound numeric true (sym is ∙ h) in record { sound = d.0 all.first; numeric = sym n ∙ all.second }),
  (λ s. is ∙ three_are sound numeric true (d.1 s.sound) (n ∙ s.numeric) refl),
)

-- two or three tests that decide the parts of a record
pub three_say : {A B C D : Type 0} (r a b c : Bool) → r ≡ (a && b && c) → (IsTrue a ↔ A) → (IsTrue b ↔ B) → (IsTrue c ↔ C) → (A → B → C → D) → (D → A) → (D → B) → (D → C) → (IsTrue r ↔ D)
three_say r a b c is da db dc make first second third = (
  (λ h. let all = all_three a b c (sym is ∙ h) in make (da.0 all.first) (db.0 all.second) (dc.0 all.third)),
  (λ d. is ∙ three_are a b c (da.1 (first d)) (db.1 (second d)) (dc.1 (third d))),
)

pub always : IsTrue true ↔ Unit {0}
always = ((λ h. tt), (λ u. refl))
