-- What a set of keys holds.
use Rattle.std.proofs.Common.{◌≡◌, ℕ, Bool, true, false, List, [], ◌∷◌, refl, ap, sym, ◌∙◌, Vec, Global, Ordering, Less, Equal, Greater}
use Rattle.std.specs.Prelude.{◌||◌}
use Rattle.std.specs.List.{list_any}
use Rattle.std.specs.Str.{bytes_eq}
use Rattle.std.specs.Ordering.{nat_cmp, match_ordering}
use Rattle.std.specs.Cmp.Lexicographic.{slice_cmp}
use Rattle.std.specs.BTreeMap.{is_at}
use Rattle.std.specs.BTreeSet.{insert_key}
use Rattle.std.proofs.lemmas.Map.Lookups.{exact_bytes}
use Rattle.std.proofs.lemmas.Map.Text.{is_eq-slice_cmp}

-- how the set orders keys
abbrev pub key_cmp : Vec ℕ Global → Vec ℕ Global → Ordering
key_cmp x y = slice_cmp nat_cmp x.items y.items

pub contains_same : (keys : List (Vec ℕ Global)) (key : Vec ℕ Global) → list_any (is_at (key_cmp key)) keys ≡ list_any (λ k. bytes_eq key.items k.items) keys
contains_same [] key = refl
contains_same (k ∷ keys) key = ap (λ b. b || list_any (is_at (key_cmp key)) keys) (is_eq-slice_cmp key.items k.items) ∙ ap (λ b. bytes_eq key.items k.items || b) (contains_same keys key)

or_twice : (a b : Bool) → (a || b) ≡ (a || (a || b))
or_twice true b = refl
or_twice false b = refl

or_swap : (a b c : Bool) → (a || (b || c)) ≡ (b || (a || c))
or_swap true true c = refl
or_swap true false c = refl
or_swap false true c = refl
or_swap false false c = refl

pub insert_holds : (keys : List (Vec ℕ Global)) (key : Vec ℕ Global) (other : List ℕ) →
    list_any (λ k. bytes_eq other k.items) (insert_key key_cmp keys key) ≡ (bytes_eq other key.items || list_any (λ k. bytes_eq other k.items) keys)
insert_holds [] key other = refl
insert_holds (x ∷ keys) key other = by_order (insert_holds keys key other) (key_cmp key x) refl
  where
    by_order : list_any (λ k. bytes_eq other k.items) (insert_key key_cmp keys key) ≡ (bytes_eq other key.items || list_any (λ k. bytes_eq other k.items) keys) → (o : Ordering) → key_cmp key x ≡ o →
        list_any (λ k. bytes_eq other k.items) (match_ordering o (key ∷ x ∷ keys) (x ∷ keys) (x ∷ insert_key key_cmp keys key))
        ≡ (bytes_eq other key.items || (bytes_eq other x.items || list_any (λ k. bytes_eq other k.items) keys))
    by_order more Less h = refl
    by_order more Equal h = or_twice (bytes_eq other x.items) (list_any (λ k. bytes_eq other k.items) keys)
        ∙ ap (λ i. bytes_eq other i || (bytes_eq other x.items || list_any (λ k. bytes_eq other k.items) keys)) (sym (exact_bytes key.items x.items h))
    by_order more Greater h = ap (λ b. bytes_eq other x.items || b) more ∙ or_swap (bytes_eq other x.items) (bytes_eq other key.items) (list_any (λ k. bytes_eq other k.items) keys)
