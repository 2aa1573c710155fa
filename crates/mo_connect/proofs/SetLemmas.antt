-- The gathered sets are the connection sets.
use Rattle.std.proofs.Common.{◌≡◌, ℕ, zero, suc, ◌+◌, ◌-◌, ◌/◌, ◌<◌, ◌≤◌, inl, inr, ◌⊎◌, Bool, true, false, List, [], ◌∷◌, ◌++◌, Option, Some, None, length, get_or, if◌then◌else◌, refl, sym, ◌∙◌, subst, arith, length-append}
use Rattle.std.proofs.lemmas.List.{get_or-append-add}
use Rattle.std.proofs.lemmas.Bool.Decides.{eqb_tells}
use Rattle.std.proofs.Math.ListN.{get_or-append}
use Rattle.mo_flat.specs.declared.connect.FaceSet.{FaceSet}
use Rattle.mo_connect.specs.declared.declared.Declared.{Declared}
use Rattle.mo_connect.specs.Joins.{IsAt}
use Rattle.mo_connect.specs.steps.Gathering.{labelled, set_with, set_from, sets_below}
use Rattle.mo_connect.proofs.LabelledLemmas.{at_append}

-- one set, or none
pub record IsSetFrom (members : List (ℕ × Bool)) (d : Option Declared) (s : FaceSet) : Type 0 where
  pub declared : Declared
  pub known : d ≡ Some declared
  pub is : s ≡ set_with members declared
  pub enough : (1 < length members) ⊎ ((v : ℕ) × (members ≡ (v, false) ∷ []) × (declared.listed ≡ true))

at_single : (x s : FaceSet) (k : ℕ) → IsAt (x ∷ []) k s → x ≡ s
at_single x s k at =
    let within : k < 1 = at.within in
    let first : k ≡ 0 = omega arith in
    let P : ℕ → Type 0 = λ m. IsAt (x ∷ []) m s in
    let here : IsAt (x ∷ []) 0 s = subst P first at in
    here.is

lone_cases : (v : ℕ) (e : Declared) (listed : Bool) → e.listed ≡ listed → (k : ℕ) (s : FaceSet)
    → IsAt (if listed then set_with ((v, false) ∷ []) e ∷ [] else []) k s → IsSetFrom ((v, false) ∷ []) (Some e) s
lone_cases v e true is k s at = record { declared = e; known = refl; is = sym (at_single (set_with ((v, false) ∷ []) e) s k at); enough = inr (v, refl, is) }
lone_cases v e false is k s at = let within : k < 0 = at.within in absurd (omega arith)

pub set_from_at : (members : List (ℕ × Bool)) (d : Option Declared) (k : ℕ) (s : FaceSet) → IsAt (set_from members d) k s → IsSetFrom members d s
set_from_at [] d k s at = let within : k < 0 = at.within in absurd (omega arith)
set_from_at ((v, true) ∷ []) (Some e) k s at = let within : k < 0 = at.within in absurd (omega arith)
set_from_at ((v, false) ∷ []) (Some e) k s at = lone_cases v e e.listed refl k s at
set_from_at (a ∷ []) None k s at = let within : k < 0 = at.within in absurd (omega arith)
set_from_at (a ∷ b ∷ more) (Some e) k s at =
    record { declared = e; known = refl; is = sym (at_single (set_with (a ∷ b ∷ more) e) s k at); enough = inl (omega arith) }
set_from_at (a ∷ b ∷ more) None k s at = let within : k < 0 = at.within in absurd (omega arith)

pub pair_from : (members : List (ℕ × Bool)) (d : Option Declared) (e : Declared) → 1 < length members → d ≡ Some e → set_from members d ≡ set_with members e ∷ []
pair_from [] d e two is = absurd (omega arith)
pair_from (a ∷ []) d e two is = absurd (omega arith)
pair_from (a ∷ b ∷ more) d e two is = rw is refl

pub lone_from : (v : ℕ) (d : Option Declared) (e : Declared) → d ≡ Some e → e.listed ≡ true → set_from ((v, false) ∷ []) d ≡ set_with ((v, false) ∷ []) e ∷ []
lone_from v d e is listed = rw is (rw listed refl)

at_left : {X : Type 0} (xs ys : List X) (k : ℕ) (x : X) → IsAt xs k x → IsAt (xs ++ ys) k x
at_left xs ys k x at =
    let size : length (xs ++ ys) ≡ length xs + length ys = length-append xs ys in
    let within : k < length xs = at.within in
    record { within = omega arith; is = get_or-append xs ys x k within ∙ at.is }

at_right : {X : Type 0} (xs ys : List X) (k : ℕ) (x : X) → IsAt ys k x → IsAt (xs ++ ys) (length xs + k) x
at_right xs ys k x at =
    let size : length (xs ++ ys) ≡ length xs + length ys = length-append xs ys in
    let within : k < length ys = at.within in
    record { within = omega arith; is = get_or-append-add xs ys k x ∙ at.is }

abbrev set_at : List ℕ → List (Option Declared) → ℕ → List FaceSet
set_at labels table r = set_from (labelled labels r (length labels)) (get_or table (r / 2) None)

-- the set of label r
pub record IsSetOf (labels : List ℕ) (table : List (Option Declared)) (n : ℕ) (s : FaceSet) (r : ℕ) : Type 0 where
  pub small : r < n
  pub from : IsSetFrom (labelled labels r (length labels)) (get_or table (r / 2) None) s

pub below_at : (labels : List ℕ) (table : List (Option Declared)) (n k : ℕ) (s : FaceSet) → IsAt (sets_below labels table n) k s → (r : ℕ) × IsSetOf labels table n s r
below_at labels table zero k s at = let within : k < 0 = at.within in absurd (omega arith)
below_at labels table (suc n) k s at = elim (at_append (sets_below labels table n) (set_at labels table n) k s at) [
  | inl old ↦
      let (r, is) = below_at labels table n k s old in
      let small : r < n = is.small in
      (r, record { small = omega arith; from = is.from })
  | inr new ↦ (n, record { small = omega arith; from = set_from_at (labelled labels n (length labels)) (get_or table (n / 2) None) (k - length (sets_below labels table n)) s new.1 })
]

pub below_all : (labels : List ℕ) (table : List (Option Declared)) (n r : ℕ) (s : FaceSet) → r < n → set_at labels table r ≡ s ∷ [] → (k : ℕ) × IsAt (sets_below labels table n) k s
below_all labels table zero r s less is = absurd (omega arith)
below_all labels table (suc n) r s less is = elim (eqb_tells r n) [
  | inl e ↦
      let P : ℕ → Type 0 = λ m. set_at labels table m ≡ s ∷ [] in
      let here : set_at labels table n ≡ s ∷ [] = subst P e.1 is in
      let Q : List FaceSet → Type 0 = λ l. IsAt l 0 s in
      let first : IsAt (s ∷ []) 0 s = record { within = omega arith; is = refl } in
      (length (sets_below labels table n) + 0, at_right (sets_below labels table n) (set_at labels table n) 0 s (subst Q (sym here) first))
  | inr e ↦
      let (k, there) = below_all labels table n r s (omega (arith, e.1)) is in
      (k, at_left (sets_below labels table n) (set_at labels table n) k s there)
]

-- two sets with their labels
pub record AreSetsOf (labels : List ℕ) (table : List (Option Declared)) (n : ℕ) (s t : FaceSet) : Type 0 where
  pub first : ℕ
  pub second : ℕ
  pub less : first < second
  pub first_is : IsSetOf labels table n s first
  pub second_is : IsSetOf labels table n t second

few_lone : (v : ℕ) (e : Declared) (listed : Bool) (k : ℕ) (s : FaceSet) → IsAt (if listed then set_with ((v, false) ∷ []) e ∷ [] else []) k s → k ≡ 0
few_lone v e true k s at = let within : k < 1 = at.within in omega arith
few_lone v e false k s at = let within : k < 0 = at.within in absurd (omega arith)

few_sets : (members : List (ℕ × Bool)) (d : Option Declared) (k : ℕ) (s : FaceSet) → IsAt (set_from members d) k s → k ≡ 0
few_sets [] d k s at = let within : k < 0 = at.within in absurd (omega arith)
few_sets ((v, true) ∷ []) (Some e) k s at = let within : k < 0 = at.within in absurd (omega arith)
few_sets ((v, false) ∷ []) (Some e) k s at = few_lone v e e.listed k s at
few_sets (a ∷ []) None k s at = let within : k < 0 = at.within in absurd (omega arith)
few_sets (a ∷ b ∷ more) (Some e) k s at = let within : k < 1 = at.within in omega arith
few_sets (a ∷ b ∷ more) None k s at = let within : k < 0 = at.within in absurd (omega arith)

pub below_ordered : (labels : List ℕ) (table : List (Option Declared)) (n j k : ℕ) (s t : FaceSet) → IsAt (sets_below labels table n) j s → IsAt (sets_below labels table n) k t
    → j < k → AreSetsOf labels table n s t
below_ordered labels table zero j k s t at_s at_t less = let within : k < 0 = at_t.within in absurd (omega arith)
below_ordered labels table (suc n) j k s t at_s at_t less =
    let olds : List FaceSet = sets_below labels table n in
    elim (at_append olds (set_at labels table n) k t at_t) [
      | inl old_t ↦ elim (at_append olds (set_at labels table n) j s at_s) [
        | inl old_s ↦
            let both = below_ordered labels table n j k s t old_s old_t less in
            let f = both.first_is.small in
            let g = both.second_is.small in
            record {
              first = both.first;
              second = both.second;
              less = both.less;
              first_is = record { small = omega arith; from = both.first_is.from };
              second_is = record { small = omega arith; from = both.second_is.from };
            }
        | inr new_s ↦ let far = new_s.0 in let within = old_t.within in absurd (omega arith)
      ]
      | inr new_t ↦
          let last : k - length olds ≡ 0 = few_sets (labelled labels n (length labels)) (get_or table (n / 2) None) (k - length olds) t new_t.1 in
          let far' : length olds ≤ k = new_t.0 in
          elim (at_append olds (set_at labels table n) j s at_s) [
            | inl old_s ↦
                let (r, is) = below_at labels table n j s old_s in
                let small : r < n = is.small in
                record {
                  first = r;
                  second = n;
                  less = small;
                  first_is = record { small = omega arith; from = is.from };
                  second_is = record { small = omega arith; from = set_from_at (labelled labels n (length labels)) (get_or table (n / 2) None) (k - length olds) t new_t.1 };
                }
            | inr new_s ↦ let far : length olds ≤ j = new_s.0 in absurd (omega arith)
          ]
    ]
