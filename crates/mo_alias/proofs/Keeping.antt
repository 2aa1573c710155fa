-- Tables by which the model without aliases is made.
use Rattle.std.proofs.Common.{◌≡◌, ℕ, zero, suc, ◌+◌, ◌<◌, ◌≤◌, Bool, true, false, inl, inr, List, [], ◌∷◌, Option, Some, None, get_or, length, refl, sym, ap, ◌∙◌, arith, if◌then◌else◌}
use Rattle.std.specs.Prelude.{nat_eq, not}
use Rattle.std.specs.List.{list_any}
use Rattle.std.proofs.lemmas.Bool.{cases_lt, lt-ltb, le-ltb}
use Rattle.std.proofs.lemmas.List.{get_or_past}
use Rattle.mo_flat.specs.declared.model.FlatModel.{FlatModel}
use Rattle.mo_flat.specs.declared.model.FlatVar.{FlatVar}
use Rattle.mo_flat.specs.Roles.{is_unknown_role, unknown_numbers, unknowns_from}
use Rattle.mo_alias.specs.declared.found.Aliases.{Aliases}
use Rattle.mo_alias.specs.declared.found.Gone.{Gone}
use Rattle.mo_alias.specs.Numbers.{number_among, numbers_among, numbers_from, variable_of}
use Rattle.mo_alias.specs.steps.Placing.{flag_at, place_at, place_by, stays_by}
use Rattle.mo_alias.specs.Without.{gone_at, is_absent, is_kept, kept_from, kept_to, place, place_of, stays, without, without_by}
use Rattle.mo_alias.proofs.Bounding.{number_within}

numbers_length : (n : ℕ) (vars : List FlatVar) → length (numbers_from n vars) ≡ length vars
numbers_length n [] = refl
numbers_length n (v ∷ vs) = by (is_unknown_role (Some v.role)) (numbers_length (n + 1) vs) (numbers_length n vs)
  where
    by : (b : Bool) → length (numbers_from (n + 1) vs) ≡ length vs → length (numbers_from n vs) ≡ length vs
        → length (if b then (n + 1) ∷ numbers_from (n + 1) vs else 0 ∷ numbers_from n vs) ≡ suc (length vs)
    by true e f = ap suc e
    by false e f = ap suc f

pub all_numbers : (vars : List FlatVar) → length (numbers_among vars) ≡ length vars + 1
all_numbers vars = let e = numbers_length 0 vars in omega (arith, e)

pub known_low : (vars : List FlatVar) (numbers : List ℕ) (count : ℕ) (said : List (Option Gone)) → numbers ≡ numbers_among vars → count ≡ length (unknown_numbers vars)
    → length said ≡ count + 1 → (v : ℕ) → get_or numbers v 0 < length said
known_low vars numbers count said is all size v = rw is (let l = number_within vars v in omega (arith, l, all, size))

-- an unknown is one of the variables
variable_low : (m : ℕ) (vars : List FlatVar) (u : ℕ) → get_or (unknowns_from (m + 1) vars) u 0 ≤ m + length vars
variable_low m [] u = omega arith
variable_low m (x ∷ vs) u = by (is_unknown_role (Some x.role)) u (λ w. variable_low (m + 1) vs w)
  where
    by : (b : Bool) (u : ℕ) → ((w : ℕ) → get_or (unknowns_from (m + 1 + 1) vs) w 0 ≤ m + 1 + length vs)
        → get_or (if b then (m + 1) ∷ unknowns_from (m + 1 + 1) vs else unknowns_from (m + 1 + 1) vs) u 0 ≤ m + suc (length vs)
    by true zero e = omega arith
    by true (suc w) e = let l = e w in omega (arith, l)
    by false u e = let l = e u in omega (arith, l)

pub kept_to_same : (keep other : ℕ → Bool) (n : ℕ) → ((k : ℕ) → k ≤ n → keep k ≡ other k) → kept_to keep n ≡ kept_to other n
kept_to_same keep other zero same = refl
kept_to_same keep other (suc n) same =
    rw (same (suc n) (omega arith), kept_to_same keep other n (λ k l. same k (omega (arith, l)))) refl

pub kept_from_same : {A : Type 0} (keep other : ℕ → Bool) (n : ℕ) (xs : List A) → ((k : ℕ) → k < n + length xs → keep k ≡ other k) → kept_from keep n xs ≡ kept_from other n xs
kept_from_same keep other n [] same = refl
kept_from_same keep other n (x ∷ xs) same =
    rw (same n (omega arith), kept_from_same keep other (n + 1) xs (λ k l. same k (omega (arith, l)))) refl

pub variable_within : (vars : List FlatVar) (u : ℕ) → variable_of vars u ≤ length vars
variable_within vars zero = omega arith
variable_within vars (suc u) = let l = variable_low 0 vars u in omega (arith, l)

module _ (vars : List FlatVar) (gone : List Gone) (numbers : List ℕ) (said : List (Option Gone)) (flags : List Bool) (new variables : List ℕ) (table : List (Bool × ℕ))
    (numbers-is : numbers ≡ numbers_among vars) (variables-is : variables ≡ 0 ∷ unknown_numbers vars)
    (said-is : (u : ℕ) → u ≤ length (unknown_numbers vars) → get_or said u None ≡ gone_at gone u)
    (flags-length : length flags ≡ length numbers) (flags-is : (v : ℕ) → v < length numbers → flag_at flags v ≡ stays_by said (get_or numbers v 0))
    (new-is : (v : ℕ) → v < length flags → get_or new v 0 ≡ kept_to (flag_at flags) v)
    (table-length : length table ≡ length numbers)
    (table-is : (v : ℕ) → v < length numbers → place_at table v ≡ place_by new variables (get_or said (get_or numbers v 0) None) v) where
  size : length numbers ≡ length vars + 1
  size = ap length numbers-is ∙ all_numbers vars

  said_of : (v : ℕ) → get_or said (get_or numbers v 0) None ≡ gone_at gone (number_among vars v)
  said_of v = rw numbers-is (said-is (number_among vars v) (number_within vars v))

  pub flag_is : (v : ℕ) → v ≤ length vars → flag_at flags v ≡ stays vars gone v
  flag_is v l = flags-is v (omega (arith, size, l)) ∙ ap is_absent (said_of v)

  new_number_is : (v : ℕ) → v ≤ length vars → get_or new v 0 ≡ kept_to (stays vars gone) v
  new_number_is v l =
      new-is v (omega (arith, size, flags-length, l)) ∙ kept_to_same (flag_at flags) (stays vars gone) v (λ k below. flag_is k (omega (arith, below, l)))

  by_what_is_said : (o : Option Gone) (v : ℕ) → v ≤ length vars → place_by new variables o v ≡ place_of vars gone o v
  by_what_is_said None v l = ap (λ (n : ℕ). (false, n)) (new_number_is v l)
  by_what_is_said (Some g) v l =
      ap (λ (n : ℕ). (g.minus, n)) (ap (λ (vs : List ℕ). get_or new (get_or vs g.of 0) 0) variables-is ∙ new_number_is (variable_of vars g.of) (variable_within vars g.of))

  place_at_is : (v : ℕ) → place_at table v ≡ place vars gone v
  place_at_is v = elim (cases_lt (length vars) v) [
    | inl above ↦ get_or_past table v (false, v) (omega (arith, table-length, size, above)) ∙ sym (rw (lt-ltb (length vars) v above) refl)
    | inr below ↦
        table-is v (omega (arith, size, below)) ∙ ap (λ (o : Option Gone). place_by new variables o v) (said_of v)
        ∙ by_what_is_said (gone_at gone (number_among vars v)) v below ∙ sym (rw (le-ltb (length vars) v below) refl)
  ]

  pub places_are : place_at table ≡ place vars gone
  places_are = λ i v. place_at_is v i

pub without_same : (m : FlatModel) (a : Aliases) (places : ℕ → Bool × ℕ) (flags out : List Bool) → places ≡ place m.vars a.gone
    → ((v : ℕ) → v ≤ length m.vars → flag_at flags v ≡ stays m.vars a.gone v)
    → ((i : ℕ) → i ≤ length m.equations → flag_at out i ≡ list_any (nat_eq i) a.dropped)
    → without_by places (flag_at flags) (λ i. not (flag_at out i)) m ≡ without m a
without_same m a places flags out p f o =
    let vs : kept_from (flag_at flags) 1 m.vars ≡ kept_from (stays m.vars a.gone) 1 m.vars =
    kept_from_same (flag_at flags) (stays m.vars a.gone) 1 m.vars (λ k l. f k (omega (arith, l))) in
    let es : kept_from (λ i. not (flag_at out i)) 1 m.equations ≡ kept_from (is_kept a.dropped) 1 m.equations =
    kept_from_same (λ i. not (flag_at out i)) (is_kept a.dropped) 1 m.equations (λ k l. ap not (o k (omega (arith, l)))) in
    rw (vs, es, p) refl

-- where the tables are made by lists that are equal
pub without_made : (m : FlatModel) (a : Aliases) (places : ℕ → Bool × ℕ) (flags out : List Bool) (vs : List FlatVar) (gs : List Gone) (ds : List ℕ) (n : ℕ)
    → vs ≡ m.vars → gs ≡ a.gone → ds ≡ a.dropped → n ≡ length m.equations → places ≡ place vs gs
    → ((v : ℕ) → v ≤ length vs → flag_at flags v ≡ stays vs gs v)
    → ((i : ℕ) → i ≤ n → flag_at out i ≡ list_any (nat_eq i) ds)
    → without_by places (flag_at flags) (λ i. not (flag_at out i)) m ≡ without m a
without_made m a places flags out vs gs ds n v_is g_is d_is n_is p f o =
    let size : length vs ≡ length m.vars = ap length v_is in
    without_same m a places flags out (p ∙ (λ i. place (v_is i) (g_is i))) (λ v l. f v (omega (arith, l, size)) ∙ (λ i. stays (v_is i) (g_is i) v))
    (λ k l. o k (omega (arith, l, n_is)) ∙ ap (list_any (nat_eq k)) d_is)
