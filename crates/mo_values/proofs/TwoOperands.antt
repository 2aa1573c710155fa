-- Operands of `div`, `mod` and `rem`: two scalar Integers.
use Rattle.std.proofs.Common.{◌≡◌, suc, Bool, true, false, List, [], ◌∷◌, length, get_or, Ok, Err, refl, ap, sym, subst, ◌∙◌, nat_eq, eqb-true, arith}
use Rattle.std.specs.Prelude.{◌&&◌, if◌then◌else◌}
use Rattle.std.specs.List.{list_all}
use Rattle.mo_syntax.specs.Outcome.{Outcome, and_then, breaks}
use Rattle.mo_syntax.specs.declared.meaning.Kind.{Kind}
use Rattle.mo_syntax.specs.declared.place.Broken.{Broken}
use Rattle.mo_syntax.specs.declared.place.Place.{Place}
use Rattle.mo_syntax.specs.declared.place.Stop.{Stop}
use Rattle.mo_syntax.specs.declared.place.Stop.TheVariants.{Broken as broken_by, NoMemory as no_memory}
use Rattle.mo_flat.specs.declared.array.ArrayExpr.{ArrayExpr}
use Rattle.mo_syntax.specs.declared.rules.TheConstants.{WRONG_TYPE}
use Rattle.mo_typing.specs.Outcome.{Gives, each}
use Rattle.mo_typing.specs.Dims.{Dims, dims_of, scalars}
use Rattle.mo_typing.specs.Kinds.{kind_of}
use Rattle.mo_typing.specs.Subscripts.{Checked, fine, every, subscripts_of}
use Rattle.mo_values.specs.Asked.{checked_operands, is_whole}
use Rattle.mo_values.specs.steps.Operands.{are_two, checked_two}

abbrev pub all_whole : Bool → List Kind → Outcome Bool
all_whole so_far kinds = Ok (so_far && list_all is_whole kinds)

and_assoc : (a b c : Bool) → (a && (b && c)) ≡ ((a && b) && c)
and_assoc true b c = refl
and_assoc false b c = refl

pub whole_more : (w : Bool) (x : ArrayExpr) (xs : List ArrayExpr) (kind : Kind) → kind_of x ≡ Ok kind →
    and_then (each kind_of (x ∷ xs)) (all_whole w) ≡ and_then (each kind_of xs) (all_whole (w && is_whole kind))
whole_more w x xs kind h = rw h (go (each kind_of xs))
  where
    go : (o : Outcome (List Kind)) → and_then (and_then {B = List Kind} o (λ kinds. Ok (kind ∷ kinds))) (all_whole w) ≡ and_then o (all_whole (w && is_whole kind))
    go (Ok kinds) = ap Ok (and_assoc w (is_whole kind) (list_all is_whole kinds))
    go (Err broken) = refl

pub whole_halts : (w : Bool) (x : ArrayExpr) (xs : List ArrayExpr) (broken : Broken) → kind_of x ≡ Err broken → and_then (each kind_of (x ∷ xs)) (all_whole w) ≡ Err broken
whole_halts w x xs broken h = rw h refl

abbrev behind_kinds : Place → List ArrayExpr → List Kind → Checked
behind_kinds place operands kinds =
    and_then (if nat_eq (length kinds) 2 && list_all is_whole kinds then fine else breaks WRONG_TYPE place) (λ _.
    and_then (each dims_of operands) (λ dims.
    and_then (scalars place dims) (λ _. every subscripts_of operands)))

pub kinds_halt : (place : Place) (operands : List ArrayExpr) (broken : Broken) → and_then (each kind_of operands) (λ kinds. Ok (list_all is_whole kinds)) ≡ Err broken →
    checked_operands place operands ≡ Err broken
kinds_halt place operands broken h = go (each kind_of operands) h
  where
    go : (o : Outcome (List Kind)) → and_then {B = Bool} o (λ kinds. Ok (list_all is_whole kinds)) ≡ Err broken → and_then o (behind_kinds place operands) ≡ Err broken
    go (Ok kinds) e = absurd (let clash : ◌≡◌ {A = Outcome Bool} (Ok (list_all is_whole kinds)) (Err broken) = e in cc)
    go (Err other) e = let same : other ≡ broken = cc in ap Err same

each_counts : (operands : List ArrayExpr) (kinds : List Kind) → each kind_of operands ≡ Ok kinds → length kinds ≡ length operands
each_counts [] kinds h = let same : [] ≡ kinds = cc in ap length (sym same)
each_counts (x ∷ xs) kinds h = first (kind_of x) (each kind_of xs) refl h (each_counts xs)
  where
    first : (k : Outcome Kind) (ks : Outcome (List Kind)) → each kind_of xs ≡ ks → and_then {B = List Kind} k (λ kind. and_then ks (λ others. Ok (kind ∷ others))) ≡ Ok kinds →
        ((others : List Kind) → each kind_of xs ≡ Ok others → length others ≡ length xs) → length kinds ≡ suc (length xs)
    first (Ok kind) (Ok others) e k counts =
        let same : (kind ∷ others) ≡ kinds = cc in
        ap length (sym same) ∙ ap suc (counts others e)
    first (Ok kind) (Err broken) e k counts = absurd (let clash : ◌≡◌ {A = Outcome (List Kind)} (Err broken) (Ok kinds) = k in cc)
    first (Err broken) ks e k counts = absurd (let clash : ◌≡◌ {A = Outcome (List Kind)} (Err broken) (Ok kinds) = k in cc)

not_two_long : (operands : List ArrayExpr) → are_two operands ≡ false → length operands ≡ 2 → ◌≡◌ {A = Bool} true false
not_two_long [] e h = absurd (omega arith)
not_two_long (a ∷ []) e h = absurd (omega arith)
not_two_long (a ∷ b ∷ []) e h = e
not_two_long (a ∷ b ∷ c ∷ more) e h = absurd (omega arith)

pub not_two : (place : Place) (operands : List ArrayExpr) (whole : Bool) → and_then (each kind_of operands) (λ kinds. Ok (list_all is_whole kinds)) ≡ Ok whole → are_two operands ≡ false →
    checked_operands place operands ≡ breaks WRONG_TYPE place
not_two place operands whole h none = go (each kind_of operands) refl h
  where
    by : (kinds : List Kind) (b : Bool) → nat_eq (length kinds) 2 ≡ b → length kinds ≡ length operands →
        and_then {B = Unit {0}} (if b && list_all is_whole kinds then fine else breaks WRONG_TYPE place) (λ _.
        and_then (each dims_of operands) (λ dims.
        and_then (scalars place dims) (λ _. every subscripts_of operands))) ≡ breaks WRONG_TYPE place
    by kinds false e counted = refl
    by kinds true e counted = absurd (let clash = not_two_long operands none (sym counted ∙ eqb-true (length kinds) 2 e) in cc)

    go : (o : Outcome (List Kind)) → each kind_of operands ≡ o → and_then {B = Bool} o (λ kinds. Ok (list_all is_whole kinds)) ≡ Ok whole → and_then o (behind_kinds place operands) ≡ breaks WRONG_TYPE place
    go (Ok kinds) is e = by kinds (nat_eq (length kinds) 2) refl (each_counts operands kinds is)
    go (Err broken) is e = absurd (let clash : ◌≡◌ {A = Outcome Bool} (Err broken) (Ok whole) = e in cc)

pub not_whole : (place : Place) (operands : List ArrayExpr) → and_then (each kind_of operands) (λ kinds. Ok (list_all is_whole kinds)) ≡ Ok false →
    checked_operands place operands ≡ breaks WRONG_TYPE place
not_whole place operands h = go (each kind_of operands) h
  where
    by : (a b : Bool) → b ≡ false →
        and_then {B = Unit {0}} (if a && b then fine else breaks WRONG_TYPE place) (λ _.
        and_then (each dims_of operands) (λ dims.
        and_then (scalars place dims) (λ _. every subscripts_of operands))) ≡ breaks WRONG_TYPE place
    by false b e = refl
    by true false e = refl
    by true true e = absurd (cc)

    go : (o : Outcome (List Kind)) → and_then {B = Bool} o (λ kinds. Ok (list_all is_whole kinds)) ≡ Ok false → and_then o (behind_kinds place operands) ≡ breaks WRONG_TYPE place
    go (Ok kinds) e = by (nat_eq (length kinds) 2) (list_all is_whole kinds) (let same : ◌≡◌ {A = Outcome Bool} (Ok (list_all is_whole kinds)) (Ok false) = e in cc)
    go (Err broken) e = absurd (let clash : ◌≡◌ {A = Outcome Bool} (Err broken) (Ok false) = e in cc)

dims_two : (place : Place) (a b : ArrayExpr) →
    and_then (each dims_of (a ∷ b ∷ [])) (λ dims. and_then (scalars place dims) (λ _. every subscripts_of (a ∷ b ∷ []))) ≡ checked_two place a b
dims_two place a b = go (dims_of a) (dims_of b)
  where
    outside : (x y : Checked) → and_then {B = Unit {0}} (and_then {B = List (Unit {0})} x (λ u. and_then (and_then {B = List (Unit {0})} y (λ v. Ok (v ∷ []))) (λ vs. Ok (u ∷ vs)))) (λ _. fine) ≡ and_then x (λ _. y)
    outside (Ok u) (Ok v) = refl
    outside (Ok u) (Err broken) = refl
    outside (Err broken) y = refl

    scalar : (o : Outcome Dims) → and_then o (λ _. every subscripts_of (a ∷ b ∷ [])) ≡ and_then o (λ _. and_then (subscripts_of a) (λ _. subscripts_of b))
    scalar (Ok dims) = outside (subscripts_of a) (subscripts_of b)
    scalar (Err broken) = refl

    go : (x y : Outcome Dims) →
        and_then {B = Unit {0}} (and_then {B = List Dims} x (λ m. and_then (and_then {B = List Dims} y (λ n. Ok (n ∷ []))) (λ ns. Ok (m ∷ ns)))) (λ dims. and_then (scalars place dims) (λ _. every subscripts_of (a ∷ b ∷ [])))
        ≡ and_then x (λ m. and_then y (λ n. and_then (scalars place (m ∷ n ∷ [])) (λ _. and_then (subscripts_of a) (λ _. subscripts_of b))))
    go (Ok m) (Ok n) = scalar (scalars place (m ∷ n ∷ []))
    go (Ok m) (Err broken) = refl
    go (Err broken) y = refl

pub two_checked : (place : Place) (operands : List ArrayExpr) (a b : ArrayExpr) → operands ≡ a ∷ b ∷ [] → and_then (each kind_of operands) (λ kinds. Ok (list_all is_whole kinds)) ≡ Ok true →
    checked_operands place operands ≡ checked_two place a b
two_checked place operands a b is h = ap (checked_operands place) is ∙ go (kind_of a) (kind_of b) (subst (λ (xs : List ArrayExpr). and_then (each kind_of xs) (λ kinds. Ok (list_all is_whole kinds)) ≡ Ok true) is h)
  where
    two : (k l : Bool) → (k && (l && true)) ≡ true →
        and_then {B = Unit {0}} (if k && (l && true) then fine else breaks WRONG_TYPE place) (λ _.
        and_then (each dims_of (a ∷ b ∷ [])) (λ dims.
        and_then (scalars place dims) (λ _. every subscripts_of (a ∷ b ∷ [])))) ≡ checked_two place a b
    two true true e = dims_two place a b
    two true false e = absurd (cc)
    two false l e = absurd (cc)

    go : (x y : Outcome Kind) →
        and_then {B = Bool} (and_then {B = List Kind} x (λ k. and_then (and_then {B = List Kind} y (λ l. Ok (l ∷ []))) (λ ls. Ok (k ∷ ls)))) (λ kinds. Ok (list_all is_whole kinds)) ≡ Ok true →
        and_then (and_then {B = List Kind} x (λ k. and_then (and_then {B = List Kind} y (λ l. Ok (l ∷ []))) (λ ls. Ok (k ∷ ls)))) (behind_kinds place (a ∷ b ∷ [])) ≡ checked_two place a b
    go (Ok k) (Ok l) e = two (is_whole k) (is_whole l) (let same : ◌≡◌ {A = Outcome Bool} (Ok (is_whole k && (is_whole l && true))) (Ok true) = e in cc)
    go (Ok k) (Err broken) e = absurd (let clash : ◌≡◌ {A = Outcome Bool} (Err broken) (Ok true) = e in cc)
    go (Err broken) y e = absurd (let clash : ◌≡◌ {A = Outcome Bool} (Err broken) (Ok true) = e in cc)

and_true : (b : Bool) → b ≡ (b && true)
and_true true = refl
and_true false = refl

pub all_asked : (operands : List ArrayExpr) (whole : Bool) → and_then (each kind_of []) (all_whole whole) ≡ and_then (each kind_of operands) (all_whole true) →
    Ok whole ≡ and_then (each kind_of operands) (λ kinds. Ok (list_all is_whole kinds))
all_asked operands whole h = ap Ok (and_true whole) ∙ h

-- two elements of a list of two
pub both_of : (xs : List ArrayExpr) (a b : ArrayExpr) → length xs ≡ 2 → a ≡ get_or xs 0 a → b ≡ get_or xs 1 b → xs ≡ a ∷ b ∷ []
both_of [] a b counted h k = absurd (omega arith)
both_of (x ∷ []) a b counted h k = absurd (omega arith)
both_of (x ∷ y ∷ []) a b counted h k = ap (λ z. z ∷ y ∷ []) (sym h) ∙ ap (λ z. a ∷ z ∷ []) (sym k)
both_of (x ∷ y ∷ z ∷ more) a b counted h k = absurd (omega arith)

pub no_two : (xs : List ArrayExpr) → (length xs ≡ 2 → ⊥) → are_two xs ≡ false
no_two [] other = refl
no_two (x ∷ []) other = refl
no_two (x ∷ y ∷ []) other = absurd (other refl)
no_two (x ∷ y ∷ z ∷ more) other = refl

-- kinds that break a rule
pub kinds_asked : (place : Place) (operands : List ArrayExpr) (stop : Stop) → Gives {T = Bool} (Err stop) (and_then (each kind_of operands) (λ kinds. Ok (list_all is_whole kinds))) →
    Gives {T = Unit {0}} (Err stop) (checked_operands place operands)
kinds_asked place operands (broken_by broken) h = kinds_halt place operands broken h
kinds_asked place operands no_memory h = tt
