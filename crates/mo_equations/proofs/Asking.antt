-- The first rule that replacing the variables of an expression breaks is the first one of its variables from left to right.
use Rattle.std.proofs.Common.{◌≡◌, ℕ, zero, suc, ◌<◌, length, take, get_or, arith, Bool, List, [], ◌∷◌, ◌++◌, flat_map, map, Ok, Err, refl, ap, ◌∙◌, sym}
use Rattle.std.proofs.lemmas.List.Folds.{flat_map-map}
use Rattle.mo_syntax.specs.Outcome.{Outcome, and_then}
use Rattle.mo_syntax.specs.declared.place.Broken.{Broken}
use Rattle.mo_flat.specs.declared.expr.FlatExpr.{FlatExpr, FlatExpr-F, map-FlatExpr}
use Rattle.mo_flat.specs.declared.expr.FlatExpr as flat
use Rattle.mo_scope.specs.Places.{Every}
use Rattle.mo_typing.specs.Outcome.{each}
use Rattle.mo_equations.specs.Replacing.{branch_of, marked, replaced_node, with_variables}
use Rattle.mo_equations.specs.steps.Counting.{variables_in, variables_node}
use Rattle.mo_equations.proofs.Eaching.{each_mapped}
use Rattle.mo_equations.proofs.Folds.{Related, folds_related}

-- whether an outcome is a value, or the broken rule
abbrev pub Asked : Type 0
Asked = Outcome (Unit {0})

abbrev pub settled : {A : Type 0} → Outcome A → Asked
settled (Ok a) = Ok tt
settled (Err broken) = Err broken

abbrev then_asked : Asked → Asked → Asked
then_asked (Ok u) other = other
then_asked (Err broken) other = Err broken

done : (a : Asked) → then_asked a (Ok tt) ≡ a
done (Ok u) = refl
done (Err broken) = refl

settled_then : {A B : Type 0} (o : Outcome A) (f : A → Outcome B) (rest : Asked) → ((a : A) → settled (f a) ≡ rest) → settled (and_then o f) ≡ then_asked (settled o) rest
settled_then (Ok a) f rest same = same a
settled_then (Err broken) f rest same = refl

settled_done : {A B : Type 0} (o : Outcome A) (f : A → B) → settled (and_then o (λ a. Ok (f a))) ≡ settled o
settled_done (Ok a) f = refl
settled_done (Err broken) f = refl

module _ (variable : ℕ → Outcome FlatExpr) where
  abbrev asks : List ℕ → Asked
  asks ns = settled (each variable ns)

  asks_first : (n : ℕ) (ns : List ℕ) → asks (n ∷ ns) ≡ then_asked (settled (variable n)) (asks ns)
  asks_first n ns = settled_then (variable n) (λ value. and_then (each variable ns) (λ values. Ok (value ∷ values))) (asks ns) (λ value. settled_done (each variable ns) (λ values. value ∷ values))

  then_then : (a b c : Asked) → then_asked (then_asked a b) c ≡ then_asked a (then_asked b c)
  then_then (Ok u) b c = refl
  then_then (Err broken) b c = refl

  asks_both : (ns ms : List ℕ) → asks (ns ++ ms) ≡ then_asked (asks ns) (asks ms)
  asks_both [] ms = refl
  asks_both (n ∷ ns) ms =
      asks_first n (ns ++ ms) ∙ ap (then_asked (settled (variable n))) (asks_both ns ms)
      ∙ sym (then_then (settled (variable n)) (asks ns) (asks ms)) ∙ ap (λ a. then_asked a (asks ms)) (sym (asks_first n ns))

  abbrev IsAsked : Outcome FlatExpr → List ℕ → Type 0
  IsAsked o ns = settled o ≡ asks ns

  abbrev Rel : Type 0
  Rel = Related (Outcome FlatExpr) (List ℕ) IsAsked

  -- parts in a list, each of which asks for its variables
  module _ {T B : Type 0} (f : T → Outcome B) (g : T → List ℕ) (same : (t : T) → settled (f t) ≡ asks (g t)) where
    in_list : (ts : List T) → settled (each f ts) ≡ asks (flat_map g ts)
    in_list [] = refl
    in_list (t ∷ ts) =
        settled_then (f t) (λ value. and_then (each f ts) (λ values. Ok (value ∷ values))) (settled (each f ts)) (λ value. settled_done (each f ts) (λ values. value ∷ values))
        ∙ ap (λ a. then_asked a (settled (each f ts))) (same t) ∙ ap (then_asked (asks (g t))) (in_list ts) ∙ sym (asks_both (g t) (flat_map g ts))

  two : {B : Type 0} (join : FlatExpr → FlatExpr → B) (a b : Rel) → settled (and_then a.0 (λ x. and_then b.0 (λ y. Ok (join x y)))) ≡ asks (a.1 ++ b.1)
  two join a b =
      settled_then a.0 (λ x. and_then b.0 (λ y. Ok (join x y))) (settled b.0) (λ x. settled_done b.0 (join x))
      ∙ ap (λ s. then_asked s (settled b.0)) a.2 ∙ ap (then_asked (asks a.1)) b.2 ∙ sym (asks_both a.1 b.1)

  signed : {B : Type 0} (join : List (Bool × FlatExpr) → B) (ts : List (Bool × Rel)) →
      settled (and_then (each marked (map (λ (t : Bool × Rel). (t.0, t.1.0)) ts)) (λ terms. Ok (join terms))) ≡ asks (flat_map (λ (t : Bool × List ℕ). t.1) (map (λ (t : Bool × Rel). (t.0, t.1.1)) ts))
  signed join ts =
      settled_done (each marked (map (λ (t : Bool × Rel). (t.0, t.1.0)) ts)) join
      ∙ ap settled (each_mapped marked (λ (t : Bool × Rel). (t.0, t.1.0)) ts)
      ∙ in_list (λ (t : Bool × Rel). marked (t.0, t.1.0)) (λ t. t.1.1) (λ t. settled_done t.1.0 (λ e. (t.0, e)) ∙ t.1.2) ts
      ∙ ap asks (sym (flat_map-map (λ (t : Bool × List ℕ). t.1) (λ (t : Bool × Rel). (t.0, t.1.1)) ts))

  listed : {B : Type 0} (join : List FlatExpr → B) (ts : List Rel) →
      settled (and_then (each (λ (part : Outcome FlatExpr). part) (map (λ (t : Rel). t.0) ts)) (λ es. Ok (join es))) ≡ asks (flat_map (λ (part : List ℕ). part) (map (λ (t : Rel). t.1) ts))
  listed join ts =
      settled_done (each (λ (part : Outcome FlatExpr). part) (map (λ (t : Rel). t.0) ts)) join
      ∙ ap settled (each_mapped (λ (part : Outcome FlatExpr). part) (λ (t : Rel). t.0) ts)
      ∙ in_list (λ (t : Rel). t.0) (λ t. t.1) (λ t. t.2) ts
      ∙ ap asks (sym (flat_map-map (λ (ns : List ℕ). ns) (λ (t : Rel). t.1) ts))

  choice : {B : Type 0} (join : List (FlatExpr × FlatExpr) → FlatExpr → B) (bs : List (Rel × Rel)) (o : Rel) →
      settled (and_then (each branch_of (map (λ (b : Rel × Rel). (b.0.0, b.1.0)) bs)) (λ branches. and_then o.0 (λ other. Ok (join branches other))))
      ≡ asks (flat_map (λ (b : List ℕ × List ℕ). b.0 ++ b.1) (map (λ (b : Rel × Rel). (b.0.1, b.1.1)) bs) ++ o.1)
  choice join bs o =
      settled_then (each branch_of (map (λ (b : Rel × Rel). (b.0.0, b.1.0)) bs)) (λ branches. and_then o.0 (λ other. Ok (join branches other))) (settled o.0) (λ branches. settled_done o.0 (join branches))
      ∙ ap (λ s. then_asked s (settled o.0))
      (ap settled (each_mapped branch_of (λ (b : Rel × Rel). (b.0.0, b.1.0)) bs)
      ∙ in_list (λ (b : Rel × Rel). branch_of (b.0.0, b.1.0)) (λ b. b.0.1 ++ b.1.1) (λ b. two (λ x y. (x, y)) b.0 b.1) bs
      ∙ ap asks (sym (flat_map-map (λ (b : List ℕ × List ℕ). b.0 ++ b.1) (λ (b : Rel × Rel). (b.0.1, b.1.1)) bs)))
      ∙ ap (then_asked (asks (flat_map (λ (b : List ℕ × List ℕ). b.0 ++ b.1) (map (λ (b : Rel × Rel). (b.0.1, b.1.1)) bs)))) o.2
      ∙ sym (asks_both (flat_map (λ (b : List ℕ × List ℕ). b.0 ++ b.1) (map (λ (b : Rel × Rel). (b.0.1, b.1.1)) bs)) o.1)

  step : (n : FlatExpr-F Rel) → IsAsked (replaced_node variable (map-FlatExpr Rel (Outcome FlatExpr) (λ r. r.0) n)) (variables_node (map-FlatExpr Rel (List ℕ) (λ r. r.1) n))
  step (FlatExpr-F.Whole n) = refl
  step (FlatExpr-F.Decimal t) = refl
  step (FlatExpr-F.Str t) = refl
  step (FlatExpr-F.Truth b) = refl
  step (FlatExpr-F.Literal t) = refl
  step FlatExpr-F.Time = refl
  step (FlatExpr-F.Var n k) = sym (asks_first n [] ∙ done (settled (variable n)))
  step (FlatExpr-F.Der a) = settled_done a.0 flat.Der ∙ a.2
  step (FlatExpr-F.Sum ts) = signed flat.Sum ts
  step (FlatExpr-F.Product ts) = signed flat.Product ts
  step (FlatExpr-F.Power a b) = two flat.Power a b
  step (FlatExpr-F.Call f args) = listed (flat.Call f) args
  step (FlatExpr-F.Relation op a b) = two (flat.Relation op) a b
  step (FlatExpr-F.Not a) = settled_done a.0 flat.Not ∙ a.2
  step (FlatExpr-F.All ps) = listed flat.All ps
  step (FlatExpr-F.Any ps) = listed flat.Any ps
  step (FlatExpr-F.If bs o) = choice flat.If bs o

  pub asked_in_order : (e : FlatExpr) → settled (with_variables variable e) ≡ settled (each variable (variables_in e))
  asked_in_order = folds_related (Outcome FlatExpr) (List ℕ) (replaced_node variable) variables_node IsAsked step

-- ---- the first variable that breaks a rule

-- what a variable is replaced by
pub record IsThere (variable : ℕ → Outcome FlatExpr) (n : ℕ) : Type 0 where
  pub e : FlatExpr
  pub is : variable n ≡ Ok e

each_broken : (variable : ℕ → Outcome FlatExpr) (ns : List ℕ) (i n : ℕ) (broken : Broken) → Every (IsThere variable) (take i ns) → i < length ns → n ≡ get_or ns i n →
    variable n ≡ Err broken → each variable ns ≡ Err broken
each_broken variable [] i n broken before small at h = let none : i < 0 = small in absurd (omega arith)
each_broken variable (m ∷ ns) zero n broken before small at h = rw (sym at, h) refl
each_broken variable (m ∷ ns) (suc i) n broken before small at h =
    rw (before.0.is, each_broken variable ns i n broken before.1 (omega arith) at h) refl

unsettled : {A : Type 0} (o : Outcome A) (broken : Broken) → settled o ≡ Err broken → o ≡ Err broken
unsettled (Ok a) broken h = absurd (no h)
  where
    no : ◌≡◌ {A = Asked} (Ok tt) (Err broken) → ⊥
    no h = cc
unsettled {A} (Err other) broken h = ap back h
  where
    back : Asked → Outcome A
    back (Ok u) = Err other
    back (Err b) = Err b

pub breaks_first : (variable : ℕ → Outcome FlatExpr) (e : FlatExpr) (i n : ℕ) (broken : Broken) → Every (IsThere variable) (take i (variables_in e)) → i < length (variables_in e) →
    n ≡ get_or (variables_in e) i n → variable n ≡ Err broken → with_variables variable e ≡ Err broken
breaks_first variable e i n broken before small at h =
    unsettled (with_variables variable e) broken
    (asked_in_order variable e ∙ ap settled (each_broken variable (variables_in e) i n broken before small at h))
