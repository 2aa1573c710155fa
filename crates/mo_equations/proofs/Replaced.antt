-- What becomes of an expression whose variables were all asked: it is replaced, its weight is the number of its nodes, and what is filled in
-- is that.
use Rattle.std.proofs.Common.{◌≡◌, ℕ, ◌+◌, ◌-◌, ◌<◌, Bool, true, ltb-true, List, [], ◌∷◌, ◌++◌, flat_map, map, Option, Some, None, Ok, Err, refl, ap, ◌∙◌, sym, subst, arith}
use Rattle.std.specs.Prelude.{sum_by, slice_get}
use Rattle.std.proofs.lemmas.List.Sums.{sum_by-cons}
use Rattle.mo_syntax.specs.Outcome.{Outcome, and_then}
use Rattle.mo_flat.specs.declared.expr.FlatExpr.{FlatExpr, FlatExpr-F, fold_out-FlatExpr, ind-FlatExpr, map-FlatExpr, out-FlatExpr, roll-FlatExpr}
use Rattle.mo_flat.specs.declared.expr.FlatExpr as flat
use Rattle.mo_flat.specs.declared.expr.FlatExpr.TheVariants as is
use Rattle.mo_flat.specs.Nodes.{count_node, node_count}
use Rattle.mo_flat.proofs.Counting as count
use Rattle.mo_scope.specs.Places.{Every}
use Rattle.mo_typing.specs.Outcome.{each}
use Rattle.mo_equations.specs.declared.flat.Flat.{Flat}
use Rattle.mo_equations.specs.Replacing.{with_variables}
use Rattle.mo_equations.specs.steps.Counting.{variables_in, weight, weight_at}
use Rattle.mo_equations.specs.steps.Filling.{branch_with, built_at, signed_with}
use Rattle.mo_equations.specs.Size.{most_nodes}
use Rattle.mo_equations.specs.steps.Flats.{IsFlat, capped, is_past_nodes}
use Rattle.mo_equations.specs.steps.Standing.{AreReplaced, IsAskedAt}
use Rattle.mo_equations.proofs.Filled as filled
use Rattle.mo_equations.proofs.VariablesIn as variables
use Rattle.mo_equations.proofs.Weighed as weighed

-- ---- outcomes

pub record Then {A B : Type 0} (o : Outcome A) (f : A → Outcome B) (b : B) : Type 0 where
  pub value : A
  pub is : o ≡ Ok value
  pub gives : f value ≡ Ok b

pub then_ok : {A B : Type 0} (o : Outcome A) (f : A → Outcome B) (b : B) → and_then o f ≡ Ok b → Then o f b
then_ok (Ok a) f b e = record { value = a; is = refl; gives = e }
then_ok (Err broken) f b e = absurd (no e)
  where
    no : Err broken ≡ Ok b → ⊥
    no h = cc

pub same_ok : {A : Type 0} (a b : A) → ◌≡◌ {A = Outcome A} (Ok a) (Ok b) → b ≡ a
same_ok {A} a b e = sym (ap held e)
  where
    held : Outcome A → A
    held (Ok x) = x
    held (Err broken) = a

-- ---- capped numbers

pub capped_sum : (a b c d : ℕ) → capped a ≡ capped b → capped c ≡ capped d → capped (a + c) ≡ capped (b + d)
capped_sum a b c d p q = omega (arith, p, q)

pub capped_one : (a b : ℕ) → capped a ≡ capped b → capped (1 + a) ≡ capped (1 + b)
capped_one a b p = omega (arith, p)

-- ---- lists

pub every_split : {A : Type 0} (P : A → Type 0) (xs ys : List A) → Every P (xs ++ ys) → Every P xs × Every P ys
every_split P [] ys all = (tt, all)
every_split P (x ∷ xs) ys all = let rest = every_split P xs ys all.1 in ((all.0, rest.0), rest.1)

pub record Becomes {A : Type 0} (f g : A → Outcome A) (count weigh : A → ℕ) (a : A) : Type 0 where
  pub made : A
  pub is : f a ≡ Ok made
  pub nodes : capped (count made) ≡ capped (weigh a)
  pub built : (u : A) → g a ≡ Ok u → u ≡ made

pub record Become {A : Type 0} (f g : A → Outcome A) (count weigh : A → ℕ) (xs : List A) : Type 0 where
  pub made : List A
  pub is : each f xs ≡ Ok made
  pub nodes : capped (sum_by count made) ≡ capped (sum_by weigh xs)
  pub built : (us : List A) → each g xs ≡ Ok us → us ≡ made

module _ (replaced : List (Option Flat)) where
  abbrev asked : List ℕ → Type 0
  asked ns = Every (IsAskedAt replaced) ns

  module _ {T A : Type 0} (f g : A → Outcome A) (count weigh : A → ℕ) (vars : A → List ℕ) (get : T → A)
      (good : (t : T) → asked (vars (get t)) → Becomes f g count weigh (get t)) where
    all_become : (ts : List T) → asked (flat_map vars (map get ts)) → Become f g count weigh (map get ts)
    all_become [] all = record { made = []; is = refl; nodes = refl; built = λ us e. same_ok [] us e }
    all_become (t ∷ ts) all =
        let parts = every_split (IsAskedAt replaced) (vars (get t)) (flat_map vars (map get ts)) all in
        let first = good t parts.0 in
        let others = all_become ts parts.1 in
        record {
          made = first.made ∷ others.made;
          is = rw (first.is, others.is) refl;
          nodes = rw (sum_by-cons count first.made others.made, sum_by-cons weigh (get t) (map get ts)) (capped_sum _ _ _ _ first.nodes others.nodes);
          built = λ us e.
              let one = then_ok (g (get t)) (λ value. and_then (each g (map get ts)) (λ values. Ok (value ∷ values))) us e in
              let more = then_ok (each g (map get ts)) (λ values. Ok (one.value ∷ values)) us one.gives in
              same_ok (one.value ∷ more.value) us more.gives
              ∙ (ap (λ v. v ∷ more.value) (first.built one.value one.is) ∙ ap (λ vs. first.made ∷ vs) (others.built more.value more.is));
        }

-- ---- expressions

count_of : (e : FlatExpr) (node : FlatExpr-F FlatExpr) → out-FlatExpr e ≡ node → node_count e ≡ count_node (map-FlatExpr FlatExpr ℕ node_count node)
count_of e node h = fold_out-FlatExpr ℕ count_node e ∙ ap (λ n. count_node (map-FlatExpr FlatExpr ℕ node_count n)) h

module _ (replace : ℕ → Outcome FlatExpr) (replaced : List (Option Flat)) (are : AreReplaced replace replaced) where
  abbrev w : ℕ → ℕ
  w = weight_at replaced

  abbrev f : FlatExpr → Outcome FlatExpr
  f = with_variables replace

  abbrev g : FlatExpr → Outcome FlatExpr
  g = with_variables (built_at replaced)

  abbrev Good : FlatExpr → Type 0
  Good e = Becomes f g node_count (weight w) e

  abbrev P : FlatExpr → Type 0
  P e = Every (IsAskedAt replaced) (variables_in e) → Good e

  abbrev T : Type 0
  T = (e : FlatExpr) × P e

  atom : (e : FlatExpr) → f e ≡ Ok e → g e ≡ Ok e → node_count e ≡ 1 → weight w e ≡ 1 → P e
  atom e a b c d all = record { made = e; is = a; nodes = rw (c, d) refl; built = λ u h. same_ok e u (sym b ∙ h) }

  one : (con : FlatExpr → FlatExpr) (t : T) → variables_in (con t.0) ≡ variables_in t.0 → f (con t.0) ≡ and_then (f t.0) (λ e. Ok (con e)) →
      g (con t.0) ≡ and_then (g t.0) (λ e. Ok (con e)) → ((e : FlatExpr) → node_count (con e) ≡ 1 + node_count e) → weight w (con t.0) ≡ 1 + weight w t.0 → P (con t.0)
  one con t v a b c d all =
      let inner = t.1 (subst (Every (IsAskedAt replaced)) v all) in
      record {
        made = con inner.made;
        is = a ∙ rw inner.is refl;
        nodes = rw (c inner.made, d) (capped_one _ _ inner.nodes);
        built = λ u h.
            let below = then_ok (g t.0) (λ e. Ok (con e)) u (sym b ∙ h) in
            same_ok (con below.value) u below.gives ∙ ap con (inner.built below.value below.is);
      }

  two : (con : FlatExpr → FlatExpr → FlatExpr) (s t : T) → variables_in (con s.0 t.0) ≡ variables_in s.0 ++ variables_in t.0 →
      f (con s.0 t.0) ≡ and_then (f s.0) (λ x. and_then (f t.0) (λ y. Ok (con x y))) → g (con s.0 t.0) ≡ and_then (g s.0) (λ x. and_then (g t.0) (λ y. Ok (con x y))) →
      ((x y : FlatExpr) → node_count (con x y) ≡ 1 + (node_count x + node_count y)) → weight w (con s.0 t.0) ≡ 1 + (weight w s.0 + weight w t.0) → P (con s.0 t.0)
  two con s t v a b c d all =
      let parts = every_split (IsAskedAt replaced) (variables_in s.0) (variables_in t.0) (subst (Every (IsAskedAt replaced)) v all) in
      let left = s.1 parts.0 in
      let right = t.1 parts.1 in
      record {
        made = con left.made right.made;
        is = a ∙ rw (left.is, right.is) refl;
        nodes = rw (c left.made right.made, d) (capped_one _ _ (capped_sum _ _ _ _ left.nodes right.nodes));
        built = λ u h.
            let first = then_ok (g s.0) (λ x. and_then (g t.0) (λ y. Ok (con x y))) u (sym b ∙ h) in
            let second = then_ok (g t.0) (λ y. Ok (con first.value y)) u first.gives in
            same_ok (con first.value second.value) u second.gives
            ∙ (ap (λ x. con x second.value) (left.built first.value first.is) ∙ ap (con left.made) (right.built second.value second.is));
      }

  -- parts in a list
  listed : {S A : Type 0} (con : List A → FlatExpr) (h k : A → Outcome A) (count weigh : A → ℕ) (vars : A → List ℕ) (get : S → A) →
      ((s : S) → Every (IsAskedAt replaced) (vars (get s)) → Becomes h k count weigh (get s)) → (ts : List S) →
      variables_in (con (map get ts)) ≡ flat_map vars (map get ts) → f (con (map get ts)) ≡ and_then (each h (map get ts)) (λ xs. Ok (con xs)) →
      g (con (map get ts)) ≡ and_then (each k (map get ts)) (λ xs. Ok (con xs)) → ((xs : List A) → node_count (con xs) ≡ 1 + sum_by count xs) →
      weight w (con (map get ts)) ≡ 1 + sum_by weigh (map get ts) → P (con (map get ts))
  listed con h k count weigh vars get good ts v a b c d all =
      let parts = all_become replaced h k count weigh vars get good ts (subst (Every (IsAskedAt replaced)) v all) in
      record {
        made = con parts.made;
        is = a ∙ rw parts.is refl;
        nodes = rw (c parts.made, d) (capped_one _ _ parts.nodes);
        built = λ u e.
            let below = then_ok (each k (map get ts)) (λ xs. Ok (con xs)) u (sym b ∙ e) in
            same_ok (con below.value) u below.gives ∙ ap con (parts.built below.value below.is);
      }

  signed_good : (t : Bool × T) → Every (IsAskedAt replaced) (variables_in t.1.0) →
      Becomes (signed_with replace) (signed_with (built_at replaced)) (λ x. node_count x.1) (λ x. weight w x.1) (t.0, t.1.0)
  signed_good t all =
      let inner = t.1.1 all in
      record {
        made = (t.0, inner.made);
        is = rw inner.is refl;
        nodes = inner.nodes;
        built = λ u h.
            let below = then_ok (g t.1.0) (λ e. Ok (t.0, e)) u h in
            same_ok (t.0, below.value) u below.gives ∙ ap (λ e. (t.0, e)) (inner.built below.value below.is);
      }

  branch_good : (b : T × T) → Every (IsAskedAt replaced) (variables_in b.0.0 ++ variables_in b.1.0) →
      Becomes (branch_with replace) (branch_with (built_at replaced)) (λ x. node_count x.0 + node_count x.1) (λ x. weight w x.0 + weight w x.1) (b.0.0, b.1.0)
  branch_good b all =
      let parts = every_split (IsAskedAt replaced) (variables_in b.0.0) (variables_in b.1.0) all in
      let left = b.0.1 parts.0 in
      let right = b.1.1 parts.1 in
      record {
        made = (left.made, right.made);
        is = rw (left.is, right.is) refl;
        nodes = capped_sum _ _ _ _ left.nodes right.nodes;
        built = λ u h.
            let first = then_ok (g b.0.0) (λ x. and_then (g b.1.0) (λ y. Ok (x, y))) u h in
            let second = then_ok (g b.1.0) (λ y. Ok (first.value, y)) u first.gives in
            same_ok (first.value, second.value) u second.gives
            ∙ (ap (λ x. (x, second.value)) (left.built first.value first.is) ∙ ap (λ y. (left.made, y)) (right.built second.value second.is));
      }

  variable_good : (n k : ℕ) → P (flat.Var n k)
  variable_good n k all =
      let asked = subst (Every (IsAskedAt replaced)) (variables.variables_at (flat.Var n k) (FlatExpr-F.Var n k) (is.outs-Var n k)) all in
      let held = asked.0.0 in
      let at = asked.0.1 in
      let r = are.each n held at in
      record {
        made = r.e;
        is = filled.at_Var replace n k ∙ r.is;
        nodes = rw (weighed.weight_of w (flat.Var n k) (FlatExpr-F.Var n k) (is.outs-Var n k), at) (weighs held.nodes (node_count r.e) r.flat_is.nodes);
        built = λ u h. chosen held r.e u r.flat_is.built at held.built refl (sym (filled.at_Var (built_at replaced) n k) ∙ h);
      }
    where
      weighs : (a b : ℕ) → a ≡ capped b → capped b ≡ capped a
      weighs a b e = omega (arith, e)

      chosen : (held : Flat) (e u : FlatExpr) → ((v : FlatExpr) → held.built ≡ Some v → v ≡ e) → slice_get replaced (n - 1) ≡ Some (Some held) → (o : Option FlatExpr) → held.built ≡ o → built_at replaced n ≡ Ok u → u ≡ e
      chosen held e u same at (Some v) is h = same_ok v u (rw (at, is) at h) ∙ same v is
      chosen held e u same at None is h = absurd (no (rw (at, is) at h))
        where
          no : ◌≡◌ {A = Outcome FlatExpr} (Err (record { rule = 0; place = record { file = 0; byte = 0 } })) (Ok u) → ⊥
          no e = cc

  choice_good : (bs : List (T × T)) (o : T) → P (flat.If (map (λ b. (b.0.0, b.1.0)) bs) o.0)
  choice_good bs o all =
      let branches = map (λ (b : T × T). (b.0.0, b.1.0)) bs in
      let both = subst (Every (IsAskedAt replaced)) (variables.at_If branches o.0) all in
      let split = every_split (IsAskedAt replaced) (flat_map (λ b. variables_in b.0 ++ variables_in b.1) branches) (variables_in o.0) both in
      let parts = all_become replaced (branch_with replace) (branch_with (built_at replaced)) (λ x. node_count x.0 + node_count x.1) (λ x. weight w x.0 + weight w x.1) (λ b. variables_in b.0 ++ variables_in b.1) (λ (b : T × T). (b.0.0, b.1.0)) branch_good bs split.0 in
      let last = o.1 split.1 in
      record {
        made = flat.If parts.made last.made;
        is = filled.at_If replace branches o.0 ∙ rw (parts.is, last.is) refl;
        nodes = rw (count.at_If parts.made last.made, weighed.at_If w branches o.0) (capped_one _ _ (capped_sum _ _ _ _ parts.nodes last.nodes));
        built = λ u h.
            let first = then_ok (each (branch_with (built_at replaced)) branches) (λ xs. and_then (g o.0) (λ y. Ok (flat.If xs y))) u (sym (filled.at_If (built_at replaced) branches o.0) ∙ h) in
            let second = then_ok (g o.0) (λ y. Ok (flat.If first.value y)) u first.gives in
            same_ok (flat.If first.value second.value) u second.gives
            ∙ (ap (λ xs. flat.If xs second.value) (parts.built first.value first.is) ∙ ap (flat.If parts.made) (last.built second.value second.is));
      }

  node : (y : FlatExpr-F T) → P (roll-FlatExpr (map-FlatExpr T FlatExpr (λ t. t.0) y))
  node (FlatExpr-F.Whole n) = subst P (sym (is.rolls-Whole n)) (atom (flat.Whole n) (filled.at_Whole replace n) (filled.at_Whole (built_at replaced) n) (count_of (flat.Whole n) (FlatExpr-F.Whole n) (is.outs-Whole n)) (weighed.weight_of w (flat.Whole n) (FlatExpr-F.Whole n) (is.outs-Whole n)))
  node (FlatExpr-F.Decimal t) = subst P (sym (is.rolls-Decimal t)) (atom (flat.Decimal t) (filled.at_Decimal replace t) (filled.at_Decimal (built_at replaced) t) (count_of (flat.Decimal t) (FlatExpr-F.Decimal t) (is.outs-Decimal t)) (weighed.weight_of w (flat.Decimal t) (FlatExpr-F.Decimal t) (is.outs-Decimal t)))
  node (FlatExpr-F.Str t) = subst P (sym (is.rolls-Str t)) (atom (flat.Str t) (filled.at_Str replace t) (filled.at_Str (built_at replaced) t) (count_of (flat.Str t) (FlatExpr-F.Str t) (is.outs-Str t)) (weighed.weight_of w (flat.Str t) (FlatExpr-F.Str t) (is.outs-Str t)))
  node (FlatExpr-F.Truth b) = subst P (sym (is.rolls-Truth b)) (atom (flat.Truth b) (filled.at_Truth replace b) (filled.at_Truth (built_at replaced) b) (count_of (flat.Truth b) (FlatExpr-F.Truth b) (is.outs-Truth b)) (weighed.weight_of w (flat.Truth b) (FlatExpr-F.Truth b) (is.outs-Truth b)))
  node (FlatExpr-F.Literal t) = subst P (sym (is.rolls-Literal t)) (atom (flat.Literal t) (filled.at_Literal replace t) (filled.at_Literal (built_at replaced) t) (count_of (flat.Literal t) (FlatExpr-F.Literal t) (is.outs-Literal t)) (weighed.weight_of w (flat.Literal t) (FlatExpr-F.Literal t) (is.outs-Literal t)))
  node FlatExpr-F.Time = subst P (sym is.rolls-Time) (atom flat.Time (filled.at_Time replace) (filled.at_Time (built_at replaced)) (count_of flat.Time FlatExpr-F.Time is.outs-Time) (weighed.weight_of w flat.Time FlatExpr-F.Time is.outs-Time))
  node (FlatExpr-F.Var n k) = subst P (sym (is.rolls-Var n k)) (variable_good n k)
  node (FlatExpr-F.Der a) = subst P (sym (is.rolls-Der a.0)) (one flat.Der a (variables.variables_at (flat.Der a.0) (FlatExpr-F.Der a.0) (is.outs-Der a.0)) (filled.at_Der replace a.0) (filled.at_Der (built_at replaced) a.0) (λ e. count_of (flat.Der e) (FlatExpr-F.Der e) (is.outs-Der e)) (weighed.weight_of w (flat.Der a.0) (FlatExpr-F.Der a.0) (is.outs-Der a.0)))
  node (FlatExpr-F.Not a) = subst P (sym (is.rolls-Not a.0)) (one flat.Not a (variables.variables_at (flat.Not a.0) (FlatExpr-F.Not a.0) (is.outs-Not a.0)) (filled.at_Not replace a.0) (filled.at_Not (built_at replaced) a.0) (λ e. count_of (flat.Not e) (FlatExpr-F.Not e) (is.outs-Not e)) (weighed.weight_of w (flat.Not a.0) (FlatExpr-F.Not a.0) (is.outs-Not a.0)))
  node (FlatExpr-F.Sum ts) = subst P (sym (is.rolls-Sum (map (λ t. (t.0, t.1.0)) ts)))
      (listed flat.Sum (signed_with replace) (signed_with (built_at replaced)) (λ x. node_count x.1) (λ x. weight w x.1) (λ x. variables_in x.1) (λ (t : Bool × T). (t.0, t.1.0)) signed_good ts
      (variables.at_Sum (map (λ t. (t.0, t.1.0)) ts)) (filled.at_Sum replace (map (λ t. (t.0, t.1.0)) ts)) (filled.at_Sum (built_at replaced) (map (λ t. (t.0, t.1.0)) ts)) count.at_Sum
      (weighed.at_Sum w (map (λ t. (t.0, t.1.0)) ts)))
  node (FlatExpr-F.Product ts) = subst P (sym (is.rolls-Product (map (λ t. (t.0, t.1.0)) ts)))
      (listed flat.Product (signed_with replace) (signed_with (built_at replaced)) (λ x. node_count x.1) (λ x. weight w x.1) (λ x. variables_in x.1) (λ (t : Bool × T). (t.0, t.1.0)) signed_good ts
      (variables.at_Product (map (λ t. (t.0, t.1.0)) ts)) (filled.at_Product replace (map (λ t. (t.0, t.1.0)) ts)) (filled.at_Product (built_at replaced) (map (λ t. (t.0, t.1.0)) ts)) count.at_Product
      (weighed.at_Product w (map (λ t. (t.0, t.1.0)) ts)))
  node (FlatExpr-F.Power a b) = subst P (sym (is.rolls-Power a.0 b.0)) (two flat.Power a b (variables.at_Power a.0 b.0) (filled.at_Power replace a.0 b.0) (filled.at_Power (built_at replaced) a.0 b.0) (λ x y. count_of (flat.Power x y) (FlatExpr-F.Power x y) (is.outs-Power x y)) (weighed.weight_of w (flat.Power a.0 b.0) (FlatExpr-F.Power a.0 b.0) (is.outs-Power a.0 b.0)))
  node (FlatExpr-F.Relation op a b) = subst P (sym (is.rolls-Relation op a.0 b.0)) (two (flat.Relation op) a b (variables.at_Relation op a.0 b.0) (filled.at_Relation replace op a.0 b.0) (filled.at_Relation (built_at replaced) op a.0 b.0) (λ x y. count_of (flat.Relation op x y) (FlatExpr-F.Relation op x y) (is.outs-Relation op x y)) (weighed.weight_of w (flat.Relation op a.0 b.0) (FlatExpr-F.Relation op a.0 b.0) (is.outs-Relation op a.0 b.0)))
  node (FlatExpr-F.Call function ts) = subst P (sym (is.rolls-Call function (map (λ t. t.0) ts)))
      (listed (flat.Call function) f g node_count (weight w) variables_in (λ (t : T). t.0) (λ t. t.1) ts
      (variables.at_Call function (map (λ t. t.0) ts)) (filled.at_Call replace function (map (λ t. t.0) ts)) (filled.at_Call (built_at replaced) function (map (λ t. t.0) ts)) (count.at_Call function) (weighed.at_Call w function (map (λ t. t.0) ts)))
  node (FlatExpr-F.All ts) = subst P (sym (is.rolls-All (map (λ t. t.0) ts)))
      (listed flat.All f g node_count (weight w) variables_in (λ (t : T). t.0) (λ t. t.1) ts
      (variables.at_All (map (λ t. t.0) ts)) (filled.at_All replace (map (λ t. t.0) ts)) (filled.at_All (built_at replaced) (map (λ t. t.0) ts)) count.at_All (weighed.at_All w (map (λ t. t.0) ts)))
  node (FlatExpr-F.Any ts) = subst P (sym (is.rolls-Any (map (λ t. t.0) ts)))
      (listed flat.Any f g node_count (weight w) variables_in (λ (t : T). t.0) (λ t. t.1) ts
      (variables.at_Any (map (λ t. t.0) ts)) (filled.at_Any replace (map (λ t. t.0) ts)) (filled.at_Any (built_at replaced) (map (λ t. t.0) ts)) count.at_Any (weighed.at_Any w (map (λ t. t.0) ts)))
  node (FlatExpr-F.If bs o) = subst P (sym (is.rolls-If (map (λ b. (b.0.0, b.1.0)) bs) o.0)) (choice_good bs o)

  pub all_good : (e : FlatExpr) → P e
  all_good = ind-FlatExpr P (λ x y same. subst (λ z. P (roll-FlatExpr z)) same (node y))

-- ---- counted expressions

above : (n : ℕ) → is_past_nodes n ≡ true → most_nodes < n
above n h = ltb-true most_nodes n h

abbrev held_none : {A : Type 0} → Option A → Type 0
held_none None = Unit {0}
held_none (Some a) = ⊥

pub flat_past : (flat : Flat) (e : FlatExpr) → flat.built ≡ None → flat.nodes ≡ capped (node_count e) → is_past_nodes flat.nodes ≡ true → IsFlat flat e
flat_past flat e none nodes past = record {
  nodes = nodes;
  built = λ u h. absurd (no u (sym none ∙ h));
  past = λ h. low (node_count e) (above flat.nodes past) nodes;
}
  where
    no : (u : FlatExpr) → None ≡ Some u → ⊥
    no u h = cc

    low : (n : ℕ) → most_nodes < flat.nodes → flat.nodes ≡ capped n → most_nodes < n
    low n a b = omega (arith, a, b)

pub flat_built : (flat : Flat) (e u : FlatExpr) → flat.built ≡ Some u → u ≡ e → flat.nodes ≡ capped (node_count e) → IsFlat flat e
flat_built flat e u some same nodes = record {
  nodes = nodes;
  built = λ v h. one (sym some ∙ h) ∙ same;
  past = λ h. absurd (no (sym h ∙ some));
}
  where
    held : Option FlatExpr → FlatExpr
    held None = u
    held (Some x) = x

    one : {v : FlatExpr} → Some u ≡ Some v → v ≡ u
    one h = sym (ap held h)

    no : None ≡ Some u → ⊥
    no h = cc
