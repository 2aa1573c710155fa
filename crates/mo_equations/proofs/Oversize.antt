-- When a flat model will be too large, by what was counted of its parts.
use Rattle.std.proofs.Common.{◌≡◌, ℕ, ◌+◌, ◌-◌, ◌^◌, ◌<◌, ◌≤◌, Bool, true, false, ◌||◌, List, [], ◌∷◌, ◌++◌, flat_map, map, length, sum_by, nat_lt, ltb-true, ltb-false, refl, ap, sym, ◌∙◌, arith}
use Rattle.std.proofs.lemmas.List.{length-append}
use Rattle.std.proofs.lemmas.List.Sums.{sum_by-append, sum_by-cons}
use Rattle.mo_syntax.specs.declared.place.Place.{Place}
use Rattle.mo_flat.specs.declared.connect.Connect.{Connect}
use Rattle.mo_flat.specs.declared.connect.Connects.{Connects}
use Rattle.mo_flat.specs.declared.connect.Expanded.{Expanded}
use Rattle.mo_flat.specs.declared.model.FlatAssert.{FlatAssert}
use Rattle.mo_flat.specs.declared.model.FlatEquation.{FlatEquation}
use Rattle.mo_flat.specs.declared.model.FlatVar.{FlatVar}
use Rattle.mo_flat.specs.Roles.{unknown_numbers}
use Rattle.mo_equations.specs.declared.sections.Parts.{Parts as PartsAt}
use Rattle.mo_equations.specs.declared.variables.Declared.{Declared as DeclaredAt}
use Rattle.mo_equations.specs.Expansion.{Parts, expanded_with, name_of_root}
use Rattle.mo_equations.specs.Gathering.{Made, all_beside, made_equations}
use Rattle.mo_equations.specs.Leaves.{Tree, place_of_root}
use Rattle.mo_equations.specs.Size.{is_past, model_before, most_equations, most_nodes, most_unknowns, nodes_of, nodes_of_equation, nodes_of_variable}
use Rattle.mo_equations.specs.Variables.{Declared}
use Rattle.mo_equations.specs.steps.Declaring.{AreDeclared, IsExpandedWith, nodes_of_declared}
use Rattle.mo_equations.specs.steps.Flats.{are_over, capped}
use Rattle.mo_equations.specs.steps.Makings.{nodes_of_made}
use Rattle.mo_equations.specs.steps.Placing.{AreParts}

over_capped : (k n : ℕ) → k < 2 ^ 64 - 1 → nat_lt k (capped n) ≡ nat_lt k n
over_capped k n small = go (nat_lt k (capped n)) (nat_lt k n) refl refl
  where
    go : (a b : Bool) → nat_lt k (capped n) ≡ a → nat_lt k n ≡ b → nat_lt k (capped n) ≡ nat_lt k n
    go true true p q = p ∙ sym q
    go false false p q = p ∙ sym q
    go true false p q = let over = ltb-true k (capped n) p in let under = ltb-false k n q in absurd (omega (arith, over, under))
    go false true p q = let under = ltb-false k (capped n) p in let over = ltb-true k n q in absurd (omega (arith, over, under, small))

sum_mapped : {A B : Type 0} (f : B → ℕ) (g : A → B) (xs : List A) → sum_by f (map g xs) ≡ sum_by (λ x. f (g x)) xs
sum_mapped f g [] = refl
sum_mapped f g (x ∷ xs) = sum_by-cons f (g x) (map g xs) ∙ ap (λ (n : ℕ). f (g x) + n) (sum_mapped f g xs) ∙ sym (sum_by-cons (λ y. f (g y)) x xs)

-- all nodes are those of the variables, of their equations, and of the sections
all_nodes : (tree : Tree) (all : List Declared) (initial usual : Made) → nodes_of (model_before (expanded_with tree all initial usual))
    ≡ nodes_of_declared all + nodes_of_made (made_equations (flat_map (λ one. one.equations) all)) + nodes_of_made initial + nodes_of_made usual
all_nodes tree all initial usual =
    let vars = sum_mapped nodes_of_variable (λ (one : Declared). one.variable) all in
    let equations = sum_by-append nodes_of_equation (flat_map (λ one. one.equations) all) usual.equations in
    omega (arith, vars, equations)

all_capped : (d m i u a b c e first second third : ℕ) → a ≡ capped d → b ≡ capped m → c ≡ capped i → e ≡ capped u → first ≡ capped (a + b) → second ≡ capped (first + c) → third ≡ capped (second + e) → third ≡ capped (d + m + i + u)
all_capped d m i u a b c e first second third p q r s x y z = omega (arith, p, q, r, s, x, y, z)

both_capped : (a b x y n : ℕ) → a ≡ capped x → b ≡ capped y → n ≡ capped (a + b) → n ≡ capped (x + y)
both_capped a b x y n p q r = omega (arith, p, q, r)

pub past_is : (held : DeclaredAt) (parts : PartsAt) (all : List Declared) (of : List Parts) (e : Expanded) → AreDeclared held all → AreParts parts of → IsExpandedWith e all of →
    (first second third equations : ℕ) → first ≡ capped (held.nodes + held.made.nodes) → second ≡ capped (first + parts.initial.nodes) → third ≡ capped (second + parts.usual.nodes) →
    equations ≡ capped (held.made.count + parts.usual.count) →
    is_past e ≡ are_over held.unknowns equations third
past_is held parts all of e declared are goes_with first second third equations x y z w =
    let tree = goes_with.0 in
    let initial = all_beside (map (λ one. one.initial) of) in
    let usual = all_beside (map (λ one. one.usual) of) in
    let model = model_before (expanded_with tree all initial usual) in
    let nodes : third ≡ capped (nodes_of model) =
    all_capped (nodes_of_declared all) (nodes_of_made (made_equations (flat_map (λ one. one.equations) all))) (nodes_of_made initial) (nodes_of_made usual)
    held.nodes held.made.nodes parts.initial.nodes parts.usual.nodes first second third declared.nodes declared.made.nodes are.initial.nodes are.usual.nodes x y z
    ∙ ap capped (sym (all_nodes tree all initial usual)) in
    let many : equations ≡ capped (length model.equations) =
    both_capped held.made.count parts.usual.count (length (flat_map (λ (one : Declared). one.equations) all)) (length usual.equations) equations declared.made.count are.usual.count w
    ∙ ap capped (sym (length-append (flat_map (λ (one : Declared). one.equations) all) usual.equations)) in
    ap is_past goes_with.1
    ∙ sym (rw (ap (nat_lt most_unknowns) declared.unknowns ∙ over_capped most_unknowns _ (omega arith), ap (nat_lt most_equations) many ∙ over_capped most_equations _ (omega arith), ap (nat_lt most_nodes) nodes ∙ over_capped most_nodes _ (omega arith)) refl)

-- ---- all parts

-- where neither is true, none is
last_false : (a b c : Bool) → (a || b || c) ≡ false → c ≡ false
last_false false false c h = h
last_false true b c h = absurd (let clash : true ≡ false = h in cc)
last_false false true c h = absurd (let clash : true ≡ false = h in cc)

few_nodes : (e : Expanded) → is_past e ≡ false → nodes_of (model_before e) ≤ most_nodes
few_nodes e h =
    let m = model_before e in
    ltb-false most_nodes (nodes_of m) (last_false (nat_lt most_unknowns (length (unknown_numbers m.vars))) (nat_lt most_equations (length m.equations)) (nat_lt most_nodes (nodes_of m)) h)

same_expanded : (n n' : List ℕ) (p p' : Place) (vs vs' : List FlatVar) (fs fs' : List FlatEquation) (fas fas' : List FlatAssert) (es es' : List FlatEquation) (as_ as' : List FlatAssert) (cs cs' : Connects) →
    n ≡ n' → p ≡ p' → vs ≡ vs' → fs ≡ fs' → fas ≡ fas' → es ≡ es' → as_ ≡ as' → cs ≡ cs' →
    ◌≡◌ {A = Expanded} (record { name = n; place = p; vars = vs; first = fs; first_asserts = fas; equations = es; asserts = as_; connects = cs })
    (record { name = n'; place = p'; vars = vs'; first = fs'; first_asserts = fas'; equations = es'; asserts = as'; connects = cs' })
same_expanded n n' p p' vs vs' fs fs' fas fas' es es' as_ as' cs cs' a b c d f g h i = rw (a, b, c, d, f, g, h, i) refl

same_connects : (l l' : List Connect) (f f' : List (ℕ × Place)) → l ≡ l' → f ≡ f' → ◌≡◌ {A = Connects} (record { list = l; flows = f }) (record { list = l'; flows = f' })
same_connects l l' f f' a b = rw (a, b) refl

module _ (held : DeclaredAt) (parts : PartsAt) (all : List Declared) (of : List Parts) (e : Expanded) (declared : AreDeclared held all) (are : AreParts parts of) (is : IsExpandedWith e all of) where
  abbrev initial : Made
  initial = all_beside (map (λ (one : Parts). one.initial) of)

  abbrev usual : Made
  usual = all_beside (map (λ (one : Parts). one.usual) of)

  pub connects_are : (flows : List (ℕ × Place)) → e.connects.flows ≡ flows → ◌≡◌ {A = Connects} (record { list = parts.usual.connects; flows = flows }) e.connects
  connects_are flows f =
      same_connects parts.usual.connects e.connects.list flows e.connects.flows (are.usual.connects ∙ sym (ap (λ (x : Expanded). x.connects.list) is.1)) (sym f)

  -- all parts are those of the expansion, where it is not past
  pub whole_is : is_past e ≡ false → (name : List ℕ) (place : Place) (flows : List (ℕ × Place)) (equations : List FlatEquation) →
      e.name ≡ name → e.place ≡ place → e.connects.flows ≡ flows → equations ≡ held.made.equations ++ parts.usual.equations →
      ◌≡◌ {A = Expanded} (record {
        name = name;
        place = place;
        vars = held.vars;
        first = parts.initial.equations;
        first_asserts = parts.initial.asserts;
        equations = equations;
        asserts = parts.usual.asserts;
        connects = record { list = parts.usual.connects; flows = flows };
      }) e
  whole_is few name place flows equations n p f q =
      let nodes = few_nodes (expanded_with is.0 all initial usual) (ap is_past (sym is.1) ∙ few) in
      let split = all_nodes is.0 all initial usual in
      let vars : nodes_of_declared all ≤ most_nodes = omega (arith, nodes, split) in
      let bound : nodes_of_made (made_equations (flat_map (λ (one : Declared). one.equations) all)) ≤ most_nodes = omega (arith, nodes, split) in
      let first : nodes_of_made initial ≤ most_nodes = omega (arith, nodes, split) in
      let rest : nodes_of_made usual ≤ most_nodes = omega (arith, nodes, split) in
      same_expanded name (name_of_root is.0) place (place_of_root is.0) held.vars (map (λ (one : Declared). one.variable) all) parts.initial.equations initial.equations parts.initial.asserts initial.asserts
      equations (flat_map (λ (one : Declared). one.equations) all ++ usual.equations) parts.usual.asserts usual.asserts
      (record { list = parts.usual.connects; flows = flows }) (expanded_with is.0 all initial usual).connects
      (sym n ∙ ap (λ (x : Expanded). x.name) is.1) (sym p ∙ ap (λ (x : Expanded). x.place) is.1) (declared.vars vars) (are.initial.equations first) (are.initial.asserts first)
      (q ∙ (ap (λ (qs : List FlatEquation). qs ++ parts.usual.equations) (declared.made.equations bound) ∙ ap (λ (qs : List FlatEquation). flat_map (λ (one : Declared). one.equations) all ++ qs) (are.usual.equations rest)))
      (are.usual.asserts rest) (connects_are flows f ∙ ap (λ (x : Expanded). x.connects) is.1)
      ∙ sym is.1
