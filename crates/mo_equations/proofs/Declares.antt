-- The variables of the flat model, one after another.
use Rattle.std.proofs.Common.{◌≡◌, ℕ, suc, ◌+◌, ◌-◌, ◌<◌, ◌≤◌, Bool, true, false, ◌&&◌, List, [], ◌∷◌, ◌++◌, drop, flat_map, length, map, Option, Some, None, Ok, Err, if◌then◌else◌, refl, ap, sym, ◌∙◌, subst, arith}
use Rattle.std.specs.Prelude.{option_map}
use Rattle.std.proofs.lemmas.List.{append-nil, append_assoc, map-append}
use Rattle.std.proofs.lemmas.List.Sums.{sum_by-append, sum_by-cons}
use Rattle.mo_syntax.specs.Outcome.{Outcome, and_then}
use Rattle.mo_syntax.specs.declared.meaning.Kind.{Kind}
use Rattle.mo_syntax.specs.declared.meaning.Role.{Role}
use Rattle.mo_syntax.specs.declared.meaning.Role.TheVariants.{Unknown, Given, Parameter, Constant}
use Rattle.mo_syntax.specs.declared.place.Place.{Place}
use Rattle.mo_syntax.specs.declared.expr.Expr.{Expr}
use Rattle.mo_flat.specs.declared.expr.FlatExpr.{FlatExpr}
use Rattle.mo_flat.specs.declared.model.FlatVar.{FlatVar}
use Rattle.mo_flat.specs.Nodes.{node_count}
use Rattle.mo_flat.specs.Roles.{is_unknown_role, unknown_numbers, unknowns_from}
use Rattle.mo_scope.specs.declared.instance.Chosen.{Chosen as ChosenAt}
use Rattle.mo_scope.specs.declared.instance.Instance.{Instance as InstanceAt}
use Rattle.mo_scope.specs.declared.source.ScopeAt.{ScopeAt}
use Rattle.mo_scope.specs.Frames.{Frame}
use Rattle.mo_scope.specs.Instances.{Chosen, Leaf}
use Rattle.mo_scope.specs.Trees.{IsChosen, IsInstance, chosen_in, instance_in, leaf_in}
use Rattle.mo_scope.specs.Worlds.{World, Grows, frames_of, scope_in, table_in}
use Rattle.mo_typing.specs.Dims.{Dims}
use Rattle.mo_typing.specs.Kinds.{accepts}
use Rattle.mo_typing.specs.Subscripts.{Checked}
use Rattle.mo_names.proofs.Later.{is_frame_later}
use Rattle.mo_values.specs.Asked.{layered}
use Rattle.mo_eval.specs.Components.{place_of}
use Rattle.mo_values.specs.Scalars.{Known, has_values, if_it_has}
use Rattle.mo_eval.specs.Values.{known_of, most_references, resolved_for_value}
use Rattle.mo_equations.specs.declared.desk.Desk.{Desk}
use Rattle.mo_equations.specs.declared.flat.Flat.{Flat}
use Rattle.mo_equations.specs.declared.layers.Want.TheVariants.{Accepted}
use Rattle.mo_equations.specs.declared.leaves.Leaves.{Leaves}
use Rattle.mo_equations.specs.declared.made.Made.{Made as MadeAt}
use Rattle.mo_equations.specs.declared.standing.Asked.{Asked}
use Rattle.mo_equations.specs.declared.variables.Attributes.{Attributes}
use Rattle.mo_equations.specs.declared.variables.Declared.{Declared as DeclaredAt}
use Rattle.mo_equations.specs.declared.variables.Variable.{Variable as VariableAt}
use Rattle.mo_equations.specs.Gathering.{Made, beside, made_equations, nothing}
use Rattle.mo_equations.specs.Leaves.{Tree, Variable}
use Rattle.mo_equations.specs.Replacing.{flat_at, value_or}
use Rattle.mo_equations.specs.Size.{most_nodes, nodes_of_option, nodes_of_variable}
use Rattle.mo_equations.specs.Variables.{Declared, binding_equation, declared_with, fits_along, fits_leaf, flat_binding, flat_of_leaf, is_parameter, known_of_leaf, variable_with}
use Rattle.mo_equations.specs.steps.Arrays.{IsChosenBy}
use Rattle.mo_equations.specs.steps.Declaring.{AreAttributes, AreDeclared, HasOneMore, IsAskedSo, IsBound, IsOneOf, built_held, equation_of, equation_part, equation_with, known_of_binding, known_of_leaf_at, nodes_held, nodes_of_attributes, nodes_of_declared, place_of_option, printed_part, unknowns_with, variable_in}
use Rattle.mo_equations.specs.steps.Desks.{Goes, IsDesk}
use Rattle.mo_equations.specs.steps.Standing.{replacing_in, tree_in}
use Rattle.mo_equations.specs.steps.Flats.{IsFlat, capped}
use Rattle.mo_equations.specs.steps.Layers.{fit_of, wanted_of}
use Rattle.mo_equations.specs.steps.Makings.{IsFlatOption, IsMade}
use Rattle.mo_equations.specs.steps.Ranges.{known_so}
use Rattle.mo_equations.proofs.Staying.{chosen_later, instance_later, is_instance_later, leaf_bound_later, same_tree}

-- ---- sizes

-- where no index is pending it does not matter what stands on the path
pub none_fit : (place : Place) (pending indices sizes others ranges : List ℕ) → pending ≡ [] → fits_along place pending indices sizes ≡ fits_along place pending others ranges
none_fit place [] indices sizes others ranges none = refl
none_fit place (index ∷ pending) indices sizes others ranges none = absurd (no_cons none)
  where
    no_cons : index ∷ pending ≡ [] → ⊥
    no_cons is = let lengths = ap length is in omega (arith, lengths)

pub ranges_fit : (place : Place) (pending : List ℕ) (before : ℕ) (around indices found sizes all : List ℕ) → before ≡ length around → indices ≡ found → sizes ≡ all →
    fits_along place pending (drop before indices) (drop before sizes) ≡ fits_along place pending (drop (length around) found) (drop (length around) all)
ranges_fit place pending before around indices found sizes all many same ranged =
    ap (λ n. fits_along place pending (drop n indices) (drop n sizes)) many
    ∙ ap (λ xs. fits_along place pending (drop (length around) xs) (drop (length around) sizes)) same
    ∙ ap (λ xs. fits_along place pending (drop (length around) found) (drop (length around) xs)) ranged

-- ---- what is asked

pub leaf_asked : (world : World) (leaves : Leaves) (asked : Asked) (chosen : ChosenAt) (kind : Kind) (indices sizes : List ℕ) (variable : Variable) → IsAskedSo asked chosen kind indices sizes →
    fits_along chosen.value.now.place chosen.pending indices sizes ≡ fits_leaf (tree_in world leaves) variable (chosen_in (frames_of world) chosen) →
    flat_at (table_in world) asked.left (replacing_in world leaves asked.left) (wanted_of asked.layers.want asked.layers.place) (fit_of asked.layers.fit asked.layers.place)
    (scope_in (frames_of world) asked.at.now.frame.0 asked.at.now.iters) asked.value.now asked.index.now
    ≡ flat_of_leaf (tree_in world leaves) variable kind (chosen_in (frames_of world) chosen)
leaf_asked world leaves asked chosen kind indices sizes variable is same =
    let table = table_in world in
    let F = frames_of world in
    let place = chosen.value.now.place in
    ap (λ (left : ℕ). flat_at table left (replacing_in world leaves left) (wanted_of asked.layers.want asked.layers.place) (fit_of asked.layers.fit asked.layers.place) (scope_in F asked.at.now.frame.0 asked.at.now.iters) asked.value.now asked.index.now) is.left
    ∙ ap (λ want. flat_at table most_references (replacing_in world leaves most_references) (wanted_of want asked.layers.place) (fit_of asked.layers.fit asked.layers.place) (scope_in F asked.at.now.frame.0 asked.at.now.iters) asked.value.now asked.index.now) is.want
    ∙ ap (λ (p : Place). flat_at table most_references (replacing_in world leaves most_references) (wanted_of (Accepted kind) p) (fit_of asked.layers.fit p) (scope_in F asked.at.now.frame.0 asked.at.now.iters) asked.value.now asked.index.now) is.place
    ∙ ap (λ (fit : Place → Dims → Checked). flat_at table most_references (replacing_in world leaves most_references) (wanted_of (Accepted kind) place) (fit place) (scope_in F asked.at.now.frame.0 asked.at.now.iters) asked.value.now asked.index.now) is.fit
    ∙ ap (λ (fit : Dims → Checked). flat_at table most_references (replacing_in world leaves most_references) (wanted_of (Accepted kind) place) fit (scope_in F asked.at.now.frame.0 asked.at.now.iters) asked.value.now asked.index.now) same
    ∙ ap (λ (at : ScopeAt). flat_at table most_references (replacing_in world leaves most_references) (wanted_of (Accepted kind) place) (fits_leaf (tree_in world leaves) variable (chosen_in F chosen)) (scope_in F at.frame.0 at.iters) asked.value.now asked.index.now) is.at
    ∙ ap (λ (e : Expr). flat_at table most_references (replacing_in world leaves most_references) (wanted_of (Accepted kind) place) (fits_leaf (tree_in world leaves) variable (chosen_in F chosen)) (scope_in F chosen.scope.frame.0 chosen.scope.iters) e asked.index.now) is.value
    ∙ ap (flat_at table most_references (replacing_in world leaves most_references) (wanted_of (Accepted kind) place) (fits_leaf (tree_in world leaves) variable (chosen_in F chosen)) (scope_in F chosen.scope.frame.0 chosen.scope.iters) chosen.value.now) is.index

pub known_asked : (world : World) (leaves : Leaves) (asked : Asked) (chosen : ChosenAt) (indices sizes : List ℕ) (variable : Variable) → IsAskedSo asked chosen variable.leaf.kind indices sizes →
    fits_along chosen.value.now.place chosen.pending indices sizes ≡ fits_leaf (tree_in world leaves) variable (chosen_in (frames_of world) chosen) →
    known_so (table_in world) (wanted_of asked.layers.want asked.layers.place) (fit_of asked.layers.fit asked.layers.place) (scope_in (frames_of world) asked.at.now.frame.0 asked.at.now.iters) asked.value.now asked.index.now
    ≡ known_of_leaf_at (tree_in world leaves) variable (chosen_in (frames_of world) chosen)
known_asked world leaves asked chosen indices sizes variable is same =
    let table = table_in world in
    let F = frames_of world in
    let place = chosen.value.now.place in
    let kind = variable.leaf.kind in
    ap (λ want. known_so table (wanted_of want asked.layers.place) (fit_of asked.layers.fit asked.layers.place) (scope_in F asked.at.now.frame.0 asked.at.now.iters) asked.value.now asked.index.now) is.want
    ∙ ap (λ (p : Place). known_so table (wanted_of (Accepted kind) p) (fit_of asked.layers.fit p) (scope_in F asked.at.now.frame.0 asked.at.now.iters) asked.value.now asked.index.now) is.place
    ∙ ap (λ (fit : Place → Dims → Checked). known_so table (wanted_of (Accepted kind) place) (fit place) (scope_in F asked.at.now.frame.0 asked.at.now.iters) asked.value.now asked.index.now) is.fit
    ∙ ap (λ (fit : Dims → Checked). known_so table (wanted_of (Accepted kind) place) fit (scope_in F asked.at.now.frame.0 asked.at.now.iters) asked.value.now asked.index.now) same
    ∙ ap (λ (at : ScopeAt). known_so table (wanted_of (Accepted kind) place) (fits_leaf (tree_in world leaves) variable (chosen_in F chosen)) (scope_in F at.frame.0 at.iters) asked.value.now asked.index.now) is.at
    ∙ ap (λ (e : Expr). known_so table (wanted_of (Accepted kind) place) (fits_leaf (tree_in world leaves) variable (chosen_in F chosen)) (scope_in F chosen.scope.frame.0 chosen.scope.iters) e asked.index.now) is.value
    ∙ ap (known_so table (wanted_of (Accepted kind) place) (fits_leaf (tree_in world leaves) variable (chosen_in F chosen)) (scope_in F chosen.scope.frame.0 chosen.scope.iters) chosen.value.now) is.index

-- what is asked of the binding of a leaf is what its frame gives
pub chosen_asked : (world : World) (variable : VariableAt) (binding : ChosenAt) (asked : Asked) (kind : Kind) (indices sizes : List ℕ) → IsOneOf world variable → variable.leaf.now.binding ≡ Some binding →
    IsAskedSo asked binding kind indices sizes → IsChosenBy world variable.instance.now.frame.0 asked
chosen_asked world variable binding asked kind indices sizes one own so = record {
  pending = binding.pending;
  is = sym one.bound ∙ (ap (option_map (chosen_in F)) own
      ∙ (ap (λ (at : ScopeAt). Some (record { value = binding.value.now; scope = scope_in F at.frame.0 at.iters; pending = binding.pending })) (sym so.at)
      ∙ ap (λ (e : Expr). Some (record { value = e; scope = scope_in F asked.at.now.frame.0 asked.at.now.iters; pending = binding.pending })) (sym so.value)));
}
  where
    F : List Frame
    F = frames_of world

-- ---- later worlds

-- the instance of a leaf, with that leaf
abbrev whole : VariableAt → InstanceAt
whole variable = record {
  frame = variable.instance.now.frame;
  path = variable.instance.now.path;
  place = variable.instance.now.place;
  dims = variable.instance.now.dims;
  leaf = Some variable.leaf.now;
}

is_whole : (world : World) (variable : VariableAt) → IsOneOf world variable → IsInstance world (whole variable)
is_whole world variable is = record { frame = is.instance.frame; leaf = is.leaf }

pub variable_later : (u v : World) (variable : VariableAt) → Grows u v → IsOneOf u variable → variable_in (frames_of v) variable ≡ variable_in (frames_of u) variable
variable_later u v variable g is =
    ap (λ instance. record { number = variable.number; instance = instance; leaf = leaf_in (frames_of v) variable.leaf.now }) (instance_later u v variable.instance.now g is.instance)
    ∙ ap (λ leaf. record { number = variable.number; instance = instance_in (frames_of u) variable.instance.now; leaf = leaf }) same
  where
    held : Leaf → Option Leaf → Leaf
    held other None = other
    held other (Some leaf) = leaf

    same : leaf_in (frames_of v) variable.leaf.now ≡ leaf_in (frames_of u) variable.leaf.now
    same = ap (λ i. held (leaf_in (frames_of v) variable.leaf.now) i.leaf) (instance_later u v (whole variable) g (is_whole u variable is))

pub is_one_of_later : (u v : World) (variable : VariableAt) → Grows u v → IsOneOf u variable → IsOneOf v variable
is_one_of_later u v variable g is = record {
  instance = is_instance_later u v variable.instance.now g is.instance;
  leaf = (is_instance_later u v (whole variable) g (is_whole u variable is)).leaf;
  bound = leaf_bound_later u v variable.instance.now.frame.0 variable.leaf.now g is.instance.frame is.leaf is.bound;
}

pub is_chosen_later : (u v : World) (chosen : ChosenAt) → Grows u v → IsChosen u chosen → IsChosen v chosen
is_chosen_later u v chosen g is = is_frame_later u v chosen.scope.frame.0 g is

pub flat_later : (u v : World) (before after : Desk) (variable : VariableAt) (kind : Kind) (chosen : ChosenAt) → IsDesk u before → Goes u v before after → IsOneOf u variable → IsChosen u chosen →
    flat_of_leaf (tree_in v after.leaves) (variable_in (frames_of v) variable) kind (chosen_in (frames_of v) chosen) ≡ flat_of_leaf (tree_in u before.leaves) (variable_in (frames_of u) variable) kind (chosen_in (frames_of u) chosen)
flat_later u v before after variable kind chosen is goes one from =
    ap (λ (tree : Tree). flat_of_leaf tree (variable_in (frames_of v) variable) kind (chosen_in (frames_of v) chosen)) (same_tree u v before after is goes)
    ∙ ap (λ (x : Variable). flat_of_leaf (tree_in u before.leaves) x kind (chosen_in (frames_of v) chosen)) (variable_later u v variable goes.grows one)
    ∙ ap (flat_of_leaf (tree_in u before.leaves) (variable_in (frames_of u) variable) kind) (chosen_later u v chosen goes.grows from)

-- ---- bindings

-- what is known of a binding, whether its kind has values or not
known_through : {A : Type 0} (kind : Kind) → has_values kind ≡ true → (r : Outcome A) (checks : A → Outcome (Unit {0})) (known : A → Outcome Known) →
    and_then r (λ x. and_then (checks x) (λ _. and_then (known x) (λ k. Ok (if_it_has kind k)))) ≡ and_then r (λ x. and_then (checks x) (λ _. known x))
known_through kind has (Err broken) checks known = refl
known_through kind has (Ok x) checks known = one (checks x) (known x)
  where
    same : (k : Known) → if_it_has kind k ≡ k
    same k = rw has refl

    two : (o : Outcome Known) → and_then o (λ k. Ok (if_it_has kind k)) ≡ o
    two (Ok k) = ap (λ (x : Known). Ok x) (same k)
    two (Err broken) = refl

    one : (c : Outcome (Unit {0})) (o : Outcome Known) → and_then c (λ _. and_then o (λ k. Ok (if_it_has kind k))) ≡ and_then c (λ _. o)
    one (Ok _) o = two o
    one (Err broken) o = refl

pub binding_is : (tree : Tree) (variable : Variable) (binding : Chosen) →
    flat_binding tree variable binding ≡ value_or tree.classes (flat_of_leaf tree variable variable.leaf.kind binding) (known_of_binding tree variable binding)
binding_is tree variable binding = at (is_parameter variable.leaf.role) refl (has_values variable.leaf.kind) refl
  where
    at : (a : Bool) → is_parameter variable.leaf.role ≡ a → (b : Bool) → has_values variable.leaf.kind ≡ b →
        flat_binding tree variable binding ≡ value_or tree.classes (flat_of_leaf tree variable variable.leaf.kind binding) (known_of_binding tree variable binding)
    at false p b q = rw p refl
    at true p false q = rw (p, q) refl
    at true p true q =
        let both : (is_parameter variable.leaf.role && has_values variable.leaf.kind) ≡ true = rw (p, q) refl in
        let leaf = flat_of_leaf tree variable variable.leaf.kind binding in
        ap (λ (b : Bool). if b then value_or tree.classes leaf (known_of_leaf tree variable variable.leaf.kind binding) else leaf) both
        ∙ (ap (value_or tree.classes leaf)
        (known_through variable.leaf.kind q (resolved_for_value tree.classes most_references binding.scope binding.value)
        (λ resolved. layered (λ got. accepts variable.leaf.kind got (place_of binding.value)) (fits_leaf tree variable binding) resolved.expression)
        (λ resolved. known_of tree.classes most_references resolved binding.pending))
        ∙ sym (ap (λ (b : Bool). value_or tree.classes leaf (if b then known_of_leaf_at tree variable binding else Ok None)) both))

-- ---- counts

pub attributes_more : (old new : Attributes) (attributes : List (ℕ × FlatExpr)) (number : ℕ) (flat : Flat) (e : FlatExpr) → AreAttributes old attributes → IsFlat flat e →
    new.nodes ≡ capped (old.nodes + flat.nodes) → ((u : FlatExpr) → flat.built ≡ Some u → new.built ≡ old.built ++ (number, u) ∷ []) → AreAttributes new (attributes ++ (number, e) ∷ [])
attributes_more old new attributes number flat e are is nodes built = record {
  nodes = counts old.nodes flat.nodes new.nodes (nodes_of_attributes attributes) (node_count e) (nodes_of_attributes (attributes ++ (number, e) ∷ [])) are.nodes is.nodes total nodes;
  built = λ few. at few flat.built refl;
}
  where
    total : nodes_of_attributes (attributes ++ (number, e) ∷ []) ≡ nodes_of_attributes attributes + node_count e
    total = sum_by-append (λ (attribute : ℕ × FlatExpr). node_count attribute.1) attributes ((number, e) ∷ []) ∙ ap (λ n. nodes_of_attributes attributes + n) (sum_by-cons (λ (attribute : ℕ × FlatExpr). node_count attribute.1) (number, e) [] ∙ plain (node_count e))
      where
        plain : (n : ℕ) → n + 0 ≡ n
        plain n = omega arith

    counts : (a b c x y z : ℕ) → a ≡ capped x → b ≡ capped y → z ≡ x + y → c ≡ capped (a + b) → c ≡ capped z
    counts a b c x y z p q r s = omega (arith, p, q, r, s)

    left : (x y z : ℕ) → z ≡ x + y → z ≤ most_nodes → x ≤ most_nodes
    left x y z h few = omega (arith, h, few)

    right : (x y z : ℕ) → z ≡ x + y → z ≤ most_nodes → y ≤ most_nodes
    right x y z h few = omega (arith, h, few)

    at : nodes_of_attributes (attributes ++ (number, e) ∷ []) ≤ most_nodes → (b : Option FlatExpr) → flat.built ≡ b → new.built ≡ attributes ++ (number, e) ∷ []
    at few (Some u) has =
        built u has ∙ ap (λ xs. xs ++ (number, u) ∷ []) (are.built (left (nodes_of_attributes attributes) (node_count e) (nodes_of_attributes (attributes ++ (number, e) ∷ [])) total few))
        ∙ ap (λ x. attributes ++ (number, x) ∷ []) (is.built u has)
    at few None has =
        let above : most_nodes < node_count e = is.past has in
        let below : node_count e ≤ most_nodes = right (nodes_of_attributes attributes) (node_count e) (nodes_of_attributes (attributes ++ (number, e) ∷ [])) total few in
        absurd (omega (arith, above, below))

-- a binding that is an equation, or none
pub made_nothing : (held : MadeAt) (made : Made) → IsMade held made → IsMade held (beside made nothing)
made_nothing held made is = subst (IsMade held) (sym (same made)) is
  where
    same : (m : Made) → beside m nothing ≡ m
    same m = rw (append-nil m.equations, append-nil m.asserts, append-nil m.connects) refl

-- ---- variables

unknowns_more : (n : ℕ) (vars : List FlatVar) (v : FlatVar) → length (unknowns_from n (vars ++ v ∷ [])) ≡ length (unknowns_from n vars) + (if is_unknown_role (Some v.role) then 1 else 0)
unknowns_more n [] v = at (is_unknown_role (Some v.role)) refl
  where
    at : (b : Bool) → is_unknown_role (Some v.role) ≡ b → length (unknowns_from n (v ∷ [])) ≡ 0 + (if is_unknown_role (Some v.role) then 1 else 0)
    at true is = rw is refl
    at false is = rw is refl
unknowns_more n (w ∷ ws) v = at (unknowns_more (n + 1) ws v) (is_unknown_role (Some w.role)) refl
  where
    at : length (unknowns_from (n + 1) (ws ++ v ∷ [])) ≡ length (unknowns_from (n + 1) ws) + (if is_unknown_role (Some v.role) then 1 else 0) → (b : Bool) → is_unknown_role (Some w.role) ≡ b →
        length (unknowns_from n (w ∷ (ws ++ v ∷ []))) ≡ length (unknowns_from n (w ∷ ws)) + (if is_unknown_role (Some v.role) then 1 else 0)
    at rest true is = rw is (ap suc rest ∙ one (length (unknowns_from (n + 1) ws)) (if is_unknown_role (Some v.role) then 1 else 0))
      where
        one : (a b : ℕ) → suc (a + b) ≡ suc a + b
        one a b = omega arith
    at rest false is = rw is rest

counts_more : (a b c x y z : ℕ) → a ≡ capped x → capped b ≡ capped y → z ≡ x + y → c ≡ capped (a + b) → c ≡ capped z
counts_more a b c x y z p q r s = omega (arith, p, q, r, s)

first_low : (x y z : ℕ) → z ≡ x + y → z ≤ most_nodes → x ≤ most_nodes
first_low x y z h few = omega (arith, h, few)

last_low : (x y z : ℕ) → z ≡ x + y → z ≤ most_nodes → y ≤ most_nodes
last_low x y z h few = omega (arith, h, few)

low_count : (c z : ℕ) → c ≡ capped z → z ≤ most_nodes → c ≤ most_nodes
low_count c z h few = omega (arith, h, few)

nodes_more : (before : List Declared) (one : Declared) → nodes_of_declared (before ++ one ∷ []) ≡ nodes_of_declared before + nodes_of_variable one.variable
nodes_more before one =
    sum_by-append (λ (x : Declared). nodes_of_variable x.variable) before (one ∷ [])
    ∙ ap (λ n. nodes_of_declared before + n) (sum_by-cons (λ (x : Declared). nodes_of_variable x.variable) one [] ∙ plain (nodes_of_variable one.variable))
  where
    plain : (n : ℕ) → n + 0 ≡ n
    plain n = omega arith

equations_more : (before : List Declared) (one : Declared) → flat_map (λ (x : Declared). x.equations) (before ++ one ∷ []) ≡ flat_map (λ x. x.equations) before ++ one.equations
equations_more [] one = append-nil one.equations
equations_more (x ∷ xs) one = ap (λ qs. x.equations ++ qs) (equations_more xs one) ∙ sym (append_assoc x.equations (flat_map (λ (y : Declared). y.equations) xs) one.equations)

unknowns_now : (n : ℕ) (role : Role) (old : ℕ) → old ≡ capped n → unknowns_with old role ≡ capped (n + (if is_unknown_role (Some role) then 1 else 0))
unknowns_now n Unknown old h = omega (arith, h)
unknowns_now n Given old h = h ∙ ap capped (plain n)
  where
    plain : (n : ℕ) → n ≡ n + 0
    plain n = omega arith
unknowns_now n Parameter old h = h ∙ ap capped (plain n)
  where
    plain : (n : ℕ) → n ≡ n + 0
    plain n = omega arith
unknowns_now n Constant old h = h ∙ ap capped (plain n)
  where
    plain : (n : ℕ) → n ≡ n + 0
    plain n = omega arith

-- one variable more
pub declared_more : (old new : DeclaredAt) (made : MadeAt) (before : List Declared) (one : Declared) (nodes : ℕ) (var : FlatVar) → AreDeclared old before → HasOneMore (record old { made = made }) new nodes var →
    capped nodes ≡ capped (nodes_of_variable one.variable) → var.role ≡ one.variable.role → (nodes_of_variable one.variable ≤ most_nodes → var ≡ one.variable) →
    IsMade made (beside (made_equations (flat_map (λ (x : Declared). x.equations) before)) (made_equations one.equations)) → AreDeclared new (before ++ one ∷ [])
declared_more old new made before one nodes var are more count role is put = record {
  nodes = counts_more old.nodes nodes new.nodes (nodes_of_declared before) (nodes_of_variable one.variable) (nodes_of_declared (before ++ one ∷ [])) are.nodes count (nodes_more before one) more.count;
  unknowns = more.unknowns ∙ ap (unknowns_with old.unknowns) role ∙ unknowns_now (length (unknown_numbers (map (λ (x : Declared). x.variable) before))) one.variable.role old.unknowns are.unknowns
      ∙ ap capped (sym (ap (λ vs. length (unknown_numbers vs)) (map-append (λ (x : Declared). x.variable) before (one ∷ [])) ∙ unknowns_more 1 (map (λ (x : Declared). x.variable) before) one.variable));
  vars = λ few.
      more.vars (low_count new.nodes (nodes_of_declared (before ++ one ∷ []))
      (counts_more old.nodes nodes new.nodes (nodes_of_declared before) (nodes_of_variable one.variable) (nodes_of_declared (before ++ one ∷ [])) are.nodes count (nodes_more before one) more.count) few)
      ∙ ap (λ vs. vs ++ var ∷ []) (are.vars (first_low (nodes_of_declared before) (nodes_of_variable one.variable) (nodes_of_declared (before ++ one ∷ [])) (nodes_more before one) few))
      ∙ ap (λ v. map (λ (x : Declared). x.variable) before ++ v ∷ []) (is (last_low (nodes_of_declared before) (nodes_of_variable one.variable) (nodes_of_declared (before ++ one ∷ [])) (nodes_more before one) few))
      ∙ sym (map-append (λ (x : Declared). x.variable) before (one ∷ []));
  made = subst (λ m. IsMade m (made_equations (flat_map (λ (x : Declared). x.equations) (before ++ one ∷ [])))) (sym more.made)
      (subst (λ qs. IsMade made (made_equations qs)) (sym (equations_more before one)) put);
}

-- ---- one variable

nodes_of_held : (binding : Option Flat) (e : Option FlatExpr) → IsFlatOption binding e → nodes_held binding ≡ capped (nodes_of_option e)
nodes_of_held None None is = omega arith
nodes_of_held None (Some e) is = absurd is
nodes_of_held (Some flat) None is = absurd is
nodes_of_held (Some flat) (Some e) is = is.nodes

built_of_held : (binding : Option Flat) (e : Option FlatExpr) → IsFlatOption binding e → nodes_of_option e ≤ most_nodes → built_held binding ≡ e
built_of_held None None is few = refl
built_of_held None (Some e) is few = absurd is
built_of_held (Some flat) None is few = absurd is
built_of_held (Some flat) (Some e) is few = at flat.built refl
  where
    at : (b : Option FlatExpr) → flat.built ≡ b → flat.built ≡ Some e
    at (Some u) has = has ∙ ap (λ x. Some x) (is.built u has)
    at None has = let above : most_nodes < node_count e = is.past has in absurd (omega (arith, above, few))

pub equation_held : (role : Role) (binding : Option Flat) (e : Option FlatExpr) → IsFlatOption binding e → IsFlatOption (equation_part role binding) (equation_of role e)
equation_held Unknown binding e is = is
equation_held Given binding e is = tt
equation_held Parameter binding e is = tt
equation_held Constant binding e is = tt

sum_counts : (a b x y : ℕ) → a ≡ capped x → b ≡ capped y → capped (capped (a + b)) ≡ capped (y + x)
sum_counts a b x y p q = omega (arith, p, q)

two_low : (x y : ℕ) → y + x ≤ most_nodes → (x ≤ most_nodes) × (y ≤ most_nodes)
two_low x y few = (omega (arith, few), omega (arith, few))

bound_equation : (F : List Frame) (variable : Variable) (o : Option ChosenAt) (e : Option FlatExpr) → IsBound o e → binding_equation variable (option_map (chosen_in F) o) e ≡ equation_with variable.number (place_of_option o) e
bound_equation F variable None None bound = refl
bound_equation F variable None (Some e) bound = absurd bound
bound_equation F variable (Some binding) None bound = refl
bound_equation F variable (Some binding) (Some e) bound = refl

module _ (F : List Frame) (tree : Tree) (v : VariableAt) (attributes : Attributes) (given : List (ℕ × FlatExpr)) (binding : Option Flat) (e : Option FlatExpr)
    (are : AreAttributes attributes given) (is : IsFlatOption binding e) (bound : IsBound v.leaf.now.binding e) where
  abbrev variable : Variable
  variable = variable_in F v

  abbrev one : Declared
  one = declared_with tree variable given e

  pub count_is : capped (capped (nodes_held (printed_part v.leaf.now.role binding) + attributes.nodes)) ≡ capped (nodes_of_variable one.variable)
  count_is = at v.leaf.now.role refl
    where
      at : (r : Role) → v.leaf.now.role ≡ r → capped (capped (nodes_held (printed_part v.leaf.now.role binding) + attributes.nodes)) ≡ capped (nodes_of_variable one.variable)
      at Unknown p = rw p (sum_counts 0 attributes.nodes 0 (nodes_of_attributes given) (omega arith) are.nodes)
      at Given p = rw p (sum_counts (nodes_held binding) attributes.nodes (nodes_of_option e) (nodes_of_attributes given) (nodes_of_held binding e is) are.nodes)
      at Parameter p = rw p (sum_counts (nodes_held binding) attributes.nodes (nodes_of_option e) (nodes_of_attributes given) (nodes_of_held binding e is) are.nodes)
      at Constant p = rw p (sum_counts (nodes_held binding) attributes.nodes (nodes_of_option e) (nodes_of_attributes given) (nodes_of_held binding e is) are.nodes)

  pub role_is : v.leaf.now.role ≡ one.variable.role
  role_is = at v.leaf.now.role refl
    where
      at : (r : Role) → v.leaf.now.role ≡ r → v.leaf.now.role ≡ one.variable.role
      at Unknown p = rw p refl
      at Given p = rw p refl
      at Parameter p = rw p refl
      at Constant p = rw p refl

  abbrev by_role : Role → Declared
  by_role Unknown = record { variable = variable_with tree variable given None; equations = binding_equation variable variable.leaf.binding e }
  by_role role = record { variable = variable_with tree variable given e; equations = [] }

  role_of : (r : Role) → v.leaf.now.role ≡ r → one ≡ by_role r
  role_of Unknown p = rw p refl
  role_of Given p = rw p refl
  role_of Parameter p = rw p refl
  role_of Constant p = rw p refl

  pub variable_is : nodes_of_variable one.variable ≤ most_nodes → variable_with tree variable attributes.built (built_held (printed_part v.leaf.now.role binding)) ≡ one.variable
  variable_is few = at v.leaf.now.role refl few
    where
      same : (b : Option FlatExpr) (as_ : List (ℕ × FlatExpr)) → attributes.built ≡ as_ → (c : Option FlatExpr) → b ≡ c → variable_with tree variable attributes.built b ≡ variable_with tree variable as_ c
      same b as_ p c q = ap (λ xs. variable_with tree variable xs b) p ∙ ap (variable_with tree variable as_) q

      unknown : nodes_of_attributes given + 0 ≤ most_nodes → variable_with tree variable attributes.built None ≡ variable_with tree variable given None
      unknown low = same None given (are.built (two_low 0 (nodes_of_attributes given) low).1) None refl

      other : nodes_of_attributes given + nodes_of_option e ≤ most_nodes → variable_with tree variable attributes.built (built_held binding) ≡ variable_with tree variable given e
      other low = let both = two_low (nodes_of_option e) (nodes_of_attributes given) low in same (built_held binding) given (are.built both.1) e (built_of_held binding e is both.0)

      at : (r : Role) → v.leaf.now.role ≡ r → nodes_of_variable one.variable ≤ most_nodes → variable_with tree variable attributes.built (built_held (printed_part v.leaf.now.role binding)) ≡ one.variable
      at Unknown p low = ap (λ r. variable_with tree variable attributes.built (built_held (printed_part r binding))) p ∙ unknown (rw p at low) ∙ sym (ap (λ (x : Declared). x.variable) (role_of Unknown p))
      at Given p low = ap (λ r. variable_with tree variable attributes.built (built_held (printed_part r binding))) p ∙ other (rw p at low) ∙ sym (ap (λ (x : Declared). x.variable) (role_of Given p))
      at Parameter p low = ap (λ r. variable_with tree variable attributes.built (built_held (printed_part r binding))) p ∙ other (rw p at low) ∙ sym (ap (λ (x : Declared). x.variable) (role_of Parameter p))
      at Constant p low = ap (λ r. variable_with tree variable attributes.built (built_held (printed_part r binding))) p ∙ other (rw p at low) ∙ sym (ap (λ (x : Declared). x.variable) (role_of Constant p))

  pub equations_are : one.equations ≡ equation_with v.number (place_of_option v.leaf.now.binding) (equation_of v.leaf.now.role e)
  equations_are = at v.leaf.now.role refl
    where
      at : (r : Role) → v.leaf.now.role ≡ r → one.equations ≡ equation_with v.number (place_of_option v.leaf.now.binding) (equation_of v.leaf.now.role e)
      at Unknown p = rw p (bound_equation F variable v.leaf.now.binding e bound)
      at Given p = rw p refl
      at Parameter p = rw p refl
      at Constant p = rw p refl
