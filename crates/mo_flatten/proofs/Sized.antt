-- A flat model that is not too large is sound where its parts are.
use Rattle.std.proofs.Common.{◌≡◌, ℕ, ◌+◌, ◌≤◌, Bool, true, false, ◌||◌, List, ◌++◌, flat_map, length, All, Result, Ok, Err, nat_lt, ltb-false, refl, ap, sym, subst, ◌∙◌, if◌then◌else◌}
use Rattle.std.specs.Prelude.{IfOk}
use Rattle.mo_syntax.specs.Outcome.{Outcome, breaks}
use Rattle.mo_syntax.specs.declared.place.Stop.{Stop}
use Rattle.mo_flat.specs.declared.connect.Expanded.{Expanded}
use Rattle.mo_flat.specs.declared.connect.FaceSet.{FaceSet}
use Rattle.mo_flat.specs.declared.model.FlatEquation.{FlatEquation}
use Rattle.mo_flat.specs.declared.model.FlatModel.{FlatModel}
use Rattle.mo_flat.specs.Sound.{IsSoundAssert, IsSoundEquation, IsSoundModel, IsSoundVariable}
use Rattle.mo_scope.specs.Outcome.{Gives}
use Rattle.mo_connect.specs.Equations.{HasNumericMembers, IsNumericVariable, equations_of}
use Rattle.mo_connect.specs.Sets.{HasLeaves, IsOfLeaf, leaf, flow}
use Rattle.mo_flat.specs.Roles.{unknown_numbers}
use Rattle.mo_equations.specs.Size.{has_too_many, is_too_large, most_equations, most_nodes, most_unknowns, nodes_of}
use Rattle.mo_equations.specs.Sound.{IsSoundExpansion}
use Rattle.mo_flatten.specs.Flat.{model_of, within_size}
use Rattle.mo_syntax.specs.declared.rules.TheConstants.{FLAT_MODEL_TOO_LARGE}

either_false : (a b : Bool) → (a || b) ≡ false → a ≡ false
either_false false b h = refl
either_false true b h = absurd (let clash : true ≡ false = h in cc)

three_false : (a b c : Bool) → (a || b || c) ≡ false → (a ≡ false) × (b ≡ false)
three_false false false c h = (refl, refl)
three_false true b c h = absurd (let clash : true ≡ false = h in cc)
three_false false true c h = absurd (let clash : true ≡ false = h in cc)

-- the model is the one that was asked, and it is of the right size
pub record IsSized (asked m : FlatModel) : Type 0 where
  pub same : m ≡ asked
  pub few : has_too_many asked ≡ false

pub sized : (asked m : FlatModel) → within_size asked ≡ Ok m → IsSized asked m
sized asked m h = by (is_too_large asked) refl h
  where
    by : (b : Bool) → is_too_large asked ≡ b → ◌≡◌ {A = Outcome FlatModel} (if b then breaks FLAT_MODEL_TOO_LARGE asked.place else Ok asked) (Ok m) → IsSized asked m
    by true e k = absurd (let clash : ◌≡◌ {A = Outcome FlatModel} (breaks FLAT_MODEL_TOO_LARGE asked.place) (Ok m) = k in cc)
    by false e k = record { same = let one : ◌≡◌ {A = Outcome FlatModel} (Ok asked) (Ok m) = k in cc; few = either_false (has_too_many asked) _ e }

pub sound_model : (result : Result FlatModel Stop) (asked : FlatModel) → Gives (λ m. m) result (within_size asked) → length asked.vars ≤ 400000 →
    All (IsSoundVariable asked.vars) asked.vars → All (IsSoundEquation asked.vars) asked.first → All (IsSoundAssert asked.vars) asked.first_asserts →
    All (IsSoundEquation asked.vars) asked.equations → All (IsSoundAssert asked.vars) asked.asserts → IfOk result IsSoundModel
sound_model (Ok m) asked h room v f fa q a =
    let s = sized asked m h in
    let counts = three_false (nat_lt most_unknowns (length (unknown_numbers asked.vars))) (nat_lt most_equations (length asked.equations)) (nat_lt most_nodes (nodes_of asked)) s.few in
    subst IsSoundModel (sym s.same) (record {
      variables = v;
      first = f;
      first_asserts = fa;
      equations = q;
      asserts = a;
      variable_count = room;
      unknown_count = ltb-false most_unknowns (length (unknown_numbers asked.vars)) counts.0;
      equation_count = ltb-false most_equations (length asked.equations) counts.1;
    })
sound_model (Err stop) asked h room v f fa q a = tt

-- ---- connection sets

numeric_at : (e : Expanded) → IsSoundExpansion e → (variable : ℕ) → IsOfLeaf e.connects variable → IsNumericVariable e.vars variable
numeric_at e sound variable (leaf l among is) = subst (IsNumericVariable e.vars) is (sound.leaves l among)
numeric_at e sound variable (flow f) =
    subst (IsNumericVariable e.vars) (ap (λ x. x.0) f.there.is ∙ f.is) (sound.flows f.at f.leaf f.there.within)

pub numeric_sets : (e : Expanded) (sets : List FaceSet) → IsSoundExpansion e → All (HasLeaves e.connects) sets → All (HasNumericMembers e.vars) sets
numeric_sets e sets sound all k d less = λ j x within. numeric_at e sound _ (all k d less j x within)

pub model_is : (parts : Expanded) (sets : List FaceSet) (equations : List FlatEquation) (m : FlatModel) →
    m ≡ record { name = parts.name; place = parts.place; vars = parts.vars; first = parts.first; first_asserts = parts.first_asserts; equations = parts.equations ++ equations; asserts = parts.asserts } →
    equations ≡ flat_map equations_of sets → m ≡ model_of parts sets
model_is parts sets equations m is e =
    is ∙ ap (λ (qs : List FlatEquation). record { name = parts.name; place = parts.place; vars = parts.vars; first = parts.first; first_asserts = parts.first_asserts; equations = parts.equations ++ qs; asserts = parts.asserts }) e
