-- The values of a table as chosen expressions, and leaves.
use Rattle.std.proofs.Common.{◌≡◌, ℕ, Bool, true, false, List, [], length, map, Option, Some, None, Ok, refl, ap, sym, ◌∙◌}
use Rattle.std.specs.Prelude.{◌&&◌, not, option_map, IfSome, if◌then◌else◌}
use Rattle.mo_syntax.specs.Outcome.{breaks}
use Rattle.mo_syntax.specs.declared.meaning.Kind.{Kind}
use Rattle.mo_syntax.specs.declared.meaning.Role.{Role}
use Rattle.mo_scope.specs.Frames.{Frame, Member, Top}
use Rattle.mo_scope.specs.Instances.{Chosen, Leaf}
use Rattle.mo_scope.specs.Parts.{Picked}
use Rattle.mo_scope.specs.Rows.{Table}
use Rattle.mo_scope.specs.Worlds.{World, frame_in}
use Rattle.mo_mods.specs.declared.env.MergedEnv.{MergedEnv, out-MergedEnv}
use Rattle.mo_mods.specs.declared.env.MergedValue.{MergedValue}
use Rattle.mo_mods.specs.Merged.{Merged_value, at_path, binding, value_here}
use Rattle.mo_mods.specs.Scopes.{ScopesExist}
use Rattle.mo_mods.specs.Sights.{merged_in, value_in}
use Rattle.mo_mods.proofs.Existing.{alike_value, exists_alike, frame_of_value}
use Rattle.mo_mods.proofs.Making.{env_is}
use Rattle.mo_scope.specs.declared.instance.Chosen.{Chosen as ChosenAt}
use Rattle.mo_scope.specs.Trees.{IsChosen, attribute_in, chosen_in, leaf_in}
use Rattle.mo_instance.specs.Attributes.{kind_of_leaf}
use Rattle.mo_instance.specs.Elements.{Around, is_free, is_real, leaf_by, leaf_made}
use Rattle.mo_syntax.specs.declared.rules.TheConstants.{OUTSIDE_PROFILE}

-- what a table has for itself
pub here_is : (F : List Frame) (env : MergedEnv) (value : Option MergedValue) → (out-MergedEnv env).value ≡ value →
    binding (merged_in F env) [] ≡ option_map (λ (one : Merged_value). one.picked) (option_map (value_in F) value)
here_is F env value is =
    ap (λ merged. binding merged []) (env_is F env) ∙ ap (λ (v : Option MergedValue). option_map (λ (one : Merged_value). one.picked) (option_map (value_in F) v)) is

abbrev frame_of_picked : Option Picked → Frame
frame_of_picked None = Top
frame_of_picked (Some picked) = picked.scope.frame

value_frame : (value : Option Merged_value) → frame_of_value value ≡ frame_of_picked (option_map (λ one. one.picked) value)
value_frame None = refl
value_frame (Some value) = refl

chosen_frame : (F : List Frame) (chosen : ChosenAt) (value : Option Merged_value) → Some (chosen_in F chosen) ≡ option_map (λ one. one.picked) value → frame_in F chosen.scope.frame.0 ≡ frame_of_value value
chosen_frame F chosen value is = ap frame_of_picked is ∙ sym (value_frame value)

-- a value that is chosen for a path is looked up in a frame that exists
pub chosen_exists : (world : World) (env : MergedEnv) (path : List (List ℕ)) (found : Option ChosenAt) → ((F : List Frame) → option_map (chosen_in F) found ≡ binding (merged_in F env) path) →
    ScopesExist world env → IfSome found (IsChosen world)
chosen_exists world env path None is exist = tt
chosen_exists world env path (Some chosen) is exist =
    exists_alike (length world.entries) chosen.scope.frame.0
    (λ F G alike.
    chosen_frame F chosen (value_here (at_path (merged_in F env) path)) (is F) ∙ alike_value world env exist F G alike path
    ∙ sym (chosen_frame G chosen (value_here (at_path (merged_in G env) path)) (is G)))

-- ---- a leaf

abbrev leaf_with : Kind → Role → List (ℕ × Chosen) → Option Chosen → Leaf
leaf_with kind role attributes binding = record { kind = kind; role = role; attributes = attributes; binding = binding }

-- a leaf is what its parts are
pub leaf_is : (F : List Frame) (kind : Kind) (role : Role) (attributes : List (ℕ × ChosenAt)) (binding : Option ChosenAt) (made : Leaf) →
    kind ≡ made.kind → role ≡ made.role → map (attribute_in F) attributes ≡ made.attributes → option_map (chosen_in F) binding ≡ made.binding →
    leaf_in F (record { kind = kind; role = role; attributes = attributes; binding = binding }) ≡ made
leaf_is F kind role attributes binding made same_kind same_role same_attributes same_binding =
    ap (λ (k : Kind). leaf_with k role (map (attribute_in F) attributes) (option_map (chosen_in F) binding)) same_kind
    ∙ ap (λ (r : Role). leaf_with made.kind r (map (attribute_in F) attributes) (option_map (chosen_in F) binding)) same_role
    ∙ ap (λ (xs : List (ℕ × Chosen)). leaf_with made.kind made.role xs (option_map (chosen_in F) binding)) same_attributes
    ∙ ap (λ (o : Option Chosen). leaf_with made.kind made.role made.attributes o) same_binding

module _ (table : Table) (around : Around) (member : Member) (frame leaf : Frame) where
  pub leaf_breaks : (b : Bool) (kind : Kind) → kind ≡ kind_of_leaf leaf → b ≡ (is_free around.vary && not (is_real kind)) → b ≡ true → leaf_by table around member frame leaf ≡ breaks OUTSIDE_PROFILE member.declares.place
  leaf_breaks b kind same is wrong =
      ap (λ t. if t then breaks OUTSIDE_PROFILE member.declares.place else Ok (Some (leaf_made table around frame leaf)))
      (ap (λ (k : Kind). is_free around.vary && not (is_real k)) (sym same) ∙ sym is ∙ wrong)

  pub leaf_stands : (b : Bool) (kind : Kind) → kind ≡ kind_of_leaf leaf → b ≡ (is_free around.vary && not (is_real kind)) → b ≡ false →
      leaf_by table around member frame leaf ≡ Ok (Some (leaf_made table around frame leaf))
  leaf_stands b kind same is right =
      ap (λ t. if t then breaks OUTSIDE_PROFILE member.declares.place else Ok (Some (leaf_made table around frame leaf)))
      (ap (λ (k : Kind). is_free around.vary && not (is_real k)) (sym same) ∙ sym is ∙ right)
