-- What instances give, by their variables, the frames of their classes, and what comes of the sections of these.
use Rattle.std.proofs.Common.{◌≡◌, ℕ, List, [], ◌∷◌, ◌++◌, flat_map, map, Result, Ok, Err, refl, ap, subst, sym, ◌∙◌}
use Rattle.std.specs.Prelude.{IfErr, IfOk}
use Rattle.mo_syntax.specs.Outcome.{IfBroken, Outcome, and_then}
use Rattle.mo_syntax.specs.declared.place.NoMemory.{NoMemory}
use Rattle.mo_syntax.specs.declared.place.Stop.{Stop}
use Rattle.mo_syntax.specs.declared.place.Stop.TheVariants.{Broken as broken_by, NoMemory as no_memory}
use Rattle.mo_flat.specs.declared.connect.Expanded.{Expanded}
use Rattle.mo_scope.specs.declared.instance.Instance.{Instance as InstanceAt}
use Rattle.mo_scope.specs.Rows.{Table}
use Rattle.mo_scope.specs.Frames.{Frame}
use Rattle.mo_scope.specs.Instances.{Instance}
use Rattle.mo_scope.specs.Trees.{instances_in}
use Rattle.mo_scope.specs.Worlds.{World, table_in}
use Rattle.mo_typing.specs.Outcome.{each}
use Rattle.mo_equations.specs.declared.desk.Desk.{Desk}
use Rattle.mo_equations.specs.declared.leaves.Leaves.{Leaves}
use Rattle.mo_equations.specs.declared.sections.Parts.{Parts as PartsAt}
use Rattle.mo_equations.specs.declared.variables.Declared.{Declared as DeclaredAt}
use Rattle.mo_equations.specs.declared.whole.Expansion.{Expansion as ExpansionAt}
use Rattle.mo_equations.specs.Counted.{GivesExpansion, IsExpansion}
use Rattle.mo_equations.specs.Expansion.{Parts, Placed, all_sections, expansion_of, made_placed, sections_at, sections_of_instance}
use Rattle.mo_equations.specs.Gathering.{Turning, turn_each}
use Rattle.mo_equations.specs.Leaves.{Tree}
use Rattle.mo_equations.specs.Sections.{frames_of}
use Rattle.mo_equations.specs.Variables.{Declared, all_declared}
use Rattle.mo_equations.specs.steps.Declaring.{AreDeclared, expanded_from}
use Rattle.mo_equations.specs.steps.Standing.{tree_in}
use Rattle.mo_equations.specs.steps.Flats.{Answers}
use Rattle.mo_equations.specs.steps.Placing.{GivesParts, frames_of_instances, parts_of_tree}
use Rattle.mo_equations.proofs.Lists.{flat_mapped}

-- ---- all sections

-- the sections of all instances are those of the frames that all instances have
module _ (table : Table) where
  abbrev frames_at : Instance → Outcome (List Frame)
  frames_at instance = frames_of table instance.frame

  abbrev sections_with : List (List Frame) → Outcome (List (List Placed))
  sections_with lists = Ok (map (flat_map (sections_at table)) lists)

  one_more : (first : Outcome (List Frame)) (more : Outcome (List (List Placed))) (others : Outcome (List (List Frame))) → more ≡ and_then others sections_with →
      and_then {A = List Placed} {B = List (List Placed)} (and_then first (λ frames. Ok (flat_map (sections_at table) frames))) (λ value. and_then more (λ values. Ok (value ∷ values)))
      ≡ and_then {A = List (List Frame)} {B = List (List Placed)} (and_then {A = List Frame} {B = List (List Frame)} first (λ value. and_then others (λ values. Ok (value ∷ values)))) sections_with
  one_more (Err broken) more others is = refl
  one_more (Ok frames) more (Err broken) is = rw is refl
  one_more (Ok frames) more (Ok lists) is = rw is refl

  pub each_section : (instances : List Instance) → each (sections_of_instance table) instances ≡ and_then (each frames_at instances) sections_with
  each_section [] = refl
  each_section (instance ∷ others) = one_more (frames_at instance) (each (sections_of_instance table) others) (each frames_at others) (each_section others)

  flat_lists : (lists : List (List Frame)) → flat_map (λ placed. placed) (map (flat_map (sections_at table)) lists) ≡ flat_map (sections_at table) (flat_map (λ list. list) lists)
  flat_lists [] = refl
  flat_lists (list ∷ lists) =
      ap (λ (ps : List Placed). flat_map (sections_at table) list ++ ps) (flat_lists lists) ∙ sym (flat_mapped (sections_at table) list (flat_map (λ l. l) lists))

  joined : (o : Outcome (List (List Frame))) →
      and_then {A = List (List Placed)} {B = List Placed} (and_then {A = List (List Frame)} {B = List (List Placed)} o sections_with) (λ sections. Ok (flat_map (λ placed. placed) sections))
      ≡ and_then {A = List Frame} {B = List Placed} (and_then {A = List (List Frame)} {B = List Frame} o (λ lists. Ok (flat_map (λ list. list) lists))) (λ frames. Ok (flat_map (sections_at table) frames))
  joined (Ok lists) = ap (λ (ps : List Placed). Ok ps) (flat_lists lists)
  joined (Err broken) = refl

abbrev sections_of_frames : Table → List Frame → Outcome (List Placed)
sections_of_frames table frames = Ok (flat_map (sections_at table) frames)

pub sections_by_frames : (tree : Tree) → all_sections tree ≡ and_then (frames_of_instances tree.classes tree.instances) (sections_of_frames tree.classes)
sections_by_frames tree =
    ap (λ (o : Outcome (List (List Placed))). and_then {A = List (List Placed)} {B = List Placed} o (λ sections. Ok (flat_map (λ placed. placed) sections))) (each_section tree.classes tree.instances)
    ∙ joined tree.classes (each (frames_at tree.classes) tree.instances)

-- ---- what comes of them

abbrev parts_from : Tree → List Placed → Turning (List Parts)
parts_from tree sections = turn_each (made_placed tree) sections

pub parts_by_frames : (tree : Tree) (frames : List Frame) (turns : ℕ) → frames_of_instances tree.classes tree.instances ≡ Ok frames →
    parts_of_tree tree turns ≡ parts_from tree (flat_map (sections_at tree.classes) frames) turns
parts_by_frames tree frames turns h =
    ap (λ (o : Outcome (List Placed)). and_then {A = List Placed} {B = List Parts × ℕ} o (λ sections. parts_from tree sections turns))
    (sections_by_frames tree ∙ ap (λ (o : Outcome (List Frame)). and_then {A = List Frame} {B = List Placed} o (sections_of_frames tree.classes)) h)

pub parts_halt : (tree : Tree) (desk : Desk) (turns : ℕ) (stop : Stop) → IfBroken {T = Unit {0}} (Err stop) (λ broken. frames_of_instances tree.classes tree.instances ≡ Err broken) →
    GivesParts (Err stop) desk (parts_of_tree tree turns)
parts_halt tree desk turns (broken_by broken) h =
    ap (λ (o : Outcome (List Placed)). and_then {A = List Placed} {B = List Parts × ℕ} o (λ sections. parts_from tree sections turns))
    (sections_by_frames tree ∙ ap (λ (o : Outcome (List Frame)). and_then {A = List Frame} {B = List Placed} o (sections_of_frames tree.classes)) h)
parts_halt tree desk turns no_memory h = tt

pub parts_as : (result : Result PartsAt Stop) (desk : Desk) (o o' : Outcome (List Parts × ℕ)) → o ≡ o' → GivesParts result desk o → GivesParts result desk o'
parts_as (Ok held) desk o o' e k = (k.0, sym e ∙ k.1, k.2)
parts_as (Err (broken_by broken)) desk o o' e k = sym e ∙ k
parts_as (Err no_memory) desk o o' e k = tt

-- ---- the whole

abbrev with_parts : Tree → List Declared → List Parts × ℕ → Outcome Expanded
with_parts tree declared made = Ok (expanded_from tree declared made.0)

abbrev with_sections : Tree → List Declared → List Placed → Outcome Expanded
with_sections tree declared sections = and_then (parts_from tree sections 0) (with_parts tree declared)

abbrev with_declared : Tree → List Declared → Outcome Expanded
with_declared tree declared = and_then (all_sections tree) (with_sections tree declared)

threaded : (tree : Tree) (declared : List Declared) (o : Outcome (List Placed)) →
    and_then {A = List Placed} {B = Expanded} o (with_sections tree declared)
    ≡ and_then {A = List Parts × ℕ} {B = Expanded} (and_then {A = List Placed} {B = List Parts × ℕ} o (λ sections. parts_from tree sections 0)) (with_parts tree declared)
threaded tree declared (Ok sections) = refl
threaded tree declared (Err broken) = refl

pub expansion_by : (tree : Tree) (declared : List Declared) → all_declared tree ≡ Ok declared → expansion_of tree ≡ and_then (parts_of_tree tree 0) (with_parts tree declared)
expansion_by tree declared h =
    ap (λ (o : Outcome (List Declared)). and_then {A = List Declared} {B = Expanded} o (with_declared tree)) h ∙ threaded tree declared (all_sections tree)

pub expansion_is : (tree : Tree) (declared : List Declared) (parts : List Parts) (turns : ℕ) → all_declared tree ≡ Ok declared → parts_of_tree tree 0 ≡ Ok (parts, turns) →
    expansion_of tree ≡ Ok (expanded_from tree declared parts)
expansion_is tree declared parts turns h k =
    expansion_by tree declared h ∙ ap (λ (o : Outcome (List Parts × ℕ)). and_then {A = List Parts × ℕ} {B = Expanded} o (with_parts tree declared)) k

pub declared_stop : (tree : Tree) (stop : Stop) → Answers {T = DeclaredAt} {A = List Declared} AreDeclared (Err stop) (all_declared tree) → GivesExpansion (Err stop) tree
declared_stop tree (broken_by broken) h = ap (λ (o : Outcome (List Declared)). and_then {A = List Declared} {B = Expanded} o (with_declared tree)) h
declared_stop tree no_memory h = tt

pub parts_stop : (tree : Tree) (declared : List Declared) (desk : Desk) (stop : Stop) → all_declared tree ≡ Ok declared → GivesParts (Err stop) desk (parts_of_tree tree 0) → GivesExpansion (Err stop) tree
parts_stop tree declared desk (broken_by broken) h k =
    expansion_by tree declared h ∙ ap (λ (o : Outcome (List Parts × ℕ)). and_then {A = List Parts × ℕ} {B = Expanded} o (with_parts tree declared)) k
parts_stop tree declared desk no_memory h k = tt

-- ---- the tree of a desk

-- the tree of some instances
abbrev pub tree_with : World → List InstanceAt → Tree
tree_with world instances = record { classes = table_in world; instances = instances_in world instances }

pub tree_is : (world : World) (leaves : Leaves) (instances : List InstanceAt) → leaves.instances.now ≡ instances → tree_in world leaves ≡ tree_with world instances
tree_is world leaves instances e = ap (tree_with world) e

-- ---- as the answer of a whole

pub gives_whole : (result : Result ExpansionAt Stop) (made : Result ExpansionAt NoMemory) (tree : Tree) (e : Expanded) → IfOk result (λ value. made ≡ Ok value) → IfErr result (λ stop. stop ≡ no_memory) →
    IfOk made (λ m. IsExpansion m e) → expansion_of tree ≡ Ok e → GivesExpansion result tree
gives_whole (Ok value) made tree e same error is whole = (e, whole, subst (λ m. IfOk m (λ m. IsExpansion m e)) same is)
gives_whole (Err stop) made tree e same error is whole = rw error tt
