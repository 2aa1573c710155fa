-- The frames in which the values of tables are looked up exist: what they are does not depend on other frames.
use Rattle.std.proofs.Common.{◌≡◌, ℕ, zero, suc, ◌+◌, ◌<◌, ◌⊎◌, inl, inr, List, [], ◌∷◌, length, Option, Some, None, refl, ap, sym, ◌∙◌, arith}
use Rattle.std.specs.Prelude.{option_map, IfSome}
use Rattle.mo_scope.specs.declared.source.Picked.{Picked as PickedAt}
use Rattle.mo_scope.specs.Frames.{Frame, Top, In, No_source}
use Rattle.mo_scope.specs.Parts.{Picked, picked, redeclared_path}
use Rattle.mo_scope.specs.Rows.{Table}
use Rattle.mo_scope.specs.Sights.{picked_in}
use Rattle.mo_scope.specs.Worlds.{World, IsFrame, AreFrames, SourceEntry, frame_in, sources_in}
use Rattle.mo_scope.proofs.Numbered.{Alike, alike_sources}
use Rattle.mo_mods.specs.declared.env.MergedEnv.{MergedEnv, out-MergedEnv}
use Rattle.mo_mods.specs.declared.env.MergedValue.{MergedValue}
use Rattle.mo_mods.specs.declared.env.RedeclaredAt.{RedeclaredAt}
use Rattle.mo_mods.specs.Merged.{Merged_value, Redeclared, StandsFor, at_path, binding, redeclared_as, redeclared_here, table_for, tables_below, value_here}
use Rattle.mo_mods.specs.Scopes.{ScopesExist, env_below, env_from, redeclared_at, redeclared_of, value_at, value_of}
use Rattle.mo_mods.specs.Sights.{merged_in, merged_or, redeclared_in, value_in}
use Rattle.mo_mods.specs.Steps.{entered_value, stepped_in}
use Rattle.mo_mods.proofs.Finding.{below_is, looked_up}
use Rattle.mo_mods.proofs.Making.{env_is}
use Rattle.mo_mods.proofs.Stepped.{value_stepped, redeclared_stepped}

-- ---- numbers of frames

-- so many frames at the top, and another one
abbrev tops : ℕ → List Frame
tops zero = In 0 No_source Top None Top ∷ []
tops (suc n) = Top ∷ tops n

tops_below : (n m : ℕ) → m < n → frame_in (tops n) m ≡ Top
tops_below zero m below = absurd (omega arith)
tops_below (suc n) zero below = refl
tops_below (suc n) (suc m) below = tops_below n m (omega arith)

tops_at : (n : ℕ) → frame_in (tops n) n ≡ In 0 No_source Top None Top
tops_at zero = refl
tops_at (suc n) = tops_at n

none_at : (n : ℕ) → frame_in [] n ≡ Top
none_at n = refl

-- a number exists if its frame is the same in all lists that are alike below a bound
pub exists_alike : (bound n : ℕ) → ((F G : List Frame) → Alike F G bound → frame_in F n ≡ frame_in G n) → n < bound
exists_alike bound n same = by (below_or n bound)
  where
    below_or : (a b : ℕ) → (a < b) ⊎ (b < a + 1)
    below_or zero zero = inr (omega arith)
    below_or zero (suc b) = inl (omega arith)
    below_or (suc a) zero = inr (omega arith)
    below_or (suc a) (suc b) = next (below_or a b)
      where
        next : (a < b) ⊎ (b < a + 1) → (suc a < suc b) ⊎ (suc b < suc a + 1)
        next (inl h) = inl (omega arith)
        next (inr h) = inr (omega arith)

    by : (n < bound) ⊎ (bound < n + 1) → n < bound
    by (inl below) = below
    by (inr above) =
        let other : Top ≡ In 0 No_source Top None Top =
        same [] (tops n) (λ m below. sym (tops_below n m (omega arith))) ∙ tops_at n in cc

-- ---- what stands at a path

seen_none : (F : List Frame) (name : List ℕ) (env : Option MergedEnv) → table_for name (tables_below (merged_or F env)) ≡ merged_or F (env_below name env)
seen_none F name None = refl
seen_none F name (Some env) = ap (table_for name) (below_is F env) ∙ sym (looked_up F name (out-MergedEnv env).below.entries)

pub path_seen : (F : List Frame) (path : List (List ℕ)) (env : Option MergedEnv) → at_path (merged_or F env) path ≡ merged_or F (env_from path env)
path_seen F [] env = refl
path_seen F (name ∷ names) env = ap (λ merged. at_path merged names) (seen_none F name env) ∙ path_seen F names (env_below name env)

value_seen : (F : List Frame) (env : Option MergedEnv) → value_here (merged_or F env) ≡ option_map (value_in F) (value_of env)
value_seen F None = refl
value_seen F (Some env) = ap value_here (env_is F env)

redeclared_seen : (F : List Frame) (env : Option MergedEnv) → redeclared_here (merged_or F env) ≡ option_map (redeclared_in F) (redeclared_of env)
redeclared_seen F None = refl
redeclared_seen F (Some env) = ap redeclared_here (env_is F env)

pub value_found : (F : List Frame) (env : MergedEnv) (path : List (List ℕ)) → value_here (at_path (merged_in F env) path) ≡ option_map (value_in F) (value_at env path)
value_found F env path = ap value_here (path_seen F path (Some env)) ∙ value_seen F (env_from path (Some env))

pub redeclared_found : (F : List Frame) (env : MergedEnv) (path : List (List ℕ)) → redeclared_here (at_path (merged_in F env) path) ≡ option_map (redeclared_in F) (redeclared_at env path)
redeclared_found F env path = ap redeclared_here (path_seen F path (Some env)) ∙ redeclared_seen F (env_from path (Some env))

-- ---- the frames of what is found

abbrev pub frame_of_value : Option Merged_value → Frame
frame_of_value None = Top
frame_of_value (Some value) = value.picked.scope.frame

abbrev frame_of_redeclared : Option Redeclared → Frame
frame_of_redeclared None = Top
frame_of_redeclared (Some redeclared) = redeclared.scope.frame

-- a table whose values are the same for all lists of frames that are alike below a bound
pub scopes_exist : (world : World) (env : MergedEnv) →
    ((F G : List Frame) → Alike F G (length world.entries) → (path : List (List ℕ)) → frame_of_value (value_here (at_path (merged_in F env) path)) ≡ frame_of_value (value_here (at_path (merged_in G env) path))) →
    ((F G : List Frame) → Alike F G (length world.entries) → (path : List (List ℕ)) → frame_of_redeclared (redeclared_here (at_path (merged_in F env) path)) ≡ frame_of_redeclared (redeclared_here (at_path (merged_in G env) path))) →
    ScopesExist world env
scopes_exist world env values redeclarations = record {
  values = λ path. by_value path (value_at env path) refl;
  redeclarations = λ path. by_redeclared path (redeclared_at env path) refl;
}
  where
    by_value : (path : List (List ℕ)) (value : Option MergedValue) → value_at env path ≡ value → IfSome value (λ one. IsFrame world one.scope.frame.0)
    by_value path None is = tt
    by_value path (Some value) is =
        exists_alike (length world.entries) value.scope.frame.0
        (λ F G alike.
        sym (ap frame_of_value (value_found F env path ∙ ap (option_map (value_in F)) is)) ∙ values F G alike path ∙ ap frame_of_value (value_found G env path ∙ ap (option_map (value_in G)) is))

    by_redeclared : (path : List (List ℕ)) (redeclared : Option RedeclaredAt) → redeclared_at env path ≡ redeclared → IfSome redeclared (λ one. IsFrame world one.scope.frame.0)
    by_redeclared path None is = tt
    by_redeclared path (Some redeclared) is =
        exists_alike (length world.entries) redeclared.scope.frame.0
        (λ F G alike.
        sym (ap frame_of_redeclared (redeclared_found F env path ∙ ap (option_map (redeclared_in F)) is)) ∙ redeclarations F G alike path
        ∙ ap frame_of_redeclared (redeclared_found G env path ∙ ap (option_map (redeclared_in G)) is))

-- ---- tables that stand for sources whose frames exist

abbrev frame_of_picked : Option Picked → Frame
frame_of_picked None = Top
frame_of_picked (Some picked) = picked.scope.frame

value_frame : (value : Option Merged_value) → frame_of_value value ≡ frame_of_picked (option_map (λ one. one.picked) value)
value_frame None = refl
value_frame (Some value) = refl

pub sources_exist : (world : World) (table : Table) (env : MergedEnv) (sources : List SourceEntry) → ((F : List Frame) → StandsFor table (merged_in F env) (sources_in F sources)) → AreFrames world sources →
    ScopesExist world env
sources_exist world table env sources stands exist =
    scopes_exist world env
    (λ F G alike path.
    value_frame (value_here (at_path (merged_in F env) path)) ∙ ap frame_of_picked ((stands F).values path)
    ∙ ap (λ from. frame_of_picked (picked table from path)) (alike_sources F G (length world.entries) alike sources exist)
    ∙ sym (value_frame (value_here (at_path (merged_in G env) path)) ∙ ap frame_of_picked ((stands G).values path)))
    (λ F G alike path.
    ap frame_of_redeclared ((stands F).redeclarations path)
    ∙ ap (λ from. frame_of_redeclared (option_map redeclared_as (redeclared_path table from path))) (alike_sources F G (length world.entries) alike sources exist)
    ∙ sym (ap frame_of_redeclared ((stands G).redeclarations path)))

-- ---- tables of elements

value_frame_entered : (index : List ℕ) (value : Option Merged_value) → frame_of_value (option_map (entered_value index) value) ≡ frame_of_value value
value_frame_entered index None = refl
value_frame_entered index (Some value) = refl

pub alike_value : (world : World) (env : MergedEnv) → ScopesExist world env → (F G : List Frame) → Alike F G (length world.entries) → (path : List (List ℕ)) →
    frame_of_value (value_here (at_path (merged_in F env) path)) ≡ frame_of_value (value_here (at_path (merged_in G env) path))
alike_value world env exist F G alike path =
    ap frame_of_value (value_found F env path) ∙ by (value_at env path) (exist.values path) ∙ sym (ap frame_of_value (value_found G env path))
  where
    by : (value : Option MergedValue) → IfSome value (λ one. IsFrame world one.scope.frame.0) → frame_of_value (option_map (value_in F) value) ≡ frame_of_value (option_map (value_in G) value)
    by None there = refl
    by (Some value) there = alike value.scope.frame.0 there

alike_redeclared : (world : World) (env : MergedEnv) → ScopesExist world env → (F G : List Frame) → Alike F G (length world.entries) → (path : List (List ℕ)) →
    frame_of_redeclared (redeclared_here (at_path (merged_in F env) path)) ≡ frame_of_redeclared (redeclared_here (at_path (merged_in G env) path))
alike_redeclared world env exist F G alike path =
    ap frame_of_redeclared (redeclared_found F env path) ∙ by (redeclared_at env path) (exist.redeclarations path) ∙ sym (ap frame_of_redeclared (redeclared_found G env path))
  where
    by : (redeclared : Option RedeclaredAt) → IfSome redeclared (λ one. IsFrame world one.scope.frame.0) →
        frame_of_redeclared (option_map (redeclared_in F) redeclared) ≡ frame_of_redeclared (option_map (redeclared_in G) redeclared)
    by None there = refl
    by (Some redeclared) there = alike redeclared.scope.frame.0 there

pub steps_exist : (world : World) (env made : MergedEnv) (name index : List ℕ) → ((F : List Frame) → merged_in F made ≡ stepped_in (merged_in F env) name index) → ScopesExist world env → ScopesExist world made
steps_exist world env made name index is exist = scopes_exist world made values redeclarations
  where
    values : (F G : List Frame) → Alike F G (length world.entries) → (path : List (List ℕ)) → frame_of_value (value_here (at_path (merged_in F made) path)) ≡ frame_of_value (value_here (at_path (merged_in G made) path))
    values F G alike path = from F ∙ alike_value world env exist F G alike (name ∷ path) ∙ sym (from G)
      where
        from : (F : List Frame) → frame_of_value (value_here (at_path (merged_in F made) path)) ≡ frame_of_value (value_here (at_path (merged_in F env) (name ∷ path)))
        from F =
            ap (λ merged. frame_of_value (value_here (at_path merged path))) (is F)
            ∙ ap frame_of_value (value_stepped index (table_for name (tables_below (merged_in F env))) path)
            ∙ value_frame_entered index (value_here (at_path (merged_in F env) (name ∷ path)))

    redeclarations : (F G : List Frame) → Alike F G (length world.entries) → (path : List (List ℕ)) →
        frame_of_redeclared (redeclared_here (at_path (merged_in F made) path)) ≡ frame_of_redeclared (redeclared_here (at_path (merged_in G made) path))
    redeclarations F G alike [] =
        ap (λ merged. frame_of_redeclared (redeclared_here (at_path merged []))) (is F) ∙ sym (ap (λ merged. frame_of_redeclared (redeclared_here (at_path merged []))) (is G))
    redeclarations F G alike (next ∷ path) = from F ∙ alike_redeclared world env exist F G alike (name ∷ next ∷ path) ∙ sym (from G)
      where
        from : (F : List Frame) → frame_of_redeclared (redeclared_here (at_path (merged_in F made) (next ∷ path))) ≡ frame_of_redeclared (redeclared_here (at_path (merged_in F env) (name ∷ next ∷ path)))
        from F =
            ap (λ merged. frame_of_redeclared (redeclared_here (at_path merged (next ∷ path)))) (is F)
            ∙ ap frame_of_redeclared (redeclared_stepped index (table_for name (tables_below (merged_in F env))) next path)

-- ---- what is found

picked_frame : (F : List Frame) (picked : PickedAt) (value : Option Merged_value) → Some (picked_in F picked) ≡ option_map (λ one. one.picked) value → frame_in F picked.scope.now.frame.0 ≡ frame_of_value value
picked_frame F picked value is = ap frame_of_picked is ∙ sym (value_frame value)

-- a value that is found for a path is looked up in a frame that exists
pub found_exists : (world : World) (env : MergedEnv) (path : List (List ℕ)) (found : Option PickedAt) → ((F : List Frame) → option_map (picked_in F) found ≡ binding (merged_in F env) path) → ScopesExist world env →
    IfSome found (λ picked. IsFrame world picked.scope.now.frame.0)
found_exists world env path None is exist = tt
found_exists world env path (Some picked) is exist =
    exists_alike (length world.entries) picked.scope.now.frame.0
    (λ F G alike.
    picked_frame F picked (value_here (at_path (merged_in F env) path)) (is F) ∙ alike_value world env exist F G alike path
    ∙ sym (picked_frame G picked (value_here (at_path (merged_in G env) path)) (is G)))
