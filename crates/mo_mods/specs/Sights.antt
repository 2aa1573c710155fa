-- What the tables of the code are as data, where frames have numbers.
use Rattle.std.specs.Prelude.{ℕ, List, [], ◌∷◌, map, Option, Some, None, option_map}
use Rattle.std.specs.BTreeMap.{BTreeMap, get_by}
use Rattle.std.specs.Borrow.{Bor}
use Rattle.std.specs.Cmp.Lexicographic.{slice_cmp}
use Rattle.std.specs.declared.cmp.Ordering.{Ordering}
use Rattle.std.specs.Ordering.{nat_cmp}
use Rattle.mo_scope.specs.Frames.{Frame}
use Rattle.mo_scope.specs.declared.source.Source.{Source as SourceAt}
use Rattle.mo_scope.specs.Sights.{declares_seen, given_seen, source_seen}
use Rattle.mo_scope.specs.Worlds.{scope_in, source_in}
use Rattle.mo_mods.specs.declared.env.MergedEnv.{MergedEnv, MergedEnv-F, fold-MergedEnv}
use Rattle.mo_mods.specs.declared.env.MergedValue.{MergedValue}
use Rattle.mo_mods.specs.declared.env.RedeclaredAt.{RedeclaredAt}
use Rattle.mo_mods.specs.declared.left.Left.{Left as LeftAt}
use Rattle.mo_mods.specs.declared.left.Said.{Said as SaidAt}
use Rattle.mo_mods.specs.declared.left.Said.TheVariants.{GoesOn, Anew as anew_at}
use Rattle.mo_mods.specs.Left.{Left, Said, Goes_on, Anew, left_of}
use Rattle.mo_mods.specs.Marks.{unmarked}
use Rattle.mo_mods.specs.Merged.{Merged, Table_of, Below, Nothing_below, Below_then, Merged_value, Redeclared, nothing_merged}

abbrev pub value_in : List Frame → MergedValue → Merged_value
value_in frames value = record {
  picked = record { value = value.value.now; scope = scope_in frames value.scope.frame.0 value.scope.iters; pending = value.pending };
  each = value.each;
}

abbrev pub redeclared_in : List Frame → RedeclaredAt → Redeclared
redeclared_in frames redeclared = record {
  declares = declares_seen redeclared.declares;
  scope = scope_in frames redeclared.scope.frame.0 redeclared.scope.iters;
}

abbrev pub below_in : List (Bor (List ℕ) × Merged) → Below
below_in [] = Nothing_below
below_in (one ∷ others) = Below_then one.0.now one.1 (below_in others)

abbrev pub merged_node : List Frame → MergedEnv-F Merged → Merged
merged_node frames env = Table_of (option_map (value_in frames) env.value) (option_map (redeclared_in frames) env.redeclared) (below_in env.below.entries)

abbrev pub merged_in : List Frame → MergedEnv → Merged
merged_in frames = fold-MergedEnv Merged (merged_node frames)

-- the order of names, by their bytes
abbrev pub name_cmp : Bor (List ℕ) → Bor (List ℕ) → Ordering
name_cmp x y = slice_cmp nat_cmp x.now y.now

-- nothing is given where there is no table
abbrev pub merged_or : List Frame → Option MergedEnv → Merged
merged_or frames None = nothing_merged
merged_or frames (Some env) = merged_in frames env

-- the tables below, where each is seen
abbrev pub below_seen : List Frame → List (Bor (List ℕ) × MergedEnv) → Below
below_seen frames [] = Nothing_below
below_seen frames (one ∷ others) = Below_then one.0.now (merged_in frames one.1) (below_seen frames others)

-- ---- what is left of modifiers

abbrev pub left_in : List Frame → LeftAt → Left
left_in frames left = record {
  given = given_seen left.given;
  pending = left.pending.now;
  scope = scope_in frames left.scope.now.frame.0 left.scope.now.iters;
  each = left.each;
}

-- what is left of a source of which no name was passed
abbrev pub left_of_source : List Frame → SourceAt → Left
left_of_source frames source = left_of (unmarked (source_in frames (source_seen source)))

abbrev pub said_in : List Frame → SaidAt → Said
said_in frames (GoesOn left) = Goes_on (left_in frames left)
said_in frames (anew_at declares left) = Anew (declares_seen declares) (left_in frames left)

abbrev pub said_or_none : List Frame → Option (List SaidAt) → List Said
said_or_none frames None = []
said_or_none frames (Some said) = map (said_in frames) said

-- what is held under a name
abbrev pub said_held : List Frame → BTreeMap (Bor (List ℕ)) (List SaidAt) → List ℕ → List Said
said_held frames groups name = said_or_none frames (get_by (λ k. slice_cmp nat_cmp name k.now) groups)
