-- The frames in which the values and the redeclarations of a table are looked up.
use Rattle.std.specs.Prelude.{ℕ, List, [], ◌∷◌, Option, Some, None, IfSome}
use Rattle.std.specs.BTreeMap.{get_by}
use Rattle.std.specs.Cmp.Lexicographic.{slice_cmp}
use Rattle.std.specs.Ordering.{nat_cmp}
use Rattle.mo_scope.specs.Worlds.{World, IsFrame}
use Rattle.mo_mods.specs.declared.env.MergedEnv.{MergedEnv, out-MergedEnv}
use Rattle.mo_mods.specs.declared.env.MergedValue.{MergedValue}
use Rattle.mo_mods.specs.declared.env.RedeclaredAt.{RedeclaredAt}

-- the table below a name, None where there is none
abbrev pub env_below : List ℕ → Option MergedEnv → Option MergedEnv
env_below name None = None
env_below name (Some env) = get_by (λ k. slice_cmp nat_cmp name k.now) (out-MergedEnv env).below

abbrev pub env_from : List (List ℕ) → Option MergedEnv → Option MergedEnv
env_from [] env = env
env_from (name ∷ names) env = env_from names (env_below name env)

abbrev pub value_of : Option MergedEnv → Option MergedValue
value_of None = None
value_of (Some env) = (out-MergedEnv env).value

abbrev pub redeclared_of : Option MergedEnv → Option RedeclaredAt
redeclared_of None = None
redeclared_of (Some env) = (out-MergedEnv env).redeclared

-- what a table holds for a path
abbrev pub value_at : MergedEnv → List (List ℕ) → Option MergedValue
value_at env path = value_of (env_from path (Some env))

abbrev pub redeclared_at : MergedEnv → List (List ℕ) → Option RedeclaredAt
redeclared_at env path = redeclared_of (env_from path (Some env))

-- Each value and each redeclaration that a table holds for a path is looked up in a frame that exists.
pub record ScopesExist (world : World) (env : MergedEnv) : Type 0 where
  pub values : (path : List (List ℕ)) → IfSome (value_at env path) (λ value. IsFrame world value.scope.frame.0)
  pub redeclarations : (path : List (List ℕ)) → IfSome (redeclared_at env path) (λ redeclared. IsFrame world redeclared.scope.frame.0)
