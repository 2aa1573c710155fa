-- What is made of answers: a table of its parts, and a map with one more value.
use Rattle.std.specs.Prelude.{◌≡◌, ℕ, Bool, List, Option, Some, Result, Ok}
use Rattle.std.specs.Borrow.{Bor}
use Rattle.std.specs.BTreeMap.{BTreeMap, UpdatesBy, insert_entry}
use Rattle.std.specs.Cmp.Lexicographic.{slice_cmp}
use Rattle.std.specs.HashMap.{HashMap, UpdatesBy as UpdatesItemsBy}
use Rattle.std.specs.Ordering.{nat_cmp}
use Rattle.std.specs.Str.{bytes_eq}
use Rattle.std.specs.Global.{Vec}
use Rattle.mo_syntax.specs.declared.expr.Expr.{Expr}
use Rattle.mo_scope.specs.declared.source.ScopeAt.{ScopeAt}
use Rattle.mo_mods.specs.declared.env.MergedEnv.{MergedEnv, MergedEnv-F}
use Rattle.mo_mods.specs.declared.env.MergedValue.{MergedValue}
use Rattle.mo_mods.specs.declared.env.RedeclaredAt.{RedeclaredAt}
use Rattle.mo_mods.specs.Sights.{name_cmp}

-- The answers are the parts of a table.
pub record AreParts {E : Type 0} (value : Result (Option MergedValue) E) (redeclared : Result (Option RedeclaredAt) E) (below : Result (BTreeMap (Bor (List ℕ)) MergedEnv) E) (env : MergedEnv-F MergedEnv) : Type 0 where
  pub value_is : value ≡ Ok env.value
  pub redeclared_is : redeclared ≡ Ok env.redeclared
  pub below_is : below ≡ Ok env.below

-- The answers are the parts of a value.
pub record AreValueParts {E : Type 0} (value : Expr) (pending : Result (List ℕ) E) (scope : Result ScopeAt E) (each : Result (List Bool) E) (made : MergedValue) : Type 0 where
  pub value_is : made.value.now ≡ value
  pub pending_is : pending ≡ Ok made.pending
  pub scope_is : scope ≡ Ok made.scope
  pub each_is : each ≡ Ok made.each

-- An answer's value is put under a name.
pub record IsPut {V E : Type 0} (answer : Result V E) (old new : BTreeMap (Bor (List ℕ)) V) (name : Bor (List ℕ)) : Type 0 where
  pub value : V
  pub is : answer ≡ Ok value
  pub entries : new.entries ≡ insert_entry name_cmp old.entries name value
  pub updates : UpdatesBy name_cmp (λ k. slice_cmp nat_cmp name.now k.now) old new (Some value)

-- An answer's value is put under a key.
pub record IsPutByKey {V E S : Type 0} (answer : Result V E) (old new : HashMap (Vec ℕ) V S) (key : List ℕ) : Type 0 where
  pub value : V
  pub is : answer ≡ Ok value
  pub updates : UpdatesItemsBy (λ x y. bytes_eq x.items y.items) (λ k. bytes_eq key k.items) old new (Some value)
