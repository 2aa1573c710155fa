-- The names of a flat model (Modelica Language Specification 3.5, sections 5.6.2 and 10.5).
use Rattle.std.specs.Prelude.{◌≡◌, ◌≢◌, ℕ, List, All, AllPairs, IsTrue}
use Rattle.std.specs.List.{list_all}
use Rattle.mo_syntax.specs.SoundTree.{Naming}
use Rattle.mo_flat.specs.declared.model.FlatModel.{FlatModel}
use Rattle.mo_scope.specs.Frames.{Indexed}
use Rattle.mo_eval.specs.Resolving.{dotted}
use Rattle.mo_equations.specs.Leaves.{path_text}

-- names that pass a test, with dots between them
pub record IsDotted (naming : Naming) (text : List ℕ) : Type 0 where
  pub names : List (List ℕ)
  pub is : text ≡ dotted names
  pub pass : IsTrue (list_all naming names)

-- a printed path whose names pass a test
pub record IsPath (naming : Naming) (text : List ℕ) : Type 0 where
  pub path : Indexed
  pub is : text ≡ path_text path
  pub pass : IsTrue (list_all (λ step. naming step.0) path)

-- A model has the path of a class as its name, and its variables have paths of their own.
pub record HasNames (naming : Naming) (m : FlatModel) : Type 0 where
  pub name : IsDotted naming m.name
  pub variables : All (λ v. IsPath naming v.name) m.vars
  pub different : AllPairs (λ v w. v.name ≢ w.name) m.vars
