-- Names and indices in the paths of instances (Modelica Language Specification 3.5, sections 5.6.2 and 10.5).
use Rattle.std.specs.Prelude.{◌≡◌, ◌≢◌, ℕ, ◌≤◌, List, All, AllPairs, IsTrue}
use Rattle.std.specs.List.{list_all}
use Rattle.mo_syntax.specs.SoundTree.{Naming}
use Rattle.mo_flat.specs.declared.model.FlatModel.{FlatModel}
use Rattle.mo_scope.specs.Frames.{Indexed}
use Rattle.mo_equations.specs.Leaves.{path_text}
use Rattle.mo_flatten.specs.Named.{IsDotted}
use Rattle.mo_instance.specs.Elements.{most_instances}
use Rattle.mo_report_lines.specs.Grammar.{IsName}

-- A path whose names pass a test, and whose indices are at most as great as a class may have components.
pub record IsNamed (naming : Naming) (path : Indexed) : Type 0 where
  pub names : IsTrue (list_all (λ step. naming step.0) path)
  pub indices : All (λ step. All (λ k. k ≤ most_instances) step.1) path

-- the text of such a path
pub record IsPrinted (naming : Naming) (text : List ℕ) : Type 0 where
  pub path : Indexed
  pub is : text ≡ path_text path
  pub named : IsNamed naming path

-- a model with the path of a class as its name, and variables that have printed paths as theirs
pub record IsPrintedModel (naming : Naming) (m : FlatModel) : Type 0 where
  pub name : IsDotted naming m.name
  pub variables : All (λ v. IsPrinted naming v.name) m.vars

-- A model whose name and whose variables' names may stand in the lines of printed reports, no two variables with one name.
pub record HasReportNames (m : FlatModel) : Type 0 where
  pub name : IsName m.name
  pub variables : All (λ v. IsName v.name) m.vars
  pub different : AllPairs (λ v w. v.name ≢ w.name) m.vars
