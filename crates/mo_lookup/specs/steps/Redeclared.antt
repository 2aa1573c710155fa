-- The dimensions of redeclarations: words of the contracts inside this crate alone.
use Rattle.std.specs.Prelude.{List, [], Option, Some, None}
use Rattle.mo_scope.specs.Rows.{component_of}
use Rattle.mo_scope.specs.Parts.{Redeclaration}
use Rattle.mo_scope.specs.Sizes.{Sizes, sizes_in}

abbrev pub redeclared_sizes : Option Redeclaration → List Sizes
redeclared_sizes None = []
redeclared_sizes (Some redeclaration) = sizes_in (component_of redeclaration.declares) redeclaration.source.scope
