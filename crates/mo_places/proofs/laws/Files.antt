-- The class table stands in its files, and what is written in them descends.
use Rattle.std.proofs.Common.{List, [], ◌∷◌, Contains}
use Rattle.std.proofs.lemmas.List.Elements.{Contains-append_left, Contains-append_right, Contains-push}
use Rattle.mo_syntax.specs.declared.class.FileTree.{FileTree}
use Rattle.mo_scope.specs.Rows.{table_of}
use Rattle.mo_places.specs.TreeWritten.{places_in_files}
use Rattle.mo_places.specs.Pieces.{in_equation, in_expression}
use Rattle.mo_places.specs.Stands.{Every, TableStands}
use Rattle.mo_places.specs.InFiles.{IsWritten, in_class, within, among, Descends}
use Rattle.mo_places.proofs.laws.Standing.{every_weaker}
use Rattle.mo_places.proofs.laws.Tables.{table_stands}

every_contained : {A : Type 0} (xs ys : List A) → ((x : A) → Contains xs x → Contains ys x) → Every (Contains ys) xs
every_contained [] ys f = tt
every_contained (x ∷ xs) ys f =
    (f x (Contains-append_left (x ∷ []) xs x (Contains-push [] x)), every_contained xs ys (λ y h. f y (Contains-append_right (x ∷ []) xs y h)))

all_of : {A : Type 0} (xs : List A) → Every (Contains xs) xs
all_of xs = every_contained xs xs (λ x h. h)

module _ (files : List FileTree) where
  pub files_written : Every (IsWritten files) (places_in_files files)
  files_written = every_weaker (Contains (places_in_files files)) (IsWritten files) (λ w h. in_class w h) (places_in_files files) (all_of (places_in_files files))

  pub files_stand : TableStands (IsWritten files) (table_of files)
  files_stand = table_stands (IsWritten files) files files_written

  pub files_descend : Descends (IsWritten files)
  files_descend = record {
    expression = λ e h. every_weaker (Contains (in_expression e)) (IsWritten files) (λ w c. within e w h c) (in_expression e) (all_of (in_expression e));
    equation = λ equation h. every_weaker (Contains (in_equation equation)) (IsWritten files) (λ w c. among equation w h c) (in_equation equation) (all_of (in_equation equation));
  }
