-- The flat model of a class stands where the files do, and a rule that is broken on the way is broken at such a place, or on the command
-- line, where no class has the path.
use Rattle.std.proofs.Common.{◌≡◌, ℕ, inl, inr, Bool, true, false, List, [], ◌∷◌, flat_map, Option, Some, None, Ok, Err, sym, ap, subst, ◌∙◌, if◌then◌else◌}
use Rattle.std.specs.Prelude.{option_map}
use Rattle.mo_syntax.specs.Outcome.{Outcome, breaks}
use Rattle.mo_syntax.specs.declared.class.FileTree.{FileTree}
use Rattle.mo_syntax.specs.declared.place.Broken.{Broken}
use Rattle.mo_syntax.specs.Classes.{ClassRow, Declaration, Declared, Component, Class}
use Rattle.mo_syntax.specs.ClassTable.{broken_class, class_of_path, declarations, first_row, otherwise, is_flattened, path_eq, path_of}
use Rattle.mo_flat.specs.declared.connect.Expanded.{Expanded}
use Rattle.mo_flat.specs.declared.connect.FaceSet.{FaceSet}
use Rattle.mo_flat.specs.declared.model.FlatModel.{FlatModel}
use Rattle.mo_scope.specs.Rows.{table_of}
use Rattle.mo_connect.specs.Equations.{equations_of}
use Rattle.mo_equations.specs.Size.{is_too_large}
use Rattle.mo_flatten.specs.Flat.{Flattens, Joins, no_class, not_expanded, not_connected, joined, expansion_in, model_of, within_size}
use Rattle.mo_flatten.specs.Told.{HasRow}
use Rattle.mo_flatten.proofs.Telling.{class_has_row}
use Rattle.mo_places.specs.Written.{Written, At}
use Rattle.mo_places.specs.TreeWritten.{nowhere, places_in_class, places_in_files}
use Rattle.mo_places.specs.Stands.{Every, IfAny, Answers}
use Rattle.mo_places.specs.MadeStands.{EquationStands, ExpandedStands, ModelStands, ToldStands}
use Rattle.mo_places.proofs.laws.Standing.{every_append, if_answers}
use Rattle.mo_places.proofs.laws.Trees.{DeclarationStands, DeclaredStands, declarations_stand}
use Rattle.mo_places.proofs.laws.Connecting.{first_broken_stands, sets_stand}
use Rattle.mo_syntax.specs.declared.rules.TheConstants.{FLAT_MODEL_TOO_LARGE, WRONG_KIND_OF_NAME, CLASS_NOT_FOUND}

module _ (P : Written → Type 0) where
  -- ---- connections and the size

  model_stands : (e : Expanded) (sets : List FaceSet) → ExpandedStands P e → Every (EquationStands P) (flat_map equations_of sets) → ModelStands P (model_of e sets)
  model_stands e sets h hs = record {
    place = h.place;
    variables = h.variables;
    first = h.first;
    equations = every_append (EquationStands P) e.equations (flat_map equations_of sets) h.equations hs;
  }

  within_stands : (m : FlatModel) → ModelStands P m → Answers P (ModelStands P) (within_size m)
  within_stands m h = if_answers P (ModelStands P) (is_too_large m) (breaks FLAT_MODEL_TOO_LARGE m.place) (Ok m) (record { holds = h.place }) (record { holds = h })

  told_as : (told other : Outcome FlatModel) → told ≡ other → Answers P (ModelStands P) other → Answers P (ModelStands P) told
  told_as told other is h = subst (Answers P (ModelStands P)) (sym is) h

  joins_stand : (e : Expanded) (told : Outcome FlatModel) → ExpandedStands P e → Joins e told → Answers P (ModelStands P) told
  joins_stand e told h joins =
      told_as told (within_size (model_of e joins.sets)) joins.is
      (within_stands (model_of e joins.sets) (model_stands e joins.sets h (sets_stand P e.connects joins.sets h.connects h.flows joins.are)))

  -- ---- the class of a path

  abbrev RowStand : ClassRow → Type 0
  RowStand row = Every P (places_in_class row.class)

  -- the class of a declaration, if it has the path
  abbrev row_with : List (List ℕ) → Declared → Option (List (List ℕ)) → Option ClassRow
  row_with path Component at = None
  row_with path (Class row) None = None
  row_with path (Class row) (Some at) = if path_eq at path then Some row else None

  row_or : (b : Bool) (row : ClassRow) (others : Option ClassRow) → RowStand row → IfAny RowStand others → IfAny RowStand (otherwise (if b then Some row else None) others)
  row_or true row others h ho = h
  row_or false row others h ho = ho

  row_step : (path : List (List ℕ)) (what : Declared) (at : Option (List (List ℕ))) (others : Option ClassRow) → DeclaredStands P what → IfAny RowStand others → IfAny RowStand (otherwise (row_with path what at) others)
  row_step path Component at others h ho = ho
  row_step path (Class row) None others h ho = ho
  row_step path (Class row) (Some at) others h ho = row_or (path_eq at path) row others h ho

  first_row_stands : (path : List (List ℕ)) (ds : List Declaration) → Every (DeclarationStands P) ds → IfAny RowStand (first_row path ds)
  first_row_stands path [] h = tt
  first_row_stands path (d ∷ ds) h = row_step path d.what (path_of d) (first_row path ds) h.0.1 (first_row_stands path ds h.1)

  broken_in : (row : ClassRow) (b : Broken) → RowStand row → broken_class (Some row) ≡ Some b → P (At b.place)
  broken_in row b h is = subst (IfAny (λ (x : Broken). P (At x.place))) is (unless (is_flattened row.class.kind))
    where
      unless : (flattened : Bool) → IfAny (λ (x : Broken). P (At x.place)) (if flattened then None else Some (record { rule = WRONG_KIND_OF_NAME; place = row.class.place }))
      unless true = tt
      unless false = h.0

  same_some : {A : Type 0} (a b : A) → Some a ≡ Some b → a ≡ b
  same_some {A} a b e = ap held e
    where
      held : Option A → A
      held (Some x) = x
      held None = a

  -- ---- all phases

  module _ (files : List FileTree) (all : Every P (places_in_files files))
      (expands : (class : ℕ) → HasRow (table_of files) class → Answers P (ExpandedStands P) (expansion_in files class)) where
    refused : (o : Option ClassRow) (b : Broken) (told : Outcome FlatModel) → IfAny RowStand o → broken_class o ≡ Some b → told ≡ Err b → ToldStands P told
    refused None b told h is at = inr (at ∙ ap Err (sym (same_some (record { rule = CLASS_NOT_FOUND; place = nowhere }) b is)))
    refused (Some row) b told h is at = inl (told_as told (Err b) at (record { holds = broken_in row b h is }))

    -- what is told of a class with a row
    expanded_as : (path : List (List ℕ)) (row : ClassRow) (told : Outcome Expanded) → class_of_path files path ≡ Some row → expansion_in files row.number ≡ told → Answers P (ExpandedStands P) told
    expanded_as path row told found is =
        subst (Answers P (ExpandedStands P)) is (expands row.number (class_has_row files path row.number (ap (option_map (λ (row : ClassRow). row.number)) found)))

    pub told_stands : (path : List (List ℕ)) (told : Outcome FlatModel) → Flattens files path told → ToldStands P told
    told_stands path told (no_class b is at) = refused (class_of_path files path) b told (first_row_stands path (declarations files) (declarations_stand P files all)) is at
    told_stands path told (not_expanded row b found fine is at) = inl (told_as told (Err b) at (record { holds = (expanded_as path row (Err b) found is).holds }))
    told_stands path told (not_connected row e b found fine is first at) =
        inl (told_as told (Err b) at (record { holds = first_broken_stands P e.connects.list b (expanded_as path row (Ok e) found is).holds.connects first }))
    told_stands path told (joined row e found fine is joins) = inl (joins_stand e told (expanded_as path row (Ok e) found is).holds joins)
