-- The class table stands where the places of the files stand.
use Rattle.std.proofs.Common.{◌≡◌, ℕ, false, ◌&&◌, List, [], ◌∷◌, ◌++◌, map, flat_map, Some, None, refl, subst}
use Rattle.mo_syntax.specs.declared.place.Place.{Place}
use Rattle.mo_places.specs.Written.{Written}
use Rattle.mo_syntax.specs.declared.class.Body.{Body, Body-F, out-Body}
use Rattle.mo_syntax.specs.declared.class.Element.{Element, out-Element}
use Rattle.mo_syntax.specs.declared.class.FileTree.{FileTree}
use Rattle.mo_syntax.specs.declared.class.Give.{Give}
use Rattle.mo_syntax.specs.declared.class.Item.{Item, Item-F, out-Item}
use Rattle.mo_syntax.specs.declared.class.What.{What}
use Rattle.mo_syntax.specs.Classes.{Home, Under, Inside, Apart, ClassRow, Declared, Component, Class, Declaration}
use Rattle.mo_syntax.specs.ClassTable.{declarations, placed_under, path_eq}
use Rattle.mo_places.specs.TreeWritten.{in_subs, places_of_parts, places_in_body, places_in_item, places_in_class, places_in_files}
use Rattle.mo_places.specs.Stands.{Every, ElementStands, ClauseStands, PartStands, ImportStands, FormStands, RowStands, TableStands}
use Rattle.mo_scope.specs.Rows.{Clause, Base_of, items_in, bases_in, part_of, parts_in, placed_part, placed_in, replacing_in, import_in, ClassEntry, entry_in, entries_of, form_in, number_by, number_among, row_of, table_of}
use Rattle.mo_places.proofs.laws.Standing.{every_append, every_front, every_back, every_map, every_flat_map, each_flat_map, every_weaker, if_list}
use Rattle.mo_places.proofs.laws.TreeParts.{places_in_arguments, places_in_extending, at_body, at_item}
use Rattle.mo_places.proofs.laws.Sources.{arguments_stand, short_stands, element_stands}
use Rattle.mo_places.proofs.laws.Trees.{DeclarationStands, DeclaredStands, declarations_stand}

module _ (P : Written → Type 0) where
  abbrev pub ItemStands : Item → Type 0
  ItemStands item = Every P (places_in_item item)

  pub items_stand : (body : Body) → Every P (places_in_body body) → Every ItemStands (items_in (out-Body body))
  items_stand body h = by (out-Body body) refl
    where
      by : (b : Body-F Body Give Item What Element) → out-Body body ≡ b → Every ItemStands (items_in (out-Body body))
      by (Body-F.Long extending items external) is =
          rw is (each_flat_map P places_in_item items (every_back P (places_in_extending extending) (flat_map places_in_item items) (subst (Every P) (at_body body _ is) h)))
      by (Body-F.Short causal base subs mods) is = rw is tt
      by (Body-F.Enumeration literals) is = rw is tt
      by (Body-F.Der function names) is = rw is tt

  clause_stands : (clause : Clause) → Every P (places_of_parts clause.base.parts ++ places_in_arguments clause.mods.0) → ClauseStands P clause
  clause_stands clause h = record {
    base = every_front P (places_of_parts clause.base.parts) (places_in_arguments clause.mods.0) h;
    arguments = arguments_stand P clause.mods.0 (every_back P (places_of_parts clause.base.parts) (places_in_arguments clause.mods.0) h);
  }

  bases_stand : (body : Body) → Every P (places_in_body body) → Every (ClauseStands P) (bases_in (out-Body body))
  bases_stand body h = by (out-Body body) refl
    where
      by : (b : Body-F Body Give Item What Element) → out-Body body ≡ b → Every (ClauseStands P) (bases_in (out-Body body))
      by (Body-F.Long extending items external) is = rw is tt
      by (Body-F.Short causal base subs mods) is =
          let parts = places_of_parts base.parts in
          let arguments = places_in_arguments mods.0 in
          let whole : Every P (parts ++ (arguments ++ in_subs subs)) = subst (Every P) (at_body body _ is) h in
          rw is (
            clause_stands (record { base = base; mods = mods; hidden = false })
                (every_append P parts arguments (every_front P parts (arguments ++ in_subs subs) whole) (every_front P arguments (in_subs subs) (every_back P parts (arguments ++ in_subs subs) whole))),
            tt,
          )
      by (Body-F.Enumeration literals) is = rw is tt
      by (Body-F.Der function names) is = rw is tt

  part_of_stands : (number : Element → ℕ) (item : Item) → ItemStands item → Every (PartStands P) (part_of number item)
  part_of_stands number item h = by (out-Item item) refl
    where
      by : (i : Item-F Body Give Item What Element) → out-Item item ≡ i → Every (PartStands P) (part_of number item)
      by (Item-F.Import clause) is = rw is tt
      by (Item-F.Extends clause) is = rw is (clause_stands clause (subst (Every P) (at_item item _ is) h), tt)
      by (Item-F.Member element) is =
          rw is (if_list (PartStands P) (out-Element element).flags.redeclare _ _ tt (element_stands P element _ (subst (Every P) (at_item item _ is) h), tt))
      by (Item-F.Equations initial equations) is = rw is tt
      by (Item-F.Algorithm initial statements) is = rw is tt

  replacing_in_stand : (item : Item) → ItemStands item → Every (ElementStands P) (replacing_in item)
  replacing_in_stand item h = by (out-Item item) refl
    where
      by : (i : Item-F Body Give Item What Element) → out-Item item ≡ i → Every (ElementStands P) (replacing_in item)
      by (Item-F.Import clause) is = rw is tt
      by (Item-F.Extends clause) is = rw is tt
      by (Item-F.Member element) is =
          rw is (if_list (ElementStands P) (out-Element element).flags.redeclare _ _ (subst (Every P) (at_item item _ is) h, tt) tt)
      by (Item-F.Equations initial equations) is = rw is tt
      by (Item-F.Algorithm initial statements) is = rw is tt

  import_in_stands : (item : Item) → ItemStands item → Every (ImportStands P) (import_in item)
  import_in_stands item h = by (out-Item item) refl
    where
      by : (i : Item-F Body Give Item What Element) → out-Item item ≡ i → Every (ImportStands P) (import_in item)
      by (Item-F.Import clause) is = rw is (subst (Every P) (at_item item _ is) h)
      by (Item-F.Extends clause) is = rw is tt
      by (Item-F.Member element) is = rw is tt
      by (Item-F.Equations initial equations) is = rw is tt
      by (Item-F.Algorithm initial statements) is = rw is tt

  -- ---- classes that files place under another

  abbrev RowPlacesStand : ClassRow → Type 0
  RowPlacesStand row = Every P (places_in_class row.class)

  placed_under_stand : (path : List (List ℕ)) (ds : List Declaration) → Every (DeclarationStands P) ds → Every RowPlacesStand (placed_under path ds)
  placed_under_stand path [] h = tt
  placed_under_stand path (d ∷ ds) h = by (placed_under_stand path ds h.1) d.home d.what refl refl h.0.1
    where
      by : Every RowPlacesStand (placed_under path ds) → (home : Home) (what : Declared) → d.home ≡ home → d.what ≡ what → DeclaredStands P what →
          Every RowPlacesStand (placed_under path (d ∷ ds))
      by others (Under at) (Class row) is have hd =
          rw (is, have) (every_append RowPlacesStand _ (placed_under path ds) (if_list RowPlacesStand (row.outermost && path_eq at path) _ _ (hd, tt) tt) others)
      by others (Under at) Component is have hd = rw (is, have) others
      by others (Inside n) what is have hd = rw is others
      by others Apart what is have hd = rw is others

  placed_part_stands : (row : ClassRow) → RowPlacesStand row → PartStands P (placed_part row)
  placed_part_stands row h = record { place = h.0; sort = tt; own = short_stands P row.class.body h.1; limit = tt }

  placed_in_stand : (files : List FileTree) (home : Home) (name : List ℕ) → Every P (places_in_files files) → Every RowPlacesStand (placed_in files home name)
  placed_in_stand files (Under path) name h = placed_under_stand (path ++ name ∷ []) (declarations files) (declarations_stand P files h)
  placed_in_stand files (Inside n) name h = tt
  placed_in_stand files Apart name h = tt

  -- ---- rows

  form_stands : (body : Body) → Every P (places_in_body body) → FormStands P (form_in (out-Body body))
  form_stands body h = by (out-Body body) refl
    where
      by : (b : Body-F Body Give Item What Element) → out-Body body ≡ b → FormStands P (form_in (out-Body body))
      by (Body-F.Long None items external) is = rw is tt
      by (Body-F.Long (Some mods) items external) is = rw is tt
      by (Body-F.Short causal base subs mods) is =
          let parts = places_of_parts base.parts in
          let arguments = places_in_arguments mods.0 in
          let whole : Every P (parts ++ (arguments ++ in_subs subs)) = subst (Every P) (at_body body _ is) h in
          rw is (every_back P arguments (in_subs subs) (every_back P parts (arguments ++ in_subs subs) whole))
      by (Body-F.Enumeration None) is = rw is tt
      by (Body-F.Enumeration (Some literals)) is = rw is tt
      by (Body-F.Der function names) is = rw is tt

  abbrev EntryStands : ClassEntry → Type 0
  EntryStands entry = RowPlacesStand entry.row

  parts_stand : (files : List FileTree) (number : Element → ℕ) (home : Home) (row : ClassRow) → Every P (places_in_files files) → RowPlacesStand row →
      Every (PartStands P) (parts_in files number home row)
  parts_stand files number home row hf h =
      every_append (PartStands P) (flat_map (part_of number) (items_in (out-Body row.class.body)) ++ map Base_of (bases_in (out-Body row.class.body)))
      (map placed_part (placed_in files home row.class.name))
      (every_append (PartStands P) (flat_map (part_of number) (items_in (out-Body row.class.body))) (map Base_of (bases_in (out-Body row.class.body)))
      (every_flat_map (PartStands P) (part_of number) (items_in (out-Body row.class.body))
      (every_weaker ItemStands _ (part_of_stands number) (items_in (out-Body row.class.body)) (items_stand row.class.body h.1)))
      (every_map (PartStands P) Base_of (bases_in (out-Body row.class.body)) (bases_stand row.class.body h.1)))
      (every_map (PartStands P) placed_part (placed_in files home row.class.name)
      (every_weaker RowPlacesStand _ placed_part_stands (placed_in files home row.class.name) (placed_in_stand files home row.class.name hf)))

  row_of_stands : (files : List FileTree) (number : Place → ℕ) → Every P (places_in_files files) → (entry : ClassEntry) → EntryStands entry →
      RowStands P (row_of files number entry)
  row_of_stands files number hf entry h = record {
    class = h;
    place = h.0;
    form = form_stands entry.row.class.body h.1;
    parts = parts_stand files (number_by number) entry.home entry.row hf h;
    replacing = every_flat_map (ElementStands P) replacing_in (items_in (out-Body entry.row.class.body))
        (every_weaker ItemStands _ replacing_in_stand (items_in (out-Body entry.row.class.body)) (items_stand entry.row.class.body h.1));
    imports = every_flat_map (ImportStands P) import_in (items_in (out-Body entry.row.class.body))
        (every_weaker ItemStands _ import_in_stands (items_in (out-Body entry.row.class.body)) (items_stand entry.row.class.body h.1));
  }

  entry_stands : (d : Declaration) → DeclarationStands P d → Every EntryStands (entry_in d)
  entry_stands d h = by d.what refl h.1
    where
      by : (what : Declared) → d.what ≡ what → DeclaredStands P what → Every EntryStands (entry_in d)
      by Component is h = rw is tt
      by (Class row) is h = rw is (h, tt)

  entries_stand : (files : List FileTree) → Every P (places_in_files files) → Every EntryStands (entries_of files)
  entries_stand files h =
      every_flat_map EntryStands entry_in (declarations files)
      (every_weaker (DeclarationStands P) _ entry_stands (declarations files) (declarations_stand P files h))

  -- Where all places in the trees of the files have a property, so have those in the class table.
  pub table_stands : (files : List FileTree) → Every P (places_in_files files) → TableStands P (table_of files)
  table_stands files h =
      every_map (RowStands P) (row_of files (number_among (entries_of files))) (entries_of files)
      (every_weaker EntryStands _ (row_of_stands files (number_among (entries_of files)) h) (entries_of files) (entries_stand files h))
