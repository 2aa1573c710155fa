-- The rows of the class table have names that pass a test, where the names in the trees of the files do.
use Rattle.std.proofs.Common.{◌≡◌, ℕ, Bool, true, false, cond, List, [], ◌∷◌, ◌++◌, map, flat_map, find, Some, IsTrue, refl, sym, ◌∙◌, subst, nat_eq, eqb-true}
use Rattle.std.specs.Prelude.{◌&&◌}
use Rattle.std.specs.List.{list_all}
use Rattle.mo_syntax.specs.declared.class.Body.{Body, Body-F, out-Body}
use Rattle.mo_syntax.specs.declared.class.Element.{Element, out-Element}
use Rattle.mo_syntax.specs.declared.class.FileTree.{FileTree}
use Rattle.mo_syntax.specs.declared.class.Give.{Give}
use Rattle.mo_syntax.specs.declared.class.Item.{Item, Item-F, out-Item}
use Rattle.mo_syntax.specs.declared.class.What.{What, What-F, out-What}
use Rattle.mo_syntax.specs.Classes.{Home, Under, Inside, Apart, ClassRow, Declared, Component, Class, Declaration}
use Rattle.mo_syntax.specs.ClassTable.{declarations, path_eq, placed_under}
use Rattle.mo_syntax.specs.SoundTree.{Naming, option_by, mods_by, limit_by, body_by, item_by, what_by, component_by, is_sound_body, is_sound_class, is_sound_element, is_sound_file, is_sound_give, is_sound_item, is_sound_what}
use Rattle.mo_syntax.proofs.SoundParts.{body_is, item_is, what_is, element_is}
use Rattle.mo_scope.specs.Places.{Every, IfAny}
use Rattle.mo_scope.specs.Rows.{Table, Row, Base_of, Clause, ClassEntry, bases_in, declared_by, entries_of, entry_in, items_in, number_among, number_by, part_of, parts_in, placed_in, placed_part, row_at, row_of, table_of}
use Rattle.mo_scope.proofs.laws.Standing.{any_find, every_append, every_flat_map, every_map, every_weaker, if_list}
use Rattle.mo_eval.specs.Resolving.{path_of_class}
use Rattle.mo_instance.proofs.Members.{PartNamed, RowNamed}
use Rattle.mo_path_names.proofs.laws.Declaring.{HomeNamed, DeclarationNamed, DeclaredSound, declarations_named}
use Rattle.mo_path_names.proofs.laws.Testing.{all_last, left_of, right_of}

pub find_passes : {A : Type 0} (test : A → Bool) (xs : List A) (x : A) → find test xs ≡ Some x → test x ≡ true
find_passes test [] x found = absurd cc
find_passes {A} test (y ∷ ys) x found = by (test y) refl found (find_passes test ys x)
  where
    same : Some y ≡ Some x → test y ≡ true → test x ≡ true
    same is passes = let equal : y ≡ x = cc in subst (λ (z : A). test z ≡ true) equal passes

    by : (b : Bool) → test y ≡ b → cond b (Some y) (find test ys) ≡ Some x → (find test ys ≡ Some x → test x ≡ true) → test x ≡ true
    by true passes is rest = same is passes
    by false passes is rest = rest is

-- the row of a class has its number
pub own_number : (table : Table) (class : ℕ) (row : Row) → row_at table class ≡ Some row → row.number ≡ class
own_number table class row at = eqb-true row.number class (find_passes (λ (r : Row). nat_eq r.number class) table row at)

module _ (naming : Naming) where
  -- ---- elements

  declared_named : (element : Element) (number : ℕ) → IsTrue (is_sound_element naming element) → IsTrue (naming (declared_by element number).name)
  declared_named element number h = by (out-What (out-Element element).what) refl
      (sym (what_is naming (out-Element element).what)
      ∙ left_of (is_sound_what naming (out-Element element).what) (option_by (limit_by naming (is_sound_give naming)) (out-Element element).limit) (sym (element_is naming element) ∙ h))
    where
      by : (what : What-F Body Give Item What Element) → out-What (out-Element element).what ≡ what → IsTrue (what_by naming (is_sound_body naming) (is_sound_give naming) (out-What (out-Element element).what)) →
          IsTrue (naming (declared_by element number).name)
      by (What-F.Class class) is sound = let passes : IsTrue (is_sound_class naming class) = rw is at sound in rw is (left_of (naming class.name) (is_sound_body naming class.body) passes)
      by (What-F.Component component) is sound = let passes : IsTrue (component_by naming (is_sound_give naming) component) = rw is at sound in rw is (left_of (naming component.name) _ passes)

  part_of_named : (number : Element → ℕ) (item : Item) → IsTrue (is_sound_item naming item) → Every (PartNamed naming) (part_of number item)
  part_of_named number item h = by (out-Item item) refl (sym (item_is naming item) ∙ h)
    where
      by : (i : Item-F Body Give Item What Element) → out-Item item ≡ i → IsTrue (item_by naming (is_sound_give naming) (is_sound_element naming) (out-Item item)) → Every (PartNamed naming) (part_of number item)
      by (Item-F.Import clause) is sound = rw is tt
      by (Item-F.Extends clause) is sound = rw is (tt, tt)
      by (Item-F.Member element) is sound =
          let passes : IsTrue (is_sound_element naming element) = rw is at sound in
          rw is (if_list (PartNamed naming) (out-Element element).flags.redeclare _ _ tt (declared_named element (number element) passes, tt))
      by (Item-F.Equations initial equations) is sound = rw is tt
      by (Item-F.Algorithm initial statements) is sound = rw is tt

  every_passes : {A : Type 0} (test : A → Bool) (xs : List A) → IsTrue (list_all test xs) → Every (λ x. IsTrue (test x)) xs
  every_passes test [] h = tt
  every_passes test (x ∷ xs) h = (left_of (test x) (list_all test xs) h, every_passes test xs (right_of (test x) (list_all test xs) h))

  items_sound : (body : Body) → IsTrue (is_sound_body naming body) → Every (λ item. IsTrue (is_sound_item naming item)) (items_in (out-Body body))
  items_sound body h = by (out-Body body) refl (sym (body_is naming body) ∙ h)
    where
      by : (b : Body-F Body Give Item What Element) → out-Body body ≡ b → IsTrue (body_by naming (is_sound_give naming) (is_sound_item naming) (out-Body body)) → Every (λ item. IsTrue (is_sound_item naming item)) (items_in (out-Body body))
      by (Body-F.Long extending items external) is sound =
          let passes : IsTrue (option_by (mods_by naming (is_sound_give naming)) extending && list_all (is_sound_item naming) items) = rw is at sound in
          rw is (every_passes (is_sound_item naming) items (right_of (option_by (mods_by naming (is_sound_give naming)) extending) (list_all (is_sound_item naming) items) passes))
      by (Body-F.Short causal base subs mods) is sound = rw is tt
      by (Body-F.Enumeration literals) is sound = rw is tt
      by (Body-F.Der function names) is sound = rw is tt

  bases_named : (clauses : List Clause) → Every (λ clause. PartNamed naming (Base_of clause)) clauses
  bases_named [] = tt
  bases_named (clause ∷ clauses) = (tt, bases_named clauses)

  -- ---- classes that files place under another

  abbrev RowSound : ClassRow → Type 0
  RowSound row = IsTrue (is_sound_class naming row.class)

  placed_under_sound : (path : List (List ℕ)) (ds : List Declaration) → Every (DeclarationNamed naming) ds → Every RowSound (placed_under path ds)
  placed_under_sound path [] h = tt
  placed_under_sound path (d ∷ ds) h = by (placed_under_sound path ds h.1) d.home d.what refl refl h.0.sound
    where
      by : Every RowSound (placed_under path ds) → (home : Home) (what : Declared) → d.home ≡ home → d.what ≡ what → DeclaredSound naming d.what → Every RowSound (placed_under path (d ∷ ds))
      by others (Under at) (Class row) is have hd =
          let sound : RowSound row = rw have at hd in
          rw (is, have) (every_append RowSound _ (placed_under path ds) (if_list RowSound (row.outermost && path_eq at path) _ _ (sound, tt) tt) others)
      by others (Under at) Component is have hd = rw (is, have) others
      by others (Inside n) what is have hd = rw is others
      by others Apart what is have hd = rw is others

  placed_in_sound : (files : List FileTree) (home : Home) (name : List ℕ) → Every (DeclarationNamed naming) (declarations files) → Every RowSound (placed_in files home name)
  placed_in_sound files (Under path) name h = placed_under_sound (path ++ name ∷ []) (declarations files) h
  placed_in_sound files (Inside n) name h = tt
  placed_in_sound files Apart name h = tt

  -- ---- rows

  -- the class of a row: its path, its name and its parts
  pub record RowPasses (row : Row) : Type 0 where
    pub home : HomeNamed naming row.home
    pub name : IsTrue (naming row.class.name)
    pub parts : RowNamed naming row

  abbrev EntrySound : ClassEntry → Type 0
  EntrySound entry = HomeNamed naming entry.home × RowSound entry.row

  parts_named : (files : List FileTree) (number : Element → ℕ) (home : Home) (row : ClassRow) → Every (DeclarationNamed naming) (declarations files) → RowSound row →
      Every (PartNamed naming) (parts_in files number home row)
  parts_named files number home row all h =
      every_append (PartNamed naming) (flat_map (part_of number) (items_in (out-Body row.class.body)) ++ map Base_of (bases_in (out-Body row.class.body)))
      (map placed_part (placed_in files home row.class.name))
      (every_append (PartNamed naming) (flat_map (part_of number) (items_in (out-Body row.class.body))) (map Base_of (bases_in (out-Body row.class.body)))
      (every_flat_map (PartNamed naming) (part_of number) (items_in (out-Body row.class.body))
      (every_weaker (λ item. IsTrue (is_sound_item naming item)) _ (part_of_named number) (items_in (out-Body row.class.body))
      (items_sound row.class.body (right_of (naming row.class.name) (is_sound_body naming row.class.body) h))))
      (every_map (PartNamed naming) Base_of (bases_in (out-Body row.class.body)) (bases_named (bases_in (out-Body row.class.body)))))
      (every_map (PartNamed naming) placed_part (placed_in files home row.class.name)
      (every_weaker RowSound _ (λ placed sound. left_of (naming placed.class.name) (is_sound_body naming placed.class.body) sound) (placed_in files home row.class.name) (placed_in_sound files home row.class.name all)))

  entry_sound : (d : Declaration) → DeclarationNamed naming d → Every EntrySound (entry_in d)
  entry_sound d h = by d.what refl h.sound
    where
      by : (what : Declared) → d.what ≡ what → DeclaredSound naming d.what → Every EntrySound (entry_in d)
      by Component is sound = rw is tt
      by (Class row) is sound = let passes : RowSound row = rw is at sound in rw is ((h.home, passes), tt)

  pub table_passes : (files : List FileTree) → IsTrue (list_all (is_sound_file naming) files) → Every RowPasses (table_of files)
  table_passes files h =
      let all : Every (DeclarationNamed naming) (declarations files) = declarations_named naming files h in
      every_map RowPasses (row_of files (number_among (entries_of files))) (entries_of files)
      (every_weaker EntrySound _
      (λ entry sound.
      record {
        home = sound.0;
        name = left_of (naming entry.row.class.name) (is_sound_body naming entry.row.class.body) sound.1;
        parts = parts_named files (number_by (number_among (entries_of files))) entry.home entry.row all sound.1;
      })
      (entries_of files) (every_flat_map EntrySound entry_in (declarations files) (every_weaker (DeclarationNamed naming) _ entry_sound (declarations files) all)))

  pub table_named : (files : List FileTree) → IsTrue (list_all (is_sound_file naming) files) → Every (RowNamed naming) (table_of files)
  table_named files h = every_weaker RowPasses (RowNamed naming) (λ row passes. passes.parts) (table_of files) (table_passes files h)

  pub path_passes : (table : Table) → Every RowPasses table → (class : ℕ) (row : Row) → row_at table class ≡ Some row → IsTrue (list_all naming (path_of_class table class))
  path_passes table all class row at = rw at (by row.home refl passes.home)
    where
      passes : RowPasses row
      passes = subst (IfAny RowPasses) at (any_find RowPasses (λ (r : Row). nat_eq r.number class) table all)

      path_in : Home → List (List ℕ)
      path_in (Under path) = path
      path_in home = []

      by : (home : Home) → row.home ≡ home → HomeNamed naming row.home → IsTrue (list_all naming (path_in row.home ++ row.class.name ∷ []))
      by (Under path) is named = let path_named : IsTrue (list_all naming path) = rw is at named in rw is (all_last naming path row.class.name path_named passes.name)
      by (Inside n) is named = rw is (all_last naming [] row.class.name refl passes.name)
      by Apart is named = rw is (all_last naming [] row.class.name refl passes.name)
