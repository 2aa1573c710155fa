-- What each phase tells, one behind the other.
use Rattle.std.proofs.Common.{◌≡◌, ℕ, ◌<◌, ◌++◌, Bool, true, false, ◌||◌, List, [], ◌∷◌, flat_map, All, Option, Some, None, Result, Ok, Err, refl, ap, sym, subst, ◌∙◌, if◌then◌else◌}
use Rattle.std.specs.Prelude.{find, map, nat_eq, option_map}
use Rattle.std.specs.List.{list_any}
use Rattle.std.proofs.lemmas.Bool.{eq-eqb}
use Rattle.mo_syntax.specs.Classes.{ClassRow, Declaration, Declared, Component, Class, Home}
use Rattle.mo_syntax.specs.ClassTable.{broken_class, class_of_path, declarations, first_row, otherwise, path_eq, path_of}
use Rattle.mo_syntax.specs.Outcome.{Outcome, and_then, breach}
use Rattle.mo_syntax.specs.declared.class.FileTree.{FileTree}
use Rattle.mo_syntax.specs.declared.place.Place.{Place}
use Rattle.mo_syntax.specs.declared.place.Stop.{Stop}
use Rattle.mo_syntax.specs.declared.place.Stop.TheVariants.{Broken as broken_by, NoMemory as no_memory}
use Rattle.mo_flat.specs.declared.connect.Connect.{Connect}
use Rattle.mo_flat.specs.declared.connect.Connects.{Connects as Connects_at}
use Rattle.mo_flat.specs.declared.connect.Expanded.{Expanded}
use Rattle.mo_flat.specs.declared.connect.FaceSet.{FaceSet}
use Rattle.mo_flat.specs.declared.model.FlatModel.{FlatModel}
use Rattle.mo_flat.specs.SoundConnects.{IsSoundConnects}
use Rattle.mo_scope.specs.Instances.{Instance}
use Rattle.mo_scope.specs.Outcome.{Gives}
use Rattle.mo_instance.specs.Instances.{instances_of}
use Rattle.mo_scope.specs.Places.{Every}
use Rattle.mo_scope.specs.Rows.{ClassEntry, Row, entries_of, entry_in, number_among, number_of_classes, row_of, table_of}
use Rattle.mo_scope.proofs.RowsFound.{entries_below}
use Rattle.mo_connect.specs.Alike.{IsConnectable}
use Rattle.mo_connect.specs.Joins.{HasDistinctLeaves}
use Rattle.mo_connect.specs.Sets.{AreConnectionSets, IsFirstStop}
use Rattle.mo_equations.specs.Counted.{GivesExpansion}
use Rattle.mo_equations.specs.Expansion.{expansion_of}
use Rattle.mo_equations.specs.Leaves.{Tree}
use Rattle.mo_equations.specs.Size.{is_past}
use Rattle.mo_equations.specs.declared.whole.Expansion.{Expansion}
use Rattle.mo_flatten.specs.Flat.{Flattens, not_expanded, not_connected, joined, expansion_in, model_of, within_size}
use Rattle.mo_flatten.specs.Told.{Connects, GivesExpanded, HasRow, IfTold, TellsOf}
use Rattle.mo_flatten.specs.Told.{refuses, joins, stops, goes_on}
use Rattle.mo_flatten.proofs.Past.{past_stays_past}
use Rattle.mo_syntax.specs.declared.rules.TheConstants.{FLAT_MODEL_TOO_LARGE}

pub if_told : (result : Result FlatModel Stop) (P Q : Outcome FlatModel → Type 0) → ((told : Outcome FlatModel) → P told → Q told) → IfTold result P → IfTold result Q
if_told (Ok m) P Q f h = f (Ok m) h
if_told (Err (broken_by broken)) P Q f h = f (Err broken) h
if_told (Err no_memory) P Q f h = tt

-- ---- the class of a path

abbrev Below : List FileTree → ClassEntry → Type 0
Below files entry = entry.row.number < number_of_classes (table_of files)

of_both : {A : Type 0} (P : A → Type 0) (xs ys : List A) → Every P (xs ++ ys) → Every P ys
of_both P [] ys h = h
of_both P (x ∷ xs) ys h = of_both P xs ys h.1

same_some : {A : Type 0} (a b : A) → Some a ≡ Some b → a ≡ b
same_some {A} a b e = ap held e
  where
    held : Option A → A
    held (Some x) = x
    held None = a

abbrev row_with : List (List ℕ) → Declared → Option (List (List ℕ)) → Option ClassRow
row_with path Component at = None
row_with path (Class row) None = None
row_with path (Class row) (Some at) = if path_eq at path then Some row else None

abbrev entry_with : Home → Declared → List ClassEntry
entry_with home Component = []
entry_with home (Class row) = record { row = row; home = home } ∷ []

module _ (files : List FileTree) (path : List (List ℕ)) (ds : List Declaration) (row : ClassRow)
    (more : Every (Below files) (flat_map entry_in ds) → first_row path ds ≡ Some row → row.number < number_of_classes (table_of files)) where
  row_step : (home : Home) (what : Declared) (at : Option (List (List ℕ))) → Every (Below files) (entry_with home what ++ flat_map entry_in ds) →
      otherwise (row_with path what at) (first_row path ds) ≡ Some row → row.number < number_of_classes (table_of files)
  row_step home Component at all is = more all is
  row_step home (Class r) None all is = more all.1 is
  row_step home (Class r) (Some at) all is = by (path_eq at path) is
    where
      by : (b : Bool) → otherwise (if b then Some r else None) (first_row path ds) ≡ Some row → row.number < number_of_classes (table_of files)
      by true e = subst (λ (x : ClassRow). x.number < number_of_classes (table_of files)) (same_some r row e) all.0
      by false e = more all.1 e

row_below : (files : List FileTree) (path : List (List ℕ)) (ds : List Declaration) (row : ClassRow) → Every (Below files) (flat_map entry_in ds) → first_row path ds ≡ Some row → row.number < number_of_classes (table_of files)
row_below files path [] row all is = absurd (let clash : ◌≡◌ {A = Option ClassRow} None (Some row) = is in cc)
row_below files path (d ∷ ds) row all is = row_step files path ds row (row_below files path ds row) d.home d.what (path_of d) all is

-- the class of a path exists
pub class_exists : (files : List FileTree) (path : List (List ℕ)) (n : ℕ) → option_map (λ row. row.number) (class_of_path files path) ≡ Some n → n < number_of_classes (table_of files)
class_exists files path n h = go (class_of_path files path) refl h
  where
    go : (o : Option ClassRow) → class_of_path files path ≡ o → option_map (λ row. row.number) o ≡ Some n → n < number_of_classes (table_of files)
    go (Some row) is e = subst (λ (m : ℕ). m < number_of_classes (table_of files)) (same_some row.number n e) (row_below files path (declarations files) row (entries_below files) is)
    go None is e = absurd (let clash : ◌≡◌ {A = Option ℕ} None (Some n) = e in cc)

or_first : (a b : Bool) → a ≡ true → (a || b) ≡ true
or_first a b p = rw p refl

or_second : (a b : Bool) → b ≡ true → (a || b) ≡ true
or_second true b p = refl
or_second false b p = p

-- and has a row
same_number : (n : ℕ) → nat_eq n n ≡ true
same_number n = eq-eqb n n refl

module _ (path : List (List ℕ)) (ds : List Declaration) (row : ClassRow)
    (more : first_row path ds ≡ Some row → list_any (λ entry. nat_eq entry.row.number row.number) (flat_map entry_in ds) ≡ true) where
  any_step : (home : Home) (what : Declared) (at : Option (List (List ℕ))) → otherwise (row_with path what at) (first_row path ds) ≡ Some row →
      list_any (λ (entry : ClassEntry). nat_eq entry.row.number row.number) (entry_with home what ++ flat_map entry_in ds) ≡ true
  any_step home Component at is = more is
  any_step home (Class r) None is = or_second (nat_eq r.number row.number) _ (more is)
  any_step home (Class r) (Some at) is = by (path_eq at path) is
    where
      by : (b : Bool) → otherwise (if b then Some r else None) (first_row path ds) ≡ Some row →
          list_any (λ (entry : ClassEntry). nat_eq entry.row.number row.number) (record { row = r; home = home } ∷ flat_map entry_in ds) ≡ true
      by true e = or_first (nat_eq r.number row.number) _ (ap (λ (x : ClassRow). nat_eq x.number row.number) (same_some r row e) ∙ same_number row.number)
      by false e = or_second (nat_eq r.number row.number) _ (more e)

any_found : (path : List (List ℕ)) (ds : List Declaration) (row : ClassRow) → first_row path ds ≡ Some row → list_any (λ entry. nat_eq entry.row.number row.number) (flat_map entry_in ds) ≡ true
any_found path [] row is = absurd (let clash : ◌≡◌ {A = Option ClassRow} None (Some row) = is in cc)
any_found path (d ∷ ds) row is = any_step path ds row (any_found path ds row) d.home d.what (path_of d) is

abbrev Found : (ClassEntry → Row) → List ClassEntry → ℕ → Type 0
Found f xs n = (r : Row) × (find (λ row. nat_eq row.number n) (map f xs) ≡ Some r)

row_found : (files : List FileTree) (xs : List ClassEntry) (n : ℕ) → list_any (λ entry. nat_eq entry.row.number n) xs ≡ true → Found (row_of files (number_among (entries_of files))) xs n
row_found files [] n h = absurd (let clash : false ≡ true = h in cc)
row_found files (x ∷ xs) n h = by (row_found files xs n) (nat_eq x.row.number n) refl h
  where
    by : (list_any (λ (entry : ClassEntry). nat_eq entry.row.number n) xs ≡ true → Found (row_of files (number_among (entries_of files))) xs n) → (b : Bool) → nat_eq x.row.number n ≡ b → (b || list_any (λ (entry : ClassEntry). nat_eq entry.row.number n) xs) ≡ true → Found (row_of files (number_among (entries_of files))) (x ∷ xs) n
    by more true e k = (row_of files (number_among (entries_of files)) x, rw e refl)
    by more false e k = let found = more k in (found.0, rw e found.1)

pub class_has_row : (files : List FileTree) (path : List (List ℕ)) (n : ℕ) → option_map (λ row. row.number) (class_of_path files path) ≡ Some n → HasRow (table_of files) n
class_has_row files path n h = go (class_of_path files path) refl h
  where
    go : (o : Option ClassRow) → class_of_path files path ≡ o → option_map (λ row. row.number) o ≡ Some n → HasRow (table_of files) n
    go (Some row) is e =
        let found = row_found files (entries_of files) row.number (any_found path (declarations files) row is) in
        subst (HasRow (table_of files)) (same_some row.number n e) (record { row = found.0; is = found.1 })
    go None is e = absurd (let clash : ◌≡◌ {A = Option ℕ} None (Some n) = e in cc)

pub class_told : (files : List FileTree) (path : List (List ℕ)) (n : ℕ) (told : Outcome FlatModel) → option_map (λ row. row.number) (class_of_path files path) ≡ Some n → broken_class (class_of_path files path) ≡ None →
    TellsOf (expansion_in files n) told → Flattens files path told
class_told files path n told h fine tells = go (class_of_path files path) refl h
  where
    of_row : (row : ClassRow) → class_of_path files path ≡ Some row → row.number ≡ n → TellsOf (expansion_in files n) told → Flattens files path told
    of_row row is same (stops b e t) = not_expanded row b is (ap broken_class (sym is) ∙ fine) (ap (expansion_in files) same ∙ e) t
    of_row row is same (goes_on x e (refuses b first t)) = not_connected row x b is (ap broken_class (sym is) ∙ fine) (ap (expansion_in files) same ∙ e) first t
    of_row row is same (goes_on x e (joins j)) = joined row x is (ap broken_class (sym is) ∙ fine) (ap (expansion_in files) same ∙ e) j

    go : (o : Option ClassRow) → class_of_path files path ≡ o → option_map (λ row. row.number) o ≡ Some n → Flattens files path told
    go (Some row) is e = of_row row is (same_some row.number n e) tells
    go None is e = absurd (let clash : ◌≡◌ {A = Option ℕ} None (Some n) = e in cc)

-- ---- variables and equations

pub expansion_stops : (stop : Stop) (expansion : Outcome Expanded) → GivesExpanded (Err stop) expansion → IfTold (Err stop) (TellsOf expansion)
expansion_stops (broken_by broken) expansion h = stops broken h refl
expansion_stops no_memory expansion h = tt

abbrev behind_instances : List FileTree → List Instance → Outcome Expanded
behind_instances files instances = expansion_of (record { classes = table_of files; instances = instances })

pub instances_stop : {T : Type 0} (view : T → List Instance) (files : List FileTree) (class : ℕ) (stop : Stop) → Gives view (Err stop) (instances_of (table_of files) class) → GivesExpanded (Err stop) (expansion_in files class)
instances_stop view files class (broken_by broken) h = ap (λ (o : Outcome (List Instance)). and_then {A = List Instance} {B = Expanded} o (behind_instances files)) h
instances_stop view files class no_memory h = tt

pub expanded_told : (result : Result Expansion Stop) (files : List FileTree) (class : ℕ) (tree : Tree) (instances : List Instance) → instances_of (table_of files) class ≡ Ok instances →
    tree ≡ record { classes = table_of files; instances = instances } → GivesExpansion result tree → GivesExpanded result (expansion_in files class)
expanded_told (Ok x) files class tree instances h same k =
    (k.0, ap (λ (o : Outcome (List Instance)). and_then {A = List Instance} {B = Expanded} o (behind_instances files)) h ∙ (ap expansion_of (sym same) ∙ k.1), k.2)
expanded_told (Err (broken_by broken)) files class tree instances h same k =
    ap (λ (o : Outcome (List Instance)). and_then {A = List Instance} {B = Expanded} o (behind_instances files)) h ∙ (ap expansion_of (sym same) ∙ k)
expanded_told (Err no_memory) files class tree instances h same k = tt

-- ---- connections

pub distinct : (c : Connects_at) → IsSoundConnects c → All HasDistinctLeaves c.list
distinct c sound k d less = (sound.connects k d less).right.distinct

pub sets_stop : (e : Expanded) (list : List Connect) (stop : Stop) → list ≡ e.connects.list → IsFirstStop list stop → IfTold (Err stop) (Connects e)
sets_stop e list (broken_by broken) same first = refuses broken (subst (λ (l : List Connect). IsFirstStop l (broken_by broken)) same first) refl
sets_stop e list no_memory same first = tt

pub too_large_told : (e : Expanded) (sets : List FaceSet) (place : Place) (stop : Stop) → place ≡ e.place → is_past e ≡ true → stop ≡ broken_by (breach FLAT_MODEL_TOO_LARGE place) →
    All IsConnectable e.connects.list → AreConnectionSets e.connects sets → IfTold (Err stop) (Connects e)
too_large_told e sets place stop same past is connectable are =
    subst (λ (s : Stop). IfTold (Err s) (Connects e)) (sym is)
    (joins (record {
      connectable = connectable;
      sets = sets;
      are = are;
      is = ap (λ (p : Place). Err (breach FLAT_MODEL_TOO_LARGE p)) same ∙ sym (rw (past_stays_past e sets past) refl);
    }))

pub joins_told : (result : Result FlatModel Stop) (e : Expanded) (sets : List FaceSet) → All IsConnectable e.connects.list → AreConnectionSets e.connects sets →
    Gives (λ m. m) result (within_size (model_of e sets)) → IfTold result (Connects e)
joins_told (Ok m) e sets connectable are h = joins (record { connectable = connectable; sets = sets; are = are; is = sym h })
joins_told (Err (broken_by broken)) e sets connectable are h = joins (record { connectable = connectable; sets = sets; are = are; is = sym h })
joins_told (Err no_memory) e sets connectable are h = tt
