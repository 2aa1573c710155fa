-- A rule of the class tree is broken where a name is declared, or at the path behind `within`.
use Rattle.std.proofs.Common.{◌≡◌, ℕ, ◌+◌, Bool, true, false, List, [], ◌∷◌, ◌++◌, map, flat_map, Option, Some, None, subst, if◌then◌else◌}
use Rattle.mo_syntax.specs.declared.class.FileTree.{FileTree}
use Rattle.mo_syntax.specs.declared.rules.TheConstants.{WITHIN_NAMES_NO_CLASS, DECLARED_TWICE}
use Rattle.mo_syntax.specs.declared.text.Path.{Path}
use Rattle.mo_syntax.specs.declared.place.Broken.{Broken}
use Rattle.mo_syntax.specs.declared.place.Place.{Place}
use Rattle.mo_syntax.specs.Classes.{Apart, Declaration}
use Rattle.mo_syntax.specs.ClassTable.{Asked, Within, Names, asked_from, broken_by, broken_tree, class_of_path, declared_in, first_broken, first_number, in_file, is_long, is_repeated, otherwise}
use Rattle.mo_places.specs.Written.{Written, At}
use Rattle.mo_places.specs.TreeWritten.{places_in_class, places_in_files}
use Rattle.mo_places.specs.Stands.{Every, IfAny}
use Rattle.mo_places.proofs.laws.Standing.{every_append, every_back, every_front, every_map, every_weaker}
use Rattle.mo_places.proofs.laws.Trees.{DeclarationStands, file_declarations_stand}

module _ (P : Written → Type 0) where
  abbrev BrokenAt : Broken → Type 0
  BrokenAt b = P (At b.place)

  -- the path behind `within`
  abbrev pub WithinStands : FileTree → Type 0
  WithinStands file = IfAny (λ within. P (At within.1)) file.within

  abbrev AskedStands : Asked → Type 0
  AskedStands (Within path place) = P (At place)
  AskedStands (Names d) = P (At d.place)

  abbrev asked_within : Option (Path × Place) → List Asked
  asked_within None = []
  asked_within (Some w) = Within w.0.0 w.1 ∷ []

  within_stands : (within : Option (Path × Place)) → IfAny (λ w. P (At w.1)) within → Every AskedStands (asked_within within)
  within_stands None h = tt
  within_stands (Some w) h = (h, tt)

  asked_stand : (files : List FileTree) → Every P (places_in_files files) → Every WithinStands files → (n : ℕ) → Every AskedStands (asked_from n files)
  asked_stand [] h hw n = tt
  asked_stand (file ∷ files) h hw n =
      let own : Every P (flat_map places_in_class file.classes) = every_front P (flat_map places_in_class file.classes) (places_in_files files) h in
      every_append AskedStands (asked_within file.within) (map Names ((in_file file).declared Apart n) ++ asked_from (n + (in_file file).classes) files) (within_stands file.within hw.0)
      (every_append AskedStands (map Names ((in_file file).declared Apart n)) (asked_from (n + (in_file file).classes) files)
      (every_map AskedStands Names ((in_file file).declared Apart n)
      (every_weaker (DeclarationStands P) (λ (d : Declaration). P (At d.place)) (λ d k. k.0) ((in_file file).declared Apart n) (file_declarations_stand P file own n)))
      (asked_stand files (every_back P (flat_map places_in_class file.classes) (places_in_files files) h) hw.1 (n + (in_file file).classes)))

  if_broken : (test : Bool) (b : Broken) → BrokenAt b → IfAny BrokenAt (if test then Some b else None)
  if_broken true b h = h
  if_broken false b h = tt

  unless_broken : (test : Bool) (b : Broken) → BrokenAt b → IfAny BrokenAt (if test then None else Some b)
  unless_broken true b h = tt
  unless_broken false b h = h

  broken_by_stands : (files : List FileTree) (before : List Asked) (asked : Asked) → AskedStands asked → IfAny BrokenAt (broken_by files before asked)
  broken_by_stands files before (Within path place) h = unless_broken (is_long (class_of_path files path)) (record { rule = WITHIN_NAMES_NO_CLASS; place = place }) h
  broken_by_stands files before (Names d) h = if_broken (is_repeated (declared_in before) d) (record { rule = DECLARED_TWICE; place = d.place }) h

  otherwise_stands : (o other : Option Broken) → IfAny BrokenAt o → IfAny BrokenAt other → IfAny BrokenAt (otherwise o other)
  otherwise_stands (Some b) other h ho = h
  otherwise_stands None other h ho = ho

  first_stands : (files : List FileTree) (before asked : List Asked) → Every AskedStands asked → IfAny BrokenAt (first_broken files before asked)
  first_stands files before [] h = tt
  first_stands files before (asked ∷ more) h =
      otherwise_stands (broken_by files before asked) (first_broken files (before ++ asked ∷ []) more) (broken_by_stands files before asked h.0) (first_stands files (before ++ asked ∷ []) more h.1)

  -- the first broken rule of the class tree
  pub broken_tree_stands : (files : List FileTree) → Every P (places_in_files files) → Every WithinStands files → (b : Broken) → broken_tree files ≡ Some b → P (At b.place)
  broken_tree_stands files h hw b is = subst (IfAny BrokenAt) is (first_stands files [] (asked_from first_number files) (asked_stand files h hw first_number))
