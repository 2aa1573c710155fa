-- The classes that redeclarations declare exist.
use Rattle.std.proofs.Common.{◌≡◌, ℕ, ◌+◌, ◌<◌, Bool, true, false, List, [], ◌∷◌, ◌++◌, Some, refl, subst}
use Rattle.std.specs.Prelude.{flat_map, if◌then◌else◌}
use Rattle.std.specs.Str.{bytes_eq}
use Rattle.mo_syntax.specs.declared.class.ArgumentOf.{ArgumentOf}
use Rattle.mo_syntax.specs.declared.class.Body.{Body}
use Rattle.mo_syntax.specs.declared.class.Element.{Element}
use Rattle.mo_syntax.specs.declared.class.FileTree.{FileTree}
use Rattle.mo_syntax.specs.declared.class.Give.{Give, Give-F, out-Give}
use Rattle.mo_syntax.specs.declared.class.Item.{Item}
use Rattle.mo_syntax.specs.declared.class.What.{What}
use Rattle.mo_scope.specs.Rows.{table_of, class_number, number_of_classes}
use Rattle.mo_scope.specs.Frames.{Given, Listed, Argued, Replacing, Listing, Origin, Scope, Source}
use Rattle.mo_scope.specs.Parts.{Redeclaration, Saying, Modifies, Redeclares, begins_with, names_left, held, declared_in, said, said_behind, said_by_argument, said_in_list, said_by_all, redeclarations_in, first_of, redeclared, behind_name, pending_behind}
use Rattle.mo_scope.specs.Places.{Every}
use Rattle.mo_scope.proofs.RowsFound.{declared_exists}

abbrev Declared : ℕ → Saying → Type 0
Declared classes (Modifies source) = Unit {0}
Declared classes (Redeclares redeclaration) = class_number redeclaration.declares < classes

append : {A : Type 0} (P : A → Type 0) (xs ys : List A) → Every P xs → Every P ys → Every P (xs ++ ys)
append P [] ys hx hy = hy
append P (x ∷ xs) ys hx hy = (hx.0, append P xs ys hx.1 hy)

each : {A B : Type 0} (P : B → Type 0) (f : A → List B) → ((x : A) → Every P (f x)) → (xs : List A) → Every P (flat_map f xs)
each P f h [] = tt
each P f h (x ∷ xs) = append P (f x) (flat_map f xs) (h x) (each P f h xs)

one_if : {A : Type 0} (P : A → Type 0) (b : Bool) (x : A) → P x → Every P (if b then x ∷ [] else [])
one_if P true x h = (h, tt)
one_if P false x h = tt

behind : (files : List FileTree) (argument : ArgumentOf Give) (passed : ℕ) (source : Source) → Declared (number_of_classes (table_of files)) (said_behind (table_of files) argument passed source)
behind files argument passed source = by (names_left argument passed) refl (out-Give argument.give) refl
  where
    by : (names : List (List ℕ)) → names_left argument passed ≡ names → (give : Give-F Body Give Item What Element) → out-Give argument.give ≡ give →
        Declared (number_of_classes (table_of files)) (said_behind (table_of files) argument passed source)
    by [] e (Give-F.Redeclare element) g = rw (e, g) (declared_exists files element)
    by [] e (Give-F.Replaceable element) g = rw (e, g) (declared_exists files element)
    by [] e (Give-F.Modify mods value) g = rw (e, g) tt
    by (name ∷ names) e give g = rw e tt

in_list : (files : List FileTree) (source : Source) (name index : List ℕ) (arguments : List (ArgumentOf Give)) →
    Every (Declared (number_of_classes (table_of files))) (said_in_list (table_of files) source name index arguments)
in_list files source name index arguments =
    each (Declared (number_of_classes (table_of files))) (said_by_argument (table_of files) source name index)
    (λ argument. one_if (Declared (number_of_classes (table_of files))) (begins_with name argument.name.0) _
    (behind files argument 1 (behind_name source name (pending_behind argument.each source.piece.pending index) argument.last (Argued argument 1))))
    arguments

in_given : (files : List FileTree) (name index : List ℕ) (given : Given) (pending : List ℕ) (listing : Listing) (last outside : Bool) (origin : Origin) (scope : Scope) →
    Every (Declared (number_of_classes (table_of files))) (said (table_of files) name index (record { piece = record { given = given; pending = pending; listing = listing; last = last; outside = outside; origin = origin }; scope = scope }))
in_given files name index (Listed modifiers) pending listing last outside origin scope = in_list files (record { piece = record { given = Listed modifiers; pending = pending; listing = listing; last = last; outside = outside; origin = origin }; scope = scope }) name index modifiers.list
in_given files name index (Argued argument passed) pending listing last outside origin scope =
    append (Declared (number_of_classes (table_of files))) _ _
    (one_if (Declared (number_of_classes (table_of files))) (begins_with name (names_left argument passed)) _ (behind files argument (passed + 1) _))
    (in_list files (record { piece = record { given = Argued argument passed; pending = pending; listing = listing; last = last; outside = outside; origin = origin }; scope = scope }) name index (held (Argued argument passed)).list)
in_given files name index (Replacing elements) pending listing last outside origin scope =
    each (Declared (number_of_classes (table_of files))) _
    (λ element. one_if (Declared (number_of_classes (table_of files))) (bytes_eq (declared_in (table_of files) element).name name) _ (declared_exists files element))
    elements

in_source : (files : List FileTree) (name index : List ℕ) (source : Source) → Every (Declared (number_of_classes (table_of files))) (said (table_of files) name index source)
in_source files name index source =
    in_given files name index source.piece.given source.piece.pending source.piece.listing source.piece.last source.piece.outside source.piece.origin source.scope

first : (classes : ℕ) (sayings : List Saying) (redeclaration : Redeclaration) → Every (Declared classes) sayings → first_of (redeclarations_in sayings) ≡ Some redeclaration → class_number redeclaration.declares < classes
first classes [] redeclaration all is = absurd cc
first classes (Modifies source ∷ sayings) redeclaration all is = first classes sayings redeclaration all.1 is
first classes (Redeclares other ∷ sayings) redeclaration all is = subst (λ r. class_number r.declares < classes) (same is) all.0
  where
    same : Some other ≡ Some redeclaration → other ≡ redeclaration
    same e = cc

-- the class that the redeclaration which wins declares
pub redeclared_exists : (files : List FileTree) (sources : List Source) (name index : List ℕ) (redeclaration : Redeclaration) → redeclared (table_of files) sources name index ≡ Some redeclaration →
    class_number redeclaration.declares < number_of_classes (table_of files)
redeclared_exists files sources name index redeclaration is =
    first (number_of_classes (table_of files)) (said_by_all (table_of files) name index sources) redeclaration
    (each (Declared (number_of_classes (table_of files))) (said (table_of files) name index) (in_source files name index) sources) is
