-- Steps of lookup, one after another.
use Rattle.std.proofs.Common.{◌≡◌, ℕ, zero, suc, ◌+◌, ◌-◌, ◌<◌, Bool, true, false, cond, List, [], ◌∷◌, ◌++◌, length, map, drop, get_or, Option, Some, None, Result, Ok, Err, refl, ap, sym, subst, ◌∙◌, arith}
use Rattle.std.specs.Prelude.{slice_get}
use Rattle.mo_syntax.specs.Outcome.{Outcome, and_then, breach, breaks}
use Rattle.mo_syntax.specs.declared.expr.Expr.{Expr}
use Rattle.mo_syntax.specs.declared.expr.PartOf.{PartOf}
use Rattle.mo_syntax.specs.declared.class.Import.{Import}
use Rattle.mo_syntax.specs.declared.class.Import.TheVariants.{All as Star}
use Rattle.mo_syntax.specs.declared.rules.TheConstants.{OUTSIDE_PROFILE, BASE_CLASS_CYCLE}
use Rattle.mo_syntax.specs.declared.text.Path.{Path}
use Rattle.mo_syntax.specs.declared.place.Broken.{Broken}
use Rattle.mo_syntax.specs.declared.place.Place.{Place}
use Rattle.mo_syntax.specs.declared.place.Stop.{Stop}
use Rattle.mo_syntax.specs.declared.place.Stop.TheVariants.{Broken as broken_by, NoMemory as no_memory}
use Rattle.mo_scope.specs.Outcome.{Gives}
use Rattle.mo_scope.specs.Rows.{Table, Row, row_at, Part, Element_of, Base_of, is_left_out}
use Rattle.mo_scope.specs.Frames.{Frame, Top, In, class_of, is_top}
use Rattle.mo_scope.specs.Lookup.{Found, Met, Classed, Walked, Asking, behind_class, class_wanted, classed, import_behind, imported_package, and_also, found_by_each, found_by_import, found_by_imports, found_element, first_at_top, through_star, found_by_star, class_behind, found_in, found_from, met_far, or_absent, at_top, predefined, is_closed, contains, walked, walked_class, walked_parts, with_member, with_base, base_of, leaf_checked, leaf_of, nothing_walked, last_place, asking_at}
use Rattle.mo_scope.specs.Worlds.{World, Grows, table_in}
use Rattle.mo_names.specs.Past.{Past, Found_past, Around, found_past, past, past_outer}
use Rattle.mo_names.specs.steps.Bases.{base_with_elements, parts_walked}
use Rattle.mo_names.specs.steps.Lookup.{started, own_inherited, before_dot, package_at_top, import_step, package_step, package_behind, found_by_all, found_by_names_or_stars, found_or, imported_met, imports_met, met_or, class_step}
use Rattle.mo_names.specs.steps.Parts.{imports_of, parts_of}
use Rattle.mo_names.proofs.Later.{table_later}
use Rattle.mo_names.proofs.Reading.{at_element}

-- what follows from a step of an outcome
pub then_ok : {A B : Type 0} (o : Outcome A) (f : A → Outcome B) (a : A) (all : Outcome B) → and_then o f ≡ all → o ≡ Ok a → f a ≡ all
then_ok o f a all is ok = ap (λ x. and_then x f) (sym ok) ∙ is

pub then_err : {A B : Type 0} (o : Outcome A) (f : A → Outcome B) (b : Broken) (all : Outcome B) → and_then o f ≡ all → o ≡ Err b → all ≡ Err b
then_err o f b all is err = sym is ∙ ap (λ x. and_then x f) err

pub then_then : {A B C : Type 0} (o : Outcome A) (f : A → Outcome B) (g : B → Outcome C) → and_then o (λ a. and_then (f a) g) ≡ and_then (and_then o f) g
then_then (Ok a) f g = refl
then_then (Err b) f g = refl

-- what is left of a list from an element on
pub left_from : {A B : Type 0} (G : List A → B) (xs : List A) (i : ℕ) (x : A) (all : B) → i < length xs → x ≡ get_or xs i x → G (drop i xs) ≡ all → G (x ∷ drop (i + 1) xs) ≡ all
left_from G xs i x all below is rest = ap G (sym (at_element xs i x below is)) ∙ rest

-- what was told of an older table
pub told_of : {A : Type 0} (told : Table → Outcome A) (u v : World) (o : Outcome A) → Grows u v → told (table_in v) ≡ o → told (table_in u) ≡ o
told_of told u v o g is = ap told (sym (table_later u v g)) ∙ is

-- ---- names of imports

pub names_step : (table : Table) (asking : Asking) (ask place : Place) (found : Found) (name : List ℕ) (names : List (List ℕ)) →
    and_then (import_step table asking ask place (before_dot place names) found name) (λ next. import_behind table asking ask place next names)
    ≡ import_behind table asking ask place found (name ∷ names)
names_step table asking ask place found name names =
    sym (then_then (class_wanted place found) (λ frame. behind_class table asking ask place (before_dot place names) frame name) (λ next. import_behind table asking ask place next names))

pub package_names_step : (table : Table) (asking : Asking) (ask place : Place) (frame : Frame) (name : List ℕ) (names : List (List ℕ)) →
    and_then (package_step table asking ask place frame name) (λ next. package_behind table asking ask place next names)
    ≡ package_behind table asking ask place frame (name ∷ names)
package_names_step table asking ask place frame name names =
    sym (then_then (behind_class table asking ask place (Some place) frame name) (class_wanted place) (λ next. package_behind table asking ask place next names))

-- ---- names of classes

pub class_names_step : (table : Table) (asking : Asking) (class : Classed) (part : PartOf Expr) (parts : List (PartOf Expr)) →
    and_then (class_step table asking class part) (λ next. class_behind table asking next parts) ≡ class_behind table asking class (part ∷ parts)
class_names_step table asking class part parts =
    sym (then_then (behind_class table asking part.place part.place (Some part.place) class.frame part.name) (classed part.place) (λ next. class_behind table asking next parts))

-- ---- the walk outwards

pub then_same : {A B : Type 0} (o : Outcome A) (f g : A → Outcome B) → ((a : A) → f a ≡ g a) → and_then o f ≡ and_then o g
then_same (Ok a) f g same = same a
then_same (Err b) f g same = refl

abbrev pub go_on : Table → Asking → Place → List ℕ → Past → Outcome Met
go_on table asking place name (Found_past found) = Ok (record { found = found; near = false })
go_on table asking place name (Around outer) = found_from table asking false false outer place name

abbrev pub or_on : Option Met → Outcome Met → Outcome Met
or_on (Some met) others = Ok met
or_on None others = others

far_is : (table : Table) (asking : Asking) (place : Place) (name : List ℕ) (o : Outcome Found) → met_far o ≡ and_then (found_past o) (go_on table asking place name)
far_is table asking place name (Ok found) = refl
far_is table asking place name (Err b) = refl

outer_is : (table : Table) (asking : Asking) (place : Place) (name : List ℕ) (outer : Frame) → found_from table asking false false outer place name ≡ and_then (past_outer table place name outer) (go_on table asking place name)
outer_is table asking place name Top = far_is table asking place name (or_absent place (at_top table name))
outer_is table asking place name (In class sources outer at owner) = refl

closed_or_not : (b : Bool) (table : Table) (asking : Asking) (place : Place) (name : List ℕ) (outer : Frame) →
    cond b (met_far (or_absent place (predefined name))) (found_from table asking false false outer place name)
    ≡ and_then (cond b (found_past (or_absent place (predefined name))) (past_outer table place name outer)) (go_on table asking place name)
closed_or_not true table asking place name outer = far_is table asking place name (or_absent place (predefined name))
closed_or_not false table asking place name outer = outer_is table asking place name outer

pub outwards_step : (table : Table) (asking : Asking) (bare near : Bool) (frame : Frame) (place : Place) (name : List ℕ) → is_top frame ≡ false →
    and_then (found_in table asking bare near frame place name) (λ here. or_on here (and_then (past table place frame name) (go_on table asking place name)))
    ≡ found_from table asking bare near frame place name
outwards_step table asking bare near Top place name no_top = absurd cc
outwards_step table asking bare near (In class sources outer at owner) place name no_top =
    then_same (found_in table asking bare near (In class sources outer at owner) place name) (λ here. or_on here (and_then (past table place (In class sources outer at owner) name) (go_on table asking place name))) further by_here
  where
    further : Option Met → Outcome Met
    further (Some found) = Ok found
    further None = cond (is_closed table (In class sources outer at owner)) (met_far (or_absent place (predefined name))) (found_from table asking false false outer place name)

    by_here : (here : Option Met) → or_on here (and_then (past table place (In class sources outer at owner) name) (go_on table asking place name)) ≡ further here
    by_here (Some met) = refl
    by_here None = sym (closed_or_not (is_closed table (In class sources outer at owner)) table asking place name outer)

-- how many frames are around one
abbrev pub depth : Frame → ℕ
depth Top = 0
depth (In class sources outer at owner) = suc (depth outer)

not_around : (o : Outcome Found) (f : Frame) {B : Type 0} → found_past o ≡ Ok (Around f) → B
not_around (Ok found) f is = cc
not_around (Err b) f is = cc

around_outer : (table : Table) (place : Place) (name : List ℕ) (outer f : Frame) → past_outer table place name outer ≡ Ok (Around f) → depth f < suc (depth outer)
around_outer table place name Top f is = not_around (or_absent place (at_top table name)) f is
around_outer table place name (In class sources outer at owner) f is =
    let same : f ≡ In class sources outer at owner = cc in
    rw same (omega arith)

pub around_less : (table : Table) (place : Place) (frame f : Frame) (name : List ℕ) → is_top frame ≡ false → past table place frame name ≡ Ok (Around f) → depth f < depth frame
around_less table place Top f name no_top is = absurd cc
around_less table place (In class sources outer at owner) f name no_top is = by (is_closed table (In class sources outer at owner)) is
  where
    by : (b : Bool) → cond b (found_past (or_absent place (predefined name))) (past_outer table place name outer) ≡ Ok (Around f) → depth f < suc (depth outer)
    by true e = not_around (or_absent place (predefined name)) f e
    by false e = around_outer table place name outer f e

-- ---- the elements of a class

pub parts_are : (table : Table) (asking : Asking) (frame : Frame) (row : Row) (item : ℕ) (parts : List Part) (so_far : Walked) →
    parts_walked table asking frame (Some row) item parts so_far ≡ walked_parts table asking frame row item parts so_far
parts_are table asking frame row item [] so_far = refl
parts_are table asking frame row item (Element_of declares ∷ parts) so_far =
    then_same (with_member (own_inherited frame item declares) so_far) _ _ (λ w. parts_are table asking frame row (item + 1) parts w)
parts_are table asking frame row item (Base_of clause ∷ parts) so_far =
    sym (then_then (base_with_elements table asking frame (Some row) clause) (λ base. with_base clause.hidden base.0 base.1 so_far) (parts_walked table asking frame (Some row) item parts))
    ∙ sym (then_then (base_of table asking frame row clause) (λ base. and_then (asking.elements (last_place clause.base.parts) base) (λ walked. Ok (base, walked)))
    (λ base. and_then (with_base clause.hidden base.0 base.1 so_far) (parts_walked table asking frame (Some row) item parts)))
    ∙ then_same (base_of table asking frame row clause) _ _ (λ base.
    sym (then_then (asking.elements (last_place clause.base.parts) base) (λ walked. Ok (base, walked)) (λ base. and_then (with_base clause.hidden base.0 base.1 so_far) (parts_walked table asking frame (Some row) item parts)))
    ∙ then_same (asking.elements (last_place clause.base.parts) base) _ _ (λ walked.
    then_same (with_base clause.hidden base walked so_far) _ _ (λ w. parts_are table asking frame row item parts w)))

pub class_is : (table : Table) (asking : Asking) (frame : Frame) (row : Option Row) →
    and_then (started frame row) (λ w. and_then (parts_walked table asking frame row 0 (parts_of row) w) leaf_checked) ≡ walked_class table asking frame row
class_is table asking frame None = refl
class_is table asking frame (Some row) = by (is_left_out row)
  where
    by : (b : Bool) → and_then (cond b (Err (breach OUTSIDE_PROFILE row.class.place)) (Ok (nothing_walked (leaf_of row frame)))) (λ w. and_then (parts_walked table asking frame (Some row) 0 row.parts w) leaf_checked)
        ≡ cond b (Err (breach OUTSIDE_PROFILE row.class.place)) (and_then (walked_parts table asking frame row 0 row.parts (nothing_walked (leaf_of row frame))) leaf_checked)
    by true = refl
    by false = ap (λ o. and_then o leaf_checked) (parts_are table asking frame row 0 row.parts (nothing_walked (leaf_of row frame)))

-- ---- the knot

pub none_left : (table : Table) (left : ℕ) (busy : List ℕ) (place : Place) (frame : Frame) → left ≡ 0 → walked table left busy place frame ≡ breaks BASE_CLASS_CYCLE place
unfolding walked
none_left table zero busy place frame none = refl
none_left table (suc left) busy place frame none = absurd (omega arith)

pub is_busy_still : (table : Table) (left : ℕ) (busy : List ℕ) (place : Place) (frame : Frame) → contains busy (class_of frame) ≡ true → walked table left busy place frame ≡ breaks BASE_CLASS_CYCLE place
unfolding walked
is_busy_still table zero busy place frame is = refl
is_busy_still table (suc left) busy place frame is = rw is refl

pub walked_further : (table : Table) (left : ℕ) (busy : List ℕ) (place : Place) (frame : Frame) → 0 < left → contains busy (class_of frame) ≡ false →
    walked_class table (asking_at table (left - 1) (busy ++ class_of frame ∷ [])) frame (row_at table (class_of frame)) ≡ walked table left busy place frame
unfolding walked
walked_further table zero busy place frame some free = absurd (omega arith)
walked_further table (suc left) busy place frame some free =
    let one_less : suc left - 1 ≡ left = omega arith in
    ap (λ l. walked_class table (asking_at table l (busy ++ class_of frame ∷ [])) frame (row_at table (class_of frame))) one_less ∙ (rw free refl)

-- ---- answers that are no values

pub err_on : {T U A B : Type 0} (view : T → A) (view' : U → B) (e : Stop) (o : Outcome A) (f : A → Outcome B) (all : Outcome B) → Gives view (Err e) o → and_then o f ≡ all → Gives view' (Err e) all
err_on view view' (broken_by b) o f all is left = then_err o f b all left is
err_on view view' no_memory o f all is left = tt

-- the exit of a loop, where a step of it is told of a later world
pub loop_err : {T U A B : Type 0} (view : T → A) (view' : U → B) (e : Stop) (u v : World) (told : Table → Outcome A) (f : A → Outcome B) (all : Outcome B) → Grows u v → Gives view (Err e) (told (table_in v)) →
    and_then (told (table_in u)) f ≡ all → Gives view' (Err e) all
loop_err view view' e u v told f all grows value left =
    err_on view view' e (told (table_in u)) f all (subst (λ t. Gives view (Err e) (told t)) (table_later u v grows) value) left

pub drop_map : {A B : Type 0} (f : A → B) (xs : List A) (k : ℕ) → drop k (map f xs) ≡ map f (drop k xs)
drop_map f xs zero = refl
drop_map f [] (suc k) = refl
drop_map f (x ∷ xs) (suc k) = drop_map f xs k

-- what is left of a list from an element on, that was read
pub left_read : {A B : Type 0} (G : List A → B) (xs : List A) (i : ℕ) (x : A) (all : B) → slice_get xs i ≡ Some x → G (drop i xs) ≡ all → G (x ∷ drop (i + 1) xs) ≡ all
left_read G xs i x all at rest = ap G (sym (from xs i x at)) ∙ rest
  where
    from : {A : Type 0} (xs : List A) (i : ℕ) (x : A) → slice_get xs i ≡ Some x → drop i xs ≡ x ∷ drop (i + 1) xs
    from [] i x at = absurd cc
    from (y ∷ xs) zero x at = let same : y ≡ x = cc in ap (λ z. z ∷ xs) same
    from (y ∷ xs) (suc i) x at =
        let next : suc i + 1 ≡ suc (i + 1) = omega arith in
        from xs i x at ∙ ap (λ k. x ∷ drop k (y ∷ xs)) (sym next)

-- ---- the package before `.*`

pub package_is : (table : Table) (asking : Asking) (ask place : Place) (name : List ℕ) (names : List (List ℕ)) →
    and_then (package_at_top table place name) (λ frame. package_behind table asking ask place frame names) ≡ imported_package table asking ask place (name ∷ names)
package_is table asking ask place name names =
    sym (then_then (first_at_top table place name) (class_wanted place) (λ frame. package_behind table asking ask place frame names))

-- the exit of a loop by the answer itself
pub exit_err : {T U A B : Type 0} (view : T → A) (view' : U → B) (r : Result U Stop) (e : Stop) (u v : World) (told : Table → Outcome A) (f : A → Outcome B) (all : Outcome B) → r ≡ Err e → Grows u v → Gives view (Err e) (told (table_in v)) →
    and_then (told (table_in u)) f ≡ all → Gives view' r all
exit_err view view' r e u v told f all is grows value left = rw is (loop_err view view' e u v told f all grows value left)

-- an answer that is told of a later world, and of a definition that comes to the same
pub later_gives : {T A : Type 0} (view : T → A) (r : Result T Stop) (u v : World) (told : Table → Outcome A) (all : Outcome A) → Grows u v → Gives view r (told (table_in v)) → told (table_in u) ≡ all → Gives view r all
later_gives view r u v told all grows value same = subst (Gives view r) same (subst (λ t. Gives view r (told t)) (table_later u v grows) value)

pub star_is : (table : Table) (asking : Asking) (ask place : Place) (path : Path) (names : List (List ℕ)) (name : List ℕ) (clause : Import) (frame : Frame) → clause ≡ Star path place → names ≡ path.0 → imported_package table asking ask place names ≡ Ok frame →
    through_star table asking ask place frame name ≡ found_by_star table asking ask name clause
star_is table asking ask place path names name clause frame is same found =
    ap (λ (o : Outcome Frame). and_then o (λ f. through_star table asking ask place f name)) (sym found)
    ∙ ap (λ ns. and_then (imported_package table asking ask place ns) (λ f. through_star table asking ask place f name)) same
    ∙ ap (found_by_star table asking ask name) (sym is)

-- ---- imports

names_all : (table : Table) (asking : Asking) (ask : Place) (name : List ℕ) (so_far : Option Found) (clauses : List Import) →
    found_by_all table asking ask false name so_far clauses ≡ found_by_each (found_by_import table asking ask name) ask so_far clauses
names_all table asking ask name so_far [] = refl
names_all table asking ask name so_far (clause ∷ clauses) =
    sym (then_then (found_by_import table asking ask name clause) (and_also ask so_far) (λ next. found_by_all table asking ask false name next clauses))
    ∙ then_same (found_by_import table asking ask name clause) _ _ (λ found. then_same (and_also ask so_far found) _ _ (λ next. names_all table asking ask name next clauses))

stars_all : (table : Table) (asking : Asking) (ask : Place) (name : List ℕ) (so_far : Option Found) (clauses : List Import) →
    found_by_all table asking ask true name so_far clauses ≡ found_by_each (found_by_star table asking ask name) ask so_far clauses
stars_all table asking ask name so_far [] = refl
stars_all table asking ask name so_far (clause ∷ clauses) =
    sym (then_then (found_by_star table asking ask name clause) (and_also ask so_far) (λ next. found_by_all table asking ask true name next clauses))
    ∙ then_same (found_by_star table asking ask name clause) _ _ (λ found. then_same (and_also ask so_far found) _ _ (λ next. stars_all table asking ask name next clauses))

imports_are : (table : Table) (asking : Asking) (ask : Place) (name : List ℕ) (row : Row) → found_by_names_or_stars table asking ask name row.imports ≡ found_by_imports table asking ask row name
imports_are table asking ask name row =
    ap (λ o. and_then o (λ found. found_or found (found_by_all table asking ask true name None row.imports))) (names_all table asking ask name None row.imports)
    ∙ then_same (found_by_each (found_by_import table asking ask name) ask None row.imports) (λ found. found_or found (found_by_all table asking ask true name None row.imports)) or_star by
  where
    or_star : Option Found → Outcome (Option Found)
    or_star (Some found) = Ok (Some found)
    or_star None = found_by_each (found_by_star table asking ask name) ask None row.imports

    by : (found : Option Found) → found_or found (found_by_all table asking ask true name None row.imports) ≡ or_star found
    by (Some found) = refl
    by None = stars_all table asking ask name None row.imports

abbrev pub through_imports : Table → Asking → Place → List ℕ → Option Row → Outcome (Option Met)
through_imports table asking ask name None = Ok None
through_imports table asking ask name (Some row) = and_then (found_by_imports table asking ask row name) (λ found. Ok (imported_met found))

met_through : (table : Table) (asking : Asking) (ask : Place) (name : List ℕ) (row : Option Row) → imports_met table asking ask name (imports_of row) ≡ through_imports table asking ask name row
met_through table asking ask name None = refl
met_through table asking ask name (Some row) = ap (λ o. and_then o (λ found. Ok (imported_met found))) (imports_are table asking ask name row)

pub in_frame_is : (table : Table) (asking : Asking) (bare near : Bool) (frame : Frame) (place : Place) (name : List ℕ) →
    and_then (found_element table asking bare frame place name) (λ found. met_or near found (imports_met table asking place name (imports_of (row_at table (class_of frame)))))
    ≡ found_in table asking bare near frame place name
in_frame_is table asking bare near frame place name =
    then_same (found_element table asking bare frame place name) (λ found. met_or near found (imports_met table asking place name (imports_of (row_at table (class_of frame))))) or_imports by
  where
    or_imports : Option Found → Outcome (Option Met)
    or_imports (Some found) = Ok (Some (record { found = found; near = near }))
    or_imports None = through_imports table asking place name (row_at table (class_of frame))

    by : (found : Option Found) → met_or near found (imports_met table asking place name (imports_of (row_at table (class_of frame)))) ≡ or_imports found
    by (Some found) = refl
    by None = met_through table asking place name (row_at table (class_of frame))
