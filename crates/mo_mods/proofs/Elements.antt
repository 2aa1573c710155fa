-- Tables that are merged of what is left of modifiers.
use Rattle.std.proofs.Common.{◌≡◌, ℕ, ◌<◌, length, arith, Bool, true, false, cond, List, [], ◌∷◌, map, Option, Some, None, refl, ap, sym, ◌∙◌, subst, nat_cmp}
use Rattle.std.specs.Prelude.{option_map, IfOk, MatchOption, Result, Ok}
use Rattle.std.specs.Borrow.{Bor}
use Rattle.std.specs.BTreeMap.{BTreeMap, UpdatesBy, is_at}
use Rattle.std.specs.Cmp.Lexicographic.{slice_cmp}
use Rattle.std.specs.Map.{lookup}
use Rattle.std.specs.Str.{bytes_eq}
use Rattle.std.proofs.lemmas.Slice.Eq.{bytes_eq-Decides}
use Rattle.mo_scope.specs.Frames.{Frame}
use Rattle.mo_scope.specs.Rows.{Table}
use Rattle.mo_scope.specs.Sights.{source_seen}
use Rattle.mo_scope.specs.Worlds.{sources_in}
use Rattle.mo_scope.specs.declared.source.Source.{Source as SourceAt}
use Rattle.mo_mods.specs.declared.env.MergedEnv.{MergedEnv, out-MergedEnv}
use Rattle.mo_mods.specs.declared.env.MergedValue.{MergedValue}
use Rattle.mo_mods.specs.declared.env.RedeclaredAt.{RedeclaredAt}
use Rattle.mo_mods.specs.declared.left.Said.{Said as SaidAt}
use Rattle.mo_mods.specs.Left.{Left, Said, all_say, anew_along, anew_first, left_of, lefts_said, value_along, value_left, IsElementOf, IsMergedOf}
use Rattle.mo_mods.specs.Made.{AreParts}
use Rattle.mo_mods.specs.Marks.{unmarked}
use Rattle.mo_mods.specs.Merged.{Merged, StandsFor, Table_of, Below, Merged_value, Redeclared, nothing_merged, at_path, redeclared_here, table_for, value_here}
use Rattle.mo_mods.specs.Sights.{below_seen, left_of_source, merged_in, merged_or, name_cmp, redeclared_in, said_held, said_in, said_or_none, value_in}
use Rattle.mo_mods.proofs.Finding.{looked_up, nothing_at}
use Rattle.mo_mods.proofs.Grouping.{at_name, after_update}
use Rattle.mo_mods.proofs.LeftSources.{stands_for}
use Rattle.mo_mods.proofs.Making.{env_is, none_seen}

-- ---- nothing is left

no_value : (table : Table) (path : List (List ℕ)) → value_along table [] path ≡ None
no_value table [] = refl
no_value table (name ∷ names) = no_value table names

none_anew : (table : Table) (name : List ℕ) (path : List (List ℕ)) → anew_along table [] name path ≡ None
none_anew table name [] = refl
none_anew table name (next ∷ names) = none_anew table next names

pub nothing_is : (table : Table) → IsElementOf table nothing_merged []
nothing_is table = record {
  below = record {
    values = λ path. ap value_here (sym (nothing_at path)) ∙ sym (no_value table path);
    redeclarations = λ name path. ap redeclared_here (sym (nothing_at (name ∷ path))) ∙ sym (none_anew table name path);
  };
  anew = refl;
}

-- ---- a table by its parts

-- a table of the first value, whose tables below are those of the elements
merged_parts : (table : Table) (value : Option Merged_value) (below : Below) (lefts : List Left) → value ≡ value_left lefts →
    ((name : List ℕ) → IsElementOf table (table_for name below) (all_say table name lefts)) → IsMergedOf table (Table_of value None below) lefts
merged_parts table value below lefts is elements = record { values = values; redeclarations = redeclarations }
  where
    values : (path : List (List ℕ)) → value_here (at_path (Table_of value None below) path) ≡ value_along table lefts path
    values [] = is
    values (name ∷ names) = (elements name).below.values names

    redeclarations : (name : List ℕ) (path : List (List ℕ)) → redeclared_here (at_path (Table_of value None below) (name ∷ path)) ≡ anew_along table lefts name path
    redeclarations name [] = (elements name).anew
    redeclarations name (next ∷ names) = (elements name).below.redeclarations next names

-- what a table is merged of does not tell what declares it anew
other_anew : (table : Table) (value : Option Merged_value) (one other : Option Redeclared) (below : Below) (lefts : List Left) → IsMergedOf table (Table_of value one below) lefts →
    IsMergedOf table (Table_of value other below) lefts
other_anew table value one other below lefts is = record { values = values; redeclarations = λ name path. is.redeclarations name path }
  where
    values : (path : List (List ℕ)) → value_here (at_path (Table_of value other below) path) ≡ value_along table lefts path
    values [] = is.values []
    values (name ∷ names) = is.values (name ∷ names)

pub merged_is : (table : Table) (frames : List Frame) (env : MergedEnv) (lefts : List Left) → option_map (value_in frames) (out-MergedEnv env).value ≡ value_left lefts →
    ((name : List ℕ) → IsElementOf table (table_for name (below_seen frames (out-MergedEnv env).below.entries)) (all_say table name lefts)) → IsMergedOf table (merged_in frames env) lefts
merged_is table frames env lefts is elements =
    subst (λ m. IsMergedOf table m lefts) (sym (env_is frames env))
    (other_anew table _ None _ _ lefts (merged_parts table (option_map (value_in frames) (out-MergedEnv env).value) (below_seen frames (out-MergedEnv env).below.entries) lefts is elements))

pub redeclared_is : (frames : List Frame) (env : MergedEnv) (redeclared : Option Redeclared) → option_map (redeclared_in frames) (out-MergedEnv env).redeclared ≡ redeclared →
    redeclared_here (merged_in frames env) ≡ redeclared
redeclared_is frames env redeclared is = ap redeclared_here (env_is frames env) ∙ is

-- the table of an element by its parts
pub element_is : {E : Type 0} (table : Table) (frames : List Frame) (env : MergedEnv) (said : List Said) (value : Result (Option MergedValue) E) (redeclared : Result (Option RedeclaredAt) E)
    (below : Result (BTreeMap (Bor (List ℕ)) MergedEnv) E) → AreParts value redeclared below (out-MergedEnv env) →
    IfOk value (λ made. option_map (value_in frames) made ≡ value_left (lefts_said true said)) → IfOk redeclared (λ made. option_map (redeclared_in frames) made ≡ anew_first said) →
    IfOk below (λ made. (name : List ℕ) → IsElementOf table (table_for name (below_seen frames made.entries)) (all_say table name (lefts_said true said))) → IsElementOf table (merged_in frames env) said
element_is table frames env said value redeclared below parts values anew elements = record {
  below = merged_is table frames env (lefts_said true said) (rw parts.value_is at values) (rw parts.below_is at elements);
  anew = redeclared_is frames env (anew_first said) (rw parts.redeclared_is at anew);
}

-- ---- the tables of elements

-- so far each name that is still left has no table, and each other one has its own
abbrev pub IsMadeOf : Table → List Frame → BTreeMap (Bor (List ℕ)) (List SaidAt) → BTreeMap (Bor (List ℕ)) (List SaidAt) → BTreeMap (Bor (List ℕ)) MergedEnv → List ℕ → Type 0
IsMadeOf table frames all left made name =
    MatchOption (at_name left name) (IsElementOf table (table_for name (below_seen frames made.entries)) (said_held frames all name))
    (λ said. said_held frames all name ≡ map (said_in frames) said)

-- at the start each name with something said is left
pub made_first : (table : Table) (frames : List Frame) (all : BTreeMap (Bor (List ℕ)) (List SaidAt)) (made : BTreeMap (Bor (List ℕ)) MergedEnv) (name : List ℕ) → made.entries ≡ [] →
    IsMadeOf table frames all all made name
made_first table frames all made name empty = by (at_name all name) refl
  where
    by : (said : Option (List SaidAt)) → at_name all name ≡ said →
        MatchOption said (IsElementOf table (table_for name (below_seen frames made.entries)) (said_held frames all name)) (λ said. said_held frames all name ≡ map (said_in frames) said)
    by (Some said) is = ap (said_or_none frames) is
    by None is =
        subst (λ m. IsElementOf table m (said_held frames all name)) (sym (ap (λ es. table_for name (below_seen frames es)) empty))
        (subst (IsElementOf table nothing_merged) (sym (ap (said_or_none frames) is)) (nothing_is table))

-- one name gets its table
pub made_more : (table : Table) (frames : List Frame) (all left rest : BTreeMap (Bor (List ℕ)) (List SaidAt)) (made new : BTreeMap (Bor (List ℕ)) MergedEnv) (key : Bor (List ℕ)) (said : List SaidAt) (env : MergedEnv) →
    at_name left key.now ≡ Some said → UpdatesBy name_cmp (λ k. slice_cmp nat_cmp key.now k.now) left rest None → IsElementOf table (merged_in frames env) (map (said_in frames) said) →
    ((other : List ℕ) → table_for other (below_seen frames new.entries) ≡ cond (bytes_eq key.now other) (merged_in frames env) (table_for other (below_seen frames made.entries))) →
    (name : List ℕ) → IsMadeOf table frames all left made name → IsMadeOf table frames all rest new name
made_more table frames all left rest made new key said env here removed is put name before =
    by (bytes_eq key.now name) refl (after_update key.now left rest None removed name) (put name)
  where
    Goal : Option (List SaidAt) → Merged → Type 0
    Goal at m = MatchOption at (IsElementOf table m (said_held frames all name)) (λ said. said_held frames all name ≡ map (said_in frames) said)

    by : (b : Bool) → bytes_eq key.now name ≡ b → at_name rest name ≡ cond (bytes_eq key.now name) None (at_name left name) →
        table_for name (below_seen frames new.entries) ≡ cond (bytes_eq key.now name) (merged_in frames env) (table_for name (below_seen frames made.entries)) →
        IsMadeOf table frames all rest new name
    by true same taken given =
        let none : at_name rest name ≡ None = taken ∙ ap (λ b. cond b None (at_name left name)) same in
        let table_is : table_for name (below_seen frames new.entries) ≡ merged_in frames env = given ∙ ap (λ b. cond b (merged_in frames env) (table_for name (below_seen frames made.entries))) same in
        let left_is : at_name left name ≡ Some said = ap (at_name left) (sym ((bytes_eq-Decides key.now name).0 same)) ∙ here in
        let said_is : said_held frames all name ≡ map (said_in frames) said = subst (λ at. Goal at (table_for name (below_seen frames made.entries))) left_is before in
        subst (λ at. Goal at (table_for name (below_seen frames new.entries))) (sym none)
        (subst (λ m. IsElementOf table m (said_held frames all name)) (sym table_is) (subst (IsElementOf table (merged_in frames env)) (sym said_is) is))
    by false other taken given =
        let same_left : at_name rest name ≡ at_name left name = taken ∙ ap (λ b. cond b None (at_name left name)) other in
        let same_table : table_for name (below_seen frames new.entries) ≡ table_for name (below_seen frames made.entries) =
        given ∙ ap (λ b. cond b (merged_in frames env) (table_for name (below_seen frames made.entries))) other in
        subst (λ at. Goal at (table_for name (below_seen frames new.entries))) (sym same_left) (subst (Goal (at_name left name)) (sym same_table) before)

pub nothing_left : {A : Type 0} (xs : List A) → (0 < length xs → false ≡ true) → xs ≡ []
nothing_left [] is = refl
nothing_left (x ∷ xs) is = let impossible : false ≡ true = is (omega arith) in cc

-- at the end none is left
pub made_all : (table : Table) (frames : List Frame) (all left : BTreeMap (Bor (List ℕ)) (List SaidAt)) (made : BTreeMap (Bor (List ℕ)) MergedEnv) (name : List ℕ) → left.entries ≡ [] →
    IsMadeOf table frames all left made name → IsElementOf table (table_for name (below_seen frames made.entries)) (said_held frames all name)
made_all table frames all left made name empty before =
    subst (λ at. MatchOption at (IsElementOf table (table_for name (below_seen frames made.entries)) (said_held frames all name)) (λ said. said_held frames all name ≡ map (said_in frames) said))
    (ap (lookup (is_at (λ k. slice_cmp nat_cmp name k.now))) empty) before

-- ---- a table that is put under a name

pub put_tables : (frames : List Frame) (name : List ℕ) (old new : BTreeMap (Bor (List ℕ)) MergedEnv) (env : MergedEnv) → UpdatesBy name_cmp (λ k. slice_cmp nat_cmp name k.now) old new (Some env) → (other : List ℕ) →
    table_for other (below_seen frames new.entries) ≡ cond (bytes_eq name other) (merged_in frames env) (table_for other (below_seen frames old.entries))
put_tables frames name old new env updates other =
    sym (looked_up frames other new.entries) ∙ ap (merged_or frames) (after_update name old new (Some env) updates other)
    ∙ by (bytes_eq name other)
  where
    by : (b : Bool) → merged_or frames (cond b (Some env) (at_name old other)) ≡ cond b (merged_in frames env) (table_for other (below_seen frames old.entries))
    by true = refl
    by false = looked_up frames other old.entries

-- ---- a table that is merged of sources

left_sources : (frames : List Frame) (sources : List SourceAt) → map (left_of_source frames) sources ≡ map left_of (map unmarked (sources_in frames (map source_seen sources)))
left_sources frames [] = refl
left_sources frames (source ∷ sources) = ap (λ xs. left_of_source frames source ∷ xs) (left_sources frames sources)

pub merged_stands : {E : Type 0} (table : Table) (frames : List Frame) (env : MergedEnv) (lefts : List Left) (sources : List SourceAt) (value : Result (Option MergedValue) E) (redeclared : Result (Option RedeclaredAt) E)
    (below : Result (BTreeMap (Bor (List ℕ)) MergedEnv) E) → AreParts value redeclared below (out-MergedEnv env) → lefts ≡ map (left_of_source frames) sources →
    IfOk value (λ made. option_map (value_in frames) made ≡ value_left lefts) → redeclared ≡ Ok None →
    IfOk below (λ made. (name : List ℕ) → IsElementOf table (table_for name (below_seen frames made.entries)) (all_say table name lefts)) →
    StandsFor table (merged_in frames env) (sources_in frames (map source_seen sources))
merged_stands table frames env lefts sources value redeclared below parts made values none elements =
    stands_for table (merged_in frames env) (sources_in frames (map source_seen sources))
    (subst (IsMergedOf table (merged_in frames env)) (made ∙ left_sources frames sources) (merged_is table frames env lefts (rw parts.value_is at values) (rw parts.below_is at elements)))
    (redeclared_is frames env None (none_seen frames (out-MergedEnv env).redeclared (sym none ∙ parts.redeclared_is)))
