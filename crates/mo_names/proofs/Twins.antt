-- Frames that differ in their paths and owners alone have the same elements but for these, where nothing is added to the sources of a base and
-- the names of bases are not found among own elements.
use Rattle.std.proofs.Common.{◌≡◌, ℕ, ◌+◌, Bool, true, false, cond, ◌||◌, List, [], ◌∷◌, ◌++◌, length, map, Option, Some, None, Ok, Err, refl, sym, ap, ◌∙◌, arith, length-append}
use Rattle.std.specs.List.{list_any}
use Rattle.std.specs.Str.{bytes_eq}
use Rattle.std.proofs.lemmas.List.{map-append}
use Rattle.mo_syntax.specs.Outcome.{Outcome, and_then, breach}
use Rattle.mo_syntax.specs.declared.expr.Expr.{Expr}
use Rattle.mo_syntax.specs.declared.expr.PartOf.{PartOf}
use Rattle.mo_syntax.specs.declared.class.Element.{Element}
use Rattle.mo_syntax.specs.declared.place.Place.{Place}
use Rattle.mo_scope.specs.Rows.{Table, Row, row_at, elements_in, Modifiers, Declares, Clause, is_left_out, is_short_redeclaration, literals_in}
use Rattle.mo_scope.specs.Frames.{Frame, Top, In, Member, Source, at_of, class_of, gathered, owner_of_base, is_same_base, is_top, outer_of, sources_of, Elsewhere, Listed, Replacing}
use Rattle.mo_scope.specs.Parts.{added_sources, base_sources, clause_source, is_nothing, place_of_list, replacing_source, written}
use Rattle.mo_scope.specs.Lookup.{Asking, Inherited, Walked, base_class, base_frame, base_of, final_frame, found_from, leaf_of, hidden_if, is_counted, last_place, leaf_checked, members_from, named, not_counted, nothing_walked, or_leaf, own_members, through_base, with_base, with_member, with_members}
use Rattle.mo_scope.proofs.Numbered.{listed_gathered}
use Rattle.mo_names.specs.steps.Bases.{base_walked}
use Rattle.mo_names.specs.steps.Lookup.{own_inherited, started}
use Rattle.mo_names.specs.steps.Twins.{BeginsElsewhere, owned_by, owned_inherited, owned_outcome, owned_through, owned_walk, unowned}
use Rattle.mo_syntax.specs.declared.rules.TheConstants.{INHERITED_ELEMENTS_CLASH, OUTSIDE_PROFILE}

-- ---- what counts already

same_bases : (f g a b : Frame) → is_same_base (owned_by f a) (owned_by g b) ≡ is_same_base a b
same_bases f g Top Top = refl
same_bases f g Top (In class sources outer at owner) = refl
same_bases f g (In class sources outer at owner) Top = refl
same_bases f g (In class sources outer at owner) (In class' sources' outer' at' owner') = refl

same_none : (g b : Frame) → is_same_base Top (owned_by g b) ≡ is_same_base Top b
same_none g Top = refl
same_none g (In class sources outer at owner) = refl

final_same : (f g : Frame) (base : List Frame) (frame : Frame) → is_same_base (final_frame (owned_through f base)) (owned_by g frame) ≡ is_same_base (final_frame base) frame
final_same f g [] frame = same_none g frame
final_same f g (x ∷ []) frame = same_bases f g x frame
final_same f g (x ∷ y ∷ base) frame = final_same (owned_by f x) g (y ∷ base) frame

among_owned : (f g : Frame) (bases : List (List Frame)) (frame : Frame) →
    list_any (λ base. is_same_base (final_frame base) (owned_by g frame)) (map (owned_through f) bases) ≡ list_any (λ base. is_same_base (final_frame base) frame) bases
among_owned f g [] frame = refl
among_owned f g (base ∷ bases) frame =
    ap (λ (b : Bool). b || list_any (λ base. is_same_base (final_frame base) (owned_by g frame)) (map (owned_through f) bases)) (final_same f g base frame)
    ∙ ap (λ (b : Bool). is_same_base (final_frame base) frame || b) (among_owned f g bases frame)

counted_owned : (f g : Frame) (bases : List (List Frame)) (through : List Frame) → is_counted (map (owned_through f) bases) (owned_through g through) ≡ is_counted bases through
counted_owned f g bases [] = refl
counted_owned f g bases (frame ∷ through) =
    ap (λ (b : Bool). b || is_counted (map (owned_through f) bases) (owned_through (owned_by g frame) through)) (among_owned f g bases frame)
    ∙ ap (λ (b : Bool). list_any (λ base. is_same_base (final_frame base) frame) bases || b) (counted_owned f (owned_by g frame) bases through)

not_counted_map : {A B : Type 0} (f : A → B) (test : A → Bool) (test' : B → Bool) → ((x : A) → test' (f x) ≡ test x) → (xs : List A) → not_counted test' (map f xs) ≡ map f (not_counted test xs)
not_counted_map f test test' same [] = refl
not_counted_map f test test' same (x ∷ xs) =
    ap (λ b. cond b (not_counted test' (map f xs)) (f x ∷ not_counted test' (map f xs))) (same x) ∙ by (test x) (not_counted_map f test test' same xs)
  where
    by : (b : Bool) → not_counted test' (map f xs) ≡ map f (not_counted test xs) →
        cond b (not_counted test' (map f xs)) (f x ∷ not_counted test' (map f xs)) ≡ map f (cond b (not_counted test xs) (x ∷ not_counted test xs))
    by true rest = rest
    by false rest = ap (λ ys. f x ∷ ys) rest

-- ---- joining

map_both : {A B C D : Type 0} (f : A → B) (g : C → A) (f' : C → D) (g' : D → B) → ((x : C) → g' (f' x) ≡ f (g x)) → (xs : List C) → map g' (map f' xs) ≡ map f (map g xs)
map_both f g f' g' same [] = refl
map_both f g f' g' same (x ∷ xs) = ap (λ y. y ∷ map g' (map f' xs)) (same x) ∙ ap (λ ys. f (g x) ∷ ys) (map_both f g f' g' same xs)

named_owned : (f : Frame) (members : List Inherited) (name : List ℕ) →
    list_any (λ other. bytes_eq other.member.name name) (map (owned_inherited f) members) ≡ list_any (λ other. bytes_eq other.member.name name) members
named_owned f [] name = refl
named_owned f (other ∷ members) name = ap (λ (b : Bool). bytes_eq other.member.name name || b) (named_owned f members name)

pub member_owned : (f : Frame) (inherited : Inherited) (so_far : Walked) → with_member (owned_inherited f inherited) (owned_walk f so_far) ≡ owned_outcome f (with_member inherited so_far)
member_owned f inherited so_far =
    ap (λ b. cond b (Err (breach INHERITED_ELEMENTS_CLASH inherited.member.declares.place)) seen) (named_owned f so_far.members inherited.member.name)
    ∙ by (list_any (λ other. bytes_eq other.member.name inherited.member.name) so_far.members)
  where
    joined : Walked
    joined = record { members = so_far.members ++ inherited ∷ []; bases = so_far.bases; sections = so_far.sections; leaf = so_far.leaf }

    seen : Outcome Walked
    seen = Ok (record { members = map (owned_inherited f) so_far.members ++ owned_inherited f inherited ∷ []; bases = map (owned_through f) so_far.bases; sections = map (owned_through f) so_far.sections; leaf = None })

    by : (b : Bool) → cond b (Err (breach INHERITED_ELEMENTS_CLASH inherited.member.declares.place)) seen ≡ owned_outcome f (cond b (Err (breach INHERITED_ELEMENTS_CLASH inherited.member.declares.place)) (Ok joined))
    by true = refl
    by false = ap (λ (ms : List Inherited). Ok (record { members = ms; bases = map (owned_through f) so_far.bases; sections = map (owned_through f) so_far.sections; leaf = None })) (sym (map-append (owned_inherited f) so_far.members (inherited ∷ [])))

owned_then : (f : Frame) (o : Outcome Walked) (g h : Walked → Outcome Walked) → ((w : Walked) → g (owned_walk f w) ≡ owned_outcome f (h w)) → and_then (owned_outcome f o) g ≡ owned_outcome f (and_then o h)
owned_then f (Ok w) g h same = same w
owned_then f (Err b) g h same = refl

members_owned : (f : Frame) (members : List Inherited) (so_far : Walked) → with_members (map (owned_inherited f) members) (owned_walk f so_far) ≡ owned_outcome f (with_members members so_far)
members_owned f [] so_far = refl
members_owned f (inherited ∷ members) so_far =
    ap (λ (o : Outcome Walked). and_then o (with_members (map (owned_inherited f) members))) (member_owned f inherited so_far)
    ∙ owned_then f (with_member inherited so_far) (with_members (map (owned_inherited f) members)) (with_members members) (members_owned f members)

pub base_owned : (f : Frame) (hidden : Bool) (base : Frame) (walked so_far : Walked) →
    with_base hidden (owned_by f base) (owned_walk (owned_by f base) walked) (owned_walk f so_far) ≡ owned_outcome f (with_base hidden base walked so_far)
base_owned f hidden base walked so_far =
    ap (λ ms. with_members ms put) members
    ∙ ap (with_members (map (owned_inherited f) left)) before
    ∙ members_owned f left so_far_with
  where
    b : Frame
    b = owned_by f base

    before_bases : List (List Frame)
    before_bases = map (owned_through f) so_far.bases

    behind : Frame → Inherited → Inherited
    behind base inherited = hidden_if hidden (through_base base inherited)

    left : List Inherited
    left = not_counted (λ inherited. is_counted so_far.bases inherited.through) (map (behind base) walked.members)

    members : not_counted (λ inherited. is_counted before_bases inherited.through) (map (behind b) (map (owned_inherited b) walked.members)) ≡ map (owned_inherited f) left
    members =
        ap (not_counted (λ (inherited : Inherited). is_counted before_bases inherited.through))
        (map_both (owned_inherited f) (behind base) (owned_inherited b) (behind b) (λ x. refl) walked.members)
        ∙ not_counted_map (owned_inherited f) (λ (inherited : Inherited). is_counted so_far.bases inherited.through) (λ (inherited : Inherited). is_counted before_bases inherited.through)
        (λ (inherited : Inherited). counted_owned f f so_far.bases inherited.through) (map (behind base) walked.members)

    all : List (List Frame) → List (List Frame)
    all bases = not_counted (is_counted so_far.bases) bases

    counts : (bases : List (List Frame)) → not_counted (is_counted before_bases) (map (owned_through f) bases) ≡ map (owned_through f) (all bases)
    counts bases = not_counted_map (owned_through f) (is_counted so_far.bases) (is_counted before_bases) (counted_owned f f so_far.bases) bases

    behind_all : (bases : List (List Frame)) → map (λ x. b ∷ x) (map (owned_through b) bases) ≡ map (owned_through f) (map (λ x. base ∷ x) bases)
    behind_all bases = map_both (owned_through f) (λ x. base ∷ x) (owned_through b) (λ x. b ∷ x) (λ x. refl) bases

    so_far_with : Walked
    so_far_with = record {
      members = so_far.members;
      bases = so_far.bases ++ all ((base ∷ []) ∷ map (λ x. base ∷ x) walked.bases);
      sections = so_far.sections ++ all (map (λ x. base ∷ x) walked.sections ++ (base ∷ []) ∷ []);
      leaf = or_leaf so_far.leaf walked.leaf;
    }

    put : Walked
    put = record {
      members = map (owned_inherited f) so_far.members;
      bases = before_bases ++ not_counted (is_counted before_bases) ((b ∷ []) ∷ map (λ x. b ∷ x) (map (owned_through b) walked.bases));
      sections = map (owned_through f) so_far.sections ++ not_counted (is_counted before_bases) (map (λ x. b ∷ x) (map (owned_through b) walked.sections) ++ (b ∷ []) ∷ []);
      leaf = None;
    }

    bases : put.bases ≡ map (owned_through f) so_far_with.bases
    bases =
        ap (λ bs. before_bases ++ not_counted (is_counted before_bases) ((b ∷ []) ∷ bs)) (behind_all walked.bases)
        ∙ ap (λ bs. before_bases ++ bs) (counts ((base ∷ []) ∷ map (λ x. base ∷ x) walked.bases))
        ∙ sym (map-append (owned_through f) so_far.bases (all ((base ∷ []) ∷ map (λ x. base ∷ x) walked.bases)))

    sections : put.sections ≡ map (owned_through f) so_far_with.sections
    sections =
        ap (λ bs. map (owned_through f) so_far.sections ++ not_counted (is_counted before_bases) (bs ++ (b ∷ []) ∷ [])) (behind_all walked.sections)
        ∙ ap (λ bs. map (owned_through f) so_far.sections ++ not_counted (is_counted before_bases) bs) (sym (map-append (owned_through f) (map (λ x. base ∷ x) walked.sections) ((base ∷ []) ∷ [])))
        ∙ ap (λ bs. map (owned_through f) so_far.sections ++ bs) (counts (map (λ x. base ∷ x) walked.sections ++ (base ∷ []) ∷ []))
        ∙ sym (map-append (owned_through f) so_far.sections (all (map (λ x. base ∷ x) walked.sections ++ (base ∷ []) ∷ [])))

    before : put ≡ owned_walk f so_far_with
    before =
        ap (λ (bs : List (List Frame)). record { members = map (owned_inherited f) so_far.members; bases = bs; sections = put.sections; leaf = None }) bases
        ∙ ap (λ (bs : List (List Frame)). record { members = map (owned_inherited f) so_far.members; bases = map (owned_through f) so_far_with.bases; sections = bs; leaf = None }) sections

-- ---- the names of bases

other_frame : (frame other : Frame) (item : ℕ) (declared : List Declares) (name : List ℕ) → named name (members_from frame item declared) ≡ None → named name (members_from other item declared) ≡ None
other_frame frame other item [] name none = refl
other_frame frame other item (declares ∷ others) name none = by (bytes_eq declares.name name) none (other_frame frame other (item + 1) others name)
  where
    first : Frame → Member
    first f = record { name = declares.name; home = f; item = item; hidden = declares.flags.hidden; declares = declares }

    by : (b : Bool) → cond b (Some (first frame)) (named name (members_from frame (item + 1) others)) ≡ None →
        (named name (members_from frame (item + 1) others) ≡ None → named name (members_from other (item + 1) others) ≡ None) → cond b (Some (first other)) (named name (members_from other (item + 1) others)) ≡ None
    by true is rest = absurd cc
    by false is rest = rest is

pub class_of_twin : (frame : Frame) → class_of (unowned frame) ≡ class_of frame
class_of_twin Top = refl
class_of_twin (In class sources outer at owner) = refl

no_own : (table : Table) (frame other : Frame) (name : List ℕ) → class_of other ≡ class_of frame → named name (own_members table frame) ≡ None → named name (own_members table other) ≡ None
no_own table frame other name same none = by (row_at table (class_of frame)) refl
  where
    by : (row : Option Row) → row_at table (class_of frame) ≡ row → named name (own_members table other) ≡ None
    by None is = rw (same, is) refl
    by (Some row) is = rw (same, is) (other_frame frame other 0 (elements_in row.parts) name (rw is at none))

from_twin : (table : Table) (asking : Asking) (near : Bool) (frame : Frame) (place : Place) (name : List ℕ) → named name (own_members table frame) ≡ None →
    found_from table asking true near (unowned frame) place name ≡ found_from table asking true near frame place name
from_twin table asking near Top place name none = refl
from_twin table asking near (In class sources outer at owner) place name none =
    rw (none, no_own table (In class sources outer at owner) (In class sources outer None Top) name refl none) refl

pub class_twin : (table : Table) (asking : Asking) (frame : Frame) (clause : Clause) → BeginsElsewhere table frame clause.base.top clause.base.parts →
    base_class table asking (unowned frame) clause ≡ base_class table asking frame clause
class_twin table asking frame clause elsewhere = by clause.base.top clause.base.parts refl refl elsewhere
  where
    by : (top : Bool) (parts : List (PartOf Expr)) → clause.base.top ≡ top → clause.base.parts ≡ parts → BeginsElsewhere table frame top parts →
        base_class table asking (unowned frame) clause ≡ base_class table asking frame clause
    by top [] is have h = rw (is, have) refl
    by true (part ∷ parts) is have h = rw (is, have) refl
    by false (part ∷ parts) is have h = rw (is, have) (rw (from_twin table asking true frame part.place part.name h) refl)

elsewhere_twin : (table : Table) (frame : Frame) (top : Bool) (parts : List (PartOf Expr)) → BeginsElsewhere table (unowned frame) top parts → BeginsElsewhere table frame top parts
elsewhere_twin table frame true parts h = tt
elsewhere_twin table frame false [] h = tt
elsewhere_twin table frame false (part ∷ parts) h = no_own table (unowned frame) frame part.name (sym (class_of_twin frame)) h

-- ---- bases to whose sources nothing is added

impossible : {A B : Type 0} (x : A) (xs : List A) → length (x ∷ xs) ≡ 0 → B
impossible x xs none = absurd (omega arith)

sources_twin : (frame : Frame) → sources_of (unowned frame) ≡ sources_of frame
sources_twin Top = refl
sources_twin (In class sources outer at owner) = refl

no_replacing : (frame other : Frame) (row : Row) → length (replacing_source frame row) ≡ 0 → replacing_source other row ≡ []
no_replacing frame other row none = by row.replacing refl
  where
    one : List Element → Source
    one elements = record {
      piece = record { given = Replacing elements; pending = []; listing = record { place = row.class.place; passed = [] }; last = false; outside = false; origin = Elsewhere };
      scope = record { frame = frame; iterations = [] };
    }

    by : (elements : List Element) → row.replacing ≡ elements → replacing_source other row ≡ []
    by [] is = rw is refl
    by (element ∷ elements) is = impossible (one (element ∷ elements)) [] (rw is at none)

no_written : (frame other : Frame) (modifiers : Modifiers) → length (written frame [] Elsewhere modifiers) ≡ 0 → written other [] Elsewhere modifiers ≡ []
no_written frame other modifiers none = by (is_nothing modifiers) refl
  where
    one : Source
    one = record {
      piece = record { given = Listed modifiers; pending = []; listing = record { place = place_of_list modifiers; passed = [] }; last = false; outside = false; origin = Elsewhere };
      scope = record { frame = frame; iterations = [] };
    }

    by : (b : Bool) → is_nothing modifiers ≡ b → written other [] Elsewhere modifiers ≡ []
    by true is = rw is refl
    by false is = impossible one [] (rw is at none)

no_clause : (frame other : Frame) (row : Row) (clause : Clause) → length (clause_source frame row clause) ≡ 0 → clause_source other row clause ≡ []
no_clause frame other row clause none = by (is_short_redeclaration row) refl
  where
    by : (b : Bool) → is_short_redeclaration row ≡ b → clause_source other row clause ≡ []
    by true is = rw is refl
    by false is = rw is (no_written frame other (record { list = clause.mods.0; value = None }) (rw is at none))

nothing_left : {A : Type 0} (xs : List A) → length xs ≡ 0 → xs ≡ []
nothing_left [] none = refl
nothing_left (x ∷ xs) none = absurd (omega arith)

-- where nothing is added to the sources of one frame, nothing is to those of another
same_sources : (frame other : Frame) (row : Row) (clause : Clause) (class : Frame) → sources_of other ≡ sources_of frame → length (base_sources frame row clause class) ≡ length (sources_of frame) →
    base_sources other row clause class ≡ base_sources frame row clause class
same_sources frame other row clause class same none =
    let all : length (base_sources frame row clause class) ≡ length (sources_of frame) + length (added_sources frame row clause class) = length-append (sources_of frame) (added_sources frame row clause class) in
    let first : length (added_sources frame row clause class) ≡ length (replacing_source frame row ++ clause_source frame row clause) + length (sources_of class) =
    length-append (replacing_source frame row ++ clause_source frame row clause) (sources_of class) in
    let second : length (replacing_source frame row ++ clause_source frame row clause) ≡ length (replacing_source frame row) + length (clause_source frame row clause) =
    length-append (replacing_source frame row) (clause_source frame row clause) in
    let replacing : length (replacing_source frame row) ≡ 0 = omega (arith, all, first, second, none) in
    let clauses : length (clause_source frame row clause) ≡ 0 = omega (arith, all, first, second, none) in
    let mine : added_sources other row clause class ≡ sources_of class =
    ap (λ ss. (ss ++ clause_source other row clause) ++ sources_of class) (no_replacing frame other row replacing) ∙ ap (λ ss. ss ++ sources_of class) (no_clause frame other row clause clauses) in
    let yours : added_sources frame row clause class ≡ sources_of class =
    ap (λ ss. (ss ++ clause_source frame row clause) ++ sources_of class) (no_replacing frame frame row replacing) ∙ ap (λ ss. ss ++ sources_of class) (no_clause frame frame row clause clauses) in
    ap (λ ss. ss ++ added_sources other row clause class) same ∙ ap (λ ss. sources_of frame ++ ss) (mine ∙ sym yours)

-- the base frame of a frame by that of one that differs in its path and owner alone
pub base_of_twin : (table : Table) (asking : Asking) (frame : Frame) (row : Row) (clause : Clause) (base : Frame) → BeginsElsewhere table (unowned frame) clause.base.top clause.base.parts →
    base_of table asking (unowned frame) row clause ≡ Ok base → length (sources_of base) ≡ length (sources_of (unowned frame)) → base_of table asking frame row clause ≡ Ok (owned_by frame base)
base_of_twin table asking frame row clause base elsewhere is none =
    by (base_class table asking (unowned frame) clause) refl is
  where
    found : base_class table asking (unowned frame) clause ≡ base_class table asking frame clause
    found = class_twin table asking frame clause (elsewhere_twin table frame clause.base.top clause.base.parts elsewhere)

    by : (o : Outcome Frame) → base_class table asking (unowned frame) clause ≡ o → and_then o (λ class. Ok (base_frame (unowned frame) row clause class)) ≡ Ok base →
        base_of table asking frame row clause ≡ Ok (owned_by frame base)
    by (Err b) e is = absurd cc
    by (Ok class) e is =
        let same : base_frame (unowned frame) row clause class ≡ base = cc in
        let count : length (base_sources (unowned frame) row clause class) ≡ length (sources_of (unowned frame)) =
        sym (ap length (listed_gathered (base_sources (unowned frame) row clause class))) ∙ ap (λ (f : Frame). length (sources_of f)) same ∙ none in
        let sources : base_sources frame row clause class ≡ base_sources (unowned frame) row clause class = same_sources (unowned frame) frame row clause class (sym (sources_twin frame)) count in
        ap (λ (o : Outcome Frame). and_then o (λ class. Ok (base_frame frame row clause class))) (sym found ∙ e)
        ∙ ap (λ (ss : List Source). Ok (In (class_of class) (gathered ss) (outer_of class) (at_of frame) (owner_of_base frame))) sources
        ∙ ap (λ (b : Frame). Ok (owned_by frame b)) same

-- ---- one part, and a class

pub base_part_owned : (table : Table) (asking : Asking) (frame : Frame) (row : Row) (clause : Clause) (base : Frame) (walk so_far next : Walked) → BeginsElsewhere table (unowned frame) clause.base.top clause.base.parts →
    base_of table asking (unowned frame) row clause ≡ Ok base → length (sources_of base) ≡ length (sources_of (unowned frame)) →
    asking.elements (last_place clause.base.parts) (owned_by frame base) ≡ Ok (owned_walk (owned_by frame base) walk) → with_base clause.hidden base walk so_far ≡ Ok next →
    base_walked table asking frame (Some row) clause (owned_walk frame so_far) ≡ Ok (owned_walk frame next)
base_part_owned table asking frame row clause base walk so_far next elsewhere is none elements joined =
    ap (λ (o : Outcome Frame). and_then {A = Frame × Walked} (and_then o (λ base. and_then (asking.elements (last_place clause.base.parts) base) (λ walk. Ok (base, walk)))) (λ base. with_base clause.hidden base.0 base.1 (owned_walk frame so_far)))
    (base_of_twin table asking frame row clause base elsewhere is none)
    ∙ ap (λ (o : Outcome Walked). and_then {A = Frame × Walked} (and_then o (λ walk. Ok (owned_by frame base, walk))) (λ base. with_base clause.hidden base.0 base.1 (owned_walk frame so_far))) elements
    ∙ base_owned frame clause.hidden base walk so_far
    ∙ ap (owned_outcome frame) joined

pub own_part_owned : (frame : Frame) (item : ℕ) (declares : Declares) (so_far next : Walked) → with_member (own_inherited (unowned frame) item declares) so_far ≡ Ok next →
    with_member (own_inherited frame item declares) (owned_walk frame so_far) ≡ Ok (owned_walk frame next)
own_part_owned frame item declares so_far next joined = member_owned frame (own_inherited (unowned frame) item declares) so_far ∙ ap (owned_outcome frame) joined

pub started_owned : (frame : Frame) (row : Option Row) (begun : Walked) → started (unowned frame) row ≡ Ok begun → begun.leaf ≡ None → started frame row ≡ Ok (owned_walk frame begun)
started_owned frame None begun is none =
    let same : nothing_walked (Some (unowned frame)) ≡ begun = cc in
    let leaf : Some (unowned frame) ≡ begun.leaf = ap (λ (w : Walked). w.leaf) same in
    absurd (cc)
started_owned frame (Some row) begun is none = by (is_left_out row) (literals_in row.form) refl is
  where
    by : (b : Bool) (literals : Option (List (List ℕ))) → literals_in row.form ≡ literals → cond b (Err (breach OUTSIDE_PROFILE row.class.place)) (Ok (nothing_walked (leaf_of row (unowned frame)))) ≡ Ok begun →
        cond b (Err (breach OUTSIDE_PROFILE row.class.place)) (Ok (nothing_walked (leaf_of row frame))) ≡ Ok (owned_walk frame begun)
    by true literals have is = absurd cc
    by false None have is =
        let whole : Ok (nothing_walked None) ≡ Ok begun = rw have at is in
        let same : nothing_walked None ≡ begun = cc in
        rw have (ap (λ (w : Walked). Ok (owned_walk frame w)) same)
    by false (Some literals) have is =
        let whole : Ok (nothing_walked (Some (unowned frame))) ≡ Ok begun = rw have at is in
        let same : nothing_walked (Some (unowned frame)) ≡ begun = cc in
        let leaf : Some (unowned frame) ≡ begun.leaf = ap (λ (w : Walked). w.leaf) same in
        absurd cc

pub leaf_owned : (frame : Frame) (walked : Walked) → leaf_checked (owned_walk frame walked) ≡ Ok (owned_walk frame walked)
leaf_owned frame walked = refl

pub owned_is_twin : (frame base : Frame) → unowned base ≡ base → is_top base ≡ false → unowned (owned_by frame base) ≡ base
owned_is_twin frame Top is inside = absurd cc
owned_is_twin frame (In class sources outer at owner) is inside = is
