-- What stands first in the text of the parts of a class.
use Rattle.std.proofs.Common.{◌≡◌, Bool, true, false, List, [], ◌∷◌, ◌++◌, Option, Some, None, refl, ap, sym, ◌∙◌}
use Rattle.std.specs.List.{list_any}
use Rattle.std.specs.Prelude.{filter, if◌then◌else◌, nat_lt, option_map}
use Rattle.mo_syntax.specs.Outcome.{breaks}
use Rattle.mo_syntax.specs.declared.class.Element.{Element}
use Rattle.mo_syntax.specs.declared.place.Place.{Place}
use Rattle.mo_scope.specs.Parts.{declared_in}
use Rattle.mo_scope.specs.Redeclarations.{fine}
use Rattle.mo_scope.specs.Rows.{Table, Declares, Part, Element_of, Base_of, is_class, clauses_in, elements_in}
use Rattle.mo_instance.specs.Checks.{earlier_of, first_in_text, is_inner_or_outer, unless_any, unless_bases}
use Rattle.mo_instance.specs.steps.Firsts.{earlier_place, first_replaced, first_wrong, part_is_base, place_in_part, wrong_parts, wrong_place}
use Rattle.mo_syntax.specs.declared.rules.TheConstants.{OUTSIDE_PROFILE, MODIFIED_ELEMENT_NOT_FOUND}

place_of_earlier : (declares : Declares) (o : Option Declares) → option_map (λ one. one.place) (earlier_of declares o) ≡ earlier_place (Some declares.place) (option_map (λ one. one.place) o)
place_of_earlier declares None = refl
place_of_earlier declares (Some other) = by (nat_lt other.place.byte declares.place.byte)
  where
    by : (b : Bool) → option_map (λ (one : Declares). one.place) (if b then Some other else Some declares) ≡ (if b then Some other.place else Some declares.place)
    by true = refl
    by false = refl

-- one more in front
pub first_step : (declares : Declares) (others : List Declares) → first_wrong (declares ∷ others) ≡ earlier_place (wrong_place declares) (first_wrong others)
first_step declares others = by (is_inner_or_outer declares)
  where
    by : (b : Bool) → option_map (λ (one : Declares). one.place) (first_in_text (if b then declares ∷ filter is_inner_or_outer others else filter is_inner_or_outer others))
        ≡ earlier_place (if b then Some declares.place else None) (first_wrong others)
    by true = place_of_earlier declares (first_in_text (filter is_inner_or_outer others))
    by false = refl

-- a part in front
part_step : (part : Part) (parts : List Part) (behind : List Declares) →
    first_wrong (filter is_class (elements_in (part ∷ parts)) ++ behind) ≡ earlier_place (place_in_part part) (first_wrong (filter is_class (elements_in parts) ++ behind))
part_step (Base_of clause) parts behind = refl
part_step (Element_of declares) parts behind = by (is_class declares)
  where
    by : (b : Bool) → first_wrong ((if b then declares ∷ filter is_class (elements_in parts) else filter is_class (elements_in parts)) ++ behind)
        ≡ earlier_place (if b then wrong_place declares else None) (first_wrong (filter is_class (elements_in parts) ++ behind))
    by true = first_step declares (filter is_class (elements_in parts) ++ behind)
    by false = refl

pub parts_first : (parts : List Part) (behind : List Declares) → wrong_parts parts (first_wrong behind) ≡ first_wrong (filter is_class (elements_in parts) ++ behind)
parts_first [] behind = refl
parts_first (part ∷ parts) behind = ap (earlier_place (place_in_part part)) (parts_first parts behind) ∙ sym (part_step part parts behind)

pub wrong_breaks : (declared : List Declares) (place : Place) → first_wrong declared ≡ Some place → unless_any (first_in_text (filter is_inner_or_outer declared)) ≡ breaks OUTSIDE_PROFILE place
wrong_breaks declared place is = by (first_in_text (filter is_inner_or_outer declared)) is
  where
    by : (o : Option Declares) → option_map (λ (one : Declares). one.place) o ≡ Some place → unless_any o ≡ breaks OUTSIDE_PROFILE place
    by None is = cc
    by (Some one) is = cc

pub none_breaks : (declared : List Declares) → first_wrong declared ≡ None → unless_any (first_in_text (filter is_inner_or_outer declared)) ≡ fine
none_breaks declared is = by (first_in_text (filter is_inner_or_outer declared)) is
  where
    by : (o : Option Declares) → option_map (λ (one : Declares). one.place) o ≡ None → unless_any o ≡ fine
    by None is = refl
    by (Some one) is = cc

-- ---- elements with `redeclare`, and bases

pub some_bases : (table : Table) (parts : List Part) (replacing : List Element) → list_any part_is_base parts ≡ true → unless_bases table (clauses_in parts) replacing ≡ fine
some_bases table [] replacing is = cc
some_bases table (Element_of declares ∷ parts) replacing is = some_bases table parts replacing is
some_bases table (Base_of clause ∷ parts) replacing is = refl

no_clauses : (parts : List Part) → list_any part_is_base parts ≡ false → clauses_in parts ≡ []
no_clauses [] is = refl
no_clauses (Element_of declares ∷ parts) is = no_clauses parts is
no_clauses (Base_of clause ∷ parts) is = cc

pub first_breaks : (table : Table) (parts : List Part) (replacing : List Element) (place : Place) → list_any part_is_base parts ≡ false → Some place ≡ first_replaced table replacing →
    unless_bases table (clauses_in parts) replacing ≡ breaks MODIFIED_ELEMENT_NOT_FOUND place
first_breaks table parts [] place is first = cc
first_breaks table parts (element ∷ others) place is first = let same : place ≡ (declared_in table element).place = cc in rw (no_clauses parts is, same) refl

pub none_replaced : (table : Table) (parts : List Part) (replacing : List Element) → list_any part_is_base parts ≡ false → None ≡ first_replaced table replacing →
    unless_bases table (clauses_in parts) replacing ≡ fine
none_replaced table parts [] is first = rw (no_clauses parts is) refl
none_replaced table parts (element ∷ others) is first = cc
