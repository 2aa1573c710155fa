-- What stands first in the text of the parts of a class.
use Rattle.std.specs.Prelude.{Bool, true, false, ◌||◌, List, [], ◌∷◌, flat_map, filter, map, Option, Some, None, if◌then◌else◌, nat_lt, option_map}
use Rattle.mo_syntax.specs.declared.class.Element.{Element}
use Rattle.mo_syntax.specs.declared.class.ElementFlags.{ElementFlags}
use Rattle.mo_syntax.specs.declared.class.Item.{Item}
use Rattle.mo_syntax.specs.declared.place.Place.{Place}
use Rattle.mo_scope.specs.Rows.{Table, Declares, Part, Element_of, Base_of, is_class, replacing_in}
use Rattle.mo_scope.specs.Parts.{declared_in}
use Rattle.mo_instance.specs.Checks.{first_in_text, is_inner_or_outer}

abbrev pub earlier_place : Option Place → Option Place → Option Place
earlier_place None other = other
earlier_place (Some place) None = Some place
earlier_place (Some place) (Some other) = if nat_lt other.byte place.byte then Some other else Some place

abbrev pub wrong_at : ElementFlags → Place → Option Place
wrong_at flags place = if flags.inner || flags.outer then Some place else None

-- the place of what is declared wrongly with `inner` or `outer`
abbrev pub wrong_place : Declares → Option Place
wrong_place declares = wrong_at declares.flags declares.place

-- the place of the one that stands first among those that are declared wrongly
abbrev pub first_wrong : List Declares → Option Place
first_wrong declared = option_map (λ one. one.place) (first_in_text (filter is_inner_or_outer declared))

abbrev pub place_in_part : Part → Option Place
place_in_part (Element_of declares) = if is_class declares then wrong_place declares else None
place_in_part (Base_of clause) = None

-- the elements with `redeclare` among items
abbrev pub wrong_items : Table → List Item → Option Place
wrong_items table items = first_wrong (map (declared_in table) (flat_map replacing_in items))

-- the classes among parts, and a place behind them
abbrev pub wrong_parts : List Part → Option Place → Option Place
wrong_parts [] behind = behind
wrong_parts (part ∷ parts) behind = earlier_place (place_in_part part) (wrong_parts parts behind)

abbrev pub part_is_base : Part → Bool
part_is_base (Element_of declares) = false
part_is_base (Base_of clause) = true

abbrev pub first_replaced : Table → List Element → Option Place
first_replaced table [] = None
first_replaced table (element ∷ others) = Some (declared_in table element).place
