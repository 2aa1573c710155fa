-- The elements that a class declares itself, by their number.
use Rattle.std.specs.Prelude.{◌≡◌, List, [], Option, Some, None, slice_get}
use Rattle.mo_scope.specs.Frames.{Frame, Member, class_of}
use Rattle.mo_scope.specs.Rows.{Table, Row, Declares, elements_in, row_at}

-- what the class of a frame declares itself, none of a predefined type
abbrev pub own_declared : Table → Frame → List Declares
own_declared table frame = declared_in (row_at table (class_of frame))
  where
    declared_in : Option Row → List Declares
    declared_in None = []
    declared_in (Some row) = elements_in row.parts

-- The element is, of those that the class of its home declares itself, the one with so many before it as its number says. So two elements
-- with one home and one number are declared by the same; they may differ in whether inheritance hides them.
pub record IsOwnElement (table : Table) (member : Member) : Type 0 where
  pub declares : slice_get (own_declared table member.home) member.item ≡ Some member.declares
  pub name : member.name ≡ member.declares.name
