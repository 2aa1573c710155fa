-- The elements that classes declare themselves.
use Rattle.std.proofs.Common.{◌≡◌, ℕ, ◌+◌, ◌<◌, Bool, List, [], ◌∷◌, map, Option, None, Some, refl, ap, sym, subst, ◌∙◌}
use Rattle.std.specs.Prelude.{◌&&◌, option_map, IfSome}
use Rattle.std.specs.List.{list_all}
use Rattle.mo_scope.specs.declared.row.Member.{Member as MemberAt}
use Rattle.mo_scope.specs.declared.row.Part.{Part as PartAt}
use Rattle.mo_scope.specs.declared.row.Row.{Row as RowAt}
use Rattle.mo_scope.specs.Frames.{Frame, class_of}
use Rattle.mo_scope.specs.Lookup.{counts_in_package, members_from, named, own_members}
use Rattle.mo_scope.specs.Open.{is_open_declares}
use Rattle.mo_scope.specs.Own.{own_declared}
use Rattle.mo_scope.specs.Rows.{Table, Row, Declares, class_number, elements_in, number_of_classes, row_at}
use Rattle.mo_scope.specs.Sights.{declares_seen, member_at, part_seen, row_seen}
use Rattle.mo_scope.specs.Worlds.{World, IsFrame, frame_at, table_in}
use Rattle.mo_names.specs.Sights.{IsMember}
use Rattle.mo_names.proofs.OwnElements.{named_own}

-- whether elements may stand in a package is told by what declares them
pub open_members : (frame : Frame) (item : ℕ) (xs : List Declares) → list_all counts_in_package (members_from frame item xs) ≡ list_all is_open_declares xs
open_members frame item [] = refl
open_members frame item (x ∷ xs) = ap (λ (b : Bool). is_open_declares x && b) (open_members frame (item + 1) xs)

own_of_row : (table : Table) (frame : Frame) (row : Row) → row_at table (class_of frame) ≡ Some row → own_members table frame ≡ members_from frame 0 (elements_in row.parts)
own_of_row table frame row e = rw e refl

pub open_row : (table : Table) (frame : Frame) (class : ℕ) (row : RowAt) (parts : List PartAt) (r : Bool) → class ≡ class_of frame → Some (row_seen row) ≡ row_at table class → parts ≡ row.parts →
    r ≡ list_all is_open_declares (elements_in (map part_seen parts)) → r ≡ list_all counts_in_package (own_members table frame)
open_row table frame class row parts r is at same said =
    said ∙ ap (λ (xs : List PartAt). list_all is_open_declares (elements_in (map part_seen xs))) same
    ∙ sym (open_members frame 0 (elements_in (map part_seen row.parts)))
    ∙ ap (list_all counts_in_package) (sym (own_of_row table frame (row_seen row) (ap (row_at table) (sym is) ∙ sym at)))

-- the elements that a class declares itself, in their order
own_listed : (table : Table) (frame : Frame) → own_members table frame ≡ members_from frame 0 (own_declared table frame)
own_listed table frame = by (row_at table (class_of frame)) refl
  where
    by : (o : Option Row) → row_at table (class_of frame) ≡ o → own_members table frame ≡ members_from frame 0 (own_declared table frame)
    by None e = rw e refl
    by (Some row) e = rw e refl

pub own_stands : (world : World) (n : ℕ) (name : List ℕ) (found : Option MemberAt) → IsFrame world n → option_map (member_at world) found ≡ named name (own_members (table_in world) (frame_at world n)) →
    IfSome found (λ member. member.home.0 ≡ n) → IfSome found (λ member. class_number (declares_seen member.declares) < number_of_classes (table_in world)) → IfSome found (IsMember world)
own_stands world n name None stands is home class = tt
own_stands world n name (Some member) stands is home class = record {
  home = subst (IsFrame world) (sym home) stands;
  class = class;
  own = named_own (table_in world) (frame_at world n) (own_declared (table_in world) (frame_at world n)) name (member_at world member) refl (ap (frame_at world) home)
      (ap (named name) (sym (own_listed (table_in world) (frame_at world n))) ∙ sym is);
}
