-- Where the class of a frame has no extends clause, its elements are the same whichever other classes are having their bases found.
use Rattle.std.proofs.Common.{◌≡◌, ℕ, ◌+◌, ◌<◌, Bool, true, false, List, [], ◌∷◌, Option, Some, None, Ok, Err, refl, ap, sym, ◌∙◌, arith}
use Rattle.std.specs.List.{list_any}
use Rattle.std.specs.Prelude.{◌++◌, ◌-◌, not, if◌then◌else◌}
use Rattle.mo_syntax.specs.Outcome.{Outcome, and_then, breaks}
use Rattle.mo_syntax.specs.declared.place.Place.{Place}
use Rattle.mo_syntax.specs.declared.rules.TheConstants.{OUTSIDE_PROFILE}
use Rattle.mo_scope.specs.Extending.{is_clause, is_extending}
use Rattle.mo_scope.specs.Rows.{Table, Row, Part, Element_of, Base_of, clauses_in, is_left_out, number_of_classes, row_at}
use Rattle.mo_scope.specs.Frames.{Frame, class_of}
use Rattle.mo_scope.specs.Lookup.{Walked, Asking, asking_of, contains, leaf_checked, leaf_of, nothing_walked, walked_class, walked_parts, with_member, asking_at}
use Rattle.mo_scope.specs.Names.{clauses_of}
use Rattle.mo_names.proofs.Circling.{walked_further}

parts_alike : (table : Table) (a b : Asking) (frame : Frame) (row : Row) (item : ℕ) (parts : List Part) (so_far : Walked) → clauses_in parts ≡ [] →
    walked_parts table a frame row item parts so_far ≡ walked_parts table b frame row item parts so_far
parts_alike table a b frame row item [] so_far none = refl
parts_alike table a b frame row item (Element_of declares ∷ parts) so_far none =
    by (with_member (record { member = record { name = declares.name; home = frame; item = item; hidden = declares.flags.hidden; declares = declares }; through = [] }) so_far)
    (λ w. parts_alike table a b frame row (item + 1) parts w none)
  where
    by : (o : Outcome Walked) → ((w : Walked) → walked_parts table a frame row (item + 1) parts w ≡ walked_parts table b frame row (item + 1) parts w) →
        and_then o (walked_parts table a frame row (item + 1) parts) ≡ and_then o (walked_parts table b frame row (item + 1) parts)
    by (Ok w) rest = rest w
    by (Err broken) rest = refl
parts_alike table a b frame row item (Base_of clause ∷ parts) so_far none = absurd (cc)

clauses_row : (table : Table) (frame : Frame) (row : Row) → row_at table (class_of frame) ≡ Some row → clauses_of table frame ≡ clauses_in row.parts
clauses_row table frame row e = rw e refl

class_alike : (table : Table) (a b : Asking) (frame : Frame) → clauses_of table frame ≡ [] → walked_class table a frame (row_at table (class_of frame)) ≡ walked_class table b frame (row_at table (class_of frame))
class_alike table a b frame none = by (row_at table (class_of frame)) refl
  where
    by : (o : Option Row) → row_at table (class_of frame) ≡ o → walked_class table a frame o ≡ walked_class table b frame o
    by None e = refl
    by (Some row) e = ap (λ (o : Outcome Walked). if is_left_out row then breaks OUTSIDE_PROFILE row.class.place else and_then o leaf_checked)
        (parts_alike table a b frame row 0 row.parts (nothing_walked (leaf_of row frame)) (sym (clauses_row table frame row e) ∙ none))

pub elements_alike : (table : Table) (left : ℕ) (busy : List ℕ) (place : Place) (frame : Frame) → 0 < left → contains busy (class_of frame) ≡ false → clauses_of table frame ≡ [] →
    (asking_at table left busy).elements place frame ≡ (asking_of table).elements place frame
elements_alike table left busy place frame some idle none =
    sym (walked_further table left busy place frame some idle) ∙ class_alike table (asking_at table (left - 1) (busy ++ class_of frame ∷ [])) (asking_at table (number_of_classes table - 1) ([] ++ class_of frame ∷ [])) frame none
    ∙ walked_further table (number_of_classes table) [] place frame (omega arith) refl

-- a class that is not extending has none
no_clauses : (parts : List Part) → list_any is_clause parts ≡ false → clauses_in parts ≡ []
no_clauses [] none = refl
no_clauses (Element_of declares ∷ parts) none = no_clauses parts none
no_clauses (Base_of clause ∷ parts) none = absurd (cc)

pub row_alone : (table : Table) (frame : Frame) → is_extending (row_at table (class_of frame)) ≡ false → clauses_of table frame ≡ []
row_alone table frame none = by (row_at table (class_of frame)) refl
  where
    by : (o : Option Row) → row_at table (class_of frame) ≡ o → clauses_of table frame ≡ []
    by None e = rw e refl
    by (Some row) e = clauses_row table frame row e ∙ no_clauses row.parts (sym (ap is_extending e) ∙ none)

pub is_false : (b : Bool) → not b ≡ true → b ≡ false
is_false true is = absurd (cc)
is_false false is = refl
