-- The dimensions of types stand where the class table and the frame of the type do.
use Rattle.std.proofs.Common.{◌≡◌, ℕ, zero, suc, Bool, true, false, List, [], ◌∷◌, Option, Some, None, Ok, Err, refl, if◌then◌else◌}
use Rattle.std.specs.Prelude.{unwrap_or}
use Rattle.mo_scope.specs.Frames.{Frame, class_of}
use Rattle.mo_scope.specs.Names.{base_frame_of, clauses_of, walk_of}
use Rattle.mo_scope.specs.Rows.{Base_of, Clause, Element_of, Enumeration_class, Form, Long_class, Other_class, Part, Row, Short_class, Table, clauses_in, number_of_classes, row_at}
use Rattle.mo_scope.specs.Lookup.{contains, with_busy}
use Rattle.mo_scope.specs.Sizes.{Sizes, behind_own, first_base, is_leaf, leaf_base, sizes_by, sizes_from, sizes_if, sizes_of_base, sizes_of_form, sizes_of_short}
use Rattle.mo_places.specs.Stands.{Answers, ClauseStands, Every, FormStands, FrameStands, IfAny, PartStands, RowStands, TableStands}
use Rattle.mo_places.specs.Written.{Written}
use Rattle.mo_places.proofs.laws.Measuring.{SizesStand, TypeSizesStand, sizes_if_stand, subs_values}
use Rattle.mo_places.proofs.laws.Naming.{base_frame_of_stands}
use Rattle.mo_places.proofs.laws.Sources.{row_stands}
use Rattle.mo_places.proofs.laws.Standing.{every_append}
use Rattle.mo_syntax.specs.Outcome.{Outcome}

clauses_in_stand : (P : Written → Type 0) (parts : List Part) → Every (PartStands P) parts → Every (ClauseStands P) (clauses_in parts)
clauses_in_stand P [] h = tt
clauses_in_stand P (Element_of declares ∷ parts) h = clauses_in_stand P parts h.1
clauses_in_stand P (Base_of clause ∷ parts) h = (h.0, clauses_in_stand P parts h.1)

module _ (P : Written → Type 0) (table : Table) (stands : TableStands P table) where
  pub clauses_of_stand : (frame : Frame) → Every (ClauseStands P) (clauses_of table frame)
  clauses_of_stand frame = by (row_at table (class_of frame)) refl (row_stands P table stands (class_of frame))
    where
      by : (row : Option Row) → row_at table (class_of frame) ≡ row → IfAny (RowStands P) row → Every (ClauseStands P) (clauses_of table frame)
      by None is h = rw is tt
      by (Some row) is h = rw is (clauses_in_stand P row.parts h.parts)

  -- the base of a clause, where one is found
  abbrev BaseStands : Outcome Frame → Type 0
  BaseStands (Ok base) = FrameStands P base
  BaseStands (Err broken) = Unit {0}

  base_stands : (outcome : Outcome Frame) → Answers P (FrameStands P) outcome → BaseStands outcome
  base_stands (Ok base) h = h.holds
  base_stands (Err broken) h = tt

  pub first_base_answers : (frame : Frame) (clauses : List Clause) → FrameStands P frame → Every (ClauseStands P) clauses → Answers P (FrameStands P) (first_base table frame clauses)
  first_base_answers frame [] hf h = record { holds = hf }
  first_base_answers frame (clause ∷ clauses) hf h = base_frame_of_stands P table stands frame clause hf h.0

  leaf_base_stands : (frame : Frame) (clauses : List Clause) → FrameStands P frame → Every (ClauseStands P) clauses → IfAny (FrameStands P) (leaf_base table frame clauses)
  leaf_base_stands frame [] hf h = tt
  leaf_base_stands frame (clause ∷ clauses) hf h =
      by (base_frame_of table frame clause) refl (base_stands (base_frame_of table frame clause) (base_frame_of_stands P table stands frame clause hf h.0)) (leaf_base_stands frame clauses hf h.1)
    where
      either : (b : Bool) (base : Frame) (others : Option Frame) → FrameStands P base → IfAny (FrameStands P) others → IfAny (FrameStands P) (if b then Some base else others)
      either true base others hb ho = hb
      either false base others hb ho = ho

      by : (outcome : Outcome Frame) → base_frame_of table frame clause ≡ outcome → BaseStands outcome → IfAny (FrameStands P) (leaf_base table frame clauses) → IfAny (FrameStands P) (leaf_base table frame (clause ∷ clauses))
      by (Ok base) is hb ho = rw is (either (is_leaf (walk_of table base)) base (leaf_base table frame clauses) hb ho)
      by (Err broken) is hb ho = rw is ho

  -- the dimensions on a way, where it does not come back
  abbrev WayStands : Option (List Sizes) → Type 0
  WayStands None = Unit {0}
  WayStands (Some sizes) = Every (SizesStand P) sizes

  abbrev NextStands : (Frame → Option (List Sizes)) → Type 0
  NextStands next = (frame : Frame) → FrameStands P frame → WayStands (next frame)

  if_way : (b : Bool) (way other : Option (List Sizes)) → WayStands way → WayStands other → WayStands (if b then way else other)
  if_way true way other h ho = h
  if_way false way other h ho = ho

  own_way : (own : List Sizes) (way : Option (List Sizes)) → Every (SizesStand P) own → WayStands way → WayStands (behind_own own way)
  own_way own None ho h = tt
  own_way own (Some sizes) ho h = every_append (SizesStand P) own sizes ho h

  base_sizes_stand : (next : Frame → Option (List Sizes)) (base : Option Frame) → NextStands next → IfAny (FrameStands P) base → WayStands (sizes_of_base next base)
  base_sizes_stand next None hn h = tt
  base_sizes_stand next (Some base) hn h = hn base h

  short_sizes_stand : (next : Frame → Option (List Sizes)) (own : List Sizes) (base : Outcome Frame) → NextStands next → Every (SizesStand P) own → BaseStands base → WayStands (sizes_of_short next own base)
  short_sizes_stand next own (Ok base) hn ho h = own_way own (next base) ho (hn base h)
  short_sizes_stand next own (Err broken) hn ho h = tt

  form_sizes_stand : (next : Frame → Option (List Sizes)) (frame : Frame) (form : Form) → NextStands next → FrameStands P frame → FormStands P form → WayStands (sizes_of_form table next frame form)
  form_sizes_stand next frame (Short_class causal subs) hn hf h =
      short_sizes_stand next (sizes_if subs (record { frame = frame; iterations = [] })) (first_base table frame (clauses_of table frame)) hn
      (sizes_if_stand P subs (record { frame = frame; iterations = [] }) (subs_values P subs h) hf) (base_stands (first_base table frame (clauses_of table frame)) (first_base_answers frame (clauses_of table frame) hf (clauses_of_stand frame)))
  form_sizes_stand next frame Long_class hn hf h =
      if_way (is_leaf (walk_of table frame)) _ (Some []) (base_sizes_stand next (leaf_base table frame (clauses_of table frame)) hn (leaf_base_stands frame (clauses_of table frame) hf (clauses_of_stand frame))) tt
  form_sizes_stand next frame (Enumeration_class literals) hn hf h = tt
  form_sizes_stand next frame Other_class hn hf h = tt

  row_sizes_stand : (next : Frame → Option (List Sizes)) (frame : Frame) (row : Option Row) → NextStands next → FrameStands P frame → IfAny (RowStands P) row → WayStands (sizes_by table next frame row)
  row_sizes_stand next frame None hn hf h = tt
  row_sizes_stand next frame (Some row) hn hf h = form_sizes_stand next frame row.form hn hf h.form

  sizes_from_stand : (left : ℕ) (busy : List ℕ) → NextStands (sizes_from table left busy)
  unfolding sizes_from
  sizes_from_stand zero busy = λ frame hf. tt
  sizes_from_stand (suc left) busy = λ frame hf.
      if_way (contains busy (class_of frame)) None _ tt
      (row_sizes_stand (sizes_from table left (with_busy busy frame)) frame (row_at table (class_of frame)) (sizes_from_stand left (with_busy busy frame)) hf (row_stands P table stands (class_of frame)))

  way_or_none : (way : Option (List Sizes)) → WayStands way → Every (SizesStand P) (unwrap_or way [])
  way_or_none None h = tt
  way_or_none (Some sizes) h = h

  pub type_sizes_stand : TypeSizesStand P table
  type_sizes_stand = λ frame hf. way_or_none (sizes_from table (number_of_classes table) [] frame) (sizes_from_stand (number_of_classes table) [] frame hf)
