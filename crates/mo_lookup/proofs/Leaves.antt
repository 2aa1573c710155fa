-- The first base of leaf type, one clause after another.
use Rattle.std.proofs.Common.{◌≡◌, ℕ, zero, suc, ◌+◌, ◌<◌, Bool, true, false, List, [], ◌∷◌, length, drop, Option, Some, None, Ok, Err, refl, ap, sym, subst, ◌∙◌, add-one, arith}
use Rattle.std.specs.Prelude.{if◌then◌else◌, slice_get}
use Rattle.mo_syntax.specs.Outcome.{Outcome}
use Rattle.mo_scope.specs.Frames.{Frame}
use Rattle.mo_scope.specs.Names.{base_frame_of, clauses_of, walk_of}
use Rattle.mo_scope.specs.Rows.{Table, Clause}
use Rattle.mo_scope.specs.Sizes.{is_leaf, leaf_base}
use Rattle.mo_scope.specs.Worlds.{Grows, IsFrame, World, frame_at, table_in}
use Rattle.mo_names.proofs.Later.{frame_later, table_later}
use Rattle.mo_lookup.specs.steps.Leaves.{base_if_leaf}

-- ---- the first base of leaf type

leaf_here : (table : Table) (frame base : Frame) (clause : Clause) (clauses : List Clause) →
    base_if_leaf table (base_frame_of table frame clause) ≡ Some base → leaf_base table frame (clause ∷ clauses) ≡ Some base
leaf_here table frame base clause clauses is = by (base_frame_of table frame clause) refl is
  where
    by_leaf : (b : Bool) (o : Frame) → (if b then Some o else None) ≡ Some base → (if b then Some o else leaf_base table frame clauses) ≡ Some base
    by_leaf true o is = is
    by_leaf false o is = cc

    by : (o : Outcome Frame) → base_frame_of table frame clause ≡ o → base_if_leaf table o ≡ Some base → leaf_base table frame (clause ∷ clauses) ≡ Some base
    by (Ok o) e is = rw e (by_leaf (is_leaf (walk_of table o)) o is)
    by (Err b) e is = cc

leaf_further : (table : Table) (frame : Frame) (clause : Clause) (clauses : List Clause) →
    base_if_leaf table (base_frame_of table frame clause) ≡ None → leaf_base table frame clauses ≡ leaf_base table frame (clause ∷ clauses)
leaf_further table frame clause clauses is = by (base_frame_of table frame clause) refl is
  where
    by_leaf : (b : Bool) (o : Frame) → (if b then Some o else None) ≡ None → leaf_base table frame clauses ≡ (if b then Some o else leaf_base table frame clauses)
    by_leaf true o is = cc
    by_leaf false o is = refl

    by : (o : Outcome Frame) → base_frame_of table frame clause ≡ o → base_if_leaf table o ≡ None → leaf_base table frame clauses ≡ leaf_base table frame (clause ∷ clauses)
    by (Ok o) e is = rw e (by_leaf (is_leaf (walk_of table o)) o is)
    by (Err b) e is = rw e refl

-- ---- the clauses that are left

read_at : {A : Type 0} (xs : List A) (i : ℕ) → i < length xs → (x : A) × (slice_get xs i ≡ Some x)
read_at [] i below = absurd (omega (arith, below))
read_at (x ∷ xs) zero below = (x, refl)
read_at (x ∷ xs) (suc i) below = read_at xs i (omega (arith, below))

read_on : {A : Type 0} (xs : List A) (i : ℕ) (x : A) → slice_get xs i ≡ Some x → drop i xs ≡ x ∷ drop (suc i) xs
read_on {A = A} [] i x is = absurd (let e : ◌≡◌ {A = Option A} None (Some x) = is in cc)
read_on (y ∷ xs) zero x is = let same : y ≡ x = cc in ap (λ z. z ∷ xs) same
read_on (y ∷ xs) (suc i) x is = read_on xs i x is

read_drop : {A : Type 0} (xs : List A) (i : ℕ) (x : A) → slice_get xs i ≡ Some x → drop i xs ≡ x ∷ drop (i + 1) xs
read_drop xs i x is = rw (add-one i) (read_on xs i x is)

module _ (table : Table) (frame : Frame) (clauses : List Clause) (i : ℕ) (found : Option Frame) (below : i < length clauses)
    (is : (extends : Clause) → slice_get clauses i ≡ Some extends → found ≡ base_if_leaf table (base_frame_of table frame extends)) where
  pub leaf_found : (base : Frame) → found ≡ Some base → leaf_base table frame (drop i clauses) ≡ Some base
  leaf_found base some =
      let at = read_at clauses i below in
      ap (leaf_base table frame) (read_drop clauses i at.0 at.1)
      ∙ leaf_here table frame base at.0 (drop (i + 1) clauses) (sym (is at.0 at.1) ∙ some)

  pub leaf_passed : found ≡ None → leaf_base table frame (drop (i + 1) clauses) ≡ leaf_base table frame (drop i clauses)
  leaf_passed none =
      let at = read_at clauses i below in
      leaf_further table frame at.0 (drop (i + 1) clauses) (sym (is at.0 at.1) ∙ none)
      ∙ sym (ap (leaf_base table frame) (read_drop clauses i at.0 at.1))

-- what was told of a clause in a later world
abbrev pub LeafTold : Table → Frame → ℕ → Option Frame → Type 0
LeafTold table frame i found = (extends : Clause) → slice_get (clauses_of table frame) i ≡ Some extends → found ≡ base_if_leaf table (base_frame_of table frame extends)

pub leaf_told : (u v : World) (frame i : ℕ) (found : Option Frame) → Grows u v → IsFrame u frame → LeafTold (table_in v) (frame_at v frame) i found → LeafTold (table_in u) (frame_at u frame) i found
leaf_told u v frame i found g is told =
    subst (λ (f : Frame). LeafTold (table_in u) f i found) (frame_later u v frame g is)
    (subst (λ (t : Table). LeafTold t (frame_at v frame) i found) (table_later u v g) told)
