-- The ends of connects, by what they name and select.
use Rattle.std.specs.Prelude.{IfOk}
use Rattle.std.proofs.Common.{◌≡◌, ℕ, ℤ, List, [], ◌∷◌, map, Option, Some, None, Result, Ok, Err, refl, ap, sym, ◌∙◌}
use Rattle.mo_syntax.specs.Outcome.{IfBroken, Outcome, and_then}
use Rattle.mo_syntax.specs.declared.expr.Expr.{Expr}
use Rattle.mo_syntax.specs.declared.expr.ReferenceOf.{ReferenceOf}
use Rattle.mo_syntax.specs.declared.meaning.Kind.{Kind}
use Rattle.mo_syntax.specs.declared.meaning.Kind.TheVariants.{Real}
use Rattle.mo_syntax.specs.declared.place.Place.{Place}
use Rattle.mo_syntax.specs.declared.place.Stop.{Stop}
use Rattle.mo_syntax.specs.declared.place.Stop.TheVariants.{Broken as broken_by, NoMemory as no_memory}
use Rattle.mo_flat.specs.declared.array.ArrayExpr.{roll-ArrayExpr, para-roll-ArrayExpr}
use Rattle.mo_flat.specs.declared.array.ArrayNode.{ArrayNode-F, para-roll-ArrayNode}
use Rattle.mo_flat.specs.declared.array.ArrayNode.TheVariants.{Vars, rolls-Vars}
use Rattle.mo_flat.specs.declared.array.Subscript.{Subscript}
use Rattle.mo_flat.specs.declared.connect.Connect.{Connect}
use Rattle.mo_flat.specs.declared.connect.End.{End}
use Rattle.mo_flat.specs.declared.connect.EndLeaf.{EndLeaf}
use Rattle.mo_flat.specs.declared.connect.Side.{Side}
use Rattle.mo_flat.specs.declared.connect.Side.TheVariants.{Inside, Outside, Neither}
use Rattle.mo_scope.specs.declared.row.Member.{Member as MemberAt}
use Rattle.mo_scope.specs.Frames.{Indexed, Member, Scope, at_of}
use Rattle.mo_scope.specs.Names.{path_below}
use Rattle.mo_scope.specs.Outcome as seen
use Rattle.mo_scope.specs.Places.{Every}
use Rattle.mo_scope.specs.Rows.{Table}
use Rattle.mo_scope.specs.Trees.{IsInstance}
use Rattle.mo_scope.specs.Worlds.{World, Grows, IsFrame, frames_of, scope_in, table_in}
use Rattle.mo_names.specs.Sights.{IsMember, member_of}
use Rattle.mo_names.proofs.Later.{grows_trans, is_member_later, member_later, table_later}
use Rattle.mo_typing.specs.Dims.{Dims}
use Rattle.mo_typing.specs.Indices.{Index}
use Rattle.mo_typing.specs.Outcome as told
use Rattle.mo_typing.specs.Subscripts.{Checked, subscripts, subscripts_node, subscripts_of, subscripts_of_node, subscripts_part}
use Rattle.mo_eval.specs.Ends.{Ended, Is_removed, Is_other, Selects, Selected, ended_by, ended_in, ended_of, first_identifier, selected_from, unless_removed, with_parts}
use Rattle.mo_eval.specs.References.{Named, Components, Found_at, handed_in, named}
use Rattle.mo_equations.specs.declared.desk.Desk.{Desk}
use Rattle.mo_equations.specs.declared.leaves.Leaves.{Leaves}
use Rattle.mo_equations.specs.Connectors.{leaves_below}
use Rattle.mo_equations.specs.Ends.{connect_of, end_of, end_with, leaves_of, no_connector, side_of}
use Rattle.mo_equations.specs.Leaves.{Tree}
use Rattle.mo_equations.specs.steps.Desks.{Goes, IsDesk}
use Rattle.mo_equations.specs.steps.Standing.{tree_in}
use Rattle.mo_equations.specs.steps.Ends.{elements_in, end_beside, end_selected}
use Rattle.mo_equations.proofs.Arguments.{scope_later}
use Rattle.mo_equations.proofs.Staying.{same_tree, tree_later}

-- ---- later worlds

pub elements_later : (u v : World) (elements : List (MemberAt × Index)) → Grows u v → Every (λ element. IsMember u element.0) elements →
    elements_in (frames_of v) elements ≡ elements_in (frames_of u) elements
elements_later u v [] grows are = refl
elements_later u v (x ∷ xs) grows are =
    ap (λ (m : Member). (m, x.1) ∷ elements_in (frames_of v) xs) (member_later u v x.0 grows are.0)
    ∙ ap (λ (es : List (Member × Index)). (member_of (frames_of u) x.0, x.1) ∷ es) (elements_later u v xs grows are.1)

pub are_elements_later : (u v : World) (elements : List (MemberAt × Index)) → Grows u v → Every (λ element. IsMember u element.0) elements → Every (λ element. IsMember v element.0) elements
are_elements_later u v [] grows are = tt
are_elements_later u v (x ∷ xs) grows are = (is_member_later u v x.0 grows are.0, are_elements_later u v xs grows are.1)

-- what is told of a tree and a scope is told of them later
pub told_later : {A : Type 0} (f : Tree → Scope → A) (u v : World) (before after : Desk) (frame : ℕ) (iters : List (List ℕ × ℤ)) → IsDesk u before → Goes u v before after → IsFrame u frame →
    f (tree_in v after.leaves) (scope_in (frames_of v) frame iters) ≡ f (tree_in u before.leaves) (scope_in (frames_of u) frame iters)
told_later f u v before after frame iters is goes stands =
    ap (λ (tree : Tree). f tree (scope_in (frames_of v) frame iters)) (same_tree u v before after is goes)
    ∙ ap (f (tree_in u before.leaves)) (scope_later u v frame iters goes.grows stands)

-- ---- subscripts

in_vars : (vars : List ℕ) (kind : Kind) (dims : Dims) (subs : List Subscript) → subscripts_of_node (Vars vars kind dims subs) ≡ subscripts dims subs
in_vars vars kind dims subs =
    ap subscripts_of_node (sym (rolls-Vars vars kind dims subs)) ∙ para-roll-ArrayNode Checked Checked subscripts_node subscripts_part (ArrayNode-F.Vars vars kind dims subs)

pub subscripts_within : (place : Place) (dims : Dims) (subs : List Subscript) →
    subscripts_of (roll-ArrayExpr (record { place = place; node = Vars [] Real dims subs })) ≡ subscripts dims subs
subscripts_within place dims subs =
    para-roll-ArrayExpr Checked Checked subscripts_node subscripts_part (record { place = place; node = Vars [] Real dims subs }) ∙ in_vars [] Real dims subs

-- an answer by what it says of a value and of a broken rule
pub gives_checked : (result : Result (Unit {0}) Stop) (o : Checked) → IfOk result (λ _. o ≡ Ok tt) → IfBroken result (λ broken. o ≡ Err broken) → told.Gives result o
gives_checked (Ok it) o ok refused = ok
gives_checked (Err (broken_by broken)) o ok refused = refused
gives_checked (Err no_memory) o ok refused = tt

module _ (dims shape : Dims) (subs : List Subscript) (same : shape ≡ dims) where
  abbrev behind : Checked → Outcome Dims
  behind o = and_then o (λ _. Ok dims)

  pub within_stops : (stop : Stop) → told.Gives {T = Unit {0}} (Err stop) (subscripts shape subs) → told.Gives {T = Dims} (Err stop) (and_then (subscripts dims subs) (λ _. Ok dims))
  within_stops (broken_by broken) h = ap (λ (ds : Dims). behind (subscripts ds subs)) (sym same) ∙ ap behind h
  within_stops no_memory h = tt

  pub within_fine : (it : Unit {0}) → subscripts shape subs ≡ Ok it → and_then (subscripts dims subs) (λ _. Ok dims) ≡ Ok dims
  within_fine it h = ap (λ (ds : Dims). behind (subscripts ds subs)) (sym same) ∙ ap behind h

-- ---- an end

module _ (tree : Tree) (scope : Scope) (reference : ReferenceOf Expr) where
  abbrev place : Place
  place = first_identifier reference.parts

  abbrev lies : Side
  lies = side_of tree.classes scope reference

  -- an end, by what it names and selects
  abbrev of_ended : Ended → Outcome (Option End)
  of_ended Is_removed = Ok None
  of_ended Is_other = Ok (Some (no_connector place))
  of_ended (Selects dims subs elements) = and_then (end_selected tree place dims subs elements lies) (λ end. Ok (Some end))

  abbrev unless_none : Option Selected → Outcome (Option End)
  unless_none None = Ok None
  unless_none (Some selected) = and_then (end_with tree place selected lies) (λ end. Ok (Some end))

  abbrev end_named : Named → Outcome (Option End)
  end_named (Components (first ∷ others)) = and_then (unless_removed (selected_from tree.classes place first others)) unless_none
  end_named other = Ok (Some (no_connector place))

  by_side : (selected : Selected) (s : Side) →
      end_with tree place selected s ≡ end_selected tree place (handed_in selected.chosen).0 (handed_in selected.chosen).1 selected.elements s
  by_side selected Neither = refl
  by_side selected Inside = refl
  by_side selected Outside = refl

  by_selected : (o : Option Selected) → unless_none o ≡ of_ended (ended_by o)
  by_selected None = refl
  by_selected (Some selected) = ap (λ (o : Outcome End). and_then o (λ end. Ok (Some end))) (by_side selected lies)

  by_removed : (o : Outcome (Option Selected)) → and_then o unless_none ≡ and_then (and_then {A = Option Selected} o (λ selected. Ok (ended_by selected))) of_ended
  by_removed (Ok selected) = by_selected selected
  by_removed (Err broken) = refl

  by_named : (n : Named) → end_named n ≡ and_then (ended_in tree.classes place n) of_ended
  by_named (Components []) = refl
  by_named (Components (first ∷ others)) = by_removed (unless_removed (selected_from tree.classes place first others))
  by_named (Found_at found at) = refl

  by_outcome : (o : Outcome Named) → and_then o end_named ≡ and_then (and_then o (ended_in tree.classes place)) of_ended
  by_outcome (Ok n) = by_named n
  by_outcome (Err broken) = refl

  by_ended : end_of tree scope reference ≡ and_then (ended_of tree.classes scope reference) of_ended
  by_ended = by_outcome (named tree.classes scope (with_parts tree.classes scope reference))

  pub end_stops : {T : Type 0} (view : T → Ended) (stop : Stop) → seen.Gives view (Err stop) (ended_of tree.classes scope reference) → told.Gives {T = Option End} (Err stop) (end_of tree scope reference)
  end_stops view (broken_by broken) h = by_ended ∙ ap (λ (o : Outcome Ended). and_then o of_ended) h
  end_stops view no_memory h = tt

  pub end_removed : ended_of tree.classes scope reference ≡ Ok Is_removed → end_of tree scope reference ≡ Ok None
  end_removed h = by_ended ∙ ap (λ (o : Outcome Ended). and_then o of_ended) h

  pub end_other : ended_of tree.classes scope reference ≡ Ok Is_other → end_of tree scope reference ≡ Ok (Some (no_connector place))
  end_other h = by_ended ∙ ap (λ (o : Outcome Ended). and_then o of_ended) h

  module _ (dims : Dims) (subs : List Subscript) (elements : List (Member × Index)) (h : ended_of tree.classes scope reference ≡ Ok (Selects dims subs elements)) where
    pub end_made : (end : End) → end_selected tree place dims subs elements lies ≡ Ok end → end_of tree scope reference ≡ Ok (Some end)
    end_made end is = by_ended ∙ (ap (λ (o : Outcome Ended). and_then o of_ended) h ∙ ap (λ (o : Outcome End). and_then o (λ e. Ok (Some e))) is)

    pub end_refused : (stop : Stop) → told.Gives {T = End} (Err stop) (end_selected tree place dims subs elements lies) → told.Gives {T = Option End} (Err stop) (end_of tree scope reference)
    end_refused (broken_by broken) is = by_ended ∙ (ap (λ (o : Outcome Ended). and_then o of_ended) h ∙ ap (λ (o : Outcome End). and_then o (λ e. Ok (Some e))) is)
    end_refused no_memory is = tt

-- ---- an end with its leaves

module _ (tree : Tree) (place : Place) (dims : Dims) (subs : List Subscript) (elements : List (Member × Index)) (lies : Side) where
  abbrev checked : Outcome Dims → Outcome End
  checked o = and_then o (λ _. Ok (record { place = place; side = lies; dims = dims; elements = map (leaves_of tree) elements }))

  behind_subscripts : (o : Checked) →
      and_then o (λ _. Ok (record { place = place; side = lies; dims = dims; elements = map (leaves_of tree) elements })) ≡ checked (and_then o (λ _. Ok dims))
  behind_subscripts (Ok it) = refl
  behind_subscripts (Err broken) = refl

  by_subscripts : end_beside tree place dims subs elements lies ≡ checked (and_then (subscripts dims subs) (λ _. Ok dims))
  by_subscripts = behind_subscripts (subscripts dims subs)

  pub beside_made : (held : Dims) (leaves : List (List EndLeaf)) → and_then (subscripts dims subs) (λ _. Ok dims) ≡ Ok held → leaves ≡ map (leaves_of tree) elements →
      end_beside tree place dims subs elements lies ≡ Ok (record { place = place; side = lies; dims = held; elements = leaves })
  beside_made held leaves fine is =
      by_subscripts ∙ (ap checked fine
      ∙ (ap (λ (ls : List (List EndLeaf)). Ok (record { place = place; side = lies; dims = dims; elements = ls })) (sym is)
      ∙ ap (λ (ds : Dims). Ok (record { place = place; side = lies; dims = ds; elements = leaves })) (held_is (subscripts dims subs) fine)))
    where
      ok_is : (a b : Dims) → ◌≡◌ {A = Outcome Dims} (Ok a) (Ok b) → a ≡ b
      ok_is a b e = ap got e
        where
          got : Outcome Dims → Dims
          got (Ok d) = d
          got (Err broken) = a

      held_is : (o : Checked) → and_then o (λ _. Ok dims) ≡ Ok held → dims ≡ held
      held_is (Ok it) h = ok_is dims held h
      held_is (Err broken) h = absurd (let clash : ◌≡◌ {A = Outcome Dims} (Err broken) (Ok held) = h in cc)

  pub beside_stops : (stop : Stop) → told.Gives {T = Dims} (Err stop) (and_then (subscripts dims subs) (λ _. Ok dims)) → told.Gives {T = End} (Err stop) (end_beside tree place dims subs elements lies)
  beside_stops (broken_by broken) h = by_subscripts ∙ ap checked h
  beside_stops no_memory h = tt

-- ---- the leaves of an element

module _ (tree : Tree) (element : Member × Index) where
  abbrev leaves_at : Option Indexed → List EndLeaf
  leaves_at None = []
  leaves_at (Some path) = leaves_below tree path

  pub leaves_at_path : (path : Indexed) → path_below (at_of element.0.home) element.0.name element.1 ≡ Some path → leaves_of tree element ≡ leaves_below tree path
  leaves_at_path path h = ap leaves_at h

  pub leaves_nowhere : path_below (at_of element.0.home) element.0.name element.1 ≡ None → leaves_of tree element ≡ []
  leaves_nowhere h = ap leaves_at h

-- ---- an end in a later world

pub same_end : (u v w : World) (leaves : Leaves) (frame : ℕ) (iters : List (List ℕ × ℤ)) (reference : ReferenceOf Expr) (at : Place) (dims : Dims) (subs : List Subscript)
    (elements : List (MemberAt × Index)) (lies : Side) → Grows u v → Grows v w → Every (IsInstance u) leaves.instances.now → IsFrame u frame →
    Every (λ element. IsMember v element.0) elements → at ≡ first_identifier reference.parts → lies ≡ side_of (table_in v) (scope_in (frames_of v) frame iters) reference →
    end_selected (tree_in w leaves) at dims subs (elements_in (frames_of w) elements) lies
    ≡ end_selected (tree_in u leaves) (first_identifier reference.parts) dims subs (elements_in (frames_of v) elements) (side_of (table_in u) (scope_in (frames_of u) frame iters) reference)
same_end u v w leaves frame iters reference at dims subs elements lies g h exist stands are place_is side_is =
    let tree = tree_in u leaves in
    let first = first_identifier reference.parts in
    ap (λ (t : Tree). end_selected t at dims subs (elements_in (frames_of w) elements) lies) (tree_later u w leaves (grows_trans u v w g h) exist)
    ∙ (ap (λ (p : Place). end_selected tree p dims subs (elements_in (frames_of w) elements) lies) place_is
    ∙ (ap (λ (es : List (Member × Index)). end_selected tree first dims subs es lies) (elements_later v w elements h are)
    ∙ (ap (λ (s : Side). end_selected tree first dims subs (elements_in (frames_of v) elements) s) side_is
    ∙ (ap (λ (t : Table). end_selected tree first dims subs (elements_in (frames_of v) elements) (side_of t (scope_in (frames_of v) frame iters) reference)) (table_later u v g)
    ∙ ap (λ (sc : Scope). end_selected tree first dims subs (elements_in (frames_of v) elements) (side_of (table_in u) sc reference)) (scope_later u v frame iters g stands)))))

-- ---- a connect

module _ (tree : Tree) (scope : Scope) (place : Place) (left right : ReferenceOf Expr) where
  abbrev behind_both : End → Option End → Outcome (List Connect)
  behind_both first None = Ok []
  behind_both first (Some last) = Ok (record { place = place; left = first; right = last } ∷ [])

  abbrev behind_left : Option End → Outcome (List Connect)
  behind_left None = Ok []
  behind_left (Some first) = and_then (end_of tree scope right) (behind_both first)

  pub left_stops : {T : Type 0} (view : T → List Connect) (stop : Stop) → told.Gives {T = Option End} (Err stop) (end_of tree scope left) → seen.Gives view (Err stop) (connect_of tree scope place left right)
  left_stops view (broken_by broken) h = ap (λ (o : Outcome (Option End)). and_then o behind_left) h
  left_stops view no_memory h = tt

  pub left_removed : end_of tree scope left ≡ Ok None → connect_of tree scope place left right ≡ Ok []
  left_removed h = ap (λ (o : Outcome (Option End)). and_then o behind_left) h

  module _ (first : End) (h : end_of tree scope left ≡ Ok (Some first)) where
    by_right : connect_of tree scope place left right ≡ and_then (end_of tree scope right) (behind_both first)
    by_right = ap (λ (o : Outcome (Option End)). and_then o behind_left) h

    pub right_stops : {T : Type 0} (view : T → List Connect) (stop : Stop) → told.Gives {T = Option End} (Err stop) (end_of tree scope right) → seen.Gives view (Err stop) (connect_of tree scope place left right)
    right_stops view (broken_by broken) k = by_right ∙ ap (λ (o : Outcome (Option End)). and_then o (behind_both first)) k
    right_stops view no_memory k = tt

    pub right_removed : end_of tree scope right ≡ Ok None → connect_of tree scope place left right ≡ Ok []
    right_removed k = by_right ∙ ap (λ (o : Outcome (Option End)). and_then o (behind_both first)) k

    pub both_made : (last : End) → end_of tree scope right ≡ Ok (Some last) → connect_of tree scope place left right ≡ Ok (record { place = place; left = first; right = last } ∷ [])
    both_made last k = by_right ∙ ap (λ (o : Outcome (Option End)). and_then o (behind_both first)) k
