-- What is known of expressions, one number after another.
use Rattle.std.proofs.Common.{◌≡◌, ℕ, ℤ, ◌+◌, ◌<◌, ◌≤◌, List, [], ◌∷◌, get_or, length, map, Result, Ok, Err, refl, ap, sym, ◌∙◌, subst}
use Rattle.std.proofs.lemmas.Option.{get_or_from_slice_get}
use Rattle.mo_syntax.specs.Outcome.{IfBroken, Outcome, and_then, breach}
use Rattle.mo_syntax.specs.declared.expr.Expr.{Expr}
use Rattle.mo_syntax.specs.declared.meaning.Kind.{Kind}
use Rattle.mo_syntax.specs.declared.meaning.Kind.TheVariants.{Real, Whole, Truth, Str, Enumeration}
use Rattle.mo_syntax.specs.declared.place.Broken.{Broken}
use Rattle.mo_syntax.specs.declared.place.Place.{Place}
use Rattle.mo_syntax.specs.declared.place.Stop.{Stop}
use Rattle.mo_syntax.specs.declared.place.Stop.TheVariants.{Broken as broken_by, NoMemory as no_memory}
use Rattle.mo_flat.specs.declared.array.ArrayExpr.{ArrayExpr, out-ArrayExpr, roll-out-ArrayExpr, para-roll-ArrayExpr, fold_out-ArrayExpr}
use Rattle.mo_flat.specs.declared.array.ArrayNode.{ArrayNode, ArrayNode-F, para-roll-ArrayNode}
use Rattle.mo_flat.specs.declared.array.ArrayNode.TheVariants.{Range, rolls-Range}
use Rattle.mo_scope.specs.Outcome as seen
use Rattle.mo_scope.specs.Rows.{Table}
use Rattle.mo_scope.specs.declared.source.ScopeAt.{ScopeAt}
use Rattle.mo_scope.specs.Frames.{Frame, Scope}
use Rattle.mo_scope.specs.Sights.{scope_at}
use Rattle.mo_scope.specs.Worlds.{World, Grows, IsFrame, frames_of, scope_in, table_in}
use Rattle.mo_syntax.specs.declared.rules.TheConstants.{WRONG_TYPE}
use Rattle.mo_typing.specs.Dims.{Dims}
use Rattle.mo_typing.specs.Indices.{Index, numbers_to, range_element}
use Rattle.mo_typing.specs.Kinds.{Part as KindPart, kind_of, kind_of_node, kind_node, kind_part}
use Rattle.mo_typing.specs.Outcome.{Gives, each}
use Rattle.mo_typing.specs.Subscripts.{Checked}
use Rattle.mo_names.proofs.Later.{frame_later, table_later}
use Rattle.mo_eval.specs.declared.virtuals.Resolved.{Resolved as ResolvedAt}
use Rattle.mo_values.specs.Asked.{layered, must_be_whole, only_whole}
use Rattle.mo_eval.specs.References.{numbers_of}
use Rattle.mo_values.specs.declared.value.Reckoned.{Reckoned}
use Rattle.mo_values.specs.declared.value.Reckoned.TheVariants.{Is}
use Rattle.mo_values.specs.declared.value.Scalar.TheVariants.{Whole as whole}
use Rattle.mo_eval.specs.Components.{place_of, reader}
use Rattle.mo_values.specs.Scalars.{Known, settled}
use Rattle.mo_values.specs.Walk.{kind_or_real, known_by, known_part, result_node, result_of_node}
use Rattle.mo_eval.specs.Virtuals.{known_of_virtuals, numbered, Resolved, Virtual}
use Rattle.mo_eval.specs.InScope.{resolved_for_value_in_scope}
use Rattle.mo_eval.specs.Seen.{AreThere, resolved_seen}
use Rattle.mo_eval.specs.Values.{known_of, most_references, reading, resolved_for_value}
use Rattle.mo_eval.proofs.Grown.{same_virtuals}
use Rattle.mo_equations.specs.Equations.{range_numbers, vector_size}
use Rattle.mo_equations.specs.Leaves.{Tree}
use Rattle.mo_equations.specs.declared.standing.Asked.{Asked}
use Rattle.mo_equations.specs.steps.Layers.{fit_of, wanted_of}
use Rattle.mo_equations.specs.steps.Ranges.{known_so}
use Rattle.mo_equations.proofs.Eaching.{Left, left_halts}
use Rattle.mo_equations.proofs.Ranged.{length_numbers, number_at}

pub known_then : (table : Table) (wanted : Kind → Checked) (fit : Dims → Checked) (scope : Scope) (e : Expr) (index : Index) (r : Resolved) (result : Result Known Stop) →
    resolved_for_value table most_references scope e ≡ Ok r → layered wanted fit r.expression ≡ Ok tt → Gives result (known_of table most_references r index) → Gives result (known_so table wanted fit scope e index)
known_then table wanted fit scope e index r result is fine h = rw (is, fine) h

-- a refusal to resolve it
pub unknown_so : (T : Type 0) (table : Table) (wanted : Kind → Checked) (fit : Dims → Checked) (scope : Scope) (e : Expr) (index : Index) (stop : Stop) →
    IfBroken {T = T} (Err stop) (λ broken. resolved_for_value table most_references scope e ≡ Err broken) → Gives {T = Known} (Err stop) (known_so table wanted fit scope e index)
unknown_so T table wanted fit scope e index (broken_by broken) is = rw is refl
unknown_so T table wanted fit scope e index no_memory is = tt

-- in a later world
pub known_now : (u v : World) (asked : Asked) → Grows u v → IsFrame u asked.at.now.frame.0 →
    known_so (table_in v) (wanted_of asked.layers.want asked.layers.place) (fit_of asked.layers.fit asked.layers.place) (scope_in (frames_of v) asked.at.now.frame.0 asked.at.now.iters) asked.value.now asked.index.now
    ≡ known_so (table_in u) (wanted_of asked.layers.want asked.layers.place) (fit_of asked.layers.fit asked.layers.place) (scope_in (frames_of u) asked.at.now.frame.0 asked.at.now.iters) asked.value.now asked.index.now
known_now u v asked g at =
    let wanted = wanted_of asked.layers.want asked.layers.place in
    let fit = fit_of asked.layers.fit asked.layers.place in
    ap (λ (table : Table). known_so table wanted fit (scope_in (frames_of v) asked.at.now.frame.0 asked.at.now.iters) asked.value.now asked.index.now) (table_later u v g)
    ∙ ap (λ (frame : Frame). known_so (table_in u) wanted fit (record { frame = frame; iterations = asked.at.now.iters }) asked.value.now asked.index.now) (frame_later u v asked.at.now.frame.0 g at)

pub resolved_now : (u v : World) (at : ScopeAt) (e : Expr) → Grows u v → IsFrame u at.frame.0 → resolved_for_value_in_scope v most_references at e ≡ resolved_for_value_in_scope u most_references at e
resolved_now u v at e g is =
    ap (λ (table : Table). resolved_for_value table most_references (scope_at v at) e) (table_later u v g)
    ∙ ap (λ (frame : Frame). resolved_for_value (table_in u) most_references (record { frame = frame; iterations = at.iters }) e) (frame_later u v at.frame.0 g is)

pub known_later : (u v : World) (r : ResolvedAt) (index : Index) → Grows u v → AreThere u r.virtuals →
    known_of (table_in v) most_references (resolved_seen (frames_of v) r) index ≡ known_of (table_in u) most_references (resolved_seen (frames_of u) r) index
known_later u v r index g are =
    ap (λ (table : Table). known_of table most_references (resolved_seen (frames_of v) r) index) (table_later u v g)
    ∙ ap (λ (vs : List Virtual). known_of (table_in u) most_references (record { expression = r.expression; virtuals = vs }) index) (same_virtuals u v g r.virtuals are)

-- ---- numbers

abbrev pub number_known : (Index → Outcome Known) → Place → ℕ → Outcome ℤ
number_known known place n = and_then (known (n ∷ [])) (must_be_whole place)

pub item_within : (n k : ℕ) → k < n → k < length (numbers_to n)
item_within n k small = subst (λ m. k < m) (sym (length_numbers n)) small

pub item_is : (n k : ℕ) → k < n → k + 1 ≡ get_or (numbers_to n) k (k + 1)
item_is n k small = sym (get_or_from_slice_get (numbers_to n) k (k + 1) (k + 1) (number_at n k small))

pub items_end : (n k : ℕ) → n ≤ k → length (numbers_to n) ≤ k
items_end n k above = subst (λ m. m ≤ k) (sym (length_numbers n)) above

-- what is known of a number stops
pub stops_known : (o : Outcome Known) (place : Place) (stop : Stop) → Gives {T = Known} (Err stop) o → Gives {T = ℤ} (Err stop) (and_then o (must_be_whole place))
stops_known o place (broken_by broken) h = rw h refl
stops_known o place no_memory h = tt

-- a number that is known is none
pub stops_whole : (o : Outcome Known) (known : Known) (place : Place) (stop : Stop) → o ≡ Ok known → Gives {T = ℤ} (Err stop) (must_be_whole place known) → Gives {T = ℤ} (Err stop) (and_then o (must_be_whole place))
stops_whole o known place (broken_by broken) is h = rw is h
stops_whole o known place no_memory is h = tt

pub whole_known : (o : Outcome Known) (known : Known) (place : Place) (n : ℤ) → o ≡ Ok known → must_be_whole place known ≡ Ok n → and_then o (must_be_whole place) ≡ Ok n
whole_known o known place n is h = rw is h

pub numbers_stop : {T : Type 0} (view : T → List ℤ) (f : ℕ → Outcome ℤ) (n k : ℕ) (made : List ℤ) (stop : Stop) → k < n → Left f (numbers_to n) k made ≡ each f (numbers_to n) →
    Gives {T = ℤ} (Err stop) (f (k + 1)) → seen.Gives view (Err stop) (each f (numbers_to n))
numbers_stop view f n k made (broken_by broken) small left h = sym left ∙ left_halts f (numbers_to n) k made (k + 1) broken (item_within n k small) (item_is n k small) h
numbers_stop view f n k made no_memory small left h = tt

-- ---- ranges

abbrev Element : Type 0
Element = Index → Outcome Known

abbrev Result_at : Type 0
Result_at = Index → Outcome Reckoned

kind_at : (e : ArrayExpr) → kind_of_node (out-ArrayExpr e).node (out-ArrayExpr e).place ≡ kind_of e
kind_at e = ap (λ (part : KindPart). part.kind) (sym (fold_out-ArrayExpr (Place → Outcome Kind) KindPart kind_node kind_part e))

known_expression : (variable : ℕ → Outcome Known) (e : ArrayExpr) (i : Index) →
    known_by variable e i ≡ and_then (result_of_node variable (out-ArrayExpr e).node i) (settled (out-ArrayExpr e).place (kind_or_real (kind_of e)))
known_expression variable e i = ap (λ x. known_by variable x i) (sym (roll-out-ArrayExpr e))
    ∙ (ap (λ (f : Element). f i) (para-roll-ArrayExpr Result_at Element (result_node variable) known_part (out-ArrayExpr e))
    ∙ ap (λ kind. and_then (result_of_node variable (out-ArrayExpr e).node i) (settled (out-ArrayExpr e).place (kind_or_real kind))) (kind_at e))

range_node : (variable : ℕ → Outcome Known) (first step last : ℤ) (i : Index) → result_of_node variable (Range first step last) i ≡ Ok (Is (whole (range_element first step i)))
range_node variable first step last i = ap (λ node. result_of_node variable node i) (sym (rolls-Range first step last))
    ∙ ap (λ (f : Result_at). f i) (para-roll-ArrayNode Result_at Element (result_node variable) known_part (ArrayNode-F.Range first step last))

-- a vector of Integers is one by its kind
whole_kind : {A : Type 0} (place : Place) (fit : Dims → Outcome A) (e : ArrayExpr) (a : A) → layered (only_whole place) fit e ≡ Ok a → kind_of e ≡ Ok Whole
whole_kind {A} place fit e a h = at (kind_of e) refl
  where
    not_so : {B : Type 0} (broken : Broken) → ◌≡◌ {A = Outcome A} (Err broken) (Ok a) → B
    not_so broken e = absurd (no e)
      where
        no : ◌≡◌ {A = Outcome A} (Err broken) (Ok a) → ⊥
        no e = cc

    at : (o : Outcome Kind) → kind_of e ≡ o → kind_of e ≡ Ok Whole
    at (Ok Whole) is = is
    at (Ok Real) is = not_so (breach WRONG_TYPE place) (sym (rw is refl) ∙ h)
    at (Ok Truth) is = not_so (breach WRONG_TYPE place) (sym (rw is refl) ∙ h)
    at (Ok Str) is = not_so (breach WRONG_TYPE place) (sym (rw is refl) ∙ h)
    at (Ok (Enumeration class)) is = not_so (breach WRONG_TYPE place) (sym (rw is refl) ∙ h)
    at (Err broken) is = not_so broken (sym (rw is refl) ∙ h)

each_ok : {A B : Type 0} (f : A → Outcome B) (g : A → B) → ((x : A) → f x ≡ Ok (g x)) → (xs : List A) → each f xs ≡ Ok (map g xs)
each_ok f g is [] = refl
each_ok f g is (x ∷ xs) = rw (is x, each_ok f g is xs) refl

pub range_known : (table : Table) (r : Resolved) (first step last : ℤ) (place : Place) (fit : Dims → Outcome ℕ) (n : ℕ) → (out-ArrayExpr r.expression).node ≡ Range first step last →
    layered (only_whole place) fit r.expression ≡ Ok n → numbers_of (known_of table most_references r) place n ≡ Ok (map (λ k. range_element first step (k ∷ [])) (numbers_to n))
range_known table r first step last place fit n node fine =
    each_ok (number_known (known_of table most_references r) place) (λ k. range_element first step (k ∷ [])) one (numbers_to n)
  where
    one : (k : ℕ) → number_known (known_of table most_references r) place k ≡ Ok (range_element first step (k ∷ []))
    one k =
        ap (λ (o : Outcome Known). and_then o (must_be_whole place))
        (known_expression (numbered (known_of_virtuals (reader (reading table most_references)) r.virtuals)) r.expression (k ∷ [])
        ∙ ap (λ (m : ArrayNode). and_then (result_of_node (numbered (known_of_virtuals (reader (reading table most_references)) r.virtuals)) m (k ∷ [])) (settled (out-ArrayExpr r.expression).place (kind_or_real (kind_of r.expression)))) node
        ∙ ap (λ (o : Outcome Reckoned). and_then o (settled (out-ArrayExpr r.expression).place (kind_or_real (kind_of r.expression))))
        (range_node (numbered (known_of_virtuals (reader (reading table most_references)) r.virtuals)) first step last (k ∷ []))
        ∙ ap (λ (kind : Outcome Kind). settled (out-ArrayExpr r.expression).place (kind_or_real kind) (Is (whole (range_element first step (k ∷ []))))) (whole_kind place fit r.expression n fine))

pub range_is : (tree : Tree) (scope : Scope) (e : Expr) (r : Resolved) (n : ℕ) (told : Outcome (List ℤ)) → resolved_for_value tree.classes most_references scope e ≡ Ok r →
    layered (only_whole (place_of e)) (vector_size (place_of e)) r.expression ≡ Ok n → numbers_of (known_of tree.classes most_references r) (place_of e) n ≡ told → range_numbers tree scope e ≡ told
range_is tree scope e r n told is fine numbers = rw (is, fine) numbers
