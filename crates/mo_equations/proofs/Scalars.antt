-- What is asked of resolved variables, literals and ranges, and what they give.
use Rattle.std.proofs.Common.{◌≡◌, ℕ, ℤ, Bool, List, [], ◌∷◌, Some, None, Ok, Err, refl, ap, sym, ◌∙◌}
use Rattle.mo_syntax.specs.Outcome.{Outcome, and_then}
use Rattle.mo_syntax.specs.declared.meaning.Kind.{Kind}
use Rattle.mo_syntax.specs.declared.meaning.Kind.TheVariants as kinds
use Rattle.mo_syntax.specs.declared.place.Broken.{Broken}
use Rattle.mo_syntax.specs.declared.place.Place.{Place}
use Rattle.mo_flat.specs.declared.array.ArrayExpr.{ArrayExpr, roll-ArrayExpr, fold-roll-ArrayExpr, para-roll-ArrayExpr}
use Rattle.mo_flat.specs.declared.array.ArrayNode.{ArrayNode, ArrayNode-F, fold-roll-ArrayNode, para-ArrayNode, para-roll-ArrayNode}
use Rattle.mo_flat.specs.declared.array.ArrayNode.TheVariants.{Vars, Whole, Truth, Range, rolls-Vars, rolls-Whole, rolls-Truth, rolls-Range}
use Rattle.mo_flat.specs.declared.expr.FlatExpr.{FlatExpr, fold_out-FlatExpr}
use Rattle.mo_flat.specs.declared.expr.FlatExpr as flat
use Rattle.mo_flat.specs.declared.expr.FlatExpr.TheVariants.{outs-Var, outs-Whole}
use Rattle.mo_typing.specs.Kinds.{kind_of, kind_of_node, kind_node, kind_part, Part as KindPart}
use Rattle.mo_typing.specs.Dims.{Dims, dims_of, dims_of_node, dims_node, dims_part, range, Part as DimsPart}
use Rattle.mo_typing.specs.Indices.{Index, range_element}
use Rattle.mo_typing.specs.Subscripts.{Checked, fine, subscripts_of, subscripts_of_node, subscripts_node, subscripts_part}
use Rattle.mo_arrays.specs.Elements.{element_of, element_of_node, element_node, element_part}
use Rattle.mo_arrays.specs.Equations.{sides}
use Rattle.mo_values.specs.declared.value.Reckoned.{Reckoned}
use Rattle.mo_values.specs.declared.value.Reckoned.TheVariants.{Is, Unknown}
use Rattle.mo_values.specs.declared.value.Scalar.TheVariants as scalar
use Rattle.mo_values.specs.Scalars.{Known, of_known, settled}
use Rattle.mo_eval.specs.Virtuals.{Virtual}
use Rattle.mo_values.specs.Walk.{known_by, known_part, kind_or_real, read_as, result_node}
use Rattle.mo_values.specs.Asked.{layered}
use Rattle.mo_equations.specs.Leaves.{Tree}
use Rattle.mo_equations.specs.Replacing.{of_variable, replaced_node, with_variables}
use Rattle.mo_equations.specs.Variables.{replacing}
use Rattle.mo_equations.specs.Equalities.{equalities_of}

abbrev pub at_place : Place → ArrayNode → ArrayExpr
at_place place node = roll-ArrayExpr (record { place = place; node = node })

-- ---- layers

-- an expression that breaks no rule, by its kind and its dimensions
pub record Has (e : ArrayExpr) (kind : Kind) (dims : Dims) : Type 0 where
  pub kind_is : kind_of e ≡ Ok kind
  pub dims_is : dims_of e ≡ Ok dims
  pub subscripts_is : subscripts_of e ≡ fine

by_node : (place : Place) (node : ArrayNode) (kind : Kind) (dims : Dims) → kind_of_node node place ≡ Ok kind → dims_of_node node place ≡ Ok dims
    → subscripts_of_node node ≡ fine → Has (at_place place node) kind dims
by_node place node kind dims k d s = record {
  kind_is = ap (λ (part : KindPart). part.kind) (fold-roll-ArrayExpr (Place → Outcome Kind) KindPart kind_node kind_part (record { place = place; node = node })) ∙ k;
  dims_is = ap (λ (part : DimsPart). part.dims) (fold-roll-ArrayExpr (Place → Outcome Dims) DimsPart dims_node dims_part (record { place = place; node = node })) ∙ d;
  subscripts_is = para-roll-ArrayExpr Checked Checked subscripts_node subscripts_part (record { place = place; node = node }) ∙ s;
}

kind_of_variable : (place : Place) (n : ℕ) (kind : Kind) → kind_of_node (Vars (n ∷ []) kind [] []) place ≡ Ok kind
kind_of_variable place n kind = ap (λ (f : Place → Outcome Kind). f place)
    (ap kind_of_node (sym (rolls-Vars (n ∷ []) kind [] [])) ∙ fold-roll-ArrayNode (Place → Outcome Kind) KindPart kind_node kind_part (ArrayNode-F.Vars (n ∷ []) kind [] []))

pub variable_has : (place : Place) (n : ℕ) (kind : Kind) → Has (at_place place (Vars (n ∷ []) kind [] [])) kind []
variable_has place n kind = by_node place (Vars (n ∷ []) kind [] []) kind [] (kind_of_variable place n kind)
    (ap (λ (f : Place → Outcome Dims). f place) (ap dims_of_node (sym (rolls-Vars (n ∷ []) kind [] [])) ∙ fold-roll-ArrayNode (Place → Outcome Dims) DimsPart dims_node dims_part (ArrayNode-F.Vars (n ∷ []) kind [] [])))
    (ap subscripts_of_node (sym (rolls-Vars (n ∷ []) kind [] [])) ∙ para-roll-ArrayNode Checked Checked subscripts_node subscripts_part (ArrayNode-F.Vars (n ∷ []) kind [] []))

kind_of_whole : (place : Place) (n : ℤ) → kind_of_node (Whole n) place ≡ Ok kinds.Whole
kind_of_whole place n = ap (λ (f : Place → Outcome Kind). f place)
    (ap kind_of_node (sym (rolls-Whole n)) ∙ fold-roll-ArrayNode (Place → Outcome Kind) KindPart kind_node kind_part (ArrayNode-F.Whole n))

pub whole_has : (place : Place) (n : ℤ) → Has (at_place place (Whole n)) kinds.Whole []
whole_has place n = by_node place (Whole n) kinds.Whole [] (kind_of_whole place n)
    (ap (λ (f : Place → Outcome Dims). f place) (ap dims_of_node (sym (rolls-Whole n)) ∙ fold-roll-ArrayNode (Place → Outcome Dims) DimsPart dims_node dims_part (ArrayNode-F.Whole n)))
    (ap subscripts_of_node (sym (rolls-Whole n)) ∙ para-roll-ArrayNode Checked Checked subscripts_node subscripts_part (ArrayNode-F.Whole n))

kind_of_truth : (place : Place) (b : Bool) → kind_of_node (Truth b) place ≡ Ok kinds.Truth
kind_of_truth place b = ap (λ (f : Place → Outcome Kind). f place)
    (ap kind_of_node (sym (rolls-Truth b)) ∙ fold-roll-ArrayNode (Place → Outcome Kind) KindPart kind_node kind_part (ArrayNode-F.Truth b))

pub truth_has : (place : Place) (b : Bool) → Has (at_place place (Truth b)) kinds.Truth []
truth_has place b = by_node place (Truth b) kinds.Truth [] (kind_of_truth place b)
    (ap (λ (f : Place → Outcome Dims). f place) (ap dims_of_node (sym (rolls-Truth b)) ∙ fold-roll-ArrayNode (Place → Outcome Dims) DimsPart dims_node dims_part (ArrayNode-F.Truth b)))
    (ap subscripts_of_node (sym (rolls-Truth b)) ∙ para-roll-ArrayNode Checked Checked subscripts_node subscripts_part (ArrayNode-F.Truth b))

kind_of_range : (place : Place) (a b c : ℤ) → kind_of_node (Range a b c) place ≡ Ok kinds.Whole
kind_of_range place a b c = ap (λ (f : Place → Outcome Kind). f place)
    (ap kind_of_node (sym (rolls-Range a b c)) ∙ fold-roll-ArrayNode (Place → Outcome Kind) KindPart kind_node kind_part (ArrayNode-F.Range a b c))

pub range_has : (place : Place) (a b c : ℤ) (dims : Dims) → range place a b c ≡ Ok dims → Has (at_place place (Range a b c)) kinds.Whole dims
range_has place a b c dims h = by_node place (Range a b c) kinds.Whole dims (kind_of_range place a b c)
    (ap (λ (f : Place → Outcome Dims). f place) (ap dims_of_node (sym (rolls-Range a b c)) ∙ fold-roll-ArrayNode (Place → Outcome Dims) DimsPart dims_node dims_part (ArrayNode-F.Range a b c)) ∙ h)
    (ap subscripts_of_node (sym (rolls-Range a b c)) ∙ para-roll-ArrayNode Checked Checked subscripts_node subscripts_part (ArrayNode-F.Range a b c))

pub layers : {A : Type 0} (wanted : Kind → Checked) (fit : Dims → Outcome A) {e : ArrayExpr} {kind : Kind} {dims : Dims} (a : A) → Has e kind dims
    → wanted kind ≡ fine → fit dims ≡ Ok a → layered wanted fit e ≡ Ok a
layers wanted fit a h w f = rw (h.kind_is, w, h.dims_is, f, h.subscripts_is) refl

pub unfit : {A : Type 0} (wanted : Kind → Checked) (fit : Dims → Outcome A) {e : ArrayExpr} {kind : Kind} {dims : Dims} (broken : Broken) → Has e kind dims
    → wanted kind ≡ fine → fit dims ≡ Err broken → layered wanted fit e ≡ Err broken
unfit wanted fit broken h w f = rw (h.kind_is, w, h.dims_is, f) refl

-- ---- elements

element_at : (place : Place) (node : ArrayNode) (element : FlatExpr) → element_of_node node [] ≡ element → element_of (at_place place node) [] ≡ element
element_at place node element e =
    ap (λ (f : Index → FlatExpr). f []) (para-roll-ArrayExpr (Index → FlatExpr) (Index → FlatExpr) element_node element_part (record { place = place; node = node })) ∙ e

pub variable_element : (place : Place) (n : ℕ) (kind : Kind) → element_of (at_place place (Vars (n ∷ []) kind [] [])) [] ≡ flat.Var n 0
variable_element place n kind = element_at place (Vars (n ∷ []) kind [] []) (flat.Var n 0)
    (ap (λ (f : Index → FlatExpr). f []) (ap element_of_node (sym (rolls-Vars (n ∷ []) kind [] [])) ∙ para-roll-ArrayNode (Index → FlatExpr) (Index → FlatExpr) element_node element_part (ArrayNode-F.Vars (n ∷ []) kind [] [])))

pub whole_element : (place : Place) (n : ℤ) → element_of (at_place place (Whole n)) [] ≡ flat.Whole n
whole_element place n = element_at place (Whole n) (flat.Whole n)
    (ap (λ (f : Index → FlatExpr). f []) (ap element_of_node (sym (rolls-Whole n)) ∙ para-roll-ArrayNode (Index → FlatExpr) (Index → FlatExpr) element_node element_part (ArrayNode-F.Whole n)))

pub replaced_variable : (variable : ℕ → Outcome FlatExpr) (n order : ℕ) → with_variables variable (flat.Var n order) ≡ variable n
replaced_variable variable n order = rw (fold_out-FlatExpr (Outcome FlatExpr) (replaced_node variable) (flat.Var n order), outs-Var n order) refl

pub replaced_whole : (variable : ℕ → Outcome FlatExpr) (n : ℤ) → with_variables variable (flat.Whole n) ≡ Ok (flat.Whole n)
replaced_whole variable n = rw (fold_out-FlatExpr (Outcome FlatExpr) (replaced_node variable) (flat.Whole n), outs-Whole n) refl

-- ---- equations

-- a scalar side: its kind, its element, and what that becomes
pub record IsSide (variable : ℕ → Outcome FlatExpr) (e : ArrayExpr) (kind : Kind) (flat : FlatExpr) : Type 0 where
  pub has : Has e kind []
  pub element : FlatExpr
  pub element_is : element_of e [] ≡ element
  pub flat_is : with_variables variable element ≡ Ok flat

pub variable_side : (variable : ℕ → Outcome FlatExpr) (place : Place) (n : ℕ) (kind : Kind) (e : FlatExpr) → variable n ≡ Ok e
    → IsSide variable (at_place place (Vars (n ∷ []) kind [] [])) kind e
variable_side variable place n kind e h = record {
  has = variable_has place n kind;
  element = flat.Var n 0;
  element_is = variable_element place n kind;
  flat_is = replaced_variable variable n 0 ∙ h;
}

pub whole_side : (variable : ℕ → Outcome FlatExpr) (place : Place) (n : ℤ) → IsSide variable (at_place place (Whole n)) kinds.Whole (flat.Whole n)
whole_side variable place n = record {
  has = whole_has place n;
  element = flat.Whole n;
  element_is = whole_element place n;
  flat_is = replaced_whole variable n;
}

pub scalar_equation : (tree : Tree) (place : Place) (virtuals : List Virtual) {left right : ArrayExpr} {a b : Kind} {l r : FlatExpr} →
    IsSide (of_variable (replacing tree) virtuals) left a l → IsSide (of_variable (replacing tree) virtuals) right b r → sides place a b ≡ fine →
    equalities_of tree place ((left, right), virtuals) ≡ Ok (record { left = l; right = r; place = place } ∷ [])
scalar_equation tree place virtuals h k s =
    rw (h.has.kind_is, k.has.kind_is, s, h.has.dims_is, k.has.dims_is, h.has.subscripts_is, k.has.subscripts_is, h.element_is, k.element_is, h.flat_is, k.flat_is) refl

-- ---- values

abbrev pub result_below : (ℕ → Outcome Known) → ArrayNode → Index → Outcome Reckoned
result_below variable = para-ArrayNode (Index → Outcome Reckoned) (Index → Outcome Known) (result_node variable) known_part

reckoned : (place : Place) {result : Outcome Reckoned} {got : Outcome Kind} {r : Reckoned} {kind : Kind} → result ≡ Ok r → got ≡ Ok kind
    → and_then result (settled place (kind_or_real got)) ≡ settled place kind r
reckoned place h k = rw (h, k) refl

known_at_node : (variable : ℕ → Outcome Known) (place : Place) (node : ArrayNode) (index : Index) (r : Reckoned) (kind : Kind) →
    result_below variable node index ≡ Ok r → kind_of_node node place ≡ Ok kind → known_by variable (at_place place node) index ≡ settled place kind r
known_at_node variable place node index r kind h k =
    ap (λ (f : Index → Outcome Known). f index) (para-roll-ArrayExpr (Index → Outcome Reckoned) (Index → Outcome Known) (result_node variable) known_part (record { place = place; node = node }))
    ∙ reckoned place h k

pub known_whole : (variable : ℕ → Outcome Known) (place : Place) (n : ℤ) → known_by variable (at_place place (Whole n)) [] ≡ Ok (Some (scalar.Whole n))
known_whole variable place n = known_at_node variable place (Whole n) [] (Is (scalar.Whole n)) kinds.Whole
    (ap (λ (f : Index → Outcome Reckoned). f []) (ap (result_below variable) (sym (rolls-Whole n)) ∙ para-roll-ArrayNode (Index → Outcome Reckoned) (Index → Outcome Known) (result_node variable) known_part (ArrayNode-F.Whole n)))
    (kind_of_whole place n)

pub known_truth : (variable : ℕ → Outcome Known) (place : Place) (b : Bool) → known_by variable (at_place place (Truth b)) [] ≡ Ok (Some (scalar.Truth b))
known_truth variable place b = known_at_node variable place (Truth b) [] (Is (scalar.Truth b)) kinds.Truth
    (ap (λ (f : Index → Outcome Reckoned). f []) (ap (result_below variable) (sym (rolls-Truth b)) ∙ para-roll-ArrayNode (Index → Outcome Reckoned) (Index → Outcome Known) (result_node variable) known_part (ArrayNode-F.Truth b)))
    (kind_of_truth place b)

pub known_range : (variable : ℕ → Outcome Known) (place : Place) (a b c : ℤ) (index : Index) →
    known_by variable (at_place place (Range a b c)) index ≡ Ok (Some (scalar.Whole (range_element a b index)))
known_range variable place a b c index = known_at_node variable place (Range a b c) index (Is (scalar.Whole (range_element a b index))) kinds.Whole
    (ap (λ (f : Index → Outcome Reckoned). f index) (ap (result_below variable) (sym (rolls-Range a b c)) ∙ para-roll-ArrayNode (Index → Outcome Reckoned) (Index → Outcome Known) (result_node variable) known_part (ArrayNode-F.Range a b c)))
    (kind_of_range place a b c)

-- a scalar variable of which nothing is known
pub undecided_variable : (variable : ℕ → Outcome Known) (place : Place) (n : ℕ) (kind : Kind) → variable n ≡ Ok None → settled place kind Unknown ≡ Ok None
    → known_by variable (at_place place (Vars (n ∷ []) kind [] [])) [] ≡ Ok None
undecided_variable variable place n kind h s = known_at_node variable place (Vars (n ∷ []) kind [] []) [] Unknown kind
    (ap (λ (f : Index → Outcome Reckoned). f []) (ap (result_below variable) (sym (rolls-Vars (n ∷ []) kind [] [])) ∙ para-roll-ArrayNode (Index → Outcome Reckoned) (Index → Outcome Known) (result_node variable) known_part (ArrayNode-F.Vars (n ∷ []) kind [] []))
    ∙ ap (read_as of_known) h)
    (kind_of_variable place n kind) ∙ s
