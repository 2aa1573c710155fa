-- The elements of a node by its parts: variables, sums, products, powers, relations and truth values.
use Rattle.std.proofs.Common.{◌≡◌, ◌≤◌, ◌-◌, ℕ, Bool, true, false, ◌||◌, List, [], ◌∷◌, map, refl, ap, sym, ◌∙◌, subst, if◌then◌else◌}
use Rattle.std.specs.Prelude.{Ok, Err, not}
use Rattle.std.specs.List.{list_all, list_any}
use Rattle.mo_syntax.specs.Outcome.{Outcome, and_then}
use Rattle.mo_syntax.specs.declared.place.Place.{Place}
use Rattle.mo_syntax.specs.declared.meaning.Kind.{Kind}
use Rattle.mo_syntax.specs.declared.meaning.Kind.TheVariants.{Real, Whole as Integer, Truth as Boolean}
use Rattle.mo_syntax.specs.declared.expr.RelOp.{RelOp}
use Rattle.mo_flat.specs.declared.array.Subscript.{Subscript}
use Rattle.mo_flat.specs.declared.array.ArrayExpr.{ArrayExpr}
use Rattle.mo_flat.specs.declared.array.ArrayNode.{ArrayNode, ArrayNode-F, roll-ArrayNode, map-ArrayNode, fold-roll-ArrayNode, para-roll-ArrayNode}
use Rattle.mo_flat.specs.declared.expr.FlatExpr.{FlatExpr}
use Rattle.mo_flat.specs.declared.expr.FlatExpr.TheVariants.{Relation, Not, All, Any, Power}
use Rattle.mo_flat.specs.declared.model.FlatVar.{FlatVar}
use Rattle.mo_flat.specs.Sound.{is_nonempty}
use Rattle.mo_flat.specs.SoundArray.{has_kind, is_sound_array, is_sound_array_node, array_node, array_part, nesting_of, nesting_of_node, nesting_node, nesting_part, greatest_by}
use Rattle.mo_flat.proofs.Good.{Each, IsGood, IsNumber, Widens, widened, good_Var, good_Power, good_Relation, good_Not, good_All, good_Any, number_widens}
use Rattle.mo_typing.specs.Kinds.{kind_of, kind_of_node, kind_node, kind_part, arithmetic, raised, relation, truth, logical, divided, kinds_of}
use Rattle.mo_typing.specs.Kinds.{part_of as kind_part_of, Part as KindPart}
use Rattle.mo_typing.specs.Dims.{Dims, Operand, dims_of, dims_of_node, dims_node, dims_part, added, multiplied, chain, operand, operands_of, scalar, scalars, related, dims_of_all, subscripted}
use Rattle.mo_typing.specs.Dims.{part_of as dims_part_of, Part as DimsPart, raised as raised_dims}
use Rattle.mo_typing.specs.Shape.{shape_of}
use Rattle.mo_typing.specs.Subscripts.{Checked, fine, both, every, subscripts_of, subscripts_of_node, subscripts_node, subscripts_part}
use Rattle.mo_typing.specs.Indices.{Index, is_index, located}
use Rattle.mo_typing.proofs.Agreeing.{ok_same, not_broken, after, scalar_agrees}
use Rattle.mo_typing.proofs.ShapeLaw.{dims_agree}
use Rattle.mo_arrays.specs.Elements.{Part, element_of, element_of_node, element_node, element_part, at, extended, unbegun}
use Rattle.mo_arrays.specs.steps.Parts.{part_of}
use Rattle.mo_arrays.proofs.SoundKinds.{numbers_agree, through, related_kinds, truth_kind, truths_agree}
use Rattle.mo_arrays.proofs.SoundDims.{Suits, Beside, index_suits, suits_beside, spread_beside, sum_beside, scalars_none, and_two, and_three, located_index, element_holds}
use Rattle.mo_arrays.proofs.SoundParts.{of_kind, Whole, Gives, the_kind, kind_is, dims_told, part_at, values_by, each_through, subs_each, sound_each, deep_both, deep_each, give_each, at_given}
use Rattle.mo_arrays.proofs.SoundChains.{IsChain, good_sum_of, good_product_of, chain_rest}

unfoldable pub NodeLaw : List FlatVar → ArrayNode → Type 0
NodeLaw vars node = (place : Place) (k : Kind) (d : Dims) (n : ℕ) → kind_of_node node place ≡ Ok k → dims_of_node node place ≡ Ok d → subscripts_of_node node ≡ fine → is_sound_array_node (has_kind vars) node ≡ true → nesting_of_node node ≤ n →
    (i : Index) → is_index d i ≡ true → IsGood vars k n (element_of_node node i)

abbrev pub Node : List FlatVar → Type 0
Node vars = (node : ArrayNode) × NodeLaw vars node

abbrev pub KindAsked : Type 0
KindAsked = Place → Outcome Kind

abbrev pub DimsAsked : Type 0
DimsAsked = Place → Outcome Dims

abbrev pub Element : Type 0
Element = Index → FlatExpr

-- the same of a node by its parts
abbrev pub LayerLaw : List FlatVar → ArrayNode-F ArrayNode ArrayExpr → Type 0
LayerLaw vars layer = (place : Place) (k : Kind) (d : Dims) (n : ℕ) →
    kind_node (map-ArrayNode ArrayNode ArrayExpr KindAsked KindPart kind_of_node kind_part_of layer) place ≡ Ok k →
    dims_node (map-ArrayNode ArrayNode ArrayExpr DimsAsked DimsPart dims_of_node dims_part_of layer) place ≡ Ok d →
    subscripts_node (map-ArrayNode ArrayNode ArrayExpr (ArrayNode × Checked) (ArrayExpr × Checked) (λ x. (x, subscripts_of_node x)) (λ x. (x, subscripts_of x)) layer) ≡ fine →
    array_node (has_kind vars) (map-ArrayNode ArrayNode ArrayExpr Bool Bool (is_sound_array_node (has_kind vars)) (is_sound_array (has_kind vars)) layer) ≡ true →
    nesting_node (map-ArrayNode ArrayNode ArrayExpr ℕ ℕ nesting_of_node nesting_of layer) ≤ n →
    (i : Index) → is_index d i ≡ true →
    IsGood vars k n (element_node (map-ArrayNode ArrayNode ArrayExpr (ArrayNode × Element) (ArrayExpr × Element) (λ x. (x, element_of_node x)) (λ x. (x, element_of x)) layer) i)

pub rolled : (vars : List FlatVar) (layer : ArrayNode-F ArrayNode ArrayExpr) → LayerLaw vars layer → NodeLaw vars (roll-ArrayNode layer)
unfolding NodeLaw
rolled vars layer law place k d n kind dims subs sound deep i is =
    subst (λ (f : Element). IsGood vars k n (f i)) (sym (para-roll-ArrayNode Element Element element_node element_part layer))
    (law place k d n
    (ap (λ (f : KindAsked). f place) (sym (fold-roll-ArrayNode KindAsked KindPart kind_node kind_part layer)) ∙ kind)
    (ap (λ (f : DimsAsked). f place) (sym (fold-roll-ArrayNode DimsAsked DimsPart dims_node dims_part layer)) ∙ dims)
    (sym (para-roll-ArrayNode Checked Checked subscripts_node subscripts_part layer) ∙ subs)
    (sym (fold-roll-ArrayNode Bool Bool (array_node (has_kind vars)) array_part layer) ∙ sound)
    (subst (λ x. x ≤ n) (fold-roll-ArrayNode ℕ ℕ nesting_node nesting_part layer) deep)
    i is)

-- ---- operands in lists

abbrev signed_whole : (vars : List FlatVar) → Bool × Bool × Whole vars → Bool × Bool × ArrayExpr
signed_whole vars t = (t.0, t.1, t.2.0)

abbrev signed_kind : Bool × Bool × ArrayExpr → Bool × Bool × KindPart
signed_kind t = (t.0, t.1, kind_part_of t.2)

abbrev signed_dims : Bool × Bool × ArrayExpr → Bool × Bool × DimsPart
signed_dims t = (t.0, t.1, dims_part_of t.2)

abbrev signed_element : Bool × Bool × ArrayExpr → Bool × Bool × Part
signed_element t = (t.0, t.1, part_of t.2)

abbrev signed_sound : List FlatVar → Bool × Bool × ArrayExpr → Bool × Bool × Bool
signed_sound vars t = (t.0, t.1, is_sound_array (has_kind vars) t.2)

abbrev signed_checked : Bool × Bool × ArrayExpr → Bool × Bool × (ArrayExpr × Checked)
signed_checked t = (t.0, t.1, (t.2, subscripts_of t.2))

abbrev signed_nesting : Bool × Bool × ArrayExpr → Bool × Bool × ℕ
signed_nesting t = (t.0, t.1, nesting_of t.2)

-- the operands of a chain
pub record AreOperands (vars : List FlatVar) (n : ℕ) (ts : List (Bool × Bool × Whole vars)) (ks : List Kind) (ops : List Operand) : Type 0 where
  pub kinds : map (λ t. the_kind t.2.0) ts ≡ ks
  pub dims : map (λ t. (t.0, t.1, shape_of t.2.0)) ts ≡ ops
  pub gives : Each (λ t. Gives vars n t.2.0) ts

pub operands_hold : (vars : List FlatVar) (n : ℕ) (ts : List (Bool × Bool × Whole vars)) (ks : List Kind) (ops : List Operand) →
    kinds_of (map {A = Bool × Bool × KindPart} (λ t. t.2) (map signed_kind (map (signed_whole vars) ts))) ≡ Ok ks →
    operands_of (map signed_dims (map (signed_whole vars) ts)) ≡ Ok ops →
    every {A = Bool × Bool × (ArrayExpr × Checked)} (λ t. t.2.1) (map signed_checked (map (signed_whole vars) ts)) ≡ fine →
    list_all {X = Bool × Bool × Bool} (λ t. t.2) (map (signed_sound vars) (map (signed_whole vars) ts)) ≡ true →
    greatest_by {A = Bool × Bool × ℕ} (λ t. t.2) (map signed_nesting (map (signed_whole vars) ts)) ≤ n →
    AreOperands vars n ts ks ops
operands_hold vars n ts ks ops kinds dims subs sound deep =
    let k = values_by {B = Kind} (λ (t : Bool × Bool × KindPart). t.2.kind) signed_kind (signed_whole vars) (λ t. the_kind t.2.0) (λ t b e. kind_is t.2.0 b e) ts ks
    (sym (each_through (λ (p : KindPart). p.kind) (λ (t : Bool × Bool × KindPart). t.2) (map signed_kind (map (signed_whole vars) ts))) ∙ kinds) in
    let d = values_by {B = Operand} operand signed_dims (signed_whole vars) (λ t. (t.0, t.1, shape_of t.2.0)) (λ t b e.
    let a = after (dims_of t.2.0) (λ dims. Ok (t.0, t.1, dims)) b e in
    ap (λ s. (t.0, t.1, s)) (dims_agree t.2.0 a.0 a.1) ∙ ok_same (t.0, t.1, a.0) b a.2) ts ops dims in
    record {
      kinds = k.1;
      dims = d.1;
      gives = give_each vars n (λ t. t.2) ts k.0 (asked ts d.0) (subs_each (λ (t : Bool × Bool × (ArrayExpr × Checked)). t.2.1) signed_checked (signed_whole vars) ts subs) (sound_each (λ (t : Bool × Bool × Bool). t.2) (signed_sound vars) (signed_whole vars) ts sound) (deep_each (λ (t : Bool × Bool × ℕ). t.2) signed_nesting (signed_whole vars) n ts deep);
    }
  where
    asked : (ts : List (Bool × Bool × Whole vars)) → Each (λ t. operand (signed_dims (signed_whole vars t)) ≡ Ok (t.0, t.1, shape_of t.2.0)) ts → Each (λ t. dims_of t.2.0 ≡ Ok (shape_of t.2.0)) ts
    asked [] e = tt
    asked (t ∷ ts) e = let a = after (dims_of t.2.0) (λ dims. Ok (t.0, t.1, dims)) _ e.0 in (dims_told t.2.0 a.0 a.1, asked ts e.1)

-- the operands of a list
pub record AreParts (vars : List FlatVar) (n : ℕ) (ts : List (Whole vars)) (ks : List Kind) (ds : List Dims) : Type 0 where
  pub kinds : map (λ t. the_kind t.0) ts ≡ ks
  pub dims : map (λ t. shape_of t.0) ts ≡ ds
  pub gives : Each (λ t. Gives vars n t.0) ts

pub parts_hold : (vars : List FlatVar) (n : ℕ) (ts : List (Whole vars)) (ks : List Kind) (ds : List Dims) →
    kinds_of (map kind_part_of (map (λ t. t.0) ts)) ≡ Ok ks →
    dims_of_all (map dims_part_of (map (λ t. t.0) ts)) ≡ Ok ds →
    every {A = ArrayExpr × Checked} (λ p. p.1) (map (λ e. (e, subscripts_of e)) (map (λ t. t.0) ts)) ≡ fine →
    list_all (λ b. b) (map (is_sound_array (has_kind vars)) (map (λ t. t.0) ts)) ≡ true →
    greatest_by (λ m. m) (map nesting_of (map (λ t. t.0) ts)) ≤ n →
    AreParts vars n ts ks ds
parts_hold vars n ts ks ds kinds dims subs sound deep =
    let k = values_by {B = Kind} (λ (p : KindPart). p.kind) kind_part_of (λ (t : Whole vars). t.0) (λ t. the_kind t.0) (λ t b e. kind_is t.0 b e) ts ks kinds in
    let d = values_by {B = Dims} (λ (p : DimsPart). p.dims) dims_part_of (λ (t : Whole vars). t.0) (λ t. shape_of t.0) (λ t b e. dims_agree t.0 b e) ts ds dims in
    record {
      kinds = k.1;
      dims = d.1;
      gives = give_each vars n (λ t. t) ts k.0 d.0 (subs_each (λ (p : ArrayExpr × Checked). p.1) (λ e. (e, subscripts_of e)) (λ (t : Whole vars). t.0) ts subs) (sound_each (λ b. b) (is_sound_array (has_kind vars)) (λ (t : Whole vars). t.0) ts sound) (deep_each (λ m. m) nesting_of (λ (t : Whole vars). t.0) n ts deep);
    }

-- each operand at an index of the operation
pub terms_at : (vars : List FlatVar) (n : ℕ) (k : Kind) (d : Dims) (i : Index) → Suits d i → (ts : List (Bool × Bool × Whole vars)) → Each (λ t. Gives vars n t.2.0) ts → Each (λ a. Widens a k) (map (λ t. the_kind t.2.0) ts) → Each (λ (op : Operand). Beside d op.2) (map (λ t. (t.0, t.1, shape_of t.2.0)) ts) →
    Each (λ t. IsGood vars k n t.1) (map {A = Bool × Bool × Part} {B = Bool × FlatExpr} (λ t. (t.0, at t.2 i)) (map signed_element (map (signed_whole vars) ts)))
terms_at vars n k d i s [] g w b = tt
terms_at vars n k d i s (t ∷ ts) g w b = (at_given vars n k d i t.2.0 s g.0 w.0 b.0, terms_at vars n k d i s ts g.1 w.1 b.1)

pub parts_at : (vars : List FlatVar) (n : ℕ) (k : Kind) (d : Dims) (i : Index) → Suits d i → (ts : List (Whole vars)) → Each (λ t. Gives vars n t.0) ts → Each (λ a. Widens a k) (map (λ t. the_kind t.0) ts) → Each (λ x. Beside d x) (map (λ t. shape_of t.0) ts) →
    Each (IsGood vars k n) (map {A = Part} (λ part. at part i) (map part_of (map (λ t. t.0) ts)))
parts_at vars n k d i s [] g w b = tt
parts_at vars n k d i s (t ∷ ts) g w b = (at_given vars n k d i t.0 s g.0 w.0 b.0, parts_at vars n k d i s ts g.1 w.1 b.1)

pub nonempty_thrice : {X Y Z W : Type 0} (f : Z → W) (g : Y → Z) (h : X → Y) (p : Y → Bool) (xs : List X) → is_nonempty (map p (map h xs)) ≡ true → is_nonempty (map f (map g (map h xs))) ≡ true
nonempty_thrice f g h p [] e = e
nonempty_thrice f g h p (x ∷ xs) e = refl

pub each_imply : {A : Type 0} (P Q : A → Type 0) → ((a : A) → P a → Q a) → (xs : List A) → Each P xs → Each Q xs
each_imply P Q h [] e = tt
each_imply P Q h (x ∷ xs) e = (h x e.0, each_imply P Q h xs e.1)

-- ---- nodes

pub checked_both : (a b : Checked) → both a b ≡ fine → (a ≡ fine) × (b ≡ fine)
checked_both (Ok u) b e = (refl, e)
checked_both (Err broken) b e = absurd (not_broken broken (tt {0}) e)

abbrev pub LawOf : (vars : List FlatVar) → ArrayNode-F (Node vars) (Whole vars) → Type 0
LawOf vars node = LayerLaw vars (map-ArrayNode (Node vars) (Whole vars) ArrayNode ArrayExpr (λ t. t.0) (λ t. t.0) node)

pub law_Vars : (vars : List FlatVar) (numbers : List ℕ) (kind : Kind) (dims : Dims) (subs : List Subscript) → LawOf vars (ArrayNode-F.Vars numbers kind dims subs)
law_Vars vars numbers kind dims subs place k d n ks ds ss sound deep i is =
    let three = and_three _ _ _ sound in
    let inside = located_index dims subs i three.1 ss (subst (λ x. is_index x i ≡ true) (sym (ok_same (subscripted subs dims) d ds)) is) in
    of_kind (ok_same kind k ks) (good_Var vars kind n _ (element_holds (has_kind vars kind) numbers dims (located subs i) three.0 three.2 inside))

pub law_Sum : (vars : List FlatVar) (ts : List (Bool × Bool × Whole vars)) → LawOf vars (ArrayNode-F.Sum ts)
law_Sum vars ts place k d n ks ds ss sound deep i is =
    let a = after _ (arithmetic place) k ks in
    let b = after _ (chain (added place)) d ds in
    let two = and_two _ _ sound in
    let all = operands_hold vars n ts a.0 b.0 a.1 b.1 ss two.1 deep in
    let numbers = numbers_agree place a.0 k a.2 in
    good_sum_of vars k numbers.number n _ (terms_at vars n k d i (index_suits d i is) ts all.gives
    (subst (Each (λ x. Widens x k)) (sym all.kinds) numbers.each)
    (subst (Each (λ (op : Operand). Beside d op.2)) (sym all.dims) (sum_beside place b.0 d b.2)))

flags_of : (vars : List FlatVar) (ts : List (Bool × Bool × Whole vars)) → list_any {X = Bool × Bool × KindPart} (λ t. t.0) (map signed_kind (map (signed_whole vars) ts)) ≡ false → Each (λ t. t.0 ≡ false) ts
flags_of vars [] e = tt
flags_of vars (t ∷ ts) e = by t.0 refl e (λ h. flags_of vars ts h)
  where
    by : (b : Bool) → t.0 ≡ b → (b || list_any {X = Bool × Bool × KindPart} (λ t. t.0) (map signed_kind (map (signed_whole vars) ts))) ≡ false →
        (list_any {X = Bool × Bool × KindPart} (λ t. t.0) (map signed_kind (map (signed_whole vars) ts)) ≡ false → Each (λ t. t.0 ≡ false) ts) → Each (λ t. t.0 ≡ false) (t ∷ ts)
    by true is e more = let f : true ≡ false = e in cc
    by false is e more = (is, more e)

record Divides (divides : Bool) (base k : Kind) : Type 0 where
  pub number : IsNumber k
  pub widens : Widens base k
  pub whole_only : k ≡ Integer → divides ≡ false

divided_kind : (divides : Bool) (base k : Kind) → IsNumber base → divided divides base ≡ k → Divides divides base k
divided_kind false base k n is = record { number = subst IsNumber is n; widens = subst (Widens base) is (λ o e. e); whole_only = λ h. refl }
divided_kind true base k n is = record { number = subst IsNumber is tt; widens = subst (Widens base) is (number_widens base n); whole_only = λ h. no (is ∙ h) }
  where
    no : {A : Type 0} → Real ≡ Integer → A
    no e = let f = e in cc

pub law_Product : (vars : List FlatVar) (ts : List (Bool × Bool × Whole vars)) → LawOf vars (ArrayNode-F.Product ts)
law_Product vars [] place k d n ks ds ss sound deep i is = let f : false ≡ true = sound in cc
law_Product vars (t ∷ ts) place k d n ks ds ss sound deep i is =
    let divides = list_any {X = Bool × Bool × KindPart} (λ t. t.0) (map signed_kind (map (signed_whole vars) (t ∷ ts))) in
    let whole_sum = after _ (λ kind. Ok (divided divides kind)) k ks in
    let a = after _ (arithmetic place) whole_sum.0 whole_sum.1 in
    let b = after _ (chain (multiplied place)) d ds in
    let two = and_two _ _ sound in
    let all = operands_hold vars n (t ∷ ts) a.0 b.0 a.1 b.1 ss two.1 deep in
    let numbers = numbers_agree place a.0 whole_sum.0 a.2 in
    let over = divided_kind divides whole_sum.0 k numbers.number (ok_same _ k whole_sum.2) in
    let widen = subst (Each (λ x. Widens x k)) (sym all.kinds) (each_imply (λ x. Widens x whole_sum.0) (λ x. Widens x k) (λ x w. through x whole_sum.0 k w over.widens) a.0 numbers.each) in
    let begin : IsChain vars k n (shape_of t.2.0) (extended unbegun (t.0, t.1, part_of t.2.0)) = record {
      dims_are = refl;
      factors = λ j s. record {
        first = subst (λ b. (if b then false else true) ≡ true) (sym (begun t.0 two.0)) refl;
        whole_only = λ h. ap (λ b. b || false) (begun t.0 two.0);
        each = (widened vars (the_kind t.2.0) k n (at (part_of t.2.0) j) widen.0 (all.gives.0 _ s), tt);
      };
    } in
    let last = chain_rest vars k over.number n place (shape_of t.2.0) d (extended unbegun (t.0, t.1, part_of t.2.0)) ts begin all.gives.1 widen.1
    (plain_flags ts (λ h. (flags_of vars (t ∷ ts) (over.whole_only h)).1))
    (ap (λ ops. chain (multiplied place) ops) all.dims ∙ b.2) in
    good_product_of vars k over.number n _ (last.factors i (index_suits d i is))
  where
    begun : (flag : Bool) → not flag ≡ true → flag ≡ false
    begun false e = refl
    begun true e = let f : false ≡ true = e in cc

    plain_flags : (ts : List (Bool × Bool × Whole vars)) → (k ≡ Integer → Each (λ t. t.0 ≡ false) ts) → Each (λ t. k ≡ Integer → t.0 ≡ false) ts
    plain_flags [] f = tt
    plain_flags (t ∷ ts) f = ((λ h. (f h).0), plain_flags ts (λ h. (f h).1))

power_beside : (place : Place) (dotted : Bool) (a b d : Dims) → raised_dims place dotted a b ≡ Ok d → Beside d a × Beside d b
power_beside place true a b d e = spread_beside place true a b d e
power_beside place false a b d e = let none = scalars_none place (a ∷ b ∷ []) d e in (Beside.alone none.0, Beside.alone none.1.0)

pub law_Power : (vars : List FlatVar) (base : Whole vars) (dotted : Bool) (exponent : Whole vars) → LawOf vars (ArrayNode-F.Power base dotted exponent)
law_Power vars base dotted exponent place k d n ks ds ss sound deep i is =
    let a = after (kind_of base.0) (λ x. and_then (kind_of exponent.0) (raised place x)) k ks in
    let b = after (kind_of exponent.0) (raised place a.0) k a.2 in
    let c = after (arithmetic place (a.0 ∷ b.0 ∷ [])) (λ _. Ok Real) k b.2 in
    let p = after (dims_of base.0) (λ x. and_then (dims_of exponent.0) (raised_dims place dotted x)) d ds in
    let q = after (dims_of exponent.0) (raised_dims place dotted p.0) d p.2 in
    let numbers = numbers_agree place (a.0 ∷ b.0 ∷ []) c.0 c.1 in
    let beside = power_beside place dotted p.0 q.0 d q.2 in
    let s = checked_both (subscripts_of base.0) (subscripts_of exponent.0) ss in
    let t = and_two _ _ sound in
    let l = deep_both _ _ n deep in
    let real : Widens c.0 Real = number_widens c.0 numbers.number in
    let x = part_at vars n base a.0 p.0 a.1 p.1 s.0 t.0 l.0 i (suits_beside d p.0 i beside.0 (index_suits d i is)) in
    let y = part_at vars n exponent b.0 q.0 b.1 q.1 s.1 t.1 l.1 i (suits_beside d q.0 i beside.1 (index_suits d i is)) in
    of_kind (ok_same Real k c.2)
    (good_Power vars n _ _ (widened vars a.0 Real n _ (through a.0 c.0 Real numbers.each.0 real) x) (widened vars b.0 Real n _ (through b.0 c.0 Real numbers.each.1.0 real) y))

pub law_Relation : (vars : List FlatVar) (op : RelOp) (left right : Whole vars) → LawOf vars (ArrayNode-F.Relation op left right)
law_Relation vars op left right place k d n ks ds ss sound deep i is =
    let a = after (kind_of left.0) (λ x. and_then (kind_of right.0) (relation place x)) k ks in
    let b = after (kind_of right.0) (relation place a.0) k a.2 in
    let r = related_kinds place a.0 b.0 k b.2 in
    let p = after (dims_of left.0) (λ x. and_then (dims_of right.0) (related place x)) d ds in
    let q = after (dims_of right.0) (related place p.0) d p.2 in
    let none = scalars_none place (p.0 ∷ q.0 ∷ []) d q.2 in
    let s = checked_both (subscripts_of left.0) (subscripts_of right.0) ss in
    let t = and_two _ _ sound in
    let l = deep_both _ _ n deep in
    let x = part_at vars n left a.0 p.0 a.1 p.1 s.0 t.0 l.0 i (suits_beside d p.0 i (Beside.alone none.0) (index_suits d i is)) in
    let y = part_at vars n right b.0 q.0 b.1 q.1 s.1 t.1 l.1 i (suits_beside d q.0 i (Beside.alone none.1.0) (index_suits d i is)) in
    of_kind r.2
    (good_Relation vars r.0 n op _ _ (widened vars a.0 r.0 n _ r.1.0 x) (widened vars b.0 r.0 n _ r.1.1 y))

pub law_Not : (vars : List FlatVar) (inner : Whole vars) → LawOf vars (ArrayNode-F.Not inner)
law_Not vars inner place k d n ks ds ss sound deep i is =
    let a = after (kind_of inner.0) (truth place) k ks in
    let r = truth_kind place a.0 k a.2 in
    let p = after (dims_of inner.0) (scalar place) d ds in
    let none = scalar_agrees place p.0 d p.2 in
    let x = part_at vars n inner a.0 p.0 a.1 p.1 ss sound deep i (suits_beside d p.0 i (Beside.alone none.0) (index_suits d i is)) in
    of_kind r.0 (good_Not vars n _ (of_kind r.1 x))

-- the operands of `and` and `or`
truths_at : (vars : List FlatVar) (ts : List (Whole vars)) (place : Place) (k : Kind) (d : Dims) (n : ℕ) →
    and_then (kinds_of (map kind_part_of (map (λ t. t.0) ts))) (logical place) ≡ Ok k →
    and_then (dims_of_all (map dims_part_of (map (λ t. t.0) ts))) (scalars place) ≡ Ok d →
    every {A = ArrayExpr × Checked} (λ p. p.1) (map (λ e. (e, subscripts_of e)) (map (λ t. t.0) ts)) ≡ fine →
    list_all (λ b. b) (map (is_sound_array (has_kind vars)) (map (λ t. t.0) ts)) ≡ true →
    greatest_by (λ m. m) (map nesting_of (map (λ t. t.0) ts)) ≤ n → (i : Index) → is_index d i ≡ true →
    (Boolean ≡ k) × Each (IsGood vars Boolean n) (map {A = Part} (λ part. at part i) (map part_of (map (λ t. t.0) ts)))
truths_at vars ts place k d n ks ds ss sound deep i is =
    let a = after _ (logical place) k ks in
    let b = after _ (scalars place) d ds in
    let all = parts_hold vars n ts a.0 b.0 a.1 b.1 ss sound deep in
    let r = truths_agree place a.0 k a.2 in (
      r.0,
      parts_at vars n Boolean d i (index_suits d i is) ts all.gives
          (subst (Each (λ x. Widens x Boolean)) (sym all.kinds) (each_imply (λ x. x ≡ Boolean) (λ x. Widens x Boolean) (λ x h. subst (λ y. Widens y Boolean) (sym h) (λ o e. e)) a.0 r.1))
          (subst (Each (λ x. Beside d x)) (sym all.dims) (each_imply (λ x. x ≡ []) (λ x. Beside d x) (λ x h. Beside.alone h) b.0 (scalars_none place b.0 d b.2))),
    )

pub law_All : (vars : List FlatVar) (ts : List (Whole vars)) → LawOf vars (ArrayNode-F.All ts)
law_All vars ts place k d n ks ds ss sound deep i is =
    let two = and_two _ _ sound in
    let r = truths_at vars ts place k d n ks ds ss two.1 deep i is in
    of_kind r.0 (good_All vars n _ (nonempty_thrice (λ (part : Part). at part i) part_of (λ (t : Whole vars). t.0) (is_sound_array (has_kind vars)) ts two.0) r.1)

pub law_Any : (vars : List FlatVar) (ts : List (Whole vars)) → LawOf vars (ArrayNode-F.Any ts)
law_Any vars ts place k d n ks ds ss sound deep i is =
    let two = and_two _ _ sound in
    let r = truths_at vars ts place k d n ks ds ss two.1 deep i is in
    of_kind r.0 (good_Any vars n _ (nonempty_thrice (λ (part : Part). at part i) part_of (λ (t : Whole vars). t.0) (is_sound_array (has_kind vars)) ts two.0) r.1)
