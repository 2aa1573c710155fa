-- Each element of a sound array expression that breaks no rule is sound, and of the kind of the expression.
use Rattle.std.proofs.Common.{◌≡◌, ◌≤◌, ◌<◌, ◌+◌, ◌-◌, ℕ, suc, zero, ℤ, pos, max, Bool, true, false, ◌&&◌, List, [], ◌∷◌, ◌++◌, map, length, Option, Some, None, refl, ap, sym, ◌∙◌, subst, arith, if◌then◌else◌, nat_eq}
use Rattle.std.specs.Prelude.{Ok, nat_le, slice_get}
use Rattle.mo_syntax.specs.Outcome.{and_then, breaks}
use Rattle.mo_syntax.specs.declared.place.Place.{Place}
use Rattle.mo_syntax.specs.declared.meaning.ClassId.{ClassId}
use Rattle.mo_syntax.specs.declared.meaning.Kind.{Kind}
use Rattle.mo_syntax.specs.declared.meaning.Kind.TheVariants.{Real, Whole as Integer, Truth as Boolean, Str as String, Enumeration}
use Rattle.mo_syntax.specs.declared.rules.TheConstants.{WRONG_TYPE}
use Rattle.mo_tables.specs.declared.functions.TheConstants.{IDENTITY, ONES}
use Rattle.mo_flat.specs.declared.array.ArrayExpr.{ArrayExpr, ArrayExpr-F, roll-ArrayExpr, map-ArrayExpr, fold-roll-ArrayExpr, para-roll-ArrayExpr, ind-ArrayExpr}
use Rattle.mo_flat.specs.declared.array.ArrayNode.{ArrayNode, ArrayNode-F, roll-ArrayNode, map-ArrayNode}
use Rattle.mo_flat.specs.declared.expr.FlatExpr.{FlatExpr}
use Rattle.mo_flat.specs.declared.expr.FlatExpr.TheVariants.{Whole as number, Literal, Time, Decimal}
use Rattle.mo_flat.specs.declared.model.FlatVar.{FlatVar}
use Rattle.mo_flat.specs.Sound.{is_nonempty}
use Rattle.mo_flat.specs.SoundArray.{has_kind, is_sound_array, array_node, array_part, nesting_of, nesting_node, nesting_part}
use Rattle.mo_flat.proofs.Good.{Each, IsGood, Widens, widened, number_widens, good_Whole, good_Decimal, good_Str, good_Truth, good_Literal, good_Time, good_Der, good_If}
use Rattle.mo_typing.specs.Kinds.{kind_of, kind_node, kind_part, real_of, truth, alike, call, takes_sizes, kinds_of_branches, branch_kind, condition}
use Rattle.mo_typing.specs.Kinds.{part_of as kind_part_of, Part as KindPart}
use Rattle.mo_typing.specs.Dims.{Dims, dims_of, dims_node, dims_part, scalar, dims_of_branches, branch_dims, dims_of_all, sizes_of, filled, shaped}
use Rattle.mo_typing.specs.Dims.{part_of as dims_part_of, Part as DimsPart, alike as alike_dims, call as call_dims, condition as condition_dims}
use Rattle.mo_typing.specs.Shape.{shape_of}
use Rattle.mo_typing.specs.Subscripts.{Checked, fine, both, subscripts_of, subscripts_node, subscripts_part}
use Rattle.mo_typing.specs.Indices.{Index, is_index, is_diagonal}
use Rattle.mo_typing.proofs.Agreeing.{ok_same, not_broken, after, under, scalar_agrees}
use Rattle.mo_typing.proofs.ShapeLaw.{dims_agree}
use Rattle.mo_arrays.specs.Elements.{Part, element_of, element_node, element_part, at, element_in, element_among, constant}
use Rattle.mo_arrays.specs.steps.Parts.{part_of}
use Rattle.mo_arrays.proofs.SoundKinds.{truth_kind, real_kind, alike_widen}
use Rattle.mo_arrays.proofs.SoundDims.{Suits, Beside, index_suits, suits_beside, alike_same, and_two, and_three, before}
use Rattle.mo_arrays.proofs.SoundParts.{of_kind, of_nesting, Law, Whole, Gives, the_kind, kind_is, part_gives, part_at, values_by, subs_each, sound_each, deep_both, deep_each}
use Rattle.mo_arrays.proofs.SoundCalls.{OneGood, TwoGood, one_good, two_good}
use Rattle.mo_arrays.proofs.SoundNodes.{NodeLaw, Node, KindAsked, DimsAsked, Element, LawOf, rolled, parts_hold, checked_both, law_Vars, law_Sum, law_Product, law_Power, law_Relation, law_Not, law_All, law_Any}

-- ---- if-expressions

abbrev branch_whole : (vars : List FlatVar) → Whole vars × Whole vars → ArrayExpr × ArrayExpr
branch_whole vars b = (b.0.0, b.1.0)

abbrev branch_kinds : ArrayExpr × ArrayExpr → KindPart × KindPart
branch_kinds b = (kind_part_of b.0, kind_part_of b.1)

abbrev branch_sizes : ArrayExpr × ArrayExpr → DimsPart × DimsPart
branch_sizes b = (dims_part_of b.0, dims_part_of b.1)

abbrev branch_checked : ArrayExpr × ArrayExpr → (ArrayExpr × Checked) × (ArrayExpr × Checked)
branch_checked b = ((b.0, subscripts_of b.0), (b.1, subscripts_of b.1))

abbrev branch_sound : List FlatVar → ArrayExpr × ArrayExpr → Bool × Bool
branch_sound vars b = (is_sound_array (has_kind vars) b.0, is_sound_array (has_kind vars) b.1)

abbrev branch_nesting : ArrayExpr × ArrayExpr → ℕ × ℕ
branch_nesting b = (nesting_of b.0, nesting_of b.1)

abbrev branch_elements : ArrayExpr × ArrayExpr → Part × Part
branch_elements b = (part_of b.0, part_of b.1)

-- what is known of a branch
record IsBranch (vars : List FlatVar) (n : ℕ) (k : Kind) (d : Dims) (b : Whole vars × Whole vars) : Type 0 where
  pub kind : branch_kind (branch_kinds (branch_whole vars b)) ≡ Ok (the_kind b.1.0)
  pub dims : branch_dims (branch_sizes (branch_whole vars b)) ≡ Ok (shape_of b.1.0)
  pub subs : both (subscripts_of b.0.0) (subscripts_of b.1.0) ≡ fine
  pub sound : (is_sound_array (has_kind vars) b.0.0 && is_sound_array (has_kind vars) b.1.0) ≡ true
  pub deep : max (nesting_of b.0.0) (nesting_of b.1.0) ≤ n
  pub widens : Widens (the_kind b.1.0) k
  pub same : shape_of b.1.0 ≡ d

branch_at : (vars : List FlatVar) (n : ℕ) (k : Kind) (d : Dims) (i : Index) → Suits d i → (b : Whole vars × Whole vars) → IsBranch vars n k d b → IsGood vars Boolean n (at (part_of b.0.0) i) × IsGood vars k n (at (part_of b.1.0) i)
branch_at vars n k d i s b h =
    let c = after (condition (kind_part_of b.0.0)) (λ _. kind_of b.1.0) (the_kind b.1.0) h.kind in
    let t = after (kind_of b.0.0) (truth (kind_part_of b.0.0).place) c.0 c.1 in
    let is = truth_kind (kind_part_of b.0.0).place t.0 c.0 t.2 in
    let p = after (condition_dims (dims_part_of b.0.0)) (λ _. dims_of b.1.0) (shape_of b.1.0) h.dims in
    let q = after (dims_of b.0.0) (scalar (dims_part_of b.0.0).place) p.0 p.1 in
    let none = scalar_agrees (dims_part_of b.0.0).place q.0 p.0 q.2 in
    let u = checked_both (subscripts_of b.0.0) (subscripts_of b.1.0) h.subs in
    let v = and_two _ _ h.sound in
    let l = deep_both _ _ n h.deep in
    let x = part_at vars n b.0 t.0 q.0 t.1 q.1 u.0 v.0 l.0 i (suits_beside d q.0 i (Beside.alone none.0) s) in
    let y = part_at vars n b.1 (the_kind b.1.0) (shape_of b.1.0) c.2 p.2 u.1 v.1 l.1 i (suits_beside d (shape_of b.1.0) i (Beside.same h.same) s) in
    (of_kind is.1 x, widened vars (the_kind b.1.0) k n _ h.widens y)

branches_at : (vars : List FlatVar) (n : ℕ) (k : Kind) (d : Dims) (i : Index) → Suits d i → (bs : List (Whole vars × Whole vars)) →
    Each (λ b. branch_kind (branch_kinds (branch_whole vars b)) ≡ Ok (the_kind b.1.0)) bs → Each (λ b. branch_dims (branch_sizes (branch_whole vars b)) ≡ Ok (shape_of b.1.0)) bs →
    Each (λ b. both (subscripts_of b.0.0) (subscripts_of b.1.0) ≡ fine) bs → Each (λ b. (is_sound_array (has_kind vars) b.0.0 && is_sound_array (has_kind vars) b.1.0) ≡ true) bs → Each (λ b. max (nesting_of b.0.0) (nesting_of b.1.0) ≤ n) bs →
    Each (λ x. Widens x k) (map (λ b. the_kind b.1.0) bs) → Each (λ x. x ≡ d) (map (λ b. shape_of b.1.0) bs) →
    Each (λ b. IsGood vars Boolean n b.0 × IsGood vars k n b.1) (map {A = Part × Part} {B = FlatExpr × FlatExpr} (λ b. (at b.0 i, at b.1 i)) (map branch_elements (map (branch_whole vars) bs)))
branches_at vars n k d i s [] c e u v l w same = tt
branches_at vars n k d i s (b ∷ bs) c e u v l w same =
    (branch_at vars n k d i s b (record { kind = c.0; dims = e.0; subs = u.0; sound = v.0; deep = l.0; widens = w.0; same = same.0 }), branches_at vars n k d i s bs c.1 e.1 u.1 v.1 l.1 w.1 same.1)

each_split : {A : Type 0} (P : A → Type 0) (xs : List A) (x : A) → Each P (xs ++ x ∷ []) → Each P xs × P x
each_split P [] x e = (tt, e.0)
each_split P (y ∷ xs) x e = let r = each_split P xs x e.1 in ((e.0, r.0), r.1)

some_branch : (vars : List FlatVar) (i : Index) (bs : List (Whole vars × Whole vars)) → is_nonempty (map (branch_sound vars) (map (branch_whole vars) bs)) ≡ true → is_nonempty (map {A = Part × Part} {B = FlatExpr × FlatExpr} (λ b. (at b.0 i, at b.1 i)) (map branch_elements (map (branch_whole vars) bs))) ≡ true
some_branch vars i [] e = e
some_branch vars i (b ∷ bs) e = refl

law_If : (vars : List FlatVar) (bs : List (Whole vars × Whole vars)) (other : Whole vars) → LawOf vars (ArrayNode-F.If bs other)
law_If vars bs other place k d n ks ds ss sound deep i is =
    let a = after (kinds_of_branches (map branch_kinds (map (branch_whole vars) bs))) (λ kinds. and_then (kind_of other.0) (λ kind. alike place (kinds ++ kind ∷ []))) k ks in
    let b = after (kind_of other.0) (λ kind. alike place (a.0 ++ kind ∷ [])) k a.2 in
    let p = after (dims_of_branches (map branch_sizes (map (branch_whole vars) bs))) (λ all. and_then (dims_of other.0) (λ dims. alike_dims place (all ++ dims ∷ []))) d ds in
    let q = after (dims_of other.0) (λ dims. alike_dims place (p.0 ++ dims ∷ [])) d p.2 in
    let u = checked_both _ (subscripts_of other.0) ss in
    let v = and_three _ _ _ sound in
    let l = deep_both _ _ n deep in
    let w = each_split (λ x. Widens x k) a.0 b.0 (alike_widen place (a.0 ++ b.0 ∷ []) k b.2) in
    let same = each_split (λ x. x ≡ d) p.0 q.0 (alike_same place (p.0 ++ q.0 ∷ []) d q.2) in
    let kinds = values_by {B = Kind} branch_kind branch_kinds (branch_whole vars) (λ b. the_kind b.1.0) (λ b x e. let c = after (condition (kind_part_of b.0.0)) (λ _. kind_of b.1.0) x e in kind_is b.1.0 x c.2) bs a.0 a.1 in
    let dims = values_by {B = Dims} branch_dims branch_sizes (branch_whole vars) (λ b. shape_of b.1.0) (λ b x e. let c = after (condition_dims (dims_part_of b.0.0)) (λ _. dims_of b.1.0) x e in dims_agree b.1.0 x c.2) bs p.0 p.1 in
    let s = index_suits d i is in
    good_If vars k n _ _ (some_branch vars i bs v.0)
    (branches_at vars n k d i s bs kinds.0 dims.0
    (subs_each (λ (b : (ArrayExpr × Checked) × (ArrayExpr × Checked)). both b.0.1 b.1.1) branch_checked (branch_whole vars) bs u.0)
    (sound_each (λ (b : Bool × Bool). b.0 && b.1) (branch_sound vars) (branch_whole vars) bs v.1)
    (deep_each (λ (b : ℕ × ℕ). max b.0 b.1) branch_nesting (branch_whole vars) n bs l.0)
    (subst (Each (λ x. Widens x k)) (sym kinds.1) w.0) (subst (Each (λ x. x ≡ d)) (sym dims.1) same.0))
    (widened vars b.0 k n _ w.1 (part_at vars n other b.0 q.0 b.1 q.1 u.1 v.2 l.1 i (suits_beside d q.0 i (Beside.same same.1) s)))

-- ---- calls, derivatives, arrays

law_Call : (vars : List FlatVar) (code : ℕ) (args : List (Whole vars)) → LawOf vars (ArrayNode-F.Call code args)
unfolding OneGood TwoGood
law_Call vars code [] place k d n ks ds ss sound deep i is = absurd (not_broken _ k ks)
law_Call vars code (x ∷ []) place k d n ks ds ss sound deep i is =
    let a = after _ (call place code) k ks in
    let b = after _ (call_dims place code) d ds in
    let two = and_two _ _ sound in
    let all = parts_hold vars n (x ∷ []) a.0 b.0 a.1 b.1 ss two.1 deep in
    one_good vars n code two.0 place x.0 k d i (ap (call place code) all.kinds ∙ a.2) (ap (call_dims place code) all.dims ∙ b.2) is all.gives.0
law_Call vars code (x ∷ y ∷ []) place k d n ks ds ss sound deep i is =
    let a = after _ (call place code) k ks in
    let b = after _ (call_dims place code) d ds in
    let two = and_two _ _ sound in
    let all = parts_hold vars n (x ∷ y ∷ []) a.0 b.0 a.1 b.1 ss two.1 deep in
    two_good vars n code two.0 place x.0 y.0 k d i (ap (call place code) all.kinds ∙ a.2) (ap (call_dims place code) all.dims ∙ b.2) is all.gives.0 all.gives.1.0
law_Call vars code (x ∷ y ∷ z ∷ more) place k d n ks ds ss sound deep i is =
    let a = after _ (call place code) k ks in
    let b = after _ (call_dims place code) d ds in
    let two = and_two _ _ sound in
    let all = parts_hold vars n (x ∷ y ∷ z ∷ more) a.0 b.0 a.1 b.1 ss two.1 deep in
    absurd (not_broken _ k (ap (call place code) all.kinds ∙ a.2))

law_Der : (vars : List FlatVar) (inner : Whole vars) → LawOf vars (ArrayNode-F.Der inner)
law_Der vars inner place k d n ks ds ss sound deep i is =
    let a = after (kind_of inner.0) (real_of place) k ks in
    let r = real_kind place a.0 k a.2 in
    let l : nesting_of inner.0 ≤ n - 1 = omega (arith, deep) in
    let same : n - 1 + 1 ≡ n = omega (arith, deep) in
    let x = part_at vars (n - 1) inner a.0 d a.1 ds ss sound l i (index_suits d i is) in
    let y = good_Der vars (n - 1) _ (widened vars a.0 Real (n - 1) _ (number_widens a.0 r.0) x) in
    of_kind r.1 (of_nesting same y)

-- element k of an array
one_of : (vars : List FlatVar) (n : ℕ) (k : Kind) (d : Dims) (i : Index) → is_index d i ≡ true → (ts : List (Whole vars)) (j : ℕ) → j < length ts → Each (λ t. Gives vars n t.0) ts → Each (λ x. Widens x k) (map (λ t. the_kind t.0) ts) → Each (λ x. x ≡ d) (map (λ t. shape_of t.0) ts) →
    IsGood vars k n (element_in (slice_get (map part_of (map (λ t. t.0) ts)) j) i)
one_of vars n k d i is [] j l g w same = absurd (omega (arith, l))
one_of vars n k d i is (t ∷ ts) zero l g w same = widened vars (the_kind t.0) k n _ w.0 (g.0 i (subst (λ x. is_index x i ≡ true) (sym same.0) is))
one_of vars n k d i is (t ∷ ts) (suc j) l g w same = one_of vars n k d i is ts j (omega (arith, l)) g.1 w.1 same.1

mapped_length : {X Y Z : Type 0} (g : Y → Z) (h : X → Y) (xs : List X) → length (map g (map h xs)) ≡ length xs
mapped_length g h [] = refl
mapped_length g h (x ∷ xs) = ap suc (mapped_length g h xs)

array_at : (vars : List FlatVar) (n : ℕ) (k : Kind) (d : Dims) (ts : List (Whole vars)) (i : Index) → is_index (length ts ∷ d) i ≡ true → Each (λ t. Gives vars n t.0) ts → Each (λ x. Widens x k) (map (λ t. the_kind t.0) ts) → Each (λ x. x ≡ d) (map (λ t. shape_of t.0) ts) →
    IsGood vars k n (element_among (map part_of (map (λ t. t.0) ts)) i)
array_at vars n k d ts [] is g w same = let f : false ≡ true = is in cc
array_at vars n k d ts (j ∷ i) is g w same =
    let three = and_three (nat_le 1 j) (nat_le j (length ts)) (is_index d i) is in
    one_of vars n k d i three.2 ts (j - 1) (before (length ts) j (record { low = three.0; high = three.1 })) g w same

law_Array : (vars : List FlatVar) (ts : List (Whole vars)) → LawOf vars (ArrayNode-F.Array ts)
law_Array vars ts place k d n ks ds ss sound deep i is =
    let asked : List DimsPart = map dims_part_of (map (λ t. t.0) ts) in
    let a = after _ (alike place) k ks in
    let b = after (and_then (dims_of_all asked) (alike_dims place)) (λ dims. Ok (length asked ∷ dims)) d ds in
    let c = after (dims_of_all asked) (alike_dims place) b.0 b.1 in
    let two = and_two _ _ sound in
    let all = parts_hold vars n ts a.0 c.0 a.1 c.1 ss two.1 deep in
    let counted : length ts ∷ b.0 ≡ d = ap (λ m. m ∷ b.0) (sym (mapped_length dims_part_of (λ (t : Whole vars). t.0) ts)) ∙ ok_same (length asked ∷ b.0) d b.2 in
    array_at vars n k b.0 ts i (subst (λ x. is_index x i ≡ true) (sym counted) is) all.gives (subst (Each (λ x. Widens x k)) (sym all.kinds) (alike_widen place a.0 k a.2)) (subst (Each (λ x. x ≡ b.0)) (sym all.dims) (alike_same place c.0 b.0 c.2))

law_Size : (vars : List FlatVar) (inner : Whole vars) (which : Option (Place × ℤ)) → LawOf vars (ArrayNode-F.Size inner which)
law_Size vars inner None place k d n ks ds ss sound deep i is =
    let a = after (kind_of inner.0) (λ _. Ok Integer) k ks in
    of_kind (ok_same Integer k a.2) (good_Whole vars Integer tt n _)
law_Size vars inner (Some which) place k d n ks ds ss sound deep i is =
    let a = after (kind_of inner.0) (λ _. Ok Integer) k ks in
    of_kind (ok_same Integer k a.2) (good_Whole vars Integer tt n _)

constant_good : (vars : List FlatVar) (n code : ℕ) (i : Index) → IsGood vars Integer n (constant code i)
constant_good vars n code i = choose (nat_eq code ONES) (nat_eq code IDENTITY && is_diagonal i)
  where
    choose : (a b : Bool) → IsGood vars Integer n (if a then number (pos 1) else (if b then number (pos 1) else number (pos 0)))
    choose true b = good_Whole vars Integer tt n (pos 1)
    choose false true = good_Whole vars Integer tt n (pos 1)
    choose false false = good_Whole vars Integer tt n (pos 0)

law_Sized : (vars : List FlatVar) (code : ℕ) (part : Option (Whole vars)) (sizes : List (Place × ℤ)) → LawOf vars (ArrayNode-F.Sized code part sizes)
law_Sized vars code None sizes place k d n ks ds ss sound deep i is =
    let t = under (takes_sizes code (length sizes)) (Ok Integer) _ k ks in
    of_kind (ok_same Integer k t.1) (constant_good vars n code i)
law_Sized vars code (Some part) sizes place k d n ks ds ss sound deep i is =
    let a = after (kind_of part.0) (λ kind. if takes_sizes code (length sizes) then Ok kind else breaks WRONG_TYPE place) k ks in
    let t = under (takes_sizes code (length sizes)) (Ok a.0) _ k a.2 in
    let p = after (dims_of part.0) (λ dims. and_then (sizes_of sizes) (λ ns. filled place code dims ns)) d ds in
    let q = after (sizes_of sizes) (λ ns. filled place code p.0 ns) d p.2 in
    let r = under (takes_sizes code (length q.0)) (and_then (scalar place p.0) (λ _. Ok (shaped code q.0))) _ d q.2 in
    let f = after (scalar place p.0) (λ _. Ok (shaped code q.0)) d r.1 in
    let none = (scalar_agrees place p.0 f.0 f.1).0 in
    let two = and_two _ _ sound in
    of_kind (ok_same a.0 k t.1) (part_gives vars n part a.0 p.0 a.1 p.1 ss two.1 deep [] (subst (λ x. is_index x [] ≡ true) (sym none) refl))

-- ---- every node, every expression

law_Whole : (vars : List FlatVar) (v : ℤ) → LawOf vars (ArrayNode-F.Whole v)
law_Whole vars v place k d n ks ds ss sound deep i is = of_kind (ok_same Integer k ks) (good_Whole vars Integer tt n v)

law_Decimal : (vars : List FlatVar) (text : List ℕ) → LawOf vars (ArrayNode-F.Decimal text)
law_Decimal vars text place k d n ks ds ss sound deep i is = of_kind (ok_same Real k ks) (good_Decimal vars n text)

law_Str : (vars : List FlatVar) (text : List ℕ) → LawOf vars (ArrayNode-F.Str text)
law_Str vars text place k d n ks ds ss sound deep i is = of_kind (ok_same String k ks) (good_Str vars n text)

law_Truth : (vars : List FlatVar) (b : Bool) → LawOf vars (ArrayNode-F.Truth b)
law_Truth vars b place k d n ks ds ss sound deep i is = of_kind (ok_same Boolean k ks) (good_Truth vars n b)

law_Literal : (vars : List FlatVar) (class : ClassId) (v : ℕ) (name : List ℕ) → LawOf vars (ArrayNode-F.Literal class v name)
law_Literal vars class v name place k d n ks ds ss sound deep i is = of_kind (ok_same (Enumeration class) k ks) (good_Literal vars (Enumeration class) refl n name)

law_Time : (vars : List FlatVar) → LawOf vars ArrayNode-F.Time
law_Time vars place k d n ks ds ss sound deep i is = of_kind (ok_same Real k ks) (good_Time vars n)

law_Range : (vars : List FlatVar) (first step last : ℤ) → LawOf vars (ArrayNode-F.Range first step last)
law_Range vars first step last place k d n ks ds ss sound deep i is = of_kind (ok_same Integer k ks) (good_Whole vars Integer tt n _)

law_node : (vars : List FlatVar) (node : ArrayNode-F (Node vars) (Whole vars)) → LawOf vars node
law_node vars (ArrayNode-F.Whole v) = law_Whole vars v
law_node vars (ArrayNode-F.Decimal text) = law_Decimal vars text
law_node vars (ArrayNode-F.Str text) = law_Str vars text
law_node vars (ArrayNode-F.Truth b) = law_Truth vars b
law_node vars (ArrayNode-F.Literal class v name) = law_Literal vars class v name
law_node vars ArrayNode-F.Time = law_Time vars
law_node vars (ArrayNode-F.Vars numbers kind dims subs) = law_Vars vars numbers kind dims subs
law_node vars (ArrayNode-F.Sum ts) = law_Sum vars ts
law_node vars (ArrayNode-F.Product ts) = law_Product vars ts
law_node vars (ArrayNode-F.Power base dotted exponent) = law_Power vars base dotted exponent
law_node vars (ArrayNode-F.Relation op left right) = law_Relation vars op left right
law_node vars (ArrayNode-F.Not inner) = law_Not vars inner
law_node vars (ArrayNode-F.All ts) = law_All vars ts
law_node vars (ArrayNode-F.Any ts) = law_Any vars ts
law_node vars (ArrayNode-F.If bs other) = law_If vars bs other
law_node vars (ArrayNode-F.Call code args) = law_Call vars code args
law_node vars (ArrayNode-F.Der inner) = law_Der vars inner
law_node vars (ArrayNode-F.Array ts) = law_Array vars ts
law_node vars (ArrayNode-F.Range first step last) = law_Range vars first step last
law_node vars (ArrayNode-F.Size inner which) = law_Size vars inner which
law_node vars (ArrayNode-F.Sized code part sizes) = law_Sized vars code part sizes

-- an expression by its node
law_expression : (vars : List FlatVar) (e : ArrayExpr-F (Node vars) (Whole vars)) → Law vars (roll-ArrayExpr (map-ArrayExpr (Node vars) (Whole vars) ArrayNode ArrayExpr (λ t. t.0) (λ t. t.0) e))
unfolding Law NodeLaw
law_expression vars e n h i is =
    let layer : ArrayExpr-F ArrayNode ArrayExpr = map-ArrayExpr (Node vars) (Whole vars) ArrayNode ArrayExpr (λ t. t.0) (λ t. t.0) e in
    subst (λ (f : Element). IsGood vars (the_kind (roll-ArrayExpr layer)) n (f i)) (sym (para-roll-ArrayExpr Element Element element_node element_part layer))
    (e.node.1 e.place (the_kind (roll-ArrayExpr layer)) (shape_of (roll-ArrayExpr layer)) n
    (ap (λ (part : KindPart). part.kind) (sym (fold-roll-ArrayExpr KindAsked KindPart kind_node kind_part layer)) ∙ h.kind)
    (ap (λ (part : DimsPart). part.dims) (sym (fold-roll-ArrayExpr DimsAsked DimsPart dims_node dims_part layer)) ∙ h.dims)
    (sym (para-roll-ArrayExpr Checked Checked subscripts_node subscripts_part layer) ∙ h.subs)
    (sym (fold-roll-ArrayExpr Bool Bool (array_node (has_kind vars)) array_part layer) ∙ h.sound)
    (subst (λ x. x ≤ n) (fold-roll-ArrayExpr ℕ ℕ nesting_node nesting_part layer) h.deep)
    i is)

pub law : (vars : List FlatVar) (e : ArrayExpr) → Law vars e
unfolding Law NodeLaw
law vars = ind-ArrayExpr (NodeLaw vars) (Law vars)
    (λ x y is. subst (λ z. NodeLaw vars (roll-ArrayNode z)) is (rolled vars (map-ArrayNode (Node vars) (Whole vars) ArrayNode ArrayExpr (λ t. t.0) (λ t. t.0) y) (law_node vars y)))
    (λ x y is. subst (λ z. Law vars (roll-ArrayExpr z)) is (law_expression vars y))

-- each element of a sound expression that breaks no rule
pub element_good : (vars : List FlatVar) (e : ArrayExpr) (k : Kind) (d : Dims) → is_sound_array (has_kind vars) e ≡ true → kind_of e ≡ Ok k → dims_of e ≡ Ok d → subscripts_of e ≡ fine → (i : Index) → is_index d i ≡ true → IsGood vars k (nesting_of e) (element_of e i)
element_good vars e k d sound kind dims subs i is = part_gives vars (nesting_of e) (e, law vars e) k d kind dims subs sound (omega arith) i is
