-- The equations of sound sides are sound.
use Rattle.std.proofs.Common.{◌≡◌, ◌<◌, ◌+◌, ℕ, zero, suc, true, false, ◌&&◌, List, [], ◌∷◌, map, Option, Some, None, refl, ap, ◌∙◌, subst, arith, if◌then◌else◌}
use Rattle.std.specs.Prelude.{Ok, IsSome, IsTrue, All}
use Rattle.mo_syntax.specs.Outcome.{and_then}
use Rattle.mo_syntax.specs.declared.place.Place.{Place}
use Rattle.mo_syntax.specs.declared.meaning.Kind.{Kind}
use Rattle.mo_flat.specs.declared.array.ArrayExpr.{ArrayExpr}
use Rattle.mo_flat.specs.declared.expr.FlatExpr.{FlatExpr}
use Rattle.mo_flat.specs.declared.model.FlatVar.{FlatVar}
use Rattle.mo_flat.specs.declared.model.FlatEquation.{FlatEquation}
use Rattle.mo_flat.specs.Sound.{FlatKind, is_numeric, kind_of as flat_kind_of, IsSoundNumber, IsSoundEquation}
use Rattle.mo_flat.specs.SoundArray.{IsSoundArrayIn, nesting_of}
use Rattle.mo_flat.proofs.Good.{Each, IsGood, IsNumber, number_widens}
use Rattle.mo_typing.specs.Kinds.{kind_of, is_number}
use Rattle.mo_typing.specs.Dims.{Dims, dims_of, matched}
use Rattle.mo_typing.specs.Subscripts.{fine, both, subscripts_of}
use Rattle.mo_typing.specs.Indices.{Index, is_index, indices}
use Rattle.mo_typing.proofs.Agreeing.{ok_same, after, under, past, matched_agrees}
use Rattle.mo_arrays.specs.Elements.{element_of}
use Rattle.mo_arrays.specs.Equations.{are_one, sides, kinds_of_sides, dims_of_sides, checked_sides, equation, equations_of}
use Rattle.mo_arrays.specs.Sound.{IsElement}
use Rattle.mo_arrays.proofs.SoundKinds.{is_number_kind}
use Rattle.mo_arrays.proofs.SoundDims.{and_two, indices_are}
use Rattle.mo_arrays.proofs.SoundNodes.{checked_both}
use Rattle.mo_arrays.proofs.SoundLaw.{element_good}

pub element_is : (vars : List FlatVar) (e : ArrayExpr) (k : Kind) (d : Dims) (i : Index) → IsSoundArrayIn vars e → kind_of e ≡ Ok k → dims_of e ≡ Ok d → subscripts_of e ≡ fine → IsTrue (is_index d i) → IsElement vars k (nesting_of e) (element_of e i)
element_is vars e k d i sound kind dims subs is =
    let g = element_good vars e k d sound kind dims subs i is in
    record { shaped = g.fine.shaped; kind_fits = g.fits; orders = g.fine.orders (nesting_of e + 1) 0 (omega arith) }

has_some : (o : Option FlatKind) → is_numeric o ≡ true → IsSome o
has_some None e = let f : false ≡ true = e in cc
has_some (Some kind) e = refl

sound_number : (vars : List FlatVar) (k : Kind) (n : ℕ) (u : FlatExpr) → IsNumber k → n < 65535 → IsGood vars k n u → IsSoundNumber 65535 vars u
sound_number vars k n u number small g =
    let numeric : is_numeric (flat_kind_of vars u) ≡ true = number_widens k number _ g.fits in
    record { sound = record { shaped = g.fine.shaped; kinds_agree = has_some _ numeric; orders = g.fine.orders 65535 0 (omega (arith, small)) }; numeric = numeric }

each_all : {A : Type 0} (P : A → Type 0) (xs : List A) → Each P xs → All P xs
each_all P [] e k d l = absurd (omega (arith, l))
each_all P (x ∷ xs) e zero d l = e.0
each_all P (x ∷ xs) e (suc k) d l = each_all P xs e.1 k d (omega (arith, l))

each_made : {A B : Type 0} (P : A → Type 0) (Q : B → Type 0) (f : A → B) → ((a : A) → P a → Q (f a)) → (xs : List A) → Each P xs → Each Q (map f xs)
each_made P Q f h [] e = tt
each_made P Q f h (x ∷ xs) e = (h x e.0, each_made P Q f h xs e.1)

pub equations_are : (vars : List FlatVar) (left right : ArrayExpr) (place : Place) (qs : List FlatEquation) → IsSoundArrayIn vars left → IsSoundArrayIn vars right → nesting_of left < 65535 → nesting_of right < 65535 → equations_of left right place ≡ Ok qs → All (IsSoundEquation vars) qs
equations_are vars left right place qs sl sr nl nr e =
    let made = after (checked_sides left right place) (λ dims. Ok (map (equation left right place) (indices dims))) qs e in
    let a = after (kinds_of_sides left right place) (λ _. and_then (dims_of_sides left right place) (λ dims. and_then (both (subscripts_of left) (subscripts_of right)) (λ _. Ok dims))) made.0 made.1 in
    let b = after (dims_of_sides left right place) (λ dims. and_then (both (subscripts_of left) (subscripts_of right)) (λ _. Ok dims)) made.0 a.2 in
    let c = after (both (subscripts_of left) (subscripts_of right)) (λ _. Ok b.0) made.0 b.2 in
    let end : map (equation left right place) (indices b.0) ≡ qs = ap (λ x. map (equation left right place) (indices x)) (ok_same b.0 made.0 c.2) ∙ ok_same _ qs made.2 in
    let k = after (kind_of left) (λ x. and_then (kind_of right) (sides place x)) a.0 a.1 in
    let m = after (kind_of right) (sides place k.0) a.0 k.2 in
    let apart = past (are_one k.0 m.0) (if is_number k.0 && is_number m.0 then fine else _) _ a.0 m.2 in
    let numbers = under (is_number k.0 && is_number m.0) fine _ a.0 apart.1 in
    let two = and_two (is_number k.0) (is_number m.0) numbers.0 in
    let p = after (dims_of left) (λ x. and_then (dims_of right) (matched place x)) b.0 b.1 in
    let q = after (dims_of right) (matched place p.0) b.0 p.2 in
    let same = matched_agrees place p.0 q.0 b.0 q.2 in
    let s = checked_both (subscripts_of left) (subscripts_of right) c.1 in
    subst (All (IsSoundEquation vars)) end (each_all (IsSoundEquation vars) (map (equation left right place) (indices b.0))
    (each_made (λ i. is_index b.0 i ≡ true) (IsSoundEquation vars) (equation left right place) (λ i is. record {
      left = sound_number vars k.0 (nesting_of left) _ (is_number_kind k.0 two.0) nl (element_good vars left k.0 b.0 sl k.1 (p.1 ∙ ap (λ (x : Dims). Ok x) same.0) s.0 i is);
      right = sound_number vars m.0 (nesting_of right) _ (is_number_kind m.0 two.1) nr (element_good vars right m.0 b.0 sr m.1 (q.1 ∙ ap (λ (x : Dims). Ok x) same.1) s.1 i is);
    }) (indices b.0) (indices_are b.0)))
