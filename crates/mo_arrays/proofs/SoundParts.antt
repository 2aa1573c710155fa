-- What is known of the operands of a node, where it is known of the node.
use Rattle.std.proofs.Common.{◌≡◌, ◌≤◌, ℕ, max, Bool, true, List, [], ◌∷◌, map, refl, ap, sym, ◌∙◌, subst, arith}
use Rattle.std.specs.Prelude.{Ok, Err}
use Rattle.std.specs.List.{list_all}
use Rattle.mo_syntax.specs.Outcome.{Outcome, and_then}
use Rattle.mo_syntax.specs.declared.meaning.Kind.{Kind}
use Rattle.mo_syntax.specs.declared.meaning.Kind.TheVariants.{Real}
use Rattle.mo_flat.specs.declared.array.ArrayExpr.{ArrayExpr}
use Rattle.mo_flat.specs.declared.expr.FlatExpr.{FlatExpr}
use Rattle.mo_flat.specs.declared.model.FlatVar.{FlatVar}
use Rattle.mo_flat.specs.SoundArray.{has_kind, is_sound_array, nesting_of, greatest_by}
use Rattle.mo_flat.proofs.Good.{Each, IsGood, Widens, widened}
use Rattle.mo_typing.specs.Outcome.{each}
use Rattle.mo_typing.specs.Kinds.{kind_of}
use Rattle.mo_typing.specs.Dims.{Dims, dims_of}
use Rattle.mo_typing.specs.Shape.{shape_of}
use Rattle.mo_typing.specs.Subscripts.{Checked, fine, every, subscripts_of}
use Rattle.mo_typing.specs.Indices.{Index, is_index}
use Rattle.mo_typing.proofs.Agreeing.{ok_same, after}
use Rattle.mo_typing.proofs.ShapeLaw.{dims_agree}
use Rattle.mo_arrays.specs.Elements.{element_of, at}
use Rattle.mo_arrays.specs.steps.Parts.{part_of}
use Rattle.mo_arrays.proofs.SoundDims.{Suits, Beside, suits_beside, and_two}

abbrev pub kind_or : Outcome Kind → Kind
kind_or (Ok k) = k
kind_or (Err b) = Real

abbrev pub the_kind : ArrayExpr → Kind
the_kind e = kind_or (kind_of e)

-- each element is of the kind of the expression
abbrev pub Gives : List FlatVar → ℕ → ArrayExpr → Type 0
Gives vars n e = (i : Index) → is_index (shape_of e) i ≡ true → IsGood vars (the_kind e) n (element_of e i)

-- a sound expression that breaks no rule
pub record Holds (vars : List FlatVar) (n : ℕ) (e : ArrayExpr) : Type 0 where
  pub kind : kind_of e ≡ Ok (the_kind e)
  pub dims : dims_of e ≡ Ok (shape_of e)
  pub subs : subscripts_of e ≡ fine
  pub sound : is_sound_array (has_kind vars) e ≡ true
  pub deep : nesting_of e ≤ n

unfoldable pub Law : List FlatVar → ArrayExpr → Type 0
Law vars e = (n : ℕ) → Holds vars n e → Gives vars n e

abbrev pub Whole : List FlatVar → Type 0
Whole vars = (e : ArrayExpr) × Law vars e

pub given : (vars : List FlatVar) (n : ℕ) (w : Whole vars) → Holds vars n w.0 → Gives vars n w.0
unfolding Law
given vars n w h = w.1 n h

pub kind_is : (e : ArrayExpr) (k : Kind) → kind_of e ≡ Ok k → the_kind e ≡ k
kind_is e k is = ap kind_or is

pub kind_told : (e : ArrayExpr) (k : Kind) → kind_of e ≡ Ok k → kind_of e ≡ Ok (the_kind e)
kind_told e k is = is ∙ ap (λ (x : Kind). Ok x) (sym (kind_is e k is))

pub dims_told : (e : ArrayExpr) (d : Dims) → dims_of e ≡ Ok d → dims_of e ≡ Ok (shape_of e)
dims_told e d is = is ∙ ap (λ (x : Dims). Ok x) (sym (dims_agree e d is))

pub of_kind : {vars : List FlatVar} {k l : Kind} {n : ℕ} {e : FlatExpr} → k ≡ l → IsGood vars k n e → IsGood vars l n e
of_kind {vars} {k} {l} {n} {e} is g = subst (λ x. IsGood vars x n e) is g

pub of_nesting : {vars : List FlatVar} {k : Kind} {n m : ℕ} {e : FlatExpr} → n ≡ m → IsGood vars k n e → IsGood vars k m e
of_nesting {vars} {k} {n} {m} {e} is g = subst (λ x. IsGood vars k x e) is g

-- ---- one operand

pub part_gives : (vars : List FlatVar) (n : ℕ) (w : Whole vars) (k : Kind) (d : Dims) → kind_of w.0 ≡ Ok k → dims_of w.0 ≡ Ok d → subscripts_of w.0 ≡ fine → is_sound_array (has_kind vars) w.0 ≡ true → nesting_of w.0 ≤ n →
    (i : Index) → is_index d i ≡ true → IsGood vars k n (element_of w.0 i)
part_gives vars n w k d kind dims subs sound deep i e =
    subst (λ x. IsGood vars x n (element_of w.0 i)) (kind_is w.0 k kind)
    (given vars n w (record { kind = kind_told w.0 k kind; dims = dims_told w.0 d dims; subs = subs; sound = sound; deep = deep }) i (subst (λ x. is_index x i ≡ true) (sym (dims_agree w.0 d dims)) e))

pub part_at : (vars : List FlatVar) (n : ℕ) (w : Whole vars) (k : Kind) (d : Dims) → kind_of w.0 ≡ Ok k → dims_of w.0 ≡ Ok d → subscripts_of w.0 ≡ fine → is_sound_array (has_kind vars) w.0 ≡ true → nesting_of w.0 ≤ n →
    (i : Index) → Suits d i → IsGood vars k n (at (part_of w.0) i)
part_at vars n w k d kind dims subs sound deep i s =
    subst (λ x. IsGood vars x n (at (part_of w.0) i)) (kind_is w.0 k kind)
    (given vars n w (record { kind = kind_told w.0 k kind; dims = dims_told w.0 d dims; subs = subs; sound = sound; deep = deep }) _ (subst (λ x. Suits x i) (sym (dims_agree w.0 d dims)) s))

-- ---- lists of operands

pub values_by : {X Y Z B : Type 0} (f : Z → Outcome B) (g : Y → Z) (h : X → Y) (k : X → B) → ((x : X) (b : B) → f (g (h x)) ≡ Ok b → k x ≡ b) → (xs : List X) (bs : List B) → each f (map g (map h xs)) ≡ Ok bs →
    Each (λ x. f (g (h x)) ≡ Ok (k x)) xs × (map k xs ≡ bs)
values_by f g h k same [] bs e = (tt, ok_same [] bs e)
values_by f g h k same (x ∷ xs) bs e =
    let one = after (f (g (h x))) (λ v. and_then (each f (map g (map h xs))) (λ vs. Ok (v ∷ vs))) bs e in
    let more = after (each f (map g (map h xs))) (λ vs. Ok (one.0 ∷ vs)) bs one.2 in
    let rest = values_by f g h k same xs more.0 more.1 in
    let is = same x one.0 one.1 in
    ((one.1 ∙ ap (λ v. Ok v) (sym is), rest.0), ap (λ v. v ∷ map k xs) is ∙ (ap (λ vs. one.0 ∷ vs) rest.1 ∙ ok_same (one.0 ∷ more.0) bs more.2))

pub each_through : {X Y B : Type 0} (f : Y → Outcome B) (g : X → Y) (xs : List X) → each f (map g xs) ≡ each (λ x. f (g x)) xs
each_through f g [] = refl
each_through f g (x ∷ xs) = ap (λ o. and_then (f (g x)) (λ v. and_then o (λ vs. Ok (v ∷ vs)))) (each_through f g xs)

unit_same : (c : Checked) (u : Unit {0}) → c ≡ Ok u → c ≡ fine
unit_same c u e = e

pub subs_each : {X Y Z : Type 0} (f : Z → Checked) (g : Y → Z) (h : X → Y) (xs : List X) → every f (map g (map h xs)) ≡ fine → Each (λ x. f (g (h x)) ≡ fine) xs
subs_each f g h [] e = tt
subs_each f g h (x ∷ xs) e =
    let a = after (each (λ c. c) (map f (map g (map h (x ∷ xs))))) (λ _. fine) (tt {0}) e in
    let b = after (f (g (h x))) (λ v. and_then (each (λ c. c) (map f (map g (map h xs)))) (λ vs. Ok (v ∷ vs))) a.0 a.1 in
    let c = after (each (λ c. c) (map f (map g (map h xs)))) (λ vs. Ok (b.0 ∷ vs)) a.0 b.2 in
    (unit_same (f (g (h x))) b.0 b.1, subs_each f g h xs (ap (λ (o : Outcome (List (Unit {0}))). and_then o (λ _. fine)) c.1))

pub sound_each : {X Y Z : Type 0} (f : Z → Bool) (g : Y → Z) (h : X → Y) (xs : List X) → list_all f (map g (map h xs)) ≡ true → Each (λ x. f (g (h x)) ≡ true) xs
sound_each f g h [] e = tt
sound_each f g h (x ∷ xs) e = let two = and_two (f (g (h x))) (list_all f (map g (map h xs))) e in (two.0, sound_each f g h xs two.1)

pub deep_both : (a b n : ℕ) → max a b ≤ n → (a ≤ n) × (b ≤ n)
deep_both a b n l = (omega (arith, l), omega (arith, l))

pub deep_each : {X Y Z : Type 0} (f : Z → ℕ) (g : Y → Z) (h : X → Y) (n : ℕ) (xs : List X) → greatest_by f (map g (map h xs)) ≤ n → Each (λ x. f (g (h x)) ≤ n) xs
deep_each f g h n [] l = tt
deep_each f g h n (x ∷ xs) l = let two = deep_both (f (g (h x))) (greatest_by f (map g (map h xs))) n l in (two.0, deep_each f g h n xs two.1)

pub give_each : {X : Type 0} (vars : List FlatVar) (n : ℕ) (w : X → Whole vars) (xs : List X) → Each (λ x. kind_of (w x).0 ≡ Ok (the_kind (w x).0)) xs → Each (λ x. dims_of (w x).0 ≡ Ok (shape_of (w x).0)) xs →
    Each (λ x. subscripts_of (w x).0 ≡ fine) xs → Each (λ x. is_sound_array (has_kind vars) (w x).0 ≡ true) xs → Each (λ x. nesting_of (w x).0 ≤ n) xs → Each (λ x. Gives vars n (w x).0) xs
give_each vars n w [] k d s t l = tt
give_each vars n w (x ∷ xs) k d s t l = (given vars n (w x) (record { kind = k.0; dims = d.0; subs = s.0; sound = t.0; deep = l.0 }), give_each vars n w xs k.1 d.1 s.1 t.1 l.1)

pub at_given : (vars : List FlatVar) (n : ℕ) (k : Kind) (d : Dims) (i : Index) (e : ArrayExpr) → Suits d i → Gives vars n e → Widens (the_kind e) k → Beside d (shape_of e) → IsGood vars k n (at (part_of e) i)
at_given vars n k d i e s g w b = widened vars (the_kind e) k n (at (part_of e) i) w (g _ (suits_beside d (shape_of e) i b s))
