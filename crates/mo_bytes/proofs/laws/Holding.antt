-- What all places have that something written holds: it holds of an expression or an equation just where it holds of all that these hold.
use Rattle.std.proofs.Common.{◌≡◌, ℕ, zero, suc, ◌<◌, length, arith, List, [], ◌∷◌, Contains, subst}
use Rattle.std.specs.Prelude.{slice_index_or}
use Rattle.std.proofs.lemmas.List.Elements.{Contains-append_left, Contains-append_right, Contains-push}
use Rattle.mo_syntax.specs.declared.class.FileTree.{FileTree}
use Rattle.mo_syntax.specs.declared.equation.EquationKind.{EquationKind}
use Rattle.mo_syntax.specs.declared.equation.EquationOf.{EquationOf}
use Rattle.mo_syntax.specs.declared.expr.Expr.{Expr}
use Rattle.mo_syntax.specs.declared.place.Place.{Place}
use Rattle.mo_places.specs.Written.{Written, At, Valued, Stated}
use Rattle.mo_places.specs.TreeWritten.{places_in_files}
use Rattle.mo_places.specs.Pieces.{in_equation, in_expression}
use Rattle.mo_places.specs.Stands.{Every}
use Rattle.mo_places.specs.InFiles.{IsWritten, in_class, within, among, Descends}
use Rattle.mo_bytes.specs.steps.Spelled.{Ascends}
use Rattle.mo_bytes.specs.Held.{itself, by_expression, by_equation, HoldsAll}

every_contained : {A : Type 0} (xs ys : List A) → ((x : A) → Contains xs x → Contains ys x) → Every (Contains ys) xs
every_contained [] ys f = tt
every_contained (x ∷ xs) ys f =
    (f x (Contains-append_left (x ∷ []) xs x (Contains-push [] x)), every_contained xs ys (λ y h. f y (Contains-append_right (x ∷ []) xs y h)))

every_given : {A : Type 0} (P Q : A → Type 0) (xs : List A) → ((x : A) → P x → Q x) → Every P xs → Every Q xs
every_given P Q [] f h = tt
every_given P Q (x ∷ xs) f h = (f x h.0, every_given P Q xs f h.1)

all_of : {A : Type 0} (xs : List A) → Every (Contains xs) xs
all_of xs = every_contained xs xs (λ x h. h)

among_at : {A : Type 0} (Q : A → Type 0) (xs : List A) (k : ℕ) (x : A) → Every Q xs → k < length xs → slice_index_or xs k x ≡ x → Q x
among_at Q [] k x h below is = absurd (omega (arith, below))
among_at Q (y ∷ ys) zero x h below is = subst Q is h.0
among_at Q (y ∷ ys) (suc k) x h below is = among_at Q ys k x h.1 (omega (arith, below)) is

every_among : {A : Type 0} (Q : A → Type 0) (xs : List A) (x : A) → Every Q xs → Contains xs x → Q x
every_among Q xs x h c = among_at Q xs c.0 x h c.1 c.2

module _ (Q : Place → Type 0) where
  pub at_holds : (p : Place) → Q p → HoldsAll Q (At p)
  at_holds p h place itself = h

  pub holds_at : (p : Place) → HoldsAll Q (At p) → Q p
  holds_at p h = h p itself

  expression_ascends : (e : Expr) → Every (HoldsAll Q) (in_expression e) → HoldsAll Q (Valued e)
  expression_ascends e h place (by_expression {w = w} c held) = every_among (HoldsAll Q) (in_expression e) w h c place held

  equation_ascends : (equation : EquationOf EquationKind) → Every (HoldsAll Q) (in_equation equation) → HoldsAll Q (Stated equation)
  equation_ascends equation h place (by_equation {w = w} c held) = every_among (HoldsAll Q) (in_equation equation) w h c place held

  pub holding_ascends : Ascends (HoldsAll Q)
  holding_ascends = record { expression = expression_ascends; equation = equation_ascends }

  pub holding_descends : Descends (HoldsAll Q)
  holding_descends = record {
    expression = λ e h. every_given (Contains (in_expression e)) (HoldsAll Q) (in_expression e) (λ w c place held. h place (by_expression c held)) (all_of (in_expression e));
    equation = λ equation h. every_given (Contains (in_equation equation)) (HoldsAll Q) (in_equation equation) (λ w c place held. h place (by_equation c held)) (all_of (in_equation equation));
  }

  -- what holds of all that the classes of files list holds of all that is written in the files
  pub written_holds : (files : List FileTree) → Every (HoldsAll Q) (places_in_files files) → {w : Written} → IsWritten files w → HoldsAll Q w
  written_holds files h (in_class w c) = every_among (HoldsAll Q) (places_in_files files) w h c
  written_holds files h (within e w inside c) = λ place held. written_holds files h inside place (by_expression c held)
  written_holds files h (among equation w inside c) = λ place held. written_holds files h inside place (by_equation c held)
